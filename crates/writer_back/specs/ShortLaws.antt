-- Bids with their windows joined are written with no more bytes, and no text is empty. Assumes nothing.
use Rattle.std.specs.Prelude.{◌≡◌, refl, true, List, [], ◌∷◌, ◌++◌, map, ℕ, ◌+◌, ◌≤◌, ◌<◌, length}
use Rattle.std.proofs.Common.{arith, length-append}
use Rattle.tender.specs.declared.Window.{Window}
use Rattle.tender.specs.declared.Tender.{Tender}
use Rattle.tender.specs.Keywords.{bytes}
use Rattle.tender.specs.Limits.{lawful, every}
use Rattle.tender.specs.Tables.{Row, own}
use Rattle.spelling.specs.Decimal.{decimal}
use Rattle.spelling.specs.Text.{window_text, windows_text, bid_text, bids_text, tender_text, reserve_text, head_text, text_of, bid_in}
use Rattle.spelling.proofs.SpeltShortLaws.{bid_bytes}
use Rattle.runs.specs.Runs.{joined}
use Rattle.runs.proofs.RunsFewLaws.{starts_sum, ends_sum, joined_starts, joined_ends}
use Rattle.writer_line.specs.Respelt.{respelt}
use Rattle.writer_text.specs.Canonical.{respelt_in, canonical}
use Rattle.writer_back.specs.BidLaws.{AllLawful}

-- the bytes of windows, by starts and ends
windows_bytes : (ws : List Window)
    → length (windows_text ws) ≡ starts_sum (λ s. length (decimal s) + 4) ws + ends_sum (λ e. length (decimal e)) ws
unfolding windows_text window_text bytes starts_sum ends_sum
windows_bytes [] = refl
windows_bytes (w ∷ ws) = omega (
  arith,
  windows_bytes ws,
  length-append (window_text w) (windows_text ws),
  length-append (decimal w.start) (32 ∷ (decimal w.end ++ 41 ∷ [])),
  length-append (decimal w.end) (41 ∷ []),
)

pub joined_short : (ws : List Window) → every lawful ws ≡ true → length (windows_text (joined ws)) ≤ length (windows_text ws)
joined_short ws e = omega (
  arith,
  windows_bytes (joined ws),
  windows_bytes ws,
  joined_starts (λ s. length (decimal s) + 4) ws,
  joined_ends (λ z. length (decimal z)) ws e,
)

bid_short : (windows : List ℕ) (r : Row) → every lawful (own windows r) ≡ true
    → length (bid_text (respelt (bid_in windows r))) ≤ length (bid_text (bid_in windows r))
unfolding bid_text respelt bid_in
bid_short windows r e = omega (
  arith,
  bid_bytes (decimal r.price) (respelt (bid_in windows r)),
  bid_bytes (decimal r.price) (bid_in windows r),
  joined_short (own windows r) e,
)

bids_short : (windows : List ℕ) (rows : List Row) → AllLawful windows rows
    → length (bids_text (respelt_in windows rows)) ≤ length (bids_text (map (bid_in windows) rows))
unfolding bids_text respelt_in
bids_short windows [] h = omega arith
bids_short windows (r ∷ rs) h = omega (
  arith,
  bid_short windows r h.0,
  bids_short windows rs h.1,
  length-append (bid_text (respelt (bid_in windows r))) (bids_text (respelt_in windows rs)),
  length-append (bid_text (bid_in windows r)) (bids_text (map (bid_in windows) rs)),
)

-- the text in one spelling is no longer than the text of the rows as they are
pub canonical_short : (t : Tender) (rows : List Row) (windows : List ℕ) → AllLawful windows rows
    → length (canonical t rows windows) ≤ length (text_of t (map (bid_in windows) rows))
unfolding canonical text_of
canonical_short t rows windows h = omega (
  arith,
  bids_short windows rows h,
  length-append (head_text t) (bids_text (respelt_in windows rows)),
  length-append (head_text t) (bids_text (map (bid_in windows) rows)),
)

-- no text is empty
head_some : (t : Tender) → 0 < length (head_text t)
unfolding head_text tender_text bytes
head_some t = omega (arith, length-append (tender_text t) (reserve_text t.reserve))

pub canonical_some : (t : Tender) (rows : List Row) (windows : List ℕ) → 0 < length (canonical t rows windows)
unfolding canonical text_of
canonical_some t rows windows =
    omega (arith, length-append (head_text t) (bids_text (respelt_in windows rows)), head_some t)
