-- The rows that a text fills have the bids of its lines, whatever stands past them. Assumes nothing.
use Rattle.std.specs.Prelude.{◌≡◌, refl, List, [], ◌∷◌, ◌++◌, map, ℕ, zero, suc, ◌+◌, ◌*◌, ◌<◌, length}
use Rattle.std.specs.Prelude.{get_or, drop}
use Rattle.std.proofs.Common.{sym, ap, ◌∙◌, arith, drop-drop}
use Rattle.tender.specs.declared.Window.{Window}
use Rattle.tender.specs.Tables.{Row, windows_of, own, flat_windows, window_width}
use Rattle.reader_forms.specs.Line.{BidLine}
use Rattle.reader_text.specs.Read.{rows_from, all_windows}
use Rattle.spelling.specs.Text.{bid_in}
use Rattle.award_check.specs.Cells.{no_row}
use Rattle.writer_line.specs.Respelt.{respelt}
use Rattle.writer_text.specs.Canonical.{respelt_in}

windows_flat : (ws us : List Window) (v : List ℕ) → windows_of (length ws) (flat_windows (ws ++ us) ++ v) ≡ ws
unfolding windows_of flat_windows
windows_flat [] us v = refl
windows_flat (w ∷ ws) us v = ap (λ l. w ∷ l) (windows_flat ws us v)

drop_flat : (ws us : List Window) (v : List ℕ) → drop (window_width * length ws) (flat_windows (ws ++ us) ++ v) ≡ flat_windows us ++ v
unfolding flat_windows
drop_flat [] us v = refl
drop_flat (w ∷ ws) us v =
    let e : window_width * suc (length ws) ≡ suc (suc (window_width * length ws)) = omega arith in
    ap (λ (m : ℕ). drop m (w.start ∷ w.end ∷ (flat_windows (ws ++ us) ++ v))) e ∙ drop_flat ws us v

-- the cells after some windows
cells_next : (at : ℕ) (cells v : List ℕ) (ws us : List Window) → drop (window_width * at) cells ≡ flat_windows (ws ++ us) ++ v
    → drop (window_width * (at + length ws)) cells ≡ flat_windows us ++ v
cells_next at cells v ws us e =
    let d : window_width * (at + length ws) ≡ window_width * at + window_width * length ws = omega arith in
    ap (λ (m : ℕ). drop m cells) d
    ∙ sym (drop-drop (window_width * length ws) (window_width * at) cells) ∙ ap (drop (window_width * length ws)) e
    ∙ drop_flat ws us v

-- what stands past the last bid
unfoldable pub no_bid : BidLine
no_bid = record { bidder = 0; price = 0; windows = [] }

-- bid i of the tables that some bids fill
pub bid_filled : (at : ℕ) (cells v : List ℕ) (bs : List BidLine) (i : ℕ)
    → drop (window_width * at) cells ≡ flat_windows (all_windows bs) ++ v
    → bid_in cells (get_or (rows_from at bs) i no_row) ≡ get_or bs i no_bid
unfolding bid_in own rows_from all_windows no_row no_bid windows_of
bid_filled at cells v [] i e = refl
bid_filled at cells v (b ∷ bs) zero e = ap {B = BidLine} (λ ws. record { bidder = b.bidder; price = b.price; windows = ws })
    (ap (windows_of (length b.windows)) e ∙ windows_flat b.windows (all_windows bs) v)
bid_filled at cells v (b ∷ bs) (suc i) e =
    bid_filled (at + length b.windows) cells v bs i (cells_next at cells v b.windows (all_windows bs) e)

-- all of them
pub bids_filled : (at : ℕ) (cells v : List ℕ) (bs : List BidLine)
    → drop (window_width * at) cells ≡ flat_windows (all_windows bs) ++ v
    → map (bid_in cells) (rows_from at bs) ≡ bs
unfolding bid_in own rows_from all_windows
bids_filled at cells v [] e = refl
bids_filled at cells v (b ∷ bs) e =
    ap {B = List BidLine} (λ ws. record { bidder = b.bidder; price = b.price; windows = ws }
    ∷ map (bid_in cells) (rows_from (at + length b.windows) bs))
    (ap (windows_of (length b.windows)) e ∙ windows_flat b.windows (all_windows bs) v)
    ∙ ap (λ l. b ∷ l) (bids_filled (at + length b.windows) cells v bs (cells_next at cells v b.windows (all_windows bs) e))

-- the bids that are respelt are as many as the rows, and stand in their order

pub respelt_length : (windows : List ℕ) (rows : List Row) → length (respelt_in windows rows) ≡ length rows
unfolding respelt_in
respelt_length windows [] = refl
respelt_length windows (r ∷ rs) = ap suc (respelt_length windows rs)

pub respelt_at : (windows : List ℕ) (rows : List Row) (i : ℕ) → i < length rows
    → get_or (respelt_in windows rows) i no_bid ≡ respelt (bid_in windows (get_or rows i no_row))
unfolding respelt_in
respelt_at windows [] i l = absurd (omega arith)
respelt_at windows (r ∷ rs) zero l = refl
respelt_at windows (r ∷ rs) (suc i) l = respelt_at windows rs i (omega arith)
