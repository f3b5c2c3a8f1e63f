-- The entries of a faultless tender: no more than an award can weigh, their prices within the limit, their words with room; laid out, they
-- are a market. Assumes nothing.
use Rattle.std.specs.Prelude.{◌≡◌, List, ℕ, ◌+◌, ◌*◌, ◌/◌, ◌≤◌, length, get_or, take, replicate, Some, None}
use Rattle.std.proofs.Common.{subst, sym, ap, ◌∙◌, arith, length-take-le, leb-true, mul-le-mul}
use Rattle.std.proofs.Math.Option.{none}
use Rattle.std.proofs.lemmas.List.{length-replicate}
use Rattle.std.proofs.Math.ListN.{get_or-eq_default}
use Rattle.tender.specs.declared.Kind.{Kind}
use Rattle.tender.specs.declared.Kind.TheVariants.{Single, Multi}
use Rattle.tender.specs.Types.{Reserve}
use Rattle.tender.specs.declared.Tender.{Tender}
use Rattle.tender.specs.Limits.{max_entries}
use Rattle.tender.specs.Tables.{bid_width}
use Rattle.multi_market.specs.Market.{Priced}
use Rattle.multi_market.specs.Market.{Market}
use Rattle.award_thin.specs.Thin.{Asked}
use Rattle.award_check.specs.Faults.{fault_of}
use Rattle.award_fault.specs.declared.Faultless.{Faultless}
use Rattle.award_check.specs.Cells.{cells_of}
use Rattle.award_check.specs.Auction.{houses, auction_of}
use Rattle.award_check.proofs.AuctionLaws.{entries, price_named, house_price}
use Rattle.award_check.proofs.AuctionLaws.{EntryAt, owner, house, past, entry_at}
use Rattle.award_layout.specs.LayoutLaws.{orderly, reserve_within}
use Rattle.award_laid.specs.Lay.{LaidSpans, LaidMasks}
use Rattle.award_laid.specs.LayLaws.{Words, words_of}

one_house : (r : Reserve) → houses r ≤ 1
one_house None = omega arith
one_house (Some p) = omega arith

-- a faultless tender has no more entries than an award can weigh
pub entries_few : (k : Kind) (t : Tender) (n : ℕ) (bids windows : List ℕ) → fault_of k t n bids windows ≡ none
    → n + houses t.reserve ≤ max_entries
entries_few k t n bids windows f = omega (arith, (orderly k t n bids windows f).few, one_house t.reserve)

product : (a b m n : ℕ) → a ≤ m → b ≤ n → a * b ≤ m * n
product a b m n h l = mul-le-mul h l

-- the words of all entries of a tender with c cells have room
pub words_room : (t : Tender) (n m c : ℕ) (bids windows : List ℕ) → fault_of Multi t n bids windows ≡ none
    → m ≡ n + houses t.reserve → c ≡ cells_of t → (c + 63) / 64 * m ≤ 158 * max_entries
words_room t n m c bids windows f g e = product ((c + 63) / 64) m 158 max_entries
    (words_of Multi t n ((c + 63) / 64) bids windows f (ap (λ (v : ℕ). (v + 63) / 64) e)).words
    (omega (arith, entries_few Multi t n bids windows f))

-- the prices of a faultless tender's entries are within the limit
pub prices_lawful : (k : Kind) (t : Tender) (n : ℕ) (bids windows : List ℕ) → fault_of k t n bids windows ≡ none
    → Priced (auction_of t n bids windows).prices
prices_lawful k t n bids windows f =
    record { count = omega (arith, entries_few k t n bids windows f, entries t n bids windows); most = λ i. go i (entry_at t n i) }
  where
    go : (i : ℕ) → EntryAt t n i → get_or (auction_of t n bids windows).prices i 0 ≤ 100000000
    go i (owner l) = omega (
      arith,
      price_named t n bids windows i l,
      leb-true (get_or bids (bid_width * i + 1) 0) 100000000 ((orderly k t n bids windows f).kept i l).price,
    )
    go i (house p e q) = rw q (omega (arith, house_price t n bids windows p e, reserve_within k t n bids windows f p e))
    go i (past l) = omega (
      arith,
      get_or-eq_default (auction_of t n bids windows).prices 0 {n = i}
          (omega (arith, entries t n bids windows)),
    )

-- of a single tender laid out
pub laid_prices : (t : Tender) (n : ℕ) (bids windows ps starts ends order : List ℕ) (thin : Asked)
    → fault_of Single t n bids windows ≡ none
    → LaidSpans t n bids windows ps starts ends order thin → Priced ps
laid_prices t n bids windows ps starts ends order thin f l = rw l.prices_are (prices_lawful Single t n bids windows f)

-- of a multi tender laid out
pub market : (t : Tender) (n w : ℕ) (bids windows ps ms : List ℕ) (thin : Asked) → fault_of Multi t n bids windows ≡ none
    → LaidMasks t n w bids windows ps ms thin → Words t w → length ms ≡ w * (n + houses t.reserve) → Market ps ms w
market t n w bids windows ps ms thin f l d size = record {
  priced = rw l.prices_are (prices_lawful Multi t n bids windows f);
  size = rw l.prices_are (size ∙ ap (λ (k : ℕ). w * k) (sym (entries t n bids windows)));
  words = d.words;
}

-- the first places of a local array, which is filled with ones
pub prefix_length : (k n : ℕ) → k ≤ n → length (take k (replicate {A = ℕ} n 1)) ≡ k
prefix_length k n l = length-take-le k (replicate n 1) (omega (arith, length-replicate {A = ℕ} n 1))

-- tables without a fault have none by the award of their kind
pub of_kind : {k : Kind} (f : Faultless) → f.tender.kind ≡ k
    → fault_of k f.tender f.count f.bids.now f.windows.now ≡ none
of_kind f e = subst (λ k. fault_of k f.tender f.count f.bids.now f.windows.now ≡ none) e f.faultless
