-- An award on what was read pays less than 10 ^ 20 cents a bid, and a loser nothing; each bidder has one row. Assumes nothing.
use Rattle.std.specs.Prelude.{◌≡◌, refl, Bool, true, false, cond, ◌||◌, List, [], ◌∷◌, ◌++◌, ℕ, zero, suc, ◌+◌}
use Rattle.std.specs.Prelude.{◌*◌, ◌^◌, ◌≤◌, ◌<◌, length, get_or, set, eqb}
use Rattle.std.specs.Prelude.{Some, None}
use Rattle.std.proofs.Common.{sym, ap, ◌∙◌, mul-le-mul, arith, eq-eqb}
use Rattle.tender.specs.declared.Kind.{Kind}
use Rattle.tender.specs.declared.Window.{Window}
use Rattle.tender.specs.Types.{Reserve}
use Rattle.tender.specs.declared.Tender.{Tender}
use Rattle.tender.specs.Tables.{Row, flat_rows, flat_windows, bid_width}
use Rattle.cover.specs.Sets.{when, found, value_of, bit, cells, cost}
use Rattle.cover.specs.LeastCover.{winners, without, payment, vcg_paid}
use Rattle.cover.specs.Greedy.{wins}
use Rattle.cover.specs.CriticalPrice.{largest, sum, ceiling, wins_at, critical, critical_paid}
use Rattle.cover.proofs.Intervals.BidsLaws.{cost_most, sum_most}
use Rattle.reader_parts.specs.Words.{among}
use Rattle.reader_text.specs.Rules.{RowsRules, Rules}
use Rattle.award_check.specs.Cells.{no_row}
use Rattle.award_check.specs.Auction.{houses, Auction, auction_of}
use Rattle.award_check.proofs.AuctionLaws.{minutes, entries, price_named, house_price, EntryAt, owner, house, past, entry_at}
use Rattle.award_rule.specs.Award.{Rule, least_cost, greedy, covers_in, cents}

-- payments

largest_below : (ok : ℕ → Bool) (n : ℕ) → value_of (largest ok n) ≤ n
unfolding largest value_of
largest_below ok zero = omega arith
largest_below ok (suc n) = go (ok n) (largest_below ok n)
  where
    go : (t : Bool) → value_of (largest ok n) ≤ n → value_of (cond t (found n) (largest ok n)) ≤ suc n
    go true l = omega arith
    go false l = omega arith

sum_set : (ps : List ℕ) (k : ℕ) → sum (set ps k 0) ≤ sum ps
unfolding sum
sum_set [] k = omega arith
sum_set (p ∷ ps) zero = omega arith
sum_set (p ∷ ps) (suc k) = omega (arith, sum_set ps k)

cells_count : (L : ℕ) → length (cells L) ≡ L
unfolding cells
cells_count zero = refl
cells_count (suc L) = omega (arith, cells_count L)

paid_most : (t : Bool) (least all price : ℕ) → payment t least all price ≤ least
unfolding payment
paid_most true least all price = omega arith
paid_most false least all price = omega arith

when_most : (t : Bool) (n : ℕ) → when t n ≤ n
when_most true n = omega arith
when_most false n = omega arith

pub cents_small : (r : Rule) (A : Auction) (i : ℕ) → sum A.prices ≤ 100100000000 → A.cells ≤ 10080 → cents r A i < 10 ^ 20
unfolding cents vcg_paid critical_paid critical ceiling
cents_small least_cost A i s l =
    let ps = A.prices in
    let ok = covers_in A in
    omega (
      arith,
      paid_most (bit (winners ok ps) i) (cost ps (winners (without i ok) ps)) (cost ps (winners ok ps)) (get_or ps i 0),
      cost_most ps (winners (without i ok) ps),
    )
cents_small greedy A i s l =
    let ps = A.prices in
    let cs = cells A.cells in
    omega (
      arith,
      when_most (wins A.has ps cs i) (value_of (largest (wins_at A.has ps cs i) (suc (sum (set ps i 0) * length cs)))),
      largest_below (wins_at A.has ps cs i) (suc (sum (set ps i 0) * length cs)),
      most,
    )
  where
    few : sum (set A.prices i 0) ≤ 100100000000
    few = omega (arith, sum_set A.prices i)

    short : length (cells A.cells) ≤ 10080
    short = omega (arith, cells_count A.cells)

    most : sum (set A.prices i 0) * length (cells A.cells) ≤ 100100000000 * 10080
    most = mul-le-mul few short

-- what was read

prices_low : (k : Kind) (used : List ℕ) (at : ℕ) (R : List Row) (end : ℕ) → RowsRules k used at R end → (i : ℕ)
    → (get_or R i no_row).price ≤ 100000000
unfolding no_row
prices_low k used at [] end h i = omega arith
prices_low k used at (r ∷ R) end (h, hs) zero = h.price_high
prices_low k used at (r ∷ R) end (h, hs) (suc i) = prices_low k (used ++ r.bidder ∷ []) (at + r.count) R end hs i

bidders_low : (k : Kind) (used : List ℕ) (at : ℕ) (R : List Row) (end : ℕ) → RowsRules k used at R end → (i : ℕ)
    → (get_or R i no_row).bidder ≤ 999999
unfolding no_row
bidders_low k used at [] end h i = omega arith
bidders_low k used at (r ∷ R) end (h, hs) zero = h.bidder_high
bidders_low k used at (r ∷ R) end (h, hs) (suc i) = bidders_low k (used ++ r.bidder ∷ []) (at + r.count) R end hs i

still_among : (used : List ℕ) (b c : ℕ) → among b used ≡ true → among b (used ++ c ∷ []) ≡ true
unfolding among
still_among [] b c v = let z : ◌≡◌ {A = ℕ} 0 1 = cc in absurd (omega arith)
still_among (m ∷ ms) b c v = go (eqb m b) v (still_among ms b c)
  where
    go : (t : Bool) → t || among b ms ≡ true → (among b ms ≡ true → among b (ms ++ c ∷ []) ≡ true)
        → t || among b (ms ++ c ∷ []) ≡ true
    go true v f = refl
    go false v f = f v

-- a bidder used before has no later row
fresh : (k : Kind) (used : List ℕ) (at : ℕ) (R : List Row) (end b : ℕ) → RowsRules k used at R end → among b used ≡ true
    → (i : ℕ)
    → i < length R → (get_or R i no_row).bidder ≡ b → ⊥
fresh k used at [] end b h u i l e = omega arith
fresh k used at (r ∷ R) end b (h, hs) u zero l e = let n = h.bidder_new in let z : true ≡ false = sym u
    ∙ ap (λ c. among c used) (sym e)
    ∙ n in
    let z : ◌≡◌ {A = ℕ} 0 1 = cc in omega arith
fresh k used at (r ∷ R) end b (h, hs) u (suc i) l e =
    fresh k (used ++ r.bidder ∷ []) (at + r.count) R end b hs (still_among used b r.bidder u) i (omega arith) e

last_among : (used : List ℕ) (b : ℕ) → among b (used ++ b ∷ []) ≡ true
unfolding among
last_among [] b = rw (eq-eqb b b refl)
last_among (m ∷ ms) b = go (eqb m b) (last_among ms b)
  where
    go : (t : Bool) → among b (ms ++ b ∷ []) ≡ true → t || among b (ms ++ b ∷ []) ≡ true
    go true e = refl
    go false e = e

one_row : (k : Kind) (used : List ℕ) (at : ℕ) (R : List Row) (end : ℕ) → RowsRules k used at R end → (i j : ℕ) → i < length R
    → j < length R → (j ≡ i → ⊥) → (get_or R j no_row).bidder ≡ (get_or R i no_row).bidder → ⊥
one_row k used at [] end h i j l m d e = omega arith
one_row k used at (r ∷ R) end (h, hs) zero zero l m d e = d refl
one_row k used at (r ∷ R) end (h, hs) zero (suc j) l m d e =
    fresh k (used ++ r.bidder ∷ []) (at + r.count) R end r.bidder hs (last_among used r.bidder) j (omega arith) e
one_row k used at (r ∷ R) end (h, hs) (suc i) zero l m d e =
    fresh k (used ++ r.bidder ∷ []) (at + r.count) R end r.bidder hs (last_among used r.bidder) i (omega arith) (sym e)
one_row k used at (r ∷ R) end (h, hs) (suc i) (suc j) l m d e =
    one_row k (used ++ r.bidder ∷ []) (at + r.count) R end hs i j (omega arith) (omega arith) (λ q. d (ap suc q)) e

price_cell : (R : List Row) (i : ℕ) → i < length R → get_or (flat_rows R) (bid_width * i + 1) 0 ≡ (get_or R i no_row).price
unfolding flat_rows
price_cell [] i l = absurd (omega arith)
price_cell (r ∷ R) zero l = refl
price_cell (r ∷ R) (suc i) l = ap (λ k. get_or (r.bidder ∷ r.price ∷ r.first ∷ r.count ∷ flat_rows R) k 0) (index i)
    ∙ price_cell R i (omega arith)
  where
    index : (i : ℕ) → bid_width * suc i + 1 ≡ suc (suc (suc (suc (bid_width * i + 1))))
    index i = omega arith

module _ (T : Tender) (R : List Row) (W : List Window) (rules : Rules T R W) where
  pub bidder_once : (i j : ℕ) → i < length R → j < length R → (j ≡ i → ⊥)
      → (get_or R j no_row).bidder ≡ (get_or R i no_row).bidder → ⊥
  bidder_once = one_row T.kind [] 0 R (length W) rules.rows

  pub bidder_low : (i : ℕ) → (get_or R i no_row).bidder < 1000000000
  bidder_low i = omega (arith, bidders_low T.kind [] 0 R (length W) rules.rows i)

  pub bidder_small : (i : ℕ) → (get_or R i no_row).bidder < 10 ^ 20
  bidder_small i = omega (arith, bidder_low i)

  price_low : (i : ℕ) → i < length (auction_of T (length R) (flat_rows R) (flat_windows W)).prices
      → get_or (auction_of T (length R) (flat_rows R) (flat_windows W)).prices i 0 ≤ 100000000
  price_low i l = go (entry_at T (length R) i)
    where
      go : EntryAt T (length R) i → get_or (auction_of T (length R) (flat_rows R) (flat_windows W)).prices i 0 ≤ 100000000
      go (owner m) = omega (
        arith,
        price_named T (length R) (flat_rows R) (flat_windows W) i m,
        price_cell R i m,
        prices_low T.kind [] 0 R (length W) rules.rows i,
      )
      go (house p e q) = rw q (omega (arith, house_price T (length R) (flat_rows R) (flat_windows W) p e, rules.tender.reserve p e))
      go (past m) = absurd (omega (arith, entries T (length R) (flat_rows R) (flat_windows W)))

  one_house : (r : Reserve) → houses r ≤ 1
  one_house None = omega arith
  one_house (Some p) = omega arith

  pub prices_sum : sum (auction_of T (length R) (flat_rows R) (flat_windows W)).prices ≤ 100100000000
  prices_sum =
      let n = entries T (length R) (flat_rows R) (flat_windows W) in
      omega (
        arith,
        sum_most (auction_of T (length R) (flat_rows R) (flat_windows W)).prices price_low,
        rules.few_bids,
        one_house T.reserve,
      )

  pub minutes_few : (auction_of T (length R) (flat_rows R) (flat_windows W)).cells ≤ 10080
  minutes_few = omega (arith, minutes T (length R) (flat_rows R) (flat_windows W), rules.tender.window.in_week)
