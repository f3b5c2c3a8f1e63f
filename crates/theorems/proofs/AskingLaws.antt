-- Who asks for the highest price gets one answer; beside the award it is a winner's payment, or one cent less, and below a loser's price.
-- Assumes nothing.
use Rattle.std.specs.Prelude.{◌≡◌, refl, Bool, true, false, ◌&&◌, List, ℕ, ◌+◌, ◌*◌, ◌≤◌, ◌<◌, length, get_or}
use Rattle.std.specs.Prelude.{leb, ltb, eqb}
use Rattle.std.specs.Prelude.{Some, None, Ok}
use Rattle.std.proofs.Common.{sym, ◌∙◌, inl, inr, arith, length-set, le-leb, le-ltb, eqb-true}
use Rattle.std.proofs.Math.Path.{ap, fun_ext}
use Rattle.std.proofs.Math.Bool.{cond}
use Rattle.std.proofs.Math.Option.{none}
use Rattle.std.proofs.lemmas.Bool.{eqb-false}
use Rattle.tender.specs.declared.Kind.{Kind}
use Rattle.tender.specs.declared.Tender.{Tender}
use Rattle.tender.specs.declared.AwardRow.{AwardRow}
use Rattle.tender.specs.declared.Totals.{Totals}
use Rattle.tender.specs.Tables.{own, bid_width}
use Rattle.cover.specs.Sets.{Found, nothing, found, value_of}
use Rattle.cover.specs.Earliest.{cell_with}
use Rattle.cover.specs.Spare.{Spare}
use Rattle.reader_text.specs.Read.{read_text}
use Rattle.spelling.proofs.DeliveredLaws.{delivered_is}
use Rattle.award_check.specs.Faults.{fault_of}
use Rattle.award_check.specs.Cells.{cells_of, minute_of, holds}
use Rattle.award_check.specs.Auction.{Auction, auction_of, at_price, reserved, thin_cell}
use Rattle.award_check.proofs.AuctionLaws.{entries, owners_are, cells_are, price_named, has_cell, offering, auction_withheld, has_others}
use Rattle.award_check.specs.Alike.{Alike, Withheld}
use Rattle.award_check.proofs.AlikeLaws.{row_named, faultless, own_row, alike_withheld}
use Rattle.award_layout.specs.LayoutLaws.{cells_within}
use Rattle.award_rule.specs.Award.{least_cost, greedy, rule, won, cents, awarded, totals_of, thinned, award_of}
use Rattle.award_rule.proofs.AwardLaws.{AwardOn, award_awarded, award_settles, no_fault, spared}
use Rattle.award_outcome.specs.Gain.{row_for}
use Rattle.award_outcome.proofs.SettleLaws.{row_in, row_filled}
use Rattle.award_outcome.proofs.TableLaws.{row_is}
use Rattle.highest_rule.specs.Highest.{highest, price_for, highest_of}
use Rattle.highest_rule.proofs.HighestLaws.{wins_up_to, wins_never, winner_found, greedy_winner, least_winner, loser_below}
use Rattle.highest_rule.proofs.RowLaws.{row_inside, row_none, row_found}
use Rattle.highest_rule.proofs.AnswerLaws.{Answered, declined, unknown, priced, answered, row_asked, price_found, price_none}
use Rattle.highest_text.specs.Told.{highest_in}
use Rattle.highest_text.specs.ToldLaws.{told_short}
use Rattle.theorems_calls.specs.Calls.{AwardCall, told_by, HighestCall, HighestLineCall, shown}
use Rattle.theorems.specs.Between.{price_at}
use Rattle.theorems.specs.Asking.{auction_asked, award_asked, IsAwarded, RowAsked, wins_naming, Beside, PaidOrLess, BelowNamed}
use Rattle.theorems.specs.Asking.{Renamed}
use Rattle.theorems.specs.Asking.{OneHighest, as_the_award, no_such_bidder, up_to_price, with_no_price}

-- where the tender is awarded, whatever the award rows lent
module _ (t : Tender) (n : ℕ) (bids windows : List ℕ) (lent : ℕ) (rows : List AwardRow) (totals : Totals)
    (w : AwardOn t.kind t n bids windows lent rows totals) (i : ℕ) (l : i < n) where
  abbrev A : Auction
  A = auction_of t n bids windows

  entry : i < length A.prices
  entry = omega (arith, entries t n bids windows)

  spare : Spare A.has (length A.prices) A.cells i
  spare = spared t.kind t n bids windows lent rows totals w i l

  some_cell : 0 < A.cells
  some_cell = omega (arith, cells_are t n bids windows, (cells_within t.kind t n bids windows w.sound).0)

  -- the answer for the bid of row i
  answer_is : (bidder : ℕ) → get_or bids (bid_width * i) 0 ≡ bidder
      → highest_of t n bids windows bidder ≡ price_for (highest (rule t.kind) A i)
  answer_is bidder e = row_asked t n bids windows bidder w.sound w.settles.none_bare w.settles.none_lone i
      (row_found t.kind t n bids windows w.sound i bidder l e)

-- one answer

pub one_highest : (h : HighestCall) → OneHighest h
one_highest h = go (answered t n h.bids h.windows h.bidder h.answer h.promise)
  where
    t : Tender
    t = h.tender

    n : ℕ
    n = h.count

    told : (rows : List AwardRow) (totals : Totals) → AwardOn t.kind t n h.bids h.windows n rows totals
        → award_asked h ≡ awarded rows totals → IsAwarded h
    told rows totals w e = record { rows = rows; totals = totals; is = e }

    price : (rows : List AwardRow) (totals : Totals) (w : AwardOn t.kind t n h.bids h.windows n rows totals) → IsAwarded h
        → (i : ℕ) → RowAsked h i → (f : Found) → highest (rule t.kind) (auction_asked h) i ≡ f
        → h.answer ≡ price_for f → OneHighest h
    price rows totals w m i r (found p) d e = up_to_price m i p r
        (wins_up_to (auction_asked h) i (entry t n h.bids h.windows n rows totals w i r.inside)
        (spare t n h.bids h.windows n rows totals w i r.inside)
        (some_cell t n h.bids h.windows n rows totals w i r.inside)
        (rule t.kind) p d)
        (e ∙ price_found (found p) p refl)
    price rows totals w m i r nothing d e = with_no_price m i r
        (wins_never (auction_asked h) i (entry t n h.bids h.windows n rows totals w i r.inside)
        (spare t n h.bids h.windows n rows totals w i r.inside)
        (some_cell t n h.bids h.windows n rows totals w i r.inside)
        (rule t.kind) d)
        (e ∙ price_none nothing refl)

    go : Answered t n h.bids h.windows h.bidder h.answer → OneHighest h
    go (declined r d e) = as_the_award r d e
    go (unknown rows totals w m d e) = no_such_bidder (told rows totals w m)
        (λ i r. row_none h.bids n h.bidder d i r.inside r.number) e
    go (priced rows totals w m i d e) =
        let z = row_inside h.bids n h.bidder i d in
        price rows totals w (told rows totals w m) i (record { inside = z.0; number = z.1 })
        (highest (rule t.kind) (auction_asked h) i) refl e

same_award : {k k' : Kind} {t t' : Tender} {n n' : ℕ} {bids bids' windows windows' : List ℕ} → k ≡ k' → t ≡ t'
    → n ≡ n'
    → bids ≡ bids' → windows ≡ windows' → (lent : ℕ)
    → award_of k t n bids windows lent ≡ award_of k' t' n' bids' windows' lent
same_award d e f g h lent = rw (d, e, f, g, h)

same_fault : {k k' : Kind} {t t' : Tender} {n n' : ℕ} → k ≡ k' → t ≡ t' → n ≡ n' → (bids windows : List ℕ)
    → fault_of k t n bids windows ≡ fault_of k' t' n' bids windows
same_fault d e f bids windows = rw (d, e, f)

-- beside an award on the same tables
module _ (h : HighestCall) (c : AwardCall) (i : ℕ) (rows : List AwardRow) (totals : Totals) (b : Beside h c i rows totals) where
  abbrev t : Tender
  t = h.tender

  on : AwardOn t.kind t h.count h.bids h.windows (length c.rows_before) rows totals
  on = award_awarded t.kind t h.count h.bids h.windows (length c.rows_before) rows totals
      (sym b.told ∙ c.promise.answers ∙ same_award b.tables.kinds b.tables.tenders b.tables.counts
      b.tables.bids_too
      b.tables.windows_too (length c.rows_before))

  answered_price : h.answer ≡ price_for (highest (rule t.kind) (auction_asked h) i)
  answered_price = h.promise ∙ answer_is t h.count h.bids h.windows (length c.rows_before) rows totals on i b.row.inside
      h.bidder b.row.number

  row : row_for (awarded rows totals) i ≡ row_in (rule t.kind) (auction_asked h) i
  row = row_is t.kind t h.count h.bids h.windows (length c.rows_before) rows totals on i b.row.inside

  inside : i < length (auction_asked h).prices
  inside = entry t h.count h.bids h.windows (length c.rows_before) rows totals on i b.row.inside

  spare_here : Spare (auction_asked h).has (length (auction_asked h).prices) (auction_asked h).cells i
  spare_here = spare t h.count h.bids h.windows (length c.rows_before) rows totals on i b.row.inside

  cell_here : 0 < (auction_asked h).cells
  cell_here = some_cell t h.count h.bids h.windows (length c.rows_before) rows totals on i b.row.inside

  -- by the greedy rule a winner's is its payment
  pub greedy_payment : rule t.kind ≡ greedy → (row_for (awarded rows totals) i).won ≡ true
      → h.answer ≡ Ok (Some (row_for (awarded rows totals) i).cents)
  greedy_payment e f = answered_price ∙ ap (λ r. price_for (highest r (auction_asked h) i)) e
      ∙ price_found (highest greedy (auction_asked h) i) (cents greedy (auction_asked h) i)
      (greedy_winner (auction_asked h) i inside spare_here cell_here
      (sym (ap (λ r. won r (auction_asked h) i) e) ∙ sym (ap (λ x. x.won) row) ∙ f))
      ∙ ap (λ (n : ℕ). Ok (Some n)) (sym (ap (λ x. x.cents) row ∙ ap (λ r. cents r (auction_asked h) i) e))

  -- by least cost its payment, or one cent less
  pub least_payment : rule t.kind ≡ least_cost → (row_for (awarded rows totals) i).won ≡ true
      → PaidOrLess h i (row_for (awarded rows totals) i).cents
  least_payment e f = record {
    price = p;
    is = answered_price ∙ ap (λ r. price_for (highest r (auction_asked h) i)) e
        ∙ price_found (highest least_cost (auction_asked h) i) p is_found;
    tied = rw (ap (λ x. x.cents) row ∙ ap (λ r. cents r (auction_asked h) i) e, e)
        (least_winner (auction_asked h) i inside spare_here cell_here wins p is_found);
  }
    where
      wins : won least_cost (auction_asked h) i ≡ true
      wins = sym (ap (λ r. won r (auction_asked h) i) e) ∙ sym (ap (λ x. x.won) row) ∙ f

      p : ℕ
      p = value_of (highest least_cost (auction_asked h) i)

      is_found : highest least_cost (auction_asked h) i ≡ found p
      is_found = winner_found (auction_asked h) i inside spare_here cell_here least_cost wins

  -- a loser's is below the price that it named
  pub loser_price : (row_for (awarded rows totals) i).won ≡ false → BelowNamed h c i
  loser_price f = go (highest (rule t.kind) (auction_asked h) i) refl
    where
      go : (x : Found) → highest (rule t.kind) (auction_asked h) i ≡ x → BelowNamed h c i
      go nothing d = inl (answered_price ∙ price_none (highest (rule t.kind) (auction_asked h) i) d)
      go (found p) d = inr (
        p,
        (
          answered_price ∙ price_found (highest (rule t.kind) (auction_asked h) i) p d,
          rw (b.tables.bids_too, ← price_named t h.count h.bids h.windows i b.row.inside)
              (loser_below (auction_asked h) i inside spare_here cell_here (rule t.kind) (sym (ap (λ x. x.won) row) ∙ f) p d),
        ),
      )

-- an award in which the bid names another price
module _ (t : Tender) (n i : ℕ) (bids windows bids' windows' : List ℕ) (l : i < n) (f : fault_of t.kind t n bids windows ≡ none)
    (a : Alike n i bids windows bids' windows') where
  abbrev q : ℕ
  q = get_or bids' (bid_width * i + 1) 0

  withheld : Withheld n i bids windows bids' windows'
  withheld = alike_withheld t n i bids windows bids' windows' l (faultless t.kind t n bids windows f).rows a

  has_same : (x : ℕ) → (auction_of t n bids' windows').has i x ≡ (auction_of t n bids windows).has i x
  has_same x = has_cell t n bids' windows' i x l
      ∙ ap (λ ws. ltb x (cells_of t) && holds ws (minute_of t x))
      (ap (own windows') (row_named n i bids' l)
      ∙ own_row t n i bids windows bids' windows' l (faultless t.kind t n bids windows f).rows a i l
      ∙ sym (ap (own windows) (row_named n i bids l)))
      ∙ sym (has_cell t n bids windows i x l)

  all_same : (auction_of t n bids' windows').has ≡ (auction_of t n bids windows).has
  all_same = fun_ext (λ j. go j (eqb j i) refl)
    where
      go : (j : ℕ) (b : Bool) → eqb j i ≡ b → (auction_of t n bids' windows').has j ≡ (auction_of t n bids windows).has j
      go j true e = rw (eqb-true j i e) (fun_ext has_same)
      go j false e = has_others t n i bids windows bids' windows' l withheld j (eqb-false j i e)

  auction_renamed : auction_of t n bids' windows' ≡ at_price i q (auction_of t n bids windows)
  unfolding at_price
  auction_renamed = auction_withheld t n i bids windows bids' windows' l withheld
      ∙ ap (λ h. offering i q h (auction_of t n bids windows)) all_same

  thin_same : (m : ℕ) → thin_cell (auction_of t n bids' windows') m ≡ thin_cell (auction_of t n bids windows) m
  unfolding thin_cell reserved at_price
  thin_same m = ap (λ B. thin_cell B m) auction_renamed
      ∙ ap (λ (k : ℕ). cond (ltb (auction_of t n bids windows).owners k) nothing
      (cell_with (auction_of t n bids windows).has (auction_of t n bids windows).owners (auction_of t n bids windows).cells m))
      (length-set (auction_of t n bids windows).prices i q)

  -- the award is made, and its row says whether the bid wins with that price
  renamed_row : fault_of t.kind t n bids' windows' ≡ none → thin_cell (auction_of t n bids windows) 0 ≡ nothing
      → thin_cell (auction_of t n bids windows) 1 ≡ nothing → (lent : ℕ) → n ≤ lent
      → (row_for (award_of t.kind t n bids' windows' lent) i).won ≡ won (rule t.kind)
      (at_price i q (auction_of t n bids windows)) i
  unfolding thinned
  renamed_row f' d e lent m =
      ap (λ o. (row_for o i).won) (award_settles t.kind t n bids' windows' lent f' (le-ltb lent n m) nothing nothing
      (thin_same 0 ∙ d)
      (thin_same 1 ∙ e))
      ∙ ap (λ x. x.won) (row_filled (rule t.kind) (auction_of t n bids' windows') i
      (totals_of (rule t.kind) (auction_of t n bids' windows'))
      (rw (owners_are t n bids' windows') l))
      ∙ ap (λ B. won (rule t.kind) B i) auction_renamed

-- the row that is asked for is one
module _ (h : HighestCall) (c : AwardCall) (i : ℕ) (r : RowAsked h i) (d : Renamed h c i) where
  fault_there : fault_of h.tender.kind h.tender h.count c.bids c.windows ≡ none
  fault_there = sym (same_fault d.kinds d.tenders d.counts c.bids c.windows)
      ∙ no_fault c.kind c.tender c.count c.bids c.windows (length c.rows_before) (told_by c) c.promise.answers
      d.lawful

  won_there : IsAwarded h → (row_for (told_by c) i).won ≡ wins_naming h i (price_at c i)
  won_there m =
      let w = award_awarded h.tender.kind h.tender h.count h.bids h.windows h.count m.rows m.totals
      (sym m.is) in
      ap (λ o. (row_for o i).won) (c.promise.answers
      ∙ same_award d.kinds d.tenders d.counts refl refl (length c.rows_before))
      ∙ renamed_row h.tender h.count i h.bids h.windows c.bids c.windows r.inside w.sound d.alike fault_there
      w.settles.none_bare w.settles.none_lone (length c.rows_before) (omega (arith, d.room, d.counts))

  one_row : (j : ℕ) → RowAsked h j → IsAwarded h → j ≡ i
  one_row j s m =
      let w = award_awarded h.tender.kind h.tender h.count h.bids h.windows h.count m.rows m.totals
      (sym m.is) in
      found_same (sym (row_found h.tender.kind h.tender h.count h.bids h.windows w.sound j h.bidder s.inside
      s.number)
      ∙ row_found h.tender.kind h.tender h.count h.bids h.windows w.sound i h.bidder r.inside r.number)
    where
      found_same : {a b : ℕ} → found a ≡ found b → a ≡ b
      found_same e = cc

  pub renamed_wins : (p : ℕ) → h.answer ≡ Ok (Some p) → (row_for (told_by c) i).won ≡ leb (price_at c i) p
  renamed_wins p e = go (one_highest h)
    where
      go : OneHighest h → (row_for (told_by c) i).won ≡ leb (price_at c i) p
      go (as_the_award q x y) = let s = sym y ∙ e in let z : ◌≡◌ {A = ℕ} 0 1 = cc in absurd (omega arith)
      go (no_such_bidder m x y) = let s = sym y ∙ e in let z : ◌≡◌ {A = ℕ} 0 1 = cc in absurd (omega arith)
      go (up_to_price m j v s x y) = let u = sym y ∙ e in let z : v ≡ p = cc in
          won_there m ∙ ap (λ (k : ℕ). wins_naming h k (price_at c i)) (sym (one_row j s m)) ∙ x (price_at c i)
          ∙ ap (leb (price_at c i)) z
      go (with_no_price m j s x y) = let u = sym y ∙ e in let z : ◌≡◌ {A = ℕ} 0 1 = cc in absurd (omega arith)

  pub renamed_loses : h.answer ≡ Ok None → (row_for (told_by c) i).won ≡ false
  renamed_loses e = go (one_highest h)
    where
      go : OneHighest h → (row_for (told_by c) i).won ≡ false
      go (as_the_award q x y) = let s = sym y ∙ e in let z : ◌≡◌ {A = ℕ} 0 1 = cc in absurd (omega arith)
      go (no_such_bidder m x y) = let s = sym y ∙ e in let z : ◌≡◌ {A = ℕ} 0 1 = cc in absurd (omega arith)
      go (up_to_price m j v s x y) = let u = sym y ∙ e in let z : ◌≡◌ {A = ℕ} 0 1 = cc in absurd (omega arith)
      go (with_no_price m j s x y) = won_there m ∙ ap (λ (k : ℕ). wins_naming h k (price_at c i)) (sym (one_row j s m))
          ∙ x (price_at c i)

-- the line of a text

pub line_fits : (b : ℕ) (l : HighestLineCall b) → 52 ≤ length l.buffer → 0 < l.answer
line_fits b l m = let s = told_short l.text b in
    rw (l.promise.delivers.answer, le-leb (length (highest_in (read_text l.text) b)) (length l.buffer) (omega (arith, s))) s.1

pub line_shown : (b : ℕ) (l : HighestLineCall b) → 0 < l.answer → shown l ≡ highest_in (read_text l.text) b
line_shown b l a = delivered_is l.promise.delivers a
