-- Prices, starts and ends, or words laid out of faultless tables are those of the auction. Assumes nothing.
use Rattle.std.specs.Prelude.{◌≡◌, refl, List, ◌++◌, Bool, true, false, ℕ, ◌+◌, ◌-◌, ◌*◌, ◌/◌, ◌≤◌}
use Rattle.std.specs.Prelude.{◌<◌, length, get_or, set, take, drop, ltb, eqb}
use Rattle.std.specs.Prelude.{Some, None, Ok, Err}
use Rattle.std.proofs.Common.{sym, ap, ◌∙◌, append-nil, mul-le-mul_left, mul-add, mul-one, arith, take-append-drop, drop_of_length-le}
use Rattle.std.proofs.Common.{length-append, length-drop, length-set, get_or-set_same, get_or-set_other, length-take-le, take_all, drop_at}
use Rattle.std.proofs.Common.{ltb-true, ltb-false}
use Rattle.std.proofs.Math.Option.{none}
use Rattle.std.proofs.Math.ListN.{get_or-append}
use Rattle.std.proofs.lemmas.List.{take-append-le, drop-append-le}
use borrow.Rule.Slice.PartMut.{mid_of, put_mid}
use Rattle.tender.specs.declared.Kind.{Kind}
use Rattle.tender.specs.declared.Kind.TheVariants.{Single}
use Rattle.tender.specs.declared.Tender.{Tender}
use Rattle.tender.specs.Limits.{max_entries}
use Rattle.cells.specs.Cells.{cell}
use Rattle.cover.specs.Settled.{spans}
use Rattle.cover.specs.Intervals.{Order}
use Rattle.multi_market.specs.Market.{word_row, has, First}
use Rattle.multi_market.proofs.WordRowLaws.{row_within}
use Rattle.award_thin.specs.declared.Thin.TheVariants.{Nobody, Alone}
use Rattle.award_thin.specs.Thin.{Asked, Says, Spans}
use Rattle.award_check.specs.Faults.{fault_of}
use Rattle.award_check.specs.Cells.{cells_of, bid_row_at}
use Rattle.award_check.specs.Auction.{houses, auction_of}
use Rattle.award_check.proofs.AuctionLaws.{thin_told, none_thin}
use Rattle.award_check.proofs.AlikeLaws.{own_kind}
use Rattle.award_layout.specs.Orderly.{Orderly, PricesLaid, SpansLaid, AllMasked}
use Rattle.award_layout.specs.LayoutLaws.{orderly, cells_within, prices_laid, spans_have, spans_ordered, spans_inside, masks_have}
use Rattle.award_laid.specs.Lay.{Tells, LaidSpans, LaidMasks}

-- the words that a tender's cells need
pub record Words (t : Tender) (w : ℕ) : Type 0 where
  pub words : w ≤ 158
  pub fits : cells_of t ≤ 64 * w

pub words_of : (k : Kind) (t : Tender) (n w : ℕ) (bids windows : List ℕ) → fault_of k t n bids windows ≡ none
    → w ≡ (cells_of t + 63) / 64
    → Words t w
words_of k t n w bids windows f e = record {
  words = omega (arith, cells_within k t n bids windows f);
  fits = omega arith;
}

-- without a reserve what is found of the bids' cells is told, with one nothing is
module _ (t : Tender) (n : ℕ) (bids windows : List ℕ) where
  tells : t.reserve ≡ None → (thin : Asked) → Says (auction_of t n bids windows).has n (cells_of t) thin
      → Tells (auction_of t n bids windows) thin
  tells e (Err (Nobody x)) s = thin_told t n bids windows e 0 ∙ s
  tells e (Err (Alone x)) s = (thin_told t n bids windows e 0 ∙ s.0, thin_told t n bids windows e 1 ∙ s.1)
  tells e (Ok u) s = (thin_told t n bids windows e 0 ∙ s.0, thin_told t n bids windows e 1 ∙ s.1)

  tells_none : (p : ℕ) → t.reserve ≡ Some p → Tells (auction_of t n bids windows) (Ok tt)
  tells_none p e = (none_thin t n bids windows p e 0, none_thin t n bids windows p e 1)

-- a price put past the first n
after : (n v : ℕ) (xs : List ℕ) (i : ℕ) → i < n → get_or (set xs n v) i 0 ≡ get_or xs i 0
after n v xs i l = get_or-set_other xs n i v 0 (λ z. omega arith)

module _ (t : Tender) (n : ℕ) (bids windows ps : List ℕ) (a : length ps ≡ n + houses t.reserve)
    (p : (i : ℕ) → i < n → get_or ps i 0 ≡ (bid_row_at bids i).price) where
  prices_owners : t.reserve ≡ None → ps ≡ (auction_of t n bids windows).prices
  prices_owners e = prices_laid t n bids windows ps a p
      (λ q f. let z : ◌≡◌ {A = ℕ} 0 1 = ap houses (sym e ∙ f) in absurd (omega arith))

  prices_house : (q : ℕ) → t.reserve ≡ Some q → set ps n q ≡ (auction_of t n bids windows).prices
  prices_house q e = prices_laid t n bids windows (set ps n q) (length-set ps n q ∙ a) (λ i l. after n q ps i l ∙ p i l)
      (λ r f. get_or-set_same ps n q 0 (omega (arith, a, ap houses e)) ∙ price (sym e ∙ f))
    where
      price : {q r : ℕ} → Some q ≡ Some r → q ≡ r
      price e = cc

-- lists whose first n places are written

pub front_count : (n h : ℕ) (xs : List ℕ) → length xs ≡ n + h → length (take n xs) ≡ n
front_count n h xs e = length-take-le n xs (omega arith)

written_count : (n h : ℕ) (xs ys : List ℕ) → length xs ≡ n + h → length ys ≡ n → length (ys ++ drop n xs) ≡ n + h
written_count n h xs ys e d = length-append ys (drop n xs) ∙ omega (arith, length-drop n xs)

written_at : (n : ℕ) (xs ys : List ℕ) → length ys ≡ n → (i : ℕ) → i < n → get_or (ys ++ drop n xs) i 0 ≡ get_or ys i 0
written_at n xs ys e i l = get_or-append ys (drop n xs) 0 i (omega arith)

-- the bids of a single tender are laid out
pub record SpansReady (t : Tender) (n : ℕ) (bids windows ps starts ends : List ℕ) : Type 0 where
  pub sound : fault_of Single t n bids windows ≡ none
  pub price_count : length ps ≡ n + houses t.reserve
  pub start_count : length starts ≡ n + houses t.reserve
  pub end_count : length ends ≡ n + houses t.reserve
  pub priced : (i : ℕ) → i < n → get_or ps i 0 ≡ (bid_row_at bids i).price
  pub laid : SpansLaid n t bids windows starts ends

pub spans_ready : (t : Tender) (n : ℕ) (bids windows ps starts ends qs ss es : List ℕ) → fault_of Single t n bids windows ≡ none
    → length ps ≡ n + houses t.reserve → length starts ≡ n + houses t.reserve → length ends ≡ n + houses t.reserve
    → length ss ≡ n → length es ≡ n → PricesLaid n bids qs → SpansLaid n t bids windows ss es
    → SpansReady t n bids windows (qs ++ drop n ps) (ss ++ drop n starts) (es ++ drop n ends)
spans_ready t n bids windows ps starts ends qs ss es f a b c u v p l = record {
  sound = f;
  price_count = written_count n (houses t.reserve) ps qs a p.count;
  start_count = written_count n (houses t.reserve) starts ss b u;
  end_count = written_count n (houses t.reserve) ends es c v;
  priced = λ i m. written_at n ps qs p.count i m ∙ p.prices_are i m;
  laid = record {
    starts_are = λ i m. written_at n starts ss u i m ∙ l.starts_are i m;
    ends_are = λ i m. written_at n ends es v i m ∙ l.ends_are i m;
  };
}

module _ (t : Tender) (n : ℕ) (bids windows ps starts ends : List ℕ) (r : SpansReady t n bids windows ps starts ends) where
  o : Orderly t n bids windows
  o = orderly Single t n bids windows r.sound

  kind_is : t.kind ≡ Single
  kind_is = own_kind Single t n bids windows r.sound

  module _ (e : t.reserve ≡ None) where
    no_house : (q : ℕ) → t.reserve ≡ Some q → (get_or starts n 0 ≡ 0) × (get_or ends n 0 ≡ cells_of t)
    no_house q g = let z : ◌≡◌ {A = ℕ} 0 1 = ap houses (sym e ∙ g) in absurd (omega arith)

    pub spans_owners : Spans starts ends (cells_of t)
    spans_owners = record {
      same = r.end_count ∙ sym r.start_count;
      few = omega (arith, o.few, r.start_count, ap houses e);
      ordered = spans_ordered t n bids windows starts ends o kind_is r.start_count r.end_count r.laid no_house;
      inside = spans_inside t n bids windows starts ends o kind_is r.start_count r.end_count r.laid no_house;
    }

    pub lays_owners : (order : List ℕ) (thin : Asked) → Says (spans starts ends) (length starts) (cells_of t) thin
        → Order (length starts) (λ i. get_or starts i 0) (λ q. get_or order q 0)
        → LaidSpans t n bids windows ps starts ends order thin
    lays_owners order thin s sorted =
        let m : length starts ≡ n = omega (arith, r.start_count, ap houses e) in
        let h = spans_have t n bids windows starts ends o kind_is r.start_count r.end_count r.laid no_house in
        record {
          prices_are = prices_owners t n bids windows ps r.price_count r.priced e;
          has_is = h;
          ordered = spans_owners.ordered;
          inside = spans_owners.inside;
          in_order = rw (r.start_count ∙ sym r.price_count) at sorted;
          thin_is = tells t n bids windows e thin (rw (h, m) at s);
        }

  -- the house after the bids
  module _ (q : ℕ) (e : t.reserve ≡ Some q) where
    pub house_count : length (set starts n 0) ≡ n + houses t.reserve
    house_count = length-set starts n 0 ∙ r.start_count

    house_ends : length (set ends n (cells_of t)) ≡ n + houses t.reserve
    house_ends = length-set ends n (cells_of t) ∙ r.end_count

    house_laid : SpansLaid n t bids windows (set starts n 0) (set ends n (cells_of t))
    house_laid = record {
      starts_are = λ i m. after n 0 starts i m ∙ r.laid.starts_are i m;
      ends_are = λ i m. after n (cells_of t) ends i m ∙ r.laid.ends_are i m;
    }

    house_has : (p : ℕ) → t.reserve ≡ Some p → (get_or (set starts n 0) n 0 ≡ 0)
        × (get_or (set ends n (cells_of t)) n 0 ≡ cells_of t)
    house_has p g = (
      get_or-set_same starts n 0 0 (omega (arith, r.start_count, ap houses e)),
      get_or-set_same ends n (cells_of t) 0 (omega (arith, r.end_count, ap houses e)),
    )

    house_ordered : (i : ℕ) → get_or (set starts n 0) i 0 ≤ get_or (set ends n (cells_of t)) i 0
    house_ordered = spans_ordered t n bids windows (set starts n 0) (set ends n (cells_of t)) o kind_is house_count house_ends
        house_laid house_has

    house_inside : (i : ℕ) → get_or (set ends n (cells_of t)) i 0 ≤ cells_of t
    house_inside = spans_inside t n bids windows (set starts n 0) (set ends n (cells_of t)) o kind_is house_count house_ends
        house_laid house_has

    pub house_starts : (i : ℕ) → get_or (set starts n 0) i 0 ≤ cells_of t
    house_starts i = omega (arith, house_ordered i, house_inside i)

    pub house_few : length (set starts n 0) ≤ max_entries
    house_few = omega (arith, house_count, o.few, ap houses e)

    pub lays_house : (order : List ℕ) → Order (length (set starts n 0)) (λ i. get_or (set starts n 0) i 0) (λ q. get_or order q 0)
        → LaidSpans t n bids windows (set ps n q) (set starts n 0) (set ends n (cells_of t)) order (Ok tt)
    lays_house order sorted = record {
      prices_are = prices_house t n bids windows ps r.price_count r.priced q e;
      has_is = spans_have t n bids windows (set starts n 0) (set ends n (cells_of t)) o kind_is house_count house_ends house_laid house_has;
      ordered = house_ordered;
      inside = house_inside;
      in_order = rw (house_count ∙ sym r.price_count ∙ sym (length-set ps n q)) at sorted;
      thin_is = tells_none t n bids windows q e;
    }

-- the bids of a multi tender are laid out
pub record MasksReady (t : Tender) (n w : ℕ) (bids windows ps ms : List ℕ) : Type 0 where
  pub price_count : length ps ≡ n + houses t.reserve
  pub word_count : length ms ≡ w * (n + houses t.reserve)
  pub priced : (i : ℕ) → i < n → get_or ps i 0 ≡ (bid_row_at bids i).price
  pub masked : AllMasked n t w bids windows ms

-- rows of words before others

rows_more : (w n h : ℕ) → w * n ≤ w * (n + h)
rows_more w n h = mul-le-mul_left w (omega arith)

row_before : (w n i : ℕ) (xs ys : List ℕ) → length xs ≡ w * n → i < n → word_row (xs ++ ys) w i ≡ word_row xs w i
unfolding word_row
row_before w n i xs ys e l = ap (take w) (drop-append-le (w * i) xs ys (omega (arith, row_within w n i l)))
    ∙ take-append-le w (drop (w * i) xs) ys (omega (arith, row_within w n i l, length-drop (w * i) xs))

row_last : (w n : ℕ) (xs ys : List ℕ) → length xs ≡ w * n → length ys ≡ w → word_row (xs ++ ys) w n ≡ ys
unfolding word_row
row_last w n xs ys e d = ap (take w) (drop_at xs ys (w * n) e) ∙ take_all w ys (omega arith)

pub word_front : (w n h : ℕ) (ms : List ℕ) → length ms ≡ w * (n + h) → length (take (w * n) ms) ≡ w * n
word_front w n h ms e = length-take-le (w * n) ms (omega (arith, rows_more w n h))

row_more : (w n h : ℕ) → h ≡ 1 → w * (n + h) ≡ w * n + w
row_more w n h e = rw e (mul-add w n 1 ∙ ap (λ (m : ℕ). w * n + m) (mul-one w))

pub rows_only : (w n h : ℕ) → h ≡ 0 → w * (n + h) ≡ w * n
rows_only w n h e = ap (λ (m : ℕ). w * m) (omega arith)

masked_before : (t : Tender) (n w : ℕ) (bids windows xs ys : List ℕ) → length xs ≡ w * n → AllMasked n t w bids windows xs
    → AllMasked n t w bids windows (xs ++ ys)
masked_before t n w bids windows xs ys e m =
    record { each = λ i l. record { sets = λ x. ap (λ row. eqb (cell row x) 1) (row_before w n i xs ys e l) ∙ (m.each i l).sets x } }

pub masks_ready : (t : Tender) (n w : ℕ) (bids windows ps ms qs xs : List ℕ) → length ps ≡ n + houses t.reserve
    → length ms ≡ w * (n + houses t.reserve) → length xs ≡ w * n → PricesLaid n bids qs → AllMasked n t w bids windows xs
    → MasksReady t n w bids windows (qs ++ drop n ps) (xs ++ drop (w * n) ms)
masks_ready t n w bids windows ps ms qs xs a b c p m = record {
  price_count = written_count n (houses t.reserve) ps qs a p.count;
  word_count = length-append xs (drop (w * n) ms)
      ∙ omega (arith, length-drop (w * n) ms, rows_more w n (houses t.reserve));
  priced = λ i l. written_at n ps qs p.count i l ∙ p.prices_are i l;
  masked = masked_before t n w bids windows xs (drop (w * n) ms) c m;
}

module _ (t : Tender) (n w : ℕ) (bids windows ps ms : List ℕ) (r : MasksReady t n w bids windows ps ms) where
  pub masks_owners : t.reserve ≡ None → (thin : Asked) → Says (has ms w) n (cells_of t) thin
      → LaidMasks t n w bids windows ps ms thin
  masks_owners e thin s =
      let h = masks_have t n w bids windows ms r.word_count r.masked
      (λ q g. let z : ◌≡◌ {A = ℕ} 0 1 = ap houses (sym e ∙ g) in absurd (omega arith)) in
      record {
        prices_are = prices_owners t n bids windows ps r.price_count r.priced e;
        has_is = h;
        thin_is = tells t n bids windows e thin (rw h at s);
      }

  -- what stands after the bids' words is a row
  pub house_words : (q : ℕ) → t.reserve ≡ Some q → length (mid_of (w * n) (length ms - w * n) ms) ≡ w
  house_words q e = length-take-le (length ms - w * n) (drop (w * n) ms) (omega (arith, length-drop (w * n) ms))
      ∙ omega (arith, r.word_count, row_more w n (houses t.reserve) (ap houses e))

  -- the cells of the house are the first ones, all of them
  first_cells : (row : List ℕ) → First (cells_of t) row → (x : ℕ) → eqb (cell row x) 1 ≡ ltb x (cells_of t)
  first_cells row f x = go (ltb x (cells_of t)) refl
    where
      go : (b : Bool) → ltb x (cells_of t) ≡ b → eqb (cell row x) 1 ≡ b
      go true u = ap (λ (v : ℕ). eqb v 1) (f.inside x (ltb-true x (cells_of t) u))
      go false u = ap (λ (v : ℕ). eqb v 1) (f.above x (ltb-false x (cells_of t) u))

  front : length (take (w * n) ms) ≡ w * n
  front = word_front w n (houses t.reserve) ms r.word_count

  front_masked : AllMasked n t w bids windows (take (w * n) ms)
  front_masked = record {
    each = λ i l. record {
      sets = λ x. ap (λ row. eqb (cell row x) 1)
          (sym (row_before w n i (take (w * n) ms) (drop (w * n) ms) front l) ∙ ap (λ xs. word_row xs w i) (take-append-drop (w * n) ms))
          ∙ (r.masked.each i l).sets x;
    };
  }

  pub masks_house : (q : ℕ) → t.reserve ≡ Some q → (row : List ℕ) → length row ≡ w → First (cells_of t) row
      → LaidMasks t n w bids windows (set ps n q) (put_mid (w * n) (length ms - w * n) ms row) (Ok tt)
  masks_house q e row d f = record {
    prices_are = prices_house t n bids windows ps r.price_count r.priced q e;
    has_is = ap (λ xs. has xs w) whole ∙ masks_have t n w bids windows (take (w * n) ms ++ row) count
        (masked_before t n w bids windows (take (w * n) ms) row front front_masked)
        (λ p g x. ap (λ xs. eqb (cell xs x) 1) (row_last w n (take (w * n) ms) row front d) ∙ first_cells row f x);
    thin_is = tells_none t n bids windows q e;
  }
    where
      whole : put_mid (w * n) (length ms - w * n) ms row ≡ take (w * n) ms ++ row
      whole = ap (λ xs. take (w * n) ms ++ xs) (ap (λ xs. row ++ xs)
          (drop_of_length-le (drop (w * n) ms) {i = length ms - w * n} (omega (arith, length-drop (w * n) ms))) ∙ append-nil row)

      count : length (take (w * n) ms ++ row) ≡ w * (n + houses t.reserve)
      count = length-append (take (w * n) ms) row ∙ ap (λ (m : ℕ). m + length row) front ∙ ap (λ (m : ℕ). w * n + m) d
          ∙ sym (row_more w n (houses t.reserve) (ap houses e))
