-- Laws of the loops over the rows of the two tables. Assumes nothing.
use Rattle.std.specs.Prelude.{◌≡◌, refl, List, [], ◌∷◌, ◌++◌, Bool, true, false, cond, not, ◌&&◌, ◌||◌, length}
use Rattle.std.specs.Prelude.{get_or, drop, replicate, leb, ltb, eqb}
use Rattle.std.proofs.Math.Path.{sym, ap}
use Rattle.std.proofs.Common.{◌∙◌}
use Rattle.std.proofs.Math.Bool.{and-false, or-true, or-false, or_assoc}
use Rattle.std.proofs.Math.Option.{none, some}
use Prim.Native.Nat.{ℕ, zero, suc, ◌+◌, ◌-◌, ◌*◌, ◌/◌, ◌%◌, ◌^◌, ◌≤◌, ◌<◌}
use Rattle.std.proofs.Math.Nat.{zero-div}
use native.Mathlib.Omega.{arith}
use Rattle.std.proofs.lemmas.List.{length-replicate}
use borrow.Author.Tests.{not-true, not-false, ltb-true, ltb-false, leb-true, le-leb, lt-leb, eqb-true, eqb-false, eq-eqb, ne_eqb}
use Rattle.tender.specs.declared.Tender.{Tender}
use Rattle.tender.specs.Limits.{within, lawful, every}
use Rattle.cover.proofs.SetLaws.{and_split}
use Rattle.tender.specs.Tables.{Row, rows_of, windows_of, bid_width, window_width, window_at}
use Rattle.reader_text.specs.Words.{among}
use Rattle.cells.specs.Cells.{cell, RangeAdded}
use Rattle.award_check.specs.Faults.{keeps, sound, row_fault}
use Rattle.award_check.specs.Cells.{bid_row_at}
use Rattle.award_check.proofs.AlikeLaws.{rows_step, windows_step, keeps_kept}

-- the windows from j on, of those from `first` on, where j are not yet passed
abbrev pub rows_ahead : List ℕ → ℕ → ℕ → ℕ → Bool
rows_ahead windows first count j = every lawful (windows_of (count - j) (drop (window_width * (first + j)) windows))

pub ahead_more : (windows : List ℕ) (first count j : ℕ) → j < count →
    rows_ahead windows first count j ≡ (ltb (window_at windows (first + j)).start (window_at windows (first + j)).end
    && leb (window_at windows (first + j)).end 10080) && rows_ahead windows first count (j + 1)
unfolding every lawful
ahead_more windows first count j l =
    let e : count - j ≡ suc (count - (j + 1)) = omega arith in
    let f : first + j + 1 ≡ first + (j + 1) = omega arith in
    ap (λ (m : ℕ). every lawful (windows_of m (drop (window_width * (first + j)) windows))) e
    ∙ ap (every lawful) (windows_step (count - (j + 1)) (first + j) windows)
    ∙ ap (λ (i : ℕ). (ltb (window_at windows (first + j)).start (window_at windows (first + j)).end
    && leb (window_at windows (first + j)).end 10080)
    && every lawful (windows_of (count - (j + 1)) (drop (window_width * i) windows))) f

pub ahead_all : (windows : List ℕ) (first count j : ℕ) → count ≤ j → rows_ahead windows first count j ≡ true
unfolding every windows_of
ahead_all windows first count j l = let e : count - j ≡ 0 = omega arith in
    ap (λ (m : ℕ). every lawful (windows_of m (drop (window_width * (first + j)) windows))) e

pub ahead_start : (windows : List ℕ) (first count : ℕ)
    → rows_ahead windows first count 0 ≡ every lawful (windows_of count (drop (window_width * first) windows))
ahead_start windows first count =
    let d : count - 0 ≡ count = omega arith in
    let e : first + 0 ≡ first = omega arith in
    ap (λ (m : ℕ). every lawful (windows_of m (drop (window_width * (first + 0)) windows))) d
    ∙ ap (λ (i : ℕ). every lawful (windows_of count (drop (window_width * i) windows))) e

-- window j was found lawful, or not
module _ (windows : List ℕ) (first count j : ℕ) (r : Bool) (l : j < count)
    (is : r ≡ (ltb (window_at windows (first + j)).start (window_at windows (first + j)).end
    && leb (window_at windows (first + j)).end 10080)) where
  pub ahead_goes : (X : Bool) → not r ≡ false → rows_ahead windows first count j ≡ X
      → rows_ahead windows first count (j + 1) ≡ X
  ahead_goes X t e = sym (ahead_more windows first count j l
      ∙ ap (λ b. b && rows_ahead windows first count (j + 1)) (sym is ∙ not-false r t))
      ∙ e

  pub ahead_fails : (X : Bool) → not r ≡ true → rows_ahead windows first count j ≡ X → false ≡ X
  ahead_fails X t e = sym (ahead_more windows first count j l
      ∙ ap (λ b. b && rows_ahead windows first count (j + 1)) (sym is ∙ not-true r t))
      ∙ e

-- the bidder numbers of the rows passed, as cells of the words `used`: an empty table has none, and one more is one cell more
pub record RowsPassed (used list : List ℕ) : Type 0 where
  pub size : length used ≡ 15625
  pub tied : (x : ℕ) → eqb (cell used x) 1 ≡ among x list

pub passed_none : (used : List ℕ) → used ≡ replicate {A = ℕ} 15625 0 → RowsPassed used []
unfolding cell among
passed_none used e = rw e (record {
  size = length-replicate {A = ℕ} 15625 0;
  tied = λ x. ap (λ (v : ℕ). eqb (v / 2 ^ (x % 64) % 2) 1) (get_or_zeros 15625 (x / 64))
      ∙ ne_eqb (0 / 2 ^ (x % 64) % 2) 1 (λ f. omega (arith, zero-div (2 ^ (x % 64))));
})
  where
    get_or_zeros : (n i : ℕ) → get_or (replicate {A = ℕ} n 0) i 0 ≡ 0
    get_or_zeros zero i = refl
    get_or_zeros (suc n) zero = refl
    get_or_zeros (suc n) (suc i) = get_or_zeros n i

pub among_last : (x b : ℕ) (list : List ℕ) → among x (list ++ b ∷ []) ≡ (among x list || eqb b x)
unfolding among
among_last x b [] = or-false (eqb b x)
among_last x b (m ∷ list) = rw (among_last x b list) (sym (or_assoc (eqb m x) (among x list) (eqb b x)))

pub passed_more : (used used' list : List ℕ) (b : ℕ) → RowsPassed used list → RangeAdded b (b + 1) used used'
    → length used' ≡ length used
    → RowsPassed used' (list ++ b ∷ [])
passed_more used used' list b p f l = record { size = l ∙ p.size; tied = λ x. go x (eqb b x) refl }
  where
    go : (x : ℕ) (t : Bool) → eqb b x ≡ t → eqb (cell used' x) 1 ≡ among x (list ++ b ∷ [])
    go x true e =
        let i : b ≡ x = eqb-true b x e in
        eq-eqb (cell used' x) 1 (f.inside x (omega arith) (omega arith))
        ∙ sym (among_last x b list ∙ ap (λ t. among x list || t) e ∙ or-true (among x list))
    go x false e = ap (λ (v : ℕ). eqb v 1) (side x e (ltb x b) (ltb b x) refl refl) ∙ p.tied x
        ∙ sym (among_last x b list ∙ ap (λ t. among x list || t) e ∙ or-false (among x list))
      where
        side : (x : ℕ) → eqb b x ≡ false → (t u : Bool) → ltb x b ≡ t → ltb b x ≡ u → cell used' x ≡ cell used x
        side x d true u e f' = f.below x (ltb-true x b e)
        side x d false true e f' = f.above x (omega (arith, ltb-true b x f'))
        side x d false false e f' = absurd (eqb-false b x d (omega (arith, ltb-false x b e, ltb-false b x f')))

is_sound : (t : Tender) (windows : List ℕ) (place : ℕ) (used : List ℕ) (at : ℕ) (r : Row) → leb place 1000 ≡ true
    → among r.bidder used ≡ false → keeps t windows at r ≡ true → sound t windows place used at r ≡ true
unfolding sound
is_sound t windows place used at r a b c = rw (a, b, c)

-- the rows from j on have the first fault of all of them
pub record Going (t : Tender) (n : ℕ) (bids windows used : List ℕ) (at j : ℕ) : Type 0 where
  pub list : List ℕ
  pub passed : RowsPassed used list
  pub inside : j ≤ n
  pub room : at ≤ length windows / window_width
  pub rest : row_fault t windows (j + 1) list at (rows_of (n - j) (drop (bid_width * j) bids))
      ≡ row_fault t windows 1 [] 0 (rows_of n bids)

pub going_starts : (t : Tender) (n : ℕ) (bids windows used : List ℕ) → used ≡ replicate {A = ℕ} 15625 0
    → Going t n bids windows used 0 0
going_starts t n bids windows used e =
    let d : n - 0 ≡ n = omega arith in
    record {
      list = [];
      passed = passed_none used e;
      inside = omega arith;
      room = omega arith;
      rest = ap (λ (m : ℕ). row_fault t windows 1 [] 0 (rows_of m bids)) d;
    }

module _ (t : Tender) (n : ℕ) (bids windows used : List ℕ) (at j : ℕ) (g : Going t n bids windows used at j) where
  pub going_ends : n ≤ j → none ≡ row_fault t windows 1 [] 0 (rows_of n bids)
  unfolding row_fault rows_of
  going_ends l = let d : n - j ≡ 0 = omega arith in
      sym (ap (λ (m : ℕ). row_fault t windows (j + 1) g.list at (rows_of m (drop (bid_width * j) bids))) d) ∙ g.rest

  step : j < n → row_fault t windows 1 [] 0 (rows_of n bids)
      ≡ cond (sound t windows (j + 1) g.list at (bid_row_at bids j))
      (row_fault t windows (j + 1 + 1) (g.list ++ (bid_row_at bids j).bidder ∷ []) (at + (bid_row_at bids j).count)
      (rows_of (n - (j + 1)) (drop (bid_width * (j + 1)) bids))) (some (j + 1))
  unfolding row_fault
  step l =
      let d : n - j ≡ suc (n - (j + 1)) = omega arith in
      sym g.rest ∙ ap (λ (m : ℕ). row_fault t windows (j + 1) g.list at (rows_of m (drop (bid_width * j) bids))) d
      ∙ ap (row_fault t windows (j + 1) g.list at) (rows_step (n - (j + 1)) j bids)

  unsound : j < n → sound t windows (j + 1) g.list at (bid_row_at bids j) ≡ false
      → some (j + 1) ≡ row_fault t windows 1 [] 0 (rows_of n bids)
  unsound l e = sym (rw e at (step l))

  -- a 1,001st bid, a row that breaks a rule, a bidder number used before
  pub too_many : j < n → 1000 ≤ j → some (j + 1) ≡ row_fault t windows 1 [] 0 (rows_of n bids)
  unfolding sound
  too_many l h = unsound l (rw (lt-leb (j + 1) 1000 (omega arith)))

  pub breaks : j < n → j < 1000 → keeps t windows at (bid_row_at bids j) ≡ false
      → some (j + 1) ≡ row_fault t windows 1 [] 0 (rows_of n bids)
  unfolding sound
  breaks l h e = unsound l (rw (le-leb (j + 1) 1000 (omega arith), e) (and-false (not (among (bid_row_at bids j).bidder g.list))))

  pub repeated : j < n → j < 1000 → eqb (cell used (bid_row_at bids j).bidder) 1 ≡ true
      → some (j + 1) ≡ row_fault t windows 1 [] 0 (rows_of n bids)
  unfolding sound
  repeated l h e = unsound l (rw (le-leb (j + 1) 1000 (omega arith), ← g.passed.tied (bid_row_at bids j).bidder, e))

  pub going_on : j < n → j < 1000 → keeps t windows at (bid_row_at bids j) ≡ true
      → eqb (cell used (bid_row_at bids j).bidder) 1 ≡ false → (used' : List ℕ) →
      RangeAdded (bid_row_at bids j).bidder ((bid_row_at bids j).bidder + 1) used used' → length used' ≡ length used
      → Going t n bids windows used' (at + (bid_row_at bids j).count) (j + 1)
  going_on l h e f used' fills s = record {
    list = g.list ++ (bid_row_at bids j).bidder ∷ [];
    passed = passed_more used used' g.list (bid_row_at bids j).bidder g.passed fills s;
    inside = omega arith;
    room = leb-true (at + (bid_row_at bids j).count) (length windows / window_width)
        (keeps_kept t windows at (bid_row_at bids j) e).room;
    rest = sym (step l ∙ ap (λ b. cond b (row_fault t windows (j + 1 + 1) (g.list ++ (bid_row_at bids j).bidder ∷ [])
        (at + (bid_row_at bids j).count)
        (rows_of (n - (j + 1)) (drop (bid_width * (j + 1)) bids))) (some (j + 1))) sound_here);
  }
    where
      sound_here : sound t windows (j + 1) g.list at (bid_row_at bids j) ≡ true
      sound_here = is_sound t windows (j + 1) g.list at (bid_row_at bids j) (le-leb (j + 1) 1000 (omega arith))
          (sym (g.passed.tied (bid_row_at bids j).bidder) ∙ f) e

  -- the bidder number of a row that keeps its rules is a cell of the words
  pub bidder_cell : keeps t windows at (bid_row_at bids j) ≡ true → (bid_row_at bids j).bidder < 64 * length used
  unfolding within
  bidder_cell e =
      let b = and_split (leb 1 (bid_row_at bids j).bidder) (leb (bid_row_at bids j).bidder 999999)
      (keeps_kept t windows at (bid_row_at bids j) e).bidder in
      omega (arith, g.passed.size, leb-true (bid_row_at bids j).bidder 999999 b.1)

  pub room_here : keeps t windows at (bid_row_at bids j) ≡ true → at + (bid_row_at bids j).count ≤ length windows / window_width
  room_here e = leb-true (at + (bid_row_at bids j).count) (length windows / window_width)
      (keeps_kept t windows at (bid_row_at bids j) e).room
