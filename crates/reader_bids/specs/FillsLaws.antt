-- The walk over a text's bids: what the tables hold on the way. Assumes nothing.
use Rattle.std.specs.Prelude.{ℕ, suc, ◌+◌, ◌*◌, ◌/◌, ◌≤◌, ◌<◌, ◌≡◌, List, [], ◌∷◌, ◌++◌, Bool, true}
use Rattle.std.specs.Prelude.{false, ◌||◌, take, get_or, replicate, eqb, ltb, Ok, Err}
use Rattle.std.proofs.Math.Path.{refl, sym, ap}
use Rattle.std.proofs.Common.{◌∙◌, append_assoc, append-nil, arith, zero-add, eqb-true, ltb-true, ltb-false}
use Rattle.std.proofs.Math.Bool.{or-false, or-true}
use Rattle.std.proofs.Math.Option.{Option, none, some}
use Rattle.std.proofs.Math.Nat.{zero-div}
use Rattle.std.proofs.Math.ListN.{length, length-append, get_or-eq_default}
use Rattle.std.proofs.lemmas.List.{length-replicate, get_or-replicate}
use Rattle.std.proofs.lemmas.Bool.{eqb-false}
use Rattle.tender.specs.declared.Tender.{Tender}
use Rattle.tender.specs.declared.Refusal.{Refusal}
use Rattle.tender.specs.declared.Refusal.TheVariants.{BadForm, ReserveMisplaced}
use Rattle.tender.specs.Tables.{flat_rows, flat_windows, bid_width, window_width, bid_table, window_table}
use Rattle.cells.specs.Cells.{cell, RangeAdded}
use Rattle.reader_parts.specs.Words.{among}
use Rattle.reader_forms.specs.Line.{BidLine, Line, tender, bid, reserve}
use Rattle.reader_text.specs.Read.{ReadOutcome, refused, rows_from, all_windows, bids_of, bid_fault_after, bid_fault, judged_by, checked}
use Rattle.reader_text.proofs.RulesLaws.{faultless_after}
use Rattle.reader_bids.specs.Steps.{Step, took, BidTaken, Judged, Taken, TablesHold}
use Rattle.reader_bids.specs.StoreLaws.{front, windows_put, windows_more, flat_more, rows_more}

pub bidder_numbers : List BidLine → List ℕ
bidder_numbers [] = []
bidder_numbers (b ∷ bs) = b.bidder ∷ bidder_numbers bs

numbers_more : (bs : List BidLine) (b : BidLine) → bidder_numbers (bs ++ b ∷ []) ≡ bidder_numbers bs ++ b.bidder ∷ []
unfolding bidder_numbers
numbers_more [] b = refl
numbers_more (c ∷ bs) b = ap (λ l. c.bidder ∷ l) (numbers_more bs b)

numbers_length : (bs : List BidLine) → length (bidder_numbers bs) ≡ length bs
unfolding bidder_numbers
numbers_length [] = refl
numbers_length (b ∷ bs) = ap suc (numbers_length bs)

-- among the lines `whole`, from line `from` on, all before `left`, which begins on line `line`, are bids without a fault, and the
-- tables hold them
pub record Walk (T : Tender) (from : ℕ) (whole left : List (Option Line)) (line k m : ℕ) (used rows windows : List ℕ) : Type 0 where
  pub done : List BidLine
  pub checks : (out : ReadOutcome) → checked T from [] whole out ≡ checked T line (bidder_numbers done) left out
  pub number : line ≡ from + k
  pub bids : bids_of whole ≡ done ++ bids_of left
  pub count : length done ≡ k
  pub places : length (all_windows done) ≡ m
  pub few_bids : k ≤ 1000
  pub few_windows : m ≤ 32 * k
  pub rows_are : take (bid_width * k) rows ≡ flat_rows (rows_from 0 done)
  pub windows_are : take (window_width * m) windows ≡ flat_windows (all_windows done)
  pub marked : (x : ℕ) → eqb (cell used x) 1 ≡ among x (bidder_numbers done)
  pub used_long : length used ≡ 15625
  pub rows_long : length rows ≡ bid_table
  pub windows_long : length windows ≡ window_table

-- it begins with nothing used

zeros : ℕ → List ℕ
zeros n = replicate n 0

unset : (n x : ℕ) → eqb (cell (zeros n) x) 1 ≡ false
unfolding cell zeros
unset n x = let e : get_or (zeros n) (x / 64) 0 ≡ 0 = zero_at (ltb (x / 64) n) refl in rw e (rw zero-div)
  where
    zero_at : (t : Bool) → ltb (x / 64) n ≡ t → get_or (zeros n) (x / 64) 0 ≡ 0
    zero_at true h = get_or-replicate n (x / 64) 0 0 (ltb-true (x / 64) n h)
    zero_at false h = get_or-eq_default (zeros n) 0 (rw length-replicate (ltb-false (x / 64) n h))

pub walk_begins : (T : Tender) (from : ℕ) (ls : List (Option Line)) (used rows windows : List ℕ) → used ≡ replicate 15625 0
    → length rows ≡ bid_table
    → length windows ≡ window_table → Walk T from ls ls from 0 0 used rows windows
unfolding bidder_numbers zeros all_windows rows_from flat_rows flat_windows among
walk_begins T from ls used rows windows u r w =
    record {
      done = [];
      checks = λ out. refl;
      number = omega arith;
      bids = refl;
      count = refl;
      places = refl;
      few_bids = omega arith;
      few_windows = omega arith;
      rows_are = refl;
      windows_are = refl;
      marked = λ x. rw u (unset 15625 x);
      used_long = rw u (length-replicate {A = ℕ} 15625 0);
      rows_long = r;
      windows_long = w;
    }

-- a number that is used from then on

or_assoc : (a b c : Bool) → a || (b || c) ≡ (a || b) || c
or_assoc true b c = refl
or_assoc false b c = refl

among_more : (x : ℕ) (us : List ℕ) (b : ℕ) → among x (us ++ b ∷ []) ≡ among x us || eqb b x
unfolding among
among_more x [] b = or-false (eqb b x)
among_more x (u ∷ us) b = rw (among_more x us b) (or_assoc (eqb u x) (among x us) (eqb b x))

marked_more : (b : ℕ) (us used used' : List ℕ) → ((x : ℕ) → eqb (cell used x) 1 ≡ among x us)
    → RangeAdded b (b + 1) used used' → (x : ℕ)
    → eqb (cell used' x) 1 ≡ among x (us ++ b ∷ [])
marked_more b us used used' h f x = go (eqb b x) refl (ltb x b) refl ∙ sym (among_more x us b)
  where
    go : (t : Bool) → eqb b x ≡ t → (s : Bool) → ltb x b ≡ s → eqb (cell used' x) 1 ≡ among x us || t
    go true e s g = let q : b ≡ x = eqb-true b x e in rw (f.inside x (omega arith) (omega arith), or-true (among x us))
    go false e true g = rw (f.below x (ltb-true x b g), or-false (among x us)) (h x)
    go false e false g =
        let n = eqb-false b x e in
        let l : b + 1 ≤ x = omega (arith, ltb-false x b g) in
        rw (f.above x l, or-false (among x us)) (h x)

bid_not_refused : {A : Type 0} {r : Step} {c n : ℕ} {x : Refusal} → r ≡ took c n → r ≡ Err x → A
bid_not_refused {A} {r} {c} {n} {x} e h =
    let q : took c n ≡ Err x = sym e ∙ h in let z : ◌≡◌ {A = ℕ} 0 1 = cc in absurd (omega arith)

-- what is answered of a bid, part by part

count_of : Step → ℕ
count_of (Ok r) = r.value
count_of (Err x) = 0

next_of : Step → ℕ
next_of (Ok r) = r.next
next_of (Err x) = 0

same_count : {r : Step} {c e d f : ℕ} → r ≡ took c e → r ≡ took d f → c ≡ d
unfolding count_of
same_count p q = ap count_of (sym p ∙ q)

same_next : {r : Step} {c e d f : ℕ} → r ≡ took c e → r ≡ took d f → e ≡ f
unfolding next_of
same_next p q = ap next_of (sym p ∙ q)

-- a line that was taken is a bid: what holds of every bid that the line may be holds of the answer
module _ (P : ℕ → ℕ → Type 0) (T : Tender) (next line k m : ℕ) (used rows windows used' rows' windows' : List ℕ)
    (r : Step) (c e : ℕ) (q : r ≡ took c e) where
  pub taken_bid : (o : Option Line) → Taken o next T line k m used rows windows r used' rows' windows'
      → ((b : BidLine) → o ≡ some (bid b) → P (length b.windows) next) → P c e
  taken_bid none t h = bid_not_refused q t
  taken_bid (some (tender x)) t h = bid_not_refused q t
  taken_bid (some (reserve x)) t h = bid_not_refused q t
  taken_bid (some (bid b)) t h = go (bid_fault_after T k b (eqb (cell used b.bidder) 1)) t
    where
      go : (f : Option (ℕ → Refusal)) → Judged f b next line k m used rows windows r used' rows' windows' → P c e
      go none j = rw (same_count q j.answer, same_next q j.answer) (h b refl)
      go (some f) j = bid_not_refused q j

module _ (T : Tender) (from : ℕ) (whole rest : List (Option Line)) (next line k m : ℕ)
    (used rows windows used' rows' windows' : List ℕ) where
  -- the fault of the next bid
  fault_is : (b : BidLine) (w : Walk T from whole (some (bid b) ∷ rest) line k m used rows windows) →
      bid_fault T (bidder_numbers w.done) b ≡ bid_fault_after T k b (eqb (cell used b.bidder) 1)
  unfolding bid_fault
  fault_is b w = rw (← (w.marked b.bidder), numbers_length w.done, w.count)

  more : (b : BidLine) → Walk T from whole (some (bid b) ∷ rest) line k m used rows windows → (r : Step)
      → m + length b.windows ≤ 11000 →
      bid_fault_after T k b (eqb (cell used b.bidder) 1) ≡ none →
      BidTaken b next k m used rows windows r used' rows' windows' → length used' ≡ length used
      → length rows' ≡ length rows → length windows' ≡ length windows →
      Walk T from whole rest (line + 1) (k + 1) (m + length b.windows) used' rows' windows'
  unfolding checked judged_by bids_of
  more b w r room g t lu lr lw =
      let p = faultless_after T k b (eqb (cell used b.bidder) 1) g in
      let f = fault_is b w ∙ g in
      let i : m + length b.windows ≤ 32 * (k + 1) = omega (arith, w.few_windows, p.few_windows) in
      let j : window_width * (m + length b.windows) ≤ length windows = omega (arith, room, w.windows_long) in
      let z : bid_width * k ≤ length rows = omega (arith, w.few_bids, w.rows_long) in
      record {
        done = w.done ++ b ∷ [];
        checks = λ out. w.checks out ∙ rw f (rw (numbers_more w.done b));
        number = omega (arith, w.number);
        bids = w.bids ∙ sym (append_assoc w.done (b ∷ []) (bids_of rest));
        count = length-append w.done (b ∷ []) ∙ omega (arith, w.count);
        places = ap length (windows_more w.done b) ∙ length-append (all_windows w.done) b.windows ∙ omega (arith, w.places);
        few_bids = omega (arith, p.few_bids);
        few_windows = i;
        rows_are = ap (take (bid_width * (k + 1))) t.row ∙ front rows _ _ (bid_width * k) (bid_width * (k + 1)) z (omega arith)
            ∙ rw (w.rows_are, ← w.places) (sym (rw (zero-add (length (all_windows w.done))) at (rows_more 0 w.done b)));
        windows_are = ap (take (window_width * (m + length b.windows))) t.own ∙ windows_put windows m b.windows j
            ∙ rw (w.windows_are, windows_more w.done b) (sym (flat_more (all_windows w.done) b.windows));
        marked = λ x. rw (numbers_more w.done b) (marked_more b.bidder (bidder_numbers w.done) used used' w.marked t.mark
            x);
        used_long = lu ∙ w.used_long;
        rows_long = lr ∙ w.rows_long;
        windows_long = lw ∙ w.windows_long;
      }

  -- the next line is a bid
  pub goes : (o : Option Line) → Walk T from whole (o ∷ rest) line k m used rows windows → (r : Step)
      → Taken o next T line k m used rows windows r used' rows' windows' →
      length used' ≡ length used → length rows' ≡ length rows → length windows' ≡ length windows → (c e : ℕ)
      → r ≡ took c e
      → ((b : BidLine) → o ≡ some (bid b) → m + length b.windows ≤ 11000) →
      Walk T from whole rest (line + 1) (k + 1) (m + c) used' rows' windows'
  goes none w r t lu lr lw c e q room = bid_not_refused q t
  goes (some (tender x)) w r t lu lr lw c e q room = bid_not_refused q t
  goes (some (reserve x)) w r t lu lr lw c e q room = bid_not_refused q t
  goes (some (bid b)) w r t lu lr lw c e q room = go
      (bid_fault_after T k b (eqb (cell used b.bidder) 1)) refl t
    where
      go : (f : Option (ℕ → Refusal)) → bid_fault_after T k b (eqb (cell used b.bidder) 1) ≡ f →
          Judged f b next line k m used rows windows r used' rows' windows'
          → Walk T from whole rest (line + 1) (k + 1) (m + c) used' rows' windows'
      go none g j = rw (same_count q j.answer) (more b w r (room b refl) g j lu lr lw)
      go (some f) g j = bid_not_refused q j

  refusal_is : (r : Step) (x y : Refusal) → r ≡ Err x → r ≡ Err y → refused y ≡ refused x
  refusal_is r x y e h = let q : Err y ≡ Err x = sym h ∙ e in ap refused (cc)

  -- the next line is faulty
  pub stops : (o : Option Line) → Walk T from whole (o ∷ rest) line k m used rows windows → (r : Step)
      → Taken o next T line k m used rows windows r used' rows' windows' → (x : Refusal) → r ≡ Err x →
      (out : ReadOutcome) → checked T from [] whole out ≡ refused x
  unfolding checked judged_by
  stops none w r t x e out = w.checks out ∙ refusal_is r x (BadForm line) e t
  stops (some (tender y)) w r t x e out = w.checks out ∙ refusal_is r x (BadForm line) e t
  stops (some (reserve y)) w r t x e out = w.checks out ∙ refusal_is r x (ReserveMisplaced line) e t
  stops (some (bid b)) w r t x e out = w.checks out
      ∙ go (bid_fault_after T k b (eqb (cell used b.bidder) 1))
      refl t
    where
      go : (f : Option (ℕ → Refusal)) → bid_fault_after T k b (eqb (cell used b.bidder) 1) ≡ f →
          Judged f b next line k m used rows windows r used' rows' windows'
          → checked T line (bidder_numbers w.done) (some (bid b) ∷ rest) out
          ≡ refused x
      go none g j = bid_not_refused j.answer e
      go (some f) g j = rw (fault_is b w ∙ g) (refusal_is r x (f line) e j)

-- no line is left
pub walk_ends : (T : Tender) (from : ℕ) (whole : List (Option Line)) (line k m : ℕ) (used rows windows : List ℕ)
    → Walk T from whole [] line k m used rows windows
    → m < 11000 → TablesHold T from whole k m rows windows
unfolding checked bids_of
walk_ends T from whole line k m used rows windows w l =
    let e : bids_of whole ≡ w.done = w.bids ∙ append-nil w.done in
    record {
      faultless = w.checks;
      bids = ap length e ∙ w.count;
      places = rw e w.places;
      few_bids = w.few_bids;
      few_windows = l;
      rows_are = rw e w.rows_are;
      windows_are = rw e w.windows_are;
    }
