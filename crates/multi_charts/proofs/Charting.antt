-- How the hops of a bid's words are found. Assumes nothing.
use mathlib.Core.Path.{◌≡◌, refl, sym, ◌∙◌}
use mathlib.Core.Logic.{◌⊎◌, inl, inr, ⊎_elim}
use mathlib.Core.Bool.{Bool, true, false}
use mathlib.Core.List.{List}
use Prim.Native.Nat.{ℕ, ◌+◌, ◌-◌, ◌*◌, ◌≤◌, ◌<◌}
use native.Mathlib.Nat.{mul-le-mul_left, mul-suc}
use native.Mathlib.Omega.{arith}
use lib.ListN.{length, set, length-set}
use lib.Seq.{get_or-set_same, get_or-set_other, ext_get_or}
use lib.Dec.{eqb}
use borrow.Author.Tests.{eqb-true, eqb-false}
use Rattle.cells.specs.Cells.{whole}
use Rattle.cells_count.specs.Hops.{Hops}
use Rattle.cells.proofs.StoreLaws.{lt_or_le}
use Rattle.multi_keys.specs.Keys.{at}
use Rattle.multi_market.specs.Market.{word_row, Market}
use Rattle.multi_market.proofs.WordRowLaws.{row_length, row_in, row_at}
use Rattle.multi_charts.specs.Charts.{Backed, Charted}

-- the words of bid i from q on have their hops; up to `gap` they have no cell
pub record Charting (ms : List ℕ) (w i : ℕ) (old new : List ℕ) (q gap : ℕ) : Type 0 where
  pub same : length new ≡ length old
  pub gap_low : q ≤ gap
  pub gap_high : gap ≤ w
  pub zeros : (p : ℕ) → q ≤ p → p < gap → at (word_row ms w i) p ≡ 0
  pub on : (p : ℕ) → q ≤ p → p < w → p < at new (w * i + p)
  pub within : (p : ℕ) → q ≤ p → p < w → at new (w * i + p) ≤ w
  pub runs : (p : ℕ) → q ≤ p → p < w → at (word_row ms w i) p ≡ whole → (x : ℕ) → p ≤ x → x < at new (w * i + p)
      → at (word_row ms w i) x ≡ whole
  pub gaps : (p : ℕ) → q ≤ p → p < w → (at (word_row ms w i) p ≡ whole → ⊥) → (x : ℕ) → p < x
      → x < at new (w * i + p)
      → at (word_row ms w i) x ≡ 0
  pub others : (p : ℕ) → (p < w * i) ⊎ (w * i + w ≤ p) → at new p ≡ at old p

-- the hops r up to q are v
record Set (w i : ℕ) (new new' : List ℕ) (r q v : ℕ) : Type 0 where
  size : length new' ≡ length new
  here : (p : ℕ) → r ≤ p → p < q → at new' (w * i + p) ≡ v
  there : (p : ℕ) → (p < w * i + r) ⊎ (w * i + q ≤ p) → at new' p ≡ at new p

module _ {ms : List ℕ} {w i : ℕ} {old new : List ℕ} {q gap : ℕ} (s : Charting ms w i old new q gap) (m : q ≤ w) where
  abbrev M : ℕ → ℕ
  M p = at (word_row ms w i) p

  more : {new' : List ℕ} {r v gap' : ℕ} → Set w i new new' r q v → r ≤ q → q ≤ v → v ≤ w
      → ((p : ℕ) → r ≤ p → p < q → M p ≡ whole → (x : ℕ) → p ≤ x → x < v → M x ≡ whole)
      → ((p : ℕ) → r ≤ p → p < q → (M p ≡ whole → ⊥) → (x : ℕ) → p < x → x < v → M x ≡ 0) → r ≤ gap'
      → gap' ≤ w
      → ((p : ℕ) → r ≤ p → p < gap' → M p ≡ 0) → Charting ms w i old new' r gap'
  more {new'} {r} {v} {gap'} t low a b rs gs g1 g2 g3 = record {
    same = t.size ∙ s.same;
    gap_low = g1;
    gap_high = g2;
    zeros = g3;
    on = λ p x y. go (λ p v. p < v) p x (λ z. omega arith) (λ z. s.on p z y);
    within = λ p x y. go (λ p v. v ≤ w) p x (λ z. b) (λ z. s.within p z y);
    runs = λ p x y. go (λ p v. M p ≡ whole → (x : ℕ) → p ≤ x → x < v
        → M x ≡ whole) p x (λ z. rs p x z) (λ z. s.runs p z y);
    gaps = λ p x y. go (λ p v. (M p ≡ whole → ⊥) → (x : ℕ) → p < x → x < v
        → M x ≡ 0) p x (λ z. gs p x z) (λ z. s.gaps p z y);
    others = λ p o. t.there p (⊎_elim (λ z. inl (omega arith)) (λ z. inr (omega arith)) o) ∙ s.others p o;
  }
    where
      go : (P : ℕ → ℕ → Type 0) (p : ℕ) → r ≤ p → (p < q → P p v) → (q ≤ p → P p (at new (w * i + p)))
          → P p (at new' (w * i + p))
      go P p x h k = ⊎_elim (λ z. rw (t.here p x z) (h z)) (λ z. rw (t.there (w * i + p) (inr (omega arith))) (k z)) (lt_or_le p q)

  -- a gap, and then a run, gone back over
  module _ {new' : List ℕ} {r u v : ℕ} (b : Backed ms (w * i) q u v new new' r) (e : length new' ≡ length new) where
    back_set : Set w i new new' r q v
    back_set = record { size = e; here = b.hops; there = b.others }

    words : (p : ℕ) → r ≤ p → p < q → M p ≡ u
    words p x y = row_at ms w i p (omega arith) ∙ b.words p x y

    pub charts_still : (r < q → ⊥) → Charting ms w i old new' q gap
    charts_still n = let d : r ≡ q = omega (arith, b.low) in
        more {r = q} {v = gap} (record { size = e; here = λ p x y. absurd (omega arith); there = λ p o. b.others p (rw d o) })
        (omega arith) s.gap_low s.gap_high (λ p x y. absurd (omega arith)) (λ p x y. absurd (omega arith)) s.gap_low
        s.gap_high s.zeros

    pub charts_gap : u ≡ 0 → v ≡ gap → Charting ms w i old new' r gap
    charts_gap z d = more (rw d at back_set) b.low s.gap_low s.gap_high (λ p x y h. absurd (omega (arith, words p x y)))
        (λ p x y h k c l. wide k (omega arith) l) (omega (arith, b.low, s.gap_low)) s.gap_high wide
      where
        wide : (p : ℕ) → r ≤ p → p < gap → M p ≡ 0
        wide p x y = ⊎_elim (λ c. words p x c ∙ z) (λ c. s.zeros p c y) (lt_or_le p q)

    pub charts_run : u ≡ whole → v ≡ q → r < q → Charting ms w i old new' r r
    charts_run z d l = more (rw d at back_set) b.low (omega arith) m (λ p x y h k c f. words k (omega arith) f ∙ z)
        (λ p x y h. absurd (h (words p x y ∙ z))) (omega arith) (omega arith) (λ p x y. absurd (omega arith))

-- ---- back: the words from r on are m and have their hops
pub record Backing (ms : List ℕ) (a q m v : ℕ) (old new : List ℕ) (r : ℕ) : Type 0 where
  pub same : length new ≡ length old
  pub low : r ≤ q
  pub words : (p : ℕ) → r ≤ p → p < q → at ms (a + p) ≡ m
  pub hops : (p : ℕ) → r ≤ p → p < q → at new (a + p) ≡ v
  pub others : (p : ℕ) → (p < a + r) ⊎ (a + q ≤ p) → at new p ≡ at old p

-- a word with some cells
pub charts_some : {ms : List ℕ} {w i : ℕ} {old new : List ℕ} {q gap : ℕ} → Charting ms w i old new q gap → q ≤ w → 0 < q
    → w * i + w ≤ length old → (at ms (w * i + (q - 1)) ≡ whole → ⊥)
    → Charting ms w i old (set new (w * i + (q - 1)) gap) (q - 1) (q - 1)
charts_some {ms} {w} {i} {old} {new} {q} {gap} s m l f n =
    more s m stored (omega arith) s.gap_low s.gap_high (λ p x y h. absurd (n (one p x y h)))
    (λ p x y h k c d. s.zeros k (omega arith) d) (omega arith) (omega arith) (λ p x y. absurd (omega arith))
  where
    stored : Set w i new (set new (w * i + (q - 1)) gap) (q - 1) q gap
    stored = record {
      size = length-set new (w * i + (q - 1)) gap;
      here = λ p x y. let e : p ≡ q - 1 = omega arith in rw e (get_or-set_same new (w * i + (q - 1)) gap 0 (omega (arith, s.same)));
      there = λ p o. get_or-set_other new (w * i + (q - 1)) p gap 0 (λ e. ⊎_elim (λ z. omega arith) (λ z. omega arith) o);
    }

    one : (p : ℕ) → q - 1 ≤ p → p < q → at (word_row ms w i) p ≡ whole → at ms (w * i + (q - 1)) ≡ whole
    one p x y h = let e : p ≡ q - 1 = omega arith in rw (← e) (sym (row_at ms w i p (omega arith)) ∙ h)

pub charts_all : {ms : List ℕ} {w i : ℕ} {old new : List ℕ} {q gap : ℕ} → Charting ms w i old new q gap → q ≡ 0
    → w * i + w ≤ length ms
    → length old ≡ length ms → Charted ms w i old new
charts_all {ms} {w} {i} {old} {new} s e f g = record {
  own = record {
    same = row_length new w i (omega (arith, s.same)) ∙ sym (row_length ms w i f);
    on = λ q l. rw (row_at new w i q (inside q l)) (s.on q (omega arith) (inside q l));
    within = λ q l. rw (row_at new w i q (inside q l), row_length ms w i f) (s.within q (omega arith) (inside q l));
    run = λ q l z p a b. s.runs q (omega arith) (inside q l) z p a (rw (row_at new w i q (inside q l)) at b);
    gap = λ q l z p a b. s.gaps q (omega arith) (inside q l) z p a (rw (row_at new w i q (inside q l)) at b);
  };
  others = s.others;
}
  where
    inside : (q : ℕ) → q < length (word_row ms w i) → q < w
    inside q l = omega (arith, row_length ms w i f)

-- ---- the bids below i are charted
pub record Charts (ps ms : List ℕ) (w : ℕ) (hop : List ℕ) (i : ℕ) : Type 0 where
  pub size : length hop ≡ length ms
  pub done : (j : ℕ) → j < i → Hops (word_row ms w j) (word_row hop w j)

same_row : (w j : ℕ) (a b : List ℕ) → length a ≡ length b → ((q : ℕ) → q < w → at a (w * j + q) ≡ at b (w * j + q))
    → w * j + w ≤ length b
    → word_row a w j ≡ word_row b w j
same_row w j a b e h l = ext_get_or 0 (word_row a w j) (word_row b w j) (row_length a w j (omega arith) ∙ sym (row_length b w j l))
    (λ q m. let z : q < w = omega (arith, row_length a w j (omega arith)) in row_at a w j q z ∙ h q z ∙ sym (row_at b w j q z))

pub charts_on : {ps ms : List ℕ} {w : ℕ} {hop new : List ℕ} {i : ℕ} → Market ps ms w → Charts ps ms w hop i → i < length ps
    → length new ≡ length hop → Charted ms w i hop new → Charts ps ms w new (i + 1)
charts_on {ps} {ms} {w} {hop} {new} {i} m s l e c = record { size = e ∙ s.size; done = λ j z. go j z (eqb j i) refl }
  where
    go : (j : ℕ) → j < i + 1 → (t : Bool) → eqb j i ≡ t → Hops (word_row ms w j) (word_row new w j)
    go j z true d = rw (eqb-true j i d) c.own
    go j z false d = let y : j < i = omega (arith, eqb-false j i d) in
        rw (same_row w j new hop e (λ q v. c.others (w * j + q) (inl (omega (arith, mul-le-mul_left w y, mul-suc w j))))
        (omega (arith, row_in ps ms w j m (omega arith), s.size))) (s.done j y)
