-- Laws of the cells that two rows have in common, written down as pairs word by word. Assumes nothing.
use Rattle.std.specs.Prelude.{◌≡◌, refl, ◌⊎◌, Bool, false, ◌&&◌, ◌||◌, List, ℕ, zero, suc, ◌+◌, ◌-◌, ◌*◌}
use Rattle.std.specs.Prelude.{◌/◌, ◌%◌, ◌^◌, ◌≤◌, ◌<◌, min, get_or, set}
use Rattle.std.proofs.Math.Path.{sym}
use Rattle.std.proofs.Common.{ap, ap₂, ◌∙◌, inl, inr, pow-suc, arith, length-set, get_or-set_same, get_or-set_other}
use Rattle.std.proofs.Math.Logic.{⊎_elim}
use Rattle.std.proofs.Math.Bool.{and-false, or-false}
use Rattle.std.proofs.Math.ListN.{length}
use Rattle.std.proofs.Math.Dec.{eqb}
use Rattle.std.specs.Int.Bits.{bit_and}
use Rattle.std.proofs.lemmas.Nat.{and_le_l}
use Rattle.std.specs.Int.Count.{ones, ones_step}
use Rattle.cells.specs.Cells.{bit_of, cell, total, both, common}
use Rattle.cells.proofs.BitLaws.{and_bit, zero_bit}
use Rattle.cells.proofs.LowestLaws.{two}
use Rattle.cells.proofs.StoreLaws.{lt_or_le, cell_past}
use Rattle.cells_count.specs.Hops.{Onward}
use Rattle.cells_count.specs.SumLaws.{total_add, word_more}
use Rattle.cells_count.specs.WalkLaws.{bare_cells}
use Rattle.cells_pairs.specs.Pairs.{in_pair, in_pairs, Cut}
use Rattle.cells_pairs.specs.PairLaws.{pair_here, pair_elsewhere, pairs_none, pairs_more, pairs_same}

abbrev at : List ℕ → ℕ → ℕ
at xs q = get_or xs q 0

-- a number other than 0 has a set bit
some_one : (n w : ℕ) → w < 2 ^ n → (w ≡ 0 → ⊥) → 0 < ones w
some_one zero w l z = absurd (z (omega arith))
some_one (suc n) w l z = ⊎_elim
    (λ e. omega (arith, ones_step w, some_one n (w / 2) (omega (arith, pow-suc 2 n)) (λ y. z (omega arith))))
    (λ e. omega (arith, ones_step w))
    (two (w % 2) (omega arith))

-- more words have no fewer cells in common
total_grows : (f : ℕ → ℕ) (m n : ℕ) → m ≤ n → total f m ≤ total f n
total_grows f m n l = let e : m + (n - m) ≡ n = omega arith in
    omega (arith, ap (total f) (sym e), total_add f m (n - m))

min_both : (a b : ℕ) → a < 2 → b < 2 → eqb (min a b) 1 ≡ (eqb a 1 && eqb b 1)
min_both a b l m = go (two a l) (two b m)
  where
    go : (a ≡ 0) ⊎ (a ≡ 1) → (b ≡ 0) ⊎ (b ≡ 1) → eqb (min a b) 1 ≡ (eqb a 1 && eqb b 1)
    go (inl d) (inl e) = rw (d, e)
    go (inl d) (inr e) = rw (d, e)
    go (inr d) (inl e) = rw (d, e)
    go (inr d) (inr e) = rw (d, e)

-- ---- cut: the words before q are done, and their cells are the pairs a up to c
pub record Cutting (held mask old new : List ℕ) (a q c : ℕ) : Type 0 where
  pub rising : a ≤ c
  pub few : c ≤ a + total (both held mask) (64 * q)
  pub kept : (p : ℕ) → p < 2 * a → at new p ≡ at old p
  pub words : (p : ℕ) → a ≤ p → p < c → at new (2 * p) < q
  pub done : (x : ℕ) → x < 64 * q → in_pairs new a (c - a) x ≡ (eqb (cell held x) 1 && eqb (cell mask x) 1)
  pub rest : (x : ℕ) → 64 * q ≤ x → in_pairs new a (c - a) x ≡ false

pub cutting_none : (held mask old : List ℕ) (a : ℕ) → Cutting held mask old old a 0 a
cutting_none held mask old a = record {
  rising = omega arith;
  few = omega arith;
  kept = λ p l. refl;
  words = λ p l m. absurd (omega arith);
  done = λ x l. absurd (omega arith);
  rest = λ x l. pairs_none old a x;
}

module _ (held mask : List ℕ) where
  -- the cells of word q that are in both
  word_both : (q x : ℕ) → x / 64 ≡ q → eqb (bit_of (bit_and (at held q) (at mask q)) (x % 64)) 1
      ≡ (eqb (cell held x) 1 && eqb (cell mask x) 1)
  unfolding cell
  word_both q x e = rw e (ap (λ (v : ℕ). eqb v 1) (and_bit (at held q) (at mask q) (x % 64))
      ∙ min_both (bit_of (at held q) (x % 64)) (bit_of (at mask q) (x % 64)) (omega arith) (omega arith))

  bare_both : (x : ℕ) → at mask (x / 64) ≡ 0 → (eqb (cell held x) 1 && eqb (cell mask x) 1) ≡ false
  bare_both x e = rw (bare_cells mask x e) (and-false (eqb (cell held x) 1))

  module _ {old new : List ℕ} {a q c : ℕ} (s : Cutting held mask old new a q c) where
    -- a word with no cell in common
    pub cutting_bare : bit_and (at held q) (at mask q) ≡ 0 → Cutting held mask old new a (q + 1) c
    cutting_bare z = record {
      rising = s.rising;
      few = omega (arith, s.few, total_grows (both held mask) (64 * q) (64 * (q + 1)) (omega arith));
      kept = s.kept;
      words = λ p l m. omega (arith, s.words p l m);
      done = λ x l. ⊎_elim (s.done x) (λ y. s.rest x y ∙ sym (sym (word_both q x (omega arith))
          ∙ rw (z, zero_bit (x % 64)) refl)) (lt_or_le x (64 * q));
      rest = λ x l. s.rest x (omega arith);
    }

    -- a word with a cell in common
    module _ (fits : at held q < 2 ^ 64) (some : bit_and (at held q) (at mask q) ≡ 0 → ⊥) where
      one_more : c + 1 ≤ a + total (both held mask) (64 * (q + 1))
      one_more = omega (
        arith,
        s.few,
        word_more held mask q fits,
        some_one 64 (bit_and (at held q) (at mask q)) (omega (arith, and_le_l (at held q) (at mask q))) some,
      )

      -- and so a pair more
      pub pair_fits : q < length held → c + 1 ≤ a + common held mask
      unfolding common
      pair_fits l = omega (arith, one_more, total_grows (both held mask) (64 * (q + 1)) (64 * length held) (omega arith))

      module _ (room : 2 * c + 1 < length new) where
        abbrev longer : List ℕ
        longer = set (set new (2 * c) q) (2 * c + 1) (bit_and (at held q) (at mask q))

        earlier : (p : ℕ) → p < 2 * c → at longer p ≡ at new p
        earlier p l = get_or-set_other (set new (2 * c) q) (2 * c + 1) p (bit_and (at held q) (at mask q)) 0 (λ e. omega arith)
            ∙ get_or-set_other new (2 * c) p q 0 (λ e. omega arith)

        word_there : at longer (2 * c) ≡ q
        word_there = get_or-set_other (set new (2 * c) q) (2 * c + 1) (2 * c) (bit_and (at held q) (at mask q)) 0 (λ e. omega arith)
            ∙ get_or-set_same new (2 * c) q 0 (omega arith)

        mask_there : at longer (2 * c + 1) ≡ bit_and (at held q) (at mask q)
        mask_there = get_or-set_same (set new (2 * c) q) (2 * c + 1) (bit_and (at held q) (at mask q)) 0 (simp length-set room)

        cells_there : (x : ℕ) → in_pairs longer a (c + 1 - a) x ≡ (in_pairs new a (c - a) x || in_pair longer c x)
        cells_there x = pairs_more longer a c s.rising x ∙ ap (λ (b : Bool). b || in_pair longer c x)
            (pairs_same new longer a (c - a) (λ p l m. earlier p (omega (arith, s.rising))) x)

        pub cutting_pair : Cutting held mask old longer a (q + 1) (c + 1)
        cutting_pair = record {
          rising = omega (arith, s.rising);
          few = one_more;
          kept = λ p l. earlier p (omega (arith, s.rising)) ∙ s.kept p l;
          words = λ p l m. ⊎_elim (λ y. rw (earlier (2 * p) (omega arith)) (omega (arith, s.words p l y)))
              (λ (y : c ≤ p). let e : p ≡ c = omega arith in rw (e, word_there) (omega arith)) (lt_or_le p c);
          done = λ x l. cells_there x ∙ ⊎_elim
              (λ y. ap₂ (λ (b d : Bool). b || d) (s.done x y) (pair_elsewhere longer c x (λ e. omega (arith, word_there)))
              ∙ or-false (eqb (cell held x) 1 && eqb (cell mask x) 1))
              (λ y. let e : x / 64 ≡ q = omega arith in
              ap₂ (λ (b d : Bool). b || d) (s.rest x y) (pair_here longer c x (word_there ∙ sym e)
              ∙ ap (λ (v : ℕ). eqb (bit_of v (x % 64)) 1) mask_there ∙ word_both q x e))
              (lt_or_le x (64 * q));
          rest = λ x l. cells_there x ∙ ap₂ (λ (b d : Bool). b || d) (s.rest x (omega arith))
              (pair_elsewhere longer c x (λ e. omega (arith, word_there)));
        }

  -- on over words of the mask that have no cell
  pub cutting_on : {old new : List ℕ} {a q c : ℕ} (r : ℕ) → Cutting held mask old new a (q + 1) c → Onward mask q r
      → Cutting held mask old new a r c
  cutting_on {old} {new} {a} {q} {c} r s o = record {
    rising = s.rising;
    few = omega (arith, s.few, total_grows (both held mask) (64 * (q + 1)) (64 * r) (omega (arith, o.on)));
    kept = s.kept;
    words = λ p l m. omega (arith, s.words p l m, o.on);
    done = λ x l. ⊎_elim (s.done x) (λ y. s.rest x y ∙ sym (bare_both x (o.gap (x / 64) (omega arith) (omega arith))))
        (lt_or_le x (64 * (q + 1)));
    rest = λ x l. s.rest x (omega (arith, o.on));
  }

  pub cutting_all : {old new : List ℕ} {a q c : ℕ} → Cutting held mask old new a q c → q ≡ length held
      → 2 * (a + common held mask) ≤ length new → Cut held mask old new a c
  unfolding common
  cutting_all {old} {new} {a} {q} {c} s e room = let few = rw e at s.few in record {
    paired = record { rising = s.rising; room = omega (arith, few); words = λ p l m. rw e at (s.words p l m) };
    few = few;
    kept = s.kept;
    cells = λ x. ⊎_elim (s.done x) (λ y. s.rest x y ∙ sym (ap (λ (v : ℕ). eqb v 1 && eqb (cell mask x) 1)
        (cell_past held x (omega arith)))) (lt_or_le x (64 * q));
  }
