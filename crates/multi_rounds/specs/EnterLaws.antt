-- Bids entered in a tree one after the other. Assumes nothing.
use Rattle.std.specs.Prelude.{◌≡◌, refl, Bool, true, false, List, ℕ, ◌+◌, ◌≤◌, ◌<◌, length, set, eqb}
use Rattle.std.proofs.Common.{sym, ◌∙◌, arith, length-set, get_or-set_same, get_or-set_other, eqb-true}
use Rattle.std.proofs.lemmas.Bool.{eqb-false}
use Rattle.cover.specs.Greedy.{reach}
use Rattle.multi_keys.specs.Keys.{at, out, key_of}
use Rattle.multi_keys.specs.Tree.{leaves}
use Rattle.multi_keys.proofs.TreeLaws.{length_leaves, leaves_set}
use Rattle.multi_market.specs.Opens.{open_of}
use Rattle.multi_market.specs.Seats.{key_at, Entered}
use Rattle.multi_market.proofs.KeyedLaws.{key_at_lem}

-- what stands at leaf j: the key of bid j, and past the last bid out
pub record Leaf (has : ℕ → ℕ → Bool) (ps held : List ℕ) (j y : ℕ) : Type 0 where
  pub bid : j < length ps → y ≡ key_at has ps held j
  pub past : length ps ≤ j → y ≡ out

pub record Entering (has : ℕ → ℕ → Bool) (ps held tree : List ℕ) (i : ℕ) : Type 0 where
  pub size : length tree ≡ 2048
  pub each : (j : ℕ) → j < i → Leaf has ps held j (at (leaves tree) j)

module _ {has : ℕ → ℕ → Bool} {ps held tree : List ℕ} {i : ℕ} (s : Entering has ps held tree i) (l : i < 1024) where
  enters : (x : ℕ) → Leaf has ps held i x → Entering has ps held (set tree (1024 + i) x) (i + 1)
  enters x h = record { size = simp length-set s.size; each = rw (leaves_set tree i x) (λ j m. go j m (eqb j i) refl) }
    where
      go : (j : ℕ) → j < i + 1 → (t : Bool) → eqb j i ≡ t → Leaf has ps held j (at (set (leaves tree) i x) j)
      go j m true d = rw (eqb-true j i d, get_or-set_same (leaves tree) i x 0 (omega (arith, length_leaves tree s.size))) h
      go j m false d = let d' = eqb-false j i d in rw (get_or-set_other (leaves tree) i j x 0 d') (s.each j (omega arith))

  -- a bid with its key
  pub enters_bid : {x r : ℕ} → i < length ps → r ≡ reach (has i) (open_of held) → x ≡ key_of (at ps i) r i
      → Entering has ps held (set tree (1024 + i) x) (i + 1)
  enters_bid {x} {r} m e k = enters x (record {
    bid = λ q. k ∙ rw e (sym (key_at_lem has ps (open_of held) i));
    past = λ q. absurd (omega arith);
  })

  -- past the last bid
  pub enters_out : length ps ≤ i → Entering has ps held (set tree (1024 + i) out) (i + 1)
  enters_out m = enters out (record { bid = λ q. absurd (omega arith); past = λ q. refl })

pub enters_all : {has : ℕ → ℕ → Bool} {ps held tree : List ℕ} {i : ℕ} (new : List ℕ) → Entering has ps held tree i
    → 1024 ≤ i → length ps ≤ 1024 → leaves new ≡ leaves tree → Entered has ps held (leaves new)
enters_all {has} {ps} {held} {tree} new s m n e = rw e (record {
  size = length_leaves tree s.size;
  each = λ j l. (s.each j (omega arith)).bid l;
  others = λ j l q. (s.each j (omega arith)).past l;
})
