-- Words with their lowest bit turned: laws. Assumes nothing.
use Rattle.std.specs.Prelude.{ℕ, zero, suc, ◌+◌, ◌*◌, ◌/◌, ◌%◌, ◌<◌, ◌≡◌, refl, List, [], ◌∷◌, length}
use Rattle.std.specs.Prelude.{get_or, set, replicate}
use Rattle.std.proofs.Common.{sym, ap, ◌∙◌, arith}
use Rattle.std.specs.Int.Bits.{bit_xor, differ, xor_step, xor_zero_r}
use Rattle.numbers.specs.Members.{members}

-- a word whose lowest bit is turned
turned : (w : ℕ) → bit_xor w 1 ≡ w / 2 * 2 + differ (w % 2) 1
turned w = xor_step w 1 ∙ ap (λ (x : ℕ). x * 2 + differ (w % 2) 1) (xor_zero_r (w / 2))

-- turned twice it is what it was
pub turned_twice : (w : ℕ) → bit_xor (bit_xor w 1) 1 ≡ w
turned_twice w = go (w % 2) refl
  where
    go : (d : ℕ) → w % 2 ≡ d → bit_xor (bit_xor w 1) 1 ≡ w
    go zero e =
        let h : bit_xor w 1 ≡ w / 2 * 2 + 1 = turned w ∙ rw e in
        let b : bit_xor w 1 % 2 ≡ 1 = omega arith in
        turned (bit_xor w 1) ∙ rw b (omega arith)
    go (suc zero) e =
        let h : bit_xor w 1 ≡ w / 2 * 2 + 0 = turned w ∙ rw e in
        let b : bit_xor w 1 % 2 ≡ 0 = omega arith in
        turned (bit_xor w 1) ∙ rw b (omega arith)
    go (suc (suc d)) e = absurd (omega arith)

-- words of 1 have none
pub members_none : (n : ℕ) → members (replicate n 1) ≡ replicate n 0
unfolding members
members_none zero = refl
members_none (suc n) = ap (λ r. 0 ∷ r) (members_none n)

pub members_length : (ws : List ℕ) → length (members ws) ≡ length ws
unfolding members
members_length [] = refl
members_length (w ∷ ws) = ap suc (members_length ws)

pub members_same : (ws vs : List ℕ) → length ws ≡ length vs → length (members ws) ≡ length (members vs)
members_same ws vs e = members_length ws ∙ e ∙ sym (members_length vs)

pub member_word : (ws : List ℕ) (q : ℕ) → q < length ws → get_or (members ws) q 0 ≡ bit_xor (get_or ws q 0) 1
unfolding members
member_word [] q h = absurd (omega arith)
member_word (w ∷ ws) zero h = refl
member_word (w ∷ ws) (suc q) h = member_word ws q (omega arith)

pub members_set : (ws : List ℕ) (q v : ℕ) → members (set ws q v) ≡ set (members ws) q (bit_xor v 1)
unfolding members
members_set [] q v = refl
members_set (w ∷ ws) zero v = refl
members_set (w ∷ ws) (suc q) v = ap (λ r. bit_xor w 1 ∷ r) (members_set ws q v)
