-- While the bid that ends the least set reaches, the least set stays. Assumes nothing.
use Rattle.std.proofs.Math.Path.{◌≡◌, refl, ap}
use Rattle.std.proofs.Common.{sym}
use Rattle.std.specs.Prelude.{Bool, true, ℕ, ◌+◌, ◌^◌, ◌≤◌, ◌<◌}
use native.Mathlib.Omega.{arith}
use Rattle.cover.specs.Sets.{Found, nothing, found}
use Rattle.cover.proofs.LeastCoverLaws.{IsFirst}
use Rattle.cover.specs.Intervals.{found_cost, least_set, plus, raise}
use Rattle.cover.proofs.Intervals.ScanLaws.{Family, IsLeast, found_one, none_found}
use Rattle.cover.proofs.Intervals.PrefixLaws.{Prefixes, AddsUp, least_set_is, least_set_right, upper, upper_cost}

module _ (n o L : ℕ) (a b p cost : ℕ → ℕ) (may : ℕ → Bool) (ok : ℕ → ℕ → Bool) (h : Prefixes n o L a b may ok)
    (c : AddsUp n p cost) where
  pub stays : (i u t : ℕ) → i < n → may i ≡ true → a i < u → u ≤ t → t ≤ b i → t ≤ L
      → least_set ok cost n u ≡ plus i (least_set ok cost n (a i)) → least_set ok cost n u ≡ least_set ok cost n t
  unfolding plus
  stays i u t l y d g e f q = least_set_is ok cost n t (least_set ok cost n u)
      (go (least_set ok cost n (a i)) q (least_set_right ok cost n (a i)) (least_set ok cost n u) refl (least_set_right ok cost n u))
    where
      go : (x : Found) → least_set ok cost n u ≡ plus i x → IsFirst (ok (a i)) cost (2 ^ n) x → (r : Found)
          → least_set ok cost n u ≡ r
          → IsFirst (ok u) cost (2 ^ n) r → IsLeast (Family (ok t) (2 ^ n)) cost r
      go x q v nothing z w = λ s m. w s m.inside (h.less t u s g m.good)
      go nothing q v (found s) z w = let z : ◌≡◌ {A = ℕ} 0 1 = cc in absurd (omega arith)
      go (found m) q v (found s) z w = record {
        good = rw (same) (upper n o L a b p cost may ok h c t i m f l y (omega arith) e v);
        fore = λ x m. let k = h.less t u x g m.good in
            record { cheap = w.least x m.inside k; early = λ e. w.earliest x m.inside k (sym e) };
      }
        where
          same : s ≡ m + 2 ^ i
          same = cc

  -- the same of the costs alone
  pub stays_cost : (i u t : ℕ) → i < n → may i ≡ true → a i < u → u ≤ t → t ≤ b i → t ≤ L
      → found_cost cost (least_set ok cost n u) ≡ raise (p i) (found_cost cost (least_set ok cost n (a i)))
      → found_cost cost (least_set ok cost n u) ≡ found_cost cost (least_set ok cost n t)
  unfolding found_cost raise
  stays_cost i u t l y d g e f q = go (least_set ok cost n (a i)) (least_set_right ok cost n (a i)) (least_set ok cost n u)
      (least_set_right ok cost n u) q (least_set ok cost n t) (least_set_right ok cost n t)
    where
      go : (x : Found) → IsFirst (ok (a i)) cost (2 ^ n) x → (r : Found) → IsFirst (ok u) cost (2 ^ n) r
          → found_cost cost r ≡ raise (p i) (found_cost cost x) → (z : Found) → IsFirst (ok t) cost (2 ^ n) z
          → found_cost cost r ≡ found_cost cost z
      go x v nothing w q nothing k = refl
      go x v nothing w q (found z) k = absurd (w z k.inside (h.less t u z g k.good))
      go nothing v (found s) w q z k = absurd (none_found (sym q))
      go (found m) v (found s) w q nothing k = let j = upper n o L a b p cost may ok h c t i m f l y (omega arith) e v in
          absurd (k (m + 2 ^ i) j.inside j.good)
      go (found m) v (found s) w q (found z) k = let j = upper n o L a b p cost may ok h c t i m f l y (omega arith) e v in
          ap found (omega (
            arith,
            found_one q,
            upper_cost n o L a b p cost may ok h c i m l (omega arith) v,
            k.least (m + 2 ^ i) j.inside j.good,
            w.least z k.inside (h.less t u z g k.good),
          ))
