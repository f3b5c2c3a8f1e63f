-- The cells from u to L, counted from the end: the same laws in order of end. Assumes nothing.
use Rattle.std.specs.Prelude.{◌≡◌, refl, Bool, false, ◌&&◌, ℕ, ◌-◌, ◌^◌, ◌≤◌, ◌<◌, ltb, leb}
use Rattle.std.proofs.Common.{ap, ◌∙◌, arith, ltb-true, ltb-false, leb-true, leb-false, lt-ltb, le-ltb, le-leb}
use Rattle.std.proofs.Math.Bool.{true}
use Rattle.std.proofs.lemmas.Bool.{lt-leb}
use Rattle.cover.specs.Sets.{Found, hit}
use Rattle.cover.proofs.SetLaws.{Member, hit_of}
use Rattle.cover.specs.Intervals.{covers_from, least_set}
use Rattle.cover.proofs.Intervals.ScanLaws.{Family, least_same, right_least}
use Rattle.cover.proofs.Intervals.PrefixLaws.{least_set_is, least_set_right}
use Rattle.cover.proofs.Intervals.CoverLaws.{covers_of, meets_at}

unfoldable pub mirrored : ℕ → ℕ → ℕ
mirrored L y = L - 1 - y

module _ (L : ℕ) (has : ℕ → ℕ → Bool) (n : ℕ) (a b : ℕ → ℕ)
    (sees : (i x : ℕ) → i < n → x < L → has i x ≡ leb (a i) x && ltb x (b i)) where
  test : (s y : ℕ) → y < L → leb s (L - 1 - y) ≡ ltb y (L - s)
  test s y l = go (ltb y (L - s)) refl
    where
      go : (t : Bool) → ltb y (L - s) ≡ t → leb s (L - 1 - y) ≡ t
      go true e = le-leb s (L - 1 - y) (omega (arith, ltb-true y (L - s) e))
      go false e = lt-leb s (L - 1 - y) (omega (arith, ltb-false y (L - s) e))

  test_past : (s y : ℕ) → y < L → ltb (L - 1 - y) s ≡ leb (L - s) y
  test_past s y l = go (leb (L - s) y) refl
    where
      go : (t : Bool) → leb (L - s) y ≡ t → ltb (L - 1 - y) s ≡ t
      go true e = lt-ltb (L - 1 - y) s (omega (arith, leb-true (L - s) y e))
      go false e = le-ltb (L - 1 - y) s (omega (arith, leb-false (L - s) y e))

  swap : (s t : Bool) → s && t ≡ t && s
  swap true true = refl
  swap true false = refl
  swap false true = refl
  swap false false = refl

  pub turned : (i y : ℕ) → i < n → y < L → has i (mirrored L y) ≡ leb (L - b i) y && ltb y (L - a i)
  unfolding mirrored
  turned i y j l = sees i (L - 1 - y) j (omega arith)
      ∙ rw (test (a i) y l, test_past (b i) y l) (swap (ltb y (L - a i)) (leb (L - b i) y))

  there : (u s : ℕ) → covers_from (λ x. x) u has n L s ≡ true → covers_from (mirrored L) 0 has n (L - u) s ≡ true
  unfolding mirrored
  there u s e = covers_of (mirrored L) 0 L has n (λ i. L - b i) (λ i. L - a i) turned (L - u) s
      (λ y z g. let m = meets_at (λ x. x) u L has n a b sees L s (L - 1 - y) e (omega arith) (omega arith) in
      hit_of has n s (L - 1 - y) m.who m.inside m.in_set m.covers_it)

  back : (u s : ℕ) → covers_from (mirrored L) 0 has n (L - u) s ≡ true → covers_from (λ x. x) u has n L s ≡ true
  unfolding mirrored
  back u s e = covers_of (λ x. x) u L has n a b sees L s
      (λ x z g. go x z g (meets_at (mirrored L) 0 L has n (λ i. L - b i) (λ i. L - a i) turned (L - u) s (L - 1 - x) e (omega arith)
      (omega arith)))
    where
      go : (x : ℕ) → u ≤ x → x < L → Member has n s (L - 1 - (L - 1 - x)) → hit has n s x ≡ true
      go x z g m = hit_of has n s x m.who m.inside m.in_set (ap (has m.who) (omega arith) ∙ m.covers_it)

  pub suffix : (cost : ℕ → ℕ) (m u : ℕ) → least_set (covers_from (λ x. x) u has n) cost m L
      ≡ least_set (covers_from (mirrored L) 0 has n) cost m (L - u)
  suffix cost m u = least_set_is (covers_from (mirrored L) 0 has n) cost m (L - u) r
      (least_same (Family (covers_from (λ x. x) u has n L) (2 ^ m)) (Family (covers_from (mirrored L) 0 has n (L - u)) (2 ^ m)) cost
      (λ s q. record { inside = q.inside; good = there u s q.good }) (λ s q. record { inside = q.inside; good = back u s q.good })
      r (right_least (covers_from (λ x. x) u has n L) cost (2 ^ m) r (least_set_right (covers_from (λ x. x) u has n) cost m L)))
    where
      r : Found
      r = least_set (covers_from (λ x. x) u has n) cost m L
