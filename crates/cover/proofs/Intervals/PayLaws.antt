-- What covering costs without bid k: split at its last cell. Assumes nothing.
use Rattle.std.specs.Prelude.{◌≡◌, Bool, ℕ, ◌≤◌, ◌<◌}
use Rattle.std.proofs.Common.{sym, ap, ◌∙◌, arith}
use Rattle.cover.specs.Sets.{Found}
use Rattle.cover.specs.LeastCover.{without}
use Rattle.cover.specs.Intervals.{At, across, found_cost, least_set, may_but, reaches, scan_cost}
use Rattle.cover.proofs.Intervals.PrefixLaws.{Prefixes, AddsUp}
use Rattle.cover.proofs.Intervals.CoverLaws.{without_prefixes}
use Rattle.cover.proofs.Intervals.SplitLaws.{split_cost, unneeded}

module _ (n L : ℕ) (a b p cost : ℕ → ℕ) (may : ℕ → Bool) (ok : ℕ → ℕ → ℕ → Bool)
    (h : (o : ℕ) → Prefixes n o L a b may (ok o))
    (c : AddsUp n p cost) (k : ℕ) (l : k < n) where
  -- up to its start, as with it
  pub near : (o u : ℕ) → u ≤ a k → u ≤ L → least_set (λ t s. without k (ok o t) s) cost n u ≡ least_set (ok o) cost n u
  near o u d f = unneeded n o L a b p cost may (ok o) (h o) c k u l f (λ x z g y w. omega arith)

  -- from its end on, as with it
  pub far : (o : ℕ) → b k ≤ o → least_set (λ t s. without k (ok o t) s) cost n L ≡ least_set (ok o) cost n L
  far o d = unneeded n o L a b p cost may (ok o) (h o) c k L l (omega arith) (λ x z g y w. omega arith)

  -- THE PAYMENT LAW
  pub cost_without_lem : (at : ℕ → ℕ) (w : ℕ → Found) (m o : ℕ) → o < b k → b k ≤ L
      → ((q : ℕ) → q < m → at q < n)
      → ((i : ℕ) → i < n → a i < b k → b k ≤ b i → At at m i)
      → ((q : ℕ) → q < m → a (at q) < b k → b k ≤ b (at q)
      → w q ≡ across (p (at q)) (found_cost cost (least_set (λ t s. without k (ok o t) s) cost n (a (at q))))
      (found_cost cost (least_set (ok (b (at q))) cost n L)))
      → scan_cost (reaches a b (may_but k may) at (b k)) w m ≡ found_cost cost (least_set (λ t s. without k (ok o t) s) cost n L)
  cost_without_lem at w m o z f bids every values = split_cost n L a b p cost (may_but k may) (λ o t s. without k (ok o t) s)
      (λ o. without_prefixes n o L a b may (ok o) k (h o)) c
      at w m o (b k) z f bids every
      (λ q d x y. values q d x y ∙ ap (λ r. across (p (at q))
      (found_cost cost (least_set (λ t s. without k (ok o t) s) cost n (a (at q))))
      (found_cost cost r)) (sym (far (b (at q)) y)))
