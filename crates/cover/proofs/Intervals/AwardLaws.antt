-- The auction's winners and what each is paid, by the laws of bids with one run of cells each. Assumes nothing.
use Rattle.std.specs.Prelude.{◌≡◌, refl, Bool, true, ◌&&◌, ◌||◌, List, ℕ, zero, suc, ◌^◌, ◌<◌, ltb, leb, length}
use Rattle.std.specs.Prelude.{get_or}
use Rattle.std.proofs.Common.{sym, ap, ◌∙◌, arith, le-ltb}
use Rattle.std.proofs.Math.Path.{fun_ext}
use Rattle.cover.specs.Sets.{Found, all, bit, cost, covers, found, hit, nothing, value_of}
use Rattle.cover.specs.LeastCover.{first, payment, vcg_paid, winners, without}
use Rattle.cover.proofs.SetMemberLaws.{cost_none}
use Rattle.cover.specs.Intervals.{Order, found_cost, covers_from, least_set, plus, reaches, scan}
use Rattle.cover.proofs.Intervals.PrefixLaws.{Prefixes, award}
use Rattle.cover.proofs.Intervals.CoverLaws.{covers_prefixes, priced}

all_same : (n : ℕ) (P Q : ℕ → Bool) → ((x : ℕ) → P x ≡ Q x) → all n P ≡ all n Q
unfolding all
all_same zero P Q f = refl
all_same (suc n) P Q f = rw (f n, all_same n P Q f)

pub covers_is : (has : ℕ → ℕ → Bool) (n : ℕ) (t s : ℕ) → covers_from (λ x. x) 0 has n t s ≡ covers has n t s
unfolding covers_from covers
covers_is has n t s = all_same t (λ x. ltb x 0 || hit has n s x) (hit has n s)
    (λ x. ap (λ c. c || hit has n s x) (le-ltb x 0 (omega arith)))

pub winners_are : (L : ℕ) (has : ℕ → ℕ → Bool) (n : ℕ) (ps : List ℕ)
    → winners (covers has n L) ps ≡ value_of (least_set (covers_from (λ x. x) 0 has n) (cost ps) (length ps) L)
unfolding winners least_set
winners_are L has n ps = ap (λ ok. value_of (first ok (cost ps) (2 ^ length ps))) (fun_ext (λ s. sym (covers_is has n L s)))

pub others_are : (L : ℕ) (has : ℕ → ℕ → Bool) (n : ℕ) (ps : List ℕ) (k : ℕ)
    → winners (without k (covers has n L)) ps ≡ value_of
    (least_set (λ t s. without k (covers_from (λ x. x) 0 has n t) s) (cost ps) (length ps) L)
unfolding winners least_set
others_are L has n ps k = ap (λ ok. value_of (first (λ s. without k ok s) (cost ps) (2 ^ length ps)))
    (fun_ext (λ s. sym (covers_is has n L s)))

pub cost_value : (ps : List ℕ) (r : Found) → cost ps (value_of r) ≡ value_of (found_cost (cost ps) r)
unfolding value_of found_cost
cost_value ps nothing = cost_none ps
cost_value ps (found s) = refl

-- what k is paid, from the winners and the least cost without it
pub paid_is : (L : ℕ) (has : ℕ → ℕ → Bool) (n : ℕ) (ps : List ℕ) (k : ℕ) →
    let m = winners (covers has n L) ps in
    vcg_paid (covers has n L) ps k ≡ payment (bit m k)
    (value_of (found_cost (cost ps) (least_set (λ t s. without k (covers_from (λ x. x) 0 has n t) s) (cost ps) (length ps) L))) (cost ps m)
    (get_or ps k 0)
unfolding vcg_paid
paid_is L has n ps k = rw (
  others_are L has n ps k,
  cost_value ps (least_set (λ t s. without k (covers_from (λ x. x) 0 has n t) s) (cost ps) (length ps) L),
)

module _ (L : ℕ) (has : ℕ → ℕ → Bool) (ps : List ℕ) (a b : ℕ → ℕ)
    (sees : (i x : ℕ) → i < length ps → x < L → has i x ≡ leb (a i) x && ltb x (b i)) where
  pub whole : (o : ℕ) → Prefixes (length ps) o L a b (λ i. true) (covers_from (λ x. x) o has (length ps))
  whole o = covers_prefixes (λ x. x) o L has (length ps) a b sees

  -- the winners by one scan of the bids that reach the end, in order of start
  pub award_is : (at : ℕ → ℕ) (v : ℕ → Found) → Order (length ps) a at → 0 < L
      → ((q : ℕ) → q < length ps → a (at q) < L → v q
      ≡ plus (at q) (least_set (covers_from (λ x. x) 0 has (length ps)) (cost ps) (length ps) (a (at q))))
      → winners (covers has (length ps) L) ps ≡ value_of (scan (cost ps) (reaches a b (λ i. true) at L) v (length ps))
  award_is at v o z values = winners_are L has (length ps) ps
      ∙ ap value_of (sym (award (length ps) 0 L a b (λ i. get_or ps i 0) (cost ps) (λ i. true) (covers_from (λ x. x) 0 has (length ps))
      (whole 0) (priced ps) at o v z values))
