-- Bids given by lists, seen from the other end: costs up to a start are costs from an end on. Assumes nothing.
use Rattle.std.specs.Prelude.{◌≡◌, Bool, true, false, ◌&&◌, List, ℕ, ◌+◌, ◌-◌, ◌^◌, ◌≤◌, ◌<◌, ltb, leb}
use Rattle.std.specs.Prelude.{eqb, length, set}
use Rattle.std.proofs.Math.Path.{refl}
use Rattle.std.proofs.Common.{sym, ap, ◌∙◌, arith, get_or-set_same, get_or-set_other, eqb-true}
use Rattle.std.proofs.Math.ListN.{get_or}
use Rattle.std.proofs.lemmas.Bool.{eqb-false}
use Rattle.cover.specs.Sets.{Found, cost}
use Rattle.cover.proofs.SetLaws.{hit_of}
use Rattle.cover.specs.Settled.{spans}
use Rattle.cover.specs.Intervals.{covers_from, least_set, found_cost}
use Rattle.cover.proofs.Intervals.ScanLaws.{Family, least_same, right_least}
use Rattle.cover.proofs.Intervals.PrefixLaws.{least_set_is, least_set_right}
use Rattle.cover.proofs.Intervals.CoverLaws.{covers_of, meets_at}
use Rattle.cover.proofs.Intervals.SuffixLaws.{mirrored, turned, suffix}
use Rattle.cover.specs.Intervals.Bids.{covers_below, least_below, cost_below, cost_after, Mirrored}

pub mirrored_none : (a b x y : List ℕ) (L : ℕ) → Mirrored a b x y L 0
mirrored_none a b x y L = record { starts = λ i l. absurd (omega arith); ends = λ i l. absurd (omega arith) }

pub mirrored_more : (a b x y : List ℕ) (L n : ℕ) → n < length x → n < length y → Mirrored a b x y L n
    → Mirrored a b (set x n (L - get_or b n 0)) (set y n (L - get_or a n 0)) L (n + 1)
mirrored_more a b x y L n l d h = record {
  starts = λ i u. one x (λ j. L - get_or b j 0) l h.starts i u (eqb i n) refl;
  ends = λ i u. one y (λ j. L - get_or a j 0) d h.ends i u (eqb i n) refl;
}
  where
    one : (z : List ℕ) (f : ℕ → ℕ) → n < length z → ((i : ℕ) → i < n → get_or z i 0 ≡ f i) → (i : ℕ) → i < n + 1
        → (s : Bool) → eqb i n ≡ s
        → get_or (set z n (f n)) i 0 ≡ f i
    one z f l g i u true e = rw (eqb-true i n e) (get_or-set_same z n (f n) 0 l)
    one z f l g i u false e = get_or-set_other z n i (f n) 0 (eqb-false i n e) ∙ g i (omega (arith, eqb-false i n e))

module _ (a b x y : List ℕ) (L n : ℕ) (h : Mirrored a b x y L n) where
  far_cells : (i z : ℕ) → i < n → z < L → spans a b i (mirrored L z) ≡ leb (L - get_or b i 0) z && ltb z (L - get_or a i 0)
  unfolding spans
  far_cells = turned L (spans a b) n (λ i. get_or a i 0) (λ i. get_or b i 0) (λ i x l k. refl)

  near_cells : (i z : ℕ) → i < n → z < L → spans x y i z ≡ leb (get_or x i 0) z && ltb z (get_or y i 0)
  unfolding spans
  near_cells i z l k = refl

  same_cells : (i z : ℕ) → i < n → z < L → spans x y i z ≡ spans a b i (mirrored L z)
  same_cells i z l d = near_cells i z l d ∙ rw (h.starts i l, h.ends i l) (sym (far_cells i z l d))

  to : (t s : ℕ) → t ≤ L → covers_from (λ z. z) 0 (spans x y) n t s ≡ true
      → covers_from (mirrored L) 0 (spans a b) n t s ≡ true
  to t s f e = covers_of (mirrored L) 0 L (spans a b) n (λ i. L - get_or b i 0) (λ i. L - get_or a i 0) far_cells t s
      (λ z u g. let m = meets_at (λ z. z) 0 L (spans x y) n (λ i. get_or x i 0) (λ i. get_or y i 0) near_cells t s z e u g in
      hit_of (spans a b) n s (mirrored L z) m.who m.inside m.in_set
      (sym (same_cells m.who z m.inside (omega arith)) ∙ m.covers_it))

  fro : (t s : ℕ) → t ≤ L → covers_from (mirrored L) 0 (spans a b) n t s ≡ true
      → covers_from (λ z. z) 0 (spans x y) n t s ≡ true
  fro t s f e = covers_of (λ z. z) 0 L (spans x y) n (λ i. get_or x i 0) (λ i. get_or y i 0) near_cells t s
      (λ z u g. let m = meets_at (mirrored L) 0 L (spans a b) n (λ i. L - get_or b i 0) (λ i. L - get_or a i 0) far_cells t s z e u g in
      hit_of (spans x y) n s z m.who m.inside m.in_set (same_cells m.who z m.inside (omega arith) ∙ m.covers_it))

  mirrored_least : (f : ℕ → ℕ) (k t : ℕ) → t ≤ L → least_set (covers_from (λ z. z) 0 (spans x y) n) f k t
      ≡ least_set (covers_from (mirrored L) 0 (spans a b) n) f k t
  mirrored_least f k t l = least_set_is (covers_from (mirrored L) 0 (spans a b) n) f k t r
      (least_same (Family (covers_from (λ z. z) 0 (spans x y) n t) (2 ^ k)) (Family (covers_from (mirrored L) 0 (spans a b) n t) (2 ^ k)) f
      (λ s q. record { inside = q.inside; good = to t s l q.good }) (λ s q. record { inside = q.inside; good = fro t s l q.good })
      r (right_least (covers_from (λ z. z) 0 (spans x y) n t) f (2 ^ k) r (least_set_right (covers_from (λ z. z) 0 (spans x y) n) f k t)))
    where
      r : Found
      r = least_set (covers_from (λ z. z) 0 (spans x y) n) f k t

pub mirrored_cost : (a b x y ps : List ℕ) (L : ℕ) → Mirrored a b x y L (length ps) → (i : ℕ) → i < length ps
    → cost_below x y ps (get_or x i 0) ≡ cost_after a b ps L i
unfolding cost_below least_below covers_below cost_after spans
mirrored_cost a b x y ps L h i l = rw (h.starts i l) (ap (found_cost (cost ps))
    (mirrored_least a b x y L (length ps) h (cost ps) (length ps) (L - get_or b i 0) (omega arith)
    ∙ sym (suffix L (spans a b) (length ps) (λ i. get_or a i 0) (λ i. get_or b i 0) (λ i x l k. refl) (cost ps) (length ps) (get_or b i 0))))
