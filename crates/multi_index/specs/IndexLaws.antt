-- Chains of nodes: how they are walked, and what a node put in front of one does to all of them. Assumes nothing.
use Rattle.std.specs.Prelude.{◌≡◌, refl, ◌⊎◌, List, ℕ, zero, suc, ◌+◌, ◌*◌, ◌/◌, ◌%◌, ◌≤◌, ◌<◌}
use Rattle.std.specs.Prelude.{length, set}
use Rattle.std.proofs.Common.{ap, ◌∙◌, inl, inr, ⊎_elim, arith, length-set, get_or-set_same, get_or-set_other}
use Rattle.cells.proofs.StoreLaws.{lt_or_le, ne_or_eq}
use Rattle.multi_keys.specs.Keys.{at}
use Rattle.multi_index.specs.Index.{bid_at, next_at, mask_at, Lists, Chained}
use Rattle.multi_index.specs.Enlisted.{Pushed, Kept}

-- ---- walking a chain
pub chain_end : (index : List ℕ) (f i m : ℕ) → Lists index f 0 i m → ⊥
chain_end index zero i m l = l
chain_end index (suc f) i m l = omega (arith, l.0)

pub lists_more : (index : List ℕ) (f g t i m : ℕ) → f ≤ g → Lists index f t i m → Lists index g t i m
lists_more index zero g t i m h l = absurd l
lists_more index (suc f) zero t i m h l = absurd (omega arith)
lists_more index (suc f) (suc g) t i m h l = (
  l.0,
  ⊎_elim (λ e. inl e) (λ r. inr (lists_more index f g (next_at index t) i m (omega arith) r)) l.1,
)

pub chained_more : {n k : ℕ} {index : List ℕ} {top : ℕ} → n ≤ k → Chained n index top → Chained k index top
chained_more h c = record {
  heads = c.heads;
  room = c.room;
  next = c.next;
  earlier = c.earlier;
  bids = λ t a b. omega (arith, c.bids t a b);
}

-- from a node on: it is the one, or the chain that follows has it
pub chain_step : {n : ℕ} {index : List ℕ} {top : ℕ} → Chained n index top → (t : ℕ) → 158 ≤ t → t < top → (i m : ℕ)
    → Lists index top t i m → ((bid_at index t ≡ i) × (mask_at index t ≡ m)) ⊎ Lists index top (next_at index t) i m
chain_step {index = index} {top} c t a b i m l = go top l (omega arith)
  where
    go : (f : ℕ) → Lists index f t i m → f ≤ top
        → ((bid_at index t ≡ i) × (mask_at index t ≡ m)) ⊎ Lists index top (next_at index t) i m
    go zero l h = absurd l
    go (suc f) l h = ⊎_elim (λ e. inl e) (λ r. inr (lists_more index f top (next_at index t) i m (omega arith) r)) l.1

-- a chain of nodes past the first 158 is the same in a list that has the same nodes there
pub lists_same : {n : ℕ} {old : List ℕ} {top : ℕ} → Chained n old top → (new : List ℕ)
    → ((p : ℕ) → 316 ≤ p → p < 2 * top → at new p ≡ at old p) → (f s : ℕ) → (s ≡ 0) ⊎ ((158 ≤ s) × (s < top))
    → (i m : ℕ) → Lists old f s i m → Lists new f s i m
lists_same c new e zero s h i m l = absurd l
lists_same c new e (suc f) s (inl z) i m l = absurd (omega (arith, l.0))
lists_same {old = old} {top} c new e (suc f) s (inr h) i m l = (
  l.0,
  ⊎_elim (λ r. inl (ap (λ (x : ℕ). x % 1024) first ∙ r.0, e (2 * s + 1) (omega (arith, h)) (omega (arith, h)) ∙ r.1))
      (λ r. inr (rw first (lists_same c new e f (next_at old s) (c.next s h.1) i m r))) l.1,
)
  where
    first : at new (2 * s) ≡ at old (2 * s)
    first = e (2 * s) (omega (arith, h)) (omega (arith, h))

-- ---- a node put in front of a chain
pub push_stores : (old : List ℕ) (q t i m v : ℕ) → q < t → 2 * t + 2 ≤ length old
    → v % 1024 ≡ i → v / 1024 ≡ next_at old q
    → Pushed old q t i m (set (set (set old (2 * t) v) (2 * t + 1) m) (2 * q) (1024 * t))
push_stores old q t i m v l f bid next = record {
  head = ap (λ (x : ℕ). x / 1024) (get_or-set_same two (2 * q) (1024 * t) 0 (simp length-set (omega arith))) ∙ omega arith;
  bid = ap (λ (x : ℕ). x % 1024) node ∙ bid;
  mask = get_or-set_other two (2 * q) (2 * t + 1) (1024 * t) 0 (λ e. omega arith)
      ∙ get_or-set_same one (2 * t + 1) m 0 (simp length-set (omega arith));
  next = ap (λ (x : ℕ). x / 1024) node ∙ next;
  others = λ p a b. get_or-set_other two (2 * q) p (1024 * t) 0 b ∙ get_or-set_other one (2 * t + 1) p m 0 (λ e. omega arith)
      ∙ get_or-set_other old (2 * t) p v 0 (λ e. omega arith);
}
  where
    one : List ℕ
    one = set old (2 * t) v

    two : List ℕ
    two = set one (2 * t + 1) m

    node : at (set two (2 * q) (1024 * t)) (2 * t) ≡ v
    node = get_or-set_other two (2 * q) (2 * t) (1024 * t) 0 (λ e. omega arith)
        ∙ get_or-set_other one (2 * t + 1) (2 * t) m 0 (λ e. omega arith) ∙ get_or-set_same old (2 * t) v 0 (omega arith)

module _ {n : ℕ} {old : List ℕ} {t : ℕ} (c : Chained n old t) {q i m : ℕ} {new : List ℕ} (p : Pushed old q t i m new)
    (l : q < 158) where
  -- a node that is there already goes on as before, but for q's first
  node_same : (s : ℕ) → s < t → (s ≡ q → ⊥) → at new (2 * s) ≡ at old (2 * s)
  node_same s a b = p.others (2 * s) (omega arith) (λ e. b (omega arith))

  first_next : (s : ℕ) → s ≡ q → next_at new s ≡ t
  first_next s e = ap (next_at new) e ∙ p.head

  new_next : (s : ℕ) → s ≡ t → next_at new s ≡ next_at old q
  new_next s e = ap (next_at new) e ∙ p.next

  old_next : (next_at old q ≡ 0) ⊎ ((158 ≤ next_at old q) × (next_at old q < t))
  old_next = c.next q (omega (arith, c.heads))

  pub push_chained : i < n → 2 * t + 2 ≤ length new → Chained n new (t + 1)
  push_chained i_in f = record {
    heads = omega (arith, c.heads);
    room = omega arith;
    next = λ s a. ⊎_elim (λ b. ⊎_elim (λ d. weaker (next_at new s) (rw (node_same s b d) (c.next s b)))
        (λ d. inr (omega (arith, c.heads, first_next s d), omega (arith, first_next s d))) (ne_or_eq s q))
        (λ b. weaker (next_at new s) (rw (new_next s (omega arith)) old_next)) (lt_or_le s t);
    earlier = λ s a b. ⊎_elim (λ d. omega (arith, node_same s d (λ e. omega arith), c.earlier s a d))
        (λ d. ⊎_elim (λ z. omega (arith, c.heads, new_next s (omega arith)))
        (λ z. omega (arith, z, new_next s (omega arith))) old_next)
        (lt_or_le s t);
    bids = λ s a b. ⊎_elim (λ d. omega (arith, node_same s d (λ e. omega arith), c.bids s a d))
        (λ d. omega (arith, ap (bid_at new) (same s b d), p.bid)) (lt_or_le s t);
  }
    where
      weaker : (x : ℕ) → (x ≡ 0) ⊎ ((158 ≤ x) × (x < t)) → (x ≡ 0) ⊎ ((158 ≤ x) × (x < t + 1))
      weaker x o = ⊎_elim (λ z. inl z) (λ z. inr (z.0, omega (arith, z))) o

      same : (s : ℕ) → s < t + 1 → t ≤ s → s ≡ t
      same s a b = omega arith

  tail_same : (s : ℕ) → (s ≡ 0) ⊎ ((158 ≤ s) × (s < t)) → (j k : ℕ) → Lists old t s j k → Lists new t s j k
  tail_same s h j k = lists_same c new (λ x a b. p.others x b (λ e. omega arith)) t s h j k

  -- from the new node on: it is the one, or what followed q's first node has it
  from_new : (j k : ℕ) → ((i ≡ j) × (m ≡ k)) ⊎ Lists old t (next_at old q) j k → Lists new (suc t) t j k
  from_new j k o = (
    omega (arith, c.heads),
    ⊎_elim (λ e. inl (p.bid ∙ e.0, p.mask ∙ e.1)) (λ h. inr (rw p.next (tail_same (next_at old q) old_next j k h))) o,
  )

  pub push_own : Lists new (t + 1) (next_at new q) i m
  push_own = rw p.head (lists_more new (suc t) (t + 1) t i m (omega arith) (from_new i m (inl (refl, refl))))

  pub push_kept : Kept old t new (t + 1)
  push_kept r j k a h = ⊎_elim
      (λ d. rw (node_same r (omega (arith, c.heads)) d)
      (lists_more new t (t + 1) (next_at old r) j k (omega arith)
      (tail_same (next_at old r) (c.next r (omega (arith, c.heads))) j k h)))
      (λ d. rw (first_next r d) (lists_more new (suc t) (t + 1) t j k (omega arith) (from_new j k (inr (rw d at h))))) (ne_or_eq r q)
