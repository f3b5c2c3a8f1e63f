-- Laws of the tree: node 1 has the least key of all, one key changed, and all nodes played. Assumes nothing.
use Rattle.std.specs.Prelude.{◌≡◌, refl, ◌⊎◌, Bool, true, false, List, ℕ, zero, suc, ◌+◌, ◌-◌, ◌*◌, ◌/◌}
use Rattle.std.specs.Prelude.{◌%◌, ◌^◌, ◌≤◌, ◌<◌, min, length, set, eqb, ltb}
use Rattle.std.proofs.Common.{sym, ap, ◌∙◌, inl, inr, ⊎_elim, pow-suc, arith, pow_pos, length-set, length-drop, get_or-set_same}
use Rattle.std.proofs.Common.{get_or-set_other, get_or-drop, drop-set-lt, eqb-true, ltb-true, ltb-false}
use Rattle.std.specs.Int.Bits.{bit_xor, differ, xor_step, xor_zero_r}
use Rattle.std.proofs.lemmas.List.{drop-set-add}
use Rattle.std.proofs.lemmas.Bool.{eqb-false}
use Rattle.multi_keys.specs.Keys.{at}
use Rattle.multi_keys.specs.Tree.{leaves, Tree}

pub leaf_at : (tree : List ℕ) (i : ℕ) → at (leaves tree) i ≡ at tree (1024 + i)
unfolding leaves
leaf_at tree i = get_or-drop 1024 tree i 0

pub length_leaves : (tree : List ℕ) → length tree ≡ 2048 → length (leaves tree) ≡ 1024
unfolding leaves
length_leaves tree e = simp length-drop (omega arith)

-- a fact of the list after one store
pub set_at : (P : ℕ → ℕ → Type 0) (xs : List ℕ) (i v : ℕ) → i < length xs → P i v → ((j : ℕ) → P j (at xs j))
    → (j : ℕ)
    → P j (at (set xs i v) j)
set_at P xs i v l h f j = go (eqb j i) refl
  where
    go : (t : Bool) → eqb j i ≡ t → P j (at (set xs i v) j)
    go true e = rw (eqb-true j i e, get_or-set_same xs i v 0 l) h
    go false e = rw (get_or-set_other xs i j v 0 (eqb-false j i e)) (f j)

-- the leaves after one store

pub leaves_set : (tree : List ℕ) (i x : ℕ) → leaves (set tree (1024 + i) x) ≡ set (leaves tree) i x
unfolding leaves
leaves_set tree i x = drop-set-add 1024 tree i x

pub leaves_keep : (tree : List ℕ) (v x : ℕ) → v < 1024 → leaves (set tree v x) ≡ leaves tree
unfolding leaves
leaves_keep tree v x l = drop-set-lt 1024 tree v x l

-- a node is one of the two below the one above it
half : (v : ℕ) → (v ≡ 2 * (v / 2)) ⊎ (v ≡ 2 * (v / 2) + 1)
half v = go (ltb (v - 2 * (v / 2)) 1) refl
  where
    go : (t : Bool) → ltb (v - 2 * (v / 2)) 1 ≡ t → (v ≡ 2 * (v / 2)) ⊎ (v ≡ 2 * (v / 2) + 1)
    go true e = inl (omega (arith, ltb-true (v - 2 * (v / 2)) 1 e))
    go false e = inr (omega (arith, ltb-false (v - 2 * (v / 2)) 1 e))

-- the other of the two
pub beside_is : (v : ℕ) → bit_xor v 1 ≡ 4 * (v / 2) + 1 - v
beside_is v = xor_step v 1 ∙ ap (λ (x : ℕ). x * 2 + differ (v % 2) 1) (xor_zero_r (v / 2)) ∙ go (v % 2) refl
  where
    go : (d : ℕ) → v % 2 ≡ d → v / 2 * 2 + differ (v % 2) 1 ≡ 4 * (v / 2) + 1 - v
    go zero e = rw e (omega arith)
    go (suc zero) e = rw e (omega arith)
    go (suc (suc d)) e = absurd (omega arith)

-- a leaf with the key of node v
record Leaf (tree : List ℕ) (v : ℕ) : Type 0 where
  place : ℕ
  inside : place < 1024
  is : at (leaves tree) place ≡ at tree v

-- a leaf with the least key
pub record FirstLeaf (tree : List ℕ) : Type 0 where
  pub place : ℕ
  pub inside : place < 1024
  pub is : at (leaves tree) place ≡ at tree 1

module _ {tree : List ℕ} (t : Tree tree) where
  -- a node's key is at most those below it
  step : (v : ℕ) → 1 < v → v < 2048 → at tree (v / 2) ≤ at tree v
  step v l m = let n = t.node (v / 2) (omega arith) (omega arith) in
      ⊎_elim (λ e. let d = ap (at tree) e in omega (arith, n, d)) (λ e. let d = ap (at tree) e in omega (arith, n, d)) (half v)

  under_first : (f v : ℕ) → v ≤ f → 0 < v → v < 2048 → at tree 1 ≤ at tree v
  under_first zero v l m h = absurd (omega arith)
  under_first (suc f) v l m h = go (eqb v 1) refl (under_first f (v / 2))
    where
      go : (b : Bool) → eqb v 1 ≡ b → (v / 2 ≤ f → 0 < v / 2 → v / 2 < 2048 → at tree 1 ≤ at tree (v / 2))
          → at tree 1 ≤ at tree v
      go true e ih = rw (eqb-true v 1 e) (omega arith)
      go false e ih = let n = eqb-false v 1 e in
          omega (arith, ih (omega arith) (omega arith) (omega arith), step v (omega arith) h)

  pub first_least : (i : ℕ) → i < 1024 → at tree 1 ≤ at (leaves tree) i
  first_least i l = rw (leaf_at tree i) (under_first (1024 + i) (1024 + i) (omega arith) (omega arith) (omega arith))

  -- of the two below a node one has its key
  kept : (v : ℕ) → 0 < v → v < 1024 → (at tree (2 * v) ≡ at tree v) ⊎ (at tree (2 * v + 1) ≡ at tree v)
  kept v l m = let n = t.node v l m in go n (ltb (at tree (2 * v)) (at tree (2 * v + 1))) refl
    where
      go : at tree v ≡ min (at tree (2 * v)) (at tree (2 * v + 1)) → (b : Bool) → ltb (at tree (2 * v)) (at tree (2 * v + 1)) ≡ b
          → (at tree (2 * v) ≡ at tree v) ⊎ (at tree (2 * v + 1) ≡ at tree v)
      go n true e = inl (omega (arith, n, ltb-true (at tree (2 * v)) (at tree (2 * v + 1)) e))
      go n false e = inr (omega (arith, n, ltb-false (at tree (2 * v)) (at tree (2 * v + 1)) e))

  leaf_below : (f v : ℕ) → 2048 ≤ v + f → 0 < v → v < 2048 → Leaf tree v
  leaf_below zero v l m h = absurd (omega arith)
  leaf_below (suc f) v l m h = go (ltb v 1024) refl (leaf_below f (2 * v)) (leaf_below f (2 * v + 1))
    where
      go : (b : Bool) → ltb v 1024 ≡ b → (2048 ≤ 2 * v + f → 0 < 2 * v → 2 * v < 2048 → Leaf tree (2 * v))
          → (2048 ≤ 2 * v + 1 + f → 0 < 2 * v + 1 → 2 * v + 1 < 2048 → Leaf tree (2 * v + 1)) → Leaf tree v
      go true e ih jh = let y = ltb-true v 1024 e in
          ⊎_elim (λ k. let o = ih (omega arith) (omega arith) (omega arith) in
          record { place = o.place; inside = o.inside; is = o.is ∙ k })
          (λ k. let o = jh (omega arith) (omega arith) (omega arith) in
          record { place = o.place; inside = o.inside; is = o.is ∙ k })
          (kept v m y)
      go false e ih jh = let y = ltb-false v 1024 e in let i : 1024 + (v - 1024) ≡ v = omega arith in
          record { place = v - 1024; inside = omega arith; is = leaf_at tree (v - 1024) ∙ ap (at tree) i }

  pub first_leaf : FirstLeaf tree
  first_leaf = let o = leaf_below 2047 1 (omega arith) (omega arith) (omega arith) in
      record { place = o.place; inside = o.inside; is = o.is }

-- a node has the lesser of the two keys below it
abbrev Lesser : List ℕ → ℕ → Type 0
Lesser tree v = at tree v ≡ min (at tree (2 * v)) (at tree (2 * v + 1))

-- a store at v touches no node but v and the one above
untouched : (tree : List ℕ) (v x u : ℕ) → (u ≡ v → ⊥) → (u ≡ v / 2 → ⊥) → Lesser tree u → Lesser (set tree v x) u
untouched tree v x u n d e = rw (
  get_or-set_other tree v u x 0 n,
  get_or-set_other tree v (2 * u) x 0 (λ z. d (omega arith)),
  get_or-set_other tree v (2 * u + 1) x 0 (λ z. d (omega arith)),
) e

-- a tree after d turns of ten of a new key's way up: node v has x, and of the others only the one above it is still to be played
pub record Putting (tree : List ℕ) (v x d : ℕ) : Type 0 where
  pub size : length tree ≡ 2048
  pub inside : v < 2048
  pub turns : d ≤ 10
  low : 2 ^ (10 - d) ≤ v
  high : v < 2 * 2 ^ (10 - d)
  key : x ≡ at tree v
  node : (u : ℕ) → 0 < u → u < 1024 → (u ≡ v / 2 → ⊥) → at tree u ≡ min (at tree (2 * u)) (at tree (2 * u + 1))

pub put_starts : {tree : List ℕ} → Tree tree → (i x : ℕ) → i < 1024 → Putting (set tree (1024 + i) x) (1024 + i) x 0
put_starts {tree} t i x l = record {
  size = simp length-set t.size;
  inside = omega arith;
  turns = omega arith;
  low = omega arith;
  high = omega arith;
  key = sym (get_or-set_same tree (1024 + i) x 0 (omega (arith, t.size)));
  node = λ u a b n. untouched tree (1024 + i) x u (λ z. omega arith) n (t.node u a b);
}

-- the node above v gets the lesser of x and what stands beside it
pub put_goes : {tree : List ℕ} {v x d y : ℕ} → Putting tree v x d → d < 10 → y ≡ min (at tree (4 * (v / 2) + 1 - v)) x
    → Putting (set tree (v / 2) y) (v / 2) y (d + 1)
put_goes {tree} {v} {x} {d} {y} t l f = record {
  size = simp length-set t.size;
  inside = omega (arith, t.inside);
  turns = omega arith;
  low = omega (arith, t.low, twice);
  high = omega (arith, t.high, twice);
  key = sym (get_or-set_same tree (v / 2) y 0 (omega (arith, t.size, t.inside)));
  node = λ u a b n. go u a b n (eqb u (v / 2)) refl;
}
  where
    twice : 2 ^ (10 - d) ≡ 2 ^ (10 - (d + 1)) * 2
    twice = let e : 10 - d ≡ suc (10 - (d + 1)) = omega arith in rw e (pow-suc 2 (10 - (d + 1)))

    above : 0 < v / 2
    above = omega (arith, t.low, twice, pow_pos (10 - (d + 1)))

    least : y ≡ min (at tree (2 * (v / 2))) (at tree (2 * (v / 2) + 1))
    least = ⊎_elim
        (λ z. let a : 4 * (v / 2) + 1 - v ≡ 2 * (v / 2) + 1 = omega arith in
        omega (arith, t.key, ap (at tree) z, ap (at tree) a, f))
        (λ z. let a : 4 * (v / 2) + 1 - v ≡ 2 * (v / 2) = omega arith in
        omega (arith, t.key, ap (at tree) z, ap (at tree) a, f))
        (half v)

    go : (u : ℕ) → 0 < u → u < 1024 → (u ≡ v / 2 / 2 → ⊥) → (b : Bool) → eqb u (v / 2) ≡ b
        → Lesser (set tree (v / 2) y) u
    go u a b n true e = rw (
      eqb-true u (v / 2) e,
      get_or-set_same tree (v / 2) y 0 (omega (arith, t.size, t.inside)),
      get_or-set_other tree (v / 2) (2 * (v / 2)) y 0 (λ z. omega (arith, above)),
      get_or-set_other tree (v / 2) (2 * (v / 2) + 1) y 0 (λ z. omega arith),
    ) least
    go u a b n false e = let k = eqb-false u (v / 2) e in untouched tree (v / 2) y u k n (t.node u a b k)

pub put_ends : {tree : List ℕ} {v x d : ℕ} → Putting tree v x d → 10 ≤ d → Tree tree
put_ends {tree} {v} {x} {d} t l = record { size = t.size; node = λ u a b. t.node u a b (λ z. omega (arith, top)) }
  where
    top : v < 2
    top = let e : d ≡ 10 = omega (arith, t.turns) in rw e at t.high

-- a tree whose nodes from v on are played
pub record From (tree : List ℕ) (v : ℕ) : Type 0 where
  pub size : length tree ≡ 2048
  node : (u : ℕ) → 0 < u → u < 1024 → v ≤ u → at tree u ≡ min (at tree (2 * u)) (at tree (2 * u + 1))

pub play_starts : (tree : List ℕ) {v : ℕ} → length tree ≡ 2048 → 1024 ≤ v → From tree v
play_starts tree e m = record { size = e; node = λ u a b l. absurd (omega arith) }

pub play_goes : {tree : List ℕ} {v y : ℕ} → From tree v → 1 < v → v ≤ 1024
    → y ≡ min (at tree (2 * (v - 1))) (at tree (2 * (v - 1) + 1))
    → From (set tree (v - 1) y) (v - 1)
play_goes {tree} {v} {y} t l m f = record { size = simp length-set t.size; node = λ u a b k. go u a b k (eqb u (v - 1)) refl }
  where
    go : (u : ℕ) → 0 < u → u < 1024 → v - 1 ≤ u → (b : Bool) → eqb u (v - 1) ≡ b → Lesser (set tree (v - 1) y) u
    go u a b k true d = rw (
      eqb-true u (v - 1) d,
      get_or-set_same tree (v - 1) y 0 (omega (arith, t.size)),
      get_or-set_other tree (v - 1) (2 * (v - 1)) y 0 (λ z. omega arith),
      get_or-set_other tree (v - 1) (2 * (v - 1) + 1) y 0 (λ z. omega arith),
    ) f
    go u a b k false d = let n = eqb-false u (v - 1) d in
        untouched tree (v - 1) y u n (λ z. omega arith) (t.node u a b (omega arith))

pub play_ends : {tree : List ℕ} {v : ℕ} → From tree v → v ≤ 1 → Tree tree
play_ends t l = record { size = t.size; node = λ u a b. t.node u a b (omega arith) }
