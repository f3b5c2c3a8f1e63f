-- A tree of keys: 1,024 leaves, bid i's at node 1024 + i, and at each node above the lesser of the two below, so that node 1 has the
-- least of all.
use Rattle.std.specs.Prelude.{◌≡◌, List, ℕ, ◌+◌, ◌*◌, ◌<◌, min, length, drop}
use Rattle.multi_keys.specs.Keys.{at}

-- the keys of the bids
unfoldable pub leaves : List ℕ → List ℕ
leaves tree = drop 1024 tree

pub record Tree (tree : List ℕ) : Type 0 where
  pub size : length tree ≡ 2048
  pub node : (v : ℕ) → 0 < v → v < 1024 → at tree v ≡ min (at tree (2 * v)) (at tree (2 * v + 1))
