-- The bids in a tree by their keys. A key may be stale: as cells close a bid's key rises, so what is known of it is no more than it is.
-- Which cells a bid has is a parameter, `has`.
use Rattle.std.specs.Prelude.{◌≡◌, ◌⊎◌, Bool, List, ℕ, ◌%◌, ◌≤◌, ◌<◌, length}
use Rattle.cover.specs.Greedy.{Entry, reach, bids}
use Rattle.multi_keys.specs.Keys.{at, out, key_of}
use Rattle.multi_market.specs.Opens.{open_of}

-- bid i's key where the cells O are open
unfoldable pub key_in : (ℕ → Entry) → List ℕ → ℕ → ℕ
unfolding key_of reach
key_in B O i = key_of (B i).price (reach (B i).has O) i

-- bid i's key where the cells held are open
abbrev pub key_at : (ℕ → ℕ → Bool) → List ℕ → List ℕ → ℕ → ℕ
key_at has ps held i = key_in (bids has ps) (open_of held) i

-- a key of bid i that is no more than it is, and tells the bid
pub record Seat (has : ℕ → ℕ → Bool) (ps held : List ℕ) (i key : ℕ) : Type 0 where
  pub inside : i < length ps
  pub tells : key % 1024 ≡ i
  pub below : key ≤ key_at has ps held i

-- each bid is out, or has such a key
pub record Seats (has : ℕ → ℕ → Bool) (ps held keys : List ℕ) : Type 0 where
  pub size : length keys ≡ 1024
  pub each : (i : ℕ) → i < 1024 → (at keys i ≡ out) ⊎ Seat has ps held i (at keys i)

-- the bid that the key r tells has that key, and reaches c of the cells held
pub record Leader (has : ℕ → ℕ → Bool) (ps held keys : List ℕ) (r c : ℕ) : Type 0 where
  pub inside : r % 1024 < length ps
  pub own : at keys (r % 1024) ≡ r
  pub key : r ≡ key_at has ps held (r % 1024)
  pub cells : c ≡ reach (has (r % 1024)) (open_of held)
  pub some : 0 < c
  pub few : c ≤ 10112

-- r is the least key, after some bids were counted anew; where it is at most `cap` it is not stale
pub record Fronted (has : ℕ → ℕ → Bool) (ps held old new : List ℕ) (cap r c : ℕ) : Type 0 where
  pub seats : Seats has ps held new
  pub each : (i : ℕ) → i < 1024 → (at new i ≡ at old i)
      ⊎ ((at old i ≡ out → ⊥) × (at new i ≡ key_at has ps held i))
  pub least : (i : ℕ) → i < 1024 → r ≤ at new i
  pub leads : r ≤ cap → Leader has ps held new r c

-- each bid has its key, and past the last bid all are out
pub record Entered (has : ℕ → ℕ → Bool) (ps held keys : List ℕ) : Type 0 where
  pub size : length keys ≡ 1024
  pub each : (i : ℕ) → i < length ps → at keys i ≡ key_at has ps held i
  pub others : (i : ℕ) → length ps ≤ i → i < 1024 → at keys i ≡ out
