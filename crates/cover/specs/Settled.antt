-- What an award over plain numbers leaves in the two lent lists: a flag and the cents paid for each bid in entry order, the cells
-- past the last bid as they were.
use Rattle.std.specs.Prelude.{◌≡◌, Bool, ◌&&◌, List, [], ◌∷◌, ◌++◌, ℕ, zero, suc, ◌≤◌, ◌<◌, length, get_or}
use Rattle.std.specs.Prelude.{drop, leb, ltb}
use Rattle.cover.specs.Sets.{when}

-- f 0, .., f (n - 1)
unfoldable pub listed : {A : Type 0} → ℕ → (ℕ → A) → List A
listed zero f = []
listed (suc n) f = f 0 ∷ listed n (λ i. f (suc i))

-- bids of one run of cells each: bid i has the cells from a i up to b i
unfoldable pub spans : List ℕ → List ℕ → ℕ → ℕ → Bool
spans a b i x = leb (get_or a i 0) x && ltb x (get_or b i 0)

-- no award pays an entry more: the largest price for each of 10,112 cells, which are 158 words
abbrev pub most_cents : ℕ
most_cents = 1011200000000

-- entry i wins if `won i` says so, and is paid `cents i` where that is `due`
pub record Settled (due : ℕ → Type 0) (won : ℕ → Bool) (cents : ℕ → ℕ) (ps old_won old_cents new_won new_cents : List ℕ)
    : Type 0 where
  pub flags : new_won ≡ listed (length ps) (λ i. when (won i) 1) ++ drop (length ps) old_won
  pub payments : (i : ℕ) → i < length ps → due i → get_or new_cents i 0 ≡ cents i
  pub small : (i : ℕ) → i < length ps → get_or new_cents i 0 ≤ most_cents
  pub sized : length new_cents ≡ length old_cents
  pub kept : (i : ℕ) → length ps ≤ i → get_or new_cents i 0 ≡ get_or old_cents i 0

-- the cells below j have their values, and the others are as they were
pub record FilledTo (f : ℕ → ℕ) (old new : List ℕ) (j : ℕ) : Type 0 where
  pub sized : length new ≡ length old
  pub values : (i : ℕ) → i < j → get_or new i 0 ≡ f i
  pub kept : (i : ℕ) → j ≤ i → get_or new i 0 ≡ get_or old i 0
