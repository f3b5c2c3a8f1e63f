-- What reading from a place on answers, as what is read from the front of bytes.
use Rattle.std.specs.Prelude.{◌≡◌, List, ℕ, ◌≤◌, ◌<◌, length, drop, Option, Some, None}
use Rattle.reader_parts.specs.Front.{Front, got, wrong}
use Rattle.reader_parts.specs.declared.Read.{Read}

-- x, read from `at` on, is the value a, and p the place past what spells it
pub record ReadAt {A : Type 0} (x : Front A) (s : List ℕ) (at : ℕ) (a : A) (p : ℕ) : Type 0 where
  pub is : x ≡ got a (drop p s)
  pub after : at ≤ p
  pub inside : p < length s

-- what reading a value from a place on answers, and the place past it
abbrev pub Reading : Type 0 → Type 0
Reading A = Option (Read A)

abbrev pub read_place : {A : Type 0} → Reading A → ℕ
read_place (Some r) = r.next
read_place None = 0

-- the answer is what is read, or none where nothing is
abbrev pub ReadIs : {A : Type 0} → Front A → List ℕ → ℕ → Reading A → Type 0
ReadIs x s at (Some r) = ReadAt x s at r.value r.next
ReadIs x s at None = x ≡ wrong
