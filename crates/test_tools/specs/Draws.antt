-- The random numbers of the test programs, and how they count.
use Rattle.std.specs.Prelude.{ℕ, ◌+◌, ◌*◌, ◌/◌, ◌%◌, ◌^◌, Bool, true, false, bit_xor}

-- A state and itself moved left by n bits, in 64 bits.
abbrev pub left : ℕ → ℕ → ℕ
left n s = bit_xor s (s * 2 ^ n % 2 ^ 64)

-- A state and itself moved right by n bits.
abbrev pub right : ℕ → ℕ → ℕ
right n s = bit_xor s (s / 2 ^ n)

-- The state after this one (xorshift).
abbrev pub next_state : ℕ → ℕ
next_state s = left 17 (right 7 (left 13 s))

-- One more where it is so, in 64 bits.
abbrev pub counted : Bool → ℕ → ℕ
counted false n = n
counted true n = (n + 1) % 2 ^ 64
