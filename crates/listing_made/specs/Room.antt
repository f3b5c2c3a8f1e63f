-- How much room the list of a text takes, by the text's length.
use Rattle.std.specs.Prelude.{ℕ, ◌+◌, ◌*◌, min}

-- bytes with room for the list of a text of n bytes: a bid takes 16 bytes of the text at least, and 48 of the list at most; the other
-- lines take 136, and no list is longer than 51,200
abbrev pub room_for : ℕ → ℕ
room_for n = min 51200 (3 * n + 144)
