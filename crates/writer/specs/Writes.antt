-- What a call of the writer promises: its answer, and the bytes of the lent buffer.
use Rattle.std.specs.Prelude.{◌≡◌, List, ℕ, Result, Ok, Err, length}
use Rattle.tender.specs.declared.Tender.{Tender}
use Rattle.tender.specs.declared.Refusal.{Refusal}
use Rattle.writer_text.specs.Canonical.{WriteOutcome, spelt, unspelt, write_into, buffer_after}

-- what is answered: the length or the refusal
unfoldable pub write_answer : WriteOutcome → Result ℕ Refusal
write_answer (spelt text) = Ok (length text)
write_answer (unspelt q) = Err q

-- The promise of a call that was lent a buffer of the bytes `old`, left the bytes `new` and answered r
pub record Writes (t : Tender) (n : ℕ) (bids windows old new : List ℕ) (r : Result ℕ Refusal) : Type 0 where
  pub answer : r ≡ write_answer (write_into t n bids windows (length old))
  pub bytes : new ≡ buffer_after old (write_into t n bids windows (length old))
