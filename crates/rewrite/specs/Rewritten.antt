-- What a text is rewritten to (paper 02, request 2), and the promise of the call for C.
use Rattle.std.specs.Prelude.{◌≡◌, List, ℕ, length}
use Rattle.tender.specs.declared.Tender.{Tender}
use Rattle.tender.specs.Tables.{flat_windows}
use Rattle.spelling.specs.Lines.{refused_line}
use Rattle.spelling.specs.Delivered.{Delivered}
use Rattle.reader_text.specs.Read.{ReadOutcome, accepted, refused, read_text}
use Rattle.writer_text.specs.Canonical.{canonical, WriteOutcome, spelt, unspelt, write_into, buffer_after}

-- by what reading it answers: what was read in one spelling; a refusal's line
unfoldable pub rewrite_of : ReadOutcome → List ℕ
unfolding canonical flat_windows refused_line
rewrite_of (refused r) = refused_line r
rewrite_of (accepted t R W) = canonical t R (flat_windows W)

-- The promise of a call with the text and a lent buffer of the bytes `old`: it answers r and leaves the bytes `new`. Where there is no
-- room for what it would write, refusal 14, the answer is 0 and the buffer unchanged
pub record Rewritten (text old new : List ℕ) (r : ℕ) : Type 0 where
  pub delivers : Delivered (rewrite_of (read_text text)) old new r

-- the length of what is written, 0 for a refusal
unfoldable pub length_written : WriteOutcome → ℕ
length_written (spelt text) = length text
length_written (unspelt q) = 0

-- what the tables are written to, whatever they hold
pub record Delivers (t : Tender) (n : ℕ) (bids windows old new : List ℕ) (r : ℕ) : Type 0 where
  pub answer : r ≡ length_written (write_into t n bids windows (length old))
  pub bytes : new ≡ buffer_after old (write_into t n bids windows (length old))
