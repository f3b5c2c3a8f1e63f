-- Two texts that differ only in how prices are spelt get the same reading, the same list and the same rewriting. Assumes nothing.
use Rattle.std.specs.Prelude.{◌≡◌, List, ℕ, ◌/◌, ◌<◌, length}
use Rattle.std.proofs.Common.{sym, ap, ◌∙◌}
use Rattle.tender.specs.Tables.{bid_width, window_width}
use Rattle.reader_text.specs.Read.{fitted, read_into}
use Rattle.reader_text.specs.DifferInSpelling.{DifferInSpelling}
use Rattle.reader_text.proofs.SpellingLaws.{spelling_law}
use Rattle.reader.specs.Answer.{read_answer, bids_after, windows_after}
use Rattle.spelling.proofs.DeliveredLaws.{same_shown}
use Rattle.theorems_calls.specs.Calls.{ReadCall, ListCall, RewriteCall, shown}
use Rattle.theorems.specs.Between.{SameReading}

into_same : (t u : List ℕ) (n m : ℕ) → DifferInSpelling t u → read_into t n m ≡ read_into u n m
unfolding read_into
into_same t u n m d = ap (fitted n m) (spelling_law t u d)

pub reading_same : (r r' : ReadCall) → DifferInSpelling r.run.text r'.run.text → r.run.bids ≡ r'.run.bids
    → r.run.windows ≡ r'.run.windows → SameReading r r'
reading_same r r' d b w =
    let e = into_same r.run.text r'.run.text (length r'.run.bids / bid_width)
    (length r'.run.windows / window_width) d in
    record {
      answers = r.kept.answers ∙ rw (b, w) (ap read_answer e) ∙ sym r'.kept.answers;
      bids = r.kept.rows ∙ rw (b, w) (ap (bids_after r'.run.bids) e) ∙ sym r'.kept.rows;
      windows = r.kept.own ∙ rw (b, w) (ap (windows_after r'.run.windows) e) ∙ sym r'.kept.own;
    }

pub list_same : (l l' : ListCall) → DifferInSpelling l.text l'.text → 0 < l.answer → 0 < l'.answer
    → shown l ≡ shown l'
list_same l l' d a a' = same_shown {old' = l'.buffer} l.promise.delivers
    (rw (spelling_law l.text l'.text d) l'.promise.delivers) a a'

pub rewriting_same : (l l' : RewriteCall) → DifferInSpelling l.text l'.text → 0 < l.answer → 0 < l'.answer
    → shown l ≡ shown l'
rewriting_same l l' d a a' = same_shown {old' = l'.buffer} l.promise.delivers
    (rw (spelling_law l.text l'.text d) l'.promise.delivers) a a'
