-- What is written comes to what writing promises: 9, 14, or the text. Assumes nothing.
use Rattle.std.specs.Prelude.{◌≡◌, ◌⊎◌, List, ◌++◌, Result, Ok, Err, take, leb}
use Rattle.std.proofs.Math.Path.{refl, ap}
use Rattle.std.proofs.Common.{sym, subst, ◌∙◌, inl, inr, arith, le-leb}
use Rattle.std.proofs.Math.Bool.{cond}
use Rattle.std.proofs.Math.Option.{Option, none, some}
use Prim.Native.Nat.{ℕ, ◌≤◌, ◌<◌, min}
use Rattle.std.proofs.Math.ListN.{length, drop}
use Rattle.std.proofs.Math.Seq.{take-length}
use Rattle.std.proofs.lemmas.Bool.{lt-leb}
use Rattle.tender.specs.declared.Tender.{Tender}
use Rattle.tender.specs.declared.Refusal.{Refusal}
use Rattle.tender.specs.declared.Refusal.TheVariants.{BadTables, NoRoom}
use Rattle.tender.specs.Tables.{rows_of}
use Rattle.spelling.specs.Written.{Written}
use Rattle.spelling.proofs.WritingLaws.{from_start}
use Rattle.award_check.specs.Faults.{fault_of}
use Rattle.award_check.proofs.AlikeLaws.{rows_length}
use Rattle.writer_text.specs.Canonical.{canonical, WriteOutcome, spelt, unspelt, unless_fault, write_into, buffer_after}
use Rattle.writer_text.specs.Filling.{SomeText}
use Rattle.writer_text.proofs.FillingLaws.{text_part, some_length}
use Rattle.writer.specs.Writes.{write_answer, Writes}

module _ (t : Tender) (n : ℕ) (bids windows : List ℕ) (room : ℕ) where
  abbrev whole : List ℕ
  whole = canonical t (rows_of n bids) windows

  abbrev judged : Option ℕ → WriteOutcome
  judged f = unless_fault f (cond (leb (length whole) (min 65536 room)) (spelt whole) (unspelt NoRoom))

  into_nine : (row : ℕ) → fault_of t.kind t n bids windows ≡ some row
      → write_into t n bids windows room ≡ unspelt (BadTables row)
  unfolding write_into
  into_nine row e = ap judged e

  into_fourteen : fault_of t.kind t n bids windows ≡ none → min 65536 room < length whole
      → write_into t n bids windows room ≡ unspelt NoRoom
  unfolding write_into
  into_fourteen e l = ap judged e ∙ ap (λ b. cond b (spelt whole) (unspelt NoRoom)) (lt-leb (length whole) (min 65536 room) l)

  into_text : fault_of t.kind t n bids windows ≡ none → length whole ≤ min 65536 room
      → write_into t n bids windows room ≡ spelt whole
  unfolding write_into
  into_text e l = ap judged e ∙ ap (λ b. cond b (spelt whole) (unspelt NoRoom)) (le-leb (length whole) (min 65536 room) l)

came_to : (t : Tender) (n : ℕ) (bids windows old : List ℕ) (new : List ℕ) (r : Result ℕ Refusal) (out : WriteOutcome)
    → write_into t n bids windows (length old) ≡ out → r ≡ write_answer out → new ≡ buffer_after old out
    → Writes t n bids windows old new r
came_to t n bids windows old new r out e a b =
    record { answer = a ∙ ap write_answer (sym e); bytes = b ∙ ap (buffer_after old) (sym e) }

-- tables with a fault
pub writes_nine : (t : Tender) (n : ℕ) (bids windows old : List ℕ) (row : ℕ) → fault_of t.kind t n bids windows ≡ some row
    → Writes t n bids windows old old (Err (BadTables row))
unfolding write_answer buffer_after
writes_nine t n bids windows old row e = came_to t n bids windows old old (Err (BadTables row)) (unspelt (BadTables row))
    (into_nine t n bids windows (length old) row e) refl refl

module _ (t : Tender) (n : ℕ) (bids windows : List ℕ)
    (e : fault_of t.kind t n bids windows ≡ none) {before made : List ℕ} {end : ℕ}
    (h : SomeText t windows (rows_of n bids) before n made end) (old : List ℕ) where
  part_length : end ≤ length (canonical t (rows_of n bids) windows)
  part_length = omega (arith, h.written.next, text_part t (rows_of n bids) windows h.lines)

  text_all : end ≤ 65536 → take end made ≡ canonical t (rows_of n bids) windows
  text_all l = h.written.text ∙ ap (λ rs. canonical t rs windows) (go h.all)
    where
      go : (65536 < end) ⊎ (h.lines ≡ n) → take h.lines (rows_of n bids) ≡ rows_of n bids
      go (inl x) = absurd (omega arith)
      go (inr x) = ap (λ (m : ℕ). take m (rows_of n bids)) (x ∙ sym (rows_length n bids)) ∙ take-length (rows_of n bids)

  -- too long a text, or too little room
  pub writes_fourteen : (65536 < end) ⊎ (length old < end) → Writes t n bids windows old old (Err NoRoom)
  unfolding write_answer buffer_after
  writes_fourteen l = came_to t n bids windows old old (Err NoRoom) (unspelt NoRoom)
      (into_fourteen t n bids windows (length old) e (go l)) refl refl
    where
      go : (65536 < end) ⊎ (length old < end) → min 65536 (length old) < length (canonical t (rows_of n bids) windows)
      go (inl x) = omega (arith, part_length)
      go (inr x) = omega (arith, part_length)

  -- the text, copied
  pub writes_text : {new : List ℕ} {r : ℕ} → end ≤ 65536 → end ≤ length old → Written old 0 (take end made) new r
      → Writes t n bids windows old new (Ok r)
  unfolding write_answer buffer_after
  writes_text {new} {r} l m w =
      let s = text_all l in
      let text = canonical t (rows_of n bids) windows in
      let c : length text ≡ r = omega (arith, ap length s, w.next) in
      let d : length text ≡ end = ap length (sym s) ∙ some_length h in
      came_to t n bids windows old new (Ok r) (spelt text) (into_text t n bids windows (length old) e (omega arith))
      (ap Ok (sym c)) (from_start old text new r (subst (λ b. Written old 0 b new r) s w)
      ∙ ap (λ (k : ℕ). text ++ drop k old) (sym c))
