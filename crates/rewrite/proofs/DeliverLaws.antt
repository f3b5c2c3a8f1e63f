-- What is written of the tables that were read is what the text is rewritten to. Assumes nothing.
use Rattle.std.specs.Prelude.{◌≡◌, refl, Bool, true, false, cond, List, ◌++◌, Result, Ok, Err, ℕ, min, ◌≤◌, length, leb}
use Rattle.std.proofs.Common.{sym, ap, subst, ◌∙◌, arith, le-leb, leb-true, leb-false}
use Rattle.std.proofs.lemmas.Bool.{lt-leb}
use Rattle.tender.specs.declared.Window.{Window}
use Rattle.tender.specs.declared.Tender.{Tender}
use Rattle.tender.specs.declared.Refusal.{Refusal}
use Rattle.tender.specs.declared.Refusal.TheVariants.{NoRoom}
use Rattle.tender.specs.Tables.{Row, flat_rows, flat_windows}
use Rattle.spelling.specs.Lines.{refused_line}
use Rattle.spelling.specs.Delivered.{Delivered}
use Rattle.reader_text.specs.Read.{accepted, refused, read_text}
use Rattle.reader_text.proofs.SizeLaws.{short_text}
use Rattle.reader_fill.proofs.ReadInLaws.{ReadIn}
use Rattle.writer_text.specs.Canonical.{canonical, WriteOutcome, spelt, unspelt, write_into, buffer_after}
use Rattle.writer.specs.Writes.{write_answer, Writes}
use Rattle.writer_back.specs.FilledLaws.{write_read, no_longer}
use Rattle.rewrite.specs.Rewritten.{rewrite_of, Rewritten, length_written, Delivers}

-- the writer's answer as a length

length_told : (o : WriteOutcome) (n : ℕ) → Ok n ≡ write_answer o → n ≡ length_written o
unfolding write_answer length_written
length_told (spelt text) n e = cc
length_told (unspelt q) n e = let z : ◌≡◌ {A = ℕ} 0 1 = cc in absurd (omega arith)

none_told : (o : WriteOutcome) (q : Refusal) → Err q ≡ write_answer o → 0 ≡ length_written o
unfolding write_answer length_written
none_told (spelt text) q e = let z : ◌≡◌ {A = ℕ} 0 1 = cc in absurd (omega arith)
none_told (unspelt p) q e = refl

module _ {t : Tender} {count : ℕ} {bids windows old new : List ℕ} {a : Result ℕ Refusal} where
  pub delivers_text : (n : ℕ) → a ≡ Ok n → Writes t count bids windows old new a
      → Delivers t count bids windows old new n
  delivers_text n e w = record {
    answer = length_told (write_into t count bids windows (length old)) n (sym e ∙ w.answer);
    bytes = w.bytes;
  }

  pub delivers_none : (q : Refusal) → a ≡ Err q → Writes t count bids windows old new a
      → Delivers t count bids windows old new 0
  delivers_none q e w = record {
    answer = none_told (write_into t count bids windows (length old)) q (sym e ∙ w.answer);
    bytes = w.bytes;
  }

-- a text that is not too long is written where the buffer has room
room_enough : (text old new : List ℕ) (r : ℕ) → length text ≤ 65536
    → r ≡ length_written (cond (leb (length text) (min 65536 (length old))) (spelt text) (unspelt NoRoom))
    → new ≡ buffer_after old (cond (leb (length text) (min 65536 (length old))) (spelt text) (unspelt NoRoom))
    → Delivered text old new r
unfolding length_written buffer_after
room_enough text old new r l a b = go (leb (length text) (length old)) refl
  where
    go : (t : Bool) → leb (length text) (length old) ≡ t → Delivered text old new r
    go true e =
        let m : leb (length text) (min 65536 (length old)) ≡ true =
        le-leb (length text) (min 65536 (length old)) (omega (arith, leb-true (length text) (length old) e)) in
        record { answer = rw e (rw m at a); bytes = rw e (rw m at b) }
    go false e =
        let m : leb (length text) (min 65536 (length old)) ≡ false =
        lt-leb (length text) (min 65536 (length old)) (omega (arith, leb-false (length text) (length old) e)) in
        record { answer = rw e (rw m at a); bytes = rw e (rw m at b) }

read_is : (text : List ℕ) (t : Tender) (R : List Row) (W : List Window) → read_text text ≡ accepted t R W
    → canonical t R (flat_windows W) ≡ rewrite_of (read_text text)
unfolding rewrite_of
read_is text t R W e = sym (ap rewrite_of e)

pub rewritten_text : {text bids windows old new : List ℕ} {t : Tender} {n r : ℕ} → ReadIn text bids windows t n
    → Delivers t n bids windows old new r → Rewritten text old new r
rewritten_text {text} {bids} {windows} {old} {new} {t} {n} {r} h d =
    let c = canonical t h.rows (flat_windows h.spans) in
    let o : write_into t n bids windows (length old) ≡ cond (leb (length c) (min 65536 (length old))) (spelt c) (unspelt NoRoom) =
    ap (λ b. write_into t n b windows (length old)) h.bids_are
    ∙ ap (λ w. write_into t n (flat_rows h.rows ++ h.past_rows) w (length old)) h.windows_are
    ∙ ap (λ (m : ℕ). write_into t m (flat_rows h.rows ++ h.past_rows) (flat_windows h.spans ++ h.past_spans) (length old))
    (sym h.count)
    ∙ write_read text t h.rows h.spans h.is h.past_rows h.past_spans (length old) in
    let s = no_longer text t h.rows h.spans h.is in
    let x = short_text t h.rows h.spans text h.is in
    record {
      delivers = subst (λ out. Delivered out old new r) (read_is text t h.rows h.spans h.is)
          (room_enough c old new r (omega (arith, s, x)) (d.answer ∙ ap length_written o) (d.bytes ∙ ap (buffer_after old) o));
    }

pub rewritten_refusal : {text old new : List ℕ} {r : ℕ} (q : Refusal) → read_text text ≡ refused q
    → Delivered (refused_line q) old new r → Rewritten text old new r
unfolding rewrite_of
rewritten_refusal {text} {old} {new} {r} q e d =
    record { delivers = subst (λ out. Delivered out old new r) (sym (ap rewrite_of e)) d }
