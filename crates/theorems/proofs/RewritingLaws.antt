-- The writer's one answer; what it writes reads back; equal bytes are the same bids. Assumes nothing.
use Rattle.std.specs.Prelude.{◌≡◌, refl, Bool, true, false, cond, ℕ, min, ◌*◌, ◌/◌, ◌≤◌, ◌<◌, length, take, drop}
use Rattle.std.specs.Prelude.{leb}
use Rattle.std.specs.Prelude.{Ok, Err}
use Rattle.std.proofs.Math.Path.{sym, ap}
use Rattle.std.proofs.Common.{◌∙◌, arith, le-leb, leb-true, leb-false}
use mathlib.Core.List.{List, [], ◌++◌, append-nil}
use Rattle.std.proofs.Math.Option.{Option, none, some}
use Rattle.std.proofs.Math.Seq.{take-append_seam}
use Rattle.tender.specs.declared.Window.{Window}
use Rattle.tender.specs.declared.Tender.{Tender}
use Rattle.tender.specs.declared.Refusal.TheVariants.{BadTables, NoRoom}
use Rattle.tender.specs.Tables.{Row, rows_of, flat_rows, flat_windows, bid_width, window_width}
use Rattle.reader_text.specs.Read.{accepted, read_text, read_into}
use Rattle.reader.specs.Answer.{read_answer, bids_after, windows_after}
use Rattle.reader_text.proofs.CountLaws.{room_law}
use Rattle.reader_text.proofs.SizeLaws.{short_text}
use Rattle.reader_fill.specs.Answer.{filled}
use Rattle.spelling.proofs.DeliveredLaws.{delivered_is}
use Rattle.award_check.specs.Faults.{fault_of}
use Rattle.award_check.proofs.TextLaws.{rows_flat}
use Rattle.award_check.proofs.AlikeLaws.{rows_length}
use Rattle.award_rule.specs.Award as outcome
use Rattle.award_rule.proofs.AwardLaws.{award_nine}
use Rattle.award_outcome.specs.Right.{OneAnswer, tables_break_a_rule, rows_too_few, minute_uncovered, one_bidder, award}
use Rattle.award_outcome.proofs.OneAnswerLaws.{one_answer}
use Rattle.writer_text.specs.Canonical.{canonical, spelt, unspelt, unless_fault, write_into, buffer_after}
use Rattle.writer.specs.Writes.{write_answer}
use Rattle.writer_back.specs.Same.{Same, ReadBack}
use Rattle.writer_back.specs.ShortLaws.{canonical_some}
use Rattle.writer_back.specs.ReadBackLaws.{lawful_tables, reads_back, text_same, same_text, same_bytes, writes_the_same}
use Rattle.writer_back.specs.FilledLaws.{canonical_alone, read_sound, no_longer}
use Rattle.rewrite.specs.Rewritten.{rewrite_of}
use Rattle.theorems_calls.specs.Calls.{ReadCall, AwardCall, told_by, WriteCall, RewriteCall, shown}
use Rattle.theorems.specs.Between.{Exactly, SameTables}
use Rattle.theorems.specs.Rewriting.{text_by, OneWriting, tables_faulty, no_room, text_written, ReadAsWritten}

-- one answer

pub one_writing : (w : WriteCall) → OneWriting w
unfolding write_into unless_fault write_answer buffer_after
one_writing w = go (fault_of w.tender.kind w.tender w.count w.bids w.windows) refl w.promise.answer w.promise.bytes
  where
    room : ℕ
    room = length w.buffer

    sound : fault_of w.tender.kind w.tender w.count w.bids w.windows ≡ none → (b : Bool)
        → leb (length (text_by w)) (min 65536 room) ≡ b → w.answer ≡ write_answer (cond b (spelt (text_by w)) (unspelt NoRoom))
        → w.after_buffer ≡ buffer_after w.buffer (cond b (spelt (text_by w)) (unspelt NoRoom)) → OneWriting w
    sound f true e a b = text_written f (leb-true (length (text_by w)) (min 65536 room) e) a b
    sound f false e a b = no_room f (leb-false (length (text_by w)) (min 65536 room) e) a b

    go : (o : Option ℕ) → fault_of w.tender.kind w.tender w.count w.bids w.windows ≡ o
        → w.answer ≡ write_answer (unless_fault o (cond (leb (length (text_by w)) (min 65536 room)) (spelt (text_by w)) (unspelt NoRoom)))
        → w.after_buffer
        ≡ buffer_after w.buffer (unless_fault o (cond (leb (length (text_by w)) (min 65536 room)) (spelt (text_by w)) (unspelt NoRoom)))
        → OneWriting w
    go (some row) f a b = tables_faulty row f a b
    go none f a b = sound f (leb (length (text_by w)) (min 65536 room)) refl a b

-- what was written

record WroteText (w : WriteCall) (n : ℕ) : Type 0 where
  faultless : fault_of w.tender.kind w.tender w.count w.bids w.windows ≡ none
  short : length (text_by w) ≤ 65536
  bytes : take n w.after_buffer ≡ text_by w

wrote_text : (w : WriteCall) (n : ℕ) → w.answer ≡ Ok n → WroteText w n
wrote_text w n e = go (one_writing w)
  where
    go : OneWriting w → WroteText w n
    go (tables_faulty row f a b) = let h = sym a ∙ e in let z : ◌≡◌ {A = ℕ} 0 1 = cc in absurd (omega arith)
    go (no_room f l a b) = let h = sym a ∙ e in let z : ◌≡◌ {A = ℕ} 0 1 = cc in absurd (omega arith)
    go (text_written f l a b) =
        let h = sym a ∙ e in
        let k : length (text_by w) ≡ n = cc in
        record {
          faultless = f;
          short = omega (arith, l);
          bytes =
              rw (b, ← k) (take-append_seam (text_by w) (drop (length (text_by w)) w.buffer));
        }

read_back : (w : WriteCall) (n : ℕ) → w.answer ≡ Ok n
    → ReadBack (take n w.after_buffer) w.tender (rows_of w.count w.bids) w.windows
read_back w n e =
    let t = wrote_text w n e in
    rw t.bytes (reads_back w.tender w.count w.bids w.windows t.faultless t.short)

pub read_as_written : (w : WriteCall) (r : ReadCall) (n : ℕ) → w.answer ≡ Ok n
    → r.run.text ≡ take n w.after_buffer
    → 1000 ≤ length r.run.bids / bid_width → 32000 ≤ length r.run.windows / window_width → ReadAsWritten w r
unfolding bids_after windows_after
read_as_written w r n e x lb lw =
    let b = read_back w n e in
    let R = b.R in
    let W = b.W in
    let o : read_into r.run.text (length r.run.bids / bid_width) (length r.run.windows / window_width)
    ≡ accepted w.tender R W =
    room_law r.run.text (length r.run.bids / bid_width) (length r.run.windows / window_width) lb lw
    ∙ ap read_text x ∙ b.reads in
    let s = b.same (drop (window_width * length W) r.run.windows) in
    let c : length R ≡ w.count = sym s.count ∙ rows_length w.count w.bids in
    let p : rows_of w.count r.run.after_bids ≡ R =
    ap (rows_of w.count) (r.kept.rows ∙ ap (bids_after r.run.bids) o)
    ∙ ap (λ (m : ℕ). rows_of m (flat_rows R ++ drop (bid_width * length R) r.run.bids)) (sym c)
    ∙ rows_flat R (drop (bid_width * length R) r.run.bids) in
    let q : r.run.after_windows ≡ flat_windows W ++ drop (window_width * length W) r.run.windows =
    r.kept.own ∙ ap (windows_after r.run.windows) o in
    record {
      window_rows = length W;
      accepts = r.kept.answers ∙ ap read_answer o ∙ ap (λ (m : ℕ). Ok (filled w.tender m (length W))) c;
      same = rw (p, q) s;
    }

-- texts rewritten

module _ (l : RewriteCall) (T : Tender) (R : List Row) (W : List Window) (read : read_text l.text ≡ accepted T R W) where
  rewrite_is : rewrite_of (read_text l.text) ≡ canonical T R (flat_windows W)
  unfolding rewrite_of
  rewrite_is = ap rewrite_of read

  rewritten_is : 0 < l.answer → shown l ≡ canonical T R (flat_windows W)
  rewritten_is a = delivered_is l.promise.delivers a ∙ rewrite_is

  fitted_length : length l.text ≤ length l.buffer → l.answer ≡ length (canonical T R (flat_windows W))
  fitted_length a =
      let c = canonical T R (flat_windows W) in
      let e : leb (length c) (length l.buffer)
      ≡ true = le-leb (length c) (length l.buffer) (omega (arith, no_longer l.text T R W read)) in
      l.promise.delivers.answer
      ∙ ap (λ out. cond (leb (length out) (length l.buffer)) (length out) 0) rewrite_is ∙ ap (λ b. cond b (length c) 0) e

  pub rewritten_some : length l.text ≤ length l.buffer → 0 < l.answer
  rewritten_some a = omega (arith, fitted_length a, canonical_some T R (flat_windows W))

  pub rewritten_short : length l.text ≤ length l.buffer → l.answer ≤ length l.text
  rewritten_short a = omega (arith, fitted_length a, no_longer l.text T R W read)

  pub rewritten_fits : length l.text ≤ length l.buffer → (0 < l.answer) × (l.answer ≤ length l.text)
  rewritten_fits a = (rewritten_some a, rewritten_short a)

  -- what was rewritten reads as the same bids, and is rewritten to itself
  back : 0 < l.answer → ReadBack (shown l) T R (flat_windows W)
  back a =
      let n = no_longer l.text T R W read in
      let x = short_text T R W l.text read in
      let k = canonical_alone l.text T R W read [] [] in
      let b = reads_back T (length R) (flat_rows R ++ []) (flat_windows W ++ []) (read_sound l.text T R W read [] [])
      (omega (arith, ap length k, n, x)) in
      rw (rewritten_is a, ← k) (as_read b)
    where
      as_read : ReadBack (canonical T (rows_of (length R) (flat_rows R ++ [])) (flat_windows W ++ [])) T
          (rows_of (length R) (flat_rows R ++ [])) (flat_windows W ++ [])
          → ReadBack (canonical T (rows_of (length R) (flat_rows R ++ [])) (flat_windows W ++ [])) T R (flat_windows W)
      as_read b = record {
        R = b.R;
        W = b.W;
        reads = b.reads;
        same = λ v. rw (rows_flat R [], append-nil (flat_windows W)) at (b.same v);
      }

  pub rewritten_again : (l' : RewriteCall) → l'.text ≡ shown l → 0 < l.answer → 0 < l'.answer
      → shown l' ≡ shown l
  unfolding rewrite_of
  rewritten_again l' x a a' =
      let b = back a in
      delivered_is l'.promise.delivers a' ∙ ap rewrite_of (ap read_text x ∙ b.reads)
      ∙ ap (canonical T b.R) (sym (append-nil (flat_windows b.W)))
      ∙ writes_the_same T R (flat_windows W) (shown l) b [] ∙ sym (rewritten_is a)

  pub read_rewritten : 0 < l.answer → ReadBack (shown l) T R (flat_windows W)
  read_rewritten = back

pub equal_rewritten : (l l' : RewriteCall) (T T' : Tender) (R R' : List Row) (W W' : List Window)
    → read_text l.text ≡ accepted T R W → read_text l'.text ≡ accepted T' R' W' → 0 < l.answer → 0 < l'.answer
    → Exactly (shown l ≡ shown l') (Same T R (flat_windows W) T' R' (flat_windows W'))
equal_rewritten l l' T T' R R' W W' e e' a a' =
    let s = same_bytes l.text l'.text T T' R R' W W' [] [] e e' in
    let x = rewritten_is l T R W e a in
    let y = rewritten_is l' T' R' W' e' a' in (
      (λ q. alone (s.0 (rw (append-nil (flat_windows W), append-nil (flat_windows W')) (sym x ∙ q ∙ y)))),
      (λ q. x ∙ (rw (append-nil (flat_windows W), append-nil (flat_windows W')) at (s.1 (padded q))) ∙ sym y),
    )
  where
    alone : Same T R (flat_windows W ++ []) T' R' (flat_windows W' ++ []) → Same T R (flat_windows W) T' R' (flat_windows W')
    alone q = rw (append-nil (flat_windows W), append-nil (flat_windows W')) at q

    padded : Same T R (flat_windows W) T' R' (flat_windows W') → Same T R (flat_windows W ++ []) T' R' (flat_windows W' ++ [])
    padded q = rw (append-nil (flat_windows W), append-nil (flat_windows W')) q

-- tables written

pub equal_written : (w w' : WriteCall) (n n' : ℕ) → w.answer ≡ Ok n → w'.answer ≡ Ok n'
    → Exactly (take n w.after_buffer ≡ take n' w'.after_buffer) (Same w.tender (rows_of w.count w.bids) w.windows
    w'.tender (rows_of w'.count w'.bids) w'.windows)
equal_written w w' n n' e e' =
    let t = wrote_text w n e in
    let t' = wrote_text w' n' e' in (
      (λ q. text_same w.tender (rows_of w.count w.bids) w.windows w'.tender (rows_of w'.count w'.bids)
          w'.windows
          (lawful_tables w.tender w.count w.bids w.windows t.faultless)
          (lawful_tables w'.tender w'.count w'.bids w'.windows t'.faultless)
          (sym t.bytes ∙ q ∙ t'.bytes)),
      (λ q. t.bytes ∙ same_text w.tender (rows_of w.count w.bids) w.windows w'.tender
          (rows_of w'.count w'.bids)
          w'.windows q ∙ sym t'.bytes),
    )

-- 9 is told just where the award of the tender's kind tells it, at the same place

module _ (w : WriteCall) (c : AwardCall) (s : SameTables w.tender w.count w.bids w.windows c) (row : ℕ) where
  same_fault : fault_of c.kind c.tender c.count c.bids c.windows
      ≡ fault_of w.tender.kind w.tender w.count w.bids w.windows
  same_fault = rw (s.kinds, s.tenders, s.counts, s.bids_too, s.windows_too)

  pub told_nine : w.answer ≡ Err (BadTables row) → told_by c ≡ outcome.refused (BadTables row)
  told_nine e = go (one_writing w)
    where
      go : OneWriting w → told_by c ≡ outcome.refused (BadTables row)
      go (tables_faulty p f a b) =
          let h = sym a ∙ e in
          let q : p ≡ row = cc in
          c.promise.answers ∙ award_nine c.kind c.tender c.count c.bids c.windows (length c.rows_before) p
          (same_fault ∙ f)
          ∙ ap (λ (m : ℕ). outcome.refused (BadTables m)) q
      go (no_room f l a b) = let h = sym a ∙ e in let z : ◌≡◌ {A = ℕ} 0 1 = cc in absurd (omega arith)
      go (text_written f l a b) = let h = sym a ∙ e in let z : ◌≡◌ {A = ℕ} 0 1 = cc in absurd (omega arith)

  faulty : fault_of w.tender.kind w.tender w.count w.bids w.windows ≡ some row
      → w.answer ≡ Err (BadTables row)
  faulty e = go (one_writing w)
    where
      go : OneWriting w → w.answer ≡ Err (BadTables row)
      go (tables_faulty p f a b) = let h = sym f ∙ e in let q : p ≡ row = cc in a ∙ ap (λ (m : ℕ). Err (BadTables m)) q
      go (no_room f l a b) = let h = sym f ∙ e in let z : ◌≡◌ {A = ℕ} 0 1 = cc in absurd (omega arith)
      go (text_written f l a b) = let h = sym f ∙ e in let z : ◌≡◌ {A = ℕ} 0 1 = cc in absurd (omega arith)

  pub write_nine : told_by c ≡ outcome.refused (BadTables row) → w.answer ≡ Err (BadTables row)
  write_nine e = go (one_answer c.kind c.tender c.count c.bids c.windows c.rows_before c.rows_after c.answer
      c.promise)
    where
      go : OneAnswer c.kind c.tender c.count c.bids c.windows c.rows_before c.rows_after (told_by c)
          → w.answer ≡ Err (BadTables row)
      go (tables_break_a_rule p f r) =
          let h = sym r.outcome ∙ e in
          let q : p ≡ row = cc in
          faulty (sym same_fault ∙ f ∙ ap (λ (m : ℕ). some m) q)
      go (rows_too_few f l r) = let h = sym r.outcome ∙ e in let z : ◌≡◌ {A = ℕ} 0 1 = cc in absurd (omega arith)
      go (minute_uncovered m f u l r) = let h = sym r.outcome ∙ e in let z : ◌≡◌ {A = ℕ} 0 1 = cc in absurd (omega arith)
      go (one_bidder m f u b l r) = let h = sym r.outcome ∙ e in let z : ◌≡◌ {A = ℕ} 0 1 = cc in absurd (omega arith)
      go (award f b r) = let h = sym r.outcome ∙ e in let z : ◌≡◌ {A = ℕ} 0 1 = cc in absurd (omega arith)

  pub nine_as_award : Exactly (w.answer ≡ Err (BadTables row)) (told_by c ≡ outcome.refused (BadTables row))
  nine_as_award = (told_nine, write_nine)
