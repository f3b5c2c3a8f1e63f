-- The parts of a line put one after the other, and the joined windows of a bid put one by one. Assumes nothing.
use Rattle.std.specs.Prelude.{◌≡◌, refl, true, List, [], ◌∷◌, ◌++◌, ℕ, ◌+◌, ◌-◌, ◌≤◌, ◌<◌, length}
use Rattle.std.specs.Prelude.{Some, None}
use Rattle.std.proofs.Common.{sym, subst, ◌∙◌, append_assoc, append-nil, length-append}
use Rattle.std.proofs.Math.Path.{ap}
use native.Mathlib.Omega.{arith}
use Rattle.tender.specs.declared.Window.{Window}
use Rattle.tender.specs.Types.{Reserve}
use Rattle.tender.specs.declared.Tender.{Tender}
use Rattle.tender.specs.Keywords.{bytes, reserve_word}
use Rattle.tender.specs.Limits.{lawful, every}
use Rattle.reader_forms.specs.Line.{BidLine}
use Rattle.spelling.specs.Decimal.{decimal}
use Rattle.spelling.specs.Lines.{closing, numbers, one_line, kind_word}
use Rattle.spelling.specs.Text.{window_text, windows_text, bid_text_as, bid_text, tender_text, reserve_text, head_text}
use Rattle.spelling.specs.Written.{Written}
use Rattle.spelling.proofs.WritingLaws.{then}
use Rattle.spelling.proofs.SpellingLaws.{nothing_written}
use Rattle.award_check.specs.Cells.{holds}
use Rattle.runs.specs.Runs.{runs, joined}
use Rattle.runs.specs.MinuteRows.{Minutes, NextRun}
use Rattle.runs.proofs.MinuteRowLaws.{run_late, run_inside, run_next}
use Rattle.runs.proofs.JoinedLaws.{joined_runs}
use Rattle.writer_line.specs.Respelt.{respelt}

-- ---- the parts of a line

pub window_written : {old m1 m2 m3 new : List ℕ} {at e1 e2 e3 f : ℕ} (start end : ℕ) → Written old at (bytes " (") m1 e1
    → Written m1 e1 (decimal start) m2 e2 → Written m2 e2 (32 ∷ decimal end) m3 e3 → Written m3 e3 (bytes ")") new f
    → Written old at (window_text (record { start = start; end = end })) new f
unfolding window_text bytes
window_written {old} {m1} {m2} {m3} {new} {at} {e1} {e2} {e3} {f} start end x y z q = then x (then y (then z q))

pub tender_written : {old m1 m2 new : List ℕ} {at e1 e2 f : ℕ} (t : Tender) → Written old at (bytes "(tender ") m1 e1
    → Written m1 e1 (kind_word t.kind) m2 e2 → Written m2 e2 (numbers t.window.start t.window.end) new f
    → Written old at (tender_text t) new f
unfolding tender_text
tender_written {old} {m1} {m2} {new} {at} {e1} {e2} {f} t x y z = then x (then y z)

pub no_reserve : (old : List ℕ) (at : ℕ) (r : Reserve) → r ≡ None → Written old at (reserve_text r) old at
unfolding reserve_text
no_reserve old at r e = rw e (nothing_written old at)

pub reserve_written : {old new : List ℕ} {at f : ℕ} (r : Reserve) (p : ℕ) → r ≡ Some p
    → Written old at (one_line reserve_word p) new f → Written old at (reserve_text r) new f
unfolding reserve_text
reserve_written {old} {new} {at} {f} r p e x = rw e x

pub head_written : {old mid new : List ℕ} {at e f : ℕ} (t : Tender) → Written old at (tender_text t) mid e
    → Written mid e (reserve_text t.reserve) new f → Written old at (head_text t) new f
unfolding head_text
head_written {old} {mid} {new} {at} {e} {f} t x y = then x y

pub bid_written : {old m1 m2 m3 m4 new : List ℕ} {at e1 e2 e3 e4 f : ℕ} (b : BidLine) → Written old at (bytes "(bid ") m1 e1
    → Written m1 e1 (decimal b.bidder) m2 e2 → Written m2 e2 (32 ∷ decimal b.price) m3 e3
    → Written m3 e3 (windows_text (joined b.windows)) m4 e4 → Written m4 e4 (bytes ")\n") new f
    → Written old at (bid_text (respelt b)) new f
unfolding bid_text_as bid_text respelt closing
bid_written {old} {m1} {m2} {m3} {m4} {new} {at} {e1} {e2} {e3} {e4} {f} b x y z ws q = then x (then y (then z (then ws q)))

-- ---- windows one by one

windows_append : (us vs : List Window) → windows_text (us ++ vs) ≡ windows_text us ++ windows_text vs
unfolding windows_text
windows_append [] vs = refl
windows_append (w ∷ us) vs =
    ap (λ s. window_text w ++ s) (windows_append us vs) ∙ sym (append_assoc (window_text w) (windows_text us) (windows_text vs))

windows_more : (us : List Window) (w : Window) → windows_text us ++ window_text w ≡ windows_text (us ++ w ∷ [])
unfolding windows_text
windows_more us w = ap (λ s. windows_text us ++ s) (sym (append-nil (window_text w))) ∙ sym (windows_append us (w ∷ []))

-- the runs before `from` are written, and those from there on are left
pub record Putting (ws : List Window) (old : List ℕ) (at : ℕ) (buf : List ℕ) (end from : ℕ) : Type 0 where
  pub done : List Window
  pub left : done ++ runs (holds ws) from (10080 - from) ≡ joined ws
  pub written : Written old at (windows_text done) buf end
  pub within : from ≤ 10080

pub putting_begins : (ws : List Window) (old : List ℕ) (at : ℕ) → Putting ws old at old at 0
unfolding windows_text
putting_begins ws old at = record {
  done = [];
  left = sym (joined_runs ws);
  written = nothing_written old at;
  within = omega arith;
}

module _ {ws : List Window} {old : List ℕ} {at : ℕ} {buf : List ℕ} {end from : ℕ} (p : Putting ws old at buf end from) where
  -- what is written is no longer than all of it
  pub putting_room : end ≤ at + length (windows_text (joined ws))
  putting_room =
      let rest = runs (holds ws) from (10080 - from) in
      omega (
        arith,
        p.written.next,
        length-append (windows_text p.done) (windows_text rest),
        ap length (windows_append p.done rest),
        ap (λ l. length (windows_text l)) p.left,
      )

  pub putting_size : length buf ≡ length old
  putting_size = p.written.size

  -- no run is left
  none_left : runs (holds ws) from (10080 - from) ≡ [] → Written old at (windows_text (joined ws)) buf end
  none_left e =
      let all : p.done ≡ joined ws = sym (append-nil p.done) ∙ ap (λ l. p.done ++ l) (sym e) ∙ p.left in
      subst (λ l. Written old at (windows_text l) buf end) all p.written

  pub putting_ends : 10080 ≤ from → Written old at (windows_text (joined ws)) buf end
  unfolding runs
  putting_ends l = none_left (let e : 10080 - from ≡ 0 = omega arith in ap (λ n. runs (holds ws) from n) e)

  module _ {row : List ℕ} {start z : ℕ} (m : Minutes ws row) (r : NextRun row from start z) where
    -- the next run begins past the week
    pub putting_late : 10080 ≤ start → Written old at (windows_text (joined ws)) buf end
    putting_late l = none_left (run_late ws row m from start z r p.within l)

    pub putting_goes : {new : List ℕ} {e : ℕ} → every lawful ws ≡ true → start < 10080
        → Written buf end (window_text (record { start = start; end = z })) new e → Putting ws old at new e z
    putting_goes {new} {e} h l w =
        let some = r.some (omega arith) in
        let run : Window = record { start = start; end = z } in
        record {
          done = p.done ++ run ∷ [];
          left = append_assoc p.done (run ∷ []) (runs (holds ws) z (10080 - z))
              ∙ ap (λ l. p.done ++ l) (sym (run_next ws row m from start z r p.within h some)) ∙ p.left;
          written = subst (λ s. Written old at s new e) (windows_more p.done run) (then p.written w);
          within = run_inside ws row m from start z r p.within h some;
        }
