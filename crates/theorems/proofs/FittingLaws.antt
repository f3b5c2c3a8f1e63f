-- A buffer that suffices for a rewritten text, and for the line of a refusal. Assumes nothing.
use Rattle.std.specs.Prelude.{◌≡◌, refl, true, cond, ◌≤◌, ◌<◌, length, leb}
use Rattle.std.proofs.Math.Path.{ap}
use Rattle.std.proofs.Common.{◌∙◌, arith, le-leb}
use Rattle.reader_text.specs.Read.{ReadOutcome, accepted, refused, read_text}
use Rattle.spelling.specs.Lines.{refused_line}
use Rattle.spelling.proofs.LineLaws.{refused_short, refused_some}
use Rattle.rewrite.specs.Rewritten.{rewrite_of}
use Rattle.theorems_calls.specs.Calls.{RewriteCall}
use Rattle.theorems.proofs.RewritingLaws.{rewritten_some}

-- a buffer as long as the text, and as the longest line of a refusal, suffices
pub always_fits : (l : RewriteCall) → length l.text ≤ length l.buffer → 52 ≤ length l.buffer → 0 < l.answer
unfolding rewrite_of
always_fits l a b = go (read_text l.text) refl
  where
    go : (o : ReadOutcome) → read_text l.text ≡ o → 0 < l.answer
    go (accepted T R W) e = rewritten_some l T R W e a
    go (refused q) e =
        let c = refused_line q in
        let m : leb (length c) (length l.buffer) ≡ true = le-leb (length c) (length l.buffer) (omega (arith, refused_short q)) in
        let r : l.answer ≡ length c = l.promise.delivers.answer
        ∙ ap (λ out. cond (leb (length out) (length l.buffer)) (length out) 0) (ap rewrite_of e)
        ∙ ap (λ b. cond b (length c) 0) m in
        omega (arith, r, refused_some q)
