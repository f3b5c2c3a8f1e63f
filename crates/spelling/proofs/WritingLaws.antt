-- Bytes written one after the other: two writes that follow each other. Assumes nothing.
use Rattle.std.specs.Prelude.{◌≡◌, List, ◌++◌, ℕ, ◌+◌, ◌-◌, ◌≤◌, take, drop}
use Rattle.std.proofs.Common.{sym, ap, ◌∙◌, append_assoc, arith, length-append, take-append-drop, drop-drop}
use Rattle.spelling.specs.Written.{Written}

further : (old mid : List ℕ) (e f : ℕ) → e ≤ f → drop e mid ≡ drop e old → drop f mid ≡ drop f old
further old mid e f l h =
    let g : f ≡ e + (f - e) = omega arith in
    ap (λ k. drop k mid) g ∙ sym (drop-drop (f - e) e mid) ∙ ap (drop (f - e)) h ∙ drop-drop (f - e) e old
    ∙ ap (λ k. drop k old) (sym g)

pub then : {old mid new b c : List ℕ} {at e f : ℕ} → Written old at b mid e → Written mid e c new f
    → Written old at (b ++ c) new f
then {old} {mid} {new} {b} {c} {at} {e} {f} x y = record {
  text = y.text ∙ ap (λ l. l ++ c) x.text ∙ append_assoc (take at old) b c;
  next = omega (arith, x.next, y.next, length-append b c);
  rest = y.rest ∙ further old mid e f (omega (arith, y.next)) x.rest;
  size = y.size ∙ x.size;
}

-- bytes written from the start, and what stood past them
pub from_start : (old b new : List ℕ) (e : ℕ) → Written old 0 b new e → new ≡ b ++ drop e old
from_start old b new e w = sym (take-append-drop e new) ∙ ap (λ l. l ++ drop e new) w.text ∙ ap (λ l. b ++ l) w.rest

-- what a page leaves in its buffer
pub left : {old mid new bytes : List ℕ} {at end : ℕ} → Written old at bytes mid end → new ≡ mid → Written old at bytes new end
left w e = rw e w
