-- What an accepted text says of its lines. Assumes nothing.
use Rattle.std.specs.Prelude.{◌≡◌, Bool, ℕ, ◌+◌, length, ltb}
use Rattle.std.proofs.Math.Path.{refl, ap}
use mathlib.Core.List.{List, [], ◌∷◌, ◌++◌, map}
use Rattle.std.proofs.Math.Bool.{true, false, cond}
use Rattle.std.proofs.Math.Option.{Option, none, some}
use Rattle.std.proofs.Common.{arith}
use Rattle.tender.specs.declared.Window.{Window}
use Rattle.tender.specs.declared.Tender.{Tender}
use Rattle.tender.specs.Tables.{Row}
use Rattle.reader_parts.specs.Words.{cut}
use Rattle.reader_forms.specs.Line.{Line, tender, bid, reserve, lines_of}
use Rattle.tender.specs.declared.Refusal.{Refusal}
use Rattle.tender.specs.declared.Refusal.TheVariants.{TextTooLong}
use Rattle.reader_text.specs.Read.{ReadOutcome, accepted, refused, bids_of, bid_fault, judged_by, checked}
use Rattle.reader_text.specs.Read.{read_lines, read_text}

pub never : {A : Type 0} {r : Refusal} {t : Tender} {R : List Row} {W : List Window} → refused r ≡ accepted t R W → A
never e = let z : ◌≡◌ {A = ℕ} 0 1 = cc in absurd (omega arith)

module _ (T : Tender) (R : List Row) (W : List Window) where
  -- the text of an accepted outcome is not too long
  pub read_lines_lem : (text : List ℕ) → read_text text ≡ accepted T R W → read_lines (lines_of (cut 10 text)) ≡ accepted T R W
  unfolding read_text
  read_lines_lem text e = go (ltb 65536 (length text)) e
    where
      go : (t : Bool) → cond t (refused TextTooLong) (read_lines (lines_of (cut 10 text))) ≡ accepted T R W
          → read_lines (lines_of (cut 10 text)) ≡ accepted T R W
      go true x = never x
      go false x = x

  pub judged_out : (f : Option (ℕ → Refusal)) (at : ℕ) (out : ReadOutcome)
      → judged_by refused f at out ≡ accepted T R W → (f ≡ none)
      × (out ≡ accepted T R W)
  unfolding judged_by
  judged_out none at out e = (refl, e)
  judged_out (some n) at out e = never e

  -- no line is faulty
  pub checked_out : (u : Tender) (at : ℕ) (used : List ℕ) (ls : List (Option Line)) (out : ReadOutcome)
      → checked u at used ls out ≡ accepted T R W → out ≡ accepted T R W
  unfolding checked
  checked_out u at used [] out e = e
  checked_out u at used (none ∷ ls) out e = never e
  checked_out u at used (some (tender t) ∷ ls) out e = never e
  checked_out u at used (some (reserve p) ∷ ls) out e = never e
  checked_out u at used (some (bid b) ∷ ls) out e =
      checked_out u (at + 1) (used ++ b.bidder ∷ []) ls out
      (judged_out (bid_fault u used b) at (checked u (at + 1) (used ++ b.bidder ∷ []) ls out) e).1

  -- every line is a bid
  pub checked_bids : (u : Tender) (at : ℕ) (used : List ℕ) (ls : List (Option Line)) (out : ReadOutcome)
      → checked u at used ls out ≡ accepted T R W → ls ≡ map (λ b. some (bid b)) (bids_of ls)
  unfolding checked bids_of
  checked_bids u at used [] out e = refl
  checked_bids u at used (none ∷ ls) out e = never e
  checked_bids u at used (some (tender t) ∷ ls) out e = never e
  checked_bids u at used (some (reserve p) ∷ ls) out e = never e
  checked_bids u at used (some (bid b) ∷ ls) out e =
      ap {B = List (Option Line)} (λ r. some (bid b) ∷ r)
      (checked_bids u (at + 1) (used ++ b.bidder ∷ []) ls out
      (judged_out (bid_fault u used b) at (checked u (at + 1) (used ++ b.bidder ∷ []) ls out) e).1)
