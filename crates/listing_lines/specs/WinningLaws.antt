-- The winners' lines, one bid after the other. Assumes nothing.
use Rattle.std.specs.Prelude.{◌≡◌, List, ℕ, ◌+◌, ◌*◌, ◌≤◌, get_or}
use Rattle.std.proofs.Common.{add-one}
use native.Mathlib.Omega.{arith}
use Rattle.tender.specs.Tables.{bid_width}
use Rattle.listing_text.specs.Lines.{win_line, win_lines}
use Rattle.spelling.specs.Written.{Written}
use Rattle.spelling.proofs.WritingLaws.{then}
use Rattle.spelling.proofs.SpellingLaws.{nothing_written}
use Rattle.listing_text.proofs.LineLaws.{win_short}

-- the lines of the first i bids are written
pub record Winning (old : List ℕ) (at : ℕ) (bids won cents new : List ℕ) (end i : ℕ) : Type 0 where
  pub written : Written old at (win_lines bids won cents i) new end
  pub few : end ≤ at + 48 * i

module _ (old : List ℕ) (at : ℕ) (bids won cents : List ℕ) where
  pub wins_begin : Winning old at bids won cents old at 0
  unfolding win_lines
  wins_begin = record { written = nothing_written old at; few = omega arith }

  pub wins_go : {mid new : List ℕ} {e f : ℕ} (i : ℕ) → Winning old at bids won cents mid e i
      → Written mid e (win_line (get_or bids (bid_width * i) 0) (get_or won i 0) (get_or cents i 0)) new f
      → Winning old at bids won cents new f (i + 1)
  unfolding win_lines
  wins_go {mid} {new} {e} {f} i h w = record {
    written = rw (add-one i) (then h.written w);
    few = omega (arith, h.few, w.next, win_short (get_or bids (bid_width * i) 0) (get_or won i 0) (get_or cents i 0));
  }

  pub wins_end : {new : List ℕ} {e i n : ℕ} → i ≡ n → Winning old at bids won cents new e i
      → Written old at (win_lines bids won cents n) new e
  wins_end {new} {e} {i} {n} p h = rw (← p) h.written
