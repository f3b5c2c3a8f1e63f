-- Each turn writes the line of one bid. Assumes nothing.
use Rattle.std.proofs.Common.{◌≡◌}
use Rattle.listing_lines.specs.WinningLaws.{Winning}
use Rattle.listing_lines.proofs.put_wins.Given as goal

abbrev pub invariant-loop-i : goal.invariant-loop-i
invariant-loop-i l =
    let old = l.initial.page in
    (l.page.buf.ghost_name ≡ old.buf.ghost_name) × Winning old.buf.now old.at l.bids l.won l.cents l.page.buf.now l.page.at l.i
