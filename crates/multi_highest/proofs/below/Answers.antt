-- `multi_highest::below` meets its contract: the room that it has itself is enough for 1,001 bids of 158 words, and the parts that the
-- bids fill are lent. Assumes nothing.
use mathlib.Core.Path.{refl, sym}
use Prim.Native.Nat.{◌+◌, ◌*◌}
use native.Mathlib.Omega.{arith}
use lib.ListN.{length}
use Rattle.tender.specs.Limits.{max_entries}
use Rattle.multi_highest.specs.RoundLaws.{words_most, prefix_length}
use Rattle.multi_highest.proofs.below.Goals as goal

pub slice_bounds-below_in-end : goal.slice_bounds-below_in-end
slice_bounds-below_in-end c =
    let A = c.args in
    sym (prefix_length (length A.masks.now) (158 * max_entries) 0 (words_most c.requires.0))

pub below_in-requires : goal.below_in-requires
below_in-requires c =
    let P = c.requires in let A = c.args in (
      P.0,
      (
        P.1.1.0,
        (
          P.1.1.1,
          (
            prefix_length (length A.masks.now) (158 * max_entries) 0 (words_most P.0),
            (
              prefix_length A.w 158 1 P.0.words,
              (prefix_length (A.w + 2) 160 1 (omega (arith, P.0.words)), refl),
            ),
          ),
        ),
      ),
    )
