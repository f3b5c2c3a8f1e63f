-- `multi::award` meets its contract: the room that it has itself is enough, and the parts that it lends of `won` and `cents` have a place
-- for each bid. Assumes nothing.
use Prim.Native.Nat.{ℕ, ◌+◌, ◌*◌}
use mathlib.Core.Path.{refl, sym, ap, ◌∙◌}
use native.Mathlib.Omega.{arith}
use lib.ListN.{length}
use lib.Seq.{length-take-le}
use Rattle.tender.specs.Limits.{max_entries}
use Rattle.multi.specs.LentLaws.{settles, prefix_length, words_few}
use Rattle.multi.proofs.award.Goals as goal

pub slice_bounds-settle-end : goal.slice_bounds-settle-end
slice_bounds-settle-end c =
    sym (prefix_length (length c.args.masks.now) (158 * max_entries) 0 (words_few c.requires.0))

pub settle-requires : goal.settle-requires
settle-requires c =
    let P = c.requires in let A = c.args in let h = prefix_length A.w 158 1 P.0.words in (
      rw h P.0,
      (
        rw h P.1.1.0,
        (
          (omega (arith, P.1.0), omega (arith, P.1.0)),
          (
            prefix_length (length A.masks.now) (158 * max_entries) 0 (words_few P.0),
            (
              (omega arith, omega arith),
              (
                refl,
                (
                  prefix_length (A.w + 2) 160 1 (omega (arith, P.0.words)) ∙ ap (λ (x : ℕ). x + 2) (sym h),
                  (
                    (refl, refl),
                    (
                      (refl, refl),
                      (
                        sym (length-take-le (length A.prices.now) A.won.now P.1.1.1.0),
                        sym (length-take-le (length A.prices.now) A.cents.now P.1.1.1.1),
                      ),
                    ),
                  ),
                ),
              ),
            ),
          ),
        ),
      ),
    )

pub returns : goal.returns
returns c =
    let P = c.requires in let A = c.args in let h = prefix_length A.w 158 1 P.0.words in
    settles A.won.now A.cents.now P.1.1.1.1 (rw h at c.settle.ensures)
