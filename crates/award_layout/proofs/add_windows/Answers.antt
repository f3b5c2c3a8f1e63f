-- `award_layout::add_windows` meets its contract: the words have the cells of the windows passed. Assumes nothing.
use mathlib.Core.Path.{refl, ◌∙◌}
use Prim.Native.Nat.{◌+◌}
use native.Mathlib.Omega.{arith}
use Rattle.tender.specs.Tables.{window_at}
use Rattle.award_check.proofs.WalkLaws.{ahead_start}
use Rattle.award_layout.specs.LaidLaws.{masking_starts, masking_more, masking_ends, here_lawful}
use Rattle.award_layout.specs.LayoutLaws.{clip_order, clip_inside}
use Rattle.award_layout.proofs.add_windows.Goals as goal

pub loop-j-init : goal.loop-j-init
loop-j-init c =
    let args = c.args in
    let pre = c.requires in (
      refl,
      (
        ahead_start args.windows.now args.first args.count ∙ pre.1.0,
        masking_starts args.tender args.windows.now args.first args.count args.words.now pre.1.1.1.1,
      ),
    )

pub add_range_by-requires : goal.add_range_by-requires
add_range_by-requires c =
    let args = c.args in
    let pre = c.requires in
    let h = here_lawful args.windows.now args.first args.count c.loop-j.j c.loop-j-test.true c.loop-j.invariant.1.0 in (
      omega (
        arith,
        c.clip-s.ensures,
        c.clip-e.ensures,
        clip_order args.tender _ _ h.0,
      ),
      (
        omega (
          arith,
          c.clip-e.ensures,
          clip_inside args.tender
              (window_at args.windows.now (args.first + c.loop-j.j)).end,
          pre.1.1.0,
          c.loop-j.invariant.0,
        ),
        omega (arith, pre.1.1.1.0, c.loop-j.invariant.0),
      ),
    )

pub loop-j-preserved : goal.loop-j-preserved
loop-j-preserved c =
    let args = c.args in
    let h = here_lawful args.windows.now args.first args.count c.loop-j.j c.loop-j-test.true c.loop-j.invariant.1.0 in (
      c.add_range_by.auto.words ∙ c.loop-j.invariant.0,
      (
        h.1,
        masking_more args.tender args.windows.now args.first args.count c.loop-j.j c.loop-j.words
            c.add_range_by.new.words c.clip-s.result c.clip-e.result c.loop-j.invariant.1.1 c.loop-j-test.true
            c.clip-s.ensures c.clip-e.ensures (omega
            (arith, c.clip-s.ensures, c.clip-e.ensures, clip_order args.tender _ _ h.0))
            c.add_range_by.ensures,
      ),
    )

pub returns : goal.returns
returns c =
    let args = c.args in
    masking_ends args.tender args.windows.now args.first args.count c.loop-j.j
    c.loop-j.words c.loop-j.invariant.1.1 c.loop-j-test.false
