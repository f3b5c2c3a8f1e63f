-- `numbers::add` meets its contract: the word that holds x, turned back, gets one bit more and is turned again. Assumes nothing.
use Prim.Native.Nat.{◌/◌, ◌<◌}
use native.Mathlib.Omega.{arith}
use lib.ListN.{length}
use Rattle.cells.proofs.StoreLaws.{one_added}
use Rattle.numbers.specs.Members.{members}
use Rattle.numbers.specs.MembersLaws.{turned_twice, member_word, members_length, members_set}
use Rattle.numbers.proofs.add.Goals as goal

pub returns : goal.returns
returns c =
    let args = c.args in
    let set = args.set.now in
    let x = args.x in
    let h : x / 64 < length set = omega (arith, c.requires) in
    rw (members_set, turned_twice, ← (member_word set (x / 64) h)) (one_added (members set) x (rw (members_length set) h))
