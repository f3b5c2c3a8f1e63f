-- Each turn writes the line of one bid. Assumes nothing.
use Rattle.std.proofs.Common.{refl, ◌∙◌, arith}
use Rattle.listing_lines.specs.WinningLaws.{wins_begin, wins_go, wins_end}
use Rattle.listing_lines.proofs.put_wins.Goals as goal

pub loop-i-init : goal.loop-i-init
loop-i-init c =
    let args = c.args in
    let page = args.page.now in (refl, wins_begin page.buf.now page.at args.bids.now args.won.now args.cents.now)

pub put_win-requires : goal.put_win-requires
put_win-requires c =
    let put = c.loop-i.invariant.1 in omega (arith, c.requires.1.1.1, put.few, put.written.size)

pub loop-i-preserved : goal.loop-i-preserved
loop-i-preserved c =
    let args = c.args in
    let page = args.page.now in
    let put = c.loop-i.invariant in
    let more = c.put_win.ensures in (
      more.0 ∙ put.0,
      wins_go page.buf.now page.at args.bids.now args.won.now args.cents.now c.loop-i.i put.1 more.1,
    )

pub returns : goal.returns
returns c =
    let args = c.args in
    let page = args.page.now in
    let put = c.loop-i.invariant in
    (put.0, wins_end page.buf.now page.at args.bids.now args.won.now args.cents.now (omega arith) put.1)
