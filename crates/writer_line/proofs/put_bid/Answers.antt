-- The opening, the bidder, the price, the joined windows, and the end of the line. Assumes nothing.
use Rattle.std.proofs.Common.{◌∙◌, ◌*◌, arith, drop}
use Rattle.tender.specs.Keywords.{bytes}
use Rattle.tender.specs.Tables.{windows_of, window_width}
use Rattle.spelling.proofs.LineLaws.{decimal_short}
use Rattle.writer_line.proofs.LengthLaws.{joined_text_few}
use Rattle.writer_line.proofs.PutLaws.{bid_written}
use Rattle.writer_line.proofs.put_bid.Goals as goal

pub put_number-requires : goal.put_number-requires
put_number-requires c =
    let begun = c.put_all.ensures.1 in
    let named = c.put_decimal.ensures.1 in
    omega (arith, decimal_short, c.requires.1.1.1.0, begun.next, begun.size, named.next, named.size)

pub put_windows-requires : goal.put_windows-requires
put_windows-requires c =
    let args = c.args in
    let pre = c.requires in
    let few = joined_text_few args.count (drop (window_width * args.first) args.windows.now) pre.1.1.0 pre.1.0 in
    let begun = c.put_all.ensures.1 in
    let named = c.put_decimal.ensures.1 in
    let priced = c.put_number.ensures.1 in (
      pre.0,
      (
        pre.1.0,
        (
          omega (
            arith,
            few,
            decimal_short,
            pre.1.1.1.0,
            begun.next,
            begun.size,
            named.next,
            named.size,
            priced.next,
            priced.size,
          ),
          pre.1.1.1.1,
        ),
      ),
    )

pub put_all-requires-2 : goal.put_all-requires-2
put_all-requires-2 c =
    let args = c.args in
    let pre = c.requires in
    let few = joined_text_few args.count (drop (window_width * args.first) args.windows.now) pre.1.1.0 pre.1.0 in
    let begun = c.put_all.ensures.1 in
    let named = c.put_decimal.ensures.1 in
    let priced = c.put_number.ensures.1 in
    let ended = c.put_windows.ensures.0.1 in
    omega (
      arith,
      few,
      decimal_short,
      pre.1.1.1.0,
      begun.next,
      begun.size,
      named.next,
      named.size,
      priced.next,
      priced.size,
      ended.next,
      ended.size,
    )

pub returns : goal.returns
unfolding bytes
returns c =
    let args = c.args in
    let own = windows_of args.count (drop (window_width * args.first) args.windows.now) in
    let begun = c.put_all.ensures in
    let named = c.put_decimal.ensures in
    let priced = c.put_number.ensures in
    let ended = c.put_windows.ensures.0 in
    let last = c.put_all-2.ensures in (
      (
        last.0 ∙ ended.0 ∙ priced.0 ∙ named.0 ∙ begun.0,
        bid_written (record { bidder = args.bidder; price = args.price; windows = own }) begun.1 named.1 priced.1 ended.1 last.1,
      ),
      c.put_windows.ensures.1,
    )
