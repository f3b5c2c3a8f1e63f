-- `multi_pay::pay` meets its contract: the run without the bid begins where the written run stands, and what the tape has for the round
-- are the cells of its bid. Assumes nothing.
use mathlib.Core.Path.{refl, ap}
use lib.ListN.{set}
use Rattle.multi_pay.proofs.AlongLaws.{round_shuts, listed_on}
use Rattle.multi_market.proofs.WordRowLaws.{known}
use Rattle.multi_pay.proofs.pay.Goals as goal

pub returns : goal.returns
returns c =
    let P = known c.args.bids.market c.args.bids.hopping c.requires in let R = P.1.1.1.0 in let u = c.ready.ensures in let a = u.1.0 in
    let m = u.1.1.0 in let v = u.1.1.1 in
    let s = round_shuts P.0.priced R c.close_pairs.ensures.0 in (
      record {
        price = c.limit_in-t.result;
        limited = rw a at c.limit_in-t.ensures.0;
        flag = refl;
        sum = ap (set c.args.cents.now _) c.saturating_sub.ensures;
        shuts = s;
      },
      (listed_on P.0.priced (rw (a, m, v.0) at u.0) c.close_pairs.auto.held s, (v.1.0, c.close_pairs.ensures.1)),
    )
