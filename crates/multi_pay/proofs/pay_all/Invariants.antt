-- `multi_pay::pay_all` meets its contract: before round h the bids of the first h rounds are marked and paid, and their cells closed.
-- Assumes nothing.
use Prim.Native.Nat.{◌≤◌}
use mathlib.Core.Path.{◌≡◌}
use lib.ListN.{length}
use Rattle.cells_count.specs.Hops.{Counted}
use Rattle.multi_keys.specs.Tree.{leaves, Tree}
use Rattle.multi_market.specs.Market.{has}
use Rattle.multi_pay.specs.Paying.{Listed, Paying}
use Rattle.multi_pay.proofs.pay_all.Given as goal

abbrev pub invariant-loop-h : goal.invariant-loop-h
invariant-loop-h l =
    (l.h ≤ l.rounds) × ((length l.held ≡ length l.initial.held) × ((length l.alt ≡ length l.initial.alt) × ((length l.tree ≡ length l.initial.tree)
    × ((length l.mark ≡ length l.initial.mark)
    × (Paying (has l.bids.masks.now (length l.initial.held)) l.bids.prices.now l.count l.run l.h l.held l.won l.cents
    × (Listed (has l.bids.masks.now (length l.initial.held)) l.bids.prices.now l.held l.ever (leaves l.list) × (Tree l.list
    × Counted l.held l.counts)))))))
