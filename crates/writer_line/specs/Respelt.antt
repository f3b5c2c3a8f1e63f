-- A bid in one spelling (paper 02, request 2): its windows joined where they overlap or touch, in rising order.
use Rattle.reader_forms.specs.Line.{BidLine}
use Rattle.runs.specs.Runs.{joined}

-- a bid with its windows joined
unfoldable pub respelt : BidLine → BidLine
unfolding joined
respelt b = record { bidder = b.bidder; price = b.price; windows = joined b.windows }
