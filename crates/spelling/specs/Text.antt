-- The bid text of a tender and its bids, as bytes (paper 01, "The bid text").
use Rattle.std.specs.Prelude.{List, [], ◌∷◌, ◌++◌, ℕ, Some, None}
use Rattle.tender.specs.declared.Window.{Window}
use Rattle.tender.specs.Types.{Reserve}
use Rattle.tender.specs.declared.Tender.{Tender}
use Rattle.tender.specs.Keywords.{bytes, reserve_word}
use Rattle.tender.specs.Tables.{Row, own}
use Rattle.reader_forms.specs.Line.{BidLine}
use Rattle.spelling.specs.Decimal.{decimal}
use Rattle.spelling.specs.Lines.{closing, numbers, one_line, kind_word}

-- " (START END)"
unfoldable pub window_text : Window → List ℕ
unfolding bytes decimal
window_text w = bytes " (" ++ (decimal w.start ++ (32 ∷ (decimal w.end ++ bytes ")")))

-- one after the other
unfoldable pub windows_text : List Window → List ℕ
unfolding window_text
windows_text [] = []
windows_text (w ∷ ws) = window_text w ++ windows_text ws

-- "(bid BIDDER PRICE (START END) ..)" and byte 10, the price written as the word p
unfoldable pub bid_text_as : List ℕ → BidLine → List ℕ
unfolding bytes decimal windows_text closing
bid_text_as p b = bytes "(bid " ++ (decimal b.bidder ++ (32 ∷ (p ++ (windows_text b.windows ++ closing))))

-- the same, the price in cents
unfoldable pub bid_text : BidLine → List ℕ
unfolding decimal bid_text_as
bid_text b = bid_text_as (decimal b.price) b

-- one after the other
unfoldable pub bids_text : List BidLine → List ℕ
unfolding bid_text
bids_text [] = []
bids_text (b ∷ bs) = bid_text b ++ bids_text bs

-- "(tender KIND START END)" and byte 10
unfoldable pub tender_text : Tender → List ℕ
unfolding bytes kind_word numbers
tender_text t = bytes "(tender " ++ (kind_word t.kind ++ numbers t.window.start t.window.end)

-- "(reserve PRICE)" and byte 10, where there is a reserve
unfoldable pub reserve_text : Reserve → List ℕ
unfolding one_line reserve_word
reserve_text None = []
reserve_text (Some p) = one_line reserve_word p

-- the lines before the bids: the tender's, and its reserve's
unfoldable pub head_text : Tender → List ℕ
unfolding tender_text reserve_text
head_text t = tender_text t ++ reserve_text t.reserve

-- the head, and a line for each bid
unfoldable pub text_of : Tender → List BidLine → List ℕ
unfolding head_text bids_text
text_of t bs = head_text t ++ bids_text bs

-- the bid of a row
unfoldable pub bid_in : List ℕ → Row → BidLine
unfolding own
bid_in windows r = record { bidder = r.bidder; price = r.price; windows = own windows r }
