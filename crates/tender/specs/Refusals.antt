-- Each refusal's number and place (paper 01, "What each operation declines"). 13, a list longer than the buffer, is told by a length of 0.
use Rattle.std.specs.Prelude.{ℕ}
use Rattle.tender.specs.declared.Refusal.{Refusal}
use Rattle.tender.specs.declared.Refusal.TheVariants.{TextTooLong, BadForm, OutsideLimits, TooMany, EmptyWindow, BidderRepeated}
use Rattle.tender.specs.declared.Refusal.TheVariants.{SeveralWindows, TableTooShort, BadTables, RowsTooFew, MinuteUncovered}
use Rattle.tender.specs.declared.Refusal.TheVariants.{OneBidder, NoRoom, LateWindow, ReserveMisplaced, NoSuchBidder}

abbrev pub number_of : Refusal → ℕ
-- Reading: a text above 65,536 bytes; a line that is not of the form; a bidder or price outside its limits; a 1,001st bid or
-- a 33rd window; a window with start not below end; a bidder number used on an earlier line; more than one window in a
-- single tender; a lent table with fewer rows than the text needs; at 15, a window that ends after 10,080;
-- at 16, a reserve line that does not stand before the bids, or a second one
number_of TextTooLong = 1
number_of (BadForm line) = 2
number_of (OutsideLimits line) = 3
number_of (TooMany line) = 4
number_of (EmptyWindow line) = 5
number_of (BidderRepeated line) = 6
number_of (SeveralWindows line) = 7
number_of TableTooShort = 8
number_of (LateWindow line) = 15
number_of (ReserveMisplaced line) = 16
-- Either award: tables that break a rule; fewer award rows than bids; a minute in no bid; a minute in exactly one bid
number_of (BadTables row) = 9
number_of RowsTooFew = 10
number_of (MinuteUncovered minute) = 11
number_of (OneBidder minute) = 12
-- Writing: a text above 65,536 bytes, or one that the lent buffer has no room for
number_of NoRoom = 14
-- Asking with which price a bid would win: no bid has that bidder number
number_of NoSuchBidder = 17

abbrev pub place_of : Refusal → ℕ
place_of TextTooLong = 0
place_of (BadForm line) = line
place_of (OutsideLimits line) = line
place_of (TooMany line) = line
place_of (EmptyWindow line) = line
place_of (BidderRepeated line) = line
place_of (SeveralWindows line) = line
place_of TableTooShort = 0
place_of (BadTables row) = row
place_of RowsTooFew = 0
place_of (MinuteUncovered minute) = minute
place_of (OneBidder minute) = minute
place_of NoRoom = 0
place_of (LateWindow line) = line
place_of (ReserveMisplaced line) = line
place_of NoSuchBidder = 0
