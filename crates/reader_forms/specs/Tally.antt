-- What a reader that walks a line holds of a bid's windows: their number, what is wrong with them, and the table with each of them in
-- its row.
use Rattle.std.specs.Prelude.{ℕ, ◌+◌, ◌*◌, List, [], ◌∷◌, length, set, None}
use Rattle.std.proofs.Math.Option.{Option, none, some}
use Rattle.tender.specs.declared.Window.{Window}
use Rattle.tender.specs.Tables.{window_width}
use Rattle.reader_forms.specs.Line.{TenderLine, Line, tender, bid, reserve}
use Rattle.reader_parts.specs.Flaws.{Flaws, flaw_of, worst}

-- the window in row m
unfoldable pub put_window : List ℕ → ℕ → Window → List ℕ
put_window table m w = set (set table (window_width * m) w.start) (window_width * m + 1) w.end

-- the windows in the rows from m on
unfoldable pub put_windows : List ℕ → ℕ → List Window → List ℕ
unfolding put_window
put_windows table m [] = table
put_windows table m (w ∷ ws) = put_windows (put_window table m w) (m + 1) ws

pub record Tally : Type 0 where
  pub count : ℕ
  pub flaw : Flaws
  pub table : List ℕ

-- the windows ws after n others with this flaw, whose rows begin at m
unfoldable pub tally : ℕ → ℕ → Flaws → List ℕ → List Window → Tally
unfolding flaw_of worst put_windows
tally m n flaw table ws = record { count = n + length ws; flaw = worst flaw (flaw_of ws); table = put_windows table (m + n) ws }

-- a line as it is noted: a bid's windows are in the table, from row m on
pub data Note : Type 0 where
  tender_note : TenderLine → Note
  bid_note : ℕ → ℕ → Tally → Note
  reserve_note : ℕ → Note

unfoldable pub noted : ℕ → List ℕ → Option Line → Option Note
unfolding tally
noted m table none = none
noted m table (some (tender t)) = some (tender_note t)
noted m table (some (bid b)) = some (bid_note b.bidder b.price (tally m 0 None table b.windows))
noted m table (some (reserve p)) = some (reserve_note p)
