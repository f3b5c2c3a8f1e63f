-- The rules of a window and of a tender, said one by one (paper 01, "Time, price and place").
use Rattle.std.specs.Prelude.{◌≡◌, ℕ, ◌≤◌, ◌<◌, Some}
use Rattle.tender.specs.declared.Window.{Window}
use Rattle.tender.specs.declared.Tender.{Tender}
use Rattle.tender.specs.Limits.{as_window}

pub record WindowRules (w : Window) : Type 0 where
  pub some_minute : w.start < w.end
  pub in_week : w.end ≤ 10080

pub record TenderRules (t : Tender) : Type 0 where
  pub window : WindowRules (as_window t.window)
  pub reserve : (p : ℕ) → t.reserve ≡ Some p → p ≤ 100000000
