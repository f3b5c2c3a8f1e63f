-- How long the tender's line and the joined windows of a bid are as bytes. Assumes nothing.
use Rattle.std.specs.Prelude.{◌≡◌, refl, true, List, [], ◌∷◌, ◌++◌, ℕ, zero, suc, ◌*◌, ◌≤◌, length, drop, leb}
use Rattle.std.specs.Prelude.{ltb}
use Rattle.std.proofs.Common.{ap, arith, length-append, leb-true, ltb-true}
use Rattle.tender.specs.declared.Window.{Window}
use Rattle.tender.specs.declared.Tender.{Tender}
use Rattle.tender.specs.Keywords.{bytes}
use Rattle.tender.specs.Limits.{every, lawful}
use Rattle.tender.specs.RulesLaws.{every_split}
use Rattle.tender.specs.Tables.{windows_of, window_width}
use Rattle.cover.proofs.SetLaws.{and_split}
use Rattle.spelling.specs.Decimal.{decimal}
use Rattle.spelling.proofs.DecimalLaws.{decimal_few}
use Rattle.spelling.specs.Lines.{numbers, kind_word}
use Rattle.spelling.proofs.LineLaws.{numbers_short, kind_short}
use Rattle.spelling.specs.Text.{window_text, windows_text, tender_text}
use Rattle.runs.specs.Runs.{joined}
use Rattle.runs.proofs.RunsFewLaws.{joined_few}
use Rattle.runs.proofs.JoinedLaws.{joined_lawful}

pub tender_short : (t : Tender) → length (tender_text t) ≤ 58
unfolding tender_text bytes
tender_short t = omega (
  arith,
  length-append (kind_word t.kind) (numbers t.window.start t.window.end),
  kind_short t.kind,
  numbers_short t.window.start t.window.end,
)

pub window_few : (w : Window) → lawful w ≡ true → length (window_text w) ≤ 14
unfolding lawful window_text bytes
window_few w e =
    let b = and_split (ltb w.start w.end) (leb w.end 10080) e in
    let l = ltb-true w.start w.end b.0 in
    let u = leb-true w.end 10080 b.1 in
    omega (
      arith,
      length-append (decimal w.start) (32 ∷ (decimal w.end ++ 41 ∷ [])),
      length-append (decimal w.end) (41 ∷ []),
      decimal_few 5 w.start (omega arith) (omega arith),
      decimal_few 5 w.end (omega arith) (omega arith),
    )

pub windows_few : (ws : List Window) → every lawful ws ≡ true → length (windows_text ws) ≤ 14 * length ws
unfolding windows_text
windows_few [] e = omega arith
windows_few (w ∷ ws) e =
    let a = every_split lawful w ws e in
    omega (arith, length-append (window_text w) (windows_text ws), window_few w a.0, windows_few ws a.1)

-- n windows are read of a table, whatever it holds
pub windows_length : (n : ℕ) (cells : List ℕ) → length (windows_of n cells) ≡ n
unfolding windows_of
windows_length zero cells = refl
windows_length (suc n) cells = ap suc (windows_length n (drop window_width cells))

-- the windows of a row, 32 of them at the most, joined
pub joined_text_few : (n : ℕ) (table : List ℕ) → n ≤ 32 → every lawful (windows_of n table) ≡ true
    → length (windows_text (joined (windows_of n table))) ≤ 448
joined_text_few n table l e =
    let ws = windows_of n table in
    omega (arith, windows_few (joined ws) (joined_lawful ws), joined_few ws e, windows_length n table)
