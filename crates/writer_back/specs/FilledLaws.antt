-- The tables that an accepted text fills: no fault is found in them, and what is written of them does not turn on the cells past
-- their rows. Assumes nothing.
use Rattle.std.specs.Prelude.{◌≡◌, refl, length, leb}
use Rattle.std.proofs.Math.Path.{sym, ap}
use Rattle.std.proofs.Common.{◌∙◌, arith}
use Rattle.std.proofs.Math.Bool.{cond}
use mathlib.Core.List.{List, [], ◌∷◌, ◌++◌, map, append-nil}
use Rattle.std.proofs.Math.Option.{none}
use Prim.Native.Nat.{ℕ, min, ◌≤◌}
use Rattle.tender.specs.declared.Window.{Window}
use Rattle.tender.specs.declared.Tender.{Tender}
use Rattle.tender.specs.declared.Refusal.TheVariants.{NoRoom}
use Rattle.tender.specs.Limits.{max_text}
use Rattle.tender.specs.Tables.{Row, rows_of, flat_rows, flat_windows}
use Rattle.reader_text.specs.Read.{accepted, read_text}
use Rattle.reader_text.proofs.RulesLaws.{rules_law}
use Rattle.spelling.specs.Text.{bid_in, text_of}
use Rattle.spelling.proofs.SpeltShortLaws.{spelt_short}
use Rattle.award_check.specs.Faults.{fault_of}
use Rattle.award_check.proofs.TextLaws.{rows_flat, never_nine}
use Rattle.writer_line.specs.Respelt.{respelt}
use Rattle.writer_text.specs.Canonical.{respelt_in, canonical, WriteOutcome, spelt, unspelt, unless_fault, write_into}
use Rattle.writer_back.specs.BidLaws.{AllLawful, row_lawful}
use Rattle.writer_back.specs.SpeltLaws.{bids_read, bids_of_lem, spelt_again}
use Rattle.writer_back.specs.ShortLaws.{canonical_short}
use Rattle.writer_back.specs.ReadBackLaws.{read_lawful}

respelt_map : (windows : List ℕ) (rows : List Row) → respelt_in windows rows ≡ map respelt (map (bid_in windows) rows)
unfolding respelt_in
respelt_map windows [] = refl
respelt_map windows (r ∷ rs) = ap (λ l. respelt (bid_in windows r) ∷ l) (respelt_map windows rs)

module _ (text : List ℕ) (T : Tender) (R : List Row) (W : List Window) (e : read_text text ≡ accepted T R W) where
  -- the bids are the same, whatever stands past the windows
  pub bids_alone : (w : List ℕ) → map (bid_in (flat_windows W ++ w)) R ≡ map (bid_in (flat_windows W)) R
  bids_alone w =
      let s = bids_read text T R W e in
      bids_of_lem text T R W w s ∙ sym (bids_of_lem text T R W [] s) ∙ ap (λ ws. map (bid_in ws) R) (append-nil (flat_windows W))

  -- and so is the text of them
  pub canonical_alone : (v w : List ℕ)
      → canonical T (rows_of (length R) (flat_rows R ++ v)) (flat_windows W ++ w) ≡ canonical T R (flat_windows W)
  unfolding canonical
  canonical_alone v w =
      ap (λ rows. text_of T (respelt_in (flat_windows W ++ w) rows)) (rows_flat R v)
      ∙ ap (text_of T) (respelt_map (flat_windows W ++ w) R ∙ ap (map respelt) (bids_alone w) ∙ sym (respelt_map (flat_windows W) R))

  -- no fault is found
  pub read_sound : (v w : List ℕ) → fault_of T.kind T (length R) (flat_rows R ++ v) (flat_windows W ++ w) ≡ none
  read_sound v w = never_nine T R W v w (rules_law T R W text e)

  -- each row's windows are lawful
  pub read_all_lawful : AllLawful (flat_windows W) R
  read_all_lawful = rw (append-nil (flat_windows W)) at
      (row_lawful T (flat_windows W ++ []) 1 [] 0 R (read_lawful text T R W [] e).rows_too)

  -- what writing comes to: the text, or 14
  pub write_read : (v w : List ℕ) (room : ℕ) → write_into T (length R) (flat_rows R ++ v) (flat_windows W ++ w) room
      ≡ cond (leb (length (canonical T R (flat_windows W))) (min max_text room)) (spelt (canonical T R (flat_windows W))) (unspelt NoRoom)
  unfolding write_into unless_fault
  write_read v w room =
      let out : List ℕ → WriteOutcome = λ s. cond (leb (length s) (min max_text room)) (spelt s) (unspelt NoRoom) in
      ap (λ f. unless_fault f (out (canonical T (rows_of (length R) (flat_rows R ++ v)) (flat_windows W ++ w)))) (read_sound v w)
      ∙ ap out (canonical_alone v w)

  -- it is written with no more bytes than it has
  pub no_longer : length (canonical T R (flat_windows W)) ≤ length text
  no_longer = omega (
    arith,
    canonical_short T R (flat_windows W) read_all_lawful,
    spelt_short text T (map (bid_in (flat_windows W)) R) (spelt_again text T R W e),
  )
