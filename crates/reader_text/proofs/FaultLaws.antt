-- What the tests of a line say: of the tender's window, of a bid's windows, and of a bid within all limits. Assumes nothing.
use Rattle.std.specs.Prelude.{ℕ, ◌≤◌, ◌<◌, List, [], ◌∷◌, Bool, not, ◌&&◌, ltb, Some, None}
use Rattle.std.proofs.Math.Path.{◌≡◌, refl}
use Rattle.std.proofs.Math.Bool.{true, false}
use Rattle.std.proofs.Math.Option.{Option, none, some}
use Rattle.std.proofs.Common.{arith, le-leb, le-ltb}
use Rattle.std.proofs.lemmas.Bool.{lt-leb}
use Rattle.tender.specs.declared.Kind.{Kind}
use Rattle.tender.specs.declared.Kind.TheVariants.{Single, Multi}
use Rattle.tender.specs.declared.Tender.{Tender}
use Rattle.tender.specs.declared.Window.{Window}
use Rattle.tender.specs.Types.{Reserve}
use Rattle.reader_forms.specs.Line.{TenderLine}
use Rattle.tender.specs.declared.Refusal.{Refusal}
use Rattle.tender.specs.declared.Refusal.TheVariants.{EmptyWindow, LateWindow}
use Rattle.tender.specs.Limits.{as_window, within, most_windows, is_single, ordered, early, lawful, lawful_reserve, sound_tender, every}
use Rattle.reader_parts.proofs.GivenLaws.{both_true as and_split}
use Rattle.reader_parts.specs.declared.Flaw.TheVariants.{Empty, Late}
use Rattle.reader_parts.specs.Flaws.{Flaws, flaw_by, flaw_in, flaw_of, is_empty, is_late}
use Rattle.reader_text.specs.Read.{line_fault, tender_fault, bid_fault_in, tender_with}

-- windows are lawful where none is empty and none is late

pub every_lawful : (ws : List Window) → every ordered ws ≡ true → every early ws ≡ true → every lawful ws ≡ true
unfolding every lawful
every_lawful [] a b = refl
every_lawful (w ∷ ws) a b =
    let s = and_split (ordered w) (every ordered ws) a in
    let u = and_split (early w) (every early ws) b in
    rw (s.0, u.0) (every_lawful ws s.1 u.1)

pub lawful_every : (ws : List Window) → every lawful ws ≡ true → (every ordered ws ≡ true) × (every early ws ≡ true)
unfolding every lawful
lawful_every [] e = (refl, refl)
lawful_every (w ∷ ws) e =
    let s = and_split (lawful w) (every lawful ws) e in
    let u = and_split (ordered w) (early w) s.0 in
    let h = lawful_every ws s.1 in
    (rw u.0 h.0, rw u.1 h.1)

-- the tender's line has no fault, and the reserve is within its limits, where the tender is sound

module _ (t : TenderLine) (r : Reserve) where
  pub sound_faultless : sound_tender (tender_with t r) ≡ true → (tender_fault t ≡ none) × (lawful_reserve r ≡ true)
  unfolding sound_tender lawful tender_fault line_fault
  sound_faultless e =
      let s = and_split (lawful (as_window t.window)) (lawful_reserve r) e in
      let u = and_split (ordered (as_window t.window)) (early (as_window t.window)) s.0 in (rw (u.0, u.1), s.1)

  pub faultless_sound : tender_fault t ≡ none → lawful_reserve r ≡ true → sound_tender (tender_with t r) ≡ true
  unfolding sound_tender lawful tender_fault line_fault
  faultless_sound e l = rw l (go (ordered (as_window t.window)) (early (as_window t.window)) e)
    where
      go : (a b : Bool) → line_fault false false false (not a) (not b) false ≡ none → (a && b) && true ≡ true
      go true true x = refl
      go true false x = let z : ◌≡◌ {A = ℕ} 0 1 = cc in absurd (omega arith)
      go false b x = let z : ◌≡◌ {A = ℕ} 0 1 = cc in absurd (omega arith)

-- by what is wrong with it
abbrev pub flaw_fault : Flaws → Option (ℕ → Refusal)
flaw_fault (Some Empty) = some EmptyWindow
flaw_fault (Some Late) = some LateWindow
flaw_fault None = none

pub tender_told : (t : TenderLine) → tender_fault t ≡ flaw_fault (flaw_in (as_window t.window))
unfolding flaw_in tender_fault line_fault
tender_told t = go (ordered (as_window t.window)) (early (as_window t.window))
  where
    go : (a b : Bool) → line_fault false false false (not a) (not b) false ≡ flaw_fault (flaw_by a b)
    go true true = refl
    go true false = refl
    go false b = refl

-- the windows of a bid, by what is wrong with them
pub flaw_told : (t : Tender) (bids bidder price count : ℕ) (ws : List Window) (used : Bool) →
    bid_fault_in t bids bidder price count (is_empty (flaw_of ws)) (is_late (flaw_of ws)) used
    ≡ bid_fault_in t bids bidder price count (not (every ordered ws)) (not (every early ws)) used
unfolding flaw_of bid_fault_in line_fault
flaw_told t bids bidder price count ws used = go (every ordered ws) (every early ws)
  where
    go : (a b : Bool) → bid_fault_in t bids bidder price count (is_empty (flaw_by a b)) (is_late (flaw_by a b)) used
        ≡ bid_fault_in t bids bidder price count (not a) (not b) used
    go true true = refl
    go true false = refl
    go false b = refl

-- a bid within all limits has no fault

single_one : (k : Kind) (n : ℕ) → n ≤ most_windows k → is_single k && ltb 1 n ≡ false
unfolding most_windows is_single
single_one Single n l = le-ltb 1 n l
single_one Multi n l = refl

pub most_few : (k : Kind) → most_windows k ≤ 32
unfolding most_windows
most_few Single = omega arith
most_few Multi = omega arith

pub no_fault : (t : Tender) (bids bidder price count : ℕ) (empty late used : Bool) → bids < 1000
    → count ≤ most_windows t.kind → 1 ≤ bidder
    → bidder ≤ 999999 → price ≤ 100000000 → empty ≡ false → late ≡ false → used ≡ false →
    bid_fault_in t bids bidder price count empty late used ≡ none
unfolding bid_fault_in line_fault within
no_fault t bids bidder price count empty late used a b c d e f g h = rw (
  lt-leb 1000 bids a,
  le-ltb 32 count (omega (arith, most_few t.kind)),
  le-leb 1 bidder c,
  le-leb bidder 999999 d,
  le-ltb 100000000 price e,
  single_one t.kind count b,
  f,
  g,
  h,
)
