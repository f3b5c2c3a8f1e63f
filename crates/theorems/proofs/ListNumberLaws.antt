-- A text gives one list or 13, and the refusals that a list shows have the numbers 1 to 7, 11, 12 and 15 alone. Assumes nothing.
use Rattle.std.specs.Prelude.{◌≡◌, refl, ◌⊎◌, Bool, true, false, cond, List, [], ◌++◌, ℕ, ◌^◌, ◌<◌, length}
use Rattle.std.specs.Prelude.{get_or, drop, leb}
use Rattle.std.proofs.Common.{sym, ap, ◌∙◌, inl, inr, append-nil, arith, leb-true, leb-false, le-ltb}
use Rattle.std.proofs.Math.Option.{none}
use Rattle.tender.specs.declared.Window.{Window}
use Rattle.tender.specs.declared.Tender.{Tender}
use Rattle.tender.specs.declared.AwardRow.{AwardRow}
use Rattle.tender.specs.declared.Totals.{Totals}
use Rattle.tender.specs.declared.Refusal.{Refusal}
use Rattle.tender.specs.Refusals.{number_of, place_of}
use Rattle.tender.specs.Keywords.{bytes}
use Rattle.tender.specs.Tables.{Row, flat_rows, flat_windows}
use Rattle.cover.specs.Sets.{Found, nothing, found}
use Rattle.reader_parts.specs.Words.{among}
use Rattle.reader_text.specs.Read.{read_text}
use Rattle.reader_text.specs.Read as reading
use Rattle.reader_text.specs.Rules.{Rules}
use Rattle.reader_text.proofs.RulesLaws.{rules_law}
use Rattle.award_check.specs.Auction.{Auction, auction_of, thin_cell}
use Rattle.award_check.specs.Faults.{fault_of}
use Rattle.award_check.proofs.TextLaws.{never_nine}
use Rattle.award_rule.specs.Award.{rule, Outcome, awarded, refused, award_rows, totals_of, uncovered, lone, thinned, award_of}
use Rattle.award_rule.proofs.AwardLaws.{award_settles}
use Rattle.spelling.specs.Lines.{pair_line, refused_word}
use Rattle.spelling.proofs.LineLaws.{refused_line_lem}
use Rattle.listing_text.specs.Lines.{award_word, award_line}
use Rattle.listing_text.specs.List.{list_lines, list_of}
use Rattle.listing_text.proofs.ListLaws.{listed_is}
use Rattle.theorems_calls.specs.OneReading.{OfText}
use Rattle.theorems_calls.proofs.ReadingLaws.{refusal_number}
use Rattle.theorems_shown.proofs.ShownLaws.{first_number}
use Rattle.theorems_calls.specs.Calls.{ListCall, shown}
use Rattle.theorems.specs.Between.{Showable, OneList, list_written, list_too_long}

pub one_list : (l : ListCall) → OneList l
one_list l = go (leb (length list) (length l.buffer)) refl l.promise.delivers.answer l.promise.delivers.bytes
  where
    list : List ℕ
    list = list_of (read_text l.text)

    go : (t : Bool) → leb (length list) (length l.buffer) ≡ t → l.answer ≡ cond t (length list) 0
        → l.after_buffer ≡ cond t (list ++ drop (length list) l.buffer) l.buffer → OneList l
    go true e a b = list_written (leb-true (length list) (length l.buffer) e) a b
    go false e a b = list_too_long (leb-false (length list) (length l.buffer) e) a b

plain_refused : among 32 refused_word ≡ false
unfolding among refused_word bytes
plain_refused = refl

-- two lines of a refusal show the same number only where it is the same
same_number : (a b c d : ℕ) → a < 10 ^ 20 → c < 10 ^ 20 → pair_line refused_word a b ≡ pair_line refused_word c d → a ≡ c
same_number a b c d l m e = first_number refused_word a b c d plain_refused l m e

-- an award's list begins with another word
award_begins : (t : Tender) (R : List Row) (rows : List AwardRow) (totals : Totals)
    → get_or (list_lines t R (awarded rows totals)) 1 0 ≡ 97
unfolding list_lines award_line pair_line award_word bytes
award_begins t R rows totals = refl

refusal_begins : (n at : ℕ) → get_or (pair_line refused_word n at) 1 0 ≡ 114
unfolding pair_line refused_word bytes
refusal_begins n at = refl

-- the award on what was read declines with 11 or 12 alone
read_declined : (T : Tender) (R : List Row) (W : List Window) → Rules T R W → (r : Refusal) →
    award_of T.kind T (length R) (flat_rows R) (flat_windows W) (length R) ≡ refused r → (number_of r ≡ 11) ⊎ (number_of r ≡ 12)
unfolding thinned uncovered lone
read_declined T R W rules r e = go (thin_cell A 0) (thin_cell A 1) refl refl
  where
    A : Auction
    A = auction_of T (length R) (flat_rows R) (flat_windows W)

    sound : fault_of T.kind T (length R) (flat_rows R) (flat_windows W) ≡ none
    sound = rw (append-nil (flat_rows R), append-nil (flat_windows W)) at (never_nine T R W [] [] rules)

    settles : (x y : Found) → thin_cell A 0 ≡ x → thin_cell A 1 ≡ y
        → refused r ≡ thinned (uncovered T) (lone T) x y (awarded (award_rows (rule T.kind) A) (totals_of (rule T.kind) A))
    settles x y d f = sym e ∙ award_settles T.kind T (length R) (flat_rows R) (flat_windows W) (length R) sound
        (le-ltb (length R) (length R) (omega arith)) x y d f

    go : (x y : Found) → thin_cell A 0 ≡ x → thin_cell A 1 ≡ y → (number_of r ≡ 11) ⊎ (number_of r ≡ 12)
    go (found x) y d f = let h = settles (found x) y d f in inl (cc)
    go nothing (found y) d f = let h = settles nothing (found y) d f in inr (cc)
    go nothing nothing d f = let h = settles nothing nothing d f in let z : ◌≡◌ {A = ℕ} 0 1 = cc in absurd (omega arith)

-- No list shows 8, 9 or 10: a refusal that stands in the buffer has another number.
pub shows_no_other : (l : ListCall) (n at : ℕ) → n < 10 ^ 20 → 0 < l.answer → shown l ≡ pair_line refused_word n at → Showable n
unfolding list_of list_lines
shows_no_other l n at small a e = go (read_text l.text) refl (sym (listed_is l.promise a) ∙ e)
  where
    found_as : (m k : ℕ) → pair_line refused_word m k ≡ pair_line refused_word n at → (m ≡ 11) ⊎ (m ≡ 12) → (n ≡ 11)
        ⊎ (n ≡ 12)
    found_as m k y (inl g) = inl (sym (same_number m k n at (omega arith) small y) ∙ g)
    found_as m k y (inr g) = inr (sym (same_number m k n at (omega arith) small y) ∙ g)

    text_small : (m : ℕ) → OfText m → m < 10 ^ 20
    text_small m (inl r) = omega (arith, r.1)
    text_small m (inr r) = omega (arith, r.1)

    of : (T : Tender) (R : List Row) (W : List Window) → Rules T R W → (o : Outcome)
        → award_of T.kind T (length R) (flat_rows R) (flat_windows W) (length R) ≡ o
        → list_lines T R o ≡ pair_line refused_word n at
        → Showable n
    of T R W rules (awarded rows totals) f x =
        let z = sym (award_begins T R rows totals) ∙ ap (λ s. get_or s 1 0) x ∙ refusal_begins n at in
        absurd (omega (arith, z))
    of T R W rules (refused r) f x = inr (found_as (number_of r) (place_of r) (sym (refused_line_lem r) ∙ x)
        (read_declined T R W rules r f))

    go : (o : reading.ReadOutcome) → read_text l.text ≡ o → list_of (read_text l.text) ≡ pair_line refused_word n at → Showable n
    go (reading.refused r) f x =
        let h = refusal_number l.text r f in
        let q : number_of r ≡ n = same_number (number_of r) (place_of r) n at (text_small (number_of r) h) small
        (sym (refused_line_lem r) ∙ sym (ap list_of f) ∙ x) in
        inl (rw q at h)
    go (reading.accepted T R W) f x = of T R W (rules_law T R W l.text f)
        (award_of T.kind T (length R) (flat_rows R) (flat_windows W) (length R)) refl (sym (ap list_of f) ∙ x)
