-- The line of what was read is the line of the text; no line is empty and none is longer than 52 bytes. Assumes nothing.
use Rattle.std.specs.Prelude.{◌≡◌, List, [], ◌∷◌, ◌++◌, ℕ, ◌≤◌, ◌<◌, length, Some, None, Ok, Err}
use Rattle.std.proofs.Math.Path.{sym, subst}
use Rattle.std.proofs.Common.{ap, ◌∙◌, arith, length-append}
use Rattle.std.proofs.Math.Option.{none}
use Rattle.tender.specs.declared.Tender.{Tender}
use Rattle.tender.specs.Types.{Highest}
use Rattle.tender.specs.declared.Refusal.{Refusal}
use Rattle.tender.specs.Keywords.{bytes}
use Rattle.tender.specs.Tables.{flat_rows, flat_windows}
use Rattle.reader_text.specs.Read.{ReadOutcome, accepted, refused, read_text}
use Rattle.reader_text.proofs.RulesLaws.{rules_law}
use Rattle.reader_fill.proofs.ReadInLaws.{ReadIn}
use Rattle.spelling.specs.Decimal.{decimal}
use Rattle.spelling.specs.Lines.{pair_line, refused_line}
use Rattle.spelling.specs.Written.{Written}
use Rattle.spelling.proofs.WritingLaws.{then}
use Rattle.spelling.proofs.LineLaws.{decimal_short, pair_short, pair_some, refused_short, refused_some}
use Rattle.spelling.specs.Delivered.{Delivered}
use Rattle.award_check.specs.Faults.{fault_of}
use Rattle.award_check.proofs.TextLaws.{never_nine}
use Rattle.highest_rule.specs.Highest.{highest_of}
use Rattle.highest_rule.proofs.AnswerLaws.{highest_read}
use Rattle.highest_text.specs.Told.{highest_word, none_line, highest_line, highest_in, HighestTold}

-- what was read

module _ {text bids windows : List ℕ} {t : Tender} {n : ℕ} (h : ReadIn text bids windows t n) where
  pub read_sound : fault_of t.kind t n bids windows ≡ none
  read_sound = rw (h.bids_are, h.windows_are, ← h.count)
      (never_nine t h.rows h.spans h.past_rows h.past_spans (rules_law t h.rows h.spans text h.is))

  -- what is answered of the tables is answered of the rows
  asked_read : (bidder : ℕ)
      → highest_of t n bids windows bidder ≡ highest_of t (length h.rows) (flat_rows h.rows) (flat_windows h.spans) bidder
  asked_read bidder = rw (h.bids_are, h.windows_are, ← h.count)
      (highest_read t h.rows h.spans (rules_law t h.rows h.spans text h.is) h.past_rows h.past_spans bidder)

  pub told_read : {old new : List ℕ} {r bidder : ℕ} → (a : Highest) → a ≡ highest_of t n bids windows bidder
      → Delivered (highest_line bidder a) old new r → HighestTold text bidder old new r
  unfolding highest_in
  told_read {old} {new} {r} {bidder} a e d = record {
    delivers = subst (λ line. Delivered line old new r) (ap (highest_line bidder) (e ∙ asked_read bidder)
        ∙ sym (ap (λ o. highest_in o bidder) h.is)) d;
  }

-- a text that cannot be read
pub told_refused : {text old new : List ℕ} {r bidder : ℕ} (q : Refusal) → read_text text ≡ refused q
    → Delivered (highest_line bidder (Err q)) old new r → HighestTold text bidder old new r
unfolding highest_in highest_line
told_refused {text} {old} {new} {r} {bidder} q e d =
    record { delivers = subst (λ line. Delivered line old new r) (sym (ap (λ o. highest_in o bidder) e)) d }

-- the line that no price wins, part by part
pub none_written : {old one two new : List ℕ} {a b c : ℕ} (bidder : ℕ)
    → Written old 0 (40 ∷ 104 ∷ 105 ∷ 103 ∷ 104 ∷ 101 ∷ 115 ∷ 116 ∷ []) one a
    → Written one a (32 ∷ decimal bidder) two b
    → Written two b (32 ∷ 110 ∷ 111 ∷ 110 ∷ 101 ∷ 41 ∷ 10 ∷ []) new c → Written old 0 (none_line bidder) new c
unfolding none_line bytes
none_written bidder u v w = then (then u v) w

-- the line of an answer, by its case
module _ {old new : List ℕ} {r : ℕ} (bidder : ℕ) {a : Highest} where
  pub line_price : (p : ℕ) → a ≡ Ok (Some p) → Written old 0 (pair_line highest_word bidder p) new r
      → Written old 0 (highest_line bidder a) new r
  unfolding highest_line
  line_price p e w = rw e w

  pub line_none : a ≡ Ok None → Written old 0 (none_line bidder) new r → Written old 0 (highest_line bidder a) new r
  unfolding highest_line
  line_none e w = rw e w

  pub line_refused : (q : Refusal) → a ≡ Err q → Written old 0 (refused_line q) new r
      → Written old 0 (highest_line bidder a) new r
  unfolding highest_line
  line_refused q e w = rw e w

-- how long a line is

none_short : (bidder : ℕ) → length (none_line bidder) ≤ 52
unfolding none_line bytes
none_short bidder = omega (
  arith,
  decimal_short bidder,
  length-append (bytes "(highest" ++ (32 ∷ decimal bidder)) (bytes " none)\n"),
  length-append (bytes "(highest") (32 ∷ decimal bidder),
)

none_some : (bidder : ℕ) → 0 < length (none_line bidder)
unfolding none_line bytes
none_some bidder = omega (arith, length-append (bytes "(highest" ++ (32 ∷ decimal bidder)) (bytes " none)\n"))

pub line_short : (bidder : ℕ) (a : Highest) → (length (highest_line bidder a) ≤ 52) × (0 < length (highest_line bidder a))
unfolding highest_line highest_word bytes
line_short bidder (Ok (Some p)) = (omega (arith, pair_short highest_word bidder p), pair_some highest_word bidder p)
line_short bidder (Ok None) = (none_short bidder, none_some bidder)
line_short bidder (Err r) = (refused_short r, refused_some r)

pub told_short : (text : List ℕ) (bidder : ℕ)
    → (length (highest_in (read_text text) bidder) ≤ 52) × (0 < length (highest_in (read_text text) bidder))
unfolding highest_in highest_line
told_short text bidder = go (read_text text)
  where
    go : (o : ReadOutcome) → (length (highest_in o bidder) ≤ 52) × (0 < length (highest_in o bidder))
    go (refused r) = (refused_short r, refused_some r)
    go (accepted t R W) = line_short bidder (highest_of t (length R) (flat_rows R) (flat_windows W) bidder)
