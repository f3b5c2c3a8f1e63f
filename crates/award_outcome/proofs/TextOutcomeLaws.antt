-- Outcomes of an award called on what two texts give that differ in one bid. Assumes nothing.
use Rattle.std.specs.Prelude.{◌≡◌, refl, List, ◌++◌, Bool, true, false, ℕ, zero, suc, ◌+◌, ◌*◌, length, get_or, ltb}
use Rattle.std.proofs.Common.{sym, ap, ◌∙◌, arith, eqb-true}
use Rattle.std.proofs.Math.Option.{none, some}
use Rattle.tender.specs.declared.Kind.{Kind}
use Rattle.tender.specs.declared.Kind.TheVariants.{Single, Multi}
use Rattle.tender.specs.declared.Window.{Window}
use Rattle.tender.specs.declared.Tender.{Tender}
use Rattle.tender.specs.declared.Refusal.TheVariants.{BadTables}
use Rattle.tender.specs.Tables.{Row, flat_rows, flat_windows, bid_width}
use Rattle.reader_text.specs.Read.{accepted, read_text}
use Rattle.reader_text.proofs.RulesLaws.{rules_law}
use Rattle.reader_text.specs.Differ.{DifferInBid, windows_by}
use Rattle.reader_text.proofs.BidLaws.{DifferInOneBid, bid_law}
use Rattle.award_check.specs.Faults.{kind_number, is_same_kind, fault_of}
use Rattle.award_check.specs.Alike.{named, PartOf}
use Rattle.award_check.proofs.TextLaws.{never_nine}
use Rattle.award_check.proofs.WithheldLaws.{Tabled, tabled}
use Rattle.award_rule.specs.Award.{Outcome, refused, award_of}
use Rattle.award_rule.proofs.AwardLaws.{award_nine}
use Rattle.award_outcome.specs.Gain.{row_for, gain, AtMost}
use Rattle.award_outcome.specs.Right.{NoGain}
use Rattle.award_outcome.proofs.TableLaws.{award_withheld}

-- the kind of a number
kind_at : ℕ → Kind
kind_at zero = Single
kind_at (suc n) = Multi

kind_at_lem : (k : Kind) → kind_at (kind_number k) ≡ k
unfolding kind_at
kind_at_lem Single = refl
kind_at_lem Multi = refl

kinds : (k l : Kind) → is_same_kind k l ≡ true → k ≡ l
kinds k l e = sym (kind_at_lem k) ∙ ap kind_at (eqb-true (kind_number k) (kind_number l) e) ∙ kind_at_lem l

wrong_kind : (k : Kind) (t : Tender) (n : ℕ) (bids windows : List ℕ) → is_same_kind k t.kind ≡ false
    → fault_of k t n bids windows ≡ some 0
unfolding fault_of
wrong_kind k t n bids windows e = rw e

nothing : (c i : ℕ) → AtMost (gain c (row_for (refused (BadTables 0)) i)) (gain c (row_for (refused (BadTables 0)) i))
unfolding gain row_for
nothing c i = omega arith

-- two accepted texts that differ in how one bid's price and windows are written, the second windows part of the first
module _ (text text' bidder p q ws vs : List ℕ) (T T' : Tender) (R R' : List Row) (W W' : List Window)
    (d : DifferInBid text text' bidder p q ws vs) (part : PartOf (windows_by vs) (windows_by ws))
    (h : read_text text ≡ accepted T R W) (h' : read_text text' ≡ accepted T' R' W') where
  alike : DifferInOneBid T T' R R' W W' bidder p q ws vs
  alike = bid_law text text' bidder p q ws vs T T' R R' W W' d h h'

  tables : (v w v' w' : List ℕ) → Tabled R R' W W' v w v' w' bidder p q
  tables v w v' w' = tabled T T' R R' W W' v w v' w' bidder p q ws vs alike part

  -- The same award is called on what was read, where v, w, v', w' stand past the rows in the lent tables, each time with an award row
  -- for every bid or each time with fewer: where the first text names the bidder's true cost, its gain in the second is no higher.
  pub withheld_texts : (k : Kind) (v w v' w' : List ℕ) (lent lent' : ℕ) (a a' : Outcome)
      → ltb lent (length R) ≡ ltb lent' (length R')
      → a ≡ award_of k T (length R) (flat_rows R ++ v) (flat_windows W ++ w) lent
      → a' ≡ award_of k T' (length R') (flat_rows R' ++ v') (flat_windows W' ++ w') lent'
      → NoGain R R' (flat_rows R ++ v) (flat_rows R' ++ v') a a' bidder p q
  unfolding named
  withheld_texts k v w v' w' lent lent' a a' e y y' = record {
    i = t.i;
    inside = t.inside;
    count = t.count;
    bidder_is = t.bidder_is;
    bidder_too = t.bidder_too;
    true_cost = t.named_p;
    other_price = t.named_q;
    most = rw (y, second) (go (is_same_kind k T.kind) refl);
  }
    where
      t : Tabled R R' W W' v w v' w' bidder p q
      t = tables v w v' w'

      bids : List ℕ
      bids = flat_rows R ++ v

      bids' : List ℕ
      bids' = flat_rows R' ++ v'

      windows : List ℕ
      windows = flat_windows W ++ w

      windows' : List ℕ
      windows' = flat_windows W' ++ w'

      second : a' ≡ award_of k T (length R) bids' windows' lent'
      second = rw (alike.tenders, ← t.count) y'

      faultless_too : fault_of T.kind T (length R) bids' windows' ≡ none
      faultless_too = rw (alike.tenders, ← t.count) (never_nine T' R' W' v' w' (rules_law T' R' W' text' h'))

      go : (b : Bool) → is_same_kind k T.kind ≡ b
          → AtMost (gain (named bids t.i) (row_for (award_of k T (length R) bids' windows' lent') t.i))
          (gain (named bids t.i) (row_for (award_of k T (length R) bids windows lent) t.i))
      go true s = rw (kinds k T.kind s)
          (award_withheld T.kind T (length R) t.i bids windows t.inside (never_nine T R W v w (rules_law T R W text h)) bids'
          windows' lent lent' faultless_too t.withheld (rw t.count at e))
      go false s = rw (
        award_nine k T (length R) bids windows lent 0 (wrong_kind k T (length R) bids windows s),
        award_nine k T (length R) bids' windows' lent' 0 (wrong_kind k T (length R) bids' windows' s),
      ) (nothing (get_or bids (bid_width * t.i + 1) 0) t.i)
