-- The list of the award to the tables that were read is the list of the text, and a buffer with room for it gets it at once. Assumes
-- nothing.
use Rattle.std.specs.Prelude.{◌≡◌, List, ◌++◌, ℕ, ◌+◌, ◌*◌, ◌≤◌, ◌<◌, length, take, drop, Ok, Err}
use Rattle.std.proofs.Common.{ap, arith, length-append, take-append-drop}
use Rattle.std.proofs.Math.Option.{none}
use Rattle.tender.specs.declared.Tender.{Tender}
use Rattle.tender.specs.declared.Totals.{Totals}
use Rattle.tender.specs.declared.Refusal.{Refusal}
use Rattle.reader_text.specs.Read.{accepted, read_text}
use Rattle.reader_text.specs.Read as reading
use Rattle.reader_text.proofs.RulesLaws.{rules_law}
use Rattle.reader_text.proofs.SizeLaws.{bids_few}
use Rattle.reader_fill.proofs.ReadInLaws.{ReadIn, few_read}
use Rattle.tender.specs.Types.{Answer}
use Rattle.award_check.specs.Faults.{fault_of}
use Rattle.award_check.proofs.TextLaws.{never_nine}
use Rattle.award_rule.specs.Plain.{PlainPromise}
use Rattle.spelling.specs.Lines.{refused_line}
use Rattle.spelling.specs.Written.{Written}
use Rattle.spelling.specs.Delivered.{Delivered}
use Rattle.spelling.proofs.DeliveredLaws.{delivered_all}
use Rattle.listing_text.specs.Lines.{award_line, win_lines, last_lines}
use Rattle.listing_text.specs.List.{list_of, Listed}
use Rattle.listing_text.proofs.ListLaws.{award_list, list_short}
use Rattle.listing_text.specs.Made.{answer_lines, AwardedWritten, Made}
use Rattle.listing_made.specs.Room.{room_for}

module _ {t : Tender} {n lent : ℕ} {bids windows ow oc won cents old new : List ℕ} {a : Answer} {f : ℕ} where
  pub award_written : (totals : Totals) → a ≡ Ok totals → n ≤ lent
      → PlainPromise t.kind t n bids windows lent ow oc won cents a →
      Written old 0 (award_line t ++ win_lines bids won cents n ++ last_lines t.reserve totals) new f
      → AwardedWritten t n bids windows old new f
  unfolding answer_lines
  award_written totals e l p w = record {
    lent = lent;
    enough = l;
    old_won = ow;
    old_cents = oc;
    won = won;
    cents = cents;
    answer = a;
    promise = p;
    written = rw e w;
  }

  pub declined_written : (r : Refusal) → a ≡ Err r → n ≤ lent
      → PlainPromise t.kind t n bids windows lent ow oc won cents a →
      Written old 0 (refused_line r) new f → AwardedWritten t n bids windows old new f
  unfolding answer_lines
  declined_written r e l p w = record {
    lent = lent;
    enough = l;
    old_won = ow;
    old_cents = oc;
    won = won;
    cents = cents;
    answer = a;
    promise = p;
    written = rw e w;
  }

-- what was read breaks no rule
pub read_sound : {text bids windows : List ℕ} {t : Tender} {n : ℕ} → ReadIn text bids windows t n
    → fault_of t.kind t n bids windows ≡ none
read_sound {text} {bids} {windows} {t} {n} h = rw (h.bids_are, h.windows_are, ← h.count)
    (never_nine t h.rows h.spans h.past_rows h.past_spans (rules_law t h.rows h.spans text h.is))

-- and its bids are so few that their list has room
pub read_room : {text bids windows : List ℕ} {t : Tender} {n room : ℕ} → ReadIn text bids windows t n
    → room_for (length text) ≤ room
    → 48 * n + 136 ≤ room
read_room {text} {bids} {windows} {t} {n} {room} h l =
    omega (arith, few_read h, h.count, bids_few t h.rows h.spans text h.is)

-- so the list is made
pub made_award : {text bids windows old new : List ℕ} {t : Tender} {n f : ℕ} → ReadIn text bids windows t n
    → AwardedWritten t n bids windows old new f → Made text old new f
made_award {text} {bids} {windows} {old} {new} {t} {n} {f} h w =
    let l : answer_lines t bids w.won w.cents n w.answer ≡ list_of (accepted t h.rows h.spans) =
    rw (h.bids_are, ← h.count) (award_list t h.rows h.spans h.past_rows h.past_spans w.lent w.old_won w.old_cents
    w.won w.cents w.answer (rules_law t h.rows h.spans text h.is)
    (rw h.count w.enough) (rw (h.bids_are, h.windows_are, ← h.count) at w.promise)) in
    record { written = rw h.is (rw l at w.written) }

pub made_refusal : {text old new : List ℕ} {f : ℕ} (q : Refusal) → read_text text ≡ reading.refused q
    → Written old 0 (refused_line q) new f → Made text old new f
unfolding list_of
made_refusal {text} {old} {new} {f} q e w = record { written = rw e w }

module _ {text old new : List ℕ} {n : ℕ} (m : Made text old new n) where
  -- no list is empty
  pub made_some : 0 < n
  made_some = omega (arith, m.written.next, (list_short text).1)

  pub made_size : length (take n new) ≡ n
  made_size = omega (arith, ap length m.written.text, m.written.next)

  pub made_inside : n ≤ length new
  made_inside = omega (arith, made_size, ap length (take-append-drop n new), length-append (take n new) (drop n new))

  -- a buffer of 51,200 bytes has room for any
  pub made_few : n ≤ 51200
  made_few = omega (arith, m.written.next, (list_short text).0)

  pub listed_here : 51200 ≤ length old → Listed text old new n
  listed_here l = record { delivers = delivered_all (omega (arith, (list_short text).0)) m.written }

  -- a shorter one gets a copy where it has room, and else nothing
  pub listed_apart : {short copied : List ℕ} {r : ℕ} → Delivered (take n new) short copied r → Listed text short copied r
  listed_apart d = record { delivers = rw m.written.text at d }
