-- The lines of a list put together from their parts. Assumes nothing.
use Rattle.std.specs.Prelude.{◌≡◌, refl, Bool, true, false, List, [], ℕ, Some, None}
use Rattle.std.proofs.Common.{eq-eqb, ne_eqb}
use Rattle.tender.specs.Types.{Reserve}
use Rattle.tender.specs.declared.Tender.{Tender}
use Rattle.tender.specs.declared.Totals.{Totals}
use Rattle.tender.specs.Keywords.{bytes}
use Rattle.spelling.specs.Lines.{numbers, pair_line, one_line, kind_word}
use Rattle.spelling.specs.Written.{Written}
use Rattle.spelling.proofs.WritingLaws.{then}
use Rattle.listing_text.specs.Lines.{award_word, award_line, win_word, win_line, house_word, house_line, total_word, last_lines}

pub award_written : {old m1 m2 new : List ℕ} {at e1 e2 f : ℕ} (t : Tender) → Written old at (bytes "(award ") m1 e1
    → Written m1 e1 (kind_word t.kind) m2 e2 → Written m2 e2 (numbers t.window.start t.window.end) new f →
    Written old at (award_line t) new f
unfolding award_line pair_line award_word bytes
award_written {old} {m1} {m2} {new} {at} {e1} {e2} {f} t x y z = then (then x y) z

pub win_written : {old new : List ℕ} {at f : ℕ} (bidder flag cents : ℕ) → flag ≡ 1
    → Written old at (pair_line (bytes "win") bidder cents) new f → Written old at (win_line bidder flag cents) new f
unfolding win_line win_word bytes
win_written {old} {new} {at} {f} bidder flag cents e x = rw (eq-eqb flag 1 e) x

pub no_win : (bidder flag cents : ℕ) → (flag ≡ 1 → ⊥) → win_line bidder flag cents ≡ []
unfolding win_line
no_win bidder flag cents d = rw (ne_eqb flag 1 d)

pub house_written : {old new : List ℕ} {at f : ℕ} (r : Reserve) (won : Bool) (p : ℕ) → r ≡ Some p → won ≡ true
    → Written old at (one_line (bytes "house") p) new f → Written old at (house_line r won) new f
unfolding house_line house_word bytes
house_written {old} {new} {at} {f} r won p e w x = rw (e, w) x

pub house_lost : (r : Reserve) (won : Bool) → won ≡ false → house_line r won ≡ []
unfolding house_line
house_lost None won e = refl
house_lost (Some p) won e = rw e

pub no_house : (r : Reserve) (won : Bool) → r ≡ None → house_line r won ≡ []
unfolding house_line
no_house r won e = rw e

pub last_written : {old mid new : List ℕ} {at e f : ℕ} (r : Reserve) (totals : Totals)
    → Written old at (house_line r totals.house) mid e
    → Written mid e (pair_line (bytes "total") totals.cost totals.paid) new f → Written old at (last_lines r totals) new f
unfolding last_lines total_word bytes
last_written {old} {mid} {new} {at} {e} {f} r totals x y = then x y
