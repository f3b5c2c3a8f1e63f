-- A window is lawful, and a tender sound, just where each rule is kept. Assumes nothing.
use Rattle.std.specs.Prelude.{◌≡◌, refl, ℕ, ◌≤◌, Bool, true, false, ◌&&◌, List, ◌∷◌, leb, ltb, Some, None}
use Rattle.std.proofs.Common.{sym, ap, ◌∙◌, ltb-true, leb-true, lt-ltb, le-leb}
use Rattle.std.proofs.lemmas.Bool.{false≢true}
use Rattle.tender.specs.declared.Window.{Window}
use Rattle.tender.specs.Types.{Reserve}
use Rattle.tender.specs.declared.Tender.{Tender}
use Rattle.tender.specs.Limits.{as_window, lawful, every, lawful_reserve, sound_tender}
use Rattle.tender.specs.Rules.{WindowRules, TenderRules}

both_true : (a b : Bool) → a && b ≡ true → (a ≡ true) × (b ≡ true)
both_true true b e = (refl, e)
both_true false b e = absurd (false≢true e)

pub lawful_rules : (w : Window) → lawful w ≡ true → WindowRules w
unfolding lawful
lawful_rules w e =
    let h = both_true (ltb w.start w.end) (leb w.end 10080) e in
    record { some_minute = ltb-true w.start w.end h.0; in_week = leb-true w.end 10080 h.1 }

pub rules_lawful : (w : Window) → WindowRules w → lawful w ≡ true
unfolding lawful
rules_lawful w r = rw (lt-ltb w.start w.end r.some_minute, le-leb w.end 10080 r.in_week)

-- where every window passes a test, the first does, and so does every later one
pub every_split : (test : Window → Bool) (w : Window) (ws : List Window) → every test (w ∷ ws) ≡ true
    → (test w ≡ true) × (every test ws ≡ true)
unfolding every
every_split test w ws e = both_true (test w) (every test ws) e

reserve_within : (r : Reserve) → lawful_reserve r ≡ true → (p : ℕ) → r ≡ Some p → p ≤ 100000000
unfolding lawful_reserve
reserve_within r e p q = leb-true p 100000000 (sym (ap lawful_reserve q) ∙ e)

within_reserve : (r : Reserve) → ((p : ℕ) → r ≡ Some p → p ≤ 100000000) → lawful_reserve r ≡ true
unfolding lawful_reserve
within_reserve None h = refl
within_reserve (Some p) h = le-leb p 100000000 (h p refl)

pub sound_rules : (t : Tender) → sound_tender t ≡ true → TenderRules t
unfolding sound_tender
sound_rules t e =
    let h = both_true (lawful (as_window t.window)) (lawful_reserve t.reserve) e in
    record { window = lawful_rules (as_window t.window) h.0; reserve = reserve_within t.reserve h.1 }

pub rules_sound : (t : Tender) → TenderRules t → sound_tender t ≡ true
unfolding sound_tender
rules_sound t r = rw (rules_lawful (as_window t.window) r.window, within_reserve t.reserve r.reserve)
