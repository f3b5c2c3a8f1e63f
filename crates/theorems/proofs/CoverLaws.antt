-- An award without a reserve whose tables break no rule and which has a row for every bid declines just where some minute has fewer
-- than two bidders. Assumes nothing.
use Rattle.std.proofs.Math.Path.{◌≡◌}
use Rattle.std.proofs.Common.{ap, inl, inr, arith}
use Rattle.std.specs.Prelude.{◌⊎◌, ℕ, ◌-◌, ◌<◌, None}
use Rattle.award_check.proofs.AuctionLaws.{minutes}
use Rattle.award_rule.specs.Award.{outcome_number}
use Rattle.award_outcome.specs.Right.{Bidders, EarliestIn, OneAnswer, tables_break_a_rule, rows_too_few, minute_uncovered}
use Rattle.award_outcome.specs.Right.{one_bidder, award}
use Rattle.award_outcome.proofs.OneAnswerLaws.{one_answer}
use Rattle.theorems_calls.specs.Calls.{AwardCall, auction_by, told_by}
use Rattle.theorems.specs.Between.{CallableWith, FewerThan}

-- the three cases of such a call
pub data ByCover (c : AwardCall) : Type 0 where
  nobody_there : outcome_number (told_by c) ≡ 11 → FewerThan 1 c → ByCover c
  one_there : outcome_number (told_by c) ≡ 12 → FewerThan 2 c → (FewerThan 1 c → ⊥) → ByCover c
  two_there : outcome_number (told_by c) ≡ 0 → (FewerThan 2 c → ⊥) → ByCover c

at_minute : {c : AwardCall} (d m b : ℕ) → EarliestIn c.tender (auction_by c) m b → b < d → FewerThan d c
at_minute d m b i l = record { minute = m; from = i.from; to = i.to; few = omega (arith, i.bids_with_it) }

one_is_two : {c : AwardCall} → FewerThan 1 c → FewerThan 2 c
one_is_two f = record { minute = f.minute; from = f.from; to = f.to; few = omega (arith, f.few) }

module _ (c : AwardCall) (callable : CallableWith c) (bare : c.tender.reserve ≡ None) where
  enough : (d : ℕ) → Bidders (auction_by c) d → FewerThan d c → ⊥
  enough d h f =
      let t = c.tender.window in
      let m = minutes c.tender c.count c.bids c.windows in
      omega (arith, h (f.minute - t.start) (omega (arith, f.from, f.to)), f.few)

  pub by_cover : ByCover c
  unfolding outcome_number
  by_cover = go (one_answer c.kind c.tender c.count c.bids c.windows c.rows_before c.rows_after c.answer
      c.promise)
    where
      go : OneAnswer c.kind c.tender c.count c.bids c.windows c.rows_before c.rows_after (told_by c) → ByCover c
      go (tables_break_a_rule q e r) = let f = callable.sound in let z : ◌≡◌ {A = ℕ} 0 1 = cc in absurd (omega arith)
      go (rows_too_few f l r) = absurd (omega (arith, callable.rows))
      go (minute_uncovered m s u i r) = nobody_there (ap outcome_number r.outcome) (at_minute 1 m 0 i (omega arith))
      go (one_bidder m s u b i r) = one_there (ap outcome_number r.outcome) (at_minute 2 m 1 i (omega arith)) (enough 1 b)
      go (award s b w) = two_there (ap outcome_number w.outcome) (enough 2 (b bare))

  -- 11 or 12 exactly where some minute has fewer than two bidders
  pub thin_if_refused : (outcome_number (told_by c) ≡ 11) ⊎ (outcome_number (told_by c) ≡ 12) → FewerThan 2 c
  thin_if_refused h = go h by_cover
    where
      go : (outcome_number (told_by c) ≡ 11) ⊎ (outcome_number (told_by c) ≡ 12) → ByCover c → FewerThan 2 c
      go h (nobody_there e f) = one_is_two f
      go h (one_there e f g) = f
      go (inl h) (two_there e g) = absurd (omega (arith, e, h))
      go (inr h) (two_there e g) = absurd (omega (arith, e, h))

  pub refused_if_thin : FewerThan 2 c → (outcome_number (told_by c) ≡ 11) ⊎ (outcome_number (told_by c) ≡ 12)
  refused_if_thin h = go by_cover
    where
      go : ByCover c → (outcome_number (told_by c) ≡ 11) ⊎ (outcome_number (told_by c) ≡ 12)
      go (nobody_there e f) = inl e
      go (one_there e f g) = inr e
      go (two_there e g) = absurd (g h)

  -- 11 exactly where some minute has none
  pub bare_if_eleven : outcome_number (told_by c) ≡ 11 → FewerThan 1 c
  bare_if_eleven h = go by_cover
    where
      go : ByCover c → FewerThan 1 c
      go (nobody_there e f) = f
      go (one_there e f g) = absurd (omega (arith, e, h))
      go (two_there e g) = absurd (omega (arith, e, h))

  pub eleven_if_bare : FewerThan 1 c → outcome_number (told_by c) ≡ 11
  eleven_if_bare h = go by_cover
    where
      go : ByCover c → outcome_number (told_by c) ≡ 11
      go (nobody_there e f) = e
      go (one_there e f g) = absurd (g h)
      go (two_there e g) = absurd (g (one_is_two h))
