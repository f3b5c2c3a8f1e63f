-- A line of no form after all the others is told where they are faultless. Assumes nothing.
use Rattle.std.specs.Prelude.{◌≡◌, refl, Bool, true, false, cond, ℕ, suc, ◌+◌, length, leb, Some}
use Rattle.std.proofs.Math.Path.{ap}
use Rattle.std.proofs.Common.{◌∙◌, arith}
use mathlib.Core.List.{List, [], ◌∷◌, ◌++◌}
use Rattle.std.proofs.Math.Option.{Option, none, some}
use Rattle.std.proofs.lemmas.List.{length-map}
use Rattle.tender.specs.declared.Tender.{Tender}
use Rattle.tender.specs.declared.Refusal.{Refusal}
use Rattle.tender.specs.declared.Refusal.TheVariants.{BadForm, OutsideLimits}
use Rattle.tender.specs.Limits.{max_price}
use Rattle.reader_forms.specs.Line.{TenderLine, Line, tender, bid, reserve}
use Rattle.reader_text.specs.Read.{ReadOutcome, accepted, refused, bids_of, tender_fault, bid_fault, judged_by, checked, tables}
use Rattle.reader_text.specs.Read.{Head, begun, halted, tender_with, reserve_in, head_of, read_lines}
use Rattle.reader_text.proofs.ReadLaws.{checked_bids}
use Rattle.reader_text.proofs.HeadLaws.{lines_halted, lines_begun}

-- the head with one line of no form more
with_rest : Head → Head
with_rest (begun t from ls) = begun t from (ls ++ none ∷ [])
with_rest (halted r) = halted r

reserve_rest : (t : TenderLine) (at : ℕ) (ls : List (Option Line))
    → reserve_in t at (ls ++ none ∷ []) ≡ with_rest (reserve_in t at ls)
unfolding reserve_in with_rest
reserve_rest t at [] = refl
reserve_rest t at (none ∷ ls) = refl
reserve_rest t at (some (tender u) ∷ ls) = refl
reserve_rest t at (some (bid b) ∷ ls) = refl
reserve_rest t at (some (reserve p) ∷ ls) = go (leb p max_price)
  where
    go : (q : Bool) → cond q (begun (tender_with t (Some p)) (at + 1) (ls ++ none ∷ [])) (halted (OutsideLimits at))
        ≡ with_rest (cond q (begun (tender_with t (Some p)) (at + 1) ls) (halted (OutsideLimits at)))
    go true = refl
    go false = refl

head_rest : (ls : List (Option Line)) → head_of (ls ++ none ∷ []) ≡ with_rest (head_of ls)
unfolding head_of with_rest judged_by
head_rest [] = refl
head_rest (none ∷ ls) = refl
head_rest (some (bid b) ∷ ls) = refl
head_rest (some (reserve p) ∷ ls) = refl
head_rest (some (tender t) ∷ ls) = go (tender_fault t)
  where
    go : (f : Option (ℕ → Refusal)) → judged_by halted f 1 (reserve_in t 2 (ls ++ none ∷ []))
        ≡ with_rest (judged_by halted f 1 (reserve_in t 2 ls))
    go none = reserve_rest t 2 ls
    go (some f) = refl

checked_rest : (t : Tender) (at : ℕ) (used : List ℕ) (ls : List (Option Line)) (out : ReadOutcome)
    → checked t at used (ls ++ none ∷ []) out ≡ checked t at used ls (refused (BadForm (at + length ls)))
unfolding checked
checked_rest t at used [] out = let e : at ≡ at + 0 = omega arith in ap (λ n. refused (BadForm n)) e
checked_rest t at used (none ∷ ls) out = refl
checked_rest t at used (some (tender u) ∷ ls) out = refl
checked_rest t at used (some (reserve p) ∷ ls) out = refl
checked_rest t at used (some (bid b) ∷ ls) out =
    let e : at + 1 + length ls ≡ at + suc (length ls) = omega arith in
    ap (judged_by refused (bid_fault t used b) at) (checked_rest t (at + 1) (used ++ b.bidder ∷ []) ls out
    ∙ ap (λ n. checked t (at + 1) (used ++ b.bidder ∷ []) ls (refused (BadForm n))) e)

-- faultless lines are bids
faultless_count : (t : Tender) (at : ℕ) (ls : List (Option Line)) → ((out : ReadOutcome) → checked t at [] ls out ≡ out)
    → length ls ≡ length (bids_of ls)
faultless_count t at ls h =
    ap length (checked_bids t [] [] t at [] ls (accepted t [] []) (h (accepted t [] []))) ∙ length-map (bids_of ls) (λ b. some (bid b))

module _ (ls : List (Option Line)) where
  pub halted_rest : (r : Refusal) → head_of ls ≡ halted r → read_lines (ls ++ none ∷ []) ≡ refused r
  unfolding with_rest
  halted_rest r e = lines_halted (ls ++ none ∷ []) r (head_rest ls ∙ ap with_rest e)

  module _ (t : Tender) (from : ℕ) (bids : List (Option Line)) (e : head_of ls ≡ begun t from bids) where
    begun_rest : read_lines (ls ++ none ∷ []) ≡ checked t from [] bids (refused (BadForm (from + length bids)))
    unfolding with_rest
    begun_rest = lines_begun (ls ++ none ∷ []) t from (bids ++ none ∷ []) (head_rest ls ∙ ap with_rest e)
        ∙ checked_rest t from [] bids (tables t (bids_of (bids ++ none ∷ [])))

    -- a faulty line comes first
    pub faulty_rest : (r : Refusal) → ((out : ReadOutcome) → checked t from [] bids out ≡ refused r)
        → read_lines (ls ++ none ∷ []) ≡ refused r
    faulty_rest r h = begun_rest ∙ h (refused (BadForm (from + length bids)))

    -- else it is told by its own number
    pub faultless_rest : (k : ℕ) → length (bids_of bids) ≡ k → ((out : ReadOutcome) → checked t from [] bids out ≡ out)
        → read_lines (ls ++ none ∷ []) ≡ refused (BadForm (from + k))
    faultless_rest k c h = begun_rest ∙ h (refused (BadForm (from + length bids)))
        ∙ ap (λ n. refused (BadForm (from + n))) (faultless_count t from bids h ∙ c)
