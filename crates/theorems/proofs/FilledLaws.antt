-- What two equal answers of a reading filled is equal. Assumes nothing.
use Rattle.std.specs.Prelude.{◌≡◌, ℕ, Result, Ok, Err}
use Rattle.std.proofs.Common.{sym, ap, ◌∙◌}
use Rattle.tender.specs.declared.Tender.{Tender}
use Rattle.tender.specs.declared.Refusal.{Refusal}
use Rattle.reader_fill.specs.declared.Filled.{Filled}
use Rattle.reader_fill.specs.Answer.{filled}

-- what was filled, or f where nothing was
or_else : Filled → Result Filled Refusal → Filled
or_else f (Ok g) = g
or_else f (Err r) = f

module _ {t u : Tender} {n m k l : ℕ} {r : Result Filled Refusal} (x : r ≡ Ok (filled t n m)) (y : r ≡ Ok (filled u k l)) where
  same : filled t n m ≡ filled u k l
  unfolding or_else
  same = ap (or_else (filled t n m)) (sym x ∙ y)

  pub same_tender : t ≡ u
  same_tender = ap (λ (f : Filled). f.tender) same

  pub same_bids : n ≡ k
  same_bids = ap (λ (f : Filled). f.bids) same
