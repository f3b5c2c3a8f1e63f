-- The award into lists with a place for each bid, as the first part of longer lists, with room in parts of local arrays. Assumes nothing.
use Rattle.std.specs.Prelude.{◌≡◌, Bool, List, ◌++◌, ℕ, ◌+◌, ◌-◌, ◌*◌, ◌≤◌, ◌<◌, length, get_or, take}
use Rattle.std.specs.Prelude.{drop, replicate}
use Rattle.std.proofs.Common.{sym, ap, ◌∙◌, mul-le-mul, arith, get_or-append-add, get_or-drop, length-take-le, length-append}
use Rattle.std.proofs.Common.{length-drop}
use Rattle.std.proofs.lemmas.List.{length-replicate}
use Rattle.std.proofs.Math.ListN.{get_or-append}
use Rattle.tender.specs.Limits.{max_entries}
use Rattle.cover.specs.Sets.{cells}
use Rattle.cover.specs.Greedy.{wins}
use Rattle.cover.specs.CriticalPrice.{rounds_paid}
use Rattle.cover.specs.Settled.{Settled}
use Rattle.cover.specs.Spare.{Spare}
use Rattle.multi_market.specs.Market.{Market}
use Rattle.multi_pay.specs.Paying.{Paid}

-- the first places of a local array
pub prefix_length : (k n x : ℕ) → k ≤ n → length (take k (replicate {A = ℕ} n x)) ≡ k
prefix_length k n x l = length-take-le k (replicate n x) (omega (arith, length-replicate {A = ℕ} n x))

product : (a b m n : ℕ) → a ≤ m → b ≤ n → a * b ≤ m * n
product a b m n h l = mul-le-mul h l

-- there is room for the words of all bids
pub words_few : {ps ms : List ℕ} {w : ℕ} → Market ps ms w → length ms ≤ 158 * max_entries
words_few {ps} {ms} {w} m = omega (arith, product w (length ps) 158 max_entries m.words m.priced.count, m.size)

pub settles : {has : ℕ → ℕ → Bool} {ps : List ℕ} {n : ℕ} {won cents : List ℕ} (old_won old_cents : List ℕ)
    → length ps ≤ length old_cents → Paid has ps n won cents
    → Settled (Spare has (length ps) n) (wins has ps (cells n)) (rounds_paid has ps (cells n)) ps old_won old_cents
    (won ++ drop (length ps) old_won) (cents ++ drop (length ps) old_cents)
settles {has} {ps} {n} {won} {cents} old_won old_cents l p = record {
  flags = ap (λ (xs : List ℕ). xs ++ drop (length ps) old_won) p.flags;
  payments = λ i d y. first i d ∙ p.payments i d y;
  small = λ i d. omega (arith, first i d, p.small i);
  sized = simp (length-append, length-drop) (omega (arith, p.as_cents));
  kept = λ i d. past i (i - length ps) (omega arith);
}
  where
    first : (i : ℕ) → i < length ps → get_or (cents ++ drop (length ps) old_cents) i 0 ≡ get_or cents i 0
    first i d = get_or-append cents (drop (length ps) old_cents) 0 i (omega (arith, p.as_cents))

    past : (i k : ℕ) → i ≡ length ps + k → get_or (cents ++ drop (length ps) old_cents) i 0 ≡ get_or old_cents i 0
    past i k e =
        ap (λ (j : ℕ). get_or (cents ++ drop (length ps) old_cents) j 0) (e ∙ ap (λ (m : ℕ). m + k) (sym p.as_cents))
        ∙ get_or-append-add cents (drop (length ps) old_cents) k 0 ∙ get_or-drop (length ps) old_cents k 0
        ∙ ap (λ (j : ℕ). get_or old_cents j 0) (sym e)
