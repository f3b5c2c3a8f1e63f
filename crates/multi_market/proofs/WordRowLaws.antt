-- The words of a bid are a part of all the words. Assumes nothing.
use Rattle.std.specs.Prelude.{◌≡◌, List, ℕ, ◌+◌, ◌-◌, ◌*◌, ◌≤◌, ◌<◌, length, take, drop}
use Rattle.std.proofs.Common.{mul-le-mul_left, mul-suc, arith, length-drop, length-take-le, get_or-take, get_or-drop}
use Rattle.multi_keys.specs.Keys.{at}
use Rattle.multi_market.specs.Market.{word_row, Market, Hopping}

pub part_row : (ms : List ℕ) (w i : ℕ) → take (w * i + w - w * i) (drop (w * i) ms) ≡ word_row ms w i
unfolding word_row
part_row ms w i = let e : w * i + w - w * i ≡ w = omega arith in rw e

pub row_within : (w n i : ℕ) → i < n → w * i + w ≤ w * n
row_within w n i l = omega (arith, mul-le-mul_left w l, mul-suc w i)

pub row_in : (ps ms : List ℕ) (w i : ℕ) → Market ps ms w → i < length ps → w * i + w ≤ length ms
row_in ps ms w i m l = omega (arith, row_within w (length ps) i l, m.size)

pub row_length : (ms : List ℕ) (w i : ℕ) → w * i + w ≤ length ms → length (word_row ms w i) ≡ w
unfolding word_row
row_length ms w i l = length-take-le w (drop (w * i) ms) (simp length-drop (omega arith))

pub row_at : (ms : List ℕ) (w i q : ℕ) → q < w → at (word_row ms w i) q ≡ at ms (w * i + q)
unfolding word_row
row_at ms w i q l = rw (get_or-take, get_or-drop)

-- what is known of a market's bids, of as many words as a row has
pub known : {ps ms hop : List ℕ} {w n : ℕ} {R : Type 0} → Market ps ms w → Hopping ps ms hop w → (n ≡ w) × R
    → Market ps ms n × (Hopping ps ms hop n × R)
known m h r = (rw r.0 m, (rw r.0 h, r.1))
