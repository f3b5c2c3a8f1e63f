-- A price read from a place of bytes on, step by step: its number, the point, two digits. Assumes nothing.
use Rattle.std.specs.Prelude.{ℕ, ◌+◌, ◌-◌, ◌*◌, ◌≤◌, ◌<◌, ◌≡◌, List, length, drop, get_or, Some, None}
use Rattle.std.proofs.Common.{◌∙◌, arith}
use borrow.Author.Tests.{le-leb, lt-leb, lt-ltb, le-ltb}
use Rattle.tender.specs.Limits.{within}
use Rattle.reader_parts.specs.Scan.{Ended}
use Rattle.reader_parts.proofs.ScanLaws.{drop_next}
use Rattle.reader_parts.specs.Answer.{ReadAt, Reading, ReadIs}
use Rattle.reader_parts.specs.Front.{Front, wrong, onward, digit_front, cents_front, number_front, price_front}
use Rattle.reader_parts.proofs.NumberFrontLaws.{within_both}
use Rattle.reader_parts.proofs.PriceFrontLaws.{digit_from}
use Rattle.reader_parts.proofs.PlaceLaws.{not_last, past_at, fork_here, fork_other}

-- what is read from a later place on is read from an earlier one, where both give the same
later : {x y : Front ℕ} (s : List ℕ) (i j : ℕ) → y ≡ x → i ≤ j → (r : Reading ℕ) → ReadIs x s j r → ReadIs y s i r
later s i j e l (Some r) h = record { is = e ∙ h.is; after = omega (arith, h.after); inside = h.inside }
later s i j e l None h = e ∙ h

-- one digit after a number of value v

module _ (s : List ℕ) (v i : ℕ) (h : i < length s) where
  pub digit_at : Ended s → 48 ≤ get_or s i 0 → get_or s i 0 < 58
      → ReadAt (digit_front v (drop i s)) s i (v * 10 + (get_or s i 0 - 48)) (i + 1)
  unfolding digit_front within
  digit_at e a z = record {
    is = rw (drop_next s i h) (simp (le-leb 48 (get_or s i 0) a, le-leb (get_or s i 0) 57 (omega arith)));
    after = omega arith;
    inside = not_last s i e h (λ q. omega (arith, q));
  }

  pub digit_below : get_or s i 0 < 48 → digit_front v (drop i s) ≡ wrong
  unfolding digit_front within
  digit_below k = rw (drop_next s i h) (simp (lt-leb 48 (get_or s i 0) k))

  pub digit_above : 58 ≤ get_or s i 0 → digit_front v (drop i s) ≡ wrong
  unfolding digit_front within
  digit_above k = rw (drop_next s i h) (simp (le-leb 48 (get_or s i 0) (omega arith), lt-leb (get_or s i 0) 57 (omega arith)))

-- the point and two digits after the number x

pub cents_above : (x : ℕ) (t : List ℕ) → 10000000 ≤ x → cents_front x t ≡ wrong
unfolding cents_front
cents_above x t l = rw (le-ltb x 10000000 l)

module _ (s : List ℕ) (x i : ℕ) (h : i < length s) (l : x < 10000000) (b : get_or s i 0 ≡ 46) where
  pub cents_first : digit_front x (drop (i + 1) s) ≡ wrong → cents_front x (drop i s) ≡ wrong
  unfolding cents_front onward
  cents_first e = rw (lt-ltb x 10000000 l) (past_at 46 s i _ h b ∙ rw e)

  module _ (v p : ℕ) (y : ReadAt (digit_front x (drop (i + 1) s)) s (i + 1) v p) where
    pub first_small : v < 100000000
    first_small =
        let d = digit_from x (drop (i + 1) s) v (drop p s) y.is in
        omega (arith, d.value, (within_both 48 57 d.byte d.is).1)

    pub cents_second : (r : Reading ℕ) → ReadIs (digit_front v (drop p s)) s p r → ReadIs (cents_front x (drop i s)) s i r
    unfolding cents_front onward
    cents_second =
        later s i p (rw (lt-ltb x 10000000 l) (past_at 46 s i _ h b ∙ rw y.is)) (omega (arith, y.after))

-- a price

module _ (s : List ℕ) (i : ℕ) where
  pub price_first : number_front (drop i s) ≡ wrong → price_front (drop i s) ≡ wrong
  unfolding price_front onward
  price_first e = rw e

  module _ (x p : ℕ) (y : ReadAt (number_front (drop i s)) s i x p) where
    pub price_whole : (get_or s p 0 ≡ 46 → ⊥) → ReadAt (price_front (drop i s)) s i x p
    unfolding price_front onward
    price_whole n = record {
      is = rw y.is (fork_other s p y.inside 46 _ _ n);
      after = y.after;
      inside = y.inside;
    }

    pub price_cents : get_or s p 0 ≡ 46 → (r : Reading ℕ) → ReadIs (cents_front x (drop p s)) s p r
        → ReadIs (price_front (drop i s)) s i r
    unfolding price_front onward
    price_cents b = later s i p (rw y.is (fork_here s p y.inside 46 _ _ b)) y.after
