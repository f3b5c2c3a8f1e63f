-- The bids that are passed on together are bids in order of start, and such bids can be passed on. Assumes nothing.
use Rattle.std.specs.Prelude.{◌≡◌, refl, Bool, true, false, ◌||◌, List, ℕ, zero, suc, ◌<◌, eqb, length, get_or}
use Rattle.std.proofs.Common.{arith, rules, eqb-true}
use Rattle.std.proofs.lemmas.Bool.{eqb-false}
use Rattle.cover.specs.Intervals.{At, Order}
use Rattle.cover.specs.Intervals.Bids.{Bids}
use Rattle.single_lead.specs.Listed.{has}
use Rattle.single_lead.specs.declared.listed.Bids.{Bids as Listed}

place_of : (xs : List ℕ) (k i : ℕ) → has xs k i ≡ true → At (λ q. get_or xs q 0) k i
unfolding has
place_of xs zero i e = absurd (search (rules, e))
place_of xs (suc k) i e = go (eqb (get_or xs k 0) i) refl (place_of xs k i) e
  where
    go : (t : Bool) → eqb (get_or xs k 0) i ≡ t → (has xs k i ≡ true → At (λ q. get_or xs q 0) k i)
        → (t || has xs k i) ≡ true
        → At (λ q. get_or xs q 0) (suc k) i
    go true d f e = record { place = k; inside = omega arith; is = eqb-true (get_or xs k 0) i d }
    go false d f e = let h = f e in record { place = h.place; inside = omega (arith, h.inside); is = h.is }

pub has_place : (xs : List ℕ) (k i : ℕ) → At (λ q. get_or xs q 0) k i → has xs k i ≡ true
unfolding has
has_place xs zero i h = absurd (omega (arith, h.inside))
has_place xs (suc k) i h = go (eqb (get_or xs k 0) i) refl (has_place xs k i)
  where
    go : (t : Bool) → eqb (get_or xs k 0) i ≡ t → (At (λ q. get_or xs q 0) k i → has xs k i ≡ true)
        → (t || has xs k i) ≡ true
    go true d f = refl
    go false d f = f (record { place = h.place; inside = before (eqb h.place k) refl; is = h.is })
      where
        before : (t : Bool) → eqb h.place k ≡ t → h.place < k
        before true z = absurd (eqb-false (get_or xs k 0) i d (rw (eqb-true h.place k z) at h.is))
        before false z = omega (arith, h.inside, eqb-false h.place k z)

-- what an order says of each bid, as the fields say it
pub every_listed : {n : ℕ} (xs : List ℕ) {a : ℕ → ℕ} → Order n a (λ q. get_or xs q 0) → (i : ℕ) → i < n
    → has xs n i ≡ true
every_listed {n} xs o i l = has_place xs n i (o.every i l)

-- what the fields say
pub in_order : (x : Listed) → Bids x.starts.now x.ends.now x.prices.now x.order.now
in_order x = record {
  starts = x.room.0;
  ends = x.room.1;
  sorted = record { bids = x.within; every = λ i l. place_of x.order.now (length x.prices.now) i (x.every i l); sorted = x.sorted };
}
