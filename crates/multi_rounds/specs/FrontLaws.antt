-- The least key of the bids in a tree, while bids are counted anew. Assumes nothing.
use Rattle.std.specs.Prelude.{◌≡◌, refl, ◌⊎◌, Bool, List, [], ◌∷◌, ℕ, zero, suc, ◌+◌, ◌-◌, ◌%◌, ◌≤◌}
use Rattle.std.specs.Prelude.{◌<◌, length, set}
use Rattle.std.proofs.Common.{sym, ap, ◌∙◌, inl, inr, ⊎_elim, arith}
use Rattle.cover.specs.Greedy.{reach}
use Rattle.multi_keys.specs.Keys.{at, out, last, key_of}
use Rattle.multi_keys.proofs.KeyLaws.{key_none, key_most, key_bid}
use Rattle.multi_keys.specs.Tree.{leaves, Tree}
use Rattle.multi_keys.proofs.TreeLaws.{length_leaves, first_least, FirstLeaf, first_leaf, set_at}
use Rattle.multi_market.specs.Market.{Priced}
use Rattle.multi_market.specs.Opens.{open_of}
use Rattle.multi_market.specs.Seats.{key_at, Seat, Seats, Fronted}
use Rattle.multi_market.proofs.KeyedLaws.{zero_or, key_at_lem}

-- how far the keys may still rise
unfoldable pub slack : List ℕ → ℕ
slack [] = 0
slack (x ∷ xs) = out - x + slack xs

pub slack_falls : (xs : List ℕ) (i v : ℕ) → i < length xs → at xs i < v → v ≤ out → slack (set xs i v) < slack xs
unfolding slack
slack_falls [] i v l h m = absurd (omega arith)
slack_falls (x ∷ xs) zero v l h m = omega arith
slack_falls (x ∷ xs) (suc i) v l h m = omega (arith, slack_falls xs i v (omega arith) h m)

pub record Fronting (has : ℕ → ℕ → Bool) (ps held old tree : List ℕ) : Type 0 where
  pub grown : Tree tree
  pub seats : Seats has ps held (leaves tree)
  pub each : (i : ℕ) → i < 1024 → (at (leaves tree) i ≡ at old i)
      ⊎ ((at old i ≡ out → ⊥) × (at (leaves tree) i ≡ key_at has ps held i))

pub begins : {has : ℕ → ℕ → Bool} {ps held tree : List ℕ} → Tree tree → Seats has ps held (leaves tree)
    → Fronting has ps held (leaves tree) tree
begins t s = record { grown = t; seats = s; each = λ i l. inl refl }

-- the bid that the first key tells
pub record FirstSeat (has : ℕ → ℕ → Bool) (ps held tree : List ℕ) : Type 0 where
  pub seat : Seat has ps held (at tree 1 % 1024) (at tree 1)
  pub own : at (leaves tree) (at tree 1 % 1024) ≡ at tree 1

module _ {has : ℕ → ℕ → Bool} {ps held old tree : List ℕ} (p : Priced ps) (f : Fronting has ps held old tree) where
  module _ (l : at tree 1 ≤ last) where
    pub first_seat : FirstSeat has ps held tree
    first_seat = go (first_leaf f.grown)
      where
        go : FirstLeaf tree → FirstSeat has ps held tree
        go u = ⊎_elim (λ e. absurd (omega (arith, u.is, e)))
            (λ s. let e : at tree 1 % 1024 ≡ u.place = rw u.is at s.tells in record {
              seat = rw e (record { inside = s.inside; tells = e; below = rw u.is at s.below });
              own = rw e u.is;
            }) (f.seats.each u.place u.inside)

    pub first_in : at tree 1 % 1024 < length ps
    first_in = first_seat.seat.inside

    first_place : at tree 1 % 1024 < 1024
    first_place = omega (arith, first_in, p.count)

    module _ {r : ℕ} (e : r ≡ reach (has (at tree 1 % 1024)) (open_of held)) where
      now_is : key_of (at ps (at tree 1 % 1024)) r (at tree 1 % 1024) ≡ key_at has ps held (at tree 1 % 1024)
      now_is = rw e (sym (key_at_lem has ps (open_of held) (at tree 1 % 1024)))

      -- the bid's own key
      pub is_exact : {cap : ℕ} → r ≤ 10112 → key_of (at ps (at tree 1 % 1024)) r (at tree 1 % 1024) ≡ at tree 1
          → Fronted has ps held old (leaves tree) cap (at tree 1) r
      is_exact m d = record {
        seats = f.seats;
        each = f.each;
        least = first_least f.grown;
        leads = λ z. record {
          inside = first_in;
          own = first_seat.own;
          key = sym d ∙ now_is;
          cells = e;
          some = ⊎_elim (λ y. absurd (omega (arith, rw y at d, key_none (at ps (at tree 1 % 1024)) (at tree 1 % 1024))))
              (λ y. y) (zero_or r);
          few = m;
        };
      }

      module _ (d : key_of (at ps (at tree 1 % 1024)) r (at tree 1 % 1024) ≡ at tree 1 → ⊥) where
        abbrev now : ℕ
        now = key_of (at ps (at tree 1 % 1024)) r (at tree 1 % 1024)

        rises : at (leaves tree) (at tree 1 % 1024) < now
        rises = omega (arith, first_seat.own, first_seat.seat.below, now_is, d)

        within : at tree 1 % 1024 < length (leaves tree)
        within = omega (arith, f.seats.size, first_place)

        new_seat : (now ≡ out) ⊎ Seat has ps held (at tree 1 % 1024) now
        new_seat = ⊎_elim (λ y. inl (ap (λ (x : ℕ). key_of (at ps (at tree 1 % 1024)) x (at tree 1 % 1024)) y
            ∙ key_none (at ps (at tree 1 % 1024)) (at tree 1 % 1024)))
            (λ y. inr (record {
              inside = first_in;
              tells = key_bid (at ps (at tree 1 % 1024)) r (at tree 1 % 1024) y first_place;
              below = omega (arith, now_is);
            })) (zero_or r)

        was : at old (at tree 1 % 1024) ≡ out → ⊥
        was z = ⊎_elim (λ q. omega (arith, q, first_seat.own, z)) (λ q. q.0 z) (f.each (at tree 1 % 1024) first_place)

        pub counted : {tree' : List ℕ} → Tree tree' → leaves tree' ≡ set (leaves tree) (at tree 1 % 1024) now
            → Fronting has ps held old tree'
        counted {tree'} t q = record {
          grown = t;
          seats = record {
            size = length_leaves tree' t.size;
            each = rw q (set_at (λ i y. i < 1024 → (y ≡ out) ⊎ Seat has ps held i y) (leaves tree) (at tree 1 % 1024) now within
                (λ m. new_seat) f.seats.each);
          };
          each = rw q (set_at (λ i y. i < 1024 → (y ≡ at old i) ⊎ ((at old i ≡ out → ⊥) × (y ≡ key_at has ps held i)))
              (leaves tree) (at tree 1 % 1024) now within (λ m. inr (was, now_is)) f.each);
        }

        pub fewer : (tree' : List ℕ) → leaves tree' ≡ set (leaves tree) (at tree 1 % 1024) now
            → slack (leaves tree') < slack (leaves tree)
        fewer tree' q = rw q (slack_falls (leaves tree) (at tree 1 % 1024) now within rises
            (key_most (at ps (at tree 1 % 1024)) r (at tree 1 % 1024) (p.most (at tree 1 % 1024)) first_place))

  -- the cap is passed
  pub is_above : {cap : ℕ} → cap < at tree 1 → Fronted has ps held old (leaves tree) cap (at tree 1) 0
  is_above l = record {
    seats = f.seats;
    each = f.each;
    least = first_least f.grown;
    leads = λ z. absurd (omega arith);
  }
