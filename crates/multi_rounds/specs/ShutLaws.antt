-- Cells cleared, and the open cells that are left. Assumes nothing.
use Rattle.std.specs.Prelude.{◌≡◌, refl, ◌⊎◌, Bool, true, false, ◌&&◌, List, ℕ, zero, suc, ◌-◌, ◌*◌, length, eqb}
use Rattle.std.proofs.Common.{sym, ◌∙◌, inl, inr, arith}
use Rattle.cover.specs.Sets.{when}
use Rattle.cover.specs.Greedy.{close}
use Rattle.cells.specs.Cells.{cell, Closed}
use Rattle.cells_pairs.specs.Pairs.{Shut}
use Rattle.multi_market.specs.Market.{word_row, has}
use Rattle.multi_market.specs.Opens.{opens, open_of}
use Rattle.multi_market.proofs.OpensLaws.{two_way, close_step}

pub one_when : (t : Bool) → eqb (when t 1) 1 ≡ t
one_when true = refl
one_when false = refl

pub when_way : (t : Bool) → (when t 1 ≡ 0) ⊎ (when t 1 ≡ 1)
when_way true = inr refl
when_way false = inl refl

shut_opens : (a b : List ℕ) (h : ℕ → Bool) → Shut a h b → (n : ℕ) → close h (opens (cell a) n) ≡ opens (cell b) n
unfolding opens close
shut_opens a b h s zero = refl
shut_opens a b h s (suc n) = close_step h n (cell a n) (when (h n) 1) (sym (one_when (h n))) (cell b n) (opens (cell a) n) _ (s.clears n)
    (shut_opens a b h s n) (two_way a n) (when_way (h n))

pub shut_open : (old new : List ℕ) (h : ℕ → Bool) → length new ≡ length old → Shut old h new
    → close h (open_of old) ≡ open_of new
unfolding open_of
shut_open old new h e s = rw e (shut_opens old new h s (64 * length old))

-- the cells of a bid's words
pub shut_row : (old new ms : List ℕ) (w i : ℕ) → Closed old (word_row ms w i) new → Shut old (has ms w i) new
unfolding has
shut_row old new ms w i c = record { clears = λ x. c.clears x ∙ go x (two_way (word_row ms w i) x) }
  where
    go : (x : ℕ) → (cell (word_row ms w i) x ≡ 0) ⊎ (cell (word_row ms w i) x ≡ 1)
        → cell old x - cell (word_row ms w i) x ≡ cell old x - when (eqb (cell (word_row ms w i) x) 1) 1
    go x (inl z) = rw z
    go x (inr z) = rw z

-- to clear the cells of h that are set is to clear the cells of h
pub shut_set : (old new : List ℕ) (f h : ℕ → Bool) → ((x : ℕ) → f x ≡ (eqb (cell old x) 1 && h x)) → Shut old f new
    → Shut old h new
shut_set old new f h e s = record { clears = λ x. s.clears x ∙ rw (e x) (go x (two_way old x)) }
  where
    go : (x : ℕ) → (cell old x ≡ 0) ⊎ (cell old x ≡ 1)
        → cell old x - when (eqb (cell old x) 1 && h x) 1 ≡ cell old x - when (h x) 1
    go x (inl z) = rw z (omega arith)
    go x (inr z) = rw z
