-- How bids are entered in chains, word by word and bid by bid. Assumes nothing.
use mathlib.Core.Path.{◌≡◌, refl, sym, ap, ◌∙◌}
use mathlib.Core.Logic.{◌⊎◌, inl, inr, ⊎_elim}
use mathlib.Core.Bool.{true, false}
use mathlib.Core.List.{List}
use Prim.Native.Nat.{ℕ, ◌+◌, ◌*◌, ◌≤◌, ◌<◌}
use native.Mathlib.Omega.{arith}
use lib.ListN.{length}
use Rattle.cells.specs.Cells.{cell, whole}
use Rattle.cells.proofs.StoreLaws.{lt_or_le}
use Rattle.cells_count.specs.Hops.{Hops, Onward}
use Rattle.multi_keys.specs.Keys.{at}
use Rattle.multi_market.specs.Market.{word_row}
use Rattle.multi_market.proofs.WordRowLaws.{row_length, row_at}
use Rattle.multi_index.specs.Index.{next_at, Lists, Chained}
use Rattle.multi_index.specs.Enlisted.{Pushed, Kept, Wide, SaysWide}
use Rattle.multi_index.specs.Enlisted.Wide.{here, later}
use Rattle.multi_index.specs.IndexLaws.{push_chained, push_own, push_kept}

-- ---- clear_heads: the first nodes below q have no chain
pub record Clearing (old new : List ℕ) (q : ℕ) : Type 0 where
  pub same : length new ≡ length old
  pub within : q ≤ 158
  pub none : (p : ℕ) → p < q → at new (2 * p) ≡ 0

-- ---- is_wide: the hops of bid i from word q on come to such a word if those from word 0 on do
pub record Widening (ms hop : List ℕ) (w i q : ℕ) : Type 0 where
  pub within : q ≤ w
  pub back : Wide (word_row ms w i) (word_row hop w i) q → Wide (word_row ms w i) (word_row hop w i) 0
  pub forth : Wide (word_row ms w i) (word_row hop w i) 0 → Wide (word_row ms w i) (word_row hop w i) q

not_here : {mask hop : List ℕ} {q : ℕ} → (at mask q ≡ whole → q + 3 < at hop q → ⊥) → Wide mask hop q
    → Wide mask hop (at hop q)
not_here n (here l e h) = absurd (n e h)
not_here n (later l x) = x

past_end : {mask hop : List ℕ} {q : ℕ} → length mask ≤ q → Wide mask hop q → ⊥
past_end m (here l e h) = omega arith
past_end m (later l x) = omega arith

module _ {ms hop : List ℕ} {w i q : ℕ} (s : Widening ms hop w i q) (f : w * i + w ≤ length ms) where
  size : length (word_row ms w i) ≡ w
  size = row_length ms w i f

  pub says_narrow : w ≤ q → SaysWide (word_row ms w i) (word_row hop w i) false
  says_narrow l = record {
    yes = λ z. let d : ◌≡◌ {A = ℕ} 0 1 = cc in absurd (omega arith);
    no = λ z x. past_end (omega (arith, size)) (s.forth x);
  }

  module _ (h : Hops (word_row ms w i) (word_row hop w i)) (l : q < w) where
    pub hop_on : q < at hop (w * i + q)
    hop_on = omega (arith, row_at hop w i q l, h.on q (omega (arith, size)))

    hop_within : at hop (w * i + q) ≤ w
    hop_within = omega (arith, row_at hop w i q l, h.within q (omega (arith, size)), size)

    pub widens_more : (at ms (w * i + q) ≡ whole → q + 3 < at hop (w * i + q) → ⊥) → Widening ms hop w i (at hop (w * i + q))
    widens_more n = rw (row_at hop w i q l) at next
      where
        next : Widening ms hop w i (at (word_row hop w i) q)
        next = record {
          within = omega (arith, row_at hop w i q l, hop_within);
          back = λ x. s.back (later (omega (arith, size)) x);
          forth = λ x. not_here (λ a b. n (sym (row_at ms w i q l) ∙ a) (omega (arith, row_at hop w i q l, b))) (s.forth x);
        }

    pub says_wide : at ms (w * i + q) ≡ whole → q + 3 < at hop (w * i + q) → SaysWide (word_row ms w i) (word_row hop w i) true
    says_wide a b = record {
      yes = λ z. s.back (here (omega (arith, size)) (row_at ms w i q l ∙ a) (omega (arith, row_at hop w i q l, b)));
      no = λ z. let d : ◌≡◌ {A = ℕ} 0 1 = cc in absurd (omega arith);
    }

-- ---- enlist_row: bid i is in the chains of the words below q
pub record Enlisting (ms : List ℕ) (w i : ℕ) (old : List ℕ) (top : ℕ) (new : List ℕ) (t q : ℕ) : Type 0 where
  pub same : length new ≡ length old
  pub within : q ≤ w
  pub room : t ≤ top + q
  pub chained : Chained (i + 1) new t
  pub kept : Kept old top new t
  pub own : (p : ℕ) → p < q → (at (word_row ms w i) p ≡ 0 → ⊥) → Lists new t (next_at new p) i (at (word_row ms w i) p)

module _ {ms : List ℕ} {w i : ℕ} {old : List ℕ} {top : ℕ} {new : List ℕ} {t q : ℕ} (s : Enlisting ms w i old top new t q) where
  past_or_same : (p : ℕ) → q ≤ p → (q < p) ⊎ (p ≡ q)
  past_or_same p a = ⊎_elim (λ b. inl b) (λ b. inr (omega arith)) (lt_or_le q p)

  -- word q has no cell, nor have those before r
  pub enlists_past : {r : ℕ} → at (word_row ms w i) q ≡ 0 → Onward (word_row ms w i) q r → r ≤ w
      → Enlisting ms w i old top new t r
  enlists_past {r} e o f = record {
    same = s.same;
    within = f;
    room = omega (arith, s.room, o.on);
    chained = s.chained;
    kept = s.kept;
    own = λ p l n. ⊎_elim (λ a. s.own p a n)
        (λ a. ⊎_elim (λ d. absurd (n (o.gap p d l))) (λ d. absurd (n (ap (at (word_row ms w i)) d ∙ e)))
        (past_or_same p a)) (lt_or_le p q);
  }

  -- node t is in front of word q's chain, and the words between q and r have no cell
  pub enlists_some : {next : List ℕ} {m r : ℕ} → length next ≡ length new → Pushed new q t i m next
      → at (word_row ms w i) q ≡ m → Onward (word_row ms w i) q r → r ≤ w → q < 158 → 2 * t + 2 ≤ length new
      → Enlisting ms w i old top next (t + 1) r
  enlists_some {next} {m} {r} e p d o f l g = record {
    same = e ∙ s.same;
    within = f;
    room = omega (arith, s.room, o.on);
    chained = push_chained s.chained p l (omega arith) (omega arith);
    kept = λ x j k a h. push_kept s.chained p l x j k a (s.kept x j k a h);
    own = λ x y n. ⊎_elim (λ a. push_kept s.chained p l x i (at (word_row ms w i) x) (omega arith) (s.own x a n))
        (λ a. ⊎_elim (λ b. absurd (n (o.gap x b y))) (λ b. rw b (rw d (push_own s.chained p l)))
        (past_or_same x a)) (lt_or_le x q);
  }

-- ---- enlist: the bids below i are in the chains of their words, or in `ever`
pub record Indexing (ms : List ℕ) (w : ℕ) (old index ever : List ℕ) (t i : ℕ) : Type 0 where
  pub same : length index ≡ length old
  pub few : length index ≤ 200000
  pub sixteen : length ever ≡ 16
  pub chained : Chained i index t
  pub lists : (j q : ℕ) → j < i → q < w → cell ever j ≡ 0 → (at (word_row ms w j) q ≡ 0 → ⊥)
      → Lists index t (next_at index q) j (at (word_row ms w j) q)

pub indexes_none : {ms : List ℕ} {w : ℕ} {index ever : List ℕ} → length index ≤ 200000 → length ever ≡ 16
    → Chained 0 index 158 → Indexing ms w index index ever 158 0
indexes_none f e c = record { same = refl; few = f; sixteen = e; chained = c; lists = λ j q l. absurd (omega arith) }

module _ {ms : List ℕ} {w : ℕ} {old index ever : List ℕ} {t i : ℕ} (s : Indexing ms w old index ever t i) where
  below_or_same : (j : ℕ) → j < i + 1 → (j < i) ⊎ (j ≡ i)
  below_or_same j l = ⊎_elim (λ a. inl a) (λ a. inr (omega arith)) (lt_or_le j i)
