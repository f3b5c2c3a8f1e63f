-- Laws of the bids that gain: the walk along a word's chain, and the pairs one after the other. Assumes nothing.
use Rattle.std.specs.Prelude.{◌≡◌, refl, ◌⊎◌, Bool, true, false, ◌||◌, List, ℕ, ◌+◌, ◌-◌, ◌*◌, ◌/◌}
use Rattle.std.specs.Prelude.{◌%◌, ◌^◌, ◌≤◌, ◌<◌, length, set, eqb}
use Rattle.std.proofs.Common.{sym, ap, ◌∙◌, inl, inr, ⊎_elim, arith, get_or-set_same, get_or-set_other, eqb-true}
use Rattle.std.proofs.lemmas.Bool.{false≢true, eqb-false}
use Rattle.std.proofs.Math.Nat.{zero-div}
use Rattle.std.specs.Int.Bits.{bit_and, and_zero_l, and_zero_r}
use Rattle.cover.specs.Greedy.{reach}
use Rattle.cells.specs.Cells.{cell, bit_of, RangeAdded}
use Rattle.cells.proofs.BitLaws.{and_bit}
use Rattle.cells.proofs.StoreLaws.{lt_or_le}
use Rattle.cells_pairs.specs.Pairs.{in_pair, in_pairs}
use Rattle.cells_pairs.specs.PairLaws.{pair_word, pair_bit, pairs_none, pairs_more}
use Rattle.multi_keys.specs.Keys.{at, key_of}
use Rattle.multi_market.specs.Market.{word_row, has}
use Rattle.multi_market.specs.Seats.{key_at}
use Rattle.multi_market.specs.Opens.{open_of}
use Rattle.multi_market.proofs.KeyedLaws.{zero_or, key_at_lem}
use Rattle.multi_index.specs.Index.{bid_at, next_at, mask_at, Lists, Chained, Indexed}
use Rattle.multi_index.specs.IndexLaws.{chain_step, chain_end}
use Rattle.multi_gain.specs.Gain.{Spread, Gained}

-- the chains still have all bids where marks only come to be
pub indexed_more : {n : ℕ} {ms : List ℕ} {w : ℕ} {index old new : List ℕ} → Indexed n ms w index old
    → ((i : ℕ) → i < n → 0 < cell old i → 0 < cell new i) → Indexed n ms w index new
indexed_more {old = old} x h = record {
  top = x.top;
  chained = x.chained;
  lists = λ i q l g z. x.lists i q l g (⊎_elim (λ e. e) (λ e. absurd (omega (arith, h i l e))) (zero_or (cell old i)));
}

-- the key made of the cells counted
pub key_counted : (ps ms alt : List ℕ) (b : ℕ) {r key : ℕ} → key ≡ key_of (at ps b) r b
    → r ≡ reach (has ms (length alt) b) (open_of alt) → key ≡ key_at (has ms (length alt)) ps alt b
key_counted ps ms alt b e f = e ∙ ap (λ (x : ℕ). key_of (at ps b) x b) f ∙ sym (key_at_lem (has ms (length alt)) ps (open_of alt) b)

-- ---- the walk along word q's chain
-- before node t: a bid without a mark has no cell of m in word q, or is still to come
pub record Gaining (ps ms alt index : List ℕ) (q m : ℕ) (keys mark keys' mark' : List ℕ) (t : ℕ) : Type 0 where
  pub top : ℕ
  pub chained : Chained (length ps) index top
  pub here : (t ≡ 0) ⊎ ((158 ≤ t) × (t < top))
  pub kept : (i : ℕ) → i < 1024 → 0 < cell mark i → (0 < cell mark' i) × (at keys' i ≡ at keys i)
  pub same : (i : ℕ) → i < 1024 → cell mark' i ≡ 0 → at keys' i ≡ at keys i
  pub left : (i : ℕ) → i < length ps → cell mark' i ≡ 0 → (bit_and (at (word_row ms (length alt) i) q) m ≡ 0)
      ⊎ Lists index top t i (at (word_row ms (length alt) i) q)
  pub moved : (i : ℕ) → i < 1024 → cell mark i ≡ 0 → 0 < cell mark' i → (i < length ps)
      × (at keys' i ≡ key_at (has ms (length alt)) ps alt i)

pub starts : (ps ms alt index : List ℕ) (q m : ℕ) (keys mark : List ℕ) → Indexed (length ps) ms (length alt) index mark
    → q < length alt → length alt ≤ 158 → Gaining ps ms alt index q m keys mark keys mark (next_at index q)
starts ps ms alt index q m keys mark x l h = record {
  top = x.top;
  chained = x.chained;
  here = x.chained.next q (omega (arith, x.chained.heads));
  kept = λ i k g. (g, refl);
  same = λ i k z. refl;
  left = λ i k z. ⊎_elim (λ e. inl (rw e (and_zero_l m))) (λ g. inr (x.lists i q k l z (λ e. omega arith)))
      (zero_or (at (word_row ms (length alt) i) q));
  moved = λ i k z g. absurd (omega arith);
}

module _ {ps ms alt index : List ℕ} {q m : ℕ} {keys mark keys' mark' : List ℕ} {t : ℕ}
    (s : Gaining ps ms alt index q m keys mark keys' mark' t) where
  pub node : 0 < t → (158 ≤ t) × (t < s.top)
  node l = ⊎_elim (λ e. absurd (omega arith)) (λ h. h) s.here

  pub bid_in_lem : 0 < t → bid_at index t < length ps
  bid_in_lem l = s.chained.bids t (node l).0 (node l).1

  -- the node's bid has no cell of m, or a mark
  pub passes : 0 < t → (bit_and (mask_at index t) m ≡ 0) ⊎ (0 < cell mark' (bid_at index t))
      → Gaining ps ms alt index q m keys mark keys' mark' (next_at index t)
  passes l o = record {
    top = s.top;
    chained = s.chained;
    here = s.chained.next t (node l).1;
    kept = s.kept;
    same = s.same;
    left = λ i k z. ⊎_elim (λ e. inl e) (λ r. ⊎_elim (λ e. inl (own i z e.0 e.1)) (λ y. inr y)
        (chain_step s.chained t (node l).0 (node l).1 i (at (word_row ms (length alt) i) q) r)) (s.left i k z);
    moved = s.moved;
  }
    where
      own : (i : ℕ) → cell mark' i ≡ 0 → bid_at index t ≡ i → mask_at index t ≡ at (word_row ms (length alt) i) q
          → bit_and (at (word_row ms (length alt) i) q) m ≡ 0
      own i z e f = ⊎_elim (λ y. ap (λ (v : ℕ). bit_and v m) (sym f) ∙ y)
          (λ y. let d = ap (cell mark') e in absurd (omega (arith, d))) o

  -- bid b gets its mark and its key
  pub adds : (b : ℕ) (new next : List ℕ) → b < length ps → b < length keys' → cell mark' b ≡ 0
      → new ≡ set keys' b (key_at (has ms (length alt)) ps alt b) → RangeAdded b (b + 1) mark' next
      → Gaining ps ms alt index q m keys mark new next t
  adds b new next l ls z d f = record {
    top = s.top;
    chained = s.chained;
    here = s.here;
    kept = λ i k g. let y = s.kept i k g in let n : (i ≡ b → ⊥) = λ e. let a = ap (cell mark') e in omega (arith, y.0) in
        (rw (other_mark i n) y.0, other_key i n ∙ y.1);
    same = λ i k y. let n = unmarked i y in other_key i n ∙ s.same i k (sym (other_mark i n) ∙ y);
    left = λ i k y. s.left i k (sym (other_mark i (unmarked i y)) ∙ y);
    moved = λ i k y g. go i k y g (eqb i b) refl;
  }
    where
      own_mark : cell next b ≡ 1
      own_mark = f.inside b (omega arith) (omega arith)

      other_mark : (i : ℕ) → (i ≡ b → ⊥) → cell next i ≡ cell mark' i
      other_mark i n = ⊎_elim (λ a. f.below i a) (λ a. f.above i (omega arith)) (lt_or_le i b)

      other_key : (i : ℕ) → (i ≡ b → ⊥) → at new i ≡ at keys' i
      other_key i n = ap (λ (xs : List ℕ). at xs i) d ∙ get_or-set_other keys' b i (key_at (has ms (length alt)) ps alt b) 0 n

      unmarked : (i : ℕ) → cell next i ≡ 0 → i ≡ b → ⊥
      unmarked i y e = let a = ap (cell next) e in omega (arith, own_mark)

      go : (i : ℕ) → i < 1024 → cell mark i ≡ 0 → 0 < cell next i → (v : Bool) → eqb i b ≡ v → (i < length ps)
          × (at new i ≡ key_at (has ms (length alt)) ps alt i)
      go i k y g true e = rw (eqb-true i b e)
          (l, ap (λ (xs : List ℕ). at xs b) d ∙ get_or-set_same keys' b (key_at (has ms (length alt)) ps alt b) 0 ls)
      go i k y g false e = let n = eqb-false i b e in let h = s.moved i k y (rw (other_mark i n) at g) in
          (h.0, other_key i n ∙ h.1)

  pub ends : t ≡ 0 → Spread ps ms alt q m keys mark keys' mark'
  ends e = record {
    kept = s.kept;
    still = λ i k z. (
      s.same i k z,
      λ l. ⊎_elim (λ y. y) (λ r. absurd (chain_end index s.top i (at (word_row ms (length alt) i) q) (rw e at r))) (s.left i l z),
    );
    moved = s.moved;
  }

-- ---- the pairs one after the other
pub gained_none : (has : ℕ → ℕ → Bool) (ps alt pairs : List ℕ) (a : ℕ) (keys mark : List ℕ)
    → Gained has ps alt (in_pairs pairs a (a - a)) keys mark keys mark
gained_none has ps alt pairs a keys mark = record {
  kept = λ i k g. (g, refl);
  still = λ i k z. (refl, λ l x h f. absurd (false≢true (sym (pairs_none pairs a x) ∙ f)));
  moved = λ i k z g. absurd (omega arith);
}

-- where there is no cell no bid has one
pub spread_none : (ps ms alt : List ℕ) (q m : ℕ) (keys mark : List ℕ) → m ≡ 0 → Spread ps ms alt q m keys mark keys mark
spread_none ps ms alt q m keys mark e = record {
  kept = λ i k g. (g, refl);
  still = λ i k z. (refl, λ l. rw e (and_zero_r (at (word_row ms (length alt) i) q)));
  moved = λ i k z g. absurd (omega arith);
}

has_cell : (ms : List ℕ) (w i x : ℕ) → has ms w i x ≡ true → cell (word_row ms w i) x ≡ 1
unfolding has
has_cell ms w i x h = eqb-true (cell (word_row ms w i) x) 1 h

-- a cell of word q is in the row and in the mask, but the row has no open cell of the mask there
apart : (alt row : List ℕ) (q m x : ℕ) → bit_and (at row q) (bit_and (at alt q) m) ≡ 0 → x / 64 ≡ q → cell row x ≡ 1
    → bit_of m (x % 64) ≡ 1 → cell alt x ≡ 0
unfolding cell
apart alt row q m x e f u v = rw f (omega (
  arith,
  rw f at u,
  v,
  zeros,
  and_bit (at row q) (bit_and (at alt q) m) (x % 64),
  and_bit (at alt q) m (x % 64),
))
  where
    zeros : bit_of (bit_and (at row q) (bit_and (at alt q) m)) (x % 64) ≡ 0
    zeros = rw (e, zero-div (2 ^ (x % 64)))

or_cases : (a b : Bool) → (a || b) ≡ true → (a ≡ true) ⊎ (b ≡ true)
or_cases true b e = inl refl
or_cases false b e = inr e

pub gained_more : (pairs : List ℕ) (a p : ℕ) {ps ms alt keys mark keys' mark' new next : List ℕ} → a ≤ p
    → Gained (has ms (length alt)) ps alt (in_pairs pairs a (p - a)) keys mark keys' mark'
    → Spread ps ms alt (at pairs (2 * p)) (bit_and (at alt (at pairs (2 * p))) (at pairs (2 * p + 1))) keys' mark' new next
    → Gained (has ms (length alt)) ps alt (in_pairs pairs a (p + 1 - a)) keys mark new next
gained_more pairs a p {ps} {ms} {alt} {keys} {mark} {keys'} {mark'} {new} {next} l s d = record {
  kept = λ i k g. let y = s.kept i k g in let z = d.kept i k y.0 in (z.0, z.1 ∙ y.1);
  still = λ i k z. ((d.still i k z).0 ∙ (s.still i k (was i k z)).0, λ b x h f. closed i k z b x h f);
  moved = λ i k z g. ⊎_elim (λ y. d.moved i k y g) (λ y. let h = s.moved i k z y in (h.0, (d.kept i k y).1 ∙ h.1))
      (zero_or (cell mark' i));
}
  where
    was : (i : ℕ) → i < 1024 → cell next i ≡ 0 → cell mark' i ≡ 0
    was i k z = ⊎_elim (λ y. y) (λ y. absurd (omega (arith, (d.kept i k y).0))) (zero_or (cell mark' i))

    closed : (i : ℕ) → i < 1024 → cell next i ≡ 0 → i < length ps → (x : ℕ) → has ms (length alt) i x ≡ true
        → in_pairs pairs a (p + 1 - a) x ≡ true → cell alt x ≡ 0
    closed i k z b x h f = ⊎_elim (λ y. (s.still i k (was i k z)).1 b x h y)
        (λ y. apart alt (word_row ms (length alt) i) (at pairs (2 * p)) (at pairs (2 * p + 1)) x ((d.still i k z).1 b)
        (sym (pair_word pairs p x y)) (has_cell ms (length alt) i x h) (pair_bit pairs p x y))
        (or_cases (in_pairs pairs a (p - a) x) (in_pair pairs p x) (sym (pairs_more pairs a p l x) ∙ f))
