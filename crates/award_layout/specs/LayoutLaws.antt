-- Faultless tables are orderly, and what is laid out of them has the cells of the bids. Assumes nothing.
use Rattle.std.proofs.Math.Path.{◌≡◌, refl, sym, ap, subst, fun_ext}
use Rattle.std.proofs.Common.{◌∙◌, mul-le-mul_left, length-take, length-drop, ext_get_or}
use mathlib.Core.List.{List, [], ◌∷◌, ◌++◌}
use Rattle.std.specs.Prelude.{Bool, ◌&&◌, take, drop, eqb, Some}
use Rattle.std.proofs.Math.Bool.{true, false, cond, and-false, or-false}
use Rattle.std.proofs.Math.Option.{none, some}
use Prim.Native.Nat.{ℕ, zero, suc, ◌+◌, ◌-◌, ◌*◌, ◌/◌, ◌%◌, ◌^◌, ◌≤◌, ◌<◌, min}
use Rattle.std.proofs.Math.Nat.{zero-div}
use native.Mathlib.Omega.{arith}
use Rattle.std.proofs.Math.ListN.{length, get_or, get_or-eq_default}
use Rattle.std.proofs.Math.Dec.{leb, ltb}
use borrow.Author.Tests.{ltb-true, ltb-false, leb-true, leb-false, lt-ltb, le-ltb, le-leb, lt-leb}
use Rattle.tender.specs.declared.Kind.{Kind}
use Rattle.tender.specs.declared.Kind.TheVariants.{Single}
use Rattle.tender.specs.declared.Tender.{Tender}
use Rattle.tender.specs.Limits.{within, most_windows, lawful, sound_tender, every}
use Rattle.tender.specs.RulesLaws.{sound_rules}
use Rattle.tender.specs.Tables.{Row, rows_of, windows_of, own, bid_width, window_width, window_at}
use Rattle.cover.proofs.SetLaws.{and_split}
use Rattle.cover.specs.Settled.{spans}
use Rattle.cells.specs.Cells.{cell}
use Rattle.multi_market.specs.Market.{word_row, has}
use Rattle.award_check.specs.Faults.{sound, row_fault, is_same_kind, fault_of, Kept}
use Rattle.award_check.specs.Cells.{holds, cells_of, minute_of, no_row, bid_row_at}
use Rattle.award_check.specs.Auction.{houses, auction_of}
use Rattle.award_check.proofs.AuctionLaws.{entries, price_named, house_price, has_cell, house_has, no_cells}
use Rattle.award_check.proofs.AuctionLaws.{EntryAt, owner, house, past, entry_at}
use Rattle.award_check.proofs.AlikeLaws.{keeps_kept, sound_keeps, sound_first, faultless, rows_length, row_named, windows_step}
use Rattle.award_layout.specs.Orderly.{Orderly, clipped, SpansLaid, AllMasked}

-- each row of faultless rows keeps the rules, and they are few
module _ (t : Tender) (windows : List ℕ) where
  sound_place : (place : ℕ) (used : List ℕ) (at : ℕ) (r : Row) → sound t windows place used at r ≡ true → place ≤ 1000
  unfolding sound
  sound_place place used at r e = leb-true place 1000 (and_split (leb place 1000) _ e).0

  rows_kept : (place : ℕ) (used : List ℕ) (at : ℕ) (rs : List Row) → row_fault t windows place used at rs ≡ none → (i : ℕ)
      → i < length rs
      → Kept t windows (get_or rs i no_row).first (get_or rs i no_row)
  unfolding row_fault
  rows_kept place used at [] e i l = absurd (omega arith)
  rows_kept place used at (r ∷ rs) e i l = go (sound t windows place used at r) refl e i l
      (rows_kept (place + 1) (used ++ r.bidder ∷ []) (at + r.count) rs)
    where
      go : (b : Bool) → sound t windows place used at r ≡ b
          → cond b (row_fault t windows (place + 1) (used ++ r.bidder ∷ []) (at + r.count) rs) (some place) ≡ none → (i : ℕ)
          → i < suc (length rs) →
          (row_fault t windows (place + 1) (used ++ r.bidder ∷ []) (at + r.count) rs ≡ none → (i : ℕ) → i < length rs
          → Kept t windows (get_or rs i no_row).first (get_or rs i no_row)) →
          Kept t windows (get_or (r ∷ rs) i no_row).first (get_or (r ∷ rs) i no_row)
      go false s e i l ih = let z : ◌≡◌ {A = ℕ} 0 1 = cc in absurd (omega arith)
      go true s e zero l ih = subst (λ (a : ℕ). Kept t windows a r) (sym (sound_first t windows place used at r s))
          (keeps_kept t windows at r (sound_keeps t windows place used at r s))
      go true s e (suc i) l ih = ih e i (omega arith)

  rows_few : (place : ℕ) (used : List ℕ) (at : ℕ) (rs : List Row) → row_fault t windows place used at rs ≡ none → place ≤ 1001
      → place + length rs ≤ 1001
  unfolding row_fault
  rows_few place used at [] e l = omega arith
  rows_few place used at (r ∷ rs) e l = go (sound t windows place used at r) refl e
      (rows_few (place + 1) (used ++ r.bidder ∷ []) (at + r.count) rs)
    where
      go : (b : Bool) → sound t windows place used at r ≡ b
          → cond b (row_fault t windows (place + 1) (used ++ r.bidder ∷ []) (at + r.count) rs) (some place) ≡ none →
          (row_fault t windows (place + 1) (used ++ r.bidder ∷ []) (at + r.count) rs ≡ none → place + 1 ≤ 1001
          → place + 1 + length rs ≤ 1001) → place + suc (length rs) ≤ 1001
      go false s e ih = let z : ◌≡◌ {A = ℕ} 0 1 = cc in absurd (omega arith)
      go true s e ih = omega (arith, ih e (omega (arith, sound_place place used at r s)))

pub orderly : (k : Kind) (t : Tender) (n : ℕ) (bids windows : List ℕ) → fault_of k t n bids windows ≡ none
    → Orderly t n bids windows
orderly k t n bids windows e =
    let f = faultless k t n bids windows e in
    let a = and_split (is_same_kind k t.kind && sound_tender t) (leb n (length bids / bid_width)) f.tender in
    record {
      few = omega (arith, rows_few t windows 1 [] 0 (rows_of n bids) f.rows (omega arith), rows_length n bids);
      lent = leb-true n (length bids / bid_width) a.1;
      kept = λ i l. rw (row_named n i bids l) at (rows_kept t windows 1 [] 0 (rows_of n bids) f.rows i
          (omega (arith, rows_length n bids)));
    }

-- a faultless tender has a cell, and no more than a week has minutes
pub cells_within : (k : Kind) (t : Tender) (n : ℕ) (bids windows : List ℕ) → fault_of k t n bids windows ≡ none
    → (0 < cells_of t) × (cells_of t ≤ 10080)
unfolding cells_of
cells_within k t n bids windows e =
    let f = faultless k t n bids windows e in
    let a = and_split (is_same_kind k t.kind && sound_tender t) (leb n (length bids / bid_width)) f.tender in
    let rules = (sound_rules t (and_split (is_same_kind k t.kind) (sound_tender t) a.0).1).window in
    (omega (arith, rules.some_minute), omega (arith, rules.in_week))

-- and its reserve is within the limit
pub reserve_within : (k : Kind) (t : Tender) (n : ℕ) (bids windows : List ℕ) → fault_of k t n bids windows ≡ none
    → (p : ℕ) → t.reserve ≡ Some p → p ≤ 100000000
reserve_within k t n bids windows e =
    let f = faultless k t n bids windows e in
    let a = and_split (is_same_kind k t.kind && sound_tender t) (leb n (length bids / bid_width)) f.tender in
    (sound_rules t (and_split (is_same_kind k t.kind) (sound_tender t) a.0).1).reserve

-- a bid has the cells of its row's windows
row_cell : (t : Tender) (n : ℕ) (bids windows : List ℕ) (i x : ℕ) → i < n → (auction_of t n bids windows).has i x
    ≡ (ltb x (cells_of t) && holds (own windows (bid_row_at bids i)) (minute_of t x))
row_cell t n bids windows i x l = has_cell t n bids windows i x l
    ∙ ap (λ (r : Row). ltb x (cells_of t) && holds (own windows r) (minute_of t x)) (row_named n i bids l)

-- prices of the bids, and after them the reserve, are those of the auction
pub prices_laid : (t : Tender) (n : ℕ) (bids windows ps : List ℕ) → length ps ≡ n + houses t.reserve
    → ((i : ℕ) → i < n → get_or ps i 0 ≡ (bid_row_at bids i).price)
    → ((p : ℕ) → t.reserve ≡ Some p → get_or ps n 0 ≡ p)
    → ps ≡ (auction_of t n bids windows).prices
prices_laid t n bids windows ps a b h =
    ext_get_or 0 ps (auction_of t n bids windows).prices (a ∙ sym (entries t n bids windows)) (λ i l. go i l (entry_at t n i))
  where
    go : (i : ℕ) → i < length ps → EntryAt t n i → get_or ps i 0 ≡ get_or (auction_of t n bids windows).prices i 0
    go i l (owner m) = b i m ∙ sym (price_named t n bids windows i m)
    go i l (house p e q) = rw q (h p e ∙ sym (house_price t n bids windows p e))
    go i l (past m) = absurd (omega (arith, a))

-- words have the cells of the auction

empty_row : (ms : List ℕ) (w n i x : ℕ) → length ms ≡ w * n → n ≤ i → eqb (cell (word_row ms w i) x) 1 ≡ false
unfolding cell word_row
empty_row ms w n i x e l =
    ap (λ (v : ℕ). eqb (v / 2 ^ (x % 64) % 2) 1) (get_or-eq_default (take w (drop (w * i) ms)) 0 {n = x / 64}
    (simp (length-take, length-drop) (omega (arith, mul-le-mul_left w l))))
    ∙ ap (λ (v : ℕ). eqb (v % 2) 1) (zero-div (2 ^ (x % 64)))

pub masks_have : (t : Tender) (n w : ℕ) (bids windows ms : List ℕ) → length ms ≡ w * (n + houses t.reserve)
    → AllMasked n t w bids windows ms
    → ((p : ℕ) → t.reserve ≡ Some p → (x : ℕ) → eqb (cell (word_row ms w n) x) 1 ≡ ltb x (cells_of t))
    → has ms w ≡ (auction_of t n bids windows).has
unfolding has
masks_have t n w bids windows ms e m h = fun_ext (λ i. fun_ext (λ x. go i x (entry_at t n i)))
  where
    go : (i x : ℕ) → EntryAt t n i → eqb (cell (word_row ms w i) x) 1 ≡ (auction_of t n bids windows).has i x
    go i x (owner l) = (m.each i l).sets x ∙ sym (row_cell t n bids windows i x l)
    go i x (house p u q) = rw q (h p u x ∙ sym (house_has t n bids windows p x u))
    go i x (past l) = empty_row ms w (n + houses t.reserve) i x e l ∙ sym (no_cells t n bids windows i x l)

-- a window's cells

in_range : (s e start L x : ℕ) → (leb (min (s - start) L) x && ltb x (min (e - start) L))
    ≡ (ltb x L && (leb s (start + x) && ltb (start + x) e))
in_range s e start L x = go (ltb x L) refl
  where
    low : x < L → leb (min (s - start) L) x ≡ leb s (start + x)
    low l = side (leb s (start + x)) refl
      where
        side : (b : Bool) → leb s (start + x) ≡ b → leb (min (s - start) L) x ≡ b
        side true t = le-leb (min (s - start) L) x (omega (arith, leb-true s (start + x) t))
        side false t = lt-leb (min (s - start) L) x (omega (arith, leb-false s (start + x) t))

    high : x < L → ltb x (min (e - start) L) ≡ ltb (start + x) e
    high l = side (ltb (start + x) e) refl
      where
        side : (b : Bool) → ltb (start + x) e ≡ b → ltb x (min (e - start) L) ≡ b
        side true t = lt-ltb x (min (e - start) L) (omega (arith, ltb-true (start + x) e t))
        side false t = le-ltb x (min (e - start) L) (omega (arith, ltb-false (start + x) e t))

    off : (a b : Bool) → b ≡ false → (a && b) ≡ false
    off true b e = e
    off false b e = refl

    go : (b : Bool) → ltb x L ≡ b → (leb (min (s - start) L) x && ltb x (min (e - start) L))
        ≡ (b && (leb s (start + x) && ltb (start + x) e))
    go true t = rw (low (ltb-true x L t), high (ltb-true x L t))
    go false t = off (leb (min (s - start) L) x) (ltb x (min (e - start) L)) (le-ltb x (min (e - start) L) (omega (arith, ltb-false x L t)))

pub in_cell : (t : Tender) (s e x : ℕ) → (leb (clipped t s) x && ltb x (clipped t e))
    ≡ (ltb x (cells_of t) && (leb s (minute_of t x) && ltb (minute_of t x) e))
unfolding minute_of
in_cell t s e x = in_range s e t.window.start (cells_of t) x

pub clip_order : (t : Tender) (s e : ℕ) → s ≤ e → clipped t s ≤ clipped t e
clip_order t s e l = omega arith

pub clip_inside : (t : Tender) (s : ℕ) → clipped t s ≤ cells_of t
clip_inside t s = omega arith

-- starts and ends of bids of one window each, and after them of the house, have the cells of the auction
module _ (t : Tender) (n : ℕ) (bids windows starts ends : List ℕ) (o : Orderly t n bids windows) (s : t.kind ≡ Single)
    (a : length starts ≡ n + houses t.reserve) (b : length ends ≡ n + houses t.reserve)
    (p : SpansLaid n t bids windows starts ends)
    (h : (q : ℕ) → t.reserve ≡ Some q → (get_or starts n 0 ≡ 0) × (get_or ends n 0 ≡ cells_of t)) where
  one_count : (i : ℕ) → i < n → (bid_row_at bids i).count ≡ 1
  unfolding within most_windows
  one_count i l =
      let c = and_split (leb 1 (bid_row_at bids i).count) (leb (bid_row_at bids i).count 1)
      (rw s at (o.kept i l).count) in
      omega (arith, leb-true 1 (bid_row_at bids i).count c.0, leb-true (bid_row_at bids i).count 1 c.1)

  own_one : (i : ℕ) → i < n → own windows (bid_row_at bids i)
      ≡ window_at windows (bid_row_at bids i).first ∷ []
  unfolding own windows_of
  own_one i l = ap (λ (c : ℕ). windows_of c (drop (window_width * (bid_row_at bids i).first) windows)) (one_count i l)
      ∙ windows_step 0 (bid_row_at bids i).first windows

  pub spans_ordered : (i : ℕ) → get_or starts i 0 ≤ get_or ends i 0
  unfolding every lawful
  spans_ordered i = go (entry_at t n i)
    where
      go : EntryAt t n i → get_or starts i 0 ≤ get_or ends i 0
      go (owner l) =
          let h : (ltb (window_at windows (bid_row_at bids i).first).start (window_at windows (bid_row_at bids i).first).end
          && leb (window_at windows (bid_row_at bids i).first).end 10080) && true ≡ true =
          sym (ap (every lawful) (own_one i l)) ∙ (o.kept i l).windows_too in
          let c = and_split (ltb (window_at windows (bid_row_at bids i).first).start (window_at windows (bid_row_at bids i).first).end)
          (leb (window_at windows (bid_row_at bids i).first).end 10080) (and_split _ true h).0 in
          omega (
            arith,
            p.starts_are i l,
            p.ends_are i l,
            clip_order t (window_at windows (bid_row_at bids i).first).start
                (window_at windows (bid_row_at bids i).first).end
                (omega (
                  arith,
                  ltb-true (window_at windows (bid_row_at bids i).first).start (window_at windows (bid_row_at bids i).first).end
                      c.0,
                )),
          )
      go (house q e r) = rw r (omega (arith, h q e))
      go (past l) = omega (arith, get_or-eq_default starts 0 {n = i} (omega (arith, a)))

  pub spans_inside : (i : ℕ) → get_or ends i 0 ≤ cells_of t
  spans_inside i = go (entry_at t n i)
    where
      go : EntryAt t n i → get_or ends i 0 ≤ cells_of t
      go (owner l) = omega (arith, p.ends_are i l, clip_inside t (window_at windows (bid_row_at bids i).first).end)
      go (house q e r) = rw r (omega (arith, h q e))
      go (past l) = omega (arith, get_or-eq_default ends 0 {n = i} (omega (arith, b)))

  pub spans_have : spans starts ends ≡ (auction_of t n bids windows).has
  unfolding spans holds
  spans_have = fun_ext (λ i. fun_ext (λ x. go i x (entry_at t n i)))
    where
      go : (i x : ℕ) → EntryAt t n i → (leb (get_or starts i 0) x && ltb x (get_or ends i 0))
          ≡ (auction_of t n bids windows).has i x
      go i x (owner l) =
          rw (p.starts_are i l, p.ends_are i l, row_cell t n bids windows i x l, own_one i l)
          (in_cell t (window_at windows (bid_row_at bids i).first).start (window_at windows (bid_row_at bids i).first).end x
          ∙ ap (λ b. ltb x (cells_of t) && b) (sym (or-false
          (leb (window_at windows (bid_row_at bids i).first).start (minute_of t x)
          && ltb (minute_of t x) (window_at windows (bid_row_at bids i).first).end))))
      go i x (house q e r) = rw (r, (h q e).0, (h q e).1, house_has t n bids windows q x e, le-leb 0 x (omega arith))
      go i x (past l) =
          ap (λ (v : ℕ). leb (get_or starts i 0) x && ltb x v) (get_or-eq_default ends 0 {n = i} (omega (arith, b)))
          ∙ ap (λ c. leb (get_or starts i 0) x && c) (le-ltb x 0 (omega arith)) ∙ and-false (leb (get_or starts i 0) x)
          ∙ sym (no_cells t n bids windows i x l)
