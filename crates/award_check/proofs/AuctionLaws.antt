-- The auction of tables: its cells, its entries and their prices, who has which cell; and of tables that are alike in all but one bid's
-- price and minutes, or in what was read. Assumes nothing.
use Rattle.cover.specs.Spare.{Spare}
use Rattle.std.specs.Prelude.{◌≡◌, Bool, ◌&&◌, ℕ, zero, suc, ◌+◌, ◌-◌, ◌*◌, ◌≤◌, ◌<◌, set, drop}
use Rattle.std.specs.Prelude.{Some, None}
use Rattle.std.proofs.Math.Path.{refl, sym, ap, fun_ext}
use Rattle.std.proofs.Common.{◌∙◌, length-set, get_or-set_same, get_or-set_other, ext_get_or}
use mathlib.Core.List.{List, [], ◌∷◌, ◌++◌, map, append-nil}
use Rattle.std.proofs.Math.Bool.{true, false, cond, and-false}
use native.Mathlib.Omega.{arith}
use Rattle.std.proofs.Math.ListN.{length, get_or, length-map, length-append, get_or-map, get_or-append, get_or-eq_default}
use Rattle.std.proofs.Math.Seq.{get_or-drop, get_or-append_seam}
use Rattle.std.proofs.lemmas.List.{set-get_or, set-append_left}
use Rattle.std.proofs.Math.Dec.{ltb, eqb}
use borrow.Author.Tests.{ltb-true, ltb-false, lt-ltb, le-ltb, le-leb, eqb-true, eqb-false}
use Rattle.tender.specs.declared.Window.{Window}
use Rattle.tender.specs.Types.{Reserve}
use Rattle.tender.specs.declared.Tender.{Tender}
use Rattle.tender.specs.Limits.{as_window}
use Rattle.tender.specs.Tables.{Row, rows_of, windows_of, own, flat_rows, flat_windows, bid_width, window_width}
use Rattle.cover.specs.Sets.{nothing}
use Rattle.cover.specs.Earliest.{cell_with}
use Rattle.cover.proofs.SetLaws.{and_split}
use Rattle.cover.proofs.SpareLaws.{enough_spare, whole_spare}
use Rattle.reader_text.specs.Rules.{Rules}
use Rattle.award_check.specs.Cells.{holds, cells_of, minute_of, bid_row_at, no_row}
use Rattle.award_check.specs.Auction.{Offer, no_offer, offered, houses, house_of, offers_of, Auction, has_of}
use Rattle.award_check.specs.Auction.{auction_of, at_price, reserved, thin_cell}
use Rattle.award_check.specs.Alike.{Withheld}
use Rattle.award_check.proofs.AlikeLaws.{rows_length, row_named, windows_same, among_held, faultless}
use Rattle.award_check.proofs.TextLaws.{rows_flat, length_windows, rows_end, never_nine}

pub map_append : {A B : Type 0} (f : A → B) (xs ys : List A) → map f (xs ++ ys) ≡ map f xs ++ map f ys
map_append f [] ys = refl
map_append f (x ∷ xs) ys = ap (λ zs. f x ∷ zs) (map_append f xs ys)

-- offers

own_at : (windows : List ℕ) (rs : List Row) (i : ℕ) → get_or (map (own windows) rs) i [] ≡ own windows (get_or rs i no_row)
unfolding own windows_of no_row
own_at windows rs i = get_or-map (own windows) rs i no_row

offer_windows : (windows : List ℕ) (rs : List Row) → map (λ o. o.windows) (map (offered windows) rs) ≡ map (own windows) rs
unfolding offered
offer_windows windows [] = refl
offer_windows windows (r ∷ rs) = ap (λ ws. own windows r ∷ ws) (offer_windows windows rs)

same_offers : (windows windows' : List ℕ) (rs : List Row)
    → ((j : ℕ) → own windows (get_or rs j no_row) ≡ own windows' (get_or rs j no_row))
    → map (offered windows) rs ≡ map (offered windows') rs
unfolding offered
same_offers windows windows' [] h = refl
same_offers windows windows' (r ∷ rs) h = rw (h 0) (ap (λ os. record { price = r.price; windows = own windows' r } ∷ os)
    (same_offers windows windows' rs (λ j. h (suc j))))

windows_at : (os : List Offer) (i : ℕ) → (get_or os i no_offer).windows ≡ get_or (map (λ o. o.windows) os) i []
unfolding no_offer
windows_at os i = sym (get_or-map (λ o. o.windows) os i no_offer)

offer_prices : (windows : List ℕ) (rs : List Row) → map (λ o. o.price) (map (offered windows) rs) ≡ map (λ r. r.price) rs
unfolding offered
offer_prices windows [] = refl
offer_prices windows (r ∷ rs) = ap (λ ps. r.price ∷ ps) (offer_prices windows rs)

price_at_lem : (n i : ℕ) (bids : List ℕ) → i < n
    → get_or (map (λ r. r.price) (rows_of n bids)) i 0 ≡ get_or bids (bid_width * i + 1) 0
unfolding rows_of
price_at_lem zero i bids l = absurd (omega arith)
price_at_lem (suc n) zero bids l = refl
price_at_lem (suc n) (suc i) bids l = price_at_lem n i (drop bid_width bids) (omega arith)
    ∙ get_or-drop bid_width bids (bid_width * i + 1) 0
    ∙ ap (λ (j : ℕ). get_or bids j 0) (index i)
  where
    index : (i : ℕ) → bid_width + (bid_width * i + 1) ≡ bid_width * suc i + 1
    index i = omega arith

house_count : (t : Tender) (r : Reserve) → length (house_of t r) ≡ houses r
unfolding house_of
house_count t None = refl
house_count t (Some p) = refl

-- the windows of the house
abbrev house_windows : Tender → List (List Window)
house_windows t = map (λ o. o.windows) (house_of t t.reserve)

-- the auction of tables
module _ (t : Tender) (n : ℕ) (bids windows : List ℕ) where
  pub minutes : (auction_of t n bids windows).cells ≡ t.window.end - t.window.start
  unfolding auction_of cells_of
  minutes = refl

  pub cells_are : (auction_of t n bids windows).cells ≡ cells_of t
  unfolding auction_of
  cells_are = refl

  pub owners_are : (auction_of t n bids windows).owners ≡ n
  unfolding auction_of
  owners_are = refl

  -- as many entries as bids, and the house
  pub entries : length (auction_of t n bids windows).prices ≡ n + houses t.reserve
  unfolding auction_of offers_of
  entries = length-map (map (offered windows) (rows_of n bids) ++ house_of t t.reserve) (λ o. o.price)
      ∙ length-append (map (offered windows) (rows_of n bids)) (house_of t t.reserve)
      ∙ omega (arith, length-map (rows_of n bids) (offered windows), rows_length n bids, house_count t t.reserve)

  owner_count : length (map (own windows) (rows_of n bids)) ≡ n
  owner_count = length-map (rows_of n bids) (own windows) ∙ rows_length n bids

  prices_by : (auction_of t n bids windows).prices ≡ map (λ r. r.price) (rows_of n bids) ++ map (λ o. o.price) (house_of t t.reserve)
  unfolding auction_of offers_of
  prices_by = map_append (λ o. o.price) (map (offered windows) (rows_of n bids)) (house_of t t.reserve)
      ∙ ap (λ ps. ps ++ map (λ o. o.price) (house_of t t.reserve)) (offer_prices windows (rows_of n bids))

  price_count : length (map (λ r. r.price) (rows_of n bids)) ≡ n
  price_count = length-map (rows_of n bids) (λ r. r.price) ∙ rows_length n bids

  pub price_named : (i : ℕ) → i < n → get_or (auction_of t n bids windows).prices i 0 ≡ get_or bids (bid_width * i + 1) 0
  price_named i l = ap (λ ps. get_or ps i 0) prices_by
      ∙ get_or-append (map (λ r. r.price) (rows_of n bids)) (map (λ o. o.price) (house_of t t.reserve)) 0 i
      (omega (arith, price_count))
      ∙ price_at_lem n i bids l

  -- the house's price is the reserve
  pub house_price : (p : ℕ) → t.reserve ≡ Some p → get_or (auction_of t n bids windows).prices n 0 ≡ p
  unfolding house_of
  house_price p e = ap (λ ps. get_or ps n 0) (prices_by
      ∙ ap (λ r. map (λ r. r.price) (rows_of n bids) ++ map (λ o. o.price) (house_of t r)) e)
      ∙ ap (λ (j : ℕ). get_or (map (λ r. r.price) (rows_of n bids) ++ p ∷ []) j 0) (sym price_count)
      ∙ get_or-append_seam (map (λ r. r.price) (rows_of n bids)) p [] 0

  has_by : (i x : ℕ) → (auction_of t n bids windows).has i x
      ≡ (ltb x (cells_of t) && holds (get_or (map (own windows) (rows_of n bids) ++ house_windows t) i []) (minute_of t x))
  unfolding auction_of offers_of has_of
  has_by i x = ap (λ ws. ltb x (cells_of t) && holds ws (minute_of t x))
      (windows_at (map (offered windows) (rows_of n bids) ++ house_of t t.reserve) i
      ∙ ap (λ wss. get_or wss i []) (map_append (λ o. o.windows) (map (offered windows) (rows_of n bids)) (house_of t t.reserve)
      ∙ ap (λ wss. wss ++ house_windows t) (offer_windows windows (rows_of n bids))))

  pub has_cell : (i x : ℕ) → i < n → (auction_of t n bids windows).has i x
      ≡ (ltb x (cells_of t) && holds (own windows (get_or (rows_of n bids) i no_row)) (minute_of t x))
  has_cell i x l = has_by i x
      ∙ ap (λ ws. ltb x (cells_of t) && holds ws (minute_of t x))
      (get_or-append (map (own windows) (rows_of n bids)) (house_windows t) [] i (omega (arith, owner_count))
      ∙ own_at windows (rows_of n bids) i)

  has_row : (i x : ℕ) → i < n → (auction_of t n bids windows).has i x
      ≡ (ltb x (cells_of t) && holds (own windows (bid_row_at bids i)) (minute_of t x))
  has_row i x l = has_cell i x l ∙ ap (λ r. ltb x (cells_of t) && holds (own windows r) (minute_of t x)) (row_named n i bids l)

  -- the house has every cell
  pub house_has : (p x : ℕ) → t.reserve ≡ Some p → (auction_of t n bids windows).has n x ≡ ltb x (cells_of t)
  unfolding house_of cells_of minute_of holds
  house_has p x e = has_by n x
      ∙ ap (λ ws. ltb x (cells_of t) && holds ws (minute_of t x))
      (ap (λ r. get_or (map (own windows) (rows_of n bids) ++ map (λ o. o.windows) (house_of t r)) n []) e
      ∙ ap (λ (j : ℕ). get_or (map (own windows) (rows_of n bids) ++ (as_window t.window ∷ []) ∷ []) j []) (sym owner_count)
      ∙ get_or-append_seam (map (own windows) (rows_of n bids)) (as_window t.window ∷ []) [] [])
      ∙ whole (ltb x (cells_of t)) refl
    where
      whole : (b : Bool) → ltb x (cells_of t) ≡ b → (b && holds (as_window t.window ∷ []) (minute_of t x)) ≡ b
      whole true u = rw (
        le-leb t.window.start (t.window.start + x) (omega arith),
        lt-ltb (t.window.start + x) t.window.end (omega (arith, ltb-true x (t.window.end - t.window.start) u)),
      )
      whole false u = refl

  -- past the last entry there are no cells
  pub no_cells : (i x : ℕ) → n + houses t.reserve ≤ i → (auction_of t n bids windows).has i x ≡ false
  unfolding holds
  no_cells i x l = has_by i x
      ∙ ap (λ ws. ltb x (cells_of t) && holds ws (minute_of t x))
      (get_or-eq_default (map (own windows) (rows_of n bids) ++ house_windows t) [] {n = i} (omega (
        arith,
        length-append (map (own windows) (rows_of n bids)) (house_windows t),
        owner_count,
        length-map (house_of t t.reserve) (λ o. o.windows),
        house_count t t.reserve,
      )))
      ∙ and-false (ltb x (cells_of t))

  -- without a reserve the entries are the bids, and each thin cell is told
  pub without_reserve : t.reserve ≡ None → reserved (auction_of t n bids windows) ≡ false
  unfolding reserved
  without_reserve e = le-ltb (auction_of t n bids windows).owners (length (auction_of t n bids windows).prices)
      (omega (arith, entries, owners_are, ap houses e))

  pub with_reserve : (p : ℕ) → t.reserve ≡ Some p → reserved (auction_of t n bids windows) ≡ true
  unfolding reserved
  with_reserve p e = lt-ltb (auction_of t n bids windows).owners (length (auction_of t n bids windows).prices)
      (omega (arith, entries, owners_are, ap houses e))

  pub thin_told : t.reserve ≡ None → (m : ℕ) → thin_cell (auction_of t n bids windows) m
      ≡ cell_with (auction_of t n bids windows).has n (cells_of t) m
  unfolding thin_cell
  thin_told e m = ap (λ b. cond b nothing (cell_with (auction_of t n bids windows).has (auction_of t n bids windows).owners
      (auction_of t n bids windows).cells m)) (without_reserve e) ∙ rw (owners_are, cells_are) refl

  pub none_thin : (p : ℕ) → t.reserve ≡ Some p → (m : ℕ) → thin_cell (auction_of t n bids windows) m ≡ nothing
  unfolding thin_cell
  none_thin p e m = ap (λ b. cond b nothing (cell_with (auction_of t n bids windows).has (auction_of t n bids windows).owners
      (auction_of t n bids windows).cells m)) (with_reserve p e)

  -- the house has every cell
  house_whole : (p : ℕ) → t.reserve ≡ Some p → (x : ℕ) → x < (auction_of t n bids windows).cells
      → (auction_of t n bids windows).has n x ≡ true
  house_whole p e x l = house_has p x e ∙ lt-ltb x (cells_of t) (omega (arith, cells_are))

  -- where no cell is thin, the entries but an owner's have every cell, and so have all of them
  module _ (d : thin_cell (auction_of t n bids windows) 0 ≡ nothing) (e : thin_cell (auction_of t n bids windows) 1 ≡ nothing) where
    abbrev A : Auction
    A = auction_of t n bids windows

    spare_but : (r : Reserve) → t.reserve ≡ r → (i : ℕ) → (i ≡ n → t.reserve ≡ None)
        → Spare A.has (length A.prices) A.cells i
    spare_but None u i z = let c : length A.prices ≡ n = omega (arith, entries, ap houses u) in rw c
        (enough_spare A.has n A.cells (rw cells_are (sym (thin_told u 0) ∙ d)) (rw cells_are (sym (thin_told u 1) ∙ e)) i)
    spare_but (Some p) u i z = whole_spare A.has (length A.prices) A.cells n (omega (arith, entries, ap houses u))
        (house_whole p u) i (λ q. let y : ◌≡◌ {A = ℕ} 0 1 = ap houses (sym (z (sym q)) ∙ u) in omega arith)

    pub owner_spared : (i : ℕ) → i < n → Spare A.has (length A.prices) A.cells i
    owner_spared i l = spare_but t.reserve refl i (λ z. absurd (omega arith))

    pub all_have : Spare A.has (length A.prices) A.cells (length A.prices)
    all_have = spare_but t.reserve refl (length A.prices) (λ z. absent t.reserve (omega (arith, entries)))
      where
        absent : (r : Reserve) → houses r ≡ 0 → r ≡ None
        absent None q = refl
        absent (Some p) q = absurd (omega arith)

-- what stands at place i of the entries
pub data EntryAt (t : Tender) (n i : ℕ) : Type 0 where
  owner : i < n → EntryAt t n i
  house : (p : ℕ) → t.reserve ≡ Some p → i ≡ n → EntryAt t n i
  past : n + houses t.reserve ≤ i → EntryAt t n i

pub entry_at : (t : Tender) (n i : ℕ) → EntryAt t n i
entry_at t n i = go (ltb i n) refl t.reserve refl (eqb i n) refl
  where
    go : (b : Bool) → ltb i n ≡ b → (r : Reserve) → t.reserve ≡ r → (c : Bool) → eqb i n ≡ c → EntryAt t n i
    go true u r q c v = owner (ltb-true i n u)
    go false u None q c v = past (omega (arith, ltb-false i n u, ap houses q))
    go false u (Some p) q true v = house p q (eqb-true i n v)
    go false u (Some p) q false v = past (omega (arith, ltb-false i n u, eqb-false i n v, ap houses q))

-- an entry's own price changes nothing
pub at_own_price : (i : ℕ) (A : Auction) → at_price i (get_or A.prices i 0) A ≡ A
unfolding at_price
at_own_price i A = ap (λ ps. record { cells = A.cells; has = A.has; prices = ps; owners = A.owners }) (set-get_or A.prices i 0)

-- the auction in which entry i asks q and the entries have these cells
abbrev pub offering : ℕ → ℕ → (ℕ → ℕ → Bool) → Auction → Auction
offering i q h A = record { cells = A.cells; has = h; prices = set A.prices i q; owners = A.owners }

-- tables in which bid i may name another price and offers part of its minutes: it has no cell more, the other entries have the same, and
-- that price alone is another
module _ (t : Tender) (n i : ℕ) (bids windows bids' windows' : List ℕ) (l : i < n)
    (w : Withheld n i bids windows bids' windows') where
  abbrev q : ℕ
  q = get_or bids' (bid_width * i + 1) 0

  prices_at : (j : ℕ) → j < n
      → get_or (map (λ r. r.price) (rows_of n bids')) j 0 ≡ get_or (set (map (λ r. r.price) (rows_of n bids)) i q) j 0
  unfolding offered
  prices_at j m = price_at_lem n j bids' m ∙ go (eqb j i) refl
    where
      go : (b : Bool) → eqb j i ≡ b
          → get_or bids' (bid_width * j + 1) 0 ≡ get_or (set (map (λ r. r.price) (rows_of n bids)) i q) j 0
      go true e = rw (eqb-true j i e)
          (sym (get_or-set_same (map (λ r. r.price) (rows_of n bids)) i q 0 (omega (arith, price_count t n bids windows))))
      go false e = ap (λ (o : Offer). o.price) (w.others j m (eqb-false j i e)) ∙ sym (price_at_lem n j bids m)
          ∙ sym (get_or-set_other (map (λ r. r.price) (rows_of n bids)) i j q 0 (eqb-false j i e))

  prices_withheld : (auction_of t n bids' windows').prices ≡ set (auction_of t n bids windows).prices i q
  prices_withheld =
      prices_by t n bids' windows'
      ∙ ap (λ ps. ps ++ map (λ o. o.price) (house_of t t.reserve))
      (ext_get_or 0 (map (λ r. r.price) (rows_of n bids')) (set (map (λ r. r.price) (rows_of n bids)) i q)
      (price_count t n bids' windows' ∙ sym (length-set (map (λ r. r.price) (rows_of n bids)) i q ∙ price_count t n bids windows))
      (λ j m. prices_at j (omega (arith, price_count t n bids' windows'))))
      ∙ sym (set-append_left (map (λ r. r.price) (rows_of n bids)) (map (λ o. o.price) (house_of t t.reserve)) i q
      (omega (arith, price_count t n bids windows)))
      ∙ ap (λ ps. set ps i q) (sym (prices_by t n bids windows))

  pub auction_withheld : auction_of t n bids' windows'
      ≡ offering i q (auction_of t n bids' windows').has (auction_of t n bids windows)
  unfolding auction_of
  auction_withheld =
      ap (λ ps. record { cells = cells_of t; has = (auction_of t n bids' windows').has; prices = ps; owners = n }) prices_withheld

  pub has_others : (j : ℕ) → (j ≡ i → ⊥) → (auction_of t n bids' windows').has j ≡ (auction_of t n bids windows).has j
  unfolding offered
  has_others j d = fun_ext (λ x. go x (entry_at t n j))
    where
      go : (x : ℕ) → EntryAt t n j → (auction_of t n bids' windows').has j x ≡ (auction_of t n bids windows).has j x
      go x (owner m) = has_row t n bids' windows' j x m
          ∙ ap (λ (o : Offer). ltb x (cells_of t) && holds o.windows (minute_of t x)) (w.others j m d)
          ∙ sym (has_row t n bids windows j x m)
      go x (house p e h) = rw h (house_has t n bids' windows' p x e ∙ sym (house_has t n bids windows p x e))
      go x (past m) = no_cells t n bids' windows' j x m ∙ sym (no_cells t n bids windows j x m)

  pub has_part : (x : ℕ) → (auction_of t n bids' windows').has i x ≡ true → (auction_of t n bids windows).has i x ≡ true
  unfolding offered
  has_part x e =
      let s = and_split (ltb x (cells_of t)) _ (sym (has_row t n bids' windows' i x l) ∙ e) in
      has_row t n bids windows i x l ∙ rw (s.0, w.part (minute_of t x) s.1)

-- what stands past the rows that were read says nothing
module _ (T : Tender) (R : List Row) (W : List Window) (rules : Rules T R W) where
  within : (w : List ℕ) (j : ℕ) → (get_or R j no_row).first + (get_or R j no_row).count ≤ length W
  within w j = omega (
    arith,
    among_held T (flat_windows W ++ w) 1 [] 0 R j
        (rw (rows_flat R []) at (faultless T.kind T (length R) (flat_rows R ++ []) (flat_windows W ++ w)
        (never_nine T R W [] w rules)).rows),
    rows_end T.kind [] 0 R (length W) rules.rows,
  )

  own_read : (w : List ℕ) (j : ℕ) → own (flat_windows W ++ w) (get_or R j no_row) ≡ own (flat_windows W) (get_or R j no_row)
  unfolding own
  own_read w j = go (get_or R j no_row) (within w j)
    where
      go : (r : Row) → r.first + r.count ≤ length W → own (flat_windows W ++ w) r ≡ own (flat_windows W) r
      go r l = windows_same r.count (drop (window_width * r.first) (flat_windows W ++ w)) (drop (window_width * r.first) (flat_windows W))
          (λ x m. get_or-drop (window_width * r.first) (flat_windows W ++ w) x 0
          ∙ get_or-append (flat_windows W) w 0 (window_width * r.first + x) (omega (arith, length_windows W))
          ∙ sym (get_or-drop (window_width * r.first) (flat_windows W) x 0))

  offers_read : (w : List ℕ) → map (offered (flat_windows W ++ w)) R ≡ map (offered (flat_windows W)) R
  offers_read w = same_offers (flat_windows W ++ w) (flat_windows W) R (own_read w)

  rows_alone : rows_of (length R) (flat_rows R) ≡ R
  rows_alone = ap (rows_of (length R)) (sym (append-nil (flat_rows R))) ∙ rows_flat R []

  pub auction_read : (v w : List ℕ) → auction_of T (length R) (flat_rows R ++ v) (flat_windows W ++ w)
      ≡ auction_of T (length R) (flat_rows R) (flat_windows W)
  unfolding auction_of offers_of
  auction_read v w = rw (rows_flat R v, rows_alone, offers_read w)
