-- Laws of a text's head, the lines before its bids, and what an accepted text says of it. Assumes nothing.
use Rattle.std.proofs.Math.Path.{◌≡◌, refl, ap}
use Rattle.std.proofs.Common.{sym, ◌∙◌, arith, le-leb, leb-true}
use mathlib.Core.List.{List, [], ◌∷◌, ◌++◌, map}
use Rattle.std.specs.Prelude.{Bool, ℕ, suc, ◌+◌, ◌≤◌, ◌<◌, length, Some, None}
use Rattle.std.proofs.Math.Bool.{true, false, cond}
use Rattle.std.proofs.Math.Option.{Option, none, some}
use Rattle.std.proofs.Math.Dec.{leb}
use Rattle.std.proofs.lemmas.Bool.{lt-leb}
use Rattle.tender.specs.declared.Window.{Window}
use Rattle.tender.specs.Types.{Reserve}
use Rattle.tender.specs.declared.Tender.{Tender}
use Rattle.tender.specs.declared.Refusal.{Refusal}
use Rattle.tender.specs.declared.Refusal.TheVariants.{BadForm, OutsideLimits}
use Rattle.tender.specs.Limits.{lawful_reserve, sound_tender}
use Rattle.tender.specs.Tables.{Row}
use Rattle.reader_forms.specs.Line.{TenderLine, BidLine, Line, tender, bid, reserve, tender_line, reserve_lines, head_lines}
use Rattle.reader_text.specs.Read.{accepted, refused, rows_from, all_windows, bids_of, tender_fault, judged_by, checked, tables}
use Rattle.reader_text.specs.Read.{Head, begun, halted, tender_with, reserve_in, Unreserved, head_of, after_head, read_lines}
use Rattle.reader_text.proofs.FaultLaws.{sound_faultless, faultless_sound}
use Rattle.reader_text.proofs.ReadLaws.{never, checked_out, checked_bids}

-- what reading answers, by the head

pub lines_halted : (ls : List (Option Line)) (r : Refusal) → head_of ls ≡ halted r → read_lines ls ≡ refused r
unfolding read_lines after_head
lines_halted ls r e = ap after_head e

pub lines_begun : (ls : List (Option Line)) (T : Tender) (from : ℕ) (rest : List (Option Line)) → head_of ls ≡ begun T from rest
    → read_lines ls ≡ checked T from [] rest (tables T (bids_of rest))
unfolding read_lines after_head
lines_begun ls T from rest e = ap after_head e

-- by the first line

pub no_line : head_of [] ≡ halted (BadForm 1)
unfolding head_of
no_line = refl

pub broken_first : (ls : List (Option Line)) → head_of (none ∷ ls) ≡ halted (BadForm 1)
unfolding head_of
broken_first ls = refl

pub bid_first : (b : BidLine) (ls : List (Option Line)) → head_of (some (bid b) ∷ ls) ≡ halted (BadForm 1)
unfolding head_of
bid_first b ls = refl

pub reserve_first : (p : ℕ) (ls : List (Option Line)) → head_of (some (reserve p) ∷ ls) ≡ halted (BadForm 1)
unfolding head_of
reserve_first p ls = refl

pub tender_first : (t : TenderLine) (ls : List (Option Line))
    → head_of (some (tender t) ∷ ls) ≡ judged_by halted (tender_fault t) 1 (reserve_in t 2 ls)
unfolding head_of
tender_first t ls = refl

pub tender_faulty : (t : TenderLine) (f : ℕ → Refusal) (ls : List (Option Line)) → tender_fault t ≡ some f
    → head_of (some (tender t) ∷ ls) ≡ halted (f 1)
unfolding judged_by
tender_faulty t f ls e = tender_first t ls ∙ ap (λ o. judged_by halted o 1 (reserve_in t 2 ls)) e

pub tender_faultless : (t : TenderLine) (ls : List (Option Line)) → tender_fault t ≡ none
    → head_of (some (tender t) ∷ ls) ≡ reserve_in t 2 ls
unfolding judged_by
tender_faultless t ls e = tender_first t ls ∙ ap (λ o. judged_by halted o 1 (reserve_in t 2 ls)) e

pub tender_read : (t : TenderLine) (ls : List (Option Line))
    → read_lines (some (tender t) ∷ ls) ≡ judged_by refused (tender_fault t) 1 (after_head (reserve_in t 2 ls))
unfolding read_lines head_of judged_by after_head
tender_read t ls = go (tender_fault t)
  where
    go : (f : Option (ℕ → Refusal))
        → after_head (judged_by halted f 1 (reserve_in t 2 ls)) ≡ judged_by refused f 1 (after_head (reserve_in t 2 ls))
    go none = refl
    go (some f) = refl

-- by the next line

pub bids_unreserved : (bs : List BidLine) → Unreserved (map (λ b. some (bid b)) bs)
bids_unreserved [] = tt
bids_unreserved (b ∷ bs) = tt

module _ (t : TenderLine) (at : ℕ) where
  pub reserve_absent : (ls : List (Option Line)) → Unreserved ls → reserve_in t at ls ≡ begun (tender_with t None) at ls
  unfolding reserve_in
  reserve_absent [] u = refl
  reserve_absent (none ∷ ls) u = refl
  reserve_absent (some (tender s) ∷ ls) u = refl
  reserve_absent (some (bid b) ∷ ls) u = refl
  reserve_absent (some (reserve p) ∷ ls) u = absurd u

  pub reserve_taken : (p : ℕ) (ls : List (Option Line)) → p ≤ 100000000
      → reserve_in t at (some (reserve p) ∷ ls) ≡ begun (tender_with t (Some p)) (at + 1) ls
  unfolding reserve_in
  reserve_taken p ls l = rw (le-leb p 100000000 l)

  pub reserve_high : (p : ℕ) (ls : List (Option Line)) → 100000000 < p
      → reserve_in t at (some (reserve p) ∷ ls) ≡ halted (OutsideLimits at)
  unfolding reserve_in
  reserve_high p ls l = rw (lt-leb p 100000000 l)

-- lines without a reserve's line have the head that the tender's line alone gives
pub unreserved_head : (t : TenderLine) (ls : List (Option Line)) → Unreserved ls
    → head_of (some (tender t) ∷ ls) ≡ judged_by halted (tender_fault t) 1 (begun (tender_with t None) 2 ls)
unreserved_head t ls u = tender_first t ls ∙ ap (judged_by halted (tender_fault t) 1) (reserve_absent t 2 ls u)

-- the lines of a head

pub head_few : (T : Tender) → length (head_lines T) ≤ 2
unfolding head_lines reserve_lines
head_few T = go T.reserve
  where
    go : (r : Reserve) → suc (length (reserve_lines r)) ≤ 2
    go None = omega arith
    go (Some p) = omega arith

pub head_bids : (T : Tender) (ls : List (Option Line)) → bids_of (map (λ l. some l) (head_lines T) ++ ls) ≡ bids_of ls
unfolding head_lines reserve_lines bids_of
head_bids T ls = go T.reserve
  where
    go : (r : Reserve) → bids_of (map (λ l. some l) (reserve_lines r) ++ ls) ≡ bids_of ls
    go None = refl
    go (Some p) = refl

-- the lines of a sound tender are a head, where no reserve's line stands after a tender without one
pub head_of_lem : (T : Tender) (rest : List (Option Line)) → sound_tender T ≡ true → (T.reserve ≡ None → Unreserved rest)
    → head_of (map (λ l. some l) (head_lines T) ++ rest) ≡ begun T (length (head_lines T) + 1) rest
unfolding head_lines reserve_lines lawful_reserve
head_of_lem T rest e u =
    let s = sound_faultless (tender_line T) T.reserve e in
    tender_faultless (tender_line T) (map (λ l. some l) (reserve_lines T.reserve) ++ rest) s.0 ∙ go T.reserve s.1 u
  where
    go : (r : Reserve) → lawful_reserve r ≡ true → (r ≡ None → Unreserved rest) →
        reserve_in (tender_line T) 2 (map (λ l. some l) (reserve_lines r) ++ rest)
        ≡ begun (tender_with (tender_line T) r) (suc (length (reserve_lines r)) + 1) rest
    go None l v = reserve_absent (tender_line T) 2 rest (v refl)
    go (Some p) l v = reserve_taken (tender_line T) 2 p rest (leb-true p 100000000 l)

pub record HeadIs (ls : List (Option Line)) (T : Tender) (from : ℕ) (rest : List (Option Line)) : Type 0 where
  pub lines : ls ≡ map (λ l. some l) (head_lines T) ++ rest
  pub number : from ≡ length (head_lines T) + 1
  pub bids : bids_of ls ≡ bids_of rest
  pub sound : sound_tender T ≡ true

-- a head that has ended before the lines ls
ended : (t : TenderLine) (r : Reserve) (n : ℕ) (ls : List (Option Line)) (T : Tender) (from : ℕ) (rest : List (Option Line))
    → tender_fault t ≡ none → lawful_reserve r ≡ true → n ≡ length (head_lines (tender_with t r)) + 1
    → begun (tender_with t r) n ls ≡ begun T from rest → HeadIs (map (λ l. some l) (head_lines (tender_with t r)) ++ ls) T from rest
ended t r n ls T from rest q l m h =
    let same : tender_with t r ≡ T = cc in
    let e : ls ≡ rest = cc in
    let k : n ≡ from = cc in
    record {
      lines = ap (λ u. map (λ l. some l) (head_lines u) ++ ls) same ∙ ap (λ r. map (λ l. some l) (head_lines T) ++ r) e;
      number = sym k ∙ m ∙ ap (λ u. length (head_lines u) + 1) same;
      bids = head_bids (tender_with t r) ls ∙ ap bids_of e;
      sound = ap sound_tender (sym same) ∙ faultless_sound t r q l;
    }

reserve_is : (t : TenderLine) (ls : List (Option Line)) (T : Tender) (from : ℕ) (rest : List (Option Line)) → tender_fault t ≡ none
    → reserve_in t 2 ls ≡ begun T from rest → HeadIs (some (tender t) ∷ ls) T from rest
unfolding reserve_in head_lines reserve_lines lawful_reserve
reserve_is t [] T from rest q h = ended t None 2 [] T from rest q refl refl h
reserve_is t (none ∷ ls) T from rest q h = ended t None 2 (none ∷ ls) T from rest q refl refl h
reserve_is t (some (tender s) ∷ ls) T from rest q h = ended t None 2 (some (tender s) ∷ ls) T from rest q refl refl h
reserve_is t (some (bid b) ∷ ls) T from rest q h = ended t None 2 (some (bid b) ∷ ls) T from rest q refl refl h
reserve_is t (some (reserve p) ∷ ls) T from rest q h = go (leb p 100000000) refl h
  where
    go : (b : Bool) → leb p 100000000 ≡ b
        → cond b (begun (tender_with t (Some p)) 3 ls) (halted (OutsideLimits 2)) ≡ begun T from rest
        → HeadIs (some (tender t) ∷ some (reserve p) ∷ ls) T from rest
    go true l x = ended t (Some p) 3 ls T from rest q l refl x
    go false l x = let z : ◌≡◌ {A = ℕ} 0 1 = cc in absurd (omega arith)

pub head_is : (ls : List (Option Line)) (T : Tender) (from : ℕ) (rest : List (Option Line)) → head_of ls ≡ begun T from rest
    → HeadIs ls T from rest
unfolding head_of judged_by
head_is [] T from rest e = let z : ◌≡◌ {A = ℕ} 0 1 = cc in absurd (omega arith)
head_is (none ∷ ls) T from rest e = let z : ◌≡◌ {A = ℕ} 0 1 = cc in absurd (omega arith)
head_is (some (bid b) ∷ ls) T from rest e = let z : ◌≡◌ {A = ℕ} 0 1 = cc in absurd (omega arith)
head_is (some (reserve p) ∷ ls) T from rest e = let z : ◌≡◌ {A = ℕ} 0 1 = cc in absurd (omega arith)
head_is (some (tender t) ∷ ls) T from rest e = go (tender_fault t) refl e
  where
    go : (f : Option (ℕ → Refusal)) → tender_fault t ≡ f → judged_by halted f 1 (reserve_in t 2 ls) ≡ begun T from rest
        → HeadIs (some (tender t) ∷ ls) T from rest
    go none q h = reserve_is t ls T from rest q h
    go (some f) q h = let z : ◌≡◌ {A = ℕ} 0 1 = cc in absurd (omega arith)

-- it has few lines
pub head_short : (ls : List (Option Line)) (T : Tender) (from : ℕ) (rest : List (Option Line)) → head_of ls ≡ begun T from rest
    → from ≤ 65536
head_short ls T from rest e = omega (arith, (head_is ls T from rest e).number, head_few T)

-- a bid's line stands after the head, which does not depend on the bid
pub record BidAfter (head : List (Option Line) → Head) (xs ys : List (Option Line)) (T : Tender) (from : ℕ)
    (rest : List (Option Line)) (b : BidLine) : Type 0 where
  pub between : List (Option Line)
  pub rest_is : rest ≡ between ++ some (bid b) ∷ ys
  pub any : (c : BidLine) → head (xs ++ some (bid c) ∷ ys) ≡ begun T from (between ++ some (bid c) ∷ ys)

-- the head ends before zs, whatever the bid
ends_before : (head : List (Option Line) → Head) (xs zs ys : List (Option Line)) (U T : Tender) (n from : ℕ)
    (rest : List (Option Line)) (b : BidLine)
    → ((c : BidLine) → head (xs ++ some (bid c) ∷ ys) ≡ begun U n (zs ++ some (bid c) ∷ ys))
    → begun U n (zs ++ some (bid b) ∷ ys) ≡ begun T from rest → BidAfter head xs ys T from rest b
ends_before head xs zs ys U T n from rest b h e =
    let same : U ≡ T = cc in
    let k : n ≡ from = cc in
    record {
      between = zs;
      rest_is = cc;
      any = λ c. h c ∙ ap (λ u. begun u n (zs ++ some (bid c) ∷ ys)) same ∙ ap (λ i. begun T i (zs ++ some (bid c) ∷ ys)) k;
    }

module _ (t : TenderLine) (at : ℕ) where
  -- before the first bid there is no reserve's line, or there is
  reserve_before : (xs ys : List (Option Line)) (T : Tender) (from : ℕ) (rest : List (Option Line)) (b : BidLine)
      → reserve_in t at (xs ++ some (bid b) ∷ ys) ≡ begun T from rest → BidAfter (reserve_in t at) xs ys T from rest b
  unfolding reserve_in
  reserve_before [] ys T from rest b e =
      ends_before (reserve_in t at) [] [] ys (tender_with t None) T at from rest b (λ c. refl) e
  reserve_before (none ∷ xs) ys T from rest b e =
      ends_before (reserve_in t at) (none ∷ xs) (none ∷ xs) ys (tender_with t None) T at from rest b (λ c. refl) e
  reserve_before (some (tender s) ∷ xs) ys T from rest b e =
      let zs = some (tender s) ∷ xs in
      ends_before (reserve_in t at) zs zs ys (tender_with t None) T at from rest b (λ c. refl) e
  reserve_before (some (bid d) ∷ xs) ys T from rest b e =
      let zs = some (bid d) ∷ xs in
      ends_before (reserve_in t at) zs zs ys (tender_with t None) T at from rest b (λ c. refl) e
  reserve_before (some (reserve p) ∷ xs) ys T from rest b e = go (leb p 100000000) refl e
    where
      go : (s : Bool) → leb p 100000000 ≡ s
          → cond s (begun (tender_with t (Some p)) (at + 1) (xs ++ some (bid b) ∷ ys)) (halted (OutsideLimits at))
          ≡ begun T from rest
          → BidAfter (reserve_in t at) (some (reserve p) ∷ xs) ys T from rest b
      go true l x = ends_before (reserve_in t at) (some (reserve p) ∷ xs) xs ys (tender_with t (Some p)) T (at + 1) from rest b
          (λ c. reserve_taken t at p (xs ++ some (bid c) ∷ ys) (leb-true p 100000000 l)) x
      go false l x = let z : ◌≡◌ {A = ℕ} 0 1 = cc in absurd (omega arith)

pub head_before : (xs ys : List (Option Line)) (T : Tender) (from : ℕ) (rest : List (Option Line)) (b : BidLine)
    → head_of (xs ++ some (bid b) ∷ ys) ≡ begun T from rest → BidAfter head_of xs ys T from rest b
unfolding head_of judged_by
head_before [] ys T from rest b e = let z : ◌≡◌ {A = ℕ} 0 1 = cc in absurd (omega arith)
head_before (none ∷ xs) ys T from rest b e = let z : ◌≡◌ {A = ℕ} 0 1 = cc in absurd (omega arith)
head_before (some (bid d) ∷ xs) ys T from rest b e = let z : ◌≡◌ {A = ℕ} 0 1 = cc in absurd (omega arith)
head_before (some (reserve p) ∷ xs) ys T from rest b e = let z : ◌≡◌ {A = ℕ} 0 1 = cc in absurd (omega arith)
head_before (some (tender t) ∷ xs) ys T from rest b e = go (tender_fault t) refl e
  where
    go : (f : Option (ℕ → Refusal)) → tender_fault t ≡ f
        → judged_by halted f 1 (reserve_in t 2 (xs ++ some (bid b) ∷ ys)) ≡ begun T from rest
        → BidAfter head_of (some (tender t) ∷ xs) ys T from rest b
    go none q h =
        let k = reserve_before t 2 xs ys T from rest b h in
        record {
          between = k.between;
          rest_is = k.rest_is;
          any = λ c. tender_faultless t (xs ++ some (bid c) ∷ ys) q ∙ k.any c;
        }
    go (some f) q h = let z : ◌≡◌ {A = ℕ} 0 1 = cc in absurd (omega arith)

-- all lines are of the form

abbrev pub AllRead : List (Option Line) → Type 0
AllRead [] = Unit {0}
AllRead (none ∷ ls) = ⊥
AllRead (some x ∷ ls) = AllRead ls

read_front : (above : List Line) (ls : List (Option Line)) → AllRead ls → AllRead (map (λ l. some l) above ++ ls)
read_front [] ls a = a
read_front (x ∷ above) ls a = read_front above ls a

bids_read : (bs : List BidLine) → AllRead (map (λ b. some (bid b)) bs)
bids_read [] = tt
bids_read (b ∷ bs) = bids_read bs

pub read_at : (xs : List (Option Line)) (x : Option Line) (ys : List (Option Line)) → AllRead (xs ++ x ∷ ys)
    → (l : Line) × (x ≡ some l)
read_at [] none ys a = absurd a
read_at [] (some l) ys a = (l, refl)
read_at (none ∷ xs) x ys a = absurd a
read_at (some y ∷ xs) x ys a = read_at xs x ys a

-- accepted lines

module _ (T : Tender) (R : List Row) (W : List Window) where
  pub record Begun (ls : List (Option Line)) : Type 0 where
    pub from : ℕ
    pub rest : List (Option Line)
    pub head : head_of ls ≡ begun T from rest
    pub sound : checked T from [] rest (tables T (bids_of rest)) ≡ accepted T R W
    pub bids : rest ≡ map (λ b. some (bid b)) (bids_of rest)
    pub rows : R ≡ rows_from 0 (bids_of rest)
    pub windows : W ≡ all_windows (bids_of rest)

  -- they have a head, and the tables hold the bids of the lines after it
  pub accepted_head : (ls : List (Option Line)) → read_lines ls ≡ accepted T R W → Begun ls
  unfolding read_lines after_head tables
  accepted_head ls e = go (head_of ls) refl e
    where
      go : (h : Head) → head_of ls ≡ h → after_head h ≡ accepted T R W → Begun ls
      go (halted r) q x = never x
      go (begun t from rest) q x =
          let o : tables t (bids_of rest) ≡ accepted T R W = checked_out T R W t from [] rest (tables t (bids_of rest)) x in
          let same : t ≡ T = cc in
          record {
            from = from;
            rest = rest;
            head = q ∙ ap (λ u. begun u from rest) same;
            sound = rw same at x;
            bids = checked_bids T R W t from [] rest (tables t (bids_of rest)) x;
            rows = cc;
            windows = cc;
          }

  pub accepted_read : (ls : List (Option Line)) → Begun ls → AllRead ls
  accepted_read ls g =
      let i = head_is ls T g.from g.rest g.head in
      let r : AllRead g.rest = rw g.bids (bids_read (bids_of g.rest)) in
      rw i.lines (read_front (head_lines T) g.rest r)
