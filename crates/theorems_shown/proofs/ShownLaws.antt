-- What a list shows: each number reads back, and of each bid the row that the award gave it. Assumes nothing.
use Rattle.std.specs.Prelude.{◌≡◌, ◌&&◌, ◌||◌, length, get_or, eqb, Some, None}
use Rattle.std.proofs.Math.Path.{refl, ap}
use Rattle.std.proofs.Common.{sym, ◌∙◌, arith, eq-eqb, eqb-true, ne_eqb}
use Rattle.std.proofs.Math.Bool.{Bool, true, false, cond}
use mathlib.Core.List.{List, [], ◌∷◌, ◌++◌, append-nil, append_assoc}
use Rattle.std.proofs.Math.Option.{none, some}
use Prim.Native.Nat.{ℕ, zero, suc, ◌^◌, ◌≤◌, ◌<◌}
use Rattle.std.proofs.lemmas.Bool.{eqb-false}
use Rattle.tender.specs.declared.Kind.{Kind}
use Rattle.tender.specs.declared.Kind.TheVariants.{Single, Multi}
use Rattle.tender.specs.Types.{Reserve}
use Rattle.tender.specs.declared.Tender.{Tender}
use Rattle.tender.specs.declared.AwardRow.{AwardRow}
use Rattle.tender.specs.declared.Totals.{Totals}
use Rattle.tender.specs.declared.Refusal.{Refusal}
use Rattle.tender.specs.Refusals.{number_of, place_of}
use Rattle.tender.specs.Keywords.{bytes, single_word, multi_word}
use Rattle.tender.specs.Tables.{Row}
use Rattle.reader_parts.specs.Words.{and_then, grow_first, cut, among, equal_bytes, closed, digits}
use Rattle.reader_parts.proofs.CutLaws.{cut_end}
use Rattle.award_check.specs.Cells.{no_row}
use Rattle.award_rule.specs.Award.{awarded}
use Rattle.award_outcome.specs.Gain.{lost}
use Rattle.spelling.specs.Decimal.{decimal}
use Rattle.spelling.specs.Lines.{closing, numbers, pair_line, one_line, kind_word, refused_word, refused_line}
use Rattle.spelling.proofs.LineLaws.{refused_line_lem}
use Rattle.listing_text.specs.Lines.{award_word, win_word, house_word, total_word, award_line, house_line, last_lines}
use Rattle.listing_text.specs.List.{win_list, list_lines}
use Rattle.spelling.proofs.DecimalLaws.{decimal_back, decimal_plain}
use Rattle.reader_parts.proofs.GivenLaws.{same_is}
use Rattle.theorems_shown.specs.ListRead.{last_number, win_on, row_or, row_among, row_shown}

-- a line without its byte 10

bare : List ℕ → ℕ → ℕ → List ℕ
bare word a b = (40 ∷ word) ++ 32 ∷ (decimal a ++ 32 ∷ (decimal b ++ 41 ∷ []))

pair_bare : (word : List ℕ) (a b : ℕ) (rest : List ℕ) → pair_line word a b ++ rest ≡ bare word a b ++ 10 ∷ rest
unfolding pair_line numbers closing bytes bare
pair_bare word a b rest =
    ap (λ l. ((40 ∷ word) ++ 32 ∷ l) ++ rest) (append_assoc (decimal a) (32 ∷ decimal b) (41 ∷ 10 ∷ [])
    ∙ ap (λ l. decimal a ++ 32 ∷ l) (sym (append_assoc (decimal b) (41 ∷ []) (10 ∷ []))))
    ∙ ap (λ l. ((40 ∷ word) ++ 32 ∷ l) ++ rest) (sym (append_assoc (decimal a) (32 ∷ (decimal b ++ 41 ∷ [])) (10 ∷ [])))
    ∙ ap (λ l. l ++ rest) (sym (append_assoc (40 ∷ word) (32 ∷ (decimal a ++ 32 ∷ (decimal b ++ 41 ∷ []))) (10 ∷ [])))
    ∙ append_assoc (bare word a b) (10 ∷ []) rest

plain_append : (d : ℕ) (x y : List ℕ) → among d x ≡ false → among d y ≡ false → among d (x ++ y) ≡ false
unfolding among
plain_append d [] y h k = k
plain_append d (b ∷ x) y h k = go (eqb b d) h (plain_append d x y)
  where
    go : (t : Bool) → t || among d x ≡ false → (among d x ≡ false → among d y ≡ false → among d (x ++ y) ≡ false)
        → t || among d (x ++ y) ≡ false
    go true e f = let z : ◌≡◌ {A = ℕ} 0 1 = cc in absurd (omega arith)
    go false e f = f e k

bare_plain : (word : List ℕ) (a b : ℕ) → among 10 word ≡ false → among 10 (bare word a b) ≡ false
unfolding bare among
bare_plain word a b h =
    plain_append 10 word (32 ∷ (decimal a ++ 32 ∷ (decimal b ++ 41 ∷ []))) h
    (plain_append 10 (decimal a) (32 ∷ (decimal b ++ 41 ∷ [])) (decimal_plain 10 a (omega arith))
    (plain_append 10 (decimal b) (41 ∷ []) (decimal_plain 10 b (omega arith)) refl))

pair_cut : (word : List ℕ) (a b : ℕ) (rest : List ℕ) → among 10 word ≡ false
    → cut 10 (pair_line word a b ++ rest) ≡ bare word a b ∷ cut 10 rest
pair_cut word a b rest h = ap (cut 10) (pair_bare word a b rest) ∙ cut_end 10 (bare word a b) rest (bare_plain word a b h)

cut_plain : (s : List ℕ) → among 32 s ≡ false → cut 32 s ≡ s ∷ []
unfolding cut among grow_first
cut_plain [] h = refl
cut_plain (b ∷ s) h = go (eqb b 32) h (cut_plain s)
  where
    go : (t : Bool) → t || among 32 s ≡ false → (among 32 s ≡ false → cut 32 s ≡ s ∷ [])
        → cond t ([] ∷ cut 32 s) (grow_first b (cut 32 s)) ≡ (b ∷ s) ∷ []
    go true e f = let z : ◌≡◌ {A = ℕ} 0 1 = cc in absurd (omega arith)
    go false e f = ap (grow_first b) (f e)

-- the words of a line (word a b)
bare_words : (word : List ℕ) (a b : ℕ) → among 32 word ≡ false →
    cut 32 (bare word a b) ≡ (40 ∷ word) ∷ decimal a ∷ (decimal b ++ 41 ∷ []) ∷ []
unfolding bare among
bare_words word a b h =
    cut_end 32 (40 ∷ word) (decimal a ++ 32 ∷ (decimal b ++ 41 ∷ [])) h
    ∙ ap (λ r. (40 ∷ word) ∷ r) (cut_end 32 (decimal a) (decimal b ++ 41 ∷ []) (decimal_plain 32 a (omega arith))
    ∙ ap (λ r. decimal a ∷ r) (cut_plain (decimal b ++ 41 ∷ [])
    (plain_append 32 (decimal b) (41 ∷ []) (decimal_plain 32 b (omega arith)) refl)))

closed_back : (s : List ℕ) → closed (s ++ 41 ∷ []) ≡ some s
unfolding closed and_then
closed_back [] = refl
closed_back (b ∷ []) = refl
closed_back (b ∷ c ∷ s) = rw (closed_back (c ∷ s))

-- the last number of a line reads back
last_back : (ws : List (List ℕ)) (word : List ℕ) (a b : ℕ) → ws ≡ (40 ∷ word) ∷ decimal a ∷ (decimal b ++ 41 ∷ [])
    ∷ [] → b < 10 ^ 20
    → last_number ws ≡ some b
unfolding last_number and_then
last_back ws word a b e l = ap last_number e ∙ ap (λ o. and_then o (digits 0)) (closed_back (decimal b)) ∙ decimal_back b l

-- the row of a bidder, line by line

same_self : (s : List ℕ) → equal_bytes s s ≡ true
unfolding equal_bytes
same_self [] = refl
same_self (b ∷ s) = rw (eq-eqb b b refl, same_self s)

number_same : (a n : ℕ) → a < 10 ^ 20 → n < 10 ^ 20 → equal_bytes (decimal a) (decimal n) ≡ eqb a n
number_same a n l m = go (equal_bytes (decimal a) (decimal n)) refl (eqb a n) refl
  where
    go : (s : Bool) → equal_bytes (decimal a) (decimal n) ≡ s → (t : Bool) → eqb a n ≡ t → s ≡ t
    go true e true f = refl
    go false e false f = refl
    go true e false f =
        let h : some a ≡ some n = sym (decimal_back a l) ∙ ap (digits 0) (same_is (decimal a) (decimal n) e) ∙ decimal_back n m in
        absurd (eqb-false a n f (cc))
    go false e true f =
        let h : true ≡ false = sym (same_self (decimal a)) ∙ ap (λ k. equal_bytes (decimal a) (decimal k)) (eqb-true a n f) ∙ e in
        let z : ◌≡◌ {A = ℕ} 0 1 = cc in absurd (omega arith)

-- the words of an award's first line

abbrev award_kind : Kind → List ℕ
award_kind k = award_word ++ (32 ∷ kind_word k)

award_plain : (k : Kind) → among 10 (award_kind k) ≡ false
unfolding among award_word kind_word single_word multi_word bytes
award_plain Single = refl
award_plain Multi = refl

award_first : (k : Kind) (a b : ℕ) → get_or (cut 32 (bare (award_kind k) a b)) 0 [] ≡ 40 ∷ award_word
unfolding bare among award_word bytes
award_first k a b =
    let end : List ℕ = 32 ∷ (decimal a ++ 32 ∷ (decimal b ++ 41 ∷ [])) in
    ap (λ s. get_or (cut 32 s) 0 []) (append_assoc (40 ∷ award_word) (32 ∷ kind_word k) end)
    ∙ ap (λ ws. get_or ws 0 []) (cut_end 32 (40 ∷ award_word) (kind_word k ++ end) refl)

-- a line (word a)

one_bare : List ℕ → ℕ → List ℕ
one_bare word a = (40 ∷ word) ++ 32 ∷ (decimal a ++ 41 ∷ [])

one_cut : (word : List ℕ) (a : ℕ) (rest : List ℕ) → among 10 word ≡ false
    → cut 10 (one_line word a ++ rest) ≡ one_bare word a ∷ cut 10 rest
unfolding one_line closing bytes one_bare among
one_cut word a rest h = ap (cut 10)
    (ap (λ l. l ++ rest) (append_assoc (40 ∷ word) (32 ∷ decimal a) (41 ∷ 10 ∷ []))
    ∙ ap (λ l. ((40 ∷ word) ++ 32 ∷ l) ++ rest) (sym (append_assoc (decimal a) (41 ∷ []) (10 ∷ [])))
    ∙ ap (λ l. l ++ rest) (sym (append_assoc (40 ∷ word) (32 ∷ (decimal a ++ 41 ∷ [])) (10 ∷ [])))
    ∙ append_assoc (one_bare word a) (10 ∷ []) rest)
    ∙ cut_end 10 (one_bare word a) rest (plain_append 10 word (32 ∷ (decimal a ++ 41 ∷ [])) h
    (plain_append 10 (decimal a) (41 ∷ []) (decimal_plain 10 a (omega arith)) refl))

module _ (n : ℕ) (small : n < 10 ^ 20) where
  line_row : (word : List ℕ) (a b : ℕ) (rest : List ℕ) → among 10 word ≡ false →
      row_shown n (pair_line word a b ++ rest) ≡ row_or (win_on n (cut 32 (bare word a b))) (row_shown n rest)
  unfolding row_shown row_among
  line_row word a b rest h = ap (row_among n) (pair_cut word a b rest h)

  -- a line that begins with another word shows no bidder
  other_word : (ws : List (List ℕ)) → equal_bytes (get_or ws 0 []) (40 ∷ win_word) ≡ false → win_on n ws ≡ none
  unfolding win_on
  other_word ws h = rw h

  -- a winner's line
  win_on_lem : (a b : ℕ) (ws : List (List ℕ)) → ws ≡ (40 ∷ win_word) ∷ decimal a ∷ (decimal b ++ 41 ∷ []) ∷ []
      → a < 10 ^ 20 → b < 10 ^ 20
      → win_on n ws ≡ cond (eqb a n) (some b) none
  unfolding win_on
  win_on_lem a b ws e l m =
      let cents = last_number ws in
      ap (λ vs. cond (equal_bytes (get_or vs 0 []) (40 ∷ win_word) && equal_bytes (get_or vs 1 []) (decimal n)) cents none) e
      ∙ ap (λ s. cond (s && equal_bytes (decimal a) (decimal n)) cents none) (same_self (40 ∷ win_word))
      ∙ ap (λ s. cond s cents none) (number_same a n l small)
      ∙ ap (λ o. cond (eqb a n) o none) (last_back ws win_word a b e m)

  win_row : (a b : ℕ) (rest : List ℕ) → a < 10 ^ 20 → b < 10 ^ 20 →
      row_shown n (pair_line win_word a b ++ rest) ≡ cond (eqb a n) (record { won = true; cents = b }) (row_shown n rest)
  unfolding row_or win_word bytes among
  win_row a b rest l m = line_row win_word a b rest refl
      ∙ ap (λ o. row_or o (row_shown n rest)) (win_on_lem a b (cut 32 (bare win_word a b)) (bare_words win_word a b refl) l m)
      ∙ out (eqb a n)
    where
      out : (t : Bool) → row_or (cond t (some b) none) (row_shown n rest) ≡ cond t (record { won = true; cents = b }) (row_shown n rest)
      out true = refl
      out false = refl

  begins : (word : List ℕ) (a b : ℕ) → among 32 word ≡ false → get_or (cut 32 (bare word a b)) 0 [] ≡ 40 ∷ word
  begins word a b h = ap (λ ws. get_or ws 0 []) (bare_words word a b h)

  -- the last line, and that of a refusal
  total_row : (a b : ℕ) (rest : List ℕ) → row_shown n (pair_line total_word a b ++ rest) ≡ row_shown n rest
  unfolding row_or total_word win_word bytes among equal_bytes
  total_row a b rest = line_row total_word a b rest refl
      ∙ ap (λ o. row_or o (row_shown n rest)) (other_word (cut 32 (bare total_word a b)) (rw (begins total_word a b refl) refl))

  -- the house's line
  house_row : (r : Reserve) (w : Bool) (rest : List ℕ) → row_shown n (house_line r w ++ rest) ≡ row_shown n rest
  unfolding house_line row_shown row_among row_or one_bare house_word win_word bytes among equal_bytes
  house_row None w rest = refl
  house_row (Some p) false rest = refl
  house_row (Some p) true rest = ap (row_among n) (one_cut house_word p rest refl)
      ∙ ap (λ o. row_or o (row_shown n rest)) (other_word (cut 32 (one_bare house_word p))
      (ap (λ ws. equal_bytes (get_or ws 0 []) (40 ∷ win_word)) (cut_end 32 (40 ∷ house_word) (decimal p ++ 41 ∷ []) refl)))

  refusal_row : (a b : ℕ) → row_shown n (pair_line refused_word a b) ≡ lost
  unfolding row_or refused_word win_word bytes among equal_bytes row_shown row_among cut win_on
  refusal_row a b = ap (row_shown n) (sym (append-nil (pair_line refused_word a b))) ∙ line_row refused_word a b [] refl
      ∙ ap (λ o. row_or o (row_shown n [])) (other_word (cut 32 (bare refused_word a b)) (rw (begins refused_word a b refl) refl))

  pub refused_row : (r : Refusal) → row_shown n (refused_line r) ≡ lost
  refused_row r = ap (row_shown n) (refused_line_lem r) ∙ refusal_row (number_of r) (place_of r)

  -- the first line
  award_row : (t : Tender) (rest : List ℕ) → row_shown n (award_line t ++ rest) ≡ row_shown n rest
  unfolding award_line row_or award_word win_word bytes equal_bytes
  award_row t rest = line_row (award_kind t.kind) t.window.start t.window.end rest (award_plain t.kind)
      ∙ ap (λ o. row_or o (row_shown n rest)) (other_word (cut 32 (bare (award_kind t.kind) t.window.start t.window.end))
      (rw (award_first t.kind t.window.start t.window.end) refl))

-- the winners' lines
module _ (n : ℕ) (small : n < 10 ^ 20) (R : List Row) (rows : List AwardRow)
    (sizes : (j : ℕ) → j < length R → ((get_or R j no_row).bidder < 10 ^ 20) × ((get_or rows j lost).cents < 10 ^ 20)) where
  line : ℕ → List ℕ
  line j = cond (get_or rows j lost).won (pair_line win_word (get_or R j no_row).bidder (get_or rows j lost).cents) []

  other_line : (j : ℕ) (rest : List ℕ) → j < length R → ((get_or R j no_row).bidder ≡ n → ⊥)
      → row_shown n (line j ++ rest) ≡ row_shown n rest
  unfolding line
  other_line j rest l d = go (get_or rows j lost).won
    where
      go : (w : Bool) → row_shown n (cond w (pair_line win_word (get_or R j no_row).bidder (get_or rows j lost).cents) [] ++ rest)
          ≡ row_shown n rest
      go false = refl
      go true = win_row n small (get_or R j no_row).bidder (get_or rows j lost).cents rest (sizes j l).0 (sizes j l).1
          ∙ rw (ne_eqb (get_or R j no_row).bidder n d)

  own_line : (j : ℕ) (rest : List ℕ) → j < length R → (get_or R j no_row).bidder ≡ n →
      row_shown n (line j ++ rest) ≡ cond (get_or rows j lost).won (record { won = true; cents = (get_or rows j lost).cents })
      (row_shown n rest)
  unfolding line
  own_line j rest l e = go (get_or rows j lost).won
    where
      go : (w : Bool) → row_shown n (cond w (pair_line win_word (get_or R j no_row).bidder (get_or rows j lost).cents) [] ++ rest)
          ≡ cond w (record { won = true; cents = (get_or rows j lost).cents }) (row_shown n rest)
      go false = refl
      go true = win_row n small (get_or R j no_row).bidder (get_or rows j lost).cents rest (sizes j l).0 (sizes j l).1
          ∙ rw (eq-eqb (get_or R j no_row).bidder n e)

  others : (m : ℕ) → m ≤ length R → ((j : ℕ) → j < m → (get_or R j no_row).bidder ≡ n → ⊥) → (rest : List ℕ)
      → row_shown n (win_list R rows m ++ rest) ≡ row_shown n rest
  unfolding win_list line
  others zero l d rest = refl
  others (suc m) l d rest = ap (row_shown n) (append_assoc (win_list R rows m) (line m) rest)
      ∙ others m (omega arith) (λ j k. d j (omega arith)) (line m ++ rest) ∙ other_line m rest (omega arith) (d m (omega arith))

  own : (m i : ℕ) → m ≤ length R → i < m → (get_or R i no_row).bidder ≡ n
      → ((j : ℕ) → j < length R → (j ≡ i → ⊥) → (get_or R j no_row).bidder ≡ n → ⊥)
      → (rest : List ℕ) → row_shown n (win_list R rows m ++ rest)
      ≡ cond (get_or rows i lost).won (record { won = true; cents = (get_or rows i lost).cents }) (row_shown n rest)
  unfolding win_list line
  own zero i l k e d rest = absurd (omega arith)
  own (suc m) i l k e d rest = ap (row_shown n) (append_assoc (win_list R rows m) (line m) rest)
      ∙ go (eqb m i) refl (λ h. own m i (omega arith) h e d (line m ++ rest))
    where
      shows : Bool → AwardRow → AwardRow
      shows w r = cond w (record { won = true; cents = (get_or rows i lost).cents }) r

      go : (t : Bool) → eqb m i ≡ t →
          (i < m → row_shown n (win_list R rows m ++ (line m ++ rest)) ≡ shows (get_or rows i lost).won (row_shown n (line m ++ rest)))
          → row_shown n (win_list R rows m ++ (line m ++ rest)) ≡ shows (get_or rows i lost).won (row_shown n rest)
      go true f ih =
          let q : m ≡ i = eqb-true m i f in
          others m (omega arith) (λ j h. d j (omega arith) (λ p. omega arith)) (line m ++ rest)
          ∙ own_line m rest (omega arith) (ap (λ j. (get_or R j no_row).bidder) q ∙ e)
          ∙ ap (λ j. cond (get_or rows j lost).won (record { won = true; cents = (get_or rows j lost).cents }) (row_shown n rest)) q
      go false f ih =
          let q = eqb-false m i f in
          ih (omega arith) ∙ ap (shows (get_or rows i lost).won) (other_line m rest (omega arith) (d m (omega arith) q))

kept_row : (r : AwardRow) → (r.won ≡ false → r.cents ≡ 0) → cond r.won (record { won = true; cents = r.cents }) lost ≡ r
unfolding lost
kept_row r h = go r.won refl
  where
    go : (w : Bool) → r.won ≡ w → cond w (record { won = true; cents = r.cents }) (record { won = false; cents = 0 }) ≡ r
    go true e = ap (λ v. record { won = v; cents = r.cents }) (sym e)
    go false e = ap (λ c. record { won = false; cents = c }) (sym (h e)) ∙ ap (λ v. record { won = v; cents = r.cents }) (sym e)

-- of each bid the list shows the row that it was awarded
pub row_shown_lem : (t : Tender) (R : List Row) (rows : List AwardRow) (totals : Totals) (i : ℕ) → i < length R →
    ((j : ℕ) → j < length R → ((get_or R j no_row).bidder < 10 ^ 20) × ((get_or rows j lost).cents < 10 ^ 20)) →
    ((j : ℕ) → j < length R → (j ≡ i → ⊥) → (get_or R j no_row).bidder ≡ (get_or R i no_row).bidder → ⊥) →
    ((get_or rows i lost).won ≡ false → (get_or rows i lost).cents ≡ 0) →
    row_shown (get_or R i no_row).bidder (list_lines t R (awarded rows totals)) ≡ get_or rows i lost
unfolding list_lines last_lines row_shown row_among cut win_on equal_bytes row_or
row_shown_lem t R rows totals i l sizes d h =
    let n = (get_or R i no_row).bidder in
    let s = (sizes i l).0 in
    let total = pair_line total_word totals.cost totals.paid in
    let last = house_line t.reserve totals.house ++ total in
    ap (row_shown n) (append_assoc (award_line t) (win_list R rows (length R)) last)
    ∙ award_row n s t (win_list R rows (length R) ++ last)
    ∙ own n s R rows sizes (length R) i (omega arith) l refl d last
    ∙ ap (λ r. cond (get_or rows i lost).won (record { won = true; cents = (get_or rows i lost).cents }) r)
    (house_row n s t.reserve totals.house total ∙ ap (row_shown n) (sym (append-nil total))
    ∙ total_row n s totals.cost totals.paid [])
    ∙ kept_row (get_or rows i lost) h

-- two such lines are the same only where their first numbers are
pub first_number : (word : List ℕ) (a b c d : ℕ) → among 32 word ≡ false → a < 10 ^ 20 → c < 10 ^ 20
    → pair_line word a b ≡ pair_line word c d → a ≡ c
unfolding pair_line numbers among
first_number word a b c d h l m e =
    let f : some a ≡ some c = sym (decimal_back a l) ∙ sym (second a b) ∙ ap (λ s. digits 0 (get_or (cut 32 s) 1 [])) e
    ∙ second c d
    ∙ decimal_back c m in
    cc
  where
    second : (a b : ℕ) → digits 0 (get_or (cut 32 (pair_line word a b)) 1 []) ≡ digits 0 (decimal a)
    second a b =
        ap (λ r. digits 0 (get_or (cut 32 ((40 ∷ word) ++ 32 ∷ r)) 1 [])) (append_assoc (decimal a) (32 ∷ decimal b) closing)
        ∙ ap (λ ws. digits 0 (get_or ws 1 [])) (cut_end 32 (40 ∷ word) (decimal a ++ 32 ∷ (decimal b ++ closing)) h)
        ∙ ap (λ ws. digits 0 (get_or ws 0 [])) (cut_end 32 (decimal a) (decimal b ++ closing) (decimal_plain 32 a (omega arith)))
