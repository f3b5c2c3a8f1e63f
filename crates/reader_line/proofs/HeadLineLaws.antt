-- What is read of a line of a head: the tender's or the reserve's, and nothing where the line is a bid's. Assumes nothing.
use Rattle.std.specs.Prelude.{ℕ, ◌+◌, ◌≤◌, ◌<◌, ◌≡◌, refl, Bool, cond, length, drop, get_or, eqb}
use Rattle.std.proofs.Common.{sym, ap, ◌∙◌, arith}
use mathlib.Core.List.{List, [], ◌∷◌, ◌++◌}
use Rattle.std.proofs.Math.Bool.{true, false}
use Rattle.std.proofs.Math.Option.{Option, none, some}
use Rattle.tender.specs.declared.Kind.{Kind}
use Rattle.tender.specs.declared.Kind.TheVariants.{Single, Multi}
use Rattle.tender.specs.Keywords.{bytes, tender_word, bid_word, reserve_word, single_word, multi_word}
use Rattle.reader_parts.specs.Scan.{starts_with, Ended}
use Rattle.reader_parts.proofs.StartsLaws.{other_start}
use Rattle.reader_parts.specs.Front.{Front, got, wrong, onward, past, number_front, price_front, span_front}
use Rattle.reader_forms.specs.Line.{Line, line_of}
use Rattle.reader_forms.specs.LineFront.{first_line, next_lines, fronted, ending, windows_front, bid_front, reserve_front, after_word}
use Rattle.reader_forms.specs.LineFront.{kind_front, tender_front, line_front}
use Rattle.reader_line.proofs.LinePlaceLaws.{line_unopened, line_bid, line_tender, line_reserve, line_other}
use Rattle.reader_parts.specs.Answer.{Reading, read_place}
use Rattle.reader_forms.specs.Tally.{noted}
use Rattle.reader_line.specs.Answer.{noted_front, told_front, told_line, EndsAfter, head_line}
use Rattle.reader_line.proofs.AnswerLaws.{fronted_value, line_is, told_as, told_after}
use Rattle.reader_line.specs.declared.line.Line as line

-- a line that is read, where it is one of a head
unfoldable pub head_front : Front Line → Front Line
unfolding onward fronted head_line
head_front x = onward x (λ l r. fronted (head_line (some l)) r)

head_fronted : (o : Option Line) (t : List ℕ) → head_front (fronted o t) ≡ fronted (head_line o) t
unfolding head_front fronted onward head_line
head_fronted none t = refl
head_fronted (some l) t = refl

-- what holds of whatever is read on

module _ (P : Front Line → Type 0) (w : P wrong) where
  onward_all : {A : Type 0} (x : Front A) (f : A → List ℕ → Front Line) → ((a : A) (r : List ℕ) → P (f a r)) → P (onward x f)
  unfolding onward
  onward_all (got a r) f h = h a r
  onward_all wrong f h = w

  past_all : (d : ℕ) (s : List ℕ) (f : List ℕ → Front Line) → ((r : List ℕ) → P (f r)) → P (past d s f)
  unfolding past
  past_all d [] f h = w
  past_all d (b ∷ s) f h = go (eqb b d)
    where
      go : (t : Bool) → P (cond t (f s) wrong)
      go true = h s
      go false = w

after_all : (P : Front Line → Type 0) (v s : List ℕ) (f : List ℕ → Front Line) (other : Front Line)
    → ((r : List ℕ) → P (f r)) → P other → P (after_word v s f other)
unfolding after_word
after_all P [] s f other h o = h s
after_all P (d ∷ v) [] f other h o = o
after_all P (d ∷ v) (b ∷ s) f other h o = go (eqb b d) (after_all P v s f other h o)
  where
    go : (t : Bool) → P (after_word v s f other) → P (cond t (after_word v s f other) other)
    go true x = x
    go false x = o

-- the tender's line and the reserve's stay, and a bid's does not

abbrev Stays : Front Line → Type 0
Stays x = head_front x ≡ x

wrong_stays : Stays wrong
unfolding head_front onward
wrong_stays = refl

kind_stays : (k : Kind) (s : List ℕ) → Stays (kind_front k s)
unfolding kind_front head_front onward fronted head_line
kind_stays k s = onward_all Stays wrong_stays (span_front s) _ (λ w r. past_all Stays wrong_stays 10 r _ (λ t. refl))

tender_stays : (s : List ℕ) → Stays (tender_front s)
unfolding tender_front
tender_stays s =
    after_all Stays (single_word ++ 32 ∷ []) s (kind_front Single) _ (kind_stays Single)
    (after_all Stays (multi_word ++ 32 ∷ []) s (kind_front Multi) wrong (kind_stays Multi) wrong_stays)

reserve_stays : (s : List ℕ) → Stays (reserve_front s)
unfolding reserve_front ending head_front onward fronted head_line
reserve_stays s = onward_all Stays wrong_stays (price_front s) _
    (λ v r. past_all Stays wrong_stays 41 r _ (λ t. past_all Stays wrong_stays 10 t _ (λ u. refl)))

abbrev Goes : Front Line → Type 0
Goes x = head_front x ≡ wrong

bid_goes : (s : List ℕ) → Goes (bid_front s)
unfolding bid_front head_front onward fronted head_line
bid_goes s = onward_all Goes wrong_stays (number_front s) _ (λ y r. past_all Goes wrong_stays 32 r _
    (λ t. onward_all Goes wrong_stays (price_front t) _ (λ v u. onward_all Goes wrong_stays (windows_front u) _ (λ ws x. refl))))

-- by the keyword that stands next

reserve_not_bid : (s : List ℕ) → starts_with (reserve_word ++ 32 ∷ []) s ≡ true → starts_with (bid_word ++ 32 ∷ []) s ≡ false
unfolding bid_word reserve_word bytes
reserve_not_bid s e = other_start s _ _ 114 98 (λ x. omega (arith, x)) e

module _ (s : List ℕ) (i : ℕ) (h : i < length s) where
  pub head_unopened : (get_or s i 0 ≡ 40 → ⊥) → head_front (line_front (drop i s)) ≡ wrong
  head_unopened n = ap head_front (line_unopened s i h n) ∙ wrong_stays

  module _ (b : get_or s i 0 ≡ 40) where
    pub head_tender : starts_with (tender_word ++ 32 ∷ []) (drop (i + 1) s) ≡ true
        → head_front (line_front (drop i s)) ≡ tender_front (drop (i + 8) s)
    head_tender e = ap head_front (line_tender s i h b e) ∙ tender_stays (drop (i + 8) s)

    module _ (n : starts_with (tender_word ++ 32 ∷ []) (drop (i + 1) s) ≡ false) where
      pub head_reserve : starts_with (reserve_word ++ 32 ∷ []) (drop (i + 1) s) ≡ true
          → head_front (line_front (drop i s)) ≡ reserve_front (drop (i + 9) s)
      head_reserve e =
          ap head_front (line_reserve s i h b (reserve_not_bid (drop (i + 1) s) e) n e) ∙ reserve_stays (drop (i + 9) s)

      pub head_neither : starts_with (reserve_word ++ 32 ∷ []) (drop (i + 1) s) ≡ false → head_front (line_front (drop i s)) ≡ wrong
      head_neither e = go (starts_with (bid_word ++ 32 ∷ []) (drop (i + 1) s)) refl
        where
          go : (t : Bool) → starts_with (bid_word ++ 32 ∷ []) (drop (i + 1) s) ≡ t → head_front (line_front (drop i s)) ≡ wrong
          go true x = ap head_front (line_bid s i h b x) ∙ bid_goes (drop (i + 5) s)
          go false x = ap head_front (line_other s i h b x n e) ∙ wrong_stays

    -- where no bid's line stands it is one of a head, or none
    unbid_stays : starts_with (bid_word ++ 32 ∷ []) (drop (i + 1) s) ≡ false → Stays (line_front (drop i s))
    unbid_stays m = go (starts_with (tender_word ++ 32 ∷ []) (drop (i + 1) s)) refl
        (starts_with (reserve_word ++ 32 ∷ []) (drop (i + 1) s)) refl
      where
        go : (t : Bool) → starts_with (tender_word ++ 32 ∷ []) (drop (i + 1) s) ≡ t
            → (u : Bool) → starts_with (reserve_word ++ 32 ∷ []) (drop (i + 1) s) ≡ u → Stays (line_front (drop i s))
        go true x u y = rw (line_tender s i h b x) (tender_stays (drop (i + 8) s))
        go false x true y = rw (line_reserve s i h b m x y) (reserve_stays (drop (i + 9) s))
        go false x false y = rw (line_other s i h b m x y) wrong_stays

  -- what is read is what the line tells
  module _ (ended : Ended s) where
    head_is : head_front (line_front (drop i s)) ≡ fronted (head_line (line_of (first_line (drop i s)))) (next_lines (drop i s))
    head_is = ap head_front (line_is s i h ended) ∙ head_fronted (line_of (first_line (drop i s))) (next_lines (drop i s))

    module _ (x : Front Line) (e : head_front (line_front (drop i s)) ≡ x) (r : Reading line.Line)
        (q : (m : ℕ) (table : List ℕ) → told_front s r table ≡ noted_front m table x)
      where
        fronts : (m : ℕ) (table : List ℕ)
            → told_front s r table ≡ noted_front m table (fronted (head_line (line_of (first_line (drop i s)))) (next_lines (drop i s)))
        fronts m table = q m table ∙ ap (noted_front m table) (sym e ∙ head_is)

        pub head_told : (m : ℕ) (table : List ℕ) → told_line r table ≡ noted m table (head_line (line_of (first_line (drop i s))))
        head_told m table = told_as s i h ended m table table _ r (fronts m table)

        pub head_after : read_place r ≤ length s → EndsAfter s i r
        head_after = told_after s i h ended 0 [] [] _ r (fronts 0 [])

    pub line_unbid : get_or s i 0 ≡ 40 → starts_with (bid_word ++ 32 ∷ []) (drop (i + 1) s) ≡ false
        → head_line (line_of (first_line (drop i s))) ≡ line_of (first_line (drop i s))
    line_unbid b m = let t = next_lines (drop i s) in
        fronted_value _ _ t t (sym head_is ∙ unbid_stays b m ∙ line_is s i h ended)
