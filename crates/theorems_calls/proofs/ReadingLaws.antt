-- Every call of `read` that keeps its contract answers one reading, and what that says leaves nothing open: it gives the contract
-- back. Assumes nothing.
use Rattle.std.proofs.Math.Path.{◌≡◌, refl, ap}
use Rattle.std.proofs.Common.{sym, ◌∙◌, inl, inr, arith, length-append}
use Rattle.std.specs.Prelude.{◌⊎◌, Bool, true, false, cond, not, ◌&&◌, ◌||◌, leb, ltb, Some, None, Result}
use mathlib.Core.List.{List, [], ◌∷◌, ◌++◌, map, append-nil, append_assoc}
use Rattle.std.proofs.Math.Option.{Option, none, some}
use Prim.Native.Nat.{ℕ, ◌+◌, ◌/◌, ◌≤◌, ◌<◌}
use Rattle.std.proofs.Math.ListN.{length}
use Rattle.std.proofs.lemmas.List.{length-map}
use borrow.Author.Tests.{ltb-true, ltb-false, leb-true, leb-false, le-leb, lt-leb, lt-ltb, le-ltb}
use Rattle.tender.specs.declared.Kind.TheVariants.{Single}
use Rattle.tender.specs.declared.Window.{Window}
use Rattle.tender.specs.Types.{Reserve}
use Rattle.tender.specs.declared.Tender.{Tender}
use Rattle.tender.specs.declared.Refusal.{Refusal}
use Rattle.tender.specs.declared.Refusal.TheVariants.{TextTooLong, BadForm, OutsideLimits, TooMany, EmptyWindow, BidderRepeated}
use Rattle.tender.specs.declared.Refusal.TheVariants.{SeveralWindows, TableTooShort, LateWindow, ReserveMisplaced}
use Rattle.tender.specs.Limits.{as_window, week, within, is_single, ordered, early, every, lawful_reserve}
use Rattle.tender.specs.Refusals.{number_of}
use Rattle.tender.specs.Tables.{Row, bid_width, window_width}
use Rattle.reader_parts.specs.Words.{cut, among}
use Rattle.reader_forms.specs.Line.{TenderLine, BidLine, Line, tender, bid, reserve, tender_line, reserve_lines, head_lines, lines_of}
use Rattle.reader_text.specs.Read.{ReadOutcome, accepted, refused, rows_from, all_windows, bids_of, tender_fault}
use Rattle.reader_text.specs.Read.{bid_fault_in, bid_fault_after, bid_fault, judged_by, checked, tables, tender_with, reserve_in}
use Rattle.reader_text.specs.Read.{Unreserved, after_head, read_lines, read_text, fitted, read_into}
use Rattle.reader_text.proofs.FaultLaws.{faultless_sound}
use Rattle.reader_text.proofs.HeadLaws.{lines_halted, lines_begun, no_line, broken_first, bid_first, reserve_first, tender_read}
use Rattle.reader_text.proofs.HeadLaws.{bids_unreserved, tender_faultless, reserve_absent, reserve_taken, reserve_high, head_of_lem}
use Rattle.reader_fill.specs.declared.Filled.{Filled}
use Rattle.reader.specs.Answer.{read_answer, bids_after, windows_after}
use Rattle.theorems_calls.proofs.VerdictLaws.{refusal_of, says_or, says_and, says_ltb, says_leb, outside, no_minute, past_week, some_window}
use Rattle.theorems_calls.proofs.VerdictLaws.{single, used, first_stands, one_first, Verdict, verdict, clean, stopped_by}
use Rattle.theorems_calls.proofs.MisplacedLaws.{misplaced}
use Rattle.theorems_calls.proofs.SoundLaws.{sound_lines}
use Rattle.theorems_calls.proofs.ReserveLaws.{only_limits, sound_reserve, high_reserve}
use Rattle.theorems_calls.specs.Calls.{ReadRun, ReadKept}
use Rattle.theorems_calls.specs.OneReading.{or_broken, lines_in, Above, at_start, after, lines_above, LineFault, of_form, of_place}
use Rattle.theorems_calls.specs.OneReading.{of_count, of_limits, of_the_kind, of_minutes, of_week, of_bidder, page_order}
use Rattle.theorems_calls.specs.OneReading.{OnLine, OfText}
use Rattle.theorems_calls.specs.OneReading.{FirstAmong, NoFault, SoundBids, SoundReserve, SoundLines, LineOf, place_in}
use Rattle.theorems_calls.specs.OneReading.{FirstOn, Readable, Declines, Fills, OneReading, text_too_long, bad_form}
use Rattle.theorems_calls.specs.OneReading.{reserve_misplaced, too_many}
use Rattle.theorems_calls.specs.OneReading.{outside_limits, several_windows, empty_window, late_window, bidder_repeated}
use Rattle.theorems_calls.specs.OneReading.{table_too_short, tables_filled}

tender_verdict : (t : TenderLine) → Verdict at_start (some (tender t)) (tender_fault t)
unfolding tender_fault
tender_verdict t = verdict at_start (some (tender t)) false false false (not (ordered (as_window t.window)))
    (not (early (as_window t.window))) false
    (λ h. h) (λ h. h) (λ h. h) (λ h. h) (λ h. h) (no_minute (as_window t.window)) (past_week (as_window t.window)) (λ h. h)

bid_verdict : (t : Tender) (done : List BidLine) (b : BidLine) →
    Verdict (after t done) (some (bid b)) (bid_fault t (map (λ b. b.bidder) done) b)
unfolding bid_fault bid_fault_after bid_fault_in
bid_verdict t done b = rw (length-map done (λ b. b.bidder))
    (verdict (after t done) (some (bid b)) (leb 1000 (length done) || ltb 32 (length b.windows))
    (not (within 1 999999 b.bidder) || ltb 100000000 b.price) (is_single t.kind && ltb 1 (length b.windows))
    (not (every ordered b.windows)) (not (every early b.windows)) (among b.bidder (map (λ b. b.bidder) done))
    (λ h. h) (λ h. h)
    (says_or (1000 ≤ length done) (32 < length b.windows) (leb 1000 (length done)) (ltb 32 (length b.windows))
    (says_leb 1000 (length done)) (says_ltb 32 (length b.windows)))
    (says_or ((b.bidder < 1) ⊎ (999999 < b.bidder)) (100000000 < b.price) (not (within 1 999999 b.bidder))
    (ltb 100000000 b.price)
    (outside 1 999999 b.bidder) (says_ltb 100000000 b.price))
    (says_and (t.kind ≡ Single) (1 < length b.windows) (is_single t.kind) (ltb 1 (length b.windows)) (single t.kind)
    (says_ltb 1 (length b.windows)))
    (some_window ordered (λ (w : Window). w.end ≤ w.start) no_minute b.windows)
    (some_window early (λ (w : Window). week < w.end) past_week b.windows) (used b.bidder done))

-- what a verdict makes of the line
module _ (d : Above) (x : Option Line) (o : Option (ℕ → Refusal)) (at : ℕ) (rest : ReadOutcome) where
  passes : NoFault d x → Verdict d x o → judged_by refused o at rest ≡ rest
  unfolding judged_by
  passes v (clean w q) = rw q
  passes v (stopped_by f h q) = absurd (v f (first_stands page_order f d x h))

  tells : (f : LineFault) → FirstAmong page_order f d x → Verdict d x o → judged_by refused o at rest ≡ refused (refusal_of f at)
  unfolding judged_by
  tells f h (clean w q) = absurd (w f (first_stands page_order f d x h))
  tells f h (stopped_by g k q) = rw q (ap (λ g. refused (refusal_of g at)) (one_first page_order g f d x k h))

-- the lines after the head, from line `from` on: all are faultless bids, or the first that is not has its first fault
data Walked (t : Tender) (from : ℕ) (done : List BidLine) (ls : List (Option Line)) (out o : ReadOutcome) : Type 0 where
  all_sound : (bs : List BidLine) → ls ≡ map (λ b. some (bid b)) bs → SoundBids t done bs → o ≡ out
      → Walked t from done ls out o
  stops : (bs : List BidLine) (x : Option Line) (rest : List (Option Line)) (f : LineFault) → ls ≡ map (λ b. some (bid b)) bs
      ++ x ∷ rest
      → SoundBids t done bs → FirstAmong page_order f (after t (done ++ bs)) x →
      o ≡ refused (refusal_of f (from + length done + length bs)) → Walked t from done ls out o

bidders_after : (done : List BidLine) (b : BidLine) → map (λ b. b.bidder) (done ++ b ∷ []) ≡ map (λ b. b.bidder) done
    ++ b.bidder ∷ []
bidders_after [] b = refl
bidders_after (c ∷ done) b = ap (λ l. c.bidder ∷ l) (bidders_after done b)

first_misplaced : (t : Tender) (done : List BidLine) (p : ℕ) → (t.reserve ≡ None → done ≡ [] → ⊥)
    → FirstAmong page_order of_place (after t done) (some (reserve p))
first_misplaced t done p h = inr ((λ x. x), inl (refl, misplaced t.reserve done h))

not_empty : {A : Type 0} (done : List BidLine) (b : BidLine) → done ++ b ∷ [] ≡ [] → A
not_empty done b e = absurd (omega (arith, ap length e, length-append done (b ∷ [])))

walked : (t : Tender) (from : ℕ) (done : List BidLine) (ls : List (Option Line)) (out : ReadOutcome) (at : ℕ)
    → at ≡ from + length done → (t.reserve ≡ None → done ≡ [] → Unreserved ls)
    → Walked t from done ls out (checked t at (map (λ b. b.bidder) done) ls out)
unfolding checked judged_by
walked t from done [] out at e u = all_sound [] refl tt refl
walked t from done (none ∷ ls) out at e u =
    stops [] none ls of_form refl tt (inl (refl, refl)) (ap (λ n. refused (BadForm n)) (omega arith))
walked t from done (some (reserve p) ∷ ls) out at e u =
    stops [] (some (reserve p)) ls of_place refl tt (rw (append-nil done) (first_misplaced t done p u))
    (ap (λ n. refused (ReserveMisplaced n)) (omega arith))
walked t from done (some (tender v) ∷ ls) out at e u =
    stops [] (some (tender v)) ls of_form refl tt (inl (refl, refl)) (ap (λ n. refused (BadForm n)) (omega arith))
walked t from done (some (bid b) ∷ ls) out at e u =
    go (bid_fault t (map (λ b. b.bidder) done) b) (bid_verdict t done b)
    (rw (bidders_after done b) at (walked t from (done ++ b ∷ []) ls out (at + 1) (omega (arith, length-append done (b ∷ [])))
    (λ r x. not_empty done b x)))
  where
    more : (o : ReadOutcome) → NoFault (after t done) (some (bid b)) → Walked t from (done ++ b ∷ []) ls out o
        → Walked t from done (some (bid b) ∷ ls) out o
    more o v (all_sound bs l s q) = all_sound (b ∷ bs) (ap {B = List (Option Line)} (λ r. some (bid b) ∷ r) l) (v, s) q
    more o v (stops bs x rest f l s h q) =
        stops (b ∷ bs) x rest f (ap {B = List (Option Line)} (λ r. some (bid b) ∷ r) l) (v, s)
        (rw (append_assoc done (b ∷ []) bs) at h)
        (q ∙ ap (λ n. refused (refusal_of f n)) (let m = length-append done (b ∷ []) in omega (arith, m)))

    go : (o : Option (ℕ → Refusal)) → Verdict (after t done) (some (bid b)) o
        → Walked t from (done ++ b ∷ []) ls out (checked t (at + 1) (map (λ b. b.bidder) done ++ b.bidder ∷ []) ls out) →
        Walked t from done (some (bid b) ∷ ls) out
        (judged_by refused o at (checked t (at + 1) (map (λ b. b.bidder) done ++ b.bidder ∷ []) ls out))
    go o (clean v q) w = rw q (more _ v w)
    go o (stopped_by f h q) w =
        rw q (stops [] (some (bid b)) ls f refl tt (rw (append-nil done) h) (ap (λ n. refused (refusal_of f n)) (omega arith)))

-- the whole text
data TextRead (text : List ℕ) (o : ReadOutcome) : Type 0 where
  long : 65536 < length text → o ≡ refused TextTooLong → TextRead text o
  faulty : (l : LineOf text) (f : LineFault) → FirstOn f l → o ≡ refused (refusal_of f (place_in l)) → TextRead text o
  readable : (t : Tender) (R : List Row) (W : List Window) → Readable text t R W → o ≡ accepted t R W → TextRead text o

bids_of_lem : (bs : List BidLine) → bids_of (map (λ b. some (bid b)) bs) ≡ bs
unfolding bids_of
bids_of_lem [] = refl
bids_of_lem (b ∷ bs) = ap {B = List BidLine} (λ l. b ∷ l) (bids_of_lem bs)

module _ (text : List ℕ) (short : length text ≤ 65536) where
  first_line_lem : (x : Option Line) (ls : List (Option Line)) → lines_in text ≡ x ∷ ls → OnLine of_form at_start x
      → TextRead text (refused (BadForm 1))
  first_line_lem x ls e f = faulty (record { above = at_start; line = x; rest = ls; short = short; lines = e; sound = tt }) of_form
      (inl (refl, f)) refl

  -- the lines after a faultless head
  after_head_lem : (T : Tender) (ls : List (Option Line)) → lines_in text ≡ map (λ l. some l) (head_lines T) ++ ls
      → NoFault at_start (some (tender (tender_line T))) → SoundReserve (tender_line T) T.reserve
      → (T.reserve ≡ None → Unreserved ls) → (from : ℕ) → from ≡ length (head_lines T) + 1
      → TextRead text (checked T from [] ls (tables T (bids_of ls)))
  unfolding tables
  after_head_lem T ls e u v w from n =
      go (walked T from [] ls (tables T (bids_of ls)) from (omega arith) (λ a x. w a))
    where
      front : List (Option Line)
      front = map (λ l. some l) (head_lines T)

      count : (bs : List BidLine) → from + 0 + length bs ≡ length (front ++ map (λ b. some (bid b)) bs) + 1
      count bs = omega (
        arith,
        n,
        length-append front (map (λ b. some (bid b)) bs),
        length-map (head_lines T) (λ l. some l),
        length-map bs (λ b. some (bid b)),
      )

      go : {o : ReadOutcome} → Walked T from [] ls (tables T (bids_of ls)) o → TextRead text o
      go (all_sound bs l s q) = readable T (rows_from 0 bs) (all_windows bs)
          (record {
            bids = bs;
            short = short;
            lines = e ∙ ap (λ r. front ++ r) l;
            sound = sound_lines T bs u v s;
            rows = refl;
            windows = refl;
          })
          (q ∙ ap (λ ls. tables T (bids_of ls)) l ∙ ap (tables T) (bids_of_lem bs))
      go (stops bs x rest f l s h q) =
          faulty (record {
            above = after T bs;
            line = x;
            rest = rest;
            short = short;
            lines = e ∙ ap (λ r. front ++ r) l ∙ sym (append_assoc front (map (λ b. some (bid b)) bs) (x ∷ rest));
            sound = sound_lines T bs u v s;
          }) f h
          (q ∙ ap (λ n. refused (refusal_of f n)) (count bs))

  -- the reserve's line, where it stands after the tender's
  after_tender : (t : TenderLine) (ls : List (Option Line)) → lines_in text ≡ some (tender t) ∷ ls
      → NoFault at_start (some (tender t)) → TextRead text (after_head (reserve_in t 2 ls))
  unfolding after_head head_lines reserve_lines
  after_tender t [] e u = rw (reserve_absent t 2 [] tt) (after_head_lem (tender_with t None) [] e u tt (λ a. tt) 2 refl)
  after_tender t (none ∷ ls) e u =
      rw (reserve_absent t 2 (none ∷ ls) tt) (after_head_lem (tender_with t None) (none ∷ ls) e u tt (λ a. tt) 2 refl)
  after_tender t (some (tender s) ∷ ls) e u =
      rw (reserve_absent t 2 (some (tender s) ∷ ls) tt)
      (after_head_lem (tender_with t None) (some (tender s) ∷ ls) e u tt (λ a. tt) 2 refl)
  after_tender t (some (bid b) ∷ ls) e u =
      rw (reserve_absent t 2 (some (bid b) ∷ ls) tt)
      (after_head_lem (tender_with t None) (some (bid b) ∷ ls) e u tt (λ a. tt) 2 refl)
  after_tender t (some (reserve p) ∷ ls) e u = go (leb p 100000000) refl
    where
      priced : {A : Type 0} → Some p ≡ None → A
      priced q = let z : ◌≡◌ {A = ℕ} 0 1 = cc in absurd (omega arith)

      go : (b : Bool) → leb p 100000000 ≡ b → TextRead text (after_head (reserve_in t 2 (some (reserve p) ∷ ls)))
      go true q =
          let l = leb-true p 100000000 q in
          rw (reserve_taken t 2 p ls l)
          (after_head_lem (tender_with t (Some p)) ls e u (sound_reserve t p l) (λ a. priced a) 3 refl)
      go false q =
          let l = leb-false p 100000000 q in
          rw (reserve_high t 2 p ls l)
          (faulty (record {
            above = after (tender_with t None) [];
            line = some (reserve p);
            rest = ls;
            short = short;
            lines = e;
            sound = sound_lines (tender_with t None) [] u tt tt;
          }) of_limits (high_reserve t p l) refl)

  tender_judged : (t : TenderLine) (ls : List (Option Line)) → lines_in text ≡ some (tender t) ∷ ls → (o : Option (ℕ → Refusal))
      → Verdict at_start (some (tender t)) o → TextRead text (judged_by refused o 1 (after_head (reserve_in t 2 ls)))
  unfolding judged_by
  tender_judged t ls e o (stopped_by f h q) =
      rw q (faulty (record { above = at_start; line = some (tender t); rest = ls; short = short; lines = e; sound = tt }) f h refl)
  tender_judged t ls e o (clean u q) = rw q (after_tender t ls e u)

  lines_read : (ls : List (Option Line)) → lines_of (cut 10 text) ≡ ls → TextRead text (read_lines ls)
  lines_read [] e = rw (lines_halted [] (BadForm 1) no_line) (first_line_lem none [] (ap or_broken e) refl)
  lines_read (none ∷ ls) e = rw (lines_halted (none ∷ ls) (BadForm 1) (broken_first ls)) (first_line_lem none ls (ap or_broken e) refl)
  lines_read (some (bid b) ∷ ls) e =
      rw (lines_halted (some (bid b) ∷ ls) (BadForm 1) (bid_first b ls)) (first_line_lem (some (bid b)) ls (ap or_broken e) refl)
  lines_read (some (reserve p) ∷ ls) e =
      rw (lines_halted (some (reserve p) ∷ ls) (BadForm 1) (reserve_first p ls))
      (first_line_lem (some (reserve p)) ls (ap or_broken e) refl)
  lines_read (some (tender t) ∷ ls) e =
      rw (tender_read t ls) (tender_judged t ls (ap or_broken e) (tender_fault t) (tender_verdict t))

text_read : (text : List ℕ) → TextRead text (read_text text)
unfolding read_text
text_read text = go (ltb 65536 (length text)) refl
  where
    go : (b : Bool) → ltb 65536 (length text) ≡ b → TextRead text
        (cond b (refused TextTooLong) (read_lines (lines_of (cut 10 text))))
    go true e = long (ltb-true 65536 (length text) e) refl
    go false e = lines_read text (ltb-false 65536 (length text) e) (lines_of (cut 10 text)) refl

-- what a text is refused with, whatever the tables: never 8
pub refusal_number : (text : List ℕ) (r : Refusal) → read_text text ≡ refused r → OfText (number_of r)
refusal_number text r e = go (text_read text)
  where
    from : (x : Refusal) → read_text text ≡ refused x → OfText (number_of x) → OfText (number_of r)
    from x q b = let h : x ≡ r = cc (e, q) in rw h at b

    number : (f : LineFault) (k : ℕ) → OfText (number_of (refusal_of f k))
    number of_form k = inl (omega arith, omega arith)
    number of_place k = inr (omega arith, omega arith)
    number of_count k = inl (omega arith, omega arith)
    number of_limits k = inl (omega arith, omega arith)
    number of_the_kind k = inl (omega arith, omega arith)
    number of_minutes k = inl (omega arith, omega arith)
    number of_week k = inr (omega arith, omega arith)
    number of_bidder k = inl (omega arith, omega arith)

    go : TextRead text (read_text text) → OfText (number_of r)
    go (long l q) = from TextTooLong q (inl (omega arith, omega arith))
    go (faulty l f h q) = from (refusal_of f (place_in l)) q (number f (place_in l))
    go (readable t R W d q) = let z : ◌≡◌ {A = ℕ} 0 1 = cc (e, q) in absurd (omega arith)

-- what comes of the tables
module _ (r : ReadRun) where
  abbrev Leaves : ReadOutcome → Type 0
  Leaves o = (r.answer ≡ read_answer o) × ((r.after_bids ≡ bids_after r.bids o)
      × (r.after_windows ≡ windows_after r.windows o))

  refuses : (x : Refusal) (o : ReadOutcome) → o ≡ refused x → Leaves o → Declines x r
  unfolding bids_after windows_after
  refuses x o e (a, (b, c)) = record {
    answer = a ∙ ap read_answer e;
    bids_stay = b ∙ ap (bids_after r.bids) e;
    windows_stay = c ∙ ap (windows_after r.windows) e;
  }

  fills : (t : Tender) (R : List Row) (W : List Window) (o : ReadOutcome) → o ≡ accepted t R W → Leaves o → Fills t R W r
  unfolding bids_after windows_after
  fills t R W o e (a, (b, c)) = record {
    answer = a ∙ ap read_answer e;
    bids_are = b ∙ ap (bids_after r.bids) e;
    windows_are = c ∙ ap (windows_after r.windows) e;
  }

  by_fault : (l : LineOf r.text) (f : LineFault) → FirstOn f l → Declines (refusal_of f (place_in l)) r → OneReading r
  by_fault l of_form h x = bad_form l h x
  by_fault l of_place h x = reserve_misplaced l h x
  by_fault l of_count h x = too_many l h x
  by_fault l of_limits h x = outside_limits l h x
  by_fault l of_the_kind h x = several_windows l h x
  by_fault l of_minutes h x = empty_window l h x
  by_fault l of_week h x = late_window l h x
  by_fault l of_bidder h x = bidder_repeated l h x

  -- Demand 1 of a text, with tables of any size.
  pub one_reading : ReadKept r → OneReading r
  unfolding read_into fitted
  one_reading k = go (read_text r.text) (text_read r.text) (k.answers, (k.rows, k.own))
    where
      m : ℕ
      m = length r.bids / bid_width

      n : ℕ
      n = length r.windows / window_width

      room : (t : Tender) (R : List Row) (W : List Window) → Readable r.text t R W → (p q : Bool) → leb (length R) m ≡ p
          → leb (length W) n ≡ q → Leaves (cond (p && q) (accepted t R W) (refused TableTooShort)) → OneReading r
      room t R W d true true e f x = tables_filled t R W d (leb-true (length R) m e, leb-true (length W) n f) (fills t R W _ refl x)
      room t R W d true false e f x = table_too_short t R W d (inr (leb-false (length W) n f)) (refuses TableTooShort _ refl x)
      room t R W d false q e f x = table_too_short t R W d (inl (leb-false (length R) m e)) (refuses TableTooShort _ refl x)

      go : (o : ReadOutcome) → TextRead r.text o → Leaves (fitted m n o) → OneReading r
      go o (long l e) x = text_too_long l (refuses TextTooLong _ (ap (fitted m n) e) x)
      go o (faulty l f h e) x = by_fault l f h (refuses (refusal_of f (place_in l)) _ (ap (fitted m n) e) x)
      go o (readable t R W d e) x = room t R W d (leb (length R) m) (leb (length W) n) refl refl (rw e at x)

-- and back: what stands before and on a line says what the text is refused with, or that it is accepted

skips : (t : Tender) (done bs : List BidLine) (ls : List (Option Line)) (out : ReadOutcome) (at : ℕ) → SoundBids t done bs →
    checked t at (map (λ b. b.bidder) done) (map (λ b. some (bid b)) bs ++ ls) out
    ≡ checked t (at + length bs) (map (λ b. b.bidder) (done ++ bs)) ls out
unfolding checked judged_by
skips t done [] ls out at s =
    let e : at ≡ at + 0 = omega arith in
    ap (λ n. checked t n (map (λ b. b.bidder) done) ls out) e
    ∙ ap (λ ds. checked t (at + 0) (map (λ b. b.bidder) ds) ls out) (sym (append-nil done))
skips t done (b ∷ bs) ls out at (v, s) =
    passes (after t done) (some (bid b)) (bid_fault t (map (λ b. b.bidder) done) b) at rest v (bid_verdict t done b)
    ∙ step (skips t (done ++ b ∷ []) bs ls out (at + 1) s)
  where
    rest : ReadOutcome
    rest = checked t (at + 1) (map (λ b. b.bidder) done ++ b.bidder ∷ []) (map (λ b. some (bid b)) bs ++ ls) out

    end : ReadOutcome
    end = checked t (at + length (b ∷ bs)) (map (λ b. b.bidder) (done ++ b ∷ bs)) ls out

    mid : ReadOutcome
    mid = checked t (at + 1 + length bs) (map (λ b. b.bidder) ((done ++ b ∷ []) ++ bs)) ls out

    step : checked t (at + 1) (map (λ b. b.bidder) (done ++ b ∷ [])) (map (λ b. some (bid b)) bs ++ ls) out ≡ mid
        → rest ≡ end
    step ih =
        let e : at + 1 + length bs ≡ at + length (b ∷ bs) = omega arith in
        ap (λ us. checked t (at + 1) us (map (λ b. some (bid b)) bs ++ ls) out) (sym (bidders_after done b))
        ∙ ih
        ∙ ap (λ n. checked t n (map (λ b. b.bidder) ((done ++ b ∷ []) ++ bs)) ls out) e
        ∙ ap (λ ds. checked t (at + length (b ∷ bs)) (map (λ b. b.bidder) ds) ls out) (append_assoc done (b ∷ []) bs)

at_fault : (t : Tender) (done : List BidLine) (x : Option Line) (ls : List (Option Line)) (out : ReadOutcome) (at : ℕ) (f : LineFault)
    → FirstAmong page_order f (after t done) x → (t.reserve ≡ None → done ≡ [] → Unreserved (x ∷ ls))
    → checked t at (map (λ b. b.bidder) done) (x ∷ ls) out ≡ refused (refusal_of f at)
unfolding checked judged_by
at_fault t done none ls out at f h u = let e = first_stands page_order f (after t done) none h in
    ap (λ g. refused (refusal_of g at)) (sym e)
at_fault t done (some (tender v)) ls out at f h u =
    let e = first_stands page_order f (after t done) (some (tender v)) h in
    ap (λ g. refused (refusal_of g at)) (sym e)
at_fault t done (some (reserve p)) ls out at f h u =
    ap (λ g. refused (refusal_of g at))
    (one_first page_order of_place f (after t done) (some (reserve p)) (first_misplaced t done p u) h)
at_fault t done (some (bid b)) ls out at f h u =
    tells (after t done) (some (bid b)) (bid_fault t (map (λ b. b.bidder) done) b) at _ f h (bid_verdict t done b)

short_text : (text : List ℕ) → length text ≤ 65536 → read_text text ≡ read_lines (lines_in text)
unfolding read_text
short_text text l = rw (le-ltb 65536 (length text) l) (go (lines_of (cut 10 text)))
  where
    go : (ls : List (Option Line)) → read_lines ls ≡ read_lines (or_broken ls)
    go [] = lines_halted [] (BadForm 1) no_line ∙ sym (lines_halted (none ∷ []) (BadForm 1) (broken_first []))
    go (x ∷ ls) = refl

faultless : (t : TenderLine) → NoFault at_start (some (tender t)) → tender_fault t ≡ none
faultless t u = go (tender_verdict t)
  where
    go : {o : Option (ℕ → Refusal)} → Verdict at_start (some (tender t)) o → o ≡ none
    go (clean v q) = q
    go (stopped_by f h q) = absurd (u f (first_stands page_order f at_start (some (tender t)) h))

lawful_reserve_lem : (t : TenderLine) (r : Reserve) → SoundReserve t r → lawful_reserve r ≡ true
unfolding lawful_reserve
lawful_reserve_lem t None s = refl
lawful_reserve_lem t (Some p) s = go (leb p 100000000) refl
  where
    go : (b : Bool) → leb p 100000000 ≡ b → b ≡ true
    go true e = refl
    go false e = absurd (s of_limits (leb-false p 100000000 e))

-- a faultless head is followed by the bids
head_first : (T : Tender) (ls : List (Option Line)) → NoFault at_start (some (tender (tender_line T)))
    → SoundReserve (tender_line T) T.reserve → (T.reserve ≡ None → Unreserved ls)
    → read_lines (map (λ l. some l) (head_lines T) ++ ls) ≡ checked T (length (head_lines T) + 1) [] ls (tables T (bids_of ls))
head_first T ls u v w = lines_begun (map (λ l. some l) (head_lines T) ++ ls) T (length (head_lines T) + 1) ls
    (head_of_lem T ls (faultless_sound (tender_line T) T.reserve (faultless (tender_line T) u)
    (lawful_reserve_lem (tender_line T) T.reserve v)) w)

at_first : (f : LineFault) (x : Option Line) (ls : List (Option Line)) → FirstAmong page_order f at_start x
    → read_lines (x ∷ ls) ≡ refused (refusal_of f 1)
at_first f none ls k = lines_halted (none ∷ ls) (BadForm 1) (broken_first ls)
    ∙ ap (λ g. refused (refusal_of g 1)) (sym (first_stands page_order f at_start none k))
at_first f (some (bid b)) ls k = lines_halted (some (bid b) ∷ ls) (BadForm 1) (bid_first b ls)
    ∙ ap (λ g. refused (refusal_of g 1)) (sym (first_stands page_order f at_start (some (bid b)) k))
at_first f (some (reserve p)) ls k = lines_halted (some (reserve p) ∷ ls) (BadForm 1) (reserve_first p ls)
    ∙ ap (λ g. refused (refusal_of g 1)) (sym (first_stands page_order f at_start (some (reserve p)) k))
at_first f (some (tender t)) ls k = tender_read t ls ∙ tells at_start (some (tender t)) (tender_fault t) 1 _ f k (tender_verdict t)

-- the reserve's line after the tender's, with a price above the limit
at_reserve : (t : TenderLine) (p : ℕ) (ls : List (Option Line)) (f : LineFault) → NoFault at_start (some (tender t))
    → FirstAmong page_order f (after (tender_with t None) []) (some (reserve p))
    → read_lines (some (tender t) ∷ some (reserve p) ∷ ls) ≡ refused (refusal_of f 2)
at_reserve t p ls f u k =
    let h = only_limits t p f (first_stands page_order f (after (tender_with t None) []) (some (reserve p)) k) in
    lines_halted (some (tender t) ∷ some (reserve p) ∷ ls) (OutsideLimits 2)
    (tender_faultless t (some (reserve p) ∷ ls) (faultless t u) ∙ reserve_high t 2 p ls h.1)
    ∙ ap (λ g. refused (refusal_of g 2)) (sym h.0)

-- a line after a head: the reserve's next after the tender's, or another
data Stands (r : Reserve) (bs : List BidLine) (x : Option Line) : Type 0 where
  second : (p : ℕ) → r ≡ None → bs ≡ [] → x ≡ some (reserve p) → Stands r bs x
  later : ((ls : List (Option Line)) → r ≡ None → bs ≡ [] → Unreserved (x ∷ ls)) → Stands r bs x

stands : (r : Reserve) (bs : List BidLine) (x : Option Line) → Stands r bs x
stands r bs none = later (λ ls e f. tt)
stands r bs (some (tender t)) = later (λ ls e f. tt)
stands r bs (some (bid b)) = later (λ ls e f. tt)
stands None [] (some (reserve p)) = second p refl refl refl
stands None (b ∷ bs) (some (reserve p)) = later (λ ls e f. absurd (omega (arith, ap length f)))
stands (Some q) bs (some (reserve p)) = later (λ ls e f. let z : ◌≡◌ {A = ℕ} 0 1 = cc in absurd (omega arith))

second_refused : (t : TenderLine) (r : Reserve) (bs : List BidLine) (x : Option Line) (ls : List (Option Line)) (f : LineFault)
    (p : ℕ) → r ≡ None → bs ≡ [] → x ≡ some (reserve p) → NoFault at_start (some (tender t))
    → FirstAmong page_order f (after (tender_with t r) bs) x
    → read_lines (lines_above (after (tender_with t r) bs) ++ x ∷ ls)
    ≡ refused (refusal_of f (length (lines_above (after (tender_with t r) bs)) + 1))
unfolding head_lines reserve_lines
second_refused t r bs x ls f p a b q u k = rw (a, b, q) (at_reserve t p ls f u (rw (a, b, q) at k))

unreserved_bids : (bs : List BidLine) (x : Option Line) (ls : List (Option Line)) → (bs ≡ [] → Unreserved (x ∷ ls))
    → Unreserved (map (λ b. some (bid b)) bs ++ x ∷ ls)
unreserved_bids [] x ls h = h refl
unreserved_bids (b ∷ bs) x ls h = tt

line_refused : (text : List ℕ) (l : LineOf text) (f : LineFault) → FirstOn f l
    → read_text text ≡ refused (refusal_of f (place_in l))
line_refused text l f h = short_text text l.short ∙ ap read_lines l.lines ∙ go l.above l.line l.sound h
  where
    go : (d : Above) (x : Option Line) → SoundLines d → FirstAmong page_order f d x →
        read_lines (lines_above d ++ x ∷ l.rest) ≡ refused (refusal_of f (length (lines_above d) + 1))
    go at_start x s k = at_first f x l.rest k
    go (after t bs) x (u, (v, s)) k = by (stands t.reserve bs x)
      where
        by : Stands t.reserve bs x → read_lines (lines_above (after t bs) ++ x ∷ l.rest)
            ≡ refused (refusal_of f (length (lines_above (after t bs)) + 1))
        by (second p a b q) = second_refused (tender_line t) t.reserve bs x l.rest f p a b q u k
        by (later w) =
            let front = map (λ l. some l) (head_lines t) in
            let bids = map (λ b. some (bid b)) bs in
            let ls = bids ++ x ∷ l.rest in
            let n = length (head_lines t) + 1 in
            let e : n + length bs ≡ length (front ++ bids) + 1 = omega (
              arith,
              length-append front bids,
              length-map (head_lines t) (λ l. some l),
              length-map bs (λ b. some (bid b)),
            ) in
            ap read_lines (append_assoc front bids (x ∷ l.rest))
            ∙ head_first t ls u v (λ a. unreserved_bids bs x l.rest (w l.rest a))
            ∙ skips t [] bs (x ∷ l.rest) (tables t (bids_of ls)) n s
            ∙ at_fault t bs x l.rest (tables t (bids_of ls)) (n + length bs) f k (w l.rest)
            ∙ ap (λ n. refused (refusal_of f n)) e

through : (t : Tender) (from : ℕ) (bs : List BidLine) (out : ReadOutcome) → SoundBids t [] bs
    → checked t from [] (map (λ b. some (bid b)) bs ++ []) out ≡ out
unfolding checked
through t from bs out s = skips t [] bs [] out from s

pub text_accepted : (text : List ℕ) (t : Tender) (R : List Row) (W : List Window) → Readable text t R W
    → read_text text ≡ accepted t R W
unfolding tables
text_accepted text t R W h =
    let bs = h.bids in
    let ls = map (λ b. some (bid b)) bs in
    let n = length (head_lines t) + 1 in
    short_text text h.short ∙ ap read_lines h.lines
    ∙ head_first t ls h.sound.0 h.sound.1.0 (λ a. bids_unreserved bs)
    ∙ ap (λ l. checked t n [] l (tables t (bids_of ls))) (sym (append-nil ls))
    ∙ through t n bs (tables t (bids_of ls)) h.sound.1.1
    ∙ ap (tables t) (bids_of_lem bs) ∙ ap (λ x. accepted t x (all_windows bs)) (sym h.rows) ∙ ap (accepted t R) (sym h.windows)

long_refused : (text : List ℕ) → 65536 < length text → read_text text ≡ refused TextTooLong
unfolding read_text
long_refused text l = rw (lt-ltb 65536 (length text) l)

and_false : (a : Bool) → a && false ≡ false
and_false true = refl
and_false false = refl

module _ (r : ReadRun) where
  abbrev m : ℕ
  m = length r.bids / bid_width

  abbrev n : ℕ
  n = length r.windows / window_width

  -- the contract, from what reading answers
  keeps : (o : ReadOutcome) → fitted m n (read_text r.text) ≡ o → Leaves r o → ReadKept r
  unfolding read_into
  keeps o e (a, (b, c)) = record {
    answers = a ∙ ap read_answer (sym e);
    rows = b ∙ ap (bids_after r.bids) (sym e);
    own = c ∙ ap (windows_after r.windows) (sym e);
  }

  leaves : (x : Refusal) → Declines x r → Leaves r (refused x)
  unfolding bids_after windows_after
  leaves x h = (h.answer, (h.bids_stay, h.windows_stay))

  refused_kept : (x : Refusal) → read_text r.text ≡ refused x → Declines x r → ReadKept r
  unfolding fitted
  refused_kept x e h = keeps (refused x) (ap (fitted m n) e) (leaves x h)

  short_kept : (t : Tender) (R : List Row) (W : List Window) → read_text r.text ≡ accepted t R W
      → (m < length R) ⊎ (n < length W) → Declines TableTooShort r → ReadKept r
  unfolding fitted
  short_kept t R W e s h = keeps (refused TableTooShort) (ap (fitted m n) e ∙ room s) (leaves TableTooShort h)
    where
      room : (m < length R) ⊎ (n < length W) → fitted m n (accepted t R W) ≡ refused TableTooShort
      room (inl l) = rw (lt-leb (length R) m l)
      room (inr l) = rw (lt-leb (length W) n l, and_false (leb (length R) m))

  filled_kept : (t : Tender) (R : List Row) (W : List Window) → read_text r.text ≡ accepted t R W
      → (length R ≤ m) × (length W ≤ n) → Fills t R W r → ReadKept r
  unfolding fitted bids_after windows_after
  filled_kept t R W e (s, u) h =
      let f : fitted m n (accepted t R W) ≡ accepted t R W = rw (le-leb (length R) m s, le-leb (length W) n u) in
      keeps (accepted t R W) (ap (fitted m n) e ∙ f) (h.answer, (h.bids_are, h.windows_are))

  -- What one reading says gives the contract: no two of its cases hold of the same text and tables.
  pub reading_kept : OneReading r → ReadKept r
  reading_kept (text_too_long l x) = refused_kept TextTooLong (long_refused r.text l) x
  reading_kept (bad_form l h x) = refused_kept (BadForm (place_in l)) (line_refused r.text l of_form h) x
  reading_kept (reserve_misplaced l h x) = refused_kept (ReserveMisplaced (place_in l)) (line_refused r.text l of_place h) x
  reading_kept (too_many l h x) = refused_kept (TooMany (place_in l)) (line_refused r.text l of_count h) x
  reading_kept (outside_limits l h x) = refused_kept (OutsideLimits (place_in l)) (line_refused r.text l of_limits h) x
  reading_kept (several_windows l h x) = refused_kept (SeveralWindows (place_in l)) (line_refused r.text l of_the_kind h) x
  reading_kept (empty_window l h x) = refused_kept (EmptyWindow (place_in l)) (line_refused r.text l of_minutes h) x
  reading_kept (late_window l h x) = refused_kept (LateWindow (place_in l)) (line_refused r.text l of_week h) x
  reading_kept (bidder_repeated l h x) = refused_kept (BidderRepeated (place_in l)) (line_refused r.text l of_bidder h) x
  reading_kept (table_too_short t R W d s x) = short_kept t R W (text_accepted r.text t R W d) s x
  reading_kept (tables_filled t R W d s x) = filled_kept t R W (text_accepted r.text t R W d) s x

-- the contract leaves no choice

run : List ℕ → List ℕ → List ℕ → List ℕ → List ℕ → Result Filled Refusal → ReadRun
run t b w b' w' a = record { text = t; bids = b; windows = w; after_bids = b'; after_windows = w'; answer = a }

by_parts : (x y : ReadRun) → x.text ≡ y.text → x.bids ≡ y.bids → x.windows ≡ y.windows → x.after_bids ≡ y.after_bids
    → x.after_windows ≡ y.after_windows → x.answer ≡ y.answer
    → run x.text x.bids x.windows x.after_bids x.after_windows x.answer
    ≡ run y.text y.bids y.windows y.after_bids y.after_windows y.answer
by_parts x y e f g b w a = cc

pub one_case : (x y : ReadRun) → ReadKept x → ReadKept y → x.text ≡ y.text → x.bids ≡ y.bids → x.windows ≡ y.windows
    → x ≡ y
unfolding run
one_case x y h k e f g = by_parts x y e f g (h.rows ∙ rw (e, f, g) (sym k.rows)) (h.own ∙ rw (e, f, g) (sym k.own))
    (h.answers ∙ rw (e, f, g) (sym k.answers))
