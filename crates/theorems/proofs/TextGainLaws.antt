-- Two texts that differ in one bid, each read by a call of `read` into tables of any size, and an award called on what each left: a false
-- price and minutes held back gain nothing. Assumes nothing.
use Rattle.std.specs.Prelude.{◌≡◌, refl, Bool, true, false, cond, ◌&&◌, List, ◌++◌, ℕ, ◌+◌, ◌*◌, ◌/◌, length}
use Rattle.std.specs.Prelude.{drop, leb, ltb}
use Rattle.std.specs.Prelude.{Ok}
use Rattle.std.proofs.Common.{sym, ◌∙◌, arith}
use Rattle.std.proofs.Math.Path.{ap}
use Rattle.std.proofs.Math.Option.{some}
use Rattle.std.proofs.Math.ListN.{get_or}
use Rattle.tender.specs.declared.Kind.{Kind}
use Rattle.tender.specs.declared.Window.{Window}
use Rattle.tender.specs.declared.Tender.{Tender}
use Rattle.tender.specs.declared.AwardRow.{AwardRow}
use Rattle.tender.specs.Types.{Answer}
use Rattle.tender.specs.Tables.{Row, flat_rows, flat_windows, bid_width, window_width}
use Rattle.tender.specs.declared.Refusal.TheVariants.{TableTooShort}
use Rattle.reader_text.specs.Read.{accepted, read_text, fitted, read_into}
use Rattle.reader_text.specs.Read as reading
use Rattle.reader.specs.Answer.{read_answer, bids_after, windows_after}
use Rattle.reader_fill.specs.Answer.{filled}
use Rattle.reader_text.specs.Differ.{DifferInPrice, DifferInBid, windows_by}
use Rattle.reader_text.proofs.BidLaws.{price_as_bid}
use Rattle.award_check.specs.Alike.{named, PartOf}
use Rattle.award_check.proofs.TextLaws.{bidder_read}
use Rattle.award_outcome.specs.Promise.{told_award, Promise}
use Rattle.award_outcome.specs.Right as right
use Rattle.award_outcome.proofs.TextOutcomeLaws.{withheld_texts}
use Rattle.theorems_calls.specs.Calls.{ReadCall, AwardCall}
use Rattle.theorems.specs.Between.{Follows, SameAward, NoGainBetween}
use Rattle.theorems.proofs.FilledLaws.{same_tender, same_bids}

-- what an accepted text left in the tables
record ReadLeft (text bids windows : List ℕ) (t : Tender) (n : ℕ) : Type 0 where
  rows : List Row
  spans : List Window
  past_rows : List ℕ
  past_spans : List ℕ
  is : read_text text ≡ accepted t rows spans
  count : length rows ≡ n
  bids_are : bids ≡ flat_rows rows ++ past_rows
  windows_are : windows ≡ flat_windows spans ++ past_spans

accepted_read : (r : ReadCall) (t : Tender) (n m : ℕ) → r.run.answer ≡ Ok (filled t n m)
    → ReadLeft r.run.text r.run.after_bids r.run.after_windows t n
unfolding read_into fitted bids_after windows_after
accepted_read r t n m e = go (read_text r.run.text) refl (sym e ∙ r.kept.answers) r.kept.rows
    r.kept.own
  where
    room : (T : Tender) (R : List Row) (W : List Window) (b : Bool) → read_text r.run.text ≡ accepted T R W
        → Ok (filled t n m) ≡ read_answer (cond b (accepted T R W) (reading.refused TableTooShort)) →
        r.run.after_bids ≡ bids_after r.run.bids (cond b (accepted T R W) (reading.refused TableTooShort))
        → r.run.after_windows ≡ windows_after r.run.windows (cond b (accepted T R W) (reading.refused TableTooShort)) →
        ReadLeft r.run.text r.run.after_bids r.run.after_windows t n
    room T R W false h x y z = let f : ◌≡◌ {A = ℕ} 0 1 = cc in absurd (omega arith)
    room T R W true h x y z =
        record {
          rows = R;
          spans = W;
          past_rows = drop (bid_width * length R) r.run.bids;
          past_spans = drop (window_width * length W) r.run.windows;
          is = h ∙ ap (λ v. accepted v R W) (sym (same_tender refl x));
          count = sym (same_bids refl x);
          bids_are = y;
          windows_are = z;
        }

    go : (o : reading.ReadOutcome) → read_text r.run.text ≡ o
        → Ok (filled t n m) ≡ read_answer (fitted (length r.run.bids / bid_width) (length r.run.windows / window_width) o) →
        r.run.after_bids ≡ bids_after r.run.bids
        (fitted (length r.run.bids / bid_width) (length r.run.windows / window_width) o)
        → r.run.after_windows ≡ windows_after r.run.windows
        (fitted (length r.run.bids / bid_width) (length r.run.windows / window_width) o)
        → ReadLeft r.run.text r.run.after_bids r.run.after_windows t n
    go (reading.refused k) h x y z = let f : ◌≡◌ {A = ℕ} 0 1 = cc in absurd (omega arith)
    go (accepted T R W) h x y z =
        room T R W (leb (length R) (length r.run.bids / bid_width) && leb (length W) (length r.run.windows / window_width))
        h x y z

module _ (bidder p q : List ℕ) (k k' : Kind) (T T' : Tender) (n n' : ℕ) (bids windows bids' windows' : List ℕ)
    (old new old' new' : List AwardRow) (a a' : Answer)
    (y : Promise k T n bids windows old new a) (y' : Promise k' T' n' bids' windows' old' new' a') where
  abbrev Between : Type 0
  Between = NoGainBetween (record {
    kind = k;
    tender = T;
    count = n;
    bids = bids;
    windows = windows;
    rows_before = old;
    rows_after = new;
    answer = a;
    promise = y;
  })
      (record {
        kind = k';
        tender = T';
        count = n';
        bids = bids';
        windows = windows';
        rows_before = old';
        rows_after = new';
        answer = a';
        promise = y';
      }) bidder p q

  of_calls : {text text' : List ℕ} (h : ReadLeft text bids windows T n) (h' : ReadLeft text' bids' windows' T' n') →
      right.NoGain h.rows h'.rows (flat_rows h.rows ++ h.past_rows) (flat_rows h'.rows ++ h'.past_rows)
      (told_award (length h.rows) new a) (told_award (length h'.rows) new' a') bidder p q → Between
  unfolding named
  of_calls h h' g = record {
    i = g.i;
    inside = omega (arith, g.inside, h.count);
    count_same = omega (arith, g.count, h.count, h'.count);
    bidder_is = g.bidder_is ∙ ap some (sym (bidder_read h.rows h.past_rows g.i g.inside)
        ∙ ap (λ b. get_or b (bid_width * g.i) 0) (sym h.bids_are));
    bidder_too = g.bidder_too ∙ ap some (sym (bidder_read h'.rows h'.past_rows g.i (omega (arith, g.count, g.inside)))
        ∙ ap (λ b. get_or b (bid_width * g.i) 0) (sym h'.bids_are));
    true_cost = g.true_cost ∙ ap (λ b. some (get_or b (bid_width * g.i + 1) 0)) (sym h.bids_are);
    other_price = g.other_price ∙ ap (λ b. some (get_or b (bid_width * g.i + 1) 0)) (sym h'.bids_are);
    most = rw (← h.bids_are, h.count, h'.count) at g.most;
  }

  between : (text text' ws vs : List ℕ) → k ≡ k' → DifferInBid text text' bidder p q ws vs
      → PartOf (windows_by vs) (windows_by ws)
      → ReadLeft text bids windows T n → ReadLeft text' bids' windows' T' n'
      → ltb (length old) n ≡ ltb (length old') n' → Between
  between text text' ws vs s d part h h' e = of_calls h h'
      (withheld_texts text text' bidder p q ws vs T T' h.rows h'.rows h.spans h'.spans d part h.is h'.is
      k h.past_rows h.past_spans h'.past_rows h'.past_spans (length old) (length old')
      (told_award (length h.rows) new a) (told_award (length h'.rows) new' a')
      (rw (h.count, h'.count) e)
      (rw (h.count, ← h.bids_are, ← h.windows_are) y.answers)
      (rw (s, h'.count, ← h'.bids_are, ← h'.windows_are) y'.answers))

-- Two calls of `read`, two of the same award on what they left.
module _ (r r' : ReadCall) (c c' : AwardCall) (bidder p q : List ℕ) (f : Follows r c) (f' : Follows r' c')
    (s : SameAward c c') where
  first : ReadLeft r.run.text r.run.after_bids r.run.after_windows c.tender c.count
  first = accepted_read r c.tender c.count f.window_rows f.accepts

  second : ReadLeft r'.run.text r'.run.after_bids r'.run.after_windows c'.tender c'.count
  second = accepted_read r' c'.tender c'.count f'.window_rows f'.accepts

  pub withheld_read : (ws vs : List ℕ) → DifferInBid r.run.text r'.run.text bidder p q ws vs
      → PartOf (windows_by vs) (windows_by ws) → NoGainBetween c c' bidder p q
  withheld_read ws vs d part =
      between bidder p q c.kind c'.kind c.tender c'.tender c.count c'.count c.bids c.windows c'.bids
      c'.windows c.rows_before c.rows_after c'.rows_before c'.rows_after
      c.answer c'.answer c.promise c'.promise r.run.text r'.run.text ws vs s.kinds d part
      (rw (f.bids_are, f.windows_are) first)
      (rw (f'.bids_are, f'.windows_are) second) s.room

  -- with the same windows: all the minutes
  pub no_gain_read : DifferInPrice r.run.text r'.run.text bidder p q → NoGainBetween c c' bidder p q
  no_gain_read d =
      let m = price_as_bid r.run.text r'.run.text bidder p q c.tender first.rows first.spans d first.is in
      withheld_read m.ws m.ws m.differ (λ minute h. h)
