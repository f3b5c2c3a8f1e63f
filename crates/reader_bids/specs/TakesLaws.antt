-- What comes of a line, from what is noted of it. Assumes nothing.
use Rattle.std.specs.Prelude.{ℕ, ◌+◌, ◌*◌, refl, List, ◌++◌, length, take, drop, eqb, None, Ok, Err}
use Rattle.std.proofs.Math.Path.{◌≡◌, sym, ap}
use Rattle.std.proofs.Common.{◌∙◌, arith, add-zero, zero-add}
use Rattle.std.proofs.Math.Option.{Option, none, some}
use Rattle.tender.specs.declared.Tender.{Tender}
use Rattle.cells.specs.Cells.{cell, RangeAdded}
use Rattle.reader_forms.specs.Line.{TenderLine, BidLine, Line, tender, bid, reserve}
use Rattle.reader_parts.specs.Flaws.{Flaws, flaw_of, is_empty, is_late}
use Rattle.reader_forms.specs.Tally.{put_windows, Tally, tally, tender_note, bid_note, reserve_note, noted}
use Rattle.tender.specs.declared.Refusal.{Refusal}
use Rattle.tender.specs.declared.Refusal.TheVariants.{BadForm, ReserveMisplaced}
use Rattle.tender.specs.Tables.{bid_width}
use Rattle.reader_text.specs.Read.{bid_fault_in, bid_fault_after}
use Rattle.reader_text.proofs.FaultLaws.{flaw_told}
use Rattle.reader_bids.specs.Steps.{row_numbers, verdict, Step, took, Judged, Taken}

pub is_sound : (line : ℕ) (o : Option (ℕ → Refusal)) → Ok tt ≡ verdict line o → o ≡ none
is_sound line none e = refl
is_sound line (some f) e = let z : ◌≡◌ {A = ℕ} 0 1 = cc in absurd (omega arith)

-- a bid that was noted
record Noted (n p c : ℕ) (flaw : Flaws) (m : ℕ) (old new : List ℕ) (b : BidLine) : Type 0 where
  bidder_is : n ≡ b.bidder
  price_is : p ≡ b.price
  count_is : c ≡ length b.windows
  flaw_is : flaw ≡ flaw_of b.windows
  windows_are : new ≡ put_windows old m b.windows

noted_bid : (n p c : ℕ) (flaw : Flaws) (m : ℕ) (old new : List ℕ) (b : BidLine)
    → some (bid_note n p (record { count = c; flaw = flaw; table = new })) ≡ noted m old (some (bid b)) → Noted n p c flaw m old new b
unfolding noted tally
noted_bid n p c flaw m old new b e =
    let t : ◌≡◌ {A = Tally} (record { count = c; flaw = flaw; table = new }) (tally m 0 None old b.windows) = cc in
    record {
      bidder_is = cc;
      price_is = cc;
      count_is = ap (λ (x : Tally). x.count) t ∙ zero-add (length b.windows);
      flaw_is = ap (λ (x : Tally). x.flaw) t;
      windows_are = ap (λ (x : Tally). x.table) t ∙ ap (λ i. put_windows old i b.windows) (add-zero m);
    }

module _ (next : ℕ) (T : Tender) (line k m : ℕ) (used rows windows : List ℕ) (r : Step) (used' rows' windows' : List ℕ) where
  pub taken_broken : (o : Option Line) → none ≡ noted m windows o → r ≡ Err (BadForm line)
      → Taken o next T line k m used rows windows r used' rows' windows'
  unfolding noted
  taken_broken none e h = h
  taken_broken (some (tender t)) e h = let z : ◌≡◌ {A = ℕ} 0 1 = cc in absurd (omega arith)
  taken_broken (some (bid b)) e h = let z : ◌≡◌ {A = ℕ} 0 1 = cc in absurd (omega arith)
  taken_broken (some (reserve v)) e h = let z : ◌≡◌ {A = ℕ} 0 1 = cc in absurd (omega arith)

  pub taken_tender : (o : Option Line) (t : TenderLine) → some (tender_note t) ≡ noted m windows o → r ≡ Err (BadForm line)
      → Taken o next T line k m used rows windows r used' rows' windows'
  unfolding noted
  taken_tender none t e h = let z : ◌≡◌ {A = ℕ} 0 1 = cc in absurd (omega arith)
  taken_tender (some (tender u)) t e h = h
  taken_tender (some (bid b)) t e h = let z : ◌≡◌ {A = ℕ} 0 1 = cc in absurd (omega arith)
  taken_tender (some (reserve v)) t e h = let z : ◌≡◌ {A = ℕ} 0 1 = cc in absurd (omega arith)

  pub taken_reserve : (o : Option Line) (v : ℕ) → some (reserve_note v) ≡ noted m windows o
      → r ≡ Err (ReserveMisplaced line)
      → Taken o next T line k m used rows windows r used' rows' windows'
  unfolding noted
  taken_reserve none v e h = let z : ◌≡◌ {A = ℕ} 0 1 = cc in absurd (omega arith)
  taken_reserve (some (tender t)) v e h = let z : ◌≡◌ {A = ℕ} 0 1 = cc in absurd (omega arith)
  taken_reserve (some (bid b)) v e h = let z : ◌≡◌ {A = ℕ} 0 1 = cc in absurd (omega arith)
  taken_reserve (some (reserve w)) v e h = h

  module _ (n p c : ℕ) (flaw : Flaws) where
    -- judged by what is noted
    noted_fault : (b : BidLine) → Noted n p c flaw m windows windows' b →
        bid_fault_in T k n p c (is_empty flaw) (is_late flaw) (eqb (cell used n) 1)
        ≡ bid_fault_after T k b (eqb (cell used b.bidder) 1)
    unfolding bid_fault_after
    noted_fault b x = rw (x.bidder_is, x.price_is, x.count_is, x.flaw_is)
        (flaw_told T k b.bidder b.price (length b.windows) b.windows (eqb (cell used b.bidder) 1))

    pub taken_fault : (o : Option Line) → some (bid_note n p (record { count = c; flaw = flaw; table = windows' })) ≡ noted m windows o
        → (x : Refusal) → Err x ≡ verdict line (bid_fault_in T k n p c (is_empty flaw) (is_late flaw) (eqb (cell used n) 1))
        → r ≡ Err x → Taken o next T line k m used rows windows r used' rows' windows'
    unfolding noted
    taken_fault none e x g h = let z : ◌≡◌ {A = ℕ} 0 1 = cc in absurd (omega arith)
    taken_fault (some (tender u)) e x g h = let z : ◌≡◌ {A = ℕ} 0 1 = cc in absurd (omega arith)
    taken_fault (some (reserve v)) e x g h = let z : ◌≡◌ {A = ℕ} 0 1 = cc in absurd (omega arith)
    taken_fault (some (bid b)) e x g h =
        go (bid_fault_after T k b (eqb (cell used b.bidder) 1))
        (g ∙ ap (verdict line) (noted_fault b (noted_bid n p c flaw m windows windows' b e)))
      where
        go : (f : Option (ℕ → Refusal)) → Err x ≡ verdict line f
            → Judged f b next line k m used rows windows r used' rows' windows'
        go none q = let z : ◌≡◌ {A = ℕ} 0 1 = cc in absurd (omega arith)
        go (some f) q = h ∙ ap Err (cc)

    pub taken_sound : (o : Option Line) → some (bid_note n p (record { count = c; flaw = flaw; table = windows' })) ≡ noted m windows o
        → bid_fault_in T k n p c (is_empty flaw) (is_late flaw) (eqb (cell used n) 1) ≡ none →
        r ≡ took c next →
        rows' ≡ take (bid_width * k) rows ++ row_numbers (record { bidder = n; price = p; first = m; count = c })
        ++ drop (bid_width * k + bid_width) rows → RangeAdded n (n + 1) used used' →
        Taken o next T line k m used rows windows r used' rows' windows'
    unfolding noted
    taken_sound none e g q s t = let z : ◌≡◌ {A = ℕ} 0 1 = cc in absurd (omega arith)
    taken_sound (some (tender u)) e g q s t = let z : ◌≡◌ {A = ℕ} 0 1 = cc in absurd (omega arith)
    taken_sound (some (reserve v)) e g q s t = let z : ◌≡◌ {A = ℕ} 0 1 = cc in absurd (omega arith)
    taken_sound (some (bid b)) e g q s t =
        let x = noted_bid n p c flaw m windows windows' b e in
        let y : bid_fault_after T k b (eqb (cell used b.bidder) 1) ≡ none = sym (noted_fault b x) ∙ g in
        rw y (record {
          answer = q ∙ ap (λ n. took n next) x.count_is;
          row = rw (x.bidder_is, x.price_is, x.count_is) at s;
          own = x.windows_are;
          mark = rw x.bidder_is at t;
        })
