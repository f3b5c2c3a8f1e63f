-- The walk over a text's bids by the places where its lines begin. Assumes nothing.
use Rattle.std.specs.Prelude.{ℕ, ◌+◌, ◌*◌, ◌≤◌, ◌<◌, ◌≡◌, refl, List, [], ◌∷◌, length, drop, Err}
use Rattle.std.proofs.Math.Option.{Option, some}
use Rattle.std.proofs.Common.{arith, length-drop, length-take-le}
use Rattle.tender.specs.declared.Tender.{Tender}
use Rattle.tender.specs.declared.Refusal.{Refusal}
use Rattle.reader_parts.specs.Words.{cut}
use Rattle.reader_parts.specs.Scan.{to_next, Ended}
use Rattle.reader_forms.specs.Line.{BidLine, Line, bid, line_of, lines_of}
use Rattle.reader_forms.specs.LineFront.{first_line}
use Rattle.reader_forms.proofs.SizeLaws.{line_long}
use Rattle.reader_forms.proofs.EndedLaws.{ended_in, lines_on}
use Rattle.reader_text.specs.Read.{ReadOutcome, refused, checked}
use Rattle.reader_bids.specs.Steps.{Step, took, Taken}
use Rattle.reader_bids.specs.FillsLaws.{Walk, taken_bid, goes, stops}

-- the windows of the text up to the end of the next line
room_for : (text : List ℕ) (i m : ℕ) → Ended text → i < length text → 6 * m ≤ i → (b : BidLine)
    → line_of (first_line (drop i text)) ≡ some (bid b) → 6 * (m + length b.windows) ≤ i + to_next 10 (drop i text) + 1
room_for text i m x h l b q =
    let n : length (first_line (drop i text)) ≡ to_next 10 (drop i text) =
    length-take-le (to_next 10 (drop i text)) (drop i text) (rw length-drop (omega (arith, ended_in text i x h))) in
    omega (arith, (line_long (first_line (drop i text)) b q).1)

-- the line at i was taken
module _ (T : Tender) (from : ℕ) (whole : List (Option Line)) (text : List ℕ) (i line k m : ℕ)
    (used rows windows used' rows' windows' : List ℕ) (x : Ended text) (h : i < length text)
    (w : Walk T from whole (lines_of (cut 10 (drop i text))) line k m used rows windows) (r : Step)
    (t : Taken (line_of (first_line (drop i text))) (i + to_next 10 (drop i text) + 1) T line k m used rows windows r used' rows'
    windows')
  where
    here : Walk T from whole (line_of (first_line (drop i text)) ∷ lines_of (cut 10 (drop (i + to_next 10 (drop i text) + 1) text)))
        line k m used rows windows
    here = rw (lines_on text i x h) at w

    -- it is faulty
    pub walk_stops : (y : Refusal) → r ≡ Err y → (out : ReadOutcome) → checked T from [] whole out ≡ refused y
    walk_stops y q out = stops T from whole (lines_of (cut 10 (drop (i + to_next 10 (drop i text) + 1) text)))
        (i + to_next 10 (drop i text) + 1) line k m used rows windows used' rows' windows' (line_of (first_line (drop i text))) here r t
        y q out

    -- it is a bid, and the walk goes on at e
    pub walk_goes : length text ≤ 65536 → 6 * m ≤ i → length used' ≡ length used → length rows' ≡ length rows
        → length windows' ≡ length windows → (c e : ℕ) → r ≡ took c e
        → Walk T from whole (lines_of (cut 10 (drop e text))) (line + 1) (k + 1) (m + c) used' rows' windows'
        × (i < e)
        × (e ≤ length text)
        × (6 * (m + c) ≤ e)
    walk_goes s l lu lr lw c e q =
        let o = line_of (first_line (drop i text)) in
        let next = i + to_next 10 (drop i text) + 1 in
        let a = ended_in text i x h in
        let n : next ≡ e = taken_bid (λ c e. next ≡ e) T next line k m used rows windows used' rows' windows' r c e q o t
        (λ b z. refl) in
        let g = goes T from whole (lines_of (cut 10 (drop next text))) next line k m used rows windows used' rows' windows' o here r t
        lu lr lw c e q (λ b z. omega (arith, room_for text i m x h l b z, a)) in
        let y = taken_bid (λ c e. 6 * (m + c) ≤ e) T next line k m used rows windows used' rows' windows' r c e q o t
        (λ b z. room_for text i m x h l b z) in
        (rw n at g, omega (arith, n), omega (arith, n, a), y)
