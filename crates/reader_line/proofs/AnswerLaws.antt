-- What a line read from a place on tells, and where it ends. Assumes nothing.
use Rattle.std.specs.Prelude.{ℕ, suc, ◌+◌, ◌≤◌, ◌<◌, List, length, Some, None}
use Rattle.std.proofs.Math.Path.{◌≡◌, refl}
use Rattle.std.proofs.Common.{ap, ◌∙◌, arith, length-drop}
use Rattle.std.proofs.Math.Option.{Option, none, some}
use Rattle.std.proofs.Math.ListN.{drop}
use Rattle.tender.specs.declared.Kind.{Kind}
use Rattle.tender.specs.declared.Span.{Span}
use Rattle.tender.specs.declared.Window.{Window}
use Rattle.reader_parts.specs.Scan.{to_next, Ended}
use Rattle.reader_parts.specs.Front.{Front, got, wrong, onward}
use Rattle.reader_parts.specs.Flaws.{Flaws}
use Rattle.reader_parts.specs.Answer.{Reading, read_place}
use Rattle.reader_forms.specs.Line.{Line, tender, reserve, line_of}
use Rattle.reader_forms.specs.LineFront.{first_line, next_lines, fronted, line_front}
use Rattle.reader_forms.proofs.LineFrontLaws.{line_front_lem}
use Rattle.reader_forms.proofs.EndedLaws.{ended_in}
use Rattle.reader_forms.specs.Tally.{Tally, tally, noted}
use Rattle.reader_line.specs.Answer.{with_windows, tallied_front, noted_front, told_front, told_line, EndsAfter}
use Rattle.reader_line.specs.declared.line.Line as line
use Rattle.reader_line.specs.declared.line.Line.TheVariants as lineIs

-- a line as it is noted

pub noted_wrong : (s : List ℕ) (x : Front Line) → x ≡ wrong → (m : ℕ) (table : List ℕ)
    → told_front s None table ≡ noted_front m table x
unfolding noted_front onward fronted
noted_wrong s x e m table = rw e

pub noted_reserve : (s : List ℕ) (v : ℕ) (x : Front Line) (e : ℕ) → x ≡ got (reserve v) (drop e s)
    → (m : ℕ) (table : List ℕ)
    → told_front s (Some (record { value = lineIs.Reserve v; next = e })) table ≡ noted_front m table x
unfolding noted_front onward fronted noted
noted_reserve s v x e q m table = rw q

pub noted_tender : (s : List ℕ) (k : Kind) (w : Span) (x : Front Line) (e : ℕ)
    → x ≡ got (tender (record { kind = k; window = w })) (drop e s) → (m : ℕ) (table : List ℕ)
    → told_front s (Some (record { value = lineIs.Tender k w; next = e })) table ≡ noted_front m table x
unfolding noted_front onward fronted noted
noted_tender s k w x e q m table = rw q

-- a bid's windows as they are held, and the bid as it is noted
module _ (s : List ℕ) (m : ℕ) (table later : List ℕ) (y v : ℕ) where
  pub bid_broken : (x : Front (List Window)) → wrong ≡ tallied_front m 0 None table x
      → told_front s None later ≡ noted_front m table (with_windows y v x)
  unfolding tallied_front noted_front onward fronted
  bid_broken wrong e = refl
  bid_broken (got ws t) e = let z : ◌≡◌ {A = ℕ} 0 1 = cc in absurd (omega arith)

  pub bid_told : (c : ℕ) (flaw : Flaws) (e : ℕ) (x : Front (List Window))
      → got (record { count = c; flaw = flaw; table = later }) (drop e s) ≡ tallied_front m 0 None table x
      → told_front s (Some (record { value = lineIs.Bid y v c flaw; next = e })) later ≡ noted_front m table (with_windows y v x)
  unfolding tallied_front noted_front onward fronted noted
  bid_told c flaw e wrong h = let z : ◌≡◌ {A = ℕ} 0 1 = cc in absurd (omega arith)
  bid_told c flaw e (got ws t) h =
      let a : ◌≡◌ {A = Tally} (record { count = c; flaw = flaw; table = later }) (tally m 0 None table ws) = cc in
      let b : drop e s ≡ t = cc in
      rw (a, b)

-- a value, where there is one

pub fronted_value : {A : Type 0} (o p : Option A) (s t : List ℕ) → fronted o s ≡ fronted p t → o ≡ p
unfolding fronted
fronted_value none none s t e = refl
fronted_value none (some b) s t e = let z : ◌≡◌ {A = ℕ} 0 1 = cc in absurd (omega arith)
fronted_value (some a) none s t e = let z : ◌≡◌ {A = ℕ} 0 1 = cc in absurd (omega arith)
fronted_value (some a) (some b) s t e = cc

fronted_rest : {A : Type 0} (a : A) (p : Option A) (s t : List ℕ) → fronted (some a) s ≡ fronted p t → s ≡ t
unfolding fronted
fronted_rest a none s t e = let z : ◌≡◌ {A = ℕ} 0 1 = cc in absurd (omega arith)
fronted_rest a (some b) s t e = cc

noted_fronted : (m : ℕ) (table : List ℕ) (o : Option Line) (t : List ℕ)
    → noted_front m table (fronted o t) ≡ fronted (noted m table o) t
unfolding noted_front fronted onward noted
noted_fronted m table none t = refl
noted_fronted m table (some l) t = refl

module _ (s : List ℕ) (at : ℕ) (h : at < length s) (ended : Ended s) where
  inside : to_next 10 (drop at s) < length (drop at s)
  inside = rw length-drop (omega (arith, ended_in s at ended h))

  place : (e : ℕ) → e ≤ length s → drop e s ≡ next_lines (drop at s) → at + to_next 10 (drop at s) + 1 ≡ e
  place e l q =
      omega (arith, inside, length-drop e s, length-drop at s, length-drop (suc (to_next 10 (drop at s))) (drop at s), ap length q)

  -- by the line that the answer tells, where the place is past it

  module _ (m : ℕ) (table later : List ℕ) (o : Option Line) (r : Reading line.Line)
      (q : told_front s r later ≡ noted_front m table (fronted o (next_lines (drop at s))))
    where
      fronts : told_front s r later ≡ fronted (noted m table o) (next_lines (drop at s))
      fronts = q ∙ noted_fronted m table o (next_lines (drop at s))

      pub told_as : told_line r later ≡ noted m table o
      told_as = fronted_value (told_line r later) (noted m table o) (drop (read_place r) s) (next_lines (drop at s)) fronts

  pub told_after : (m : ℕ) (table later : List ℕ) (o : Option Line) (r : Reading line.Line)
      → told_front s r later ≡ noted_front m table (fronted o (next_lines (drop at s))) → read_place r ≤ length s
      → EndsAfter s at r
  told_after m table later o None q l = tt
  told_after m table later o (Some r) q l =
      (place r.next l (fronted_rest _ _ _ _ (fronts m table later o (Some r) q)), l)

  pub line_is : line_front (drop at s) ≡ fronted (line_of (first_line (drop at s))) (next_lines (drop at s))
  line_is = line_front_lem (drop at s) inside

  module _ (m : ℕ) (table later : List ℕ) (r : Reading line.Line)
      (q : told_front s r later ≡ noted_front m table (line_front (drop at s)))
    where
      pub line_told : told_line r later ≡ noted m table (line_of (first_line (drop at s)))
      line_told = told_as m table later _ r (q ∙ ap (noted_front m table) line_is)

      pub line_after : read_place r ≤ length s → EndsAfter s at r
      line_after = told_after m table later _ r (q ∙ ap (noted_front m table) line_is)
