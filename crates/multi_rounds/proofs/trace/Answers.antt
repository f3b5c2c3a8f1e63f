-- `multi_rounds::trace` meets its contract: the rounds so far are written down, and each closes a cell at least. Assumes nothing.
-- the cells of the pairs are the bid's among those held
use Prim.Native.Nat.{ℕ, ◌+◌, ◌-◌, ◌%◌, ◌≤◌}
use mathlib.Core.Path.{◌≡◌, refl, ◌∙◌}
use mathlib.Core.Bool.{Bool, ◌&&◌}
use mathlib.Core.List.{List}
use native.Mathlib.Omega.{arith}
use lib.ListN.{length, length-set}
use lib.Dec.{eqb}
use Rattle.cells.specs.Cells.{cell}
use Rattle.cells_pairs.specs.Pairs.{in_pairs, Cut}
use Rattle.multi_keys.specs.Keys.{last}
use Rattle.multi_market.specs.Market.{word_row, has}
use Rattle.multi_market.proofs.WordRowLaws.{known, row_in}
use Rattle.multi_market.proofs.OpensLaws.{reach_open}
use Rattle.multi_rounds.specs.TracingLaws.{Tracing, trace_starts, inside, gains, fits, room_left, fewer_open, goes, ends}
use Rattle.multi_rounds.proofs.trace.Goals as goal

row_has : (ms : List ℕ) (w b : ℕ) {held old new : List ℕ} {a z : ℕ} → Cut held (word_row ms w b) old new a z
    → (x : ℕ)
    → in_pairs new a (z - a) x ≡ (eqb (cell held x) 1 && has ms w b x)
unfolding has
row_has ms w b u = u.cells

-- the run is what the code stored
stored : {has : ℕ → ℕ → Bool} {ps : List ℕ} {w n : ℕ} {held keys run new tape : List ℕ} {r c : ℕ} → new ≡ run
    → Tracing has ps w n held keys run tape r c
    → Tracing has ps w n held keys new tape r c
stored e t = rw e t

pub loop-f-init : goal.loop-f-init
loop-f-init c =
    let P = known c.args.bids.market c.args.bids.hopping c.requires in let Q = P.1.1.1.1 in (
      refl,
      (
        refl,
        (
          refl,
          (trace_starts c.args.run.now P.0.priced Q.1.1.0 Q.1.0 Q.0 Q.1.1.1.0, (P.1.1.1.0, P.1.1.0)),
        ),
      ),
    )

pub returns-then-key-gt-LAST : goal.returns-then-key-gt-LAST
returns-then-key-gt-LAST c =
    let P = known c.args.bids.market c.args.bids.hopping c.requires in let e = c.loop-f.invariant.0 in let f = c.front-f.ensures in
    let most : length c.loop-f.held ≤ 158 = omega (arith, e, P.0.words) in
    (rw e at (ends P.0.priced most c.loop-f.invariant.1.1.1.0 f.1.0 c.if-key-gt-LAST.true), (f.1.1, f.0.size))

pub cut-z-requires : goal.cut-z-requires
cut-z-requires c =
    let P = known c.args.bids.market c.args.bids.hopping c.requires in let A = c.args in let v = c.loop-f.invariant in let e = v.0 in
    let s = v.1.1.1.0 in
    let key = c.front-f.result.key in let f = c.front-f.ensures.1.0 in
    let most : length c.loop-f.held ≤ 158 = omega (arith, e, P.0.words) in
    let l : key ≤ last = omega (arith, c.if-key-gt-LAST.false) in
    let i = inside P.0.priced most s f l in (
      most,
      (
        row_in A.bids.prices.now A.bids.masks.now (length c.loop-f.held) (key % 1024) (rw (← e) at P.0) i,
        (
          P.1.0.size,
          (
            rw e (P.1.0.each (key % 1024) i),
            (
              omega (arith, fits P.0.priced most s f l, gains P.0.priced most s f l, v.1.1.0, P.1.1.1.1.1.1.1.1),
              omega (arith, s.space, P.1.1.1.1.1.1.0, P.0.words),
            ),
          ),
        ),
      ),
    )

pub bounds-run-r-in-loop-f-3 : goal.bounds-run-r-in-loop-f-3
bounds-run-r-in-loop-f-3 c =
    let P = known c.args.bids.market c.args.bids.hopping c.requires in let e = c.loop-f.invariant.0 in let s = c.loop-f.invariant.1.1.1.0 in
    let most : length c.loop-f.held ≤ 158 = omega (arith, e, P.0.words) in
    let l : c.front-f.result.key ≤ last = omega (arith, c.if-key-gt-LAST.false) in
    simp length-set (omega (arith, room_left P.0.priced most s c.front-f.ensures.1.0 l, s.rows))

pub loop-f-smaller : goal.loop-f-smaller
loop-f-smaller c =
    let P = known c.args.bids.market c.args.bids.hopping c.requires in let v = c.loop-f.invariant in let e = v.0 in let s = v.1.1.1.0 in
    let A = c.args in
    let key = c.front-f.result.key in let f = c.front-f.ensures.1.0 in let u = c.cut-z.ensures in let p = P.0.priced in
    let held = c.loop-f.held in let k = c.close_pairs in
    let most : length held ≤ 158 = omega (arith, e, P.0.words) in let l : key ≤ last = omega (arith, c.if-key-gt-LAST.false) in
    let few : c.cut-z.result ≤ c.loop-f.c + c.front-f.result.cells
    = omega (arith, u.few, gains p most s f l, reach_open held A.bids.masks.now (length held) (key % 1024)) in
    let on = row_has A.bids.masks.now (length held) (key % 1024) u in
    fewer_open p most s f l c.cut-z.auto.tape u.paired few u.kept on k.auto.held k.ensures.0

pub loop-f-preserved : goal.loop-f-preserved
loop-f-preserved c =
    let P = known c.args.bids.market c.args.bids.hopping c.requires in let v = c.loop-f.invariant in let e = v.0 in let s = v.1.1.1.0 in
    let A = c.args in
    let key = c.front-f.result.key in let f = c.front-f.ensures.1.0 in let u = c.cut-z.ensures in let p = P.0.priced in
    let held = c.loop-f.held in let k = c.close_pairs in
    let most : length held ≤ 158 = omega (arith, e, P.0.words) in let l : key ≤ last = omega (arith, c.if-key-gt-LAST.false) in
    let few : c.cut-z.result ≤ c.loop-f.c + c.front-f.result.cells
    = omega (arith, u.few, gains p most s f l, reach_open held A.bids.masks.now (length held) (key % 1024)) in
    let on = row_has A.bids.masks.now (length held) (key % 1024) u in
    let g = goes p most s f l c.cut-z.auto.tape u.paired few u.kept on k.auto.held k.ensures.0 in (
      k.auto.held ∙ e,
      (
        simp length-set (v.1.0 ∙ simp length-set),
        (
          c.cut-z.auto.tape ∙ v.1.1.0,
          (rw (c.put.ensures.1, k.auto.held) (stored (cc) g), (c.put.ensures.0, k.ensures.1)),
        ),
      ),
    )
