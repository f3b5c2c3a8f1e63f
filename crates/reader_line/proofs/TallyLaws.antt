-- For a reader that walks a bid's windows and holds only their number and what is wrong with them. Assumes nothing.
use Rattle.std.specs.Prelude.{◌≡◌, List, [], ◌∷◌, ℕ, ◌+◌, ◌*◌, ◌≤◌, ◌<◌, take, drop, get_or, set}
use Rattle.std.proofs.Math.Path.{refl}
use Rattle.std.proofs.Common.{◌∙◌}
use native.Mathlib.Omega.{arith}
use Rattle.std.proofs.Math.ListN.{length}
use Rattle.std.proofs.lemmas.List.{take-set-le}
use Rattle.tender.specs.declared.Window.{Window}
use Rattle.tender.specs.Tables.{window_width}
use Rattle.reader_parts.specs.Flaws.{Flaws, flaw_in, worst}
use Rattle.reader_parts.proofs.FlawLaws.{worst_more, worst_last}
use Rattle.reader_parts.specs.Front.{Front, got, wrong, onward, fork, window_front}
use Rattle.reader_parts.specs.Answer.{ReadAt}
use Rattle.reader_parts.proofs.PlaceLaws.{fork_here, fork_other}
use Rattle.reader_forms.specs.LineFront.{ending, windows_front}
use Rattle.reader_forms.proofs.WindowsFrontLaws.{windows_step}
use Rattle.reader_forms.proofs.EndingLaws.{ending_whole, ending_unended}
use Rattle.reader_forms.specs.Tally.{put_window, tally}
use Rattle.reader_line.specs.Answer.{tallied_front}

-- a window in row k leaves the rows before m
pub rows_before : (table : List ℕ) (m k : ℕ) (w : Window) → m ≤ k
    → take (window_width * m) (put_window table k w) ≡ take (window_width * m) table
unfolding put_window
rows_before table m k w l =
    take-set-le (window_width * m) (set table (window_width * k) w.start) (window_width * k + 1) w.end (omega arith)
    ∙ take-set-le (window_width * m) table (window_width * k) w.start (omega arith)

module _ (m n : ℕ) (flaw : Flaws) (table : List ℕ) (w : Window) where
  -- one window and more
  step : (x : Front (List Window)) → tallied_front m n flaw table (onward x (λ ws t. got (w ∷ ws) t))
      ≡ tallied_front m (n + 1) (worst flaw (flaw_in w)) (put_window table (m + n) w) x
  unfolding tallied_front tally onward
  step wrong = refl
  step (got ws t) =
      let e : n + length (w ∷ ws) ≡ n + 1 + length ws = omega arith in
      let f : m + n + 1 ≡ m + (n + 1) = omega arith in
      rw (e, f, worst_more flaw w ws)

  -- one alone
  last : tally m n flaw table (w ∷ []) ≡ record { count = n + 1; flaw = worst flaw (flaw_in w); table = put_window table (m + n) w }
  unfolding tally
  last = rw (worst_last flaw w)

module _ (s : List ℕ) (m n : ℕ) (flaw : Flaws) (table : List ℕ) (i : ℕ) where
  pub tally_wrong : window_front (drop i s) ≡ wrong → tallied_front m n flaw table (windows_front (drop i s)) ≡ wrong
  unfolding tallied_front onward
  tally_wrong e = rw (windows_step (drop i s)) (rw e)

  module _ (w : Window) (q : ℕ) (x : ReadAt (window_front (drop i s)) s (i + 2) w q) where
    opened : windows_front (drop i s) ≡ fork 41 (drop q s) (ending (w ∷ []) (drop q s))
        (onward (windows_front (drop q s)) (λ ws t. got (w ∷ ws) t))
    unfolding onward
    opened = windows_step (drop i s) ∙ rw x.is

    -- no bracket after the window: more windows
    pub tally_more : (get_or s q 0 ≡ 41 → ⊥) → tallied_front m n flaw table (windows_front (drop i s))
        ≡ tallied_front m (n + 1) (worst flaw (flaw_in w)) (put_window table (m + n) w) (windows_front (drop q s))
    tally_more d = rw (opened, fork_other s q x.inside 41 _ _ d) (step m n flaw table w (windows_front (drop q s)))

    module _ (d : get_or s q 0 ≡ 41) (k : q + 1 < length s) where
      pub tally_last : get_or s (q + 1) 0 ≡ 10 → tallied_front m n flaw table (windows_front (drop i s))
          ≡ got (record { count = n + 1; flaw = worst flaw (flaw_in w); table = put_window table (m + n) w }) (drop (q + 2) s)
      unfolding tallied_front onward
      tally_last e = rw (opened ∙ fork_here s q x.inside 41 _ _ d ∙ ending_whole s q x.inside (w ∷ []) d k e)
          (rw (last m n flaw table w))

      pub tally_unended : (get_or s (q + 1) 0 ≡ 10 → ⊥) → tallied_front m n flaw table (windows_front (drop i s)) ≡ wrong
      unfolding tallied_front onward
      tally_unended e = rw (opened ∙ fork_here s q x.inside 41 _ _ d ∙ ending_unended s q x.inside (w ∷ []) d k e)
