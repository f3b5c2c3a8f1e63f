-- Each run begins where some window begins and ends where some window ends, so runs are no more than the windows that they join.
-- Assumes nothing.
use Rattle.std.specs.Prelude.{◌≡◌, refl, Bool, true, false, cond, not, ◌&&◌, ◌||◌, List, [], ◌∷◌, ℕ, zero, suc}
use Rattle.std.specs.Prelude.{◌+◌, ◌≤◌, ◌<◌, length, leb, ltb, eqb}
use Rattle.std.proofs.Common.{sym, ap, ◌∙◌, arith, leb-true, ltb-true, ltb-false, lt-ltb, le-ltb, le-leb, eqb-true, eq-eqb, ne_eqb}
use Rattle.std.proofs.lemmas.Bool.{lt-leb, eqb-false}
use Rattle.tender.specs.declared.Window.{Window}
use Rattle.tender.specs.Limits.{every, lawful}
use Rattle.tender.specs.RulesLaws.{every_split}
use Rattle.cover.specs.Sets.{when}
use Rattle.cover.proofs.SetLaws.{and_split}
use Rattle.award_check.specs.Cells.{holds}
use Rattle.runs.specs.Runs.{extended, runs, joined}
use Rattle.runs.proofs.RunsLaws.{Between, runs_between}

-- the first of the n minutes from `at` on passes
abbrev pub begins_here : (ℕ → Bool) → ℕ → ℕ → Bool
begins_here P at zero = false
begins_here P at (suc n) = P at

abbrev pub starts_here : ℕ → List Window → Bool
starts_here at [] = false
starts_here at (w ∷ ws) = eqb w.start at

starts_later : (at z : ℕ) (ws : List Window) → Between (at + 1) z ws → starts_here at ws ≡ false
starts_later at z [] h = refl
starts_later at z (w ∷ ws) h = ne_eqb w.start at (λ e. omega (arith, h.0.0))

extended_starts : (at : ℕ) (ws : List Window) → starts_here at (extended at ws) ≡ true
unfolding extended
extended_starts at [] = eq-eqb at at refl
extended_starts at (w ∷ ws) = go (eqb w.start (at + 1))
  where
    go : (b : Bool) → starts_here at (cond b (record { start = at; end = w.end } ∷ ws)
        (record { start = at; end = at + 1 } ∷ w ∷ ws))
        ≡ true
    go true = eq-eqb at at refl
    go false = eq-eqb at at refl

pub runs_start : (P : ℕ → Bool) (at n : ℕ) → starts_here at (runs P at n) ≡ begins_here P at n
unfolding runs
runs_start P at zero = refl
runs_start P at (suc n) = go (P at)
  where
    go : (b : Bool) → starts_here at (cond b (extended at (runs P (at + 1) n)) (runs P (at + 1) n)) ≡ b
    go true = extended_starts at (runs P (at + 1) n)
    go false = starts_later at (at + 1 + n) (runs P (at + 1) n) (runs_between P (at + 1) n)

when_most : (b : Bool) (x : ℕ) → when b x ≤ x
when_most true x = omega arith
when_most false x = omega arith

-- the windows' starts, and their ends, each weighed
unfoldable pub starts_sum : (ℕ → ℕ) → List Window → ℕ
starts_sum g [] = 0
starts_sum g (w ∷ ws) = g w.start + starts_sum g ws

unfoldable pub ends_sum : (ℕ → ℕ) → List Window → ℕ
ends_sum g [] = 0
ends_sum g (w ∷ ws) = g w.end + ends_sum g ws

-- the minutes that pass and are the first to do so in a row; p says that the minute before passes
opens : (ℕ → ℕ) → Bool → (ℕ → Bool) → ℕ → ℕ → ℕ
opens g p P at zero = 0
opens g p P at (suc n) = when (P at && not p) (g at) + opens g (P at) P (at + 1) n

-- the minutes after those that pass and are the last to do so in a row
closes : (ℕ → ℕ) → (ℕ → Bool) → ℕ → ℕ → ℕ
closes g P at zero = 0
closes g P at (suc n) = when (P at && not (begins_here P (at + 1) n)) (g (at + 1)) + closes g P (at + 1) n

extended_ends : (g : ℕ → ℕ) (at : ℕ) (ws : List Window)
    → ends_sum g (extended at ws) ≡ when (not (starts_here (at + 1) ws)) (g (at + 1)) + ends_sum g ws
unfolding extended ends_sum
extended_ends g at [] = refl
extended_ends g at (w ∷ ws) = go (eqb w.start (at + 1))
  where
    go : (b : Bool) → ends_sum g (cond b (record { start = at; end = w.end } ∷ ws) (record { start = at; end = at + 1 } ∷ w ∷ ws))
        ≡ when (not b) (g (at + 1)) + (g w.end + ends_sum g ws)
    go true = omega arith
    go false = omega arith

runs_ends : (g : ℕ → ℕ) (P : ℕ → Bool) (at n : ℕ) → ends_sum g (runs P at n) ≡ closes g P at n
unfolding runs closes ends_sum
runs_ends g P at zero = refl
runs_ends g P at (suc n) = go (P at) (runs_ends g P (at + 1) n)
  where
    go : (b : Bool) → ends_sum g (runs P (at + 1) n) ≡ closes g P (at + 1) n
        → ends_sum g (cond b (extended at (runs P (at + 1) n)) (runs P (at + 1) n)) ≡ when (b && not (begins_here P (at + 1) n))
        (g (at + 1)) + closes g P (at + 1) n
    go true ih = extended_ends g at (runs P (at + 1) n)
        ∙ ap (λ b. when (not b) (g (at + 1)) + ends_sum g (runs P (at + 1) n)) (runs_start P (at + 1) n) ∙ omega (arith, ih)
    go false ih = omega (arith, ih)

extended_starts_sum : (g : ℕ → ℕ) (at : ℕ) (ws : List Window)
    → starts_sum g (extended at ws) + when (starts_here (at + 1) ws) (g (at + 1)) ≡ g at + starts_sum g ws
unfolding extended starts_sum
extended_starts_sum g at [] = omega arith
extended_starts_sum g at (w ∷ ws) = go (eqb w.start (at + 1)) refl
  where
    go : (b : Bool) → eqb w.start (at + 1) ≡ b
        → starts_sum g (cond b (record { start = at; end = w.end } ∷ ws) (record { start = at; end = at + 1 } ∷ w ∷ ws)) + when b
        (g (at + 1)) ≡ g at + (g w.start + starts_sum g ws)
    go true e = omega (arith, ap g (eqb-true w.start (at + 1) e))
    go false e = omega arith

opens_later : (g : ℕ → ℕ) (P : ℕ → Bool) (at n : ℕ)
    → opens g false P at n ≡ opens g true P at n + when (begins_here P at n) (g at)
unfolding opens
opens_later g P at zero = refl
opens_later g P at (suc n) = go (P at)
  where
    go : (b : Bool) → when (b && true) (g at) + opens g b P (at + 1) n ≡ when (b && false) (g at) + opens g b P (at + 1) n + when b
        (g at)
    go true = omega arith
    go false = omega arith

runs_starts : (g : ℕ → ℕ) (P : ℕ → Bool) (at n : ℕ) → starts_sum g (runs P at n) ≡ opens g false P at n
unfolding runs opens starts_sum
runs_starts g P at zero = refl
runs_starts g P at (suc n) = go (P at) (runs_starts g P (at + 1) n)
  where
    go : (b : Bool) → starts_sum g (runs P (at + 1) n) ≡ opens g false P (at + 1) n
        → starts_sum g (cond b (extended at (runs P (at + 1) n)) (runs P (at + 1) n)) ≡ when (b && true) (g at) + opens g b P (at + 1) n
    go true ih =
        let e : starts_sum g (extended at (runs P (at + 1) n)) + when (begins_here P (at + 1) n) (g (at + 1)) ≡ g at + starts_sum g
        (runs P (at + 1) n) = ap (λ b. starts_sum g (extended at (runs P (at + 1) n)) + when b (g (at + 1)))
        (sym (runs_start P (at + 1) n)) ∙ extended_starts_sum g at (runs P (at + 1) n) in
        omega (arith, ih, e, opens_later g P (at + 1) n)
    go false ih = omega (arith, ih)

when_fewer : (q i p : Bool) (x : ℕ) → when (q && not (i || p)) x ≤ when (q && not p) x
when_fewer false i p x = omega arith
when_fewer true false p x = omega arith
when_fewer true true p x = omega arith

when_later : (at s x : ℕ) → when (leb (at + 1) s) x ≤ when (leb at s) x
when_later at s x = go (leb (at + 1) s) refl
  where
    go : (b : Bool) → leb (at + 1) s ≡ b → when b x ≤ when (leb at s) x
    go true e = rw (le-leb at s (omega (arith, leb-true (at + 1) s e))) (omega arith)
    go false e = omega arith

-- what one minute adds
opens_here : (g : ℕ → ℕ) (w : Window) (at : ℕ) (i p q : Bool) → (w.start < at → at < w.end → i ≡ true) → (a b : Bool)
    → leb w.start at ≡ a → ltb at w.end ≡ b →
    when (((a && b) || q) && not (i || p)) (g at) + when (leb (at + 1) w.start) (g w.start) ≤ when (q && not p) (g at) + when
    (leb at w.start) (g w.start)
opens_here g w at i p q h false b x y = omega (arith, when_fewer q i p (g at), when_later at w.start (g w.start))
opens_here g w at i p q h true false x y = omega (arith, when_fewer q i p (g at), when_later at w.start (g w.start))
opens_here g w at i p q h true true x y = go (eqb w.start at) refl
  where
    go : (b : Bool) → eqb w.start at ≡ b → when (not (i || p)) (g at) + when (leb (at + 1) w.start) (g w.start) ≤ when
        (q && not p) (g at) + when (leb at w.start) (g w.start)
    go true e =
        let d = eqb-true w.start at e in
        rw (lt-leb (at + 1) w.start (omega arith), le-leb at w.start (omega arith))
        (omega (arith, when_most (not (i || p)) (g at), ap g d))
    go false e =
        let l : w.start < at = omega (arith, eqb-false w.start at e, leb-true w.start at x) in
        let f = h l (ltb-true at w.end y) in
        rw f (omega (arith, when_later at w.start (g w.start)))

-- one window more opens one run more at most, at its start
opens_more : (g : ℕ → ℕ) (w : Window) (ws : List Window) (at n : ℕ) (i p : Bool)
    → (w.start < at → at < w.end → i ≡ true) →
    opens g (i || p) (holds (w ∷ ws)) at n ≤ opens g p (holds ws) at n + when (leb at w.start) (g w.start)
unfolding opens holds
opens_more g w ws at zero i p h = omega arith
opens_more g w ws at (suc n) i p h = omega (
  arith,
  opens_more g w ws (at + 1) n (leb w.start at && ltb at w.end) (holds ws at)
      (λ a b. rw (le-leb w.start at (omega arith), lt-ltb at w.end (omega arith))),
  opens_here g w at i p (holds ws at) h (leb w.start at) (ltb at w.end) refl refl,
)

-- one window more closes one run more at most, at its end
closes_more : (g : ℕ → ℕ) (w : Window) (ws : List Window) (at n : ℕ) → w.end ≤ at + n
    → closes g (holds (w ∷ ws)) at n ≤ closes g (holds ws) at n + when (ltb at w.end) (g w.end)
unfolding closes holds
closes_more g w ws at zero l = omega arith
closes_more g w ws at (suc n) l = go (ltb at w.end) (ltb (at + 1) w.end) refl refl (closes_more g w ws (at + 1) n (omega arith))
  where
    in_w : ℕ → Bool
    in_w m = leb w.start m && ltb m w.end

    past : (m : ℕ) → w.end ≤ m → in_w m ≡ false
    past m h = side (leb w.start m)
      where
        side : (b : Bool) → (b && ltb m w.end) ≡ false
        side true = le-ltb m w.end h
        side false = refl

    -- inside the window its last minute is not here
    inner : (k : ℕ) → at + 1 < w.end → w.end ≤ at + suc k
        → when ((in_w at || holds ws at) && not (begins_here (holds (w ∷ ws)) (at + 1) k)) (g (at + 1)) ≤ when
        (holds ws at && not (begins_here (holds ws) (at + 1) k)) (g (at + 1))
    inner zero a b = absurd (omega arith)
    inner (suc k) a b = both (leb w.start at) refl (holds ws at) (holds ws (at + 1))
      where
        both : (s : Bool) → leb w.start at ≡ s → (p q : Bool)
            → when (((s && ltb at w.end) || p) && not (in_w (at + 1) || q)) (g (at + 1)) ≤ when (p && not q) (g (at + 1))
        both true e p q = rw (le-leb w.start (at + 1) (omega (arith, leb-true w.start at e)), lt-ltb (at + 1) w.end a)
            (none ((true && ltb at w.end) || p))
          where
            none : (b : Bool) → when (b && false) (g (at + 1)) ≤ when (p && not q) (g (at + 1))
            none true = omega arith
            none false = omega arith
        both false e p q = when_fewer p (in_w (at + 1)) q (g (at + 1))

    -- past the window nothing changes
    outer : (k : ℕ) → w.end ≤ at → when ((in_w at || holds ws at) && not (begins_here (holds (w ∷ ws)) (at + 1) k)) (g (at + 1))
        ≡ when (holds ws at && not (begins_here (holds ws) (at + 1) k)) (g (at + 1))
    outer zero a = rw (past at a)
    outer (suc k) a = rw (past at a, past (at + 1) (omega arith))

    go : (a b : Bool) → ltb at w.end ≡ a → ltb (at + 1) w.end ≡ b
        → closes g (holds (w ∷ ws)) (at + 1) n ≤ closes g (holds ws) (at + 1) n + when b (g w.end) →
        when ((in_w at || holds ws at) && not (begins_here (holds (w ∷ ws)) (at + 1) n)) (g (at + 1)) + closes g (holds (w ∷ ws))
        (at + 1) n
        ≤ when (holds ws at && not (begins_here (holds ws) (at + 1) n)) (g (at + 1)) + closes g (holds ws) (at + 1) n + when a (g w.end)
    go true true e f ih = omega (arith, ih, inner n (ltb-true (at + 1) w.end f) l)
    go true false e f ih =
        let d : at + 1 ≡ w.end = omega (arith, ltb-true at w.end e, ltb-false (at + 1) w.end f) in
        omega (arith, ih, when_most ((in_w at || holds ws at) && not (begins_here (holds (w ∷ ws)) (at + 1) n)) (g (at + 1)), ap g d)
    go false true e f ih = absurd (omega (arith, ltb-false at w.end e, ltb-true (at + 1) w.end f))
    go false false e f ih = omega (arith, ih, outer n (ltb-false at w.end e))

none_opens : (g : ℕ → ℕ) (p : Bool) (at n : ℕ) → opens g p (holds []) at n ≡ 0
unfolding opens holds
none_opens g p at zero = refl
none_opens g p at (suc n) = omega (arith, none_opens g false (at + 1) n)

none_closes : (g : ℕ → ℕ) (at n : ℕ) → closes g (holds []) at n ≡ 0
unfolding closes holds
none_closes g at zero = refl
none_closes g at (suc n) = omega (arith, none_closes g (at + 1) n)

opens_few : (g : ℕ → ℕ) (ws : List Window) → opens g false (holds ws) 0 10080 ≤ starts_sum g ws
unfolding starts_sum
opens_few g [] = omega (arith, none_opens g false 0 10080)
opens_few g (w ∷ ws) = omega (
  arith,
  opens_more g w ws 0 10080 false false (λ a b. absurd (omega arith)),
  opens_few g ws,
  when_most (leb 0 w.start) (g w.start),
)

closes_few : (g : ℕ → ℕ) (ws : List Window) → every lawful ws ≡ true → closes g (holds ws) 0 10080 ≤ ends_sum g ws
unfolding ends_sum lawful
closes_few g [] e = omega (arith, none_closes g 0 10080)
closes_few g (w ∷ ws) e =
    let a = every_split lawful w ws e in
    let b = and_split (ltb w.start w.end) (leb w.end 10080) a.0 in
    omega (
      arith,
      closes_more g w ws 0 10080 (omega (arith, leb-true w.end 10080 b.1)),
      closes_few g ws a.1,
      when_most (ltb 0 w.end) (g w.end),
    )

-- weighed, the starts and the ends of windows joined are no more than those of the windows

pub joined_starts : (g : ℕ → ℕ) (ws : List Window) → starts_sum g (joined ws) ≤ starts_sum g ws
unfolding joined
joined_starts g ws = omega (arith, runs_starts g (holds ws) 0 10080, opens_few g ws)

pub joined_ends : (g : ℕ → ℕ) (ws : List Window) → every lawful ws ≡ true → ends_sum g (joined ws) ≤ ends_sum g ws
unfolding joined
joined_ends g ws e = omega (arith, runs_ends g (holds ws) 0 10080, closes_few g ws e)

ends_length : (ws : List Window) → ends_sum (λ m. 1) ws ≡ length ws
unfolding ends_sum
ends_length [] = refl
ends_length (w ∷ ws) = omega (arith, ends_length ws)

pub joined_few : (ws : List Window) → every lawful ws ≡ true → length (joined ws) ≤ length ws
joined_few ws e = omega (arith, ends_length (joined ws), ends_length ws, joined_ends (λ m. 1) ws e)
