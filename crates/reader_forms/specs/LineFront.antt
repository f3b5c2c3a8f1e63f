-- A line read from the front of bytes, byte by byte, up to its byte 10. `LineFrontLaws` says that this is the line of the bytes before
-- the first byte 10.
use Rattle.std.specs.Prelude.{ℕ, zero, suc, List, [], ◌∷◌, ◌++◌, cond, length, take, drop, eqb}
use Rattle.std.proofs.Math.Option.{Option, none, some}
use Rattle.tender.specs.declared.Kind.{Kind}
use Rattle.tender.specs.declared.Kind.TheVariants.{Single, Multi}
use Rattle.tender.specs.declared.Window.{Window}
use Rattle.tender.specs.Keywords.{tender_word, bid_word, reserve_word, single_word, multi_word}
use Rattle.reader_parts.specs.Scan.{to_next}
use Rattle.reader_parts.specs.Front.{Front, got, wrong, onward, past, fork, number_front, price_front, span_front, window_front}
use Rattle.reader_forms.specs.Line.{Line, tender, bid, reserve}

-- the bytes before the first byte 10, and those after it
abbrev pub first_line : List ℕ → List ℕ
first_line s = take (to_next 10 s) s

abbrev pub next_lines : List ℕ → List ℕ
next_lines s = drop (suc (to_next 10 s)) s

-- a value, where there is one, and the bytes after it
unfoldable pub fronted : {A : Type 0} → Option A → List ℕ → Front A
fronted none s = wrong
fronted (some a) s = got a s

-- ")" and byte 10
unfoldable pub ending : {A : Type 0} → A → List ℕ → Front A
unfolding past
ending a s = past 41 s (λ r. past 10 r (λ t. got a t))

-- windows up to the end of the line, n of them at the most
unfoldable pub windows_within : ℕ → List ℕ → Front (List Window)
unfolding onward fork ending window_front
windows_within zero s = wrong
windows_within (suc n) s = onward (window_front s) (λ w r.
    fork 41 r (ending (w ∷ []) r) (onward (windows_within n r) (λ ws t. got (w ∷ ws) t)))

-- each has a byte at least
unfoldable pub windows_front : List ℕ → Front (List Window)
unfolding windows_within
windows_front s = windows_within (length s) s

-- after "(bid ": bidder, price and the windows
unfoldable pub bid_front : List ℕ → Front Line
unfolding onward past number_front price_front windows_front
bid_front s = onward (number_front s) (λ y r. past 32 r (λ t. onward (price_front t)
    (λ v u. onward (windows_front u) (λ ws x. got (bid (record { bidder = y; price = v; windows = ws })) x))))

-- after "(reserve ": a price and the end of the line
unfoldable pub reserve_front : List ℕ → Front Line
unfolding onward price_front ending
reserve_front s = onward (price_front s) (λ v r. ending (reserve v) r)

-- what is read after the word where it stands next, else another
unfoldable pub after_word : {A : Type 0} → List ℕ → List ℕ → (List ℕ → Front A) → Front A → Front A
after_word [] s f other = f s
after_word (d ∷ w) [] f other = other
after_word (d ∷ w) (b ∷ s) f other = cond (eqb b d) (after_word w s f other) other

-- after the kind: start, end, a bracket and byte 10
unfoldable pub kind_front : Kind → List ℕ → Front Line
unfolding onward past span_front
kind_front k s = onward (span_front s) (λ w r. past 10 r (λ t. got (tender (record { kind = k; window = w })) t))

-- after "(tender ": kind, start, end
unfoldable pub tender_front : List ℕ → Front Line
unfolding after_word kind_front
tender_front s = after_word (single_word ++ 32 ∷ []) s (kind_front Single) (after_word (multi_word ++ 32 ∷ []) s (kind_front Multi) wrong)

unfoldable pub line_front : List ℕ → Front Line
unfolding after_word tender_front bid_front reserve_front
line_front s =
    after_word (40 ∷ tender_word ++ 32 ∷ []) s tender_front
    (after_word (40 ∷ bid_word ++ 32 ∷ []) s bid_front
    (after_word (40 ∷ reserve_word ++ 32 ∷ []) s reserve_front wrong))
