-- Two texts that differ only in how prices are spelt are read alike, accepted or refused. Assumes nothing.
use Rattle.std.specs.Prelude.{◌≡◌, refl, List, [], ◌∷◌, ◌++◌, ℕ}
use Rattle.std.proofs.Common.{sym, ap, ◌∙◌}
use Rattle.std.proofs.Math.Option.{some}
use Rattle.tender.specs.Keywords.{bytes, tender_word, reserve_word, bid_word}
use Rattle.reader_parts.specs.Words.{and_then, cut, among, equal_bytes, price_of}
use Rattle.reader_parts.proofs.GivenLaws.{closed_back}
use Rattle.reader_parts.proofs.RejoinedLaws.{rejoined, among_append, cut_rejoined}
use Rattle.reader_forms.specs.Line.{reserve, bid_of, reserve_of, line_of_words, line_of, lines_of}
use Rattle.reader_text.specs.Read.{read_lines, read_text}
use Rattle.reader_text.specs.Differ.{bid_line, Word}
use Rattle.reader_text.specs.DifferInSpelling.{reserve_line, SameLine, same_bytes, bid_spelt, reserve_spelt, SameLines}
use Rattle.reader_text.specs.DifferInSpelling.{DifferInSpelling}
use Rattle.reader_text.proofs.BidLaws.{line_of_lem}
use Rattle.reader_text.proofs.BidChangeLaws.{short}

-- of two words of one value the same is read

bid_same : (n p q : List ℕ) (ws : List (List ℕ)) → price_of p ≡ price_of q → bid_of (n ∷ p ∷ ws) ≡ bid_of (n ∷ q ∷ ws)
unfolding bid_of
bid_same n p q ws e = rw e

reserve_words : (p : List ℕ) → Word p → cut 32 (reserve_line p) ≡ (40 ∷ reserve_word) ∷ (p ++ 41 ∷ []) ∷ []
unfolding reserve_line rejoined among reserve_word bytes
reserve_words p w = cut_rejoined 32 (40 ∷ reserve_word) ((p ++ 41 ∷ []) ∷ [])
    (refl, (among_append 32 p (41 ∷ []) w.no_space refl, tt))

reserve_of_lem : (p : List ℕ) → Word p → line_of (reserve_line p) ≡ and_then (price_of p) (λ v. some (reserve v))
unfolding line_of line_of_words equal_bytes tender_word bid_word reserve_word bytes reserve_of and_then
reserve_of_lem p w = rw (reserve_words p w, closed_back p)

line_same : (l m : List ℕ) → SameLine l m → line_of l ≡ line_of m
line_same l m (same_bytes e) = ap line_of e
line_same l m (bid_spelt n p q s wn wp wq e f g) =
    ap line_of f ∙ line_of_lem n p s wn wp ∙ bid_same n p q (cut 32 s) e ∙ sym (ap line_of g ∙ line_of_lem n q s wn wq)
line_same l m (reserve_spelt p q wp wq e f g) =
    ap line_of f ∙ reserve_of_lem p wp ∙ ap (λ o. and_then o (λ v. some (reserve v))) e ∙ sym (ap line_of g ∙ reserve_of_lem q wq)

-- the last piece, which no byte 10 ends
last_same : (l m : List ℕ) → SameLine l m → lines_of (l ∷ []) ≡ lines_of (m ∷ [])
unfolding lines_of bid_line reserve_line
last_same l m (same_bytes e) = ap (λ x. lines_of (x ∷ [])) e
last_same l m (bid_spelt n p q s wn wp wq e f g) = rw (f, g)
last_same l m (reserve_spelt p q wp wq e f g) = rw (f, g)

lines_same : (ls ms : List (List ℕ)) → SameLines ls ms → lines_of ls ≡ lines_of ms
unfolding lines_of
lines_same [] [] h = refl
lines_same [] (m ∷ ms) h = absurd h
lines_same (l ∷ ls) [] h = absurd h
lines_same (l ∷ []) (m ∷ []) h = last_same l m h.0
lines_same (l ∷ []) (m ∷ n ∷ ms) h = absurd h.1
lines_same (l ∷ k ∷ ls) (m ∷ []) h = absurd h.1
lines_same (l ∷ k ∷ ls) (m ∷ n ∷ ms) h = rw (line_same l m h.0, lines_same (k ∷ ls) (n ∷ ms) h.1)

pub spelling_law : (t u : List ℕ) → DifferInSpelling t u → read_text t ≡ read_text u
spelling_law t u d =
    short t d.left_short ∙ ap read_lines (lines_same (cut 10 t) (cut 10 u) d.lines) ∙ sym (short u d.right_short)
