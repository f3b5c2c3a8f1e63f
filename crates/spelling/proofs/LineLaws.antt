-- How long numbers and the lines of one number or two are. Assumes nothing.
use Rattle.std.specs.Prelude.{◌≡◌, refl, Bool, true, false, cond, List, [], ◌∷◌, ◌++◌, ℕ, zero, suc, ◌+◌, ◌/◌}
use Rattle.std.specs.Prelude.{◌%◌, ◌≤◌, ◌<◌, length, ltb}
use Rattle.std.proofs.Common.{arith, length-append}
use Rattle.tender.specs.declared.Kind.{Kind}
use Rattle.tender.specs.declared.Kind.TheVariants.{Single, Multi}
use Rattle.tender.specs.declared.Refusal.{Refusal}
use Rattle.tender.specs.Refusals.{number_of, place_of}
use Rattle.tender.specs.Keywords.{bytes, single_word, multi_word}
use Rattle.spelling.specs.Decimal.{digits_before, decimal}
use Rattle.spelling.specs.Lines.{closing, numbers, pair_line, one_line, kind_word, refused_word, refused_line}

short : (f n : ℕ) (done : List ℕ) → length (digits_before f n done) ≤ f + length done
unfolding digits_before
short zero n done = omega arith
short (suc f) n done = go (ltb n 10) (short f (n / 10) ((48 + n % 10) ∷ done))
  where
    go : (t : Bool) → length (digits_before f (n / 10) ((48 + n % 10) ∷ done)) ≤ f + suc (length done) →
        length (cond t ((48 + n % 10) ∷ done) (digits_before f (n / 10) ((48 + n % 10) ∷ done))) ≤ suc f + length done
    go true l = omega arith
    go false l = omega arith

pub decimal_short : (n : ℕ) → length (decimal n) ≤ 20
unfolding decimal
decimal_short n = omega (arith, short 20 n [])

pub numbers_short : (a b : ℕ) → length (numbers a b) ≤ 44
unfolding numbers closing bytes
numbers_short a b = omega (
  arith,
  decimal_short a,
  decimal_short b,
  length-append (32 ∷ decimal a) (32 ∷ decimal b),
  length-append ((32 ∷ decimal a) ++ (32 ∷ decimal b)) (41 ∷ 10 ∷ []),
)

pub kind_short : (k : Kind) → length (kind_word k) ≤ 6
unfolding kind_word single_word multi_word bytes
kind_short Single = omega arith
kind_short Multi = omega arith

pub pair_short : (word : List ℕ) (a b : ℕ) → length (pair_line word a b) ≤ 45 + length word
unfolding pair_line
pair_short word a b = omega (arith, numbers_short a b, length-append (40 ∷ []) word, length-append ((40 ∷ []) ++ word) (numbers a b))

pub pair_some : (word : List ℕ) (a b : ℕ) → 0 < length (pair_line word a b)
unfolding pair_line
pair_some word a b = omega (arith, length-append (40 ∷ []) word, length-append ((40 ∷ []) ++ word) (numbers a b))

pub one_short : (word : List ℕ) (a : ℕ) → length (one_line word a) ≤ 24 + length word
unfolding one_line closing bytes
one_short word a = omega (
  arith,
  decimal_short a,
  length-append (40 ∷ []) word,
  length-append ((40 ∷ []) ++ word) (32 ∷ decimal a),
  length-append ((40 ∷ []) ++ word ++ (32 ∷ decimal a)) (41 ∷ 10 ∷ []),
)

pub refusal_few : (n at : ℕ) → length (pair_line refused_word n at) ≤ 52
unfolding refused_word bytes
refusal_few n at = omega (arith, pair_short (114 ∷ 101 ∷ 102 ∷ 117 ∷ 115 ∷ 101 ∷ 100 ∷ []) n at)

-- the line of a refusal

pub refused_line_lem : (r : Refusal) → refused_line r ≡ pair_line refused_word (number_of r) (place_of r)
unfolding refused_line
refused_line_lem r = refl

pub refused_short : (r : Refusal) → length (refused_line r) ≤ 52
refused_short r = rw (refused_line_lem r) (refusal_few (number_of r) (place_of r))

pub refused_some : (r : Refusal) → 0 < length (refused_line r)
refused_some r = rw (refused_line_lem r) (pair_some refused_word (number_of r) (place_of r))
