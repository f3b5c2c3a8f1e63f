-- Bytes made in a buffer of their own are copied into the lent one where there is room, and else nothing is. Assumes nothing.
use Rattle.std.specs.Prelude.{◌≡◌, Bool, true, false, cond, List, ◌++◌, ℕ, ◌≤◌, ◌<◌, length, take, drop, leb}
use Rattle.std.proofs.Common.{ap, sym, ◌∙◌, arith, le-leb}
use Rattle.std.proofs.Math.Seq.{take-append_seam}
use Rattle.std.proofs.lemmas.Bool.{lt-leb}
use Rattle.spelling.specs.Written.{Written}
use Rattle.spelling.proofs.WritingLaws.{from_start}
use Rattle.spelling.specs.Delivered.{Delivered}

pub delivered_none : (out old : List ℕ) → length old < length out → Delivered out old old 0
delivered_none out old l =
    let e : leb (length out) (length old) ≡ false = lt-leb (length out) (length old) l in
    record { answer = rw e; bytes = rw e }

pub delivered_all : {out old new : List ℕ} {r : ℕ} → length out ≤ length old → Written old 0 out new r → Delivered out old new r
delivered_all {out} {old} {new} {r} l w =
    let e : leb (length out) (length old) ≡ true = le-leb (length out) (length old) l in
    let k : length out ≡ r = omega (arith, w.next) in
    record { answer = rw e (sym k); bytes = rw (e, k) (from_start old out new r w) }

-- what a call shows are the bytes
pub delivered_is : {out old new : List ℕ} {r : ℕ} → Delivered out old new r → 0 < r → take r new ≡ out
delivered_is {out} {old} {new} {r} h l = go (leb (length out) (length old)) h.answer h.bytes
  where
    go : (b : Bool) → r ≡ cond b (length out) 0 → new ≡ cond b (out ++ drop (length out) old) old → take r new ≡ out
    go true a e = rw (a, e) (take-append_seam out (drop (length out) old))
    go false a e = absurd (omega arith)

-- two calls that have the same bytes show the same
pub same_shown : {out old new old' new' : List ℕ} {r r' : ℕ} → Delivered out old new r → Delivered out old' new' r'
    → 0 < r → 0 < r'
    → take r new ≡ take r' new'
same_shown h h' l l' = delivered_is h l ∙ sym (delivered_is h' l')

-- a line made in a buffer of its own

module _ {made mid line : List ℕ} {n : ℕ} (w : Written made 0 line mid n) where
  line_is : take n mid ≡ line
  line_is = w.text

  pub line_size : length (take n mid) ≡ n
  line_size = omega (arith, ap length line_is, w.next)

  pub line_delivered : {old new : List ℕ} {r : ℕ} → Delivered (take n mid) old new r → Delivered line old new r
  line_delivered d = rw line_is at d
