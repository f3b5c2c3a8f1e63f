-- A list copied part by part, 512 at a time: the parts so far are those of the other list. Assumes nothing.
use mathlib.Core.Path.{◌≡◌, refl, sym, ap, ◌∙◌}
use mathlib.Core.List.{List, ◌++◌, append_assoc}
use Prim.Native.Nat.{ℕ, ◌+◌, ◌-◌, ◌%◌, ◌≤◌, ◌<◌}
use native.Mathlib.Omega.{arith}
use lib.ListN.{length, take, drop, length-take, length-drop, length-append}
use lib.Seq.{take-add, take_all, take_at}
use borrow.Rule.Slice.PartMut.{mid_of, post_of, put_mid, same_len_mid}

-- the first a of `to` are those of `from`
pub record Copying (from old to : List ℕ) (a : ℕ) : Type 0 where
  pub same : length to ≡ length old
  pub inside : a ≤ 2048
  pub whole : a % 512 ≡ 0
  pub first : take a to ≡ take a from

pub copy_starts : (from to : List ℕ) → Copying from to to 0
copy_starts from to = record { same = refl; inside = omega arith; whole = refl; first = refl }

pub copy_goes : {from old to new : List ℕ} {a : ℕ} → length from ≡ 2048 → length old ≡ 2048 → a < 2048
    → Copying from old to a
    → new ≡ take (a + 512 - a) (drop a from) → Copying from old (put_mid a (a + 512 - a) to new) (a + 512)
copy_goes {from} {old} {to} {new} {a} f o l s e = record {
  same = same_len_mid a (a + 512 - a) to new (new_size ∙ sym old_size) ∙ s.same;
  inside = omega (arith, s.whole);
  whole = omega (arith, s.whole);
  first = ap (take (a + 512)) (sym (append_assoc (take a to) new (post_of a (a + 512 - a) to)))
      ∙ take_at (take a to ++ new) (post_of a (a + 512 - a) to) (a + 512) both_size ∙ rw (s.first, e, part) (sym (take-add a 512 from));
}
  where
    part : a + 512 - a ≡ 512
    part = omega arith

    new_size : length new ≡ 512
    new_size = rw (e, part) (simp (length-take, length-drop) (omega (arith, s.whole)))

    old_size : length (mid_of a (a + 512 - a) to) ≡ 512
    old_size = rw part (simp (length-take, length-drop) (omega (arith, s.whole, s.same)))

    both_size : length (take a to ++ new) ≡ a + 512
    both_size = simp (length-append, length-take) (omega (arith, new_size, s.same))

pub copy_ends : {from old to : List ℕ} {a : ℕ} → length from ≡ 2048 → length old ≡ 2048 → 2048 ≤ a
    → Copying from old to a → to ≡ from
copy_ends {from} {old} {to} {a} f o l s =
    sym (take_all a to (omega (arith, s.same))) ∙ s.first ∙ take_all a from (omega arith)
