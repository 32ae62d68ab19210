-- A number's digits parted at a power of ten.
use Prim.Native.Nat.{◌%◌, ◌*◌, ◌+◌, ◌/◌, ◌<◌, ◌^◌, ◌≤◌, ℕ}
use lib.ListN.{length, length-append}
use mathlib.Core.List.{List, ◌++◌, append_assoc}
use mathlib.Core.Path.{◌∙◌, ◌≡◌, ap, refl, sym}
use native.Mathlib.Nat.{div-add-mod, div-div-eq-div-mul, div-le_self, div-lt_iff_lt-mul, le-div_iff_mul-le, mod-eq_of_lt, mod-lt, mul-add-div, mul-add-mod_self_left, mul_assoc, mul-le-mul_left, mul-pos}
use native.Mathlib.Omega.{arith}
use Rattle.language.specs.Text.Number.{print_nat}
use Rattle.writer.proofs.Decimal.{print_few, print_more}
use Rattle.writer.proofs.Puts.{room_as, room_first, room_next, said, then}
use Rattle.writer.specs.Digits.{eight, four, halves, one, two}
use Rattle.writer.specs.Put.{Put}

-- from w on a number is what stands in front, and a row
pub record Splits (w : ℕ) (row : ℕ → List ℕ) : Type 0 where
  pub parts : (n : ℕ) → w ≤ n → n ≤ 2 ^ 63 → print_nat n ≡ print_nat (n / w) ++ row (n % w)

-- ---- parted twice at w, or once at its square
module _ (w n : ℕ) (h : 0 < w) where
  abbrev q : ℕ
  q = n / (w * w)

  abbrev r : ℕ
  r = n % (w * w)

  whole : n ≡ w * (w * q) + r
  whole = sym (rw (← mul_assoc w w q) (div-add-mod n (w * w)))

  upper : n / w % w ≡ r / w
  upper =
      let e : n / w ≡ w * q + r / w = ap (λ k. k / w) whole ∙ mul-add-div h (w * q) r in
      let b : r / w < w = (div-lt_iff_lt-mul {k = w} {x = r} {y = w} h).1 (mod-lt n (mul-pos h h)) in
      rw e (mul-add-mod_self_left w q (r / w) ∙ mod-eq_of_lt b)

  lower : n % w ≡ r % w
  lower = ap (λ k. k % w) whole ∙ mul-add-mod_self_left w (w * q) r

module _ (w : ℕ) (row : ℕ → List ℕ) (h : 0 < w) (s : Splits w row) where
  twice : (n : ℕ) → w * w ≤ n → n ≤ 2 ^ 63 → print_nat n ≡ print_nat (n / (w * w)) ++ halves w row (n % (w * w))
  twice n l m =
      let o : w * 1 ≤ w * w = mul-le-mul_left w h in
      let a : w ≤ n = omega (arith, o, l) in
      let b : w ≤ n / w = (le-div_iff_mul-le {k = w} {x = w} {y = n} h).1 l in
      let c : n / w ≤ 2 ^ 63 = omega (arith, div-le_self n w) in
      s.parts n a m
      ∙ ap (λ t. t ++ row (n % w)) (s.parts (n / w) b c)
      ∙ append_assoc (print_nat (n / w / w)) (row (n / w % w)) (row (n % w))
      ∙ rw (div-div-eq-div-mul n w w, upper w n h, lower w n h) refl

  pub splits_twice : Splits (w * w) (halves w row)
  splits_twice = record { parts = twice }

at_ten : Splits 10 one
at_ten = record { parts = print_more }

pub at_two : Splits 100 two
at_two = splits_twice 10 one (omega arith) at_ten

pub at_four : Splits 10_000 four
at_four = splits_twice 100 two (omega arith) at_two

pub at_eight : Splits 100_000_000 eight
at_eight = splits_twice 10_000 four (omega arith) at_four

-- ---- written: what stands in front, then the row
module _ {w : ℕ} {row : ℕ → List ℕ} (s : Splits w row) (n : ℕ) (l : w ≤ n) (m : n ≤ 2 ^ 63) where
  pub front_room : (at room : ℕ) → at + length (print_nat n) ≤ room → at + length (print_nat (n / w)) ≤ room
  front_room at room h = room_first at room (print_nat (n / w)) (row (n % w)) (room_as at room _ _ (s.parts n l m) h)

  pub row_room : {at next : ℕ} {out new : List ℕ} → at + length (print_nat n) ≤ length out → Put out new at next (print_nat (n / w)) → next + length (row (n % w)) ≤ length new
  row_room {at} {next} {out} {new} h p = room_next (row (n % w)) (room_as at (length out) _ _ (s.parts n l m) h) p

  pub parted : {at next end : ℕ} {out new last : List ℕ} → Put out new at next (print_nat (n / w)) → Put new last next end (row (n % w)) → Put out last at end (print_nat n)
  parted p o = said (sym (s.parts n l m)) (then p o)

-- ---- one digit and two
pub print_two : (n : ℕ) → 10 ≤ n → n < 100 → print_nat n ≡ two n
print_two n l h = print_more n l (omega arith) ∙ rw (print_few (n / 10) (omega arith)) refl

-- ---- how many digits
module _ (n : ℕ) where
  pub one_digit : n < 10 → 1 ≡ length (print_nat n)
  one_digit h = sym (ap length (print_few n h))

  pub two_digits : 10 ≤ n → n < 100 → 2 ≡ length (print_nat n)
  two_digits l h = sym (ap length (print_two n l h))

  -- those in front, and two or four
  pub two_more : 100 ≤ n → n ≤ 2 ^ 63 → length (print_nat n) ≡ length (print_nat (n / 100)) + 2
  two_more l m = ap length (at_two.parts n l m) ∙ length-append (print_nat (n / 100)) (two (n % 100))

  pub four_more : 10_000 ≤ n → n ≤ 2 ^ 63 → length (print_nat n) ≡ length (print_nat (n / 10_000)) + 4
  four_more l m = ap length (at_four.parts n l m) ∙ length-append (print_nat (n / 10_000)) (four (n % 10_000))

pub three_digits : (n : ℕ) → 100 ≤ n → n < 1000 → 3 ≡ length (print_nat n)
three_digits n l h = omega (arith, two_more n l (omega arith), one_digit (n / 100) (omega arith))

pub four_digits : (n : ℕ) → 1000 ≤ n → n < 10_000 → 4 ≡ length (print_nat n)
four_digits n l h = omega (arith, two_more n (omega arith) (omega arith), two_digits (n / 100) (omega arith) (omega arith))

-- `left` is in front of the digits counted so far
pub record Counting (n behind left : ℕ) : Type 0 where
  pub is : length (print_nat n) ≡ behind + length (print_nat left)
  pub small : left ≤ 2 ^ 63

pub counting_starts : (n : ℕ) → n ≤ 2 ^ 63 → Counting n 0 n
counting_starts n h = record { is = omega arith; small = h }

pub counting_on : (n behind left : ℕ) → Counting n behind left → 10_000 ≤ left → Counting n (behind + 4) (left / 10_000)
counting_on n behind left c h = record { is = omega (arith, c.is, four_more left h c.small); small = omega (arith, c.small) }
