-- The digits of a number: the last one by itself, and how many there are.
use Prim.Native.Nat.{◌%◌, ◌+◌, ◌/◌, ◌<◌, ◌^◌, ◌≤◌, suc, zero, ℕ}
use borrow.Author.Tests.{le-ltb, lt-ltb}
use lib.Dec.{ltb}
use lib.ListN.{length, length-append}
use mathlib.Core.Bool.{Bool, cond, false, true}
use mathlib.Core.List.{List, [], ◌++◌, ◌∷◌}
use mathlib.Core.Path.{◌∙◌, ◌≡◌, ap, sym}
use native.Mathlib.Decide.{dec_lt}
use native.Mathlib.Nat.{div-lt_iff_lt-mul, pow-suc}
use native.Mathlib.Omega.{arith}
use Rattle.language.specs.Text.Number.{digits_of, print_nat}

few : (k n : ℕ) → n < 10 → digits_of (suc k) n ≡ (48 + n) ∷ []
unfolding digits_of
few k n h = rw (lt-ltb n 10 h)

many : (k n : ℕ) → 10 ≤ n → digits_of (suc k) n ≡ digits_of k (n / 10) ++ ((48 + n % 10) ∷ [])
unfolding digits_of
many k n h = rw (le-ltb n 10 h)

-- more digits allowed than there are changes nothing
fuel : (k n : ℕ) → n < 10 ^ suc k → digits_of (suc k) n ≡ digits_of (suc (suc k)) n
fuel zero n h = let l : n < 10 = omega arith in few 0 n l ∙ sym (few 1 n l)
fuel (suc k) n h = by (dec_lt n 10) (fuel k (n / 10))
  where
    by : Dec (n < 10) → (n / 10 < 10 ^ suc k → digits_of (suc k) (n / 10) ≡ digits_of (suc (suc k)) (n / 10)) → digits_of (suc (suc k)) n ≡ digits_of (suc (suc (suc k))) n
    by (yes l) ih = few (suc k) n l ∙ sym (few (suc (suc k)) n l)
    by (no l) ih =
        let m : 10 ≤ n = omega arith in
        let s : n / 10 < 10 ^ suc k = (div-lt_iff_lt-mul {k = 10} {x = n} {y = 10 ^ suc k} (omega arith)).1 (rw (pow-suc 10 (suc k)) at h) in
        many (suc k) n m ∙ ap (λ (ds : List ℕ). ds ++ ((48 + n % 10) ∷ [])) (ih s) ∙ sym (many (suc (suc k)) n m)

pub print_few : (n : ℕ) → n < 10 → print_nat n ≡ (48 + n) ∷ []
unfolding print_nat
print_few n h = few 19 n h

pub print_more : (n : ℕ) → 10 ≤ n → n ≤ 2 ^ 63 → print_nat n ≡ print_nat (n / 10) ++ ((48 + n % 10) ∷ [])
unfolding print_nat
print_more n h m = many 19 n h ∙ ap (λ (ds : List ℕ). ds ++ ((48 + n % 10) ∷ [])) (fuel 18 (n / 10) (omega arith))

-- no more than 20 digits are printed
digits_few : (k n : ℕ) → length (digits_of k n) ≤ k
unfolding digits_of
digits_few zero n = omega arith
digits_few (suc k) n = by (ltb n 10) (digits_few k (n / 10))
  where
    by : (q : Bool) → length (digits_of k (n / 10)) ≤ k → length (cond q ((48 + n) ∷ []) (digits_of k (n / 10) ++ ((48 + n % 10) ∷ []))) ≤ suc k
    by true h = omega arith
    by false h = omega (arith, length-append (digits_of k (n / 10)) ((48 + n % 10) ∷ []))

pub digits_most : (n : ℕ) → length (print_nat n) ≤ 20
unfolding print_nat
digits_most n = digits_few 20 n
