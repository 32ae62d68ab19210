-- The letters of tests, by their bytes.
use Prim.Native.Nat.{ℕ}
use Rattle.integers.specs.Equal.{eq_z}
use Rattle.nodes.specs.Letters.{letter_of_amount, letter_of_test}
use Rattle.nodes.specs.declared.AmountLetter.TheVariants as amount
use Rattle.nodes.specs.declared.TestLetter.TheVariants as test
use Rattle.nodes.specs.declared.TestLetter.{TestLetter}
use borrow.Author.Tests.{eqb-true}
use lib.IntN.{negsuc, pos, ℤ}
use mathlib.Core.Bool.{Bool, cond, false, false≢true, true}
use mathlib.Core.Path.{◌∙◌, ◌≡◌, ap, refl}

pub byte_of : (x : ℤ) (n : ℕ) → eq_z x (pos n) ≡ true → x ≡ pos n
byte_of (pos m) n e = ap pos (eqb-true m n e)
byte_of (negsuc m) n e = absurd (false≢true e)

abbrev pub is_test : TestLetter → Bool
is_test test.Less = true
is_test test.Equal = true
is_test test.Conjunction = true
is_test test.Disjunction = true
is_test test.Negation = true
is_test test.NoTest = false

-- the letter of a test is the letter of no amount
pub test_no_amount : (x : ℤ) {m : TestLetter} → letter_of_test x ≡ m → is_test m ≡ true → letter_of_amount x ≡ amount.NoAmount
unfolding letter_of_test letter_of_amount
test_no_amount x {m} e h =
    by (eq_z x (pos 71)) (eq_z x (pos 69)) (eq_z x (pos 89)) (eq_z x (pos 86)) (eq_z x (pos 82)) refl refl refl refl refl (ap is_test e ∙ h)
  where
    by : (g u y v n : Bool) → eq_z x (pos 71) ≡ g → eq_z x (pos 69) ≡ u → eq_z x (pos 89) ≡ y → eq_z x (pos 86) ≡ v → eq_z x (pos 82) ≡ n
        → is_test (cond g test.Less (cond u test.Equal (cond y test.Conjunction (cond v test.Disjunction (cond n test.Negation test.NoTest))))) ≡ true → letter_of_amount x ≡ amount.NoAmount
    by true u y v n eg eu ey ev en t = rw (byte_of x 71 eg) refl
    by false true y v n eg eu ey ev en t = rw (byte_of x 69 eu) refl
    by false false true v n eg eu ey ev en t = rw (byte_of x 89 ey) refl
    by false false false true n eg eu ey ev en t = rw (byte_of x 86 ev) refl
    by false false false false true eg eu ey ev en t = rw (byte_of x 82 en) refl
    by false false false false false eg eu ey ev en t = absurd (false≢true t)
