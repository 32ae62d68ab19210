-- Changes of amounts and tests that leave all but the indexes as they are.
use Prim.Native.Nat.{ℕ}
use lib.IntN.{ℤ}
use mathlib.Core.Path.{refl}
use Rattle.amounts.specs.Placed.{placed_amount, placed_test}
use Rattle.copies.proofs.AmountsCopied.{Keeps}
use Rattle.language.specs.Payments.Amounts.{Lookup}
use Rattle.language.specs.Payments.Step.{step_amount, step_test}

pub placed_keeps : (place : ℕ → ℤ → ℤ) → Keeps (placed_amount place) (placed_test place)
unfolding placed_amount placed_test
placed_keeps place = record {
  of_number = λ n. refl;
  of_sum = λ a b. refl;
  of_difference = λ a b. refl;
  of_product = λ a b. refl;
  of_quotient = λ n a. refl;
  of_choose = λ t a b. refl;
  of_less = λ a b. refl;
  of_equal = λ a b. refl;
  of_conjunction = λ s t. refl;
  of_disjunction = λ s t. refl;
  of_negation = λ t. refl;
}

pub step_keeps : (idx : Lookup) (r : ℕ) → Keeps (step_amount idx r) (step_test idx r)
unfolding step_amount step_test
step_keeps idx r = record {
  of_number = λ n. refl;
  of_sum = λ a b. refl;
  of_difference = λ a b. refl;
  of_product = λ a b. refl;
  of_quotient = λ n a. refl;
  of_choose = λ t a b. refl;
  of_less = λ a b. refl;
  of_equal = λ a b. refl;
  of_conjunction = λ s t. refl;
  of_disjunction = λ s t. refl;
  of_negation = λ t. refl;
}
