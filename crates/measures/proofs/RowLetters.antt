-- Which rows are an `O`, by the letter of the amount or test that stands there.
use Rattle.integers.specs.Equal.{eq_z}
use Rattle.measures.specs.Rows.{holds_index}
use Rattle.nodes.proofs.TestLetters.{byte_of, is_test}
use Rattle.nodes.specs.Letters.{letter_of_amount, letter_of_test}
use Rattle.nodes.specs.declared.AmountLetter.TheVariants as amount
use Rattle.nodes.specs.declared.AmountLetter.{AmountLetter}
use Rattle.nodes.specs.declared.TestLetter.{TestLetter}
use lib.IntN.{pos, ℤ}
use mathlib.Core.Bool.{Bool, cond, false, false≢true, true}
use mathlib.Core.Path.{◌∙◌, ◌≡◌, ap, refl, sym}

abbrev pub index_amount : AmountLetter → Bool
index_amount amount.Number = false
index_amount amount.Index = true
index_amount amount.Sum = false
index_amount amount.Difference = false
index_amount amount.Product = false
index_amount amount.Quotient = false
index_amount amount.Choose = false
index_amount amount.NoAmount = false

letter_is : (x : ℤ) → index_amount (letter_of_amount x) ≡ holds_index x
unfolding letter_of_amount
letter_is x =
    by (eq_z x (pos 78)) (eq_z x (pos 79)) (eq_z x (pos 65)) (eq_z x (pos 85)) (eq_z x (pos 75)) (eq_z x (pos 81)) (eq_z x (pos 73)) (λ e. rw (byte_of x 78 e) refl)
  where
    by : (n o a u k q i : Bool) → (n ≡ true → o ≡ false)
        → index_amount (cond n amount.Number (cond o amount.Index (cond a amount.Sum (cond u amount.Difference
        (cond k amount.Product (cond q amount.Quotient (cond i amount.Choose amount.NoAmount))))))) ≡ o
    by true o a u k q i h = sym (h refl)
    by false true a u k q i h = refl
    by false false true u k q i h = refl
    by false false false true k q i h = refl
    by false false false false true q i h = refl
    by false false false false false true i h = refl
    by false false false false false false true h = refl
    by false false false false false false false h = refl

pub amount_index : (x : ℤ) → letter_of_amount x ≡ amount.Index → holds_index x ≡ true
amount_index x e = sym (letter_is x) ∙ ap index_amount e

pub amount_other : (x : ℤ) {m : AmountLetter} → letter_of_amount x ≡ m → holds_index x ≡ index_amount m
amount_other x e = sym (letter_is x) ∙ ap index_amount e

-- an `O` is the letter of no test
no_test : is_test (letter_of_test (pos 79)) ≡ false
unfolding letter_of_test
no_test = refl

pub test_other : (x : ℤ) {m : TestLetter} → letter_of_test x ≡ m → is_test m ≡ true → holds_index x ≡ false
test_other x {m} e h = by (holds_index x) refl
  where
    by : (b : Bool) → holds_index x ≡ b → b ≡ false
    by true q = absurd (false≢true (sym no_test ∙ ap (λ y. is_test (letter_of_test y)) (sym (byte_of x 79 q)) ∙ ap is_test e ∙ h))
    by false q = refl
