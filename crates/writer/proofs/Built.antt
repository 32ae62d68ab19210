-- The rows of amounts, tests and delays in the form say what their nodes say.
use Prim.Native.Nat.{ℕ}
use lib.IntN.{pos, ℤ}
use mathlib.Core.List.{[], ◌∷◌}
use mathlib.Core.Path.{◌≡◌, ap, refl}
use native.Mathlib.Nat.{mod-eq_of_lt}
use Rattle.language.specs.Text.Classes.{Field, a_number, print_field}
use Rattle.language.specs.Text.Form.{delay_in_form, fields_of_amount, fields_of_test}
use Rattle.language.specs.Text.Letters.{AmountLetter, Form, TestLetter, amount_row, letter_among, letter_in, of_amount, of_test, payoff_row, plan_row, row_of, test_row}
use Rattle.language.specs.Text.Reader.{Trees, end, print_fields}
use Rattle.language.specs.Text.Trees.{Amount, Delay, Test, choose, conjunction, difference, disjunction, equal, index, less, months, negation, number, product, quotient, setting, sum}
use Rattle.language.specs.Text.Typed.{amount_tree, test_tree}
use Rattle.nodes.specs.Rows.{delay_slot, field_slots, slots_of}
use Rattle.writer.proofs.Tables.{RowSays, Says}
use Rattle.writer.specs.Written.{classes_of, delay_of, fields_from, fields_of_row}

pub delay_back : (d : Delay) → delay_in_form d → delay_of (delay_slot d) ≡ d
unfolding delay_slot
delay_back (months n) h = refl
delay_back (setting k) h = ap setting (mod-eq_of_lt h)

-- ---- single rows

module _ {P : Type 0} (form : Form P) where
  -- a letter without fields
  abbrev BareAmount : AmountLetter → Type 0
  BareAmount l = (c : Trees P) → RowSays form (of_amount l) [] c

  bare_amounts : BareAmount AmountLetter.A × BareAmount AmountLetter.U × BareAmount AmountLetter.K × BareAmount AmountLetter.I
  unfolding fields_of_row classes_of letter_in letter_among row_of payoff_row plan_row amount_row test_row fields_from slots_of field_slots print_fields print_field
  bare_amounts = (
    λ c. record { fields = λ links rest. refl },
    λ c. record { fields = λ links rest. refl },
    λ c. record { fields = λ links rest. refl },
    λ c. record { fields = λ links rest. refl },
  )

  pub bare_test : (l : TestLetter) (c : Trees P) → RowSays form (of_test l) [] c
  unfolding fields_of_row classes_of letter_in letter_among row_of payoff_row plan_row amount_row test_row fields_from slots_of field_slots print_fields print_field
  bare_test TestLetter.G c = record { fields = λ links rest. refl }
  bare_test TestLetter.E c = record { fields = λ links rest. refl }
  bare_test TestLetter.Y c = record { fields = λ links rest. refl }
  bare_test TestLetter.«V» c = record { fields = λ links rest. refl }
  bare_test TestLetter.R c = record { fields = λ links rest. refl }

  pub number_says : (z : ℤ) (c : Trees P) → RowSays form (of_amount AmountLetter.N) (a_number z ∷ []) c
  unfolding fields_of_row classes_of letter_in letter_among row_of payoff_row plan_row amount_row test_row fields_from slots_of field_slots print_fields print_field
  number_says z c = record { fields = λ links rest. refl }

  pub quotient_says : (z : ℤ) (c : Trees P) → RowSays form (of_amount AmountLetter.Q) (a_number z ∷ []) c
  unfolding fields_of_row classes_of letter_in letter_among row_of payoff_row plan_row amount_row test_row fields_from slots_of field_slots print_fields print_field
  quotient_says z c = record { fields = λ links rest. refl }

-- ---- trees; `good` says which months an `O` may have

module _ {P M : Type 0} (form : Form P) (when : M → Field) (good : M → Type 0)
    (index_says : (l : ℕ) (i : M) → good i → RowSays form (of_amount AmountLetter.O) (a_number (pos l) ∷ when i ∷ []) end) where
  mutual
    unfolding amount_tree fields_of_amount Says

    pub says_amount : (a : Amount M) → fields_of_amount good a → (r : Trees P) → Says form r → Says form (amount_tree when a r)
    says_amount (number z) h r s = (number_says form z end, tt, s)
    says_amount (index l i) h r s = (index_says l i h.1, tt, s)
    says_amount (sum a b) h r s = ((bare_amounts form).0 _, says_amount a h.0 (amount_tree when b end) (says_amount b h.1 end tt), s)
    says_amount (difference a b) h r s = ((bare_amounts form).1 _, says_amount a h.0 (amount_tree when b end) (says_amount b h.1 end tt), s)
    says_amount (product a b) h r s = ((bare_amounts form).2 _, says_amount a h.0 (amount_tree when b end) (says_amount b h.1 end tt), s)
    says_amount (quotient n a) h r s = (quotient_says form (pos n) _, says_amount a h.2 end tt, s)
    says_amount (choose t a b) h r s =
        ((bare_amounts form).3 _, says_test t h.0 (amount_tree when a (amount_tree when b end)) (says_amount a h.1 (amount_tree when b end) (says_amount b h.2 end tt)), s)

    pub says_test : (t : Test M) → fields_of_test good t → (r : Trees P) → Says form r → Says form (test_tree when t r)
    says_test (less a b) h r s = (bare_test form TestLetter.G _, says_amount a h.0 (amount_tree when b end) (says_amount b h.1 end tt), s)
    says_test (equal a b) h r s = (bare_test form TestLetter.E _, says_amount a h.0 (amount_tree when b end) (says_amount b h.1 end tt), s)
    says_test (conjunction t u) h r s = (bare_test form TestLetter.Y _, says_test t h.0 (test_tree when u end) (says_test u h.1 end tt), s)
    says_test (disjunction t u) h r s = (bare_test form TestLetter.«V» _, says_test t h.0 (test_tree when u end) (says_test u h.1 end tt), s)
    says_test (negation t) h r s = (bare_test form TestLetter.R _, says_test t h end tt, s)
