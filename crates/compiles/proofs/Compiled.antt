-- The rows of an amount or test, copied with the month so far added to each `O`, are those of the payoff's amount or test.
use Prim.Native.Nat.{◌*◌, ◌-◌, ◌<◌, ℕ}
use lib.IntN.{pos, ℤ}
use lib.ListN.{drop}
use mathlib.Core.List.{List, ◌++◌}
use mathlib.Core.Path.{◌≡◌, refl}
use Rattle.compiles.proofs.Delays.{offset_known}
use Rattle.compiles.specs.Months.{compiled_row, compiled_index}
use Rattle.copies.proofs.AmountsCopied.{Keeps, amount_becomes, same_keeps, test_becomes}
use Rattle.copies.proofs.Becoming.{end_becomes, lying_becomes}
use Rattle.copies.specs.Copied.{changed_rows}
use Rattle.copies.specs.Lies.{Lies}
use Rattle.copies.specs.Plain.{plain_last, plain_rows}
use Rattle.language.specs.Limits.{max_labels}
use Rattle.language.specs.Payoff.Compile.{map_amount, map_test, offset}
use Rattle.language.specs.Text.Classes.{a_month, a_number}
use Rattle.language.specs.Text.Form.{fields_of_amount, fields_of_test, offset_in_form}
use Rattle.language.specs.Text.Letters.{PayoffLetter, amount_row, payoff_form, row_of}
use Rattle.language.specs.Text.Reader.{Trees, end}
use Rattle.language.specs.Text.Trees.{Amount, Month, Test, index}
use Rattle.language.specs.Text.Typed.{amount_tree, test_tree}
use Rattle.nodes.specs.Rows.{field_slots, settings_slot, slots_of}

pub map_keeps : {M N : Type 0} (f : M → N) → Keeps (map_amount f) (map_test f)
unfolding map_amount map_test
map_keeps f = record {
  of_number = λ n. refl;
  of_sum = λ a b. refl;
  of_difference = λ a b. refl;
  of_product = λ a b. refl;
  of_quotient = λ n a. refl;
  of_choose = λ t a b. refl;
  of_less = λ a b. refl;
  of_equal = λ a b. refl;
  of_conjunction = λ s t. refl;
  of_disjunction = λ s t. refl;
  of_negation = λ t. refl;
}

module _ (plain digits : ℤ) (c : Month) (ep : plain ≡ c.plain) (ed : digits ≡ pos (settings_slot c.settings)) where
  same : (l : ℕ) (i : ℤ) → ◌≡◌ {A = Amount ℤ} (index l i) (index l i)
  same l i = refl

  index_becomes : (l : ℕ) (i : ℤ) → l < max_labels → offset_in_form i → (u : Trees PayoffLetter)
      → plain_rows payoff_form (amount_tree a_month (map_amount (offset c) (index l i)) u) ≡ compiled_index plain digits (pos l) i ++ plain_rows payoff_form u
  unfolding map_amount offset amount_tree plain_rows plain_last row_of amount_row slots_of field_slots compiled_index
  index_becomes l i b g u = rw (offset_known plain i g, ep, ed) refl

  module _ {nodes : List ℤ} {from to : ℕ} where
    pub amount_compiled : (a : Amount ℤ) → fields_of_amount offset_in_form a → Lies nodes from to (amount_tree a_number a end)
        → changed_rows (compiled_row plain digits) (to - from) (drop (from * 5) nodes) ≡ plain_rows payoff_form (amount_tree a_month (map_amount (offset c) a) end)
    amount_compiled a g l =
        lying_becomes (compiled_row plain digits) payoff_form l
        (amount_becomes payoff_form a_month (compiled_index plain digits) offset_in_form (λ x. x) (λ t. t) same_keeps (map_amount (offset c)) (map_test (offset c)) (map_keeps (offset c)) (λ l i. i) same index_becomes a g (end_becomes (compiled_row plain digits) payoff_form))

    pub test_compiled : (t : Test ℤ) → fields_of_test offset_in_form t → Lies nodes from to (test_tree a_number t end)
        → changed_rows (compiled_row plain digits) (to - from) (drop (from * 5) nodes) ≡ plain_rows payoff_form (test_tree a_month (map_test (offset c) t) end)
    test_compiled t g l =
        lying_becomes (compiled_row plain digits) payoff_form l
        (test_becomes payoff_form a_month (compiled_index plain digits) offset_in_form (λ x. x) (λ t. t) same_keeps (map_amount (offset c)) (map_test (offset c)) (map_keeps (offset c)) (λ l i. i) same index_becomes t g (end_becomes (compiled_row plain digits) payoff_form))
