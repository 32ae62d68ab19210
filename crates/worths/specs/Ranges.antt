-- What evaluation may rely on: months that can be added, factors within their limit.
use Rattle.std.specs.Prelude.{◌*◌, ◌+◌, ◌≤◌, ℕ, T, nat_abs, pos, ℤ, get_or, length, List, ◌≡◌}
use Rattle.std.specs.Int.Signed.{non_neg}
use Rattle.checked.specs.Ranges.{Near}
use Rattle.language.specs.Limits.{max_month, max_months, one_factor}
use Rattle.language.specs.Text.Form.{fields_of_amount, fields_of_test}
use Rattle.language.specs.Text.Trees.{Payoff, await, leaf, nil, plus, times}
use Rattle.nodes.specs.Table.{nat_of}

-- months waited, so that each of the levels left may wait 600 more
pub record WaitedAt (left : ℕ) (month : ℤ) : Type 0 where
  pub known : T (non_neg month)
  pub within : nat_of month + 600 * left ≤ max_month

-- the fields of a filled payoff are in range
unfoldable pub FieldsIn : Payoff ℕ ℤ → Type 0
FieldsIn nil = Unit {0}
FieldsIn (leaf k m p q) = Near m
FieldsIn (times a x) = fields_of_amount Near a × FieldsIn x
FieldsIn (plus x y) = FieldsIn x × FieldsIn y
FieldsIn (await d t x y) = (d ≤ max_months) × fields_of_test Near t × FieldsIn x × FieldsIn y

-- the discount factors of a table that keeps the rules
pub record Payable (f : ℤ) (factors : List ℤ) : Type 0 where
  pub known : T (non_neg f)
  pub count : length factors ≡ nat_abs f + 1
  pub small : (m : ℕ) → nat_abs (get_or factors m (pos 0)) ≤ one_factor
