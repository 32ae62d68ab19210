-- The classes of fields as the code has them, and the range of each class of numbers.
use Rattle.std.specs.Prelude.{◌+◌, ◌-◌, ◌≤◌, ℕ, cond, eqb, nat_abs, neg_ℤ, pos, ℤ, length, List, ◌≡◌, None, Some}
use Rattle.std.proofs.Math.Option.{none, some}
use Rattle.language.specs.Limits.{max_amount, max_back, max_labels, max_months, max_party}
use Rattle.language.specs.Text.Classes.{ranged}
use Rattle.language.specs.Text.Letters.{Class, delay, divisor, figure, from_node, label, party}
use Rattle.language.specs.Text.Number.{read_number}
use Rattle.fields.specs.declared.field.Class as coded
use Rattle.fields.specs.declared.field.Class.TheVariants.{Delay, Divisor, Figure, FromNode, Label, Month, Party}
use Rattle.fields.specs.declared.field.Range.{Range}
use Rattle.fields.specs.declared.numbers.Number.{Number}
use Rattle.std.specs.Prelude as std

-- 1 figure, 2 delay, 4 label, 5 months from the node, 6 divisor, 7 month, any other a party
unfoldable pub class_numbered : ℕ → coded.Class
class_numbered n =
    cond (eqb n 1) Figure
    (cond (eqb n 2) Delay
    (cond (eqb n 4) Label
    (cond (eqb n 5) FromNode
    (cond (eqb n 6) Divisor
    (cond (eqb n 7) Month Party)))))

-- of a field that is one number (a month is read apart)
unfoldable pub class_of : coded.Class → Class
class_of Figure = figure
class_of Delay = delay
class_of Party = party
class_of Label = label
class_of FromNode = from_node
class_of Divisor = divisor
class_of Month = party

abbrev pub from : ℤ → ℤ → Range
from low high = record { low = low; high = high }

abbrev pub range_of : coded.Class → Range
range_of Figure = from (neg_ℤ (pos max_amount)) (pos max_amount)
range_of Delay = from (pos 0) (pos max_months)
range_of Party = from (pos 1) (pos max_party)
range_of Label = from (pos 0) (pos (max_labels - 1))
range_of FromNode = from (neg_ℤ (pos max_back)) (pos max_months)
range_of Divisor = from (pos 1) (pos max_amount)
range_of Month = from (pos 1) (pos max_party)

-- a range within what the code reads
pub record Limited (range : Range) : Type 0 where
  pub low : nat_abs range.low ≤ max_amount
  pub high : nat_abs range.high ≤ max_amount

-- f read as a number within a range
pub record Within (range : Range) (f : List ℕ) (at : ℕ) (z : ℤ) (end : ℕ) : Type 0 where
  pub is : ranged range.low range.high (read_number f) ≡ some z
  pub ends : end ≡ at + length f

abbrev pub RangedIs : Range → List ℕ → ℕ → std.Option Number → Type 0
RangedIs range f at (Some it) = Within range f at it.value it.end
RangedIs range f at None = ranged range.low range.high (read_number f) ≡ none
