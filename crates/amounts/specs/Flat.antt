-- The values that amounts read: one flat list of all labels' values.
use Rattle.std.specs.Prelude.{nat_abs, pos, ℤ, get_or, List}
use Rattle.integers.specs.Rounding.{floor_z}
use Rattle.language.specs.Payments.Amounts.{Lookup}

-- an `O` here has the place of its value for month 0 as its offset, so a month and the offset make a place of the list, whatever the label
unfoldable pub flat : List ℤ → Lookup
flat values = record { look = λ label place. get_or values (nat_abs place) (pos 0); round = floor_z }
