-- Amounts and tests worked out with their refusals, from the table's h, f, bounds and values.
use Rattle.std.specs.Prelude.{ℕ, ℤ, Bool, List}
use Rattle.language.specs.Answer.{Answer}
use Rattle.language.specs.Calls.{lookup_of}
use Rattle.language.specs.Limits.{max_amount}
use Rattle.language.specs.Payoff.Evaluate.{checked_holds, checked_value}
use Rattle.language.specs.Rules.Table.{readable}
use Rattle.language.specs.Text.Trees.{Amount, Test}
use Rattle.tables.specs.Lookup.{read_table}

-- an amount with w months waited
abbrev pub value_found : ℤ → ℤ → List ℤ → List ℤ → Amount ℤ → ℕ → Answer ℤ
value_found h f bounds values a w = checked_value (lookup_of (read_table h f bounds values)) (readable (read_table h f bounds values)) max_amount a w

-- a test
abbrev pub test_in : ℤ → ℤ → List ℤ → List ℤ → Test ℤ → ℕ → Answer Bool
test_in h f bounds values t w = checked_holds (lookup_of (read_table h f bounds values)) (readable (read_table h f bounds values)) max_amount t w
