-- An amount that comes is within the limit.
use Prim.Native.Nat.{ℕ}
use lib.IntN.{ℤ}
use mathlib.Core.List.{List}
use mathlib.Core.Path.{◌≡◌, sym}
use Rattle.language.specs.Calls.{lookup_of}
use Rattle.language.specs.Limits.{max_amount}
use Rattle.language.specs.Rules.Table.{readable}
use Rattle.language.specs.Text.Trees.{Amount}
use Rattle.tables.specs.Lookup.{read_table}
use Rattle.checked.proofs.Refusals.{amount_evaluated}
use Rattle.checked.specs.Answers.{SmallValued, valued_answer}
use Rattle.checked.specs.Checked.{value_found}
use Rattle.std.specs.Prelude.{Err, Ok, Result}
use Rattle.checked.specs.declared.answers.Fault.{Fault}
use Rattle.integers.specs.declared.Pence.{Pence}

pub valued_small : (h f : ℤ) (bounds values : List ℤ) (a : Amount ℤ) (w : ℕ) (v : Result Pence Fault) → valued_answer v ≡ value_found h f bounds values a w → SmallValued v
valued_small h f bounds values a w (Ok p) e = record { small = ((amount_evaluated (lookup_of (read_table h f bounds values)) (readable (read_table h f bounds values)) max_amount a w).value p.0 (sym e)).within }
valued_small h f bounds values a w (Err k) e = tt
