-- The answers for magnitude: the magnitude itself, or beyond where it is beyond the limit at the node or at one beneath.
use Rattle.std.specs.Prelude.{◌+◌, ℕ, T, leb, nat_abs, pos, ℤ, get_or, Bool, ◌&&◌, cond, List}
use Rattle.language.specs.Limits.{max_amount}
use Rattle.language.specs.Rules.Measures.{magnitude_of, magnitude_of_amount}
use Rattle.language.specs.Rules.Table.{all_of}
use Rattle.language.specs.Rules.Tests.{amount_small, plan_small}
use Rattle.language.specs.Text.Number.{between}
use Rattle.language.specs.Text.Trees.{Amount, Plan}

-- one more than the limit: what stands for every magnitude beyond it
abbrev pub beyond : ℕ
beyond = max_amount + 1

-- the magnitude n where it is within the limit everywhere, else beyond
abbrev pub measured : Bool → ℕ → ℕ
measured small n = cond small n beyond

-- what a walk for magnitude answers for an amount and for a plan
abbrev pub measured_amount : (ℕ → ℕ) → Amount ℤ → ℕ
measured_amount bound a = measured (amount_small bound a) (magnitude_of_amount bound a)

abbrev pub measured_plan : (ℕ → ℕ) → Plan ℕ → ℕ
measured_plan bound x = measured (plan_small bound x) (magnitude_of bound x)

-- two magnitudes joined, where both are within the limit and the outcome is too
unfoldable pub joined : (ℕ → ℕ → ℕ) → ℕ → ℕ → ℕ
joined op a b = measured (leb a max_amount && (leb b max_amount && leb (op a b) max_amount)) (op a b)

-- a label's bound, 0 for an absent label
abbrev pub bound_in : List ℤ → ℕ → ℕ
bound_in bounds l = nat_abs (get_or bounds l (pos 0))

-- the rule for a table's bounds
pub record InBounds (bounds : List ℤ) : Type 0 where
  pub within : T (all_of (between (pos 0) (pos max_amount)) bounds)
