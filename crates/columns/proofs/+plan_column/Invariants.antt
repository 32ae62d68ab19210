use borrow.Author.Rules.{rules}
use mathlib.Core.Path.{◌∙◌, ◌≡◌, refl, sym}
use native.Mathlib.Omega.{arith}
use Rattle.columns.proofs.ColumnNodes as node
use Rattle.language.proofs.Payoff.Sizes.{unit_one}
use Rattle.pays.proofs.PlanNodes.{plan_inside}
use Rattle.pays.proofs.PlanParts.{delay_small, later_is, month_small}
use Rattle.language.specs.Calls.{sign_of}
use lib.ListN.{length}
use Prim.Native.Nat.{ℕ, ◌<◌}
use Rattle.columns.proofs.+plan_column.Given as goal

abbrev pub decreases-plan_column : goal.decreases-plan_column
decreases-plan_column l = l.left
