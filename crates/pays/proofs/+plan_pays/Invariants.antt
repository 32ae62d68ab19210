use mathlib.Core.Path.{refl, subst}
use Rattle.pays.specs.Until.{UntilIs}
use borrow.Author.Rules.{rules}
use native.Mathlib.Omega.{arith}
use Rattle.pays.proofs.PayArms as arms
use Rattle.pays.proofs.PlanNodes.{plan_inside, plan_node}
use Rattle.pays.proofs.PlanParts as parts
use Prim.Native.Nat.{ℕ, ◌<◌}
use Rattle.pays.proofs.+plan_pays.Given as goal

abbrev pub decreases-plan_pays : goal.decreases-plan_pays
decreases-plan_pays l = l.left
