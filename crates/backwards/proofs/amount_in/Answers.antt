use Rattle.amounts.proofs.Nodes.{amount_inside}
use Rattle.backwards.specs.Backs.{BackIs}
use borrow.Author.Rules.{rules}
use mathlib.Core.Path.{subst}
use native.Mathlib.Omega.{arith}
use Rattle.backwards.proofs.amount_in.Goals as goal

pub overflow_add-from : goal.overflow_add-from
overflow_add-from c = record { fits = omega (arith, (amount_inside _ _ _ c.requires.1).0) }

pub returns-in-Some : goal.returns-in-Some
returns-in-Some c = subst (BackIs _) c.in-Some.is c.worked_back.ensures
