use Rattle.one_pass.proofs.Nodes.{led_divisor, unsure}
use borrow.Author.Rules.{rules}
use native.Mathlib.Omega.{arith}
use Rattle.one_pass.proofs.node.divisor_at.Goals as goal

pub returns-in-49-to-57 : goal.returns-in-49-to-57
returns-in-49-to-57 c = λ k. led_divisor (omega (arith, c.requires.1)) (omega arith) (omega arith) (c.digits_from.ensures k)

pub returns-in_default : goal.returns-in_default
returns-in_default c = unsure

pub returns-in_default-2 : goal.returns-in_default-2
returns-in_default-2 c = unsure
