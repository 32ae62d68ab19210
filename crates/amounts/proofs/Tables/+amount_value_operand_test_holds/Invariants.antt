use Prim.Native.Nat.{◌*◌, ◌+◌, ◌<◌, ℕ}
use borrow.Author.Rules.{rules}
use mathlib.Core.Path.{◌≡◌, refl}
use mir.Syntax.{w64}
use mir.Val.{SFits}
use native.Mathlib.Omega.{arith}
use Rattle.integers.proofs.Locals.{rd}
use Rattle.nodes.specs.Letters.{letter_of_amount}
use Rattle.nodes.specs.Table.{nat_of}
use Rattle.nodes.specs.declared.AmountLetter.{AmountLetter}
use Rattle.nodes.specs.declared.AmountLetter.TheVariants as amount
use Rattle.nodes.specs.declared.TestLetter.{TestLetter}
use Rattle.nodes.specs.declared.TestLetter.TheVariants as test
use Rattle.amounts.proofs.AmountArms as amount-arms
use Rattle.amounts.proofs.Nodes.{AmountNode, TestNode, amount_inside, amount_node, index_key, number_key, test_inside, test_node}
use Rattle.amounts.proofs.TestArms as test-arms
use Rattle.amounts.specs.Fine.{Fine, FineTest}
use Rattle.amounts.proofs.Tables.+amount_value_operand_test_holds.Given as goal

abbrev pub decreases-amount_value : goal.decreases-amount_value
decreases-amount_value l = 2 * l.left

abbrev pub decreases-operand : goal.decreases-operand
decreases-operand l = 2 * l.left + 1

abbrev pub decreases-test_holds : goal.decreases-test_holds
decreases-test_holds l = 2 * l.left
