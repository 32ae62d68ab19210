use mathlib.Core.Path.{◌≡◌, refl}
use mir.Syntax.{w64}
use mir.Val.{SFits}
use native.Mathlib.Omega.{arith}
use borrow.Author.Rules.{rules}
use Rattle.integers.proofs.Locals.{rd}
use Rattle.nodes.specs.Letters.{letter_of_amount}
use Rattle.nodes.specs.Table.{nat_of}
use Rattle.nodes.specs.declared.AmountLetter.{AmountLetter}
use Rattle.nodes.specs.declared.AmountLetter.TheVariants as amount
use Rattle.nodes.specs.declared.TestLetter.{TestLetter}
use Rattle.nodes.specs.declared.TestLetter.TheVariants as test
use Rattle.amounts.proofs.AmountArms as amount-arms
use Rattle.amounts.proofs.FourMonths.{each}
use Rattle.amounts.proofs.Nodes.{AmountNode, TestNode, amount_inside, amount_node, index_key, number_key, test_inside, test_node}
use Rattle.amounts.proofs.TestArms as test-arms
use Rattle.amounts.specs.Fine.{Fine, FineTest}
use Rattle.amounts.specs.FourMonths.{held_in, pence_in}
use Prim.Native.Nat.{◌*◌, ◌+◌, ◌<◌, ℕ}
use Rattle.amounts.proofs.Tables.+amounts_operands_tests.Given as goal

abbrev pub decreases-amounts : goal.decreases-amounts
decreases-amounts l = 2 * l.left

abbrev pub decreases-operands : goal.decreases-operands
decreases-operands l = 2 * l.left + 1

abbrev pub decreases-tests : goal.decreases-tests
decreases-tests l = 2 * l.left
