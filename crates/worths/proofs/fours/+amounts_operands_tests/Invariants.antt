use mathlib.Core.Path.{◌≡◌}
use mir.Syntax.{w64}
use mir.Val.{SFits}
use native.Mathlib.Omega.{arith}
use borrow.Author.Rules.{rules}
use Rattle.amounts.proofs.Nodes.{amount_inside, test_inside}
use Rattle.language.specs.Text.Form.{fields_of_amount, fields_of_test}
use Rattle.nodes.specs.declared.AmountLetter.{AmountLetter}
use Rattle.nodes.specs.declared.AmountLetter.TheVariants as amount
use Rattle.nodes.specs.declared.TestLetter.{TestLetter}
use Rattle.nodes.specs.declared.TestLetter.TheVariants as test
use Rattle.checked.proofs.CheckedArms as arms
use Rattle.checked.proofs.CheckedNodes.{AmountNode, TestNode, amount_node, test_node}
use Rattle.checked.proofs.FourLaws.{never, sure_small}
use Prim.Native.Nat.{◌*◌, ◌+◌, ◌<◌, ℕ}
use Rattle.worths.proofs.fours.+amounts_operands_tests.Given as goal

abbrev pub decreases-amounts : goal.decreases-amounts
decreases-amounts l = 2 * l.left

abbrev pub decreases-operands : goal.decreases-operands
decreases-operands l = 2 * l.left + 1

abbrev pub decreases-tests : goal.decreases-tests
decreases-tests l = 2 * l.left
