use borrow.Author.Rules.{rules}
use Prim.Native.Nat.{◌*◌, ◌+◌, ◌<◌, ℕ}
use mathlib.Core.Path.{◌∙◌, ◌≡◌, ap, refl, sym}
use mir.Facts.{to_z-of_z}
use mir.Syntax.{w64}
use mir.Val.{SFits}
use native.Mathlib.Omega.{arith}
use Rattle.amounts.proofs.Nodes.{amount_inside, index_key, number_key, test_inside}
use Rattle.language.specs.Text.Form.{fields_of_amount, fields_of_test}
use Rattle.checked.proofs.Bounds.{valued_small}
use Rattle.checked.proofs.CheckedNodes.{AmountNode, TestNode, amount_node, test_node}
use Rattle.nodes.specs.declared.AmountLetter.{AmountLetter}
use Rattle.nodes.specs.declared.TestLetter.{TestLetter}
use Rattle.checked.specs.Answers.{tested_answer}
use Rattle.checked.specs.Coded.{valued_in}
use Rattle.checked.proofs.CheckedArms as arms
use Rattle.nodes.specs.declared.AmountLetter.TheVariants as amount
use Rattle.nodes.specs.declared.TestLetter.TheVariants as test
use Rattle.checked.proofs.lent.Lent.+amount_here_checked_holds_checked_operand_checked_value.Given as goal

abbrev pub decreases-amount_here : goal.decreases-amount_here
decreases-amount_here l = 3 * l.left

abbrev pub decreases-checked_holds : goal.decreases-checked_holds
decreases-checked_holds l = 3 * l.left

abbrev pub decreases-checked_operand : goal.decreases-checked_operand
decreases-checked_operand l = 3 * l.left + 2

abbrev pub decreases-checked_value : goal.decreases-checked_value
decreases-checked_value l = 3 * l.left + 1
