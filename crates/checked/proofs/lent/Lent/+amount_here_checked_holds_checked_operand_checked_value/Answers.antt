use borrow.Author.Rules.{rules}
use Prim.Native.Nat.{◌*◌, ◌+◌, ◌<◌, ℕ}
use mathlib.Core.Path.{◌∙◌, ◌≡◌, ap, refl, sym}
use mir.Facts.{to_z-of_z}
use mir.Syntax.{w64}
use mir.Val.{SFits}
use native.Mathlib.Omega.{arith}
use Rattle.amounts.proofs.Nodes.{amount_inside, index_key, number_key, test_inside}
use Rattle.language.specs.Text.Form.{fields_of_amount, fields_of_test}
use Rattle.checked.proofs.Bounds.{valued_small}
use Rattle.checked.proofs.CheckedNodes.{AmountNode, TestNode, amount_node, test_node}
use Rattle.nodes.specs.declared.AmountLetter.{AmountLetter}
use Rattle.nodes.specs.declared.TestLetter.{TestLetter}
use Rattle.checked.specs.Answers.{tested_answer, valued_answer}
use Rattle.integers.proofs.Passed.{handed_up}
use Rattle.language.specs.Answer.{got}
use Rattle.checked.specs.Coded.{valued_in}
use Rattle.checked.proofs.CheckedArms as arms
use Rattle.nodes.specs.declared.AmountLetter.TheVariants as amount
use Rattle.nodes.specs.declared.TestLetter.TheVariants as test
use Rattle.checked.proofs.lent.Lent.+amount_here_checked_holds_checked_operand_checked_value.Goals as goal
use Rattle.checked.proofs.lent.Lent.+amount_here_checked_holds_checked_operand_checked_value.Goals.{amount_here-After-amount_letter-letter, checked_holds-After-test_letter-letter}

-- what is known in the arm of letter l
amount_here_here : (t : ℕ) (c : amount_here-After-amount_letter-letter t) (l : AmountLetter) → c.amount_letter-letter.result ≡ l
    → AmountNode c.args.self.now.nodes.now c.args.left c.args.at l
amount_here_here t c l e =
    let f : SFits w64 c.slot.result = search rules in
    let p = c.requires in
    amount_node f c.slot.ensures p.1 p.2 c.amount_letter-letter.ensures e

pub amount_here-slot-requires : goal.amount_here-slot-requires
amount_here-slot-requires t c = (amount_inside _ _ _ c.requires.1, omega arith)

pub amount_here-number-requires : goal.amount_here-number-requires
unfolding fields_of_amount
amount_here-number-requires t c =
    let n = amount_here_here t (goal.at.amount_here-number-requires t c).After-amount_letter-letter amount.Number c.in-Number.is in
    (n.inside, n.fields)

pub amount_here-reading-requires : goal.amount_here-reading-requires
unfolding fields_of_amount
amount_here-reading-requires t c =
    let n = amount_here_here t (goal.at.amount_here-reading-requires t c).After-amount_letter-letter amount.Index c.in-Index.is in
    (n.inside, c.requires.0, n.fields.1)

pub amount_here-overflow_add-at : goal.amount_here-overflow_add-at
amount_here-overflow_add-at t c =
    let n = amount_here_here t (goal.at.amount_here-overflow_add-at t c).After-amount_letter-letter amount.Sum c.in-Sum.is in
    record { fits = omega (arith, n.inside) }

pub amount_here-overflow_sub-left : goal.amount_here-overflow_sub-left
amount_here-overflow_sub-left t c =
    let n = amount_here_here t (goal.at.amount_here-overflow_sub-left t c).After-amount_letter-letter amount.Sum c.in-Sum.is in
    omega (arith, n.some)

pub amount_here-checked_operand-x-requires : goal.amount_here-checked_operand-x-requires
unfolding fields_of_amount
amount_here-checked_operand-x-requires t c =
    let n = amount_here_here t (goal.at.amount_here-checked_operand-x-requires t c).After-amount_letter-letter amount.Sum c.in-Sum.is in
    (omega (arith, n.some), (c.requires.0, n.stands.0, n.fields.0))

pub amount_here-link-requires : goal.amount_here-link-requires
amount_here-link-requires t c =
    let n = amount_here_here t (goal.at.amount_here-link-requires t c).After-amount_letter-letter amount.Sum c.in-Sum.is in
    (n.inside, omega arith, n.stands.1.0)

pub amount_here-overflow_sub-left-in-Sum : goal.amount_here-overflow_sub-left-in-Sum
amount_here-overflow_sub-left-in-Sum t c =
    let n = amount_here_here t (goal.at.amount_here-overflow_sub-left-in-Sum t c).After-amount_letter-letter amount.Sum c.in-Sum.is in
    omega (arith, n.some)

pub amount_here-checked_operand-y-requires : goal.amount_here-checked_operand-y-requires
unfolding fields_of_amount
amount_here-checked_operand-y-requires t c =
    let n = amount_here_here t (goal.at.amount_here-checked_operand-y-requires t c).After-amount_letter-letter amount.Sum c.in-Sum.is in
    (omega (arith, n.some), rw c.link.ensures (c.requires.0, n.stands.1.1, n.fields.1))

pub amount_here-sum_of-requires : goal.amount_here-sum_of-requires
amount_here-sum_of-requires t c = (
  valued_small c.args.self.now.span.h c.args.self.now.span.f c.args.self.now.bounds.now c.args.self.now.values.now _ _ c.checked_operand-x.result c.checked_operand-x.ensures,
  valued_small c.args.self.now.span.h c.args.self.now.span.f c.args.self.now.bounds.now c.args.self.now.values.now _ _ c.checked_operand-y.result c.checked_operand-y.ensures,
)

pub amount_here-overflow_add-at-in-Difference : goal.amount_here-overflow_add-at-in-Difference
amount_here-overflow_add-at-in-Difference t c =
    let n = amount_here_here t (goal.at.amount_here-overflow_add-at-in-Difference t c).After-amount_letter-letter amount.Difference c.in-Difference.is in
    record { fits = omega (arith, n.inside) }

pub amount_here-overflow_sub-left-in-Difference : goal.amount_here-overflow_sub-left-in-Difference
amount_here-overflow_sub-left-in-Difference t c =
    let n = amount_here_here t (goal.at.amount_here-overflow_sub-left-in-Difference t c).After-amount_letter-letter amount.Difference c.in-Difference.is in
    omega (arith, n.some)

pub amount_here-checked_operand-x-requires-in-Difference : goal.amount_here-checked_operand-x-requires-in-Difference
unfolding fields_of_amount
amount_here-checked_operand-x-requires-in-Difference t c =
    let n = amount_here_here t (goal.at.amount_here-checked_operand-x-requires-in-Difference t c).After-amount_letter-letter amount.Difference c.in-Difference.is in
    (omega (arith, n.some), (c.requires.0, n.stands.0, n.fields.0))

pub amount_here-link-requires-in-Difference : goal.amount_here-link-requires-in-Difference
amount_here-link-requires-in-Difference t c =
    let n = amount_here_here t (goal.at.amount_here-link-requires-in-Difference t c).After-amount_letter-letter amount.Difference c.in-Difference.is in
    (n.inside, omega arith, n.stands.1.0)

pub amount_here-overflow_sub-left-in-Difference-2 : goal.amount_here-overflow_sub-left-in-Difference-2
amount_here-overflow_sub-left-in-Difference-2 t c =
    let n = amount_here_here t (goal.at.amount_here-overflow_sub-left-in-Difference-2 t c).After-amount_letter-letter amount.Difference c.in-Difference.is in
    omega (arith, n.some)

pub amount_here-checked_operand-y-requires-in-Difference : goal.amount_here-checked_operand-y-requires-in-Difference
unfolding fields_of_amount
amount_here-checked_operand-y-requires-in-Difference t c =
    let n = amount_here_here t (goal.at.amount_here-checked_operand-y-requires-in-Difference t c).After-amount_letter-letter amount.Difference c.in-Difference.is in
    (omega (arith, n.some), rw c.link-in-Difference.ensures (c.requires.0, n.stands.1.1, n.fields.1))

pub amount_here-difference_of-requires : goal.amount_here-difference_of-requires
amount_here-difference_of-requires t c = (
  valued_small c.args.self.now.span.h c.args.self.now.span.f c.args.self.now.bounds.now c.args.self.now.values.now _ _ c.checked_operand-x-in-Difference.result c.checked_operand-x-in-Difference.ensures,
  valued_small c.args.self.now.span.h c.args.self.now.span.f c.args.self.now.bounds.now c.args.self.now.values.now _ _ c.checked_operand-y-in-Difference.result c.checked_operand-y-in-Difference.ensures,
)

pub amount_here-overflow_add-at-in-Product : goal.amount_here-overflow_add-at-in-Product
amount_here-overflow_add-at-in-Product t c =
    let n = amount_here_here t (goal.at.amount_here-overflow_add-at-in-Product t c).After-amount_letter-letter amount.Product c.in-Product.is in
    record { fits = omega (arith, n.inside) }

pub amount_here-overflow_sub-left-in-Product : goal.amount_here-overflow_sub-left-in-Product
amount_here-overflow_sub-left-in-Product t c =
    let n = amount_here_here t (goal.at.amount_here-overflow_sub-left-in-Product t c).After-amount_letter-letter amount.Product c.in-Product.is in
    omega (arith, n.some)

pub amount_here-checked_operand-x-requires-in-Product : goal.amount_here-checked_operand-x-requires-in-Product
unfolding fields_of_amount
amount_here-checked_operand-x-requires-in-Product t c =
    let n = amount_here_here t (goal.at.amount_here-checked_operand-x-requires-in-Product t c).After-amount_letter-letter amount.Product c.in-Product.is in
    (omega (arith, n.some), (c.requires.0, n.stands.0, n.fields.0))

pub amount_here-link-requires-in-Product : goal.amount_here-link-requires-in-Product
amount_here-link-requires-in-Product t c =
    let n = amount_here_here t (goal.at.amount_here-link-requires-in-Product t c).After-amount_letter-letter amount.Product c.in-Product.is in
    (n.inside, omega arith, n.stands.1.0)

pub amount_here-overflow_sub-left-in-Product-2 : goal.amount_here-overflow_sub-left-in-Product-2
amount_here-overflow_sub-left-in-Product-2 t c =
    let n = amount_here_here t (goal.at.amount_here-overflow_sub-left-in-Product-2 t c).After-amount_letter-letter amount.Product c.in-Product.is in
    omega (arith, n.some)

pub amount_here-checked_operand-y-requires-in-Product : goal.amount_here-checked_operand-y-requires-in-Product
unfolding fields_of_amount
amount_here-checked_operand-y-requires-in-Product t c =
    let n = amount_here_here t (goal.at.amount_here-checked_operand-y-requires-in-Product t c).After-amount_letter-letter amount.Product c.in-Product.is in
    (omega (arith, n.some), rw c.link-in-Product.ensures (c.requires.0, n.stands.1.1, n.fields.1))

pub amount_here-product_of-requires : goal.amount_here-product_of-requires
amount_here-product_of-requires t c = (
  valued_small c.args.self.now.span.h c.args.self.now.span.f c.args.self.now.bounds.now c.args.self.now.values.now _ _ c.checked_operand-x-in-Product.result c.checked_operand-x-in-Product.ensures,
  valued_small c.args.self.now.span.h c.args.self.now.span.f c.args.self.now.bounds.now c.args.self.now.values.now _ _ c.checked_operand-y-in-Product.result c.checked_operand-y-in-Product.ensures,
)

pub amount_here-overflow_add-at-in-Quotient : goal.amount_here-overflow_add-at-in-Quotient
amount_here-overflow_add-at-in-Quotient t c =
    let n = amount_here_here t (goal.at.amount_here-overflow_add-at-in-Quotient t c).After-amount_letter-letter amount.Quotient c.in-Quotient.is in
    record { fits = omega (arith, n.inside) }

pub amount_here-overflow_sub-left-in-Quotient : goal.amount_here-overflow_sub-left-in-Quotient
amount_here-overflow_sub-left-in-Quotient t c =
    let n = amount_here_here t (goal.at.amount_here-overflow_sub-left-in-Quotient t c).After-amount_letter-letter amount.Quotient c.in-Quotient.is in
    omega (arith, n.some)

pub amount_here-checked_operand-x-requires-in-Quotient : goal.amount_here-checked_operand-x-requires-in-Quotient
unfolding fields_of_amount
amount_here-checked_operand-x-requires-in-Quotient t c =
    let n = amount_here_here t (goal.at.amount_here-checked_operand-x-requires-in-Quotient t c).After-amount_letter-letter amount.Quotient c.in-Quotient.is in
    (omega (arith, n.some), (c.requires.0, n.stands, n.fields.2))

pub amount_here-over-requires : goal.amount_here-over-requires
unfolding fields_of_amount
amount_here-over-requires t c =
    let n = amount_here_here t (goal.at.amount_here-over-requires t c).After-amount_letter-letter amount.Quotient c.in-Quotient.is in
    (n.inside, record { some = n.fields.0; small = n.fields.1 }, valued_small c.args.self.now.span.h c.args.self.now.span.f c.args.self.now.bounds.now c.args.self.now.values.now _ _ c.checked_operand-x-in-Quotient.result c.checked_operand-x-in-Quotient.ensures)

pub amount_here-overflow_add-at-in-Choose : goal.amount_here-overflow_add-at-in-Choose
amount_here-overflow_add-at-in-Choose t c =
    let n = amount_here_here t (goal.at.amount_here-overflow_add-at-in-Choose t c).After-amount_letter-letter amount.Choose c.in-Choose.is in
    record { fits = omega (arith, n.inside) }

pub amount_here-overflow_sub-left-in-Choose : goal.amount_here-overflow_sub-left-in-Choose
amount_here-overflow_sub-left-in-Choose t c =
    let n = amount_here_here t (goal.at.amount_here-overflow_sub-left-in-Choose t c).After-amount_letter-letter amount.Choose c.in-Choose.is in
    omega (arith, n.some)

pub amount_here-checked_holds-requires : goal.amount_here-checked_holds-requires
unfolding fields_of_amount
amount_here-checked_holds-requires t c =
    let n = amount_here_here t (goal.at.amount_here-checked_holds-requires t c).After-amount_letter-letter amount.Choose c.in-Choose.is in
    (omega (arith, n.some), (c.requires.0, n.stands.0, n.fields.0))

pub amount_here-link-requires-then-holds : goal.amount_here-link-requires-then-holds
amount_here-link-requires-then-holds t c =
    let n = amount_here_here t (goal.at.amount_here-link-requires-then-holds t c).After-amount_letter-letter amount.Choose c.in-Choose.is in
    (n.inside, omega arith, n.stands.1.0)

pub amount_here-overflow_sub-left-then-holds : goal.amount_here-overflow_sub-left-then-holds
amount_here-overflow_sub-left-then-holds t c =
    let n = amount_here_here t (goal.at.amount_here-overflow_sub-left-then-holds t c).After-amount_letter-letter amount.Choose c.in-Choose.is in
    omega (arith, n.some)

pub amount_here-checked_operand-requires : goal.amount_here-checked_operand-requires
unfolding fields_of_amount
amount_here-checked_operand-requires t c =
    let n = amount_here_here t (goal.at.amount_here-checked_operand-requires t c).After-amount_letter-letter amount.Choose c.in-Choose.is in
    (omega (arith, n.some), rw c.link-then-holds.ensures (c.requires.0, n.stands.1.1, n.fields.1))

pub amount_here-link-requires-else-holds : goal.amount_here-link-requires-else-holds
amount_here-link-requires-else-holds t c =
    let n = amount_here_here t (goal.at.amount_here-link-requires-else-holds t c).After-amount_letter-letter amount.Choose c.in-Choose.is in
    (n.inside, omega arith, n.stands.2.0)

pub amount_here-overflow_sub-left-else-holds : goal.amount_here-overflow_sub-left-else-holds
amount_here-overflow_sub-left-else-holds t c =
    let n = amount_here_here t (goal.at.amount_here-overflow_sub-left-else-holds t c).After-amount_letter-letter amount.Choose c.in-Choose.is in
    omega (arith, n.some)

pub amount_here-checked_operand-requires-else-holds : goal.amount_here-checked_operand-requires-else-holds
unfolding fields_of_amount
amount_here-checked_operand-requires-else-holds t c =
    let n = amount_here_here t (goal.at.amount_here-checked_operand-requires-else-holds t c).After-amount_letter-letter amount.Choose c.in-Choose.is in
    (omega (arith, n.some), rw c.link-else-holds.ensures (c.requires.0, n.stands.2.1, n.fields.2))

pub amount_here-returns-in-Number : goal.amount_here-returns-in-Number
amount_here-returns-in-Number t c =
    let n = amount_here_here t (goal.at.amount_here-returns-in-Number t c).After-amount_letter-letter amount.Number c.in-Number.is in
    arms.number_arm _ _ _ _ _ _ _ _ n c.number.ensures

pub amount_here-returns-in-Index : goal.amount_here-returns-in-Index
amount_here-returns-in-Index t c =
    let n = amount_here_here t (goal.at.amount_here-returns-in-Index t c).After-amount_letter-letter amount.Index c.in-Index.is in
    arms.index_arm _ _ _ _ _ _ _ _ n c.reading.ensures

pub amount_here-returns-in-Sum : goal.amount_here-returns-in-Sum
amount_here-returns-in-Sum t c =
    let n = amount_here_here t (goal.at.amount_here-returns-in-Sum t c).After-amount_letter-letter amount.Sum c.in-Sum.is in
    arms.sum_arm _ _ _ _ _ _ _ _ c.checked_operand-x.ensures c.link.ensures c.checked_operand-y.ensures n c.sum_of.ensures

pub amount_here-returns-in-Difference : goal.amount_here-returns-in-Difference
amount_here-returns-in-Difference t c =
    let n = amount_here_here t (goal.at.amount_here-returns-in-Difference t c).After-amount_letter-letter amount.Difference c.in-Difference.is in
    arms.difference_arm _ _ _ _ _ _ _ _ c.checked_operand-x-in-Difference.ensures c.link-in-Difference.ensures c.checked_operand-y-in-Difference.ensures n c.difference_of.ensures

pub amount_here-returns-in-Product : goal.amount_here-returns-in-Product
amount_here-returns-in-Product t c =
    let n = amount_here_here t (goal.at.amount_here-returns-in-Product t c).After-amount_letter-letter amount.Product c.in-Product.is in
    arms.product_arm _ _ _ _ _ _ _ _ c.checked_operand-x-in-Product.ensures c.link-in-Product.ensures c.checked_operand-y-in-Product.ensures n c.product_of.ensures

pub amount_here-returns-in-Quotient : goal.amount_here-returns-in-Quotient
amount_here-returns-in-Quotient t c =
    let n = amount_here_here t (goal.at.amount_here-returns-in-Quotient t c).After-amount_letter-letter amount.Quotient c.in-Quotient.is in
    arms.quotient_arm _ _ _ _ _ _ _ _ n c.checked_operand-x-in-Quotient.ensures c.over.ensures

pub amount_here-returns-then-holds : goal.amount_here-returns-then-holds
amount_here-returns-then-holds t c =
    let n = amount_here_here t (goal.at.amount_here-returns-then-holds t c).After-amount_letter-letter amount.Choose c.in-Choose.is in
    arms.then_arm _ _ _ _ _ _ _ _ n (sym c.checked_holds.ensures ∙ ap tested_answer c.in_ok-holds-in-Choose.was ∙ ap got c.if-holds.true) c.link-then-holds.ensures c.checked_operand.ensures

pub amount_here-returns-else-holds : goal.amount_here-returns-else-holds
amount_here-returns-else-holds t c =
    let n = amount_here_here t (goal.at.amount_here-returns-else-holds t c).After-amount_letter-letter amount.Choose c.in-Choose.is in
    arms.else_arm _ _ _ _ _ _ _ _ n (sym c.checked_holds.ensures ∙ ap tested_answer c.in_ok-holds-in-Choose.was ∙ ap got c.if-holds.false) c.link-else-holds.ensures c.checked_operand-else-holds.ensures

pub amount_here-returns-in_err-holds-in-Choose : goal.amount_here-returns-in_err-holds-in-Choose
amount_here-returns-in_err-holds-in-Choose t c =
    let n = amount_here_here t (goal.at.amount_here-returns-in_err-holds-in-Choose t c).After-amount_letter-letter amount.Choose c.in-Choose.is in
    ap valued_answer (handed_up _ c.from_residual.ensures.1) ∙ arms.refused_arm _ _ _ _ _ _ _ _ n (sym c.checked_holds.ensures ∙ ap tested_answer c.in_err-holds-in-Choose.was)

pub amount_here-returns-in-NoAmount : goal.amount_here-returns-in-NoAmount
amount_here-returns-in-NoAmount t c =
    let n = amount_here_here t (goal.at.amount_here-returns-in-NoAmount t c).After-amount_letter-letter amount.NoAmount c.in-NoAmount.is in
    arms.no_amount_arm _ _ _ _ _ _ _ _ n

-- what is known in the arm of letter l
checked_holds_here : (t : ℕ) (c : checked_holds-After-test_letter-letter t) (l : TestLetter) → c.test_letter-letter.result ≡ l
    → TestNode c.args.self.now.nodes.now c.args.left c.args.at l
checked_holds_here t c l e =
    let f : SFits w64 c.slot.result = search rules in
    let p = c.requires in
    test_node f c.slot.ensures p.1 p.2 c.test_letter-letter.ensures e

pub checked_holds-slot-requires : goal.checked_holds-slot-requires
checked_holds-slot-requires t c = (test_inside _ _ _ c.requires.1, omega arith)

pub checked_holds-overflow_add-at : goal.checked_holds-overflow_add-at
checked_holds-overflow_add-at t c =
    let n = checked_holds_here t (goal.at.checked_holds-overflow_add-at t c).After-test_letter-letter test.Less c.in-Less.is in
    record { fits = omega (arith, n.inside) }

pub checked_holds-overflow_sub-left : goal.checked_holds-overflow_sub-left
checked_holds-overflow_sub-left t c =
    let n = checked_holds_here t (goal.at.checked_holds-overflow_sub-left t c).After-test_letter-letter test.Less c.in-Less.is in
    omega (arith, n.some)

pub checked_holds-checked_operand-x-requires : goal.checked_holds-checked_operand-x-requires
unfolding fields_of_test
checked_holds-checked_operand-x-requires t c =
    let n = checked_holds_here t (goal.at.checked_holds-checked_operand-x-requires t c).After-test_letter-letter test.Less c.in-Less.is in
    (omega (arith, n.some), (c.requires.0, n.stands.0, n.fields.0))

pub checked_holds-link-requires : goal.checked_holds-link-requires
checked_holds-link-requires t c =
    let n = checked_holds_here t (goal.at.checked_holds-link-requires t c).After-test_letter-letter test.Less c.in-Less.is in
    (n.inside, omega arith, n.stands.1.0)

pub checked_holds-overflow_sub-left-in-Less : goal.checked_holds-overflow_sub-left-in-Less
checked_holds-overflow_sub-left-in-Less t c =
    let n = checked_holds_here t (goal.at.checked_holds-overflow_sub-left-in-Less t c).After-test_letter-letter test.Less c.in-Less.is in
    omega (arith, n.some)

pub checked_holds-checked_operand-y-requires : goal.checked_holds-checked_operand-y-requires
unfolding fields_of_test
checked_holds-checked_operand-y-requires t c =
    let n = checked_holds_here t (goal.at.checked_holds-checked_operand-y-requires t c).After-test_letter-letter test.Less c.in-Less.is in
    (omega (arith, n.some), rw c.link.ensures (c.requires.0, n.stands.1.1, n.fields.1))

pub checked_holds-overflow_add-at-in-Equal : goal.checked_holds-overflow_add-at-in-Equal
checked_holds-overflow_add-at-in-Equal t c =
    let n = checked_holds_here t (goal.at.checked_holds-overflow_add-at-in-Equal t c).After-test_letter-letter test.Equal c.in-Equal.is in
    record { fits = omega (arith, n.inside) }

pub checked_holds-overflow_sub-left-in-Equal : goal.checked_holds-overflow_sub-left-in-Equal
checked_holds-overflow_sub-left-in-Equal t c =
    let n = checked_holds_here t (goal.at.checked_holds-overflow_sub-left-in-Equal t c).After-test_letter-letter test.Equal c.in-Equal.is in
    omega (arith, n.some)

pub checked_holds-checked_operand-x-requires-in-Equal : goal.checked_holds-checked_operand-x-requires-in-Equal
unfolding fields_of_test
checked_holds-checked_operand-x-requires-in-Equal t c =
    let n = checked_holds_here t (goal.at.checked_holds-checked_operand-x-requires-in-Equal t c).After-test_letter-letter test.Equal c.in-Equal.is in
    (omega (arith, n.some), (c.requires.0, n.stands.0, n.fields.0))

pub checked_holds-link-requires-in-Equal : goal.checked_holds-link-requires-in-Equal
checked_holds-link-requires-in-Equal t c =
    let n = checked_holds_here t (goal.at.checked_holds-link-requires-in-Equal t c).After-test_letter-letter test.Equal c.in-Equal.is in
    (n.inside, omega arith, n.stands.1.0)

pub checked_holds-overflow_sub-left-in-Equal-2 : goal.checked_holds-overflow_sub-left-in-Equal-2
checked_holds-overflow_sub-left-in-Equal-2 t c =
    let n = checked_holds_here t (goal.at.checked_holds-overflow_sub-left-in-Equal-2 t c).After-test_letter-letter test.Equal c.in-Equal.is in
    omega (arith, n.some)

pub checked_holds-checked_operand-y-requires-in-Equal : goal.checked_holds-checked_operand-y-requires-in-Equal
unfolding fields_of_test
checked_holds-checked_operand-y-requires-in-Equal t c =
    let n = checked_holds_here t (goal.at.checked_holds-checked_operand-y-requires-in-Equal t c).After-test_letter-letter test.Equal c.in-Equal.is in
    (omega (arith, n.some), rw c.link-in-Equal.ensures (c.requires.0, n.stands.1.1, n.fields.1))

pub checked_holds-overflow_add-at-in-Conjunction : goal.checked_holds-overflow_add-at-in-Conjunction
checked_holds-overflow_add-at-in-Conjunction t c =
    let n = checked_holds_here t (goal.at.checked_holds-overflow_add-at-in-Conjunction t c).After-test_letter-letter test.Conjunction c.in-Conjunction.is in
    record { fits = omega (arith, n.inside) }

pub checked_holds-overflow_sub-left-in-Conjunction : goal.checked_holds-overflow_sub-left-in-Conjunction
checked_holds-overflow_sub-left-in-Conjunction t c =
    let n = checked_holds_here t (goal.at.checked_holds-overflow_sub-left-in-Conjunction t c).After-test_letter-letter test.Conjunction c.in-Conjunction.is in
    omega (arith, n.some)

pub checked_holds-checked_holds-x-requires : goal.checked_holds-checked_holds-x-requires
unfolding fields_of_test
checked_holds-checked_holds-x-requires t c =
    let n = checked_holds_here t (goal.at.checked_holds-checked_holds-x-requires t c).After-test_letter-letter test.Conjunction c.in-Conjunction.is in
    (omega (arith, n.some), (c.requires.0, n.stands.0, n.fields.0))

pub checked_holds-link-requires-in-Conjunction : goal.checked_holds-link-requires-in-Conjunction
checked_holds-link-requires-in-Conjunction t c =
    let n = checked_holds_here t (goal.at.checked_holds-link-requires-in-Conjunction t c).After-test_letter-letter test.Conjunction c.in-Conjunction.is in
    (n.inside, omega arith, n.stands.1.0)

pub checked_holds-overflow_sub-left-in-Conjunction-2 : goal.checked_holds-overflow_sub-left-in-Conjunction-2
checked_holds-overflow_sub-left-in-Conjunction-2 t c =
    let n = checked_holds_here t (goal.at.checked_holds-overflow_sub-left-in-Conjunction-2 t c).After-test_letter-letter test.Conjunction c.in-Conjunction.is in
    omega (arith, n.some)

pub checked_holds-checked_holds-y-requires : goal.checked_holds-checked_holds-y-requires
unfolding fields_of_test
checked_holds-checked_holds-y-requires t c =
    let n = checked_holds_here t (goal.at.checked_holds-checked_holds-y-requires t c).After-test_letter-letter test.Conjunction c.in-Conjunction.is in
    (omega (arith, n.some), rw c.link-in-Conjunction.ensures (c.requires.0, n.stands.1.1, n.fields.1))

pub checked_holds-overflow_add-at-in-Disjunction : goal.checked_holds-overflow_add-at-in-Disjunction
checked_holds-overflow_add-at-in-Disjunction t c =
    let n = checked_holds_here t (goal.at.checked_holds-overflow_add-at-in-Disjunction t c).After-test_letter-letter test.Disjunction c.in-Disjunction.is in
    record { fits = omega (arith, n.inside) }

pub checked_holds-overflow_sub-left-in-Disjunction : goal.checked_holds-overflow_sub-left-in-Disjunction
checked_holds-overflow_sub-left-in-Disjunction t c =
    let n = checked_holds_here t (goal.at.checked_holds-overflow_sub-left-in-Disjunction t c).After-test_letter-letter test.Disjunction c.in-Disjunction.is in
    omega (arith, n.some)

pub checked_holds-checked_holds-x-requires-in-Disjunction : goal.checked_holds-checked_holds-x-requires-in-Disjunction
unfolding fields_of_test
checked_holds-checked_holds-x-requires-in-Disjunction t c =
    let n = checked_holds_here t (goal.at.checked_holds-checked_holds-x-requires-in-Disjunction t c).After-test_letter-letter test.Disjunction c.in-Disjunction.is in
    (omega (arith, n.some), (c.requires.0, n.stands.0, n.fields.0))

pub checked_holds-link-requires-in-Disjunction : goal.checked_holds-link-requires-in-Disjunction
checked_holds-link-requires-in-Disjunction t c =
    let n = checked_holds_here t (goal.at.checked_holds-link-requires-in-Disjunction t c).After-test_letter-letter test.Disjunction c.in-Disjunction.is in
    (n.inside, omega arith, n.stands.1.0)

pub checked_holds-overflow_sub-left-in-Disjunction-2 : goal.checked_holds-overflow_sub-left-in-Disjunction-2
checked_holds-overflow_sub-left-in-Disjunction-2 t c =
    let n = checked_holds_here t (goal.at.checked_holds-overflow_sub-left-in-Disjunction-2 t c).After-test_letter-letter test.Disjunction c.in-Disjunction.is in
    omega (arith, n.some)

pub checked_holds-checked_holds-y-requires-in-Disjunction : goal.checked_holds-checked_holds-y-requires-in-Disjunction
unfolding fields_of_test
checked_holds-checked_holds-y-requires-in-Disjunction t c =
    let n = checked_holds_here t (goal.at.checked_holds-checked_holds-y-requires-in-Disjunction t c).After-test_letter-letter test.Disjunction c.in-Disjunction.is in
    (omega (arith, n.some), rw c.link-in-Disjunction.ensures (c.requires.0, n.stands.1.1, n.fields.1))

pub checked_holds-overflow_add-at-in-Negation : goal.checked_holds-overflow_add-at-in-Negation
checked_holds-overflow_add-at-in-Negation t c =
    let n = checked_holds_here t (goal.at.checked_holds-overflow_add-at-in-Negation t c).After-test_letter-letter test.Negation c.in-Negation.is in
    record { fits = omega (arith, n.inside) }

pub checked_holds-overflow_sub-left-in-Negation : goal.checked_holds-overflow_sub-left-in-Negation
checked_holds-overflow_sub-left-in-Negation t c =
    let n = checked_holds_here t (goal.at.checked_holds-overflow_sub-left-in-Negation t c).After-test_letter-letter test.Negation c.in-Negation.is in
    omega (arith, n.some)

pub checked_holds-checked_holds-x-requires-in-Negation : goal.checked_holds-checked_holds-x-requires-in-Negation
unfolding fields_of_test
checked_holds-checked_holds-x-requires-in-Negation t c =
    let n = checked_holds_here t (goal.at.checked_holds-checked_holds-x-requires-in-Negation t c).After-test_letter-letter test.Negation c.in-Negation.is in
    (omega (arith, n.some), (c.requires.0, n.stands, n.fields))

pub checked_holds-returns-in-Less : goal.checked_holds-returns-in-Less
checked_holds-returns-in-Less t c =
    let n = checked_holds_here t (goal.at.checked_holds-returns-in-Less t c).After-test_letter-letter test.Less c.in-Less.is in
    arms.less_arm _ _ _ _ _ _ _ _ c.checked_operand-x.ensures c.link.ensures c.checked_operand-y.ensures n c.less_than.ensures

pub checked_holds-returns-in-Equal : goal.checked_holds-returns-in-Equal
checked_holds-returns-in-Equal t c =
    let n = checked_holds_here t (goal.at.checked_holds-returns-in-Equal t c).After-test_letter-letter test.Equal c.in-Equal.is in
    arms.equal_arm _ _ _ _ _ _ _ _ c.checked_operand-x-in-Equal.ensures c.link-in-Equal.ensures c.checked_operand-y-in-Equal.ensures n c.equal_to.ensures

pub checked_holds-returns-in-Conjunction : goal.checked_holds-returns-in-Conjunction
checked_holds-returns-in-Conjunction t c =
    let n = checked_holds_here t (goal.at.checked_holds-returns-in-Conjunction t c).After-test_letter-letter test.Conjunction c.in-Conjunction.is in
    arms.conjunction_arm _ _ _ _ _ _ _ _ c.checked_holds-x.ensures c.link-in-Conjunction.ensures c.checked_holds-y.ensures n c.both_hold.ensures

pub checked_holds-returns-in-Disjunction : goal.checked_holds-returns-in-Disjunction
checked_holds-returns-in-Disjunction t c =
    let n = checked_holds_here t (goal.at.checked_holds-returns-in-Disjunction t c).After-test_letter-letter test.Disjunction c.in-Disjunction.is in
    arms.disjunction_arm _ _ _ _ _ _ _ _ c.checked_holds-x-in-Disjunction.ensures c.link-in-Disjunction.ensures c.checked_holds-y-in-Disjunction.ensures n c.one_holds.ensures

pub checked_holds-returns-in-Negation : goal.checked_holds-returns-in-Negation
checked_holds-returns-in-Negation t c =
    let n = checked_holds_here t (goal.at.checked_holds-returns-in-Negation t c).After-test_letter-letter test.Negation c.in-Negation.is in
    arms.negation_arm _ _ _ _ _ _ _ _ n c.checked_holds-x-in-Negation.ensures c.opposite.ensures

pub checked_holds-returns-in-NoTest : goal.checked_holds-returns-in-NoTest
checked_holds-returns-in-NoTest t c =
    let n = checked_holds_here t (goal.at.checked_holds-returns-in-NoTest t c).After-test_letter-letter test.NoTest c.in-NoTest.is in
    arms.no_test_arm _ _ _ _ _ _ _ _ n

pub checked_operand-slot-x-requires : goal.checked_operand-slot-x-requires
checked_operand-slot-x-requires t c = (amount_inside _ _ _ c.requires.1, omega arith)

pub checked_operand-number-requires : goal.checked_operand-number-requires
unfolding fields_of_amount
checked_operand-number-requires t c =
    let f : SFits w64 c.slot-x.result = search rules in
    let n = amount_node f c.slot-x.ensures c.requires.1 c.requires.2 (number_key _ f c.in-78.in-78-own.keys1) refl in
    (n.inside, n.fields)

pub checked_operand-reading-requires : goal.checked_operand-reading-requires
unfolding fields_of_amount
checked_operand-reading-requires t c =
    let f : SFits w64 c.slot-x.result = search rules in
    let n = amount_node f c.slot-x.ensures c.requires.1 c.requires.2 (index_key _ f c.in-79.in-79-own.keys2) refl in
    (n.inside, c.requires.0, n.fields.1)

pub checked_operand-checked_value-requires : goal.checked_operand-checked_value-requires
checked_operand-checked_value-requires t c = (omega arith, c.requires)

pub checked_operand-returns-in-78 : goal.checked_operand-returns-in-78
checked_operand-returns-in-78 t c =
    let f : SFits w64 c.slot-x.result = search rules in
    let n = amount_node f c.slot-x.ensures c.requires.1 c.requires.2 (number_key _ f c.in-78.in-78-own.keys1) refl in
    arms.number_arm _ _ _ _ _ _ _ _ n c.number.ensures

pub checked_operand-returns-in-79 : goal.checked_operand-returns-in-79
checked_operand-returns-in-79 t c =
    let f : SFits w64 c.slot-x.result = search rules in
    let n = amount_node f c.slot-x.ensures c.requires.1 c.requires.2 (index_key _ f c.in-79.in-79-own.keys2) refl in
    arms.index_arm _ _ _ _ _ _ _ _ n c.reading.ensures

pub checked_operand-returns-in_default : goal.checked_operand-returns-in_default
checked_operand-returns-in_default t c =
    let f : SFits w64 c.checked_value.result = search rules in
    c.valued.ensures ∙ ap valued_in (to_z-of_z f) ∙ c.checked_value.ensures

pub checked_value-amount_here-requires : goal.checked_value-amount_here-requires
checked_value-amount_here-requires t c = (omega arith, c.requires)

pub checked_value-code-requires : goal.checked_value-code-requires
checked_value-code-requires t c =
    let a = c.args in
    valued_small a.self.now.span.h a.self.now.span.f a.self.now.bounds.now a.self.now.values.now _ _ c.amount_here.result c.amount_here.ensures

pub checked_value-returns : goal.checked_value-returns
checked_value-returns t c =
    let f : SFits w64 c.code.result = search rules in
    ap valued_in (to_z-of_z f) ∙ c.code.ensures ∙ c.amount_here.ensures
