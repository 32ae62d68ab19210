use mathlib.Core.Path.{◌≡◌}
use mir.Syntax.{w64}
use mir.Val.{SFits}
use native.Mathlib.Omega.{arith}
use borrow.Author.Rules.{rules}
use Rattle.amounts.proofs.Nodes.{amount_inside, test_inside}
use Rattle.language.specs.Text.Form.{fields_of_amount, fields_of_test}
use Rattle.nodes.specs.declared.AmountLetter.{AmountLetter}
use Rattle.nodes.specs.declared.AmountLetter.TheVariants as amount
use Rattle.nodes.specs.declared.TestLetter.{TestLetter}
use Rattle.nodes.specs.declared.TestLetter.TheVariants as test
use Rattle.checked.proofs.CheckedArms as arms
use Rattle.checked.proofs.CheckedNodes.{AmountNode, TestNode, amount_node, test_node}
use Rattle.checked.proofs.FourLaws.{never, sure_small}
use Prim.Native.Nat.{◌*◌, ◌+◌, ◌<◌, ℕ}
use Rattle.worths.proofs.fours.+amounts_operands_tests.Goals as goal
use Rattle.worths.proofs.fours.+amounts_operands_tests.Goals.{amounts-After-amount_letter-letter, tests-After-test_letter-letter}

-- what is known in the arm of letter l
amounts_here : (t : ℕ) (c : amounts-After-amount_letter-letter t) (l : AmountLetter) → c.amount_letter-letter.result ≡ l
    → AmountNode c.args.lent.now.nodes.now c.args.left c.args.at l
amounts_here t c l e =
    let f : SFits w64 c.slot.result = search rules in
    let p = c.requires in
    amount_node f c.slot.ensures p.1 p.2 c.amount_letter-letter.ensures e

pub amounts-slot-requires : goal.amounts-slot-requires
amounts-slot-requires t c = (amount_inside _ _ _ c.requires.1, omega arith)

pub amounts-number-requires : goal.amounts-number-requires
unfolding fields_of_amount
amounts-number-requires t c =
    let n = amounts_here t (goal.at.amounts-number-requires t c).After-amount_letter-letter amount.Number c.in-Number.is in
    (n.inside, n.fields)

pub amounts-reading-requires : goal.amounts-reading-requires
unfolding fields_of_amount
amounts-reading-requires t c =
    let n = amounts_here t (goal.at.amounts-reading-requires t c).After-amount_letter-letter amount.Index c.in-Index.is in
    (n.inside, c.requires.0, n.fields.1)

pub amounts-overflow_add-at : goal.amounts-overflow_add-at
amounts-overflow_add-at t c =
    let n = amounts_here t (goal.at.amounts-overflow_add-at t c).After-amount_letter-letter amount.Sum c.in-Sum.is in
    record { fits = omega (arith, n.inside) }

pub amounts-overflow_sub-left : goal.amounts-overflow_sub-left
amounts-overflow_sub-left t c =
    let n = amounts_here t (goal.at.amounts-overflow_sub-left t c).After-amount_letter-letter amount.Sum c.in-Sum.is in
    omega (arith, n.some)

pub amounts-operands-x-requires : goal.amounts-operands-x-requires
unfolding fields_of_amount
amounts-operands-x-requires t c =
    let n = amounts_here t (goal.at.amounts-operands-x-requires t c).After-amount_letter-letter amount.Sum c.in-Sum.is in
    (omega (arith, n.some), (c.requires.0, n.stands.0, n.fields.0))

pub amounts-link-requires : goal.amounts-link-requires
amounts-link-requires t c =
    let n = amounts_here t (goal.at.amounts-link-requires t c).After-amount_letter-letter amount.Sum c.in-Sum.is in
    (n.inside, omega arith, n.stands.1.0)

pub amounts-overflow_sub-left-in-Sum : goal.amounts-overflow_sub-left-in-Sum
amounts-overflow_sub-left-in-Sum t c =
    let n = amounts_here t (goal.at.amounts-overflow_sub-left-in-Sum t c).After-amount_letter-letter amount.Sum c.in-Sum.is in
    omega (arith, n.some)

pub amounts-operands-y-requires : goal.amounts-operands-y-requires
unfolding fields_of_amount
amounts-operands-y-requires t c =
    let n = amounts_here t (goal.at.amounts-operands-y-requires t c).After-amount_letter-letter amount.Sum c.in-Sum.is in
    (omega (arith, n.some), rw c.link.ensures (c.requires.0, n.stands.1.1, n.fields.1))

pub amounts-sum_of-requires : goal.amounts-sum_of-requires
amounts-sum_of-requires t c = (sure_small c.args.lent.now.span.h c.args.lent.now.span.f c.args.lent.now.bounds.now c.args.lent.now.values.now _ _ _ c.operands-x.ensures, sure_small c.args.lent.now.span.h c.args.lent.now.span.f c.args.lent.now.bounds.now c.args.lent.now.values.now _ _ _ c.operands-y.ensures)

pub amounts-overflow_add-at-in-Difference : goal.amounts-overflow_add-at-in-Difference
amounts-overflow_add-at-in-Difference t c =
    let n = amounts_here t (goal.at.amounts-overflow_add-at-in-Difference t c).After-amount_letter-letter amount.Difference c.in-Difference.is in
    record { fits = omega (arith, n.inside) }

pub amounts-overflow_sub-left-in-Difference : goal.amounts-overflow_sub-left-in-Difference
amounts-overflow_sub-left-in-Difference t c =
    let n = amounts_here t (goal.at.amounts-overflow_sub-left-in-Difference t c).After-amount_letter-letter amount.Difference c.in-Difference.is in
    omega (arith, n.some)

pub amounts-operands-x-requires-in-Difference : goal.amounts-operands-x-requires-in-Difference
unfolding fields_of_amount
amounts-operands-x-requires-in-Difference t c =
    let n = amounts_here t (goal.at.amounts-operands-x-requires-in-Difference t c).After-amount_letter-letter amount.Difference c.in-Difference.is in
    (omega (arith, n.some), (c.requires.0, n.stands.0, n.fields.0))

pub amounts-link-requires-in-Difference : goal.amounts-link-requires-in-Difference
amounts-link-requires-in-Difference t c =
    let n = amounts_here t (goal.at.amounts-link-requires-in-Difference t c).After-amount_letter-letter amount.Difference c.in-Difference.is in
    (n.inside, omega arith, n.stands.1.0)

pub amounts-overflow_sub-left-in-Difference-2 : goal.amounts-overflow_sub-left-in-Difference-2
amounts-overflow_sub-left-in-Difference-2 t c =
    let n = amounts_here t (goal.at.amounts-overflow_sub-left-in-Difference-2 t c).After-amount_letter-letter amount.Difference c.in-Difference.is in
    omega (arith, n.some)

pub amounts-operands-y-requires-in-Difference : goal.amounts-operands-y-requires-in-Difference
unfolding fields_of_amount
amounts-operands-y-requires-in-Difference t c =
    let n = amounts_here t (goal.at.amounts-operands-y-requires-in-Difference t c).After-amount_letter-letter amount.Difference c.in-Difference.is in
    (omega (arith, n.some), rw c.link-in-Difference.ensures (c.requires.0, n.stands.1.1, n.fields.1))

pub amounts-difference_of-requires : goal.amounts-difference_of-requires
amounts-difference_of-requires t c = (sure_small c.args.lent.now.span.h c.args.lent.now.span.f c.args.lent.now.bounds.now c.args.lent.now.values.now _ _ _ c.operands-x-in-Difference.ensures, sure_small c.args.lent.now.span.h c.args.lent.now.span.f c.args.lent.now.bounds.now c.args.lent.now.values.now _ _ _ c.operands-y-in-Difference.ensures)

pub amounts-overflow_add-at-in-Product : goal.amounts-overflow_add-at-in-Product
amounts-overflow_add-at-in-Product t c =
    let n = amounts_here t (goal.at.amounts-overflow_add-at-in-Product t c).After-amount_letter-letter amount.Product c.in-Product.is in
    record { fits = omega (arith, n.inside) }

pub amounts-overflow_sub-left-in-Product : goal.amounts-overflow_sub-left-in-Product
amounts-overflow_sub-left-in-Product t c =
    let n = amounts_here t (goal.at.amounts-overflow_sub-left-in-Product t c).After-amount_letter-letter amount.Product c.in-Product.is in
    omega (arith, n.some)

pub amounts-operands-x-requires-in-Product : goal.amounts-operands-x-requires-in-Product
unfolding fields_of_amount
amounts-operands-x-requires-in-Product t c =
    let n = amounts_here t (goal.at.amounts-operands-x-requires-in-Product t c).After-amount_letter-letter amount.Product c.in-Product.is in
    (omega (arith, n.some), (c.requires.0, n.stands.0, n.fields.0))

pub amounts-link-requires-in-Product : goal.amounts-link-requires-in-Product
amounts-link-requires-in-Product t c =
    let n = amounts_here t (goal.at.amounts-link-requires-in-Product t c).After-amount_letter-letter amount.Product c.in-Product.is in
    (n.inside, omega arith, n.stands.1.0)

pub amounts-overflow_sub-left-in-Product-2 : goal.amounts-overflow_sub-left-in-Product-2
amounts-overflow_sub-left-in-Product-2 t c =
    let n = amounts_here t (goal.at.amounts-overflow_sub-left-in-Product-2 t c).After-amount_letter-letter amount.Product c.in-Product.is in
    omega (arith, n.some)

pub amounts-operands-y-requires-in-Product : goal.amounts-operands-y-requires-in-Product
unfolding fields_of_amount
amounts-operands-y-requires-in-Product t c =
    let n = amounts_here t (goal.at.amounts-operands-y-requires-in-Product t c).After-amount_letter-letter amount.Product c.in-Product.is in
    (omega (arith, n.some), rw c.link-in-Product.ensures (c.requires.0, n.stands.1.1, n.fields.1))

pub amounts-product_of-requires : goal.amounts-product_of-requires
amounts-product_of-requires t c = (sure_small c.args.lent.now.span.h c.args.lent.now.span.f c.args.lent.now.bounds.now c.args.lent.now.values.now _ _ _ c.operands-x-in-Product.ensures, sure_small c.args.lent.now.span.h c.args.lent.now.span.f c.args.lent.now.bounds.now c.args.lent.now.values.now _ _ _ c.operands-y-in-Product.ensures)

pub amounts-overflow_add-at-in-Quotient : goal.amounts-overflow_add-at-in-Quotient
amounts-overflow_add-at-in-Quotient t c =
    let n = amounts_here t (goal.at.amounts-overflow_add-at-in-Quotient t c).After-amount_letter-letter amount.Quotient c.in-Quotient.is in
    record { fits = omega (arith, n.inside) }

pub amounts-overflow_sub-left-in-Quotient : goal.amounts-overflow_sub-left-in-Quotient
amounts-overflow_sub-left-in-Quotient t c =
    let n = amounts_here t (goal.at.amounts-overflow_sub-left-in-Quotient t c).After-amount_letter-letter amount.Quotient c.in-Quotient.is in
    omega (arith, n.some)

pub amounts-operands-x-requires-in-Quotient : goal.amounts-operands-x-requires-in-Quotient
unfolding fields_of_amount
amounts-operands-x-requires-in-Quotient t c =
    let n = amounts_here t (goal.at.amounts-operands-x-requires-in-Quotient t c).After-amount_letter-letter amount.Quotient c.in-Quotient.is in
    (omega (arith, n.some), (c.requires.0, n.stands, n.fields.2))

pub amounts-over-requires : goal.amounts-over-requires
unfolding fields_of_amount
amounts-over-requires t c =
    let n = amounts_here t (goal.at.amounts-over-requires t c).After-amount_letter-letter amount.Quotient c.in-Quotient.is in
    (n.inside, record { some = n.fields.0; small = n.fields.1 }, sure_small c.args.lent.now.span.h c.args.lent.now.span.f c.args.lent.now.bounds.now c.args.lent.now.values.now _ _ _ c.operands-x-in-Quotient.ensures)

pub amounts-overflow_add-at-in-Choose : goal.amounts-overflow_add-at-in-Choose
amounts-overflow_add-at-in-Choose t c =
    let n = amounts_here t (goal.at.amounts-overflow_add-at-in-Choose t c).After-amount_letter-letter amount.Choose c.in-Choose.is in
    record { fits = omega (arith, n.inside) }

pub amounts-overflow_sub-left-in-Choose : goal.amounts-overflow_sub-left-in-Choose
amounts-overflow_sub-left-in-Choose t c =
    let n = amounts_here t (goal.at.amounts-overflow_sub-left-in-Choose t c).After-amount_letter-letter amount.Choose c.in-Choose.is in
    omega (arith, n.some)

pub amounts-tests-t-requires : goal.amounts-tests-t-requires
unfolding fields_of_amount
amounts-tests-t-requires t c =
    let n = amounts_here t (goal.at.amounts-tests-t-requires t c).After-amount_letter-letter amount.Choose c.in-Choose.is in
    (omega (arith, n.some), (c.requires.0, n.stands.0, n.fields.0))

pub amounts-link-requires-in-Choose : goal.amounts-link-requires-in-Choose
amounts-link-requires-in-Choose t c =
    let n = amounts_here t (goal.at.amounts-link-requires-in-Choose t c).After-amount_letter-letter amount.Choose c.in-Choose.is in
    (n.inside, omega arith, n.stands.1.0)

pub amounts-overflow_sub-left-in-Choose-2 : goal.amounts-overflow_sub-left-in-Choose-2
amounts-overflow_sub-left-in-Choose-2 t c =
    let n = amounts_here t (goal.at.amounts-overflow_sub-left-in-Choose-2 t c).After-amount_letter-letter amount.Choose c.in-Choose.is in
    omega (arith, n.some)

pub amounts-operands-x-requires-in-Choose : goal.amounts-operands-x-requires-in-Choose
unfolding fields_of_amount
amounts-operands-x-requires-in-Choose t c =
    let n = amounts_here t (goal.at.amounts-operands-x-requires-in-Choose t c).After-amount_letter-letter amount.Choose c.in-Choose.is in
    (omega (arith, n.some), rw c.link-in-Choose.ensures (c.requires.0, n.stands.1.1, n.fields.1))

pub amounts-link-requires-in-Choose-2 : goal.amounts-link-requires-in-Choose-2
amounts-link-requires-in-Choose-2 t c =
    let n = amounts_here t (goal.at.amounts-link-requires-in-Choose-2 t c).After-amount_letter-letter amount.Choose c.in-Choose.is in
    (n.inside, omega arith, n.stands.2.0)

pub amounts-overflow_sub-left-in-Choose-3 : goal.amounts-overflow_sub-left-in-Choose-3
amounts-overflow_sub-left-in-Choose-3 t c =
    let n = amounts_here t (goal.at.amounts-overflow_sub-left-in-Choose-3 t c).After-amount_letter-letter amount.Choose c.in-Choose.is in
    omega (arith, n.some)

pub amounts-operands-y-requires-in-Choose : goal.amounts-operands-y-requires-in-Choose
unfolding fields_of_amount
amounts-operands-y-requires-in-Choose t c =
    let n = amounts_here t (goal.at.amounts-operands-y-requires-in-Choose t c).After-amount_letter-letter amount.Choose c.in-Choose.is in
    (omega (arith, n.some), rw c.link-in-Choose-2.ensures (c.requires.0, n.stands.2.1, n.fields.2))

pub amounts-returns-in-Number : goal.amounts-returns-in-Number
amounts-returns-in-Number t c =
    let n = amounts_here t (goal.at.amounts-returns-in-Number t c).After-amount_letter-letter amount.Number c.in-Number.is in
    λ e k m. arms.number_arm _ _ _ _ _ _ _ _ n (c.number.ensures e k m)

pub amounts-returns-in-Index : goal.amounts-returns-in-Index
amounts-returns-in-Index t c =
    let n = amounts_here t (goal.at.amounts-returns-in-Index t c).After-amount_letter-letter amount.Index c.in-Index.is in
    λ e k m. arms.index_arm _ _ _ _ _ _ _ _ n (c.reading.ensures e k m)

pub amounts-returns-in-Sum : goal.amounts-returns-in-Sum
amounts-returns-in-Sum t c =
    let n = amounts_here t (goal.at.amounts-returns-in-Sum t c).After-amount_letter-letter amount.Sum c.in-Sum.is in
    λ e k m.
    let s = c.sum_of.ensures e in
    arms.sum_arm _ _ _ _ _ _ _ _ (c.operands-x.ensures s.0 k m) c.link.ensures (c.operands-y.ensures s.1 k m) n (s.2 k m)

pub amounts-returns-in-Difference : goal.amounts-returns-in-Difference
amounts-returns-in-Difference t c =
    let n = amounts_here t (goal.at.amounts-returns-in-Difference t c).After-amount_letter-letter amount.Difference c.in-Difference.is in
    λ e k m.
    let s = c.difference_of.ensures e in
    arms.difference_arm _ _ _ _ _ _ _ _ (c.operands-x-in-Difference.ensures s.0 k m) c.link-in-Difference.ensures (c.operands-y-in-Difference.ensures s.1 k m) n (s.2 k m)

pub amounts-returns-in-Product : goal.amounts-returns-in-Product
amounts-returns-in-Product t c =
    let n = amounts_here t (goal.at.amounts-returns-in-Product t c).After-amount_letter-letter amount.Product c.in-Product.is in
    λ e k m.
    let s = c.product_of.ensures e in
    arms.product_arm _ _ _ _ _ _ _ _ (c.operands-x-in-Product.ensures s.0 k m) c.link-in-Product.ensures (c.operands-y-in-Product.ensures s.1 k m) n (s.2 k m)

pub amounts-returns-in-Quotient : goal.amounts-returns-in-Quotient
amounts-returns-in-Quotient t c =
    let n = amounts_here t (goal.at.amounts-returns-in-Quotient t c).After-amount_letter-letter amount.Quotient c.in-Quotient.is in
    λ e k m.
    let s = c.over.ensures e in
    arms.quotient_arm _ _ _ _ _ _ _ _ n (c.operands-x-in-Quotient.ensures s.0 k m) (s.1 k m)

pub amounts-returns-in-Choose : goal.amounts-returns-in-Choose
amounts-returns-in-Choose t c =
    let n = amounts_here t (goal.at.amounts-returns-in-Choose t c).After-amount_letter-letter amount.Choose c.in-Choose.is in
    λ e k m.
    let s = c.chosen.ensures e in
    arms.choose_arm _ _ _ _ _ _ _ _ n _ (c.tests-t.ensures s.0 k m) c.link-in-Choose.ensures (c.operands-x-in-Choose.ensures s.1 k m) c.link-in-Choose-2.ensures (c.operands-y-in-Choose.ensures s.2 k m) (s.3 k m)

pub amounts-returns-in-NoAmount : goal.amounts-returns-in-NoAmount
amounts-returns-in-NoAmount t c = λ e. absurd (c.unsure.ensures e)

pub operands-slot-x-requires : goal.operands-slot-x-requires
operands-slot-x-requires t c = (amount_inside _ _ _ c.requires.1, omega arith)

pub operands-leaves-requires : goal.operands-leaves-requires
operands-leaves-requires t c = c.requires

pub operands-amounts-requires : goal.operands-amounts-requires
operands-amounts-requires t c = (omega arith, c.requires)

pub operands-returns-in-78 : goal.operands-returns-in-78
operands-returns-in-78 t c = c.leaves.ensures

pub operands-returns-in_default : goal.operands-returns-in_default
operands-returns-in_default t c = c.amounts.ensures

-- what is known in the arm of letter l
tests_here : (t : ℕ) (c : tests-After-test_letter-letter t) (l : TestLetter) → c.test_letter-letter.result ≡ l
    → TestNode c.args.lent.now.nodes.now c.args.left c.args.at l
tests_here t c l e =
    let f : SFits w64 c.slot.result = search rules in
    let p = c.requires in
    test_node f c.slot.ensures p.1 p.2 c.test_letter-letter.ensures e

pub tests-slot-requires : goal.tests-slot-requires
tests-slot-requires t c = (test_inside _ _ _ c.requires.1, omega arith)

pub tests-overflow_add-at : goal.tests-overflow_add-at
tests-overflow_add-at t c =
    let n = tests_here t (goal.at.tests-overflow_add-at t c).After-test_letter-letter test.Less c.in-Less.is in
    record { fits = omega (arith, n.inside) }

pub tests-overflow_sub-left : goal.tests-overflow_sub-left
tests-overflow_sub-left t c =
    let n = tests_here t (goal.at.tests-overflow_sub-left t c).After-test_letter-letter test.Less c.in-Less.is in
    omega (arith, n.some)

pub tests-operands-x-requires : goal.tests-operands-x-requires
unfolding fields_of_test
tests-operands-x-requires t c =
    let n = tests_here t (goal.at.tests-operands-x-requires t c).After-test_letter-letter test.Less c.in-Less.is in
    (omega (arith, n.some), (c.requires.0, n.stands.0, n.fields.0))

pub tests-link-requires : goal.tests-link-requires
tests-link-requires t c =
    let n = tests_here t (goal.at.tests-link-requires t c).After-test_letter-letter test.Less c.in-Less.is in
    (n.inside, omega arith, n.stands.1.0)

pub tests-overflow_sub-left-in-Less : goal.tests-overflow_sub-left-in-Less
tests-overflow_sub-left-in-Less t c =
    let n = tests_here t (goal.at.tests-overflow_sub-left-in-Less t c).After-test_letter-letter test.Less c.in-Less.is in
    omega (arith, n.some)

pub tests-operands-y-requires : goal.tests-operands-y-requires
unfolding fields_of_test
tests-operands-y-requires t c =
    let n = tests_here t (goal.at.tests-operands-y-requires t c).After-test_letter-letter test.Less c.in-Less.is in
    (omega (arith, n.some), rw c.link.ensures (c.requires.0, n.stands.1.1, n.fields.1))

pub tests-overflow_add-at-in-Equal : goal.tests-overflow_add-at-in-Equal
tests-overflow_add-at-in-Equal t c =
    let n = tests_here t (goal.at.tests-overflow_add-at-in-Equal t c).After-test_letter-letter test.Equal c.in-Equal.is in
    record { fits = omega (arith, n.inside) }

pub tests-overflow_sub-left-in-Equal : goal.tests-overflow_sub-left-in-Equal
tests-overflow_sub-left-in-Equal t c =
    let n = tests_here t (goal.at.tests-overflow_sub-left-in-Equal t c).After-test_letter-letter test.Equal c.in-Equal.is in
    omega (arith, n.some)

pub tests-operands-x-requires-in-Equal : goal.tests-operands-x-requires-in-Equal
unfolding fields_of_test
tests-operands-x-requires-in-Equal t c =
    let n = tests_here t (goal.at.tests-operands-x-requires-in-Equal t c).After-test_letter-letter test.Equal c.in-Equal.is in
    (omega (arith, n.some), (c.requires.0, n.stands.0, n.fields.0))

pub tests-link-requires-in-Equal : goal.tests-link-requires-in-Equal
tests-link-requires-in-Equal t c =
    let n = tests_here t (goal.at.tests-link-requires-in-Equal t c).After-test_letter-letter test.Equal c.in-Equal.is in
    (n.inside, omega arith, n.stands.1.0)

pub tests-overflow_sub-left-in-Equal-2 : goal.tests-overflow_sub-left-in-Equal-2
tests-overflow_sub-left-in-Equal-2 t c =
    let n = tests_here t (goal.at.tests-overflow_sub-left-in-Equal-2 t c).After-test_letter-letter test.Equal c.in-Equal.is in
    omega (arith, n.some)

pub tests-operands-y-requires-in-Equal : goal.tests-operands-y-requires-in-Equal
unfolding fields_of_test
tests-operands-y-requires-in-Equal t c =
    let n = tests_here t (goal.at.tests-operands-y-requires-in-Equal t c).After-test_letter-letter test.Equal c.in-Equal.is in
    (omega (arith, n.some), rw c.link-in-Equal.ensures (c.requires.0, n.stands.1.1, n.fields.1))

pub tests-overflow_add-at-in-Conjunction : goal.tests-overflow_add-at-in-Conjunction
tests-overflow_add-at-in-Conjunction t c =
    let n = tests_here t (goal.at.tests-overflow_add-at-in-Conjunction t c).After-test_letter-letter test.Conjunction c.in-Conjunction.is in
    record { fits = omega (arith, n.inside) }

pub tests-overflow_sub-left-in-Conjunction : goal.tests-overflow_sub-left-in-Conjunction
tests-overflow_sub-left-in-Conjunction t c =
    let n = tests_here t (goal.at.tests-overflow_sub-left-in-Conjunction t c).After-test_letter-letter test.Conjunction c.in-Conjunction.is in
    omega (arith, n.some)

pub tests-tests-x-requires : goal.tests-tests-x-requires
unfolding fields_of_test
tests-tests-x-requires t c =
    let n = tests_here t (goal.at.tests-tests-x-requires t c).After-test_letter-letter test.Conjunction c.in-Conjunction.is in
    (omega (arith, n.some), (c.requires.0, n.stands.0, n.fields.0))

pub tests-link-requires-in-Conjunction : goal.tests-link-requires-in-Conjunction
tests-link-requires-in-Conjunction t c =
    let n = tests_here t (goal.at.tests-link-requires-in-Conjunction t c).After-test_letter-letter test.Conjunction c.in-Conjunction.is in
    (n.inside, omega arith, n.stands.1.0)

pub tests-overflow_sub-left-in-Conjunction-2 : goal.tests-overflow_sub-left-in-Conjunction-2
tests-overflow_sub-left-in-Conjunction-2 t c =
    let n = tests_here t (goal.at.tests-overflow_sub-left-in-Conjunction-2 t c).After-test_letter-letter test.Conjunction c.in-Conjunction.is in
    omega (arith, n.some)

pub tests-tests-y-requires : goal.tests-tests-y-requires
unfolding fields_of_test
tests-tests-y-requires t c =
    let n = tests_here t (goal.at.tests-tests-y-requires t c).After-test_letter-letter test.Conjunction c.in-Conjunction.is in
    (omega (arith, n.some), rw c.link-in-Conjunction.ensures (c.requires.0, n.stands.1.1, n.fields.1))

pub tests-overflow_add-at-in-Disjunction : goal.tests-overflow_add-at-in-Disjunction
tests-overflow_add-at-in-Disjunction t c =
    let n = tests_here t (goal.at.tests-overflow_add-at-in-Disjunction t c).After-test_letter-letter test.Disjunction c.in-Disjunction.is in
    record { fits = omega (arith, n.inside) }

pub tests-overflow_sub-left-in-Disjunction : goal.tests-overflow_sub-left-in-Disjunction
tests-overflow_sub-left-in-Disjunction t c =
    let n = tests_here t (goal.at.tests-overflow_sub-left-in-Disjunction t c).After-test_letter-letter test.Disjunction c.in-Disjunction.is in
    omega (arith, n.some)

pub tests-tests-x-requires-in-Disjunction : goal.tests-tests-x-requires-in-Disjunction
unfolding fields_of_test
tests-tests-x-requires-in-Disjunction t c =
    let n = tests_here t (goal.at.tests-tests-x-requires-in-Disjunction t c).After-test_letter-letter test.Disjunction c.in-Disjunction.is in
    (omega (arith, n.some), (c.requires.0, n.stands.0, n.fields.0))

pub tests-link-requires-in-Disjunction : goal.tests-link-requires-in-Disjunction
tests-link-requires-in-Disjunction t c =
    let n = tests_here t (goal.at.tests-link-requires-in-Disjunction t c).After-test_letter-letter test.Disjunction c.in-Disjunction.is in
    (n.inside, omega arith, n.stands.1.0)

pub tests-overflow_sub-left-in-Disjunction-2 : goal.tests-overflow_sub-left-in-Disjunction-2
tests-overflow_sub-left-in-Disjunction-2 t c =
    let n = tests_here t (goal.at.tests-overflow_sub-left-in-Disjunction-2 t c).After-test_letter-letter test.Disjunction c.in-Disjunction.is in
    omega (arith, n.some)

pub tests-tests-y-requires-in-Disjunction : goal.tests-tests-y-requires-in-Disjunction
unfolding fields_of_test
tests-tests-y-requires-in-Disjunction t c =
    let n = tests_here t (goal.at.tests-tests-y-requires-in-Disjunction t c).After-test_letter-letter test.Disjunction c.in-Disjunction.is in
    (omega (arith, n.some), rw c.link-in-Disjunction.ensures (c.requires.0, n.stands.1.1, n.fields.1))

pub tests-overflow_add-at-in-Negation : goal.tests-overflow_add-at-in-Negation
tests-overflow_add-at-in-Negation t c =
    let n = tests_here t (goal.at.tests-overflow_add-at-in-Negation t c).After-test_letter-letter test.Negation c.in-Negation.is in
    record { fits = omega (arith, n.inside) }

pub tests-overflow_sub-left-in-Negation : goal.tests-overflow_sub-left-in-Negation
tests-overflow_sub-left-in-Negation t c =
    let n = tests_here t (goal.at.tests-overflow_sub-left-in-Negation t c).After-test_letter-letter test.Negation c.in-Negation.is in
    omega (arith, n.some)

pub tests-tests-x-requires-in-Negation : goal.tests-tests-x-requires-in-Negation
unfolding fields_of_test
tests-tests-x-requires-in-Negation t c =
    let n = tests_here t (goal.at.tests-tests-x-requires-in-Negation t c).After-test_letter-letter test.Negation c.in-Negation.is in
    (omega (arith, n.some), (c.requires.0, n.stands, n.fields))

pub tests-returns-in-Less : goal.tests-returns-in-Less
tests-returns-in-Less t c =
    let n = tests_here t (goal.at.tests-returns-in-Less t c).After-test_letter-letter test.Less c.in-Less.is in
    λ e k m.
    let s = c.less_than.ensures e in
    arms.less_arm _ _ _ _ _ _ _ _ (c.operands-x.ensures s.0 k m) c.link.ensures (c.operands-y.ensures s.1 k m) n (s.2 k m)

pub tests-returns-in-Equal : goal.tests-returns-in-Equal
tests-returns-in-Equal t c =
    let n = tests_here t (goal.at.tests-returns-in-Equal t c).After-test_letter-letter test.Equal c.in-Equal.is in
    λ e k m.
    let s = c.equal_to.ensures e in
    arms.equal_arm _ _ _ _ _ _ _ _ (c.operands-x-in-Equal.ensures s.0 k m) c.link-in-Equal.ensures (c.operands-y-in-Equal.ensures s.1 k m) n (s.2 k m)

pub tests-returns-in-Conjunction : goal.tests-returns-in-Conjunction
tests-returns-in-Conjunction t c =
    let n = tests_here t (goal.at.tests-returns-in-Conjunction t c).After-test_letter-letter test.Conjunction c.in-Conjunction.is in
    λ e k m.
    let s = c.both_hold.ensures e in
    arms.conjunction_arm _ _ _ _ _ _ _ _ (c.tests-x.ensures s.0 k m) c.link-in-Conjunction.ensures (c.tests-y.ensures s.1 k m) n (s.2 k m)

pub tests-returns-in-Disjunction : goal.tests-returns-in-Disjunction
tests-returns-in-Disjunction t c =
    let n = tests_here t (goal.at.tests-returns-in-Disjunction t c).After-test_letter-letter test.Disjunction c.in-Disjunction.is in
    λ e k m.
    let s = c.one_holds.ensures e in
    arms.disjunction_arm _ _ _ _ _ _ _ _ (c.tests-x-in-Disjunction.ensures s.0 k m) c.link-in-Disjunction.ensures (c.tests-y-in-Disjunction.ensures s.1 k m) n (s.2 k m)

pub tests-returns-in-Negation : goal.tests-returns-in-Negation
tests-returns-in-Negation t c =
    let n = tests_here t (goal.at.tests-returns-in-Negation t c).After-test_letter-letter test.Negation c.in-Negation.is in
    λ e k m.
    let s = c.opposite.ensures e in
    arms.negation_arm _ _ _ _ _ _ _ _ n (c.tests-x-in-Negation.ensures s.0 k m) (s.1 k m)

pub tests-returns-in-NoTest : goal.tests-returns-in-NoTest
tests-returns-in-NoTest t c = λ e. absurd (never e)
