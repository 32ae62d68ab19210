use mathlib.Core.Path.{◌≡◌, refl}
use mir.Syntax.{w64}
use mir.Val.{SFits}
use native.Mathlib.Omega.{arith}
use borrow.Author.Rules.{rules}
use Rattle.integers.proofs.Locals.{rd}
use Rattle.nodes.specs.Letters.{letter_of_amount}
use Rattle.nodes.specs.Table.{nat_of}
use Rattle.nodes.specs.declared.AmountLetter.{AmountLetter}
use Rattle.nodes.specs.declared.AmountLetter.TheVariants as amount
use Rattle.nodes.specs.declared.TestLetter.{TestLetter}
use Rattle.nodes.specs.declared.TestLetter.TheVariants as test
use Rattle.amounts.proofs.AmountArms as amount-arms
use Rattle.amounts.proofs.FourMonths.{each}
use Rattle.amounts.proofs.Nodes.{AmountNode, TestNode, amount_inside, amount_node, index_key, number_key, test_inside, test_node}
use Rattle.amounts.proofs.TestArms as test-arms
use Rattle.amounts.specs.Fine.{Fine, FineTest}
use Rattle.amounts.specs.FourMonths.{held_in, pence_in}
use Prim.Native.Nat.{◌*◌, ◌+◌, ◌<◌, ℕ}
use Rattle.amounts.proofs.Tables.+amounts_operands_tests.Goals as goal
use Rattle.amounts.proofs.Tables.+amounts_operands_tests.Goals.{amounts-After-amount_letter-letter, operands-After-slot-x, tests-After-test_letter-letter}

-- what is known in the arm of letter l, in each of the four months
amounts_here : (t : ℕ) (c : amounts-After-amount_letter-letter t) (l : AmountLetter)
    → c.amount_letter-letter.result ≡ l → (k : ℕ) → k < 4 → AmountNode c.args.self.now.values.now c.args.self.now.nodes.now (nat_of c.args.month.0 + k) c.args.left c.args.at l
amounts_here t c l e k m =
    let f : SFits w64 c.slot.result = search rules in
    let p = c.requires in
    amount_node _ _ _ _ _ _ f c.slot.ensures p.1 (p.2 k m) _ c.amount_letter-letter.ensures l e

pub amounts-slot-requires : goal.amounts-slot-requires
amounts-slot-requires t c = (amount_inside _ _ _ c.requires.1, omega arith)

pub amounts-number-requires : goal.amounts-number-requires
amounts-number-requires t c = amount_inside _ _ _ c.requires.1

pub amounts-reading-requires : goal.amounts-reading-requires
unfolding Fine
amounts-reading-requires t c =
    let n = amounts_here t (goal.at.amounts-reading-requires t c).After-amount_letter-letter amount.Index c.in-Index.is in
    ((n 0 (omega arith)).inside, c.requires.0, λ k m. (n k m).fine)

pub amounts-overflow_add-at : goal.amounts-overflow_add-at
amounts-overflow_add-at t c =
    let n = amounts_here t (goal.at.amounts-overflow_add-at t c).After-amount_letter-letter amount.Sum c.in-Sum.is in
    omega (arith, (n 0 (omega arith)).inside)

pub amounts-overflow_sub-left : goal.amounts-overflow_sub-left
amounts-overflow_sub-left t c =
    let n = amounts_here t (goal.at.amounts-overflow_sub-left t c).After-amount_letter-letter amount.Sum c.in-Sum.is in
    omega (arith, (n 0 (omega arith)).some)

pub amounts-operands-x-requires : goal.amounts-operands-x-requires
unfolding Fine
amounts-operands-x-requires t c =
    let n = amounts_here t (goal.at.amounts-operands-x-requires t c).After-amount_letter-letter amount.Sum c.in-Sum.is in
    (omega (arith, (n 0 (omega arith)).some), (c.requires.0, (n 0 (omega arith)).stands.0, λ k m. (n k m).fine.0))

pub amounts-link-requires : goal.amounts-link-requires
amounts-link-requires t c =
    let n = amounts_here t (goal.at.amounts-link-requires t c).After-amount_letter-letter amount.Sum c.in-Sum.is in
    ((n 0 (omega arith)).inside, omega arith, (n 0 (omega arith)).stands.1.0)

pub amounts-overflow_sub-left-in-Sum : goal.amounts-overflow_sub-left-in-Sum
amounts-overflow_sub-left-in-Sum t c =
    let n = amounts_here t (goal.at.amounts-overflow_sub-left-in-Sum t c).After-amount_letter-letter amount.Sum c.in-Sum.is in
    omega (arith, (n 0 (omega arith)).some)

pub amounts-operands-y-requires : goal.amounts-operands-y-requires
unfolding Fine
amounts-operands-y-requires t c =
    let n = amounts_here t (goal.at.amounts-operands-y-requires t c).After-amount_letter-letter amount.Sum c.in-Sum.is in
    (omega (arith, (n 0 (omega arith)).some), rw c.link.ensures (c.requires.0, (n 0 (omega arith)).stands.1.1, λ k m. (n k m).fine.1))

pub amounts-plus-requires : goal.amounts-plus-requires
unfolding Fine
amounts-plus-requires t c =
    let n = amounts_here t (goal.at.amounts-plus-requires t c).After-amount_letter-letter amount.Sum c.in-Sum.is in
    λ k m. rw (c.operands-x.ensures k m, c.operands-y.ensures k m, c.link.ensures) (n k m).fine.2

pub amounts-overflow_add-at-in-Difference : goal.amounts-overflow_add-at-in-Difference
amounts-overflow_add-at-in-Difference t c =
    let n = amounts_here t (goal.at.amounts-overflow_add-at-in-Difference t c).After-amount_letter-letter amount.Difference c.in-Difference.is in
    omega (arith, (n 0 (omega arith)).inside)

pub amounts-overflow_sub-left-in-Difference : goal.amounts-overflow_sub-left-in-Difference
amounts-overflow_sub-left-in-Difference t c =
    let n = amounts_here t (goal.at.amounts-overflow_sub-left-in-Difference t c).After-amount_letter-letter amount.Difference c.in-Difference.is in
    omega (arith, (n 0 (omega arith)).some)

pub amounts-operands-x-requires-in-Difference : goal.amounts-operands-x-requires-in-Difference
unfolding Fine
amounts-operands-x-requires-in-Difference t c =
    let n = amounts_here t (goal.at.amounts-operands-x-requires-in-Difference t c).After-amount_letter-letter amount.Difference c.in-Difference.is in
    (omega (arith, (n 0 (omega arith)).some), (c.requires.0, (n 0 (omega arith)).stands.0, λ k m. (n k m).fine.0))

pub amounts-link-requires-in-Difference : goal.amounts-link-requires-in-Difference
amounts-link-requires-in-Difference t c =
    let n = amounts_here t (goal.at.amounts-link-requires-in-Difference t c).After-amount_letter-letter amount.Difference c.in-Difference.is in
    ((n 0 (omega arith)).inside, omega arith, (n 0 (omega arith)).stands.1.0)

pub amounts-overflow_sub-left-in-Difference-2 : goal.amounts-overflow_sub-left-in-Difference-2
amounts-overflow_sub-left-in-Difference-2 t c =
    let n = amounts_here t (goal.at.amounts-overflow_sub-left-in-Difference-2 t c).After-amount_letter-letter amount.Difference c.in-Difference.is in
    omega (arith, (n 0 (omega arith)).some)

pub amounts-operands-y-requires-in-Difference : goal.amounts-operands-y-requires-in-Difference
unfolding Fine
amounts-operands-y-requires-in-Difference t c =
    let n = amounts_here t (goal.at.amounts-operands-y-requires-in-Difference t c).After-amount_letter-letter amount.Difference c.in-Difference.is in
    (omega (arith, (n 0 (omega arith)).some), rw c.link-in-Difference.ensures (c.requires.0, (n 0 (omega arith)).stands.1.1, λ k m. (n k m).fine.1))

pub amounts-minus-requires : goal.amounts-minus-requires
unfolding Fine
amounts-minus-requires t c =
    let n = amounts_here t (goal.at.amounts-minus-requires t c).After-amount_letter-letter amount.Difference c.in-Difference.is in
    λ k m. rw (c.operands-x-in-Difference.ensures k m, c.operands-y-in-Difference.ensures k m, c.link-in-Difference.ensures) (n k m).fine.2

pub amounts-overflow_add-at-in-Product : goal.amounts-overflow_add-at-in-Product
amounts-overflow_add-at-in-Product t c =
    let n = amounts_here t (goal.at.amounts-overflow_add-at-in-Product t c).After-amount_letter-letter amount.Product c.in-Product.is in
    omega (arith, (n 0 (omega arith)).inside)

pub amounts-overflow_sub-left-in-Product : goal.amounts-overflow_sub-left-in-Product
amounts-overflow_sub-left-in-Product t c =
    let n = amounts_here t (goal.at.amounts-overflow_sub-left-in-Product t c).After-amount_letter-letter amount.Product c.in-Product.is in
    omega (arith, (n 0 (omega arith)).some)

pub amounts-operands-x-requires-in-Product : goal.amounts-operands-x-requires-in-Product
unfolding Fine
amounts-operands-x-requires-in-Product t c =
    let n = amounts_here t (goal.at.amounts-operands-x-requires-in-Product t c).After-amount_letter-letter amount.Product c.in-Product.is in
    (omega (arith, (n 0 (omega arith)).some), (c.requires.0, (n 0 (omega arith)).stands.0, λ k m. (n k m).fine.0))

pub amounts-link-requires-in-Product : goal.amounts-link-requires-in-Product
amounts-link-requires-in-Product t c =
    let n = amounts_here t (goal.at.amounts-link-requires-in-Product t c).After-amount_letter-letter amount.Product c.in-Product.is in
    ((n 0 (omega arith)).inside, omega arith, (n 0 (omega arith)).stands.1.0)

pub amounts-overflow_sub-left-in-Product-2 : goal.amounts-overflow_sub-left-in-Product-2
amounts-overflow_sub-left-in-Product-2 t c =
    let n = amounts_here t (goal.at.amounts-overflow_sub-left-in-Product-2 t c).After-amount_letter-letter amount.Product c.in-Product.is in
    omega (arith, (n 0 (omega arith)).some)

pub amounts-operands-y-requires-in-Product : goal.amounts-operands-y-requires-in-Product
unfolding Fine
amounts-operands-y-requires-in-Product t c =
    let n = amounts_here t (goal.at.amounts-operands-y-requires-in-Product t c).After-amount_letter-letter amount.Product c.in-Product.is in
    (omega (arith, (n 0 (omega arith)).some), rw c.link-in-Product.ensures (c.requires.0, (n 0 (omega arith)).stands.1.1, λ k m. (n k m).fine.1))

pub amounts-times-requires : goal.amounts-times-requires
unfolding Fine
amounts-times-requires t c =
    let n = amounts_here t (goal.at.amounts-times-requires t c).After-amount_letter-letter amount.Product c.in-Product.is in
    λ k m. rw (c.operands-x-in-Product.ensures k m, c.operands-y-in-Product.ensures k m, c.link-in-Product.ensures) (n k m).fine.2

pub amounts-overflow_add-at-in-Quotient : goal.amounts-overflow_add-at-in-Quotient
amounts-overflow_add-at-in-Quotient t c =
    let n = amounts_here t (goal.at.amounts-overflow_add-at-in-Quotient t c).After-amount_letter-letter amount.Quotient c.in-Quotient.is in
    omega (arith, (n 0 (omega arith)).inside)

pub amounts-overflow_sub-left-in-Quotient : goal.amounts-overflow_sub-left-in-Quotient
amounts-overflow_sub-left-in-Quotient t c =
    let n = amounts_here t (goal.at.amounts-overflow_sub-left-in-Quotient t c).After-amount_letter-letter amount.Quotient c.in-Quotient.is in
    omega (arith, (n 0 (omega arith)).some)

pub amounts-operands-x-requires-in-Quotient : goal.amounts-operands-x-requires-in-Quotient
unfolding Fine
amounts-operands-x-requires-in-Quotient t c =
    let n = amounts_here t (goal.at.amounts-operands-x-requires-in-Quotient t c).After-amount_letter-letter amount.Quotient c.in-Quotient.is in
    (omega (arith, (n 0 (omega arith)).some), (c.requires.0, (n 0 (omega arith)).stands, λ k m. (n k m).fine.0))

pub amounts-over-requires : goal.amounts-over-requires
unfolding Fine
amounts-over-requires t c =
    let n = amounts_here t (goal.at.amounts-over-requires t c).After-amount_letter-letter amount.Quotient c.in-Quotient.is in
    ((n 0 (omega arith)).inside, (n 0 (omega arith)).fine.1)

pub amounts-overflow_add-at-in-Choose : goal.amounts-overflow_add-at-in-Choose
amounts-overflow_add-at-in-Choose t c =
    let n = amounts_here t (goal.at.amounts-overflow_add-at-in-Choose t c).After-amount_letter-letter amount.Choose c.in-Choose.is in
    omega (arith, (n 0 (omega arith)).inside)

pub amounts-overflow_sub-left-in-Choose : goal.amounts-overflow_sub-left-in-Choose
amounts-overflow_sub-left-in-Choose t c =
    let n = amounts_here t (goal.at.amounts-overflow_sub-left-in-Choose t c).After-amount_letter-letter amount.Choose c.in-Choose.is in
    omega (arith, (n 0 (omega arith)).some)

pub amounts-tests-t-requires : goal.amounts-tests-t-requires
unfolding Fine
amounts-tests-t-requires t c =
    let n = amounts_here t (goal.at.amounts-tests-t-requires t c).After-amount_letter-letter amount.Choose c.in-Choose.is in
    (omega (arith, (n 0 (omega arith)).some), (c.requires.0, (n 0 (omega arith)).stands.0, λ k m. (n k m).fine.0))

pub amounts-link-requires-in-Choose : goal.amounts-link-requires-in-Choose
amounts-link-requires-in-Choose t c =
    let n = amounts_here t (goal.at.amounts-link-requires-in-Choose t c).After-amount_letter-letter amount.Choose c.in-Choose.is in
    ((n 0 (omega arith)).inside, omega arith, (n 0 (omega arith)).stands.1.0)

pub amounts-overflow_sub-left-in-Choose-2 : goal.amounts-overflow_sub-left-in-Choose-2
amounts-overflow_sub-left-in-Choose-2 t c =
    let n = amounts_here t (goal.at.amounts-overflow_sub-left-in-Choose-2 t c).After-amount_letter-letter amount.Choose c.in-Choose.is in
    omega (arith, (n 0 (omega arith)).some)

pub amounts-operands-x-requires-in-Choose : goal.amounts-operands-x-requires-in-Choose
unfolding Fine
amounts-operands-x-requires-in-Choose t c =
    let n = amounts_here t (goal.at.amounts-operands-x-requires-in-Choose t c).After-amount_letter-letter amount.Choose c.in-Choose.is in
    (omega (arith, (n 0 (omega arith)).some), rw c.link-in-Choose.ensures (c.requires.0, (n 0 (omega arith)).stands.1.1, λ k m. (n k m).fine.1))

pub amounts-link-requires-in-Choose-2 : goal.amounts-link-requires-in-Choose-2
amounts-link-requires-in-Choose-2 t c =
    let n = amounts_here t (goal.at.amounts-link-requires-in-Choose-2 t c).After-amount_letter-letter amount.Choose c.in-Choose.is in
    ((n 0 (omega arith)).inside, omega arith, (n 0 (omega arith)).stands.2.0)

pub amounts-overflow_sub-left-in-Choose-3 : goal.amounts-overflow_sub-left-in-Choose-3
amounts-overflow_sub-left-in-Choose-3 t c =
    let n = amounts_here t (goal.at.amounts-overflow_sub-left-in-Choose-3 t c).After-amount_letter-letter amount.Choose c.in-Choose.is in
    omega (arith, (n 0 (omega arith)).some)

pub amounts-operands-y-requires-in-Choose : goal.amounts-operands-y-requires-in-Choose
unfolding Fine
amounts-operands-y-requires-in-Choose t c =
    let n = amounts_here t (goal.at.amounts-operands-y-requires-in-Choose t c).After-amount_letter-letter amount.Choose c.in-Choose.is in
    (omega (arith, (n 0 (omega arith)).some), rw c.link-in-Choose-2.ensures (c.requires.0, (n 0 (omega arith)).stands.2.1, λ k m. (n k m).fine.2))

pub amounts-returns-in-Number : goal.amounts-returns-in-Number
amounts-returns-in-Number t c =
    let n = amounts_here t (goal.at.amounts-returns-in-Number t c).After-amount_letter-letter amount.Number c.in-Number.is in
    λ k m. amount-arms.number_arm _ _ _ _ _ (n k m) _ (c.number.ensures k m)

pub amounts-returns-in-Index : goal.amounts-returns-in-Index
amounts-returns-in-Index t c =
    let n = amounts_here t (goal.at.amounts-returns-in-Index t c).After-amount_letter-letter amount.Index c.in-Index.is in
    λ k m. amount-arms.index_arm _ _ _ _ _ (n k m) _ (c.reading.ensures k m)

pub amounts-returns-in-Sum : goal.amounts-returns-in-Sum
amounts-returns-in-Sum t c =
    let n = amounts_here t (goal.at.amounts-returns-in-Sum t c).After-amount_letter-letter amount.Sum c.in-Sum.is in
    λ k m. amount-arms.sum_arm _ _ _ _ _ (n k m) _ _ _ _ (c.operands-x.ensures k m) c.link.ensures (c.operands-y.ensures k m) (c.plus.ensures k m)

pub amounts-returns-in-Difference : goal.amounts-returns-in-Difference
amounts-returns-in-Difference t c =
    let n = amounts_here t (goal.at.amounts-returns-in-Difference t c).After-amount_letter-letter amount.Difference c.in-Difference.is in
    λ k m. amount-arms.difference_arm _ _ _ _ _ (n k m) _ _ _ _ (c.operands-x-in-Difference.ensures k m) c.link-in-Difference.ensures (c.operands-y-in-Difference.ensures k m) (c.minus.ensures k m)

pub amounts-returns-in-Product : goal.amounts-returns-in-Product
amounts-returns-in-Product t c =
    let n = amounts_here t (goal.at.amounts-returns-in-Product t c).After-amount_letter-letter amount.Product c.in-Product.is in
    λ k m. amount-arms.product_arm _ _ _ _ _ (n k m) _ _ _ _ (c.operands-x-in-Product.ensures k m) c.link-in-Product.ensures (c.operands-y-in-Product.ensures k m) (c.times.ensures k m)

pub amounts-returns-in-Quotient : goal.amounts-returns-in-Quotient
amounts-returns-in-Quotient t c =
    let n = amounts_here t (goal.at.amounts-returns-in-Quotient t c).After-amount_letter-letter amount.Quotient c.in-Quotient.is in
    λ k m. amount-arms.quotient_arm _ _ _ _ _ (n k m) _ _ (c.operands-x-in-Quotient.ensures k m) (c.over.ensures k m)

pub amounts-returns-in-Choose : goal.amounts-returns-in-Choose
amounts-returns-in-Choose t c =
    let n = amounts_here t (goal.at.amounts-returns-in-Choose t c).After-amount_letter-letter amount.Choose c.in-Choose.is in
    λ k m. amount-arms.choose_arm _ _ _ _ _ (n k m) _ (c.tests-t.ensures k m) _ _ _ _ _ c.link-in-Choose.ensures (c.operands-x-in-Choose.ensures k m) c.link-in-Choose-2.ensures (c.operands-y-in-Choose.ensures k m) (c.chosen.ensures k m)

pub amounts-returns-in-NoAmount : goal.amounts-returns-in-NoAmount
unfolding pence_in
amounts-returns-in-NoAmount t c =
    let n = amounts_here t (goal.at.amounts-returns-in-NoAmount t c).After-amount_letter-letter amount.NoAmount c.in-NoAmount.is in
    each _ (amount-arms.no_amount_arm _ _ _ _ _ (n 0 (omega arith))) (amount-arms.no_amount_arm _ _ _ _ _ (n 1 (omega arith))) (amount-arms.no_amount_arm _ _ _ _ _ (n 2 (omega arith))) (amount-arms.no_amount_arm _ _ _ _ _ (n 3 (omega arith)))

-- what is known where the letter is l, in each of the four months
operands_here : (t : ℕ) (c : operands-After-slot-x t) (l : AmountLetter)
    → l ≡ letter_of_amount (rd c.slot-x.result) → (k : ℕ) → k < 4 → AmountNode c.args.self.now.values.now c.args.self.now.nodes.now (nat_of c.args.month.0 + k) c.args.left c.args.at l
operands_here t c l e k m =
    let f : SFits w64 c.slot-x.result = search rules in
    let p = c.requires in
    amount_node _ _ _ _ _ _ f c.slot-x.ensures p.1 (p.2 k m) l e l refl

pub operands-slot-x-requires : goal.operands-slot-x-requires
operands-slot-x-requires t c = (amount_inside _ _ _ c.requires.1, omega arith)

pub operands-number-requires : goal.operands-number-requires
operands-number-requires t c = amount_inside _ _ _ c.requires.1

pub operands-reading-requires : goal.operands-reading-requires
unfolding Fine
operands-reading-requires t c =
    let f : SFits w64 c.slot-x.result = search rules in
    let n = operands_here t (goal.at.operands-reading-requires t c).After-slot-x amount.Index (index_key _ f c.in-79.in-79-own.keys2) in
    ((n 0 (omega arith)).inside, c.requires.0, λ k m. (n k m).fine)

pub operands-amounts-requires : goal.operands-amounts-requires
operands-amounts-requires t c = (omega arith, c.requires)

pub operands-returns-in-78 : goal.operands-returns-in-78
operands-returns-in-78 t c =
    let f : SFits w64 c.slot-x.result = search rules in
    let n = operands_here t (goal.at.operands-returns-in-78 t c).After-slot-x amount.Number (number_key _ f c.in-78.in-78-own.keys1) in
    λ k m. amount-arms.number_arm _ _ _ _ _ (n k m) _ (c.number.ensures k m)

pub operands-returns-in-79 : goal.operands-returns-in-79
operands-returns-in-79 t c =
    let f : SFits w64 c.slot-x.result = search rules in
    let n = operands_here t (goal.at.operands-returns-in-79 t c).After-slot-x amount.Index (index_key _ f c.in-79.in-79-own.keys2) in
    λ k m. amount-arms.index_arm _ _ _ _ _ (n k m) _ (c.reading.ensures k m)

pub operands-returns-in_default : goal.operands-returns-in_default
operands-returns-in_default t c = c.amounts.ensures

-- what is known in the arm of letter l, in each of the four months
tests_here : (t : ℕ) (c : tests-After-test_letter-letter t) (l : TestLetter)
    → c.test_letter-letter.result ≡ l → (k : ℕ) → k < 4 → TestNode c.args.self.now.values.now c.args.self.now.nodes.now (nat_of c.args.month.0 + k) c.args.left c.args.at l
tests_here t c l e k m =
    let f : SFits w64 c.slot.result = search rules in
    let p = c.requires in
    test_node _ _ _ _ _ _ f c.slot.ensures p.1 (p.2 k m) _ c.test_letter-letter.ensures l e

pub tests-slot-requires : goal.tests-slot-requires
tests-slot-requires t c = (test_inside _ _ _ c.requires.1, omega arith)

pub tests-overflow_add-at : goal.tests-overflow_add-at
tests-overflow_add-at t c =
    let n = tests_here t (goal.at.tests-overflow_add-at t c).After-test_letter-letter test.Less c.in-Less.is in
    omega (arith, (n 0 (omega arith)).inside)

pub tests-overflow_sub-left : goal.tests-overflow_sub-left
tests-overflow_sub-left t c =
    let n = tests_here t (goal.at.tests-overflow_sub-left t c).After-test_letter-letter test.Less c.in-Less.is in
    omega (arith, (n 0 (omega arith)).some)

pub tests-operands-x-requires : goal.tests-operands-x-requires
unfolding FineTest
tests-operands-x-requires t c =
    let n = tests_here t (goal.at.tests-operands-x-requires t c).After-test_letter-letter test.Less c.in-Less.is in
    (omega (arith, (n 0 (omega arith)).some), (c.requires.0, (n 0 (omega arith)).stands.0, λ k m. (n k m).fine.0))

pub tests-link-requires : goal.tests-link-requires
tests-link-requires t c =
    let n = tests_here t (goal.at.tests-link-requires t c).After-test_letter-letter test.Less c.in-Less.is in
    ((n 0 (omega arith)).inside, omega arith, (n 0 (omega arith)).stands.1.0)

pub tests-overflow_sub-left-in-Less : goal.tests-overflow_sub-left-in-Less
tests-overflow_sub-left-in-Less t c =
    let n = tests_here t (goal.at.tests-overflow_sub-left-in-Less t c).After-test_letter-letter test.Less c.in-Less.is in
    omega (arith, (n 0 (omega arith)).some)

pub tests-operands-y-requires : goal.tests-operands-y-requires
unfolding FineTest
tests-operands-y-requires t c =
    let n = tests_here t (goal.at.tests-operands-y-requires t c).After-test_letter-letter test.Less c.in-Less.is in
    (omega (arith, (n 0 (omega arith)).some), rw c.link.ensures (c.requires.0, (n 0 (omega arith)).stands.1.1, λ k m. (n k m).fine.1))

pub tests-overflow_add-at-in-Equal : goal.tests-overflow_add-at-in-Equal
tests-overflow_add-at-in-Equal t c =
    let n = tests_here t (goal.at.tests-overflow_add-at-in-Equal t c).After-test_letter-letter test.Equal c.in-Equal.is in
    omega (arith, (n 0 (omega arith)).inside)

pub tests-overflow_sub-left-in-Equal : goal.tests-overflow_sub-left-in-Equal
tests-overflow_sub-left-in-Equal t c =
    let n = tests_here t (goal.at.tests-overflow_sub-left-in-Equal t c).After-test_letter-letter test.Equal c.in-Equal.is in
    omega (arith, (n 0 (omega arith)).some)

pub tests-operands-x-requires-in-Equal : goal.tests-operands-x-requires-in-Equal
unfolding FineTest
tests-operands-x-requires-in-Equal t c =
    let n = tests_here t (goal.at.tests-operands-x-requires-in-Equal t c).After-test_letter-letter test.Equal c.in-Equal.is in
    (omega (arith, (n 0 (omega arith)).some), (c.requires.0, (n 0 (omega arith)).stands.0, λ k m. (n k m).fine.0))

pub tests-link-requires-in-Equal : goal.tests-link-requires-in-Equal
tests-link-requires-in-Equal t c =
    let n = tests_here t (goal.at.tests-link-requires-in-Equal t c).After-test_letter-letter test.Equal c.in-Equal.is in
    ((n 0 (omega arith)).inside, omega arith, (n 0 (omega arith)).stands.1.0)

pub tests-overflow_sub-left-in-Equal-2 : goal.tests-overflow_sub-left-in-Equal-2
tests-overflow_sub-left-in-Equal-2 t c =
    let n = tests_here t (goal.at.tests-overflow_sub-left-in-Equal-2 t c).After-test_letter-letter test.Equal c.in-Equal.is in
    omega (arith, (n 0 (omega arith)).some)

pub tests-operands-y-requires-in-Equal : goal.tests-operands-y-requires-in-Equal
unfolding FineTest
tests-operands-y-requires-in-Equal t c =
    let n = tests_here t (goal.at.tests-operands-y-requires-in-Equal t c).After-test_letter-letter test.Equal c.in-Equal.is in
    (omega (arith, (n 0 (omega arith)).some), rw c.link-in-Equal.ensures (c.requires.0, (n 0 (omega arith)).stands.1.1, λ k m. (n k m).fine.1))

pub tests-overflow_add-at-in-Conjunction : goal.tests-overflow_add-at-in-Conjunction
tests-overflow_add-at-in-Conjunction t c =
    let n = tests_here t (goal.at.tests-overflow_add-at-in-Conjunction t c).After-test_letter-letter test.Conjunction c.in-Conjunction.is in
    omega (arith, (n 0 (omega arith)).inside)

pub tests-overflow_sub-left-in-Conjunction : goal.tests-overflow_sub-left-in-Conjunction
tests-overflow_sub-left-in-Conjunction t c =
    let n = tests_here t (goal.at.tests-overflow_sub-left-in-Conjunction t c).After-test_letter-letter test.Conjunction c.in-Conjunction.is in
    omega (arith, (n 0 (omega arith)).some)

pub tests-tests-x-requires : goal.tests-tests-x-requires
unfolding FineTest
tests-tests-x-requires t c =
    let n = tests_here t (goal.at.tests-tests-x-requires t c).After-test_letter-letter test.Conjunction c.in-Conjunction.is in
    (omega (arith, (n 0 (omega arith)).some), (c.requires.0, (n 0 (omega arith)).stands.0, λ k m. (n k m).fine.0))

pub tests-link-requires-in-Conjunction : goal.tests-link-requires-in-Conjunction
tests-link-requires-in-Conjunction t c =
    let n = tests_here t (goal.at.tests-link-requires-in-Conjunction t c).After-test_letter-letter test.Conjunction c.in-Conjunction.is in
    ((n 0 (omega arith)).inside, omega arith, (n 0 (omega arith)).stands.1.0)

pub tests-overflow_sub-left-in-Conjunction-2 : goal.tests-overflow_sub-left-in-Conjunction-2
tests-overflow_sub-left-in-Conjunction-2 t c =
    let n = tests_here t (goal.at.tests-overflow_sub-left-in-Conjunction-2 t c).After-test_letter-letter test.Conjunction c.in-Conjunction.is in
    omega (arith, (n 0 (omega arith)).some)

pub tests-tests-y-requires : goal.tests-tests-y-requires
unfolding FineTest
tests-tests-y-requires t c =
    let n = tests_here t (goal.at.tests-tests-y-requires t c).After-test_letter-letter test.Conjunction c.in-Conjunction.is in
    (omega (arith, (n 0 (omega arith)).some), rw c.link-in-Conjunction.ensures (c.requires.0, (n 0 (omega arith)).stands.1.1, λ k m. (n k m).fine.1))

pub tests-overflow_add-at-in-Disjunction : goal.tests-overflow_add-at-in-Disjunction
tests-overflow_add-at-in-Disjunction t c =
    let n = tests_here t (goal.at.tests-overflow_add-at-in-Disjunction t c).After-test_letter-letter test.Disjunction c.in-Disjunction.is in
    omega (arith, (n 0 (omega arith)).inside)

pub tests-overflow_sub-left-in-Disjunction : goal.tests-overflow_sub-left-in-Disjunction
tests-overflow_sub-left-in-Disjunction t c =
    let n = tests_here t (goal.at.tests-overflow_sub-left-in-Disjunction t c).After-test_letter-letter test.Disjunction c.in-Disjunction.is in
    omega (arith, (n 0 (omega arith)).some)

pub tests-tests-x-requires-in-Disjunction : goal.tests-tests-x-requires-in-Disjunction
unfolding FineTest
tests-tests-x-requires-in-Disjunction t c =
    let n = tests_here t (goal.at.tests-tests-x-requires-in-Disjunction t c).After-test_letter-letter test.Disjunction c.in-Disjunction.is in
    (omega (arith, (n 0 (omega arith)).some), (c.requires.0, (n 0 (omega arith)).stands.0, λ k m. (n k m).fine.0))

pub tests-link-requires-in-Disjunction : goal.tests-link-requires-in-Disjunction
tests-link-requires-in-Disjunction t c =
    let n = tests_here t (goal.at.tests-link-requires-in-Disjunction t c).After-test_letter-letter test.Disjunction c.in-Disjunction.is in
    ((n 0 (omega arith)).inside, omega arith, (n 0 (omega arith)).stands.1.0)

pub tests-overflow_sub-left-in-Disjunction-2 : goal.tests-overflow_sub-left-in-Disjunction-2
tests-overflow_sub-left-in-Disjunction-2 t c =
    let n = tests_here t (goal.at.tests-overflow_sub-left-in-Disjunction-2 t c).After-test_letter-letter test.Disjunction c.in-Disjunction.is in
    omega (arith, (n 0 (omega arith)).some)

pub tests-tests-y-requires-in-Disjunction : goal.tests-tests-y-requires-in-Disjunction
unfolding FineTest
tests-tests-y-requires-in-Disjunction t c =
    let n = tests_here t (goal.at.tests-tests-y-requires-in-Disjunction t c).After-test_letter-letter test.Disjunction c.in-Disjunction.is in
    (omega (arith, (n 0 (omega arith)).some), rw c.link-in-Disjunction.ensures (c.requires.0, (n 0 (omega arith)).stands.1.1, λ k m. (n k m).fine.1))

pub tests-overflow_add-at-in-Negation : goal.tests-overflow_add-at-in-Negation
tests-overflow_add-at-in-Negation t c =
    let n = tests_here t (goal.at.tests-overflow_add-at-in-Negation t c).After-test_letter-letter test.Negation c.in-Negation.is in
    omega (arith, (n 0 (omega arith)).inside)

pub tests-overflow_sub-left-in-Negation : goal.tests-overflow_sub-left-in-Negation
tests-overflow_sub-left-in-Negation t c =
    let n = tests_here t (goal.at.tests-overflow_sub-left-in-Negation t c).After-test_letter-letter test.Negation c.in-Negation.is in
    omega (arith, (n 0 (omega arith)).some)

pub tests-tests-x-requires-in-Negation : goal.tests-tests-x-requires-in-Negation
unfolding FineTest
tests-tests-x-requires-in-Negation t c =
    let n = tests_here t (goal.at.tests-tests-x-requires-in-Negation t c).After-test_letter-letter test.Negation c.in-Negation.is in
    (omega (arith, (n 0 (omega arith)).some), (c.requires.0, (n 0 (omega arith)).stands, λ k m. (n k m).fine))

pub tests-returns-in-Less : goal.tests-returns-in-Less
tests-returns-in-Less t c =
    let n = tests_here t (goal.at.tests-returns-in-Less t c).After-test_letter-letter test.Less c.in-Less.is in
    λ k m. test-arms.less_arm _ _ _ _ _ (n k m) _ _ _ _ (c.operands-x.ensures k m) c.link.ensures (c.operands-y.ensures k m) (c.less.ensures k m)

pub tests-returns-in-Equal : goal.tests-returns-in-Equal
tests-returns-in-Equal t c =
    let n = tests_here t (goal.at.tests-returns-in-Equal t c).After-test_letter-letter test.Equal c.in-Equal.is in
    λ k m. test-arms.equal_arm _ _ _ _ _ (n k m) _ _ _ _ (c.operands-x-in-Equal.ensures k m) c.link-in-Equal.ensures (c.operands-y-in-Equal.ensures k m) (c.equal.ensures k m)

pub tests-returns-in-Conjunction : goal.tests-returns-in-Conjunction
tests-returns-in-Conjunction t c =
    let n = tests_here t (goal.at.tests-returns-in-Conjunction t c).After-test_letter-letter test.Conjunction c.in-Conjunction.is in
    λ k m. test-arms.conjunction_arm _ _ _ _ _ (n k m) _ _ _ _ (c.tests-x.ensures k m) c.link-in-Conjunction.ensures (c.tests-y.ensures k m) (c.both.ensures k m)

pub tests-returns-in-Disjunction : goal.tests-returns-in-Disjunction
tests-returns-in-Disjunction t c =
    let n = tests_here t (goal.at.tests-returns-in-Disjunction t c).After-test_letter-letter test.Disjunction c.in-Disjunction.is in
    λ k m. test-arms.disjunction_arm _ _ _ _ _ (n k m) _ _ _ _ (c.tests-x-in-Disjunction.ensures k m) c.link-in-Disjunction.ensures (c.tests-y-in-Disjunction.ensures k m) (c.either.ensures k m)

pub tests-returns-in-Negation : goal.tests-returns-in-Negation
tests-returns-in-Negation t c =
    let n = tests_here t (goal.at.tests-returns-in-Negation t c).After-test_letter-letter test.Negation c.in-Negation.is in
    λ k m. test-arms.negation_arm _ _ _ _ _ (n k m) _ _ (c.tests-x-in-Negation.ensures k m) (c.opposite.ensures k m)

pub tests-returns-in-NoTest : goal.tests-returns-in-NoTest
unfolding held_in
tests-returns-in-NoTest t c =
    let n = tests_here t (goal.at.tests-returns-in-NoTest t c).After-test_letter-letter test.NoTest c.in-NoTest.is in
    each _ (test-arms.no_test_arm _ _ _ _ _ (n 0 (omega arith))) (test-arms.no_test_arm _ _ _ _ _ (n 1 (omega arith))) (test-arms.no_test_arm _ _ _ _ _ (n 2 (omega arith))) (test-arms.no_test_arm _ _ _ _ _ (n 3 (omega arith)))
