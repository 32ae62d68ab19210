use Prim.Native.Nat.{◌*◌, ◌+◌, ◌<◌, ℕ}
use borrow.Author.Rules.{rules}
use mathlib.Core.Path.{◌≡◌, refl}
use mir.Syntax.{w64}
use mir.Val.{SFits}
use native.Mathlib.Omega.{arith}
use Rattle.integers.proofs.Locals.{rd}
use Rattle.nodes.specs.Letters.{letter_of_amount}
use Rattle.nodes.specs.Table.{nat_of}
use Rattle.nodes.specs.declared.AmountLetter.{AmountLetter}
use Rattle.nodes.specs.declared.AmountLetter.TheVariants as amount
use Rattle.nodes.specs.declared.TestLetter.{TestLetter}
use Rattle.nodes.specs.declared.TestLetter.TheVariants as test
use Rattle.amounts.proofs.AmountArms as amount-arms
use Rattle.amounts.proofs.Nodes.{AmountNode, TestNode, amount_inside, amount_node, index_key, number_key, test_inside, test_node}
use Rattle.amounts.proofs.TestArms as test-arms
use Rattle.amounts.specs.Fine.{Fine, FineTest}
use Rattle.amounts.proofs.Tables.+amount_value_operand_test_holds.Goals as goal
use Rattle.amounts.proofs.Tables.+amount_value_operand_test_holds.Goals.{amount_value-After-amount_letter-letter, operand-After-slot-x, test_holds-After-test_letter-letter}

-- ---- amount_value

abbrev amount_value_node : (t : ℕ) → amount_value-After-amount_letter-letter t → AmountLetter → Type 0
amount_value_node t c l = AmountNode c.args.self.now.values.now c.args.self.now.nodes.now (nat_of c.args.month.0) c.args.left c.args.at l

-- what is known in the arm of letter l
amount_value_here : (t : ℕ) (c : amount_value-After-amount_letter-letter t) (l : AmountLetter)
    → c.amount_letter-letter.result ≡ l → amount_value_node t c l
amount_value_here t c l e =
    let f : SFits w64 c.slot.result = search rules in
    let p = c.requires in
    amount_node _ _ _ _ _ _ f c.slot.ensures p.1 p.2 _ c.amount_letter-letter.ensures l e

pub amount_value-slot-requires : goal.amount_value-slot-requires
amount_value-slot-requires t c = (amount_inside _ _ _ c.requires.1, omega arith)

pub amount_value-number-requires : goal.amount_value-number-requires
amount_value-number-requires t c = amount_inside _ _ _ c.requires.1

pub amount_value-reading-requires : goal.amount_value-reading-requires
unfolding Fine
amount_value-reading-requires t c =
    let n = amount_value_here t (goal.at.amount_value-reading-requires t c).After-amount_letter-letter amount.Index c.in-Index.is in
    (n.inside, c.requires.0, n.fine)

pub amount_value-operand-x-requires : goal.amount_value-operand-x-requires
unfolding Fine
amount_value-operand-x-requires t c =
    let n = amount_value_here t (goal.at.amount_value-operand-x-requires t c).After-amount_letter-letter amount.Sum c.in-Sum.is in
    (omega (arith, n.some), (c.requires.0, n.stands.0, n.fine.0))

pub amount_value-operand-y-requires : goal.amount_value-operand-y-requires
unfolding Fine
amount_value-operand-y-requires t c =
    let n = amount_value_here t (goal.at.amount_value-operand-y-requires t c).After-amount_letter-letter amount.Sum c.in-Sum.is in
    (omega (arith, n.some), rw c.link.ensures (c.requires.0, n.stands.1.1, n.fine.1))

pub amount_value-plus-requires : goal.amount_value-plus-requires
unfolding Fine
amount_value-plus-requires t c =
    let n = amount_value_here t (goal.at.amount_value-plus-requires t c).After-amount_letter-letter amount.Sum c.in-Sum.is in
    rw (c.operand-x.ensures, c.operand-y.ensures, c.link.ensures) n.fine.2

pub amount_value-operand-x-requires-in-Difference : goal.amount_value-operand-x-requires-in-Difference
unfolding Fine
amount_value-operand-x-requires-in-Difference t c =
    let n = amount_value_here t (goal.at.amount_value-operand-x-requires-in-Difference t c).After-amount_letter-letter amount.Difference c.in-Difference.is in
    (omega (arith, n.some), (c.requires.0, n.stands.0, n.fine.0))

pub amount_value-operand-y-requires-in-Difference : goal.amount_value-operand-y-requires-in-Difference
unfolding Fine
amount_value-operand-y-requires-in-Difference t c =
    let n = amount_value_here t (goal.at.amount_value-operand-y-requires-in-Difference t c).After-amount_letter-letter amount.Difference c.in-Difference.is in
    (omega (arith, n.some), rw c.link-in-Difference.ensures (c.requires.0, n.stands.1.1, n.fine.1))

pub amount_value-minus-requires : goal.amount_value-minus-requires
unfolding Fine
amount_value-minus-requires t c =
    let n = amount_value_here t (goal.at.amount_value-minus-requires t c).After-amount_letter-letter amount.Difference c.in-Difference.is in
    rw (c.operand-x-in-Difference.ensures, c.operand-y-in-Difference.ensures, c.link-in-Difference.ensures) n.fine.2

pub amount_value-operand-x-requires-in-Product : goal.amount_value-operand-x-requires-in-Product
unfolding Fine
amount_value-operand-x-requires-in-Product t c =
    let n = amount_value_here t (goal.at.amount_value-operand-x-requires-in-Product t c).After-amount_letter-letter amount.Product c.in-Product.is in
    (omega (arith, n.some), (c.requires.0, n.stands.0, n.fine.0))

pub amount_value-operand-y-requires-in-Product : goal.amount_value-operand-y-requires-in-Product
unfolding Fine
amount_value-operand-y-requires-in-Product t c =
    let n = amount_value_here t (goal.at.amount_value-operand-y-requires-in-Product t c).After-amount_letter-letter amount.Product c.in-Product.is in
    (omega (arith, n.some), rw c.link-in-Product.ensures (c.requires.0, n.stands.1.1, n.fine.1))

pub amount_value-times-requires : goal.amount_value-times-requires
unfolding Fine
amount_value-times-requires t c =
    let n = amount_value_here t (goal.at.amount_value-times-requires t c).After-amount_letter-letter amount.Product c.in-Product.is in
    rw (c.operand-x-in-Product.ensures, c.operand-y-in-Product.ensures, c.link-in-Product.ensures) n.fine.2

pub amount_value-operand-x-requires-in-Quotient : goal.amount_value-operand-x-requires-in-Quotient
unfolding Fine
amount_value-operand-x-requires-in-Quotient t c =
    let n = amount_value_here t (goal.at.amount_value-operand-x-requires-in-Quotient t c).After-amount_letter-letter amount.Quotient c.in-Quotient.is in
    (omega (arith, n.some), (c.requires.0, n.stands, n.fine.0))

pub amount_value-over-requires : goal.amount_value-over-requires
unfolding Fine
amount_value-over-requires t c =
    let n = amount_value_here t (goal.at.amount_value-over-requires t c).After-amount_letter-letter amount.Quotient c.in-Quotient.is in
    (n.inside, n.fine.1)

pub amount_value-test_holds-requires : goal.amount_value-test_holds-requires
unfolding Fine
amount_value-test_holds-requires t c =
    let n = amount_value_here t (goal.at.amount_value-test_holds-requires t c).After-amount_letter-letter amount.Choose c.in-Choose.is in
    (omega (arith, n.some), (c.requires.0, n.stands.0, n.fine.0))

pub amount_value-operand-requires : goal.amount_value-operand-requires
unfolding Fine
amount_value-operand-requires t c =
    let n = amount_value_here t (goal.at.amount_value-operand-requires t c).After-amount_letter-letter amount.Choose c.in-Choose.is in
    (omega (arith, n.some), rw c.link-then-test_holds.ensures (c.requires.0, n.stands.1.1, n.fine.1))

pub amount_value-operand-requires-else-test_holds : goal.amount_value-operand-requires-else-test_holds
unfolding Fine
amount_value-operand-requires-else-test_holds t c =
    let n = amount_value_here t (goal.at.amount_value-operand-requires-else-test_holds t c).After-amount_letter-letter amount.Choose c.in-Choose.is in
    (omega (arith, n.some), rw c.link-else-test_holds.ensures (c.requires.0, n.stands.2.1, n.fine.2))

pub amount_value-returns-in-Number : goal.amount_value-returns-in-Number
amount_value-returns-in-Number t c =
    let n = amount_value_here t (goal.at.amount_value-returns-in-Number t c).After-amount_letter-letter amount.Number c.in-Number.is in
    amount-arms.number_arm _ _ _ _ _ n _ c.number.ensures

pub amount_value-returns-in-Index : goal.amount_value-returns-in-Index
amount_value-returns-in-Index t c =
    let n = amount_value_here t (goal.at.amount_value-returns-in-Index t c).After-amount_letter-letter amount.Index c.in-Index.is in
    amount-arms.index_arm _ _ _ _ _ n _ c.reading.ensures

pub amount_value-returns-in-Sum : goal.amount_value-returns-in-Sum
amount_value-returns-in-Sum t c =
    let n = amount_value_here t (goal.at.amount_value-returns-in-Sum t c).After-amount_letter-letter amount.Sum c.in-Sum.is in
    amount-arms.sum_arm _ _ _ _ _ n _ _ _ _ c.operand-x.ensures c.link.ensures c.operand-y.ensures c.plus.ensures

pub amount_value-returns-in-Difference : goal.amount_value-returns-in-Difference
amount_value-returns-in-Difference t c =
    let n = amount_value_here t (goal.at.amount_value-returns-in-Difference t c).After-amount_letter-letter amount.Difference c.in-Difference.is in
    amount-arms.difference_arm _ _ _ _ _ n _ _ _ _ c.operand-x-in-Difference.ensures c.link-in-Difference.ensures c.operand-y-in-Difference.ensures c.minus.ensures

pub amount_value-returns-in-Product : goal.amount_value-returns-in-Product
amount_value-returns-in-Product t c =
    let n = amount_value_here t (goal.at.amount_value-returns-in-Product t c).After-amount_letter-letter amount.Product c.in-Product.is in
    amount-arms.product_arm _ _ _ _ _ n _ _ _ _ c.operand-x-in-Product.ensures c.link-in-Product.ensures c.operand-y-in-Product.ensures c.times.ensures

pub amount_value-returns-in-Quotient : goal.amount_value-returns-in-Quotient
amount_value-returns-in-Quotient t c =
    let n = amount_value_here t (goal.at.amount_value-returns-in-Quotient t c).After-amount_letter-letter amount.Quotient c.in-Quotient.is in
    amount-arms.quotient_arm _ _ _ _ _ n _ _ c.operand-x-in-Quotient.ensures c.over.ensures

pub amount_value-returns-then-test_holds : goal.amount_value-returns-then-test_holds
amount_value-returns-then-test_holds t c =
    let n = amount_value_here t (goal.at.amount_value-returns-then-test_holds t c).After-amount_letter-letter amount.Choose c.in-Choose.is in
    amount-arms.then_arm _ _ _ _ _ n _ c.test_holds.ensures c.if-test_holds.true _ _ c.link-then-test_holds.ensures c.operand.ensures

pub amount_value-returns-else-test_holds : goal.amount_value-returns-else-test_holds
amount_value-returns-else-test_holds t c =
    let n = amount_value_here t (goal.at.amount_value-returns-else-test_holds t c).After-amount_letter-letter amount.Choose c.in-Choose.is in
    amount-arms.else_arm _ _ _ _ _ n _ c.test_holds.ensures c.if-test_holds.false _ _ c.link-else-test_holds.ensures c.operand-else-test_holds.ensures

pub amount_value-returns-in-NoAmount : goal.amount_value-returns-in-NoAmount
amount_value-returns-in-NoAmount t c =
    let n = amount_value_here t (goal.at.amount_value-returns-in-NoAmount t c).After-amount_letter-letter amount.NoAmount c.in-NoAmount.is in
    amount-arms.no_amount_arm _ _ _ _ _ n

-- ---- operand

abbrev operand_node : (t : ℕ) → operand-After-slot-x t → AmountLetter → Type 0
operand_node t c l = AmountNode c.args.self.now.values.now c.args.self.now.nodes.now (nat_of c.args.month.0) c.args.left c.args.at l

-- what is known where the letter is l
operand_here : (t : ℕ) (c : operand-After-slot-x t) (l : AmountLetter)
    → l ≡ letter_of_amount (rd c.slot-x.result) → operand_node t c l
operand_here t c l e =
    let f : SFits w64 c.slot-x.result = search rules in
    let p = c.requires in
    amount_node _ _ _ _ _ _ f c.slot-x.ensures p.1 p.2 l e l refl

pub operand-slot-x-requires : goal.operand-slot-x-requires
operand-slot-x-requires t c = (amount_inside _ _ _ c.requires.1, omega arith)

pub operand-number-requires : goal.operand-number-requires
operand-number-requires t c = amount_inside _ _ _ c.requires.1

pub operand-reading-requires : goal.operand-reading-requires
unfolding Fine
operand-reading-requires t c =
    let f : SFits w64 c.slot-x.result = search rules in
    let n = operand_here t (goal.at.operand-reading-requires t c).After-slot-x amount.Index (index_key _ f c.in-79.in-79-own.keys2) in
    (n.inside, c.requires.0, n.fine)

pub operand-amount_value-requires : goal.operand-amount_value-requires
operand-amount_value-requires t c = (omega arith, c.requires)

pub operand-returns-in-78 : goal.operand-returns-in-78
operand-returns-in-78 t c =
    let f : SFits w64 c.slot-x.result = search rules in
    let n = operand_here t (goal.at.operand-returns-in-78 t c).After-slot-x amount.Number (number_key _ f c.in-78.in-78-own.keys1) in
    amount-arms.number_arm _ _ _ _ _ n _ c.number.ensures

pub operand-returns-in-79 : goal.operand-returns-in-79
operand-returns-in-79 t c =
    let f : SFits w64 c.slot-x.result = search rules in
    let n = operand_here t (goal.at.operand-returns-in-79 t c).After-slot-x amount.Index (index_key _ f c.in-79.in-79-own.keys2) in
    amount-arms.index_arm _ _ _ _ _ n _ c.reading.ensures

pub operand-returns-in_default : goal.operand-returns-in_default
operand-returns-in_default t c = c.amount_value.ensures

-- ---- test_holds

abbrev test_holds_node : (t : ℕ) → test_holds-After-test_letter-letter t → TestLetter → Type 0
test_holds_node t c l = TestNode c.args.self.now.values.now c.args.self.now.nodes.now (nat_of c.args.month.0) c.args.left c.args.at l

-- what is known in the arm of letter l
test_holds_here : (t : ℕ) (c : test_holds-After-test_letter-letter t) (l : TestLetter)
    → c.test_letter-letter.result ≡ l → test_holds_node t c l
test_holds_here t c l e =
    let f : SFits w64 c.slot.result = search rules in
    let p = c.requires in
    test_node _ _ _ _ _ _ f c.slot.ensures p.1 p.2 _ c.test_letter-letter.ensures l e

pub test_holds-slot-requires : goal.test_holds-slot-requires
test_holds-slot-requires t c = (test_inside _ _ _ c.requires.1, omega arith)

pub test_holds-operand-x-requires : goal.test_holds-operand-x-requires
unfolding FineTest
test_holds-operand-x-requires t c =
    let n = test_holds_here t (goal.at.test_holds-operand-x-requires t c).After-test_letter-letter test.Less c.in-Less.is in
    (omega (arith, n.some), (c.requires.0, n.stands.0, n.fine.0))

pub test_holds-operand-y-requires : goal.test_holds-operand-y-requires
unfolding FineTest
test_holds-operand-y-requires t c =
    let n = test_holds_here t (goal.at.test_holds-operand-y-requires t c).After-test_letter-letter test.Less c.in-Less.is in
    (omega (arith, n.some), rw c.link.ensures (c.requires.0, n.stands.1.1, n.fine.1))

pub test_holds-operand-x-requires-in-Equal : goal.test_holds-operand-x-requires-in-Equal
unfolding FineTest
test_holds-operand-x-requires-in-Equal t c =
    let n = test_holds_here t (goal.at.test_holds-operand-x-requires-in-Equal t c).After-test_letter-letter test.Equal c.in-Equal.is in
    (omega (arith, n.some), (c.requires.0, n.stands.0, n.fine.0))

pub test_holds-operand-y-requires-in-Equal : goal.test_holds-operand-y-requires-in-Equal
unfolding FineTest
test_holds-operand-y-requires-in-Equal t c =
    let n = test_holds_here t (goal.at.test_holds-operand-y-requires-in-Equal t c).After-test_letter-letter test.Equal c.in-Equal.is in
    (omega (arith, n.some), rw c.link-in-Equal.ensures (c.requires.0, n.stands.1.1, n.fine.1))

pub test_holds-test_holds-x-requires : goal.test_holds-test_holds-x-requires
unfolding FineTest
test_holds-test_holds-x-requires t c =
    let n = test_holds_here t (goal.at.test_holds-test_holds-x-requires t c).After-test_letter-letter test.Conjunction c.in-Conjunction.is in
    (omega (arith, n.some), (c.requires.0, n.stands.0, n.fine.0))

pub test_holds-test_holds-y-requires : goal.test_holds-test_holds-y-requires
unfolding FineTest
test_holds-test_holds-y-requires t c =
    let n = test_holds_here t (goal.at.test_holds-test_holds-y-requires t c).After-test_letter-letter test.Conjunction c.in-Conjunction.is in
    (omega (arith, n.some), rw c.link-in-Conjunction.ensures (c.requires.0, n.stands.1.1, n.fine.1))

pub test_holds-test_holds-x-requires-in-Disjunction : goal.test_holds-test_holds-x-requires-in-Disjunction
unfolding FineTest
test_holds-test_holds-x-requires-in-Disjunction t c =
    let n = test_holds_here t (goal.at.test_holds-test_holds-x-requires-in-Disjunction t c).After-test_letter-letter test.Disjunction c.in-Disjunction.is in
    (omega (arith, n.some), (c.requires.0, n.stands.0, n.fine.0))

pub test_holds-test_holds-y-requires-in-Disjunction : goal.test_holds-test_holds-y-requires-in-Disjunction
unfolding FineTest
test_holds-test_holds-y-requires-in-Disjunction t c =
    let n = test_holds_here t (goal.at.test_holds-test_holds-y-requires-in-Disjunction t c).After-test_letter-letter test.Disjunction c.in-Disjunction.is in
    (omega (arith, n.some), rw c.link-in-Disjunction.ensures (c.requires.0, n.stands.1.1, n.fine.1))

pub test_holds-test_holds-x-requires-in-Negation : goal.test_holds-test_holds-x-requires-in-Negation
unfolding FineTest
test_holds-test_holds-x-requires-in-Negation t c =
    let n = test_holds_here t (goal.at.test_holds-test_holds-x-requires-in-Negation t c).After-test_letter-letter test.Negation c.in-Negation.is in
    (omega (arith, n.some), (c.requires.0, n.stands, n.fine))

pub test_holds-returns-in-Less : goal.test_holds-returns-in-Less
test_holds-returns-in-Less t c =
    let n = test_holds_here t (goal.at.test_holds-returns-in-Less t c).After-test_letter-letter test.Less c.in-Less.is in
    test-arms.less_arm _ _ _ _ _ n _ _ _ _ c.operand-x.ensures c.link.ensures c.operand-y.ensures c.less.ensures

pub test_holds-returns-in-Equal : goal.test_holds-returns-in-Equal
test_holds-returns-in-Equal t c =
    let n = test_holds_here t (goal.at.test_holds-returns-in-Equal t c).After-test_letter-letter test.Equal c.in-Equal.is in
    test-arms.equal_arm _ _ _ _ _ n _ _ _ _ c.operand-x-in-Equal.ensures c.link-in-Equal.ensures c.operand-y-in-Equal.ensures c.equal.ensures

pub test_holds-returns-in-Conjunction : goal.test_holds-returns-in-Conjunction
test_holds-returns-in-Conjunction t c =
    let n = test_holds_here t (goal.at.test_holds-returns-in-Conjunction t c).After-test_letter-letter test.Conjunction c.in-Conjunction.is in
    test-arms.conjunction_arm _ _ _ _ _ n _ _ _ _ c.test_holds-x.ensures c.link-in-Conjunction.ensures c.test_holds-y.ensures refl

pub test_holds-returns-in-Disjunction : goal.test_holds-returns-in-Disjunction
test_holds-returns-in-Disjunction t c =
    let n = test_holds_here t (goal.at.test_holds-returns-in-Disjunction t c).After-test_letter-letter test.Disjunction c.in-Disjunction.is in
    test-arms.disjunction_arm _ _ _ _ _ n _ _ _ _ c.test_holds-x-in-Disjunction.ensures c.link-in-Disjunction.ensures c.test_holds-y-in-Disjunction.ensures refl

pub test_holds-returns-in-Negation : goal.test_holds-returns-in-Negation
test_holds-returns-in-Negation t c =
    let n = test_holds_here t (goal.at.test_holds-returns-in-Negation t c).After-test_letter-letter test.Negation c.in-Negation.is in
    test-arms.negation_arm _ _ _ _ _ n _ _ c.test_holds-x-in-Negation.ensures refl

pub test_holds-returns-in-NoTest : goal.test_holds-returns-in-NoTest
test_holds-returns-in-NoTest t c =
    let n = test_holds_here t (goal.at.test_holds-returns-in-NoTest t c).After-test_letter-letter test.NoTest c.in-NoTest.is in
    test-arms.no_test_arm _ _ _ _ _ n

pub amount_value-overflow_add-at : goal.amount_value-overflow_add-at
amount_value-overflow_add-at t c = let n = amount_value_here t (goal.at.amount_value-overflow_add-at t c).After-amount_letter-letter amount.Sum c.in-Sum.is in omega arith

pub amount_value-overflow_sub-left : goal.amount_value-overflow_sub-left
amount_value-overflow_sub-left t c = let n = amount_value_here t (goal.at.amount_value-overflow_sub-left t c).After-amount_letter-letter amount.Sum c.in-Sum.is in omega (arith, n.some)

pub amount_value-link-requires : goal.amount_value-link-requires
amount_value-link-requires t c = let n = amount_value_here t (goal.at.amount_value-link-requires t c).After-amount_letter-letter amount.Sum c.in-Sum.is in (n.inside, omega arith, n.stands.1.0)

pub amount_value-overflow_sub-left-in-Sum : goal.amount_value-overflow_sub-left-in-Sum
amount_value-overflow_sub-left-in-Sum t c = let n = amount_value_here t (goal.at.amount_value-overflow_sub-left-in-Sum t c).After-amount_letter-letter amount.Sum c.in-Sum.is in omega (arith, n.some)

pub amount_value-overflow_add-at-in-Difference : goal.amount_value-overflow_add-at-in-Difference
amount_value-overflow_add-at-in-Difference t c = let n = amount_value_here t (goal.at.amount_value-overflow_add-at-in-Difference t c).After-amount_letter-letter amount.Difference c.in-Difference.is in omega arith

pub amount_value-overflow_sub-left-in-Difference : goal.amount_value-overflow_sub-left-in-Difference
amount_value-overflow_sub-left-in-Difference t c = let n = amount_value_here t (goal.at.amount_value-overflow_sub-left-in-Difference t c).After-amount_letter-letter amount.Difference c.in-Difference.is in omega (arith, n.some)

pub amount_value-link-requires-in-Difference : goal.amount_value-link-requires-in-Difference
amount_value-link-requires-in-Difference t c = let n = amount_value_here t (goal.at.amount_value-link-requires-in-Difference t c).After-amount_letter-letter amount.Difference c.in-Difference.is in (n.inside, omega arith, n.stands.1.0)

pub amount_value-overflow_sub-left-in-Difference-2 : goal.amount_value-overflow_sub-left-in-Difference-2
amount_value-overflow_sub-left-in-Difference-2 t c = let n = amount_value_here t (goal.at.amount_value-overflow_sub-left-in-Difference-2 t c).After-amount_letter-letter amount.Difference c.in-Difference.is in omega (arith, n.some)

pub amount_value-overflow_add-at-in-Product : goal.amount_value-overflow_add-at-in-Product
amount_value-overflow_add-at-in-Product t c = let n = amount_value_here t (goal.at.amount_value-overflow_add-at-in-Product t c).After-amount_letter-letter amount.Product c.in-Product.is in omega arith

pub amount_value-overflow_sub-left-in-Product : goal.amount_value-overflow_sub-left-in-Product
amount_value-overflow_sub-left-in-Product t c = let n = amount_value_here t (goal.at.amount_value-overflow_sub-left-in-Product t c).After-amount_letter-letter amount.Product c.in-Product.is in omega (arith, n.some)

pub amount_value-link-requires-in-Product : goal.amount_value-link-requires-in-Product
amount_value-link-requires-in-Product t c = let n = amount_value_here t (goal.at.amount_value-link-requires-in-Product t c).After-amount_letter-letter amount.Product c.in-Product.is in (n.inside, omega arith, n.stands.1.0)

pub amount_value-overflow_sub-left-in-Product-2 : goal.amount_value-overflow_sub-left-in-Product-2
amount_value-overflow_sub-left-in-Product-2 t c = let n = amount_value_here t (goal.at.amount_value-overflow_sub-left-in-Product-2 t c).After-amount_letter-letter amount.Product c.in-Product.is in omega (arith, n.some)

pub amount_value-overflow_add-at-in-Quotient : goal.amount_value-overflow_add-at-in-Quotient
amount_value-overflow_add-at-in-Quotient t c = let n = amount_value_here t (goal.at.amount_value-overflow_add-at-in-Quotient t c).After-amount_letter-letter amount.Quotient c.in-Quotient.is in omega arith

pub amount_value-overflow_sub-left-in-Quotient : goal.amount_value-overflow_sub-left-in-Quotient
amount_value-overflow_sub-left-in-Quotient t c = let n = amount_value_here t (goal.at.amount_value-overflow_sub-left-in-Quotient t c).After-amount_letter-letter amount.Quotient c.in-Quotient.is in omega (arith, n.some)

pub amount_value-overflow_add-at-in-Choose : goal.amount_value-overflow_add-at-in-Choose
amount_value-overflow_add-at-in-Choose t c = let n = amount_value_here t (goal.at.amount_value-overflow_add-at-in-Choose t c).After-amount_letter-letter amount.Choose c.in-Choose.is in omega arith

pub amount_value-overflow_sub-left-in-Choose : goal.amount_value-overflow_sub-left-in-Choose
amount_value-overflow_sub-left-in-Choose t c = let n = amount_value_here t (goal.at.amount_value-overflow_sub-left-in-Choose t c).After-amount_letter-letter amount.Choose c.in-Choose.is in omega (arith, n.some)

pub amount_value-link-requires-then-test_holds : goal.amount_value-link-requires-then-test_holds
amount_value-link-requires-then-test_holds t c = let n = amount_value_here t (goal.at.amount_value-link-requires-then-test_holds t c).After-amount_letter-letter amount.Choose c.in-Choose.is in (n.inside, omega arith, n.stands.1.0)

pub amount_value-overflow_sub-left-then-test_holds : goal.amount_value-overflow_sub-left-then-test_holds
amount_value-overflow_sub-left-then-test_holds t c = let n = amount_value_here t (goal.at.amount_value-overflow_sub-left-then-test_holds t c).After-amount_letter-letter amount.Choose c.in-Choose.is in omega (arith, n.some)

pub amount_value-link-requires-else-test_holds : goal.amount_value-link-requires-else-test_holds
amount_value-link-requires-else-test_holds t c = let n = amount_value_here t (goal.at.amount_value-link-requires-else-test_holds t c).After-amount_letter-letter amount.Choose c.in-Choose.is in (n.inside, omega arith, n.stands.2.0)

pub amount_value-overflow_sub-left-else-test_holds : goal.amount_value-overflow_sub-left-else-test_holds
amount_value-overflow_sub-left-else-test_holds t c = let n = amount_value_here t (goal.at.amount_value-overflow_sub-left-else-test_holds t c).After-amount_letter-letter amount.Choose c.in-Choose.is in omega (arith, n.some)

pub test_holds-overflow_add-at : goal.test_holds-overflow_add-at
test_holds-overflow_add-at t c = let n = test_holds_here t (goal.at.test_holds-overflow_add-at t c).After-test_letter-letter test.Less c.in-Less.is in omega arith

pub test_holds-overflow_sub-left : goal.test_holds-overflow_sub-left
test_holds-overflow_sub-left t c = let n = test_holds_here t (goal.at.test_holds-overflow_sub-left t c).After-test_letter-letter test.Less c.in-Less.is in omega (arith, n.some)

pub test_holds-link-requires : goal.test_holds-link-requires
test_holds-link-requires t c = let n = test_holds_here t (goal.at.test_holds-link-requires t c).After-test_letter-letter test.Less c.in-Less.is in (n.inside, omega arith, n.stands.1.0)

pub test_holds-overflow_sub-left-in-Less : goal.test_holds-overflow_sub-left-in-Less
test_holds-overflow_sub-left-in-Less t c = let n = test_holds_here t (goal.at.test_holds-overflow_sub-left-in-Less t c).After-test_letter-letter test.Less c.in-Less.is in omega (arith, n.some)

pub test_holds-overflow_add-at-in-Equal : goal.test_holds-overflow_add-at-in-Equal
test_holds-overflow_add-at-in-Equal t c = let n = test_holds_here t (goal.at.test_holds-overflow_add-at-in-Equal t c).After-test_letter-letter test.Equal c.in-Equal.is in omega arith

pub test_holds-overflow_sub-left-in-Equal : goal.test_holds-overflow_sub-left-in-Equal
test_holds-overflow_sub-left-in-Equal t c = let n = test_holds_here t (goal.at.test_holds-overflow_sub-left-in-Equal t c).After-test_letter-letter test.Equal c.in-Equal.is in omega (arith, n.some)

pub test_holds-link-requires-in-Equal : goal.test_holds-link-requires-in-Equal
test_holds-link-requires-in-Equal t c = let n = test_holds_here t (goal.at.test_holds-link-requires-in-Equal t c).After-test_letter-letter test.Equal c.in-Equal.is in (n.inside, omega arith, n.stands.1.0)

pub test_holds-overflow_sub-left-in-Equal-2 : goal.test_holds-overflow_sub-left-in-Equal-2
test_holds-overflow_sub-left-in-Equal-2 t c = let n = test_holds_here t (goal.at.test_holds-overflow_sub-left-in-Equal-2 t c).After-test_letter-letter test.Equal c.in-Equal.is in omega (arith, n.some)

pub test_holds-overflow_add-at-in-Conjunction : goal.test_holds-overflow_add-at-in-Conjunction
test_holds-overflow_add-at-in-Conjunction t c = let n = test_holds_here t (goal.at.test_holds-overflow_add-at-in-Conjunction t c).After-test_letter-letter test.Conjunction c.in-Conjunction.is in omega arith

pub test_holds-overflow_sub-left-in-Conjunction : goal.test_holds-overflow_sub-left-in-Conjunction
test_holds-overflow_sub-left-in-Conjunction t c = let n = test_holds_here t (goal.at.test_holds-overflow_sub-left-in-Conjunction t c).After-test_letter-letter test.Conjunction c.in-Conjunction.is in omega (arith, n.some)

pub test_holds-link-requires-in-Conjunction : goal.test_holds-link-requires-in-Conjunction
test_holds-link-requires-in-Conjunction t c = let n = test_holds_here t (goal.at.test_holds-link-requires-in-Conjunction t c).After-test_letter-letter test.Conjunction c.in-Conjunction.is in (n.inside, omega arith, n.stands.1.0)

pub test_holds-overflow_sub-left-in-Conjunction-2 : goal.test_holds-overflow_sub-left-in-Conjunction-2
test_holds-overflow_sub-left-in-Conjunction-2 t c = let n = test_holds_here t (goal.at.test_holds-overflow_sub-left-in-Conjunction-2 t c).After-test_letter-letter test.Conjunction c.in-Conjunction.is in omega (arith, n.some)

pub test_holds-overflow_add-at-in-Disjunction : goal.test_holds-overflow_add-at-in-Disjunction
test_holds-overflow_add-at-in-Disjunction t c = let n = test_holds_here t (goal.at.test_holds-overflow_add-at-in-Disjunction t c).After-test_letter-letter test.Disjunction c.in-Disjunction.is in omega arith

pub test_holds-overflow_sub-left-in-Disjunction : goal.test_holds-overflow_sub-left-in-Disjunction
test_holds-overflow_sub-left-in-Disjunction t c = let n = test_holds_here t (goal.at.test_holds-overflow_sub-left-in-Disjunction t c).After-test_letter-letter test.Disjunction c.in-Disjunction.is in omega (arith, n.some)

pub test_holds-link-requires-in-Disjunction : goal.test_holds-link-requires-in-Disjunction
test_holds-link-requires-in-Disjunction t c = let n = test_holds_here t (goal.at.test_holds-link-requires-in-Disjunction t c).After-test_letter-letter test.Disjunction c.in-Disjunction.is in (n.inside, omega arith, n.stands.1.0)

pub test_holds-overflow_sub-left-in-Disjunction-2 : goal.test_holds-overflow_sub-left-in-Disjunction-2
test_holds-overflow_sub-left-in-Disjunction-2 t c = let n = test_holds_here t (goal.at.test_holds-overflow_sub-left-in-Disjunction-2 t c).After-test_letter-letter test.Disjunction c.in-Disjunction.is in omega (arith, n.some)

pub test_holds-overflow_add-at-in-Negation : goal.test_holds-overflow_add-at-in-Negation
test_holds-overflow_add-at-in-Negation t c = let n = test_holds_here t (goal.at.test_holds-overflow_add-at-in-Negation t c).After-test_letter-letter test.Negation c.in-Negation.is in omega arith

pub test_holds-overflow_sub-left-in-Negation : goal.test_holds-overflow_sub-left-in-Negation
test_holds-overflow_sub-left-in-Negation t c = let n = test_holds_here t (goal.at.test_holds-overflow_sub-left-in-Negation t c).After-test_letter-letter test.Negation c.in-Negation.is in omega (arith, n.some)
