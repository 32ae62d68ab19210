use Prim.Native.Nat.{◌+◌}
use Rattle.measures.proofs.AmountMagnitudes as laws
use Rattle.measures.proofs.Amounts as amounts
use Rattle.measures.specs.Magnitudes.{joined}
use borrow.Author.Rules.{rules}
use mathlib.Core.Bool.{◌&&◌}
use mathlib.Core.Path.{◌∙◌, ap₂, refl}
use mir.Syntax.{w64}
use mir.Val.{SFits}
use native.Mathlib.Omega.{arith}
use Rattle.measures.proofs.magnitude.+amount_magnitude_operand_test_small_two_small_two_summed_two_tests.Goals as goal

pub amount_magnitude-amount_kind-letter-requires : goal.amount_magnitude-amount_kind-letter-requires
amount_magnitude-amount_kind-letter-requires t c =
    let h = c.requires in
    amounts.amount_room h

pub amount_magnitude-distance-requires : goal.amount_magnitude-distance-requires
amount_magnitude-distance-requires t c =
    let h = c.requires in
    let k = c.amount_kind-letter.ensures in
    let q = c.in-Number.is in
    amounts.amount_room h

pub amount_magnitude-label-requires : goal.amount_magnitude-label-requires
amount_magnitude-label-requires t c =
    let h = c.requires in
    amounts.amount_room h

pub amount_magnitude-overflow_sub-left : goal.amount_magnitude-overflow_sub-left
amount_magnitude-overflow_sub-left t c =
    let h = c.requires in
    omega (arith, amounts.amount_some h)

pub amount_magnitude-two_summed-requires : goal.amount_magnitude-two_summed-requires
amount_magnitude-two_summed-requires t c =
    let h = c.requires in
    let k = c.amount_kind-letter.ensures in
    let q = c.in-Sum.is in
    (omega (arith, amounts.amount_some h), amounts.sum_ready h k q)

pub amount_magnitude-overflow_sub-left-in-Difference : goal.amount_magnitude-overflow_sub-left-in-Difference
amount_magnitude-overflow_sub-left-in-Difference t c =
    let h = c.requires in
    omega (arith, amounts.amount_some h)

pub amount_magnitude-two_summed-requires-in-Difference : goal.amount_magnitude-two_summed-requires-in-Difference
amount_magnitude-two_summed-requires-in-Difference t c =
    let h = c.requires in
    let k = c.amount_kind-letter.ensures in
    let q = c.in-Difference.is in
    (omega (arith, amounts.amount_some h), amounts.difference_ready h k q)

pub amount_magnitude-overflow_add-at : goal.amount_magnitude-overflow_add-at
amount_magnitude-overflow_add-at t c =
    let h = c.requires in
    omega (arith, (amounts.amount_room h).0)

pub amount_magnitude-overflow_sub-left-in-Product : goal.amount_magnitude-overflow_sub-left-in-Product
amount_magnitude-overflow_sub-left-in-Product t c =
    let h = c.requires in
    omega (arith, amounts.amount_some h)

pub amount_magnitude-operand-x-requires : goal.amount_magnitude-operand-x-requires
amount_magnitude-operand-x-requires t c =
    let h = c.requires in
    let k = c.amount_kind-letter.ensures in
    let q = c.in-Product.is in
    (omega (arith, amounts.amount_some h), (amounts.product_ready h k q).first)

pub amount_magnitude-link-requires : goal.amount_magnitude-link-requires
amount_magnitude-link-requires t c =
    let h = c.requires in
    let k = c.amount_kind-letter.ensures in
    let q = c.in-Product.is in
    (amounts.amount_room h, omega arith, (amounts.product_ready h k q).forward)

pub amount_magnitude-overflow_sub-left-in-Product-2 : goal.amount_magnitude-overflow_sub-left-in-Product-2
amount_magnitude-overflow_sub-left-in-Product-2 t c =
    let h = c.requires in
    omega (arith, amounts.amount_some h)

pub amount_magnitude-operand-y-requires : goal.amount_magnitude-operand-y-requires
amount_magnitude-operand-y-requires t c =
    let h = c.requires in
    let k = c.amount_kind-letter.ensures in
    let q = c.in-Product.is in
    (omega (arith, amounts.amount_some h), rw c.link.ensures (amounts.product_ready h k q).second)

pub amount_magnitude-overflow_add-at-in-Quotient : goal.amount_magnitude-overflow_add-at-in-Quotient
amount_magnitude-overflow_add-at-in-Quotient t c =
    let h = c.requires in
    omega (arith, (amounts.amount_room h).0)

pub amount_magnitude-overflow_sub-left-in-Quotient : goal.amount_magnitude-overflow_sub-left-in-Quotient
amount_magnitude-overflow_sub-left-in-Quotient t c =
    let h = c.requires in
    omega (arith, amounts.amount_some h)

pub amount_magnitude-amount_magnitude-requires : goal.amount_magnitude-amount_magnitude-requires
amount_magnitude-amount_magnitude-requires t c =
    let h = c.requires in
    let k = c.amount_kind-letter.ensures in
    let q = c.in-Quotient.is in
    (omega (arith, amounts.amount_some h), amounts.quotient_ready h k q)

pub amount_magnitude-overflow_add-at-in-Choose : goal.amount_magnitude-overflow_add-at-in-Choose
amount_magnitude-overflow_add-at-in-Choose t c =
    let h = c.requires in
    omega (arith, (amounts.amount_room h).0)

pub amount_magnitude-overflow_sub-left-in-Choose : goal.amount_magnitude-overflow_sub-left-in-Choose
amount_magnitude-overflow_sub-left-in-Choose t c =
    let h = c.requires in
    omega (arith, amounts.amount_some h)

pub amount_magnitude-test_small-t-requires : goal.amount_magnitude-test_small-t-requires
amount_magnitude-test_small-t-requires t c =
    let h = c.requires in
    let k = c.amount_kind-letter.ensures in
    let q = c.in-Choose.is in
    (omega (arith, amounts.amount_some h), (amounts.choose_ready h k q).0)

pub amount_magnitude-link-requires-in-Choose : goal.amount_magnitude-link-requires-in-Choose
amount_magnitude-link-requires-in-Choose t c =
    let h = c.requires in
    let k = c.amount_kind-letter.ensures in
    let q = c.in-Choose.is in
    (amounts.amount_room h, omega arith, (amounts.choose_ready h k q).1.0)

pub amount_magnitude-overflow_sub-left-in-Choose-2 : goal.amount_magnitude-overflow_sub-left-in-Choose-2
amount_magnitude-overflow_sub-left-in-Choose-2 t c =
    let h = c.requires in
    omega (arith, amounts.amount_some h)

pub amount_magnitude-operand-x-requires-in-Choose : goal.amount_magnitude-operand-x-requires-in-Choose
amount_magnitude-operand-x-requires-in-Choose t c =
    let h = c.requires in
    let k = c.amount_kind-letter.ensures in
    let q = c.in-Choose.is in
    (omega (arith, amounts.amount_some h), rw c.link-in-Choose.ensures (amounts.choose_ready h k q).1.1)

pub amount_magnitude-link-requires-in-Choose-2 : goal.amount_magnitude-link-requires-in-Choose-2
amount_magnitude-link-requires-in-Choose-2 t c =
    let h = c.requires in
    let k = c.amount_kind-letter.ensures in
    let q = c.in-Choose.is in
    (amounts.amount_room h, omega arith, (amounts.choose_ready h k q).2.0)

pub amount_magnitude-overflow_sub-left-in-Choose-3 : goal.amount_magnitude-overflow_sub-left-in-Choose-3
amount_magnitude-overflow_sub-left-in-Choose-3 t c =
    let h = c.requires in
    omega (arith, amounts.amount_some h)

pub amount_magnitude-operand-y-requires-in-Choose : goal.amount_magnitude-operand-y-requires-in-Choose
amount_magnitude-operand-y-requires-in-Choose t c =
    let h = c.requires in
    let k = c.amount_kind-letter.ensures in
    let q = c.in-Choose.is in
    (omega (arith, amounts.amount_some h), rw c.link-in-Choose-2.ensures (amounts.choose_ready h k q).2.1)

pub amount_magnitude-greater_where-requires : goal.amount_magnitude-greater_where-requires
amount_magnitude-greater_where-requires t c =
    (laws.amount_kept _ _ c.operand-x-in-Choose.ensures, laws.amount_kept _ _ c.operand-y-in-Choose.ensures)

pub amount_magnitude-returns-in-Number : goal.amount_magnitude-returns-in-Number
amount_magnitude-returns-in-Number t c =
    let h = c.requires in
    let b = c.args.lent.now.bounds.now in
    let k = c.amount_kind-letter.ensures in
    let q = c.in-Number.is in
    laws.number_magnitude b h k q c.distance.ensures

pub amount_magnitude-returns-in-Index : goal.amount_magnitude-returns-in-Index
amount_magnitude-returns-in-Index t c =
    let h = c.requires in
    let b = c.args.lent.now.bounds.now in
    let k = c.amount_kind-letter.ensures in
    let q = c.in-Index.is in
    laws.index_magnitude b h k q c.args.lent.now.bounded c.label.ensures c.bound_of.ensures

pub amount_magnitude-returns-in-Sum : goal.amount_magnitude-returns-in-Sum
amount_magnitude-returns-in-Sum t c =
    let h = c.requires in
    let b = c.args.lent.now.bounds.now in
    let k = c.amount_kind-letter.ensures in
    let q = c.in-Sum.is in
    laws.sum_magnitude b h k refl refl q c.two_summed.ensures

pub amount_magnitude-returns-in-Difference : goal.amount_magnitude-returns-in-Difference
amount_magnitude-returns-in-Difference t c =
    let h = c.requires in
    let b = c.args.lent.now.bounds.now in
    let k = c.amount_kind-letter.ensures in
    let q = c.in-Difference.is in
    laws.difference_magnitude b h k refl refl q c.two_summed-in-Difference.ensures

pub amount_magnitude-returns-in-Product : goal.amount_magnitude-returns-in-Product
amount_magnitude-returns-in-Product t c =
    let h = c.requires in
    let b = c.args.lent.now.bounds.now in
    let k = c.amount_kind-letter.ensures in
    let q = c.in-Product.is in
    let y = rw c.link.ensures at c.operand-y.ensures in
    laws.product_magnitude b h k c.operand-x.ensures y q c.product_of.ensures

pub amount_magnitude-returns-in-Quotient : goal.amount_magnitude-returns-in-Quotient
amount_magnitude-returns-in-Quotient t c =
    let h = c.requires in
    let b = c.args.lent.now.bounds.now in
    let k = c.amount_kind-letter.ensures in
    let q = c.in-Quotient.is in
    laws.quotient_magnitude b h k q c.amount_magnitude.ensures

pub amount_magnitude-returns-in-Choose : goal.amount_magnitude-returns-in-Choose
amount_magnitude-returns-in-Choose t c =
    let h = c.requires in
    let b = c.args.lent.now.bounds.now in
    let k = c.amount_kind-letter.ensures in
    let q = c.in-Choose.is in
    let t = c.test_small-t.ensures in
    let x = c.operand-x-in-Choose.ensures in
    let y = c.operand-y-in-Choose.ensures in
    laws.choose_magnitude b h k q t c.link-in-Choose.ensures c.link-in-Choose-2.ensures x y c.greater_where.ensures

pub amount_magnitude-returns-in-NoAmount : goal.amount_magnitude-returns-in-NoAmount
amount_magnitude-returns-in-NoAmount t c =
    let h = c.requires in
    let b = c.args.lent.now.bounds.now in
    let k = c.amount_kind-letter.ensures in
    let q = c.in-NoAmount.is in
    laws.no_amount_magnitude b h k q

pub operand-slot-x-requires : goal.operand-slot-x-requires
operand-slot-x-requires t c = (amounts.amount_room c.requires, omega arith)

pub operand-distance-requires : goal.operand-distance-requires
operand-distance-requires t c = amounts.amount_room c.requires

pub operand-label-requires : goal.operand-label-requires
operand-label-requires t c = amounts.amount_room c.requires

pub operand-amount_magnitude-requires : goal.operand-amount_magnitude-requires
operand-amount_magnitude-requires t c = (omega arith, c.requires)

pub operand-returns-in-78 : goal.operand-returns-in-78
operand-returns-in-78 t c =
    let h = c.requires in
    let b = c.args.lent.now.bounds.now in
    let f : SFits w64 c.slot-x.result = search rules in
    laws.number_magnitude b h (laws.number_key f c.slot-x.ensures c.in-78.in-78-own.keys1) refl c.distance.ensures

pub operand-returns-in-79 : goal.operand-returns-in-79
operand-returns-in-79 t c =
    let h = c.requires in
    let b = c.args.lent.now.bounds.now in
    let f : SFits w64 c.slot-x.result = search rules in
    let k = laws.index_key f c.slot-x.ensures c.in-79.in-79-own.keys2 in
    laws.index_magnitude b h k refl c.args.lent.now.bounded c.label.ensures c.bound_of.ensures

pub operand-returns-in_default : goal.operand-returns-in_default
operand-returns-in_default t c = c.amount_magnitude.ensures

pub test_small-test_kind-letter-requires : goal.test_small-test_kind-letter-requires
test_small-test_kind-letter-requires t c =
    let h = c.requires in
    amounts.test_room h

pub test_small-overflow_sub-left : goal.test_small-overflow_sub-left
test_small-overflow_sub-left t c =
    let h = c.requires in
    omega (arith, amounts.test_some h)

pub test_small-two_small-requires : goal.test_small-two_small-requires
test_small-two_small-requires t c =
    let h = c.requires in
    let k = c.test_kind-letter.ensures in
    let q = c.in-Less.is in
    (omega (arith, amounts.test_some h), amounts.less_ready h k q)

pub test_small-overflow_sub-left-in-Equal : goal.test_small-overflow_sub-left-in-Equal
test_small-overflow_sub-left-in-Equal t c =
    let h = c.requires in
    omega (arith, amounts.test_some h)

pub test_small-two_small-requires-in-Equal : goal.test_small-two_small-requires-in-Equal
test_small-two_small-requires-in-Equal t c =
    let h = c.requires in
    let k = c.test_kind-letter.ensures in
    let q = c.in-Equal.is in
    (omega (arith, amounts.test_some h), amounts.equal_ready h k q)

pub test_small-overflow_sub-left-in-Conjunction : goal.test_small-overflow_sub-left-in-Conjunction
test_small-overflow_sub-left-in-Conjunction t c =
    let h = c.requires in
    omega (arith, amounts.test_some h)

pub test_small-two_tests-requires : goal.test_small-two_tests-requires
test_small-two_tests-requires t c =
    let h = c.requires in
    let k = c.test_kind-letter.ensures in
    let q = c.in-Conjunction.is in
    (omega (arith, amounts.test_some h), amounts.conjunction_ready h k q)

pub test_small-overflow_sub-left-in-Disjunction : goal.test_small-overflow_sub-left-in-Disjunction
test_small-overflow_sub-left-in-Disjunction t c =
    let h = c.requires in
    omega (arith, amounts.test_some h)

pub test_small-two_tests-requires-in-Disjunction : goal.test_small-two_tests-requires-in-Disjunction
test_small-two_tests-requires-in-Disjunction t c =
    let h = c.requires in
    let k = c.test_kind-letter.ensures in
    let q = c.in-Disjunction.is in
    (omega (arith, amounts.test_some h), amounts.disjunction_ready h k q)

pub test_small-overflow_add-at : goal.test_small-overflow_add-at
test_small-overflow_add-at t c =
    let h = c.requires in
    omega (arith, (amounts.test_room h).0)

pub test_small-overflow_sub-left-in-Negation : goal.test_small-overflow_sub-left-in-Negation
test_small-overflow_sub-left-in-Negation t c =
    let h = c.requires in
    omega (arith, amounts.test_some h)

pub test_small-test_small-requires : goal.test_small-test_small-requires
test_small-test_small-requires t c =
    let h = c.requires in
    let k = c.test_kind-letter.ensures in
    let q = c.in-Negation.is in
    (omega (arith, amounts.test_some h), amounts.negation_ready h k q)

pub test_small-returns-in-Less : goal.test_small-returns-in-Less
test_small-returns-in-Less t c =
    let h = c.requires in
    let b = c.args.lent.now.bounds.now in
    let k = c.test_kind-letter.ensures in
    let q = c.in-Less.is in
    laws.less_small b h k c.two_small.ensures q

pub test_small-returns-in-Equal : goal.test_small-returns-in-Equal
test_small-returns-in-Equal t c =
    let h = c.requires in
    let b = c.args.lent.now.bounds.now in
    let k = c.test_kind-letter.ensures in
    let q = c.in-Equal.is in
    laws.equal_small b h k c.two_small-in-Equal.ensures q

pub test_small-returns-in-Conjunction : goal.test_small-returns-in-Conjunction
test_small-returns-in-Conjunction t c =
    let h = c.requires in
    let b = c.args.lent.now.bounds.now in
    let k = c.test_kind-letter.ensures in
    let q = c.in-Conjunction.is in
    laws.conjunction_small b h k q c.two_tests.ensures

pub test_small-returns-in-Disjunction : goal.test_small-returns-in-Disjunction
test_small-returns-in-Disjunction t c =
    let h = c.requires in
    let b = c.args.lent.now.bounds.now in
    let k = c.test_kind-letter.ensures in
    let q = c.in-Disjunction.is in
    laws.disjunction_small b h k q c.two_tests-in-Disjunction.ensures

pub test_small-returns-in-Negation : goal.test_small-returns-in-Negation
test_small-returns-in-Negation t c =
    let h = c.requires in
    let b = c.args.lent.now.bounds.now in
    let k = c.test_kind-letter.ensures in
    let q = c.in-Negation.is in
    laws.negation_small b h k q c.test_small.ensures

pub test_small-returns-in-NoTest : goal.test_small-returns-in-NoTest
test_small-returns-in-NoTest t c =
    let h = c.requires in
    let b = c.args.lent.now.bounds.now in
    let k = c.test_kind-letter.ensures in
    let q = c.in-NoTest.is in
    laws.no_test_small b h k q

pub two_small-overflow_add-at : goal.two_small-overflow_add-at
two_small-overflow_add-at t c =
    let h = c.requires in
    omega (arith, h.room.0)

pub two_small-operand-x-requires : goal.two_small-operand-x-requires
two_small-operand-x-requires t c =
    let h = c.requires in
    (omega arith, h.first)

pub two_small-link-requires : goal.two_small-link-requires
two_small-link-requires t c =
    let h = c.requires in
    (h.room, omega arith, h.forward)

pub two_small-operand-y-requires : goal.two_small-operand-y-requires
two_small-operand-y-requires t c =
    let h = c.requires in
    (omega arith, rw c.link.ensures h.second)

pub two_small-returns : goal.two_small-returns
two_small-returns t c =
    let x = c.operand-x.ensures in
    let y = rw c.link.ensures at c.operand-y.ensures in
    laws.two_within _ _ _ x y c.is_within.ensures c.is_within-2.ensures

pub two_summed-overflow_add-at : goal.two_summed-overflow_add-at
two_summed-overflow_add-at t c =
    let h = c.requires in
    omega (arith, h.room.0)

pub two_summed-operand-x-requires : goal.two_summed-operand-x-requires
two_summed-operand-x-requires t c =
    let h = c.requires in
    (omega arith, h.first)

pub two_summed-link-requires : goal.two_summed-link-requires
two_summed-link-requires t c =
    let h = c.requires in
    (h.room, omega arith, h.forward)

pub two_summed-operand-y-requires : goal.two_summed-operand-y-requires
two_summed-operand-y-requires t c =
    let h = c.requires in
    (omega arith, rw c.link.ensures h.second)

pub two_summed-sum_of-requires : goal.two_summed-sum_of-requires
two_summed-sum_of-requires t c = (laws.amount_kept _ _ c.operand-x.ensures, laws.amount_kept _ _ c.operand-y.ensures)

pub two_summed-returns : goal.two_summed-returns
two_summed-returns t c =
    let x = c.operand-x.ensures in
    let y = rw c.link.ensures at c.operand-y.ensures in
    c.sum_of.ensures ∙ ap₂ (joined ◌+◌) x y

pub two_tests-overflow_add-at : goal.two_tests-overflow_add-at
two_tests-overflow_add-at t c =
    let h = c.requires in
    omega (arith, h.room.0)

pub two_tests-test_small-x-requires : goal.two_tests-test_small-x-requires
two_tests-test_small-x-requires t c =
    let h = c.requires in
    (omega arith, h.first)

pub two_tests-link-requires : goal.two_tests-link-requires
two_tests-link-requires t c =
    let h = c.requires in
    (h.room, omega arith, h.forward)

pub two_tests-test_small-y-requires : goal.two_tests-test_small-y-requires
two_tests-test_small-y-requires t c =
    let h = c.requires in
    (omega arith, rw c.link.ensures h.second)

pub two_tests-returns : goal.two_tests-returns
two_tests-returns t c = rw (← c.link.ensures) (ap₂ ◌&&◌ c.test_small-x.ensures c.test_small-y.ensures)
