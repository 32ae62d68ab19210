use borrow.Author.Rules.{rules}
use Prim.Native.Nat.{◌*◌, ◌+◌, ◌<◌, ℕ}
use Rattle.one_pass.proofs.Amounts.{choose_seen, conjunction_seen, difference_seen, disjunction_seen, equal_seen, less_seen, negation_seen, product_seen, quotient_seen, sum_seen}
use Rattle.one_pass.proofs.Packs.{is_kept}
use mathlib.Core.Logic.{⊎_elim}
use native.Mathlib.Omega.{arith}
use Rattle.one_pass.proofs.amount.+amount_at_amount_behind_test_at_test_behind.Goals as goal

pub amount_at-stands_at-requires : goal.amount_at-stands_at-requires
amount_at-stands_at-requires t c =
    c.requires.1

pub amount_at-bounds-text-at : goal.amount_at-bounds-text-at
amount_at-bounds-text-at t c =
    let h = c.stands_at.ensures c.if-stands_at.true in omega (arith, h.0)

pub amount_at-number_at-requires : goal.amount_at-number_at-requires
amount_at-number_at-requires t c =
    let h = c.stands_at.ensures c.if-stands_at.true in (c.requires.0, record { room = h.0; comma = h.1; letter = c.in-78.is })

pub amount_at-index_at-requires : goal.amount_at-index_at-requires
amount_at-index_at-requires t c =
    let h = c.stands_at.ensures c.if-stands_at.true in (c.requires.0, record { room = h.0; comma = h.1; letter = c.in-79.is })

pub amount_at-overflow_add-at : goal.amount_at-overflow_add-at
amount_at-overflow_add-at t c =
    let h = c.stands_at.ensures c.if-stands_at.true in record { fits = omega (arith, h.0, c.requires.0.short) }

pub amount_at-overflow_sub-left : goal.amount_at-overflow_sub-left
amount_at-overflow_sub-left t c =
    let h = c.stands_at.ensures c.if-stands_at.true in omega (arith, h.2)

pub amount_at-amount_at-x-requires : goal.amount_at-amount_at-x-requires
amount_at-amount_at-x-requires t c =
    let h = c.stands_at.ensures c.if-stands_at.true in
    (omega (arith, h.2, c.decreases), (c.requires.0, omega (arith, h.0, c.requires.0.short)))

pub amount_at-overflow_sub-left-in-65 : goal.amount_at-overflow_sub-left-in-65
amount_at-overflow_sub-left-in-65 t c =
    let h = c.stands_at.ensures c.if-stands_at.true in omega (arith, h.2)

pub amount_at-amount_behind-y-requires : goal.amount_at-amount_behind-y-requires
amount_at-amount_behind-y-requires t c =
    let h = c.stands_at.ensures c.if-stands_at.true in (omega (arith, h.2, c.decreases), c.requires.0)

pub amount_at-overflow_add-at-in-75 : goal.amount_at-overflow_add-at-in-75
amount_at-overflow_add-at-in-75 t c =
    let h = c.stands_at.ensures c.if-stands_at.true in record { fits = omega (arith, h.0, c.requires.0.short) }

pub amount_at-overflow_sub-left-in-75 : goal.amount_at-overflow_sub-left-in-75
amount_at-overflow_sub-left-in-75 t c =
    let h = c.stands_at.ensures c.if-stands_at.true in omega (arith, h.2)

pub amount_at-amount_at-x-requires-in-75 : goal.amount_at-amount_at-x-requires-in-75
amount_at-amount_at-x-requires-in-75 t c =
    let h = c.stands_at.ensures c.if-stands_at.true in
    (omega (arith, h.2, c.decreases), (c.requires.0, omega (arith, h.0, c.requires.0.short)))

pub amount_at-overflow_sub-left-in-75-2 : goal.amount_at-overflow_sub-left-in-75-2
amount_at-overflow_sub-left-in-75-2 t c =
    let h = c.stands_at.ensures c.if-stands_at.true in omega (arith, h.2)

pub amount_at-amount_behind-y-requires-in-75 : goal.amount_at-amount_behind-y-requires-in-75
amount_at-amount_behind-y-requires-in-75 t c =
    let h = c.stands_at.ensures c.if-stands_at.true in (omega (arith, h.2, c.decreases), c.requires.0)

pub amount_at-divisor_at-d-requires : goal.amount_at-divisor_at-d-requires
amount_at-divisor_at-d-requires t c =
    let h = c.stands_at.ensures c.if-stands_at.true in (c.requires.0, h.0)

pub amount_at-overflow_sub-left-in-81 : goal.amount_at-overflow_sub-left-in-81
amount_at-overflow_sub-left-in-81 t c =
    let h = c.stands_at.ensures c.if-stands_at.true in omega (arith, h.2)

pub amount_at-amount_behind-requires : goal.amount_at-amount_behind-requires
amount_at-amount_behind-requires t c =
    let h = c.stands_at.ensures c.if-stands_at.true in (omega (arith, h.2, c.decreases), c.requires.0)

pub amount_at-overflow_add-at-in-73 : goal.amount_at-overflow_add-at-in-73
amount_at-overflow_add-at-in-73 t c =
    let h = c.stands_at.ensures c.if-stands_at.true in record { fits = omega (arith, h.0, c.requires.0.short) }

pub amount_at-overflow_sub-left-in-73 : goal.amount_at-overflow_sub-left-in-73
amount_at-overflow_sub-left-in-73 t c =
    let h = c.stands_at.ensures c.if-stands_at.true in omega (arith, h.2)

pub amount_at-test_at-t-requires : goal.amount_at-test_at-t-requires
amount_at-test_at-t-requires t c =
    let h = c.stands_at.ensures c.if-stands_at.true in
    (omega (arith, h.2, c.decreases), (c.requires.0, omega (arith, h.0, c.requires.0.short)))

pub amount_at-overflow_sub-left-in-73-2 : goal.amount_at-overflow_sub-left-in-73-2
amount_at-overflow_sub-left-in-73-2 t c =
    let h = c.stands_at.ensures c.if-stands_at.true in omega (arith, h.2)

pub amount_at-amount_behind-x-requires : goal.amount_at-amount_behind-x-requires
amount_at-amount_behind-x-requires t c =
    let h = c.stands_at.ensures c.if-stands_at.true in (omega (arith, h.2, c.decreases), c.requires.0)

pub amount_at-overflow_sub-left-in-73-3 : goal.amount_at-overflow_sub-left-in-73-3
amount_at-overflow_sub-left-in-73-3 t c =
    let h = c.stands_at.ensures c.if-stands_at.true in omega (arith, h.2)

pub amount_at-amount_behind-y-requires-in-73 : goal.amount_at-amount_behind-y-requires-in-73
amount_at-amount_behind-y-requires-in-73 t c =
    let h = c.stands_at.ensures c.if-stands_at.true in (omega (arith, h.2, c.decreases), c.requires.0)

pub amount_at-returns-in-78 : goal.amount_at-returns-in-78
amount_at-returns-in-78 t c =
    let h = c.stands_at.ensures c.if-stands_at.true in c.number_at.ensures _ _ _ _ h.2

pub amount_at-returns-in-79 : goal.amount_at-returns-in-79
amount_at-returns-in-79 t c =
    let h = c.stands_at.ensures c.if-stands_at.true in c.index_at.ensures _ h.2

pub amount_at-returns-in-65 : goal.amount_at-returns-in-65
amount_at-returns-in-65 t c =
    let h = c.stands_at.ensures c.if-stands_at.true in
    λ k. let j = c.summed.ensures k in let p = c.amount_at-x.ensures j.first in let q = (c.amount_behind-y.ensures j.second).1 in ⊎_elim (λ e. sum_seen _ c.requires.0 _ _ h.2 _ _ _ p q k (record { room = h.0; comma = h.1; letter = e }) j) (λ e. difference_seen _ c.requires.0 _ _ h.2 _ _ _ p q k (record { room = h.0; comma = h.1; letter = e }) j) c.in-65.is

pub amount_at-returns-in-75 : goal.amount_at-returns-in-75
amount_at-returns-in-75 t c =
    let h = c.stands_at.ensures c.if-stands_at.true in
    λ k. let j = c.multiplied.ensures k in product_seen _ c.requires.0 _ _ h.2 _ _ _ (c.amount_at-x-in-75.ensures j.first) (c.amount_behind-y-in-75.ensures j.second).1 k (record { room = h.0; comma = h.1; letter = c.in-75.is }) j

pub amount_at-returns-in-81 : goal.amount_at-returns-in-81
amount_at-returns-in-81 t c =
    let h = c.stands_at.ensures c.if-stands_at.true in
    λ k. let b = c.amount_behind.ensures k in quotient_seen _ c.requires.0 _ _ h.2 _ _ _ (record { room = h.0; comma = h.1; letter = c.in-81.is }) (c.divisor_at-d.ensures b.0) b.1

pub amount_at-returns-in-73 : goal.amount_at-returns-in-73
amount_at-returns-in-73 t c =
    let h = c.stands_at.ensures c.if-stands_at.true in
    λ k. let w = c.greater-in-73.ensures k in let g = c.greater.ensures w.first in choose_seen _ c.requires.0 _ _ h.2 _ _ _ (record { room = h.0; comma = h.1; letter = c.in-73.is }) (c.test_at-t.ensures g.first) (c.amount_behind-x.ensures g.second).1 (c.amount_behind-y-in-73.ensures w.second).1 k g w

pub amount_at-returns-in_default : goal.amount_at-returns-in_default
amount_at-returns-in_default t c = λ k. absurd (omega (arith, k))

pub amount_at-returns-else-stands_at : goal.amount_at-returns-else-stands_at
amount_at-returns-else-stands_at t c = λ k. absurd (omega (arith, k))

pub amount_behind-amount_at-requires : goal.amount_behind-amount_at-requires
amount_behind-amount_at-requires t c =
    (omega (arith, c.decreases), (c.requires, omega (arith, c.place.ensures)))

pub amount_behind-returns-then-is_kept : goal.amount_behind-returns-then-is_kept
amount_behind-returns-then-is_kept t c = λ k. (is_kept _ c.is_kept.ensures c.if-is_kept.true, rw (← c.place.ensures) (c.amount_at.ensures k))

pub amount_behind-returns : goal.amount_behind-returns
amount_behind-returns t c = λ k. absurd (omega (arith, k))

pub test_at-stands_at-requires : goal.test_at-stands_at-requires
test_at-stands_at-requires t c =
    c.requires.1

pub test_at-bounds-text-at : goal.test_at-bounds-text-at
test_at-bounds-text-at t c =
    let h = c.stands_at.ensures c.if-stands_at.true in omega (arith, h.0)

pub test_at-overflow_add-at : goal.test_at-overflow_add-at
test_at-overflow_add-at t c =
    let h = c.stands_at.ensures c.if-stands_at.true in record { fits = omega (arith, h.0, c.requires.0.short) }

pub test_at-overflow_sub-left : goal.test_at-overflow_sub-left
test_at-overflow_sub-left t c =
    let h = c.stands_at.ensures c.if-stands_at.true in omega (arith, h.2)

pub test_at-amount_at-x-requires : goal.test_at-amount_at-x-requires
test_at-amount_at-x-requires t c =
    let h = c.stands_at.ensures c.if-stands_at.true in
    (omega (arith, h.2, c.decreases), (c.requires.0, omega (arith, h.0, c.requires.0.short)))

pub test_at-overflow_sub-left-in-71 : goal.test_at-overflow_sub-left-in-71
test_at-overflow_sub-left-in-71 t c =
    let h = c.stands_at.ensures c.if-stands_at.true in omega (arith, h.2)

pub test_at-amount_behind-y-requires : goal.test_at-amount_behind-y-requires
test_at-amount_behind-y-requires t c =
    let h = c.stands_at.ensures c.if-stands_at.true in (omega (arith, h.2, c.decreases), c.requires.0)

pub test_at-overflow_add-at-in-89 : goal.test_at-overflow_add-at-in-89
test_at-overflow_add-at-in-89 t c =
    let h = c.stands_at.ensures c.if-stands_at.true in record { fits = omega (arith, h.0, c.requires.0.short) }

pub test_at-overflow_sub-left-in-89 : goal.test_at-overflow_sub-left-in-89
test_at-overflow_sub-left-in-89 t c =
    let h = c.stands_at.ensures c.if-stands_at.true in omega (arith, h.2)

pub test_at-test_at-x-requires : goal.test_at-test_at-x-requires
test_at-test_at-x-requires t c =
    let h = c.stands_at.ensures c.if-stands_at.true in
    (omega (arith, h.2, c.decreases), (c.requires.0, omega (arith, h.0, c.requires.0.short)))

pub test_at-overflow_sub-left-in-89-2 : goal.test_at-overflow_sub-left-in-89-2
test_at-overflow_sub-left-in-89-2 t c =
    let h = c.stands_at.ensures c.if-stands_at.true in omega (arith, h.2)

pub test_at-test_behind-y-requires : goal.test_at-test_behind-y-requires
test_at-test_behind-y-requires t c =
    let h = c.stands_at.ensures c.if-stands_at.true in (omega (arith, h.2, c.decreases), c.requires.0)

pub test_at-overflow_add-at-in-82 : goal.test_at-overflow_add-at-in-82
test_at-overflow_add-at-in-82 t c =
    let h = c.stands_at.ensures c.if-stands_at.true in record { fits = omega (arith, h.0, c.requires.0.short) }

pub test_at-overflow_sub-left-in-82 : goal.test_at-overflow_sub-left-in-82
test_at-overflow_sub-left-in-82 t c =
    let h = c.stands_at.ensures c.if-stands_at.true in omega (arith, h.2)

pub test_at-test_at-requires : goal.test_at-test_at-requires
test_at-test_at-requires t c =
    let h = c.stands_at.ensures c.if-stands_at.true in
    (omega (arith, h.2, c.decreases), (c.requires.0, omega (arith, h.0, c.requires.0.short)))

pub test_at-returns-in-71 : goal.test_at-returns-in-71
test_at-returns-in-71 t c =
    let h = c.stands_at.ensures c.if-stands_at.true in
    λ k. let j = c.tested.ensures k in let p = c.amount_at-x.ensures j.first in let q = (c.amount_behind-y.ensures j.second).1 in ⊎_elim (λ e. equal_seen _ c.requires.0 _ _ h.2 _ _ _ p q k (record { room = h.0; comma = h.1; letter = e }) j) (λ e. less_seen _ c.requires.0 _ _ h.2 _ _ _ p q k (record { room = h.0; comma = h.1; letter = e }) j) c.in-71.is

pub test_at-returns-in-89 : goal.test_at-returns-in-89
test_at-returns-in-89 t c =
    let h = c.stands_at.ensures c.if-stands_at.true in
    λ k. let j = c.tested-in-89.ensures k in let p = c.test_at-x.ensures j.first in let q = (c.test_behind-y.ensures j.second).1 in ⊎_elim (λ e. disjunction_seen _ c.requires.0 _ _ h.2 _ _ _ p q (record { room = h.0; comma = h.1; letter = e }) j) (λ e. conjunction_seen _ c.requires.0 _ _ h.2 _ _ _ p q (record { room = h.0; comma = h.1; letter = e }) j) c.in-89.is

pub test_at-returns-in-82 : goal.test_at-returns-in-82
test_at-returns-in-82 t c =
    let h = c.stands_at.ensures c.if-stands_at.true in
    λ k. negation_seen _ c.requires.0 _ _ h.2 _ _ _ (record { room = h.0; comma = h.1; letter = c.in-82.is }) (c.test_at.ensures k)

pub test_at-returns-in_default : goal.test_at-returns-in_default
test_at-returns-in_default t c = λ k. absurd (omega (arith, k))

pub test_at-returns-else-stands_at : goal.test_at-returns-else-stands_at
test_at-returns-else-stands_at t c = λ k. absurd (omega (arith, k))

pub test_behind-test_at-requires : goal.test_behind-test_at-requires
test_behind-test_at-requires t c =
    (omega (arith, c.decreases), (c.requires, omega (arith, c.place.ensures)))

pub test_behind-returns-then-is_kept : goal.test_behind-returns-then-is_kept
test_behind-returns-then-is_kept t c = λ k. (is_kept _ c.is_kept.ensures c.if-is_kept.true, rw (← c.place.ensures) (c.test_at.ensures k))

pub test_behind-returns : goal.test_behind-returns
test_behind-returns t c = λ k. absurd (omega (arith, k))
