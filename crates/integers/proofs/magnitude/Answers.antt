use borrow.Author.Rules.{rules}
use Rattle.integers.proofs.Negation.{add_fits, distance_fits, negated_fits, negated_reads, not_below, one_less_fits, one_more, one_more_fits}
use Rattle.integers.proofs.magnitude.Goals as goal

pub overflow_add-result : goal.overflow_add-result
overflow_add-result c = add_fits _ c.ranges.x c.if-x-lt0.true

pub overflow_sub-result : goal.overflow_sub-result
overflow_sub-result c = negated_fits _ c.ranges.x c.if-x-lt0.true

pub overflow_cast-result : goal.overflow_cast-result
overflow_cast-result c =
    let f = c.ranges.x in
    rw (negated_reads _ f c.if-x-lt0.true) (tt, one_less_fits _ f c.if-x-lt0.true)

pub overflow_add-result-then-x-lt0 : goal.overflow_add-result-then-x-lt0
overflow_add-result-then-x-lt0 c =
    let f = c.ranges.x in
    rw (negated_reads _ f c.if-x-lt0.true) (one_more_fits _ f c.if-x-lt0.true)

pub overflow_cast-result-else-x-lt0 : goal.overflow_cast-result-else-x-lt0
overflow_cast-result-else-x-lt0 c =
    let f = c.ranges.x in
    rw (not_below _ f c.if-x-lt0.false) (tt, distance_fits _ f)

pub returns-then-x-lt0 : goal.returns-then-x-lt0
returns-then-x-lt0 c =
    let f = c.ranges.x in
    rw (negated_reads _ f c.if-x-lt0.true) (one_more _ f c.if-x-lt0.true)
