use native.Mathlib.Omega.{arith}
use Rattle.fields.proofs.FewDigits.{few_done, few_more, few_none, few_small}
use Rattle.lines.proofs.figures.short_digits.Goals as goal

pub loop-k-init : goal.loop-k-init
loop-k-init c = few_none c.args.line.now c.args.at

pub returns-then-b-eq44 : goal.returns-then-b-eq44
returns-then-b-eq44 c = few_done _ _ _ _ c.loop-k.invariant (omega arith) c.if-b-eq44.true

pub loop-k-preserved : goal.loop-k-preserved
loop-k-preserved c = few_more _ _ _ _ c.loop-k.invariant (omega arith) (omega arith) (omega arith) (omega arith)

pub overflow_add-b : goal.overflow_add-b
overflow_add-b c = omega (arith, c.requires, c.loop-k.invariant.most)

pub bounds-line-at : goal.bounds-line-at
bounds-line-at c = omega (arith, c.requires)

pub overflow_mul-v : goal.overflow_mul-v
overflow_mul-v c = omega (arith, few_small _ _ _ _ c.loop-k.invariant)

pub overflow_cast-v : goal.overflow_cast-v
overflow_cast-v c = omega arith

pub overflow_add-v : goal.overflow_add-v
overflow_add-v c = omega (arith, few_small _ _ _ _ c.loop-k.invariant)

pub overflow_add-result : goal.overflow_add-result
overflow_add-result c = omega (arith, c.requires)

pub returns-in_default : goal.returns-in_default
returns-in_default c = tt

pub returns : goal.returns
returns c = tt
