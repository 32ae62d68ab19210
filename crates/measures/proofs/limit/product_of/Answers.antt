use Prim.Native.Nat.{◌*◌}
use Rattle.measures.proofs.Joins as laws
use native.Mathlib.Omega.{arith}
use Rattle.measures.proofs.limit.product_of.Goals as goal

pub returns-then-a-gt-LIMIT : goal.returns-then-a-gt-LIMIT
returns-then-a-gt-LIMIT c = laws.first_beyond ◌*◌ _ _ c.if-a-gt-LIMIT.true

pub returns-then-b-gt-LIMIT : goal.returns-then-b-gt-LIMIT
returns-then-b-gt-LIMIT c = laws.second_beyond ◌*◌ _ _ c.if-b-gt-LIMIT.true

pub returns-then-b-eq0 : goal.returns-then-b-eq0
returns-then-b-eq0 c = laws.product_zero _ _ c.if-a-gt-LIMIT.false c.if-b-eq0.true

pub returns-then-b-a : goal.returns-then-b-a
returns-then-b-a c = laws.product_beyond _ _ c.if-b-eq0.false c.if-b-a.true

pub overflow_mul-result : goal.overflow_mul-result
overflow_mul-result c = omega (arith, laws.product_limit _ _ c.if-b-eq0.false c.if-b-a.false)

pub returns : goal.returns
returns c =
    laws.within_joined ◌*◌ _ _ c.if-a-gt-LIMIT.false c.if-b-gt-LIMIT.false (laws.product_limit _ _ c.if-b-eq0.false c.if-b-a.false)
