use native.Mathlib.Omega.{arith}
use Rattle.lines.proofs.LineLaws.{or_none}
use Rattle.lines.proofs.ends.feed_in_32.Goals as goal

-- `ends::feed_in_32` meets its contract. The invariant: where nothing is found yet, no line feed stands among the first k.

pub loop-k-init : goal.loop-k-init
loop-k-init c = (omega arith, λ e k h. absurd (omega arith))

pub overflow_add-found : goal.overflow_add-found
overflow_add-found c = omega (arith, c.requires)

pub bounds-input-at : goal.bounds-input-at
bounds-input-at c = omega (arith, c.requires)

pub loop-k-preserved : goal.loop-k-preserved
loop-k-preserved c =
    let a = c.args in
    (omega arith, or_none a.input.now _ a.at _ c.loop-k.invariant.1)

pub returns : goal.returns
returns c e k h = c.loop-k.invariant.1 e k (omega (arith, c.loop-k-test.false))
