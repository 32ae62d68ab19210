use Prim.Native.Nat.{◌-◌}
use borrow.Author.Rules.{rules}
use lib.ListN.{length}
use native.Mathlib.Omega.{arith}
use Rattle.lines.proofs.LineLaws.{line_here, line_on}
use Rattle.lines.specs.Lines.{LineFrom}
use Rattle.lines.proofs.ends.passed.Goals as goal

-- `ends::passed` meets its contract.

pub loop-i-init : goal.loop-i-init
loop-i-init c = line_here _ _ c.requires

pub overflow_sub-input : goal.overflow_sub-input
overflow_sub-input c = c.loop-i.invariant.inside

pub feed_in_32-requires : goal.feed_in_32-requires
feed_in_32-requires c = omega (arith, c.loop-i.invariant.inside, c.loop-i-test.true)

pub returns-then-feed_in_32 : goal.returns-then-feed_in_32
returns-then-feed_in_32 c = c.loop-i.invariant

pub overflow_add-i : goal.overflow_add-i
overflow_add-i c = omega (arith, c.loop-i.invariant.inside, c.loop-i-test.true)

pub loop-i-smaller : goal.loop-i-smaller
loop-i-smaller c = omega (arith, c.loop-i.invariant.inside, c.loop-i-test.true)

pub loop-i-preserved : goal.loop-i-preserved
loop-i-preserved c =
    line_on _ 32 (omega (arith, c.loop-i.invariant.inside, c.loop-i-test.true)) c.loop-i.invariant (c.feed_in_32.ensures c.if-feed_in_32.false)

pub returns : goal.returns
returns c = c.loop-i.invariant
