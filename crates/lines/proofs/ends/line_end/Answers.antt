use lib.ListN.{length}
use mathlib.Core.Path.{ap}
use native.Mathlib.Omega.{arith}
use Rattle.lines.proofs.LineLaws.{line_goes_on, line_stops, no_line}
use Rattle.lines.proofs.ends.line_end.Goals as goal

-- `ends::line_end` meets its contract.

pub passed-i-requires : goal.passed-i-requires
passed-i-requires c = c.requires

pub loop-i-init : goal.loop-i-init
loop-i-init c = c.passed-i.ensures

pub returns-then-input-i-eq10 : goal.returns-then-input-i-eq10
returns-then-input-i-eq10 c =
    omega (arith, c.loop-i.invariant.ends, ap length (line_stops c.args.input.now c.loop-i.i c.loop-i-test.true c.if-input-i-eq10.true))

pub loop-i-preserved : goal.loop-i-preserved
loop-i-preserved c =
    record {
      inside = omega (arith, c.loop-i-test.true);
      ends = omega (arith, c.loop-i.invariant.ends, ap length (line_goes_on c.args.input.now c.loop-i.i c.loop-i-test.true c.if-input-i-eq10.false));
    }

pub returns : goal.returns
returns c =
    omega (arith, c.loop-i.invariant.ends, ap length (no_line c.args.input.now c.loop-i.i (omega (arith, c.loop-i-test.false))))
