use native.Mathlib.Omega.{arith}
use Rattle.nodes.specs.Pass.{row_from}
use Rattle.steps.proofs.RowSteps.{restore_five}
use Prim.Native.Nat.{◌*◌}
use Rattle.steps.proofs.rows.RestoredChange.put.Goals as goal

pub returns-clause-counted : goal.returns-clause-counted
returns-clause-counted c =
    let s = c.args.self.now.span in
    omega (arith, c.restore_row.ensures.ends, restore_five s.h s.f (row_from (c.args.at * 5) c.args.nodes.now))
