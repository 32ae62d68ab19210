use native.Mathlib.Omega.{arith}
use Rattle.nodes.specs.Pass.{row_from}
use Rattle.nodes.specs.Table.{nat_of}
use Rattle.steps.proofs.RowSteps.{step_five}
use Rattle.tables.specs.Lookup.{read_table}
use Prim.Native.Nat.{◌*◌}
use Rattle.steps.proofs.rows.SteppedChange.put.Goals as goal

pub returns-clause-counted : goal.returns-clause-counted
returns-clause-counted c =
    let x = c.args.self.now in
    omega (arith, c.step_row.ensures.ends, step_five (read_table x.span.h x.span.f x.bounds.now x.values.now) (nat_of x.today.0) (row_from (c.args.at * 5) c.args.nodes.now))
