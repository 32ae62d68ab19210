use native.Mathlib.Omega.{arith}
use Rattle.compiles.proofs.MonthRows.{compile_five}
use Rattle.nodes.specs.Pass.{row_from}
use Prim.Native.Nat.{◌*◌}
use Rattle.compiles.proofs.rows.CompiledChange.put.Goals as goal

pub returns-clause-counted : goal.returns-clause-counted
returns-clause-counted c =
    let x = c.args.self.now in
    omega (arith, c.compile_row.ensures.ends, compile_five x.plain.0 x.digits.0 (row_from (c.args.at * 5) c.args.nodes.now))
