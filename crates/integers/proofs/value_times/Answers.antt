use borrow.Author.Rules.{rules}
use lib.IntN.{◌*ℤ◌}
use mir.Syntax.{w64}
use mir.Val.{SFits}
use Rattle.integers.proofs.Locals.{op_fits, op_reads, value_fits}
use Rattle.integers.proofs.value_times.Goals as goal

pub overflow_mul-result : goal.overflow_mul-result
overflow_mul-result c =
    let f : SFits w64 c.args.a.0 = search rules in
    let g : SFits w64 c.args.v.0 = search rules in
    op_fits ◌*ℤ◌ f g (value_fits c.requires)

pub returns : goal.returns
returns c =
    let f : SFits w64 c.args.a.0 = search rules in
    let g : SFits w64 c.args.v.0 = search rules in
    op_reads ◌*ℤ◌ f g (value_fits c.requires)
