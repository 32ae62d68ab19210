use borrow.Author.Rules.{rules}
use lib.IntN.{◌+ℤ◌}
use mir.Syntax.{w64}
use mir.Val.{SFits}
use Rattle.integers.proofs.Locals.{op_fits, op_reads, small_fits}
use Rattle.integers.proofs.plus.Goals as goal

pub overflow_add-result : goal.overflow_add-result
overflow_add-result c =
    let f : SFits w64 c.args.a.0 = search rules in
    let g : SFits w64 c.args.b.0 = search rules in
    op_fits ◌+ℤ◌ f g (small_fits c.requires)

pub returns : goal.returns
returns c =
    let f : SFits w64 c.args.a.0 = search rules in
    let g : SFits w64 c.args.b.0 = search rules in
    op_reads ◌+ℤ◌ f g (small_fits c.requires)
