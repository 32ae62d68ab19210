use borrow.Author.Rules.{rules}
use lib.IntN.{◌-ℤ◌}
use mir.Syntax.{w64}
use mir.Val.{SFits}
use Rattle.integers.proofs.Locals.{op_fits, op_reads, small_fits}
use Rattle.amounts.proofs.wait.between.Goals as goal

pub overflow_sub-result : goal.overflow_sub-result
overflow_sub-result c =
    let f : SFits w64 c.args.last.0 = search rules in
    let g : SFits w64 c.args.month.0 = search rules in
    op_fits ◌-ℤ◌ f g (small_fits c.requires)

pub returns : goal.returns
returns c =
    let f : SFits w64 c.args.last.0 = search rules in
    let g : SFits w64 c.args.month.0 = search rules in
    op_reads ◌-ℤ◌ f g (small_fits c.requires)
