use borrow.Author.Rules.{rules}
use lib.IntN.{◌+ℤ◌}
use mir.Syntax.{w64}
use mir.Val.{SFits}
use Rattle.integers.proofs.Locals.{sum_fits, op_fits, op_reads}
use Rattle.checked.proofs.four.plus.Goals as goal

pub overflow_add-result : goal.overflow_add-result
overflow_add-result c =
    let f : SFits w64 c.args.x.0 = search rules in
    let g : SFits w64 c.args.y.0 = search rules in
    op_fits ◌+ℤ◌ f g (sum_fits c.requires.0 c.requires.1)

pub returns : goal.returns
returns c =
    let f : SFits w64 c.args.x.0 = search rules in
    let g : SFits w64 c.args.y.0 = search rules in
    op_reads ◌+ℤ◌ f g (sum_fits c.requires.0 c.requires.1)
