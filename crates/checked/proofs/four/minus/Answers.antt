use borrow.Author.Rules.{rules}
use lib.IntN.{◌-ℤ◌}
use mir.Syntax.{w64}
use mir.Val.{SFits}
use Rattle.integers.proofs.Locals.{difference_fits, op_fits, op_reads}
use Rattle.checked.proofs.four.minus.Goals as goal

pub overflow_sub-result : goal.overflow_sub-result
overflow_sub-result c =
    let f : SFits w64 c.args.x.0 = search rules in
    let g : SFits w64 c.args.y.0 = search rules in
    op_fits ◌-ℤ◌ f g (difference_fits c.requires.0 c.requires.1)

pub returns : goal.returns
returns c =
    let f : SFits w64 c.args.x.0 = search rules in
    let g : SFits w64 c.args.y.0 = search rules in
    op_reads ◌-ℤ◌ f g (difference_fits c.requires.0 c.requires.1)
