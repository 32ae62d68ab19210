use borrow.Author.Rules.{rules}
use mir.Syntax.{w64}
use mir.Val.{SFits}
use Rattle.steps.proofs.Restored.{earlier_fits, earlier_held}
use Rattle.steps.proofs.offsets.earlier.Goals as goal

pub overflow_sub-result : goal.overflow_sub-result
overflow_sub-result c =
    let f : SFits w64 c.args.d.0 = search rules in
    earlier_fits c.args.d.0 c.requires f

pub returns : goal.returns
returns c =
    let f : SFits w64 c.args.d.0 = search rules in
    earlier_held c.args.d.0 c.requires f
