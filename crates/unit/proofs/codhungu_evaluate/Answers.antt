use borrow.Author.Rules.{rules}
use mir.Facts.{to_z-of_z}
use mir.Syntax.{w32}
use mir.Val.{SFits}
use Rattle.unit.proofs.Puts.{passed_on}
use Rattle.unit.specs.Returned.{money}
use Rattle.unit.proofs.codhungu_evaluate.Goals as goal

pub returns : goal.returns
returns c =
    let k = c.tell_value in
    let f : SFits w32 k.result = search rules in
    passed_on money c.args.answer.now (rw (to_z-of_z c.ranges.h, to_z-of_z c.ranges.f, to_z-of_z c.ranges.month, to_z-of_z c.ranges.p, to_z-of_z c.ranges.q) at c.evaluate-evaluating.ensures) k.result k.new.answer f k.ensures
