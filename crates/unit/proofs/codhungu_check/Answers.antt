use borrow.Author.Rules.{rules}
use mir.Facts.{to_z-of_z}
use mir.Syntax.{w32}
use mir.Val.{SFits}
use Rattle.unit.proofs.Puts.{passed_on}
use Rattle.unit.specs.Returned.{measures}
use Rattle.unit.proofs.codhungu_check.Goals as goal

pub returns : goal.returns
returns c =
    let k = c.tell_check in
    let f : SFits w32 k.result = search rules in
    passed_on measures c.args.answer.now (rw (to_z-of_z c.ranges.h, to_z-of_z c.ranges.f, to_z-of_z c.ranges.today) at c.check-checking.ensures.0) k.result k.new.answer f k.ensures
