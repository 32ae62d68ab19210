use borrow.Author.Rules.{rules}
use mathlib.Core.Path.{◌∙◌, ap, subst}
use mir.Facts.{to_z-of_z}
use mir.Syntax.{w32, w64}
use mir.Val.{SFits}
use Rattle.rules.specs.Answers.{Natural, checking_answer}
use Rattle.text.specs.Refusals.{number_of}
use Rattle.unit.proofs.Puts.{told, untold, whole}
use Rattle.unit.specs.Returned.{measures}
use lib.IntN.{nat_abs}
use Rattle.unit.proofs.tell_check.Goals as goal

pub returns-in-Ok : goal.returns-in-Ok
unfolding checking_answer
returns-in-Ok c =
    let k = c.put_two in
    let n = subst Natural c.in-Ok.is c.requires in
    let f : SFits w32 k.result = search rules in
    let l : SFits w64 c.in-Ok.plan.length.0 = search rules in
    let m : SFits w64 c.in-Ok.plan.magnitude.0 = search rules in
    told measures c.args.answer.now (record { length = nat_abs c.in-Ok.plan.length.0; magnitude = nat_abs c.in-Ok.plan.magnitude.0 }) (ap checking_answer c.in-Ok.is) k.result k.new.answer f
    (rw (to_z-of_z l ∙ whole c.in-Ok.plan.length.0 n.0, to_z-of_z m ∙ whole c.in-Ok.plan.magnitude.0 n.1) at k.ensures)

pub returns-in-Err : goal.returns-in-Err
unfolding checking_answer
returns-in-Err c =
    let k = c.refused in
    let f : SFits w32 k.result = search rules in
    untold measures c.args.answer.now (number_of c.in-Err.refusal) (ap checking_answer c.in-Err.is) k.result f k.ensures
