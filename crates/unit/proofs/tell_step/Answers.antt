use borrow.Author.Rules.{rules}
use mathlib.Core.Path.{ap}
use mir.Facts.{to_z-of_z}
use mir.Syntax.{w32, w64}
use mir.Val.{SFits}
use mir.ValLaws.{to_z_pos}
use Rattle.payments.specs.Answers.{stepping_answer}
use Rattle.text.specs.Refusals.{number_of}
use Rattle.unit.proofs.Puts.{count_fits, told, untold}
use Rattle.unit.specs.Returned.{money_bytes}
use Rattle.unit.proofs.tell_step.Goals as goal

pub overflow_cast-stepped : goal.overflow_cast-stepped
unfolding stepping_answer
overflow_cast-stepped c =
    count_fits c.in-Ok.stepped.bytes (c.requires.within _ (ap stepping_answer c.in-Ok.is))

pub returns-in-Ok : goal.returns-in-Ok
unfolding stepping_answer
returns-in-Ok c =
    let k = c.put_two in
    let f : SFits w32 k.result = search rules in
    let v : SFits w64 c.in-Ok.stepped.pence.0 = search rules in
    let n = c.requires.within _ (ap stepping_answer c.in-Ok.is) in
    told money_bytes c.args.answer.now (record { value = c.in-Ok.stepped.pence.0; count = c.in-Ok.stepped.bytes }) (ap stepping_answer c.in-Ok.is) k.result k.new.answer f (rw (to_z-of_z v, to_z_pos w64 c.in-Ok.stepped.bytes n) at k.ensures)

pub returns-in-Err : goal.returns-in-Err
unfolding stepping_answer
returns-in-Err c =
    let k = c.refused in
    let f : SFits w32 k.result = search rules in
    untold money_bytes c.args.answer.now (number_of c.in-Err.refusal) (ap stepping_answer c.in-Err.is) k.result f k.ensures
