use borrow.Author.Rules.{rules}
use mathlib.Core.Path.{ap}
use mir.Facts.{to_z-of_z}
use mir.Syntax.{w32, w64}
use mir.Val.{SFits}
use Rattle.payoff.specs.Evaluating.{evaluating_answer}
use Rattle.text.specs.Refusals.{number_of}
use Rattle.unit.proofs.Puts.{told, untold}
use Rattle.unit.specs.Returned.{money}
use Rattle.unit.proofs.tell_value.Goals as goal

pub returns-in-Ok : goal.returns-in-Ok
returns-in-Ok c =
    let k = c.put_one in
    let f : SFits w32 k.result = search rules in
    let v : SFits w64 c.in-Ok.value.0 = search rules in
    told money c.args.answer.now c.in-Ok.value.0 (ap evaluating_answer c.in-Ok.is) k.result k.new.answer f (rw (to_z-of_z v) at k.ensures)

pub returns-in-Err : goal.returns-in-Err
returns-in-Err c =
    let k = c.refused in
    let f : SFits w32 k.result = search rules in
    untold money c.args.answer.now (number_of c.in-Err.refusal) (ap evaluating_answer c.in-Err.is) k.result f k.ensures
