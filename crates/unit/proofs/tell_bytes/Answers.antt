use borrow.Author.Rules.{rules}
use mathlib.Core.Path.{ap}
use mir.Syntax.{w32, w64}
use mir.Val.{SFits}
use mir.ValLaws.{to_z_pos}
use Rattle.payoff.specs.Answers.{writing_answer}
use Rattle.text.specs.Refusals.{number_of}
use Rattle.unit.proofs.Puts.{count_fits, told, untold}
use Rattle.unit.specs.Returned.{bytes_only}
use Rattle.unit.proofs.tell_bytes.Goals as goal

pub overflow_cast-bytes : goal.overflow_cast-bytes
unfolding writing_answer
overflow_cast-bytes c =
    count_fits c.in-Ok.bytes (c.requires.within _ (ap writing_answer c.in-Ok.is))

pub returns-in-Ok : goal.returns-in-Ok
unfolding writing_answer
returns-in-Ok c =
    let k = c.put_one in
    let f : SFits w32 k.result = search rules in
    let n = c.requires.within _ (ap writing_answer c.in-Ok.is) in
    told bytes_only c.args.answer.now (record { value = tt; count = c.in-Ok.bytes }) (ap writing_answer c.in-Ok.is) k.result k.new.answer f (rw (to_z_pos w64 c.in-Ok.bytes n) at k.ensures)

pub returns-in-Err : goal.returns-in-Err
unfolding writing_answer
returns-in-Err c =
    let k = c.refused in
    let f : SFits w32 k.result = search rules in
    untold bytes_only c.args.answer.now (number_of c.in-Err.refusal) (ap writing_answer c.in-Err.is) k.result f k.ensures
