use borrow.Author.Rules.{rules}
use mathlib.Core.Path.{ap, sym}
use mir.Syntax.{w32, w64}
use mir.Val.{SFits}
use mir.ValLaws.{to_z_pos}
use Rattle.unit.proofs.Puts.{count_fits, told}
use Rattle.unit.specs.Returned.{bytes_only, into_answer}
use Rattle.writer.specs.Answers.{written_answer}
use Rattle.unit.proofs.tell_sheet.Goals as goal

pub overflow_cast-bytes : goal.overflow_cast-bytes
unfolding written_answer
overflow_cast-bytes c =
    count_fits c.in-Ok.bytes (c.requires.within _ (ap written_answer c.in-Ok.is))

pub returns-in-Ok : goal.returns-in-Ok
unfolding written_answer
returns-in-Ok c =
    let k = c.put_one in
    let f : SFits w32 k.result = search rules in
    let n = c.requires.within _ (ap written_answer c.in-Ok.is) in
    told bytes_only c.args.answer.now (record { value = tt; count = c.in-Ok.bytes }) (ap written_answer c.in-Ok.is) k.result k.new.answer f (rw (to_z_pos w64 c.in-Ok.bytes n) at k.ensures)

pub returns-in-Err : goal.returns-in-Err
unfolding into_answer written_answer
returns-in-Err c = sym (ap (λ w. into_answer bytes_only c.args.answer.now (written_answer w)) c.in-Err.is)
