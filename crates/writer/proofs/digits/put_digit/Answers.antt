use borrow.Author.Rules.{rules}
use mathlib.Core.Path.{sym}
use mir.Syntax.{w64}
use mir.Val.{SFits}
use Rattle.writer.proofs.Numbers.{digit_byte, digit_cast, digit_is}
use Rattle.writer.proofs.Puts.{one, said}
use Rattle.writer.specs.Written.{slot}
use Rattle.writer.proofs.digits.put_digit.Goals as goal

-- `digits::put_digit` meets its contract.

pub overflow_cast-out : goal.overflow_cast-out
overflow_cast-out c =
    let f : SFits w64 (slot c.args.nodes.now c.args.k) = search rules in
    digit_cast _ f c.requires.1

pub overflow_add-out : goal.overflow_add-out
overflow_add-out c =
    let f : SFits w64 (slot c.args.nodes.now c.args.k) = search rules in
    digit_byte _ f c.requires.1

pub returns : goal.returns
returns c =
    let f : SFits w64 (slot c.args.nodes.now c.args.k) = search rules in
    said (sym (digit_is _ f c.requires.1)) (one _ _ _)
