use borrow.Author.Rules.{rules}
use mir.Syntax.{w64}
use mir.Val.{SFits}
use Rattle.writer.proofs.Letters.{byte_above, byte_below, byte_cast, byte_is}
use Rattle.writer.specs.Written.{slot}
use Rattle.writer.proofs.rows.letter_byte.Goals as goal

-- `rows::letter_byte` meets its contract.

pub returns-then-z-lt0 : goal.returns-then-z-lt0
returns-then-z-lt0 c =
    let f : SFits w64 (slot c.args.nodes.now c.args.k) = search rules in
    byte_below _ f c.if-z-lt0.true

pub returns-then-z-gt255 : goal.returns-then-z-gt255
returns-then-z-gt255 c =
    let f : SFits w64 (slot c.args.nodes.now c.args.k) = search rules in
    byte_above _ f c.if-z-gt255.true

pub overflow_cast-result : goal.overflow_cast-result
overflow_cast-result c =
    let f : SFits w64 (slot c.args.nodes.now c.args.k) = search rules in
    byte_cast _ f c.if-z-lt0.false c.if-z-gt255.false

pub returns : goal.returns
returns c =
    let f : SFits w64 (slot c.args.nodes.now c.args.k) = search rules in
    byte_is _ f c.if-z-lt0.false c.if-z-gt255.false
