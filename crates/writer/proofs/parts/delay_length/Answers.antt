use borrow.Author.Rules.{rules}
use lib.ListN.{length}
use mathlib.Core.Path.{◌∙◌, ap, refl, sym}
use mir.Syntax.{w64}
use mir.Val.{SFits}
use Rattle.writer.proofs.Numbers.{delay_above, delay_below}
use Rattle.writer.specs.Written.{slot}
use Rattle.writer.proofs.parts.delay_length.Goals as goal

-- `fields::delay_length` meets its contract.

pub returns-then-z-lt0 : goal.returns-then-z-lt0
returns-then-z-lt0 c =
    let f : SFits w64 (slot c.args.nodes.now c.args.k) = search rules in
    sym (ap length (delay_below _ f _ refl c.if-z-lt0.true))

pub returns-else-z-lt0 : goal.returns-else-z-lt0
returns-else-z-lt0 c =
    let f : SFits w64 (slot c.args.nodes.now c.args.k) = search rules in
    c.digit_count.ensures ∙ sym (ap length (delay_above _ f _ c.magnitude.ensures.0 c.if-z-lt0.false))
