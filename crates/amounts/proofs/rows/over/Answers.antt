use borrow.Author.Rules.{rules}
use lib.IntN.{nat_abs}
use mathlib.Core.Path.{◌∙◌, ap}
use mir.Facts.{to_z-of_z}
use mir.Syntax.{w64}
use mir.Val.{SFits}
use Rattle.integers.specs.Rounding.{floor_z}
use Rattle.nodes.specs.Table.{slot_at}
use Rattle.amounts.proofs.RowReads.{divisor_is, divisor_positive}
use Rattle.amounts.proofs.rows.over.Goals as goal

pub quotient-requires : goal.quotient-requires
quotient-requires c =
    let f : SFits w64 c.slot-n.result = search rules in
    rw (to_z-of_z f, c.slot-n.ensures) (divisor_positive _ c.requires.1)

pub returns : goal.returns
returns c =
    let f : SFits w64 c.slot-n.result = search rules in
    let d = divisor_is (slot_at c.args.nodes.now c.args.at 1) c.requires.1 in
    c.quotient.ensures ∙ ap (floor_z c.args.x.0) (ap nat_abs (to_z-of_z f ∙ c.slot-n.ensures) ∙ d)
