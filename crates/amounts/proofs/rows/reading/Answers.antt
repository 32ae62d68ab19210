use borrow.Author.Rules.{rules}
use mathlib.Core.Path.{◌∙◌}
use mir.Syntax.{w64}
use mir.Val.{SFits}
use Rattle.amounts.proofs.RowReads.{place_cast, place_fits, place_gives, place_inside}
use Rattle.amounts.proofs.rows.reading.Goals as goal

pub overflow_add-i : goal.overflow_add-i
overflow_add-i c =
    let fm : SFits w64 c.args.month.0 = search rules in
    let fx : SFits w64 c.slot-place.result = search rules in
    place_fits _ _ _ _ fm fx c.slot-place.ensures c.requires.1 c.requires.2

pub overflow_cast-i : goal.overflow_cast-i
overflow_cast-i c =
    let fm : SFits w64 c.args.month.0 = search rules in
    let fx : SFits w64 c.slot-place.result = search rules in
    place_cast _ _ _ _ fm fx c.slot-place.ensures c.requires.1 c.requires.2

pub value_at-requires : goal.value_at-requires
value_at-requires c =
    let fm : SFits w64 c.args.month.0 = search rules in
    let fx : SFits w64 c.slot-place.result = search rules in
    place_inside _ _ _ _ fm fx c.slot-place.ensures c.requires.1 c.requires.2

pub returns : goal.returns
returns c =
    let fm : SFits w64 c.args.month.0 = search rules in
    let fx : SFits w64 c.slot-place.result = search rules in
    c.value_at.ensures ∙ place_gives _ _ _ _ fm fx c.slot-place.ensures c.requires.1 c.requires.2
