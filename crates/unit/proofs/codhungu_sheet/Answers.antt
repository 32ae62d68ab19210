use borrow.Author.Rules.{rules}
use lib.Dec.{leb}
use lib.ListN.{length}
use mathlib.Core.Path.{refl}
use mir.Syntax.{w32}
use mir.Val.{SFits}
use native.Mathlib.Omega.{arith}
use Rattle.language.specs.Answer.{got}
use Rattle.language.specs.Sheet.{sheet_call, sheet_text}
use Rattle.unit.proofs.Buffers.{both, counted, part_length, within_out}
use Rattle.unit.specs.Returned.{bytes_only}
use Rattle.unit.proofs.codhungu_sheet.Goals as goal

pub slice_bounds-sheet-end : goal.slice_bounds-sheet-end
slice_bounds-sheet-end c = within_out (leb 1 (length c.args.answer.now)) c.usable-end.ensures

pub slice_bounds-sheet-end-2 : goal.slice_bounds-sheet-end-2
slice_bounds-sheet-end-2 c = part_length c.usable-end.result c.args.out.now (within_out (leb 1 (length c.args.answer.now)) c.usable-end.ensures)

pub tell_sheet-requires : goal.tell_sheet-requires
unfolding sheet_call
tell_sheet-requires c =
    let a = c.args in
    let e = c.sheet-written.ensures in
    counted (leb 1 (length a.answer.now)) a.out.now c.usable-end.ensures (omega arith) (got (record { value = tt; text = sheet_text a.input.now })) e.1

pub returns : goal.returns
unfolding sheet_call
returns c =
    let a = c.args in
    let k = c.tell_sheet in
    let u = c.usable-end in
    let e = c.sheet-written.ensures in
    let f : SFits w32 k.result = search rules in
    both bytes_only 1 (λ x. refl) a.answer.now a.out.now (got (record { value = tt; text = sheet_text a.input.now })) u.result u.ensures e.0 e.1 k.result k.new.answer f k.ensures
