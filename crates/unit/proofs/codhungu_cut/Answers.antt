use borrow.Author.Rules.{rules}
use lib.Dec.{leb}
use lib.ListN.{length}
use mathlib.Core.Path.{refl}
use mir.Syntax.{w32}
use mir.Val.{SFits}
use native.Mathlib.Omega.{arith}
use Rattle.language.specs.Calls.{cut_call, cut_text}
use Rattle.unit.proofs.Buffers.{both, counted, part_length, within_out}
use Rattle.unit.specs.Returned.{bytes_only}
use Rattle.unit.proofs.codhungu_cut.Goals as goal

pub slice_bounds-cut-end : goal.slice_bounds-cut-end
slice_bounds-cut-end c = within_out (leb 1 (length c.args.answer.now)) c.usable-end.ensures

pub slice_bounds-cut-end-2 : goal.slice_bounds-cut-end-2
slice_bounds-cut-end-2 c = part_length c.usable-end.result c.args.out.now (within_out (leb 1 (length c.args.answer.now)) c.usable-end.ensures)

pub tell_bytes-requires : goal.tell_bytes-requires
unfolding cut_call
tell_bytes-requires c =
    let a = c.args in
    let e = c.cut-writing.ensures in
    counted (leb 1 (length a.answer.now)) a.out.now c.usable-end.ensures (omega arith) (cut_text a.payoff.now) e.1

pub returns : goal.returns
unfolding cut_call
returns c =
    let a = c.args in
    let k = c.tell_bytes in
    let u = c.usable-end in
    let e = c.cut-writing.ensures in
    let f : SFits w32 k.result = search rules in
    both bytes_only 1 (λ x. refl) a.answer.now a.out.now (cut_text a.payoff.now) u.result u.ensures e.0 e.1 k.result k.new.answer f k.ensures
