use borrow.Author.Rules.{rules}
use lib.Dec.{leb}
use lib.ListN.{length}
use mathlib.Core.Path.{refl}
use mir.Facts.{to_z-of_z}
use mir.Syntax.{w32}
use mir.Val.{SFits}
use native.Mathlib.Omega.{arith}
use Rattle.language.specs.Calls.{step_call, step_text}
use Rattle.tables.specs.Given.{given_of}
use Rattle.unit.proofs.Buffers.{both, counted, part_length, within_out}
use Rattle.unit.specs.Returned.{money_bytes}
use Rattle.unit.proofs.codhungu_step.Goals as goal

pub slice_bounds-step-end : goal.slice_bounds-step-end
slice_bounds-step-end c = within_out (leb 2 (length c.args.answer.now)) c.usable-end.ensures

pub slice_bounds-step-end-2 : goal.slice_bounds-step-end-2
slice_bounds-step-end-2 c = part_length c.usable-end.result c.args.out.now (within_out (leb 2 (length c.args.answer.now)) c.usable-end.ensures)

pub tell_step-requires : goal.tell_step-requires
unfolding step_call
tell_step-requires c =
    let a = c.args in
    let e = rw (to_z-of_z c.ranges.h, to_z-of_z c.ranges.f, to_z-of_z c.ranges.today, to_z-of_z c.ranges.p, to_z-of_z c.ranges.q) at c.step-stepping.ensures in
    counted (leb 2 (length a.answer.now)) a.out.now c.usable-end.ensures (omega (arith, c.well_formed.1.1.1.1.1.1.1.1.1.1.0.1)) (step_text a.plan.now (given_of a.days.now a.h a.f a.factors.now a.bounds.now a.values.now) a.today a.p a.q) e.1

pub returns : goal.returns
unfolding step_call
returns c =
    let a = c.args in
    let k = c.tell_step in
    let u = c.usable-end in
    let e = rw (to_z-of_z c.ranges.h, to_z-of_z c.ranges.f, to_z-of_z c.ranges.today, to_z-of_z c.ranges.p, to_z-of_z c.ranges.q) at c.step-stepping.ensures in
    let f : SFits w32 k.result = search rules in
    both money_bytes 2 (λ x. refl) a.answer.now a.out.now (step_text a.plan.now (given_of a.days.now a.h a.f a.factors.now a.bounds.now a.values.now) a.today a.p a.q) u.result u.ensures e.0 e.1 k.result k.new.answer f k.ensures
