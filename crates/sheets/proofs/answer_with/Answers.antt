use Prim.Native.Nat.{◌-◌}
use borrow.Author.Rules.{rules}
use lib.ListN.{drop, take}
use lib.Seq.{length-take-le}
use mathlib.Core.Path.{◌∙◌, ap, subst, sym}
use mir.Facts.{to_z-of_z}
use mir.Syntax.{w64}
use mir.Val.{SFits}
use native.Mathlib.Omega.{arith}
use Rattle.language.specs.Text.Letters.{plan_form}
use Rattle.language.specs.Text.Reader.{text_as_read}
use Rattle.sheets.proofs.SheetReads.{answer_is, months_few, not_held, part_bounds, part_days, part_factors, part_values, plan_not_read, plan_part, plan_read, plan_refused, table_refused}
use Rattle.text.specs.ReadInto.{ReadInto}
use Rattle.text.specs.Refusals.{number_of}
use Rattle.sheets.proofs.answer_with.Goals as goal
use Rattle.sheets.proofs.answer_with.Goals.{Start}

figures : (s : Start) → SFits w64 s.args.sheet.h × SFits w64 s.args.sheet.f × SFits w64 s.args.sheet.p × SFits w64 s.args.sheet.q
figures s = (search rules, search rules, search rules, search rules)

pub slice_bounds-read_plan-count : goal.slice_bounds-read_plan-count
slice_bounds-read_plan-count c =
    let a = c.args in
    let w = c.requires.0 in
    omega (arith, (plan_part w).0)

pub slice_bounds-read_plan-start : goal.slice_bounds-read_plan-start
slice_bounds-read_plan-start c =
    let a = c.args in
    let w = c.requires.0 in
    let h = plan_part w in
    search rules

pub slice_bounds-read_plan-end : goal.slice_bounds-read_plan-end
slice_bounds-read_plan-end c =
    let a = c.args in
    let w = c.requires.0 in
    let h = (plan_part w).1 in
    search rules

pub slice_bounds-given-end : goal.slice_bounds-given-end
slice_bounds-given-end c =
    let a = c.args in
    let w = c.requires.0 in
    let t = sym c.fits.ensures ∙ c.if-fits.true in
    let h = part_days w t c.settings_of-n.ensures in
    search rules

pub slice_bounds-given-end-then-fits : goal.slice_bounds-given-end-then-fits
slice_bounds-given-end-then-fits c =
    let a = c.args in
    let w = c.requires.0 in
    let t = sym c.fits.ensures ∙ c.if-fits.true in
    let h = part_factors w t in
    search rules

pub slice_bounds-given-end-then-fits-2 : goal.slice_bounds-given-end-then-fits-2
slice_bounds-given-end-then-fits-2 c =
    let a = c.args in
    let w = c.requires.0 in
    let t = sym c.fits.ensures ∙ c.if-fits.true in
    let h = part_bounds w t in
    search rules

pub slice_bounds-given-end-then-fits-3 : goal.slice_bounds-given-end-then-fits-3
slice_bounds-given-end-then-fits-3 c =
    let a = c.args in
    let w = c.requires.0 in
    let t = sym c.fits.ensures ∙ c.if-fits.true in
    let h = part_values w t in
    search rules

pub answer-requires : goal.answer-requires
answer-requires c =
    let a = c.args in
    let w = c.requires.0 in
    let p = plan_read w _ _ (subst (ReadInto plan_form (text_as_read plan_form (take (a.sheet.to - a.sheet.from) (drop a.sheet.from a.input.now))) c.read_plan-reading.new.nodes) c.in-Ok.is c.read_plan-reading.ensures.is) in
    let t = sym c.fits.ensures ∙ c.if-fits.true in
    let e = length-take-le (a.sheet.factors - 0) a.lists.now.factors.now (omega (arith, part_factors w t)) in
    (record { plan = p.plan; standing = p.stands }, c.parties_ok-asked.ensures, omega (arith, e, c.requires.2 (months_few w t)), c.requires.3, omega (arith, e, c.requires.4 (months_few w t)))

pub shape_of-nodes-then-fits : goal.shape_of-nodes-then-fits
shape_of-nodes-then-fits c = c.answer.auto.nodes ∙ c.read_plan-reading.auto.nodes

pub returns-then-fits : goal.returns-then-fits
returns-then-fits c =
    let a = c.args in
    let w = c.requires.0 in
    let t = sym c.fits.ensures ∙ c.if-fits.true in
    let p = plan_read w _ _ (subst (ReadInto plan_form (text_as_read plan_form (take (a.sheet.to - a.sheet.from) (drop a.sheet.from a.input.now))) c.read_plan-reading.new.nodes) c.in-Ok.is c.read_plan-reading.ensures.is) in
    let g = figures (goal.at.returns-then-fits c).Start in
    let k = rw (to_z-of_z g.0, to_z-of_z g.1, to_z-of_z g.2, to_z-of_z g.3) at (c.answer.ensures p.plan p.stands) in
    let e = answer_is w t c.settings_of-n.ensures p.plan p.is a.out.now in
    (k.0 ∙ ap (λ o. o.buffer) e, k.1 ∙ ap (λ o. o.answer) e)

pub returns-else-fits : goal.returns-else-fits
returns-else-fits c =
    let a = c.args in
    let w = c.requires.0 in
    let p = plan_read w _ _ (subst (ReadInto plan_form (text_as_read plan_form (take (a.sheet.to - a.sheet.from) (drop a.sheet.from a.input.now))) c.read_plan-reading.new.nodes) c.in-Ok.is c.read_plan-reading.ensures.is) in
    let e = table_refused w (not_held w (sym c.fits.ensures ∙ c.if-fits.false)) p.plan p.is a.out.now in
    (c.refuse.ensures.0 ∙ ap (λ o. o.buffer) e, c.refuse.ensures.1 ∙ ap (λ o. o.answer) e)

pub returns-in-Err : goal.returns-in-Err
returns-in-Err c =
    let a = c.args in
    let w = c.requires.0 in
    let e = plan_refused w (number_of c.in-Err.unread) (plan_not_read w c.in-Err.unread (subst (ReadInto plan_form (text_as_read plan_form (take (a.sheet.to - a.sheet.from) (drop a.sheet.from a.input.now))) c.read_plan-reading.new.nodes) c.in-Err.is c.read_plan-reading.ensures.is)) a.out.now in
    (c.refuse-in-Err.ensures.0 ∙ ap (λ o. o.buffer) e, c.refuse-in-Err.ensures.1 ∙ ap (λ o. o.answer) e)
