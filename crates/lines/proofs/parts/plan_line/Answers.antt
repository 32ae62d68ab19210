use Prim.Native.Nat.{◌+◌, ◌<◌, ◌≤◌}
use borrow.Author.Rules.{rules}
use lib.ListN.{length}
use mathlib.Core.Path.{◌∙◌, ◌≡◌, sym}
use native.Mathlib.Omega.{arith}
use Rattle.lines.proofs.LineParts.{line_inside, line_is, no_first, no_plan, plan_fault, plan_is, plan_text}
use Rattle.lines.proofs.parts.plan_line.Goals as goal

pub returns-then-input-eq0 : goal.returns-then-input-eq0
returns-then-input-eq0 c = no_first _ c.if-input-eq0.true

pub slice_bounds-has_word-end : goal.slice_bounds-has_word-end
slice_bounds-has_word-end c =
    let m : 0 ≤ length c.args.input.now = omega (arith, c.if-input-eq0.false) in
    let b = line_inside c.args.input.now 0 m c.line_end-end.ensures in
    search rules

pub overflow_add-result : goal.overflow_add-result
overflow_add-result c =
    let m : 0 ≤ length c.args.input.now = omega (arith, c.if-input-eq0.false) in
    let b = line_inside c.args.input.now 0 m c.line_end-end.ensures in
    record { fits = omega (arith, b, c.requires) }

pub overflow_add-result-else-end-ge5 : goal.overflow_add-result-else-end-ge5
overflow_add-result-else-end-ge5 c =
    let m : 0 ≤ length c.args.input.now = omega (arith, c.if-input-eq0.false) in
    let b = line_inside c.args.input.now 0 m c.line_end-end.ensures in
    record { fits = omega (arith, b, c.requires) }

pub returns-then-end-ge5 : goal.returns-then-end-ge5
returns-then-end-ge5 c =
    let l : 0 < length c.args.input.now = omega (arith, c.if-input-eq0.false) in
    let m : 0 ≤ length c.args.input.now = omega arith in
    let b = line_inside c.args.input.now 0 m c.line_end-end.ensures in
    let k = line_is c.args.input.now 0 m c.line_end-end.ensures l in
    plan_is _ k (sym c.if-fits.true ∙ c.has_word-fits.ensures) 5 c.line_end-end.result c.if-end-ge5.true b (plan_text _ _ c.if-end-ge5.true b)

pub returns-else-end-ge5 : goal.returns-else-end-ge5
returns-else-end-ge5 c =
    let l : 0 < length c.args.input.now = omega (arith, c.if-input-eq0.false) in
    let m : 0 ≤ length c.args.input.now = omega arith in
    let b = line_inside c.args.input.now 0 m c.line_end-end.ensures in
    let k = line_is c.args.input.now 0 m c.line_end-end.ensures l in
    plan_is _ k (sym c.if-fits.true ∙ c.has_word-fits.ensures) c.line_end-end.result c.line_end-end.result (omega arith) b (no_plan _ _ (omega (arith, c.if-end-ge5.false)) b)

pub returns-else-fits : goal.returns-else-fits
returns-else-fits c =
    let l : 0 < length c.args.input.now = omega (arith, c.if-input-eq0.false) in
    let m : 0 ≤ length c.args.input.now = omega arith in
    let b = line_inside c.args.input.now 0 m c.line_end-end.ensures in
    let k = line_is c.args.input.now 0 m c.line_end-end.ensures l in
    plan_fault _ k (sym c.if-fits.false ∙ c.has_word-fits.ensures)
