use lib.Dec.{ltb}
use lib.IntN.{◌+ℤ◌, pos}
use lib.ListN.{drop, length}
use mathlib.Core.Bool.{◌&&◌}
use mathlib.Core.Path.{◌∙◌, ◌≡◌, ap, ap₂, refl, subst, sym}
use borrow.Author.Rules.{rules}
use mir.Facts.{to_z-of_z}
use mir.Syntax.{w64}
use mir.Val.{SFits}
use native.Mathlib.Omega.{arith}
use Rattle.integers.specs.Equal.{eq_z}
use Rattle.language.specs.Sheet.{index_lines}
use Rattle.lines.proofs.SheetLaws.{unended}
use Rattle.lines.proofs.SheetParts.{count_fault, days_word, factors_word, fifth_fault, first_fault, fourth_fault, pair_word, second_fault, sheet_read, sixth_fault, span_word, third_fault}
use Rattle.integers.proofs.Laws.{sfits64}
use Rattle.lines.specs.Indexes.{LabelsAre, LabelsAt}
use Rattle.lines.specs.Lines.{lines_in}
use Rattle.lines.specs.Parts.{ListedAre, PairIs, PlanIs}
use Rattle.lines.proofs.read_sheet.Goals as goal

pub returns-then-not-whole : goal.returns-then-not-whole
returns-then-not-whole c = unended _ (sym c.if-not-whole.true ∙ c.ended-whole.ensures)

pub returns-in_err-plan : goal.returns-in_err-plan
returns-in_err-plan c =
    let w = sym c.if-not-whole.false ∙ c.ended-whole.ensures in
    rw c.from_residual.ensures (first_fault _ w (c.in_err-plan.ensures))

pub returns-in_err-settings : goal.returns-in_err-settings
returns-in_err-settings c =
    let w = sym c.if-not-whole.false ∙ c.ended-whole.ensures in
    rw c.from_residual-in_err-settings.ensures (second_fault _ w (c.in_ok-plan.ensures) (c.in_err-settings.ensures))

pub returns-in_err-span : goal.returns-in_err-span
returns-in_err-span c =
    let w = sym c.if-not-whole.false ∙ c.ended-whole.ensures in
    rw c.from_residual-in_err-span.ensures (third_fault _ w (c.in_ok-plan.ensures) (c.in_ok-settings.ensures) (c.in_err-span.ensures))

pub returns-in_err-discounts : goal.returns-in_err-discounts
returns-in_err-discounts c =
    let w = sym c.if-not-whole.false ∙ c.ended-whole.ensures in
    rw c.from_residual-in_err-discounts.ensures (fourth_fault _ w (c.in_ok-plan.ensures) (c.in_ok-settings.ensures) (c.in_ok-span.ensures) (c.in_err-discounts.ensures))

pub returns-then-not-fits : goal.returns-then-not-fits
returns-then-not-fits c =
    let w = sym c.if-not-whole.false ∙ c.ended-whole.ensures in
    let gh : SFits w64 c.in_ok-span.span.first = sfits64 9_000_000_000_000 (c.in_ok-span.ensures).first_small tt in
    let gf : SFits w64 c.in_ok-span.span.second = sfits64 9_000_000_000_000 (c.in_ok-span.ensures).second_small tt in
    count_fault _ w (c.in_ok-plan.ensures) (c.in_ok-settings.ensures) (c.in_ok-span.ensures) (c.in_ok-discounts.ensures) (sym (ap (λ z. ltb 0 c.in_ok-discounts.discounts.count && eq_z z (pos c.in_ok-discounts.discounts.count)) (c.factor_months.ensures ∙ ap (λ z. z +ℤ pos 1) (to_z-of_z gf))) ∙ sym c.fits.ensures ∙ c.if-not-fits.true)

pub returns-in_err-pair : goal.returns-in_err-pair
returns-in_err-pair c =
    let w = sym c.if-not-whole.false ∙ c.ended-whole.ensures in
    let gh : SFits w64 c.in_ok-span.span.first = sfits64 9_000_000_000_000 (c.in_ok-span.ensures).first_small tt in
    let gf : SFits w64 c.in_ok-span.span.second = sfits64 9_000_000_000_000 (c.in_ok-span.ensures).second_small tt in
    rw c.from_residual-in_err-pair.ensures (fifth_fault _ w (c.in_ok-plan.ensures) (c.in_ok-settings.ensures) (c.in_ok-span.ensures) (c.in_ok-discounts.ensures) (sym (ap (λ z. ltb 0 c.in_ok-discounts.discounts.count && eq_z z (pos c.in_ok-discounts.discounts.count)) (c.factor_months.ensures ∙ ap (λ z. z +ℤ pos 1) (to_z-of_z gf))) ∙ sym c.fits.ensures ∙ c.if-not-fits.false) (c.in_err-pair.ensures))

pub returns-in_err-labels : goal.returns-in_err-labels
returns-in_err-labels c =
    let w = sym c.if-not-whole.false ∙ c.ended-whole.ensures in
    let gh : SFits w64 c.in_ok-span.span.first = sfits64 9_000_000_000_000 (c.in_ok-span.ensures).first_small tt in
    let gf : SFits w64 c.in_ok-span.span.second = sfits64 9_000_000_000_000 (c.in_ok-span.ensures).second_small tt in
    rw c.from_residual-in_err-labels.ensures (sixth_fault _ w (c.in_ok-plan.ensures) (c.in_ok-settings.ensures) (c.in_ok-span.ensures) (c.in_ok-discounts.ensures) (sym (ap (λ z. ltb 0 c.in_ok-discounts.discounts.count && eq_z z (pos c.in_ok-discounts.discounts.count)) (c.factor_months.ensures ∙ ap (λ z. z +ℤ pos 1) (to_z-of_z gf))) ∙ sym c.fits.ensures ∙ c.if-not-fits.false) (c.in_ok-pair.ensures) (ap (λ z. index_lines 0 z (lines_in (drop c.in_ok-pair.pair.next c.args.input.now))) (sym (c.value_months-months.ensures ∙ ap₂ (λ a b. (a +ℤ b) +ℤ pos 1) (to_z-of_z gh) (to_z-of_z gf))) ∙ c.in_err-labels.ensures))

pub returns : goal.returns
returns c =
    let w = sym c.if-not-whole.false ∙ c.ended-whole.ensures in
    let gh : SFits w64 c.in_ok-span.span.first = sfits64 9_000_000_000_000 (c.in_ok-span.ensures).first_small tt in
    let gf : SFits w64 c.in_ok-span.span.second = sfits64 9_000_000_000_000 (c.in_ok-span.ensures).second_small tt in
    let il = subst (λ z. LabelsAt c.args.input.now c.in_ok-pair.pair.next z c.read_indexes.new.bounds c.read_indexes.new.values c.in_ok-labels.labels.labels c.in_ok-labels.labels.values) (c.value_months-months.ensures ∙ ap₂ (λ a b. (a +ℤ b) +ℤ pos 1) (to_z-of_z gh) (to_z-of_z gf)) (c.in_ok-labels.ensures) in
    let ed : length c.number_line.new.into ≡ length c.args.days.now = c.number_line.auto.into in
    let ef : length c.number_line-2.new.into ≡ length c.args.factors.now = c.number_line-2.auto.into in
    let gp : SFits w64 c.in_ok-pair.pair.first = sfits64 9_000_000_000_000 (c.in_ok-pair.ensures).first_small tt in
    let gq : SFits w64 c.in_ok-pair.pair.second = sfits64 9_000_000_000_000 (c.in_ok-pair.ensures).second_small tt in
    sheet_read _ w (c.in_ok-plan.ensures) (c.in_ok-settings.ensures) (c.in_ok-span.ensures) (c.in_ok-discounts.ensures) (sym (ap (λ z. ltb 0 c.in_ok-discounts.discounts.count && eq_z z (pos c.in_ok-discounts.discounts.count)) (c.factor_months.ensures ∙ ap (λ z. z +ℤ pos 1) (to_z-of_z gf))) ∙ sym c.fits.ensures ∙ c.if-not-fits.false) (c.in_ok-pair.ensures) il ed ef _ refl refl refl (to_z-of_z gh) (to_z-of_z gf) refl (to_z-of_z gp) (to_z-of_z gq) refl refl
