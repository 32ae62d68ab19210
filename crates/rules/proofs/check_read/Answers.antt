use mathlib.Core.Path.{◌∙◌, ap₂, sym}
use lib.IntN.{pos}
use mir.Facts.{to_z-of_z}
use mir.Syntax.{w64}
use mir.Val.{SFits}
use native.Mathlib.Omega.{arith}
use Rattle.language.proofs.Truth.{and_e}
use Rattle.language.specs.Text.Number.{between}
use borrow.Author.Rules.{rules}
use Rattle.rules.proofs.check_read.Goals as goal

pub measure_read-requires : goal.measure_read-requires
measure_read-requires c =
    let a = c.args in
    let f : SFits w64 a.given.now.span.f = search rules in
    let d : SFits w64 a.today.0 = search rules in
    let t = and_e _ _ c.if-span_ok-month_ok.true in
    let u = and_e _ _ t.0 in (record { short = omega (arith, c.if-text-le1000.true) }, sym c.settings_ok.ensures ∙ t.1, sym c.span_ok.ensures ∙ u.0, sym (c.month_ok.ensures ∙ ap₂ (λ y z. between (pos 0) y z) (to_z-of_z f) (to_z-of_z d)) ∙ u.1)
