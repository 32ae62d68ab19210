use borrow.Author.Rules.{rules}
use lib.IntN.{pos}
use mathlib.Core.Bool.{◌&&◌}
use mathlib.Core.Path.{◌∙◌, ap, ap₂, subst, sym}
use mir.Facts.{to_z-of_z}
use mir.Syntax.{w64}
use mir.Val.{SFits}
use Rattle.language.specs.Text.Number.{between}
use Rattle.nodes.specs.Table.{nat_of}
use Rattle.rules.proofs.Accepting.{accept_is, accept_kept, bad_settings, in_table, measure_ready, no_caller, no_table, refused_is, unset}
use Rattle.rules.proofs.Filling.{set_is, standing_ready, standing_rows, standing_skips}
use Rattle.rules.specs.Quick.{QuickIs}
use Rattle.tables.proofs.Spans.{both_true}
use Rattle.tables.specs.Fill.{FillIs}
use Rattle.text.specs.declared.Refusal.TheVariants.{Caller, Settings, Table}
use Rattle.tables.specs.Given.{given_in}
use Rattle.integers.proofs.Passed.{handed_up}
use Rattle.rules.specs.Accepting.{AcceptIs}
use Rattle.rules.proofs.accept.Goals as goal

pub quick_measure-requires : goal.quick_measure-requires
quick_measure-requires c =
    let a = c.args in
    let f : SFits w64 a.given.now.span.f = search rules in
    let d : SFits w64 a.today.0 = search rules in
    let m = sym (ap (λ b. b && a.caller) (c.month_ok.ensures ∙ ap₂ (λ y z. between (pos 0) y z) (to_z-of_z f) (to_z-of_z d))) ∙ c.if-not-month_ok-caller.false in
    let t = sym c.table_ok.ensures ∙ c.if-not-table_ok.false in
    (standing_ready c.requires.standing, in_table a.given.now.days.now a.given.now.span.h a.given.now.span.f a.given.now.factors.now a.given.now.bounds.now a.given.now.values.now a.today.0 a.caller c.requires.plan t (both_true _ a.caller m).0)

pub returns-in-Some : goal.returns-in-Some
returns-in-Some c =
    let a = c.args in
    let f : SFits w64 a.given.now.span.f = search rules in
    let d : SFits w64 a.today.0 = search rules in
    let m = sym (ap (λ b. b && a.caller) (c.month_ok.ensures ∙ ap₂ (λ y z. between (pos 0) y z) (to_z-of_z f) (to_z-of_z d))) ∙ c.if-not-month_ok-caller.false in
    let t = sym c.table_ok.ensures ∙ c.if-not-table_ok.false in
    let e = sym c.settings_ok.ensures ∙ c.if-not-settings_ok.false in
    accept_kept a.given.now.days.now a.given.now.span.h a.given.now.span.f a.given.now.factors.now a.given.now.bounds.now a.given.now.values.now a.today.0 a.caller a.count a.nodes.now t m e _
    (subst (QuickIs a.given.now.span.h a.given.now.span.f a.given.now.bounds.now (nat_of a.today.0) a.nodes.now) c.in-Some.is c.quick_measure.ensures)

pub fill_rows-requires : goal.fill_rows-requires
fill_rows-requires c =
    let a = c.args in
    (standing_rows c.requires.standing, sym c.settings_ok.ensures ∙ c.if-not-settings_ok.false, standing_skips c.requires.standing)

pub measure-requires : goal.measure-requires
measure-requires c =
    let a = c.args in
    let f : SFits w64 a.given.now.span.f = search rules in
    let d : SFits w64 a.today.0 = search rules in
    let m = sym (ap (λ b. b && a.caller) (c.month_ok.ensures ∙ ap₂ (λ y z. between (pos 0) y z) (to_z-of_z f) (to_z-of_z d))) ∙ c.if-not-month_ok-caller.false in
    let t = sym c.table_ok.ensures ∙ c.if-not-table_ok.false in
    let e = sym c.settings_ok.ensures ∙ c.if-not-settings_ok.false in
    let u = subst (FillIs a.given.now.days.now a.count a.nodes.now c.fill_rows.new.nodes) c.in_ok-fill_rows.was c.fill_rows.ensures in (
      measure_ready a.given.now.days.now a.given.now.span.h a.given.now.span.f a.given.now.factors.now a.given.now.bounds.now a.given.now.values.now a.today.0 a.caller a.count a.nodes.now c.fill_rows.new.nodes t m e u c.requires,
      in_table a.given.now.days.now a.given.now.span.h a.given.now.span.f a.given.now.factors.now a.given.now.bounds.now a.given.now.values.now a.today.0 a.caller c.requires.plan t (both_true _ a.caller m).0,
    )

pub returns : goal.returns
returns c =
    let a = c.args in
    let f : SFits w64 a.given.now.span.f = search rules in
    let d : SFits w64 a.today.0 = search rules in
    let m = sym (ap (λ b. b && a.caller) (c.month_ok.ensures ∙ ap₂ (λ y z. between (pos 0) y z) (to_z-of_z f) (to_z-of_z d))) ∙ c.if-not-month_ok-caller.false in
    let t = sym c.table_ok.ensures ∙ c.if-not-table_ok.false in
    let e = sym c.settings_ok.ensures ∙ c.if-not-settings_ok.false in
    let u = subst (FillIs a.given.now.days.now a.count a.nodes.now c.fill_rows.new.nodes) c.in_ok-fill_rows.was c.fill_rows.ensures in
    accept_is a.given.now.days.now a.given.now.span.h a.given.now.span.f a.given.now.factors.now a.given.now.bounds.now a.given.now.values.now a.today.0 a.caller a.count a.nodes.now c.fill_rows.new.nodes t m e u
    c.measure.ensures.0
    c.measure.ensures.1

pub returns-in_err-fill_rows : goal.returns-in_err-fill_rows
returns-in_err-fill_rows c =
    let a = c.args in
    let f : SFits w64 a.given.now.span.f = search rules in
    let d : SFits w64 a.today.0 = search rules in
    let m = sym (ap (λ b. b && a.caller) (c.month_ok.ensures ∙ ap₂ (λ y z. between (pos 0) y z) (to_z-of_z f) (to_z-of_z d))) ∙ c.if-not-month_ok-caller.false in
    let t = sym c.table_ok.ensures ∙ c.if-not-table_ok.false in
    let e = sym c.settings_ok.ensures ∙ c.if-not-settings_ok.false in
    let u = subst (FillIs a.given.now.days.now a.count a.nodes.now c.fill_rows.new.nodes) c.in_err-fill_rows.was c.fill_rows.ensures in
    subst (AcceptIs (given_in a.given.now) a.today.0 a.caller a.count a.nodes.now c.fill_rows.new.nodes) (sym (handed_up _ c.from_residual.ensures.1))
    (refused_is (given_in a.given.now) a.today.0 a.caller a.count a.nodes.now c.fill_rows.new.nodes Settings (λ x y. unset a.given.now.days.now a.given.now.span.h a.given.now.span.f a.given.now.factors.now a.given.now.bounds.now a.given.now.values.now a.today.0 a.caller x t m e (sym (set_is y a.given.now.days.now) ∙ u)))

pub returns-then-not-settings_ok : goal.returns-then-not-settings_ok
returns-then-not-settings_ok c =
    let a = c.args in
    let f : SFits w64 a.given.now.span.f = search rules in
    let d : SFits w64 a.today.0 = search rules in
    let m = sym (ap (λ b. b && a.caller) (c.month_ok.ensures ∙ ap₂ (λ y z. between (pos 0) y z) (to_z-of_z f) (to_z-of_z d))) ∙ c.if-not-month_ok-caller.false in
    let t = sym c.table_ok.ensures ∙ c.if-not-table_ok.false in
    refused_is (given_in a.given.now) a.today.0 a.caller a.count a.nodes.now a.nodes.now Settings (λ x y. bad_settings a.given.now.days.now a.given.now.span.h a.given.now.span.f a.given.now.factors.now a.given.now.bounds.now a.given.now.values.now a.today.0 a.caller x t m (sym c.settings_ok.ensures ∙ c.if-not-settings_ok.true))

pub returns-then-not-month_ok-caller : goal.returns-then-not-month_ok-caller
returns-then-not-month_ok-caller c =
    let a = c.args in
    let f : SFits w64 a.given.now.span.f = search rules in
    let d : SFits w64 a.today.0 = search rules in
    let m = sym (ap (λ b. b && a.caller) (c.month_ok.ensures ∙ ap₂ (λ y z. between (pos 0) y z) (to_z-of_z f) (to_z-of_z d))) ∙ c.if-not-month_ok-caller.true in
    let t = sym c.table_ok.ensures ∙ c.if-not-table_ok.false in
    refused_is (given_in a.given.now) a.today.0 a.caller a.count a.nodes.now a.nodes.now Caller (λ x y. no_caller a.given.now.days.now a.given.now.span.h a.given.now.span.f a.given.now.factors.now a.given.now.bounds.now a.given.now.values.now a.today.0 a.caller x t m)

pub returns-then-not-table_ok : goal.returns-then-not-table_ok
returns-then-not-table_ok c =
    let a = c.args in
    refused_is (given_in a.given.now) a.today.0 a.caller a.count a.nodes.now a.nodes.now Table (λ x y. no_table a.given.now.days.now a.given.now.span.h a.given.now.span.f a.given.now.factors.now a.given.now.bounds.now a.given.now.values.now a.today.0 a.caller x (sym c.table_ok.ensures ∙ c.if-not-table_ok.true))
