use lib.IntN.{pos}
use mathlib.Core.Path.{◌∙◌, subst, sym}
use Rattle.language.specs.Calls.{pair_ok}
use Rattle.language.specs.Text.Number.{between}
use Rattle.language.proofs.Truth.{and_e}
use Rattle.payoff.proofs.Evaluations as evaluations
use Rattle.payoff.proofs.TableFacts.{month_known, pair_known, table_pays, table_read}
use Rattle.settling.specs.Settle.{SettleIs}
use Rattle.tables.specs.Given.{given_in}
use Rattle.payoff.specs.Evaluating.{EvaluateIs}
use Rattle.integers.proofs.Passed.{handed_up}
use Rattle.payoff.proofs.evaluate_nodes.Goals as goal

pub settle_open-requires : goal.settle_open-requires
settle_open-requires c =
    let e = sym c.settings_ok.ensures ∙ c.if-not-settings_ok.false in
    (evaluations.standing_rows c.requires.0.standing, e, evaluations.standing_in c.requires.0.standing, c.requires.1)

pub worth_of-requires : goal.worth_of-requires
worth_of-requires c =
    let a = c.args in
    let t = sym c.table_ok.ensures ∙ c.if-not-table_ok.false in
    let m = sym c.caller_ok.ensures ∙ c.if-not-caller_ok.false in
    let e = sym c.settings_ok.ensures ∙ c.if-not-settings_ok.false in
    let u = subst (SettleIs a.given.now.days.now a.count a.nodes.now c.settle_open.new.nodes) c.in_ok-settle_open.was c.settle_open.ensures in
    let w = evaluations.walked a.given.now.days.now a.given.now.span.h a.given.now.span.f a.given.now.factors.now a.given.now.bounds.now a.given.now.values.now a.pair.p a.pair.q a.month.0 a.count a.nodes.now t m e u c.requires.0 in
    let b = and_e (between (pos 0) a.given.now.span.f a.month.0) (pair_ok a.pair.p a.pair.q) m in
    (table_read a.given.now.span.h a.given.now.span.f a.given.now.factors.now a.given.now.bounds.now a.given.now.values.now t, table_pays a.given.now.span.h a.given.now.span.f a.given.now.factors.now a.given.now.bounds.now a.given.now.values.now t, (month_known a.given.now.span.f a.month.0 b.0).0, pair_known a.pair.p a.pair.q b.1, w.0, w.1, w.2)

pub returns : goal.returns
returns c =
    let a = c.args in
    let t = sym c.table_ok.ensures ∙ c.if-not-table_ok.false in
    let m = sym c.caller_ok.ensures ∙ c.if-not-caller_ok.false in
    let e = sym c.settings_ok.ensures ∙ c.if-not-settings_ok.false in
    let u = subst (SettleIs a.given.now.days.now a.count a.nodes.now c.settle_open.new.nodes) c.in_ok-settle_open.was c.settle_open.ensures in
    evaluations.valued a.given.now.days.now a.given.now.span.h a.given.now.span.f a.given.now.factors.now a.given.now.bounds.now a.given.now.values.now a.pair.p a.pair.q a.month.0 a.count a.nodes.now t m e u c.worth_of.ensures

pub returns-in_err-settle_open : goal.returns-in_err-settle_open
returns-in_err-settle_open c =
    let a = c.args in
    let t = sym c.table_ok.ensures ∙ c.if-not-table_ok.false in
    let m = sym c.caller_ok.ensures ∙ c.if-not-caller_ok.false in
    let e = sym c.settings_ok.ensures ∙ c.if-not-settings_ok.false in
    let u = subst (SettleIs a.given.now.days.now a.count a.nodes.now c.settle_open.new.nodes) c.in_err-settle_open.was c.settle_open.ensures in
    subst (EvaluateIs (given_in a.given.now) a.pair.p a.pair.q a.month.0 a.count a.nodes.now) (sym (handed_up _ c.from_residual.ensures.1)) (evaluations.unset a.given.now.days.now a.given.now.span.h a.given.now.span.f a.given.now.factors.now a.given.now.bounds.now a.given.now.values.now a.pair.p a.pair.q a.month.0 a.count a.nodes.now t m e u)

pub returns-then-not-settings_ok : goal.returns-then-not-settings_ok
returns-then-not-settings_ok c =
    let a = c.args in
    let t = sym c.table_ok.ensures ∙ c.if-not-table_ok.false in
    let m = sym c.caller_ok.ensures ∙ c.if-not-caller_ok.false in
    evaluations.bad_settings a.given.now.days.now a.given.now.span.h a.given.now.span.f a.given.now.factors.now a.given.now.bounds.now a.given.now.values.now a.pair.p a.pair.q a.month.0 a.count a.nodes.now t m (sym c.settings_ok.ensures ∙ c.if-not-settings_ok.true)

pub returns-then-not-caller_ok : goal.returns-then-not-caller_ok
returns-then-not-caller_ok c =
    let a = c.args in
    let t = sym c.table_ok.ensures ∙ c.if-not-table_ok.false in
    evaluations.no_caller a.given.now.days.now a.given.now.span.h a.given.now.span.f a.given.now.factors.now a.given.now.bounds.now a.given.now.values.now a.pair.p a.pair.q a.month.0 a.count a.nodes.now t (sym c.caller_ok.ensures ∙ c.if-not-caller_ok.true)

pub returns-then-not-table_ok : goal.returns-then-not-table_ok
returns-then-not-table_ok c =
    let a = c.args in
    evaluations.no_table a.given.now.days.now a.given.now.span.h a.given.now.span.f a.given.now.factors.now a.given.now.bounds.now a.given.now.values.now a.pair.p a.pair.q a.month.0 a.count a.nodes.now (sym c.table_ok.ensures ∙ c.if-not-table_ok.true)
