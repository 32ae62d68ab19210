use mathlib.Core.Path.{◌∙◌, ap, sym}
use Rattle.payments.proofs.Admitted.{admitted, refusing}
use Rattle.payments.proofs.Placed.{fine, found, month_is, pair_is, pays_is, refused_is, rows_in, span_in, today_is}
use Rattle.payments.specs.Answers.{asked_ok}
use Rattle.rules.proofs.Filling.{standing_rows}
use Rattle.rules.specs.Accepting.{accepting}
use Rattle.rules.specs.Answers.{checking_answer}
use Rattle.tables.specs.Given.{given_in}
use Rattle.payments.specs.Answers.{paying_answer}
use Rattle.integers.proofs.Passed.{handed_up}
use Rattle.payments.proofs.paid.Goals as goal

pub place_rows-requires : goal.place_rows-requires
place_rows-requires c =
    let a = c.args in
    let k = c.accept in
    let g = c.in_ok-accept.was in
    let ok = asked_ok (given_in a.given.now) a.today.0 a.pair.p a.pair.q a.month.0 in
    let d = admitted (given_in a.given.now) a.today.0 c.requires.0.plan ok _ (ap checking_answer (sym g) ∙ k.ensures.answer c.requires.0.plan c.requires.0.standing ∙ ap (λ b. accepting (given_in a.given.now) a.today.0 b c.requires.0.plan) c.requires.1) in
    let st = k.ensures.filled _ g c.requires.0.plan c.requires.0.standing in
    (standing_rows st, span_in a.given.now.days.now a.given.now.span.h a.given.now.span.f a.given.now.factors.now a.given.now.bounds.now a.given.now.values.now a.today.0 a.pair.p a.pair.q a.month.0 c.requires.0.plan a.count a.nodes.now k.new.nodes c.requires.0.standing d st, rows_in a.given.now.days.now a.given.now.span.h a.given.now.span.f a.given.now.factors.now a.given.now.bounds.now a.given.now.values.now a.today.0 a.pair.p a.pair.q a.month.0 c.requires.0.plan a.count a.nodes.now k.new.nodes c.requires.0.standing d st)

pub plan_pays-requires : goal.plan_pays-requires
plan_pays-requires c =
    let a = c.args in
    let k = c.accept in
    let g = c.in_ok-accept.was in
    let ok = asked_ok (given_in a.given.now) a.today.0 a.pair.p a.pair.q a.month.0 in
    let d = admitted (given_in a.given.now) a.today.0 c.requires.0.plan ok _ (ap checking_answer (sym g) ∙ k.ensures.answer c.requires.0.plan c.requires.0.standing ∙ ap (λ b. accepting (given_in a.given.now) a.today.0 b c.requires.0.plan) c.requires.1) in
    let st = k.ensures.filled _ g c.requires.0.plan c.requires.0.standing in
    let w = c.place_rows in
    (today_is a.given.now.days.now a.given.now.span.h a.given.now.span.f a.given.now.factors.now a.given.now.bounds.now a.given.now.values.now a.today.0 a.pair.p a.pair.q a.month.0 c.requires.0.plan a.count a.nodes.now k.new.nodes c.requires.0.standing d st, month_is a.given.now.days.now a.given.now.span.h a.given.now.span.f a.given.now.factors.now a.given.now.bounds.now a.given.now.values.now a.today.0 a.pair.p a.pair.q a.month.0 c.requires.0.plan a.count a.nodes.now k.new.nodes c.requires.0.standing d st, pair_is a.given.now.days.now a.given.now.span.h a.given.now.span.f a.given.now.factors.now a.given.now.bounds.now a.given.now.values.now a.today.0 a.pair.p a.pair.q a.month.0 c.requires.0.plan a.count a.nodes.now k.new.nodes c.requires.0.standing d st, (found a.given.now.days.now a.given.now.span.h a.given.now.span.f a.given.now.factors.now a.given.now.bounds.now a.given.now.values.now a.today.0 a.pair.p a.pair.q a.month.0 c.requires.0.plan a.count a.nodes.now k.new.nodes c.requires.0.standing d st w.new.nodes w.ensures).safe, fine a.given.now.days.now a.given.now.span.h a.given.now.span.f a.given.now.factors.now a.given.now.bounds.now a.given.now.values.now a.today.0 a.pair.p a.pair.q a.month.0 c.requires.0.plan a.count a.nodes.now k.new.nodes c.requires.0.standing d st w.new.nodes w.ensures)

pub returns : goal.returns
returns c x y =
    let a = c.args in
    let k = c.accept in
    let g = c.in_ok-accept.was in
    let ok = asked_ok (given_in a.given.now) a.today.0 a.pair.p a.pair.q a.month.0 in
    let d = admitted (given_in a.given.now) a.today.0 x ok _ (ap checking_answer (sym g) ∙ k.ensures.answer x y ∙ ap (λ b. accepting (given_in a.given.now) a.today.0 b x) c.requires.1) in
    let st = k.ensures.filled _ g x y in
    let w = c.place_rows in
    pays_is a.given.now.days.now a.given.now.span.h a.given.now.span.f a.given.now.factors.now a.given.now.bounds.now a.given.now.values.now a.today.0 a.pair.p a.pair.q a.month.0 x a.count a.nodes.now k.new.nodes y d st w.new.nodes w.ensures c.plan_pays.result c.plan_pays.ensures

pub returns-in_err-accept : goal.returns-in_err-accept
returns-in_err-accept c x y =
    let a = c.args in
    let k = c.accept in
    let ok = asked_ok (given_in a.given.now) a.today.0 a.pair.p a.pair.q a.month.0 in
    ap paying_answer (handed_up _ c.from_residual.ensures.1) ∙ refused_is (given_in a.given.now) a.today.0 a.pair.p a.pair.q a.month.0 x _
    (refusing (given_in a.given.now) a.today.0 x ok _ (ap checking_answer (sym c.in_err-accept.was) ∙ k.ensures.answer x y ∙ ap (λ b. accepting (given_in a.given.now) a.today.0 b x) c.requires.1))
