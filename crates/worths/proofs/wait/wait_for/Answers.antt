use borrow.Author.Rules.{rules}
use mathlib.Core.Path.{refl}
use mir.Syntax.{w64}
use mir.Val.{SFits}
use native.Mathlib.Omega.{arith}
use Rattle.amounts.proofs.FourMonths.{few_small}
use Rattle.worths.proofs.FourWaits as fours
use Rattle.worths.proofs.WaitLoop as waiting
use Rattle.worths.proofs.wait.wait_for.Goals as goal

pub later-last-requires : goal.later-last-requires
later-last-requires c =
    let p = c.requires in
    (waiting.small_month _ p.0.first_known (omega (arith, p.0.within)), waiting.small_month _ p.0.delay_known (omega (arith, p.0.within)))

pub loop-next-init : goal.loop-next-init
loop-next-init c = waiting.start _ _ _ _ c.requires.0 c.later-last.ensures

pub later-next-requires : goal.later-next-requires
later-next-requires c =
    let p = c.requires in
    (waiting.month_small _ _ _ _ p.0 c.later-last.ensures _ c.loop-next.invariant, few_small 4 (omega arith))

pub between-requires : goal.between-requires
between-requires c =
    let p = c.requires in
    let e = c.later-last.ensures in
    let i = c.loop-next.invariant in
    fours.rest_small _ _ _ _ p.0 e _ i _ refl

pub wait_singly-requires : goal.wait_singly-requires
wait_singly-requires c =
    let p = c.requires in
    let e = c.later-last.ensures in
    let i = c.loop-next.invariant in
    (fours.rest_months _ _ _ _ p.0 e _ i _ c.between.ensures, p.1, p.2)

pub tests-t-requires : goal.tests-t-requires
tests-t-requires c =
    let p = c.requires in
    let e = c.later-last.ensures in
    let i = c.loop-next.invariant in
    let fl : SFits w64 c.later-last.result.0 = search rules in
    let fn : SFits w64 c.later-next.result.0 = search rules in
    (fours.four_waited _ _ _ _ p.0 e _ i _ c.later-next.ensures fl fn c.if-last-next.false, p.1, p.2)

pub first_held-k-requires : goal.first_held-k-requires
first_held-k-requires c = tt

pub later-requires : goal.later-requires
later-requires c =
    let p = c.requires in
    let e = c.later-last.ensures in
    let i = c.loop-next.invariant in
    let fl : SFits w64 c.later-last.result.0 = search rules in
    let fn : SFits w64 c.later-next.result.0 = search rules in
    let fk : SFits w64 c.first_held-k.result.0 = search rules in
    (waiting.month_small _ _ _ _ p.0 e _ i, fours.first_small _ _ _ _ p.0 e _ i _ c.later-next.ensures fl fn c.if-last-next.false _ (c.tests-t.ensures c.if-t.true) _ c.first_held-k.ensures fk c.if-k-lt4.true)

pub loop-next-smaller : goal.loop-next-smaller
loop-next-smaller c =
    let p = c.requires in
    let e = c.later-last.ensures in
    let i = c.loop-next.invariant in
    let fl : SFits w64 c.later-last.result.0 = search rules in
    let fn : SFits w64 c.later-next.result.0 = search rules in
    fours.falls _ _ _ _ p.0 e _ i _ c.later-next.ensures fl fn c.if-last-next.false

pub loop-next-preserved : goal.loop-next-preserved
loop-next-preserved c =
    let p = c.requires in
    let e = c.later-last.ensures in
    let i = c.loop-next.invariant in
    let fl : SFits w64 c.later-last.result.0 = search rules in
    let fn : SFits w64 c.later-next.result.0 = search rules in
    let fk : SFits w64 c.first_held-k.result.0 = search rules in
    fours.again _ _ _ _ p.0 e _ i _ c.later-next.ensures fl fn c.if-last-next.false _ (c.tests-t.ensures c.if-t.true) _ c.first_held-k.ensures fk c.if-k-lt4.false

pub between-requires-else-t : goal.between-requires-else-t
between-requires-else-t c =
    let p = c.requires in
    let e = c.later-last.ensures in
    let i = c.loop-next.invariant in
    fours.rest_small _ _ _ _ p.0 e _ i _ refl

pub wait_singly-requires-else-t : goal.wait_singly-requires-else-t
wait_singly-requires-else-t c =
    let p = c.requires in
    let e = c.later-last.ensures in
    let i = c.loop-next.invariant in
    (fours.rest_months _ _ _ _ p.0 e _ i _ c.between-else-t.ensures, p.1, p.2)

pub returns-then-last-next : goal.returns-then-last-next
returns-then-last-next c =
    let p = c.requires in
    let e = c.later-last.ensures in
    let i = c.loop-next.invariant in
    let r = fours.rest_waits _ _ _ _ p.0 e _ i _ c.between.ensures c.wait_singly.result (c.wait_singly.ensures.is, c.wait_singly.ensures.known) in
    record { is = r.0; known = r.1 }

pub returns-then-k-lt4 : goal.returns-then-k-lt4
returns-then-k-lt4 c =
    let p = c.requires in
    let e = c.later-last.ensures in
    let i = c.loop-next.invariant in
    let fl : SFits w64 c.later-last.result.0 = search rules in
    let fn : SFits w64 c.later-next.result.0 = search rules in
    let fk : SFits w64 c.first_held-k.result.0 = search rules in
    let r = fours.held _ _ _ _ p.0 e _ i _ c.later-next.ensures fl fn c.if-last-next.false _ (c.tests-t.ensures c.if-t.true) _ c.first_held-k.ensures fk c.if-k-lt4.true _ c.later.ensures in
    record { is = r.0; known = r.1 }

pub returns-else-t : goal.returns-else-t
returns-else-t c =
    let p = c.requires in
    let e = c.later-last.ensures in
    let i = c.loop-next.invariant in
    let r = fours.rest_waits _ _ _ _ p.0 e _ i _ c.between-else-t.ensures c.wait_singly-else-t.result (c.wait_singly-else-t.ensures.is, c.wait_singly-else-t.ensures.known) in
    record { is = r.0; known = r.1 }
