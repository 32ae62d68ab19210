use mathlib.Core.Path.{◌∙◌, refl, subst, sym}
use Rattle.pays.specs.Until.{UntilIs}
use borrow.Author.Rules.{rules}
use native.Mathlib.Omega.{arith}
use Rattle.pays.proofs.PayArms as arms
use Rattle.pays.proofs.PlanNodes.{plan_inside, plan_node}
use Rattle.pays.proofs.PlanParts as parts
use Prim.Native.Nat.{ℕ, ◌<◌}
use Rattle.pays.proofs.+plan_pays.Goals as goal

pub plan_kind-letter-requires : goal.plan_kind-letter-requires
plan_kind-letter-requires t c =
    let h = c.requires in
    plan_inside _ _ _ h.3

pub transfer-requires : goal.transfer-requires
transfer-requires t c =
    let h = c.requires in
    (plan_inside _ _ _ h.3, h.0, h.1, h.2)

pub link-second-requires : goal.link-second-requires
link-second-requires t c =
    let h = c.requires in
    let l = c.plan_kind-letter.ensures in
    let n = plan_node _ _ _ _ _ _ _ h.3 h.4 l c.in-Scale.is in
    (n.inside, omega arith, parts.scale_link n)

pub overflow_sub-left : goal.overflow_sub-left
overflow_sub-left t c =
    let h = c.requires in
    let l = c.plan_kind-letter.ensures in
    let n = plan_node _ _ _ _ _ _ _ h.3 h.4 l c.in-Scale.is in
    omega (arith, n.some)

pub plan_pays-x-requires : goal.plan_pays-x-requires
plan_pays-x-requires t c =
    let h = c.requires in
    let l = c.plan_kind-letter.ensures in
    let n = plan_node _ _ _ _ _ _ _ h.3 h.4 l c.in-Scale.is in
    let w = parts.scale_walks n c.link-second.ensures in
    (omega (arith, n.some), (h.0, h.1, h.2, w.0, w.1))

pub overflow_add-at : goal.overflow_add-at
overflow_add-at t c =
    let h = c.requires in
    let l = c.plan_kind-letter.ensures in
    let n = plan_node _ _ _ _ _ _ _ h.3 h.4 l c.in-Scale.is in
    record { fits = omega (arith, n.inside) }

pub scaled-requires : goal.scaled-requires
scaled-requires t c =
    let h = c.requires in
    let l = c.plan_kind-letter.ensures in
    let n = plan_node _ _ _ _ _ _ _ h.3 h.4 l c.in-Scale.is in
    let a = parts.scale_amount n in
    (h.0, a.0, a.1, parts.scale_small n c.link-second.ensures refl c.plan_pays-x.ensures)

pub delay-requires : goal.delay-requires
delay-requires t c =
    let h = c.requires in
    plan_inside _ _ _ h.3

pub later-next-requires : goal.later-next-requires
later-next-requires t c =
    let h = c.requires in
    let l = c.plan_kind-letter.ensures in
    let n = plan_node _ _ _ _ _ _ _ h.3 h.4 l c.in-Later.is in
    (parts.month_small h.0, parts.delay_small _ c.delay.ensures (parts.later_months n))

pub overflow_add-at-in-Later : goal.overflow_add-at-in-Later
overflow_add-at-in-Later t c =
    let h = c.requires in
    let l = c.plan_kind-letter.ensures in
    let n = plan_node _ _ _ _ _ _ _ h.3 h.4 l c.in-Later.is in
    record { fits = omega (arith, n.inside) }

pub overflow_sub-left-in-Later : goal.overflow_sub-left-in-Later
overflow_sub-left-in-Later t c =
    let h = c.requires in
    let l = c.plan_kind-letter.ensures in
    let n = plan_node _ _ _ _ _ _ _ h.3 h.4 l c.in-Later.is in
    omega (arith, n.some)

pub plan_pays-requires : goal.plan_pays-requires
plan_pays-requires t c =
    let h = c.requires in
    let l = c.plan_kind-letter.ensures in
    let n = plan_node _ _ _ _ _ _ _ h.3 h.4 l c.in-Later.is in
    let w = parts.later_walks n (parts.later_is h.0 c.delay.ensures c.later-next.ensures) in
    (omega (arith, n.some), (w.0, h.1, h.2, w.1.0, w.1.1))

pub overflow_add-at-in-Both : goal.overflow_add-at-in-Both
overflow_add-at-in-Both t c =
    let h = c.requires in
    let l = c.plan_kind-letter.ensures in
    let n = plan_node _ _ _ _ _ _ _ h.3 h.4 l c.in-Both.is in
    record { fits = omega (arith, n.inside) }

pub overflow_sub-left-in-Both : goal.overflow_sub-left-in-Both
overflow_sub-left-in-Both t c =
    let h = c.requires in
    let l = c.plan_kind-letter.ensures in
    let n = plan_node _ _ _ _ _ _ _ h.3 h.4 l c.in-Both.is in
    omega (arith, n.some)

pub plan_pays-x-requires-in-Both : goal.plan_pays-x-requires-in-Both
plan_pays-x-requires-in-Both t c =
    let h = c.requires in
    let l = c.plan_kind-letter.ensures in
    let n = plan_node _ _ _ _ _ _ _ h.3 h.4 l c.in-Both.is in
    let w = parts.first_walks n in
    (omega (arith, n.some), (h.0, h.1, h.2, w.0, w.1))

pub link-second-requires-in-Both : goal.link-second-requires-in-Both
link-second-requires-in-Both t c =
    let h = c.requires in
    let l = c.plan_kind-letter.ensures in
    let n = plan_node _ _ _ _ _ _ _ h.3 h.4 l c.in-Both.is in
    (n.inside, omega arith, parts.both_link n)

pub overflow_sub-left-in-Both-2 : goal.overflow_sub-left-in-Both-2
overflow_sub-left-in-Both-2 t c =
    let h = c.requires in
    let l = c.plan_kind-letter.ensures in
    let n = plan_node _ _ _ _ _ _ _ h.3 h.4 l c.in-Both.is in
    omega (arith, n.some)

pub plan_pays-y-requires : goal.plan_pays-y-requires
plan_pays-y-requires t c =
    let h = c.requires in
    let l = c.plan_kind-letter.ensures in
    let n = plan_node _ _ _ _ _ _ _ h.3 h.4 l c.in-Both.is in
    let w = parts.second_walks n c.link-second-in-Both.ensures in
    (omega (arith, n.some), (h.0, h.1, h.2, w.0, w.1))

pub plus-requires : goal.plus-requires
plus-requires t c =
    let h = c.requires in
    let l = c.plan_kind-letter.ensures in
    let n = plan_node _ _ _ _ _ _ _ h.3 h.4 l c.in-Both.is in
    parts.both_small n c.link-second-in-Both.ensures c.plan_pays-x-in-Both.ensures c.plan_pays-y.ensures

pub delay-d-requires : goal.delay-d-requires
delay-d-requires t c =
    let h = c.requires in
    plan_inside _ _ _ h.3

pub overflow_add-at-in-Within : goal.overflow_add-at-in-Within
overflow_add-at-in-Within t c =
    let h = c.requires in
    let l = c.plan_kind-letter.ensures in
    let n = plan_node _ _ _ _ _ _ _ h.3 h.4 l c.in-Within.is in
    record { fits = omega (arith, n.inside) }

pub wait_until-requires : goal.wait_until-requires
wait_until-requires t c =
    let h = c.requires in
    let l = c.plan_kind-letter.ensures in
    let n = plan_node _ _ _ _ _ _ _ h.3 h.4 l c.in-Within.is in
    let q = parts.within_test n h.0 refl c.delay-d.ensures in
    (q.0, h.1, q.1, q.2)

pub link-second-requires-in-Some-Held : goal.link-second-requires-in-Some-Held
link-second-requires-in-Some-Held t c =
    let h = c.requires in
    let l = c.plan_kind-letter.ensures in
    let n = plan_node _ _ _ _ _ _ _ h.3 h.4 l c.in-Within.is in
    (n.inside, omega arith, parts.held_link n)

pub overflow_sub-left-in-Some-Held : goal.overflow_sub-left-in-Some-Held
overflow_sub-left-in-Some-Held t c =
    let h = c.requires in
    let l = c.plan_kind-letter.ensures in
    let n = plan_node _ _ _ _ _ _ _ h.3 h.4 l c.in-Within.is in
    omega (arith, n.some)

pub plan_pays-requires-in-Some-Held : goal.plan_pays-requires-in-Some-Held
plan_pays-requires-in-Some-Held t c =
    let h = c.requires in
    let l = c.plan_kind-letter.ensures in
    let n = plan_node _ _ _ _ _ _ _ h.3 h.4 l c.in-Within.is in
    let e = sym c.in-Some-Held.field-0-is ∙ subst (UntilIs _ _ _ _) c.in-Some-Held.is c.wait_until.ensures in
    let w = parts.held_walks n c.delay-d.ensures _ e c.link-second-in-Some-Held.ensures in
    (omega (arith, n.some), (w.0, h.1, h.2, w.1.0, w.1.1))

pub link-third-requires : goal.link-third-requires
link-third-requires t c =
    let h = c.requires in
    let l = c.plan_kind-letter.ensures in
    let n = plan_node _ _ _ _ _ _ _ h.3 h.4 l c.in-Within.is in
    (n.inside, omega arith, parts.missed_link n)

pub overflow_sub-left-in-Some-Missed : goal.overflow_sub-left-in-Some-Missed
overflow_sub-left-in-Some-Missed t c =
    let h = c.requires in
    let l = c.plan_kind-letter.ensures in
    let n = plan_node _ _ _ _ _ _ _ h.3 h.4 l c.in-Within.is in
    omega (arith, n.some)

pub plan_pays-requires-in-Some-Missed : goal.plan_pays-requires-in-Some-Missed
plan_pays-requires-in-Some-Missed t c =
    let h = c.requires in
    let l = c.plan_kind-letter.ensures in
    let n = plan_node _ _ _ _ _ _ _ h.3 h.4 l c.in-Within.is in
    let e = sym c.in-Some-Missed.field-0-is ∙ subst (UntilIs _ _ _ _) c.in-Some-Missed.is c.wait_until.ensures in
    let w = parts.missed_walks n c.delay-d.ensures _ e c.link-third.ensures in
    (omega (arith, n.some), (w.0, h.1, h.2, w.1.0, w.1.1))

pub returns-in-Nothing : goal.returns-in-Nothing
returns-in-Nothing t c =
    let h = c.requires in
    let l = c.plan_kind-letter.ensures in
    let n = plan_node _ _ _ _ _ _ _ h.3 h.4 l c.in-Nothing.is in
    arms.nothing_arm n

pub returns-in-Transfer : goal.returns-in-Transfer
returns-in-Transfer t c =
    let h = c.requires in
    let l = c.plan_kind-letter.ensures in
    let n = plan_node _ _ _ _ _ _ _ h.3 h.4 l c.in-Transfer.is in
    arms.transfer_arm n c.transfer.ensures

pub returns-in-Scale : goal.returns-in-Scale
returns-in-Scale t c =
    let h = c.requires in
    let l = c.plan_kind-letter.ensures in
    let n = plan_node _ _ _ _ _ _ _ h.3 h.4 l c.in-Scale.is in
    arms.scale_arm n c.link-second.ensures refl c.plan_pays-x.ensures c.scaled.ensures

pub returns-in-Later : goal.returns-in-Later
returns-in-Later t c =
    let h = c.requires in
    let l = c.plan_kind-letter.ensures in
    let n = plan_node _ _ _ _ _ _ _ h.3 h.4 l c.in-Later.is in
    arms.later_arm n (parts.later_is h.0 c.delay.ensures c.later-next.ensures) c.plan_pays.ensures

pub returns-in-Both : goal.returns-in-Both
returns-in-Both t c =
    let h = c.requires in
    let l = c.plan_kind-letter.ensures in
    let n = plan_node _ _ _ _ _ _ _ h.3 h.4 l c.in-Both.is in
    arms.both_arm n c.link-second-in-Both.ensures c.plan_pays-x-in-Both.ensures c.plan_pays-y.ensures c.plus.ensures

pub returns-in-Some-Held : goal.returns-in-Some-Held
returns-in-Some-Held t c =
    let h = c.requires in
    let l = c.plan_kind-letter.ensures in
    let n = plan_node _ _ _ _ _ _ _ h.3 h.4 l c.in-Within.is in
    let e = sym c.in-Some-Held.field-0-is ∙ subst (UntilIs _ _ _ _) c.in-Some-Held.is c.wait_until.ensures in
    arms.held_arm n c.delay-d.ensures _ e c.link-second-in-Some-Held.ensures c.plan_pays-in-Some-Held.ensures

pub returns-in-Some-Missed : goal.returns-in-Some-Missed
returns-in-Some-Missed t c =
    let h = c.requires in
    let l = c.plan_kind-letter.ensures in
    let n = plan_node _ _ _ _ _ _ _ h.3 h.4 l c.in-Within.is in
    let e = sym c.in-Some-Missed.field-0-is ∙ subst (UntilIs _ _ _ _) c.in-Some-Missed.is c.wait_until.ensures in
    arms.missed_arm n c.delay-d.ensures _ e c.link-third.ensures c.plan_pays-in-Some-Missed.ensures

pub returns-in-None : goal.returns-in-None
returns-in-None t c =
    let h = c.requires in
    let l = c.plan_kind-letter.ensures in
    let n = plan_node _ _ _ _ _ _ _ h.3 h.4 l c.in-Within.is in
    let e = subst (UntilIs _ _ _ _) c.in-None.is c.wait_until.ensures in
    arms.after_arm n c.delay-d.ensures e

pub returns-in-NoPlan : goal.returns-in-NoPlan
returns-in-NoPlan t c =
    let h = c.requires in
    let l = c.plan_kind-letter.ensures in
    let n = plan_node _ _ _ _ _ _ _ h.3 h.4 l c.in-NoPlan.is in
    arms.no_plan_arm n
