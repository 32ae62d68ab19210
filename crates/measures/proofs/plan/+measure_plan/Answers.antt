use Prim.Native.Nat.{◌-◌}
use Rattle.measures.proofs.PlanMeasures as laws
use Rattle.measures.proofs.PlanReadings as offsets
use Rattle.measures.proofs.PlanRows as rows
use Rattle.measures.proofs.Plans as plans
use Rattle.measures.specs.Magnitudes.{bound_in}
use Rattle.measures.specs.Ready.{PlanReady}
use lib.IntN.{pos}
use mathlib.Core.List.{[]}
use mathlib.Core.Path.{◌∙◌, ap, refl, sym}
use native.Mathlib.Omega.{arith}
use Rattle.measures.proofs.plan.+measure_plan.Goals as goal

pub plan_kind-letter-requires : goal.plan_kind-letter-requires
plan_kind-letter-requires t c = plans.plan_room c.requires.0

pub link-next-requires : goal.link-next-requires
link-next-requires t c =
    let h = c.requires.0 in
    let k = c.plan_kind-letter.ensures in
    let q = c.in-Scale.is in
    (plans.plan_room h, omega arith, (plans.scale_ready h k q).1)

pub overflow_add-at : goal.overflow_add-at
overflow_add-at t c =
    let h = c.requires.0 in
    omega (arith, (plans.plan_room h).0)

pub read_rows-rows-requires : goal.read_rows-rows-requires
read_rows-rows-requires t c =
    let h = c.requires.0 in
    let k = c.plan_kind-letter.ensures in
    let q = c.in-Scale.is in
    let r = rows.scale_rows h k c.link-next.ensures q in
    (r.0, r.1, r.2)

pub overflow_add-at-in-Scale : goal.overflow_add-at-in-Scale
overflow_add-at-in-Scale t c =
    let h = c.requires.0 in
    omega (arith, (plans.plan_room h).0)

pub amount_of-m-requires : goal.amount_of-m-requires
amount_of-m-requires t c =
    let h = c.requires.0 in
    let k = c.plan_kind-letter.ensures in
    let q = c.in-Scale.is in
    ((plans.scale_ready h k q).0, rows.scale_summed h k c.link-next.ensures _ c.read_rows-rows.ensures.2 q)

pub is_transfer-requires : goal.is_transfer-requires
is_transfer-requires t c =
    let h = c.requires.0 in
    let k = c.plan_kind-letter.ensures in
    let q = c.in-Scale.is in
    rw c.link-next.ensures (plans.plan_room (plans.scale_ready h k q).2)

pub of_scale-requires : goal.of_scale-requires
of_scale-requires t c =
    let h = c.requires.0 in
    let k = c.plan_kind-letter.ensures in
    let q = c.in-Scale.is in
    let a = c.args in
    let r : PlanReady (a.left - 1) a.lent.now.nodes.now c.link-next.result = rw c.link-next.ensures (plans.scale_ready h k q).2 in
    laws.measures_addable (record { h = pos 0; f = pos 0; factors = []; bounds = []; values = [] }) 0 0 (bound_in a.lent.now.bounds.now) r (laws.measures_given _ _ _ _ (laws.transfer_is r refl (c.is_transfer.ensures c.if-is_transfer.true)) (c.of_transfer-then-is_transfer.ensures _ _ _ _ _ _))

pub returns-then-is_transfer : goal.returns-then-is_transfer
returns-then-is_transfer t c table a z s =
    let h = c.requires.0 in
    let k = c.plan_kind-letter.ensures in
    let q = c.in-Scale.is in
    let g = c.args in
    let r : PlanReady (g.left - 1) g.lent.now.nodes.now c.link-next.result = rw c.link-next.ensures (plans.scale_ready h k q).2 in
    let l = rows.scale_latest h k c.link-next.ensures c.read_rows-rows.ensures.0 q in
    let w = rows.scale_window h k c.link-next.ensures s c.window_of-w.ensures c.read_rows-rows.ensures.1 q in
    let x = laws.measures_given _ _ _ _ (laws.transfer_is r refl (c.is_transfer.ensures c.if-is_transfer.true)) (c.of_transfer-then-is_transfer.ensures _ _ _ _ _ _) in
    laws.measures_given _ _ _ _ (laws.scale_is h k q c.link-next.ensures) (c.of_scale.ensures _ _ _ _ _ _ l w c.amount_of-m.ensures x)

pub overflow_sub-left : goal.overflow_sub-left
overflow_sub-left t c =
    let h = c.requires.0 in
    omega (arith, plans.plan_some h)

pub measure_plan-x-requires : goal.measure_plan-x-requires
measure_plan-x-requires t c =
    let h = c.requires.0 in
    let m = c.requires.1 in
    let k = c.plan_kind-letter.ensures in
    let q = c.in-Scale.is in
    (omega (arith, plans.plan_some h), rw c.link-next.ensures ((plans.scale_ready h k q).2, offsets.near_down m (plans.plan_some h)))

pub of_scale-requires-in-Scale : goal.of_scale-requires-in-Scale
of_scale-requires-in-Scale t c =
    let h = c.requires.0 in
    let k = c.plan_kind-letter.ensures in
    let q = c.in-Scale.is in
    let a = c.args in
    let r : PlanReady (a.left - 1) a.lent.now.nodes.now c.link-next.result = rw c.link-next.ensures (plans.scale_ready h k q).2 in
    laws.measures_addable _ _ _ _ r (c.measure_plan-x.ensures _ _ _ (offsets.seen_some _ _ _))

pub delay-d-requires : goal.delay-d-requires
delay-d-requires t c =
    let h = c.requires.0 in
    plans.plan_room h

pub nearer-low_then-requires : goal.nearer-low_then-requires
nearer-low_then-requires t c =
    let h = c.requires.0 in
    let m = c.requires.1 in
    let k = c.plan_kind-letter.ensures in
    let q = c.in-Later.is in
    offsets.low_later m c.delay-d.ensures (plans.later_ready h k q).0

pub nearer-high_then-requires : goal.nearer-high_then-requires
nearer-high_then-requires t c =
    let h = c.requires.0 in
    let m = c.requires.1 in
    let k = c.plan_kind-letter.ensures in
    let q = c.in-Later.is in
    offsets.high_later m c.delay-d.ensures (plans.later_ready h k q).0

pub overflow_add-at-in-Later : goal.overflow_add-at-in-Later
overflow_add-at-in-Later t c =
    let h = c.requires.0 in
    omega (arith, (plans.plan_room h).0)

pub overflow_sub-left-in-Later : goal.overflow_sub-left-in-Later
overflow_sub-left-in-Later t c =
    let h = c.requires.0 in
    omega (arith, plans.plan_some h)

pub measure_plan-x-requires-in-Later : goal.measure_plan-x-requires-in-Later
measure_plan-x-requires-in-Later t c =
    let h = c.requires.0 in
    let m = c.requires.1 in
    let k = c.plan_kind-letter.ensures in
    let q = c.in-Later.is in
    let d = (plans.later_ready h k q).0 in
    let r = offsets.near_later m (plans.plan_some h) c.delay-d.ensures d c.nearer-low_then.ensures c.nearer-high_then.ensures in
    (omega (arith, plans.plan_some h), ((plans.later_ready h k q).1, r))

pub months-requires : goal.months-requires
months-requires t c =
    let h = c.requires.0 in
    plans.plan_room h

pub of_later-requires : goal.of_later-requires
of_later-requires t c =
    let h = c.requires.0 in
    let k = c.plan_kind-letter.ensures in
    let q = c.in-Later.is in
    let r = plans.later_ready h k q in
    let u = laws.measures_addable _ _ _ _ r.1 (c.measure_plan-x-in-Later.ensures _ _ _ (offsets.seen_some _ _ _)) in
    (omega (arith, r.0, c.months.ensures), u, laws.measures_first _ _ _ _ u (c.measure_plan-x-in-Later.ensures _ _ _ (offsets.seen_some _ _ _)))

pub link-next-requires-in-Both : goal.link-next-requires-in-Both
link-next-requires-in-Both t c =
    let h = c.requires.0 in
    let k = c.plan_kind-letter.ensures in
    let q = c.in-Both.is in
    (plans.plan_room h, omega arith, (plans.both_ready h k q).1)

pub overflow_add-at-in-Both : goal.overflow_add-at-in-Both
overflow_add-at-in-Both t c =
    let h = c.requires.0 in
    omega (arith, (plans.plan_room h).0)

pub overflow_sub-left-in-Both : goal.overflow_sub-left-in-Both
overflow_sub-left-in-Both t c =
    let h = c.requires.0 in
    omega (arith, plans.plan_some h)

pub measure_plan-x-requires-in-Both : goal.measure_plan-x-requires-in-Both
measure_plan-x-requires-in-Both t c =
    let h = c.requires.0 in
    let m = c.requires.1 in
    let k = c.plan_kind-letter.ensures in
    let q = c.in-Both.is in
    (omega (arith, plans.plan_some h), ((plans.both_ready h k q).0, offsets.near_down m (plans.plan_some h)))

pub overflow_sub-left-in-Both-2 : goal.overflow_sub-left-in-Both-2
overflow_sub-left-in-Both-2 t c =
    let h = c.requires.0 in
    omega (arith, plans.plan_some h)

pub measure_plan-y-requires : goal.measure_plan-y-requires
measure_plan-y-requires t c =
    let h = c.requires.0 in
    let m = c.requires.1 in
    let k = c.plan_kind-letter.ensures in
    let q = c.in-Both.is in
    (omega (arith, plans.plan_some h), rw c.link-next-in-Both.ensures ((plans.both_ready h k q).2, offsets.near_down m (plans.plan_some h)))

pub of_both-requires : goal.of_both-requires
of_both-requires t c =
    let h = c.requires.0 in
    let k = c.plan_kind-letter.ensures in
    let q = c.in-Both.is in
    let a = c.args in
    let y : PlanReady (a.left - 1) a.lent.now.nodes.now c.link-next-in-Both.result = rw c.link-next-in-Both.ensures (plans.both_ready h k q).2 in
    (laws.measures_addable _ _ _ _ (plans.both_ready h k q).0 (c.measure_plan-x-in-Both.ensures _ _ _ (offsets.seen_some _ _ _)), laws.measures_addable _ _ _ _ y (c.measure_plan-y.ensures _ _ _ (offsets.seen_some _ _ _)))

pub delay-d-requires-in-Within : goal.delay-d-requires-in-Within
delay-d-requires-in-Within t c =
    let h = c.requires.0 in
    plans.plan_room h

pub nearer-low_then-requires-in-Within : goal.nearer-low_then-requires-in-Within
nearer-low_then-requires-in-Within t c =
    let h = c.requires.0 in
    let m = c.requires.1 in
    let k = c.plan_kind-letter.ensures in
    let q = c.in-Within.is in
    offsets.low_later m c.delay-d-in-Within.ensures (plans.within_ready h k q).0

pub nearer-high_then-requires-in-Within : goal.nearer-high_then-requires-in-Within
nearer-high_then-requires-in-Within t c =
    let h = c.requires.0 in
    let m = c.requires.1 in
    let k = c.plan_kind-letter.ensures in
    let q = c.in-Within.is in
    offsets.high_later m c.delay-d-in-Within.ensures (plans.within_ready h k q).0

pub link-next-requires-in-Within : goal.link-next-requires-in-Within
link-next-requires-in-Within t c =
    let h = c.requires.0 in
    let k = c.plan_kind-letter.ensures in
    let q = c.in-Within.is in
    (plans.plan_room h, omega arith, (plans.within_ready h k q).2.0)

pub link-other-requires : goal.link-other-requires
link-other-requires t c =
    let h = c.requires.0 in
    let k = c.plan_kind-letter.ensures in
    let q = c.in-Within.is in
    (plans.plan_room h, omega arith, (plans.within_ready h k q).3.0)

pub overflow_add-at-in-Within : goal.overflow_add-at-in-Within
overflow_add-at-in-Within t c =
    let h = c.requires.0 in
    omega (arith, (plans.plan_room h).0)

pub read_rows-rows-requires-in-Within : goal.read_rows-rows-requires-in-Within
read_rows-rows-requires-in-Within t c =
    let h = c.requires.0 in
    let k = c.plan_kind-letter.ensures in
    let q = c.in-Within.is in
    let r = rows.within_rows h k c.link-next-in-Within.ensures q in
    (r.0, r.1, r.2)

pub overflow_add-at-in-Within-2 : goal.overflow_add-at-in-Within-2
overflow_add-at-in-Within-2 t c =
    let h = c.requires.0 in
    omega (arith, (plans.plan_room h).0)

pub test_of-t-requires : goal.test_of-t-requires
test_of-t-requires t c =
    let h = c.requires.0 in
    let k = c.plan_kind-letter.ensures in
    let q = c.in-Within.is in
    ((plans.within_ready h k q).1, rows.within_summed h k c.link-next-in-Within.ensures _ c.read_rows-rows-in-Within.ensures.2 q)

pub overflow_sub-left-in-Within : goal.overflow_sub-left-in-Within
overflow_sub-left-in-Within t c =
    let h = c.requires.0 in
    omega (arith, plans.plan_some h)

pub measure_plan-x-requires-in-Within : goal.measure_plan-x-requires-in-Within
measure_plan-x-requires-in-Within t c =
    let h = c.requires.0 in
    let m = c.requires.1 in
    let k = c.plan_kind-letter.ensures in
    let q = c.in-Within.is in
    let d = (plans.within_ready h k q).0 in
    let r = offsets.near_wait m (plans.plan_some h) c.delay-d-in-Within.ensures d c.nearer-low_then-in-Within.ensures c.nearer-high_then-in-Within.ensures in
    (omega (arith, plans.plan_some h, c.decreases), rw c.link-next-in-Within.ensures ((plans.within_ready h k q).2.1, r))

pub overflow_sub-left-in-Within-2 : goal.overflow_sub-left-in-Within-2
overflow_sub-left-in-Within-2 t c =
    let h = c.requires.0 in
    omega (arith, plans.plan_some h)

pub measure_plan-y-requires-in-Within : goal.measure_plan-y-requires-in-Within
measure_plan-y-requires-in-Within t c =
    let h = c.requires.0 in
    let m = c.requires.1 in
    let k = c.plan_kind-letter.ensures in
    let q = c.in-Within.is in
    let d = (plans.within_ready h k q).0 in
    let r = offsets.near_later m (plans.plan_some h) c.delay-d-in-Within.ensures d c.nearer-low_then-in-Within.ensures c.nearer-high_then-in-Within.ensures in
    (omega (arith, plans.plan_some h, c.decreases), rw c.link-other.ensures ((plans.within_ready h k q).3.1, r))

pub months-requires-in-Within : goal.months-requires-in-Within
months-requires-in-Within t c =
    let h = c.requires.0 in
    plans.plan_room h

pub of_within-requires : goal.of_within-requires
of_within-requires t c =
    let h = c.requires.0 in
    let k = c.plan_kind-letter.ensures in
    let q = c.in-Within.is in
    let a = c.args in
    let x : PlanReady (a.left - 1) a.lent.now.nodes.now c.link-next-in-Within.result = rw c.link-next-in-Within.ensures (plans.within_ready h k q).2.1 in
    let y : PlanReady (a.left - 1) a.lent.now.nodes.now c.link-other.result = rw c.link-other.ensures (plans.within_ready h k q).3.1 in (
      omega (arith, (plans.within_ready h k q).0, c.months-in-Within.ensures),
      laws.measures_addable _ _ _ _ x (c.measure_plan-x-in-Within.ensures _ _ _ (offsets.seen_some _ _ _)),
      laws.measures_addable _ _ _ _ y (c.measure_plan-y-in-Within.ensures _ _ _ (offsets.seen_some _ _ _)),
    )

pub returns-in-Nothing : goal.returns-in-Nothing
returns-in-Nothing t c table a z s =
    let h = c.requires.0 in
    let k = c.plan_kind-letter.ensures in
    let q = c.in-Nothing.is in
    laws.measures_given _ _ _ _ (laws.nothing_is h k q) (c.of_nothing.ensures _ _ _ _)

pub returns-in-Transfer : goal.returns-in-Transfer
returns-in-Transfer t c table a z s =
    let h = c.requires.0 in
    let k = c.plan_kind-letter.ensures in
    let q = c.in-Transfer.is in
    laws.measures_given _ _ _ _ (laws.transfer_is h k q) (c.of_transfer.ensures _ _ _ _ _ _)

pub returns-else-is_transfer : goal.returns-else-is_transfer
returns-else-is_transfer t c table a z s =
    let h = c.requires.0 in
    let k = c.plan_kind-letter.ensures in
    let q = c.in-Scale.is in
    let l = rows.scale_latest h k c.link-next.ensures c.read_rows-rows.ensures.0 q in
    let w = rows.scale_window h k c.link-next.ensures s c.window_of-w.ensures c.read_rows-rows.ensures.1 q in
    laws.measures_given _ _ _ _ (laws.scale_is h k q c.link-next.ensures) (c.of_scale-in-Scale.ensures _ _ _ _ _ _ l w c.amount_of-m.ensures (c.measure_plan-x.ensures _ _ _ s))

pub returns-in-Later : goal.returns-in-Later
returns-in-Later t c table a z s =
    let h = c.requires.0 in
    let k = c.plan_kind-letter.ensures in
    let q = c.in-Later.is in
    let d = c.delay-d.ensures ∙ ap pos (sym c.months.ensures) in
    laws.measures_given _ _ _ _ (laws.later_is h k q c.months.ensures) (c.of_later.ensures _ _ _ _ _ (c.measure_plan-x-in-Later.ensures _ _ _ (offsets.seen_later s d c.nearer-low_then.ensures c.nearer-high_then.ensures)))

pub returns-in-Both : goal.returns-in-Both
returns-in-Both t c table a z s =
    let h = c.requires.0 in
    let k = c.plan_kind-letter.ensures in
    let q = c.in-Both.is in
    laws.measures_given _ _ _ _ (laws.both_is h k q c.link-next-in-Both.ensures) (c.of_both.ensures _ _ _ _ _ _ (c.measure_plan-x-in-Both.ensures _ _ _ s) (c.measure_plan-y.ensures _ _ _ s))

pub returns-in-Within : goal.returns-in-Within
returns-in-Within t c table a z s =
    let h = c.requires.0 in
    let k = c.plan_kind-letter.ensures in
    let q = c.in-Within.is in
    let d = c.delay-d-in-Within.ensures ∙ ap pos (sym c.months-in-Within.ensures) in
    let l = rows.within_latest h k c.link-next-in-Within.ensures c.read_rows-rows-in-Within.ensures.0 q in
    let f = offsets.seen_wait s d c.nearer-high_then-in-Within.ensures in
    let g = rows.within_window h k c.link-next-in-Within.ensures f c.window_of-w-in-Within.ensures c.read_rows-rows-in-Within.ensures.1 q in
    let x = c.measure_plan-x-in-Within.ensures _ _ _ f in
    let y = c.measure_plan-y-in-Within.ensures _ _ _ (offsets.seen_later s d c.nearer-low_then-in-Within.ensures c.nearer-high_then-in-Within.ensures) in
    laws.measures_given _ _ _ _ (laws.within_is h k q c.months-in-Within.ensures c.link-next-in-Within.ensures c.link-other.ensures) (c.of_within.ensures _ _ _ _ _ _ _ l g c.test_of-t.ensures x y)

pub returns-in-NoPlan : goal.returns-in-NoPlan
returns-in-NoPlan t c table a z s =
    let h = c.requires.0 in
    let k = c.plan_kind-letter.ensures in
    let q = c.in-NoPlan.is in
    laws.measures_given _ _ _ _ (laws.no_plan_is h k q) (c.of_nothing-in-NoPlan.ensures _ _ _ _)
