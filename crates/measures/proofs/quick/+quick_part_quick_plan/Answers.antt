use Prim.Native.Nat.{◌*◌, ◌+◌, ◌-◌, ◌/◌}
use Rattle.measures.proofs.PlanMeasures as plain
use Rattle.measures.proofs.PlanReadings as offsets
use Rattle.measures.proofs.PlanRows as rows
use Rattle.measures.proofs.Plans as plans
use Rattle.measures.proofs.ClosedPlans as closing
use Rattle.measures.proofs.SurePlans as sure
use borrow.Author.Rules.{rules}
use mathlib.Core.Path.{◌∙◌, ap, refl, sym}
use mir.Syntax.{w64}
use mir.Val.{SFits}
use native.Mathlib.Omega.{arith}
use Rattle.measures.proofs.quick.+quick_part_quick_plan.Goals as goal

pub quick_part-slot-x-requires : goal.quick_part-slot-x-requires
quick_part-slot-x-requires t c = (plans.plan_room c.requires.0, omega arith)

pub quick_part-quick_transfer-requires : goal.quick_part-quick_transfer-requires
quick_part-quick_transfer-requires t c = c.requires.2

pub quick_part-quick_nothing-requires : goal.quick_part-quick_nothing-requires
quick_part-quick_nothing-requires t c = c.requires.2

pub quick_part-quick_plan-requires : goal.quick_part-quick_plan-requires
quick_part-quick_plan-requires t c = (omega arith, c.requires)

pub quick_part-returns-in-84 : goal.quick_part-returns-in-84
quick_part-returns-in-84 t c =
    let h = c.requires.0 in
    let g : SFits w64 c.slot-x.result = search rules in
    (c.quick_transfer.ensures.0, λ table a z s. sure.sure_given table a z _ (plain.transfer_is h refl (plans.transfer_key g c.slot-x.ensures c.in-84.in-84-own.keys1)) (c.quick_transfer.ensures.1 table a z _ _ _), λ i. closing.transfer_closed h refl (plans.transfer_key g c.slot-x.ensures c.in-84.in-84-own.keys1))

pub quick_part-returns-in-90 : goal.quick_part-returns-in-90
quick_part-returns-in-90 t c =
    let h = c.requires.0 in
    let g : SFits w64 c.slot-x.result = search rules in
    (c.quick_nothing.ensures.0, λ table a z s. sure.sure_given table a z _ (plain.nothing_is h refl (plans.nothing_key g c.slot-x.ensures c.in-90.in-90-own.keys2)) (c.quick_nothing.ensures.1 table a z _ _), λ i. closing.nothing_closed h refl (plans.nothing_key g c.slot-x.ensures c.in-90.in-90-own.keys2))

pub quick_part-returns-in_default : goal.quick_part-returns-in_default
quick_part-returns-in_default t c = c.quick_plan.ensures

pub quick_plan-plan_kind-letter-requires : goal.quick_plan-plan_kind-letter-requires
quick_plan-plan_kind-letter-requires t c = plans.plan_room c.requires.0

pub quick_plan-quick_nothing-requires : goal.quick_plan-quick_nothing-requires
quick_plan-quick_nothing-requires t c = c.requires.2

pub quick_plan-quick_transfer-requires : goal.quick_plan-quick_transfer-requires
quick_plan-quick_transfer-requires t c = c.requires.2

pub quick_plan-link-next-requires : goal.quick_plan-link-next-requires
quick_plan-link-next-requires t c =
    let h = c.requires.0 in
    let k = c.plan_kind-letter.ensures in
    let q = c.in-Scale.is in
    (plans.plan_room h, omega arith, (plans.scale_ready h k q).1)

pub quick_plan-overflow_add-at : goal.quick_plan-overflow_add-at
quick_plan-overflow_add-at t c =
    let h = c.requires.0 in
    omega (arith, (plans.plan_room h).0)

pub quick_plan-read_rows-rows-requires : goal.quick_plan-read_rows-rows-requires
quick_plan-read_rows-rows-requires t c =
    let h = c.requires.0 in
    let k = c.plan_kind-letter.ensures in
    let q = c.in-Scale.is in
    let r = rows.scale_rows h k c.link-next.ensures q in
    (r.0, r.1, r.2)

pub quick_plan-overflow_add-at-then-rows : goal.quick_plan-overflow_add-at-then-rows
quick_plan-overflow_add-at-then-rows t c =
    let h = c.requires.0 in
    omega (arith, (plans.plan_room h).0)

pub quick_plan-amount_of-m-requires : goal.quick_plan-amount_of-m-requires
quick_plan-amount_of-m-requires t c =
    let h = c.requires.0 in
    let k = c.plan_kind-letter.ensures in
    let q = c.in-Scale.is in
    ((plans.scale_ready h k q).0, rows.scale_summed h k c.link-next.ensures _ c.read_rows-rows.ensures.2 q)

pub quick_plan-overflow_sub-left : goal.quick_plan-overflow_sub-left
quick_plan-overflow_sub-left t c =
    let h = c.requires.0 in
    omega (arith, plans.plan_some h)

pub quick_plan-quick_part-x-requires : goal.quick_plan-quick_part-x-requires
quick_plan-quick_part-x-requires t c =
    let h = c.requires.0 in
    let m = c.requires.1 in
    let f = c.requires.2 in
    let k = c.plan_kind-letter.ensures in
    let q = c.in-Scale.is in
    (omega (arith, plans.plan_some h, c.decreases), rw c.link-next.ensures ((plans.scale_ready h k q).2, offsets.near_down m (plans.plan_some h), f))

pub quick_plan-returns-then-rows : goal.quick_plan-returns-then-rows
quick_plan-returns-then-rows t c =
    let h = c.requires.0 in
    let f = c.requires.2 in
    let k = c.plan_kind-letter.ensures in
    let q = c.in-Scale.is in
    let l = rows.scale_latest h k c.link-next.ensures c.read_rows-rows.ensures.0 q in (
      omega (arith, c.scaled.ensures.0, sure.joined_most ◌*◌ c.amount_of-m.result (c.quick_part-x.result / 1024)),
      λ table a z s. sure.sure_given table a z _ (plain.scale_is h k q c.link-next.ensures)
          (sure.scale_sure table a z _ _ _ f l (rows.scale_window h k c.link-next.ensures s c.window_of-w.ensures c.read_rows-rows.ensures.1 q) c.if-rows.true c.amount_of-m.ensures c.max-wanted.ensures
          (c.quick_part-x.ensures.1 table a z s) c.scaled.ensures.0 c.scaled.ensures.1),
      λ i. closing.scale_closed h k q c.link-next.ensures (c.quick_part-x.ensures.2 (sure.joined_parts ◌*◌ c.amount_of-m.result (c.quick_part-x.result / 1024) (omega (arith, c.scaled.ensures.0, i))).1),
    )

pub quick_plan-is_open-requires : goal.quick_plan-is_open-requires
quick_plan-is_open-requires t c =
    let h = c.requires.0 in
    plans.plan_room h

pub quick_plan-returns-then-is_open : goal.quick_plan-returns-then-is_open
quick_plan-returns-then-is_open t c = (omega arith, λ table a z s. sure.unsure table a z _ _ _ _ (omega arith), λ i. absurd (omega (arith, i)))

pub quick_plan-delay-d-requires : goal.quick_plan-delay-d-requires
quick_plan-delay-d-requires t c =
    let h = c.requires.0 in
    plans.plan_room h

pub quick_plan-nearer-low_then-requires : goal.quick_plan-nearer-low_then-requires
quick_plan-nearer-low_then-requires t c =
    let h = c.requires.0 in
    let m = c.requires.1 in
    let k = c.plan_kind-letter.ensures in
    let q = c.in-Later.is in
    offsets.low_later m c.delay-d.ensures (plans.later_ready h k q).0

pub quick_plan-nearer-high_then-requires : goal.quick_plan-nearer-high_then-requires
quick_plan-nearer-high_then-requires t c =
    let h = c.requires.0 in
    let m = c.requires.1 in
    let k = c.plan_kind-letter.ensures in
    let q = c.in-Later.is in
    offsets.high_later m c.delay-d.ensures (plans.later_ready h k q).0

pub quick_plan-months-requires : goal.quick_plan-months-requires
quick_plan-months-requires t c =
    let h = c.requires.0 in
    plans.plan_room h

pub quick_plan-overflow_add-at-in-Later : goal.quick_plan-overflow_add-at-in-Later
quick_plan-overflow_add-at-in-Later t c =
    let h = c.requires.0 in
    omega (arith, (plans.plan_room h).0)

pub quick_plan-overflow_sub-left-in-Later : goal.quick_plan-overflow_sub-left-in-Later
quick_plan-overflow_sub-left-in-Later t c =
    let h = c.requires.0 in
    omega (arith, plans.plan_some h)

pub quick_plan-quick_part-requires : goal.quick_plan-quick_part-requires
quick_plan-quick_part-requires t c =
    let h = c.requires.0 in
    let m = c.requires.1 in
    let f = c.requires.2 in
    let k = c.plan_kind-letter.ensures in
    let q = c.in-Later.is in
    let r = offsets.near_later m (plans.plan_some h) c.delay-d.ensures (plans.later_ready h k q).0 c.nearer-low_then.ensures c.nearer-high_then.ensures in
    (omega (arith, plans.plan_some h, c.decreases), ((plans.later_ready h k q).1, r, sure.nearer_few c.args.high.0 f c.delay-d.ensures c.nearer-high_then.ensures))

pub quick_plan-link-next-requires-in-Both : goal.quick_plan-link-next-requires-in-Both
quick_plan-link-next-requires-in-Both t c =
    let h = c.requires.0 in
    let k = c.plan_kind-letter.ensures in
    let q = c.in-Both.is in
    (plans.plan_room h, omega arith, (plans.both_ready h k q).1)

pub quick_plan-overflow_add-at-in-Both : goal.quick_plan-overflow_add-at-in-Both
quick_plan-overflow_add-at-in-Both t c =
    let h = c.requires.0 in
    omega (arith, (plans.plan_room h).0)

pub quick_plan-overflow_sub-left-in-Both : goal.quick_plan-overflow_sub-left-in-Both
quick_plan-overflow_sub-left-in-Both t c =
    let h = c.requires.0 in
    omega (arith, plans.plan_some h)

pub quick_plan-quick_part-x-requires-in-Both : goal.quick_plan-quick_part-x-requires-in-Both
quick_plan-quick_part-x-requires-in-Both t c =
    let h = c.requires.0 in
    let m = c.requires.1 in
    let f = c.requires.2 in
    let k = c.plan_kind-letter.ensures in
    let q = c.in-Both.is in
    (omega (arith, plans.plan_some h, c.decreases), ((plans.both_ready h k q).0, offsets.near_down m (plans.plan_some h), f))

pub quick_plan-overflow_sub-left-in-Both-2 : goal.quick_plan-overflow_sub-left-in-Both-2
quick_plan-overflow_sub-left-in-Both-2 t c =
    let h = c.requires.0 in
    omega (arith, plans.plan_some h)

pub quick_plan-quick_part-y-requires : goal.quick_plan-quick_part-y-requires
quick_plan-quick_part-y-requires t c =
    let h = c.requires.0 in
    let m = c.requires.1 in
    let f = c.requires.2 in
    let k = c.plan_kind-letter.ensures in
    let q = c.in-Both.is in
    (omega (arith, plans.plan_some h, c.decreases), rw c.link-next-in-Both.ensures ((plans.both_ready h k q).2, offsets.near_down m (plans.plan_some h), f))

pub quick_plan-added-requires : goal.quick_plan-added-requires
quick_plan-added-requires t c = (c.quick_part-x-in-Both.ensures.0, c.quick_part-y.ensures.0)

pub quick_plan-is_open-requires-in-Within : goal.quick_plan-is_open-requires-in-Within
quick_plan-is_open-requires-in-Within t c =
    let h = c.requires.0 in
    plans.plan_room h

pub quick_plan-returns-then-is_open-2 : goal.quick_plan-returns-then-is_open-2
quick_plan-returns-then-is_open-2 t c = (omega arith, λ table a z s. sure.unsure table a z _ _ _ _ (omega arith), λ i. absurd (omega (arith, i)))

pub quick_plan-delay-d-requires-in-Within : goal.quick_plan-delay-d-requires-in-Within
quick_plan-delay-d-requires-in-Within t c =
    let h = c.requires.0 in
    plans.plan_room h

pub quick_plan-nearer-low_then-requires-in-Within : goal.quick_plan-nearer-low_then-requires-in-Within
quick_plan-nearer-low_then-requires-in-Within t c =
    let h = c.requires.0 in
    let m = c.requires.1 in
    let k = c.plan_kind-letter.ensures in
    let q = c.in-Within.is in
    offsets.low_later m c.delay-d-in-Within.ensures (plans.within_ready h k q).0

pub quick_plan-nearer-high_then-requires-in-Within : goal.quick_plan-nearer-high_then-requires-in-Within
quick_plan-nearer-high_then-requires-in-Within t c =
    let h = c.requires.0 in
    let m = c.requires.1 in
    let k = c.plan_kind-letter.ensures in
    let q = c.in-Within.is in
    offsets.high_later m c.delay-d-in-Within.ensures (plans.within_ready h k q).0

pub quick_plan-link-next-requires-in-Within : goal.quick_plan-link-next-requires-in-Within
quick_plan-link-next-requires-in-Within t c =
    let h = c.requires.0 in
    let k = c.plan_kind-letter.ensures in
    let q = c.in-Within.is in
    (plans.plan_room h, omega arith, (plans.within_ready h k q).2.0)

pub quick_plan-link-other-requires : goal.quick_plan-link-other-requires
quick_plan-link-other-requires t c =
    let h = c.requires.0 in
    let k = c.plan_kind-letter.ensures in
    let q = c.in-Within.is in
    (plans.plan_room h, omega arith, (plans.within_ready h k q).3.0)

pub quick_plan-overflow_add-at-in-Within : goal.quick_plan-overflow_add-at-in-Within
quick_plan-overflow_add-at-in-Within t c =
    let h = c.requires.0 in
    omega (arith, (plans.plan_room h).0)

pub quick_plan-read_rows-rows-requires-in-Within : goal.quick_plan-read_rows-rows-requires-in-Within
quick_plan-read_rows-rows-requires-in-Within t c =
    let h = c.requires.0 in
    let k = c.plan_kind-letter.ensures in
    let q = c.in-Within.is in
    let r = rows.within_rows h k c.link-next-in-Within.ensures q in
    (r.0, r.1, r.2)

pub quick_plan-overflow_add-at-then-tried_in_time : goal.quick_plan-overflow_add-at-then-tried_in_time
quick_plan-overflow_add-at-then-tried_in_time t c =
    let h = c.requires.0 in
    omega (arith, (plans.plan_room h).0)

pub quick_plan-test_of-requires : goal.quick_plan-test_of-requires
quick_plan-test_of-requires t c =
    let h = c.requires.0 in
    let k = c.plan_kind-letter.ensures in
    let q = c.in-Within.is in
    ((plans.within_ready h k q).1, rows.within_summed h k c.link-next-in-Within.ensures _ c.read_rows-rows-in-Within.ensures.2 q)

pub quick_plan-overflow_sub-left-then-test_of : goal.quick_plan-overflow_sub-left-then-test_of
quick_plan-overflow_sub-left-then-test_of t c =
    let h = c.requires.0 in
    omega (arith, plans.plan_some h)

pub quick_plan-quick_part-x-requires-then-test_of : goal.quick_plan-quick_part-x-requires-then-test_of
quick_plan-quick_part-x-requires-then-test_of t c =
    let h = c.requires.0 in
    let m = c.requires.1 in
    let f = c.requires.2 in
    let k = c.plan_kind-letter.ensures in
    let q = c.in-Within.is in
    let r = offsets.near_wait m (plans.plan_some h) c.delay-d-in-Within.ensures (plans.within_ready h k q).0 c.nearer-low_then-in-Within.ensures c.nearer-high_then-in-Within.ensures in
    (omega (arith, plans.plan_some h, c.decreases), rw c.link-next-in-Within.ensures ((plans.within_ready h k q).2.1, r, sure.nearer_few c.args.high.0 f c.delay-d-in-Within.ensures c.nearer-high_then-in-Within.ensures))

pub quick_plan-overflow_sub-left-then-test_of-2 : goal.quick_plan-overflow_sub-left-then-test_of-2
quick_plan-overflow_sub-left-then-test_of-2 t c =
    let h = c.requires.0 in
    omega (arith, plans.plan_some h)

pub quick_plan-quick_part-y-requires-then-test_of : goal.quick_plan-quick_part-y-requires-then-test_of
quick_plan-quick_part-y-requires-then-test_of t c =
    let h = c.requires.0 in
    let m = c.requires.1 in
    let f = c.requires.2 in
    let k = c.plan_kind-letter.ensures in
    let q = c.in-Within.is in
    let r = offsets.near_later m (plans.plan_some h) c.delay-d-in-Within.ensures (plans.within_ready h k q).0 c.nearer-low_then-in-Within.ensures c.nearer-high_then-in-Within.ensures in
    (omega (arith, plans.plan_some h, c.decreases), rw c.link-other.ensures ((plans.within_ready h k q).3.1, r, sure.nearer_few c.args.high.0 f c.delay-d-in-Within.ensures c.nearer-high_then-in-Within.ensures))

pub quick_plan-either-requires : goal.quick_plan-either-requires
quick_plan-either-requires t c = (c.quick_part-x-then-test_of.ensures.0, c.quick_part-y-then-test_of.ensures.0)

pub quick_plan-returns-then-test_of : goal.quick_plan-returns-then-test_of
quick_plan-returns-then-test_of t c =
    let h = c.requires.0 in
    let f = c.requires.2 in
    let k = c.plan_kind-letter.ensures in
    let q = c.in-Within.is in
    let l = rows.within_latest h k c.link-next-in-Within.ensures c.read_rows-rows-in-Within.ensures.0 q in
    let i = sure.nearer_few c.args.high.0 f c.delay-d-in-Within.ensures c.nearer-high_then-in-Within.ensures in (
      omega (arith, c.either.ensures.0, c.quick_part-x-then-test_of.ensures.0, c.quick_part-y-then-test_of.ensures.0),
      λ table a z s.
          let w = offsets.seen_wait s c.delay-d-in-Within.ensures c.nearer-high_then-in-Within.ensures in
          sure.sure_given table a z _ (plain.within_is h k q refl c.link-next-in-Within.ensures c.link-other.ensures)
          (sure.within_sure table a z _ (plans.within_ready h k q).0 i c.delay-d-in-Within.ensures c.nearer-high_then-in-Within.ensures _ _ _ l
          (rows.within_window h k c.link-next-in-Within.ensures w c.window_of-w-in-Within.ensures c.read_rows-rows-in-Within.ensures.1 q) c.if-rows-2.true c.test_of.ensures c.if-test_of.true c.tried_in_time.ensures c.if-tried_in_time.true
          (c.quick_part-x-then-test_of.ensures.1 _ _ _ w) (c.quick_part-y-then-test_of.ensures.1 _ _ _ (offsets.seen_later s c.delay-d-in-Within.ensures c.nearer-low_then-in-Within.ensures c.nearer-high_then-in-Within.ensures)) c.either.ensures.0 c.either.ensures.1),
      λ i.
          closing.within_closed h k (sym c.is_open-in-Within.ensures ∙ c.if-is_open-2.false) q c.link-next-in-Within.ensures c.link-other.ensures
          (c.quick_part-x-then-test_of.ensures.2 (omega (arith, c.either.ensures.0, i))) (c.quick_part-y-then-test_of.ensures.2 (omega (arith, c.either.ensures.0, i))),
    )

pub quick_plan-returns-in-Nothing : goal.quick_plan-returns-in-Nothing
quick_plan-returns-in-Nothing t c =
    let h = c.requires.0 in
    let k = c.plan_kind-letter.ensures in
    let q = c.in-Nothing.is in
    (c.quick_nothing.ensures.0, λ table a z s. sure.sure_given table a z _ (plain.nothing_is h k q) (c.quick_nothing.ensures.1 table a z _ _), λ i. closing.nothing_closed h k q)

pub quick_plan-returns-in-Transfer : goal.quick_plan-returns-in-Transfer
quick_plan-returns-in-Transfer t c =
    let h = c.requires.0 in
    let k = c.plan_kind-letter.ensures in
    let q = c.in-Transfer.is in
    (c.quick_transfer.ensures.0, λ table a z s. sure.sure_given table a z _ (plain.transfer_is h k q) (c.quick_transfer.ensures.1 table a z _ _ _), λ i. closing.transfer_closed h k q)

pub quick_plan-returns-else-rows : goal.quick_plan-returns-else-rows
quick_plan-returns-else-rows t c = (omega arith, λ table a z s. sure.unsure table a z _ _ _ _ (omega arith), λ i. absurd (omega (arith, i)))

pub quick_plan-returns-else-is_open : goal.quick_plan-returns-else-is_open
quick_plan-returns-else-is_open t c =
    let h = c.requires.0 in
    let f = c.requires.2 in
    let k = c.plan_kind-letter.ensures in
    let q = c.in-Later.is in
    let i = sure.nearer_few c.args.high.0 f c.delay-d.ensures c.nearer-high_then.ensures in (
      c.quick_part.ensures.0,
      λ table a z s.
          sure.sure_given table a z _ (plain.later_is h k q refl)
          (sure.later_sure table a z _ (plans.later_ready h k q).0 i c.delay-d.ensures c.nearer-high_then.ensures _ (c.saturating_sub-wanted.ensures ∙ ap (λ n. c.args.need - n) c.months.ensures)
          (c.quick_part.ensures.1 _ _ _ (offsets.seen_later s c.delay-d.ensures c.nearer-low_then.ensures c.nearer-high_then.ensures))),
      λ i. closing.later_closed h k (sym c.is_open.ensures ∙ c.if-is_open.false) q (c.quick_part.ensures.2 i),
    )

pub quick_plan-returns-in-Both : goal.quick_plan-returns-in-Both
quick_plan-returns-in-Both t c =
    let h = c.requires.0 in
    let f = c.requires.2 in
    let k = c.plan_kind-letter.ensures in
    let q = c.in-Both.is in (
      omega (arith, c.added.ensures.0, sure.joined_most ◌+◌ (c.quick_part-x-in-Both.result / 1024) (c.quick_part-y.result / 1024)),
      λ table a z s.
          sure.sure_given table a z _ (plain.both_is h k q c.link-next-in-Both.ensures) (sure.both_sure table a z _ _ _ f (c.quick_part-x-in-Both.ensures.1 table a z s) (c.quick_part-y.ensures.1 table a z s) c.added.ensures.0 c.added.ensures.1),
      λ i.
          let j = sure.joined_parts ◌+◌ (c.quick_part-x-in-Both.result / 1024) (c.quick_part-y.result / 1024) (omega (arith, c.added.ensures.0, i)) in
          closing.both_closed h k q c.link-next-in-Both.ensures (c.quick_part-x-in-Both.ensures.2 j.0) (c.quick_part-y.ensures.2 j.1),
    )

pub quick_plan-returns-else-test_of : goal.quick_plan-returns-else-test_of
quick_plan-returns-else-test_of t c = (omega arith, λ table a z s. sure.unsure table a z _ _ _ _ (omega arith), λ i. absurd (omega (arith, i)))

pub quick_plan-returns-else-tried_in_time : goal.quick_plan-returns-else-tried_in_time
quick_plan-returns-else-tried_in_time t c = (omega arith, λ table a z s. sure.unsure table a z _ _ _ _ (omega arith), λ i. absurd (omega (arith, i)))

pub quick_plan-returns-else-rows-2 : goal.quick_plan-returns-else-rows-2
quick_plan-returns-else-rows-2 t c = (omega arith, λ table a z s. sure.unsure table a z _ _ _ _ (omega arith), λ i. absurd (omega (arith, i)))

pub quick_plan-returns-in-NoPlan : goal.quick_plan-returns-in-NoPlan
quick_plan-returns-in-NoPlan t c = (omega arith, λ table a z s. sure.unsure table a z _ _ _ _ (omega arith), λ i. absurd (omega (arith, i)))
