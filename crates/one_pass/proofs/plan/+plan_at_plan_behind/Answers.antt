use borrow.Author.Rules.{rules}
use Prim.Native.Nat.{◌*◌, ◌+◌, ◌-◌, ◌<◌, max, ℕ}
use Rattle.measures.proofs.PlanReadings.{high_later, low_later, near_down, near_later, near_wait}
use Rattle.one_pass.proofs.Packs.{is_kept}
use Rattle.one_pass.proofs.Plans.{as_month, both_seen, few_then, later_seen, moved, nothing_seen, scale_seen, within_seen}
use Rattle.one_pass.specs.Packed.{months_in}
use Rattle.text.proofs.QuickLaws.{sole}
use mathlib.Core.Path.{◌∙◌, ap, refl}
use native.Mathlib.Omega.{arith}
use Rattle.one_pass.proofs.plan.+plan_at_plan_behind.Goals as goal

pub plan_at-stands_at-requires : goal.plan_at-stands_at-requires
plan_at-stands_at-requires t c =
    c.requires.1

pub plan_at-bounds-text-at : goal.plan_at-bounds-text-at
plan_at-bounds-text-at t c =
    let h = c.stands_at.ensures c.if-stands_at.true in omega (arith, h.0)

pub plan_at-overflow_add-at : goal.plan_at-overflow_add-at
plan_at-overflow_add-at t c =
    let h = c.stands_at.ensures c.if-stands_at.true in record { fits = omega (arith, h.0, c.requires.0.short) }

pub plan_at-ended-requires : goal.plan_at-ended-requires
plan_at-ended-requires t c =
    let h = c.stands_at.ensures c.if-stands_at.true in (omega (arith, h.0, c.requires.0.short), c.requires.3)

pub plan_at-transfer_at-requires : goal.plan_at-transfer_at-requires
plan_at-transfer_at-requires t c =
    let h = c.stands_at.ensures c.if-stands_at.true in
    (c.requires.0, record { room = h.0; comma = h.1; letter = c.in-84.is }, c.requires.3)

pub plan_at-overflow_add-at-in-83 : goal.plan_at-overflow_add-at-in-83
plan_at-overflow_add-at-in-83 t c =
    let h = c.stands_at.ensures c.if-stands_at.true in record { fits = omega (arith, h.0, c.requires.0.short) }

pub plan_at-overflow_sub-left : goal.plan_at-overflow_sub-left
plan_at-overflow_sub-left t c =
    let h = c.stands_at.ensures c.if-stands_at.true in omega (arith, h.2)

pub plan_at-amount_at-m-requires : goal.plan_at-amount_at-m-requires
plan_at-amount_at-m-requires t c =
    let h = c.stands_at.ensures c.if-stands_at.true in (c.requires.0, omega (arith, h.0, c.requires.0.short))

pub plan_at-overflow_sub-left-in-83 : goal.plan_at-overflow_sub-left-in-83
plan_at-overflow_sub-left-in-83 t c =
    let h = c.stands_at.ensures c.if-stands_at.true in omega (arith, h.2)

pub plan_at-plan_behind-x-requires : goal.plan_at-plan_behind-x-requires
plan_at-plan_behind-x-requires t c =
    let h = c.stands_at.ensures c.if-stands_at.true in
    (omega (arith, h.2, c.decreases), (c.requires.0, near_down c.requires.2 h.2, c.requires.3, c.requires.4))

pub plan_at-delay_at-d-requires : goal.plan_at-delay_at-d-requires
plan_at-delay_at-d-requires t c =
    let h = c.stands_at.ensures c.if-stands_at.true in (c.requires.0, h.0, c.requires.4)

pub plan_at-overflow_cast-n : goal.plan_at-overflow_cast-n
plan_at-overflow_cast-n t c =
    let w = c.delay_at-d.ensures (is_kept _ c.is_kept.ensures c.if-is_kept.true) in omega (arith, c.months-n.ensures, w.few)

pub plan_at-nearer-low_then-requires : goal.plan_at-nearer-low_then-requires
plan_at-nearer-low_then-requires t c =
    let w = c.delay_at-d.ensures (is_kept _ c.is_kept.ensures c.if-is_kept.true) in low_later c.requires.2 (as_month c.months-n.ensures w.few) w.few

pub plan_at-overflow_cast-n-then-is_kept : goal.plan_at-overflow_cast-n-then-is_kept
plan_at-overflow_cast-n-then-is_kept t c =
    let w = c.delay_at-d.ensures (is_kept _ c.is_kept.ensures c.if-is_kept.true) in omega (arith, c.months-n.ensures, w.few)

pub plan_at-nearer-high_then-requires : goal.plan_at-nearer-high_then-requires
plan_at-nearer-high_then-requires t c =
    let w = c.delay_at-d.ensures (is_kept _ c.is_kept.ensures c.if-is_kept.true) in high_later c.requires.2 (as_month c.months-n.ensures w.few) w.few

pub plan_at-overflow_sub-wanted : goal.plan_at-overflow_sub-wanted
plan_at-overflow_sub-wanted t c = omega (arith, c.later_of.ensures)

pub plan_at-overflow_sub-left-then-is_kept : goal.plan_at-overflow_sub-left-then-is_kept
plan_at-overflow_sub-left-then-is_kept t c =
    let h = c.stands_at.ensures c.if-stands_at.true in omega (arith, h.2)

pub plan_at-plan_behind-requires : goal.plan_at-plan_behind-requires
plan_at-plan_behind-requires t c =
    let h = c.stands_at.ensures c.if-stands_at.true in
    let w = c.delay_at-d.ensures (is_kept _ c.is_kept.ensures c.if-is_kept.true) in (omega (arith, h.2, c.decreases), (c.requires.0, near_later c.requires.2 h.2 refl w.few (moved c.args.low.0 c.nearer-low_then.ensures c.months-n.ensures w.few) (moved c.args.high.0 c.nearer-high_then.ensures c.months-n.ensures w.few), few_then c.args.high.0 (months_in c.delay_at-d.result) c.requires.3 (moved c.args.high.0 c.nearer-high_then.ensures c.months-n.ensures w.few), c.requires.4))

pub plan_at-returns-then-is_kept : goal.plan_at-returns-then-is_kept
plan_at-returns-then-is_kept t c =
    let h = c.stands_at.ensures c.if-stands_at.true in
    λ k. let w = c.delay_at-d.ensures (is_kept _ c.is_kept.ensures c.if-is_kept.true) in let b = c.plan_behind.ensures k in later_seen _ c.requires.0 _ _ h.2 _ _ _ _ _ w (record { room = h.0; comma = h.1; letter = c.in-76.is }) (moved c.args.low.0 c.nearer-low_then.ensures c.months-n.ensures w.few) (moved c.args.high.0 c.nearer-high_then.ensures c.months-n.ensures w.few) (few_then c.args.high.0 (months_in c.delay_at-d.result) c.requires.3 (moved c.args.high.0 c.nearer-high_then.ensures c.months-n.ensures w.few)) (omega (arith, c.later_of.ensures, c.months-n.ensures)) b.1 k

pub plan_at-overflow_add-at-in-66 : goal.plan_at-overflow_add-at-in-66
plan_at-overflow_add-at-in-66 t c =
    let h = c.stands_at.ensures c.if-stands_at.true in record { fits = omega (arith, h.0, c.requires.0.short) }

pub plan_at-overflow_sub-left-in-66 : goal.plan_at-overflow_sub-left-in-66
plan_at-overflow_sub-left-in-66 t c =
    let h = c.stands_at.ensures c.if-stands_at.true in omega (arith, h.2)

pub plan_at-plan_at-x-requires : goal.plan_at-plan_at-x-requires
plan_at-plan_at-x-requires t c =
    let h = c.stands_at.ensures c.if-stands_at.true in
    (omega (arith, h.2, c.decreases), (c.requires.0, omega (arith, h.0, c.requires.0.short), near_down c.requires.2 h.2, c.requires.3, c.requires.4))

pub plan_at-overflow_sub-left-in-66-2 : goal.plan_at-overflow_sub-left-in-66-2
plan_at-overflow_sub-left-in-66-2 t c =
    let h = c.stands_at.ensures c.if-stands_at.true in omega (arith, h.2)

pub plan_at-plan_behind-y-requires : goal.plan_at-plan_behind-y-requires
plan_at-plan_behind-y-requires t c =
    let h = c.stands_at.ensures c.if-stands_at.true in
    (omega (arith, h.2, c.decreases), (c.requires.0, near_down c.requires.2 h.2, c.requires.3, c.requires.4))

pub plan_at-delay_at-d-requires-in-87 : goal.plan_at-delay_at-d-requires-in-87
plan_at-delay_at-d-requires-in-87 t c =
    let h = c.stands_at.ensures c.if-stands_at.true in (c.requires.0, h.0, c.requires.4)

pub plan_at-overflow_cast-n-then-is_kept-2 : goal.plan_at-overflow_cast-n-then-is_kept-2
plan_at-overflow_cast-n-then-is_kept-2 t c =
    let w = c.delay_at-d-in-87.ensures (is_kept _ c.is_kept-in-87.ensures c.if-is_kept-2.true) in omega (arith, c.months-then-is_kept-2.ensures, w.few)

pub plan_at-nearer-low_then-requires-then-is_kept-2 : goal.plan_at-nearer-low_then-requires-then-is_kept-2
plan_at-nearer-low_then-requires-then-is_kept-2 t c =
    let w = c.delay_at-d-in-87.ensures (is_kept _ c.is_kept-in-87.ensures c.if-is_kept-2.true) in low_later c.requires.2 (as_month c.months-then-is_kept-2.ensures w.few) w.few

pub plan_at-nearer-high_then-requires-then-is_kept-2 : goal.plan_at-nearer-high_then-requires-then-is_kept-2
plan_at-nearer-high_then-requires-then-is_kept-2 t c =
    let w = c.delay_at-d-in-87.ensures (is_kept _ c.is_kept-in-87.ensures c.if-is_kept-2.true) in high_later c.requires.2 (as_month c.months-then-is_kept-2.ensures w.few) w.few

pub plan_at-overflow_sub-left-then-is_kept-2 : goal.plan_at-overflow_sub-left-then-is_kept-2
plan_at-overflow_sub-left-then-is_kept-2 t c =
    let h = c.stands_at.ensures c.if-stands_at.true in omega (arith, h.2)

pub plan_at-test_behind-t-requires : goal.plan_at-test_behind-t-requires
plan_at-test_behind-t-requires t c =
    c.requires.0

pub plan_at-overflow_sub-left-then-tried_in_time : goal.plan_at-overflow_sub-left-then-tried_in_time
plan_at-overflow_sub-left-then-tried_in_time t c =
    let h = c.stands_at.ensures c.if-stands_at.true in omega (arith, h.2)

pub plan_at-plan_behind-x-requires-then-tried_in_time : goal.plan_at-plan_behind-x-requires-then-tried_in_time
plan_at-plan_behind-x-requires-then-tried_in_time t c =
    let h = c.stands_at.ensures c.if-stands_at.true in
    let w = c.delay_at-d-in-87.ensures (is_kept _ c.is_kept-in-87.ensures c.if-is_kept-2.true) in (omega (arith, h.2, c.decreases), (c.requires.0, near_wait c.requires.2 h.2 refl w.few (moved c.args.low.0 c.nearer-low_then-then-is_kept-2.ensures c.months-then-is_kept-2.ensures w.few) (moved c.args.high.0 c.nearer-high_then-then-is_kept-2.ensures c.months-then-is_kept-2.ensures w.few), few_then c.args.high.0 (months_in c.delay_at-d-in-87.result) c.requires.3 (moved c.args.high.0 c.nearer-high_then-then-is_kept-2.ensures c.months-then-is_kept-2.ensures w.few), c.requires.4))

pub plan_at-overflow_sub-left-then-tried_in_time-2 : goal.plan_at-overflow_sub-left-then-tried_in_time-2
plan_at-overflow_sub-left-then-tried_in_time-2 t c =
    let h = c.stands_at.ensures c.if-stands_at.true in omega (arith, h.2)

pub plan_at-plan_behind-y-requires-then-tried_in_time : goal.plan_at-plan_behind-y-requires-then-tried_in_time
plan_at-plan_behind-y-requires-then-tried_in_time t c =
    let h = c.stands_at.ensures c.if-stands_at.true in
    let w = c.delay_at-d-in-87.ensures (is_kept _ c.is_kept-in-87.ensures c.if-is_kept-2.true) in (omega (arith, h.2, c.decreases), (c.requires.0, near_later c.requires.2 h.2 refl w.few (moved c.args.low.0 c.nearer-low_then-then-is_kept-2.ensures c.months-then-is_kept-2.ensures w.few) (moved c.args.high.0 c.nearer-high_then-then-is_kept-2.ensures c.months-then-is_kept-2.ensures w.few), few_then c.args.high.0 (months_in c.delay_at-d-in-87.result) c.requires.3 (moved c.args.high.0 c.nearer-high_then-then-is_kept-2.ensures c.months-then-is_kept-2.ensures w.few), c.requires.4))

pub plan_at-returns-then-tried_in_time : goal.plan_at-returns-then-tried_in_time
plan_at-returns-then-tried_in_time t c =
    let h = c.stands_at.ensures c.if-stands_at.true in
    λ k. let w = c.delay_at-d-in-87.ensures (is_kept _ c.is_kept-in-87.ensures c.if-is_kept-2.true) in let j = c.either.ensures k in let o = c.plan_behind-y-then-tried_in_time.ensures j.second in let p = c.plan_behind-x-then-tried_in_time.ensures j.first in let q = c.test_behind-t.ensures p.0 in within_seen _ c.requires.0 _ _ h.2 _ _ _ _ _ w (record { room = h.0; comma = h.1; letter = c.in-87.is }) (moved c.args.low.0 c.nearer-low_then-then-is_kept-2.ensures c.months-then-is_kept-2.ensures w.few) (moved c.args.high.0 c.nearer-high_then-then-is_kept-2.ensures c.months-then-is_kept-2.ensures w.few) (few_then c.args.high.0 (months_in c.delay_at-d-in-87.result) c.requires.3 (moved c.args.high.0 c.nearer-high_then-then-is_kept-2.ensures c.months-then-is_kept-2.ensures w.few)) q.1 (λ z e. c.tried_in_time.ensures z (c.months-then-is_kept-2-2.ensures ∙ e)) c.if-tried_in_time.true p.1 o.1 k j

pub plan_at-last_at-requires : goal.plan_at-last_at-requires
plan_at-last_at-requires t c =
    (c.requires.0, c.requires.1, c.requires.3)

pub plan_at-returns-in-90 : goal.plan_at-returns-in-90
plan_at-returns-in-90 t c =
    let h = c.stands_at.ensures c.if-stands_at.true in
    λ k. let e = c.ended.ensures k in nothing_seen _ c.requires.0 _ _ h.2 _ _ _ _ _ (omega (arith, h.0)) (sole c.args.text.now.now c.args.at 0 (omega (arith, h.0)) h.1 90 c.in-90.is (λ z. omega arith)) k e.packed e.few e.is

pub plan_at-returns-in-84 : goal.plan_at-returns-in-84
plan_at-returns-in-84 t c =
    let h = c.stands_at.ensures c.if-stands_at.true in c.transfer_at.ensures _ _ _ _ h.2

pub plan_at-returns-in-83 : goal.plan_at-returns-in-83
plan_at-returns-in-83 t c =
    let h = c.stands_at.ensures c.if-stands_at.true in
    λ k. let j = c.scaled.ensures k in let p = c.plan_behind-x.ensures j.second in scale_seen _ c.requires.0 _ _ h.2 _ _ _ _ _ (record { room = h.0; comma = h.1; letter = c.in-83.is }) (c.amount_at-m.ensures j.first) (c.later_of-wanted.ensures ∙ ap (λ n. max c.args.need n) c.months.ensures) p.1 c.requires.3 k j

pub plan_at-returns-else-is_kept : goal.plan_at-returns-else-is_kept
plan_at-returns-else-is_kept t c = λ k. absurd (omega (arith, k))

pub plan_at-returns-in-66 : goal.plan_at-returns-in-66
plan_at-returns-in-66 t c =
    let h = c.stands_at.ensures c.if-stands_at.true in
    λ k. let j = c.added.ensures k in both_seen _ c.requires.0 _ _ h.2 _ _ _ _ _ (record { room = h.0; comma = h.1; letter = c.in-66.is }) (c.plan_at-x.ensures j.first) (c.plan_behind-y.ensures j.second).1 c.requires.3 k j

pub plan_at-returns-else-tried_in_time : goal.plan_at-returns-else-tried_in_time
plan_at-returns-else-tried_in_time t c = λ k. absurd (omega (arith, k))

pub plan_at-returns-else-is_kept-2 : goal.plan_at-returns-else-is_kept-2
plan_at-returns-else-is_kept-2 t c = λ k. absurd (omega (arith, k))

pub plan_at-returns-in_default : goal.plan_at-returns-in_default
plan_at-returns-in_default t c = λ k. absurd (omega (arith, k))

pub plan_at-returns-else-stands_at : goal.plan_at-returns-else-stands_at
plan_at-returns-else-stands_at t c = c.last_at.ensures _ _ _

pub plan_behind-plan_at-requires : goal.plan_behind-plan_at-requires
plan_behind-plan_at-requires t c =
    (omega (arith, c.decreases), (c.requires.0, omega (arith, c.place.ensures), c.requires.1, c.requires.2, c.requires.3))

pub plan_behind-returns-then-is_kept : goal.plan_behind-returns-then-is_kept
plan_behind-returns-then-is_kept t c = λ k. (is_kept _ c.is_kept.ensures c.if-is_kept.true, rw (← c.place.ensures) (c.plan_at.ensures k))

pub plan_behind-returns : goal.plan_behind-returns
plan_behind-returns t c = λ k. absurd (omega (arith, k))
