use mathlib.Core.Path.{◌∙◌, ◌≡◌, refl, sym}
use native.Mathlib.Omega.{arith}
use Rattle.language.specs.Calls.{sign_of}
use Rattle.nodes.specs.Table.{nat_of}
use Rattle.nodes.specs.declared.PlanLetter.{PlanLetter}
use Rattle.pays.proofs.PayArms as pay
use Rattle.pays.proofs.PlanNodes.{PlanNode, plan_node}
use Rattle.pays.proofs.PlanParts as paying
use Rattle.steps.proofs.DueArms as due
use Rattle.steps.proofs.StepArms as arms
use Rattle.steps.proofs.StepKept.{behind_kept, below_ends, below_kept, copied_few, paid_kept, ready_kept, walks_kept}
use Rattle.steps.proofs.StepReady as parts
use Prim.Native.Nat.{ℕ}
use Rattle.steps.proofs.+step_plan.Goals as goal
use Rattle.steps.proofs.+step_plan.Goals.{After-plan_kind-letter}

-- the letter is known
node : (t : ℕ) (s : After-plan_kind-letter t) {k : PlanLetter} → s.plan_kind-letter.result ≡ k
    → let a = s.args in PlanNode a.day.now.values.now a.nodes.now (sign_of a.day.now.pair.p a.day.now.pair.q) (nat_of a.day.now.today.0) (nat_of a.day.now.today.0) a.left a.at k
node t s e = plan_node _ _ _ _ _ _ _ s.requires.2 s.requires.3 s.plan_kind-letter.ensures e

pub plan_kind-letter-requires : goal.plan_kind-letter-requires
plan_kind-letter-requires t c =
    parts.row_in_lem c.requires.0

pub put_letter-next-requires : goal.put_letter-next-requires
put_letter-next-requires t c =
    let y = c.requires.0 in
    omega (arith, c.requires.1, (parts.inside y).0, (parts.inside y).2)

pub penny-pence-requires : goal.penny-pence-requires
penny-pence-requires t c =
    let y = c.requires.0 in
    (parts.row_in_lem y, c.requires.4)

pub put_letter-next-requires-in-Transfer : goal.put_letter-next-requires-in-Transfer
put_letter-next-requires-in-Transfer t c =
    let y = c.requires.0 in
    omega (arith, c.requires.1, (parts.inside y).0, (parts.inside y).2)

pub link-second-requires : goal.link-second-requires
link-second-requires t c =
    let y = c.requires.0 in
    let i = parts.by_letter y c.plan_kind-letter.ensures c.in-Scale.is in
    (parts.row_in_lem y, omega arith, (parts.scale_parts y i).forward)

pub overflow_add-at : goal.overflow_add-at
overflow_add-at t c =
    let y = c.requires.0 in
    record { fits = omega (arith, (parts.inside y).0, (parts.inside y).1) }

pub amount-a-requires : goal.amount-a-requires
amount-a-requires t c =
    let y = c.requires.0 in
    let i = parts.by_letter y c.plan_kind-letter.ensures c.in-Scale.is in
    let n = node t (goal.at.amount-a-requires t c).After-plan_kind-letter c.in-Scale.is in
    let b = parts.scale_rows y i c.link-second.ensures in
    (c.args.day.now.month, (paying.scale_amount n).0, (paying.scale_amount n).1, b.0, b.1, b.2)

pub put_letter-head-requires : goal.put_letter-head-requires
put_letter-head-requires t c =
    let y = c.requires.0 in
    omega (arith, c.requires.1, (parts.inside y).0, (parts.inside y).2)

pub overflow_add-at-in-Scale : goal.overflow_add-at-in-Scale
overflow_add-at-in-Scale t c =
    let y = c.requires.0 in
    record { fits = omega (arith, (parts.inside y).0, (parts.inside y).1) }

pub copy_rows-below-requires : goal.copy_rows-below-requires
copy_rows-below-requires t c =
    let y = c.requires.0 in
    let i = parts.by_letter y c.plan_kind-letter.ensures c.in-Scale.is in
    let o = parts.scale_order y i c.link-second.ensures in
    let u = c.put_letter-head.ensures in
    (tt, o.0, omega (arith, o.1, (parts.inside y).1), omega (arith, o.1, (parts.inside y).2, u.size), omega (arith, c.requires.1, u.ends))

pub overflow_sub-left : goal.overflow_sub-left
overflow_sub-left t c =
    let y = c.requires.0 in
    omega (arith, parts.some_left y)

pub step_plan-x-requires : goal.step_plan-x-requires
step_plan-x-requires t c =
    let y = c.requires.0 in
    let i = parts.by_letter y c.plan_kind-letter.ensures c.in-Scale.is in
    let n = node t (goal.at.step_plan-x-requires t c).After-plan_kind-letter c.in-Scale.is in
    let o = parts.scale_order y i c.link-second.ensures in
    let u = c.put_letter-head.ensures in
    let v = c.copy_rows-below.ensures in
    let z = parts.scale_ready y i c.link-second.ensures in
    let k = behind_kept c.requires.1 refl u (copied_few o.0 v) v.added in
    let w = walks_kept k z (sign_of c.args.day.now.pair.p c.args.day.now.pair.q) (paying.scale_walks n c.link-second.ensures) in
    (omega (arith, parts.some_left y), (ready_kept k z, below_ends c.requires.1 refl u (copied_few o.0 v) v.added, w.0, w.1, c.requires.4))

pub times-requires : goal.times-requires
times-requires t c =
    let y = c.requires.0 in
    let i = parts.by_letter y c.plan_kind-letter.ensures c.in-Scale.is in
    let n = node t (goal.at.times-requires t c).After-plan_kind-letter c.in-Scale.is in
    let o = parts.scale_order y i c.link-second.ensures in
    let v = c.copy_rows-below.ensures in
    let k = behind_kept c.requires.1 refl c.put_letter-head.ensures (copied_few o.0 v) v.added in
    paying.scale_small n c.link-second.ensures c.amount-a.ensures (paid_kept k (parts.scale_ready y i c.link-second.ensures) (sign_of c.args.day.now.pair.p c.args.day.now.pair.q) c.step_plan-x.ensures.0)

pub delay-d-requires : goal.delay-d-requires
delay-d-requires t c =
    parts.row_in_lem c.requires.0

pub overflow_add-at-then-due : goal.overflow_add-at-then-due
overflow_add-at-then-due t c =
    let y = c.requires.0 in
    record { fits = omega (arith, (parts.inside y).0, (parts.inside y).1) }

pub overflow_sub-left-then-due : goal.overflow_sub-left-then-due
overflow_sub-left-then-due t c =
    let y = c.requires.0 in
    omega (arith, parts.some_left y)

pub step_plan-requires : goal.step_plan-requires
step_plan-requires t c =
    let y = c.requires.0 in
    let i = parts.by_letter y c.plan_kind-letter.ensures c.in-Later.is in
    let n = node t (goal.at.step_plan-requires t c).After-plan_kind-letter c.in-Later.is in
    let w = (paying.later_walks n (due.later_now n c.args.day.now.month refl (parts.none_left c.delay-d.ensures (sym c.due.ensures ∙ c.if-due.true)))).1 in
    (omega (arith, parts.some_left y), (parts.later_ready y i c.delay-d.ensures (sym c.due.ensures ∙ c.if-due.true), omega (arith, c.requires.1, (parts.inside y).0), w.0, w.1, c.requires.4))

pub keep_waiting-requires : goal.keep_waiting-requires
keep_waiting-requires t c =
    let y = c.requires.0 in
    (parts.span_in y, (parts.inside y).0, (parts.inside y).1, (parts.inside y).2, parts.some_left_of c.delay-d.ensures (sym c.due.ensures ∙ c.if-due.false), c.requires.1)

pub link-second-requires-in-Both : goal.link-second-requires-in-Both
link-second-requires-in-Both t c =
    let y = c.requires.0 in
    let i = parts.by_letter y c.plan_kind-letter.ensures c.in-Both.is in
    (parts.row_in_lem y, omega arith, (parts.both_parts y i).forward)

pub put_letter-head-requires-in-Both : goal.put_letter-head-requires-in-Both
put_letter-head-requires-in-Both t c =
    let y = c.requires.0 in
    omega (arith, c.requires.1, (parts.inside y).0, (parts.inside y).2)

pub overflow_add-at-in-Both : goal.overflow_add-at-in-Both
overflow_add-at-in-Both t c =
    let y = c.requires.0 in
    record { fits = omega (arith, (parts.inside y).0, (parts.inside y).1) }

pub overflow_sub-left-in-Both : goal.overflow_sub-left-in-Both
overflow_sub-left-in-Both t c =
    let y = c.requires.0 in
    omega (arith, parts.some_left y)

pub step_plan-x-requires-in-Both : goal.step_plan-x-requires-in-Both
step_plan-x-requires-in-Both t c =
    let y = c.requires.0 in
    let i = parts.by_letter y c.plan_kind-letter.ensures c.in-Both.is in
    let u = c.put_letter-head-in-Both.ensures in
    let z = parts.first_ready y i c.link-second-in-Both.ensures in
    let k = below_kept c.requires.1 refl u in
    let w = walks_kept k z (sign_of c.args.day.now.pair.p c.args.day.now.pair.q) (paying.first_walks (node t (goal.at.step_plan-x-requires-in-Both t c).After-plan_kind-letter c.in-Both.is)) in
    (omega (arith, parts.some_left y), (ready_kept k z, omega (arith, c.requires.1, u.ends), w.0, w.1, c.requires.4))

pub overflow_sub-left-in-Both-2 : goal.overflow_sub-left-in-Both-2
overflow_sub-left-in-Both-2 t c =
    let y = c.requires.0 in
    omega (arith, parts.some_left y)

pub step_plan-y-requires : goal.step_plan-y-requires
step_plan-y-requires t c =
    let y = c.requires.0 in
    let i = parts.by_letter y c.plan_kind-letter.ensures c.in-Both.is in
    let u = c.put_letter-head-in-Both.ensures in
    let v = c.step_plan-x-in-Both.ensures in
    let f = v.2 (ready_kept (below_kept c.requires.1 refl u) (parts.first_ready y i c.link-second-in-Both.ensures)) in
    let z = parts.second_ready y i c.link-second-in-Both.ensures in
    let k = behind_kept c.requires.1 refl u v.1 f in
    let w = walks_kept k z (sign_of c.args.day.now.pair.p c.args.day.now.pair.q) (paying.second_walks (node t (goal.at.step_plan-y-requires t c).After-plan_kind-letter c.in-Both.is) c.link-second-in-Both.ensures) in
    (omega (arith, parts.some_left y), (ready_kept k z, below_ends c.requires.1 refl u v.1 f, w.0, w.1, c.requires.4))

pub plus-requires : goal.plus-requires
plus-requires t c =
    let y = c.requires.0 in
    let i = parts.by_letter y c.plan_kind-letter.ensures c.in-Both.is in
    let n = node t (goal.at.plus-requires t c).After-plan_kind-letter c.in-Both.is in
    let u = c.put_letter-head-in-Both.ensures in
    let v = c.step_plan-x-in-Both.ensures in
    let d = below_kept c.requires.1 refl u in
    let z = parts.first_ready y i c.link-second-in-Both.ensures in
    let k = behind_kept c.requires.1 refl u v.1 (v.2 (ready_kept d z)) in
    let g = sign_of c.args.day.now.pair.p c.args.day.now.pair.q in
    let px = paid_kept d z g v.0 in
    let py = paid_kept k (parts.second_ready y i c.link-second-in-Both.ensures) g c.step_plan-y.ensures.0 in
    paying.both_small n c.link-second-in-Both.ensures px py

pub link-second-requires-in-Within : goal.link-second-requires-in-Within
link-second-requires-in-Within t c =
    let y = c.requires.0 in
    let i = parts.by_letter y c.plan_kind-letter.ensures c.in-Within.is in
    (parts.row_in_lem y, omega arith, (parts.within_parts y i).forward)

pub link-third-requires : goal.link-third-requires
link-third-requires t c =
    let y = c.requires.0 in
    let i = parts.by_letter y c.plan_kind-letter.ensures c.in-Within.is in
    (parts.row_in_lem y, omega arith, (parts.within_parts y i).forward_again)

pub overflow_add-at-in-Within : goal.overflow_add-at-in-Within
overflow_add-at-in-Within t c =
    let y = c.requires.0 in
    record { fits = omega (arith, (parts.inside y).0, (parts.inside y).1) }

pub test-requires : goal.test-requires
test-requires t c =
    let y = c.requires.0 in
    let i = parts.by_letter y c.plan_kind-letter.ensures c.in-Within.is in
    let u = parts.tested y i (parts.early c.args.day.now.month) in
    (c.args.day.now.month, u.0, u.1)

pub overflow_sub-left-then-test : goal.overflow_sub-left-then-test
overflow_sub-left-then-test t c =
    let y = c.requires.0 in
    omega (arith, parts.some_left y)

pub step_plan-requires-then-test : goal.step_plan-requires-then-test
step_plan-requires-then-test t c =
    let y = c.requires.0 in
    let i = parts.by_letter y c.plan_kind-letter.ensures c.in-Within.is in
    let n = node t (goal.at.step_plan-requires-then-test t c).After-plan_kind-letter c.in-Within.is in
    let o = parts.within_order y i c.link-second-in-Within.ensures c.link-third.ensures in
    let w = (paying.held_walks n refl _ (due.held_now n _ c.args.day.now.month refl (sym c.test.ensures ∙ c.if-test.true)) c.link-second-in-Within.ensures).1 in
    (omega (arith, parts.some_left y), (parts.held_ready y i c.link-second-in-Within.ensures c.link-third.ensures, omega (arith, o.0, o.1, o.2, c.requires.1), w.0, w.1, c.requires.4))

pub delay-wait-requires : goal.delay-wait-requires
delay-wait-requires t c =
    parts.row_in_lem c.requires.0

pub overflow_sub-left-then-due-2 : goal.overflow_sub-left-then-due-2
overflow_sub-left-then-due-2 t c =
    let y = c.requires.0 in
    omega (arith, parts.some_left y)

pub step_plan-requires-then-due-2 : goal.step_plan-requires-then-due-2
step_plan-requires-then-due-2 t c =
    let y = c.requires.0 in
    let i = parts.by_letter y c.plan_kind-letter.ensures c.in-Within.is in
    let n = node t (goal.at.step_plan-requires-then-due-2 t c).After-plan_kind-letter c.in-Within.is in
    let o = parts.within_order y i c.link-second-in-Within.ensures c.link-third.ensures in
    let w = (paying.missed_walks n refl _ (due.missed_now n _ c.args.day.now.month refl (sym c.test.ensures ∙ c.if-test.false) (parts.none_left c.delay-wait.ensures (sym c.due-else-test.ensures ∙ c.if-due-2.true))) c.link-third.ensures).1 in
    (omega (arith, parts.some_left y), (parts.missed_ready y i c.link-second-in-Within.ensures c.link-third.ensures c.delay-wait.ensures (sym c.due-else-test.ensures ∙ c.if-due-2.true), omega (arith, o.0, o.1, o.2, c.requires.1), w.0, w.1, c.requires.4))

pub keep_waiting-requires-else-due-2 : goal.keep_waiting-requires-else-due-2
keep_waiting-requires-else-due-2 t c =
    let y = c.requires.0 in
    (parts.span_in y, (parts.inside y).0, (parts.inside y).1, (parts.inside y).2, parts.some_left_of c.delay-wait.ensures (sym c.due-else-test.ensures ∙ c.if-due-2.false), c.requires.1)

pub returns-in-Nothing : goal.returns-in-Nothing
returns-in-Nothing t c =
    let y = c.requires.0 in
    let n = node t (goal.at.returns-in-Nothing t c).After-plan_kind-letter c.in-Nothing.is in
    (pay.nothing_arm n, omega (arith, (parts.inside y).0, c.put_letter-next.ensures.ends), λ z. arms.nothing_arm z (parts.by_letter z c.plan_kind-letter.ensures c.in-Nothing.is) c.put_letter-next.ensures)

pub returns-in-Transfer : goal.returns-in-Transfer
returns-in-Transfer t c =
    let y = c.requires.0 in
    let n = node t (goal.at.returns-in-Transfer t c).After-plan_kind-letter c.in-Transfer.is in
    (due.penny_arm n c.penny-pence.ensures, omega (arith, (parts.inside y).0, c.put_letter-next-in-Transfer.ensures.ends), λ z. arms.transfer_arm z (parts.by_letter z c.plan_kind-letter.ensures c.in-Transfer.is) c.put_letter-next-in-Transfer.ensures)

pub returns-in-Scale : goal.returns-in-Scale
returns-in-Scale t c =
    let y = c.requires.0 in
    let i = parts.by_letter y c.plan_kind-letter.ensures c.in-Scale.is in
    let n = node t (goal.at.returns-in-Scale t c).After-plan_kind-letter c.in-Scale.is in
    let o = parts.scale_order y i c.link-second.ensures in
    let u = c.put_letter-head.ensures in
    let v = c.copy_rows-below.ensures in
    let k = behind_kept c.requires.1 refl u (copied_few o.0 v) v.added in (
      pay.scale_arm n c.link-second.ensures c.amount-a.ensures (paid_kept k (parts.scale_ready y i c.link-second.ensures) (sign_of c.args.day.now.pair.p c.args.day.now.pair.q) c.step_plan-x.ensures.0) c.times.ensures,
      omega (arith, o.0, o.1, u.ends, v.counted, c.step_plan-x.ensures.1),
      λ x. arms.scale_arm x c.link-second.ensures c.requires.1 (parts.by_letter x c.plan_kind-letter.ensures c.in-Scale.is) u v c.step_plan-x.ensures.2,
    )

pub returns-then-due : goal.returns-then-due
returns-then-due t c =
    let y = c.requires.0 in
    let n = node t (goal.at.returns-then-due t c).After-plan_kind-letter c.in-Later.is in (
      pay.later_arm n (due.later_now n c.args.day.now.month refl (parts.none_left c.delay-d.ensures (sym c.due.ensures ∙ c.if-due.true))) c.step_plan.ensures.0,
      omega (arith, c.step_plan.ensures.1),
      λ z. arms.due_arm z (parts.by_letter z c.plan_kind-letter.ensures c.in-Later.is) c.delay-d.ensures (sym c.due.ensures ∙ c.if-due.true) c.step_plan.ensures.2,
    )

pub returns-else-due : goal.returns-else-due
returns-else-due t c =
    let y = c.requires.0 in
    let n = node t (goal.at.returns-else-due t c).After-plan_kind-letter c.in-Later.is in (
      c.keep_waiting.ensures.0 ∙ due.later_waits n (parts.some_left_of c.delay-d.ensures (sym c.due.ensures ∙ c.if-due.false)),
      omega (arith, (parts.inside y).0, c.keep_waiting.ensures.1.counted),
      λ z. arms.later_arm z (parts.by_letter z c.plan_kind-letter.ensures c.in-Later.is) c.delay-d.ensures (sym c.due.ensures ∙ c.if-due.false) c.keep_waiting.ensures.1,
    )

pub returns-in-Both : goal.returns-in-Both
returns-in-Both t c =
    let y = c.requires.0 in
    let i = parts.by_letter y c.plan_kind-letter.ensures c.in-Both.is in
    let n = node t (goal.at.returns-in-Both t c).After-plan_kind-letter c.in-Both.is in
    let u = c.put_letter-head-in-Both.ensures in
    let v = c.step_plan-x-in-Both.ensures in
    let d = below_kept c.requires.1 refl u in
    let z = parts.first_ready y i c.link-second-in-Both.ensures in
    let k = behind_kept c.requires.1 refl u v.1 (v.2 (ready_kept d z)) in
    let g = sign_of c.args.day.now.pair.p c.args.day.now.pair.q in
    let px = paid_kept d z g v.0 in
    let py = paid_kept k (parts.second_ready y i c.link-second-in-Both.ensures) g c.step_plan-y.ensures.0 in
    let o = parts.both_order y i c.link-second-in-Both.ensures in (
      pay.both_arm n c.link-second-in-Both.ensures px py c.plus.ensures,
      omega (arith, o.0, o.1, u.ends, v.1, c.step_plan-y.ensures.1),
      λ x. arms.both_arm x c.link-second-in-Both.ensures c.requires.1 (parts.by_letter x c.plan_kind-letter.ensures c.in-Both.is) u v.1 v.2 c.step_plan-y.ensures.2,
    )

pub returns-then-test : goal.returns-then-test
returns-then-test t c =
    let y = c.requires.0 in
    let i = parts.by_letter y c.plan_kind-letter.ensures c.in-Within.is in
    let n = node t (goal.at.returns-then-test t c).After-plan_kind-letter c.in-Within.is in
    let o = parts.within_order y i c.link-second-in-Within.ensures c.link-third.ensures in (
      pay.held_arm n refl _ (due.held_now n _ c.args.day.now.month refl (sym c.test.ensures ∙ c.if-test.true)) c.link-second-in-Within.ensures c.step_plan-then-test.ensures.0,
      omega (arith, o.0, o.1, o.2, c.step_plan-then-test.ensures.1),
      λ z. let j = parts.by_letter z c.plan_kind-letter.ensures c.in-Within.is in
          arms.held_arm z j (sym (parts.tested z j (parts.early c.args.day.now.month)).2 ∙ sym c.test.ensures ∙ c.if-test.true) c.link-second-in-Within.ensures c.link-third.ensures c.step_plan-then-test.ensures.2,
    )

pub returns-then-due-2 : goal.returns-then-due-2
returns-then-due-2 t c =
    let y = c.requires.0 in
    let i = parts.by_letter y c.plan_kind-letter.ensures c.in-Within.is in
    let n = node t (goal.at.returns-then-due-2 t c).After-plan_kind-letter c.in-Within.is in
    let o = parts.within_order y i c.link-second-in-Within.ensures c.link-third.ensures in (
      pay.missed_arm n refl _ (due.missed_now n _ c.args.day.now.month refl (sym c.test.ensures ∙ c.if-test.false) (parts.none_left c.delay-wait.ensures (sym c.due-else-test.ensures ∙ c.if-due-2.true))) c.link-third.ensures c.step_plan-then-due-2.ensures.0,
      omega (arith, o.0, o.1, o.2, c.step_plan-then-due-2.ensures.1),
      λ z. let j = parts.by_letter z c.plan_kind-letter.ensures c.in-Within.is in
          arms.missed_arm z j (sym (parts.tested z j (parts.early c.args.day.now.month)).2 ∙ sym c.test.ensures ∙ c.if-test.false) c.link-second-in-Within.ensures c.link-third.ensures c.delay-wait.ensures (sym c.due-else-test.ensures ∙ c.if-due-2.true) c.step_plan-then-due-2.ensures.2,
    )

pub returns-else-due-2 : goal.returns-else-due-2
returns-else-due-2 t c =
    let y = c.requires.0 in
    let n = node t (goal.at.returns-else-due-2 t c).After-plan_kind-letter c.in-Within.is in (
      c.keep_waiting-else-due-2.ensures.0 ∙ due.within_waits n (sym c.test.ensures ∙ c.if-test.false) (parts.some_left_of c.delay-wait.ensures (sym c.due-else-test.ensures ∙ c.if-due-2.false)),
      omega (arith, (parts.inside y).0, c.keep_waiting-else-due-2.ensures.1.counted),
      λ z. let j = parts.by_letter z c.plan_kind-letter.ensures c.in-Within.is in
          arms.within_arm z j (sym (parts.tested z j (parts.early c.args.day.now.month)).2 ∙ sym c.test.ensures ∙ c.if-test.false) c.delay-wait.ensures (sym c.due-else-test.ensures ∙ c.if-due-2.false) c.keep_waiting-else-due-2.ensures.1,
    )

pub returns-in-NoPlan : goal.returns-in-NoPlan
returns-in-NoPlan t c =
    let y = c.requires.0 in
    absurd (parts.by_letter y c.plan_kind-letter.ensures c.in-NoPlan.is)
