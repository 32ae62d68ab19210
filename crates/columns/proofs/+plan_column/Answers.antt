use borrow.Author.Rules.{rules}
use mathlib.Core.Path.{◌∙◌, ◌≡◌, refl, sym}
use native.Mathlib.Omega.{arith}
use Rattle.columns.proofs.ColumnNodes as node
use Rattle.language.proofs.Payoff.Sizes.{unit_one}
use Rattle.pays.proofs.PlanNodes.{plan_inside}
use Rattle.pays.proofs.PlanParts.{delay_small, later_is, month_small}
use Rattle.language.specs.Calls.{sign_of}
use lib.ListN.{length}
use Prim.Native.Nat.{ℕ, ◌<◌}
use Rattle.columns.proofs.+plan_column.Goals as goal

pub plan_kind-letter-requires : goal.plan_kind-letter-requires
plan_kind-letter-requires t c =
    let h = c.requires in
    plan_inside _ _ _ h.2

pub add_penny-requires : goal.add_penny-requires
add_penny-requires t c =
    let h = c.requires in
    let n = node.column_node h.2 h.3 c.plan_kind-letter.ensures c.in-Transfer.is in
    (n.inside, h.0, h.1, node.penny_fits n)

pub overflow_add-at : goal.overflow_add-at
overflow_add-at t c =
    let h = c.requires in
    let n = node.column_node h.2 h.3 c.plan_kind-letter.ensures c.in-Scale.is in
    record { fits = omega (arith, n.inside.0) }

pub amount_value-a-requires : goal.amount_value-a-requires
amount_value-a-requires t c =
    let h = c.requires in
    let n = node.column_node h.2 h.3 c.plan_kind-letter.ensures c.in-Scale.is in
    let a = node.scale_amount n in
    (h.0, a.0, a.1)

pub product-requires : goal.product-requires
product-requires t c =
    let h = c.requires in
    let n = node.column_node h.2 h.3 c.plan_kind-letter.ensures c.in-Scale.is in
    node.scale_factors n c.amount_value-a.ensures

pub link-second-requires : goal.link-second-requires
link-second-requires t c =
    let h = c.requires in
    let n = node.column_node h.2 h.3 c.plan_kind-letter.ensures c.in-Scale.is in
    (n.inside, omega arith, node.scale_link n)

pub overflow_sub-left : goal.overflow_sub-left
overflow_sub-left t c =
    let h = c.requires in
    let n = node.column_node h.2 h.3 c.plan_kind-letter.ensures c.in-Scale.is in
    omega (arith, n.some)

pub plan_column-requires : goal.plan_column-requires
plan_column-requires t c =
    let h = c.requires in
    let n = node.column_node h.2 h.3 c.plan_kind-letter.ensures c.in-Scale.is in
    let w = node.scale_walks n c.amount_value-a.ensures _ (sym c.in-Some.is ∙ c.product.ensures) c.link-second.ensures in
    (omega (arith, n.some), (h.0, h.1, w.0, w.1))

pub delay-requires : goal.delay-requires
delay-requires t c =
    let h = c.requires in
    plan_inside _ _ _ h.2

pub later-next-requires : goal.later-next-requires
later-next-requires t c =
    let h = c.requires in
    let n = node.column_node h.2 h.3 c.plan_kind-letter.ensures c.in-Later.is in
    (month_small h.0, delay_small _ c.delay.ensures (node.later_months n))

pub overflow_add-at-in-Later : goal.overflow_add-at-in-Later
overflow_add-at-in-Later t c =
    let h = c.requires in
    let n = node.column_node h.2 h.3 c.plan_kind-letter.ensures c.in-Later.is in
    record { fits = omega (arith, n.inside.0) }

pub overflow_sub-left-in-Later : goal.overflow_sub-left-in-Later
overflow_sub-left-in-Later t c =
    let h = c.requires in
    let n = node.column_node h.2 h.3 c.plan_kind-letter.ensures c.in-Later.is in
    omega (arith, n.some)

pub plan_column-requires-in-Later : goal.plan_column-requires-in-Later
plan_column-requires-in-Later t c =
    let h = c.requires in
    let n = node.column_node h.2 h.3 c.plan_kind-letter.ensures c.in-Later.is in
    let w = node.later_walks n (later_is h.0 c.delay.ensures c.later-next.ensures) in
    (omega (arith, n.some), (w.0, h.1, w.1.0, w.1.1))

pub overflow_add-at-in-Both : goal.overflow_add-at-in-Both
overflow_add-at-in-Both t c =
    let h = c.requires in
    let n = node.column_node h.2 h.3 c.plan_kind-letter.ensures c.in-Both.is in
    record { fits = omega (arith, n.inside.0) }

pub overflow_sub-left-in-Both : goal.overflow_sub-left-in-Both
overflow_sub-left-in-Both t c =
    let h = c.requires in
    let n = node.column_node h.2 h.3 c.plan_kind-letter.ensures c.in-Both.is in
    omega (arith, n.some)

pub plan_column-requires-in-Both : goal.plan_column-requires-in-Both
plan_column-requires-in-Both t c =
    let h = c.requires in
    let n = node.column_node h.2 h.3 c.plan_kind-letter.ensures c.in-Both.is in
    let w = node.first_walks n in
    (omega (arith, n.some), (h.0, h.1, w.0, w.1))

pub link-second-requires-in-Both : goal.link-second-requires-in-Both
link-second-requires-in-Both t c =
    let h = c.requires in
    let n = node.column_node h.2 h.3 c.plan_kind-letter.ensures c.in-Both.is in
    (n.inside, omega arith, node.both_link n)

pub overflow_sub-left-in-Both-2 : goal.overflow_sub-left-in-Both-2
overflow_sub-left-in-Both-2 t c =
    let h = c.requires in
    let n = node.column_node h.2 h.3 c.plan_kind-letter.ensures c.in-Both.is in
    omega (arith, n.some)

pub plan_column-requires-in-Both-2 : goal.plan_column-requires-in-Both-2
plan_column-requires-in-Both-2 t c =
    let h = c.requires in
    let n = node.column_node h.2 h.3 c.plan_kind-letter.ensures c.in-Both.is in
    let e : length c.plan_column-in-Both.new.column ≡ length c.args.column.now = search rules in
    let w = node.second_walks n (sign_of c.args.pair.p c.args.pair.q) (unit_one _ _) e c.plan_column-in-Both.ensures c.link-second-in-Both.ensures in
    (omega (arith, n.some), (h.0, h.1, w.0, w.1))

pub delay-d-requires : goal.delay-d-requires
delay-d-requires t c =
    let h = c.requires in
    plan_inside _ _ _ h.2

pub overflow_add-at-in-Within : goal.overflow_add-at-in-Within
overflow_add-at-in-Within t c =
    let h = c.requires in
    let n = node.column_node h.2 h.3 c.plan_kind-letter.ensures c.in-Within.is in
    record { fits = omega (arith, n.inside.0) }

pub wait_for-requires : goal.wait_for-requires
wait_for-requires t c =
    let h = c.requires in
    let n = node.column_node h.2 h.3 c.plan_kind-letter.ensures c.in-Within.is in
    node.within_test n h.0 refl c.delay-d.ensures

pub link-second-requires-in-Held : goal.link-second-requires-in-Held
link-second-requires-in-Held t c =
    let h = c.requires in
    let n = node.column_node h.2 h.3 c.plan_kind-letter.ensures c.in-Within.is in
    (n.inside, omega arith, node.held_link n)

pub overflow_sub-left-in-Held : goal.overflow_sub-left-in-Held
overflow_sub-left-in-Held t c =
    let h = c.requires in
    let n = node.column_node h.2 h.3 c.plan_kind-letter.ensures c.in-Within.is in
    omega (arith, n.some)

pub plan_column-requires-in-Held : goal.plan_column-requires-in-Held
plan_column-requires-in-Held t c =
    let h = c.requires in
    let n = node.column_node h.2 h.3 c.plan_kind-letter.ensures c.in-Within.is in
    let w = node.held_walks n c.delay-d.ensures _ (sym c.in-Held.is ∙ c.wait_for.ensures) c.link-second-in-Held.ensures in
    (omega (arith, n.some), (w.0, h.1, w.1.0, w.1.1))

pub link-third-requires : goal.link-third-requires
link-third-requires t c =
    let h = c.requires in
    let n = node.column_node h.2 h.3 c.plan_kind-letter.ensures c.in-Within.is in
    (n.inside, omega arith, node.missed_link n)

pub overflow_sub-left-in-Missed : goal.overflow_sub-left-in-Missed
overflow_sub-left-in-Missed t c =
    let h = c.requires in
    let n = node.column_node h.2 h.3 c.plan_kind-letter.ensures c.in-Within.is in
    omega (arith, n.some)

pub plan_column-requires-in-Missed : goal.plan_column-requires-in-Missed
plan_column-requires-in-Missed t c =
    let h = c.requires in
    let n = node.column_node h.2 h.3 c.plan_kind-letter.ensures c.in-Within.is in
    let w = node.missed_walks n c.delay-d.ensures _ (sym c.in-Missed.is ∙ c.wait_for.ensures) c.link-third.ensures in
    (omega (arith, n.some), (w.0, h.1, w.1.0, w.1.1))

pub returns-in-Nothing : goal.returns-in-Nothing
returns-in-Nothing t c =
    let h = c.requires in
    let n = node.column_node h.2 h.3 c.plan_kind-letter.ensures c.in-Nothing.is in
    node.nothing_arm _ n

pub returns-in-Transfer : goal.returns-in-Transfer
returns-in-Transfer t c =
    let h = c.requires in
    let n = node.column_node h.2 h.3 c.plan_kind-letter.ensures c.in-Transfer.is in
    node.transfer_arm _ n c.add_penny.ensures

pub returns-in-Some : goal.returns-in-Some
returns-in-Some t c =
    let h = c.requires in
    let n = node.column_node h.2 h.3 c.plan_kind-letter.ensures c.in-Scale.is in
    node.scale_arm n c.amount_value-a.ensures _ (sym c.in-Some.is ∙ c.product.ensures) c.link-second.ensures (sign_of c.args.pair.p c.args.pair.q) (unit_one _ _) c.plan_column.ensures

pub returns-in_default : goal.returns-in_default
returns-in_default t c =
    let h = c.requires in
    let n = node.column_node h.2 h.3 c.plan_kind-letter.ensures c.in-Scale.is in
    node.beyond_arm n c.amount_value-a.ensures (sym c.in_default.is ∙ c.product.ensures) (sign_of c.args.pair.p c.args.pair.q) (unit_one _ _)

pub returns-in-Later : goal.returns-in-Later
returns-in-Later t c =
    let h = c.requires in
    let n = node.column_node h.2 h.3 c.plan_kind-letter.ensures c.in-Later.is in
    node.later_arm n (later_is h.0 c.delay.ensures c.later-next.ensures) (sign_of c.args.pair.p c.args.pair.q) c.plan_column-in-Later.ensures

pub returns-in-Both : goal.returns-in-Both
returns-in-Both t c =
    let h = c.requires in
    let n = node.column_node h.2 h.3 c.plan_kind-letter.ensures c.in-Both.is in
    let e : length c.plan_column-in-Both.new.column ≡ length c.args.column.now = search rules in
    node.both_arm n (sign_of c.args.pair.p c.args.pair.q) (unit_one _ _) e c.plan_column-in-Both.ensures c.link-second-in-Both.ensures c.plan_column-in-Both-2.ensures

pub returns-in-Held : goal.returns-in-Held
returns-in-Held t c =
    let h = c.requires in
    let n = node.column_node h.2 h.3 c.plan_kind-letter.ensures c.in-Within.is in
    node.held_arm n c.delay-d.ensures _ (sym c.in-Held.is ∙ c.wait_for.ensures) c.link-second-in-Held.ensures (sign_of c.args.pair.p c.args.pair.q) c.plan_column-in-Held.ensures

pub returns-in-Missed : goal.returns-in-Missed
returns-in-Missed t c =
    let h = c.requires in
    let n = node.column_node h.2 h.3 c.plan_kind-letter.ensures c.in-Within.is in
    node.missed_arm n c.delay-d.ensures _ (sym c.in-Missed.is ∙ c.wait_for.ensures) c.link-third.ensures (sign_of c.args.pair.p c.args.pair.q) c.plan_column-in-Missed.ensures

pub returns-in-NoPlan : goal.returns-in-NoPlan
returns-in-NoPlan t c =
    let h = c.requires in
    let n = node.column_node h.2 h.3 c.plan_kind-letter.ensures c.in-NoPlan.is in
    node.no_plan_arm _ n
