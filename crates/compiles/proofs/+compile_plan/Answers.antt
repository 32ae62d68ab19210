use Prim.Native.Nat.{◌+◌, ◌≤◌}
use native.Mathlib.Omega.{arith}
use Rattle.compiles.proofs.CompileArms as arms
use Rattle.compiles.proofs.CompileParts as parts
use Rattle.compiles.proofs.+compile_plan.Goals as goal

pub plan_kind-letter-requires : goal.plan_kind-letter-requires
plan_kind-letter-requires t c =
    parts.row_in_lem c.requires.0

pub put_letter-requires : goal.put_letter-requires
put_letter-requires t c =
    let y = c.requires.0 in
    omega (arith, c.requires.1, (parts.inside y).0, (parts.inside y).2)

pub put_leaf-requires : goal.put_leaf-requires
put_leaf-requires t c =
    (parts.row_in_lem c.requires.0, c.requires.1)

pub link-second-requires : goal.link-second-requires
link-second-requires t c =
    let y = c.requires.0 in
    let i = parts.by_letter y c.plan_kind-letter.ensures c.in-Scale.is in
    (parts.row_in_lem y, omega arith, (parts.scale_parts y i).forward)

pub put_letter-a-requires : goal.put_letter-a-requires
put_letter-a-requires t c =
    let y = c.requires.0 in
    omega (arith, c.requires.1, (parts.inside y).0, (parts.inside y).2)

pub overflow_add-at : goal.overflow_add-at
overflow_add-at t c =
    let y = c.requires.0 in
    record { fits = omega (arith, (parts.inside y).0, (parts.inside y).1) }

pub copy_rows-b-requires : goal.copy_rows-b-requires
copy_rows-b-requires t c =
    let y = c.requires.0 in
    let i = parts.by_letter y c.plan_kind-letter.ensures c.in-Scale.is in
    let o = parts.scale_order y i c.link-second.ensures in
    let u = c.put_letter-a.ensures in
    (parts.plain_small y, o.0, omega (arith, o.1, (parts.inside y).1), omega (arith, o.1, (parts.inside y).2, u.size), omega (arith, c.requires.1, u.ends))

pub overflow_sub-left : goal.overflow_sub-left
overflow_sub-left t c =
    let y = c.requires.0 in
    omega (arith, parts.some_left y)

pub compile_plan-requires : goal.compile_plan-requires
compile_plan-requires t c =
    let y = c.requires.0 in
    let i = parts.by_letter y c.plan_kind-letter.ensures c.in-Scale.is in
    let u = c.put_letter-a.ensures in
    let b : c.put_letter-a.result ≤ c.args.at + 1 = omega (arith, c.requires.1, u.ends) in
    let e = c.link-second.ensures in
    let v = c.copy_rows-b.ensures in
    (omega (arith, parts.some_left y), (parts.scale_next y i e b u v, parts.scaled_before y i e b u v))

pub delay-d-requires : goal.delay-d-requires
delay-d-requires t c =
    parts.row_in_lem c.requires.0

pub later_plain-p-requires : goal.later_plain-p-requires
later_plain-p-requires t c =
    let y = c.requires.0 in
    let i = parts.by_letter y c.plan_kind-letter.ensures c.in-Later.is in
    (parts.plain_small y, parts.later_in y i c.delay-d.ensures)

pub later_digits-g-requires : goal.later_digits-g-requires
later_digits-g-requires t c =
    let y = c.requires.0 in
    let i = parts.by_letter y c.plan_kind-letter.ensures c.in-Later.is in
    (parts.digits_small y, parts.later_in y i c.delay-d.ensures)

pub overflow_add-at-in-Later : goal.overflow_add-at-in-Later
overflow_add-at-in-Later t c =
    let y = c.requires.0 in
    record { fits = omega (arith, (parts.inside y).0, (parts.inside y).1) }

pub overflow_sub-left-in-Later : goal.overflow_sub-left-in-Later
overflow_sub-left-in-Later t c =
    let y = c.requires.0 in
    omega (arith, parts.some_left y)

pub compile_plan-requires-in-Later : goal.compile_plan-requires-in-Later
compile_plan-requires-in-Later t c =
    let y = c.requires.0 in
    let i = parts.by_letter y c.plan_kind-letter.ensures c.in-Later.is in
    (omega (arith, parts.some_left y), (parts.later_ready y i c.delay-d.ensures c.later_plain-p.ensures c.later_digits-g.ensures, omega (arith, c.requires.1)))

pub link-second-requires-in-Both : goal.link-second-requires-in-Both
link-second-requires-in-Both t c =
    let y = c.requires.0 in
    let i = parts.by_letter y c.plan_kind-letter.ensures c.in-Both.is in
    (parts.row_in_lem y, omega arith, (parts.both_parts y i).forward)

pub put_letter-a-requires-in-Both : goal.put_letter-a-requires-in-Both
put_letter-a-requires-in-Both t c =
    let y = c.requires.0 in
    omega (arith, c.requires.1, (parts.inside y).0, (parts.inside y).2)

pub overflow_add-at-in-Both : goal.overflow_add-at-in-Both
overflow_add-at-in-Both t c =
    let y = c.requires.0 in
    record { fits = omega (arith, (parts.inside y).0, (parts.inside y).1) }

pub overflow_sub-left-in-Both : goal.overflow_sub-left-in-Both
overflow_sub-left-in-Both t c =
    let y = c.requires.0 in
    omega (arith, parts.some_left y)

pub compile_plan-b-requires : goal.compile_plan-b-requires
compile_plan-b-requires t c =
    let y = c.requires.0 in
    let i = parts.by_letter y c.plan_kind-letter.ensures c.in-Both.is in
    let u = c.put_letter-a-in-Both.ensures in
    let b : c.put_letter-a-in-Both.result ≤ c.args.at + 1 = omega (arith, c.requires.1, u.ends) in
    (omega (arith, parts.some_left y), (parts.first_next y i c.link-second-in-Both.ensures b u, b))

pub overflow_sub-left-in-Both-2 : goal.overflow_sub-left-in-Both-2
overflow_sub-left-in-Both-2 t c =
    let y = c.requires.0 in
    omega (arith, parts.some_left y)

pub compile_plan-requires-in-Both : goal.compile_plan-requires-in-Both
compile_plan-requires-in-Both t c =
    let y = c.requires.0 in
    let i = parts.by_letter y c.plan_kind-letter.ensures c.in-Both.is in
    let u = c.put_letter-a-in-Both.ensures in
    let b : c.put_letter-a-in-Both.result ≤ c.args.at + 1 = omega (arith, c.requires.1, u.ends) in
    let e = c.link-second-in-Both.ensures in
    let v = c.compile_plan-b.ensures in
    let h : c.compile_plan-b.result ≤ c.link-second-in-Both.result = omega (arith, b, v.0) in
    (omega (arith, parts.some_left y), (parts.second_next y i e b u h (v.1 (parts.first_next y i e b u)), h))

pub link-second-requires-in-Within : goal.link-second-requires-in-Within
link-second-requires-in-Within t c =
    let y = c.requires.0 in
    let i = parts.by_letter y c.plan_kind-letter.ensures c.in-Within.is in
    (parts.row_in_lem y, omega arith, (parts.within_parts y i).forward)

pub link-third-requires : goal.link-third-requires
link-third-requires t c =
    let y = c.requires.0 in
    let i = parts.by_letter y c.plan_kind-letter.ensures c.in-Within.is in
    (parts.row_in_lem y, omega arith, (parts.within_parts y i).forward_again)

pub copy_row-a-requires : goal.copy_row-a-requires
copy_row-a-requires t c =
    (parts.row_in_lem c.requires.0, c.requires.1)

pub overflow_add-at-in-Within : goal.overflow_add-at-in-Within
overflow_add-at-in-Within t c =
    let y = c.requires.0 in
    record { fits = omega (arith, (parts.inside y).0, (parts.inside y).1) }

pub copy_rows-b-requires-in-Within : goal.copy_rows-b-requires-in-Within
copy_rows-b-requires-in-Within t c =
    let y = c.requires.0 in
    let i = parts.by_letter y c.plan_kind-letter.ensures c.in-Within.is in
    let o = parts.within_order y i c.link-second-in-Within.ensures c.link-third.ensures in
    let u = c.copy_row-a.ensures in
    (parts.plain_small y, o.0, omega (arith, o.1, o.2, (parts.inside y).1), omega (arith, o.1, o.2, (parts.inside y).2, u.size), omega (arith, c.requires.1, u.ends))

pub overflow_sub-left-in-Within : goal.overflow_sub-left-in-Within
overflow_sub-left-in-Within t c =
    let y = c.requires.0 in
    omega (arith, parts.some_left y)

pub compile_plan-c-requires : goal.compile_plan-c-requires
compile_plan-c-requires t c =
    let y = c.requires.0 in
    let i = parts.by_letter y c.plan_kind-letter.ensures c.in-Within.is in
    let u = c.copy_row-a.ensures in
    let b : c.copy_row-a.result ≤ c.args.at + 1 = omega (arith, c.requires.1, u.ends) in
    let e = c.link-second-in-Within.ensures in
    let g = c.link-third.ensures in
    let v = c.copy_rows-b-in-Within.ensures in
    (omega (arith, parts.some_left y), (parts.held_next y i e g b u v, parts.tested_before y i e g b u v))

pub overflow_sub-left-in-Within-2 : goal.overflow_sub-left-in-Within-2
overflow_sub-left-in-Within-2 t c =
    let y = c.requires.0 in
    omega (arith, parts.some_left y)

pub compile_plan-requires-in-Within : goal.compile_plan-requires-in-Within
compile_plan-requires-in-Within t c =
    let y = c.requires.0 in
    let i = parts.by_letter y c.plan_kind-letter.ensures c.in-Within.is in
    let u = c.copy_row-a.ensures in
    let b : c.copy_row-a.result ≤ c.args.at + 1 = omega (arith, c.requires.1, u.ends) in
    let e = c.link-second-in-Within.ensures in
    let g = c.link-third.ensures in
    let v = c.copy_rows-b-in-Within.ensures in
    let w = c.compile_plan-c.ensures in
    let h : c.compile_plan-c.result ≤ c.link-third.result = omega (arith, parts.tested_before y i e g b u v, w.0) in
    (omega (arith, parts.some_left y), (parts.missed_next y i e g b u v h (w.1 (parts.held_next y i e g b u v)), h))

pub returns-in-Nothing : goal.returns-in-Nothing
returns-in-Nothing t c =
    let y = c.requires.0 in
    (omega (arith, (parts.inside y).0, c.put_letter.ensures.ends), λ z. arms.nothing_arm z (parts.by_letter z c.plan_kind-letter.ensures c.in-Nothing.is) c.put_letter.ensures)

pub returns-in-Transfer : goal.returns-in-Transfer
returns-in-Transfer t c =
    let y = c.requires.0 in
    (omega (arith, (parts.inside y).0, c.put_leaf.ensures.ends), λ z. arms.transfer_arm z (parts.by_letter z c.plan_kind-letter.ensures c.in-Transfer.is) c.put_leaf.ensures)

pub returns-in-Scale : goal.returns-in-Scale
returns-in-Scale t c =
    let y = c.requires.0 in
    let i = parts.by_letter y c.plan_kind-letter.ensures c.in-Scale.is in
    let u = c.put_letter-a.ensures in
    let b : c.put_letter-a.result ≤ c.args.at + 1 = omega (arith, c.requires.1, u.ends) in
    let e = c.link-second.ensures in
    let o = parts.scale_order y i e in
    let v = c.copy_rows-b.ensures in
    let w = c.compile_plan.ensures in
    (omega (arith, o.0, o.1, u.ends, v.counted, w.0), λ z. arms.scale_arm z e b (parts.by_letter z c.plan_kind-letter.ensures c.in-Scale.is) u v w.1)

pub returns-in-Later : goal.returns-in-Later
returns-in-Later t c =
    (omega (arith, c.compile_plan-in-Later.ensures.0), λ z. arms.later_arm z (parts.by_letter z c.plan_kind-letter.ensures c.in-Later.is) c.delay-d.ensures c.later_plain-p.ensures c.later_digits-g.ensures c.compile_plan-in-Later.ensures.1)

pub returns-in-Both : goal.returns-in-Both
returns-in-Both t c =
    let y = c.requires.0 in
    let i = parts.by_letter y c.plan_kind-letter.ensures c.in-Both.is in
    let u = c.put_letter-a-in-Both.ensures in
    let b : c.put_letter-a-in-Both.result ≤ c.args.at + 1 = omega (arith, c.requires.1, u.ends) in
    let e = c.link-second-in-Both.ensures in
    let v = c.compile_plan-b.ensures in
    let h : c.compile_plan-b.result ≤ c.link-second-in-Both.result = omega (arith, b, v.0) in
    let o = parts.both_order y i e in
    let w = c.compile_plan-in-Both.ensures in
    (omega (arith, o.0, o.1, u.ends, v.0, w.0), λ z. arms.both_arm z e b (parts.by_letter z c.plan_kind-letter.ensures c.in-Both.is) u h v.1 w.1)

pub returns-in-Within : goal.returns-in-Within
returns-in-Within t c =
    let y = c.requires.0 in
    let i = parts.by_letter y c.plan_kind-letter.ensures c.in-Within.is in
    let u = c.copy_row-a.ensures in
    let b : c.copy_row-a.result ≤ c.args.at + 1 = omega (arith, c.requires.1, u.ends) in
    let e = c.link-second-in-Within.ensures in
    let g = c.link-third.ensures in
    let v = c.copy_rows-b-in-Within.ensures in
    let w = c.compile_plan-c.ensures in
    let h : c.compile_plan-c.result ≤ c.link-third.result = omega (arith, parts.tested_before y i e g b u v, w.0) in
    let o = parts.within_order y i e g in
    let x = c.compile_plan-in-Within.ensures in
    (omega (arith, o.0, o.1, o.2, u.ends, v.counted, w.0, x.0), λ z. arms.within_arm z e b g (parts.by_letter z c.plan_kind-letter.ensures c.in-Within.is) u v h w.1 x.1)

pub returns-in-NoPlan : goal.returns-in-NoPlan
returns-in-NoPlan t c =
    let y = c.requires.0 in
    absurd (parts.by_letter y c.plan_kind-letter.ensures c.in-NoPlan.is)
