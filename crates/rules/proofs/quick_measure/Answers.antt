use Prim.Native.Nat.{◌%◌}
use Rattle.nodes.specs.Found.{plan_at}
use Rattle.nodes.specs.Table.{nat_of}
use Rattle.rules.proofs.Measuring.{all_kept, end_small, few_months, few_today, high_today, near_today, plain_read, seen_today, start_fits, start_small}
use borrow.Author.Tests.{leb-true}
use mathlib.Core.Path.{◌∙◌, sym}
use native.Mathlib.Omega.{arith}
use Rattle.rules.proofs.quick_measure.Goals as goal

pub overflow_sub-span : goal.overflow_sub-span
overflow_sub-span c =
    start_fits c.args.today.0 c.args.span c.args.bounds.now c.requires.1

pub nearer-low-requires : goal.nearer-low-requires
nearer-low-requires c =
    (start_small c.args.today.0 c.args.span c.args.bounds.now c.requires.1, few_months c.args.today.0 c.args.span c.args.bounds.now c.requires.1)

pub nearer-high-requires : goal.nearer-high-requires
nearer-high-requires c =
    (end_small c.args.today.0 c.args.span c.args.bounds.now c.requires.1, few_months c.args.today.0 c.args.span c.args.bounds.now c.requires.1)

pub quick_plan-found-requires : goal.quick_plan-found-requires
quick_plan-found-requires c =
    let l = c.nearer-low.ensures in
    let h = c.nearer-high.ensures in
    (c.requires.0, near_today c.args.today.0 c.args.span c.args.bounds.now c.requires.1 l h, few_today c.args.today.0 c.args.span c.args.bounds.now c.requires.1 l h)

pub nearer-length-requires : goal.nearer-length-requires
nearer-length-requires c =
    (high_today c.args.today.0 c.args.span c.args.bounds.now c.requires.1 c.nearer-low.ensures c.nearer-high.ensures, rw (plain_read {m = c.quick_plan-found.result % 1024} (omega arith)) (record { small = omega arith }))

pub returns-then-is_within : goal.returns-then-is_within
returns-then-is_within c =
    let h = c.nearer-high.ensures in
    let w = leb-true _ _ (sym c.is_within.ensures ∙ c.if-is_within.true) in
    let k = c.quick_plan-found.ensures.1 _ _ _ (seen_today c.args.today.0 c.args.span c.args.bounds.now c.requires.1 c.nearer-low.ensures h) w in
    let r = all_kept c.args.today.0 c.args.span c.args.bounds.now (plan_at nat_of 32 c.args.nodes.now 0) c.requires.1 h k _ c.nearer-length.ensures _ (plain_read w) in
    (r.0, r.1, c.quick_plan-found.ensures.2 w)
