use borrow.Author.Rules.{rules}
use borrow.Author.Tests.{leb-true}
use lib.IntN.{pos}
use mathlib.Core.Path.{◌∙◌, ap, sym}
use mir.Facts.{to_z-of_z}
use mir.Syntax.{w64}
use mir.Val.{SFits, to_z}
use native.Mathlib.Omega.{arith}
use Rattle.measures.proofs.Lengths.{few, length_bound}
use Rattle.nodes.specs.Found.{plan_at}
use Rattle.nodes.specs.Table.{nat_of}
use Rattle.rules.proofs.Measuring.{accepted, end_small, few_months, late, near_today, plain_fits, plain_read, seen_today, start_fits, start_small, too_great, too_long, unread}
use Rattle.rules.proofs.measure_in_order.Goals as goal

pub overflow_cast-length : goal.overflow_cast-length
overflow_cast-length c =
    let k = c.measure_plan-m.ensures _ _ _ (seen_today c.args.today.0 c.args.span c.args.bounds.now c.requires.1 c.nearer-low.ensures c.nearer-high.ensures) in
    plain_fits (omega (arith, k.length, length_bound c.requires.0))

pub later-last-requires : goal.later-last-requires
later-last-requires c =
    let k = c.measure_plan-m.ensures _ _ _ (seen_today c.args.today.0 c.args.span c.args.bounds.now c.requires.1 c.nearer-low.ensures c.nearer-high.ensures) in
    let b = length_bound c.requires.0 in
    (few_months c.args.today.0 c.args.span c.args.bounds.now c.requires.1, few (plain_read (omega (arith, k.length, b)) ∙ ap pos k.length) (omega (arith, b)))

pub returns-then-span-last : goal.returns-then-span-last
returns-then-span-last c =
    let k = c.measure_plan-m.ensures _ _ _ (seen_today c.args.today.0 c.args.span c.args.bounds.now c.requires.1 c.nearer-low.ensures c.nearer-high.ensures) in
    let x = plan_at nat_of 32 c.args.nodes.now 0 in
    let e = plain_read (omega (arith, k.length, length_bound c.requires.0)) ∙ ap pos k.length in
    let f : SFits w64 c.args.span.f = search rules in
    let g : SFits w64 c.later-last.result.0 = search rules in
    let t = rw (to_z-of_z f, to_z-of_z g, c.later-last.ensures) at c.if-span-last.true in
    (too_long c.args.today.0 c.args.span c.args.bounds.now x c.requires.1 _ e t, tt)

pub returns : goal.returns
returns c =
    let k = c.measure_plan-m.ensures _ _ _ (seen_today c.args.today.0 c.args.span c.args.bounds.now c.requires.1 c.nearer-low.ensures c.nearer-high.ensures) in
    let x = plan_at nat_of 32 c.args.nodes.now 0 in
    let e = plain_read (omega (arith, k.length, length_bound c.requires.0)) ∙ ap pos k.length in
    let f : SFits w64 c.args.span.f = search rules in
    let g : SFits w64 c.later-last.result.0 = search rules in
    let t = rw (to_z-of_z f, to_z-of_z g, c.later-last.ensures) at c.if-span-last.false in
    let w = sym c.is_within.ensures ∙ c.if-not-is_within.false in
    accepted c.args.today.0 c.args.span c.args.bounds.now x c.requires.1 _ e t k.reads c.if-not-reads.false k.known c.if-not-known.false k.magnitude w _ (plain_read (leb-true _ _ w))

pub returns-then-not-is_within : goal.returns-then-not-is_within
returns-then-not-is_within c =
    let k = c.measure_plan-m.ensures _ _ _ (seen_today c.args.today.0 c.args.span c.args.bounds.now c.requires.1 c.nearer-low.ensures c.nearer-high.ensures) in
    let x = plan_at nat_of 32 c.args.nodes.now 0 in
    let e = plain_read (omega (arith, k.length, length_bound c.requires.0)) ∙ ap pos k.length in
    let f : SFits w64 c.args.span.f = search rules in
    let g : SFits w64 c.later-last.result.0 = search rules in
    let t = rw (to_z-of_z f, to_z-of_z g, c.later-last.ensures) at c.if-span-last.false in
    let w = sym c.is_within.ensures ∙ c.if-not-is_within.true in
    (too_great c.args.today.0 c.args.span c.args.bounds.now x c.requires.1 (record { 0 = to_z w64 c.measure_plan-m.result.length }) e t k.reads c.if-not-reads.false k.known c.if-not-known.false k.magnitude w, tt)

pub returns-then-not-known : goal.returns-then-not-known
returns-then-not-known c =
    let k = c.measure_plan-m.ensures _ _ _ (seen_today c.args.today.0 c.args.span c.args.bounds.now c.requires.1 c.nearer-low.ensures c.nearer-high.ensures) in
    let x = plan_at nat_of 32 c.args.nodes.now 0 in
    let e = plain_read (omega (arith, k.length, length_bound c.requires.0)) ∙ ap pos k.length in
    let f : SFits w64 c.args.span.f = search rules in
    let g : SFits w64 c.later-last.result.0 = search rules in
    let t = rw (to_z-of_z f, to_z-of_z g, c.later-last.ensures) at c.if-span-last.false in
    (late c.args.today.0 c.args.span c.args.bounds.now x c.requires.1 (record { 0 = to_z w64 c.measure_plan-m.result.length }) e t k.reads c.if-not-reads.false k.known c.if-not-known.true, tt)

pub returns-then-not-reads : goal.returns-then-not-reads
returns-then-not-reads c =
    let k = c.measure_plan-m.ensures _ _ _ (seen_today c.args.today.0 c.args.span c.args.bounds.now c.requires.1 c.nearer-low.ensures c.nearer-high.ensures) in
    let x = plan_at nat_of 32 c.args.nodes.now 0 in
    let e = plain_read (omega (arith, k.length, length_bound c.requires.0)) ∙ ap pos k.length in
    let f : SFits w64 c.args.span.f = search rules in
    let g : SFits w64 c.later-last.result.0 = search rules in
    let t = rw (to_z-of_z f, to_z-of_z g, c.later-last.ensures) at c.if-span-last.false in
    (unread c.args.today.0 c.args.span c.args.bounds.now x c.requires.1 (record { 0 = to_z w64 c.measure_plan-m.result.length }) e t k.reads c.if-not-reads.true, tt)
