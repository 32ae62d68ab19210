use Prim.Native.Nat.{◌+◌, ◌≤◌}
use lib.IntN.{◌-ℤ◌, pos}
use mir.Syntax.{w64}
use mir.Val.{to_z}
use Rattle.one_pass.specs.Packed.{behind, magnitude_in}
use lib.ListN.{length}
use borrow.Author.Tests.{eqb-true, leb-true}
use mathlib.Core.Bool.{and-true, true}
use mathlib.Core.List.{[]}
use mathlib.Core.Path.{◌∙◌, ◌≡◌, ap, sym}
use native.Mathlib.Omega.{arith}
use Rattle.language.proofs.Truth.{and_e}
use Rattle.language.specs.Limits.{max_amount}
use Rattle.language.specs.Rules.Settings.{fill}
use Rattle.language.specs.Rules.Table.{setting_at}
use Rattle.rules.proofs.Accepting.{in_table, whole_month}
use Rattle.rules.proofs.Measuring.{all_kept, end_small, few_months, few_today, high_today, near_today, plain_read, seen_today, start_fits, start_small}
use Rattle.rules.proofs.Texts.{check_accepted, halved, in_time_lem}
use Rattle.rules.proofs.measure_read.Goals as goal

pub overflow_sub-given : goal.overflow_sub-given
overflow_sub-given c =
    let i = in_time_lem c.requires.2 c.requires.3 in start_fits c.args.today.0 c.args.given.now.span [] i

pub nearer-low-requires : goal.nearer-low-requires
nearer-low-requires c =
    let i = in_time_lem c.requires.2 c.requires.3 in (start_small c.args.today.0 c.args.given.now.span [] i, few_months c.args.today.0 c.args.given.now.span [] i)

pub nearer-high-requires : goal.nearer-high-requires
nearer-high-requires c =
    let i = in_time_lem c.requires.2 c.requires.3 in (end_small c.args.today.0 c.args.given.now.span [] i, few_months c.args.today.0 c.args.given.now.span [] i)

pub plan_at-found-requires : goal.plan_at-found-requires
plan_at-found-requires c =
    let i = in_time_lem c.requires.2 c.requires.3 in (c.requires.0, omega arith, near_today c.args.today.0 c.args.given.now.span [] i c.nearer-low.ensures c.nearer-high.ensures, few_today c.args.today.0 c.args.given.now.span [] i c.nearer-low.ensures c.nearer-high.ensures, c.requires.1)

pub nearer-length-requires : goal.nearer-length-requires
nearer-length-requires c =
    let i = in_time_lem c.requires.2 c.requires.3 in (high_today c.args.today.0 c.args.given.now.span [] i c.nearer-low.ensures c.nearer-high.ensures, rw (plain_read {m = c.months.result} (omega (arith, c.months.ensures))) (record { small = omega (arith, c.months.ensures) }))

pub returns-then-table_ok : goal.returns-then-table_ok
returns-then-table_ok c =
    let t = and_e _ _ c.if-is_kept-place.true in
    let k : magnitude_in c.plan_at-found.result ≤ max_amount = leb-true _ _ (sym c.is_kept.ensures ∙ t.0) in
    let e : behind c.plan_at-found.result ≡ length c.args.text.now + 1 = sym c.place.ensures ∙ eqb-true _ _ t.1 in
    let a = c.args in
    let p = c.plan_at-found.ensures k in
    let ok = sym c.table_ok.ensures ∙ c.if-table_ok.true in
    let i = in_table a.given.now.days.now a.given.now.span.h a.given.now.span.f a.given.now.factors.now a.given.now.bounds.now a.given.now.values.now a.today.0 true p.plan ok c.requires.3 in
    let x = p.sure _ _ _ (seen_today a.today.0 a.given.now.span a.given.now.bounds.now i c.nearer-low.ensures c.nearer-high.ensures) in
    let r = all_kept a.today.0 a.given.now.span a.given.now.bounds.now (fill (setting_at a.given.now.days.now) p.plan) i c.nearer-high.ensures x _ (c.nearer-length.ensures ∙ ap (λ n. c.nearer-high.result.0 -ℤ to_z w64 n) c.months.ensures) _ (plain_read {m = c.magnitude.result} (omega (arith, k, c.magnitude.ensures)) ∙ ap pos (c.magnitude.ensures ∙ sym (halved c.plan_at-found.result))) in (check_accepted a.text.now c.requires.0 p.plan p.is e a.given.now.days.now a.given.now.span.h a.given.now.span.f a.given.now.factors.now a.given.now.bounds.now a.given.now.values.now a.today.0 ok (and-true _ ∙ c.requires.3) c.requires.1 p.set (whole_month a.given.now.span.f a.today.0 c.requires.3) _ r.0, r.1)
