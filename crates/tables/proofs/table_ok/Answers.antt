use Rattle.std.proofs.Common.{◌+◌, ◌≤◌, ◌&&◌, pos, nat_abs, sym, refl, ◌∙◌, ap₂, mul-le-mul, arith, to_z-of_z, w64, SFits, rules, eq-eqb, ne_eqb}
use Rattle.integers.proofs.Locals.{rd}
use Rattle.language.specs.Text.Number.{between}
use Rattle.nodes.proofs.Signed.{index_cast}
use Rattle.tables.proofs.Spans.{UpTo, both_true, bounds_fine, by_values, few_labels, no_count, no_parts, no_span, up_to_lem}
use Rattle.tables.proofs.table_ok.Goals as goal
use Rattle.tables.proofs.table_ok.Goals.{Then-span_ok}

-- the span was found in range
module _ (c : Then-span_ok) where
  h_up_to : UpTo 60 c.args.span.h
  h_up_to = up_to_lem 60 _ (both_true _ (between (pos 0) (pos 600) c.args.span.f) (sym c.span_ok.ensures ∙ c.if-span_ok.true)).0

  f_up_to : UpTo 600 c.args.span.f
  f_up_to = up_to_lem 600 _ (both_true (between (pos 0) (pos 60) c.args.span.h) _ (sym c.span_ok.ensures ∙ c.if-span_ok.true)).1

pub overflow_cast-months : goal.overflow_cast-months
overflow_cast-months c =
    let f : SFits w64 c.args.span.f = search rules in
    index_cast _ _ f refl (f_up_to (goal.at.overflow_cast-months c).Then-span_ok).natural

pub overflow_add-months : goal.overflow_add-months
overflow_add-months c =
    let f : SFits w64 c.args.span.f = search rules in
    rw (to_z-of_z f) (omega (arith, (f_up_to (goal.at.overflow_add-months c).Then-span_ok).small))

pub overflow_cast-n : goal.overflow_cast-n
overflow_cast-n c =
    let f : SFits w64 c.args.span.h = search rules in
    index_cast _ _ f refl (h_up_to (goal.at.overflow_cast-n c).Then-span_ok).natural

pub overflow_add-n : goal.overflow_add-n
overflow_add-n c =
    let f : SFits w64 c.args.span.f = search rules in
    let h : SFits w64 c.args.span.h = search rules in
    rw (to_z-of_z f, to_z-of_z h) (omega (arith, (f_up_to (goal.at.overflow_add-n c).Then-span_ok).small, (h_up_to (goal.at.overflow_add-n c).Then-span_ok).small))

pub overflow_mul-bounds : goal.overflow_mul-bounds
overflow_mul-bounds c =
    let f : SFits w64 c.args.span.f = search rules in
    let h : SFits w64 c.args.span.h = search rules in
    let ok = sym c.span_ok.ensures ∙ c.if-span_ok.true in
    let e = sym (ap₂ ◌&&◌ c.factors_ok.ensures c.bounds_ok.ensures) ∙ c.if-factors_ok-bounds_ok.true in
    let l = few_labels c.args.span.h c.args.span.f c.args.factors.now c.args.bounds.now c.args.values.now (rd c.args.span.f) e in
    let m : nat_abs c.args.span.h + (nat_abs c.args.span.f + 1) ≤ 661 = omega (arith, (f_up_to (goal.at.overflow_mul-bounds c).Then-span_ok).small, (h_up_to (goal.at.overflow_mul-bounds c).Then-span_ok).small) in
    rw (to_z-of_z f, to_z-of_z h) (omega (arith, mul-le-mul l m))

pub values_bounded-requires : goal.values_bounded-requires
values_bounded-requires c =
    let e = sym (ap₂ ◌&&◌ c.factors_ok.ensures c.bounds_ok.ensures) ∙ c.if-factors_ok-bounds_ok.true in
    (c.if-values-bounds.true, bounds_fine c.args.span.h c.args.span.f c.args.factors.now c.args.bounds.now c.args.values.now (rd c.args.span.f) e)

pub returns-then-values-bounds : goal.returns-then-values-bounds
returns-then-values-bounds c =
    let f : SFits w64 c.args.span.f = search rules in
    let h : SFits w64 c.args.span.h = search rules in
    let ok = sym c.span_ok.ensures ∙ c.if-span_ok.true in
    let e = sym (ap₂ ◌&&◌ c.factors_ok.ensures c.bounds_ok.ensures) ∙ c.if-factors_ok-bounds_ok.true in
    by_values c.args.span.h c.args.span.f c.args.factors.now c.args.bounds.now c.args.values.now _ _ (to_z-of_z h) (to_z-of_z f) ok e (eq-eqb _ _ c.if-values-bounds.true) c.values_bounded.ensures

pub returns-else-values-bounds : goal.returns-else-values-bounds
returns-else-values-bounds c =
    let f : SFits w64 c.args.span.f = search rules in
    let h : SFits w64 c.args.span.h = search rules in
    let ok = sym c.span_ok.ensures ∙ c.if-span_ok.true in
    let e = sym (ap₂ ◌&&◌ c.factors_ok.ensures c.bounds_ok.ensures) ∙ c.if-factors_ok-bounds_ok.true in
    no_count c.args.span.h c.args.span.f c.args.factors.now c.args.bounds.now c.args.values.now _ _ (to_z-of_z h) (to_z-of_z f) ok e (ne_eqb _ _ c.if-values-bounds.false)

pub returns-else-factors_ok-bounds_ok : goal.returns-else-factors_ok-bounds_ok
returns-else-factors_ok-bounds_ok c =
    let f : SFits w64 c.args.span.f = search rules in
    let h : SFits w64 c.args.span.h = search rules in
    let ok = sym c.span_ok.ensures ∙ c.if-span_ok.true in
    let e = sym (ap₂ ◌&&◌ c.factors_ok.ensures c.bounds_ok.ensures) ∙ c.if-factors_ok-bounds_ok.false in
    no_parts c.args.span.h c.args.span.f c.args.factors.now c.args.bounds.now c.args.values.now _ _ (to_z-of_z h) (to_z-of_z f) ok e

pub returns-else-span_ok : goal.returns-else-span_ok
returns-else-span_ok c =
    no_span c.args.span.h c.args.span.f c.args.factors.now c.args.bounds.now c.args.values.now (sym c.span_ok.ensures ∙ c.if-span_ok.false)
