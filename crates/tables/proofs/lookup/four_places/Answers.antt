use Rattle.std.proofs.Common.{◌+◌, ◌*◌, ◌<◌, ◌+ℤ◌, nat_abs, refl, ap, ◌∙◌, arith, to_z-of_z, w64, SFits, rules}
use Rattle.nodes.proofs.Signed.{index_cast}
use Rattle.tables.proofs.Lookups.{at_injective, few, from_zero, nowhere_at, stands_on}
use Rattle.tables.proofs.lookup.four_places.Goals as goal

pub months-n-requires : goal.months-n-requires
months-n-requires c = c.requires.0

pub later-place-requires : goal.later-place-requires
later-place-requires c =
    let h : SFits w64 c.args.span.h = search rules in
    (c.requires.2, rw (to_z-of_z h) (record { small = omega (arith, c.requires.0.h_to) }))

pub returns-then-bounds-label : goal.returns-then-bounds-label
returns-then-bounds-label c = λ i e. absurd (nowhere_at i e)

pub returns-then-place-lt0 : goal.returns-then-place-lt0
returns-then-place-lt0 c = λ i e. absurd (nowhere_at i e)

pub overflow_cast-at : goal.overflow_cast-at
overflow_cast-at c =
    let a = c.args in
    let h : SFits w64 a.span.h = search rules in
    let p = c.later-place in
    let g : SFits w64 p.result.0 = search rules in
    let e = p.ensures ∙ ap (λ z. a.month.0 +ℤ z) (to_z-of_z h) in
    index_cast _ _ g refl (from_zero a.span.h a.span.f a.bounds.now c.requires.0 a.label a.month.0 (omega (arith, c.if-bounds-label.false)) _ e (rw (to_z-of_z g) at c.if-place-lt0.false))

pub returns-then-n-at : goal.returns-then-n-at
returns-then-n-at c = λ i e. absurd (nowhere_at i e)

pub overflow_sub-n : goal.overflow_sub-n
overflow_sub-n c = omega (arith, c.if-n-at.false)

pub returns-then-n-at-lt4 : goal.returns-then-n-at-lt4
returns-then-n-at-lt4 c = λ i e. absurd (nowhere_at i e)

pub overflow_mul-i : goal.overflow_mul-i
overflow_mul-i c =
    let a = c.args in
    let h : SFits w64 a.span.h = search rules in
    let p = c.later-place in
    let g : SFits w64 p.result.0 = search rules in
    let e = p.ensures ∙ ap (λ z. a.month.0 +ℤ z) (to_z-of_z h) in
    let d : nat_abs p.result.0 < nat_abs a.span.h + nat_abs a.span.f + 1 = omega (arith, c.if-n-at.false, c.months-n.ensures, ap nat_abs (to_z-of_z g)) in
    omega (arith, few a.span.h a.span.f a.bounds.now c.requires.0 a.label a.month.0 (omega (arith, c.if-bounds-label.false)) _ e (rw (to_z-of_z g) at c.if-place-lt0.false) d c.requires.1, ap (λ z. a.label * z) c.months-n.ensures)

pub overflow_add-i : goal.overflow_add-i
overflow_add-i c =
    let a = c.args in
    let h : SFits w64 a.span.h = search rules in
    let p = c.later-place in
    let g : SFits w64 p.result.0 = search rules in
    let e = p.ensures ∙ ap (λ z. a.month.0 +ℤ z) (to_z-of_z h) in
    let d : nat_abs p.result.0 < nat_abs a.span.h + nat_abs a.span.f + 1 = omega (arith, c.if-n-at.false, c.months-n.ensures, ap nat_abs (to_z-of_z g)) in
    omega (arith, few a.span.h a.span.f a.bounds.now c.requires.0 a.label a.month.0 (omega (arith, c.if-bounds-label.false)) _ e (rw (to_z-of_z g) at c.if-place-lt0.false) d c.requires.1, ap (λ z. a.label * z) c.months-n.ensures, ap nat_abs (to_z-of_z g))

pub returns : goal.returns
returns c =
    let a = c.args in
    let h : SFits w64 a.span.h = search rules in
    let p = c.later-place in
    let g : SFits w64 p.result.0 = search rules in
    let e = p.ensures ∙ ap (λ z. a.month.0 +ℤ z) (to_z-of_z h) in
    λ i q. stands_on a.span.h a.span.f a.bounds.now c.requires.0 a.label a.month.0 (omega (arith, c.if-bounds-label.false)) _ e (rw (to_z-of_z g) at c.if-place-lt0.false) _ c.months-n.ensures (omega (arith, c.if-n-at-lt4.false, c.if-n-at.false, ap nat_abs (to_z-of_z g))) i (at_injective q ∙ ap (λ z. a.label * c.months-n.result + nat_abs z) (to_z-of_z g))
