use Rattle.std.proofs.Common.{◌+◌, ◌*◌, ◌<◌, ◌+ℤ◌, nat_abs, refl, ap, ◌∙◌, ap₂, arith, to_z-of_z, w64, SFits, rules}
use Rattle.nodes.proofs.Signed.{index_cast}
use Rattle.tables.proofs.Lookups.{few, from_zero, no_label, stands, too_early, too_late}
use Rattle.tables.proofs.lookup.find_place.Goals as goal

pub months-n-requires : goal.months-n-requires
months-n-requires c = c.requires.0

pub later-place-requires : goal.later-place-requires
later-place-requires c =
    let h : SFits w64 c.args.span.h = search rules in
    (c.requires.2, rw (to_z-of_z h) (record { small = omega (arith, c.requires.0.h_to) }))

pub returns-then-bounds-label : goal.returns-then-bounds-label
returns-then-bounds-label c =
    let a = c.args in
    no_label a.span.h a.span.f a.bounds.now c.requires.0 a.label a.month.0 c.if-bounds-label.true

pub returns-then-place-lt0 : goal.returns-then-place-lt0
returns-then-place-lt0 c =
    let a = c.args in
    let h : SFits w64 a.span.h = search rules in
    let p = c.later-place in
    let g : SFits w64 p.result.0 = search rules in
    let e = p.ensures ∙ ap (λ z. a.month.0 +ℤ z) (to_z-of_z h) in
    too_early a.span.h a.span.f a.bounds.now c.requires.0 a.label a.month.0 (omega (arith, c.if-bounds-label.false)) _ e (rw (to_z-of_z g) at c.if-place-lt0.true)

pub overflow_cast-at : goal.overflow_cast-at
overflow_cast-at c =
    let a = c.args in
    let h : SFits w64 a.span.h = search rules in
    let p = c.later-place in
    let g : SFits w64 p.result.0 = search rules in
    let e = p.ensures ∙ ap (λ z. a.month.0 +ℤ z) (to_z-of_z h) in
    index_cast _ _ g refl (from_zero a.span.h a.span.f a.bounds.now c.requires.0 a.label a.month.0 (omega (arith, c.if-bounds-label.false)) _ e (rw (to_z-of_z g) at c.if-place-lt0.false))

pub returns-then-n-at : goal.returns-then-n-at
returns-then-n-at c =
    let a = c.args in
    let h : SFits w64 a.span.h = search rules in
    let p = c.later-place in
    let g : SFits w64 p.result.0 = search rules in
    let e = p.ensures ∙ ap (λ z. a.month.0 +ℤ z) (to_z-of_z h) in
    too_late a.span.h a.span.f a.bounds.now c.requires.0 a.label a.month.0 (omega (arith, c.if-bounds-label.false)) _ e (rw (to_z-of_z g) at c.if-place-lt0.false) (omega (arith, c.if-n-at.true, c.months-n.ensures, ap nat_abs (to_z-of_z g)))

pub overflow_mul-i : goal.overflow_mul-i
overflow_mul-i c =
    let a = c.args in
    let h : SFits w64 a.span.h = search rules in
    let p = c.later-place in
    let g : SFits w64 p.result.0 = search rules in
    let e = p.ensures ∙ ap (λ z. a.month.0 +ℤ z) (to_z-of_z h) in
    let d : nat_abs p.result.0 < nat_abs a.span.h + nat_abs a.span.f + 1 = omega (arith, c.if-n-at.false, c.months-n.ensures, ap nat_abs (to_z-of_z g)) in
    omega (arith, few a.span.h a.span.f a.bounds.now c.requires.0 a.label a.month.0 (omega (arith, c.if-bounds-label.false)) _ e (rw (to_z-of_z g) at c.if-place-lt0.false) d c.requires.1, ap (λ z. a.label * z) c.months-n.ensures)

pub overflow_add-i : goal.overflow_add-i
overflow_add-i c =
    let a = c.args in
    let h : SFits w64 a.span.h = search rules in
    let p = c.later-place in
    let g : SFits w64 p.result.0 = search rules in
    let e = p.ensures ∙ ap (λ z. a.month.0 +ℤ z) (to_z-of_z h) in
    let d : nat_abs p.result.0 < nat_abs a.span.h + nat_abs a.span.f + 1 = omega (arith, c.if-n-at.false, c.months-n.ensures, ap nat_abs (to_z-of_z g)) in
    omega (arith, few a.span.h a.span.f a.bounds.now c.requires.0 a.label a.month.0 (omega (arith, c.if-bounds-label.false)) _ e (rw (to_z-of_z g) at c.if-place-lt0.false) d c.requires.1, ap (λ z. a.label * z) c.months-n.ensures, ap nat_abs (to_z-of_z g))

pub returns : goal.returns
returns c =
    let a = c.args in
    let h : SFits w64 a.span.h = search rules in
    let p = c.later-place in
    let g : SFits w64 p.result.0 = search rules in
    let e = p.ensures ∙ ap (λ z. a.month.0 +ℤ z) (to_z-of_z h) in
    let d : nat_abs p.result.0 < nat_abs a.span.h + nat_abs a.span.f + 1 = omega (arith, c.if-n-at.false, c.months-n.ensures, ap nat_abs (to_z-of_z g)) in
    stands a.span.h a.span.f a.bounds.now c.requires.0 a.label a.month.0 (omega (arith, c.if-bounds-label.false)) _ e (rw (to_z-of_z g) at c.if-place-lt0.false) d _ (ap₂ (λ y z. a.label * y + nat_abs z) c.months-n.ensures (to_z-of_z g))
