use Rattle.std.proofs.Common.{◌+◌, nat_abs, refl, ap₂, arith, to_z-of_z, w64, SFits, rules}
use Rattle.nodes.proofs.Signed.{index_cast}
use Rattle.tables.proofs.lookup.months.Goals as goal

pub overflow_cast-result : goal.overflow_cast-result
overflow_cast-result c =
    let f : SFits w64 c.args.span.h = search rules in
    index_cast _ _ f refl c.requires.h_from

pub overflow_cast-result-2 : goal.overflow_cast-result-2
overflow_cast-result-2 c =
    let f : SFits w64 c.args.span.f = search rules in
    index_cast _ _ f refl c.requires.f_from

pub overflow_add-result : goal.overflow_add-result
overflow_add-result c =
    let h : SFits w64 c.args.span.h = search rules in
    let f : SFits w64 c.args.span.f = search rules in
    rw (to_z-of_z h, to_z-of_z f) (omega (arith, c.requires.h_to, c.requires.f_to))

pub overflow_add-result-2 : goal.overflow_add-result-2
overflow_add-result-2 c =
    let h : SFits w64 c.args.span.h = search rules in
    let f : SFits w64 c.args.span.f = search rules in
    rw (to_z-of_z h, to_z-of_z f) (omega (arith, c.requires.h_to, c.requires.f_to))

pub returns : goal.returns
returns c =
    let h : SFits w64 c.args.span.h = search rules in
    let f : SFits w64 c.args.span.f = search rules in
    ap₂ (λ x y. nat_abs x + nat_abs y + 1) (to_z-of_z h) (to_z-of_z f)
