use borrow.Author.Rules.{rules}
use lib.IntN.{nat_abs}
use mathlib.Core.Path.{◌≡◌, ap, refl}
use mir.Facts.{to_z-of_z}
use mir.Syntax.{w64}
use mir.Val.{SFits}
use native.Mathlib.Omega.{arith}
use Rattle.integers.proofs.Locals.{rd}
use Rattle.nodes.proofs.Signed.{index_cast}
use Rattle.sheets.proofs.months_of.Goals as goal

pub overflow_cast-result : goal.overflow_cast-result
overflow_cast-result c =
    let f : SFits w64 c.args.span.f = search rules in
    index_cast _ _ f refl c.requires.f_from

pub overflow_add-result : goal.overflow_add-result
overflow_add-result c =
    let f : SFits w64 c.args.span.f = search rules in
    let e : nat_abs (rd c.args.span.f) ≡ nat_abs c.args.span.f = ap nat_abs (to_z-of_z f) in
    record { fits = omega (arith, e, c.requires.f_to) }

pub returns : goal.returns
returns c =
    let f : SFits w64 c.args.span.f = search rules in
    let e : nat_abs (rd c.args.span.f) ≡ nat_abs c.args.span.f = ap nat_abs (to_z-of_z f) in
    omega (arith, e)
