use lib.ListN.{drop}
use mathlib.Core.Path.{subst, sym}
use mir.Syntax.{w64}
use mir.Val.{SFits}
use mir.ValLaws.{to_z-of_z}
use native.Mathlib.Omega.{arith}
use Rattle.fields.specs.Classes.{Limited, RangedIs, class_of}
use Rattle.fields.specs.Positions.{up_to}
use Rattle.fields.specs.declared.field.Range.{Range}
use Rattle.fields.proofs.ClassLaws.{limited, plain_fails, plain_reads}
use Rattle.fields.proofs.FieldLaws.{failed_at, taken_at}
use Rattle.fields.proofs.Positions.{up_fits}
use Rattle.std.proofs.Common.{None, Some}
use Rattle.fields.proofs.field.read_plain.Goals as goal

pub in_range-requires : goal.in_range-requires
in_range-requires c = subst Limited (sym c.range_of-range.ensures) (limited c.args.class)

pub returns-in_err-n : goal.returns-in_err-n
returns-in_err-n c =
    let a = c.args in
    let f = up_to 44 (drop a.at a.text.now) in
    let w = subst (λ (x : Range). RangedIs x f a.at None) c.range_of-range.ensures (c.in_err-n.ensures f a.at c.plain_number.ensures) in
    rw c.from_residual.ensures (failed_at (class_of a.class) a.text.now a.at c.requires.0 (plain_fails f a.class c.requires.1 w))

pub overflow_add-result : goal.overflow_add-result
overflow_add-result c =
    let a = c.args in
    let w = c.in_ok-n.ensures (up_to 44 (drop a.at a.text.now)) a.at c.plain_number.ensures in
    let k = up_fits 44 a.text.now a.at c.requires.0 in
    omega (arith, w.ends)

pub returns : goal.returns
returns c =
    let a = c.args in
    let f = up_to 44 (drop a.at a.text.now) in
    let v = c.in_ok-n.n.value in
    let w = subst (λ (x : Range). RangedIs x f a.at (Some c.in_ok-n.n)) c.range_of-range.ensures (c.in_ok-n.ensures f a.at c.plain_number.ensures) in
    let h = plain_reads f a.class v c.requires.1 w.is in
    let k = up_fits 44 a.text.now a.at c.requires.0 in
    let fv : SFits w64 v = record { sfits = omega arith } in
    taken_at (class_of a.class) a.text.now a.at _ _ c.requires.0 (omega (arith, w.ends)) (rw (to_z-of_z w64 v fv) h)
