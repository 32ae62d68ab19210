use Prim.Native.Nat.{◌+◌, ◌≤◌}
use borrow.Author.Rules.{rules}
use lib.ListN.{drop, length}
use mathlib.Core.Path.{subst}
use mir.Facts.{to_z-of_z}
use mir.Syntax.{w64}
use mir.Val.{SFits}
use native.Mathlib.Omega.{arith}
use Rattle.fields.specs.Numbers.{NumberIs}
use Rattle.fields.specs.Positions.{up_to}
use Rattle.lines.proofs.NumberFields.{both_there, first_bad, none_there, number_inside, one_alone, second_bad}
use Rattle.lines.proofs.numbers.two_numbers.Goals as goal

pub returns-then-line-at : goal.returns-then-line-at
returns-then-line-at c = none_there _ _ c.if-line-at.true

pub returns-in_err-first : goal.returns-in_err-first
returns-in_err-first c =
    rw c.from_residual.ensures (first_bad _ _ (omega (arith, c.if-line-at.false)) (c.in_err-first.ensures))

pub overflow_add-second_at : goal.overflow_add-second_at
overflow_add-second_at c =
    let p : c.args.at ≤ length c.args.line.now = omega (arith, c.if-line-at.false) in
    record { fits = omega (arith, (number_inside _ _ p (c.in_ok-first.ensures)).1, c.requires.1) }

pub returns-then-line-second_at : goal.returns-then-line-second_at
returns-then-line-second_at c =
    let p : c.args.at ≤ length c.args.line.now = omega (arith, c.if-line-at.false) in
    one_alone _ _ p (c.in_ok-first.ensures) c.if-line-second_at.true

pub returns-in_err-second : goal.returns-in_err-second
returns-in_err-second c =
    let p : c.args.at ≤ length c.args.line.now = omega (arith, c.if-line-at.false) in
    rw c.from_residual-in_err-second.ensures (second_bad _ _ p (c.in_ok-first.ensures) (omega (arith, c.if-line-second_at.false)) (c.in_err-second.ensures))

pub overflow_add-result : goal.overflow_add-result
overflow_add-result c =
    let i : c.in_ok-first.first.end + 1 ≤ length c.args.line.now = omega (arith, c.if-line-second_at.false) in
    record { fits = omega (arith, (number_inside _ _ i (c.in_ok-second.ensures)).1, c.requires.1) }

pub returns : goal.returns
returns c =
    let p : c.args.at ≤ length c.args.line.now = omega (arith, c.if-line-at.false) in
    let i : c.in_ok-first.first.end + 1 ≤ length c.args.line.now = omega (arith, c.if-line-second_at.false) in
    let f : SFits w64 c.in_ok-first.first.value = search rules in
    let g : SFits w64 c.in_ok-second.second.value = search rules in
    both_there _ _ p (c.in_ok-first.ensures) i (c.in_ok-second.ensures) (to_z-of_z f) (to_z-of_z g)
