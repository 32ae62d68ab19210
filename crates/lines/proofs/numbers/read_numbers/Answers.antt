use Prim.Native.Nat.{◌+◌, ◌-◌, ◌<◌, ◌≤◌}
use borrow.Author.Rules.{rules}
use lib.ListN.{drop, length}
use mathlib.Core.Path.{subst, sym}
use mir.Facts.{to_z-of_z}
use mir.Syntax.{w64}
use mir.Val.{SFits}
use native.Mathlib.Omega.{arith}
use Rattle.fields.specs.Numbers.{NumberIs}
use Rattle.fields.specs.Positions.{up_to}
use Rattle.lines.proofs.NumberFields.{Going, going_bad, going_full, going_kept, going_over, going_start, number_bad, number_inside}
use Rattle.lines.proofs.numbers.read_numbers.Goals as goal
use Rattle.lines.proofs.numbers.read_numbers.Goals.{then-k-into, else-k-into}

pub loop-place-init : goal.loop-place-init
loop-place-init c = going_start c.requires.0

pub figure-number-requires : goal.figure-number-requires
figure-number-requires c = omega (arith, c.loop-place-test.true)

pub overflow_add-k : goal.overflow_add-k
overflow_add-k c =
    record { fits = omega (arith, c.loop-place.invariant.inside, c.loop-place.invariant.few, c.requires.1, c.requires.2) }

pub offset_bounds-into-k : goal.offset_bounds-into-k
offset_bounds-into-k c =
    let h : c.args.from + c.loop-place.count < length c.loop-place.into = c.if-k-into.true in
    search rules

pub bounds-into-k : goal.bounds-into-k
bounds-into-k c = c.if-k-into.true

pub overflow_add-count : goal.overflow_add-count
overflow_add-count c =
    record { fits = omega (arith, c.loop-place.invariant.inside, c.loop-place.invariant.few, c.requires.2) }

pub overflow_add-place : goal.overflow_add-place
overflow_add-place c =
    let p : c.loop-place.place ≤ length c.args.line.now = omega (arith, c.loop-place-test.true) in
    let s = subst (NumberIs (up_to 44 (drop c.loop-place.place c.args.line.now)) c.loop-place.place) c.in-Some.is c.figure-number.ensures in
    record { fits = omega (arith, (number_inside _ _ p s).1, c.requires.2) }

pub loop-place-smaller : goal.loop-place-smaller
loop-place-smaller c =
    let p : c.loop-place.place ≤ length c.args.line.now = omega (arith, c.loop-place-test.true) in
    let s = subst (NumberIs (up_to 44 (drop c.loop-place.place c.args.line.now)) c.loop-place.place) c.in-Some.is c.figure-number.ensures in
    omega (arith, (number_inside _ _ p s).0, (number_inside _ _ p s).1)

pub loop-place-preserved : goal.loop-place-preserved
loop-place-preserved c =
    let p : c.loop-place.place ≤ length c.args.line.now = omega (arith, c.loop-place-test.true) in
    let s = subst (NumberIs (up_to 44 (drop c.loop-place.place c.args.line.now)) c.loop-place.place) c.in-Some.is c.figure-number.ensures in
    let f : SFits w64 c.in-Some.n.value = search rules in
    elim c.if-k-into.branch [
      | then-k-into w ↦ subst (λ x. Going c.args.line.now c.args.at c.args.into.now c.args.from x (c.in-Some.n.end + 1) (c.loop-place.count + 1)) (sym w.into-is) (going_kept c.loop-place.invariant p s (to_z-of_z f) w.if-k-into.true)
      | else-k-into w ↦ subst (λ x. Going c.args.line.now c.args.at c.args.into.now c.args.from x (c.in-Some.n.end + 1) (c.loop-place.count + 1)) (sym w.into-is) (going_full c.loop-place.invariant p s (omega (arith, w.if-k-into.false)))
    ]

pub shape_of-into-in-None : goal.shape_of-into-in-None
shape_of-into-in-None c = c.loop-place.invariant.size

pub returns-in-None : goal.returns-in-None
returns-in-None c =
    let p : c.loop-place.place ≤ length c.args.line.now = omega (arith, c.loop-place-test.true) in
    going_bad c.loop-place.invariant (number_bad _ _ p (subst (NumberIs (up_to 44 (drop c.loop-place.place c.args.line.now)) c.loop-place.place) c.in-None.is c.figure-number.ensures))

pub shape_of-into : goal.shape_of-into
shape_of-into c = c.loop-place.invariant.size

pub returns : goal.returns
returns c = going_over c.loop-place.invariant (omega (arith, c.loop-place-test.false))
