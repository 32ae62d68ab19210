use borrow.Author.Rules.{rules}
use lib.IntN.{nat_abs, pos, ℤ}
use lib.ListN.{get_or}
use mathlib.Core.Path.{◌∙◌, ap, ap₂}
use mir.Facts.{to_z-of_z}
use mir.Syntax.{w64}
use mir.Val.{Fits, SFits}
use native.Mathlib.Omega.{arith}
use Rattle.columns.proofs.Pennies.{month_bytes, month_cast, month_place, penny_due, stored, sum_fits}
use Rattle.integers.proofs.Locals.{rd}
use Rattle.language.proofs.Payoff.Sizes.{unit_one}
use Rattle.language.specs.Calls.{sign_of}
use Rattle.columns.proofs.add_penny.Goals as goal

pub penny-penny-requires : goal.penny-penny-requires
penny-penny-requires c = (c.requires.0, c.requires.2)

pub times-due-requires : goal.times-due-requires
times-due-requires c =
    rw c.penny-penny.ensures (penny_due _ _ _ _ (unit_one _ _ _ _) c.requires.3)

pub overflow_cast-m : goal.overflow_cast-m
overflow_cast-m c =
    let f : SFits w64 c.args.root.0 = search rules in
    month_cast c.requires.1 f

pub offset_bounds-column-m : goal.offset_bounds-column-m
offset_bounds-column-m c =
    let f : SFits w64 c.args.root.0 = search rules in
    month_bytes c.requires.1 f

pub slice_copy_out-before : goal.slice_copy_out-before
slice_copy_out-before c =
    let f : SFits w64 c.args.root.0 = search rules in
    rw (month_place c.requires.1 f) c.requires.3.inside

pub plus-sum-requires : goal.plus-sum-requires
plus-sum-requires c =
    let f : SFits w64 c.args.root.0 = search rules in
    let g : SFits w64 (get_or c.args.column.now (nat_abs (rd c.args.root.0)) (pos 0)) = search rules in
    sum_fits _ _ _ _ (unit_one _ _ _ _) c.requires.3 (month_place c.requires.1 f) g c.penny-penny.ensures c.times-due.ensures

pub offset_bounds-column-m-2 : goal.offset_bounds-column-m-2
offset_bounds-column-m-2 c =
    let f : SFits w64 c.args.root.0 = search rules in
    month_bytes c.requires.1 f

pub bounds-column-m : goal.bounds-column-m
bounds-column-m c =
    let f : SFits w64 c.args.root.0 = search rules in
    rw (month_place c.requires.1 f) c.requires.3.inside

pub returns : goal.returns
returns c =
    let f : SFits w64 c.args.root.0 = search rules in
    let g : SFits w64 (get_or c.args.column.now (nat_abs (rd c.args.root.0)) (pos 0)) = search rules in
    let k : SFits w64 c.plus-sum.result.0 = search rules in
    stored _ _ _ _ (month_place c.requires.1 f) c.requires.3.inside g k c.penny-penny.ensures c.times-due.ensures c.plus-sum.ensures
