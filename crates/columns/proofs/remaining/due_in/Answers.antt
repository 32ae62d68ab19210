use borrow.Author.Rules.{rules}
use lib.IntN.{*ℤ_comm, ◌*ℤ◌, pos}
use lib.ListN.{get_or}
use mathlib.Core.Path.{◌∙◌, ap₂}
use mir.Facts.{to_z-of_z}
use mir.Syntax.{w64}
use mir.Val.{SFits}
use Rattle.columns.proofs.remaining.due_in.Goals as goal

pub value_times-requires : goal.value_times-requires
value_times-requires c =
    let f : SFits w64 (get_or c.args.column.now c.args.m (pos 0)) = search rules in
    let g : SFits w64 (get_or c.args.factors.now c.args.m (pos 0)) = search rules in
    rw (to_z-of_z f, to_z-of_z g, *ℤ_comm (get_or c.args.column.now c.args.m (pos 0)) (get_or c.args.factors.now c.args.m (pos 0))) c.requires.2

pub returns : goal.returns
returns c =
    let f : SFits w64 (get_or c.args.column.now c.args.m (pos 0)) = search rules in
    let g : SFits w64 (get_or c.args.factors.now c.args.m (pos 0)) = search rules in
    c.value_times.ensures ∙ ap₂ (λ x y. x *ℤ y) (to_z-of_z f) (to_z-of_z g) ∙ *ℤ_comm (get_or c.args.column.now c.args.m (pos 0)) (get_or c.args.factors.now c.args.m (pos 0))
