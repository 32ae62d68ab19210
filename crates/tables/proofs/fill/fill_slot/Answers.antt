use Rattle.std.proofs.Common.{◌-◌, get_or, pos, nat_abs, ap, ◌∙◌, to_z-of_z, w64, SFits, rules}
use Rattle.tables.proofs.Fills.{far_from_zero, open_filled, open_unset, plain_kept}
use Rattle.tables.proofs.fill.fill_slot.Goals as goal

pub overflow_sub-k : goal.overflow_sub-k
overflow_sub-k c =
    let a = c.args in
    let f : SFits w64 (get_or a.nodes.now a.at (pos 0)) = search rules in
    far_from_zero (get_or a.nodes.now a.at (pos 0)) _ (rw (to_z-of_z f) at c.if-d-lt0.true) (c.unsigned_abs.ensures.value ∙ ap nat_abs (to_z-of_z f))

pub returns-then-k-days : goal.returns-then-k-days
returns-then-k-days c =
    let a = c.args in
    let f : SFits w64 (get_or a.nodes.now a.at (pos 0)) = search rules in
    let g : SFits w64 (get_or a.days.now (c.unsigned_abs.result - 1) (pos 0)) = search rules in
    open_filled a.days.now a.nodes.now a.at _ (rw (to_z-of_z f) at c.if-d-lt0.true) (c.unsigned_abs.ensures.value ∙ ap nat_abs (to_z-of_z f)) c.requires.1 c.if-k-days.true _ (to_z-of_z g)

pub returns-else-k-days : goal.returns-else-k-days
returns-else-k-days c =
    let a = c.args in
    let f : SFits w64 (get_or a.nodes.now a.at (pos 0)) = search rules in
    open_unset a.days.now a.nodes.now a.at _ (rw (to_z-of_z f) at c.if-d-lt0.true) (c.unsigned_abs.ensures.value ∙ ap nat_abs (to_z-of_z f)) c.if-k-days.false

pub returns-else-d-lt0 : goal.returns-else-d-lt0
returns-else-d-lt0 c =
    let a = c.args in
    let f : SFits w64 (get_or a.nodes.now a.at (pos 0)) = search rules in
    plain_kept a.days.now a.nodes.now a.at (rw (to_z-of_z f) at c.if-d-lt0.false)
