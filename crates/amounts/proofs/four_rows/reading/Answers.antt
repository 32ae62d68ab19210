use Prim.Native.Nat.{ℕ}
use lib.IntN.{◌+ℤ◌, nat_abs, pos, ℤ}
use lib.ListN.{get_or}
use mathlib.Core.Path.{◌∙◌, ap, subst, sym}
use native.Mathlib.Omega.{arith}
use Rattle.nodes.specs.Table.{slot_at}
use Rattle.amounts.proofs.FourMonths.{each, few_small, four_is, four_month, four_small}
use Rattle.amounts.specs.Fine.{Reading}
use Rattle.amounts.specs.FourMonths.{pence_in}
use Rattle.amounts.proofs.four_rows.reading.Goals as goal

pub later-requires : goal.later-requires
later-requires c = (four_small _ c.requires.1, few_small 0 (omega arith))

pub reading-requires : goal.reading-requires
reading-requires c =
    let e = c.later.ensures in (
      c.requires.0,
      four_month _ c.requires.1 0 (omega arith) _ e,
      subst (λ r. Reading c.args.tables.now.values.now r (slot_at c.args.tables.now.nodes.now c.args.at 2)) (sym (four_is _ c.requires.1 0 (omega arith) _ e)) (c.requires.2 0 (omega arith)),
    )

pub later-requires-2 : goal.later-requires-2
later-requires-2 c = (four_small _ c.requires.1, few_small 1 (omega arith))

pub reading-requires-2 : goal.reading-requires-2
reading-requires-2 c =
    let e = c.later-2.ensures in (
      c.requires.0,
      four_month _ c.requires.1 1 (omega arith) _ e,
      subst (λ r. Reading c.args.tables.now.values.now r (slot_at c.args.tables.now.nodes.now c.args.at 2)) (sym (four_is _ c.requires.1 1 (omega arith) _ e)) (c.requires.2 1 (omega arith)),
    )

pub later-requires-3 : goal.later-requires-3
later-requires-3 c = (four_small _ c.requires.1, few_small 2 (omega arith))

pub reading-requires-3 : goal.reading-requires-3
reading-requires-3 c =
    let e = c.later-3.ensures in (
      c.requires.0,
      four_month _ c.requires.1 2 (omega arith) _ e,
      subst (λ r. Reading c.args.tables.now.values.now r (slot_at c.args.tables.now.nodes.now c.args.at 2)) (sym (four_is _ c.requires.1 2 (omega arith) _ e)) (c.requires.2 2 (omega arith)),
    )

pub later-requires-4 : goal.later-requires-4
later-requires-4 c = (four_small _ c.requires.1, few_small 3 (omega arith))

pub reading-requires-4 : goal.reading-requires-4
reading-requires-4 c =
    let e = c.later-4.ensures in (
      c.requires.0,
      four_month _ c.requires.1 3 (omega arith) _ e,
      subst (λ r. Reading c.args.tables.now.values.now r (slot_at c.args.tables.now.nodes.now c.args.at 2)) (sym (four_is _ c.requires.1 3 (omega arith) _ e)) (c.requires.2 3 (omega arith)),
    )

pub returns : goal.returns
unfolding pence_in
returns c =
    let at : ℕ → ℤ = λ r. get_or c.args.tables.now.values.now (nat_abs (pos r +ℤ slot_at c.args.tables.now.nodes.now c.args.at 2)) (pos 0) in
    each _
    (c.reading.ensures ∙ ap at (four_is _ c.requires.1 0 (omega arith) _ c.later.ensures))
    (c.reading-2.ensures ∙ ap at (four_is _ c.requires.1 1 (omega arith) _ c.later-2.ensures))
    (c.reading-3.ensures ∙ ap at (four_is _ c.requires.1 2 (omega arith) _ c.later-3.ensures))
    (c.reading-4.ensures ∙ ap at (four_is _ c.requires.1 3 (omega arith) _ c.later-4.ensures))
