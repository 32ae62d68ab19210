use Prim.Native.Nat.{◌+◌}
use lib.IntN.{ℤ}
use mathlib.Core.Path.{◌≡◌, sym}
use native.Mathlib.Omega.{arith}
use Rattle.writer.proofs.FieldTexts.{plain_month}
use Rattle.writer.proofs.Puts.{room_as, room_first, room_next, said, then}
use Rattle.writer.specs.Shapes.{month_field, number_field}
use Rattle.writer.specs.Written.{slot}
use Rattle.writer.proofs.rows.put_index.Goals as goal
use Rattle.writer.proofs.rows.put_index.Goals.{Start, Then-magnitude-eq0}

-- `rows::put_index` meets its contract.

module _ (c : Start) where
  abbrev label : ℤ
  label = slot c.args.nodes.now (c.args.j + 1)

  abbrev plain : ℤ
  plain = slot c.args.nodes.now (c.args.j + 2)

  abbrev settings : ℤ
  settings = slot c.args.nodes.now (c.args.j + 2 + 1)

alone : (c : Then-magnitude-eq0)
    → month_field (slot c.args.nodes.now (c.args.j + 2)) (slot c.args.nodes.now (c.args.j + 2 + 1)) ≡ number_field (slot c.args.nodes.now (c.args.j + 2))
alone c = plain_month _ (slot c.args.nodes.now (c.args.j + 2 + 1)) _ c.magnitude.ensures.0 c.if-magnitude-eq0.true

pub put_field-next-requires : goal.put_field-next-requires
put_field-next-requires c = let s : Start = (goal.at.put_field-next-requires c).Start in
    (omega (arith, s.requires.0), room_first _ _ (number_field (label s)) (month_field (plain s) (settings s)) s.requires.1)

pub put_field-requires : goal.put_field-requires
put_field-requires c = let s : Start = (goal.at.put_field-requires c).Start in
    (omega (arith, s.requires.0), room_as _ _ _ _ (alone (goal.at.put_field-requires c).Then-magnitude-eq0) (room_next _ s.requires.1 c.put_field-next.ensures))

pub put_month-requires : goal.put_month-requires
put_month-requires c = let s : Start = (goal.at.put_month-requires c).Start in
    (omega (arith, s.requires.0), room_next _ s.requires.1 c.put_field-next.ensures)

pub returns-then-magnitude-eq0 : goal.returns-then-magnitude-eq0
returns-then-magnitude-eq0 c = then c.put_field-next.ensures (said (sym (alone (goal.at.returns-then-magnitude-eq0 c).Then-magnitude-eq0)) c.put_field.ensures)

pub returns-else-magnitude-eq0 : goal.returns-else-magnitude-eq0
returns-else-magnitude-eq0 c = then c.put_field-next.ensures c.put_month.ensures
