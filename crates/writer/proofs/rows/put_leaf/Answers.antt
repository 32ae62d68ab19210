use Prim.Native.Nat.{◌+◌, ◌≤◌, ℕ}
use lib.IntN.{ℤ}
use lib.ListN.{length}
use mathlib.Core.List.{List, ◌++◌}
use mathlib.Core.Path.{◌≡◌, ap, sym}
use native.Mathlib.Omega.{arith}
use Rattle.writer.proofs.FieldTexts.{plain_month}
use Rattle.writer.proofs.Puts.{room_as, room_first, room_next, said, then}
use Rattle.writer.specs.Shapes.{month_field, number_field}
use Rattle.writer.specs.Written.{slot}
use Rattle.writer.proofs.rows.put_leaf.Goals as goal
use Rattle.writer.proofs.rows.put_leaf.Goals.{Start, Then-settings-eq0}

-- `rows::put_leaf` meets its contract.

module _ (c : Start) where
  abbrev plain : ℤ
  plain = slot c.args.nodes.now (c.args.j + 1)

  abbrev settings : ℤ
  settings = slot c.args.nodes.now (c.args.j + 1 + 1)

  abbrev party : ℕ → List ℕ
  party k = number_field (slot c.args.nodes.now (c.args.j + k))

-- a month with no settings
module _ (c : Then-settings-eq0) where
  abbrev parties : List ℕ
  parties = number_field (slot c.args.nodes.now (c.args.j + 3)) ++ number_field (slot c.args.nodes.now (c.args.j + 4))

  alone : month_field (slot c.args.nodes.now (c.args.j + 1)) (slot c.args.nodes.now (c.args.j + 1 + 1)) ≡ number_field (slot c.args.nodes.now (c.args.j + 1))
  alone = plain_month _ (slot c.args.nodes.now (c.args.j + 1 + 1)) _ c.magnitude-settings.ensures.0 c.if-settings-eq0.true

  room : c.args.at + length (number_field (slot c.args.nodes.now (c.args.j + 1)) ++ parties) ≤ length c.args.out.now
  room = room_as _ _ _ _ (ap (λ t. t ++ parties) alone) c.requires.1

pub put_field-next-requires : goal.put_field-next-requires
put_field-next-requires c = let s : Start = (goal.at.put_field-next-requires c).Start in
    (omega (arith, s.requires.0), room_first _ _ (number_field (plain s)) (party s 3 ++ party s 4) (room (goal.at.put_field-next-requires c).Then-settings-eq0))

pub put_field-third-requires : goal.put_field-third-requires
put_field-third-requires c = let s : Start = (goal.at.put_field-third-requires c).Start in
    (omega (arith, s.requires.0), room_first _ _ (party s 3) (party s 4) (room_next _ (room (goal.at.put_field-third-requires c).Then-settings-eq0) c.put_field-next.ensures))

pub put_field-requires : goal.put_field-requires
put_field-requires c = let s : Start = (goal.at.put_field-requires c).Start in
    (omega (arith, s.requires.0), room_next _ (room_next _ (room (goal.at.put_field-requires c).Then-settings-eq0) c.put_field-next.ensures) c.put_field-third.ensures)

pub put_month-next-requires : goal.put_month-next-requires
put_month-next-requires c = let s : Start = (goal.at.put_month-next-requires c).Start in
    (omega (arith, s.requires.0), room_first _ _ (month_field (plain s) (settings s)) (party s 3 ++ party s 4) s.requires.1)

pub put_field-third-requires-else-settings-eq0 : goal.put_field-third-requires-else-settings-eq0
put_field-third-requires-else-settings-eq0 c = let s : Start = (goal.at.put_field-third-requires-else-settings-eq0 c).Start in
    (omega (arith, s.requires.0), room_first _ _ (party s 3) (party s 4) (room_next _ s.requires.1 c.put_month-next.ensures))

pub put_field-requires-else-settings-eq0 : goal.put_field-requires-else-settings-eq0
put_field-requires-else-settings-eq0 c = let s : Start = (goal.at.put_field-requires-else-settings-eq0 c).Start in
    (omega (arith, s.requires.0), room_next _ (room_next _ s.requires.1 c.put_month-next.ensures) c.put_field-third-else-settings-eq0.ensures)

pub returns-then-settings-eq0 : goal.returns-then-settings-eq0
returns-then-settings-eq0 c = then (said (sym (alone (goal.at.returns-then-settings-eq0 c).Then-settings-eq0)) c.put_field-next.ensures) (then c.put_field-third.ensures c.put_field.ensures)

pub returns-else-settings-eq0 : goal.returns-else-settings-eq0
returns-else-settings-eq0 c = then c.put_month-next.ensures (then c.put_field-third-else-settings-eq0.ensures c.put_field-else-settings-eq0.ensures)
