use Prim.Native.Nat.{◌+◌, ◌≤◌, ℕ}
use lib.IntN.{nat_abs, ℤ}
use lib.ListN.{length, length-set, set}
use mathlib.Core.List.{◌++◌, ◌∷◌}
use mathlib.Core.Path.{◌∙◌, ◌≡◌, ap, refl, sym}
use native.Mathlib.Omega.{arith}
use Rattle.language.specs.Text.Number.{print_number}
use Rattle.writer.proofs.FieldTexts.{month_is}
use Rattle.writer.proofs.Puts.{one, room_as, room_first, room_front, room_next, said, then}
use Rattle.writer.specs.Shapes.{month_field, number_field, settings_text}
use Rattle.writer.specs.Written.{slot}
use Rattle.writer.proofs.parts.put_month.Goals as goal
use Rattle.writer.proofs.parts.put_month.Goals.{Start}

-- `fields::put_month` meets its contract.

module _ (c : Start) where
  abbrev first : ℤ
  first = slot c.args.nodes.now c.args.k

  abbrev second : ℤ
  second = slot c.args.nodes.now (c.args.k + 1)

  text : (m : ℕ) → m ≡ nat_abs second → month_field first second ≡ number_field first ++ settings_text m
  text m e = ap (λ t. 44 ∷ t) (month_is first second m e)

  room : (m : ℕ) → m ≡ nat_abs second → c.args.at + length (number_field first ++ settings_text m) ≤ length c.args.out.now
  room m e = room_as _ _ _ _ (text m e) c.requires.1

  -- behind the comma
  room_behind : (m : ℕ) → m ≡ nat_abs second → c.args.at + 1 + length (print_number first ++ settings_text m) ≤ length (set c.args.out.now c.args.at 44)
  room_behind m e = (room_front c.args.at 44 (print_number first ++ settings_text m) c.args.out.now (room m e)).1

pub bounds-out-at : goal.bounds-out-at
bounds-out-at c = let s : Start = (goal.at.bounds-out-at c).Start in
    (room_front _ 44 (print_number (first s) ++ settings_text (nat_abs (second s))) s.args.out.now (room s _ refl)).0

pub put_number-next-requires : goal.put_number-next-requires
put_number-next-requires c = let s : Start = (goal.at.put_number-next-requires c).Start in
    (omega (arith, s.requires.0), room_first _ _ (print_number (first s)) (settings_text (nat_abs (second s))) (room_behind s _ refl))

pub put_settings-requires : goal.put_settings-requires
put_settings-requires c = let s : Start = (goal.at.put_settings-requires c).Start in
    room_next _ (room_behind s _ c.magnitude.ensures.0) c.put_number-next.ensures

pub shape_of-out : goal.shape_of-out
shape_of-out c = c.put_settings.auto.out ∙ c.put_number-next.auto.out ∙ simp length-set

pub returns : goal.returns
returns c = let s : Start = (goal.at.returns c).Start in
    said (sym (text s _ c.magnitude.ensures.0)) (then (one _ _ _) (then c.put_number-next.ensures c.put_settings.ensures))
