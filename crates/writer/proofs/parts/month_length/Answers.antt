use Prim.Native.Nat.{◌+◌}
use lib.IntN.{ℤ}
use native.Mathlib.Omega.{arith}
use Rattle.writer.proofs.FieldTexts.{month_length, number_small}
use Rattle.writer.proofs.SettingTexts.{settings_most}
use Rattle.writer.specs.Written.{slot}
use Rattle.writer.proofs.parts.month_length.Goals as goal
use Rattle.writer.proofs.parts.month_length.Goals.{Start}

-- `fields::month_length` meets its contract.

module _ (c : Start) where
  abbrev first : ℤ
  first = slot c.args.nodes.now c.args.k

  abbrev second : ℤ
  second = slot c.args.nodes.now (c.args.k + 1)

pub overflow_add-result : goal.overflow_add-result
overflow_add-result c = record {
  fits = omega (arith, number_small (first (goal.at.overflow_add-result c).Start) _ c.number_length.ensures, c.settings_length.ensures, settings_most c.magnitude.result);
}

pub returns : goal.returns
returns c = let s : Start = (goal.at.returns c).Start in
    month_length (first s) (second s) _ _ _ c.magnitude.ensures.0 c.number_length.ensures c.settings_length.ensures
