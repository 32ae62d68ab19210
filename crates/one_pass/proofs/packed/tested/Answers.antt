use Rattle.one_pass.proofs.Packs.{both_as}
use mathlib.Core.Path.{◌∙◌, ap₂, refl}
use Prim.Native.Nat.{max}
use borrow.Author.Rules.{rules}
use Rattle.one_pass.proofs.packed.tested.Goals as goal

pub returns : goal.returns
returns c = λ k. both_as (c.joined.ensures k) refl (c.later_of.ensures ∙ ap₂ max c.months.ensures c.months-2.ensures)
