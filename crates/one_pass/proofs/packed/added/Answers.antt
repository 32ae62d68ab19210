use Rattle.one_pass.proofs.Packs.{both_as}
use mathlib.Core.Path.{◌∙◌, ap₂, refl}
use Prim.Native.Nat.{min}
use borrow.Author.Rules.{rules}
use Rattle.one_pass.proofs.packed.added.Goals as goal

pub returns : goal.returns
returns c = λ k. both_as (c.joined.ensures k) refl (c.sooner_of.ensures ∙ ap₂ min c.months.ensures c.months-2.ensures)
