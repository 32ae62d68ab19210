use Rattle.one_pass.proofs.Packs.{as_joined, both_as}
use mathlib.Core.Path.{◌∙◌, ap₂, refl}
use Prim.Native.Nat.{◌*◌, max}
use borrow.Author.Rules.{rules}
use Rattle.one_pass.proofs.packed.multiplied.Goals as goal

pub returns : goal.returns
returns c = λ k. both_as (c.joined.ensures k) (as_joined ◌*◌ _ _ k (c.joined.ensures k) c.product_of-m.ensures refl refl) (c.later_of.ensures ∙ ap₂ max c.months.ensures c.months-2.ensures)
