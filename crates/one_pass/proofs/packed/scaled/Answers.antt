use Rattle.one_pass.proofs.Packs.{as_joined, both_as}
use mathlib.Core.Path.{refl}
use Prim.Native.Nat.{◌*◌}
use borrow.Author.Rules.{rules}
use Rattle.one_pass.proofs.packed.scaled.Goals as goal

pub returns : goal.returns
returns c = λ k. both_as (c.joined.ensures k) (as_joined ◌*◌ _ _ k (c.joined.ensures k) c.product_of-m.ensures refl refl) c.months.ensures
