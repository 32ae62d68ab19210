use borrow.Author.Rules.{rules}
use Prim.Native.Nat.{◌+◌}
use mathlib.Core.Path.{◌∙◌, ◌≡◌, ap}
use native.Mathlib.Omega.{arith}
use Rattle.amounts.proofs.FourMonths.{each}
use Rattle.amounts.specs.FourMonths.{pence_in}
use Rattle.language.specs.Answer.{got}
use Rattle.tables.specs.Lookup.{standing}
use Rattle.checked.proofs.four.values_at.Goals as goal
use Rattle.std.specs.Prelude.{Some}

pub returns : goal.returns
unfolding pence_in standing
returns c =
    let a = c.args in
    let z : a.i ≡ a.i + 0 = omega arith in
    λ e. each _
    (ap got c.value_at.ensures ∙ ap (λ n. standing a.values.now (Some n)) z)
    (ap got c.value_at-2.ensures)
    (ap got c.value_at-3.ensures)
    (ap got c.value_at-4.ensures)
