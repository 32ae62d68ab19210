use borrow.Author.Rules.{rules}
use mathlib.Core.Path.{sym}
use Rattle.amounts.proofs.FourMonths.{each}
use Rattle.amounts.specs.FourMonths.{pence_in}
use Rattle.language.proofs.Payoff.Evaluate.{in_range_lem}
use Rattle.language.proofs.Truth.{and_e}
use Rattle.language.specs.Limits.{max_amount}
use Rattle.checked.proofs.four.sure.Goals as goal

pub returns-then-within : goal.returns-then-within
unfolding pence_in
returns-then-within c =
    let b = and_e _ _ c.if-within.true in
    let l = and_e _ _ b.0 in
    let r = and_e _ _ b.1 in
    λ e. each _
    (sym (in_range_lem max_amount _ (c.within.ensures l.0).small))
    (sym (in_range_lem max_amount _ (c.within-2.ensures l.1).small))
    (sym (in_range_lem max_amount _ (c.within-3.ensures r.0).small))
    (sym (in_range_lem max_amount _ (c.within-4.ensures r.1).small))

pub returns : goal.returns
returns c = λ e. absurd (c.unsure.ensures e)
