use native.Mathlib.Omega.{arith}
use mathlib.Core.Path.{◌∙◌, ap}
use lib.IntN.{nat_abs, pos}
use lib.ListN.{get_or}
use mir.Facts.{to_z-of_z}
use mir.Syntax.{w64}
use mir.Val.{SFits}
use Rattle.settling.proofs.SettingSums.{no_term, set_term, term_small, unset_term}
use borrow.Author.Rules.{rules}
use Rattle.settling.proofs.sums.term.Goals as goal

pub returns-then-n-eq0 : goal.returns-then-n-eq0
returns-then-n-eq0 c = no_term c.args.days.now _ _ c.if-n-eq0.true

pub overflow_mul-result : goal.overflow_mul-result
overflow_mul-result c =
    let f : SFits w64 (get_or c.args.days.now c.args.k (pos 0)) = search rules in
    record { fits = omega (arith, term_small c.args.days.now c.requires.1 c.args.n c.args.k _ c.requires.0 (c.magnitude.ensures ∙ ap nat_abs (to_z-of_z f))) }

pub returns-then-k-days : goal.returns-then-k-days
returns-then-k-days c =
    let f : SFits w64 (get_or c.args.days.now c.args.k (pos 0)) = search rules in
    set_term c.args.days.now c.args.n c.args.k c.if-k-days.true _ (c.magnitude.ensures ∙ ap nat_abs (to_z-of_z f))

pub returns : goal.returns
returns c = unset_term c.args.days.now _ _ c.if-n-eq0.false c.if-k-days.false
