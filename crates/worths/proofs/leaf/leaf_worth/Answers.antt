use lib.IntN.{nat_abs}
use mathlib.Core.Path.{◌∙◌, ap, sym}
use mir.Syntax.{w64}
use mir.Val.{SFits}
use lib.Signed.{lt_z}
use Rattle.language.proofs.Payoff.Sizes.{unit_one}
use Rattle.worths.proofs.LeafLaws as leaf
use Rattle.checked.proofs.RowAnswers.{near_small, waited_small}
use borrow.Author.Rules.{rules}
use Rattle.worths.proofs.leaf.leaf_worth.Goals as goal

pub later-month-requires : goal.later-month-requires
later-month-requires c =
    (near_small c.requires.4 c.month_at.ensures, waited_small c.requires.2)

pub returns-then-earlier : goal.returns-then-earlier
returns-then-earlier c =
    let a = c.args in
    let ff : SFits w64 a.f.0 = search rules in
    let e = leaf.code_month c.later-month.ensures c.month_at.ensures c.requires.2 in
    let fm = leaf.month_fits e c.requires.4 c.requires.2 in
    let b = leaf.month_tested ff fm e c.month_ok.ensures c.if-month_ok.true in
    leaf.cut_off a.f.0 a.factors.now c.requires.1 a.start.0 _ _ b (ap (λ z. lt_z z a.start.0) (sym e) ∙ sym c.earlier.ensures ∙ c.if-earlier.true)

pub factor-requires : goal.factor-requires
factor-requires c =
    let a = c.args in
    let ff : SFits w64 a.f.0 = search rules in
    let e = leaf.code_month c.later-month.ensures c.month_at.ensures c.requires.2 in
    let fm = leaf.month_fits e c.requires.4 c.requires.2 in
    let b = leaf.month_tested ff fm e c.month_ok.ensures c.if-month_ok.true in
    leaf.factor_in a.f.0 a.factors.now c.requires.1 a.start.0 _ a.start.0 b e

pub value_times-value-requires : goal.value_times-value-requires
value_times-value-requires c =
    let a = c.args in
    let e = leaf.code_month c.later-month.ensures c.month_at.ensures c.requires.2 in
    leaf.product_small a.f.0 a.factors.now c.requires.1 a.start.0 _ _ (unit_one (nat_abs a.pair.p) (nat_abs a.pair.q) _ _) e c.penny-sign.ensures c.factor.ensures

pub returns-then-month_ok : goal.returns-then-month_ok
returns-then-month_ok c =
    let a = c.args in
    let ff : SFits w64 a.f.0 = search rules in
    let e = leaf.code_month c.later-month.ensures c.month_at.ensures c.requires.2 in
    let fm = leaf.month_fits e c.requires.4 c.requires.2 in
    let b = leaf.month_tested ff fm e c.month_ok.ensures c.if-month_ok.true in
    leaf.paid a.f.0 a.factors.now c.requires.1 a.start.0 _ _ (unit_one (nat_abs a.pair.p) (nat_abs a.pair.q) _ _) e c.penny-sign.ensures c.factor.ensures b (ap (λ z. lt_z z a.start.0) (sym e) ∙ sym c.earlier.ensures ∙ c.if-earlier.false) c.value_times-value.ensures

pub returns : goal.returns
returns c =
    let a = c.args in
    let ff : SFits w64 a.f.0 = search rules in
    let e = leaf.code_month c.later-month.ensures c.month_at.ensures c.requires.2 in
    let fm = leaf.month_fits e c.requires.4 c.requires.2 in
    leaf.out_of_table a.f.0 a.factors.now c.requires.1 a.start.0 _ _ (leaf.month_tested ff fm e c.month_ok.ensures c.if-month_ok.false)
