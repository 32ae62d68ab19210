use Rattle.std.proofs.Common.{◌≡◌, ◌+◌, ◌*◌, ◌∙◌, arith, get_or, pos, rules, sym, to_z-of_z, w64, SFits}
use Rattle.language.specs.Limits.{max_amount}
use Rattle.language.specs.Text.Number.{between}
use Rattle.tables.proofs.Bounds.{opposite_reads}
use Rattle.tables.proofs.Fills.{all_at}
use Rattle.tables.proofs.Lists.{bounded_done, bounded_failed, bounded_passed}
use Rattle.tables.proofs.values_bounded.Goals as goal

pub loop-k-preserved : goal.loop-k-preserved
loop-k-preserved c =
    let bounds = c.args.bounds.now in
    let k = c.loop-k.k in
    let f : SFits w64 (get_or bounds k (pos 0)) = search rules in
    let e = all_at (between (pos 0) (pos max_amount)) bounds c.requires.1 k c.loop-k-test.true in
    let on : (k + 1) * c.args.n ≡ k * c.args.n + c.args.n = omega arith in
    rw on (c.loop-k.invariant ∙ bounded_passed c.args.n bounds c.args.values.now k (k * c.args.n) c.loop-k-test.true e (opposite_reads _ f e) (to_z-of_z f) c.all_between.ensures c.if-not-all_between.false)

pub returns-then-not-all_between : goal.returns-then-not-all_between
returns-then-not-all_between c =
    let bounds = c.args.bounds.now in
    let k = c.loop-k.k in
    let f : SFits w64 (get_or bounds k (pos 0)) = search rules in
    let e = all_at (between (pos 0) (pos max_amount)) bounds c.requires.1 k c.loop-k-test.true in
    sym (c.loop-k.invariant ∙ bounded_failed c.args.n bounds c.args.values.now k (k * c.args.n) c.loop-k-test.true e (opposite_reads _ f e) (to_z-of_z f) c.all_between.ensures c.if-not-all_between.true)

pub returns : goal.returns
returns c = sym (c.loop-k.invariant ∙ bounded_done c.args.n c.args.bounds.now c.args.values.now c.loop-k.k (c.loop-k.k * c.args.n) (omega arith))
