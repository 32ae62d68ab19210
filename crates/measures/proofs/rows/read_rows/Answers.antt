use Prim.Native.Nat.{◌*◌, ◌-◌, ◌≤◌, min}
use Rattle.measures.proofs.AmountMagnitudes.{bound_at}
use Rattle.measures.proofs.Latests as latests
use Rattle.measures.proofs.Readings as readings
use Rattle.measures.proofs.RowArms as arms
use Rattle.measures.proofs.RowSums as sums
use Rattle.measures.specs.Magnitudes.{beyond, bound_in}
use borrow.Author.Rules.{rules}
use mathlib.Core.Path.{◌∙◌, ap, refl}
use native.Mathlib.Omega.{arith}
use Rattle.measures.proofs.rows.read_rows.Goals as goal
use Rattle.measures.proofs.rows.read_rows.Goals.{in-Index, in-Number, in-Product, in_default}

pub loop-at-init : goal.loop-at-init
loop-at-init c =
    let z : 0 ≤ (c.args.from - c.args.from) * beyond = omega arith in
    (latests.passing_none c.requires.0, record { left = refl }, record { low = omega arith; most = z; left = omega arith })

pub loop-at-preserved : goal.loop-at-preserved
loop-at-preserved c =
    let l = c.loop-at in
    let h = c.loop-at-test.true in
    let bound = bound_in c.args.lent.now.bounds.now in
    let m = c.amount_kind-letter.result in
    let n = c.args.lent.now.nodes.now in
    let k = c.amount_kind-letter.ensures in
    let b = bound_at c.args.lent.now.bounds.now c.args.lent.now.bounded.within in
    elim c.match-letter.branch [
      | in-Number w ↦
          let e = w.in-Number.is in
          rw (w.latest-is, w.total-is, w.reads-is) (arms.plain_row c.args.w bound n c.args.from c.args.to l.invariant h b k (rw e refl) (rw e (w.capped-total.ensures ∙ ap (λ x. min x beyond) w.distance.ensures)))
      | in-Index w ↦
          rw (w.latest-is, w.total-is, w.reads-is) (arms.index_row c.args.w bound n c.args.from c.args.to l.invariant h b k w.in-Index.is w.ahead.ensures w.max-latest.ensures w.row_reads-reads.ensures (w.bound_of-total.ensures ∙ ap bound w.label.ensures))
      | in-Product w ↦
          let q = arms.adds_beyond bound m w.in-Product.in-Product-own.keys3 in
          rw (w.latest-is, w.total-is, w.reads-is) (arms.plain_row c.args.w bound n c.args.from c.args.to l.invariant h b k q.unread (q.adds _))
      | in_default w ↦
          let q = arms.adds_nothing bound m w.in_default.in_default-own.keys4 in
          rw (w.latest-is, w.total-is, w.reads-is) (arms.quiet_row c.args.w bound n c.args.from c.args.to l.invariant h b k q)
    ]

pub returns : goal.returns
returns c =
    let i = c.loop-at.invariant in
    let b = bound_in c.args.lent.now.bounds.now in
    (latests.passing_all i.0 (search rules), readings.passed_all i.1 (search rules), sums.summing_all b i.2 (search rules))
