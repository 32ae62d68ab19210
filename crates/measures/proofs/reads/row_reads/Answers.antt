use Rattle.measures.proofs.Windows as laws
use borrow.Author.Rules.{rules}
use mir.Syntax.{w64}
use mir.Val.{SFits}
use Rattle.measures.proofs.reads.row_reads.Goals as goal

pub returns-then-l-w : goal.returns-then-l-w
returns-then-l-w c =
    let low : SFits w64 c.args.w.low = search rules in
    let high : SFits w64 c.args.w.high = search rules in
    let f : SFits w64 c.offset-i.result.0 = search rules in
    let i = c.is_index.ensures in
    let t = c.if-is_index.true in
    let l = c.label-l.ensures in
    let o = c.offset-i.ensures in
    laws.row_index c.args.w c.args.nodes.now c.args.at i t l low high f o c.if-l-w.true

pub returns-then-is_index : goal.returns-then-is_index
returns-then-is_index c =
    laws.row_unknown c.args.w c.args.nodes.now c.args.at c.is_index.ensures c.if-is_index.true c.label-l.ensures c.if-l-w.false

pub returns : goal.returns
returns c =
    laws.row_other c.args.w c.args.nodes.now c.args.at c.is_index.ensures c.if-is_index.false
