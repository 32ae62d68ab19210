use Rattle.one_pass.proofs.Nodes.{unsure, nothing_read}
use borrow.Author.Rules.{rules}
use native.Mathlib.Omega.{arith}
use Rattle.one_pass.proofs.node.last_at.Goals as goal

pub returns-then-left-eq0 : goal.returns-then-left-eq0
returns-then-left-eq0 c = λ low bounds days. unsure

pub returns-then-text-at : goal.returns-then-text-at
returns-then-text-at c = λ low bounds days. unsure

pub returns-then-alone_at : goal.returns-then-alone_at
returns-then-alone_at c = λ low bounds days k. nothing_read c.requires.0 (omega (arith, c.if-left-eq0.false)) (omega (arith, c.if-text-at.false)) c.if-text-at-eq90.true (c.alone_at.ensures c.if-alone_at.true) k (c.ended.ensures k)

pub returns-then-text-at-eq90 : goal.returns-then-text-at-eq90
returns-then-text-at-eq90 c = λ low bounds days. unsure

pub returns : goal.returns
returns c = λ low bounds days. c.last_transfer.ensures _ low bounds days (omega (arith, c.if-left-eq0.false))
