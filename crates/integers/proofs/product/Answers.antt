use borrow.Author.Rules.{rules}
use lib.IntN.{◌*ℤ◌, pos}
use native.Mathlib.Omega.{arith}
use Rattle.integers.proofs.Answers.{amount_in, amount_out}
use Rattle.integers.proofs.Locals.{op_fits, op_reads, small_fits}
use Rattle.integers.proofs.Products.{product_fits, product_le, product_over, product_zero}
use Rattle.integers.specs.Bounded.{amount_limit}
use Rattle.integers.proofs.product.Goals as goal

pub returns-then-n-eq0 : goal.returns-then-n-eq0
returns-then-n-eq0 c =
    let f = small_fits c.requires.0 in
    let g = small_fits c.requires.1 in
    let e = c.magnitude-m.ensures in
    let e' = c.magnitude-n.ensures in
    rw (product_zero f g e e' c.if-n-eq0.true) (amount_in (pos 0) (omega arith))

pub returns-then-m-n : goal.returns-then-m-n
returns-then-m-n c =
    let f = small_fits c.requires.0 in
    let g = small_fits c.requires.1 in
    let e = c.magnitude-m.ensures in
    let e' = c.magnitude-n.ensures in
    amount_out _ (product_over f g e e' amount_limit c.if-n-eq0.false c.if-m-n.true)

pub overflow_mul-result : goal.overflow_mul-result
overflow_mul-result c =
    let f = small_fits c.requires.0 in
    let g = small_fits c.requires.1 in
    let e = c.magnitude-m.ensures in
    let e' = c.magnitude-n.ensures in
    op_fits ◌*ℤ◌ f g (product_fits f g e e' amount_limit tt c.if-n-eq0.false c.if-m-n.false)

pub returns : goal.returns
returns c =
    let f = small_fits c.requires.0 in
    let g = small_fits c.requires.1 in
    let e = c.magnitude-m.ensures in
    let e' = c.magnitude-n.ensures in
    let h = product_fits f g e e' amount_limit tt c.if-n-eq0.false c.if-m-n.false in
    rw (op_reads ◌*ℤ◌ f g h) (amount_in _ (product_le f g e e' amount_limit c.if-n-eq0.false c.if-m-n.false))
