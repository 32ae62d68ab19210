use lib.ListN.{length-set}
use mathlib.Core.Path.{refl}
use native.Mathlib.Omega.{arith}
use Rattle.payments.proofs.Shortened.{digits_room, few_digits, no_room, rest_room, same_size, whole}
use Rattle.payments.proofs.waits.shorter_wait.Goals as goal

pub overflow_add-need : goal.overflow_add-need
overflow_add-need c = record { fits = omega (arith, few_digits _ c.digit_count.ensures) }

pub overflow_add-need-2 : goal.overflow_add-need-2
overflow_add-need-2 c = record { fits = omega (arith, c.requires.3, few_digits _ c.digit_count.ensures) }

pub returns-then-out-need : goal.returns-then-out-need
returns-then-out-need c =
    let n = c.digit_count-from.ensures in
    let m = c.digit_count.ensures in
    no_room c.args.text.now c.args.d c.requires.2 c.args.out.now n m c.if-out-need.true

pub bounds-out-1 : goal.bounds-out-1
bounds-out-1 c = simp length-set (omega (arith, c.if-out-need.false))

pub put_digits-at-requires : goal.put_digits-at-requires
put_digits-at-requires c =
    let n = c.digit_count-from.ensures in
    let m = c.digit_count.ensures in
    (omega (arith, c.requires.1), digits_room c.args.text.now c.args.d c.requires.2 c.args.out.now n m c.if-out-need.false)

pub put_rest-end-requires : goal.put_rest-end-requires
put_rest-end-requires c =
    let n = c.digit_count-from.ensures in
    let m = c.digit_count.ensures in
    (omega (arith, n, c.requires.2), rest_room c.args.text.now c.args.d c.requires.2 c.args.out.now n m c.if-out-need.false c.put_digits-at.ensures)

pub shape_of-out : goal.shape_of-out
shape_of-out c =
    let n = c.digit_count-from.ensures in
    let m = c.digit_count.ensures in
    same_size c.args.text.now c.args.d c.requires.2 c.args.out.now n m c.if-out-need.false c.put_digits-at.ensures c.put_rest-end.ensures

pub returns : goal.returns
returns c =
    let n = c.digit_count-from.ensures in
    let m = c.digit_count.ensures in
    whole c.args.text.now c.args.d c.requires.2 c.args.out.now n m c.if-out-need.false c.put_digits-at.ensures c.put_rest-end.ensures _ refl
