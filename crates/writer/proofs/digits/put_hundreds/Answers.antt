use Prim.Native.Nat.{◌%◌, ◌*◌, ◌+◌, ◌/◌, ◌<◌, ℕ}
use borrow.Author.Rules.{rules}
use lib.ListN.{length, length-set, set}
use mathlib.Core.List.{List}
use mathlib.Core.Path.{◌∙◌, ◌≡◌, ap, subst, sym}
use native.Mathlib.Omega.{arith}
use Rattle.language.specs.Text.Number.{print_nat}
use Rattle.writer.proofs.Decimal.{print_few}
use Rattle.writer.proofs.Puts.{kept, one, said}
use Rattle.writer.proofs.Splits.{at_two, parted, three_digits}
use Rattle.writer.specs.Digits.{two}
use Rattle.writer.specs.Put.{Put}
use Rattle.writer.proofs.digits.put_hundreds.Goals as goal

-- `digits::put_hundreds` meets its contract.

-- the digit in front, then what is over
front_put : (h o : ℕ) → 0 < h → h < 10 → o < 100 → {out last : List ℕ} {at end : ℕ} (n : ℕ) → n ≡ 100 * h + o → Put (set out at (48 + h)) last (at + 1) end (two o) → Put out last at end (print_nat n)
front_put h o some few rest {out} {last} {at} {end} n e p =
    let q : n / 100 ≡ h = omega arith in
    let m : n % 100 ≡ o = omega arith in
    parted at_two n (omega arith) (omega arith) (said (sym (ap print_nat q ∙ print_few h few)) (one out at (48 + h))) (subst (λ x. Put (set out at (48 + h)) last (at + 1) end (two x)) (sym m) p)

pub put_to_two-requires : goal.put_to_two-requires
put_to_two-requires c =
    let e : 100 * c.args.hundreds + c.args.over ≡ c.args.over = omega (arith, c.if-hundreds-eq0.true) in
    (c.requires.1, omega (arith, ap (λ x. length (print_nat x)) e, c.requires.2))

pub bounds-out-at : goal.bounds-out-at
bounds-out-at c =
    omega (arith, three_digits (100 * c.args.hundreds + c.args.over) (omega (arith, c.if-hundreds-eq0.false)) (omega (arith, c.requires.0, c.requires.1)), c.requires.2)

pub put_pair-requires : goal.put_pair-requires
put_pair-requires c = (
  c.requires.1,
  omega (arith, three_digits (100 * c.args.hundreds + c.args.over) (omega (arith, c.if-hundreds-eq0.false)) (omega (arith, c.requires.0, c.requires.1)), c.requires.2, length-set c.args.out.now c.args.at (48 + c.args.hundreds)),
  c.requires.3,
)

pub returns-then-hundreds-eq0 : goal.returns-then-hundreds-eq0
returns-then-hundreds-eq0 c n e =
    let z : c.args.over ≡ n = omega (arith, c.if-hundreds-eq0.true, e) in
    said (ap print_nat z) c.put_to_two.ensures

pub shape_of-out-else-hundreds-eq0 : goal.shape_of-out-else-hundreds-eq0
shape_of-out-else-hundreds-eq0 c =
    kept c.put_pair.ensures ∙ length-set c.args.out.now c.args.at (48 + c.args.hundreds)

pub returns-else-hundreds-eq0 : goal.returns-else-hundreds-eq0
returns-else-hundreds-eq0 c n e =
    front_put c.args.hundreds c.args.over (omega (arith, c.if-hundreds-eq0.false)) c.requires.0 c.requires.1 n e c.put_pair.ensures
