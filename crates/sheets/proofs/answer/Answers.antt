use Prim.Native.Nat.{◌<◌, ◌≤◌, ℕ}
use borrow.Author.Rules.{rules}
use lib.IntN.{nat_abs, pos, ℤ}
use lib.ListN.{get_or, length}
use mathlib.Core.List.{List, [], ◌∷◌}
use mathlib.Core.Path.{◌∙◌, ◌≡◌, ap, subst, sym}
use mir.Facts.{to_z-of_z}
use mir.Syntax.{w64}
use mir.Val.{SFits, to_z}
use native.Mathlib.Omega.{arith}
use Rattle.integers.proofs.Laws.{sfits64}
use Rattle.columns.specs.Remaining.{rest_from}
use Rattle.printing.specs.Lines.{answer_call}
use Rattle.payments.proofs.StepPlaced.{pair_is, placing, rows_in, span_in, stands}
use Rattle.rules.proofs.Filling.{standing_rows}
use Rattle.rules.specs.Answers.{checking_answer}
use Rattle.sheets.proofs.Accepted.{answer_is, factors_count, length_is, length_small, magnitude_is, magnitude_small, span_kept, sums, weighs}
use Rattle.sheets.proofs.Refusals.{refused_into}
use Rattle.sheets.proofs.answer.Goals as goal

pub place_rows-requires : goal.place_rows-requires
place_rows-requires c =
    let a = c.args in
    let w = placing a.pair.p a.pair.q c.accept-checking.ensures c.requires.1 c.in-Ok.is c.requires.0.standing in
    (standing_rows (c.accept-checking.ensures.filled _ c.in-Ok.is c.requires.0.plan c.requires.0.standing), span_in w, rows_in w)

pub plan_column-requires : goal.plan_column-requires
plan_column-requires c =
    let a = c.args in
    let w = placing a.pair.p a.pair.q c.accept-checking.ensures c.requires.1 c.in-Ok.is c.requires.0.standing in
    let r = c.place_rows in
    (pair_is w, stands w r.new.nodes r.ensures, weighs w r.new.nodes r.ensures _ c.requires.3 c.requires.2)

pub months_of-months-requires : goal.months_of-months-requires
months_of-months-requires c =
    let a = c.args in
    let w = placing a.pair.p a.pair.q c.accept-checking.ensures c.requires.1 c.in-Ok.is c.requires.0.standing in
    span_kept w

pub add_back-requires : goal.add_back-requires
add_back-requires c =
    let a = c.args in
    let w = placing a.pair.p a.pair.q c.accept-checking.ensures c.requires.1 c.in-Ok.is c.requires.0.standing in
    let r = c.place_rows in
    let n = c.months_of-months.ensures in
    let k : length c.plan_column.new.column ≡ length a.column.now = search rules in
    (omega (arith, n, factors_count w), omega (arith, n, k, factors_count w, c.requires.2), omega (arith, n, factors_count w, c.requires.4), rw n (sums w r.new.nodes r.ensures _ c.requires.3 c.requires.2 c.plan_column.ensures))

pub overflow_cast-a : goal.overflow_cast-a
overflow_cast-a c =
    let a = c.args in
    let w = placing a.pair.p a.pair.q c.accept-checking.ensures c.requires.1 c.in-Ok.is c.requires.0.standing in
    let ch = ap checking_answer (sym c.in-Ok.is) ∙ c.accept-checking.ensures.answer c.requires.0.plan c.requires.0.standing in
    let fl : SFits w64 c.in-Ok.plan.length.0 = sfits64 600 (length_small w _ _ ch c.requires.1) tt in
    let el = c.magnitude-a.ensures ∙ ap nat_abs (to_z-of_z fl) in
    let za : nat_abs (pos c.magnitude-a.result) ≤ 600 = omega (arith, el, length_small w _ _ ch c.requires.1) in
    let fa : SFits w64 (pos c.magnitude-a.result) = sfits64 600 za tt in
    fa

pub overflow_cast-b : goal.overflow_cast-b
overflow_cast-b c =
    let a = c.args in
    let w = placing a.pair.p a.pair.q c.accept-checking.ensures c.requires.1 c.in-Ok.is c.requires.0.standing in
    let ch = ap checking_answer (sym c.in-Ok.is) ∙ c.accept-checking.ensures.answer c.requires.0.plan c.requires.0.standing in
    let fm : SFits w64 c.in-Ok.plan.magnitude.0 = sfits64 9_000_000_000_000 (magnitude_small w _ _ ch c.requires.1) tt in
    let em = c.magnitude-b.ensures ∙ ap nat_abs (to_z-of_z fm) in
    let zb : nat_abs (pos c.magnitude-b.result) ≤ 9_000_000_000_000 = omega (arith, em, magnitude_small w _ _ ch c.requires.1) in
    let fb : SFits w64 (pos c.magnitude-b.result) = sfits64 9_000_000_000_000 zb tt in
    fb

pub write_answer-requires : goal.write_answer-requires
write_answer-requires c =
    let a = c.args in
    let w = placing a.pair.p a.pair.q c.accept-checking.ensures c.requires.1 c.in-Ok.is c.requires.0.standing in
    let n = c.months_of-months.ensures in
    let k : length c.plan_column.new.column ≡ length a.column.now = c.plan_column.auto.column in
    let i : length c.add_back.new.rest ≡ length a.rest.now = c.add_back.auto.rest in
    (omega arith, omega (arith, n, k, factors_count w, c.requires.2), omega (arith, n, i, factors_count w, c.requires.4), omega (arith, n, (span_kept w).f_to))

pub returns-in-Ok : goal.returns-in-Ok
returns-in-Ok c = λ x y.
    let a = c.args in
    let w = placing a.pair.p a.pair.q c.accept-checking.ensures c.requires.1 c.in-Ok.is y in
    let r = c.place_rows in
    let ch = ap checking_answer (sym c.in-Ok.is) ∙ c.accept-checking.ensures.answer x y in
    let fl : SFits w64 c.in-Ok.plan.length.0 = sfits64 600 (length_small w _ _ ch c.requires.1) tt in
    let el = c.magnitude-a.ensures ∙ ap nat_abs (to_z-of_z fl) in
    let za : nat_abs (pos c.magnitude-a.result) ≤ 600 = omega (arith, el, length_small w _ _ ch c.requires.1) in
    let fa : SFits w64 (pos c.magnitude-a.result) = sfits64 600 za tt in
    let ch = ap checking_answer (sym c.in-Ok.is) ∙ c.accept-checking.ensures.answer x y in
    let fm : SFits w64 c.in-Ok.plan.magnitude.0 = sfits64 9_000_000_000_000 (magnitude_small w _ _ ch c.requires.1) tt in
    let em = c.magnitude-b.ensures ∙ ap nat_abs (to_z-of_z fm) in
    let zb : nat_abs (pos c.magnitude-b.result) ≤ 9_000_000_000_000 = omega (arith, em, magnitude_small w _ _ ch c.requires.1) in
    let fb : SFits w64 (pos c.magnitude-b.result) = sfits64 9_000_000_000_000 zb tt in
    let n = c.months_of-months.ensures in
    let rest = subst (λ k. (m : ℕ) → m < k → get_or c.add_back.new.rest m (pos 0) ≡ rest_from a.given.now.factors.now c.plan_column.new.column k m) n c.add_back.ensures in
    let hd : List ℤ = to_z w64 c.magnitude-a.result ∷ to_z w64 c.magnitude-b.result ∷ [] in
    let e = ap (λ k. answer_call hd c.plan_column.new.column c.add_back.new.rest k a.out.now) n ∙ answer_is w r.new.nodes r.ensures _ c.requires.3 c.requires.2 c.plan_column.ensures c.add_back.new.rest rest hd (to_z-of_z fa ∙ ap pos (el ∙ length_is w _ _ ch c.requires.1)) (to_z-of_z fb ∙ ap pos (em ∙ magnitude_is w _ _ ch c.requires.1)) a.out.now in
    (c.write_answer.ensures.0 ∙ ap (λ o. o.buffer) e, c.write_answer.ensures.1 ∙ ap (λ o. o.answer) e)

pub returns-in-Err : goal.returns-in-Err
returns-in-Err c = λ x y.
    let a = c.args in
    let e = refused_into a.pair.p a.pair.q c.accept-checking.ensures c.requires.1 c.in-Err.is y a.out.now in
    (c.refuse.ensures.0 ∙ ap (λ o. o.buffer) e, c.refuse.ensures.1 ∙ ap (λ o. o.answer) e)
