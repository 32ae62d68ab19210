use mathlib.Core.Path.{◌∙◌, ap, subst, sym}
use native.Mathlib.Omega.{arith}
use Prim.Native.Nat.{◌+◌, ◌<◌, ◌≤◌}
use lib.ListN.{length}
use Rattle.language.specs.Text.Number.{print_nat}
use Rattle.payments.proofs.StepPlaced.{answer_is, buffer_is, delay_left, fine, pair_is, pence_are, placing, ready, refusal_is, refusal_keeps, root_row, rows_in, span_in, stands, test_fine, text_in, text_long, text_short, today_is, wait_is, with_bytes, without_room}
use Rattle.rules.proofs.Filling.{standing_few, standing_rows}
use Rattle.writer.specs.Answers.{written_answer}
use Rattle.payments.specs.Answers.{stepping_answer}
use Rattle.integers.proofs.Passed.{handed_up}
use Rattle.payments.proofs.stepped.Goals as goal

pub place_rows-requires : goal.place_rows-requires
place_rows-requires c =
    let a = c.args in
    let w = placing a.pair.p a.pair.q c.accept.ensures c.requires.1 c.in_ok-accept.was c.requires.0.standing in
    (standing_rows w.filled, span_in w, rows_in w)

pub text_waits-requires : goal.text_waits-requires
text_waits-requires c =
    let a = c.args in
    let w = placing a.pair.p a.pair.q c.accept.ensures c.requires.1 c.in_ok-accept.was c.requires.0.standing in
    let r = c.place_rows in
    (today_is w, root_row w r.new.nodes r.ensures, test_fine w r.new.nodes r.ensures)

pub magnitude-d-requires : goal.magnitude-d-requires
magnitude-d-requires c =
    let a = c.args in
    let w = placing a.pair.p a.pair.q c.accept.ensures c.requires.1 c.in_ok-accept.was c.requires.0.standing in
    let r = c.place_rows in
    omega (arith, (root_row w r.new.nodes r.ensures).1)

pub shorter_wait-requires : goal.shorter_wait-requires
shorter_wait-requires c =
    let a = c.args in
    let w = placing a.pair.p a.pair.q c.accept.ensures c.requires.1 c.in_ok-accept.was c.requires.0.standing in
    let r = c.place_rows in
    let one = c.requires.2 c.requires.0.plan c.requires.0.standing in
    let k = sym c.text_waits.ensures ∙ c.if-text_waits.true in
    let m = c.magnitude-d.ensures in
    (subst (λ d. 0 < d) (sym m.0) (delay_left w r.new.nodes r.ensures _ one k), m.1, subst (λ d. 2 + length (print_nat d) ≤ length a.text.now) (sym m.0) (text_long w r.new.nodes r.ensures _ one k), text_in w r.new.nodes r.ensures _ one k)

pub returns-then-text_waits : goal.returns-then-text_waits
returns-then-text_waits c x y =
    let a = c.args in
    let w = placing a.pair.p a.pair.q c.accept.ensures c.requires.1 c.in_ok-accept.was y in
    let r = c.place_rows in
    let k = sym c.text_waits.ensures ∙ c.if-text_waits.true in
    let e = wait_is w r.new.nodes r.ensures _ (c.requires.2 x y) k a.out.now c.magnitude-d.ensures.0 in
    let o = c.shorter_wait.ensures in
    (o.0 ∙ ap (λ z. z.buffer) e, o.1 ∙ ap (λ z. z.answer) e)

pub step_plan-answer-requires : goal.step_plan-answer-requires
step_plan-answer-requires c =
    let a = c.args in
    let w = placing a.pair.p a.pair.q c.accept.ensures c.requires.1 c.in_ok-accept.was c.requires.0.standing in
    let r = c.place_rows in
    (today_is w, pair_is w, ready w r.new.nodes r.ensures, stands w r.new.nodes r.ensures, fine w r.new.nodes r.ensures)

pub write_text-requires : goal.write_text-requires
write_text-requires c =
    let a = c.args in
    let w = placing a.pair.p a.pair.q c.accept.ensures c.requires.1 c.in_ok-accept.was c.requires.0.standing in
    let k = c.step_plan-answer in
    let r = c.place_rows in
    (omega (arith, standing_rows w.filled, r.auto.nodes, k.auto.nodes, k.ensures.1), omega (arith, standing_few c.requires.0.standing, k.ensures.1), text_short w r.new.nodes r.ensures _ _ _ k.ensures.2)

pub returns : goal.returns
returns c x y =
    let a = c.args in
    let w = placing a.pair.p a.pair.q c.accept.ensures c.requires.1 c.in_ok-accept.was y in
    let r = c.place_rows in
    let k = c.step_plan-answer in
    let o = c.write_text in
    let v = pence_are w r.new.nodes r.ensures k.ensures.0 in (
      buffer_is w r.new.nodes r.ensures _ _ _ k.ensures.2 a.out.now o.ensures.0,
      with_bytes k.result.pence _ ∙ answer_is w r.new.nodes r.ensures _ _ _ k.ensures.2 a.out.now v _ (ap written_answer (sym c.in_ok-bytes.was) ∙ o.ensures.1),
    )

pub returns-in_err-bytes : goal.returns-in_err-bytes
returns-in_err-bytes c x y =
    let a = c.args in
    let w = placing a.pair.p a.pair.q c.accept.ensures c.requires.1 c.in_ok-accept.was y in
    let r = c.place_rows in
    let k = c.step_plan-answer in
    let o = c.write_text in
    let v = pence_are w r.new.nodes r.ensures k.ensures.0 in (
      buffer_is w r.new.nodes r.ensures _ _ _ k.ensures.2 a.out.now o.ensures.0,
      ap stepping_answer (handed_up _ c.from_residual-in_err-bytes.ensures.1) ∙ without_room k.result.pence ∙ answer_is w r.new.nodes r.ensures _ _ _ k.ensures.2 a.out.now v _ (ap written_answer (sym c.in_err-bytes.was) ∙ o.ensures.1),
    )

pub returns-in_err-accept : goal.returns-in_err-accept
returns-in_err-accept c x y =
    let a = c.args in (
      refusal_keeps a.pair.p a.pair.q c.accept.ensures c.requires.1 c.in_err-accept.was y a.out.now,
      ap stepping_answer (handed_up _ c.from_residual.ensures.1) ∙ refusal_is a.pair.p a.pair.q c.accept.ensures c.requires.1 c.in_err-accept.was y a.out.now,
    )
