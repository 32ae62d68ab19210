use borrow.Author.Tests.{ne_eqb}
use native.Mathlib.Omega.{arith}
use mathlib.Core.Path.{ap, sym}
use Rattle.text.specs.Packed.{refusal_for}
use Rattle.text.proofs.whole.refusal_of.Goals as goal

pub returns-in-1 : goal.returns-in-1
unfolding refusal_for
returns-in-1 c = sym (ap refusal_for c.in-1.is)

pub returns-in-2 : goal.returns-in-2
unfolding refusal_for
returns-in-2 c = sym (ap refusal_for c.in-2.is)

pub returns-in-3 : goal.returns-in-3
unfolding refusal_for
returns-in-3 c = sym (ap refusal_for c.in-3.is)

pub returns-in-4 : goal.returns-in-4
unfolding refusal_for
returns-in-4 c = sym (ap refusal_for c.in-4.is)

pub returns-in-5 : goal.returns-in-5
unfolding refusal_for
returns-in-5 c = sym (ap refusal_for c.in-5.is)

pub returns-in-6 : goal.returns-in-6
unfolding refusal_for
returns-in-6 c = sym (ap refusal_for c.in-6.is)

pub returns-in-7 : goal.returns-in-7
unfolding refusal_for
returns-in-7 c = sym (ap refusal_for c.in-7.is)

pub returns-in-8 : goal.returns-in-8
unfolding refusal_for
returns-in-8 c = sym (ap refusal_for c.in-8.is)

pub returns-in-9 : goal.returns-in-9
unfolding refusal_for
returns-in-9 c = sym (ap refusal_for c.in-9.is)

pub returns-in-10 : goal.returns-in-10
unfolding refusal_for
returns-in-10 c = sym (ap refusal_for c.in-10.is)

pub returns-in-11 : goal.returns-in-11
unfolding refusal_for
returns-in-11 c = sym (ap refusal_for c.in-11.is)

pub returns-in-12 : goal.returns-in-12
unfolding refusal_for
returns-in-12 c = sym (ap refusal_for c.in-12.is)

pub returns-in-13 : goal.returns-in-13
unfolding refusal_for
returns-in-13 c = sym (ap refusal_for c.in-13.is)

pub returns-in_default : goal.returns-in_default
unfolding refusal_for
returns-in_default c =
    simp (
      ne_eqb c.args.n 1 (λ e. omega arith),
      ne_eqb c.args.n 2 (λ e. omega arith),
      ne_eqb c.args.n 3 (λ e. omega arith),
      ne_eqb c.args.n 4 (λ e. omega arith),
      ne_eqb c.args.n 5 (λ e. omega arith),
      ne_eqb c.args.n 6 (λ e. omega arith),
      ne_eqb c.args.n 7 (λ e. omega arith),
      ne_eqb c.args.n 8 (λ e. omega arith),
      ne_eqb c.args.n 9 (λ e. omega arith),
      ne_eqb c.args.n 10 (λ e. omega arith),
      ne_eqb c.args.n 11 (λ e. omega arith),
      ne_eqb c.args.n 12 (λ e. omega arith),
      ne_eqb c.args.n 13 (λ e. omega arith),
    )
