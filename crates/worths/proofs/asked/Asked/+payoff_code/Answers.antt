use borrow.Author.Rules.{rules}
use mathlib.Core.Path.{◌∙◌, ◌≡◌, ap, subst, sym}
use mir.Facts.{to_z-of_z}
use mir.Syntax.{w64}
use mir.Val.{SFits}
use native.Mathlib.Omega.{arith}
use Rattle.amounts.proofs.RowReads.{month_is}
use Rattle.nodes.specs.Table.{nat_of}
use Rattle.nodes.specs.declared.PayoffLetter.{PayoffLetter}
use Rattle.language.specs.Payments.Pays.{hit, miss}
use Rattle.checked.proofs.Bounds.{valued_small}
use Rattle.worths.proofs.WorthNodes.{PayoffNode, payoff_inside, payoff_node}
use Rattle.checked.specs.Coded.{valued_in}
use lib.IntN.{ℤ}
use Rattle.integers.specs.Bounded.{SmallValue}
use Rattle.language.specs.Answer.{Answer, refused}
use Rattle.language.specs.Limits.{max_value}
use Rattle.text.specs.Refusals.{number_of}
use Rattle.checked.proofs.Codes.{stands_value}
use Rattle.worths.specs.Answers.{worth_answer}
use Rattle.checked.specs.Evaluated.{Evaluated}
use Rattle.worths.specs.Coded.{coded_worth}
use Rattle.worths.specs.Ranges.{FieldsIn}
use Rattle.std.specs.Prelude.{Ok}
use Rattle.worths.specs.Waits.{WaitKnown, wait_answer}
use Prim.Native.Nat.{ℕ}
use Rattle.nodes.specs.declared.PayoffLetter.TheVariants as letter
use Rattle.worths.proofs.WorthArms as arms
use Rattle.worths.proofs.WorthParts as parts
use Rattle.worths.proofs.asked.Asked.+payoff_code.Goals as goal
use Rattle.worths.proofs.asked.Asked.+payoff_code.Goals.{After-added, After-letter-letter, After-scaled, In-Err}

-- what is known in the arm of letter l
payoff_code_here : (t : ℕ) (c : After-letter-letter t) (l : PayoffLetter) → c.letter-letter.result ≡ l
    → PayoffNode c.args.self.now.lent.nodes.now c.args.left c.args.at l
payoff_code_here t c l e = payoff_node c.requires.1 c.requires.2 c.requires.3 c.letter-letter.ensures e

-- what the whole payoff answers
abbrev payoff_code_whole : (t : ℕ) → After-letter-letter t → Answer ℤ
payoff_code_whole t c =
    let a = c.args in
    arms.whole a.self.now.lent.span.h a.self.now.lent.span.f a.self.now.factors.now a.self.now.lent.bounds.now a.self.now.lent.values.now a.self.now.pair.p a.self.now.pair.q a.self.now.lent.nodes.now (nat_of a.self.now.start.0) (nat_of a.waited.0) a.left a.at

payoff_code_codable : (t : ℕ) (c : After-letter-letter t) {z : Answer ℤ} → z ≡ payoff_code_whole t c → Evaluated SmallValue z
payoff_code_codable t c e =
    let a = c.args in
    arms.part_codable a.self.now.lent.span.h a.self.now.lent.span.f a.self.now.factors.now a.self.now.lent.bounds.now a.self.now.lent.values.now a.self.now.pair.p a.self.now.pair.q _ _ _ e

pub letter-letter-requires : goal.letter-letter-requires
letter-letter-requires t c = payoff_inside _ _ _ c.requires.1

pub leaf_worth-x-requires : goal.leaf_worth-x-requires
unfolding FieldsIn
leaf_worth-x-requires t c =
    let h = c.requires in
    let n = payoff_code_here t (goal.at.leaf_worth-x-requires t c).After-letter-letter letter.Uncut c.in-Uncut.is in
    (n.inside, parts.waited h.0, n.range)

pub leaf_worth-x-requires-in-Cut : goal.leaf_worth-x-requires-in-Cut
unfolding FieldsIn
leaf_worth-x-requires-in-Cut t c =
    let h = c.requires in
    let n = payoff_code_here t (goal.at.leaf_worth-x-requires-in-Cut t c).After-letter-letter letter.Cut c.in-Cut.is in
    (n.inside, parts.waited h.0, n.range)

pub code-requires : goal.code-requires
code-requires t c =
    let a = c.args in
    let p = (goal.at.code-requires t c).After-letter-letter in
    let n = payoff_code_here t p letter.Uncut c.in-Uncut.is in
    payoff_code_codable t p (arms.uncut_arm a.self.now.lent.span.h a.self.now.lent.span.f a.self.now.factors.now a.self.now.lent.bounds.now a.self.now.lent.values.now a.self.now.pair.p a.self.now.pair.q _ _ _ _ _ n c.leaf_worth-x.ensures)

pub code-requires-in-Cut : goal.code-requires-in-Cut
code-requires-in-Cut t c =
    let a = c.args in
    let p = (goal.at.code-requires-in-Cut t c).After-letter-letter in
    let n = payoff_code_here t p letter.Cut c.in-Cut.is in
    payoff_code_codable t p (arms.cut_arm a.self.now.lent.span.h a.self.now.lent.span.f a.self.now.factors.now a.self.now.lent.bounds.now a.self.now.lent.values.now a.self.now.pair.p a.self.now.pair.q _ _ _ _ _ n (month_is a.self.now.start.0 c.args.self.now.known) c.leaf_worth-x-in-Cut.ensures)

pub link-next-requires : goal.link-next-requires
link-next-requires t c =
    let n = payoff_code_here t (goal.at.link-next-requires t c).After-letter-letter letter.Times c.in-Times.is in
    (n.inside, omega arith, n.stands.1.0)

pub overflow_add-at : goal.overflow_add-at
overflow_add-at t c =
    let n = payoff_code_here t (goal.at.overflow_add-at t c).After-letter-letter letter.Times c.in-Times.is in
    record { fits = omega (arith, n.inside) }

pub value_in-requires : goal.value_in-requires
unfolding FieldsIn
value_in-requires t c =
    let h = c.requires in
    let n = payoff_code_here t (goal.at.value_in-requires t c).After-letter-letter letter.Times c.in-Times.is in
    let i = payoff_inside _ _ _ n.stands.1.1 in
    rw c.link-next.ensures (parts.waited h.0, n.stands.0, n.range.0, n.blocks.0, omega (arith, i.0), omega (arith, i.1))

pub overflow_sub-left : goal.overflow_sub-left
overflow_sub-left t c =
    let n = payoff_code_here t (goal.at.overflow_sub-left t c).After-letter-letter letter.Times c.in-Times.is in
    omega (arith, n.some)

pub payoff_code-requires : goal.payoff_code-requires
unfolding FieldsIn
payoff_code-requires t c =
    let h = c.requires in
    let n = payoff_code_here t (goal.at.payoff_code-requires t c).After-letter-letter letter.Times c.in-Times.is in
    (omega (arith, n.some), rw c.link-next.ensures (parts.same_waited n.some h.0, n.stands.1.1, n.range.1, n.blocks.1))

pub scaled-requires : goal.scaled-requires
scaled-requires t c =
    let a = c.args in
    let f : SFits w64 c.value_in.result = search rules in
    let g : SFits w64 c.payoff_code.result = search rules in (
      valued_small a.self.now.lent.span.h a.self.now.lent.span.f a.self.now.lent.bounds.now a.self.now.lent.values.now _ _ c.valued-a.result (c.valued-a.ensures ∙ ap valued_in (to_z-of_z f) ∙ c.value_in.ensures),
      arms.part_small a.self.now.lent.span.h a.self.now.lent.span.f a.self.now.factors.now a.self.now.lent.bounds.now a.self.now.lent.values.now a.self.now.pair.p a.self.now.pair.q _ _ _ c.worth-x.result (c.worth-x.ensures ∙ ap coded_worth (to_z-of_z g) ∙ c.payoff_code.ensures),
    )

-- before it is coded, what an arm answers is what the whole payoff does
payoff_code_times_is : (t : ℕ) (c : After-scaled t) → worth_answer c.scaled.result ≡ payoff_code_whole t c.before.before.before.before.before.before.before.before
payoff_code_times_is t c =
    let a = c.args in
    let f : SFits w64 c.value_in.result = search rules in
    let g : SFits w64 c.payoff_code.result = search rules in
    let n = payoff_code_here t c.before.before.before.before.before.before.before.before letter.Times c.in-Times.is in
    arms.times_arm a.self.now.lent.span.h a.self.now.lent.span.f a.self.now.factors.now a.self.now.lent.bounds.now a.self.now.lent.values.now a.self.now.pair.p a.self.now.pair.q _ _ _ _ _ n c.link-next.ensures (c.valued-a.ensures ∙ ap valued_in (to_z-of_z f) ∙ c.value_in.ensures) (c.worth-x.ensures ∙ ap coded_worth (to_z-of_z g) ∙ c.payoff_code.ensures) c.scaled.ensures

pub code-requires-in-Times : goal.code-requires-in-Times
code-requires-in-Times t c = payoff_code_codable t (goal.at.code-requires-in-Times t c).After-letter-letter (payoff_code_times_is t c)

pub overflow_add-at-in-Plus : goal.overflow_add-at-in-Plus
overflow_add-at-in-Plus t c =
    let n = payoff_code_here t (goal.at.overflow_add-at-in-Plus t c).After-letter-letter letter.Plus c.in-Plus.is in
    record { fits = omega (arith, n.inside) }

pub overflow_sub-left-in-Plus : goal.overflow_sub-left-in-Plus
overflow_sub-left-in-Plus t c =
    let n = payoff_code_here t (goal.at.overflow_sub-left-in-Plus t c).After-letter-letter letter.Plus c.in-Plus.is in
    omega (arith, n.some)

pub payoff_code-requires-in-Plus : goal.payoff_code-requires-in-Plus
unfolding FieldsIn
payoff_code-requires-in-Plus t c =
    let h = c.requires in
    let n = payoff_code_here t (goal.at.payoff_code-requires-in-Plus t c).After-letter-letter letter.Plus c.in-Plus.is in
    (omega (arith, n.some), (parts.same_waited n.some h.0, n.stands.0, n.range.0, n.blocks.0))

pub link-second-requires : goal.link-second-requires
link-second-requires t c =
    let n = payoff_code_here t (goal.at.link-second-requires t c).After-letter-letter letter.Plus c.in-Plus.is in
    (n.inside, omega arith, n.stands.1.0)

pub overflow_sub-left-in-Plus-2 : goal.overflow_sub-left-in-Plus-2
overflow_sub-left-in-Plus-2 t c =
    let n = payoff_code_here t (goal.at.overflow_sub-left-in-Plus-2 t c).After-letter-letter letter.Plus c.in-Plus.is in
    omega (arith, n.some)

pub payoff_code-requires-in-Plus-2 : goal.payoff_code-requires-in-Plus-2
unfolding FieldsIn
payoff_code-requires-in-Plus-2 t c =
    let h = c.requires in
    let n = payoff_code_here t (goal.at.payoff_code-requires-in-Plus-2 t c).After-letter-letter letter.Plus c.in-Plus.is in
    (omega (arith, n.some), rw c.link-second.ensures (parts.same_waited n.some h.0, n.stands.1.1, n.range.1, n.blocks.1))

pub added-requires : goal.added-requires
added-requires t c =
    let a = c.args in
    let f : SFits w64 c.payoff_code-in-Plus.result = search rules in
    let g : SFits w64 c.payoff_code-in-Plus-2.result = search rules in (
      arms.part_small a.self.now.lent.span.h a.self.now.lent.span.f a.self.now.factors.now a.self.now.lent.bounds.now a.self.now.lent.values.now a.self.now.pair.p a.self.now.pair.q _ _ _ c.worth-x-in-Plus.result (c.worth-x-in-Plus.ensures ∙ ap coded_worth (to_z-of_z f) ∙ c.payoff_code-in-Plus.ensures),
      arms.part_small a.self.now.lent.span.h a.self.now.lent.span.f a.self.now.factors.now a.self.now.lent.bounds.now a.self.now.lent.values.now a.self.now.pair.p a.self.now.pair.q _ _ _ c.worth-y.result (c.worth-y.ensures ∙ ap coded_worth (to_z-of_z g) ∙ c.payoff_code-in-Plus-2.ensures),
    )

payoff_code_plus_is : (t : ℕ) (c : After-added t) → worth_answer c.added.result ≡ payoff_code_whole t c.before.before.before.before.before.before.before.before
payoff_code_plus_is t c =
    let a = c.args in
    let f : SFits w64 c.payoff_code-in-Plus.result = search rules in
    let g : SFits w64 c.payoff_code-in-Plus-2.result = search rules in
    let n = payoff_code_here t c.before.before.before.before.before.before.before.before letter.Plus c.in-Plus.is in
    arms.plus_arm a.self.now.lent.span.h a.self.now.lent.span.f a.self.now.factors.now a.self.now.lent.bounds.now a.self.now.lent.values.now a.self.now.pair.p a.self.now.pair.q _ _ _ _ _ n c.link-second.ensures (c.worth-x-in-Plus.ensures ∙ ap coded_worth (to_z-of_z f) ∙ c.payoff_code-in-Plus.ensures) (c.worth-y.ensures ∙ ap coded_worth (to_z-of_z g) ∙ c.payoff_code-in-Plus-2.ensures) c.added.ensures

pub code-requires-in-Plus : goal.code-requires-in-Plus
code-requires-in-Plus t c = payoff_code_codable t (goal.at.code-requires-in-Plus t c).After-letter-letter (payoff_code_plus_is t c)

pub delay-d-requires : goal.delay-d-requires
delay-d-requires t c =
    let n = payoff_code_here t (goal.at.delay-d-requires t c).After-letter-letter letter.Await c.in-Await.is in
    n.inside

pub overflow_add-at-in-Await : goal.overflow_add-at-in-Await
overflow_add-at-in-Await t c =
    let n = payoff_code_here t (goal.at.overflow_add-at-in-Await t c).After-letter-letter letter.Await c.in-Await.is in
    record { fits = omega (arith, n.inside) }

pub wait_for-requires : goal.wait_for-requires
unfolding FieldsIn
wait_for-requires t c =
    let h = c.requires in
    let n = payoff_code_here t (goal.at.wait_for-requires t c).After-letter-letter letter.Await c.in-Await.is in
    (parts.await_months n h.0 c.delay-d.ensures, n.stands.0, n.range.1)

pub link-second-requires-in-Ok-Held : goal.link-second-requires-in-Ok-Held
link-second-requires-in-Ok-Held t c =
    let n = payoff_code_here t (goal.at.link-second-requires-in-Ok-Held t c).After-letter-letter letter.Await c.in-Await.is in
    (n.inside, omega arith, n.stands.1.0)

pub overflow_sub-left-in-Ok-Held : goal.overflow_sub-left-in-Ok-Held
overflow_sub-left-in-Ok-Held t c =
    let n = payoff_code_here t (goal.at.overflow_sub-left-in-Ok-Held t c).After-letter-letter letter.Await c.in-Await.is in
    omega (arith, n.some)

pub payoff_code-requires-in-Ok-Held : goal.payoff_code-requires-in-Ok-Held
unfolding FieldsIn
payoff_code-requires-in-Ok-Held t c =
    let h = c.requires in
    let n = payoff_code_here t (goal.at.payoff_code-requires-in-Ok-Held t c).After-letter-letter letter.Await c.in-Await.is in
    let e = sym (ap wait_answer (c.in-Ok-Held.is ∙ ap Ok c.in-Ok-Held.field-0-is)) ∙ c.wait_for.ensures.is in
    let k = subst WaitKnown (c.in-Ok-Held.is ∙ ap Ok c.in-Ok-Held.field-0-is) c.wait_for.ensures.known in
    let l = parts.waits_within _ _ _ (hit (nat_of c.in-Ok-Held.k.0)) (sym e) in
    (omega (arith, n.some), rw c.link-second-in-Ok-Held.ensures (parts.part_waited n h.0 c.delay-d.ensures k l, n.stands.1.1, n.range.2, n.blocks.1))

pub link-third-requires : goal.link-third-requires
link-third-requires t c =
    let n = payoff_code_here t (goal.at.link-third-requires t c).After-letter-letter letter.Await c.in-Await.is in
    (n.inside, omega arith, n.stands.2.0)

pub overflow_sub-left-in-Ok-Missed : goal.overflow_sub-left-in-Ok-Missed
overflow_sub-left-in-Ok-Missed t c =
    let n = payoff_code_here t (goal.at.overflow_sub-left-in-Ok-Missed t c).After-letter-letter letter.Await c.in-Await.is in
    omega (arith, n.some)

pub payoff_code-requires-in-Ok-Missed : goal.payoff_code-requires-in-Ok-Missed
unfolding FieldsIn
payoff_code-requires-in-Ok-Missed t c =
    let h = c.requires in
    let n = payoff_code_here t (goal.at.payoff_code-requires-in-Ok-Missed t c).After-letter-letter letter.Await c.in-Await.is in
    let e = sym (ap wait_answer (c.in-Ok-Missed.is ∙ ap Ok c.in-Ok-Missed.field-0-is)) ∙ c.wait_for.ensures.is in
    let k = subst WaitKnown (c.in-Ok-Missed.is ∙ ap Ok c.in-Ok-Missed.field-0-is) c.wait_for.ensures.known in
    let l = parts.waits_within _ _ _ (miss (nat_of c.in-Ok-Missed.last.0)) (sym e) in
    (omega (arith, n.some), rw c.link-third.ensures (parts.part_waited n h.0 c.delay-d.ensures k l, n.stands.2.1, n.range.3, n.blocks.2))

payoff_code_stopped_is : (t : ℕ) (c : In-Err t) → refused (number_of c.in-Err.k) ≡ payoff_code_whole t c.before.before.before.before.before
payoff_code_stopped_is t c =
    let a = c.args in
    let n = payoff_code_here t c.before.before.before.before.before letter.Await c.in-Await.is in
    let e = sym (ap wait_answer c.in-Err.is) ∙ c.wait_for.ensures.is in
    arms.stopped_arm a.self.now.lent.span.h a.self.now.lent.span.f a.self.now.factors.now a.self.now.lent.bounds.now a.self.now.lent.values.now a.self.now.pair.p a.self.now.pair.q _ _ _ _ _ n c.delay-d.ensures e

pub code-requires-in-Err : goal.code-requires-in-Err
code-requires-in-Err t c = payoff_code_codable t (goal.at.code-requires-in-Err t c).After-letter-letter (payoff_code_stopped_is t c)

pub returns-in-Nil : goal.returns-in-Nil
returns-in-Nil t c =
    let a = c.args in
    let n = payoff_code_here t (goal.at.returns-in-Nil t c).After-letter-letter letter.Nil c.in-Nil.is in
    stands_value max_value _ (omega arith) ∙ arms.nil_arm a.self.now.lent.span.h a.self.now.lent.span.f a.self.now.factors.now a.self.now.lent.bounds.now a.self.now.lent.values.now a.self.now.pair.p a.self.now.pair.q _ _ _ _ _ n

pub returns-in-Uncut : goal.returns-in-Uncut
returns-in-Uncut t c =
    let a = c.args in
    let n = payoff_code_here t (goal.at.returns-in-Uncut t c).After-letter-letter letter.Uncut c.in-Uncut.is in
    let f : SFits w64 c.code.result = search rules in
    ap coded_worth (to_z-of_z f) ∙ c.code.ensures ∙ arms.uncut_arm a.self.now.lent.span.h a.self.now.lent.span.f a.self.now.factors.now a.self.now.lent.bounds.now a.self.now.lent.values.now a.self.now.pair.p a.self.now.pair.q _ _ _ _ _ n c.leaf_worth-x.ensures

pub returns-in-Cut : goal.returns-in-Cut
returns-in-Cut t c =
    let a = c.args in
    let n = payoff_code_here t (goal.at.returns-in-Cut t c).After-letter-letter letter.Cut c.in-Cut.is in
    let f : SFits w64 c.code-in-Cut.result = search rules in
    ap coded_worth (to_z-of_z f) ∙ c.code-in-Cut.ensures ∙ arms.cut_arm a.self.now.lent.span.h a.self.now.lent.span.f a.self.now.factors.now a.self.now.lent.bounds.now a.self.now.lent.values.now a.self.now.pair.p a.self.now.pair.q _ _ _ _ _ n (month_is a.self.now.start.0 c.args.self.now.known) c.leaf_worth-x-in-Cut.ensures

pub returns-in-Times : goal.returns-in-Times
returns-in-Times t c =
    let f : SFits w64 c.code-in-Times.result = search rules in
    ap coded_worth (to_z-of_z f) ∙ c.code-in-Times.ensures ∙ payoff_code_times_is t (goal.at.returns-in-Times t c).After-scaled

pub returns-in-Plus : goal.returns-in-Plus
returns-in-Plus t c =
    let f : SFits w64 c.code-in-Plus.result = search rules in
    ap coded_worth (to_z-of_z f) ∙ c.code-in-Plus.ensures ∙ payoff_code_plus_is t (goal.at.returns-in-Plus t c).After-added

pub returns-in-Ok-Held : goal.returns-in-Ok-Held
returns-in-Ok-Held t c =
    let a = c.args in
    let f : SFits w64 c.payoff_code-in-Ok-Held.result = search rules in
    let n = payoff_code_here t (goal.at.returns-in-Ok-Held t c).After-letter-letter letter.Await c.in-Await.is in
    let e = sym (ap wait_answer (c.in-Ok-Held.is ∙ ap Ok c.in-Ok-Held.field-0-is)) ∙ c.wait_for.ensures.is in
    arms.held_arm a.self.now.lent.span.h a.self.now.lent.span.f a.self.now.factors.now a.self.now.lent.bounds.now a.self.now.lent.values.now a.self.now.pair.p a.self.now.pair.q _ _ _ _ _ n c.delay-d.ensures e c.link-second-in-Ok-Held.ensures (ap coded_worth (to_z-of_z f) ∙ c.payoff_code-in-Ok-Held.ensures)

pub returns-in-Ok-Missed : goal.returns-in-Ok-Missed
returns-in-Ok-Missed t c =
    let a = c.args in
    let f : SFits w64 c.payoff_code-in-Ok-Missed.result = search rules in
    let n = payoff_code_here t (goal.at.returns-in-Ok-Missed t c).After-letter-letter letter.Await c.in-Await.is in
    let e = sym (ap wait_answer (c.in-Ok-Missed.is ∙ ap Ok c.in-Ok-Missed.field-0-is)) ∙ c.wait_for.ensures.is in
    arms.missed_arm a.self.now.lent.span.h a.self.now.lent.span.f a.self.now.factors.now a.self.now.lent.bounds.now a.self.now.lent.values.now a.self.now.pair.p a.self.now.pair.q _ _ _ _ _ n c.delay-d.ensures e c.link-third.ensures (ap coded_worth (to_z-of_z f) ∙ c.payoff_code-in-Ok-Missed.ensures)

pub returns-in-Err : goal.returns-in-Err
returns-in-Err t c =
    let f : SFits w64 c.code-in-Err.result = search rules in
    ap coded_worth (to_z-of_z f) ∙ c.code-in-Err.ensures ∙ payoff_code_stopped_is t (goal.at.returns-in-Err t c).In-Err

pub returns-in-NoPayoff : goal.returns-in-NoPayoff
returns-in-NoPayoff t c =
    let a = c.args in
    let n = payoff_code_here t (goal.at.returns-in-NoPayoff t c).After-letter-letter letter.NoPayoff c.in-NoPayoff.is in
    stands_value max_value _ (omega arith) ∙ arms.no_payoff_arm a.self.now.lent.span.h a.self.now.lent.span.f a.self.now.factors.now a.self.now.lent.bounds.now a.self.now.lent.values.now a.self.now.pair.p a.self.now.pair.q _ _ _ _ _ n
