-- A wait with refusals, four months at a time: what the four tell of it.
use Prim.Native.Nat.{◌+◌, ◌-◌, ◌<◌, ◌≤◌, suc, zero, ℕ}
use lib.Dec.{T}
use lib.IntN.{◌+ℤ◌, ◌-ℤ◌, pos, ℤ}
use lib.Signed.{lt_z, non_neg}
use mathlib.Core.Bool.{Bool, false, true}
use mathlib.Core.Path.{◌∙◌, ◌≡◌, ap, refl, subst, sym}
use mir.Facts.{to_z-of_z}
use mir.Syntax.{w64}
use mir.Val.{SFits}
use native.Mathlib.Omega.{arith}
use Rattle.amounts.proofs.FourWaits.{first_of_four, months_left, none_of_four}
use Rattle.amounts.proofs.Waiting.{Later, later_is, not_order}
use Rattle.amounts.specs.FourMonths.{first_that_holds, held_in}
use Rattle.amounts.specs.declared.four.Held as four
use Rattle.checked.specs.Ranges.{FourWaited}
use Rattle.integers.proofs.Locals.{rd}
use Rattle.integers.proofs.Tests.{lt_false, lt_true}
use Rattle.integers.specs.Bounded.{Small}
use Rattle.language.specs.Answer.{Answer, got}
use Rattle.language.specs.Payments.Pays.{hit}
use Rattle.language.specs.Payoff.Evaluate.{checked_tried}
use Rattle.nodes.specs.Table.{nat_of}
use Rattle.worths.proofs.WaitLoop.{Answers, Waiting, all, small_month, tried_next, tried_now, until}
use Rattle.worths.specs.Waits.{WaitKnown, WaitsIn, wait_answer}
use Rattle.amounts.specs.declared.wait.Wait.{Wait}
use Rattle.amounts.specs.declared.wait.Wait.TheVariants.{Held, Missed}
use Rattle.std.specs.Prelude.{Err, Ok, Result}
use Rattle.text.specs.declared.Refusal.{Refusal}

-- months in which the test fails are passed
tried_past : (t : ℕ → Answer Bool) (k n m : ℕ) → k ≤ n → ((j : ℕ) → j < k → t (m + j) ≡ got false) → checked_tried t n m ≡ checked_tried t (n - k) (m + k)
tried_past t zero n m l h =
    let a : n - 0 ≡ n = omega arith in
    let b : m + 0 ≡ m = omega arith in
    rw (a, b) refl
tried_past t (suc k) n m l h =
    let a : n - suc k ≡ n - k - 1 = omega arith in
    let b : m + suc k ≡ m + k + 1 = omega arith in
    tried_past t k n m (omega arith) (λ j g. h j (omega arith)) ∙ tried_next t (m + k) (n - k) (omega arith) (h k (omega arith)) ∙ rw (a, b) refl

-- before the four months from `month` on
module _ (t : ℕ → Answer Bool) (first d last : ℤ) (h : WaitsIn first d) (e : last ≡ first +ℤ d) (month : ℤ) (w : Waiting t first last month) where
  end : Later first d last
  end = until t first d last h e

  -- the months that are left, tried one by one
  module _ (rest : ℤ) (er : rest ≡ last -ℤ month) where
    rest_is : T (non_neg rest) × (nat_of rest ≡ nat_of last - nat_of month)
    rest_is = months_left last month rest end.known w.known w.within er

    pub rest_small : Small (last -ℤ month)
    rest_small = subst Small er (small_month rest rest_is.0 (omega (arith, rest_is.1, end.is, h.within)))

    pub rest_months : WaitsIn month rest
    rest_months = record { first_known = w.known; delay_known = rest_is.0; within = omega (arith, rest_is.1, w.within, end.is, h.within) }

    pub rest_waits : (r : Result Wait Refusal) → (wait_answer r ≡ checked_tried t (nat_of rest) (nat_of month)) × WaitKnown r → Answers t first d last h e r
    rest_waits r q = (q.0 ∙ ap (λ n. checked_tried t n (nat_of month)) rest_is.1 ∙ sym (all t first d last h e month w), q.1)

  -- four months and one behind them are left, `next` the month behind the four
  module _ (next : ℤ) (en : next ≡ month +ℤ pos 4) (fl : SFits w64 last) (fn : SFits w64 next) (el : lt_z (rd last) (rd next) ≡ false) where
    after : Later month (pos 4) next
    after = later_is month (pos 4) next w.known tt en

    before : nat_of next ≤ nat_of last
    before = not_order last next end.known after.known (rw (to_z-of_z fl, to_z-of_z fn) at el)

    pub four_waited : FourWaited month
    four_waited = record { known = w.known; within = omega (arith, before, after.is, end.is, h.within) }

    pub falls : nat_of last - nat_of next < nat_of last - nat_of month
    falls = omega (arith, before, after.is)

    -- x is what the four months told, k its first
    module _ (x : four.Held) (hx : (j : ℕ) → j < 4 → got (held_in x j) ≡ t (nat_of month + j)) (k : ℤ) (ek : k ≡ pos (first_that_holds x)) (fk : SFits w64 k) where
      pub again : lt_z (rd k) (pos 4) ≡ false → Waiting t first last next
      again q =
          let l : 4 ≤ first_that_holds x = omega (arith, lt_false (pos (first_that_holds x)) (pos 4) (rw (to_z-of_z fk, ek) at q)) in
          let z : nat_of last - nat_of next ≡ nat_of last - nat_of month - 4 = omega (arith, after.is) in
          record {
            known = after.known;
            within = before;
            same = w.same ∙ tried_past t 4 (nat_of last - nat_of month) (nat_of month) (omega (arith, before, after.is)) (λ j m. sym (hx j m) ∙ ap got (none_of_four x l j m)) ∙ rw (z, after.is) refl;
          }

      module _ (q : lt_z (rd k) (pos 4) ≡ true) where
        fourth : first_that_holds x < 4
        fourth = omega (arith, lt_true (pos (first_that_holds x)) (pos 4) (rw (to_z-of_z fk, ek) at q))

        pub first_small : Small k
        first_small = rw ek (small_month (pos (first_that_holds x)) tt (omega (arith, fourth)))

        pub held : (m : ℤ) → m ≡ month +ℤ k → Answers t first d last h e (Ok (Held (record { 0 = m })))
        held m em =
            let u = first_of_four x fourth in
            let a = later_is month (pos (first_that_holds x)) m w.known tt (em ∙ ap (λ z. month +ℤ z) ek) in
            let v : t (nat_of month + first_that_holds x) ≡ got true = sym (hx (first_that_holds x) fourth) ∙ ap got u.0 in
            let p = tried_past t (first_that_holds x) (nat_of last - nat_of month) (nat_of month) (omega (arith, before, after.is, fourth)) (λ j g. sym (hx j (omega (arith, fourth))) ∙ ap got (u.1 j g)) in
            let r = all t first d last h e month w ∙ p ∙ tried_now t (nat_of month + first_that_holds x) (nat_of last - nat_of month - first_that_holds x) v in
            (sym (r ∙ ap (λ z. got (hit z)) (sym a.is)), a.known)
