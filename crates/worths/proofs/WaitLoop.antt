-- The loop of a wait with refusals: what holds before each try.
use Prim.Native.Nat.{◌+◌, ◌-◌, ◌<◌, ◌≤◌, suc, zero, ℕ}
use lib.Dec.{T}
use lib.IntN.{◌+ℤ◌, pos, ℤ}
use lib.Signed.{lt_z, non_neg}
use mathlib.Core.Bool.{Bool, false, true}
use mathlib.Core.Path.{◌∙◌, ◌≡◌, ap, refl, sym}
use mir.Facts.{to_z-of_z}
use mir.Syntax.{w64}
use mir.Val.{SFits}
use native.Mathlib.Numerals.{add-one}
use native.Mathlib.Omega.{arith}
use Rattle.amounts.proofs.Waiting.{Later, later_is, not_order, order}
use Rattle.checked.specs.Ranges.{Waited}
use Rattle.integers.proofs.Locals.{rd}
use Rattle.integers.specs.Bounded.{Small}
use Rattle.language.specs.Answer.{Answer, got, refused}
use Rattle.language.specs.Limits.{max_month}
use Rattle.language.specs.Payments.Pays.{hit, miss}
use Rattle.language.specs.Payoff.Evaluate.{checked_tried}
use Rattle.nodes.proofs.Signed.{nat_of_known}
use Rattle.nodes.specs.Table.{nat_of}
use Rattle.text.specs.Refusals.{number_of}
use Rattle.text.specs.declared.Refusal.{Refusal}
use Rattle.worths.specs.Waits.{WaitKnown, WaitsIn, wait_answer}
use Rattle.amounts.specs.declared.wait.Wait.{Wait}
use Rattle.amounts.specs.declared.wait.Wait.TheVariants.{Held, Missed}
use Rattle.std.specs.Prelude.{Err, Ok, Result}
use Rattle.text.specs.declared.Refusal.{Refusal}

-- ---- one step of the definition

module _ (t : ℕ → Answer Bool) (r : ℕ) where
  pub tried_now : (d : ℕ) → t r ≡ got true → checked_tried t d r ≡ got (hit r)
  unfolding checked_tried
  tried_now zero e = rw e refl
  tried_now (suc d) e = rw e refl

  tried_refused : (d : ℕ) {n : ℕ} → t r ≡ refused n → checked_tried t d r ≡ refused n
  unfolding checked_tried
  tried_refused zero e = rw e refl
  tried_refused (suc d) e = rw e refl

  tried_last : (d : ℕ) → d ≡ 0 → t r ≡ got false → checked_tried t d r ≡ got (miss r)
  unfolding checked_tried
  tried_last d z e = rw (z, e) refl

  pub tried_next : (d : ℕ) → 0 < d → t r ≡ got false → checked_tried t d r ≡ checked_tried t (d - 1) (r + 1)
  unfolding checked_tried
  tried_next zero h e = absurd (omega arith)
  tried_next (suc d) h e =
      let z : suc d - 1 ≡ d = omega arith in
      rw (e, z, add-one) refl

-- ---- months

pub small_month : (m : ℤ) → T (non_neg m) → nat_of m ≤ max_month → Small m
small_month m h l = record { small = omega (arith, nat_of_known m h) }

-- ---- the loop

-- before the try in `month`
pub record Waiting (t : ℕ → Answer Bool) (first last month : ℤ) : Type 0 where
  pub known : T (non_neg month)
  pub within : nat_of month ≤ nat_of last
  pub same : checked_tried t (nat_of last - nat_of first) (nat_of first) ≡ checked_tried t (nat_of last - nat_of month) (nat_of month)

module _ (t : ℕ → Answer Bool) (first d last : ℤ) (h : WaitsIn first d) (e : last ≡ first +ℤ d) where
  pub until : Later first d last
  until = later_is first d last h.first_known h.delay_known e

  pub start : Waiting t first last first
  start = record { known = h.first_known; within = omega (arith, until.is); same = refl }

  -- what the loop answers
  abbrev pub Answers : Result Wait Refusal → Type 0
  Answers r = (wait_answer r ≡ checked_tried t (nat_of d) (nat_of first)) × WaitKnown r

  module _ (month : ℤ) (w : Waiting t first last month) where
    pub all : checked_tried t (nat_of d) (nat_of first) ≡ checked_tried t (nat_of last - nat_of month) (nat_of month)
    all =
        let z : nat_of d ≡ nat_of last - nat_of first = omega (arith, until.is) in
        rw z w.same

    pub month_in_lem : Waited month
    month_in_lem = record { known = w.known; within = omega (arith, w.within, until.is, h.within) }

    pub month_small : Small month
    month_small = small_month month w.known month_in_lem.within

    pub held : t (nat_of month) ≡ got true → Answers (Ok (Held (record { 0 = month })))
    held eh = (sym (all ∙ tried_now t (nat_of month) (nat_of last - nat_of month) eh), w.known)

    pub stopped : (k : Refusal) {n : ℕ} → number_of k ≡ n → t (nat_of month) ≡ refused n → Answers (Err k)
    stopped k en er = (ap refused en ∙ sym (all ∙ tried_refused t (nat_of month) (nat_of last - nat_of month) er), tt)

    -- the test fails, and `next` is the month to try after it
    module _ (em : t (nat_of month) ≡ got false) (next : ℤ) (en : next ≡ month +ℤ pos 1) (fl : SFits w64 last) (fn : SFits w64 next) where
      after : Later month (pos 1) next
      after = later_is month (pos 1) next w.known tt en

      pub missed : lt_z (rd last) (rd next) ≡ true → Answers (Ok (Missed (record { 0 = last })))
      missed el =
          let o = order last next until.known after.known (rw (to_z-of_z fl, to_z-of_z fn) at el) in
          let z : nat_of last - nat_of month ≡ 0 = omega (arith, o, after.is) in
          let m : nat_of month ≡ nat_of last = omega (arith, o, after.is, w.within) in
          (sym (all ∙ tried_last t (nat_of month) (nat_of last - nat_of month) z em ∙ ap (λ n. got (miss n)) m), until.known)

      module _ (el : lt_z (rd last) (rd next) ≡ false) where
        before : nat_of next ≤ nat_of last
        before = not_order last next until.known after.known (rw (to_z-of_z fl, to_z-of_z fn) at el)

        pub falls : nat_of last - nat_of next < nat_of last - nat_of month
        falls = omega (arith, before, after.is)

        pub again : Waiting t first last next
        again =
            let z : nat_of last - nat_of next ≡ nat_of last - nat_of month - 1 = omega (arith, after.is) in
            record {
              known = after.known;
              within = before;
              same = w.same ∙ tried_next t (nat_of month) (nat_of last - nat_of month) (omega (arith, before, after.is)) em ∙ rw (z, after.is) refl;
            }
