-- A wait that is tried for fewer months: a hit stays a hit, and after a miss it ends later.
use Prim.Native.Nat.{◌+◌, ◌-◌, ◌<◌, ◌≤◌, suc, zero, ℕ}
use lib.Dec.{T}
use lib.IntN.{◌-ℤ◌, ℤ}
use lib.Signed.{lt_z, non_neg}
use mathlib.Core.Bool.{Bool, cond, false, true}
use mathlib.Core.List.{List}
use mathlib.Core.Path.{◌∙◌, ◌≡◌, ap, refl, subst, sym}
use mir.Facts.{to_z-of_z}
use mir.Syntax.{w64}
use mir.Val.{SFits}
use native.Mathlib.Omega.{arith}
use Rattle.amounts.proofs.FourWaits.{months_left}
use Rattle.amounts.proofs.Waited.{held_ended, missed_ended}
use Rattle.amounts.proofs.Waiting.{not_order, order, small_month}
use Rattle.amounts.specs.Fine.{MonthIn}
use Rattle.amounts.specs.Waits.{FineMonths, MonthsIn, wait_of}
use Rattle.amounts.specs.declared.wait.Wait as wait
use Rattle.amounts.specs.declared.wait.Wait.TheVariants as waited
use Rattle.integers.proofs.Locals.{rd}
use Rattle.integers.specs.Bounded.{Small}
use Rattle.integers.specs.declared.Month.{Month}
use Rattle.language.proofs.Payoff.Values.{tried_range}
use Rattle.language.specs.Payments.Pays.{Tried, hit, miss, tried}
use Rattle.language.specs.Text.Trees.{Test}
use Rattle.nodes.proofs.Signed.{nat_of_known}
use Rattle.nodes.specs.Table.{nat_of}
use Rattle.pays.specs.Until.{UntilIs, end_of, until_of_short}

no_hit : {A : Type 0} {j k : ℕ} → miss j ≡ hit k → A
no_hit e = let z : ◌≡◌ {A = ℕ} 0 1 = cc in absurd (omega arith)

no_miss : {A : Type 0} {j k : ℕ} → hit j ≡ miss k → A
no_miss e = let z : ◌≡◌ {A = ℕ} 0 1 = cc in absurd (omega arith)

module _ (t : ℕ → Bool) where
  now : (d r : ℕ) → t r ≡ true → tried t d r ≡ hit r
  unfolding tried
  now zero r e = rw e
  now (suc d) r e = rw e

  hit_longer : (l d r k : ℕ) → l ≤ d → tried t l r ≡ hit k → tried t d r ≡ hit k
  unfolding tried
  hit_longer zero d r k h e = go (t r) refl e
    where
      go : (b : Bool) → t r ≡ b → cond b (hit r) (miss r) ≡ hit k → tried t d r ≡ hit k
      go true q e = now d r q ∙ e
      go false q e = no_hit e
  hit_longer (suc l) zero r k h e = absurd (omega arith)
  hit_longer (suc l) (suc d) r k h e = go (t r) (hit_longer l d (suc r) k (omega arith)) e
    where
      go : (b : Bool) → (tried t l (suc r) ≡ hit k → tried t d (suc r) ≡ hit k) → cond b (hit r) (tried t l (suc r)) ≡ hit k → cond b (hit r) (tried t d (suc r)) ≡ hit k
      go true f e = e
      go false f e = f e

  miss_longer : (l d r j : ℕ) → l < d → tried t l r ≡ miss j → r + l < end_of (tried t d r)
  unfolding tried
  miss_longer l zero r j h e = absurd (omega arith)
  miss_longer zero (suc d) r j h e = go (t r) e
    where
      go : (b : Bool) → cond b (hit r) (miss r) ≡ miss j → r + 0 < end_of (cond b (hit r) (tried t d (suc r)))
      go true e = no_miss e
      go false e = omega (arith, (tried_range t d (suc r)).0)
  miss_longer (suc l) (suc d) r j h e = go (t r) (miss_longer l d (suc r) j (omega arith)) e
    where
      go : (b : Bool) → (tried t l (suc r) ≡ miss j → suc r + l < end_of (tried t d (suc r))) → cond b (hit r) (tried t l (suc r)) ≡ miss j → r + suc l < end_of (cond b (hit r) (tried t d (suc r)))
      go true f e = no_miss e
      go false f e = omega (arith, f e)

-- ---- the code's three ways

module _ (t : ℕ → Bool) (root month d : ℤ) (h : MonthsIn root d) (hm : MonthIn month) (fr : SFits w64 root) (fm : SFits w64 month) where
  pub starts_after : lt_z (rd month) (rd root) ≡ true → nat_of month < end_of (tried t (nat_of d) (nat_of root))
  starts_after e =
      omega (arith, order month root hm.known h.first_known (rw (to_z-of_z fm, to_z-of_z fr) at e), (tried_range t (nat_of d) (nat_of root)).0)

  module _ (e : lt_z (rd month) (rd root) ≡ false) where
    begun : nat_of root ≤ nat_of month
    begun = not_order month root hm.known h.first_known (rw (to_z-of_z fm, to_z-of_z fr) at e)

    module _ (rest : ℤ) (er : rest ≡ month -ℤ root) where
      rest_is : T (non_neg rest) × (nat_of rest ≡ nat_of month - nat_of root)
      rest_is = months_left month root rest hm.known h.first_known begun er

      pub rest_small : Small (month -ℤ root)
      rest_small = subst Small er (small_month rest rest_is.0 (omega (arith, rest_is.1, nat_of_known month hm.known, hm.within)))

      module _ (fs : SFits w64 rest) (fd : SFits w64 d) (s : lt_z (rd rest) (rd d) ≡ true) where
        shorter : nat_of rest < nat_of d
        shorter = order rest d rest_is.0 h.delay_known (rw (to_z-of_z fs, to_z-of_z fd) at s)

        pub short_months : MonthsIn root rest
        short_months = record { first_known = h.first_known; delay_known = rest_is.0; within = omega (arith, shorter, h.within) }

        pub short_fine : (values : List ℤ) (x : Test ℤ) → FineMonths values (nat_of root) (nat_of d) x → FineMonths values (nat_of root) (nat_of rest) x
        short_fine values x f = record { fine = λ r l m. f.fine r l (omega (arith, shorter)) }

        pub short_is : (w : wait.Wait) → w ≡ wait_of (tried t (nat_of rest) (nat_of root)) → UntilIs t (nat_of d) (nat_of root) (nat_of month) (until_of_short w)
        unfolding until_of_short
        short_is (waited.Held k) q =
            let z = held_ended t (nat_of rest) (nat_of root) k q in
            q ∙ ap wait_of (z.is ∙ sym (hit_longer t (nat_of rest) (nat_of d) (nat_of root) (nat_of k.0) (omega (arith, shorter)) z.is))
        short_is (waited.Missed k) q =
            let z = (missed_ended t (nat_of rest) (nat_of root) k q).0 in
            omega (arith, miss_longer t (nat_of rest) (nat_of d) (nat_of root) (nat_of k.0) shorter z.is, rest_is.1, begun)
