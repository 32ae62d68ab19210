-- What a call's checks say of the months and the pair that it asks about.
use Prim.Native.Nat.{◌<◌, ◌≤◌, ℕ}
use lib.Dec.{T, leb, leb→le}
use lib.IntN.{nat_abs, negsuc, pos, ℤ}
use lib.Signed.{le_z, non_neg}
use mathlib.Core.Bool.{true}
use mathlib.Core.Path.{◌≡◌}
use native.Mathlib.Omega.{arith}
use Rattle.amounts.specs.Fine.{MonthIn}
use Rattle.language.proofs.Rules.Tables.{rules_of}
use Rattle.language.proofs.Truth.{and_e, truth}
use Rattle.language.specs.Calls.{pair_ok}
use Rattle.language.specs.Limits.{max_months}
use Rattle.language.specs.Rules.Table.{Table, is_month, is_a_party, is_table}
use Rattle.language.specs.Text.Number.{between}
use Rattle.nodes.specs.Table.{nat_of}
use Rattle.pays.specs.Parties.{PairIn}

-- from the number `low` on
from_low : (low : ℕ) (z : ℤ) → le_z (pos low) z ≡ true → T (non_neg z) × (low ≤ nat_of z)
from_low low (pos n) e = (tt, leb→le low n (truth (leb low n) e))
from_low low (negsuc n) e = let z : ◌≡◌ {A = ℕ} 0 1 = cc in absurd (omega arith)

up_to_lem : (z : ℤ) (high : ℕ) → T (non_neg z) → le_z z (pos high) ≡ true → nat_abs z ≤ high
up_to_lem (pos n) high h e = leb→le n high (truth (leb n high) e)
up_to_lem (negsuc n) high h e = absurd h

party : (p : ℤ) → is_a_party p ≡ true → 0 < nat_of p
party p e = (from_low 1 p (and_e _ _ e).0).1

pub pair_in : (p q : ℤ) → pair_ok p q ≡ true → PairIn p q
pair_in p q e =
    let b = and_e (is_a_party p) (is_a_party q) e in
    record { first = party p b.0; second = party q b.1 }

pub up_to_600 : (z : ℤ) → between (pos 0) (pos max_months) z ≡ true → MonthIn z
up_to_600 z e =
    let b = and_e (le_z (pos 0) z) (le_z z (pos max_months)) e in
    let k = (from_low 0 z b.0).0 in
    record { known = k; within = up_to_lem z max_months k b.1 }

-- a month from another one to the last
between_in : (low f z : ℤ) → MonthIn low → MonthIn f → between low f z ≡ true → MonthIn z
between_in (pos l) (pos f) (pos n) h k e =
    let b = and_e (le_z (pos l) (pos n)) (le_z (pos n) (pos f)) e in
    record { known = tt; within = omega (arith, leb→le n f (truth (leb n f) b.1), k.within) }
between_in (pos l) (pos f) (negsuc n) h k e = let z : ◌≡◌ {A = ℕ} 0 1 = cc in absurd (omega arith)
between_in (pos l) (negsuc f) z h k e = absurd k.known
between_in (negsuc l) f z h k e = absurd h.known

module _ (t : Table) (ok : is_table t ≡ true) where
  pub today_in : (today : ℤ) → is_month t today ≡ true → MonthIn today
  today_in today e = between_in (pos 0) t.f today (record { known = tt; within = omega arith }) (up_to_600 t.f (rules_of t ok).ahead) e

  pub asked_in : (today month : ℤ) → is_month t today ≡ true → between today t.f month ≡ true → MonthIn month
  asked_in today month e g = between_in today t.f month (today_in today e) (up_to_600 t.f (rules_of t ok).ahead) g
