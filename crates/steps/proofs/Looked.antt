-- What a lookup finds is the value; outside the table it is 0.
use Prim.Native.Nat.{ℕ}
use lib.IntN.{pos, ℤ}
use mathlib.Core.Bool.{Bool, cond, false, true}
use mathlib.Core.Path.{◌≡◌, refl, sym}
use Rattle.integers.specs.declared.Pence.{Pence}
use Rattle.language.proofs.Acceptance.{no_answer}
use Rattle.language.specs.Answer.{Answer, got, refused}
use Rattle.language.specs.Rules.Table.{Table, readable, value_at}
use Rattle.tables.specs.Lookup.{found_answer, looked_up}
use Rattle.std.specs.Prelude.{None, Some}

module _ (t : Table) (l : ℕ) (m : ℤ) where
  pub no_value : found_answer None ≡ looked_up t l m → pos 0 ≡ value_at t l m
  unfolding found_answer looked_up value_at
  no_value e = go (readable t l m) _ e
    where
      go : (b : Bool) (v : ℤ) → ◌≡◌ {A = Answer ℤ} (refused 11) (cond b (got (cond b v (pos 0))) (refused 11)) → pos 0 ≡ cond b v (pos 0)
      go true v e = no_answer e
      go false v e = refl

  pub is_value : (p : Pence) → found_answer (Some p) ≡ looked_up t l m → p.0 ≡ value_at t l m
  unfolding found_answer looked_up
  is_value p e = go (readable t l m) (value_at t l m) e
    where
      go : (b : Bool) (v : ℤ) → got p.0 ≡ cond b (got v) (refused 11) → p.0 ≡ v
      go true v e = cc
      go false v e = no_answer (sym e)
