-- The sum of two values, decided by the room that the second leaves.
use Prim.Native.Nat.{◌<◌, ◌≤◌}
use lib.IntN.{◌+ℤ◌, ◌-ℤ◌, nat_abs, neg_ℤ, pos, ℤ}
use lib.Signed.{lt_z}
use mathlib.Core.Bool.{false, true}
use mathlib.Core.Path.{◌≡◌}
use mir.Facts.{to_z-of_z}
use mir.Syntax.{w64}
use mir.Val.{SFits}
use native.Mathlib.Omega.{arith}
use Rattle.integers.proofs.Laws.{nat_abs_le, nat_abs_parts, sfits64}
use Rattle.integers.proofs.Locals.{rd, value_fits}
use Rattle.integers.proofs.Solver.{◌⊕◌, ◌⊖◌, lit, sound, var}
use Rattle.integers.proofs.Tests.{lt_false, lt_true}
use Rattle.integers.specs.Bounded.{SmallValue, value_limit}

-- the least value, as the code has it
abbrev pub least : ℤ
least = neg_ℤ (pos value_limit)

module _ {a b : ℤ} (s : SmallValue a) (t : SmallValue b) where
  module _ (e : lt_z (pos 0) (rd b) ≡ true) where
    above : lt_z (pos 0) b ≡ true
    above = rw (to_z-of_z (value_fits t)) at e

    room : SFits w64 (pos value_limit -ℤ b)
    room =
        let p = sound (lit value_limit ⊖ var b) in
        let z = pos value_limit -ℤ b in
        sfits64 value_limit (nat_abs_le z value_limit (omega (arith, p, lt_true (pos 0) b above)) (omega (arith, p, nat_abs_parts b, t.small))) tt

    pub room_fits : SFits w64 (pos value_limit -ℤ rd b)
    room_fits = rw (to_z-of_z (value_fits t)) room

    strip : (v : _) → lt_z (rd (pos value_limit -ℤ rd b)) (rd a) ≡ v → lt_z (pos value_limit -ℤ b) a ≡ v
    strip v h = rw (to_z-of_z room_fits, to_z-of_z (value_fits s), to_z-of_z (value_fits t)) at h

    pub over : lt_z (rd (pos value_limit -ℤ rd b)) (rd a) ≡ true → value_limit < nat_abs (a +ℤ b)
    over h =
        omega
        (arith, sound (lit value_limit ⊖ var b), lt_true (pos value_limit -ℤ b) a (strip true h), sound (var a ⊕ var b), nat_abs_parts (a +ℤ b))

    pub not_over : lt_z (rd (pos value_limit -ℤ rd b)) (rd a) ≡ false → nat_abs (a +ℤ b) ≤ value_limit
    not_over h =
        let q = sound (var a ⊕ var b) in
        nat_abs_le (a +ℤ b) value_limit
        (omega (arith, sound (lit value_limit ⊖ var b), lt_false (pos value_limit -ℤ b) a (strip false h), q))
        (omega (arith, lt_true (pos 0) b above, nat_abs_parts a, s.small, q))

  module _ (e : lt_z (pos 0) (rd b) ≡ false) where
    not_above : lt_z (pos 0) b ≡ false
    not_above = rw (to_z-of_z (value_fits t)) at e

    depth : SFits w64 (least -ℤ b)
    depth =
        let p = sound (var least ⊖ var b) in
        let z = least -ℤ b in
        sfits64 value_limit (nat_abs_le z value_limit (omega (arith, p, nat_abs_parts b, t.small)) (omega (arith, p, lt_false (pos 0) b not_above))) tt

    pub depth_fits : SFits w64 (least -ℤ rd b)
    depth_fits = rw (to_z-of_z (value_fits t)) depth

    strip_low : (v : _) → lt_z (rd a) (rd (least -ℤ rd b)) ≡ v → lt_z a (least -ℤ b) ≡ v
    strip_low v h = rw (to_z-of_z depth_fits, to_z-of_z (value_fits s), to_z-of_z (value_fits t)) at h

    pub under : lt_z (rd a) (rd (least -ℤ rd b)) ≡ true → value_limit < nat_abs (a +ℤ b)
    under h =
        omega
        (arith, sound (var least ⊖ var b), lt_true a (least -ℤ b) (strip_low true h), sound (var a ⊕ var b), nat_abs_parts (a +ℤ b))

    pub not_under : lt_z (rd a) (rd (least -ℤ rd b)) ≡ false → nat_abs (a +ℤ b) ≤ value_limit
    not_under h =
        let q = sound (var a ⊕ var b) in
        nat_abs_le (a +ℤ b) value_limit
        (omega (arith, lt_false (pos 0) b not_above, nat_abs_parts a, s.small, q))
        (omega (arith, sound (var least ⊖ var b), lt_false a (least -ℤ b) (strip_low false h), q))
