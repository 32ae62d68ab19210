-- The offsets that a walk of a plan carries.
use Prim.Native.Nat.{◌+◌, ◌-◌, ◌<◌, ◌≤◌, ℕ}
use Rattle.integers.proofs.Laws.{nat_abs_sub}
use Rattle.integers.proofs.Solver.{◌⊕◌, ◌⊖◌, lit, ring, var, ⊝}
use Rattle.integers.specs.Bounded.{Small}
use Rattle.language.specs.Limits.{max_months}
use Rattle.language.specs.Rules.Table.{Table}
use Rattle.measures.proofs.Lengths.{few}
use Rattle.measures.specs.Spans.{Near, Seen}
use lib.IntN.{◌+ℤ◌, ◌-ℤ◌, nat_abs, neg_ℤ, pos, ℤ}
use lib.ListN.{length-replicate, replicate}
use mathlib.Core.List.{[]}
use mathlib.Core.Path.{◌∙◌, ◌≡◌, sym}
use native.Mathlib.Omega.{arith}

-- ---- how far from zero they are

less_by : (x : ℤ) {d y : ℤ} (n : ℕ) → d ≡ pos n → y ≡ x -ℤ d → nat_abs y ≤ nat_abs x + n
less_by x n ed ey = rw (ey, ed) (nat_abs_sub x (pos n))

module _ {left : ℕ} {low high : ℤ} (h : Near left low high) where
  -- either, and a delay that is taken from it
  module _ {d : ℤ} {n : ℕ} (ed : d ≡ pos n) (b : n ≤ max_months) where
    pub low_later : Small low × Small d
    low_later = (record { small = omega (arith, h.low_room) }, few ed (omega (arith, b)))

    pub high_later : Small high × Small d
    high_later = (record { small = omega (arith, h.high_room) }, few ed (omega (arith, b)))

  module _ (some : 0 < left) where
    pub near_down : Near (left - 1) low high
    near_down = record { low_room = omega (arith, h.low_room); high_room = omega (arith, h.high_room) }

    -- x and y are d less than the two
    module _ {d x y : ℤ} {n : ℕ} (ed : d ≡ pos n) (b : n ≤ max_months) (ex : x ≡ low -ℤ d) (ey : y ≡ high -ℤ d) where
      pub near_later : Near (left - 1) x y
      near_later = record { low_room = omega (arith, h.low_room, less_by low n ed ex); high_room = omega (arith, h.high_room, less_by high n ed ey) }

      pub near_wait : Near (left - 1) low y
      near_wait = record { low_room = omega (arith, h.low_room); high_room = omega (arith, h.high_room, less_by high n ed ey) }

-- ---- what they are

-- any two offsets are those of a table
pub seen_some : (low high : ℤ) (labels : ℕ)
    → Seen low high labels (record { h = neg_ℤ low; f = high; factors = []; bounds = replicate labels (pos 0); values = [] }) 0 0
seen_some low high labels = record {
  order = omega arith;
  least = ring (var low) (lit 0 ⊖ (⊝ (var low) ⊕ lit 0)) (omega arith);
  greatest = ring (var high) (var high ⊖ lit 0) (omega arith);
  labelled = sym (length-replicate labels (pos 0));
}

module _ {low high : ℤ} {labels : ℕ} {t : Table} {a z : ℕ} (s : Seen low high labels t a z) {d : ℤ} {n : ℕ} (ed : d ≡ pos n) where
  less_low : low -ℤ d ≡ pos 0 -ℤ (t.h +ℤ pos (a + n))
  less_low = rw (s.least, ed) (ring ((lit 0 ⊖ (var t.h ⊕ lit a)) ⊖ lit n) (lit 0 ⊖ (var t.h ⊕ lit (a + n))) (omega arith))

  less_high : high -ℤ d ≡ t.f -ℤ pos (z + n)
  less_high = rw (s.greatest, ed) (ring ((var t.f ⊖ lit z) ⊖ lit n) (var t.f ⊖ lit (z + n)) (omega arith))

  pub seen_later : {x y : ℤ} → x ≡ low -ℤ d → y ≡ high -ℤ d → Seen x y labels t (a + n) (z + n)
  seen_later ex ey = record { order = omega (arith, s.order); least = ex ∙ less_low; greatest = ey ∙ less_high; labelled = s.labelled }

  pub seen_wait : {y : ℤ} → y ≡ high -ℤ d → Seen low y labels t a (z + n)
  seen_wait ey = record { order = omega (arith, s.order); least = s.least; greatest = ey ∙ less_high; labelled = s.labelled }
