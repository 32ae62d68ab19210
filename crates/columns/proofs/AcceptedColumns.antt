-- An accepted plan, its readings resolved: its payments fit into a column of months, and the column then holds what the plan pays.
use Prim.Native.Nat.{◌*◌, ◌+◌, ◌<◌, ◌≤◌, ℕ}
use lib.IntN.{◌*ℤ◌, ◌+ℤ◌, nat_abs, pos, ℤ}
use lib.ListN.{get_or, length}
use mathlib.Core.Bool.{true}
use mathlib.Core.List.{List}
use mathlib.Core.Path.{◌∙◌, ◌≡◌, ap, ap₂, refl, subst, sym}
use native.Mathlib.Nat.{le_trans}
use native.Mathlib.Omega.{arith}
use Rattle.amounts.proofs.Placed.{placed_magnitude}
use Rattle.amounts.proofs.TablePlaces.{flat_fine, flat_value, may_read}
use Rattle.amounts.proofs.WaitPlaces.{flat_months, flat_tried}
use Rattle.amounts.specs.Flat.{flat}
use Rattle.amounts.specs.Placed.{place_in, placed_amount, placed_plan}
use Rattle.columns.specs.Column.{Added, Sized, Weighed}
use Rattle.integers.proofs.Rounding.{nat_abs_floor}
use Rattle.integers.proofs.Solver.{◌⊕◌, ◌⊗◌, lit, ring, var}
use Rattle.language.proofs.Payments.Tried.{tried_spec}
use Rattle.language.proofs.Payoff.Sizes.{value_size}
use Rattle.language.proofs.Rules.Every.{top_amount, top_plan}
use Rattle.language.proofs.Rules.Tables.{rules_of, value_bounded}
use Rattle.language.specs.Calls.{lookup_of}
use Rattle.language.specs.Limits.{max_amount, max_months}
use Rattle.language.specs.Payments.Amounts.{holds, value}
use Rattle.language.specs.Payments.Pays.{Sign, pays, started, tried}
use Rattle.language.specs.Rules.Accepted.{Accepted, every_in_plan, reads_of, small_plan}
use Rattle.language.specs.Rules.Measures.{length_of, magnitude_of, magnitude_of_amount}
use Rattle.language.specs.Rules.Table.{Table, bound_at, is_table}
use Rattle.language.specs.Text.Form.{fields_of, offset_in_form}
use Rattle.language.specs.Text.Trees.{Amount, Plan, both, later, nothing, scale, transfer, within}
use Rattle.pays.proofs.PlacedPays.{flat_pays, started_all}

module _ (t : Table) (ok : is_table t ≡ true) where
  abbrev placed : Plan ℕ → Plan ℕ
  placed = placed_plan (place_in t)

  magnitude_kept : (x : Plan ℕ) → magnitude_of (bound_at t) (placed x) ≡ magnitude_of (bound_at t) x
  unfolding placed_plan magnitude_of
  magnitude_kept nothing = refl
  magnitude_kept (transfer p q) = refl
  magnitude_kept (scale a x) = rw (placed_magnitude (place_in t) (bound_at t) max_amount a, magnitude_kept x)
  magnitude_kept (later d x) = magnitude_kept x
  magnitude_kept (both x y) = rw (magnitude_kept x, magnitude_kept y)
  magnitude_kept (within d u x y) = rw (magnitude_kept x, magnitude_kept y)

  length_kept : (x : Plan ℕ) → length_of (placed x) ≡ length_of x
  unfolding placed_plan length_of
  length_kept nothing = refl
  length_kept (transfer p q) = refl
  length_kept (scale a x) = length_kept x
  length_kept (later d x) = rw (length_kept x)
  length_kept (both x y) = rw (length_kept x, length_kept y)
  length_kept (within d u x y) = rw (length_kept x, length_kept y)

  -- an amount, worked out by places
  amount_size : (a : Amount ℤ) (r : ℕ) → nat_abs (value (lookup_of t) a r) ≤ magnitude_of_amount (bound_at t) a
  amount_size = value_size (lookup_of t) (bound_at t) (value_bounded t (rules_of t ok)) nat_abs_floor

  module _ (good : ℕ → Type 0) where
    sized : (x : Plan ℕ) (r : ℕ) → r + length_of x ≤ max_months → reads_of (may_read t) x r → fields_of good x → small_plan (bound_at t) max_amount x → Sized t.values (bound_at t) (placed x) r
    unfolding Sized placed_plan length_of reads_of fields_of every_in_plan
    sized nothing r e h g s = tt
    sized (transfer p q) r e h g s = tt
    sized (scale a x) r e h g s =
        let v = flat_value t ok r a h.0 in (
          flat_fine t ok r (omega arith) offset_in_form a h.0 g.0 s.0,
          rw v (record { small = le_trans (amount_size a r) (top_amount (λ a. magnitude_of_amount (bound_at t) a ≤ max_amount) a s.0) }),
          rw (v, placed_magnitude (place_in t) (bound_at t) max_amount a) (amount_size a r),
          sized x r e h.1 g.1 s.1,
        )
    sized (later d x) r e h g s = (omega arith, sized x (r + d) (omega arith) h g.1 s.0)
    sized (both x y) r e h g s = (sized x r (omega arith) h.0 g.0 s.0, sized y r (omega arith) h.1 g.1 s.1)
    sized (within d u x y) r e h g s = (
      omega arith,
      flat_months t ok u d r (λ j l k. (h.0 j l k).0) (omega arith) offset_in_form g.1 s.0,
      subst (started (λ k. Sized t.values (bound_at t) (placed x) k) (λ k. Sized t.values (bound_at t) (placed y) k)) (sym (flat_tried t ok u d r (λ j l k. (h.0 j l k).0)))
          (started_all (holds (lookup_of t) u) d r (tried (holds (lookup_of t) u) d r) (tried_spec (holds (lookup_of t) u) d r)
          (started (λ k. Sized t.values (bound_at t) (placed x) k) (λ k. Sized t.values (bound_at t) (placed y) k))
          (λ j l k. sized x j (omega arith) (h.0 j l k).1 g.2 s.1)
          (sized y (r + d) (omega arith) h.1 g.3 s.2)),
    )

    -- with weight 1, into an empty column
    module _ (x : Plan ℕ) (r f : ℕ) (short : f ≤ max_months) (a : Accepted (bound_at t) max_amount f (may_read t) x r) (g : fields_of good x)
        (column : List ℤ) (empty : (m : ℕ) → get_or column m (pos 0) ≡ pos 0) (long : f < length column) where
      pub weighed : Weighed t.values (placed x) r (pos 1) column
      weighed = record {
        bound = bound_at t;
        sized = sized x r (omega (arith, a.length, short)) a.reads g a.small;
        light = record { small = omega arith };
        months = omega (arith, length_kept x, a.length, long);
        room = λ m l. rw (empty m, magnitude_kept x) (omega (arith, top_plan (λ y. magnitude_of (bound_at t) y ≤ max_amount) (λ b. magnitude_of_amount (bound_at t) b ≤ max_amount) x a.small));
      }

      pub column_is : (sg : Sign) {after : List ℤ} → Added column after (pos 1) (pays (flat t.values) sg (placed x) r)
          → (m : ℕ) → m < length column → get_or after m (pos 0) ≡ pays (lookup_of t) sg x r m
      column_is sg {after} d m l =
          d.each m l ∙ ap₂ (λ y z. y +ℤ pos 1 *ℤ z) (empty m) (flat_pays t ok sg m x r a.reads)
          ∙ ring (lit 0 ⊕ lit 1 ⊗ var (pays (lookup_of t) sg x r m)) (var (pays (lookup_of t) sg x r m)) (omega arith)
