-- The test of a `W` that stands in the placed table can be worked out there, and holds there as by the table of values.
use Prim.Native.Nat.{◌≤◌, ℕ}
use lib.Dec.{T}
use lib.IntN.{ℤ}
use mathlib.Core.Bool.{true}
use mathlib.Core.List.{List}
use mathlib.Core.Path.{◌∙◌, ◌≡◌, ap, refl, subst, sym}
use native.Mathlib.Omega.{arith}
use Rattle.amounts.proofs.Placed.{any_place, placed_fields_test}
use Rattle.amounts.proofs.TablePlaces.{flat_fine_test, flat_holds}
use Rattle.amounts.specs.Fine.{FineTest}
use Rattle.amounts.specs.Flat.{flat}
use Rattle.amounts.specs.Placed.{place_in, placed_test}
use Rattle.copies.proofs.LyingParts.{laid}
use Rattle.copies.specs.Lies.{Lies}
use Rattle.language.specs.Calls.{lookup_of}
use Rattle.language.specs.Limits.{max_amount, max_months, max_nodes}
use Rattle.language.specs.Payments.Amounts.{holds}
use Rattle.language.specs.Rules.Accepted.{reads_of_test, small_test}
use Rattle.language.specs.Rules.Table.{Table, bound_at, readable, is_table}
use Rattle.language.specs.Text.Classes.{a_number}
use Rattle.language.specs.Text.Form.{depth_of_test, fields_of_test, offset_in_form}
use Rattle.language.specs.Text.Letters.{plan_form}
use Rattle.language.specs.Text.Reader.{end}
use Rattle.language.specs.Text.Trees.{Test}
use Rattle.language.specs.Text.Typed.{test_tree}
use Rattle.nodes.proofs.AmountsFound.{Finds, test_found}
use Rattle.nodes.specs.Found.{offset_of, test_at}
use Rattle.nodes.specs.Rows.{field_slots, slots_of}
use Rattle.nodes.specs.Stands.{TestStands}
use Rattle.places.proofs.PlacedForm.{depth_test}

module _ (t : Table) (ok : is_table t ≡ true) (r : ℕ) (early : r ≤ max_months) {nodes : List ℤ} {from to : ℕ} (c : Test ℤ)
    (l : Lies nodes from to (test_tree a_number (placed_test (place_in t) c) end)) (g : fields_of_test offset_in_form c) (d : depth_of_test c ≤ max_nodes)
    (reads : reads_of_test (λ m i. T (readable t m i)) c r) (small : small_test (bound_at t) max_amount c) where
  any_back : (m : ℕ) (i : ℤ) → any_place i → ◌≡◌ {A = ℤ} i i
  any_back m i h = refl

  found : Finds (test_at offset_of max_nodes nodes from) (placed_test (place_in t) c) (TestStands max_nodes nodes from)
  unfolding slots_of field_slots
  found =
      test_found plan_form nodes a_number offset_of any_place any_back (placed_test (place_in t) c) end from max_nodes (laid l)
      (placed_fields_test (place_in t) offset_in_form c g) (omega (arith, depth_test (place_in t) c))

  pub test_stands : TestStands max_nodes nodes from
  test_stands = found.safe

  pub test_fine : FineTest t.values r (test_at offset_of max_nodes nodes from)
  test_fine = subst (FineTest t.values r) (sym found.is) (flat_fine_test t ok r early offset_in_form c reads g small)

  pub test_holds : holds (flat t.values) (test_at offset_of max_nodes nodes from) r ≡ holds (lookup_of t) c r
  test_holds = ap (λ x. holds (flat t.values) x r) found.is ∙ flat_holds t ok r c reads
