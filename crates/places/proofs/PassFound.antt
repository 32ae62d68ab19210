-- The pass over the table of a filled plan in form: what it asks holds, and what it leaves is the placed plan.
use Prim.Native.Nat.{ℕ}
use lib.IntN.{ℤ}
use mathlib.Core.Bool.{true}
use mathlib.Core.List.{List, ◌++◌}
use mathlib.Core.Path.{◌∙◌, ◌≡◌, ap}
use Rattle.language.proofs.Rules.Tables.{rules_of}
use Rattle.language.specs.Limits.{max_depth}
use Rattle.language.specs.Rules.Settings.{closed}
use Rattle.language.specs.Rules.Table.{Table, is_table}
use Rattle.language.specs.Text.Form.{Formed, delay_in_form, filled_in_form}
use Rattle.language.specs.Text.Letters.{plan_form}
use Rattle.language.specs.Text.Plans.{plan_trees}
use Rattle.language.specs.Text.Reader.{end}
use Rattle.language.specs.Text.Trees.{Plan}
use Rattle.nodes.proofs.AmountsFound.{Finds}
use Rattle.nodes.specs.Found.{plan_at}
use Rattle.nodes.specs.Pass.{all_rows, map_rows}
use Rattle.nodes.specs.Rows.{count_of, rows}
use Rattle.nodes.specs.Stands.{PlanStands}
use Rattle.nodes.specs.Table.{nat_of}
use Rattle.places.proofs.PlacedForm.{fields_closed, placed_closed}
use Rattle.places.proofs.PlacedFound.{placed_found}
use Rattle.places.proofs.PlanPlaces.{rows_placed}
use Rattle.places.proofs.PlanRanges.{rows_in}
use Rattle.amounts.specs.Placed.{placed_plan}
use Rattle.places.specs.Place.{SpanIn, place_found, placed_row, row_in}

-- a table that keeps the rules covers months in range, and has the places that its months alone decide
pub table_span : (t : Table) → is_table t ≡ true → SpanIn t.h t.f
table_span t ok = record { back = (rules_of t ok).back; ahead = (rules_of t ok).ahead }

module _ (x : Plan ℕ) (form : Formed filled_in_form x) (rest before : List ℤ) (e : before ≡ rows plan_form (plan_trees (closed x) end) ++ rest) where
  pub pass_in : all_rows row_in (count_of (plan_trees (closed x) end)) before ≡ true
  pass_in = ap (all_rows row_in (count_of (plan_trees (closed x) end))) e ∙ rows_in delay_in_form (closed x) rest (fields_closed x form.fields)

  module _ (h f : ℤ) (after : List ℤ) (p : after ≡ map_rows (placed_row h f) (count_of (plan_trees (closed x) end)) before) where
    pub pass_rows : after ≡ rows plan_form (plan_trees (closed (placed_plan (place_found h f) x)) end) ++ rest
    pass_rows =
        p ∙ ap (map_rows (placed_row h f) (count_of (plan_trees (closed x) end))) e ∙ rows_placed h f (closed x) rest
        ∙ ap (λ y. rows plan_form (plan_trees y end) ++ rest) (placed_closed (place_found h f) x)

    pub pass_found : Finds (plan_at nat_of max_depth after 0) (placed_plan (place_found h f) x) (PlanStands max_depth after 0)
    pass_found = placed_found h f x form after rest pass_rows
