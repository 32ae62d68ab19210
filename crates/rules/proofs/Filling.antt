-- A plan that stands in the table: found there, and filled there.
use Prim.Native.Nat.{◌*◌, ◌≤◌, ℕ}
use lib.IntN.{ℤ}
use lib.ListN.{drop, length, length-append, take, take-append-drop}
use lib.Seq.{take_at}
use mathlib.Core.Bool.{true}
use mathlib.Core.List.{List, ◌++◌}
use mathlib.Core.Path.{◌∙◌, ◌≡◌, ap, subst, sym}
use native.Mathlib.Omega.{arith}
use Rattle.language.proofs.Guarantee.Kept.{set_closed}
use Rattle.language.proofs.Payoff.Filled.{fill_closed}
use Rattle.language.proofs.Rules.Tables.{setting_small}
use Rattle.language.proofs.Text.Form.{formed_map, nodes_map}
use Rattle.language.specs.Limits.{max_months, max_nodes}
use Rattle.language.specs.Rules.Settings.{all_are_set, closed, delay_of, fill}
use Rattle.language.specs.Rules.Table.{setting_at, are_settings}
use Rattle.language.specs.Text.Form.{Formed, delay_in_form, filled_in_form}
use Rattle.language.specs.Text.Letters.{plan_form}
use Rattle.language.specs.Text.Plans.{plan_trees}
use Rattle.language.specs.Text.Reader.{end}
use Rattle.language.specs.Text.Trees.{Delay, Plan, months, setting}
use Rattle.measures.proofs.FilledReady.{filled_found, open_found}
use Rattle.measures.specs.Ready.{PlanReady}
use Rattle.measures.specs.Closed.{ClosedAt}
use Rattle.nodes.proofs.AmountsFound.{Finds}
use Rattle.nodes.proofs.Counts.{count_plan, plan_rows}
use Rattle.nodes.proofs.Laid.{Laid, rows_length}
use Rattle.nodes.proofs.PlansFound.{plan_found}
use Rattle.nodes.specs.Found.{plan_at}
use Rattle.nodes.specs.Pass.{all_rows, map_rows}
use Rattle.nodes.specs.Rows.{count_of, rows}
use Rattle.nodes.specs.Table.{nat_of}
use Rattle.rules.specs.Standing.{Standing}
use Rattle.tables.proofs.PlanFills.{rows_filled, rows_set}
use Rattle.tables.proofs.PlanSkips.{rows_skip}
use Rattle.tables.specs.Fill.{fill_row, row_set}
use Rattle.tables.specs.Skips.{Skips}

module _ {nodes : List ℤ} {count : ℕ} {x : Plan Delay} (s : Standing nodes count x) where
  -- the table is the plan's rows, and a rest
  pub whole : nodes ≡ rows plan_form (plan_trees x end) ++ drop (5 * count) nodes
  whole = sym (take-append-drop (5 * count) nodes) ∙ ap (λ y. y ++ drop (5 * count) nodes) s.lies

  pub standing_rows : 5 * count ≤ length nodes
  standing_rows = omega (arith, ap length whole, length-append (rows plan_form (plan_trees x end)) (drop (5 * count) nodes), rows_length plan_form (plan_trees x end), s.counted)

  pub standing_few : count ≤ max_nodes
  standing_few = omega (arith, s.counted, plan_rows x s.formed)

  pub laid : Laid plan_form nodes 0 (plan_trees x end)
  laid = record { rest = drop (5 * count) nodes; is = whole; room = omega (arith, plan_rows x s.formed) }

  -- its rows lead on past amounts and tests
  pub standing_skips : Skips count nodes
  standing_skips = subst (λ n. Skips n nodes) (sym s.counted) (subst (Skips (count_of (plan_trees x end))) (sym whole) (rows_skip x (drop (5 * count) nodes)))

  -- it can be walked as it stands
  pub standing_ready : PlanReady 32 nodes 0
  standing_ready = (open_found nodes x end 0 32 laid s.formed.fields s.formed.depth (omega arith)).safe

  -- without open settings there is nothing to fill
  module _ (c : ClosedAt 32 nodes 0) (days : List ℤ) where
    as_found : closed (plan_at nat_of 32 nodes 0) ≡ x
    as_found = c.is ∙ (plan_found nodes x end 0 32 laid s.formed.fields s.formed.depth (omega arith)).is

    pub closed_set : all_are_set days x ≡ true
    closed_set = ap (all_are_set days) (sym as_found) ∙ set_closed days (plan_at nat_of 32 nodes 0)

    same_filled : x ≡ closed (fill (setting_at days) x)
    same_filled = sym as_found ∙ ap closed (sym (fill_closed (setting_at days) (plan_at nat_of 32 nodes 0)) ∙ ap (fill (setting_at days)) as_found)

    pub stands_closed : Standing nodes count (closed (fill (setting_at days) x))
    stands_closed = subst (Standing nodes count) same_filled s

  module _ (days : List ℤ) where
    pub set_is : all_rows (row_set days) count nodes ≡ all_are_set days x
    set_is = ap (all_rows (row_set days) count) whole ∙ ap (λ n. all_rows (row_set days) n (rows plan_form (plan_trees x end) ++ drop (5 * count) nodes)) s.counted ∙ rows_set days x (drop (5 * count) nodes)

    module _ (ok : are_settings days ≡ true) where
      delay_filled : (d : Delay) → delay_in_form d → delay_of (setting_at days) d ≤ max_months
      unfolding delay_of
      delay_filled (months n) h = h
      delay_filled (setting k) h = setting_small days ok k

      pub fill_formed : Formed filled_in_form (fill (setting_at days) x)
      fill_formed = formed_map (delay_of (setting_at days)) delay_in_form filled_in_form delay_filled x s.formed

      pub closed_formed : Formed delay_in_form (closed (fill (setting_at days) x))
      closed_formed = formed_map months filled_in_form delay_in_form (λ d h. h) (fill (setting_at days) x) fill_formed

      pub stands_filled : {after : List ℤ} → after ≡ map_rows (fill_row days) count nodes → Standing after count (closed (fill (setting_at days) x))
      stands_filled {after} e =
          let y = closed (fill (setting_at days) x) in
          let a : after ≡ rows plan_form (plan_trees y end) ++ drop (5 * count) nodes = e ∙ ap (map_rows (fill_row days) count) whole ∙ ap (λ n. map_rows (fill_row days) n (rows plan_form (plan_trees x end) ++ drop (5 * count) nodes)) s.counted ∙ rows_filled days x (drop (5 * count) nodes) in
          record {
            formed = closed_formed;
            counted = count_same;
            lies = ap (take (5 * count)) a ∙ take_at (rows plan_form (plan_trees y end)) (drop (5 * count) nodes) (5 * count) (rows_length plan_form (plan_trees y end) ∙ ap (λ n. 5 * n) (sym count_same));
          }
        where
          count_same : count ≡ count_of (plan_trees (closed (fill (setting_at days) x)) end)
          count_same = s.counted ∙ count_plan x ∙ sym (count_plan (closed (fill (setting_at days) x)) ∙ nodes_map months (fill (setting_at days) x) ∙ nodes_map (delay_of (setting_at days)) x)

-- a plan without open settings, as a walk finds it
module _ {nodes : List ℤ} {count : ℕ} (y : Plan ℕ) (s : Standing nodes count (closed y)) (formed : Formed filled_in_form y) where
  pub walked : Finds (plan_at nat_of 32 nodes 0) y (PlanReady 32 nodes 0)
  walked = filled_found nodes y end 0 32 (laid s) formed.fields formed.depth (omega arith)
