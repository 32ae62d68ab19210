-- A payoff whose months and delays have no open setting is settled as it stands.
use lib.IntN.{◌+ℤ◌, pos, ℤ}
use mathlib.Core.Bool.{◌&&◌, true}
use mathlib.Core.List.{List, [], ◌++◌, ◌∷◌}
use mathlib.Core.Path.{◌∙◌, ◌≡◌, ap, ap₂, refl, sym}
use native.Mathlib.Nat.{add-zero}
use native.Mathlib.Omega.{arith}
use Rattle.integers.proofs.Solver.{◌⊕◌, lit, ring, var}
use Rattle.language.specs.Payoff.Evaluate.{month_of, settings_sum}
use Rattle.language.specs.Payoff.Settings.{month_set}
use Rattle.language.specs.Rules.Settings.{delay_of, delay_set}
use Rattle.language.specs.Rules.Table.{setting_at}
use Rattle.language.specs.Text.Classes.{Field, a_delay, a_month, a_number}
use Rattle.language.specs.Text.Letters.{PayoffLetter, payoff_form}
use Rattle.language.specs.Text.PayoffForm.{fields_of_payoff}
use Rattle.language.specs.Text.Plans.{Written, payoff_trees}
use Rattle.language.specs.Text.Reader.{Trees, end, node}
use Rattle.language.specs.Text.Trees.{Month, months, setting}
use Rattle.nodes.proofs.TreePasses.{all_nodes, changed}
use Rattle.nodes.specs.Pass.{all_rows, map_rows}
use Rattle.nodes.specs.Rows.{count_of, rows}
use Rattle.settling.proofs.NodePasses.{OnTrees, map_nodes, test_nodes}
use Rattle.settling.proofs.PayoffNodes.{Right, and_true, changes, node_set, payoff_on, settle_node, tests}
use Rattle.settling.specs.Settle.{Settled, row_settled, settle_row}

-- a field without an open setting
abbrev pub PlainField : Field → Type 0
PlainField (a_number z) = Unit {0}
PlainField (a_delay (months n)) = Unit {0}
PlainField (a_delay (setting k)) = ⊥
PlainField (a_month m) = m.settings ≡ []

unfoldable pub PlainFields : List Field → Type 0
PlainFields [] = Unit {0}
PlainFields (f ∷ fs) = PlainField f × PlainFields fs

unfoldable pub PlainTrees : Trees PayoffLetter → Type 0
PlainTrees end = Unit {0}
PlainTrees (node l fs c t) = PlainFields fs × PlainTrees c × PlainTrees t

module _ (days : List ℤ) where
  month_same : (m : Month) → m.settings ≡ [] → record { plain = month_of (setting_at days) m; settings = [] } ≡ m
  unfolding month_of settings_sum
  month_same m e =
      ap (λ ks. record { plain = m.plain +ℤ pos (settings_sum (setting_at days) ks); settings = [] }) e
      ∙ ap (λ z. record { plain = z; settings = [] }) (ring (var m.plain ⊕ lit 0) (var m.plain) (omega arith))
      ∙ ap (λ ks. record { plain = m.plain; settings = ks }) (sym e)

  fields_same : (l : _) (fs : List Field) → PlainFields fs → settle_node days l fs ≡ fs
  unfolding PlainFields settle_node delay_of
  fields_same l [] h = refl
  fields_same l (a_number z ∷ fs) h = ap (λ gs. a_number z ∷ gs) (fields_same l fs h.1)
  fields_same l (a_delay (months n) ∷ fs) h = ap (λ gs. a_delay (months n) ∷ gs) (fields_same l fs h.1)
  fields_same l (a_delay (setting k) ∷ fs) h = absurd h.0
  fields_same l (a_month m ∷ fs) h = ap₂ (λ f gs. a_month f ∷ gs) (month_same m h.0) (fields_same l fs h.1)

  fields_set : (l : _) (fs : List Field) → PlainFields fs → node_set days l fs ≡ true
  unfolding PlainFields node_set delay_set
  fields_set l [] h = refl
  fields_set l (a_number z ∷ fs) h = fields_set l fs h.1
  fields_set l (a_delay (months n) ∷ fs) h = fields_set l fs h.1
  fields_set l (a_delay (setting k) ∷ fs) h = absurd h.0
  fields_set l (a_month m ∷ fs) h = rw h.0 (fields_set l fs h.1)

  trees_same : (t : Trees PayoffLetter) → PlainTrees t → changed (settle_node days) t ≡ t
  unfolding PlainTrees changed
  trees_same end h = refl
  trees_same (node l fs c t) h = rw (fields_same l fs h.0, trees_same c h.1, trees_same t h.2) refl

  trees_set : (t : Trees PayoffLetter) → PlainTrees t → all_nodes (node_set days) t ≡ true
  unfolding PlainTrees all_nodes
  trees_set end h = refl
  trees_set (node l fs c t) h = rw (fields_set l fs h.0, trees_set c h.1, trees_set t h.2) refl

-- of its rows, whatever stands behind them
pub plain_settled : (x : Written) (rest : List ℤ) → fields_of_payoff x → PlainTrees (payoff_trees x end) → Settled (count_of (payoff_trees x end)) (rows payoff_form (payoff_trees x end) ++ rest)
unfolding map_rows all_rows OnTrees
plain_settled x rest g h days =
    let t = payoff_trees x end in
    let on : OnTrees payoff_form (Right days) t = payoff_on days x end g tt in (
      ap (λ n. all_rows (row_settled days) n (rows payoff_form t ++ rest)) (sym (add-zero (count_of t)))
          ∙ test_nodes payoff_form (row_settled days) (node_set days) t 0 rest (tests days t on) ∙ ap (λ b. b && true) (trees_set days t h),
      sym (ap (λ n. map_rows (settle_row days) n (rows payoff_form t ++ rest)) (sym (add-zero (count_of t)))
          ∙ map_nodes payoff_form (settle_row days) (settle_node days) t 0 rest (changes days t on) ∙ ap (λ u. rows payoff_form u ++ rest) (trees_same days t h)),
    )
