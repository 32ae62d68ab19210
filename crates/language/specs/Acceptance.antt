-- Demand 2, the statement on acceptance: checking accepts exactly the plans that meet the rules.
use Rattle.std.specs.Prelude.{ℕ, T, nat_abs, ℤ, true, List, ◌≡◌}
use Rattle.language.specs.Answer.{got}
use Rattle.language.specs.Calls.{Checked, Given, check_call}
use Rattle.language.specs.Limits.{max_amount}
use Rattle.language.specs.Rules.Accepted.{Accepted}
use Rattle.language.specs.Rules.Measures.{length_of, magnitude_of}
use Rattle.language.specs.Rules.Settings.{all_are_set, fill}
use Rattle.language.specs.Rules.Table.{bound_at, is_month, readable, setting_at, are_settings, is_table}
use Rattle.language.specs.Text.Plans.{read_plan}
use Rattle.language.specs.Text.Trees.{Delay, Plan}

module _ (g : Given) where
  -- the four rules of a filled plan with its root in month r: length, reads, known in time, magnitude
  abbrev pub Meets : Plan ℕ → ℕ → Type 0
  Meets x r = Accepted (bound_at g.table) max_amount (nat_abs g.table.f) (λ l m. T (readable g.table l m)) x r

  -- what a plan accepted with this today has
  pub record Passed (x : Plan Delay) (today : ℤ) : Type 0 where
    pub table : is_table g.table ≡ true
    pub month : is_month g.table today ≡ true
    pub settings : are_settings g.settings ≡ true
    pub set : all_are_set g.settings x ≡ true
    pub meets : Meets (fill (setting_at g.settings) x) (nat_abs today)

  -- the text is that of a plan which meets the rules, with this length and magnitude
  pub record MeetsRules (text : List ℕ) (today : ℤ) (k : Checked) : Type 0 where
    pub plan : Plan Delay
    pub reads : read_plan text ≡ got plan
    pub passed : Passed plan today
    pub length : k.length ≡ length_of (fill (setting_at g.settings) plan)
    pub magnitude : k.magnitude ≡ magnitude_of (bound_at g.table) (fill (setting_at g.settings) plan)

-- "A plan is accepted exactly when it meets document 01's rules"
abbrev pub Acceptance : Type 0
Acceptance =
    (g : Given) (text : List ℕ) (today : ℤ) (k : Checked)
    → (check_call text g today ≡ got k → MeetsRules g text today k) × (MeetsRules g text today k → check_call text g today ≡ got k)
