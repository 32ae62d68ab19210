-- What is written before a part of a plan is walked leaves the part as it was.
use Prim.Native.Nat.{◌*◌, ◌+◌, ◌≤◌, ℕ}
use lib.IntN.{ℤ}
use lib.ListN.{drop, length}
use mathlib.Core.List.{List}
use mathlib.Core.Path.{◌∙◌, ◌≡◌, ap, subst, sym}
use native.Mathlib.Omega.{arith}
use Rattle.amounts.specs.Flat.{flat}
use Rattle.amounts.specs.Placed.{place_in, placed_plan}
use Rattle.copies.proofs.Appending.{appended_then, kept_from}
use Rattle.copies.proofs.LyingParts.{laid, lies_kept}
use Rattle.copies.specs.Appended.{Appended}
use Rattle.copies.specs.Copied.{Copied}
use Rattle.language.specs.Payments.Pays.{Sign, pays}
use Rattle.language.specs.Text.Reader.{end}
use Rattle.nodes.proofs.AmountsFound.{Finds}
use Rattle.nodes.specs.Found.{plan_at}
use Rattle.nodes.specs.Stands.{PlanStands}
use Rattle.nodes.specs.Table.{nat_of}
use Rattle.pays.specs.FinePlan.{FinePlan}
use Rattle.places.proofs.PlacedFound.{placed_in}
use Rattle.steps.specs.Ready.{Ready}
use Rattle.tables.specs.Given.{table_of}

-- ---- rows that are not written to

-- tables that are alike from a node on
pub record Alike (other nodes : List ℤ) (from : ℕ) : Type 0 where
  pub is : drop (from * 5) other ≡ drop (from * 5) nodes

-- the row of node `at` is written not behind it
module _ {a b : List ℤ} {k l at : ℕ} {x : List ℤ} (low : k ≤ at) (five : length x ≡ 5) (u : Appended a b k l x) where
  pub below_kept : Alike b a (at + 1)
  below_kept = record { is = kept_from (at + 1) (omega (arith, low, five, u.ends)) u }

  -- then no more rows than there are up to node p
  module _ {c : List ℤ} {m p : ℕ} {y : List ℤ} (few : m + (at + 1) ≤ l + p) (v : Appended b c l m y) where
    pub below_ends : m ≤ p
    below_ends = omega (arith, low, five, u.ends, few)

    pub behind_kept : Alike c a p
    behind_kept = record { is = kept_from p below_ends (appended_then u v) }

-- rows that are moved down are as many as they were
pub copied_few : {f : List ℤ → List ℤ} {b c : List ℤ} {from to l m : ℕ} → from ≤ to → Copied f b c from to l m → m + from ≤ l + to
copied_few o v = omega (arith, o, v.counted)

-- ---- a plan that stands there

pub found : {h f : ℤ} {bounds values : List ℤ} {r : ℕ} {nodes : List ℤ} {at to left : ℕ} (y : Ready h f bounds values r nodes at to left)
    → Finds (plan_at nat_of left nodes at) (placed_plan (place_in (table_of h f y.factors bounds values)) y.plan) (PlanStands left nodes at)
found {h} {f} {bounds} {values} {nodes = nodes} {at} {left = left} y =
    placed_in (place_in (table_of h f y.factors bounds values)) nodes y.plan end at left (laid y.steps.lies) y.steps.fields y.steps.depth (omega (arith, y.steps.deep))

module _ {h f : ℤ} {bounds values : List ℤ} {r : ℕ} {nodes other : List ℤ} {at to left : ℕ} (e : Alike other nodes at) (y : Ready h f bounds values r nodes at to left) where
  unfoldable pub ready_kept : Ready h f bounds values r other at to left
  ready_kept = record {
    factors = y.factors;
    ok = y.ok;
    plan = y.plan;
    steps = record { lies = lies_kept e.is y.steps.lies; fields = y.steps.fields; reads = y.steps.reads; small = y.steps.small; depth = y.steps.depth; deep = y.steps.deep };
  }

  plan_kept : plan_at nat_of left other at ≡ plan_at nat_of left nodes at
  unfolding ready_kept
  plan_kept = (found ready_kept).is ∙ sym (found y).is

  module _ (sg : Sign) where
    pub walks_kept : PlanStands left nodes at × FinePlan values sg (plan_at nat_of left nodes at) r r → PlanStands left other at × FinePlan values sg (plan_at nat_of left other at) r r
    walks_kept w = ((found ready_kept).safe, subst (λ x. FinePlan values sg x r r) (sym plan_kept) w.1)

    pub paid_kept : {x : ℤ} → x ≡ pays (flat values) sg (plan_at nat_of left other at) r r → x ≡ pays (flat values) sg (plan_at nat_of left nodes at) r r
    paid_kept d = d ∙ ap (λ z. pays (flat values) sg z r r) plan_kept
