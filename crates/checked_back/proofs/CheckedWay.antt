-- The rows of a payoff's amount, passed from the last to the first, leave its value where nothing is refused.
use Prim.Native.Nat.{◌+◌, ◌-◌, ◌<◌, ℕ}
use Rattle.amounts.specs.Fine.{Divides}
use Rattle.backwards.proofs.Waiting as loop
use Rattle.backwards.proofs.Ways.{Values, Way, amount_leaves, taken, taken_more}
use Rattle.checked.proofs.Bounds.{valued_small}
use Rattle.checked.proofs.Codes.{stands_value}
use Rattle.checked.proofs.Combined.{amount_within_lem}
use Rattle.checked.proofs.RowAnswers.{divided}
use Rattle.checked.specs.Answers.{amount_answer, divided_by, valued_answer}
use Rattle.checked.specs.Checked.{value_found}
use Rattle.checked.specs.Coded.{valued_in}
use Rattle.checked.specs.Ranges.{Near}
use Rattle.integers.specs.Bounded.{Small, amount_within}
use Rattle.integers.specs.Rounding.{floor_z}
use Rattle.integers.specs.declared.Pence.{Pence}
use Rattle.language.proofs.Payoff.Evaluate.{in_range_lem}
use Rattle.language.specs.Answer.{Answer, got, on_both, refused}
use Rattle.language.specs.Limits.{max_amount, max_nodes}
use Rattle.language.specs.Payoff.Evaluate.{checked_holds, checked_value, in_range}
use Rattle.language.specs.Rules.Table.{readable, value_at}
use Rattle.language.specs.Text.Form.{fields_of_amount, fields_of_test}
use Rattle.language.specs.Text.Trees.{Amount}
use Rattle.nodes.specs.Blocks.{AmountBlock}
use Rattle.nodes.specs.Found.{amount_at, offset_of}
use Rattle.nodes.specs.Table.{nat_of, slot_at}
use Rattle.nodes.specs.declared.AmountLetter.TheVariants as amount
use Rattle.tables.specs.Lookup.{read_table}
use lib.IntN.{◌*ℤ◌, ◌+ℤ◌, ◌-ℤ◌, pos, ℤ}
use lib.ListN.{get_or, length, set}
use mathlib.Core.Bool.{cond}
use mathlib.Core.List.{List, ◌∷◌}
use mathlib.Core.Path.{◌∙◌, ◌≡◌, ap, refl, subst, sym}
use Rattle.std.specs.Prelude.{Ok, Option, Result, Some}
use Rattle.checked.specs.declared.answers.Fault.{Fault}

-- the second of two answers comes first on the way back
both_taken : (f : ℤ → ℤ → Answer ℤ) (R : ℤ → ℤ → Type 0) (P : ℤ → Type 0) (a b : Answer ℤ) → ((x y : ℤ) → a ≡ got x → b ≡ got y → taken (f x y) P → R x y)
    → taken (on_both f a b) P → taken b (λ y. taken a (λ x. R x y))
unfolding on_both
both_taken f R P (got x) (got y) g h = g x y refl refl h
both_taken f R P (got x) (refused n) g h = tt
both_taken f R P (refused m) (got y) g h = tt
both_taken f R P (refused m) (refused n) g h = tt

module _ (h f : ℤ) (bounds values : List ℤ) (w : ℕ) where
  -- what an `O` of this label and month reads
  abbrev pub read_at : ℤ → ℤ → Answer ℤ
  read_at l i = cond (readable (read_table h f bounds values) (nat_of l) (pos w +ℤ i)) (in_range max_amount (value_at (read_table h f bounds values) (nat_of l) (pos w +ℤ i))) (refused 11)

  -- each read is found, and each result of two small values is within the limit
  abbrev pub checked_way : Way
  checked_way = record {
    reads = λ l i P. Near i × taken (read_at l i) P;
    joins = λ op x y P. Small x × Small y × taken (in_range max_amount (op x y)) P;
    reads_more = λ l i g k. (k.0, taken_more (read_at l i) g k.1);
    joins_more = λ op x y g k. (k.0, k.1, taken_more (in_range max_amount (op x y)) g k.2);
  }

  abbrev worth_of : Amount ℤ → Answer ℤ
  worth_of a = value_found h f bounds values a w

  small : (a : Amount ℤ) {z : ℤ} → worth_of a ≡ got z → Small z
  small a {z} e = valued_small h f bounds values a w (Ok (record { 0 = z })) (sym e)

  joined : (op : ℤ → ℤ → ℤ) (a b : Amount ℤ) (P : ℤ → Type 0) → taken (on_both (λ x y. in_range max_amount (op x y)) (worth_of a) (worth_of b)) P
      → taken (worth_of b) (λ y. taken (worth_of a) (λ x. Small x × Small y × taken (in_range max_amount (op x y)) P))
  joined op a b P k =
      both_taken (λ x y. in_range max_amount (op x y)) (λ x y. Small x × Small y × taken (in_range max_amount (op x y)) P) P (worth_of a) (worth_of b)
      (λ x y ea eb t. (small a ea, small b eb, t)) k

  quotient_taken : (n : ℕ) (a : Amount ℤ) (P : ℤ → Type 0) → Divides n → taken (divided_by n (worth_of a)) P → taken (worth_of a) (λ x. Divides n × P (floor_z x n))
  quotient_taken n a P d k = go (worth_of a) refl k
    where
      go : (b : Answer ℤ) → worth_of a ≡ b → taken (divided_by n b) P → taken b (λ x. Divides n × P (floor_z x n))
      go (got x) e t = (d, subst (λ c. taken c P) (sym (divided n refl (small a e) refl)) t)
      go (refused m) e t = tt

  unfoldable checked_values : Values checked_way
  unfolding checked_value checked_holds fields_of_amount fields_of_test
  checked_values = record {
    Good = fields_of_amount Near;
    GoodTest = fields_of_test Near;
    worth = worth_of;
    of_number = λ n P g k. subst (λ c. taken c P) (in_range_lem max_amount n g) k;
    of_index = λ l i P g k. (g.1, k);
    of_sum = λ a b P g k. joined ◌+ℤ◌ a b P k;
    of_difference = λ a b P g k. joined ◌-ℤ◌ a b P k;
    of_product = λ a b P g k. joined ◌*ℤ◌ a b P k;
    of_quotient = λ n a P g k. quotient_taken n a P (record { some = g.0; small = g.1 }) k;
    in_sum = λ a b g. (g.0, g.1);
    in_difference = λ a b g. (g.0, g.1);
    in_product = λ a b g. (g.0, g.1);
    in_quotient = λ n a g. g.2;
    in_choice = λ t a b g. (g.0, g.1, g.2);
    in_less = λ a b g. (g.0, g.1);
    in_equal = λ a b g. (g.0, g.1);
    in_conjunction = λ s t g. (g.0, g.1);
    in_disjunction = λ s t g. (g.0, g.1);
    in_negation = λ t g. g;
  }

  -- the invariant, and where it begins
  abbrev pub Going : List ℤ → ℕ → ℕ → List ℤ → ℕ → ℤ → ℕ → Type 0
  Going nodes from to stack depth top at = loop.Passing checked_way nodes from to (worth_of (amount_at offset_of max_nodes nodes from)) stack depth top at

  pub begun : {nodes : List ℤ} {from to : ℕ} → AmountBlock max_nodes nodes from to → fields_of_amount Near (amount_at offset_of max_nodes nodes from)
      → {stack : List ℤ} {top : ℤ} → length stack ≡ 32 → Going nodes from to stack 0 top to
  unfolding checked_values
  begun {nodes} {from} {to} b g s = loop.none_passed (amount_leaves checked_values nodes max_nodes from to b g) s

  -- a value that comes stands for itself
  pub stands : (a : Amount ℤ) {z : ℤ} → worth_of a ≡ got z → valued_in z ≡ worth_of a
  stands a {z} e = stands_value max_amount z (small a e).small ∙ sym e

  module _ {nodes : List ℤ} {from to : ℕ} {a : Answer ℤ} {stack : List ℤ} {depth : ℕ} {top : ℤ} {at : ℕ} (p : loop.Passing checked_way nodes from to a stack depth top at) (l : from < at) where
    -- r is what the code reads, q the value that was found
    pub read_row : loop.letter_there p l ≡ amount.Index → depth < 32 → {r : Result Pence Fault} → valued_answer r ≡ read_at (slot_at nodes (at - 1) 1) (slot_at nodes (at - 1) 2)
        → (q : Pence) → r ≡ Ok q → {z : ℤ} → z ≡ q.0 → loop.After p l (set stack depth top) (depth + 1) z
    read_row e d er q eq ez =
        loop.pushed_row p l d ez (subst (λ c. taken c (λ v. loop.Next p l (v ∷ loop.waiting stack depth top))) (sym er ∙ ap valued_answer eq) (loop.index_reads p l e).1)

    -- y is the cell as the code reads it, s the result, q the result within the limit
    pub tested_row : (op : ℤ → ℤ → ℤ) → loop.Joins p l op → {y : ℤ} {s : Option Pence} → y ≡ get_or stack (depth - 1) (pos 0) → s ≡ amount_within (op top y)
        → (q : Pence) → s ≡ Some q → {z : ℤ} → z ≡ q.0 → loop.After p l stack (depth - 1) z
    tested_row op j ey es q eq ez =
        let e = sym (amount_within_lem (op top (get_or stack (depth - 1) (pos 0)))) ∙ ap amount_answer (sym (es ∙ ap (λ v. amount_within (op top v)) ey) ∙ eq) in
        loop.joined_row p l ez (subst (λ c. taken c (λ v. loop.Next p l (loop.waiting stack (depth - 1) v))) e j.then.2)
