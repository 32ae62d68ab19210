-- The rows of an accepted plan's amount, passed from the last to the first, leave its value.
use Prim.Native.Nat.{ℕ}
use Rattle.amounts.specs.Fine.{Fine, FineTest, Reading}
use Rattle.amounts.specs.Flat.{flat}
use Rattle.backwards.proofs.Waiting as loop
use Rattle.backwards.proofs.Ways.{Values, Way, amount_leaves}
use Rattle.integers.specs.Bounded.{Small}
use Rattle.language.specs.Answer.{got}
use Rattle.language.specs.Limits.{max_nodes}
use Rattle.language.specs.Payments.Amounts.{value}
use Rattle.nodes.specs.Blocks.{AmountBlock}
use Rattle.nodes.specs.Found.{amount_at, offset_of}
use lib.IntN.{◌+ℤ◌, nat_abs, pos, ℤ}
use lib.ListN.{get_or, length}
use mathlib.Core.List.{List}
use mathlib.Core.Path.{◌≡◌}

-- each value is there, and each sum within the limit
abbrev pub plain_way : List ℤ → ℕ → Way
plain_way values r = record {
  reads = λ l i P. Reading values r i × P (get_or values (nat_abs (pos r +ℤ i)) (pos 0));
  joins = λ op x y P. Small (op x y) × P (op x y);
  reads_more = λ l i f h. (h.0, f (get_or values (nat_abs (pos r +ℤ i)) (pos 0)) h.1);
  joins_more = λ op x y f h. (h.0, f (op x y) h.1);
}

module _ (values : List ℤ) (r : ℕ) where
  unfoldable plain : Values (plain_way values r)
  unfolding Fine FineTest value flat
  plain = record {
    Good = Fine values r;
    GoodTest = FineTest values r;
    worth = λ a. got (value (flat values) a r);
    of_number = λ n P g h. h;
    of_index = λ l i P g h. (g, h);
    of_sum = λ a b P g h. (g.2, h);
    of_difference = λ a b P g h. (g.2, h);
    of_product = λ a b P g h. (g.2, h);
    of_quotient = λ n a P g h. (g.1, h);
    in_sum = λ a b g. (g.0, g.1);
    in_difference = λ a b g. (g.0, g.1);
    in_product = λ a b g. (g.0, g.1);
    in_quotient = λ n a g. g.0;
    in_choice = λ t a b g. (g.0, g.1, g.2);
    in_less = λ a b g. (g.0, g.1);
    in_equal = λ a b g. (g.0, g.1);
    in_conjunction = λ s t g. (g.0, g.1);
    in_disjunction = λ s t g. (g.0, g.1);
    in_negation = λ t g. g;
  }

  -- the invariant, and where it begins
  abbrev pub Going : List ℤ → ℕ → ℕ → List ℤ → ℕ → ℤ → ℕ → Type 0
  Going nodes from to stack depth top at = loop.Passing (plain_way values r) nodes from to (got (value (flat values) (amount_at offset_of max_nodes nodes from) r)) stack depth top at

  pub begun : {nodes : List ℤ} {from to : ℕ} → AmountBlock max_nodes nodes from to → Fine values r (amount_at offset_of max_nodes nodes from)
      → {stack : List ℤ} {top : ℤ} → length stack ≡ 32 → Going nodes from to stack 0 top to
  unfolding plain
  begun {nodes} {from} {to} b f s = loop.none_passed (amount_leaves plain nodes max_nodes from to b f) s

pub same_value : {v z : ℤ} → got v ≡ got z → z ≡ v
same_value e = cc
