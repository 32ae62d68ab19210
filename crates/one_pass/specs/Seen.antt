-- What the number of an amount, a test, a delay and a plan says of it.
use Rattle.std.specs.Prelude.{◌+◌, ◌-◌, ◌/◌, ◌<◌, ◌≤◌, ℕ, pos, ℤ, drop, length, true, List, [], ◌∷◌, ◌≡◌}
use Rattle.std.specs.Int.Signed.{le_z}
use Rattle.fields.specs.Fields.{ReadUpTo}
use Rattle.fields.specs.Numbers.{Run}
use Rattle.fields.specs.Positions.{up_to}
use Rattle.language.specs.Limits.{max_months}
use Rattle.language.specs.Rules.Measures.{latest_of, latest_of_test, magnitude_of_amount}
use Rattle.language.specs.Rules.Settings.{all_are_set, delay_of, delay_set, fill}
use Rattle.language.specs.Rules.Table.{Table, setting_at}
use Rattle.language.specs.Rules.Tests.{amount_reads, amount_small, test_reads, test_is_small}
use Rattle.language.specs.Text.Classes.{a_delay, a_number}
use Rattle.language.specs.Text.Letters as kinds
use Rattle.language.specs.Text.Letters.{delay, divisor}
use Rattle.language.specs.Text.Plans.{plan_trees}
use Rattle.language.specs.Text.Trees.{Amount, Delay, Plan, Test}
use Rattle.language.specs.Text.Typed.{amount_tree, test_tree}
use Rattle.measures.specs.Magnitudes.{bound_in}
use Rattle.measures.specs.Spans.{Seen}
use Rattle.measures.specs.Sure.{Sure}
use Rattle.measures.specs.Timing.{latest_month}
use Rattle.nodes.specs.Rows.{delay_from}
use Rattle.nodes.specs.Table.{nat_of}
use Rattle.one_pass.specs.Packed.{Kept, Packed, behind, magnitude_in, months_in}
use Rattle.one_pass.specs.Reads.{Reads}

-- ---- fields

-- a row of digits in front of a comma: its value as magnitude
pub record DigitsSeen (text : List ℕ) (at r : ℕ) : Type 0 where
  pub run : Run (up_to 44 (drop at text)) at (magnitude_in r) (behind r - 1)
  pub none : months_in r ≡ 0
  pub some : 0 < behind r

-- a divisor is read here
pub record DivisorSeen (text : List ℕ) (at r : ℕ) : Type 0 where
  pub by : ℕ
  pub is : ReadUpTo (divisor ∷ []) text at (a_number (pos by) ∷ []) (behind r)

-- a label that the table has, and an offset that can be read
pub record Indexed (l i low high : ℤ) (bounds : List ℤ) (next r : ℕ) : Type 0 where
  pub label : ℕ
  pub is : l ≡ pos label
  pub inside : label < length bounds
  pub least : le_z low i ≡ true
  pub most : le_z i high ≡ true
  pub packed : Packed (bound_in bounds label) (nat_of i) next r

-- a delay's slot as months
pub record DelayOf (a : ℤ) (next : ℕ) (days : List ℤ) (r : ℕ) : Type 0 where
  pub set : delay_set days (delay_from a) ≡ true
  pub packed : Packed 0 (delay_of (setting_at days) (delay_from a)) next r
  pub few : months_in r ≤ max_months

-- a delay is read here, and where it is a setting, that is lent
pub record DelaySeen (text : List ℕ) (at : ℕ) (days : List ℤ) (r : ℕ) : Type 0 where
  pub wait : Delay
  pub is : ReadUpTo (delay ∷ []) text at (a_delay wait ∷ []) (behind r)
  pub set : delay_set days wait ≡ true
  pub months : months_in r ≡ delay_of (setting_at days) wait
  pub few : months_in r ≤ max_months

-- ---- a plan without parts

-- its months are those that the table goes on behind it
pub record Ended (m next : ℕ) (high : ℤ) (r : ℕ) : Type 0 where
  pub months : ℕ
  pub packed : Packed m months next r
  pub few : months ≤ max_months
  pub is : high ≡ pos months

-- ---- amounts, tests and plans

module _ (text : List ℕ) (left at : ℕ) (low high : ℤ) (bounds : List ℤ) where
  -- an amount is read here, it can be read from every month of a node with these offsets, and is within the limit everywhere
  pub record AmountSeen (r : ℕ) : Type 0 where
    pub amount : Amount ℤ
    pub is : Reads left kinds.amount text at (behind r) (amount_tree a_number amount)
    pub reads : (t : Table) (a z : ℕ) → Seen low high (length bounds) t a z → amount_reads t a z amount ≡ true
    pub latest : months_in r ≡ latest_month (latest_of amount)
    pub small : amount_small (bound_in bounds) amount ≡ true
    pub magnitude : magnitude_in r ≡ magnitude_of_amount (bound_in bounds) amount

  abbrev pub AmountIs : ℕ → Type 0
  AmountIs r = Kept r → AmountSeen r

  -- a test, which has no magnitude
  pub record TestSeen (r : ℕ) : Type 0 where
    pub test : Test ℤ
    pub is : Reads left kinds.test text at (behind r) (test_tree a_number test)
    pub reads : (t : Table) (a z : ℕ) → Seen low high (length bounds) t a z → test_reads t a z test ≡ true
    pub latest : months_in r ≡ latest_month (latest_of_test test)
    pub small : test_is_small (bound_in bounds) test ≡ true
    pub none : magnitude_in r ≡ 0

  abbrev pub TestIs : ℕ → Type 0
  TestIs r = Kept r → TestSeen r

  -- a plan whose settings are lent, and which keeps every rule once they are filled
  module _ (need : ℕ) (days : List ℤ) where
    pub record PlanSeen (r : ℕ) : Type 0 where
      pub plan : Plan Delay
      pub is : Reads left kinds.root text at (behind r) (plan_trees plan)
      pub set : all_are_set days plan ≡ true
      pub sure : (t : Table) (a z : ℕ) → Seen low high (length bounds) t a z → Sure t a z (bound_in bounds) need high (fill (setting_at days) plan) (r / 1024)

    abbrev pub PlanIs : ℕ → Type 0
    PlanIs r = Kept r → PlanSeen r
