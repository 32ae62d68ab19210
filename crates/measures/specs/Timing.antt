-- The answers for first and latest, each as one number.
use Rattle.std.specs.Prelude.{◌≤◌, ℕ}
use Rattle.language.specs.Rules.Measures.{First, Latest, at_most, from, never, no_month}
use Rattle.nodes.specs.Table.{nat_of}

-- a month that no plan reaches: what stands for never
abbrev pub never_month : ℕ
never_month = 1_000_000

-- the first month in which a plan may pay
abbrev pub first_month : First → ℕ
first_month never = never_month
first_month (from n) = n

-- the latest read of an amount or test, 0 where it reads nothing that is yet to come
abbrev pub latest_month : Latest → ℕ
latest_month no_month = 0
latest_month (at_most i) = nat_of i

-- no later than a plan can reach
abbrev pub FewMonths : First → Type 0
FewMonths never = Unit {0}
FewMonths (from n) = n ≤ 20_000
