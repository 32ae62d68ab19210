-- A plan whose root goes on waiting: its text for tomorrow is today's with the root's delay one less.
use Rattle.std.specs.Prelude.{◌+◌, ◌-◌, ℕ, pos, ℤ, drop, length, take, Bool, ◌&&◌, false, not, true, List, ◌++◌, ◌≡◌}
use Rattle.std.specs.Int.Signed.{le_z}
use Rattle.amounts.specs.Fine.{FineTest}
use Rattle.amounts.specs.Flat.{flat}
use Rattle.language.specs.Answer.{got}
use Rattle.language.specs.Calls.{Outcome, Wrote, into_buffer}
use Rattle.language.specs.Limits.{max_nodes}
use Rattle.language.specs.Payments.Amounts.{holds}
use Rattle.language.specs.Text.Number.{print_nat}
use Rattle.nodes.specs.Found.{offset_of, test_at}
use Rattle.nodes.specs.Letters.{letter_of_plan}
use Rattle.nodes.specs.Stands.{TestStands}
use Rattle.nodes.specs.Table.{nat_of, slot_at}
use Rattle.nodes.specs.declared.PlanLetter.TheVariants.{Both, Later, NoPlan, Nothing, Scale, Transfer, Within}
use Rattle.nodes.specs.declared.PlanLetter.{PlanLetter}

-- a root with months left, by its letter and whether its test holds today
unfoldable pub waits_by : PlanLetter → Bool → Bool
waits_by Nothing held = false
waits_by Transfer held = false
waits_by Scale held = false
waits_by Later held = true
waits_by Both held = false
waits_by Within held = not held
waits_by NoPlan held = false

-- the root of the table goes on waiting in month r
unfoldable pub waits_at_root : List ℤ → ℕ → List ℤ → Bool
waits_at_root values r nodes = not (le_z (pos (nat_of (slot_at nodes 0 1))) (pos 0)) && waits_by (letter_of_plan (slot_at nodes 0 0)) (holds (flat values) (test_at offset_of max_nodes nodes 1) r)

-- the test of a root that is a `W` can be worked out
abbrev pub RootTest : List ℤ → ℕ → List ℤ → Type 0
RootTest values r nodes = letter_of_plan (slot_at nodes 0 0) ≡ Within → TestStands max_nodes nodes 1 × FineTest values r (test_at offset_of max_nodes nodes 1)

-- the text of a plan whose root waits d months, with one month less
unfoldable pub sooner : ℕ → List ℕ → List ℕ
sooner d text = take 2 text ++ (print_nat (d - 1) ++ drop (2 + length (print_nat d)) text)

-- that text into a buffer; nothing is paid today
unfoldable pub wait_call : ℕ → List ℕ → List ℕ → Outcome (Wrote ℤ)
wait_call d text buffer = into_buffer buffer (got (record { value = pos 0; text = sooner d text }))
