use Prim.Native.Nat.{◌*◌, ◌+◌}
use Rattle.measures.proofs.magnitude.+amount_magnitude_operand_test_small_two_small_two_summed_two_tests.Given as goal

abbrev pub decreases-amount_magnitude : goal.decreases-amount_magnitude
decreases-amount_magnitude l = 3 * l.left

abbrev pub decreases-operand : goal.decreases-operand
decreases-operand l = 3 * l.left + 1

abbrev pub decreases-test_small : goal.decreases-test_small
decreases-test_small l = 3 * l.left

abbrev pub decreases-two_small : goal.decreases-two_small
decreases-two_small l = 3 * l.left + 2

abbrev pub decreases-two_summed : goal.decreases-two_summed
decreases-two_summed l = 3 * l.left + 2

abbrev pub decreases-two_tests : goal.decreases-two_tests
decreases-two_tests l = 3 * l.left + 2
