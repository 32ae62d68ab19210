-- The letters of the node table, kind by kind.
use Rattle.std.specs.Prelude.{pos, ℤ, cond}
use Rattle.integers.specs.Equal.{eq_z}
use Rattle.language.specs.Text.Number.{byte}
use Rattle.nodes.specs.declared.AmountLetter.{AmountLetter}
use Rattle.nodes.specs.declared.AmountLetter.TheVariants.{Choose, Difference, Index, NoAmount, Number, Product, Quotient, Sum}
use Rattle.nodes.specs.declared.PayoffLetter.{PayoffLetter}
use Rattle.nodes.specs.declared.PayoffLetter.TheVariants.{Await, Cut, Nil, NoPayoff, Plus, Times, Uncut}
use Rattle.nodes.specs.declared.PlanLetter.{PlanLetter}
use Rattle.nodes.specs.declared.PlanLetter.TheVariants.{Both, Later, NoPlan, Nothing, Scale, Transfer, Within}
use Rattle.nodes.specs.declared.TestLetter.{TestLetter}
use Rattle.nodes.specs.declared.TestLetter.TheVariants.{Conjunction, Disjunction, Equal, Less, Negation, NoTest}

unfoldable pub letter_of_plan : ℤ → PlanLetter
letter_of_plan x =
    cond (eq_z x (pos (byte "Z"))) Nothing
    (cond (eq_z x (pos (byte "T"))) Transfer
    (cond (eq_z x (pos (byte "S"))) Scale
    (cond (eq_z x (pos (byte "L"))) Later
    (cond (eq_z x (pos (byte "B"))) Both
    (cond (eq_z x (pos (byte "W"))) Within NoPlan)))))

unfoldable pub letter_of_payoff : ℤ → PayoffLetter
letter_of_payoff x =
    cond (eq_z x (pos (byte "Z"))) Nil
    (cond (eq_z x (pos (byte "F"))) Uncut
    (cond (eq_z x (pos (byte "H"))) Cut
    (cond (eq_z x (pos (byte "S"))) Times
    (cond (eq_z x (pos (byte "B"))) Plus
    (cond (eq_z x (pos (byte "W"))) Await NoPayoff)))))

unfoldable pub letter_of_amount : ℤ → AmountLetter
letter_of_amount x =
    cond (eq_z x (pos (byte "N"))) Number
    (cond (eq_z x (pos (byte "O"))) Index
    (cond (eq_z x (pos (byte "A"))) Sum
    (cond (eq_z x (pos (byte "U"))) Difference
    (cond (eq_z x (pos (byte "K"))) Product
    (cond (eq_z x (pos (byte "Q"))) Quotient
    (cond (eq_z x (pos (byte "I"))) Choose NoAmount))))))

unfoldable pub letter_of_test : ℤ → TestLetter
letter_of_test x =
    cond (eq_z x (pos (byte "G"))) Less
    (cond (eq_z x (pos (byte "E"))) Equal
    (cond (eq_z x (pos (byte "Y"))) Conjunction
    (cond (eq_z x (pos (byte "V"))) Disjunction
    (cond (eq_z x (pos (byte "R"))) Negation NoTest))))
