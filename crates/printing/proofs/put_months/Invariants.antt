use Prim.Native.Nat.{◌*◌, ◌+◌, ◌-◌, ◌<◌, ◌≤◌}
use lib.ListN.{drop, take}
use mathlib.Core.Path.{◌≡◌}
use Rattle.printing.proofs.MonthLines.{Printing}
use Rattle.printing.specs.Lines.{numbers_text}
use Rattle.printing.proofs.put_months.Given as goal

abbrev pub invariant-loop-m : goal.invariant-loop-m
invariant-loop-m l =
    Printing l.column l.rest l.months l.initial.out l.out l.at l.place l.m × (l.over < 100) × (l.m ≡ 100 * l.hundreds + l.over) × (l.mark ≤ l.place)
    × (0 < l.m → take (l.place - l.mark) (drop l.mark l.out) ≡ numbers_text l.column l.rest (l.m - 1))
