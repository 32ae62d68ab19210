use Rattle.std.proofs.Common.{◌≡◌, ◌+◌, ◌-◌, ◌/◌, ◌&&◌, length, take, drop, sym, ◌∙◌, ap₂, arith, rules}
use Rattle.language.specs.Rules.Table.{all_of}
use Rattle.language.specs.Text.Number.{between}
use Rattle.tables.proofs.Lists.{all_halved}
use Rattle.tables.proofs.all_between.Goals as goal

pub returns : goal.returns
returns c =
    let a = c.args in
    let p = between a.range.low a.range.high in
    let xs = a.xs.now in
    let h = length xs / 2 in
    let z : h - 0 ≡ h = omega arith in
    let y : h + h - h ≡ h = omega arith in
    ap₂ ◌&&◌ (c.both_between-halves.ensures ∙ ap₂ (λ i j. all_of p (take i xs) && all_of p (take j (drop h xs))) z y) c.last_between.ensures ∙ sym (all_halved p xs h)
