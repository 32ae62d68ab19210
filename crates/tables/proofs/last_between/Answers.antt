use Rattle.std.proofs.Common.{◌+◌, ◌&&◌, get_or, pos, sym, ap, ◌∙◌, to_z-of_z, w64, SFits, rules}
use mathlib.Core.Bool.{and-true}
use Rattle.language.specs.Text.Number.{between}
use Rattle.tables.proofs.Lists.{all_done, all_next}
use Rattle.tables.proofs.last_between.Goals as goal

pub returns-then-at-xs : goal.returns-then-at-xs
returns-then-at-xs c =
    let p = between c.args.range.low c.args.range.high in
    let xs = c.args.xs.now in
    let at = c.args.at in
    let f : SFits w64 (get_or xs at (pos 0)) = search rules in
    c.is_between.ensures ∙ ap p (to_z-of_z f) ∙ sym (all_next p xs at c.if-at-xs.true ∙ ap (λ r. p (get_or xs at (pos 0)) && r) (all_done p xs (at + 1) c.requires) ∙ and-true (p (get_or xs at (pos 0))))

pub returns : goal.returns
returns c =
    let a = c.args in
    sym (all_done (between a.range.low a.range.high) a.xs.now a.at c.if-at-xs.false)
