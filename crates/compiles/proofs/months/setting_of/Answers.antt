use borrow.Author.Rules.{rules}
use mir.Facts.{to_z-of_z}
use mir.Syntax.{w64}
use mir.Val.{SFits}
use lib.IntN.{pos}
use lib.Signed.{lt_z}
use mathlib.Core.Bool.{true}
use mathlib.Core.Path.{◌≡◌}
use Rattle.compiles.proofs.Delays.{setting_is}
use Rattle.integers.proofs.Locals.{rd}
use Rattle.integers.proofs.Negation.{add_fits, negated_fits, negated_reads, one_less_fits}
use Rattle.compiles.proofs.months.setting_of.Goals as goal

pub overflow_add-result : goal.overflow_add-result
overflow_add-result c =
    let x = c.args.d.0 in
    let f : SFits w64 c.args.d.0 = search rules in
    let e : lt_z (rd c.args.d.0) (pos 0) ≡ true = rw (to_z-of_z f) c.requires in
    add_fits x f e

pub overflow_sub-result : goal.overflow_sub-result
overflow_sub-result c =
    let x = c.args.d.0 in
    let f : SFits w64 c.args.d.0 = search rules in
    let e : lt_z (rd c.args.d.0) (pos 0) ≡ true = rw (to_z-of_z f) c.requires in
    negated_fits x f e

pub overflow_cast-result : goal.overflow_cast-result
overflow_cast-result c =
    let x = c.args.d.0 in
    let f : SFits w64 c.args.d.0 = search rules in
    let e : lt_z (rd c.args.d.0) (pos 0) ≡ true = rw (to_z-of_z f) c.requires in
    rw (negated_reads x f e) (tt, one_less_fits x f e)

pub returns : goal.returns
returns c =
    let x = c.args.d.0 in
    let f : SFits w64 c.args.d.0 = search rules in
    let e : lt_z (rd c.args.d.0) (pos 0) ≡ true = rw (to_z-of_z f) c.requires in
    rw (negated_reads x f e) (setting_is x c.requires)
