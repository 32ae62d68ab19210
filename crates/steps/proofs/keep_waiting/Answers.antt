use lib.IntN.{pred_ℤ}
use mathlib.Core.Path.{◌∙◌, ap, refl, subst, sym}
use native.Mathlib.Omega.{arith}
use Prim.Native.Nat.{◌+◌, ◌-◌, ◌<◌}
use Rattle.copies.proofs.Appending.{appended_as, appended_then, kept_from, row_of_lem}
use Rattle.copies.specs.Copied.{changed_rows}
use Rattle.nodes.specs.Table.{nat_of}
use Rattle.steps.specs.Offsets.{restored_row}
use Rattle.steps.proofs.keep_waiting.Goals as goal

pub earlier-d-requires : goal.earlier-d-requires
earlier-d-requires c =
    subst (λ z. 0 < nat_of z) (sym c.delay.ensures) c.requires.4

pub returns : goal.returns
returns c =
    let p = c.put_delay-head.ensures in
    let q = c.copy_rows.ensures in
    let e = kept_from (c.args.at + 1) (omega (arith, p.ends, c.requires.5)) p in (
      refl,
      record {
        counted = omega (arith, q.counted, p.ends, c.requires.1);
        added = appended_then (appended_as (row_of_lem refl (c.earlier-d.ensures ∙ ap pred_ℤ c.delay.ensures) refl refl refl) p) (appended_as (ap (changed_rows (restored_row c.args.span.h c.args.span.f) (c.args.to - (c.args.at + 1))) e) q.added);
      },
    )
