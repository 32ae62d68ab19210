-- What evaluation relies on, from a table that keeps the rules, a month of it and a pair.
use Prim.Native.Nat.{◌*◌, ◌+◌, ◌<◌}
use borrow.Author.Tests.{eqb-true, leb-true}
use lib.Dec.{T, eqb, leb}
use lib.IntN.{nat_abs, negsuc, pos, ℤ}
use lib.ListN.{length}
use lib.Signed.{non_neg}
use mathlib.Core.Bool.{◌&&◌, false≢true, true}
use mathlib.Core.List.{List}
use mathlib.Core.Path.{◌≡◌, refl}
use native.Mathlib.Omega.{arith}
use Rattle.checked.specs.Ranges.{Readable}
use Rattle.language.proofs.Rules.Tables.{bound_small, factor_small, rules_of, value_bounded}
use Rattle.language.proofs.Truth.{and_e}
use Rattle.language.specs.Calls.{pair_ok}
use Rattle.language.specs.Limits.{max_amount, max_back, max_labels, max_months, max_party, one_factor}
use Rattle.language.specs.Rules.Table.{Table, all_of, factor_at, is_a_party, span, is_table, value_at, are_bounded}
use Rattle.language.specs.Text.Number.{between}
use Rattle.nodes.specs.Table.{nat_of}
use Rattle.pays.specs.Parties.{PairIn}
use Rattle.tables.proofs.Spans.{span_holds}
use Rattle.tables.specs.Given.{table_of}
use Rattle.worths.specs.Ranges.{Payable}

module _ (h f : ℤ) (factors bounds values : List ℤ) (ok : is_table (table_of h f factors bounds values) ≡ true) where
  abbrev t : Table
  t = table_of h f factors bounds values

  -- the counts of the rule
  record Counts : Type 0 where
    labels : leb (length bounds) max_labels ≡ true
    values_count : eqb (length values) (length bounds * span t) ≡ true
    factors_count : eqb (length factors) (nat_abs f + 1) ≡ true

  counts : Counts
  unfolding is_table
  counts =
      let a = and_e _ (are_bounded (span t) bounds values) ok in
      let b = and_e _ (eqb (length values) (length bounds * span t)) a.0 in
      let c = and_e _ (all_of (between (pos 0) (pos max_amount)) bounds) b.0 in
      let d = and_e _ (leb (length bounds) max_labels) c.0 in
      let e = and_e _ (all_of (between (pos 0) (pos one_factor)) factors) d.0 in
      let g = and_e (between (pos 0) (pos max_back) h && between (pos 0) (pos max_months) f) (eqb (length factors) (nat_abs f + 1)) e.0 in
      record { labels = d.1; values_count = b.1; factors_count = g.1 }

  pub table_read : Readable h f bounds values
  unfolding value_at
  table_read =
      let s = span_holds h f factors bounds values ok in
      record {
        kept = record {
          span = record { h_from = s.0.natural; h_to = s.0.small; f_from = s.1.natural; f_to = s.1.small };
          labels = leb-true (length bounds) max_labels counts.labels;
          count = eqb-true (length values) (length bounds * span t) counts.values_count;
        };
        small = λ l m. omega (arith, value_bounded t (rules_of t ok) l m, bound_small t (rules_of t ok) l);
      }

  pub table_pays : Payable f factors
  unfolding factor_at
  table_pays = record {
    known = (span_holds h f factors bounds values ok).1.natural;
    count = eqb-true (length factors) (nat_abs f + 1) counts.factors_count;
    small = λ m. factor_small t (rules_of t ok) (pos m);
  }

-- ---- the caller's
pub month_known : (f m : ℤ) → between (pos 0) f m ≡ true → T (non_neg m) × (nat_of m ≡ nat_abs m)
month_known f (pos n) e = (tt, refl)
month_known f (negsuc n) e = absurd (false≢true e)

party_known : (p : ℤ) → is_a_party p ≡ true → 0 < nat_of p
party_known (pos n) e = omega (arith, leb-true 1 n (and_e (leb 1 n) (leb n max_party) e).0)
party_known (negsuc n) e = absurd (false≢true e)

pub pair_known : (p q : ℤ) → pair_ok p q ≡ true → PairIn p q
pair_known p q e = let b = and_e (is_a_party p) (is_a_party q) e in record { first = party_known p b.0; second = party_known q b.1 }
