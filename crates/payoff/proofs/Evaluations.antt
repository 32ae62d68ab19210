-- Evaluating a payoff that stands in the table, step by step in document 01's order.
use Prim.Native.Nat.{◌*◌, ◌≤◌, ℕ}
use lib.IntN.{ℤ}
use lib.ListN.{drop, length, length-append, take-append-drop}
use mathlib.Core.Bool.{◌&&◌, false, true}
use mathlib.Core.List.{List, ◌++◌}
use mathlib.Core.Path.{◌∙◌, ◌≡◌, ap, ap₂, refl, subst, sym}
use native.Mathlib.Omega.{arith}
use Rattle.language.proofs.Rules.Tables.{setting_small}
use Rattle.language.proofs.Text.Payoffs.{PayoffRead, payoff_read, payoff_trees_lem}
use Rattle.language.proofs.Truth.{and_e}
use Rattle.language.specs.Answer.{refused}
use Rattle.language.specs.Calls.{Given, evaluate, evaluate_call, pair_ok}
use Rattle.language.specs.Payoff.Evaluate.{fill_payoff}
use Rattle.language.specs.Payoff.Settings.{payoff_set}
use Rattle.language.specs.Rules.Table.{is_month, setting_at, are_settings, is_table}
use Rattle.language.specs.Text.Letters.{payoff_form}
use Rattle.language.specs.Text.Plans.{Written, payoff_trees, print_payoff, read_payoff}
use Rattle.language.specs.Text.Reader.{end, text_as_read}
use Rattle.nodes.specs.Blocks.{PayoffBlocks}
use Rattle.nodes.proofs.AmountsFound.{Finds}
use Rattle.nodes.proofs.Laid.{rows_length}
use Rattle.nodes.specs.Found.{offset_of, payoff_at}
use Rattle.nodes.specs.Pass.{all_rows, map_rows}
use Rattle.nodes.specs.Rows.{count_of, rows}
use Rattle.nodes.specs.Stands.{PayoffStands}
use Rattle.nodes.specs.Table.{nat_of}
use Rattle.payoff.proofs.FilledBlocks.{filled_blocks}
use Rattle.payoff.proofs.FilledRanges.{filled_range}
use Rattle.payoff.proofs.Opens.{none_open}
use Rattle.text.specs.Opens.{opens}
use Rattle.payoff.proofs.TableFacts.{month_known}
use Rattle.payoff.specs.Evaluating.{EvaluateIs, Standing, Stands, evaluating_answer}
use Rattle.settling.proofs.FilledFound.{filled_found, filled_laid}
use Rattle.settling.proofs.PayoffSettles as settled
use Rattle.settling.proofs.PayoffSettles.{filled_trees}
use Rattle.settling.proofs.PlainRows.{plain_settled}
use Rattle.settling.specs.Settle.{SettleIs, Settled, row_in, row_settled, settle_row}
use Rattle.tables.specs.Given.{given_of}
use Rattle.text.specs.ReadInto as read
use Rattle.text.specs.Refusals.{number_of}
use Rattle.text.specs.declared.Refusal.{Refusal}
use Rattle.text.specs.declared.Refusal.TheVariants as refusal
use Rattle.worths.specs.Checked.{worth_in}
use Rattle.worths.specs.Ranges.{FieldsIn}
use Rattle.std.specs.Prelude.{Err, Ok, Result}
use Rattle.integers.specs.declared.Millionths.{Millionths}

-- ---- a payoff that stands in the table
module _ {nodes : List ℤ} {count : ℕ} {x : Written} (s : Standing nodes count x) where
  -- the table is the payoff's rows, and a rest
  whole : nodes ≡ rows payoff_form (payoff_trees x end) ++ drop (5 * count) nodes
  whole = sym (take-append-drop (5 * count) nodes) ∙ ap (λ y. y ++ drop (5 * count) nodes) s.lies

  pub standing_rows : 5 * count ≤ length nodes
  standing_rows = omega (arith, ap length whole, length-append (rows payoff_form (payoff_trees x end)) (drop (5 * count) nodes), rows_length payoff_form (payoff_trees x end), s.counted)

  pub standing_in : all_rows row_in count nodes ≡ true
  standing_in = ap₂ (all_rows row_in) s.counted whole ∙ settled.rows_in nodes x (drop (5 * count) nodes) s.formed.fields

  -- with no open setting, it is settled as it stands
  plain_stands : opens (print_payoff x) ≡ false → Settled count nodes
  plain_stands e = rw s.counted (subst (Settled (count_of (payoff_trees x end))) (sym (rw s.counted at whole)) (plain_settled x (drop (5 * count_of (payoff_trees x end)) nodes) s.formed.fields (none_open x e)))

  module _ (days : List ℤ) where
    pub set_is : all_rows (row_settled days) count nodes ≡ payoff_set days x
    set_is = ap₂ (all_rows (row_settled days)) s.counted whole ∙ settled.rows_set days x (drop (5 * count) nodes) s.formed.fields

    -- settled, it is the filled payoff's rows
    module _ {after : List ℤ} (e : after ≡ map_rows (settle_row days) count nodes) where
      filled : after ≡ rows payoff_form (filled_trees (fill_payoff (setting_at days) x) end) ++ drop (5 * count) nodes
      filled = e ∙ ap₂ (map_rows (settle_row days)) s.counted whole ∙ settled.rows_settled days x (drop (5 * count) nodes) s.formed.fields

      pub found : Finds (payoff_at nat_of offset_of 32 after 0) (fill_payoff (setting_at days) x) (PayoffStands 32 after 0)
      found = filled_found days x s.formed after (drop (5 * count) nodes) filled

      pub found_blocks : PayoffBlocks 32 after 0
      found_blocks = filled_blocks (setting_at days) after x end 0 32 (filled_laid days x s.formed after (drop (5 * count) nodes) filled) s.formed.depth (omega arith)

-- ---- document 01's order
module _ (days : List ℤ) (h f : ℤ) (factors bounds values : List ℤ) (p q now : ℤ) (count : ℕ) (before : List ℤ) where
  abbrev g : Given
  g = given_of days h f factors bounds values

  abbrev Is : Result Millionths Refusal → Type 0
  Is = EvaluateIs g p q now count before

  pub no_table : is_table g.table ≡ false → Is (Err refusal.Table)
  unfolding evaluate
  no_table e = record { answer = λ x s. rw e refl }

  module _ (t : is_table g.table ≡ true) where
    pub no_caller : is_month g.table now && pair_ok p q ≡ false → Is (Err refusal.Caller)
    unfolding evaluate
    no_caller e = record { answer = λ x s. rw (t, e) refl }

    module _ (m : is_month g.table now && pair_ok p q ≡ true) where
      pub bad_settings : are_settings days ≡ false → Is (Err refusal.Settings)
      unfolding evaluate
      bad_settings e = record { answer = λ x s. rw (t, m, e) refl }

      module _ (e : are_settings days ≡ true) where
        pub unset : all_rows (row_settled days) count before ≡ false → Is (Err refusal.Settings)
        unfolding evaluate
        unset u = record { answer = λ x s. let v = sym (set_is s days) ∙ u in rw (t, m, e, v) refl }

        -- the table as it was settled, in which the walk goes
        module _ {after : List ℤ} (u : SettleIs days count before after (Ok _)) where
          pub walked : Stands before count → PayoffStands 32 after 0 × FieldsIn (payoff_at nat_of offset_of 32 after 0) × PayoffBlocks 32 after 0
          walked s =
              let w = found s.standing days u.1 in
              (w.safe, subst FieldsIn (sym w.is) (filled_range (setting_at days) (setting_small days e) s.payoff s.standing.formed.fields), found_blocks s.standing days u.1)

          pub valued : {r : Result Millionths Refusal} → evaluating_answer r ≡ worth_in g.table p q (nat_of now) (payoff_at nat_of offset_of 32 after 0) 0 → Is r
          unfolding evaluate
          valued {r} a = record {
            answer = λ x s.
                let v = sym (set_is s days) ∙ u.0 in
                a ∙ ap₂ (λ n y. worth_in g.table p q n y 0) (month_known f now (and_e (is_month g.table now) (pair_ok p q) m).0).1 (found s days u.1).is ∙ rw (t, m, e, v) refl;
          }

-- ---- the call: a text that is read stands in the table
module _ (text : List ℕ) where
  module _ (nodes : List ℤ) (n : ℕ) (s : read.Stands payoff_form (text_as_read payoff_form text) nodes n) where
    abbrev was : PayoffRead text s.tree
    was = payoff_trees_lem text s.tree s.is

    standing : Standing nodes n was.payoff
    standing = record { formed = was.formed; counted = s.count ∙ ap count_of was.trees; lies = s.rows ∙ ap (rows payoff_form) was.trees }

    pub read_stands : Stands nodes n
    read_stands = record { payoff = was.payoff; standing = standing }

    -- nothing is to be filled where the text has no setting
    pub read_settled : opens text ≡ false → Settled n nodes
    read_settled e = plain_stands standing (ap opens (payoff_read text was.payoff was.is).1 ∙ e)

    pub evaluate_is : (g : Given) (p q now : ℤ) {r : Result Millionths Refusal} → EvaluateIs g p q now n nodes r → evaluating_answer r ≡ evaluate_call text g p q now
    unfolding evaluate_call
    evaluate_is g p q now h = h.answer was.payoff standing ∙ rw was.is refl

  pub evaluate_refuses : (g : Given) (p q now : ℤ) (k : Refusal) → text_as_read payoff_form text ≡ refused (number_of k) → evaluating_answer (Err k) ≡ evaluate_call text g p q now
  unfolding evaluate_call read_payoff
  evaluate_refuses g p q now k e = rw e refl
