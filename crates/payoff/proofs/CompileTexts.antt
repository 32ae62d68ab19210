-- The call compile: a text that is read is compiled in its table, and the payoff's rows are written.
use Prim.Native.Nat.{◌*◌, ◌≤◌, ℕ}
use lib.IntN.{pos, ℤ}
use lib.ListN.{drop, length, length-append, take-append-drop}
use mathlib.Core.List.{List, ◌++◌}
use mathlib.Core.Path.{◌∙◌, ◌≡◌, ap, refl, sym}
use native.Mathlib.Nat.{zero-add}
use native.Mathlib.Omega.{arith}
use Rattle.compiles.specs.Ready.{Ready}
use Rattle.copies.proofs.PlainWritten.{plain_written}
use Rattle.copies.specs.Appended.{Appended}
use Rattle.copies.specs.Plain.{plain_rows}
use Rattle.language.proofs.OneText.{texts}
use Rattle.language.proofs.Text.Compiled.{compiled_formed}
use Rattle.language.proofs.Text.Plans.{PlanRead, plan_trees_lem}
use Rattle.language.specs.Answer.{got, refused}
use Rattle.language.specs.Calls.{compile_call, compile_text, into_buffer}
use Rattle.language.specs.Limits.{max_nodes, payoff_bytes}
use Rattle.language.specs.Payoff.Compile.{compiled_plan}
use Rattle.language.specs.Text.Letters.{payoff_form, plan_form}
use Rattle.language.specs.Text.Plans.{payoff_trees, plan_trees, print_payoff, read_plan}
use Rattle.language.specs.Text.Reader.{end, text_as_read}
use Rattle.language.specs.Text.Trees.{start}
use Rattle.nodes.proofs.Counts.{plan_rows}
use Rattle.nodes.proofs.Laid.{rows_length}
use Rattle.nodes.specs.Rows.{count_of, rows, settings_slot}
use Rattle.payoff.specs.Answers.{writing_answer}
use Rattle.text.specs.ReadInto as read
use Rattle.text.specs.Refusals.{number_of}
use Rattle.text.specs.declared.Refusal.{Refusal}
use Rattle.writer.proofs.Payoffs.{payoff_says}
use Rattle.writer.specs.Answers.{write_call}
use Rattle.writer.specs.Written.{written}
use Rattle.std.specs.Prelude.{Err}

module _ (text : List ℕ) where
  module _ (nodes : List ℤ) (n : ℕ) (s : read.Stands plan_form (text_as_read plan_form text) nodes n) where
    abbrev was : PlanRead text s.tree
    was = plan_trees_lem text s.tree s.is

    counted : n ≡ count_of (plan_trees was.plan end)
    counted = s.count ∙ ap count_of was.trees

    pub few : n ≤ max_nodes
    few = omega (arith, counted, plan_rows was.plan was.formed)

    whole : nodes ≡ rows plan_form (plan_trees was.plan end) ++ drop (5 * n) nodes
    whole = sym (take-append-drop (5 * n) nodes) ∙ ap (λ x. x ++ drop (5 * n) nodes) (s.rows ∙ ap (rows plan_form) was.trees)

    -- the rows that were read lie in the table
    pub in_table : 5 * n ≤ length nodes
    in_table = omega (arith, ap length whole, length-append (rows plan_form (plan_trees was.plan end)) (drop (5 * n) nodes), rows_length plan_form (plan_trees was.plan end), counted)

    -- the plan can be compiled from its first row on
    pub ready : Ready (pos 0) (pos 0) nodes 0 n 32
    unfolding settings_slot
    ready = record {
      month = start;
      plain_is = refl;
      digits_are = refl;
      near = record { months = omega arith; settings = omega arith };
      plan = was.plan;
      lies = record { rest = drop (5 * n) nodes; is = whole; ends = counted ∙ sym (zero-add (count_of (plan_trees was.plan end))); room = few };
      fields = was.formed.fields;
      depth = was.formed.depth;
    }

    -- the first m rows of the table are now the payoff's
    module _ {out : List ℤ} {m : ℕ} (k : (z : Ready (pos 0) (pos 0) nodes 0 n 32) → Appended nodes out 0 m (plain_rows payoff_form (payoff_trees (compiled_plan z.month z.plan) end))) where
      is_written : written m out ≡ print_payoff (compiled_plan start was.plan)
      unfolding print_payoff ready
      is_written = plain_written payoff_form (payoff_trees (compiled_plan start was.plan) end) (k ready) (payoff_says (compiled_plan start was.plan) (compiled_formed was.plan was.formed).fields)

      pub is_short : length (written m out) ≤ payoff_bytes
      is_short = omega (arith, ap length is_written, texts.payoffs.short (compiled_plan start was.plan) (compiled_formed was.plan was.formed))

      pub compile_is : (buffer : List ℕ) → write_call m out buffer ≡ compile_call text buffer
      unfolding write_call compile_call compile_text
      compile_is buffer = ap (λ w. into_buffer buffer (got (record { value = tt; text = w }))) is_written ∙ rw was.is refl

  module _ (buffer : List ℕ) (k : Refusal) (e : text_as_read plan_form text ≡ refused (number_of k)) where
    pub kept : buffer ≡ (compile_call text buffer).buffer
    unfolding compile_call compile_text read_plan into_buffer
    kept = rw e refl

    pub refusal_is : writing_answer (Err k) ≡ (compile_call text buffer).answer
    unfolding compile_call compile_text read_plan into_buffer writing_answer
    refusal_is = rw e refl
