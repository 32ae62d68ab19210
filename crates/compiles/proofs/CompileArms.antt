-- What each way through a plan's compiling appends: the rows of the payoff.
use Prim.Native.Nat.{◌+◌, ◌-◌, ◌≤◌, ℕ}
use lib.IntN.{pos, ℤ}
use mathlib.Core.List.{List, [], ◌++◌, ◌∷◌}
use mathlib.Core.Path.{◌∙◌, ◌≡◌, ap, refl, sym}
use Rattle.compiles.proofs.Compiled.{amount_compiled, test_compiled}
use Rattle.compiles.proofs.CompileParts.{first_next, first_ready, held_next, held_ready, later_ready, missed_next, missed_ready, part, ready_kept, scale_fields, scale_next, scale_ready, scaled_lies, second_next, second_ready, tested_lies, transfer_row, within_fields, within_row}
use Rattle.compiles.specs.Months.{compiled_row, digits_later, plain_later}
use Rattle.compiles.specs.Ready.{Ready}
use Rattle.copies.proofs.Appending.{appended_as, appended_then, row_of_lem}
use Rattle.copies.proofs.PlanLetters.{Is}
use Rattle.copies.proofs.Shapes.{amount_shape, inner_rows, payoff_shape, plain_apart, test_shape}
use Rattle.copies.specs.Appended.{Appended}
use Rattle.copies.specs.Copied.{Copied}
use Rattle.copies.specs.Plain.{plain_last, plain_rows}
use Rattle.language.specs.Payoff.Compile.{compiled_plan, delayed, map_amount, map_test, offset}
use Rattle.language.specs.Text.Classes.{a_delay, a_month}
use Rattle.language.specs.Text.Letters.{PayoffLetter, of_root, payoff_form, payoff_row, row_of}
use Rattle.language.specs.Text.Plans.{Written, payoff_trees}
use Rattle.language.specs.Text.Reader.{end}
use Rattle.language.specs.Text.Trees.{Amount, Delay, Month, Plan, Test, await, both, later, leaf, nil, nothing, plus, scale, times, transfer, uncut, within}
use Rattle.language.specs.Text.Typed.{amount_tree, test_tree}
use Rattle.nodes.specs.Rows.{delay_from, delay_slot, field_slots, settings_slot, slots_of}
use Rattle.nodes.specs.Table.{link_at, slot_at}
use Rattle.nodes.specs.declared.PlanLetter.TheVariants as letter

-- ---- the plain rows of a payoff, from those of its parts

abbrev bare : ℕ → List ℤ
bare byte = pos byte ∷ pos 0 ∷ pos 0 ∷ pos 0 ∷ pos 0 ∷ []

abbrev payoff_rows : Written → List ℤ
payoff_rows x = plain_rows payoff_form (payoff_trees x end)

nil_rows : bare 90 ≡ payoff_rows nil
unfolding payoff_trees plain_rows plain_last row_of payoff_row slots_of
nil_rows = refl

leaf_rows : (m : Month) (p q : ℕ) → pos 70 ∷ m.plain ∷ pos (settings_slot m.settings) ∷ pos p ∷ pos q ∷ [] ≡ payoff_rows (leaf uncut m p q)
unfolding payoff_trees plain_rows plain_last row_of payoff_row slots_of field_slots
leaf_rows m p q = refl

times_rows : (a : Amount Month) (x : Written) → bare 83 ++ (plain_rows payoff_form (amount_tree a_month a end) ++ payoff_rows x) ≡ payoff_rows (times a x)
unfolding payoff_trees row_of payoff_row slots_of
times_rows a x =
    sym (inner_rows payoff_form (of_root PayoffLetter.S) [] (amount_tree a_month a (payoff_trees x end)) refl refl
    ∙ ap (λ rows. bare 83 ++ rows) (plain_apart (amount_shape a_month a) payoff_form (payoff_trees x end)))

plus_rows : (x y : Written) → bare 66 ++ (payoff_rows x ++ payoff_rows y) ≡ payoff_rows (plus x y)
unfolding payoff_trees row_of payoff_row slots_of
plus_rows x y =
    sym (inner_rows payoff_form (of_root PayoffLetter.B) [] (payoff_trees x (payoff_trees y end)) refl refl
    ∙ ap (λ rows. bare 66 ++ rows) (plain_apart (payoff_shape x) payoff_form (payoff_trees y end)))

abbrev waiting : Delay → List ℤ
waiting d = pos 87 ∷ delay_slot d ∷ pos 0 ∷ pos 0 ∷ pos 0 ∷ []

await_rows : (d : Delay) (t : Test Month) (x y : Written) → waiting d ++ (plain_rows payoff_form (test_tree a_month t end) ++ (payoff_rows x ++ payoff_rows y)) ≡ payoff_rows (await d t x y)
unfolding payoff_trees row_of payoff_row slots_of field_slots
await_rows d t x y =
    sym (inner_rows payoff_form (of_root PayoffLetter.W) (a_delay d ∷ []) (test_tree a_month t (payoff_trees x (payoff_trees y end))) refl refl
    ∙ ap (λ rows. waiting d ++ rows)
    (plain_apart (test_shape a_month t) payoff_form (payoff_trees x (payoff_trees y end))
    ∙ ap (λ rows. plain_rows payoff_form (test_tree a_month t end) ++ rows) (plain_apart (payoff_shape x) payoff_form (payoff_trees y end))))

-- ---- compiling's own cases

module _ (c : Month) where
  compile_nothing : compiled_plan c nothing ≡ nil
  unfolding compiled_plan
  compile_nothing = refl

  compile_transfer : (p q : ℕ) → compiled_plan c (transfer p q) ≡ leaf uncut c p q
  unfolding compiled_plan
  compile_transfer p q = refl

  compile_scale : (a : Amount ℤ) (x : Plan Delay) → compiled_plan c (scale a x) ≡ times (map_amount (offset c) a) (compiled_plan c x)
  unfolding compiled_plan
  compile_scale a x = refl

  compile_later : (d : Delay) (x : Plan Delay) → compiled_plan c (later d x) ≡ compiled_plan (delayed c d) x
  unfolding compiled_plan
  compile_later d x = refl

  compile_both : (x y : Plan Delay) → compiled_plan c (both x y) ≡ plus (compiled_plan c x) (compiled_plan c y)
  unfolding compiled_plan
  compile_both x y = refl

  compile_within : (d : Delay) (t : Test ℤ) (x y : Plan Delay) → compiled_plan c (within d t x y) ≡ await d (map_test (offset c) t) (compiled_plan c x) (compiled_plan c y)
  unfolding compiled_plan
  compile_within d t x y = refl

-- ---- the ways through the walk

module _ {plain digits : ℤ} {nodes : List ℤ} {at to left : ℕ} (y : Ready plain digits nodes at to left) where
  abbrev compiled : {p g : ℤ} {table : List ℤ} {from upto n : ℕ} → Ready p g table from upto n → List ℤ
  compiled z = payoff_rows (compiled_plan z.month z.plan)

  -- what was added, for a plan that is known
  known : {x : Plan Delay} {z : Written} {a b : List ℤ} {m n : ℕ} → y.plan ≡ x → compiled_plan y.month x ≡ z → Appended a b m n (payoff_rows z) → Appended a b m n (compiled y)
  known e s p = appended_as (ap payoff_rows (sym s) ∙ ap (λ x. payoff_rows (compiled_plan y.month x)) (sym e)) p

  module _ {b : List ℤ} {m n : ℕ} where
    pub nothing_arm : Is letter.Nothing y.plan → Appended nodes b m n (bare 90) → Appended nodes b m n (compiled y)
    nothing_arm i p = known i (compile_nothing y.month) (appended_as nil_rows p)

    pub transfer_arm : Is letter.Transfer y.plan → Appended nodes b m n (pos 70 ∷ plain ∷ digits ∷ slot_at nodes at 1 ∷ slot_at nodes at 2 ∷ []) → Appended nodes b m n (compiled y)
    transfer_arm i p =
        known i.2 (compile_transfer y.month i.0 i.1)
        (appended_as (row_of_lem refl y.plain_is y.digits_are (transfer_row y i).0 (transfer_row y i).1 ∙ leaf_rows y.month i.0 i.1) p)

    pub later_arm : Is letter.Later y.plan → {d p g : ℤ} → d ≡ slot_at nodes at 1 → p ≡ plain_later plain (delay_from d) → g ≡ digits_later digits (delay_from d)
        → ((z : Ready p g nodes (at + 1) to (left - 1)) → Appended nodes b m n (compiled z)) → Appended nodes b m n (compiled y)
    unfolding later_ready
    later_arm i e ep eg w = known i.2 (compile_later y.month i.0 i.1) (w (later_ready y i e ep eg))

  -- the first row is written, then the node's children one after another
  module _ {b c d : List ℤ} {k l m n : ℕ} {p : ℕ} (e : p ≡ link_at nodes at 3) (h : l ≤ at + 1) where
    pub scale_arm : Is letter.Scale y.plan → Appended nodes b k l (bare 83) → Copied (compiled_row plain digits) b c (at + 1) p l m
        → ((z : Ready plain digits c p to (left - 1)) → Appended c d m n (compiled z)) → Appended nodes d k n (compiled y)
    unfolding scale_next scale_ready part ready_kept
    scale_arm i u v w =
        known i.2 (compile_scale y.month i.0 i.1)
        (appended_as (times_rows (map_amount (offset y.month) i.0) (compiled_plan y.month i.1))
        (appended_then u (appended_then (appended_as (amount_compiled plain digits y.month y.plain_is y.digits_are i.0 (scale_fields y i).0 (scaled_lies y i e h u)) v.added) (w (scale_next y i e h u v)))))

    pub both_arm : Is letter.Both y.plan → Appended nodes b k l (bare 66) → m ≤ p → ((z : Ready plain digits b (at + 1) p (left - 1)) → Appended b c l m (compiled z))
        → ((z : Ready plain digits c p to (left - 1)) → Appended c d m n (compiled z)) → Appended nodes d k n (compiled y)
    unfolding first_next second_next first_ready second_ready part ready_kept
    both_arm i u s v w =
        let x = v (first_next y i e h u) in
        known i.2 (compile_both y.month i.0 i.1)
        (appended_as (plus_rows (compiled_plan y.month i.0) (compiled_plan y.month i.1)) (appended_then u (appended_then x (w (second_next y i e h u s x)))))

    pub within_arm : {q : ℕ} (eq : q ≡ link_at nodes at 4) {f : List ℤ} {o : ℕ} → Is letter.Within y.plan
        → Appended nodes b k l (slot_at nodes at 0 ∷ slot_at nodes at 1 ∷ slot_at nodes at 2 ∷ pos 0 ∷ pos 0 ∷ []) → Copied (compiled_row plain digits) b c (at + 1) p l m
        → n ≤ q → ((z : Ready plain digits c p q (left - 1)) → Appended c d m n (compiled z))
        → ((z : Ready plain digits d q to (left - 1)) → Appended d f n o (compiled z)) → Appended nodes f k o (compiled y)
    unfolding held_next missed_next held_ready missed_ready part ready_kept
    within_arm eq i u v s w z =
        let r = within_row y i in
        let x = w (held_next y i e eq h u v) in
        known i.4 (compile_within y.month i.0 i.1 i.2 i.3)
        (appended_as (await_rows i.0 (map_test (offset y.month) i.1) (compiled_plan y.month i.2) (compiled_plan y.month i.3))
        (appended_then (appended_as (row_of_lem r.0 r.1 r.2 refl refl) u)
        (appended_then (appended_as (test_compiled plain digits y.month y.plain_is y.digits_are i.1 (within_fields y i).1 (tested_lies y i e eq h u)) v.added)
        (appended_then x (z (missed_next y i e eq h u v s x))))))
