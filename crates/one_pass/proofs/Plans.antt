-- A plan that is read and keeps every rule, from its parts, letter by letter.
use Prim.Native.Nat.{◌%◌, ◌*◌, ◌+◌, ◌-◌, ◌/◌, ◌<◌, ◌≤◌, max, min, ℕ}
use lib.IntN.{◌-ℤ◌, pos, ℤ}
use lib.ListN.{drop, length}
use mathlib.Core.Bool.{Bool, ◌&&◌, true}
use mathlib.Core.List.{List, [], ◌∷◌}
use mathlib.Core.Path.{◌∙◌, ◌≡◌, ap, refl, sym}
use mir.Facts.{to_z_pos}
use mir.Syntax.{w64}
use mir.Val.{to_z}
use native.Mathlib.Omega.{arith}
use Rattle.fields.proofs.FieldLaws.{read_none}
use Rattle.fields.specs.Fields.{ReadUpTo}
use Rattle.fields.specs.Positions.{up_to}
use Rattle.language.specs.Limits.{max_amount, max_months}
use Rattle.language.specs.Rules.Measures.{Latest, from, latest_of, latest_of_test, magnitude_of_amount}
use Rattle.language.specs.Rules.Settings.{all_are_set, delay_of, fill, map_plan}
use Rattle.language.specs.Rules.Table.{Table, setting_at}
use Rattle.language.specs.Rules.Tests.{amount_reads, amount_small, not_later, test_reads, test_is_small}
use Rattle.language.specs.Text.Classes.{a_number}
use Rattle.language.specs.Text.Letters.{PlanLetter, amount, amount_row, delay, letter_among, letter_in, of_root, party, plan_form, plan_row, root, row_of, test, test_row}
use Rattle.language.specs.Text.Plans.{plan_trees}
use Rattle.language.specs.Text.Trees.{Plan, both, later, nothing, scale, transfer, within}
use Rattle.measures.proofs.Joins.{within_joined}
use Rattle.measures.proofs.PlanReadings.{seen_later, seen_wait}
use Rattle.measures.proofs.SurePlans.{both_sure, later_sure, nearer_few, nothing_sure, scale_sure, transfer_sure, within_sure}
use Rattle.measures.specs.Magnitudes.{bound_in, joined, measured_amount}
use Rattle.measures.specs.Spans.{Seen}
use Rattle.measures.specs.Sure.{Sure}
use Rattle.measures.specs.Timing.{latest_month}
use Rattle.nodes.specs.Table.{nat_of}
use Rattle.one_pass.specs.Packed.{Joined, Kept, Packed, behind, magnitude_in, months_in}
use Rattle.one_pass.specs.Reads.{Here, Reads, Short}
use Rattle.one_pass.specs.Seen.{AmountSeen, DelaySeen, PlanSeen, TestSeen}
use Rattle.one_pass.proofs.Amounts.{bare_opened, here_opened}
use Rattle.one_pass.proofs.Reading.{Opened, child, opened, whole}

-- ---- a plan's number without its place

high_part : (r : ℕ) → r / 1024 / 1024 ≡ magnitude_in r
high_part r = omega arith

low_part : (r : ℕ) → r / 1024 % 1024 ≡ months_in r
low_part r = refl

kept_part : (r : ℕ) → Kept r → r / 1024 / 1024 ≤ max_amount
kept_part r k = omega (arith, k)

-- two magnitudes within the limit, joined
join : (op : ℕ → ℕ → ℕ) (x y r : ℕ) → Kept x → Kept y → Kept r → magnitude_in r ≡ op (magnitude_in x) (magnitude_in y) → r / 1024 / 1024 ≡ joined op (magnitude_in x) (y / 1024 / 1024)
join op x y r kx ky k e =
    let i : op (magnitude_in x) (magnitude_in y) ≤ max_amount = omega (arith, k, e) in
    high_part r ∙ e ∙ within_joined op (magnitude_in x) (magnitude_in y) kx ky i ∙ ap (λ n. joined op (magnitude_in x) n) (sym (high_part y))

module _ (text : List ℕ) (short : Short text) (left at : ℕ) (level : 0 < left) where
  module _ (low high : ℤ) (bounds : List ℤ) (need : ℕ) (days : List ℤ) where
    abbrev Is : ℕ → Type 0
    Is r = PlanSeen text left at low high bounds need days r

    -- ---- leaves

    -- a `Z` in front of a comma or at the text's end
    pub nothing_seen : {r m : ℕ} → at < length text → up_to 44 (drop at text) ≡ 90 ∷ [] → Kept r → Packed 0 m (at + 2) r → m ≤ max_months → high ≡ pos m → Is r
    unfolding letter_in letter_among row_of plan_row amount_row test_row plan_trees all_are_set map_plan
    nothing_seen {r} {m} inside alone k p b e =
        let n : r / 1024 ≡ m = omega (arith, p.magnitude, p.months) in
        record {
          plan = nothing;
          is = rw p.place (whole (opened text short left at level inside 90 alone (of_root PlanLetter.Z) refl root refl [] refl (read_none text (at + 2) (omega (arith, inside))) [] refl));
          set = refl;
          sure = λ t a z s. nothing_sure t a z (bound_in bounds) need (omega (arith, n, b)) (e ∙ ap pos (sym n)) (kept_part r k);
        }

    -- a penny from one party to another
    pub transfer_seen : {r m : ℕ} (p q : ℕ) → at < length text → up_to 44 (drop at text) ≡ 84 ∷ [] → ReadUpTo (party ∷ party ∷ []) text (at + 2) (a_number (pos p) ∷ a_number (pos q) ∷ []) (behind r)
        → Kept r → magnitude_in r ≡ 1 → months_in r ≡ m → m ≤ max_months → high ≡ pos m → need ≡ 0 → Is r
    unfolding letter_in letter_among row_of plan_row amount_row test_row plan_trees all_are_set map_plan
    transfer_seen {r} {m} p q inside alone f k em en b e ez = record {
      plan = transfer p q;
      is = whole (opened text short left at level inside 84 alone (of_root PlanLetter.T) refl root refl (party ∷ party ∷ []) refl f [] refl);
      set = refl;
      sure = λ t a z s. transfer_sure t a z (bound_in bounds) p q b e ez (omega (arith, em, en)) (kept_part r k);
    }

    -- ---- a plan times an amount

    pub scale_seen : {m w x r : ℕ} → Here text at 83 → AmountSeen text (left - 1) (at + 2) low high bounds m → w ≡ max need (months_in m)
        → PlanSeen text (left - 1) (behind m) low high bounds w days x → nat_of high ≤ max_months → Kept r → Joined ◌*◌ (λ a b. b) m x r → Is r
    unfolding letter_in letter_among row_of plan_row amount_row test_row plan_trees all_are_set map_plan
    scale_seen {m} {w} {x} {r} h n ew p bh k j =
        let e : magnitude_in m ≡ measured_amount (bound_in bounds) n.amount = rw n.small n.magnitude in
        record {
          plan = scale n.amount p.plan;
          is = rw j.packed.place (whole (child (child (bare_opened text short left at level h (λ e. omega arith) (of_root PlanLetter.S) refl root refl refl (amount ∷ root ∷ []) refl) n.is) p.is));
          set = p.set;
          sure = λ t a z s. scale_sure t a z (bound_in bounds) n.amount (fill (setting_at days) p.plan) bh n.latest (sym (n.reads t a z s)) refl e ew
              (λ i. p.sure t a z s) (join ◌*◌ m x r j.first j.second k j.packed.magnitude) j.packed.months (kept_part r k);
        }

    -- ---- a plan d months later

    module _ {d : ℕ} (w : DelaySeen text (at + 2) days d) where
      abbrev n : ℕ
      n = months_in d

      pub later_seen : {x y : ℤ} {k r : ℕ} → Here text at 76 → x ≡ low -ℤ pos n → y ≡ high -ℤ pos n → nat_of y ≤ max_months → k ≡ need - n
          → PlanSeen text (left - 1) (behind d) x y bounds k days r → Kept r → Is r
      unfolding letter_in letter_among row_of plan_row amount_row test_row plan_trees all_are_set map_plan
      later_seen {x} {y} {k} {r} h ex ey bh ek p kept = record {
        plan = later w.wait p.plan;
        is = whole (child (here_opened text short left at level h (λ e. omega arith) (of_root PlanLetter.L) refl root refl (delay ∷ []) refl w.is (root ∷ []) refl) p.is);
        set = rw w.set p.set;
        sure = λ t a z s. rw (← w.months) (later_sure t a z (bound_in bounds) w.few bh refl ey (fill (setting_at days) p.plan) ek
            (λ i. p.sure t (a + n) (z + n) (seen_later s refl ex ey)) (kept_part r kept));
      }

      pub within_seen : {x y : ℤ} {c u v r : ℕ} {b : Bool} → Here text at 87 → x ≡ low -ℤ pos n → y ≡ high -ℤ pos n → nat_of y ≤ max_months
          → TestSeen text (left - 1) (behind d) low y bounds c → ((q : Latest) → months_in c ≡ latest_month q → b ≡ not_later q (from 0)) → b ≡ true
          → PlanSeen text (left - 1) (behind c) low y bounds need days u → PlanSeen text (left - 1) (behind u) x y bounds need days v → Kept r → Joined max min u v r → Is r
      unfolding letter_in letter_among row_of plan_row amount_row test_row plan_trees all_are_set map_plan
      within_seen {x} {y} {c} {u} {v} {r} {b} h ex ey bh q eb tb p o k j =
          let e : r / 1024 / 1024 ≡ max (u / 1024 / 1024) (v / 1024 / 1024) = omega (arith, j.packed.magnitude) in
          record {
            plan = within w.wait q.test p.plan o.plan;
            is = rw j.packed.place (whole (child (child (child (here_opened text short left at level h (λ e. omega arith) (of_root PlanLetter.W) refl root refl (delay ∷ []) refl w.is (test ∷ root ∷ root ∷ []) refl) q.is) p.is) o.is));
            set = rw (w.set, p.set) o.set;
            sure = λ t a z s.
                let m = seen_wait s refl ey in
                rw (← w.months) (within_sure t a z (bound_in bounds) w.few bh refl ey q.test (fill (setting_at days) p.plan) (fill (setting_at days) o.plan) q.latest
                (sym (q.reads t a (z + n) m)) refl (sym q.small) refl eb tb (λ i. p.sure t a (z + n) m) (λ i. o.sure t (a + n) (z + n) (seen_later s refl ex ey)) e j.packed.months (kept_part r k));
          }

    -- ---- two plans at once

    pub both_seen : {x y r : ℕ} → Here text at 66 → PlanSeen text (left - 1) (at + 2) low high bounds need days x → PlanSeen text (left - 1) (behind x) low high bounds need days y
        → nat_of high ≤ max_months → Kept r → Joined ◌+◌ min x y r → Is r
    unfolding letter_in letter_among row_of plan_row amount_row test_row plan_trees all_are_set map_plan
    both_seen {x} {y} {r} h p q bh k j =
        let e : r / 1024 / 1024 ≡ joined ◌+◌ (x / 1024 / 1024) (y / 1024 / 1024) = join ◌+◌ x y r j.first j.second k j.packed.magnitude ∙ ap (λ m. joined ◌+◌ m (y / 1024 / 1024)) (sym (high_part x)) in
        record {
          plan = both p.plan q.plan;
          is = rw j.packed.place (whole (child (child (bare_opened text short left at level h (λ e. omega arith) (of_root PlanLetter.B) refl root refl refl (root ∷ root ∷ []) refl) p.is) q.is));
          set = rw p.set q.set;
          sure = λ t a z s. both_sure t a z (bound_in bounds) (fill (setting_at days) p.plan) (fill (setting_at days) q.plan) bh (λ i. p.sure t a z s) (λ i. q.sure t a z s) e j.packed.months (kept_part r k);
        }

-- ---- months that the code takes from an offset

pub as_month : {n m : ℕ} → n ≡ m → m ≤ max_months → to_z w64 n ≡ pos m
as_month e b = to_z_pos w64 (omega (arith, e, b)) ∙ ap pos e

pub moved : (x : ℤ) {n m : ℕ} {y : ℤ} → y ≡ x -ℤ to_z w64 n → n ≡ m → m ≤ max_months → y ≡ x -ℤ pos m
moved x ey en b = ey ∙ ap (λ d. x -ℤ d) (as_month en b)

-- no more months are left then
pub few_then : (x : ℤ) (m : ℕ) {y : ℤ} → nat_of x ≤ max_months → y ≡ x -ℤ pos m → nat_of y ≤ max_months
few_then x m h e = nearer_few x {n = m} h refl e
