-- The rules of a filled plan in their order, as the code goes through them.
use Prim.Native.Nat.{◌%◌, ◌+◌, ◌/◌, ◌≤◌, ℕ}
use borrow.Author.Tests.{le-leb, lt-leb}
use lib.Dec.{T, leb}
use lib.IntN.{◌+ℤ◌, ◌-ℤ◌, nat_abs, negsuc, pos, ℤ}
use lib.ListN.{length}
use lib.Signed.{lt_z, non_neg}
use mathlib.Core.Bool.{Bool, false, true}
use mathlib.Core.List.{List, []}
use mathlib.Core.Path.{◌∙◌, ◌≡◌, ap₂, refl, sym}
use mir.Facts.{to_z-of_z, to_z_pos}
use mir.Syntax.{w64}
use mir.Val.{SFits, to_z}
use native.Mathlib.Omega.{arith}
use Rattle.integers.proofs.Laws.{nat_abs_sub, sfits64}
use Rattle.integers.proofs.Locals.{rd, small_fits}
use Rattle.integers.proofs.Solver.{◌⊕◌, ◌⊖◌, eq_in, lit, ring, var}
use Rattle.integers.proofs.Tests.{lt_false, lt_true}
use Rattle.integers.specs.Bounded.{Small}
use Rattle.integers.specs.declared.Month.{Month}
use Rattle.integers.specs.declared.Pence.{Pence}
use Rattle.language.specs.Answer.{Answer}
use Rattle.language.specs.Calls.{Checked, meets_rules}
use Rattle.language.specs.Limits.{max_amount, max_back, max_months}
use Rattle.language.specs.Rules.Measures.{length_of, magnitude_of}
use Rattle.language.specs.Rules.Table.{Table}
use Rattle.language.specs.Rules.Tests.{known_in_time, plan_reads, plan_small}
use Rattle.language.specs.Text.Trees.{Plan}
use Rattle.measures.proofs.PlanMagnitudes.{plan_within}
use Rattle.measures.proofs.SurePlans.{nearer_few}
use Rattle.measures.specs.Magnitudes.{bound_in, measured_plan}
use Rattle.measures.specs.Spans.{Near, Seen}
use Rattle.measures.specs.Sure.{Sure}
use Rattle.nodes.specs.Table.{nat_of}
use Rattle.rules.specs.Answers.{Natural, checking_answer}
use Rattle.rules.specs.Measured.{InTable, measured_by}
use Rattle.tables.specs.Given.{table_of}
use Rattle.tables.specs.declared.Span.{Span}
use Rattle.text.specs.declared.Refusal.TheVariants.{Length, Magnitude, NotInTime, Reads}
use Rattle.std.specs.Prelude.{Err, Ok}

-- a month that is not below zero
from_zero : (z : ℤ) → T (non_neg z) → z ≡ pos (nat_of z)
from_zero (pos n) h = refl
from_zero (negsuc n) h = absurd h

nat_of_least : (z : ℤ) {b : ℕ} → nat_abs z ≤ b → nat_of z ≤ b
nat_of_least (pos n) h = h
nat_of_least (negsuc n) h = omega arith

pub few_months : (today : ℤ) (s : Span) (bounds : List ℤ) → InTable today s.h s.f bounds → Small today
few_months today s bounds h = record { small = omega (arith, h.today_to) }

-- a number within the limit of amounts as a signed number
module _ {m : ℕ} (h : m ≤ max_amount) where
  pub plain_fits : SFits w64 (pos m)
  plain_fits = sfits64 max_amount h tt

  pub plain_read : to_z w64 m ≡ pos m
  plain_read = to_z_pos w64 (omega (arith, h))

-- ---- the offsets that can be read from today

module _ (today : ℤ) (s : Span) (bounds : List ℤ) (h : InTable today s.h s.f bounds) where
  back_size : nat_abs (pos 0 -ℤ s.h) ≤ max_back
  back_size = omega (arith, nat_abs_sub (pos 0) s.h, h.h_to)

  back_fits : SFits w64 s.h
  back_fits = small_fits (record { small = omega (arith, h.h_to) })

  back_small : Small (pos 0 -ℤ s.h)
  back_small = record { small = omega (arith, back_size) }

  ahead_small : Small s.f
  ahead_small = record { small = omega (arith, h.f_to) }

  pub start_fits : SFits w64 (pos 0 -ℤ rd s.h)
  start_fits = rw (to_z-of_z back_fits) (small_fits back_small)

  start_reads : rd (pos 0 -ℤ rd s.h) ≡ pos 0 -ℤ s.h
  start_reads = rw (to_z-of_z back_fits) (to_z-of_z (small_fits back_small))

  end_reads : rd s.f ≡ s.f
  end_reads = to_z-of_z (small_fits ahead_small)

  pub start_small : Small (rd (pos 0 -ℤ rd s.h))
  start_small = rw start_reads back_small

  pub end_small : Small (rd s.f)
  end_small = rw end_reads ahead_small

  module _ {low high : ℤ} (el : low ≡ rd (pos 0 -ℤ rd s.h) -ℤ today) (eh : high ≡ rd s.f -ℤ today) where
    pub near_today : Near 32 low high
    near_today = rw (el, eh, start_reads, end_reads) (record {
      low_room = omega (arith, nat_abs_sub (pos 0 -ℤ s.h) today, back_size, h.today_to);
      high_room = omega (arith, nat_abs_sub s.f today, h.f_to, h.today_to);
    })

    pub high_today : Small high
    high_today = record { small = omega (arith, near_today.high_room) }

    pub few_today : nat_of high ≤ max_months
    few_today = nearer_few (rd s.f) (rw end_reads (nat_of_least s.f h.f_to)) (from_zero today h.today_from) eh

    pub seen_today : Seen low high (length bounds) (table_of s.h s.f [] bounds []) (nat_of today) (nat_of today)
    seen_today =
        let e = from_zero today h.today_from in
        let w = ring ((lit 0 ⊖ var s.h) ⊖ lit (nat_of today)) (lit 0 ⊖ (var s.h ⊕ lit (nat_of today))) (omega arith) in
        record {
          order = omega arith;
          least = el ∙ ap₂ ◌-ℤ◌ start_reads e ∙ w;
          greatest = eh ∙ ap₂ ◌-ℤ◌ end_reads e;
          labelled = refl;
        }

module _ (today : ℤ) (s : Span) (bounds : List ℤ) (x : Plan ℕ) (h : InTable today s.h s.f bounds) where
  abbrev table : Table
  table = table_of s.h s.f [] bounds []

  abbrev answer : Answer Checked
  answer = measured_by s.h s.f bounds (nat_of today) x

  beyond_f : (l : ℤ) → l ≡ pos (length_of x) → lt_z s.f (today +ℤ l) ≡ true → leb (nat_of today + length_of x) (nat_abs s.f) ≡ false
  beyond_f l e c = go s.f h.f_from (rw (e, from_zero today h.today_from) at c)
    where
      go : (f : ℤ) → T (non_neg f) → lt_z f (pos (nat_of today) +ℤ pos (length_of x)) ≡ true → leb (nat_of today + length_of x) (nat_abs f) ≡ false
      go (pos n) p q = lt-leb (nat_of today + length_of x) n (omega (arith, lt_true (pos n) (pos (nat_of today + length_of x)) q))
      go (negsuc n) p q = absurd p

  within_f : (l : ℤ) → l ≡ pos (length_of x) → lt_z s.f (today +ℤ l) ≡ false → leb (nat_of today + length_of x) (nat_abs s.f) ≡ true
  within_f l e c = go s.f h.f_from (rw (e, from_zero today h.today_from) at c)
    where
      go : (f : ℤ) → T (non_neg f) → lt_z f (pos (nat_of today) +ℤ pos (length_of x)) ≡ false → leb (nat_of today + length_of x) (nat_abs f) ≡ true
      go (pos n) p q = le-leb (nat_of today + length_of x) n (omega (arith, lt_false (pos n) (pos (nat_of today + length_of x)) q))
      go (negsuc n) p q = absurd p

  -- a plan that keeps every rule, `high` months from the table's end; r is its number
  module _ {high : ℤ} {r : ℕ} (eh : high ≡ rd s.f -ℤ today) (k : Sure table (nat_of today) (nat_of today) (bound_in bounds) 0 high x r) where
    ended : leb (nat_of today + length_of x) (nat_abs s.f) ≡ true
    ended = le-leb (nat_of today + length_of x) (nat_abs s.f) (go s.f h.f_from (sym (eh ∙ ap₂ ◌-ℤ◌ (end_reads today s bounds h) (from_zero today h.today_from)) ∙ k.length))
      where
        go : (f : ℤ) → T (non_neg f) → f -ℤ pos (nat_of today) ≡ pos (length_of x + r % 1024) → nat_of today + length_of x ≤ nat_abs f
        go (pos n) p q = omega (arith, eq_in (lit n ⊖ lit (nat_of today)) (lit (length_of x + r % 1024)) q)
        go (negsuc n) p q = absurd p

    -- its length: high less the months left behind its end
    lasting : {l : ℤ} → l ≡ high -ℤ to_z w64 (r % 1024) → l ≡ pos (length_of x)
    lasting el =
        el ∙ ap₂ ◌-ℤ◌ k.length (plain_read {m = r % 1024} (omega arith))
        ∙ ring (lit (length_of x + r % 1024) ⊖ lit (r % 1024)) (lit (length_of x)) (omega arith)

    pub all_kept : (l : Month) → l.0 ≡ high -ℤ to_z w64 (r % 1024) → (p : Pence) → p.0 ≡ pos (r / 1024) → (checking_answer (Ok (record { length = l; magnitude = p })) ≡ answer) × Natural (Ok (record { length = l; magnitude = p }))
    unfolding checking_answer meets_rules
    all_kept l el p ep = rw (ended, k.reads, k.known, k.small) (rw (lasting el, ep, k.magnitude) (refl, (tt, tt)))

  pub too_long : (l : ℤ) → l ≡ pos (length_of x) → lt_z s.f (today +ℤ l) ≡ true → checking_answer (Err Length) ≡ answer
  unfolding checking_answer meets_rules
  too_long l e c = rw (beyond_f l e c) refl

  module _ (l : Month) (e : l.0 ≡ pos (length_of x)) (c : lt_z s.f (today +ℤ l.0) ≡ false) where
    pub unread : {b : Bool} → b ≡ plan_reads table (nat_of today) (nat_of today) x → b ≡ false → checking_answer (Err Reads) ≡ answer
    unfolding checking_answer meets_rules
    unread r q = rw (within_f l.0 e c, sym r ∙ q) refl

    module _ {b : Bool} (r : b ≡ plan_reads table (nat_of today) (nat_of today) x) (q : b ≡ true) where
      pub late : {k : Bool} → k ≡ known_in_time x → k ≡ false → checking_answer (Err NotInTime) ≡ answer
      unfolding checking_answer meets_rules
      late n o = rw (within_f l.0 e c, sym r ∙ q, sym n ∙ o) refl

      module _ {k : Bool} (n : k ≡ known_in_time x) (o : k ≡ true) where
        is_small : {m : ℕ} → m ≡ measured_plan (bound_in bounds) x → (v : Bool) → leb m max_amount ≡ v → plan_small (bound_in bounds) x ≡ v
        is_small d v w = sym (plan_within (bound_in bounds) x d) ∙ w

        pub accepted : {m : ℕ} → m ≡ measured_plan (bound_in bounds) x → leb m max_amount ≡ true → (p : Pence) → p.0 ≡ pos m → (checking_answer (Ok (record { length = l; magnitude = p })) ≡ answer) × Natural (Ok (record { length = l; magnitude = p }))
        unfolding checking_answer meets_rules
        accepted {m} d w p g =
            let y = is_small d true w in
            let z : m ≡ magnitude_of (bound_in bounds) x = rw y at d in
            rw (within_f l.0 e c, sym r ∙ q, sym n ∙ o, y) (rw (e, g, z) (refl, (tt, tt)))

        pub too_great : {m : ℕ} → m ≡ measured_plan (bound_in bounds) x → leb m max_amount ≡ false → checking_answer (Err Magnitude) ≡ answer
        unfolding checking_answer meets_rules
        too_great d w = rw (within_f l.0 e c, sym r ∙ q, sym n ∙ o, is_small d false w) refl
