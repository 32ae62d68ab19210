-- The values of fields that were read.
use Prim.Native.Nat.{◌+◌, ◌-◌, ◌<◌, ◌≤◌, suc, ℕ}
use lib.IntN.{nat_abs, neg_ℤ, pos, ℤ}
use lib.ListN.{drop, get_or, length}
use mathlib.Core.List.{List, [], ◌∷◌}
use mathlib.Core.Option.{Option, none, some}
use mathlib.Core.Path.{◌∙◌, ◌≡◌, ap, refl, subst, sym}
use native.Mathlib.Omega.{arith}
use Rattle.fields.proofs.FieldLaws.{read_more, read_none}
use Rattle.fields.specs.Fields.{ReadUpTo, Taken, first_as, slot_at}
use Rattle.fields.specs.Positions.{fields_from}
use Rattle.language.specs.Answer.{Answer, got, refused}
use Rattle.language.specs.Limits.{max_amount, max_back, max_labels, max_months, max_party}
use Rattle.language.specs.Text.Classes.{Field, a_delay, a_month, a_number, as_delay, as_number, field_of, ranged, read_setting}
use Rattle.language.specs.Text.Letters.{Class, delay, divisor, figure, from_node, label, party}
use Rattle.language.specs.Text.Number.{read_number}
use Rattle.language.specs.Text.Reader.{Read, formed, give, read_fields, then_read}
use Rattle.language.specs.Text.Trees.{Delay, months, setting}
use Rattle.nodes.specs.Rows.{delay_slot, field_slots, slots_of}

-- ---- numbers

-- a class whose fields are numbers
abbrev pub Numeric : Class → Type 0
Numeric c = (f : List ℕ) (v : Field) → field_of c f ≡ some v → (z : ℤ) → field_slots v ≡ z ∷ [] → v ≡ a_number z

as_number_lem : (o : Option ℤ) (v : Field) → as_number o ≡ some v → (z : ℤ) → field_slots v ≡ z ∷ [] → v ≡ a_number z
unfolding field_slots
as_number_lem none v e z s = let q : ◌≡◌ {A = ℕ} 0 1 = cc in absurd (omega arith)
as_number_lem (some w) v e z s =
    let q : a_number w ≡ v = cc in
    let t : w ∷ [] ≡ z ∷ [] = ap field_slots q ∙ s in
    let u : w ≡ z = cc in
    sym q ∙ ap a_number u

pub label_numeric : Numeric label
unfolding field_of
label_numeric f v e z s = as_number_lem (ranged (pos 0) (pos (max_labels - 1)) (read_number f)) v e z s

pub offset_numeric : Numeric from_node
unfolding field_of
offset_numeric f v e z s = as_number_lem (ranged (neg_ℤ (pos max_back)) (pos max_months) (read_number f)) v e z s

pub party_numeric : Numeric party
unfolding field_of
party_numeric f v e z s = as_number_lem (ranged (pos 1) (pos max_party) (read_number f)) v e z s

pub figure_numeric : Numeric figure
unfolding field_of
figure_numeric f v e z s = as_number_lem (ranged (neg_ℤ (pos max_amount)) (pos max_amount) (read_number f)) v e z s

pub divisor_numeric : Numeric divisor
unfolding field_of
divisor_numeric f v e z s = as_number_lem (ranged (pos 1) (pos max_amount) (read_number f)) v e z s

module _ {text : List ℕ} {at next : ℕ} {z : ℤ} {c : Class} (n : Numeric c) (t : Taken c text at (z ∷ []) next) where
  number_taken : t.field ≡ a_number z
  number_taken = go (fields_from text at) t.is
    where
      go : (fs : List (List ℕ)) → first_as c fs ≡ some t.field → t.field ≡ a_number z
      go [] e = let q : ◌≡◌ {A = ℕ} 0 1 = cc in absurd (omega arith)
      go (f ∷ fs) e = n f t.field e z t.slot

  -- a number, and others behind it
  pub number_more : {cs : List Class} {vs : List Field} {end : ℕ} → ReadUpTo cs text next vs end → ReadUpTo (c ∷ cs) text at (a_number z ∷ vs) end
  number_more {cs} {vs} {end} r = subst (λ v. ReadUpTo (c ∷ cs) text at (v ∷ vs) end) number_taken (read_more text at c cs (z ∷ []) next t vs end r)

  pub number_alone : ReadUpTo (c ∷ []) text at (a_number z ∷ []) next
  number_alone = number_more (read_none text next t.within)

-- ---- delays

as_delay_lem : (s : Option ℕ) (o : Option ℤ) (v : Field) → as_delay s o ≡ some v → (a : ℤ) → get_or (field_slots v) 0 (pos 0) ≡ a
    → (A : Type 0) → ((wait : Delay) → v ≡ a_delay wait → delay_slot wait ≡ a → A) → A
unfolding field_slots
as_delay_lem (some k) o v e a q A f = let r : a_delay (setting k) ≡ v = cc in f (setting k) (sym r) (ap (λ v. get_or (field_slots v) 0 (pos 0)) r ∙ q)
as_delay_lem none none v e a q A f = let z : ◌≡◌ {A = ℕ} 0 1 = cc in absurd (omega arith)
as_delay_lem none (some w) v e a q A f = let r : a_delay (months (nat_abs w)) ≡ v = cc in f (months (nat_abs w)) (sym r) (ap (λ v. get_or (field_slots v) 0 (pos 0)) r ∙ q)

first_slot : (v : Field) → slot_at (v ∷ []) 0 ≡ get_or (field_slots v) 0 (pos 0)
unfolding slots_of field_slots
first_slot (a_number z) = refl
first_slot (a_delay d) = refl
first_slot (a_month m) = refl

abbrev values : Answer (Read (List Field)) → List Field
values (refused n) = []
values (got r) = r.value

-- a delay that was read: what it is
pub record Delayed (text : List ℕ) (at : ℕ) (a : ℤ) (next : ℕ) : Type 0 where
  pub wait : Delay
  pub is : ReadUpTo (delay ∷ []) text at (a_delay wait ∷ []) next
  pub slot : delay_slot wait ≡ a

pub delayed : {text : List ℕ} {at next : ℕ} {a : ℤ} {vs : List Field} → ReadUpTo (delay ∷ []) text at vs next → slot_at vs 0 ≡ a → Delayed text at a next
unfolding read_fields slots_of field_of
delayed {text} {at} {next} {a} {vs} r e = go (fields_from text at) (r.is 0)
  where
    made : (wait : Delay) → vs ≡ a_delay wait ∷ [] → delay_slot wait ≡ a → Delayed text at a next
    made wait q s = record { wait = wait; is = subst (λ ws. ReadUpTo (delay ∷ []) text at ws next) q r; slot = s }

    by : (f : List ℕ) (fs : List (List ℕ)) (o : Option Field) → as_delay (read_setting f) (ranged (pos 0) (pos max_months) (read_number f)) ≡ o
        → then_read (formed o (record { nodes = 0; fields = fs })) (λ v s. then_read (read_fields [] s) (λ ws. give (v ∷ ws)))
        ≡ got (record { value = vs; rest = record { nodes = 0; fields = fields_from text next } }) → Delayed text at a next
    by f fs none q h = let z : ◌≡◌ {A = ℕ} 0 1 = cc in absurd (omega arith)
    by f fs (some v) q h =
        let w : v ∷ [] ≡ vs = ap values h in
        as_delay_lem (read_setting f) (ranged (pos 0) (pos max_months) (read_number f)) v q a (sym (first_slot v) ∙ ap (λ ws. slot_at ws 0) w ∙ e) (Delayed text at a next) (λ wait p s. made wait (sym w ∙ ap (λ x. x ∷ []) p) s)

    go : (fs : List (List ℕ)) → read_fields (delay ∷ []) (record { nodes = 0; fields = fs }) ≡ got (record { value = vs; rest = record { nodes = 0; fields = fields_from text next } }) → Delayed text at a next
    go [] h = let z : ◌≡◌ {A = ℕ} 0 1 = cc in absurd (omega arith)
    go (f ∷ fs) h = by f fs _ refl h
