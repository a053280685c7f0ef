-- Targets of one slot are taken as single values, and one target is assigned as by an assignment.
use Rattle.std.proofs.Common.{◌≡◌, ℕ, zero, suc, Bool, true, false, cond, List, [], ◌∷◌, map, refl, sym, ap, ◌∙◌, Option, Some, None, Result, Ok, Err, inl, inr}
use Rattle.std.specs.Prelude.{filter, IsTrue}
use Rattle.gm_value.specs.declared.values.Value.{Value}
use Rattle.gm_value.specs.declared.values.Value.TheVariants.{Flag}
use Rattle.gm_value.specs.declared.faults.FaultKind.{FaultKind}
use Rattle.gm_value.specs.declared.reductions.Reduce.{Reduce}
use Rattle.gm_value.specs.Bag.{IsIn}
use Rattle.gm_value.specs.Reductions.{close}
use Rattle.gm_value.specs.Taking.{of_rank, then_take, at_rank, taken_bag, taken}
use Rattle.gm_value.specs.Tuples.{first_or, with_value}
use Rattle.gm_ast.specs.declared.tree.Target.{Target}
use Rattle.gm_ast.specs.Program.{Expr}
use Rattle.gm_semantics.specs.declared.faults.Fault.{Fault}
use Rattle.gm_semantics.specs.declared.slots.Slot.{Slot}
use Rattle.gm_semantics.specs.Stores.{Store, slots_eq, has_slot, read, reads}
use Rattle.gm_semantics.specs.Faults.{first, then_with, unless_fault}
use Rattle.gm_semantics.specs.Expressions.{View, Answer, evaluated, evaluated_all}
use Rattle.gm_semantics.specs.Contributions.{Contribution, statement_of, to_target, target_of, close_by, statement_bound, taken_onto, values_or, fault_in, target_taken, value_among, value_after, target_fault}
use Rattle.gm_semantics.specs.Singles.{value_of, IsOne, HaveOneValue, IsTarget, ok_value, close_one, taken_one, value_or, listed}
use Rattle.gm_semantics.specs.Iterations.{slot_of, assigned, assigned_all, alone}
use Rattle.gm_semantics.proofs.ContributionLaws.{IsIn-filter, slot_eq-refl, slots_eq-true, has_first}

-- the value of a contribution with one value is its first
first-one : (held : Value) (vs : List Value) → IsOne vs → first_or held vs ≡ first_or (Flag false) vs
first-one held [] one = absurd one
first-one held (v ∷ vs) one = refl

firsts-one : (held : Value) (cs : List Contribution) → HaveOneValue cs → map (first_or held) (map (λ (c : Contribution). c.values) cs) ≡ map value_of cs
firsts-one held [] each = refl
firsts-one held (c ∷ cs) each = ap (λ v. v ∷ map (first_or held) (map (λ (c : Contribution). c.values) cs)) (first-one held c.values each.0) ∙ ap (λ vs. value_of c ∷ vs) (firsts-one held cs each.1)

-- some of them have one value too
chosen-one : (b : Bool) (c : Contribution) (cs : List Contribution) → IsOne c.values → HaveOneValue cs → HaveOneValue (cond b (c ∷ cs) cs)
chosen-one true c cs one each = (one, each)
chosen-one false c cs one each = each

filter-one : (p : Contribution → Bool) (cs : List Contribution) → HaveOneValue cs → HaveOneValue (filter p cs)
filter-one p [] each = tt
filter-one p (c ∷ cs) each = chosen-one (p c) c (filter p cs) each.0 (filter-one p cs each.1)

-- a bag closes a list of one slot as it closes the slot
bag-one : (s : ℕ) (r : Result Value FaultKind) → at_rank s (with_value r (Some [])) ≡ listed (at_rank s (ok_value r))
bag-one s (Ok v) = refl
bag-one s (Err k) = refl

taken_bag-one : (r : Reduce) (s : ℕ) (held : Value) (bag : List Contribution) → HaveOneValue bag → taken_bag (close_by r) s (held ∷ []) bag ≡ listed (taken_bag (close_one r) s held bag)
taken_bag-one r s held [] each = refl
taken_bag-one r s held (c ∷ bag) each =
    ap (λ vs. at_rank s (with_value (close r held vs) (Some []))) (firsts-one held (c ∷ bag) each) ∙ bag-one s (close r held (map value_of (c ∷ bag)))

then-listed : (e : Result Value ℕ) (f : List Value → Result (List Value) ℕ) (g : Value → Result Value ℕ) → ((v : Value) → f (v ∷ []) ≡ listed (g v)) → then_take (listed e) f ≡ listed (then_take e g)
then-listed (Ok v) f g same = same v
then-listed (Err s) f g same = refl

taken-one : (r : Reduce) (n : ℕ) (held : Value) (cs : List Contribution) → HaveOneValue cs → taken statement_of (close_by r) n (held ∷ []) cs ≡ listed (taken statement_of (close_one r) n held cs)
taken-one r zero held cs each = refl
taken-one r (suc n) held cs each =
    ap (λ e. then_take e (λ vs. taken_bag (close_by r) n vs (of_rank statement_of n cs))) (taken-one r n held cs each)
    ∙ then-listed (taken statement_of (close_one r) n held cs) (λ vs. taken_bag (close_by r) n vs (of_rank statement_of n cs)) (λ v. taken_bag (close_one r) n v (of_rank statement_of n cs))
    (λ v. taken_bag-one r n v (of_rank statement_of n cs) (filter-one _ cs each))

-- contributions to one slot are taken as single values
pub taken_onto-one : (held : Value) (cs : List Contribution) → HaveOneValue cs → taken_onto (held ∷ []) cs ≡ listed (taken_one held cs)
taken_onto-one held [] each = refl
taken_onto-one held (c ∷ cs) each = taken-one c.reduce (statement_bound (c ∷ cs)) held (c ∷ cs) each

-- with the same fault
pub fault_in-one : (cs : List Contribution) (answer : Result Value ℕ) → fault_in cs (listed answer) ≡ fault_in cs answer
fault_in-one cs (Ok v) = refl
fault_in-one cs (Err s) = refl

-- the target of a slot that is one by itself
pub target_of-one : (slot : Slot) (cs : List Contribution) → IsTarget slot cs → target_of slot cs ≡ slot ∷ []
target_of-one slot [] is = refl
target_of-one slot (c ∷ cs) is = by (has_slot slot c.slots) refl (target_of-one slot cs (λ d i. is d (inr i)))
  where
    by : (b : Bool) → has_slot slot c.slots ≡ b → target_of slot cs ≡ slot ∷ [] → cond b c.slots (target_of slot cs) ≡ slot ∷ []
    by true e rest = (is c (inl refl) e).0
    by false e rest = rest

-- contributions to it have one value
all-one : (cs : List Contribution) → ((c : Contribution) → IsIn c cs → IsOne c.values) → HaveOneValue cs
all-one [] each = tt
all-one (c ∷ cs) each = (each c (inl refl), all-one cs (λ d i. each d (inr i)))

has_itself : (slot : Slot) (slots : List Slot) → slots_eq (slot ∷ []) slots ≡ true → IsTrue (has_slot slot slots)
has_itself slot slots h = ap (has_slot slot) (sym (slots_eq-true (slot ∷ []) slots h)) ∙ has_first slot []

pub target-one_value : (slot : Slot) (cs : List Contribution) → IsTarget slot cs → HaveOneValue (to_target (slot ∷ []) cs)
target-one_value slot cs is =
    all-one (to_target (slot ∷ []) cs)
    (λ c i.
    let p = IsIn-filter (λ (c : Contribution). slots_eq (slot ∷ []) c.slots) c cs i in
    (is c p.0 (has_itself slot c.slots p.1)).1)

-- such a slot holds what a taking of single values gives
among-one : (slot : Slot) (held : Value) (answer : Result Value ℕ) → value_among slot (slot ∷ []) (values_or (held ∷ []) (listed answer)) held ≡ value_or held answer
among-one slot held (Ok v) = ap (λ b. cond b v held) (slot_eq-refl slot)
among-one slot held (Err s) = ap (λ b. cond b held held) (slot_eq-refl slot)

pub value_after-one : (s : Store) (cs : List Contribution) (slot : Slot) → IsTarget slot cs →
    value_after s cs slot ≡ value_or (read s slot) (taken_one (read s slot) (to_target (slot ∷ []) cs))
value_after-one s cs slot is =
    ap (λ slots. value_among slot slots (values_or (reads s slots) (target_taken s cs slots)) (read s slot)) (target_of-one slot cs is)
    ∙ ap (λ answer. value_among slot (slot ∷ []) (values_or (read s slot ∷ []) answer) (read s slot)) (taken_onto-one (read s slot) (to_target (slot ∷ []) cs) (target-one_value slot cs is))
    ∙ among-one slot (read s slot) (taken_one (read s slot) (to_target (slot ∷ []) cs))

-- and its totals have the fault of that taking
pub target_fault-one : (s : Store) (cs : List Contribution) (slot : Slot) → IsTarget slot cs →
    target_fault s cs (slot ∷ []) ≡ fault_in (to_target (slot ∷ []) cs) (taken_one (read s slot) (to_target (slot ∷ []) cs))
target_fault-one s cs slot is =
    ap (fault_in (to_target (slot ∷ []) cs)) (taken_onto-one (read s slot) (to_target (slot ∷ []) cs) (target-one_value slot cs is))
    ∙ fault_in-one (to_target (slot ∷ []) cs) (taken_one (read s slot) (to_target (slot ∷ []) cs))

-- one target is assigned as by an assignment
parts-alone : (o : Option Fault) (r : Result Slot Fault) (a : Answer) →
    unless_fault (first o None) (then_with (then_with r (λ s. Ok (s ∷ []))) (λ ss. then_with (then_with a (λ x. Ok (x ∷ []))) (λ xs. Ok (ss, xs))))
    ≡ alone (unless_fault o (then_with r (λ s. then_with a (λ x. Ok (s, x)))))
parts-alone (Some f) r a = refl
parts-alone None (Err f) a = refl
parts-alone None (Ok s) (Err f) = refl
parts-alone None (Ok s) (Ok x) = refl

pub assigned-alone : (w : View) (t : Target) (e : Expr) → assigned_all w (t ∷ []) (evaluated_all (e ∷ []) w) ≡ alone (assigned w t (evaluated e w))
assigned-alone w t e = parts-alone (evaluated e w).hoisted (slot_of w t) (evaluated e w).rest
