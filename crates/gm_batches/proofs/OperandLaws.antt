-- The values of an expression in each of some views, from those of its operands.
use Rattle.std.proofs.Common.{◌≡◌, ◌∙◌, ◌+◌, ◌⊎◌, inl, inr, ℕ, suc, Bool, true, false, List, [], ◌∷◌, Option, Some, None, refl, ap, sym, map, length, drop, get_or, if◌then◌else◌, arith}
use Rattle.std.specs.Prelude.{Result, Ok, Err}
use Rattle.std.proofs.lemmas.Option.{none-some, same_Some}
use Rattle.gm_value.specs.declared.values.Value.{Value}
use Rattle.gm_value.specs.declared.values.Value.TheVariants.{Flag}
use Rattle.gm_value.specs.declared.faults.FaultKind.{FaultKind}
use Rattle.gm_value.specs.declared.operations.Op1.{Op1}
use Rattle.gm_value.specs.declared.operations.Op2.{Op2}
use Rattle.gm_value.specs.Operations.{is_true, result1, result2}
use Rattle.gm_image.specs.Term.{Term, Const, Unary, Binary, And, Or, Choose}
use Rattle.gm_kernels.specs.Pointwise.{before, given, applied1, applied2, count_of, held, left_out, merged}
use Rattle.gm_machine.specs.declared.faults.Fault.{Fault}
use Rattle.gm_machine.specs.Faults.{then_go, at_place}
use Rattle.gm_machine.specs.Expressions.{View, value, place_of, unary_value, binary_value}
use Rattle.gm_batches.specs.ValuesIn.{unless_fault, values_in}

-- a value before others, taken apart
before-cons : (o : Option Value) (more : Option (List Value)) (x : Value) (xs : List Value) → before o more ≡ Some (x ∷ xs) → (o ≡ Some x) × (more ≡ Some xs)
before-cons None more x xs e = absurd (none-some (x ∷ xs) e)
before-cons (Some v) None x xs e = absurd (none-some (x ∷ xs) e)
before-cons (Some v) (Some vs) x xs e =
    let same = same_Some (v ∷ vs) (x ∷ xs) e in
    (ap (λ l. Some (get_or l 0 x)) same, ap (λ l. Some (drop 1 l)) same)

before-nil : (o : Option Value) (more : Option (List Value)) → before o more ≡ Some [] → ⊥
before-nil None more e = none-some [] e
before-nil (Some v) None e = none-some [] e
before-nil (Some v) (Some vs) e = let same = same_Some (v ∷ vs) [] e in omega (arith, ap length same)

before-none : (o : Option Value) (more : Option (List Value)) → before o more ≡ None → (o ≡ None) ⊎ (more ≡ None)
before-none None more e = inl refl
before-none (Some v) None e = inr refl
before-none (Some v) (Some vs) e = absurd (none-some (v ∷ vs) (sym e))

before-right : (o : Option Value) → before o None ≡ None
before-right None = refl
before-right (Some v) = refl

no-fault : (r : Result Value Fault) (v : Value) → unless_fault r ≡ Some v → r ≡ Ok v
no-fault (Ok w) v e = ap (λ x. Ok x) (same_Some w v e)
no-fault (Err f) v e = absurd (none-some v e)

at-given : (p : ℕ) (r : Result Value FaultKind) → unless_fault (at_place p r) ≡ given r
at-given p (Ok v) = refl
at-given p (Err k) = refl

unary-row : (op : Op1) (p : ℕ) (r : Result Value Fault) (x : Value) → unless_fault r ≡ Some x → unless_fault (unary_value op p r) ≡ given (result1 op x)
unary-row op p r x e = ap (λ q. unless_fault (unary_value op p q)) (no-fault r x e) ∙ at-given p (result1 op x)

binary-row : (op : Op2) (p : ℕ) (r s : Result Value Fault) (x y : Value) → unless_fault r ≡ Some x → unless_fault s ≡ Some y
    → unless_fault (binary_value op p r s) ≡ given (result2 op x y)
binary-row op p r s x y e f = (λ i. unless_fault (binary_value op p (no-fault r x e i) (no-fault s y f i))) ∙ at-given p (result2 op x y)

-- an operation on one operand
pub unary_in : (op : Op1) (place : Option ℕ) (a : Term) (ws : List View) (xs : List Value) → values_in ws a ≡ Some xs → values_in ws (Unary op place a) ≡ applied1 op xs
unary_in op place a [] xs e = ap (applied1 op) (same_Some [] xs e)
unary_in op place a (w ∷ ws) [] e = absurd (before-nil (unless_fault (value w a)) (values_in ws a) e)
unary_in op place a (w ∷ ws) (x ∷ xs) e =
    let parts = before-cons (unless_fault (value w a)) (values_in ws a) x xs e in
    λ i. before (unary-row op (place_of place) (value w a) x parts.0 i) (unary_in op place a ws xs parts.1 i)

-- an operation on two
pub binary_in : (op : Op2) (place : Option ℕ) (a b : Term) (ws : List View) (xs ys : List Value) → values_in ws a ≡ Some xs → values_in ws b ≡ Some ys
    → values_in ws (Binary op place a b) ≡ applied2 op xs ys
binary_in op place a b [] xs ys e f = λ i. applied2 op (same_Some [] xs e i) (same_Some [] ys f i)
binary_in op place a b (w ∷ ws) [] ys e f = absurd (before-nil (unless_fault (value w a)) (values_in ws a) e)
binary_in op place a b (w ∷ ws) (x ∷ xs) [] e f = absurd (before-nil (unless_fault (value w b)) (values_in ws b) f)
binary_in op place a b (w ∷ ws) (x ∷ xs) (y ∷ ys) e f =
    let left = before-cons (unless_fault (value w a)) (values_in ws a) x xs e in
    let right = before-cons (unless_fault (value w b)) (values_in ws b) y ys f in
    λ i. before (binary-row op (place_of place) (value w a) (value w b) x y left.0 right.0 i) (binary_in op place a b ws xs ys left.1 right.1 i)

-- where an expression faults in a view another one does too
strict : (e f : Term) → ((w : View) → unless_fault (value w e) ≡ None → unless_fault (value w f) ≡ None) → (ws : List View) → values_in ws e ≡ None → values_in ws f ≡ None
strict e f faults [] none = absurd (none-some [] (sym none))
strict e f faults (w ∷ ws) none = elim (before-none (unless_fault (value w e)) (values_in ws e) none) [
  | inl here ↦ ap (λ o. before o (values_in ws f)) (faults w here)
  | inr there ↦ ap (before (unless_fault (value w f))) (strict e f faults ws there) ∙ before-right (unless_fault (value w f))
]

fault-first : (go : Value → Result Value Fault) (r : Result Value Fault) → unless_fault r ≡ None → unless_fault (then_go r go) ≡ None
fault-first go (Ok v) e = absurd (none-some v (sym e))
fault-first go (Err f) e = refl

fault-second : (go : Value → Value → Result Value Fault) (r s : Result Value Fault) → unless_fault s ≡ None → unless_fault (then_go r (λ x. then_go s (go x))) ≡ None
fault-second go (Ok v) s e = fault-first (go v) s e
fault-second go (Err f) s e = refl

-- an operand that faults in a view
pub unary_faults : (op : Op1) (place : Option ℕ) (a : Term) (ws : List View) → values_in ws a ≡ None → values_in ws (Unary op place a) ≡ None
unary_faults op place a ws none = strict a (Unary op place a) (λ w e. fault-first _ (value w a) e) ws none

pub left_faults : (op : Op2) (place : Option ℕ) (a b : Term) (ws : List View) → values_in ws a ≡ None → values_in ws (Binary op place a b) ≡ None
left_faults op place a b ws none = strict a (Binary op place a b) (λ w e. fault-first _ (value w a) e) ws none

pub right_faults : (op : Op2) (place : Option ℕ) (a b : Term) (ws : List View) → values_in ws b ≡ None → values_in ws (Binary op place a b) ≡ None
right_faults op place a b ws none = strict b (Binary op place a b) (λ w e. fault-second _ (value w a) (value w b) e) ws none

pub guard_faults : (c a b : Term) (ws : List View) → values_in ws c ≡ None → values_in ws (Choose c a b) ≡ None
guard_faults c a b ws none = strict c (Choose c a b) (λ w e. fault-first _ (value w c) e) ws none

pub and_faults : (a b : Term) (ws : List View) → values_in ws a ≡ None → values_in ws (And a b) ≡ None
and_faults a b ws none = strict a (And a b) (λ w e. fault-first _ (value w a) e) ws none

pub or_faults : (a b : Term) (ws : List View) → values_in ws a ≡ None → values_in ws (Or a b) ≡ None
or_faults a b ws none = strict a (Or a b) (λ w e. fault-first _ (value w a) e) ws none

-- there is a value for each view
pub rows_of_values : (e : Term) (ws : List View) (xs : List Value) → values_in ws e ≡ Some xs → length xs ≡ length ws
rows_of_values e [] xs is = sym (ap length (same_Some [] xs is))
rows_of_values e (w ∷ ws) [] is = absurd (before-nil (unless_fault (value w e)) (values_in ws e) is)
rows_of_values e (w ∷ ws) (x ∷ xs) is =
    let parts = before-cons (unless_fault (value w e)) (values_in ws e) x xs is in
    ap suc (rows_of_values e ws xs parts.1)

-- the values of both parts, put together, where there are both
abbrev pub joined : List Bool → Option (List Value) → Option (List Value) → Option (List Value)
joined cs (Some xs) (Some ys) = Some (merged cs xs ys)
joined cs (Some xs) None = None
joined cs None more = None

pub joined-right : (cs : List Bool) (xs : Option (List Value)) → joined cs xs None ≡ None
joined-right cs (Some xs) = refl
joined-right cs None = refl

joined-true : (cs : List Bool) (o : Option Value) (xs ys : Option (List Value)) → before o (joined cs xs ys) ≡ joined (true ∷ cs) (before o xs) ys
joined-true cs None xs ys = refl
joined-true cs (Some v) None ys = refl
joined-true cs (Some v) (Some xs) None = refl
joined-true cs (Some v) (Some xs) (Some ys) = refl

joined-false : (cs : List Bool) (o : Option Value) (xs ys : Option (List Value)) → before o (joined cs xs ys) ≡ joined (false ∷ cs) xs (before o ys)
joined-false cs o None ys = before-right o
joined-false cs None (Some xs) ys = refl
joined-false cs (Some v) (Some xs) None = refl
joined-false cs (Some v) (Some xs) (Some ys) = refl

choose-row : (c : Bool) (q r s : Result Value Fault) → unless_fault q ≡ Some (Flag c)
    → then_go q (λ t. if is_true t then r else s) ≡ (if c then r else s)
choose-row true q r s d = ap (λ t. then_go t (λ t. if is_true t then r else s)) (no-fault q (Flag true) d)
choose-row false q r s d = ap (λ t. then_go t (λ t. if is_true t then r else s)) (no-fault q (Flag false) d)

no-truths : (c : Bool) (cs : List Bool) → [] ≡ map (λ b. Flag b) (c ∷ cs) → ⊥
no-truths c cs e = omega (arith, ap length e)

-- a choice is one operand in the rows whose flag holds, put together with the other in the others
pub choose_in : {X : Type 0} (f : X → View) (c a b : Term) (rs : List X) (cs : List Bool)
    → values_in (map f rs) c ≡ Some (map (λ b. Flag b) cs)
    → values_in (map f rs) (Choose c a b) ≡ joined cs (values_in (map f (held cs rs)) a) (values_in (map f (left_out cs rs)) b)
choose_in f c a b [] [] d = refl
choose_in f c a b [] (t ∷ ts) d = absurd (no-truths t ts (same_Some [] (map (λ b. Flag b) (t ∷ ts)) d))
choose_in f c a b (r ∷ rs) [] d = absurd (before-nil (unless_fault (value (f r) c)) (values_in (map f rs) c) d)
choose_in f c a b (r ∷ rs) (true ∷ cs) d =
    let parts = before-cons (unless_fault (value (f r) c)) (values_in (map f rs) c) (Flag true) (map (λ b. Flag b) cs) d in
    let row : value (f r) (Choose c a b) ≡ value (f r) a = choose-row true (value (f r) c) (value (f r) a) (value (f r) b) parts.0 in
    (λ i. before (unless_fault (row i)) (choose_in f c a b rs cs parts.1 i))
    ∙ joined-true cs (unless_fault (value (f r) a)) (values_in (map f (held cs rs)) a) (values_in (map f (left_out cs rs)) b)
choose_in f c a b (r ∷ rs) (false ∷ cs) d =
    let parts = before-cons (unless_fault (value (f r) c)) (values_in (map f rs) c) (Flag false) (map (λ b. Flag b) cs) d in
    let row : value (f r) (Choose c a b) ≡ value (f r) b = choose-row false (value (f r) c) (value (f r) a) (value (f r) b) parts.0 in
    (λ i. before (unless_fault (row i)) (choose_in f c a b rs cs parts.1 i))
    ∙ joined-false cs (unless_fault (value (f r) b)) (values_in (map f (held cs rs)) a) (values_in (map f (left_out cs rs)) b)

-- both, and one of two, are choices
and-row : (c : Bool) (q s : Result Value Fault) → unless_fault q ≡ Some (Flag c)
    → then_go q (λ t. if is_true t then s else Ok t) ≡ then_go q (λ t. if is_true t then s else Ok (Flag false))
and-row true q s d = let is = no-fault q (Flag true) d in ap (λ t. then_go t (λ t. if is_true t then s else Ok t)) is ∙ sym (ap (λ t. then_go t (λ t. if is_true t then s else Ok (Flag false))) is)
and-row false q s d = let is = no-fault q (Flag false) d in ap (λ t. then_go t (λ t. if is_true t then s else Ok t)) is ∙ sym (ap (λ t. then_go t (λ t. if is_true t then s else Ok (Flag false))) is)

or-row : (c : Bool) (q s : Result Value Fault) → unless_fault q ≡ Some (Flag c)
    → then_go q (λ t. if is_true t then Ok t else s) ≡ then_go q (λ t. if is_true t then Ok (Flag true) else s)
or-row true q s d = let is = no-fault q (Flag true) d in ap (λ t. then_go t (λ t. if is_true t then Ok t else s)) is ∙ sym (ap (λ t. then_go t (λ t. if is_true t then Ok (Flag true) else s)) is)
or-row false q s d = let is = no-fault q (Flag false) d in ap (λ t. then_go t (λ t. if is_true t then Ok t else s)) is ∙ sym (ap (λ t. then_go t (λ t. if is_true t then Ok (Flag true) else s)) is)

pub and_in : (a b : Term) (ws : List View) (cs : List Bool) → values_in ws a ≡ Some (map (λ b. Flag b) cs) → values_in ws (And a b) ≡ values_in ws (Choose a b (Const (Flag false)))
and_in a b [] cs d = refl
and_in a b (w ∷ ws) [] d = absurd (before-nil (unless_fault (value w a)) (values_in ws a) d)
and_in a b (w ∷ ws) (c ∷ cs) d =
    let parts = before-cons (unless_fault (value w a)) (values_in ws a) (Flag c) (map (λ b. Flag b) cs) d in
    λ i. before (unless_fault (and-row c (value w a) (value w b) parts.0 i)) (and_in a b ws cs parts.1 i)

pub or_in : (a b : Term) (ws : List View) (cs : List Bool) → values_in ws a ≡ Some (map (λ b. Flag b) cs) → values_in ws (Or a b) ≡ values_in ws (Choose a (Const (Flag true)) b)
or_in a b [] cs d = refl
or_in a b (w ∷ ws) [] d = absurd (before-nil (unless_fault (value w a)) (values_in ws a) d)
or_in a b (w ∷ ws) (c ∷ cs) d =
    let parts = before-cons (unless_fault (value w a)) (values_in ws a) (Flag c) (map (λ b. Flag b) cs) d in
    λ i. before (unless_fault (or-row c (value w a) (value w b) parts.0 i)) (or_in a b ws cs parts.1 i)

-- how many flags hold
pub length_held : {X : Type 0} (cs : List Bool) (xs : List X) → length xs ≡ length cs → length (held cs xs) ≡ count_of cs
length_held [] xs e = refl
length_held (c ∷ cs) [] e = absurd (omega (arith, e))
length_held (true ∷ cs) (x ∷ xs) e = ap suc (length_held cs xs (omega (arith, e)))
length_held (false ∷ cs) (x ∷ xs) e = length_held cs xs (omega (arith, e))

pub length_left : {X : Type 0} (cs : List Bool) (xs : List X) → length xs ≡ length cs → count_of cs + length (left_out cs xs) ≡ length cs
length_left [] xs e = omega arith
length_left (c ∷ cs) [] e = absurd (omega (arith, e))
length_left (true ∷ cs) (x ∷ xs) e = omega (arith, length_left cs xs (omega (arith, e)))
length_left (false ∷ cs) (x ∷ xs) e = omega (arith, length_left cs xs (omega (arith, e)))
