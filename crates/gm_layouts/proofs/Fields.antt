-- Marks say which properties are named.
use Rattle.std.proofs.Common.{◌≡◌, ◌<◌, ◌≤◌, ℕ, zero, suc, Bool, true, false, List, [], ◌∷◌, ◌++◌, length, Option, Some, None, refl, ap, ◌∙◌, sym, subst, arith}
use Rattle.std.specs.Prelude.{◌+◌, ◌&&◌, ◌||◌, nat_eq, nat_lt}
use Rattle.std.specs.List.{list_any, slice_set}
use Rattle.gm_ast.specs.declared.tree.Declaration.{Declaration}
use Rattle.gm_ast.specs.declared.tree.Tree.{Tree}
use Rattle.gm_ast.specs.declared.tree.Variable.{Variable}
use Rattle.gm_ast.specs.declared.tree.Sort.TheVariants as Sorts
use Rattle.gm_ast.specs.Names.{is}
use Rattle.gm_ast.specs.Tree.{program_of, stmt_of}
use Rattle.gm_ast.specs.declared.tree.Domain.{Domain}
use Rattle.gm_ast.specs.declared.tree.Domain.TheVariants.{Nodes, OutNbrs, InNbrs, UpNbrs, DownNbrs}
use Rattle.gm_ast.specs.declared.tree.Head.{Head}
use Rattle.gm_ast.specs.declared.tree.Search.{Search}
use Rattle.gm_ast.specs.declared.tree.Target.{Target}
use Rattle.gm_ast.specs.declared.tree.Target.TheVariants as T
use Rattle.gm_ast.specs.Program.{Expr, Const, Var, Property, EdgeProperty, Degree, NodeCount, EdgeCount, Live, Unary, Binary, Both, Either, Choose, Folded, Stmt, Skip, Then, Declare, DeclareEdge, Assign, Defer, Combine, Group, Foreach, For, If, While, Do, InBfs, InBfsBoth, Return}
use Rattle.gm_forms.specs.Uses.{Use, uses_in, uses_in_option, uses_in_all, uses_of_target, uses_of_targets, uses_of_declared, uses_of_search, uses_of_head, uses_of, use_as, owner_role}
use Rattle.gm_lowering.specs.Layouts.{names_property}
use Rattle.gm_layouts.specs.Named.{marked, set_at, none_of, mark_at, names_in, names_in_option, names_in_all, names_of_target, names_of_targets, names_of}
use Rattle.gm_layouts.specs.Tables.{rows_from}
use Rattle.gm_layouts.specs.Tests.{has_field, field_of}

or-false : (b : Bool) → b ≡ b || false
or-false true = refl
or-false false = refl

or-true : (b : Bool) → true ≡ b || true
or-true true = refl
or-true false = refl

or-assoc : (a b c : Bool) → (a || b) || c ≡ a || (b || c)
or-assoc true b c = refl
or-assoc false b c = refl

and-false : (b : Bool) → false ≡ b && false
and-false true = refl
and-false false = refl

and-true : (b : Bool) → b ≡ b && true
and-true true = refl
and-true false = refl

length-set : (bs : List Bool) (i : ℕ) → length (set_at bs i) ≡ length bs
length-set [] i = refl
length-set (b ∷ bs) zero = refl
length-set (b ∷ bs) (suc i) = ap suc (length-set bs i)

zero-eq : (x : ℕ) → nat_eq 0 (suc x) ≡ false
zero-eq x = grind (arith)

eq-zero : (x : ℕ) → nat_eq (suc x) 0 ≡ false
eq-zero x = grind (arith)

eq-suc : (i x : ℕ) → nat_eq (suc i) (suc x) ≡ nat_eq i x
eq-suc i x = grind (arith)

mark-set : (bs : List Bool) (i x : ℕ) → x < length bs → mark_at (set_at bs i) x ≡ mark_at bs x || nat_eq i x
mark-set [] i x lt = absurd (omega arith)
mark-set (b ∷ bs) zero zero lt = or-true b
mark-set (b ∷ bs) zero (suc x) lt = or-false (mark_at bs x) ∙ ap (λ c. mark_at bs x || c) (sym (zero-eq x))
mark-set (b ∷ bs) (suc i) zero lt = or-false b ∙ ap (λ c. b || c) (sym (eq-zero i))
mark-set (b ∷ bs) (suc i) (suc x) lt = mark-set bs i x (omega arith) ∙ ap (λ c. mark_at bs x || c) (sym (eq-suc i x))

-- whether a number is among some
abbrev among : ℕ → List ℕ → Bool
among x [] = false
among x (y ∷ ys) = nat_eq y x || among x ys

among-both : (x : ℕ) (xs ys : List ℕ) → among x (xs ++ ys) ≡ among x xs || among x ys
among-both x [] ys = refl
among-both x (y ∷ xs) ys = ap (λ b. nat_eq y x || b) (among-both x xs ys) ∙ sym (or-assoc (nat_eq y x) (among x xs) (among x ys))

any-both : (x : ℕ) (us vs : List Use) → list_any (names_property x) (us ++ vs) ≡ list_any (names_property x) us || list_any (names_property x) vs
any-both x [] vs = refl
any-both x (u ∷ us) vs =
    ap (λ b. names_property x u || b) (any-both x us vs) ∙ sym (or-assoc (names_property x u) (list_any (names_property x) us) (list_any (names_property x) vs))

-- a mark after some names
mark-is : (bs : List Bool) (xs : List ℕ) (x : ℕ) → x < length bs → mark_at (marked bs xs) x ≡ mark_at bs x || among x xs
mark-is bs [] x lt = or-false (mark_at bs x)
mark-is bs (y ∷ ys) x lt =
    mark-is (set_at bs y) ys x (subst (λ n. x < n) (sym (length-set bs y)) lt)
    ∙ ap (λ c. c || among x ys) (mark-set bs y x lt)
    ∙ or-assoc (mark_at bs x) (nat_eq y x) (among x ys)

pub set_is : (bs : List Bool) (i : ℕ) → set_at bs i ≡ slice_set bs i true
set_is [] i = refl
set_is (b ∷ bs) zero = refl
set_is (b ∷ bs) (suc i) = ap (λ z. b ∷ z) (set_is bs i)

pub set_past : (bs : List Bool) (i : ℕ) → length bs ≤ i → set_at bs i ≡ bs
set_past [] i h = refl
set_past (b ∷ bs) zero h = absurd (omega arith)
set_past (b ∷ bs) (suc i) h = ap (λ z. b ∷ z) (set_past bs i (omega arith))

abbrev Agree : ℕ → List Use → List ℕ → Type 0
Agree x us ns = list_any (names_property x) us ≡ among x ns

agree-both : (x : ℕ) (us vs : List Use) (ms ns : List ℕ) → Agree x us ms → Agree x vs ns → Agree x (us ++ vs) (ms ++ ns)
agree-both x us vs ms ns h k = any-both x us vs ∙ ap (λ b. b || list_any (names_property x) vs) h ∙ ap (λ b. among x ms || b) k ∙ sym (among-both x ms ns)

unnamed : (x : ℕ) (d : Domain) (y : ℕ) (us : List Use) → list_any (names_property x) (use_as (owner_role d) y ++ us) ≡ list_any (names_property x) us
unnamed x Nodes y us = ap (λ b. b || list_any (names_property x) us) (sym (and-false (nat_eq y x)))
unnamed x OutNbrs y us = ap (λ b. b || list_any (names_property x) us) (sym (and-false (nat_eq y x)))
unnamed x InNbrs y us = ap (λ b. b || list_any (names_property x) us) (sym (and-false (nat_eq y x)))
unnamed x UpNbrs y us = ap (λ b. b || list_any (names_property x) us) (sym (and-false (nat_eq y x)))
unnamed x DownNbrs y us = ap (λ b. b || list_any (names_property x) us) (sym (and-false (nat_eq y x)))

-- a use that names no property, before others
passed : (x y : ℕ) (b : Bool) → b ≡ (nat_eq y x && false) || b
passed x y b = ap (λ c. c || b) (and-false (nat_eq y x))

named : (x p : ℕ) (b : Bool) → (nat_eq p x && true) || b ≡ nat_eq p x || b
named x p b = ap (λ c. c || b) (sym (and-true (nat_eq p x)))

agree-head : (x : ℕ) (h : Head) (us : List Use) (ns : List ℕ) → Agree x us ns → Agree x (uses_of_head h ++ us) ns
agree-head x h us ns e = sym (passed x h.iterator _) ∙ unnamed x h.domain h.owner us ∙ e

agree-in : (x : ℕ) (e : Expr) → Agree x (uses_in e) (names_in e)
agree-in x (Const v) = refl
agree-in x (Var y at) = sym (passed x y false)
agree-in x (Property y p at) = sym (passed x y _) ∙ named x p false
agree-in x (EdgeProperty y p at) = sym (passed x y _) ∙ sym (passed x p false)
agree-in x (Degree d y at) = sym (passed x y false)
agree-in x NodeCount = refl
agree-in x EdgeCount = refl
agree-in x (Live y at) = sym (passed x y false)
agree-in x (Unary op at e) = agree-in x e
agree-in x (Binary op at a b) = agree-both x (uses_in a) (uses_in b) (names_in a) (names_in b) (agree-in x a) (agree-in x b)
agree-in x (Both a b) = agree-both x (uses_in a) (uses_in b) (names_in a) (names_in b) (agree-in x a) (agree-in x b)
agree-in x (Either a b) = agree-both x (uses_in a) (uses_in b) (names_in a) (names_in b) (agree-in x a) (agree-in x b)
agree-in x (Choose c a b) =
    agree-both x (uses_in c) (uses_in a ++ uses_in b) (names_in c) (names_in a ++ names_in b) (agree-in x c)
    (agree-both x (uses_in a) (uses_in b) (names_in a) (names_in b) (agree-in x a) (agree-in x b))
agree-in x (Folded f h test e) =
    agree-head x h (uses_in test ++ uses_in e) (names_in test ++ names_in e) (agree-both x (uses_in test) (uses_in e) (names_in test) (names_in e) (agree-in x test) (agree-in x e))

agree-option : (x : ℕ) (e : Option Expr) → Agree x (uses_in_option e) (names_in_option e)
agree-option x None = refl
agree-option x (Some e) = agree-in x e

agree-all : (x : ℕ) (es : List Expr) → Agree x (uses_in_all es) (names_in_all es)
agree-all x [] = refl
agree-all x (e ∷ es) = agree-both x (uses_in e) (uses_in_all es) (names_in e) (names_in_all es) (agree-in x e) (agree-all x es)

agree-target : (x : ℕ) (t : Target) → Agree x (uses_of_target t) (names_of_target t)
agree-target x (T.Scalar y at) = sym (passed x y false)
agree-target x (T.Property y p at) = sym (passed x y _) ∙ named x p false

agree-targets : (x : ℕ) (ts : List Target) → Agree x (uses_of_targets ts) (names_of_targets ts)
agree-targets x [] = refl
agree-targets x (t ∷ ts) = agree-both x (uses_of_target t) (uses_of_targets ts) (names_of_target t) (names_of_targets ts) (agree-target x t) (agree-targets x ts)

agree-declared : (x y : ℕ) (e : Option Expr) → Agree x (uses_of_declared y e) (names_in_option e)
agree-declared x y None = sym (passed x y false)
agree-declared x y (Some e) = sym (passed x y _) ∙ agree-in x e

agree-search : (x : ℕ) (s : Search) (us : List Use) (ns : List ℕ) → Agree x us ns → Agree x (uses_of_search s ++ us) ns
agree-search x s us ns e = sym (passed x s.iterator _) ∙ sym (passed x s.graph _) ∙ sym (passed x s.root _) ∙ e

agree-of : (x : ℕ) (s : Stmt) → Agree x (uses_of s) (names_of s)
agree-of x Skip = refl
agree-of x (Then a b) = agree-both x (uses_of a) (uses_of b) (names_of a) (names_of b) (agree-of x a) (agree-of x b)
agree-of x (Declare k y e) = agree-declared x y e
agree-of x (DeclareEdge y z at) = sym (passed x y _) ∙ sym (passed x z false)
agree-of x (Assign k t e) = agree-both x (uses_of_target t) (uses_in e) (names_of_target t) (names_in e) (agree-target x t) (agree-in x e)
agree-of x (Defer k t e) = agree-both x (uses_of_target t) (uses_in e) (names_of_target t) (names_in e) (agree-target x t) (agree-in x e)
agree-of x (Combine k total r ts es) = agree-both x (uses_of_targets ts) (uses_in_all es) (names_of_targets ts) (names_in_all es) (agree-targets x ts) (agree-all x es)
agree-of x (Group k at g p e) = sym (passed x g _) ∙ named x p _ ∙ ap (λ b. nat_eq p x || b) (agree-in x e)
agree-of x (Foreach k at h test body) =
    agree-head x h (uses_in test ++ uses_of body) (names_in test ++ names_of body) (agree-both x (uses_in test) (uses_of body) (names_in test) (names_of body) (agree-in x test) (agree-of x body))
agree-of x (For k at h test body) =
    agree-head x h (uses_in test ++ uses_of body) (names_in test ++ names_of body) (agree-both x (uses_in test) (uses_of body) (names_in test) (names_of body) (agree-in x test) (agree-of x body))
agree-of x (If k c a b) =
    agree-both x (uses_in c) (uses_of a ++ uses_of b) (names_in c) (names_of a ++ names_of b) (agree-in x c)
    (agree-both x (uses_of a) (uses_of b) (names_of a) (names_of b) (agree-of x a) (agree-of x b))
agree-of x (While k at c body) = agree-both x (uses_in c) (uses_of body) (names_in c) (names_of body) (agree-in x c) (agree-of x body)
agree-of x (Do k at body c) = agree-both x (uses_of body) (uses_in c) (names_of body) (names_in c) (agree-of x body) (agree-in x c)
agree-of x (InBfs k at s test body) =
    agree-search x s (uses_in test ++ uses_of body) (names_in test ++ names_of body) (agree-both x (uses_in test) (uses_of body) (names_in test) (names_of body) (agree-in x test) (agree-of x body))
agree-of x (InBfsBoth k at s test body bk bt back) =
    agree-search x s (uses_in test ++ (uses_of body ++ (uses_in bt ++ uses_of back))) (names_in test ++ (names_of body ++ (names_in bt ++ names_of back)))
    (agree-both x (uses_in test) (uses_of body ++ (uses_in bt ++ uses_of back)) (names_in test) (names_of body ++ (names_in bt ++ names_of back)) (agree-in x test)
    (agree-both x (uses_of body) (uses_in bt ++ uses_of back) (names_of body) (names_in bt ++ names_of back) (agree-of x body)
    (agree-both x (uses_in bt) (uses_of back) (names_in bt) (names_of back) (agree-in x bt) (agree-of x back))))
agree-of x (Return k at e) = agree-option x e

length-none : (ds : List Declaration) → length (none_of ds) ≡ length ds
length-none [] = refl
length-none (d ∷ ds) = ap suc (length-none ds)

mark-none : (ds : List Declaration) (x : ℕ) → mark_at (none_of ds) x ≡ false
mark-none [] x = refl
mark-none (d ∷ ds) zero = refl
mark-none (d ∷ ds) (suc x) = mark-none ds x

-- rows are the same where the tests are
rows-same : (f g : ℕ → Variable → Bool) (k : ℕ) (ds : List Declaration) → ((i : ℕ) → i < length ds → (v : Variable) → f (k + i) v ≡ g (k + i) v) → rows_from f k ds ≡ rows_from g k ds
rows-same f g k [] same = refl
rows-same f g k (d ∷ ds) same =
    let here : f k d.variable ≡ g k d.variable = subst (λ z. f z d.variable ≡ g z d.variable) (let e : k + 0 ≡ k = omega arith in e) (same 0 (omega arith) d.variable) in
    let there = rows-same f g (suc k) ds (λ i lt v. subst (λ z. f z v ≡ g z v) (let e : k + suc i ≡ suc k + i = omega arith in e) (same (suc i) (omega arith) v)) in
    ap (λ b. record { vtype = d.variable.vtype; is_held = b } ∷ rows_from f (suc k) ds) here ∙ ap (λ rs. record { vtype = d.variable.vtype; is_held = g k d.variable } ∷ rs) there

pub fields_are : (t : Tree) → rows_from (has_field (marked (none_of t.declarations.items) (names_of (stmt_of t.body))) (t.inputs + t.outputs)) 0 t.declarations.items ≡ rows_from (field_of (program_of t)) 0 t.declarations.items
fields_are t =
    let body = stmt_of t.body in
    let ds = t.declarations.items in
    let f : ℕ → Variable → Bool = has_field (marked (none_of ds) (names_of body)) (t.inputs + t.outputs) in
    let g : ℕ → Variable → Bool = field_of (program_of t) in
    rows-same f g 0 ds (λ i lt v.
    let at : mark_at (marked (none_of ds) (names_of body)) i ≡ list_any (names_property i) (uses_of body) =
    mark-is (none_of ds) (names_of body) i (subst (λ n. i < n) (sym (length-none ds)) lt) ∙ ap (λ b. b || among i (names_of body)) (mark-none ds i) ∙ sym (agree-of i body) in
    let e : 0 + i ≡ i = omega arith in
    subst (λ z. f z v ≡ g z v) (sym e) (ap (λ b. is Sorts.NodeProperty v && (nat_lt i (t.inputs + t.outputs) || b)) at))
