-- The value of an expression's term is the expression's value.
use Rattle.std.proofs.Common.{◌≡◌, inl, inr, Bool, true, false, Option, Some, None, Result, Ok, Err, refl, ap, ◌∙◌, sym}
use Rattle.std.specs.Prelude.{if◌then◌else◌, ◌&&◌, length, pos}
use Rattle.std.proofs.lemmas.Bool.{both_ways}
use Rattle.gm_base.specs.declared.places.Place.{Place}
use Rattle.gm_value.specs.declared.values.Value.{Value}
use Rattle.gm_value.specs.declared.values.Value.TheVariants.{I32, At}
use Rattle.gm_value.specs.declared.faults.FaultKind.{FaultKind}
use Rattle.gm_value.specs.declared.operations.Op1.{Op1}
use Rattle.gm_value.specs.declared.operations.Op1.TheVariants.{Neg, Not, ToI32, ToI64}
use Rattle.gm_value.specs.declared.operations.Op2.{Op2}
use Rattle.gm_value.specs.declared.operations.Op2.TheVariants.{Add, Sub, Mul, Div, Rem, Eq, Ne, Lt, Le, Gt, Ge}
use Rattle.gm_value.specs.Operations.{is_true, result1, result2}
use Rattle.gm_ast.specs.Program as S
use Rattle.gm_ast.specs.Program.{Expr}
use Rattle.gm_forms.specs.Forms.{is_told}
use Rattle.gm_forms.proofs.Named.{both-true}
use Rattle.gm_forms.specs.Order.{can_fail1, can_fail2}
use Rattle.gm_semantics.specs.declared.faults.Fault.{Fault}
use Rattle.gm_semantics.specs.Faults.{first, then_with}
use Rattle.gm_semantics.specs.Expressions.{View, Answer, Evaluated, evaluated, value, settled, plain, early, located, at_node}
use Rattle.gm_machine.specs.declared.faults.Fault as M
use Rattle.gm_machine.specs.Faults.{then_go, at_place}
use Rattle.gm_machine.specs.Expressions.{View as VertexView, value as term_value, place_of, live}
use Rattle.gm_lowering.specs.Terms.{Env, place_if, term}
use Rattle.gm_lowering.specs.Showing.{answer_of, Tells, TermsHaveValues, LiveHasItsValue}

rest_either : (b : Bool) (a : Answer) → (if b then plain a else early a).rest ≡ a
rest_either true a = refl
rest_either false a = refl

pub then-same : {A B : Type 0} (v : Env) (r : Result A Fault) (t : Result A M.Fault) (f : A → Result B M.Fault) (g : A → Result B Fault)
    → t ≡ answer_of v r → ((x : A) → f x ≡ answer_of v (g x)) → then_go t f ≡ answer_of v (then_with r g)
then-same v (Ok a) t f g e h = ap (λ u. then_go u f) e ∙ h a
then-same v (Err x) t f g e h = ap (λ u. then_go u f) e

at-any : (v : Env) (w : View) (at : Place) (r : Result Value FaultKind) → at_place (v.place w.key at) r ≡ answer_of v (located w at r)
at-any v w at (Ok x) = refl
at-any v w at (Err k) = refl

at-one : (v : Env) (w : View) (at : Place) (op : Op1) (x : Value)
    → at_place (place_of (place_if (can_fail1 op) (v.place w.key at))) (result1 op x) ≡ answer_of v (located w at (result1 op x))
at-one v w at Neg x = at-any v w at (result1 Neg x)
at-one v w at Not x = refl
at-one v w at ToI32 x = at-any v w at (result1 ToI32 x)
at-one v w at ToI64 x = refl

at-two : (v : Env) (w : View) (at : Place) (op : Op2) (x y : Value)
    → at_place (place_of (place_if (can_fail2 op) (v.place w.key at))) (result2 op x y) ≡ answer_of v (located w at (result2 op x y))
at-two v w at Add x y = at-any v w at (result2 Add x y)
at-two v w at Sub x y = at-any v w at (result2 Sub x y)
at-two v w at Mul x y = at-any v w at (result2 Mul x y)
at-two v w at Div x y = at-any v w at (result2 Div x y)
at-two v w at Rem x y = at-any v w at (result2 Rem x y)
at-two v w at Eq x y = refl
at-two v w at Ne x y = refl
at-two v w at Lt x y = refl
at-two v w at Le x y = refl
at-two v w at Gt x y = refl
at-two v w at Ge x y = refl

if-same : {A : Type 0} (v : Env) (b : Bool) (t u : Result A M.Fault) (r q : Result A Fault) → t ≡ answer_of v r → u ≡ answer_of v q
    → (if b then t else u) ≡ answer_of v (if b then r else q)
if-same v true t u r q e h = e
if-same v false t u r q e h = h

-- the rest of an expression's value
pub rest-term : (v : Env) (w : View) (m : VertexView) (e : Expr) → Tells v w m e → term_value m (term v w.key e) ≡ answer_of v (evaluated e w).rest
rest-term v w m (S.Const c) t = refl
rest-term v w m (S.Var x at) t = t
rest-term v w m (S.Property x p at) t = t ∙ ap (answer_of v) (sym (rest_either w.parallel _))
rest-term v w m (S.EdgeProperty x p at) t = t
rest-term v w m (S.Degree d x at) t = t ∙ ap (answer_of v) (sym (rest_either w.parallel _))
rest-term v w m S.NodeCount t = ap (λ g. Ok (I32 (pos (length g.numbers)))) t
rest-term v w m S.EdgeCount t = ap (λ g. Ok (I32 (pos (length g.edges)))) t
rest-term v w m (S.Live x at) t =
    ap (λ u. then_go u (live (v.place w.key at))) t.0 ∙ t.1 ∙ ap (answer_of v) (sym (rest_either w.parallel (at_node w x at (λ n. At (Some n)))))
rest-term v w m (S.Unary op at a) t = then-same v (evaluated a w).rest _ _ _ (rest-term v w m a t) (at-one v w at op)
rest-term v w m (S.Binary op at a b) t =
    then-same v (evaluated a w).rest _ _ _ (rest-term v w m a t.0) (λ x. then-same v (evaluated b w).rest _ _ _ (rest-term v w m b t.1) (at-two v w at op x))
rest-term v w m (S.Both a b) t =
    then-same v (evaluated a w).rest _ _ _ (rest-term v w m a t.0) (λ x. if-same v (is_true x) _ _ _ _ (rest-term v w m b t.1) refl)
rest-term v w m (S.Either a b) t =
    then-same v (evaluated a w).rest _ _ _ (rest-term v w m a t.0) (λ x. if-same v (is_true x) _ _ _ _ refl (rest-term v w m b t.1))
rest-term v w m (S.Choose c a b) t =
    then-same v (evaluated c w).rest _ _ _ (rest-term v w m c t.0) (λ x. if-same v (is_true x) _ _ _ _ (rest-term v w m a t.1) (rest-term v w m b t.2))
rest-term v w m (S.Folded f h c a) t = absurd t

none-two : (a b : Option Fault) → a ≡ None → b ≡ None → first a b ≡ None
none-two a b e h = ap (λ x. first x b) e ∙ h

hoisted_either : (b : Bool) (a : Answer) → b ≡ true → (if b then plain a else early a).hoisted ≡ None
hoisted_either b a e = ap (λ c. (if c then plain a else early a).hoisted) e

-- nothing is hoisted in parallel code without reductions
pub hoisted-parallel : (v : Env) (w : View) (m : VertexView) (e : Expr) → w.parallel ≡ true → Tells v w m e → (evaluated e w).hoisted ≡ None
hoisted-parallel v w m (S.Const c) p t = refl
hoisted-parallel v w m (S.Var x at) p t = refl
hoisted-parallel v w m (S.Property x q at) p t = hoisted_either w.parallel _ p
hoisted-parallel v w m (S.EdgeProperty x q at) p t = refl
hoisted-parallel v w m (S.Degree d x at) p t = hoisted_either w.parallel _ p
hoisted-parallel v w m S.NodeCount p t = refl
hoisted-parallel v w m S.EdgeCount p t = refl
hoisted-parallel v w m (S.Live x at) p t = hoisted_either w.parallel _ p
hoisted-parallel v w m (S.Unary op at a) p t = hoisted-parallel v w m a p t
hoisted-parallel v w m (S.Binary op at a b) p t = none-two _ _ (hoisted-parallel v w m a p t.0) (hoisted-parallel v w m b p t.1)
hoisted-parallel v w m (S.Both a b) p t = none-two _ _ (hoisted-parallel v w m a p t.0) (hoisted-parallel v w m b p t.1)
hoisted-parallel v w m (S.Either a b) p t = none-two _ _ (hoisted-parallel v w m a p t.0) (hoisted-parallel v w m b p t.1)
hoisted-parallel v w m (S.Choose c a b) p t =
    none-two _ _ (hoisted-parallel v w m c p t.0) (none-two _ _ (hoisted-parallel v w m a p t.1) (hoisted-parallel v w m b p t.2))
hoisted-parallel v w m (S.Folded f h c a) p t = absurd t

-- nor is anything of what the master list tells
pub hoisted-told : (w : View) (e : Expr) → is_told e ≡ true → (evaluated e w).hoisted ≡ None
hoisted-told w (S.Const c) h = refl
hoisted-told w (S.Var x at) h = refl
hoisted-told w (S.Property x q at) h = absurd (both_ways false refl h)
hoisted-told w (S.EdgeProperty x q at) h = absurd (both_ways false refl h)
hoisted-told w (S.Degree d x at) h = absurd (both_ways false refl h)
hoisted-told w S.NodeCount h = refl
hoisted-told w S.EdgeCount h = refl
hoisted-told w (S.Live x at) h = absurd (both_ways false refl h)
hoisted-told w (S.Unary op at a) h = hoisted-told w a h
hoisted-told w (S.Binary op at a b) h = let q = both-true (is_told a) (is_told b) h in none-two _ _ (hoisted-told w a q.0) (hoisted-told w b q.1)
hoisted-told w (S.Both a b) h = let q = both-true (is_told a) (is_told b) h in none-two _ _ (hoisted-told w a q.0) (hoisted-told w b q.1)
hoisted-told w (S.Either a b) h = let q = both-true (is_told a) (is_told b) h in none-two _ _ (hoisted-told w a q.0) (hoisted-told w b q.1)
hoisted-told w (S.Choose c a b) h =
    let q = both-true (is_told c) (is_told a && is_told b) h in
    let r = both-true (is_told a) (is_told b) q.1 in
    none-two _ _ (hoisted-told w c q.0) (none-two _ _ (hoisted-told w a r.0) (hoisted-told w b r.1))
hoisted-told w (S.Folded f k c a) h = absurd (both_ways false refl h)

settled-none : (e : Evaluated) → e.hoisted ≡ None → settled e ≡ e.rest
settled-none e h = ap (λ x. settled (record e { hoisted = x })) h

-- the value of a term is the value of the expression, fault and place included
pub value-term : (v : Env) (w : View) (m : VertexView) (e : Expr) → (evaluated e w).hoisted ≡ None → Tells v w m e
    → term_value m (term v w.key e) ≡ answer_of v (value e w)
value-term v w m e p t = rest-term v w m e t ∙ ap (answer_of v) (sym (settled-none (evaluated e w) p))

pub terms-have-values : TermsHaveValues
terms-have-values v w m e (inl p) t = value-term v w m e (hoisted-parallel v w m e p t) t
terms-have-values v w m e (inr p) t = value-term v w m e (hoisted-told w e p) t

-- a node's check that stands alone, whether it is hoisted or not
live-alone : (b : Bool) (a : Answer) → settled (if b then plain a else early a) ≡ a
live-alone true a = refl
live-alone false (Ok x) = refl
live-alone false (Err f) = refl

pub live-has-its-value : LiveHasItsValue
live-has-its-value v w m x at t =
    ap (λ u. then_go u (live (v.place w.key at))) t.0 ∙ t.1 ∙ ap (answer_of v) (sym (live-alone w.parallel (at_node w x at (λ n. At (Some n)))))
