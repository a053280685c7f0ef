-- When a machine's view tells the leaves of expressions.
use Rattle.std.specs.Prelude.{◌≡◌, ◌⊎◌, ℕ, true, Some, Result, Ok, Err}
use Rattle.gm_base.specs.declared.places.Place.{Place}
use Rattle.gm_ast.specs.Program.{Expr, Const, Var, Property, EdgeProperty, Degree, NodeCount, EdgeCount, Live, Unary, Binary, Both, Either, Choose, Folded}
use Rattle.gm_value.specs.declared.values.Value.TheVariants.{At}
use Rattle.gm_forms.specs.Forms.{is_told}
use Rattle.gm_semantics.specs.declared.faults.Fault.{Fault}
use Rattle.gm_semantics.specs.Expressions.{View, value, at_node, degree_of}
use Rattle.gm_machine.specs.declared.faults.Fault as M
use Rattle.gm_machine.specs.Expressions.{View as VertexView, value as term_value, live}
use Rattle.gm_lowering.specs.Terms.{Env, term}

-- a fault as the machine names it: by the index of its place
abbrev pub fault_of : Env → Fault → M.Fault
fault_of v f = record { place = v.place f.key f.place; kind = f.kind }

-- an answer as the machine gives it
abbrev pub answer_of : {A : Type 0} → Env → Result A Fault → Result A M.Fault
answer_of v (Ok a) = Ok a
answer_of v (Err f) = Err (fault_of v f)

-- the leaves of an expression with no reduction in it are found where the environment says: each term's value is what the leaf has
abbrev pub Tells : Env → View → VertexView → Expr → Type 0
Tells v w m (Const c) = Unit {0}
Tells v w m (Var x at) = term_value m (v.scalar x) ≡ Ok (w.store.scalar x)
Tells v w m (Property x p at) = term_value m (v.property x p) ≡ answer_of v (at_node w x at (w.store.node p))
Tells v w m (EdgeProperty x p at) = term_value m (v.edge p) ≡ Ok (w.store.edge p w.edge)
Tells v w m (Degree d x at) = term_value m (v.degree d x) ≡ answer_of v (at_node w x at (degree_of w d))
Tells v w m NodeCount = m.graph ≡ w.graph
Tells v w m EdgeCount = m.graph ≡ w.graph
Tells v w m (Live x at) =
    (term_value m (v.scalar x) ≡ Ok (w.store.scalar x))
    × (live (v.place w.key at) (w.store.scalar x) ≡ answer_of v (at_node w x at (λ n. At (Some n))))
Tells v w m (Unary op at a) = Tells v w m a
Tells v w m (Binary op at a b) = Tells v w m a × Tells v w m b
Tells v w m (Both a b) = Tells v w m a × Tells v w m b
Tells v w m (Either a b) = Tells v w m a × Tells v w m b
Tells v w m (Choose c a b) = Tells v w m c × Tells v w m a × Tells v w m b
Tells v w m (Folded f h c a) = ⊥

-- where an expression's term has the expression's value, fault and place included: in parallel code, and for what the master list tells
abbrev pub TermsHaveValues : Type 0
TermsHaveValues =
    (v : Env) (w : View) (m : VertexView) (e : Expr) → (w.parallel ≡ true) ⊎ (is_told e ≡ true) → Tells v w m e
    → term_value m (term v w.key e) ≡ answer_of v (value e w)

-- the node of a variable stands alone in the master list
abbrev pub LiveHasItsValue : Type 0
LiveHasItsValue =
    (v : Env) (w : View) (m : VertexView) (x : ℕ) (at : Place) → Tells v w m (Live x at)
    → term_value m (term v w.key (Live x at)) ≡ answer_of v (value (Live x at) w)
