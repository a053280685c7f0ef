-- The lines by which an own body keeps a tuple in its locals and its node's properties.
use Rattle.std.specs.Prelude.{◌≡◌, ◌<◌, ℕ, true, false, Option, Some, None, Ok, List, [], ◌∷◌, ◌++◌, length, map}
use Rattle.std.specs.List.{list_all}
use Rattle.gm_value.specs.declared.values.VType.{VType}
use Rattle.gm_value.specs.declared.values.Value.{Value}
use Rattle.gm_value.specs.declared.reductions.Reduce.{Reduce}
use Rattle.gm_value.specs.Laws.{AreOf}
use Rattle.gm_ast.specs.declared.tree.Key.{Key}
use Rattle.gm_ast.specs.declared.tree.Target.{Target}
use Rattle.gm_ast.specs.declared.tree.Target.TheVariants as T
use Rattle.gm_ast.specs.declared.tree.TotalKey.{TotalKey}
use Rattle.gm_ast.specs.Program.{Expr, Combine, Program}
use Rattle.gm_forms.specs.Typing.{keeps_tuples}
use Rattle.gm_semantics.specs.declared.faults.Fault.{Fault}
use Rattle.gm_semantics.specs.declared.slots.Slot.{Slot}
use Rattle.gm_semantics.specs.declared.slots.Slot.TheVariants.{Scalar, Node}
use Rattle.gm_semantics.specs.Expressions.{evaluated_all}
use Rattle.gm_semantics.specs.Iterations.{Loop, Outermost, Iteration, view_in, does}
use Rattle.gm_semantics.specs.Laws.{Distinct}
use Rattle.gm_semantics.specs.Statements.{variable_at}
use Rattle.gm_semantics.specs.Stores.{reads}
use Rattle.gm_image.specs.Program.{Line}
use Rattle.gm_machine.specs.Vertex.{VertexContext, VertexState, body_after}
use Rattle.gm_lowering.specs.Layouts.{Layout, layout, is_register, register_types, body_positions}
use Rattle.gm_lowering.specs.Places.{Segment}
use Rattle.gm_lowering.specs.Terms.{term, own_env}
use Rattle.gm_lowering.specs.Bodies.{keeping, with_types, kept_lines}
use Rattle.gm_lowering.specs.Blocks.{own_site}
use Rattle.gm_lowering.specs.OwnLoops.{own_finds, is_own_target, HasSpares}
use Rattle.gm_lowering.specs.Showing.{fault_of}
use Rattle.gm_lowering.specs.Sites.{same_length, IsApart, OwnShows, OwnGave}

-- the slots of locals and of properties of a node
abbrev pub own_slots : ℕ → List Target → List Slot
own_slots k [] = []
own_slots k (T.Scalar x at ∷ ts) = Scalar x ∷ own_slots k ts
own_slots k (T.Property x p at ∷ ts) = Node p k ∷ own_slots k ts

-- how lines end at a vertex that stand for a part of an own body: without a fault those behind them go on from a state that shows the iteration then; or with its fault. What was given is given
abbrev pub LinesEnd : Layout → Segment → Loop → (k registers fields places : ℕ) → VertexContext → (ls rest : List Line) → VertexState → Iteration → Option Fault → Type 0
LinesEnd c seg loop k registers fields places s ls rest w out None =
    let v = own_env c seg loop.outer in
    (u : VertexState) × (OwnShows c v loop.graph loop.outer k registers fields s out u × OwnGave c v out u) × (body_after places s (ls ++ rest) 0 w ≡ body_after places s rest 0 u)
LinesEnd c seg loop k registers fields places s ls rest w out (Some f) =
    let v = own_env c seg loop.outer in
    (u : VertexState) × OwnGave c v out u × (body_after places s (ls ++ rest) 0 w ≡ record { state = u; fault = Some (fault_of v f); skip = 0 })

-- the lines that keep a tuple do what its reduction does, where values have the types of their slots
abbrev pub TupleLinesKeep : Type 0
TupleLinesKeep =
    (c : Layout) (seg : Segment) (registers fields places positions : ℕ) (loop : Loop) (k : ℕ) (s : VertexContext)
    (key : Key) (total : TotalKey) (r : Reduce) (t u : Target) (ts : List Target) (es : List Expr) (types : List VType) (it : Iteration) (w : VertexState) (rest : List Line)
    → IsApart c registers fields → HasSpares c registers positions
    → is_register (variable_at c.declarations loop.outer) ≡ false → ((x : ℕ) → loop.vtype x ≡ (variable_at c.declarations x).vtype) → ((x : ℕ) → loop.depth x ≡ (variable_at c.declarations x).depth)
    → let all = t ∷ (u ∷ ts) in
    let v = own_env c seg loop.outer in
    let out = does (Combine key total r all es) Outermost loop it in
    keeps_tuples r ≡ true → list_all (is_own_target c loop.outer) all ≡ true → Distinct (own_slots k all) → same_length all es ≡ true → list_all (own_finds c loop.outer) es ≡ true → length all < positions
    → OwnShows c v loop.graph loop.outer k registers fields s it w → OwnGave c v it w
    → AreOf types (reads it.store (own_slots k all)) → ((ys : List Value) → (evaluated_all es (view_in loop Outermost it key)).rest ≡ Ok ys → AreOf types ys)
    → LinesEnd c seg loop k registers fields places s (kept_lines (keeping (own_site c seg loop.outer)) r (with_types c all) (map (term v key) es)) rest w out out.fault

-- a program's layout has spare registers for each of its tuples
abbrev pub LayoutsHaveSpares : Type 0
LayoutsHaveSpares = (p : Program) → HasSpares (layout p) (length (register_types p)) (body_positions p.declarations p.body)
