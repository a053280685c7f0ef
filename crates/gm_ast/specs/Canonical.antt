-- Canonical form: what stands where a vertex program cannot do it.
use Rattle.std.specs.Prelude.{◌≡◌, ℕ, nat_eq, Bool, true, false, ◌&&◌, ◌||◌, not, if◌then◌else◌, List, [], ◌∷◌, ◌++◌, map, length, Option, Some, None}
use Rattle.gm_base.specs.declared.places.Place.{Place}
use Rattle.gm_base.specs.declared.rules.Refusal.{Refusal}
use Rattle.gm_base.specs.declared.rules.Rule.TheVariants.{C1, C2, C3, C4, C5, C6, C7, C8, C9}
use Rattle.gm_base.specs.Rules.{broken_at}
use Rattle.gm_ast.specs.declared.tree.Declaration.{Declaration}
use Rattle.gm_ast.specs.declared.tree.Head.{Head}
use Rattle.gm_ast.specs.declared.tree.Target.{Target}
use Rattle.gm_ast.specs.declared.ways.Way.{Way}
use Rattle.gm_ast.specs.Program.{Expr, Const, Var, Property, EdgeProperty, Degree, NodeCount, EdgeCount, Live, Unary, Binary, Both, Either, Choose, Folded, Stmt, Skip, Then, Declare, DeclareEdge, Assign, Defer, Combine, Group, Foreach, For, If, While, Do, InBfs, InBfsBoth, Return, Program}
use Rattle.gm_ast.specs.Loops.{broken_if, any, declared_at, depth_of, target_place, is_nodes, asks_levels}
use Rattle.gm_ast.specs.Ways.{edges_against, ways_of}
use Rattle.gm_ast.specs.Procedures.{IsTyped}
use Rattle.gm_ast.specs.Races.{races}

-- which parallel code a loop makes of a part: a loop's body or filter, the body of a search or its filter, a reduction's filter or braces, the value of a group assignment
pub data Code : Type 0 where
  Body Search Filter Reduction Group' : Code

-- a parallel loop around a part, with its iterator, for a group assignment the graph
pub record Loop : Type 0 where
  pub code : Code
  pub iterator : ℕ

-- what stands around a part: the declarations, and the parallel loops from the outermost inwards
pub record Around : Type 0 where
  pub declarations : List Declaration
  pub loops : List Loop

-- a sequential phase
abbrev pub sequential : List Declaration → Around
sequential ds = record { declarations = ds; loops = [] }

-- the same, with one more loop
abbrev pub within : Around → Code → ℕ → Around
within w c x = record w { loops = w.loops ++ (record { code = c; iterator = x } ∷ []) }

-- whether code is the body of a search
abbrev pub is_search : Code → Bool
is_search Search = true
is_search _ = false

-- whether code is a loop's body
abbrev pub is_body : Code → Bool
is_body Body = true
is_body _ = false

-- whether the levels around a variable's node are known: it is the iterator of a search, in its body
abbrev pub has_levels : List Loop → ℕ → Bool
has_levels [] x = false
has_levels (l ∷ ls) x = is_search l.code && nat_eq x l.iterator

-- what a loop or reduction breaks by where it stands: not over all nodes in a sequential phase, not over neighbours of the outer iterator directly in parallel code, or deeper
abbrev pub nesting_broken : List Loop → Head → List Refusal
nesting_broken [] h = broken_if (not (is_nodes h.domain)) C1 h.place
nesting_broken (l ∷ []) h = broken_if (is_nodes h.domain || not (nat_eq h.owner l.iterator)) C2 h.place
nesting_broken (l ∷ (m ∷ ms)) h = broken_if true C3 h.place

-- what a loop or reduction breaks by its range
abbrev pub range_broken : List Loop → Head → List Refusal
range_broken loops h = nesting_broken loops h ++ broken_if (asks_levels h.domain && not (has_levels loops h.owner)) C8 h.place

-- whether a variable is the iterator of one of some loops
abbrev pub iterates : List Loop → ℕ → Bool
iterates loops x = any (λ l. nat_eq l.iterator x) loops

-- whether this is parallel code
abbrev pub is_parallel : List Loop → Bool
is_parallel [] = false
is_parallel (l ∷ ls) = true

-- a property or degree that is read through a variable
abbrev pub read_broken : List Loop → ℕ → Place → List Refusal
read_broken loops x at = broken_if (is_parallel loops && not (iterates loops x)) C5 at

-- what an expression breaks, in some loops
abbrev pub reads_broken : Expr → Around → List Refusal
reads_broken (Const v) w = []
reads_broken (Var x at) w = []
reads_broken (Property x p at) w = read_broken w.loops x at
reads_broken (EdgeProperty x p at) w = []
reads_broken (Degree d x at) w = read_broken w.loops x at
reads_broken NodeCount w = []
reads_broken EdgeCount w = []
reads_broken (Live x at) w = []
reads_broken (Unary op at e) w = reads_broken e w
reads_broken (Binary op at a b) w = reads_broken a w ++ reads_broken b w
reads_broken (Both a b) w = reads_broken a w ++ reads_broken b w
reads_broken (Either a b) w = reads_broken a w ++ reads_broken b w
reads_broken (Choose c a b) w = reads_broken c w ++ (reads_broken a w ++ reads_broken b w)
reads_broken (Folded f h test body) w =
    let v = within w Reduction h.iterator in
    range_broken w.loops h ++ (reads_broken test v ++ reads_broken body v)

-- what a value that may be absent breaks
abbrev pub option_broken : Option Expr → Around → List Refusal
option_broken None w = []
option_broken (Some e) w = reads_broken e w

-- what several expressions break
abbrev pub all_broken : List Expr → Around → List Refusal
all_broken [] w = []
all_broken (e ∷ es) w = reads_broken e w ++ all_broken es w

-- a statement that may stand in a sequential phase alone
abbrev pub sequential_only : List Loop → Place → List Refusal
sequential_only loops at = broken_if (is_parallel loops) C4 at

-- a statement that may stand in parallel code alone
abbrev pub parallel_only : List Loop → Place → List Refusal
parallel_only loops at = broken_if (not (is_parallel loops)) C4 at

-- whether this is an inner body
abbrev pub is_inner : List Loop → Bool
is_inner [] = false
is_inner (l ∷ ls) = is_parallel ls

-- a statement that may not stand in an inner body
abbrev pub not_inner : List Loop → Place → List Refusal
not_inner loops at = broken_if (is_inner loops) C6 at

-- whether an assignment goes to a local that is declared inside as many loops as these
abbrev pub is_own_local : Around → Target → Bool
is_own_local w (Target.Scalar x at) = nat_eq (depth_of (declared_at w.declarations x)) (length w.loops)
is_own_local w (Target.Property x p at) = false

-- a plain assignment, which in an inner body goes to the body's own local
abbrev pub assignment_broken : Around → Target → List Refusal
assignment_broken w t = broken_if (is_inner w.loops && not (is_own_local w t)) C6 (target_place t)

-- whether a variable is the iterator of the inner loop in whose body this is
abbrev pub is_inner_iterator : List Loop → ℕ → Bool
is_inner_iterator [] x = false
is_inner_iterator (l ∷ []) x = false
is_inner_iterator (l ∷ (m ∷ ms)) x = is_body m.code && nat_eq m.iterator x

-- whether this is directly in an outermost loop
abbrev pub is_directly_parallel : List Loop → Bool
is_directly_parallel [] = false
is_directly_parallel (l ∷ ls) = not (is_parallel ls)

-- the reads of edges in an inner loop that go against the way of a message
abbrev pub ways_broken : List Loop → Head → Expr → Stmt → List Refusal
ways_broken loops h test body = if is_directly_parallel loops then map (broken_at C7) (edges_against h test body) else []

-- what a statement breaks
abbrev pub forms_broken : Stmt → Around → List Refusal
forms_broken Skip w = []
forms_broken (Then a b) w = forms_broken a w ++ forms_broken b w
forms_broken (Declare k x e) w = option_broken e w
forms_broken (DeclareEdge x y at) w = broken_if (not (is_inner_iterator w.loops y)) C9 at
forms_broken (Assign k t e) w = assignment_broken w t ++ reads_broken e w
forms_broken (Defer k t e) w =
    parallel_only w.loops (target_place t) ++ (not_inner w.loops (target_place t) ++ reads_broken e w)
forms_broken (Combine k total r ts es) w = all_broken es w
forms_broken (Group k at g p e) w = sequential_only w.loops at ++ (not_inner w.loops at ++ reads_broken e (within w Group' g))
forms_broken (Foreach k at h test body) w =
    let v = within w Body h.iterator in
    not_inner w.loops at ++ (range_broken w.loops h ++ (reads_broken test v ++ (forms_broken body v ++ ways_broken w.loops h test body)))
forms_broken (For k at h test body) w =
    sequential_only w.loops at ++ (not_inner w.loops at ++ (range_broken w.loops h ++ (reads_broken test w ++ forms_broken body w)))
forms_broken (If k c a b) w = reads_broken c w ++ (forms_broken a w ++ forms_broken b w)
forms_broken (While k at c body) w = sequential_only w.loops at ++ (not_inner w.loops at ++ (reads_broken c w ++ forms_broken body w))
forms_broken (Do k at body c) w = sequential_only w.loops at ++ (not_inner w.loops at ++ (forms_broken body w ++ reads_broken c w))
forms_broken (InBfs k at search test body) w =
    sequential_only w.loops at ++ (not_inner w.loops at
    ++ (reads_broken test (within w Filter search.iterator) ++ forms_broken body (within w Search search.iterator)))
forms_broken (InBfsBoth k at search test body back_key back_test back) w =
    sequential_only w.loops at ++ (not_inner w.loops at
    ++ (reads_broken test (within w Filter search.iterator) ++ (forms_broken body (within w Search search.iterator)
    ++ (reads_broken back_test (within w Filter search.iterator) ++ forms_broken back (within w Search search.iterator)))))
forms_broken (Return k at e) w = sequential_only w.loops at ++ (not_inner w.loops at ++ option_broken e w)

-- everything in a program that is not canonical
abbrev pub uncanonical : Program → List Refusal
uncanonical p = forms_broken p.body (sequential p.declarations)

-- the ways of the reductions in the inner loops of a statement that is directly in an outermost loop
abbrev pub ways_inside : Stmt → List Way
ways_inside (Then a b) = ways_inside a ++ ways_inside b
ways_inside (If k c a b) = ways_inside a ++ ways_inside b
ways_inside (Foreach k at h test body) = ways_of h test body
ways_inside _ = []

-- the ways of the reductions in the inner loops of a statement in a sequential phase, in the order of the text
abbrev pub ways_in : Stmt → List Way
ways_in (Then a b) = ways_in a ++ ways_in b
ways_in (If k c a b) = ways_in a ++ ways_in b
ways_in (Foreach k at h test body) = ways_inside body
ways_in (For k at h test body) = ways_in body
ways_in (While k at c body) = ways_in body
ways_in (Do k at body c) = ways_in body
ways_in (InBfs k at search test body) = ways_inside body
ways_in (InBfsBoth k at search test body back_key back_test back) = ways_inside body ++ ways_inside back
ways_in _ = []

-- a program that breaks no rule of types, races and canonical form
pub record IsCanonical (program : Program) : Type 0 where
  pub typed : IsTyped program
  pub race_free : races program ≡ []
  pub canonical : uncanonical program ≡ []
