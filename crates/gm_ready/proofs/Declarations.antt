-- Declarations, and the names that are known after them.
use Rattle.std.proofs.Common.{◌≡◌, ◌+◌, ℕ, Bool, true, false, List, [], ◌∷◌, ◌++◌, refl, ap, ◌∙◌, Option, Some, None}
use Rattle.std.specs.Prelude.{◌||◌, ◌&&◌, nat_eq, if◌then◌else◌, Ok}
use Rattle.std.proofs.lemmas.Bool.{both_ways}
use Rattle.std.proofs.lemmas.Option.{none-some}
use Rattle.gm_base.specs.declared.places.Place.{Place}
use Rattle.gm_base.specs.declared.rules.Rule.TheVariants.{T4, T7, T9}
use Rattle.gm_base.specs.declared.rules.Refusal.{Refusal}
use Rattle.gm_value.specs.declared.values.VType.{VType}
use Rattle.gm_ast.specs.declared.tree.Declaration.{Declaration}
use Rattle.gm_ast.specs.declared.tree.Key.{Key}
use Rattle.gm_ast.specs.declared.tree.Sort.{Sort}
use Rattle.gm_ast.specs.declared.tree.Sort.TheVariants as Sorts
use Rattle.gm_ast.specs.declared.tree.Variable.{Variable}
use Rattle.gm_ast.specs.declared.kinds.Role.TheVariants.{Local, Inside}
use Rattle.gm_ast.specs.declared.surface.TypeWord.TheVariants as Word
use Rattle.gm_ast.specs.declared.surface.Bearer.TheVariants.{Nodes, Edges}
use Rattle.gm_ast.specs.Surface.{SurfaceName, SurfaceType, Plain, Property, SurfaceExpr, SurfaceStmt}
use Rattle.gm_ast.specs.Surface as S
use Rattle.gm_ast.specs.Program as P
use Rattle.gm_ast.specs.Program.{Expr, Stmt}
use Rattle.gm_ast.specs.Judged.{beside, unless, broken_by, ok_of, refused_unless, noted}
use Rattle.gm_ast.specs.Names.{Env, is, is_node, sort_eq, used, declared_as, with_name, both, operators_of, numbered}
use Rattle.gm_ast.specs.Kinds.{Part, fitted}
use Rattle.gm_ast.specs.Typing.{typed}
use Rattle.gm_ast.specs.Statements.{graph_named, type_broken, sort_of, vtype_of, variable_of, declared_all, with_names, known_after, plain_declarations, declarations_as, declared_plainly, bare, edge_asked, edge_owner, declared_value, is_edge_type, edge_declared, declared_typed, declared_with, checked}
use Rattle.gm_forms.specs.Uses as Uses
use Rattle.gm_forms.specs.Uses.{use_as, uses_in, uses_of}
use Rattle.gm_ready.proofs.Tables.{iterates_nodes, Has, Binds, binds-at, Suit, join, suit-as, AllKnown, known-with}
use Rattle.gm_ready.proofs.Judging.{IfPart, if-both, if-good, if-then, Gives, Good, gives-judge, gives-beside, gives-both, good-used, append-empty}
use Rattle.gm_ready.proofs.Expressions.{IsNamed, IsNamedPart, fitted-named, typed-named}
use Rattle.gm_ready.proofs.Statements.{IsNamedStmt}

-- what a type of a local may declare
abbrev may_be_local : Sort → Bool
may_be_local Sorts.Scalar = true
may_be_local Sorts.NodeProperty = true
may_be_local Sorts.Edge = true
may_be_local _ = false

broken-not : {A : Type 0} (x : Refusal) (xs : List Refusal) → x ∷ xs ≡ [] → A
broken-not x xs h = absurd (both_ways false refl (ap is_none h))
  where
    is_none : List Refusal → Bool
    is_none [] = true
    is_none (x ∷ xs) = false

local-sort : (t : SurfaceType) (env : Env) → type_broken t Local env ≡ [] → may_be_local (sort_of t) ≡ true
local-sort (Plain at Word.Graph g) env h = broken-not _ _ h
local-sort (Plain at Word.Edge g) env h = refl
local-sort (Plain at Word.Int g) env h = refl
local-sort (Plain at Word.Long g) env h = refl
local-sort (Plain at Word.Bool g) env h = refl
local-sort (Plain at Word.Node g) env h = refl
local-sort (Property at Nodes inner g) env h = refl
local-sort (Property at Edges inner g) env h = broken-not _ _ h

-- a property is declared outside of parallel loops alone
local-depth : (t : SurfaceType) (env : Env) → type_broken t Local env ≡ [] → sort_of t ≡ Sorts.NodeProperty → nat_eq env.depth 0 ≡ true
local-depth (Plain at Word.Graph g) env h e = absurd (both_ways false refl (ap (sort_eq Sorts.NodeProperty) e))
local-depth (Plain at Word.Edge g) env h e = absurd (both_ways false refl (ap (sort_eq Sorts.NodeProperty) e))
local-depth (Plain at Word.Int g) env h e = absurd (both_ways false refl (ap (sort_eq Sorts.NodeProperty) e))
local-depth (Plain at Word.Long g) env h e = absurd (both_ways false refl (ap (sort_eq Sorts.NodeProperty) e))
local-depth (Plain at Word.Bool g) env h e = absurd (both_ways false refl (ap (sort_eq Sorts.NodeProperty) e))
local-depth (Plain at Word.Node g) env h e = absurd (both_ways false refl (ap (sort_eq Sorts.NodeProperty) e))
local-depth (Property at Nodes inner g) env h e = by (nat_eq env.depth 0) h
  where
    by : (b : Bool) → (unless b T4 at ++ graph_named env g) ++ type_broken inner Inside env ≡ [] → b ≡ true
    by true h = refl
    by false h = broken-not _ _ h
local-depth (Property at Edges inner g) env h e = broken-not _ _ h

edge-sort : (t : SurfaceType) → is_edge_type t ≡ true → sort_of t ≡ Sorts.Edge
edge-sort (Plain at Word.Graph g) h = absurd (both_ways false refl h)
edge-sort (Plain at Word.Edge g) h = refl
edge-sort (Plain at Word.Int g) h = absurd (both_ways false refl h)
edge-sort (Plain at Word.Long g) h = absurd (both_ways false refl h)
edge-sort (Plain at Word.Bool g) h = absurd (both_ways false refl h)
edge-sort (Plain at Word.Node g) h = absurd (both_ways false refl h)
edge-sort (Property at b inner g) h = absurd (both_ways false refl h)

-- what a type declares holds nodes where it iterates
pub variable-nodes : (t : SurfaceType) (depth : ℕ) → iterates_nodes (variable_of t depth) ≡ true
variable-nodes (Plain at Word.Graph g) depth = refl
variable-nodes (Plain at Word.Edge g) depth = refl
variable-nodes (Plain at Word.Int g) depth = refl
variable-nodes (Plain at Word.Long g) depth = refl
variable-nodes (Plain at Word.Bool g) depth = refl
variable-nodes (Plain at Word.Node g) depth = refl
variable-nodes (Property at Nodes inner g) depth = refl
variable-nodes (Property at Edges inner g) depth = refl

module _ (ds : List Declaration) where
  -- what stands in the table as this variable
  abbrev pub Is : Variable → ℕ → Type 0
  Is v n = Binds ds (record { index = n; variable = v })

  abbrev pub AllAre : Variable → List ℕ → Type 0
  AllAre v [] = Unit {0}
  AllAre v (n ∷ ns) = Is v n × AllAre v ns

  declared-is : (env : Env) (x : SurfaceName) (v : Variable) → iterates_nodes v ≡ true → Gives ds (Is v) env.next (declared_as env x v)
  declared-is env x v nodes has clean = binds-at ds env.next (record { name = x.text; variable = v }) has.0 nodes

  -- names after a declaration of one more
  known-next : (env : Env) (x : SurfaceName) (v : Variable) → AllKnown ds env.known → Is v env.next → AllKnown ds (with_name env x v).known
  known-next env x v known is = known-with ds env.known x.text (record { index = env.next; variable = v }) known is

  pub all-declared : (v : Variable) (xs : List SurfaceName) → iterates_nodes v ≡ true → Good ds (AllAre v) (declared_all v xs)
  all-declared v [] nodes env known = λ has clean. tt
  all-declared v (x ∷ xs) nodes env known =
      let d : Declaration = record { name = x.text; variable = v } in
      gives-judge ds (λ p. Is v p.0 × AllAre v p.1) (AllAre v) env.next (beside (declared_as env x v) (declared_all v xs (with_name env x v))) (λ p. Ok (p.0 ∷ p.1))
      (λ has clean. gives-beside ds (Is v) (AllAre v) env.next (declared_as env x v) (declared_all v xs (with_name env x v)) (declared-is env x v nodes)
      (all-declared v xs nodes (with_name env x v) (known-next env x v known (binds-at ds env.next d has.0 nodes))) has clean)
      (λ p h. h)

  pub names-known : (v : Variable) (xs : List SurfaceName) (env other : Env) → iterates_nodes v ≡ true → AllKnown ds env.known → Has ds env.next (declared_all v xs other).declared → AllKnown ds (with_names v xs env).known
  names-known v [] env other nodes known has = known
  names-known v (x ∷ xs) env other nodes known has =
      names-known v xs (with_name env x v) (with_name other x v) nodes (known-next env x v known (binds-at ds env.next (record { name = x.text; variable = v }) has.0 nodes)) has.1

  plainly-named : (k : Key) (v : Variable) (ns : List ℕ) → is Sorts.Scalar v || (is Sorts.NodeProperty v && nat_eq v.depth 0) ≡ true → AllAre v ns → IsNamedStmt ds (plain_declarations k ns)
  plainly-named k v [] fits h = refl
  plainly-named k v (n ∷ ns) fits h =
      join ds (use_as Uses.Declared n) (uses_of (plain_declarations k ns)) (suit-as ds Uses.Declared (record { index = n; variable = v }) h.0 fits) (plainly-named k v ns fits h.1)

  declarations-named : (s : Sort) (k : Key) (v : Variable) (xs : List SurfaceName) (ns : List ℕ) → may_be_local s ≡ true → (s ≡ Sorts.NodeProperty → nat_eq v.depth 0 ≡ true) → v.sort ≡ s → AllAre v ns → IfPart (IsNamedStmt ds) (ok_of (declarations_as s k xs ns))
  declarations-named Sorts.Scalar k v xs ns may zero e h = plainly-named k v ns (ap (λ s. sort_eq Sorts.Scalar s || (sort_eq Sorts.NodeProperty s && nat_eq v.depth 0)) e) h
  declarations-named Sorts.NodeProperty k v xs ns may zero e h = plainly-named k v ns (ap (λ s. sort_eq Sorts.Scalar s || (sort_eq Sorts.NodeProperty s && nat_eq v.depth 0)) e ∙ zero refl) h
  declarations-named Sorts.Edge k v xs ns may zero e h = tt
  declarations-named Sorts.Graph k v xs ns may zero e h = absurd (both_ways false refl may)
  declarations-named Sorts.Iterator k v xs ns may zero e h = absurd (both_ways false refl may)
  declarations-named Sorts.EdgeProperty k v xs ns may zero e h = absurd (both_ways false refl may)

  pub plain-named : (t : SurfaceType) (xs : List SurfaceName) → Good ds (IsNamedStmt ds) (declared_plainly t xs)
  plain-named t xs env known has clean =
      let v = variable_of t env.depth in
      let parts = beside (noted (tt {0}) (type_broken t Local env)) (declared_all v xs env) in
      let all = append-empty parts.broken (broken_by parts.part (λ p. declarations_as (sort_of t) env.key xs p.1)) clean in
      let none = append-empty (type_broken t Local env) (declared_all v xs env).broken all.0 in
      gives-judge ds (λ p. Unit {0} × AllAre v p.1) (IsNamedStmt ds) env.next parts (λ p. declarations_as (sort_of t) env.key xs p.1)
      (λ has clean. if-both (λ u. Unit {0}) (AllAre v) (Some (tt {0})) (declared_all v xs env).part tt (all-declared v xs (variable-nodes t env.depth) env known has none.1))
      (λ p h. declarations-named (sort_of t) env.key v xs p.1 (local-sort t env none.0) (local-depth t env none.0) refl h.1) has clean

  pub typed-declared : (t : SurfaceType) (x : SurfaceName) (env : Env) → Gives ds (Is (variable_of t env.depth)) env.next (declared_typed t x env)
  typed-declared t x env has clean =
      let v = variable_of t env.depth in
      binds-at ds env.next (record { name = x.text; variable = v }) has.0 (variable-nodes t env.depth)

  owner-named : (y : SurfaceName) → Good ds (λ b. Suit ds (use_as Uses.Owner b.index)) (edge_owner y)
  owner-named y env known = gives-judge ds (Binds ds) (λ b. Suit ds (use_as Uses.Owner b.index)) env.next (used y env) (λ b. refused_unless (is_node b.variable) T7 y.place b)
      (good-used ds y env known) (λ b h. if-good (λ b. Suit ds (use_as Uses.Owner b.index)) (is_node b.variable) T7 y.place b (λ n. suit-as ds Uses.Owner b h (ap (λ t. t || is Sorts.Graph b.variable) n)))

  value-named : (s : Sort) (k : Key) (x : SurfaceName) (at : Place) (t : VType) (v : Variable) (p : ℕ × Part) → v.sort ≡ s → Is v p.0 → IsNamedPart ds p.1 → IfPart (IsNamedStmt ds) (ok_of (declared_value k x at t s p))
  value-named Sorts.Scalar k x at t v p e h n =
      if-then (IsNamed ds) (IsNamedStmt ds) (fitted t T9 at p.1) (λ e. P.Declare k p.0 (Some e)) (fitted-named ds t T9 at p.1 n)
      (λ a m. join ds (use_as Uses.Written p.0) (uses_in a) (suit-as ds Uses.Written (record { index = p.0; variable = v }) h (ap (sort_eq Sorts.Scalar) e)) m)
  value-named Sorts.Edge k x at t v p e h n = tt
  value-named Sorts.Graph k x at t v p e h n = tt
  value-named Sorts.Iterator k x at t v p e h n = tt
  value-named Sorts.NodeProperty k x at t v p e h n = tt
  value-named Sorts.EdgeProperty k x at t v p e h n = tt

  with-named : (o : Option SurfaceName) (t : SurfaceType) (x : SurfaceName) (at : Place) (e : SurfaceExpr) (env : Env) → AllKnown ds env.known
      → ((y : SurfaceName) → o ≡ Some y → sort_of t ≡ Sorts.Edge) → Gives ds (IsNamedStmt ds) env.next (declared_with o t x at e env)
  with-named (Some y) t x at e env known edge =
      let v = variable_of t env.depth in
      gives-judge ds (λ p. Is v p.0 × Suit ds (use_as Uses.Owner p.1.index)) (IsNamedStmt ds) env.next (both (declared_typed t x) (edge_owner y) env) (λ p. Ok (P.DeclareEdge p.0 p.1.index y.place))
      (gives-both ds (Is v) (λ b. Suit ds (use_as Uses.Owner b.index)) (declared_typed t x) (edge_owner y) env known (typed-declared t x env) (owner-named y))
      (λ p h. join ds (use_as Uses.EdgeName p.0) (use_as Uses.Owner p.1.index) (suit-as ds Uses.EdgeName (record { index = p.0; variable = v }) h.0 (ap (sort_eq Sorts.Edge) (edge y refl))) h.1)
  with-named None t x at e env known edge =
      let v = variable_of t env.depth in
      gives-judge ds (λ p. Is v p.0 × IsNamedPart ds p.1) (IsNamedStmt ds) env.next (both (declared_typed t x) (typed e) env) (declared_value env.key x at (vtype_of t) (sort_of t))
      (gives-both ds (Is v) (IsNamedPart ds) (declared_typed t x) (typed e) env known (typed-declared t x env) (typed-named ds e))
      (λ p h. value-named (sort_of t) env.key x at (vtype_of t) v p refl h.0 h.1)

  edge-only : (c : Bool) (t : SurfaceType) (o : Option SurfaceName) (y : SurfaceName) → is_edge_type t ≡ c → (if c then o else None) ≡ Some y → sort_of t ≡ Sorts.Edge
  edge-only true t o y c e = edge-sort t c
  edge-only false t o y c e = absurd (none-some y e)

  pub valued-named : (t : SurfaceType) (x : SurfaceName) (at : Place) (e : SurfaceExpr) → Good ds (IsNamedStmt ds) (declared_with (edge_declared t e) t x at e)
  valued-named t x at e env known = with-named (edge_declared t e) t x at e env known (λ y is. edge-only (is_edge_type t) t (edge_asked (bare e)) y refl is)

  declares-first : (o : Option SurfaceName) (t : SurfaceType) (x : SurfaceName) (at : Place) (e : SurfaceExpr) (env : Env) (n : ℕ)
      → Has ds n (declared_with o t x at e env).declared → Is (variable_of t env.depth) n
  declares-first (Some y) t x at e env n has = binds-at ds n (record { name = x.text; variable = variable_of t env.depth }) has.0 (variable-nodes t env.depth)
  declares-first None t x at e env n has = binds-at ds n (record { name = x.text; variable = variable_of t env.depth }) has.0 (variable-nodes t env.depth)

  -- the names that are known after a statement
  pub known-behind : (a : SurfaceStmt) (env : Env) → AllKnown ds env.known → Has ds env.next (numbered (checked a) env).declared → AllKnown ds (known_after a env)
  known-behind (S.Declare t xs) env known has = names-known (variable_of t env.depth) xs env (record env { number = env.number + 1; key = operators_of env.number }) (variable-nodes t env.depth) known has
  known-behind (S.DeclareAs t x at e) env known has =
      known-next env x (variable_of t env.depth) known (declares-first (edge_declared t e) t x at e (record env { number = env.number + 1; key = operators_of env.number }) env.next has)
  known-behind _ env known has = known
