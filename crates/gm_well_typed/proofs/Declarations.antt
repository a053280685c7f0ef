-- Names that are declared: no local and no output is a graph.
use Rattle.std.proofs.Common.{◌≡◌, ◌+◌, ℕ, Bool, true, false, List, [], ◌∷◌, ◌++◌, refl, ap, Option, Some, None}
use Rattle.std.proofs.lemmas.Bool.{both_ways}
use Rattle.gm_base.specs.declared.places.Place.{Place}
use Rattle.gm_base.specs.declared.rules.Refusal.{Refusal}
use Rattle.gm_ast.specs.declared.tree.Declaration.{Declaration}
use Rattle.gm_ast.specs.declared.tree.Sort.TheVariants as Sorts
use Rattle.gm_ast.specs.declared.tree.Variable.{Variable}
use Rattle.gm_ast.specs.declared.kinds.Role.TheVariants.{Local, Output}
use Rattle.gm_ast.specs.declared.surface.TypeWord.TheVariants as Word
use Rattle.gm_ast.specs.declared.surface.Bearer.TheVariants.{Nodes, Edges}
use Rattle.gm_ast.specs.Surface.{SurfaceName, SurfaceType, Plain, Property, SurfaceExpr, SurfaceStmt}
use Rattle.gm_ast.specs.Surface as S
use Rattle.gm_ast.specs.Judged.{beside, noted}
use Rattle.gm_ast.specs.Names.{Env, is, declared_as, with_name, both, later, operators_of, numbered}
use Rattle.gm_ast.specs.Typing.{typed}
use Rattle.gm_ast.specs.Statements.{type_broken, sort_of, variable_of, initial_broken, declared_all, with_names, known_after, edge_owner, edge_declared, declared_typed, declared_with, checked}
use Rattle.gm_ready.proofs.Tables.{iterates_nodes, Has, binds-at}
use Rattle.gm_ready.proofs.Judging.{append-empty}
use Rattle.gm_ready.proofs.Declarations.{variable-nodes}
use Rattle.gm_well_typed.proofs.Known.{IsKnown, AllAreKnown, all-with}

broken-not : {A : Type 0} (x : Refusal) (xs : List Refusal) → x ∷ xs ≡ [] → A
broken-not x xs h = absurd (both_ways false refl (ap is_none h))
  where
    is_none : List Refusal → Bool
    is_none [] = true
    is_none (x ∷ xs) = false

-- a type declares no iterator
pub no-iterator : (t : SurfaceType) (depth : ℕ) → is Sorts.Iterator (variable_of t depth) ≡ false
no-iterator (Plain at Word.Graph g) depth = refl
no-iterator (Plain at Word.Edge g) depth = refl
no-iterator (Plain at Word.Int g) depth = refl
no-iterator (Plain at Word.Long g) depth = refl
no-iterator (Plain at Word.Bool g) depth = refl
no-iterator (Plain at Word.Node g) depth = refl
no-iterator (Property at Nodes inner g) depth = refl
no-iterator (Property at Edges inner g) depth = refl

-- the type of a local declares no graph
local-plain : (t : SurfaceType) (env : Env) (depth : ℕ) → type_broken t Local env ≡ [] → is Sorts.Graph (variable_of t depth) ≡ false
local-plain (Plain at Word.Graph g) env depth h = broken-not _ _ h
local-plain (Plain at Word.Edge g) env depth h = refl
local-plain (Plain at Word.Int g) env depth h = refl
local-plain (Plain at Word.Long g) env depth h = refl
local-plain (Plain at Word.Bool g) env depth h = refl
local-plain (Plain at Word.Node g) env depth h = refl
local-plain (Property at Nodes inner g) env depth h = refl
local-plain (Property at Edges inner g) env depth h = refl

-- nor does that of an output
pub output-plain : (t : SurfaceType) (env : Env) (depth : ℕ) → type_broken t Output env ≡ [] → is Sorts.Graph (variable_of t depth) ≡ false
output-plain (Plain at Word.Graph g) env depth h = broken-not _ _ h
output-plain (Plain at Word.Edge g) env depth h = refl
output-plain (Plain at Word.Int g) env depth h = refl
output-plain (Plain at Word.Long g) env depth h = refl
output-plain (Plain at Word.Bool g) env depth h = refl
output-plain (Plain at Word.Node g) env depth h = refl
output-plain (Property at Nodes inner g) env depth h = refl
output-plain (Property at Edges inner g) env depth h = refl

module _ (ds : List Declaration) (inputs g : ℕ) where
  -- what is declared as neither an iterator nor a graph
  plain-known : (n : ℕ) (d : Declaration) → is Sorts.Iterator d.variable ≡ false → is Sorts.Graph d.variable ≡ false → iterates_nodes d.variable ≡ true → Has ds n (d ∷ []) → IsKnown ds inputs g (record { index = n; variable = d.variable })
  plain-known n d iterator graph nodes has = record {
    bound = binds-at ds n d has.0 nodes;
    iterator = λ i. absurd (both_ways (is Sorts.Iterator d.variable) iterator i);
    graph = λ i. absurd (both_ways (is Sorts.Graph d.variable) graph i);
  }

  -- names of a type that is no graph
  pub names-known : (v : Variable) (xs : List SurfaceName) (env other : Env) → is Sorts.Iterator v ≡ false → is Sorts.Graph v ≡ false → iterates_nodes v ≡ true → AllAreKnown ds inputs g env.known → Has ds env.next (declared_all v xs other).declared
      → AllAreKnown ds inputs g (with_names v xs env).known
  names-known v [] env other i p nodes known has = known
  names-known v (x ∷ xs) env other i p nodes known has =
      let d : Declaration = record { name = x.text; variable = v } in
      names-known v xs (with_name env x v) (with_name other x v) i p nodes
      (all-with ds inputs g env.known x.text (record { index = env.next; variable = v }) known (plain-known env.next d i p nodes (has.0, tt))) has.1

  declares-one : (o : Option SurfaceName) (t : SurfaceType) (x : SurfaceName) (at : Place) (e : SurfaceExpr) (env : Env) (n : ℕ)
      → Has ds n (declared_with o t x at e env).declared → Has ds n (record { name = x.text; variable = variable_of t env.depth } ∷ [])
  declares-one (Some y) t x at e env n has = (has.0, tt)
  declares-one None t x at e env n has = (has.0, tt)

  -- what the type of a declaration breaks is broken in it
  typed-clean : (t : SurfaceType) (x : SurfaceName) (env : Env) → (declared_typed t x env).broken ≡ [] → type_broken t Local env ≡ []
  typed-clean t x env clean =
      let a = append-empty ((type_broken t Local env ++ initial_broken (sort_of t) x) ++ (declared_as env x (variable_of t env.depth)).broken) [] clean in
      let b = append-empty (type_broken t Local env ++ initial_broken (sort_of t) x) (declared_as env x (variable_of t env.depth)).broken a.0 in
      (append-empty (type_broken t Local env) (initial_broken (sort_of t) x) b.0).0

  with-clean : (o : Option SurfaceName) (t : SurfaceType) (x : SurfaceName) (at : Place) (e : SurfaceExpr) (env : Env) → (declared_with o t x at e env).broken ≡ [] → type_broken t Local env ≡ []
  with-clean (Some y) t x at e env clean =
      let parts = both (declared_typed t x) (edge_owner y) env in
      let a = append-empty parts.broken _ clean in
      typed-clean t x env (append-empty (declared_typed t x env).broken (edge_owner y (later env (declared_typed t x env))).broken a.0).0
  with-clean None t x at e env clean =
      let parts = both (declared_typed t x) (typed e) env in
      let a = append-empty parts.broken _ clean in
      typed-clean t x env (append-empty (declared_typed t x env).broken (typed e (later env (declared_typed t x env))).broken a.0).0

  -- the names that are known after a statement
  pub known-behind : (a : SurfaceStmt) (env : Env) → AllAreKnown ds inputs g env.known → Has ds env.next (numbered (checked a) env).declared → (numbered (checked a) env).broken ≡ [] → AllAreKnown ds inputs g (known_after a env)
  known-behind (S.Declare t xs) env known has clean =
      let within : Env = record env { number = env.number + 1; key = operators_of env.number } in
      let parts = beside (noted (tt {0}) (type_broken t Local within)) (declared_all (variable_of t env.depth) xs within) in
      let a = append-empty parts.broken _ clean in
      let b = append-empty (type_broken t Local within) (declared_all (variable_of t env.depth) xs within).broken a.0 in
      names-known (variable_of t env.depth) xs env within (no-iterator t env.depth) (local-plain t within env.depth b.0) (variable-nodes t env.depth) known has
  known-behind (S.DeclareAs t x at e) env known has clean =
      let within : Env = record env { number = env.number + 1; key = operators_of env.number } in
      let d : Declaration = record { name = x.text; variable = variable_of t env.depth } in
      let plain = local-plain t within env.depth (with-clean (edge_declared t e) t x at e within clean) in
      all-with ds inputs g env.known x.text (record { index = env.next; variable = variable_of t env.depth }) known
      (plain-known env.next d (no-iterator t env.depth) plain (variable-nodes t env.depth) (declares-one (edge_declared t e) t x at e within env.next has))
  known-behind _ env known has clean = known
