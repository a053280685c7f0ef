-- A program that breaks no rule of types tells values alone.
use Rattle.std.proofs.Common.{◌≡◌, ◌≤◌, ◌+◌, ℕ, Bool, true, false, List, [], ◌∷◌, ◌++◌, length, refl, sym, ap, subst, ◌∙◌, arith}
use Rattle.std.specs.Prelude.{nat_eq, if◌then◌else◌}
use Rattle.std.proofs.lemmas.Bool.{both_ways, eqb-true}
use Rattle.gm_base.specs.declared.places.Place.{Place}
use Rattle.gm_base.specs.declared.rules.Rule.TheVariants.{T3}
use Rattle.gm_ast.specs.declared.tree.Declaration.{Declaration}
use Rattle.gm_ast.specs.declared.tree.Sort.TheVariants as Sorts
use Rattle.gm_ast.specs.declared.tree.Variable.{Variable}
use Rattle.gm_ast.specs.declared.kinds.Role.TheVariants.{Input, Output}
use Rattle.gm_ast.specs.Surface.{SurfaceName, SurfaceGroup, SurfaceProcedure}
use Rattle.gm_ast.specs.Program.{Program}
use Rattle.gm_ast.specs.Judged.{unless}
use Rattle.gm_ast.specs.Names.{Env, is, with_name, numbered}
use Rattle.gm_ast.specs.Statements.{type_broken, variable_of, declared_all, with_names, checked}
use Rattle.gm_ast.specs.Procedures.{nothing_known, parameters, with_parameters, count_names, count_graphs, types_broken, result_broken, head_broken, result_of, env_of_outputs, env_of_body, all_parameters, parts_of, elaborated, IsTyped}
use Rattle.gm_value.specs.declared.values.Value.{Value}
use Rattle.gm_model.specs.Graphs.{NumberedGraph, node_count}
use Rattle.gm_semantics.specs.Outcomes.{mean}
use Rattle.gm_ready.specs.Spelled.{is_spelled}
use Rattle.gm_ready.proofs.Tables.{iterates_nodes, Has, has-append, binds-at}
use Rattle.gm_ready.proofs.Judging.{IfPart, if-by, append-empty}
use Rattle.gm_ready.proofs.Declarations.{variable-nodes}
use Rattle.gm_ready.proofs.Procedures.{names-next, names-declared, parameters-next, parameters-declared, has-behind, body-in, typed-named, typed-typed}
use Rattle.gm_typed_stores.specs.Tells.{TypeTable, tells_values}
use Rattle.gm_typed_stores.specs.Laws.{IsWellTyped, HasInputs}
use Rattle.gm_typed_stores.specs.Stores.{IsTypedOutcome}
use Rattle.gm_typed_stores.proofs.Inputs.{asked-fits}
use Rattle.gm_typed_stores.proofs.Outcomes.{outcome-typed}
use Rattle.gm_well_typed.proofs.Known.{AllAreKnown, all-with, Surrounds, told-numbered}
use Rattle.gm_well_typed.proofs.Declarations.{no-iterator, output-plain, names-known}
use Rattle.gm_well_typed.proofs.Statements.{TellsStmt, checked-tells}

abbrev is_graph : SurfaceGroup → Bool
is_graph s = is Sorts.Graph (variable_of s.vtype 0)

-- the index of the first graph among some parameters, of which the first has this one
abbrev first_graph : Bool → List SurfaceName → ℕ → ℕ → ℕ
first_graph false names n rest = rest
first_graph true [] n rest = rest
first_graph true (x ∷ names) n rest = n

abbrev graph_in : List SurfaceGroup → ℕ → ℕ
graph_in [] n = 0
graph_in (s ∷ gs) n = first_graph (is_graph s) s.names n (graph_in gs (n + length s.names))

module _ (ds : List Declaration) (inputs g : ℕ) where
  abbrev Known : Env → Type 0
  Known env = AllAreKnown ds inputs g env.known

  -- one name of the graph
  graph-known : (x : SurfaceName) (v : Variable) (env other : Env) → is Sorts.Iterator v ≡ false → iterates_nodes v ≡ true → env.next ≡ g → Known env → Has ds env.next (declared_all v (x ∷ []) other).declared → Known (with_names v (x ∷ []) env)
  graph-known x v env other iterator nodes e known has =
      all-with ds inputs g env.known x.text (record { index = env.next; variable = v }) known
      (record { bound = binds-at ds env.next (record { name = x.text; variable = v }) has.0 nodes; iterator = λ i. absurd (both_ways (is Sorts.Iterator v) iterator i); graph = λ i. e })

  -- the names of the inputs, of which one at most is a graph
  inputs-known : (gs : List SurfaceGroup) (env : Env) → count_graphs gs ≤ 1 → (count_graphs gs ≡ 1 → graph_in gs env.next ≡ g) → Known env → Has ds env.next (parameters gs env).declared → Known (with_parameters gs env)
  inputs-known [] env one is known has = known
  inputs-known (s ∷ gs) env one is known has =
      let v = variable_of s.vtype 0 in
      let inner = with_names v s.names env in
      let front = (declared_all v s.names env).declared in
      let parts = has-append ds env.next front (parameters gs inner).declared has in
      let next : inner.next ≡ env.next + length s.names = names-next v s.names env in
      let at : env.next + length front ≡ inner.next = ap (λ n. env.next + n) (names-declared v s.names env) ∙ sym next in
      let rest : Has ds inner.next (parameters gs inner).declared = subst (λ n. Has ds n (parameters gs inner).declared) at parts.1 in
      by (is_graph s) refl s.names refl one (λ q. ap (λ n. first_graph (is_graph s) s.names env.next (graph_in gs n)) next ∙ is q)
      (λ low same k. inputs-known gs inner low same k rest)
      (λ plain. names-known ds inputs g v s.names env env (no-iterator s.vtype 0) plain (variable-nodes s.vtype 0) known parts.0)
      (λ x alone e.
      subst (λ (xs : List SurfaceName). Known (with_names v xs env)) (sym alone)
      (graph-known x v env env (no-iterator s.vtype 0) (variable-nodes s.vtype 0) e known (subst (λ (xs : List SurfaceName). Has ds env.next (declared_all v xs env).declared) alone parts.0)))
      (λ none. subst (λ (xs : List SurfaceName). Known (with_names v xs env)) (sym none) known)
    where
      inside : Env
      inside = with_names (variable_of s.vtype 0) s.names env

      by : (b : Bool) → is_graph s ≡ b → (xs : List SurfaceName) → s.names ≡ xs → (if b then length xs else 0) + count_graphs gs ≤ 1 → ((if b then length xs else 0) + count_graphs gs ≡ 1 → first_graph b xs env.next (graph_in gs inside.next) ≡ g)
          → (count_graphs gs ≤ 1 → (count_graphs gs ≡ 1 → graph_in gs inside.next ≡ g) → Known inside → Known (with_parameters gs inside))
          → (is_graph s ≡ false → Known inside) → ((x : SurfaceName) → s.names ≡ x ∷ [] → env.next ≡ g → Known inside) → (s.names ≡ [] → Known inside) → Known (with_parameters gs inside)
      by false e xs n low same go plain one none = go (omega arith) (λ q. same (omega arith)) (plain e)
      by true e [] n low same go plain one none = go (omega arith) (λ q. same (omega arith)) (none n)
      by true e (x ∷ []) n low same go plain one none =
          let last : count_graphs gs ≡ 0 = omega arith in
          go (omega arith) (λ q. absurd (omega arith)) (one x n (same (omega arith)))
      by true e (x ∷ (y ∷ xs)) n low same go plain one none = absurd (omega arith)

  -- and of the outputs, of which none is
  outputs-known : (gs : List SurfaceGroup) (env all : Env) → types_broken Output all gs ≡ [] → Known env → Has ds env.next (parameters gs env).declared → Known (with_parameters gs env)
  outputs-known [] env all clean known has = known
  outputs-known (s ∷ gs) env all clean known has =
      let v = variable_of s.vtype 0 in
      let inner = with_names v s.names env in
      let front = (declared_all v s.names env).declared in
      let none = append-empty (type_broken s.vtype Output all) (types_broken Output all gs) clean in
      let parts = has-append ds env.next front (parameters gs inner).declared has in
      let at : env.next + length front ≡ inner.next = ap (λ n. env.next + n) (names-declared v s.names env) ∙ sym (names-next v s.names env) in
      outputs-known gs inner all none.1
      (names-known ds inputs g v s.names env env (no-iterator s.vtype 0) (output-plain s.vtype all 0 none.0) (variable-nodes s.vtype 0) known parts.0)
      (subst (λ n. Has ds n (parameters gs inner).declared) at parts.1)

-- no group assignment is around a procedure's body
names-group : (v : Variable) (xs : List SurfaceName) (env : Env) → (with_names v xs env).group ≡ env.group
names-group v [] env = refl
names-group v (x ∷ xs) env = names-group v xs (with_name env x v)

parameters-group : (gs : List SurfaceGroup) (env : Env) → (with_parameters gs env).group ≡ env.group
parameters-group [] env = refl
parameters-group (s ∷ gs) env = parameters-group gs (with_names (variable_of s.vtype 0) s.names env) ∙ names-group (variable_of s.vtype 0) s.names env

body-group : (p : SurfaceProcedure) → (env_of_body p).group ≡ false
body-group p = parameters-group p.outputs (env_of_outputs p) ∙ parameters-group p.inputs (nothing_known (result_of p))

unless-true : (b : Bool) (at : Place) → unless b T3 at ≡ [] → b ≡ true
unless-true true at h = refl
unless-true false at h = absurd (both_ways false refl (ap is_none h))
  where
    is_none : {A : Type 0} → List A → Bool
    is_none [] = true
    is_none (x ∷ xs) = false

-- the graph of a procedure
abbrev graph_of : SurfaceProcedure → ℕ
graph_of p = graph_in p.inputs 0

-- what stands around the body of a procedure that breaks no rule of types
around-body : (p : SurfaceProcedure) → (parts_of p).broken ≡ [] → Surrounds (parts_of p).declared (count_names p.inputs) (graph_of p) (env_of_body p)
around-body p clean =
    let ds = (parts_of p).declared in
    let n = count_names p.inputs in
    let g = graph_of p in
    let ins = (parameters p.inputs (nothing_known (result_of p))).declared in
    let outs = (parameters p.outputs (env_of_outputs p)).declared in
    let body = numbered (checked p.body) (env_of_body p) in
    let none = append-empty (all_parameters p).broken (head_broken p ++ body.broken) clean in
    let heads = append-empty (head_broken p) body.broken none.1 in
    let types = types_broken Input (env_of_body p) p.inputs in
    let outputs = types_broken Output (env_of_body p) p.outputs in
    let first = append-empty (unless (nat_eq (count_graphs p.inputs) 1) T3 p.name.place) (types ++ (outputs ++ result_broken (env_of_body p) p.result)) heads.0 in
    let second = append-empty types (outputs ++ result_broken (env_of_body p) p.result) first.1 in
    let third = append-empty outputs (result_broken (env_of_body p) p.result) second.1 in
    let one : count_graphs p.inputs ≡ 1 = eqb-true (count_graphs p.inputs) 1 (unless-true (nat_eq (count_graphs p.inputs) 1) p.name.place first.0) in
    let all = has-append ds 0 (ins ++ outs) body.declared (has-behind ds [] ds refl) in
    let both = has-append ds 0 ins outs all.0 in
    let ins_next : (env_of_outputs p).next ≡ 0 + count_names p.inputs = parameters-next p.inputs (nothing_known (result_of p)) in
    let ins_size : length ins ≡ count_names p.inputs = parameters-declared p.inputs (nothing_known (result_of p)) in
    let outs_next : (env_of_body p).next ≡ (env_of_outputs p).next + count_names p.outputs = parameters-next p.outputs (env_of_outputs p) in
    let at_outs : 0 + length ins ≡ (env_of_outputs p).next = omega (arith, ins_next, ins_size) in
    let known_inputs = inputs-known ds n g p.inputs (nothing_known (result_of p)) (omega (arith, one)) (λ q. refl) tt both.0 in
    record {
      known = outputs-known ds n g p.outputs (env_of_outputs p) (env_of_body p) third.0 known_inputs (subst (λ m. Has ds m outs) at_outs both.1);
      behind = omega (arith, ins_next, outs_next);
    }

pub typed-tells-values : (limit : ℕ) (p : Program) → IsTyped p → tells_values limit p ≡ true
typed-tells-values limit p typed =
    let source = typed.source in
    let parts = parts_of source in
    let table : TypeTable = record { limit = limit; declarations = parts.declared; inputs = count_names source.inputs } in
    let g = graph_of source in
    let none = append-empty parts.broken _ typed.clean in
    let env = env_of_body source in
    let body = told-numbered table.declarations table.inputs g (TellsStmt table g) false (checked source.body) (checked-tells table g source.body) env (body-group source) (around-body source none.0) in
    let told : IfPart (λ p. tells_values limit p ≡ true) (elaborated source).part =
    if-by (λ q. Unit {0} × (Unit {0} × TellsStmt table g q.1.1)) (λ p. tells_values limit p ≡ true) parts.part _ (body-in source (TellsStmt table g) body none.0) (λ q h. h.1.1 []) in
    subst (λ o. IfPart (λ p. tells_values limit p ≡ true) o) typed.is told

pub typed-well-typed : (limit : ℕ) (p : Program) → IsTyped p → is_spelled p ≡ true → IsWellTyped limit p
typed-well-typed limit p typed spelled = record { typed = typed-typed p typed spelled; named = typed-named p typed; tells = typed-tells-values limit p typed }

pub outcomes-typed : (p : Program) (g : NumberedGraph) (args : List Value) (bound : ℕ) → IsTyped p → is_spelled p ≡ true → HasInputs (node_count g) p g args → IsTypedOutcome (node_count g) p g (mean p g args bound)
outcomes-typed p g args bound typed spelled has = outcome-typed (node_count g) p g args bound (typed-well-typed (node_count g) p typed spelled) (asked-fits (node_count g) p g args has)
