-- The body of a typed procedure stands as deep as its declarations say.
use Rattle.std.proofs.Common.{◌≡◌, ◌+◌, ◌≤◌, true, false, List, [], ◌∷◌, ◌++◌, length, refl, sym, ap, subst, ◌∙◌, arith}
use Rattle.gm_ast.specs.declared.tree.Declaration.{Declaration}
use Rattle.gm_ast.specs.declared.tree.Sort.TheVariants as Sorts
use Rattle.gm_ast.specs.declared.tree.Variable.{Variable}
use Rattle.gm_base.specs.declared.rules.Rule.TheVariants.{T4}
use Rattle.gm_ast.specs.declared.kinds.Role.{Role}
use Rattle.gm_ast.specs.declared.kinds.Role.TheVariants.{Input, Output}
use Rattle.gm_ast.specs.declared.surface.TypeWord.TheVariants as Word
use Rattle.gm_ast.specs.declared.surface.Bearer.TheVariants.{Nodes, Edges}
use Rattle.gm_ast.specs.Surface.{SurfaceName, SurfaceGroup, SurfaceProcedure, SurfaceType, Plain, Property}
use Rattle.gm_ast.specs.Program.{Program}
use Rattle.gm_ast.specs.Judged.{unless}
use Rattle.gm_ast.specs.Names.{Env, with_name, sort_eq, operators_of, numbered}
use Rattle.gm_ast.specs.Statements.{is_local, graph_named, type_broken, sort_of, variable_of, declared_all, with_names, checked}
use Rattle.gm_ast.specs.Procedures.{nothing_known, parameters, with_parameters, count_names, types_broken, result_broken, head_broken, result_of, env_of_outputs, env_of_body, all_parameters, parts_of, elaborated, IsTyped}
use Rattle.gm_ready.proofs.Tables.{Has, has-append}
use Rattle.gm_ready.proofs.Judging.{IfPart, if-by, append-empty, Gives}
use Rattle.gm_ready.proofs.Procedures.{names-next, names-declared, parameters-next, parameters-declared, has-behind, body-in}
use Rattle.gm_ready.proofs.Placing.{Placed, Knows}
use Rattle.gm_ready.proofs.PlacedStatements.{from-unless, names-known, checked-placed}

-- no parameter is an edge
no-edge-type : (t : SurfaceType) (role : Role) (env : Env) → is_local role ≡ false → type_broken t role env ≡ [] → sort_eq Sorts.Edge (sort_of t) ≡ true → false ≡ true
no-edge-type (Plain at Word.Edge g) role env r h e =
    let one = append-empty (unless (is_local role) T4 at) (graph_named env g) h in sym r ∙ from-unless (is_local role) T4 at one.0
no-edge-type (Plain at Word.Graph g) role env r h e = e
no-edge-type (Plain at Word.Int g) role env r h e = e
no-edge-type (Plain at Word.Long g) role env r h e = e
no-edge-type (Plain at Word.Bool g) role env r h e = e
no-edge-type (Plain at Word.Node g) role env r h e = e
no-edge-type (Property at Nodes inner g) role env r h e = e
no-edge-type (Property at Edges inner g) role env r h e = e

module _ (ds : List Declaration) where
  parameters-known : (role : Role) (around : Env) → is_local role ≡ false → (gs : List SurfaceGroup) (env : Env) → types_broken role around gs ≡ [] → Knows ds 0 false env.known → Has ds env.next (parameters gs env).declared
      → Knows ds 0 false (with_parameters gs env).known
  parameters-known role around r [] env clean known has = known
  parameters-known role around r (g ∷ gs) env clean known has =
      let v = variable_of g.vtype 0 in
      let inner = with_names v g.names env in
      let one = (declared_all v g.names env).declared in
      let parts = has-append ds env.next one (parameters gs inner).declared has in
      let at : env.next + length one ≡ inner.next = ap (λ n. env.next + n) (names-declared v g.names env) ∙ sym (names-next v g.names env) in
      let none = append-empty (type_broken g.vtype role around) (types_broken role around gs) clean in
      let low : v.depth ≤ 0 = omega arith in
      parameters-known role around r gs inner none.1
      (names-known ds 0 false v g.names env env low (λ e. no-edge-type g.vtype role around r none.0 e) known parts.0)
      (subst (λ n. Has ds n (parameters gs inner).declared) at parts.1)

-- the names that are known in the body
knows-body : (p : SurfaceProcedure) → head_broken p ≡ [] → Knows (parts_of p).declared 0 false (env_of_body p).known
knows-body p head =
    let ds = (parts_of p).declared in
    let around = env_of_body p in
    let ins = (parameters p.inputs (nothing_known (result_of p))).declared in
    let outs = (parameters p.outputs (env_of_outputs p)).declared in
    let body = numbered (checked p.body) (env_of_body p) in
    let heads = has-append ds 0 (ins ++ outs) body.declared (has-behind ds [] ds refl) in
    let inputs = has-append ds 0 ins outs heads.0 in
    let ins_next : (env_of_outputs p).next ≡ 0 + count_names p.inputs = parameters-next p.inputs (nothing_known (result_of p)) in
    let ins_size : length ins ≡ count_names p.inputs = parameters-declared p.inputs (nothing_known (result_of p)) in
    let at_outs : 0 + length ins ≡ (env_of_outputs p).next = omega (arith, ins_next, ins_size) in
    let none = append-empty _ (types_broken Input around p.inputs ++ (types_broken Output around p.outputs ++ result_broken around p.result)) head in
    let none_in = append-empty (types_broken Input around p.inputs) (types_broken Output around p.outputs ++ result_broken around p.result) none.1 in
    let none_out = append-empty (types_broken Output around p.outputs) (result_broken around p.result) none_in.1 in
    let known_inputs : Knows ds 0 false (env_of_outputs p).known = parameters-known ds Input around refl p.inputs (nothing_known (result_of p)) none_in.0 tt inputs.0 in
    parameters-known ds Output around refl p.outputs (env_of_outputs p) none_out.0 known_inputs (subst (λ n. Has ds n outs) at_outs inputs.1)

-- the body stands in a sequential phase
names-depth : (v : Variable) (xs : List SurfaceName) (env : Env) → (with_names v xs env).depth ≡ env.depth
names-depth v [] env = refl
names-depth v (x ∷ xs) env = names-depth v xs (with_name env x v)

parameters-depth : (gs : List SurfaceGroup) (env : Env) → (with_parameters gs env).depth ≡ env.depth
parameters-depth [] env = refl
parameters-depth (g ∷ gs) env = parameters-depth gs (with_names (variable_of g.vtype 0) g.names env) ∙ names-depth (variable_of g.vtype 0) g.names env

body-depth : (p : SurfaceProcedure) → (env_of_body p).depth ≡ 0
body-depth p = parameters-depth p.outputs (env_of_outputs p) ∙ parameters-depth p.inputs (nothing_known (result_of p))

pub program-placed : (p : Program) → IsTyped p → Placed p.declarations 0 false p.body
program-placed p typed =
    let source = typed.source in
    let parts = parts_of source in
    let ds = parts.declared in
    let none = append-empty parts.broken _ typed.clean in
    let env = env_of_body source in
    let body = numbered (checked source.body) env in
    let rest = append-empty (all_parameters source).broken (head_broken source ++ body.broken) none.0 in
    let head = append-empty (head_broken source) body.broken rest.1 in
    let gives : Gives ds (Placed ds 0 false) env.next body =
    λ has clean. checked-placed ds source.body 0 false (record env { number = env.number + 1; key = operators_of env.number }) (knows-body source head.0) (body-depth source) refl has clean in
    let held : IfPart (λ p. Placed p.declarations 0 false p.body) (elaborated source).part =
    if-by (λ q. Unit {0} × (Unit {0} × Placed ds 0 false q.1.1)) (λ p. Placed p.declarations 0 false p.body) parts.part _ (body-in source (Placed ds 0 false) gives none.0) (λ q h. h.1.1) in
    subst (λ o. IfPart (λ p. Placed p.declarations 0 false p.body) o) typed.is held
