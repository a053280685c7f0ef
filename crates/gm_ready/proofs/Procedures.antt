-- A program whose types break no rule names variables as they are declared.
use Rattle.std.proofs.Common.{◌≡◌, ◌+◌, zero, suc, true, List, [], ◌∷◌, ◌++◌, length, refl, sym, ap, subst, ◌∙◌, arith, length-append, append_assoc, Option, Some, None}
use Rattle.std.specs.Prelude.{slice_get, nat_le}
use Rattle.std.specs.Cmp.Derive.{both_true}
use Rattle.std.proofs.Math.Seq.{get_or-append_seam}
use Rattle.std.proofs.lemmas.Bool.{le-leb}
use Rattle.std.proofs.lemmas.Option.{slice_get-get_or}
use Rattle.gm_ast.specs.declared.tree.Declaration.{Declaration}
use Rattle.gm_ast.specs.declared.tree.Variable.{Variable}
use Rattle.gm_ast.specs.Surface.{SurfaceName, SurfaceGroup, SurfaceProcedure}
use Rattle.gm_ast.specs.Program.{Program, Stmt}
use Rattle.gm_ast.specs.Judged.{beside, noted}
use Rattle.gm_ast.specs.Names.{Env, with_name, operators_of, numbered}
use Rattle.gm_ast.specs.Statements.{variable_of, declared_all, with_names, checked}
use Rattle.gm_ast.specs.Procedures.{nothing_known, parameters, with_parameters, count_names, head_broken, result_of, env_of_outputs, env_of_body, all_parameters, parts_of, elaborated, IsTyped}
use Rattle.gm_forms.specs.Typing.{has_types}
use Rattle.gm_forms.specs.Uses.{is_named}
use Rattle.gm_ready.specs.Spelled.{is_spelled}
use Rattle.gm_ready.proofs.Tables.{Has, has-append, AllKnown}
use Rattle.gm_ready.proofs.Judging.{IfPart, if-by, if-both, append-empty, good-numbered, Gives}
use Rattle.gm_ready.proofs.Statements.{IsNamedStmt}
use Rattle.gm_ready.proofs.Declarations.{variable-nodes, names-known}
use Rattle.gm_ready.proofs.Blocks.{checked-named}
use Rattle.gm_ready.proofs.TypedStatements.{IsTypedStmt, checked-typed}

-- ---- how many declarations there are

pub names-next : (v : Variable) (xs : List SurfaceName) (env : Env) → (with_names v xs env).next ≡ env.next + length xs
names-next v [] env = let e : env.next ≡ env.next + zero = omega arith in e
names-next v (x ∷ xs) env = let e : env.next + 1 + length xs ≡ env.next + suc (length xs) = omega arith in names-next v xs (with_name env x v) ∙ e

pub names-declared : (v : Variable) (xs : List SurfaceName) (env : Env) → length (declared_all v xs env).declared ≡ length xs
names-declared v [] env = refl
names-declared v (x ∷ xs) env = ap suc (names-declared v xs (with_name env x v))

pub parameters-next : (gs : List SurfaceGroup) (env : Env) → (with_parameters gs env).next ≡ env.next + count_names gs
parameters-next [] env = let e : env.next ≡ env.next + zero = omega arith in e
parameters-next (g ∷ gs) env =
    let v = variable_of g.vtype 0 in
    let inner = with_names v g.names env in
    let one : inner.next ≡ env.next + length g.names = names-next v g.names env in
    let rest : (with_parameters gs inner).next ≡ inner.next + count_names gs = parameters-next gs inner in
    omega (arith, one, rest)

pub parameters-declared : (gs : List SurfaceGroup) (env : Env) → length (parameters gs env).declared ≡ count_names gs
parameters-declared [] env = refl
parameters-declared (g ∷ gs) env =
    let v = variable_of g.vtype 0 in
    let inner = with_names v g.names env in
    let both : length ((declared_all v g.names env).declared ++ (parameters gs inner).declared) ≡ length (declared_all v g.names env).declared + length (parameters gs inner).declared = length-append (declared_all v g.names env).declared (parameters gs inner).declared in
    let one : length (declared_all v g.names env).declared ≡ length g.names = names-declared v g.names env in
    let rest : length (parameters gs inner).declared ≡ count_names gs = parameters-declared gs inner in
    omega (arith, both, one, rest)

-- ---- a table holds all its declarations

at-seam : (front rest : List Declaration) (d : Declaration) → slice_get (front ++ (d ∷ rest)) (length front) ≡ Some d
at-seam front rest d =
    let size : length (front ++ (d ∷ rest)) ≡ length front + suc (length rest) = length-append front (d ∷ rest) in
    slice_get-get_or (front ++ (d ∷ rest)) (length front) d (omega (arith, size)) ∙ ap Some (get_or-append_seam front d rest d)

pub has-behind : (ds front rest : List Declaration) → ds ≡ front ++ rest → Has ds (length front) rest
has-behind ds front [] e = tt
has-behind ds front (d ∷ rest) e =
    let size : length (front ++ (d ∷ [])) ≡ length front + 1 = length-append front (d ∷ []) in
    (ap (λ xs. slice_get xs (length front)) e ∙ at-seam front rest d, subst (λ n. Has ds n rest) size (has-behind ds (front ++ (d ∷ [])) rest (e ∙ sym (append_assoc front (d ∷ []) rest))))

module _ (ds : List Declaration) where
  parameters-known : (gs : List SurfaceGroup) (env : Env) → AllKnown ds env.known → Has ds env.next (parameters gs env).declared → AllKnown ds (with_parameters gs env).known
  parameters-known [] env known has = known
  parameters-known (g ∷ gs) env known has =
      let v = variable_of g.vtype 0 in
      let inner = with_names v g.names env in
      let one = (declared_all v g.names env).declared in
      let parts = has-append ds env.next one (parameters gs inner).declared has in
      let at : env.next + length one ≡ inner.next = ap (λ n. env.next + n) (names-declared v g.names env) ∙ sym (names-next v g.names env) in
      parameters-known gs inner (names-known ds v g.names env env (variable-nodes g.vtype 0) known parts.0) (subst (λ n. Has ds n (parameters gs inner).declared) at parts.1)

-- where the declarations of the body begin
pub at-body : (p : SurfaceProcedure) → 0 + length ((parameters p.inputs (nothing_known (result_of p))).declared ++ (parameters p.outputs (env_of_outputs p)).declared) ≡ (env_of_body p).next
at-body p =
    let ins = (parameters p.inputs (nothing_known (result_of p))).declared in
    let outs = (parameters p.outputs (env_of_outputs p)).declared in
    let ins_next : (env_of_outputs p).next ≡ 0 + count_names p.inputs = parameters-next p.inputs (nothing_known (result_of p)) in
    let ins_size : length ins ≡ count_names p.inputs = parameters-declared p.inputs (nothing_known (result_of p)) in
    let outs_next : (env_of_body p).next ≡ (env_of_outputs p).next + count_names p.outputs = parameters-next p.outputs (env_of_outputs p) in
    let outs_size : length outs ≡ count_names p.outputs = parameters-declared p.outputs (env_of_outputs p) in
    let both : length (ins ++ outs) ≡ length ins + length outs = length-append ins outs in
    omega (arith, ins_next, ins_size, outs_next, outs_size, both)

-- the names that are known in the body stand in the table
known-body : (p : SurfaceProcedure) → AllKnown (parts_of p).declared (env_of_body p).known
known-body p =
    let ds = (parts_of p).declared in
    let ins = (parameters p.inputs (nothing_known (result_of p))).declared in
    let outs = (parameters p.outputs (env_of_outputs p)).declared in
    let body = numbered (checked p.body) (env_of_body p) in
    let heads = has-append ds 0 (ins ++ outs) body.declared (has-behind ds [] ds refl) in
    let inputs = has-append ds 0 ins outs heads.0 in
    let ins_next : (env_of_outputs p).next ≡ 0 + count_names p.inputs = parameters-next p.inputs (nothing_known (result_of p)) in
    let ins_size : length ins ≡ count_names p.inputs = parameters-declared p.inputs (nothing_known (result_of p)) in
    let at_outs : 0 + length ins ≡ (env_of_outputs p).next = omega (arith, ins_next, ins_size) in
    let known_inputs : AllKnown ds (env_of_outputs p).known = parameters-known ds p.inputs (nothing_known (result_of p)) tt inputs.0 in
    parameters-known ds p.outputs (env_of_outputs p) known_inputs (subst (λ n. Has ds n outs) at_outs inputs.1)

-- the result that is known in the body is the procedure's
names-result : (v : Variable) (xs : List SurfaceName) (env : Env) → (with_names v xs env).result ≡ env.result
names-result v [] env = refl
names-result v (x ∷ xs) env = names-result v xs (with_name env x v)

parameters-result : (gs : List SurfaceGroup) (env : Env) → (with_parameters gs env).result ≡ env.result
parameters-result [] env = refl
parameters-result (g ∷ gs) env = parameters-result gs (with_names (variable_of g.vtype 0) g.names env) ∙ names-result (variable_of g.vtype 0) g.names env

body-result : (p : SurfaceProcedure) → (env_of_body p).result ≡ result_of p
body-result p = parameters-result p.outputs (env_of_outputs p) ∙ parameters-result p.inputs (nothing_known (result_of p))

-- what holds of a body wherever it stands, in the table of all declarations of its procedure
pub body-in : (p : SurfaceProcedure) (Q : Stmt → Type 0) → Gives (parts_of p).declared Q (env_of_body p).next (numbered (checked p.body) (env_of_body p)) → (parts_of p).broken ≡ []
    → IfPart (λ q. Unit {0} × (Unit {0} × Q q.1.1)) (parts_of p).part
body-in p Q gives clean =
    let ds = (parts_of p).declared in
    let ins = (parameters p.inputs (nothing_known (result_of p))).declared in
    let outs = (parameters p.outputs (env_of_outputs p)).declared in
    let body = numbered (checked p.body) (env_of_body p) in
    let all : Has ds 0 ds = has-behind ds [] ds refl in
    let heads = has-append ds 0 (ins ++ outs) body.declared all in
    let none = append-empty (all_parameters p).broken (head_broken p ++ body.broken) clean in
    let none_body = append-empty (head_broken p) body.broken none.1 in
    let named : IfPart Q body.part = gives (subst (λ n. Has ds n body.declared) (at-body p) heads.1) none_body.1 in
    if-both (λ u. Unit {0}) (λ q. Unit {0} × Q q.1) (all_parameters p).part (beside (noted (tt {0}) (head_broken p)) body).part (nothing (all_parameters p).part)
    (if-both (λ u. Unit {0}) Q (Some (tt {0})) body.part tt named)
  where
    nothing : {A : Type 0} (o : Option A) → IfPart (λ u. Unit {0}) o
    nothing None = tt
    nothing (Some a) = tt

sizes : (p : SurfaceProcedure) → nat_le (count_names p.inputs + count_names p.outputs) (length (parts_of p).declared) ≡ true
sizes p =
    let ins = (parameters p.inputs (nothing_known (result_of p))).declared in
    let outs = (parameters p.outputs (env_of_outputs p)).declared in
    let body = (numbered (checked p.body) (env_of_body p)).declared in
    let ins_size : length ins ≡ count_names p.inputs = parameters-declared p.inputs (nothing_known (result_of p)) in
    let outs_size : length outs ≡ count_names p.outputs = parameters-declared p.outputs (env_of_outputs p) in
    let both : length (ins ++ outs) ≡ length ins + length outs = length-append ins outs in
    let all : length ((ins ++ outs) ++ body) ≡ length (ins ++ outs) + length body = length-append (ins ++ outs) body in
    le-leb (count_names p.inputs + count_names p.outputs) (length (parts_of p).declared) (omega (arith, ins_size, outs_size, both, all))

pub typed-named : (p : Program) → IsTyped p → is_named p ≡ true
typed-named p typed =
    let source = typed.source in
    let parts = parts_of source in
    let ds = parts.declared in
    let none = append-empty parts.broken _ typed.clean in
    let body = good-numbered ds (IsNamedStmt ds) (checked source.body) (checked-named ds source.body) (env_of_body source) (known-body source) in
    let named : IfPart (λ p. is_named p ≡ true) (elaborated source).part =
    if-by (λ q. Unit {0} × (Unit {0} × IsNamedStmt ds q.1.1)) (λ p. is_named p ≡ true) parts.part _ (body-in source (IsNamedStmt ds) body none.0) (λ q h. both_true (sizes source) h.1.1) in
    subst (λ o. IfPart (λ p. is_named p ≡ true) o) typed.is named

pub typed-typed : (p : Program) → IsTyped p → is_spelled p ≡ true → has_types p ≡ true
typed-typed p typed spelled =
    let source = typed.source in
    let parts = parts_of source in
    let ds = parts.declared in
    let r = result_of source in
    let none = append-empty parts.broken _ typed.clean in
    let env = env_of_body source in
    let body : Gives ds (IsTypedStmt ds r) env.next (numbered (checked source.body) env) =
    λ has clean. checked-typed ds r source.body (record env { number = env.number + 1; key = operators_of env.number }) (known-body source) (body-result source) has clean in
    let held : IfPart (λ p. is_spelled p ≡ true → has_types p ≡ true) (elaborated source).part =
    if-by (λ q. Unit {0} × (Unit {0} × IsTypedStmt ds r q.1.1)) (λ p. is_spelled p ≡ true → has_types p ≡ true) parts.part _ (body-in source (IsTypedStmt ds r) body none.0) (λ q h. h.1.1) in
    subst (λ o. IfPart (λ p. is_spelled p ≡ true → has_types p ≡ true) o) typed.is held spelled
