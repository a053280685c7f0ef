-- The program of a text is ordered.
use Rattle.std.proofs.Common.{◌≡◌, ℕ, true, List, [], ◌∷◌, ◌++◌, refl, subst, ◌∙◌}
use Rattle.gm_ast.specs.declared.tree.Variable.{Variable}
use Rattle.gm_ast.specs.Surface.{SurfaceName, SurfaceGroup, SurfaceProcedure}
use Rattle.gm_ast.specs.Program.{Program}
use Rattle.gm_ast.specs.Canonical.{uncanonical}
use Rattle.gm_ast.specs.Names.{Env, with_name}
use Rattle.gm_ast.specs.Statements.{variable_of, with_names}
use Rattle.gm_ast.specs.Procedures.{nothing_known, with_parameters, env_of_outputs, env_of_body, result_of}
use Rattle.gm_forms.specs.Order.{is_ordered}
use Rattle.gm_desugar.specs.Literals.{with_negative_literals}
use Rattle.gm_hoisting.specs.Throughout.{stands_throughout}
use Rattle.gm_hoisting.specs.Totals.{can_be_hoisted}
use Rattle.gm_hoisting.proofs.Throughout.{throughout-hoisted}
use Rattle.gm_ready.proofs.Judging.{IfPart}
use Rattle.gm_order.specs.Places.{ascend, places_of_each, places_of_group, places_of, places_of_procedure}
use Rattle.gm_order.specs.Laws.{HasProgram}
use Rattle.gm_order.proofs.Befores.{ascend-tail, ascend-right}
use Rattle.gm_order.proofs.Shapes.{procedure-shaped}
use Rattle.gm_order.proofs.OrderedPhases.{Orders, elaborated-ordered}
use Rattle.gm_order.proofs.Spelled.{text-ascends}

-- parameters stand in no loop
names-depth : (v : Variable) (xs : List SurfaceName) (env : Env) → (with_names v xs env).depth ≡ env.depth
names-depth v [] env = refl
names-depth v (x ∷ xs) env = names-depth v xs (with_name env x v)

parameters-depth : (gs : List SurfaceGroup) (env : Env) → (with_parameters gs env).depth ≡ env.depth
parameters-depth [] env = refl
parameters-depth (g ∷ gs) env = parameters-depth gs (with_names (variable_of g.vtype 0) g.names env) ∙ names-depth (variable_of g.vtype 0) g.names env

body-depth : (p : SurfaceProcedure) → (env_of_body p).depth ≡ 0
body-depth p = parameters-depth p.outputs (env_of_outputs p) ∙ parameters-depth p.inputs (nothing_known (result_of p))

body-ascends : (p : SurfaceProcedure) → ascend (places_of_procedure p) ≡ true → ascend (places_of p.body) ≡ true
body-ascends p h =
    let ins = places_of_each places_of_group p.inputs in
    let outs = places_of_each places_of_group p.outputs in
    ascend-right outs (places_of p.body) (ascend-right ins (outs ++ places_of p.body) (ascend-tail p.name.place (ins ++ (outs ++ places_of p.body)) h))

orders : (text : List ℕ) (p : Program) → HasProgram text p → Orders p
orders text p s = subst (IfPart Orders) s.is (elaborated-ordered s.tree (body-ascends s.tree (text-ascends text s.tree s.spelled)) (procedure-shaped s.spelled.spelled) (body-depth s.tree))

pub text-ordered : (text : List ℕ) (p : Program) → HasProgram text p → uncanonical p ≡ [] → is_ordered p ≡ true
text-ordered text p s canonical = (orders text p s canonical).0

pub text-throughout : (text : List ℕ) (p : Program) → HasProgram text p → uncanonical p ≡ [] → stands_throughout (with_negative_literals p) ≡ true
text-throughout text p s canonical = (orders text p s canonical).2

pub text-hoisted : (text : List ℕ) (p : Program) → HasProgram text p → uncanonical p ≡ [] → can_be_hoisted p ≡ true
text-hoisted text p s canonical = let o = orders text p s canonical in throughout-hoisted p o.0 o.1
