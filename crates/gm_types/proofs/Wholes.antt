-- A whole procedure, from the judging of its parts.
use Rattle.std.proofs.Common.{◌≡◌, ℕ, ◌+◌, List, [], ◌∷◌, ◌++◌, ap, sym, refl, ◌∙◌, Option, Bool, true, false, append-nil, append_assoc, arith}
use Rattle.std.specs.Prelude.{Some, None, Ok, if◌then◌else◌}
use Rattle.gm_base.specs.declared.rules.Refusal.{Refusal}
use Rattle.gm_base.specs.declared.rules.Stop.{Stop}
use Rattle.gm_base.specs.declared.rules.Stop.TheVariants.{Refused, NoMemory}
use Rattle.gm_base.specs.Rules.{refusal_lt, lesser, least_from, least}
use Rattle.gm_ast.specs.declared.tree.Variable.{Variable}
use Rattle.gm_ast.specs.Surface.{SurfaceName, SurfaceGroup, SurfaceProcedure}
use Rattle.gm_ast.specs.Program.{Program, Stmt}
use Rattle.gm_ast.specs.Judged.{both_of, part_by, broken_by}
use Rattle.gm_ast.specs.Names.{Env, with_name, numbered}
use Rattle.gm_ast.specs.Statements.{declared_all, with_names, variable_of, checked}
use Rattle.gm_ast.specs.Procedures.{nothing_known, parameters, with_parameters, result_of, env_of_outputs, env_of_body, head_broken, parts_of, elaborated}
use Rattle.gm_types.specs.declared.names.Checker.{Checker}
use Rattle.gm_types.specs.Views.{env_of, Gives, Judges}
use Rattle.gm_types.specs.Notes.{Notes}
use Rattle.gm_types.specs.Stops.{IsStopOf, IsLeastStop, program_with}
use Rattle.gm_types.proofs.Leasts.{least_from-append}
use Rattle.gm_types.proofs.Sequences.{nothing_broken}

-- a checker that has judged a whole procedure
pub record Whole (p : SurfaceProcedure) (s : Checker) (body : Option Stmt) : Type 0 where
  pub part : (parts_of p).part ≡ both_of (Some (tt {0}, tt {0})) (both_of (Some (tt {0})) body)
  pub least : s.least ≡ least (parts_of p).broken
  pub declared : s.declarations.items ≡ (parts_of p).declared
  pub number : s.number ≡ (parts_of p).numbers

-- declarations take no statement numbers
no-numbers : (v : Variable) (xs : List SurfaceName) (env : Env) → (declared_all v xs env).numbers ≡ 0
no-numbers v [] env = refl
no-numbers v (x ∷ xs) env = let h = no-numbers v xs (with_name env x v) in omega (arith, h)

-- nor do parameters
no-numbers-in : (gs : List SurfaceGroup) (env : Env) → (parameters gs env).numbers ≡ 0
no-numbers-in [] env = refl
no-numbers-in (g ∷ gs) env =
    let h = no-numbers (variable_of g.vtype 0) g.names env in
    let k = no-numbers-in gs (with_names (variable_of g.vtype 0) g.names env) in
    omega (arith, h, k)

-- the number of the next statement after declarations
same-number : (v : Variable) (xs : List SurfaceName) (env : Env) → (with_names v xs env).number ≡ env.number
same-number v [] env = refl
same-number v (x ∷ xs) env = same-number v xs (with_name env x v)

-- and after parameters
same-number-in : (gs : List SurfaceGroup) (env : Env) → (with_parameters gs env).number ≡ env.number
same-number-in [] env = refl
same-number-in (g ∷ gs) env = same-number-in gs (with_names (variable_of g.vtype 0) g.names env) ∙ same-number (variable_of g.vtype 0) g.names env

-- a procedure's parameters, head and body, one after another
pub whole : {c0 s1 s2 s3 s6 : Checker} {body : Option Stmt} (p : SurfaceProcedure)
    → env_of c0 ≡ nothing_known (result_of p) → c0.declarations.items ≡ [] → c0.least ≡ None
    → Gives c0 s1 (parameters p.inputs (env_of c0)) (Some (tt {0})) (with_parameters p.inputs (env_of c0))
    → Gives s1 s2 (parameters p.outputs (env_of s1)) (Some (tt {0})) (with_parameters p.outputs (env_of s1))
    → (env_of s2 ≡ env_of_body p → Notes s2 s3 (head_broken p))
    → Judges s3 s6 (numbered (checked p.body) (env_of s3)) body
    → Whole p s6 body
whole {c0 = c0} {s1 = s1} {s2 = s2} {s3 = s3} {s6 = s6} {body = body} p e0 empty none g1 g2 note j =
    let P1 = parameters p.inputs (nothing_known (result_of p)) in
    let P2 = parameters p.outputs (env_of_outputs p) in
    let B = numbered (checked p.body) (env_of_body p) in
    let e1 : env_of s1 ≡ env_of_outputs p = g1.names ∙ ap (with_parameters p.inputs) e0 in
    let e2 : env_of s2 ≡ env_of_body p = g2.names ∙ ap (with_parameters p.outputs) e1 in
    let n = note e2 in
    let e3 : env_of s3 ≡ env_of_body p = ap env_of n.rest ∙ e2 in
    let p1 : P1.part ≡ Some (tt {0}) = sym (g1.stands_for ∙ ap (λ (e : Env). (parameters p.inputs e).part) e0) in
    let p2 : P2.part ≡ Some (tt {0}) = sym (g2.stands_for ∙ ap (λ (e : Env). (parameters p.outputs e).part) e1) in
    let b : body ≡ B.part = j.stands_for ∙ ap (λ (e : Env). (numbered (checked p.body) e).part) e3 in
    let l1 : s1.least ≡ least_from None P1.broken = g1.least ∙ ap (λ l. least_from l (parameters p.inputs (env_of c0)).broken) none ∙ ap (λ (e : Env). least_from None (parameters p.inputs e).broken) e0 in
    let l2 : s2.least ≡ least_from (least_from None P1.broken) P2.broken = g2.least ∙ ap (λ l. least_from l (parameters p.outputs (env_of s1)).broken) l1 ∙ ap (λ (e : Env). least_from (least_from None P1.broken) (parameters p.outputs e).broken) e1 in
    let l3 : s3.least ≡ least_from (least_from None (P1.broken ++ P2.broken)) (head_broken p) = n.least ∙ ap (λ l. least_from l (head_broken p)) (l2 ∙ sym (least_from-append None P1.broken P2.broken)) in
    let d1 : s1.declarations.items ≡ P1.declared = g1.declared ∙ ap (λ ds. ds ++ (parameters p.inputs (env_of c0)).declared) empty ∙ ap (λ (e : Env). (parameters p.inputs e).declared) e0 in
    let d2 : s2.declarations.items ≡ P1.declared ++ P2.declared = g2.declared ∙ ap (λ ds. ds ++ (parameters p.outputs (env_of s1)).declared) d1 ∙ ap (λ (e : Env). P1.declared ++ (parameters p.outputs e).declared) e1 in
    let d3 : s3.declarations.items ≡ P1.declared ++ P2.declared = ap (λ (s : Checker). s.declarations.items) n.rest ∙ d2 in
    record {
      part = ap (λ o. both_of (both_of o P2.part) (both_of (Some (tt {0})) B.part)) p1 ∙ ap (λ o. both_of (both_of (Some (tt {0})) o) (both_of (Some (tt {0})) B.part)) p2
          ∙ ap (λ o. both_of (Some (tt {0}, tt {0})) (both_of (Some (tt {0})) o)) (sym b);
      least = j.least ∙ ap (λ (e : Env). least_from s3.least (numbered (checked p.body) e).broken) e3 ∙ ap (λ l. least_from l B.broken) l3
          ∙ sym (least_from-append (least_from None (P1.broken ++ P2.broken)) (head_broken p) B.broken) ∙ sym (least_from-append None (P1.broken ++ P2.broken) (head_broken p ++ B.broken));
      declared = j.declared ∙ ap (λ (e : Env). s3.declarations.items ++ (numbered (checked p.body) e).declared) e3 ∙ ap (λ ds. ds ++ B.declared) d3;
      number =
          let a : s6.number ≡ s3.number + (numbered (checked p.body) (env_of s3)).numbers = ap (λ (e : Env). e.number) j.names in
          let same : (numbered (checked p.body) (env_of s3)).numbers ≡ B.numbers = ap (λ (e : Env). (numbered (checked p.body) e).numbers) e3 in
          let start : s3.number ≡ (env_of_body p).number = ap (λ (e : Env). e.number) e3 in
          let outputs : (env_of_body p).number ≡ (env_of_outputs p).number = same-number-in p.outputs (env_of_outputs p) in
          let inputs : (env_of_outputs p).number ≡ 0 = same-number-in p.inputs (nothing_known (result_of p)) in
          let z1 : P1.numbers ≡ 0 = no-numbers-in p.inputs (nothing_known (result_of p)) in
          let z2 : P2.numbers ≡ 0 = no-numbers-in p.outputs (env_of_outputs p) in
          omega (arith, a, same, start, outputs, inputs, z1, z2);
    }

-- the least of all that a procedure breaks
pub least-whole : {p : SurfaceProcedure} {s : Checker} {body : Option Stmt} → Whole p s body → least (elaborated p).broken ≡ s.least
least-whole {p = p} w =
    let parts = parts_of p in
    ap (λ bs. least (parts.broken ++ bs)) (nothing_broken parts.part (λ q. program_with p parts.declared parts.numbers q.1.1)) ∙ ap least (append-nil parts.broken) ∙ sym w.least

-- the program of a procedure
pub program-whole : {s : Checker} {body : Option Stmt} (p : SurfaceProcedure) (b : Stmt) (q : Program) → Whole p s body → body ≡ Some b → q ≡ program_with p s.declarations.items s.number b
    → (elaborated p).part ≡ Some q
program-whole {s = s} p b q w h is =
    let parts = parts_of p in
    ap (λ o. part_by o (λ r. Ok (program_with p parts.declared parts.numbers r.1.1))) (w.part ∙ ap (λ o. both_of (Some (tt {0}, tt {0})) (both_of (Some (tt {0})) o)) h)
    ∙ ap Some (ap (λ ds. program_with p ds parts.numbers b) (sym w.declared) ∙ ap (λ n. program_with p s.declarations.items n b) (sym w.number) ∙ sym is)

-- the least of some refusals and more is one
some-stays : (a : Refusal) (rs : List Refusal) → (q : Refusal) × (least_from (Some a) rs ≡ Some q)
some-stays a [] = (a, refl)
some-stays a (r ∷ rs) = on (refusal_lt r a) (some-stays r rs) (some-stays a rs)
  where
    on : (b : Bool) → ((q : Refusal) × (least_from (Some r) rs ≡ Some q)) → ((q : Refusal) × (least_from (Some a) rs ≡ Some q)) → (q : Refusal) × (least_from (if b then Some r else Some a) rs ≡ Some q)
    on true x y = x
    on false x y = y

-- where there is no least, nothing is broken
pub nothing-least : (rs : List Refusal) → least rs ≡ None → rs ≡ []
nothing-least [] h = refl
nothing-least (r ∷ rs) h =
    let (q, k) = some-stays r rs in
    let bad = sym k ∙ h in
    cc

-- why a procedure stands for no program
pub stop-whole : {p : SurfaceProcedure} {s : Checker} {body : Option Stmt} → Whole p s body → (stop : Stop) → IsLeastStop s.least stop → IsStopOf p stop
stop-whole w (Refused r) h = least-whole w ∙ h
stop-whole w NoMemory h = tt
