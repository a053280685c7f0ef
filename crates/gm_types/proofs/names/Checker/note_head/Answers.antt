use Rattle.std.proofs.Common.{◌∙◌, ap, subst, map}
use Rattle.gm_ast.specs.declared.kinds.Role.TheVariants.{Input, Output}
use Rattle.gm_ast.specs.Names.{Env}
use Rattle.gm_ast.specs.Procedures.{types_broken, result_broken}
use Rattle.gm_ast.specs.SurfaceTree.{procedure_of, group_of}
use Rattle.gm_types.specs.Notes.{Notes}
use Rattle.gm_types.proofs.Noted.{notes-then, same-around}
use Rattle.gm_types.proofs.names.Checker.note_head.Goals as goal

pub returns : goal.returns
returns c = λ same.
    let p = procedure_of c.args.procedure.now in
    let s1 = c.note_inputs.new.self in
    let s2 = c.note_types.new.self in
    let s3 = c.note_types-2.new.self in
    let n1 = c.note_inputs.ensures in
    let e1 = same-around n1 ∙ same in
    let n2 = subst (λ (e : Env). Notes s1 s2 (types_broken Input e p.inputs)) e1 (rw c.deref.ensures.value at c.note_types.ensures) in
    let e2 = same-around n2 ∙ e1 in
    let n3 = subst (λ (e : Env). Notes s2 s3 (types_broken Output e p.outputs)) e2 (rw c.deref-2.ensures.value at c.note_types-2.ensures) in
    let e3 = same-around n3 ∙ e2 in
    let n4 = subst (λ (e : Env). Notes s3 c.note_result.new.self (result_broken e p.result)) e3 c.note_result.ensures in
    notes-then _ _ n1 (notes-then _ _ n2 (notes-then _ _ n3 n4))
