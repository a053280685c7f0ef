use Rattle.std.proofs.Common.{◌≡◌, ◌∙◌, ap, sym, subst}
use Rattle.std.specs.Prelude.{IfOk}
use Rattle.gm_ast.specs.Tree.{program_of}
use Rattle.gm_cut.specs.Lean.{has_slices_that_go, in_lean_slices}
use Rattle.gm_cut.specs.Parts.{in_pieces}
use Rattle.gm_forms.specs.Meanings.{SameMeaning}
use Rattle.gm_forms.specs.Ready.{Ready3}
use Rattle.gm_dissect.proofs.Trees.{ok-then}
use Rattle.gm_parting.specs.Apart.{with_statements_apart}
use Rattle.gm_parting.specs.Passes.{dissected}
use Rattle.gm_parting.proofs.LeanPrograms.{lean-same, lean-ready}
use Rattle.gm_dissecting.proofs.dissect.dissect.Goals as goal

pub returns-clause-made : goal.returns-clause-made
returns-clause-made c =
    ok-then c.slice_inner_loops.result c.slice_inner_loops.ensures.made
    (λ r e. e ∙ ap in_lean_slices (c.in_ok-apart.ensures.made ∙ ap with_statements_apart (c.in_ok-parted.ensures.made ∙ ap in_pieces c.in_ok-whole.ensures.made)))

pub returns-clause-same : goal.returns-clause-same
returns-clause-same c =
    let p = program_of c.args.program in
    let made : IfOk c.slice_inner_loops.result (λ r. program_of r ≡ dissected p) = returns-clause-made c in
    ok-then c.slice_inner_loops.result made (λ r same ready may sliced. subst (SameMeaning p) (sym same) (lean-same p ready may sliced))

pub returns-clause-ready : goal.returns-clause-ready
returns-clause-ready c =
    let p = program_of c.args.program in
    let made : IfOk c.slice_inner_loops.result (λ r. program_of r ≡ dissected p) = returns-clause-made c in
    ok-then c.slice_inner_loops.result made (λ r same ready may sliced. subst Ready3 (sym same) (lean-ready p ready may sliced))

pub returns-clause-ways : goal.returns-clause-ways
returns-clause-ways c =
    ok-then c.slice_inner_loops.result c.slice_inner_loops.ensures.ways
    (λ r e. e ∙ ap has_slices_that_go (c.in_ok-apart.ensures.made ∙ ap with_statements_apart (c.in_ok-parted.ensures.made ∙ ap in_pieces c.in_ok-whole.ensures.made)))
