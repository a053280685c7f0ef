use Rattle.std.proofs.Common.{◌∙◌, ap}
use Rattle.gm_ast.specs.Tree.{expr_of, stmt_of}
use Rattle.gm_dissect.proofs.Trees.{ok-then}
use Rattle.gm_cut.specs.Lean.{lean_loop}
use Rattle.gm_slices.proofs.slices.slice_loop.Goals as goal

pub returns : goal.returns
returns c =
    let site = c.args.site in
    let ds = c.args.declarations.now in
    ok-then c.slice_taken.result c.slice_taken.ensures (λ r e.
    e ∙ ap (λ f. lean_loop ds site.key site.place site.head (expr_of f) (stmt_of c.taken-body.result)) c.taken_value-mask.ensures
    ∙ ap (λ s. lean_loop ds site.key site.place site.head (expr_of c.args.filter.now) (stmt_of s)) c.taken-body.ensures)
