use Rattle.std.proofs.Common.{false, true, [], ◌∷◌, ◌++◌, ap, ◌∙◌}
use Rattle.gm_ast.specs.Program.{sequence}
use Rattle.gm_ast.specs.Tree.{stmt_of}
use Rattle.gm_cut.specs.Slices.{statements_of}
use Rattle.gm_dissect.proofs.Trees.{ok-then}
use Rattle.gm_slices.specs.Keeping.{wanted, with_wants}
use Rattle.gm_slices.specs.Needs.{none}
use Rattle.gm_slices.proofs.Wanted.{slice-same}
use Rattle.gm_slices.proofs.slicing.slice.Goals as goal

pub returns : goal.returns
returns c =
    let ds = c.args.declarations.now in
    let n = c.args.ends.outer in
    let its = n ∷ c.args.ends.inner ∷ [] in
    let done = stmt_of c.args.done in
    let group = stmt_of c.args.group in
    ok-then c.opened.result c.opened.ensures (λ r e.
    e ∙ ap (λ s. sequence (statements_of s ++ statements_of (stmt_of c.in_ok-first.second))) c.in_ok-first.ensures.done
    ∙ ap (λ s. sequence (statements_of (wanted ds its n false done (with_wants ds its n true group none)) ++ statements_of s)) c.in_ok-first.ensures.group ∙ ap sequence (slice-same ds its n done group))
