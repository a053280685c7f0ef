use Rattle.std.proofs.Common.{◌≡◌, [], ◌∷◌, map, ap, ◌++◌, ◌∙◌, rules}
use Rattle.gm_ast.specs.Program.{sequence}
use Rattle.gm_ast.specs.Tree.{stmt_of}
use Rattle.gm_cut.specs.Slices.{statements_of}
use Rattle.gm_dissect.proofs.Trees.{ok-then}
use Rattle.gm_loop_laws.specs.Resumed.{resumed}
use Rattle.gm_slices.proofs.slices.slice_of.Goals as goal

pub returns : goal.returns
returns c =
    let nest = c.args.nest.now in
    let ds = c.args.declarations.now in
    let n = nest.around.head.iterator in
    let its = n ∷ nest.within.head.iterator ∷ [] in
    let first : stmt_of c.in_ok-group.first ≡ sequence (map stmt_of c.args.done.now.items) = search rules in
    let last : stmt_of c.in_ok-group.group ≡ sequence (map stmt_of c.args.before.now.items ++ map stmt_of c.args.behind.now.items) = ap stmt_of c.in_ok-group.ensures.first ∙ c.in_ok-last.ensures in
    ok-then c.slice.result c.slice.ensures (λ r e.
    e ∙ ap (λ s. sequence (statements_of (resumed ds its n s (stmt_of c.in_ok-group.group)))) first ∙ ap (λ s. sequence (statements_of (resumed ds its n (sequence (map stmt_of c.args.done.now.items)) s))) last)
