use Rattle.std.proofs.Common.{true, [], ◌++◌, map, ap, ◌∙◌}
use Rattle.gm_ast.specs.Tree.{stmt_of}
use Rattle.gm_slices.specs.Nests.{nest_of}
use Rattle.gm_slices.specs.SliceWalks.{loops_behind}
use Rattle.gm_slices.proofs.slices.all_slices.Goals as goal

pub returns : goal.returns
returns c =
    let first = c.begin-groups.result in
    let ds = c.args.declarations.now in
    let nest = nest_of c.args.nest.now in
    let stmts = map stmt_of c.args.stmts.items in
    c.in_ok-push_slice.ensures ∙ c.in_ok-take_all.ensures
    ∙ ap (λ l. map stmt_of l ++ loops_behind ds nest first.fresh (map stmt_of first.done.items) (map stmt_of first.group.items) (map stmt_of first.waits.items) stmts) c.begin-groups.ensures.loops
    ∙ ap (λ b. loops_behind ds nest b (map stmt_of first.done.items) (map stmt_of first.group.items) (map stmt_of first.waits.items) stmts) c.begin-groups.ensures.fresh
    ∙ ap (λ l. loops_behind ds nest true (map stmt_of l) (map stmt_of first.group.items) (map stmt_of first.waits.items) stmts) c.begin-groups.ensures.done
    ∙ ap (λ l. loops_behind ds nest true [] (map stmt_of l) (map stmt_of first.waits.items) stmts) c.begin-groups.ensures.group
    ∙ ap (λ l. loops_behind ds nest true [] [] (map stmt_of l) stmts) c.begin-groups.ensures.waits
