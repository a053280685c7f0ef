use Rattle.std.proofs.Common.{◌≡◌, rules, [], ◌++◌, refl, ap, ◌∙◌, map}
use Rattle.gm_ast.specs.Tree.{expr_of, stmt_of}
use Rattle.gm_cut.specs.Walks.{branch_pieces, loops_of}
use Rattle.gm_cut.proofs.Walks.{branch_end}
use Rattle.gm_cut.proofs.pieces.all_pieces.Goals as goal

pub returns : goal.returns
returns c =
    let k = c.args.site.key in
    let at = c.args.site.place in
    let h = c.args.site.head in
    let mask = expr_of c.args.mask.now in
    let body = stmt_of c.args.body in
    let first = c.begin-walk.result in
    let behind = c.in_ok-behind.behind in
    let closed = c.in_ok-closed.closed in
    let none : map stmt_of first.loops.items ≡ [] = search rules in
    let all : map stmt_of closed.loops.items ≡ map stmt_of first.loops.items ++ loops_of k at h (branch_pieces h.iterator at mask body) =
    branch_end k at h mask mask body (map stmt_of first.run.items) (map stmt_of behind.run.items) (map stmt_of first.loops.items) (map stmt_of behind.loops.items) (map stmt_of closed.loops.items)
    refl (ap (map stmt_of) c.begin-walk.ensures.run) c.in_ok-behind.ensures.loops c.in_ok-behind.ensures.run c.in_ok-closed.ensures.loops in
    all ∙ ap (λ l. l ++ loops_of k at h (branch_pieces h.iterator at mask body)) none
