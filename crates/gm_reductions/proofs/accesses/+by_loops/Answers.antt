use Rattle.std.proofs.Common.{◌≡◌, [], sym, ap, ◌∙◌, map, append-nil}
use Rattle.std.specs.Vec.Iter.{into_iter_items}
use Rattle.gm_ast.specs.Program.{sequence}
use Rattle.gm_ast.specs.Tree.{stmt_of}
use Rattle.gm_reductions.specs.Accesses.{by_loops}
use Rattle.gm_desugar.proofs.Trees.{stmt_of-Block, nothing_left}
use Rattle.gm_reductions.proofs.AccessesOut.{loops-sequence}
use Rattle.gm_reductions.proofs.accesses.+by_loops.Goals as goal

pub returns-in-None : goal.returns-in-None
returns-in-None t c =
    let at = c.loop-stmt in
    let ds = c.args.declarations.now in
    let f = c.args.fresh in
    let its = c.args.around.now in
    let empty : into_iter_items at.stmt-iterator ≡ [] = nothing_left _ (sym at.invariant.2 ∙ c.in-None.ensures.steps.0) in
    let all : at.yielded ≡ c.in-Block.stmts.items = sym (append-nil at.yielded) ∙ rw empty at at.invariant.0 ∙ c.into_iter-stmt-iterator.ensures.into_iter_gives.0 in
    stmt_of-Block at.out ∙ ap sequence at.invariant.1 ∙ sym (loops-sequence ds f its stmt_of at.yielded)
    ∙ ap (λ xs. by_loops ds f its (sequence (map stmt_of xs))) all ∙ ap (by_loops ds f its) (sym (stmt_of-Block c.in-Block.stmts)) ∙ ap (λ s. by_loops ds f its (stmt_of s)) (sym c.in-Block.is)
