use Rattle.std.proofs.Common.{◌≡◌, ◌∙◌}
use Rattle.gm_ast.specs.Program.{Foreach}
use Rattle.gm_ast.specs.Tree.{expr_of}
use Rattle.gm_bfs.specs.Copies.{reading}
use Rattle.gm_bfs.specs.Searches.{conjunction, is_on}
use Rattle.gm_bfs.proofs.readings.ranged.Goals as goal

pub returns : goal.returns
returns c key place =
    let head = c.args.head.now in
    let filter : expr_of c.conjoin.new.second ≡ conjunction (is_on c.args.fresh head c.args.level) (reading c.args.fresh c.args.marks.now head.iterator (expr_of c.args.filter.now)) =
    c.in_ok-conjoin.ensures ∙ (λ i. conjunction (c.in_ok-test.ensures i) (c.in_ok-read_copies.ensures i)) in
    λ i. Foreach key place (record head { domain = c.args.domain }) (filter i) (c.in_ok-read_inner.ensures i)
