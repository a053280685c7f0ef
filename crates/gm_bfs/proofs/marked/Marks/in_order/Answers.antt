use Rattle.std.proofs.Common.{ap, ◌∙◌}
use Rattle.std.specs.Map.Iter.{deref}
use Rattle.std.proofs.lemmas.Map.Iter.{rest_all}
use Rattle.gm_bfs.specs.Marked.{marked_from}
use Rattle.gm_bfs.proofs.Tables.{all-found}
use Rattle.gm_bfs.proofs.marked.Marks.in_order.Goals as goal

pub returns : goal.returns
returns c =
    let at = c.loop-variable in
    all-found c.self.inside.variables c.self.inside.count at.marked.items at.variable-iterator c.into_iter-variable-iterator.ensures.into_iter_gives.4
    (rest_all deref _ _ _ c.in-None.is c.next.ensures.steps) at.invariant
    ∙ ap (marked_from 0) c.self.view_is
