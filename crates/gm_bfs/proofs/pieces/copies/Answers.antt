use Rattle.std.proofs.Common.{ap, ◌∙◌, map}
use Rattle.gm_bfs.specs.Searches.{copy_property}
use Rattle.gm_bfs.proofs.Copying.{copies-marked}
use Rattle.gm_bfs.proofs.InPlaceTrees.{if-ok}
use Rattle.gm_bfs.proofs.pieces.copies.Goals as goal

pub returns : goal.returns
returns c =
    let a = c.args in
    if-ok c.copy_each.result c.copy_each.ensures (λ r made. made
    ∙ ap (map (copy_property a.site a.fresh)) (c.deref.ensures.value ∙ c.in_ok-properties.ensures)
    ∙ copies-marked a.site a.fresh 0 a.marks.now)
