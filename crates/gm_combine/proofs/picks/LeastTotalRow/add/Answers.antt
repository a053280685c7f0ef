-- One more value in a row of least values.
use Rattle.std.proofs.Common.{◌≡◌, ◌<◌, length, get_or, true, false, sym, subst, ◌∙◌, arith}
use Rattle.gm_combine.proofs.Picking.{any-default, least}
use Rattle.gm_combine.proofs.picks.LeastTotalRow.add.Goals as goal

pub returns-clause-added : goal.returns-clause-added
returns-clause-added g c =
    let cells = c.args.self.now.cells.items in
    let marks = c.args.self.now.marks.items in
    let as_many : length marks ≡ length cells = c.requires.room.1.1 in
    let in_marks : c.args.place < length marks = omega (arith, as_many, c.requires.place) in
    let is_marked : c.index-is_held.result.now ≡ get_or marks c.args.place false = c.index-is_held.ensures ∙ any-default marks c.args.place c.index-is_held.result.now false in_marks in
    λ r serves. least g.T.Number.value r cells marks c.args.place c.index-held.result.now c.lesser.result c.args.value serves
    c.requires.place in_marks c.index-held.ensures
    (λ none. c.lesser.ensures.first (is_marked ∙ none)) (λ some. c.lesser.ensures.more (is_marked ∙ some))
