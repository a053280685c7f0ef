use Rattle.std.proofs.Common.{◌≡◌, ◌∙◌, ap, sym, map, take, get_or, slice_index_or, ◌++◌, ◌∷◌, []}
use Rattle.std.proofs.lemmas.List.{get_or_read, map_more, take_all}
use Rattle.gm_columns.proofs.columns.picked.Goals as goal

pub loop-row-preserved : goal.loop-row-preserved
loop-row-preserved g c = λ d.
    let cells = c.args.cells.now in
    let rows = c.args.rows.now in
    let i = c.loop-row.row-index in
    let cell = c.index-cells-row.result in
    let read : cell ≡ get_or cells (get_or rows i 0) d = get_or_read cells (get_or rows i 0) cell (c.requires i 0 c.loop-row-test.true) c.index-cells-row.is d in
    c.in_ok-push.ensures.items
    ∙ ap (λ l. l ++ cell ∷ []) (c.loop-row.invariant d)
    ∙ ap (λ x. map (λ row. get_or cells row d) (take i rows) ++ x ∷ []) read
    ∙ sym (map_more (λ row. get_or cells row d) rows i 0 c.loop-row-test.true)

pub returns : goal.returns
returns g c = λ d. c.loop-row.invariant d ∙ ap (λ l. map (λ row. slice_index_or c.args.cells.now row d) l) (take_all c.loop-row.row-index c.args.rows.now c.loop-row-test.false)
