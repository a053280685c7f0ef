use Rattle.std.proofs.Common.{◌∙◌, [], ap, get_or, map, set, sym}
use Rattle.std.proofs.lemmas.List.{map-set}
use Rattle.gm_columns.specs.Cells.{values_of}
use Rattle.gm_batch_handlers.specs.Gifts.{held_in}
use Rattle.gm_batch_handlers.proofs.totals.store_one.Goals as goal

pub returns-in-Some : goal.returns-in-Some
returns-in-Some c =
    let fields = c.args.fields.now.items in
    let slot = c.args.slot in
    map-set values_of fields slot c.stored.result
    ∙ ap (set (map values_of fields) slot) (c.stored.ensures ∙ ap (held_in (get_or (map values_of fields) slot [])) (sym c.in-Some.is))
