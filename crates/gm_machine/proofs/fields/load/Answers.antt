-- The value of one more row is read.
use Rattle.std.proofs.Common.{◌<◌, ◌∙◌, List, [], map, length, get_or, sym, ap, subst, arith}
use Rattle.std.proofs.lemmas.List.{length-map}
use Rattle.std.proofs.lemmas.List.Elements.{All-get_or}
use Rattle.gm_value.specs.declared.values.Value.TheVariants.{At}
use Rattle.std.specs.Prelude.{None}
use Rattle.gm_columns.specs.declared.cells.Cells.{Cells}
use Rattle.gm_columns.specs.Cells.{values_of}
use Rattle.gm_machine.proofs.FieldRows.{HasValue, map-read, row-more}
use Rattle.gm_machine.proofs.fields.load.Goals as goal

pub get-requires : goal.get-requires
get-requires c =
    let rows : List Cells = c.args.rows.now in
    let inside : c.loop-row.row-index < length (map values_of rows) = omega (arith, c.loop-row-test.true, length-map rows values_of) in
    subst (HasValue c.args.node) (map-read values_of rows c.loop-row.row-index c.row-item.result [] c.loop-row-test.true c.row-item.is)
    (All-get_or (HasValue c.args.node) (map values_of rows) c.loop-row.row-index [] inside c.requires)

pub loop-row-preserved : goal.loop-row-preserved
loop-row-preserved c =
    let rows : List Cells = c.args.rows.now in
    let inside : c.loop-row.row-index < length (map values_of rows) = omega (arith, c.loop-row-test.true, length-map rows values_of) in
    row-more (map values_of rows) c.args.node c.loop-row.row-index [] c.get.result c.loop-row.into.items c.push.new.self.items inside
    (c.get.ensures (At None) ∙ ap (λ values. get_or values c.args.node (At None)) (sym (map-read values_of rows c.loop-row.row-index c.row-item.result [] c.loop-row-test.true c.row-item.is)))
    c.in_ok-push.ensures.items c.loop-row.invariant
