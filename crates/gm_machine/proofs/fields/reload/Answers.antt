-- The value of one more row is read.
use Rattle.std.proofs.Common.{◌≡◌, ◌<◌, ◌∙◌, List, [], map, length, get_or, sym, ap, subst, arith}
use Rattle.std.specs.Prelude.{None}
use Rattle.std.proofs.lemmas.List.{length-map, same_lists}
use Rattle.std.proofs.lemmas.List.Elements.{All-get_or}
use Rattle.gm_value.specs.declared.values.Value.TheVariants.{At}
use Rattle.gm_columns.specs.declared.cells.Cells.{Cells}
use Rattle.gm_columns.specs.Cells.{values_of}
use Rattle.gm_machine.specs.Machine.{row_at}
use Rattle.gm_machine.specs.Expressions.{value_at}
use Rattle.gm_machine.proofs.FieldRows.{HasValue, map-read, read-long, read-more}
use Rattle.gm_machine.proofs.fields.reload.Goals as goal

pub get-requires : goal.get-requires
get-requires c =
    let rows : List Cells = c.args.rows.now in
    let inside : c.loop-slot.slot < length (map values_of rows) = omega (arith, c.loop-slot-test.true, length-map rows values_of) in
    subst (HasValue c.args.node) (map-read values_of rows c.loop-slot.slot c.index-rows-slot.result [] c.loop-slot-test.true c.index-rows-slot.is)
    (All-get_or (HasValue c.args.node) (map values_of rows) c.loop-slot.slot [] inside c.requires.inside)

pub loop-slot-preserved : goal.loop-slot-preserved
loop-slot-preserved c =
    let rows : List Cells = c.args.rows.now in
    let inside : c.loop-slot.slot < length (map values_of rows) = omega (arith, c.loop-slot-test.true, length-map rows values_of) in
    let room : c.loop-slot.slot < length c.loop-slot.into.items = omega (arith, c.loop-slot-test.true, c.loop-slot.invariant.long) in
    record {
      long = read-long c.loop-slot.slot c.get.result c.loop-slot.into.items ∙ c.loop-slot.invariant.long;
      read =
          read-more (map values_of rows) c.args.node c.loop-slot.slot c.get.result c.loop-slot.into.items inside room
          (c.get.ensures (At None) ∙ ap (λ values. get_or values c.args.node (At None)) (sym (map-read values_of rows c.loop-slot.slot c.index-rows-slot.result [] c.loop-slot-test.true c.index-rows-slot.is)))
          c.loop-slot.invariant.read;
    }

pub returns : goal.returns
returns c =
    let rows : List Cells = c.args.rows.now in
    let wide : length (row_at (map values_of rows) c.args.node) ≡ length rows = length-map (map values_of rows) (λ values. value_at values c.args.node) ∙ length-map rows values_of in
    same_lists c.loop-slot.into.items (row_at (map values_of rows) c.args.node)
    (c.loop-slot.invariant.long ∙ sym wide)
    (λ k d h. let below : k < c.loop-slot.slot = omega (arith, h, c.loop-slot.invariant.long, c.loop-slot-test.false) in c.loop-slot.invariant.read k d below)
