-- The value of a row at the node, and NIL where there is no such row.
use Rattle.std.proofs.Common.{◌≡◌, ◌<◌, ◌≤◌, ◌∙◌, List, [], map, length, get_or, sym, ap, subst, arith}
use Rattle.std.specs.Prelude.{None}
use Rattle.std.proofs.lemmas.List.{length-map}
use Rattle.std.proofs.lemmas.List.Elements.{All-get_or}
use Rattle.gm_value.specs.declared.values.Value.{Value}
use Rattle.gm_value.specs.declared.values.Value.TheVariants.{At}
use Rattle.gm_columns.specs.declared.cells.Cells.{Cells}
use Rattle.gm_columns.specs.Cells.{values_of}
use Rattle.gm_machine.specs.Expressions.{value_at}
use Rattle.gm_machine.specs.Fields.{columns_of}
use Rattle.gm_machine.proofs.FieldRows.{HasValue, map-read, full-inside, value-there, value-none, get_or-by_node}
use Rattle.gm_machine.proofs.fields.FieldColumns.get.Goals as goal

pub get-requires-in-Some : goal.get-requires-in-Some
get-requires-in-Some c =
    let rows : List Cells = c.args.self.now.rows.items in
    let inside : c.args.slot < length rows = subst (λ cells. c.args.slot < length cells) c.deref.ensures.value c.in-Some.ensures.lookup.3.0 in
    let read : c.in-Some.row.now ≡ get_or rows c.args.slot c.in-Some.row.now = c.in-Some.ensures.lookup.1 ∙ ap (λ cells. get_or cells c.args.slot c.in-Some.row.now) c.deref.ensures.value in
    let below : c.args.slot < length (map values_of rows) = omega (arith, inside, length-map rows values_of) in
    subst (HasValue c.args.node) (map-read values_of rows c.args.slot c.in-Some.row.now [] inside read)
    (All-get_or (HasValue c.args.node) (map values_of rows) c.args.slot [] below (full-inside c.args.self.now.nodes c.args.node (columns_of c.args.self.now) c.requires.node c.requires.full.full))

pub returns-in-Some : goal.returns-in-Some
returns-in-Some c =
    let rows : List Cells = c.args.self.now.rows.items in
    let inside : c.args.slot < length rows = subst (λ cells. c.args.slot < length cells) c.deref.ensures.value c.in-Some.ensures.lookup.3.0 in
    let read : c.in-Some.row.now ≡ get_or rows c.args.slot c.in-Some.row.now = c.in-Some.ensures.lookup.1 ∙ ap (λ cells. get_or cells c.args.slot c.in-Some.row.now) c.deref.ensures.value in
    let below : c.args.slot < length (map values_of rows) = omega (arith, inside, length-map rows values_of) in
    c.get-in-Some.ensures (At None)
    ∙ ap (λ vs. value_at vs c.args.node) (sym (map-read values_of rows c.args.slot c.in-Some.row.now [] inside read))
    ∙ sym (value-there (columns_of c.args.self.now) c.args.slot c.args.node below)
    ∙ ap (λ r. value_at r c.args.slot) (sym (get_or-by_node c.args.self.now.nodes (columns_of c.args.self.now) c.args.node [] c.requires.node))

pub returns-in-None : goal.returns-in-None
returns-in-None c =
    let rows : List Cells = c.args.self.now.rows.items in
    let past : length rows ≤ c.args.slot = subst (λ cells. length cells ≤ c.args.slot) c.deref.ensures.value c.in-None.ensures.lookup.3 in
    let beyond : length (columns_of c.args.self.now) ≤ c.args.slot = omega (arith, past, length-map rows values_of) in
    sym (value-none (columns_of c.args.self.now) c.args.slot c.args.node beyond)
    ∙ ap (λ r. value_at r c.args.slot) (sym (get_or-by_node c.args.self.now.nodes (columns_of c.args.self.now) c.args.node [] c.requires.node))
