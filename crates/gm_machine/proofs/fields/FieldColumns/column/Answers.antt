-- The values of a row, and NIL where there is none.
use Rattle.std.proofs.Common.{◌≡◌, ◌<◌, ◌≤◌, ◌∙◌, List, length, get_or, ap, subst}
use Rattle.gm_columns.specs.declared.cells.Cells.{Cells}
use Rattle.gm_columns.specs.Cells.{values_of}
use Rattle.gm_machine.proofs.FieldRows.{column-read, column-past}
use Rattle.gm_machine.proofs.fields.FieldColumns.column.Goals as goal

pub returns-in_ok-values-in-Some : goal.returns-in_ok-values-in-Some
returns-in_ok-values-in-Some c =
    let rows : List Cells = c.args.self.now.rows.items in
    let inside : c.args.slot < length rows = subst (λ cells. c.args.slot < length cells) c.deref.ensures.value c.in-Some.ensures.lookup.3.0 in
    let read : c.in-Some.row.now ≡ get_or rows c.args.slot c.in-Some.row.now = c.in-Some.ensures.lookup.1 ∙ ap (λ cells. get_or cells c.args.slot c.in-Some.row.now) c.deref.ensures.value in
    c.in_ok-values-in-Some.ensures ∙ column-read values_of rows c.args.self.now.nodes c.args.slot c.in-Some.row.now c.requires.full inside read

pub returns-in_ok-values-in-None : goal.returns-in_ok-values-in-None
returns-in_ok-values-in-None c =
    let rows : List Cells = c.args.self.now.rows.items in
    let past : length rows ≤ c.args.slot = subst (λ cells. length cells ≤ c.args.slot) c.deref.ensures.value c.in-None.ensures.lookup.3 in
    c.in_ok-values-in-None.ensures ∙ column-past values_of rows c.args.self.now.nodes c.args.slot past
