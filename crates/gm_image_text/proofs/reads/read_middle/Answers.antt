use Rattle.std.proofs.lemmas.Result.{err_from_is_err_and}
use Rattle.std.specs.Prelude.{List, codes}
use Rattle.gm_base.specs.declared.places.Place.{Place}
use Rattle.gm_value.specs.declared.values.VType.{VType}
use Rattle.gm_image.specs.declared.images.Kind.{Kind}
use Rattle.gm_image_text.specs.Lines.{lines_of}
use Rattle.gm_image_text.specs.Reading as rows
use Rattle.gm_image_text.specs.Sections.{Reads, row_at, then_at, listed_at, types_at, middle_at}
use Rattle.gm_image_text.proofs.Sequences.{refused_first, refused_second}
use Rattle.gm_image_text.proofs.reads.read_middle.Goals as goal

abbrev kinds : Reads (List Kind)
kinds ls = listed_at (codes "kinds") (row_at rows.kind_row) ls

abbrev places : Reads (List Place)
places ls = listed_at (codes "places") (row_at rows.place_row) ls

abbrev from_kinds : Reads (List Kind × List Place)
from_kinds ls = then_at kinds places ls

abbrev from_columns : Reads (List VType × (List Kind × List Place))
from_columns ls = then_at (types_at (codes "columns")) from_kinds ls

abbrev from_registers : Reads (List VType × (List VType × (List Kind × List Place)))
from_registers ls = then_at (types_at (codes "registers")) from_columns ls

abbrev from_fields : Reads (List VType × (List VType × (List VType × (List Kind × List Place))))
from_fields ls = then_at (types_at (codes "fields")) from_registers ls

pub returns-in_err-globals : goal.returns-in_err-globals
unfolding middle_at
returns-in_err-globals c =
    let p = err_from_is_err_and c.from_residual.result c.from_residual.ensures.1 in
    rw (p.1, p.2) (refused_first (types_at (codes "globals")) from_fields (lines_of c.args.text.now) _ c.in_err-globals.ensures)

pub returns-in_err-fields : goal.returns-in_err-fields
unfolding middle_at
returns-in_err-fields c =
    let p = err_from_is_err_and c.from_residual-in_err-fields.result c.from_residual-in_err-fields.ensures.1 in
    rw (p.1, p.2) (refused_second (types_at (codes "globals")) from_fields (lines_of c.args.text.now) (lines_of c.in_ok-globals.rest.now) _ _ c.in_ok-globals.ensures (refused_first (types_at (codes "fields")) from_registers (lines_of c.in_ok-globals.rest.now) _ c.in_err-fields.ensures))

pub returns-in_err-registers : goal.returns-in_err-registers
unfolding middle_at
returns-in_err-registers c =
    let p = err_from_is_err_and c.from_residual-in_err-registers.result c.from_residual-in_err-registers.ensures.1 in
    rw (p.1, p.2) (refused_second (types_at (codes "globals")) from_fields (lines_of c.args.text.now) (lines_of c.in_ok-globals.rest.now) _ _ c.in_ok-globals.ensures (refused_second (types_at (codes "fields")) from_registers (lines_of c.in_ok-globals.rest.now) (lines_of c.in_ok-fields.rest.now) _ _ c.in_ok-fields.ensures (refused_first (types_at (codes "registers")) from_columns (lines_of c.in_ok-fields.rest.now) _ c.in_err-registers.ensures)))

pub returns-in_err-columns : goal.returns-in_err-columns
unfolding middle_at
returns-in_err-columns c =
    let p = err_from_is_err_and c.from_residual-in_err-columns.result c.from_residual-in_err-columns.ensures.1 in
    rw (p.1, p.2) (refused_second (types_at (codes "globals")) from_fields (lines_of c.args.text.now) (lines_of c.in_ok-globals.rest.now) _ _ c.in_ok-globals.ensures (refused_second (types_at (codes "fields")) from_registers (lines_of c.in_ok-globals.rest.now) (lines_of c.in_ok-fields.rest.now) _ _ c.in_ok-fields.ensures (refused_second (types_at (codes "registers")) from_columns (lines_of c.in_ok-fields.rest.now) (lines_of c.in_ok-registers.rest.now) _ _ c.in_ok-registers.ensures (refused_first (types_at (codes "columns")) from_kinds (lines_of c.in_ok-registers.rest.now) _ c.in_err-columns.ensures))))

pub returns-in_err-kinds : goal.returns-in_err-kinds
unfolding middle_at
returns-in_err-kinds c =
    let p = err_from_is_err_and c.from_residual-in_err-kinds.result c.from_residual-in_err-kinds.ensures.1 in
    rw (p.1, p.2) (refused_second (types_at (codes "globals")) from_fields (lines_of c.args.text.now) (lines_of c.in_ok-globals.rest.now) _ _ c.in_ok-globals.ensures (refused_second (types_at (codes "fields")) from_registers (lines_of c.in_ok-globals.rest.now) (lines_of c.in_ok-fields.rest.now) _ _ c.in_ok-fields.ensures (refused_second (types_at (codes "registers")) from_columns (lines_of c.in_ok-fields.rest.now) (lines_of c.in_ok-registers.rest.now) _ _ c.in_ok-registers.ensures (refused_second (types_at (codes "columns")) from_kinds (lines_of c.in_ok-registers.rest.now) (lines_of c.in_ok-columns.rest.now) _ _ c.in_ok-columns.ensures (refused_first kinds places (lines_of c.in_ok-columns.rest.now) _ c.in_err-kinds.ensures)))))

pub returns-in_err-places : goal.returns-in_err-places
unfolding middle_at
returns-in_err-places c =
    let p = err_from_is_err_and c.from_residual-in_err-places.result c.from_residual-in_err-places.ensures.1 in
    rw (p.1, p.2) (refused_second (types_at (codes "globals")) from_fields (lines_of c.args.text.now) (lines_of c.in_ok-globals.rest.now) _ _ c.in_ok-globals.ensures (refused_second (types_at (codes "fields")) from_registers (lines_of c.in_ok-globals.rest.now) (lines_of c.in_ok-fields.rest.now) _ _ c.in_ok-fields.ensures (refused_second (types_at (codes "registers")) from_columns (lines_of c.in_ok-fields.rest.now) (lines_of c.in_ok-registers.rest.now) _ _ c.in_ok-registers.ensures (refused_second (types_at (codes "columns")) from_kinds (lines_of c.in_ok-registers.rest.now) (lines_of c.in_ok-columns.rest.now) _ _ c.in_ok-columns.ensures (refused_second kinds places (lines_of c.in_ok-columns.rest.now) (lines_of c.in_ok-kinds.rest.now) _ _ c.in_ok-kinds.ensures c.in_err-places.ensures)))))
