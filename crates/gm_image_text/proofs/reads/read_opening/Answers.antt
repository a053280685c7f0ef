use Rattle.std.proofs.lemmas.Result.{err_from_is_err_and}
use Rattle.std.specs.Prelude.{ℕ, List, Option, codes}
use Rattle.gm_value.specs.declared.values.VType.{VType}
use Rattle.gm_image.specs.Program.{Item}
use Rattle.gm_image_text.specs.declared.heads.Version.{Version}
use Rattle.gm_image_text.specs.Lines.{lines_of}
use Rattle.gm_image_text.specs.Reading as rows
use Rattle.gm_image_text.specs.Sections.{Reads, row_at, then_at, listed_at, opening_at}
use Rattle.gm_image_text.proofs.Sequences.{refused_first, refused_second}
use Rattle.gm_image_text.proofs.reads.read_opening.Goals as goal

abbrev inputs : Reads (List Item)
inputs ls = listed_at (codes "inputs") (row_at rows.input_row) ls

abbrev outputs : Reads (List Item)
outputs ls = listed_at (codes "outputs") (row_at rows.output_row) ls

abbrev from_outputs : Reads (List Item × Option (VType × ℕ))
from_outputs ls = then_at outputs (row_at rows.result_row) ls

abbrev from_inputs : Reads (List Item × (List Item × Option (VType × ℕ)))
from_inputs ls = then_at inputs from_outputs ls

abbrev from_name : Reads (List ℕ × (List Item × (List Item × Option (VType × ℕ))))
from_name ls = then_at (row_at rows.name_row) from_inputs ls

pub returns-in_err-version : goal.returns-in_err-version
unfolding opening_at
returns-in_err-version c =
    let p = err_from_is_err_and c.from_residual.result c.from_residual.ensures.1 in
    rw (p.1, p.2) (refused_first (row_at rows.first_row) from_name (lines_of c.args.text.now) _ c.in_err-version.ensures)

pub returns-in_err-name : goal.returns-in_err-name
unfolding opening_at
returns-in_err-name c =
    let p = err_from_is_err_and c.from_residual-in_err-name.result c.from_residual-in_err-name.ensures.1 in
    rw (p.1, p.2) (refused_second (row_at rows.first_row) from_name (lines_of c.args.text.now) (lines_of c.in_ok-version.rest.now) _ _ c.in_ok-version.ensures (refused_first (row_at rows.name_row) from_inputs (lines_of c.in_ok-version.rest.now) _ c.in_err-name.ensures))

pub returns-in_err-inputs : goal.returns-in_err-inputs
unfolding opening_at
returns-in_err-inputs c =
    let p = err_from_is_err_and c.from_residual-in_err-inputs.result c.from_residual-in_err-inputs.ensures.1 in
    rw (p.1, p.2) (refused_second (row_at rows.first_row) from_name (lines_of c.args.text.now) (lines_of c.in_ok-version.rest.now) _ _ c.in_ok-version.ensures (refused_second (row_at rows.name_row) from_inputs (lines_of c.in_ok-version.rest.now) (lines_of c.in_ok-name.rest.now) _ _ c.in_ok-name.ensures (refused_first inputs from_outputs (lines_of c.in_ok-name.rest.now) _ c.in_err-inputs.ensures)))

pub returns-in_err-outputs : goal.returns-in_err-outputs
unfolding opening_at
returns-in_err-outputs c =
    let p = err_from_is_err_and c.from_residual-in_err-outputs.result c.from_residual-in_err-outputs.ensures.1 in
    rw (p.1, p.2) (refused_second (row_at rows.first_row) from_name (lines_of c.args.text.now) (lines_of c.in_ok-version.rest.now) _ _ c.in_ok-version.ensures (refused_second (row_at rows.name_row) from_inputs (lines_of c.in_ok-version.rest.now) (lines_of c.in_ok-name.rest.now) _ _ c.in_ok-name.ensures (refused_second inputs from_outputs (lines_of c.in_ok-name.rest.now) (lines_of c.in_ok-inputs.rest.now) _ _ c.in_ok-inputs.ensures (refused_first outputs (row_at rows.result_row) (lines_of c.in_ok-inputs.rest.now) _ c.in_err-outputs.ensures))))

pub returns-in_err-result : goal.returns-in_err-result
unfolding opening_at
returns-in_err-result c =
    let p = err_from_is_err_and c.from_residual-in_err-result.result c.from_residual-in_err-result.ensures.1 in
    rw (p.1, p.2) (refused_second (row_at rows.first_row) from_name (lines_of c.args.text.now) (lines_of c.in_ok-version.rest.now) _ _ c.in_ok-version.ensures (refused_second (row_at rows.name_row) from_inputs (lines_of c.in_ok-version.rest.now) (lines_of c.in_ok-name.rest.now) _ _ c.in_ok-name.ensures (refused_second inputs from_outputs (lines_of c.in_ok-name.rest.now) (lines_of c.in_ok-inputs.rest.now) _ _ c.in_ok-inputs.ensures (refused_second outputs (row_at rows.result_row) (lines_of c.in_ok-inputs.rest.now) (lines_of c.in_ok-outputs.rest.now) _ _ c.in_ok-outputs.ensures c.in_err-result.ensures))))
