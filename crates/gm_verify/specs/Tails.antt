-- The lines of an image's text from a part on.
use Rattle.std.specs.Prelude.{List, [], ◌∷◌, ◌++◌, map, Result, Ok, Err, ℕ}
use Rattle.std.specs.List.{flat_map}
use Rattle.gm_image.specs.Program.{Program}
use Rattle.gm_image.specs.Rows.{Row, Plain, ResultRow, InputRow, OutputRow, ColumnsRow, KindRow, MasterRow, rows_after, plain_rows, block_rows, command_rows, rows}
use Rattle.gm_verify.specs.declared.stops.VerifyStop.{VerifyStop}
use Rattle.gm_verify.specs.Checks.{Walks, IsFirstBroken}

-- from the master list's header on
abbrev pub from_master : Program → List Row
from_master p = MasterRow ∷ command_rows 0 p.master

-- from the blocks on
abbrev pub from_blocks : Program → List Row
from_blocks p = flat_map block_rows p.blocks ++ from_master p

-- from the kinds on
abbrev pub from_kinds : Program → List Row
from_kinds p = map KindRow p.kinds ++ Plain ∷ (plain_rows p.places ++ Plain ∷ from_blocks p)

-- from the columns' header on
abbrev pub from_columns : Program → List Row
from_columns p = ColumnsRow ∷ (plain_rows p.columns ++ Plain ∷ from_kinds p)

-- from the globals on
abbrev pub from_globals : Program → List Row
from_globals p = plain_rows p.globals ++ Plain ∷ (plain_rows p.fields ++ Plain ∷ (plain_rows p.registers ++ from_columns p))

-- from the result on
abbrev pub from_result : Program → List Row
from_result p = ResultRow ∷ Plain ∷ from_globals p

-- from the outputs on
abbrev pub from_outputs : Program → List Row
from_outputs p = rows_after OutputRow [] p.outputs ++ from_result p

-- from the inputs on
abbrev pub from_inputs : Program → List Row
from_inputs p = rows_after InputRow [] p.inputs ++ Plain ∷ from_outputs p

-- an answer to the first lines of a text, with the lines that are left: the number of the first of these, or what the text breaks first
abbrev pub Reaches : Program → List Row → Result ℕ VerifyStop → Type 0
Reaches p rest (Ok next) = Walks p 1 (rows p) next rest
Reaches p rest (Err e) = IsFirstBroken p e
