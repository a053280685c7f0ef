use Rattle.std.proofs.Common.{◌≡◌, length, take, drop}
use Rattle.gm_fields.specs.Fields.{fields}
use Rattle.gm_loader.specs.Tables.{row_added}
use Rattle.gm_loader.proofs.Filling.{behind_columns}
use Rattle.gm_loader.proofs.tables.read_values.Given as goal

-- what was read so far stands before what the rest gives
abbrev pub invariant-loop-place : goal.invariant-loop-place
invariant-loop-place l = record {
  all : length l.columns.items ≡ l.place-end;
  rest : behind_columns (take l.place l.columns.items) (row_added (drop l.place l.columns.items) (fields l.rest)) ≡ row_added l.initial.columns.items (fields l.text);
}
