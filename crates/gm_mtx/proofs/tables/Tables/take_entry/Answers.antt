use Rattle.std.proofs.Common.{arith}
use Rattle.gm_fields.specs.Fields.{fields}
use Rattle.gm_mtx.proofs.FieldLemmas.{entry_taken}
use Rattle.gm_mtx.proofs.tables.Tables.take_entry.Goals as goal

pub returns : goal.returns
returns c = λ types before h.
    entry_taken types c.args.kind c.args.size before c.args.self.now
    (record { from = c.push.new.self; to = c.push-2.new.self; edge_columns = c.read_values.new.columns })
    (fields c.args.line.now) (fields c.in_ok-row.rest.now) (fields c.in_ok-column.rest.now) c.in_ok-row.row c.in_ok-column.column c.in_ok-read_values.field-0 tt
    h c.in_ok-row.ensures.read c.in_ok-column.ensures.read (c.in_ok-read_values.ensures types) (omega arith)
    c.in_ok-push.ensures c.in_ok-push-2.ensures
