use Rattle.std.proofs.Common.{refl, arith}
use Rattle.std.proofs.lemmas.Result.{err_from_is_err_and}
use Rattle.gm_fields.specs.Fields.{fields}
use Rattle.gm_loader.proofs.Taking.{edge_stop, edge_taken, edge_many, edge_far, edge_holds}
use Rattle.gm_loader.proofs.tables.Tables.add_edge.Goals as goal

pub returns-in_err-read_values : goal.returns-in_err-read_values
returns-in_err-read_values c = λ shape before h.
    let p = err_from_is_err_and c.from_residual.result c.from_residual.ensures.1 in
    rw (p.1, p.2) (edge_stop shape c.args.limits.now before c.args.self.now c.args.self.now (fields c.args.text.now) c.args.from c.args.to _ h c.in_err-read_values.ensures.fault)

pub returns-then-exceeds : goal.returns-then-exceeds
returns-then-exceeds c = λ shape before h.
    let e = edge_taken shape c.args.limits.now before c.args.self.now c.read_values.new.columns.items c.add.new.self c.push.new.self c.push-2.new.self (fields c.args.text.now) c.args.from c.args.to h
    c.in_ok-read_values.ensures.read c.in_ok-push.ensures c.in_ok-push-2.ensures c.in_ok-add.ensures in
    edge_many shape c.args.limits.now before c.args.self.now c.read_values.new.columns.items c.add.new.self (fields c.args.text.now) c.args.from c.args.to c.exceeds.result e c.exceeds.ensures c.if-exceeds.true

pub returns-then-len-limits : goal.returns-then-len-limits
returns-then-len-limits c = λ shape before h.
    let e = edge_taken shape c.args.limits.now before c.args.self.now c.read_values.new.columns.items c.add.new.self c.push.new.self c.push-2.new.self (fields c.args.text.now) c.args.from c.args.to h
    c.in_ok-read_values.ensures.read c.in_ok-push.ensures c.in_ok-push-2.ensures c.in_ok-add.ensures in
    edge_far shape c.args.limits.now before c.args.self.now c.args.self.now c.read_values.new.columns.items c.add.new.self (fields c.args.text.now) c.push.new.self c.args.from c.args.to c.exceeds.result h e c.exceeds.ensures c.if-exceeds.false c.in_ok-push.ensures (omega arith)

pub returns : goal.returns
returns c = λ shape before h.
    let e = edge_taken shape c.args.limits.now before c.args.self.now c.read_values.new.columns.items c.add.new.self c.push.new.self c.push-2.new.self (fields c.args.text.now) c.args.from c.args.to h
    c.in_ok-read_values.ensures.read c.in_ok-push.ensures c.in_ok-push-2.ensures c.in_ok-add.ensures in
    edge_holds shape c.args.limits.now before c.args.self.now
    (record { from = c.push.new.self; to = c.push-2.new.self; edge_columns = c.read_values.new.columns; extra = c.args.self.now.extra; node_columns = c.args.self.now.node_columns; seen = c.add.new.self; listed = c.args.self.now.listed })
    (fields c.args.text.now) c.args.from c.args.to c.exceeds.result h e
    c.in_ok-push.ensures c.in_ok-push-2.ensures refl refl refl c.exceeds.ensures c.if-exceeds.false (omega arith) tt
