use Rattle.std.proofs.Common.{◌≡◌, true, false, refl, rules}
use Rattle.std.proofs.lemmas.Result.{err_from_is_err_and}
use Rattle.gm_fields.specs.Fields.{fields}
use Rattle.gm_loader.proofs.Taking.{node_stop, node_twice, node_many, node_holds}
use Rattle.gm_loader.proofs.tables.Tables.take_node.Goals as goal

pub returns-in_err-read_values : goal.returns-in_err-read_values
returns-in_err-read_values c = λ shape before h.
    let p = err_from_is_err_and c.from_residual-in_err-read_values.result c.from_residual-in_err-read_values.ensures.1 in
    rw (p.1, p.2) (node_stop shape c.args.limits.now before c.args.self.now c.args.self.now (fields c.args.text.now) (fields c.in_ok-number.rest.now) c.in_ok-number.number _ h c.in_ok-number.ensures.read c.in_err-read_values.ensures.fault)

pub returns-then-not-branch : goal.returns-then-not-branch
returns-then-not-branch c = λ shape before h.
    let twice : c.in_ok-insert.field-0 ≡ false = search rules in
    node_twice shape c.args.limits.now before c.args.self.now c.args.self.now c.read_values.new.columns.items (fields c.args.text.now) (fields c.in_ok-number.rest.now) c.in_ok-number.number c.in_ok-insert.field-0
    h c.in_ok-number.ensures.read c.in_ok-read_values.ensures.read c.in_ok-insert.ensures.added twice

pub returns-then-exceeds : goal.returns-then-exceeds
returns-then-exceeds c = λ shape before h.
    let once : c.in_ok-insert.field-0 ≡ true = search rules in
    node_many shape c.args.limits.now before c.args.self.now c.args.self.now c.add.new.self c.read_values.new.columns.items c.push.new.self (fields c.args.text.now) (fields c.in_ok-number.rest.now) c.in_ok-number.number c.in_ok-insert.field-0 c.exceeds.result
    h c.in_ok-number.ensures.read c.in_ok-read_values.ensures.read c.in_ok-insert.ensures.added once c.in_ok-push.ensures
    c.in_ok-add.ensures c.exceeds.ensures c.if-exceeds.true

pub returns : goal.returns
returns c = λ shape before h.
    let once : c.in_ok-insert.field-0 ≡ true = search rules in
    node_holds shape c.args.limits.now before c.args.self.now
    (record { from = c.args.self.now.from; to = c.args.self.now.to; edge_columns = c.args.self.now.edge_columns; extra = c.push.new.self; node_columns = c.read_values.new.columns; seen = c.add.new.self; listed = c.insert.new.self })
    (fields c.args.text.now) (fields c.in_ok-number.rest.now) c.in_ok-number.number c.in_ok-insert.field-0 c.exceeds.result
    h c.in_ok-number.ensures.read c.in_ok-read_values.ensures.read
    (record { is_new = c.in_ok-insert.ensures.added; members = c.in_ok-insert.ensures.has; count = c.in_ok-insert.ensures.count }) once
    c.in_ok-add.ensures c.exceeds.ensures c.if-exceeds.false
    c.in_ok-push.ensures refl refl refl tt
