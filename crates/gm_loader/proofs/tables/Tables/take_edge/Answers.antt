use Rattle.gm_fields.specs.Fields.{fields}
use Rattle.gm_loader.specs.Lines.{edge_line, edge_with}
use Rattle.gm_loader.proofs.Filling.{edge_read}
use Rattle.gm_loader.proofs.Taking.{takes_read}
use Rattle.gm_loader.proofs.tables.Tables.take_edge.Goals as goal

pub returns : goal.returns
returns c = λ shape before h.
    takes_read shape c.args.limits.now before (edge_line shape.edges (fields c.args.text.now)) (edge_with shape.edges c.in_ok-from.from c.in_ok-to.to (fields c.in_ok-to.rest.now)) c.add_edge.new.self c.add_edge.result
    (edge_read shape.edges (fields c.args.text.now) (fields c.in_ok-from.rest.now) (fields c.in_ok-to.rest.now) c.in_ok-from.from c.in_ok-to.to c.in_ok-from.ensures.read c.in_ok-to.ensures.read)
    (c.add_edge.ensures shape before h)
