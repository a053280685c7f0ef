use Rattle.std.proofs.Common.{◌∙◌, length, ap}
use Rattle.gm_ast.specs.Tree.{program_of}
use Rattle.gm_store.specs.Held.{Held, Shape, node_of}
use Rattle.gm_meaning.proofs.Inputs.{first-same, shape-first}
use Rattle.gm_meaning.proofs.first_stores.first_store.Goals as goal

pub returns-clause-store : goal.returns-clause-store
returns-clause-store c =
    let e = c.in_ok-add_scalars.ensures in
    first-same (program_of c.args.tree.now) c.args.graph.now c.args.args.now c.args.variables c.add_scalars.new.store c.requires
    (ap (λ (h : Held). h.scalars) e)
    (ap (λ (h : Held). length h.rows) e ∙ ap (λ (s : Shape). s.rows) c.in_ok-add_rows.ensures.shape)
    (λ q m lt. ap (λ (h : Held). node_of h q m) e ∙ c.in_ok-add_rows.ensures.values q m lt)

pub returns-clause-shape : goal.returns-clause-shape
returns-clause-shape c =
    shape-first (program_of c.args.tree.now) c.args.args.now c.args.variables _ c.new-store.result c.add_rows.new.store c.add_scalars.new.store c.in_ok-add_scalars.ensures c.in_ok-add_rows.ensures.shape
    (ap (λ (h : Held). h.nodes) c.new-store.ensures ∙ c.node_count.ensures.count)
