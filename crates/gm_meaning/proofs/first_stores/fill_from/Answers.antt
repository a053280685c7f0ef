use Rattle.std.proofs.Common.{◌∙◌, ap, pos, []}
use Rattle.std.specs.Prelude.{slice_index_or}
use Rattle.gm_value.specs.declared.values.Value.TheVariants.{I32}
use Rattle.gm_semantics.specs.Stores.{Store}
use Rattle.gm_store.specs.Held.{node_of}
use Rattle.gm_meaning.proofs.Rows.{cell-got, fill-begins, fill-next}
use Rattle.gm_meaning.proofs.first_stores.fill_from.Goals as goal

pub loop-node-init : goal.loop-node-init
loop-node-init c = record {
  values = λ p n. fill-begins c.args.x p n (slice_index_or c.args.graph.now.node_columns c.args.column []) (node_of c.args.store.now p n);
  shape = search;
  undo = search;
}

pub loop-node-preserved : goal.loop-node-preserved
loop-node-preserved c = record {
  values = λ p n. fill-next c.args.x p c.loop-node.node n (slice_index_or c.args.graph.now.node_columns c.args.column []) c.start_value-value.result (node_of c.args.store.now p n) (node_of c.loop-node.store p n) (node_of c.set.new.self p n)
      (cell-got c.args.graph.now.node_columns c.args.column c.loop-node.node c.start_value-value.result c.start_value-value.ensures)
      (ap (λ (s : Store). s.node p n) (c.in_ok-set.ensures.store (λ a b. I32 (pos 0)))) (c.loop-node.invariant.values p n);
  shape = c.in_ok-set.ensures.shape ∙ c.loop-node.invariant.shape;
  undo = c.in_ok-set.ensures.undo ∙ c.loop-node.invariant.undo;
}
