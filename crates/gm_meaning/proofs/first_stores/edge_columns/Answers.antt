use Rattle.gm_ast.specs.Tree.{program_of}
use Rattle.gm_meaning.specs.Inputs.{edge_column}
use Rattle.gm_meaning.proofs.Numbers.{pushed-more}
use Rattle.gm_meaning.proofs.first_stores.edge_columns.Goals as goal

pub loop-x-preserved : goal.loop-x-preserved
loop-x-preserved c = record {
  passed = c.counted-passed.ensures;
  columns = pushed-more (edge_column (program_of c.args.tree.now) c.args.graph.now) c.loop-x.x c.loop-x.columns.items c.push.new.self.items c.column_of.result c.in_ok-push.ensures.items c.loop-x.invariant.columns c.column_of.ensures;
}
