use Rattle.gm_ast.specs.Tree.{program_of}
use Rattle.gm_meaning.proofs.Inputs.{scalars-more}
use Rattle.gm_meaning.proofs.first_stores.add_scalars.Goals as goal

pub loop-x-preserved : goal.loop-x-preserved
loop-x-preserved c = record {
  passed = c.counted-passed.ensures;
  store = scalars-more (program_of c.args.tree.now) c.args.args.now c.loop-x.x c.args.store.now c.loop-x.store c.add_scalar.new.self c.first_scalar.result c.loop-x.invariant.store c.in_ok-add_scalar.ensures.added c.first_scalar.ensures;
}
