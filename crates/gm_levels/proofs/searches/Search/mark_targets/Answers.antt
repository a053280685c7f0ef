use Rattle.std.proofs.Common.{arith}
use Rattle.std.proofs.lemmas.Option.{get_or_from_slice_get, slice_get_within}
use Rattle.gm_model.specs.Graphs.{nodes_of, out_steps}
use Rattle.gm_levels.proofs.Marking.{marked-none, marked-more, marked-targets}
use Rattle.gm_levels.proofs.searches.Search.mark_targets.Goals as goal

pub loop-k-init : goal.loop-k-init
loop-k-init c = marked-none c.args.level _

pub loop-k-preserved : goal.loop-k-preserved
loop-k-preserved c =
    let targets = nodes_of (out_steps c.args.graph.now c.args.node) in
    let k = c.loop-k.k in
    marked-more targets k c.out_target.result c.args.level c.args.self.now c.loop-k.self c.mark.new.self c.requires.level (slice_get_within targets k c.out_target.result c.out_target.ensures.target) (get_or_from_slice_get targets k c.out_target.result 0 c.out_target.ensures.target) c.loop-k.invariant c.in_ok-mark.ensures

pub returns : goal.returns
returns c = marked-targets c.args.graph.now c.args.node c.loop-k.k c.args.level c.args.self.now c.loop-k.self (omega arith) c.loop-k.invariant
