use Rattle.std.proofs.Common.{arith, refl}
use Rattle.gm_batch_steps.proofs.TurnLists.{pushed-all, pushed-more, pushed-start}
use Rattle.gm_batch_steps.proofs.turns.push_turns.Goals as goal

pub loop-k-init : goal.loop-k-init
loop-k-init c = pushed-start c.args.graph.now c.args.node c.args.source c.args.turns.now c.requires.storable

pub loop-k-preserved : goal.loop-k-preserved
loop-k-preserved c =
    pushed-more c.args.graph.now c.args.node c.args.source c.loop-k.k c.out_target.result c.out_row.result c.args.turns.now c.loop-k.turns _ c.loop-k.invariant
    (omega (arith, c.loop-k-test.true, c.out_degree-degree.ensures.degree)) refl c.in_ok-push.ensures.items c.in_ok-push-2.ensures.items c.in_ok-push-3.ensures.items
    c.out_target.ensures.target c.out_row.ensures.edge (omega (arith, c.out_target.ensures.known, c.node_count-nodes.ensures.known.few_nodes))

pub returns-clause-rows : goal.returns-clause-rows
returns-clause-rows c = c.loop-k.invariant.rows

pub returns-clause-sources : goal.returns-clause-sources
returns-clause-sources c =
    (pushed-all c.args.graph.now c.args.node c.args.source c.loop-k.k c.args.turns.now c.loop-k.turns c.loop-k.invariant
    (omega (arith, c.loop-k-test.false, c.out_degree-degree.ensures.degree)) (omega (arith, c.loop-k.auto.k-end, c.out_degree-degree.ensures.degree))).0

pub returns-clause-targets : goal.returns-clause-targets
returns-clause-targets c =
    (pushed-all c.args.graph.now c.args.node c.args.source c.loop-k.k c.args.turns.now c.loop-k.turns c.loop-k.invariant
    (omega (arith, c.loop-k-test.false, c.out_degree-degree.ensures.degree)) (omega (arith, c.loop-k.auto.k-end, c.out_degree-degree.ensures.degree))).1

pub returns-clause-edges : goal.returns-clause-edges
returns-clause-edges c =
    (pushed-all c.args.graph.now c.args.node c.args.source c.loop-k.k c.args.turns.now c.loop-k.turns c.loop-k.invariant
    (omega (arith, c.loop-k-test.false, c.out_degree-degree.ensures.degree)) (omega (arith, c.loop-k.auto.k-end, c.out_degree-degree.ensures.degree))).2

pub returns-clause-storable : goal.returns-clause-storable
returns-clause-storable c = c.loop-k.invariant.storable
