-- One more node has its owner.
use Rattle.std.proofs.Common.{◌≡◌, ◌<◌, ◌∙◌, ℕ, map, length, sym, ap, subst, arith}
use Rattle.std.specs.Prelude.{All}
use Rattle.std.specs.List.{range_with_len}
use Rattle.std.proofs.lemmas.List.{length-map}
use Rattle.std.proofs.lemmas.List.Elements.{All-push}
use Rattle.gm_partition.specs.Owners.{owner_is}
use Rattle.gm_core.proofs.NodeLists.{length-range, all-index, owners-more}
use Rattle.gm_core.proofs.owners.owners_of.Goals as goal

pub loop-node-preserved : goal.loop-node-preserved
loop-node-preserved c = record {
  each =
      owners-more (owner_is c.args.owner c.args.workers c.args.nodes) c.loop-node.node c.owner_of-worker.result c.loop-node.owners.items c.push.new.self.items
      c.loop-node.invariant.each c.owner_of-worker.ensures.formula c.in_ok-push.ensures.items;
  below =
      subst (All (λ w. w < c.args.workers)) (sym c.in_ok-push.ensures.items)
      (All-push (λ w. w < c.args.workers) c.loop-node.owners.items c.owner_of-worker.result c.loop-node.invariant.below c.owner_of-worker.ensures.below);
}

pub returns-clause-each : goal.returns-clause-each
returns-clause-each c =
    let all : c.loop-node.node ≡ c.args.nodes = omega (arith, c.loop-node-test.false) in
    c.loop-node.invariant.each ∙ ap (λ n. map (owner_is c.args.owner c.args.workers c.args.nodes) (range_with_len 0 n)) all

pub returns-clause-dealt : goal.returns-clause-dealt
returns-clause-dealt c =
    let f : ℕ → ℕ = owner_is c.args.owner c.args.workers c.args.nodes in
    let all : c.loop-node.node ≡ c.args.nodes = omega (arith, c.loop-node-test.false) in
    record {
      long = ap length c.loop-node.invariant.each ∙ length-map (range_with_len 0 c.loop-node.node) f ∙ length-range 0 c.loop-node.node ∙ all;
      some = c.requires.some_worker;
      each = λ n. all-index c.args.workers c.loop-node.owners.items n c.requires.some_worker c.loop-node.invariant.below;
    }
