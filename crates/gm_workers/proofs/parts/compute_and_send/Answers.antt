use Rattle.gm_workers.proofs.PostLemmas.{hands-few}
use Rattle.gm_workers.proofs.PartLemmas.{part-done}
use Rattle.gm_workers.proofs.parts.compute_and_send.Goals as goal

pub hand_rest-requires-clause-few : goal.hand_rest-requires-clause-few
hand_rest-requires-clause-few g c = hands-few _ c.args.posts.now c.compute_all.new.posts c.args.gathered.now c.compute_all.new.gathered c.args.came.now.items c.compute_all.new.came.items c.in_ok-compute_all.ensures.hands

pub returns : goal.returns
returns g c =
    part-done c.args.duty.now c.args.owners.now c.args.nodes.now c.args.inbox.now c.args.fields.now.rows c.compute_all.new.fields.rows c.args.posts.now c.compute_all.new.posts c.hand_rest.new.posts
    c.args.gathered.now c.compute_all.new.gathered c.hand_rest.new.gathered c.args.came.now.items c.compute_all.new.came.items c.hand_rest.new.came.items c.compute_all.new.sent
    c.requires.fields c.in_ok-compute_all.ensures c.in_ok-hand_rest.ensures.handed c.in_ok-hand_rest.ensures.emptied
