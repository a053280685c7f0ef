-- The place of one more message stands in a list.
use Rattle.std.proofs.Common.{◌<◌, [], length, arith}
use Rattle.std.specs.Prelude.{slice_index_or}
use Rattle.gm_machine.specs.Vertex.{Message}
use Rattle.gm_workers.proofs.PartingLemmas.{parted-one}
use Rattle.gm_workers.proofs.parting.add_places.Goals as goal

pub bounds-parts-to : goal.bounds-parts-to
bounds-parts-to c =
    let d : Message = record { to = 0; kind = 0; values = [] } in
    let is = c.receiver_of-to.ensures d in
    let low = c.requires.owners (slice_index_or c.args.mail.now.messages c.loop-row.row d).to in
    omega (arith, is, low, c.loop-row.auto.parts)

pub loop-row-preserved : goal.loop-row-preserved
loop-row-preserved c =
    let d : Message = record { to = 0; kind = 0; values = [] } in
    let is = c.receiver_of-to.ensures d in
    let low = c.requires.owners (slice_index_or c.args.mail.now.messages c.loop-row.row d).to in
    let few : c.receiver_of-to.result < length c.loop-row.parts = omega (arith, is, low, c.loop-row.auto.parts) in
    let part = c.index-parts-to.result in
    parted-one c.args.owners.now c.args.mail.now.messages c.loop-row.row c.receiver_of-to.result c.loop-row.parts part c.push.new.self (omega (arith, c.loop-row-test.true, c.requires.count)) few c.receiver_of-to.ensures c.in_ok-push.ensures.items c.loop-row.invariant
