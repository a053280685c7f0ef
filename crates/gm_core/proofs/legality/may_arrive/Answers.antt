-- A worker has arrived or not, has computed all or not, and has delivered all or not.
use Rattle.std.proofs.Common.{◌≡◌, ◌<◌, ◌∙◌, ◌&&◌, true, false, not, nat_eq, [], length, ap, arith}
use Rattle.std.specs.Prelude.{slice_index_or, if◌then◌else◌}
use Rattle.std.specs.List.{list_all}
use Rattle.gm_model.specs.Graphs.{node_count}
use Rattle.gm_core.specs.Cores.{owner, is_in, below}
use Rattle.gm_core.specs.CoreViews.{row_at}
use Rattle.gm_core.proofs.CoreChanges.{read-is}
use Rattle.gm_core.proofs.LegalLemmas.{all-same, arrives-is}
use Rattle.gm_core.proofs.legality.may_arrive.Goals as goal

pub returns : goal.returns
returns c =
    let r = c.args.round.now in
    let workers = c.args.setting.now.workers in
    let nodes = node_count c.args.setting.now.graph.now in
    let owners = c.args.setting.now.owners.now in
    let some : c.args.worker < workers = omega arith in
    let row : c.index-outbox.result.now ≡ row_at r.unsent.items c.args.worker =
    read-is r.unsent.items c.args.worker c.index-outbox.result.now [] (omega (arith, c.requires.unsent.long, some)) c.index-outbox.ensures in
    let delivered : c.has_delivered-delivered.result ≡ list_all (λ to. nat_eq (length (row_at (row_at r.unsent.items c.args.worker) to)) 0) (below workers) =
    c.has_delivered-delivered.ensures
    ∙ ap (λ o. list_all (λ to. nat_eq (length (row_at o to)) 0) (below (length o))) row
    ∙ ap (λ k. list_all (λ to. nat_eq (length (row_at (row_at r.unsent.items c.args.worker) to)) 0) (below k)) (c.requires.unsent.each c.args.worker some) in
    let computed : c.has_computed-computed.result ≡ list_all (λ n. if nat_eq (owner owners n) c.args.worker then is_in n r.computed.items else true) (below nodes) =
    c.has_computed-computed.ensures
    ∙ ap (λ ms. list_all (λ n. if nat_eq (owner owners n) c.args.worker then slice_index_or ms n false else true) (below c.node_count-nodes.result)) c.as_slice-marks.ensures.value
    ∙ ap (λ k. list_all (λ n. if nat_eq (owner owners n) c.args.worker then slice_index_or r.marks.items n false else true) (below k)) c.node_count-nodes.ensures.count
    ∙ all-same (λ n. if nat_eq (owner owners n) c.args.worker then slice_index_or r.marks.items n false else true) (λ n. if nat_eq (owner owners n) c.args.worker then is_in n r.computed.items else true) 0 nodes
    (λ n low high. ap (λ b. if nat_eq (owner owners n) c.args.worker then b else true) (c.requires.marked n (omega (arith, high)))) in
    let away : c.both-done.result ≡ not (slice_index_or r.arrived.items c.args.worker false) && c.has_computed-computed.result = c.both-done.ensures ∙ ap (λ b. b && c.has_computed-computed.result) c.is_away-away.ensures in
    arrives-is c.args.worker workers (slice_index_or r.arrived.items c.args.worker false) _ _ _ _ c.both.result some computed delivered (c.both.ensures ∙ ap (λ b. b && c.has_delivered-delivered.result) away)
