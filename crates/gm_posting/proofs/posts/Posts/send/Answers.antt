use Rattle.std.proofs.Common.{◌∙◌, ap, arith}
use Rattle.std.proofs.lemmas.Result.{on_ok_weaker, IfErr-weaker}
use Rattle.gm_posting.specs.Traffic.{Traffic, sends}
use Rattle.gm_posting.proofs.TrafficLemmas.{kept-shows, sends-shows, count-is}
use Rattle.gm_posting.proofs.posts.Posts.send.Goals as goal

pub returns-clause-ok : goal.returns-clause-ok
returns-clause-ok g c =
    let count = count-is c.self.inside.worker c.self.inside.posts.items c.args.mailboxes.now (ap (λ (s : Traffic _). s.mailboxes) c.self.view_is ∙ c.requires.mailboxes) in
    let receiver = c.requires.receiver in
    on_ok_weaker c.send.result
    (λ e.
    sends-shows c.self.inside.worker c.self.inside.posts.items c.args.to c.send.new.post c.index_mut.result.now c.args.batch (omega arith) c.index_mut.ensures.value e
    ∙ ap (sends c.args.to c.args.batch) c.self.view_is)
    c.send.ensures.ok

pub returns-clause-err : goal.returns-clause-err
returns-clause-err g c =
    IfErr-weaker c.send.result _ _
    (λ b e. (e.0, kept-shows c.self.inside.worker c.self.inside.posts.items c.args.to c.send.new.post c.index_mut.result.now c.index_mut.ensures.value e.1 ∙ c.self.view_is))
    c.send.ensures.err
