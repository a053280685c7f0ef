use Rattle.std.proofs.Common.{◌∙◌, ap, subst, arith, ◌≡◌, ◌∷◌, [], ◌++◌}
use Rattle.gm_posting.proofs.Answered.{if-some, if-none}
use Rattle.gm_base.specs.Merge.{of}
use Rattle.std.specs.Prelude.{slice_index_or}
use Rattle.gm_posting.specs.Traffic.{Traffic}
use Rattle.gm_posting.proofs.TrafficLemmas.{kept-shows, takes-shows, takes-sender, takes-own, count-is}
use Rattle.gm_posting.proofs.posts.Posts.take.Goals as goal

pub returns-clause-some : goal.returns-clause-some
returns-clause-some g c =
    if-some c.take_one.result _ _
    (λ x t.
    takes-shows c.self.inside.worker c.self.inside.posts.items c.take_one.new.zero c.index_mut.result.now x c.self.invariant.some c.index_mut.ensures.value t
    ∙ ap (λ (s : Traffic _). let r : Traffic _ = record s { taken = s.taken ++ x ∷ [] } in r) c.self.view_is)
    c.take_one.ensures.some

pub returns-clause-sender : goal.returns-clause-sender
returns-clause-sender g c =
    if-some c.take_one.result _ _
    (λ x t.
    let count = count-is c.self.inside.worker c.self.inside.posts.items c.args.mailboxes.now (ap (λ (s : Traffic _). s.mailboxes) c.self.view_is ∙ c.requires) in
    let low = takes-sender c.self.inside.worker c.self.inside.posts.items c.take_one.new.zero c.index_mut.result.now x c.self.invariant c.index_mut.ensures.value t in
    omega arith)
    c.take_one.ensures.some

pub returns-clause-none : goal.returns-clause-none
returns-clause-none g c =
    if-none c.take_one.result _ _
    (λ e. kept-shows c.self.inside.worker c.self.inside.posts.items c.self.inside.worker c.take_one.new.zero c.index_mut.result.now c.index_mut.ensures.value e ∙ c.self.view_is)
    c.take_one.ensures.none

pub returns-clause-own : goal.returns-clause-own
returns-clause-own g c =
    if-none c.take_one.result _ _
    (λ own.
    subst (λ (s : Traffic _). of s.taken s.worker ≡ slice_index_or s.sent s.worker []) c.self.view_is
    (takes-own c.self.inside.worker c.self.inside.posts.items c.index_mut.result.now c.self.invariant.some c.index_mut.ensures.value own))
    c.take_one.ensures.own
