-- What goes to one more worker has gathered.
use Rattle.std.proofs.Common.{◌≡◌, ◌<◌, ◌∙◌, ℕ, All, List, [], length, sym, ap, subst, arith}
use Rattle.std.specs.Prelude.{Vec}
use Rattle.std.specs.declared.alloc.Global.{Global}
use Rattle.gm_machine.specs.Vertex.{Message}
use Rattle.gm_posting.specs.Gathering.{at_places}
use Rattle.gm_core.specs.Cores.{for_worker}
use Rattle.gm_workers.specs.Partings.{places_for}
use Rattle.gm_workers.proofs.PartingLemmas.{part-at}
use Rattle.gm_workers.proofs.PostLemmas.{posts-none, posts-next, posts-all}
use Rattle.gm_workers.proofs.parts.post_all.Goals as goal

pub loop-to-init : goal.loop-to-init
loop-to-init g c = posts-none (λ w. for_worker c.args.owners.now w c.args.mail.now.messages) c.args.posts.now c.args.gathered.now c.requires.few

pub put_rows-requires-clause-rows : goal.put_rows-requires-clause-rows
put_rows-requires-clause-rows g c =
    let boxes = ap (λ (l : _). length l) c.requires.mailboxes in
    let parts : List (Vec ℕ Global) = c.part_mail.new.parts in
    let low : c.loop-to.to < length parts = omega (arith, c.loop-to-test.true, c.workers-to-end.ensures.count, boxes, c.requires.parts, c.part_mail.auto.parts) in
    let part : Vec ℕ Global = c.index-parts-to.result in
    let is : places_for parts c.loop-to.to ≡ c.deref.result.now = part-at parts c.loop-to.to part low ∙ sym c.deref.ensures.value in
    subst (All (λ row. row < length c.args.mail.now.messages)) is (c.in_ok-part_mail.ensures.within c.loop-to.to)

pub loop-to-preserved : goal.loop-to-preserved
loop-to-preserved g c =
    let d : Message = record { to = 0; kind = 0; values = [] } in
    let ms : List Message = c.args.mail.now.messages in
    let boxes = ap (λ (l : _). length l) c.requires.mailboxes in
    let parts : List (Vec ℕ Global) = c.part_mail.new.parts in
    let low : c.loop-to.to < length parts = omega (arith, c.loop-to-test.true, c.workers-to-end.ensures.count, boxes, c.requires.parts, c.part_mail.auto.parts) in
    let part : Vec ℕ Global = c.index-parts-to.result in
    let is : places_for parts c.loop-to.to ≡ c.deref.result.now = part-at parts c.loop-to.to part low ∙ sym c.deref.ensures.value in
    posts-next c.loop-to.to (λ w. for_worker c.args.owners.now w ms) (at_places ms c.deref.result.now d) c.args.posts.now c.loop-to.posts c.put_rows.new.posts c.args.gathered.now c.loop-to.gathered c.put_rows.new.gathered
    (ap (λ l. at_places ms l d) (sym is) ∙ c.in_ok-part_mail.ensures.each c.loop-to.to d low) c.loop-to.invariant (c.in_ok-put_rows.ensures d)

pub returns : goal.returns
returns g c =
    let boxes = ap (λ (l : _). length l) c.requires.mailboxes in
    posts-all c.loop-to.to (λ w. for_worker c.args.owners.now w c.args.mail.now.messages) c.args.posts.now c.loop-to.posts c.args.gathered.now c.loop-to.gathered
    (omega (arith, c.loop-to-test.false, c.workers-to-end.ensures.count, boxes, c.requires.wide)) c.loop-to.invariant
