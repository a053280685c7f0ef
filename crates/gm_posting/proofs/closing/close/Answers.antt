use Rattle.std.proofs.Common.{◌≤◌, length, sym, ap, ◌∙◌, subst}
use Rattle.gm_posting.specs.Rows.{AreFull}
use Rattle.gm_posting.proofs.ClosingLemmas.{workers-few, workers-count, workers-full}
use Rattle.gm_posting.proofs.closing.close.Goals as goal

pub close_each-requires-clause-few : goal.close_each-requires-clause-few
close_each-requires-clause-few g c =
    subst (λ (l : _). length l ≤ 64) (sym c.as_mut_slice.ensures.value)
    (workers-few c.args.mailboxes c.in_ok-rows.rows.items c.args.posts.items c.in_ok-rows.ensures.shown c.requires c.in_ok-rows.ensures.placed)

pub close_each-requires-clause-count : goal.close_each-requires-clause-count
close_each-requires-clause-count g c =
    ap (λ (l : _). length l) (c.as_slice.ensures.value ∙ c.mailboxes.view_is)
    ∙ workers-count c.args.mailboxes c.in_ok-rows.rows.items c.args.posts.items c.in_ok-rows.ensures.shown c.requires
    ∙ sym (ap (λ (l : _). length l) c.as_mut_slice.ensures.value)

pub close_each-requires-clause-full : goal.close_each-requires-clause-full
close_each-requires-clause-full g c =
    subst (λ (l : _). AreFull l c.as_mut_slice.result.now) (sym (c.as_slice.ensures.value ∙ c.mailboxes.view_is))
    (subst (λ (l : _). AreFull c.args.mailboxes l) (sym c.as_mut_slice.ensures.value)
    (workers-full c.args.mailboxes c.in_ok-rows.rows.items c.args.posts.items c.in_ok-rows.ensures.shown c.requires))
