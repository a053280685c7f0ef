use Rattle.std.proofs.Common.{◌≡◌, length, drop, sym, ap, ◌∙◌, subst}
use Rattle.gm_posting.specs.Rows.{ArePlaced, OpensAll, traffics}
use Rattle.gm_posting.specs.Traffic.{AreOpen}
use Rattle.gm_posting.proofs.WorkerLemmas.{written-back, opened-placed, opened}
use Rattle.gm_posting.proofs.opening.open.Goals as goal

pub posts_of_rows-requires-clause-placed : goal.posts_of_rows-requires-clause-placed
posts_of_rows-requires-clause-placed g c =
    let workers : length c.as_mut_slice.result.now ≡ c.args.workers = ap (λ (l : _). length l) c.as_mut_slice.ensures.value ∙ c.in_ok-rows.ensures.long in
    let all : OpensAll c.args.workers c.in_ok-boxes.boxes.items c.open_each.new.rows = subst (λ n. OpensAll n c.in_ok-boxes.boxes.items c.open_each.new.rows) workers c.in_ok-boxes.ensures.each in
    subst (λ (l : _). ArePlaced l)
    (sym (written-back c.in_ok-rows.rows.len c.open_each.new.rows (drop (length c.open_each.new.rows) c.in_ok-rows.rows.items) (c.in_ok-boxes.ensures.each.long ∙ c.as_mut_slice.ensures.len)))
    (opened-placed c.args.workers c.in_ok-boxes.boxes.items c.open_each.new.rows c.requires.few (c.in_ok-boxes.ensures.count ∙ workers) all)

pub returns : goal.returns
returns g c =
    let workers : length c.as_mut_slice.result.now ≡ c.args.workers = ap (λ (l : _). length l) c.as_mut_slice.ensures.value ∙ c.in_ok-rows.ensures.long in
    let all : OpensAll c.args.workers c.in_ok-boxes.boxes.items c.open_each.new.rows = subst (λ n. OpensAll n c.in_ok-boxes.boxes.items c.open_each.new.rows) workers c.in_ok-boxes.ensures.each in
    let back = written-back c.in_ok-rows.rows.len c.open_each.new.rows (drop (length c.open_each.new.rows) c.in_ok-rows.rows.items) (c.in_ok-boxes.ensures.each.long ∙ c.as_mut_slice.ensures.len) in
    subst (λ (l : _). AreOpen c.args.workers c.in_ok-boxes.boxes.items l) (sym (c.in_ok-posts.ensures ∙ ap (λ (l : _). traffics 0 l) back))
    (opened c.args.workers c.in_ok-boxes.boxes.items c.open_each.new.rows (c.in_ok-boxes.ensures.count ∙ workers) all)
