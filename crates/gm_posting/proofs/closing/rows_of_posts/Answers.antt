use Rattle.std.proofs.Common.{◌≡◌, ◌<◌, ◌+◌, ◌∷◌, ◌++◌, [], ℕ, length, drop, take, sym, ap, ◌∙◌, subst, arith}
use Rattle.std.proofs.lemmas.List.{length_push}
use Rattle.gm_posting.specs.Traffic.{AreInPlace, Traffic, traffic_by}
use Rattle.gm_posting.specs.Rows.{Row, traffics, ArePlaced}
use Rattle.gm_posting.proofs.WorkerLemmas.{next-within, next-is, next-rest, next-taken, traffics-more, placed-more}
use Rattle.gm_posting.proofs.closing.rows_of_posts.Goals as goal

pub loop-worker-preserved : goal.loop-worker-preserved
loop-worker-preserved g c =
    let k : ℕ = length c.loop-worker.rows.items in
    let x : Traffic _ = c.in-Some.worker in
    let r : Row _ = c.into_row.result in
    let e : drop k c.args.posts.items ≡ x ∷ c.next.new.self.rest.items = sym c.loop-worker.invariant.rest ∙ c.in-Some.ensures.steps.0 in
    let low : k < length c.args.posts.items = next-within k c.args.posts.items x c.next.new.self.rest.items e in
    let grown = c.in_ok-push.ensures.items in
    let place : k ≡ x.worker = sym (c.requires k x low) ∙ ap (λ (t : Traffic _). t.worker) (next-is k c.args.posts.items x c.next.new.self.rest.items e) in
    let count : length c.push.new.self.items ≡ k + 1 = ap (λ (l : _). length l) grown ∙ length_push c.loop-worker.rows.items r in
    record {
      placed =
          subst (λ (l : _). ArePlaced l) (sym grown)
          (placed-more c.loop-worker.rows.items r c.loop-worker.invariant.placed (subst (λ n. AreInPlace n r.items) (sym place) c.into_row.ensures.place));
      shown =
          ap (traffics 0) grown
          ∙ traffics-more 0 c.loop-worker.rows.items r
          ∙ ap (λ (l : _). l ++ traffic_by (0 + k) r.items ∷ []) c.loop-worker.invariant.shown
          ∙ ap (λ (t : Traffic _). take k c.args.posts.items ++ t ∷ []) (ap (λ n. traffic_by n r.items) (let s : 0 + k ≡ x.worker = omega (arith, place) in s) ∙ c.into_row.ensures.shown)
          ∙ sym (next-taken k c.args.posts.items x c.next.new.self.rest.items e)
          ∙ ap (λ n. take n c.args.posts.items) (sym count);
      rest = next-rest k c.args.posts.items x c.next.new.self.rest.items e ∙ ap (λ n. drop n c.args.posts.items) (sym count);
    }
