use Rattle.std.proofs.Common.{◌≡◌, ◌<◌, ◌+◌, ◌∷◌, ◌++◌, [], ℕ, length, drop, take, sym, ap, ◌∙◌, subst, arith}
use Rattle.std.proofs.lemmas.List.{length_push, length-take-le}
use Rattle.gm_posting.specs.Traffic.{AreInPlace, Traffic, traffic_by}
use Rattle.gm_posting.specs.Rows.{Row, traffics}
use Rattle.gm_posting.proofs.WorkerLemmas.{next-within, next-is, next-rest, next-taken, traffics-more}
use Rattle.gm_posting.proofs.opening.posts_of_rows.Goals as goal

pub of_row-requires : goal.of_row-requires
of_row-requires g c =
    let k : ℕ = c.loop-row.worker in
    let e : drop k c.args.rows.items ≡ c.in-Some.row ∷ c.next.new.self.rest.items = sym c.loop-row.invariant.rest ∙ c.in-Some.ensures.steps.0 in
    subst (λ (r : Row _). AreInPlace k r.items) (next-is k c.args.rows.items c.in-Some.row c.next.new.self.rest.items e)
    (c.requires.placed k c.in-Some.row (next-within k c.args.rows.items c.in-Some.row c.next.new.self.rest.items e))

pub loop-row-preserved : goal.loop-row-preserved
loop-row-preserved g c =
    let k : ℕ = c.loop-row.worker in
    let e : drop k c.args.rows.items ≡ c.in-Some.row ∷ c.next.new.self.rest.items = sym c.loop-row.invariant.rest ∙ c.in-Some.ensures.steps.0 in
    let low : k < length c.args.rows.items = next-within k c.args.rows.items c.in-Some.row c.next.new.self.rest.items e in
    let grown = c.in_ok-push.ensures.items in
    let long : length (take k c.args.rows.items) ≡ k = length-take-le k c.args.rows.items (omega arith) in
    record {
      count = ap (λ (l : _). length l) grown ∙ length_push c.loop-row.posts.items c.of_row.result ∙ ap (λ n. n + 1) c.loop-row.invariant.count;
      shown =
          grown
          ∙ ap (λ (l : _). l ++ c.of_row.result ∷ []) c.loop-row.invariant.shown
          ∙ ap (λ (t : Traffic _). traffics 0 (take k c.args.rows.items) ++ t ∷ []) (c.of_row.ensures ∙ ap (λ n. traffic_by n c.in-Some.row.items) (sym (let s : 0 + length (take k c.args.rows.items) ≡ k = omega arith in s)))
          ∙ sym (traffics-more 0 (take k c.args.rows.items) c.in-Some.row)
          ∙ ap (traffics 0) (sym (next-taken k c.args.rows.items c.in-Some.row c.next.new.self.rest.items e));
      rest = next-rest k c.args.rows.items c.in-Some.row c.next.new.self.rest.items e;
    }
