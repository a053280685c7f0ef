use Rattle.std.proofs.Common.{◌≡◌, ◌∷◌, All, refl, sym, subst, arith}
use Rattle.std.proofs.lemmas.List.Elements.{All-push, All-tail}
use Rattle.gm_shifts.specs.declared.Turn.{Turn}
use Rattle.gm_posting.specs.Traffic.{Traffic}
use Rattle.gm_posting_tests.specs.declared.exchanges.Sending.{Sending}
use Rattle.gm_posting_tests.proofs.StillWorkers.{pushed}
use Rattle.gm_posting_tests.proofs.exchanges.turns_of.Goals as goal

pub loop-own-preserved : goal.loop-own-preserved
loop-own-preserved g c =
    let rest = c.next.new.self.rest.items in
    let e = c.in-Some.ensures.steps.0 in
    let grown = c.in_ok-push.ensures.items in
    let left : All (λ (p : Traffic _). p.mailboxes ≡ c.args.mailboxes.now) (c.in-Some.own ∷ rest) = subst (λ (l : _). All (λ (p : Traffic _). p.mailboxes ≡ c.args.mailboxes.now) l) e c.loop-own.invariant.rest in
    record {
      ready =
          subst (λ (l : _). All (λ t. t.task.posts.mailboxes ≡ t.task.mailboxes.now) l) (sym grown)
          (All-push (λ t. t.task.posts.mailboxes ≡ t.task.mailboxes.now) c.loop-own.turns.items _ c.loop-own.invariant.ready (left 0 c.in-Some.own (omega arith)));
      posts =
          pushed (λ (t : Turn (Sending g.row.R.Denot)). t.task.posts) c.loop-own.turns.items c.push.new.self.items _ c.in-Some.own rest c.loop-own.own-iterator.rest.items c.args.posts.items
          grown refl e c.loop-own.invariant.posts;
      rest = All-tail (λ (p : Traffic _). p.mailboxes ≡ c.args.mailboxes.now) c.in-Some.own rest left;
    }
