use Rattle.std.proofs.Common.{List, All, length, refl, sym, ap, subst, arith}
use Rattle.std.proofs.lemmas.List.Elements.{All-push}
use Rattle.gm_shifts.specs.declared.Turn.{Turn}
use Rattle.gm_workers.specs.declared.parts.Part.{Part}
use Rattle.gm_workers.specs.Threads.{Shares}
use Rattle.gm_workers.proofs.ThreadLemmas.{pushed}
use Rattle.gm_workers.proofs.threads.turns_of.Goals as goal

pub loop-own-preserved : goal.loop-own-preserved
loop-own-preserved g c =
    let e = c.in-Some.ensures.steps.0 in
    let e' = c.in-Some-next.ensures.items in
    let grown = c.in_ok-push-in-Some-next.ensures.items in
    let many = ap (λ (l : List _). length l) e in
    let many' = ap (λ (l : List _). length l) e' in
    let left = c.loop-own.invariant.left in
    record {
      slots =
          pushed (λ (t : Turn (Part g.row.R.Denot)). t.task.slot) c.loop-own.turns.items c.push.new.self.items _ c.in-Some-next.slot c.next-in-loop-own.new.self.rest.items c.loop-own.waiting.rest.items c.args.slots.items
          grown refl e' c.loop-own.invariant.slots;
      posts =
          pushed (λ (t : Turn (Part g.row.R.Denot)). t.task.posts) c.loop-own.turns.items c.push.new.self.items _ c.in-Some.own c.next.new.self.rest.items c.loop-own.own-iterator.rest.items c.args.posts.items
          grown refl e c.loop-own.invariant.posts;
      left = omega arith;
      shared =
          subst (λ (l : _). All (λ (t : Turn (Part g.row.R.Denot)). Shares c.args.duty c.args.dealing.now c.args.mailboxes.now t.task.duty t.task.dealing.now t.task.mailboxes.now t.task.sent) l) (sym grown)
          (All-push (λ (t : Turn (Part g.row.R.Denot)). Shares c.args.duty c.args.dealing.now c.args.mailboxes.now t.task.duty t.task.dealing.now t.task.mailboxes.now t.task.sent) c.loop-own.turns.items _ c.loop-own.invariant.shared
          (record { duty = refl; dealing_is = refl; mailboxes = refl; messages = c.empty.ensures.messages; puts = c.empty.ensures.puts; fault = c.empty.ensures.fault }));
    }
