use Rattle.std.proofs.Common.{length, map, drop, sym, ap, ◌∙◌, subst}
use Rattle.gm_shifts.specs.declared.Turn.{Turn}
use Rattle.gm_posting.specs.Traffic.{Traffic, AreWorkers}
use Rattle.gm_posting.proofs.WorkerLemmas.{written-back}
use Rattle.gm_posting_tests.specs.declared.letters.Letters.{Letters}
use Rattle.gm_posting_tests.specs.declared.exchanges.Sending.{Sending}
use Rattle.gm_posting_tests.proofs.StillWorkers.{still-workers}
use Rattle.gm_posting_tests.proofs.exchanges.exchange.Goals as goal

pub close-requires : goal.close-requires
close-requires g c =
    let f : Turn (Sending g.row.R.Denot) → Traffic Letters = λ t. t.task.posts in
    let back = written-back c.in_ok-turns.turns.len c.run_turns.new.turns (drop (length c.run_turns.new.turns) c.in_ok-turns.turns.items) (c.run_turns.auto.turns ∙ c.as_mut_slice.ensures.len) in
    subst (λ (l : _). AreWorkers c.in_ok-mailboxes.mailboxes l) (sym (c.in_ok-posts.ensures.posts ∙ ap (λ (l : _). map f l) back))
    (still-workers f c.in_ok-mailboxes.mailboxes c.in_ok-mailboxes.posts.items c.as_mut_slice.result.now c.run_turns.new.turns c.in_ok-mailboxes.ensures.workers_are
    (ap (λ (l : _). map f l) c.as_mut_slice.ensures.value ∙ c.in_ok-turns.ensures.posts) c.run_turns.auto.turns c.in_ok-run_turns.ensures)
