-- All workers do their parts.
use Rattle.std.proofs.Common.{◌≡◌, List, ◌++◌, All, length, map, take, drop, sym, ap, ◌∙◌, subst, arith}
use Rattle.std.proofs.lemmas.List.{length-map}
use Rattle.gm_node_batches.specs.declared.steps.Sent.{Sent}
use Rattle.gm_mailbox.specs.Sender.{MailboxId}
use Rattle.gm_shifts.specs.declared.Turn.{Turn}
use Rattle.gm_posting.specs.Traffic.{Traffic, AreOpen, AreWorkers, ArriveAll}
use Rattle.gm_posting.proofs.WorkerLemmas.{written-back}
use Rattle.gm_workers.specs.declared.crews.Slot.{Slot}
use Rattle.gm_workers.specs.declared.mail.Mail.{Mail}
use Rattle.gm_workers.specs.declared.parts.Part.{Part}
use Rattle.gm_workers.specs.Threads.{Shares, AddsLate, Worked}
use Rattle.gm_workers.proofs.ThreadLemmas.{all-ready, still-workers, worked}
use Rattle.gm_workers.proofs.threads.work_all.Goals as goal

pub turns_of-requires : goal.turns_of-requires
turns_of-requires g c =
    let len_is : c.len-workers.result ≡ length c.args.slots.items = omega (arith, c.len-workers.ensures) in
    c.in_ok-mailboxes.ensures.workers_are.count ∙ c.in_ok-mailboxes.ensures.count_is ∙ len_is

pub run_turns-requires-clause-few : goal.run_turns-requires-clause-few
run_turns-requires-clause-few g c =
    let many : length c.as_mut_slice.result.now ≡ length c.args.slots.items =
    ap length c.as_mut_slice.ensures.value
    ∙ sym (length-map c.in_ok-turns.turns.items (λ (t : Turn (Part g.row.R.Denot)). t.task.slot))
    ∙ ap length c.in_ok-turns.ensures.slots in
    λ κs within. omega (arith, many, c.requires.few)

pub run_turns-requires-clause-ready : goal.run_turns-requires-clause-ready
run_turns-requires-clause-ready g c =
    let len_is : c.len-workers.result ≡ length c.args.slots.items = omega (arith, c.len-workers.ensures) in
    let ids : List MailboxId = c.in_ok-mailboxes.mailboxes in
    let value = c.as_mut_slice.ensures.value in
    let Shared : List (Turn (Part g.row.R.Denot)) → Type 0 =
    λ l. All (λ t. Shares c.args.duty c.args.dealing.now ids t.task.duty t.task.dealing.now t.task.mailboxes.now t.task.sent) l in
    λ κs within.
    all-ready
    (λ (t : Turn (Part g.row.R.Denot)). t.task.slot) (λ t. t.task.posts) (λ t. t.task.sent) (λ t. t.task.duty) (λ t. t.task.dealing.now) (λ t. t.task.mailboxes.now)
    c.args.duty c.args.dealing.now ids c.args.slots.items c.in_ok-mailboxes.posts.items c.as_mut_slice.result.now
    (subst (λ n. AreOpen n ids c.in_ok-mailboxes.posts.items) len_is c.in_ok-mailboxes.ensures)
    (ap (map (λ (t : Turn (Part g.row.R.Denot)). t.task.slot)) value ∙ c.in_ok-turns.ensures.slots)
    (ap (map (λ (t : Turn (Part g.row.R.Denot)). t.task.posts)) value ∙ c.in_ok-turns.ensures.posts)
    (subst Shared (sym value) c.in_ok-turns.ensures.shared)
    c.requires.duty c.requires.ready

pub close-requires : goal.close-requires
close-requires g c =
    let len_is : c.len-workers.result ≡ length c.args.slots.items = omega (arith, c.len-workers.ensures) in
    let ids : List MailboxId = c.in_ok-mailboxes.mailboxes in
    let value = c.as_mut_slice.ensures.value in
    let f : Turn (Part g.row.R.Denot) → Traffic Mail = λ t. t.task.posts in
    let back = written-back c.in_ok-turns.turns.len c.run_turns.new.turns (drop (length c.run_turns.new.turns) c.in_ok-turns.turns.items) (c.run_turns.auto.turns ∙ c.as_mut_slice.ensures.len) in
    let Shared : List (Turn (Part g.row.R.Denot)) → Type 0 =
    λ l. All (λ t. Shares c.args.duty c.args.dealing.now ids t.task.duty t.task.dealing.now t.task.mailboxes.now t.task.sent) l in
    subst (λ (l : List (Traffic Mail)). AreWorkers ids l) (sym (c.in_ok-slots.ensures.posts ∙ ap (map f) back))
    (still-workers
    (λ (t : Turn (Part g.row.R.Denot)). t.task.slot) f (λ t. t.task.sent) (λ t. t.task.duty) (λ t. t.task.dealing.now) (λ t. t.task.mailboxes.now)
    c.args.duty c.args.dealing.now ids c.args.slots.items c.in_ok-mailboxes.posts.items c.as_mut_slice.result.now
    (subst (λ n. AreOpen n ids c.in_ok-mailboxes.posts.items) len_is c.in_ok-mailboxes.ensures)
    (ap (map (λ (t : Turn (Part g.row.R.Denot)). t.task.slot)) value ∙ c.in_ok-turns.ensures.slots)
    (ap (map f) value ∙ c.in_ok-turns.ensures.posts)
    (subst Shared (sym value) c.in_ok-turns.ensures.shared)
    c.run_turns.new.turns c.run_turns.auto.turns c.in_ok-run_turns.ensures)

pub add_late-requires : goal.add_late-requires
add_late-requires g c =
    let left : List (Turn (Part g.row.R.Denot)) = take c.in_ok-turns.turns.len (c.run_turns.new.turns ++ drop (length c.run_turns.new.turns) c.in_ok-turns.turns.items) in
    c.in_ok-late.ensures.long
    ∙ ap length c.in_ok-slots.ensures.posts
    ∙ length-map left (λ t. t.task.posts)
    ∙ sym (length-map left (λ t. t.task.slot))
    ∙ sym (ap length c.in_ok-slots.ensures.slots)
    ∙ sym (ap length c.as_mut_slice-2.ensures.value)

pub returns : goal.returns
returns g c =
    let len_is : c.len-workers.result ≡ length c.args.slots.items = omega (arith, c.len-workers.ensures) in
    let ids : List MailboxId = c.in_ok-mailboxes.mailboxes in
    let value = c.as_mut_slice.ensures.value in
    let slot : Turn (Part g.row.R.Denot) → Slot = λ t. t.task.slot in
    let f : Turn (Part g.row.R.Denot) → Traffic Mail = λ t. t.task.posts in
    let sent : Turn (Part g.row.R.Denot) → Sent = λ t. t.task.sent in
    let ts : List (Turn (Part g.row.R.Denot)) = c.run_turns.new.turns in
    let back = written-back c.in_ok-turns.turns.len ts (drop (length ts) c.in_ok-turns.turns.items) (c.run_turns.auto.turns ∙ c.as_mut_slice.ensures.len) in
    let new : List Slot = c.add_late.new.slots in
    let new_back = written-back c.in_ok-slots.field-0.slots.len new (drop (length new) c.in_ok-slots.field-0.slots.items) (c.add_late.auto.slots ∙ c.as_mut_slice-2.ensures.len) in
    let before : c.as_mut_slice-2.result.now ≡ map slot ts = c.as_mut_slice-2.ensures.value ∙ c.in_ok-slots.ensures.slots ∙ ap (map slot) back in
    let Shared : List (Turn (Part g.row.R.Denot)) → Type 0 =
    λ l. All (λ t. Shares c.args.duty c.args.dealing.now ids t.task.duty t.task.dealing.now t.task.mailboxes.now t.task.sent) l in
    let done : Worked c.args.duty c.args.dealing.now c.args.slots.items new (map sent ts) =
    worked slot f sent (λ t. t.task.duty) (λ t. t.task.dealing.now) (λ t. t.task.mailboxes.now)
    c.args.duty c.args.dealing.now ids c.args.slots.items c.in_ok-mailboxes.posts.items c.as_mut_slice.result.now
    (subst (λ n. AreOpen n ids c.in_ok-mailboxes.posts.items) len_is c.in_ok-mailboxes.ensures)
    (ap (map slot) value ∙ c.in_ok-turns.ensures.slots)
    (ap (map f) value ∙ c.in_ok-turns.ensures.posts)
    (subst Shared (sym value) c.in_ok-turns.ensures.shared)
    ts c.run_turns.auto.turns c.in_ok-run_turns.ensures
    c.in_ok-late.late.items new
    (subst (λ (l : List (Traffic Mail)). ArriveAll l c.in_ok-late.late.items) (c.in_ok-slots.ensures.posts ∙ ap (map f) back) c.in_ok-late.ensures)
    (subst (λ (l : List Slot). AddsLate (length l) c.in_ok-late.late.items l new) before c.in_ok-add_late.ensures) in
    subst (λ (l : List Slot). Worked c.args.duty c.args.dealing.now c.args.slots.items l c.in_ok-slots.field-0.sent.items) (sym new_back)
    (subst (λ (l : List Sent). Worked c.args.duty c.args.dealing.now c.args.slots.items new l) (sym (c.in_ok-slots.ensures.sent ∙ ap (map sent) back)) done)
