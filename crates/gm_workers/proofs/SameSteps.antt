-- Steps that are the same node by node leave the same.
use Rattle.std.proofs.Common.{◌≡◌, ◌∙◌, ◌<◌, ◌+◌, ◌-◌, ℕ, List, [], length, ap, subst, arith}
use Rattle.gm_value.specs.declared.values.Value.{Value}
use Rattle.gm_machine.specs.declared.node_steps.Duty.{Duty}
use Rattle.gm_machine.specs.Faults.{least_fault}
use Rattle.gm_machine.specs.Vertex.{Message, After}
use Rattle.gm_put_totals.specs.Settling.{SettleAs}
use Rattle.gm_node_batches.specs.declared.steps.Sent.{Sent}
use Rattle.gm_posting.specs.Traffic.{Traffic}
use Rattle.gm_posting.specs.Gathering.{GoesOn, held, sent_by_worker}
use Rattle.gm_core.specs.Cores.{for_worker}
use Rattle.gm_workers.specs.declared.mail.Mail.{Mail}
use Rattle.gm_workers.specs.Parts.{items_of, step_at, IsDone}
use Rattle.gm_workers.proofs.PartLemmas.{map-range}
use Rattle.gm_workers.proofs.WorkerBags.{flat-equal}

-- all nodes have computed by other messages and fields, where each of them has the same step
pub done-same : (d : Duty) (owners nodes : List ℕ) (boxes boxes' : List (List Message)) (fields fields' left : List (List Value)) (old new : Traffic Mail) (before : List Mail) (came came' : List (ℕ × Mail)) (s : Sent)
    → ((place : ℕ) → place < length nodes → step_at d nodes boxes fields place ≡ step_at d nodes boxes' fields' place)
    → IsDone d owners nodes boxes fields left old new before came came' s → IsDone d owners nodes boxes' fields' left old new before came came' s
done-same d owners nodes boxes boxes' fields fields' left old new before came came' s same done = record {
  fields_are = done.fields_are ∙ map-range (λ k. (one k).state.fields) (λ k. (other k).state.fields) 0 n (λ k low high. ap (λ (a : After). a.state.fields) (at k high));
  mailboxes = done.mailboxes;
  worker = done.worker;
  each = λ to low.
      subst (λ l. GoesOn items_of (held items_of before to) (for_worker owners to l) (sent_by_worker old to) (sent_by_worker new to) [])
      (flat-equal (λ k. (one k).state.messages) (λ k. (other k).state.messages) 0 n (λ k low high. ap (λ (a : After). a.state.messages) (at k high)))
      (done.each to low);
  batches = done.batches;
  taken = done.taken;
  kept = done.kept;
  puts =
      subst (λ l. SettleAs l s.puts)
      (flat-equal (λ k. (one k).state.puts) (λ k. (other k).state.puts) 0 n (λ k low high. ap (λ (a : After). a.state.puts) (at k high)))
      done.puts;
  fault = done.fault ∙ ap least_fault (map-range (λ k. (one k).fault) (λ k. (other k).fault) 0 n (λ k low high. ap (λ (a : After). a.fault) (at k high)));
} where
  n : ℕ
  n = length nodes - 0

  one : ℕ → After
  one k = step_at d nodes boxes fields k

  other : ℕ → After
  other k = step_at d nodes boxes' fields' k

  at : (k : ℕ) → k < 0 + n → one k ≡ other k
  at k high = same k (omega (arith, high))
