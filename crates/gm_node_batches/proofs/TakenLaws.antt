-- Steps that follow one another, where what is put may stand as fewer contributions.
use Rattle.std.proofs.Common.{◌≡◌, ◌∙◌, ℕ, List, [], ◌++◌, length, map, ap, subst, refl}
use Rattle.std.specs.List.{flat_map}
use Rattle.gm_machine.specs.declared.node_steps.Duty.{Duty}
use Rattle.gm_machine.specs.declared.node_steps.Nodes.{Nodes}
use Rattle.gm_machine.specs.declared.steps.Sent as machine
use Rattle.gm_machine.specs.Duties.{StepsTo, between, place_after}
use Rattle.gm_machine.specs.Faults.{lesser, least_fault}
use Rattle.gm_machine.specs.Fields.{HeldFields}
use Rattle.gm_machine.specs.Taking.{Contribution}
use Rattle.gm_machine.specs.Vertex.{After, Message}
use Rattle.gm_machine.proofs.NodeSteps.{steps-long}
use Rattle.gm_put_totals.specs.Settling.{SettleAs}
use Rattle.gm_put_totals.proofs.SettlingLemmas.{settles-itself, settles-through, settles-together}
use Rattle.gm_node_batches.specs.declared.steps.Sent.{Sent}
use Rattle.gm_node_batches.specs.Sents.{as_sent}
use Rattle.gm_node_batches.specs.Taken.{StepsTaken}
use Rattle.gm_node_batches.proofs.StepJoins.{steps-next}

abbrev puts_between : (ℕ → After) → ℕ → ℕ → List Contribution
puts_between f k to = flat_map (λ i. (f i).state.puts) (between k to)

-- steps behind others of the same messages and fault
behind-others : (f : ℕ → After) (k to : ℕ) (mid new : HeldFields) (s e t : machine.Sent) → s.messages ≡ t.messages → s.fault ≡ t.fault → StepsTo f k to mid new s e
    → StepsTo f k to mid new t (record { messages = e.messages; puts = t.puts ++ puts_between f k to; fault = e.fault })
behind-others f k to mid new s e t messages fault steps = record {
  ahead = steps.ahead;
  within = steps.within;
  taken = record {
    width = steps.taken.width;
    fields = steps.taken.fields;
    messages = steps.taken.messages ∙ ap (λ l. l ++ flat_map (λ i. (f i).state.messages) (between k to)) messages;
    puts = refl;
    fault = steps.taken.fault ∙ ap (λ x. lesser x (least_fault (map (λ i. (f i).fault) (between k to)))) fault;
  };
}

-- the machine's steps, with what they put
pub taken-steps : (f : ℕ → After) (from to : ℕ) (old new : HeldFields) (s t : Sent) → StepsTo f from to old new (as_sent s) (as_sent t) → StepsTaken f from to old new s t
taken-steps f from to old new s t steps = record { puts = t.puts; steps = steps; settle = settles-itself t.puts }

-- some steps, and then those of the nodes behind
pub taken-next : (d : Duty) (ns : Nodes) (boxes : List (List Message)) (from k to : ℕ) (f0 f1 f2 : HeldFields) (s0 s1 s2 : Sent)
    → StepsTaken (place_after d ns boxes f0.rows) from k f0 f1 s0 s1 → StepsTaken (place_after d ns boxes f1.rows) k to f1 f2 s1 s2
    → StepsTaken (place_after d ns boxes f0.rows) from to f0 f2 s0 s2
taken-next d ns boxes from k to f0 f1 f2 s0 s1 s2 first second =
    let f : ℕ → After = place_after d ns boxes f1.rows in
    let middle : machine.Sent = record (as_sent s1) { puts = first.puts } in
    let more : List Contribution = puts_between f k to in
    let last : machine.Sent = record (as_sent s2) { puts = first.puts ++ more } in
    record {
      puts = first.puts ++ more;
      steps =
          steps-next d ns boxes from k to f0 f1 f2 (as_sent s0) middle last first.steps
          (behind-others f k to f1 f2 (as_sent s1) (record (as_sent s2) { puts = second.puts }) middle refl refl second.steps);
      settle =
          settles-through (first.puts ++ more) (s1.puts ++ more) s2.puts
          (settles-together first.puts s1.puts more more first.settle (settles-itself more))
          (subst (λ l. SettleAs l s2.puts) second.steps.taken.puts second.settle);
    }

-- as many nodes as before
pub taken-long : (f : ℕ → After) (from to : ℕ) (old new : HeldFields) (s t : Sent) → StepsTaken f from to old new s t → length new.rows ≡ length old.rows
taken-long f from to old new s t taken = steps-long f from to old new (as_sent s) (record (as_sent t) { puts = taken.puts }) taken.steps

-- the machine's steps behind messages that were sent before
pub steps-behind : (f : ℕ → After) (from to : ℕ) (old new : HeldFields) (s e : machine.Sent) (t t' : Sent) → s.messages ≡ [] → s.puts ≡ t.puts → s.fault ≡ t.fault
    → t'.messages ≡ t.messages ++ e.messages → t'.puts ≡ e.puts → t'.fault ≡ e.fault → StepsTo f from to old new s e → StepsTaken f from to old new t t'
steps-behind f from to old new s e t t' none puts fault messages_are puts_are fault_are steps =
    taken-steps f from to old new t t' (record {
      ahead = steps.ahead;
      within = steps.within;
      taken = record {
        width = steps.taken.width;
        fields = steps.taken.fields;
        messages = messages_are ∙ ap (λ l. t.messages ++ l) (steps.taken.messages ∙ ap (λ l. l ++ flat_map (λ i. (f i).state.messages) (between from to)) none);
        puts = puts_are ∙ steps.taken.puts ∙ ap (λ l. l ++ puts_between f from to) puts;
        fault = fault_are ∙ steps.taken.fault ∙ ap (λ x. lesser x (least_fault (map (λ i. (f i).fault) (between from to)))) fault;
      };
    })
