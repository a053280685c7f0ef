use Rattle.std.proofs.Common.{◌≡◌, map}
use Rattle.gm_observe.specs.Audience.{told_to_first}
use Rattle.gm_observe.proofs.audience.tell_all.Given as goal

abbrev pub invariant-loop-observer : goal.invariant-loop-observer
invariant-loop-observer g l =
    (map (λ o. (goal.Observer-dyn g (o.vtable, o.value)).seen o.value) l.observers
    ≡ told_to_first l.observer-index l.n (map (λ o. (goal.Observer-dyn g (o.vtable, o.value)).seen o.value) l.initial.observers))
    × (map (λ o. (goal.Observer-dyn g (o.vtable, o.value)).says_of o.value) l.observers
    ≡ map (λ o. (goal.Observer-dyn g (o.vtable, o.value)).says_of o.value) l.initial.observers)
