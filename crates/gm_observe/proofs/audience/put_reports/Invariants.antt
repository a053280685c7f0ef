use Rattle.std.proofs.Common.{◌≡◌, ◌++◌, take}
use Rattle.std.specs.List.{flat_map}
use Rattle.gm_observe.proofs.audience.put_reports.Given as goal

abbrev pub invariant-loop-observer : goal.invariant-loop-observer
invariant-loop-observer g l =
    l.text.items ≡ l.initial.text.items ++ flat_map (λ o. (goal.Observer-dyn g (o.vtable, o.value)).says_of o.value ((goal.Observer-dyn g (o.vtable, o.value)).seen o.value)) (take l.observer-index l.observers)
