-- What the workers so far put, and their least fault.
use Rattle.std.proofs.Common.{◌≡◌, ◌++◌, drop, map}
use Rattle.std.specs.List.{flat_map}
use Rattle.gm_machine.specs.Faults.{least_from, least_fault}
use Rattle.gm_workers.proofs.supersteps.gather.Given as goal

abbrev pub invariant-loop-one : goal.invariant-loop-one
invariant-loop-one l = record {
  puts : l.puts ++ flat_map (λ s. s.puts) (drop l.one-index l.sent) ≡ flat_map (λ s. s.puts) l.sent;
  fault : least_from l.fault (map (λ s. s.fault) (drop l.one-index l.sent)) ≡ least_fault (map (λ s. s.fault) l.sent);
}
