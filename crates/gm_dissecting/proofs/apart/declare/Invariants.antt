use Rattle.std.proofs.Common.{◌≡◌, ◌++◌}
use Rattle.gm_parting.specs.Apart.{inner_flags}
use Rattle.gm_dissecting.proofs.apart.declare.Given as goal

-- so many locals are added
abbrev pub invariant-loop-i : goal.invariant-loop-i
invariant-loop-i l = l.declarations.items ≡ l.initial.declarations.items ++ inner_flags l._i
