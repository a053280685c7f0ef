use Rattle.std.proofs.Common.{◌≡◌, ◌++◌, drop, map}
use Rattle.gm_dissect.specs.Deferred.{copy_of}
use Rattle.gm_locals.proofs.locals.copies_of.Given as goal

-- what is there and what is left make the whole
abbrev pub invariant-loop-variable : goal.invariant-loop-variable
invariant-loop-variable l = l.copies.items ++ map (copy_of l.declarations) (drop l.variable-index l.variables) ≡ map (copy_of l.declarations) l.variables
