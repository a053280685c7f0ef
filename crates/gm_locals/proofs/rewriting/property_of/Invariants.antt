use Rattle.std.proofs.Common.{◌≡◌, ◌+◌, drop}
use Rattle.gm_locals.specs.AllMoved.{property_of}
use Rattle.gm_locals.proofs.rewriting.property_of.Given as goal

-- what is left has the same property, counted from here
abbrev pub invariant-loop-local : goal.invariant-loop-local
invariant-loop-local l = (property_of l.property (drop l.local-index l.locals) l.variable ≡ property_of l.first l.locals l.variable) × (l.property ≡ l.first + l.local-index)
