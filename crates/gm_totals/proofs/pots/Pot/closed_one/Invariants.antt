use Rattle.std.proofs.Common.{List, [], ◌∷◌, take, false}
use Rattle.gm_semantics.specs.Contributions.{Contribution}
use Rattle.gm_totals.specs.Pots.{PotStands}
use Rattle.gm_totals.proofs.Takings.{Upto}
use Rattle.gm_totals.proofs.pots.Pot.closed_one.Given as goal

-- the entries so far were closed
abbrev pub invariant-loop-entry : goal.invariant-loop-entry
invariant-loop-entry l = (cs : List Contribution) (stands : PotStands false l.self cs) → Upto false l.self (l.fn.held ∷ []) cs stands (l.self.first ∷ take l.entry-index l.self.more.items) (l.value ∷ [])
