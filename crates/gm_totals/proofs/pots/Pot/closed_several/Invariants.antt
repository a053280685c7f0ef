use Rattle.std.proofs.Common.{◌≢◌, List, ◌∷◌, take, length, true}
use Rattle.gm_semantics.specs.Contributions.{Contribution}
use Rattle.gm_totals.specs.Pots.{PotStands}
use Rattle.gm_totals.proofs.Takings.{Upto}
use Rattle.gm_totals.proofs.pots.Pot.closed_several.Given as goal

-- the entries so far were closed
abbrev pub invariant-loop-entry : goal.invariant-loop-entry
invariant-loop-entry l = record {
  many : length l.fn.held ≢ 1 → length l.values.items ≢ 1;
  upto : (cs : List Contribution) (stands : PotStands true l.self cs) → length l.fn.held ≢ 1 → Upto true l.self l.fn.held cs stands (l.self.first ∷ take l.entry-index l.self.more.items) l.values.items;
}
