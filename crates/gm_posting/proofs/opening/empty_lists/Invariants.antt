use Rattle.gm_posting.specs.Rows.{AreEmpty}
use Rattle.gm_posting.proofs.opening.empty_lists.Given as goal

abbrev pub invariant-loop-made : goal.invariant-loop-made
invariant-loop-made g l = AreEmpty l._made l.lists.items
