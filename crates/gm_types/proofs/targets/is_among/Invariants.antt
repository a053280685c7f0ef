use Rattle.std.proofs.Common.{◌≡◌, drop}
use Rattle.gm_ast.specs.Statements.{is_among}
use Rattle.gm_types.proofs.targets.is_among.Given as goal

-- the indices that are left have the answer
abbrev pub invariant-loop-other : goal.invariant-loop-other
invariant-loop-other l = is_among l.index (drop l.other-index l.indices) ≡ is_among l.index l.initial.indices
