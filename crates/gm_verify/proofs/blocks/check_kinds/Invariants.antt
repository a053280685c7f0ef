use Rattle.std.proofs.Common.{drop, map}
use Rattle.gm_image.specs.Views.{program}
use Rattle.gm_image.specs.Rows.{KindRow}
use Rattle.gm_verify.specs.Checks.{Walks}
use Rattle.gm_verify.proofs.blocks.check_kinds.Given as goal

-- the kinds so far break no rule
abbrev pub invariant-loop-kind : goal.invariant-loop-kind
invariant-loop-kind l = Walks (program l.image) l.fn.number (map KindRow l.kinds) l.next (map KindRow (drop l.kind-index l.kinds))
