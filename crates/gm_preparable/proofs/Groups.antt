-- Group assignments as loops.
use Rattle.std.proofs.Common.{ℕ, List}
use Rattle.gm_ast.specs.declared.tree.Target.{Target}
use Rattle.gm_ast.specs.Program.{Stmt, Then, Group, For, If, While, Do}
use Rattle.gm_desugar.specs.Groups.{ungrouped}
use Rattle.gm_preparable.proofs.Standing.{Phase}

module _ (goes : List Target → Type 0) (outer inner : ℕ → Type 0) where
  pub groups-stand : (s : Stmt) → Phase goes outer inner s → Phase goes outer inner (ungrouped s)
  groups-stand (Then a b) h = (groups-stand a h.0, groups-stand b h.1)
  groups-stand (Group k at g p e) h = (h.0, (tt, h.1))
  groups-stand (For k at hd test s) h = (h.0, groups-stand s h.1)
  groups-stand (If k c a b) h = (h.0, (groups-stand a h.1.0, groups-stand b h.1.1))
  groups-stand (While k at c s) h = (h.0, groups-stand s h.1)
  groups-stand (Do k at s c) h = (groups-stand s h.0, h.1)
  groups-stand s h = h
