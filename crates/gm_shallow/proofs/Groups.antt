-- Group assignments as loops add no level, and no If within others.
use Rattle.std.proofs.Common.{◌≡◌, ◌≤◌, ℕ, true, arith}
use Rattle.gm_ast.specs.Program.{Stmt, Then, Group, For, If, While, Do, Program}
use Rattle.gm_desugar.specs.Groups.{ungrouped, without_groups}
use Rattle.gm_depth.specs.Depths.{all_within}
use Rattle.gm_depth.proofs.Limits.{AllWithin, parts, whole}
use Rattle.gm_depth.specs.Nesting.{nesting}
use Rattle.gm_shallow.proofs.Nesting.{both}

module _ (n : ℕ) (one : 1 ≤ n) where
  groups-within : (s : Stmt) → AllWithin n s → AllWithin n (ungrouped s)
  groups-within (Then a b) h = (groups-within a h.0, groups-within b h.1)
  groups-within (Group k at g p e) h = (one, h)
  groups-within (For k at hd test s) h = (h.0, groups-within s h.1)
  groups-within (If k c a b) h = (h.0, (groups-within a h.1.0, groups-within b h.1.1))
  groups-within (While k at c s) h = (h.0, groups-within s h.1)
  groups-within (Do k at s c) h = (groups-within s h.0, h.1)
  groups-within s h = h

pub groups-keep : (n : ℕ) (p : Program) → 1 ≤ n → all_within n p.body ≡ true → all_within n (without_groups p).body ≡ true
groups-keep n p one h = whole n (ungrouped p.body) (groups-within n one p.body (parts n p.body h))

-- ---- Ifs within one another

groups-nests : (s : Stmt) → nesting (ungrouped s) ≤ nesting s
groups-nests (Then a b) = both (groups-nests a) (groups-nests b)
groups-nests (Group k at g p e) = omega arith
groups-nests (For k at hd test s) = groups-nests s
groups-nests (If k c a b) = both (groups-nests a) (groups-nests b)
groups-nests (While k at c s) = groups-nests s
groups-nests (Do k at s c) = groups-nests s
groups-nests s = omega arith

pub groups-nest : (p : Program) → nesting (without_groups p).body ≤ nesting p.body
groups-nest p = groups-nests p.body
