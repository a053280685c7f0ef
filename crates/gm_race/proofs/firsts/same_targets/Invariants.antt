use Rattle.std.proofs.Common.{◌≡◌, ◌≤◌, map, drop, length}
use Rattle.gm_ast.specs.Races.{variables_eq}
use Rattle.gm_ast.specs.Loops.{target_variable}
use Rattle.gm_race.proofs.firsts.same_targets.Given as goal

-- the targets that are left have the answer, and the other list has had as many
abbrev pub invariant-loop-i : goal.invariant-loop-i
invariant-loop-i l = record {
  left : variables_eq (map target_variable (drop l.i l.a)) (map target_variable (drop l.i l.b)) ≡ variables_eq (map target_variable l.a) (map target_variable l.b);
  within : l.i ≤ length l.b;
}
