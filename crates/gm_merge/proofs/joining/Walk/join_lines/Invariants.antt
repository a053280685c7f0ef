use Rattle.std.proofs.Common.{◌≡◌, length}
use Rattle.gm_merge.specs.Joining.{with_lines_joined}
use Rattle.gm_merge.specs.Walk.{WalkStands}
use Rattle.gm_merge.proofs.joining.Walk.join_lines.Given as goal

abbrev pub ghost-join_line : goal.ghost-join_line
ghost-join_line g a = with_lines_joined a.i 0 g.image

-- the lines so far are joined
abbrev pub invariant-loop-i : goal.invariant-loop-i
invariant-loop-i g l = record {
  stands : WalkStands l.self l.plan l.i (with_lines_joined l.i 0 g.image);
  long : l.count ≡ length g.image.master;
}
