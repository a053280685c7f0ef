use Rattle.std.proofs.Common.{◌≡◌, ◌+◌, ◌∷◌, List, ap, subst, map, drop}
use Rattle.gm_ast.specs.Surface.{SurfaceGroup}
use Rattle.gm_ast.specs.SurfaceTree.{group_of}
use Rattle.gm_types.specs.Notes.{Noting}
use Rattle.gm_types.proofs.Items.{drop-item}
use Rattle.gm_types.proofs.Noted.{noting-next}
use Rattle.gm_types.proofs.names.Checker.note_types.Goals as goal

pub loop-group-preserved : goal.loop-group-preserved
loop-group-preserved c =
    let groups = c.args.groups.now in
    let i = c.loop-group.group-index in
    let item = c.group-item.result in
    let rest : map group_of (drop i groups) ≡ group_of item ∷ map group_of (drop (i + 1) groups) = ap (map group_of) (drop-item groups i item c.loop-group-test.true c.group-item.is) in
    let w = subst (λ (r : List SurfaceGroup). Noting c.args.role c.args.self.now c.loop-group.self (map group_of groups) r) rest c.loop-group.invariant in
    noting-next c.args.role (map group_of groups) (group_of item) (map group_of (drop (i + 1) groups)) w c.note_type.ensures
