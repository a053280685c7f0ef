use Rattle.std.proofs.Common.{◌≡◌, ◌+◌, [], ◌∷◌, List, ap, subst, map, drop}
use Rattle.gm_ast.specs.Surface.{SurfaceGroup}
use Rattle.gm_ast.specs.SurfaceTree.{group_of}
use Rattle.gm_types.specs.Declaring.{Grouping}
use Rattle.gm_types.proofs.Items.{drop-item, nothing-left}
use Rattle.gm_types.proofs.Declarings.{grouping-next, grouping-end}
use Rattle.std.proofs.lemmas.Result.{IfOk-from_err}
use Rattle.gm_types.proofs.names.Checker.parameters.Goals as goal

pub loop-group-preserved : goal.loop-group-preserved
loop-group-preserved c =
    let groups = c.args.groups.now in
    let i = c.loop-group.group-index in
    let item = c.group-item.result in
    let rest : map group_of (drop i groups) ≡ group_of item ∷ map group_of (drop (i + 1) groups) = ap (map group_of) (drop-item groups i item c.loop-group-test.true c.group-item.is) in
    let w = subst (λ (r : List SurfaceGroup). Grouping c.args.self.now c.loop-group.self (map group_of groups) r) rest c.loop-group.invariant in
    grouping-next (map group_of groups) (group_of item) (map group_of (drop (i + 1) groups)) w (rw (c.variable_of-variable.ensures, c.deref.ensures.value) at c.in_ok-declare_all.ensures)

pub returns : goal.returns
returns c =
    let groups = c.args.groups.now in
    let i = c.loop-group.group-index in
    let rest : map group_of (drop i groups) ≡ [] = ap (map group_of) (nothing-left groups i c.loop-group-test.false) in
    grouping-end (map group_of groups) (subst (λ (r : List SurfaceGroup). Grouping c.args.self.now c.loop-group.self (map group_of groups) r) rest c.loop-group.invariant)

pub returns-in_err-declare_all : goal.returns-in_err-declare_all
returns-in_err-declare_all c = IfOk-from_err _ _ c.from_residual.ensures.0
