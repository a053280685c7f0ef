use Rattle.std.proofs.Common.{◌≡◌, ◌+◌, ◌∷◌, List, ap, subst, map, drop}
use Rattle.gm_ast.specs.Surface.{SurfaceName}
use Rattle.gm_ast.specs.SurfaceTree.{name_of}
use Rattle.gm_types.specs.Declaring.{Declaring}
use Rattle.gm_types.proofs.Items.{drop-item}
use Rattle.gm_types.proofs.Declarings.{declaring-next}
use Rattle.std.proofs.lemmas.Result.{IfOk-from_err}
use Rattle.gm_types.proofs.names.Checker.declare_all.Goals as goal

pub loop-name-preserved : goal.loop-name-preserved
loop-name-preserved c =
    let names = c.args.names.now in
    let i = c.loop-name.name-index in
    let item = c.name-item.result in
    let rest : map name_of (drop i names) ≡ name_of item ∷ map name_of (drop (i + 1) names) = ap (map name_of) (drop-item names i item c.loop-name-test.true c.name-item.is) in
    let w = subst (λ (r : List SurfaceName). Declaring c.args.variable c.args.self.now c.loop-name.self c.loop-name.indices.items (map name_of names) r) rest c.loop-name.invariant in
    rw c.in_ok-push.ensures.items
    (declaring-next c.args.variable (map name_of names) (name_of item) (map name_of (drop (i + 1) names)) c.in_ok-index.index w c.in_ok-index.ensures.declares c.in_ok-index.ensures.index)

pub returns-in_err-index : goal.returns-in_err-index
returns-in_err-index c = IfOk-from_err _ _ c.from_residual.ensures.0

pub returns-in_err-push : goal.returns-in_err-push
returns-in_err-push c = IfOk-from_err _ _ c.from_residual-in_err-push.ensures.0
