use Rattle.std.proofs.Common.{◌≡◌, ◌+◌, ◌∷◌, List, ap, subst, map, drop, option_map}
use Rattle.gm_ast.specs.Surface.{SurfaceExpr}
use Rattle.gm_ast.specs.SurfaceTree.{expr_of}
use Rattle.gm_ast.specs.Typing.{typed}
use Rattle.gm_types.specs.Parts.{part_of}
use Rattle.gm_types.specs.Shapes.{Walks}
use Rattle.gm_types.proofs.Items.{drop-item}
use Rattle.gm_types.proofs.Fits.{held-next}
use Rattle.gm_types.proofs.Sequences.{walks-next}
use Rattle.std.proofs.lemmas.Result.{IfOk-from_err}
use Rattle.gm_types.proofs.names.Checker.typed_all.Goals as goal

pub loop-value-preserved : goal.loop-value-preserved
loop-value-preserved c =
    let values = c.args.values.now in
    let i = c.loop-value.value-index in
    let item = c.value-item.result in
    let rest : map expr_of (drop i values) ≡ expr_of item ∷ map expr_of (drop (i + 1) values) = ap (map expr_of) (drop-item values i item c.loop-value-test.true c.value-item.is) in
    let w = subst (λ (r : List SurfaceExpr). Walks typed c.args.self.now c.loop-value.self (option_map (λ v. map part_of v.items) c.loop-value.held) (map expr_of values) r) rest c.loop-value.invariant in
    rw (held-next part_of c.loop-value.held c.in_ok-held.held c.in_ok-part.part c.in_ok-held.ensures)
    (walks-next typed (map expr_of values) (expr_of item) (map expr_of (drop (i + 1) values)) w c.in_ok-part.ensures)

pub returns-in_err-part : goal.returns-in_err-part
returns-in_err-part c = IfOk-from_err _ _ c.from_residual.ensures.0

pub returns-in_err-held : goal.returns-in_err-held
returns-in_err-held c = IfOk-from_err _ _ c.from_residual-in_err-held.ensures.0
