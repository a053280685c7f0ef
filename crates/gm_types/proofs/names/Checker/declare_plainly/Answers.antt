use Rattle.std.proofs.Common.{refl, map}
use Rattle.gm_ast.specs.SurfaceTree.{name_of, type_of}
use Rattle.gm_types.proofs.Declarings.{judges-plainly}
use Rattle.std.proofs.lemmas.Result.{IfOk-from_err}
use Rattle.gm_types.proofs.names.Checker.declare_plainly.Goals as goal

pub returns : goal.returns
returns c =
    judges-plainly {mid = c.note_type.new.self} {all = c.declare_all.new.self} {ns = c.in_ok-indices.indices.items} (type_of c.args.vtype.now) (map name_of c.args.names.now)
    c.note_type.ensures.rest c.note_type.ensures.least
    (rw c.variable_of-variable.ensures at c.in_ok-indices.ensures)
    (rw c.sort_of.ensures at c.in_ok-stmt.ensures.part) (rw c.sort_of.ensures at c.in_ok-stmt.ensures.least) refl refl

pub returns-in_err-indices : goal.returns-in_err-indices
returns-in_err-indices c = IfOk-from_err _ _ c.from_residual.ensures.0

pub returns-in_err-stmt : goal.returns-in_err-stmt
returns-in_err-stmt c = IfOk-from_err _ _ c.from_residual-in_err-stmt.ensures.0
