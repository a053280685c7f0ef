use Rattle.std.proofs.Common.{Option, ap, sym, subst, option_map}
use Rattle.std.specs.Prelude.{IfOk}
use Rattle.gm_ast.specs.Surface.{SurfaceName}
use Rattle.gm_ast.specs.Statements.{assignment}
use Rattle.gm_ast.specs.SurfaceTree.{name_of, target_of, expr_of}
use Rattle.gm_ast.specs.Tree.{stmt_of}
use Rattle.gm_types.specs.Views.{env_of, Judges}
use Rattle.gm_types.proofs.names.Checker.assignment.Goals as goal

pub returns-in-None : goal.returns-in-None
returns-in-None c =
    subst (λ (o : Option SurfaceName). IfOk c.assigned.result (λ r. Judges c.args.self.now c.assigned.new.self (assignment o (target_of c.args.target.now) c.args.place (expr_of c.args.value.now) (env_of c.args.self.now)) (option_map stmt_of r)))
    (ap (option_map name_of) (sym c.in-None.is)) c.assigned.ensures

pub returns-in-Some : goal.returns-in-Some
returns-in-Some c =
    subst (λ (o : Option SurfaceName). IfOk c.property_assigned.result (λ r. Judges c.args.self.now c.property_assigned.new.self (assignment o (target_of c.args.target.now) c.args.place (expr_of c.args.value.now) (env_of c.args.self.now)) (option_map stmt_of r)))
    (ap (option_map name_of) (sym c.in-Some.is)) c.property_assigned.ensures
