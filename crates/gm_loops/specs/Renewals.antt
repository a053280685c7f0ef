-- Loops that give a property its values at all nodes at once.
use Rattle.std.specs.Prelude.{◌≡◌, ℕ, true, List, None, Ok}
use Rattle.gm_base.specs.declared.places.Place.{Place}
use Rattle.gm_value.specs.declared.values.Value.{Value}
use Rattle.gm_value.specs.Operations.{is_true}
use Rattle.gm_ast.specs.declared.tree.Key.{Key}
use Rattle.gm_ast.specs.declared.tree.Target.TheVariants as T
use Rattle.gm_ast.specs.Program.{Expr, Stmt, Assign}
use Rattle.gm_semantics.specs.Expressions.{View, evaluated, plain}
use Rattle.gm_semantics.specs.Iterations.{Iteration, Loop, Outermost, begun, does, view_in}
use Rattle.gm_semantics.specs.Levels.{nodes}
use Rattle.gm_semantics.specs.Stores.{Store}
use Rattle.gm_loops.specs.declared.renewals.Renewal.{Renewal}
use Rattle.gm_loops.specs.Columns.{IsColumn}

-- a filter that passes everything
pub record PassesAll (test : Expr) : Type 0 where
  pub value : Value
  pub holds : is_true value ≡ true
  pub found : (w : View) → evaluated test w ≡ plain (Ok value)

-- a loop over all nodes that passes each and assigns to a property of its own node, for which cells hold the values: nowhere is there a fault
pub record Renews (loop : Loop) (test : Expr) (body : Stmt) (ks : List ℕ) (s : Store) (r : Renewal) : Type 0 where
  pub passes : PassesAll test
  pub all : ks ≡ nodes loop.graph
  pub key : Key
  pub at : Place
  pub value : Expr
  pub assigns : (it : Iteration) → it.fault ≡ None → does body Outermost loop it ≡ does (Assign key (T.Property loop.outer r.property at) value) Outermost loop it
  pub column : IsColumn value (view_in loop Outermost (begun s) key) loop.outer r.cells
