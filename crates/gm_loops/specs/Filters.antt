-- The column of a loop's filter.
use Rattle.std.specs.Prelude.{◌≡◌, false, Option, IfSome, Ok}
use Rattle.gm_value.specs.declared.values.Value.{Value}
use Rattle.gm_value.specs.Operations.{is_true}
use Rattle.gm_ast.specs.declared.tree.Key.{Key}
use Rattle.gm_ast.specs.Program.{Expr}
use Rattle.gm_semantics.specs.Expressions.{View, evaluated, plain}
use Rattle.gm_semantics.specs.Iterations.{Outermost, begun, view_in}
use Rattle.gm_semantics.specs.Stores.{Store}
use Rattle.gm_columns.specs.declared.cells.Cells.{Cells}
use Rattle.gm_loops.specs.declared.around.Around.{Around}
use Rattle.gm_loops.specs.Around.{loop_of}
use Rattle.gm_loops.specs.Columns.{IsColumn}

-- a filter that does not pass, and does not fault
pub record Fails (test : Expr) (w : View) : Type 0 where
  pub value : Value
  pub fails : is_true value ≡ false
  pub found : evaluated test w ≡ plain (Ok value)

-- cells, if there are any, that hold the values of an outermost loop's filter in a store
abbrev pub IsFilter : Around → Key → Expr → Store → Option Cells → Type 0
IsFilter a key test s passing = IfSome passing (IsColumn test (view_in (loop_of a) Outermost (begun s) key) a.outer)
