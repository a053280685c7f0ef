-- Several declarations, as a checker walks over them.
use Rattle.std.specs.Prelude.{◌≡◌, ℕ, List, ◌++◌, Some}
use Rattle.gm_base.specs.Rules.{least_from}
use Rattle.gm_ast.specs.declared.tree.Variable.{Variable}
use Rattle.gm_ast.specs.Surface.{SurfaceName, SurfaceGroup}
use Rattle.gm_ast.specs.Statements.{declared_all, with_names}
use Rattle.gm_ast.specs.Procedures.{parameters, with_parameters}
use Rattle.gm_types.specs.declared.names.Checker.{Checker}
use Rattle.gm_types.specs.Views.{env_of}
use Rattle.gm_types.specs.Shapes.{joined}

-- a walk over names that are declared: the indices so far, with those of the rest, are all
pub record Declaring (v : Variable) (initial self : Checker) (held : List ℕ) (all rest : List SurfaceName) : Type 0 where
  pub part : (declared_all v all (env_of initial)).part ≡ joined (Some held) (declared_all v rest (env_of self)).part
  pub least : least_from initial.least (declared_all v all (env_of initial)).broken ≡ least_from self.least (declared_all v rest (env_of self)).broken
  pub declared : initial.declarations.items ++ (declared_all v all (env_of initial)).declared ≡ self.declarations.items ++ (declared_all v rest (env_of self)).declared
  pub names : with_names v all (env_of initial) ≡ with_names v rest (env_of self)

-- a walk over groups of parameters
pub record Grouping (initial self : Checker) (all rest : List SurfaceGroup) : Type 0 where
  pub least : least_from initial.least (parameters all (env_of initial)).broken ≡ least_from self.least (parameters rest (env_of self)).broken
  pub declared : initial.declarations.items ++ (parameters all (env_of initial)).declared ≡ self.declarations.items ++ (parameters rest (env_of self)).declared
  pub names : with_parameters all (env_of initial) ≡ with_parameters rest (env_of self)
