-- The statements of a block, as a checker walks over them.
use Rattle.std.specs.Prelude.{◌≡◌, ◌+◌, List, [], ◌∷◌, ◌++◌, Option, Some, None}
use Rattle.gm_base.specs.Rules.{least_from}
use Rattle.gm_ast.specs.Surface.{SurfaceStmt, sequence}
use Rattle.gm_ast.specs.Program.{Stmt, Then}
use Rattle.gm_ast.specs.Names.{Known}
use Rattle.gm_ast.specs.Statements.{checked}
use Rattle.gm_types.specs.declared.names.Checker.{Checker}
use Rattle.gm_types.specs.Views.{env_of, known_in}

-- names that are some and more
abbrev pub Extends : List Known → List Known → Type 0
Extends a b = (more : List Known) × (b ≡ a ++ more)

-- statements before a statement
abbrev pub then_all : List Stmt → Stmt → Stmt
then_all [] t = t
then_all (s ∷ ss) t = Then s (then_all ss t)

-- the same, where all have types
abbrev pub chained : Option (List Stmt) → Option Stmt → Option Stmt
chained None t = None
chained (Some ss) None = None
chained (Some ss) (Some t) = Some (then_all ss t)

-- a walk over the statements of a block: what was held so far, with what the rest gives, is what all give
pub record Blocks (initial self : Checker) (held : Option (List Stmt)) (all rest : List SurfaceStmt) : Type 0 where
  pub part : (checked (sequence all) (env_of initial)).part ≡ chained held (checked (sequence rest) (env_of self)).part
  pub least : least_from initial.least (checked (sequence all) (env_of initial)).broken ≡ least_from self.least (checked (sequence rest) (env_of self)).broken
  pub declared : initial.declarations.items ++ (checked (sequence all) (env_of initial)).declared ≡ self.declarations.items ++ (checked (sequence rest) (env_of self)).declared
  pub number : initial.number + (checked (sequence all) (env_of initial)).numbers ≡ self.number + (checked (sequence rest) (env_of self)).numbers
  pub known : Extends (known_in initial.scope.names.entries) (known_in self.scope.names.entries)
  pub key : self.key ≡ initial.key
  pub depth : self.depth ≡ initial.depth
  pub group : self.group ≡ initial.group
  pub iterators : self.iterators.items ≡ initial.iterators.items
  pub result : self.result ≡ initial.result
