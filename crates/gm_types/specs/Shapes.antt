-- Statements whose parts a checker judges together.
use Rattle.std.specs.Prelude.{◌≡◌, List, [], ◌∷◌, ◌++◌, Option, Some, None, Ok}
use Rattle.gm_base.specs.declared.places.Place.{Place}
use Rattle.gm_value.specs.declared.reductions.Reduce.{Reduce}
use Rattle.std.specs.Prelude.{Box, box_value}
use Rattle.std.specs.declared.alloc.Global.{Global}
use Rattle.gm_ast.specs.declared.surface.SpelledStmt.{SpelledStmt}
use Rattle.gm_ast.specs.SurfaceTree.{stmt_of}
use Rattle.gm_ast.specs.Surface.{SurfaceName, SurfaceTarget, SurfaceExpr, SurfaceStmt, Skip, Defer, Combine, Increment, Return}
use Rattle.gm_ast.specs.declared.tree.Key.{Key}
use Rattle.gm_ast.specs.Program.{Expr, Stmt}
use Rattle.gm_ast.specs.Judged.{Judged}
use Rattle.gm_ast.specs.Names.{Env, later, judged_each}
use Rattle.gm_base.specs.Rules.{least_from}
use Rattle.gm_types.specs.declared.names.Checker.{Checker}
use Rattle.gm_types.specs.Views.{env_of}
use Rattle.gm_ast.specs.Statements.{checked}

-- what is held together of some parts and one more
abbrev pub with_last : {A : Type 0} → Option (List A) → Option A → Option (List A)
with_last None part = None
with_last (Some xs) None = None
with_last (Some xs) (Some x) = Some (xs ++ (x ∷ []))

-- some parts before others
abbrev pub joined : {A : Type 0} → Option (List A) → Option (List A) → Option (List A)
joined None ys = None
joined (Some xs) None = None
joined (Some xs) (Some ys) = Some (xs ++ ys)

-- a walk over several parts: what was held so far, with what the rest gives, is what all give
pub record Walks {X A : Type 0} (one : X → Env → Judged A) (initial self : Checker) (held : Option (List A)) (all rest : List X) : Type 0 where
  pub part : (judged_each one all (env_of initial)).part ≡ joined held (judged_each one rest (env_of self)).part
  pub least : least_from initial.least (judged_each one all (env_of initial)).broken ≡ least_from self.least (judged_each one rest (env_of self)).broken
  pub declared : initial.declarations.items ++ (judged_each one all (env_of initial)).declared ≡ self.declarations.items ++ (judged_each one rest (env_of self)).declared
  pub names : later (env_of initial) (judged_each one all (env_of initial)) ≡ later (env_of self) (judged_each one rest (env_of self))

-- a branch that may be absent
abbrev pub branch_in : Option (Box SpelledStmt Global) → SurfaceStmt
branch_in None = Skip
branch_in (Some s) = stmt_of (box_value s)

-- a filter and a body with the key of the filter
abbrev pub under_key : Key → Expr × Stmt → Key × (Expr × Stmt)
under_key k p = (k, p)

-- a deferred assignment with its iterator
abbrev pub deferred_at : SurfaceTarget → Place → SurfaceExpr → Option SurfaceName → Env → Judged Stmt
deferred_at t at e iterator = checked (Defer t at e iterator)

-- a reduction assignment with its iterator
abbrev pub reduced_at : List SurfaceTarget → Reduce → Place → List SurfaceExpr → Option SurfaceName → Env → Judged Stmt
reduced_at ts r at es iterator = checked (Combine ts r at es iterator)

-- `++`
abbrev pub increment_at : SurfaceTarget → Place → Env → Judged Stmt
increment_at t at = checked (Increment t at)

-- the end of the procedure
abbrev pub return_at : Place → Option SurfaceExpr → Env → Judged Stmt
return_at at e = checked (Return at e)
