-- The syntax that a text spells, without the memory that holds it.
use Rattle.std.specs.Prelude.{ℕ, ℤ, Bool, List, [], ◌∷◌, Option}
use Rattle.gm_base.specs.declared.places.Place.{Place}
use Rattle.gm_value.specs.declared.reductions.Reduce.{Reduce}
use Rattle.gm_ast.specs.declared.surface.TypeWord.{TypeWord}
use Rattle.gm_ast.specs.declared.surface.Bearer.{Bearer}
use Rattle.gm_ast.specs.declared.surface.Prefix.{Prefix}
use Rattle.gm_ast.specs.declared.surface.Infix.{Infix}
use Rattle.gm_ast.specs.declared.surface.Range.{Range}
use Rattle.gm_ast.specs.declared.surface.ReductionWord.{ReductionWord}
use Rattle.gm_ast.specs.declared.surface.LoopWord.{LoopWord}

-- a name: its bytes, and where it stands
pub record SurfaceName : Type 0 where
  pub text : List ℕ
  pub place : Place

-- a type
pub data SurfaceType : Type 0 where
  Plain : (place : Place) (word : TypeWord) (graph : Option SurfaceName) → SurfaceType
  Property : (place : Place) (bearer : Bearer) (inner : SurfaceType) (graph : Option SurfaceName) → SurfaceType

-- what a loop or a reduction runs over
pub record SurfaceHead : Type 0 where
  pub iterator : SurfaceName
  pub owner : SurfaceName
  pub range : Range

-- an expression; an absent filter or condition is Always
pub data SurfaceExpr : Type 0 where
  Always : SurfaceExpr
  Number : (place : Place) (value : ℤ) → SurfaceExpr
  Truth : (place : Place) (value : Bool) → SurfaceExpr
  Nil Greatest Least : (place : Place) → SurfaceExpr
  Named : (name : SurfaceName) → SurfaceExpr
  Member : (owner property : SurfaceName) → SurfaceExpr
  Method : (owner method : SurfaceName) → SurfaceExpr
  Paren : (place : Place) (inner : SurfaceExpr) → SurfaceExpr
  Prefixed : (place : Place) (op : Prefix) (inner : SurfaceExpr) → SurfaceExpr
  Infixed : (place : Place) (op : Infix) (left right : SurfaceExpr) → SurfaceExpr
  Choose : (place : Place) (test yes no : SurfaceExpr) → SurfaceExpr
  Reduction : (place : Place) (word : ReductionWord) (head : SurfaceHead) (filter body : SurfaceExpr) (close : Place) → SurfaceExpr

-- the left side of an assignment
pub record SurfaceTarget : Type 0 where
  pub owner : SurfaceName
  pub property : Option SurfaceName

-- where the result of a call goes
pub record SurfaceResult : Type 0 where
  pub target : SurfaceTarget
  pub equals : Place

-- a statement; a block is its first statement and then the rest, and an absent branch is Skip
pub data SurfaceStmt : Type 0 where
  Skip : SurfaceStmt
  Then : (first rest : SurfaceStmt) → SurfaceStmt
  Declare : (vtype : SurfaceType) (names : List SurfaceName) → SurfaceStmt
  DeclareAs : (vtype : SurfaceType) (name : SurfaceName) (equals : Place) (value : SurfaceExpr) → SurfaceStmt
  Assign : (target : SurfaceTarget) (equals : Place) (value : SurfaceExpr) → SurfaceStmt
  Defer : (target : SurfaceTarget) (arrow : Place) (value : SurfaceExpr) (iterator : Option SurfaceName) → SurfaceStmt
  Combine : (targets : List SurfaceTarget) (reduce : Reduce) (place : Place) (values : List SurfaceExpr) (iterator : Option SurfaceName) → SurfaceStmt
  Increment : (target : SurfaceTarget) (place : Place) → SurfaceStmt
  Call : (result : Option SurfaceResult) (procedure : SurfaceName) (inputs : List SurfaceExpr) (outputs : List SurfaceName) → SurfaceStmt
  Loop : (place : Place) (word : LoopWord) (head : SurfaceHead) (filter : SurfaceExpr) (body : SurfaceStmt) → SurfaceStmt
  If : (place : Place) (test : SurfaceExpr) (yes no : SurfaceStmt) → SurfaceStmt
  While : (place : Place) (test : SurfaceExpr) (body : SurfaceStmt) → SurfaceStmt
  Do : (place : Place) (body : SurfaceStmt) (test : SurfaceExpr) → SurfaceStmt
  InBfs : (place : Place) (iterator graph root : SurfaceName) (filter : SurfaceExpr) (body : SurfaceStmt) → SurfaceStmt
  InBfsBoth : (place : Place) (iterator graph root : SurfaceName) (filter : SurfaceExpr) (body : SurfaceStmt) (reverse : Place) (back_filter : SurfaceExpr) (back : SurfaceStmt) → SurfaceStmt
  Return : (place : Place) (value : Option SurfaceExpr) → SurfaceStmt

-- the statements of a block, one after another
abbrev pub sequence : List SurfaceStmt → SurfaceStmt
sequence [] = Skip
sequence (s ∷ ss) = Then s (sequence ss)

-- parameters of one type
pub record SurfaceGroup : Type 0 where
  pub names : List SurfaceName
  pub vtype : SurfaceType

-- a procedure
pub record SurfaceProcedure : Type 0 where
  pub name : SurfaceName
  pub inputs : List SurfaceGroup
  pub outputs : List SurfaceGroup
  pub result : Option SurfaceType
  pub body : SurfaceStmt
