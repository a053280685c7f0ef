-- The syntax of a program with its names resolved, without the memory that holds it.
use Rattle.std.specs.Prelude.{ℕ, true, List, [], ◌∷◌, Option}
use Rattle.gm_base.specs.declared.places.Place.{Place}
use Rattle.gm_value.specs.declared.values.VType.{VType}
use Rattle.gm_value.specs.declared.values.Value.{Value}
use Rattle.gm_value.specs.declared.values.Value.TheVariants.{Flag}
use Rattle.gm_value.specs.declared.operations.Op1.{Op1}
use Rattle.gm_value.specs.declared.operations.Op2.{Op2}
use Rattle.gm_value.specs.declared.reductions.Reduce.{Reduce}
use Rattle.gm_ast.specs.declared.tree.Declaration.{Declaration}
use Rattle.gm_ast.specs.declared.tree.Key.{Key}
use Rattle.gm_ast.specs.declared.tree.TotalKey.{TotalKey}
use Rattle.gm_ast.specs.declared.tree.Head.{Head}
use Rattle.gm_ast.specs.declared.tree.Fold.{Fold}
use Rattle.gm_ast.specs.declared.tree.Search.{Search}
use Rattle.gm_ast.specs.declared.tree.Direction.{Direction}
use Rattle.gm_ast.specs.declared.tree.Target.{Target}

-- an expression; a filter that is absent is the constant True
pub data Expr : Type 0 where
  Const : (value : Value) → Expr
  Var : (variable : ℕ) (place : Place) → Expr
  Property EdgeProperty : (owner property : ℕ) (place : Place) → Expr
  Degree : (direction : Direction) (owner : ℕ) (place : Place) → Expr
  NodeCount EdgeCount : Expr
  Live : (variable : ℕ) (place : Place) → Expr
  Unary : (op : Op1) (place : Place) (inner : Expr) → Expr
  Binary : (op : Op2) (place : Place) (left right : Expr) → Expr
  Both Either : (left right : Expr) → Expr
  Choose : (test yes no : Expr) → Expr
  Folded : (fold : Fold) (head : Head) (filter body : Expr) → Expr

-- the condition that always holds
abbrev pub always : Expr
always = Const (Flag true)

-- a statement; a block is its first statement and then the rest, and an absent branch is Skip
pub data Stmt : Type 0 where
  Skip : Stmt
  Then : (first rest : Stmt) → Stmt
  Declare : (key : Key) (variable : ℕ) (value : Option Expr) → Stmt
  DeclareEdge : (variable iterator : ℕ) (place : Place) → Stmt
  Assign Defer : (key : Key) (target : Target) (value : Expr) → Stmt
  Combine : (key : Key) (total : TotalKey) (reduce : Reduce) (targets : List Target) (values : List Expr) → Stmt
  Group : (key : Key) (place : Place) (graph property : ℕ) (value : Expr) → Stmt
  Foreach For : (key : Key) (place : Place) (head : Head) (filter : Expr) (body : Stmt) → Stmt
  If : (key : Key) (test : Expr) (yes no : Stmt) → Stmt
  While : (key : Key) (place : Place) (test : Expr) (body : Stmt) → Stmt
  Do : (key : Key) (place : Place) (body : Stmt) (test : Expr) → Stmt
  InBfs : (key : Key) (place : Place) (search : Search) (filter : Expr) (body : Stmt) → Stmt
  InBfsBoth : (key : Key) (place : Place) (search : Search) (filter : Expr) (body : Stmt) (back_key : Key) (back_filter : Expr) (back : Stmt) → Stmt
  Return : (key : Key) (place : Place) (value : Option Expr) → Stmt

-- statements one after another
abbrev pub sequence : List Stmt → Stmt
sequence [] = Skip
sequence (s ∷ ss) = Then s (sequence ss)

-- a procedure
pub record Program : Type 0 where
  pub name : List ℕ
  pub declarations : List Declaration
  pub inputs : ℕ
  pub outputs : ℕ
  pub result : Option VType
  pub statements : ℕ
  pub body : Stmt
