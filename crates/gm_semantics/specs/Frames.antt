-- What a part of a program may read: runs of it on stores that agree there go alike.
use Rattle.std.specs.Prelude.{◌≡◌, ◌<◌, ℕ, List, [], ◌∷◌, Option, Some, None, Result, Ok, Err}
use Rattle.gm_ast.specs.declared.tree.Key.{Key}
use Rattle.gm_ast.specs.declared.tree.Target.{Target}
use Rattle.gm_ast.specs.declared.tree.Target.TheVariants as T
use Rattle.gm_ast.specs.Program.{Expr, Const, Var, Property, EdgeProperty, Degree, NodeCount, EdgeCount, Live, Unary, Binary, Both, Either, Choose, Folded, Stmt, Skip, Then, Declare, DeclareEdge, Assign, Defer, Combine, Group, Foreach, For, If, While, Do, InBfs, InBfsBoth, Return}
use Rattle.gm_semantics.specs.declared.faults.Fault.{Fault}
use Rattle.gm_semantics.specs.declared.slots.Slot.{Slot}
use Rattle.gm_semantics.specs.declared.slots.Slot.TheVariants.{Scalar, Node}
use Rattle.gm_semantics.specs.Stores.{Store}
use Rattle.gm_semantics.specs.Expressions.{View, evaluated}
use Rattle.gm_semantics.specs.Contributions.{Contribution}
use Rattle.gm_semantics.specs.Iterations.{Loop, Mode, Iteration, does}
use Rattle.gm_semantics.specs.Loops.{parallel}
use Rattle.gm_semantics.specs.Statements.{Run, State, Course, Goes, Returns, Faults, Stops, sequential}

-- two stores hold the same in all variables below a number
pub record Agree (k : ℕ) (s t : Store) : Type 0 where
  pub scalar : (x : ℕ) → x < k → t.scalar x ≡ s.scalar x
  pub node : (p n : ℕ) → p < k → t.node p n ≡ s.node p n
  pub edge : (p e : ℕ) → p < k → t.edge p e ≡ s.edge p e

-- all variables that an expression reads are below a number
abbrev pub ReadsBelow : ℕ → Expr → Type 0
ReadsBelow k (Const v) = Unit {0}
ReadsBelow k (Var x at) = x < k
ReadsBelow k (Property x p at) = (x < k) × (p < k)
ReadsBelow k (EdgeProperty x p at) = p < k
ReadsBelow k (Degree d x at) = x < k
ReadsBelow k NodeCount = Unit {0}
ReadsBelow k EdgeCount = Unit {0}
ReadsBelow k (Live x at) = x < k
ReadsBelow k (Unary op at e) = ReadsBelow k e
ReadsBelow k (Binary op at a b) = ReadsBelow k a × ReadsBelow k b
ReadsBelow k (Both a b) = ReadsBelow k a × ReadsBelow k b
ReadsBelow k (Either a b) = ReadsBelow k a × ReadsBelow k b
ReadsBelow k (Choose c a b) = ReadsBelow k c × ReadsBelow k a × ReadsBelow k b
ReadsBelow k (Folded f h test e) = (h.owner < k) × ReadsBelow k test × ReadsBelow k e

-- the same of an expression that may be absent
abbrev pub MayReadBelow : ℕ → Option Expr → Type 0
MayReadBelow k None = Unit {0}
MayReadBelow k (Some e) = ReadsBelow k e

-- the same of several expressions
abbrev pub AllReadBelow : ℕ → List Expr → Type 0
AllReadBelow k [] = Unit {0}
AllReadBelow k (e ∷ es) = ReadsBelow k e × AllReadBelow k es

-- the variables of a target are below a number
abbrev pub TargetBelow : ℕ → Target → Type 0
TargetBelow k (T.Scalar x at) = x < k
TargetBelow k (T.Property x p at) = (x < k) × (p < k)

-- the same of several targets
abbrev pub TargetsBelow : ℕ → List Target → Type 0
TargetsBelow k [] = Unit {0}
TargetsBelow k (t ∷ ts) = TargetBelow k t × TargetsBelow k ts

-- all variables that a statement reads or writes are below a number
abbrev pub NamesBelow : ℕ → Stmt → Type 0
NamesBelow k Skip = Unit {0}
NamesBelow k (Then a b) = NamesBelow k a × NamesBelow k b
NamesBelow k (Declare key x e) = (x < k) × MayReadBelow k e
NamesBelow k (DeclareEdge x y at) = Unit {0}
NamesBelow k (Assign key t e) = TargetBelow k t × ReadsBelow k e
NamesBelow k (Defer key t e) = TargetBelow k t × ReadsBelow k e
NamesBelow k (Combine key total r ts es) = TargetsBelow k ts × AllReadBelow k es
NamesBelow k (Group key at g p e) = (g < k) × (p < k) × ReadsBelow k e
NamesBelow k (Foreach key at h test body) = (h.iterator < k) × (h.owner < k) × ReadsBelow k test × NamesBelow k body
NamesBelow k (For key at h test body) = (h.iterator < k) × (h.owner < k) × ReadsBelow k test × NamesBelow k body
NamesBelow k (If key c a b) = ReadsBelow k c × NamesBelow k a × NamesBelow k b
NamesBelow k (While key at c body) = ReadsBelow k c × NamesBelow k body
NamesBelow k (Do key at body c) = NamesBelow k body × ReadsBelow k c
NamesBelow k (InBfs key at search c body) = (search.iterator < k) × (search.root < k) × ReadsBelow k c × NamesBelow k body
NamesBelow k (InBfsBoth key at search c body back_key d back) =
    (search.iterator < k) × (search.root < k) × ReadsBelow k c × NamesBelow k body × ReadsBelow k d × NamesBelow k back
NamesBelow k (Return key at e) = MayReadBelow k e

-- a slot of a variable below a number
abbrev pub SlotBelow : ℕ → Slot → Type 0
SlotBelow k (Scalar x) = x < k
SlotBelow k (Node p n) = p < k

-- slots of such variables
abbrev pub SlotsBelow : ℕ → List Slot → Type 0
SlotsBelow k [] = Unit {0}
SlotsBelow k (x ∷ xs) = SlotBelow k x × SlotsBelow k xs

-- contributions to such slots
abbrev pub GivesBelow : ℕ → List Contribution → Type 0
GivesBelow k [] = Unit {0}
GivesBelow k (c ∷ cs) = SlotsBelow k c.slots × GivesBelow k cs

-- two iterations are alike: their stores agree, and they gave, deferred and faulted the same
pub record Alike (k : ℕ) (a b : Iteration) : Type 0 where
  pub store : Agree k a.store b.store
  pub with_inner : b.with_inner ≡ a.with_inner
  pub with_outermost : b.with_outermost ≡ a.with_outermost
  pub deferred : b.deferred ≡ a.deferred
  pub fault : b.fault ≡ a.fault
  pub inner_below : GivesBelow k a.with_inner
  pub outermost_below : GivesBelow k a.with_outermost

-- what two loops leave is alike: the same fault, or stores that agree
abbrev pub AlikeStores : ℕ → Result Store Fault → Result Store Fault → Type 0
AlikeStores k (Ok s) (Ok t) = Agree k s t
AlikeStores k (Err f) (Err g) = g ≡ f
AlikeStores k _ _ = ⊥

-- two states are alike: their stores agree, and as many turns have begun
pub record AlikeStates (k : ℕ) (s t : State) : Type 0 where
  pub store : Agree k s.store t.store
  pub turns : t.turns ≡ s.turns

-- two courses are alike
abbrev pub AlikeCourses : ℕ → Course → Course → Type 0
AlikeCourses k (Goes s) (Goes t) = AlikeStates k s t
AlikeCourses k (Returns v s) (Returns u t) = (u ≡ v) × AlikeStates k s t
AlikeCourses k (Faults f) (Faults g) = g ≡ f
AlikeCourses k Stops Stops = Unit {0}
AlikeCourses k _ _ = ⊥

-- an expression reads what it names alone
abbrev pub FrameOfExpressions : Type 0
FrameOfExpressions = (k : ℕ) (e : Expr) (w : View) (t : Store) → ReadsBelow k e → Agree k w.store t → evaluated e (record w { store = t }) ≡ evaluated e w

-- so does a statement of a body
abbrev pub FrameOfBodies : Type 0
FrameOfBodies = (k : ℕ) (s : Stmt) (m : Mode) (loop : Loop) (a b : Iteration) → NamesBelow k s → Alike k a b → Alike k (does s m loop a) (does s m loop b)

-- and a parallel loop
abbrev pub FrameOfLoops : Type 0
FrameOfLoops = (k : ℕ) (loop : Loop) (key : Key) (test : Expr) (body : Stmt) (ks : List ℕ) (s t : Store) → ReadsBelow k test → NamesBelow k body → Agree k s t →
    AlikeStores k (parallel loop key test body ks s) (parallel loop key test body ks t)

-- and a statement of a sequential phase
abbrev pub FrameOfStatements : Type 0
FrameOfStatements = (k : ℕ) (s : Stmt) (run : Run) (a b : State) → NamesBelow k s → AlikeStates k a b → AlikeCourses k (sequential s run a) (sequential s run b)
