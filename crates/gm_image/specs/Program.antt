-- Images without where they lie in memory.
use Rattle.std.specs.Prelude.{ℕ, Option, List}
use Rattle.gm_base.specs.declared.places.Place.{Place}
use Rattle.gm_value.specs.declared.values.VType.{VType}
use Rattle.gm_value.specs.declared.reductions.Reduce.{Reduce}
use Rattle.gm_image.specs.declared.images.Kind.{Kind}
use Rattle.gm_image.specs.Term.{Term}

-- the edges that an each goes over
pub data Direction : Type 0 where
  Out : Direction
  In : Direction

-- a slot, and the value that goes into it
pub record Target : Type 0 where
  pub slot : ℕ
  pub term : Term

-- a line of a vertex program
pub data Line : Type 0 where
  SetField : (f : ℕ) (a : Term) → Line
  Fold : (reduce : Reduce) (place : ℕ) (targets : List Target) → Line
  SetRegister : (r : ℕ) (a : Term) → Line
  Put : (reduce : Reduce) (place : ℕ) (targets : List Target) → Line
  Send : (kind : ℕ) (to : Term) (values : List Term) → Line
  Skip : (n : ℕ) (a : Term) → Line
  Each : (direction : Direction) (n : ℕ) → Line

-- a line of the master list
pub data Command : Type 0 where
  SetGlobal : (g : ℕ) (a : Term) → Command
  Step : (block : ℕ) → Command
  Jump : (to : ℕ) → Command
  Test : (to : ℕ) (a : Term) → Command
  Turn : (exit : ℕ) (a : Term) → Command
  Back : (head : ℕ) → Command
  Finish : Command

-- what an input starts, or an output is read from: a global, a field or a column
pub data Holder : Type 0 where
  Scalar : Holder
  Node : Holder
  Edge : Holder

-- an input or an output
pub record Item : Type 0 where
  pub holder : Holder
  pub vtype : VType
  pub name : List ℕ
  pub slot : ℕ

-- what a vertex does for each message of a kind
pub record Handler : Type 0 where
  pub kind : ℕ
  pub lines : List Line

-- what a vertex does in a superstep
pub record Block : Type 0 where
  pub handlers : List Handler
  pub body : List Line

-- a vertex program
pub record Program : Type 0 where
  pub name : List ℕ
  pub inputs : List Item
  pub outputs : List Item
  pub result : Option (VType × ℕ)
  pub globals : List VType
  pub fields : List VType
  pub registers : List VType
  pub columns : List VType
  pub kinds : List Kind
  pub places : List Place
  pub blocks : List Block
  pub master : List Command
