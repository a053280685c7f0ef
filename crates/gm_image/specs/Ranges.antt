-- Numbers and constants in the ranges of their types.
use Rattle.std.specs.Prelude.{ℕ, ◌<◌, Bool, true, false, Option, Some, None, IsTrue}
use Rattle.std.specs.List.{AllByRecursion}
use Rattle.gm_base.specs.declared.places.Place.{Place}
use Rattle.gm_value.specs.declared.values.VType.{VType}
use Rattle.gm_value.specs.declared.values.VType.TheVariants as types
use Rattle.gm_value.specs.declared.values.Value.{Value}
use Rattle.gm_value.specs.declared.values.Value.TheVariants as values
use Rattle.gm_value.specs.declared.operations.Op1.{Op1}
use Rattle.gm_value.specs.declared.operations.Op1.TheVariants as one
use Rattle.gm_value.specs.declared.operations.Op2.{Op2}
use Rattle.gm_value.specs.declared.operations.Op2.TheVariants as two
use Rattle.gm_value.specs.Numbers.{fits}
use Rattle.gm_image.specs.Term.{Term, Const, Global, NodeCount, EdgeCount, Field, Self, OutDegree, InDegree, Register, Message, Neighbour, Column, NodeAt, Live, Unary, Binary, And, Or, Choose}
use Rattle.gm_image.specs.Program as programs
use Rattle.gm_image.specs.Program.{Program, Target, SetField, Fold, SetRegister, Put, Send, Skip, Each, Command, SetGlobal, Step, Jump, Test, Turn, Back, Finish, Holder, Scalar, Node, Edge, Item, Handler, Block}

-- an index or a count
abbrev pub IsIndex : ℕ → Type 0
IsIndex n = n < 4294967296

-- an operation that may fault has the index of a place, and no other has one
abbrev pub PlaceFits : Bool → Option ℕ → Type 0
PlaceFits true None = ⊥
PlaceFits true (Some p) = IsIndex p
PlaceFits false None = Unit {0}
PlaceFits false (Some p) = ⊥

abbrev pub has_place1 : Op1 → Bool
has_place1 one.Neg = true
has_place1 one.Not = false
has_place1 one.ToI32 = true
has_place1 one.ToI64 = false

abbrev pub has_place2 : Op2 → Bool
has_place2 two.Add = true
has_place2 two.Sub = true
has_place2 two.Mul = true
has_place2 two.Div = true
has_place2 two.Rem = true
has_place2 op = false

-- a number in its type's range
abbrev pub ValueInRange : Value → Type 0
ValueInRange (values.I32 z) = IsTrue (fits types.I32 z)
ValueInRange (values.I64 z) = IsTrue (fits types.I64 z)
ValueInRange (values.Flag b) = Unit {0}
ValueInRange (values.At n) = Unit {0}

-- the numbers of an expression in their ranges, and a place where the operation has one
abbrev pub InRange : Term → Type 0
InRange (Const v) = ValueInRange v
InRange (Global g) = IsIndex g
InRange NodeCount = Unit {0}
InRange EdgeCount = Unit {0}
InRange (Field f) = IsIndex f
InRange Self = Unit {0}
InRange OutDegree = Unit {0}
InRange InDegree = Unit {0}
InRange (Register r) = IsIndex r
InRange (Message i) = IsIndex i
InRange Neighbour = Unit {0}
InRange (Column w) = IsIndex w
InRange (NodeAt a) = InRange a
InRange (Live p a) = IsIndex p × InRange a
InRange (Unary op p a) = PlaceFits (has_place1 op) p × InRange a
InRange (Binary op p a b) = PlaceFits (has_place2 op) p × InRange a × InRange b
InRange (And a b) = InRange a × InRange b
InRange (Or a b) = InRange a × InRange b
InRange (Choose c a b) = InRange c × InRange a × InRange b

-- an output is no edge property
abbrev pub IsOutputHolder : Holder → Type 0
IsOutputHolder Scalar = Unit {0}
IsOutputHolder Node = Unit {0}
IsOutputHolder Edge = ⊥

abbrev pub ResultFits : Option (VType × ℕ) → Type 0
ResultFits None = Unit {0}
ResultFits (Some r) = IsIndex r.1

abbrev pub PlaceIsIndex : Place → Type 0
PlaceIsIndex p = IsIndex p.line × IsIndex p.col

-- the same of the lines and declarations of an image
abbrev pub TargetRanged : Target → Type 0
TargetRanged t = IsIndex t.slot × InRange t.term

abbrev pub LineRanged : programs.Line → Type 0
LineRanged (SetField f a) = IsIndex f × InRange a
LineRanged (Fold r p ts) = IsIndex p × AllByRecursion TargetRanged ts
LineRanged (SetRegister i a) = IsIndex i × InRange a
LineRanged (Put r p ts) = IsIndex p × AllByRecursion TargetRanged ts
LineRanged (Send k to vs) = IsIndex k × InRange to × AllByRecursion InRange vs
LineRanged (Skip n a) = IsIndex n × InRange a
LineRanged (Each d n) = IsIndex n

abbrev pub CommandRanged : Command → Type 0
CommandRanged (SetGlobal g a) = IsIndex g × InRange a
CommandRanged (Step q) = IsIndex q
CommandRanged (Jump j) = IsIndex j
CommandRanged (Test j a) = IsIndex j × InRange a
CommandRanged (Turn x a) = IsIndex x × InRange a
CommandRanged (Back h) = IsIndex h
CommandRanged Finish = Unit {0}

abbrev pub InputRanged : Item → Type 0
InputRanged i = IsIndex i.slot

abbrev pub OutputRanged : Item → Type 0
OutputRanged i = IsOutputHolder i.holder × IsIndex i.slot

abbrev pub HandlerRanged : Handler → Type 0
HandlerRanged h = IsIndex h.kind × AllByRecursion LineRanged h.lines

abbrev pub BlockRanged : Block → Type 0
BlockRanged b = AllByRecursion HandlerRanged b.handlers × AllByRecursion LineRanged b.body

-- the numbers of an image in their ranges
pub record Ranged (p : Program) : Type 0 where
  pub inputs : AllByRecursion InputRanged p.inputs
  pub outputs : AllByRecursion OutputRanged p.outputs
  pub result : ResultFits p.result
  pub places : AllByRecursion PlaceIsIndex p.places
  pub blocks : AllByRecursion BlockRanged p.blocks
  pub master : AllByRecursion CommandRanged p.master
