-- What has a spelling: numbers in their ranges, names of bytes that a line can hold, expressions of at most 1,024
-- levels, and reductions of one slot. Version 2 spells as well those of two slots and more that take the least or
-- the greatest; version 1 does not.
use Rattle.std.specs.Prelude.{◌≡◌, ℕ, suc, ◌<◌, ◌≤◌, max, Bool, false, ◌||◌, ◌==◌, Some, None, List, [], ◌∷◌, length, IsTrue}
use Rattle.std.specs.List.{list_any, AllByRecursion}
use Rattle.gm_value.specs.declared.values.VType.TheVariants as types
use Rattle.gm_value.specs.declared.values.Value.{Value}
use Rattle.gm_value.specs.declared.values.Value.TheVariants as values
use Rattle.gm_value.specs.declared.reductions.Reduce.{Reduce}
use Rattle.gm_value.specs.Numbers.{fits}
use Rattle.gm_image.specs.Fits.{is_extreme}
use Rattle.gm_image.specs.Term.{Term, Const, Global, NodeCount, EdgeCount, Field, Self, OutDegree, InDegree, Register, Message, Neighbour, Column, NodeAt, Live, Unary, Binary, And, Or, Choose}
use Rattle.gm_image.specs.Program as programs
use Rattle.gm_image.specs.Program.{Program, Target, SetField, Fold, SetRegister, Put, Send, Skip, Each, Command, SetGlobal, Step, Jump, Test, Turn, Back, Finish, Holder, Scalar, Node, Edge, Item, Handler, Block}
use Rattle.gm_image_text.specs.declared.heads.Version.{Version}
use Rattle.gm_image_text.specs.declared.heads.Version.TheVariants as version
use Rattle.gm_image.specs.Ranges.{IsIndex, PlaceFits, has_place1, has_place2, IsOutputHolder, ResultFits, PlaceIsIndex}

-- a byte that ends a word: LF or a space
abbrev pub ends_word : ℕ → Bool
ends_word b = b == 10 || b == 32

-- a word has no such byte
abbrev pub IsPlain : List ℕ → Type 0
IsPlain word = list_any ends_word word ≡ false

-- a name: one or more bytes other than space and LF
pub record IsName (name : List ℕ) : Type 0 where
  pub nonempty : 0 < length name
  pub plain : IsPlain name

-- a constant in its type's range; of a node NIL alone
abbrev pub ValueFits : Value → Type 0
ValueFits (values.I32 z) = IsTrue (fits types.I32 z)
ValueFits (values.I64 z) = IsTrue (fits types.I64 z)
ValueFits (values.Flag b) = Unit {0}
ValueFits (values.At None) = Unit {0}
ValueFits (values.At (Some index)) = ⊥

-- the numbers and constants of an expression are in their ranges
abbrev pub NumbersFit : Term → Type 0
NumbersFit (Const v) = ValueFits v
NumbersFit (Global g) = IsIndex g
NumbersFit NodeCount = Unit {0}
NumbersFit EdgeCount = Unit {0}
NumbersFit (Field f) = IsIndex f
NumbersFit Self = Unit {0}
NumbersFit OutDegree = Unit {0}
NumbersFit InDegree = Unit {0}
NumbersFit (Register r) = IsIndex r
NumbersFit (Message i) = IsIndex i
NumbersFit Neighbour = Unit {0}
NumbersFit (Column w) = IsIndex w
NumbersFit (NodeAt a) = NumbersFit a
NumbersFit (Live p a) = IsIndex p × NumbersFit a
NumbersFit (Unary op p a) = PlaceFits (has_place1 op) p × NumbersFit a
NumbersFit (Binary op p a b) = PlaceFits (has_place2 op) p × NumbersFit a × NumbersFit b
NumbersFit (And a b) = NumbersFit a × NumbersFit b
NumbersFit (Or a b) = NumbersFit a × NumbersFit b
NumbersFit (Choose c a b) = NumbersFit c × NumbersFit a × NumbersFit b

-- how many levels an expression has
abbrev pub levels : Term → ℕ
levels (NodeAt a) = suc (levels a)
levels (Live p a) = suc (levels a)
levels (Unary op p a) = suc (levels a)
levels (Binary op p a b) = suc (max (levels a) (levels b))
levels (And a b) = suc (max (levels a) (levels b))
levels (Or a b) = suc (max (levels a) (levels b))
levels (Choose c a b) = suc (max (levels c) (max (levels a) (levels b)))
levels a = 1

-- an expression that has a spelling
pub record TermFits (a : Term) : Type 0 where
  pub numbers : NumbersFit a
  pub flat : levels a ≤ 1024

abbrev pub TargetFits : Target → Type 0
TargetFits t = IsIndex t.slot × TermFits t.term

-- a version that has reductions of several slots
abbrev pub HasPicks : Version → Type 0
HasPicks version.One = ⊥
HasPicks version.Two = Unit {0}

-- the slots of a reduction with their values: one, or several that a least or a greatest chooses
abbrev pub TargetsFit : Version → Reduce → List Target → Type 0
TargetsFit v r [] = ⊥
TargetsFit v r (t ∷ []) = TargetFits t
TargetsFit v r (t ∷ (u ∷ us)) = HasPicks v × (IsTrue (is_extreme r) × (IsIndex (length (t ∷ (u ∷ us))) × AllByRecursion TargetFits (t ∷ (u ∷ us))))

abbrev pub LineFits : Version → programs.Line → Type 0
LineFits v (SetField f a) = IsIndex f × TermFits a
LineFits v (Fold r p ts) = IsIndex p × TargetsFit v r ts
LineFits v (SetRegister i a) = IsIndex i × TermFits a
LineFits v (Put r p ts) = IsIndex p × TargetsFit v r ts
LineFits v (Send k to vs) = IsIndex k × TermFits to × AllByRecursion TermFits vs
LineFits v (Skip n a) = IsIndex n × TermFits a
LineFits v (Each d n) = IsIndex n

abbrev pub CommandFits : Command → Type 0
CommandFits (SetGlobal g a) = IsIndex g × TermFits a
CommandFits (Step q) = IsIndex q
CommandFits (Jump j) = IsIndex j
CommandFits (Test j a) = IsIndex j × TermFits a
CommandFits (Turn x a) = IsIndex x × TermFits a
CommandFits (Back h) = IsIndex h
CommandFits Finish = Unit {0}

abbrev pub InputFits : Item → Type 0
InputFits i = IsName i.name × IsIndex i.slot

abbrev pub OutputFits : Item → Type 0
OutputFits i = IsOutputHolder i.holder × IsName i.name × IsIndex i.slot

-- as many items as a count can say, each with a spelling
abbrev pub ListFits : {A : Type 0} → (A → Type 0) → List A → Type 0
ListFits F xs = IsIndex (length xs) × AllByRecursion F xs

abbrev pub Any : {A : Type 0} → A → Type 0
Any x = Unit {0}

abbrev pub HandlerFits : Version → Handler → Type 0
HandlerFits v h = IsIndex h.kind × ListFits (LineFits v) h.lines

abbrev pub BlockFits : Version → Block → Type 0
BlockFits v b = ListFits (HandlerFits v) b.handlers × ListFits (LineFits v) b.body

-- an image that has a spelling in a version
pub record Fits (v : Version) (p : Program) : Type 0 where
  pub name : IsName p.name
  pub inputs : ListFits InputFits p.inputs
  pub outputs : ListFits OutputFits p.outputs
  pub result : ResultFits p.result
  pub globals : ListFits Any p.globals
  pub fields : ListFits Any p.fields
  pub registers : ListFits Any p.registers
  pub columns : ListFits Any p.columns
  pub kinds : ListFits Any p.kinds
  pub places : ListFits PlaceIsIndex p.places
  pub blocks : ListFits (BlockFits v) p.blocks
  pub master : ListFits CommandFits p.master
