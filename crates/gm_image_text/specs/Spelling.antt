-- The text of an image: for each part of it the words that spell it, and for the whole its lines. Only an image
-- that fits (the module Fits) has a text; what is said here of others is nothing that is written or read.
use Rattle.std.specs.Prelude.{ℕ, true, false, Option, Some, None, List, [], ◌∷◌, ◌++◌, length, map, codes}
use Rattle.std.specs.Fmt.{decimal, signed_decimal}
use Rattle.std.specs.List.{flat_map}
use Rattle.gm_base.specs.declared.places.Place.{Place}
use Rattle.gm_value.specs.declared.values.VType.{VType}
use Rattle.gm_value.specs.declared.values.VType.TheVariants as types
use Rattle.gm_value.specs.declared.values.Value.{Value}
use Rattle.gm_value.specs.declared.values.Value.TheVariants as values
use Rattle.gm_value.specs.declared.reductions.Reduce.{Reduce}
use Rattle.gm_value.specs.declared.reductions.Reduce.TheVariants as reduce
use Rattle.gm_value.specs.declared.operations.Op1.{Op1}
use Rattle.gm_value.specs.declared.operations.Op1.TheVariants as one
use Rattle.gm_value.specs.declared.operations.Op2.{Op2}
use Rattle.gm_value.specs.declared.operations.Op2.TheVariants as two
use Rattle.gm_image.specs.declared.images.Kind.{Kind}
use Rattle.gm_image.specs.Term.{Term, Const, Global, NodeCount, EdgeCount, Field, Self, OutDegree, InDegree, Register, Message, Neighbour, Column, NodeAt, Live, Unary, Binary, And, Or, Choose}
use Rattle.gm_image.specs.Program as programs
use Rattle.gm_image.specs.Program.{Program, Direction, Out, In, Target, SetField, Fold, SetRegister, Put, Send, Skip, Each, Command, SetGlobal, Step, Jump, Test, Turn, Back, Finish, Holder, Scalar, Node, Edge, Item, Handler, Block}
use Rattle.gm_image_text.specs.declared.heads.Version.{Version}
use Rattle.gm_image_text.specs.declared.heads.Version.TheVariants as version
use Rattle.gm_image_text.specs.Lines.{Word, Line, spaced, text_of}

abbrev pub type_word : VType → Word
type_word types.I32 = codes "I"
type_word types.I64 = codes "L"
type_word types.Flag = codes "B"
type_word types.Node = codes "N"

abbrev pub reduce_word : Reduce → Word
reduce_word reduce.Sum = codes "sum"
reduce_word reduce.Product = codes "product"
reduce_word reduce.Min = codes "min"
reduce_word reduce.Max = codes "max"
reduce_word reduce.And = codes "and"
reduce_word reduce.Or = codes "or"

-- a constant: its type and its value
abbrev pub value_words : Value → List Word
value_words (values.I32 z) = codes "I" ∷ signed_decimal z ∷ []
value_words (values.I64 z) = codes "L" ∷ signed_decimal z ∷ []
value_words (values.Flag true) = codes "B" ∷ codes "True" ∷ []
value_words (values.Flag false) = codes "B" ∷ codes "False" ∷ []
value_words (values.At _) = codes "N" ∷ codes "NIL" ∷ []

abbrev pub op1_word : Op1 → Word
op1_word one.Neg = codes "neg"
op1_word one.Not = codes "not"
op1_word one.ToI32 = codes "int"
op1_word one.ToI64 = codes "long"

abbrev pub op2_word : Op2 → Word
op2_word two.Add = codes "+"
op2_word two.Sub = codes "-"
op2_word two.Mul = codes "*"
op2_word two.Div = codes "/"
op2_word two.Rem = codes "%"
op2_word two.Eq = codes "=="
op2_word two.Ne = codes "!="
op2_word two.Lt = codes "<"
op2_word two.Gt = codes ">"
op2_word two.Le = codes "<="
op2_word two.Ge = codes ">="

-- the index of a place, where an operation has one
abbrev pub place_words : Option ℕ → List Word
place_words None = []
place_words (Some p) = decimal p ∷ []

-- an expression: its word, and behind it its parts from left to right
abbrev pub term_words : Term → List Word
term_words (Const v) = codes "c" ∷ value_words v
term_words (Global g) = codes "g" ∷ decimal g ∷ []
term_words NodeCount = codes "nn" ∷ []
term_words EdgeCount = codes "ne" ∷ []
term_words (Field f) = codes "f" ∷ decimal f ∷ []
term_words Self = codes "id" ∷ []
term_words OutDegree = codes "out" ∷ []
term_words InDegree = codes "inn" ∷ []
term_words (Register r) = codes "r" ∷ decimal r ∷ []
term_words (Message i) = codes "m" ∷ decimal i ∷ []
term_words Neighbour = codes "nb" ∷ []
term_words (Column w) = codes "w" ∷ decimal w ∷ []
term_words (NodeAt a) = codes "node" ∷ term_words a
term_words (Live p a) = codes "live" ∷ decimal p ∷ term_words a
term_words (Unary op p a) = op1_word op ∷ (place_words p ++ term_words a)
term_words (Binary op p a b) = op2_word op ∷ (place_words p ++ (term_words a ++ term_words b))
term_words (And a b) = codes "&&" ∷ (term_words a ++ term_words b)
term_words (Or a b) = codes "||" ∷ (term_words a ++ term_words b)
term_words (Choose c a b) = codes "?" ∷ (term_words c ++ (term_words a ++ term_words b))

-- a slot and what goes into it
abbrev pub target_words : Target → List Word
target_words t = decimal t.slot ∷ term_words t.term

abbrev pub direction_word : Direction → Word
direction_word Out = codes "out"
direction_word In = codes "in"

-- a reduction: of one slot with its value, or of how many there are and each of them
abbrev pub reduction_words : Word → Word → Reduce → ℕ → List Target → List Word
reduction_words one several r p (t ∷ []) = one ∷ reduce_word r ∷ decimal p ∷ target_words t
reduction_words one several r p ts = several ∷ reduce_word r ∷ decimal p ∷ decimal (length ts) ∷ flat_map target_words ts

-- a line of a vertex program
abbrev pub vertex_words : programs.Line → List Word
vertex_words (SetField f a) = codes "set" ∷ decimal f ∷ term_words a
vertex_words (Fold r p ts) = reduction_words (codes "fold") (codes "pick") r p ts
vertex_words (SetRegister i a) = codes "reg" ∷ decimal i ∷ term_words a
vertex_words (Put r p ts) = reduction_words (codes "put") (codes "pickput") r p ts
vertex_words (Send k to vs) = codes "send" ∷ decimal k ∷ (term_words to ++ flat_map term_words vs)
vertex_words (Skip n a) = codes "skip" ∷ decimal n ∷ term_words a
vertex_words (Each d n) = codes "each" ∷ direction_word d ∷ decimal n ∷ []

-- a line of the master list
abbrev pub command_words : Command → List Word
command_words (SetGlobal g a) = codes "set" ∷ decimal g ∷ term_words a
command_words (Step q) = codes "step" ∷ decimal q ∷ []
command_words (Jump j) = codes "jump" ∷ decimal j ∷ []
command_words (Test j a) = codes "test" ∷ decimal j ∷ term_words a
command_words (Turn x a) = codes "loop" ∷ decimal x ∷ term_words a
command_words (Back h) = codes "back" ∷ decimal h ∷ []
command_words Finish = codes "end" ∷ []

abbrev pub holder_word : Holder → Word
holder_word Scalar = codes "scalar"
holder_word Node = codes "node"
holder_word Edge = codes "edge"

-- an input or an output
abbrev pub item_words : Item → List Word
item_words i = holder_word i.holder ∷ type_word i.vtype ∷ i.name ∷ decimal i.slot ∷ []

-- the result's type and its global, where there is a result
abbrev pub outcome_words : Option (VType × ℕ) → List Word
outcome_words None = codes "-" ∷ []
outcome_words (Some r) = type_word r.0 ∷ decimal r.1 ∷ []

abbrev pub result_words : Option (VType × ℕ) → List Word
result_words r = codes "result" ∷ outcome_words r

abbrev pub combiner_word : Option Reduce → Word
combiner_word None = codes "-"
combiner_word (Some r) = reduce_word r

abbrev pub kind_words : Kind → List Word
kind_words k = combiner_word k.combiner ∷ map type_word k.values

abbrev pub place_pair : Place → List Word
place_pair p = decimal p.line ∷ decimal p.col ∷ []

-- the line of one item, by its words
abbrev pub one_line : {A : Type 0} → (A → List Word) → A → List Line
one_line words x = spaced (words x) ∷ []

-- a header with a count, and behind it the lines of each item
abbrev pub listed : {A : Type 0} → Word → (A → List Line) → List A → List Line
listed word lines xs = spaced (word ∷ decimal (length xs) ∷ []) ∷ flat_map lines xs

abbrev pub type_lines : VType → List Line
type_lines t = one_line (λ v. type_word v ∷ []) t

abbrev pub handler_lines : Handler → List Line
handler_lines h = spaced (codes "on" ∷ decimal h.kind ∷ decimal (length h.lines) ∷ []) ∷ flat_map (one_line vertex_words) h.lines

abbrev pub block_lines : Block → List Line
block_lines b = listed (codes "block") handler_lines b.handlers ++ listed (codes "body") (one_line vertex_words) b.body

-- the number of a version, which is one digit
abbrev pub version_digit : Version → ℕ
version_digit version.One = 49
version_digit version.Two = 50

abbrev pub version_words : Version → List Word
version_words v = codes "gm-image" ∷ (version_digit v ∷ []) ∷ []

-- the lines up to the result's: the version, and all others, which are the same in both
abbrev pub opening_in : Version → Program → List Line
opening_in v p =
    spaced (version_words v)
    ∷ spaced (codes "name" ∷ p.name ∷ [])
    ∷ (listed (codes "inputs") (one_line item_words) p.inputs ++ (listed (codes "outputs") (one_line item_words) p.outputs ++ spaced (result_words p.result) ∷ []))

-- the lines from there to the places
abbrev pub middle_lines : Program → List Line
middle_lines p =
    listed (codes "globals") type_lines p.globals
    ++ (listed (codes "fields") type_lines p.fields
    ++ (listed (codes "registers") type_lines p.registers
    ++ (listed (codes "columns") type_lines p.columns
    ++ (listed (codes "kinds") (one_line kind_words) p.kinds ++ listed (codes "places") (one_line place_pair) p.places))))

-- the lines from there to the last
abbrev pub closing_lines : Program → List Line
closing_lines p = listed (codes "blocks") block_lines p.blocks ++ listed (codes "master") (one_line command_words) p.master

-- the lines of an image in a version, which differ in the first alone
abbrev pub lines_in : Version → Program → List Line
lines_in v p = opening_in v p ++ (middle_lines p ++ closing_lines p)

-- the text of an image in a version
abbrev pub text_in : Version → Program → List ℕ
text_in v p = text_of (lines_in v p)

-- what is written for an image: its text in version 2
abbrev pub opening_lines : Program → List Line
opening_lines p = opening_in version.Two p

abbrev pub image_lines : Program → List Line
image_lines p = lines_in version.Two p

abbrev pub image_text : Program → List ℕ
image_text p = text_in version.Two p
