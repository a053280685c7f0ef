-- Each table has the words that its meanings are spelled by, and no others.
use Rattle.std.proofs.Common.{◌≡◌, Bool, true, false, refl, [], ◌∷◌}
use Rattle.std.specs.Prelude.{Option, Some, None, codes}
use Rattle.gm_value.specs.declared.values.VType.{VType}
use Rattle.gm_value.specs.declared.values.VType.TheVariants as vtype
use Rattle.gm_value.specs.declared.reductions.Reduce.{Reduce}
use Rattle.gm_value.specs.declared.reductions.Reduce.TheVariants as reduce
use Rattle.gm_image_text.specs.declared.heads.Leaf.{Leaf}
use Rattle.gm_image_text.specs.declared.heads.Leaf.TheVariants as leaf
use Rattle.gm_image_text.specs.declared.heads.Indexed.{Indexed}
use Rattle.gm_image_text.specs.declared.heads.Indexed.TheVariants as indexed
use Rattle.gm_image_text.specs.declared.heads.One.{One}
use Rattle.gm_image_text.specs.declared.heads.One.TheVariants as one
use Rattle.gm_image_text.specs.declared.heads.PlacedOne.{PlacedOne}
use Rattle.gm_image_text.specs.declared.heads.PlacedOne.TheVariants as placed_one
use Rattle.gm_image_text.specs.declared.heads.Two.{Two}
use Rattle.gm_image_text.specs.declared.heads.Two.TheVariants as two
use Rattle.gm_image_text.specs.declared.heads.PlacedTwo.{PlacedTwo}
use Rattle.gm_image_text.specs.declared.heads.PlacedTwo.TheVariants as placed_two
use Rattle.gm_image_text.specs.declared.heads.Head.{Head}
use Rattle.gm_image_text.specs.declared.heads.Head.TheVariants as head
use Rattle.gm_image_text.specs.declared.heads.Version.{Version}
use Rattle.gm_image_text.specs.declared.heads.Version.TheVariants as version
use Rattle.gm_image_text.specs.declared.heads.VertexHead.{VertexHead}
use Rattle.gm_image_text.specs.declared.heads.VertexHead.TheVariants as vertex
use Rattle.gm_image_text.specs.declared.heads.MasterHead.{MasterHead}
use Rattle.gm_image_text.specs.declared.heads.MasterHead.TheVariants as master
use Rattle.gm_image_text.specs.declared.heads.InputHead.{InputHead}
use Rattle.gm_image_text.specs.declared.heads.InputHead.TheVariants as input
use Rattle.gm_image_text.specs.declared.heads.OutputHead.{OutputHead}
use Rattle.gm_image_text.specs.declared.heads.OutputHead.TheVariants as output
use Rattle.gm_image.specs.declared.lines.Direction.{Direction as Way}
use Rattle.gm_image.specs.declared.lines.Direction.TheVariants as way
use Rattle.gm_image_text.specs.Lines.{Word}
use Rattle.gm_image_text.specs.Fits.{IsPlain}
use Rattle.gm_image_text.specs.Spelling.{type_word, reduce_word, combiner_word, holder_word, direction_word, version_digit}
use Rattle.gm_image_text.specs.Reading.{input_holder, output_holder}
use Rattle.gm_image.specs.Items.{direction_of}
use Rattle.gm_image_text.specs.Tables.{row_in, versions, heads, types, reductions, combiners, flags, vertex_heads, master_heads, input_heads, output_heads, ways}
use Rattle.gm_image_text.proofs.Fields.{WordLaw, table_word}

-- any meaning of a table will do
abbrev pub Whatever : {T : Type 0} → T → Type 0
Whatever x = Unit {0}

abbrev pub version_word : Version → Word
version_word v = version_digit v ∷ []

version_again : (v : Version) → row_in versions (version_word v) ≡ Some v
unfolding versions
version_again version.One = refl
version_again version.Two = refl

version_plain : (v : Version) → IsPlain (version_word v)
version_plain version.One = refl
version_plain version.Two = refl

pub versions_word : WordLaw Whatever version_word (row_in versions)
unfolding versions
versions_word = table_word version_word versions refl version_again version_plain

type_again : (t : VType) → row_in types (type_word t) ≡ Some t
unfolding types
type_again vtype.I32 = refl
type_again vtype.I64 = refl
type_again vtype.Flag = refl
type_again vtype.Node = refl

type_plain : (t : VType) → IsPlain (type_word t)
type_plain vtype.I32 = refl
type_plain vtype.I64 = refl
type_plain vtype.Flag = refl
type_plain vtype.Node = refl

pub types_word : WordLaw Whatever type_word (row_in types)
unfolding types
types_word = table_word type_word types refl type_again type_plain

reduce_again : (r : Reduce) → row_in reductions (reduce_word r) ≡ Some r
unfolding reductions
reduce_again reduce.Sum = refl
reduce_again reduce.Product = refl
reduce_again reduce.Min = refl
reduce_again reduce.Max = refl
reduce_again reduce.And = refl
reduce_again reduce.Or = refl

reduce_plain : (r : Reduce) → IsPlain (reduce_word r)
reduce_plain reduce.Sum = refl
reduce_plain reduce.Product = refl
reduce_plain reduce.Min = refl
reduce_plain reduce.Max = refl
reduce_plain reduce.And = refl
reduce_plain reduce.Or = refl

pub reductions_word : WordLaw Whatever reduce_word (row_in reductions)
unfolding reductions
reductions_word = table_word reduce_word reductions refl reduce_again reduce_plain

combiner_again : (c : Option Reduce) → row_in combiners (combiner_word c) ≡ Some c
unfolding combiners
combiner_again None = refl
combiner_again (Some reduce.Sum) = refl
combiner_again (Some reduce.Product) = refl
combiner_again (Some reduce.Min) = refl
combiner_again (Some reduce.Max) = refl
combiner_again (Some reduce.And) = refl
combiner_again (Some reduce.Or) = refl

combiner_plain : (c : Option Reduce) → IsPlain (combiner_word c)
combiner_plain None = refl
combiner_plain (Some r) = reduce_plain r

pub combiners_word : WordLaw Whatever combiner_word (row_in combiners)
unfolding combiners
combiners_word = table_word combiner_word combiners refl combiner_again combiner_plain

abbrev pub flag_word : Bool → Word
flag_word true = codes "True"
flag_word false = codes "False"

flag_again : (b : Bool) → row_in flags (flag_word b) ≡ Some b
unfolding flags
flag_again true = refl
flag_again false = refl

flag_plain : (b : Bool) → IsPlain (flag_word b)
flag_plain true = refl
flag_plain false = refl

pub flags_word : WordLaw Whatever flag_word (row_in flags)
unfolding flags
flags_word = table_word flag_word flags refl flag_again flag_plain

abbrev pub vertex_word : VertexHead → Word
vertex_word vertex.SetField = codes "set"
vertex_word vertex.Fold = codes "fold"
vertex_word vertex.Pick = codes "pick"
vertex_word vertex.SetRegister = codes "reg"
vertex_word vertex.Put = codes "put"
vertex_word vertex.PickPut = codes "pickput"
vertex_word vertex.Send = codes "send"
vertex_word vertex.Skip = codes "skip"
vertex_word vertex.Each = codes "each"

vertex_again : (h : VertexHead) → row_in vertex_heads (vertex_word h) ≡ Some h
unfolding vertex_heads
vertex_again vertex.SetField = refl
vertex_again vertex.Fold = refl
vertex_again vertex.Pick = refl
vertex_again vertex.SetRegister = refl
vertex_again vertex.Put = refl
vertex_again vertex.PickPut = refl
vertex_again vertex.Send = refl
vertex_again vertex.Skip = refl
vertex_again vertex.Each = refl

vertex_plain : (h : VertexHead) → IsPlain (vertex_word h)
vertex_plain vertex.SetField = refl
vertex_plain vertex.Fold = refl
vertex_plain vertex.Pick = refl
vertex_plain vertex.SetRegister = refl
vertex_plain vertex.Put = refl
vertex_plain vertex.PickPut = refl
vertex_plain vertex.Send = refl
vertex_plain vertex.Skip = refl
vertex_plain vertex.Each = refl

pub vertex_heads_word : WordLaw Whatever vertex_word (row_in vertex_heads)
unfolding vertex_heads
vertex_heads_word = table_word vertex_word vertex_heads refl vertex_again vertex_plain

abbrev pub master_word : MasterHead → Word
master_word master.SetGlobal = codes "set"
master_word master.Step = codes "step"
master_word master.Jump = codes "jump"
master_word master.Test = codes "test"
master_word master.Turn = codes "loop"
master_word master.Back = codes "back"
master_word master.Finish = codes "end"

master_again : (h : MasterHead) → row_in master_heads (master_word h) ≡ Some h
unfolding master_heads
master_again master.SetGlobal = refl
master_again master.Step = refl
master_again master.Jump = refl
master_again master.Test = refl
master_again master.Turn = refl
master_again master.Back = refl
master_again master.Finish = refl

master_plain : (h : MasterHead) → IsPlain (master_word h)
master_plain master.SetGlobal = refl
master_plain master.Step = refl
master_plain master.Jump = refl
master_plain master.Test = refl
master_plain master.Turn = refl
master_plain master.Back = refl
master_plain master.Finish = refl

pub master_heads_word : WordLaw Whatever master_word (row_in master_heads)
unfolding master_heads
master_heads_word = table_word master_word master_heads refl master_again master_plain

abbrev pub input_word : InputHead → Word
input_word h = holder_word (input_holder h)

input_again : (h : InputHead) → row_in input_heads (input_word h) ≡ Some h
unfolding input_heads
input_again input.Scalar = refl
input_again input.Node = refl
input_again input.Edge = refl

input_plain : (h : InputHead) → IsPlain (input_word h)
input_plain input.Scalar = refl
input_plain input.Node = refl
input_plain input.Edge = refl

pub input_heads_word : WordLaw Whatever input_word (row_in input_heads)
unfolding input_heads
input_heads_word = table_word input_word input_heads refl input_again input_plain

abbrev pub output_word : OutputHead → Word
output_word h = holder_word (output_holder h)

output_again : (h : OutputHead) → row_in output_heads (output_word h) ≡ Some h
unfolding output_heads
output_again output.Scalar = refl
output_again output.Node = refl

output_plain : (h : OutputHead) → IsPlain (output_word h)
output_plain output.Scalar = refl
output_plain output.Node = refl

pub output_heads_word : WordLaw Whatever output_word (row_in output_heads)
unfolding output_heads
output_heads_word = table_word output_word output_heads refl output_again output_plain

abbrev pub way_word : Way → Word
way_word w = direction_word (direction_of w)

way_again : (w : Way) → row_in ways (way_word w) ≡ Some w
unfolding ways
way_again way.Out = refl
way_again way.In = refl

way_plain : (w : Way) → IsPlain (way_word w)
way_plain way.Out = refl
way_plain way.In = refl

pub ways_word : WordLaw Whatever way_word (row_in ways)
unfolding ways
ways_word = table_word way_word ways refl way_again way_plain

abbrev pub leaf_word : Leaf → Word
leaf_word leaf.NodeCount = codes "nn"
leaf_word leaf.EdgeCount = codes "ne"
leaf_word leaf.Id = codes "id"
leaf_word leaf.OutDegree = codes "out"
leaf_word leaf.InDegree = codes "inn"
leaf_word leaf.Neighbour = codes "nb"

abbrev pub indexed_word : Indexed → Word
indexed_word indexed.Global = codes "g"
indexed_word indexed.Field = codes "f"
indexed_word indexed.Register = codes "r"
indexed_word indexed.Message = codes "m"
indexed_word indexed.Column = codes "w"

abbrev pub one_word : One → Word
one_word one.NodeAt = codes "node"
one_word one.ToLong = codes "long"
one_word one.Not = codes "not"

abbrev pub placed_one_word : PlacedOne → Word
placed_one_word placed_one.Live = codes "live"
placed_one_word placed_one.Neg = codes "neg"
placed_one_word placed_one.ToInt = codes "int"

abbrev pub two_word : Two → Word
two_word two.Eq = codes "=="
two_word two.Ne = codes "!="
two_word two.Lt = codes "<"
two_word two.Gt = codes ">"
two_word two.Le = codes "<="
two_word two.Ge = codes ">="
two_word two.And = codes "&&"
two_word two.Or = codes "||"

abbrev pub placed_two_word : PlacedTwo → Word
placed_two_word placed_two.Add = codes "+"
placed_two_word placed_two.Sub = codes "-"
placed_two_word placed_two.Mul = codes "*"
placed_two_word placed_two.Div = codes "/"
placed_two_word placed_two.Rem = codes "%"

abbrev pub head_word : Head → Word
head_word head.Constant = codes "c"
head_word (head.Leaf l) = leaf_word l
head_word (head.Indexed k) = indexed_word k
head_word (head.One op) = one_word op
head_word (head.PlacedOne op) = placed_one_word op
head_word (head.Two op) = two_word op
head_word (head.PlacedTwo op) = placed_two_word op
head_word head.Choice = codes "?"

head_again : (h : Head) → row_in heads (head_word h) ≡ Some h
unfolding heads
head_again head.Constant = refl
head_again (head.Leaf leaf.NodeCount) = refl
head_again (head.Leaf leaf.EdgeCount) = refl
head_again (head.Leaf leaf.Id) = refl
head_again (head.Leaf leaf.OutDegree) = refl
head_again (head.Leaf leaf.InDegree) = refl
head_again (head.Leaf leaf.Neighbour) = refl
head_again (head.Indexed indexed.Global) = refl
head_again (head.Indexed indexed.Field) = refl
head_again (head.Indexed indexed.Register) = refl
head_again (head.Indexed indexed.Message) = refl
head_again (head.Indexed indexed.Column) = refl
head_again (head.One one.NodeAt) = refl
head_again (head.One one.ToLong) = refl
head_again (head.One one.Not) = refl
head_again (head.PlacedOne placed_one.Live) = refl
head_again (head.PlacedOne placed_one.Neg) = refl
head_again (head.PlacedOne placed_one.ToInt) = refl
head_again (head.Two two.Eq) = refl
head_again (head.Two two.Ne) = refl
head_again (head.Two two.Lt) = refl
head_again (head.Two two.Gt) = refl
head_again (head.Two two.Le) = refl
head_again (head.Two two.Ge) = refl
head_again (head.Two two.And) = refl
head_again (head.Two two.Or) = refl
head_again (head.PlacedTwo placed_two.Add) = refl
head_again (head.PlacedTwo placed_two.Sub) = refl
head_again (head.PlacedTwo placed_two.Mul) = refl
head_again (head.PlacedTwo placed_two.Div) = refl
head_again (head.PlacedTwo placed_two.Rem) = refl
head_again head.Choice = refl

head_plain : (h : Head) → IsPlain (head_word h)
head_plain head.Constant = refl
head_plain (head.Leaf leaf.NodeCount) = refl
head_plain (head.Leaf leaf.EdgeCount) = refl
head_plain (head.Leaf leaf.Id) = refl
head_plain (head.Leaf leaf.OutDegree) = refl
head_plain (head.Leaf leaf.InDegree) = refl
head_plain (head.Leaf leaf.Neighbour) = refl
head_plain (head.Indexed indexed.Global) = refl
head_plain (head.Indexed indexed.Field) = refl
head_plain (head.Indexed indexed.Register) = refl
head_plain (head.Indexed indexed.Message) = refl
head_plain (head.Indexed indexed.Column) = refl
head_plain (head.One one.NodeAt) = refl
head_plain (head.One one.ToLong) = refl
head_plain (head.One one.Not) = refl
head_plain (head.PlacedOne placed_one.Live) = refl
head_plain (head.PlacedOne placed_one.Neg) = refl
head_plain (head.PlacedOne placed_one.ToInt) = refl
head_plain (head.Two two.Eq) = refl
head_plain (head.Two two.Ne) = refl
head_plain (head.Two two.Lt) = refl
head_plain (head.Two two.Gt) = refl
head_plain (head.Two two.Le) = refl
head_plain (head.Two two.Ge) = refl
head_plain (head.Two two.And) = refl
head_plain (head.Two two.Or) = refl
head_plain (head.PlacedTwo placed_two.Add) = refl
head_plain (head.PlacedTwo placed_two.Sub) = refl
head_plain (head.PlacedTwo placed_two.Mul) = refl
head_plain (head.PlacedTwo placed_two.Div) = refl
head_plain (head.PlacedTwo placed_two.Rem) = refl
head_plain head.Choice = refl

pub heads_word : WordLaw Whatever head_word (row_in heads)
unfolding heads
heads_word = table_word head_word heads refl head_again head_plain
