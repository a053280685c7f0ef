-- What the words stand for in a tree.
use Rattle.std.specs.Prelude.{Option, Some, None}
use Rattle.gm_value.specs.declared.operations.Op2.TheVariants as operations
use Rattle.gm_value.specs.declared.reductions.Reduce.{Reduce}
use Rattle.gm_value.specs.declared.reductions.Reduce.TheVariants as reduces
use Rattle.gm_value.specs.declared.values.VType.{VType}
use Rattle.gm_value.specs.declared.values.VType.TheVariants as vtypes
use Rattle.gm_ast.specs.declared.surface.TypeWord.{TypeWord}
use Rattle.gm_ast.specs.declared.surface.TypeWord.TheVariants as types
use Rattle.gm_ast.specs.declared.surface.Bearer.{Bearer}
use Rattle.gm_ast.specs.declared.surface.Bearer.TheVariants as bearers
use Rattle.gm_ast.specs.declared.surface.Infix.{Infix}
use Rattle.gm_ast.specs.declared.surface.Infix.TheVariants as infixes
use Rattle.gm_ast.specs.declared.surface.Range.{Range}
use Rattle.gm_ast.specs.declared.surface.Range.TheVariants as ranges
use Rattle.gm_ast.specs.declared.surface.ReductionWord.{ReductionWord}
use Rattle.gm_ast.specs.declared.surface.ReductionWord.TheVariants as reductions
use Rattle.gm_ast.specs.declared.surface.LoopWord.{LoopWord}
use Rattle.gm_ast.specs.declared.surface.LoopWord.TheVariants as loops
use Rattle.gm_token.specs.declared.words.Word.{Word}
use Rattle.gm_token.specs.declared.words.Word.TheVariants as words
use Rattle.gm_parse.specs.declared.levels.Level.{Level}
use Rattle.gm_parse.specs.declared.levels.Level.TheVariants as levels

-- the word that begins a procedure
abbrev pub procedure_word : Word → Option Word
procedure_word words.Procedure = Some words.Procedure
procedure_word words.Proc = Some words.Procedure
procedure_word _ = None

-- a type that holds no graph's name
abbrev pub bare_type : Word → Option TypeWord
bare_type words.IntType = Some types.Int
bare_type words.LongType = Some types.Long
bare_type words.BoolType = Some types.Bool
bare_type words.Graph = Some types.Graph
bare_type words.DGraph = Some types.Graph
bare_type _ = None

-- a type that may name its graph
abbrev pub element_type : Word → Option TypeWord
element_type words.Node = Some types.Node
element_type words.Edge = Some types.Edge
element_type _ = None

-- what bears the properties of a property type
abbrev pub bearer_word : Word → Option Bearer
bearer_word words.NP = Some bearers.Nodes
bearer_word words.NodeProp = Some bearers.Nodes
bearer_word words.NodeProperty = Some bearers.Nodes
bearer_word words.EP = Some bearers.Edges
bearer_word words.EdgeProp = Some bearers.Edges
bearer_word words.EdgeProperty = Some bearers.Edges
bearer_word _ = None

-- the type of a cast
abbrev pub cast_type : Word → Option VType
cast_type words.IntType = Some vtypes.I32
cast_type words.LongType = Some vtypes.I64
cast_type _ = None

abbrev pub range_word : Word → Option Range
range_word words.Nodes = Some ranges.Nodes
range_word words.Nbrs = Some ranges.Nbrs
range_word words.OutNbrs = Some ranges.OutNbrs
range_word words.InNbrs = Some ranges.InNbrs
range_word words.UpNbrs = Some ranges.UpNbrs
range_word words.DownNbrs = Some ranges.DownNbrs
range_word _ = None

abbrev pub loop_word : Word → Option LoopWord
loop_word words.Foreach = Some loops.Foreach
loop_word words.For = Some loops.For
loop_word _ = None

-- a reduction with its values in braces
abbrev pub value_reduction : Word → Option ReductionWord
value_reduction words.Sum = Some reductions.Sum
value_reduction words.Product = Some reductions.Product
value_reduction words.Min = Some reductions.Min
value_reduction words.Max = Some reductions.Max
value_reduction words.All = Some reductions.All
value_reduction _ = None

-- a reduction with a condition in braces that may be absent
abbrev pub test_reduction : Word → Option ReductionWord
test_reduction words.Exist = Some reductions.Exist
test_reduction words.Count = Some reductions.Count
test_reduction _ = None

-- the operation of a reduction assignment; `&=` is `&&=`, and `|=` is `||=`
abbrev pub reduce_sign : Word → Option Reduce
reduce_sign words.PlusAssign = Some reduces.Sum
reduce_sign words.StarAssign = Some reduces.Product
reduce_sign words.MinAssign = Some reduces.Min
reduce_sign words.MaxAssign = Some reduces.Max
reduce_sign words.AndAndAssign = Some reduces.And
reduce_sign words.AndAssign = Some reduces.And
reduce_sign words.OrOrAssign = Some reduces.Or
reduce_sign words.OrAssign = Some reduces.Or
reduce_sign _ = None

-- the operation of an argument reduction
abbrev pub argument_operation : Word → Option Reduce
argument_operation words.MinAssign = Some reduces.Min
argument_operation words.MaxAssign = Some reduces.Max
argument_operation _ = None

-- an operator between two operands, by its level
abbrev pub product_infix : Word → Option Infix
product_infix words.Star = Some (infixes.Op operations.Mul)
product_infix words.Slash = Some (infixes.Op operations.Div)
product_infix words.Percent = Some (infixes.Op operations.Rem)
product_infix _ = None

abbrev pub sum_infix : Word → Option Infix
sum_infix words.Plus = Some (infixes.Op operations.Add)
sum_infix words.Minus = Some (infixes.Op operations.Sub)
sum_infix _ = None

abbrev pub relation_infix : Word → Option Infix
relation_infix words.Less = Some (infixes.Op operations.Lt)
relation_infix words.Greater = Some (infixes.Op operations.Gt)
relation_infix words.LessEqual = Some (infixes.Op operations.Le)
relation_infix words.GreaterEqual = Some (infixes.Op operations.Ge)
relation_infix _ = None

abbrev pub equality_infix : Word → Option Infix
equality_infix words.Equal = Some (infixes.Op operations.Eq)
equality_infix words.NotEqual = Some (infixes.Op operations.Ne)
equality_infix _ = None

abbrev pub and_infix : Word → Option Infix
and_infix words.AndAnd = Some infixes.And
and_infix _ = None

abbrev pub or_infix : Word → Option Infix
or_infix words.OrOr = Some infixes.Or
or_infix _ = None

abbrev pub infix_of : Level → Word → Option Infix
infix_of levels.Or w = or_infix w
infix_of levels.And w = and_infix w
infix_of levels.Equality w = equality_infix w
infix_of levels.Relation w = relation_infix w
infix_of levels.Sum w = sum_infix w
infix_of levels.Product w = product_infix w
