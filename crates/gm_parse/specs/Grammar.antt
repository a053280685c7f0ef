-- The grammar. `▸` is a sequence, `∣` a choice, `Maybe` an optional part, `Many` any number of
-- repetitions, and `Attached k x` an optional `k x` that is there wherever `k` comes next. `Within` says what nests.
use Rattle.gm_token.specs.declared.words.Word.{Word}
use Rattle.gm_token.specs.declared.words.Word.TheVariants as words
use Rattle.gm_parse.specs.Terminals.{Terminal, The, AnyName}

pub data Part : Type 0 where
  Program : Part
  Procedure : Part
  Parameters : Part
  Group : Part
  TypeName : Part
  OfGraph : Part
  Block : Part
  Statement : Part
  AtName : Part
  Target : Part
  ReduceSign : Part
  Condition : Part
  Range : Part
  Expression : Part
  Disjunction : Part
  Conjunction : Part
  Equality : Part
  Relation : Part
  Sum : Part
  Product : Part
  Unary : Part
  Primary : Part
  Reduction : Part
  Head : Part
  Braces : Part
  SearchHead : Part
  Reverse : Part

-- what nests: a statement in others, and an expression, whose parts are expressions too
pub data Nest : Type 0 where
  InStatement : Nest
  InExpression : Nest

infixr 6 ◌▸◌
infixr 5 ◌∣◌
pub data Rule : Type 0 where
  Token : Terminal → Rule
  Of : Part → Rule
  ◌▸◌ : Rule → Rule → Rule
  ◌∣◌ : Rule → Rule → Rule
  Maybe : Rule → Rule
  Many : Rule → Rule
  Attached : Terminal → Rule → Rule
  Within : Nest → Rule → Rule

-- one word
abbrev pub the : Word → Rule
the w = Token (The w)

-- any name
abbrev pub a_name : Rule
a_name = Token AnyName

-- the word of a procedure
abbrev pub procedure_sign : Rule
procedure_sign = the words.Procedure ∣ the words.Proc

-- the types that name no graph
abbrev pub bare_sign : Rule
bare_sign = the words.IntType ∣ the words.LongType ∣ the words.BoolType ∣ the words.Graph ∣ the words.DGraph

-- the types that may name their graph
abbrev pub element_sign : Rule
element_sign = the words.Node ∣ the words.Edge

-- the words of property types
abbrev pub bearer_sign : Rule
bearer_sign = the words.NP ∣ the words.NodeProp ∣ the words.NodeProperty ∣ the words.EP ∣ the words.EdgeProp ∣ the words.EdgeProperty

-- the word of a loop
abbrev pub loop_word_sign : Rule
loop_word_sign = the words.Foreach ∣ the words.For

-- what of a node or of the graph a range is
abbrev pub range_sign : Rule
range_sign = the words.Nodes ∣ the words.Nbrs ∣ the words.OutNbrs ∣ the words.InNbrs ∣ the words.UpNbrs ∣ the words.DownNbrs

-- what stands before the root of a search
abbrev pub from_sign : Rule
from_sign = the words.From ∣ the words.Semicolon

-- the operators between factors
abbrev pub product_sign : Rule
product_sign = the words.Star ∣ the words.Slash ∣ the words.Percent

-- the operators between summands
abbrev pub sum_sign : Rule
sum_sign = the words.Plus ∣ the words.Minus

-- the operators of order
abbrev pub relation_sign : Rule
relation_sign = the words.Less ∣ the words.Greater ∣ the words.LessEqual ∣ the words.GreaterEqual

-- the operators of equality
abbrev pub equality_sign : Rule
equality_sign = the words.Equal ∣ the words.NotEqual

-- the reductions of the values in their braces
abbrev pub value_sign : Rule
value_sign = the words.Sum ∣ the words.Product ∣ the words.Min ∣ the words.Max ∣ the words.All

-- the reductions of a condition, whose braces may be absent
abbrev pub test_sign : Rule
test_sign = the words.Exist ∣ the words.Count

-- the type of a cast
abbrev pub cast_sign : Rule
cast_sign = the words.IntType ∣ the words.LongType

-- a property type
abbrev pub a_property : Rule
a_property = bearer_sign ▸ the words.Less ▸ Of TypeName ▸ the words.Greater ▸ Maybe (Of OfGraph)

-- a declaration, with an initial value or of further names
abbrev pub a_declaration : Rule
a_declaration = Of TypeName ▸ a_name ▸ (the words.Assign ▸ Of Expression ∣ Many (the words.Comma ▸ a_name)) ▸ the words.Semicolon

-- what makes an assignment of a target
abbrev pub a_value : Rule
a_value = the words.Assign ▸ Of Expression ▸ the words.Semicolon

-- what makes a deferred assignment of a target
abbrev pub a_deferred_value : Rule
a_deferred_value = the words.LessEqual ▸ Of Expression ▸ Maybe (Of AtName) ▸ the words.Semicolon

-- what makes a reduction assignment of a target
abbrev pub a_reduced_value : Rule
a_reduced_value = Of ReduceSign ▸ Of Expression ▸ Maybe (Of AtName) ▸ the words.Semicolon

-- the operations of an argument reduction
abbrev pub argument_sign : Rule
argument_sign = the words.MinAssign ∣ the words.MaxAssign

-- two or more in angle brackets: the first, a semicolon, and the others with commas between them
abbrev pub a_tuple : Rule → Rule
a_tuple x = the words.Less ▸ x ▸ the words.Semicolon ▸ x ▸ Many (the words.Comma ▸ x) ▸ the words.Greater

-- a value of a tuple: an expression of its own, which ends where a relation would begin
abbrev pub an_entry : Rule
an_entry = Within InExpression (Of Sum)

-- a reduction assignment of a tuple of values to a tuple of targets
abbrev pub an_argument_reduction : Rule
an_argument_reduction = a_tuple (Of Target) ▸ argument_sign ▸ a_tuple an_entry ▸ Maybe (Of AtName) ▸ the words.Semicolon

-- what counts a target up
abbrev pub an_increment : Rule
an_increment = the words.PlusPlus ▸ the words.Semicolon

-- a loop over nodes
abbrev pub a_loop : Rule
a_loop = loop_word_sign ▸ Of Head ▸ Of Statement

-- a condition; an Else belongs to the nearest If that has none
abbrev pub an_if : Rule
an_if = the words.If ▸ Of Condition ▸ Of Statement ▸ Attached (The words.Else) (Of Statement)

-- a loop with its test first
abbrev pub a_while : Rule
a_while = the words.While ▸ Of Condition ▸ Of Statement

-- a loop with its test last
abbrev pub a_do : Rule
a_do = the words.Do ▸ Of Block ▸ the words.While ▸ Of Condition ▸ the words.Semicolon

-- a breadth-first search
abbrev pub a_search : Rule
a_search = the words.InBFS ▸ Of SearchHead ▸ Of Block ▸ Maybe (Of Reverse)

-- a return
abbrev pub a_return : Rule
a_return = the words.Return ▸ Maybe (Of Expression) ▸ the words.Semicolon

-- a choice between two values
abbrev pub a_choice : Rule
a_choice = the words.Question ▸ Of Expression ▸ the words.Colon ▸ Of Expression

-- a name, a property of it, or a call of a method
abbrev pub a_member : Rule
a_member = a_name ▸ Maybe (the words.Dot ▸ a_name ▸ Maybe (the words.LeftParen ▸ the words.RightParen))

-- The grammar: one equation for each part.
unfoldable pub rule : Part → Rule
rule Program = Of Procedure
rule Procedure = procedure_sign ▸ a_name ▸ the words.LeftParen ▸ Maybe (Of Parameters) ▸ Maybe (the words.Semicolon ▸ Maybe (Of Parameters)) ▸ the words.RightParen ▸ Maybe (the words.Colon ▸ Of TypeName) ▸ Of Block
rule Parameters = Of Group ▸ Many (the words.Comma ▸ Of Group)
rule Group = a_name ▸ Many (the words.Comma ▸ a_name) ▸ the words.Colon ▸ Of TypeName
rule TypeName = bare_sign ∣ element_sign ▸ Maybe (Of OfGraph) ∣ a_property
rule OfGraph = the words.LeftParen ▸ a_name ▸ the words.RightParen
rule Block = the words.LeftBrace ▸ Many (Of Statement) ▸ the words.RightBrace
rule Statement = Within InStatement (Of Block ∣ the words.Semicolon ∣ a_declaration ∣ Of Target ▸ a_value ∣ Of Target ▸ a_deferred_value ∣ Of Target ▸ a_reduced_value ∣ Of Target ▸ an_increment ∣ a_loop ∣ an_if ∣ a_while ∣ a_do ∣ a_search ∣ an_argument_reduction ∣ a_return)
rule AtName = the words.At ▸ a_name
rule Target = a_name ▸ Maybe (the words.Dot ▸ a_name)
rule ReduceSign = the words.PlusAssign ∣ the words.StarAssign ∣ the words.MinAssign ∣ the words.MaxAssign ∣ the words.AndAndAssign ∣ the words.OrOrAssign ∣ the words.AndAssign ∣ the words.OrAssign
rule Condition = the words.LeftParen ▸ Of Expression ▸ the words.RightParen
rule Range = a_name ▸ the words.Dot ▸ range_sign
rule Expression = Within InExpression (Of Disjunction ▸ Maybe a_choice)
rule Disjunction = Of Conjunction ▸ Many (the words.OrOr ▸ Of Conjunction)
rule Conjunction = Of Equality ▸ Many (the words.AndAnd ▸ Of Equality)
rule Equality = Of Relation ▸ Many (equality_sign ▸ Of Relation)
rule Relation = Of Sum ▸ Maybe (relation_sign ▸ Of Sum)
rule Sum = Of Product ▸ Many (sum_sign ▸ Of Product)
rule Product = Of Unary ▸ Many (product_sign ▸ Of Unary)
rule Unary = the words.Bang ▸ Of Unary ∣ the words.Minus ▸ Of Unary ∣ the words.Plus ▸ the words.Inf ∣ the words.LeftParen ▸ cast_sign ▸ the words.RightParen ▸ Of Unary ∣ Of Primary
rule Primary = the words.Number ∣ the words.True ∣ the words.False ∣ the words.Nil ∣ the words.Inf ∣ Of Reduction ∣ a_member ∣ the words.LeftParen ▸ Of Expression ▸ the words.RightParen
rule Reduction = value_sign ▸ Of Head ▸ Of Braces ∣ test_sign ▸ Of Head ▸ Maybe (Of Braces)
rule Head = the words.LeftParen ▸ a_name ▸ the words.Colon ▸ Of Range ▸ the words.RightParen ▸ Maybe (Of Condition)
rule Braces = the words.LeftBrace ▸ Of Expression ▸ the words.RightBrace
rule SearchHead = the words.LeftParen ▸ a_name ▸ the words.Colon ▸ a_name ▸ the words.Dot ▸ the words.Nodes ▸ from_sign ▸ a_name ▸ the words.RightParen ▸ Maybe (Of Condition)
rule Reverse = the words.InReverse ▸ Maybe (Of Condition) ▸ Of Block
