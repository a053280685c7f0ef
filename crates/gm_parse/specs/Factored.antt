-- The same language, written so that the next word always decides: what the parser follows. It differs
-- from the grammar in statements that begin with a target, in parentheses, and in that an expression
-- is its first operand and then all operators. That it derives the same texts is proved.
use Rattle.gm_token.specs.declared.words.Word.{Word}
use Rattle.gm_token.specs.declared.words.Word.TheVariants as words
use Rattle.gm_parse.specs.Terminals.{The}
use Rattle.gm_parse.specs.Grammar.{Part, Program, Procedure, Parameters, Group, TypeName, OfGraph, Block, Statement, AtName, Target, ReduceSign, Condition, Range, Expression, Disjunction, Conjunction, Equality, Relation, Sum, Product, Unary, Primary, Reduction, Head, Braces, SearchHead, Reverse, InStatement, InExpression, Rule, Token, Of, ◌▸◌, ◌∣◌, Maybe, Many, Within, the, a_name, procedure_sign, bare_sign, element_sign, bearer_sign, loop_word_sign, range_sign, from_sign, product_sign, sum_sign, relation_sign, equality_sign, value_sign, test_sign, cast_sign, a_property, a_declaration, a_value, a_deferred_value, a_reduced_value, an_increment, a_loop, an_if, a_while, a_do, a_search, an_argument_reduction, a_return, a_choice, a_member, rule}

-- what comes after a target
abbrev pub assigned : Rule
assigned = a_value ∣ a_deferred_value ∣ a_reduced_value ∣ an_increment

-- an assignment of any kind
abbrev pub an_assignment : Rule
an_assignment = Of Target ▸ assigned

-- the operators after a comparison or what stands for it, from the tightest to the loosest
abbrev pub rest_of_relation : Rule
rest_of_relation = Many (equality_sign ▸ Of Relation) ▸ Many (the words.AndAnd ▸ Of Equality) ▸ Many (the words.OrOr ▸ Of Conjunction) ▸ Maybe a_choice

-- the operators after the first operand of an expression, from the tightest to the loosest
abbrev pub rest : Rule
rest = Many (product_sign ▸ Of Unary) ▸ Many (sum_sign ▸ Of Product) ▸ Maybe (relation_sign ▸ Of Sum) ▸ rest_of_relation

-- a cast, or an expression in parentheses
abbrev pub in_parentheses : Rule
in_parentheses = the words.LeftParen ▸ (cast_sign ▸ the words.RightParen ▸ Of Unary ∣ Of Expression ▸ the words.RightParen)

-- an operand that is a literal or begins with a name
abbrev pub atom : Rule
atom = the words.Number ∣ the words.True ∣ the words.False ∣ the words.Nil ∣ the words.Inf ∣ a_member

-- an operand that begins with neither an operator nor a parenthesis
abbrev pub simple : Rule
simple = Of Reduction ∣ atom

-- one equation for each part
unfoldable pub factored : Part → Rule
factored Statement = Within InStatement (Of Block ∣ the words.Semicolon ∣ a_declaration ∣ an_assignment ∣ a_loop ∣ an_if ∣ a_while ∣ a_do ∣ a_search ∣ an_argument_reduction ∣ a_return)
factored Expression = Within InExpression (Of Unary ▸ rest)
factored Unary = the words.Bang ▸ Of Unary ∣ the words.Minus ▸ Of Unary ∣ the words.Plus ▸ the words.Inf ∣ in_parentheses ∣ simple
factored Program = rule Program
factored Procedure = rule Procedure
factored Parameters = rule Parameters
factored Group = rule Group
factored TypeName = rule TypeName
factored OfGraph = rule OfGraph
factored Block = rule Block
factored AtName = rule AtName
factored Target = rule Target
factored ReduceSign = rule ReduceSign
factored Condition = rule Condition
factored Range = rule Range
factored Disjunction = rule Disjunction
factored Conjunction = rule Conjunction
factored Equality = rule Equality
factored Relation = rule Relation
factored Sum = rule Sum
factored Product = rule Product
factored Primary = rule Primary
factored Reduction = rule Reduction
factored Head = rule Head
factored Braces = rule Braces
factored SearchHead = rule SearchHead
factored Reverse = rule Reverse
