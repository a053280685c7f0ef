-- What kind of token a word is, which rule it breaks, and how the words are spelled.
use Rattle.std.specs.Prelude.{ℕ, List, [], ◌∷◌, Option, Some, None, unwrap_or, codes, if◌then◌else◌}
use Rattle.std.specs.Str.{bytes_eq}
use Rattle.gm_base.specs.declared.rules.Rule.{Rule}
use Rattle.gm_base.specs.declared.rules.Rule.TheVariants.{U1, U2, U3, U4, U5, U6, U7, U8}
use Rattle.gm_token.specs.declared.words.Word.{Word}
use Rattle.gm_token.specs.declared.words.Word.TheVariants.{Name, Nodes, Nbrs, OutNbrs, InNbrs, UpNbrs, DownNbrs, Number, LeftParen, RightParen, LeftBrace, RightBrace, Less, Greater, Comma, Semicolon, Colon, Dot, At, Question, Bang, Assign, Plus, Minus, Star, Slash, Percent, Equal, NotEqual, LessEqual, GreaterEqual, AndAnd, OrOr, PlusPlus, PlusAssign, StarAssign, AndAndAssign, OrOrAssign, AndAssign, OrAssign, MinAssign, MaxAssign, FloatType, StringType, Collection, DepthFirst, UGraph, Average, Local, Real, Procedure, Proc, IntType, LongType, BoolType, Graph, DGraph, Node, Edge, NP, NodeProp, NodeProperty, EP, EdgeProp, EdgeProperty, Foreach, For, If, Else, While, Do, InBFS, From, InReverse, Return, Sum, Product, Count, Min, Max, Exist, All, True, False, Nil, Inf}
use Rattle.gm_token.specs.declared.words.TokenKind.{TokenKind}
use Rattle.gm_token.specs.declared.words.TokenKind.TheVariants.{Name as NameKind, Number as NumberKind, Real as RealKind, Reserved, Unsupported, Symbol}

-- what kind of token a word is
abbrev pub kind_of : Word → TokenKind
kind_of Name = NameKind
kind_of Nodes = NameKind
kind_of Nbrs = NameKind
kind_of OutNbrs = NameKind
kind_of InNbrs = NameKind
kind_of UpNbrs = NameKind
kind_of DownNbrs = NameKind
kind_of Number = NumberKind
kind_of LeftParen = Symbol
kind_of RightParen = Symbol
kind_of LeftBrace = Symbol
kind_of RightBrace = Symbol
kind_of Less = Symbol
kind_of Greater = Symbol
kind_of Comma = Symbol
kind_of Semicolon = Symbol
kind_of Colon = Symbol
kind_of Dot = Symbol
kind_of At = Symbol
kind_of Question = Symbol
kind_of Bang = Symbol
kind_of Assign = Symbol
kind_of Plus = Symbol
kind_of Minus = Symbol
kind_of Star = Symbol
kind_of Slash = Symbol
kind_of Percent = Symbol
kind_of Equal = Symbol
kind_of NotEqual = Symbol
kind_of LessEqual = Symbol
kind_of GreaterEqual = Symbol
kind_of AndAnd = Symbol
kind_of OrOr = Symbol
kind_of PlusPlus = Symbol
kind_of PlusAssign = Symbol
kind_of StarAssign = Symbol
kind_of AndAndAssign = Symbol
kind_of OrOrAssign = Symbol
kind_of AndAssign = Symbol
kind_of OrAssign = Symbol
kind_of MinAssign = Symbol
kind_of MaxAssign = Symbol
kind_of FloatType = Unsupported
kind_of StringType = Unsupported
kind_of Collection = Unsupported
kind_of DepthFirst = Unsupported
kind_of UGraph = Unsupported
kind_of Average = Unsupported
kind_of Local = Unsupported
kind_of Real = RealKind
kind_of _ = Reserved

-- the rule that a text with this word breaks, if the word is not taken
abbrev pub unsupported_rule : Word → Option Rule
unsupported_rule FloatType = Some U1
unsupported_rule StringType = Some U2
unsupported_rule Collection = Some U3
unsupported_rule DepthFirst = Some U4
unsupported_rule UGraph = Some U5
unsupported_rule Average = Some U6
unsupported_rule Local = Some U7
unsupported_rule Real = Some U8
unsupported_rule _ = None

-- the words that are spelled like names, each with its spelling: the ranges, the reserved words, and those that are not taken
unfoldable pub names : List (List ℕ × Word)
names =
    (codes "Nodes", Nodes) ∷
    (codes "Nbrs", Nbrs) ∷
    (codes "OutNbrs", OutNbrs) ∷
    (codes "InNbrs", InNbrs) ∷
    (codes "UpNbrs", UpNbrs) ∷
    (codes "DownNbrs", DownNbrs) ∷
    (codes "Procedure", Procedure) ∷
    (codes "Proc", Proc) ∷
    (codes "Int", IntType) ∷
    (codes "Long", LongType) ∷
    (codes "Bool", BoolType) ∷
    (codes "Graph", Graph) ∷
    (codes "DGraph", DGraph) ∷
    (codes "Node", Node) ∷
    (codes "Edge", Edge) ∷
    (codes "N_P", NP) ∷
    (codes "Node_Prop", NodeProp) ∷
    (codes "Node_Property", NodeProperty) ∷
    (codes "E_P", EP) ∷
    (codes "Edge_Prop", EdgeProp) ∷
    (codes "Edge_Property", EdgeProperty) ∷
    (codes "Foreach", Foreach) ∷
    (codes "For", For) ∷
    (codes "If", If) ∷
    (codes "Else", Else) ∷
    (codes "While", While) ∷
    (codes "Do", Do) ∷
    (codes "InBFS", InBFS) ∷
    (codes "From", From) ∷
    (codes "InReverse", InReverse) ∷
    (codes "Return", Return) ∷
    (codes "Sum", Sum) ∷
    (codes "Product", Product) ∷
    (codes "Count", Count) ∷
    (codes "Min", Min) ∷
    (codes "Max", Max) ∷
    (codes "Exist", Exist) ∷
    (codes "All", All) ∷
    (codes "True", True) ∷
    (codes "False", False) ∷
    (codes "NIL", Nil) ∷
    (codes "INF", Inf) ∷
    (codes "Float", FloatType) ∷
    (codes "Double", FloatType) ∷
    (codes "String", StringType) ∷
    (codes "Node_Set", Collection) ∷
    (codes "N_S", Collection) ∷
    (codes "Node_Order", Collection) ∷
    (codes "N_O", Collection) ∷
    (codes "Node_Seq", Collection) ∷
    (codes "N_Q", Collection) ∷
    (codes "Collection", Collection) ∷
    (codes "Map", Collection) ∷
    (codes "InDFS", DepthFirst) ∷
    (codes "InPost", DepthFirst) ∷
    (codes "UGraph", UGraph) ∷
    (codes "Avg", Average) ∷
    (codes "Local", Local) ∷ []

-- the symbols, each with its spelling, the longer ones first
unfoldable pub symbols : List (List ℕ × Word)
symbols =
    (codes "min=", MinAssign) ∷
    (codes "max=", MaxAssign) ∷
    (codes "&&=", AndAndAssign) ∷
    (codes "||=", OrOrAssign) ∷
    (codes "==", Equal) ∷
    (codes "!=", NotEqual) ∷
    (codes "<=", LessEqual) ∷
    (codes ">=", GreaterEqual) ∷
    (codes "&&", AndAnd) ∷
    (codes "||", OrOr) ∷
    (codes "++", PlusPlus) ∷
    (codes "+=", PlusAssign) ∷
    (codes "*=", StarAssign) ∷
    (codes "&=", AndAssign) ∷
    (codes "|=", OrAssign) ∷
    (codes "(", LeftParen) ∷
    (codes ")", RightParen) ∷
    (codes "{", LeftBrace) ∷
    (codes "}", RightBrace) ∷
    (codes "<", Less) ∷
    (codes ">", Greater) ∷
    (codes ",", Comma) ∷
    (codes ";", Semicolon) ∷
    (codes ":", Colon) ∷
    (codes ".", Dot) ∷
    (codes "@", At) ∷
    (codes "?", Question) ∷
    (codes "!", Bang) ∷
    (codes "=", Assign) ∷
    (codes "+", Plus) ∷
    (codes "-", Minus) ∷
    (codes "*", Star) ∷
    (codes "/", Slash) ∷
    (codes "%", Percent) ∷ []

-- the word that a table has beside a spelling
abbrev pub word_in : List (List ℕ × Word) → List ℕ → Option Word
word_in [] spelling = None
word_in (row ∷ rows) spelling = if bytes_eq row.0 spelling then Some row.1 else word_in rows spelling

-- the word of a name
abbrev pub name_word : List ℕ → Word
name_word spelling = unwrap_or (word_in names spelling) Name
