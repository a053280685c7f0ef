-- One token of foresight: what each part may begin with and what may follow it, and the moves that it decides.
use Rattle.std.specs.Prelude.{◌≡◌, ℕ, suc, Bool, true, false, not, ◌&&◌, ◌||◌, nat_eq, List, [], ◌∷◌, ◌++◌, Option, Some, None}
use Rattle.gm_parse.specs.declared.around.Around.{Around}
use Rattle.gm_token.specs.declared.words.Word.{Word}
use Rattle.gm_token.specs.declared.words.Word.TheVariants as words
use Rattle.gm_parse.specs.Terminals.{number_of, Terminal, fits}
use Rattle.gm_parse.specs.Grammar.{Part, Program, Procedure, Parameters, Group, TypeName, OfGraph, Block, Statement, AtName, Target, ReduceSign, Condition, Range, Expression, Disjunction, Conjunction, Equality, Relation, Sum, Product, Unary, Primary, Reduction, Head, Braces, SearchHead, Reverse, Nest, Rule, Token, Of, ◌▸◌, ◌∣◌, Maybe, Many, Attached, Within}
use Rattle.gm_parse.specs.Factored.{factored}
use Rattle.gm_parse.specs.Derivation.{enter, Pending, Next, is_too_deep}

abbrev pub is_among : Word → List Word → Bool
is_among w [] = false
is_among w (v ∷ vs) = nat_eq (number_of v) (number_of w) || is_among w vs

-- the words of names
abbrev pub names : List Word
names = words.Name ∷ words.Nodes ∷ words.Nbrs ∷ words.OutNbrs ∷ words.InNbrs ∷ words.UpNbrs ∷ words.DownNbrs ∷ []

-- the words with which a type begins
abbrev pub type_words : List Word
type_words = words.IntType ∷ words.LongType ∷ words.BoolType ∷ words.Graph ∷ words.DGraph ∷ words.Node ∷ words.Edge ∷ words.NP ∷ words.NodeProp ∷ words.NodeProperty ∷ words.EP ∷ words.EdgeProp ∷ words.EdgeProperty ∷ []

-- the words with which an operand begins
abbrev pub operand_words : List Word
operand_words = names ++ (words.LeftParen ∷ words.Plus ∷ words.Minus ∷ words.Bang ∷ words.Inf ∷ words.Number ∷ words.True ∷ words.False ∷ words.Nil ∷ words.Sum ∷ words.Product ∷ words.Min ∷ words.Max ∷ words.All ∷ words.Exist ∷ words.Count ∷ [])

-- the words with which a statement begins
abbrev pub statement_words : List Word
statement_words = names ++ type_words ++ (words.Semicolon ∷ words.LeftBrace ∷ words.Foreach ∷ words.For ∷ words.If ∷ words.While ∷ words.Do ∷ words.InBFS ∷ words.Less ∷ words.Return ∷ [])

-- the words that may come after an expression that is no operand
abbrev pub after_expression : List Word
after_expression = words.Semicolon ∷ words.RightParen ∷ words.Colon ∷ words.RightBrace ∷ words.At ∷ []

-- the words that may begin a part
unfoldable pub begins : Part → List Word
begins Program = words.Procedure ∷ words.Proc ∷ []
begins Procedure = words.Procedure ∷ words.Proc ∷ []
begins Parameters = names
begins Group = names
begins TypeName = type_words
begins OfGraph = words.LeftParen ∷ []
begins Block = words.LeftBrace ∷ []
begins Statement = statement_words
begins AtName = words.At ∷ []
begins Target = names
begins ReduceSign = words.PlusAssign ∷ words.StarAssign ∷ words.MinAssign ∷ words.MaxAssign ∷ words.AndAndAssign ∷ words.OrOrAssign ∷ words.AndAssign ∷ words.OrAssign ∷ []
begins Condition = words.LeftParen ∷ []
begins Range = names
begins Expression = operand_words
begins Disjunction = operand_words
begins Conjunction = operand_words
begins Equality = operand_words
begins Relation = operand_words
begins Sum = operand_words
begins Product = operand_words
begins Unary = operand_words
begins Primary = names ++ (words.LeftParen ∷ words.Inf ∷ words.Number ∷ words.True ∷ words.False ∷ words.Nil ∷ words.Sum ∷ words.Product ∷ words.Min ∷ words.Max ∷ words.All ∷ words.Exist ∷ words.Count ∷ [])
begins Reduction = words.Sum ∷ words.Product ∷ words.Min ∷ words.Max ∷ words.All ∷ words.Exist ∷ words.Count ∷ []
begins Head = words.LeftParen ∷ []
begins Braces = words.LeftBrace ∷ []
begins SearchHead = words.LeftParen ∷ []
begins Reverse = words.InReverse ∷ []

-- the words that may follow a part
unfoldable pub follows : Part → List Word
follows Program = []
follows Procedure = []
follows Parameters = words.Semicolon ∷ words.RightParen ∷ []
follows Group = words.Semicolon ∷ words.RightParen ∷ words.Comma ∷ []
follows TypeName = names ++ (words.Semicolon ∷ words.RightParen ∷ words.Comma ∷ words.Greater ∷ words.LeftBrace ∷ [])
follows OfGraph = names ++ (words.Semicolon ∷ words.RightParen ∷ words.Comma ∷ words.Greater ∷ words.LeftBrace ∷ [])
follows Block = statement_words ++ (words.RightBrace ∷ words.Else ∷ words.InReverse ∷ [])
follows Statement = statement_words ++ (words.RightBrace ∷ words.Else ∷ [])
follows AtName = words.Semicolon ∷ []
follows Target = words.Semicolon ∷ words.Comma ∷ words.Greater ∷ words.Assign ∷ words.LessEqual ∷ words.PlusPlus ∷ words.PlusAssign ∷ words.StarAssign ∷ words.MinAssign ∷ words.MaxAssign ∷ words.AndAndAssign ∷ words.OrOrAssign ∷ words.AndAssign ∷ words.OrAssign ∷ []
follows ReduceSign = operand_words
follows Condition = statement_words ++ (words.RightParen ∷ words.Colon ∷ words.Comma ∷ words.Less ∷ words.Greater ∷ words.RightBrace ∷ words.LessEqual ∷ words.At ∷ words.Star ∷ words.Slash ∷ words.Percent ∷ words.Plus ∷ words.Minus ∷ words.GreaterEqual ∷ words.Equal ∷ words.NotEqual ∷ words.AndAnd ∷ words.OrOr ∷ words.Question ∷ [])
follows Range = words.RightParen ∷ []
follows Expression = after_expression
follows Disjunction = []
follows Conjunction = after_expression ++ (words.OrOr ∷ words.Question ∷ [])
follows Equality = after_expression ++ (words.AndAnd ∷ words.OrOr ∷ words.Question ∷ [])
follows Relation = after_expression ++ (words.Equal ∷ words.NotEqual ∷ words.AndAnd ∷ words.OrOr ∷ words.Question ∷ [])
follows Sum = after_expression ++ (words.Comma ∷ words.Less ∷ words.Greater ∷ words.LessEqual ∷ words.GreaterEqual ∷ words.Equal ∷ words.NotEqual ∷ words.AndAnd ∷ words.OrOr ∷ words.Question ∷ [])
follows Product = after_expression ++ (words.Comma ∷ words.Less ∷ words.Greater ∷ words.LessEqual ∷ words.Plus ∷ words.Minus ∷ words.GreaterEqual ∷ words.Equal ∷ words.NotEqual ∷ words.AndAnd ∷ words.OrOr ∷ words.Question ∷ [])
follows Unary = after_expression ++ (words.Comma ∷ words.Less ∷ words.Greater ∷ words.LessEqual ∷ words.Star ∷ words.Slash ∷ words.Percent ∷ words.Plus ∷ words.Minus ∷ words.GreaterEqual ∷ words.Equal ∷ words.NotEqual ∷ words.AndAnd ∷ words.OrOr ∷ words.Question ∷ [])
follows Primary = []
follows Reduction = after_expression ++ (words.Comma ∷ words.Less ∷ words.Greater ∷ words.LessEqual ∷ words.Star ∷ words.Slash ∷ words.Percent ∷ words.Plus ∷ words.Minus ∷ words.GreaterEqual ∷ words.Equal ∷ words.NotEqual ∷ words.AndAnd ∷ words.OrOr ∷ words.Question ∷ [])
follows Head = statement_words ++ (words.RightParen ∷ words.Colon ∷ words.Comma ∷ words.Less ∷ words.Greater ∷ words.RightBrace ∷ words.LessEqual ∷ words.At ∷ words.Star ∷ words.Slash ∷ words.Percent ∷ words.Plus ∷ words.Minus ∷ words.GreaterEqual ∷ words.Equal ∷ words.NotEqual ∷ words.AndAnd ∷ words.OrOr ∷ words.Question ∷ [])
follows Braces = after_expression ++ (words.Comma ∷ words.Less ∷ words.Greater ∷ words.LessEqual ∷ words.Star ∷ words.Slash ∷ words.Percent ∷ words.Plus ∷ words.Minus ∷ words.GreaterEqual ∷ words.Equal ∷ words.NotEqual ∷ words.AndAnd ∷ words.OrOr ∷ words.Question ∷ [])
follows SearchHead = words.LeftBrace ∷ []
follows Reverse = statement_words ++ (words.RightBrace ∷ words.Else ∷ [])

-- the parts that may derive nothing: none
abbrev pub is_part_empty : Part → Bool
is_part_empty q = false

-- the rule may derive nothing
abbrev pub is_empty : Rule → Bool
is_empty (Token k) = false
is_empty (Of q) = is_part_empty q
is_empty (x ▸ y) = is_empty x && is_empty y
is_empty (x ∣ y) = is_empty x || is_empty y
is_empty (Maybe x) = true
is_empty (Many x) = true
is_empty (Attached k x) = true
is_empty (Within n x) = is_empty x

-- the rule may derive a text that begins with the word
abbrev pub starts : Word → Rule → Bool
starts w (Token k) = fits k w
starts w (Of q) = is_among w (begins q)
starts w (x ▸ y) = starts w x || (is_empty x && starts w y)
starts w (x ∣ y) = starts w x || starts w y
starts w (Maybe x) = starts w x
starts w (Many x) = starts w x
starts w (Attached k x) = fits k w
starts w (Within n x) = starts w x

abbrev pub implies : Bool → Bool → Bool
implies true b = b
implies false b = true

-- the word decides the rule, where `after` says that the word may come after the rule
abbrev pub decides : Word → Rule → Bool → Bool
decides w (Token k) after = true
decides w (Of q) after = implies after (is_among w (follows q))
decides w (x ▸ y) after = decides w y after && decides w x (starts w y || (is_empty y && after))
decides w (x ∣ y) after = (decides w x after && decides w y after) && (not (is_empty x) && not (starts w x && (starts w y || (is_empty y && after))))
decides w (Maybe x) after = decides w x after && (not (is_empty x) && not (starts w x && after))
decides w (Many x) after = decides w x (starts w x || after) && (not (is_empty x) && not (starts w x && after))
decides w (Attached k x) after = decides w x after
decides w (Within n x) after = decides w x after

-- the tables above hold for a part
abbrev pub is_certain : Word → Part → Bool
is_certain w q = decides w (factored q) (is_among w (follows q)) && (implies (starts w (factored q)) (is_among w (begins q)) && implies (is_empty (factored q)) (is_part_empty q))

-- the next word
abbrev pub next : List Word → Option Word
next [] = None
next (w ∷ ws) = Some w

abbrev pub starts_next : Option Word → Rule → Bool
starts_next None x = false
starts_next (Some w) x = starts w x

-- what is pending at place i turns into this, by the next word alone
pub data Turns : Option Word → ℕ → Pending → Pending → Type 0 where
  part : {o : Option Word} {i : ℕ} {q : Part} {a : Around} {p : Pending} → Turns o i (Next (Of q) a p) (Next (factored q) a p)
  both : {o : Option Word} {i : ℕ} {x y : Rule} {a : Around} {p : Pending} → Turns o i (Next (x ▸ y) a p) (Next x a (Next y a p))
  left : {o : Option Word} {i : ℕ} {x y : Rule} {a : Around} {p : Pending} → starts_next o x ≡ true → Turns o i (Next (x ∣ y) a p) (Next x a p)
  right : {o : Option Word} {i : ℕ} {x y : Rule} {a : Around} {p : Pending} → starts_next o x ≡ false → Turns o i (Next (x ∣ y) a p) (Next y a p)
  absent : {o : Option Word} {i : ℕ} {x : Rule} {a : Around} {p : Pending} → starts_next o x ≡ false → Turns o i (Next (Maybe x) a p) p
  present : {o : Option Word} {i : ℕ} {x : Rule} {a : Around} {p : Pending} → starts_next o x ≡ true → Turns o i (Next (Maybe x) a p) (Next x a p)
  stop : {o : Option Word} {i : ℕ} {x : Rule} {a : Around} {p : Pending} → starts_next o x ≡ false → Turns o i (Next (Many x) a p) p
  more : {o : Option Word} {i : ℕ} {x : Rule} {a : Around} {p : Pending} → starts_next o x ≡ true → Turns o i (Next (Many x) a p) (Next x a (Next (Many x) a p))
  detached : {o : Option Word} {i : ℕ} {k : Terminal} {x : Rule} {a : Around} {p : Pending} → starts_next o (Token k) ≡ false → Turns o i (Next (Attached k x) a p) p
  attached : {o : Option Word} {i : ℕ} {k : Terminal} {x : Rule} {a : Around} {p : Pending} → starts_next o (Token k) ≡ true → Turns o i (Next (Attached k x) a p) (Next (Token k) a (Next x a p))
  within : {o : Option Word} {i : ℕ} {n : Nest} {x : Rule} {a : Around} {p : Pending} → Turns o i (Next (Within n x) a p) (Next x (enter n i a) p)

-- From place i on the words are read, none of them too deep, until these words are left at place j, and this is pending.
pub data Moves : ℕ → Pending → List Word → ℕ → Pending → List Word → Type 0 where
  here : {i : ℕ} {p : Pending} {ws : List Word} → Moves i p ws i p ws
  turn : {i j : ℕ} {p p' q : Pending} {ws us : List Word} → Turns (next ws) i p p' → Moves i p' ws j q us → Moves i p ws j q us
  read : {i j : ℕ} {k : Terminal} {a : Around} {p q : Pending} {w : Word} {ws us : List Word}
      → fits k w ≡ true → is_too_deep a i ≡ false → Moves (suc i) p ws j q us → Moves i (Next (Token k) a p) (w ∷ ws) j q us
