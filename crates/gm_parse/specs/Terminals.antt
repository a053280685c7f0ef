-- Which words a terminal of the grammar stands for.
use Rattle.std.specs.Prelude.{ℕ, Bool, nat_eq, nat_lt}
use Rattle.gm_token.specs.declared.words.Word.{Word}
use Rattle.gm_token.specs.declared.words.Word.TheVariants as words

-- the number of a word, by which words are compared; the names come first
abbrev pub number_of : Word → ℕ
number_of words.Name = 0
number_of words.Nodes = 1
number_of words.Nbrs = 2
number_of words.OutNbrs = 3
number_of words.InNbrs = 4
number_of words.UpNbrs = 5
number_of words.DownNbrs = 6
number_of words.Number = 7
number_of words.Procedure = 8
number_of words.Proc = 9
number_of words.IntType = 10
number_of words.LongType = 11
number_of words.BoolType = 12
number_of words.Graph = 13
number_of words.DGraph = 14
number_of words.Node = 15
number_of words.Edge = 16
number_of words.NP = 17
number_of words.NodeProp = 18
number_of words.NodeProperty = 19
number_of words.EP = 20
number_of words.EdgeProp = 21
number_of words.EdgeProperty = 22
number_of words.Foreach = 23
number_of words.For = 24
number_of words.If = 25
number_of words.Else = 26
number_of words.While = 27
number_of words.Do = 28
number_of words.InBFS = 29
number_of words.From = 30
number_of words.InReverse = 31
number_of words.Return = 32
number_of words.Sum = 33
number_of words.Product = 34
number_of words.Count = 35
number_of words.Min = 36
number_of words.Max = 37
number_of words.Exist = 38
number_of words.All = 39
number_of words.True = 40
number_of words.False = 41
number_of words.Nil = 42
number_of words.Inf = 43
number_of words.LeftParen = 44
number_of words.RightParen = 45
number_of words.LeftBrace = 46
number_of words.RightBrace = 47
number_of words.Less = 48
number_of words.Greater = 49
number_of words.Comma = 50
number_of words.Semicolon = 51
number_of words.Colon = 52
number_of words.Dot = 53
number_of words.At = 54
number_of words.Question = 55
number_of words.Bang = 56
number_of words.Assign = 57
number_of words.Plus = 58
number_of words.Minus = 59
number_of words.Star = 60
number_of words.Slash = 61
number_of words.Percent = 62
number_of words.Equal = 63
number_of words.NotEqual = 64
number_of words.LessEqual = 65
number_of words.GreaterEqual = 66
number_of words.AndAnd = 67
number_of words.OrOr = 68
number_of words.PlusPlus = 69
number_of words.PlusAssign = 70
number_of words.StarAssign = 71
number_of words.AndAndAssign = 72
number_of words.OrOrAssign = 73
number_of words.AndAssign = 74
number_of words.OrAssign = 75
number_of words.MinAssign = 76
number_of words.MaxAssign = 77
number_of words.FloatType = 78
number_of words.StringType = 79
number_of words.Collection = 80
number_of words.DepthFirst = 81
number_of words.UGraph = 82
number_of words.Average = 83
number_of words.Local = 84
number_of words.Real = 85

-- a terminal is one word, or any name, range words among them
pub data Terminal : Type 0 where
  The : Word → Terminal
  AnyName : Terminal

-- a terminal stands for this word
abbrev pub fits : Terminal → Word → Bool
fits (The v) w = nat_eq (number_of v) (number_of w)
fits AnyName w = nat_lt (number_of w) 7
