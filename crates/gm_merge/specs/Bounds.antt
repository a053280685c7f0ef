-- The least number that is at least a bound and above every place that lines name.
use Rattle.std.specs.Prelude.{ℕ, ◌+◌, max, Option, Some, None, List, [], ◌∷◌}
use Rattle.gm_image.specs.Term.{Term, NodeAt, Live, Unary, Binary, And, Or, Choose}
use Rattle.gm_image.specs.Program.{Line, Fold, Put}
use Rattle.gm_image.specs.Parts.{line_terms}

-- above an operation's place, if it has one
abbrev pub above : ℕ → Option ℕ → ℕ
above n None = n
above n (Some place) = max n (place + 1)

-- above the places of an expression
abbrev pub term_bound : ℕ → Term → ℕ
term_bound n (NodeAt a) = term_bound n a
term_bound n (Live place a) = term_bound (max n (place + 1)) a
term_bound n (Unary op place a) = term_bound (above n place) a
term_bound n (Binary op place a b) = term_bound (term_bound (above n place) a) b
term_bound n (And a b) = term_bound (term_bound n a) b
term_bound n (Or a b) = term_bound (term_bound n a) b
term_bound n (Choose c a b) = term_bound (term_bound (term_bound n c) a) b
term_bound n a = n

-- above those of some expressions
abbrev pub terms_bound : ℕ → List Term → ℕ
terms_bound n [] = n
terms_bound n (t ∷ ts) = terms_bound (term_bound n t) ts

-- above the place of a line's reduction, if it is one
abbrev pub own_bound : ℕ → Line → ℕ
own_bound n (Fold r place ts) = max n (place + 1)
own_bound n (Put r place ts) = max n (place + 1)
own_bound n l = n

-- above the places of a line
abbrev pub line_bound : ℕ → Line → ℕ
line_bound n l = terms_bound (own_bound n l) (line_terms l)

-- above those of some lines
abbrev pub lines_bound : ℕ → List Line → ℕ
lines_bound n [] = n
lines_bound n (l ∷ ls) = lines_bound (line_bound n l) ls
