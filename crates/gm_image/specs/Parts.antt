-- The parts of expressions and of lines.
use Rattle.std.specs.Prelude.{ℕ, suc, max, nat_le, Bool, true, ◌&&◌, ◌==◌, Option, Some, None, List, [], ◌∷◌, map}
use Rattle.std.specs.List.{list_any}
use Rattle.gm_image.specs.Term.{Term, NodeAt, Live, Unary, Binary, And, Or, Choose}
use Rattle.gm_image.specs.Program.{Target, Line, SetField, Fold, SetRegister, Put, Send, Skip, Each, Command, SetGlobal, Step, Jump, Test, Turn, Back, Finish}

-- whether a test holds of each leaf of an expression
abbrev pub all_leaves : (Term → Bool) → Term → Bool
all_leaves leaf (NodeAt a) = all_leaves leaf a
all_leaves leaf (Live p a) = all_leaves leaf a
all_leaves leaf (Unary op p a) = all_leaves leaf a
all_leaves leaf (Binary op p a b) = all_leaves leaf a && all_leaves leaf b
all_leaves leaf (And a b) = all_leaves leaf a && all_leaves leaf b
all_leaves leaf (Or a b) = all_leaves leaf a && all_leaves leaf b
all_leaves leaf (Choose c a b) = all_leaves leaf c && all_leaves leaf a && all_leaves leaf b
all_leaves leaf a = leaf a

-- whether a test holds of an operation's place, if it has one
abbrev pub place_holds : (ℕ → Bool) → Option ℕ → Bool
place_holds test None = true
place_holds test (Some p) = test p

-- whether a test holds of each place that an expression names
abbrev pub all_places : (ℕ → Bool) → Term → Bool
all_places test (NodeAt a) = all_places test a
all_places test (Live p a) = test p && all_places test a
all_places test (Unary op p a) = place_holds test p && all_places test a
all_places test (Binary op p a b) = place_holds test p && all_places test a && all_places test b
all_places test (And a b) = all_places test a && all_places test b
all_places test (Or a b) = all_places test a && all_places test b
all_places test (Choose c a b) = all_places test c && all_places test a && all_places test b
all_places test a = true

-- how many levels an expression has
abbrev pub depth : Term → ℕ
depth (NodeAt a) = suc (depth a)
depth (Live p a) = suc (depth a)
depth (Unary op p a) = suc (depth a)
depth (Binary op p a b) = suc (max (depth a) (depth b))
depth (And a b) = suc (max (depth a) (depth b))
depth (Or a b) = suc (max (depth a) (depth b))
depth (Choose c a b) = suc (max (depth c) (max (depth a) (depth b)))
depth a = 1

-- the greatest depth of an expression
abbrev pub depth_limit : ℕ
depth_limit = 1024

-- whether an expression is not too deep
abbrev pub is_shallow : Term → Bool
is_shallow a = nat_le (depth a) depth_limit

-- the slots of a reduction
abbrev pub slots_of : List Target → List ℕ
slots_of ts = map (λ t. t.slot) ts

-- the values of a reduction
abbrev pub terms_of : List Target → List Term
terms_of ts = map (λ t. t.term) ts

-- the expressions of a vertex line
abbrev pub line_terms : Line → List Term
line_terms (SetField f a) = a ∷ []
line_terms (Fold r p ts) = terms_of ts
line_terms (SetRegister r a) = a ∷ []
line_terms (Put r p ts) = terms_of ts
line_terms (Send k to vs) = to ∷ vs
line_terms (Skip n a) = a ∷ []
line_terms (Each d n) = []

-- the expressions of a master line
abbrev pub command_terms : Command → List Term
command_terms (SetGlobal g a) = a ∷ []
command_terms (Step q) = []
command_terms (Jump j) = []
command_terms (Test j a) = a ∷ []
command_terms (Turn x a) = a ∷ []
command_terms (Back h) = []
command_terms Finish = []

-- whether a number is among some
abbrev pub is_among : ℕ → List ℕ → Bool
is_among n ms = list_any (λ m. m == n) ms
