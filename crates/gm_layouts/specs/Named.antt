-- The node properties that a program names, and marks of them.
use Rattle.std.specs.Prelude.{ℕ, zero, suc, Bool, true, false, List, [], ◌∷◌, ◌++◌, Option, Some, None, slice_get}
use Rattle.gm_ast.specs.declared.tree.Declaration.{Declaration}
use Rattle.gm_ast.specs.declared.tree.Target.{Target}
use Rattle.gm_ast.specs.declared.tree.Target.TheVariants as T
use Rattle.gm_ast.specs.Program.{Expr, Property, Unary, Binary, Both, Either, Choose, Folded, Stmt, Then, Declare, Assign, Defer, Combine, Group, Foreach, For, If, While, Do, InBfs, InBfsBoth, Return}

-- those that an expression names
abbrev pub names_in : Expr → List ℕ
names_in (Property x p at) = p ∷ []
names_in (Unary op at e) = names_in e
names_in (Binary op at a b) = names_in a ++ names_in b
names_in (Both a b) = names_in a ++ names_in b
names_in (Either a b) = names_in a ++ names_in b
names_in (Choose c a b) = names_in c ++ (names_in a ++ names_in b)
names_in (Folded f h test e) = names_in test ++ names_in e
names_in _ = []

abbrev pub names_in_option : Option Expr → List ℕ
names_in_option None = []
names_in_option (Some e) = names_in e

abbrev pub names_in_all : List Expr → List ℕ
names_in_all [] = []
names_in_all (e ∷ es) = names_in e ++ names_in_all es

-- the one that a target is
abbrev pub names_of_target : Target → List ℕ
names_of_target (T.Scalar x at) = []
names_of_target (T.Property x p at) = p ∷ []

abbrev pub names_of_targets : List Target → List ℕ
names_of_targets [] = []
names_of_targets (t ∷ ts) = names_of_target t ++ names_of_targets ts

-- those that a statement names
abbrev pub names_of : Stmt → List ℕ
names_of (Then a b) = names_of a ++ names_of b
names_of (Declare k x e) = names_in_option e
names_of (Assign k t e) = names_of_target t ++ names_in e
names_of (Defer k t e) = names_of_target t ++ names_in e
names_of (Combine k total r ts es) = names_of_targets ts ++ names_in_all es
names_of (Group k at g p e) = p ∷ names_in e
names_of (Foreach k at h test body) = names_in test ++ names_of body
names_of (For k at h test body) = names_in test ++ names_of body
names_of (If k c a b) = names_in c ++ (names_of a ++ names_of b)
names_of (While k at c body) = names_in c ++ names_of body
names_of (Do k at body c) = names_of body ++ names_in c
names_of (InBfs k at s test body) = names_in test ++ names_of body
names_of (InBfsBoth k at s test body back_key back_test back) = names_in test ++ (names_of body ++ (names_in back_test ++ names_of back))
names_of (Return k at e) = names_in_option e
names_of _ = []

-- marks with one more set, and with several
abbrev pub set_at : List Bool → ℕ → List Bool
set_at [] i = []
set_at (b ∷ bs) zero = true ∷ bs
set_at (b ∷ bs) (suc i) = b ∷ set_at bs i

abbrev pub marked : List Bool → List ℕ → List Bool
marked bs [] = bs
marked bs (x ∷ xs) = marked (set_at bs x) xs

-- no marks, one for each declaration
abbrev pub none_of : List Declaration → List Bool
none_of [] = []
none_of (d ∷ ds) = false ∷ none_of ds

-- a mark
abbrev pub mark_or : Option Bool → Bool
mark_or None = false
mark_or (Some b) = b

abbrev pub mark_at : List Bool → ℕ → Bool
mark_at bs i = mark_or (slice_get bs i)
