-- Conditions of the bodies of parallel loops, saved in locals before a part is cut from the rest.
use Rattle.std.specs.Prelude.{ℕ, suc, nat_eq, Bool, true, false, ◌&&◌, ◌||◌, not, if◌then◌else◌, List, [], ◌∷◌, ◌++◌, length, map, Option, Some, None}
use Rattle.std.specs.List.{list_any}
use Rattle.gm_base.specs.declared.places.Place.{Place}
use Rattle.gm_value.specs.declared.values.VType.TheVariants.{Flag}
use Rattle.gm_ast.specs.declared.tree.Declaration.{Declaration}
use Rattle.gm_ast.specs.declared.tree.Head.{Head}
use Rattle.gm_ast.specs.declared.tree.Key.{Key}
use Rattle.gm_ast.specs.declared.tree.Sort.TheVariants.{Scalar}
use Rattle.gm_ast.specs.declared.tree.Target.{Target}
use Rattle.gm_ast.specs.declared.tree.Target.TheVariants as T
use Rattle.gm_ast.specs.Program.{Expr, Var, Stmt, Then, Declare, Combine, Foreach, For, If, While, Do, Program, sequence}
use Rattle.gm_dissect.specs.Loops.{each_loop}

-- whether a target is a property through a variable other than the loop's iterator
abbrev pub is_random : ℕ → Target → Bool
is_random n (T.Scalar x at) = false
is_random n (T.Property x p at) = not (nat_eq x n)

-- whether a part of a body holds what is cut from the rest: an inner loop, or a reduction through another node variable
abbrev pub holds_cut : ℕ → Stmt → Bool
holds_cut n (Then a b) = holds_cut n a || holds_cut n b
holds_cut n (Combine k total r ts es) = list_any (is_random n) ts
holds_cut n (If k c a b) = holds_cut n a || holds_cut n b
holds_cut n (Foreach k at h test body) = true
holds_cut n _ = false

-- the statement number of an If, where one of its branches does
abbrev pub number_if : ℕ → Key → Stmt → Stmt → List ℕ
number_if n k a b = if holds_cut n a || holds_cut n b then k.statement ∷ [] else []

-- the statement numbers of the Ifs of a body that hold such a part, in the order of the text
abbrev pub numbers_of : ℕ → Stmt → List ℕ
numbers_of n (Then a b) = numbers_of n a ++ numbers_of n b
numbers_of n (If k c a b) = number_if n k a b ++ (numbers_of n a ++ numbers_of n b)
numbers_of n _ = []

-- the same of the loops of a sequential phase
abbrev pub numbers_in : Stmt → List ℕ
numbers_in (Then a b) = numbers_in a ++ numbers_in b
numbers_in (Foreach k at h test body) = numbers_of h.iterator body
numbers_in (For k at h test body) = numbers_in body
numbers_in (If k c a b) = numbers_in a ++ numbers_in b
numbers_in (While k at c body) = numbers_in body
numbers_in (Do k at body c) = numbers_in body
numbers_in _ = []

-- the local of a statement: one for each number of a list, from the first local on
abbrev pub local_of : ℕ → List ℕ → Key → Option ℕ
local_of first [] k = None
local_of first (x ∷ xs) k = if nat_eq x k.statement then Some first else local_of (suc first) xs k

-- a local of a loop's body that holds a condition, which no text names
abbrev pub flag_local : Declaration
flag_local = record { name = []; variable = record { sort = Scalar; vtype = Flag; depth = 1 } }

abbrev pub flag_locals : List ℕ → List Declaration
flag_locals xs = map (λ x. flag_local) xs

-- an If whose condition is first saved in a local, if one is given
abbrev pub saved_first : Option ℕ → Place → Key → Expr → Stmt → Stmt → Stmt
saved_first None at k c a b = If k c a b
saved_first (Some y) at k c a b = sequence (Declare k y (Some c) ∷ If k (Var y at) a b ∷ [])

-- a body with the conditions of some of its Ifs saved, each in the local that its key has
abbrev pub with_saved : (Key → Option ℕ) → Place → Stmt → Stmt
with_saved local at (Then a b) = Then (with_saved local at a) (with_saved local at b)
with_saved local at (If k c a b) = saved_first (local k) at k c (with_saved local at a) (with_saved local at b)
with_saved local at s = s

-- a loop with conditions of its body saved
abbrev pub saved_loop : (Key → Option ℕ) → Key → Place → Head → Expr → Stmt → Stmt
saved_loop local k at h test body = Foreach k at h test (with_saved local at body)

-- a program in which each If of a loop's body that holds what is cut from the rest first saves its condition in a local. The locals are the last of its variables
abbrev pub with_saved_conditions : Program → Program
with_saved_conditions program = record program {
  declarations = program.declarations ++ flag_locals (numbers_in program.body);
  body = each_loop (saved_loop (local_of (length program.declarations) (numbers_in program.body))) program.body;
}

abbrev pub is_variable : Expr → Bool
is_variable (Var x at) = true
is_variable _ = false

-- whether each If of a body that holds what is cut from the rest asks a variable alone
abbrev pub asks_variables : ℕ → Stmt → Bool
asks_variables n (Then a b) = asks_variables n a && asks_variables n b
asks_variables n (If k c a b) = (not (holds_cut n a || holds_cut n b) || is_variable c) && (asks_variables n a && asks_variables n b)
asks_variables n _ = true

abbrev pub asks_variables_in : Stmt → Bool
asks_variables_in (Then a b) = asks_variables_in a && asks_variables_in b
asks_variables_in (Foreach k at h test body) = asks_variables h.iterator body
asks_variables_in (For k at h test body) = asks_variables_in body
asks_variables_in (If k c a b) = asks_variables_in a && asks_variables_in b
asks_variables_in (While k at c body) = asks_variables_in body
asks_variables_in (Do k at body c) = asks_variables_in body
asks_variables_in _ = true

-- whether the bodies of a program's loops do
abbrev pub has_saved_conditions : Program → Bool
has_saved_conditions program = asks_variables_in program.body
