-- A table of marks, kept as the set of what is marked.
use Rattle.std.specs.Prelude.{ℕ, zero, suc, Bool, true, false, List, [], ◌∷◌}
use Rattle.std.specs.BTreeSet.{BTreeSet, contains}
use Rattle.std.specs.Ordering.{nat_cmp}

-- whether each of so many variables, the first of which has the index p, is in a set
abbrev pub table_from : BTreeSet ℕ → ℕ → ℕ → List Bool
table_from s p zero = []
table_from s p (suc n) = contains nat_cmp s p ∷ table_from s (suc p) n

-- a set as a table of so many variables
abbrev pub table_of : BTreeSet ℕ → ℕ → List Bool
table_of s count = table_from s 0 count

-- the variables that a table marks, the first of which has the index p, in its order
abbrev pub marked_from : ℕ → List Bool → List ℕ
marked_from p [] = []
marked_from p (true ∷ marks) = p ∷ marked_from (suc p) marks
marked_from p (false ∷ marks) = marked_from (suc p) marks
