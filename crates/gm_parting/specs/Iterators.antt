-- Iterators of parallel loops, placed in the table by what they iterate.
use Rattle.std.specs.Prelude.{ℕ, zero, suc, Bool, true, false, ◌||◌, if◌then◌else◌, List, [], ◌∷◌, ◌++◌}
use Rattle.gm_ast.specs.declared.tree.Declaration.{Declaration}
use Rattle.gm_ast.specs.declared.tree.Sort.TheVariants.{Iterator, Graph}
use Rattle.gm_ast.specs.declared.tree.Variable.{Variable}
use Rattle.gm_ast.specs.Names.{sort_eq}
use Rattle.gm_ast.specs.Program.{Stmt, Then, Foreach, For, If, While, Do, Program}
use Rattle.gm_ast.specs.Ways.{is_in}
use Rattle.gm_forms.specs.Sharing.{disjoint}

-- the iterators of the inner loops of a body
abbrev pub inner_iterators : Stmt → List ℕ
inner_iterators (Then a b) = inner_iterators a ++ inner_iterators b
inner_iterators (If k c a b) = inner_iterators a ++ inner_iterators b
inner_iterators (Foreach k at h test body) = h.iterator ∷ []
inner_iterators _ = []

-- those of the inner loops of a sequential phase, and those of its loops over nodes
abbrev pub all_inner_iterators : Stmt → List ℕ
all_inner_iterators (Then a b) = all_inner_iterators a ++ all_inner_iterators b
all_inner_iterators (Foreach k at h test body) = inner_iterators body
all_inner_iterators (For k at h test body) = all_inner_iterators body
all_inner_iterators (If k c a b) = all_inner_iterators a ++ all_inner_iterators b
all_inner_iterators (While k at c body) = all_inner_iterators body
all_inner_iterators (Do k at body c) = all_inner_iterators body
all_inner_iterators _ = []

abbrev pub outer_iterators : Stmt → List ℕ
outer_iterators (Then a b) = outer_iterators a ++ outer_iterators b
outer_iterators (Foreach k at h test body) = h.iterator ∷ []
outer_iterators (For k at h test body) = outer_iterators body
outer_iterators (If k c a b) = outer_iterators a ++ outer_iterators b
outer_iterators (While k at c body) = outer_iterators body
outer_iterators (Do k at body c) = outer_iterators body
outer_iterators _ = []

-- whether a variable may iterate
abbrev pub iterates : Variable → Bool
iterates v = sort_eq Iterator v.sort || sort_eq Graph v.sort

-- the depth of an iterator of inner loops, and of any other: neither is that of a local of an outer body
abbrev pub iterator_depth : Bool → ℕ
iterator_depth true = 2
iterator_depth false = 0

-- a variable as it is, or an iterator as one of inner loops or as another
abbrev pub placed_variable : Bool → Variable → Variable
placed_variable inner v = if iterates v then record v { depth = iterator_depth inner } else v

-- a table from the variable i on, in which some iterators are of inner loops
abbrev pub placed_from : List ℕ → ℕ → List Declaration → List Declaration
placed_from inners i [] = []
placed_from inners i (d ∷ ds) = record d { variable = placed_variable (is_in inners i) d.variable } ∷ placed_from inners (suc i) ds

-- a program whose iterators are placed by the loops that they iterate
abbrev pub with_iterators_placed : Program → Program
with_iterators_placed program = record program { declarations = placed_from (all_inner_iterators program.body) zero program.declarations }

-- whether no variable iterates a loop over nodes and an inner loop
abbrev pub has_iterators_apart : Program → Bool
has_iterators_apart p = disjoint (outer_iterators p.body) (all_inner_iterators p.body)
