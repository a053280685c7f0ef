-- Totals in the order of faults: where the loop of a reduction stands for it, each total is one of a statement, also of conditions.
use Rattle.std.specs.Prelude.{Bool, true, false, ◌&&◌, ◌||◌, List, [], ◌∷◌, ◌++◌, map, option_map}
use Rattle.gm_base.specs.declared.places.Place.{Place}
use Rattle.gm_ast.specs.declared.surface.ReductionWord.TheVariants.{Sum}
use Rattle.gm_ast.specs.declared.tree.Key.{Key}
use Rattle.gm_ast.specs.Keys.{Fault}
use Rattle.gm_ast.specs.Program.{Expr, Unary, Binary, Both, Either, Choose, Folded, Stmt, Then, Declare, Assign, Defer, Combine, Foreach, For, If, While, Do, InBfs, InBfsBoth, Program}
use Rattle.gm_forms.specs.Order.{lie_before, fault_of, hoisted_in, hoisted_in_all, rest_in, faults_in, is_ordered}
use Rattle.gm_hoisting.specs.Hoisting.{has_none, search_key, placed}

-- an expression with its reductions as sums, whose totals may fault
abbrev pub as_sums : Expr → Expr
as_sums (Folded f h test e) = Folded (record (placed f h test e) { word = Sum }) h test e
as_sums (Unary op at e) = Unary op at (as_sums e)
as_sums (Binary op at a b) = Binary op at (as_sums a) (as_sums b)
as_sums (Both a b) = Both (as_sums a) (as_sums b)
as_sums (Either a b) = Either (as_sums a) (as_sums b)
as_sums (Choose c a b) = Choose (as_sums c) (as_sums a) (as_sums b)
as_sums e = e

-- an outer body so
abbrev pub body_as_sums : Stmt → Stmt
body_as_sums (Then a b) = Then (body_as_sums a) (body_as_sums b)
body_as_sums (Declare k x e) = Declare k x (option_map as_sums e)
body_as_sums (Assign k t e) = Assign k t (as_sums e)
body_as_sums (Defer k t e) = Defer k t (as_sums e)
body_as_sums (Combine k total r ts es) = Combine k total r ts (map as_sums es)
body_as_sums (If k c a b) = If k (as_sums c) (body_as_sums a) (body_as_sums b)
body_as_sums s = s

-- the loops and searches of a sequential phase so
abbrev pub loops_as_sums : Stmt → Stmt
loops_as_sums (Then a b) = Then (loops_as_sums a) (loops_as_sums b)
loops_as_sums (Foreach k at h test body) = Foreach k at h (as_sums test) (body_as_sums body)
loops_as_sums (For k at h test body) = For k at h test (loops_as_sums body)
loops_as_sums (If k c a b) = If k c (loops_as_sums a) (loops_as_sums b)
loops_as_sums (While k at c body) = While k at c (loops_as_sums body)
loops_as_sums (Do k at body c) = Do k at (loops_as_sums body) c
loops_as_sums (InBfs k at s test body) = InBfs k at s (as_sums test) (body_as_sums body)
loops_as_sums (InBfsBoth k at s test body back_key back_test back) = InBfsBoth k at s (as_sums test) (body_as_sums body) back_key (as_sums back_test) (body_as_sums back)
loops_as_sums s = s

-- whether the faults of parallel loops stand in order, with the total of each reduction in an expression among them, also where it cannot fault
abbrev pub totals_stand : Program → Bool
totals_stand p = is_ordered (record p { body = loops_as_sums p.body })

-- whether the reductions of several values stand in order: those of one before those of the next, and all before the rest of the values
abbrev pub hoists_follow : List Expr → Bool
hoists_follow [] = true
hoists_follow (e ∷ es) = lie_before (hoisted_in e) (hoisted_in_all es) && hoists_follow es

-- the faults of several values outside of reductions
abbrev pub rest_in_all : List Expr → Key → List Fault
rest_in_all [] k = []
rest_in_all (e ∷ es) k = rest_in e k ++ rest_in_all es k

abbrev pub values_in_order : List Expr → Key → Bool
values_in_order es k = hoists_follow es && lie_before (hoisted_in_all es) (rest_in_all es k)

-- whether the values of each reduction assignment of an outer body do so
abbrev pub values_stand : Stmt → Bool
values_stand (Then a b) = values_stand a && values_stand b
values_stand (Combine k total r ts es) = values_in_order (map as_sums es) k
values_stand (If k c a b) = values_stand a && values_stand b
values_stand s = true

-- whether what a search without a filter begins with comes before the faults of its filter, where this has reductions
abbrev pub search_stands : Key → Place → Expr → Bool
search_stands k at test = has_none test || lie_before (fault_of (search_key false k) at ∷ []) (faults_in (as_sums test) k)

-- the same of all loops and searches of a sequential phase
abbrev pub loops_stand : Stmt → Bool
loops_stand (Then a b) = loops_stand a && loops_stand b
loops_stand (Foreach k at h test body) = values_stand body
loops_stand (For k at h test body) = loops_stand body
loops_stand (If k c a b) = loops_stand a && loops_stand b
loops_stand (While k at c body) = loops_stand body
loops_stand (Do k at body c) = loops_stand body
loops_stand (InBfs k at s test body) = search_stands k s.place test && values_stand body
loops_stand (InBfsBoth k at s test body back_key back_test back) =
    search_stands k s.place test && (values_stand body && (search_stands back_key s.place back_test && values_stand back))
loops_stand s = true

-- whether all stands so that hoisting keeps the order of faults
abbrev pub can_be_hoisted : Program → Bool
can_be_hoisted p = totals_stand p && loops_stand p.body
