-- Totals in the order of faults throughout a program: also in group assignments, and within the reductions of a sequential phase, all of which passes make loops of.
use Rattle.std.specs.Prelude.{Bool, ◌&&◌, map, option_map}
use Rattle.gm_ast.specs.Program.{Expr, Unary, Binary, Both, Either, Choose, Folded, Stmt, Then, Declare, Assign, Combine, Group, Foreach, For, If, While, Do, InBfs, InBfsBoth, Return, Program}
use Rattle.gm_forms.specs.Order.{is_ordered}
use Rattle.gm_hoisting.specs.Totals.{as_sums, body_as_sums, loops_stand}

-- an expression of a sequential phase with the reductions in the filters and the braces of its reductions as sums
abbrev pub inner_as_sums : Expr → Expr
inner_as_sums (Folded f h test e) = Folded f h (as_sums test) (as_sums e)
inner_as_sums (Unary op at e) = Unary op at (inner_as_sums e)
inner_as_sums (Binary op at a b) = Binary op at (inner_as_sums a) (inner_as_sums b)
inner_as_sums (Both a b) = Both (inner_as_sums a) (inner_as_sums b)
inner_as_sums (Either a b) = Either (inner_as_sums a) (inner_as_sums b)
inner_as_sums (Choose c a b) = Choose (inner_as_sums c) (inner_as_sums a) (inner_as_sums b)
inner_as_sums e = e

-- a sequential phase so, with its group assignments, loops and searches
abbrev pub all_as_sums : Stmt → Stmt
all_as_sums (Then a b) = Then (all_as_sums a) (all_as_sums b)
all_as_sums (Declare k x e) = Declare k x (option_map inner_as_sums e)
all_as_sums (Assign k t e) = Assign k t (inner_as_sums e)
all_as_sums (Combine k total r ts es) = Combine k total r ts (map inner_as_sums es)
all_as_sums (Group k at g p e) = Group k at g p (as_sums e)
all_as_sums (Foreach k at h test body) = Foreach k at h (as_sums test) (body_as_sums body)
all_as_sums (For k at h test body) = For k at h (inner_as_sums test) (all_as_sums body)
all_as_sums (If k c a b) = If k (inner_as_sums c) (all_as_sums a) (all_as_sums b)
all_as_sums (While k at c body) = While k at (inner_as_sums c) (all_as_sums body)
all_as_sums (Do k at body c) = Do k at (all_as_sums body) (inner_as_sums c)
all_as_sums (InBfs k at s test body) = InBfs k at s (as_sums test) (body_as_sums body)
all_as_sums (InBfsBoth k at s test body back_key back_test back) = InBfsBoth k at s (as_sums test) (body_as_sums body) back_key (as_sums back_test) (body_as_sums back)
all_as_sums (Return k at e) = Return k at (option_map inner_as_sums e)
all_as_sums s = s

-- whether all stands so that hoisting keeps the order of faults, whatever becomes a loop before
abbrev pub stands_throughout : Program → Bool
stands_throughout p = is_ordered (record p { body = all_as_sums p.body }) && loops_stand p.body
