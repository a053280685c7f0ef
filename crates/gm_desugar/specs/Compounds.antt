-- Compound assignments, reductions that are done at once, written as assignments.
use Rattle.std.specs.Prelude.{ℕ, Bool, true, false, not, ◌&&◌, ◌||◌, if◌then◌else◌, List, [], ◌∷◌}
use Rattle.gm_base.specs.declared.places.Place.{Place}
use Rattle.gm_value.specs.declared.operations.Op2.TheVariants.{Add, Mul}
use Rattle.gm_value.specs.declared.reductions.Reduce.{Reduce}
use Rattle.gm_value.specs.declared.reductions.Reduce.TheVariants.{Sum, Product, And}
use Rattle.gm_ast.specs.declared.tree.Declaration.{Declaration}
use Rattle.gm_ast.specs.declared.tree.Key.{Key}
use Rattle.gm_ast.specs.declared.tree.Target.{Target}
use Rattle.gm_ast.specs.declared.tree.TotalKey.{TotalKey}
use Rattle.gm_ast.specs.Program.{Expr, Binary, Both, Either, Stmt, Then, Assign, Combine, Foreach, For, If, While, Do, InBfs, InBfsBoth, Program}
use Rattle.gm_semantics.specs.Iterations.{target_value}
use Rattle.gm_forms.specs.Sharing.{are_at_once}
use Rattle.gm_forms.specs.Typing.{keeps_tuples}

-- a value with another by the operator of a reduction that does not pick: `+`, `*`, `&&` or `||`
abbrev pub operated : Reduce → Place → Expr → Expr → Expr
operated Sum at a b = Binary Add at a b
operated Product at a b = Binary Mul at a b
operated And at a b = Both a b
operated r at a b = Either a b

-- a reduction that is done at once: `x op= e` is `x = x op e` word for word, with the operator at the reduction's token. One that picks stands as it is
abbrev pub assignment_of : Key → TotalKey → Reduce → List Target → List Expr → Stmt
assignment_of k total r (t ∷ []) (e ∷ []) =
    if keeps_tuples r then Combine k total r (t ∷ []) (e ∷ []) else Assign k t (operated r total.place (target_value t) e)
assignment_of k total r ts es = Combine k total r ts es

-- a body of a parallel loop, outer or inner, with each reduction that is done at once so
abbrev pub expanded_in : List Declaration → ℕ → Bool → Stmt → Stmt
expanded_in ds n inner (Then a b) = Then (expanded_in ds n inner a) (expanded_in ds n inner b)
expanded_in ds n inner (Combine k total r ts es) = (if are_at_once ds n inner ts then assignment_of k total r ts es else Combine k total r ts es)
expanded_in ds n inner (If k c a b) = If k c (expanded_in ds n inner a) (expanded_in ds n inner b)
expanded_in ds n inner (Foreach k at h test body) = Foreach k at h test (expanded_in ds n true body)
expanded_in ds n inner s = s

-- a sequential phase, in which every reduction is done at once
abbrev pub expanded : List Declaration → Stmt → Stmt
expanded ds (Then a b) = Then (expanded ds a) (expanded ds b)
expanded ds (Combine k total r ts es) = assignment_of k total r ts es
expanded ds (Foreach k at h test body) = Foreach k at h test (expanded_in ds h.iterator false body)
expanded ds (For k at h test s) = For k at h test (expanded ds s)
expanded ds (If k c a b) = If k c (expanded ds a) (expanded ds b)
expanded ds (While k at c s) = While k at c (expanded ds s)
expanded ds (Do k at s c) = Do k at (expanded ds s) c
expanded ds (InBfs k at search test body) = InBfs k at search test (expanded_in ds search.iterator false body)
expanded ds (InBfsBoth k at search test body back_key back_test back) =
    InBfsBoth k at search test (expanded_in ds search.iterator false body) back_key back_test (expanded_in ds search.iterator false back)
expanded ds s = s

-- a program without compound assignments
abbrev pub without_compounds : Program → Program
without_compounds p = record p { body = expanded p.declarations p.body }

-- whether nothing is reduced at once in a body but by picks
abbrev pub has_no_compounds_in : List Declaration → ℕ → Bool → Stmt → Bool
has_no_compounds_in ds n inner (Then a b) = has_no_compounds_in ds n inner a && has_no_compounds_in ds n inner b
has_no_compounds_in ds n inner (Combine k total r ts es) = not (are_at_once ds n inner ts) || keeps_tuples r
has_no_compounds_in ds n inner (If k c a b) = has_no_compounds_in ds n inner a && has_no_compounds_in ds n inner b
has_no_compounds_in ds n inner (Foreach k at h test body) = has_no_compounds_in ds n true body
has_no_compounds_in ds n inner s = true

-- the same of a sequential phase and its loops
abbrev pub has_no_compounds : List Declaration → Stmt → Bool
has_no_compounds ds (Then a b) = has_no_compounds ds a && has_no_compounds ds b
has_no_compounds ds (Combine k total r ts es) = keeps_tuples r
has_no_compounds ds (Foreach k at h test body) = has_no_compounds_in ds h.iterator false body
has_no_compounds ds (For k at h test s) = has_no_compounds ds s
has_no_compounds ds (If k c a b) = has_no_compounds ds a && has_no_compounds ds b
has_no_compounds ds (While k at c s) = has_no_compounds ds s
has_no_compounds ds (Do k at s c) = has_no_compounds ds s
has_no_compounds ds (InBfs k at search test body) = has_no_compounds_in ds search.iterator false body
has_no_compounds ds (InBfsBoth k at search test body back_key back_test back) =
    has_no_compounds_in ds search.iterator false body && has_no_compounds_in ds search.iterator false back
has_no_compounds ds s = true
