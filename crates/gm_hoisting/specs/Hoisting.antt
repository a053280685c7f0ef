-- Reductions in expressions of parallel bodies, each as an inner loop onto a local in front of its statement.
use Rattle.std.specs.Prelude.{ℕ, suc, if◌then◌else◌, ◌+◌, nat_eq, Bool, true, false, ◌&&◌, ◌||◌, pos, List, [], ◌∷◌, ◌++◌, map, length, Some}
use Rattle.gm_value.specs.declared.reductions.Reduce.TheVariants as R
use Rattle.gm_value.specs.declared.values.VType.{VType}
use Rattle.gm_value.specs.declared.values.VType.TheVariants as V
use Rattle.gm_value.specs.declared.values.Value.TheVariants.{Flag}
use Rattle.gm_value.specs.Numbers.{value_at}
use Rattle.gm_value.specs.Reductions.{reduces}
use Rattle.gm_ast.specs.declared.surface.ReductionWord.{ReductionWord}
use Rattle.gm_ast.specs.declared.surface.ReductionWord.TheVariants.{Count}
use Rattle.gm_ast.specs.declared.tree.Declaration.{Declaration}
use Rattle.gm_ast.specs.declared.tree.Fold.{Fold}
use Rattle.gm_ast.specs.declared.tree.Head.{Head}
use Rattle.gm_ast.specs.declared.tree.Key.{Key}
use Rattle.gm_ast.specs.declared.tree.Search.{Search}
use Rattle.gm_ast.specs.declared.tree.Sort.TheVariants as Sorts
use Rattle.gm_ast.specs.declared.tree.Stage.TheVariants.{Inner}
use Rattle.gm_ast.specs.declared.tree.Target.TheVariants as T
use Rattle.gm_ast.specs.Keys.{Fault, stage_rank, fault_lt}
use Rattle.gm_ast.specs.Ways.{is_in}
use Rattle.gm_ast.specs.Program.{Expr, always, Const, Live, Unary, Binary, Both, Either, Choose, Folded, Stmt, Skip, Then, Declare, Assign, Defer, Combine, Foreach, For, If, While, Do, InBfs, InBfsBoth, Program, sequence}
use Rattle.gm_semantics.specs.Expressions.{reduce_of}
use Rattle.gm_forms.specs.Order.{fault_of, first_key, rest_in, takes_conditions}
use Rattle.gm_desugar.specs.Conditions.{nowhere, fresh, asked}
use Rattle.gm_reductions.specs.Folds.{unit_for}

-- a variable that no text declares: a local of the body of a parallel loop, without a name
abbrev pub local : VType → Declaration
local t = record { name = []; variable = record { sort = Sorts.Scalar; vtype = t; depth = 1 } }

-- how many reductions an expression has
abbrev pub count_folds : Expr → ℕ
count_folds (Folded f h test e) = 1
count_folds (Unary op at e) = count_folds e
count_folds (Binary op at a b) = count_folds a + count_folds b
count_folds (Both a b) = count_folds a + count_folds b
count_folds (Either a b) = count_folds a + count_folds b
count_folds (Choose c a b) = count_folds c + (count_folds a + count_folds b)
count_folds e = 0

abbrev pub count_all : List Expr → ℕ
count_all [] = 0
count_all (e ∷ es) = count_folds e + count_all es

-- whether it has none
abbrev pub has_none : Expr → Bool
has_none e = nat_eq (count_folds e) 0

-- their types, from left to right
abbrev pub fold_types : Expr → List VType
fold_types (Folded f h test e) = f.vtype ∷ []
fold_types (Unary op at e) = fold_types e
fold_types (Binary op at a b) = fold_types a ++ fold_types b
fold_types (Both a b) = fold_types a ++ fold_types b
fold_types (Either a b) = fold_types a ++ fold_types b
fold_types (Choose c a b) = fold_types c ++ (fold_types a ++ fold_types b)
fold_types e = []

abbrev pub all_types : List Expr → List VType
all_types [] = []
all_types (e ∷ es) = fold_types e ++ all_types es

-- whether two keys are one
abbrev pub key_eq : Key → Key → Bool
key_eq a b = nat_eq a.statement b.statement && nat_eq (stage_rank a.stage) (stage_rank b.stage)

-- whether the braces of a reduction may stand in the filter of its loop: those of a count, where both have one key
abbrev pub joins : ReductionWord → Fold → Bool
joins Count f = key_eq f.filter f.body
joins word f = false

-- the filter of a reduction's loop
abbrev pub passing : (joined : Bool) → (test body : Expr) → Expr
passing true test e = Both test e
passing false test e = test

-- a one for the count of a local
abbrev pub adds : ℕ → Fold → Stmt
adds x f = Combine f.body f.total R.Sum (T.Scalar x nowhere ∷ []) (Const (value_at f.vtype (pos 1)) ∷ [])

-- what an element that passes gives to the local: a count a 1 where the braces hold, any other reduction its value
abbrev pub giving : (joined : Bool) → ReductionWord → ℕ → Fold → Expr → Stmt
giving true word x f e = adds x f
giving false Count x f e = If f.body e (adds x f) Skip
giving false word x f e = Combine f.body f.total (reduce_of word) (T.Scalar x nowhere ∷ []) (e ∷ [])

-- a reduction as a loop onto a local
abbrev pub looped : ℕ → Fold → Head → Expr → Expr → Stmt
looped x f h test e = Foreach f.filter f.total.shown h (passing (joins f.word f) test e) (giving (joins f.word f) f.word x f e)

-- the later of two faults, and the latest of some
abbrev pub later_of : Fault → Fault → Fault
later_of f g = if fault_lt f g then g else f

abbrev pub latest_of : Fault → List Fault → Fault
latest_of f [] = f
latest_of f (g ∷ gs) = latest_of (later_of f g) gs

-- whether a reduction of conditions has no braces: each element that passes gives True
abbrev pub is_bare : Fold → Expr → Bool
is_bare f (Const (Flag true)) = takes_conditions f.word && reduces (reduce_of f.word) f.vtype
is_bare f e = false

-- a reduction with the key and the place of its total right behind a fault
abbrev pub total_behind : Fold → Fault → Fold
total_behind f g = record f { total = record { key = g.key; place = record { line = g.place.line; col = suc g.place.col }; shown = f.total.shown } }

abbrev pub placed_if : (bare : Bool) → Fold → Head → Expr → Fold
placed_if true f h test = total_behind f (latest_of (fault_of f.filter h.place) (rest_in test f.filter))
placed_if false f h test = f

-- the reduction that a loop stands for. Without braces its total stands at the word, before the faults of its range and its filter; it never faults, and as that of the loop's statement it stands right behind them
abbrev pub placed : Fold → Head → Expr → Expr → Fold
placed f h test e = placed_if (is_bare f e) f h test

-- a local set to what a reduction gives over nothing, and the loop that takes the total
abbrev pub fold_set : ℕ → Key → Fold → Head → Expr → Expr → List Stmt
fold_set n k f h test e = Declare k n (Some (Const (unit_for f))) ∷ looped n f h test e ∷ []

-- the locals of an expression's reductions, from a number on: each is set to what its reduction gives over nothing, and then takes the total
abbrev pub folds_set : ℕ → Key → Expr → List Stmt
folds_set n k (Folded f h test e) = fold_set n k (placed f h test e) h test e
folds_set n k (Unary op at e) = folds_set n k e
folds_set n k (Binary op at a b) = folds_set n k a ++ folds_set (n + count_folds a) k b
folds_set n k (Both a b) = folds_set n k a ++ folds_set (n + count_folds a) k b
folds_set n k (Either a b) = folds_set n k a ++ folds_set (n + count_folds a) k b
folds_set n k (Choose c a b) = folds_set n k c ++ (folds_set (n + count_folds c) k a ++ folds_set ((n + count_folds c) + count_folds a) k b)
folds_set n k e = []

abbrev pub all_set : ℕ → Key → List Expr → List Stmt
all_set n k [] = []
all_set n k (e ∷ es) = folds_set n k e ++ all_set (n + count_folds e) k es

-- the expression with the locals in place of its reductions
abbrev pub told_from : ℕ → Expr → Expr
told_from n (Folded f h test e) = asked n
told_from n (Unary op at e) = Unary op at (told_from n e)
told_from n (Binary op at a b) = Binary op at (told_from n a) (told_from (n + count_folds a) b)
told_from n (Both a b) = Both (told_from n a) (told_from (n + count_folds a) b)
told_from n (Either a b) = Either (told_from n a) (told_from (n + count_folds a) b)
told_from n (Choose c a b) = Choose (told_from n c) (told_from (n + count_folds c) a) (told_from ((n + count_folds c) + count_folds a) b)
told_from n e = e

abbrev pub all_told : ℕ → List Expr → List Expr
all_told n [] = []
all_told n (e ∷ es) = told_from n e ∷ all_told (n + count_folds e) es

-- a statement behind others
abbrev pub behind : List Stmt → Stmt → Stmt
behind [] s = s
behind (x ∷ xs) s = sequence ((x ∷ xs) ++ (s ∷ []))

-- how many locals the reductions of an outer body take
abbrev pub count_body : Stmt → ℕ
count_body (Then a b) = count_body a + count_body b
count_body (Declare k x (Some e)) = count_folds e
count_body (Assign k t e) = count_folds e
count_body (Defer k t e) = count_folds e
count_body (Combine k total r ts es) = count_all es
count_body (If k c a b) = count_folds c + (count_body a + count_body b)
count_body s = 0

-- the types of these locals
abbrev pub body_types : Stmt → List VType
body_types (Then a b) = body_types a ++ body_types b
body_types (Declare k x (Some e)) = fold_types e
body_types (Assign k t e) = fold_types e
body_types (Defer k t e) = fold_types e
body_types (Combine k total r ts es) = all_types es
body_types (If k c a b) = fold_types c ++ (body_types a ++ body_types b)
body_types s = []

-- an outer body with its reductions as loops onto locals from a number on. Inner loops have none
abbrev pub body_out : ℕ → Stmt → Stmt
body_out n (Then a b) = Then (body_out n a) (body_out (n + count_body a) b)
body_out n (Declare k x (Some e)) = behind (folds_set n k e) (Declare k x (Some (told_from n e)))
body_out n (Assign k t e) = behind (folds_set n k e) (Assign k t (told_from n e))
body_out n (Defer k t e) = behind (folds_set n k e) (Defer k t (told_from n e))
body_out n (Combine k total r ts es) = behind (all_set n k es) (Combine k total r ts (all_told n es))
body_out n (If k c a b) =
    behind (folds_set n k c) (If k (told_from n c) (body_out (n + count_folds c) a) (body_out ((n + count_folds c) + count_body a) b))
body_out n s = s

-- a loop's filter where nothing is hoisted out of it, else none
abbrev pub filter_left : (none : Bool) → Expr → Expr
filter_left true test = test
filter_left false test = always

-- the key of a loop over nodes: without a filter it comes before all
abbrev pub loop_key : (none : Bool) → Key → Key
loop_key true k = k
loop_key false k = first_key

-- the key of a search without a filter comes before its reductions
abbrev pub search_key : (none : Bool) → Key → Key
search_key true k = k
search_key false k = record { statement = k.statement; stage = Inner }

-- a body under the filter of its loop, behind the filter's reductions
abbrev pub under : (none : Bool) → ℕ → Key → Expr → Stmt → Stmt
under true n k test body = body
under false n k test body = behind (folds_set n k test) (If k (told_from n test) body Skip)

-- a loop's body with its reductions and those of its filter as loops
abbrev pub opened : ℕ → Key → Expr → Stmt → Stmt
opened n k test body = under (has_none test) n k test (body_out (n + count_folds test) body)

-- whether the root of a search needs no check: where the key stays, and where the root is an iterator of a For around, which always holds a node
abbrev pub is_sure : List ℕ → Search → (test : Expr) → Bool
is_sure its s test = has_none test || is_in its s.root

-- a search behind the check of its root, under the key that it had
abbrev pub root_checked : (sure : Bool) → ℕ → Key → Search → Stmt → Stmt
root_checked true n k s t = t
root_checked false n k s t = sequence (Assign k (T.Scalar n nowhere) (Live s.root s.place) ∷ t ∷ [])

-- how many variables the check takes
abbrev pub count_check : (sure : Bool) → ℕ
count_check true = 0
count_check false = 1

abbrev pub check_added : (sure : Bool) → List Declaration
check_added true = []
check_added false = fresh V.Node ∷ []

-- how many variables a loop takes, and which
abbrev pub count_loop : Expr → Stmt → ℕ
count_loop test body = count_folds test + count_body body

abbrev pub loop_added : Expr → Stmt → List Declaration
loop_added test body = map local (fold_types test ++ body_types body)

-- how many variables a part of a sequential phase takes inside some Fors, of which the iterators are given, and which
abbrev pub count_phase : List ℕ → Stmt → ℕ
count_phase its (Then a b) = count_phase its a + count_phase its b
count_phase its (Foreach k at h test body) = count_loop test body
count_phase its (For k at h test body) = count_phase (h.iterator ∷ its) body
count_phase its (If k c a b) = count_phase its a + count_phase its b
count_phase its (While k at c body) = count_phase its body
count_phase its (Do k at body c) = count_phase its body
count_phase its (InBfs k at s test body) = count_check (is_sure its s test) + count_loop test body
count_phase its (InBfsBoth k at s test body back_key back_test back) = count_check (is_sure its s test) + (count_loop test body + count_loop back_test back)
count_phase its s = 0

abbrev pub phase_added : List ℕ → Stmt → List Declaration
phase_added its (Then a b) = phase_added its a ++ phase_added its b
phase_added its (Foreach k at h test body) = loop_added test body
phase_added its (For k at h test body) = phase_added (h.iterator ∷ its) body
phase_added its (If k c a b) = phase_added its a ++ phase_added its b
phase_added its (While k at c body) = phase_added its body
phase_added its (Do k at body c) = phase_added its body
phase_added its (InBfs k at s test body) = check_added (is_sure its s test) ++ loop_added test body
phase_added its (InBfsBoth k at s test body back_key back_test back) = check_added (is_sure its s test) ++ (loop_added test body ++ loop_added back_test back)
phase_added its s = []

-- a part of a sequential phase with the reductions of its parallel loops and searches as inner loops, onto variables from a number on
abbrev pub phase_out : List ℕ → ℕ → Stmt → Stmt
phase_out its n (Then a b) = Then (phase_out its n a) (phase_out its (n + count_phase its a) b)
phase_out its n (Foreach k at h test body) = Foreach (loop_key (has_none test) k) at h (filter_left (has_none test) test) (opened n k test body)
phase_out its n (For k at h test body) = For k at h test (phase_out (h.iterator ∷ its) n body)
phase_out its n (If k c a b) = If k c (phase_out its n a) (phase_out its (n + count_phase its a) b)
phase_out its n (While k at c body) = While k at c (phase_out its n body)
phase_out its n (Do k at body c) = Do k at (phase_out its n body) c
phase_out its n (InBfs k at s test body) =
    let m = n + count_check (is_sure its s test) in
    root_checked (is_sure its s test) n k s (InBfs (search_key (has_none test) k) at s (filter_left (has_none test) test) (opened m k test body))
phase_out its n (InBfsBoth k at s test body back_key back_test back) =
    let m = n + count_check (is_sure its s test) in
    root_checked (is_sure its s test) n k s
    (InBfsBoth (search_key (has_none test) k) at s (filter_left (has_none test) test) (opened m k test body)
    (search_key (has_none back_test) back_key) (filter_left (has_none back_test) back_test) (opened (m + count_loop test body) back_key back_test back))
phase_out its n s = s

-- a program without reductions in the filters and bodies of its parallel loops, but for those of group assignments
abbrev pub without_inner_folds : Program → Program
without_inner_folds p = record p { declarations = p.declarations ++ phase_added [] p.body; body = phase_out [] (length p.declarations) p.body }
