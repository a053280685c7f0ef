-- The law of an inner loop that is cut in two.
use Rattle.std.specs.Prelude.{◌≡◌, ◌≤◌, ℕ, nat_lt, Bool, true, false, ◌&&◌, ◌||◌, not, if◌then◌else◌, List, [], ◌∷◌, ◌++◌}
use Rattle.std.specs.List.{list_all}
use Rattle.gm_base.specs.declared.places.Place.{Place}
use Rattle.gm_ast.specs.declared.tree.Declaration.{Declaration}
use Rattle.gm_ast.specs.declared.tree.Head.{Head}
use Rattle.gm_ast.specs.declared.tree.Key.{Key}
use Rattle.gm_ast.specs.declared.tree.Target.{Target}
use Rattle.gm_ast.specs.declared.tree.Target.TheVariants as T
use Rattle.gm_ast.specs.Program.{Expr, Property, Both, Stmt, Skip, Then, Declare, Assign, Combine, Foreach, If}
use Rattle.gm_ast.specs.Ways.{is_in}
use Rattle.gm_semantics.specs.Stores.{Store}
use Rattle.gm_semantics.specs.Iterations.{Loop}
use Rattle.gm_semantics.specs.Frames.{ReadsBelow, NamesBelow}
use Rattle.gm_forms.specs.Cut.{spares_locals, keeps_iterators}
use Rattle.gm_forms.specs.Forms.{is_outer_body}
use Rattle.gm_forms.specs.Order.{lie_before, faults_in, faults_of}
use Rattle.gm_forms.specs.Sharing.{are_at_once, variables_of, Reduced, reduced, disjoint}
use Rattle.gm_forms.specs.Fission.{Knows}
use Rattle.gm_loop_laws.specs.Alone.{stands_alone}
use Rattle.gm_loop_laws.specs.Saved.{never_writes}
use Rattle.gm_loop_laws.specs.Masks.{looped, in_turn, SameChange, spares, is_stable}
use Rattle.gm_loop_laws.specs.Slices.{spares_target, spares_option}

-- an inner body that evaluates what another does, and gives nothing
abbrev pub quiet : List Declaration → ℕ → Stmt → Stmt
quiet ds n (Then a b) = Then (quiet ds n a) (quiet ds n b)
quiet ds n (Combine k total r ts es) = if are_at_once ds n true ts then Combine k total r ts es else Skip
quiet ds n (If k c a b) = If k c (quiet ds n a) (quiet ds n b)
quiet ds n s = s

-- the variables to which an inner body's reductions go that end with a loop
abbrev pub given_by : List Declaration → ℕ → Stmt → List ℕ
given_by ds n (Then a b) = given_by ds n a ++ given_by ds n b
given_by ds n (Combine k total r ts es) = if are_at_once ds n true ts then [] else variables_of ts
given_by ds n (If k c a b) = given_by ds n a ++ given_by ds n b
given_by ds n (Foreach k at h test body) = given_by ds n body
given_by ds n _ = []

-- whether a reduction stands before some others to one of its variables, under a lesser number
abbrev pub stands_before : Reduced → List Reduced → Bool
stands_before a [] = true
stands_before a (b ∷ bs) = (disjoint a.variables b.variables || nat_lt a.number b.number) && stands_before a bs

abbrev pub all_stand_before : List Reduced → List Reduced → Bool
all_stand_before [] bs = true
all_stand_before (a ∷ rest) bs = stands_before a bs && all_stand_before rest bs

-- gone: variables that may differ; its: the iterators around
-- whether a target is no iterator, and not reached through one of the variables
abbrev pub is_reached : List ℕ → List ℕ → Target → Bool
is_reached gone its (T.Scalar x at) = not (is_in its x)
is_reached gone its (T.Property x p at) = not (is_in gone x)

-- whether an inner body reads none of the variables, to which it may give, and writes no iterator
abbrev pub reads_none : List Declaration → ℕ → List ℕ → List ℕ → Stmt → Bool
reads_none ds n gone its (Then a b) = reads_none ds n gone its a && reads_none ds n gone its b
reads_none ds n gone its (Declare k x e) = not (is_in its x) && spares_option gone e
reads_none ds n gone its (Assign k t e) = is_reached gone its t && spares gone e
reads_none ds n gone its (Combine k total r ts es) =
    list_all (if are_at_once ds n true ts then spares_target gone its else is_reached gone its) ts && list_all (spares gone) es
reads_none ds n gone its (If k c a b) = spares gone c && (reads_none ds n gone its a && reads_none ds n gone its b)
reads_none ds n gone its _ = true

-- whether an inner loop that is a whole body may be cut between two parts of its own: it stands alone, as both loops will; the faults of the filter and of the first part come before those of the second; where both give to one variable, the first part does so under lesser numbers; what it gives is read by neither, nor by the filter; and the inner iterator is kept
abbrev pub may_cut_inner : List Declaration → List ℕ → ℕ → ℕ → Place → Key → Place → Head → Expr → Stmt → Stmt → Bool
may_cut_inner ds some n m at k here h test a b =
    let given = given_by ds n a in
    let rest = Then (quiet ds n a) b in
    let filters = Both (Property n m at) test in
    is_outer_body ds false n (Foreach k here h test (Then a b)) && (is_outer_body ds false n (Foreach k here h test rest)
    && (stands_alone ds some n (Then a b) && (stands_alone ds some n a && (stands_alone ds some n rest
    && (spares_locals ds (Then a b) && (spares_locals ds rest && (never_writes n (Then a b)
    && (lie_before (faults_in filters k ++ faults_of (h.iterator ∷ n ∷ []) a) (faults_of (h.iterator ∷ n ∷ []) b)
    && (all_stand_before (reduced ds n true a) (reduced ds n true b) && (not (is_in given n)
    && (spares given filters && (reads_none ds n given (n ∷ h.iterator ∷ []) rest && keeps_iterators (Foreach k here h test (Then a b))))))))))))))

-- such a loop is the loop of the first part, and then that of the second one, which evaluates the first one again and gives nothing of it
abbrev pub InnerLoopsCut : Type 0
InnerLoopsCut = (ds : List Declaration) (some : List ℕ) (loop : Loop) (m : ℕ) (key k : Key) (at here : Place) (h : Head) (test : Expr) (a b : Stmt) (s : Store) →
    let n = loop.outer in
    Knows ds some loop → may_cut_inner ds some n m at k here h test a b ≡ true →
    looped loop key (Property n m at) (Foreach k here h test (Then a b)) s
    ≡ in_turn (looped loop key (Property n m at) (Foreach k here h test a)) (looped loop key (Property n m at) (Foreach k here h test (Then (quiet ds n a) b))) s

-- so is one under a mask that stays over the first loop. m is a property of which neither the mask nor the body knows
abbrev pub MaskedInnerLoopsCut : Type 0
MaskedInnerLoopsCut = (j : ℕ) (ds : List Declaration) (some : List ℕ) (loop : Loop) (m : ℕ) (key k : Key) (at here : Place) (h : Head) (mask test : Expr) (a b : Stmt) →
    let n = loop.outer in
    Knows ds some loop → j ≤ m → ReadsBelow j mask → NamesBelow j (Foreach k here h test (Then a b)) →
    may_cut_inner ds some n m at k here h test a b ≡ true → is_stable n (Foreach k here h test a) mask ≡ true →
    SameChange j (looped loop key mask (Foreach k here h test (Then a b))) (in_turn (looped loop key mask (Foreach k here h test a)) (looped loop key mask (Foreach k here h test (Then (quiet ds n a) b))))
