-- Races: accesses of one loop to one variable that a rule forbids.
use Rattle.std.specs.Prelude.{ℕ, nat_eq, Bool, true, false, ◌&&◌, ◌||◌, not, List, [], ◌∷◌, ◌++◌, flat_map}
use Rattle.gm_base.specs.declared.rules.Refusal.{Refusal}
use Rattle.gm_base.specs.declared.rules.Rule.TheVariants.{R1, R2, R3, R4, R5, R6}
use Rattle.gm_base.specs.Places.{place_lt}
use Rattle.gm_value.specs.declared.reductions.Reduce.{Reduce}
use Rattle.gm_value.specs.declared.reductions.Reduce.TheVariants.{Sum, Product, Min, Max, And, Or}
use Rattle.gm_ast.specs.declared.accesses.Operation.{Operation}
use Rattle.gm_ast.specs.declared.accesses.AccessKind.{AccessKind}
use Rattle.gm_ast.specs.declared.accesses.AccessKind.TheVariants.{OwnRead, OtherRead, LevelRead, OwnWrite, StrayWrite, OwnReduce, PushReduce, Deferred}
use Rattle.gm_ast.specs.declared.accesses.Access.{Access}
use Rattle.gm_ast.specs.declared.tree.Declaration.{Declaration}
use Rattle.gm_ast.specs.Program.{Program}
use Rattle.gm_ast.specs.Loops.{any, broken_if, declared_at, is_property}
use Rattle.gm_ast.specs.Accesses.{accesses}

-- whether an access reads the variable at the iteration's own node
abbrev pub is_own_read : AccessKind → Bool
is_own_read OwnRead = true
is_own_read _ = false

-- whether an access reads the variable at a neighbour
abbrev pub is_other_read : AccessKind → Bool
is_other_read OtherRead = true
is_other_read _ = false

-- whether an access reads the variable at a neighbour of another level
abbrev pub is_level_read : AccessKind → Bool
is_level_read LevelRead = true
is_level_read _ = false

-- whether an access writes the variable at the iteration's own node
abbrev pub is_own_write : AccessKind → Bool
is_own_write OwnWrite = true
is_own_write _ = false

-- whether an access writes the variable anywhere else
abbrev pub is_stray : AccessKind → Bool
is_stray StrayWrite = true
is_stray _ = false

-- whether an access is a write that ends with the loop
abbrev pub is_deferred : AccessKind → Bool
is_deferred Deferred = true
is_deferred _ = false

-- whether an access reduces to the variable at the iteration's own node
abbrev pub is_own_reduce : AccessKind → Bool
is_own_reduce (OwnReduce op) = true
is_own_reduce _ = false

-- whether an access reduces to the variable anywhere else
abbrev pub is_push_reduce : AccessKind → Bool
is_push_reduce (PushReduce op) = true
is_push_reduce _ = false

-- whether an access reads
abbrev pub is_read : AccessKind → Bool
is_read k = is_own_read k || (is_other_read k || is_level_read k)

-- whether an access reduces
abbrev pub is_reduce : AccessKind → Bool
is_reduce k = is_own_reduce k || is_push_reduce k

-- whether an access changes the variable when its iteration or inner loop ends, or before
abbrev pub is_own_change : AccessKind → Bool
is_own_change k = is_own_write k || is_own_reduce k

-- whether an access changes the variable before the writes that end with the loop
abbrev pub is_change : AccessKind → Bool
is_change k = is_own_write k || is_reduce k

-- whether two reductions have the same word
abbrev pub reduce_eq : Reduce → Reduce → Bool
reduce_eq Sum Sum = true
reduce_eq Product Product = true
reduce_eq Min Min = true
reduce_eq Max Max = true
reduce_eq And And = true
reduce_eq Or Or = true
reduce_eq _ _ = false

-- whether two lists of variables are the same
abbrev pub variables_eq : List ℕ → List ℕ → Bool
variables_eq [] [] = true
variables_eq [] (y ∷ ys) = false
variables_eq (x ∷ xs) [] = false
variables_eq (x ∷ xs) (y ∷ ys) = nat_eq x y && variables_eq xs ys

-- whether two reduction assignments do the same: the words are the same, and so are the variables that they reduce to
abbrev pub operation_eq : Operation → Operation → Bool
operation_eq a b = reduce_eq a.reduce b.reduce && variables_eq a.targets b.targets

-- whether two reductions do not do the same
abbrev pub differ : AccessKind → AccessKind → Bool
differ (OwnReduce a) (OwnReduce b) = not (operation_eq a b)
differ (OwnReduce a) (PushReduce b) = not (operation_eq a b)
differ (PushReduce a) (OwnReduce b) = not (operation_eq a b)
differ (PushReduce a) (PushReduce b) = not (operation_eq a b)
differ _ _ = false

-- whether two accesses are to one variable in one loop
abbrev pub meet : Access → Access → Bool
meet a b = nat_eq a.variable b.variable && nat_eq a.loop_id b.loop_id

-- whether two accesses are within one inner loop
abbrev pub same_inner : Access → Access → Bool
same_inner a b = nat_eq a.inner_id b.inner_id

-- whether an access does not stand behind another
abbrev pub not_behind : Access → Access → Bool
not_behind a b = not (place_lt b.place a.place)

-- whether one of some accesses that meet this one passes a test
abbrev pub meets : List Access → Access → (Access → Bool) → Bool
meets all b test = any (λ a. meet a b && test a) all

-- R1: a neighbour's value is read, and each iteration may change its own
abbrev pub reads_changed : List Access → Access → Bool
reads_changed all b = is_other_read b.kind && meets all b (λ a. is_own_change a.kind)

-- R2: what others reduce to is read or written
abbrev pub meets_push : List Access → Access → Bool
meets_push all b = (is_read b.kind || is_own_write b.kind) && meets all b (λ a. is_push_reduce a.kind)

-- R2: what an inner loop reduces to is read in it
abbrev pub reads_reduced : List Access → Access → Bool
reads_reduced all b = is_own_read b.kind && meets all b (λ a. is_own_reduce a.kind && same_inner a b)

-- R3: a reduction stands behind one that does something else, of which one goes to other nodes or which both are in one inner loop
abbrev pub mixes : List Access → Access → Bool
mixes all b = meets all b (λ a. differ a.kind b.kind && (not_behind a b && (is_push_reduce a.kind || (is_push_reduce b.kind || same_inner a b))))

-- R6: a write that ends with the loop stands behind another change, or the other way round
abbrev pub mixes_deferred : List Access → Access → Bool
mixes_deferred all b =
    meets all b (λ a. not_behind a b && ((is_deferred a.kind && is_change b.kind) || (is_change a.kind && is_deferred b.kind)))

-- what an access breaks among all accesses
abbrev pub races_at : List Declaration → List Access → Access → List Refusal
races_at ds all b =
    broken_if (reads_changed all b) R1 b.place
    ++ (broken_if (meets_push all b || reads_reduced all b) R2 b.place
    ++ (broken_if (mixes all b) R3 b.place
    ++ (broken_if (is_stray b.kind && is_property (declared_at ds b.variable)) R4 b.place
    ++ (broken_if (is_stray b.kind && not (is_property (declared_at ds b.variable))) R5 b.place
    ++ broken_if (mixes_deferred all b) R6 b.place))))

-- all races among some accesses
abbrev pub races_among : List Declaration → List Access → List Refusal
races_among ds all = flat_map (races_at ds all) all

-- all races of a program
abbrev pub races : Program → List Refusal
races p = races_among p.declarations (accesses p)
