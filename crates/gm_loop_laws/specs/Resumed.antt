-- The law of an inner loop that goes on behind another: of what that one evaluated without a fault, only what is needed is evaluated again.
use Rattle.std.specs.Prelude.{◌≡◌, ◌≤◌, ℕ, Bool, true, false, ◌&&◌, ◌||◌, not, if◌then◌else◌, List, [], ◌∷◌, ◌++◌, Some, None}
use Rattle.std.specs.List.{list_any}
use Rattle.gm_base.specs.declared.places.Place.{Place}
use Rattle.gm_ast.specs.declared.tree.Declaration.{Declaration}
use Rattle.gm_ast.specs.declared.tree.Head.{Head}
use Rattle.gm_ast.specs.declared.tree.Key.{Key}
use Rattle.gm_ast.specs.declared.tree.Target.TheVariants as T
use Rattle.gm_ast.specs.Program.{Expr, Property, Both, Stmt, Skip, Then, Declare, DeclareEdge, Assign, Foreach, If}
use Rattle.gm_ast.specs.Ways.{is_in}
use Rattle.gm_semantics.specs.Stores.{Store}
use Rattle.gm_semantics.specs.Iterations.{Loop}
use Rattle.gm_semantics.specs.Frames.{ReadsBelow, NamesBelow}
use Rattle.gm_forms.specs.Cut.{spares_locals, keeps_iterators}
use Rattle.gm_forms.specs.Forms.{is_outer_body}
use Rattle.gm_forms.specs.Order.{lie_before, faults_in, faults_of}
use Rattle.gm_forms.specs.Sharing.{told_in, sights_of, written, reduced, read_anywhere, disjoint}
use Rattle.gm_forms.specs.Fission.{Knows}
use Rattle.gm_loop_laws.specs.Alone.{stands_alone}
use Rattle.gm_loop_laws.specs.Inner.{given_by, all_stand_before}
use Rattle.gm_loop_laws.specs.Saved.{never_writes}
use Rattle.gm_loop_laws.specs.Masks.{looped, in_turn, SameChange, is_certain, spares, is_stable}

-- whether a part of an inner body only sets locals, by what cannot fault. its: the iterators around
abbrev pub is_still : List ℕ → Stmt → Bool
is_still its Skip = true
is_still its (Then a b) = is_still its a && is_still its b
is_still its (Declare k x None) = true
is_still its (Declare k x (Some e)) = is_certain its e
is_still its (DeclareEdge x y at) = true
is_still its (Assign k (T.Scalar x at) e) = is_certain its e
is_still its (If k c a b) = is_certain its c && (is_still its a && is_still its b)
is_still its _ = false

-- ds: the table; its: the iterators around; n: the outer one. new: whether a part is evaluated for the first time, and not again
module _ (ds : List Declaration) (its : List ℕ) (n : ℕ) where
  -- whether a part serves where some variables are needed behind it: it sets one, or is new and does more than set
  abbrev pub serves : Bool → List ℕ → Stmt → Bool
  serves new xs s = list_any (is_in xs) (written ds n true s) || (new && not (is_still its s))

  -- the variables that are needed from a part on, where some are behind it
  abbrev pub needs : Bool → Stmt → List ℕ → List ℕ
  needs new Skip xs = xs
  needs new (Then a b) xs = needs new a (needs new b xs)
  needs new (DeclareEdge x y at) xs = xs
  needs new (If k c a b) xs = if serves new xs (If k c a b) then told_in c ++ (needs new a xs ++ needs new b xs) else xs
  needs new s xs = if serves new xs s then (sights_of ds n true s).scalars ++ xs else xs

  -- what of it is evaluated then
  abbrev pub kept : Bool → Stmt → List ℕ → Stmt
  kept new Skip xs = Skip
  kept new (Then a b) xs = Then (kept new a (needs new b xs)) (kept new b xs)
  kept new (DeclareEdge x y at) xs = DeclareEdge x y at
  kept new (If k c a b) xs = if serves new xs (If k c a b) then If k c (kept new a xs) (kept new b xs) else Skip
  kept new s xs = if serves new xs s then s else Skip

  -- an inner body that goes on behind another: what it needs of that, and what is new
  abbrev pub resumed : Stmt → Stmt → Stmt
  resumed a b = Then (kept false a (needs true b [])) (kept true b [])

-- whether an inner loop that is a whole body may be cut between two parts of its own, of which the second one evaluates again what it needs of the first alone: as where an inner loop is cut in two, but what the first part gives is neither needed nor read by what is evaluated then
abbrev pub may_resume : List Declaration → List ℕ → ℕ → ℕ → Place → Key → Place → Head → Expr → Stmt → Stmt → Bool
may_resume ds some n m at k here h test a b =
    let its = n ∷ h.iterator ∷ [] in
    let ends = h.iterator ∷ n ∷ [] in
    let given = given_by ds n a in
    let rest = resumed ds its n a b in
    let filters = Both (Property n m at) test in
    is_outer_body ds false n (Foreach k here h test (Then a b)) && (is_outer_body ds false n (Foreach k here h test rest)
    && (stands_alone ds some n (Then a b) && (stands_alone ds some n a && (stands_alone ds some n rest
    && (spares_locals ds (Then a b) && (spares_locals ds rest && (never_writes n (Then a b)
    && (lie_before (faults_in filters k ++ faults_of ends a) (faults_of ends b)
    && (all_stand_before (reduced ds n true a) (reduced ds n true b) && (spares given filters
    && (disjoint given (needs ds its n false a (needs ds its n true b []) ++ read_anywhere (sights_of ds n true rest).properties) && keeps_iterators (Foreach k here h test (Then a b)))))))))))))

-- such a loop is the loop of the first part, and then that of what is evaluated then
abbrev pub InnerLoopsResume : Type 0
InnerLoopsResume = (ds : List Declaration) (some : List ℕ) (loop : Loop) (m : ℕ) (key k : Key) (at here : Place) (h : Head) (test : Expr) (a b : Stmt) (s : Store) →
    let n = loop.outer in
    Knows ds some loop → may_resume ds some n m at k here h test a b ≡ true →
    looped loop key (Property n m at) (Foreach k here h test (Then a b)) s
    ≡ in_turn (looped loop key (Property n m at) (Foreach k here h test a)) (looped loop key (Property n m at) (Foreach k here h test (resumed ds (n ∷ h.iterator ∷ []) n a b))) s

-- so is one under a mask that stays over the first loop. m is a property of which neither the mask nor the body knows
abbrev pub MaskedInnerLoopsResume : Type 0
MaskedInnerLoopsResume = (j : ℕ) (ds : List Declaration) (some : List ℕ) (loop : Loop) (m : ℕ) (key k : Key) (at here : Place) (h : Head) (mask test : Expr) (a b : Stmt) →
    let n = loop.outer in
    Knows ds some loop → j ≤ m → ReadsBelow j mask → NamesBelow j (Foreach k here h test (Then a b)) →
    may_resume ds some n m at k here h test a b ≡ true → is_stable n (Foreach k here h test a) mask ≡ true →
    SameChange j (looped loop key mask (Foreach k here h test (Then a b))) (in_turn (looped loop key mask (Foreach k here h test a)) (looped loop key mask (Foreach k here h test (resumed ds (n ∷ h.iterator ∷ []) n a b))))

-- ---- an inner loop alone

-- whether an inner loop that is a whole body may be evaluated without what nothing behind it needs: both stand alone, and the iterators are kept
abbrev pub may_trim : List Declaration → List ℕ → ℕ → Key → Place → Head → Expr → Stmt → Bool
may_trim ds some n k here h test body =
    let rest = kept ds (n ∷ h.iterator ∷ []) n true body [] in
    is_outer_body ds false n (Foreach k here h test body) && (is_outer_body ds false n (Foreach k here h test rest)
    && (stands_alone ds some n body && (stands_alone ds some n rest && (spares_locals ds body && (spares_locals ds rest && (never_writes n body && keeps_iterators (Foreach k here h test body)))))))

abbrev pub InnerLoopsTrim : Type 0
InnerLoopsTrim = (ds : List Declaration) (some : List ℕ) (loop : Loop) (m : ℕ) (key k : Key) (at here : Place) (h : Head) (test : Expr) (body : Stmt) (s : Store) →
    let n = loop.outer in
    Knows ds some loop → may_trim ds some n k here h test body ≡ true →
    looped loop key (Property n m at) (Foreach k here h test body) s ≡ looped loop key (Property n m at) (Foreach k here h test (kept ds (n ∷ h.iterator ∷ []) n true body [])) s

-- so is one under a mask
abbrev pub MaskedInnerLoopsTrim : Type 0
MaskedInnerLoopsTrim = (j : ℕ) (ds : List Declaration) (some : List ℕ) (loop : Loop) (m : ℕ) (key k : Key) (at here : Place) (h : Head) (mask test : Expr) (body : Stmt) →
    let n = loop.outer in
    Knows ds some loop → j ≤ m → ReadsBelow j mask → NamesBelow j (Foreach k here h test body) → may_trim ds some n k here h test body ≡ true → is_certain (n ∷ []) mask ≡ true →
    SameChange j (looped loop key mask (Foreach k here h test body)) (looped loop key mask (Foreach k here h test (kept ds (n ∷ h.iterator ∷ []) n true body [])))
