-- The laws of conditions that are the masks of parts of a loop's body.
use Rattle.std.specs.Prelude.{◌≡◌, ◌≤◌, ℕ, Bool, true, false, ◌&&◌, not, List, [], ◌∷◌, ◌++◌, Result}
use Rattle.gm_base.specs.declared.places.Place.{Place}
use Rattle.gm_value.specs.declared.operations.Op1.TheVariants.{Not}
use Rattle.gm_ast.specs.declared.tree.Declaration.{Declaration}
use Rattle.gm_ast.specs.declared.tree.Key.{Key}
use Rattle.gm_ast.specs.Program.{Expr, Const, Var, Property, EdgeProperty, Degree, NodeCount, EdgeCount, Live, Unary, Binary, Both, Either, Choose, Folded, Stmt, Then, Declare, Assign, Defer, Combine, Foreach, If}
use Rattle.gm_ast.specs.Ways.{is_in}
use Rattle.gm_semantics.specs.declared.faults.Fault.{Fault}
use Rattle.gm_semantics.specs.Stores.{Store}
use Rattle.gm_semantics.specs.Faults.{then_with}
use Rattle.gm_semantics.specs.Levels.{nodes}
use Rattle.gm_semantics.specs.Iterations.{Loop}
use Rattle.gm_semantics.specs.Loops.{parallel}
use Rattle.gm_semantics.specs.Frames.{Agree, ReadsBelow, NamesBelow, AlikeStores}
use Rattle.gm_forms.specs.Cut.{touched}
use Rattle.gm_forms.specs.Order.{can_fail1, can_fail2}
use Rattle.gm_forms.specs.Sharing.{written_by, variables_of}
use Rattle.gm_forms.specs.Fission.{Knows, can_cut}

-- what a part of a run makes of a store, or its fault
abbrev pub Change : Type 0
Change = Store → Result Store Fault

-- a parallel loop over all nodes
abbrev pub looped : Loop → Key → Expr → Stmt → Change
looped loop key test body s = parallel loop key test body (nodes loop.graph) s

-- one change, and then another
abbrev pub in_turn : Change → Change → Change
in_turn f g s = then_with (f s) g

-- two changes leave the same fault, or stores that agree, where they begin with stores that agree
abbrev pub SameChange : ℕ → Change → Change → Type 0
SameChange j f g = (s t : Store) → Agree j s t → AlikeStores j (f s) (g t)

-- whether an expression of a body cannot fault: no operator can, and it reads properties and degrees through some iterators alone
abbrev pub is_certain : List ℕ → Expr → Bool
is_certain its (Const v) = true
is_certain its (Var x at) = true
is_certain its (Property x p at) = is_in its x
is_certain its (EdgeProperty x p at) = true
is_certain its (Degree d x at) = is_in its x
is_certain its NodeCount = true
is_certain its EdgeCount = true
is_certain its (Live x at) = is_in its x
is_certain its (Unary op at e) = not (can_fail1 op) && is_certain its e
is_certain its (Binary op at a b) = not (can_fail2 op) && (is_certain its a && is_certain its b)
is_certain its (Both a b) = is_certain its a && is_certain its b
is_certain its (Either a b) = is_certain its a && is_certain its b
is_certain its (Choose c a b) = is_certain its c && (is_certain its a && is_certain its b)
is_certain its (Folded f h test e) = false

-- whether an expression without reductions reads none of some variables
abbrev pub spares : List ℕ → Expr → Bool
spares xs (Const v) = true
spares xs (Var x at) = not (is_in xs x)
spares xs (Property x p at) = not (is_in xs x) && not (is_in xs p)
spares xs (EdgeProperty x p at) = true
spares xs (Degree d x at) = not (is_in xs x)
spares xs NodeCount = true
spares xs EdgeCount = true
spares xs (Live x at) = not (is_in xs x)
spares xs (Unary op at e) = spares xs e
spares xs (Binary op at a b) = spares xs a && spares xs b
spares xs (Both a b) = spares xs a && spares xs b
spares xs (Either a b) = spares xs a && spares xs b
spares xs (Choose c a b) = spares xs c && (spares xs a && spares xs b)
spares xs (Folded f h test e) = false

-- whether an expression is a mask that stays over a part of an outer body: it cannot fault at the loop's own node, and the part writes nothing that it reads, nor the iterator
abbrev pub is_stable : ℕ → Stmt → Expr → Bool
is_stable n a e = is_certain (n ∷ []) e && (not (is_in (touched a) n) && spares (touched a) e)

-- a loop under a mask that stays is cut in two under the same mask. The cut is the one under a saved filter m, a property of which neither the mask nor the body knows; at is a place before their faults
abbrev pub MasksStay : Type 0
MasksStay = (j : ℕ) (ds : List Declaration) (pushed : List ℕ) (loop : Loop) (m : ℕ) (key : Key) (at : Place) (mask : Expr) (a b : Stmt) →
    let n = loop.outer in
    Knows ds pushed loop → j ≤ m → ReadsBelow j mask → NamesBelow j a → NamesBelow j b →
    can_cut ds n m key at pushed a b ≡ true → is_stable n a mask ≡ true →
    SameChange j (looped loop key mask (Then a b)) (in_turn (looped loop key mask a) (looped loop key mask b))

-- an If that is the body of a loop under a mask is the loop of its first branch under the mask and the condition, and then that of its second one under the mask and not the condition, where both stay over the first branch
abbrev pub ConditionsPart : Type 0
ConditionsPart = (j : ℕ) (ds : List Declaration) (pushed : List ℕ) (loop : Loop) (m : ℕ) (key k : Key) (at place : Place) (mask c : Expr) (a b : Stmt) →
    let n = loop.outer in
    Knows ds pushed loop → j ≤ m → ReadsBelow j mask → ReadsBelow j c → NamesBelow j a → NamesBelow j b →
    can_cut ds n m key at pushed a b ≡ true → is_stable n a mask ≡ true → is_stable n a c ≡ true →
    SameChange j (looped loop key mask (If k c a b)) (in_turn (looped loop key (Both mask c) a) (looped loop key (Both mask (Unary Not place c)) b))
