-- What a body gives is good where each of its reductions gives so.
use Rattle.std.proofs.Common.{◌≡◌, ℕ, Bool, true, false, Option, Some, None, Result, Ok, Err, List, ◌++◌, refl}
use Rattle.std.specs.Prelude.{◌&&◌}
use Rattle.std.proofs.lemmas.Bool.{both_ways}
use Rattle.gm_value.specs.declared.reductions.Reduce.{Reduce}
use Rattle.gm_value.specs.Bag.{IsIn}
use Rattle.gm_ast.specs.declared.tree.Key.{Key}
use Rattle.gm_ast.specs.declared.tree.Target.{Target}
use Rattle.gm_ast.specs.declared.tree.Target.TheVariants as T
use Rattle.gm_ast.specs.declared.tree.TotalKey.{TotalKey}
use Rattle.gm_ast.specs.Program as S
use Rattle.gm_ast.specs.Program.{Expr, Stmt}
use Rattle.gm_forms.proofs.Named.{both-true}
use Rattle.gm_semantics.specs.declared.faults.Fault.{Fault}
use Rattle.gm_semantics.specs.Contributions.{Contribution}
use Rattle.gm_semantics.specs.Expressions.{evaluated, value}
use Rattle.gm_semantics.specs.Iterations.{Loop, Mode, Iteration, view_in, unless_failed, with_ok, one_way, wrote, assigned, does}
use Rattle.gm_lowering.specs.Layouts.{Layout}
use Rattle.gm_lowering.specs.Places.{Spot, spots_in, spots_in_all}
use Rattle.gm_lowering.specs.Bodies.{spots_of, reduce_spots}
use Rattle.gm_lowering.specs.Plans.{way_of}
use Rattle.gm_lowering.specs.Settles.{HasSpot}
use Rattle.gm_lowering.specs.Sites.{is_body}
use Rattle.gm_lowering.proofs.Spots.{spot-left, spot-right, PartsReady}

-- all that ends with the outermost loop is good, and so is all that ends with the inner one
pub record Gives (Good : Contribution → Type 0) (it : Iteration) : Type 0 where
  pub outermost : (x : Contribution) → IsIn x it.with_outermost → Good x
  pub inner : (x : Contribution) → IsIn x it.with_inner → Good x

module _ (c : Layout) (node : ℕ) (its : List ℕ) (at_once : Bool) (loop : Loop) (m : Mode) (found : Expr → Bool) (sets : ℕ → ℕ → Bool) (gives : Reduce → List Target → List Expr → Bool) (Good : Contribution → Type 0) (all : List Spot) (Holds : Iteration → Type 0) (Ready : Stmt → Iteration → Type 0) (parts : PartsReady loop m Ready)
    (holds : (st : Stmt) → is_body c found sets gives st ≡ true → (it : Iteration) → Ready st it → it.fault ≡ None → Holds it → Holds (does st m loop it))
    (reductions : (k : Key) (total : TotalKey) (r : Reduce) (ts : List Target) (es : List Expr) (it : Iteration) → gives r ts es ≡ true → Ready (S.Combine k total r ts es) it → Holds it
    → ((f : Spot) → HasSpot f (reduce_spots at_once its (way_of c.declarations node ts) k total ts) → HasSpot f all) → Gives Good it → Gives Good (does (S.Combine k total r ts es) m loop it)) where
  with-gives : {A : Type 0} (it : Iteration) (r : Result A Fault) (next : A → Iteration) → Gives Good it → ((a : A) → Gives Good (next a)) → Gives Good (with_ok it r next)
  with-gives it (Ok a) next h go = go a
  with-gives it (Err f) next h go = record { outermost = h.outermost; inner = h.inner }

  then-gives : (it : Iteration) (f : Option Fault) (next : Iteration → Iteration) → it.fault ≡ f → Gives Good it → (it.fault ≡ None → Gives Good (next it)) → Gives Good (unless_failed f it next)
  then-gives it None next e h k = k e
  then-gives it (Some f) next e h k = h

  way-gives : (b : Bool) (go other : Iteration → Iteration) (it : Iteration) → Gives Good (go it) → Gives Good (other it) → Gives Good (one_way b go other it)
  way-gives true go other it h k = h
  way-gives false go other it h k = k

  pub body-gives : (st : Stmt) → is_body c found sets gives st ≡ true → ((f : Spot) → HasSpot f (spots_of c node its at_once st) → HasSpot f all) → (it : Iteration) → Ready st it → it.fault ≡ None → Holds it → Gives Good it → Gives Good (does st m loop it)
  body-gives S.Skip o i it r' n q h = h
  body-gives (S.Then a b) o i it r' n q h =
      let t = both-true (is_body c found sets gives a) (is_body c found sets gives b) o in
      let xs = spots_of c node its at_once a in
      let ys = spots_of c node its at_once b in
      let x = body-gives a t.0 (λ f j. i f (spot-left f xs ys j)) it (parts.first a b it r') n q h in
      then-gives (does a m loop it) (does a m loop it).fault (does b m loop) refl x (λ e. body-gives b t.1 (λ f j. i f (spot-right f xs ys j)) (does a m loop it) (parts.second a b it r') e (holds a t.0 it (parts.first a b it r') n q) x)
  body-gives (S.Declare k x None) o i it r' n q h = record { outermost = h.outermost; inner = h.inner }
  body-gives (S.Declare k x (Some e)) o i it r' n q h = with-gives it (value e (view_in loop m it k)) _ h (λ a. record { outermost = h.outermost; inner = h.inner })
  body-gives (S.DeclareEdge x y at) o i it r' n q h = h
  body-gives (S.Assign k (T.Scalar x at) e) o i it r' n q h = with-gives it (assigned (view_in loop m it k) (T.Scalar x at) (evaluated e (view_in loop m it k))) (wrote it) h (λ p. record { outermost = h.outermost; inner = h.inner })
  body-gives (S.Assign k (T.Property x p at) e) o i it r' n q h =
      with-gives it (assigned (view_in loop m it k) (T.Property x p at) (evaluated e (view_in loop m it k))) (wrote it) h (λ z. record { outermost = h.outermost; inner = h.inner })
  body-gives (S.Combine k total r ts es) o i it r' n q h =
      reductions k total r ts es it o r' q (λ f j. i f (spot-right f (spots_in_all es k) (reduce_spots at_once its (way_of c.declarations node ts) k total ts) j)) h
  body-gives (S.If k e a b) o i it r' n q h =
      let t = both-true (found e) (is_body c found sets gives a && is_body c found sets gives b) o in
      let u = both-true (is_body c found sets gives a) (is_body c found sets gives b) t.1 in
      let ws = spots_in e k in
      let xs = spots_of c node its at_once a in
      let ys = spots_of c node its at_once b in
      with-gives it (value e (view_in loop m it k)) _ h (λ z.
      way-gives _ (does a m loop) (does b m loop) it
      (body-gives a u.0 (λ f j. i f (spot-right f ws (xs ++ ys) (spot-left f xs ys j))) it (parts.yes k e a b it r') n q h)
      (body-gives b u.1 (λ f j. i f (spot-right f ws (xs ++ ys) (spot-right f xs ys j))) it (parts.no k e a b it r') n q h))
  body-gives (S.Defer k t e) o i it r' n q h = absurd (both_ways false refl o)
  body-gives (S.Group k at g p e) o i it r' n q h = absurd (both_ways false refl o)
  body-gives (S.Foreach k at hd e a) o i it r' n q h = absurd (both_ways false refl o)
  body-gives (S.For k at hd e a) o i it r' n q h = absurd (both_ways false refl o)
  body-gives (S.While k at e a) o i it r' n q h = absurd (both_ways false refl o)
  body-gives (S.Do k at a e) o i it r' n q h = absurd (both_ways false refl o)
  body-gives (S.InBfs k at x e a) o i it r' n q h = absurd (both_ways false refl o)
  body-gives (S.InBfsBoth k at x e a j d b) o i it r' n q h = absurd (both_ways false refl o)
  body-gives (S.Return k at e) o i it r' n q h = absurd (both_ways false refl o)
