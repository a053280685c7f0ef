-- A loop that pulls means the same as the loop of its other end.
use Rattle.std.proofs.Common.{◌≡◌, ℕ, true, false, cond, List, [], ◌∷◌, refl, sym, ap, subst, ◌∙◌, Some, None, Result, Ok}
use Rattle.std.specs.Prelude.{◌&&◌, not, nat_eq}
use Rattle.std.proofs.lemmas.Bool.{both_ways, eqb-true, lt-ltb}
use Rattle.gm_base.specs.declared.places.Place.{Place}
use Rattle.gm_value.specs.declared.values.Value.{Value}
use Rattle.gm_value.specs.declared.values.Value.TheVariants.{I32, I64, Flag, At}
use Rattle.gm_value.specs.Bag.{IsIn}
use Rattle.gm_model.specs.Graphs.{IsGraph, node_count}
use Rattle.gm_ast.specs.declared.tree.Declaration.{Declaration}
use Rattle.gm_ast.specs.declared.tree.Head.{Head}
use Rattle.gm_ast.specs.declared.tree.Key.{Key}
use Rattle.gm_ast.specs.Ways.{is_in}
use Rattle.gm_ast.specs.Program.{Expr, Const, Var, Property, EdgeProperty, Degree, NodeCount, EdgeCount, Live, Unary, Binary, Both, Either, Choose, Folded, always, Stmt, Foreach}
use Rattle.gm_semantics.specs.declared.faults.Fault.{Fault}
use Rattle.gm_semantics.specs.Stores.{Store}
use Rattle.gm_semantics.specs.Levels.{nodes, node_in, no_levels}
use Rattle.gm_semantics.specs.Faults.{then_with}
use Rattle.gm_semantics.specs.Expressions.{evaluated, plain, node_held}
use Rattle.gm_semantics.specs.Iterations.{Loop, Mode, Iteration, view_in}
use Rattle.gm_semantics.specs.Loops.{pushes, parallel}
use Rattle.gm_semantics.specs.Statements.{Run, State, with_value, with_store, loop_of, sequential}
use Rattle.gm_forms.specs.Cut.{is_mask, spares_locals}
use Rattle.gm_forms.specs.Sharing.{told_in}
use Rattle.gm_forms.specs.Forms.{is_range, is_flat, is_inner_body, is_inner_head, is_outer_body, avoids}
use Rattle.gm_forms.specs.Fission.{pushed_properties}
use Rattle.gm_forms.specs.Flip.{flipped_head}
use Rattle.gm_forms.proofs.CutTests.{flat, not-true}
use Rattle.gm_forms.proofs.Named.{both-true}
use Rattle.gm_loop_laws.specs.Alone.{stands_alone}
use Rattle.gm_loop_laws.proofs.Alone.{nodes-below, stands}
use Rattle.gm_loop_laws.proofs.MaskValues.{mask_value, mask-held}
use Rattle.gm_loop_laws.proofs.Pieces.{pushed-listed}
use Rattle.gm_flip.specs.Flipped.{turned}
use Rattle.gm_loop_laws.proofs.Flips.{flips}

-- an outer body that is one inner loop over neighbours
pub record Lone (ds : List Declaration) (n : ℕ) (i : Head) (test : Expr) (body : Stmt) : Type 0 where
  pub apart : nat_eq i.iterator n ≡ false
  pub owner : i.owner ≡ n
  pub range : is_range false i.domain ≡ true
  pub test_flat : is_flat (n ∷ i.iterator ∷ []) true test ≡ true
  pub inner : is_inner_body ds (n ∷ i.iterator ∷ []) true body ≡ true

pub lone : (ds : List Declaration) (n : ℕ) (j : Key) (here : Place) (i : Head) (test : Expr) (body : Stmt) → is_outer_body ds false n (Foreach j here i test body) ≡ true → Lone ds n i test body
lone ds n j here i test body o =
    let a = both-true (is_inner_head false n i) (is_flat (n ∷ i.iterator ∷ []) true test && is_inner_body ds (n ∷ i.iterator ∷ []) true body) o in
    let b = both-true (is_range false i.domain) (nat_eq i.owner n && not (nat_eq i.iterator n)) a.0 in
    let c = both-true (nat_eq i.owner n) (not (nat_eq i.iterator n)) b.1 in
    let d = both-true (is_flat (n ∷ i.iterator ∷ []) true test) (is_inner_body ds (n ∷ i.iterator ∷ []) true body) a.1 in
    record {
      apart = not-true (nat_eq i.iterator n) c.1;
      owner = eqb-true i.owner n c.0;
      range = b.0;
      test_flat = d.0;
      inner = d.1;
    }

-- a loop that can be turned
pub record Turnable (ds : List Declaration) (n : ℕ) (mask : Expr) (i : Head) (test : Expr) (body : Stmt) : Type 0 where
  pub lone : Lone ds n i test body
  pub mask_is : is_mask n mask ≡ true
  pub out : is_in (told_in mask) i.iterator ≡ false
  pub away : avoids i.iterator body ≡ true
  pub spares : spares_locals ds body ≡ true
  pub alone : stands_alone ds (pushed_properties n body) n body ≡ true

module _ (run : Run) (k j : Key) (at here : Place) (h i : Head) (test : Expr) (body : Stmt) (is : IsGraph run.graph) where
  abbrev n : ℕ
  n = h.iterator

  abbrev ds : List Declaration
  ds = run.declarations

  abbrev inner : Stmt
  inner = Foreach j here i test body

  abbrev loop : Loop
  loop = loop_of run no_levels n inner

  -- the inner loop of the other end, under a filter
  abbrev other : Expr → Stmt
  other filter = Foreach j here (flipped_head n i) filter body

  -- under a mask the loop of the other end is the loop
  both-ends : (mask : Expr) (s : Store) → Turnable ds n mask i test body →
      parallel (loop_of run no_levels i.iterator (other (Both mask test))) k always (other (Both mask test)) (nodes run.graph) s ≡ parallel loop k mask inner (nodes run.graph) s
  both-ends mask s t =
      flips ds (pushed_properties n body) loop (λ y. refl) (λ p e. pushed-listed n p body ∙ e) mask (mask_value loop k mask s) k j here here i test body s (mask-held loop k i.iterator mask s t.mask_is t.out) t.lone.apart t.lone.owner t.lone.range (flat (n ∷ i.iterator ∷ []) true test t.lone.test_flat) (n ∷ i.iterator ∷ []) t.lone.inner
      (stands ds (pushed_properties n body) n body t.alone) (pushes (other (Both mask test)) i.iterator) t.away t.spares is

  -- the turned loop runs as the loop
  pub turned-same : (mask : Expr) (u : State) → Turnable ds n mask i test body → sequential (turned k at h mask inner) run u ≡ sequential (Foreach k at h mask inner) run u
  turned-same mask u t = by mask t
    where
      with-it : {a b : Result Store Fault} → a ≡ b → with_value a (with_store u) ≡ with_value b (with_store u)
      with-it e = ap (λ r. with_value r (with_store u)) e

      by : (m : Expr) → Turnable ds n m i test body → sequential (turned k at h m inner) run u ≡ sequential (Foreach k at h m inner) run u
      by (Const (Flag true)) t = with-it (both-ends (Const (Flag true)) u.store t)
      by (Const (Flag false)) t = with-it (both-ends (Const (Flag false)) u.store t)
      by (Const (I32 v)) t = with-it (both-ends (Const (I32 v)) u.store t)
      by (Const (I64 v)) t = with-it (both-ends (Const (I64 v)) u.store t)
      by (Const (At v)) t = with-it (both-ends (Const (At v)) u.store t)
      by (Var x place) t = with-it (both-ends (Var x place) u.store t)
      by (Property x m place) t = with-it (both-ends (Property x m place) u.store t)
      by (EdgeProperty x p place) t = with-it (both-ends (EdgeProperty x p place) u.store t)
      by (Degree d x place) t = with-it (both-ends (Degree d x place) u.store t)
      by NodeCount t = with-it (both-ends NodeCount u.store t)
      by EdgeCount t = with-it (both-ends EdgeCount u.store t)
      by (Live x place) t = with-it (both-ends (Live x place) u.store t)
      by (Unary op place a) t = with-it (both-ends (Unary op place a) u.store t)
      by (Binary op place a b) t = with-it (both-ends (Binary op place a b) u.store t)
      by (Both a b) t = with-it (both-ends (Both a b) u.store t)
      by (Either a b) t = with-it (both-ends (Either a b) u.store t)
      by (Choose c a b) t = with-it (both-ends (Choose c a b) u.store t)
      by (Folded f hd c a) t = with-it (both-ends (Folded f hd c a) u.store t)
