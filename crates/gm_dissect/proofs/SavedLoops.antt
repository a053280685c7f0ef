-- A loop whose conditions are saved in fresh locals goes alike.
use Rattle.std.proofs.Common.{◌≡◌, ◌≤◌, ℕ, Bool, true, false, length, map, refl, sym, ap, subst, ◌∙◌, List, Option, Some, None}
use Rattle.std.proofs.Math.Path.{fun_ext}
use Rattle.std.specs.Prelude.{◌||◌}
use Rattle.gm_base.specs.declared.places.Place.{Place}
use Rattle.gm_value.specs.Operations.{is_true}
use Rattle.gm_ast.specs.declared.tree.Declaration.{Declaration}
use Rattle.gm_ast.specs.declared.tree.Key.{Key}
use Rattle.gm_ast.specs.Program.{Expr, Var, Stmt, Skip, Then, Declare, Foreach, If}
use Rattle.gm_semantics.specs.declared.faults.Fault.{Fault}
use Rattle.gm_semantics.specs.Expressions.{value}
use Rattle.gm_semantics.specs.Levels.{nodes, no_levels}
use Rattle.gm_semantics.specs.Iterations.{Loop, Mode, Iteration, unless_failed, go_on, with_ok, one_way, view_in, turn_at, Outermost, does}
use Rattle.gm_semantics.specs.Loops.{pushes, loop_done}
use Rattle.gm_semantics.specs.Statements.{Run, loop_of}
use Rattle.gm_forms.proofs.Named.{names-below}
use Rattle.gm_loop_laws.specs.Conditions.{saved_if, conditions_saved}
use Rattle.gm_loop_laws.specs.Masks.{Change, looped, SameChange}
use Rattle.gm_loop_laws.proofs.Pieces.{courses-alike}
use Rattle.gm_loop_laws.proofs.Pushes.{saved-pushes}
use Rattle.gm_loop_laws.proofs.Saved.{conditions-saved}
use Rattle.gm_dissect.specs.Conditions.{saved_first, with_saved, saved_loop}
use Rattle.gm_dissect.proofs.Phases.{Rewrites}

-- a statement at the end of a block does what it does alone
last-alone : (s : Stmt) (m : Mode) (loop : Loop) → does (Then s Skip) m loop ≡ does s m loop
last-alone s m loop = fun_ext (λ it. by (does s m loop it) (does s m loop it).fault)
  where
    by : (a : Iteration) (o : Option Fault) → unless_failed o a (λ x. x) ≡ a
    by a None = refl
    by a (Some f) = refl

module _ (local : Key → Option ℕ) (at : Place) (m : Mode) (loop : Loop) where
  abbrev Does : Stmt → Iteration → Iteration
  Does s = does s m loop

  -- one statement after another, where each does the same
  then-same : (f g : Iteration → Iteration) (s r : Stmt) → Does s ≡ f → Does r ≡ g → Does (Then s r) ≡ (λ it. go_on (f it) g)
  then-same f g s r e h = ap (λ x. λ it. go_on (x it) (Does r)) e ∙ ap (λ x. λ it. go_on (f it) x) h

  if-same : (k : Key) (c : Expr) (s r s' r' : Stmt) → Does s ≡ Does s' → Does r ≡ Does r' → Does (If k c s r) ≡ Does (If k c s' r')
  if-same k c s r s' r' e h =
      ap (λ x. λ it. with_ok it (value c (view_in loop m it k)) (λ v. one_way (is_true v) x (Does r) it)) e
      ∙ ap (λ x. λ it. with_ok it (value c (view_in loop m it k)) (λ v. one_way (is_true v) (Does s') x it)) h

  first-same : (o : Option ℕ) (k : Key) (c : Expr) (s r s' r' : Stmt) → Does s ≡ Does s' → Does r ≡ Does r' → Does (saved_first o at k c s r) ≡ Does (saved_if o at k c s' r')
  first-same None k c s r s' r' e h = if-same k c s r s' r' e h
  first-same (Some y) k c s r s' r' e h =
      then-same (Does (Declare k y (Some c))) (Does (If k (Var y at) s' r')) (Declare k y (Some c)) (Then (If k (Var y at) s r) Skip) refl (last-alone (If k (Var y at) s r) m loop ∙ if-same k (Var y at) s r s' r' e h)

  -- a body does what it does where the law saves its conditions
  saved-does : (s : Stmt) → Does (with_saved local at s) ≡ Does (conditions_saved local at s)
  saved-does (Then a b) = then-same (Does (conditions_saved local at a)) (Does (conditions_saved local at b)) (with_saved local at a) (with_saved local at b) (saved-does a) (saved-does b)
  saved-does (If k c a b) = first-same (local k) k c (with_saved local at a) (with_saved local at b) (conditions_saved local at a) (conditions_saved local at b) (saved-does a) (saved-does b)
  saved-does s = refl

-- and pushes the same
pub or-false : (x : Bool) → x || false ≡ x
or-false true = refl
or-false false = refl

module _ (local : Key → Option ℕ) (at : Place) (n p : ℕ) where
  either-same : (a b c d : Bool) → a ≡ c → b ≡ d → a || b ≡ c || d
  either-same a b c d e h = ap (λ x. x || b) e ∙ ap (λ x. c || x) h

  first-pushes : (o : Option ℕ) (k : Key) (c : Expr) (a b a' b' : Stmt) → pushes a n p ≡ pushes a' n p → pushes b n p ≡ pushes b' n p → pushes (saved_first o at k c a b) n p ≡ pushes (saved_if o at k c a' b') n p
  first-pushes None k c a b a' b' e h = either-same (pushes a n p) (pushes b n p) (pushes a' n p) (pushes b' n p) e h
  first-pushes (Some y) k c a b a' b' e h = or-false (pushes a n p || pushes b n p) ∙ either-same (pushes a n p) (pushes b n p) (pushes a' n p) (pushes b' n p) e h

  with-pushes : (s : Stmt) → pushes (with_saved local at s) n p ≡ pushes (conditions_saved local at s) n p
  with-pushes (Then a b) = either-same (pushes (with_saved local at a) n p) (pushes (with_saved local at b) n p) (pushes (conditions_saved local at a) n p) (pushes (conditions_saved local at b) n p) (with-pushes a) (with-pushes b)
  with-pushes (If k c a b) = first-pushes (local k) k c (with_saved local at a) (with_saved local at b) (conditions_saved local at a) (conditions_saved local at b) (with-pushes a) (with-pushes b)
  with-pushes s = refl

module _ (ds : List Declaration) (run : Run) (local : Key → Option ℕ) (fresh : (k : Key) (y : ℕ) → local k ≡ Some y → length ds ≤ y) where
  pub saved-alike : Rewrites ds run (saved_loop local)
  saved-alike key at h test body known u v alike =
      let n = h.iterator in
      let inside = with_saved local at body in
      let loop : Loop = loop_of run no_levels n body in
      let alone : Change = looped (loop_of run no_levels n inside) key test inside in
      let below = names-below ds (Foreach key at h test body) known.named in
      let law : SameChange (length ds) (looped loop key test body) (looped loop key test (conditions_saved local at body)) = conditions-saved (length ds) loop local key at test body below.2 below.3 fresh in
      let written : looped loop key test (conditions_saved local at body) ≡ looped loop key test inside = ap (λ f. λ s. loop_done s (nodes loop.graph) (map (λ k. turn_at loop Outermost key test f loop.outer k s) (nodes loop.graph))) (sym (saved-does local at Outermost loop body)) in
      let within : looped loop key test inside ≡ alone = ap (λ (f : ℕ → Bool). looped (record loop { pushed = f }) key test inside) (sym (fun_ext (λ y. with-pushes local at n y body ∙ saved-pushes local at n y body))) in
      courses-alike (length ds) u v (looped loop key test body u.store) (alone v.store) (subst (SameChange (length ds) (looped loop key test body)) (written ∙ within) law u.store v.store alike.store) alike.turns
