-- A loop that keeps a local in a property goes alike.
use Rattle.std.proofs.Common.{◌≡◌, ◌≢◌, ◌<◌, ◌≤◌, arith, ℕ, Bool, true, false, cond, List, [], ◌∷◌, ◌++◌, length, refl, sym, ap, subst, ◌∙◌, Option, Some, None, ◌⊎◌, ⊎_elim}
use Rattle.std.proofs.Math.Path.{fun_ext}
use Rattle.std.specs.Prelude.{◌&&◌, ◌||◌, not, nat_eq}
use Rattle.std.specs.List.{list_any}
use Rattle.std.proofs.lemmas.Bool.{both_ways, eqb-true, ne_eqb}
use Rattle.gm_base.specs.declared.places.Place.{Place}
use Rattle.gm_value.specs.declared.values.Value.{Value}
use Rattle.gm_value.specs.declared.values.VType.{VType}
use Rattle.gm_value.specs.Numbers.{zero_of}
use Rattle.gm_ast.specs.declared.tree.Declaration.{Declaration}
use Rattle.gm_ast.specs.declared.tree.Head.{Head}
use Rattle.gm_ast.specs.declared.tree.Key.{Key}
use Rattle.gm_ast.specs.declared.tree.Sort.TheVariants as Sorts
use Rattle.gm_ast.specs.declared.tree.Target.{Target}
use Rattle.gm_ast.specs.declared.tree.Target.TheVariants as T
use Rattle.gm_ast.specs.declared.tree.Variable.{Variable}
use Rattle.gm_ast.specs.Names.{sort_eq}
use Rattle.gm_ast.specs.Program.{Expr, Var, always, Stmt, Then, Declare, Assign, Combine, Foreach, If, sequence}
use Rattle.gm_semantics.specs.Levels.{no_levels}
use Rattle.gm_semantics.specs.Iterations.{Loop}
use Rattle.gm_semantics.specs.Loops.{is_elsewhere, pushes}
use Rattle.gm_semantics.specs.Statements.{Run, State, variable_at, loop_of, sequential}
use Rattle.gm_semantics.specs.Frames.{TargetsBelow, NamesBelow, AlikeStates, AlikeCourses}
use Rattle.gm_semantics.proofs.StatementFrames.{sequential-alike}
use Rattle.gm_forms.specs.Forms.{depth_at, is_flat, is_outer_body}
use Rattle.gm_forms.specs.Order.{first_key, second_key}
use Rattle.gm_forms.specs.Uses.{Iterates, Written, Declared, use_as, has_role, owner_role, suits, uses_in, uses_of_head, uses_of}
use Rattle.gm_forms.proofs.Named.{both-true, all-append, names-below}
use Rattle.gm_loop_laws.specs.Localised.{moved_in, moved, names_plainly, may_move}
use Rattle.gm_loop_laws.specs.Masks.{Change, looped, in_turn, SameChange}
use Rattle.gm_loop_laws.proofs.Moves.{locals-move, locals-any}
use Rattle.gm_loop_laws.proofs.Pieces.{own-loop, courses-alike}
use Rattle.gm_loop_laws.proofs.Pushes.{moved-pushes}
use Rattle.gm_dissect.specs.Conditions.{holds_cut}
use Rattle.gm_dissect.specs.Locals.{declares, keeps_local, set_to, local_loop}
use Rattle.gm_dissect.proofs.DeferredLoops.{either-true, may_be_written, declared-written, written-declared, never-iterates, Suit, IsDeclared, use-of, turns-do, last-do}
use Rattle.gm_dissect.proofs.Phases.{KnownLoop, Rewrites}

-- what a body pushes is named
module _ (k q n : ℕ) (fresh : k ≤ q) where
  or-both : (a b : Bool) → a ≡ false → b ≡ false → a || b ≡ false
  or-both a b e h = ap (λ x. x || b) e ∙ h

  targets-fresh : (ts : List Target) → TargetsBelow k ts → list_any (is_elsewhere n q) ts ≡ false
  targets-fresh [] b = refl
  targets-fresh (T.Scalar x at ∷ ts) b = targets-fresh ts b.1
  targets-fresh (T.Property x p at ∷ ts) b = or-both (not (nat_eq x n) && nat_eq p q) (list_any (is_elsewhere n q) ts) (by (not (nat_eq x n)) (ne_eqb p q (λ e. let l = b.0.1 in omega (arith, l, e, fresh)))) (targets-fresh ts b.1)
    where
      by : (c : Bool) → nat_eq p q ≡ false → c && nat_eq p q ≡ false
      by true e = e
      by false e = refl

  pub pushes-fresh : (s : Stmt) → NamesBelow k s → pushes s n q ≡ false
  pushes-fresh (Then a b) h = or-both (pushes a n q) (pushes b n q) (pushes-fresh a h.0) (pushes-fresh b h.1)
  pushes-fresh (Combine key total r ts es) h = targets-fresh ts h.0
  pushes-fresh (Foreach key at hd test body) h = pushes-fresh body h.3
  pushes-fresh (If key c a b) h = or-both (pushes a n q) (pushes b n q) (pushes-fresh a h.1) (pushes-fresh b h.2)
  pushes-fresh s h = refl

-- what is known of a local that a body declares
module _ (ds : List Declaration) (n x : ℕ) where
  abbrev pub IsLocal : Type 0
  IsLocal = (x < length ds) × ((nat_eq (depth_at ds x) 1 ≡ true) × (may_be_written (variable_at ds x) ≡ true))

  pub declared-local : (s : Stmt) → is_outer_body ds false n s ≡ true → Suit ds (uses_of s) → declares x s ≡ true → IsLocal
  declared-local (Then a b) f h d =
      let g = both-true (is_outer_body ds false n a) (is_outer_body ds false n b) f in
      let r = all-append (suits ds) (uses_of a) (uses_of b) h in
      ⊎_elim (declared-local a g.0 r.0) (declared-local b g.1 r.1) (either-true (declares x a) (declares x b) d)
  declared-local (Declare k y None) f h d =
      let g = both-true (nat_eq (depth_at ds y) 1) true f in
      let u = use-of ds Declared y h in
      subst (λ z. (z < length ds) × ((nat_eq (depth_at ds z) 1 ≡ true) × (may_be_written (variable_at ds z) ≡ true))) (eqb-true y x d) (u.0, (g.0, declared-written (variable_at ds y) u.1))
  declared-local (Declare k y (Some e)) f h d =
      let g = both-true (nat_eq (depth_at ds y) 1) (is_flat (n ∷ []) false e) f in
      let r = all-append (suits ds) (use_as Written y) (uses_in e) h in
      let u = use-of ds Written y r.0 in
      subst (λ z. (z < length ds) × ((nat_eq (depth_at ds z) 1 ≡ true) × (may_be_written (variable_at ds z) ≡ true))) (eqb-true y x d) (u.0, (g.0, written-declared (variable_at ds y) u.1))
  declared-local (If k c a b) f h d =
      let e = both-true (is_flat (n ∷ []) false c) (is_outer_body ds false n a && is_outer_body ds false n b) f in
      let g = both-true (is_outer_body ds false n a) (is_outer_body ds false n b) e.1 in
      let r = all-append (suits ds) (uses_in c) (uses_of a ++ uses_of b) h in
      let q = all-append (suits ds) (uses_of a) (uses_of b) r.1 in
      ⊎_elim (declared-local a g.0 q.0) (declared-local b g.1 q.1) (either-true (declares x a) (declares x b) d)
  declared-local s f h d = absurd (both_ways false refl d)

-- what a test of a loop says
pub record Keeps (ds : List Declaration) (x n : ℕ) (test : Expr) (body : Stmt) : Type 0 where
  pub scalar : sort_eq Sorts.Scalar (variable_at ds x).sort ≡ true
  pub declared : declares x body ≡ true
  pub plain : names_plainly x test ≡ true
  pub moves : may_move x n body ≡ true

pub keeps-known : (ds : List Declaration) (x n : ℕ) (test : Expr) (body : Stmt) → keeps_local ds x n test body ≡ true → Keeps ds x n test body
keeps-known ds x n test body h =
    let a = both-true (sort_eq Sorts.Scalar (variable_at ds x).sort) (declares x body && (holds_cut n body && (names_plainly x test && may_move x n body))) h in
    let b = both-true (declares x body) (holds_cut n body && (names_plainly x test && may_move x n body)) a.1 in
    let c = both-true (holds_cut n body) (names_plainly x test && may_move x n body) b.1 in
    let d = both-true (names_plainly x test) (may_move x n body) c.1 in
    record { scalar = a.0; declared = b.0; plain = d.0; moves = d.1 }

module _ (ds : List Declaration) (run : Run) (same : (x : ℕ) → x < length ds → variable_at run.declarations x ≡ variable_at ds x) (x : ℕ) where
  abbrev fresh : ℕ
  fresh = length ds

  abbrev zero : Value
  zero = zero_of (variable_at ds x).vtype

  module _ (key : Key) (at : Place) (h : Head) (test : Expr) (body : Stmt) (known : KnownLoop ds key at h test body) (keeps : Keeps ds x h.iterator test body) (u v : State) (alike : AlikeStates fresh u v) where
    abbrev n : ℕ
    n = h.iterator

    abbrev loop : Loop
    loop = loop_of run no_levels n body

    abbrev into : Stmt
    into = Assign second_key (T.Property n fresh at) (Var x at)

    abbrev asked : Expr
    asked = moved_in x fresh n at zero test

    abbrev inside : Stmt
    inside = moved x fresh n at zero body

    law : SameChange fresh (looped loop key test body) (in_turn (looped loop first_key always into) (looped loop key asked inside))
    law =
        let below = names-below ds (Foreach key at h test body) known.named in
        let form = both-true (is_flat (n ∷ []) false test) (is_outer_body ds false n body) known.form in
        let r = all-append (suits ds) (uses_of_head h) (uses_in test ++ uses_of body) known.named in
        let q = all-append (suits ds) (uses_in test) (uses_of body) r.1 in
        let i = all-append (suits ds) (use_as Iterates n) (use_as (owner_role h.domain) h.owner) r.0 in
        let is = declared-local ds n x body form.1 q.1 keeps.declared in
        let apart : x ≢ n = λ e. never-iterates (variable_at ds n) (use-of ds Iterates n i.0).1 (subst (λ z. may_be_written (variable_at ds z) ≡ true) e is.1.1) in
        let deep : loop.depth x ≡ 1 = ap (λ (w : Variable). w.depth) (same x is.0) ∙ eqb-true (depth_at ds x) 1 is.1.0 in
        let quiet : loop.pushed fresh ≡ false = pushes-fresh fresh fresh n (omega arith) body below.3 in
        let typed : loop.vtype x ≡ (variable_at ds x).vtype = ap (λ (w : Variable). w.vtype) (same x is.0) in
        subst (λ f. SameChange fresh (looped loop key test body) (in_turn f (looped loop key asked inside))) (sym (locals-any loop first_key second_key key x fresh at apart))
        (subst (λ (t : VType). SameChange fresh (looped loop key test body) (in_turn (looped loop key always (Assign key (T.Property n fresh at) (Var x at))) (looped loop key (moved_in x fresh n at (zero_of t) test) (moved x fresh n at (zero_of t) body)))) typed
        (locals-move fresh loop x fresh key at test body is.0 below.0 apart (omega arith) deep quiet below.2 below.3 keeps.plain keeps.moves))

    -- each loop by what it pushes itself
    abbrev alone : Expr → Stmt → Change
    alone e s = looped (loop_of run no_levels n s) key e s

    abbrev setting : Change
    setting = looped (loop_of run no_levels n into) first_key always into

    into-same : looped loop first_key always into ≡ setting
    into-same = fun_ext (λ s. own-loop loop (pushes into n) first_key always into refl s)

    within-same : looped loop key asked inside ≡ alone asked inside
    within-same = ap (λ (f : ℕ → Bool). looped (record loop { pushed = f }) key asked inside) (sym (fun_ext (λ y. moved-pushes x fresh n y at zero body)))

    two : SameChange fresh (looped loop key test body) (in_turn setting (alone asked inside))
    two =
        subst (λ f. SameChange fresh (looped loop key test body) (in_turn f (alone asked inside))) into-same
        (subst (λ f. SameChange fresh (looped loop key test body) (in_turn (looped loop first_key always into) f)) within-same law)

    pub kept-alike : AlikeCourses fresh (sequential (Foreach key at h test body) run u) (sequential (sequence (set_to fresh x at h ∷ Foreach key at h asked inside ∷ [])) run v)
    kept-alike =
        subst (AlikeCourses fresh (sequential (Foreach key at h test body) run u))
        (turns-do setting (alone asked inside) (sequential (sequence (Foreach key at h asked inside ∷ [])) run) v
        (λ w. last-do run (record v { store = w }) (alone asked inside w)))
        (courses-alike fresh u v (looped loop key test body u.store) (in_turn setting (alone asked inside) v.store) (two u.store v.store alike.store) alike.turns)

  -- the loops that keep the local are written so
  pub local-alike : Rewrites ds run (local_loop ds x fresh)
  local-alike key at h test body known u v alike = by (keeps_local ds x h.iterator test body) refl
    where
      by : (b : Bool) → keeps_local ds x h.iterator test body ≡ b →
          AlikeCourses fresh (sequential (Foreach key at h test body) run u)
          (sequential (cond b (sequence (set_to fresh x at h ∷ Foreach key at h (moved_in x fresh h.iterator at zero test) (moved x fresh h.iterator at zero body) ∷ [])) (Foreach key at h test body)) run v)
      by true e = kept-alike key at h test body known (keeps-known ds x h.iterator test body e) u v alike
      by false e = sequential-alike fresh (Foreach key at h test body) run u v (names-below ds (Foreach key at h test body) known.named) alike
