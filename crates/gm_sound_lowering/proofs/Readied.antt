-- Of a program that the passes made ready all is asked that is asked of one whose image is sound, but for what stands in `is_lowerable`.
use Rattle.std.proofs.Common.{◌≡◌, ℕ, Bool, true, false, Option, Some, None, List, [], ◌∷◌, ◌++◌, refl, ap, ◌∙◌}
use Rattle.std.specs.Prelude.{◌&&◌, ◌||◌, not, nat_eq, nat_le, if◌then◌else◌}
use Rattle.std.specs.List.{list_all}
use Rattle.std.proofs.lemmas.Bool.{both_ways, and_from, eqb-true, or_left}
use Rattle.gm_base.specs.declared.places.Place.{Place}
use Rattle.gm_ast.specs.declared.tree.Declaration.{Declaration}
use Rattle.gm_ast.specs.declared.tree.Key.{Key}
use Rattle.gm_ast.specs.declared.tree.Sort.TheVariants as Sorts
use Rattle.gm_ast.specs.declared.tree.Target.{Target}
use Rattle.gm_ast.specs.declared.tree.Target.TheVariants as T
use Rattle.gm_ast.specs.declared.tree.Variable.{Variable}
use Rattle.gm_ast.specs.Loops.{is_nodes}
use Rattle.gm_ast.specs.Names.{is}
use Rattle.gm_ast.specs.Program as S
use Rattle.gm_ast.specs.Program.{Expr, Stmt, Program}
use Rattle.gm_forms.proofs.Named.{both-true, all-append}
use Rattle.gm_forms.specs.Forms.{depth_at, may, is_told, is_flat, is_inner_body, is_inner_head, is_outer_body, is_flat_loop, no_loop, is_plain as is_outside, is_phase}
use Rattle.gm_forms.specs.Sharing.{are_alike, are_distinct, variables_of, targets_alike, read_elsewhere, reads_in, sights_of, loops_share}
use Rattle.gm_forms.specs.Typing.{keeps_tuples}
use Rattle.gm_forms.specs.Uses.{Role, Written, Declared, Use, use_as, has_role, suits, uses_in, uses_in_all, uses_of_targets, uses_of_head, uses_of}
use Rattle.gm_semantics.specs.Statements.{variable_at}
use Rattle.gm_lowering.specs.Layouts.{is_global, is_register}
use Rattle.gm_lowering.specs.Plans.{way_of, is_here}
use Rattle.gm_sound_lowering.specs.Asked.{is_plain, may_be_plain, all_plain, may_pick, is_asked_reduction, is_asked_body, is_number_global, is_asked_loop, is_asked_phase}
use Rattle.gm_sound_lowering.specs.Laws.{ReadyIsAsked, ReadyImagesAreSound}
use Rattle.gm_sound_lowering.specs.Ready.{is_lowerable_body, is_lowerable_loop, is_number, is_lowerable_phase}
use Rattle.gm_sound_lowering.proofs.FoldBlocks.{shared-parts}
use Rattle.gm_sound_lowering.proofs.Whole.{levelled-flipped, images-are-sound}

module _ (ds : List Declaration) where
  abbrev Named : List Use → Type 0
  Named us = list_all (suits ds) us ≡ true

  split : (us ws : List Use) → Named (us ++ ws) → Named us × Named ws
  split us ws h = all-append (suits ds) us ws h

  role-of : (x : ℕ) (r : Role) → Named (use_as r x) → has_role (variable_at ds x) r ≡ true
  role-of x r h = (both-true _ (has_role (variable_at ds x) r) (both-true (suits ds (record { variable = x; role = r })) true h).0).1

  -- a scalar that is declared in loops is a local
  local : (v : Variable) (d : ℕ) → nat_eq v.depth d ≡ true → (nat_eq d 0 ≡ false) → has_role v Declared ≡ true → is_register v ≡ true
  local v d e k h =
      let off : nat_eq v.depth 0 ≡ false = ap (λ z. nat_eq z 0) (eqb-true v.depth d e) ∙ k in
      and_from (is Sorts.Scalar v) (not (nat_eq v.depth 0)) (by (is Sorts.Scalar v) (is Sorts.NodeProperty v) (nat_eq v.depth 0) off h) (ap not off) where
        by : (a b c : Bool) → c ≡ false → a || (b && c) ≡ true → a ≡ true
        by true b c o h = refl
        by false true c o h = absurd (both_ways c o h)
        by false false c o h = absurd (both_ways false refl h)

  written-declared : (v : Variable) → has_role v Written ≡ true → has_role v Declared ≡ true
  written-declared v h = or_left (is Sorts.Scalar v) _ h

  module _ (n : ℕ) where
    -- what an own body or an inner one is asked, by what is the same in both
    abbrev Asked : Stmt → Type 0
    Asked st = is_asked_body ds n st ≡ true

    both-asked : (a b : Stmt) → Asked a → Asked b → is_asked_body ds n a && is_asked_body ds n b ≡ true
    both-asked a b h k = and_from (is_asked_body ds n a) (is_asked_body ds n b) h k

    declared-asked : (k : Key) (x d : ℕ) (e : Option Expr) → nat_eq (depth_at ds x) d ≡ true → nat_eq d 0 ≡ false → Named (uses_of (S.Declare k x e)) → may_be_plain ds e ≡ true → Asked (S.Declare k x e)
    declared-asked k x d None h z u l = and_from (is_register (variable_at ds x)) true (local (variable_at ds x) d h z (role-of x Declared u)) refl
    declared-asked k x d (Some e) h z u l =
        and_from (is_register (variable_at ds x)) (is_plain ds e) (local (variable_at ds x) d h z (written-declared (variable_at ds x) (role-of x Written (split (use_as Written x) (uses_in e) u).0))) l

    assigned-asked : (k : Key) (x d : ℕ) (at : Place) (e : Expr) → nat_eq (depth_at ds x) d ≡ true → nat_eq d 0 ≡ false → Named (uses_of (S.Assign k (T.Scalar x at) e)) → is_plain ds e ≡ true → Asked (S.Assign k (T.Scalar x at) e)
    assigned-asked k x d at e h z u l =
        and_from (is_register (variable_at ds x)) (is_plain ds e) (local (variable_at ds x) d h z (written-declared (variable_at ds x) (role-of x Written (split (use_as Written x) (uses_in e) u).0))) l

    reduced-asked : (ts : List Target) (es : List Expr) → are_alike ts && are_distinct (variables_of ts) ≡ true → may_pick (way_of ds n ts) ds ts && all_plain ds es ≡ true → is_asked_reduction ds n ts && all_plain ds es ≡ true
    reduced-asked ts es t l =
        let t2 = both-true (are_alike ts) (are_distinct (variables_of ts)) t in
        let l2 = both-true (may_pick (way_of ds n ts) ds ts) (all_plain ds es) l in
        and_from (is_asked_reduction ds n ts) (all_plain ds es)
        (and_from (are_alike ts) _ t2.0 (and_from (are_distinct (variables_of ts)) (may_pick (way_of ds n ts) ds ts) t2.1 l2.0)) l2.1

    -- an own body
    own-asked : (m : ℕ) (st : Stmt) → is_outer_body ds false m st ≡ true → Named (uses_of st) → targets_alike st ≡ true → is_lowerable_body ds n st ≡ true → Asked st
    own-asked m (S.Then a b) f u t l =
        let f2 = both-true (is_outer_body ds false m a) (is_outer_body ds false m b) f in
        let u2 = split (uses_of a) (uses_of b) u in
        let t2 = both-true (targets_alike a) (targets_alike b) t in
        let l2 = both-true (is_lowerable_body ds n a) (is_lowerable_body ds n b) l in
        both-asked a b (own-asked m a f2.0 u2.0 t2.0 l2.0) (own-asked m b f2.1 u2.1 t2.1 l2.1)
    own-asked m (S.If k c a b) f u t l =
        let f2 = both-true (is_outer_body ds false m a) (is_outer_body ds false m b) (both-true (is_flat (m ∷ []) false c) (is_outer_body ds false m a && is_outer_body ds false m b) f).1 in
        let u2 = split (uses_of a) (uses_of b) (split (uses_in c) (uses_of a ++ uses_of b) u).1 in
        let t2 = both-true (targets_alike a) (targets_alike b) t in
        let l1 = both-true (is_plain ds c) (is_lowerable_body ds n a && is_lowerable_body ds n b) l in
        let l2 = both-true (is_lowerable_body ds n a) (is_lowerable_body ds n b) l1.1 in
        and_from (is_plain ds c) _ l1.0 (both-asked a b (own-asked m a f2.0 u2.0 t2.0 l2.0) (own-asked m b f2.1 u2.1 t2.1 l2.1))
    own-asked m (S.Declare k x e) f u t l = declared-asked k x 1 e (both-true (nat_eq (depth_at ds x) 1) (may (is_flat (m ∷ []) false) e) f).0 refl u l
    own-asked m (S.Assign k (T.Scalar x at) e) f u t l = assigned-asked k x 1 at e (both-true (nat_eq (depth_at ds x) 1) (is_flat (m ∷ []) false e) f).0 refl u l
    own-asked m (S.Assign k (T.Property x q at) e) f u t l = l
    own-asked m (S.Combine k total r ts es) f u t l = reduced-asked ts es t l
    own-asked m _ f u t l = refl

    -- an inner body
    inner-asked : (its : List ℕ) (edge : Bool) (st : Stmt) → is_inner_body ds its edge st ≡ true → Named (uses_of st) → targets_alike st ≡ true → is_lowerable_body ds n st ≡ true → Asked st
    inner-asked its edge (S.Then a b) f u t l =
        let f2 = both-true (is_inner_body ds its edge a) (is_inner_body ds its edge b) f in
        let u2 = split (uses_of a) (uses_of b) u in
        let t2 = both-true (targets_alike a) (targets_alike b) t in
        let l2 = both-true (is_lowerable_body ds n a) (is_lowerable_body ds n b) l in
        both-asked a b (inner-asked its edge a f2.0 u2.0 t2.0 l2.0) (inner-asked its edge b f2.1 u2.1 t2.1 l2.1)
    inner-asked its edge (S.If k c a b) f u t l =
        let f2 = both-true (is_inner_body ds its edge a) (is_inner_body ds its edge b) (both-true (is_flat its edge c) (is_inner_body ds its edge a && is_inner_body ds its edge b) f).1 in
        let u2 = split (uses_of a) (uses_of b) (split (uses_in c) (uses_of a ++ uses_of b) u).1 in
        let t2 = both-true (targets_alike a) (targets_alike b) t in
        let l1 = both-true (is_plain ds c) (is_lowerable_body ds n a && is_lowerable_body ds n b) l in
        let l2 = both-true (is_lowerable_body ds n a) (is_lowerable_body ds n b) l1.1 in
        and_from (is_plain ds c) _ l1.0 (both-asked a b (inner-asked its edge a f2.0 u2.0 t2.0 l2.0) (inner-asked its edge b f2.1 u2.1 t2.1 l2.1))
    inner-asked its edge (S.Declare k x e) f u t l = declared-asked k x 2 e (both-true (nat_eq (depth_at ds x) 2) (may (is_flat its edge) e) f).0 refl u l
    inner-asked its edge (S.Assign k (T.Scalar x at) e) f u t l = assigned-asked k x 2 at e (both-true (nat_eq (depth_at ds x) 2) (is_flat its edge e) f).0 refl u l
    inner-asked its edge (S.Assign k (T.Property x q at) e) f u t l = l
    inner-asked its edge (S.Combine k total r ts es) f u t l = reduced-asked ts es t l
    inner-asked its edge _ f u t l = refl

  -- a parallel loop
  loop-asked : (n : ℕ) (test : Expr) (body : Stmt) → is_flat_loop ds false n test body ≡ true → Named (uses_of body) → targets_alike body ≡ true → is_lowerable_loop ds n test body ≡ true → is_asked_loop ds n test body ≡ true
  loop-asked n test (S.Foreach k at h inner body) f u t l =
      let m = if is_here ds n h inner body then n else h.iterator in
      let its = n ∷ (h.iterator ∷ []) in
      let f1 = both-true (is_flat (n ∷ []) false test) (is_outer_body ds false n (S.Foreach k at h inner body)) f in
      let f2 = both-true (is_inner_head false n h) (is_flat its true inner && is_inner_body ds its true body) f1.1 in
      let f3 = both-true (is_flat its true inner) (is_inner_body ds its true body) f2.1 in
      let u2 = split (uses_in inner) (uses_of body) (split (uses_of_head h) (uses_in inner ++ uses_of body) u).1 in
      let l1 = both-true (is_plain ds test) (is_plain ds inner && is_lowerable_body ds m body) l in
      let l2 = both-true (is_plain ds inner) (is_lowerable_body ds m body) l1.1 in
      and_from (is_plain ds test) _ l1.0 (and_from (is_plain ds inner) (is_asked_body ds m body) l2.0 (inner-asked m its true body f3.1 u2.1 t l2.1))
  loop-asked n test body f u t l =
      let f1 = both-true (is_flat (n ∷ []) false test) (is_outer_body ds false n body) f in
      let l1 = both-true (is_plain ds test) (is_lowerable_body ds n body) l in
      and_from (is_plain ds test) (is_asked_body ds n body) l1.0 (own-asked n n body f1.1 u t l1.1)

  -- what a sequential phase keeps at once are numbers in scalars of the procedure
  numbers-asked : (ts : List Target) → list_all (is_outside ds) ts ≡ true → Named (uses_of_targets ts) → list_all (is_number ds) ts ≡ true → list_all (is_number_global ds) ts ≡ true
  numbers-asked [] f u l = refl
  numbers-asked (T.Scalar x at ∷ ts) f u l =
      let f2 = both-true (nat_eq (depth_at ds x) 0) (list_all (is_outside ds) ts) f in
      let u2 = split (use_as Written x) (uses_of_targets ts) u in
      let l2 = both-true (is_number ds (T.Scalar x at)) (list_all (is_number ds) ts) l in
      let v = variable_at ds x in
      and_from (is_number_global ds (T.Scalar x at)) (list_all (is_number_global ds) ts)
      (and_from (is_global v) (is_number ds (T.Scalar x at)) (and_from (nat_eq v.depth 0) (is Sorts.Scalar v || is Sorts.Iterator v) f2.0 (or_left (is Sorts.Scalar v) (is Sorts.Iterator v) (role-of x Written u2.0))) l2.0)
      (numbers-asked ts f2.1 u2.1 l2.1)
  numbers-asked (T.Property x q at ∷ ts) f u l = absurd (both_ways false refl f)

  abbrev is_form : Stmt → Bool
  is_form s = is_phase (is_flat_loop ds false) no_loop ds s

  phase-asked : (s : Stmt) → is_form s ≡ true → Named (uses_of s) → loops_share ds s ≡ true → is_lowerable_phase ds s ≡ true → is_asked_phase ds s ≡ true
  phase-asked (S.Then a b) f u h l =
      let f2 = both-true (is_form a) (is_form b) f in
      let u2 = split (uses_of a) (uses_of b) u in
      let h2 = both-true (loops_share ds a) (loops_share ds b) h in
      let l2 = both-true (is_lowerable_phase ds a) (is_lowerable_phase ds b) l in
      and_from (is_asked_phase ds a) (is_asked_phase ds b) (phase-asked a f2.0 u2.0 h2.0 l2.0) (phase-asked b f2.1 u2.1 h2.1 l2.1)
  phase-asked (S.Declare k x e) f u h l = l
  phase-asked (S.Assign k t e) f u h l = l
  phase-asked (S.Combine k total r ts es) f u h l =
      let f2 = both-true (list_all (is_outside ds) ts) (list_all is_told es) (both-true (keeps_tuples r) (list_all (is_outside ds) ts && list_all is_told es) f).1 in
      let l2 = both-true (list_all (is_number ds) ts) (all_plain ds es) l in
      and_from (list_all (is_number_global ds) ts) (all_plain ds es) (numbers-asked ts f2.0 (split (uses_of_targets ts) (uses_in_all es) u).0 l2.0) l2.1
  phase-asked (S.Foreach k at head test body) f u h l =
      let f2 = both-true (is_nodes head.domain) (is_flat_loop ds false head.iterator test body) f in
      let u2 = split (uses_in test) (uses_of body) (split (uses_of_head head) (uses_in test ++ uses_of body) u).1 in
      loop-asked head.iterator test body f2.1 u2.1 (shared-parts ds (read_elsewhere head.iterator (reads_in test ++ (sights_of ds head.iterator false body).properties)) head.iterator test body h).2 l
  phase-asked (S.For k at head test body) f u h l =
      let f2 = both-true (is_told test) (is_form body) f in
      let u2 = split (uses_in test) (uses_of body) (split (uses_of_head head) (uses_in test ++ uses_of body) u).1 in
      let l1 = both-true (is_global (variable_at ds head.iterator)) (is_plain ds test && is_lowerable_phase ds body) l in
      let l2 = both-true (is_plain ds test) (is_lowerable_phase ds body) l1.1 in
      and_from (is_global (variable_at ds head.iterator)) _ l1.0 (and_from (is_plain ds test) (is_asked_phase ds body) l2.0 (phase-asked body f2.1 u2.1 h l2.1))
  phase-asked (S.If k c a b) f u h l =
      let f2 = both-true (is_form a) (is_form b) (both-true (is_told c) (is_form a && is_form b) f).1 in
      let u2 = split (uses_of a) (uses_of b) (split (uses_in c) (uses_of a ++ uses_of b) u).1 in
      let h2 = both-true (loops_share ds a) (loops_share ds b) h in
      let l1 = both-true (is_plain ds c) (is_lowerable_phase ds a && is_lowerable_phase ds b) l in
      let l2 = both-true (is_lowerable_phase ds a) (is_lowerable_phase ds b) l1.1 in
      and_from (is_plain ds c) _ l1.0 (and_from (is_asked_phase ds a) (is_asked_phase ds b) (phase-asked a f2.0 u2.0 h2.0 l2.0) (phase-asked b f2.1 u2.1 h2.1 l2.1))
  phase-asked (S.While k at c body) f u h l =
      let f2 = both-true (is_told c) (is_form body) f in
      let l2 = both-true (is_plain ds c) (is_lowerable_phase ds body) l in
      and_from (is_plain ds c) (is_asked_phase ds body) l2.0 (phase-asked body f2.1 (split (uses_in c) (uses_of body) u).1 h l2.1)
  phase-asked (S.Do k at body c) f u h l =
      let f2 = both-true (is_form body) (is_told c) f in
      let l2 = both-true (is_lowerable_phase ds body) (is_plain ds c) l in
      and_from (is_asked_phase ds body) (is_plain ds c) (phase-asked body f2.0 (split (uses_of body) (uses_in c) u).0 h l2.0) l2.1
  phase-asked (S.Return k at e) f u h l = l
  phase-asked _ f u h l = refl

pub ready-is-asked : ReadyIsAsked
ready-is-asked p ready nodes interface low =
    let ds = p.declarations in
    record {
      form = ready.form;
      named = ready.sane.named;
      typed = ready.sane.typed;
      nodes = nodes;
      interface = interface;
      asked = phase-asked ds p.body (levelled-flipped p ready.form) (both-true (nat_le _ _) (list_all (suits ds) (uses_of p.body)) ready.sane.named).1 ready.sane.race_free low;
    }

pub ready-images-are-sound : ReadyImagesAreSound
ready-images-are-sound p ready nodes interface low names shallow few lines = images-are-sound p (ready-is-asked p ready nodes interface low) names ready.sane.race_free shallow few lines
