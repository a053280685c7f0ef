-- A program whose loops declare all locals that they name means the same, and is as ready as it was.
use Rattle.std.proofs.Common.{◌≡◌, ◌<◌, ◌+◌, arith, ℕ, Bool, true, false, cond, List, [], ◌∷◌, ◌++◌, append-nil, length, map, filter, flat_map, refl, sym, ap, subst, ◌∙◌, Option, Some, None, Ok, Err, ⊎_elim, inl, inr}
use Rattle.std.proofs.Math.Path.{fun_ext}
use Rattle.std.specs.Prelude.{◌&&◌, ◌||◌, not, nat_eq, nat_lt, nat_le}
use Rattle.std.specs.List.{list_all}
use Rattle.std.proofs.lemmas.Bool.{both_ways, eqb-true, leb-true, lt-ltb}
use Rattle.gm_base.specs.declared.places.Place.{Place}
use Rattle.gm_value.specs.Bag.{IsIn}
use Rattle.gm_value.specs.declared.values.Value.TheVariants.{At}
use Rattle.gm_value.specs.declared.values.VType.{VType}
use Rattle.gm_value.specs.declared.values.VType.TheVariants as V
use Rattle.gm_value.specs.Operations.{is_true, same_type}
use Rattle.gm_ast.specs.declared.tree.Declaration.{Declaration}
use Rattle.gm_ast.specs.declared.tree.Head.{Head}
use Rattle.gm_ast.specs.declared.tree.Key.{Key}
use Rattle.gm_ast.specs.declared.tree.Sort.TheVariants as Sorts
use Rattle.gm_ast.specs.declared.tree.Target.{Target}
use Rattle.gm_ast.specs.declared.tree.Target.TheVariants as T
use Rattle.gm_ast.specs.declared.tree.Variable.{Variable}
use Rattle.gm_ast.specs.Keys.{Fault}
use Rattle.gm_ast.specs.Loops.{is_nodes}
use Rattle.gm_ast.specs.Names.{sort_eq}
use Rattle.gm_ast.specs.Program.{Expr, Var, Stmt, Skip, Then, Declare, Assign, Defer, Combine, Foreach, If, Program, sequence}
use Rattle.gm_ast.specs.Ways.{is_in}
use Rattle.gm_semantics.specs.declared.faults.Fault as F
use Rattle.gm_semantics.specs.declared.slots.Slot.TheVariants.{Scalar}
use Rattle.gm_semantics.specs.Stores.{Store, write}
use Rattle.gm_semantics.specs.Levels.{nodes, no_levels}
use Rattle.gm_semantics.specs.Expressions.{Answer, value}
use Rattle.gm_semantics.specs.Iterations.{Loop, Mode, Iteration, Outermost, begun, unless_failed, go_on, with_ok, one_way, as_it_is, view_in, does}
use Rattle.gm_semantics.specs.Loops.{pushes, iteration, loop_done}
use Rattle.gm_semantics.specs.Statements.{Run, variable_at, loop_of, with_value, with_store, sequential}
use Rattle.gm_semantics.specs.Frames.{TargetsBelow, NamesBelow, AlikeCourses}
use Rattle.gm_semantics.proofs.StatementFrames.{sequential-alike}
use Rattle.gm_forms.specs.Cut.{is_own_loop}
use Rattle.gm_forms.specs.Extends.{Extends, run_of, start_of}
use Rattle.gm_forms.specs.Forms.{depth_at, is_flat, is_outer_body, is_flat_loop}
use Rattle.gm_forms.specs.Meanings.{SameMeaning}
use Rattle.gm_forms.specs.Order.{lie_before, fault_of, are_numbered, cannot_fail, hoisted_in, in_order, faults_in, faults_of, body_in_order, begins}
use Rattle.gm_forms.specs.Ready.{Ready2}
use Rattle.gm_forms.specs.Sharing.{Read, Reduced, told_in, reads_in, sights_of, written, reduced, deferred, inners_share, shares, disjoint, shared_in, kept_in, read_anywhere, read_elsewhere, all_agree, targets_alike}
use Rattle.gm_forms.specs.Typing.{type_at, has_type, is_typed_in}
use Rattle.gm_forms.specs.Uses.{Role, Written, Told, has_role, use_as, suits, uses_in, uses_of_head, uses_of}
use Rattle.gm_forms.proofs.CutTests.{found}
use Rattle.gm_forms.proofs.Doings.{in-left, in-right, in-either}
use Rattle.gm_forms.proofs.Named.{both-true, all-append, names-below}
use Rattle.gm_forms.proofs.Tables.{same-alike}
use Rattle.gm_forms.proofs.Weaker.{and-true}
use Rattle.gm_loop_laws.specs.Masks.{looped}
use Rattle.gm_loop_laws.proofs.Chosen.{disjoint-apart, apart-disjoint}
use Rattle.gm_dissect.specs.Locals.{declares}
use Rattle.gm_dissect.specs.Loops.{each_loop}
use Rattle.gm_dissect.proofs.DeferredLaws.{known-phase}
use Rattle.gm_dissect.proofs.Kept.{Sound, phase-kept}
use Rattle.gm_dissect.proofs.Phases.{Rewrites, phase-alike}
use Rattle.gm_dissect.proofs.SavedLoops.{or-false}
use Rattle.gm_dissect.proofs.Undeferred.{append-true}
use Rattle.gm_cut.specs.Slices.{told_at}
use Rattle.gm_parting.specs.Declared.{names_of, is_undeclared, declared_first, declared_loop, with_locals_declared}
use Rattle.gm_parting.specs.Nodes.{is_body_local}
use Rattle.gm_parting.proofs.ApartLaws.{option-below, all-below}
use Rattle.gm_parting.proofs.DeclaredRoles.{shared-apart, deferred-apart, unread-both, unread-elsewhere, expr-unread, body-unread}
use Rattle.gm_parting.proofs.Loops.{sound-of, told-below}

-- ---- what a declaration does

write-held : (s : Store) (x : ℕ) → write s (Scalar x) (s.scalar x) ≡ s
write-held s x = ap (λ f. record s { scalar = f }) (fun_ext (λ y. by y (nat_eq x y) refl))
  where
    by : (y : ℕ) (b : Bool) → nat_eq x y ≡ b → cond b (s.scalar x) (s.scalar y) ≡ s.scalar y
    by y true e = ap s.scalar (eqb-true x y e)
    by y false e = refl

last-alone : (s : Stmt) (m : Mode) (loop : Loop) (it : Iteration) → does (Then s Skip) m loop it ≡ does s m loop it
last-alone s m loop it = by (does s m loop it) (does s m loop it).fault
  where
    by : (a : Iteration) (o : Option F.Fault) → unless_failed o a (λ x. x) ≡ a
    by a None = refl
    by a (Some f) = refl

module _ (loop : Loop) (k : Key) (at : Place) where
  first-does : (x : ℕ) (s : Stmt) (it : Iteration) → it.fault ≡ None → does (sequence (Declare k x (Some (Var x at)) ∷ s ∷ [])) Outermost loop it ≡ does s Outermost loop it
  first-does x s it fine =
      ap (λ st. go_on (record it { store = st }) (does (Then s Skip) Outermost loop)) (write-held it.store x) ∙ ap (λ o. unless_failed o it (does (Then s Skip) Outermost loop)) fine ∙ last-alone s Outermost loop it

  declared-does : (xs : List ℕ) (body : Stmt) (it : Iteration) → it.fault ≡ None → does (declared_first k at xs body) Outermost loop it ≡ does body Outermost loop it
  declared-does [] body it fine = refl
  declared-does (x ∷ xs) body it fine = first-does x (declared_first k at xs body) it fine ∙ declared-does xs body it fine

  declared-turn : (xs : List ℕ) (key : Key) (test : Expr) (body : Stmt) (s : Store) (n : ℕ) → iteration loop key test (declared_first k at xs body) s n ≡ iteration loop key test body s n
  declared-turn xs key test body s n = by (value test (view_in loop Outermost start key))
    where
      start : Iteration
      start = begun (write s (Scalar loop.outer) (At (Some n)))

      way : (o : Bool) → one_way o (does (declared_first k at xs body) Outermost loop) as_it_is start ≡ one_way o (does body Outermost loop) as_it_is start
      way true = declared-does xs body start refl
      way false = refl

      by : (r : Answer) → with_ok start r (λ v. one_way (is_true v) (does (declared_first k at xs body) Outermost loop) as_it_is start) ≡ with_ok start r (λ v. one_way (is_true v) (does body Outermost loop) as_it_is start)
      by (Ok v) = way (is_true v)
      by (Err f) = refl

  declared-looped : (xs : List ℕ) (key : Key) (test : Expr) (body : Stmt) (s : Store) → looped loop key test (declared_first k at xs body) s ≡ looped loop key test body s
  declared-looped xs key test body s = ap (λ (f : ℕ → Iteration). loop_done s (nodes loop.graph) (map f (nodes loop.graph))) (fun_ext (declared-turn xs key test body s))

declared-pushes : (k : Key) (at : Place) (n p : ℕ) (xs : List ℕ) (body : Stmt) → pushes (declared_first k at xs body) n p ≡ pushes body n p
declared-pushes k at n p [] body = refl
declared-pushes k at n p (x ∷ xs) body = or-false (pushes (declared_first k at xs body) n p) ∙ declared-pushes k at n p xs body

module _ (ds : List Declaration) (run : Run) where
  pub declared-alike : Rewrites ds run (declared_loop ds)
  declared-alike key at h test body known u v alike = by (is_own_loop h.iterator body)
    where
      xs : List ℕ
      xs = filter (is_undeclared ds body) (names_of body)

      old : AlikeCourses (length ds) (sequential (Foreach key at h test body) run u) (sequential (Foreach key at h test body) run v)
      old = sequential-alike (length ds) (Foreach key at h test body) run u v (names-below ds (Foreach key at h test body) known.named) alike

      same : sequential (Foreach key at h test (declared_first key at xs body)) run v ≡ sequential (Foreach key at h test body) run v
      same =
          let inside = declared_first key at xs body in
          let loop : Loop = loop_of run no_levels h.iterator body in
          ap (λ (f : ℕ → Bool). with_value (looped (record loop { pushed = f }) key test inside v.store) (with_store v)) (fun_ext (λ p. declared-pushes key at h.iterator p xs body))
          ∙ ap (λ r. with_value r (with_store v)) (declared-looped loop key at xs key test body v.store)

      by : (o : Bool) → AlikeCourses (length ds) (sequential (Foreach key at h test body) run u) (sequential (cond o (Foreach key at h test body) (Foreach key at h test (declared_first key at xs body))) run v)
      by true = old
      by false = subst (AlikeCourses (length ds) (sequential (Foreach key at h test body) run u)) (sym same) old

-- ---- what a loop keeps

and-one : (x : Bool) → x && true ≡ x
and-one true = refl
and-one false = refl

nothing-before : (ys : List Fault) → lie_before [] ys ≡ true
nothing-before [] = refl
nothing-before (y ∷ ys) = nothing-before ys

type-itself : (t : VType) → same_type t t ≡ true
type-itself V.I32 = refl
type-itself V.I64 = refl
type-itself V.Flag = refl
type-itself V.Node = refl

not-in : (xs : List ℕ) (x : ℕ) → (IsIn x xs → ⊥) → not (is_in xs x) ≡ true
not-in xs x o = by (is_in xs x) refl
  where
    by : (b : Bool) → is_in xs x ≡ b → not b ≡ true
    by true e = absurd (o (found xs x e))
    by false e = refl

scalar-roles : (v : Variable) → sort_eq Sorts.Scalar v.sort ≡ true → (has_role v Written ≡ true) × (has_role v Told ≡ true)
scalar-roles v h = (h, ap (λ b. b || (sort_eq Sorts.Iterator v.sort || sort_eq Sorts.Graph v.sort)) h)

module _ (ds : List Declaration) (res : Option VType) (key : Key) (here : Place) (hd : Head) (test : Expr) where
  abbrev n : ℕ
  n = hd.iterator

  abbrev loop_of_body : Stmt → Stmt
  loop_of_body s = Foreach key here hd test s

  -- x: a local
  module _ (x : ℕ) (low : x < length ds) (local : is_body_local ds x ≡ true) (s : Stmt) (sound : Sound ds res (Foreach key here hd test s)) where
    abbrev first : Stmt
    first = sequence (Declare key x (Some (Var x here)) ∷ s ∷ [])

    abbrev its : List ℕ
    its = n ∷ []

    sorts : (sort_eq Sorts.Scalar (variable_at ds x).sort ≡ true) × (nat_eq (depth_at ds x) 1 ≡ true)
    sorts = both-true (sort_eq Sorts.Scalar (variable_at ds x).sort) (nat_eq (depth_at ds x) 1) local

    one-use : (role : Role) → has_role (variable_at ds x) role ≡ true → list_all (suits ds) (use_as role x) ≡ true
    one-use role h = and-true (nat_lt x (length ds) && has_role (variable_at ds x) role) true (and-true (nat_lt x (length ds)) (has_role (variable_at ds x) role) (lt-ltb x (length ds) low) h) refl

    uses : (list_all (suits ds) (uses_of_head hd) ≡ true) × ((list_all (suits ds) (uses_in test) ≡ true) × (list_all (suits ds) (uses_of s) ≡ true))
    uses = let a = all-append (suits ds) (uses_of_head hd) (uses_in test ++ uses_of s) sound.named in (a.0, all-append (suits ds) (uses_in test) (uses_of s) a.1)

    flat : (is_nodes hd.domain ≡ true) × ((is_flat its false test ≡ true) × (is_outer_body ds false n s ≡ true))
    flat =
        let a = both-true (is_nodes hd.domain) (is_flat_loop ds false n test s) sound.form in
        (a.0, both-true (is_flat its false test) (is_outer_body ds false n s) a.1)

    abbrev shares_by : List Read → List ℕ → List Reduced → List ℕ → List ℕ → Bool → Bool → Bool
    shares_by properties scalars all own gone inners alike =
        disjoint (shared_in all) (read_anywhere (reads_in test ++ properties) ++ ((told_in test ++ scalars) ++ own))
        && (disjoint (own ++ kept_in all) (read_elsewhere n (reads_in test ++ properties))
        && (disjoint gone (own ++ (shared_in all ++ kept_in all))
        && (all_agree all && (inners && alike))))

    shared : shares ds n test first ≡ true
    shared =
        let props = (sights_of ds n false s).properties in
        let said = (sights_of ds n false s).scalars in
        let all = reduced ds n false s in
        let own = written ds n false s in
        let gone = deferred s in
        let inners = inners_share ds n s in
        let alike = targets_alike s in
        let reading = read_anywhere (reads_in test ++ props) in
        let elsewhere = read_elsewhere n (reads_in test ++ props) in
        let told = told_in test ++ said in
        let telling = told_in test ++ (x ∷ said) in
        let others = shared_in all ++ kept_in all in
        let rest = all_agree all && (inners && alike) in
        let a = both-true (disjoint (shared_in all) (reading ++ (told ++ own))) (disjoint (own ++ kept_in all) elsewhere && (disjoint gone (own ++ others) && rest)) sound.share in
        let b = both-true (disjoint (own ++ kept_in all) elsewhere) (disjoint gone (own ++ others) && rest) a.1 in
        let c = both-true (disjoint gone (own ++ others)) rest b.1 in
        let not-shared : (y : ℕ) → IsIn y (shared_in all) → y ≡ x → ⊥ = λ y i e. shared-apart ds n x local false s uses.1.1 (subst (λ z. IsIn z (shared_in all)) e i) in
        let not-gone : (y : ℕ) → IsIn y gone → y ≡ x → ⊥ = λ y i e. deferred-apart ds n x local s uses.1.1 flat.1.1 (subst (λ z. IsIn z gone) e i) in
        let one : disjoint (shared_in all) (reading ++ (telling ++ (x ∷ own))) ≡ true = apart-disjoint (shared_in all) (reading ++ (telling ++ (x ∷ own))) (λ y i j.
        let apart : IsIn y (reading ++ (told ++ own)) → ⊥ = λ m. disjoint-apart (shared_in all) (reading ++ (told ++ own)) y a.0 i m in
        ⊎_elim (λ l. apart (in-left y reading (told ++ own) l))
        (λ r. ⊎_elim (λ l. ⊎_elim (λ m. apart (in-right y reading (told ++ own) (in-left y told own (in-left y (told_in test) said m))))
        (λ m. ⊎_elim (λ e. not-shared y i e) (λ w. apart (in-right y reading (told ++ own) (in-left y told own (in-right y (told_in test) said w)))) m) (in-either y (told_in test) (x ∷ said) l))
        (λ m. ⊎_elim (λ e. not-shared y i e) (λ w. apart (in-right y reading (told ++ own) (in-right y told own w))) m) (in-either y telling (x ∷ own) r)) (in-either y reading (telling ++ (x ∷ own)) j)) in
        let unread = unread-elsewhere ds n x local (reads_in test ++ props) (unread-both ds n x local (reads_in test) props (expr-unread ds n x local test uses.1.0) (body-unread ds n x local false s uses.1.1)) in
        let two : disjoint ((x ∷ own) ++ kept_in all) elsewhere ≡ true = and-true (not (is_in elsewhere x)) (disjoint (own ++ kept_in all) elsewhere) (not-in elsewhere x unread) b.0 in
        let three : disjoint gone ((x ∷ own) ++ others) ≡ true = apart-disjoint gone ((x ∷ own) ++ others) (λ y i j. ⊎_elim (λ e. not-gone y i e) (λ m. disjoint-apart gone (own ++ others) y c.0 i m) j) in
        ap (λ l. shares_by l (x ∷ (said ++ [])) (all ++ []) (x ∷ (own ++ [])) (gone ++ []) (inners && true) (alike && true)) (append-nil props)
        ∙ ap (λ l. shares_by props (x ∷ l) (all ++ []) (x ∷ (own ++ [])) (gone ++ []) (inners && true) (alike && true)) (append-nil said)
        ∙ ap (λ l. shares_by props (x ∷ said) l (x ∷ (own ++ [])) (gone ++ []) (inners && true) (alike && true)) (append-nil all)
        ∙ ap (λ l. shares_by props (x ∷ said) all (x ∷ l) (gone ++ []) (inners && true) (alike && true)) (append-nil own)
        ∙ ap (λ l. shares_by props (x ∷ said) all (x ∷ own) l (inners && true) (alike && true)) (append-nil gone)
        ∙ ap (λ l. shares_by props (x ∷ said) all (x ∷ own) gone l (alike && true)) (and-one inners)
        ∙ ap (λ l. shares_by props (x ∷ said) all (x ∷ own) gone inners l) (and-one alike)
        ∙ and-true (disjoint (shared_in all) (reading ++ (telling ++ (x ∷ own)))) (disjoint ((x ∷ own) ++ kept_in all) elsewhere && (disjoint gone ((x ∷ own) ++ others) && rest)) one
        (and-true (disjoint ((x ∷ own) ++ kept_in all) elsewhere) (disjoint gone ((x ∷ own) ++ others) && rest) two (and-true (disjoint gone ((x ∷ own) ++ others)) rest three c.1))

    first-kept : Sound ds res (Foreach key here hd test (sequence (Declare key x (Some (Var x here)) ∷ s ∷ [])))
    first-kept =
        let roles = scalar-roles (variable_at ds x) sorts.0 in
        let lies = lie_before (faults_in test key) (faults_of its s) in
        let w = both-true (begins its key hd.place test s) (in_order test key && (body_in_order its s && lies)) sound.order in
        let o = both-true (in_order test key) (body_in_order its s && lies) w.1 in
        let p = both-true (body_in_order its s) lies o.1 in
        let t = both-true (has_type ds V.Flag test) (is_typed_in ds res s) sound.typed in
        let same-faults : faults_of its s ++ [] ≡ faults_of its s = append-nil (faults_of its s) in
        let inside = body_in_order its s && (true && lie_before (faults_of its s) []) in
        record {
          named = append-true (suits ds) (uses_of_head hd) (uses_in test ++ uses_of first) uses.0 (append-true (suits ds) (uses_in test) (uses_of first) uses.1.0
              (append-true (suits ds) (use_as Written x ++ use_as Told x) (uses_of s ++ []) (append-true (suits ds) (use_as Written x) (use_as Told x) (one-use Written roles.0) (one-use Told roles.1)) (append-true (suits ds) (uses_of s) [] uses.1.1 refl)));
          typed = and-true (has_type ds V.Flag test) (is_typed_in ds res first) t.0
              (and-true (has_type ds (type_at ds x) (Var x here)) (is_typed_in ds res s && true) (type-itself (type_at ds x)) (and-true (is_typed_in ds res s) true t.1 refl));
          order =
              and-true (begins its key hd.place test first) (in_order test key && (body_in_order its first && lie_before (faults_in test key) (faults_of its first)))
              (ap (λ fs. lie_before (fault_of key hd.place ∷ []) fs && (are_numbered (hoisted_in test ++ fs) && (nat_lt 0 key.statement || cannot_fail test))) same-faults ∙ w.0)
              (and-true (in_order test key) (body_in_order its first && lie_before (faults_in test key) (faults_of its first)) o.0
              (and-true (body_in_order its first) (lie_before (faults_in test key) (faults_of its first))
              (and-true inside (lie_before [] (faults_of its s ++ [])) (and-true (body_in_order its s) (true && lie_before (faults_of its s) []) p.0 refl) (nothing-before (faults_of its s ++ [])))
              (ap (lie_before (faults_in test key)) same-faults ∙ p.1)));
          share = shared;
          form =
              and-true (is_nodes hd.domain) (is_flat its false test && is_outer_body ds false n first) flat.0
              (and-true (is_flat its false test) (is_outer_body ds false n first) flat.1.0
              (and-true (nat_eq (depth_at ds x) 1 && true) (is_outer_body ds false n s && true) (and-true (nat_eq (depth_at ds x) 1) true sorts.1 refl) (and-true (is_outer_body ds false n s) true flat.1.1 refl)));
        }

  -- all of some locals
  record Locals (xs : List ℕ) : Type 0 where
    low : (x : ℕ) → IsIn x xs → x < length ds
    local : (x : ℕ) → IsIn x xs → is_body_local ds x ≡ true

  all-kept : (xs : List ℕ) (s : Stmt) → Locals xs → Sound ds res (loop_of_body s) → Sound ds res (loop_of_body (declared_first key here xs s))
  all-kept [] s l sound = sound
  all-kept (x ∷ xs) s l sound =
      first-kept x (l.low x (inl refl)) (l.local x (inl refl)) (declared_first key here xs s) (all-kept xs s (record { low = λ y i. l.low y (inr i); local = λ y i. l.local y (inr i) }) sound)

-- ---- names

filtered : (f : ℕ → Bool) (xs : List ℕ) (x : ℕ) → IsIn x (filter f xs) → IsIn x xs × (f x ≡ true)
filtered f [] x i = absurd i
filtered f (y ∷ ys) x i = by (f y) refl (filtered f ys x) i
  where
    by : (b : Bool) → f y ≡ b → (IsIn x (filter f ys) → IsIn x ys × (f x ≡ true)) → IsIn x (cond b (y ∷ filter f ys) (filter f ys)) → IsIn x (y ∷ ys) × (f x ≡ true)
    by true e more i = ⊎_elim (λ (s : x ≡ y). (inl s, subst (λ z. f z ≡ true) (sym s) e)) (λ j. let r = more j in (inr r.0, r.1)) i
    by false e more i = let r = more i in (inr r.0, r.1)

pub in-filtered : (f : ℕ → Bool) (xs : List ℕ) (x : ℕ) → IsIn x xs → f x ≡ true → IsIn x (filter f xs)
in-filtered f [] x i h = i
in-filtered f (y ∷ ys) x i h = by (f y) refl (λ j. in-filtered f ys x j h) i
  where
    by : (b : Bool) → f y ≡ b → (IsIn x ys → IsIn x (filter f ys)) → IsIn x (y ∷ ys) → IsIn x (cond b (y ∷ filter f ys) (filter f ys))
    by true e more i = ⊎_elim (λ (s : x ≡ y). inl s) (λ j. inr (more j)) i
    by false e more i = ⊎_elim (λ (s : x ≡ y). absurd (both_ways (f y) e (subst (λ z. f z ≡ true) s h))) more i

module _ (k y : ℕ) where
  one-below : (x : ℕ) → x < k → y ≡ x → y < k
  one-below x l e = subst (λ z. z < k) (sym e) l

  at-below : (t : Target) → TargetsBelow k (t ∷ []) → IsIn y (told_at t) → y < k
  at-below (T.Scalar x at) h i = ⊎_elim (one-below x h.0) (λ j. absurd j) i
  at-below (T.Property x p at) h i = ⊎_elim (one-below x h.0.0) (λ j. absurd j) i

  all-at-below : (ts : List Target) → TargetsBelow k ts → IsIn y (flat_map told_at ts) → y < k
  all-at-below [] h i = absurd i
  all-at-below (t ∷ ts) h i = ⊎_elim (at-below t (h.0, tt)) (all-at-below ts h.1) (in-either y (told_at t) (flat_map told_at ts) i)

  names-of-below : (s : Stmt) → NamesBelow k s → IsIn y (names_of s) → y < k
  names-of-below (Then a b) h i = ⊎_elim (names-of-below a h.0) (names-of-below b h.1) (in-either y (names_of a) (names_of b) i)
  names-of-below (Declare q x e) h i = ⊎_elim (one-below x h.0) (option-below k y e h.1) i
  names-of-below (Assign q t e) h i = ⊎_elim (at-below t (h.0, tt)) (told-below k e h.1 y) (in-either y (told_at t) (told_in e) i)
  names-of-below (Defer q t e) h i = ⊎_elim (at-below t (h.0, tt)) (told-below k e h.1 y) (in-either y (told_at t) (told_in e) i)
  names-of-below (Combine q total r ts es) h i = ⊎_elim (all-at-below ts h.0) (all-below k y es h.1) (in-either y (flat_map told_at ts) _ i)
  names-of-below (If q c a b) h i = ⊎_elim (told-below k c h.0 y) (λ j. ⊎_elim (names-of-below a h.1) (names-of-below b h.2) (in-either y (names_of a) (names_of b) j)) (in-either y (told_in c) (names_of a ++ names_of b) i)
  names-of-below (Foreach q at hd test body) h i = ⊎_elim (one-below hd.owner h.1) (λ j. ⊎_elim (told-below k test h.2 y) (names-of-below body h.3) (in-either y (told_in test) (names_of body) j)) i
  names-of-below s h i = absurd i

-- ---- loops

module _ (ds : List Declaration) (res : Option VType) where
  listed-locals : (key : Key) (here : Place) (hd : Head) (test : Expr) (body : Stmt) → Sound ds res (Foreach key here hd test body) → Locals ds res key here hd test (filter (is_undeclared ds body) (names_of body))
  listed-locals key here hd test body sound = record {
    low = λ x i. names-of-below (length ds) x body (names-below ds (Foreach key here hd test body) sound.named).3 (filtered (is_undeclared ds body) (names_of body) x i).0;
    local = λ x i. (both-true (is_body_local ds x) (not (declares x body)) (filtered (is_undeclared ds body) (names_of body) x i).1).0;
  }

  pub loop-declared : (key : Key) (here : Place) (hd : Head) (test : Expr) (body : Stmt) → Sound ds res (Foreach key here hd test body) → Sound ds res (declared_loop ds key here hd test body)
  loop-declared key here hd test body sound = by (is_own_loop hd.iterator body)
    where
      by : (o : Bool) → Sound ds res (cond o (Foreach key here hd test body) (Foreach key here hd test (declared_first key here (filter (is_undeclared ds body) (names_of body)) body)))
      by true = sound
      by false = all-kept ds res key here hd test (filter (is_undeclared ds body) (names_of body)) body (listed-locals key here hd test body sound) sound

-- ---- programs

pub same-declared : (p : Program) → Ready2 p → SameMeaning p (with_locals_declared p)
same-declared p r =
    let ds = p.declarations in
    let q = with_locals_declared p in
    let known = known-phase p r in
    let m = both-true (nat_le (p.inputs + p.outputs) (length ds)) (list_all (suits ds) (uses_of p.body)) r.sane.named in
    let itself : Extends (length ds) p q = record { inputs = refl; outputs = refl; result = refl; within = leb-true (p.inputs + p.outputs) (length ds) m.0; variables = λ x b. refl } in
    same-alike (length ds) p q itself (names-below ds p.body known.named)
    (λ g args bound fits.
    let run = run_of q g bound in
    phase-alike ds run (declared_loop ds) (declared-alike ds run) p.body known (start_of q g args) (start_of q g args)
    (record { store = record { scalar = λ y b. refl; node = λ y n b. refl; edge = λ y n b. refl }; turns = refl }))

pub ready-declared : (p : Program) → Ready2 p → Ready2 (with_locals_declared p)
ready-declared p r =
    let ds = p.declarations in
    let m = both-true (nat_le (p.inputs + p.outputs) (length ds)) (list_all (suits ds) (uses_of p.body)) r.sane.named in
    let kept = phase-kept ds ds (λ x b. refl) (omega arith) p.result (declared_loop ds) (loop-declared ds p.result) p.body (sound-of p r) in
    record {
      sane = record {
        named = and-true (nat_le (p.inputs + p.outputs) (length ds)) (list_all (suits ds) (uses_of (each_loop (declared_loop ds) p.body))) m.0 kept.named;
        typed = kept.typed;
        ordered = kept.order;
        race_free = kept.share;
      };
      form = kept.form;
    }
