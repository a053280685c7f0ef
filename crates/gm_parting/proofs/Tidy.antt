-- Bodies that name no local but those of nodes that are read just before: none goes from one piece into another, and inner loops stand apart.
use Rattle.std.proofs.Common.{◌≡◌, ℕ, Bool, true, false, cond, List, [], ◌∷◌, ◌++◌, append-nil, refl, sym, ap, subst, ◌∙◌, Some, ◌⊎◌, ⊎_elim, inl, inr}
use Rattle.std.specs.Prelude.{◌&&◌, ◌||◌, not, nat_eq}
use Rattle.std.specs.List.{list_all}
use Rattle.std.proofs.lemmas.Bool.{both_ways, eqb-true}
use Rattle.gm_value.specs.Bag.{IsIn}
use Rattle.gm_value.specs.declared.reductions.Reduce.{Reduce}
use Rattle.gm_ast.specs.declared.tree.Declaration.{Declaration}
use Rattle.gm_ast.specs.declared.tree.Key.{Key}
use Rattle.gm_ast.specs.declared.tree.Sort.TheVariants as Sorts
use Rattle.gm_ast.specs.declared.tree.Target.{Target}
use Rattle.gm_ast.specs.declared.tree.Target.TheVariants as T
use Rattle.gm_ast.specs.declared.tree.TotalKey.{TotalKey}
use Rattle.gm_ast.specs.Names.{sort_eq}
use Rattle.gm_ast.specs.Program.{Expr, NodeCount, always, Stmt, Skip, Then, Declare, DeclareEdge, Assign, Defer, Combine, Group, Foreach, For, If, While, Do, InBfs, InBfsBoth, Return, sequence}
use Rattle.gm_semantics.specs.Statements.{variable_at}
use Rattle.gm_forms.specs.Cut.{adds_elsewhere, is_no_local, is_own_loop}
use Rattle.gm_forms.specs.Fission.{left, changed, reduced_locals}
use Rattle.gm_forms.specs.Fission as Fission
use Rattle.gm_forms.specs.Forms.{depth_at, is_flat, is_outer_body}
use Rattle.gm_forms.specs.Order.{first_key}
use Rattle.gm_forms.specs.Sharing.{told_in, sights_in_all, sights_of, sights_of_targets, sights_by, sights_at_target, sights_of_target, are_at_once, written_at_once, variables_of, is_owned, is_through, reduced_by, all_reduced_by, reduced, Reduced, owned_in, disjoint, targets_alike}
use Rattle.gm_forms.specs.Uses.{Iterates, Written, has_role, use_as, suits, uses_in, uses_of}
use Rattle.gm_forms.proofs.Doings.{in-left, in-right, in-either}
use Rattle.gm_forms.proofs.Named.{both-true, all-append}
use Rattle.gm_forms.proofs.Weaker.{and-true}
use Rattle.gm_loop_laws.proofs.Chosen.{disjoint-apart, apart-disjoint}
use Rattle.gm_dissect.specs.Locals.{locals_of}
use Rattle.gm_locals.proofs.Across.{none-across}
use Rattle.gm_cut.specs.Parts.{locals_stay}
use Rattle.gm_cut.specs.Runs.{placed, gathered, joins_run, with_runs}
use Rattle.gm_cut.proofs.Grouped.{append-assoc}
use Rattle.gm_cut.proofs.Runs.{grouped-same}
use Rattle.gm_parting.specs.InnerLoops.{inner_loops_apart}
use Rattle.gm_parting.specs.Locals.{names_pass}
use Rattle.gm_parting.specs.Staying.{locals_stay_within}
use Rattle.gm_parting.specs.Tuples.{reduces_evenly}
use Rattle.gm_parting.proofs.NoLocals.{Deep, not-told, plain-told, plain-spared, changes-none, stays-within, loops-apart, written-apart}

-- a reduction through a node that is read just before, apart from the rest
abbrev pub unit_of : Key → Key → ℕ → Expr → TotalKey → Reduce → List Target → List Expr → Stmt
unit_of j k y e total o ts es = If j always (sequence (Declare k y (Some e) ∷ Combine k total o ts es ∷ [])) Skip

-- ds: the table; n: the loop's iterator
pub data Tidy (ds : List Declaration) (n : ℕ) : Stmt → Type 0 where
  plain : (s : Stmt) → names_pass (is_no_local ds) (n ∷ []) s ≡ true → Tidy ds n s
  in_turn : (a b : Stmt) → Tidy ds n a → Tidy ds n b → Tidy ds n (Then a b)
  branches : (k : Key) (c : Expr) (a b : Stmt) → list_all (is_no_local ds (n ∷ [])) (told_in c) ≡ true → Tidy ds n a → Tidy ds n b → Tidy ds n (If k c a b)
  unit : (j k : Key) (y : ℕ) (e : Expr) (total : TotalKey) (o : Reduce) (t : Target) (ts : List Target) (es : List Expr) → nat_eq y n ≡ false → list_all (is_through y) (t ∷ ts) ≡ true →
      list_all (is_no_local ds (n ∷ [])) (told_in e) ≡ true → list_all (is_no_local ds (n ∷ [])) (sights_in_all es).scalars ≡ true → Tidy ds n (unit_of j k y e total o (t ∷ ts) es)

or-true : (b : Bool) → b || true ≡ true
or-true true = refl
or-true false = refl

-- ---- with its runs in blocks

module _ (ds : List Declaration) (n : ℕ) where
  abbrev own : Stmt → Bool
  own = is_own_loop n

  abbrev joins : List Stmt → Stmt → Bool
  joins = joins_run n

  abbrev IsTidy : Stmt → Type 0
  IsTidy s = Tidy ds n s

  tidy-more : (run : List Stmt) (s : Stmt) → IsTidy (sequence run) → IsTidy s → ((x : Stmt) (xs : List Stmt) → IsTidy (sequence (x ∷ xs)) → IsTidy x × IsTidy (sequence xs)) → IsTidy (sequence (run ++ (s ∷ [])))
  tidy-more [] s r t split = in_turn s Skip t (plain Skip refl)
  tidy-more (x ∷ run) s r t split = let q = split x run r in in_turn x (sequence (run ++ (s ∷ []))) q.0 (tidy-more run s q.1 t split)

  split-tidy : (a b : Stmt) → IsTidy (Then a b) → IsTidy a × IsTidy b
  split-tidy a b (plain s h) = let r = both-true (names_pass (is_no_local ds) (n ∷ []) a) (names_pass (is_no_local ds) (n ∷ []) b) h in (plain a r.0, plain b r.1)
  split-tidy a b (in_turn c d p q) = (p, q)

  Rest : (List Stmt → Stmt) → Type 0
  Rest rest = (r : List Stmt) → IsTidy (sequence r) → IsTidy (rest r)

  joined-tidy : (b c : Bool) (run : List Stmt) (s t : Stmt) (rest : List Stmt → Stmt) → IsTidy (sequence run) → IsTidy s → IsTidy t → ((r : List Stmt) → IsTidy (sequence r) → IsTidy (rest r)) → IsTidy (placed own joins b c run s t rest)
  joined-tidy true c run s t rest r p q h = h (run ++ (s ∷ [])) (tidy-more run s r p (λ x xs d. split-tidy x (sequence xs) d))
  joined-tidy false true [] s t rest r p q h = h (s ∷ []) (in_turn s Skip p (plain Skip refl))
  joined-tidy false true (x ∷ run) s t rest r p q h = in_turn (sequence (x ∷ run)) (rest (s ∷ [])) r (h (s ∷ []) (in_turn s Skip p (plain Skip refl)))
  joined-tidy false false [] s t rest r p q h = in_turn t (rest []) q (h [] (plain Skip refl))
  joined-tidy false false (x ∷ run) s t rest r p q h = in_turn (sequence (x ∷ run)) (Then t (rest [])) r (in_turn t (rest []) q (h [] (plain Skip refl)))

  plain-gathered : (s : Stmt) → names_pass (is_no_local ds) (n ∷ []) s ≡ true → (run : List Stmt) (rest : List Stmt → Stmt) → IsTidy (sequence run) → ((r : List Stmt) → IsTidy (sequence r) → IsTidy (rest r)) → IsTidy (gathered own joins s run rest)
  plain-gathered Skip f run rest r h = h run r
  plain-gathered (Then a b) f run rest r h =
      let q = both-true (names_pass (is_no_local ds) (n ∷ []) a) (names_pass (is_no_local ds) (n ∷ []) b) f in
      plain-gathered a q.0 run (λ r. gathered own joins b r rest) r (λ u d. plain-gathered b q.1 u rest d h)
  plain-gathered (If k c a b) f run rest r h =
      let p = both-true (list_all (is_no_local ds (n ∷ [])) (told_in c)) (names_pass (is_no_local ds) (n ∷ []) a && names_pass (is_no_local ds) (n ∷ []) b) f in
      let q = both-true (names_pass (is_no_local ds) (n ∷ []) a) (names_pass (is_no_local ds) (n ∷ []) b) p.1 in
      let a' = gathered own joins a [] sequence in
      let b' = gathered own joins b [] sequence in
      joined-tidy (joins run (If k c a b)) (own (If k c a b)) run (If k c a b) (If k c a' b') rest r (plain (If k c a b) f)
      (branches k c a' b' p.0 (plain-gathered a q.0 [] sequence (plain Skip refl) (λ u d. d)) (plain-gathered b q.1 [] sequence (plain Skip refl) (λ u d. d))) h
  plain-gathered (Declare k x e) f run rest r h = joined-tidy (joins run (Declare k x e)) (own (Declare k x e)) run (Declare k x e) (Declare k x e) rest r (plain (Declare k x e) f) (plain (Declare k x e) f) h
  plain-gathered (DeclareEdge x y at) f run rest r h = joined-tidy (joins run (DeclareEdge x y at)) (own (DeclareEdge x y at)) run (DeclareEdge x y at) (DeclareEdge x y at) rest r (plain (DeclareEdge x y at) f) (plain (DeclareEdge x y at) f) h
  plain-gathered (Assign k t e) f run rest r h = joined-tidy (joins run (Assign k t e)) (own (Assign k t e)) run (Assign k t e) (Assign k t e) rest r (plain (Assign k t e) f) (plain (Assign k t e) f) h
  plain-gathered (Defer k t e) f run rest r h = joined-tidy (joins run (Defer k t e)) (own (Defer k t e)) run (Defer k t e) (Defer k t e) rest r (plain (Defer k t e) f) (plain (Defer k t e) f) h
  plain-gathered (Combine k total o ts es) f run rest r h =
      joined-tidy (joins run (Combine k total o ts es)) (own (Combine k total o ts es)) run (Combine k total o ts es) (Combine k total o ts es) rest r (plain (Combine k total o ts es) f) (plain (Combine k total o ts es) f) h
  plain-gathered (Group k at g p e) f run rest r h = joined-tidy (joins run (Group k at g p e)) (own (Group k at g p e)) run (Group k at g p e) (Group k at g p e) rest r (plain (Group k at g p e) f) (plain (Group k at g p e) f) h
  plain-gathered (Foreach k at hd test body) f run rest r h =
      joined-tidy (joins run (Foreach k at hd test body)) (own (Foreach k at hd test body)) run (Foreach k at hd test body) (Foreach k at hd test body) rest r (plain (Foreach k at hd test body) f) (plain (Foreach k at hd test body) f) h
  plain-gathered (For k at hd test body) f run rest r h = joined-tidy (joins run (For k at hd test body)) (own (For k at hd test body)) run (For k at hd test body) (For k at hd test body) rest r (plain (For k at hd test body) f) (plain (For k at hd test body) f) h
  plain-gathered (While k at c body) f run rest r h = joined-tidy (joins run (While k at c body)) (own (While k at c body)) run (While k at c body) (While k at c body) rest r (plain (While k at c body) f) (plain (While k at c body) f) h
  plain-gathered (Do k at body c) f run rest r h = joined-tidy (joins run (Do k at body c)) (own (Do k at body c)) run (Do k at body c) (Do k at body c) rest r (plain (Do k at body c) f) (plain (Do k at body c) f) h
  plain-gathered (InBfs k at hd c body) f run rest r h = joined-tidy (joins run (InBfs k at hd c body)) (own (InBfs k at hd c body)) run (InBfs k at hd c body) (InBfs k at hd c body) rest r (plain (InBfs k at hd c body) f) (plain (InBfs k at hd c body) f) h
  plain-gathered (InBfsBoth k at hd c body j d back) f run rest r h =
      joined-tidy (joins run (InBfsBoth k at hd c body j d back)) (own (InBfsBoth k at hd c body j d back)) run (InBfsBoth k at hd c body j d back) (InBfsBoth k at hd c body j d back) rest r (plain (InBfsBoth k at hd c body j d back) f)
      (plain (InBfsBoth k at hd c body j d back) f) h
  plain-gathered (Return k at e) f run rest r h = joined-tidy (joins run (Return k at e)) (own (Return k at e)) run (Return k at e) (Return k at e) rest r (plain (Return k at e) f) (plain (Return k at e) f) h

  tidy-gathered : (s : Stmt) → IsTidy s → (run : List Stmt) (rest : List Stmt → Stmt) → IsTidy (sequence run) → ((r : List Stmt) → IsTidy (sequence r) → IsTidy (rest r)) → IsTidy (gathered own joins s run rest)
  tidy-gathered s (plain t f) run rest r h = plain-gathered s f run rest r h
  tidy-gathered s (in_turn a b p q) run rest r h = tidy-gathered a p run (λ r. gathered own joins b r rest) r (λ u d. tidy-gathered b q u rest d h)
  tidy-gathered s (branches k c a b e p q) run rest r h =
      let a' = gathered own joins a [] sequence in
      let b' = gathered own joins b [] sequence in
      joined-tidy (joins run (If k c a b)) (own (If k c a b)) run (If k c a b) (If k c a' b') rest r (branches k c a b e p q)
      (branches k c a' b' e (tidy-gathered a p [] sequence (plain Skip refl) (λ u d. d)) (tidy-gathered b q [] sequence (plain Skip refl) (λ u d. d))) h
  tidy-gathered s (unit j k y e total o t ts es away all told rest-told) run rest r h =
      let one = unit_of j k y e total o (t ∷ ts) es in
      joined-tidy (joins run one) (own one) run one one rest r (unit j k y e total o t ts es away all told rest-told) (unit j k y e total o t ts es away all told rest-told) h

  pub tidy-runs : (s : Stmt) → IsTidy s → IsTidy (with_runs n s)
  tidy-runs s p = tidy-gathered s p [] sequence (plain Skip refl) (λ u d. d)

  pub locals-same : (s : Stmt) → locals_of (with_runs n s) ≡ locals_of s
  locals-same s =
      grouped-same own joins locals_of (λ x y. x ++ y) [] refl (λ a b. refl) append-assoc (λ x. refl) append-nil
      (λ k c a b a' b' e h. ap (λ x. x ++ locals_of b) e ∙ ap (λ x. locals_of a' ++ x) h) s

-- ---- what stays within a piece

-- no variable stands twice
abbrev Once : List ℕ → List ℕ → Type 0
Once xs ys = (z : ℕ) → IsIn z xs → IsIn z ys → ⊥

abbrev pub Distinct : List ℕ → Type 0
Distinct [] = Unit {0}
Distinct (x ∷ xs) = (IsIn x xs → ⊥) × Distinct xs

pub distinct-parts : (xs ys : List ℕ) → Distinct (xs ++ ys) → Distinct xs × Distinct ys × ((z : ℕ) → IsIn z xs → IsIn z ys → ⊥)
distinct-parts [] ys h = (tt, h, λ z i j. absurd i)
distinct-parts (x ∷ xs) ys h =
    let r = distinct-parts xs ys h.1 in ((λ i. h.0 (in-left x xs ys i), r.0), r.1, λ z i j. ⊎_elim (λ (e : z ≡ x). h.0 (in-right x xs ys (subst (λ w. IsIn w ys) e j))) (λ k. r.2 z k j) i)

module _ (ds : List Declaration) (n : ℕ) (iterates : has_role (variable_at ds n) Iterates ≡ true) where
  -- what is known of a part
  pub record Known (s : Stmt) : Type 0 where
    pub named : list_all (suits ds) (uses_of s) ≡ true
    pub form : is_outer_body ds false n s ≡ true
    pub alike : targets_alike s ≡ true
    pub even : reduces_evenly ds s ≡ true

  known-both : (a b : Stmt) → Known (Then a b) → Known a × Known b
  known-both a b p =
      let u = all-append (suits ds) (uses_of a) (uses_of b) p.named in
      let f = both-true (is_outer_body ds false n a) (is_outer_body ds false n b) p.form in
      let l = both-true (targets_alike a) (targets_alike b) p.alike in
      let e = both-true (reduces_evenly ds a) (reduces_evenly ds b) p.even in
      (record { named = u.0; form = f.0; alike = l.0; even = e.0 }, record { named = u.1; form = f.1; alike = l.1; even = e.1 })

  known-branches : (k : Key) (c : Expr) (a b : Stmt) → Known (If k c a b) → Known (Then a b)
  known-branches k c a b p = record {
    named = (all-append (suits ds) (uses_in c) (uses_of a ++ uses_of b) p.named).1;
    form = (both-true (is_flat (n ∷ []) false c) (is_outer_body ds false n a && is_outer_body ds false n b) p.form).1;
    alike = p.alike;
    even = p.even;
  }

  -- the locals of such a body are locals of the outer body
  locals-deep : (s : Stmt) → is_outer_body ds false n s ≡ true → list_all (suits ds) (uses_of s) ≡ true → (y : ℕ) → IsIn y (locals_of s) → (nat_eq (depth_at ds y) 1 ≡ true)
  locals-deep (Then a b) f u y i =
      let g = both-true (is_outer_body ds false n a) (is_outer_body ds false n b) f in
      let v = all-append (suits ds) (uses_of a) (uses_of b) u in
      ⊎_elim (locals-deep a g.0 v.0 y) (locals-deep b g.1 v.1 y) (in-either y (locals_of a) (locals_of b) i)
  locals-deep (If k c a b) f u y i =
      let e = both-true (is_flat (n ∷ []) false c) (is_outer_body ds false n a && is_outer_body ds false n b) f in
      let g = both-true (is_outer_body ds false n a) (is_outer_body ds false n b) e.1 in
      let v = all-append (suits ds) (uses_of a) (uses_of b) (all-append (suits ds) (uses_in c) (uses_of a ++ uses_of b) u).1 in
      ⊎_elim (locals-deep a g.0 v.0 y) (locals-deep b g.1 v.1 y) (in-either y (locals_of a) (locals_of b) i)
  locals-deep (Declare k x e) f u y i = ⊎_elim (λ (e : y ≡ x). ap (λ w. nat_eq (depth_at ds w) 1) e ∙ declared-depth) (λ j. absurd j) i
    where
      declared-depth : nat_eq (depth_at ds x) 1 ≡ true
      declared-depth = (both-true (nat_eq (depth_at ds x) 1) _ f).0
  locals-deep s f u y i = absurd i

  -- the node of a unit
  unit-deep : (j k : Key) (y : ℕ) (e : Expr) (total : TotalKey) (o : Reduce) (ts : List Target) (es : List Expr) → Known (unit_of j k y e total o ts es) → Deep ds n iterates y
  unit-deep j k y e total o ts es p =
      let q = known-both (sequence (Declare k y (Some e) ∷ Combine k total o ts es ∷ [])) Skip (known-branches j always (sequence (Declare k y (Some e) ∷ Combine k total o ts es ∷ [])) Skip p) in
      let r = known-both (Declare k y (Some e)) (Then (Combine k total o ts es) Skip) q.0 in
      record {
        written = (all-append (suits ds) (use_as Written y) (uses_in e) r.0.named).0;
        deep = (both-true (nat_eq (depth_at ds y) 1) (is_flat (n ∷ []) false e) r.0.form).0;
      }

  -- ---- what is told

  late : (y : ℕ) → nat_eq y n ≡ false → (t : Target) (ts : List Target) → list_all (is_through y) (t ∷ ts) ≡ true → are_at_once ds n false (t ∷ ts) ≡ false
  late y o (T.Property z r at) ts h = ap (λ b. b && are_at_once ds n false ts) (ap (λ w. nat_eq w n) (eqb-true z y (both-true (nat_eq z y) (list_all (is_through y) ts) h).0) ∙ o)
  late y o (T.Scalar z at) ts h = absurd (both_ways false refl h)

  through-told : (y : ℕ) (ts : List Target) → list_all (is_through y) ts ≡ true → (z : ℕ) → IsIn z (sights_by sights_of_target ts).scalars → z ≡ y
  through-told y [] h z i = absurd i
  through-told y (T.Scalar w at ∷ ts) h z i = absurd (both_ways false refl h)
  through-told y (T.Property w r at ∷ ts) h z i = let q = both-true (nat_eq w y) (list_all (is_through y) ts) h in ⊎_elim (λ (e : z ≡ w). e ∙ eqb-true w y q.0) (through-told y ts q.1 z) i

  through-spared : (y : ℕ) (ts : List Target) → list_all (is_through y) ts ≡ true → (z : ℕ) → IsIn z (Fission.locals_of ds ts) → ⊥
  through-spared y [] h z i = i
  through-spared y (T.Scalar w at ∷ ts) h z i = both_ways false refl h
  through-spared y (T.Property w r at ∷ ts) h z i = through-spared y ts (both-true (nat_eq w y) (list_all (is_through y) ts) h).1 z i

  -- what is told or reduced, of locals, is declared
  tidy-told : (s : Stmt) → Tidy ds n s → Known s → (z : ℕ) → Deep ds n iterates z → IsIn z (sights_of ds n false s).scalars ⊎ IsIn z (reduced_locals ds s) → IsIn z (locals_of s)
  tidy-told s (plain t f) p z d i = ⊎_elim (λ j. absurd (plain-told ds n iterates s p.form p.named f z d j)) (λ j. absurd (plain-spared ds n iterates s p.form p.named f z d j)) i
  tidy-told s (in_turn a b f g) p z d i =
      let r = known-both a b p in
      ⊎_elim (λ j. ⊎_elim (λ l. in-left z (locals_of a) (locals_of b) (tidy-told a f r.0 z d (inl l))) (λ l. in-right z (locals_of a) (locals_of b) (tidy-told b g r.1 z d (inl l))) (in-either z (sights_of ds n false a).scalars (sights_of ds n false b).scalars j))
      (λ j. ⊎_elim (λ l. in-left z (locals_of a) (locals_of b) (tidy-told a f r.0 z d (inr l))) (λ l. in-right z (locals_of a) (locals_of b) (tidy-told b g r.1 z d (inr l))) (in-either z (reduced_locals ds a) (reduced_locals ds b) j)) i
  tidy-told s (branches k c a b e f g) p z d i =
      let r = known-both a b (known-branches k c a b p) in
      ⊎_elim (λ j. ⊎_elim (λ l. absurd (not-told ds n iterates (n ∷ []) (written-apart ds n iterates) (told_in c) e z d l))
      (λ m. ⊎_elim (λ l. in-left z (locals_of a) (locals_of b) (tidy-told a f r.0 z d (inl l))) (λ l. in-right z (locals_of a) (locals_of b) (tidy-told b g r.1 z d (inl l))) (in-either z (sights_of ds n false a).scalars (sights_of ds n false b).scalars m))
      (in-either z (told_in c) ((sights_of ds n false a).scalars ++ (sights_of ds n false b).scalars) j))
      (λ j. ⊎_elim (λ l. in-left z (locals_of a) (locals_of b) (tidy-told a f r.0 z d (inr l))) (λ l. in-right z (locals_of a) (locals_of b) (tidy-told b g r.1 z d (inr l))) (in-either z (reduced_locals ds a) (reduced_locals ds b) j)) i
  tidy-told s (unit j k y e total o t ts es away all told rest) p z d i =
      let seen = (sights_of_targets ds n false (t ∷ ts)).scalars in
      let more = (sights_in_all es).scalars in
      ⊎_elim (λ m.
      ⊎_elim (λ l. absurd (not-told ds n iterates (n ∷ []) (written-apart ds n iterates) (told_in e) told z d l))
      (λ l. ⊎_elim (λ v. inl (through-told y (t ∷ ts) all z (subst (λ b. IsIn z (sights_by (cond b sights_at_target sights_of_target) (t ∷ ts)).scalars) (late y away t ts all) v)))
      (λ v. absurd (not-told ds n iterates (n ∷ []) (written-apart ds n iterates) more rest z d v)) (in-either z seen more (subst (IsIn z) (append-nil (seen ++ more)) l)))
      (in-either z (told_in e) ((seen ++ more) ++ []) (subst (IsIn z) (append-nil (told_in e ++ ((seen ++ more) ++ []))) m)))
      (λ m. absurd (through-spared y (t ∷ ts) all z (subst (IsIn z) (append-nil (Fission.locals_of ds (t ∷ ts))) (subst (IsIn z) (append-nil (Fission.locals_of ds (t ∷ ts) ++ [])) m)))) i

  -- ---- what is changed

  abbrev IsProperty : ℕ → Type 0
  IsProperty z = sort_eq Sorts.NodeProperty (variable_at ds z).sort ≡ true

  owned-either : (xs ys : List Reduced) (z : ℕ) → IsIn z (owned_in (xs ++ ys)) → IsIn z (owned_in xs) ⊎ IsIn z (owned_in ys)
  owned-either [] ys z i = inr i
  owned-either (x ∷ xs) ys z i = by x.own i (owned-either xs ys z)
    where
      by : (b : Bool) → IsIn z (cond b (x.variables ++ owned_in (xs ++ ys)) (owned_in (xs ++ ys))) → (IsIn z (owned_in (xs ++ ys)) → IsIn z (owned_in xs) ⊎ IsIn z (owned_in ys)) →
          IsIn z (cond b (x.variables ++ owned_in xs) (owned_in xs)) ⊎ IsIn z (owned_in ys)
      by true i f = ⊎_elim (λ l. inl (in-left z x.variables (owned_in xs) l)) (λ r. ⊎_elim (λ l. inl (in-right z x.variables (owned_in xs) l)) (λ r. inr r) (f r)) (in-either z x.variables (owned_in (xs ++ ys)) i)
      by false i f = f i

  changed-either : (a b : Stmt) (z : ℕ) → IsIn z (changed ds n (Then a b)) → IsIn z (changed ds n a) ⊎ IsIn z (changed ds n b)
  changed-either a b z i =
      ⊎_elim (λ l. ⊎_elim (λ m. inl (in-left z (left ds n a) (owned_in (reduced ds n false a)) m)) (λ m. inr (in-left z (left ds n b) (owned_in (reduced ds n false b)) m)) (in-either z (left ds n a) (left ds n b) l))
      (λ r. ⊎_elim (λ m. inl (in-right z (left ds n a) (owned_in (reduced ds n false a)) m)) (λ m. inr (in-right z (left ds n b) (owned_in (reduced ds n false b)) m)) (owned-either (reduced ds n false a) (reduced ds n false b) z r))
      (in-either z (left ds n a ++ left ds n b) (owned_in (reduced ds n false a ++ reduced ds n false b)) i)

  each-is : (xs : List ℕ) → list_all (λ x. sort_eq Sorts.NodeProperty (variable_at ds x).sort) xs ≡ true → (z : ℕ) → IsIn z xs → IsProperty z
  each-is [] h z i = absurd i
  each-is (x ∷ xs) h z i =
      let r = both-true (sort_eq Sorts.NodeProperty (variable_at ds x).sort) (list_all (λ x. sort_eq Sorts.NodeProperty (variable_at ds x).sort) xs) h in
      ⊎_elim (λ (e : z ≡ x). subst IsProperty (sym e) r.0) (λ k. each-is xs r.1 z k) i

  not-owned : (y : ℕ) → nat_eq y n ≡ false → (t : Target) (ts : List Target) → list_all (is_through y) (t ∷ ts) ≡ true → list_all (is_owned ds n) (t ∷ ts) ≡ false
  not-owned y o (T.Property z r at) ts h = ap (λ b. b && list_all (is_owned ds n) ts) (ap (λ w. nat_eq w n) (eqb-true z y (both-true (nat_eq z y) (list_all (is_through y) ts) h).0) ∙ o)
  not-owned y o (T.Scalar z at) ts h = absurd (both_ways false refl h)

  combine-changes : (y : ℕ) → nat_eq y n ≡ false → (k : Key) (total : TotalKey) (o : Reduce) (t : Target) (ts : List Target) (es : List Expr) → list_all (is_through y) (t ∷ ts) ≡ true → (z : ℕ) → IsIn z (changed ds n (Combine k total o (t ∷ ts) es)) → ⊥
  combine-changes y away k total o t ts es h z i =
      ⊎_elim (λ l. subst (λ b. IsIn z (cond b (variables_of (t ∷ ts)) [])) (late y away t ts h) l)
      (λ r. owned (subst (λ b. IsIn z (owned_in (cond b [] (reduced_by ds n total.key.statement o (t ∷ ts) ∷ [])))) (late y away t ts h) r))
      (in-either z (written_at_once ds n false (t ∷ ts)) (owned_in (all_reduced_by ds n false total.key.statement o (t ∷ ts))) i)
    where
      owned : IsIn z (cond (list_all (is_owned ds n) (t ∷ ts)) (variables_of (t ∷ ts) ++ []) []) → ⊥
      owned r = subst (λ b. IsIn z (cond b (variables_of (t ∷ ts) ++ []) [])) (not-owned y away t ts h) r

  tidy-changes : (s : Stmt) → Tidy ds n s → Known s → (z : ℕ) → IsIn z (changed ds n s) → IsProperty z ⊎ (Deep ds n iterates z × IsIn z (locals_of s))
  tidy-changes s (plain t f) p z i = inl (each-is (changed ds n s) (changes-none ds n iterates s p.form p.named f p.alike p.even) z i)
  tidy-changes s (in_turn a b f g) p z i =
      let r = known-both a b p in
      ⊎_elim (λ l. ⊎_elim (λ q. inl q) (λ q. inr (q.0, in-left z (locals_of a) (locals_of b) q.1)) (tidy-changes a f r.0 z l)) (λ l. ⊎_elim (λ q. inl q) (λ q. inr (q.0, in-right z (locals_of a) (locals_of b) q.1)) (tidy-changes b g r.1 z l)) (changed-either a b z i)
  tidy-changes s (branches k c a b e f g) p z i =
      let r = known-both a b (known-branches k c a b p) in
      ⊎_elim (λ l. ⊎_elim (λ q. inl q) (λ q. inr (q.0, in-left z (locals_of a) (locals_of b) q.1)) (tidy-changes a f r.0 z l)) (λ l. ⊎_elim (λ q. inl q) (λ q. inr (q.0, in-right z (locals_of a) (locals_of b) q.1)) (tidy-changes b g r.1 z l)) (changed-either a b z i)
  tidy-changes s (unit j k y e total o t ts es away all told rest) p z i =
      let C = Combine k total o (t ∷ ts) es in
      let D = Declare k y (Some e) in
      ⊎_elim (λ l. ⊎_elim (λ m. ⊎_elim (λ (q : z ≡ y). inr (subst (Deep ds n iterates) (sym q) (unit-deep j k y e total o (t ∷ ts) es p), inl q)) (λ v. absurd v) m)
      (λ m. ⊎_elim (λ v. absurd (combine-changes y away k total o t ts es all z v)) (λ v. absurd v) (changed-either C Skip z m)) (changed-either D (Then C Skip) z l))
      (λ l. absurd l) (changed-either (sequence (D ∷ C ∷ [])) Skip z i)

  -- ---- none goes from one piece into another

  property-away : (b : Stmt) → Known b → (z : ℕ) → IsProperty z → IsIn z ((sights_of ds n false b).scalars ++ reduced_locals ds b) → ⊥
  property-away b p z q i =
      let a : Stmt = Assign first_key (T.Property n z (record { line = 0; col = 0 })) NodeCount in
      disjoint-apart (z ∷ []) ((sights_of ds n false b).scalars ++ reduced_locals ds b) z (none-across ds n a b iterates p.named p.form (and-true (sort_eq Sorts.NodeProperty (variable_at ds z).sort) true q refl)) (inl refl) i

  parts-stay : (a b : Stmt) → Tidy ds n a → Tidy ds n b → Known a → Known b → ((z : ℕ) → IsIn z (locals_of a) → IsIn z (locals_of b) → ⊥) → locals_stay ds n a b ≡ true
  parts-stay a b f g p q once =
      let told = (sights_of ds n false b).scalars in
      apart-disjoint (changed ds n a) (told ++ reduced_locals ds b) (λ z i j.
      ⊎_elim (λ r. property-away b q z r j) (λ (r : Deep ds n iterates z × IsIn z (locals_of a)). once z r.1 (tidy-told b g q z r.0 (in-either z told (reduced_locals ds b) j))) (tidy-changes a f p z i))

  orelse : (x y : Bool) → y ≡ true → x || y ≡ true
  orelse true y h = refl
  orelse false y h = h

  none-left : (xs : List ℕ) → disjoint xs [] ≡ true
  none-left [] = refl
  none-left (x ∷ xs) = none-left xs

  plain-stays : (s : Stmt) → names_pass (is_no_local ds) (n ∷ []) s ≡ true → Known s → locals_stay_within ds n s ≡ true
  plain-stays s f p = stays-within ds n iterates s p.form p.named f p.alike p.even

  pub tidy-stays : (s : Stmt) → Tidy ds n s → Known s → Distinct (locals_of s) → locals_stay_within ds n s ≡ true
  tidy-stays s (plain t f) p d = plain-stays s f p
  tidy-stays s (in_turn a b f g) p d =
      let r = known-both a b p in
      let q = distinct-parts (locals_of a) (locals_of b) d in
      orelse (is_own_loop n (Then a b)) (locals_stay ds n a b && (locals_stay_within ds n a && locals_stay_within ds n b))
      (and-true (locals_stay ds n a b) (locals_stay_within ds n a && locals_stay_within ds n b) (parts-stay a b f g r.0 r.1 q.2) (and-true (locals_stay_within ds n a) (locals_stay_within ds n b) (tidy-stays a f r.0 q.0) (tidy-stays b g r.1 q.1)))
  tidy-stays s (branches k c a b e f g) p d =
      let r = known-both a b (known-branches k c a b p) in
      let q = distinct-parts (locals_of a) (locals_of b) d in
      orelse (is_own_loop n (If k c a b)) (locals_stay ds n a b && (locals_stay_within ds n a && locals_stay_within ds n b))
      (and-true (locals_stay ds n a b) (locals_stay_within ds n a && locals_stay_within ds n b) (parts-stay a b f g r.0 r.1 q.2) (and-true (locals_stay_within ds n a) (locals_stay_within ds n b) (tidy-stays a f r.0 q.0) (tidy-stays b g r.1 q.1)))
  tidy-stays s (unit j k y e total o t ts es away all told rest) p d =
      let U = sequence (Declare k y (Some e) ∷ Combine k total o (t ∷ ts) es ∷ []) in
      orelse (is_own_loop n (If j always U Skip)) (locals_stay ds n U Skip && (locals_stay_within ds n U && true))
      (and-true (locals_stay ds n U Skip) (locals_stay_within ds n U && true) (none-left (changed ds n U)) (and-true (locals_stay_within ds n U) true (or-left' (is_own_loop n U) _ own-unit) refl))
    where
      own-unit : is_own_loop n (sequence (Declare k y (Some e) ∷ Combine k total o (t ∷ ts) es ∷ [])) ≡ true
      own-unit = ap (λ b. b && true) (or-true (not (adds_elsewhere (n ∷ []) (Combine k total o (t ∷ ts) es))))

      or-left' : (a b : Bool) → a ≡ true → a || b ≡ true
      or-left' a b h = ap (λ c. c || b) h

  -- inner loops know no local
  pub tidy-apart : (s : Stmt) → Tidy ds n s → Known s → inner_loops_apart ds n s ≡ true
  tidy-apart s (plain t f) p = loops-apart ds n iterates s p.form p.named f
  tidy-apart s (in_turn a b f g) p = let r = known-both a b p in and-true (inner_loops_apart ds n a) (inner_loops_apart ds n b) (tidy-apart a f r.0) (tidy-apart b g r.1)
  tidy-apart s (branches k c a b e f g) p = let r = known-both a b (known-branches k c a b p) in and-true (inner_loops_apart ds n a) (inner_loops_apart ds n b) (tidy-apart a f r.0) (tidy-apart b g r.1)
  tidy-apart s (unit j k y e total o t ts es away all told rest) p = refl
