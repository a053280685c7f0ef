-- A loop that defers writes to a property is the three loops that are written for it.
use Rattle.std.proofs.Common.{◌≡◌, ◌≢◌, ◌<◌, ◌≤◌, arith, ℕ, zero, suc, Bool, true, false, cond, List, [], ◌∷◌, ◌++◌, length, refl, sym, ap, subst, ◌∙◌, Option, Some, None, Result, Ok, Err, ◌⊎◌, ⊎_elim, inl, inr}
use Rattle.std.proofs.Math.Path.{fun_ext}
use Rattle.std.specs.Prelude.{◌&&◌, ◌||◌, not, nat_eq, nat_lt}
use Rattle.std.specs.List.{list_all}
use Rattle.std.proofs.lemmas.Bool.{both_ways, eqb-true, ltb-true}
use Rattle.gm_base.specs.declared.places.Place.{Place}
use Rattle.gm_value.specs.Bag.{IsIn}
use Rattle.gm_value.specs.declared.reductions.Reduce.{Reduce}
use Rattle.gm_ast.specs.declared.tree.Declaration.{Declaration}
use Rattle.gm_ast.specs.declared.tree.Head.{Head}
use Rattle.gm_ast.specs.declared.tree.Key.{Key}
use Rattle.gm_ast.specs.declared.tree.Sort.{Sort}
use Rattle.gm_ast.specs.declared.tree.Sort.TheVariants as Sorts
use Rattle.gm_ast.specs.declared.tree.Target.{Target}
use Rattle.gm_ast.specs.declared.tree.Target.TheVariants as T
use Rattle.gm_ast.specs.declared.tree.TotalKey.{TotalKey}
use Rattle.gm_ast.specs.declared.tree.Variable.{Variable}
use Rattle.gm_ast.specs.Names.{is_node_type, sort_eq}
use Rattle.gm_ast.specs.Ways.{is_in}
use Rattle.gm_ast.specs.Program.{Expr, Property, always, Stmt, Skip, Then, Declare, DeclareEdge, Assign, Defer, Combine, Group, Foreach, For, If, While, Do, InBfs, InBfsBoth, Return, sequence}
use Rattle.gm_semantics.specs.declared.faults.Fault.{Fault}
use Rattle.gm_semantics.specs.Stores.{Store}
use Rattle.gm_semantics.specs.Faults.{then_with}
use Rattle.gm_semantics.specs.Levels.{no_levels}
use Rattle.gm_semantics.specs.Iterations.{Loop}
use Rattle.gm_semantics.specs.Loops.{pushes}
use Rattle.gm_semantics.specs.Statements.{Run, State, Course, variable_at, loop_of, with_value, then_do, with_store, sequential}
use Rattle.gm_semantics.specs.Frames.{ReadsBelow, NamesBelow, AlikeStates, AlikeCourses}
use Rattle.gm_semantics.proofs.StatementFrames.{sequential-alike}
use Rattle.gm_forms.specs.Cut.{touched}
use Rattle.gm_forms.specs.Forms.{depth_at, is_flat, is_inner_head, is_inner_body, is_outer_body}
use Rattle.gm_forms.specs.Order.{first_key, second_key}
use Rattle.gm_forms.specs.Sharing.{Reduced, reduced_by, are_at_once, variables_of, variables_where, is_owned, is_kept, written_by, written, reduced, deferred, shared_in, kept_in, disjoint, all_agree, inners_share, targets_alike, with_reads, sights_in, sights_of, read_anywhere, read_elsewhere, reads_in}
use Rattle.gm_forms.specs.Uses.{Role, Iterates, Written, Declared, NodeValue, Owner, Use, use_as, has_role, owner_role, suits, uses_in, uses_in_all, uses_of_head, uses_of_target, uses_of_targets, uses_of}
use Rattle.gm_forms.proofs.CutLaws.{apart-out}
use Rattle.gm_forms.proofs.CutTests.{found}
use Rattle.gm_forms.proofs.Doings.{in-left, in-right, in-either}
use Rattle.gm_forms.proofs.Named.{both-true, all-append, names-below}
use Rattle.gm_forms.proofs.Weaker.{and-true}
use Rattle.gm_loop_laws.specs.Deferring.{undeferred, only_defers}
use Rattle.gm_loop_laws.specs.Masks.{Change, looped, in_turn, SameChange}
use Rattle.gm_loop_laws.proofs.Delays.{defers-move, copies-any}
use Rattle.gm_loop_laws.proofs.Pieces.{own-loop, courses-alike}
use Rattle.gm_loop_laws.proofs.Pushes.{undeferred-pushes}
use Rattle.gm_dissect.specs.Deferred.{copied, defers, undeferred_loop}
use Rattle.gm_dissect.proofs.Phases.{KnownLoop, Rewrites}

pub either-true : (a b : Bool) → a || b ≡ true → (a ≡ true) ⊎ (b ≡ true)
either-true true b h = inl refl
either-true false b h = inr h

-- whether a variable holds values that a body may write
abbrev pub may_be_written : Variable → Bool
may_be_written v = sort_eq Sorts.Scalar v.sort || sort_eq Sorts.NodeProperty v.sort

pub declared-written : (v : Variable) → has_role v Declared ≡ true → may_be_written v ≡ true
declared-written v h = by (sort_eq Sorts.Scalar v.sort) (sort_eq Sorts.NodeProperty v.sort) h
  where
    by : (a b : Bool) → a || (b && nat_eq v.depth 0) ≡ true → a || b ≡ true
    by true b h = refl
    by false true h = refl
    by false false h = h

-- what is written has the role of what is declared
pub written-declared : (v : Variable) → has_role v Written ≡ true → may_be_written v ≡ true
written-declared v h = ap (λ b. b || sort_eq Sorts.NodeProperty v.sort) h

property-declared : (v : Variable) → has_role v NodeValue ≡ true → may_be_written v ≡ true
property-declared v h = by (sort_eq Sorts.Scalar v.sort) h
  where
    by : (b : Bool) → sort_eq Sorts.NodeProperty v.sort ≡ true → b || sort_eq Sorts.NodeProperty v.sort ≡ true
    by true h = refl
    by false h = h

-- nothing that iterates is declared
pub never-iterates : (v : Variable) → has_role v Iterates ≡ true → may_be_written v ≡ true → ⊥
never-iterates v = by v.sort
  where
    by : (s : Sort) → sort_eq Sorts.Iterator s || sort_eq Sorts.Graph s ≡ true → sort_eq Sorts.Scalar s || sort_eq Sorts.NodeProperty s ≡ true → ⊥
    by Sorts.Graph h i = both_ways false refl i
    by Sorts.Iterator h i = both_ways false refl i
    by Sorts.Scalar h i = both_ways false refl h
    by Sorts.Edge h i = both_ways false refl h
    by Sorts.NodeProperty h i = both_ways false refl h
    by Sorts.EdgeProperty h i = both_ways false refl h

-- no property is a scalar
no-scalar : (v : Variable) → has_role v NodeValue ≡ true → has_role v Written ≡ true → ⊥
no-scalar v = by v.sort
  where
    by : (s : Sort) → sort_eq Sorts.NodeProperty s ≡ true → sort_eq Sorts.Scalar s ≡ true → ⊥
    by Sorts.Graph h i = both_ways false refl h
    by Sorts.Iterator h i = both_ways false refl h
    by Sorts.Scalar h i = both_ways false refl h
    by Sorts.Edge h i = both_ways false refl h
    by Sorts.NodeProperty h i = both_ways false refl i
    by Sorts.EdgeProperty h i = both_ways false refl h

module _ (ds : List Declaration) where
  abbrev pub Suit : List Use → Type 0
  Suit us = list_all (suits ds) us ≡ true

  -- a use says where a variable is, and what
  pub use-of : (role : Role) (x : ℕ) → Suit (use_as role x) → (x < length ds) × (has_role (variable_at ds x) role ≡ true)
  use-of role x h =
      let s = both-true (suits ds (record { variable = x; role = role })) true h in
      let b = both-true (nat_lt x (length ds)) (has_role (variable_at ds x) role) s.0 in
      (ltb-true x (length ds) b.0, b.1)

  abbrev pub IsDeclared : ℕ → Type 0
  IsDeclared y = may_be_written (variable_at ds y) ≡ true

  one-of : (x y : ℕ) → IsDeclared x → IsIn y (x ∷ []) → IsDeclared y
  one-of x y d i = ⊎_elim (λ (e : y ≡ x). subst IsDeclared (sym e) d) (λ j. absurd j) i

  pub target-declared : (t : Target) (y : ℕ) → Suit (uses_of_target t) → IsIn y (written_by t) → IsDeclared y
  target-declared (T.Scalar x at) y h i = one-of x y (written-declared (variable_at ds x) (use-of Written x h).1) i
  target-declared (T.Property x p at) y h i =
      let r = all-append (suits ds) (use_as Owner x) (use_as NodeValue p) h in one-of p y (property-declared (variable_at ds p) (use-of NodeValue p r.1).1) i

  targets-declared : (ts : List Target) (y : ℕ) → Suit (uses_of_targets ts) → IsIn y (variables_of ts) → IsDeclared y
  targets-declared [] y h i = absurd i
  targets-declared (t ∷ ts) y h i =
      let r = all-append (suits ds) (uses_of_target t) (uses_of_targets ts) h in
      ⊎_elim (target-declared t y r.0) (targets-declared ts y r.1) (in-either y (written_by t) (variables_of ts) i)

  -- what a body writes is declared
  touched-declared : (s : Stmt) (y : ℕ) → Suit (uses_of s) → IsIn y (touched s) → IsDeclared y
  touched-declared (Then a b) y h i =
      let r = all-append (suits ds) (uses_of a) (uses_of b) h in ⊎_elim (touched-declared a y r.0) (touched-declared b y r.1) (in-either y (touched a) (touched b) i)
  touched-declared (Declare k x None) y h i = one-of x y (declared-written (variable_at ds x) (use-of Declared x h).1) i
  touched-declared (Declare k x (Some e)) y h i =
      let r = all-append (suits ds) (use_as Written x) (uses_in e) h in one-of x y (written-declared (variable_at ds x) (use-of Written x r.0).1) i
  touched-declared (Assign k t e) y h i = let r = all-append (suits ds) (uses_of_target t) (uses_in e) h in target-declared t y r.0 i
  touched-declared (Defer k t e) y h i = let r = all-append (suits ds) (uses_of_target t) (uses_in e) h in target-declared t y r.0 i
  touched-declared (Combine k total o ts es) y h i = let r = all-append (suits ds) (uses_of_targets ts) (uses_in_all es) h in targets-declared ts y r.0 i
  touched-declared (If k c a b) y h i =
      let r = all-append (suits ds) (uses_in c) (uses_of a ++ uses_of b) h in
      let q = all-append (suits ds) (uses_of a) (uses_of b) r.1 in
      ⊎_elim (touched-declared a y q.0) (touched-declared b y q.1) (in-either y (touched a) (touched b) i)
  touched-declared (Foreach k at hd test body) y h i =
      let r = all-append (suits ds) (uses_of_head hd) (uses_in test ++ uses_of body) h in
      let q = all-append (suits ds) (uses_in test) (uses_of body) r.1 in
      touched-declared body y q.1 i
  touched-declared s y h i = absurd i

  -- n: the loop's iterator; p: a property
  module _ (n p : ℕ) (iterates : has_role (variable_at ds n) Iterates ≡ true) (property : has_role (variable_at ds p) NodeValue ≡ true) where
    shared-left : (xs ys : List Reduced) → IsIn p (shared_in xs) → IsIn p (shared_in (xs ++ ys))
    shared-left [] ys i = absurd i
    shared-left (x ∷ xs) ys i = ⊎_elim (λ l. in-left p x.shared (shared_in (xs ++ ys)) l) (λ r. in-right p x.shared (shared_in (xs ++ ys)) (shared-left xs ys r)) (in-either p x.shared (shared_in xs) i)

    shared-right : (xs ys : List Reduced) → IsIn p (shared_in ys) → IsIn p (shared_in (xs ++ ys))
    shared-right [] ys i = i
    shared-right (x ∷ xs) ys i = in-right p x.shared (shared_in (xs ++ ys)) (shared-right xs ys i)

    kept-left : (xs ys : List Reduced) → IsIn p (kept_in xs) → IsIn p (kept_in (xs ++ ys))
    kept-left [] ys i = absurd i
    kept-left (x ∷ xs) ys i = ⊎_elim (λ l. in-left p x.kept (kept_in (xs ++ ys)) l) (λ r. in-right p x.kept (kept_in (xs ++ ys)) (kept-left xs ys r)) (in-either p x.kept (kept_in xs) i)

    kept-right : (xs ys : List Reduced) → IsIn p (kept_in ys) → IsIn p (kept_in (xs ++ ys))
    kept-right [] ys i = i
    kept-right (x ∷ xs) ys i = in-right p x.kept (kept_in (xs ++ ys)) (kept-right xs ys i)

    -- a body changes the property other than by deferred writes
    abbrev pub Changes : Bool → Stmt → Type 0
    Changes inner s = IsIn p (written ds n inner s) ⊎ (IsIn p (shared_in (reduced ds n inner s)) ⊎ IsIn p (kept_in (reduced ds n inner s)))

    both-left : (inner : Bool) (a b : Stmt) → Changes inner a → Changes inner (Then a b)
    both-left inner a b c =
        ⊎_elim (λ i. inl (in-left p (written ds n inner a) (written ds n inner b) i))
        (λ d. inr (⊎_elim (λ i. inl (shared-left (reduced ds n inner a) (reduced ds n inner b) i)) (λ i. inr (kept-left (reduced ds n inner a) (reduced ds n inner b) i)) d)) c

    both-right : (inner : Bool) (a b : Stmt) → Changes inner b → Changes inner (Then a b)
    both-right inner a b c =
        ⊎_elim (λ i. inl (in-right p (written ds n inner a) (written ds n inner b) i))
        (λ d. inr (⊎_elim (λ i. inl (shared-right (reduced ds n inner a) (reduced ds n inner b) i)) (λ i. inr (kept-right (reduced ds n inner a) (reduced ds n inner b) i)) d)) c

    -- a target that is the property goes to others, or is the node's own
    where-more : (b : Bool) (xs ys : List ℕ) → IsIn p ys → IsIn p (cond b (xs ++ ys) ys)
    where-more true xs ys i = in-right p xs ys i
    where-more false xs ys i = i

    abbrev Split : List Target → Type 0
    Split ts = IsIn p (variables_where (λ t. not (is_owned ds n t)) ts) ⊎ IsIn p (variables_where (is_kept ds n) ts)

    targets-split : (ts : List Target) → Suit (uses_of_targets ts) → IsIn p (variables_of ts) → Split ts
    targets-split [] h i = absurd i
    targets-split (t ∷ ts) h i =
        let r = all-append (suits ds) (uses_of_target t) (uses_of_targets ts) h in
        ⊎_elim (here t r.0)
        (λ j. ⊎_elim (λ l. inl (where-more (not (is_owned ds n t)) (written_by t) (variables_where (λ t. not (is_owned ds n t)) ts) l))
        (λ l. inr (where-more (is_kept ds n t) (written_by t) (variables_where (is_kept ds n) ts) l)) (targets-split ts r.1 j))
        (in-either p (written_by t) (variables_of ts) i)
      where
        here : (t : Target) → Suit (uses_of_target t) → IsIn p (written_by t) → Split (t ∷ ts)
        here (T.Scalar x at) h i =
            ⊎_elim (λ (e : p ≡ x). absurd (no-scalar (variable_at ds x) (subst (λ z. has_role (variable_at ds z) NodeValue ≡ true) e property) (use-of Written x h).1)) (λ j. absurd j) i
        here (T.Property x q at) h i = by (nat_eq x n)
          where
            by : (b : Bool) → IsIn p (cond (not b) ((q ∷ []) ++ variables_where (λ t. not (is_owned ds n t)) ts) (variables_where (λ t. not (is_owned ds n t)) ts))
                ⊎ IsIn p (cond b ((q ∷ []) ++ variables_where (is_kept ds n) ts) (variables_where (is_kept ds n) ts))
            by true = inr (in-left p (q ∷ []) (variables_where (is_kept ds n) ts) i)
            by false = inl (in-left p (q ∷ []) (variables_where (λ t. not (is_owned ds n t)) ts) i)

    combine-changes : (inner : Bool) (k : Key) (total : TotalKey) (o : Reduce) (ts : List Target) (es : List Expr) → Suit (uses_of_targets ts) → IsIn p (variables_of ts) → Changes inner (Combine k total o ts es)
    combine-changes inner k total o ts es h i = by (are_at_once ds n inner ts)
      where
        one : Reduced
        one = reduced_by ds n total.key.statement o ts

        by : (b : Bool) → IsIn p (cond b (variables_of ts) []) ⊎ (IsIn p (shared_in (cond b [] (one ∷ []))) ⊎ IsIn p (kept_in (cond b [] (one ∷ []))))
        by true = inl i
        by false = inr (⊎_elim (λ l. inl (in-left p one.shared [] l)) (λ r. inr (in-left p one.kept [] r)) (targets-split ts h i))

    -- what an inner body writes it changes
    inner-changes : (its : List ℕ) (s : Stmt) → is_inner_body ds its true s ≡ true → Suit (uses_of s) → IsIn p (touched s) → Changes true s
    inner-changes its (Then a b) f h i =
        let g = both-true (is_inner_body ds its true a) (is_inner_body ds its true b) f in
        let r = all-append (suits ds) (uses_of a) (uses_of b) h in
        ⊎_elim (λ l. both-left true a b (inner-changes its a g.0 r.0 l)) (λ m. both-right true a b (inner-changes its b g.1 r.1 m)) (in-either p (touched a) (touched b) i)
    inner-changes its (Declare k x e) f h i = inl i
    inner-changes its (Assign k t e) f h i = inl i
    inner-changes its (Defer k t e) f h i = absurd (both_ways false refl f)
    inner-changes its (Combine k total o ts es) f h i = let r = all-append (suits ds) (uses_of_targets ts) (uses_in_all es) h in combine-changes true k total o ts es r.0 i
    inner-changes its (If k c a b) f h i =
        let e = both-true (is_flat its true c) (is_inner_body ds its true a && is_inner_body ds its true b) f in
        let g = both-true (is_inner_body ds its true a) (is_inner_body ds its true b) e.1 in
        let r = all-append (suits ds) (uses_in c) (uses_of a ++ uses_of b) h in
        let q = all-append (suits ds) (uses_of a) (uses_of b) r.1 in
        ⊎_elim (λ l. both-left true a b (inner-changes its a g.0 q.0 l)) (λ m. both-right true a b (inner-changes its b g.1 q.1 m)) (in-either p (touched a) (touched b) i)
    inner-changes its (Foreach k at hd test body) f h i = absurd (both_ways false refl f)
    inner-changes its s f h i = absurd i

    -- a statement that neither holds another nor defers
    leaf : (s : Stmt) → Suit (uses_of s) → (IsIn p (touched s) → ⊥) → not (is_in (touched s) n) && not (is_in (touched s) p) ≡ true
    leaf s h free = and-true (not (is_in (touched s) n)) (not (is_in (touched s) p)) (by (is_in (touched s) n) refl) (at (is_in (touched s) p) refl)
      where
        by : (b : Bool) → is_in (touched s) n ≡ b → not b ≡ true
        by true e = absurd (never-iterates (variable_at ds n) iterates (touched-declared s n h (found (touched s) n e)))
        by false e = refl

        at : (b : Bool) → is_in (touched s) p ≡ b → not b ≡ true
        at true e = absurd (free (found (touched s) p e))
        at false e = refl

    -- a body that changes the property in no other way defers it alone
    pub only-defers : (s : Stmt) → is_outer_body ds false n s ≡ true → Suit (uses_of s) → (Changes false s → ⊥) → only_defers n p s ≡ true
    only-defers (Then a b) f h free =
        let g = both-true (is_outer_body ds false n a) (is_outer_body ds false n b) f in
        let r = all-append (suits ds) (uses_of a) (uses_of b) h in
        and-true (only_defers n p a) (only_defers n p b) (only-defers a g.0 r.0 (λ c. free (both-left false a b c))) (only-defers b g.1 r.1 (λ c. free (both-right false a b c)))
    only-defers (Declare k x e) f h free = leaf (Declare k x e) h (λ i. free (inl i))
    only-defers (Assign k t e) f h free = leaf (Assign k t e) h (λ i. free (inl i))
    only-defers (Defer k t e) f h free = refl
    only-defers (Combine k total o ts es) f h free =
        leaf (Combine k total o ts es) h (λ i. let r = all-append (suits ds) (uses_of_targets ts) (uses_in_all es) h in free (combine-changes false k total o ts es r.0 i))
    only-defers (If k c a b) f h free =
        let e = both-true (is_flat (n ∷ []) false c) (is_outer_body ds false n a && is_outer_body ds false n b) f in
        let g = both-true (is_outer_body ds false n a) (is_outer_body ds false n b) e.1 in
        let r = all-append (suits ds) (uses_in c) (uses_of a ++ uses_of b) h in
        let q = all-append (suits ds) (uses_of a) (uses_of b) r.1 in
        and-true (only_defers n p a) (only_defers n p b) (only-defers a g.0 q.0 (λ c. free (both-left false a b c))) (only-defers b g.1 q.1 (λ c. free (both-right false a b c)))
    only-defers (Foreach k at hd test body) f h free =
        let e = both-true (is_inner_head false n hd) (is_flat (n ∷ hd.iterator ∷ []) true test && is_inner_body ds (n ∷ hd.iterator ∷ []) true body) f in
        let g = both-true (is_flat (n ∷ hd.iterator ∷ []) true test) (is_inner_body ds (n ∷ hd.iterator ∷ []) true body) e.1 in
        let r = all-append (suits ds) (uses_of_head hd) (uses_in test ++ uses_of body) h in
        let q = all-append (suits ds) (uses_in test) (uses_of body) r.1 in
        leaf (Foreach k at hd test body) h (λ i. free (inner-changes (n ∷ hd.iterator ∷ []) body g.1 q.1 i))
    only-defers s f h free = refl

  -- what is deferred is a property
  pub deferred-use : (n p : ℕ) (s : Stmt) → is_outer_body ds false n s ≡ true → Suit (uses_of s) → IsIn p (deferred s) → (p < length ds) × (has_role (variable_at ds p) NodeValue ≡ true)
  deferred-use n p (Then a b) f h i =
      let g = both-true (is_outer_body ds false n a) (is_outer_body ds false n b) f in
      let r = all-append (suits ds) (uses_of a) (uses_of b) h in
      ⊎_elim (deferred-use n p a g.0 r.0) (deferred-use n p b g.1 r.1) (in-either p (deferred a) (deferred b) i)
  deferred-use n p (Defer k (T.Scalar x at) e) f h i = absurd (both_ways false refl f)
  deferred-use n p (Defer k (T.Property x q at) e) f h i =
      let r = all-append (suits ds) (use_as Owner x ++ use_as NodeValue q) (uses_in e) h in
      let u = all-append (suits ds) (use_as Owner x) (use_as NodeValue q) r.0 in
      ⊎_elim (λ (e : p ≡ q). subst (λ z. (z < length ds) × (has_role (variable_at ds z) NodeValue ≡ true)) (sym e) (use-of NodeValue q u.1)) (λ j. absurd j) i
  deferred-use n p (If k c a b) f h i =
      let e = both-true (is_flat (n ∷ []) false c) (is_outer_body ds false n a && is_outer_body ds false n b) f in
      let g = both-true (is_outer_body ds false n a) (is_outer_body ds false n b) e.1 in
      let r = all-append (suits ds) (uses_in c) (uses_of a ++ uses_of b) h in
      let q = all-append (suits ds) (uses_of a) (uses_of b) r.1 in
      ⊎_elim (deferred-use n p a g.0 q.0) (deferred-use n p b g.1 q.1) (in-either p (deferred a) (deferred b) i)
  deferred-use n p s f h i = absurd i

-- what a body defers to is listed
pub defers-listed : (p : ℕ) (s : Stmt) → defers p s ≡ true → IsIn p (deferred s)
defers-listed p (Then a b) h =
    ⊎_elim (λ l. in-left p (deferred a) (deferred b) (defers-listed p a l)) (λ r. in-right p (deferred a) (deferred b) (defers-listed p b r)) (either-true (defers p a) (defers p b) h)
defers-listed p (Defer k (T.Scalar x at) e) h = absurd (both_ways false refl h)
defers-listed p (Defer k (T.Property x q at) e) h = inl (sym (eqb-true q p h))
defers-listed p (If k c a b) h =
    ⊎_elim (λ l. in-left p (deferred a) (deferred b) (defers-listed p a l)) (λ r. in-right p (deferred a) (deferred b) (defers-listed p b r)) (either-true (defers p a) (defers p b) h)
defers-listed p s h = absurd (both_ways false refl h)

-- changes one after another, as courses
pub turns-do : (f g : Change) (next : State → Course) (v : State) → ((w : Store) → with_value (g w) (with_store v) ≡ next (record v { store = w })) → with_value (in_turn f g v.store) (with_store v) ≡ then_do (with_value (f v.store) (with_store v)) next
turns-do f g next v h = by (f v.store)
  where
    by : (r : Result Store Fault) → with_value (then_with r g) (with_store v) ≡ then_do (with_value r (with_store v)) next
    by (Ok w) = h w
    by (Err e) = refl

pub last-do : (run : Run) (v : State) (r : Result Store Fault) → with_value r (with_store v) ≡ then_do (with_value r (with_store v)) (sequential Skip run)
last-do run v (Ok w) = refl
last-do run v (Err e) = refl

module _ (ds : List Declaration) (run : Run) (p : ℕ) where
  abbrev fresh : ℕ
  fresh = length ds

  module _ (key : Key) (at : Place) (h : Head) (test : Expr) (body : Stmt) (known : KnownLoop ds key at h test body) (some : IsIn p (deferred body)) (u v : State) (alike : AlikeStates fresh u v) where
    abbrev n : ℕ
    n = h.iterator

    abbrev loop : Loop
    loop = loop_of run no_levels n body

    abbrev into : Stmt
    into = Assign second_key (T.Property n fresh at) (Property n p at)

    abbrev out : Stmt
    out = Assign second_key (T.Property n p at) (Property n fresh at)

    under-key : SameChange fresh (looped loop key test body)
        (in_turn (looped loop key always (Assign key (T.Property n fresh at) (Property n p at))) (in_turn (looped loop key test (undeferred p fresh body)) (looped loop key always (Assign key (T.Property n p at) (Property n fresh at)))))
    under-key =
        let below = names-below ds (Foreach key at h test body) known.named in
        let form = both-true (is_flat (n ∷ []) false test) (is_outer_body ds false n body) known.form in
        let r = all-append (suits ds) (uses_of_head h) (uses_in test ++ uses_of body) known.named in
        let q = all-append (suits ds) (uses_in test) (uses_of body) r.1 in
        let i = all-append (suits ds) (use_as Iterates n) (use_as (owner_role h.domain) h.owner) r.0 in
        let is = deferred-use ds n p body form.1 q.1 some in
        let elsewhere = read_elsewhere n (reads_in test ++ (sights_of ds n false body).properties) in
        let seen = with_reads (sights_in test) (sights_of ds n false body) in
        let all = reduced ds n false body in
        let own = written ds n false body in
        let a = both-true (disjoint (shared_in all) (read_anywhere seen.properties ++ (seen.scalars ++ own)))
        (disjoint (own ++ kept_in all) elsewhere && (disjoint (deferred body) (own ++ (shared_in all ++ kept_in all)) && (all_agree all && (inners_share ds n body && targets_alike body)))) known.share in
        let b = both-true (disjoint (own ++ kept_in all) elsewhere) (disjoint (deferred body) (own ++ (shared_in all ++ kept_in all)) && (all_agree all && (inners_share ds n body && targets_alike body))) a.1 in
        let c = both-true (disjoint (deferred body) (own ++ (shared_in all ++ kept_in all))) (all_agree all && (inners_share ds n body && targets_alike body)) b.1 in
        let apart : IsIn p (own ++ (shared_in all ++ kept_in all)) → ⊥ = apart-out (deferred body) (own ++ (shared_in all ++ kept_in all)) p c.0 some in
        let only = only-defers ds n p (use-of ds Iterates n i.0).1 is.1 body form.1 q.1 (λ d.
        ⊎_elim (λ j. apart (in-left p own (shared_in all ++ kept_in all) j))
        (λ e. apart (in-right p own (shared_in all ++ kept_in all) (⊎_elim (λ j. in-left p (shared_in all) (kept_in all) j) (λ j. in-right p (shared_in all) (kept_in all) j) e))) d) in
        defers-move fresh ds loop p fresh key at test body below.0 is.0 (omega arith) below.2 below.3 form.1 only

    -- the copies, under keys of their own
    law : SameChange fresh (looped loop key test body) (in_turn (looped loop first_key always into) (in_turn (looped loop key test (undeferred p fresh body)) (looped loop first_key always out)))
    law =
        subst (λ f. SameChange fresh (looped loop key test body) (in_turn f (in_turn (looped loop key test (undeferred p fresh body)) (looped loop first_key always out)))) (sym (copies-any loop first_key second_key key p fresh at))
        (subst (λ f. SameChange fresh (looped loop key test body) (in_turn (looped loop key always (Assign key (T.Property n fresh at) (Property n p at))) (in_turn (looped loop key test (undeferred p fresh body)) f))) (sym (copies-any loop first_key second_key key fresh p at)) under-key)

    -- each loop by what it pushes itself
    abbrev alone : Expr → Stmt → Change
    alone e s = looped (loop_of run no_levels n s) key e s

    abbrev copying : Stmt → Change
    copying s = looped (loop_of run no_levels n s) first_key always s

    into-same : looped loop first_key always into ≡ copying into
    into-same = fun_ext (λ s. own-loop loop (pushes into n) first_key always into refl s)

    out-same : looped loop first_key always out ≡ copying out
    out-same = fun_ext (λ s. own-loop loop (pushes out n) first_key always out refl s)

    within-same : looped loop key test (undeferred p fresh body) ≡ alone test (undeferred p fresh body)
    within-same = ap (λ (f : ℕ → Bool). looped (record loop { pushed = f }) key test (undeferred p fresh body)) (sym (fun_ext (λ y. undeferred-pushes p fresh n y body)))

    three : SameChange fresh (looped loop key test body) (in_turn (copying into) (in_turn (alone test (undeferred p fresh body)) (copying out)))
    three =
        subst (λ f. SameChange fresh (looped loop key test body) (in_turn f (in_turn (alone test (undeferred p fresh body)) (copying out)))) into-same
        (subst (λ f. SameChange fresh (looped loop key test body) (in_turn (looped loop first_key always into) (in_turn f (copying out)))) within-same
        (subst (λ f. SameChange fresh (looped loop key test body) (in_turn (looped loop first_key always into) (in_turn (looped loop key test (undeferred p fresh body)) f))) out-same law))

    pub loop-alike : AlikeCourses fresh (sequential (Foreach key at h test body) run u)
        (sequential (sequence (copied fresh p at h ∷ Foreach key at h test (undeferred p fresh body) ∷ copied p fresh at h ∷ [])) run v)
    loop-alike =
        subst (AlikeCourses fresh (sequential (Foreach key at h test body) run u))
        (turns-do (copying into) (in_turn (alone test (undeferred p fresh body)) (copying out))
        (sequential (sequence (Foreach key at h test (undeferred p fresh body) ∷ copied p fresh at h ∷ [])) run) v
        (λ w. turns-do (alone test (undeferred p fresh body)) (copying out) (sequential (sequence (copied p fresh at h ∷ [])) run) (record v { store = w })
        (λ x. last-do run (record v { store = x }) (copying out x))))
        (courses-alike fresh u v (looped loop key test body u.store) (in_turn (copying into) (in_turn (alone test (undeferred p fresh body)) (copying out)) v.store) (three u.store v.store alike.store) alike.turns)

  -- the loops that defer writes to a property are written so
  pub undeferred-alike : Rewrites ds run (undeferred_loop p fresh)
  undeferred-alike key at h test body known u v alike = by (defers p body) refl
    where
      by : (b : Bool) → defers p body ≡ b →
          AlikeCourses fresh (sequential (Foreach key at h test body) run u)
          (sequential (cond b (sequence (copied fresh p at h ∷ Foreach key at h test (undeferred p fresh body) ∷ copied p fresh at h ∷ [])) (Foreach key at h test body)) run v)
      by true e = loop-alike key at h test body known (defers-listed p body e) u v alike
      by false e = sequential-alike fresh (Foreach key at h test body) run u v (names-below ds (Foreach key at h test body) known.named) alike
