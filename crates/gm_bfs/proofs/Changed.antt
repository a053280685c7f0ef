-- What a part of a search changes: variables of the shorter table that are no iterators, and properties that are marked.
use Rattle.std.proofs.Common.{◌≡◌, ◌<◌, ℕ, Bool, true, false, cond, List, [], ◌∷◌, ◌++◌, length, refl, sym, ap, subst, ◌∙◌, arith, Option, Some, None}
use Rattle.std.specs.Prelude.{◌&&◌, ◌||◌, not, nat_eq, nat_lt}
use Rattle.std.specs.List.{list_all}
use Rattle.std.proofs.lemmas.Bool.{eqb-true, eq-eqb, or_from, false_from_ne_true}
use Rattle.std.proofs.lemmas.List.{get_or-set_other, get_or-set_same}
use Rattle.gm_value.specs.declared.reductions.Reduce.{Reduce}
use Rattle.gm_ast.specs.declared.tree.Declaration.{Declaration}
use Rattle.gm_ast.specs.declared.tree.Sort.{Sort}
use Rattle.gm_ast.specs.declared.tree.Sort.TheVariants as Sorts
use Rattle.gm_ast.specs.declared.tree.Target.{Target}
use Rattle.gm_ast.specs.declared.tree.Target.TheVariants as T
use Rattle.gm_ast.specs.declared.tree.Variable.{Variable}
use Rattle.gm_ast.specs.Names.{is}
use Rattle.gm_ast.specs.Program.{Expr, Stmt, Skip, Then, Declare, DeclareEdge, Assign, Defer, Combine, Foreach, If}
use Rattle.gm_semantics.specs.Statements.{variable_at}
use Rattle.gm_semantics.proofs.TargetLaws.{never}
use Rattle.gm_forms.specs.Forms.{depth_at, may, is_flat, is_inner_head, is_inner_body, is_outer_body}
use Rattle.gm_forms.specs.Sharing.{written_by, variables_of, are_at_once, written, is_owned, is_kept, variables_where, Reduced, reduced_by, reduced, shared_in, kept_in}
use Rattle.gm_forms.specs.Uses.{Role, Written, Declared, Owner, NodeValue, Use, use_as, has_role, suits, uses_of_head, uses_in, uses_in_all, uses_of_target, uses_of_targets, uses_of_declared, uses_of}
use Rattle.gm_forms.proofs.Named.{both-true, all-append}
use Rattle.gm_bfs.specs.Copies.{is_marked, mark, mark_target, mark_targets, mark_changes}
use Rattle.gm_bfs.proofs.Members.{Off, off-both, off-parts, Each, each-both}
use Rattle.gm_bfs.proofs.Parts.{iterates, written-apart, declared-apart, mark-length}

value-apart : (v : Variable) → has_role v NodeValue ≡ true → iterates v ≡ false
value-apart v h = by v.sort h
  where
    by : (sort : Sort) → is Sorts.NodeProperty (record v { sort = sort }) ≡ true → is Sorts.Iterator (record v { sort = sort }) || is Sorts.Graph (record v { sort = sort }) ≡ false
    by Sorts.Graph h = never h refl
    by Sorts.Iterator h = never h refl
    by Sorts.Scalar h = refl
    by Sorts.Edge h = refl
    by Sorts.NodeProperty h = refl
    by Sorts.EdgeProperty h = refl

-- a property is no scalar
pub value-plain : (v : Variable) → has_role v NodeValue ≡ true → is Sorts.Scalar v ≡ false
value-plain v h = by v.sort h
  where
    by : (sort : Sort) → is Sorts.NodeProperty (record v { sort = sort }) ≡ true → is Sorts.Scalar (record v { sort = sort }) ≡ false
    by Sorts.Graph h = refl
    by Sorts.Iterator h = refl
    by Sorts.Scalar h = never h refl
    by Sorts.Edge h = refl
    by Sorts.NodeProperty h = refl
    by Sorts.EdgeProperty h = refl

module _ (ds : List Declaration) where
  abbrev Suit : List Use → Type 0
  Suit us = list_all (suits ds) us ≡ true

  pub use-of : (role : Role) (x : ℕ) → Suit (use_as role x) → (nat_lt x (length ds) ≡ true) × (has_role (variable_at ds x) role ≡ true)
  use-of role x h =
      let s = both-true (suits ds (record { variable = x; role = role })) true h in
      both-true (nat_lt x (length ds)) (has_role (variable_at ds x) role) s.0

  -- a variable of the table that is no iterator
  pub record Changes (v : ℕ) : Type 0 where
    pub within : nat_lt v (length ds) ≡ true
    pub apart : iterates (variable_at ds v) ≡ false

  target-changes : (t : Target) → Suit (uses_of_target t) → Each Changes (written_by t)
  target-changes (T.Scalar x at) h = let u = use-of Written x h in (record { within = u.0; apart = written-apart (variable_at ds x) u.1 }, tt)
  target-changes (T.Property x p at) h =
      let r = all-append (suits ds) (use_as Owner x) (use_as NodeValue p) h in
      let u = use-of NodeValue p r.1 in
      (record { within = u.0; apart = value-apart (variable_at ds p) u.1 }, tt)

  targets-changes : (ts : List Target) → Suit (uses_of_targets ts) → Each Changes (variables_of ts)
  targets-changes [] h = tt
  targets-changes (t ∷ ts) h = let r = all-append (suits ds) (uses_of_target t) (uses_of_targets ts) h in each-both Changes (written_by t) (variables_of ts) (target-changes t r.0) (targets-changes ts r.1)

  where-changes : (test : Target → Bool) (ts : List Target) → Suit (uses_of_targets ts) → Each Changes (variables_where test ts)
  where-changes test [] h = tt
  where-changes test (t ∷ ts) h =
      let r = all-append (suits ds) (uses_of_target t) (uses_of_targets ts) h in
      by (test t) (target-changes t r.0) (where-changes test ts r.1)
    where
      by : (b : Bool) → Each Changes (written_by t) → Each Changes (variables_where test ts) → Each Changes (cond b (written_by t ++ variables_where test ts) (variables_where test ts))
      by true p q = each-both Changes (written_by t) (variables_where test ts) p q
      by false p q = q

  declared-changes : (x : ℕ) (e : Option Expr) → Suit (uses_of_declared x e) → Changes x
  declared-changes x None h = let u = use-of Declared x h in record { within = u.0; apart = declared-apart (variable_at ds x) u.1 }
  declared-changes x (Some e) h = let u = use-of Written x (all-append (suits ds) (use_as Written x) (uses_in e) h).0 in record { within = u.0; apart = written-apart (variable_at ds x) u.1 }

  -- es: the table under which loops are looked at
  module _ (es : List Declaration) (n : ℕ) where
    pub written-changes : (inner : Bool) (s : Stmt) → Suit (uses_of s) → Each Changes (written es n inner s)
    written-changes inner (Then a b) h = let r = all-append (suits ds) (uses_of a) (uses_of b) h in each-both Changes (written es n inner a) (written es n inner b) (written-changes inner a r.0) (written-changes inner b r.1)
    written-changes inner (Declare key x e) h = (declared-changes x e h, tt)
    written-changes inner (Assign key t e) h = target-changes t (all-append (suits ds) (uses_of_target t) (uses_in e) h).0
    written-changes inner (Combine key total r ts vs) h = by (are_at_once es n inner ts)
      where
        by : (b : Bool) → Each Changes (cond b (variables_of ts) [])
        by true = targets-changes ts (all-append (suits ds) (uses_of_targets ts) (uses_in_all vs) h).0
        by false = tt
    written-changes inner (If key c a b) h =
        let r = all-append (suits ds) (uses_in c) (uses_of a ++ uses_of b) h in
        let q = all-append (suits ds) (uses_of a) (uses_of b) r.1 in
        each-both Changes (written es n inner a) (written es n inner b) (written-changes inner a q.0) (written-changes inner b q.1)
    written-changes inner (Foreach key at hd test body) h =
        let r = all-append (suits ds) (uses_of_head hd) (uses_in test ++ uses_of body) h in
        written-changes true body (all-append (suits ds) (uses_in test) (uses_of body) r.1).1
    written-changes inner s h = tt

    abbrev EachReduced : List Reduced → Type 0
    EachReduced [] = Unit {0}
    EachReduced (r ∷ rs) = (Each Changes r.shared × Each Changes r.kept) × EachReduced rs

    reduced-both : (rs qs : List Reduced) → EachReduced rs → EachReduced qs → EachReduced (rs ++ qs)
    reduced-both [] qs p q = q
    reduced-both (r ∷ rs) qs p q = (p.0, reduced-both rs qs p.1 q)

    reduced-changes : (inner : Bool) (s : Stmt) → Suit (uses_of s) → EachReduced (reduced es n inner s)
    reduced-changes inner (Then a b) h = let r = all-append (suits ds) (uses_of a) (uses_of b) h in reduced-both (reduced es n inner a) (reduced es n inner b) (reduced-changes inner a r.0) (reduced-changes inner b r.1)
    reduced-changes inner (Combine key total r ts vs) h = by (are_at_once es n inner ts)
      where
        by : (b : Bool) → EachReduced (cond b [] (reduced_by es n total.key.statement r ts ∷ []))
        by true = tt
        by false = let u = (all-append (suits ds) (uses_of_targets ts) (uses_in_all vs) h).0 in ((where-changes (λ t. not (is_owned es n t)) ts u, where-changes (is_kept es n) ts u), tt)
    reduced-changes inner (If key c a b) h =
        let r = all-append (suits ds) (uses_in c) (uses_of a ++ uses_of b) h in
        let q = all-append (suits ds) (uses_of a) (uses_of b) r.1 in
        reduced-both (reduced es n inner a) (reduced es n inner b) (reduced-changes inner a q.0) (reduced-changes inner b q.1)
    reduced-changes inner (Foreach key at hd test body) h =
        let r = all-append (suits ds) (uses_of_head hd) (uses_in test ++ uses_of body) h in
        reduced-changes true body (all-append (suits ds) (uses_in test) (uses_of body) r.1).1
    reduced-changes inner s h = tt

    shared-each : (rs : List Reduced) → EachReduced rs → Each Changes (shared_in rs)
    shared-each [] h = tt
    shared-each (r ∷ rs) h = each-both Changes r.shared (shared_in rs) h.0.0 (shared-each rs h.1)

    kept-each : (rs : List Reduced) → EachReduced rs → Each Changes (kept_in rs)
    kept-each [] h = tt
    kept-each (r ∷ rs) h = each-both Changes r.kept (kept_in rs) h.0.1 (kept-each rs h.1)

    pub shared-changes : (inner : Bool) (s : Stmt) → Suit (uses_of s) → Each Changes (shared_in (reduced es n inner s))
    shared-changes inner s h = shared-each (reduced es n inner s) (reduced-changes inner s h)

    pub kept-changes : (inner : Bool) (s : Stmt) → Suit (uses_of s) → Each Changes (kept_in (reduced es n inner s))
    kept-changes inner s h = kept-each (reduced es n inner s) (reduced-changes inner s h)

  -- a variable that is no scalar and that a part does not mark is not changed by it
  pub record Left (v : ℕ) (marks : List Bool) : Type 0 where
    pub out : is_marked marks v ≡ false
    pub inside : v < length marks

  module _ (v : ℕ) where
    pub unmark : (p : ℕ) (marks : List Bool) → Left v (mark p marks) → Left v marks × (nat_eq v p ≡ false)
    unmark p marks h = by (nat_eq v p) refl
      where
        by : (b : Bool) → nat_eq v p ≡ b → Left v marks × (b ≡ false)
        by true e =
            let is : p ≡ v = sym (eqb-true v p e) in
            let short : length (mark p marks) ≡ length marks = mark-length p marks in
            let long : v < length (mark p marks) = h.inside in
            let inside : v < length marks = omega arith in
            never (subst (λ q. is_marked (mark q marks) v ≡ true) (sym is) (get_or-set_same marks v true false inside)) h.out
        by false e =
            let short : length (mark p marks) ≡ length marks = mark-length p marks in
            let long : v < length (mark p marks) = h.inside in
            (record { out = sym (get_or-set_other marks p v true false (λ i. never (eq-eqb v p i) e)) ∙ h.out; inside = omega arith }, refl)

    module _ (plain : is Sorts.Scalar (variable_at ds v) ≡ false) where
      scalar-apart : (x : ℕ) → is Sorts.Scalar (variable_at ds x) ≡ true → nat_eq v x ≡ false
      scalar-apart x h = false_from_ne_true (nat_eq v x) (λ e. never (ap (λ z. is Sorts.Scalar (variable_at ds z)) (eqb-true v x e) ∙ h) plain)

      target-left : (t : Target) (marks : List Bool) → Suit (uses_of_target t) → Left v (mark_target t marks) → Left v marks × Off (written_by t) v
      target-left (T.Scalar x at) marks h l = (l, or_from (nat_eq v x) false (scalar-apart x (use-of Written x h).1) refl)
      target-left (T.Property x p at) marks h l = let u = unmark p marks l in (u.0, or_from (nat_eq v p) false u.1 refl)

      targets-left : (ts : List Target) (marks : List Bool) → Suit (uses_of_targets ts) → Left v (mark_targets ts marks) → Left v marks × Off (variables_of ts) v
      targets-left [] marks h l = (l, refl)
      targets-left (t ∷ ts) marks h l =
          let r = all-append (suits ds) (uses_of_target t) (uses_of_targets ts) h in
          let q = targets-left ts (mark_target t marks) r.1 l in
          let u = target-left t marks r.0 q.0 in
          (u.0, off-both (written_by t) (variables_of ts) v u.1 q.1)

      where-off : (test : Target → Bool) (ts : List Target) → Off (variables_of ts) v → Off (variables_where test ts) v
      where-off test [] h = refl
      where-off test (t ∷ ts) h =
          let r = off-parts (written_by t) (variables_of ts) v h in
          by (test t) r.0 (where-off test ts r.1)
        where
          by : (b : Bool) → Off (written_by t) v → Off (variables_where test ts) v → Off (cond b (written_by t ++ variables_where test ts) (variables_where test ts)) v
          by true p q = off-both (written_by t) (variables_where test ts) v p q
          by false p q = q

      declared-scalar : (x d : ℕ) (e : Option Expr) → nat_eq d 0 ≡ false → nat_eq (depth_at ds x) d ≡ true → Suit (uses_of_declared x e) → is Sorts.Scalar (variable_at ds x) ≡ true
      declared-scalar x d None some deep h = by (is Sorts.Scalar (variable_at ds x)) (is Sorts.NodeProperty (variable_at ds x)) (use-of Declared x h).1
        where
          shallow : nat_eq (depth_at ds x) 0 ≡ false
          shallow = ap (λ z. nat_eq z 0) (eqb-true (depth_at ds x) d deep) ∙ some

          by : (b c : Bool) → b || (c && nat_eq (depth_at ds x) 0) ≡ true → b ≡ true
          by true c k = refl
          by false true k = never k shallow
          by false false k = never k refl
      declared-scalar x d (Some e) some deep h = (use-of Written x (all-append (suits ds) (use_as Written x) (uses_in e) h).0).1

      module _ (es : List Declaration) (n : ℕ) where
        -- what a body leaves
        pub record Leaves (marks : List Bool) (own kept : List ℕ) : Type 0 where
          pub left : Left v marks
          pub unwritten : Off own v
          pub unkept : Off kept v

        kept-both : (rs qs : List Reduced) → Off (kept_in rs) v → Off (kept_in qs) v → Off (kept_in (rs ++ qs)) v
        kept-both [] qs p q = q
        kept-both (r ∷ rs) qs p q =
            let u = off-parts r.kept (kept_in rs) v p in
            off-both r.kept (kept_in (rs ++ qs)) v u.0 (kept-both rs qs u.1 q)

        combined : (inner : Bool) (number : ℕ) (r : Reduce) (ts : List Target) (marks : List Bool) → Left v marks × Off (variables_of ts) v → (b : Bool) →
            Leaves marks (cond b (variables_of ts) []) (kept_in (cond b [] (reduced_by es n number r ts ∷ [])))
        combined inner number r ts marks q true = record { left = q.0; unwritten = q.1; unkept = refl }
        combined inner number r ts marks q false = record { left = q.0; unwritten = refl; unkept = off-both (variables_where (is_kept es n) ts) [] v (where-off (is_kept es n) ts q.1) refl }

        inner-left : (its : List ℕ) (edge : Bool) (s : Stmt) (marks : List Bool) → Suit (uses_of s) → is_inner_body ds its edge s ≡ true → Left v (mark_changes s marks) → Leaves marks (written es n true s) (kept_in (reduced es n true s))
        inner-left its edge (Then a b) marks h f l =
            let r = all-append (suits ds) (uses_of a) (uses_of b) h in
            let g = both-true (is_inner_body ds its edge a) (is_inner_body ds its edge b) f in
            let q = inner-left its edge b (mark_changes a marks) r.1 g.1 l in
            let p = inner-left its edge a marks r.0 g.0 q.left in
            record {
              left = p.left;
              unwritten = off-both (written es n true a) (written es n true b) v p.unwritten q.unwritten;
              unkept = kept-both (reduced es n true a) (reduced es n true b) p.unkept q.unkept;
            }
        inner-left its edge (Declare key x e) marks h f l =
            record { left = l; unwritten = or_from (nat_eq v x) false (scalar-apart x (declared-scalar x 2 e refl (both-true (nat_eq (depth_at ds x) 2) (may (is_flat its edge) e) f).0 h)) refl; unkept = refl }
        inner-left its edge (Assign key (T.Scalar x at) e) marks h f l =
            let q = target-left (T.Scalar x at) marks (all-append (suits ds) (use_as Written x) (uses_in e) h).0 l in
            record { left = q.0; unwritten = q.1; unkept = refl }
        inner-left its edge (Assign key (T.Property x p at) e) marks h f l = never f refl
        inner-left its edge (Combine key total r ts vs) marks h f l =
            combined true total.key.statement r ts marks (targets-left ts marks (all-append (suits ds) (uses_of_targets ts) (uses_in_all vs) h).0 l) (are_at_once es n true ts)
        inner-left its edge (If key c a b) marks h f l =
            let r = all-append (suits ds) (uses_in c) (uses_of a ++ uses_of b) h in
            let s = all-append (suits ds) (uses_of a) (uses_of b) r.1 in
            let g = both-true (is_flat its edge c) (is_inner_body ds its edge a && is_inner_body ds its edge b) f in
            let k = both-true (is_inner_body ds its edge a) (is_inner_body ds its edge b) g.1 in
            let q = inner-left its edge b (mark_changes a marks) s.1 k.1 l in
            let p = inner-left its edge a marks s.0 k.0 q.left in
            record {
              left = p.left;
              unwritten = off-both (written es n true a) (written es n true b) v p.unwritten q.unwritten;
              unkept = kept-both (reduced es n true a) (reduced es n true b) p.unkept q.unkept;
            }
        inner-left its edge Skip marks h f l = record { left = l; unwritten = refl; unkept = refl }
        inner-left its edge (DeclareEdge x y at) marks h f l = record { left = l; unwritten = refl; unkept = refl }
        inner-left its edge s marks h f l = never f refl

        pub outer-left : (x : ℕ) (s : Stmt) (marks : List Bool) → Suit (uses_of s) → is_outer_body ds true x s ≡ true → Left v (mark_changes s marks) → Leaves marks (written es n false s) (kept_in (reduced es n false s))
        outer-left x (Then a b) marks h f l =
            let r = all-append (suits ds) (uses_of a) (uses_of b) h in
            let g = both-true (is_outer_body ds true x a) (is_outer_body ds true x b) f in
            let q = outer-left x b (mark_changes a marks) r.1 g.1 l in
            let p = outer-left x a marks r.0 g.0 q.left in
            record {
              left = p.left;
              unwritten = off-both (written es n false a) (written es n false b) v p.unwritten q.unwritten;
              unkept = kept-both (reduced es n false a) (reduced es n false b) p.unkept q.unkept;
            }
        outer-left x (Declare key y e) marks h f l =
            record { left = l; unwritten = or_from (nat_eq v y) false (scalar-apart y (declared-scalar y 1 e refl (both-true (nat_eq (depth_at ds y) 1) (may (is_flat (x ∷ []) false) e) f).0 h)) refl; unkept = refl }
        outer-left x (Assign key t e) marks h f l =
            let q = target-left t marks (all-append (suits ds) (uses_of_target t) (uses_in e) h).0 l in
            record { left = q.0; unwritten = q.1; unkept = refl }
        outer-left x (Combine key total r ts vs) marks h f l =
            combined false total.key.statement r ts marks (targets-left ts marks (all-append (suits ds) (uses_of_targets ts) (uses_in_all vs) h).0 l) (are_at_once es n false ts)
        outer-left x (If key c a b) marks h f l =
            let r = all-append (suits ds) (uses_in c) (uses_of a ++ uses_of b) h in
            let s = all-append (suits ds) (uses_of a) (uses_of b) r.1 in
            let g = both-true (is_flat (x ∷ []) false c) (is_outer_body ds true x a && is_outer_body ds true x b) f in
            let k = both-true (is_outer_body ds true x a) (is_outer_body ds true x b) g.1 in
            let q = outer-left x b (mark_changes a marks) s.1 k.1 l in
            let p = outer-left x a marks s.0 k.0 q.left in
            record {
              left = p.left;
              unwritten = off-both (written es n false a) (written es n false b) v p.unwritten q.unwritten;
              unkept = kept-both (reduced es n false a) (reduced es n false b) p.unkept q.unkept;
            }
        outer-left x (Foreach key at hd test body) marks h f l =
            let its = x ∷ hd.iterator ∷ [] in
            let r = all-append (suits ds) (uses_of_head hd) (uses_in test ++ uses_of body) h in
            let s = all-append (suits ds) (uses_in test) (uses_of body) r.1 in
            let g = both-true (is_inner_head true x hd) (is_flat its true test && is_inner_body ds its true body) f in
            let k = both-true (is_flat its true test) (is_inner_body ds its true body) g.1 in
            let q = inner-left its true body marks s.1 k.1 l in
            record { left = q.left; unwritten = q.unwritten; unkept = q.unkept }
        outer-left x Skip marks h f l = record { left = l; unwritten = refl; unkept = refl }
        outer-left x (DeclareEdge y z at) marks h f l = record { left = l; unwritten = refl; unkept = refl }
        outer-left x (Defer key t e) marks h f l = record { left = l; unwritten = refl; unkept = refl }
        outer-left x s marks h f l = never f refl

-- marks are as many as before
target-length : (t : Target) (marks : List Bool) → length (mark_target t marks) ≡ length marks
target-length (T.Scalar x at) marks = refl
target-length (T.Property x p at) marks = mark-length p marks

targets-length : (ts : List Target) (marks : List Bool) → length (mark_targets ts marks) ≡ length marks
targets-length [] marks = refl
targets-length (t ∷ ts) marks = targets-length ts (mark_target t marks) ∙ target-length t marks

pub changes-length : (s : Stmt) (marks : List Bool) → length (mark_changes s marks) ≡ length marks
changes-length (Then a b) marks = changes-length b (mark_changes a marks) ∙ changes-length a marks
changes-length (Assign key t e) marks = target-length t marks
changes-length (Combine key total r ts es) marks = targets-length ts marks
changes-length (If key c a b) marks = changes-length b (mark_changes a marks) ∙ changes-length a marks
changes-length (Foreach key at hd test body) marks = changes-length body marks
changes-length s marks = refl
