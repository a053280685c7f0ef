-- A property that a part changes is not read at other nodes by its loops over levels: it is copied where the part reads it at other levels.
use Rattle.std.proofs.Common.{◌≡◌, ◌<◌, ℕ, Bool, true, false, cond, List, [], ◌∷◌, ◌++◌, map, length, refl, sym, ap, ◌∙◌, arith, Option, Some, None, ⊎_elim, inl, inr}
use Rattle.std.specs.Prelude.{◌&&◌, ◌||◌, ◌⊎◌, not, nat_eq, option_map}
use Rattle.std.specs.List.{list_all}
use Rattle.std.proofs.lemmas.Bool.{cases_Bool, eqb-true, ltb-true, or_parts, false_from_ne_true}
use Rattle.gm_ast.specs.declared.tree.Declaration.{Declaration}
use Rattle.gm_ast.specs.declared.tree.Domain.{Domain}
use Rattle.gm_ast.specs.declared.tree.Domain.TheVariants.{Nodes, OutNbrs, InNbrs, UpNbrs, DownNbrs}
use Rattle.gm_ast.specs.declared.tree.Head.{Head}
use Rattle.gm_ast.specs.declared.tree.Sort.TheVariants as Sorts
use Rattle.gm_ast.specs.declared.tree.Target.{Target}
use Rattle.gm_ast.specs.declared.tree.Target.TheVariants as T
use Rattle.gm_ast.specs.Loops.{asks_levels}
use Rattle.gm_ast.specs.Names.{is}
use Rattle.gm_ast.specs.Ways.{is_in}
use Rattle.gm_ast.specs.Program.{Expr, Const, Var, Property, EdgeProperty, Degree, NodeCount, EdgeCount, Live, Unary, Binary, Both, Either, Choose, Folded, Stmt, Skip, Then, Declare, DeclareEdge, Assign, Defer, Combine, Foreach, If}
use Rattle.gm_semantics.specs.Statements.{variable_at}
use Rattle.gm_semantics.proofs.TargetLaws.{never}
use Rattle.gm_forms.specs.Forms.{depth_at, may, is_flat, is_own, is_inner_local, is_inner_given, is_given, is_within, are_reduced, is_inner_head, is_inner_body, is_outer_body}
use Rattle.gm_forms.specs.Sharing.{Read, reads_in, sights_in_option, sights_in_all, is_at_once, are_at_once, sights_of_target, sights_at_target, sights_by, sights_of_targets, sights_of, written, reduced, kept_in, level_reads_in, level_reads_of, not_through}
use Rattle.gm_forms.specs.Uses.{Owner, Written, NodeValue, Use, use_as, has_role, suits, uses_of_head, uses_in, uses_in_all, uses_of_target, uses_of_targets, uses_of_declared, uses_of}
use Rattle.gm_forms.proofs.Named.{both-true, all-append}
use Rattle.gm_bfs.specs.declared.fresh.Fresh.{Fresh}
use Rattle.gm_bfs.specs.Variables.{fresh_from, copy_of}
use Rattle.gm_bfs.specs.Copies.{is_marked, mark, mark_read, mark_reads, mark_option, mark_all, mark_inner, mark_levels, mark_changes, no_marks, copied, asks_up, asks_down, reading, seen_as, inner_reading}
use Rattle.gm_bfs.specs.Searches.{is_always, conjunction, is_on, inner_loop, by_levels}
use Rattle.gm_bfs.proofs.Members.{off-both, Unread, unread-both, unread-parts, owner-other}
use Rattle.gm_bfs.proofs.Parts.{levels-length, no-length}
use Rattle.gm_bfs.proofs.Longer.{none-marked}
use Rattle.gm_bfs.proofs.Changed.{Changes, use-of, value-plain, Left, unmark, outer-left, changes-length}
use Rattle.gm_bfs.proofs.Seen.{added-apart, copy-apart, seen-apart}

-- a part that asks for no levels marks nothing
quiet-levels : (changed : List Bool) (s : Stmt) (marks : List Bool) → asks_up s ≡ false → asks_down s ≡ false → mark_levels changed s marks ≡ marks
quiet-levels changed (Then a b) marks u d =
    let p = or_parts (asks_up a) (asks_up b) u in
    let q = or_parts (asks_down a) (asks_down b) d in
    quiet-levels changed b (mark_levels changed a marks) p.1 q.1 ∙ quiet-levels changed a marks p.0 q.0
quiet-levels changed (If key c a b) marks u d =
    let p = or_parts (asks_up a) (asks_up b) u in
    let q = or_parts (asks_down a) (asks_down b) d in
    quiet-levels changed b (mark_levels changed a marks) p.1 q.1 ∙ quiet-levels changed a marks p.0 q.0
quiet-levels changed (Foreach key at h test body) marks u d = by h.domain u d
  where
    by : (e : Domain) → asks_up (Foreach key at (record h { domain = e }) test body) ≡ false → asks_down (Foreach key at (record h { domain = e }) test body) ≡ false →
        cond (asks_levels e) (mark_inner changed h.iterator body (mark_reads changed h.iterator test marks)) marks ≡ marks
    by Nodes u d = refl
    by OutNbrs u d = refl
    by InNbrs u d = refl
    by UpNbrs u d = never refl u
    by DownNbrs u d = never refl d
quiet-levels changed s marks u d = refl

-- v: a variable that a part changes; n: the iterator of the part; copies: the properties that are read from copies
module _ (ds es : List Declaration) (v : ℕ) (c : Changes ds v) (n : ℕ) (copies : List Bool) where
  abbrev f : Fresh
  f = fresh_from (length ds)

  abbrev Suit : List Use → Type 0
  Suit us = list_all (suits ds) us ≡ true

  -- not read through other variables than the iterator
  abbrev pub Away : List Read → Type 0
  Away rs = Unread v (owner-other v n) rs

  join : (rs qs : List Read) → Away rs → Away qs → Away (rs ++ qs)
  join rs qs p q = unread-both v (owner-other v n) rs qs p q

  -- expressions that read through the iterator alone
  home : {A : Type 0} (b : Bool) → b || false ≡ true → not b ≡ true → A
  home true h t = never t refl
  home false h t = never h refl

  flat-away : (edge : Bool) (e : Expr) → is_flat (n ∷ []) edge e ≡ true → Away (reads_in e)
  flat-away edge (Const k) h = tt
  flat-away edge (Var x at) h = tt
  flat-away edge (Property x p at) h = (λ t. home (nat_eq x n) h t, tt)
  flat-away edge (EdgeProperty x p at) h = tt
  flat-away edge (Degree d x at) h = tt
  flat-away edge NodeCount h = tt
  flat-away edge EdgeCount h = tt
  flat-away edge (Live x at) h = tt
  flat-away edge (Unary op at e) h = flat-away edge e h
  flat-away edge (Binary op at a b) h = let q = both-true (is_flat (n ∷ []) edge a) (is_flat (n ∷ []) edge b) h in join (reads_in a) (reads_in b) (flat-away edge a q.0) (flat-away edge b q.1)
  flat-away edge (Both a b) h = let q = both-true (is_flat (n ∷ []) edge a) (is_flat (n ∷ []) edge b) h in join (reads_in a) (reads_in b) (flat-away edge a q.0) (flat-away edge b q.1)
  flat-away edge (Either a b) h = let q = both-true (is_flat (n ∷ []) edge a) (is_flat (n ∷ []) edge b) h in join (reads_in a) (reads_in b) (flat-away edge a q.0) (flat-away edge b q.1)
  flat-away edge (Choose k a b) h =
      let q = both-true (is_flat (n ∷ []) edge k) (is_flat (n ∷ []) edge a && is_flat (n ∷ []) edge b) h in
      let r = both-true (is_flat (n ∷ []) edge a) (is_flat (n ∷ []) edge b) q.1 in
      join (reads_in k) (reads_in a ++ reads_in b) (flat-away edge k q.0) (join (reads_in a) (reads_in b) (flat-away edge a r.0) (flat-away edge b r.1))
  flat-away edge (Folded g h0 t e) h = never h refl

  flat-option-away : (e : Option Expr) → may (is_flat (n ∷ []) false) e ≡ true → Away (sights_in_option e).properties
  flat-option-away None h = tt
  flat-option-away (Some e) h = flat-away false e h

  flat-all-away : (vs : List Expr) → list_all (is_flat (n ∷ []) false) vs ≡ true → Away (sights_in_all vs).properties
  flat-all-away [] h = tt
  flat-all-away (e ∷ vs) h = let q = both-true (is_flat (n ∷ []) false e) (list_all (is_flat (n ∷ []) false) vs) h in join (reads_in e) (sights_in_all vs).properties (flat-away false e q.0) (flat-all-away vs q.1)

  -- targets
  target-away : (t : Target) → Away (sights_of_target t).properties
  target-away (T.Scalar x at) = tt
  target-away (T.Property x p at) = tt

  by-targets-away : (ts : List Target) → Away (sights_by sights_of_target ts).properties
  by-targets-away [] = tt
  by-targets-away (t ∷ ts) = join (sights_of_target t).properties (sights_by sights_of_target ts).properties (target-away t) (by-targets-away ts)

  at-target-away : (inner : Bool) (t : Target) → is_at_once es n inner t ≡ true → Away (sights_at_target t).properties
  at-target-away inner (T.Scalar x at) h = tt
  at-target-away false (T.Property x p at) h = (λ t. never t (ap not h), tt)
  at-target-away true (T.Property x p at) h = never h refl

  at-targets-away : (inner : Bool) (ts : List Target) → are_at_once es n inner ts ≡ true → Away (sights_by sights_at_target ts).properties
  at-targets-away inner [] h = tt
  at-targets-away inner (t ∷ ts) h =
      let q = both-true (is_at_once es n inner t) (are_at_once es n inner ts) h in
      join (sights_at_target t).properties (sights_by sights_at_target ts).properties (at-target-away inner t q.0) (at-targets-away inner ts q.1)

  targets-away : (inner : Bool) (ts : List Target) → Away (sights_of_targets es n inner ts).properties
  targets-away inner ts = by (are_at_once es n inner ts) refl
    where
      by : (b : Bool) → are_at_once es n inner ts ≡ b → Away (sights_by (cond b sights_at_target sights_of_target) ts).properties
      by true e = at-targets-away inner ts e
      by false e = by-targets-away ts

  -- changed: the properties that the part changes
  module _ (changed : List Bool) where
    -- a property that is the variable is copied
    abbrev pub Copied : Type 0
    Copied = (p : ℕ) → has_role (variable_at ds p) NodeValue ≡ true → nat_eq v p ≡ true → is_marked copies p ≡ true

    -- or it is among the changed ones, and was not marked so far, so that it has not been read
    pub record Pending (marks : List Bool) : Type 0 where
      pub change : is_marked changed v ≡ true
      pub left : Left ds v marks

    abbrev pub Settled : List Bool → Type 0
    Settled marks = Copied ⊎ Pending marks

    module _ (w : ℕ) where
      abbrev rd : Expr → Expr
      rd e = reading f copies w e

      abbrev its : List ℕ
      its = n ∷ w ∷ []

      copied-apart : (x p : ℕ) → nat_eq x w ≡ true → (nat_eq v p ≡ true → is_marked copies p ≡ true) → nat_eq v (seen_as f copies w x p) ≡ false
      copied-apart x p e h = by (nat_eq x w) (is_marked copies p) e refl
        where
          by : (a b : Bool) → a ≡ true → is_marked copies p ≡ b → nat_eq v (cond (a && b) (copy_of f p) p) ≡ false
          by false b e i = never e refl
          by true true e i = copy-apart ds es copies v c p
          by true false e i = false_from_ne_true (nat_eq v p) (λ z. never (h z) i)

      property-settled : (x p : ℕ) (marks : List Bool) → has_role (variable_at ds p) NodeValue ≡ true → nat_eq x n || (nat_eq x w || false) ≡ true → Settled (mark_read changed w x p marks) →
          Settled marks × ((not (nat_eq x n) ≡ true) → nat_eq v (seen_as f copies w x p) ≡ false)
      property-settled x p marks role flat s = by (nat_eq x w) refl flat s
        where
          through : (b : Bool) → is_marked changed p ≡ b → nat_eq x w ≡ true → Pending (cond b (mark p marks) marks) → Settled marks × ((not (nat_eq x n) ≡ true) → nat_eq v (seen_as f copies w x p) ≡ false)
          through true m e r = let u = unmark ds v p marks r.left in (inr (record { change = r.change; left = u.0 }), λ t. seen-apart ds es copies v c w x p u.1)
          through false m e r = (inr r, λ t. seen-apart ds es copies v c w x p (false_from_ne_true (nat_eq v p) (λ z. never (ap (is_marked changed) (sym (eqb-true v p z)) ∙ r.change) m)))

          by : (b : Bool) → nat_eq x w ≡ b → nat_eq x n || (b || false) ≡ true → Settled (cond (b && is_marked changed p) (mark p marks) marks) → Settled marks × ((not (nat_eq x n) ≡ true) → nat_eq v (seen_as f copies w x p) ≡ false)
          by false e flat s = (s, λ t. home (nat_eq x n) flat t)
          by true e flat (inl h) = (inl h, λ t. copied-apart x p e (h p role))
          by true e flat (inr r) = through (is_marked changed p) refl e r

      reading-settled : (e : Expr) (marks : List Bool) → Suit (uses_in e) → is_flat its true e ≡ true → Settled (mark_reads changed w e marks) → Settled marks × Away (reads_in (rd e))
      reading-settled (Const k) marks u h s = (s, tt)
      reading-settled (Var x at) marks u h s = (s, tt)
      reading-settled (Property x p at) marks u h s =
          let r = all-append (suits ds) (use_as Owner x) (use_as NodeValue p) u in
          let q = property-settled x p marks (use-of ds NodeValue p r.1).1 h s in
          (q.0, (q.1, tt))
      reading-settled (EdgeProperty x p at) marks u h s = (s, tt)
      reading-settled (Degree d x at) marks u h s = (s, tt)
      reading-settled NodeCount marks u h s = (s, tt)
      reading-settled EdgeCount marks u h s = (s, tt)
      reading-settled (Live x at) marks u h s = (s, tt)
      reading-settled (Unary op at e) marks u h s = reading-settled e marks u h s
      reading-settled (Binary op at a b) marks u h s =
          let r = all-append (suits ds) (uses_in a) (uses_in b) u in
          let q = both-true (is_flat its true a) (is_flat its true b) h in
          let z = reading-settled b (mark_reads changed w a marks) r.1 q.1 s in
          let y = reading-settled a marks r.0 q.0 z.0 in
          (y.0, join (reads_in (rd a)) (reads_in (rd b)) y.1 z.1)
      reading-settled (Both a b) marks u h s =
          let r = all-append (suits ds) (uses_in a) (uses_in b) u in
          let q = both-true (is_flat its true a) (is_flat its true b) h in
          let z = reading-settled b (mark_reads changed w a marks) r.1 q.1 s in
          let y = reading-settled a marks r.0 q.0 z.0 in
          (y.0, join (reads_in (rd a)) (reads_in (rd b)) y.1 z.1)
      reading-settled (Either a b) marks u h s =
          let r = all-append (suits ds) (uses_in a) (uses_in b) u in
          let q = both-true (is_flat its true a) (is_flat its true b) h in
          let z = reading-settled b (mark_reads changed w a marks) r.1 q.1 s in
          let y = reading-settled a marks r.0 q.0 z.0 in
          (y.0, join (reads_in (rd a)) (reads_in (rd b)) y.1 z.1)
      reading-settled (Choose k a b) marks u h s =
          let r = all-append (suits ds) (uses_in k) (uses_in a ++ uses_in b) u in
          let q = both-true (is_flat its true k) (is_flat its true a && is_flat its true b) h in
          let i = all-append (suits ds) (uses_in a) (uses_in b) r.1 in
          let j = both-true (is_flat its true a) (is_flat its true b) q.1 in
          let z = reading-settled b (mark_reads changed w a (mark_reads changed w k marks)) i.1 j.1 s in
          let y = reading-settled a (mark_reads changed w k marks) i.0 j.0 z.0 in
          let x = reading-settled k marks r.0 q.0 y.0 in
          (x.0, join (reads_in (rd k)) (reads_in (rd a) ++ reads_in (rd b)) x.1 (join (reads_in (rd a)) (reads_in (rd b)) y.1 z.1))
      reading-settled (Folded g h0 t e) marks u h s = never h refl

      option-settled : (y : ℕ) (e : Option Expr) (marks : List Bool) → Suit (uses_of_declared y e) → may (is_flat its true) e ≡ true → Settled (mark_option changed w e marks) → Settled marks × Away (sights_in_option (option_map rd e)).properties
      option-settled y None marks u h s = (s, tt)
      option-settled y (Some e) marks u h s = reading-settled e marks (all-append (suits ds) (use_as Written y) (uses_in e) u).1 h s

      all-settled : (vs : List Expr) (marks : List Bool) → Suit (uses_in_all vs) → list_all (is_flat its true) vs ≡ true → Settled (mark_all changed w vs marks) → Settled marks × Away (sights_in_all (map rd vs)).properties
      all-settled [] marks u h s = (s, tt)
      all-settled (e ∷ vs) marks u h s =
          let r = all-append (suits ds) (uses_in e) (uses_in_all vs) u in
          let q = both-true (is_flat its true e) (list_all (is_flat its true) vs) h in
          let z = all-settled vs (mark_reads changed w e marks) r.1 q.1 s in
          let y = reading-settled e marks r.0 q.0 z.0 in
          (y.0, join (reads_in (rd e)) (sights_in_all (map rd vs)).properties y.1 z.1)

      inner-settled : (b : Stmt) (marks : List Bool) → Suit (uses_of b) → is_inner_body ds its true b ≡ true → Settled (mark_inner changed w b marks) → Settled marks × Away (sights_of es n true (inner_reading f copies w b)).properties
      inner-settled Skip marks u h s = (s, tt)
      inner-settled (Then a b) marks u h s =
          let r = all-append (suits ds) (uses_of a) (uses_of b) u in
          let q = both-true (is_inner_body ds its true a) (is_inner_body ds its true b) h in
          let z = inner-settled b (mark_inner changed w a marks) r.1 q.1 s in
          let y = inner-settled a marks r.0 q.0 z.0 in
          (y.0, join (sights_of es n true (inner_reading f copies w a)).properties (sights_of es n true (inner_reading f copies w b)).properties y.1 z.1)
      inner-settled (Declare key y e) marks u h s = option-settled y e marks u (both-true (nat_eq (depth_at ds y) 2) (may (is_flat its true) e) h).1 s
      inner-settled (DeclareEdge y z at) marks u h s = (s, tt)
      inner-settled (Assign key t e) marks u h s =
          let q = reading-settled e marks (all-append (suits ds) (uses_of_target t) (uses_in e) u).1 (both-true (is_inner_local ds t) (is_flat its true e) h).1 s in
          (q.0, join (sights_of_target t).properties (reads_in (rd e)) (target-away t) q.1)
      inner-settled (Combine key total r ts vs) marks u h s =
          let q = all-settled vs marks (all-append (suits ds) (uses_of_targets ts) (uses_in_all vs) u).1 (both-true (are_reduced (is_inner_given ds) (is_within ds 2) r ts) (list_all (is_flat its true) vs) h).1 s in
          (q.0, join (sights_of_targets es n true ts).properties (sights_in_all (map rd vs)).properties (targets-away true ts) q.1)
      inner-settled (If key k a b) marks u h s =
          let r = all-append (suits ds) (uses_in k) (uses_of a ++ uses_of b) u in
          let i = all-append (suits ds) (uses_of a) (uses_of b) r.1 in
          let q = both-true (is_flat its true k) (is_inner_body ds its true a && is_inner_body ds its true b) h in
          let j = both-true (is_inner_body ds its true a) (is_inner_body ds its true b) q.1 in
          let z = inner-settled b (mark_inner changed w a (mark_reads changed w k marks)) i.1 j.1 s in
          let y = inner-settled a (mark_reads changed w k marks) i.0 j.0 z.0 in
          let x = reading-settled k marks r.0 q.0 y.0 in
          let first = (sights_of es n true (inner_reading f copies w a)).properties in
          let second = (sights_of es n true (inner_reading f copies w b)).properties in
          (x.0, join (reads_in (rd k)) (first ++ second) x.1 (join first second y.1 z.1))
      inner-settled b marks u h s = never h refl

      -- an inner loop by levels
      ranged-settled : (h : Head) (t : Expr) (body : Stmt) (marks : List Bool) (y : ℕ) → Suit (uses_in t) → Suit (uses_of body) → is_flat its true t ≡ true → is_inner_body ds its true body ≡ true →
          Settled (mark_inner changed w body (mark_reads changed w t marks)) →
          Settled marks × Away (reads_in (conjunction (is_on f h y) (rd t)) ++ (sights_of es n true (inner_reading f copies w body)).properties)
      ranged-settled h t body marks y u v' k l s =
          let z = inner-settled body (mark_reads changed w t marks) v' l s in
          let q = reading-settled t marks u k z.0 in
          (q.0, join (reads_in (conjunction (is_on f h y) (rd t))) (sights_of es n true (inner_reading f copies w body)).properties (on q.1) z.1)
        where
          on : Away (reads_in (rd t)) → Away (reads_in (conjunction (is_on f h y) (rd t)))
          on p = by (is_always (rd t))
            where
              by : (b : Bool) → Away (reads_in (cond b (is_on f h y) (Both (is_on f h y) (rd t))))
              by true = (λ t. added-apart ds es copies v c 6, tt)
              by false = (λ t. added-apart ds es copies v c 6, p)

    levels-settled : (b : Stmt) (marks : List Bool) → Suit (uses_of b) → is_outer_body ds true n b ≡ true → Away (level_reads_of es n b) → Settled (mark_levels changed b marks) →
        Settled marks × Away (sights_of es n false (by_levels f copies b)).properties
    levels-settled Skip marks u h r s = (s, tt)
    levels-settled (Then a b) marks u h r s =
        let i = all-append (suits ds) (uses_of a) (uses_of b) u in
        let q = both-true (is_outer_body ds true n a) (is_outer_body ds true n b) h in
        let p = unread-parts v (owner-other v n) (level_reads_of es n a) (level_reads_of es n b) r in
        let z = levels-settled b (mark_levels changed a marks) i.1 q.1 p.1 s in
        let y = levels-settled a marks i.0 q.0 p.0 z.0 in
        (y.0, join (sights_of es n false (by_levels f copies a)).properties (sights_of es n false (by_levels f copies b)).properties y.1 z.1)
    levels-settled (Declare key y e) marks u h r s = (s, flat-option-away e (both-true (nat_eq (depth_at ds y) 1) (may (is_flat (n ∷ []) false) e) h).1)
    levels-settled (DeclareEdge y z at) marks u h r s = (s, tt)
    levels-settled (Assign key t e) marks u h r s =
        (s, join (sights_of_target t).properties (reads_in e) (target-away t) (flat-away false e (both-true (is_own ds n t) (is_flat (n ∷ []) false e) h).1))
    levels-settled (Defer key (T.Scalar y at) e) marks u h r s = never h refl
    levels-settled (Defer key (T.Property y p at) e) marks u h r s = (s, flat-away false e (both-true (nat_eq y n) (is_flat (n ∷ []) false e) h).1)
    levels-settled (Combine key total red ts vs) marks u h r s =
        (s, join (sights_of_targets es n false ts).properties (sights_in_all vs).properties (targets-away false ts) (flat-all-away vs (both-true (are_reduced (is_given ds n) (is_within ds 1) red ts) (list_all (is_flat (n ∷ []) false) vs) h).1))
    levels-settled (If key k a b) marks u h r s =
        let i = all-append (suits ds) (uses_in k) (uses_of a ++ uses_of b) u in
        let j = all-append (suits ds) (uses_of a) (uses_of b) i.1 in
        let q = both-true (is_flat (n ∷ []) false k) (is_outer_body ds true n a && is_outer_body ds true n b) h in
        let l = both-true (is_outer_body ds true n a) (is_outer_body ds true n b) q.1 in
        let m = unread-parts v (owner-other v n) (level_reads_in k) (level_reads_of es n a ++ level_reads_of es n b) r in
        let p = unread-parts v (owner-other v n) (level_reads_of es n a) (level_reads_of es n b) m.1 in
        let z = levels-settled b (mark_levels changed a marks) j.1 l.1 p.1 s in
        let y = levels-settled a marks j.0 l.0 p.0 z.0 in
        let first = (sights_of es n false (by_levels f copies a)).properties in
        let second = (sights_of es n false (by_levels f copies b)).properties in
        (y.0, join (reads_in k) (first ++ second) (flat-away false k q.0) (join first second y.1 z.1))
    levels-settled (Foreach key at hd test body) marks u h r s = by hd.domain r s
      where
        range : (y : ℕ) → Settled (mark_inner changed hd.iterator body (mark_reads changed hd.iterator test marks)) →
            Settled marks × Away (reads_in (conjunction (is_on f hd y) (reading f copies hd.iterator test)) ++ (sights_of es n true (inner_reading f copies hd.iterator body)).properties)
        range y s =
            let its = n ∷ hd.iterator ∷ [] in
            let i = all-append (suits ds) (uses_of_head hd) (uses_in test ++ uses_of body) u in
            let j = all-append (suits ds) (uses_in test) (uses_of body) i.1 in
            let q = both-true (is_inner_head true n hd) (is_flat its true test && is_inner_body ds its true body) h in
            let l = both-true (is_flat its true test) (is_inner_body ds its true body) q.1 in
            ranged-settled hd.iterator hd test body marks y j.0 j.1 l.0 l.1 s

        by : (d : Domain) → Away (cond (asks_levels d) (not_through hd.iterator (reads_in test ++ (sights_of es n true body).properties)) (reads_in test ++ (sights_of es n true body).properties)) → Settled (cond (asks_levels d) (mark_inner changed hd.iterator body (mark_reads changed hd.iterator test marks)) marks) →
            Settled marks × Away (sights_of es n false (inner_loop f copies key at hd test body d)).properties
        by Nodes r s = (s, r)
        by OutNbrs r s = (s, r)
        by InNbrs r s = (s, r)
        by UpNbrs r s = range f.up s
        by DownNbrs r s = range f.down s
    levels-settled b marks u h r s = never h refl

-- a property that a part writes or keeps at its own node is read there alone
module _ (ds es : List Declaration) (v : ℕ) (c : Changes ds v) (n : ℕ) (test : Expr) (body : Stmt) (uses : list_all (suits ds) (uses_of body) ≡ true) (form : is_outer_body ds true n body ≡ true) where
  abbrev k : ℕ
  k = length ds

  abbrev changed' : List Bool
  changed' = mark_changes body (no_marks k)

  abbrev marks : List Bool
  marks = copied k body

  unmarked : is_marked marks v ≡ false → is_marked (mark_levels changed' body (no_marks k)) v ≡ false
  unmarked h = by (asks_up body || asks_down body) refl h
    where
      by : (b : Bool) → asks_up body || asks_down body ≡ b → is_marked (cond b (mark_levels changed' body (no_marks k)) []) v ≡ false → is_marked (mark_levels changed' body (no_marks k)) v ≡ false
      by true e h = h
      by false e h = let q = or_parts (asks_up body) (asks_down body) e in ap (λ m. is_marked m v) (quiet-levels changed' body (no_marks k) q.0 q.1) ∙ none-marked ds k v

  settled : is_in (written es n false body ++ kept_in (reduced es n false body)) v ≡ true → Settled ds es v c n marks changed' (mark_levels changed' body (no_marks k))
  settled has =
      ⊎_elim
      (λ (scalar : is Sorts.Scalar (variable_at ds v) ≡ true). inl (λ p role same. never (ap (λ z. is Sorts.Scalar (variable_at ds z)) (sym (eqb-true v p same)) ∙ scalar) (value-plain (variable_at ds p) role)))
      (λ (plain : is Sorts.Scalar (variable_at ds v) ≡ false).
      ⊎_elim
      (λ (change : is_marked changed' v ≡ true).
      ⊎_elim
      (λ (here : is_marked marks v ≡ true). inl (λ p role same. ap (is_marked marks) (sym (eqb-true v p same)) ∙ here))
      (λ (away : is_marked marks v ≡ false).
      let long : length (mark_levels changed' body (no_marks k)) ≡ k = levels-length changed' body (no_marks k) ∙ no-length k in
      let less : v < k = ltb-true v k c.within in
      inr (record { change = change; left = record { out = unmarked away; inside = omega arith } }))
      (cases_Bool (is_marked marks v)))
      (λ (still : is_marked changed' v ≡ false).
      let long : length changed' ≡ k = changes-length body (no_marks k) ∙ no-length k in
      let less : v < k = ltb-true v k c.within in
      let l = outer-left ds v plain es n n body (no_marks k) uses form (record { out = still; inside = omega arith }) in
      never has (off-both (written es n false body) (kept_in (reduced es n false body)) v l.unwritten l.unkept))
      (cases_Bool (is_marked changed' v)))
      (cases_Bool (is Sorts.Scalar (variable_at ds v)))

  pub away-levels : is_in (written es n false body ++ kept_in (reduced es n false body)) v ≡ true → Away ds es v c n marks (level_reads_of es n body) →
      Away ds es v c n marks (sights_of es n false (by_levels (fresh_from k) marks body)).properties
  away-levels has r = (levels-settled ds es v c n marks changed' body (no_marks k) uses form r (settled has)).1

  pub away-flat : (e : Expr) → is_flat (n ∷ []) false e ≡ true → Away ds es v c n marks (reads_in e)
  away-flat e h = flat-away ds es v c n marks false e h
