-- What the parts of a search read as loops over levels: what they read before, or copies and levels, which they do not change.
use Rattle.std.proofs.Common.{◌≡◌, ◌<◌, ◌+◌, ℕ, Bool, true, false, cond, List, [], ◌∷◌, ◌++◌, map, length, refl, ap, ◌∙◌, arith, Option, Some, None}
use Rattle.std.specs.Prelude.{◌&&◌, ◌||◌, nat_eq, option_map}
use Rattle.std.specs.List.{list_all}
use Rattle.std.proofs.lemmas.Bool.{eqb-true, ltb-true, or_from, false_from_ne_true}
use Rattle.gm_ast.specs.declared.tree.Declaration.{Declaration}
use Rattle.gm_ast.specs.declared.tree.Domain.{Domain}
use Rattle.gm_ast.specs.declared.tree.Domain.TheVariants.{Nodes, OutNbrs, InNbrs, UpNbrs, DownNbrs}
use Rattle.gm_ast.specs.declared.tree.Head.{Head}
use Rattle.gm_ast.specs.Ways.{is_in}
use Rattle.gm_ast.specs.Program.{Expr, Const, Var, Property, EdgeProperty, Degree, NodeCount, EdgeCount, Live, Unary, Binary, Both, Either, Choose, Folded, Stmt, Then, Declare, Assign, Combine, Foreach, If}
use Rattle.gm_semantics.specs.Statements.{variable_at}
use Rattle.gm_semantics.proofs.TargetLaws.{never}
use Rattle.gm_forms.specs.Sharing.{Sights, with_reads, reads_in, told_in, sights_in, sights_in_option, sights_in_all, sights_of_target, sights_of_targets, sights_of, read_at, written, deferred, Reduced, reduced, kept_in, disjoint, all_last_one_way, targets_alike, inner_shares, inners_share}
use Rattle.gm_forms.specs.Uses.{Iterates, Use, use_as, suits, owner_role, uses_of_head, uses_in, uses_of}
use Rattle.gm_forms.proofs.Named.{both-true, all-append}
use Rattle.gm_forms.proofs.Weaker.{and-true}
use Rattle.gm_bfs.specs.declared.fresh.Fresh.{Fresh}
use Rattle.gm_bfs.specs.Variables.{fresh_from, copy_of}
use Rattle.gm_bfs.specs.Copies.{is_marked, reading, seen_as, inner_reading}
use Rattle.gm_bfs.specs.Searches.{is_always, conjunction, is_on, ranged, inner_loop, by_levels}
use Rattle.gm_bfs.proofs.Members.{Off, off-both, off-parts, each-in, disjoint-off, off-disjoint, Unread, unread-both, unread-parts, owner-is, at-unread, unread-at}
use Rattle.gm_bfs.proofs.Parts.{iterates}
use Rattle.gm_bfs.proofs.LongerShares.{inner-sharing}
use Rattle.gm_bfs.proofs.Changed.{Changes, kept-changes, use-of}

-- reading copies changes nothing else
module _ (f : Fresh) (marks : List Bool) (w : ℕ) where
  told-reading : (e : Expr) → told_in (reading f marks w e) ≡ told_in e
  told-reading (Const v) = refl
  told-reading (Var x at) = refl
  told-reading (Property x p at) = refl
  told-reading (EdgeProperty x p at) = refl
  told-reading (Degree d x at) = refl
  told-reading NodeCount = refl
  told-reading EdgeCount = refl
  told-reading (Live x at) = refl
  told-reading (Unary op at e) = told-reading e
  told-reading (Binary op at a b) = λ i. told-reading a i ++ told-reading b i
  told-reading (Both a b) = λ i. told-reading a i ++ told-reading b i
  told-reading (Either a b) = λ i. told-reading a i ++ told-reading b i
  told-reading (Choose c a b) = λ i. told-reading c i ++ (told-reading a i ++ told-reading b i)
  told-reading (Folded g h test e) = λ i. h.owner ∷ (told-reading test i ++ told-reading e i)

  inner-alike : (s : Stmt) → targets_alike (inner_reading f marks w s) ≡ targets_alike s
  inner-alike (Then a b) = λ i. inner-alike a i && inner-alike b i
  inner-alike (If k c a b) = λ i. inner-alike a i && inner-alike b i
  inner-alike s = refl

  module _ (es : List Declaration) (n : ℕ) (inner : Bool) where
    inner-written : (s : Stmt) → written es n inner (inner_reading f marks w s) ≡ written es n inner s
    inner-written (Then a b) = λ i. inner-written a i ++ inner-written b i
    inner-written (If k c a b) = λ i. inner-written a i ++ inner-written b i
    inner-written s = refl

    pub inner-reduced : (s : Stmt) → reduced es n inner (inner_reading f marks w s) ≡ reduced es n inner s
    inner-reduced (Then a b) = λ i. inner-reduced a i ++ inner-reduced b i
    inner-reduced (If k c a b) = λ i. inner-reduced a i ++ inner-reduced b i
    inner-reduced s = refl

module _ (f : Fresh) (marks : List Bool) where
  pub level-deferred : (s : Stmt) → deferred (by_levels f marks s) ≡ deferred s
  level-deferred (Then a b) = λ i. level-deferred a i ++ level-deferred b i
  level-deferred (If k c a b) = λ i. level-deferred a i ++ level-deferred b i
  level-deferred (Foreach k at h test body) = by h.domain
    where
      by : (d : Domain) → deferred (inner_loop f marks k at h test body d) ≡ []
      by Nodes = refl
      by OutNbrs = refl
      by InNbrs = refl
      by UpNbrs = refl
      by DownNbrs = refl
  level-deferred s = refl

  pub level-alike : (s : Stmt) → targets_alike (by_levels f marks s) ≡ targets_alike s
  level-alike (Then a b) = λ i. level-alike a i && level-alike b i
  level-alike (If k c a b) = λ i. level-alike a i && level-alike b i
  level-alike (Foreach k at h test body) = by h.domain
    where
      by : (d : Domain) → targets_alike (inner_loop f marks k at h test body d) ≡ targets_alike body
      by Nodes = refl
      by OutNbrs = refl
      by InNbrs = refl
      by UpNbrs = inner-alike f marks h.iterator body
      by DownNbrs = inner-alike f marks h.iterator body
  level-alike s = refl

  module _ (es : List Declaration) (n : ℕ) where
    pub level-written : (s : Stmt) → written es n false (by_levels f marks s) ≡ written es n false s
    level-written (Then a b) = λ i. level-written a i ++ level-written b i
    level-written (If k c a b) = λ i. level-written a i ++ level-written b i
    level-written (Foreach k at h test body) = by h.domain
      where
        by : (d : Domain) → written es n false (inner_loop f marks k at h test body d) ≡ written es n true body
        by Nodes = refl
        by OutNbrs = refl
        by InNbrs = refl
        by UpNbrs = inner-written f marks h.iterator es n true body
        by DownNbrs = inner-written f marks h.iterator es n true body
    level-written s = refl

    pub level-reduced : (s : Stmt) → reduced es n false (by_levels f marks s) ≡ reduced es n false s
    level-reduced (Then a b) = λ i. level-reduced a i ++ level-reduced b i
    level-reduced (If k c a b) = λ i. level-reduced a i ++ level-reduced b i
    level-reduced (Foreach k at h test body) = by h.domain
      where
        by : (d : Domain) → reduced es n false (inner_loop f marks k at h test body d) ≡ reduced es n true body
        by Nodes = refl
        by OutNbrs = refl
        by InNbrs = refl
        by UpNbrs = inner-reduced f marks h.iterator es n true body
        by DownNbrs = inner-reduced f marks h.iterator es n true body
    level-reduced s = refl

-- v: a variable that a part changes
module _ (ds es : List Declaration) (marks : List Bool) (v : ℕ) (c : Changes ds v) where
  abbrev f : Fresh
  f = fresh_from (length ds)

  abbrev Suit : List Use → Type 0
  Suit us = list_all (suits ds) us ≡ true

  -- it is none of those that the pass adds
  pub added-apart : (i : ℕ) → nat_eq v (length ds + i) ≡ false
  added-apart i = false_from_ne_true (nat_eq v (length ds + i)) (λ e.
      let is : v ≡ length ds + i = eqb-true v (length ds + i) e in
      let less : v < length ds = ltb-true v (length ds) c.within in
      omega arith)

  pub copy-apart : (p : ℕ) → nat_eq v (copy_of f p) ≡ false
  copy-apart p = false_from_ne_true (nat_eq v (copy_of f p)) (λ e.
      let is : v ≡ length ds + 10 + p = eqb-true v (copy_of f p) e in
      let less : v < length ds = ltb-true v (length ds) c.within in
      omega arith)

  -- nor is it an iterator
  pub iterator-apart : (x : ℕ) → Suit (use_as Iterates x) → nat_eq v x ≡ false
  iterator-apart x h = false_from_ne_true (nat_eq v x) (λ e.
      let u = use-of ds Iterates x h in
      never (ap (λ z. iterates (variable_at ds z)) (eqb-true v x e) ∙ u.1) c.apart)

  pub seen-apart : (w x p : ℕ) → nat_eq v p ≡ false → nat_eq v (seen_as f marks w x p) ≡ false
  seen-apart w x p h = by (nat_eq x w && is_marked marks p)
    where
      by : (b : Bool) → nat_eq v (cond b (copy_of f p) p) ≡ false
      by true = copy-apart p
      by false = h

  -- what is not read through some variables is not, in copies
  module _ (test : ℕ → Bool) where
    -- a part that does not see the variable
    pub record Unseen (s : Sights) : Type 0 where
      pub properties : Unread v test s.properties
      pub scalars : Off s.scalars v

    pub unseen-both : (s t : Sights) → Unseen s → Unseen t → Unseen (with_reads s t)
    unseen-both s t p q = record { properties = unread-both v test s.properties t.properties p.properties q.properties; scalars = off-both s.scalars t.scalars v p.scalars q.scalars }

    pub unseen-parts : (s t : Sights) → Unseen (with_reads s t) → Unseen s × Unseen t
    unseen-parts s t h =
        let p = unread-parts v test s.properties t.properties h.properties in
        let q = off-parts s.scalars t.scalars v h.scalars in
        (record { properties = p.0; scalars = q.0 }, record { properties = p.1; scalars = q.1 })

    module _ (w : ℕ) where
      unread-reading : (e : Expr) → Unread v test (reads_in e) → Unread v test (reads_in (reading f marks w e))
      unread-reading (Const k) h = tt
      unread-reading (Var x at) h = tt
      unread-reading (Property x p at) h = (λ t. seen-apart w x p (h.0 t), tt)
      unread-reading (EdgeProperty x p at) h = tt
      unread-reading (Degree d x at) h = tt
      unread-reading NodeCount h = tt
      unread-reading EdgeCount h = tt
      unread-reading (Live x at) h = tt
      unread-reading (Unary op at e) h = unread-reading e h
      unread-reading (Binary op at a b) h = let q = unread-parts v test (reads_in a) (reads_in b) h in unread-both v test (reads_in (reading f marks w a)) (reads_in (reading f marks w b)) (unread-reading a q.0) (unread-reading b q.1)
      unread-reading (Both a b) h = let q = unread-parts v test (reads_in a) (reads_in b) h in unread-both v test (reads_in (reading f marks w a)) (reads_in (reading f marks w b)) (unread-reading a q.0) (unread-reading b q.1)
      unread-reading (Either a b) h = let q = unread-parts v test (reads_in a) (reads_in b) h in unread-both v test (reads_in (reading f marks w a)) (reads_in (reading f marks w b)) (unread-reading a q.0) (unread-reading b q.1)
      unread-reading (Choose c a b) h =
          let q = unread-parts v test (reads_in c) (reads_in a ++ reads_in b) h in
          let r = unread-parts v test (reads_in a) (reads_in b) q.1 in
          unread-both v test (reads_in (reading f marks w c)) (reads_in (reading f marks w a) ++ reads_in (reading f marks w b)) (unread-reading c q.0)
          (unread-both v test (reads_in (reading f marks w a)) (reads_in (reading f marks w b)) (unread-reading a r.0) (unread-reading b r.1))
      unread-reading (Folded g h0 t e) h = let q = unread-parts v test (reads_in t) (reads_in e) h in unread-both v test (reads_in (reading f marks w t)) (reads_in (reading f marks w e)) (unread-reading t q.0) (unread-reading e q.1)

      unseen-reading : (e : Expr) → Unseen (sights_in e) → Unseen (sights_in (reading f marks w e))
      unseen-reading e h = record { properties = unread-reading e h.properties; scalars = ap (λ l. is_in l v) (told-reading f marks w e) ∙ h.scalars }

      unseen-option : (e : Option Expr) → Unseen (sights_in_option e) → Unseen (sights_in_option (option_map (reading f marks w) e))
      unseen-option None h = h
      unseen-option (Some e) h = unseen-reading e h

      unseen-all : (vs : List Expr) → Unseen (sights_in_all vs) → Unseen (sights_in_all (map (reading f marks w) vs))
      unseen-all [] h = h
      unseen-all (e ∷ vs) h =
          let q = unseen-parts (sights_in e) (sights_in_all vs) h in
          unseen-both (sights_in (reading f marks w e)) (sights_in_all (map (reading f marks w) vs)) (unseen-reading e q.0) (unseen-all vs q.1)

      unseen-inner : (n : ℕ) (inner : Bool) (s : Stmt) → Unseen (sights_of es n inner s) → Unseen (sights_of es n inner (inner_reading f marks w s))
      unseen-inner n inner (Then a b) h =
          let q = unseen-parts (sights_of es n inner a) (sights_of es n inner b) h in
          unseen-both (sights_of es n inner (inner_reading f marks w a)) (sights_of es n inner (inner_reading f marks w b)) (unseen-inner n inner a q.0) (unseen-inner n inner b q.1)
      unseen-inner n inner (Declare k x e) h = unseen-option e h
      unseen-inner n inner (Assign k t e) h = let q = unseen-parts (sights_of_target t) (sights_in e) h in unseen-both (sights_of_target t) (sights_in (reading f marks w e)) q.0 (unseen-reading e q.1)
      unseen-inner n inner (Combine k total r ts vs) h =
          let q = unseen-parts (sights_of_targets es n inner ts) (sights_in_all vs) h in
          unseen-both (sights_of_targets es n inner ts) (sights_in_all (map (reading f marks w) vs)) q.0 (unseen-all vs q.1)
      unseen-inner n inner (If k c a b) h =
          let q = unseen-parts (sights_in c) (with_reads (sights_of es n inner a) (sights_of es n inner b)) h in
          let r = unseen-parts (sights_of es n inner a) (sights_of es n inner b) q.1 in
          unseen-both (sights_in (reading f marks w c)) (with_reads (sights_of es n inner (inner_reading f marks w a)) (sights_of es n inner (inner_reading f marks w b))) (unseen-reading c q.0)
          (unseen-both (sights_of es n inner (inner_reading f marks w a)) (sights_of es n inner (inner_reading f marks w b)) (unseen-inner n inner a r.0) (unseen-inner n inner b r.1))
      unseen-inner n inner s h = h

    pub unseen-conjunction : (a b : Expr) → Unseen (sights_in a) → Unseen (sights_in b) → Unseen (sights_in (conjunction a b))
    unseen-conjunction a b p q = by (is_always b)
      where
        by : (k : Bool) → Unseen (sights_in (cond k a (Both a b)))
        by true = p
        by false = unseen-both (sights_in a) (sights_in b) p q

    unseen-on : (h : Head) (i : ℕ) → Suit (use_as Iterates h.iterator) → Unseen (sights_in (is_on f h (length ds + i)))
    unseen-on h i it = record {
      properties = (λ t. added-apart 6, tt);
      scalars = or_from (nat_eq v h.iterator) (nat_eq v (length ds + i) || false) (iterator-apart h.iterator it) (or_from (nat_eq v (length ds + i)) false (added-apart i) refl);
    }

    -- an inner loop by levels
    pub unseen-ranged : (n : ℕ) (h : Head) (t : Expr) (body : Stmt) (i : ℕ) → Suit (use_as Iterates h.iterator) → Unseen (with_reads (sights_in t) (sights_of es n true body)) →
        Unseen (with_reads (sights_in (conjunction (is_on f h (length ds + i)) (reading f marks h.iterator t))) (sights_of es n true (inner_reading f marks h.iterator body)))
    unseen-ranged n h t body i it s =
        let q = unseen-parts (sights_in t) (sights_of es n true body) s in
        unseen-both (sights_in (conjunction (is_on f h (length ds + i)) (reading f marks h.iterator t))) (sights_of es n true (inner_reading f marks h.iterator body))
        (unseen-conjunction (is_on f h (length ds + i)) (reading f marks h.iterator t) (unseen-on h i it) (unseen-reading h.iterator t q.0))
        (unseen-inner h.iterator n true body q.1)

    pub unseen-levels : (n : ℕ) (s : Stmt) → Suit (uses_of s) → Unseen (sights_of es n false s) → Unseen (sights_of es n false (by_levels f marks s))
    unseen-levels n (Then a b) u h =
        let r = all-append (suits ds) (uses_of a) (uses_of b) u in
        let q = unseen-parts (sights_of es n false a) (sights_of es n false b) h in
        unseen-both (sights_of es n false (by_levels f marks a)) (sights_of es n false (by_levels f marks b)) (unseen-levels n a r.0 q.0) (unseen-levels n b r.1 q.1)
    unseen-levels n (If k c a b) u h =
        let r = all-append (suits ds) (uses_in c) (uses_of a ++ uses_of b) u in
        let s = all-append (suits ds) (uses_of a) (uses_of b) r.1 in
        let p = unseen-parts (sights_in c) (with_reads (sights_of es n false a) (sights_of es n false b)) h in
        let q = unseen-parts (sights_of es n false a) (sights_of es n false b) p.1 in
        unseen-both (sights_in c) (with_reads (sights_of es n false (by_levels f marks a)) (sights_of es n false (by_levels f marks b))) p.0
        (unseen-both (sights_of es n false (by_levels f marks a)) (sights_of es n false (by_levels f marks b)) (unseen-levels n a s.0 q.0) (unseen-levels n b s.1 q.1))
    unseen-levels n (Foreach k at hd t body) u h = by hd.domain
      where
        range : (i : ℕ) (d : Domain) → Unseen (sights_of es n false (ranged f marks k at hd t body d (length ds + i)))
        range i d =
            let first : Sights = record { properties = []; scalars = hd.owner ∷ [] } in
            let r = all-append (suits ds) (uses_of_head hd) (uses_in t ++ uses_of body) u in
            let it = (all-append (suits ds) (use_as Iterates hd.iterator) (use_as (owner_role hd.domain) hd.owner) r.0).0 in
            let q = unseen-parts first (with_reads (sights_in t) (sights_of es n true body)) h in
            unseen-both first (with_reads (sights_in (conjunction (is_on f hd (length ds + i)) (reading f marks hd.iterator t))) (sights_of es n true (inner_reading f marks hd.iterator body))) q.0
            (unseen-ranged n hd t body i it q.1)

        by : (d : Domain) → Unseen (sights_of es n false (inner_loop f marks k at hd t body d))
        by Nodes = h
        by OutNbrs = h
        by InNbrs = h
        by UpNbrs = range 2 InNbrs
        by DownNbrs = range 3 OutNbrs
    unseen-levels n s u h = h

-- inner loops share what they did
module _ (ds es : List Declaration) (marks : List Bool) (n : ℕ) where
  abbrev g : Fresh
  g = fresh_from (length ds)

  ranged-shares : (h : Head) (t : Expr) (body : Stmt) (i : ℕ) → list_all (suits ds) (use_as Iterates h.iterator) ≡ true → list_all (suits ds) (uses_of body) ≡ true → inner_shares es n t body ≡ true →
      inner_shares es n (conjunction (is_on g h (length ds + i)) (reading g marks h.iterator t)) (inner_reading g marks h.iterator body) ≡ true
  ranged-shares h t body i it uses s =
      let old : Sights = with_reads (sights_in t) (sights_of es n true body) in
      let new : Sights = with_reads (sights_in (conjunction (is_on g h (length ds + i)) (reading g marks h.iterator t))) (sights_of es n true (inner_reading g marks h.iterator body)) in
      let all : List Reduced = reduced es n true body in
      let q = both-true (disjoint (kept_in all) (read_at n old.properties ++ old.scalars)) (all_last_one_way all) s in
      ap (inner-sharing n new) (inner-reduced g marks h.iterator es n true body)
      ∙ and-true (disjoint (kept_in all) (read_at n new.properties ++ new.scalars)) (all_last_one_way all)
      (off-disjoint (kept_in all) (read_at n new.properties ++ new.scalars) (λ v m.
      let c : Changes ds v = each-in (Changes ds) (kept_in all) (kept-changes ds es n true body uses) v m in
      let o = off-parts (read_at n old.properties) old.scalars v (disjoint-off (kept_in all) (read_at n old.properties ++ old.scalars) q.0 v m) in
      let u = unseen-ranged ds es marks v c (owner-is v n) n h t body i it (record { properties = at-unread v n old.properties o.0; scalars = o.1 }) in
      off-both (read_at n new.properties) new.scalars v (unread-at v n new.properties u.properties) u.scalars))
      q.1

  pub inners-share : (s : Stmt) → list_all (suits ds) (uses_of s) ≡ true → inners_share es n s ≡ true → inners_share es n (by_levels g marks s) ≡ true
  inners-share (Then a b) u h =
      let r = all-append (suits ds) (uses_of a) (uses_of b) u in
      let q = both-true (inners_share es n a) (inners_share es n b) h in
      and-true (inners_share es n (by_levels g marks a)) (inners_share es n (by_levels g marks b)) (inners-share a r.0 q.0) (inners-share b r.1 q.1)
  inners-share (If k c a b) u h =
      let r = all-append (suits ds) (uses_in c) (uses_of a ++ uses_of b) u in
      let s = all-append (suits ds) (uses_of a) (uses_of b) r.1 in
      let q = both-true (inners_share es n a) (inners_share es n b) h in
      and-true (inners_share es n (by_levels g marks a)) (inners_share es n (by_levels g marks b)) (inners-share a s.0 q.0) (inners-share b s.1 q.1)
  inners-share (Foreach k at hd t body) u h = by hd.domain
    where
      range : (i : ℕ) (d : Domain) → inners_share es n (ranged g marks k at hd t body d (length ds + i)) ≡ true
      range i d =
          let r = all-append (suits ds) (uses_of_head hd) (uses_in t ++ uses_of body) u in
          let it = (all-append (suits ds) (use_as Iterates hd.iterator) (use_as (owner_role hd.domain) hd.owner) r.0).0 in
          ranged-shares hd t body i it (all-append (suits ds) (uses_in t) (uses_of body) r.1).1 h

      by : (d : Domain) → inners_share es n (inner_loop g marks k at hd t body d) ≡ true
      by Nodes = h
      by OutNbrs = h
      by InNbrs = h
      by UpNbrs = range 2 InNbrs
      by DownNbrs = range 3 OutNbrs
  inners-share s u h = h
