-- Variables stand in the longer table as the loops of a search use them.
use Rattle.std.proofs.Common.{◌≡◌, ◌<◌, ◌+◌, ℕ, suc, Bool, true, false, cond, List, [], ◌∷◌, ◌++◌, map, length, refl, sym, ap, subst, ◌∙◌, arith, Option, Some, None}
use Rattle.std.specs.Prelude.{◌&&◌, ◌||◌, nat_eq, nat_lt, nat_le, option_map}
use Rattle.std.specs.List.{list_all}
use Rattle.std.proofs.lemmas.Bool.{leb-true, le-leb}
use Rattle.gm_base.specs.declared.places.Place.{Place}
use Rattle.gm_ast.specs.declared.tree.Declaration.{Declaration}
use Rattle.gm_ast.specs.declared.tree.Domain.{Domain}
use Rattle.gm_ast.specs.declared.tree.Domain.TheVariants as D
use Rattle.gm_ast.specs.declared.tree.Head.{Head}
use Rattle.gm_ast.specs.declared.tree.Key.{Key}
use Rattle.gm_ast.specs.declared.tree.Sort.TheVariants as Sorts
use Rattle.gm_ast.specs.Names.{is, is_node_type}
use Rattle.gm_ast.specs.Program.{Expr, always, Const, Var, Property, EdgeProperty, Degree, NodeCount, EdgeCount, Live, Unary, Binary, Both, Either, Choose, Folded, Stmt, Skip, Then, Declare, DeclareEdge, Assign, Defer, Combine, Group, Foreach, For, If, While, Do, InBfs, InBfsBoth, Return, Program, sequence}
use Rattle.gm_semantics.specs.Statements.{variable_at}
use Rattle.gm_semantics.proofs.TargetLaws.{never}
use Rattle.gm_forms.specs.Uses.{Role, Iterates, Written, Declared, Told, Owner, NodeValue, Anything, Use, use_as, has_role, suits, owner_role, uses_of_head, uses_in, uses_in_all, uses_of_target, uses_of_targets, uses_of_declared, uses_of_search, uses_of, is_named}
use Rattle.gm_forms.proofs.Named.{both-true, all-append}
use Rattle.gm_forms.proofs.Weaker.{and-true}
use Rattle.gm_bfs.specs.declared.fresh.Fresh.{Fresh}
use Rattle.gm_bfs.specs.declared.fresh.Site.{Site}
use Rattle.gm_bfs.specs.Variables.{fresh_from, fresh_declarations, copy_declaration, copy_of}
use Rattle.gm_bfs.specs.Copies.{is_marked, seen_as, reading, inner_reading, copied, asks_up, asks_down}
use Rattle.gm_bfs.specs.Searches.{is_always, conjunction, is_on, ranged, inner_loop, by_levels, is_idle, is_safe, over_nodes, each_node, first_levels, begin, next_level, level_before, activate, reach, look, copies_from, unless_empty, copy, visit, where_asked, first_where, forward, back_turn, backward, site_of}
use Rattle.gm_bfs.specs.Levelled.{searches_out, has_search, levelled}
use Rattle.gm_bfs.proofs.Longer.{all-both, es, long, suit-fresh, suit-root, all-longer, suit-copy, suit-longer, Marked, copied-marked}

module _ (ds : List Declaration) where
  abbrev f : Fresh
  f = fresh_from (length ds)

  -- the longer table suits some uses
  record Suits (us : List Use) : Type 0 where
    all : list_all (suits (es ds)) us ≡ true

  abbrev Suited : List Use → Type 0
  Suited us = list_all (suits ds) us ≡ true

  none : Suits []
  none = record { all = refl }

  longer : (us : List Use) → Suited us → Suits us
  longer us h = record { all = all-longer ds us h }

  join : (us vs : List Use) → Suits us → Suits vs → Suits (us ++ vs)
  join us vs p q = record { all = all-both (suits (es ds)) us vs p.all q.all }

  more : (u : Use) (us : List Use) → suits (es ds) u ≡ true → Suits us → Suits (u ∷ us)
  more u us p q = record { all = and-true (suits (es ds) u) (list_all (suits (es ds)) us) p q.all }

  first-of : (role : Role) (x : ℕ) (test : List Declaration) → list_all (suits test) (use_as role x) ≡ true → suits test (record { variable = x; role = role }) ≡ true
  first-of role x test h = (both-true (suits test (record { variable = x; role = role })) true h).0

  -- the fresh ones
  root-written : suits (es ds) (record { variable = f.root; role = Written }) ≡ true
  root-written = suit-root ds Written refl

  root-told : suits (es ds) (record { variable = f.root; role = Told }) ≡ true
  root-told = suit-root ds Told refl

  scalar-written : (i : ℕ) → i < 10 → has_role (variable_at (fresh_declarations ++ map copy_declaration ds) i) Written ≡ true → suits (es ds) (record { variable = length ds + i; role = Written }) ≡ true
  scalar-written i b h = suit-fresh ds i Written b h

  scalar-told : (i : ℕ) → i < 10 → has_role (variable_at (fresh_declarations ++ map copy_declaration ds) i) Told ≡ true → suits (es ds) (record { variable = length ds + i; role = Told }) ≡ true
  scalar-told i b h = suit-fresh ds i Told b h

  value : (i : ℕ) → i < 10 → has_role (variable_at (fresh_declarations ++ map copy_declaration ds) i) NodeValue ≡ true → suits (es ds) (record { variable = length ds + i; role = NodeValue }) ≡ true
  value i b h = suit-fresh ds i NodeValue b h

  level-value : suits (es ds) (record { variable = f.level; role = NodeValue }) ≡ true
  level-value = value 6 (omega arith) refl

  active-value : suits (es ds) (record { variable = f.active; role = NodeValue }) ≡ true
  active-value = value 7 (omega arith) refl

  node-iterates : suits (es ds) (record { variable = f.node; role = Iterates }) ≡ true
  node-iterates = suit-fresh ds 8 Iterates (omega arith) refl

  node-owner : suits (es ds) (record { variable = f.node; role = Owner }) ≡ true
  node-owner = suit-fresh ds 8 Owner (omega arith) refl

  node-told : suits (es ds) (record { variable = f.node; role = Told }) ≡ true
  node-told = suit-fresh ds 8 Told (omega arith) refl

  neighbour-iterates : suits (es ds) (record { variable = f.neighbour; role = Iterates }) ≡ true
  neighbour-iterates = suit-fresh ds 9 Iterates (omega arith) refl

  neighbour-owner : suits (es ds) (record { variable = f.neighbour; role = Owner }) ≡ true
  neighbour-owner = suit-fresh ds 9 Owner (omega arith) refl

  -- an iterator is a node
  iterates-owner : (x : ℕ) → suits ds (record { variable = x; role = Iterates }) ≡ true → suits ds (record { variable = x; role = Owner }) ≡ true
  iterates-owner x h =
      let b = both-true (nat_lt x (length ds)) (has_role (variable_at ds x) Iterates) h in
      and-true (nat_lt x (length ds)) (has_role (variable_at ds x) Owner) b.0 (by (is Sorts.Iterator (variable_at ds x)) (is Sorts.Graph (variable_at ds x)) (is Sorts.Scalar (variable_at ds x) && is_node_type (variable_at ds x).vtype) b.1)
    where
      by : (i g n : Bool) → i || g ≡ true → (i || n) || g ≡ true
      by true g n h = refl
      by false true true h = refl
      by false true false h = refl
      by false false n h = never h refl

  -- expressions that read copies
  module _ (marks : List Bool) (marked : Marked ds marks) (w : ℕ) where
    seen-suits : (x p : ℕ) → suits ds (record { variable = p; role = NodeValue }) ≡ true → suits (es ds) (record { variable = seen_as f marks w x p; role = NodeValue }) ≡ true
    seen-suits x p h = by (nat_eq x w && is_marked marks p)
      where
        by : (b : Bool) → suits (es ds) (record { variable = cond b (copy_of f p) p; role = NodeValue }) ≡ true
        by true = suit-copy ds p h
        by false = suit-longer ds (record { variable = p; role = NodeValue }) h

    reading-suits : (e : Expr) → Suited (uses_in e) → Suits (uses_in (reading f marks w e))
    reading-suits (Const v) h = none
    reading-suits (Var x at) h = longer (use_as Told x) h
    reading-suits (Property x p at) h =
        let r = all-append (suits ds) (use_as Owner x) (use_as NodeValue p) h in
        more _ _ (suit-longer ds (record { variable = x; role = Owner }) (first-of Owner x ds r.0)) (more _ _ (seen-suits x p (first-of NodeValue p ds r.1)) none)
    reading-suits (EdgeProperty x p at) h = longer (uses_in (EdgeProperty x p at)) h
    reading-suits (Degree d x at) h = longer (uses_in (Degree d x at)) h
    reading-suits NodeCount h = none
    reading-suits EdgeCount h = none
    reading-suits (Live x at) h = longer (uses_in (Live x at)) h
    reading-suits (Unary op at e) h = reading-suits e h
    reading-suits (Binary op at a b) h = let r = all-append (suits ds) (uses_in a) (uses_in b) h in join (uses_in (reading f marks w a)) (uses_in (reading f marks w b)) (reading-suits a r.0) (reading-suits b r.1)
    reading-suits (Both a b) h = let r = all-append (suits ds) (uses_in a) (uses_in b) h in join (uses_in (reading f marks w a)) (uses_in (reading f marks w b)) (reading-suits a r.0) (reading-suits b r.1)
    reading-suits (Either a b) h = let r = all-append (suits ds) (uses_in a) (uses_in b) h in join (uses_in (reading f marks w a)) (uses_in (reading f marks w b)) (reading-suits a r.0) (reading-suits b r.1)
    reading-suits (Choose c a b) h =
        let r = all-append (suits ds) (uses_in c) (uses_in a ++ uses_in b) h in
        let s = all-append (suits ds) (uses_in a) (uses_in b) r.1 in
        join (uses_in (reading f marks w c)) (uses_in (reading f marks w a) ++ uses_in (reading f marks w b)) (reading-suits c r.0) (join (uses_in (reading f marks w a)) (uses_in (reading f marks w b)) (reading-suits a s.0) (reading-suits b s.1))
    reading-suits (Folded g head test e) h =
        let r = all-append (suits ds) (uses_of_head head) (uses_in test ++ uses_in e) h in
        let s = all-append (suits ds) (uses_in test) (uses_in e) r.1 in
        join (uses_of_head head) (uses_in (reading f marks w test) ++ uses_in (reading f marks w e)) (longer (uses_of_head head) r.0) (join (uses_in (reading f marks w test)) (uses_in (reading f marks w e)) (reading-suits test s.0) (reading-suits e s.1))

    all-reading-suits : (vs : List Expr) → Suited (uses_in_all vs) → Suits (uses_in_all (map (reading f marks w) vs))
    all-reading-suits [] h = none
    all-reading-suits (e ∷ vs) h = let r = all-append (suits ds) (uses_in e) (uses_in_all vs) h in join (uses_in (reading f marks w e)) (uses_in_all (map (reading f marks w) vs)) (reading-suits e r.0) (all-reading-suits vs r.1)

    declared-reading : (y : ℕ) (e : Option Expr) → Suited (uses_of_declared y e) → Suits (uses_of_declared y (option_map (reading f marks w) e))
    declared-reading y None h = longer (use_as Declared y) h
    declared-reading y (Some e) h = let r = all-append (suits ds) (use_as Written y) (uses_in e) h in join (use_as Written y) (uses_in (reading f marks w e)) (longer (use_as Written y) r.0) (reading-suits e r.1)

    inner-suits : (b : Stmt) → Suited (uses_of b) → Suits (uses_of (inner_reading f marks w b))
    inner-suits Skip h = none
    inner-suits (Then a b) h = let r = all-append (suits ds) (uses_of a) (uses_of b) h in join (uses_of (inner_reading f marks w a)) (uses_of (inner_reading f marks w b)) (inner-suits a r.0) (inner-suits b r.1)
    inner-suits (Declare key y e) h = declared-reading y e h
    inner-suits (DeclareEdge y z at) h = longer (uses_of (DeclareEdge y z at)) h
    inner-suits (Assign key t e) h = let r = all-append (suits ds) (uses_of_target t) (uses_in e) h in join (uses_of_target t) (uses_in (reading f marks w e)) (longer (uses_of_target t) r.0) (reading-suits e r.1)
    inner-suits (Defer key t e) h = longer (uses_of (Defer key t e)) h
    inner-suits (Combine key total r ts vs) h =
        let q = all-append (suits ds) (uses_of_targets ts) (uses_in_all vs) h in
        join (uses_of_targets ts) (uses_in_all (map (reading f marks w) vs)) (longer (uses_of_targets ts) q.0) (all-reading-suits vs q.1)
    inner-suits (Group key at y p e) h = longer (uses_of (Group key at y p e)) h
    inner-suits (Foreach key at head test body) h = longer (uses_of (Foreach key at head test body)) h
    inner-suits (For key at head test body) h = longer (uses_of (For key at head test body)) h
    inner-suits (If key c a b) h =
        let r = all-append (suits ds) (uses_in c) (uses_of a ++ uses_of b) h in
        let s = all-append (suits ds) (uses_of a) (uses_of b) r.1 in
        join (uses_in (reading f marks w c)) (uses_of (inner_reading f marks w a) ++ uses_of (inner_reading f marks w b)) (reading-suits c r.0) (join (uses_of (inner_reading f marks w a)) (uses_of (inner_reading f marks w b)) (inner-suits a s.0) (inner-suits b s.1))
    inner-suits (While key at c body) h = longer (uses_of (While key at c body)) h
    inner-suits (Do key at body c) h = longer (uses_of (Do key at body c)) h
    inner-suits (InBfs key at s c body) h = longer (uses_of (InBfs key at s c body)) h
    inner-suits (InBfsBoth key at s c body back_key d back) h = longer (uses_of (InBfsBoth key at s c body back_key d back)) h
    inner-suits (Return key at e) h = longer (uses_of (Return key at e)) h

  conjunction-suits : (a b : Expr) → Suits (uses_in a) → Suits (uses_in b) → Suits (uses_in (conjunction a b))
  conjunction-suits a b p q = by (is_always b)
    where
      by : (c : Bool) → Suits (uses_in (cond c a (Both a b)))
      by true = p
      by false = join (uses_in a) (uses_in b) p q

  module _ (marks : List Bool) (marked : Marked ds marks) where
    ranged-suits : (key : Key) (at : Place) (h : Head) (test : Expr) (body : Stmt) (d : Domain) (x : ℕ) → suits (es ds) (record { variable = x; role = Told }) ≡ true → owner_role d ≡ Owner → owner_role h.domain ≡ Owner →
        Suited (uses_of (Foreach key at h test body)) → Suits (uses_of (ranged f marks key at h test body d x))
    ranged-suits key at h test body d x told here there uses =
        let r = all-append (suits ds) (uses_of_head h) (uses_in test ++ uses_of body) uses in
        let s = all-append (suits ds) (uses_in test) (uses_of body) r.1 in
        let u = all-append (suits ds) (use_as Iterates h.iterator) (use_as (owner_role h.domain) h.owner) r.0 in
        let it = first-of Iterates h.iterator ds u.0 in
        let owner : Suits (use_as (owner_role d) h.owner) = subst (λ role. Suits (use_as role h.owner)) (there ∙ sym here) (longer (use_as (owner_role h.domain) h.owner) u.1) in
        join (use_as Iterates h.iterator ++ use_as (owner_role d) h.owner) (uses_in (conjunction (is_on f h x) (reading f marks h.iterator test)) ++ uses_of (inner_reading f marks h.iterator body))
        (join (use_as Iterates h.iterator) (use_as (owner_role d) h.owner) (longer (use_as Iterates h.iterator) u.0) owner)
        (join (uses_in (conjunction (is_on f h x) (reading f marks h.iterator test))) (uses_of (inner_reading f marks h.iterator body))
        (conjunction-suits (is_on f h x) (reading f marks h.iterator test)
        (more _ _ (suit-longer ds (record { variable = h.iterator; role = Owner }) (iterates-owner h.iterator it)) (more _ _ level-value (more _ _ told none)))
        (reading-suits marks marked h.iterator test s.0))
        (inner-suits marks marked h.iterator body s.1))

    by_levels-suits : (b : Stmt) → Suited (uses_of b) → Suits (uses_of (by_levels f marks b))
    by_levels-suits Skip h = none
    by_levels-suits (Then a b) h = let r = all-append (suits ds) (uses_of a) (uses_of b) h in join (uses_of (by_levels f marks a)) (uses_of (by_levels f marks b)) (by_levels-suits a r.0) (by_levels-suits b r.1)
    by_levels-suits (Declare key y e) h = longer (uses_of (Declare key y e)) h
    by_levels-suits (DeclareEdge y z at) h = longer (uses_of (DeclareEdge y z at)) h
    by_levels-suits (Assign key t e) h = longer (uses_of (Assign key t e)) h
    by_levels-suits (Defer key t e) h = longer (uses_of (Defer key t e)) h
    by_levels-suits (Combine key total r ts vs) h = longer (uses_of (Combine key total r ts vs)) h
    by_levels-suits (Group key at y p e) h = longer (uses_of (Group key at y p e)) h
    by_levels-suits (Foreach key at head test body) h = by head.domain refl
      where
        by : (d : Domain) → head.domain ≡ d → Suits (uses_of (inner_loop f marks key at head test body d))
        by D.Nodes e = longer (uses_of (Foreach key at head test body)) h
        by D.OutNbrs e = longer (uses_of (Foreach key at head test body)) h
        by D.InNbrs e = longer (uses_of (Foreach key at head test body)) h
        by D.UpNbrs e = ranged-suits key at head test body D.InNbrs f.up (scalar-told 2 (omega arith) refl) refl (ap owner_role e) h
        by D.DownNbrs e = ranged-suits key at head test body D.OutNbrs f.down (scalar-told 3 (omega arith) refl) refl (ap owner_role e) h
    by_levels-suits (For key at head test body) h = longer (uses_of (For key at head test body)) h
    by_levels-suits (If key c a b) h =
        let r = all-append (suits ds) (uses_in c) (uses_of a ++ uses_of b) h in
        let s = all-append (suits ds) (uses_of a) (uses_of b) r.1 in
        join (uses_in c) (uses_of (by_levels f marks a) ++ uses_of (by_levels f marks b)) (longer (uses_in c) r.0) (join (uses_of (by_levels f marks a)) (uses_of (by_levels f marks b)) (by_levels-suits a s.0) (by_levels-suits b s.1))
    by_levels-suits (While key at c body) h = longer (uses_of (While key at c body)) h
    by_levels-suits (Do key at body c) h = longer (uses_of (Do key at body c)) h
    by_levels-suits (InBfs key at s c body) h = longer (uses_of (InBfs key at s c body)) h
    by_levels-suits (InBfsBoth key at s c body back_key d back) h = longer (uses_of (InBfsBoth key at s c body back_key d back)) h
    by_levels-suits (Return key at e) h = longer (uses_of (Return key at e)) h

  -- the statements of a site
  module _ (s : Site) (graph : Suited (use_as Anything s.graph)) where
    node-head : (x : ℕ) → suits (es ds) (record { variable = x; role = Iterates }) ≡ true → Suits (uses_of_head (over_nodes s x))
    node-head x h = more _ _ h (longer (use_as Anything s.graph) graph)

    each-suits : (test : Expr) (body : Stmt) → Suits (uses_in test) → Suits (uses_of body) → Suits (uses_of (each_node s f test body))
    each-suits test body p q = join (uses_of_head (over_nodes s f.node)) (uses_in test ++ uses_of body) (node-head f.node node-iterates) (join (uses_in test) (uses_of body) p q)

    each-list : (us : List Use) → Suits us → Suits (uses_of_head (over_nodes s f.node) ++ us)
    each-list us p = join (uses_of_head (over_nodes s f.node)) us (node-head f.node node-iterates) p

    first-suits : Suits (uses_of (first_levels s f))
    first-suits = each-list _ (more _ _ node-owner (more _ _ level-value (more _ _ node-told (more _ _ root-told none))))

    begin-suits : (key : Key) (y : ℕ) → Suited (use_as Owner y) → Suits (uses_of (begin s f key y))
    begin-suits key y h =
        join (use_as Written f.root ++ use_as Owner y) _ (more _ _ root-written (longer (use_as Owner y) h))
        (join (uses_of (first_levels s f)) _ first-suits (more _ _ (scalar-written 1 (omega arith) refl) (more _ _ (scalar-written 4 (omega arith) refl) none)))

    next-suits : Suits (uses_of (next_level s f))
    next-suits = more _ _ (scalar-written 3 (omega arith) refl) (more _ _ (scalar-told 1 (omega arith) refl) none)

    before-suits : (x : ℕ) → suits (es ds) (record { variable = x; role = Written }) ≡ true → Suits (uses_of (level_before s f x))
    before-suits x h = more _ _ h (more _ _ (scalar-told 1 (omega arith) refl) none)

    asked-suits : (asked : Bool) (a : Stmt) → Suits (uses_of a) → Suits (uses_of (where_asked asked a))
    asked-suits true a h = h
    asked-suits false a h = none

    activate-suits : Suits (uses_of (activate s f))
    activate-suits = each-list _ (more _ _ node-owner (more _ _ active-value (more _ _ node-owner (more _ _ level-value (more _ _ (scalar-told 1 (omega arith) refl) none)))))

    reach-suits : Suits (uses_of (reach s f))
    reach-suits =
        each-list _ (more _ _ node-owner (more _ _ active-value
        (more _ _ neighbour-iterates (more _ _ node-owner (more _ _ neighbour-owner (more _ _ level-value (more _ _ (scalar-told 3 (omega arith) refl) none)))))))

    look-suits : Suits (uses_of (look s f))
    look-suits = each-list _ (more _ _ (scalar-written 5 (omega arith) refl) (more _ _ node-owner (more _ _ level-value (more _ _ (scalar-told 3 (omega arith) refl) none))))

    copies-suits : (p : ℕ) (marks : List Bool) → ((i : ℕ) → is_marked marks i ≡ true → suits ds (record { variable = p + i; role = NodeValue }) ≡ true) → Suits (uses_of (sequence (copies_from s f p marks)))
    copies-suits p [] h = none
    copies-suits p (false ∷ marks) h = copies-suits (suc p) marks (λ i e. let is : suc p + i ≡ p + suc i = omega arith in ap (λ x. suits ds (record { variable = x; role = NodeValue })) is ∙ h (suc i) e)
    copies-suits p (true ∷ marks) h =
        let is : p ≡ p + 0 = omega arith in
        let here : suits ds (record { variable = p; role = NodeValue }) ≡ true = ap (λ x. suits ds (record { variable = x; role = NodeValue })) is ∙ h 0 refl in
        more _ _ node-owner (more _ _ (suit-copy ds p here) (more _ _ node-owner (more _ _ (suit-longer ds (record { variable = p; role = NodeValue }) here)
        (copies-suits (suc p) marks (λ i e. let is : suc p + i ≡ p + suc i = omega arith in ap (λ x. suits ds (record { variable = x; role = NodeValue })) is ∙ h (suc i) e)))))

    copy-suits : (marks : List Bool) → Marked ds marks → Suits (uses_of (copy s f marks))
    copy-suits marks m = by (copies_from s f 0 marks) (copies-suits 0 marks (λ i e. let is : 0 + i ≡ i = omega arith in ap (λ x. suits ds (record { variable = x; role = NodeValue })) is ∙ m i e))
      where
        by : (cs : List Stmt) → Suits (uses_of (sequence cs)) → Suits (uses_of (unless_empty s f cs))
        by [] h = none
        by (c ∷ cs) h = each-suits always (sequence (c ∷ cs)) none h

    -- a part
    module _ (key : Key) (x : ℕ) (test : Expr) (body : Stmt) (it : Suited (use_as Iterates x)) (tests : Suited (uses_in test)) (bodies : Suited (uses_of body)) where
      abbrev marks : List Bool
      marks = copied (length ds) body

      marked : Marked ds (copied (length ds) body)
      marked = copied-marked ds (length ds) body bodies

      visit-suits : Suits (uses_of (visit s f (copied (length ds) body) key x test body))
      visit-suits = by (is_idle body && is_safe x test)
        where
          by : (b : Bool) → Suits (uses_of (cond b Skip (Foreach key s.place (over_nodes s x) (conjunction (Property x f.active s.place) test) (by_levels f (copied (length ds) body) body))))
          by true = none
          by false =
              let iterates = first-of Iterates x ds it in
              join (uses_of_head (over_nodes s x)) (uses_in (conjunction (Property x f.active s.place) test) ++ uses_of (by_levels f (copied (length ds) body) body))
              (node-head x (suit-longer ds (record { variable = x; role = Iterates }) iterates))
              (join (uses_in (conjunction (Property x f.active s.place) test)) (uses_of (by_levels f (copied (length ds) body) body))
              (conjunction-suits (Property x f.active s.place) test (more _ _ (suit-longer ds (record { variable = x; role = Owner }) (iterates-owner x iterates)) (more _ _ active-value none)) (longer (uses_in test) tests))
              (by_levels-suits (copied (length ds) body) marked body bodies))

      first-where-suits : (b : Bool) → Suits (uses_of (first_where b (reach s f) (visit s f (copied (length ds) body) key x test body)))
      first-where-suits true = join (uses_of (reach s f)) _ reach-suits (join (uses_of (visit s f (copied (length ds) body) key x test body)) [] visit-suits none)
      first-where-suits false = join (uses_of (visit s f (copied (length ds) body) key x test body)) _ visit-suits (join (uses_of (reach s f)) [] reach-suits none)

      forward-suits : Suits (uses_of (forward s f (length ds) key x test body))
      forward-suits =
          more _ _ (scalar-told 4 (omega arith) refl)
          (join (uses_of (next_level s f)) _ next-suits
          (join (uses_of (where_asked (asks_up body) (level_before s f f.up))) _ (asked-suits (asks_up body) (level_before s f f.up) (before-suits f.up (scalar-written 2 (omega arith) refl)))
          (more _ _ (scalar-written 5 (omega arith) refl)
          (join (uses_of (activate s f)) _ activate-suits
          (join (uses_of (copy s f (copied (length ds) body))) _ (copy-suits (copied (length ds) body) marked)
          (join (uses_of (first_where (asks_down body) (reach s f) (visit s f (copied (length ds) body) key x test body))) _ (first-where-suits (asks_down body))
          (join (uses_of (look s f)) _ look-suits
          (more _ _ (scalar-written 4 (omega arith) refl) (more _ _ (scalar-told 5 (omega arith) refl)
          (more _ _ (scalar-written 1 (omega arith) refl) (more _ _ (scalar-told 3 (omega arith) refl) none)))))))))))

      backward-suits : Suits (uses_of (backward s f (length ds) key x test body))
      backward-suits =
          join (uses_of (level_before s f f.current)) _ (before-suits f.current (scalar-written 1 (omega arith) refl))
          (more _ _ (scalar-told 1 (omega arith) refl)
          (join (uses_of (back_turn s f (length ds) key x test body)) []
          (join (uses_of (where_asked (asks_down body) (next_level s f))) _ (asked-suits (asks_down body) (next_level s f) next-suits)
          (join (uses_of (where_asked (asks_up body) (level_before s f f.up))) _ (asked-suits (asks_up body) (level_before s f f.up) (before-suits f.up (scalar-written 2 (omega arith) refl)))
          (join (uses_of (activate s f)) _ activate-suits
          (join (uses_of (copy s f (copied (length ds) body))) _ (copy-suits (copied (length ds) body) marked)
          (join (uses_of (visit s f (copied (length ds) body) key x test body)) _ visit-suits
          (join (uses_of (level_before s f f.current)) [] (before-suits f.current (scalar-written 1 (omega arith) refl)) none)))))) none))

  -- a whole phase
  phase-suits : (b : Stmt) → Suited (uses_of b) → Suits (uses_of (searches_out f (length ds) b))
  phase-suits Skip h = none
  phase-suits (Then a b) h = let r = all-append (suits ds) (uses_of a) (uses_of b) h in join (uses_of (searches_out f (length ds) a)) (uses_of (searches_out f (length ds) b)) (phase-suits a r.0) (phase-suits b r.1)
  phase-suits (Declare key y e) h = longer (uses_of (Declare key y e)) h
  phase-suits (DeclareEdge y z at) h = longer (uses_of (DeclareEdge y z at)) h
  phase-suits (Assign key t e) h = longer (uses_of (Assign key t e)) h
  phase-suits (Defer key t e) h = longer (uses_of (Defer key t e)) h
  phase-suits (Combine key total r ts vs) h = longer (uses_of (Combine key total r ts vs)) h
  phase-suits (Group key at y p e) h = longer (uses_of (Group key at y p e)) h
  phase-suits (Foreach key at head test body) h = longer (uses_of (Foreach key at head test body)) h
  phase-suits (For key at head test body) h =
      let r = all-append (suits ds) (uses_of_head head) (uses_in test ++ uses_of body) h in
      let s = all-append (suits ds) (uses_in test) (uses_of body) r.1 in
      join (uses_of_head head) (uses_in test ++ uses_of (searches_out f (length ds) body)) (longer (uses_of_head head) r.0) (join (uses_in test) (uses_of (searches_out f (length ds) body)) (longer (uses_in test) s.0) (phase-suits body s.1))
  phase-suits (If key c a b) h =
      let r = all-append (suits ds) (uses_in c) (uses_of a ++ uses_of b) h in
      let s = all-append (suits ds) (uses_of a) (uses_of b) r.1 in
      join (uses_in c) (uses_of (searches_out f (length ds) a) ++ uses_of (searches_out f (length ds) b)) (longer (uses_in c) r.0) (join (uses_of (searches_out f (length ds) a)) (uses_of (searches_out f (length ds) b)) (phase-suits a s.0) (phase-suits b s.1))
  phase-suits (While key at c body) h = let r = all-append (suits ds) (uses_in c) (uses_of body) h in join (uses_in c) (uses_of (searches_out f (length ds) body)) (longer (uses_in c) r.0) (phase-suits body r.1)
  phase-suits (Do key at body c) h = let r = all-append (suits ds) (uses_of body) (uses_in c) h in join (uses_of (searches_out f (length ds) body)) (uses_in c) (phase-suits body r.0) (longer (uses_in c) r.1)
  phase-suits (InBfs key at search test body) h =
      let u = all-append (suits ds) (uses_of_search search) (uses_in test ++ uses_of body) h in
      let v = all-append (suits ds) (uses_in test) (uses_of body) u.1 in
      let it = all-append (suits ds) (use_as Iterates search.iterator) (use_as Anything search.graph ++ use_as Owner search.root) u.0 in
      let gr = all-append (suits ds) (use_as Anything search.graph) (use_as Owner search.root) it.1 in
      let s : Site = site_of key search in
      join (uses_of (begin s f key search.root)) _ (begin-suits s gr.0 key search.root gr.1)
      (join (uses_of (forward s f (length ds) key search.iterator test body)) [] (forward-suits s gr.0 key search.iterator test body it.0 v.0 v.1) none)
  phase-suits (InBfsBoth key at search test body back_key back_test back) h =
      let u = all-append (suits ds) (uses_of_search search) (uses_in test ++ (uses_of body ++ (uses_in back_test ++ uses_of back))) h in
      let v = all-append (suits ds) (uses_in test) (uses_of body ++ (uses_in back_test ++ uses_of back)) u.1 in
      let w = all-append (suits ds) (uses_of body) (uses_in back_test ++ uses_of back) v.1 in
      let z = all-append (suits ds) (uses_in back_test) (uses_of back) w.1 in
      let it = all-append (suits ds) (use_as Iterates search.iterator) (use_as Anything search.graph ++ use_as Owner search.root) u.0 in
      let gr = all-append (suits ds) (use_as Anything search.graph) (use_as Owner search.root) it.1 in
      let s : Site = site_of key search in
      join (uses_of (begin s f key search.root)) _ (begin-suits s gr.0 key search.root gr.1)
      (join (uses_of (forward s f (length ds) key search.iterator test body)) _ (forward-suits s gr.0 key search.iterator test body it.0 v.0 w.0)
      (join (uses_of (backward s f (length ds) back_key search.iterator back_test back)) [] (backward-suits s gr.0 back_key search.iterator back_test back it.0 z.0 z.1) none))
  phase-suits (Return key at e) h = longer (uses_of (Return key at e)) h

pub levelled-named : (p : Program) → is_named p ≡ true → is_named (levelled p) ≡ true
levelled-named p h = by (has_search p.body)
  where
    by : (b : Bool) → is_named (cond b (record p { declarations = es p.declarations; body = searches_out (fresh_from (length p.declarations)) (length p.declarations) p.body }) p) ≡ true
    by false = h
    by true =
        let q = both-true (nat_le (p.inputs + p.outputs) (length p.declarations)) (list_all (suits p.declarations) (uses_of p.body)) h in
        let low = leb-true (p.inputs + p.outputs) (length p.declarations) q.0 in
        let l = long p.declarations in
        and-true (nat_le (p.inputs + p.outputs) (length (es p.declarations))) (list_all (suits (es p.declarations)) (uses_of (searches_out (fresh_from (length p.declarations)) (length p.declarations) p.body)))
        (le-leb (p.inputs + p.outputs) (length (es p.declarations)) (omega arith)) (phase-suits p.declarations p.body q.1).all
