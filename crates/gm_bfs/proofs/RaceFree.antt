-- The loops of a search share between their iterations what ends with them alone, where the search did.
use Rattle.std.proofs.Common.{◌≡◌, ◌+◌, ℕ, suc, Bool, true, false, cond, List, [], ◌∷◌, ◌++◌, length, refl, ap, ◌∙◌, arith}
use Rattle.std.specs.Prelude.{◌&&◌, ◌||◌, not, nat_eq, nat_le}
use Rattle.std.specs.List.{list_all}
use Rattle.gm_value.specs.declared.reductions.Reduce.TheVariants.{Min, Or}
use Rattle.gm_value.specs.declared.values.Value.TheVariants.{Flag}
use Rattle.gm_ast.specs.declared.tree.Declaration.{Declaration}
use Rattle.gm_ast.specs.declared.tree.Key.{Key}
use Rattle.gm_ast.specs.declared.tree.Search.{Search}
use Rattle.gm_ast.specs.declared.tree.Target.{Target}
use Rattle.gm_ast.specs.declared.tree.Target.TheVariants as T
use Rattle.gm_ast.specs.Program.{Expr, always, Const, Choose, Stmt, Skip, Then, Foreach, For, If, While, Do, InBfs, InBfsBoth, Program, sequence}
use Rattle.gm_forms.specs.Forms.{is_flat, is_told, is_outer_body, is_flat_loop, is_phase, is_desugared}
use Rattle.gm_forms.specs.Sharing.{Read, Sights, nothing_read, with_reads, reads_in, sights_in, sights_in_all, sights_of_target, sights_at_target, sights_by, sights_of, read_elsewhere, read_anywhere, written, deferred, Reduced, reduced, shared_in, kept_in, disjoint, all_agree, targets_alike, inners_share, shares, level_reads_of, search_shares, loops_share, is_race_free}
use Rattle.gm_forms.specs.Uses.{Iterates, Anything, Owner, Use, use_as, suits, uses_of_head, uses_in, uses_of_search, uses_of, is_named}
use Rattle.gm_forms.proofs.Named.{both-true, all-append, names-below}
use Rattle.gm_forms.proofs.Weaker.{and-true}
use Rattle.gm_bfs.specs.declared.fresh.Fresh.{Fresh}
use Rattle.gm_bfs.specs.declared.fresh.Site.{Site}
use Rattle.gm_bfs.specs.Variables.{fresh_from, with_fresh}
use Rattle.gm_bfs.specs.Copies.{copied, asks_up, asks_down}
use Rattle.gm_bfs.specs.Searches.{number, scalar, at_node, set, set_at, equal, conjunction, by_levels, is_idle, is_safe, over_nodes, first_levels, begin, next_level, level_before, activate, reach, look, copies_from, unless_empty, copy, visit, where_asked, first_where, forward, back_turn, backward, site_of}
use Rattle.gm_bfs.specs.Levelled.{searches_out, has_search, levelled}
use Rattle.gm_bfs.proofs.Members.{off-both, off-parts, each-both, each-in, disjoint-off, off-disjoint, disjoint-nothing, unread-both, unread-parts, any-owner, owner-other, anywhere-unread, unread-anywhere, elsewhere-unread, unread-elsewhere}
use Rattle.gm_bfs.proofs.Form.{flat-conjunction, depth-fresh, iterators-apart}
use Rattle.gm_bfs.proofs.Longer.{before-same}
use Rattle.gm_bfs.proofs.LongerShares.{sharing, inner-sharing, phase-same}
use Rattle.gm_bfs.proofs.Changed.{Changes, written-changes, shared-changes, kept-changes}
use Rattle.gm_bfs.proofs.Seen.{added-apart, iterator-apart, Unseen, unseen-both, unseen-parts, unseen-conjunction, unseen-levels, level-deferred, level-alike, level-written, level-reduced, inners-share}
use Rattle.gm_bfs.proofs.Settled.{away-levels, away-flat}

self-eq : (n : ℕ) → nat_eq n n ≡ true
self-eq n = grind (arith)

-- a loop that reduces nothing and reads at its own node alone shares nothing
quiet-shares : (es : List Declaration) (n : ℕ) (body : Stmt) → reduced es n false body ≡ [] → deferred body ≡ [] → read_elsewhere n (sights_of es n false body).properties ≡ [] → inners_share es n body ≡ true → targets_alike body ≡ true →
    shares es n always body ≡ true
quiet-shares es n body r d e i a =
    let seen : Sights = with_reads (sights_in always) (sights_of es n false body) in
    let own : List ℕ = written es n false body in
    let parts : shares es n always body ≡ sharing seen [] own [] [] true true = λ j. sharing seen (r j) own (e j) (d j) (i j) (a j) in
    parts ∙ ap (λ z. z && true) (disjoint-nothing (own ++ []))

-- the nodes of a level are visited
module _ (ds es : List Declaration) (x : ℕ) (test : Expr) (body : Stmt) (it : list_all (suits ds) (use_as Iterates x) ≡ true) (uses : list_all (suits ds) (uses_of body) ≡ true) (form : is_flat_loop ds true x test body ≡ true) where
  abbrev k : ℕ
  k = length ds

  abbrev f : Fresh
  f = fresh_from k

  abbrev marks : List Bool
  marks = copied k body

  visit-shares : (s : Site) → search_shares es x test body ≡ true → shares es x (conjunction (at_node s x f.active) test) (by_levels f marks body) ≡ true
  visit-shares s h =
      let filter : Expr = conjunction (at_node s x f.active) test in
      let inside : Stmt = by_levels f marks body in
      let old : Sights = with_reads (sights_in test) (sights_of es x false body) in
      let new : Sights = with_reads (sights_in filter) (sights_of es x false inside) in
      let all : List Reduced = reduced es x false body in
      let own : List ℕ = written es x false body in
      let before : List Read = reads_in test ++ level_reads_of es x body in
      let a1 : Bool = disjoint (shared_in all) (read_anywhere old.properties ++ (old.scalars ++ own)) in
      let a2 : Bool = disjoint (own ++ kept_in all) (read_elsewhere x before) in
      let a3 : Bool = disjoint (deferred body) (own ++ (shared_in all ++ kept_in all)) in
      let a4 : Bool = all_agree all in
      let inners : Bool = inners_share es x body in
      let q = both-true a1 (a2 && (a3 && (a4 && (inners && targets_alike body)))) h in
      let u = both-true a2 (a3 && (a4 && (inners && targets_alike body))) q.1 in
      let v = both-true a3 (a4 && (inners && targets_alike body)) u.1 in
      let w = both-true a4 (inners && targets_alike body) v.1 in
      let z = both-true inners (targets_alike body) w.1 in
      let flat = both-true (is_flat (x ∷ []) false test) (is_outer_body ds true x body) form in
      let b1 : Bool = disjoint (shared_in all) (read_anywhere new.properties ++ (new.scalars ++ own)) in
      let b2 : Bool = disjoint (own ++ kept_in all) (read_elsewhere x new.properties) in
      let inner' : Bool = inners_share es x inside in
      let same-reduced = level-reduced f marks es x body in
      let same-written = level-written f marks es x body in
      let same-deferred = level-deferred f marks body in
      let same-alike = level-alike f marks body in
      let parts : shares es x filter inside ≡ sharing new all own (read_elsewhere x new.properties) (deferred body) inner' (targets_alike body) =
      λ j. sharing new (same-reduced j) (same-written j) (read_elsewhere x new.properties) (same-deferred j) inner' (same-alike j) in
      parts
      ∙ and-true b1 (b2 && (a3 && (a4 && (inner' && targets_alike body))))
      (off-disjoint (shared_in all) (read_anywhere new.properties ++ (new.scalars ++ own)) (λ y m.
      let c : Changes ds y = each-in (Changes ds) (shared_in all) (shared-changes ds es x false body uses) y m in
      let o = disjoint-off (shared_in all) (read_anywhere old.properties ++ (old.scalars ++ own)) q.0 y m in
      let p = off-parts (read_anywhere old.properties) (old.scalars ++ own) y o in
      let r = off-parts old.scalars own y p.1 in
      let seen : Unseen ds es marks y c (any-owner y) old = record { properties = anywhere-unread y old.properties p.0; scalars = r.0 } in
      let sees = unseen-parts ds es marks y c (any-owner y) (sights_in test) (sights_of es x false body) seen in
      let mask : Unseen ds es marks y c (any-owner y) (sights_in (at_node s x f.active)) = record { properties = (λ t. added-apart ds es marks y c 7, tt); scalars = ap (λ b. b || false) (iterator-apart ds es marks y c x it) } in
      let saw = unseen-both ds es marks y c (any-owner y) (sights_in filter) (sights_of es x false inside)
      (unseen-conjunction ds es marks y c (any-owner y) (at_node s x f.active) test mask sees.0) (unseen-levels ds es marks y c (any-owner y) x body uses sees.1) in
      off-both (read_anywhere new.properties) (new.scalars ++ own) y (unread-anywhere y new.properties saw.properties) (off-both new.scalars own y saw.scalars r.1)))
      (and-true b2 (a3 && (a4 && (inner' && targets_alike body)))
      (off-disjoint (own ++ kept_in all) (read_elsewhere x new.properties) (λ y m.
      let c : Changes ds y = each-in (Changes ds) (own ++ kept_in all) (each-both (Changes ds) own (kept_in all) (written-changes ds es x false body uses) (kept-changes ds es x false body uses)) y m in
      let o = disjoint-off (own ++ kept_in all) (read_elsewhere x before) u.0 y m in
      let p = unread-parts y (owner-other y x) (reads_in test) (level_reads_of es x body) (elsewhere-unread y x before o) in
      let r = away-levels ds es y c x test body uses flat.1 m p.1 in
      let filter-flat = flat-conjunction (x ∷ []) false (at_node s x f.active) test (ap (λ b. b || false) (self-eq x)) flat.0 in
      unread-elsewhere y x new.properties (unread-both y (owner-other y x) (reads_in filter) (sights_of es x false inside).properties (away-flat ds es y c x test body uses flat.1 filter filter-flat) r)))
      (and-true a3 (a4 && (inner' && targets_alike body)) v.0
      (and-true a4 (inner' && targets_alike body) w.0
      (and-true inner' (targets_alike body) (inners-share ds es marks x body uses z.0) z.1))))

-- the loops that keep levels
module _ (ds : List Declaration) (s : Site) where
  abbrev count : ℕ
  count = length ds

  abbrev fr : Fresh
  fr = fresh_from count

  abbrev es : List Declaration
  es = with_fresh ds

  abbrev Shares : Stmt → Type 0
  Shares t = loops_share es t ≡ true

  -- reads through the iterator alone
  own-read : (p : ℕ) → read_elsewhere fr.node (record { owner = fr.node; property = p } ∷ []) ≡ []
  own-read p = ap (λ b. cond b [] (p ∷ [])) (self-eq fr.node)

  first_levels-share : Shares (first_levels s fr)
  first_levels-share = quiet-shares es fr.node (set_at s fr.node fr.level (Choose (equal s (scalar s fr.node) (scalar s fr.root)) (number 0) (number 2147483647))) refl refl refl refl refl

  activate-shares : Shares (activate s fr)
  activate-shares = quiet-shares es fr.node (set_at s fr.node fr.active (equal s (at_node s fr.node fr.level) (scalar s fr.current))) refl refl (own-read fr.level) refl refl

  -- copies
  copies-reduced : (p : ℕ) (marks : List Bool) → reduced es fr.node false (sequence (copies_from s fr p marks)) ≡ []
  copies-reduced p [] = refl
  copies-reduced p (true ∷ marks) = copies-reduced (suc p) marks
  copies-reduced p (false ∷ marks) = copies-reduced (suc p) marks

  copies-deferred : (p : ℕ) (marks : List Bool) → deferred (sequence (copies_from s fr p marks)) ≡ []
  copies-deferred p [] = refl
  copies-deferred p (true ∷ marks) = copies-deferred (suc p) marks
  copies-deferred p (false ∷ marks) = copies-deferred (suc p) marks

  copies-inner : (p : ℕ) (marks : List Bool) → inners_share es fr.node (sequence (copies_from s fr p marks)) ≡ true
  copies-inner p [] = refl
  copies-inner p (true ∷ marks) = copies-inner (suc p) marks
  copies-inner p (false ∷ marks) = copies-inner (suc p) marks

  copies-alike : (p : ℕ) (marks : List Bool) → targets_alike (sequence (copies_from s fr p marks)) ≡ true
  copies-alike p [] = refl
  copies-alike p (true ∷ marks) = copies-alike (suc p) marks
  copies-alike p (false ∷ marks) = copies-alike (suc p) marks

  copies-read : (p : ℕ) (marks : List Bool) → read_elsewhere fr.node (sights_of es fr.node false (sequence (copies_from s fr p marks))).properties ≡ []
  copies-read p [] = refl
  copies-read p (true ∷ marks) =
      let rest : List ℕ = read_elsewhere fr.node (sights_of es fr.node false (sequence (copies_from s fr (suc p) marks))).properties in
      ap (λ b. cond b rest (p ∷ rest)) (self-eq fr.node) ∙ copies-read (suc p) marks
  copies-read p (false ∷ marks) = copies-read (suc p) marks

  unless-shares : (cs : List Stmt) → reduced es fr.node false (sequence cs) ≡ [] → deferred (sequence cs) ≡ [] → read_elsewhere fr.node (sights_of es fr.node false (sequence cs)).properties ≡ [] →
      inners_share es fr.node (sequence cs) ≡ true → targets_alike (sequence cs) ≡ true → Shares (unless_empty s fr cs)
  unless-shares [] r d e i a = refl
  unless-shares (c ∷ cs) r d e i a = quiet-shares es fr.node (sequence (c ∷ cs)) r d e i a

  copy-shares : (marks : List Bool) → Shares (copy s fr marks)
  copy-shares marks = unless-shares (copies_from s fr 0 marks) (copies-reduced 0 marks) (copies-deferred 0 marks) (copies-read 0 marks) (copies-inner 0 marks) (copies-alike 0 marks)

  -- the fresh variables differ
  fresh-apart : (i j : ℕ) → nat_eq i j ≡ false → nat_eq (count + i) (count + j) ≡ false
  fresh-apart i j h = grind (arith, h)

  reach-shares : Shares (reach s fr)
  reach-shares =
      ap (λ b. sharing seen (given b ∷ []) [] elsewhere [] (inner-sharing fr.node inner (given b ∷ [])) true) (iterators-apart count)
      ∙ (λ i. (not (one i || (two i || (two i || (three i || (four i || false))))) && true) && true)
    where
      given : Bool → Reduced
      given b = record { variables = fr.level ∷ []; reduce = Min; number = s.number; own = b && true; shared = cond (not b) (fr.level ∷ []) []; kept = cond b (fr.level ∷ []) [] }

      seen : Sights
      seen = record { properties = record { owner = fr.node; property = fr.active } ∷ []; scalars = fr.node ∷ fr.node ∷ fr.neighbour ∷ fr.down ∷ [] }

      inner : Sights
      inner = record { properties = []; scalars = fr.neighbour ∷ fr.down ∷ [] }

      elsewhere : List ℕ
      elsewhere = read_elsewhere fr.node (record { owner = fr.node; property = fr.active } ∷ [])

      one : nat_eq fr.level fr.active ≡ false
      one = fresh-apart 6 7 refl

      two : nat_eq fr.level fr.node ≡ false
      two = fresh-apart 6 8 refl

      three : nat_eq fr.level fr.neighbour ≡ false
      three = fresh-apart 6 9 refl

      four : nat_eq fr.level fr.down ≡ false
      four = fresh-apart 6 3 refl

  look-shares : Shares (look s fr)
  look-shares =
      ap shape (depth-fresh ds 5)
      ∙ (λ i. (not (one i || (two i || (three i || false))) && true) && (disjoint [] (read_elsewhere fr.node (record { owner = fr.node; property = fr.level } ∷ [])) && true))
    where
      ts : List Target
      ts = T.Scalar fr.found s.place ∷ []

      shape : ℕ → Bool
      shape d =
          let once : Bool = not (nat_eq d 0) && true in
          let seen : Sights = with_reads (sights_by (cond once sights_at_target sights_of_target) ts) (sights_in_all (equal s (at_node s fr.node fr.level) (scalar s fr.down) ∷ [])) in
          let given : Reduced = record { variables = fr.found ∷ []; reduce = Or; number = s.number; own = not (nat_eq d 0) && true; shared = cond (not (not (nat_eq d 0))) (fr.found ∷ []) []; kept = cond (nat_eq d 1) (fr.found ∷ []) [] } in
          sharing (with_reads nothing_read seen) (cond once [] (given ∷ [])) (cond once (fr.found ∷ []) []) (read_elsewhere fr.node seen.properties) [] true true

      one : nat_eq fr.found fr.level ≡ false
      one = fresh-apart 5 6 refl

      two : nat_eq fr.found fr.node ≡ false
      two = fresh-apart 5 8 refl

      three : nat_eq fr.found fr.down ≡ false
      three = fresh-apart 5 3 refl

  shares-then : (a b : Stmt) → Shares a → Shares b → Shares (Then a b)
  shares-then a b p q = and-true (loops_share es a) (loops_share es b) p q

  shares-last : (a : Stmt) → Shares a → Shares (Then a Skip)
  shares-last a p = shares-then a Skip p refl

  shares-where : (b : Bool) (a : Stmt) → Shares a → Shares (where_asked b a)
  shares-where true a p = p
  shares-where false a p = refl

  shares-first : (b : Bool) (a c : Stmt) → Shares a → Shares c → Shares (first_where b a c)
  shares-first true a c p q = shares-then a (Then c Skip) p (shares-last c q)
  shares-first false a c p q = shares-then c (Then a Skip) q (shares-last a p)

  begin-shares : (key : Key) (root : ℕ) → Shares (begin s fr key root)
  begin-shares key root = shares-then (first_levels s fr) (sequence (set s fr.current (number 0) ∷ set s fr.more always ∷ [])) first_levels-share refl

  -- the loops of a part
  module _ (key : Key) (x : ℕ) (test : Expr) (body : Stmt) (it : list_all (suits ds) (use_as Iterates x) ≡ true) (uses : list_all (suits ds) (uses_of body) ≡ true) (form : is_flat_loop ds true x test body ≡ true) (h : search_shares es x test body ≡ true) where
    abbrev marked : List Bool
    marked = copied count body

    abbrev visits : Stmt
    visits = visit s fr marked key x test body

    visits-share : Shares visits
    visits-share = by (is_idle body && is_safe x test)
      where
        by : (b : Bool) → Shares (cond b Skip (Foreach key s.place (over_nodes s x) (conjunction (at_node s x fr.active) test) (by_levels fr marked body)))
        by true = refl
        by false = visit-shares ds es x test body it uses form s h

    forward-shares : Shares (forward s fr count key x test body)
    forward-shares =
        let third : List Stmt = look s fr ∷ set s fr.more (scalar s fr.found) ∷ set s fr.current (scalar s fr.down) ∷ [] in
        let second : List Stmt = first_where (asks_down body) (reach s fr) visits ∷ third in
        let copies : List Stmt = copy s fr marked ∷ second in
        let active : List Stmt = activate s fr ∷ copies in
        let none : List Stmt = set s fr.found (Const (Flag false)) ∷ active in
        shares-then (where_asked (asks_up body) (level_before s fr fr.up)) (sequence none) (shares-where (asks_up body) (level_before s fr fr.up) refl)
        (shares-then (activate s fr) (sequence copies) activate-shares
        (shares-then (copy s fr marked) (sequence second) (copy-shares marked)
        (shares-then (first_where (asks_down body) (reach s fr) visits) (sequence third) (shares-first (asks_down body) (reach s fr) visits reach-shares visits-share)
        (shares-then (look s fr) (sequence (set s fr.more (scalar s fr.found) ∷ set s fr.current (scalar s fr.down) ∷ [])) look-shares refl))))

    backward-shares : Shares (backward s fr count key x test body)
    backward-shares =
        let third : List Stmt = visits ∷ level_before s fr fr.current ∷ [] in
        let copies : List Stmt = copy s fr marked ∷ third in
        let active : List Stmt = activate s fr ∷ copies in
        let ups : List Stmt = where_asked (asks_up body) (level_before s fr fr.up) ∷ active in
        let turn : Shares (back_turn s fr count key x test body) =
        shares-then (where_asked (asks_down body) (next_level s fr)) (sequence ups) (shares-where (asks_down body) (next_level s fr) refl)
        (shares-then (where_asked (asks_up body) (level_before s fr fr.up)) (sequence active) (shares-where (asks_up body) (level_before s fr fr.up) refl)
        (shares-then (activate s fr) (sequence copies) activate-shares
        (shares-then (copy s fr marked) (sequence third) (copy-shares marked)
        (shares-then visits (sequence (level_before s fr fr.current ∷ [])) visits-share refl)))) in
        and-true (loops_share es (back_turn s fr count key x test body)) true turn refl

-- a whole phase
module _ (ds : List Declaration) where
  abbrev Suit : List Use → Type 0
  Suit us = list_all (suits ds) us ≡ true

  abbrev IsForm : Stmt → Type 0
  IsForm s = is_phase (is_flat_loop ds false) (is_flat_loop ds true) ds s ≡ true

  abbrev long : List Declaration
  long = with_fresh ds

  abbrev out : Stmt → Stmt
  out s = searches_out (fresh_from (length ds)) (length ds) s

  iterates : (search : Search) → Suit (uses_of_search search) → Suit (use_as Iterates search.iterator)
  iterates search h = (all-append (suits ds) (use_as Iterates search.iterator) (use_as Anything search.graph ++ use_as Owner search.root) h).0

  phase-shares : (s : Stmt) → Suit (uses_of s) → IsForm s → loops_share long s ≡ true → loops_share long (out s) ≡ true
  phase-shares (Then a b) u form h =
      let r = all-append (suits ds) (uses_of a) (uses_of b) u in
      let g = both-true (is_phase (is_flat_loop ds false) (is_flat_loop ds true) ds a) (is_phase (is_flat_loop ds false) (is_flat_loop ds true) ds b) form in
      let q = both-true (loops_share long a) (loops_share long b) h in
      and-true (loops_share long (out a)) (loops_share long (out b)) (phase-shares a r.0 g.0 q.0) (phase-shares b r.1 g.1 q.1)
  phase-shares (For key at hd test body) u form h =
      let r = all-append (suits ds) (uses_of_head hd) (uses_in test ++ uses_of body) u in
      let g = both-true (is_told test) (is_phase (is_flat_loop ds false) (is_flat_loop ds true) ds body) form in
      phase-shares body (all-append (suits ds) (uses_in test) (uses_of body) r.1).1 g.1 h
  phase-shares (If key c a b) u form h =
      let r = all-append (suits ds) (uses_in c) (uses_of a ++ uses_of b) u in
      let s = all-append (suits ds) (uses_of a) (uses_of b) r.1 in
      let g = both-true (is_told c) (is_phase (is_flat_loop ds false) (is_flat_loop ds true) ds a && is_phase (is_flat_loop ds false) (is_flat_loop ds true) ds b) form in
      let k = both-true (is_phase (is_flat_loop ds false) (is_flat_loop ds true) ds a) (is_phase (is_flat_loop ds false) (is_flat_loop ds true) ds b) g.1 in
      let q = both-true (loops_share long a) (loops_share long b) h in
      and-true (loops_share long (out a)) (loops_share long (out b)) (phase-shares a s.0 k.0 q.0) (phase-shares b s.1 k.1 q.1)
  phase-shares (While key at c body) u form h =
      let g = both-true (is_told c) (is_phase (is_flat_loop ds false) (is_flat_loop ds true) ds body) form in
      phase-shares body (all-append (suits ds) (uses_in c) (uses_of body) u).1 g.1 h
  phase-shares (Do key at body c) u form h =
      let g = both-true (is_phase (is_flat_loop ds false) (is_flat_loop ds true) ds body) (is_told c) form in
      phase-shares body (all-append (suits ds) (uses_of body) (uses_in c) u).0 g.0 h
  phase-shares (InBfs key at search test body) u form h =
      let s : Site = site_of key search in
      let x : ℕ = search.iterator in
      let r = all-append (suits ds) (uses_of_search search) (uses_in test ++ uses_of body) u in
      let uses = (all-append (suits ds) (uses_in test) (uses_of body) r.1).1 in
      let levels : Stmt = forward s (fresh_from (length ds)) (length ds) key x test body in
      shares-then ds s (begin s (fresh_from (length ds)) key search.root) (sequence (levels ∷ [])) (begin-shares ds s key search.root)
      (shares-last ds s levels (forward-shares ds s key x test body (iterates search r.0) uses form h))
  phase-shares (InBfsBoth key at search test body back_key back_test back) u form h =
      let s : Site = site_of key search in
      let x : ℕ = search.iterator in
      let r = all-append (suits ds) (uses_of_search search) (uses_in test ++ (uses_of body ++ (uses_in back_test ++ uses_of back))) u in
      let i = all-append (suits ds) (uses_in test) (uses_of body ++ (uses_in back_test ++ uses_of back)) r.1 in
      let j = all-append (suits ds) (uses_of body) (uses_in back_test ++ uses_of back) i.1 in
      let l = all-append (suits ds) (uses_in back_test) (uses_of back) j.1 in
      let g = both-true (is_flat_loop ds true x test body) (is_flat_loop ds true x back_test back) form in
      let q = both-true (search_shares long x test body) (search_shares long x back_test back) h in
      let levels : Stmt = forward s (fresh_from (length ds)) (length ds) key x test body in
      let again : Stmt = backward s (fresh_from (length ds)) (length ds) back_key x back_test back in
      shares-then ds s (begin s (fresh_from (length ds)) key search.root) (sequence (levels ∷ again ∷ [])) (begin-shares ds s key search.root)
      (shares-then ds s levels (sequence (again ∷ [])) (forward-shares ds s key x test body (iterates search r.0) j.0 g.0 q.0)
      (shares-last ds s again (backward-shares ds s back_key x back_test back (iterates search r.0) l.1 g.1 q.1)))
  phase-shares s u form h = h

-- the loops of a program share nothing else after the pass, where they did not before
pub levelled-race_free : (p : Program) → is_named p ≡ true → is_desugared p ≡ true → is_race_free p ≡ true → is_race_free (levelled p) ≡ true
levelled-race_free p named form h = by (has_search p.body)
  where
    by : (b : Bool) → is_race_free (cond b (record p { declarations = with_fresh p.declarations; body = searches_out (fresh_from (length p.declarations)) (length p.declarations) p.body }) p) ≡ true
    by true =
        let ds : List Declaration = p.declarations in
        let q = both-true (nat_le (p.inputs + p.outputs) (length ds)) (list_all (suits ds) (uses_of p.body)) named in
        phase-shares ds p.body q.1 form (phase-same ds (with_fresh ds) (length ds) (before-same ds) p.body (names-below ds p.body q.1) ∙ h)
    by false = h
