-- Searches become loops over levels: their inner loops read along as they did, over edges that come in and go out.
use Rattle.std.proofs.Common.{◌≡◌, ℕ, suc, Bool, true, false, List, [], ◌∷◌, ◌++◌, map, refl, sym, ap, subst, ◌∙◌, Some, None}
use Rattle.std.specs.Prelude.{◌&&◌, ◌||◌, not, nat_eq, flat_map, if◌then◌else◌}
use Rattle.std.specs.List.{list_any}
use Rattle.std.proofs.lemmas.Bool.{both_ways, and_from, and_parts, or_left, or_right, eq-eqb}
use Rattle.gm_base.specs.declared.places.Place.{Place}
use Rattle.gm_ast.specs.declared.tree.Declaration.{Declaration}
use Rattle.gm_ast.specs.declared.tree.Domain.{Domain}
use Rattle.gm_ast.specs.declared.tree.Domain.TheVariants.{Nodes, OutNbrs, InNbrs, UpNbrs, DownNbrs}
use Rattle.gm_ast.specs.declared.tree.Head.{Head}
use Rattle.gm_ast.specs.declared.tree.Key.{Key}
use Rattle.gm_ast.specs.declared.tree.Target.{Target}
use Rattle.gm_ast.specs.declared.tree.Target.TheVariants as T
use Rattle.gm_value.specs.declared.reductions.Reduce.TheVariants.{Min}
use Rattle.gm_ast.specs.declared.ways.Way.TheVariants.{Push, Pull, Home}
use Rattle.gm_ast.specs.Loops.{any}
use Rattle.gm_ast.specs.Program.{Expr, always, Unary, Binary, Both, Either, Choose, Folded, Stmt, Skip, Then, Declare, Assign, Combine, Foreach, For, If, While, Do, InBfs, InBfsBoth, sequence}
use Rattle.gm_ast.specs.Ways.{Mention, mentions, reads_through, is_edge_read, owner_of, is_through, pulls_by_range, is_against}
use Rattle.gm_forms.specs.Sharing.{are_at_once, written_by, written_at_once}
use Rattle.gm_bfs.specs.declared.fresh.Fresh.{Fresh}
use Rattle.gm_bfs.specs.declared.fresh.Site.{Site}
use Rattle.gm_bfs.specs.Copies.{asks_up, asks_down, copied, reading, inner_reading}
use Rattle.gm_bfs.specs.Levelled.{searches_out}
use Rattle.gm_bfs.specs.Variables.{body_key, total_of}
use Rattle.gm_bfs.specs.Searches.{scalar, is_on, is_always, conjunction, inner_loop, by_levels, is_idle, is_safe, copies_from, unless_empty, copy, where_asked, first_where, level_before, next_level, reach, visit, along_edges, forward, backward, over_nodes, at_node, site_of, begin}
use Rattle.gm_one_way.specs.Along.{tells, told_of, are_marked, marks, stands, parts_tell, goes_along, GoesAlong, AllAlong, EachAlong}
use Rattle.gm_along.proofs.Bodies.{and-same, or-same, loop-quiet}

-- ---- what reads copies mentions what it did

two : (a b c d : List Mention) → a ≡ c → b ≡ d → a ++ b ≡ c ++ d
two a b c d e f = ap (λ x. x ++ b) e ∙ ap (λ x. c ++ x) f

module _ (f : Fresh) (copies : List Bool) (w : ℕ) where
  reading-mentions : (e : Expr) → mentions (reading f copies w e) ≡ mentions e
  reading-mentions (Unary op at e) = reading-mentions e
  reading-mentions (Binary op at a b) = two (mentions (reading f copies w a)) (mentions (reading f copies w b)) (mentions a) (mentions b) (reading-mentions a) (reading-mentions b)
  reading-mentions (Both a b) = two (mentions (reading f copies w a)) (mentions (reading f copies w b)) (mentions a) (mentions b) (reading-mentions a) (reading-mentions b)
  reading-mentions (Either a b) = two (mentions (reading f copies w a)) (mentions (reading f copies w b)) (mentions a) (mentions b) (reading-mentions a) (reading-mentions b)
  reading-mentions (Choose c a b) =
      two (mentions (reading f copies w c)) (mentions (reading f copies w a) ++ mentions (reading f copies w b)) (mentions c) (mentions a ++ mentions b) (reading-mentions c)
      (two (mentions (reading f copies w a)) (mentions (reading f copies w b)) (mentions a) (mentions b) (reading-mentions a) (reading-mentions b))
  reading-mentions (Folded g h test e) = two (mentions (reading f copies w test)) (mentions (reading f copies w e)) (mentions test) (mentions e) (reading-mentions test) (reading-mentions e)
  reading-mentions e = refl

  module _ (ds : List Declaration) (n : ℕ) where
    module _ (reads : Mention → Bool) (marked : ℕ → Bool) where
      told-same : (e : Expr) → told_of ds n reads marked (reading f copies w e) ≡ told_of ds n reads marked e
      told-same e = ap (any (tells ds n reads marked)) (reading-mentions e)

      all-told-same : (es : List Expr) → list_any (told_of ds n reads marked) (map (reading f copies w) es) ≡ list_any (told_of ds n reads marked) es
      all-told-same [] = refl
      all-told-same (e ∷ es) =
          or-same (told_of ds n reads marked (reading f copies w e)) (list_any (told_of ds n reads marked) (map (reading f copies w) es)) (told_of ds n reads marked e) (list_any (told_of ds n reads marked) es) (told-same e) (all-told-same es)

      marks-reading : (told : Bool) (s : Stmt) → marks ds n reads marked told (inner_reading f copies w s) ≡ marks ds n reads marked told s
      marks-reading told (Then a b) =
          and-same (marks ds n reads marked told (inner_reading f copies w a)) (marks ds n reads marked told (inner_reading f copies w b)) (marks ds n reads marked told a) (marks ds n reads marked told b) (marks-reading told a) (marks-reading told b)
      marks-reading told (Declare k x (Some e)) = ap (λ b. are_marked ds n reads marked (told || b) (x ∷ [])) (told-same e)
      marks-reading told (Declare k x None) = refl
      marks-reading told (Assign k t e) = ap (λ b. are_marked ds n reads marked (told || b) (written_by t)) (told-same e)
      marks-reading told (Combine k total r ts es) =
          let xs = written_at_once ds n true ts in ap (λ b. are_marked ds n reads marked (told || (list_any marked xs || b)) xs) (all-told-same es)
      marks-reading told (If k c a b) =
          let t = told || told_of ds n reads marked c in
          ap (λ t. marks ds n reads marked (told || t) (inner_reading f copies w a) && marks ds n reads marked (told || t) (inner_reading f copies w b)) (told-same c)
          ∙ and-same (marks ds n reads marked t (inner_reading f copies w a)) (marks ds n reads marked t (inner_reading f copies w b)) (marks ds n reads marked t a) (marks ds n reads marked t b) (marks-reading t a) (marks-reading t b)
      marks-reading told s = refl

    -- h: the inner loop; domain: over which it is then, where all its reductions rest on what they read at the inner node
    module _ (h : Head) (domain : Domain) (edges ends : ℕ → Bool) where
      abbrev thr : Mention → Bool
      thr = reads_through h.iterator

      abbrev there : Head
      there = record h { domain = domain }

      abbrev IsStronger : Type 0
      IsStronger = (ts : List Target) (end edge other : Bool) → (other ≡ true → edge ≡ true) → stands ds n h edges ends ts end edge ≡ true → stands ds n there edges ends ts true other ≡ true

      more : (a b c d : Bool) → (b ≡ true → a ≡ true) → d ≡ c → b || d ≡ true → a || c ≡ true
      more a true c d g e k = or_left a c (g refl)
      more a false c d g e k = or_right a c (sym e ∙ k)

      goes-level : IsStronger → (end edge other : Bool) → (other ≡ true → edge ≡ true) → (s : Stmt) → goes_along ds n h edges ends end edge s ≡ true → goes_along ds n there edges ends true other (inner_reading f copies w s) ≡ true
      goes-level strong end edge other g (Then a b) k =
          let r = and_parts (goes_along ds n h edges ends end edge a) (goes_along ds n h edges ends end edge b) k in
          and_from (goes_along ds n there edges ends true other (inner_reading f copies w a)) (goes_along ds n there edges ends true other (inner_reading f copies w b)) (goes-level strong end edge other g a r.0) (goes-level strong end edge other g b r.1)
      goes-level strong end edge other g (If key c a b) k =
          let u = end || told_of ds n thr ends c in
          let v = edge || told_of ds n is_edge_read edges c in
          let x = other || told_of ds n is_edge_read edges (reading f copies w c) in
          let q = more edge other (told_of ds n is_edge_read edges c) (told_of ds n is_edge_read edges (reading f copies w c)) g (told-same is_edge_read edges c) in
          let r = and_parts (goes_along ds n h edges ends u v a) (goes_along ds n h edges ends u v b) k in
          and_from (goes_along ds n there edges ends true x (inner_reading f copies w a)) (goes_along ds n there edges ends true x (inner_reading f copies w b)) (goes-level strong u v x q a r.0) (goes-level strong u v x q b r.1)
      goes-level strong end edge other g (Combine key total r ts es) k = by (are_at_once ds n true ts) k
        where
          u : Bool
          u = end || parts_tell ds n h edges ends thr ends ts es

          v : Bool
          v = edge || parts_tell ds n h edges ends is_edge_read edges ts es

          x : Bool
          x = other || parts_tell ds n there edges ends is_edge_read edges ts (map (reading f copies w) es)

          parts : parts_tell ds n there edges ends is_edge_read edges ts (map (reading f copies w) es) ≡ parts_tell ds n h edges ends is_edge_read edges ts es
          parts = ap (λ b. any (tells ds n is_edge_read edges) (flat_map owner_of ts) || b) (all-told-same is_edge_read edges es)

          by : (o : Bool) → o || stands ds n h edges ends ts u v ≡ true → o || stands ds n there edges ends ts true x ≡ true
          by true q = refl
          by false q =
              strong ts u v x (more edge other (parts_tell ds n h edges ends is_edge_read edges ts es) (parts_tell ds n there edges ends is_edge_read edges ts (map (reading f copies w) es)) g parts) q
      goes-level strong end edge other g s k = refl

-- ---- over edges that come in, and that go out

up-stands : (th end edge other : Bool) → (other ≡ true → edge ≡ true) → not (edge && is_against UpNbrs (if th then Push else (if end || true then Pull else Home))) ≡ true → not (other && is_against InNbrs (if th then Push else Pull)) ≡ true
up-stands th end edge false g k = refl
up-stands true end edge true g k = subst (λ b. not (b && true) ≡ true) (g refl) k
up-stands false end edge true g k = refl

down-stands : (th end edge other : Bool) → (other ≡ true → edge ≡ true) → not (edge && is_against DownNbrs (if th then Push else (if end || true then Pull else Home))) ≡ true → not (other && is_against OutNbrs (if th then Push else Pull)) ≡ true
down-stands th end edge false g k = refl
down-stands true end edge true g k = refl
down-stands false true edge true g k = subst (λ b. not (b && true) ≡ true) (g refl) k
down-stands false false edge true g k = subst (λ b. not (b && true) ≡ true) (g refl) k

module _ (f : Fresh) (copies : List Bool) (ds : List Declaration) (n : ℕ) where
  -- the filter of a loop over levels
  on-end : (h : Head) (x : ℕ) (e : Expr) (b : Bool) → any (reads_through h.iterator) (mentions (if b then is_on f h x else Both (is_on f h x) e)) ≡ true
  on-end h x e true = or_left (nat_eq h.iterator h.iterator) _ (eq-eqb h.iterator h.iterator refl)
  on-end h x e false = or_left (nat_eq h.iterator h.iterator) _ (eq-eqb h.iterator h.iterator refl)

  on-edge : (h : Head) (x : ℕ) (e : Expr) (b : Bool) → any is_edge_read (mentions (if b then is_on f h x else Both (is_on f h x) e)) ≡ true → any is_edge_read (mentions e) ≡ true
  on-edge h x e true k = absurd (both_ways false refl k)
  on-edge h x e false k = k

  ranged-goes : (h : Head) (test : Expr) (body : Stmt) (domain : Domain) (x : ℕ) (g : GoesAlong ds n h test body) → IsStronger f copies h.iterator ds n h domain g.edges g.ends
      → GoesAlong ds n (record h { domain = domain }) (conjunction (is_on f h x) (reading f copies h.iterator test)) (inner_reading f copies h.iterator body)
  ranged-goes h test body domain x g strong =
      let filter = reading f copies h.iterator test in
      let b = is_always filter in
      let there : Head = record h { domain = domain } in
      let edge = any is_edge_read (mentions (conjunction (is_on f h x) filter)) in
      record {
        edges = g.edges;
        ends = g.ends;
        edges_marked = marks-reading f copies h.iterator ds n is_edge_read g.edges false body ∙ g.edges_marked;
        ends_marked = marks-reading f copies h.iterator ds n (reads_through h.iterator) g.ends false body ∙ g.ends_marked;
        along = ap (λ u. goes_along ds n there g.edges g.ends u edge (inner_reading f copies h.iterator body)) (on-end h x filter b)
            ∙ goes-level f copies h.iterator ds n h domain g.edges g.ends strong (any (reads_through h.iterator) (mentions test)) (any is_edge_read (mentions test)) edge
            (λ k. sym (ap (any is_edge_read) (reading-mentions f copies h.iterator test)) ∙ on-edge h x filter b k) body g.along;
      }

  loop-goes-on : (k : Key) (at : Place) (h : Head) (test : Expr) (body : Stmt) (domain : Domain) → h.domain ≡ domain → GoesAlong ds n h test body → AllAlong ds n (inner_loop f copies k at h test body domain)
  loop-goes-on k at h test body UpNbrs e g = ranged-goes h test body InNbrs f.up g
      (λ ts end edge other q s. up-stands (any (is_through h.iterator) ts) end edge other q
      (subst (λ d. not (edge && is_against d (if any (is_through h.iterator) ts then Push else (if end || pulls_by_range d edge then Pull else Home))) ≡ true) e s))
  loop-goes-on k at h test body DownNbrs e g = ranged-goes h test body OutNbrs f.down g
      (λ ts end edge other q s. down-stands (any (is_through h.iterator) ts) end edge other q
      (subst (λ d. not (edge && is_against d (if any (is_through h.iterator) ts then Push else (if end || pulls_by_range d edge then Pull else Home))) ≡ true) e s))
  loop-goes-on k at h test body Nodes e g = g
  loop-goes-on k at h test body OutNbrs e g = g
  loop-goes-on k at h test body InNbrs e g = g

  levels-all : (s : Stmt) → AllAlong ds n s → AllAlong ds n (by_levels f copies s)
  levels-all (Then a b) e = (levels-all a e.0, levels-all b e.1)
  levels-all (If k c a b) e = (levels-all a e.0, levels-all b e.1)
  levels-all (Foreach k at h test body) e = loop-goes-on k at h test body h.domain refl e
  levels-all s e = e

-- ---- loops over levels

module _ (ds : List Declaration) (f : Fresh) where
  module _ (s : Site) where
    visit-along : (copies : List Bool) (key : Key) (x : ℕ) (test : Expr) (body : Stmt) → AllAlong ds x body → EachAlong ds (visit s f copies key x test body)
    visit-along copies key x test body e = by (is_idle body && is_safe x test)
      where
        by : (nothing : Bool) → EachAlong ds (if nothing then Skip else Foreach key s.place (over_nodes s x) (conjunction (at_node s x f.active) test) (by_levels f copies body))
        by true = tt
        by false = levels-all f copies ds x body e

    begin-along : (key : Key) (root : ℕ) → EachAlong ds (begin s f key root)
    begin-along key root = (tt, (tt, (tt, (tt, tt))))

    abbrev AllIn : ℕ → List Stmt → Type 0
    AllIn m [] = Unit {0}
    AllIn m (x ∷ xs) = AllAlong ds m x × AllIn m xs

    sequence-all : (m : ℕ) (ss : List Stmt) → AllIn m ss → AllAlong ds m (sequence ss)
    sequence-all m [] h = tt
    sequence-all m (x ∷ xs) h = (h.0, sequence-all m xs h.1)

    copies-all : (m p : ℕ) (copies : List Bool) → AllIn m (copies_from s f p copies)
    copies-all m p [] = tt
    copies-all m p (true ∷ copies) = (tt, copies-all m (suc p) copies)
    copies-all m p (false ∷ copies) = copies-all m (suc p) copies

    unless-along : (ss : List Stmt) → AllIn f.node ss → EachAlong ds (unless_empty s f ss)
    unless-along [] h = tt
    unless-along (c ∷ cs) h = sequence-all f.node (c ∷ cs) h

    copy-along : (copies : List Bool) → EachAlong ds (copy s f copies)
    copy-along copies = unless-along (copies_from s f 0 copies) (copies-all f.node 0 copies)

    reach-along : EachAlong ds (reach s f)
    reach-along = loop-quiet ds f.node (along_edges s f) always (Combine (body_key s) (total_of s) Min (T.Property f.neighbour f.level s.place ∷ []) (scalar s f.down ∷ [])) refl (refl, tt)

    asked-along : (test : Bool) (a : Stmt) → EachAlong ds a → EachAlong ds (where_asked test a)
    asked-along true a h = h
    asked-along false a h = tt

    first-along : (test : Bool) (a b : Stmt) → EachAlong ds a → EachAlong ds b → EachAlong ds (first_where test a b)
    first-along true a b h k = (h, (k, tt))
    first-along false a b h k = (k, (h, tt))

    forward-along : (count : ℕ) (key : Key) (x : ℕ) (test : Expr) (body : Stmt) → AllAlong ds x body → EachAlong ds (forward s f count key x test body)
    forward-along count key x test body e =
        let copies = copied count body in (
          tt,
          (
            asked-along (asks_up body) (level_before s f f.up) tt,
            (
              tt,
              (
                tt,
                (
                  copy-along copies,
                  (
                    first-along (asks_down body) (reach s f) (visit s f copies key x test body) reach-along (visit-along copies key x test body e),
                    (tt, (tt, (tt, tt))),
                  ),
                ),
              ),
            ),
          ),
        )

    backward-along : (count : ℕ) (key : Key) (x : ℕ) (test : Expr) (body : Stmt) → AllAlong ds x body → EachAlong ds (backward s f count key x test body)
    backward-along count key x test body e =
        let copies = copied count body in (
          tt,
          (
            (
              asked-along (asks_down body) (next_level s f) tt,
              (asked-along (asks_up body) (level_before s f f.up) tt, (tt, (copy-along copies, (visit-along copies key x test body e, (tt, tt))))),
            ),
            tt,
          ),
        )

  pub searches-along : (count : ℕ) (s : Stmt) → EachAlong ds s → EachAlong ds (searches_out f count s)
  searches-along count (Then a b) e = (searches-along count a e.0, searches-along count b e.1)
  searches-along count (For k at h test body) e = searches-along count body e
  searches-along count (If k c a b) e = (searches-along count a e.0, searches-along count b e.1)
  searches-along count (While k at c body) e = searches-along count body e
  searches-along count (Do k at body c) e = searches-along count body e
  searches-along count (InBfs k at search test body) e = let s = site_of k search in (begin-along s k search.root, (forward-along s count k search.iterator test body e, tt))
  searches-along count (InBfsBoth k at search test body back_key back_test back) e =
      let s = site_of k search in (begin-along s k search.root, (forward-along s count k search.iterator test body e.0, (backward-along s count back_key search.iterator back_test back e.1, tt)))
  searches-along count s e = e
