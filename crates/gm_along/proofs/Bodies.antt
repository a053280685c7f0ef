-- Inner bodies whose expressions mention what they did, whose compound assignments are plain ones, and those that read no edge.
use Rattle.std.proofs.Common.{◌≡◌, ℕ, Bool, true, false, List, [], ◌∷◌, ◌++◌, map, refl, sym, ap, ◌∙◌, Some, None}
use Rattle.std.specs.Prelude.{◌&&◌, ◌||◌, not, flat_map, if◌then◌else◌}
use Rattle.std.specs.List.{list_all, list_any}
use Rattle.std.proofs.lemmas.Bool.{both_ways, and_from, and_parts, or_right}
use Rattle.gm_base.specs.declared.places.Place.{Place}
use Rattle.gm_value.specs.declared.reductions.Reduce.{Reduce}
use Rattle.gm_value.specs.declared.reductions.Reduce.TheVariants as R
use Rattle.gm_forms.specs.Typing.{keeps_tuples}
use Rattle.gm_ast.specs.declared.tree.Declaration.{Declaration}
use Rattle.gm_ast.specs.declared.tree.Head.{Head}
use Rattle.gm_ast.specs.declared.tree.Key.{Key}
use Rattle.gm_ast.specs.declared.tree.Target.{Target}
use Rattle.gm_ast.specs.declared.tree.Target.TheVariants as T
use Rattle.gm_ast.specs.declared.tree.TotalKey.{TotalKey}
use Rattle.gm_ast.specs.Loops.{any}
use Rattle.gm_ast.specs.Program.{Expr, Var, Stmt, Skip, Then, Declare, Assign, Combine, If}
use Rattle.gm_ast.specs.Ways.{Mention, Alone, Through, OfEdge, mentions, reads_through, is_edge_read, owner_of, way_by, is_against}
use Rattle.gm_semantics.specs.Iterations.{target_value}
use Rattle.gm_forms.specs.Sharing.{are_at_once, written_by, written_at_once}
use Rattle.gm_desugar.specs.Compounds.{operated, assignment_of, expanded_in}
use Rattle.gm_desugar.specs.Literals.{each_expr_in}
use Rattle.gm_one_way.specs.Along.{tells, told_of, are_marked, marks, stands, parts_tell, goes_along, GoesAlong}

pub and-same : (a b c d : Bool) → a ≡ c → b ≡ d → a && b ≡ c && d
and-same a b c d e f = ap (λ x. x && b) e ∙ ap (λ x. c && x) f

pub or-same : (a b c d : Bool) → a ≡ c → b ≡ d → a || b ≡ c || d
or-same a b c d e f = ap (λ x. x || b) e ∙ ap (λ x. c || x) f

-- ---- expressions that mention the same

module _ (ds : List Declaration) (n : ℕ) (f : Expr → Expr) (same : (e : Expr) → mentions (f e) ≡ mentions e) where
  module _ (reads : Mention → Bool) (marked : ℕ → Bool) where
    told-same : (e : Expr) → told_of ds n reads marked (f e) ≡ told_of ds n reads marked e
    told-same e = ap (any (tells ds n reads marked)) (same e)

    all-told-same : (es : List Expr) → list_any (told_of ds n reads marked) (map f es) ≡ list_any (told_of ds n reads marked) es
    all-told-same [] = refl
    all-told-same (e ∷ es) = or-same (told_of ds n reads marked (f e)) (list_any (told_of ds n reads marked) (map f es)) (told_of ds n reads marked e) (list_any (told_of ds n reads marked) es) (told-same e) (all-told-same es)

    pub marks-each : (told : Bool) (s : Stmt) → marks ds n reads marked told (each_expr_in f s) ≡ marks ds n reads marked told s
    marks-each told (Then a b) =
        and-same (marks ds n reads marked told (each_expr_in f a)) (marks ds n reads marked told (each_expr_in f b)) (marks ds n reads marked told a) (marks ds n reads marked told b) (marks-each told a) (marks-each told b)
    marks-each told (Declare k x (Some e)) = ap (λ b. are_marked ds n reads marked (told || b) (x ∷ [])) (told-same e)
    marks-each told (Declare k x None) = refl
    marks-each told (Assign k t e) = ap (λ b. are_marked ds n reads marked (told || b) (written_by t)) (told-same e)
    marks-each told (Combine k total r ts es) =
        let xs = written_at_once ds n true ts in ap (λ b. are_marked ds n reads marked (told || (list_any marked xs || b)) xs) (all-told-same es)
    marks-each told (If k c a b) =
        let t = told || told_of ds n reads marked c in
        ap (λ t. marks ds n reads marked (told || t) (each_expr_in f a) && marks ds n reads marked (told || t) (each_expr_in f b)) (told-same c)
        ∙ and-same (marks ds n reads marked t (each_expr_in f a)) (marks ds n reads marked t (each_expr_in f b)) (marks ds n reads marked t a) (marks ds n reads marked t b) (marks-each t a) (marks-each t b)
    marks-each told s = refl

  module _ (h : Head) (edges ends : ℕ → Bool) where
    abbrev thr : Mention → Bool
    thr = reads_through h.iterator

    goes-each : (end edge : Bool) (s : Stmt) → goes_along ds n h edges ends end edge (each_expr_in f s) ≡ goes_along ds n h edges ends end edge s
    goes-each end edge (Then a b) =
        and-same (goes_along ds n h edges ends end edge (each_expr_in f a)) (goes_along ds n h edges ends end edge (each_expr_in f b)) (goes_along ds n h edges ends end edge a) (goes_along ds n h edges ends end edge b)
        (goes-each end edge a) (goes-each end edge b)
    goes-each end edge (Combine k total r ts es) =
        ap (λ b. are_at_once ds n true ts || stands ds n h edges ends ts (end || (any (tells ds n thr ends) (flat_map owner_of ts) || b)) (edge || parts_tell ds n h edges ends is_edge_read edges ts (map f es))) (all-told-same thr ends es)
        ∙ ap (λ b. are_at_once ds n true ts || stands ds n h edges ends ts (end || parts_tell ds n h edges ends thr ends ts es) (edge || (any (tells ds n is_edge_read edges) (flat_map owner_of ts) || b))) (all-told-same is_edge_read edges es)
    goes-each end edge (If k c a b) =
        let u = end || told_of ds n thr ends c in
        let v = edge || told_of ds n is_edge_read edges c in
        let g : Bool → Bool → Bool = λ u v. goes_along ds n h edges ends u v (each_expr_in f a) && goes_along ds n h edges ends u v (each_expr_in f b) in
        ap (λ u. g (end || u) (edge || told_of ds n is_edge_read edges (f c))) (told-same thr ends c) ∙ ap (λ v. g u (edge || v)) (told-same is_edge_read edges c)
        ∙ and-same (goes_along ds n h edges ends u v (each_expr_in f a)) (goes_along ds n h edges ends u v (each_expr_in f b)) (goes_along ds n h edges ends u v a) (goes_along ds n h edges ends u v b) (goes-each u v a) (goes-each u v b)
    goes-each end edge s = refl

  pub loop-each : (h : Head) (test : Expr) (body : Stmt) → GoesAlong ds n h test body → GoesAlong ds n h (f test) (each_expr_in f body)
  loop-each h test body g = record {
    edges = g.edges;
    ends = g.ends;
    edges_marked = marks-each is_edge_read g.edges false body ∙ g.edges_marked;
    ends_marked = marks-each (reads_through h.iterator) g.ends false body ∙ g.ends_marked;
    along = goes-each h g.edges g.ends (any (reads_through h.iterator) (mentions (f test))) (any is_edge_read (mentions (f test))) body
        ∙ ap (λ ms. goes_along ds n h g.edges g.ends (any (reads_through h.iterator) ms) (any is_edge_read ms) body) (same test) ∙ g.along;
  }

-- ---- compound assignments

-- what `x op= e` tells, `x = x op e` tells
compound : (told m r e : Bool) → r ≡ false → not (told || ((m || false) || (e || false))) || (m && true) ≡ true → not (told || ((r || m) || e)) || (m && true) ≡ true
compound told m true e q h = absurd (both_ways true q refl)
compound true true false e q h = refl
compound false true false e q h = refl
compound true false false e q h = h
compound false false false true q h = h
compound false false false false q h = h

operated-mentions : (r : Reduce) (at : Place) (a b : Expr) → mentions (operated r at a b) ≡ mentions a ++ mentions b
operated-mentions R.Sum at a b = refl
operated-mentions R.Product at a b = refl
operated-mentions R.And at a b = refl
operated-mentions R.Or at a b = refl
operated-mentions R.Min at a b = refl
operated-mentions R.Max at a b = refl

module _ (ds : List Declaration) (n : ℕ) where
  module _ (reads : Mention → Bool) (marked : ℕ → Bool) (none : (x : ℕ) → reads (Alone x) ≡ false) where
    assigned-marks : (told : Bool) (k : Key) (total : TotalKey) (r : Reduce) (ts : List Target) (es : List Expr) → are_at_once ds n true ts ≡ true → marks ds n reads marked told (Combine k total r ts es) ≡ true → marks ds n reads marked told (assignment_of k total r ts es) ≡ true
    assigned-marks told k total r [] es o m = m
    assigned-marks told k total r (t ∷ []) [] o m = m
    assigned-marks told k total r (t ∷ []) (e ∷ (d ∷ es)) o m = m
    assigned-marks told k total r (t ∷ (u ∷ ts)) es o m = m
    assigned-marks told k total r (T.Property x p at ∷ []) (e ∷ []) o m = absurd (both_ways false refl o)
    assigned-marks told k total r (T.Scalar x at ∷ []) (e ∷ []) o m = by (keeps_tuples r)
      where
        once : (let xs : List ℕ = x ∷ [] in are_marked ds n reads marked (told || (list_any marked xs || list_any (told_of ds n reads marked) (e ∷ []))) xs) ≡ true
        once = sym (ap (λ b. let xs : List ℕ = if b then x ∷ [] else [] in are_marked ds n reads marked (told || (list_any marked xs || list_any (told_of ds n reads marked) (e ∷ []))) xs) o) ∙ m

        by : (b : Bool) → marks ds n reads marked told (if b then Combine k total r (T.Scalar x at ∷ []) (e ∷ []) else Assign k (T.Scalar x at) (operated r total.place (Var x at) e)) ≡ true
        by true = m
        by false = ap (λ ms. are_marked ds n reads marked (told || any (tells ds n reads marked) ms) (x ∷ [])) (operated-mentions r total.place (Var x at) e) ∙ compound told (marked x) (reads (Alone x)) (told_of ds n reads marked e) (none x) once

    expanded-marks : (told : Bool) (s : Stmt) → marks ds n reads marked told s ≡ true → marks ds n reads marked told (expanded_in ds n true s) ≡ true
    expanded-marks told (Then a b) m =
        let r = and_parts (marks ds n reads marked told a) (marks ds n reads marked told b) m in
        and_from (marks ds n reads marked told (expanded_in ds n true a)) (marks ds n reads marked told (expanded_in ds n true b)) (expanded-marks told a r.0) (expanded-marks told b r.1)
    expanded-marks told (If k c a b) m =
        let t = told || told_of ds n reads marked c in
        let r = and_parts (marks ds n reads marked t a) (marks ds n reads marked t b) m in
        and_from (marks ds n reads marked t (expanded_in ds n true a)) (marks ds n reads marked t (expanded_in ds n true b)) (expanded-marks t a r.0) (expanded-marks t b r.1)
    expanded-marks told (Combine k total r ts es) m = by (are_at_once ds n true ts) refl
      where
        by : (o : Bool) → are_at_once ds n true ts ≡ o → marks ds n reads marked told (if o then assignment_of k total r ts es else Combine k total r ts es) ≡ true
        by true e = assigned-marks told k total r ts es e m
        by false e = m
    expanded-marks told s m = m

  module _ (h : Head) (edges ends : ℕ → Bool) where
    assigned-goes : (end edge : Bool) (k : Key) (total : TotalKey) (r : Reduce) (ts : List Target) (es : List Expr) → goes_along ds n h edges ends end edge (Combine k total r ts es) ≡ true → goes_along ds n h edges ends end edge (assignment_of k total r ts es) ≡ true
    assigned-goes end edge k total r [] es g = g
    assigned-goes end edge k total r (t ∷ []) [] g = g
    assigned-goes end edge k total r (t ∷ []) (e ∷ (d ∷ es)) g = g
    assigned-goes end edge k total r (t ∷ (u ∷ ts)) es g = g
    assigned-goes end edge k total r (t ∷ []) (e ∷ []) g = by (keeps_tuples r)
      where
        by : (b : Bool) → goes_along ds n h edges ends end edge (if b then Combine k total r (t ∷ []) (e ∷ []) else Assign k t (operated r total.place (target_value t) e)) ≡ true
        by true = g
        by false = refl

    expanded-goes : (end edge : Bool) (s : Stmt) → goes_along ds n h edges ends end edge s ≡ true → goes_along ds n h edges ends end edge (expanded_in ds n true s) ≡ true
    expanded-goes end edge (Then a b) g =
        let r = and_parts (goes_along ds n h edges ends end edge a) (goes_along ds n h edges ends end edge b) g in
        and_from (goes_along ds n h edges ends end edge (expanded_in ds n true a)) (goes_along ds n h edges ends end edge (expanded_in ds n true b)) (expanded-goes end edge a r.0) (expanded-goes end edge b r.1)
    expanded-goes end edge (If k c a b) g =
        let u = end || told_of ds n (reads_through h.iterator) ends c in
        let v = edge || told_of ds n is_edge_read edges c in
        let r = and_parts (goes_along ds n h edges ends u v a) (goes_along ds n h edges ends u v b) g in
        and_from (goes_along ds n h edges ends u v (expanded_in ds n true a)) (goes_along ds n h edges ends u v (expanded_in ds n true b)) (expanded-goes u v a r.0) (expanded-goes u v b r.1)
    expanded-goes end edge (Combine k total r ts es) g = by (are_at_once ds n true ts)
      where
        by : (o : Bool) → goes_along ds n h edges ends end edge (if o then assignment_of k total r ts es else Combine k total r ts es) ≡ true
        by true = assigned-goes end edge k total r ts es g
        by false = g
    expanded-goes end edge s g = g

  pub loop-expanded : (h : Head) (test : Expr) (body : Stmt) → GoesAlong ds n h test body → GoesAlong ds n h test (expanded_in ds n true body)
  loop-expanded h test body g = record {
    edges = g.edges;
    ends = g.ends;
    edges_marked = expanded-marks is_edge_read g.edges (λ x. refl) false body g.edges_marked;
    ends_marked = expanded-marks (reads_through h.iterator) g.ends (λ x. refl) false body g.ends_marked;
    along = expanded-goes h g.edges g.ends (any (reads_through h.iterator) (mentions test)) (any is_edge_read (mentions test)) body g.along;
  }

-- ---- reductions that read no edge

-- an expression that reads none
abbrev pub Quiet : Expr → Type 0
Quiet e = any is_edge_read (mentions e) ≡ false

-- a reduction of such values, alone or under such a condition
abbrev pub QuietAll : List Expr → Type 0
QuietAll [] = Unit {0}
QuietAll (e ∷ es) = Quiet e × QuietAll es

abbrev pub QuietBody : Stmt → Type 0
QuietBody Skip = Unit {0}
QuietBody (Combine k total r ts es) = QuietAll es
QuietBody (If k c a b) = Quiet c × (QuietBody a × QuietBody b)
QuietBody s = false ≡ true

module _ (ds : List Declaration) (n : ℕ) where
  abbrev everyone : ℕ → Bool
  everyone x = true

  abbrev nobody : ℕ → Bool
  nobody x = false

  all-everyone : (xs : List ℕ) → list_all everyone xs ≡ true
  all-everyone [] = refl
  all-everyone (x ∷ xs) = all-everyone xs

  any-nobody : (xs : List ℕ) → list_any nobody xs ≡ false
  any-nobody [] = refl
  any-nobody (x ∷ xs) = any-nobody xs

  marked-by-all : (reads : Mention → Bool) (told : Bool) (xs : List ℕ) → are_marked ds n reads everyone told xs ≡ true
  marked-by-all reads told xs = or_right (not told) (list_all everyone xs) (all-everyone xs)

  all-marked : (reads : Mention → Bool) (told : Bool) (s : Stmt) → QuietBody s → marks ds n reads everyone told s ≡ true
  all-marked reads told Skip q = refl
  all-marked reads told (Combine k total r ts es) q = let xs = written_at_once ds n true ts in marked-by-all reads (told || (list_any everyone xs || list_any (told_of ds n reads everyone) es)) xs
  all-marked reads told (If k c a b) q =
      let t = told || told_of ds n reads everyone c in and_from (marks ds n reads everyone t a) (marks ds n reads everyone t b) (all-marked reads t a q.1.0) (all-marked reads t b q.1.1)
  all-marked reads told s q = absurd (both_ways false refl q)

  tells-edge : (m : Mention) → tells ds n is_edge_read nobody m ≡ is_edge_read m
  tells-edge (Alone x) = refl
  tells-edge (Through x) = refl
  tells-edge (OfEdge x at) = refl

  any-tells : (ms : List Mention) → any (tells ds n is_edge_read nobody) ms ≡ any is_edge_read ms
  any-tells [] = refl
  any-tells (m ∷ ms) = or-same (tells ds n is_edge_read nobody m) (any (tells ds n is_edge_read nobody) ms) (is_edge_read m) (any is_edge_read ms) (tells-edge m) (any-tells ms)

  told-nothing : (e : Expr) → Quiet e → told_of ds n is_edge_read nobody e ≡ false
  told-nothing e q = any-tells (mentions e) ∙ q

  none-told : (es : List Expr) → QuietAll es → list_any (told_of ds n is_edge_read nobody) es ≡ false
  none-told [] q = refl
  none-told (e ∷ es) q = or-same (told_of ds n is_edge_read nobody e) (list_any (told_of ds n is_edge_read nobody) es) false false (told-nothing e q.0) (none-told es q.1)

  owners-told : (ts : List Target) → any (tells ds n is_edge_read nobody) (flat_map owner_of ts) ≡ false
  owners-told [] = refl
  owners-told (T.Scalar x at ∷ ts) = owners-told ts
  owners-told (T.Property x p at ∷ ts) = owners-told ts

  none-marked : (s : Stmt) → QuietBody s → marks ds n is_edge_read nobody false s ≡ true
  none-marked Skip q = refl
  none-marked (Combine k total r ts es) q =
      let xs = written_at_once ds n true ts in
      ap (λ b. not b || list_all nobody xs) (or-same (list_any nobody xs) (list_any (told_of ds n is_edge_read nobody) es) false false (any-nobody xs) (none-told es q))
  none-marked (If k c a b) q =
      ap (λ t. marks ds n is_edge_read nobody t a && marks ds n is_edge_read nobody t b) (told-nothing c q.0) ∙ and_from (marks ds n is_edge_read nobody false a) (marks ds n is_edge_read nobody false b) (none-marked a q.1.0) (none-marked b q.1.1)
  none-marked s q = absurd (both_ways false refl q)

  module _ (h : Head) where
    quiet-goes : (end : Bool) (s : Stmt) → QuietBody s → goes_along ds n h nobody everyone end false s ≡ true
    quiet-goes end Skip q = refl
    quiet-goes end (Combine k total r ts es) q =
        let u = end || parts_tell ds n h nobody everyone (reads_through h.iterator) everyone ts es in
        ap (λ b. are_at_once ds n true ts || not (b && is_against h.domain (way_by h ts u b)))
        (or-same (any (tells ds n is_edge_read nobody) (flat_map owner_of ts)) (list_any (told_of ds n is_edge_read nobody) es) false false (owners-told ts) (none-told es q))
        ∙ or_right (are_at_once ds n true ts) true refl
    quiet-goes end (If k c a b) q =
        let u = end || told_of ds n (reads_through h.iterator) everyone c in
        ap (λ v. goes_along ds n h nobody everyone u v a && goes_along ds n h nobody everyone u v b) (told-nothing c q.0)
        ∙ and_from (goes_along ds n h nobody everyone u false a) (goes_along ds n h nobody everyone u false b) (quiet-goes u a q.1.0) (quiet-goes u b q.1.1)
    quiet-goes end s q = absurd (both_ways false refl q)

    pub loop-quiet : (test : Expr) (body : Stmt) → Quiet test → QuietBody body → GoesAlong ds n h test body
    loop-quiet test body t q = record {
      edges = nobody;
      ends = everyone;
      edges_marked = none-marked body q;
      ends_marked = all-marked (reads_through h.iterator) false body q;
      along = ap (λ b. goes_along ds n h nobody everyone (any (reads_through h.iterator) (mentions test)) b body) t ∙ quiet-goes (any (reads_through h.iterator) (mentions test)) body q;
    }
