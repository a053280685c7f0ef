-- Where nodes are read first, inner loops read along as before: such a node rests on nothing within them.
use Rattle.std.proofs.Common.{◌≡◌, ◌<◌, ◌≤◌, ◌+◌, arith, ℕ, Bool, true, false, cond, List, [], ◌∷◌, length, map, refl, sym, ap, ◌∙◌, Some, None, ⊎_elim}
use Rattle.std.specs.Prelude.{◌&&◌, ◌||◌, not, nat_eq, nat_lt, flat_map}
use Rattle.std.specs.List.{list_all, list_any}
use Rattle.std.proofs.lemmas.Bool.{both_ways, lt-ltb, eqb-true}
use Rattle.gm_base.specs.declared.places.Place.{Place}
use Rattle.gm_value.specs.declared.reductions.Reduce.{Reduce}
use Rattle.gm_ast.specs.Loops.{any}
use Rattle.gm_ast.specs.Ways
use Rattle.gm_ast.specs.Ways.{Mention, mentions, reads_through, is_edge_read, is_through, owner_of, way_by, is_against}
use Rattle.gm_ast.specs.declared.tree.Declaration.{Declaration}
use Rattle.gm_ast.specs.declared.tree.Head.{Head}
use Rattle.gm_ast.specs.declared.tree.Key.{Key}
use Rattle.gm_ast.specs.declared.tree.Target.{Target}
use Rattle.gm_ast.specs.declared.tree.Target.TheVariants as T
use Rattle.gm_ast.specs.declared.tree.TotalKey.{TotalKey}
use Rattle.gm_ast.specs.Program.{Expr, Var, Stmt, Then, Declare, Combine, Foreach, If, sequence}
use Rattle.gm_semantics.specs.Frames.{AllReadBelow, NamesBelow}
use Rattle.gm_semantics.specs.Statements.{variable_at}
use Rattle.gm_forms.specs.Sharing as Sharing
use Rattle.gm_forms.specs.Sharing.{are_at_once, are_alike, are_distinct, variables_of, written_at_once, targets_alike}
use Rattle.gm_forms.proofs.Named.{both-true}
use Rattle.gm_forms.proofs.Weaker.{and-true}
use Rattle.gm_parting.specs.Nodes.{is_body_local, through, read_first, one_if, nodes_in, nodes_read}
use Rattle.gm_one_way.specs.Along.{marks, are_marked, goes_along, stands, parts_tell, told_of, tells}
use Rattle.gm_one_way.proofs.Apart.{low, not-less}
use Rattle.gm_one_way.proofs.Longer.{told-same, all-told-same, marks-same, along-same}
use Rattle.gm_one_way.proofs.Silent.{or-cases}
use Rattle.gm_one_way.proofs.Slim.{or-less, stands-less}
use Rattle.gm_one_way.proofs.Ways.{way}

or-true : (b : Bool) → b || true ≡ true
or-true true = refl
or-true false = refl

either-not : (b : Bool) → not (b || false) || (b && true) ≡ true
either-not true = refl
either-not false = refl

-- ds: the table; deep: the first local of inner bodies
module _ (ds : List Declaration) (deep n : ℕ) (reads : Mention → Bool) (marked : ℕ → Bool) where
  -- whether the local of a node is set under a condition that tells. done: how many nodes are read before; told: whether a condition around does
  abbrev pub node_at : Bool → ℕ → Stmt → ℕ → Bool
  node_at told done (Then a b) x = cond (nat_lt x (deep + (done + nodes_in ds a))) (node_at told done a x) (node_at told (done + nodes_in ds a) b x)
  node_at told done (If k c a b) x =
      let f = told || told_of ds n reads marked c in cond (nat_lt x (deep + (done + nodes_in ds a))) (node_at f done a x) (node_at f (done + nodes_in ds a) b x)
  node_at told done (Combine k total r ts es) x = told
  node_at told done s x = false

-- ds: the table; dt: a longer one, with the same variables
module _ (ds dt : List Declaration) (same-row : (x : ℕ) → x < length ds → variable_at dt x ≡ variable_at ds x) (more : length ds ≤ length dt) (n deep : ℕ) (far : length ds ≤ deep) where
  module _ (reads : Mention → Bool) (alone : (x : ℕ) → reads (Ways.Alone x) ≡ false) (marked also : ℕ → Bool) (same : (x : ℕ) → x < length ds → also x ≡ marked x) (shallow : (x : ℕ) → is_body_local ds x ≡ true → marked x ≡ false) where
    abbrev pub Holds : Bool → ℕ → Stmt → Type 0
    Holds told done s = (x : ℕ) → deep + done ≤ x → x < deep + (done + nodes_in ds s) → also x ≡ node_at ds deep n reads marked told done s x

    abbrev at-node : Bool → ℕ → Stmt → ℕ → Bool
    at-node told done s x = node_at ds deep n reads marked told done s x

    holds-first : (told : Bool) (done : ℕ) (a b : Stmt) → Holds told done (Then a b) → Holds told done a
    holds-first told done a b h x l m = h x l (omega (arith, m)) ∙ ap (λ o. cond o (at-node told done a x) (at-node told (done + nodes_in ds a) b x)) (lt-ltb x (deep + (done + nodes_in ds a)) m)

    holds-second : (told : Bool) (done : ℕ) (a b : Stmt) → Holds told done (Then a b) → Holds told (done + nodes_in ds a) b
    holds-second told done a b h x l m = h x (omega (arith, l)) (omega (arith, m)) ∙ ap (λ o. cond o (at-node told done a x) (at-node told (done + nodes_in ds a) b x)) (not-less x (deep + (done + nodes_in ds a)) l)

    holds-yes : (told : Bool) (done : ℕ) (k : Key) (c : Expr) (a b : Stmt) → Holds told done (If k c a b) → Holds (told || told_of ds n reads marked c) done a
    holds-yes told done k c a b h x l m =
        let f = told || told_of ds n reads marked c in h x l (omega (arith, m)) ∙ ap (λ o. cond o (at-node f done a x) (at-node f (done + nodes_in ds a) b x)) (lt-ltb x (deep + (done + nodes_in ds a)) m)

    holds-no : (told : Bool) (done : ℕ) (k : Key) (c : Expr) (a b : Stmt) → Holds told done (If k c a b) → Holds (told || told_of ds n reads marked c) (done + nodes_in ds a) b
    holds-no told done k c a b h x l m =
        let f = told || told_of ds n reads marked c in h x (omega (arith, l)) (omega (arith, m)) ∙ ap (λ o. cond o (at-node f done a x) (at-node f (done + nodes_in ds a) b x)) (not-less x (deep + (done + nodes_in ds a)) l)

    -- the node of a reduction
    marks-node : (told : Bool) (y x : ℕ) (at : Place) (k : Key) (total : TotalKey) (r : Reduce) (p : ℕ) (here : Place) (ts : List Target) (es : List Expr) → x < length ds → is_body_local ds x ≡ true → also y ≡ told →
        marks dt n reads also told (sequence (Declare k y (Some (Var x at)) ∷ Combine k total r (map (through y) (T.Property x p here ∷ ts)) es ∷ [])) ≡ true
    marks-node told y x at k total r p here ts es low local e =
        let untold : told_of dt n reads also (Var x at) ≡ false = ap (λ b. (b || also x) || false) (alone x) ∙ ap (λ b. b || false) (same x low ∙ shallow x local) in
        let own : are_marked dt n reads also (told || told_of dt n reads also (Var x at)) (y ∷ []) ≡ true = ap (λ b. not (told || b) || (also y && true)) untold ∙ ap (λ b. not (told || false) || (b && true)) e ∙ either-not told in
        and-true (are_marked dt n reads also (told || told_of dt n reads also (Var x at)) (y ∷ [])) (are_marked dt n reads also (told || (false || list_any (told_of dt n reads also) es)) [] && true) own
        (and-true (are_marked dt n reads also (told || (false || list_any (told_of dt n reads also) es)) []) true (or-true (not (told || (false || list_any (told_of dt n reads also) es)))) refl)

    pub marks-read : (told : Bool) (done : ℕ) (s : Stmt) → NamesBelow (length ds) s → Holds told done s → marks ds n reads marked told s ≡ true → marks dt n reads also told (nodes_read ds false deep deep done s) ≡ true
    marks-read told done (Then a b) l h m =
        let r = both-true (marks ds n reads marked told a) (marks ds n reads marked told b) m in
        let d = done + nodes_in ds a in
        and-true (marks dt n reads also told (nodes_read ds false deep deep done a)) (marks dt n reads also told (nodes_read ds false deep deep d b)) (marks-read told done a l.0 (holds-first told done a b h) r.0) (marks-read told d b l.1 (holds-second told done a b h) r.1)
    marks-read told done (If k c a b) l h m =
        let f = told || told_of ds n reads marked c in
        let r = both-true (marks ds n reads marked f a) (marks ds n reads marked f b) m in
        let d = done + nodes_in ds a in
        let x = nodes_read ds false deep deep done a in
        let z = nodes_read ds false deep deep d b in
        ap (λ f. marks dt n reads also f x && marks dt n reads also f z) (ap (λ b. told || b) (told-same ds dt n reads marked also (length ds) same c l.0))
        ∙ and-true (marks dt n reads also f x) (marks dt n reads also f z) (marks-read f done a l.1 (holds-yes told done k c a b h) r.0) (marks-read f d b l.2 (holds-no told done k c a b h) r.1)
    marks-read told done (Combine k total r [] es) l h m = marks-same ds dt same-row more n reads marked also same told (Combine k total r [] es) l ∙ m
    marks-read told done (Combine k total r (T.Scalar x at ∷ ts) es) l h m = marks-same ds dt same-row more n reads marked also same told (Combine k total r (T.Scalar x at ∷ ts) es) l ∙ m
    marks-read told done (Combine k total r (T.Property x p at ∷ ts) es) l h m = by (is_body_local ds x) refl
      where
        by : (o : Bool) → is_body_local ds x ≡ o → marks dt n reads also told (read_first false (cond o (Some (Var x at)) None) (deep + done) k total r (T.Property x p at ∷ ts) es) ≡ true
        by true e =
            marks-node told (deep + done) x at k total r p at ts es l.0.0.0 e
            (h (deep + done) (omega arith) (let one : one_if (cond (is_body_local ds x) (Some (Var x at)) None) ≡ 1 = ap (λ o. one_if (cond o (Some (Var x at)) None)) e in omega (arith, one)))
        by false e = marks-same ds dt same-row more n reads marked also same told (Combine k total r (T.Property x p at ∷ ts) es) l ∙ m
    marks-read told done (Foreach k at hd test body) l h m = refl
    marks-read told done s l h m = marks-same ds dt same-row more n reads marked also same told s l ∙ m

    -- what the node of a reduction tells
    pub owners-told : (y : ℕ) (ts : List Target) → any (tells dt n reads also) (flat_map owner_of (map (through y) ts)) ≡ true → also y ≡ true
    owners-told y [] h = absurd (both_ways false refl h)
    owners-told y (T.Scalar x at ∷ ts) h = owners-told y ts h
    owners-told y (T.Property x p at ∷ ts) h =
        ⊎_elim (λ e. sym (ap (λ b. b || also y) (alone y)) ∙ e) (λ e. owners-told y ts e) (or-cases (reads (Ways.Alone y) || also y) (any (tells dt n reads also) (flat_map owner_of (map (through y) ts))) h)

  -- ---- ways

  through-none : (t y : ℕ) → nat_eq y t ≡ false → (ts : List Target) → any (is_through t) (map (through y) ts) ≡ false
  through-none t y o [] = refl
  through-none t y o (T.Scalar x at ∷ ts) = through-none t y o ts
  through-none t y o (T.Property x p at ∷ ts) = ap (λ b. b || any (is_through t) (map (through y) ts)) o ∙ through-none t y o ts

  all-none : (t x : ℕ) → nat_eq x t ≡ false → (ts : List Target) → list_all (Sharing.is_through x) ts ≡ true → any (is_through t) ts ≡ false
  all-none t x o [] h = refl
  all-none t x o (T.Scalar y at ∷ ts) h = absurd (both_ways false refl h)
  all-none t x o (T.Property y p at ∷ ts) h =
      let r = both-true (nat_eq y x) (list_all (Sharing.is_through x) ts) h in ap (λ b. b || any (is_through t) ts) (ap (λ z. nat_eq z t) (eqb-true y x r.0) ∙ o) ∙ all-none t x o ts r.1

  module _ (hd : Head) (edges ends edges' ends' : ℕ → Bool) (same-edges : (x : ℕ) → x < length ds → edges' x ≡ edges x) (same-ends : (x : ℕ) → x < length ds → ends' x ≡ ends x)
      (shallow-edges : (x : ℕ) → is_body_local ds x ≡ true → edges x ≡ false) (shallow-ends : (x : ℕ) → is_body_local ds x ≡ true → ends x ≡ false)
      (other : (x : ℕ) → is_body_local ds x ≡ true → nat_eq x hd.iterator ≡ false) (fresh : (y : ℕ) → length ds ≤ y → nat_eq y hd.iterator ≡ false) where
    abbrev goes : Bool → Bool → Stmt → Bool
    goes f e s = goes_along dt n hd edges' ends' f e s

    pub no-end : (x : ℕ) → reads_through hd.iterator (Ways.Alone x) ≡ false
    no-end x = refl

    pub no-edge : (x : ℕ) → is_edge_read (Ways.Alone x) ≡ false
    no-edge x = refl

    abbrev end-parts : List Target → List Expr → Bool
    end-parts ts es = parts_tell dt n hd edges' ends' (reads_through hd.iterator) ends' ts es

    abbrev edge-parts : List Target → List Expr → Bool
    edge-parts ts es = parts_tell dt n hd edges' ends' is_edge_read edges' ts es

    -- a part that tells around, or what is given
    tells-less : (f p own rest rest' own' : Bool) → (p ≡ true → f ≡ true) → (own' ≡ true → p ≡ true) → rest' ≡ rest → f || (own' || rest') ≡ true → f || (own || rest) ≡ true
    tells-less true p own rest rest' own' i j e h = refl
    tells-less false p own rest rest' true i j e h = absurd (both_ways false refl (i (j refl)))
    tells-less false p true rest rest' false i j e h = refl
    tells-less false p false rest rest' false i j e h = sym e ∙ h

    stands-read : (p q f e : Bool) (y x pr : ℕ) (at : Place) (ts : List Target) (es : List Expr) → length ds ≤ y → is_body_local ds x ≡ true → list_all (Sharing.is_through x) ts ≡ true → AllReadBelow (length ds) es → (p ≡ true → f ≡ true) → (q ≡ true → e ≡ true) → ends' y ≡ p → edges' y ≡ q →
        stands ds n hd edges ends (T.Property x pr at ∷ ts) (f || parts_tell ds n hd edges ends (reads_through hd.iterator) ends (T.Property x pr at ∷ ts) es) (e || parts_tell ds n hd edges ends is_edge_read edges (T.Property x pr at ∷ ts) es) ≡ true →
        stands dt n hd edges' ends' (map (through y) (T.Property x pr at ∷ ts)) (f || end-parts (map (through y) (T.Property x pr at ∷ ts)) es) (e || edge-parts (map (through y) (T.Property x pr at ∷ ts)) es) ≡ true
    stands-read p q f e y x pr at ts es far-y local thru low i j u v g =
        let all = T.Property x pr at ∷ ts in
        let us = map (through y) all in
        let thr : Mention → Bool = reads_through hd.iterator in
        let none = through-none hd.iterator y (fresh y far-y) all in
        let before : any (is_through hd.iterator) all ≡ false = ap (λ b. b || any (is_through hd.iterator) ts) (other x local) ∙ all-none hd.iterator x (other x local) ts thru in
        let w : Bool → Bool → Bool → Bool = λ b f e. not (e && is_against hd.domain (way hd.domain b f e)) in
        let f' = f || end-parts us es in
        let e' = e || edge-parts us es in
        ap (λ b. w b f' e') (none ∙ sym before)
        ∙ stands-less ds n hd edges ends edges' ends' all (f || parts_tell ds n hd edges ends thr ends all es) f' (e || parts_tell ds n hd edges ends is_edge_read edges all es) e'
        (tells-less f p (any (tells ds n thr ends) (flat_map owner_of all)) (list_any (told_of ds n thr ends) es) (list_any (told_of dt n thr ends') es) (any (tells dt n thr ends') (flat_map owner_of us)) i (λ o. sym u ∙ owners-told thr no-end ends ends' same-ends shallow-ends y all o) (all-told-same ds dt n thr ends ends' (length ds) same-ends es low))
        (tells-less e q (any (tells ds n is_edge_read edges) (flat_map owner_of all)) (list_any (told_of ds n is_edge_read edges) es) (list_any (told_of dt n is_edge_read edges') es) (any (tells dt n is_edge_read edges') (flat_map owner_of us)) j (λ o. sym v ∙ owners-told is_edge_read no-edge edges edges' same-edges shallow-edges y all o) (all-told-same ds dt n is_edge_read edges edges' (length ds) same-edges es low)) g

    abbrev HoldEnds : Bool → ℕ → Stmt → Type 0
    HoldEnds p done s = Holds (reads_through hd.iterator) no-end ends ends' same-ends shallow-ends p done s

    abbrev HoldEdges : Bool → ℕ → Stmt → Type 0
    HoldEdges q done s = Holds is_edge_read no-edge edges edges' same-edges shallow-edges q done s

    pub along-read : (p q f e : Bool) (done : ℕ) (s : Stmt) → NamesBelow (length ds) s → targets_alike s ≡ true → Holds (reads_through hd.iterator) no-end ends ends' same-ends shallow-ends p done s → Holds is_edge_read no-edge edges edges' same-edges shallow-edges q done s → (p ≡ true → f ≡ true) → (q ≡ true → e ≡ true) →
        goes_along ds n hd edges ends f e s ≡ true → goes_along dt n hd edges' ends' f e (nodes_read ds false deep deep done s) ≡ true
    along-read p q f e done (Then a b) l k u v i j g =
        let r = both-true (goes_along ds n hd edges ends f e a) (goes_along ds n hd edges ends f e b) g in
        let t = both-true (targets_alike a) (targets_alike b) k in
        let d = done + nodes_in ds a in
        and-true (goes f e (nodes_read ds false deep deep done a)) (goes f e (nodes_read ds false deep deep d b))
        (along-read p q f e done a l.0 t.0 (holds-first (reads_through hd.iterator) no-end ends ends' same-ends shallow-ends p done a b u) (holds-first is_edge_read no-edge edges edges' same-edges shallow-edges q done a b v) i j r.0)
        (along-read p q f e d b l.1 t.1 (holds-second (reads_through hd.iterator) no-end ends ends' same-ends shallow-ends p done a b u) (holds-second is_edge_read no-edge edges edges' same-edges shallow-edges q done a b v) i j r.1)
    along-read p q f e done (If key c a b) l k u v i j g =
        let tf = told_of ds n (reads_through hd.iterator) ends c in
        let te = told_of ds n is_edge_read edges c in
        let r = both-true (goes_along ds n hd edges ends (f || tf) (e || te) a) (goes_along ds n hd edges ends (f || tf) (e || te) b) g in
        let t = both-true (targets_alike a) (targets_alike b) k in
        let d = done + nodes_in ds a in
        let x = nodes_read ds false deep deep done a in
        let z = nodes_read ds false deep deep d b in
        let w : Bool → Bool → Bool = λ f e. goes f e x && goes f e z in
        ap (λ b. w (f || b) (e || told_of dt n is_edge_read edges' c)) (told-same ds dt n (reads_through hd.iterator) ends ends' (length ds) same-ends c l.0)
        ∙ ap (λ b. w (f || tf) (e || b)) (told-same ds dt n is_edge_read edges edges' (length ds) same-edges c l.0)
        ∙ and-true (goes (f || tf) (e || te) x) (goes (f || tf) (e || te) z)
        (along-read (p || tf) (q || te) (f || tf) (e || te) done a l.1 t.0 (holds-yes (reads_through hd.iterator) no-end ends ends' same-ends shallow-ends p done key c a b u) (holds-yes is_edge_read no-edge edges edges' same-edges shallow-edges q done key c a b v) (or-less p tf f tf i (λ o. o)) (or-less q te e te j (λ o. o)) r.0)
        (along-read (p || tf) (q || te) (f || tf) (e || te) d b l.2 t.1 (holds-no (reads_through hd.iterator) no-end ends ends' same-ends shallow-ends p done key c a b u) (holds-no is_edge_read no-edge edges edges' same-edges shallow-edges q done key c a b v) (or-less p tf f tf i (λ o. o)) (or-less q te e te j (λ o. o)) r.1)
    along-read p q f e done (Combine key total r [] es) l k u v i j g = along-same ds dt same-row more n hd edges ends edges' ends' same-edges same-ends f e (Combine key total r [] es) l ∙ g
    along-read p q f e done (Combine key total r (T.Scalar x at ∷ ts) es) l k u v i j g = along-same ds dt same-row more n hd edges ends edges' ends' same-edges same-ends f e (Combine key total r (T.Scalar x at ∷ ts) es) l ∙ g
    along-read p q f e done (Combine key total r (T.Property x pr at ∷ ts) es) l k u v i j g = by (is_body_local ds x) refl
      where
        alike : list_all (Sharing.is_through x) ts ≡ true
        alike = (both-true (list_all (Sharing.is_through x) ts) (are_distinct (variables_of (T.Property x pr at ∷ ts))) k).0

        by : (o : Bool) → is_body_local ds x ≡ o → goes_along dt n hd edges' ends' f e (read_first false (cond o (Some (Var x at)) None) (deep + done) key total r (T.Property x pr at ∷ ts) es) ≡ true
        by true o =
            let one : one_if (cond (is_body_local ds x) (Some (Var x at)) None) ≡ 1 = ap (λ o. one_if (cond o (Some (Var x at)) None)) o in
            let inside : deep + done < deep + (done + one_if (cond (is_body_local ds x) (Some (Var x at)) None)) = omega (arith, one) in
            let here : deep + done ≤ deep + done = omega arith in
            let us = map (through (deep + done)) (T.Property x pr at ∷ ts) in
            and-true (stands dt n hd edges' ends' us (f || end-parts us es) (e || edge-parts us es)) true
            (stands-read p q f e (deep + done) x pr at ts es (omega (arith, far)) o alike l.1 i j (u (deep + done) here inside) (v (deep + done) here inside) g) refl
        by false o = along-same ds dt same-row more n hd edges ends edges' ends' same-edges same-ends f e (Combine key total r (T.Property x pr at ∷ ts) es) l ∙ g
    along-read p q f e done (Foreach key at head test body) l k u v i j g = refl
    along-read p q f e done s l k u v i j g = along-same ds dt same-row more n hd edges ends edges' ends' same-edges same-ends f e s l ∙ g
