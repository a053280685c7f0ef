-- A desugared program has the form without searches when the pass is done with it.
use Rattle.std.proofs.Common.{◌≡◌, ◌<◌, ◌+◌, ℕ, zero, suc, Bool, true, false, cond, List, [], ◌∷◌, ◌++◌, length, map, refl, ap, ◌∙◌, Option, Some, None, arith}
use Rattle.std.specs.Prelude.{◌&&◌, ◌||◌, not, nat_eq, nat_lt, nat_le, option_map}
use Rattle.std.specs.List.{list_all}
use Rattle.std.proofs.lemmas.Bool.{both_ways}
use Rattle.gm_base.specs.declared.places.Place.{Place}
use Rattle.gm_value.specs.declared.reductions.Reduce.{Reduce}
use Rattle.gm_value.specs.declared.values.Value.TheVariants.{Flag}
use Rattle.gm_ast.specs.declared.tree.Declaration.{Declaration}
use Rattle.gm_ast.specs.declared.tree.Domain.{Domain}
use Rattle.gm_ast.specs.declared.tree.Domain.TheVariants.{Nodes, OutNbrs, InNbrs, UpNbrs, DownNbrs}
use Rattle.gm_ast.specs.declared.tree.Head.{Head}
use Rattle.gm_ast.specs.declared.tree.Key.{Key}
use Rattle.gm_ast.specs.declared.tree.Target.{Target}
use Rattle.gm_ast.specs.declared.tree.Target.TheVariants as T
use Rattle.gm_ast.specs.declared.tree.Variable.{Variable}
use Rattle.gm_ast.specs.Loops.{is_nodes}
use Rattle.gm_ast.specs.Program.{Expr, always, Const, Var, Property, EdgeProperty, Degree, NodeCount, EdgeCount, Live, Unary, Binary, Both, Either, Choose, Folded, Stmt, Skip, Then, Declare, DeclareEdge, Assign, Defer, Combine, Group, Foreach, For, If, While, Do, InBfs, InBfsBoth, Return, Program, sequence}
use Rattle.gm_semantics.specs.Frames.{TargetBelow, TargetsBelow, NamesBelow}
use Rattle.gm_semantics.specs.Statements.{variable_at}
use Rattle.gm_forms.specs.Forms.{depth_at, may, is_flat, is_told, is_set, is_range, is_within, are_reduced, is_own, is_given, is_inner_local, is_inner_given, is_inner_body, is_inner_head, is_outer_body, is_flat_loop, no_loop, is_plain, is_phase, is_desugared, is_levelled}
use Rattle.gm_forms.specs.Typing.{keeps_tuples}
use Rattle.gm_forms.specs.Uses.{is_named, suits, uses_of}
use Rattle.gm_forms.proofs.Named.{both-true, names-below}
use Rattle.gm_forms.proofs.Weaker.{and-true}
use Rattle.gm_bfs.specs.declared.fresh.Fresh.{Fresh}
use Rattle.gm_bfs.specs.declared.fresh.Site.{Site}
use Rattle.gm_bfs.specs.Variables.{fresh_from, fresh_declarations, copy_declaration, with_fresh}
use Rattle.gm_bfs.specs.Copies.{asks_up, asks_down, copied, reading, inner_reading}
use Rattle.gm_bfs.specs.Searches.{is_always, conjunction, is_on, ranged, inner_loop, by_levels, is_idle, is_safe, visit, set, at_node, scalar, first_levels, begin, next_level, level_before, activate, reach, look, copies_from, unless_empty, copy, number, where_asked, first_where, forward, back_turn, backward, site_of}
use Rattle.gm_bfs.specs.Levelled.{searches_out, has_search, levelled}

-- the variables of a table, and those behind it
pub variable-before : (ds xs : List Declaration) (x : ℕ) → x < length ds → variable_at (ds ++ xs) x ≡ variable_at ds x
variable-before [] xs x b = absurd (omega arith)
variable-before (d ∷ ds) xs zero b = refl
variable-before (d ∷ ds) xs (suc x) b = variable-before ds xs x (omega arith)

pub variable-behind : (ds xs : List Declaration) (i : ℕ) → variable_at (ds ++ xs) (length ds + i) ≡ variable_at xs i
variable-behind [] xs i = let same : 0 + i ≡ i = omega arith in ap (variable_at xs) same
variable-behind (d ∷ ds) xs i =
    let next : length (d ∷ ds) + i ≡ suc (length ds + i) = omega arith in
    ap (variable_at ((d ∷ ds) ++ xs)) next ∙ variable-behind ds xs i

two-same : (a a' b b' : Bool) → a ≡ a' → b ≡ b' → a && b ≡ a' && b'
two-same a a' b b' p q = ap (λ x. x && b) p ∙ ap (λ x. a' && x) q

three-same : (a a' b b' c c' : Bool) → a ≡ a' → b ≡ b' → c ≡ c' → a && (b && c) ≡ a' && (b' && c')
three-same a a' b b' c c' p q r = two-same a a' (b && c) (b' && c') p (two-same b b' c c' q r)

self-eq : (n : ℕ) → nat_eq n n ≡ true
self-eq n = grind (arith)

-- reading copies changes no form
module _ (f : Fresh) (marks : List Bool) (w : ℕ) (its : List ℕ) (edge : Bool) where
  flat-reading : (e : Expr) → is_flat its edge (reading f marks w e) ≡ is_flat its edge e
  flat-reading (Const v) = refl
  flat-reading (Var x at) = refl
  flat-reading (Property x p at) = refl
  flat-reading (EdgeProperty x p at) = refl
  flat-reading (Degree d x at) = refl
  flat-reading NodeCount = refl
  flat-reading EdgeCount = refl
  flat-reading (Live x at) = refl
  flat-reading (Unary op at e) = flat-reading e
  flat-reading (Binary op at a b) = two-same (is_flat its edge (reading f marks w a)) (is_flat its edge a) (is_flat its edge (reading f marks w b)) (is_flat its edge b) (flat-reading a) (flat-reading b)
  flat-reading (Both a b) = two-same (is_flat its edge (reading f marks w a)) (is_flat its edge a) (is_flat its edge (reading f marks w b)) (is_flat its edge b) (flat-reading a) (flat-reading b)
  flat-reading (Either a b) = two-same (is_flat its edge (reading f marks w a)) (is_flat its edge a) (is_flat its edge (reading f marks w b)) (is_flat its edge b) (flat-reading a) (flat-reading b)
  flat-reading (Choose c a b) = three-same (is_flat its edge (reading f marks w c)) (is_flat its edge c) (is_flat its edge (reading f marks w a)) (is_flat its edge a) (is_flat its edge (reading f marks w b)) (is_flat its edge b) (flat-reading c) (flat-reading a) (flat-reading b)
  flat-reading (Folded g h test e) = refl

  flat-option : (e : Option Expr) → may (is_flat its edge) (option_map (reading f marks w) e) ≡ may (is_flat its edge) e
  flat-option None = refl
  flat-option (Some e) = flat-reading e

  flat-all : (es : List Expr) → list_all (is_flat its edge) (map (reading f marks w) es) ≡ list_all (is_flat its edge) es
  flat-all [] = refl
  flat-all (e ∷ es) = two-same (is_flat its edge (reading f marks w e)) (is_flat its edge e) (list_all (is_flat its edge) (map (reading f marks w) es)) (list_all (is_flat its edge) es) (flat-reading e) (flat-all es)

-- a conjunction is flat where both conditions are
pub flat-conjunction : (its : List ℕ) (edge : Bool) (a b : Expr) → is_flat its edge a ≡ true → is_flat its edge b ≡ true → is_flat its edge (conjunction a b) ≡ true
flat-conjunction its edge a b p q = by (is_always b)
  where
    by : (c : Bool) → is_flat its edge (cond c a (Both a b)) ≡ true
    by true = p
    by false = and-true (is_flat its edge a) (is_flat its edge b) p q

module _ (ds es : List Declaration) (k : ℕ) (same : (x : ℕ) → x < k → variable_at es x ≡ variable_at ds x) where
  depth-same : (x : ℕ) → x < k → depth_at es x ≡ depth_at ds x
  depth-same x b = ap (λ (v : Variable). v.depth) (same x b)

  targets-same : (f g : Target → Bool) → ((t : Target) → TargetBelow k t → f t ≡ g t) → (ts : List Target) → TargetsBelow k ts → list_all f ts ≡ list_all g ts
  targets-same f g each [] b = refl
  targets-same f g each (t ∷ ts) b = two-same (f t) (g t) (list_all f ts) (list_all g ts) (each t b.0) (targets-same f g each ts b.1)

  within-same : (d : ℕ) (t : Target) → TargetBelow k t → is_within es d t ≡ is_within ds d t
  within-same d (T.Scalar x at) b = ap (λ z. nat_le z d) (depth-same x b)
  within-same d (T.Property x p at) b = refl

  given-same : (n : ℕ) (t : Target) → TargetBelow k t → is_given es n t ≡ is_given ds n t
  given-same n (T.Scalar x at) b = ap (λ z. nat_eq z 0) (depth-same x b)
  given-same n (T.Property x p at) b = refl

  own-same : (n : ℕ) (t : Target) → TargetBelow k t → is_own es n t ≡ is_own ds n t
  own-same n (T.Scalar x at) b = ap (λ z. nat_eq z 1) (depth-same x b)
  own-same n (T.Property x p at) b = refl

  inner-given-same : (t : Target) → TargetBelow k t → is_inner_given es t ≡ is_inner_given ds t
  inner-given-same (T.Scalar x at) b = ap (λ z. nat_lt z 2) (depth-same x b)
  inner-given-same (T.Property x p at) b = refl

  inner-local-same : (t : Target) → TargetBelow k t → is_inner_local es t ≡ is_inner_local ds t
  inner-local-same (T.Scalar x at) b = ap (λ z. nat_eq z 2) (depth-same x b)
  inner-local-same (T.Property x p at) b = refl

  plain-same : (t : Target) → TargetBelow k t → is_plain es t ≡ is_plain ds t
  plain-same (T.Scalar x at) b = ap (λ z. nat_eq z 0) (depth-same x b)
  plain-same (T.Property x p at) b = refl

  reduced-same : (f f' g g' : Target → Bool) → ((t : Target) → TargetBelow k t → f t ≡ f' t) → ((t : Target) → TargetBelow k t → g t ≡ g' t) → (r : Reduce) (ts : List Target) → TargetsBelow k ts → are_reduced f g r ts ≡ are_reduced f' g' r ts
  reduced-same f f' g g' p q r ts b =
      ap (λ z. z || (keeps_tuples r && list_all g ts)) (targets-same f f' p ts b)
      ∙ ap (λ z. list_all f' ts || (keeps_tuples r && z)) (targets-same g g' q ts b)

  -- a body under the longer table
  inner-longer : (its : List ℕ) (edge : Bool) (s : Stmt) → NamesBelow k s → is_inner_body es its edge s ≡ is_inner_body ds its edge s
  inner-longer its edge (Then a b) h = two-same (is_inner_body es its edge a) (is_inner_body ds its edge a) (is_inner_body es its edge b) (is_inner_body ds its edge b) (inner-longer its edge a h.0) (inner-longer its edge b h.1)
  inner-longer its edge (Declare key x e) h = ap (λ z. nat_eq z 2 && may (is_flat its edge) e) (depth-same x h.0)
  inner-longer its edge (Assign key t e) h = ap (λ z. z && is_flat its edge e) (inner-local-same t h.0)
  inner-longer its edge (Combine key total r ts vs) h = ap (λ z. z && list_all (is_flat its edge) vs) (reduced-same (is_inner_given es) (is_inner_given ds) (is_within es 2) (is_within ds 2) inner-given-same (within-same 2) r ts h.0)
  inner-longer its edge (If key c a b) h = ap (λ z. is_flat its edge c && z) (two-same (is_inner_body es its edge a) (is_inner_body ds its edge a) (is_inner_body es its edge b) (is_inner_body ds its edge b) (inner-longer its edge a h.1) (inner-longer its edge b h.2))
  inner-longer its edge s h = refl

  outer-longer : (n : ℕ) (s : Stmt) → NamesBelow k s → is_outer_body es false n s ≡ is_outer_body ds false n s
  outer-longer n (Then a b) h = two-same (is_outer_body es false n a) (is_outer_body ds false n a) (is_outer_body es false n b) (is_outer_body ds false n b) (outer-longer n a h.0) (outer-longer n b h.1)
  outer-longer n (Declare key x e) h = ap (λ z. nat_eq z 1 && may (is_flat (n ∷ []) false) e) (depth-same x h.0)
  outer-longer n (Assign key t e) h = ap (λ z. z && is_flat (n ∷ []) false e) (own-same n t h.0)
  outer-longer n (Defer key (T.Scalar x at) e) h = refl
  outer-longer n (Defer key (T.Property x p at) e) h = refl
  outer-longer n (Combine key total r ts vs) h = ap (λ z. z && list_all (is_flat (n ∷ []) false) vs) (reduced-same (is_given es n) (is_given ds n) (is_within es 1) (is_within ds 1) (given-same n) (within-same 1) r ts h.0)
  outer-longer n (If key c a b) h = ap (λ z. is_flat (n ∷ []) false c && z) (two-same (is_outer_body es false n a) (is_outer_body ds false n a) (is_outer_body es false n b) (is_outer_body ds false n b) (outer-longer n a h.1) (outer-longer n b h.2))
  outer-longer n (Foreach key at hd test body) h = ap (λ z. is_inner_head false n hd && (is_flat (n ∷ hd.iterator ∷ []) true test && z)) (inner-longer (n ∷ hd.iterator ∷ []) true body h.3)
  outer-longer n s h = refl

  -- the parts of a search
  module _ (f : Fresh) (marks : List Bool) where
    inner-through : (w : ℕ) (its : List ℕ) (edge : Bool) (s : Stmt) → NamesBelow k s → is_inner_body es its edge (inner_reading f marks w s) ≡ is_inner_body ds its edge s
    inner-through w its edge (Then a b) h = two-same (is_inner_body es its edge (inner_reading f marks w a)) (is_inner_body ds its edge a) (is_inner_body es its edge (inner_reading f marks w b)) (is_inner_body ds its edge b) (inner-through w its edge a h.0) (inner-through w its edge b h.1)
    inner-through w its edge (Declare key x e) h = two-same (nat_eq (depth_at es x) 2) (nat_eq (depth_at ds x) 2) (may (is_flat its edge) (option_map (reading f marks w) e)) (may (is_flat its edge) e) (ap (λ z. nat_eq z 2) (depth-same x h.0)) (flat-option f marks w its edge e)
    inner-through w its edge (Assign key t e) h = two-same (is_inner_local es t) (is_inner_local ds t) (is_flat its edge (reading f marks w e)) (is_flat its edge e) (inner-local-same t h.0) (flat-reading f marks w its edge e)
    inner-through w its edge (Combine key total r ts vs) h =
        two-same (are_reduced (is_inner_given es) (is_within es 2) r ts) (are_reduced (is_inner_given ds) (is_within ds 2) r ts) (list_all (is_flat its edge) (map (reading f marks w) vs)) (list_all (is_flat its edge) vs)
        (reduced-same (is_inner_given es) (is_inner_given ds) (is_within es 2) (is_within ds 2) inner-given-same (within-same 2) r ts h.0) (flat-all f marks w its edge vs)
    inner-through w its edge (If key c a b) h =
        three-same (is_flat its edge (reading f marks w c)) (is_flat its edge c) (is_inner_body es its edge (inner_reading f marks w a)) (is_inner_body ds its edge a) (is_inner_body es its edge (inner_reading f marks w b)) (is_inner_body ds its edge b)
        (flat-reading f marks w its edge c) (inner-through w its edge a h.1) (inner-through w its edge b h.2)
    inner-through w its edge s h = inner-longer its edge s h

    -- the condition that a neighbour is on a level
    flat-is_on : (n : ℕ) (hd : Head) (x : ℕ) → is_flat (n ∷ hd.iterator ∷ []) true (is_on f hd x) ≡ true
    flat-is_on n hd x = by (nat_eq hd.iterator n)
      where
        by : (b : Bool) → (b || (nat_eq hd.iterator hd.iterator || false)) && true ≡ true
        by true = refl
        by false = ap (λ z. (z || false) && true) (self-eq hd.iterator)

    ranged-form : (n x : ℕ) (key : Key) (at : Place) (hd : Head) (test : Expr) (body : Stmt) (domain : Domain) → is_range false domain ≡ true → NamesBelow k body
        → (nat_eq hd.owner n && not (nat_eq hd.iterator n)) && (is_flat (n ∷ hd.iterator ∷ []) true test && is_inner_body ds (n ∷ hd.iterator ∷ []) true body) ≡ true
        → is_outer_body es false n (ranged f marks key at hd test body domain x) ≡ true
    ranged-form n x key at hd test body domain range below h =
        let its : List ℕ = n ∷ hd.iterator ∷ [] in
        let head : Bool = nat_eq hd.owner n && not (nat_eq hd.iterator n) in
        let q = both-true head (is_flat its true test && is_inner_body ds its true body) h in
        let r = both-true (is_flat its true test) (is_inner_body ds its true body) q.1 in
        and-true (is_range false domain && head) (is_flat its true (conjunction (is_on f hd x) (reading f marks hd.iterator test)) && is_inner_body es its true (inner_reading f marks hd.iterator body))
        (and-true (is_range false domain) head range q.0)
        (and-true (is_flat its true (conjunction (is_on f hd x) (reading f marks hd.iterator test))) (is_inner_body es its true (inner_reading f marks hd.iterator body))
        (flat-conjunction its true (is_on f hd x) (reading f marks hd.iterator test) (flat-is_on n hd x) (flat-reading f marks hd.iterator its true test ∙ r.0))
        (inner-through hd.iterator its true body below ∙ r.1))

    outer-through : (n : ℕ) (s : Stmt) → NamesBelow k s → is_outer_body ds true n s ≡ true → is_outer_body es false n (by_levels f marks s) ≡ true
    outer-through n (Then a b) below h =
        let q = both-true (is_outer_body ds true n a) (is_outer_body ds true n b) h in
        and-true (is_outer_body es false n (by_levels f marks a)) (is_outer_body es false n (by_levels f marks b)) (outer-through n a below.0 q.0) (outer-through n b below.1 q.1)
    outer-through n (If key c a b) below h =
        let q = both-true (is_flat (n ∷ []) false c) (is_outer_body ds true n a && is_outer_body ds true n b) h in
        let r = both-true (is_outer_body ds true n a) (is_outer_body ds true n b) q.1 in
        and-true (is_flat (n ∷ []) false c) (is_outer_body es false n (by_levels f marks a) && is_outer_body es false n (by_levels f marks b)) q.0
        (and-true (is_outer_body es false n (by_levels f marks a)) (is_outer_body es false n (by_levels f marks b)) (outer-through n a below.1 r.0) (outer-through n b below.2 r.1))
    outer-through n (Foreach key at hd test body) below h = by hd.domain refl h
      where
        by : (d : Domain) → hd.domain ≡ d → (is_range true d && (nat_eq hd.owner n && not (nat_eq hd.iterator n))) && (is_flat (n ∷ hd.iterator ∷ []) true test && is_inner_body ds (n ∷ hd.iterator ∷ []) true body) ≡ true
            → is_outer_body es false n (inner_loop f marks key at hd test body d) ≡ true
        by Nodes is h = absurd (both_ways false refl h)
        by OutNbrs is h = outer-longer n (Foreach key at hd test body) below ∙ ap (λ d. (is_range false d && (nat_eq hd.owner n && not (nat_eq hd.iterator n))) && (is_flat (n ∷ hd.iterator ∷ []) true test && is_inner_body ds (n ∷ hd.iterator ∷ []) true body)) is ∙ h
        by InNbrs is h = outer-longer n (Foreach key at hd test body) below ∙ ap (λ d. (is_range false d && (nat_eq hd.owner n && not (nat_eq hd.iterator n))) && (is_flat (n ∷ hd.iterator ∷ []) true test && is_inner_body ds (n ∷ hd.iterator ∷ []) true body)) is ∙ h
        by UpNbrs is h = ranged-form n f.up key at hd test body InNbrs refl below.3 h
        by DownNbrs is h = ranged-form n f.down key at hd test body OutNbrs refl below.3 h
    outer-through n s below h = outer-longer n s below ∙ h

  -- what a sequential phase is to be
  abbrev Phase : Stmt → Type 0
  Phase s = is_phase (is_flat_loop es false) no_loop es s ≡ true

  phase-then : (a b : Stmt) → Phase a → Phase b → Phase (Then a b)
  phase-then a b p q = and-true (is_phase (is_flat_loop es false) no_loop es a) (is_phase (is_flat_loop es false) no_loop es b) p q

  phase-last : (a : Stmt) → Phase a → Phase (Then a Skip)
  phase-last a p = phase-then a Skip p refl

  phase-where : (b : Bool) (a : Stmt) → Phase a → Phase (where_asked b a)
  phase-where true a p = p
  phase-where false a p = refl

  phase-first : (b : Bool) (a c : Stmt) → Phase a → Phase c → Phase (first_where b a c)
  phase-first true a c p q = phase-then a (Then c Skip) p (phase-last c q)
  phase-first false a c p q = phase-then c (Then a Skip) q (phase-last a p)

  phase-empty : (s : Site) (f : Fresh) (cs : List Stmt) → is_outer_body es false f.node (sequence cs) ≡ true → Phase (unless_empty s f cs)
  phase-empty s f [] h = refl
  phase-empty s f (c ∷ cs) h = h

  -- the fresh variables that the loops write are scalars of the procedure, and the iterators differ
  module _ (f : Fresh) (root : depth_at es f.root ≡ 0) (current : depth_at es f.current ≡ 0) (up : depth_at es f.up ≡ 0) (down : depth_at es f.down ≡ 0) (more : depth_at es f.more ≡ 0) (found : depth_at es f.found ≡ 0) (apart : nat_eq f.neighbour f.node ≡ false) where
    phase-set : (s : Site) (x : ℕ) (e : Expr) → depth_at es x ≡ 0 → is_set e ≡ true → Phase (set s x e)
    phase-set s x e d h = and-true (nat_eq (depth_at es x) 0) (is_set e) (ap (λ z. nat_eq z 0) d) h

    phase-first_levels : (s : Site) → Phase (first_levels s f)
    phase-first_levels s = ap (λ z. z && true) (self-eq f.node)

    phase-begin : (s : Site) (key : Key) (r : ℕ) → Phase (begin s f key r)
    phase-begin s key r =
        phase-then (Assign key (T.Scalar f.root s.place) (Live r s.place)) (sequence (first_levels s f ∷ set s f.current (number 0) ∷ set s f.more always ∷ []))
        (and-true (nat_eq (depth_at es f.root) 0) true (ap (λ z. nat_eq z 0) root) refl)
        (phase-then (first_levels s f) (sequence (set s f.current (number 0) ∷ set s f.more always ∷ [])) (phase-first_levels s)
        (phase-then (set s f.current (number 0)) (sequence (set s f.more always ∷ [])) (phase-set s f.current (number 0) current refl)
        (phase-last (set s f.more always) (phase-set s f.more always more refl))))

    phase-next : (s : Site) → Phase (next_level s f)
    phase-next s = and-true (nat_eq (depth_at es f.down) 0) true (ap (λ z. nat_eq z 0) down) refl

    phase-before : (s : Site) (x : ℕ) → depth_at es x ≡ 0 → Phase (level_before s f x)
    phase-before s x d = and-true (nat_eq (depth_at es x) 0) true (ap (λ z. nat_eq z 0) d) refl

    phase-activate : (s : Site) → Phase (activate s f)
    phase-activate s = ap (λ z. z && ((z || false) && true)) (self-eq f.node)

    phase-reach : (s : Site) → Phase (reach s f)
    phase-reach s = ap (λ z. (z || false) && ((z && not (nat_eq f.neighbour f.node)) && true)) (self-eq f.node) ∙ ap (λ z. not z && true) apart

    phase-look : (s : Site) → Phase (look s f)
    phase-look s =
        ap (λ d. ((nat_eq d 0 && true) || false) && (((nat_eq f.node f.node || false) && true) && true)) found
        ∙ ap (λ z. ((z || false) && true) && true) (self-eq f.node)

    outer-copies : (s : Site) (p : ℕ) (marks : List Bool) → is_outer_body es false f.node (sequence (copies_from s f p marks)) ≡ true
    outer-copies s p [] = refl
    outer-copies s p (true ∷ marks) =
        and-true (nat_eq f.node f.node && (nat_eq f.node f.node || false)) (is_outer_body es false f.node (sequence (copies_from s f (suc p) marks)))
        (ap (λ z. z && (z || false)) (self-eq f.node)) (outer-copies s (suc p) marks)
    outer-copies s p (false ∷ marks) = outer-copies s (suc p) marks

    phase-copy : (s : Site) (marks : List Bool) → Phase (copy s f marks)
    phase-copy s marks = phase-empty s f (copies_from s f 0 marks) (outer-copies s 0 marks)

    phase-visit : (s : Site) (marks : List Bool) (key : Key) (x : ℕ) (test : Expr) (body : Stmt) → NamesBelow k body → is_flat_loop ds true x test body ≡ true → Phase (visit s f marks key x test body)
    phase-visit s marks key x test body below h = by (is_idle body && is_safe x test)
      where
        by : (b : Bool) → Phase (cond b Skip (Foreach key s.place (record { iterator = x; domain = Nodes; owner = s.graph; place = s.place }) (conjunction (at_node s x f.active) test) (by_levels f marks body)))
        by true = refl
        by false =
            let q = both-true (is_flat (x ∷ []) false test) (is_outer_body ds true x body) h in
            and-true (is_flat (x ∷ []) false (conjunction (at_node s x f.active) test)) (is_outer_body es false x (by_levels f marks body))
            (flat-conjunction (x ∷ []) false (at_node s x f.active) test (ap (λ z. z || false) (self-eq x)) q.0) (outer-through f marks x body below q.1)

    phase-forward : (s : Site) (count : ℕ) (key : Key) (x : ℕ) (test : Expr) (body : Stmt) → NamesBelow k body → is_flat_loop ds true x test body ≡ true → Phase (forward s f count key x test body)
    phase-forward s count key x test body below h =
        let marks : List Bool = copied count body in
        let visits : Stmt = visit s f marks key x test body in
        let last : List Stmt = set s f.current (scalar s f.down) ∷ [] in
        let fourth : List Stmt = set s f.more (scalar s f.found) ∷ last in
        let third : List Stmt = look s f ∷ fourth in
        let second : List Stmt = first_where (asks_down body) (reach s f) visits ∷ third in
        let copies : List Stmt = copy s f marks ∷ second in
        let active : List Stmt = activate s f ∷ copies in
        let none : List Stmt = set s f.found (Const (Flag false)) ∷ active in
        let ups : List Stmt = where_asked (asks_up body) (level_before s f f.up) ∷ none in
        phase-then (next_level s f) (sequence ups) (phase-next s)
        (phase-then (where_asked (asks_up body) (level_before s f f.up)) (sequence none) (phase-where (asks_up body) (level_before s f f.up) (phase-before s f.up up))
        (phase-then (set s f.found (Const (Flag false))) (sequence active) (phase-set s f.found (Const (Flag false)) found refl)
        (phase-then (activate s f) (sequence copies) (phase-activate s)
        (phase-then (copy s f marks) (sequence second) (phase-copy s marks)
        (phase-then (first_where (asks_down body) (reach s f) visits) (sequence third) (phase-first (asks_down body) (reach s f) visits (phase-reach s) (phase-visit s marks key x test body below h))
        (phase-then (look s f) (sequence fourth) (phase-look s)
        (phase-then (set s f.more (scalar s f.found)) (sequence last) (phase-set s f.more (scalar s f.found) more refl)
        (phase-last (set s f.current (scalar s f.down)) (phase-set s f.current (scalar s f.down) current refl)))))))))

    phase-backward : (s : Site) (count : ℕ) (key : Key) (x : ℕ) (test : Expr) (body : Stmt) → NamesBelow k body → is_flat_loop ds true x test body ≡ true → Phase (backward s f count key x test body)
    phase-backward s count key x test body below h =
        let marks : List Bool = copied count body in
        let visits : Stmt = visit s f marks key x test body in
        let last : List Stmt = level_before s f f.current ∷ [] in
        let third : List Stmt = visits ∷ last in
        let copies : List Stmt = copy s f marks ∷ third in
        let active : List Stmt = activate s f ∷ copies in
        let ups : List Stmt = where_asked (asks_up body) (level_before s f f.up) ∷ active in
        let turn : Phase (back_turn s f count key x test body) =
        phase-then (where_asked (asks_down body) (next_level s f)) (sequence ups) (phase-where (asks_down body) (next_level s f) (phase-next s))
        (phase-then (where_asked (asks_up body) (level_before s f f.up)) (sequence active) (phase-where (asks_up body) (level_before s f f.up) (phase-before s f.up up))
        (phase-then (activate s f) (sequence copies) (phase-activate s)
        (phase-then (copy s f marks) (sequence third) (phase-copy s marks)
        (phase-then visits (sequence last) (phase-visit s marks key x test body below h)
        (phase-last (level_before s f f.current) (phase-before s f.current current)))))) in
        and-true (is_phase (is_flat_loop es false) no_loop es (level_before s f f.current)) (is_phase (is_flat_loop es false) no_loop es (back_turn s f count key x test body) && true) (phase-before s f.current current)
        (and-true (is_phase (is_flat_loop es false) no_loop es (back_turn s f count key x test body)) true turn refl)

    -- a whole phase
    phase-form : (count : ℕ) (s : Stmt) → NamesBelow k s → is_phase (is_flat_loop ds false) (is_flat_loop ds true) ds s ≡ true → Phase (searches_out f count s)
    phase-form count Skip below h = refl
    phase-form count (Then a b) below h =
        let q = both-true (is_phase (is_flat_loop ds false) (is_flat_loop ds true) ds a) (is_phase (is_flat_loop ds false) (is_flat_loop ds true) ds b) h in
        phase-then (searches_out f count a) (searches_out f count b) (phase-form count a below.0 q.0) (phase-form count b below.1 q.1)
    phase-form count (Declare key x None) below h = ap (λ z. nat_eq z 0) (depth-same x below.0) ∙ h
    phase-form count (Declare key x (Some e)) below h = ap (λ z. nat_eq z 0 && is_set e) (depth-same x below.0) ∙ h
    phase-form count (DeclareEdge x y at) below h = h
    phase-form count (Assign key (T.Scalar x at) e) below h = ap (λ z. nat_eq z 0 && is_set e) (depth-same x below.0) ∙ h
    phase-form count (Assign key (T.Property x p at) e) below h = h
    phase-form count (Defer key t e) below h = h
    phase-form count (Combine key total r ts vs) below h = ap (λ z. keeps_tuples r && (z && list_all is_told vs)) (targets-same (is_plain es) (is_plain ds) plain-same ts below.0) ∙ h
    phase-form count (Group key at g p e) below h = h
    phase-form count (Foreach key at hd test body) below h = ap (λ z. is_nodes hd.domain && (is_flat (hd.iterator ∷ []) false test && z)) (outer-longer hd.iterator body below.3) ∙ h
    phase-form count (For key at hd test body) below h =
        let q = both-true (is_told test) (is_phase (is_flat_loop ds false) (is_flat_loop ds true) ds body) h in
        and-true (is_told test) (is_phase (is_flat_loop es false) no_loop es (searches_out f count body)) q.0 (phase-form count body below.3 q.1)
    phase-form count (If key c a b) below h =
        let q = both-true (is_told c) (is_phase (is_flat_loop ds false) (is_flat_loop ds true) ds a && is_phase (is_flat_loop ds false) (is_flat_loop ds true) ds b) h in
        let r = both-true (is_phase (is_flat_loop ds false) (is_flat_loop ds true) ds a) (is_phase (is_flat_loop ds false) (is_flat_loop ds true) ds b) q.1 in
        and-true (is_told c) (is_phase (is_flat_loop es false) no_loop es (searches_out f count a) && is_phase (is_flat_loop es false) no_loop es (searches_out f count b)) q.0
        (phase-then (searches_out f count a) (searches_out f count b) (phase-form count a below.1 r.0) (phase-form count b below.2 r.1))
    phase-form count (While key at c body) below h =
        let q = both-true (is_told c) (is_phase (is_flat_loop ds false) (is_flat_loop ds true) ds body) h in
        and-true (is_told c) (is_phase (is_flat_loop es false) no_loop es (searches_out f count body)) q.0 (phase-form count body below.1 q.1)
    phase-form count (Do key at body c) below h =
        let q = both-true (is_phase (is_flat_loop ds false) (is_flat_loop ds true) ds body) (is_told c) h in
        and-true (is_phase (is_flat_loop es false) no_loop es (searches_out f count body)) (is_told c) (phase-form count body below.0 q.0) q.1
    phase-form count (InBfs key at search test body) below h =
        let s : Site = site_of key search in
        phase-then (begin s f key search.root) (sequence (forward s f count key search.iterator test body ∷ [])) (phase-begin s key search.root)
        (phase-last (forward s f count key search.iterator test body) (phase-forward s count key search.iterator test body below.3 h))
    phase-form count (InBfsBoth key at search test body back_key back_test back) below h =
        let s : Site = site_of key search in
        let q = both-true (is_flat_loop ds true search.iterator test body) (is_flat_loop ds true search.iterator back_test back) h in
        phase-then (begin s f key search.root) (sequence (forward s f count key search.iterator test body ∷ backward s f count back_key search.iterator back_test back ∷ [])) (phase-begin s key search.root)
        (phase-then (forward s f count key search.iterator test body) (sequence (backward s f count back_key search.iterator back_test back ∷ [])) (phase-forward s count key search.iterator test body below.3 q.0)
        (phase-last (backward s f count back_key search.iterator back_test back) (phase-backward s count back_key search.iterator back_test back below.5 q.1)))
    phase-form count (Return key at e) below h = h

-- a phase without searches
neither : (a b : Bool) → a || b ≡ false → (a ≡ false) × (b ≡ false)
neither false b h = (refl, h)
neither true b h = absurd (both_ways true h refl)

module _ (ds : List Declaration) where
  phase-plain : (s : Stmt) → has_search s ≡ false → is_phase (is_flat_loop ds false) (is_flat_loop ds true) ds s ≡ true → is_phase (is_flat_loop ds false) no_loop ds s ≡ true
  phase-plain (Then a b) none h =
      let n = neither (has_search a) (has_search b) none in
      let q = both-true (is_phase (is_flat_loop ds false) (is_flat_loop ds true) ds a) (is_phase (is_flat_loop ds false) (is_flat_loop ds true) ds b) h in
      and-true (is_phase (is_flat_loop ds false) no_loop ds a) (is_phase (is_flat_loop ds false) no_loop ds b) (phase-plain a n.0 q.0) (phase-plain b n.1 q.1)
  phase-plain (Declare key x None) none h = h
  phase-plain (Declare key x (Some e)) none h = h
  phase-plain (Assign key (T.Scalar x at) e) none h = h
  phase-plain (Assign key (T.Property x p at) e) none h = h
  phase-plain (For key at hd test body) none h =
      let q = both-true (is_told test) (is_phase (is_flat_loop ds false) (is_flat_loop ds true) ds body) h in
      and-true (is_told test) (is_phase (is_flat_loop ds false) no_loop ds body) q.0 (phase-plain body none q.1)
  phase-plain (If key c a b) none h =
      let n = neither (has_search a) (has_search b) none in
      let q = both-true (is_told c) (is_phase (is_flat_loop ds false) (is_flat_loop ds true) ds a && is_phase (is_flat_loop ds false) (is_flat_loop ds true) ds b) h in
      let r = both-true (is_phase (is_flat_loop ds false) (is_flat_loop ds true) ds a) (is_phase (is_flat_loop ds false) (is_flat_loop ds true) ds b) q.1 in
      and-true (is_told c) (is_phase (is_flat_loop ds false) no_loop ds a && is_phase (is_flat_loop ds false) no_loop ds b) q.0
      (and-true (is_phase (is_flat_loop ds false) no_loop ds a) (is_phase (is_flat_loop ds false) no_loop ds b) (phase-plain a n.0 r.0) (phase-plain b n.1 r.1))
  phase-plain (While key at c body) none h =
      let q = both-true (is_told c) (is_phase (is_flat_loop ds false) (is_flat_loop ds true) ds body) h in
      and-true (is_told c) (is_phase (is_flat_loop ds false) no_loop ds body) q.0 (phase-plain body none q.1)
  phase-plain (Do key at body c) none h =
      let q = both-true (is_phase (is_flat_loop ds false) (is_flat_loop ds true) ds body) (is_told c) h in
      and-true (is_phase (is_flat_loop ds false) no_loop ds body) (is_told c) (phase-plain body none q.0) q.1
  phase-plain (InBfs key at r test body) none h = absurd (both_ways true none refl)
  phase-plain (InBfsBoth key at r test body back_key back_test back) none h = absurd (both_ways true none refl)
  phase-plain s none h = h

-- a scalar of the fresh ones
pub depth-fresh : (ds : List Declaration) (i : ℕ) → depth_at (with_fresh ds) (length ds + i) ≡ depth_at (fresh_declarations ++ map copy_declaration ds) i
depth-fresh ds i = ap (λ (v : Variable). v.depth) (variable-behind ds (fresh_declarations ++ map copy_declaration ds) i)

pub depth-root : (ds : List Declaration) → depth_at (with_fresh ds) (length ds) ≡ 0
depth-root ds = let here : length ds ≡ length ds + 0 = omega arith in ap (depth_at (with_fresh ds)) here ∙ depth-fresh ds 0

pub iterators-apart : (k : ℕ) → nat_eq (k + 9) (k + 8) ≡ false
iterators-apart k = grind (arith)

-- the pass gives the form without searches
pub levelled-form : (p : Program) → is_named p ≡ true → is_desugared p ≡ true → is_levelled (levelled p) ≡ true
levelled-form p named h = by (has_search p.body) refl
  where
    by : (b : Bool) → has_search p.body ≡ b → is_levelled (cond b (record p { declarations = with_fresh p.declarations; body = searches_out (fresh_from (length p.declarations)) (length p.declarations) p.body }) p) ≡ true
    by false none = phase-plain p.declarations p.body none h
    by true some =
        let ds : List Declaration = p.declarations in
        let q = both-true (nat_le (p.inputs + p.outputs) (length ds)) (list_all (suits ds) (uses_of p.body)) named in
        phase-form ds (with_fresh ds) (length ds) (variable-before ds (fresh_declarations ++ map copy_declaration ds)) (fresh_from (length ds))
        (depth-root ds) (depth-fresh ds 1) (depth-fresh ds 2) (depth-fresh ds 3) (depth-fresh ds 4) (depth-fresh ds 5) (iterators-apart (length ds))
        (length ds) p.body (names-below ds p.body q.1) h
