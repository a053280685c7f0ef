-- What an inner loop rests on does not change where the table of declarations grows, nor where other variables are marked.
use Rattle.std.proofs.Common.{◌≡◌, ◌<◌, ◌≤◌, ℕ, Bool, true, false, cond, List, [], ◌∷◌, ◌++◌, length, refl, sym, ap, ◌∙◌, Some, None}
use Rattle.std.specs.Prelude.{◌&&◌, ◌||◌, not, nat_eq, nat_lt, nat_le, flat_map}
use Rattle.std.specs.List.{list_all, list_any}
use Rattle.gm_ast.specs.Loops.{any}
use Rattle.gm_ast.specs.Ways
use Rattle.gm_ast.specs.Ways.{Mention, mentions, reads_through, is_edge_read, owner_of}
use Rattle.gm_ast.specs.declared.tree.Declaration.{Declaration}
use Rattle.gm_ast.specs.declared.tree.Head.{Head}
use Rattle.gm_ast.specs.declared.tree.Target.{Target}
use Rattle.gm_ast.specs.declared.tree.Target.TheVariants as T
use Rattle.gm_ast.specs.Program.{Expr, Const, Var, Property, EdgeProperty, Degree, NodeCount, EdgeCount, Live, Unary, Binary, Both, Either, Choose, Folded, Stmt, Then, Declare, Assign, Combine, If}
use Rattle.gm_semantics.specs.Frames.{ReadsBelow, AllReadBelow, TargetBelow, TargetsBelow, NamesBelow}
use Rattle.gm_semantics.specs.Statements.{variable_at}
use Rattle.gm_forms.specs.Cut.{adds_last}
use Rattle.gm_forms.specs.Forms.{depth_at, may, is_flat, is_within, is_inner_local, is_inner_given, is_inner_body, avoids, is_along, is_against}
use Rattle.gm_forms.specs.Sharing.{are_at_once, written_by, variables_of, written_at_once}
use Rattle.gm_forms.specs.Typing.{keeps_tuples}
use Rattle.gm_dissect.proofs.Longer.{depth-same}
use Rattle.gm_cut.specs.Slices.{goes_one_way}
use Rattle.gm_one_way.specs.Along.{marks, are_marked, goes_along, stands, parts_tell, told_of, tells}

pub or-assoc : (a b c : Bool) → (a || b) || c ≡ a || (b || c)
or-assoc true b c = refl
or-assoc false b c = refl

pub or-same : (a b c d : Bool) → a ≡ c → b ≡ d → a || b ≡ c || d
or-same a b c d p q = ap (λ x. x || b) p ∙ ap (λ x. c || x) q

pub and-same : (a b c d : Bool) → a ≡ c → b ≡ d → a && b ≡ c && d
and-same a b c d p q = ap (λ x. x && b) p ∙ ap (λ x. c && x) q

-- ---- what is told of names below

module _ (ds dt : List Declaration) (n : ℕ) (reads : Mention → Bool) (marked also : ℕ → Bool) (k : ℕ) (same : (x : ℕ) → x < k → also x ≡ marked x) where
  alone-same : (x : ℕ) → x < k → any (tells dt n reads also) (Ways.Alone x ∷ []) ≡ any (tells ds n reads marked) (Ways.Alone x ∷ [])
  alone-same x l = ap (λ b. (reads (Ways.Alone x) || b) || false) (same x l)

  through-same : (x : ℕ) → x < k → any (tells dt n reads also) (Ways.Through x ∷ []) ≡ any (tells ds n reads marked) (Ways.Through x ∷ [])
  through-same x l = ap (λ b. (reads (Ways.Through x) || b) || false) (same x l)

  any-split : (f : Mention → Bool) (xs ys : List Mention) → any f (xs ++ ys) ≡ any f xs || any f ys
  any-split f [] ys = refl
  any-split f (x ∷ xs) ys = ap (λ b. f x || b) (any-split f xs ys) ∙ sym (or-assoc (f x) (any f xs) (any f ys))

  both-same : (xs ys : List Mention) → any (tells dt n reads also) xs ≡ any (tells ds n reads marked) xs → any (tells dt n reads also) ys ≡ any (tells ds n reads marked) ys → any (tells dt n reads also) (xs ++ ys) ≡ any (tells ds n reads marked) (xs ++ ys)
  both-same xs ys p q =
      any-split (tells dt n reads also) xs ys ∙ ap (λ b. b || any (tells dt n reads also) ys) p ∙ ap (λ b. any (tells ds n reads marked) xs || b) q ∙ sym (any-split (tells ds n reads marked) xs ys)

  pub told-same : (e : Expr) → ReadsBelow k e → told_of dt n reads also e ≡ told_of ds n reads marked e
  told-same (Const v) h = refl
  told-same (Var x at) h = alone-same x h
  told-same (Property x p at) h = through-same x h.0
  told-same (EdgeProperty x p at) h = refl
  told-same (Degree d x at) h = through-same x h
  told-same NodeCount h = refl
  told-same EdgeCount h = refl
  told-same (Live x at) h = alone-same x h
  told-same (Unary op at e) h = told-same e h
  told-same (Binary op at a b) h = both-same (mentions a) (mentions b) (told-same a h.0) (told-same b h.1)
  told-same (Both a b) h = both-same (mentions a) (mentions b) (told-same a h.0) (told-same b h.1)
  told-same (Either a b) h = both-same (mentions a) (mentions b) (told-same a h.0) (told-same b h.1)
  told-same (Choose c a b) h = both-same (mentions c) (mentions a ++ mentions b) (told-same c h.0) (both-same (mentions a) (mentions b) (told-same a h.1) (told-same b h.2))
  told-same (Folded f hd test e) h = both-same (mentions test) (mentions e) (told-same test h.1) (told-same e h.2)

  pub all-told-same : (es : List Expr) → AllReadBelow k es → list_any (told_of dt n reads also) es ≡ list_any (told_of ds n reads marked) es
  all-told-same [] h = refl
  all-told-same (e ∷ es) h = ap (λ b. b || list_any (told_of dt n reads also) es) (told-same e h.0) ∙ ap (λ b. told_of ds n reads marked e || b) (all-told-same es h.1)

  pub owners-same : (ts : List Target) → TargetsBelow k ts → any (tells dt n reads also) (flat_map owner_of ts) ≡ any (tells ds n reads marked) (flat_map owner_of ts)
  owners-same [] h = refl
  owners-same (T.Scalar x at ∷ ts) h = owners-same ts h.1
  owners-same (T.Property x p at ∷ ts) h = or-same (reads (Ways.Alone x) || also x) (any (tells dt n reads also) (flat_map owner_of ts)) (reads (Ways.Alone x) || marked x) (any (tells ds n reads marked) (flat_map owner_of ts)) (ap (λ b. reads (Ways.Alone x) || b) (same x h.0.0)) (owners-same ts h.1)

  -- marks of variables below
  abbrev AllBelow : List ℕ → Type 0
  AllBelow [] = Unit {0}
  AllBelow (x ∷ xs) = (x < k) × AllBelow xs

  all-marked-same : (xs : List ℕ) → AllBelow xs → list_all also xs ≡ list_all marked xs
  all-marked-same [] h = refl
  all-marked-same (x ∷ xs) h = and-same (also x) (list_all also xs) (marked x) (list_all marked xs) (same x h.0) (all-marked-same xs h.1)

  some-marked-same : (xs : List ℕ) → AllBelow xs → list_any also xs ≡ list_any marked xs
  some-marked-same [] h = refl
  some-marked-same (x ∷ xs) h = or-same (also x) (list_any also xs) (marked x) (list_any marked xs) (same x h.0) (some-marked-same xs h.1)

  pub marked-same : (told other : Bool) (xs : List ℕ) → told ≡ other → AllBelow xs → are_marked dt n reads also told xs ≡ are_marked ds n reads marked other xs
  marked-same told other xs e h = or-same (not told) (list_all also xs) (not other) (list_all marked xs) (ap not e) (all-marked-same xs h)

  pub variables-below : (ts : List Target) → TargetsBelow k ts → AllBelow (variables_of ts)
  variables-below [] h = tt
  variables-below (T.Scalar x at ∷ ts) h = (h.0, variables-below ts h.1)
  variables-below (T.Property x p at ∷ ts) h = (h.0.1, variables-below ts h.1)

  written-below : (t : Target) → TargetBelow k t → AllBelow (written_by t)
  written-below (T.Scalar x at) h = (h, tt)
  written-below (T.Property x p at) h = (h.1, tt)

-- ds: the table; dt: a longer one, with the same variables
module _ (ds dt : List Declaration) (same-row : (x : ℕ) → x < length ds → variable_at dt x ≡ variable_at ds x) (more : length ds ≤ length dt) where
  abbrev k : ℕ
  k = length ds

  depth-is : (d x : ℕ) → x < length ds → nat_eq (depth_at dt x) d ≡ nat_eq (depth_at ds x) d
  depth-is d x h = ap (λ y. nat_eq y d) (depth-same ds dt same-row more x h)

  once-same : (n : ℕ) (ts : List Target) → TargetsBelow (length ds) ts → are_at_once dt n true ts ≡ are_at_once ds n true ts
  once-same n [] h = refl
  once-same n (T.Scalar x at ∷ ts) h = and-same (nat_lt 1 (depth_at dt x)) (are_at_once dt n true ts) (nat_lt 1 (depth_at ds x)) (are_at_once ds n true ts) (ap (λ y. nat_lt 1 y) (depth-same ds dt same-row more x h.0)) (once-same n ts h.1)
  once-same n (T.Property x p at ∷ ts) h = refl

  module _ (n : ℕ) (reads : Mention → Bool) (marked also : ℕ → Bool) (same : (x : ℕ) → x < length ds → also x ≡ marked x) where
    at-once-below : (o : Bool) (ts : List Target) → TargetsBelow (length ds) ts → AllBelow ds dt n reads marked also (length ds) same (cond o (variables_of ts) [])
    at-once-below true ts h = variables-below ds dt n reads marked also k same ts h
    at-once-below false ts h = tt

    -- what is marked
    pub marks-same : (told : Bool) (s : Stmt) → NamesBelow (length ds) s → marks dt n reads also told s ≡ marks ds n reads marked told s
    marks-same told (Then a b) h = and-same (marks dt n reads also told a) (marks dt n reads also told b) (marks ds n reads marked told a) (marks ds n reads marked told b) (marks-same told a h.0) (marks-same told b h.1)
    marks-same told (Declare key x None) h = marked-same ds dt n reads marked also k same told told (x ∷ []) refl (h.0, tt)
    marks-same told (Declare key x (Some e)) h =
        marked-same ds dt n reads marked also k same (told || told_of dt n reads also e) (told || told_of ds n reads marked e) (x ∷ []) (ap (λ b. told || b) (told-same ds dt n reads marked also k same e h.1)) (h.0, tt)
    marks-same told (Assign key t e) h =
        marked-same ds dt n reads marked also k same (told || told_of dt n reads also e) (told || told_of ds n reads marked e) (written_by t) (ap (λ b. told || b) (told-same ds dt n reads marked also k same e h.1)) (written-below ds dt n reads marked also k same t h.0)
    marks-same told (Combine key total r ts es) h =
        let ws = written_at_once ds n true ts in
        let f : List ℕ → Bool = λ xs. are_marked dt n reads also (told || (list_any also xs || list_any (told_of dt n reads also) es)) xs in
        let low = at-once-below (are_at_once ds n true ts) ts h.0 in
        ap f (ap (λ o. cond o (variables_of ts) []) (once-same n ts h.0))
        ∙ marked-same ds dt n reads marked also k same (told || (list_any also ws || list_any (told_of dt n reads also) es)) (told || (list_any marked ws || list_any (told_of ds n reads marked) es)) ws
        (ap (λ b. told || b) (or-same (list_any also ws) (list_any (told_of dt n reads also) es) (list_any marked ws) (list_any (told_of ds n reads marked) es) (some-marked-same ds dt n reads marked also k same ws low) (all-told-same ds dt n reads marked also k same es h.1))) low
    marks-same told (If key c a b) h =
        let f = told || told_of ds n reads marked c in
        ap (λ f. marks dt n reads also f a && marks dt n reads also f b) (ap (λ b. told || b) (told-same ds dt n reads marked also k same c h.0))
        ∙ and-same (marks dt n reads also f a) (marks dt n reads also f b) (marks ds n reads marked f a) (marks ds n reads marked f b) (marks-same f a h.1) (marks-same f b h.2)
    marks-same told s h = refl

    pub parts-same : (h : Head) (edges ends edges' ends' : ℕ → Bool) (ts : List Target) (es : List Expr) → TargetsBelow (length ds) ts → AllReadBelow (length ds) es → parts_tell dt n h edges' ends' reads also ts es ≡ parts_tell ds n h edges ends reads marked ts es
    parts-same h edges ends edges' ends' ts es low g =
        or-same (any (tells dt n reads also) (flat_map owner_of ts)) (list_any (told_of dt n reads also) es) (any (tells ds n reads marked) (flat_map owner_of ts)) (list_any (told_of ds n reads marked) es)
        (owners-same ds dt n reads marked also k same ts low) (all-told-same ds dt n reads marked also k same es g)

  -- what goes along
  module _ (n : ℕ) (h : Head) (edges ends edges' ends' : ℕ → Bool) (same-edges : (x : ℕ) → x < length ds → edges' x ≡ edges x) (same-ends : (x : ℕ) → x < length ds → ends' x ≡ ends x) where
    abbrev thr : Mention → Bool
    thr = reads_through h.iterator

    pub along-same : (end edge : Bool) (s : Stmt) → NamesBelow (length ds) s → goes_along dt n h edges' ends' end edge s ≡ goes_along ds n h edges ends end edge s
    along-same end edge (Then a b) l =
        and-same (goes_along dt n h edges' ends' end edge a) (goes_along dt n h edges' ends' end edge b) (goes_along ds n h edges ends end edge a) (goes_along ds n h edges ends end edge b) (along-same end edge a l.0) (along-same end edge b l.1)
    along-same end edge (Combine key total r ts es) l =
        let f : Bool → Bool → Bool = λ f e. stands ds n h edges ends ts f e in
        or-same (are_at_once dt n true ts) (f (end || parts_tell dt n h edges' ends' thr ends' ts es) (edge || parts_tell dt n h edges' ends' is_edge_read edges' ts es)) (are_at_once ds n true ts)
        (f (end || parts_tell ds n h edges ends thr ends ts es) (edge || parts_tell ds n h edges ends is_edge_read edges ts es)) (once-same n ts l.0)
        (ap (λ b. f (end || b) (edge || parts_tell dt n h edges' ends' is_edge_read edges' ts es)) (parts-same n thr ends ends' same-ends h edges ends edges' ends' ts es l.0 l.1)
        ∙ ap (λ b. f (end || parts_tell ds n h edges ends thr ends ts es) (edge || b)) (parts-same n is_edge_read edges edges' same-edges h edges ends edges' ends' ts es l.0 l.1))
    along-same end edge (If key c a b) l =
        let f = end || told_of ds n thr ends c in
        let e = edge || told_of ds n is_edge_read edges c in
        let g : Bool → Bool → Bool = λ f e. goes_along dt n h edges' ends' f e a && goes_along dt n h edges' ends' f e b in
        ap (λ f. g f (edge || told_of dt n is_edge_read edges' c)) (ap (λ b. end || b) (told-same ds dt n thr ends ends' k same-ends c l.0)) ∙ ap (g f) (ap (λ b. edge || b) (told-same ds dt n is_edge_read edges edges' k same-edges c l.0))
        ∙ and-same (goes_along dt n h edges' ends' f e a) (goes_along dt n h edges' ends' f e b) (goes_along ds n h edges ends f e a) (goes_along ds n h edges ends f e b) (along-same f e a l.1) (along-same f e b l.2)
    along-same end edge s l = refl

  -- ---- the way of an inner loop

  given-same : (ts : List Target) → TargetsBelow (length ds) ts → list_all (is_inner_given dt) ts ≡ list_all (is_inner_given ds) ts
  given-same [] h = refl
  given-same (T.Scalar x at ∷ ts) h = and-same (nat_lt (depth_at dt x) 2) (list_all (is_inner_given dt) ts) (nat_lt (depth_at ds x) 2) (list_all (is_inner_given ds) ts) (ap (λ y. nat_lt y 2) (depth-same ds dt same-row more x h.0)) (given-same ts h.1)
  given-same (T.Property x p at ∷ ts) h = given-same ts h.1

  within-same : (ts : List Target) → TargetsBelow (length ds) ts → list_all (is_within dt 2) ts ≡ list_all (is_within ds 2) ts
  within-same [] h = refl
  within-same (T.Scalar x at ∷ ts) h = and-same (nat_le (depth_at dt x) 2) (list_all (is_within dt 2) ts) (nat_le (depth_at ds x) 2) (list_all (is_within ds 2) ts) (ap (λ y. nat_le y 2) (depth-same ds dt same-row more x h.0)) (within-same ts h.1)
  within-same (T.Property x p at ∷ ts) h = within-same ts h.1

  local-same : (t : Target) → TargetBelow (length ds) t → is_inner_local dt t ≡ is_inner_local ds t
  local-same (T.Scalar x at) h = depth-is 2 x h
  local-same (T.Property x p at) h = refl

  body-same : (its : List ℕ) (edge : Bool) (s : Stmt) → NamesBelow (length ds) s → is_inner_body dt its edge s ≡ is_inner_body ds its edge s
  body-same its edge (Then a b) h = and-same (is_inner_body dt its edge a) (is_inner_body dt its edge b) (is_inner_body ds its edge a) (is_inner_body ds its edge b) (body-same its edge a h.0) (body-same its edge b h.1)
  body-same its edge (Declare key x e) h = ap (λ b. b && may (is_flat its edge) e) (depth-is 2 x h.0)
  body-same its edge (Assign key t e) h = ap (λ b. b && is_flat its edge e) (local-same t h.0)
  body-same its edge (Combine key total r ts es) h =
      ap (λ b. (b || (keeps_tuples r && list_all (is_within dt 2) ts)) && list_all (is_flat its edge) es) (given-same ts h.0) ∙ ap (λ b. (list_all (is_inner_given ds) ts || (keeps_tuples r && b)) && list_all (is_flat its edge) es) (within-same ts h.0)
  body-same its edge (If key c a b) h =
      ap (λ x. is_flat its edge c && x) (and-same (is_inner_body dt its edge a) (is_inner_body dt its edge b) (is_inner_body ds its edge a) (is_inner_body ds its edge b) (body-same its edge a h.1) (body-same its edge b h.2))
  body-same its edge s h = refl

  pub way-same : (n : ℕ) (h : Head) (test : Expr) (body : Stmt) → NamesBelow (length ds) body → goes_one_way dt n h test body ≡ goes_one_way ds n h test body
  way-same n h test body l =
      let f : Bool → Bool → Bool → Bool = λ a b c. ((is_flat (n ∷ []) (is_along h.domain) test && (a && avoids h.iterator body)) || ((is_flat (n ∷ h.iterator ∷ []) (is_along h.domain) test && (b && avoids n body)) || (is_flat (n ∷ h.iterator ∷ []) (is_against h.domain) test && (c && avoids h.iterator body)))) && adds_last (n ∷ h.iterator ∷ []) body in
      let its = n ∷ h.iterator ∷ [] in
      ap (λ a. f a (is_inner_body dt its (is_along h.domain) body) (is_inner_body dt its (is_against h.domain) body)) (body-same (n ∷ []) (is_along h.domain) body l)
      ∙ ap (λ b. f (is_inner_body ds (n ∷ []) (is_along h.domain) body) b (is_inner_body dt its (is_against h.domain) body)) (body-same its (is_along h.domain) body l)
      ∙ ap (f (is_inner_body ds (n ∷ []) (is_along h.domain) body) (is_inner_body ds its (is_along h.domain) body)) (body-same its (is_against h.domain) body l)
