-- The loops of a search have types.
use Rattle.std.proofs.Common.{◌≡◌, ◌<◌, ◌≤◌, ◌+◌, ℕ, suc, Bool, true, false, cond, List, [], ◌∷◌, ◌++◌, map, length, refl, sym, ap, ◌∙◌, arith, Option, Some, None}
use Rattle.std.specs.Prelude.{◌&&◌, nat_eq, nat_le}
use Rattle.std.specs.List.{list_all}
use Rattle.gm_base.specs.declared.places.Place.{Place}
use Rattle.gm_value.specs.declared.operations.Op2.TheVariants.{Add, Sub, Eq, Ge}
use Rattle.gm_value.specs.declared.reductions.Reduce.{Reduce}
use Rattle.gm_value.specs.declared.reductions.Reduce.TheVariants.{Min, Or}
use Rattle.gm_value.specs.declared.values.VType.{VType}
use Rattle.gm_value.specs.declared.values.VType.TheVariants.{I32, I64, Flag, Node}
use Rattle.gm_value.specs.Operations.{same_type, is_numeric, fits2, type1, type2}
use Rattle.gm_value.specs.Reductions.{reduces}
use Rattle.gm_ast.specs.declared.tree.Declaration.{Declaration}
use Rattle.gm_ast.specs.declared.tree.Domain.{Domain}
use Rattle.gm_ast.specs.declared.tree.Domain.TheVariants as D
use Rattle.gm_ast.specs.declared.tree.Head.{Head}
use Rattle.gm_ast.specs.declared.tree.Key.{Key}
use Rattle.gm_ast.specs.declared.tree.Target.{Target}
use Rattle.gm_ast.specs.declared.tree.Target.TheVariants as T
use Rattle.gm_ast.specs.declared.tree.Variable.{Variable}
use Rattle.gm_ast.specs.Program.{Expr, Const, Var, Property, EdgeProperty, Degree, NodeCount, EdgeCount, Live, Unary, Binary, Both, Either, Choose, Folded, Stmt, Skip, Then, Declare, DeclareEdge, Assign, Defer, Combine, Group, Foreach, For, If, While, Do, InBfs, InBfsBoth, Return, Program, sequence}
use Rattle.gm_semantics.specs.Expressions.{reduce_of}
use Rattle.gm_semantics.specs.Frames.{ReadsBelow, MayReadBelow, AllReadBelow, TargetBelow, TargetsBelow, NamesBelow}
use Rattle.gm_forms.specs.Typing.{type_at, type_if, by_one, is_type, takes, type_in, has_type, target_type, all_have_types, keeps_tuples, fits_targets, returns_type, is_typed_in, has_types, takes1}
use Rattle.gm_forms.specs.Uses.{suits, uses_of, is_named}
use Rattle.gm_forms.proofs.Named.{both-true, names-below}
use Rattle.gm_forms.proofs.Weaker.{and-true}
use Rattle.gm_bfs.specs.declared.fresh.Fresh.{Fresh}
use Rattle.gm_bfs.specs.declared.fresh.Site.{Site}
use Rattle.gm_bfs.specs.Variables.{fresh_from, fresh_declarations, copy_declaration, copy_of}
use Rattle.gm_bfs.specs.Copies.{is_marked, seen_as, reading, inner_reading, copied, asks_up, asks_down}
use Rattle.gm_bfs.specs.Searches.{is_always, conjunction, is_on, ranged, inner_loop, by_levels, is_idle, is_safe, over_nodes, first_levels, begin, next_level, level_before, activate, reach, look, copies_from, unless_empty, copy, visit, where_asked, first_where, forward_turn, forward, backward, back_turn, site_of}
use Rattle.gm_bfs.specs.Levelled.{searches_out, has_search, levelled}
use Rattle.gm_bfs.proofs.Parts.{copied-short}
use Rattle.gm_bfs.proofs.Longer.{es, before-same, fresh-at, root-at, copy-type-at}

module _ (ds : List Declaration) (r : Option VType) where
  abbrev f : Fresh
  f = fresh_from (length ds)

  abbrev k : ℕ
  k = length ds

  before-type : (x : ℕ) → x < k → type_at (es ds) x ≡ type_at ds x
  before-type x b = ap (λ (v : Variable). v.vtype) (before-same ds x b)

  fresh-type : (i : ℕ) → type_at (es ds) (k + i) ≡ type_at (fresh_declarations ++ map copy_declaration ds) i
  fresh-type i = ap (λ (v : Variable). v.vtype) (fresh-at ds i)

  copy-type : (p : ℕ) → type_at (es ds) (copy_of f p) ≡ type_at ds p
  copy-type p = copy-type-at ds p

  target-longer : (t : Target) → TargetBelow k t → target_type (es ds) t ≡ target_type ds t
  target-longer (T.Scalar x at) b = before-type x b
  target-longer (T.Property x p at) b = before-type p b.1

  -- expressions that read copies, or none
  module _ (marks : List Bool) (w : ℕ) where
    seen-type : (x p : ℕ) → p < k → type_at (es ds) (seen_as f marks w x p) ≡ type_at ds p
    seen-type x p b = by (nat_eq x w && is_marked marks p)
      where
        by : (c : Bool) → type_at (es ds) (cond c (copy_of f p) p) ≡ type_at ds p
        by true = copy-type p
        by false = before-type p b

    reading-type : (e : Expr) → ReadsBelow k e → type_in (es ds) (reading f marks w e) ≡ type_in ds e
    reading-type (Const v) b = refl
    reading-type (Var x at) b = ap Some (before-type x b)
    reading-type (Property x p at) b = ap Some (seen-type x p b.1)
    reading-type (EdgeProperty x p at) b = ap Some (before-type p b)
    reading-type (Degree d x at) b = refl
    reading-type NodeCount b = refl
    reading-type EdgeCount b = refl
    reading-type (Live x at) b = refl
    reading-type (Unary op at e) b = ap (λ o. by_one o (λ t. type_if (takes1 op t) (type1 op t))) (reading-type e b)
    reading-type (Binary op at a c) b =
        ap (λ o. by_one o (λ t. by_one (type_in (es ds) (reading f marks w c)) (λ u. type_if (fits2 op t u) (type2 op t)))) (reading-type a b.0)
        ∙ ap (λ o. by_one (type_in ds a) (λ t. by_one o (λ u. type_if (fits2 op t u) (type2 op t)))) (reading-type c b.1)
    reading-type (Both a c) b = ap (λ o. type_if (is_type Flag o && is_type Flag (type_in (es ds) (reading f marks w c))) Flag) (reading-type a b.0) ∙ ap (λ o. type_if (is_type Flag (type_in ds a) && is_type Flag o) Flag) (reading-type c b.1)
    reading-type (Either a c) b = ap (λ o. type_if (is_type Flag o && is_type Flag (type_in (es ds) (reading f marks w c))) Flag) (reading-type a b.0) ∙ ap (λ o. type_if (is_type Flag (type_in ds a) && is_type Flag o) Flag) (reading-type c b.1)
    reading-type (Choose c a d) b =
        ap (λ o. by_one o (λ t. type_if (is_type Flag (type_in (es ds) (reading f marks w c)) && is_type t (type_in (es ds) (reading f marks w d))) t)) (reading-type a b.1)
        ∙ ap (λ o. by_one (type_in ds a) (λ t. type_if (is_type Flag o && is_type t (type_in (es ds) (reading f marks w d))) t)) (reading-type c b.0)
        ∙ ap (λ o. by_one (type_in ds a) (λ t. type_if (is_type Flag (type_in ds c) && is_type t o) t)) (reading-type d b.2)
    reading-type (Folded g h test e) b =
        ap (λ o. type_if (is_type Flag o && (is_type (takes g.word g.vtype) (type_in (es ds) (reading f marks w e)) && reduces (reduce_of g.word) g.vtype)) g.vtype) (reading-type test b.1)
        ∙ ap (λ o. type_if (is_type Flag (type_in ds test) && (is_type (takes g.word g.vtype) o && reduces (reduce_of g.word) g.vtype)) g.vtype) (reading-type e b.2)

    all-types : (ts : List Target) (vs : List Expr) → TargetsBelow k ts → AllReadBelow k vs → all_have_types (es ds) ts (map (reading f marks w) vs) ≡ all_have_types ds ts vs
    all-types [] [] b c = refl
    all-types [] (v ∷ vs) b c = refl
    all-types (t ∷ ts) [] b c = refl
    all-types (t ∷ ts) (v ∷ vs) b c =
        ap (λ u. is_type u (type_in (es ds) (reading f marks w v)) && all_have_types (es ds) ts (map (reading f marks w) vs)) (target-longer t b.0)
        ∙ ap (λ o. is_type (target_type ds t) o && all_have_types (es ds) ts (map (reading f marks w) vs)) (reading-type v c.0)
        ∙ ap (λ z. has_type ds (target_type ds t) v && z) (all-types ts vs b.1 c.1)

    fits-longer : (op : Reduce) (ts : List Target) → TargetsBelow k ts → fits_targets (es ds) op ts ≡ fits_targets ds op ts
    fits-longer op [] b = refl
    fits-longer op (t ∷ []) b = ap (reduces op) (target-longer t b.0)
    fits-longer op (t ∷ (u ∷ ts)) b = ap (λ z. keeps_tuples op && is_numeric z) (target-longer t b.0)

    inner-types : (b : Stmt) → NamesBelow k b → is_typed_in ds r b ≡ true → ((c : Stmt) → NamesBelow k c → is_typed_in ds r c ≡ true → is_typed_in (es ds) r c ≡ true) → is_typed_in (es ds) r (inner_reading f marks w b) ≡ true
    inner-types Skip n h longer = refl
    inner-types (Then a b) n h longer =
        let q = both-true (is_typed_in ds r a) (is_typed_in ds r b) h in
        and-true (is_typed_in (es ds) r (inner_reading f marks w a)) (is_typed_in (es ds) r (inner_reading f marks w b)) (inner-types a n.0 q.0 longer) (inner-types b n.1 q.1 longer)
    inner-types (Declare key y None) n h longer = refl
    inner-types (Declare key y (Some e)) n h longer = ap (λ t. is_type t (type_in (es ds) (reading f marks w e))) (before-type y n.0) ∙ ap (is_type (type_at ds y)) (reading-type e n.1) ∙ h
    inner-types (DeclareEdge y z at) n h longer = refl
    inner-types (Assign key t e) n h longer = ap (λ u. is_type u (type_in (es ds) (reading f marks w e))) (target-longer t n.0) ∙ ap (is_type (target_type ds t)) (reading-type e n.1) ∙ h
    inner-types (Defer key t e) n h longer = longer (Defer key t e) n h
    inner-types (Combine key total op ts vs) n h longer = ap (λ z. z && fits_targets (es ds) op ts) (all-types ts vs n.0 n.1) ∙ ap (λ z. all_have_types ds ts vs && z) (fits-longer op ts n.0) ∙ h
    inner-types (Group key at y p e) n h longer = longer (Group key at y p e) n h
    inner-types (Foreach key at head test body) n h longer = longer (Foreach key at head test body) n h
    inner-types (For key at head test body) n h longer = longer (For key at head test body) n h
    inner-types (If key c a b) n h longer =
        let q = both-true (has_type ds Flag c) (is_typed_in ds r a && is_typed_in ds r b) h in
        let p = both-true (is_typed_in ds r a) (is_typed_in ds r b) q.1 in
        and-true (has_type (es ds) Flag (reading f marks w c)) (is_typed_in (es ds) r (inner_reading f marks w a) && is_typed_in (es ds) r (inner_reading f marks w b)) (ap (is_type Flag) (reading-type c n.0) ∙ q.0)
        (and-true (is_typed_in (es ds) r (inner_reading f marks w a)) (is_typed_in (es ds) r (inner_reading f marks w b)) (inner-types a n.1 p.0 longer) (inner-types b n.2 p.1 longer))
    inner-types (While key at c body) n h longer = longer (While key at c body) n h
    inner-types (Do key at body c) n h longer = longer (Do key at body c) n h
    inner-types (InBfs key at s c body) n h longer = longer (InBfs key at s c body) n h
    inner-types (InBfsBoth key at s c body back_key d back) n h longer = longer (InBfsBoth key at s c body back_key d back) n h
    inner-types (Return key at e) n h longer = longer (Return key at e) n h

  -- what stays as it is
  reading-none : (e : Expr) → reading f [] k e ≡ e
  reading-none (Const v) = refl
  reading-none (Var x at) = refl
  reading-none (Property x p at) = ap (λ q. Property x q at) (by (nat_eq x k))
    where
      by : (b : Bool) → cond (b && is_marked [] p) (copy_of f p) p ≡ p
      by true = refl
      by false = refl
  reading-none (EdgeProperty x p at) = refl
  reading-none (Degree d x at) = refl
  reading-none NodeCount = refl
  reading-none EdgeCount = refl
  reading-none (Live x at) = refl
  reading-none (Unary op at e) = ap (Unary op at) (reading-none e)
  reading-none (Binary op at a b) = ap (λ z. Binary op at z (reading f [] k b)) (reading-none a) ∙ ap (Binary op at a) (reading-none b)
  reading-none (Both a b) = ap (λ z. Both z (reading f [] k b)) (reading-none a) ∙ ap (Both a) (reading-none b)
  reading-none (Either a b) = ap (λ z. Either z (reading f [] k b)) (reading-none a) ∙ ap (Either a) (reading-none b)
  reading-none (Choose c a b) = ap (λ z. Choose z (reading f [] k a) (reading f [] k b)) (reading-none c) ∙ ap (λ z. Choose c z (reading f [] k b)) (reading-none a) ∙ ap (Choose c a) (reading-none b)
  reading-none (Folded g h test e) = ap (λ z. Folded g h z (reading f [] k e)) (reading-none test) ∙ ap (Folded g h test) (reading-none e)

  type-longer : (e : Expr) → ReadsBelow k e → type_in (es ds) e ≡ type_in ds e
  type-longer e b = ap (type_in (es ds)) (sym (reading-none e)) ∙ reading-type [] k e b

  flag-longer : (t : VType) (e : Expr) → ReadsBelow k e → has_type ds t e ≡ true → has_type (es ds) t e ≡ true
  flag-longer t e b h = ap (is_type t) (type-longer e b) ∙ h

  all-longer-types : (ts : List Target) (vs : List Expr) → TargetsBelow k ts → AllReadBelow k vs → all_have_types (es ds) ts vs ≡ all_have_types ds ts vs
  all-longer-types [] [] b c = refl
  all-longer-types [] (v ∷ vs) b c = refl
  all-longer-types (t ∷ ts) [] b c = refl
  all-longer-types (t ∷ ts) (v ∷ vs) b c =
      ap (λ u. is_type u (type_in (es ds) v) && all_have_types (es ds) ts vs) (target-longer t b.0)
      ∙ ap (λ o. is_type (target_type ds t) o && all_have_types (es ds) ts vs) (type-longer v c.0)
      ∙ ap (λ z. has_type ds (target_type ds t) v && z) (all-longer-types ts vs b.1 c.1)

  may-longer : (r : Option VType) (e : Option Expr) → MayReadBelow k e → returns_type ds r e ≡ true → returns_type (es ds) r e ≡ true
  may-longer None None b h = refl
  may-longer None (Some e) b h = h
  may-longer (Some t) None b h = h
  may-longer (Some t) (Some e) b h = flag-longer t e b h

  typed-longer : (b : Stmt) → NamesBelow k b → is_typed_in ds r b ≡ true → is_typed_in (es ds) r b ≡ true
  typed-longer Skip n h = refl
  typed-longer (Then a b) n h = let q = both-true (is_typed_in ds r a) (is_typed_in ds r b) h in and-true (is_typed_in (es ds) r a) (is_typed_in (es ds) r b) (typed-longer a n.0 q.0) (typed-longer b n.1 q.1)
  typed-longer (Declare key y None) n h = refl
  typed-longer (Declare key y (Some e)) n h = ap (λ t. is_type t (type_in (es ds) e)) (before-type y n.0) ∙ flag-longer (type_at ds y) e n.1 h
  typed-longer (DeclareEdge y z at) n h = refl
  typed-longer (Assign key t e) n h = ap (λ u. is_type u (type_in (es ds) e)) (target-longer t n.0) ∙ flag-longer (target_type ds t) e n.1 h
  typed-longer (Defer key t e) n h = ap (λ u. is_type u (type_in (es ds) e)) (target-longer t n.0) ∙ flag-longer (target_type ds t) e n.1 h
  typed-longer (Combine key total op ts vs) n h = ap (λ z. z && fits_targets (es ds) op ts) (all-longer-types ts vs n.0 n.1) ∙ ap (λ z. all_have_types ds ts vs && z) (fits-longer [] k op ts n.0) ∙ h
  typed-longer (Group key at y p e) n h = ap (λ u. is_type u (type_in (es ds) e)) (before-type p n.1) ∙ flag-longer (type_at ds p) e n.2 h
  typed-longer (Foreach key at head test body) n h = let q = both-true (has_type ds Flag test) (is_typed_in ds r body) h in and-true (has_type (es ds) Flag test) (is_typed_in (es ds) r body) (flag-longer Flag test n.2 q.0) (typed-longer body n.3 q.1)
  typed-longer (For key at head test body) n h = let q = both-true (has_type ds Flag test) (is_typed_in ds r body) h in and-true (has_type (es ds) Flag test) (is_typed_in (es ds) r body) (flag-longer Flag test n.2 q.0) (typed-longer body n.3 q.1)
  typed-longer (If key c a b) n h =
      let q = both-true (has_type ds Flag c) (is_typed_in ds r a && is_typed_in ds r b) h in
      let p = both-true (is_typed_in ds r a) (is_typed_in ds r b) q.1 in
      and-true (has_type (es ds) Flag c) (is_typed_in (es ds) r a && is_typed_in (es ds) r b) (flag-longer Flag c n.0 q.0) (and-true (is_typed_in (es ds) r a) (is_typed_in (es ds) r b) (typed-longer a n.1 p.0) (typed-longer b n.2 p.1))
  typed-longer (While key at c body) n h = let q = both-true (has_type ds Flag c) (is_typed_in ds r body) h in and-true (has_type (es ds) Flag c) (is_typed_in (es ds) r body) (flag-longer Flag c n.0 q.0) (typed-longer body n.1 q.1)
  typed-longer (Do key at body c) n h = let q = both-true (is_typed_in ds r body) (has_type ds Flag c) h in and-true (is_typed_in (es ds) r body) (has_type (es ds) Flag c) (typed-longer body n.0 q.0) (flag-longer Flag c n.1 q.1)
  typed-longer (InBfs key at s c body) n h = let q = both-true (has_type ds Flag c) (is_typed_in ds r body) h in and-true (has_type (es ds) Flag c) (is_typed_in (es ds) r body) (flag-longer Flag c n.2 q.0) (typed-longer body n.3 q.1)
  typed-longer (InBfsBoth key at s c body back_key d back) n h =
      let q = both-true (has_type ds Flag c) (is_typed_in ds r body && (has_type ds Flag d && is_typed_in ds r back)) h in
      let p = both-true (is_typed_in ds r body) (has_type ds Flag d && is_typed_in ds r back) q.1 in
      let o = both-true (has_type ds Flag d) (is_typed_in ds r back) p.1 in
      and-true (has_type (es ds) Flag c) (is_typed_in (es ds) r body && (has_type (es ds) Flag d && is_typed_in (es ds) r back)) (flag-longer Flag c n.2 q.0)
      (and-true (is_typed_in (es ds) r body) (has_type (es ds) Flag d && is_typed_in (es ds) r back) (typed-longer body n.3 p.0)
      (and-true (has_type (es ds) Flag d) (is_typed_in (es ds) r back) (flag-longer Flag d n.4 o.0) (typed-longer back n.5 o.1)))
  typed-longer (Return key at e) n h = may-longer r e n h

  -- conditions
  conjunction-type : (a b : Expr) → has_type (es ds) Flag a ≡ true → has_type (es ds) Flag b ≡ true → has_type (es ds) Flag (conjunction a b) ≡ true
  conjunction-type a b p q = by (is_always b)
    where
      by : (c : Bool) → has_type (es ds) Flag (cond c a (Both a b)) ≡ true
      by true = p
      by false = ap (λ z. is_type Flag (type_if (z && has_type (es ds) Flag b) Flag)) p ∙ ap (λ z. is_type Flag (type_if z Flag)) q

  -- two numbers of Int compared
  equal-type : (at : Place) (a b : Expr) → type_in (es ds) a ≡ Some I32 → type_in (es ds) b ≡ Some I32 → has_type (es ds) Flag (Binary Eq at a b) ≡ true
  equal-type at a b p q =
      ap (λ o. is_type Flag (by_one o (λ t. by_one (type_in (es ds) b) (λ u. type_if (fits2 Eq t u) Flag)))) p ∙ ap (λ o. is_type Flag (by_one o (λ u. type_if (fits2 Eq I32 u) Flag))) q

  level-type : type_at (es ds) f.level ≡ I32
  level-type = fresh-type 6

  active-type : type_at (es ds) f.active ≡ Flag
  active-type = fresh-type 7

  -- bodies
  module _ (marks : List Bool) where
    ranged-type : (key : Key) (at : Place) (h : Head) (test : Expr) (body : Stmt) (d : Domain) (x : ℕ) → type_at (es ds) x ≡ I32 → NamesBelow k (Foreach key at h test body) → is_typed_in ds r (Foreach key at h test body) ≡ true →
        is_typed_in (es ds) r (ranged f marks key at h test body d x) ≡ true
    ranged-type key at h test body d x t n typed =
        let q = both-true (has_type ds Flag test) (is_typed_in ds r body) typed in
        and-true (has_type (es ds) Flag (conjunction (is_on f h x) (reading f marks h.iterator test))) (is_typed_in (es ds) r (inner_reading f marks h.iterator body))
        (conjunction-type (is_on f h x) (reading f marks h.iterator test) (equal-type h.place (Property h.iterator f.level h.place) (Var x h.place) (ap Some level-type) (ap Some t)) (ap (is_type Flag) (reading-type marks h.iterator test n.2) ∙ q.0))
        (inner-types marks h.iterator body n.3 q.1 typed-longer)

    levels-type : (b : Stmt) → NamesBelow k b → is_typed_in ds r b ≡ true → is_typed_in (es ds) r (by_levels f marks b) ≡ true
    levels-type Skip n h = refl
    levels-type (Then a b) n h =
        let q = both-true (is_typed_in ds r a) (is_typed_in ds r b) h in and-true (is_typed_in (es ds) r (by_levels f marks a)) (is_typed_in (es ds) r (by_levels f marks b)) (levels-type a n.0 q.0) (levels-type b n.1 q.1)
    levels-type (Declare key y e) n h = typed-longer (Declare key y e) n h
    levels-type (DeclareEdge y z at) n h = refl
    levels-type (Assign key t e) n h = typed-longer (Assign key t e) n h
    levels-type (Defer key t e) n h = typed-longer (Defer key t e) n h
    levels-type (Combine key total op ts vs) n h = typed-longer (Combine key total op ts vs) n h
    levels-type (Group key at y p e) n h = typed-longer (Group key at y p e) n h
    levels-type (Foreach key at head test body) n h = by head.domain
      where
        by : (d : Domain) → is_typed_in (es ds) r (inner_loop f marks key at head test body d) ≡ true
        by D.Nodes = typed-longer (Foreach key at head test body) n h
        by D.OutNbrs = typed-longer (Foreach key at head test body) n h
        by D.InNbrs = typed-longer (Foreach key at head test body) n h
        by D.UpNbrs = ranged-type key at head test body D.InNbrs f.up (fresh-type 2) n h
        by D.DownNbrs = ranged-type key at head test body D.OutNbrs f.down (fresh-type 3) n h
    levels-type (For key at head test body) n h = typed-longer (For key at head test body) n h
    levels-type (If key c a b) n h =
        let q = both-true (has_type ds Flag c) (is_typed_in ds r a && is_typed_in ds r b) h in
        let p = both-true (is_typed_in ds r a) (is_typed_in ds r b) q.1 in
        and-true (has_type (es ds) Flag c) (is_typed_in (es ds) r (by_levels f marks a) && is_typed_in (es ds) r (by_levels f marks b)) (flag-longer Flag c n.0 q.0)
        (and-true (is_typed_in (es ds) r (by_levels f marks a)) (is_typed_in (es ds) r (by_levels f marks b)) (levels-type a n.1 p.0) (levels-type b n.2 p.1))
    levels-type (While key at c body) n h = typed-longer (While key at c body) n h
    levels-type (Do key at body c) n h = typed-longer (Do key at body c) n h
    levels-type (InBfs key at s c body) n h = typed-longer (InBfs key at s c body) n h
    levels-type (InBfsBoth key at s c body back_key d back) n h = typed-longer (InBfsBoth key at s c body back_key d back) n h
    levels-type (Return key at e) n h = typed-longer (Return key at e) n h

  -- a statement has types under the longer table
  record Typed (b : Stmt) : Type 0 where
    ok : is_typed_in (es ds) r b ≡ true

  skipped : Typed Skip
  skipped = record { ok = refl }

  typed-then : (a b : Stmt) → Typed a → Typed b → Typed (Then a b)
  typed-then a b p q = record { ok = and-true (is_typed_in (es ds) r a) (is_typed_in (es ds) r b) p.ok q.ok }

  module _ (s : Site) where
    current-type : type_at (es ds) f.current ≡ I32
    current-type = fresh-type 1

    -- an Int set to one more, or one less, than the current level
    next-typed : Typed (next_level s f)
    next-typed = record {
      ok = ap (λ t. is_type t (by_one (Some (type_at (es ds) f.current)) (λ t. type_if (fits2 Add t I32) t))) (fresh-type 3) ∙ ap (λ c. is_type I32 (by_one (Some c) (λ t. type_if (fits2 Add t I32) t))) current-type;
    }

    before-typed : (x : ℕ) → type_at (es ds) x ≡ I32 → Typed (level_before s f x)
    before-typed x e = record {
      ok = ap (λ t. is_type t (by_one (Some (type_at (es ds) f.current)) (λ t. type_if (fits2 Sub t I32) t))) e ∙ ap (λ c. is_type I32 (by_one (Some c) (λ t. type_if (fits2 Sub t I32) t))) current-type;
    }

    asked-typed : (asked : Bool) (a : Stmt) → Typed a → Typed (where_asked asked a)
    asked-typed true a h = h
    asked-typed false a h = skipped

    node-type : type_at (es ds) f.node ≡ Node
    node-type = fresh-type 8

    root-type : type_at (es ds) f.root ≡ Node
    root-type = ap (λ (v : Variable). v.vtype) (root-at ds)

    first-typed : Typed (first_levels s f)
    first-typed = record {
      ok = ap (λ t. is_type t (by_one (Some I32) (λ t. type_if (is_type Flag (by_one (Some (type_at (es ds) f.node)) (λ a. by_one (Some (type_at (es ds) f.root)) (λ b. type_if (fits2 Eq a b) Flag))) && is_type t (Some I32)) t))) level-type
          ∙ ap (λ c. is_type I32 (by_one (Some I32) (λ t. type_if (is_type Flag (by_one (Some c) (λ a. by_one (Some (type_at (es ds) f.root)) (λ b. type_if (fits2 Eq a b) Flag))) && is_type t (Some I32)) t))) node-type
          ∙ ap (λ c. is_type I32 (by_one (Some I32) (λ t. type_if (is_type Flag (by_one (Some Node) (λ a. by_one (Some c) (λ b. type_if (fits2 Eq a b) Flag))) && is_type t (Some I32)) t))) root-type;
    }

    begin-typed : (key : Key) (y : ℕ) → Typed (begin s f key y)
    begin-typed key y =
        typed-then _ _ (record { ok = ap (λ t. is_type t (Some Node)) root-type })
        (typed-then (first_levels s f) _ first-typed
        (typed-then _ _ (record { ok = ap (λ t. is_type t (Some I32)) current-type }) (typed-then _ Skip (record { ok = ap (λ t. is_type t (Some Flag)) (fresh-type 4) }) skipped)))

    activate-typed : Typed (activate s f)
    activate-typed = record {
      ok = ap (λ t. is_type t (by_one (Some (type_at (es ds) f.level)) (λ a. by_one (Some (type_at (es ds) f.current)) (λ b. type_if (fits2 Eq a b) Flag)))) active-type
          ∙ equal-type s.place (Property f.node f.level s.place) (Var f.current s.place) (ap Some level-type) (ap Some current-type);
    }

    reach-typed : Typed (reach s f)
    reach-typed = record {
      ok = and-true (is_type Flag (Some (type_at (es ds) f.active))) _ (ap (λ t. is_type Flag (Some t)) active-type)
          (ap (λ t. (is_type t (Some (type_at (es ds) f.down)) && true) && reduces Min t) level-type
          ∙ ap (λ t. (is_type I32 (Some t) && true) && reduces Min I32) (fresh-type 3));
    }

    look-typed : Typed (look s f)
    look-typed = record {
      ok = ap (λ t. (is_type t (type_in (es ds) (Binary Eq s.place (Property f.node f.level s.place) (Var f.down s.place))) && true) && reduces Or t) (fresh-type 5)
          ∙ ap (λ z. (z && true) && reduces Or Flag) (equal-type s.place (Property f.node f.level s.place) (Var f.down s.place) (ap Some level-type) (ap Some (fresh-type 3)));
    }

    same-self : (t : VType) → same_type t t ≡ true
    same-self I32 = refl
    same-self I64 = refl
    same-self Flag = refl
    same-self Node = refl

    copies-typed : (p : ℕ) (marks : List Bool) → p + length marks ≤ k → Typed (sequence (copies_from s f p marks))
    copies-typed p [] b = skipped
    copies-typed p (false ∷ marks) b = copies-typed (suc p) marks (omega arith)
    copies-typed p (true ∷ marks) b =
        typed-then _ (sequence (copies_from s f (suc p) marks))
        (record { ok = ap (λ t. is_type t (Some (type_at (es ds) p))) (copy-type p) ∙ ap (λ t. is_type (type_at ds p) (Some t)) (before-type p (omega arith)) ∙ same-self (type_at ds p) })
        (copies-typed (suc p) marks (omega arith))

    copy-typed : (marks : List Bool) → length marks ≤ k → Typed (copy s f marks)
    copy-typed marks b = by (copies_from s f 0 marks) (copies-typed 0 marks (omega arith))
      where
        by : (cs : List Stmt) → Typed (sequence cs) → Typed (unless_empty s f cs)
        by [] h = skipped
        by (c ∷ cs) h = record { ok = h.ok }

    module _ (key : Key) (x : ℕ) (test : Expr) (body : Stmt) (reads : ReadsBelow k test) (names : NamesBelow k body) (typed-test : has_type ds Flag test ≡ true) (typed-body : is_typed_in ds r body ≡ true) where
      visit-typed : Typed (visit s f (copied k body) key x test body)
      visit-typed = by (is_idle body && is_safe x test)
        where
          by : (b : Bool) → Typed (cond b Skip (Foreach key s.place (over_nodes s x) (conjunction (Property x f.active s.place) test) (by_levels f (copied k body) body)))
          by true = skipped
          by false = record {
            ok = and-true (has_type (es ds) Flag (conjunction (Property x f.active s.place) test)) (is_typed_in (es ds) r (by_levels f (copied k body) body))
                (conjunction-type (Property x f.active s.place) test (ap (λ t. is_type Flag (Some t)) active-type) (flag-longer Flag test reads typed-test))
                (levels-type (copied k body) body names typed-body);
          }

      first-where-typed : (b : Bool) → Typed (first_where b (reach s f) (visit s f (copied k body) key x test body))
      first-where-typed true = typed-then (reach s f) _ reach-typed (typed-then (visit s f (copied k body) key x test body) Skip visit-typed skipped)
      first-where-typed false = typed-then (visit s f (copied k body) key x test body) _ visit-typed (typed-then (reach s f) Skip reach-typed skipped)

      turn-typed : Typed (forward_turn s f k key x test body)
      turn-typed =
          typed-then (next_level s f) _ next-typed
          (typed-then (where_asked (asks_up body) (level_before s f f.up)) _ (asked-typed (asks_up body) (level_before s f f.up) (before-typed f.up (fresh-type 2)))
          (typed-then _ _ (record { ok = ap (λ t. is_type t (Some Flag)) (fresh-type 5) })
          (typed-then (activate s f) _ activate-typed
          (typed-then (copy s f (copied k body)) _ (copy-typed (copied k body) (copied-short k body))
          (typed-then (first_where (asks_down body) (reach s f) (visit s f (copied k body) key x test body)) _ (first-where-typed (asks_down body))
          (typed-then (look s f) _ look-typed
          (typed-then _ _ (record { ok = ap (λ t. is_type t (Some (type_at (es ds) f.found))) (fresh-type 4) ∙ ap (λ t. is_type Flag (Some t)) (fresh-type 5) })
          (typed-then _ Skip (record { ok = ap (λ t. is_type t (Some (type_at (es ds) f.down))) current-type ∙ ap (λ t. is_type I32 (Some t)) (fresh-type 3) }) skipped))))))))

      forward-typed : Typed (forward s f k key x test body)
      forward-typed = record { ok = and-true (is_type Flag (Some (type_at (es ds) f.more))) (is_typed_in (es ds) r (forward_turn s f k key x test body)) (ap (λ t. is_type Flag (Some t)) (fresh-type 4)) turn-typed.ok }

      back-typed : Typed (back_turn s f k key x test body)
      back-typed =
          typed-then (where_asked (asks_down body) (next_level s f)) _ (asked-typed (asks_down body) (next_level s f) next-typed)
          (typed-then (where_asked (asks_up body) (level_before s f f.up)) _ (asked-typed (asks_up body) (level_before s f f.up) (before-typed f.up (fresh-type 2)))
          (typed-then (activate s f) _ activate-typed
          (typed-then (copy s f (copied k body)) _ (copy-typed (copied k body) (copied-short k body))
          (typed-then (visit s f (copied k body) key x test body) _ visit-typed
          (typed-then (level_before s f f.current) Skip (before-typed f.current current-type) skipped)))))

      backward-typed : Typed (backward s f k key x test body)
      backward-typed =
          typed-then (level_before s f f.current) _ (before-typed f.current current-type)
          (typed-then _ Skip
          (record { ok = and-true (is_type Flag (by_one (Some (type_at (es ds) f.current)) (λ t. type_if (fits2 Ge t I32) Flag))) (is_typed_in (es ds) r (back_turn s f k key x test body)) (ap (λ c. is_type Flag (by_one (Some c) (λ t. type_if (fits2 Ge t I32) Flag))) current-type) back-typed.ok })
          skipped)

  -- a whole phase
  phase-typed : (b : Stmt) → NamesBelow k b → is_typed_in ds r b ≡ true → Typed (searches_out f k b)
  phase-typed Skip n h = skipped
  phase-typed (Then a b) n h = let q = both-true (is_typed_in ds r a) (is_typed_in ds r b) h in typed-then (searches_out f k a) (searches_out f k b) (phase-typed a n.0 q.0) (phase-typed b n.1 q.1)
  phase-typed (Declare key y e) n h = record { ok = typed-longer (Declare key y e) n h }
  phase-typed (DeclareEdge y z at) n h = record { ok = refl }
  phase-typed (Assign key t e) n h = record { ok = typed-longer (Assign key t e) n h }
  phase-typed (Defer key t e) n h = record { ok = typed-longer (Defer key t e) n h }
  phase-typed (Combine key total op ts vs) n h = record { ok = typed-longer (Combine key total op ts vs) n h }
  phase-typed (Group key at y p e) n h = record { ok = typed-longer (Group key at y p e) n h }
  phase-typed (Foreach key at head test body) n h = record { ok = typed-longer (Foreach key at head test body) n h }
  phase-typed (For key at head test body) n h =
      let q = both-true (has_type ds Flag test) (is_typed_in ds r body) h in record { ok = and-true (has_type (es ds) Flag test) (is_typed_in (es ds) r (searches_out f k body)) (flag-longer Flag test n.2 q.0) (phase-typed body n.3 q.1).ok }
  phase-typed (If key c a b) n h =
      let q = both-true (has_type ds Flag c) (is_typed_in ds r a && is_typed_in ds r b) h in
      let p = both-true (is_typed_in ds r a) (is_typed_in ds r b) q.1 in
      record { ok = and-true (has_type (es ds) Flag c) (is_typed_in (es ds) r (searches_out f k a) && is_typed_in (es ds) r (searches_out f k b)) (flag-longer Flag c n.0 q.0) (typed-then (searches_out f k a) (searches_out f k b) (phase-typed a n.1 p.0) (phase-typed b n.2 p.1)).ok }
  phase-typed (While key at c body) n h =
      let q = both-true (has_type ds Flag c) (is_typed_in ds r body) h in record { ok = and-true (has_type (es ds) Flag c) (is_typed_in (es ds) r (searches_out f k body)) (flag-longer Flag c n.0 q.0) (phase-typed body n.1 q.1).ok }
  phase-typed (Do key at body c) n h =
      let q = both-true (is_typed_in ds r body) (has_type ds Flag c) h in record { ok = and-true (is_typed_in (es ds) r (searches_out f k body)) (has_type (es ds) Flag c) (phase-typed body n.0 q.0).ok (flag-longer Flag c n.1 q.1) }
  phase-typed (InBfs key at search test body) n h =
      let q = both-true (has_type ds Flag test) (is_typed_in ds r body) h in
      let s : Site = site_of key search in
      typed-then (begin s f key search.root) _ (begin-typed s key search.root) (typed-then (forward s f k key search.iterator test body) Skip (forward-typed s key search.iterator test body n.2 n.3 q.0 q.1) skipped)
  phase-typed (InBfsBoth key at search test body back_key back_test back) n h =
      let q = both-true (has_type ds Flag test) (is_typed_in ds r body && (has_type ds Flag back_test && is_typed_in ds r back)) h in
      let p = both-true (is_typed_in ds r body) (has_type ds Flag back_test && is_typed_in ds r back) q.1 in
      let o = both-true (has_type ds Flag back_test) (is_typed_in ds r back) p.1 in
      let s : Site = site_of key search in
      typed-then (begin s f key search.root) _ (begin-typed s key search.root)
      (typed-then (forward s f k key search.iterator test body) _ (forward-typed s key search.iterator test body n.2 n.3 q.0 p.0)
      (typed-then (backward s f k back_key search.iterator back_test back) Skip (backward-typed s back_key search.iterator back_test back n.4 n.5 o.0 o.1) skipped))
  phase-typed (Return key at e) n h = record { ok = may-longer r e n h }

pub levelled-typed : (p : Program) → is_named p ≡ true → has_types p ≡ true → has_types (levelled p) ≡ true
levelled-typed p named h = by (has_search p.body)
  where
    by : (b : Bool) → has_types (cond b (record p { declarations = es p.declarations; body = searches_out (fresh_from (length p.declarations)) (length p.declarations) p.body }) p) ≡ true
    by false = h
    by true =
        let q = both-true (nat_le (p.inputs + p.outputs) (length p.declarations)) (list_all (suits p.declarations) (uses_of p.body)) named in
        (phase-typed p.declarations p.result p.body (names-below p.declarations p.body q.1) h).ok
