-- The table with the fresh variables behind the declared ones.
use Rattle.std.proofs.Common.{◌≡◌, ◌<◌, ◌+◌, ℕ, zero, suc, Bool, true, false, cond, List, [], ◌∷◌, ◌++◌, map, length, refl, sym, ap, ◌∙◌, arith, Option, Some, None, length-append, ⊎_elim}
use Rattle.std.specs.Prelude.{◌&&◌, ◌||◌, nat_eq, nat_lt}
use Rattle.std.specs.List.{list_all}
use Rattle.std.proofs.lemmas.Bool.{lt-ltb, ltb-true, eqb-true, eq-eqb, cases_Bool}
use Rattle.std.proofs.lemmas.List.{get_or-set_other}
use Rattle.gm_ast.specs.declared.tree.Declaration.{Declaration}
use Rattle.gm_ast.specs.declared.tree.Sort.TheVariants as Sorts
use Rattle.gm_ast.specs.declared.tree.Variable.{Variable}
use Rattle.gm_ast.specs.Program.{Expr, Const, Var, Property, EdgeProperty, Degree, NodeCount, EdgeCount, Live, Unary, Binary, Both, Either, Choose, Folded, Stmt, Skip, Then, Declare, DeclareEdge, Assign, Defer, Combine, Group, Foreach, For, If, While, Do, InBfs, InBfsBoth, Return}
use Rattle.gm_ast.specs.Loops.{asks_levels}
use Rattle.gm_semantics.specs.Statements.{variable_at}
use Rattle.gm_semantics.proofs.TargetLaws.{never}
use Rattle.gm_forms.specs.Uses.{Role, Written, Owner, NodeValue, Use, use_as, has_role, suits, uses_of_head, uses_in, uses_in_all, uses_of_target, uses_of_targets, uses_of_declared, uses_of}
use Rattle.gm_forms.proofs.Named.{both-true, all-append}
use Rattle.gm_forms.proofs.Weaker.{and-true}
use Rattle.gm_bfs.specs.Variables.{fresh_declarations, copy_declaration, with_fresh}
use Rattle.gm_bfs.specs.Copies.{is_marked, mark, mark_read, mark_reads, mark_option, mark_all, mark_inner, mark_changes, mark_levels, no_marks, copied, asks_up, asks_down}
use Rattle.gm_bfs.proofs.Form.{variable-before, variable-behind}

pub all-both : {A : Type 0} (f : A → Bool) (xs ys : List A) → list_all f xs ≡ true → list_all f ys ≡ true → list_all f (xs ++ ys) ≡ true
all-both f [] ys p q = q
all-both f (x ∷ xs) ys p q = let b = both-true (f x) (list_all f xs) p in and-true (f x) (list_all f (xs ++ ys)) b.0 (all-both f xs ys b.1 q)

map-length : {A B : Type 0} (f : A → B) (xs : List A) → length (map f xs) ≡ length xs
map-length f [] = refl
map-length f (x ∷ xs) = ap suc (map-length f xs)

-- a copy is a property of nodes of the same type
abbrev as_property : Variable → Variable
as_property v = record { sort = Sorts.NodeProperty; vtype = v.vtype; depth = 0 }

copies-behind : (ds : List Declaration) (p : ℕ) → p < length ds → variable_at (map copy_declaration ds) p ≡ as_property (variable_at ds p)
copies-behind [] p b = absurd (omega arith)
copies-behind (d ∷ ds) zero b = refl
copies-behind (d ∷ ds) (suc p) b = copies-behind ds p (omega arith)

copies-type : (ds : List Declaration) (p : ℕ) → (variable_at (map copy_declaration ds) p).vtype ≡ (variable_at ds p).vtype
copies-type [] p = refl
copies-type (d ∷ ds) zero = refl
copies-type (d ∷ ds) (suc p) = copies-type ds p

module _ (ds : List Declaration) where
  abbrev pub k : ℕ
  k = length ds

  abbrev pub es : List Declaration
  es = with_fresh ds

  pub long : length es ≡ k + (10 + k)
  long =
      length-append ds (fresh_declarations ++ map copy_declaration ds)
      ∙ ap (λ n. length ds + n) (length-append fresh_declarations (map copy_declaration ds) ∙ ap (λ n. 10 + n) (map-length copy_declaration ds))

  pub before-same : (x : ℕ) → x < k → variable_at es x ≡ variable_at ds x
  before-same = variable-before ds (fresh_declarations ++ map copy_declaration ds)

  pub fresh-at : (i : ℕ) → variable_at es (k + i) ≡ variable_at (fresh_declarations ++ map copy_declaration ds) i
  fresh-at i = variable-behind ds (fresh_declarations ++ map copy_declaration ds) i

  pub root-at : variable_at es k ≡ variable_at fresh_declarations 0
  root-at = let is : k ≡ k + 0 = omega arith in ap (variable_at es) is ∙ fresh-at 0

  copy-where : (p : ℕ) → variable_at es (k + 10 + p) ≡ variable_at (map copy_declaration ds) p
  copy-where p =
      let is : k + 10 + p ≡ k + (10 + p) = omega arith in
      ap (variable_at es) is ∙ fresh-at (10 + p) ∙ variable-behind fresh_declarations (map copy_declaration ds) p

  pub copy-at : (p : ℕ) → p < k → variable_at es (k + 10 + p) ≡ as_property (variable_at ds p)
  copy-at p b = copy-where p ∙ copies-behind ds p b

  pub copy-type-at : (p : ℕ) → (variable_at es (k + 10 + p)).vtype ≡ (variable_at ds p).vtype
  copy-type-at p = ap (λ (v : Variable). v.vtype) (copy-where p) ∙ copies-type ds p

  -- a use of a variable whose kind is known
  pub suit-by : (x : ℕ) (role : Role) (v : Variable) → x < length es → variable_at es x ≡ v → has_role v role ≡ true → suits es (record { variable = x; role = role }) ≡ true
  suit-by x role v b e h = and-true (nat_lt x (length es)) (has_role (variable_at es x) role) (lt-ltb x (length es) b) (ap (λ z. has_role z role) e ∙ h)

  pub suit-fresh : (i : ℕ) (role : Role) → i < 10 → has_role (variable_at (fresh_declarations ++ map copy_declaration ds) i) role ≡ true → suits es (record { variable = k + i; role = role }) ≡ true
  suit-fresh i role b h = let l = long in suit-by (k + i) role (variable_at (fresh_declarations ++ map copy_declaration ds) i) (omega arith) (fresh-at i) h

  pub suit-root : (role : Role) → has_role (variable_at fresh_declarations 0) role ≡ true → suits es (record { variable = k; role = role }) ≡ true
  suit-root role h = let l = long in suit-by k role (variable_at fresh_declarations 0) (omega arith) root-at h

  -- uses under the shorter table are uses under the longer one
  pub suit-longer : (u : Use) → suits ds u ≡ true → suits es u ≡ true
  suit-longer u h =
      let b = both-true (nat_lt u.variable k) (has_role (variable_at ds u.variable) u.role) h in
      let less = ltb-true u.variable k b.0 in
      let l = long in
      suit-by u.variable u.role (variable_at ds u.variable) (omega arith) (before-same u.variable less) b.1

  pub suit-copy : (p : ℕ) → suits ds (record { variable = p; role = NodeValue }) ≡ true → suits es (record { variable = k + 10 + p; role = NodeValue }) ≡ true
  suit-copy p h =
      let b = both-true (nat_lt p k) (has_role (variable_at ds p) NodeValue) h in
      let less = ltb-true p k b.0 in
      let l = long in
      suit-by (k + 10 + p) NodeValue (as_property (variable_at ds p)) (omega arith) (copy-at p less) refl

  pub all-longer : (us : List Use) → list_all (suits ds) us ≡ true → list_all (suits es) us ≡ true
  all-longer [] h = refl
  all-longer (u ∷ us) h = let b = both-true (suits ds u) (list_all (suits ds) us) h in and-true (suits es u) (list_all (suits es) us) (suit-longer u b.0) (all-longer us b.1)

  -- marked variables are properties
  abbrev pub Marked : List Bool → Type 0
  Marked marks = (p : ℕ) → is_marked marks p ≡ true → suits ds (record { variable = p; role = NodeValue }) ≡ true

  abbrev Suit : List Use → Type 0
  Suit us = list_all (suits ds) us ≡ true

  mark-marked : (p : ℕ) (marks : List Bool) → suits ds (record { variable = p; role = NodeValue }) ≡ true → Marked marks → Marked (mark p marks)
  mark-marked p marks h m q e =
      ⊎_elim
      (λ (is : nat_eq q p ≡ true). ap (λ x. suits ds (record { variable = x; role = NodeValue })) (eqb-true q p is) ∙ h)
      (λ (not : nat_eq q p ≡ false). m q (sym (get_or-set_other marks p q true false (λ i. never (eq-eqb q p i) not)) ∙ e))
      (cases_Bool (nat_eq q p))

  module _ (changed : List Bool) (w : ℕ) where
    read-marked : (x p : ℕ) (marks : List Bool) → suits ds (record { variable = p; role = NodeValue }) ≡ true → Marked marks → Marked (mark_read changed w x p marks)
    read-marked x p marks h m = by (nat_eq x w && is_marked changed p)
      where
        by : (b : Bool) → Marked (cond b (mark p marks) marks)
        by true = mark-marked p marks h m
        by false = m

    reads-marked : (e : Expr) (marks : List Bool) → Suit (uses_in e) → Marked marks → Marked (mark_reads changed w e marks)
    reads-marked (Const v) marks h m = m
    reads-marked (Var x at) marks h m = m
    reads-marked (Property x p at) marks h m =
        let r = all-append (suits ds) (use_as Owner x) (use_as NodeValue p) h in
        read-marked x p marks (both-true (suits ds (record { variable = p; role = NodeValue })) true r.1).0 m
    reads-marked (EdgeProperty x p at) marks h m = m
    reads-marked (Degree d x at) marks h m = m
    reads-marked NodeCount marks h m = m
    reads-marked EdgeCount marks h m = m
    reads-marked (Live x at) marks h m = m
    reads-marked (Unary op at e) marks h m = reads-marked e marks h m
    reads-marked (Binary op at a b) marks h m = let r = all-append (suits ds) (uses_in a) (uses_in b) h in reads-marked b (mark_reads changed w a marks) r.1 (reads-marked a marks r.0 m)
    reads-marked (Both a b) marks h m = let r = all-append (suits ds) (uses_in a) (uses_in b) h in reads-marked b (mark_reads changed w a marks) r.1 (reads-marked a marks r.0 m)
    reads-marked (Either a b) marks h m = let r = all-append (suits ds) (uses_in a) (uses_in b) h in reads-marked b (mark_reads changed w a marks) r.1 (reads-marked a marks r.0 m)
    reads-marked (Choose c a b) marks h m =
        let r = all-append (suits ds) (uses_in c) (uses_in a ++ uses_in b) h in
        let s = all-append (suits ds) (uses_in a) (uses_in b) r.1 in
        reads-marked b (mark_reads changed w a (mark_reads changed w c marks)) s.1 (reads-marked a (mark_reads changed w c marks) s.0 (reads-marked c marks r.0 m))
    reads-marked (Folded f head test e) marks h m =
        let r = all-append (suits ds) (uses_of_head head) (uses_in test ++ uses_in e) h in
        let s = all-append (suits ds) (uses_in test) (uses_in e) r.1 in
        reads-marked e (mark_reads changed w test marks) s.1 (reads-marked test marks s.0 m)

    option-marked : (y : ℕ) (e : Option Expr) (marks : List Bool) → Suit (uses_of_declared y e) → Marked marks → Marked (mark_option changed w e marks)
    option-marked y None marks h m = m
    option-marked y (Some e) marks h m = reads-marked e marks (all-append (suits ds) (use_as Written y) (uses_in e) h).1 m

    all-marked : (vs : List Expr) (marks : List Bool) → Suit (uses_in_all vs) → Marked marks → Marked (mark_all changed w vs marks)
    all-marked [] marks h m = m
    all-marked (e ∷ vs) marks h m = let r = all-append (suits ds) (uses_in e) (uses_in_all vs) h in all-marked vs (mark_reads changed w e marks) r.1 (reads-marked e marks r.0 m)

    inner-marked : (b : Stmt) (marks : List Bool) → Suit (uses_of b) → Marked marks → Marked (mark_inner changed w b marks)
    inner-marked Skip marks h m = m
    inner-marked (Then a b) marks h m = let r = all-append (suits ds) (uses_of a) (uses_of b) h in inner-marked b (mark_inner changed w a marks) r.1 (inner-marked a marks r.0 m)
    inner-marked (Declare key y e) marks h m = option-marked y e marks h m
    inner-marked (DeclareEdge y z at) marks h m = m
    inner-marked (Assign key t e) marks h m = reads-marked e marks (all-append (suits ds) (uses_of_target t) (uses_in e) h).1 m
    inner-marked (Defer key t e) marks h m = m
    inner-marked (Combine key total r ts vs) marks h m = all-marked vs marks (all-append (suits ds) (uses_of_targets ts) (uses_in_all vs) h).1 m
    inner-marked (Group key at y p e) marks h m = m
    inner-marked (Foreach key at head test body) marks h m = m
    inner-marked (For key at head test body) marks h m = m
    inner-marked (If key c a b) marks h m =
        let r = all-append (suits ds) (uses_in c) (uses_of a ++ uses_of b) h in
        let s = all-append (suits ds) (uses_of a) (uses_of b) r.1 in
        inner-marked b (mark_inner changed w a (mark_reads changed w c marks)) s.1 (inner-marked a (mark_reads changed w c marks) s.0 (reads-marked c marks r.0 m))
    inner-marked (While key at c body) marks h m = m
    inner-marked (Do key at body c) marks h m = m
    inner-marked (InBfs key at search c body) marks h m = m
    inner-marked (InBfsBoth key at search c body back_key d back) marks h m = m
    inner-marked (Return key at e) marks h m = m

  levels-marked : (changed : List Bool) (b : Stmt) (marks : List Bool) → Suit (uses_of b) → Marked marks → Marked (mark_levels changed b marks)
  levels-marked changed Skip marks h m = m
  levels-marked changed (Then a b) marks h m = let r = all-append (suits ds) (uses_of a) (uses_of b) h in levels-marked changed b (mark_levels changed a marks) r.1 (levels-marked changed a marks r.0 m)
  levels-marked changed (Declare key y e) marks h m = m
  levels-marked changed (DeclareEdge y z at) marks h m = m
  levels-marked changed (Assign key t e) marks h m = m
  levels-marked changed (Defer key t e) marks h m = m
  levels-marked changed (Combine key total r ts vs) marks h m = m
  levels-marked changed (Group key at y p e) marks h m = m
  levels-marked changed (Foreach key at head test body) marks h m = by (asks_levels head.domain)
    where
      by : (b : Bool) → Marked (cond b (mark_inner changed head.iterator body (mark_reads changed head.iterator test marks)) marks)
      by true =
          let r = all-append (suits ds) (uses_of_head head) (uses_in test ++ uses_of body) h in
          let s = all-append (suits ds) (uses_in test) (uses_of body) r.1 in
          inner-marked changed head.iterator body (mark_reads changed head.iterator test marks) s.1 (reads-marked changed head.iterator test marks s.0 m)
      by false = m
  levels-marked changed (For key at head test body) marks h m = m
  levels-marked changed (If key c a b) marks h m =
      let r = all-append (suits ds) (uses_in c) (uses_of a ++ uses_of b) h in
      let s = all-append (suits ds) (uses_of a) (uses_of b) r.1 in
      levels-marked changed b (mark_levels changed a marks) s.1 (levels-marked changed a marks s.0 m)
  levels-marked changed (While key at c body) marks h m = m
  levels-marked changed (Do key at body c) marks h m = m
  levels-marked changed (InBfs key at search c body) marks h m = m
  levels-marked changed (InBfsBoth key at search c body back_key d back) marks h m = m
  levels-marked changed (Return key at e) marks h m = m

  pub none-marked : (n p : ℕ) → is_marked (no_marks n) p ≡ false
  none-marked zero p = refl
  none-marked (suc n) zero = refl
  none-marked (suc n) (suc p) = none-marked n p

  -- so are those that a part copies
  pub copied-marked : (n : ℕ) (body : Stmt) → Suit (uses_of body) → Marked (copied n body)
  copied-marked n body h = by (asks_up body || asks_down body)
    where
      by : (b : Bool) → Marked (cond b (mark_levels (mark_changes body (no_marks n)) body (no_marks n)) [])
      by true = levels-marked (mark_changes body (no_marks n)) body (no_marks n) h (λ p e. never e (none-marked n p))
      by false = λ p e. never e refl
