-- What the form and the uses of a search's part say of it.
use Rattle.std.proofs.Common.{◌≡◌, ◌<◌, ◌≤◌, ℕ, Bool, true, false, cond, List, [], ◌∷◌, ◌++◌, length, refl, ◌∙◌, arith, Option, Some, None}
use Rattle.std.specs.Prelude.{◌≢◌, ◌&&◌, ◌||◌, not, nat_eq, nat_lt}
use Rattle.std.specs.List.{list_all}
use Rattle.std.proofs.lemmas.Bool.{eqb-true, eq-eqb}
use Rattle.std.proofs.lemmas.List.{length-set, length-replicate}
use Rattle.gm_ast.specs.declared.tree.Declaration.{Declaration}
use Rattle.gm_ast.specs.declared.tree.Sort.{Sort}
use Rattle.gm_ast.specs.declared.tree.Sort.TheVariants as Sorts
use Rattle.gm_ast.specs.declared.tree.Target.{Target}
use Rattle.gm_ast.specs.declared.tree.Target.TheVariants as T
use Rattle.gm_ast.specs.declared.tree.Variable.{Variable}
use Rattle.gm_ast.specs.Names.{is}
use Rattle.gm_ast.specs.Program.{Expr, Property, Unary, Binary, Both, Either, Choose, Folded, Const, Var, EdgeProperty, Degree, NodeCount, EdgeCount, Live, Stmt, Skip, Then, Declare, DeclareEdge, Assign, Defer, Combine, Group, Foreach, For, If, While, Do, InBfs, InBfsBoth, Return}
use Rattle.gm_ast.specs.Loops.{asks_levels}
use Rattle.gm_semantics.specs.Frames.{ReadsBelow, TargetBelow, TargetsBelow, NamesBelow}
use Rattle.gm_semantics.specs.Statements.{variable_at}
use Rattle.gm_semantics.proofs.TargetLaws.{never}
use Rattle.gm_forms.specs.Forms.{depth_at, may, is_flat, is_own, is_range, is_inner_local, is_inner_given, is_within, is_given, are_reduced, is_inner_body, is_inner_head, is_outer_body, is_flat_loop}
use Rattle.gm_forms.specs.Uses.{Role, Iterates, Written, Declared, Use, use_as, has_role, suits, owner_role, uses_of_head, uses_in, uses_in_all, uses_of_target, uses_of_targets, uses_of_declared, uses_of}
use Rattle.gm_forms.proofs.CutTests.{flat, all-flat, not-true}
use Rattle.gm_forms.proofs.Named.{both-true, all-append}
use Rattle.gm_bfs.specs.Copies.{mark, mark_read, mark_reads, mark_option, mark_all, mark_inner, mark_changes, mark_levels, no_marks, copied, asks_up, asks_down, is_marked}
use Rattle.gm_bfs.proofs.Kept.{MayTarget, EachOf, IsHome, MayWrite}
use Rattle.gm_bfs.proofs.Ranges.{MayFlat, Inner, Outer}
use Rattle.gm_bfs.proofs.Visits.{Part}

-- whether a variable is an iterator, or stands for one
abbrev pub iterates : Variable → Bool
iterates v = is Sorts.Iterator v || is Sorts.Graph v

pub written-apart : (v : Variable) → has_role v Written ≡ true → iterates v ≡ false
written-apart v h = by v.sort h
  where
    by : (sort : Sort) → is Sorts.Scalar (record v { sort = sort }) ≡ true → is Sorts.Iterator (record v { sort = sort }) || is Sorts.Graph (record v { sort = sort }) ≡ false
    by Sorts.Graph h = never h refl
    by Sorts.Iterator h = never h refl
    by Sorts.Scalar h = refl
    by Sorts.Edge h = refl
    by Sorts.NodeProperty h = refl
    by Sorts.EdgeProperty h = refl

pub declared-apart : (v : Variable) → has_role v Declared ≡ true → iterates v ≡ false
declared-apart v h = by v.sort h
  where
    by : (sort : Sort) → has_role (record v { sort = sort }) Declared ≡ true → is Sorts.Iterator (record v { sort = sort }) || is Sorts.Graph (record v { sort = sort }) ≡ false
    by Sorts.Graph h = never h refl
    by Sorts.Iterator h = never h refl
    by Sorts.Scalar h = refl
    by Sorts.Edge h = refl
    by Sorts.NodeProperty h = refl
    by Sorts.EdgeProperty h = refl

module _ (ds : List Declaration) (k : ℕ) where
  -- scalars that are written, and properties
  abbrev pub Scalars : ℕ → Type 0
  Scalars y = (y < k) × (iterates (variable_at ds y) ≡ false)

  abbrev pub Properties : ℕ → Type 0
  Properties p = p < k

  abbrev Suit : List Use → Type 0
  Suit us = list_all (suits ds) us ≡ true

  role-of : (role : Role) (x : ℕ) → Suit (use_as role x) → has_role (variable_at ds x) role ≡ true
  role-of role x h =
      let s = both-true (suits ds (record { variable = x; role = role })) true h in
      (both-true (nat_lt x (length ds)) (has_role (variable_at ds x) role) s.0).1

  pub iterator-apart : (x : ℕ) → Suit (use_as Iterates x) → Scalars x → ⊥
  iterator-apart x h s = never (role-of Iterates x h) s.1

  written-scalar : (x : ℕ) → x < k → Suit (use_as Written x) → Scalars x
  written-scalar x b h = (b, written-apart (variable_at ds x) (role-of Written x h))

  declared-scalar : (x : ℕ) (e : Option Expr) → x < k → Suit (uses_of_declared x e) → Scalars x
  declared-scalar x None b h = (b, declared-apart (variable_at ds x) (role-of Declared x h))
  declared-scalar x (Some e) b h = written-scalar x b (all-append (suits ds) (use_as Written x) (uses_in e) h).0

  target-may : (t : Target) → TargetBelow k t → Suit (uses_of_target t) → MayTarget Scalars Properties t
  target-may (T.Scalar x at) b h = written-scalar x b h
  target-may (T.Property x p at) b h = b.1

  targets-may : (ts : List Target) → TargetsBelow k ts → Suit (uses_of_targets ts) → EachOf Scalars Properties (MayTarget Scalars Properties) ts
  targets-may [] b h = tt
  targets-may (t ∷ ts) b h = let r = all-append (suits ds) (uses_of_target t) (uses_of_targets ts) h in (target-may t b.0 r.0, targets-may ts b.1 r.1)

  module _ (x : ℕ) where
    inner-may : (its : List ℕ) (edge : Bool) (b : Stmt) → Suit (uses_of b) → NamesBelow k b → is_inner_body ds its edge b ≡ true → MayWrite Scalars Properties x b
    inner-may its edge Skip h n f = tt
    inner-may its edge (Then a b) h n f =
        let r = all-append (suits ds) (uses_of a) (uses_of b) h in
        let q = both-true (is_inner_body ds its edge a) (is_inner_body ds its edge b) f in
        (inner-may its edge a r.0 n.0 q.0, inner-may its edge b r.1 n.1 q.1)
    inner-may its edge (Declare key y e) h n f = declared-scalar y e n.0 h
    inner-may its edge (DeclareEdge y z at) h n f = tt
    inner-may its edge (Assign key (T.Scalar y at) e) h n f = written-scalar y n.0 (all-append (suits ds) (use_as Written y) (uses_in e) h).0
    inner-may its edge (Assign key (T.Property y p at) e) h n f = never f refl
    inner-may its edge (Defer key t e) h n f = never f refl
    inner-may its edge (Combine key total r ts es) h n f = targets-may ts n.0 (all-append (suits ds) (uses_of_targets ts) (uses_in_all es) h).0
    inner-may its edge (Group key at y p e) h n f = never f refl
    inner-may its edge (Foreach key at head test body) h n f = never f refl
    inner-may its edge (For key at head test body) h n f = never f refl
    inner-may its edge (If key c a b) h n f =
        let r = all-append (suits ds) (uses_in c) (uses_of a ++ uses_of b) h in
        let s = all-append (suits ds) (uses_of a) (uses_of b) r.1 in
        let q = both-true (is_flat its edge c) (is_inner_body ds its edge a && is_inner_body ds its edge b) f in
        let p = both-true (is_inner_body ds its edge a) (is_inner_body ds its edge b) q.1 in
        (inner-may its edge a s.0 n.1 p.0, inner-may its edge b s.1 n.2 p.1)
    inner-may its edge (While key at c body) h n f = never f refl
    inner-may its edge (Do key at body c) h n f = never f refl
    inner-may its edge (InBfs key at search c body) h n f = never f refl
    inner-may its edge (InBfsBoth key at search c body back_key d back) h n f = never f refl
    inner-may its edge (Return key at e) h n f = never f refl

    may-flat : (its : List ℕ) (edge : Bool) (e : Option Expr) → may (is_flat its edge) e ≡ true → MayFlat e
    may-flat its edge None h = tt
    may-flat its edge (Some e) h = flat its edge e h

    inner-shape : (its : List ℕ) (edge : Bool) (b : Stmt) → is_inner_body ds its edge b ≡ true → Inner b
    inner-shape its edge Skip f = tt
    inner-shape its edge (Then a b) f = let q = both-true (is_inner_body ds its edge a) (is_inner_body ds its edge b) f in (inner-shape its edge a q.0, inner-shape its edge b q.1)
    inner-shape its edge (Declare key y e) f = may-flat its edge e (both-true (nat_eq (depth_at ds y) 2) (may (is_flat its edge) e) f).1
    inner-shape its edge (DeclareEdge y z at) f = tt
    inner-shape its edge (Assign key t e) f = flat its edge e (both-true (is_inner_local ds t) (is_flat its edge e) f).1
    inner-shape its edge (Defer key t e) f = tt
    inner-shape its edge (Combine key total r ts es) f = all-flat its edge es (both-true (are_reduced (is_inner_given ds) (is_within ds 2) r ts) (list_all (is_flat its edge) es) f).1
    inner-shape its edge (Group key at y p e) f = tt
    inner-shape its edge (Foreach key at head test body) f = tt
    inner-shape its edge (For key at head test body) f = tt
    inner-shape its edge (If key c a b) f =
        let q = both-true (is_flat its edge c) (is_inner_body ds its edge a && is_inner_body ds its edge b) f in
        let p = both-true (is_inner_body ds its edge a) (is_inner_body ds its edge b) q.1 in
        (flat its edge c q.0, inner-shape its edge a p.0, inner-shape its edge b p.1)
    inner-shape its edge (While key at c body) f = tt
    inner-shape its edge (Do key at body c) f = tt
    inner-shape its edge (InBfs key at search c body) f = tt
    inner-shape its edge (InBfsBoth key at search c body back_key d back) f = tt
    inner-shape its edge (Return key at e) f = tt

    own-home : (t : Target) → TargetBelow k t → Suit (uses_of_target t) → is_own ds x t ≡ true → IsHome Scalars Properties x t
    own-home (T.Scalar y at) b h o = written-scalar y b h
    own-home (T.Property y p at) b h o = (b.1, eqb-true y x o)

    apart : (y : ℕ) → not (nat_eq y x) ≡ true → y ≢ x
    apart y h e = never (eq-eqb y x e) (not-true (nat_eq y x) h)

    outer-may : (b : Stmt) → Suit (uses_of b) → NamesBelow k b → is_outer_body ds true x b ≡ true → MayWrite Scalars Properties x b
    outer-may Skip h n f = tt
    outer-may (Then a b) h n f =
        let r = all-append (suits ds) (uses_of a) (uses_of b) h in
        let q = both-true (is_outer_body ds true x a) (is_outer_body ds true x b) f in
        (outer-may a r.0 n.0 q.0, outer-may b r.1 n.1 q.1)
    outer-may (Declare key y e) h n f = declared-scalar y e n.0 h
    outer-may (DeclareEdge y z at) h n f = tt
    outer-may (Assign key t e) h n f = own-home t n.0 (all-append (suits ds) (uses_of_target t) (uses_in e) h).0 (both-true (is_own ds x t) (is_flat (x ∷ []) false e) f).0
    outer-may (Defer key (T.Scalar y at) e) h n f = never f refl
    outer-may (Defer key (T.Property y p at) e) h n f = n.0.1
    outer-may (Combine key total r ts es) h n f = targets-may ts n.0 (all-append (suits ds) (uses_of_targets ts) (uses_in_all es) h).0
    outer-may (Group key at y p e) h n f = never f refl
    outer-may (Foreach key at head test body) h n f =
        let r = all-append (suits ds) (uses_of_head head) (uses_in test ++ uses_of body) h in
        let s = all-append (suits ds) (uses_in test) (uses_of body) r.1 in
        let u = all-append (suits ds) (use_as Iterates head.iterator) (use_as (owner_role head.domain) head.owner) r.0 in
        let its = x ∷ head.iterator ∷ [] in
        let q = both-true (is_inner_head true x head) (is_flat its true test && is_inner_body ds its true body) f in
        let p = both-true (is_flat its true test) (is_inner_body ds its true body) q.1 in
        let i = both-true (is_range true head.domain) (nat_eq head.owner x && not (nat_eq head.iterator x)) q.0 in
        let j = both-true (nat_eq head.owner x) (not (nat_eq head.iterator x)) i.1 in
        (apart head.iterator j.1, iterator-apart head.iterator u.0, inner-may its true body s.1 n.3 p.1)
    outer-may (For key at head test body) h n f = never f refl
    outer-may (If key c a b) h n f =
        let r = all-append (suits ds) (uses_in c) (uses_of a ++ uses_of b) h in
        let s = all-append (suits ds) (uses_of a) (uses_of b) r.1 in
        let q = both-true (is_flat (x ∷ []) false c) (is_outer_body ds true x a && is_outer_body ds true x b) f in
        let p = both-true (is_outer_body ds true x a) (is_outer_body ds true x b) q.1 in
        (outer-may a s.0 n.1 p.0, outer-may b s.1 n.2 p.1)
    outer-may (While key at c body) h n f = never f refl
    outer-may (Do key at body c) h n f = never f refl
    outer-may (InBfs key at search c body) h n f = never f refl
    outer-may (InBfsBoth key at search c body back_key d back) h n f = never f refl
    outer-may (Return key at e) h n f = never f refl

    outer-shape : (b : Stmt) → is_outer_body ds true x b ≡ true → Outer x b
    outer-shape Skip f = tt
    outer-shape (Then a b) f = let q = both-true (is_outer_body ds true x a) (is_outer_body ds true x b) f in (outer-shape a q.0, outer-shape b q.1)
    outer-shape (Declare key y e) f = may-flat (x ∷ []) false e (both-true (nat_eq (depth_at ds y) 1) (may (is_flat (x ∷ []) false) e) f).1
    outer-shape (DeclareEdge y z at) f = tt
    outer-shape (Assign key t e) f = flat (x ∷ []) false e (both-true (is_own ds x t) (is_flat (x ∷ []) false e) f).1
    outer-shape (Defer key (T.Scalar y at) e) f = never f refl
    outer-shape (Defer key (T.Property y p at) e) f = flat (x ∷ []) false e (both-true (nat_eq y x) (is_flat (x ∷ []) false e) f).1
    outer-shape (Combine key total r ts es) f = all-flat (x ∷ []) false es (both-true (are_reduced (is_given ds x) (is_within ds 1) r ts) (list_all (is_flat (x ∷ []) false) es) f).1
    outer-shape (Group key at y p e) f = tt
    outer-shape (Foreach key at head test body) f =
        let its = x ∷ head.iterator ∷ [] in
        let q = both-true (is_inner_head true x head) (is_flat its true test && is_inner_body ds its true body) f in
        let p = both-true (is_flat its true test) (is_inner_body ds its true body) q.1 in
        let i = both-true (is_range true head.domain) (nat_eq head.owner x && not (nat_eq head.iterator x)) q.0 in
        let j = both-true (nat_eq head.owner x) (not (nat_eq head.iterator x)) i.1 in
        (i.0, eqb-true head.owner x j.0, flat its true test p.0, inner-shape its true body p.1)
    outer-shape (For key at head test body) f = tt
    outer-shape (If key c a b) f =
        let q = both-true (is_flat (x ∷ []) false c) (is_outer_body ds true x a && is_outer_body ds true x b) f in
        let p = both-true (is_outer_body ds true x a) (is_outer_body ds true x b) q.1 in
        (flat (x ∷ []) false c q.0, outer-shape a p.0, outer-shape b p.1)
    outer-shape (While key at c body) f = tt
    outer-shape (Do key at body c) f = tt
    outer-shape (InBfs key at search c body) f = tt
    outer-shape (InBfsBoth key at search c body back_key d back) f = tt
    outer-shape (Return key at e) f = tt

    pub part-of : (test : Expr) (body : Stmt) → x < k → Suit (use_as Iterates x) → ReadsBelow k test → NamesBelow k body → Suit (uses_of body) → is_flat_loop ds true x test body ≡ true → Part Scalars Properties k x test body
    part-of test body below it reads names uses form =
        let q = both-true (is_flat (x ∷ []) false test) (is_outer_body ds true x body) form in
        record {
          below = below;
          iterator = iterator-apart x it;
          reads = reads;
          flat = flat (x ∷ []) false test q.0;
          names = names;
          outer = outer-shape body q.1;
          may = outer-may body uses names q.1;
        }

-- marks are as many as there are variables
pub mark-length : (p : ℕ) (marks : List Bool) → length (mark p marks) ≡ length marks
mark-length p marks = length-set marks p true

module _ (changed : List Bool) (w : ℕ) where
  read-length : (x p : ℕ) (marks : List Bool) → length (mark_read changed w x p marks) ≡ length marks
  read-length x p marks = by (nat_eq x w && is_marked changed p)
    where
      by : (b : Bool) → length (cond b (mark p marks) marks) ≡ length marks
      by true = mark-length p marks
      by false = refl

  reads-length : (e : Expr) (marks : List Bool) → length (mark_reads changed w e marks) ≡ length marks
  reads-length (Const v) marks = refl
  reads-length (Var x at) marks = refl
  reads-length (Property x p at) marks = read-length x p marks
  reads-length (EdgeProperty x p at) marks = refl
  reads-length (Degree d x at) marks = refl
  reads-length NodeCount marks = refl
  reads-length EdgeCount marks = refl
  reads-length (Live x at) marks = refl
  reads-length (Unary op at e) marks = reads-length e marks
  reads-length (Binary op at a b) marks = reads-length b (mark_reads changed w a marks) ∙ reads-length a marks
  reads-length (Both a b) marks = reads-length b (mark_reads changed w a marks) ∙ reads-length a marks
  reads-length (Either a b) marks = reads-length b (mark_reads changed w a marks) ∙ reads-length a marks
  reads-length (Choose c a b) marks = reads-length b (mark_reads changed w a (mark_reads changed w c marks)) ∙ reads-length a (mark_reads changed w c marks) ∙ reads-length c marks
  reads-length (Folded f h test e) marks = reads-length e (mark_reads changed w test marks) ∙ reads-length test marks

  option-length : (e : Option Expr) (marks : List Bool) → length (mark_option changed w e marks) ≡ length marks
  option-length None marks = refl
  option-length (Some e) marks = reads-length e marks

  all-length : (es : List Expr) (marks : List Bool) → length (mark_all changed w es marks) ≡ length marks
  all-length [] marks = refl
  all-length (e ∷ es) marks = all-length es (mark_reads changed w e marks) ∙ reads-length e marks

  inner-length : (b : Stmt) (marks : List Bool) → length (mark_inner changed w b marks) ≡ length marks
  inner-length Skip marks = refl
  inner-length (Then a b) marks = inner-length b (mark_inner changed w a marks) ∙ inner-length a marks
  inner-length (Declare key y e) marks = option-length e marks
  inner-length (DeclareEdge y z at) marks = refl
  inner-length (Assign key t e) marks = reads-length e marks
  inner-length (Defer key t e) marks = refl
  inner-length (Combine key total r ts es) marks = all-length es marks
  inner-length (Group key at y p e) marks = refl
  inner-length (Foreach key at head test body) marks = refl
  inner-length (For key at head test body) marks = refl
  inner-length (If key c a b) marks = inner-length b (mark_inner changed w a (mark_reads changed w c marks)) ∙ inner-length a (mark_reads changed w c marks) ∙ reads-length c marks
  inner-length (While key at c body) marks = refl
  inner-length (Do key at body c) marks = refl
  inner-length (InBfs key at search c body) marks = refl
  inner-length (InBfsBoth key at search c body back_key d back) marks = refl
  inner-length (Return key at e) marks = refl

pub levels-length : (changed : List Bool) (b : Stmt) (marks : List Bool) → length (mark_levels changed b marks) ≡ length marks
levels-length changed Skip marks = refl
levels-length changed (Then a b) marks = levels-length changed b (mark_levels changed a marks) ∙ levels-length changed a marks
levels-length changed (Declare key y e) marks = refl
levels-length changed (DeclareEdge y z at) marks = refl
levels-length changed (Assign key t e) marks = refl
levels-length changed (Defer key t e) marks = refl
levels-length changed (Combine key total r ts es) marks = refl
levels-length changed (Group key at y p e) marks = refl
levels-length changed (Foreach key at head test body) marks = by (asks_levels head.domain)
  where
    by : (b : Bool) → length (cond b (mark_inner changed head.iterator body (mark_reads changed head.iterator test marks)) marks) ≡ length marks
    by true = inner-length changed head.iterator body (mark_reads changed head.iterator test marks) ∙ reads-length changed head.iterator test marks
    by false = refl
levels-length changed (For key at head test body) marks = refl
levels-length changed (If key c a b) marks = levels-length changed b (mark_levels changed a marks) ∙ levels-length changed a marks
levels-length changed (While key at c body) marks = refl
levels-length changed (Do key at body c) marks = refl
levels-length changed (InBfs key at search c body) marks = refl
levels-length changed (InBfsBoth key at search c body back_key d back) marks = refl
levels-length changed (Return key at e) marks = refl

pub no-length : (n : ℕ) → length (no_marks n) ≡ n
no-length n = length-replicate n false

pub copied-short : (n : ℕ) (body : Stmt) → length (copied n body) ≤ n
copied-short n body = by (asks_up body || asks_down body)
  where
    by : (b : Bool) → length (cond b (mark_levels (mark_changes body (no_marks n)) body (no_marks n)) []) ≤ n
    by true = let is = levels-length (mark_changes body (no_marks n)) body (no_marks n) ∙ no-length n in omega arith
    by false = omega arith
