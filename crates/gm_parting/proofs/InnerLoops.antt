-- What an inner loop's body writes are locals of its own, and its reductions to one variable do the same.
use Rattle.std.proofs.Common.{◌≡◌, arith, ℕ, Bool, true, false, cond, List, [], ◌∷◌, ◌++◌, refl, sym, ap, subst, ◌∙◌, append-nil, Some, None, ⊎_elim, inl, inr}
use Rattle.std.specs.Prelude.{◌⊎◌, ◌&&◌, ◌||◌, nat_eq, nat_lt}
use Rattle.std.specs.List.{list_all}
use Rattle.std.proofs.lemmas.Bool.{both_ways}
use Rattle.std.proofs.lemmas.Bool.Decides.{nat_tests}
use Rattle.gm_value.specs.Bag.{IsIn}
use Rattle.gm_ast.specs.declared.tree.Declaration.{Declaration}
use Rattle.gm_ast.specs.declared.tree.Sort.{Sort}
use Rattle.gm_ast.specs.declared.tree.Sort.TheVariants as Sorts
use Rattle.gm_ast.specs.declared.tree.Target.{Target}
use Rattle.gm_ast.specs.declared.tree.Target.TheVariants as T
use Rattle.gm_ast.specs.declared.tree.Variable.{Variable}
use Rattle.gm_ast.specs.Names.{sort_eq}
use Rattle.gm_ast.specs.Program.{Expr, Unary, Binary, Both, Either, Choose, Folded, Stmt, Skip, Then, Declare, DeclareEdge, Assign, Combine, If}
use Rattle.gm_ast.specs.Program as P
use Rattle.gm_semantics.specs.Statements.{variable_at}
use Rattle.gm_forms.specs.Cut.{has_plain_locals}
use Rattle.gm_forms.specs.Forms.{depth_at, is_flat, are_reduced, is_inner_given, is_within, is_inner_body}
use Rattle.gm_forms.specs.Sharing.{Read, Reduced, reads_in, sights_in_all, sights_of, sights_of_target, sights_at_target, sights_by, are_at_once, is_kept, variables_of, variables_where, written, reduced, reduced_by, kept_in, read_anywhere, disjoint, does_same, lasting, lasts_one_way, all_last_one_way, is_one, all_one}
use Rattle.gm_forms.specs.Uses.{Written, Declared, Owner, NodeValue, Use, has_role, use_as, suits, uses_in, uses_in_all, uses_of_target, uses_of_targets, uses_of}
use Rattle.gm_forms.proofs.Doings.{in-either}
use Rattle.gm_forms.proofs.Named.{both-true, all-append}
use Rattle.gm_forms.proofs.Weaker.{and-true}
use Rattle.gm_loop_laws.proofs.Chosen.{apart-disjoint}
use Rattle.gm_dissect.proofs.DeferredLoops.{use-of, either-true}
use Rattle.gm_cut.proofs.Shared.{fewer-apart, anywhere-split, kept-split}
use Rattle.gm_parting.proofs.Reductions.{Clear, AllClear}

-- what is a scalar is no property
scalar-no : (v : Variable) → sort_eq Sorts.Scalar v.sort ≡ true → has_role v NodeValue ≡ true → ⊥
scalar-no v h p = by v.sort h p
  where
    by : (s : Sort) → sort_eq Sorts.Scalar s ≡ true → sort_eq Sorts.NodeProperty s ≡ true → ⊥
    by Sorts.Graph h p = both_ways false refl h
    by Sorts.Iterator h p = both_ways false refl h
    by Sorts.Scalar h p = both_ways false refl p
    by Sorts.Edge h p = both_ways false refl h
    by Sorts.NodeProperty h p = both_ways false refl h
    by Sorts.EdgeProperty h p = both_ways false refl h

-- what is declared inside of parallel loops is a scalar
deep-scalar : (v : Variable) (d : ℕ) → nat_eq v.depth 2 ≡ true → has_role v Declared ≡ true → sort_eq Sorts.Scalar v.sort ≡ true
deep-scalar v d e h =
    ⊎_elim (λ s. s) (λ (p : sort_eq Sorts.NodeProperty v.sort && nat_eq v.depth 0 ≡ true). absurd (apart v.depth e (both-true (sort_eq Sorts.NodeProperty v.sort) (nat_eq v.depth 0) p).1))
    (either-true (sort_eq Sorts.Scalar v.sort) (sort_eq Sorts.NodeProperty v.sort && nat_eq v.depth 0) h)
  where
    apart : (x : ℕ) → nat_eq x 2 ≡ true → nat_eq x 0 ≡ true → ⊥
    apart x e f = grind (arith, nat_tests, e, f)

two-deep : (x : ℕ) → nat_eq x 2 ≡ true → nat_lt 1 x ≡ true
two-deep x e = grind (arith, nat_tests, e)

one-not : (x : ℕ) → nat_lt 1 x ≡ true → nat_eq x 1 ≡ true → ⊥
one-not x e f = grind (arith, nat_tests, e, f)

module _ (ds : List Declaration) (n : ℕ) where
  abbrev Suit : List Use → Type 0
  Suit us = list_all (suits ds) us ≡ true

  -- a local of an inner body
  abbrev Local : ℕ → Type 0
  Local x = (sort_eq Sorts.Scalar (variable_at ds x).sort ≡ true) × (nat_lt 1 (depth_at ds x) ≡ true)

  local-one : (x : ℕ) → Local x → (y : ℕ) → IsIn y (x ∷ []) → Local y
  local-one x l y i = ⊎_elim (λ (e : y ≡ x). subst Local (sym e) l) (λ j. absurd j) i

  role-at : (x : ℕ) → Suit (use_as Written x) → sort_eq Sorts.Scalar (variable_at ds x).sort ≡ true
  role-at x u = (use-of ds Written x u).1

  targets-local : (ts : List Target) → are_at_once ds n true ts ≡ true → Suit (uses_of_targets ts) → (y : ℕ) → IsIn y (variables_of ts) → Local y
  targets-local [] h u y i = absurd i
  targets-local (T.Scalar x at ∷ ts) h u y i =
      let r = both-true (nat_lt 1 (depth_at ds x)) (are_at_once ds n true ts) h in
      let v = all-append (suits ds) (use_as Written x) (uses_of_targets ts) u in
      ⊎_elim (λ (e : y ≡ x). subst Local (sym e) (role-at x v.0, r.0)) (λ j. targets-local ts r.1 v.1 y j) i
  targets-local (T.Property x p at ∷ ts) h u y i = absurd (both_ways false refl h)

  -- what an inner body writes
  written-local : (its : List ℕ) (s : Stmt) → is_inner_body ds its true s ≡ true → Suit (uses_of s) → (y : ℕ) → IsIn y (written ds n true s) → Local y
  written-local its (Then a b) f u y i =
      let g = both-true (is_inner_body ds its true a) (is_inner_body ds its true b) f in
      let r = all-append (suits ds) (uses_of a) (uses_of b) u in
      ⊎_elim (λ j. written-local its a g.0 r.0 y j) (λ j. written-local its b g.1 r.1 y j) (in-either y (written ds n true a) (written ds n true b) i)
  written-local its (If k c a b) f u y i =
      let g = both-true (is_flat its true c) (is_inner_body ds its true a && is_inner_body ds its true b) f in
      let h = both-true (is_inner_body ds its true a) (is_inner_body ds its true b) g.1 in
      let r = all-append (suits ds) (uses_of a) (uses_of b) (all-append (suits ds) (uses_in c) (uses_of a ++ uses_of b) u).1 in
      ⊎_elim (λ j. written-local its a h.0 r.0 y j) (λ j. written-local its b h.1 r.1 y j) (in-either y (written ds n true a) (written ds n true b) i)
  written-local its (Declare k x None) f u y i =
      let g = both-true (nat_eq (depth_at ds x) 2) true f in
      local-one x (deep-scalar (variable_at ds x) 2 g.0 (use-of ds Declared x u).1, two-deep (depth_at ds x) g.0) y i
  written-local its (Declare k x (Some e)) f u y i =
      let g = both-true (nat_eq (depth_at ds x) 2) (is_flat its true e) f in
      local-one x (role-at x (all-append (suits ds) (use_as Written x) (uses_in e) u).0, two-deep (depth_at ds x) g.0) y i
  written-local its (Assign k (T.Scalar x at) e) f u y i =
      let g = both-true (nat_eq (depth_at ds x) 2) (is_flat its true e) f in
      local-one x (role-at x (all-append (suits ds) (use_as Written x) (uses_in e) u).0, two-deep (depth_at ds x) g.0) y i
  written-local its (Assign k (T.Property x p at) e) f u y i = absurd (both_ways false refl f)
  written-local its (Combine k total o ts es) f u y i = by (are_at_once ds n true ts) refl i
    where
      by : (b : Bool) → are_at_once ds n true ts ≡ b → IsIn y (cond b (variables_of ts) []) → Local y
      by true e i = targets-local ts e (all-append (suits ds) (uses_of_targets ts) (uses_in_all es) u).0 y i
      by false e i = absurd i
  written-local its Skip f u y i = absurd i
  written-local its (DeclareEdge x z at) f u y i = absurd i
  written-local its s f u y i = absurd (both_ways false refl f)

  -- ---- what it reads are properties

  abbrev Property : ℕ → Type 0
  Property y = has_role (variable_at ds y) NodeValue ≡ true

  abbrev AllProperties : List Read → Type 0
  AllProperties rs = (y : ℕ) → IsIn y (read_anywhere rs) → Property y

  properties-both : (p q : List Read) → AllProperties p → AllProperties q → AllProperties (p ++ q)
  properties-both p q f g y i = ⊎_elim (f y) (g y) (in-either y (read_anywhere p) (read_anywhere q) (subst (IsIn y) (anywhere-split p q) i))

  no-properties : AllProperties []
  no-properties y i = absurd i

  property-of : (x p : ℕ) → Suit (use_as Owner x ++ use_as NodeValue p) → Property p
  property-of x p u = (use-of ds NodeValue p (all-append (suits ds) (use_as Owner x) (use_as NodeValue p) u).1).1

  one-property : (x p : ℕ) → Suit (use_as Owner x ++ use_as NodeValue p) → AllProperties (record { owner = x; property = p } ∷ [])
  one-property x p u y i = ⊎_elim (λ (e : y ≡ p). subst Property (sym e) (property-of x p u)) (λ j. absurd j) i

  reads-properties : (its : List ℕ) (edge : Bool) (e : Expr) → is_flat its edge e ≡ true → Suit (uses_in e) → AllProperties (reads_in e)
  reads-properties its edge (P.Property x p at) f u = one-property x p u
  reads-properties its edge (Unary op at e) f u = reads-properties its edge e f u
  reads-properties its edge (Binary op at a b) f u =
      let g = both-true (is_flat its edge a) (is_flat its edge b) f in
      let r = all-append (suits ds) (uses_in a) (uses_in b) u in
      properties-both (reads_in a) (reads_in b) (reads-properties its edge a g.0 r.0) (reads-properties its edge b g.1 r.1)
  reads-properties its edge (Both a b) f u =
      let g = both-true (is_flat its edge a) (is_flat its edge b) f in
      let r = all-append (suits ds) (uses_in a) (uses_in b) u in
      properties-both (reads_in a) (reads_in b) (reads-properties its edge a g.0 r.0) (reads-properties its edge b g.1 r.1)
  reads-properties its edge (Either a b) f u =
      let g = both-true (is_flat its edge a) (is_flat its edge b) f in
      let r = all-append (suits ds) (uses_in a) (uses_in b) u in
      properties-both (reads_in a) (reads_in b) (reads-properties its edge a g.0 r.0) (reads-properties its edge b g.1 r.1)
  reads-properties its edge (Choose c a b) f u =
      let g = both-true (is_flat its edge c) (is_flat its edge a && is_flat its edge b) f in
      let h = both-true (is_flat its edge a) (is_flat its edge b) g.1 in
      let r = all-append (suits ds) (uses_in c) (uses_in a ++ uses_in b) u in
      let s = all-append (suits ds) (uses_in a) (uses_in b) r.1 in
      properties-both (reads_in c) (reads_in a ++ reads_in b) (reads-properties its edge c g.0 r.0) (properties-both (reads_in a) (reads_in b) (reads-properties its edge a h.0 s.0) (reads-properties its edge b h.1 s.1))
  reads-properties its edge (Folded o h test e) f u = absurd (both_ways false refl f)
  reads-properties its edge e f u = no-properties

  reads-all : (its : List ℕ) (edge : Bool) (es : List Expr) → list_all (is_flat its edge) es ≡ true → Suit (uses_in_all es) → AllProperties (sights_in_all es).properties
  reads-all its edge [] f u = no-properties
  reads-all its edge (e ∷ es) f u =
      let g = both-true (is_flat its edge e) (list_all (is_flat its edge) es) f in
      let r = all-append (suits ds) (uses_in e) (uses_in_all es) u in
      properties-both (reads_in e) (sights_in_all es).properties (reads-properties its edge e g.0 r.0) (reads-all its edge es g.1 r.1)

  target-reads : (once : Bool) (t : Target) → Suit (uses_of_target t) → AllProperties (cond once sights_at_target sights_of_target t).properties
  target-reads true (T.Scalar x at) u = no-properties
  target-reads true (T.Property x p at) u = one-property x p u
  target-reads false (T.Scalar x at) u = no-properties
  target-reads false (T.Property x p at) u = no-properties

  targets-read : (once : Bool) (ts : List Target) → Suit (uses_of_targets ts) → AllProperties (sights_by (cond once sights_at_target sights_of_target) ts).properties
  targets-read once [] u = no-properties
  targets-read once (t ∷ ts) u =
      let r = all-append (suits ds) (uses_of_target t) (uses_of_targets ts) u in
      properties-both (cond once sights_at_target sights_of_target t).properties (sights_by (cond once sights_at_target sights_of_target) ts).properties (target-reads once t r.0) (targets-read once ts r.1)

  inner-properties : (its : List ℕ) (s : Stmt) → is_inner_body ds its true s ≡ true → Suit (uses_of s) → AllProperties (sights_of ds n true s).properties
  inner-properties its (Then a b) f u =
      let g = both-true (is_inner_body ds its true a) (is_inner_body ds its true b) f in
      let r = all-append (suits ds) (uses_of a) (uses_of b) u in
      properties-both (sights_of ds n true a).properties (sights_of ds n true b).properties (inner-properties its a g.0 r.0) (inner-properties its b g.1 r.1)
  inner-properties its (If k c a b) f u =
      let g = both-true (is_flat its true c) (is_inner_body ds its true a && is_inner_body ds its true b) f in
      let h = both-true (is_inner_body ds its true a) (is_inner_body ds its true b) g.1 in
      let r = all-append (suits ds) (uses_in c) (uses_of a ++ uses_of b) u in
      let s = all-append (suits ds) (uses_of a) (uses_of b) r.1 in
      properties-both (reads_in c) ((sights_of ds n true a).properties ++ (sights_of ds n true b).properties) (reads-properties its true c g.0 r.0)
      (properties-both (sights_of ds n true a).properties (sights_of ds n true b).properties (inner-properties its a h.0 s.0) (inner-properties its b h.1 s.1))
  inner-properties its (Declare k x None) f u = no-properties
  inner-properties its (Declare k x (Some e)) f u = reads-properties its true e (both-true (nat_eq (depth_at ds x) 2) (is_flat its true e) f).1 (all-append (suits ds) (use_as Written x) (uses_in e) u).1
  inner-properties its (Assign k (T.Scalar x at) e) f u = reads-properties its true e (both-true (nat_eq (depth_at ds x) 2) (is_flat its true e) f).1 (all-append (suits ds) (use_as Written x) (uses_in e) u).1
  inner-properties its (Assign k (T.Property x p at) e) f u = absurd (both_ways false refl f)
  inner-properties its (Combine k total o ts es) f u =
      let g = both-true (are_reduced (is_inner_given ds) (is_within ds 2) o ts) (list_all (is_flat its true) es) f in
      let r = all-append (suits ds) (uses_of_targets ts) (uses_in_all es) u in
      properties-both (sights_by (cond (are_at_once ds n true ts) sights_at_target sights_of_target) ts).properties (sights_in_all es).properties (targets-read (are_at_once ds n true ts) ts r.0) (reads-all its true es g.1 r.1)
  inner-properties its Skip f u = no-properties
  inner-properties its (DeclareEdge x z at) f u = no-properties
  inner-properties its s f u = absurd (both_ways false refl f)

  -- ---- what it reduces that an iteration keeps is a property, or a local of the outer body

  abbrev Outer : ℕ → Type 0
  Outer y = Property y ⊎ (nat_eq (depth_at ds y) 1 ≡ true)

  targets-kept : (ts : List Target) → Suit (uses_of_targets ts) → (y : ℕ) → IsIn y (variables_where (is_kept ds n) ts) → Outer y
  targets-kept [] u y i = absurd i
  targets-kept (T.Scalar x at ∷ ts) u y i = by (nat_eq (depth_at ds x) 1) refl (targets-kept ts (all-append (suits ds) (use_as Written x) (uses_of_targets ts) u).1 y) i
    where
      by : (b : Bool) → nat_eq (depth_at ds x) 1 ≡ b → (IsIn y (variables_where (is_kept ds n) ts) → Outer y) → IsIn y (cond b (x ∷ variables_where (is_kept ds n) ts) (variables_where (is_kept ds n) ts)) → Outer y
      by true e rest i = ⊎_elim (λ (f : y ≡ x). inr (subst (λ z. nat_eq (depth_at ds z) 1 ≡ true) (sym f) e)) rest i
      by false e rest i = rest i
  targets-kept (T.Property x p at ∷ ts) u y i =
      let r = all-append (suits ds) (use_as Owner x ++ use_as NodeValue p) (uses_of_targets ts) u in by (nat_eq x n) r.0 (targets-kept ts r.1 y) i
    where
      by : (b : Bool) → Suit (use_as Owner x ++ use_as NodeValue p) → (IsIn y (variables_where (is_kept ds n) ts) → Outer y) → IsIn y (cond b (p ∷ variables_where (is_kept ds n) ts) (variables_where (is_kept ds n) ts)) → Outer y
      by true u rest i = ⊎_elim (λ (f : y ≡ p). inl (subst Property (sym f) (property-of x p u))) rest i
      by false u rest i = rest i

  kept-outer : (its : List ℕ) (s : Stmt) → is_inner_body ds its true s ≡ true → Suit (uses_of s) → (y : ℕ) → IsIn y (kept_in (reduced ds n true s)) → Outer y
  kept-outer its (Then a b) f u y i =
      let g = both-true (is_inner_body ds its true a) (is_inner_body ds its true b) f in
      let r = all-append (suits ds) (uses_of a) (uses_of b) u in
      ⊎_elim (λ j. kept-outer its a g.0 r.0 y j) (λ j. kept-outer its b g.1 r.1 y j)
      (in-either y (kept_in (reduced ds n true a)) (kept_in (reduced ds n true b)) (subst (IsIn y) (kept-split (reduced ds n true a) (reduced ds n true b)) i))
  kept-outer its (If k c a b) f u y i =
      let g = both-true (is_flat its true c) (is_inner_body ds its true a && is_inner_body ds its true b) f in
      let h = both-true (is_inner_body ds its true a) (is_inner_body ds its true b) g.1 in
      let r = all-append (suits ds) (uses_of a) (uses_of b) (all-append (suits ds) (uses_in c) (uses_of a ++ uses_of b) u).1 in
      ⊎_elim (λ j. kept-outer its a h.0 r.0 y j) (λ j. kept-outer its b h.1 r.1 y j)
      (in-either y (kept_in (reduced ds n true a)) (kept_in (reduced ds n true b)) (subst (IsIn y) (kept-split (reduced ds n true a) (reduced ds n true b)) i))
  kept-outer its (Combine k total o ts es) f u y i = by (are_at_once ds n true ts) i
    where
      by : (b : Bool) → IsIn y (kept_in (cond b [] (reduced_by ds n total.key.statement o ts ∷ []))) → Outer y
      by true i = absurd i
      by false i = targets-kept ts (all-append (suits ds) (uses_of_targets ts) (uses_in_all es) u).0 y (subst (IsIn y) (append-nil (variables_where (is_kept ds n) ts)) i)
  kept-outer its Skip f u y i = absurd i
  kept-outer its (Declare k x e) f u y i = absurd i
  kept-outer its (DeclareEdge x z at) f u y i = absurd i
  kept-outer its (Assign k t e) f u y i = absurd i
  kept-outer its s f u y i = absurd (both_ways false refl f)

  -- so its locals are no properties that it reads or reduces
  pub plain-locals : (its : List ℕ) (test : Expr) (body : Stmt) → is_flat its true test ≡ true → is_inner_body ds its true body ≡ true → Suit (uses_in test) → Suit (uses_of body) → has_plain_locals ds n test body ≡ true
  plain-locals its test body f g u v =
      let rs = reads_in test ++ (sights_of ds n true body).properties in
      let kept = kept_in (reduced ds n true body) in
      apart-disjoint (written ds n true body) (read_anywhere rs ++ kept) (λ y i j.
      let l = written-local its body g v y i in
      ⊎_elim (λ k. scalar-no (variable_at ds y) l.0 (properties-both (reads_in test) (sights_of ds n true body).properties (reads-properties its true test f u) (inner-properties its body g v) y k))
      (λ k. ⊎_elim (λ p. scalar-no (variable_at ds y) l.0 p) (λ d. one-not (depth_at ds y) l.1 d) (kept-outer its body g v y k))
      (in-either y (read_anywhere rs) kept j))

-- ---- reductions of an inner loop do the same

lasting-all : (r : Reduced) → Clear r → (y : ℕ) → IsIn y r.variables → IsIn y (lasting r)
lasting-all r (inl m) y i = subst (IsIn y) (sym (ap (λ l. l ++ r.kept) m.shared ∙ m.kept)) i
lasting-all r (inr g) y i = subst (IsIn y) (sym (ap (λ l. r.shared ++ l) g.kept ∙ append-nil r.shared ∙ g.shared)) i

one-same : (a : Reduced) (bs : List Reduced) → Clear a → AllClear bs → lasts_one_way a bs ≡ true → is_one a bs ≡ true
one-same a [] c d h = refl
one-same a (b ∷ bs) c d h =
    let r = both-true (disjoint (lasting a) (lasting b) || does_same a b) (lasts_one_way a bs) h in
    and-true (disjoint a.variables b.variables || does_same a b) (is_one a bs)
    (⊎_elim (λ (e : disjoint (lasting a) (lasting b) ≡ true).
    ap (λ x. x || does_same a b) (fewer-apart a.variables b.variables (lasting a) (lasting b) (lasting-all a c) (lasting-all b (d b (inl refl))) e)) (λ (e : does_same a b ≡ true). second (disjoint a.variables b.variables) (does_same a b) e)
    (either-true (disjoint (lasting a) (lasting b)) (does_same a b) r.0))
    (one-same a bs c (λ s i. d s (inr i)) r.1)
  where
    second : (x y : Bool) → y ≡ true → x || y ≡ true
    second true y e = refl
    second false y e = e

pub all-same-way : (rs : List Reduced) → AllClear rs → all_last_one_way rs ≡ true → all_one rs ≡ true
all-same-way [] c h = refl
all-same-way (a ∷ rs) c h =
    let r = both-true (lasts_one_way a rs) (all_last_one_way rs) h in
    and-true (is_one a rs) (all_one rs) (one-same a rs (c a (inl refl)) (λ s i. c s (inr i)) r.0) (all-same-way rs (λ s i. c s (inr i)) r.1)
