-- Names, types and forms of a body with its reductions as loops.
use Rattle.std.proofs.Common.{◌≡◌, ◌<◌, ◌+◌, ◌++◌, ℕ, Bool, true, false, List, [], ◌∷◌, map, length, refl, sym, ap, subst, ◌∙◌, arith, Option, Some, None}
use Rattle.std.specs.Prelude.{◌&&◌, pos, nat_eq, nat_le, nat_lt}
use Rattle.std.specs.List.{list_all}
use Rattle.std.proofs.lemmas.Bool.{both_ways, lt-ltb}
use Rattle.std.proofs.lemmas.List.{length-map, map-append}
use Rattle.gm_base.specs.declared.places.Place.{Place}
use Rattle.gm_value.specs.declared.operations.Op1.{Op1}
use Rattle.gm_value.specs.declared.operations.Op2.{Op2}
use Rattle.gm_value.specs.declared.reductions.Reduce.{Reduce}
use Rattle.gm_value.specs.declared.reductions.Reduce.TheVariants as R
use Rattle.gm_value.specs.declared.values.VType.{VType}
use Rattle.gm_value.specs.declared.values.VType.TheVariants as V
use Rattle.gm_value.specs.Numbers.{value_at}
use Rattle.gm_value.specs.Operations.{is_flag, fits2, type1, type2}
use Rattle.gm_value.specs.Reductions.{reduces}
use Rattle.gm_ast.specs.declared.surface.ReductionWord.{ReductionWord}
use Rattle.gm_ast.specs.declared.surface.ReductionWord.TheVariants as W
use Rattle.gm_ast.specs.declared.tree.Declaration.{Declaration}
use Rattle.gm_ast.specs.declared.tree.Fold.{Fold}
use Rattle.gm_ast.specs.declared.tree.Head.{Head}
use Rattle.gm_ast.specs.declared.tree.Key.{Key}
use Rattle.gm_ast.specs.declared.tree.Target.TheVariants as T
use Rattle.gm_ast.specs.declared.tree.Variable.{Variable}
use Rattle.gm_ast.specs.Program.{Expr, Const, Var, Property, EdgeProperty, Degree, NodeCount, EdgeCount, Live, Unary, Binary, Both, Either, Choose, Folded, Stmt, Skip, Then, Declare, Combine, If, sequence}
use Rattle.gm_semantics.specs.Expressions.{reduce_of}
use Rattle.gm_semantics.specs.Statements.{variable_at}
use Rattle.gm_forms.specs.Forms.{depth_at, is_flat, is_inner_head}
use Rattle.gm_forms.specs.Ready.{is_outer_expr, is_inner_code, is_outer_code}
use Rattle.gm_forms.specs.Typing.{type_at, type_if, by_one, is_type, takes, type_in, has_type, is_typed_in, takes1}
use Rattle.gm_forms.specs.Uses.{Role, Written, Told, suits, has_role, use_as, uses_in, uses_of_head, uses_of}
use Rattle.gm_forms.proofs.Named.{both-true, all-append}
use Rattle.gm_forms.proofs.Weaker.{and-true}
use Rattle.gm_desugar.specs.Conditions.{nowhere}
use Rattle.gm_desugar.proofs.Replacing.{append-true, type-itself, is-type}
use Rattle.gm_reductions.specs.Folds.{unit_for}
use Rattle.gm_reductions.proofs.FoldsLaws.{unit-typed}
use Rattle.gm_hoisting.specs.Hoisting.{local, count_folds, fold_types, count_body, joins, passing, adds, giving, looped, total_behind, fold_set, folds_set, told_from, behind}
use Rattle.gm_hoisting.proofs.Bare.{placed-any}
use Rattle.gm_hoisting.proofs.Placed.{length-folds, Placed, placed-both}

-- ---- expressions without reductions

-- flat expressions stand in outer bodies
pub flat-outer : (levels : Bool) (n : ℕ) (e : Expr) → is_flat (n ∷ []) false e ≡ true → is_outer_expr levels n e ≡ true
flat-outer levels n (Const v) h = h
flat-outer levels n (Var x at) h = h
flat-outer levels n (Property x p at) h = h
flat-outer levels n (EdgeProperty x p at) h = h
flat-outer levels n (Degree d x at) h = h
flat-outer levels n NodeCount h = h
flat-outer levels n EdgeCount h = h
flat-outer levels n (Live x at) h = h
flat-outer levels n (Unary op at e) h = flat-outer levels n e h
flat-outer levels n (Binary op at a b) h = let q = both-true (is_flat (n ∷ []) false a) (is_flat (n ∷ []) false b) h in and-true (is_outer_expr levels n a) (is_outer_expr levels n b) (flat-outer levels n a q.0) (flat-outer levels n b q.1)
flat-outer levels n (Both a b) h = let q = both-true (is_flat (n ∷ []) false a) (is_flat (n ∷ []) false b) h in and-true (is_outer_expr levels n a) (is_outer_expr levels n b) (flat-outer levels n a q.0) (flat-outer levels n b q.1)
flat-outer levels n (Either a b) h = let q = both-true (is_flat (n ∷ []) false a) (is_flat (n ∷ []) false b) h in and-true (is_outer_expr levels n a) (is_outer_expr levels n b) (flat-outer levels n a q.0) (flat-outer levels n b q.1)
flat-outer levels n (Choose c a b) h =
    let q = both-true (is_flat (n ∷ []) false c) (is_flat (n ∷ []) false a && is_flat (n ∷ []) false b) h in
    let r = both-true (is_flat (n ∷ []) false a) (is_flat (n ∷ []) false b) q.1 in
    and-true (is_outer_expr levels n c) (is_outer_expr levels n a && is_outer_expr levels n b) (flat-outer levels n c q.0) (and-true (is_outer_expr levels n a) (is_outer_expr levels n b) (flat-outer levels n a r.0) (flat-outer levels n b r.1))
flat-outer levels n (Folded f hd test e) h = absurd (both_ways false refl h)

no-more : (a b : ℕ) → a ≡ 0 → b ≡ 0 → a + b ≡ 0
no-more a b p q = omega (arith, p, q)

-- what is left of an expression has no reduction
pub told-none : (e : Expr) (n : ℕ) → count_folds (told_from n e) ≡ 0
told-none (Const v) n = refl
told-none (Var x at) n = refl
told-none (Property x p at) n = refl
told-none (EdgeProperty x p at) n = refl
told-none (Degree d x at) n = refl
told-none NodeCount n = refl
told-none EdgeCount n = refl
told-none (Live x at) n = refl
told-none (Unary op at e) n = told-none e n
told-none (Binary op at a b) n = no-more _ _ (told-none a n) (told-none b (n + count_folds a))
told-none (Both a b) n = no-more _ _ (told-none a n) (told-none b (n + count_folds a))
told-none (Either a b) n = no-more _ _ (told-none a n) (told-none b (n + count_folds a))
told-none (Choose c a b) n = no-more _ _ (told-none c n) (no-more _ _ (told-none a (n + count_folds c)) (told-none b ((n + count_folds c) + count_folds a)))
told-none (Folded f h test e) n = refl

pub told-flat : (levels : Bool) (outer : ℕ) (e : Expr) (n : ℕ) → is_outer_expr levels outer e ≡ true → is_flat (outer ∷ []) false (told_from n e) ≡ true
told-flat levels outer (Const v) n h = h
told-flat levels outer (Var x at) n h = h
told-flat levels outer (Property x p at) n h = h
told-flat levels outer (EdgeProperty x p at) n h = h
told-flat levels outer (Degree d x at) n h = h
told-flat levels outer NodeCount n h = h
told-flat levels outer EdgeCount n h = h
told-flat levels outer (Live x at) n h = h
told-flat levels outer (Unary op at e) n h = told-flat levels outer e n h
told-flat levels outer (Binary op at a b) n h =
    let q = both-true (is_outer_expr levels outer a) (is_outer_expr levels outer b) h in
    and-true (is_flat (outer ∷ []) false (told_from n a)) (is_flat (outer ∷ []) false (told_from (n + count_folds a) b)) (told-flat levels outer a n q.0) (told-flat levels outer b (n + count_folds a) q.1)
told-flat levels outer (Both a b) n h =
    let q = both-true (is_outer_expr levels outer a) (is_outer_expr levels outer b) h in
    and-true (is_flat (outer ∷ []) false (told_from n a)) (is_flat (outer ∷ []) false (told_from (n + count_folds a) b)) (told-flat levels outer a n q.0) (told-flat levels outer b (n + count_folds a) q.1)
told-flat levels outer (Either a b) n h =
    let q = both-true (is_outer_expr levels outer a) (is_outer_expr levels outer b) h in
    and-true (is_flat (outer ∷ []) false (told_from n a)) (is_flat (outer ∷ []) false (told_from (n + count_folds a) b)) (told-flat levels outer a n q.0) (told-flat levels outer b (n + count_folds a) q.1)
told-flat levels outer (Choose c a b) n h =
    let q = both-true (is_outer_expr levels outer c) (is_outer_expr levels outer a && is_outer_expr levels outer b) h in
    let r = both-true (is_outer_expr levels outer a) (is_outer_expr levels outer b) q.1 in
    let n1 = n + count_folds c in
    and-true (is_flat (outer ∷ []) false (told_from n c)) (is_flat (outer ∷ []) false (told_from n1 a) && is_flat (outer ∷ []) false (told_from (n1 + count_folds a) b)) (told-flat levels outer c n q.0)
    (and-true (is_flat (outer ∷ []) false (told_from n1 a)) (is_flat (outer ∷ []) false (told_from (n1 + count_folds a) b)) (told-flat levels outer a n1 r.0) (told-flat levels outer b (n1 + count_folds a) r.1))
told-flat levels outer (Folded f hd test e) n h = refl

-- a flat expression is so where an edge is at hand
edge-at-hand : (its : List ℕ) (e : Expr) → is_flat its false e ≡ true → is_flat its true e ≡ true
edge-at-hand its (Const v) h = h
edge-at-hand its (Var x at) h = h
edge-at-hand its (Property x p at) h = h
edge-at-hand its (EdgeProperty x p at) h = refl
edge-at-hand its (Degree d x at) h = h
edge-at-hand its NodeCount h = h
edge-at-hand its EdgeCount h = h
edge-at-hand its (Live x at) h = h
edge-at-hand its (Unary op at e) h = edge-at-hand its e h
edge-at-hand its (Binary op at a b) h = let q = both-true (is_flat its false a) (is_flat its false b) h in and-true (is_flat its true a) (is_flat its true b) (edge-at-hand its a q.0) (edge-at-hand its b q.1)
edge-at-hand its (Both a b) h = let q = both-true (is_flat its false a) (is_flat its false b) h in and-true (is_flat its true a) (is_flat its true b) (edge-at-hand its a q.0) (edge-at-hand its b q.1)
edge-at-hand its (Either a b) h = let q = both-true (is_flat its false a) (is_flat its false b) h in and-true (is_flat its true a) (is_flat its true b) (edge-at-hand its a q.0) (edge-at-hand its b q.1)
edge-at-hand its (Choose c a b) h =
    let q = both-true (is_flat its false c) (is_flat its false a && is_flat its false b) h in
    let r = both-true (is_flat its false a) (is_flat its false b) q.1 in
    and-true (is_flat its true c) (is_flat its true a && is_flat its true b) (edge-at-hand its c q.0) (and-true (is_flat its true a) (is_flat its true b) (edge-at-hand its a r.0) (edge-at-hand its b r.1))
edge-at-hand its (Folded f hd test e) h = h

-- ---- types

none-some : (t : VType) → None ≡ Some t → ⊥
none-some t h = cc

one-parts : (o : Option VType) (f : VType → Option VType) (t : VType) → by_one o f ≡ Some t → (u : VType) × (o ≡ Some u) × (f u ≡ Some t)
one-parts None f t h = absurd (none-some t h)
one-parts (Some u) f t h = (u, refl, h)

if-parts : (b : Bool) (u t : VType) → type_if b u ≡ Some t → (b ≡ true) × (u ≡ t)
if-parts true u t h = (refl, let same : Some u ≡ Some t = h in cc)
if-parts false u t h = absurd (none-some t h)

one-type : (ds : List Declaration) (t : VType) → type_in ds (Const (value_at t (pos 1))) ≡ Some t
one-type ds V.I32 = refl
one-type ds V.I64 = refl
one-type ds V.Flag = refl
one-type ds V.Node = refl

module _ (es : List Declaration) (res : Option VType) (levels : Bool) (outer : ℕ) where
  abbrev Suit : Role → ℕ → Type 0
  Suit role n = list_all (suits es) (use_as role n) ≡ true

  suited : (n : ℕ) (t : VType) (role : Role) → n < length es → variable_at es n ≡ (local t).variable → has_role (local t).variable role ≡ true → Suit role n
  suited n t role below e h = and-true (suits es (record { variable = n; role = role })) true (and-true (nat_lt n (length es)) (has_role (variable_at es n) role) (lt-ltb n (length es) below) (ap (λ v. has_role v role) e ∙ h)) refl

  -- what is known of an expression of the body
  pub record Sound (e : Expr) : Type 0 where
    pub named : list_all (suits es) (uses_in e) ≡ true
    pub typed : (t : VType) × (type_in es e ≡ Some t)
    pub form : is_outer_expr levels outer e ≡ true

  -- locals of types
  abbrev pub Locals : ℕ → List VType → Type 0
  Locals n ts = Placed es n (map local ts)

  pub locals-both : (n : ℕ) (ts us : List VType) → Locals n (ts ++ us) → Locals n ts × Locals (n + length ts) us
  locals-both n ts us h =
      let q = placed-both es n (map local ts) (map local us) (subst (Placed es n) (map-append local ts us) h) in
      (q.0, subst (λ c. Placed es (n + c) (map local us)) (length-map ts local) q.1)

  pub locals-two : (n c : ℕ) (ts us : List VType) → length ts ≡ c → Locals n (ts ++ us) → Locals n ts × Locals (n + c) us
  locals-two n c ts us e h = let q = locals-both n ts us h in (q.0, subst (λ d. Locals (n + d) us) e q.1)

  abbrev Typed : Expr → Type 0
  Typed e = (t : VType) × (type_in es e ≡ Some t)

  two-sound : (a b : Expr) → list_all (suits es) (uses_in a ++ uses_in b) ≡ true → Typed a → Typed b → is_outer_expr levels outer a && is_outer_expr levels outer b ≡ true → Sound a × Sound b
  two-sound a b named s t form =
      let n = all-append (suits es) (uses_in a) (uses_in b) named in
      let f = both-true (is_outer_expr levels outer a) (is_outer_expr levels outer b) form in
      (record { named = n.0; typed = s; form = f.0 }, record { named = n.1; typed = t; form = f.1 })

  flags-typed : (a b : Expr) (t : VType) → type_if (is_type V.Flag (type_in es a) && is_type V.Flag (type_in es b)) V.Flag ≡ Some t → (type_in es a ≡ Some V.Flag) × (type_in es b ≡ Some V.Flag)
  flags-typed a b t h =
      let q = both-true (is_type V.Flag (type_in es a)) (is_type V.Flag (type_in es b)) (if-parts _ V.Flag t h).0 in
      (is-type V.Flag (type_in es a) q.0, is-type V.Flag (type_in es b) q.1)

  unary-sound : (op : Op1) (at : Place) (e : Expr) → Sound (Unary op at e) → Sound e
  unary-sound op at e s =
      let t = one-parts (type_in es e) (λ t. type_if (takes1 op t) (type1 op t)) (s.typed.0) s.typed.1 in
      record { named = s.named; typed = (t.0, t.1); form = s.form }

  binary-sound : (op : Op2) (at : Place) (a b : Expr) → Sound (Binary op at a b) → Sound a × Sound b
  binary-sound op at a b s =
      let t = one-parts (type_in es a) (λ t. by_one (type_in es b) (λ u. type_if (fits2 op t u) (type2 op t))) s.typed.0 s.typed.1 in
      let u = one-parts (type_in es b) (λ u. type_if (fits2 op t.0 u) (type2 op t.0)) s.typed.0 t.2 in
      two-sound a b s.named (t.0, t.1) (u.0, u.1) s.form

  both-sound : (a b : Expr) → Sound (Both a b) → Sound a × Sound b
  both-sound a b s = let t = flags-typed a b s.typed.0 s.typed.1 in two-sound a b s.named (V.Flag, t.0) (V.Flag, t.1) s.form

  either-sound : (a b : Expr) → Sound (Either a b) → Sound a × Sound b
  either-sound a b s = let t = flags-typed a b s.typed.0 s.typed.1 in two-sound a b s.named (V.Flag, t.0) (V.Flag, t.1) s.form

  choose-sound : (c a b : Expr) → Sound (Choose c a b) → Sound c × Sound a × Sound b
  choose-sound c a b s =
      let t = one-parts (type_in es a) (λ t. type_if (is_type V.Flag (type_in es c) && is_type t (type_in es b)) t) s.typed.0 s.typed.1 in
      let q = both-true (is_type V.Flag (type_in es c)) (is_type t.0 (type_in es b)) (if-parts _ t.0 s.typed.0 t.2).0 in
      let n = all-append (suits es) (uses_in c) (uses_in a ++ uses_in b) s.named in
      let f = both-true (is_outer_expr levels outer c) (is_outer_expr levels outer a && is_outer_expr levels outer b) s.form in
      let r = two-sound a b n.1 (t.0, t.1) (t.0, is-type t.0 (type_in es b) q.1) f.1 in
      (record { named = n.0; typed = (V.Flag, is-type V.Flag (type_in es c) q.0); form = f.0 }, r.0, r.1)

  -- ---- what is left of an expression

  pub record ToldSo (e d : Expr) : Type 0 where
    pub named : list_all (suits es) (uses_in d) ≡ true
    pub typed : type_in es d ≡ type_in es e

  told-two : (a b c d : Expr) → ToldSo a c → ToldSo b d → list_all (suits es) (uses_in c ++ uses_in d) ≡ true
  told-two a b c d p q = append-true (suits es) (uses_in c) (uses_in d) p.named q.named

  pub told-so : (e : Expr) (n : ℕ) → Locals n (fold_types e) → Sound e → ToldSo e (told_from n e)
  told-so (Const v) n h s = record { named = s.named; typed = refl }
  told-so (Var x at) n h s = record { named = s.named; typed = refl }
  told-so (Property x p at) n h s = record { named = s.named; typed = refl }
  told-so (EdgeProperty x p at) n h s = record { named = s.named; typed = refl }
  told-so (Degree d x at) n h s = record { named = s.named; typed = refl }
  told-so NodeCount n h s = record { named = s.named; typed = refl }
  told-so EdgeCount n h s = record { named = s.named; typed = refl }
  told-so (Live x at) n h s = record { named = s.named; typed = refl }
  told-so (Unary op at e) n h s =
      let t = told-so e n h (unary-sound op at e s) in
      record { named = t.named; typed = ap (λ o. by_one o (λ t. type_if (takes1 op t) (type1 op t))) t.typed }
  told-so (Binary op at a b) n h s =
      let parts = binary-sound op at a b s in
      let l = locals-two n (count_folds a) (fold_types a) (fold_types b) (length-folds a) h in
      let t = told-so a n l.0 parts.0 in
      let u = told-so b (n + count_folds a) l.1 parts.1 in
      record {
        named = told-two a b _ _ t u;
        typed = ap (λ o. by_one o (λ t. by_one (type_in es (told_from (n + count_folds a) b)) (λ u. type_if (fits2 op t u) (type2 op t)))) t.typed
            ∙ ap (λ o. by_one (type_in es a) (λ t. by_one o (λ u. type_if (fits2 op t u) (type2 op t)))) u.typed;
      }
  told-so (Both a b) n h s =
      let parts = both-sound a b s in
      let l = locals-two n (count_folds a) (fold_types a) (fold_types b) (length-folds a) h in
      let t = told-so a n l.0 parts.0 in
      let u = told-so b (n + count_folds a) l.1 parts.1 in
      record {
        named = told-two a b _ _ t u;
        typed = ap (λ o. type_if (is_type V.Flag o && is_type V.Flag (type_in es (told_from (n + count_folds a) b))) V.Flag) t.typed ∙ ap (λ o. type_if (is_type V.Flag (type_in es a) && is_type V.Flag o) V.Flag) u.typed;
      }
  told-so (Either a b) n h s =
      let parts = either-sound a b s in
      let l = locals-two n (count_folds a) (fold_types a) (fold_types b) (length-folds a) h in
      let t = told-so a n l.0 parts.0 in
      let u = told-so b (n + count_folds a) l.1 parts.1 in
      record {
        named = told-two a b _ _ t u;
        typed = ap (λ o. type_if (is_type V.Flag o && is_type V.Flag (type_in es (told_from (n + count_folds a) b))) V.Flag) t.typed ∙ ap (λ o. type_if (is_type V.Flag (type_in es a) && is_type V.Flag o) V.Flag) u.typed;
      }
  told-so (Choose c a b) n h s =
      let parts = choose-sound c a b s in
      let n1 = n + count_folds c in
      let l = locals-two n (count_folds c) (fold_types c) (fold_types a ++ fold_types b) (length-folds c) h in
      let m = locals-two n1 (count_folds a) (fold_types a) (fold_types b) (length-folds a) l.1 in
      let t = told-so c n l.0 parts.0 in
      let u = told-so a n1 m.0 parts.1 in
      let v = told-so b (n1 + count_folds a) m.1 parts.2 in
      record {
        named = append-true (suits es) (uses_in (told_from n c)) _ t.named (told-two a b _ _ u v);
        typed = ap (λ o. by_one o (λ t. type_if (is_type V.Flag (type_in es (told_from n c)) && is_type t (type_in es (told_from (n1 + count_folds a) b))) t)) u.typed
            ∙ ap (λ o. by_one (type_in es a) (λ t. type_if (is_type V.Flag o && is_type t (type_in es (told_from (n1 + count_folds a) b))) t)) t.typed
            ∙ ap (λ o. by_one (type_in es a) (λ t. type_if (is_type V.Flag (type_in es c) && is_type t o) t)) v.typed;
      }
  told-so (Folded f hd test e) n h s = record {
    named = suited n f.vtype Told h.0.0 h.0.1 refl;
    typed = ap (λ (v : Variable). Some v.vtype) h.0.1 ∙ sym (ap (λ b. type_if b f.vtype) (if-parts _ f.vtype s.typed.0 s.typed.1).0);
  }

  -- ---- statements

  pub record Good (s : Stmt) : Type 0 where
    pub named : list_all (suits es) (uses_of s) ≡ true
    pub typed : is_typed_in es res s ≡ true
    pub form : is_outer_code es levels outer s ≡ true
    pub none : count_body s ≡ 0

  abbrev pub AllGood : List Stmt → Type 0
  AllGood [] = Unit {0}
  AllGood (s ∷ ss) = Good s × AllGood ss

  pub good-both : (xs ys : List Stmt) → AllGood xs → AllGood ys → AllGood (xs ++ ys)
  good-both [] ys h k = k
  good-both (x ∷ xs) ys h k = (h.0, good-both xs ys h.1 k)

  pub good-then : (s t : Stmt) → Good s → Good t → Good (Then s t)
  good-then s t p q = record {
    named = append-true (suits es) (uses_of s) (uses_of t) p.named q.named;
    typed = and-true (is_typed_in es res s) (is_typed_in es res t) p.typed q.typed;
    form = and-true (is_outer_code es levels outer s) (is_outer_code es levels outer t) p.form q.form;
    none = no-more (count_body s) (count_body t) p.none q.none;
  }

  pub good-sequence : (xs : List Stmt) → AllGood xs → Good (sequence xs)
  good-sequence [] h = record { named = refl; typed = refl; form = refl; none = refl }
  good-sequence (x ∷ xs) h = good-then x (sequence xs) h.0 (good-sequence xs h.1)

  pub good-behind : (xs : List Stmt) (t : Stmt) → AllGood xs → Good t → Good (behind xs t)
  good-behind [] t h k = k
  good-behind (x ∷ xs) t h k = good-sequence ((x ∷ xs) ++ (t ∷ [])) (good-both (x ∷ xs) (t ∷ []) h (k, tt))

  pub good-if : (k : Key) (c : Expr) (s t : Stmt) → list_all (suits es) (uses_in c) ≡ true → has_type es V.Flag c ≡ true → is_outer_expr levels outer c ≡ true → count_folds c ≡ 0 → Good s → Good t → Good (If k c s t)
  good-if k c s t named typed form none p q = record {
    named = append-true (suits es) (uses_in c) (uses_of s ++ uses_of t) named (append-true (suits es) (uses_of s) (uses_of t) p.named q.named);
    typed = and-true (has_type es V.Flag c) (is_typed_in es res s && is_typed_in es res t) typed (and-true (is_typed_in es res s) (is_typed_in es res t) p.typed q.typed);
    form = and-true (is_outer_expr levels outer c) (is_outer_code es levels outer s && is_outer_code es levels outer t) form (and-true (is_outer_code es levels outer s) (is_outer_code es levels outer t) p.form q.form);
    none = no-more (count_folds c) (count_body s + count_body t) none (no-more (count_body s) (count_body t) p.none q.none);
  }

  -- ---- the loop of a reduction

  module _ (x : ℕ) (f : Fold) (h : Head) (test e : Expr) (placed : (x < length es) × (variable_at es x ≡ (local f.vtype).variable)) (sound : Sound (Folded f h test e)) where
    abbrev its : List ℕ
    its = outer ∷ h.iterator ∷ []

    written : Suit Written x
    written = suited x f.vtype Written placed.0 placed.1 refl

    deep : depth_at es x ≡ 1
    deep = ap (λ (v : Variable). v.depth) placed.1

    type-is : type_at es x ≡ f.vtype
    type-is = ap (λ (v : Variable). v.vtype) placed.1

    names : (list_all (suits es) (uses_of_head h) ≡ true) × (list_all (suits es) (uses_in test) ≡ true) × (list_all (suits es) (uses_in e) ≡ true)
    names =
        let a = all-append (suits es) (uses_of_head h) (uses_in test ++ uses_in e) sound.named in
        let b = all-append (suits es) (uses_in test) (uses_in e) a.1 in
        (a.0, b.0, b.1)

    types : (is_type V.Flag (type_in es test) ≡ true) × (is_type (takes f.word f.vtype) (type_in es e) ≡ true) × (reduces (reduce_of f.word) f.vtype ≡ true)
    types =
        let a = if-parts (is_type V.Flag (type_in es test) && (is_type (takes f.word f.vtype) (type_in es e) && reduces (reduce_of f.word) f.vtype)) f.vtype sound.typed.0 sound.typed.1 in
        let b = both-true (is_type V.Flag (type_in es test)) _ a.0 in
        let c = both-true (is_type (takes f.word f.vtype) (type_in es e)) _ b.1 in
        (b.0, c.0, c.1)

    forms : (is_inner_head levels outer h ≡ true) × (is_flat its false test ≡ true) × (is_flat its false e ≡ true)
    forms =
        let a = both-true (is_inner_head levels outer h) _ sound.form in
        let b = both-true (is_flat its false test) (is_flat its false e) a.1 in
        (a.0, b.0, b.1)

    -- what stands in an inner body
    record Inner (s : Stmt) : Type 0 where
      named : list_all (suits es) (uses_of s) ≡ true
      typed : is_typed_in es res s ≡ true
      form : is_inner_code es its s ≡ true

    within-two : nat_le (depth_at es x) 2 ≡ true
    within-two = ap (λ d. nat_le d 2) deep

    combine-inner : (r : Reduce) (d : Expr) → list_all (suits es) (uses_in d) ≡ true → has_type es (type_at es x) d ≡ true → reduces r (type_at es x) ≡ true → is_flat its true d ≡ true →
        Inner (Combine f.body f.total r (T.Scalar x nowhere ∷ []) (d ∷ []))
    combine-inner r d named typed reduced flat = record {
      named = append-true (suits es) (use_as Written x) (uses_in d ++ []) written (append-true (suits es) (uses_in d) [] named refl);
      typed = and-true (has_type es (type_at es x) d && true) (reduces r (type_at es x)) (and-true (has_type es (type_at es x) d) true typed refl) reduced;
      form = and-true (nat_le (depth_at es x) 2 && true) (is_flat its true d && true) (and-true (nat_le (depth_at es x) 2) true within-two refl) (and-true (is_flat its true d) true flat refl);
    }

    adds-inner : reduces R.Sum f.vtype ≡ true → Inner (adds x f)
    adds-inner sums =
        combine-inner R.Sum (Const (value_at f.vtype (pos 1))) refl (ap (is_type (type_at es x)) (one-type es f.vtype ∙ ap Some (sym type-is)) ∙ type-itself (type_at es x)) (ap (reduces R.Sum) type-is ∙ sums) refl

    value-inner : (r : Reduce) → is_type f.vtype (type_in es e) ≡ true → reduces r f.vtype ≡ true → Inner (Combine f.body f.total r (T.Scalar x nowhere ∷ []) (e ∷ []))
    value-inner r t k = combine-inner r e names.2 (ap (λ u. is_type u (type_in es e)) type-is ∙ t) (ap (reduces r) type-is ∙ k) (edge-at-hand its e forms.2)

    flag-is : (t : VType) → is_flag t ≡ true → is_type V.Flag (type_in es e) ≡ true → is_type t (type_in es e) ≡ true
    flag-is V.Flag k h = h
    flag-is V.I32 k h = absurd (both_ways false refl k)
    flag-is V.I64 k h = absurd (both_ways false refl k)
    flag-is V.Node k h = absurd (both_ways false refl k)

    count-inner : is_type V.Flag (type_in es e) ≡ true → reduces R.Sum f.vtype ≡ true → Inner (If f.body e (adds x f) Skip)
    count-inner t k =
        let a = adds-inner k in
        record {
          named = append-true (suits es) (uses_in e) (uses_of (adds x f) ++ []) names.2 (append-true (suits es) (uses_of (adds x f)) [] a.named refl);
          typed = and-true (has_type es V.Flag e) (is_typed_in es res (adds x f) && true) t (and-true (is_typed_in es res (adds x f)) true a.typed refl);
          form = and-true (is_flat its true e) (is_inner_code es its (adds x f) && true) (edge-at-hand its e forms.2) (and-true (is_inner_code es its (adds x f)) true a.form refl);
        }

    giving-inner : (word : ReductionWord) (j : Bool) → joins word f ≡ j → is_type (takes word f.vtype) (type_in es e) ≡ true → reduces (reduce_of word) f.vtype ≡ true → Inner (giving j word x f e)
    giving-inner W.Count true i t k = adds-inner k
    giving-inner W.Count false i t k = count-inner t k
    giving-inner W.Sum false i t k = value-inner R.Sum t k
    giving-inner W.Product false i t k = value-inner R.Product t k
    giving-inner W.Min false i t k = value-inner R.Min t k
    giving-inner W.Max false i t k = value-inner R.Max t k
    giving-inner W.Exist false i t k = value-inner R.Or (flag-is f.vtype k t) k
    giving-inner W.All false i t k = value-inner R.And (flag-is f.vtype k t) k
    giving-inner W.Sum true i t k = absurd (both_ways false refl i)
    giving-inner W.Product true i t k = absurd (both_ways false refl i)
    giving-inner W.Min true i t k = absurd (both_ways false refl i)
    giving-inner W.Max true i t k = absurd (both_ways false refl i)
    giving-inner W.Exist true i t k = absurd (both_ways false refl i)
    giving-inner W.All true i t k = absurd (both_ways false refl i)

    -- the filter
    record Filter (d : Expr) : Type 0 where
      named : list_all (suits es) (uses_in d) ≡ true
      typed : has_type es V.Flag d ≡ true
      form : is_flat its true d ≡ true

    passing-filter : (word : ReductionWord) (j : Bool) → joins word f ≡ j → is_type (takes word f.vtype) (type_in es e) ≡ true → Filter (passing j test e)
    passing-filter word false i t = record { named = names.1; typed = types.0; form = edge-at-hand its test forms.1 }
    passing-filter W.Count true i t = record {
      named = append-true (suits es) (uses_in test) (uses_in e) names.1 names.2;
      typed = ap (λ b. is_type V.Flag (type_if b V.Flag)) (and-true (is_type V.Flag (type_in es test)) (is_type V.Flag (type_in es e)) types.0 t);
      form = and-true (is_flat its true test) (is_flat its true e) (edge-at-hand its test forms.1) (edge-at-hand its e forms.2);
    }
    passing-filter W.Sum true i t = absurd (both_ways false refl i)
    passing-filter W.Product true i t = absurd (both_ways false refl i)
    passing-filter W.Min true i t = absurd (both_ways false refl i)
    passing-filter W.Max true i t = absurd (both_ways false refl i)
    passing-filter W.Exist true i t = absurd (both_ways false refl i)
    passing-filter W.All true i t = absurd (both_ways false refl i)

    looped-good : Good (looped x f h test e)
    looped-good =
        let p = passing-filter f.word (joins f.word f) refl types.1 in
        let g = giving-inner f.word (joins f.word f) refl types.1 types.2 in
        let d = passing (joins f.word f) test e in
        let s = giving (joins f.word f) f.word x f e in
        record {
          named = append-true (suits es) (uses_of_head h) (uses_in d ++ uses_of s) names.0 (append-true (suits es) (uses_in d) (uses_of s) p.named g.named);
          typed = and-true (has_type es V.Flag d) (is_typed_in es res s) p.typed g.typed;
          form = and-true (is_inner_head levels outer h) (is_flat its true d && is_inner_code es its s) forms.0 (and-true (is_flat its true d) (is_inner_code es its s) p.form g.form);
          none = refl;
        }

    unit-good : (k : Key) → Good (Declare k x (Some (Const (unit_for f))))
    unit-good k = record {
      named = append-true (suits es) (use_as Written x) [] written refl;
      typed = ap (is_type (type_at es x)) (unit-typed es (reduce_of f.word) f.vtype ∙ ap Some (sym type-is)) ∙ type-itself (type_at es x);
      form = and-true (nat_eq (depth_at es x) 1) true (ap (λ d. nat_eq d 1) deep) refl;
      none = refl;
    }

    pub fold-good : (k : Key) → AllGood (Declare k x (Some (Const (unit_for f))) ∷ looped x f h test e ∷ [])
    fold-good k = (unit-good k, (looped-good, tt))

  pub folds-good : (e : Expr) (n : ℕ) (k : Key) → Locals n (fold_types e) → Sound e → AllGood (folds_set n k e)
  folds-good (Const v) n k h s = tt
  folds-good (Var x at) n k h s = tt
  folds-good (Property x p at) n k h s = tt
  folds-good (EdgeProperty x p at) n k h s = tt
  folds-good (Degree d x at) n k h s = tt
  folds-good NodeCount n k h s = tt
  folds-good EdgeCount n k h s = tt
  folds-good (Live x at) n k h s = tt
  folds-good (Unary op at e) n k h s = folds-good e n k h (unary-sound op at e s)
  folds-good (Binary op at a b) n k h s =
      let parts = binary-sound op at a b s in
      let l = locals-two n (count_folds a) (fold_types a) (fold_types b) (length-folds a) h in
      good-both (folds_set n k a) (folds_set (n + count_folds a) k b) (folds-good a n k l.0 parts.0) (folds-good b (n + count_folds a) k l.1 parts.1)
  folds-good (Both a b) n k h s =
      let parts = both-sound a b s in
      let l = locals-two n (count_folds a) (fold_types a) (fold_types b) (length-folds a) h in
      good-both (folds_set n k a) (folds_set (n + count_folds a) k b) (folds-good a n k l.0 parts.0) (folds-good b (n + count_folds a) k l.1 parts.1)
  folds-good (Either a b) n k h s =
      let parts = either-sound a b s in
      let l = locals-two n (count_folds a) (fold_types a) (fold_types b) (length-folds a) h in
      good-both (folds_set n k a) (folds_set (n + count_folds a) k b) (folds-good a n k l.0 parts.0) (folds-good b (n + count_folds a) k l.1 parts.1)
  folds-good (Choose c a b) n k h s =
      let parts = choose-sound c a b s in
      let n1 = n + count_folds c in
      let l = locals-two n (count_folds c) (fold_types c) (fold_types a ++ fold_types b) (length-folds c) h in
      let m = locals-two n1 (count_folds a) (fold_types a) (fold_types b) (length-folds a) l.1 in
      good-both (folds_set n k c) (folds_set n1 k a ++ folds_set (n1 + count_folds a) k b) (folds-good c n k l.0 parts.0)
      (good-both (folds_set n1 k a) (folds_set (n1 + count_folds a) k b) (folds-good a n1 k m.0 parts.1) (folds-good b (n1 + count_folds a) k m.1 parts.2))
  folds-good (Folded f hd test e) n k h s =
      placed-any (λ g. AllGood (fold_set n k g hd test e)) f hd test e
      (λ g. fold-good n (total_behind f g) hd test e h.0 (record { named = s.named; typed = s.typed; form = s.form }) k) (fold-good n f hd test e h.0 s k)
