-- The variables that hoisting adds to the table.
use Rattle.std.proofs.Common.{◌≡◌, ◌≤◌, ◌<◌, ◌+◌, ◌++◌, ℕ, suc, List, [], ◌∷◌, map, length, refl, ap, subst, ◌∙◌, arith, inl, inr, append_assoc}
use Rattle.std.specs.Prelude.{◌⊎◌, ◌≢◌, nat_eq, Bool, true, false, Some, None}
use Rattle.std.proofs.lemmas.Bool.{both_ways, eq-eqb, eqb-true}
use Rattle.std.proofs.lemmas.List.{length-append, length-map}
use Rattle.gm_value.specs.declared.values.VType.{VType}
use Rattle.gm_ast.specs.declared.tree.Declaration.{Declaration}
use Rattle.gm_ast.specs.declared.tree.Variable.{Variable}
use Rattle.gm_ast.specs.Program.{Expr, Const, Var, Property, EdgeProperty, Degree, NodeCount, EdgeCount, Live, Unary, Binary, Both, Either, Choose, Folded, Stmt, Then, Declare, Assign, Defer, Combine, Foreach, For, If, While, Do, InBfs, InBfsBoth}
use Rattle.gm_semantics.specs.Statements.{variable_at}
use Rattle.gm_desugar.proofs.Appended.{next-below, variable-next}
use Rattle.gm_hoisting.specs.Hoisting.{local, count_folds, count_all, fold_types, all_types, count_body, body_types, is_sure, count_check, check_added, count_loop, loop_added, count_phase, phase_added}

-- how many there are
both-lengths : {A : Type 0} (xs ys : List A) (n m : ℕ) → length xs ≡ n → length ys ≡ m → length (xs ++ ys) ≡ n + m
both-lengths xs ys n m p q = length-append xs ys ∙ ap (λ z. z + length ys) p ∙ ap (λ z. n + z) q

pub length-folds : (e : Expr) → length (fold_types e) ≡ count_folds e
length-folds (Const v) = refl
length-folds (Var x at) = refl
length-folds (Property x p at) = refl
length-folds (EdgeProperty x p at) = refl
length-folds (Degree d x at) = refl
length-folds NodeCount = refl
length-folds EdgeCount = refl
length-folds (Live x at) = refl
length-folds (Unary op at e) = length-folds e
length-folds (Binary op at a b) = both-lengths (fold_types a) (fold_types b) (count_folds a) (count_folds b) (length-folds a) (length-folds b)
length-folds (Both a b) = both-lengths (fold_types a) (fold_types b) (count_folds a) (count_folds b) (length-folds a) (length-folds b)
length-folds (Either a b) = both-lengths (fold_types a) (fold_types b) (count_folds a) (count_folds b) (length-folds a) (length-folds b)
length-folds (Choose c a b) =
    both-lengths (fold_types c) (fold_types a ++ fold_types b) (count_folds c) (count_folds a + count_folds b) (length-folds c)
    (both-lengths (fold_types a) (fold_types b) (count_folds a) (count_folds b) (length-folds a) (length-folds b))
length-folds (Folded f h test e) = refl

pub length-all : (es : List Expr) → length (all_types es) ≡ count_all es
length-all [] = refl
length-all (e ∷ es) = both-lengths (fold_types e) (all_types es) (count_folds e) (count_all es) (length-folds e) (length-all es)

pub length-body : (s : Stmt) → length (body_types s) ≡ count_body s
length-body (Then a b) = both-lengths (body_types a) (body_types b) (count_body a) (count_body b) (length-body a) (length-body b)
length-body (Declare k x (Some e)) = length-folds e
length-body (Declare k x None) = refl
length-body (Assign k t e) = length-folds e
length-body (Defer k t e) = length-folds e
length-body (Combine k total r ts es) = length-all es
length-body (If k c a b) =
    both-lengths (fold_types c) (body_types a ++ body_types b) (count_folds c) (count_body a + count_body b) (length-folds c)
    (both-lengths (body_types a) (body_types b) (count_body a) (count_body b) (length-body a) (length-body b))
length-body s = refl

pub length-loop : (test : Expr) (body : Stmt) → length (loop_added test body) ≡ count_loop test body
length-loop test body =
    length-map (fold_types test ++ body_types body) local ∙ both-lengths (fold_types test) (body_types body) (count_folds test) (count_body body) (length-folds test) (length-body body)

pub length-check : (b : Bool) → length (check_added b) ≡ count_check b
length-check true = refl
length-check false = refl

pub length-phase : (s : Stmt) (its : List ℕ) → length (phase_added its s) ≡ count_phase its s
length-phase (Then a b) its = both-lengths (phase_added its a) (phase_added its b) (count_phase its a) (count_phase its b) (length-phase a its) (length-phase b its)
length-phase (Foreach k at h test body) its = length-loop test body
length-phase (For k at h test body) its = length-phase body (h.iterator ∷ its)
length-phase (If k c a b) its = both-lengths (phase_added its a) (phase_added its b) (count_phase its a) (count_phase its b) (length-phase a its) (length-phase b its)
length-phase (While k at c body) its = length-phase body its
length-phase (Do k at body c) its = length-phase body its
length-phase (InBfs k at s test body) its = both-lengths (check_added (is_sure its s test)) (loop_added test body) (count_check (is_sure its s test)) (count_loop test body) (length-check (is_sure its s test)) (length-loop test body)
length-phase (InBfsBoth k at s test body back_key back_test back) its =
    both-lengths (check_added (is_sure its s test)) (loop_added test body ++ loop_added back_test back) (count_check (is_sure its s test)) (count_loop test body + count_loop back_test back) (length-check (is_sure its s test))
    (both-lengths (loop_added test body) (loop_added back_test back) (count_loop test body) (count_loop back_test back) (length-loop test body) (length-loop back_test back))
length-phase s its = refl

-- ---- where they stand

module _ (es : List Declaration) where
  -- variables of a table from a number on
  abbrev pub Placed : ℕ → List Declaration → Type 0
  Placed n [] = Unit {0}
  Placed n (d ∷ ds) = ((n < length es) × (variable_at es n ≡ d.variable)) × Placed (suc n) ds

  pub placed-both : (n : ℕ) (xs ys : List Declaration) → Placed n (xs ++ ys) → Placed n xs × Placed (n + length xs) ys
  placed-both n [] ys h = (tt, subst (λ m. Placed m ys) (let e : n ≡ n + 0 = omega arith in e) h)
  placed-both n (x ∷ xs) ys h =
      let q = placed-both (suc n) xs ys h.1 in
      ((h.0, q.0), subst (λ m. Placed m ys) (let e : suc n + length xs ≡ n + suc (length xs) = omega arith in e) q.1)

  -- each local is one
  pub placed-local : (n : ℕ) (ts : List VType) (i : ℕ) → Placed n (map local ts) → n ≤ i → i < n + length ts → (variable_at es i).depth ≡ 1
  placed-local n [] i h l b = absurd (omega (arith, l, b))
  placed-local n (t ∷ ts) i h l b = by (which n i l) (λ m. placed-local (suc n) ts i h.1 m (omega (arith, b)))
    where
      which : (n i : ℕ) → n ≤ i → (i ≡ n) ⊎ (suc n ≤ i)
      which n i l = by (nat_eq i n) refl
        where
          by : (b : Bool) → nat_eq i n ≡ b → (i ≡ n) ⊎ (suc n ≤ i)
          by true e = inl (eqb-true i n e)
          by false e = inr (let apart : i ≢ n = (λ s. both_ways (nat_eq i n) e (eq-eqb i n s)) in omega (arith, l, apart))

      by : (i ≡ n) ⊎ (suc n ≤ i) → (suc n ≤ i → (variable_at es i).depth ≡ 1) → (variable_at es i).depth ≡ 1
      by (inl e) rest = ap (λ m. (variable_at es m).depth) e ∙ ap (λ (v : Variable). v.depth) h.0.1
      by (inr m) rest = rest m

-- at the end of a table
pub placed-at-end : (front more : List Declaration) → Placed (front ++ more) (length front) more
placed-at-end front [] = tt
placed-at-end front (d ∷ more) =
    let rest = placed-at-end (front ++ (d ∷ [])) more in
    let tables : (front ++ (d ∷ [])) ++ more ≡ front ++ (d ∷ more) = append_assoc front (d ∷ []) more in
    let next : length (front ++ (d ∷ [])) ≡ suc (length front) = (let e = length-append front (d ∷ []) in omega (arith, e)) in (
      (next-below front d more, variable-next front d more),
      subst (λ n. Placed (front ++ (d ∷ more)) n more) next (subst (λ es. Placed es (length (front ++ (d ∷ []))) more) tables rest),
    )
