-- Locals that go to properties one after another go there at once.
use Rattle.std.proofs.Common.{◌≡◌, ℕ, suc, Bool, true, false, cond, List, [], ◌∷◌, ◌++◌, map, refl, sym, ap, ◌∙◌, Option, Some, None}
use Rattle.std.specs.Prelude.{nat_eq, option_map}
use Rattle.std.proofs.lemmas.Bool.{eqb-true}
use Rattle.gm_base.specs.declared.places.Place.{Place}
use Rattle.gm_value.specs.declared.values.Value.{Value}
use Rattle.gm_ast.specs.declared.tree.Declaration.{Declaration}
use Rattle.gm_ast.specs.declared.tree.Head.{Head}
use Rattle.gm_ast.specs.declared.tree.Key.{Key}
use Rattle.gm_ast.specs.declared.tree.Target.{Target}
use Rattle.gm_ast.specs.declared.tree.Target.TheVariants as T
use Rattle.gm_ast.specs.Program.{Expr, Const, Var, Property, Unary, Binary, Both, Either, Choose, Stmt, Then, Declare, Assign, Defer, Combine, Foreach, If, sequence}
use Rattle.gm_loop_laws.specs.Localised.{moved_in, moved_target, moved_declared, moved}
use Rattle.gm_dissect.specs.Locals.{set_to}
use Rattle.gm_locals.specs.Groups.{locals_row, locals_loop}
use Rattle.gm_locals.specs.AllMoved.{property_of, first_values, read_from, all_moved_in, aimed_at, all_moved_target, declared_at, all_moved, settings, set_before}

-- n: the loop's iterator; at: the place of writes; zero: the first values
module _ (n : ℕ) (at : Place) (zero : ℕ → Value) where
  -- no local
  abbrev none : ℕ → Option ℕ
  none y = None

  none-in : (e : Expr) → all_moved_in none n e ≡ e
  none-in (Unary op place e) = ap (Unary op place) (none-in e)
  none-in (Binary op place a b) = rw (none-in a, none-in b) refl
  none-in (Both a b) = rw (none-in a, none-in b) refl
  none-in (Either a b) = rw (none-in a, none-in b) refl
  none-in (Choose c a b) = rw (none-in c, none-in a, none-in b) refl
  none-in e = refl

  none-option : (e : Option Expr) → option_map (all_moved_in none n) e ≡ e
  none-option None = refl
  none-option (Some e) = ap Some (none-in e)

  none-all : (es : List Expr) → map (all_moved_in none n) es ≡ es
  none-all [] = refl
  none-all (e ∷ es) = rw (none-in e, none-all es) refl

  none-target : (t : Target) → all_moved_target none n t ≡ t
  none-target (T.Scalar y place) = refl
  none-target (T.Property y p place) = refl

  none-targets : (ts : List Target) → map (all_moved_target none n) ts ≡ ts
  none-targets [] = refl
  none-targets (t ∷ ts) = rw (none-target t, none-targets ts) refl

  none-moved : (s : Stmt) → all_moved none n at zero s ≡ s
  none-moved (Then a b) = rw (none-moved a, none-moved b) refl
  none-moved (Declare k y e) = ap (Declare k y) (none-option e)
  none-moved (Assign k t e) = rw (none-target t, none-in e) refl
  none-moved (Defer k t e) = ap (Defer k t) (none-in e)
  none-moved (Combine k total r ts es) = rw (none-targets ts, none-all es) refl
  none-moved (If k c a b) = rw (none-in c, none-moved a, none-moved b) refl
  none-moved (Foreach k place h test body) = rw (none-in test, none-moved body) refl
  none-moved s = refl

  -- one local more
  module _ (x q : ℕ) (xs : List ℕ) where
    abbrev all : ℕ → Option ℕ
    all = property_of q (x ∷ xs)

    abbrev rest : ℕ → Option ℕ
    rest = property_of (suc q) xs

    abbrev mi : Expr → Expr
    mi e = moved_in x q n at (zero x) e

    abbrev mt : Target → Target
    mt t = moved_target x q n at (zero x) t

    more-in : (e : Expr) → all_moved_in all n e ≡ all_moved_in rest n (mi e)
    more-in (Var y place) = by (nat_eq y x)
      where
        by : (b : Bool) → read_from n (cond b (Some q) (rest y)) y place ≡ all_moved_in rest n (cond b (Property n q place) (Var y place))
        by true = refl
        by false = refl
    more-in (Unary op place e) = ap (Unary op place) (more-in e)
    more-in (Binary op place a b) = rw (more-in a, more-in b) refl
    more-in (Both a b) = rw (more-in a, more-in b) refl
    more-in (Either a b) = rw (more-in a, more-in b) refl
    more-in (Choose c a b) = rw (more-in c, more-in a, more-in b) refl
    more-in e = refl

    more-all : (es : List Expr) → map (all_moved_in all n) es ≡ map (all_moved_in rest n) (map mi es)
    more-all [] = refl
    more-all (e ∷ es) = rw (more-in e, more-all es) refl

    more-target : (t : Target) → all_moved_target all n t ≡ all_moved_target rest n (mt t)
    more-target (T.Scalar y place) = by (nat_eq y x)
      where
        by : (b : Bool) → aimed_at n (cond b (Some q) (rest y)) y place ≡ all_moved_target rest n (cond b (T.Property n q place) (T.Scalar y place))
        by true = refl
        by false = refl
    more-target (T.Property y p place) = refl

    more-targets : (ts : List Target) → map (all_moved_target all n) ts ≡ map (all_moved_target rest n) (map mt ts)
    more-targets [] = refl
    more-targets (t ∷ ts) = rw (more-target t, more-targets ts) refl

    more-declared : (k : Key) (y : ℕ) (e : Option Expr) → declared_at n at zero (all y) k y (option_map (all_moved_in all n) e) ≡ all_moved rest n at zero (moved_declared x q n at (zero x) k y e)
    more-declared k y None = by (nat_eq y x) refl
      where
        by : (b : Bool) → nat_eq y x ≡ b → declared_at n at zero (cond b (Some q) (rest y)) k y None ≡ all_moved rest n at zero (cond b (Assign k (T.Property n q at) (Const (zero x))) (Declare k y None))
        by true e = ap (λ z. Assign k (T.Property n q at) (Const (zero z))) (eqb-true y x e)
        by false e = refl
    more-declared k y (Some e) = by (nat_eq y x) (more-in e)
      where
        by : (b : Bool) → all_moved_in all n e ≡ all_moved_in rest n (mi e) →
            declared_at n at zero (cond b (Some q) (rest y)) k y (Some (all_moved_in all n e)) ≡ all_moved rest n at zero (cond b (Assign k (T.Property n q at) (mi e)) (Declare k y (Some (mi e))))
        by true same = ap (Assign k (T.Property n q at)) same
        by false same = ap (λ d. declared_at n at zero (rest y) k y (Some d)) same

    more-moved : (s : Stmt) → all_moved all n at zero s ≡ all_moved rest n at zero (moved x q n at (zero x) s)
    more-moved (Then a b) = rw (more-moved a, more-moved b) refl
    more-moved (Declare k y e) = more-declared k y e
    more-moved (Assign k t e) = rw (more-target t, more-in e) refl
    more-moved (Defer k t e) = ap (Defer k t) (more-in e)
    more-moved (Combine k total r ts es) = rw (more-targets ts, more-all es) refl
    more-moved (If k c a b) = rw (more-in c, more-moved a, more-moved b) refl
    more-moved (Foreach k place h test body) = rw (more-in test, more-moved body) refl
    more-moved s = refl

-- the loop that keeps the locals, and those that set their properties
pub row-at-once : (ds : List Declaration) (xs : List ℕ) (q : ℕ) (k : Key) (at : Place) (h : Head) (test : Expr) (body : Stmt) →
    locals_row ds xs q k at h test body
    ≡ settings q xs at h ++ (Foreach k at h (all_moved_in (property_of q xs) h.iterator test) (all_moved (property_of q xs) h.iterator at (first_values ds) body) ∷ [])
row-at-once ds [] q k at h test body =
    let zero = first_values ds in
    let n = h.iterator in
    sym (ap (λ e. Foreach k at h e (all_moved (none n at zero) n at zero body) ∷ []) (none-in n at zero test) ∙ ap (λ s. Foreach k at h test s ∷ []) (none-moved n at zero body))
row-at-once ds (x ∷ xs) q k at h test body =
    let zero = first_values ds in
    let n = h.iterator in
    ap (λ l. set_to q x at h ∷ l) (row-at-once ds xs (suc q) k at h (moved_in x q n at (zero x) test) (moved x q n at (zero x) body)
    ∙ ap (λ s. settings (suc q) xs at h ++ (s ∷ []))
    (sym (ap (λ e. Foreach k at h e (all_moved (property_of q (x ∷ xs)) n at zero body)) (more-in n at zero x q xs test) ∙ ap (Foreach k at h (all_moved_in (property_of (suc q) xs) n (moved_in x q n at (zero x) test))) (more-moved n at zero x q xs body))))

-- as one statement
pub loop-at-once : (ds : List Declaration) (xs : List ℕ) (q : ℕ) (k : Key) (at : Place) (h : Head) (test : Expr) (body : Stmt) →
    locals_loop ds xs q k at h test body
    ≡ set_before q xs at h (Foreach k at h (all_moved_in (property_of q xs) h.iterator test) (all_moved (property_of q xs) h.iterator at (first_values ds) body))
loop-at-once ds [] q k at h test body =
    let zero = first_values ds in
    let n = h.iterator in
    sym (ap (λ e. Foreach k at h e (all_moved (none n at zero) n at zero body)) (none-in n at zero test) ∙ ap (Foreach k at h test) (none-moved n at zero body))
loop-at-once ds (x ∷ xs) q k at h test body = ap sequence (row-at-once ds (x ∷ xs) q k at h test body)
