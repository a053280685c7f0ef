-- A program without deferred writes means the same, is as ready as it was, and has none.
use Rattle.std.proofs.Common.{◌≡◌, ℕ, Bool, true, false, cond, List, [], ◌∷◌, ◌++◌, length, refl, sym, ap, subst, ◌∙◌, ◌⊎◌, ⊎_elim, inl, inr}
use Rattle.std.specs.Prelude.{◌&&◌, ◌||◌, nat_eq}
use Rattle.std.proofs.lemmas.Bool.{both_ways, eq-eqb, eqb-true}
use Rattle.gm_base.specs.declared.places.Place.{Place}
use Rattle.gm_value.specs.Bag.{IsIn}
use Rattle.gm_ast.specs.declared.tree.Head.{Head}
use Rattle.gm_ast.specs.declared.tree.Key.{Key}
use Rattle.gm_ast.specs.declared.tree.Target.TheVariants as T
use Rattle.gm_ast.specs.Program.{Expr, Stmt, Then, Assign, Defer, Foreach, For, If, While, Do, Program, sequence}
use Rattle.gm_forms.specs.Meanings.{SameMeaning}
use Rattle.gm_forms.specs.Ready.{Ready2}
use Rattle.gm_forms.proofs.Doings.{in-left, in-right, in-either}
use Rattle.gm_forms.proofs.Meanings.{same-refl, same-trans}
use Rattle.gm_loop_laws.specs.Deferring.{undeferred}
use Rattle.gm_dissect.specs.AllDeferred.{deferred_of, deferred_in, some_defers, without_each, without_deferred, is_empty, has_no_deferred}
use Rattle.gm_dissect.specs.Deferred.{copied, defers, undeferred_loop, without_deferred_to}
use Rattle.gm_dissect.specs.Loops.{each_loop}
use Rattle.gm_dissect.proofs.DeferredKept.{ready-without_deferred}
use Rattle.gm_dissect.proofs.DeferredLaws.{same-without_deferred}

or-left : (a b : Bool) → a ≡ true → a || b ≡ true
or-left a b h = ap (λ x. x || b) h

or-right : (a b : Bool) → b ≡ true → a || b ≡ true
or-right true b h = refl
or-right false b h = h

-- what is listed is deferred to
listed-defers : (p : ℕ) (s : Stmt) → IsIn p (deferred_of s) → defers p s ≡ true
listed-defers p (Then a b) i =
    ⊎_elim (λ l. or-left (defers p a) (defers p b) (listed-defers p a l)) (λ r. or-right (defers p a) (defers p b) (listed-defers p b r)) (in-either p (deferred_of a) (deferred_of b) i)
listed-defers p (Defer k (T.Scalar x at) e) i = absurd i
listed-defers p (Defer k (T.Property x q at) e) i = ⊎_elim (λ (e : p ≡ q). eq-eqb q p (sym e)) (λ j. absurd j) i
listed-defers p (If k c a b) i =
    ⊎_elim (λ l. or-left (defers p a) (defers p b) (listed-defers p a l)) (λ r. or-right (defers p a) (defers p b) (listed-defers p b r)) (in-either p (deferred_of a) (deferred_of b) i)
listed-defers p s i = absurd i

some-listed : (p : ℕ) (s : Stmt) → IsIn p (deferred_in s) → some_defers p s ≡ true
some-listed p (Then a b) i =
    ⊎_elim (λ l. or-left (some_defers p a) (some_defers p b) (some-listed p a l)) (λ r. or-right (some_defers p a) (some_defers p b) (some-listed p b r)) (in-either p (deferred_in a) (deferred_in b) i)
some-listed p (Foreach k at h test body) i = listed-defers p body i
some-listed p (For k at h test body) i = some-listed p body i
some-listed p (If k c a b) i =
    ⊎_elim (λ l. or-left (some_defers p a) (some_defers p b) (some-listed p a l)) (λ r. or-right (some_defers p a) (some_defers p b) (some-listed p b r)) (in-either p (deferred_in a) (deferred_in b) i)
some-listed p (While k at c body) i = some-listed p body i
some-listed p (Do k at body c) i = some-listed p body i
some-listed p s i = absurd i

-- one property's deferred writes go, and no others come
module _ (p q : ℕ) where
  abbrev Less : List ℕ → ℕ → Type 0
  Less xs y = IsIn y xs × (y ≡ p → ⊥)

  less-left : (xs ys : List ℕ) (y : ℕ) → Less xs y → Less (xs ++ ys) y
  less-left xs ys y h = (in-left y xs ys h.0, h.1)

  less-right : (xs ys : List ℕ) (y : ℕ) → Less ys y → Less (xs ++ ys) y
  less-right xs ys y h = (in-right y xs ys h.0, h.1)

  body-less : (s : Stmt) (y : ℕ) → IsIn y (deferred_of (undeferred p q s)) → Less (deferred_of s) y
  body-less (Then a b) y i =
      ⊎_elim (λ l. less-left (deferred_of a) (deferred_of b) y (body-less a y l)) (λ r. less-right (deferred_of a) (deferred_of b) y (body-less b y r))
      (in-either y (deferred_of (undeferred p q a)) (deferred_of (undeferred p q b)) i)
  body-less (Defer k (T.Scalar x at) e) y i = absurd i
  body-less (Defer k (T.Property x r at) e) y i = by (nat_eq r p) refl i
    where
      by : (b : Bool) → nat_eq r p ≡ b → IsIn y (deferred_of (cond b (Assign k (T.Property x q at) e) (Defer k (T.Property x r at) e))) → Less (r ∷ []) y
      by true e i = absurd i
      by false e i = (i, λ (f : y ≡ p). ⊎_elim (λ (g : y ≡ r). both_ways (nat_eq r p) e (eq-eqb r p (sym g ∙ f))) (λ j. absurd j) i)
  body-less (If k c a b) y i =
      ⊎_elim (λ l. less-left (deferred_of a) (deferred_of b) y (body-less a y l)) (λ r. less-right (deferred_of a) (deferred_of b) y (body-less b y r))
      (in-either y (deferred_of (undeferred p q a)) (deferred_of (undeferred p q b)) i)
  body-less s y i = absurd i

  loop-less : (key : Key) (at : Place) (h : Head) (test : Expr) (body : Stmt) (y : ℕ) → IsIn y (deferred_in (undeferred_loop p q key at h test body)) → Less (deferred_of body) y
  loop-less key at h test body y i = by (defers p body) refl i
    where
      by : (b : Bool) → defers p body ≡ b → IsIn y (deferred_in (cond b (sequence (copied q p at h ∷ Foreach key at h test (undeferred p q body) ∷ copied p q at h ∷ [])) (Foreach key at h test body))) → Less (deferred_of body) y
      by true e i = ⊎_elim (body-less body y) (λ j. absurd j) (in-either y (deferred_of (undeferred p q body)) [] i)
      by false e i = (i, λ (f : y ≡ p). both_ways (defers p body) e (listed-defers p body (subst (λ z. IsIn z (deferred_of body)) f i)))

  phase-less : (s : Stmt) (y : ℕ) → IsIn y (deferred_in (each_loop (undeferred_loop p q) s)) → Less (deferred_in s) y
  phase-less (Then a b) y i =
      ⊎_elim (λ l. less-left (deferred_in a) (deferred_in b) y (phase-less a y l)) (λ r. less-right (deferred_in a) (deferred_in b) y (phase-less b y r))
      (in-either y (deferred_in (each_loop (undeferred_loop p q) a)) (deferred_in (each_loop (undeferred_loop p q) b)) i)
  phase-less (Foreach key at h test body) y i = loop-less key at h test body y i
  phase-less (For k at h test body) y i = phase-less body y i
  phase-less (If k c a b) y i =
      ⊎_elim (λ l. less-left (deferred_in a) (deferred_in b) y (phase-less a y l)) (λ r. less-right (deferred_in a) (deferred_in b) y (phase-less b y r))
      (in-either y (deferred_in (each_loop (undeferred_loop p q) a)) (deferred_in (each_loop (undeferred_loop p q) b)) i)
  phase-less (While k at c body) y i = phase-less body y i
  phase-less (Do k at body c) y i = phase-less body y i
  phase-less s y i = absurd i

-- one step of several
abbrev step : ℕ → Program → Program
step x p = cond (some_defers x p.body) (without_deferred_to x p) p

step-same : (x : ℕ) (p : Program) → Ready2 p → SameMeaning p (step x p)
step-same x p r = by (some_defers x p.body)
  where
    by : (b : Bool) → SameMeaning p (cond b (without_deferred_to x p) p)
    by true = same-without_deferred x p r
    by false = same-refl p

step-ready : (x : ℕ) (p : Program) → Ready2 p → Ready2 (step x p)
step-ready x p r = by (some_defers x p.body)
  where
    by : (b : Bool) → Ready2 (cond b (without_deferred_to x p) p)
    by true = ready-without_deferred x p r
    by false = r

step-less : (x : ℕ) (p : Program) (y : ℕ) → IsIn y (deferred_in (step x p).body) → IsIn y (deferred_in p.body) × (y ≡ x → ⊥)
step-less x p y i = by (some_defers x p.body) refl i
  where
    by : (b : Bool) → some_defers x p.body ≡ b → IsIn y (deferred_in (cond b (without_deferred_to x p) p).body) → IsIn y (deferred_in p.body) × (y ≡ x → ⊥)
    by true e i = phase-less x (length p.declarations) p.body y i
    by false e i = (i, λ (f : y ≡ x). both_ways (some_defers x p.body) e (some-listed x p.body (subst (λ z. IsIn z (deferred_in p.body)) f i)))

pub same-each : (xs : List ℕ) (p : Program) → Ready2 p → SameMeaning p (without_each xs p)
same-each [] p r = same-refl p
same-each (x ∷ xs) p r = same-trans p (step x p) (without_each xs (step x p)) (step-same x p r) (same-each xs (step x p) (step-ready x p r))

pub ready-each : (xs : List ℕ) (p : Program) → Ready2 p → Ready2 (without_each xs p)
ready-each [] p r = r
ready-each (x ∷ xs) p r = ready-each xs (step x p) (step-ready x p r)

-- where all that is deferred to is listed, nothing is left
none-left : (xs : List ℕ) (p : Program) → ((y : ℕ) → IsIn y (deferred_in p.body) → IsIn y xs) → (y : ℕ) → IsIn y (deferred_in (without_each xs p).body) → ⊥
none-left [] p all y i = all y i
none-left (x ∷ xs) p all y i =
    none-left xs (step x p) (λ z j. let l = step-less x p z j in ⊎_elim (λ (e : z ≡ x). absurd (l.1 e)) (λ k. k) (all z l.0)) y i

nothing-in : (xs : List ℕ) → ((y : ℕ) → IsIn y xs → ⊥) → is_empty xs ≡ true
nothing-in [] h = refl
nothing-in (x ∷ xs) h = absurd (h x (inl refl))

pub none-deferred : (p : Program) → has_no_deferred (without_deferred p) ≡ true
none-deferred p = nothing-in (deferred_in (without_deferred p).body) (none-left (deferred_in p.body) p (λ y i. i))

pub same-all : (p : Program) → Ready2 p → SameMeaning p (without_deferred p)
same-all p r = same-each (deferred_in p.body) p r

pub ready-all : (p : Program) → Ready2 p → Ready2 (without_deferred p)
ready-all p r = ready-each (deferred_in p.body) p r
