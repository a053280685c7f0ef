-- Own statements pass the tests of own statements where they pass those of all bodies.
use Rattle.std.proofs.Common.{◌≡◌, ℕ, Bool, true, false, List, [], ◌∷◌, refl, sym, ap}
use Rattle.std.specs.Prelude.{◌&&◌, ◌||◌, not, nat_eq}
use Rattle.std.specs.List.{list_all}
use Rattle.std.proofs.lemmas.Bool.{both_ways}
use Rattle.gm_ast.specs.declared.tree.Target.{Target}
use Rattle.gm_ast.specs.declared.tree.Target.TheVariants as T
use Rattle.gm_ast.specs.Program.{Stmt, Skip, Then, Declare, DeclareEdge, Assign, Defer, Combine, Group, Foreach, For, If, While, Do, InBfs, InBfsBoth, Return}
use Rattle.gm_forms.specs.Cut.{can_overflow, is_there, is_here, is_calm, adds_elsewhere, adds_last, is_own_body, is_own_code, is_own_loop}
use Rattle.gm_forms.specs.Order.{cannot_fail}
use Rattle.gm_forms.proofs.Named.{both-true}
use Rattle.gm_cut.specs.Own.{is_safe, adds_beyond, adds_safely}
use Rattle.gm_cut.proofs.Grouped.{two-same}

or-none : (x : Bool) → x || false ≡ x
or-none true = refl
or-none false = refl

module _ (n : ℕ) where
  there-here : (t : Target) → is_there (n ∷ []) t ≡ is_here n t
  there-here (T.Scalar x at) = refl
  there-here (T.Property x p at) = or-none (nat_eq x n)

  all-here : (ts : List Target) → list_all (is_there (n ∷ [])) ts ≡ list_all (is_here n) ts
  all-here [] = refl
  all-here (t ∷ ts) = two-same (λ x y. x && y) (is_there (n ∷ []) t) (is_here n t) (list_all (is_there (n ∷ [])) ts) (list_all (is_here n) ts) (there-here t) (all-here ts)

  pub beyond-same : (s : Stmt) → adds_beyond n s ≡ adds_elsewhere (n ∷ []) s
  beyond-same (Then a b) = two-same (λ x y. x || y) (adds_beyond n a) (adds_elsewhere (n ∷ []) a) (adds_beyond n b) (adds_elsewhere (n ∷ []) b) (beyond-same a) (beyond-same b)
  beyond-same (Combine k total r ts es) = ap (λ x. can_overflow r && not x) (sym (all-here ts))
  beyond-same (If k c a b) = two-same (λ x y. x || y) (adds_beyond n a) (adds_elsewhere (n ∷ []) a) (adds_beyond n b) (adds_elsewhere (n ∷ []) b) (beyond-same a) (beyond-same b)
  beyond-same s = refl

  both-calm : (a b : Stmt) → is_safe n a ≡ is_calm (n ∷ []) a → is_safe n b ≡ is_calm (n ∷ []) b → is_safe n a && is_safe n b ≡ is_calm (n ∷ []) a && is_calm (n ∷ []) b
  both-calm a b e h = two-same (λ x y. x && y) (is_safe n a) (is_calm (n ∷ []) a) (is_safe n b) (is_calm (n ∷ []) b) e h

  body-calm : (s : Stmt) → is_own_body n s ≡ true → is_safe n s ≡ is_calm (n ∷ []) s
  body-calm Skip h = refl
  body-calm (Then a b) h = let r = both-true (is_own_body n a) (is_own_body n b) h in both-calm a b (body-calm a r.0) (body-calm b r.1)
  body-calm (Declare k x e) h = refl
  body-calm (DeclareEdge x y at) h = refl
  body-calm (Assign k t e) h = ap (λ x. x && cannot_fail e) (sym (there-here t))
  body-calm (Defer k t e) h = absurd (both_ways false refl h)
  body-calm (Combine k total r ts es) h = ap (λ x. not (can_overflow r) && (x && list_all cannot_fail es)) (sym (all-here ts))
  body-calm (Group k at g p e) h = absurd (both_ways false refl h)
  body-calm (Foreach k at hd test body) h = absurd (both_ways false refl h)
  body-calm (For k at hd test body) h = absurd (both_ways false refl h)
  body-calm (If k c a b) h = let r = both-true (is_own_body n a) (is_own_body n b) h in ap (λ x. cannot_fail c && x) (both-calm a b (body-calm a r.0) (body-calm b r.1))
  body-calm (While k at c body) h = absurd (both_ways false refl h)
  body-calm (Do k at body c) h = absurd (both_ways false refl h)
  body-calm (InBfs k at s test body) h = absurd (both_ways false refl h)
  body-calm (InBfsBoth k at s test body back_key back_test back) h = absurd (both_ways false refl h)
  body-calm (Return k at e) h = absurd (both_ways false refl h)

  pub code-calm : (s : Stmt) → is_own_code n s ≡ true → is_safe n s ≡ is_calm (n ∷ []) s
  code-calm (Then a b) h = let r = both-true (is_own_code n a) (is_own_code n b) h in both-calm a b (code-calm a r.0) (code-calm b r.1)
  code-calm (Combine k total r ts es) h = ap (λ x. not (can_overflow r) && (x && list_all cannot_fail es)) (sym (all-here ts))
  code-calm Skip h = refl
  code-calm (Declare k x e) h = refl
  code-calm (DeclareEdge x y at) h = refl
  code-calm (Assign k t e) h = body-calm (Assign k t e) h
  code-calm (Defer k t e) h = body-calm (Defer k t e) h
  code-calm (Group k at g p e) h = body-calm (Group k at g p e) h
  code-calm (Foreach k at hd test body) h = body-calm (Foreach k at hd test body) h
  code-calm (For k at hd test body) h = body-calm (For k at hd test body) h
  code-calm (If k c a b) h = body-calm (If k c a b) h
  code-calm (While k at c body) h = body-calm (While k at c body) h
  code-calm (Do k at body c) h = body-calm (Do k at body c) h
  code-calm (InBfs k at s test body) h = body-calm (InBfs k at s test body) h
  code-calm (InBfsBoth k at s test body back_key back_test back) h = body-calm (InBfsBoth k at s test body back_key back_test back) h
  code-calm (Return k at e) h = body-calm (Return k at e) h

  -- one part behind another
  step-last : (a b : Stmt) → is_safe n b ≡ is_calm (n ∷ []) b → adds_safely n a ≡ adds_last (n ∷ []) a → adds_safely n b ≡ adds_last (n ∷ []) b → adds_safely n (Then a b) ≡ adds_last (n ∷ []) (Then a b)
  step-last a b e h g =
      two-same (λ x y. x && y) (adds_safely n a) (adds_last (n ∷ []) a) (adds_safely n b && (not (adds_beyond n a) || is_safe n b)) (adds_last (n ∷ []) b && (not (adds_elsewhere (n ∷ []) a) || is_calm (n ∷ []) b)) h
      (two-same (λ x y. x && y) (adds_safely n b) (adds_last (n ∷ []) b) (not (adds_beyond n a) || is_safe n b) (not (adds_elsewhere (n ∷ []) a) || is_calm (n ∷ []) b) g
      (two-same (λ x y. not x || y) (adds_beyond n a) (adds_elsewhere (n ∷ []) a) (is_safe n b) (is_calm (n ∷ []) b) (beyond-same a) e))

  body-last : (s : Stmt) → is_own_body n s ≡ true → adds_safely n s ≡ adds_last (n ∷ []) s
  body-last (Then a b) h = let r = both-true (is_own_body n a) (is_own_body n b) h in step-last a b (body-calm b r.1) (body-last a r.0) (body-last b r.1)
  body-last (If k c a b) h =
      let r = both-true (is_own_body n a) (is_own_body n b) h in
      two-same (λ x y. x && y) (adds_safely n a) (adds_last (n ∷ []) a) (adds_safely n b) (adds_last (n ∷ []) b) (body-last a r.0) (body-last b r.1)
  body-last s h = refl

  pub code-last : (s : Stmt) → is_own_code n s ≡ true → adds_safely n s ≡ adds_last (n ∷ []) s
  code-last (Then a b) h = let r = both-true (is_own_code n a) (is_own_code n b) h in step-last a b (code-calm b r.1) (code-last a r.0) (code-last b r.1)
  code-last (If k c a b) h = body-last (If k c a b) h
  code-last s h = refl

  -- the walk's test is that of loops of own statements
  pub own_same : (s : Stmt) → is_own_code n s && adds_safely n s ≡ is_own_loop n s
  own_same s = by (is_own_code n s) refl
    where
      by : (b : Bool) → is_own_code n s ≡ b → b && adds_safely n s ≡ b && adds_last (n ∷ []) s
      by true h = code-last s h
      by false h = refl
