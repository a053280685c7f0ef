-- Two accesses to one variable in one loop of a program without races.
use Rattle.std.proofs.Common.{◌≡◌, ◌⊎◌, ℕ, inl, inr, Bool, true, false, List, [], ◌∷◌, refl, sym, ap, ◌∙◌, ⊎_elim, arith}
use Rattle.std.specs.Prelude.{◌&&◌, ◌||◌, not, nat_eq}
use Rattle.std.specs.Cmp.Derive.{both_true}
use Rattle.std.proofs.lemmas.Bool.{both_ways, cases_Bool, eq-eqb}
use Rattle.std.proofs.lemmas.Bool.Decides.{nat_tests}
use Rattle.gm_base.specs.declared.places.Place.{Place}
use Rattle.gm_base.specs.Places.{place_lt}
use Rattle.gm_ast.specs.declared.accesses.Access.{Access}
use Rattle.gm_ast.specs.declared.accesses.AccessKind.{AccessKind}
use Rattle.gm_ast.specs.declared.accesses.AccessKind.TheVariants.{OwnRead, OtherRead, OwnReduce, PushReduce, Deferred}
use Rattle.gm_ast.specs.declared.accesses.Operation.{Operation}
use Rattle.gm_ast.specs.declared.tree.Declaration.{Declaration}
use Rattle.gm_ast.specs.Loops.{any}
use Rattle.gm_ast.specs.Races.{is_read, is_own_write, is_push_reduce, is_own_reduce, is_own_change, is_change, is_deferred, operation_eq, differ, meet, meets, not_behind, reads_changed, meets_push, reads_reduced, mixes, mixes_deferred, same_inner}
use Rattle.gm_ready.proofs.Racing.{Member, Clean}

any-of : {A : Type 0} (f : A → Bool) (x : A) (xs : List A) → Member x xs → f x ≡ true → any f xs ≡ true
any-of f x [] m h = absurd m
any-of f x (y ∷ ys) (inl e) h = ap (λ b. b || any f ys) (sym (ap f e) ∙ h)
any-of f x (y ∷ ys) (inr m) h = either (f y) (any-of f x ys m h)
  where
    either : (b : Bool) → any f ys ≡ true → b || any f ys ≡ true
    either true h = refl
    either false h = h

self : (x : ℕ) → nat_eq x x ≡ true
self x = eq-eqb x x refl

place-order : (p q : Place) → place_lt p q ≡ true → place_lt q p ≡ false
place-order p q h = grind (arith, nat_tests)

-- of two places one is not before the other
one-behind : (p q : Place) → (not (place_lt q p) ≡ true) ⊎ (not (place_lt p q) ≡ true)
one-behind p q = ⊎_elim (λ (h : place_lt q p ≡ true). inr (ap not (place-order q p h))) (λ h. inl (ap not h)) (cases_Bool (place_lt q p))

or-out : (a b : Bool) → a || b ≡ false → (a ≡ false) × (b ≡ false)
or-out true b h = absurd (both_ways true h refl)
or-out false b h = (refl, h)

or-turn : (a b c : Bool) → a || (b || c) ≡ true → b || (a || c) ≡ true
or-turn true true c h = refl
or-turn true false c h = refl
or-turn false true c h = refl
or-turn false false c h = h

-- a reduction to the iteration's own, or to others
abbrev pub reduce_kind : Bool → Operation → AccessKind
reduce_kind true op = OwnReduce op
reduce_kind false op = PushReduce op

abbrev pub access_at : Place → ℕ → ℕ → ℕ → AccessKind → Access
access_at at loop inner x kind = record { place = at; loop_id = loop; inner_id = inner; variable = x; kind = kind }

-- an access of a kind to a variable in a loop, around it an inner one or none
abbrev pub Has : List Access → ℕ → ℕ → AccessKind → ℕ → Type 0
Has all loop inner kind x = (at : Place) × Member (access_at at loop inner x kind) all

module _ (ds : List Declaration) (all : List Access) (clean : (b : Access) → Member b all → Clean ds all b) where
  meets-one : (loop i j x : ℕ) (a b : AccessKind) (h : Has all loop i a x) (k : Has all loop j b x) (test : Access → Bool) → test (access_at h.0 loop i x a) ≡ true → meets all (access_at k.0 loop j x b) test ≡ true
  meets-one loop i j x a b h k test t =
      any-of (λ c. meet c (access_at k.0 loop j x b) && test c) (access_at h.0 loop i x a) all h.1 (both_true (both_true (self x) (self loop)) t)

  -- what is read at neighbours no iteration changes at its own node
  pub never-changed : (loop i j x : ℕ) (kind : AccessKind) → is_own_change kind ≡ true → Has all loop i OtherRead x → Has all loop j kind x → ⊥
  never-changed loop i j x kind c r w =
      let b = access_at r.0 loop i x OtherRead in
      both_ways (reads_changed all b) (clean b r.1).unchanged (meets-one loop j i x kind OtherRead w r (λ a. is_own_change a.kind) c)

  -- what is pushed is neither read nor written
  pub never-pushed : (loop i j x : ℕ) (kind : AccessKind) (op : Operation) → is_read kind || is_own_write kind ≡ true → Has all loop i kind x → Has all loop j (PushReduce op) x → ⊥
  never-pushed loop i j x kind op c r w =
      let b = access_at r.0 loop i x kind in
      both_ways (meets_push all b) (or-out (meets_push all b) (reads_reduced all b) (clean b r.1).unpushed).0
      (both_true c (meets-one loop j i x (PushReduce op) kind w r (λ a. is_push_reduce a.kind) refl))

  -- what an inner loop reduces to it does not read
  pub never-reduced : (loop i x : ℕ) (op : Operation) → Has all loop i OwnRead x → Has all loop i (OwnReduce op) x → ⊥
  never-reduced loop i x op r w =
      let b = access_at r.0 loop i x OwnRead in
      both_ways (reads_reduced all b) (or-out (meets_push all b) (reads_reduced all b) (clean b r.1).unpushed).1
      (meets-one loop i i x (OwnReduce op) OwnRead w r (λ a. is_own_reduce a.kind && same_inner a b) (self i))

  -- what is deferred is not changed otherwise
  pub never-deferred : (loop i j x : ℕ) (kind : AccessKind) → is_change kind ≡ true → Has all loop i Deferred x → Has all loop j kind x → ⊥
  never-deferred loop i j x kind c d w =
      let a = access_at d.0 loop i x Deferred in
      let b = access_at w.0 loop j x kind in
      ⊎_elim
      (λ (h : not_behind a b ≡ true).
      both_ways (mixes_deferred all b) (clean b w.1).undeferred
      (meets-one loop i j x Deferred kind d w (λ a. not_behind a b && ((is_deferred a.kind && is_change b.kind) || (is_change a.kind && is_deferred b.kind))) (both_true h (first kind c))))
      (λ (h : not_behind b a ≡ true).
      both_ways (mixes_deferred all a) (clean a d.1).undeferred
      (meets-one loop j i x kind Deferred w d (λ b. not_behind b a && ((is_deferred b.kind && is_change a.kind) || (is_change b.kind && is_deferred a.kind))) (both_true h (second kind c))))
      (one-behind d.0 w.0)
    where
      first : (k : AccessKind) → is_change k ≡ true → (true && is_change k) || (false && is_deferred k) ≡ true
      first k h = ap (λ z. z || false) h

      second : (k : AccessKind) → is_change k ≡ true → (is_deferred k && false) || (is_change k && true) ≡ true
      second k h = by (is_deferred k) (is_change k) h
        where
          by : (a b : Bool) → b ≡ true → (a && false) || (b && true) ≡ true
          by true b h = ap (λ z. z && true) h
          by false b h = ap (λ z. z && true) h

  -- two reductions to one variable do the same, where one goes to others or both are in one inner loop
  undiffering : (loop i j x : ℕ) (a b : AccessKind) → is_push_reduce a || (is_push_reduce b || nat_eq i j) ≡ true → (h : Has all loop i a x) (k : Has all loop j b x) → not (place_lt k.0 h.0) ≡ true → differ a b ≡ false
  undiffering loop i j x a b near h k before = by (differ a b) refl
    where
      there : Access
      there = access_at k.0 loop j x b

      by : (d : Bool) → differ a b ≡ d → d ≡ false
      by false e = refl
      by true e = absurd (both_ways (mixes all there) (clean there k.1).unmixed
          (meets-one loop i j x a b h k (λ c. differ c.kind b && (not_behind c there && (is_push_reduce c.kind || (is_push_reduce b || same_inner c there)))) (both_true e (both_true before near))))

  pub one-way : (loop i j x : ℕ) (a b : Bool) (p q : Operation) → is_push_reduce (reduce_kind a p) || (is_push_reduce (reduce_kind b q) || nat_eq i j) ≡ true → Has all loop i (reduce_kind a p) x → Has all loop j (reduce_kind b q) x
      → (operation_eq p q ≡ true) ⊎ (operation_eq q p ≡ true)
  one-way loop i j x a b p q near h k =
      ⊎_elim
      (λ (before : not (place_lt k.0 h.0) ≡ true). inl (same a b p q (undiffering loop i j x (reduce_kind a p) (reduce_kind b q) near h k before)))
      (λ (before : not (place_lt h.0 k.0) ≡ true).
      inr (same b a q p (undiffering loop j i x (reduce_kind b q) (reduce_kind a p)
      (or-turn (is_push_reduce (reduce_kind a p)) (is_push_reduce (reduce_kind b q)) (nat_eq j i) (ap (λ c. is_push_reduce (reduce_kind a p) || (is_push_reduce (reduce_kind b q) || c)) (turned i j) ∙ near)) k h before)))
      (one-behind h.0 k.0)
    where
      turned : (i j : ℕ) → nat_eq j i ≡ nat_eq i j
      turned i j = grind (arith, nat_tests)

      not-out : (b : Bool) → not b ≡ false → b ≡ true
      not-out true h = refl
      not-out false h = absurd (both_ways true h refl)

      same : (a b : Bool) (p q : Operation) → differ (reduce_kind a p) (reduce_kind b q) ≡ false → operation_eq p q ≡ true
      same true true p q h = not-out (operation_eq p q) h
      same true false p q h = not-out (operation_eq p q) h
      same false true p q h = not-out (operation_eq p q) h
      same false false p q h = not-out (operation_eq p q) h
