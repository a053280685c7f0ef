-- What is listed of the slices of an inner body is listed of the body, in the same order.
use Rattle.std.proofs.Common.{◌≡◌, ℕ, Bool, true, false, cond, List, [], ◌∷◌, ◌++◌, append-nil, refl, sym, ap, subst, ◌∙◌, ⊎_elim, inl, inr}
use Rattle.std.specs.Prelude.{◌⊎◌, ◌&&◌, nat_lt}
use Rattle.std.proofs.lemmas.List.{append_assoc}
use Rattle.gm_value.specs.Bag.{IsIn}
use Rattle.gm_ast.specs.Keys.{Fault, fault_lt, all_before}
use Rattle.gm_ast.specs.declared.tree.Declaration.{Declaration}
use Rattle.gm_ast.specs.declared.tree.Key.{Key}
use Rattle.gm_ast.specs.Program.{Expr, Stmt, Skip, Then, DeclareEdge, If, sequence}
use Rattle.gm_forms.specs.Order.{lie_before, are_numbered}
use Rattle.gm_forms.proofs.Named.{both-true}
use Rattle.gm_forms.proofs.Weaker.{and-true}
use Rattle.gm_forms.proofs.CutLaws.{lies-in}
use Rattle.gm_loop_laws.specs.Resumed.{serves, needs, kept, resumed}
use Rattle.gm_cut.specs.Lean.{lean_slice}
use Rattle.gm_cut.specs.Slices.{statements_of}

-- ---- some of a list, in its order

abbrev pub Some : {A : Type 0} → List A → List A → Type 0
Some [] ys = Unit {0}
Some (x ∷ xs) [] = ⊥
Some (x ∷ xs) (y ∷ ys) = ((x ≡ y) × Some xs ys) ⊎ Some (x ∷ xs) ys

pub some-itself : {A : Type 0} (xs : List A) → Some xs xs
some-itself [] = tt
some-itself (x ∷ xs) = inl (refl, some-itself xs)

some-behind : {A : Type 0} (xs us vs : List A) → Some xs vs → Some xs (us ++ vs)
some-behind xs [] vs s = s
some-behind [] (u ∷ us) vs s = tt
some-behind (x ∷ xs) (u ∷ us) vs s = inr (some-behind (x ∷ xs) us vs s)

pub some-both : {A : Type 0} (xs ys us vs : List A) → Some xs us → Some ys vs → Some (xs ++ ys) (us ++ vs)
some-both [] ys us vs s q = some-behind ys us vs q
some-both (x ∷ xs) ys [] vs s q = absurd s
some-both (x ∷ xs) ys (u ∷ us) vs s q = ⊎_elim (λ p. inl (p.0, some-both xs ys us vs p.1 q)) (λ r. inr (some-both (x ∷ xs) ys us vs r q)) s

pub some-then : {A : Type 0} (xs ys zs : List A) → Some xs ys → Some ys zs → Some xs zs
some-then [] ys zs s q = tt
some-then (x ∷ xs) [] zs s q = absurd s
some-then (x ∷ xs) (y ∷ ys) [] s q = absurd q
some-then {A} (x ∷ xs) (y ∷ ys) (z ∷ zs) s q =
    ⊎_elim
    (λ (p : (y ≡ z) × Some ys zs). ⊎_elim (λ (r : (x ≡ y) × Some xs ys). inl (r.0 ∙ p.0, some-then xs ys zs r.1 p.1)) (λ (r : Some (x ∷ xs) ys). inr (some-then (x ∷ xs) ys zs r p.1)) s)
    (λ (r : Some (y ∷ ys) zs). inr (some-then (x ∷ xs) (y ∷ ys) zs s r)) q

pub some-in : {A : Type 0} (xs ys : List A) → Some xs ys → (x : A) → IsIn x xs → IsIn x ys
some-in [] ys s z i = absurd i
some-in (x ∷ xs) [] s z i = absurd s
some-in (x ∷ xs) (y ∷ ys) s z i = ⊎_elim (λ (p : (x ≡ y) × Some xs ys). ⊎_elim (λ (e : z ≡ x). inl (e ∙ p.0)) (λ j. inr (some-in xs ys p.1 z j)) i) (λ (r : Some (x ∷ xs) ys). inr (some-in (x ∷ xs) ys r z i)) s

pub some-first : {A : Type 0} (xs ys : List A) → Some xs (xs ++ ys)
some-first [] ys = tt
some-first (x ∷ xs) ys = inl (refl, some-first xs ys)

pub some-second : {A : Type 0} (xs ys : List A) → Some ys (xs ++ ys)
some-second xs ys = some-behind ys xs ys (some-itself ys)

-- ---- what holds of each two members, the first of which stands first

module _ {A : Type 0} (test : A → A → Bool) (one : A → List A → Bool) (all : List A → Bool) (one-none : (a : A) → one a [] ≡ true) (one-more : (a b : A) (bs : List A) → one a (b ∷ bs) ≡ test a b && one a bs)
    (all-none : all [] ≡ true) (all-more : (a : A) (rest : List A) → all (a ∷ rest) ≡ one a rest && all rest) where
  one-some : (a : A) (xs ys : List A) → Some xs ys → one a ys ≡ true → one a xs ≡ true
  one-some a [] ys s h = one-none a
  one-some a (x ∷ xs) [] s h = absurd s
  one-some a (x ∷ xs) (y ∷ ys) s h =
      let r = both-true (test a y) (one a ys) (sym (one-more a y ys) ∙ h) in
      ⊎_elim (λ (p : (x ≡ y) × Some xs ys). one-more a x xs ∙ and-true (test a x) (one a xs) (ap (test a) p.0 ∙ r.0) (one-some a xs ys p.1 r.1)) (λ (q : Some (x ∷ xs) ys). one-some a (x ∷ xs) ys q r.1) s

  pub all-some : (xs ys : List A) → Some xs ys → all ys ≡ true → all xs ≡ true
  all-some [] ys s h = all-none
  all-some (x ∷ xs) [] s h = absurd s
  all-some (x ∷ xs) (y ∷ ys) s h =
      let r = both-true (one y ys) (all ys) (sym (all-more y ys) ∙ h) in
      ⊎_elim (λ (p : (x ≡ y) × Some xs ys). all-more x xs ∙ and-true (one x xs) (all xs) (one-some x xs ys p.1 (ap (λ z. one z ys) p.0 ∙ r.0)) (all-some xs ys p.1 r.1)) (λ (q : Some (x ∷ xs) ys). all-some (x ∷ xs) ys q r.1) s

  -- of two parts
  pub one-apart : (a b : A) (bs : List A) → one a bs ≡ true → IsIn b bs → test a b ≡ true
  one-apart a b [] h i = absurd i
  one-apart a b (c ∷ bs) h i = let r = both-true (test a c) (one a bs) (sym (one-more a c bs) ∙ h) in ⊎_elim (λ (e : b ≡ c). ap (test a) e ∙ r.0) (λ k. one-apart a b bs r.1 k) i

  pub all-apart : (xs ys : List A) (a b : A) → all (xs ++ ys) ≡ true → IsIn a xs → IsIn b ys → test a b ≡ true
  all-apart [] ys a b h i k = absurd i
  all-apart (x ∷ xs) ys a b h i k =
      let r = both-true (one x (xs ++ ys)) (all (xs ++ ys)) (sym (all-more x (xs ++ ys)) ∙ h) in
      ⊎_elim (λ (e : a ≡ x). ap (λ z. test z b) e ∙ one-apart x b (xs ++ ys) r.0 (some-in ys (xs ++ ys) (some-second xs ys) b k)) (λ l. all-apart xs ys a b r.1 l k) i

-- ---- faults

before-from : (xs : List Fault) (y : Fault) → ((x : Fault) → IsIn x xs → fault_lt x y ≡ true) → all_before xs y ≡ true
before-from [] y h = refl
before-from (x ∷ xs) y h = and-true (fault_lt x y) (all_before xs y) (h x (inl refl)) (before-from xs y (λ z i. h z (inr i)))

lies-from : (xs ys : List Fault) → ((x y : Fault) → IsIn x xs → IsIn y ys → fault_lt x y ≡ true) → lie_before xs ys ≡ true
lies-from xs [] h = refl
lies-from xs (y ∷ ys) h = and-true (all_before xs y) (lie_before xs ys) (before-from xs y (λ x i. h x y i (inl refl))) (lies-from xs ys (λ x z i k. h x z i (inr k)))

pub lies-some : (xs ys us vs : List Fault) → Some xs us → Some ys vs → lie_before us vs ≡ true → lie_before xs ys ≡ true
lies-some xs ys us vs s q h = lies-from xs ys (λ x y i k. lies-in us vs x y h (some-in xs us s x i) (some-in ys vs q y k))

pub numbered-some : (xs ys : List Fault) → Some xs ys → are_numbered ys ≡ true → are_numbered xs ≡ true
numbered-some [] ys s h = refl
numbered-some (x ∷ xs) [] s h = absurd s
numbered-some (x ∷ xs) (y ∷ ys) s h =
    let r = both-true (nat_lt 0 y.key.statement) (are_numbered ys) h in
    ⊎_elim (λ (p : (x ≡ y) × Some xs ys). and-true (nat_lt 0 x.key.statement) (are_numbered xs) (ap (λ (z : Fault). nat_lt 0 z.key.statement) p.0 ∙ r.0) (numbered-some xs ys p.1 r.1)) (λ (q : Some (x ∷ xs) ys). numbered-some (x ∷ xs) ys q r.1) s

-- ---- what is listed of a body

module _ {A : Type 0} (f : Stmt → List A) (g : Key → Expr → List A) (f-skip : f Skip ≡ []) (f-then : (a b : Stmt) → f (Then a b) ≡ f a ++ f b) (f-if : (k : Key) (c : Expr) (a b : Stmt) → f (If k c a b) ≡ g k c ++ (f a ++ f b)) where
  pub listed-append : (xs ys : List Stmt) → f (sequence (xs ++ ys)) ≡ f (sequence xs) ++ f (sequence ys)
  listed-append [] ys = sym (ap (λ l. l ++ f (sequence ys)) f-skip)
  listed-append (x ∷ xs) ys =
      f-then x (sequence (xs ++ ys)) ∙ ap (λ l. f x ++ l) (listed-append xs ys) ∙ sym (append_assoc (f x) (f (sequence xs)) (f (sequence ys))) ∙ sym (ap (λ l. l ++ f (sequence ys)) (f-then x (sequence xs)))

  alone : (s : Stmt) → f (Then s Skip) ≡ f s
  alone s = f-then s Skip ∙ ap (λ l. f s ++ l) f-skip ∙ append-nil (f s)

  pub listed-opened : (s : Stmt) → f (sequence (statements_of s)) ≡ f s
  listed-opened Skip = refl
  listed-opened (Then a b) = listed-append (statements_of a) (statements_of b) ∙ ap (λ l. l ++ f (sequence (statements_of b))) (listed-opened a) ∙ ap (λ l. f a ++ l) (listed-opened b) ∙ sym (f-then a b)
  listed-opened (If k c a b) =
      alone (If k c (sequence (statements_of a)) (sequence (statements_of b))) ∙ f-if k c (sequence (statements_of a)) (sequence (statements_of b))
      ∙ ap (λ l. g k c ++ (l ++ f (sequence (statements_of b)))) (listed-opened a) ∙ ap (λ l. g k c ++ (f a ++ l)) (listed-opened b) ∙ sym (f-if k c a b)
  listed-opened s = alone s

  either : (b : Bool) (s : Stmt) → Some (f (cond b s Skip)) (f s)
  either true s = some-itself (f s)
  either false s = subst (λ l. Some l (f s)) (sym f-skip) tt

  pub listed-kept : (ds : List Declaration) (its : List ℕ) (n : ℕ) (new : Bool) (s : Stmt) (xs : List ℕ) → Some (f (kept ds its n new s xs)) (f s)
  listed-kept ds its n new Skip xs = some-itself (f Skip)
  listed-kept ds its n new (Then a b) xs =
      let ys = needs ds its n new b xs in
      subst (λ l. Some l (f (Then a b))) (sym (f-then (kept ds its n new a ys) (kept ds its n new b xs)))
      (subst (λ l. Some (f (kept ds its n new a ys) ++ f (kept ds its n new b xs)) l) (sym (f-then a b)) (some-both (f (kept ds its n new a ys)) (f (kept ds its n new b xs)) (f a) (f b) (listed-kept ds its n new a ys) (listed-kept ds its n new b xs)))
  listed-kept ds its n new (DeclareEdge x y at) xs = some-itself (f (DeclareEdge x y at))
  listed-kept ds its n new (If k c a b) xs =
      let ka = kept ds its n new a xs in
      let kb = kept ds its n new b xs in
      some-then (f (cond (serves ds its n new xs (If k c a b)) (If k c ka kb) Skip)) (f (If k c ka kb)) (f (If k c a b)) (either (serves ds its n new xs (If k c a b)) (If k c ka kb))
      (subst (λ l. Some l (f (If k c a b))) (sym (f-if k c ka kb))
      (subst (λ l. Some (g k c ++ (f ka ++ f kb)) l) (sym (f-if k c a b))
      (some-both (g k c) (f ka ++ f kb) (g k c) (f a ++ f b) (some-itself (g k c)) (some-both (f ka) (f kb) (f a) (f b) (listed-kept ds its n new a xs) (listed-kept ds its n new b xs)))))
  listed-kept ds its n new s xs = either (serves ds its n new xs s) s

  pub listed-resumed : (ds : List Declaration) (n t : ℕ) (done gs : List Stmt) → Some (f (resumed ds (n ∷ t ∷ []) n (sequence done) (sequence gs))) (f (sequence (done ++ gs)))
  listed-resumed ds n t done gs =
      let its = n ∷ t ∷ [] in
      let ka = kept ds its n false (sequence done) (needs ds its n true (sequence gs) []) in
      let kb = kept ds its n true (sequence gs) [] in
      subst (λ l. Some l (f (sequence (done ++ gs)))) (sym (f-then ka kb))
      (subst (λ l. Some (f ka ++ f kb) l) (sym (listed-append done gs))
      (some-both (f ka) (f kb) (f (sequence done)) (f (sequence gs)) (listed-kept ds its n false (sequence done) (needs ds its n true (sequence gs) [])) (listed-kept ds its n true (sequence gs) [])))

  pub listed-slice : (ds : List Declaration) (n t : ℕ) (done gs : List Stmt) → Some (f (lean_slice ds n t done gs)) (f (sequence (done ++ gs)))
  listed-slice ds n t done gs = subst (λ l. Some l (f (sequence (done ++ gs)))) (sym (listed-opened (resumed ds (n ∷ t ∷ []) n (sequence done) (sequence gs)))) (listed-resumed ds n t done gs)
