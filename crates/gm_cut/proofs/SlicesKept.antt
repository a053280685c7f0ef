-- What holds of the statements of an inner body holds of its slices.
use Rattle.std.proofs.Common.{◌≡◌, ℕ, Bool, true, false, cond, List, [], ◌∷◌, ◌++◌, map, refl, sym, ap, ◌∙◌, Option}
use Rattle.std.specs.Prelude.{◌&&◌}
use Rattle.std.specs.List.{list_all}
use Rattle.gm_base.specs.declared.places.Place.{Place}
use Rattle.gm_value.specs.declared.values.VType.{VType}
use Rattle.gm_value.specs.declared.values.VType.TheVariants.{Flag}
use Rattle.gm_ast.specs.declared.tree.Declaration.{Declaration}
use Rattle.gm_ast.specs.declared.tree.Head.{Head}
use Rattle.gm_ast.specs.declared.tree.Key.{Key}
use Rattle.gm_ast.specs.Program.{Expr, Stmt, Skip, Then, Declare, DeclareEdge, Assign, Combine, Foreach, If, sequence}
use Rattle.gm_forms.specs.Sharing.{are_at_once}
use Rattle.gm_forms.specs.Typing.{has_type, is_typed_in}
use Rattle.gm_forms.specs.Uses.{suits, uses_in, uses_of_head, uses_of}
use Rattle.gm_forms.proofs.Named.{both-true}
use Rattle.gm_forms.proofs.Weaker.{and-true}
use Rattle.gm_loop_laws.specs.Inner.{quiet}
use Rattle.gm_loop_laws.specs.Resumed.{serves, needs, kept, resumed}
use Rattle.gm_loop_laws.specs.Slices.{is_idle, sliced}
use Rattle.gm_cut.specs.Lean.{lean_slice}
use Rattle.gm_cut.specs.Slices.{statements_of, unneeded, slice, all_quiet}

-- f: a test of each statement of a body
module _ (f : Stmt → Bool) (asks : Expr → Bool) (f-skip : f Skip ≡ true) (f-then : (a b : Stmt) → f (Then a b) ≡ f a && f b) (f-if : (k : Key) (c : Expr) (a b : Stmt) → f (If k c a b) ≡ asks c && (f a && f b))
    (f-each : (k : Key) (at : Place) (h : Head) (test : Expr) (a b : Stmt) → (f a ≡ true → f b ≡ true) → f (Foreach k at h test a) ≡ true → f (Foreach k at h test b) ≡ true) where
  both : (a b : Stmt) → f a ≡ true → f b ≡ true → f (Then a b) ≡ true
  both a b p q = f-then a b ∙ and-true (f a) (f b) p q

  each : (a b : Stmt) → f (Then a b) ≡ true → (f a ≡ true) × (f b ≡ true)
  each a b h = both-true (f a) (f b) (sym (f-then a b) ∙ h)

  branches : (k : Key) (c : Expr) (a b : Stmt) → f (If k c a b) ≡ true → (asks c ≡ true) × (f a ≡ true) × (f b ≡ true)
  branches k c a b h =
      let r = both-true (asks c) (f a && f b) (sym (f-if k c a b) ∙ h) in
      let q = both-true (f a) (f b) r.1 in
      (r.0, q.0, q.1)

  if-both : (k : Key) (c : Expr) (a b : Stmt) → asks c ≡ true → f a ≡ true → f b ≡ true → f (If k c a b) ≡ true
  if-both k c a b q x y = f-if k c a b ∙ and-true (asks c) (f a && f b) q (and-true (f a) (f b) x y)

  pub append : (xs ys : List Stmt) → f (sequence xs) ≡ true → f (sequence ys) ≡ true → f (sequence (xs ++ ys)) ≡ true
  append [] ys p q = q
  append (x ∷ xs) ys p q = let r = each x (sequence xs) p in both x (sequence (xs ++ ys)) r.0 (append xs ys r.1 q)

  pub parts : (xs ys : List Stmt) → f (sequence (xs ++ ys)) ≡ true → (f (sequence xs) ≡ true) × (f (sequence ys) ≡ true)
  parts [] ys h = (f-skip, h)
  parts (x ∷ xs) ys h =
      let r = each x (sequence (xs ++ ys)) h in
      let q = parts xs ys r.1 in
      (both x (sequence xs) r.0 q.0, q.1)

  pub opened : (s : Stmt) → f s ≡ true → f (sequence (statements_of s)) ≡ true
  opened Skip h = f-skip
  opened (Then a b) h = let r = each a b h in append (statements_of a) (statements_of b) (opened a r.0) (opened b r.1)
  opened (If k c a b) h =
      let r = branches k c a b h in
      both (If k c (sequence (statements_of a)) (sequence (statements_of b))) Skip (if-both k c (sequence (statements_of a)) (sequence (statements_of b)) r.0 (opened a r.1) (opened b r.2)) f-skip
  opened s h = both s Skip h f-skip

  either : (b : Bool) (s t : Stmt) → f s ≡ true → f t ≡ true → f (cond b s t) ≡ true
  either true s t p q = p
  either false s t p q = q

  quieted : (ds : List Declaration) (n : ℕ) (s : Stmt) → f s ≡ true → f (quiet ds n s) ≡ true
  quieted ds n (Then a b) h = let r = each a b h in both (quiet ds n a) (quiet ds n b) (quieted ds n a r.0) (quieted ds n b r.1)
  quieted ds n (Combine k total r ts es) h = either (are_at_once ds n true ts) (Combine k total r ts es) Skip h f-skip
  quieted ds n (If k c a b) h = let r = branches k c a b h in if-both k c (quiet ds n a) (quiet ds n b) r.0 (quieted ds n a r.1) (quieted ds n b r.2)
  quieted ds n s h = h

  pub all-quieted : (ds : List Declaration) (n : ℕ) (xs : List Stmt) → f (sequence xs) ≡ true → f (sequence (map (quiet ds n) xs)) ≡ true
  all-quieted ds n [] h = f-skip
  all-quieted ds n (x ∷ xs) h = let r = each x (sequence xs) h in both (quiet ds n x) (sequence (map (quiet ds n) xs)) (quieted ds n x r.0) (all-quieted ds n xs r.1)

  cut : (gone its : List ℕ) (s : Stmt) → f s ≡ true → f (sliced gone its s) ≡ true
  cut gone its (Then a b) h = let r = each a b h in both (sliced gone its a) (sliced gone its b) (cut gone its a r.0) (cut gone its b r.1)
  cut gone its (Declare k x e) h = either (is_idle gone its (Declare k x e)) Skip (Declare k x e) f-skip h
  cut gone its (Assign k t e) h = either (is_idle gone its (Assign k t e)) Skip (Assign k t e) f-skip h
  cut gone its (If k c a b) h =
      let r = branches k c a b h in
      either (is_idle gone its (If k c a b)) Skip (If k c (sliced gone its a) (sliced gone its b)) f-skip (if-both k c (sliced gone its a) (sliced gone its b) r.0 (cut gone its a r.1) (cut gone its b r.2))
  cut gone its (Foreach k at h test body) p = f-each k at h test body (sliced gone (h.iterator ∷ its) body) (cut gone (h.iterator ∷ its) body) p
  cut gone its s h = h

  -- what is evaluated again
  pub resumed-keeps : (ds : List Declaration) (its : List ℕ) (n : ℕ) (new : Bool) (s : Stmt) (xs : List ℕ) → f s ≡ true → f (kept ds its n new s xs) ≡ true
  resumed-keeps ds its n new Skip xs h = h
  resumed-keeps ds its n new (Then a b) xs h =
      let r = each a b h in both (kept ds its n new a (needs ds its n new b xs)) (kept ds its n new b xs) (resumed-keeps ds its n new a (needs ds its n new b xs) r.0) (resumed-keeps ds its n new b xs r.1)
  resumed-keeps ds its n new (DeclareEdge x y at) xs h = h
  resumed-keeps ds its n new (If k c a b) xs h =
      let r = branches k c a b h in
      either (serves ds its n new xs (If k c a b)) (If k c (kept ds its n new a xs) (kept ds its n new b xs)) Skip (if-both k c (kept ds its n new a xs) (kept ds its n new b xs) r.0 (resumed-keeps ds its n new a xs r.1) (resumed-keeps ds its n new b xs r.2)) f-skip
  resumed-keeps ds its n new s xs h = either (serves ds its n new xs s) s Skip h f-skip

  pub lean-keeps : (ds : List Declaration) (n t : ℕ) (done g : List Stmt) → f (sequence done) ≡ true → f (sequence g) ≡ true → f (lean_slice ds n t done g) ≡ true
  lean-keeps ds n t done g p q =
      let its = n ∷ t ∷ [] in
      let xs = needs ds its n true (sequence g) [] in
      opened (resumed ds its n (sequence done) (sequence g)) (both (kept ds its n false (sequence done) xs) (kept ds its n true (sequence g) []) (resumed-keeps ds its n false (sequence done) xs p) (resumed-keeps ds its n true (sequence g) [] q))

  pub slice-keeps : (ds : List Declaration) (n t : ℕ) (whole : Stmt) → f whole ≡ true → f (slice ds n t whole) ≡ true
  slice-keeps ds n t whole h = opened (sliced (unneeded ds n t whole) (t ∷ n ∷ []) whole) (cut (unneeded ds n t whole) (t ∷ n ∷ []) whole h)

-- ---- types and uses

and-assoc : (x y z : Bool) → (x && y) && z ≡ x && (y && z)
and-assoc true y z = refl
and-assoc false y z = refl

all-both : {A : Type 0} (p : A → Bool) (xs ys : List A) → list_all p (xs ++ ys) ≡ list_all p xs && list_all p ys
all-both p [] ys = refl
all-both p (x ∷ xs) ys = ap (λ b. p x && b) (all-both p xs ys) ∙ sym (and-assoc (p x) (list_all p xs) (list_all p ys))

-- what is known of an inner body, and of its slices
module _ (ds : List Declaration) (res : Option VType) where
  abbrev uses : Stmt → Bool
  uses s = list_all (suits ds) (uses_of s)

  abbrev types : Stmt → Bool
  types s = is_typed_in ds res s

  pub record Fits (s : Stmt) : Type 0 where
    pub named : list_all (suits ds) (uses_of s) ≡ true
    pub typed : is_typed_in ds res s ≡ true

  uses-each : (k : Key) (at : Place) (h : Head) (test : Expr) (a b : Stmt) → (uses a ≡ true → uses b ≡ true) → uses (Foreach k at h test a) ≡ true → uses (Foreach k at h test b) ≡ true
  uses-each k at h test a b f p =
      let r = both-true (list_all (suits ds) (uses_of_head h)) (list_all (suits ds) (uses_in test ++ uses_of a)) (sym (all-both (suits ds) (uses_of_head h) (uses_in test ++ uses_of a)) ∙ p) in
      let q = both-true (list_all (suits ds) (uses_in test)) (uses a) (sym (all-both (suits ds) (uses_in test) (uses_of a)) ∙ r.1) in
      all-both (suits ds) (uses_of_head h) (uses_in test ++ uses_of b)
      ∙ and-true (list_all (suits ds) (uses_of_head h)) (list_all (suits ds) (uses_in test ++ uses_of b)) r.0
      (all-both (suits ds) (uses_in test) (uses_of b) ∙ and-true (list_all (suits ds) (uses_in test)) (uses b) q.0 (f q.1))

  types-each : (k : Key) (at : Place) (h : Head) (test : Expr) (a b : Stmt) → (types a ≡ true → types b ≡ true) → types (Foreach k at h test a) ≡ true → types (Foreach k at h test b) ≡ true
  types-each k at h test a b f p = let r = both-true (has_type ds Flag test) (types a) p in and-true (has_type ds Flag test) (types b) r.0 (f r.1)

  uses-if : (k : Key) (c : Expr) (a b : Stmt) → uses (If k c a b) ≡ list_all (suits ds) (uses_in c) && (uses a && uses b)
  uses-if k c a b = all-both (suits ds) (uses_in c) (uses_of a ++ uses_of b) ∙ ap (λ x. list_all (suits ds) (uses_in c) && x) (all-both (suits ds) (uses_of a) (uses_of b))

  abbrev asks : Expr → Bool
  asks c = list_all (suits ds) (uses_in c)

  uses-then : (a b : Stmt) → uses (Then a b) ≡ uses a && uses b
  uses-then a b = all-both (suits ds) (uses_of a) (uses_of b)

  pub fits-slice : (n t : ℕ) (whole : Stmt) → Fits whole → Fits (slice ds n t whole)
  fits-slice n t whole h = record {
    named = slice-keeps uses asks refl uses-then uses-if uses-each ds n t whole h.named;
    typed = slice-keeps types (has_type ds Flag) refl (λ a b. refl) (λ k c a b. refl) types-each ds n t whole h.typed;
  }

  pub fits-lean : (n t : ℕ) (done g : List Stmt) → Fits (sequence done) → Fits (sequence g) → Fits (lean_slice ds n t done g)
  fits-lean n t done g p q = record {
    named = lean-keeps uses asks refl uses-then uses-if uses-each ds n t done g p.named q.named;
    typed = lean-keeps types (has_type ds Flag) refl (λ a b. refl) (λ k c a b. refl) types-each ds n t done g p.typed q.typed;
  }

  pub fits-joined : (xs ys : List Stmt) → Fits (sequence xs) → Fits (sequence ys) → Fits (sequence (xs ++ ys))
  fits-joined xs ys h g = record {
    named = append uses asks refl uses-then uses-if uses-each xs ys h.named g.named;
    typed = append types (has_type ds Flag) refl (λ a b. refl) (λ k c a b. refl) types-each xs ys h.typed g.typed;
  }

  pub fits-parts : (xs ys : List Stmt) → Fits (sequence (xs ++ ys)) → Fits (sequence xs) × Fits (sequence ys)
  fits-parts xs ys h =
      let a = parts uses asks refl uses-then uses-if uses-each xs ys h.named in
      let b = parts types (has_type ds Flag) refl (λ a b. refl) (λ k c a b. refl) types-each xs ys h.typed in
      (record { named = a.0; typed = b.0 }, record { named = a.1; typed = b.1 })

  pub fits-again : (n t : ℕ) (xs ys : List Stmt) → Fits (sequence xs) → Fits (sequence ys) → Fits (sequence (all_quiet ds n t xs ++ ys))
  fits-again n t xs ys h g = record {
    named = append uses asks refl uses-then uses-if uses-each (map (quiet ds n) xs) ys (all-quieted uses asks refl uses-then uses-if uses-each ds n xs h.named) g.named;
    typed = append types (has_type ds Flag) refl (λ a b. refl) (λ k c a b. refl) types-each (map (quiet ds n) xs) ys (all-quieted types (has_type ds Flag) refl (λ a b. refl) (λ k c a b. refl) types-each ds n xs h.typed) g.typed;
  }

  pub fits-opened : (s : Stmt) → Fits s → Fits (sequence (statements_of s))
  fits-opened s h = record {
    named = opened uses asks refl uses-then uses-if uses-each s h.named;
    typed = opened types (has_type ds Flag) refl (λ a b. refl) (λ k c a b. refl) types-each s h.typed;
  }
