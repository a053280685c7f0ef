-- A body that keeps a local in a property of the loop's node has the same faults, in the same order.
use Rattle.std.proofs.Common.{◌≡◌, ℕ, Bool, true, false, cond, List, [], ◌∷◌, ◌++◌, map, refl, sym, ap, ◌∙◌, Option, Some, None}
use Rattle.std.specs.Prelude.{◌&&◌, ◌||◌, not, nat_eq, nat_lt}
use Rattle.gm_base.specs.declared.places.Place.{Place}
use Rattle.gm_value.specs.declared.values.VType.{VType}
use Rattle.gm_value.specs.Numbers.{zero_of}
use Rattle.gm_ast.specs.declared.tree.Key.{Key}
use Rattle.gm_ast.specs.declared.tree.Target.{Target}
use Rattle.gm_ast.specs.declared.tree.Target.TheVariants as T
use Rattle.gm_ast.specs.Keys.{Fault, total_fault}
use Rattle.gm_ast.specs.Ways.{is_in}
use Rattle.gm_ast.specs.Program.{Expr, Const, Var, Property, Unary, Binary, Both, Either, Choose, Stmt, Then, Declare, Assign, Defer, Combine, Foreach, If}
use Rattle.gm_forms.specs.Order.{fault_if, can_fail1, can_fail2, fault_of, are_numbered, cannot_fail, lie_before, hoisted_in, hoisted_in_all, hoists_in_order, rest_in, faults_in, faults_in_all, in_order, all_in_order, target_faults, targets_faults, faults_of, leads, body_in_order, loop_in_order, begins}
use Rattle.gm_loop_laws.specs.Localised.{moved_in, moved_target, moved_declared, moved}
use Rattle.gm_dissect.proofs.Undeferred.{two-same}

and-end : (b : Bool) → b && true ≡ b
and-end true = refl
and-end false = refl

pub or-end : (b : Bool) → b || true ≡ true
or-end true = refl
or-end false = refl

lies-same : (xs ys us vs : List Fault) → xs ≡ us → ys ≡ vs → lie_before xs ys ≡ lie_before us vs
lies-same xs ys us vs e f = ap (λ l. lie_before l ys) e ∙ ap (lie_before us) f

-- x: the local; q: its property; n: the iterator; t: the local's type
module _ (x q n : ℕ) (at : Place) (t : VType) where
  abbrev mi : Expr → Expr
  mi e = moved_in x q n at (zero_of t) e

  abbrev mt : Target → Target
  mt o = moved_target x q n at (zero_of t) o

  abbrev mv : Stmt → Stmt
  mv s = moved x q n at (zero_of t) s

  -- expressions
  pub rest-moved : (e : Expr) (k : Key) → rest_in (mi e) k ≡ rest_in e k
  rest-moved (Var y p) k = by (nat_eq y x)
    where
      by : (c : Bool) → rest_in (cond c (Property n q p) (Var y p)) k ≡ []
      by true = refl
      by false = refl
  rest-moved (Unary op p e) k = ap (λ l. fault_if (can_fail1 op) k p ++ l) (rest-moved e k)
  rest-moved (Binary op p a b) k = ap (λ l. fault_if (can_fail2 op) k p ++ l) (two-same (λ y z. y ++ z) (rest_in (mi a) k) (rest_in (mi b) k) (rest_in a k) (rest_in b k) (rest-moved a k) (rest-moved b k))
  rest-moved (Both a b) k = two-same (λ y z. y ++ z) (rest_in (mi a) k) (rest_in (mi b) k) (rest_in a k) (rest_in b k) (rest-moved a k) (rest-moved b k)
  rest-moved (Either a b) k = two-same (λ y z. y ++ z) (rest_in (mi a) k) (rest_in (mi b) k) (rest_in a k) (rest_in b k) (rest-moved a k) (rest-moved b k)
  rest-moved (Choose c a b) k =
      two-same (λ y z. y ++ z) (rest_in (mi c) k) (rest_in (mi a) k ++ rest_in (mi b) k) (rest_in c k) (rest_in a k ++ rest_in b k) (rest-moved c k)
      (two-same (λ y z. y ++ z) (rest_in (mi a) k) (rest_in (mi b) k) (rest_in a k) (rest_in b k) (rest-moved a k) (rest-moved b k))
  rest-moved e k = refl

  pub hoisted-moved : (e : Expr) → hoisted_in (mi e) ≡ hoisted_in e
  hoisted-moved (Var y p) = by (nat_eq y x)
    where
      by : (c : Bool) → hoisted_in (cond c (Property n q p) (Var y p)) ≡ []
      by true = refl
      by false = refl
  hoisted-moved (Unary op p e) = hoisted-moved e
  hoisted-moved (Binary op p a b) = two-same (λ y z. y ++ z) (hoisted_in (mi a)) (hoisted_in (mi b)) (hoisted_in a) (hoisted_in b) (hoisted-moved a) (hoisted-moved b)
  hoisted-moved (Both a b) = two-same (λ y z. y ++ z) (hoisted_in (mi a)) (hoisted_in (mi b)) (hoisted_in a) (hoisted_in b) (hoisted-moved a) (hoisted-moved b)
  hoisted-moved (Either a b) = two-same (λ y z. y ++ z) (hoisted_in (mi a)) (hoisted_in (mi b)) (hoisted_in a) (hoisted_in b) (hoisted-moved a) (hoisted-moved b)
  hoisted-moved (Choose c a b) =
      two-same (λ y z. y ++ z) (hoisted_in (mi c)) (hoisted_in (mi a) ++ hoisted_in (mi b)) (hoisted_in c) (hoisted_in a ++ hoisted_in b) (hoisted-moved c)
      (two-same (λ y z. y ++ z) (hoisted_in (mi a)) (hoisted_in (mi b)) (hoisted_in a) (hoisted_in b) (hoisted-moved a) (hoisted-moved b))
  hoisted-moved e = refl

  lies-moved : (a b : Expr) → lie_before (hoisted_in (mi a)) (hoisted_in (mi b)) ≡ lie_before (hoisted_in a) (hoisted_in b)
  lies-moved a b = lies-same (hoisted_in (mi a)) (hoisted_in (mi b)) (hoisted_in a) (hoisted_in b) (hoisted-moved a) (hoisted-moved b)

  two-hoists : (a b : Expr) → hoists_in_order (mi a) ≡ hoists_in_order a → hoists_in_order (mi b) ≡ hoists_in_order b →
      hoists_in_order (mi a) && (hoists_in_order (mi b) && lie_before (hoisted_in (mi a)) (hoisted_in (mi b))) ≡ hoists_in_order a && (hoists_in_order b && lie_before (hoisted_in a) (hoisted_in b))
  two-hoists a b f g =
      two-same (λ y z. y && z) (hoists_in_order (mi a)) (hoists_in_order (mi b) && lie_before (hoisted_in (mi a)) (hoisted_in (mi b))) (hoists_in_order a) (hoists_in_order b && lie_before (hoisted_in a) (hoisted_in b)) f
      (two-same (λ y z. y && z) (hoists_in_order (mi b)) (lie_before (hoisted_in (mi a)) (hoisted_in (mi b))) (hoists_in_order b) (lie_before (hoisted_in a) (hoisted_in b)) g (lies-moved a b))

  pub hoists-moved : (e : Expr) → hoists_in_order (mi e) ≡ hoists_in_order e
  hoists-moved (Var y p) = by (nat_eq y x)
    where
      by : (c : Bool) → hoists_in_order (cond c (Property n q p) (Var y p)) ≡ true
      by true = refl
      by false = refl
  hoists-moved (Unary op p e) = hoists-moved e
  hoists-moved (Binary op p a b) = two-hoists a b (hoists-moved a) (hoists-moved b)
  hoists-moved (Both a b) = two-hoists a b (hoists-moved a) (hoists-moved b)
  hoists-moved (Either a b) = two-hoists a b (hoists-moved a) (hoists-moved b)
  hoists-moved (Choose c a b) =
      let after : Expr = Both (mi a) (mi b) in
      ap (λ y. y && (hoists_in_order (mi a) && (hoists_in_order (mi b) && (lie_before (hoisted_in (mi c)) (hoisted_in after) && lie_before (hoisted_in (mi a)) (hoisted_in (mi b)))))) (hoists-moved c)
      ∙ ap (λ y. hoists_in_order c && (y && (hoists_in_order (mi b) && (lie_before (hoisted_in (mi c)) (hoisted_in after) && lie_before (hoisted_in (mi a)) (hoisted_in (mi b)))))) (hoists-moved a)
      ∙ ap (λ y. hoists_in_order c && (hoists_in_order a && (y && (lie_before (hoisted_in (mi c)) (hoisted_in after) && lie_before (hoisted_in (mi a)) (hoisted_in (mi b)))))) (hoists-moved b)
      ∙ ap (λ y. hoists_in_order c && (hoists_in_order a && (hoists_in_order b && (y && lie_before (hoisted_in (mi a)) (hoisted_in (mi b)))))) (lies-moved c (Both a b))
      ∙ ap (λ y. hoists_in_order c && (hoists_in_order a && (hoists_in_order b && (lie_before (hoisted_in c) (hoisted_in a ++ hoisted_in b) && y)))) (lies-moved a b)
  hoists-moved e = refl

  pub faults-in-moved : (e : Expr) (k : Key) → faults_in (mi e) k ≡ faults_in e k
  faults-in-moved e k = two-same (λ y z. y ++ z) (hoisted_in (mi e)) (rest_in (mi e) k) (hoisted_in e) (rest_in e k) (hoisted-moved e) (rest-moved e k)

  pub order-in-moved : (e : Expr) (k : Key) → in_order (mi e) k ≡ in_order e k
  order-in-moved e k =
      two-same (λ y z. y && z) (hoists_in_order (mi e)) (lie_before (hoisted_in (mi e)) (rest_in (mi e) k)) (hoists_in_order e) (lie_before (hoisted_in e) (rest_in e k)) (hoists-moved e)
      (lies-same (hoisted_in (mi e)) (rest_in (mi e) k) (hoisted_in e) (rest_in e k) (hoisted-moved e) (rest-moved e k))

  pub safe-moved : (e : Expr) → cannot_fail (mi e) ≡ cannot_fail e
  safe-moved (Var y p) = by (nat_eq y x)
    where
      by : (c : Bool) → cannot_fail (cond c (Property n q p) (Var y p)) ≡ true
      by true = refl
      by false = refl
  safe-moved (Unary op p e) = ap (λ b. not (can_fail1 op) && b) (safe-moved e)
  safe-moved (Binary op p a b) = ap (λ c. not (can_fail2 op) && c) (two-same (λ y z. y && z) (cannot_fail (mi a)) (cannot_fail (mi b)) (cannot_fail a) (cannot_fail b) (safe-moved a) (safe-moved b))
  safe-moved (Both a b) = two-same (λ y z. y && z) (cannot_fail (mi a)) (cannot_fail (mi b)) (cannot_fail a) (cannot_fail b) (safe-moved a) (safe-moved b)
  safe-moved (Either a b) = two-same (λ y z. y && z) (cannot_fail (mi a)) (cannot_fail (mi b)) (cannot_fail a) (cannot_fail b) (safe-moved a) (safe-moved b)
  safe-moved (Choose c a b) =
      two-same (λ y z. y && z) (cannot_fail (mi c)) (cannot_fail (mi a) && cannot_fail (mi b)) (cannot_fail c) (cannot_fail a && cannot_fail b) (safe-moved c)
      (two-same (λ y z. y && z) (cannot_fail (mi a)) (cannot_fail (mi b)) (cannot_fail a) (cannot_fail b) (safe-moved a) (safe-moved b))
  safe-moved e = refl

  all-faults : (es : List Expr) (k : Key) → faults_in_all (map mi es) k ≡ faults_in_all es k
  all-faults [] k = refl
  all-faults (e ∷ es) k = two-same (λ y z. y ++ z) (faults_in (mi e) k) (faults_in_all (map mi es) k) (faults_in e k) (faults_in_all es k) (faults-in-moved e k) (all-faults es k)

  all-hoisted : (es : List Expr) → hoisted_in_all (map mi es) ≡ hoisted_in_all es
  all-hoisted [] = refl
  all-hoisted (e ∷ es) = two-same (λ y z. y ++ z) (hoisted_in (mi e)) (hoisted_in_all (map mi es)) (hoisted_in e) (hoisted_in_all es) (hoisted-moved e) (all-hoisted es)

  all-ordered : (es : List Expr) (k : Key) → all_in_order (map mi es) k ≡ all_in_order es k
  all-ordered [] k = refl
  all-ordered (e ∷ es) k = two-same (λ y z. y && z) (in_order (mi e) k) (all_in_order (map mi es) k) (in_order e k) (all_in_order es k) (order-in-moved e k) (all-ordered es k)

  -- targets and statements inside the iterator
  target-moved : (its : List ℕ) → is_in its n ≡ true → (o : Target) (k : Key) → target_faults its (mt o) k ≡ target_faults its o k
  target-moved its here (T.Scalar y p) k = by (nat_eq y x)
    where
      by : (c : Bool) → target_faults its (cond c (T.Property n q p) (T.Scalar y p)) k ≡ []
      by true = ap (λ b. fault_if (not b) k p) here
      by false = refl
  target-moved its here (T.Property y r p) k = refl

  targets-moved : (its : List ℕ) → is_in its n ≡ true → (os : List Target) (k : Key) → targets_faults its (map mt os) k ≡ targets_faults its os k
  targets-moved its here [] k = refl
  targets-moved its here (o ∷ os) k = two-same (λ y z. y ++ z) (target_faults its (mt o) k) (targets_faults its (map mt os) k) (target_faults its o k) (targets_faults its os k) (target-moved its here o k) (targets-moved its here os k)

  inside : (y : ℕ) (its : List ℕ) → is_in its n ≡ true → is_in (y ∷ its) n ≡ true
  inside y its here = ap (λ b. nat_eq n y || b) here ∙ or-end (nat_eq n y)

  declared-faults : (its : List ℕ) → is_in its n ≡ true → (k : Key) (y : ℕ) (e : Option Expr) → faults_of its (moved_declared x q n at (zero_of t) k y e) ≡ faults_of its (Declare k y e)
  declared-faults its here k y None = by (nat_eq y x)
    where
      by : (c : Bool) → faults_of its (cond c (Assign k (T.Property n q at) (Const (zero_of t))) (Declare k y None)) ≡ []
      by true = ap (λ b. fault_if (not b) k at ++ []) here
      by false = refl
  declared-faults its here k y (Some e) = by (nat_eq y x)
    where
      by : (c : Bool) → faults_of its (cond c (Assign k (T.Property n q at) (mi e)) (Declare k y (Some (mi e)))) ≡ faults_in e k
      by true = ap (λ b. fault_if (not b) k at ++ faults_in (mi e) k) here ∙ faults-in-moved e k
      by false = faults-in-moved e k

  pub faults-moved : (its : List ℕ) → is_in its n ≡ true → (s : Stmt) → faults_of its (mv s) ≡ faults_of its s
  faults-moved its here (Then a b) = two-same (λ y z. y ++ z) (faults_of its (mv a)) (faults_of its (mv b)) (faults_of its a) (faults_of its b) (faults-moved its here a) (faults-moved its here b)
  faults-moved its here (Declare k y e) = declared-faults its here k y e
  faults-moved its here (Assign k o e) = two-same (λ y z. y ++ z) (target_faults its (mt o) k) (faults_in (mi e) k) (target_faults its o k) (faults_in e k) (target-moved its here o k) (faults-in-moved e k)
  faults-moved its here (Defer k o e) = ap (λ l. target_faults its o k ++ l) (faults-in-moved e k)
  faults-moved its here (Combine k total r os es) =
      let own : List Fault = record { key = k; place = total.place } ∷ total_fault total ∷ [] in
      two-same (λ y z. y ++ z) (targets_faults its (map mt os) k) (faults_in_all (map mi es) k ++ own) (targets_faults its os k) (faults_in_all es k ++ own) (targets-moved its here os k) (ap (λ l. l ++ own) (all-faults es k))
  faults-moved its here (If k c a b) =
      two-same (λ y z. y ++ z) (faults_in (mi c) k) (faults_of its (mv a) ++ faults_of its (mv b)) (faults_in c k) (faults_of its a ++ faults_of its b) (faults-in-moved c k)
      (two-same (λ y z. y ++ z) (faults_of its (mv a)) (faults_of its (mv b)) (faults_of its a) (faults_of its b) (faults-moved its here a) (faults-moved its here b))
  faults-moved its here (Foreach k p hd test body) =
      let js = hd.iterator ∷ its in
      ap (λ l. fault_of k hd.place ∷ l)
      (two-same (λ y z. y ++ z) (faults_in (mi test) k) (faults_of js (mv body)) (faults_in test k) (faults_of js body) (faults-in-moved test k) (faults-moved js (inside hd.iterator its here) body))
  faults-moved its here s = refl

  declared-order : (its : List ℕ) → is_in its n ≡ true → (k : Key) (y : ℕ) (e : Option Expr) → body_in_order its (moved_declared x q n at (zero_of t) k y e) ≡ body_in_order its (Declare k y e)
  declared-order its here k y None = by (nat_eq y x)
    where
      by : (c : Bool) → body_in_order its (cond c (Assign k (T.Property n q at) (Const (zero_of t))) (Declare k y None)) ≡ true
      by true = ap (λ b. lie_before [] (fault_if (not b) k at)) here
      by false = refl
  declared-order its here k y (Some e) = by (nat_eq y x)
    where
      by : (c : Bool) → body_in_order its (cond c (Assign k (T.Property n q at) (mi e)) (Declare k y (Some (mi e)))) ≡ in_order e k
      by true = ap (λ b. in_order (mi e) k && lie_before (hoisted_in (mi e)) (fault_if (not b) k at)) here ∙ and-end (in_order (mi e) k) ∙ order-in-moved e k
      by false = order-in-moved e k

  targeted : (its : List ℕ) → is_in its n ≡ true → (k : Key) (o : Target) (e : Expr) → in_order (mi e) k && lie_before (hoisted_in (mi e)) (target_faults its (mt o) k) ≡ in_order e k && lie_before (hoisted_in e) (target_faults its o k)
  targeted its here k o e =
      two-same (λ y z. y && z) (in_order (mi e) k) (lie_before (hoisted_in (mi e)) (target_faults its (mt o) k)) (in_order e k) (lie_before (hoisted_in e) (target_faults its o k)) (order-in-moved e k)
      (lies-same (hoisted_in (mi e)) (target_faults its (mt o) k) (hoisted_in e) (target_faults its o k) (hoisted-moved e) (target-moved its here o k))

  loop-same : (js : List ℕ) → is_in js n ≡ true → (k : Key) (test : Expr) (body : Stmt) → body_in_order js (mv body) ≡ body_in_order js body → loop_in_order js k (mi test) (mv body) ≡ loop_in_order js k test body
  loop-same js within k test body ordered =
      two-same (λ y z. y && z) (in_order (mi test) k) (body_in_order js (mv body) && lie_before (faults_in (mi test) k) (faults_of js (mv body))) (in_order test k) (body_in_order js body && lie_before (faults_in test k) (faults_of js body)) (order-in-moved test k)
      (two-same (λ y z. y && z) (body_in_order js (mv body)) (lie_before (faults_in (mi test) k) (faults_of js (mv body))) (body_in_order js body) (lie_before (faults_in test k) (faults_of js body)) ordered
      (lies-same (faults_in (mi test) k) (faults_of js (mv body)) (faults_in test k) (faults_of js body) (faults-in-moved test k) (faults-moved js within body)))

  pub order-moved : (its : List ℕ) → is_in its n ≡ true → (s : Stmt) → body_in_order its (mv s) ≡ body_in_order its s
  order-moved its here (Then a b) =
      two-same (λ y z. y && z) (body_in_order its (mv a)) (body_in_order its (mv b) && lie_before (faults_of its (mv a)) (faults_of its (mv b))) (body_in_order its a) (body_in_order its b && lie_before (faults_of its a) (faults_of its b)) (order-moved its here a)
      (two-same (λ y z. y && z) (body_in_order its (mv b)) (lie_before (faults_of its (mv a)) (faults_of its (mv b))) (body_in_order its b) (lie_before (faults_of its a) (faults_of its b)) (order-moved its here b)
      (lies-same (faults_of its (mv a)) (faults_of its (mv b)) (faults_of its a) (faults_of its b) (faults-moved its here a) (faults-moved its here b)))
  order-moved its here (Declare k y e) = declared-order its here k y e
  order-moved its here (Assign k o e) = targeted its here k o e
  order-moved its here (Defer k o e) =
      two-same (λ y z. y && z) (in_order (mi e) k) (lie_before (hoisted_in (mi e)) (target_faults its o k)) (in_order e k) (lie_before (hoisted_in e) (target_faults its o k)) (order-in-moved e k) (ap (λ l. lie_before l (target_faults its o k)) (hoisted-moved e))
  order-moved its here (Combine k total r os es) =
      let own : List Fault = record { key = k; place = total.place } ∷ total_fault total ∷ [] in
      two-same (λ y z. y && z) (all_in_order (map mi es) k) (lie_before (hoisted_in_all (map mi es)) (targets_faults its (map mt os) k ++ own)) (all_in_order es k) (lie_before (hoisted_in_all es) (targets_faults its os k ++ own)) (all-ordered es k)
      (lies-same (hoisted_in_all (map mi es)) (targets_faults its (map mt os) k ++ own) (hoisted_in_all es) (targets_faults its os k ++ own) (all-hoisted es) (ap (λ l. l ++ own) (targets-moved its here os k)))
  order-moved its here (If k c a b) =
      let a' = mv a in
      let b' = mv b in
      let c' = mi c in
      ap (λ y. y && (body_in_order its a' && (body_in_order its b' && (lie_before (faults_in c' k) (faults_of its a' ++ faults_of its b') && lie_before (faults_of its a') (faults_of its b'))))) (order-in-moved c k)
      ∙ ap (λ y. in_order c k && (y && (body_in_order its b' && (lie_before (faults_in c' k) (faults_of its a' ++ faults_of its b') && lie_before (faults_of its a') (faults_of its b'))))) (order-moved its here a)
      ∙ ap (λ y. in_order c k && (body_in_order its a && (y && (lie_before (faults_in c' k) (faults_of its a' ++ faults_of its b') && lie_before (faults_of its a') (faults_of its b'))))) (order-moved its here b)
      ∙ ap (λ l. in_order c k && (body_in_order its a && (body_in_order its b && (lie_before l (faults_of its a' ++ faults_of its b') && lie_before (faults_of its a') (faults_of its b'))))) (faults-in-moved c k)
      ∙ ap (λ l. in_order c k && (body_in_order its a && (body_in_order its b && (lie_before (faults_in c k) (l ++ faults_of its b') && lie_before l (faults_of its b'))))) (faults-moved its here a)
      ∙ ap (λ l. in_order c k && (body_in_order its a && (body_in_order its b && (lie_before (faults_in c k) (faults_of its a ++ l) && lie_before (faults_of its a) l)))) (faults-moved its here b)
  order-moved its here (Foreach k p hd test body) =
      let js = hd.iterator ∷ its in
      let within = inside hd.iterator its here in
      two-same (λ y z. y && z) (leads js k hd.place (mv body)) (loop_in_order js k (mi test) (mv body)) (leads js k hd.place body) (loop_in_order js k test body)
      (ap (lie_before (fault_of k hd.place ∷ [])) (faults-moved js within body))
      (loop-same js within k test body (order-moved js within body))
  order-moved its here s = refl

  -- a loop over nodes stands as it did
  pub loop-moved : (its : List ℕ) → is_in its n ≡ true → (k : Key) (place : Place) (test : Expr) (body : Stmt) →
      begins its k place (mi test) (mv body) && loop_in_order its k (mi test) (mv body) ≡ begins its k place test body && loop_in_order its k test body
  loop-moved its here k place test body =
      ap (λ e. starts (hoisted_in (mi test)) (faults_of its (mv body)) (cannot_fail (mi test)) && e) (loop-same its here k test body (order-moved its here body))
      ∙ ap (λ l. starts l (faults_of its (mv body)) (cannot_fail (mi test)) && loop_in_order its k test body) (hoisted-moved test)
      ∙ ap (λ l. starts (hoisted_in test) l (cannot_fail (mi test)) && loop_in_order its k test body) (faults-moved its here body)
      ∙ ap (λ b. starts (hoisted_in test) (faults_of its body) b && loop_in_order its k test body) (safe-moved test)
    where
      starts : List Fault → List Fault → Bool → Bool
      starts hs fs safe = lie_before (fault_of k place ∷ []) fs && (are_numbered (hs ++ fs) && (nat_lt 0 k.statement || safe))
