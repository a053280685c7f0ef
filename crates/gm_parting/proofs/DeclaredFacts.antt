-- A program whose loops declare all locals that they name: what is known of it.
use Rattle.std.proofs.Common.{◌≡◌, ℕ, Bool, true, false, cond, List, [], ◌∷◌, ◌++◌, filter, flat_map, refl, ap, Option, sym, ⊎_elim, inl, inr}
use Rattle.std.specs.Prelude.{◌&&◌, ◌||◌, not, nat_eq, nat_lt}
use Rattle.std.specs.List.{list_all}
use Rattle.std.proofs.lemmas.Bool.{eq-eqb}
use Rattle.gm_base.specs.declared.places.Place.{Place}
use Rattle.gm_value.specs.Bag.{IsIn}
use Rattle.gm_value.specs.declared.values.VType.{VType}
use Rattle.gm_ast.specs.declared.tree.Declaration.{Declaration}
use Rattle.gm_ast.specs.declared.tree.Head.{Head}
use Rattle.gm_ast.specs.declared.tree.Key.{Key}
use Rattle.gm_ast.specs.declared.tree.Sort.TheVariants as Sorts
use Rattle.gm_ast.specs.declared.tree.Target.{Target}
use Rattle.gm_ast.specs.declared.tree.Target.TheVariants as T
use Rattle.gm_ast.specs.Names.{sort_eq}
use Rattle.gm_ast.specs.Program.{Expr, Stmt, Then, Declare, Assign, Defer, Combine, Foreach, If, Program}
use Rattle.gm_ast.specs.Ways.{is_in}
use Rattle.gm_semantics.specs.Statements.{variable_at}
use Rattle.gm_forms.specs.Cut.{is_own_loop, is_no_local}
use Rattle.gm_forms.specs.Forms.{depth_at}
use Rattle.gm_forms.specs.Ready.{Ready2}
use Rattle.gm_forms.specs.Sharing.{told_in, sights_in_option, sights_in_all}
use Rattle.gm_forms.proofs.Doings.{in-left, in-right}
use Rattle.gm_forms.proofs.Named.{both-true}
use Rattle.gm_forms.proofs.Weaker.{and-true}
use Rattle.gm_dissect.specs.Locals.{declares}
use Rattle.gm_dissect.specs.Loops.{each_loop}
use Rattle.gm_dissect.proofs.Kept.{Sound}
use Rattle.gm_cut.specs.Parts.{each_passes}
use Rattle.gm_cut.specs.Slices.{told_at}
use Rattle.gm_parting.specs.Declared.{names_of, is_undeclared, declared_first, declared_loop, with_locals_declared, names_no_strangers, has_no_strangers}
use Rattle.gm_parting.specs.InnerLoops.{inner_iterators_deep, has_iterators_in_place}
use Rattle.gm_parting.specs.Locals.{target_passes, names_pass, declares_its_locals, has_declared_locals, checks_nothing, has_no_checks}
use Rattle.gm_parting.specs.Nodes.{is_body_local}
use Rattle.gm_parting.specs.Tuples.{reduces_evenly, has_even_tuples}
use Rattle.gm_parting.proofs.DeclaredLaws.{in-filtered}
use Rattle.gm_parting.proofs.Loops.{Test, sound-of, each-kept}

-- names of which more may be named, where they are among those of a body
module _ (G H : List ℕ → ℕ → Bool) where
  abbrev Better : List ℕ → Type 0
  Better xs = (its : List ℕ) (z : ℕ) → IsIn z xs → G its z ≡ true → H its z ≡ true

  on-left : (xs ys : List ℕ) → Better (xs ++ ys) → Better xs
  on-left xs ys b its z i h = b its z (in-left z xs ys i) h

  on-right : (xs ys : List ℕ) → Better (xs ++ ys) → Better ys
  on-right xs ys b its z i h = b its z (in-right z xs ys i) h

  all-better : (its xs : List ℕ) → Better xs → list_all (G its) xs ≡ true → list_all (H its) xs ≡ true
  all-better its [] b h = refl
  all-better its (x ∷ xs) b h = let r = both-true (G its x) (list_all (G its) xs) h in and-true (H its x) (list_all (H its) xs) (b its x (inl refl) r.0) (all-better its xs (λ js z i. b js z (inr i)) r.1)

  target-better : (its : List ℕ) (t : Target) → Better (told_at t) → target_passes G its t ≡ true → target_passes H its t ≡ true
  target-better its (T.Scalar x at) b h = b its x (inl refl) h
  target-better its (T.Property x p at) b h = b its x (inl refl) h

  targets-better : (its : List ℕ) (ts : List Target) → Better (flat_map told_at ts) → list_all (target_passes G its) ts ≡ true → list_all (target_passes H its) ts ≡ true
  targets-better its [] b h = refl
  targets-better its (t ∷ ts) b h =
      let r = both-true (target_passes G its t) (list_all (target_passes G its) ts) h in
      and-true (target_passes H its t) (list_all (target_passes H its) ts) (target-better its t (on-left (told_at t) (flat_map told_at ts) b) r.0) (targets-better its ts (on-right (told_at t) (flat_map told_at ts) b) r.1)

  pub names-better : (its : List ℕ) (s : Stmt) → Better (names_of s) → names_pass G its s ≡ true → names_pass H its s ≡ true
  names-better its (Then a c) b h =
      let r = both-true (names_pass G its a) (names_pass G its c) h in
      and-true (names_pass H its a) (names_pass H its c) (names-better its a (on-left (names_of a) (names_of c) b) r.0) (names-better its c (on-right (names_of a) (names_of c) b) r.1)
  names-better its (Declare k x e) b h =
      let r = both-true (G its x) (list_all (G its) (sights_in_option e).scalars) h in
      and-true (H its x) (list_all (H its) (sights_in_option e).scalars) (b its x (inl refl) r.0) (all-better its (sights_in_option e).scalars (λ js z i. b js z (inr i)) r.1)
  names-better its (Assign k t e) b h =
      let r = both-true (target_passes G its t) (list_all (G its) (told_in e)) h in
      and-true (target_passes H its t) (list_all (H its) (told_in e)) (target-better its t (on-left (told_at t) (told_in e) b) r.0) (all-better its (told_in e) (on-right (told_at t) (told_in e) b) r.1)
  names-better its (Defer k t e) b h =
      let r = both-true (target_passes G its t) (list_all (G its) (told_in e)) h in
      and-true (target_passes H its t) (list_all (H its) (told_in e)) (target-better its t (on-left (told_at t) (told_in e) b) r.0) (all-better its (told_in e) (on-right (told_at t) (told_in e) b) r.1)
  names-better its (Combine k total o ts es) b h =
      let r = both-true (list_all (target_passes G its) ts) (list_all (G its) (sights_in_all es).scalars) h in
      and-true (list_all (target_passes H its) ts) (list_all (H its) (sights_in_all es).scalars) (targets-better its ts (on-left (flat_map told_at ts) (sights_in_all es).scalars b) r.0)
      (all-better its (sights_in_all es).scalars (on-right (flat_map told_at ts) (sights_in_all es).scalars b) r.1)
  names-better its (If k c a d) b h =
      let r = both-true (list_all (G its) (told_in c)) (names_pass G its a && names_pass G its d) h in
      let q = both-true (names_pass G its a) (names_pass G its d) r.1 in
      let rest = on-right (told_in c) (names_of a ++ names_of d) b in
      and-true (list_all (H its) (told_in c)) (names_pass H its a && names_pass H its d) (all-better its (told_in c) (on-left (told_in c) (names_of a ++ names_of d) b) r.0)
      (and-true (names_pass H its a) (names_pass H its d) (names-better its a (on-left (names_of a) (names_of d) rest) q.0) (names-better its d (on-right (names_of a) (names_of d) rest) q.1))
  names-better its (Foreach k at hd test body) b h =
      let js = its ++ (hd.iterator ∷ []) in
      let r = both-true (G its hd.owner) (list_all (G js) (told_in test) && names_pass G js body) h in
      let q = both-true (list_all (G js) (told_in test)) (names_pass G js body) r.1 in
      let rest : Better (told_in test ++ names_of body) = λ ks z i. b ks z (inr i) in
      and-true (H its hd.owner) (list_all (H js) (told_in test) && names_pass H js body) (b its hd.owner (inl refl) r.0)
      (and-true (list_all (H js) (told_in test)) (names_pass H js body) (all-better js (told_in test) (on-left (told_in test) (names_of body) rest) q.0) (names-better js body (on-right (told_in test) (names_of body) rest) q.1))
  names-better its s b h = refl

-- ---- bodies

module _ (k : Key) (at : Place) where
  abbrev df : List ℕ → Stmt → Stmt
  df xs s = declared_first k at xs s

  second : (a b : Bool) → b ≡ true → a || b ≡ true
  second true b h = refl
  second false b h = h

  declares-kept : (z : ℕ) (xs : List ℕ) (s : Stmt) → declares z s ≡ true → declares z (declared_first k at xs s) ≡ true
  declares-kept z [] s h = h
  declares-kept z (x ∷ xs) s h = second (nat_eq x z) (declares z (df xs s) || false) (ap (λ b. b || false) (declares-kept z xs s h))

  declares-listed : (z : ℕ) (xs : List ℕ) (s : Stmt) → IsIn z xs → declares z (declared_first k at xs s) ≡ true
  declares-listed z [] s i = absurd i
  declares-listed z (x ∷ xs) s i =
      ⊎_elim (λ (e : z ≡ x). ap (λ b. b || (declares z (df xs s) || false)) (eq-eqb x z (sym e))) (λ j. second (nat_eq x z) (declares z (df xs s) || false) (ap (λ b. b || false) (declares-listed z xs s j))) i

  names-first : (H : List ℕ → ℕ → Bool) (its xs : List ℕ) (s : Stmt) → ((z : ℕ) → IsIn z xs → H its z ≡ true) → names_pass H its s ≡ true → names_pass H its (declared_first k at xs s) ≡ true
  names-first H its [] s l h = h
  names-first H its (x ∷ xs) s l h =
      let one = l x (inl refl) in
      and-true (H its x && (H its x && true)) (names_pass H its (df xs s) && true) (and-true (H its x) (H its x && true) one (and-true (H its x) true one refl))
      (and-true (names_pass H its (df xs s)) true (names-first H its xs s (λ z i. l z (inr i)) h) refl)

  checks-first : (xs : List ℕ) (s : Stmt) → checks_nothing s ≡ true → checks_nothing (declared_first k at xs s) ≡ true
  checks-first [] s h = h
  checks-first (x ∷ xs) s h = and-true (checks_nothing (df xs s)) true (checks-first xs s h) refl

  even-first : (ds : List Declaration) (xs : List ℕ) (s : Stmt) → reduces_evenly ds s ≡ true → reduces_evenly ds (declared_first k at xs s) ≡ true
  even-first ds [] s h = h
  even-first ds (x ∷ xs) s h = and-true (reduces_evenly ds (df xs s)) true (even-first ds xs s h) refl

  deep-first : (ds : List Declaration) (xs : List ℕ) (s : Stmt) → inner_iterators_deep ds s ≡ true → inner_iterators_deep ds (declared_first k at xs s) ≡ true
  deep-first ds [] s h = h
  deep-first ds (x ∷ xs) s h = and-true (inner_iterators_deep ds (df xs s)) true (deep-first ds xs s h) refl

  -- a body without strangers declares what it names
  declared-all : (ds : List Declaration) (n : ℕ) (s : Stmt) → names_no_strangers ds n s ≡ true → declares_its_locals ds n (declared_first k at (filter (is_undeclared ds s) (names_of s)) s) ≡ true
  declared-all ds n s h =
      let xs = filter (is_undeclared ds s) (names_of s) in
      let whole = df xs s in
      names-first (λ its z. is_no_local ds its z || declares z whole) (n ∷ []) xs s (λ z i. second (is_no_local ds (n ∷ []) z) (declares z whole) (declares-listed z xs s i))
      (names-better (λ its z. is_no_local ds its z || sort_eq Sorts.Scalar (variable_at ds z).sort) (λ its z. is_no_local ds its z || declares z whole) (n ∷ []) s better h)
    where
      better : (its : List ℕ) (z : ℕ) → IsIn z (names_of s) → is_no_local ds its z || sort_eq Sorts.Scalar (variable_at ds z).sort ≡ true →
          is_no_local ds its z || declares z (declared_first k at (filter (is_undeclared ds s) (names_of s)) s) ≡ true
      better its z i h = by (is_in its z) (nat_eq (depth_at ds z) 1) refl (declares z s) refl h
        where
          whole : Stmt
          whole = declared_first k at (filter (is_undeclared ds s) (names_of s)) s

          by : (a b : Bool) → nat_eq (depth_at ds z) 1 ≡ b → (d : Bool) → declares z s ≡ d → (a || not b) || sort_eq Sorts.Scalar (variable_at ds z).sort ≡ true → (a || not b) || declares z whole ≡ true
          by true b e d f h = refl
          by false false e d f h = refl
          by false true e true f h = declares-kept z (filter (is_undeclared ds s) (names_of s)) s f
          by false true e false f h =
              declares-listed z (filter (is_undeclared ds s) (names_of s)) s
              (in-filtered (is_undeclared ds s) (names_of s) z i
              (and-true (is_body_local ds z) (not (declares z s)) (and-true (sort_eq Sorts.Scalar (variable_at ds z).sort) (nat_eq (depth_at ds z) 1) h e) (ap not f)))

-- ---- programs

abbrev Fact : Type 0
Fact = ℕ → Stmt → Bool

abbrev of : Fact → Test
of F k at h test body = is_own_loop h.iterator body || F h.iterator body

module _ (ds : List Declaration) (res : Option VType) where
  stays : (F G : Fact) → ((k : Key) (at : Place) (n : ℕ) (body : Stmt) → F n body ≡ true → G n (declared_first k at (filter (is_undeclared ds body) (names_of body)) body) ≡ true) → (s : Stmt) → Sound ds res s → each_passes (of F) s ≡ true → each_passes (of G) (each_loop (declared_loop ds) s) ≡ true
  stays F G loops = each-kept ds res (of F) (of G) (declared_loop ds) each
    where
      each : (k : Key) (at : Place) (h : Head) (test : Expr) (body : Stmt) → Sound ds res (Foreach k at h test body) → of F k at h test body ≡ true → each_passes (of G) (declared_loop ds k at h test body) ≡ true
      each k at h test body sound e = by (is_own_loop h.iterator body) refl e
        where
          inside : Stmt
          inside = declared_first k at (filter (is_undeclared ds body) (names_of body)) body

          by : (o : Bool) → is_own_loop h.iterator body ≡ o → o || F h.iterator body ≡ true → each_passes (of G) (cond o (Foreach k at h test body) (Foreach k at h test inside)) ≡ true
          by true q e = ap (λ b. b || G h.iterator body) q
          by false q e = behind (is_own_loop h.iterator inside) (G h.iterator inside) (loops k at h.iterator body e)
            where
              behind : (a b : Bool) → b ≡ true → a || b ≡ true
              behind true b h = refl
              behind false b h = h

-- facts of a program
pub all-declared : (p : Program) → Ready2 p → has_no_strangers p ≡ true → has_declared_locals (with_locals_declared p) ≡ true
all-declared p r f = stays p.declarations p.result (names_no_strangers p.declarations) (declares_its_locals p.declarations) (λ k at n body e. declared-all k at p.declarations n body e) p.body (sound-of p r) f

pub checks-declared : (p : Program) → Ready2 p → has_no_checks p ≡ true → has_no_checks (with_locals_declared p) ≡ true
checks-declared p r f =
    stays p.declarations p.result (λ n body. checks_nothing body) (λ n body. checks_nothing body) (λ k at n body e. checks-first k at (filter (is_undeclared p.declarations body) (names_of body)) body e) p.body (sound-of p r) f

pub tuples-declared : (p : Program) → Ready2 p → has_even_tuples p ≡ true → has_even_tuples (with_locals_declared p) ≡ true
tuples-declared p r f =
    let ds = p.declarations in
    stays ds p.result (λ n body. reduces_evenly ds body) (λ n body. reduces_evenly ds body) (λ k at n body e. even-first k at ds (filter (is_undeclared ds body) (names_of body)) body e) p.body (sound-of p r) f

pub iterators-declared : (p : Program) → Ready2 p → has_iterators_in_place p ≡ true → has_iterators_in_place (with_locals_declared p) ≡ true
iterators-declared p r f =
    let ds = p.declarations in
    stays ds p.result (λ n body. nat_lt (depth_at ds n) 2 && inner_iterators_deep ds body) (λ n body. nat_lt (depth_at ds n) 2 && inner_iterators_deep ds body)
    (λ k at n body e.
    let a = both-true (nat_lt (depth_at ds n) 2) (inner_iterators_deep ds body) e in
    let xs = filter (is_undeclared ds body) (names_of body) in
    and-true (nat_lt (depth_at ds n) 2) (inner_iterators_deep ds (declared_first k at xs body)) a.0 (deep-first k at ds xs body a.1)) p.body (sound-of p r) f
