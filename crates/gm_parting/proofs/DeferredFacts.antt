-- What is known of a program stays where its deferred writes go to copies.
use Rattle.std.proofs.Common.{◌≡◌, ◌<◌, ◌≤◌, arith, ℕ, Bool, true, false, cond, List, [], ◌∷◌, ◌++◌, length, refl, ap, ◌∙◌, Option}
use Rattle.std.specs.Prelude.{◌&&◌, ◌||◌, not, nat_eq, nat_lt}
use Rattle.std.specs.List.{list_all}
use Rattle.std.proofs.lemmas.Bool.{both_ways}
use Rattle.gm_base.specs.declared.places.Place.{Place}
use Rattle.gm_value.specs.declared.values.VType.{VType}
use Rattle.gm_value.specs.declared.values.VType.TheVariants as V
use Rattle.gm_ast.specs.declared.tree.Declaration.{Declaration}
use Rattle.gm_ast.specs.declared.tree.Head.{Head}
use Rattle.gm_ast.specs.declared.tree.Key.{Key}
use Rattle.gm_ast.specs.declared.tree.Target.TheVariants as T
use Rattle.gm_ast.specs.Program.{Expr, Stmt, Then, Assign, Defer, Foreach, If, Program, sequence}
use Rattle.gm_ast.specs.Ways.{is_in}
use Rattle.gm_semantics.specs.Statements.{variable_at}
use Rattle.gm_forms.specs.Cut.{is_no_local, is_own_body, is_own_code, is_own_loop, adds_last}
use Rattle.gm_forms.specs.Forms.{depth_at}
use Rattle.gm_forms.specs.Ready.{Ready2}
use Rattle.gm_forms.specs.Sharing.{told_in}
use Rattle.gm_forms.proofs.Named.{both-true, names-below}
use Rattle.gm_forms.proofs.Weaker.{and-true}
use Rattle.gm_loop_laws.specs.Deferring.{undeferred}
use Rattle.gm_dissect.specs.AllDeferred.{deferred_in, some_defers, without_each, without_deferred}
use Rattle.gm_dissect.specs.Deferred.{copied, copy_of, defers, undeferred_loop, without_deferred_to}
use Rattle.gm_dissect.specs.Locals.{declares}
use Rattle.gm_dissect.specs.Loops.{each_loop}
use Rattle.gm_dissect.proofs.DeferredKept.{length-one, ready-without_deferred}
use Rattle.gm_dissect.proofs.DeferredLaws.{variable-longer}
use Rattle.gm_dissect.proofs.Kept.{Sound}
use Rattle.gm_dissect.proofs.Longer.{depth-same}
use Rattle.gm_cut.specs.Parts.{each_passes}
use Rattle.gm_cut.proofs.Grouped.{two-same}
use Rattle.gm_parting.specs.InnerLoops.{inner_iterators_deep, has_iterators_in_place}
use Rattle.gm_parting.specs.Locals.{names_pass, declares_its_locals, checks_none, checks_nothing, has_declared_locals, has_no_checks}
use Rattle.gm_parting.specs.Tuples.{reduces_evenly, has_even_tuples}
use Rattle.gm_parting.proofs.Loops.{Test, sound-of, each-kept}
use Rattle.gm_parting.proofs.MovedNames.{evenly-longer, deep-longer}
use Rattle.gm_parting.proofs.MovedPrograms.{names-more}

-- p: the property; q: its copy
module _ (p q : ℕ) where
  abbrev ud : Stmt → Stmt
  ud s = undeferred p q s

  -- what is the same of a write at once and a deferred one
  module _ {A : Type 0} (f : Stmt → A) (then : (a b a' b' : Stmt) → f a ≡ f a' → f b ≡ f b' → f (Then a b) ≡ f (Then a' b')) (ifs : (k : Key) (c : Expr) (a b a' b' : Stmt) → f a ≡ f a' → f b ≡ f b' → f (If k c a b) ≡ f (If k c a' b'))
      (writes : (k : Key) (x r s : ℕ) (at : Place) (e : Expr) → f (Assign k (T.Property x r at) e) ≡ f (Defer k (T.Property x s at) e)) where
    pub undeferred-same : (s : Stmt) → f (ud s) ≡ f s
    undeferred-same (Then a b) = then (ud a) (ud b) a b (undeferred-same a) (undeferred-same b)
    undeferred-same (If k c a b) = ifs k c (ud a) (ud b) a b (undeferred-same a) (undeferred-same b)
    undeferred-same (Defer k (T.Scalar x at) e) = refl
    undeferred-same (Defer k (T.Property x r at) e) = by (nat_eq r p)
      where
        by : (b : Bool) → f (cond b (Assign k (T.Property x q at) e) (Defer k (T.Property x r at) e)) ≡ f (Defer k (T.Property x r at) e)
        by true = writes k x q r at e
        by false = refl
    undeferred-same s = refl

  even-same : (ds : List Declaration) (s : Stmt) → reduces_evenly ds (ud s) ≡ reduces_evenly ds s
  even-same ds =
      undeferred-same (reduces_evenly ds) (λ a b a' b' x y. two-same (λ u v. u && v) (reduces_evenly ds a) (reduces_evenly ds a') (reduces_evenly ds b) (reduces_evenly ds b') x y)
      (λ k c a b a' b' x y. two-same (λ u v. u && v) (reduces_evenly ds a) (reduces_evenly ds a') (reduces_evenly ds b) (reduces_evenly ds b') x y) (λ k x r s at e. refl)

  deep-same : (ds : List Declaration) (s : Stmt) → inner_iterators_deep ds (ud s) ≡ inner_iterators_deep ds s
  deep-same ds =
      undeferred-same (inner_iterators_deep ds) (λ a b a' b' x y. two-same (λ u v. u && v) (inner_iterators_deep ds a) (inner_iterators_deep ds a') (inner_iterators_deep ds b) (inner_iterators_deep ds b') x y)
      (λ k c a b a' b' x y. two-same (λ u v. u && v) (inner_iterators_deep ds a) (inner_iterators_deep ds a') (inner_iterators_deep ds b) (inner_iterators_deep ds b') x y) (λ k x r s at e. refl)

  declares-same : (z : ℕ) (s : Stmt) → declares z (ud s) ≡ declares z s
  declares-same z =
      undeferred-same (declares z) (λ a b a' b' x y. two-same (λ u v. u || v) (declares z a) (declares z a') (declares z b) (declares z b') x y)
      (λ k c a b a' b' x y. two-same (λ u v. u || v) (declares z a) (declares z a') (declares z b) (declares z b') x y) (λ k x r s at e. refl)

  checks-same : (s : Stmt) → checks_nothing (ud s) ≡ checks_nothing s
  checks-same =
      undeferred-same checks_nothing (λ a b a' b' x y. two-same (λ u v. u && v) (checks_nothing a) (checks_nothing a') (checks_nothing b) (checks_nothing b') x y)
      (λ k c a b a' b' x y. ap (λ w. checks_none c && w) (two-same (λ u v. u && v) (checks_nothing a) (checks_nothing a') (checks_nothing b) (checks_nothing b') x y)) (λ k x r s at e. refl)

  names-same : (may : List ℕ → ℕ → Bool) (its : List ℕ) (s : Stmt) → names_pass may its (ud s) ≡ names_pass may its s
  names-same may its =
      undeferred-same (names_pass may its) (λ a b a' b' x y. two-same (λ u v. u && v) (names_pass may its a) (names_pass may its a') (names_pass may its b) (names_pass may its b') x y)
      (λ k c a b a' b' x y. ap (λ w. list_all (may its) (told_in c) && w) (two-same (λ u v. u && v) (names_pass may its a) (names_pass may its a') (names_pass may its b) (names_pass may its b') x y)) (λ k x r s at e. refl)

  -- own statements defer nothing
  own-body-stays : (n : ℕ) (s : Stmt) → is_own_body n s ≡ true → ud s ≡ s
  own-body-stays n (Then a b) h =
      let r = both-true (is_own_body n a) (is_own_body n b) h in ap (λ x. Then x (ud b)) (own-body-stays n a r.0) ∙ ap (Then a) (own-body-stays n b r.1)
  own-body-stays n (If k c a b) h =
      let r = both-true (is_own_body n a) (is_own_body n b) h in ap (λ x. If k c x (ud b)) (own-body-stays n a r.0) ∙ ap (If k c a) (own-body-stays n b r.1)
  own-body-stays n (Defer k t e) h = absurd (both_ways false refl h)
  own-body-stays n s h = refl

  own-stays : (n : ℕ) (s : Stmt) → is_own_code n s ≡ true → ud s ≡ s
  own-stays n (Then a b) h =
      let r = both-true (is_own_code n a) (is_own_code n b) h in ap (λ x. Then x (ud b)) (own-stays n a r.0) ∙ ap (Then a) (own-stays n b r.1)
  own-stays n (If k c a b) h = own-body-stays n (If k c a b) h
  own-stays n (Defer k t e) h = absurd (both_ways false refl h)
  own-stays n s h = refl

-- a fact of loops that are not of own statements, by iterator, filter and body
abbrev Fact : Type 0
Fact = ℕ → Expr → Stmt → Bool

abbrev of : Fact → Test
of F k at h test body = is_own_loop h.iterator body || F h.iterator test body

module _ (ds : List Declaration) (res : Option VType) (x : ℕ) where
  abbrev dt : List Declaration
  dt = ds ++ (copy_of ds x ∷ [])

  abbrev q' : ℕ
  q' = length ds

  more : length ds ≤ length dt
  more = let e = length-one ds (copy_of ds x) in omega (arith, e)

  same : (y : ℕ) → y < length ds → variable_at dt y ≡ variable_at ds y
  same y h = variable-longer ds (copy_of ds x ∷ []) y h

  stays : (F G : Fact) →
      ((k : Key) (at : Place) (h : Head) (test : Expr) (body : Stmt) → Sound ds res (Foreach k at h test body) → F h.iterator test body ≡ true → (G h.iterator test body ≡ true) × (G h.iterator test (undeferred x q' body) ≡ true)) →
      (s : Stmt) → Sound ds res s → each_passes (of F) s ≡ true → each_passes (of G) (each_loop (undeferred_loop x q') s) ≡ true
  stays F G loops = each-kept ds res (of F) (of G) (undeferred_loop x q') each-loop
    where
      each-loop : (k : Key) (at : Place) (h : Head) (test : Expr) (body : Stmt) → Sound ds res (Foreach k at h test body) → of F k at h test body ≡ true → each_passes (of G) (undeferred_loop x q' k at h test body) ≡ true
      each-loop k at h test body sound e = by (defers x body)
        where
          moved : (o : Bool) → is_own_loop h.iterator body ≡ o → o || F h.iterator test body ≡ true → is_own_loop h.iterator (undeferred x q' body) || G h.iterator test (undeferred x q' body) ≡ true
          moved true o e =
              ap (λ s. is_own_loop h.iterator s || G h.iterator test (undeferred x q' body)) (own-stays x q' h.iterator body (both-true (is_own_code h.iterator body) (adds_last (h.iterator ∷ []) body) o).0)
              ∙ ap (λ b. b || G h.iterator test (undeferred x q' body)) o
          moved false o e = second (is_own_loop h.iterator (undeferred x q' body)) (G h.iterator test (undeferred x q' body)) (loops k at h test body sound e).1
            where
              second : (a b : Bool) → b ≡ true → a || b ≡ true
              second true b h = refl
              second false b h = h

          kept : (o : Bool) → o || F h.iterator test body ≡ true → o || G h.iterator test body ≡ true
          kept true e = refl
          kept false e = (loops k at h test body sound e).0

          by : (b : Bool) → each_passes (of G) (cond b (sequence (copied q' x at h ∷ Foreach k at h test (undeferred x q' body) ∷ copied x q' at h ∷ [])) (Foreach k at h test body)) ≡ true
          by true = and-true (of G k at h test (undeferred x q' body)) true (moved (is_own_loop h.iterator body) refl e) refl
          by false = kept (is_own_loop h.iterator body) e

  -- ---- each fact

  declared-stays : (k : Key) (at : Place) (h : Head) (test : Expr) (body : Stmt) → Sound ds res (Foreach k at h test body) → declares_its_locals ds h.iterator body ≡ true →
      (declares_its_locals dt h.iterator body ≡ true) × (declares_its_locals dt h.iterator (undeferred x q' body) ≡ true)
  declared-stays k at h test body sound f =
      (under body (λ z. refl), names-same x q' (λ its z. is_no_local dt its z || declares z (undeferred x q' body)) (h.iterator ∷ []) body ∙ under (undeferred x q' body) (λ z. declares-same x q' z body))
    where
      under : (new : Stmt) → ((z : ℕ) → declares z new ≡ declares z body) → names_pass (λ its z. is_no_local dt its z || declares z new) (h.iterator ∷ []) body ≡ true
      under new d =
          names-more q' (λ its z. is_no_local ds its z || declares z body) (λ its z. is_no_local dt its z || declares z new) on (h.iterator ∷ []) body (names-below ds (Foreach k at h test body) sound.named).3 f
        where
          on : (its : List ℕ) (z : ℕ) → z < q' → is_no_local ds its z || declares z body ≡ true → is_no_local dt its z || declares z new ≡ true
          on its z low e =
              two-same (λ a b. a || b) (is_no_local dt its z) (is_no_local ds its z) (declares z new) (declares z body) (ap (λ d. is_in its z || not (nat_eq d 1)) (depth-same ds dt same more z low)) (d z) ∙ e

  even-stays : (k : Key) (at : Place) (h : Head) (test : Expr) (body : Stmt) → Sound ds res (Foreach k at h test body) → reduces_evenly ds body ≡ true → (reduces_evenly dt body ≡ true) × (reduces_evenly dt (undeferred x q' body) ≡ true)
  even-stays k at h test body sound f =
      let e = evenly-longer 0 q' 0 at V.Flag ds dt same more refl body (names-below ds (Foreach k at h test body) sound.named).3 f in (e, even-same x q' dt body ∙ e)

  place-stays : (k : Key) (at : Place) (h : Head) (test : Expr) (body : Stmt) → Sound ds res (Foreach k at h test body) → nat_lt (depth_at ds h.iterator) 2 && inner_iterators_deep ds body ≡ true →
      (nat_lt (depth_at dt h.iterator) 2 && inner_iterators_deep dt body ≡ true) × (nat_lt (depth_at dt h.iterator) 2 && inner_iterators_deep dt (undeferred x q' body) ≡ true)
  place-stays k at h test body sound f =
      let below = names-below ds (Foreach k at h test body) sound.named in
      let r = both-true (nat_lt (depth_at ds h.iterator) 2) (inner_iterators_deep ds body) f in
      let d : nat_lt (depth_at dt h.iterator) 2 ≡ true = ap (λ d. nat_lt d 2) (depth-same ds dt same more h.iterator below.0) ∙ r.0 in
      let e = deep-longer 0 q' 0 at V.Flag ds dt same more refl body below.3 r.1 in
      (and-true (nat_lt (depth_at dt h.iterator) 2) (inner_iterators_deep dt body) d e, and-true (nat_lt (depth_at dt h.iterator) 2) (inner_iterators_deep dt (undeferred x q' body)) d (deep-same x q' dt body ∙ e))

-- ---- programs

-- in each loop that is not of own statements each local that is named is declared, no node variable is checked, tuples are even, and iterators are declared where they stand
pub record IsTidy (p : Program) : Type 0 where
  pub declared : has_declared_locals p ≡ true
  pub checks : has_no_checks p ≡ true
  pub tuples : has_even_tuples p ≡ true
  pub iterators : has_iterators_in_place p ≡ true

record Known (p : Program) : Type 0 where
  ready : Ready2 p
  facts : IsTidy p

one-known : (x : ℕ) (p : Program) → Known p → Known (without_deferred_to x p)
one-known x p w =
    let ds = p.declarations in
    let dt = ds ++ (copy_of ds x ∷ []) in
    let q = length ds in
    let s = sound-of p w.ready in
    record {
      ready = ready-without_deferred x p w.ready;
      facts = record {
        declared = stays ds p.result x (λ n test body. declares_its_locals ds n body) (λ n test body. declares_its_locals dt n body) (declared-stays ds p.result x) p.body s w.facts.declared;
        checks = stays ds p.result x (λ n test body. checks_nothing body) (λ n test body. checks_nothing body) (λ k at h test body s e. (e, checks-same x q body ∙ e)) p.body s w.facts.checks;
        tuples = stays ds p.result x (λ n test body. reduces_evenly ds body) (λ n test body. reduces_evenly dt body) (even-stays ds p.result x) p.body s w.facts.tuples;
        iterators = stays ds p.result x (λ n test body. nat_lt (depth_at ds n) 2 && inner_iterators_deep ds body) (λ n test body. nat_lt (depth_at dt n) 2 && inner_iterators_deep dt body) (place-stays ds p.result x) p.body s w.facts.iterators;
      };
    }

each-known : (xs : List ℕ) (p : Program) → Known p → Known (without_each xs p)
each-known [] p w = w
each-known (x ∷ xs) p w = each-known xs (cond (some_defers x p.body) (without_deferred_to x p) p) (by (some_defers x p.body))
  where
    by : (b : Bool) → Known (cond b (without_deferred_to x p) p)
    by true = one-known x p w
    by false = w

pub facts-stay : (p : Program) → Ready2 p → IsTidy p → IsTidy (without_deferred p)
facts-stay p r f = (each-known (deferred_in p.body) p (record { ready = r; facts = f })).facts
