-- A program whose loops that are cut name no local is prepared, where its filters last and its conditions may be repeated.
use Rattle.std.proofs.Common.{◌≡◌, arith, ℕ, Bool, true, false, List, [], ◌∷◌, ◌++◌, refl, ap, ◌∙◌, Option}
use Rattle.std.specs.Prelude.{◌&&◌, ◌||◌, not, nat_eq, nat_lt}
use Rattle.std.specs.List.{list_all}
use Rattle.std.proofs.lemmas.Bool.Decides.{nat_tests}
use Rattle.gm_base.specs.declared.places.Place.{Place}
use Rattle.gm_value.specs.declared.values.VType.{VType}
use Rattle.gm_ast.specs.declared.tree.Declaration.{Declaration}
use Rattle.gm_ast.specs.declared.tree.Head.{Head}
use Rattle.gm_ast.specs.declared.tree.Key.{Key}
use Rattle.gm_ast.specs.Loops.{is_nodes}
use Rattle.gm_ast.specs.Program.{Expr, Stmt, Then, Foreach, If, Program}
use Rattle.gm_forms.specs.Cut.{is_mask, is_no_local, is_own_loop, touched}
use Rattle.gm_forms.specs.Forms.{depth_at, is_flat, is_flat_loop, is_outer_body}
use Rattle.gm_forms.specs.Ready.{Ready2}
use Rattle.gm_forms.specs.Sharing.{told_in}
use Rattle.gm_forms.specs.Uses.{suits, uses_in, uses_of_head, uses_of}
use Rattle.gm_forms.proofs.Named.{both-true, all-append}
use Rattle.gm_forms.proofs.Weaker.{and-true}
use Rattle.gm_loop_laws.specs.Masks.{spares}
use Rattle.gm_dissect.specs.AllDeferred.{has_no_deferred}
use Rattle.gm_dissect.specs.Conditions.{holds_cut}
use Rattle.gm_dissect.proofs.Kept.{Sound}
use Rattle.gm_cut.specs.Runs.{joins_run, with_runs}
use Rattle.gm_cut.proofs.Grouped.{uses-same, form-same, alike-same}
use Rattle.gm_cut.proofs.Roles.{iterates-of}
use Rattle.gm_cut.proofs.Shared.{shares-alike}
use Rattle.gm_parting.specs.InnerLoops.{inner_loops_apart, has_iterators_in_place}
use Rattle.gm_parting.specs.Lasting.{is_outside, is_shallow, is_lasting, conditions_last, may_be_repeated, conditions_repeat, has_lasting_filters, has_repeatable_conditions}
use Rattle.gm_parting.specs.Locals.{names_pass, names_no_local, has_no_locals}
use Rattle.gm_parting.specs.Prepared.{IsPrepared}
use Rattle.gm_parting.specs.Staying.{locals_stay_within}
use Rattle.gm_parting.specs.Tuples.{reduces_evenly, has_even_tuples}
use Rattle.gm_parting.proofs.Loops.{Test, sound-of, both, each-both, each-so, beside}
use Rattle.gm_parting.proofs.NoLocals.{loops-apart, stays-within}
use Rattle.gm_parting.proofs.Runs.{even-same, names-same}

module _ (ds : List Declaration) (res : Option VType) where
  abbrev no_locals : Test
  no_locals k at h test body = is_own_loop h.iterator body || names_no_local ds h.iterator body

  abbrev tuples : Test
  tuples k at h test body = is_own_loop h.iterator body || reduces_evenly ds body

  abbrev repeatable : Test
  repeatable k at h test body = is_own_loop h.iterator body || conditions_repeat ds h.iterator body

  -- what is no local, and declared in no inner loop, is outside
  outside : (n : ℕ) (xs : List ℕ) → list_all (is_shallow ds n) xs ≡ true → list_all (is_no_local ds (n ∷ [])) xs ≡ true → list_all (is_outside ds n) xs ≡ true
  outside n [] h k = refl
  outside n (x ∷ xs) h k =
      let r = both-true (is_shallow ds n x) (list_all (is_shallow ds n) xs) h in
      let q = both-true (is_no_local ds (n ∷ []) x) (list_all (is_no_local ds (n ∷ [])) xs) k in
      and-true (is_outside ds n x) (list_all (is_outside ds n) xs) (by (nat_eq x n) (depth_at ds x) r.0 q.0) (outside n xs r.1 q.1)
    where
      least : (d : ℕ) → nat_lt d 2 ≡ true → not (nat_eq d 1) ≡ true → nat_eq d 0 ≡ true
      least d h k = grind (arith, nat_tests, h, k)

      by : (a : Bool) (d : ℕ) → a || nat_lt d 2 ≡ true → (a || false) || not (nat_eq d 1) ≡ true → a || nat_eq d 0 ≡ true
      by true d h k = refl
      by false d h k = least d h k

  -- conditions that may be repeated and name no local last
  conditions-last : (n : ℕ) (s : Stmt) → conditions_repeat ds n s ≡ true → names_no_local ds n s ≡ true → conditions_last ds n s ≡ true
  conditions-last n (Then a b) h l =
      let r = both-true (conditions_repeat ds n a) (conditions_repeat ds n b) h in
      let q = both-true (names_pass (is_no_local ds) (n ∷ []) a) (names_pass (is_no_local ds) (n ∷ []) b) l in
      and-true (conditions_last ds n a) (conditions_last ds n b) (conditions-last n a r.0 q.0) (conditions-last n b r.1 q.1)
  conditions-last n (If k c a b) h l =
      let xs = touched a ++ touched b in
      let holds = holds_cut n a || holds_cut n b in
      let p = both-true (not holds || may_be_repeated ds n xs c) (conditions_repeat ds n a && conditions_repeat ds n b) h in
      let r = both-true (conditions_repeat ds n a) (conditions_repeat ds n b) p.1 in
      let m = both-true (list_all (is_no_local ds (n ∷ [])) (told_in c)) (names_pass (is_no_local ds) (n ∷ []) a && names_pass (is_no_local ds) (n ∷ []) b) l in
      let q = both-true (names_pass (is_no_local ds) (n ∷ []) a) (names_pass (is_no_local ds) (n ∷ []) b) m.1 in
      and-true (not holds || is_lasting ds n xs c) (conditions_last ds n a && conditions_last ds n b)
      (by (not holds) (is_mask n c) (spares xs c) (list_all (is_shallow ds n) (told_in c)) (list_all (is_outside ds n) (told_in c)) p.0 (λ e. outside n (told_in c) e m.0))
      (and-true (conditions_last ds n a) (conditions_last ds n b) (conditions-last n a r.0 q.0) (conditions-last n b r.1 q.1))
    where
      by : (o x y w v : Bool) → o || (x && (y && w)) ≡ true → (w ≡ true → v ≡ true) → o || (x && (y && v)) ≡ true
      by true x y w v h f = refl
      by false x y w v h f =
          let r = both-true x (y && w) h in
          let q = both-true y w r.1 in
          and-true x (y && v) r.0 (and-true y v q.0 (f q.1))
  conditions-last n s h l = refl

  module _ (k : Key) (at : Place) (hd : Head) (test : Expr) (body : Stmt) (sound : Sound ds res (Foreach k at hd test body)) where
    abbrev n : ℕ
    n = hd.iterator

    form : is_outer_body ds false n body ≡ true
    form = (both-true (is_flat (n ∷ []) false test) (is_outer_body ds false n body) (both-true (is_nodes hd.domain) (is_flat_loop ds false n test body) sound.form).1).1

    named : list_all (suits ds) (uses_of body) ≡ true
    named = (all-append (suits ds) (uses_in test) (uses_of body) (all-append (suits ds) (uses_of_head hd) (uses_in test ++ uses_of body) sound.named).1).1

    stays : names_no_local ds n body ≡ true → reduces_evenly ds body ≡ true → locals_stay_within ds n (with_runs n body) ≡ true
    stays l e =
        let own = is_own_loop n in
        let joins = joins_run n in
        stays-within ds n (iterates-of ds k at hd test body sound.named) (with_runs n body) (form-same own joins ds n body ∙ form) (ap (list_all (suits ds)) (uses-same own joins body) ∙ named) (names-same own joins (is_no_local ds) (n ∷ []) body ∙ l)
        (alike-same own joins body ∙ shares-alike ds n test body sound.share) (even-same own joins ds body ∙ e)

    apart : names_no_local ds n body ≡ true → inner_loops_apart ds n body ≡ true
    apart l = loops-apart ds n (iterates-of ds k at hd test body sound.named) body form named l

spared : (o x y : Bool) → (x ≡ true → y ≡ true) → o || x ≡ true → o || y ≡ true
spared true x y f h = refl
spared false x y f h = f h

pub without-locals : (p : Program) → Ready2 p → has_no_deferred p ≡ true → has_lasting_filters p ≡ true → has_repeatable_conditions p ≡ true → has_no_locals p ≡ true → has_even_tuples p ≡ true → has_iterators_in_place p ≡ true → IsPrepared p
without-locals p r none filters conditions locals even placed =
    let ds = p.declarations in
    let res = p.result in
    let s = sound-of p r in
    record {
      none = none;
      filters = filters;
      conditions = each-so ds res (both (repeatable ds res) (no_locals ds res)) (λ k at h test body. is_own_loop h.iterator body || conditions_last ds h.iterator body)
          (λ k at h test body w q. beside (is_own_loop h.iterator body) (conditions_repeat ds h.iterator body) (names_no_local ds h.iterator body) (conditions_last ds h.iterator body) (conditions-last ds res h.iterator body) q)
          p.body s (each-both (repeatable ds res) (no_locals ds res) p.body conditions locals);
      locals = each-so ds res (both (no_locals ds res) (tuples ds res)) (λ k at h test body. is_own_loop h.iterator body || locals_stay_within ds h.iterator (with_runs h.iterator body))
          (λ k at h test body w q. beside (is_own_loop h.iterator body) (names_no_local ds h.iterator body) (reduces_evenly ds body) (locals_stay_within ds h.iterator (with_runs h.iterator body)) (stays ds res k at h test body w) q)
          p.body s (each-both (no_locals ds res) (tuples ds res) p.body locals even);
      inners = each-so ds res (no_locals ds res) (λ k at h test body. is_own_loop h.iterator body || inner_loops_apart ds h.iterator body)
          (λ k at h test body w q. spared (is_own_loop h.iterator body) (names_no_local ds h.iterator body) (inner_loops_apart ds h.iterator body) (apart ds res k at h test body w) q)
          p.body s locals;
      tuples = even;
      iterators = placed;
    }
