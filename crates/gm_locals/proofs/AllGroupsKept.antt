-- A phase whose loops keep in properties all locals that they can keeps what every pass keeps.
use Rattle.std.proofs.Common.{◌≡◌, ◌<◌, ◌≤◌, arith, ℕ, suc, ◌+◌, Bool, true, false, List, [], ◌∷◌, ◌++◌, length, refl, ap, subst, ◌∙◌, Option, Some, None}
use Rattle.std.specs.Prelude.{◌&&◌, nat_eq}
use Rattle.std.specs.List.{list_all}
use Rattle.std.proofs.lemmas.Bool.{both_ways}
use Rattle.gm_value.specs.declared.values.VType.{VType}
use Rattle.gm_value.specs.declared.values.VType.TheVariants.{Flag}
use Rattle.gm_ast.specs.declared.tree.Declaration.{Declaration}
use Rattle.gm_ast.specs.declared.tree.Target.TheVariants as T
use Rattle.gm_ast.specs.Program.{Expr, Stmt, Skip, Then, Declare, DeclareEdge, Assign, Defer, Combine, Group, Foreach, For, If, While, Do, InBfs, InBfsBoth, Return}
use Rattle.gm_semantics.specs.Statements.{variable_at}
use Rattle.gm_forms.specs.Forms.{is_flat_loop, is_phase, is_told, is_set, no_loop}
use Rattle.gm_forms.specs.Order.{folds_in_order, loops_in_order}
use Rattle.gm_forms.specs.Sharing.{loops_share}
use Rattle.gm_forms.specs.Typing.{has_type, is_typed_in, keeps_tuples}
use Rattle.gm_forms.specs.Uses.{suits, uses_in, uses_of_head, uses_of}
use Rattle.gm_forms.proofs.Named.{both-true, all-append, names-below}
use Rattle.gm_forms.proofs.Weaker.{and-true}
use Rattle.gm_dissect.proofs.Longer.{all-suit, depth-same, has-type-same, typed-same, all-plain}
use Rattle.gm_dissect.proofs.Undeferred.{append-true}
use Rattle.gm_dissect.proofs.Kept.{Sound, sound-skip, sound-then}
use Rattle.gm_locals.specs.AllGroups.{group_of, groups_in, with_groups}
use Rattle.gm_locals.proofs.AllGroupsAlike.{group-may}
use Rattle.gm_locals.proofs.GroupKept.{Added, together-sound}

-- properties for two lists of locals, one behind the other
both-added : (ds dt : List Declaration) (q : ℕ) (xs ys : List ℕ) → Added ds dt q (xs ++ ys) → Added ds dt q xs × Added ds dt (q + length xs) ys
both-added ds dt q [] ys h = let none : q ≡ q + 0 = omega arith in (tt, subst (λ j. Added ds dt j ys) none h)
both-added ds dt q (x ∷ xs) ys h =
    let r = both-added ds dt (suc q) xs ys h.1.1 in
    let next : suc q + length xs ≡ q + suc (length xs) = omega arith in
    ((h.0, (h.1.0, r.0)), subst (λ j. Added ds dt j ys) next r.1)

-- ds: the table; dt: a longer one
module _ (ds dt : List Declaration) (same : (x : ℕ) → x < length ds → variable_at dt x ≡ variable_at ds x) (more : length ds ≤ length dt) (res : Option VType) where
  abbrev phase : List Declaration → Stmt → Bool
  phase d s = is_phase (is_flat_loop d false) no_loop d s

  leaf : (s : Stmt) → Sound ds res s → loops_share dt s ≡ true → phase dt s ≡ true → Sound dt res s
  leaf s h share form = record {
    named = all-suit ds dt same more (uses_of s) h.named;
    typed = typed-same ds dt same more res s (names-below ds s h.named) ∙ h.typed;
    order = h.order;
    share = share;
    form = form;
  }

  -- a condition of a phase
  told : (e : Expr) → list_all (suits ds) (uses_in e) ≡ true → list_all (suits dt) (uses_in e) ≡ true
  told e h = all-suit ds dt same more (uses_in e) h

  pub groups-kept : (s : Stmt) (q : ℕ) → length ds ≤ q → Added ds dt q (groups_in ds s) → Sound ds res s → Sound dt res (with_groups ds q s)
  groups-kept Skip q least added h = sound-skip dt res
  groups-kept (Then a b) q least added h =
      let r = q + length (groups_in ds a) in
      let both = both-added ds dt q (groups_in ds a) (groups_in ds b) added in
      let n = all-append (suits ds) (uses_of a) (uses_of b) h.named in
      let t = both-true (is_typed_in ds res a) (is_typed_in ds res b) h.typed in
      let o = both-true (loops_in_order a) (loops_in_order b) h.order in
      let s = both-true (loops_share ds a) (loops_share ds b) h.share in
      let g = both-true (phase ds a) (phase ds b) h.form in
      sound-then dt res (with_groups ds q a) (with_groups ds r b)
      (groups-kept a q least both.0 (record { named = n.0; typed = t.0; order = o.0; share = s.0; form = g.0 }))
      (groups-kept b r (omega (arith, least)) both.1 (record { named = n.1; typed = t.1; order = o.1; share = s.1; form = g.1 }))
  groups-kept (Declare k x None) q least added h =
      leaf (Declare k x None) h refl (ap (λ d. nat_eq d 0) (depth-same ds dt same more x (names-below ds (Declare k x None) h.named).0) ∙ h.form)
  groups-kept (Declare k x (Some e)) q least added h =
      leaf (Declare k x (Some e)) h refl (ap (λ d. nat_eq d 0 && is_set e) (depth-same ds dt same more x (names-below ds (Declare k x (Some e)) h.named).0) ∙ h.form)
  groups-kept (DeclareEdge x y at) q least added h = absurd (both_ways false refl h.form)
  groups-kept (Assign k (T.Scalar x at) e) q least added h =
      leaf (Assign k (T.Scalar x at) e) h refl (ap (λ d. nat_eq d 0 && is_set e) (depth-same ds dt same more x (names-below ds (Assign k (T.Scalar x at) e) h.named).0) ∙ h.form)
  groups-kept (Assign k (T.Property x p at) e) q least added h = absurd (both_ways false refl h.form)
  groups-kept (Defer k t e) q least added h = absurd (both_ways false refl h.form)
  groups-kept (Combine k total r ts es) q least added h =
      leaf (Combine k total r ts es) h refl
      (ap (λ b. keeps_tuples r && (b && list_all is_told es)) (all-plain ds dt same more ts (names-below ds (Combine k total r ts es) h.named).0) ∙ h.form)
  groups-kept (Group k at g p e) q least added h = absurd (both_ways false refl h.form)
  groups-kept (Foreach k at hd test body) q least added h = together-sound ds dt same more res k at hd test body h (group_of ds hd.iterator test body) q least (group-may ds hd.iterator test body) added
  groups-kept (For k at hd test body) q least added h =
      let below = names-below ds (For k at hd test body) h.named in
      let n = all-append (suits ds) (uses_of_head hd) (uses_in test ++ uses_of body) h.named in
      let m = all-append (suits ds) (uses_in test) (uses_of body) n.1 in
      let t = both-true (has_type ds Flag test) (is_typed_in ds res body) h.typed in
      let o = both-true (folds_in_order test) (loops_in_order body) h.order in
      let g = both-true (is_told test) (phase ds body) h.form in
      let inside : Sound dt res (with_groups ds q body) = groups-kept body q least added (record { named = m.1; typed = t.1; order = o.1; share = h.share; form = g.1 }) in
      record {
        named = append-true (suits dt) (uses_of_head hd) (uses_in test ++ uses_of (with_groups ds q body)) (all-suit ds dt same more (uses_of_head hd) n.0)
            (append-true (suits dt) (uses_in test) (uses_of (with_groups ds q body)) (told test m.0) inside.named);
        typed = and-true (has_type dt Flag test) (is_typed_in dt res (with_groups ds q body)) (has-type-same ds dt same more Flag test below.2 ∙ t.0) inside.typed;
        order = and-true (folds_in_order test) (loops_in_order (with_groups ds q body)) o.0 inside.order;
        share = inside.share;
        form = and-true (is_told test) (phase dt (with_groups ds q body)) g.0 inside.form;
      }
  groups-kept (If k c a b) q least added h =
      let r = q + length (groups_in ds a) in
      let both = both-added ds dt q (groups_in ds a) (groups_in ds b) added in
      let below = names-below ds (If k c a b) h.named in
      let n = all-append (suits ds) (uses_in c) (uses_of a ++ uses_of b) h.named in
      let m = all-append (suits ds) (uses_of a) (uses_of b) n.1 in
      let t = both-true (has_type ds Flag c) (is_typed_in ds res a && is_typed_in ds res b) h.typed in
      let u = both-true (is_typed_in ds res a) (is_typed_in ds res b) t.1 in
      let o = both-true (folds_in_order c) (loops_in_order a && loops_in_order b) h.order in
      let v = both-true (loops_in_order a) (loops_in_order b) o.1 in
      let s = both-true (loops_share ds a) (loops_share ds b) h.share in
      let g = both-true (is_told c) (phase ds a && phase ds b) h.form in
      let w = both-true (phase ds a) (phase ds b) g.1 in
      let first : Sound dt res (with_groups ds q a) = groups-kept a q least both.0 (record { named = m.0; typed = u.0; order = v.0; share = s.0; form = w.0 }) in
      let second : Sound dt res (with_groups ds r b) = groups-kept b r (omega (arith, least)) both.1 (record { named = m.1; typed = u.1; order = v.1; share = s.1; form = w.1 }) in
      record {
        named = append-true (suits dt) (uses_in c) (uses_of (with_groups ds q a) ++ uses_of (with_groups ds r b)) (told c n.0) (append-true (suits dt) (uses_of (with_groups ds q a)) (uses_of (with_groups ds r b)) first.named second.named);
        typed = and-true (has_type dt Flag c) (is_typed_in dt res (with_groups ds q a) && is_typed_in dt res (with_groups ds r b)) (has-type-same ds dt same more Flag c below.0 ∙ t.0)
            (and-true (is_typed_in dt res (with_groups ds q a)) (is_typed_in dt res (with_groups ds r b)) first.typed second.typed);
        order = and-true (folds_in_order c) (loops_in_order (with_groups ds q a) && loops_in_order (with_groups ds r b)) o.0 (and-true (loops_in_order (with_groups ds q a)) (loops_in_order (with_groups ds r b)) first.order second.order);
        share = and-true (loops_share dt (with_groups ds q a)) (loops_share dt (with_groups ds r b)) first.share second.share;
        form = and-true (is_told c) (phase dt (with_groups ds q a) && phase dt (with_groups ds r b)) g.0 (and-true (phase dt (with_groups ds q a)) (phase dt (with_groups ds r b)) first.form second.form);
      }
  groups-kept (While k at c body) q least added h =
      let below = names-below ds (While k at c body) h.named in
      let n = all-append (suits ds) (uses_in c) (uses_of body) h.named in
      let t = both-true (has_type ds Flag c) (is_typed_in ds res body) h.typed in
      let o = both-true (folds_in_order c) (loops_in_order body) h.order in
      let g = both-true (is_told c) (phase ds body) h.form in
      let inside : Sound dt res (with_groups ds q body) = groups-kept body q least added (record { named = n.1; typed = t.1; order = o.1; share = h.share; form = g.1 }) in
      record {
        named = append-true (suits dt) (uses_in c) (uses_of (with_groups ds q body)) (told c n.0) inside.named;
        typed = and-true (has_type dt Flag c) (is_typed_in dt res (with_groups ds q body)) (has-type-same ds dt same more Flag c below.0 ∙ t.0) inside.typed;
        order = and-true (folds_in_order c) (loops_in_order (with_groups ds q body)) o.0 inside.order;
        share = inside.share;
        form = and-true (is_told c) (phase dt (with_groups ds q body)) g.0 inside.form;
      }
  groups-kept (Do k at body c) q least added h =
      let below = names-below ds (Do k at body c) h.named in
      let n = all-append (suits ds) (uses_of body) (uses_in c) h.named in
      let t = both-true (is_typed_in ds res body) (has_type ds Flag c) h.typed in
      let o = both-true (loops_in_order body) (folds_in_order c) h.order in
      let g = both-true (phase ds body) (is_told c) h.form in
      let inside : Sound dt res (with_groups ds q body) = groups-kept body q least added (record { named = n.0; typed = t.0; order = o.0; share = h.share; form = g.0 }) in
      record {
        named = append-true (suits dt) (uses_of (with_groups ds q body)) (uses_in c) inside.named (told c n.1);
        typed = and-true (is_typed_in dt res (with_groups ds q body)) (has_type dt Flag c) inside.typed (has-type-same ds dt same more Flag c below.1 ∙ t.1);
        order = and-true (loops_in_order (with_groups ds q body)) (folds_in_order c) inside.order o.1;
        share = inside.share;
        form = and-true (phase dt (with_groups ds q body)) (is_told c) inside.form g.1;
      }
  groups-kept (InBfs k at hd test body) q least added h = absurd (both_ways false refl h.form)
  groups-kept (InBfsBoth k at hd test body back_key back_test back) q least added h = absurd (both_ways false refl h.form)
  groups-kept (Return k at e) q least added h = leaf (Return k at e) h refl h.form
