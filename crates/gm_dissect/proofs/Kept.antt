-- A phase keeps what every pass keeps where its loops do.
use Rattle.std.proofs.Common.{◌≡◌, ◌<◌, ◌≤◌, ℕ, Bool, true, false, List, [], ◌∷◌, ◌++◌, length, refl, ap, ◌∙◌, Option, Some, None}
use Rattle.std.specs.Prelude.{◌&&◌, nat_eq}
use Rattle.std.specs.List.{list_all}
use Rattle.std.proofs.lemmas.Bool.{both_ways}
use Rattle.gm_base.specs.declared.places.Place.{Place}
use Rattle.gm_value.specs.declared.values.VType.{VType}
use Rattle.gm_value.specs.declared.values.VType.TheVariants.{Flag}
use Rattle.gm_ast.specs.declared.tree.Declaration.{Declaration}
use Rattle.gm_ast.specs.declared.tree.Head.{Head}
use Rattle.gm_ast.specs.declared.tree.Key.{Key}
use Rattle.gm_ast.specs.declared.tree.Target.TheVariants as T
use Rattle.gm_ast.specs.Loops.{is_nodes}
use Rattle.gm_ast.specs.Program.{Expr, Stmt, Skip, Then, Declare, DeclareEdge, Assign, Defer, Combine, Group, Foreach, For, If, While, Do, InBfs, InBfsBoth, Return}
use Rattle.gm_semantics.specs.Frames.{NamesBelow}
use Rattle.gm_semantics.specs.Statements.{variable_at}
use Rattle.gm_forms.specs.Forms.{depth_at, is_flat_loop, is_phase, is_plain, is_told, is_set, no_loop}
use Rattle.gm_forms.specs.Order.{folds_in_order, loops_in_order}
use Rattle.gm_forms.specs.Sharing.{loops_share}
use Rattle.gm_forms.specs.Typing.{has_type, is_typed_in, keeps_tuples}
use Rattle.gm_forms.specs.Uses.{suits, uses_in, uses_of_head, uses_of}
use Rattle.gm_forms.proofs.Named.{both-true, all-append, names-below}
use Rattle.gm_forms.proofs.Weaker.{and-true}
use Rattle.gm_dissect.specs.Loops.{each_loop}
use Rattle.gm_dissect.proofs.Longer.{all-suit, depth-same, has-type-same, typed-same, all-plain}
use Rattle.gm_dissect.proofs.Undeferred.{append-true}

-- what is kept of a phase
pub record Sound (ds : List Declaration) (res : Option VType) (s : Stmt) : Type 0 where
  pub named : list_all (suits ds) (uses_of s) ≡ true
  pub typed : is_typed_in ds res s ≡ true
  pub order : loops_in_order s ≡ true
  pub share : loops_share ds s ≡ true
  pub form : is_phase (is_flat_loop ds false) no_loop ds s ≡ true

-- two phases one after another
pub sound-then : (ds : List Declaration) (res : Option VType) (a b : Stmt) → Sound ds res a → Sound ds res b → Sound ds res (Then a b)
sound-then ds res a b p q = record {
  named = append-true (suits ds) (uses_of a) (uses_of b) p.named q.named;
  typed = and-true (is_typed_in ds res a) (is_typed_in ds res b) p.typed q.typed;
  order = and-true (loops_in_order a) (loops_in_order b) p.order q.order;
  share = and-true (loops_share ds a) (loops_share ds b) p.share q.share;
  form = and-true (is_phase (is_flat_loop ds false) no_loop ds a) (is_phase (is_flat_loop ds false) no_loop ds b) p.form q.form;
}

pub sound-skip : (ds : List Declaration) (res : Option VType) → Sound ds res Skip
sound-skip ds res = record { named = refl; typed = refl; order = refl; share = refl; form = refl }

-- ds: the table; dt: a longer one
module _ (ds dt : List Declaration) (same : (x : ℕ) → x < length ds → variable_at dt x ≡ variable_at ds x) (more : length ds ≤ length dt) (res : Option VType) where
  abbrev phase : List Declaration → Stmt → Bool
  phase d s = is_phase (is_flat_loop d false) no_loop d s

  leaf : (s : Stmt) → Sound ds res s → loops_share dt s ≡ true → phase dt s ≡ true → Sound dt res s
  leaf s h share form = record {
    named = all-suit ds dt same more (uses_of s) h.named;
    typed = typed-same ds dt same more res s (names-below ds s h.named) ∙ h.typed;
    order = h.order;
    share = share;
    form = form;
  }

  module _ (f : Key → Place → Head → Expr → Stmt → Stmt) (loops : (key : Key) (at : Place) (h : Head) (test : Expr) (body : Stmt) → Sound ds res (Foreach key at h test body) → Sound dt res (f key at h test body)) where
    -- a condition of a phase
    told : (e : Expr) → list_all (suits ds) (uses_in e) ≡ true → list_all (suits dt) (uses_in e) ≡ true
    told e h = all-suit ds dt same more (uses_in e) h

    pub phase-kept : (s : Stmt) → Sound ds res s → Sound dt res (each_loop f s)
    phase-kept Skip h = sound-skip dt res
    phase-kept (Then a b) h =
        let n = all-append (suits ds) (uses_of a) (uses_of b) h.named in
        let t = both-true (is_typed_in ds res a) (is_typed_in ds res b) h.typed in
        let o = both-true (loops_in_order a) (loops_in_order b) h.order in
        let s = both-true (loops_share ds a) (loops_share ds b) h.share in
        let g = both-true (phase ds a) (phase ds b) h.form in
        sound-then dt res (each_loop f a) (each_loop f b)
        (phase-kept a (record { named = n.0; typed = t.0; order = o.0; share = s.0; form = g.0 }))
        (phase-kept b (record { named = n.1; typed = t.1; order = o.1; share = s.1; form = g.1 }))
    phase-kept (Declare k x None) h =
        leaf (Declare k x None) h refl (ap (λ d. nat_eq d 0) (depth-same ds dt same more x (names-below ds (Declare k x None) h.named).0) ∙ h.form)
    phase-kept (Declare k x (Some e)) h =
        leaf (Declare k x (Some e)) h refl (ap (λ d. nat_eq d 0 && is_set e) (depth-same ds dt same more x (names-below ds (Declare k x (Some e)) h.named).0) ∙ h.form)
    phase-kept (DeclareEdge x y at) h = absurd (both_ways false refl h.form)
    phase-kept (Assign k (T.Scalar x at) e) h =
        leaf (Assign k (T.Scalar x at) e) h refl (ap (λ d. nat_eq d 0 && is_set e) (depth-same ds dt same more x (names-below ds (Assign k (T.Scalar x at) e) h.named).0) ∙ h.form)
    phase-kept (Assign k (T.Property x p at) e) h = absurd (both_ways false refl h.form)
    phase-kept (Defer k t e) h = absurd (both_ways false refl h.form)
    phase-kept (Combine k total r ts es) h =
        leaf (Combine k total r ts es) h refl
        (ap (λ b. keeps_tuples r && (b && list_all is_told es)) (all-plain ds dt same more ts (names-below ds (Combine k total r ts es) h.named).0) ∙ h.form)
    phase-kept (Group k at g p e) h = absurd (both_ways false refl h.form)
    phase-kept (Foreach k at hd test body) h = loops k at hd test body h
    phase-kept (For k at hd test body) h =
        let below = names-below ds (For k at hd test body) h.named in
        let n = all-append (suits ds) (uses_of_head hd) (uses_in test ++ uses_of body) h.named in
        let m = all-append (suits ds) (uses_in test) (uses_of body) n.1 in
        let t = both-true (has_type ds Flag test) (is_typed_in ds res body) h.typed in
        let o = both-true (folds_in_order test) (loops_in_order body) h.order in
        let g = both-true (is_told test) (phase ds body) h.form in
        let inside : Sound dt res (each_loop f body) = phase-kept body (record { named = m.1; typed = t.1; order = o.1; share = h.share; form = g.1 }) in
        record {
          named = append-true (suits dt) (uses_of_head hd) (uses_in test ++ uses_of (each_loop f body)) (all-suit ds dt same more (uses_of_head hd) n.0)
              (append-true (suits dt) (uses_in test) (uses_of (each_loop f body)) (told test m.0) inside.named);
          typed = and-true (has_type dt Flag test) (is_typed_in dt res (each_loop f body)) (has-type-same ds dt same more Flag test below.2 ∙ t.0) inside.typed;
          order = and-true (folds_in_order test) (loops_in_order (each_loop f body)) o.0 inside.order;
          share = inside.share;
          form = and-true (is_told test) (phase dt (each_loop f body)) g.0 inside.form;
        }
    phase-kept (If k c a b) h =
        let below = names-below ds (If k c a b) h.named in
        let n = all-append (suits ds) (uses_in c) (uses_of a ++ uses_of b) h.named in
        let m = all-append (suits ds) (uses_of a) (uses_of b) n.1 in
        let t = both-true (has_type ds Flag c) (is_typed_in ds res a && is_typed_in ds res b) h.typed in
        let u = both-true (is_typed_in ds res a) (is_typed_in ds res b) t.1 in
        let o = both-true (folds_in_order c) (loops_in_order a && loops_in_order b) h.order in
        let q = both-true (loops_in_order a) (loops_in_order b) o.1 in
        let s = both-true (loops_share ds a) (loops_share ds b) h.share in
        let g = both-true (is_told c) (phase ds a && phase ds b) h.form in
        let w = both-true (phase ds a) (phase ds b) g.1 in
        let first : Sound dt res (each_loop f a) = phase-kept a (record { named = m.0; typed = u.0; order = q.0; share = s.0; form = w.0 }) in
        let second : Sound dt res (each_loop f b) = phase-kept b (record { named = m.1; typed = u.1; order = q.1; share = s.1; form = w.1 }) in
        record {
          named = append-true (suits dt) (uses_in c) (uses_of (each_loop f a) ++ uses_of (each_loop f b)) (told c n.0) (append-true (suits dt) (uses_of (each_loop f a)) (uses_of (each_loop f b)) first.named second.named);
          typed = and-true (has_type dt Flag c) (is_typed_in dt res (each_loop f a) && is_typed_in dt res (each_loop f b)) (has-type-same ds dt same more Flag c below.0 ∙ t.0)
              (and-true (is_typed_in dt res (each_loop f a)) (is_typed_in dt res (each_loop f b)) first.typed second.typed);
          order = and-true (folds_in_order c) (loops_in_order (each_loop f a) && loops_in_order (each_loop f b)) o.0 (and-true (loops_in_order (each_loop f a)) (loops_in_order (each_loop f b)) first.order second.order);
          share = and-true (loops_share dt (each_loop f a)) (loops_share dt (each_loop f b)) first.share second.share;
          form = and-true (is_told c) (phase dt (each_loop f a) && phase dt (each_loop f b)) g.0 (and-true (phase dt (each_loop f a)) (phase dt (each_loop f b)) first.form second.form);
        }
    phase-kept (While k at c body) h =
        let below = names-below ds (While k at c body) h.named in
        let n = all-append (suits ds) (uses_in c) (uses_of body) h.named in
        let t = both-true (has_type ds Flag c) (is_typed_in ds res body) h.typed in
        let o = both-true (folds_in_order c) (loops_in_order body) h.order in
        let g = both-true (is_told c) (phase ds body) h.form in
        let inside : Sound dt res (each_loop f body) = phase-kept body (record { named = n.1; typed = t.1; order = o.1; share = h.share; form = g.1 }) in
        record {
          named = append-true (suits dt) (uses_in c) (uses_of (each_loop f body)) (told c n.0) inside.named;
          typed = and-true (has_type dt Flag c) (is_typed_in dt res (each_loop f body)) (has-type-same ds dt same more Flag c below.0 ∙ t.0) inside.typed;
          order = and-true (folds_in_order c) (loops_in_order (each_loop f body)) o.0 inside.order;
          share = inside.share;
          form = and-true (is_told c) (phase dt (each_loop f body)) g.0 inside.form;
        }
    phase-kept (Do k at body c) h =
        let below = names-below ds (Do k at body c) h.named in
        let n = all-append (suits ds) (uses_of body) (uses_in c) h.named in
        let t = both-true (is_typed_in ds res body) (has_type ds Flag c) h.typed in
        let o = both-true (loops_in_order body) (folds_in_order c) h.order in
        let g = both-true (phase ds body) (is_told c) h.form in
        let inside : Sound dt res (each_loop f body) = phase-kept body (record { named = n.0; typed = t.0; order = o.0; share = h.share; form = g.0 }) in
        record {
          named = append-true (suits dt) (uses_of (each_loop f body)) (uses_in c) inside.named (told c n.1);
          typed = and-true (is_typed_in dt res (each_loop f body)) (has_type dt Flag c) inside.typed (has-type-same ds dt same more Flag c below.1 ∙ t.1);
          order = and-true (loops_in_order (each_loop f body)) (folds_in_order c) inside.order o.1;
          share = inside.share;
          form = and-true (phase dt (each_loop f body)) (is_told c) inside.form g.1;
        }
    phase-kept (InBfs k at hd test body) h = absurd (both_ways false refl h.form)
    phase-kept (InBfsBoth k at hd test body back_key back_test back) h = absurd (both_ways false refl h.form)
    phase-kept (Return k at e) h = leaf (Return k at e) h refl h.form
