-- What holds of each loop of a phase holds of each loop that comes of it.
use Rattle.std.proofs.Common.{◌≡◌, ◌<◌, ◌≤◌, ℕ, Bool, true, false, List, [], ◌∷◌, ◌++◌, length, refl, sym, ap, subst, ◌∙◌, Option, ⊎_elim, inl, inr}
use Rattle.std.specs.Prelude.{◌+◌, ◌&&◌, ◌||◌, not, nat_eq, nat_le}
use Rattle.std.specs.List.{list_all}
use Rattle.gm_base.specs.declared.places.Place.{Place}
use Rattle.gm_value.specs.Bag.{IsIn}
use Rattle.gm_value.specs.declared.values.VType.{VType}
use Rattle.gm_value.specs.declared.values.VType.TheVariants.{Flag}
use Rattle.gm_ast.specs.declared.tree.Declaration.{Declaration}
use Rattle.gm_ast.specs.declared.tree.Head.{Head}
use Rattle.gm_ast.specs.declared.tree.Key.{Key}
use Rattle.gm_ast.specs.Program.{Expr, Const, Var, Property, EdgeProperty, Degree, NodeCount, EdgeCount, Live, Unary, Binary, Both, Either, Choose, Folded, Stmt, Then, Foreach, For, If, While, Do, Program}
use Rattle.gm_ast.specs.Ways.{is_in}
use Rattle.gm_semantics.specs.Frames.{ReadsBelow}
use Rattle.gm_semantics.specs.Statements.{variable_at}
use Rattle.gm_forms.specs.Cut.{is_no_local}
use Rattle.gm_forms.specs.Forms.{is_flat_loop, is_phase, is_told, no_loop}
use Rattle.gm_forms.specs.Order.{folds_in_order, loops_in_order}
use Rattle.gm_forms.specs.Ready.{Ready2}
use Rattle.gm_forms.specs.Sharing.{told_in, loops_share}
use Rattle.gm_forms.specs.Typing.{has_type, is_typed_in}
use Rattle.gm_forms.specs.Uses.{suits, uses_in, uses_of_head, uses_of}
use Rattle.gm_forms.proofs.Doings.{in-either}
use Rattle.gm_forms.proofs.Named.{both-true, all-append}
use Rattle.gm_forms.proofs.Weaker.{and-true}
use Rattle.gm_dissect.specs.AllDeferred.{deferred_of, deferred_in, is_empty}
use Rattle.gm_dissect.specs.Loops.{each_loop}
use Rattle.gm_dissect.proofs.Kept.{Sound}
use Rattle.gm_dissect.proofs.Longer.{depth-same}
use Rattle.gm_cut.specs.Parts.{each_passes}
use Rattle.gm_parting.specs.Lasting.{is_outside}

-- a test of a loop
abbrev pub Test : Type 0
Test = Key → Place → Head → Expr → Stmt → Bool

-- what every program that is ready keeps
pub sound-of : (p : Program) → Ready2 p → Sound p.declarations p.result p.body
sound-of p r = record {
  named = (both-true (nat_le (p.inputs + p.outputs) (length p.declarations)) (list_all (suits p.declarations) (uses_of p.body)) r.sane.named).1;
  typed = r.sane.typed;
  order = r.sane.ordered;
  share = r.sane.race_free;
  form = r.form;
}

module _ (ds : List Declaration) (res : Option VType) where
  abbrev phase : Stmt → Bool
  phase s = is_phase (is_flat_loop ds false) no_loop ds s

  pub sound-both : (a b : Stmt) → Sound ds res (Then a b) → Sound ds res a × Sound ds res b
  sound-both a b h =
      let n = all-append (suits ds) (uses_of a) (uses_of b) h.named in
      let t = both-true (is_typed_in ds res a) (is_typed_in ds res b) h.typed in
      let o = both-true (loops_in_order a) (loops_in_order b) h.order in
      let s = both-true (loops_share ds a) (loops_share ds b) h.share in
      let g = both-true (phase a) (phase b) h.form in
      (record { named = n.0; typed = t.0; order = o.0; share = s.0; form = g.0 }, record { named = n.1; typed = t.1; order = o.1; share = s.1; form = g.1 })

  pub sound-branches : (k : Key) (c : Expr) (a b : Stmt) → Sound ds res (If k c a b) → Sound ds res a × Sound ds res b
  sound-branches k c a b h =
      sound-both a b (record {
        named = (all-append (suits ds) (uses_in c) (uses_of a ++ uses_of b) h.named).1;
        typed = (both-true (has_type ds Flag c) (is_typed_in ds res a && is_typed_in ds res b) h.typed).1;
        order = (both-true (folds_in_order c) (loops_in_order a && loops_in_order b) h.order).1;
        share = h.share;
        form = (both-true (is_told c) (phase a && phase b) h.form).1;
      })

  pub sound-for : (k : Key) (at : Place) (hd : Head) (test : Expr) (body : Stmt) → Sound ds res (For k at hd test body) → Sound ds res body
  sound-for k at hd test body h = record {
    named = (all-append (suits ds) (uses_in test) (uses_of body) (all-append (suits ds) (uses_of_head hd) (uses_in test ++ uses_of body) h.named).1).1;
    typed = (both-true (has_type ds Flag test) (is_typed_in ds res body) h.typed).1;
    order = (both-true (folds_in_order test) (loops_in_order body) h.order).1;
    share = h.share;
    form = (both-true (is_told test) (phase body) h.form).1;
  }

  pub sound-while : (k : Key) (at : Place) (c : Expr) (body : Stmt) → Sound ds res (While k at c body) → Sound ds res body
  sound-while k at c body h = record {
    named = (all-append (suits ds) (uses_in c) (uses_of body) h.named).1;
    typed = (both-true (has_type ds Flag c) (is_typed_in ds res body) h.typed).1;
    order = (both-true (folds_in_order c) (loops_in_order body) h.order).1;
    share = h.share;
    form = (both-true (is_told c) (phase body) h.form).1;
  }

  pub sound-do : (k : Key) (at : Place) (body : Stmt) (c : Expr) → Sound ds res (Do k at body c) → Sound ds res body
  sound-do k at body c h = record {
    named = (all-append (suits ds) (uses_of body) (uses_in c) h.named).0;
    typed = (both-true (is_typed_in ds res body) (has_type ds Flag c) h.typed).0;
    order = (both-true (loops_in_order body) (folds_in_order c) h.order).0;
    share = h.share;
    form = (both-true (phase body) (is_told c) h.form).0;
  }

  -- F: what holds of each loop; G: what holds of each loop that comes of one
  module _ (F G : Test) (f : Key → Place → Head → Expr → Stmt → Stmt)
      (loops : (k : Key) (at : Place) (h : Head) (test : Expr) (body : Stmt) → Sound ds res (Foreach k at h test body) → F k at h test body ≡ true → each_passes G (f k at h test body) ≡ true) where
    pub each-kept : (s : Stmt) → Sound ds res s → each_passes F s ≡ true → each_passes G (each_loop f s) ≡ true
    each-kept (Then a b) w h =
        let r = sound-both a b w in
        let p = both-true (each_passes F a) (each_passes F b) h in
        and-true (each_passes G (each_loop f a)) (each_passes G (each_loop f b)) (each-kept a r.0 p.0) (each-kept b r.1 p.1)
    each-kept (Foreach k at hd test body) w h = loops k at hd test body w h
    each-kept (For k at hd test body) w h = each-kept body (sound-for k at hd test body w) h
    each-kept (If k c a b) w h =
        let r = sound-branches k c a b w in
        let p = both-true (each_passes F a) (each_passes F b) h in
        and-true (each_passes G (each_loop f a)) (each_passes G (each_loop f b)) (each-kept a r.0 p.0) (each-kept b r.1 p.1)
    each-kept (While k at c body) w h = each-kept body (sound-while k at c body w) h
    each-kept (Do k at body c) w h = each-kept body (sound-do k at body c w) h
    each-kept s w h = refl

-- a test that each loop passes
abbrev pub anything : Test
anything k at h test body = true

pub each-anything : (s : Stmt) → each_passes anything s ≡ true
each-anything (Then a b) = and-true (each_passes anything a) (each_passes anything b) (each-anything a) (each-anything b)
each-anything (Foreach k at hd test body) = refl
each-anything (For k at hd test body) = each-anything body
each-anything (If k c a b) = and-true (each_passes anything a) (each_passes anything b) (each-anything a) (each-anything b)
each-anything (While k at c body) = each-anything body
each-anything (Do k at body c) = each-anything body
each-anything s = refl

-- two tests at once
abbrev pub both : Test → Test → Test
both F G k at h test body = F k at h test body && G k at h test body

pub each-both : (F G : Test) (s : Stmt) → each_passes F s ≡ true → each_passes G s ≡ true → each_passes (both F G) s ≡ true
each-both F G (Then a b) p q =
    let f = both-true (each_passes F a) (each_passes F b) p in
    let g = both-true (each_passes G a) (each_passes G b) q in
    and-true (each_passes (both F G) a) (each_passes (both F G) b) (each-both F G a f.0 g.0) (each-both F G b f.1 g.1)
each-both F G (Foreach k at hd test body) p q = and-true (F k at hd test body) (G k at hd test body) p q
each-both F G (For k at hd test body) p q = each-both F G body p q
each-both F G (If k c a b) p q =
    let f = both-true (each_passes F a) (each_passes F b) p in
    let g = both-true (each_passes G a) (each_passes G b) q in
    and-true (each_passes (both F G) a) (each_passes (both F G) b) (each-both F G a f.0 g.0) (each-both F G b f.1 g.1)
each-both F G (While k at c body) p q = each-both F G body p q
each-both F G (Do k at body c) p q = each-both F G body p q
each-both F G s p q = refl

-- a loop that stays as it is
abbrev as_it_is : Key → Place → Head → Expr → Stmt → Stmt
as_it_is k at h test body = Foreach k at h test body

unchanged : (s : Stmt) → each_loop as_it_is s ≡ s
unchanged (Then a b) = ap (λ x. Then x (each_loop as_it_is b)) (unchanged a) ∙ ap (Then a) (unchanged b)
unchanged (Foreach k at hd test body) = refl
unchanged (For k at hd test body) = ap (For k at hd test) (unchanged body)
unchanged (If k c a b) = ap (λ x. If k c x (each_loop as_it_is b)) (unchanged a) ∙ ap (If k c a) (unchanged b)
unchanged (While k at c body) = ap (While k at c) (unchanged body)
unchanged (Do k at body c) = ap (λ s. Do k at s c) (unchanged body)
unchanged s = refl

-- what follows of each loop
pub each-so : (ds : List Declaration) (res : Option VType) (F G : Test) → ((k : Key) (at : Place) (h : Head) (test : Expr) (body : Stmt) → Sound ds res (Foreach k at h test body) → F k at h test body ≡ true → G k at h test body ≡ true) →
    (s : Stmt) → Sound ds res s → each_passes F s ≡ true → each_passes G s ≡ true
each-so ds res F G loops s sound h = subst (λ t. each_passes G t ≡ true) (unchanged s) (each-kept ds res F G as_it_is loops s sound h)

-- a fact of loops that are not of own statements follows from two such facts
pub beside : (o x y z : Bool) → (x ≡ true → y ≡ true → z ≡ true) → (o || x) && (o || y) ≡ true → o || z ≡ true
beside true x y z f h = refl
beside false x y z f h = let r = both-true x y h in f r.0 r.1

-- that no loop defers a write is a test of each
abbrev pub defers_nothing : Test
defers_nothing k at h test body = is_empty (deferred_of body)

empty-both : (xs ys : List ℕ) → is_empty (xs ++ ys) ≡ is_empty xs && is_empty ys
empty-both [] ys = refl
empty-both (x ∷ xs) ys = refl

two : (a b c d : Bool) → a ≡ c → b ≡ d → a && b ≡ c && d
two a b c d e f = ap (λ x. x && b) e ∙ ap (λ x. c && x) f

pub deferred-each : (s : Stmt) → is_empty (deferred_in s) ≡ each_passes defers_nothing s
deferred-each (Then a b) =
    empty-both (deferred_in a) (deferred_in b) ∙ two (is_empty (deferred_in a)) (is_empty (deferred_in b)) (each_passes defers_nothing a) (each_passes defers_nothing b) (deferred-each a) (deferred-each b)
deferred-each (Foreach k at hd test body) = refl
deferred-each (For k at hd test body) = deferred-each body
deferred-each (If k c a b) =
    empty-both (deferred_in a) (deferred_in b) ∙ two (is_empty (deferred_in a)) (is_empty (deferred_in b)) (each_passes defers_nothing a) (each_passes defers_nothing b) (deferred-each a) (deferred-each b)
deferred-each (While k at c body) = deferred-each body
deferred-each (Do k at body c) = deferred-each body
deferred-each s = refl

-- ---- a longer table

pub told-below : (k : ℕ) (e : Expr) → ReadsBelow k e → (y : ℕ) → IsIn y (told_in e) → y < k
told-below k (Var x at) h y i = ⊎_elim (λ (e : y ≡ x). subst (λ z. z < k) (sym e) h) (λ j. absurd j) i
told-below k (Property x p at) h y i = ⊎_elim (λ (e : y ≡ x). subst (λ z. z < k) (sym e) h.0) (λ j. absurd j) i
told-below k (Degree d x at) h y i = ⊎_elim (λ (e : y ≡ x). subst (λ z. z < k) (sym e) h) (λ j. absurd j) i
told-below k (Live x at) h y i = ⊎_elim (λ (e : y ≡ x). subst (λ z. z < k) (sym e) h) (λ j. absurd j) i
told-below k (Unary op at e) h y i = told-below k e h y i
told-below k (Binary op at a b) h y i = ⊎_elim (told-below k a h.0 y) (told-below k b h.1 y) (in-either y (told_in a) (told_in b) i)
told-below k (Both a b) h y i = ⊎_elim (told-below k a h.0 y) (told-below k b h.1 y) (in-either y (told_in a) (told_in b) i)
told-below k (Either a b) h y i = ⊎_elim (told-below k a h.0 y) (told-below k b h.1 y) (in-either y (told_in a) (told_in b) i)
told-below k (Choose c a b) h y i =
    ⊎_elim (told-below k c h.0 y) (λ j. ⊎_elim (told-below k a h.1 y) (told-below k b h.2 y) (in-either y (told_in a) (told_in b) j)) (in-either y (told_in c) (told_in a ++ told_in b) i)
told-below k (Folded f hd test e) h y i =
    ⊎_elim (λ (e : y ≡ hd.owner). subst (λ z. z < k) (sym e) h.0) (λ j. ⊎_elim (told-below k test h.1 y) (told-below k e h.2 y) (in-either y (told_in test) (told_in e) j)) i
told-below k (Const v) h y i = absurd i
told-below k (EdgeProperty x p at) h y i = absurd i
told-below k NodeCount h y i = absurd i
told-below k EdgeCount h y i = absurd i

module _ (ds dt : List Declaration) (same : (x : ℕ) → x < length ds → variable_at dt x ≡ variable_at ds x) (more : length ds ≤ length dt) where
  pub plain-longer : (its : List ℕ) (xs : List ℕ) → ((y : ℕ) → IsIn y xs → y < length ds) → list_all (is_no_local ds its) xs ≡ true → list_all (is_no_local dt its) xs ≡ true
  plain-longer its [] low h = refl
  plain-longer its (x ∷ xs) low h =
      let r = both-true (is_no_local ds its x) (list_all (is_no_local ds its) xs) h in
      and-true (is_no_local dt its x) (list_all (is_no_local dt its) xs) (ap (λ d. is_in its x || not (nat_eq d 1)) (depth-same ds dt same more x (low x (inl refl))) ∙ r.0) (plain-longer its xs (λ y i. low y (inr i)) r.1)

  pub outside-longer : (n : ℕ) (xs : List ℕ) → ((y : ℕ) → IsIn y xs → y < length ds) → list_all (is_outside ds n) xs ≡ true → list_all (is_outside dt n) xs ≡ true
  outside-longer n [] low h = refl
  outside-longer n (x ∷ xs) low h =
      let r = both-true (is_outside ds n x) (list_all (is_outside ds n) xs) h in
      and-true (is_outside dt n x) (list_all (is_outside dt n) xs) (ap (λ d. nat_eq x n || nat_eq d 0) (depth-same ds dt same more x (low x (inl refl))) ∙ r.0) (outside-longer n xs (λ y i. low y (inr i)) r.1)
