-- Programs in canonical form: each inner loop reads no edge against the way of a message, in the marks that go with the passes.
use Rattle.std.proofs.Common.{◌≡◌, ◌⊎◌, ◌≤◌, ◌<◌, ℕ, Bool, true, false, List, [], ◌∷◌, ◌++◌, map, length, refl, sym, ap, subst, ◌∙◌, arith, Option, Some, None, inl, inr}
use Rattle.std.specs.Prelude.{◌&&◌, not, nat_eq, nat_lt}
use Rattle.std.proofs.lemmas.Bool.{both_ways, false≢true, or_cases, or_left, or_right, eqb-true, eq-eqb, ltb-true}
use Rattle.gm_base.specs.declared.places.Place.{Place}
use Rattle.gm_base.specs.declared.rules.Rule.{Rule}
use Rattle.gm_base.specs.declared.rules.Rule.TheVariants.{C6, C7}
use Rattle.gm_base.specs.Rules.{broken_at}
use Rattle.gm_ast.specs.declared.tree.Declaration.{Declaration}
use Rattle.gm_ast.specs.declared.tree.Target.{Target}
use Rattle.gm_ast.specs.declared.tree.Target.TheVariants as T
use Rattle.gm_ast.specs.declared.tree.Variable.{Variable}
use Rattle.gm_ast.specs.Canonical.{Body, Search, Filter, Loop, Around, sequential, within, reads_broken, not_inner, range_broken, is_inner, is_own_local, assignment_broken, sequential_only, ways_broken, forms_broken, uncanonical}
use Rattle.gm_ast.specs.Loops.{broken_if, declared_at, depth_of, target_place}
use Rattle.gm_ast.specs.Procedures.{IsTyped}
use Rattle.gm_ast.specs.Program.{Stmt, Then, Declare, DeclareEdge, Assign, Combine, Foreach, For, If, While, Do, InBfs, InBfsBoth, Program}
use Rattle.gm_ast.specs.Ways.{locals, is_in, edges_against}
use Rattle.gm_semantics.specs.Statements.{variable_or}
use Rattle.gm_forms.specs.Forms.{depth_at}
use Rattle.gm_ready.proofs.Judging.{append-empty}
use Rattle.gm_push_pull.proofs.Among.{any-append, same-answer}
use Rattle.gm_one_way.specs.Along.{AllAlong, EachAlong, ReadsAlong}
use Rattle.gm_along.specs.Scopes.{OwnTargets, anyone, Scoped}
use Rattle.gm_along.proofs.OneLoop.{FitTargets, Fits, loop-goes}
use Rattle.gm_along.proofs.Scopes.{program-scoped}

-- ---- what breaks nothing

not-broken : (b : Bool) (r : Rule) (at : Place) → broken_if b r at ≡ [] → b ≡ false
not-broken false r at h = refl
not-broken true r at h = absurd (both_ways false refl (ap none h))
  where
    none : {A : Type 0} → List A → Bool
    none [] = true
    none (x ∷ xs) = false

map-none : {A B : Type 0} (f : A → B) (xs : List A) → map f xs ≡ [] → xs ≡ []
map-none f [] h = refl
map-none f (x ∷ xs) h = absurd (both_ways false refl (ap none h))
  where
    none : {A : Type 0} → List A → Bool
    none [] = true
    none (x ∷ xs) = false

second : {A : Type 0} (xs ys : List A) → xs ++ ys ≡ [] → ys ≡ []
second xs ys h = (append-empty xs ys h).1

in-cases : (xs ys : List ℕ) (x : ℕ) → is_in (xs ++ ys) x ≡ true → (is_in xs x ≡ true) ⊎ (is_in ys x ≡ true)
in-cases xs ys x h = or_cases (is_in xs x) (is_in ys x) (sym (any-append (nat_eq x) xs ys) ∙ h)

either-way : (A B C : Type 0) → (A → C) → (B → C) → (A ⊎ B) → C
either-way A B C f g (inl a) = f a
either-way A B C f g (inr b) = g b

in-one : (x y : ℕ) → is_in (y ∷ []) x ≡ true → x ≡ y
in-one x y h = on (or_cases (nat_eq x y) false h)
  where
    on : ((nat_eq x y ≡ true) ⊎ (false ≡ true)) → x ≡ y
    on (inl k) = eqb-true x y k
    on (inr k) = absurd (false≢true k)

module _ (ds : List Declaration) where
  -- ---- an inner body

  -- its locals are declared inside of two loops
  locals-deep : (own : ℕ → Bool) (s : Stmt) → Scoped ds 2 own s → (x : ℕ) → is_in (locals s) x ≡ true → depth_at ds x ≡ 2
  locals-deep own (Then a b) h x k = either-way (is_in (locals a) x ≡ true) (is_in (locals b) x ≡ true) (depth_at ds x ≡ 2) (locals-deep own a h.0 x) (locals-deep own b h.1 x) (in-cases (locals a) (locals b) x k)
  locals-deep own (If key c a b) h x k = either-way (is_in (locals a) x ≡ true) (is_in (locals b) x ≡ true) (depth_at ds x ≡ 2) (locals-deep own a h.0 x) (locals-deep own b h.1 x) (in-cases (locals a) (locals b) x k)
  locals-deep own (Declare key y e) h x k = ap (depth_at ds) (in-one x y k) ∙ h
  locals-deep own (DeclareEdge y z at) h x k = ap (depth_at ds) (in-one x y k) ∙ h
  locals-deep own s h x k = absurd (false≢true k)

  depth-same : (o : Option Variable) → (variable_or o).depth ≡ depth_of o
  depth-same None = refl
  depth-same (Some v) = refl

  module _ (own : ℕ → Bool) (deep : (x : ℕ) → own x ≡ true → depth_at ds x ≡ 2) where
    fit-targets : (ts : List Target) → OwnTargets ds 2 own ts → FitTargets ds own ts
    fit-targets [] h = tt
    fit-targets (T.Property x p at ∷ ts) h = fit-targets ts h.1
    fit-targets (T.Scalar x at ∷ ts) h =
        (same-answer (nat_lt 1 (depth_at ds x)) (own x) (λ k. h.0 (two (ltb-true 1 (depth_at ds x) k))) (λ k. ap (nat_lt 1) (deep x k)), fit-targets ts h.1)
      where
        two : 1 < depth_at ds x → 2 ≤ depth_at ds x
        two l = omega (arith, l)

    module _ (w : Around) (table : w.declarations ≡ ds) (l m : Loop) (around : w.loops ≡ l ∷ m ∷ []) where
      own-assigned : (t : Target) → assignment_broken w t ≡ [] → is_own_local w t ≡ true
      own-assigned t h = on (is_own_local w t) (subst (λ ls. broken_if (is_inner ls && not (is_own_local w t)) C6 (target_place t) ≡ []) around h)
        where
          on : (b : Bool) → broken_if (not b) C6 (target_place t) ≡ [] → b ≡ true
          on true k = refl
          on false k = absurd (both_ways true (not-broken true C6 (target_place t) k) refl)

      inner-fits : (s : Stmt) → forms_broken s w ≡ [] → Scoped ds 2 own s → ((x : ℕ) → is_in (locals s) x ≡ true → own x ≡ true) → Fits ds own s
      inner-fits (Then a b) e h c =
          let r = append-empty (forms_broken a w) (forms_broken b w) e in (
            inner-fits a r.0 h.0 (λ x k. c x (any-append (nat_eq x) (locals a) (locals b) ∙ or_left (is_in (locals a) x) (is_in (locals b) x) k)),
            inner-fits b r.1 h.1 (λ x k. c x (any-append (nat_eq x) (locals a) (locals b) ∙ or_right (is_in (locals a) x) (is_in (locals b) x) k)),
          )
      inner-fits (If key t a b) e h c =
          let r = append-empty (forms_broken a w) (forms_broken b w) (second (reads_broken t w) (forms_broken a w ++ forms_broken b w) e) in (
            inner-fits a r.0 h.0 (λ x k. c x (any-append (nat_eq x) (locals a) (locals b) ∙ or_left (is_in (locals a) x) (is_in (locals b) x) k)),
            inner-fits b r.1 h.1 (λ x k. c x (any-append (nat_eq x) (locals a) (locals b) ∙ or_right (is_in (locals a) x) (is_in (locals b) x) k)),
          )
      inner-fits (Declare key x v) e h c = c x (or_left (nat_eq x x) false (eq-eqb x x refl))
      inner-fits (Assign key (T.Property x p at) v) e h c = own-assigned (T.Property x p at) (append-empty (assignment_broken w (T.Property x p at)) (reads_broken v w) e).0
      inner-fits (Assign key (T.Scalar x at) v) e h c =
          let o = eqb-true (depth_of (declared_at w.declarations x)) (length w.loops) (own-assigned (T.Scalar x at) (append-empty (assignment_broken w (T.Scalar x at)) (reads_broken v w) e).0) in
          let d : depth_at ds x ≡ 2 = depth-same (declared_at ds x) ∙ ap (λ es. depth_of (declared_at es x)) (sym table) ∙ o ∙ ap length around in
          h (omega (arith, d))
      inner-fits (Combine key total r ts es) e h c = fit-targets ts h
      inner-fits s e h c = tt

  -- ---- an outer body

  outer-goes : (n : ℕ) (own : ℕ → Bool) (l : Loop) (s : Stmt) → forms_broken s (record { declarations = ds; loops = l ∷ [] }) ≡ [] → Scoped ds 1 own s → AllAlong ds n s
  outer-goes n own l (Then a b) e h =
      let w : Around = record { declarations = ds; loops = l ∷ [] } in
      let r = append-empty (forms_broken a w) (forms_broken b w) e in
      (outer-goes n own l a r.0 h.0, outer-goes n own l b r.1 h.1)
  outer-goes n own l (If key t a b) e h =
      let w : Around = record { declarations = ds; loops = l ∷ [] } in
      let r = append-empty (forms_broken a w) (forms_broken b w) (second (reads_broken t w) (forms_broken a w ++ forms_broken b w) e) in
      (outer-goes n own l a r.0 h.0, outer-goes n own l b r.1 h.1)
  outer-goes n own l (Foreach key at hd test body) e h =
      let w : Around = record { declarations = ds; loops = l ∷ [] } in
      let v = within w Body hd.iterator in
      let rest = second (reads_broken test v) (forms_broken body v ++ ways_broken w.loops hd test body)
      (second (range_broken w.loops hd) (reads_broken test v ++ (forms_broken body v ++ ways_broken w.loops hd test body))
      (second (not_inner w.loops at) (range_broken w.loops hd ++ (reads_broken test v ++ (forms_broken body v ++ ways_broken w.loops hd test body))) e)) in
      let r = append-empty (forms_broken body v) (ways_broken w.loops hd test body) rest in
      let own = is_in (locals body) in
      loop-goes ds n hd test body (map-none (broken_at C7) (edges_against hd test body) r.1)
      (inner-fits own (locals-deep own body h) v refl l (record { code = Body; iterator = hd.iterator }) refl body r.0 h (λ x k. k))
  outer-goes n own l s e h = tt

  -- ---- a sequential phase

  abbrev w : Around
  w = sequential ds

  phase-goes : (s : Stmt) → forms_broken s (sequential ds) ≡ [] → Scoped ds 0 anyone s → EachAlong ds s
  phase-goes (Then a b) e h = let r = append-empty (forms_broken a w) (forms_broken b w) e in (phase-goes a r.0 h.0, phase-goes b r.1 h.1)
  phase-goes (If key t a b) e h =
      let r = append-empty (forms_broken a w) (forms_broken b w) (second (reads_broken t w) (forms_broken a w ++ forms_broken b w) e) in (phase-goes a r.0 h.0, phase-goes b r.1 h.1)
  phase-goes (Foreach key at hd test body) e h =
      let v = within w Body hd.iterator in
      let rest = second (reads_broken test v) (forms_broken body v ++ ways_broken w.loops hd test body)
      (second (range_broken w.loops hd) (reads_broken test v ++ (forms_broken body v ++ ways_broken w.loops hd test body))
      (second (not_inner w.loops at) (range_broken w.loops hd ++ (reads_broken test v ++ (forms_broken body v ++ ways_broken w.loops hd test body))) e)) in
      outer-goes hd.iterator (is_in (locals body)) (record { code = Body; iterator = hd.iterator }) body (append-empty (forms_broken body v) (ways_broken w.loops hd test body) rest).0 h
  phase-goes (For key at hd test body) e h =
      let rest = second (not_inner w.loops at) (range_broken w.loops hd ++ (reads_broken test w ++ forms_broken body w)) (second (sequential_only w.loops at) (not_inner w.loops at ++ (range_broken w.loops hd ++ (reads_broken test w ++ forms_broken body w))) e) in
      phase-goes body (second (reads_broken test w) (forms_broken body w) (second (range_broken w.loops hd) (reads_broken test w ++ forms_broken body w) rest)) h
  phase-goes (While key at t body) e h =
      let rest = second (not_inner w.loops at) (reads_broken t w ++ forms_broken body w) (second (sequential_only w.loops at) (not_inner w.loops at ++ (reads_broken t w ++ forms_broken body w)) e) in
      phase-goes body (second (reads_broken t w) (forms_broken body w) rest) h
  phase-goes (Do key at body t) e h =
      let rest = second (not_inner w.loops at) (forms_broken body w ++ reads_broken t w) (second (sequential_only w.loops at) (not_inner w.loops at ++ (forms_broken body w ++ reads_broken t w)) e) in
      phase-goes body (append-empty (forms_broken body w) (reads_broken t w) rest).0 h
  phase-goes (InBfs key at s test body) e h =
      let v = within w Search s.iterator in
      let f = within w Filter s.iterator in
      let rest = second (not_inner w.loops at) (reads_broken test f ++ forms_broken body v) (second (sequential_only w.loops at) (not_inner w.loops at ++ (reads_broken test f ++ forms_broken body v)) e) in
      outer-goes s.iterator (is_in (locals body)) (record { code = Search; iterator = s.iterator }) body (second (reads_broken test f) (forms_broken body v) rest) h
  phase-goes (InBfsBoth key at s test body back_key back_test back) e h =
      let v = within w Search s.iterator in
      let f = within w Filter s.iterator in
      let more = forms_broken body v ++ (reads_broken back_test f ++ forms_broken back v) in
      let rest = second (reads_broken test f) more (second (not_inner w.loops at) (reads_broken test f ++ more) (second (sequential_only w.loops at) (not_inner w.loops at ++ (reads_broken test f ++ more)) e)) in
      let r = append-empty (forms_broken body v) (reads_broken back_test f ++ forms_broken back v) rest in
      let loop : Loop = record { code = Search; iterator = s.iterator } in
      (outer-goes s.iterator (is_in (locals body)) loop body r.0 h.0, outer-goes s.iterator (is_in (locals back)) loop back (second (reads_broken back_test f) (forms_broken back v) r.1) h.1)
  phase-goes s e h = tt

-- ---- programs of texts

pub texts-read-along : (p : Program) → IsTyped p → uncanonical p ≡ [] → ReadsAlong p
texts-read-along p typed e = phase-goes p.declarations p.body e (program-scoped p typed)
