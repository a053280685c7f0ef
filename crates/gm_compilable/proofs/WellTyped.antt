-- A parted program tells values alone, whatever limit nodes have.
use Rattle.std.proofs.Common.{◌≡◌, ◌<◌, ◌≤◌, ◌+◌, ℕ, Bool, true, false, List, [], ◌∷◌, ◌++◌, length, refl, ap, ◌∙◌, sym, subst, arith, ⊎_elim, Option, Some, None}
use Rattle.std.specs.Prelude.{◌⊎◌, ◌&&◌, ◌||◌, nat_eq, nat_le, nat_lt}
use Rattle.std.specs.List.{list_all}
use Rattle.std.proofs.lemmas.Bool.{both_ways, and_from, le-leb, ltb-true}
use Rattle.gm_value.specs.declared.values.VType.TheVariants as V
use Rattle.gm_value.specs.declared.values.Value.{Value}
use Rattle.gm_value.specs.declared.values.Value.TheVariants as Values
use Rattle.gm_value.specs.Operations.{same_type}
use Rattle.gm_ast.specs.declared.tree.Declaration.{Declaration}
use Rattle.gm_ast.specs.declared.tree.Head.{Head}
use Rattle.gm_ast.specs.declared.tree.Search.{Search}
use Rattle.gm_ast.specs.declared.tree.Sort.TheVariants as Sorts
use Rattle.gm_ast.specs.Names.{is, sort_eq}
use Rattle.gm_ast.specs.Program.{Expr, Const, Var, Property, EdgeProperty, Degree, NodeCount, EdgeCount, Live, Unary, Binary, Both, Either, Choose, Folded, Stmt, Skip, Then, Declare, DeclareEdge, Assign, Defer, Combine, Group, Foreach, For, If, While, Do, InBfs, InBfsBoth, Return}
use Rattle.gm_ast.specs.Ways.{is_in}
use Rattle.gm_semantics.specs.Outcomes.{is_of}
use Rattle.gm_semantics.specs.Statements.{variable_at}
use Rattle.gm_ast.specs.Loops.{is_nodes}
use Rattle.gm_forms.specs.Cut.{is_own_loop, is_mask, is_along_edges, is_cut}
use Rattle.gm_forms.specs.Forms.{is_flat, is_told, is_inner_head, is_inner_body, is_outer_body, is_flat_loop, no_loop, is_phase, goes_out}
use Rattle.gm_forms.specs.Uses.{Role, Iterates, Written, Anything, Owner, Use, has_role, suits, use_as, owner_role, uses_of_head, uses_of_search, uses_in, uses_in_all, uses_in_option, uses_of_target, uses_of_targets, uses_of}
use Rattle.gm_forms.proofs.Named.{both-true, all-append}
use Rattle.gm_typed_stores.specs.Tells.{TypeTable, table_of, holds, takes_nodes, is_below, tells, may_tell, all_tell, tells_in}
use Rattle.gm_sound_lowering.specs.Asked.{NodesAreNodes, is_plain_constant}
use Rattle.gm_ready.proofs.Placing.{IsIteratorAt}
use Rattle.gm_compilable.specs.Laws.{PartedIsWellTyped}
use Rattle.gm_compilable.specs.Parted.{parted}
use Rattle.gm_compilable.proofs.Tables.{parted-table, parted-parameters}
use Rattle.gm_compilable.proofs.Telling.{Tells, MayTell, AllTell, Body}
use Rattle.gm_compilable.proofs.ToldLast.{Edged, Last}
use Rattle.gm_compilable.proofs.ToldTexts.{Out, In, below-or}
use Rattle.gm_compilable.proofs.ToldTogether.{Inner, parted-tells}

plain-below : (limit : ℕ) (v : Value) → is_plain_constant v ≡ true → is_below limit v ≡ true
plain-below limit (Values.I32 z) h = refl
plain-below limit (Values.I64 z) h = refl
plain-below limit (Values.Flag b) h = refl
plain-below limit (Values.At None) h = refl
plain-below limit (Values.At (Some k)) h = absurd (both_ways false refl h)

-- old: the table of the source; ds: the declarations that use has
module _ (fors : ℕ → Type 0) (limit : ℕ) (old : TypeTable) (ds : List Declaration) (nodes : NodesAreNodes ds) (same : (x : ℕ) → x < old.inputs → is_of ds Sorts.Scalar x ≡ is_of old.declarations Sorts.Scalar x) where
  abbrev table : TypeTable
  table = record { limit = limit; declarations = ds; inputs = old.inputs }

  abbrev Suit : List Use → Type 0
  Suit us = list_all (suits ds) us ≡ true

  -- what is told inside some iterators of the source is told inside others
  abbrev Wide : List ℕ → List ℕ → Type 0
  Wide base its = (x : ℕ) → holds old base x ≡ true → holds table its x ≡ true

  abbrev Base : List ℕ → ℕ → Type 0
  Base base x = holds old base x ≡ true

  wide : (base its : List ℕ) → ((x : ℕ) → is_in base x ≡ true → is_in its x ≡ true) → Wide base its
  wide base its more x h =
      ⊎_elim
      (λ (l : x < old.inputs).
      near (is_of ds Sorts.Scalar x) (nat_le old.inputs x) (is_in base x) (is_in its x) (more x) (ap (λ b. b || (nat_le old.inputs x || is_in base x)) (same x l) ∙ h))
      (λ (l : old.inputs ≤ x). far (is_of ds Sorts.Scalar x) (nat_le old.inputs x) (is_in its x) (le-leb old.inputs x l)) (below-or x old.inputs)
    where
      near : (a b c d : Bool) → (c ≡ true → d ≡ true) → a || (b || c) ≡ true → a || (b || d) ≡ true
      near true b c d f h = refl
      near false true c d f h = refl
      near false false c d f h = f h

      far : (a b c : Bool) → b ≡ true → a || (b || c) ≡ true
      far true b c h = refl
      far false true c h = refl
      far false false c h = absurd (both_ways false refl h)

  wider : (base its : List ℕ) (i : ℕ) → Wide base its → Wide base (i ∷ its)
  wider base its i w x h = by (is_of ds Sorts.Scalar x) (nat_le old.inputs x) (nat_eq x i) (is_in its x) (w x h)
    where
      by : (a b c d : Bool) → a || (b || d) ≡ true → a || (b || (c || d)) ≡ true
      by true b c d h = refl
      by false true c d h = refl
      by false false true d h = refl
      by false false false d h = h

  -- iterators take nodes
  role : (r : Role) (x : ℕ) → Suit (use_as r x) → (x < length ds) × (has_role (variable_at ds x) r ≡ true)
  role r x h =
      let s = both-true (suits ds (record { variable = x; role = r })) true h in
      let q = both-true (nat_lt x (length ds)) (has_role (variable_at ds x) r) s.0 in
      (ltb-true x (length ds) q.0, q.1)

  takes : (x : ℕ) → Suit (use_as Iterates x) → takes_nodes table x ≡ true
  takes x h = let r = role Iterates x h in ap (same_type V.Node) (nodes x r.0 r.1)

  head-takes : (hd : Head) → Suit (uses_of_head hd) → takes_nodes table hd.iterator ≡ true
  head-takes hd h = takes hd.iterator (all-append (suits ds) (use_as Iterates hd.iterator) (use_as (owner_role hd.domain) hd.owner) h).0

  search-takes : (s : Search) → Suit (uses_of_search s) → takes_nodes table s.iterator ≡ true
  search-takes s h = takes s.iterator (all-append (suits ds) (use_as Iterates s.iterator) (use_as Anything s.graph ++ use_as Owner s.root) h).0

  both : (a b : Bool) → a ≡ true → b ≡ true → a && b ≡ true
  both a b h k = and_from a b h k

  -- ---- expressions

  expr : (base its : List ℕ) (e : Expr) → Wide base its → Suit (uses_in e) → Tells (Base base) e → tells table its e ≡ true
  expr base its (Const v) w n h = plain-below limit v h
  expr base its (Var x at) w n h = w x h
  expr base its (Property x p at) w n h = refl
  expr base its (EdgeProperty x p at) w n h = refl
  expr base its (Degree d x at) w n h = refl
  expr base its NodeCount w n h = refl
  expr base its EdgeCount w n h = refl
  expr base its (Live x at) w n h = refl
  expr base its (Unary op at e) w n h = expr base its e w n h
  expr base its (Binary op at a b) w n h = let q = all-append (suits ds) (uses_in a) (uses_in b) n in both (tells table its a) (tells table its b) (expr base its a w q.0 h.0) (expr base its b w q.1 h.1)
  expr base its (Both a b) w n h = let q = all-append (suits ds) (uses_in a) (uses_in b) n in both (tells table its a) (tells table its b) (expr base its a w q.0 h.0) (expr base its b w q.1 h.1)
  expr base its (Either a b) w n h = let q = all-append (suits ds) (uses_in a) (uses_in b) n in both (tells table its a) (tells table its b) (expr base its a w q.0 h.0) (expr base its b w q.1 h.1)
  expr base its (Choose c a b) w n h =
      let q = all-append (suits ds) (uses_in c) (uses_in a ++ uses_in b) n in
      let r = all-append (suits ds) (uses_in a) (uses_in b) q.1 in
      both (tells table its c) (tells table its a && tells table its b) (expr base its c w q.0 h.0) (both (tells table its a) (tells table its b) (expr base its a w r.0 h.1.0) (expr base its b w r.1 h.1.1))
  expr base its (Folded f hd test e) w n h =
      let i = hd.iterator in
      let q = all-append (suits ds) (uses_of_head hd) (uses_in test ++ uses_in e) n in
      let r = all-append (suits ds) (uses_in test) (uses_in e) q.1 in
      let m = wider base its i w in
      both (takes_nodes table i) (tells table (i ∷ its) test && tells table (i ∷ its) e) (head-takes hd q.0)
      (both (tells table (i ∷ its) test) (tells table (i ∷ its) e) (expr base (i ∷ its) test m r.0 h.1.0) (expr base (i ∷ its) e m r.1 h.1.1))

  may : (base its : List ℕ) (o : Option Expr) → Wide base its → Suit (uses_in_option o) → MayTell (Base base) o → may_tell table its o ≡ true
  may base its None w n h = refl
  may base its (Some e) w n h = expr base its e w n h

  declared : (base its : List ℕ) (x : ℕ) (k : _) (o : Option Expr) → Wide base its → Suit (uses_of (Declare k x o)) → MayTell (Base base) o → may_tell table its o ≡ true
  declared base its x k None w n h = refl
  declared base its x k (Some e) w n h = expr base its e w (all-append (suits ds) (use_as Written x) (uses_in e) n).1 h

  each : (base its : List ℕ) (es : List Expr) → Wide base its → Suit (uses_in_all es) → AllTell (Base base) es → all_tell table its es ≡ true
  each base its [] w n h = refl
  each base its (e ∷ es) w n h = let q = all-append (suits ds) (uses_in e) (uses_in_all es) n in both (tells table its e) (all_tell table its es) (expr base its e w q.0 h.0) (each base its es w q.1 h.1)

  -- a loop, its filter and its body
  looped : (i : ℕ) (its : List ℕ) (test : Expr) (s : Stmt) → takes_nodes table i ≡ true → tells table (i ∷ its) test ≡ true → tells_in table (i ∷ its) s ≡ true → takes_nodes table i && (tells table (i ∷ its) test && tells_in table (i ∷ its) s) ≡ true
  looped i its test s t h k = both (takes_nodes table i) (tells table (i ∷ its) test && tells_in table (i ∷ its) s) t (both (tells table (i ∷ its) test) (tells_in table (i ∷ its) s) h k)

  -- ---- bodies, which have such statements alone as bodies of the last form have

  inner : (base its seen : List ℕ) (edge : Bool) (s : Stmt) → Wide base its → is_inner_body ds seen edge s ≡ true → Suit (uses_of s) → Body (Base base) s → tells_in table its s ≡ true
  inner base its seen edge Skip w f n h = refl
  inner base its seen edge (Then a b) w f n h =
      let q = all-append (suits ds) (uses_of a) (uses_of b) n in
      let g = both-true (is_inner_body ds seen edge a) (is_inner_body ds seen edge b) f in
      both (tells_in table its a) (tells_in table its b) (inner base its seen edge a w g.0 q.0 h.0) (inner base its seen edge b w g.1 q.1 h.1)
  inner base its seen edge (Declare k x e) w f n h = declared base its x k e w n h
  inner base its seen edge (DeclareEdge x y at) w f n h = refl
  inner base its seen edge (Assign k t e) w f n h = expr base its e w (all-append (suits ds) (uses_of_target t) (uses_in e) n).1 h
  inner base its seen edge (Combine k total r ts es) w f n h = each base its es w (all-append (suits ds) (uses_of_targets ts) (uses_in_all es) n).1 h
  inner base its seen edge (If k c a b) w f n h =
      let q = all-append (suits ds) (uses_in c) (uses_of a ++ uses_of b) n in
      let r = all-append (suits ds) (uses_of a) (uses_of b) q.1 in
      let g = both-true (is_inner_body ds seen edge a) (is_inner_body ds seen edge b) (both-true (is_flat seen edge c) (is_inner_body ds seen edge a && is_inner_body ds seen edge b) f).1 in
      both (tells table its c) (tells_in table its a && tells_in table its b) (expr base its c w q.0 h.0)
      (both (tells_in table its a) (tells_in table its b) (inner base its seen edge a w g.0 r.0 h.1.0) (inner base its seen edge b w g.1 r.1 h.1.1))
  inner base its seen edge (Defer k t e) w f n h = absurd (both_ways false refl f)
  inner base its seen edge (Group k at g p e) w f n h = absurd (both_ways false refl f)
  inner base its seen edge (Foreach k at hd test s) w f n h = absurd (both_ways false refl f)
  inner base its seen edge (For k at hd test s) w f n h = absurd (both_ways false refl f)
  inner base its seen edge (While k at c s) w f n h = absurd (both_ways false refl f)
  inner base its seen edge (Do k at s c) w f n h = absurd (both_ways false refl f)
  inner base its seen edge (InBfs k at s test body) w f n h = absurd (both_ways false refl f)
  inner base its seen edge (InBfsBoth k at s test body back_key back_test back) w f n h = absurd (both_ways false refl f)
  inner base its seen edge (Return k at e) w f n h = absurd (both_ways false refl f)

  -- the body of an inner loop, by the iterators around
  of-inner : (m : ℕ) (hd : Head) (its : List ℕ) (test : Expr) (s : Stmt) (base : List ℕ) → Wide base (hd.iterator ∷ its)
      → is_inner_head false m hd && (is_flat (m ∷ hd.iterator ∷ []) true test && is_inner_body ds (m ∷ hd.iterator ∷ []) true s) ≡ true
      → Suit (uses_of_head hd ++ (uses_in test ++ uses_of s)) → Tells (Base base) test → Body (Base base) s
      → takes_nodes table hd.iterator && (tells table (hd.iterator ∷ its) test && tells_in table (hd.iterator ∷ its) s) ≡ true
  of-inner m hd its test s base w f n h k =
      let i = hd.iterator in
      let q = all-append (suits ds) (uses_of_head hd) (uses_in test ++ uses_of s) n in
      let r = all-append (suits ds) (uses_in test) (uses_of s) q.1 in
      let g = both-true (is_inner_head false m hd) (is_flat (m ∷ i ∷ []) true test && is_inner_body ds (m ∷ i ∷ []) true s) f in
      let o = both-true (is_flat (m ∷ i ∷ []) true test) (is_inner_body ds (m ∷ i ∷ []) true s) g.1 in
      looped i its test s (head-takes hd q.0) (expr base (i ∷ its) test w r.0 h) (inner base (i ∷ its) (m ∷ i ∷ []) true s w o.1 r.1 k)

  outer : (base its : List ℕ) (m : ℕ) (s : Stmt) → Wide base its → is_outer_body ds false m s ≡ true → Suit (uses_of s) → Body (Base base) s → tells_in table its s ≡ true
  outer base its m Skip w f n h = refl
  outer base its m (Then a b) w f n h =
      let q = all-append (suits ds) (uses_of a) (uses_of b) n in
      let g = both-true (is_outer_body ds false m a) (is_outer_body ds false m b) f in
      both (tells_in table its a) (tells_in table its b) (outer base its m a w g.0 q.0 h.0) (outer base its m b w g.1 q.1 h.1)
  outer base its m (Declare k x e) w f n h = declared base its x k e w n h
  outer base its m (DeclareEdge x y at) w f n h = refl
  outer base its m (Assign k t e) w f n h = expr base its e w (all-append (suits ds) (uses_of_target t) (uses_in e) n).1 h
  outer base its m (Defer k t e) w f n h = expr base its e w (all-append (suits ds) (uses_of_target t) (uses_in e) n).1 h
  outer base its m (Combine k total r ts es) w f n h = each base its es w (all-append (suits ds) (uses_of_targets ts) (uses_in_all es) n).1 h
  outer base its m (If k c a b) w f n h =
      let q = all-append (suits ds) (uses_in c) (uses_of a ++ uses_of b) n in
      let r = all-append (suits ds) (uses_of a) (uses_of b) q.1 in
      let g = both-true (is_outer_body ds false m a) (is_outer_body ds false m b) (both-true (is_flat (m ∷ []) false c) (is_outer_body ds false m a && is_outer_body ds false m b) f).1 in
      both (tells table its c) (tells_in table its a && tells_in table its b) (expr base its c w q.0 h.0)
      (both (tells_in table its a) (tells_in table its b) (outer base its m a w g.0 r.0 h.1.0) (outer base its m b w g.1 r.1 h.1.1))
  outer base its m (Foreach k at hd test s) w f n h = of-inner m hd its test s base (wider base its hd.iterator w) f n h.0 h.1
  outer base its m (Group k at g p e) w f n h = absurd (both_ways false refl f)
  outer base its m (For k at hd test s) w f n h = absurd (both_ways false refl f)
  outer base its m (While k at c s) w f n h = absurd (both_ways false refl f)
  outer base its m (Do k at s c) w f n h = absurd (both_ways false refl f)
  outer base its m (InBfs k at s test body) w f n h = absurd (both_ways false refl f)
  outer base its m (InBfsBoth k at s test body back_key back_test back) w f n h = absurd (both_ways false refl f)
  outer base its m (Return k at e) w f n h = absurd (both_ways false refl f)

  -- ---- loops over nodes

  one-in : (i : ℕ) (its : List ℕ) → Wide (i ∷ []) (i ∷ its)
  one-in i its = wide (i ∷ []) (i ∷ its) (λ x e. by (nat_eq x i) (is_in its x) e)
    where
      by : (a b : Bool) → a || false ≡ true → a || b ≡ true
      by true b e = refl
      by false b e = absurd (both_ways false refl e)

  two-in : (n i : ℕ) (its : List ℕ) → Wide (i ∷ (n ∷ [])) (i ∷ (n ∷ its))
  two-in n i its = wide (i ∷ (n ∷ [])) (i ∷ (n ∷ its)) (λ x e. by (nat_eq x i) (nat_eq x n) (is_in its x) e)
    where
      by : (a b c : Bool) → a || (b || false) ≡ true → a || (b || c) ≡ true
      by true b c e = refl
      by false true c e = refl
      by false false c e = absurd (both_ways false refl e)

  edged : (n : ℕ) (its : List ℕ) (s : Stmt) → is_outer_body ds false n s ≡ true → Suit (uses_of s) → Edged fors (Out old) (In old) (Inner old) n s → tells_in table (n ∷ its) s ≡ true
  edged n its (Foreach k at hd test s) f u h = of-inner n hd (n ∷ its) test s (hd.iterator ∷ (n ∷ [])) (two-in n hd.iterator its) f u h.0 h.1
  edged n its Skip f u h = refl
  edged n its (Then a b) f u h = outer (n ∷ []) (n ∷ its) n (Then a b) (one-in n its) f u h
  edged n its (Declare k x e) f u h = outer (n ∷ []) (n ∷ its) n (Declare k x e) (one-in n its) f u h
  edged n its (DeclareEdge x y at) f u h = refl
  edged n its (Assign k t e) f u h = outer (n ∷ []) (n ∷ its) n (Assign k t e) (one-in n its) f u h
  edged n its (Defer k t e) f u h = outer (n ∷ []) (n ∷ its) n (Defer k t e) (one-in n its) f u h
  edged n its (Combine k total r ts es) f u h = outer (n ∷ []) (n ∷ its) n (Combine k total r ts es) (one-in n its) f u h
  edged n its (If k c a b) f u h = outer (n ∷ []) (n ∷ its) n (If k c a b) (one-in n its) f u h
  edged n its (Group k at g p e) f u h = absurd (both_ways false refl f)
  edged n its (For k at hd test s) f u h = absurd (both_ways false refl f)
  edged n its (While k at c s) f u h = absurd (both_ways false refl f)
  edged n its (Do k at s c) f u h = absurd (both_ways false refl f)
  edged n its (InBfs k at s test body) f u h = absurd (both_ways false refl f)
  edged n its (InBfsBoth k at s test body back_key back_test back) f u h = absurd (both_ways false refl f)
  edged n its (Return k at e) f u h = absurd (both_ways false refl f)

  -- ---- sequential phases

  abbrev Form : Stmt → Type 0
  Form s = is_phase (is_cut goes_out ds) no_loop ds s ≡ true

  phase : (its : List ℕ) (s : Stmt) → Wide [] its → Form s → Suit (uses_of s) → Last fors (Out old) (In old) (Inner old) s → tells_in table its s ≡ true
  phase its Skip w f n h = refl
  phase its (Then a b) w f n h =
      let q = all-append (suits ds) (uses_of a) (uses_of b) n in
      let g = both-true (is_phase (is_cut goes_out ds) no_loop ds a) (is_phase (is_cut goes_out ds) no_loop ds b) f in
      both (tells_in table its a) (tells_in table its b) (phase its a w g.0 q.0 h.0) (phase its b w g.1 q.1 h.1)
  phase its (Declare k x e) w f n h = declared [] its x k e w n h
  phase its (Assign k t e) w f n h = expr [] its e w (all-append (suits ds) (uses_of_target t) (uses_in e) n).1 h
  phase its (Combine k total r ts es) w f n h = each [] its es w (all-append (suits ds) (uses_of_targets ts) (uses_in_all es) n).1 h
  phase its (Foreach k at hd test s) w f n h =
      let i = hd.iterator in
      let q = all-append (suits ds) (uses_of_head hd) (uses_in test ++ uses_of s) n in
      let r = all-append (suits ds) (uses_in test) (uses_of s) q.1 in
      let g = both-true (is_nodes hd.domain) (is_cut goes_out ds i test s) f in
      let o = both-true (is_flat_loop ds false i test s) (is_own_loop i s || (is_mask i test && is_along_edges (goes_out ds) ds i test s)) g.1 in
      let l = both-true (is_flat (i ∷ []) false test) (is_outer_body ds false i s) o.0 in
      looped i its test s (head-takes hd q.0) (expr (i ∷ []) (i ∷ its) test (one-in i its) r.0 h.0) (edged i its s l.1 r.1 h.1)
  phase its (For k at hd test s) w f n h =
      let i = hd.iterator in
      let q = all-append (suits ds) (uses_of_head hd) (uses_in test ++ uses_of s) n in
      let r = all-append (suits ds) (uses_in test) (uses_of s) q.1 in
      let g = both-true (is_told test) (is_phase (is_cut goes_out ds) no_loop ds s) f in
      let m = wider [] its i w in
      looped i its test s (head-takes hd q.0) (expr [] (i ∷ its) test m r.0 h.1.0) (phase (i ∷ its) s m g.1 r.1 h.1.1)
  phase its (If k c a b) w f n h =
      let q = all-append (suits ds) (uses_in c) (uses_of a ++ uses_of b) n in
      let r = all-append (suits ds) (uses_of a) (uses_of b) q.1 in
      let g = both-true (is_told c) (is_phase (is_cut goes_out ds) no_loop ds a && is_phase (is_cut goes_out ds) no_loop ds b) f in
      let o = both-true (is_phase (is_cut goes_out ds) no_loop ds a) (is_phase (is_cut goes_out ds) no_loop ds b) g.1 in
      both (tells table its c) (tells_in table its a && tells_in table its b) (expr [] its c w q.0 h.0) (both (tells_in table its a) (tells_in table its b) (phase its a w o.0 r.0 h.1.0) (phase its b w o.1 r.1 h.1.1))
  phase its (While k at c s) w f n h =
      let q = all-append (suits ds) (uses_in c) (uses_of s) n in
      let g = both-true (is_told c) (is_phase (is_cut goes_out ds) no_loop ds s) f in
      both (tells table its c) (tells_in table its s) (expr [] its c w q.0 h.0) (phase its s w g.1 q.1 h.1)
  phase its (Do k at s c) w f n h =
      let q = all-append (suits ds) (uses_of s) (uses_in c) n in
      let g = both-true (is_phase (is_cut goes_out ds) no_loop ds s) (is_told c) f in
      both (tells_in table its s) (tells table its c) (phase its s w g.0 q.0 h.0) (expr [] its c w q.1 h.1)
  phase its (Return k at e) w f n h = may [] its e w n h
  phase its (DeclareEdge x y at) w f n h = refl
  phase its (Defer k t e) w f n h = absurd (both_ways false refl f)
  phase its (Group k at g p e) w f n h = absurd (both_ways false refl f)
  phase its (InBfs k at s test body) w f n h = absurd (both_ways false refl f)
  phase its (InBfsBoth k at s test body back_key back_test back) w f n h = absurd (both_ways false refl f)

  pub phase-tells : (s : Stmt) → Form s → Suit (uses_of s) → Last fors (Out old) (In old) (Inner old) s → tells_in table [] s ≡ true
  phase-tells s f n h = phase [] s (wide [] [] (λ x e. e)) f n h

pub parted-well-typed : PartedIsWellTyped
parted-well-typed limit p is_typed ready last =
    let q = parted p in
    let k = parted-parameters p is_typed in
    let named = both-true (nat_le (q.inputs + q.outputs) (length q.declarations)) (list_all (suits q.declarations) (uses_of q.body)) last.sane.named in
    let same : (x : ℕ) → x < p.inputs → is_of q.declarations Sorts.Scalar x ≡ is_of p.declarations Sorts.Scalar x = λ x lt. ap (sort_eq Sorts.Scalar) (k.like x (omega (arith, lt))).sort in
    record {
      typed = last.sane.typed;
      named = last.sane.named;
      tells =
          subst (λ i. tells_in (record { limit = limit; declarations = q.declarations; inputs = i }) [] q.body ≡ true) (sym k.inputs)
          (phase-tells (IsIteratorAt p.declarations 0) limit (table_of 0 p) q.declarations (parted-table p is_typed).nodes same q.body last.form named.1 (parted-tells p is_typed ready));
    }
