-- Loops run as the loops of the pieces of their bodies, each under its mask.
use Rattle.std.proofs.Common.{◌≡◌, ◌≤◌, arith, ℕ, Bool, true, false, cond, List, [], ◌∷◌, ◌++◌, map, refl, sym, ap, subst, ◌∙◌, Some, Result, Ok, Err}
use Rattle.std.specs.Prelude.{◌&&◌, ◌||◌, nat_eq}
use Rattle.std.proofs.lemmas.Bool.{eq-eqb, ne_eqb, both_ways}
use Rattle.gm_base.specs.declared.places.Place.{Place}
use Rattle.gm_value.specs.declared.values.Value.TheVariants.{At}
use Rattle.gm_value.specs.declared.operations.Op1.TheVariants.{Not}
use Rattle.gm_value.specs.Bag.{IsIn}
use Rattle.gm_ast.specs.declared.tree.Declaration.{Declaration}
use Rattle.gm_ast.specs.declared.tree.Key.{Key}
use Rattle.gm_ast.specs.declared.tree.Head.{Head}
use Rattle.gm_ast.specs.Program.{Expr, Property, Unary, Both, Stmt, Skip, Then, Declare, DeclareEdge, Assign, Defer, Combine, Group, Foreach, For, If, While, Do, InBfs, InBfsBoth, Return, sequence}
use Rattle.gm_semantics.specs.declared.faults.Fault.{Fault}
use Rattle.gm_semantics.specs.declared.slots.Slot.TheVariants.{Scalar}
use Rattle.gm_semantics.specs.Stores.{Store}
use Rattle.gm_semantics.specs.Faults.{then_with}
use Rattle.gm_semantics.specs.Levels.{nodes, no_levels}
use Rattle.gm_semantics.specs.Expressions.{settled, value}
use Rattle.gm_semantics.specs.Iterations.{Loop}
use Rattle.gm_semantics.specs.Loops.{pushes}
use Rattle.gm_semantics.specs.Statements.{Run, loop_of, with_value, then_do, with_store, sequential}
use Rattle.gm_semantics.specs.Frames.{Agree, ReadsBelow, NamesBelow, AlikeStores, AlikeCourses}
use Rattle.gm_semantics.proofs.ExpressionFrames.{agree-write, evaluated-frame}
use Rattle.gm_forms.specs.Forms.{is_outer_body}
use Rattle.gm_forms.specs.Fission.{pushed_properties, Knows, can_cut}
use Rattle.gm_forms.proofs.Named.{both-true}
use Rattle.gm_loop_laws.specs.Alone.{stands_alone}
use Rattle.gm_loop_laws.specs.Masks.{Change, looped, in_turn, SameChange, is_certain, is_stable}
use Rattle.gm_loop_laws.specs.Pieces.{no_inner, is_lone, Piece, piece, pieces_of, stands, may_part, PiecesInTurn}
use Rattle.gm_loop_laws.proofs.Flips.{ends-anywhere}
use Rattle.gm_loop_laws.proofs.Masks.{same-trans, same-turns, same-by, loop-same, start, seen, filters-same, certain-value, value_of, saved-value, masks-stay}
use Rattle.gm_loop_laws.proofs.Conditions.{conditions-part}
use Rattle.gm_loop_laws.proofs.Pieces.{pushed-listed, own-loop, empty-loop, all_in_turn, courses-alike}

-- a part by what it pushes itself
module _ (j : ℕ) (ds : List Declaration) (pushed : List ℕ) (loop : Loop) (m : ℕ) (key : Key) (at : Place) (mask : Expr) (a : Stmt) (knows : Knows ds pushed loop) (fresh : j ≤ m) (reads : ReadsBelow j mask) (names : NamesBelow j a)
    (sure : is_certain (loop.outer ∷ []) mask ≡ true) (form : is_outer_body ds false loop.outer a ≡ true) where
  abbrev mine : Loop
  mine = record loop { pushed = λ p. pushes a loop.outer p }

  -- the store in which the mask is saved
  abbrev pub saved_mask : Store → Store
  saved_mask t = record t { node = λ p k. cond (nat_eq m p) (value_of (value mask (seen loop key t k))) (t.node p k) }

  pub mask-agrees : (t : Store) → Agree j t (saved_mask t)
  mask-agrees t = record { scalar = λ x l. refl; node = λ p k l. ap (λ b. cond b (value_of (value mask (seen loop key t k))) (t.node p k)) (ne_eqb m p (λ e. omega arith)); edge = λ p e l. refl }

  pub mask-shown : (t : Store) (x : ℕ) → IsIn x (nodes loop.graph) → value (Property loop.outer m at) (seen loop key (saved_mask t) x) ≡ value mask (seen loop key (saved_mask t) x)
  mask-shown t x i =
      saved-value loop key m at (saved_mask t) x i
      ∙ ap (λ c. Ok (cond c (value_of (value mask (seen loop key t x))) (t.node m x))) (eq-eqb m m refl)
      ∙ sym (certain-value loop key mask t x sure i)
      ∙ sym (ap settled (evaluated-frame j mask (seen loop key t x) (start loop key (saved_mask t) x) reads (agree-write j t (saved_mask t) (Scalar loop.outer) (At (Some x)) (mask-agrees t))))

  lone-loop : (s : Stmt) → is_outer_body ds false loop.outer s ≡ true → is_lone ds pushed loop.outer s ≡ true → (u : Store) →
      looped loop key (Property loop.outer m at) s u ≡ looped (record loop { pushed = λ p. pushes s loop.outer p }) key (Property loop.outer m at) s u
  lone-loop (Foreach k here h inner body) o l u =
      let r = both-true (stands_alone ds pushed loop.outer body) (stands_alone ds (pushed_properties loop.outer body) loop.outer body) l in
      sym (ends-anywhere ds pushed (pushed_properties loop.outer body) loop (λ p. pushes body loop.outer p) m key k at here h inner body u knows (record { graph = knows.graph; depth = knows.depth; pushed_is = λ p. pushed-listed loop.outer p body }) o r.0 r.1)
  lone-loop Skip o l u = absurd (both_ways false refl l)
  lone-loop (Then c d) o l u = absurd (both_ways false refl l)
  lone-loop (Declare k x e) o l u = absurd (both_ways false refl l)
  lone-loop (DeclareEdge x y here) o l u = absurd (both_ways false refl l)
  lone-loop (Assign k t e) o l u = absurd (both_ways false refl l)
  lone-loop (Defer k t e) o l u = absurd (both_ways false refl l)
  lone-loop (Combine k total r ts es) o l u = absurd (both_ways false refl l)
  lone-loop (Group k here g p e) o l u = absurd (both_ways false refl l)
  lone-loop (For k here h inner body) o l u = absurd (both_ways false refl l)
  lone-loop (If k c p q) o l u = absurd (both_ways false refl l)
  lone-loop (While k here c body) o l u = absurd (both_ways false refl l)
  lone-loop (Do k here body c) o l u = absurd (both_ways false refl l)
  lone-loop (InBfs k here h inner body) o l u = absurd (both_ways false refl l)
  lone-loop (InBfsBoth k here h inner body back_key back_test back) o l u = absurd (both_ways false refl l)
  lone-loop (Return k here e) o l u = absurd (both_ways false refl l)

  part-same : no_inner a || is_lone ds pushed loop.outer a ≡ true → SameChange j (looped loop key mask a) (looped mine key mask a)
  part-same h =
      same-by j (looped loop key mask a) (looped mine key mask a) (loop-same j loop key mask a reads names) (loop-same j mine key mask a reads names) (λ t.
      (saved_mask t, mask-agrees t, by t (no_inner a) refl h))
    where
      by : (t : Store) (o : Bool) → no_inner a ≡ o → o || is_lone ds pushed loop.outer a ≡ true → looped loop key mask a (saved_mask t) ≡ looped mine key mask a (saved_mask t)
      by t true e h = own-loop loop (λ p. pushes a loop.outer p) key mask a e (saved_mask t)
      by t false e h =
          sym (filters-same loop key (Property loop.outer m at) mask a (saved_mask t) (mask-shown t))
          ∙ lone-loop a form h (saved_mask t)
          ∙ filters-same mine key (Property loop.outer m at) mask a (saved_mask t) (mask-shown t)

-- changes of several pieces
abbrev change_of : Loop → Key → Piece → Change
change_of loop key p = looped (record loop { pushed = λ z. pushes p.part loop.outer z }) key p.mask p.part

abbrev changes : Loop → Key → List Piece → Change
changes loop key ps = all_in_turn (map (change_of loop key) ps)

then-assoc : (r : Result Store Fault) (f g : Change) → then_with (then_with r f) g ≡ then_with r (λ s. then_with (f s) g)
then-assoc (Ok s) f g = refl
then-assoc (Err e) f g = refl

changes-append : (loop : Loop) (key : Key) (ps qs : List Piece) (s : Store) → changes loop key (ps ++ qs) s ≡ in_turn (changes loop key ps) (changes loop key qs) s
changes-append loop key [] qs s = refl
changes-append loop key (p ∷ ps) qs s = by (change_of loop key p s) (λ t. changes-append loop key ps qs t) ∙ sym (then-assoc (change_of loop key p s) (changes loop key ps) (changes loop key qs))
  where
    by : (r : Result Store Fault) → ((t : Store) → changes loop key (ps ++ qs) t ≡ in_turn (changes loop key ps) (changes loop key qs) t) → then_with r (changes loop key (ps ++ qs)) ≡ then_with r (λ t. then_with (changes loop key ps t) (changes loop key qs))
    by (Ok t) h = h t
    by (Err e) h = refl

changes-one : (loop : Loop) (key : Key) (mask : Expr) (a : Stmt) (s : Store) → changes loop key (piece mask a) s ≡ looped (record loop { pushed = λ z. pushes a loop.outer z }) key mask a s
changes-one loop key mask a s = by (looped (record loop { pushed = λ z. pushes a loop.outer z }) key mask a s)
  where
    by : (r : Result Store Fault) → then_with r (λ t. Ok t) ≡ r
    by (Ok t) = refl
    by (Err e) = refl

module _ (whole : Stmt → Bool) (here : Place) (j : ℕ) (ds : List Declaration) (pushed : List ℕ) (loop : Loop) (m : ℕ) (key : Key) (at : Place) (knows : Knows ds pushed loop) (fresh : j ≤ m) where
  abbrev n : ℕ
  n = loop.outer

  -- a part that stays together
  one-piece : (mask : Expr) (s : Stmt) → ReadsBelow j mask → NamesBelow j s → stands whole here ds pushed n mask s ≡ true → SameChange j (looped loop key mask s) (changes loop key (piece mask s))
  one-piece mask s reads names h =
      let p = both-true (is_certain (n ∷ []) mask) (is_outer_body ds false n s && (no_inner s || is_lone ds pushed n s)) h in
      let q = both-true (is_outer_body ds false n s) (no_inner s || is_lone ds pushed n s) p.1 in
      λ t u agree. subst (AlikeStores j (looped loop key mask s t)) (sym (changes-one loop key mask s u))
      (part-same j ds pushed loop m key at mask s knows fresh reads names p.0 q.0 q.1 t u agree)

  -- two parts
  two-parts : (f f' g' : Change) (ps qs : List Piece) → SameChange j f (in_turn f' g') → SameChange j f' (changes loop key ps) → SameChange j g' (changes loop key qs) → SameChange j f (changes loop key (ps ++ qs))
  two-parts f f' g' ps qs h a b = λ t u agree.
      subst (AlikeStores j (f t)) (sym (changes-append loop key ps qs u))
      (same-trans j f (in_turn f' g') (in_turn (changes loop key ps) (changes loop key qs)) h (same-turns j f' (changes loop key ps) g' (changes loop key qs) a b) t u agree)

  abbrev Parts : Expr → Stmt → Type 0
  Parts mask s = SameChange j (looped loop key mask s) (changes loop key (pieces_of whole here mask s))

  parts : (s : Stmt) (mask : Expr) → ReadsBelow j mask → NamesBelow j s → may_part whole here ds n m key at pushed mask s ≡ true → Parts mask s
  parts Skip mask r c h = λ t u agree. subst (λ z. AlikeStores j z (Ok u)) (sym (empty-loop loop key mask h t)) agree
  parts (Then a b) mask r c h = by (whole (Then a b)) refl h (λ o. parts a mask r c.0 o) (λ o. parts b mask r c.1 o)
    where
      rest : Bool
      rest = is_stable n a mask && (may_part whole here ds n m key at pushed mask a && may_part whole here ds n m key at pushed mask b)

      by : (o : Bool) → whole (Then a b) ≡ o → cond o (stands whole here ds pushed n mask (Then a b)) (can_cut ds n m key at pushed a b && (is_stable n a mask && (may_part whole here ds n m key at pushed mask a && may_part whole here ds n m key at pushed mask b))) ≡ true →
          (may_part whole here ds n m key at pushed mask a ≡ true → Parts mask a) → (may_part whole here ds n m key at pushed mask b ≡ true → Parts mask b) →
          SameChange j (looped loop key mask (Then a b)) (changes loop key (cond o (piece mask (Then a b)) (pieces_of whole here mask a ++ pieces_of whole here mask b)))
      by true e h first second = one-piece mask (Then a b) r c h
      by false e h first second =
          let o1 = both-true (can_cut ds n m key at pushed a b) (is_stable n a mask && (may_part whole here ds n m key at pushed mask a && may_part whole here ds n m key at pushed mask b)) h in
          let o2 = both-true (is_stable n a mask) (may_part whole here ds n m key at pushed mask a && may_part whole here ds n m key at pushed mask b) o1.1 in
          let o3 = both-true (may_part whole here ds n m key at pushed mask a) (may_part whole here ds n m key at pushed mask b) o2.1 in
          two-parts (looped loop key mask (Then a b)) (looped loop key mask a) (looped loop key mask b) (pieces_of whole here mask a) (pieces_of whole here mask b)
          (masks-stay j ds pushed loop m key at mask a b knows fresh r c.0 c.1 o1.0 o2.0) (first o3.0) (second o3.1)
  parts (Declare k y e) mask r c h = one-piece mask (Declare k y e) r c h
  parts (DeclareEdge y z p) mask r c h = one-piece mask (DeclareEdge y z p) r c h
  parts (Assign k t e) mask r c h = one-piece mask (Assign k t e) r c h
  parts (Defer k t e) mask r c h = one-piece mask (Defer k t e) r c h
  parts (Combine k total op ts es) mask r c h = one-piece mask (Combine k total op ts es) r c h
  parts (Group k p y q e) mask r c h = one-piece mask (Group k p y q e) r c h
  parts (Foreach k p head test body) mask r c h = one-piece mask (Foreach k p head test body) r c h
  parts (For k p head test body) mask r c h = one-piece mask (For k p head test body) r c h
  parts (If k e a b) mask r c h = by (whole (If k e a b)) refl h (λ o. parts a (Both mask e) (r, c.0) c.1 o) (λ o. parts b (Both mask (Unary Not here e)) (r, c.0) c.2 o)
    where
      by : (o : Bool) → whole (If k e a b) ≡ o → cond o (stands whole here ds pushed n mask (If k e a b)) (can_cut ds n m key at pushed a b && (is_stable n a mask && (is_stable n a e && (may_part whole here ds n m key at pushed (Both mask e) a && may_part whole here ds n m key at pushed (Both mask (Unary Not here e)) b)))) ≡ true →
          (may_part whole here ds n m key at pushed (Both mask e) a ≡ true → Parts (Both mask e) a) → (may_part whole here ds n m key at pushed (Both mask (Unary Not here e)) b ≡ true → Parts (Both mask (Unary Not here e)) b) →
          SameChange j (looped loop key mask (If k e a b)) (changes loop key (cond o (piece mask (If k e a b)) (pieces_of whole here (Both mask e) a ++ pieces_of whole here (Both mask (Unary Not here e)) b)))
      by true d h first second = one-piece mask (If k e a b) r c h
      by false d h first second =
          let p = may_part whole here ds n m key at pushed (Both mask e) a in
          let q = may_part whole here ds n m key at pushed (Both mask (Unary Not here e)) b in
          let o1 = both-true (can_cut ds n m key at pushed a b) (is_stable n a mask && (is_stable n a e && (p && q))) h in
          let o2 = both-true (is_stable n a mask) (is_stable n a e && (p && q)) o1.1 in
          let o3 = both-true (is_stable n a e) (p && q) o2.1 in
          let o4 = both-true p q o3.1 in
          two-parts (looped loop key mask (If k e a b)) (looped loop key (Both mask e) a) (looped loop key (Both mask (Unary Not here e)) b) (pieces_of whole here (Both mask e) a) (pieces_of whole here (Both mask (Unary Not here e)) b)
          (conditions-part j ds pushed loop m key k at here mask e a b knows fresh r c.0 c.1 c.2 o1.0 o2.0 o3.0) (first o4.0) (second o4.1)
  parts (While k p e body) mask r c h = one-piece mask (While k p e body) r c h
  parts (Do k p body e) mask r c h = one-piece mask (Do k p body e) r c h
  parts (InBfs k p head e body) mask r c h = one-piece mask (InBfs k p head e body) r c h
  parts (InBfsBoth k p head e body back_key d back) mask r c h = one-piece mask (InBfsBoth k p head e body back_key d back) r c h
  parts (Return k p e) mask r c h = one-piece mask (Return k p e) r c h

-- as statements of a sequential phase
module _ (run : Run) (key : Key) (place : Place) (h : Head) (whole : Stmt) where
  abbrev loop : Loop
  loop = loop_of run no_levels h.iterator whole

  pieces-in-sequence : (ps : List Piece) (turns : ℕ) (u : Store) → sequential (sequence (map (λ p. Foreach key place h p.mask p.part) ps)) run (record { store = u; turns = turns }) ≡ with_value (changes loop key ps u) (with_store (record { store = u; turns = turns }))
  pieces-in-sequence [] turns u = refl
  pieces-in-sequence (p ∷ ps) turns u = by (λ v. pieces-in-sequence ps turns v) (change_of loop key p u)
    where
      by : ((v : Store) → sequential (sequence (map (λ p. Foreach key place h p.mask p.part) ps)) run (record { store = v; turns = turns }) ≡ with_value (changes loop key ps v) (with_store (record { store = v; turns = turns }))) → (r : Result Store Fault) →
          then_do (with_value r (with_store (record { store = u; turns = turns }))) (sequential (sequence (map (λ p. Foreach key place h p.mask p.part) ps)) run) ≡ with_value (then_with r (changes loop key ps)) (with_store (record { store = u; turns = turns }))
      by more (Ok v) = more v
      by more (Err f) = refl

-- the law of pieces
pub pieces-hold : PiecesInTurn
pieces-hold = λ j run m key at place here h whole mask body s t graph fresh reads names test alike.
    let loop = loop_of run no_levels h.iterator body in
    subst (AlikeCourses j (sequential (Foreach key place h mask body) run s)) (sym (pieces-in-sequence run key place h body (pieces_of whole here mask body) t.turns t.store))
    (courses-alike j s t (looped loop key mask body s.store) (changes loop key (pieces_of whole here mask body) t.store)
    (parts whole here j run.declarations (pushed_properties h.iterator body) loop m key at (record { graph = graph; depth = λ x. refl; pushed_is = λ p. pushed-listed h.iterator p body }) fresh body mask reads names test s.store t.store alike.store)
    alike.turns)
