-- Inner loops are cut under masks that stay.
use Rattle.std.proofs.Common.{◌≡◌, ◌≤◌, arith, ℕ, Bool, true, false, cond, List, [], ◌∷◌, refl, sym, ap, ◌∙◌, Result, Ok, Err}
use Rattle.std.specs.Prelude.{◌&&◌, not}
use Rattle.gm_base.specs.declared.places.Place.{Place}
use Rattle.gm_ast.specs.declared.tree.Declaration.{Declaration}
use Rattle.gm_ast.specs.declared.tree.Head.{Head}
use Rattle.gm_ast.specs.declared.tree.Key.{Key}
use Rattle.gm_ast.specs.Ways.{is_in}
use Rattle.gm_ast.specs.Program.{Expr, Property, Stmt, Skip, Then, Declare, DeclareEdge, Assign, Defer, Combine, Group, Foreach, For, If, While, Do, InBfs, InBfsBoth, Return}
use Rattle.gm_semantics.specs.declared.faults.Fault.{Fault}
use Rattle.gm_semantics.specs.Stores.{Store}
use Rattle.gm_semantics.specs.Faults.{then_with}
use Rattle.gm_semantics.specs.Iterations.{Loop}
use Rattle.gm_semantics.specs.Frames.{ReadsBelow, NamesBelow}
use Rattle.gm_forms.specs.Cut.{touched}
use Rattle.gm_forms.specs.Forms.{is_flat, is_inner_head, is_inner_body, is_outer_body}
use Rattle.gm_forms.specs.Sharing.{are_at_once}
use Rattle.gm_forms.specs.Fission.{Knows}
use Rattle.gm_forms.proofs.Named.{both-true}
use Rattle.gm_forms.proofs.Weaker.{and-true}
use Rattle.gm_loop_laws.specs.Masks.{looped, in_turn, SameChange, is_certain, spares, is_stable}
use Rattle.gm_loop_laws.specs.Inner.{quiet, MaskedInnerLoopsCut}
use Rattle.gm_loop_laws.specs.Resumed.{serves, needs, kept, resumed, may_trim, MaskedInnerLoopsResume, MaskedInnerLoopsTrim}
use Rattle.gm_loop_laws.proofs.Kept.{touched-below}
use Rattle.gm_loop_laws.proofs.Masks.{same-turns, same-by, loop-same, filters-same, saved-value, stays, slot-stays}
use Rattle.gm_loop_laws.proofs.Parting.{saved_mask, mask-agrees, mask-shown}
use Rattle.gm_loop_laws.proofs.InnerCuts.{inner-loops-cut, inner-loops-resume, inner-loops-trim}

-- a quiet body names no more
quiet-names : (j : ℕ) (ds : List Declaration) (n : ℕ) (s : Stmt) → NamesBelow j s → NamesBelow j (quiet ds n s)
quiet-names j ds n Skip h = h
quiet-names j ds n (Then a b) h = (quiet-names j ds n a h.0, quiet-names j ds n b h.1)
quiet-names j ds n (Declare k x e) h = h
quiet-names j ds n (DeclareEdge x y at) h = h
quiet-names j ds n (Assign k t e) h = h
quiet-names j ds n (Defer k t e) h = h
quiet-names j ds n (Combine k total r ts es) h = by (are_at_once ds n true ts)
  where
    by : (b : Bool) → NamesBelow j (cond b (Combine k total r ts es) Skip)
    by true = h
    by false = tt
quiet-names j ds n (Group k at g p e) h = h
quiet-names j ds n (Foreach k at head test body) h = h
quiet-names j ds n (For k at head test body) h = h
quiet-names j ds n (If k c a b) h = (h.0, quiet-names j ds n a h.1, quiet-names j ds n b h.2)
quiet-names j ds n (While k at c body) h = h
quiet-names j ds n (Do k at body c) h = h
quiet-names j ds n (InBfs k at head c body) h = h
quiet-names j ds n (InBfsBoth k at head c body back_key d back) h = h
quiet-names j ds n (Return k at e) h = h

leaf-names : (j : ℕ) (d : Bool) (s : Stmt) → NamesBelow j s → NamesBelow j (cond d s Skip)
leaf-names j true s h = h
leaf-names j false s h = tt

-- nor does what is evaluated again
pub kept-names : (j : ℕ) (ds : List Declaration) (its : List ℕ) (n : ℕ) (new : Bool) (s : Stmt) (xs : List ℕ) → NamesBelow j s → NamesBelow j (kept ds its n new s xs)
kept-names j ds its n new Skip xs h = h
kept-names j ds its n new (Then a b) xs h = (kept-names j ds its n new a (needs ds its n new b xs) h.0, kept-names j ds its n new b xs h.1)
kept-names j ds its n new (Declare k x e) xs h = leaf-names j (serves ds its n new xs (Declare k x e)) (Declare k x e) h
kept-names j ds its n new (DeclareEdge x y at) xs h = h
kept-names j ds its n new (Assign k t e) xs h = leaf-names j (serves ds its n new xs (Assign k t e)) (Assign k t e) h
kept-names j ds its n new (Defer k t e) xs h = leaf-names j (serves ds its n new xs (Defer k t e)) (Defer k t e) h
kept-names j ds its n new (Combine k total r ts es) xs h = leaf-names j (serves ds its n new xs (Combine k total r ts es)) (Combine k total r ts es) h
kept-names j ds its n new (Group k at g p e) xs h = leaf-names j (serves ds its n new xs (Group k at g p e)) (Group k at g p e) h
kept-names j ds its n new (Foreach k at head test body) xs h = leaf-names j (serves ds its n new xs (Foreach k at head test body)) (Foreach k at head test body) h
kept-names j ds its n new (For k at head test body) xs h = leaf-names j (serves ds its n new xs (For k at head test body)) (For k at head test body) h
kept-names j ds its n new (If k c a b) xs h = leaf-names j (serves ds its n new xs (If k c a b)) (If k c (kept ds its n new a xs) (kept ds its n new b xs)) (h.0, kept-names j ds its n new a xs h.1, kept-names j ds its n new b xs h.2)
kept-names j ds its n new (While k at c body) xs h = leaf-names j (serves ds its n new xs (While k at c body)) (While k at c body) h
kept-names j ds its n new (Do k at body c) xs h = leaf-names j (serves ds its n new xs (Do k at body c)) (Do k at body c) h
kept-names j ds its n new (InBfs k at head c body) xs h = leaf-names j (serves ds its n new xs (InBfs k at head c body)) (InBfs k at head c body) h
kept-names j ds its n new (InBfsBoth k at head c body back_key d back) xs h = leaf-names j (serves ds its n new xs (InBfsBoth k at head c body back_key d back)) (InBfsBoth k at head c body back_key d back) h
kept-names j ds its n new (Return k at e) xs h = leaf-names j (serves ds its n new xs (Return k at e)) (Return k at e) h

-- rest: the body of the second loop, and the cut under a saved filter
module _ (j : ℕ) (ds : List Declaration) (some : List ℕ) (loop : Loop) (m : ℕ) (key k : Key) (at here : Place) (h : Head) (mask test : Expr) (a b rest : Stmt) (knows : Knows ds some loop) (fresh : j ≤ m) (reads : ReadsBelow j mask)
    (names : NamesBelow j (Foreach k here h test (Then a b))) (form : is_outer_body ds false loop.outer (Foreach k here h test (Then a b)) ≡ true) (names-rest : NamesBelow j rest)
    (cut : (s : Store) → looped loop key (Property loop.outer m at) (Foreach k here h test (Then a b)) s ≡ in_turn (looped loop key (Property loop.outer m at) (Foreach k here h test a)) (looped loop key (Property loop.outer m at) (Foreach k here h test rest)) s)
    (stable : is_stable loop.outer (Foreach k here h test a) mask ≡ true) where
  abbrev n : ℕ
  n = loop.outer

  abbrev whole : Stmt
  whole = Foreach k here h test (Then a b)

  abbrev first : Stmt
  first = Foreach k here h test a

  abbrev second : Stmt
  second = Foreach k here h test rest

  form-first : is_outer_body ds false n first ≡ true
  form-first =
      let its = n ∷ h.iterator ∷ [] in
      let p = both-true (is_inner_head false n h) (is_flat its true test && is_inner_body ds its true (Then a b)) form in
      let q = both-true (is_flat its true test) (is_inner_body ds its true (Then a b)) p.1 in
      let r = both-true (is_inner_body ds its true a) (is_inner_body ds its true b) q.1 in
      and-true (is_inner_head false n h) (is_flat its true test && is_inner_body ds its true a) p.0 (and-true (is_flat its true test) (is_inner_body ds its true a) q.0 r.0)

  sure : is_certain (n ∷ []) mask ≡ true
  sure = (both-true (is_certain (n ∷ []) mask) (not (is_in (touched first) n) && spares (touched first) mask) stable).0

  off : not (is_in (touched first) n) ≡ true
  off = (both-true (not (is_in (touched first) n)) (spares (touched first) mask) (both-true (is_certain (n ∷ []) mask) (not (is_in (touched first) n) && spares (touched first) mask) stable).1).0

  abbrev u : Store → Store
  u t = saved_mask j ds some loop m key at mask whole knows fresh reads names sure form t

  behind : (t : Store) (r : Result Store Fault) → looped loop key mask first (u t) ≡ r → then_with r (looped loop key (Property n m at) second) ≡ then_with r (looped loop key mask second)
  behind t (Err f) e = refl
  behind t (Ok v) e =
      filters-same loop key (Property n m at) mask second v (λ x i.
      saved-value loop key m at v x i
      ∙ ap Ok (slot-stays ds loop key mask first form-first refl (u t) v e m x off (λ z. let l = touched-below j a names.3.0 m z in omega arith))
      ∙ sym (saved-value loop key m at (u t) x i)
      ∙ mask-shown j ds some loop m key at mask whole knows fresh reads names sure form t x i
      ∙ sym (stays ds loop key mask first form-first refl (u t) v e mask x stable))

  cut-there : (t : Store) → looped loop key mask whole (u t) ≡ in_turn (looped loop key mask first) (looped loop key mask second) (u t)
  cut-there t =
      sym (filters-same loop key (Property n m at) mask whole (u t) (mask-shown j ds some loop m key at mask whole knows fresh reads names sure form t))
      ∙ cut (u t)
      ∙ ap (λ r. then_with r (looped loop key (Property n m at) second)) (filters-same loop key (Property n m at) mask first (u t) (mask-shown j ds some loop m key at mask whole knows fresh reads names sure form t))
      ∙ behind t (looped loop key mask first (u t)) refl

  masked : SameChange j (looped loop key mask whole) (in_turn (looped loop key mask first) (looped loop key mask second))
  masked =
      let names-first : NamesBelow j first = (names.0, names.1, names.2, names.3.0) in
      let names-second : NamesBelow j second = (names.0, names.1, names.2, names-rest) in
      same-by j (looped loop key mask whole) (in_turn (looped loop key mask first) (looped loop key mask second))
      (loop-same j loop key mask whole reads names)
      (same-turns j (looped loop key mask first) (looped loop key mask first) (looped loop key mask second) (looped loop key mask second) (loop-same j loop key mask first reads names-first) (loop-same j loop key mask second reads names-second))
      (λ t. (u t, mask-agrees j ds some loop m key at mask whole knows fresh reads names sure form t, cut-there t))

-- the law of inner loops that are cut under masks
pub masked-cut : MaskedInnerLoopsCut
masked-cut = λ j ds some loop m key k at here h mask test a b knows fresh reads names cut stable.
    masked j ds some loop m key k at here h mask test a b (Then (quiet ds loop.outer a) b) knows fresh reads names (both-true (is_outer_body ds false loop.outer (Foreach k here h test (Then a b))) _ cut).0
    (quiet-names j ds loop.outer a names.3.0, names.3.1) (λ s. inner-loops-cut ds some loop m key k at here h test a b s knows cut) stable

-- and of those that go on behind others
pub masked-resume : MaskedInnerLoopsResume
masked-resume = λ j ds some loop m key k at here h mask test a b knows fresh reads names cut stable.
    let its = loop.outer ∷ h.iterator ∷ [] in
    masked j ds some loop m key k at here h mask test a b (resumed ds its loop.outer a b) knows fresh reads names (both-true (is_outer_body ds false loop.outer (Foreach k here h test (Then a b))) _ cut).0
    (kept-names j ds its loop.outer false a (needs ds its loop.outer true b []) names.3.0, kept-names j ds its loop.outer true b [] names.3.1) (λ s. inner-loops-resume ds some loop m key k at here h test a b s knows cut) stable

-- an inner loop alone, under a mask
module _ (j : ℕ) (ds : List Declaration) (some : List ℕ) (loop : Loop) (m : ℕ) (key k : Key) (at here : Place) (h : Head) (mask test : Expr) (body : Stmt) (knows : Knows ds some loop) (fresh : j ≤ m) (reads : ReadsBelow j mask)
    (names : NamesBelow j (Foreach k here h test body)) (may : may_trim ds some loop.outer k here h test body ≡ true) (sure : is_certain (loop.outer ∷ []) mask ≡ true) where
  abbrev trimmed : Stmt
  trimmed = kept ds (loop.outer ∷ h.iterator ∷ []) loop.outer true body []

  form-body : is_outer_body ds false loop.outer (Foreach k here h test body) ≡ true
  form-body = (both-true (is_outer_body ds false loop.outer (Foreach k here h test body)) _ may).0

  abbrev v : Store → Store
  v t = saved_mask j ds some loop m key at mask (Foreach k here h test body) knows fresh reads names sure form-body t

  -- the law of inner loops without what nothing needs, under a mask
  trim-there : SameChange j (looped loop key mask (Foreach k here h test body)) (looped loop key mask (Foreach k here h test trimmed))
  trim-there =
      same-by j (looped loop key mask (Foreach k here h test body)) (looped loop key mask (Foreach k here h test trimmed)) (loop-same j loop key mask (Foreach k here h test body) reads names)
      (loop-same j loop key mask (Foreach k here h test trimmed) reads (names.0, names.1, names.2, kept-names j ds (loop.outer ∷ h.iterator ∷ []) loop.outer true body [] names.3))
      (λ t. (
        v t,
        mask-agrees j ds some loop m key at mask (Foreach k here h test body) knows fresh reads names sure form-body t,
        sym (filters-same loop key (Property loop.outer m at) mask (Foreach k here h test body) (v t) (mask-shown j ds some loop m key at mask (Foreach k here h test body) knows fresh reads names sure form-body t))
            ∙ inner-loops-trim ds some loop m key k at here h test body (v t) knows may ∙ filters-same loop key (Property loop.outer m at) mask (Foreach k here h test trimmed) (v t) (mask-shown j ds some loop m key at mask (Foreach k here h test body) knows fresh reads names sure form-body t),
      ))

pub masked-trim : MaskedInnerLoopsTrim
masked-trim = λ j ds some loop m key k at here h mask test body knows fresh reads names may sure. trim-there j ds some loop m key k at here h mask test body knows fresh reads names may sure
