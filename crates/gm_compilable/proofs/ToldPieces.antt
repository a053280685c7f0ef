-- The passes behind those that prepare loops keep what may be told: bodies in pieces, statements apart, and slices.
use Rattle.std.proofs.Common.{◌≤◌, ◌+◌, ℕ, suc, Bool, true, false, cond, List, [], ◌∷◌, ◌++◌, map, arith}
use Rattle.std.specs.Prelude.{not, ◌||◌}
use Rattle.gm_base.specs.declared.places.Place.{Place}
use Rattle.gm_value.specs.declared.operations.Op1.TheVariants.{Not}
use Rattle.gm_ast.specs.declared.tree.Declaration.{Declaration}
use Rattle.gm_ast.specs.declared.tree.Head.{Head}
use Rattle.gm_ast.specs.declared.tree.Key.{Key}
use Rattle.gm_ast.specs.Program.{Expr, Var, Unary, Both, Stmt, Skip, Then, DeclareEdge, Foreach, If, sequence}
use Rattle.gm_forms.specs.Cut.{is_own_loop}
use Rattle.gm_loop_laws.specs.Pieces.{Piece, piece, pieces_of}
use Rattle.gm_loop_laws.specs.Resumed.{is_still, serves, needs, kept, resumed}
use Rattle.gm_dissect.specs.Loops.{each_loop}
use Rattle.gm_cut.specs.Parts.{parts_of, piece_loop, parted_loop}
use Rattle.gm_cut.specs.Runs.{before, placed, gathered, joins_run, with_runs}
use Rattle.gm_cut.specs.Lean.{lean_slice, lean_groups, lean_slices, lean_groups_of, lean_loop}
use Rattle.gm_cut.specs.Slices.{statements_of, is_new, goes_one_way}
use Rattle.gm_parting.specs.Apart.{under, apart, apart_loop}
use Rattle.gm_parting.specs.Numbers.{count_ifs}
use Rattle.gm_compilable.proofs.Telling.{Tells, Body, Bodies, bodies-both, sequence-body, Phase, loops-tell}

module _ (told : ℕ → Type 0) where
  -- ---- runs of own statements in blocks

  module _ (own : Stmt → Bool) (joins : List Stmt → Stmt → Bool) where
    before-tells : (run : List Stmt) (s : Stmt) → Bodies told run → Body told s → Body told (before own joins run s)
    before-tells [] s h k = k
    before-tells (x ∷ xs) s h k = (sequence-body told (x ∷ xs) h, k)

    placed-tells : (joined alone : Bool) (run : List Stmt) (s t : Stmt) (rest : List Stmt → Stmt) → Bodies told run → Body told s → Body told t → ((r : List Stmt) → Bodies told r → Body told (rest r)) → Body told (placed own joins joined alone run s t rest)
    placed-tells true alone run s t rest h k l g = g (run ++ (s ∷ [])) (bodies-both told run (s ∷ []) h (k, tt))
    placed-tells false true run s t rest h k l g = before-tells run (rest (s ∷ [])) h (g (s ∷ []) (k, tt))
    placed-tells false false run s t rest h k l g = before-tells run (Then t (rest [])) h (l, g [] tt)

    gathered-tells : (s : Stmt) (run : List Stmt) (rest : List Stmt → Stmt) → Body told s → Bodies told run → ((r : List Stmt) → Bodies told r → Body told (rest r)) → Body told (gathered own joins s run rest)
    gathered-tells Skip run rest h k g = g run k
    gathered-tells (Then a b) run rest h k g = gathered-tells a run (λ r. gathered own joins b r rest) h.0 k (λ r l. gathered-tells b r rest h.1 l g)
    gathered-tells (If key c a b) run rest h k g =
        placed-tells (joins run (If key c a b)) (own (If key c a b)) run (If key c a b) (If key c (gathered own joins a [] sequence) (gathered own joins b [] sequence)) rest k h
        (h.0, (gathered-tells a [] sequence h.1.0 tt (sequence-body told), gathered-tells b [] sequence h.1.1 tt (sequence-body told))) g
    gathered-tells s run rest h k g = placed-tells (joins run s) (own s) run s s rest k h h g

  runs-tell : (i : ℕ) (body : Stmt) → Body told body → Body told (with_runs i body)
  runs-tell i body h = gathered-tells (is_own_loop i) (joins_run i) body [] sequence h tt (sequence-body told)

  -- ---- pieces

  abbrev EachPiece : List Piece → Type 0
  EachPiece [] = Unit {0}
  EachPiece (p ∷ ps) = (Tells told p.mask × Body told p.part) × EachPiece ps

  pieces-both : (xs ys : List Piece) → EachPiece xs → EachPiece ys → EachPiece (xs ++ ys)
  pieces-both [] ys h k = k
  pieces-both (x ∷ xs) ys h k = (h.0, pieces-both xs ys h.1 k)

  either-piece : (first : Bool) (xs ys : List Piece) → EachPiece xs → EachPiece ys → EachPiece (cond first xs ys)
  either-piece true xs ys h k = h
  either-piece false xs ys h k = k

  pieces-tell : (whole : Stmt → Bool) (place : Place) (mask : Expr) (s : Stmt) → Tells told mask → Body told s → EachPiece (pieces_of whole place mask s)
  pieces-tell whole place mask Skip h x = tt
  pieces-tell whole place mask (Then a b) h x =
      either-piece (whole (Then a b)) (piece mask (Then a b)) (pieces_of whole place mask a ++ pieces_of whole place mask b) ((h, x), tt)
      (pieces-both (pieces_of whole place mask a) (pieces_of whole place mask b) (pieces-tell whole place mask a h x.0) (pieces-tell whole place mask b h x.1))
  pieces-tell whole place mask (If key c a b) h x =
      let one-side = Both mask c in
      let other-side = Both mask (Unary Not place c) in
      either-piece (whole (If key c a b)) (piece mask (If key c a b)) (pieces_of whole place one-side a ++ pieces_of whole place other-side b) ((h, x), tt)
      (pieces-both (pieces_of whole place one-side a) (pieces_of whole place other-side b) (pieces-tell whole place one-side a (h, x.0) x.1.0) (pieces-tell whole place other-side b (h, x.0) x.1.1))
  pieces-tell whole place mask s h x = ((h, x), tt)

  -- ---- statements apart

  module _ (bound : ℕ) (far : (x : ℕ) → bound ≤ x → told x) where
    under-tells : (k : Key) (c : Expr) (s : Stmt) → Tells told c → Body told s → Body told (under k c s)
    under-tells k c Skip w h = tt
    under-tells k c (Then a b) w h = (under-tells k c a w h.0, under-tells k c b w h.1)
    under-tells k c s w h = (w, (h, tt))

    apart-tells : (at : Place) (y : ℕ) (s : Stmt) → bound ≤ y → Body told s → Body told (apart at y s)
    apart-tells at y (Then a b) low h = (apart-tells at y a low h.0, apart-tells at (y + count_ifs a) b (omega (arith, low)) h.1)
    apart-tells at y (If k c a b) low h = (
      h.0,
      (
        under-tells k (Var y at) (apart at (suc y) a) (far y low) (apart-tells at (suc y) a (omega (arith, low)) h.1.0),
        (under-tells k (Unary Not at (Var y at)) (apart at (suc y + count_ifs a) b) (far y low) (apart-tells at (suc y + count_ifs a) b (omega (arith, low)) h.1.1), tt),
      ),
    )
    apart-tells at y s low h = h

  -- ---- slices

  statements-tell : (s : Stmt) → Body told s → Bodies told (statements_of s)
  statements-tell Skip h = tt
  statements-tell (Then a b) h = bodies-both told (statements_of a) (statements_of b) (statements-tell a h.0) (statements-tell b h.1)
  statements-tell (If k c a b) h = ((h.0, (sequence-body told (statements_of a) (statements-tell a h.1.0), sequence-body told (statements_of b) (statements-tell b h.1.1))), tt)
  statements-tell s h = (h, tt)

  unless-tells : (serves : Bool) (s : Stmt) → Body told s → Body told (cond serves s Skip)
  unless-tells true s h = h
  unless-tells false s h = tt

  -- each of several groups
  abbrev EachGroup : List (List Stmt) → Type 0
  EachGroup [] = Unit {0}
  EachGroup (g ∷ gs) = Bodies told g × EachGroup gs

  either-group : (first second : Bool) (xs ys zs : List (List Stmt)) → EachGroup xs → EachGroup ys → EachGroup zs → EachGroup (cond first xs (cond second ys zs))
  either-group true second xs ys zs h k l = h
  either-group false true xs ys zs h k l = k
  either-group false false xs ys zs h k l = l

  module _ (ds : List Declaration) (n t : ℕ) where
    abbrev its : List ℕ
    its = n ∷ t ∷ []

    kept-tells : (new : Bool) (s : Stmt) (xs : List ℕ) → Body told s → Body told (kept ds its n new s xs)
    kept-tells new Skip xs h = tt
    kept-tells new (Then a b) xs h = (kept-tells new a (needs ds its n new b xs) h.0, kept-tells new b xs h.1)
    kept-tells new (DeclareEdge x y at) xs h = h
    kept-tells new (If k c a b) xs h =
        unless-tells (serves ds its n new xs (If k c a b)) (If k c (kept ds its n new a xs) (kept ds its n new b xs)) (h.0, (kept-tells new a xs h.1.0, kept-tells new b xs h.1.1))
    kept-tells new s xs h = unless-tells (serves ds its n new xs s) s h

    slice-tells : (done group : List Stmt) → Bodies told done → Bodies told group → Body told (lean_slice ds n t done group)
    slice-tells done group h k =
        let a = sequence done in
        let b = sequence group in
        let all = resumed ds its n a b in
        sequence-body told (statements_of all) (statements-tell all (kept-tells false a (needs ds its n true b []) (sequence-body told done h), kept-tells true b [] (sequence-body told group k)))

    groups-tell : (goes : Stmt → Bool) (done group wait ss : List Stmt) → Bodies told group → Bodies told wait → Bodies told ss → EachGroup (lean_groups ds n t goes done group wait ss)
    groups-tell goes done group wait [] g w h = (bodies-both told group wait g w, tt)
    groups-tell goes done group wait (s ∷ ss) g w h =
        let next = wait ++ (s ∷ []) in
        let waits = bodies-both told wait (s ∷ []) w (h.0, tt) in
        either-group (is_still its s) (is_new ds n t group || goes (lean_slice ds n t done (group ++ next)))
        (lean_groups ds n t goes done group next ss) (lean_groups ds n t goes done (group ++ next) [] ss) (group ∷ lean_groups ds n t goes (done ++ group) next [] ss)
        (groups-tell goes done group next ss g waits h.1) (groups-tell goes done (group ++ next) [] ss (bodies-both told group next g waits) tt h.1) (g, groups-tell goes (done ++ group) next [] ss waits tt h.1)

    slices-tell : (done : List Stmt) (gs : List (List Stmt)) → Bodies told done → EachGroup gs → Bodies told (lean_slices ds n t done gs)
    slices-tell done [] h k = tt
    slices-tell done (g ∷ gs) h k = (slice-tells done g h k.0, slices-tell (done ++ g) gs (bodies-both told done g h k.0) k.1)

-- ---- loops

module _ (fors out : ℕ → Type 0) (inn : ℕ → ℕ → Type 0) where
  each-piece : (k : Key) (at : Place) (hd : Head) (ps : List Piece) → EachPiece (inn hd.iterator) ps → Phase fors out inn (sequence (map (piece_loop k at hd) ps))
  each-piece k at hd [] h = tt
  each-piece k at hd (p ∷ ps) h = (h.0, each-piece k at hd ps h.1)

  pub pieces-told : (s : Stmt) → Phase fors out inn s → Phase fors out inn (each_loop parted_loop s)
  pieces-told s h = loops-tell fors out inn parted_loop one s h
    where
      one : (k : Key) (at : Place) (hd : Head) (mask : Expr) (body : Stmt) → Tells (inn hd.iterator) mask → Body (inn hd.iterator) body → Phase fors out inn (parted_loop k at hd mask body)
      one k at hd mask body h x = by (is_own_loop hd.iterator body)
        where
          by : (own : Bool) → Phase fors out inn (cond own (Foreach k at hd mask body) (sequence (map (piece_loop k at hd) (parts_of hd.iterator at mask body))))
          by true = (h, x)
          by false =
              let i = hd.iterator in
              each-piece k at hd (parts_of i at mask body) (pieces-tell (inn i) (is_own_loop i) at mask (with_runs i body) h (runs-tell (inn i) i body x))

  pub apart-told : (ds : List Declaration) (bound first : ℕ) → ((n x : ℕ) → bound ≤ x → inn n x) → bound ≤ first → (s : Stmt) → Phase fors out inn s → Phase fors out inn (each_loop (apart_loop ds first) s)
  apart-told ds bound first far low s h = loops-tell fors out inn (apart_loop ds first) one s h
    where
      one : (k : Key) (at : Place) (hd : Head) (mask : Expr) (body : Stmt) → Tells (inn hd.iterator) mask → Body (inn hd.iterator) body → Phase fors out inn (apart_loop ds first k at hd mask body)
      one k at hd mask (Foreach j here inner test body) h x = (h, (x.0, by (goes_one_way ds hd.iterator inner test body)))
        where
          by : (o : Bool) → Body (inn hd.iterator) (cond o body (apart here first body))
          by true = x.1
          by false = apart-tells (inn hd.iterator) bound (far hd.iterator) here first body low x.1
      one k at hd mask body h x = (h, x)

  each-slice : (k j : Key) (at here : Place) (hd inner : Head) (mask test : Expr) (ss : List Stmt) → Tells (inn hd.iterator) mask → Tells (inn hd.iterator) test → Bodies (inn hd.iterator) ss
      → Phase fors out inn (sequence (map (λ s. Foreach k at hd mask (Foreach j here inner test s)) ss))
  each-slice k j at here hd inner mask test [] h x g = tt
  each-slice k j at here hd inner mask test (s ∷ ss) h x g = ((h, (x, g.0)), each-slice k j at here hd inner mask test ss h x g.1)

  pub slices-told : (ds : List Declaration) (s : Stmt) → Phase fors out inn s → Phase fors out inn (each_loop (lean_loop ds) s)
  slices-told ds s h = loops-tell fors out inn (lean_loop ds) one s h
    where
      one : (k : Key) (at : Place) (hd : Head) (mask : Expr) (body : Stmt) → Tells (inn hd.iterator) mask → Body (inn hd.iterator) body → Phase fors out inn (lean_loop ds k at hd mask body)
      one k at hd mask (Foreach j here inner test body) h x = by (goes_one_way ds hd.iterator inner test body)
        where
          by : (one : Bool)
              → Phase fors out inn (cond one (Foreach k at hd mask (Foreach j here inner test body)) (sequence (map (λ s. Foreach k at hd mask (Foreach j here inner test s)) (lean_slices ds hd.iterator inner.iterator [] (lean_groups_of ds hd.iterator inner test body)))))
          by true = (h, x)
          by false =
              let n = hd.iterator in
              let t = inner.iterator in
              let some = lean_groups_of ds n inner test body in
              each-slice k j at here hd inner mask test (lean_slices ds n t [] some) h x.0
              (slices-tell (inn n) ds n t [] some tt (groups-tell (inn n) ds n t (goes_one_way ds n inner test) [] [] [] (statements_of body) tt tt (statements-tell (inn n) body x.1)))
      one k at hd mask body h x = (h, x)
