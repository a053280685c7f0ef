-- Inner loops in slices add no level.
use Rattle.std.proofs.Common.{◌≡◌, ◌≤◌, ℕ, Bool, true, false, cond, List, [], ◌∷◌, ◌++◌, map}
use Rattle.std.specs.Prelude.{◌||◌}
use Rattle.gm_base.specs.declared.places.Place.{Place}
use Rattle.gm_ast.specs.declared.tree.Declaration.{Declaration}
use Rattle.gm_ast.specs.declared.tree.Head.{Head}
use Rattle.gm_ast.specs.declared.tree.Key.{Key}
use Rattle.gm_ast.specs.Program.{Expr, Stmt, Skip, Then, DeclareEdge, Foreach, If, Program, sequence}
use Rattle.gm_loop_laws.specs.Resumed.{is_still, serves, needs, kept, resumed}
use Rattle.gm_cut.specs.Lean.{lean_slice, lean_groups, lean_slices, lean_groups_of, lean_loop, in_lean_slices}
use Rattle.gm_cut.specs.Slices.{statements_of, is_new, goes_one_way}
use Rattle.gm_depth.specs.Depths.{all_within}
use Rattle.gm_depth.proofs.Limits.{Within, AllWithin, parts, whole}
use Rattle.gm_shallow.proofs.Statements.{Several, several-both, sequence-within}
use Rattle.gm_shallow.proofs.Loops.{loops-within}

module _ (limit : ℕ) where
  statements-within : (s : Stmt) → AllWithin limit s → Several limit (statements_of s)
  statements-within Skip h = tt
  statements-within (Then a b) h = several-both limit (statements_of a) (statements_of b) (statements-within a h.0) (statements-within b h.1)
  statements-within (If k c a b) h = ((h.0, (sequence-within limit (statements_of a) (statements-within a h.1.0), sequence-within limit (statements_of b) (statements-within b h.1.1))), tt)
  statements-within s h = (h, tt)

  module _ (ds : List Declaration) (its : List ℕ) (n : ℕ) where
    where-within : (d : Bool) (s : Stmt) → AllWithin limit s → AllWithin limit (cond d s Skip)
    where-within true s h = h
    where-within false s h = tt

    kept-within : (new : Bool) (s : Stmt) (xs : List ℕ) → AllWithin limit s → AllWithin limit (kept ds its n new s xs)
    kept-within new Skip xs h = h
    kept-within new (Then a b) xs h = (kept-within new a (needs ds its n new b xs) h.0, kept-within new b xs h.1)
    kept-within new (If k c a b) xs h = where-within (serves ds its n new xs (If k c a b)) (If k c (kept ds its n new a xs) (kept ds its n new b xs)) (h.0, (kept-within new a xs h.1.0, kept-within new b xs h.1.1))
    kept-within new (DeclareEdge x y at) xs h = h
    kept-within new s xs h = where-within (serves ds its n new xs s) s h

    slice-within : (a b : Stmt) → AllWithin limit a → AllWithin limit b → AllWithin limit (sequence (statements_of (resumed ds its n a b)))
    slice-within a b h k =
        let first = kept ds its n false a (needs ds its n true b []) in
        let second = kept ds its n true b [] in
        sequence-within limit (statements_of first ++ statements_of second)
        (several-both limit (statements_of first) (statements_of second) (statements-within first (kept-within false a (needs ds its n true b []) h)) (statements-within second (kept-within true b [] k)))

  -- each of several groups
  abbrev EachGroup : List (List Stmt) → Type 0
  EachGroup [] = Unit {0}
  EachGroup (g ∷ gs) = Several limit g × EachGroup gs

  either-group : (first second : Bool) (xs ys zs : List (List Stmt)) → EachGroup xs → EachGroup ys → EachGroup zs → EachGroup (cond first xs (cond second ys zs))
  either-group true second xs ys zs h k l = h
  either-group false true xs ys zs h k l = k
  either-group false false xs ys zs h k l = l

  module _ (ds : List Declaration) (n t : ℕ) where
    lean-within : (done group : List Stmt) → Several limit done → Several limit group → AllWithin limit (lean_slice ds n t done group)
    lean-within done group h k = slice-within ds (n ∷ t ∷ []) n (sequence done) (sequence group) (sequence-within limit done h) (sequence-within limit group k)

    groups-within : (goes : Stmt → Bool) (done group wait ss : List Stmt) → Several limit group → Several limit wait → Several limit ss → EachGroup (lean_groups ds n t goes done group wait ss)
    groups-within goes done group wait [] g w h = (several-both limit group wait g w, tt)
    groups-within goes done group wait (s ∷ ss) g w h =
        let next = wait ++ (s ∷ []) in
        let waits = several-both limit wait (s ∷ []) w (h.0, tt) in
        either-group (is_still (n ∷ t ∷ []) s) (is_new ds n t group || goes (lean_slice ds n t done (group ++ next)))
        (lean_groups ds n t goes done group next ss) (lean_groups ds n t goes done (group ++ next) [] ss) (group ∷ lean_groups ds n t goes (done ++ group) next [] ss)
        (groups-within goes done group next ss g waits h.1) (groups-within goes done (group ++ next) [] ss (several-both limit group next g waits) tt h.1) (g, groups-within goes (done ++ group) next [] ss waits tt h.1)

    slices-within : (done : List Stmt) (gs : List (List Stmt)) → Several limit done → EachGroup gs → Several limit (lean_slices ds n t done gs)
    slices-within done [] h k = tt
    slices-within done (g ∷ gs) h k = (lean-within done g h k.0, slices-within (done ++ g) gs (several-both limit done g h k.0) k.1)

  each-slice : (k j : Key) (at here : Place) (hd inner : Head) (mask test : Expr) (ss : List Stmt) → Within limit mask → Within limit test → Several limit ss
      → AllWithin limit (sequence (map (λ s. Foreach k at hd mask (Foreach j here inner test s)) ss))
  each-slice k j at here hd inner mask test [] h x g = tt
  each-slice k j at here hd inner mask test (s ∷ ss) h x g = ((h, (x, g.0)), each-slice k j at here hd inner mask test ss h x g.1)

  loop-within : (ds : List Declaration) (k : Key) (at : Place) (hd : Head) (mask : Expr) (body : Stmt) → Within limit mask → AllWithin limit body → AllWithin limit (lean_loop ds k at hd mask body)
  loop-within ds k at hd mask (Foreach j here inner test body) h x = by (goes_one_way ds hd.iterator inner test body)
    where
      n : ℕ
      n = hd.iterator

      t : ℕ
      t = inner.iterator

      some : List (List Stmt)
      some = lean_groups_of ds n inner test body

      all : Several limit (lean_slices ds n t [] some)
      all = slices-within ds n t [] some tt (groups-within ds n t (goes_one_way ds n inner test) [] [] [] (statements_of body) tt tt (statements-within body x.1))

      by : (one : Bool) → AllWithin limit (cond one (Foreach k at hd mask (Foreach j here inner test body)) (sequence (map (λ s. Foreach k at hd mask (Foreach j here inner test s)) (lean_slices ds n t [] some))))
      by true = (h, x)
      by false = each-slice k j at here hd inner mask test (lean_slices ds n t [] some) h x.0 all
  loop-within ds k at hd mask body h x = (h, x)

pub slices-keep : (n : ℕ) (p : Program) → 0 ≤ n → all_within n p.body ≡ true → all_within n (in_lean_slices p).body ≡ true
slices-keep n p least h = whole n (in_lean_slices p).body (loops-within (lean_loop p.declarations) n (loop-within n p.declarations) p.body (parts n p.body h))
