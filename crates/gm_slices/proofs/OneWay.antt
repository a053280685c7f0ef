-- The inner loops of a program whose inner loops are in slices go one way where each slice does.
use Rattle.std.proofs.Common.{◌≡◌, ℕ, Bool, true, false, List, [], ◌∷◌, cond, map, refl, ap, ◌∙◌}
use Rattle.std.specs.Prelude.{◌&&◌, ◌||◌}
use Rattle.std.specs.List.{list_all}
use Rattle.gm_base.specs.declared.places.Place.{Place}
use Rattle.gm_ast.specs.declared.tree.Declaration.{Declaration}
use Rattle.gm_ast.specs.declared.tree.Head.{Head}
use Rattle.gm_ast.specs.declared.tree.Key.{Key}
use Rattle.gm_ast.specs.Program.{Expr, Stmt, Skip, Then, Foreach, For, If, While, Do, Program, sequence}
use Rattle.gm_dissect.specs.Loops.{each_loop}
use Rattle.gm_cut.specs.Lean.{has_slices_that_go, in_lean_slices, lean_groups_of, lean_loop, lean_slices, slices_go}
use Rattle.gm_cut.specs.Parts.{each_passes}
use Rattle.gm_cut.specs.Slices.{goes_one_way}
use Rattle.gm_slices.specs.OneWay.{goes_within, has_loops_of_one_way, inner_loop_goes}

pub within-block : (ds : List Declaration) (n : ℕ) (xs : List Stmt) → true ≡ goes_within ds n (sequence xs)
within-block ds n [] = refl
within-block ds n (x ∷ xs) = refl

module _ (ds : List Declaration) where
  abbrev passes : Stmt → Bool
  passes s = each_passes (inner_loop_goes ds) s

  -- the loops of slices
  each-slice : (k j : Key) (at here : Place) (h inner : Head) (mask test : Expr) (ss : List Stmt) → passes (sequence (map (λ s. Foreach k at h mask (Foreach j here inner test s)) ss)) ≡ list_all (goes_one_way ds h.iterator inner test) ss
  each-slice k j at here h inner mask test [] = refl
  each-slice k j at here h inner mask test (s ∷ ss) = ap (λ b. goes_one_way ds h.iterator inner test s && b) (each-slice k j at here h inner mask test ss)

  either-way : (o b : Bool) (s t : Stmt) → passes s ≡ o → passes t ≡ b → passes (cond o s t) ≡ o || b
  either-way true b s t e f = e
  either-way false b s t e f = f

  loop-same : (k : Key) (at : Place) (h : Head) (mask : Expr) (body : Stmt) → passes (lean_loop ds k at h mask body) ≡ slices_go ds k at h mask body
  loop-same k at h mask (Foreach j here inner test body) =
      let slices = lean_slices ds h.iterator inner.iterator [] (lean_groups_of ds h.iterator inner test body) in
      either-way (goes_one_way ds h.iterator inner test body) (list_all (goes_one_way ds h.iterator inner test) slices) (Foreach k at h mask (Foreach j here inner test body))
      (sequence (map (λ s. Foreach k at h mask (Foreach j here inner test s)) slices)) refl (each-slice k j at here h inner mask test slices)
  loop-same k at h mask body = refl

  phase-same : (s : Stmt) → passes (each_loop (lean_loop ds) s) ≡ each_passes (slices_go ds) s
  phase-same (Then a b) = ap (λ x. x && passes (each_loop (lean_loop ds) b)) (phase-same a) ∙ ap (λ x. each_passes (slices_go ds) a && x) (phase-same b)
  phase-same (Foreach k at h mask body) = loop-same k at h mask body
  phase-same (For k at h test body) = phase-same body
  phase-same (If k c a b) = ap (λ x. x && passes (each_loop (lean_loop ds) b)) (phase-same a) ∙ ap (λ x. each_passes (slices_go ds) a && x) (phase-same b)
  phase-same (While k at c body) = phase-same body
  phase-same (Do k at body c) = phase-same body
  phase-same s = refl

pub slices-seen : (p : Program) → has_loops_of_one_way (in_lean_slices p) ≡ has_slices_that_go p
slices-seen p = phase-same p.declarations p.body
