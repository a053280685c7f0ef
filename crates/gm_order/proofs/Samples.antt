-- Two texts, of which the first has a total at its word, before what it is made of: that of a count, which cannot fault.
use Rattle.std.proofs.Common.{◌≡◌, ℕ, pos, true, [], ◌∷◌, refl, Some, None}
use Rattle.gm_base.specs.declared.places.Place.{Place}
use Rattle.gm_value.specs.declared.operations.Op2.TheVariants.{Div, Gt}
use Rattle.gm_ast.specs.declared.surface.TypeWord.TheVariants as types
use Rattle.gm_ast.specs.declared.surface.Bearer.TheVariants as bearers
use Rattle.gm_ast.specs.declared.surface.Infix.TheVariants.{Op}
use Rattle.gm_ast.specs.declared.surface.Range.TheVariants as ranges
use Rattle.gm_ast.specs.declared.surface.LoopWord.TheVariants as loops
use Rattle.gm_ast.specs.declared.surface.ReductionWord.TheVariants as words
use Rattle.gm_ast.specs.Surface as S
use Rattle.gm_ast.specs.Surface.{SurfaceName, SurfaceType, SurfaceHead, SurfaceExpr, SurfaceProcedure, sequence}
use Rattle.gm_ast.specs.Procedures.{elaborated}
use Rattle.gm_ast.specs.Races.{races}
use Rattle.gm_ast.specs.Canonical.{uncanonical}
use Rattle.gm_forms.specs.Order.{is_ordered}
use Rattle.gm_ready.proofs.Judging.{IfPart}
use Rattle.gm_order.specs.Places.{ascend, places_of_procedure}

at : ℕ → ℕ → Place
at line col = record { line = line; col = col }

name : ℕ → ℕ → ℕ → SurfaceName
unfolding at
name letter line col = record { text = letter ∷ []; place = at line col }

-- N_P<Int>(G)
ints : ℕ → ℕ → SurfaceType
unfolding at
ints line col = S.Property (at line col) bearers.Nodes (S.Plain (at line (col)) types.Int None) None

-- 1 / t.v > 0, from a column of the third line on
fails : ℕ → SurfaceExpr
unfolding at name
fails col = S.Infixed (at 3 24) (Op Gt) (S.Infixed (at 3 18) (Op Div) (S.Number (at 3 17) (pos 1)) (S.Member (name 116 3 19) (name 118 3 20))) (S.Number (at 3 25) (pos 0))

-- Procedure f(G: Graph, v: N_P<Int>; o: N_P<Int>) {
--   Foreach (n: G.Nodes)
--     n.o = COUNT; }
with_value : SurfaceExpr → SurfaceProcedure
unfolding at name ints
with_value e = record {
  name = name 102 1 11;
  inputs = record { names = name 71 1 13 ∷ []; vtype = S.Plain (at 1 16) types.Graph None } ∷ (record { names = name 118 1 23 ∷ []; vtype = ints 1 26 } ∷ []);
  outputs = record { names = name 111 1 36 ∷ []; vtype = ints 1 39 } ∷ [];
  result = None;
  body = sequence (S.Loop (at 2 3) loops.Foreach (record { iterator = name 110 2 12; owner = name 71 2 15; range = ranges.Nodes }) S.Always
      (S.Assign (record { owner = name 110 3 1; property = Some (name 111 3 3) }) (at 3 5) e) ∷ []);
}

neighbours : SurfaceHead
unfolding at name
neighbours = record { iterator = name 116 3 13; owner = name 110 3 14; range = ranges.Nbrs }

-- Count(t: n.Nbrs)(1 / t.v > 0)
bare : SurfaceProcedure
unfolding at name ints fails with_value neighbours
bare = with_value (S.Reduction (at 3 7) words.Count neighbours (fails 16) S.Always (at 3 7))

-- Count(t: n.Nbrs){1 / t.v > 0}
braced : SurfaceProcedure
unfolding at name ints fails with_value neighbours
braced = with_value (S.Reduction (at 3 7) words.Count neighbours S.Always (fails 16) (at 3 30))

bare-stands : ((elaborated bare).broken ≡ []) × (ascend (places_of_procedure bare) ≡ true)
unfolding at name ints fails with_value neighbours bare
bare-stands = (refl, refl)

-- both are in order
bare-ordered : IfPart (λ p. (races p ≡ []) × (uncanonical p ≡ []) × (is_ordered p ≡ true)) (elaborated bare).part
unfolding at name ints fails with_value neighbours bare
bare-ordered = (refl, refl, refl)

braced-ordered : IfPart (λ p. (races p ≡ []) × (uncanonical p ≡ []) × (is_ordered p ≡ true)) (elaborated braced).part
unfolding at name ints fails with_value neighbours braced
braced-ordered = (refl, refl, refl)
