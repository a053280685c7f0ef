-- Programs: whether they break a rule of types, have races, are canonical, and share as `is_race_free` says.
use Rattle.std.proofs.Common.{refl}
use Rattle.std.specs.Prelude.{◌≡◌, ℕ, Bool, true, false, List, [], ◌∷◌, Option, Some, None, codes, pos}
use Rattle.gm_base.specs.declared.places.Place.{Place}
use Rattle.gm_base.specs.declared.rules.Refusal.{Refusal}
use Rattle.gm_value.specs.declared.reductions.Reduce.TheVariants.{Max}
use Rattle.gm_ast.specs.declared.surface.TypeWord.TheVariants as Word
use Rattle.gm_ast.specs.declared.surface.Bearer.TheVariants.{Nodes}
use Rattle.gm_ast.specs.declared.surface.Range.TheVariants as Range
use Rattle.gm_ast.specs.declared.surface.LoopWord.TheVariants as Loop
use Rattle.gm_ast.specs.declared.surface.ReductionWord.TheVariants.{Sum}
use Rattle.gm_ast.specs.Surface.{SurfaceName, SurfaceType, Plain, Property, SurfaceTarget, Always, Number, Member, Named, Reduction, SurfaceStmt, SurfaceProcedure, Skip, Then, DeclareAs, Assign, Combine, Loop, InBfs}
use Rattle.gm_ast.specs.Program.{Program}
use Rattle.gm_ast.specs.Races.{races}
use Rattle.gm_ast.specs.Canonical.{uncanonical}
use Rattle.gm_ast.specs.Procedures.{elaborated}
use Rattle.gm_forms.specs.Sharing.{is_race_free}

-- places ascend along the text
abbrev at : ℕ → Place
at n = record { line = 1; col = n }

abbrev name : List ℕ → ℕ → SurfaceName
name text n = record { text = text; place = at n }

abbrev whole : SurfaceType
whole = Plain (at 1) Word.Int None

abbrev of_nodes : SurfaceType
of_nodes = Property (at 1) Nodes whole None

-- a procedure over a graph G from a node s, with the outputs a and b
abbrev procedure : SurfaceStmt → SurfaceProcedure
procedure body = record {
  name = name (codes "f") 1;
  inputs = record { names = name (codes "G") 1 ∷ []; vtype = Plain (at 1) Word.Graph None } ∷ (record { names = name (codes "s") 1 ∷ []; vtype = Plain (at 1) Word.Node None } ∷ []);
  outputs = record { names = name (codes "a") 1 ∷ (name (codes "b") 1 ∷ []); vtype = of_nodes } ∷ [];
  result = None;
  body = body;
}

abbrev is_empty : List Refusal → Bool
is_empty [] = true
is_empty (x ∷ xs) = false

-- of a procedure's program: whether its types, its races and its form break no rule, and whether it is free of races for the passes
abbrev told_of : Option Program → List Bool
told_of None = []
told_of (Some p) = is_empty (races p) ∷ (is_empty (uncanonical p) ∷ (is_race_free p ∷ []))

abbrev verdict : SurfaceStmt → List Bool
verdict body = let e = elaborated (procedure body) in is_empty e.broken ∷ told_of e.part

abbrev through : List ℕ → List ℕ → ℕ → SurfaceTarget
through x p n = record { owner = name x n; property = Some (name p n) }

abbrev alone : List ℕ → ℕ → SurfaceTarget
alone x n = record { owner = name x n; property = None }

-- InBFS (v: G.Nodes From s) { v.a = Sum (w: v.UpNbrs) { w.a }; }
-- what a search reads at the level before, it may change at its own
level_read : verdict (InBfs (at 2) (name (codes "v") 2) (name (codes "G") 2) (name (codes "s") 2) Always
    (Then (Assign (through (codes "v") (codes "a") 3) (at 4)
    (Reduction (at 5) Sum (record { iterator = name (codes "w") 6; owner = name (codes "v") 7; range = Range.UpNbrs }) Always (Member (name (codes "w") 8) (name (codes "a") 9)) (at 10))) Skip))
    ≡ true ∷ true ∷ true ∷ true ∷ []
level_read = refl

-- Int t = 0; Foreach (n: G.Nodes) { Int l = 0; Foreach (m: n.Nbrs) { <t, l> max= <1, 2>; } n.b = l; }
-- a tuple of scalars that are declared inside different loops
mixed_depths : verdict (Then (DeclareAs whole (name (codes "t") 2) (at 2) (Number (at 2) (pos 0)))
    (Then (Loop (at 3) Loop.Foreach (record { iterator = name (codes "n") 3; owner = name (codes "G") 3; range = Range.Nodes }) Always
    (Then (DeclareAs whole (name (codes "l") 4) (at 4) (Number (at 4) (pos 0)))
    (Then (Loop (at 5) Loop.Foreach (record { iterator = name (codes "m") 5; owner = name (codes "n") 5; range = Range.Nbrs }) Always
    (Then (Combine (alone (codes "t") 6 ∷ (alone (codes "l") 7 ∷ [])) Max (at 8) (Number (at 9) (pos 1) ∷ (Number (at 10) (pos 2) ∷ [])) None) Skip))
    (Then (Assign (through (codes "n") (codes "b") 11) (at 12) (Named (name (codes "l") 13))) Skip)))) Skip))
    ≡ true ∷ true ∷ true ∷ true ∷ []
mixed_depths = refl

-- Foreach (n: G.Nodes) { Foreach (m: n.Nbrs) { m.a max= s.a; } }
-- a read through a node of the procedure is no access; that it breaks a rule is left to canonical form
read_through_a_node : verdict (Then (Loop (at 3) Loop.Foreach (record { iterator = name (codes "n") 3; owner = name (codes "G") 3; range = Range.Nodes }) Always
    (Then (Loop (at 5) Loop.Foreach (record { iterator = name (codes "m") 5; owner = name (codes "n") 5; range = Range.Nbrs }) Always
    (Then (Combine (through (codes "m") (codes "a") 6 ∷ []) Max (at 8) (Member (name (codes "s") 9) (name (codes "a") 9) ∷ []) None) Skip)) Skip)) Skip)
    ≡ true ∷ true ∷ false ∷ false ∷ []
read_through_a_node = refl

-- Int t = 0; Foreach (n: G.Nodes) { t max= 1; t max= 2; } as a block whose rest is no block, which no text spells
-- the second statement has the number of the loop, and so its number does not rise
rest_is_no_block : verdict (Then (DeclareAs whole (name (codes "t") 2) (at 2) (Number (at 2) (pos 0)))
    (Then (Loop (at 3) Loop.Foreach (record { iterator = name (codes "n") 3; owner = name (codes "G") 3; range = Range.Nodes }) Always
    (Then (Combine (alone (codes "t") 4 ∷ []) Max (at 5) (Number (at 6) (pos 1) ∷ []) None) (Combine (alone (codes "t") 7 ∷ []) Max (at 8) (Number (at 9) (pos 2) ∷ []) None))) Skip))
    ≡ true ∷ true ∷ true ∷ false ∷ []
rest_is_no_block = refl
