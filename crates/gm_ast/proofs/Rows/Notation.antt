-- Short forms for the procedures of rows, and their verdict.
use Rattle.std.specs.Prelude.{ℕ, List, Option}
use Rattle.gm_base.specs.declared.places.Place.{Place}
use Rattle.gm_base.specs.declared.rules.Rule.{Rule}
use Rattle.gm_base.specs.declared.rules.Refusal.{Refusal}
use Rattle.gm_base.specs.Rules.{broken_at, least}
use Rattle.gm_ast.specs.declared.surface.Range.{Range}
use Rattle.gm_ast.specs.Surface.{SurfaceName, SurfaceTarget, SurfaceHead, SurfaceGroup, SurfaceType, SurfaceStmt, SurfaceProcedure}
use Rattle.gm_ast.specs.Procedures.{elaborated}

-- the place of a line and a column
abbrev pub at : ℕ → ℕ → Place
at l c = record { line = l; col = c }

-- a name with its line and column
abbrev pub name : List ℕ → ℕ → ℕ → SurfaceName
name text l c = record { text = text; place = at l c }

-- the left side of an assignment
abbrev pub target : SurfaceName → Option SurfaceName → SurfaceTarget
target x p = record { owner = x; property = p }

-- what a loop runs over
abbrev pub head : SurfaceName → SurfaceName → Range → SurfaceHead
head i x r = record { iterator = i; owner = x; range = r }

-- parameters of one type
abbrev pub group : List SurfaceName → SurfaceType → SurfaceGroup
group xs t = record { names = xs; vtype = t }

-- a procedure
abbrev pub procedure : SurfaceName → List SurfaceGroup → List SurfaceGroup → Option SurfaceType → SurfaceStmt → SurfaceProcedure
procedure x ins outs t body = record { name = x; inputs = ins; outputs = outs; result = t; body = body }

-- the refusal of a procedure, if any of its types breaks a rule
abbrev pub verdict : SurfaceProcedure → Option Refusal
verdict p = least (elaborated p).broken

-- a rule that is broken at a line and a column
abbrev pub refused_at : Rule → ℕ → ℕ → Refusal
refused_at r l c = broken_at r (at l c)
