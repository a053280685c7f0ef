-- The names by which the targets of one reduction are told apart.
use Rattle.std.specs.Prelude.{◌≡◌, ℕ, Bool, true, not, ◌&&◌, List, [], ◌∷◌, ◌++◌, Option, Some, None, bytes_eq}
use Rattle.std.specs.Borrow.{Bor}
use Rattle.std.specs.BTreeSet.{BTreeSet}
use Rattle.std.specs.List.{list_any}
use Rattle.gm_ast.specs.Surface.{SurfaceName, SurfaceTarget}
use Rattle.gm_ast.specs.Statements.{goes_with, is_repeated}

-- the name of a property, or of a target that has none
abbrev pub name_or : SurfaceName → Option SurfaceName → List ℕ
name_or x None = x.text
name_or x (Some p) = p.text

-- the name by which a target differs from others that go with the same first one
abbrev pub own_name : SurfaceTarget → List ℕ
own_name t = name_or t.owner t.property

-- whether a set has a name
abbrev pub has_name : BTreeSet (Bor (List ℕ)) → List ℕ → Bool
has_name names text = list_any (λ k. bytes_eq text k.now) names.keys

-- a set has the own names of those of some targets that go with the first
abbrev pub HasNames : SurfaceTarget → BTreeSet (Bor (List ℕ)) → List SurfaceTarget → Type 0
HasNames first names seen = (t : SurfaceTarget) → goes_with first t ≡ true → has_name names (own_name t) ≡ is_repeated t seen

-- the names of those before tell whether one more target belongs with them, and it is among them afterwards
abbrev pub Tells : SurfaceTarget → BTreeSet (Bor (List ℕ)) → BTreeSet (Bor (List ℕ)) → SurfaceTarget → Bool → Type 0
Tells first old new t fits =
    (seen : List SurfaceTarget) → HasNames first old seen
    → (fits ≡ (goes_with first t && not (is_repeated t seen))) × HasNames first new (seen ++ (t ∷ []))
