-- The reports of observers, one after another.
use Rattle.std.proofs.Common.{◌≡◌, ℕ, List, [], ◌∷◌, ◌++◌, map, refl, ap}
use Rattle.std.specs.List.{flat_map}
use Rattle.gm_observe.specs.Audience.{reports}
use Rattle.gm_observe.specs.declared.notes.Note.{Note}

-- each reports in its way, of what it holds
pub reports-map : {X : Type 0} (way : X → List Note → List ℕ) (seen : X → List Note) (observers : List X)
    → reports (map way observers) (map seen observers) ≡ flat_map (λ o. way o (seen o)) observers
reports-map way seen [] = refl
reports-map way seen (o ∷ observers) = ap (λ text. way o (seen o) ++ text) (reports-map way seen observers)
