-- Totals of the code beside exact totals.
use Rattle.std.specs.Prelude.{⊤, ℕ, nat_eq, ℤ, Option, Some, None, List, [], ◌∷◌, if◌then◌else◌}
use Rattle.gm_value.specs.declared.reductions.Reduce.{Reduce}
use Rattle.gm_value.specs.declared.totals.Total.{Total}
use Rattle.gm_value.specs.Totals.{Shows}
use Rattle.gm_machine.specs.Combining.{more_exact}

-- a total of the code, if there is one, shows an exact total, if there is one: there is none where there is none
abbrev pub ShowsTotal : Reduce → Option Total → Option ℤ → Type 0
ShowsTotal r None None = ⊤
ShowsTotal r None (Some exact) = ⊥
ShowsTotal r (Some t) None = ⊥
ShowsTotal r (Some t) (Some exact) = Shows r t exact

-- the exact total at a place after one more number came to a place
abbrev pub more_at : Reduce → ℕ → (ℕ × ℤ) → Option ℤ → Option ℤ
more_at r place came exact = if nat_eq came.0 place then Some (more_exact r came.1 exact) else exact

-- the exact total at a place after numbers came to places
abbrev pub all_at : Reduce → ℕ → List (ℕ × ℤ) → Option ℤ → Option ℤ
all_at r place [] exact = exact
all_at r place (came ∷ more) exact = all_at r place more (more_at r place came exact)
