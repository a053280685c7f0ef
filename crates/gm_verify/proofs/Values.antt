-- Values that are fewer or more than their types.
use Rattle.std.proofs.Common.{◌≡◌, ℕ, suc, Bool, true, false, Option, List, [], ◌∷◌, length, refl, ap, ◌∙◌}
use Rattle.std.specs.Prelude.{◌&&◌}
use Rattle.gm_value.specs.declared.values.VType.{VType}
use Rattle.gm_image.specs.Term.{Term}
use Rattle.gm_image.specs.Program.{Program}
use Rattle.gm_image.specs.Fits.{values_fit, has_type}

and-false : (b : Bool) → false ≡ (b && false)
and-false true = refl
and-false false = refl

pub values_fit-uneven : (p : Program) (k : Option ℕ) (ts : List VType) (vs : List Term) → (length ts ≡ length vs → ⊥) → false ≡ values_fit p k ts vs
values_fit-uneven p k [] [] apart = absurd (apart refl)
values_fit-uneven p k [] (a ∷ vs) apart = refl
values_fit-uneven p k (t ∷ ts) [] apart = refl
values_fit-uneven p k (t ∷ ts) (a ∷ vs) apart =
    and-false (has_type p k t a) ∙ ap (λ (b : Bool). has_type p k t a && b) (values_fit-uneven p k ts vs (λ e. apart (ap suc e)))
