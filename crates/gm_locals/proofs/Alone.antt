-- One target alone.
use Rattle.std.proofs.Common.{◌≡◌, arith, ℕ, Bool, true, false, List, [], ◌∷◌, length, refl}
use Rattle.std.specs.Prelude.{◌&&◌, nat_eq}
use Rattle.std.specs.List.{list_all}
use Rattle.gm_ast.specs.declared.tree.Target.{Target}
use Rattle.gm_ast.specs.declared.tree.Target.TheVariants as T
use Rattle.gm_loop_laws.specs.Localised.{is_it}

and-end : (b : Bool) → b && true ≡ b
and-end true = refl
and-end false = refl

pub alone_all : (x : ℕ) (ts : List Target) → length ts ≡ 1 → list_all (λ t. is_it x (t ∷ [])) ts ≡ is_it x ts
alone_all x [] h = absurd (omega (arith, h))
alone_all x (T.Scalar y at ∷ []) h = and-end (nat_eq y x)
alone_all x (T.Property y p at ∷ []) h = refl
alone_all x (T.Scalar y at ∷ (s ∷ ts)) h = absurd (omega (arith, h))
alone_all x (T.Property y p at ∷ (s ∷ ts)) h = absurd (omega (arith, h))

pub not_alone : (x : ℕ) (ts : List Target) → (length ts ≡ 1 → ⊥) → is_it x ts ≡ false
not_alone x [] h = refl
not_alone x (T.Scalar y at ∷ []) h = absurd (h refl)
not_alone x (T.Property y p at ∷ ts) h = refl
not_alone x (T.Scalar y at ∷ (s ∷ ts)) h = refl
