-- Types of slots, one loop or one position at a time.
use Rattle.std.proofs.Common.{◌≡◌, ◌<◌, ℕ, zero, suc, List, [], ◌∷◌, ◌++◌, ap, ◌∙◌, refl, arith}
use Rattle.std.specs.Prelude.{◌-◌}
use Rattle.gm_value.specs.declared.values.VType.{VType}
use Rattle.gm_value.specs.declared.values.VType.TheVariants as V
use Rattle.gm_lowering.specs.Layouts.{loop_types, spare_types}

moved : (ts rest : List VType) (t : VType) → (ts ++ (t ∷ [])) ++ rest ≡ ts ++ (t ∷ rest)
moved [] rest t = refl
moved (s ∷ ts) rest t = ap (λ z. s ∷ z) (moved ts rest t)

-- two more types, and those of one loop less
pub loops_step : (ts all : List VType) (n : ℕ) → 0 < n → ts ++ loop_types n ≡ all → ((ts ++ (V.I64 ∷ [])) ++ (V.Flag ∷ [])) ++ loop_types (n - 1) ≡ all
loops_step ts all zero lt whole = absurd (omega arith)
loops_step ts all (suc n) lt whole =
    ap (λ m. ((ts ++ (V.I64 ∷ [])) ++ (V.Flag ∷ [])) ++ loop_types m) (let e : suc n - 1 ≡ n = omega arith in e)
    ∙ moved (ts ++ (V.I64 ∷ [])) (loop_types n) V.Flag ∙ moved ts (V.Flag ∷ loop_types n) V.I64 ∙ whole

-- four more types, and those of one position less
pub spares_step : (ts all : List VType) (n : ℕ) → 0 < n → ts ++ spare_types n ≡ all
    → ((((ts ++ (V.I32 ∷ [])) ++ (V.I64 ∷ [])) ++ (V.Flag ∷ [])) ++ (V.Node ∷ [])) ++ spare_types (n - 1) ≡ all
spares_step ts all zero lt whole = absurd (omega arith)
spares_step ts all (suc n) lt whole =
    ap (λ m. ((((ts ++ (V.I32 ∷ [])) ++ (V.I64 ∷ [])) ++ (V.Flag ∷ [])) ++ (V.Node ∷ [])) ++ spare_types m) (let e : suc n - 1 ≡ n = omega arith in e)
    ∙ moved (((ts ++ (V.I32 ∷ [])) ++ (V.I64 ∷ [])) ++ (V.Flag ∷ [])) (spare_types n) V.Node
    ∙ moved ((ts ++ (V.I32 ∷ [])) ++ (V.I64 ∷ [])) (V.Node ∷ spare_types n) V.Flag
    ∙ moved (ts ++ (V.I32 ∷ [])) (V.Flag ∷ (V.Node ∷ spare_types n)) V.I64
    ∙ moved ts (V.I64 ∷ (V.Flag ∷ (V.Node ∷ spare_types n))) V.I32 ∙ whole
