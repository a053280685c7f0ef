-- What picks take and write, one target, value or statement after another.
use Rattle.std.proofs.Common.{◌≡◌, ◌+◌, ◌++◌, ℕ, List, [], ◌∷◌, refl, sym, ap, ◌∙◌, arith}
use Rattle.std.proofs.lemmas.List.{append-nil}
use Rattle.gm_ast.specs.declared.tree.Declaration.{Declaration}
use Rattle.gm_ast.specs.declared.tree.Key.{Key}
use Rattle.gm_ast.specs.declared.tree.Target.{Target}
use Rattle.gm_ast.specs.declared.tree.Target.TheVariants as T
use Rattle.gm_ast.specs.Ways.{is_in}
use Rattle.gm_ast.specs.Program.{Expr, Stmt, Then, Assign, sequence}
use Rattle.gm_forms.specs.Typing.{type_at}
use Rattle.gm_desugar.specs.Conditions.{nowhere, asked}
use Rattle.gm_desugar.specs.Reads.{count_read, told_from}
use Rattle.gm_picks.specs.Picks.{taken, node_variable, value_variable, property_types, property_set, count_all, all_told, count_alone, count_held, types_held, held_set, held, written_back, picked_alone, count_picks, onto_scalars}
use Rattle.gm_picks.proofs.InPlace.{changed, counted}

-- ---- targets

-- what stands where there is no target
abbrev pub no_target : Target
no_target = T.Scalar 0 (record { line = 0; col = 0 })

-- what one target gives, and how many variables it takes
abbrev pub one_held : List ℕ → Target → ℕ
one_held its t = count_held its (t ∷ [])

abbrev pub one_set : List ℕ → Key → ℕ → Target → List Stmt
one_set its k n t = held_set its n k (t ∷ [])

abbrev pub one_scalar : List ℕ → ℕ → Target → List Target
one_scalar its n t = held its n (t ∷ [])

abbrev pub one_back : List ℕ → Key → ℕ → Target → List Stmt
one_back its k n t = written_back its n k (t ∷ [])

pub nothing : (n : ℕ) → n ≡ n + 0
nothing n = omega arith

-- one number alone
alone : (n : ℕ) → n + 0 ≡ n
alone n = omega arith

pub count_held-step : (its : List ℕ) (t : Target) (ts : List Target) → count_held its (t ∷ ts) ≡ count_held its (t ∷ []) + count_held its ts
count_held-step its (T.Scalar x at) ts = let e : count_held its ts ≡ 0 + count_held its ts = omega arith in e
count_held-step its (T.Property y p at) ts = ap (λ m. m + count_held its ts) (sym (alone (taken (is_in its y))))

pub types_held-step : (ds : List Declaration) (its : List ℕ) (t : Target) (ts : List Target) → types_held ds its (t ∷ ts) ≡ types_held ds its (t ∷ []) ++ types_held ds its ts
types_held-step ds its (T.Scalar x at) ts = refl
types_held-step ds its (T.Property y p at) ts = ap (λ l. l ++ types_held ds its ts) (sym (append-nil (property_types (is_in its y) (type_at ds p))))

pub held_set-step : (its : List ℕ) (k : Key) (n : ℕ) (t : Target) (ts : List Target) → held_set its n k (t ∷ ts) ≡ held_set its n k (t ∷ []) ++ held_set its (n + count_held its (t ∷ [])) k ts
held_set-step its k n (T.Scalar x at) ts = ap (λ m. held_set its m k ts) (nothing n)
held_set-step its k n (T.Property y p at) ts =
    let set = property_set (is_in its y) n k y p at in ap (λ l. l ++ held_set its (n + taken (is_in its y)) k ts) (sym (append-nil set)) ∙ ap (λ m. (set ++ []) ++ held_set its (n + m) k ts) (sym (alone (taken (is_in its y))))

pub held-step : (its : List ℕ) (n : ℕ) (t : Target) (ts : List Target) → held its n (t ∷ ts) ≡ held its n (t ∷ []) ++ held its (n + count_held its (t ∷ [])) ts
held-step its n (T.Scalar x at) ts = ap (λ m. T.Scalar x at ∷ held its m ts) (nothing n)
held-step its n (T.Property y p at) ts = ap (λ m. T.Scalar (value_variable (is_in its y) n) nowhere ∷ held its (n + m) ts) (sym (alone (taken (is_in its y))))

pub written_back-step : (its : List ℕ) (k : Key) (n : ℕ) (t : Target) (ts : List Target) → written_back its n k (t ∷ ts) ≡ written_back its n k (t ∷ []) ++ written_back its (n + count_held its (t ∷ [])) k ts
written_back-step its k n (T.Scalar x at) ts = ap (λ m. written_back its m k ts) (nothing n)
written_back-step its k n (T.Property y p at) ts =
    let i = is_in its y in ap (λ m. Assign k (T.Property (node_variable i n y) p at) (asked (value_variable i n)) ∷ written_back its (n + m) k ts) (sym (alone (taken i)))

-- ---- values

pub all_told-changed : (n : ℕ) (es : List Expr) → changed told_from count_read n es ≡ all_told n es
all_told-changed n [] = refl
all_told-changed n (e ∷ es) = ap (λ l. told_from n e ∷ l) (all_told-changed (n + count_read e) es)

pub count_all-counted : (es : List Expr) → counted told_from count_read es ≡ count_all es
count_all-counted [] = refl
count_all-counted (e ∷ es) = ap (λ m. count_read e + m) (count_all-counted es)

-- ---- statements

pub onto-sequence : (its : List ℕ) (n : ℕ) (ss : List Stmt) → sequence (changed (onto_scalars its) (count_picks its) n ss) ≡ onto_scalars its n (sequence ss)
onto-sequence its n [] = refl
onto-sequence its n (s ∷ ss) = ap (Then (onto_scalars its n s)) (onto-sequence its (n + count_picks its s) ss)

pub count-sequence : (its : List ℕ) (ss : List Stmt) → counted (onto_scalars its) (count_picks its) ss ≡ count_picks its (sequence ss)
count-sequence its [] = refl
count-sequence its (s ∷ ss) = ap (λ m. count_picks its s + m) (count-sequence its ss)

-- a block is no pick
pub block_stays : (its : List ℕ) (n : ℕ) (ss : List Stmt) → picked_alone its n (sequence ss) ≡ sequence ss
block_stays its n [] = refl
block_stays its n (s ∷ ss) = refl

pub block_takes_none : (its : List ℕ) (ss : List Stmt) → count_alone its (sequence ss) ≡ 0
block_takes_none its [] = refl
block_takes_none its (s ∷ ss) = refl
