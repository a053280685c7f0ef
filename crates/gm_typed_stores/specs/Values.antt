-- Values of a type whose nodes have indices below a limit.
use Rattle.std.specs.Prelude.{◌<◌, ℕ, List, [], ◌∷◌, Some}
use Rattle.gm_value.specs.declared.values.VType.{VType}
use Rattle.gm_value.specs.declared.values.Value.{Value}
use Rattle.gm_value.specs.declared.values.Value.TheVariants.{At}
use Rattle.gm_value.specs.Numbers.{IsOf}

-- a node has an index below a limit; NIL and what is no node have none
abbrev pub NodeBelow : ℕ → Value → Type 0
NodeBelow limit (At (Some k)) = k < limit
NodeBelow limit _ = Unit {0}

-- a value of a type: its number is in the type's range, and if it is a node its index is below the limit
pub record IsValue (limit : ℕ) (t : VType) (v : Value) : Type 0 where
  pub of_type : IsOf t v
  pub below : NodeBelow limit v

-- one of some for each of some types, of which something holds
abbrev pub Along : {A : Type 0} → (VType → A → Type 0) → List VType → List A → Type 0
Along P [] [] = Unit {0}
Along P (t ∷ ts) (x ∷ xs) = P t x × Along P ts xs
Along P _ _ = ⊥

-- one value for each of some types
abbrev pub AreValues : ℕ → List VType → List Value → Type 0
AreValues limit ts vs = Along (IsValue limit) ts vs

-- each of some is so
abbrev pub Each : {A : Type 0} → (A → Type 0) → List A → Type 0
Each P [] = Unit {0}
Each P (x ∷ xs) = P x × Each P xs

-- one column of values for each of some types
abbrev pub AreColumns : ℕ → List VType → List (List Value) → Type 0
AreColumns limit ts columns = Along (λ t column. Each (IsValue limit t) column) ts columns
