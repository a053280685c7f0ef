-- Parts of lists that are exchanged for others.
use Rattle.std.specs.Prelude.{ℕ, ◌+◌, List, ◌∷◌, ◌++◌, length, take, drop}

-- a list with others in the places from one on
abbrev pub with_part : {A : Type 0} → ℕ → List A → List A → List A
with_part from xs ys = take from xs ++ (ys ++ drop (from + length ys) xs)

-- lists, each with others of its own in the places from one on
abbrev pub with_parts : {A : Type 0} → ℕ → List (List A) → List (List A) → List (List A)
with_parts from (xs ∷ columns) (ys ∷ parts) = with_part from xs ys ∷ with_parts from columns parts
with_parts from columns _ = columns
