-- What several observers are told, and what they report one after another. Each stands here by the notes that it
-- holds, and by its way: what it reports of any notes.
use Rattle.std.specs.Prelude.{◌≡◌, ◌<◌, ℕ, List, [], ◌∷◌, ◌++◌, length, map, take, drop}
use Rattle.gm_observe.specs.declared.notes.Note.{Note}

-- what all hold once each of them was told these notes
abbrev pub told_to_all : List Note → List (List Note) → List (List Note)
told_to_all notes held = map (λ before. before ++ notes) held

-- what all hold once the first k of them, and no other, were told one more note
abbrev pub told_to_first : ℕ → Note → List (List Note) → List (List Note)
told_to_first k note held = told_to_all (note ∷ []) (take k held) ++ drop k held

-- some of them, from the first on, were told one more note, and at least one, the next, was not
pub record IsToldToSome (note : Note) (before after : List (List Note)) : Type 0 where
  pub count : ℕ
  pub fewer : count < length before
  pub told : after ≡ told_to_first count note before

-- all of them were told the notes that stand in front of these, and no other
pub record AreToldUpTo (notes rest : List Note) (before after : List (List Note)) : Type 0 where
  pub told : List Note
  pub front : told ++ rest ≡ notes
  pub all : after ≡ told_to_all told before

-- some notes were told in part, from their front: all were told the first of them; and then no more was told, or the next
-- note was, to some of them, from the first on
pub data IsToldInPart (notes : List Note) (before after : List (List Note)) : Type 0 where
  to_all : (rest : List Note) → AreToldUpTo notes rest before after → IsToldInPart notes before after
  to_some : (next : Note) (rest : List Note) (between : List (List Note)) → AreToldUpTo notes (next ∷ rest) before between
      → IsToldToSome next between after → IsToldInPart notes before after

-- the reports one after another: each in its way, of the notes that it holds
abbrev pub reports : List (List Note → List ℕ) → List (List Note) → List ℕ
reports [] held = []
reports (way ∷ ways) [] = []
reports (way ∷ ways) (notes ∷ held) = way notes ++ reports ways held
