-- One observer after another is told one more note, and all of them one note after another.
use Rattle.std.proofs.Common.{◌≡◌, ℕ, ◌+◌, ◌<◌, List, [], ◌∷◌, ◌++◌, length, map, set, get_or, refl, ap, sym, ◌∙◌, arith, suc, zero, add-one, append_assoc, Ok, Err}
use Rattle.std.specs.Prelude.{Result, OnErr}
use Rattle.std.proofs.lemmas.List.{map-set, get_or-map, append-nil}
use Rattle.gm_observe.specs.Audience.{told_to_all, told_to_first, IsToldToSome, AreToldUpTo, IsToldInPart, to_all, to_some}
use Rattle.gm_observe.specs.declared.notes.Note.{Note}

-- the first i were told already, and now the next one is
told_to-next : (note : Note) (held : List (List Note)) (i : ℕ) → i < length held
    → set (told_to_first i note held) i (get_or (told_to_first i note held) i [] ++ note ∷ []) ≡ told_to_first (suc i) note held
told_to-next note [] i below = absurd (omega (arith, below))
told_to-next note (notes ∷ held) zero below = refl
told_to-next note (notes ∷ held) (suc i) below =
    ap (λ more. (notes ++ note ∷ []) ∷ more) (told_to-next note held i (omega arith))

-- the same of observers that stand in a list, each of which holds what `seen` says
pub told-next : {X : Type 0} (seen : X → List Note) (note : Note) (held : List (List Note)) (observers : List X) (i : ℕ) (old new : X)
    → map seen observers ≡ told_to_first i note held
    → i < length observers → i < length held
    → seen new ≡ seen (get_or observers i old) ++ note ∷ []
    → map seen (set observers i new) ≡ told_to_first (i + 1) note held
told-next seen note held observers i old new so_far below below_held told =
    let one : seen new ≡ get_or (told_to_first i note held) i [] ++ note ∷ [] =
    told ∙ ap (λ notes. notes ++ note ∷ []) (sym (get_or-map seen observers i old [] below) ∙ ap (λ l. get_or l i []) so_far) in
    map-set seen observers i new ∙ ap (λ l. set l i (seen new)) so_far
    ∙ ap (λ x. set (told_to_first i note held) i x) one ∙ told_to-next note held i below_held
    ∙ ap (λ k. told_to_first k note held) (sym (add-one i))

-- on an error: the first k were told, and not all
pub told_to_some-on_err : {T E : Type 0} (r : Result T E) (note : Note) (before after : List (List Note)) (k : ℕ)
    → k < length before → after ≡ told_to_first k note before → OnErr r (IsToldToSome note before after)
told_to_some-on_err (Ok _) note before after k fewer told = tt
told_to_some-on_err (Err _) note before after k fewer told = record { count = k; fewer = fewer; told = told }

-- ---- notes one after another

-- no notes
pub told-none : (held : List (List Note)) → held ≡ told_to_all [] held
told-none [] = refl
told-none (before ∷ held) = ap (λ (x : List Note). x ∷ held) (sym (append-nil before)) ∙ ap (λ (xs : List (List Note)). (before ++ []) ∷ xs) (told-none held)

-- some notes, and one more
told-more : (notes : List Note) (note : Note) (held : List (List Note)) → told_to_all (note ∷ []) (told_to_all notes held) ≡ told_to_all (notes ++ note ∷ []) held
told-more notes note [] = refl
told-more notes note (before ∷ held) =
    ap (λ (x : List Note). x ∷ told_to_all (note ∷ []) (told_to_all notes held)) (append_assoc before notes (note ∷ []))
    ∙ ap (λ (xs : List (List Note)). (before ++ (notes ++ note ∷ [])) ∷ xs) (told-more notes note held)

-- nothing was told yet
pub up_to-start : (notes rest : List Note) (held : List (List Note)) → rest ≡ notes → AreToldUpTo notes rest held held
up_to-start notes rest held is = record { told = []; front = is; all = told-none held }

-- the next note was told to all
pub up_to-next : (notes rest : List Note) (note : Note) (before between after : List (List Note))
    → AreToldUpTo notes (note ∷ rest) before between → after ≡ told_to_all (note ∷ []) between → AreToldUpTo notes rest before after
up_to-next notes rest note before between after so_far told = record {
  told = so_far.told ++ note ∷ [];
  front = append_assoc so_far.told (note ∷ []) rest ∙ so_far.front;
  all = told ∙ ap (told_to_all (note ∷ [])) so_far.all ∙ told-more so_far.told note before;
}

-- a part of one note is none of it, all of it, or some of those who listen
part-next : (notes rest : List Note) (note : Note) (before between after : List (List Note)) (more told : List Note)
    → AreToldUpTo notes (note ∷ rest) before between → told ++ more ≡ note ∷ [] → after ≡ told_to_all told between → IsToldInPart notes before after
part-next notes rest note before between after more [] so_far front all =
    to_all (note ∷ rest) (record { told = so_far.told; front = so_far.front; all = all ∙ sym (told-none between) ∙ so_far.all })
part-next notes rest note before between after more (first ∷ []) so_far front all =
    let is : first ≡ note = cc in
    to_all rest (up_to-next notes rest note before between after so_far (all ∙ ap (λ (n : Note). told_to_all (n ∷ []) between) is))
part-next notes rest note before between after more (first ∷ second ∷ told) so_far front all = cc

-- where a part of the next note was told, a part of the notes was
pub part-behind : (notes rest : List Note) (note : Note) (before between after : List (List Note))
    → AreToldUpTo notes (note ∷ rest) before between → IsToldInPart (note ∷ []) between after → IsToldInPart notes before after
part-behind notes rest note before between after so_far (to_all more part) = part-next notes rest note before between after more part.told so_far part.front part.all
part-behind notes rest note before between after so_far (to_some next more mid part some) = by part.told part.front part.all where
  by : (told : List Note) → told ++ next ∷ more ≡ note ∷ [] → mid ≡ told_to_all told between → IsToldInPart notes before after
  by [] front all =
      let is : next ≡ note = cc in
      let at : IsToldToSome note between after = rw is at rw (all ∙ sym (told-none between)) at some in
      to_some note rest between so_far at
  by (first ∷ []) front all = cc
  by (first ∷ second ∷ told) front all = cc
