-- The values of some rows.
use Rattle.std.proofs.Common.{◌≡◌, ◌<◌, ◌∷◌, [], List, ℕ, get_or, length, map, refl, ap}
use Rattle.std.specs.Prelude.{All}
use Rattle.std.proofs.lemmas.List.{get_or-map}
use Rattle.std.proofs.lemmas.List.Elements.{All-head, All-tail}

-- some rows of values that are made of cells are made of these rows of the cells
pub map-picked : {X Y : Type 0} (f : X → Y) (cells : List X) (rows : List ℕ) (a : X) (d : Y) → All (λ row. row < length cells) rows → map f (map (λ row. get_or cells row a) rows) ≡ map (λ row. get_or (map f cells) row d) rows
map-picked f cells [] a d within = refl
map-picked f cells (row ∷ rows) a d within =
    let P : ℕ → Type 0 = λ n. n < length cells in
    let here : get_or (map f cells) row d ≡ f (get_or cells row a) = get_or-map f cells row a d (All-head P row rows within) in
    rw here (ap (λ l. f (get_or cells row a) ∷ l) (map-picked f cells rows a d (All-tail P row rows within)))
