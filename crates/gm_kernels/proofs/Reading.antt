-- Cells at some places, as far as a loop has come, and their values.
use Rattle.std.proofs.Common.{◌≡◌, ◌∙◌, ◌<◌, ◌+◌, ◌-◌, ◌∷◌, ◌++◌, [], List, ℕ, get_or, set, take, drop, length, map, refl, ap, sym, arith}
use Rattle.std.specs.Prelude.{All, slice_range, IfOk, IfSome, Option, Some, None, Result, Ok, Err}
use Rattle.std.proofs.lemmas.List.{get_or-map, get_or_read, map_more, take_more_set, take-map, drop-map, length-map}
use Rattle.std.proofs.lemmas.List.Elements.{All-head, All-tail}

-- some rows of values that are made of cells are made of these rows of the cells
pub map-picked : {X Y : Type 0} (f : X → Y) (cells : List X) (rows : List ℕ) (a : X) (d : Y) → All (λ row. row < length cells) rows → map f (map (λ row. get_or cells row a) rows) ≡ map (λ row. get_or (map f cells) row d) rows
map-picked f cells [] a d within = refl
map-picked f cells (row ∷ rows) a d within =
    let P : ℕ → Type 0 = λ n. n < length cells in
    let here : get_or (map f cells) row d ≡ f (get_or cells row a) = get_or-map f cells row a d (All-head P row rows within) in
    rw here (ap (λ l. f (get_or cells row a) ∷ l) (map-picked f cells rows a d (All-tail P row rows within)))

-- one row more
pub read-more : {X : Type 0} (cells out : List X) (places : List ℕ) (k : ℕ) (x d : X)
    → k < length places → k < length out → get_or places k 0 < length cells
    → x ≡ get_or cells (get_or places k 0) x
    → take k out ≡ map (λ place. get_or cells place d) (take k places)
    → take (k + 1) (set out k x) ≡ map (λ place. get_or cells place d) (take (k + 1) places)
read-more cells out places k x d lt o within is so =
    take_more_set out k x o
    ∙ ap (λ l. l ++ x ∷ []) so
    ∙ ap (λ v. map (λ place. get_or cells place d) (take k places) ++ v ∷ []) (get_or_read cells (get_or places k 0) x within is d)
    ∙ sym (map_more (λ place. get_or cells place d) places k 0 lt)

-- the values at some places, of cells that are read there
pub read-values : {X Y : Type 0} (f : X → Y) (values : List Y) (cells lent found : List X) (places : List ℕ) (a : X) (d : Y)
    → values ≡ map f cells → lent ≡ cells → All (λ place. place < length values) places
    → found ≡ map (λ place. get_or lent place a) places → map f found ≡ map (λ place. get_or values place d) places
read-values f values cells lent found places a d same same_cells within is =
    let few : length values ≡ length cells = ap length same ∙ length-map cells f in
    ap (map f) is ∙ ap (λ l. map f (map (λ place. get_or l place a) places)) same_cells ∙ map-picked f cells places a d (λ k e h. let row = within k e h in omega arith)
    ∙ ap (λ l. map (λ place. get_or l place d) places) (sym same)

-- the values from one place up to another
pub between-values : {X Y : Type 0} (f : X → Y) (values : List Y) (cells lent found : List X) (from to : ℕ)
    → values ≡ map f cells → lent ≡ cells → found ≡ slice_range lent from to → map f found ≡ slice_range values from to
between-values f values cells lent found from to same same_cells is =
    ap (map f) (is ∙ ap (λ l. slice_range l from to) same_cells)
    ∙ sym (take-map f (to - from) (drop from cells))
    ∙ ap (take (to - from)) (sym (drop-map f from cells))
    ∙ ap (λ l. slice_range l from to) (sym same)

-- what follows for what was found, where something was
pub if_found : {A E : Type 0} {P Q : A → Type 0} (found : Result (Option A) E) → ((a : A) → P a → Q a) → IfOk found (λ o. IfSome o P) → IfOk found (λ o. IfSome o Q)
if_found (Ok (Some a)) follows holds = follows a holds
if_found (Ok None) follows holds = holds
if_found (Err e) follows holds = holds
