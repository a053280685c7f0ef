-- Fields of some nodes before the first superstep, and columns of fields that several owners hold.
use Rattle.std.proofs.Common.{◌≡◌, ◌<◌, ◌≤◌, ◌+◌, ◌-◌, ℕ, suc, List, [], ◌∷◌, ◌++◌, map, length, take, drop, set, get_or, replicate, sym, ap, ◌∙◌, arith, append_assoc}
use Rattle.std.proofs.lemmas.List.{append-nil, drop_more, drop_all, take_more, take_all, length-map, length-take-le, set_at, map_push}
use Rattle.gm_value.specs.declared.values.Value.{Value}
use Rattle.gm_machine.specs.Expressions.{value_at}
use Rattle.gm_machine.specs.Machine.{column_of}

-- one more node has its fields
pub start-more : (first : ℕ → List Value) (nodes : List ℕ) (place : ℕ) (zero row : List Value) (old new : List (List Value)) → place < length nodes → row ≡ first (get_or nodes place 0) → new ≡ set old place row →
    old ≡ map first (take place nodes) ++ replicate (length nodes - place) zero → new ≡ map first (take (place + 1) nodes) ++ replicate (length nodes - (place + 1)) zero
start-more first nodes place zero row old new within row_is new_is old_is =
    let node : ℕ = get_or nodes place 0 in
    let front : List (List Value) = map first (take place nodes) in
    let left : ℕ = length nodes - (place + 1) in
    let one : length nodes - place ≡ suc left = omega arith in
    let room : place ≤ length nodes = omega arith in
    let long : length front ≡ place = length-map (take place nodes) first ∙ length-take-le place nodes room in
    new_is
    ∙ ap (λ l. set l place row) (old_is ∙ ap (λ n. front ++ replicate n zero) one)
    ∙ set_at front zero (replicate left zero) row place long
    ∙ ap (λ r. front ++ r ∷ replicate left zero) row_is
    ∙ sym (append_assoc front (first node ∷ []) (replicate left zero))
    ∙ ap (λ l. l ++ replicate left zero) (sym (map_push first (take place nodes) node) ∙ ap (map first) (sym (take_more nodes place 0 within)))

-- and all of them
pub start-all : (first : ℕ → List Value) (nodes : List ℕ) (place : ℕ) (zero : List Value) (rows : List (List Value)) → length nodes ≤ place →
    rows ≡ map first (take place nodes) ++ replicate (length nodes - place) zero → rows ≡ map first nodes
start-all first nodes place zero rows end is =
    is
    ∙ ap (λ n. map first (take place nodes) ++ replicate n zero) (let e : length nodes - place ≡ 0 = omega arith in e)
    ∙ append-nil (map first (take place nodes))
    ∙ ap (map first) (take_all place nodes end)

-- one more value of a column
pub column-more : (rows : List (List Value)) (slot node : ℕ) (v : Value) (so_far new : List Value) → node < length rows → v ≡ value_at (get_or rows node []) slot → new ≡ so_far ++ v ∷ [] →
    so_far ++ column_of (drop node rows) slot ≡ column_of rows slot → new ++ column_of (drop (node + 1) rows) slot ≡ column_of rows slot
column-more rows slot node v so_far new within v_is new_is is =
    let rest : List Value = column_of (drop (node + 1) rows) slot in
    ap (λ l. l ++ rest) new_is
    ∙ append_assoc so_far (v ∷ []) rest
    ∙ ap (λ x. so_far ++ x ∷ rest) v_is
    ∙ ap (λ l. so_far ++ column_of l slot) (sym (drop_more rows node [] within))
    ∙ is

-- and all of them
pub column-all : (rows : List (List Value)) (slot node : ℕ) (so_far : List Value) → length rows ≤ node → so_far ++ column_of (drop node rows) slot ≡ column_of rows slot → so_far ≡ column_of rows slot
column-all rows slot node so_far end is = sym (append-nil so_far) ∙ ap (λ l. so_far ++ column_of l slot) (sym (drop_all node rows end)) ∙ is
