-- Columns by field hold the fields of each node.
use Rattle.std.proofs.Common.{◌≡◌, ◌≢◌, ◌<◌, ◌≤◌, ◌+◌, ℕ, suc, List, [], ◌∷◌, ◌++◌, map, length, take, drop, set, get_or, replicate, refl, sym, ap, ◌∙◌, arith, ⊎_elim, append_assoc, subst}
use Rattle.std.specs.Prelude.{All, None}
use Rattle.std.proofs.lemmas.Bool.{cases_eq}
use Rattle.std.proofs.lemmas.List.{get_or-set_same, get_or-set_other, get_or-replicate, get_or_default, get_or_past, get_or-map, length-set, length-map, length-replicate, map-append, same_lists, take_more, take_more_set, drop_more, drop-set-lt, drop_all, take_all, append-nil}
use Rattle.std.proofs.lemmas.List.FromFn.{length-map-range_with_len, get_or-map-range_with_len}
use Rattle.std.proofs.lemmas.List.Elements.{All-cons, All-head, All-tail, All-set, All-get_or, All-weaker}
use Rattle.gm_value.specs.declared.values.VType.{VType}
use Rattle.gm_value.specs.declared.values.Value.{Value}
use Rattle.gm_value.specs.Numbers.{zero_of}
use Rattle.gm_value.specs.declared.values.Value.TheVariants.{At}
use Rattle.gm_machine.specs.Expressions.{value_at}
use Rattle.gm_machine.specs.Machine.{row_at, column_of}
use Rattle.gm_machine.specs.Fields.{by_node, AreFull, with_row}

-- what a function makes of an element that was read
pub map-read : {X Y : Type 0} (f : X → Y) (xs : List X) (i : ℕ) (x : X) (d : Y) → i < length xs → x ≡ get_or xs i x → get_or (map f xs) i d ≡ f x
map-read f xs i x d within is = get_or-map f xs i x d within ∙ ap f (sym is)

-- a column with a value for each of some nodes
abbrev pub IsLong : ℕ → List Value → Type 0
IsLong nodes values = length values ≡ nodes

-- a column with a value for a node
abbrev pub HasValue : ℕ → List Value → Type 0
HasValue node values = node < length values

pub full-inside : (nodes node : ℕ) (columns : List (List Value)) → node < nodes → AreFull nodes columns → All (HasValue node) columns
full-inside nodes node columns below full = All-weaker (IsLong nodes) (HasValue node) (λ values long. omega arith) columns full

pub length-with_row : (columns : List (List Value)) (node : ℕ) (vs : List Value) → length (with_row columns node vs) ≡ length columns
length-with_row [] node vs = refl
length-with_row (c ∷ columns) node [] = refl
length-with_row (c ∷ columns) node (v ∷ vs) = ap suc (length-with_row columns node vs)

pub full-with_row : (nodes node : ℕ) (columns : List (List Value)) (vs : List Value) → AreFull nodes columns → AreFull nodes (with_row columns node vs)
full-with_row nodes node [] vs full = full
full-with_row nodes node (c ∷ columns) [] full = full
full-with_row nodes node (c ∷ columns) (v ∷ vs) full =
    All-cons (IsLong nodes) (set c node v) (with_row columns node vs)
    (length-set c node v ∙ All-head (IsLong nodes) c columns full)
    (full-with_row nodes node columns vs (All-tail (IsLong nodes) c columns full))

-- the new values are the node's, and other nodes keep theirs
row-same : (nodes node : ℕ) (columns : List (List Value)) (vs : List Value) → AreFull nodes columns → node < nodes → length vs ≡ length columns →
    row_at (with_row columns node vs) node ≡ vs
row-same nodes node [] [] full below long = refl
row-same nodes node [] (v ∷ vs) full below long = absurd (omega arith)
row-same nodes node (c ∷ columns) [] full below long = absurd (omega arith)
row-same nodes node (c ∷ columns) (v ∷ vs) full below long =
    let first : length c ≡ nodes = All-head (IsLong nodes) c columns full in
    let inside : node < length c = omega arith in
    let rest : length vs ≡ length columns = omega arith in
    ap (λ x. x ∷ row_at (with_row columns node vs) node) (get_or-set_same c node v (At None) inside)
    ∙ ap (λ xs. v ∷ xs) (row-same nodes node columns vs (All-tail (IsLong nodes) c columns full) below rest)

row-other : (node j : ℕ) (columns : List (List Value)) (vs : List Value) → j ≢ node → row_at (with_row columns node vs) j ≡ row_at columns j
row-other node j [] vs differs = refl
row-other node j (c ∷ columns) [] differs = refl
row-other node j (c ∷ columns) (v ∷ vs) differs =
    ap (λ x. x ∷ row_at (with_row columns node vs) j) (get_or-set_other c node j v (At None) differs)
    ∙ ap (λ xs. value_at c j ∷ xs) (row-other node j columns vs differs)

pub length-by_node : (nodes : ℕ) (columns : List (List Value)) → length (by_node nodes columns) ≡ nodes
length-by_node nodes columns = length-map-range_with_len (row_at columns) 0 nodes

pub get_or-by_node : (nodes : ℕ) (columns : List (List Value)) (k : ℕ) (d : List Value) → k < nodes → get_or (by_node nodes columns) k d ≡ row_at columns k
get_or-by_node nodes columns k d below = let e : 0 + k ≡ k = omega arith in get_or-map-range_with_len (row_at columns) 0 nodes k k d below e

-- how many fields a node has
pub length-node : (nodes : ℕ) (columns : List (List Value)) (k : ℕ) → k < nodes → length (get_or (by_node nodes columns) k []) ≡ length columns
length-node nodes columns k below = ap length (get_or-by_node nodes columns k [] below) ∙ length-map columns (λ values. value_at values k)

-- one node has new fields
pub by_node-with_row : (nodes node : ℕ) (columns : List (List Value)) (vs : List Value) → AreFull nodes columns → node < nodes → length vs ≡ length columns →
    by_node nodes (with_row columns node vs) ≡ set (by_node nodes columns) node vs
by_node-with_row nodes node columns vs full below long =
    same_lists (by_node nodes (with_row columns node vs)) (set (by_node nodes columns) node vs)
    (length-by_node nodes (with_row columns node vs) ∙ sym (length-set (by_node nodes columns) node vs ∙ length-by_node nodes columns))
    (λ k d h.
    let there : k < nodes = omega (arith, h, length-by_node nodes (with_row columns node vs)) in
    let room : node < length (by_node nodes columns) = omega (arith, below, length-by_node nodes columns) in
    get_or-by_node nodes (with_row columns node vs) k d there
    ∙ ⊎_elim
    (λ (same : k ≡ node). ap (row_at (with_row columns node vs)) same ∙ row-same nodes node columns vs full below long ∙ sym (ap (λ j. get_or (set (by_node nodes columns) node vs) j d) same ∙ get_or-set_same (by_node nodes columns) node vs d room))
    (λ (differs : k ≡ node → ⊥). row-other node k columns vs differs ∙ sym (get_or-set_other (by_node nodes columns) node k vs d differs ∙ get_or-by_node nodes columns k d there))
    (cases_eq k node))

-- a node's value of a field is the field's value at the node
pub value-there : (columns : List (List Value)) (slot k : ℕ) → slot < length columns → value_at (row_at columns k) slot ≡ value_at (get_or columns slot []) k
value-there columns slot k within = get_or-map (λ values. value_at values k) columns slot [] (At None) within

pub value-none : (columns : List (List Value)) (slot k : ℕ) → length columns ≤ slot → value_at (row_at columns k) slot ≡ At None
value-none columns slot k beyond = get_or_past (row_at columns k) slot (At None) (omega (arith, beyond, length-map columns (λ values. value_at values k)))

column-there : (nodes slot : ℕ) (columns : List (List Value)) → AreFull nodes columns → slot < length columns → get_or columns slot [] ≡ column_of (by_node nodes columns) slot
column-there nodes slot columns full within =
    let rows : List (List Value) = by_node nodes columns in
    let held : List Value = get_or columns slot [] in
    let long : length held ≡ nodes = All-get_or (IsLong nodes) columns slot [] within full in
    same_lists held (column_of rows slot)
    (long ∙ sym (length-map rows (λ values. value_at values slot) ∙ length-by_node nodes columns))
    (λ k d h.
    let there : k < nodes = omega arith in
    let room : k < length rows = omega (arith, there, length-by_node nodes columns) in
    get_or_default held k d (At None) h
    ∙ sym (get_or-map (λ values. value_at values slot) rows k [] d room ∙ ap (λ values. value_at values slot) (get_or-by_node nodes columns k [] there) ∙ value-there columns slot k within))

column-none : (nodes slot : ℕ) (columns : List (List Value)) → length columns ≤ slot → replicate nodes (At None) ≡ column_of (by_node nodes columns) slot
column-none nodes slot columns beyond =
    let rows : List (List Value) = by_node nodes columns in
    same_lists (replicate nodes (At None)) (column_of rows slot)
    (length-replicate nodes (At None) ∙ sym (length-map rows (λ values. value_at values slot) ∙ length-by_node nodes columns))
    (λ k d h.
    let there : k < nodes = omega (arith, h, length-replicate nodes (At None)) in
    let room : k < length rows = omega (arith, there, length-by_node nodes columns) in
    get_or-replicate nodes k (At None) d there
    ∙ sym (get_or-map (λ values. value_at values slot) rows k [] d room ∙ ap (λ values. value_at values slot) (get_or-by_node nodes columns k [] there) ∙ value-none columns slot k beyond))

-- the values of a column that was read, and of one that is not there
pub column-read : {X : Type 0} (f : X → List Value) (xs : List X) (nodes slot : ℕ) (x : X) → AreFull nodes (map f xs) → slot < length xs → x ≡ get_or xs slot x →
    f x ≡ column_of (by_node nodes (map f xs)) slot
column-read f xs nodes slot x full within is =
    let inside : slot < length (map f xs) = omega (arith, within, length-map xs f) in
    sym (map-read f xs slot x [] within is) ∙ column-there nodes slot (map f xs) full inside

pub column-past : {X : Type 0} (f : X → List Value) (xs : List X) (nodes slot : ℕ) → length xs ≤ slot →
    replicate nodes (At None) ≡ column_of (by_node nodes (map f xs)) slot
column-past f xs nodes slot past =
    let beyond : length (map f xs) ≤ slot = omega (arith, past, length-map xs f) in
    column-none nodes slot (map f xs) beyond

-- the values of a node, read from one more column
pub row-more : (columns : List (List Value)) (node i : ℕ) (d : List Value) (v : Value) (so_far more : List Value) → i < length columns →
    v ≡ value_at (get_or columns i d) node → more ≡ so_far ++ v ∷ [] → so_far ≡ row_at (take i columns) node → more ≡ row_at (take (i + 1) columns) node
row-more columns node i d v so_far more within is pushed before =
    pushed
    ∙ ap (λ vs. vs ++ v ∷ []) before
    ∙ ap (λ x. row_at (take i columns) node ++ x ∷ []) is
    ∙ sym (ap (λ cs. row_at cs node) (take_more columns i d within) ∙ map-append (λ values. value_at values node) (take i columns) (get_or columns i d ∷ []))

-- the first i columns have their new values of a node
pub record IsStoredTo (i node : ℕ) (vs : List Value) (old now : List (List Value)) : Type 0 where
  pub long : length now ≡ length old
  pub inside : All (HasValue node) now
  pub rows_are : take i now ++ with_row (drop i now) node (drop i vs) ≡ with_row old node vs

pub stored-more : (i node : ℕ) (vs : List Value) (old now new : List (List Value)) (v : Value) → i < length now → i < length vs → v ≡ get_or vs i v →
    new ≡ set now i (set (get_or now i []) node v) → IsStoredTo i node vs old now → IsStoredTo (i + 1) node vs old new
stored-more i node vs old now new v within given is written before =
    let c : List Value = get_or now i [] in
    let c' : List Value = set c node v in
    let made : List (List Value) = set now i c' in
    let l : i < i + 1 = omega arith in
    let wide : node < length c' = omega (arith, length-set c node v, All-get_or (HasValue node) now i [] within before.inside) in
    record {
      long = ap length written ∙ length-set now i c' ∙ before.long;
      inside = rw written (All-set (HasValue node) now i c' wide before.inside);
      rows_are =
          ap (λ cs. take (i + 1) cs ++ with_row (drop (i + 1) cs) node (drop (i + 1) vs)) written
          ∙ ap (λ cs. cs ++ with_row (drop (i + 1) made) node (drop (i + 1) vs)) (take_more_set now i c' within)
          ∙ append_assoc (take i now) (c' ∷ []) (with_row (drop (i + 1) made) node (drop (i + 1) vs))
          ∙ ap (λ cs. take i now ++ c' ∷ with_row cs node (drop (i + 1) vs)) (drop-set-lt (i + 1) now i c' l)
          ∙ sym (
          ap (λ cs. take i now ++ with_row cs node (drop i vs)) (drop_more now i [] within)
          ∙ ap (λ ws. take i now ++ with_row (c ∷ drop (i + 1) now) node ws) (drop_more vs i v given ∙ ap (λ w. w ∷ drop (i + 1) vs) (sym is)))
          ∙ before.rows_are;
    }

pub stored-all : (i node : ℕ) (vs : List Value) (old now : List (List Value)) → length now ≤ i → IsStoredTo i node vs old now → now ≡ with_row old node vs
stored-all i node vs old now end to =
    sym (append-nil now)
    ∙ ap (λ cs. cs ++ []) (sym (take_all i now end))
    ∙ ap (λ cs. take i now ++ with_row cs node (drop i vs)) (sym (drop_all i now end))
    ∙ to.rows_are

-- a value is written over that of a row in a list
pub read-long : (i : ℕ) (v : Value) (into : List Value) → length (set into i v) ≡ length into
read-long i v into = length-set into i v

-- and the values so far are those of the node
pub read-more : (columns : List (List Value)) (node i : ℕ) (v : Value) (into : List Value) → i < length columns → i < length into →
    v ≡ value_at (get_or columns i []) node →
    ((k : ℕ) (d : Value) → k < i → get_or into k d ≡ get_or (row_at columns node) k d) →
    (k : ℕ) (d : Value) → k < i + 1 → get_or (set into i v) k d ≡ get_or (row_at columns node) k d
read-more columns node i v into within room is before k d below =
    ⊎_elim
    (λ (same : k ≡ i).
    let Q : ℕ → Type 0 = λ m. get_or (set into i v) m d ≡ get_or (row_at columns node) m d in
    let here : Q i = get_or-set_same into i v d room ∙ is ∙ sym (get_or-map (λ values. value_at values node) columns i [] d within) in
    subst Q (sym same) here)
    (λ (differs : k ≡ i → ⊥). let less : k < i = omega arith in get_or-set_other into i k v d differs ∙ before k d less)
    (cases_eq k i)

-- the fields of nodes in columns of zeros
row-zero : (types : List VType) (nodes k : ℕ) → k < nodes → row_at (map (λ t. replicate nodes (zero_of t)) types) k ≡ map zero_of types
row-zero [] nodes k below = refl
row-zero (t ∷ types) nodes k below =
    ap (λ v. v ∷ row_at (map (λ t. replicate nodes (zero_of t)) types) k) (get_or-replicate nodes k (zero_of t) (At None) below)
    ∙ ap (λ vs. zero_of t ∷ vs) (row-zero types nodes k below)

pub rows-zero : (types : List VType) (nodes : ℕ) (columns : List (List Value)) → columns ≡ map (λ t. replicate nodes (zero_of t)) types → by_node nodes columns ≡ replicate nodes (map zero_of types)
rows-zero types nodes columns is =
    ap (by_node nodes) is
    ∙ same_lists (by_node nodes (map (λ t. replicate nodes (zero_of t)) types)) (replicate nodes (map zero_of types))
    (length-by_node nodes (map (λ t. replicate nodes (zero_of t)) types) ∙ sym (length-replicate nodes (map zero_of types)))
    (λ k d h.
    let below : k < nodes = omega (arith, h, length-by_node nodes (map (λ t. replicate nodes (zero_of t)) types)) in
    get_or-by_node nodes (map (λ t. replicate nodes (zero_of t)) types) k d below ∙ row-zero types nodes k below ∙ sym (get_or-replicate nodes k (map zero_of types) d below))
