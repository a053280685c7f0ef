-- Messages in columns that grow.
use Rattle.std.proofs.Common.{◌≡◌, ◌<◌, ◌≤◌, ◌+◌, ◌-◌, ℕ, zero, suc, None, inl, inr, List, [], ◌∷◌, ◌++◌, length, map, take, set, get_or, refl, sym, ap, ◌∙◌, arith}
use Rattle.std.specs.Prelude.{All, slice_index}
use Rattle.std.specs.List.{range_with_len}
use Rattle.std.proofs.lemmas.Bool.{cases_lt}
use Rattle.std.proofs.lemmas.List.{length-append, length-map, map-append, get_or-map, get_or_append_left, get_or-append_right, get_or_read, take_more, take_more_same}
use Rattle.std.proofs.lemmas.List.Elements.{All-head, All-tail}
use Rattle.std.proofs.lemmas.List.FromFn.{length-map-range_with_len, get_or-map-range_with_len, fill_by_all}
use Rattle.gm_value.specs.declared.values.VType.{VType}
use Rattle.gm_value.specs.declared.values.VType.TheVariants as VTypes
use Rattle.gm_value.specs.declared.values.Value.{Value}
use Rattle.gm_value.specs.declared.values.Value.TheVariants.{At}
use Rattle.gm_columns.specs.Columns.{TypedRow}
use Rattle.gm_machine.specs.Expressions.{value_at}
use Rattle.gm_machine.specs.Machine.{row_at}
use Rattle.gm_machine.specs.Vertex.{Message}
use Rattle.gm_message_columns.specs.MessageTables.{MessageTable, HaveRows, row_values, types_of, message_at, message_rows, joined, all_values, values_in_row, picked_rows, emptied}

-- a column is its type and its values
pub column-is : (column : TypedRow) (t : VType) (values : List Value) → column.vtype ≡ t → column.values ≡ values → column ≡ record { vtype = t; values = values }
column-is column t values same_type same = ap (λ u. let c : TypedRow = record { vtype = u; values = column.values } in c) same_type ∙ ap (λ l. let c : TypedRow = record { vtype = t; values = l } in c) same

-- the types stay as they were
pub joined-types : (columns : List TypedRow) (more : List (List Value)) → types_of (joined columns more) ≡ types_of columns
joined-types [] more = refl
joined-types (column ∷ columns) [] = refl
joined-types (column ∷ columns) (values ∷ more) = ap (λ l. column.vtype ∷ l) (joined-types columns more)

-- the column behind those that have grown is as it was
pub joined-at : (columns : List TypedRow) (more : List (List Value)) (k : ℕ) (d : TypedRow) → get_or (joined columns (take k more)) k d ≡ get_or columns k d
joined-at [] more k d = refl
joined-at (column ∷ columns) more zero d = refl
joined-at (column ∷ columns) [] (suc k) d = refl
joined-at (column ∷ columns) (values ∷ more) (suc k) d = joined-at columns more k d

-- nothing has come
pub joined-none : (columns : List TypedRow) → joined columns [] ≡ columns
joined-none [] = refl
joined-none (column ∷ columns) = refl

-- one more column has grown
pub joined-more : (columns : List TypedRow) (more : List (List Value)) (k : ℕ) (d : TypedRow) (e : List Value) → k < length columns → k < length more →
    joined columns (take (k + 1) more) ≡ set (joined columns (take k more)) k (record { vtype = (get_or columns k d).vtype; values = (get_or columns k d).values ++ get_or more k e })
joined-more [] more k d e low here = absurd (omega arith)
joined-more (column ∷ columns) [] k d e low here = absurd (omega arith)
joined-more (column ∷ columns) (values ∷ more) zero d e low here =
    ap (λ l. let c : TypedRow = record column { values = column.values ++ values } in c ∷ l) (joined-none columns)
joined-more (column ∷ columns) (values ∷ more) (suc k) d e low here =
    ap (λ n. joined (column ∷ columns) (take n (values ∷ more))) (let next : suc k + 1 ≡ suc (k + 1) = omega arith in next)
    ∙ ap (λ l. let c : TypedRow = record column { values = column.values ++ values } in c ∷ l) (joined-more columns more k d e (omega arith) (omega arith))

-- the types of two lists of columns agree one by one
pub type-at : (columns others : List TypedRow) (k : ℕ) (d : TypedRow) → types_of columns ≡ types_of others → k < length columns → (get_or columns k d).vtype ≡ (get_or others k d).vtype
type-at columns others k d same low =
    let many : length columns ≡ length others = sym (length-map columns (λ c. c.vtype)) ∙ ap length same ∙ length-map others (λ c. c.vtype) in
    sym (get_or-map (λ c. c.vtype) columns k d d.vtype low) ∙ ap (λ l. get_or l k d.vtype) same ∙ get_or-map (λ c. c.vtype) others k d d.vtype (omega (arith, many, low))

pub type-count : (columns others : List TypedRow) → types_of columns ≡ types_of others → length columns ≡ length others
type-count columns others same = sym (length-map columns (λ c. c.vtype)) ∙ ap length same ∙ length-map others (λ c. c.vtype)

-- columns that have all grown by as many rows are again of one length
pub joined-rows : (n m : ℕ) (columns : List TypedRow) (more : List (List Value)) → length columns ≡ length more → HaveRows n columns → All (λ values. length values ≡ m) more → HaveRows (n + m) (joined columns more)
joined-rows n m [] more many rows grown i d low = absurd (omega arith)
joined-rows n m (column ∷ columns) [] many rows grown i d low = absurd (omega arith)
joined-rows n m (column ∷ columns) (values ∷ more) many rows grown zero d low =
    length-append column.values values ∙ ap (λ k. k + length values) (All-head (λ (c : TypedRow). length c.values ≡ n) column columns rows) ∙ ap (λ k. n + k) (All-head (λ (l : List Value). length l ≡ m) values more grown)
joined-rows n m (column ∷ columns) (values ∷ more) many rows grown (suc i) d low =
    joined-rows n m columns more (omega arith) (All-tail (λ (c : TypedRow). length c.values ≡ n) column columns rows) (All-tail (λ (l : List Value). length l ≡ m) values more grown) i d (omega arith)

-- a row that was there is as it was
old-row : (n : ℕ) (columns : List TypedRow) (more : List (List Value)) (row : ℕ) → HaveRows n columns → row < n → row_values (joined columns more) row ≡ row_values columns row
old-row n [] more row rows low = refl
old-row n (column ∷ columns) [] row rows low = refl
old-row n (column ∷ columns) (values ∷ more) row rows low =
    let long : length column.values ≡ n = All-head (λ (c : TypedRow). length c.values ≡ n) column columns rows in
    ap (λ v. v ∷ row_values (joined columns more) row) (get_or_append_left column.values values (At None) row (omega (arith, long)))
    ∙ ap (λ l. get_or column.values row (At None) ∷ l) (old-row n columns more row (All-tail (λ (c : TypedRow). length c.values ≡ n) column columns rows) low)

-- a row behind them is one of those that came
new-row : (n : ℕ) (columns : List TypedRow) (more : List (List Value)) (row : ℕ) → length columns ≡ length more → HaveRows n columns → n ≤ row → row_values (joined columns more) row ≡ row_at more (row - n)
new-row n [] [] row many rows low = refl
new-row n [] (values ∷ more) row many rows low = absurd (omega arith)
new-row n (column ∷ columns) [] row many rows low = absurd (omega arith)
new-row n (column ∷ columns) (values ∷ more) row many rows low =
    let long : length column.values ≡ n = All-head (λ (c : TypedRow). length c.values ≡ n) column columns rows in
    ap (λ v. v ∷ row_values (joined columns more) row) (get_or-append_right column.values values n row (At None) long low)
    ∙ ap (λ l. get_or values (row - n) (At None) ∷ l) (new-row n columns more row (omega arith) (All-tail (λ (c : TypedRow). length c.values ≡ n) column columns rows) low)

-- messages of a kind in rows that are given as lists
abbrev rows_of : ℕ → List ℕ → List (List Value) → ℕ → Message
rows_of kind to values row = record { to = slice_index to row; kind = kind; values = row_at values row }

message-same : (to to' kind : ℕ) (values values' : List Value) → to ≡ to' → values ≡ values' → (let m : Message = record { to = to; kind = kind; values = values } in m) ≡ record { to = to'; kind = kind; values = values' }
message-same to to' kind values values' same_to same =
    ap (λ t. let m : Message = record { to = t; kind = kind; values = values } in m) same_to ∙ ap (λ l. let m : Message = record { to = to'; kind = kind; values = l } in m) same

-- the messages of columns that have grown are those that were there, and those that came
table-joined : (kind : ℕ) (to more_to : List ℕ) (columns : List TypedRow) (more : List (List Value)) → length columns ≡ length more → HaveRows (length to) columns →
    message_rows (record { kind = kind; to = to ++ more_to; columns = joined columns more }) ≡ message_rows (record { kind = kind; to = to; columns = columns }) ++ map (rows_of kind more_to more) (range_with_len 0 (length more_to))
table-joined kind to more_to columns more many rows =
    sym (fill_by_all (message_at grown) (before ++ after) (length (to ++ more_to)) nothing long each)
  where
    grown : MessageTable
    grown = record { kind = kind; to = to ++ more_to; columns = joined columns more }

    old : MessageTable
    old = record { kind = kind; to = to; columns = columns }

    before : List Message
    before = message_rows old

    after : List Message
    after = map (rows_of kind more_to more) (range_with_len 0 (length more_to))

    nothing : Message
    nothing = record { to = 0; kind = 0; values = [] }

    first : length before ≡ length to
    first = length-map-range_with_len (message_at old) 0 (length to)

    rest : length after ≡ length more_to
    rest = length-map-range_with_len (rows_of kind more_to more) 0 (length more_to)

    all : length (to ++ more_to) ≡ length to + length more_to
    all = length-append to more_to

    long : length (before ++ after) ≡ length (to ++ more_to)
    long = length-append before after ∙ ap (λ k. k + length after) first ∙ ap (λ k. length to + k) rest ∙ sym all

    each : (k : ℕ) → k < length (to ++ more_to) → get_or (before ++ after) k nothing ≡ message_at grown k
    each k low = elim (cases_lt k (length to)) [
      | inl here ↦
          get_or_append_left before after nothing k (omega (arith, first, here))
          ∙ get_or-map-range_with_len (message_at old) 0 (length to) k k nothing here (omega arith)
          ∙ message-same (slice_index to k) (slice_index (to ++ more_to) k) kind (row_values columns k) (row_values (joined columns more) k)
          (sym (get_or_append_left to more_to 0 k here)) (sym (old-row (length to) columns more k rows here))
      | inr there ↦
          get_or-append_right before after (length to) k nothing first there
          ∙ get_or-map-range_with_len (rows_of kind more_to more) 0 (length more_to) (k - length to) (k - length to) nothing (omega (arith, all, low, there)) (omega arith)
          ∙ message-same (slice_index more_to (k - length to)) (slice_index (to ++ more_to) k) kind (row_at more (k - length to)) (row_values (joined columns more) k)
          (sym (get_or-append_right to more_to (length to) k 0 refl there)) (sym (new-row (length to) columns more k many rows there))
    ]

-- the values of one row stand in the first row of columns that have it alone
one-row : (columns : List TypedRow) (row : ℕ) → row_at (values_in_row columns row) 0 ≡ row_values columns row
one-row [] row = refl
one-row (column ∷ columns) row = ap (λ l. get_or column.values row (At None) ∷ l) (one-row columns row)

-- a message was added
pub row-added : (kind to : ℕ) (old : List ℕ) (columns others : List TypedRow) (row : ℕ) → types_of columns ≡ types_of others → HaveRows (length old) columns →
    message_rows (record { kind = kind; to = old ++ to ∷ []; columns = joined columns (values_in_row others row) }) ≡ message_rows (record { kind = kind; to = old; columns = columns }) ++ record { to = to; kind = kind; values = row_values others row } ∷ []
row-added kind to old columns others row same rows =
    table-joined kind old (to ∷ []) columns (values_in_row others row) (type-count columns others same ∙ sym (length-map others (λ c. get_or c.values row (At None) ∷ []))) rows
    ∙ ap (λ l. message_rows (record { kind = kind; to = old; columns = columns }) ++ (let m : Message = record { to = to; kind = kind; values = l } in m) ∷ []) (one-row others row)

-- all messages of others were added
pub table-added : (kind : ℕ) (old more : List ℕ) (columns others : List TypedRow) → types_of columns ≡ types_of others → HaveRows (length old) columns →
    message_rows (record { kind = kind; to = old ++ more; columns = joined columns (all_values others) }) ≡ message_rows (record { kind = kind; to = old; columns = columns }) ++ message_rows (record { kind = kind; to = more; columns = others })
table-added kind old more columns others same rows = table-joined kind old more columns (all_values others) (type-count columns others same ∙ sym (length-map others (λ c. c.values))) rows

-- each of the columns has a row more
pub row-rows : (n : ℕ) (columns others : List TypedRow) (row : ℕ) → types_of columns ≡ types_of others → HaveRows n columns → HaveRows (n + 1) (joined columns (values_in_row others row))
row-rows n columns others row same rows =
    joined-rows n 1 columns (values_in_row others row) (type-count columns others same ∙ sym (length-map others (λ c. get_or c.values row (At None) ∷ []))) rows (ones others)
  where
    ones : (others : List TypedRow) → All (λ values. length values ≡ 1) (values_in_row others row)
    ones [] i d low = absurd (omega arith)
    ones (column ∷ others) zero d low = refl
    ones (column ∷ others) (suc i) d low = ones others i d (omega arith)

-- each of the columns has all rows of others more
pub all-rows : (n m : ℕ) (columns others : List TypedRow) → types_of columns ≡ types_of others → HaveRows n columns → HaveRows m others → HaveRows (n + m) (joined columns (all_values others))
all-rows n m columns others same rows more =
    joined-rows n m columns (all_values others) (type-count columns others same ∙ sym (length-map others (λ c. c.values))) rows
    (λ i d low.
    let inside : i < length others = omega (arith, low, length-map others (λ c. c.values)) in
    let c : TypedRow = record { vtype = VTypes.I32; values = d } in
    ap length (get_or-map (λ c. c.values) others i c d inside) ∙ more i c inside)

pub joined-long : (columns : List TypedRow) (more : List (List Value)) → length (joined columns more) ≡ length columns
joined-long columns more = type-count (joined columns more) columns (joined-types columns more)

-- columns with no row
pub emptied-types : (columns : List TypedRow) → types_of (emptied columns) ≡ types_of columns
emptied-types [] = refl
emptied-types (column ∷ columns) = ap (λ l. column.vtype ∷ l) (emptied-types columns)

pub emptied-rows : (columns : List TypedRow) → HaveRows 0 (emptied columns)
emptied-rows [] i d low = absurd (omega arith)
emptied-rows (column ∷ columns) zero d low = refl
emptied-rows (column ∷ columns) (suc i) d low = emptied-rows columns i d (omega arith)

-- the types of the first columns are the same, and those of the next
pub types-more : (columns others : List TypedRow) (k : ℕ) (d : TypedRow) → k < length columns → k < length others → take k (types_of columns) ≡ take k (types_of others) → (get_or columns k d).vtype ≡ (get_or others k d).vtype → take (k + 1) (types_of columns) ≡ take (k + 1) (types_of others)
types-more columns others k d low here same next =
    take_more_same (types_of columns) (types_of others) k d.vtype (omega (arith, low, length-map columns (λ c. c.vtype))) (omega (arith, here, length-map others (λ c. c.vtype))) same
    (get_or-map (λ c. c.vtype) columns k d d.vtype low ∙ next ∙ sym (get_or-map (λ c. c.vtype) others k d d.vtype here))

-- the values of one more column in a row
pub row-more : (columns : List TypedRow) (row k : ℕ) (d : TypedRow) → k < length columns → row_values (take (k + 1) columns) row ≡ row_values (take k columns) row ++ get_or (get_or columns k d).values row (At None) ∷ []
row-more [] row k d low = absurd (omega arith)
row-more (column ∷ columns) row zero d low = refl
row-more (column ∷ columns) row (suc k) d low =
    ap (λ n. row_values (take n (column ∷ columns)) row) (let next : suc k + 1 ≡ suc (k + 1) = omega arith in next)
    ∙ ap (λ l. get_or column.values row (At None) ∷ l) (row-more columns row k d (omega arith))

-- the next column to grow is as it was
now-at : (old now : List TypedRow) (more : List (List Value)) (k : ℕ) (x : TypedRow) → now ≡ joined old (take k more) → x ≡ get_or now k x → x ≡ get_or old k x
now-at old now more k x is read = read ∙ ap (λ l. get_or l k x) is ∙ joined-at old more k x

-- it has the type of the one that stands beside it
pub next-type : (old others now : List TypedRow) (more : List (List Value)) (k : ℕ) (x y : TypedRow) → now ≡ joined old (take k more) → types_of old ≡ types_of others → k < length old → x ≡ get_or now k x → y ≡ get_or others k y → x.vtype ≡ y.vtype
next-type old others now more k x y is same low read beside =
    let inside : k < length others = omega (arith, low, type-count old others same) in
    ap (λ (c : TypedRow). c.vtype) (now-at old now more k x is read) ∙ type-at old others k x same low ∙ ap (λ (c : TypedRow). c.vtype) (sym (get_or_read others k y inside beside x))

-- once it has grown, one more column has
pub next-column : (f : TypedRow → List Value) (old others now : List TypedRow) (k : ℕ) (x y new : TypedRow) (values : List Value) → now ≡ joined old (take k (map f others)) → types_of old ≡ types_of others → k < length old →
    x ≡ get_or now k x → y ≡ get_or others k y → new.vtype ≡ x.vtype → new.values ≡ x.values ++ values → values ≡ f y → set now k new ≡ joined old (take (k + 1) (map f others))
next-column f old others now k x y new values is same low read beside new_type new_values came =
    let inside : k < length others = omega (arith, low, type-count old others same) in
    let more : List (List Value) = map f others in
    let was : x ≡ get_or old k x = now-at old now more k x is read in
    let next : get_or more k [] ≡ values = get_or-map f others k y [] inside ∙ ap f (sym beside) ∙ sym came in
    ap (λ l. set l k new) is
    ∙ ap (λ c. set (joined old (take k more)) k c)
    (column-is new (get_or old k x).vtype ((get_or old k x).values ++ get_or more k []) (new_type ∙ ap (λ (c : TypedRow). c.vtype) was)
    (new_values ∙ ap (λ (c : TypedRow). c.values ++ values) was ∙ ap (λ l. (get_or old k x).values ++ l) (sym next)))
    ∙ sym (joined-more old more k x [] low (omega (arith, inside, length-map others f)))

-- what is true of all is true of each, and maps agree where what they map does
pub map-on : {A B : Type 0} (P : A → Type 0) (f f' : A → B) (xs : List A) → ((x : A) → P x → f x ≡ f' x) → All P xs → map f xs ≡ map f' xs
map-on P f f' [] same all = refl
map-on P f f' (x ∷ xs) same all = ap (λ y. y ∷ map f xs) (same x (All-head P x xs all)) ∙ ap (λ l. f' x ∷ l) (map-on P f f' xs same (All-tail P x xs all))

-- some rows of columns
pub picked-more : (columns : List TypedRow) (rows : List ℕ) (k : ℕ) (d : TypedRow) (column : TypedRow) → k < length columns → column.vtype ≡ (get_or columns k d).vtype → column.values ≡ map (value_at (get_or columns k d).values) rows →
    picked_rows (take (k + 1) columns) rows ≡ picked_rows (take k columns) rows ++ column ∷ []
picked-more columns rows k d column low same_type same =
    ap (λ l. picked_rows l rows) (take_more columns k d low)
    ∙ map-append (λ (c : TypedRow). let some : TypedRow = record c { values = map (value_at c.values) rows } in some) (take k columns) (get_or columns k d ∷ [])
    ∙ ap (λ c. picked_rows (take k columns) rows ++ c ∷ []) (sym (column-is column (get_or columns k d).vtype (map (value_at (get_or columns k d).values) rows) same_type same))

pub picked-full : (columns : List TypedRow) (rows : List ℕ) → HaveRows (length rows) (picked_rows columns rows)
picked-full [] rows i d low = absurd (omega arith)
picked-full (column ∷ columns) rows zero d low = length-map rows (value_at column.values)
picked-full (column ∷ columns) rows (suc i) d low = picked-full columns rows i d (omega arith)

picked-row : (columns : List TypedRow) (rows : List ℕ) (k : ℕ) → k < length rows → row_values (picked_rows columns rows) k ≡ row_values columns (get_or rows k 0)
picked-row [] rows k low = refl
picked-row (column ∷ columns) rows k low =
    ap (λ v. v ∷ row_values (picked_rows columns rows) k) (get_or-map (value_at column.values) rows k 0 (At None) low)
    ∙ ap (λ l. value_at column.values (get_or rows k 0) ∷ l) (picked-row columns rows k low)

-- and their messages
pub picked-messages : (kind : ℕ) (to rows : List ℕ) (columns : List TypedRow) →
    message_rows (record { kind = kind; to = map (slice_index to) rows; columns = picked_rows columns rows }) ≡ map (message_at (record { kind = kind; to = to; columns = columns })) rows
picked-messages kind to rows columns =
    sym (fill_by_all (message_at some) (map (message_at all) rows) (length (map (slice_index to) rows)) nothing long each)
  where
    all : MessageTable
    all = record { kind = kind; to = to; columns = columns }

    some : MessageTable
    some = record { kind = kind; to = map (slice_index to) rows; columns = picked_rows columns rows }

    nothing : Message
    nothing = record { to = 0; kind = 0; values = [] }

    count : length (map (slice_index to) rows) ≡ length rows
    count = length-map rows (slice_index to)

    long : length (map (message_at all) rows) ≡ length (map (slice_index to) rows)
    long = length-map rows (message_at all) ∙ sym count

    each : (k : ℕ) → k < length (map (slice_index to) rows) → get_or (map (message_at all) rows) k nothing ≡ message_at some k
    each k low =
        let here : k < length rows = omega (arith, low, count) in
        get_or-map (message_at all) rows k 0 nothing here
        ∙ message-same (slice_index to (get_or rows k 0)) (slice_index (map (slice_index to) rows) k) kind (row_values columns (get_or rows k 0)) (row_values (picked_rows columns rows) k)
        (sym (get_or-map (slice_index to) rows k 0 0 here)) (sym (picked-row columns rows k here))
