-- Messages in columns, and others behind them.
use Rattle.std.proofs.Common.{◌≡◌, ◌<◌, ◌≤◌, ◌+◌, ◌-◌, ℕ, All, List, [], ◌∷◌, ◌++◌, length, map, take, get_or, Option, Some, sym, ap, ◌∙◌, arith}
use Rattle.std.specs.Prelude.{OnOk, Result, Ok, Err, slice_index, slice_index_or}
use Rattle.std.proofs.lemmas.List.{get_or_append_left, get_or-append_right, append_assoc, map-append, take_more}
use Rattle.std.proofs.lemmas.List.FromFn.{length-map-range_with_len, get_or-map-range_with_len}
use Rattle.gm_machine.specs.Vertex.{Message}
use Rattle.gm_message_columns.specs.MessageTables.{MessageTable, message_at, message_to, message_rows, rows_if_any}
use Rattle.gm_message_columns.proofs.TableLemmas.{map-on}

-- there is a message for each node
pub rows-long : (t : MessageTable) → length (message_rows t) ≡ length t.to
rows-long t = length-map-range_with_len (message_at t) 0 (length t.to)

-- a message in columns
pub at-row : (t : MessageTable) (others all : List Message) (i : ℕ) (d : Message) → message_rows t ++ others ≡ all → i < length (message_rows t) → slice_index_or all i d ≡ message_at t i
at-row t others all i d is low =
    ap (λ l. slice_index_or l i d) (sym is)
    ∙ get_or_append_left (message_rows t) others d i low
    ∙ get_or-map-range_with_len (message_at t) 0 (length t.to) i i d (omega (arith, low, rows-long t)) (omega arith)

-- the same as one to another node
pub to-row : (t : MessageTable) (others all : List Message) (i to : ℕ) (d : Message) → message_rows t ++ others ≡ all → i < length (message_rows t) → message_to to t i ≡ record (slice_index_or all i d) { to = to }
to-row t others all i to d is low = sym (ap (λ (m : Message). let n : Message = record m { to = to } in n) (at-row t others all i d is low))

-- a message behind those in columns
pub at-other : (rows others all : List Message) (i n : ℕ) (d : Message) → rows ++ others ≡ all → n ≡ length rows → n ≤ i → slice_index_or all i d ≡ slice_index_or others (i - n) d
at-other rows others all i n d is long low = ap (λ l. slice_index_or l i d) (sym is) ∙ get_or-append_right rows others n i d (sym long) low

pub to-other : (rows others all : List Message) (i n to : ℕ) (d : Message) → rows ++ others ≡ all → n ≡ length rows → n ≤ i →
    (let m : Message = record (slice_index_or others (i - n) d) { to = to } in m) ≡ record (slice_index_or all i d) { to = to }
to-other rows others all i n to d is long low = sym (ap (λ (m : Message). let n' : Message = record m { to = to } in n') (at-other rows others all i n d is long low))

-- where there are some in columns
pub some-list : (columns : Option MessageTable) (t : MessageTable) (others all : List Message) → columns ≡ Some t → rows_if_any columns ++ others ≡ all → message_rows t ++ others ≡ all
some-list columns t others all some is = ap (λ o. rows_if_any o ++ others) (sym some) ∙ is

pub some-low : (columns : Option MessageTable) (t : MessageTable) (i n : ℕ) → columns ≡ Some t → n ≡ length (rows_if_any columns) → i < n → i < length (message_rows t)
some-low columns t i n some long low = omega (arith, low, long, ap (λ o. length (rows_if_any o)) some)

pub some-row : (columns : Option MessageTable) (t : MessageTable) (i n : ℕ) → columns ≡ Some t → n ≡ length (rows_if_any columns) → i < n → i < length t.to
some-row columns t i n some long low = omega (arith, some-low columns t i n some long low, rows-long t)

-- one message more is among the first
pub rows-more : (t : MessageTable) (row to : ℕ) → row < length (message_rows t) → to ≡ slice_index t.to row → take (row + 1) (message_rows t) ≡ take row (message_rows t) ++ message_to to t row ∷ []
rows-more t row to low read =
    let d : Message = message_at t row in
    let inside : row < length t.to = omega (arith, low, rows-long t) in
    take_more (message_rows t) row d low
    ∙ ap (λ m. take row (message_rows t) ++ m ∷ []) (get_or-map-range_with_len (message_at t) 0 (length t.to) row row d inside (omega arith))
    ∙ ap (λ k. take row (message_rows t) ++ message_to k t row ∷ []) (sym read)

-- messages behind messages, once one more has come
pub rows-added : (t : MessageTable) (row to : ℕ) (first old new : List Message) → row < length (message_rows t) → to ≡ slice_index t.to row → old ≡ first ++ take row (message_rows t) → new ≡ old ++ message_to to t row ∷ [] → new ≡ first ++ take (row + 1) (message_rows t)
rows-added t row to first old new low read so_far added =
    added ∙ ap (λ l. l ++ message_to to t row ∷ []) so_far ∙ append_assoc first (take row (message_rows t)) (message_to to t row ∷ []) ∙ ap (λ l. first ++ l) (sym (rows-more t row to low read))

-- what follows where a call went well
pub on-ok : {R E A B : Type 0} (r : Result R E) → (A → B) → OnOk r A → OnOk r B
on-ok (Ok x) go h = go h
on-ok (Err e) go h = h

-- a message in columns was added, as one to another node
pub row-sent : {R E : Type 0} (r : Result R E) (columns : Option MessageTable) (t : MessageTable) (others all old new : List Message) (i n to : ℕ) → columns ≡ Some t → rows_if_any columns ++ others ≡ all → n ≡ length (rows_if_any columns) → i < n →
    OnOk r (new ≡ old ++ message_to to t i ∷ []) → OnOk r ((d : Message) → new ≡ old ++ (record (slice_index_or all i d) { to = to }) ∷ [])
row-sent r columns t others all old new i n to some is long low =
    on-ok r (λ added d. added ∙ ap (λ m. old ++ m ∷ []) (to-row t others all i to d (some-list columns t others all some is) (some-low columns t i n some long low)))

-- one more of some messages has come, where what comes is `f` of its place
pub more-come : {A : Type 0} (f : ℕ → A) (rows : List ℕ) (k : ℕ) (first old new : List A) → k < length rows → old ≡ first ++ map f (take k rows) → new ≡ old ++ f (get_or rows k 0) ∷ [] → new ≡ first ++ map f (take (k + 1) rows)
more-come f rows k first old new low so_far added =
    added
    ∙ ap (λ l. l ++ f (get_or rows k 0) ∷ []) so_far
    ∙ append_assoc first (map f (take k rows)) (f (get_or rows k 0) ∷ [])
    ∙ ap (λ l. first ++ l) (sym (ap (map f) (take_more rows k 0 low) ∙ map-append f (take k rows) (get_or rows k 0 ∷ [])))

-- some messages in columns, as items of the list that they are
pub rows-are : (t : MessageTable) (all : List Message) (rows : List ℕ) (d : Message) → message_rows t ≡ all → All (λ row. row < length all) rows → map (message_at t) rows ≡ map (λ row. slice_index_or all row d) rows
rows-are t all rows d is low =
    map-on (λ row. row < length all) (message_at t) (λ row. slice_index_or all row d) rows
    (λ row here.
    let inside : row < length t.to = omega (arith, here, ap length is, rows-long t) in
    sym (ap (λ l. slice_index_or l row d) (sym is) ∙ get_or-map-range_with_len (message_at t) 0 (length t.to) row row d inside (omega arith)))
    low

pub rows-low : (t : MessageTable) (all : List Message) (rows : List ℕ) → message_rows t ≡ all → All (λ row. row < length all) rows → All (λ row. row < length t.to) rows
rows-low t all rows is low = λ k d here. omega (arith, low k d here, ap length is, rows-long t)
