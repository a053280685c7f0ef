-- What the parts of a graph say of it, when it is put together.
use Rattle.std.proofs.Common.{◌≡◌, ◌<◌, ◌≤◌, ℕ, List, ◌++◌, map, length, get_or, sym, subst, ◌∙◌, ap, arith, inl, inr}
use Rattle.std.specs.Prelude.{slice_index, All, Contains, ◌↔◌}
use Rattle.std.specs.List.Sorted.{IsStrictlyIncreasing}
use Rattle.std.proofs.lemmas.List.{length-map, get_or_default}
use Rattle.std.proofs.lemmas.List.Elements.{Contains-get_or, Contains-append_left, Contains-append_right, All-weaker}
use Rattle.gm_value.specs.declared.values.Value.{Value}
use Rattle.gm_graph.specs.declared.builds.RawGraph.{RawGraph}
use Rattle.gm_columns.specs.Columns.{TypedRow}
use Rattle.gm_graph.specs.Builds.{IsBuildable, distinct, numbers_of, spread_out}
use Rattle.gm_graph.specs.Spreads.{IsRowOf, HasRow, value_in}
use Rattle.gm_graph.proofs.Building.{numbers-few, rows-few, columns-spread, spread-rows}

-- the ascending numbers that name nodes
pub record IsNumbering (raw : RawGraph) (numbers : List ℕ) : Type 0 where
  pub ascending : IsStrictlyIncreasing numbers
  pub members : (n : ℕ) → Contains numbers n ↔ Contains (numbers_of raw) n

pub numbering : (raw : RawGraph) (numbers from to extra : List ℕ) → from ≡ raw.from → to ≡ raw.to → extra ≡ raw.extra → IsStrictlyIncreasing numbers → ((n : ℕ) → Contains numbers n ↔ Contains (from ++ to ++ extra) n) → IsNumbering raw numbers
numbering raw numbers from to extra a b e up members = record {
  ascending = up;
  members = λ n.
      let P : List ℕ → Type 0 = λ l. Contains numbers n ↔ Contains l n in
      let same : from ++ to ++ extra ≡ numbers_of raw = cc in
      subst P same (members n);
}

-- the same of numbers that are the numbering's
pub numbering-as : (raw : RawGraph) (numbers known from to extra : List ℕ) → numbers ≡ known → from ≡ raw.from → to ≡ raw.to → extra ≡ raw.extra → IsStrictlyIncreasing known → ((n : ℕ) → Contains known n ↔ Contains (from ++ to ++ extra) n) → IsNumbering raw numbers
numbering-as raw numbers known from to extra same a b e up members =
    let P : List ℕ → Type 0 = λ l. IsNumbering raw l in
    subst P (sym same) (numbering raw known from to extra a b e up members)

-- there are few of them
pub nodes-few : (raw : RawGraph) (numbers : List ℕ) → IsBuildable raw → IsNumbering raw numbers → length numbers ≤ 2147483647
nodes-few raw numbers can held = omega (arith, numbers-few numbers (numbers_of raw) held.ascending held.members, can.few_nodes)

pub extra-few : (raw : RawGraph) → IsBuildable raw → length raw.extra ≤ 2147483647
extra-few raw can = omega (arith, rows-few raw.extra (raw.from ++ raw.to) can.one_row_a_node, can.few_nodes)

-- each number that names a node is among them
all-known : (known numbers ends named : List ℕ) → known ≡ numbers → ends ≡ named → All (Contains numbers) named → All (Contains known) ends
all-known known numbers ends named a b h =
    let P : List ℕ → Type 0 = λ l. All (Contains l) named in
    let Q : List ℕ → Type 0 = λ l. All (Contains known) l in
    subst Q (sym b) (subst P (sym a) h)

pub from-known : (raw : RawGraph) (numbers known ends : List ℕ) → IsNumbering raw numbers → known ≡ numbers → ends ≡ raw.from → All (Contains known) ends
from-known raw numbers known ends held a b =
    all-known known numbers ends raw.from a b (λ k d h. (held.members (get_or raw.from k d)).1
    (Contains-append_left (raw.from ++ raw.to) raw.extra _ (Contains-append_left raw.from raw.to _ (Contains-get_or raw.from k d h))))

pub to-known : (raw : RawGraph) (numbers known ends : List ℕ) → IsNumbering raw numbers → known ≡ numbers → ends ≡ raw.to → All (Contains known) ends
to-known raw numbers known ends held a b =
    all-known known numbers ends raw.to a b (λ k d h. (held.members (get_or raw.to k d)).1
    (Contains-append_left (raw.from ++ raw.to) raw.extra _ (Contains-append_right raw.from raw.to _ (Contains-get_or raw.to k d h))))

pub extra-known : (raw : RawGraph) (numbers known ends : List ℕ) → IsNumbering raw numbers → known ≡ numbers → ends ≡ raw.extra → All (Contains known) ends
extra-known raw numbers known ends held a b =
    all-known known numbers ends raw.extra a b (λ k d h. (held.members (get_or raw.extra k d)).1
    (Contains-append_right (raw.from ++ raw.to) raw.extra _ (Contains-get_or raw.extra k d h)))

-- the row of each node
pub record IsRows (raw : RawGraph) (numbers rows : List ℕ) : Type 0 where
  pub len : length rows ≡ length numbers
  pub each : (k : ℕ) → k < length numbers → IsRowOf raw.extra (length raw.extra) (slice_index numbers k) (slice_index rows k)

pub rows-held : (raw : RawGraph) (numbers rows known extra : List ℕ) → known ≡ numbers → extra ≡ raw.extra → length rows ≡ length known → ((k : ℕ) → k < length known → IsRowOf extra (length extra) (slice_index known k) (slice_index rows k)) → IsRows raw numbers rows
rows-held raw numbers rows known extra a b long held =
    let P : List ℕ → Type 0 = λ l. (k : ℕ) → k < length l → IsRowOf extra (length extra) (slice_index l k) (slice_index rows k) in
    let Q : List ℕ → Type 0 = λ l. (k : ℕ) → k < length numbers → IsRowOf l (length l) (slice_index numbers k) (slice_index rows k) in
    record { len = long ∙ ap length a; each = subst Q b (subst P a held) }

has-row : (extra : List ℕ) (number row : ℕ) → IsRowOf extra (length extra) number row → HasRow (length extra) row
has-row extra number row held = elim held [ inl none ↦ inl none.0 | inr some ↦ inr some.0 ]

pub has-rows : (raw : RawGraph) (numbers rows lent : List ℕ) (columns : List TypedRow) → IsBuildable raw → IsRows raw numbers rows → lent ≡ rows → columns ≡ raw.node_columns → All (λ c. All (HasRow (length c.values)) lent) columns
has-rows raw numbers rows lent columns can held a b =
    let each : (n : ℕ) → length raw.extra ≡ n → All (HasRow n) rows = λ n e.
    let P : ℕ → Type 0 = λ m. All (HasRow m) rows in
    subst P e (λ k d h. let here = has-row raw.extra _ _ (held.each k (omega (arith, held.len))) in
    let read = get_or_default rows k d 0 h in
    let R : ℕ → Type 0 = λ row. HasRow (length raw.extra) row in
    subst R (sym read) here) in
    let P : List ℕ → Type 0 = λ l. All (λ (c : TypedRow). All (HasRow (length c.values)) l) raw.node_columns in
    let Q : List TypedRow → Type 0 = λ l. All (λ (c : TypedRow). All (HasRow (length c.values)) lent) l in
    subst Q (sym b) (subst P (sym a) (All-weaker _ _ (λ (c : TypedRow) (e : length c.values ≡ length raw.extra). each (length c.values) (sym e)) raw.node_columns can.node_rows))

pub ends-length : (f : ℕ → ℕ) (xs ys : List ℕ) → map f xs ≡ ys → length xs ≡ length ys
ends-length f xs ys e = sym (length-map xs f) ∙ ap length e

pub within-as : (a b : ℕ) (xs : List ℕ) → a ≡ b → All (λ n. n < a) xs → All (λ n. n < b) xs
within-as a b xs e h = let P : ℕ → Type 0 = λ m. All (λ n. n < m) xs in subst P e h

pub lengths-as : (a b : ℕ) (xs ys : List TypedRow) → a ≡ b → ys ≡ xs → All (λ c. length c.values ≡ a) xs → All (λ c. length c.values ≡ b) ys
lengths-as a b xs ys e f h =
    let P : ℕ → Type 0 = λ m. All (λ (c : TypedRow). length c.values ≡ m) xs in
    let Q : List TypedRow → Type 0 = λ l. All (λ (c : TypedRow). length c.values ≡ b) l in
    subst Q (sym f) (subst P e h)

-- the numbers of ends, by the numbers that were lent
pub numbers-as : (known numbers xs lent ends : List ℕ) → known ≡ numbers → lent ≡ ends → map (slice_index known) xs ≡ lent → map (slice_index numbers) xs ≡ ends
numbers-as known numbers xs lent ends a b h =
    let P : List ℕ → Type 0 = λ l. map (slice_index l) xs ≡ lent in
    subst P a h ∙ b

pub columns-as : (raw : RawGraph) (numbers rows lent : List ℕ) (columns : List TypedRow) (spread : List (List Value)) → IsBuildable raw → IsRows raw numbers rows → lent ≡ rows → columns ≡ raw.node_columns → spread ≡ map (λ c. map (value_in c) lent) columns → spread ≡ map (spread_out numbers raw.extra) raw.node_columns
columns-as raw numbers rows lent columns spread can held a b h =
    let P : List ℕ → Type 0 = λ l. spread ≡ map (λ c. map (value_in c) l) columns in
    let Q : List TypedRow → Type 0 = λ l. spread ≡ map (λ c. map (value_in c) rows) l in
    subst Q b (subst P a h) ∙ columns-spread raw.node_columns raw.extra numbers rows can.node_rows (extra-few raw can) can.one_row_a_node held.len held.each

pub spread-as : (raw : RawGraph) (numbers rows lent : List ℕ) (columns spread : List TypedRow) (n : ℕ) → IsRows raw numbers rows → lent ≡ rows → length numbers ≡ n → map (λ c. c.values) spread ≡ map (λ c. map (value_in c) lent) columns → All (λ c. length c.values ≡ n) spread
spread-as raw numbers rows lent columns spread n held a e h = spread-rows spread columns lent n (ap length a ∙ (held.len ∙ e)) h
