-- What the rows of the edges say of a graph, when it is put together.
use Rattle.std.proofs.Common.{◌≡◌, ◌<◌, ◌≤◌, ℕ, List, Option, map, length, sym, subst, ◌∙◌, ap, arith}
use Rattle.std.specs.Prelude.{slice_index, All, IfSome}
use Rattle.gm_columns.specs.Columns.{TypedRow}
use Rattle.gm_model.specs.Graphs.{Edge, IsWithin}
use Rattle.gm_graph.specs.declared.builds.RawGraph.{RawGraph}
use Rattle.gm_graph.specs.declared.groups.Groups.{Groups}
use Rattle.gm_graph.specs.Builds.{IsBuildable}
use Rattle.gm_graph.specs.Rows.{edge_list, sources_in, targets_in, rows_by_line, value_at, by_line, IsGrouped, IsGroupedWith}
use Rattle.gm_graph.proofs.Building.{map-from, map-to, edges-within}
use Rattle.gm_graph.proofs.Assembly.{ends-length, within-as}
use Rattle.gm_graph.proofs.Lines.{lines-below-all, sources-are, targets-are}
use Rattle.gm_graph.proofs.ByLine.{columns-back, placed-rows}

-- the ends of edges between so many nodes, by line
pub record AreEnds (nodes : ℕ) (ss ts : List ℕ) : Type 0 where
  pub long : length ts ≡ length ss
  pub few : length ss ≤ 2147483647
  pub from_within : All (λ n. n < nodes) ss
  pub to_within : All (λ n. n < nodes) ts

-- the rows of these edges
pub record AreRows (nodes : ℕ) (ss ts : List ℕ) (out : Groups) (inw : Option Groups) : Type 0 where
  pub long : length ts ≡ length ss
  pub few : length ss ≤ 2147483647
  pub from_within : All (λ n. n < nodes) ss
  pub to_within : All (λ n. n < nodes) ts
  pub out_rows : IsGrouped nodes ss ts out
  pub in_rows : IfSome inw (IsGroupedWith nodes ts ss (rows_by_line out))

-- the indices of the numbers between which the edges lead are their ends
pub ends : (raw : RawGraph) (known numbers ss ts : List ℕ) (count : ℕ) → IsBuildable raw → numbers ≡ known → All (λ n. n < length known) ss → All (λ n. n < length known) ts → map (slice_index known) ss ≡ raw.from → map (slice_index known) ts ≡ raw.to → count ≡ length numbers → AreEnds count ss ts
ends raw known numbers ss ts count can same from_in to_in from_are to_are nodes =
    let from_count = ends-length (slice_index known) ss raw.from from_are in
    let to_count = ends-length (slice_index known) ts raw.to to_are in
    let size : length known ≡ count = ap length (sym same) ∙ sym nodes in
    record {
      long = to_count ∙ (can.both_ends ∙ sym from_count);
      few = omega (arith, from_count, can.few_edges);
      from_within = within-as (length known) count ss size from_in;
      to_within = within-as (length known) count ts size to_in;
    }

-- the rows of these edges, when they are grouped
pub grouped : (nodes count : ℕ) (ss ts : List ℕ) (out : Groups) (inw : Option Groups) → count ≡ nodes → AreEnds count ss ts → IsGrouped count ss ts out → IfSome inw (IsGroupedWith count ts ss (rows_by_line out)) → AreRows nodes ss ts out inw
grouped nodes count ss ts out inw same held outward inward =
    let P : ℕ → Type 0 = λ m. AreRows m ss ts out inw in
    subst P same (record {
      long = held.long;
      few = held.few;
      from_within = held.from_within;
      to_within = held.to_within;
      out_rows = outward;
      in_rows = inward;
    })

-- the ends of the edges are those that the rows show
pub from-shown : (nodes : ℕ) (ss ts : List ℕ) (out : Groups) (inw : Option Groups) → AreRows nodes ss ts out inw → sources_in out ≡ ss
from-shown nodes ss ts out inw held = sources-are nodes ss ts out held.out_rows held.from_within

pub to-shown : (nodes : ℕ) (ss ts : List ℕ) (out : Groups) (inw : Option Groups) → AreRows nodes ss ts out inw → targets_in out ≡ ts
to-shown nodes ss ts out inw held = targets-are nodes ss ts out held.out_rows held.from_within held.long

pub edges-shown : (nodes : ℕ) (ss ts : List ℕ) (out : Groups) (inw : Option Groups) → AreRows nodes ss ts out inw → edge_list (sources_in out) (targets_in out) ≡ edge_list ss ts
edges-shown nodes ss ts out inw held =
    ap (λ l. edge_list l (targets_in out)) (from-shown nodes ss ts out inw held) ∙ ap (λ l. edge_list ss l) (to-shown nodes ss ts out inw held)

-- what the rows keep
pub lines-few : (nodes : ℕ) (ss ts : List ℕ) (out : Groups) (inw : Option Groups) → AreRows nodes ss ts out inw → length out.edges.items ≤ 2147483647
lines-few nodes ss ts out inw held = omega (arith, held.out_rows.edges_row.len, held.few)

pub from-within : (nodes : ℕ) (ss ts : List ℕ) (out : Groups) (inw : Option Groups) → AreRows nodes ss ts out inw → All (λ n. n < nodes) (sources_in out)
from-within nodes ss ts out inw held =
    let P : List ℕ → Type 0 = λ l. All (λ n. n < nodes) l in
    subst P (sym (from-shown nodes ss ts out inw held)) held.from_within

pub to-within : (nodes : ℕ) (ss ts : List ℕ) (out : Groups) (inw : Option Groups) → AreRows nodes ss ts out inw → All (λ n. n < nodes) (targets_in out)
to-within nodes ss ts out inw held =
    let P : List ℕ → Type 0 = λ l. All (λ n. n < nodes) l in
    subst P (sym (to-shown nodes ss ts out inw held)) held.to_within

pub out-grouped : (nodes : ℕ) (ss ts : List ℕ) (out : Groups) (inw : Option Groups) → AreRows nodes ss ts out inw → IsGrouped nodes (sources_in out) (targets_in out) out
out-grouped nodes ss ts out inw held =
    let P : List ℕ → Type 0 = λ l. IsGrouped nodes l ts out in
    let Q : List ℕ → Type 0 = λ l. IsGrouped nodes (sources_in out) l out in
    subst Q (sym (to-shown nodes ss ts out inw held)) (subst P (sym (from-shown nodes ss ts out inw held)) held.out_rows)

pub in-grouped : (nodes : ℕ) (ss ts : List ℕ) (out : Groups) (inw : Option Groups) → AreRows nodes ss ts out inw → IfSome inw (IsGroupedWith nodes (targets_in out) (sources_in out) (rows_by_line out))
in-grouped nodes ss ts out inw held =
    let P : List ℕ → Type 0 = λ l. IfSome inw (IsGroupedWith nodes l ss (rows_by_line out)) in
    let Q : List ℕ → Type 0 = λ l. IfSome inw (IsGroupedWith nodes (targets_in out) l (rows_by_line out)) in
    subst Q (sym (from-shown nodes ss ts out inw held)) (subst P (sym (to-shown nodes ss ts out inw held)) held.in_rows)

-- the lines that were lent have values in each column that was lent
pub lines-have-values : (nodes : ℕ) (ss ts lent : List ℕ) (out : Groups) (inw : Option Groups) (columns lent_columns : List TypedRow) (count : ℕ) → AreRows nodes ss ts out inw → lent ≡ out.edges.items → lent_columns ≡ columns → length ss ≡ count → All (λ c. length c.values ≡ count) columns → All (λ c. All (λ line. line < length c.values) lent) lent_columns
lines-have-values nodes ss ts lent out inw columns lent_columns count held a b same long =
    let P : List TypedRow → Type 0 = λ l. All (λ (c : TypedRow). length c.values ≡ count) l in
    let Q : List ℕ → Type 0 = λ l. All (λ line. line < length ss) l in
    let moved : P lent_columns = subst P (sym b) long in
    let below : Q lent = subst Q (sym a) (lines-below-all nodes ss ts out held.out_rows held.from_within) in
    λ k d h j e g. omega (arith, moved k d h, below j e g)

-- each column has a value in each row
pub rows-filled : (lent lines : List ℕ) (lent_columns placed : List TypedRow) → lent ≡ lines → map (λ c. c.values) placed ≡ map (λ c. map (value_at c.values) lent) lent_columns → All (λ c. length c.values ≡ length lines) placed
rows-filled lent lines lent_columns placed a same =
    let P : List ℕ → Type 0 = λ l. All (λ (c : TypedRow). length c.values ≡ length l) placed in
    subst P a (placed-rows lent lent_columns placed same)

-- the columns that the rows show are those that were put into the order of the rows
pub columns-shown : (nodes : ℕ) (ss ts lent : List ℕ) (out : Groups) (inw : Option Groups) (columns lent_columns placed : List TypedRow) (count : ℕ) → AreRows nodes ss ts out inw → lent ≡ out.edges.items → lent_columns ≡ columns → length ss ≡ count → All (λ c. length c.values ≡ count) columns → map (λ c. c.values) placed ≡ map (λ c. map (value_at c.values) lent) lent_columns → map (by_line out) placed ≡ map (λ c. c.values) columns
columns-shown nodes ss ts lent out inw columns lent_columns placed count held a b same long is =
    let P : List ℕ → Type 0 = λ l. map (λ (c : TypedRow). c.values) placed ≡ map (λ (c : TypedRow). map (value_at c.values) l) lent_columns in
    let Q : List TypedRow → Type 0 = λ l. map (λ (c : TypedRow). c.values) placed ≡ map (λ (c : TypedRow). map (value_at c.values) out.edges.items) l in
    let R : ℕ → Type 0 = λ n. All (λ (c : TypedRow). length c.values ≡ n) columns in
    columns-back nodes ss ts out columns placed held.out_rows held.from_within (subst Q b (subst P a is)) (subst R (sym same) long)

-- the edges that the rows show lie between the nodes, and have the ends of the lines
pub within-shown : (nodes : ℕ) (ss ts : List ℕ) (out : Groups) (inw : Option Groups) → AreRows nodes ss ts out inw → All (IsWithin nodes) (edge_list (sources_in out) (targets_in out))
within-shown nodes ss ts out inw held =
    let P : List Edge → Type 0 = λ l. All (IsWithin nodes) l in
    subst P (sym (edges-shown nodes ss ts out inw held)) (edges-within nodes ss ts held.from_within held.to_within)

pub from-numbers : (nodes : ℕ) (ss ts numbers ends : List ℕ) (out : Groups) (inw : Option Groups) → AreRows nodes ss ts out inw → map (slice_index numbers) ss ≡ ends → map (λ e. slice_index numbers e.from) (edge_list (sources_in out) (targets_in out)) ≡ ends
from-numbers nodes ss ts numbers ends out inw held same =
    ap (map (λ (e : Edge). slice_index numbers e.from)) (edges-shown nodes ss ts out inw held) ∙ (map-from (slice_index numbers) ss ts (sym held.long) ∙ same)

pub to-numbers : (nodes : ℕ) (ss ts numbers ends : List ℕ) (out : Groups) (inw : Option Groups) → AreRows nodes ss ts out inw → map (slice_index numbers) ts ≡ ends → map (λ e. slice_index numbers e.to) (edge_list (sources_in out) (targets_in out)) ≡ ends
to-numbers nodes ss ts numbers ends out inw held same =
    ap (map (λ (e : Edge). slice_index numbers e.to)) (edges-shown nodes ss ts out inw held) ∙ (map-to (slice_index numbers) ss ts (sym held.long) ∙ same)
