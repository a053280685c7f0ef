-- A text that is read line by line, and the graph that is made of its lines.
use Rattle.std.proofs.Common.{◌≡◌, ◌≢◌, ◌≤◌, ◌<◌, ◌+◌, ℕ, suc, Bool, true, false, cond, List, [], ◌∷◌, ◌++◌, length, map, drop, eqb, ltb, refl, ap, sym, ◌∙◌, arith, length-append}
use Rattle.std.specs.Prelude.{Result, Ok, Err, All, IsOkAnd}
use Rattle.std.specs.Str.Lines.{lines}
use Rattle.std.proofs.lemmas.Bool.Decides.{nat_tests}
use Rattle.std.proofs.lemmas.List.{length-map}
use Rattle.std.proofs.lemmas.List.Elements.{All-nil, All-cons}
use Rattle.gm_value.specs.declared.values.VType.{VType}
use Rattle.gm_value.specs.declared.values.Value.{Value}
use Rattle.gm_graph.specs.declared.builds.Shape.{Shape}
use Rattle.gm_graph.specs.declared.builds.RawGraph.{RawGraph}
use Rattle.gm_model.specs.Graphs.{NumberedGraph}
use Rattle.gm_columns.specs.Columns.{TypedRow}
use Rattle.gm_graph.specs.Builds.{IsBuildable, IsBuiltOf, spread_out}
use Rattle.gm_loader.specs.declared.faults.GraphFault.TheVariants as fault
use Rattle.gm_loader.specs.declared.faults.LineFault.{LineFault}
use Rattle.gm_loader.specs.declared.limits.Limits.{Limits}
use Rattle.gm_loader.specs.declared.tables.Tables.{Tables}
use Rattle.gm_loader.specs.Lines.{Line, line_of}
use Rattle.gm_loader.specs.GraphText.{edge_rows, node_rows, numbers_on, node_count, edge_count, judged, on_line, lines_after, lines_of, at_line, columns_of, first_value, raw_of, StandsFor, HasColumns}
use Rattle.gm_loader.specs.Tables.{Holds, HoldsText, HoldsSome, TakesFirst}
use Rattle.gm_loader.specs.declared.faults.LineStop.{LineStop}
use Rattle.gm_loader.specs.declared.faults.LineStop.TheVariants.{Fault, NoMemory}
use Rattle.gm_loader.specs.Loads.{stop_at_line}
use Rattle.gm_loader.proofs.Members.{distinct-within}
use Rattle.gm_loader.proofs.Counting.{same_rows}
use Rattle.gm_loader.proofs.Filling.{columns_types}

-- some lines were read, which have no fault; the rest is still to be read
pub record IsReading (shape : Shape) (limits : Limits) (text rest : List ℕ) (number : ℕ) (tables : Tables) : Type 0 where
  pub before : List Line
  pub same : lines_after limits [] (map (line_of shape) (lines text)) ≡ lines_after limits before (map (line_of shape) (lines rest))
  pub count : number ≡ length before
  pub room : number + length rest ≤ length text
  pub held : Holds shape limits before tables

-- one line more was taken in
pub reading_more : (shape : Shape) (limits : Limits) (text rest behind : List ℕ) (number : ℕ) (old new : Tables) (done : Unit {0})
    → (r : IsReading shape limits text rest number old) → length behind < length rest
    → TakesFirst limits rest (lines behind) old new (Ok done) → IsReading shape limits text behind (number + 1) new
reading_more shape limits text rest behind number old new done r shorter t =
    goes (judged limits r.before (line_of shape t.line)) refl (t.takes shape r.before r.held) where
      goes : (j : Result Line LineFault) → judged limits r.before (line_of shape t.line) ≡ j → IsOkAnd j (λ sound. Holds shape limits (r.before ++ sound ∷ []) new) → IsReading shape limits text behind (number + 1) new
      goes (Ok sound) e h = record {
        before = r.before ++ sound ∷ [];
        same =
            r.same
            ∙ ap (λ ls. lines_after limits r.before (map (line_of shape) ls)) t.first
            ∙ ap (λ j. on_line (length r.before + 1) j (λ s. lines_after limits (r.before ++ s ∷ []) (map (line_of shape) (lines behind)))) e;
        count = omega (arith, r.count, length-append r.before (sound ∷ []));
        room = omega (arith, r.room, shorter);
        held = h;
      }
      goes (Err f) e h = absurd h

-- the first line behind some others has a fault
pub reading_stop : (shape : Shape) (limits : Limits) (text rest : List ℕ) (more : List (List ℕ)) (number : ℕ) (old new : Tables) (e : LineFault)
    → (r : IsReading shape limits text rest number old) → TakesFirst limits rest more old new (Err (Fault e))
    → lines_after limits [] (map (line_of shape) (lines text)) ≡ Err (at_line (number + 1) e)
reading_stop shape limits text rest more number old new e r t =
    let faulty : judged limits r.before (line_of shape t.line) ≡ Err e = t.takes shape r.before r.held in
    r.same
    ∙ ap (λ ls. lines_after limits r.before (map (line_of shape) ls)) t.first
    ∙ ap (λ j. on_line (length r.before + 1) j (λ s. lines_after limits (r.before ++ s ∷ []) (map (line_of shape) more))) faulty
    ∙ ap (λ k. Err (at_line (k + 1) e)) (sym r.count)

pub reading_stopped : (shape : Shape) (limits : Limits) (text rest : List ℕ) (number : ℕ) (old new : Tables) (stop : LineStop)
    → IsReading shape limits text rest number old → ((more : List (List ℕ)) × TakesFirst limits rest more old new (Err stop))
    → stop_at_line (number + 1) stop ≢ fault.NoMemory → lines_after limits [] (map (line_of shape) (lines text)) ≡ Err (stop_at_line (number + 1) stop)
reading_stopped shape limits text rest number old new (Fault e) r t some = reading_stop shape limits text rest t.0 number old new e r t.1
reading_stopped shape limits text rest number old new NoMemory r t some = absurd (some refl)

-- nothing is left to be read
none_left : (rest : List ℕ) → length rest ≡ 0 → rest ≡ []
none_left [] e = refl
none_left (x ∷ rest) e = absurd (omega (arith, e))

pub empty_is : (n : ℕ) (b : Bool) → b ≡ eqb n 0 → b ≡ true → n ≡ 0
empty_is n b e h = let zero_there : eqb n 0 ≡ true = sym e ∙ h in grind (arith, nat_tests, zero_there)

pub reading_done : (shape : Shape) (limits : Limits) (text rest : List ℕ) (number : ℕ) (tables : Tables)
    → IsReading shape limits text rest number tables → length rest ≡ 0 → length text ≤ limits.bytes → HoldsText shape limits text tables
reading_done shape limits text rest number tables r e fits = record {
  held_lines = record {
    sound_lines = r.before;
    no_fault = r.same ∙ ap (λ z. lines_after limits r.before (map (line_of shape) (lines z))) (none_left rest e);
    held = r.held;
  };
  fits = fits;
}

-- the rows of columns
columns_rows : (types : List VType) (rows : List (List Value)) (k : ℕ) → length rows ≡ k → All (λ (c : TypedRow). length c.values ≡ k) (columns_of types rows)
columns_rows [] rows k e = All-nil (λ (c : TypedRow). length c.values ≡ k)
columns_rows (t ∷ ts) rows k e =
    All-cons (λ (c : TypedRow). length c.values ≡ k) (record { vtype = t; values = map (first_value t) rows }) (columns_of ts (map (drop 1) rows))
    (length-map rows (first_value t) ∙ e)
    (columns_rows ts (map (drop 1) rows) k (length-map rows (drop 1) ∙ e))

-- of what the lines give a graph can be made
pub buildable : (shape : Shape) (limits : Limits) (ls : List Line) (tables : Tables) → Holds shape limits ls tables → limits.nodes ≤ 2147483647 → limits.edges ≤ 2147483647 → IsBuildable (raw_of shape ls)
buildable shape limits ls tables h nodes edges =
    let few : node_count ls ≤ limits.nodes = h.few_nodes in
    let few_edges : edge_count ls ≤ limits.edges = h.few_edges in
    record {
      both_ends = length-map (edge_rows ls) (λ e. e.to) ∙ sym (length-map (edge_rows ls) (λ e. e.from));
      edge_types = columns_types shape.edges (map (λ e. e.values) (edge_rows ls));
      edge_rows = columns_rows shape.edges (map (λ e. e.values) (edge_rows ls)) (length (map (λ e. e.from) (edge_rows ls))) (length-map (edge_rows ls) (λ e. e.values) ∙ sym (length-map (edge_rows ls) (λ e. e.from)));
      node_types = columns_types shape.nodes (map (λ r. r.values) (node_rows ls));
      node_rows = columns_rows shape.nodes (map (λ r. r.values) (node_rows ls)) (length (map (λ r. r.number) (node_rows ls))) (length-map (node_rows ls) (λ r. r.values) ∙ sym (length-map (node_rows ls) (λ r. r.number)));
      one_row_a_node = h.distinct_nodes;
      few_nodes = omega (arith, distinct-within (map (λ e. e.from) (edge_rows ls) ++ map (λ e. e.to) (edge_rows ls) ++ map (λ r. r.number) (node_rows ls)) (numbers_on ls) (λ n here. sym (same_rows ls n) ∙ here), few);
      few_edges = omega (arith, length-map (edge_rows ls) (λ e. e.from), few_edges);
    }

-- the raw graph of some tables
pub made : (shape copy : Shape) (limits : Limits) (ls : List Line) (tables : Tables) (raw : RawGraph) → copy ≡ shape → Holds shape limits ls tables
    → ((limits : Limits) (before : List Line) → Holds copy limits before tables → raw ≡ raw_of copy before) → raw ≡ raw_of shape ls
made shape copy limits ls tables raw same h gives =
    gives limits ls (rw same h) ∙ ap (λ s. raw_of s ls) same

-- no more bytes than the limit
pub no_more : (shape : Shape) (limits : Limits) (text : List ℕ) → length text ≤ limits.bytes → lines_of shape limits text ≡ lines_after limits [] (map (line_of shape) (lines text))
no_more shape limits text h =
    let fits : ltb limits.bytes (length text) ≡ false = grind (arith, nat_tests) in
    ap (λ b. cond b (Err fault.TooLong) (lines_after limits [] (map (line_of shape) (lines text)))) fits

-- the tables of a text hold what some lines give
pub some_lines : (shape : Shape) (limits : Limits) (text : List ℕ) (tables : Tables) → limits.nodes ≤ 2147483647 → limits.edges ≤ 2147483647 → HoldsText shape limits text tables → HoldsSome shape tables
some_lines shape limits text tables nodes edges h = record {
  limits = limits;
  before = h.held_lines.sound_lines;
  held = h.held_lines.held;
  few_nodes = nodes;
  few_edges = edges;
}

-- the graph of a text
pub stands : (shape : Shape) (limits : Limits) (text : List ℕ) (tables : Tables) (g : NumberedGraph) → (h : HoldsText shape limits text tables)
    → ((limits : Limits) (before : List Line) → Holds shape limits before tables → IsBuiltOf (raw_of shape before) g) → StandsFor shape limits text g
stands shape limits text tables g h built = record {
  sound_lines = h.held_lines.sound_lines;
  no_fault = no_more shape limits text h.fits ∙ h.held_lines.no_fault;
  built = built limits h.held_lines.sound_lines h.held_lines.held;
}

-- the columns of a graph that is made of some lines
columns_len : (types : List VType) (rows : List (List Value)) → length (columns_of types rows) ≡ length types
columns_len [] rows = refl
columns_len (t ∷ ts) rows = ap suc (columns_len ts (map (drop 1) rows))

pub has_columns : (shape : Shape) (limits : Limits) (text : List ℕ) (tables : Tables) (g : NumberedGraph) → (h : HoldsText shape limits text tables)
    → ((limits : Limits) (before : List Line) → Holds shape limits before tables → IsBuiltOf (raw_of shape before) g) → HasColumns (length shape.nodes) (length shape.edges) g
has_columns shape limits text tables g h built =
    let ls = h.held_lines.sound_lines in
    let all : IsBuiltOf (raw_of shape h.held_lines.sound_lines) g = built limits h.held_lines.sound_lines h.held_lines.held in
    record {
      of_nodes = ap length all.node_columns ∙ length-map (columns_of shape.nodes (map (λ r. r.values) (node_rows ls))) (spread_out g.numbers (map (λ r. r.number) (node_rows ls))) ∙ columns_len shape.nodes (map (λ r. r.values) (node_rows ls));
      of_edges = ap length all.edge_columns ∙ length-map (columns_of shape.edges (map (λ e. e.values) (edge_rows ls))) (λ c. c.values) ∙ columns_len shape.edges (map (λ e. e.values) (edge_rows ls));
    }
