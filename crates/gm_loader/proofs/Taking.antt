-- Tables that take in one line more.
use Rattle.std.proofs.Common.{◌≡◌, ◌≤◌, ◌<◌, ◌+◌, ℕ, Bool, true, false, cond, not, ◌||◌, eqb, ltb, List, [], ◌∷◌, ◌++◌, length, map, refl, ap, sym, ◌∙◌, arith, append-nil, length-append}
use Rattle.std.specs.Prelude.{Result, Ok, Err, Some, None}
use Rattle.std.specs.Str.Lines.{lines}
use Rattle.std.proofs.lemmas.Bool.Decides.{nat_tests}
use Rattle.std.proofs.lemmas.List.{map-append, length-map}
use Rattle.std.proofs.lemmas.List.Folds.{list_any-append}
use Rattle.std.proofs.lemmas.Grind.{flat_map-append}
use Rattle.gm_value.specs.declared.values.Value.{Value}
use Rattle.gm_graph.specs.declared.builds.Shape.{Shape}
use Rattle.gm_columns.specs.Columns.{TypedRow}
use Rattle.gm_graph.specs.Builds.{distinct}
use Rattle.gm_fields.specs.Fields.{fields}
use Rattle.gm_loader.specs.declared.faults.LineFault.{LineFault}
use Rattle.gm_loader.specs.declared.faults.LineFault.TheVariants.{NodeTwice, TooManyNodes, TooManyEdges}
use Rattle.gm_loader.specs.declared.faults.LineStop.{LineStop}
use Rattle.gm_loader.specs.declared.faults.LineStop.TheVariants.{Fault, NoMemory}
use Rattle.gm_loader.specs.declared.limits.Limits.{Limits}
use Rattle.gm_loader.specs.declared.counts.NodeCount.{NodeCount}
use Rattle.gm_loader.specs.declared.tables.Tables.{Tables}
use Rattle.gm_loader.specs.Lines.{Line, NodeLine, EdgeLine, ◌>>=◌, node_line, edge_with, line_of}
use Rattle.gm_loader.specs.GraphText.{EdgeRow, NodeRow, edges_in, nodes_in, numbers_in, edge_rows, node_rows, numbers_on, node_count, edge_count, repeats, unless, judged, columns_of}
use Rattle.gm_loader.specs.Sets.{has, SameNumbers, Counts}
use Rattle.gm_loader.specs.Quick.{BeginsEdge}
use Rattle.gm_loader.specs.Tables.{Holds, Takes, TakesFirst, IfFault, ReadsNumber, row_added}
use Rattle.gm_loader.proofs.Members.{among, HasEach-push, AllPairs-push, Inserts}
use Rattle.gm_loader.proofs.Counting.{same_rows}
use Rattle.gm_loader.proofs.Filling.{added_row, fault_row, node_read}

-- what the lines give with one line more
pub edge_rows_more : (before : List Line) (a b : ℕ) (vs : List Value) → edge_rows (before ++ EdgeLine a b vs ∷ []) ≡ edge_rows before ++ record { from = a; to = b; values = vs } ∷ []
edge_rows_more before a b vs = flat_map-append edges_in before (EdgeLine a b vs ∷ [])

pub edge_rows_same : (before : List Line) (line : Line) → edges_in line ≡ [] → edge_rows (before ++ line ∷ []) ≡ edge_rows before
edge_rows_same before line e =
    flat_map-append edges_in before (line ∷ []) ∙ ap (λ z. edge_rows before ++ (z ++ [])) e ∙ append-nil (edge_rows before)

pub node_rows_more : (before : List Line) (n : ℕ) (vs : List Value) → node_rows (before ++ NodeLine n vs ∷ []) ≡ node_rows before ++ record { number = n; values = vs } ∷ []
node_rows_more before n vs = flat_map-append nodes_in before (NodeLine n vs ∷ [])

pub node_rows_same : (before : List Line) (line : Line) → nodes_in line ≡ [] → node_rows (before ++ line ∷ []) ≡ node_rows before
node_rows_same before line e =
    flat_map-append nodes_in before (line ∷ []) ∙ ap (λ z. node_rows before ++ (z ++ [])) e ∙ append-nil (node_rows before)

-- how a line is judged after others
within : (k n : ℕ) → n ≤ k → ltb k n ≡ false
within k n h = grind (arith, nat_tests)

past : (k n : ℕ) → k < n → ltb k n ≡ true
past k n h = grind (arith, nat_tests)

not_past : (k n : ℕ) → ltb k n ≡ false → n ≤ k
not_past k n h = grind (arith, nat_tests, h)

chain : (x y z x' y' z' : Bool) (line : Line) → x ≡ x' → y ≡ y' → z ≡ z'
    → unless line (cond x (Some NodeTwice) (cond y (Some TooManyNodes) (cond z (Some TooManyEdges) None)))
    ≡ unless line (cond x' (Some NodeTwice) (cond y' (Some TooManyNodes) (cond z' (Some TooManyEdges) None)))
chain x y z x' y' z' line e f g = rw (e, f, g) refl

pub judged_twice : (limits : Limits) (before : List Line) (line : Line) → repeats before line ≡ true → judged limits before (Ok line) ≡ Err NodeTwice
judged_twice limits before line r = chain _ _ _ true _ _ line r refl refl

pub judged_nodes : (limits : Limits) (before : List Line) (line : Line) → repeats before line ≡ false → ltb limits.nodes (node_count (before ++ line ∷ [])) ≡ true → judged limits before (Ok line) ≡ Err TooManyNodes
judged_nodes limits before line r h = chain _ _ _ false true _ line r h refl

pub judged_edges : (limits : Limits) (before : List Line) (line : Line) → repeats before line ≡ false → ltb limits.nodes (node_count (before ++ line ∷ [])) ≡ false → limits.edges < edge_count (before ++ line ∷ []) → judged limits before (Ok line) ≡ Err TooManyEdges
judged_edges limits before line r h i =
    chain _ _ _ false false true line r h (past limits.edges (edge_count (before ++ line ∷ [])) i)

pub judged_sound : (limits : Limits) (before : List Line) (line : Line) → repeats before line ≡ false → ltb limits.nodes (node_count (before ++ line ∷ [])) ≡ false → edge_count (before ++ line ∷ []) ≤ limits.edges → judged limits before (Ok line) ≡ Ok line
judged_sound limits before line r h i =
    chain _ _ _ false false false line r h (within limits.edges (edge_count (before ++ line ∷ [])) i)

no_more_nodes : (limits : Limits) (ls : List Line) → ltb limits.nodes (node_count ls) ≡ false → node_count ls ≤ limits.nodes
no_more_nodes limits ls h = not_past limits.nodes (node_count ls) h

-- a sound line was taken in
pub takes_sound : (shape : Shape) (limits : Limits) (before : List Line) (read : Result Line LineFault) (line : Line) (tables : Tables) (done : Unit {0})
    → read ≡ Ok line → judged limits before (Ok line) ≡ Ok line → Holds shape limits (before ++ line ∷ []) tables → Takes shape limits before read tables (Ok done)
takes_sound shape limits before read line tables done e j h = rw (e, j) h

-- a line that is read in another way
pub takes_read : (shape : Shape) (limits : Limits) (before : List Line) (read other : Result Line LineFault) (tables : Tables) (answer : Result (Unit {0}) LineStop) → read ≡ other
    → Takes shape limits before other tables answer → Takes shape limits before read tables answer
takes_read shape limits before read other tables answer e t = rw e t

-- the first line of a text, whose front was read at once
pub first_quick : (limits : Limits) (text rest line behind : List ℕ) (a b : ℕ) (old new : Tables) (answer : Result (Unit {0}) LineStop) → BeginsEdge text a b rest → lines rest ≡ line ∷ lines behind
    → ((shape : Shape) (before : List Line) → Holds shape limits before old → Takes shape limits before (edge_with shape.edges a b (fields line)) new answer)
    → TakesFirst limits text (lines behind) old new answer
first_quick limits text rest line behind a b old new answer begins cut takes = record {
  line = begins.front ++ line;
  first = begins.first line (lines behind) cut;
  takes = λ shape before h.
      takes_read shape limits before (line_of shape (begins.front ++ line)) (edge_with shape.edges a b (fields line)) new answer (begins.edge shape line (lines behind) cut) (takes shape before h);
}

-- a line was refused
pub takes_fault : (shape : Shape) (limits : Limits) (before : List Line) (read : Result Line LineFault) (line : Line) (tables : Tables) (fault : LineFault)
    → read ≡ Ok line → judged limits before (Ok line) ≡ Err fault → Takes shape limits before read tables (Err (Fault fault))
takes_fault shape limits before read line tables fault e j = rw e j

pub takes_field_fault : (shape : Shape) (limits : Limits) (before : List Line) (read : Result Line LineFault) (tables : Tables) (fault : LineFault)
    → read ≡ Err fault → Takes shape limits before read tables (Err (Fault fault))
takes_field_fault shape limits before read tables fault e = rw e refl

-- what `add` says: the count has two numbers more, which are among all numbers of the rows
abbrev pub Adds : ℕ → NodeCount → NodeCount → ℕ → ℕ → List ℕ → Type 0
Adds most old new a b rows =
    (before numbers : List ℕ) → Counts most before old → SameNumbers (before ++ a ∷ b ∷ []) numbers → SameNumbers rows numbers → Counts most numbers new

-- what `exceeds` says
abbrev pub Exceeds : ℕ → NodeCount → Bool → Type 0
Exceeds most count over = (numbers : List ℕ) → Counts most numbers count → over ≡ ltb most (length (distinct numbers))

-- an edge: what was read of it
pub record EdgeRead (shape : Shape) (limits : Limits) (before : List Line) (columns : List TypedRow) (seen : NodeCount) (parts : List (List ℕ)) (source target : ℕ) : Type 0 where
  pub values : List Value
  pub line_is : edge_with shape.edges source target parts ≡ Ok (EdgeLine source target values)
  pub columns_are : columns ≡ columns_of shape.edges (map (λ e. e.values) (edge_rows before) ++ values ∷ [])
  pub seen_are : Counts limits.nodes (numbers_on (before ++ EdgeLine source target values ∷ [])) seen

pub edge_counts : (before : List Line) (a b : ℕ) (vs : List Value) → edge_count (before ++ EdgeLine a b vs ∷ []) ≡ edge_count before + 1
edge_counts before a b vs = ap length (edge_rows_more before a b vs) ∙ length-append (edge_rows before) (record { from = a; to = b; values = vs } ∷ [])

-- the rows of the nodes' numbers with one edge more
froms_more : (before : List Line) (a b : ℕ) (vs : List Value) (old new : List ℕ) → old ≡ map (λ r. r.from) (edge_rows before) → new ≡ old ++ a ∷ [] → new ≡ map (λ r. r.from) (edge_rows (before ++ EdgeLine a b vs ∷ []))
froms_more before a b vs old new h more =
    more ∙ ap (λ z. z ++ a ∷ []) h ∙ sym (map-append (λ (r : EdgeRow). r.from) (edge_rows before) (record { from = a; to = b; values = vs } ∷ [])) ∙ sym (ap (map (λ (r : EdgeRow). r.from)) (edge_rows_more before a b vs))

tos_more : (before : List Line) (a b : ℕ) (vs : List Value) (old new : List ℕ) → old ≡ map (λ r. r.to) (edge_rows before) → new ≡ old ++ b ∷ [] → new ≡ map (λ r. r.to) (edge_rows (before ++ EdgeLine a b vs ∷ []))
tos_more before a b vs old new h more =
    more ∙ ap (λ z. z ++ b ∷ []) h ∙ sym (map-append (λ (r : EdgeRow). r.to) (edge_rows before) (record { from = a; to = b; values = vs } ∷ [])) ∙ sym (ap (map (λ (r : EdgeRow). r.to)) (edge_rows_more before a b vs))

-- all numbers of three rows are those on some lines
rows_on : (ls : List Line) (from to extra : List ℕ) → from ≡ map (λ r. r.from) (edge_rows ls) → to ≡ map (λ r. r.to) (edge_rows ls) → extra ≡ map (λ r. r.number) (node_rows ls) → SameNumbers (from ++ to ++ extra) (numbers_on ls)
rows_on ls from to extra e f g = rw (e, f, g) (same_rows ls)

pub edge_taken : (shape : Shape) (limits : Limits) (before : List Line) (old : Tables) (columns : List TypedRow) (seen : NodeCount) (from to : List ℕ) (parts : List (List ℕ)) (a b : ℕ)
    → Holds shape limits before old → row_added old.edge_columns.items parts ≡ Ok columns
    → from ≡ old.from ++ a ∷ [] → to ≡ old.to ++ b ∷ [] → Adds limits.nodes old.seen seen a b (from ++ to ++ old.extra)
    → EdgeRead shape limits before columns seen parts a b
edge_taken shape limits before old columns seen from to parts a b h added froms tos adds =
    let values = added_row shape.edges (map (λ e. e.values) (edge_rows before)) parts old.edge_columns.items columns h.edge_columns added in
    let nodes : node_rows (before ++ EdgeLine a b values.0 ∷ []) ≡ node_rows before = node_rows_same before (EdgeLine a b values.0) refl in
    let extra : old.extra ≡ map (λ r. r.number) (node_rows (before ++ EdgeLine a b values.0 ∷ [])) = h.extra ∙ sym (ap (map (λ (r : NodeRow). r.number)) nodes) in
    let rows : SameNumbers (from ++ to ++ old.extra) (numbers_on (before ++ EdgeLine a b values.0 ∷ [])) =
    rows_on (before ++ EdgeLine a b values.0 ∷ []) from to old.extra (froms_more before a b values.0 old.from from h.from froms) (tos_more before a b values.0 old.to to h.to tos) extra in
    record {
      values = values.0;
      line_is = ap (λ (s : Result (List Value) LineFault). s >>= λ vs. Ok (EdgeLine a b vs)) values.1;
      columns_are = values.2;
      seen_are =
          adds (numbers_on before) (numbers_on (before ++ EdgeLine a b values.0 ∷ [])) h.seen
          (λ n. ap (among n) (sym (flat_map-append numbers_in before (EdgeLine a b values.0 ∷ [])))) rows;
    }

-- the tables hold one edge more
pub edge_holds : (shape : Shape) (limits : Limits) (before : List Line) (old new : Tables) (parts : List (List ℕ)) (a b : ℕ) (over : Bool)
    → Holds shape limits before old → (e : EdgeRead shape limits before new.edge_columns.items new.seen parts a b)
    → new.from ≡ old.from ++ a ∷ [] → new.to ≡ old.to ++ b ∷ []
    → new.extra ≡ old.extra → new.node_columns.items ≡ old.node_columns.items → new.listed ≡ old.listed
    → Exceeds limits.nodes new.seen over → over ≡ false → length new.from ≤ limits.edges
    → (done : Unit {0}) → Takes shape limits before (edge_with shape.edges a b parts) new (Ok done)
edge_holds shape limits before old new parts a b over h e from to extra node_columns listed exceeds few few_edges done =
    let rows : edge_rows (before ++ EdgeLine a b e.values ∷ []) ≡ edge_rows before ++ record { from = a; to = b; values = e.values } ∷ [] = edge_rows_more before a b e.values in
    let nodes : node_rows (before ++ EdgeLine a b e.values ∷ []) ≡ node_rows before = node_rows_same before (EdgeLine a b e.values) refl in
    let none : ltb limits.nodes (node_count (before ++ EdgeLine a b e.values ∷ [])) ≡ false = sym (exceeds (numbers_on (before ++ EdgeLine a b e.values ∷ [])) e.seen_are) ∙ few in
    let froms : new.from ≡ map (λ r. r.from) (edge_rows (before ++ EdgeLine a b e.values ∷ [])) = froms_more before a b e.values old.from new.from h.from from in
    let edges : edge_count (before ++ EdgeLine a b e.values ∷ []) ≤ limits.edges = omega (arith, few_edges, ap length froms, length-map (edge_rows (before ++ EdgeLine a b e.values ∷ [])) (λ r. r.from)) in
    takes_sound shape limits before (edge_with shape.edges a b parts) (EdgeLine a b e.values) new done e.line_is
    (judged_sound limits before (EdgeLine a b e.values) refl none edges)
    (record {
      from = froms;
      to = tos_more before a b e.values old.to new.to h.to to;
      edge_columns = e.columns_are ∙ ap (columns_of shape.edges) (sym (map-append (λ (r : EdgeRow). r.values) (edge_rows before) (record { from = a; to = b; values = e.values } ∷ [])) ∙ sym (ap (map (λ (r : EdgeRow). r.values)) rows));
      extra = rw nodes (extra ∙ h.extra);
      node_columns = rw nodes (node_columns ∙ h.node_columns);
      seen = e.seen_are;
      listed = rw (nodes, listed) h.listed;
      distinct_nodes = rw nodes h.distinct_nodes;
      few_nodes = no_more_nodes limits (before ++ EdgeLine a b e.values ∷ []) none;
      few_edges = edges;
    })

-- a node line: what was read of it
pub record NodeRead (shape : Shape) (before : List Line) (columns : List TypedRow) (parts : List (List ℕ)) (number : ℕ) : Type 0 where
  pub values : List Value
  pub line_is : node_line shape.nodes parts ≡ Ok (NodeLine number values)
  pub columns_are : columns ≡ columns_of shape.nodes (map (λ r. r.values) (node_rows before) ++ values ∷ [])

pub node_taken : (shape : Shape) (limits : Limits) (before : List Line) (old : Tables) (columns : List TypedRow) (parts more : List (List ℕ)) (n : ℕ)
    → Holds shape limits before old → ReadsNumber parts n more → row_added old.node_columns.items more ≡ Ok columns → NodeRead shape before columns parts n
node_taken shape limits before old columns parts more n h r added =
    let values = added_row shape.nodes (map (λ r. r.values) (node_rows before)) more old.node_columns.items columns h.node_columns added in
    record {
      values = values.0;
      line_is = node_read shape.nodes parts more n r ∙ rw values.1 refl;
      columns_are = values.2;
    }

-- whether it is the second line of its node
flipped : (a b : Bool) → a ≡ not b → a ≡ false → b ≡ true
flipped a true e f = refl
flipped a false e f = cc

flipped_back : (a b : Bool) → a ≡ not b → a ≡ true → b ≡ false
flipped_back a true e f = cc
flipped_back a false e f = refl

pub node_twice : (shape : Shape) (limits : Limits) (before : List Line) (old : Tables) (new : Tables) (columns : List TypedRow) (parts more : List (List ℕ)) (n : ℕ) (x : Bool)
    → Holds shape limits before old → ReadsNumber parts n more → row_added old.node_columns.items more ≡ Ok columns → x ≡ not (has old.listed n) → x ≡ false
    → Takes shape limits before (node_line shape.nodes parts) new (Err (Fault NodeTwice))
node_twice shape limits before old new columns parts more n x h r added is twice =
    let e = node_taken shape limits before old columns parts more n h r added in
    let again : repeats before (NodeLine n e.values) ≡ true = sym (h.listed n) ∙ flipped x (has old.listed n) is twice in
    takes_fault shape limits before (node_line shape.nodes parts) (NodeLine n e.values) new NodeTwice e.line_is (judged_twice limits before (NodeLine n e.values) again)

-- a number that stands twice
twice : (b c : Bool) → (b || (c || (c || false))) ≡ (b || (c || false))
twice true c = refl
twice false true = refl
twice false false = refl

numbers_more : (before : List Line) (n : ℕ) (vs : List Value) → SameNumbers (numbers_on before ++ n ∷ n ∷ []) (numbers_on (before ++ NodeLine n vs ∷ []))
numbers_more before n vs = λ k.
    list_any-append (λ m. eqb m k) (numbers_on before) (n ∷ n ∷ [])
    ∙ twice (among k (numbers_on before)) (eqb n k)
    ∙ sym (list_any-append (λ m. eqb m k) (numbers_on before) (n ∷ []))
    ∙ ap (among k) (sym (flat_map-append numbers_in before (NodeLine n vs ∷ [])))

listed_more : (before : List Line) (n : ℕ) (vs : List Value) (old new : List ℕ) → old ≡ map (λ r. r.number) (node_rows before) → new ≡ old ++ n ∷ [] → new ≡ map (λ r. r.number) (node_rows (before ++ NodeLine n vs ∷ []))
listed_more before n vs old new h more =
    more ∙ ap (λ z. z ++ n ∷ []) h ∙ sym (ap (map (λ (r : NodeRow). r.number)) (node_rows_more before n vs) ∙ map-append (λ (r : NodeRow). r.number) (node_rows before) (record { number = n; values = vs } ∷ []))

pub node_seen : (shape : Shape) (limits : Limits) (before : List Line) (old : Tables) (seen : NodeCount) (extra : List ℕ) (n : ℕ) (vs : List Value)
    → Holds shape limits before old → extra ≡ old.extra ++ n ∷ [] → Adds limits.nodes old.seen seen n n (old.from ++ old.to ++ extra)
    → Counts limits.nodes (numbers_on (before ++ NodeLine n vs ∷ [])) seen
node_seen shape limits before old seen extra n vs h more adds =
    let edges : edge_rows (before ++ NodeLine n vs ∷ []) ≡ edge_rows before = edge_rows_same before (NodeLine n vs) refl in
    adds (numbers_on before) (numbers_on (before ++ NodeLine n vs ∷ [])) h.seen (numbers_more before n vs)
    (rows_on (before ++ NodeLine n vs ∷ []) old.from old.to extra
    (h.from ∙ sym (ap (map (λ (r : EdgeRow). r.from)) edges)) (h.to ∙ sym (ap (map (λ (r : EdgeRow). r.to)) edges)) (listed_more before n vs old.extra extra h.extra more))

pub node_many : (shape : Shape) (limits : Limits) (before : List Line) (old new : Tables) (seen : NodeCount) (columns : List TypedRow) (extra : List ℕ) (parts more : List (List ℕ)) (n : ℕ) (x over : Bool)
    → Holds shape limits before old → ReadsNumber parts n more → row_added old.node_columns.items more ≡ Ok columns → x ≡ not (has old.listed n) → x ≡ true
    → extra ≡ old.extra ++ n ∷ [] → Adds limits.nodes old.seen seen n n (old.from ++ old.to ++ extra) → Exceeds limits.nodes seen over → over ≡ true
    → Takes shape limits before (node_line shape.nodes parts) new (Err (Fault TooManyNodes))
node_many shape limits before old new seen columns extra parts more n x over h r added is once extras adds exceeds many =
    let e = node_taken shape limits before old columns parts more n h r added in
    let first : repeats before (NodeLine n e.values) ≡ false = sym (h.listed n) ∙ flipped_back x (has old.listed n) is once in
    let counts = node_seen shape limits before old seen extra n e.values h extras adds in
    takes_fault shape limits before (node_line shape.nodes parts) (NodeLine n e.values) new TooManyNodes e.line_is
    (judged_nodes limits before (NodeLine n e.values) first (sym (exceeds (numbers_on (before ++ NodeLine n e.values ∷ [])) counts) ∙ many))

pub node_holds : (shape : Shape) (limits : Limits) (before : List Line) (old new : Tables) (parts more : List (List ℕ)) (n : ℕ) (x over : Bool)
    → Holds shape limits before old → ReadsNumber parts n more → row_added old.node_columns.items more ≡ Ok new.node_columns.items
    → Inserts old.listed new.listed n x → x ≡ true
    → Adds limits.nodes old.seen new.seen n n (old.from ++ old.to ++ new.extra) → Exceeds limits.nodes new.seen over → over ≡ false
    → new.extra ≡ old.extra ++ n ∷ [] → new.from ≡ old.from → new.to ≡ old.to → new.edge_columns.items ≡ old.edge_columns.items
    → (done : Unit {0}) → Takes shape limits before (node_line shape.nodes parts) new (Ok done)
node_holds shape limits before old new parts more n x over h r added listed once adds exceeds few extra from to edge_columns done =
    let e = node_taken shape limits before old new.node_columns.items parts more n h r added in
    let first : repeats before (NodeLine n e.values) ≡ false = sym (h.listed n) ∙ flipped_back x (has old.listed n) listed.is_new once in
    let counts = node_seen shape limits before old new.seen new.extra n e.values h extra adds in
    let edges : edge_rows (before ++ NodeLine n e.values ∷ []) ≡ edge_rows before = edge_rows_same before (NodeLine n e.values) refl in
    let rows : node_rows (before ++ NodeLine n e.values ∷ []) ≡ node_rows before ++ record { number = n; values = e.values } ∷ [] = node_rows_more before n e.values in
    let numbers : map (λ r. r.number) (node_rows (before ++ NodeLine n e.values ∷ [])) ≡ map (λ r. r.number) (node_rows before) ++ n ∷ [] =
    ap (map (λ (r : NodeRow). r.number)) rows ∙ map-append (λ (r : NodeRow). r.number) (node_rows before) (record { number = n; values = e.values } ∷ []) in
    let none : ltb limits.nodes (node_count (before ++ NodeLine n e.values ∷ [])) ≡ false = sym (exceeds (numbers_on (before ++ NodeLine n e.values ∷ [])) counts) ∙ few in
    let few_edges : edge_count (before ++ NodeLine n e.values ∷ []) ≤ limits.edges = rw edges h.few_edges in
    takes_sound shape limits before (node_line shape.nodes parts) (NodeLine n e.values) new done e.line_is
    (judged_sound limits before (NodeLine n e.values) first none few_edges)
    (record {
      from = rw edges (from ∙ h.from);
      to = rw edges (to ∙ h.to);
      edge_columns = rw edges (edge_columns ∙ h.edge_columns);
      extra = listed_more before n e.values old.extra new.extra h.extra extra;
      node_columns = e.columns_are ∙ ap (columns_of shape.nodes) (sym (map-append (λ (r : NodeRow). r.values) (node_rows before) (record { number = n; values = e.values } ∷ [])) ∙ sym (ap (map (λ (r : NodeRow). r.values)) rows));
      seen = counts;
      listed = rw numbers (HasEach-push (map (λ r. r.number) (node_rows before)) old.listed new.listed n h.listed listed.members);
      distinct_nodes = rw numbers (AllPairs-push (map (λ r. r.number) (node_rows before)) n h.distinct_nodes first);
      few_nodes = no_more_nodes limits (before ++ NodeLine n e.values ∷ []) none;
      few_edges = few_edges;
    })

-- an edge with too many nodes or edges
pub edge_many : (shape : Shape) (limits : Limits) (before : List Line) (new : Tables) (columns : List TypedRow) (seen : NodeCount) (parts : List (List ℕ)) (a b : ℕ) (over : Bool)
    → (e : EdgeRead shape limits before columns seen parts a b) → Exceeds limits.nodes seen over → over ≡ true → Takes shape limits before (edge_with shape.edges a b parts) new (Err (Fault TooManyNodes))
edge_many shape limits before new columns seen parts a b over e exceeds many =
    takes_fault shape limits before (edge_with shape.edges a b parts) (EdgeLine a b e.values) new TooManyNodes e.line_is
    (judged_nodes limits before (EdgeLine a b e.values) refl (sym (exceeds (numbers_on (before ++ EdgeLine a b e.values ∷ [])) e.seen_are) ∙ many))

pub edge_far : (shape : Shape) (limits : Limits) (before : List Line) (old new : Tables) (columns : List TypedRow) (seen : NodeCount) (parts : List (List ℕ)) (row : List ℕ) (a b : ℕ) (over : Bool)
    → Holds shape limits before old → (e : EdgeRead shape limits before columns seen parts a b) → Exceeds limits.nodes seen over → over ≡ false → row ≡ old.from ++ a ∷ [] → limits.edges < length row
    → Takes shape limits before (edge_with shape.edges a b parts) new (Err (Fault TooManyEdges))
edge_far shape limits before old new columns seen parts row a b over h e exceeds few is many =
    let none : ltb limits.nodes (node_count (before ++ EdgeLine a b e.values ∷ [])) ≡ false = sym (exceeds (numbers_on (before ++ EdgeLine a b e.values ∷ [])) e.seen_are) ∙ few in
    let size : length row ≡ edge_count before + 1 = ap length is ∙ length-append old.from (a ∷ []) ∙ ap (λ k. k + 1) (ap length h.from ∙ length-map (edge_rows before) (λ r. r.from)) in
    let edges : limits.edges < edge_count (before ++ EdgeLine a b e.values ∷ []) = rw (edge_counts before a b e.values, ← size) many in
    takes_fault shape limits before (edge_with shape.edges a b parts) (EdgeLine a b e.values) new TooManyEdges e.line_is
    (judged_edges limits before (EdgeLine a b e.values) refl none edges)

-- a row of values that was refused
pub edge_stop : (shape : Shape) (limits : Limits) (before : List Line) (old new : Tables) (parts : List (List ℕ)) (a b : ℕ) (stop : LineStop)
    → Holds shape limits before old → IfFault stop (λ e. row_added old.edge_columns.items parts ≡ Err e)
    → Takes shape limits before (edge_with shape.edges a b parts) new (Err stop)
edge_stop shape limits before old new parts a b NoMemory h f = tt
edge_stop shape limits before old new parts a b (Fault e) h f =
    takes_field_fault shape limits before (edge_with shape.edges a b parts) new e
    (ap (λ (s : Result (List Value) LineFault). s >>= λ vs. Ok (EdgeLine a b vs)) (fault_row shape.edges (map (λ e. e.values) (edge_rows before)) parts old.edge_columns.items e h.edge_columns f))

pub node_stop : (shape : Shape) (limits : Limits) (before : List Line) (old new : Tables) (parts more : List (List ℕ)) (n : ℕ) (stop : LineStop)
    → Holds shape limits before old → ReadsNumber parts n more → IfFault stop (λ e. row_added old.node_columns.items more ≡ Err e)
    → Takes shape limits before (node_line shape.nodes parts) new (Err stop)
node_stop shape limits before old new parts more n NoMemory h r f = tt
node_stop shape limits before old new parts more n (Fault e) h r f =
    takes_field_fault shape limits before (node_line shape.nodes parts) new e
    (node_read shape.nodes parts more n r ∙ rw (fault_row shape.nodes (map (λ r. r.values) (node_rows before)) more old.node_columns.items e h.node_columns f) refl)
