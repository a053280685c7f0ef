-- A text stands for the same graph, or has the same fault, for whatever walks the graph is to have rows: the columns of a shape decide.
use Rattle.std.proofs.Common.{◌≡◌, ◌∙◌, ℕ, List, [], ◌∷◌, map, length, refl, ap, sym, subst}
use Rattle.std.specs.Prelude.{Result, Err, nat_lt, if◌then◌else◌}
use Rattle.std.specs.Str.Lines.{lines}
use Rattle.gm_value.specs.declared.values.VType.{VType}
use Rattle.gm_model.specs.Graphs.{NumberedGraph}
use Rattle.gm_graph.specs.declared.builds.Shape.{Shape}
use Rattle.gm_graph.specs.declared.builds.Walks.{Walks}
use Rattle.gm_graph.specs.Builds.{IsBuiltOf}
use Rattle.gm_loader.specs.declared.limits.Limits.{Limits}
use Rattle.gm_fields.specs.Fields.{fields}
use Rattle.gm_loader.specs.declared.faults.LineFault.{LineFault}
use Rattle.gm_loader.specs.declared.faults.GraphFault.TheVariants as faults
use Rattle.gm_loader.specs.Lines.{Line, line_in, line_of}
use Rattle.gm_loader.specs.GraphText as lists
use Rattle.gm_mtx.specs.MatrixMarket as matrix
use Rattle.gm_mtx.specs.declared.faults.MtxFault.{MtxFault}
use Rattle.gm_mtx.specs.declared.faults.MtxFault.TheVariants as mtx
use Rattle.gm_words.specs.declared.jobs.Format.{Format}
use Rattle.gm_words.specs.declared.jobs.Format.TheVariants.{Edges, Mtx}
use Rattle.gm_input.specs.Answers.{GraphFormat, edge_list, matrix_market, format_of}
use Rattle.gm_input.specs.Texts.{graph_limits}

abbrev shape : List VType → List VType → Walks → Shape
shape nodes edges walks = record { nodes = nodes; edges = edges; walks = walks }

-- a line is the same
line_fields : (ns es : List VType) (w v : Walks) (parts : List (List ℕ)) → line_in (shape ns es w) parts ≡ line_in (shape ns es v) parts
line_fields ns es w v [] = refl
line_fields ns es w v (field ∷ more) = refl

map_same : {A B : Type 0} (f g : A → B) → ((x : A) → f x ≡ g x) → (xs : List A) → map f xs ≡ map g xs
map_same f g same [] = refl
map_same f g same (x ∷ xs) = ap (λ y. y ∷ map f xs) (same x) ∙ ap (λ ys. g x ∷ ys) (map_same f g same xs)

-- so are all lines of a text
lines_same : (ns es : List VType) (w v : Walks) (limits : Limits) (text : List ℕ) → lists.lines_of (shape ns es w) limits text ≡ lists.lines_of (shape ns es v) limits text
lines_same ns es w v limits text =
    ap (λ (ls : List (Result Line LineFault)). if nat_lt limits.bytes (length text) then Err faults.TooLong else lists.lines_after limits [] ls)
    (map_same (line_of (shape ns es w)) (line_of (shape ns es v)) (λ line. line_fields ns es w v (fields line)) (lines text))

-- a graph is made of the same lines
built_of_lines : (ns es : List VType) (w v : Walks) (ls : List Line) (g : NumberedGraph) → IsBuiltOf (lists.raw_of (shape ns es w) ls) g → IsBuiltOf (lists.raw_of (shape ns es v) ls) g
built_of_lines ns es w v ls g is = record {
  ascending = is.ascending;
  members = is.members;
  within = is.within;
  from_numbers = is.from_numbers;
  to_numbers = is.to_numbers;
  node_columns = is.node_columns;
  edge_columns = is.edge_columns;
}

-- and of the same matrix
built_of_matrix : (ns es : List VType) (w v : Walks) (m : matrix.Matrix) (g : NumberedGraph) → IsBuiltOf (matrix.raw_of (shape ns es w) m) g → IsBuiltOf (matrix.raw_of (shape ns es v) m) g
built_of_matrix ns es w v m g is = record {
  ascending = is.ascending;
  members = is.members;
  within = is.within;
  from_numbers = is.from_numbers;
  to_numbers = is.to_numbers;
  node_columns = is.node_columns;
  edge_columns = is.edge_columns;
}

-- a matrix is the same
matrix_lines : (ns es : List VType) (w v : Walks) (limits : Limits) (ls : List (List ℕ)) → matrix.matrix_in (shape ns es w) limits ls ≡ matrix.matrix_in (shape ns es v) limits ls
matrix_lines ns es w v limits [] = refl
matrix_lines ns es w v limits (header ∷ more) = refl

matrix_same : (ns es : List VType) (w v : Walks) (limits : Limits) (text : List ℕ) → matrix.matrix_of (shape ns es w) limits text ≡ matrix.matrix_of (shape ns es v) limits text
matrix_same ns es w v limits text =
    ap (λ (m : Result matrix.Matrix MtxFault). if nat_lt limits.bytes (length text) then Err mtx.TooLong else m) (matrix_lines ns es w v limits (lines text))

-- what a format says of a text, it says with other walks
record SaysTheSame (f : GraphFormat) (a b : Shape) : Type 0 where
  stands : (text : List ℕ) (g : NumberedGraph) → f.stands a text g → f.stands b text g
  faulty : (text line : List ℕ) → f.faulty a text line → f.faulty b text line

edges_say : (ns es : List VType) (w v : Walks) → SaysTheSame edge_list (shape ns es w) (shape ns es v)
edges_say ns es w v = record {
  stands = λ text g it. record {
    sound_lines = it.sound_lines;
    no_fault = sym (lines_same ns es w v graph_limits text) ∙ it.no_fault;
    built = built_of_lines ns es w v it.sound_lines g it.built;
  };
  faulty = λ text line it. record { fault = it.fault; has = sym (lines_same ns es w v graph_limits text) ∙ it.has; says = it.says };
}

matrices_say : (ns es : List VType) (w v : Walks) → SaysTheSame matrix_market (shape ns es w) (shape ns es v)
matrices_say ns es w v = record {
  stands = λ text g it. record {
    matrix = it.matrix;
    no_fault = sym (matrix_same ns es w v graph_limits text) ∙ it.no_fault;
    built = built_of_matrix ns es w v it.matrix g it.built;
  };
  faulty = λ text line it. record { fault = it.fault; has = sym (matrix_same ns es w v graph_limits text) ∙ it.has; says = it.says };
}

says_the_same : (f : Format) (ns es : List VType) (w v : Walks) → SaysTheSame (format_of f) (shape ns es w) (shape ns es v)
says_the_same Edges ns es w v = edges_say ns es w v
says_the_same Mtx ns es w v = matrices_say ns es w v

-- a shape with the same columns
same_shape : (a b : Shape) → a.nodes ≡ b.nodes → a.edges ≡ b.edges → a ≡ shape b.nodes b.edges a.walks
same_shape a b nodes edges = ap (λ (ns : List VType). shape ns a.edges a.walks) nodes ∙ ap (λ (es : List VType). shape b.nodes es a.walks) edges

-- a text stands for a graph with the same columns
pub stands_alike : (f : Format) (a b : Shape) (text : List ℕ) (g : NumberedGraph) → a.nodes ≡ b.nodes → a.edges ≡ b.edges → (format_of f).stands a text g → (format_of f).stands b text g
stands_alike f a b text g nodes edges it =
    (says_the_same f b.nodes b.edges a.walks b.walks).stands text g (subst (λ (s : Shape). (format_of f).stands s text g) (same_shape a b nodes edges) it)

pub faulty_alike : (f : Format) (a b : Shape) (text line : List ℕ) → a.nodes ≡ b.nodes → a.edges ≡ b.edges → (format_of f).faulty a text line → (format_of f).faulty b text line
faulty_alike f a b text line nodes edges it =
    (says_the_same f b.nodes b.edges a.walks b.walks).faulty text line (subst (λ (s : Shape). (format_of f).faulty s text line) (same_shape a b nodes edges) it)
