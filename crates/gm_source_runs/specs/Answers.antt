-- What the run of a checked program over a graph text answers: a text and a status.
use Rattle.std.specs.Prelude.{◌≡◌, ℕ, List, Ok}
use Rattle.gm_base.specs.declared.statuses.Status.{Status}
use Rattle.gm_value.specs.declared.values.Value.{Value}
use Rattle.gm_model.specs.Graphs.{NumberedGraph}
use Rattle.gm_model.specs.declared.outcomes.Outcome.{Outcome}
use Rattle.gm_graph.specs.declared.builds.Shape.{Shape}
use Rattle.gm_words.specs.declared.arguments.Input.{Input}
use Rattle.gm_words.specs.declared.jobs.Options.{Options}
use Rattle.gm_words.specs.Arguments.{values_bound}
use Rattle.gm_listing.specs.declared.outputs.Ending.{Ending}
use Rattle.gm_listing.specs.declared.outputs.Ending.TheVariants.{Turns}
use Rattle.gm_listing.specs.Listing.{listing, status_of}
use Rattle.gm_ast.specs.declared.tree.Declaration.{Declaration}
use Rattle.gm_ast.specs.declared.tree.Sort.TheVariants.{Scalar, NodeProperty}
use Rattle.gm_ast.specs.Program.{Program}
use Rattle.gm_semantics.specs.Outcomes.{mean}
use Rattle.gm_input.specs.Texts.{Says}
use Rattle.gm_input.specs.Answers as input
use Rattle.gm_input.specs.Answers.{GraphFormat, IsGraphOf, SaysBadArgument, SaysBadGraph, format_of}
use Rattle.gm_source_runs.specs.Programs.{shape_of, inputs_of, names_of, output_declarations}

-- the listing of an outcome over a graph, where these are the declarations of the outputs
abbrev pub lines_of : List Declaration → NumberedGraph → Ending → Outcome → List ℕ
lines_of outputs g ending outcome = listing (names_of Scalar outputs) (names_of NodeProperty outputs) g.numbers ending outcome

-- the listing of an outcome of a program over a graph
abbrev pub outcome_text : Program → NumberedGraph → Outcome → List ℕ
outcome_text p g outcome = lines_of (output_declarations p) g Turns outcome

-- a program with a bound on turns says over a graph, with these arguments, the listing of what it means
abbrev pub Ran : Program → ℕ → NumberedGraph → List Value → List ℕ → Status → Type 0
Ran p turns g args text status = Says text status (outcome_text p g (mean p g args turns)) (status_of (mean p g args turns))

-- the answer of a program over a graph text, with the words for its arguments; the options give the format of that text
-- and the bound on turns
abbrev pub IsTextAnswer : Program → List (List ℕ) → Options → List ℕ → List ℕ → Status → Type 0
IsTextAnswer p words options graph text status =
    input.IsTextAnswer (format_of options.format) (shape_of p) (inputs_of p) words (Ran p options.turns) graph text status

-- ---- before anything is said of a run

-- nothing runs over a graph text: something is wrong with the text, or with the words for the arguments, and this is said
pub data IsUnready (f : GraphFormat) (shape : Shape) (inputs : List Input) (words : List (List ℕ)) (graph text : List ℕ) (status : Status) : Type 0 where
  bad_text : SaysBadGraph f shape graph text status → IsUnready f shape inputs words graph text status
  bad_words : (g : NumberedGraph) → IsGraphOf f shape graph g → SaysBadArgument inputs words g text status → IsUnready f shape inputs words graph text status

-- a program came to an outcome over a graph: a text stands for this graph, words give values to the arguments, and this is what the program means then
pub record HasOutcome (p : Program) (words : List (List ℕ)) (options : Options) (text : List ℕ) (g : NumberedGraph) (outcome : Outcome) : Type 0 where
  pub graph : IsGraphOf (format_of options.format) (shape_of p) text g
  pub args : List Value
  pub values : values_bound (inputs_of p) words g.numbers ≡ Ok args
  pub means : outcome ≡ mean p g args options.turns
