-- What is said over a graph text, by what stops a program or by the outcome to which it comes.
use Rattle.std.proofs.Common.{◌≡◌, ◌∙◌, ℕ, List, ap}
use Rattle.gm_base.specs.declared.statuses.Status.{Status}
use Rattle.gm_model.specs.Graphs.{NumberedGraph}
use Rattle.gm_model.specs.declared.outcomes.Outcome.{Outcome}
use Rattle.gm_graph.specs.declared.builds.Shape.{Shape}
use Rattle.gm_ast.specs.Program.{Program}
use Rattle.gm_listing.specs.declared.outputs.Ending.TheVariants.{Turns}
use Rattle.gm_listing.specs.Listing.{status_of}
use Rattle.gm_words.specs.declared.arguments.Input.{Input}
use Rattle.gm_words.specs.declared.jobs.Options.{Options}
use Rattle.gm_input.specs.Answers.{GraphFormat, IsTextAnswer, Saying, bad_argument, bad_graph, format_of, good_graph, ran}
use Rattle.gm_input.specs.Texts.{Says}
use Rattle.gm_source_runs.specs.Answers.{HasOutcome, IsUnready, Ran, bad_text, bad_words, lines_of, outcome_text}
use Rattle.gm_source_runs.specs.Programs.{inputs_of, output_declarations, shape_of}

-- where nothing runs that is the answer, whatever would be said of a run
pub unready_answers : (f : GraphFormat) (shape : Shape) (inputs : List Input) (words : List (List ℕ)) (Said : Saying) (graph text : List ℕ) (status : Status)
    → IsUnready f shape inputs words graph text status → IsTextAnswer f shape inputs words Said graph text status
unready_answers f shape inputs words Said graph text status (bad_text said) = bad_graph said
unready_answers f shape inputs words Said graph text status (bad_words g stands said) = good_graph g stands (bad_argument said)

-- what is said of an outcome is the answer
pub outcome_answers : (p : Program) (words : List (List ℕ)) (options : Options) (Said : Saying) (graph : List ℕ) (g : NumberedGraph) (outcome : Outcome) (text : List ℕ) (status : Status)
    → (it : HasOutcome p words options graph g outcome) → Said g it.args text status → IsTextAnswer (format_of options.format) (shape_of p) (inputs_of p) words Said graph text status
outcome_answers p words options Said graph g outcome text status it said = good_graph g it.graph (ran it.args it.values said)

-- its listing is that of what the program means
pub outcome_listed : (p : Program) (words : List (List ℕ)) (options : Options) (graph : List ℕ) (g : NumberedGraph) (outcome : Outcome) (text : List ℕ) (status : Status)
    → (it : HasOutcome p words options graph g outcome) → Says text status (lines_of (output_declarations p) g Turns outcome) (status_of outcome) → Ran p options.turns g it.args text status
outcome_listed p words options graph g outcome text status it says =
    (says.0 ∙ ap (λ (o : Outcome). outcome_text p g o) it.means, says.1 ∙ ap (λ (o : Outcome). status_of o) it.means)
