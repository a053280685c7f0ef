-- What is said by a compiled program is what the program says.
use Rattle.std.proofs.Common.{◌≡◌, ◌∙◌, ℕ, Bool, List, ◌++◌, length, refl, sym, ap, subst}
use Rattle.std.specs.Prelude.{OnOk, Ok, Err, Result}
use Rattle.gm_base.specs.declared.statuses.Status.{Status}
use Rattle.gm_value.specs.declared.values.Value.{Value}
use Rattle.gm_model.specs.declared.outcomes.Outcome.{Outcome}
use Rattle.gm_model.specs.declared.outcomes.RunEnd.{RunEnd}
use Rattle.gm_model.specs.Graphs.{IsGraph, NumberedGraph}
use Rattle.gm_graph.specs.declared.builds.Shape.{Shape}
use Rattle.gm_ast.specs.declared.tree.Declaration.{Declaration}
use Rattle.gm_ast.specs.declared.tree.Sort.TheVariants.{EdgeProperty}
use Rattle.gm_ast.specs.Program.{Program}
use Rattle.gm_canon.specs.Verdict.{StandsFor}
use Rattle.gm_image.specs.Program as images
use Rattle.gm_image.specs.Views.{program}
use Rattle.gm_observe.specs.declared.notes.Note.{Note}
use Rattle.gm_machine.specs.Machine.{machine}
use Rattle.gm_machine.specs.Notes.{noted}
use Rattle.gm_exec.specs.Runs.{Audience, audience, held_after, reports_after}
use Rattle.gm_listing.specs.Listing.{status_of}
use Rattle.gm_words.specs.declared.arguments.Input.{Input}
use Rattle.gm_words.specs.declared.jobs.Format.{Format}
use Rattle.gm_words.specs.declared.jobs.Options.{Options}
use Rattle.gm_words.specs.Arguments.{values_bound}
use Rattle.gm_input.specs.Answers as input
use Rattle.gm_input.specs.Answers.{IsGraphOf, SaysBadArgument, Saying, format_of, good_graph, ran}
use Rattle.gm_input.specs.Texts.{Says}
use Rattle.gm_compile.specs.Compiled.{Represents}
use Rattle.gm_run.specs.declared.compiling.Compiled.{Compiled}
use Rattle.gm_source_runs.specs.Answers.{HasOutcome, IsUnready, bad_text, bad_words}
use Rattle.gm_run.specs.Compiled.{IsShown, RanShown, RunsAs, shown_text}
use Rattle.gm_source_runs.specs.Programs.{inputs_of, output_declarations, shape_of}
use Rattle.gm_source_runs.proofs.AnswersLemmas.{unready_answers}
use Rattle.gm_run.proofs.Asked.{asked_columns, asked_inputs}
use Rattle.gm_run.proofs.SameColumns.{faulty_alike, stands_alike}

-- an image that stands for the program of a text runs as the program
pub runs_as : (whole : List ℕ) (p : Program) (c : Compiled) → StandsFor whole p → (c.interface.shape).nodes ≡ (shape_of p).nodes → (c.interface.shape).edges ≡ (shape_of p).edges
    → c.interface.inputs.items ≡ inputs_of p → c.interface.outputs.items ≡ output_declarations p → Represents (program c.image) p → RunsAs c p
runs_as whole p c stands nodes edges inputs outputs it = record {
  nodes = nodes;
  edges = edges;
  inputs = inputs;
  outputs = outputs;
  rows = it.columns ∙ asked_columns whole p stands ∙ sym (ap length edges);
  outcome = λ f text g graph of_text words args values turns. it.outcome g args turns (asked_inputs whole p f text g words args stands graph of_text values);
}

-- the graph and the values of a compiled program are those of the program
pub graph_alike : (c : Compiled) (p : Program) (f : Format) (text : List ℕ) (g : NumberedGraph) → RunsAs c p → IsGraphOf (format_of f) c.interface.shape text g → IsGraphOf (format_of f) (shape_of p) text g
graph_alike c p f text g runs is = stands_alike f c.interface.shape (shape_of p) text g runs.nodes runs.edges is

pub values_alike : (c : Compiled) (p : Program) (words : List (List ℕ)) (g : NumberedGraph) (args : List Value) → RunsAs c p
    → values_bound c.interface.inputs.items words g.numbers ≡ Ok args → values_bound (inputs_of p) words g.numbers ≡ Ok args
values_alike c p words g args runs is = subst (λ (xs : List Input). values_bound xs words g.numbers ≡ Ok args) runs.inputs is

-- where nothing runs, that is said of the program
pub unready_alike : (c : Compiled) (p : Program) (f : Format) (words : List (List ℕ)) (graph text : List ℕ) (status : Status) → RunsAs c p
    → IsUnready (format_of f) c.interface.shape c.interface.inputs.items words graph text status → IsUnready (format_of f) (shape_of p) (inputs_of p) words graph text status
unready_alike c p f words graph text status runs (bad_text said) =
    bad_text (record { line = said.line; faulty = faulty_alike f c.interface.shape (shape_of p) graph said.line runs.nodes runs.edges said.faulty; says = said.says })
unready_alike c p f words graph text status runs (bad_words g stands said) =
    bad_words g (graph_alike c p f graph g runs stands) (subst (λ (xs : List Input). SaysBadArgument xs words g text status) runs.inputs said)

-- and so it is whatever would be said of a run
pub unready_says : (c : Compiled) (p : Program) (f : Format) (words : List (List ℕ)) (Said : Saying) (graph text : List ℕ) (status : Status) → RunsAs c p
    → IsUnready (format_of f) c.interface.shape c.interface.inputs.items words graph text status → input.IsTextAnswer (format_of f) (shape_of p) (inputs_of p) words Said graph text status
unready_says c p f words Said graph text status runs is =
    unready_answers (format_of f) (shape_of p) (inputs_of p) words Said graph text status (unready_alike c p f words graph text status runs is)

-- what is said of a run
pub ready_says : (c : Compiled) (p : Program) (f : Format) (words : List (List ℕ)) (Said : Saying) (graph : List ℕ) (g : NumberedGraph) (args : List Value) (text : List ℕ) (status : Status) → RunsAs c p
    → IsGraphOf (format_of f) c.interface.shape graph g → values_bound c.interface.inputs.items words g.numbers ≡ Ok args → Said g args text status
    → input.IsTextAnswer (format_of f) (shape_of p) (inputs_of p) words Said graph text status
ready_says c p f words Said graph g args text status runs of_text values said =
    good_graph g (graph_alike c p f graph g runs of_text) (ran args (values_alike c p words g args runs values) said)

-- the outcome to which a compiled program's image comes is that of the program
pub outcome_alike : (c : Compiled) (p : Program) (options : Options) (words : List (List ℕ)) (graph : List ℕ) (g : NumberedGraph) (args : List Value) (outcome : Outcome) → RunsAs c p
    → IsGraph g → IsGraphOf (format_of options.format) c.interface.shape graph g → values_bound c.interface.inputs.items words g.numbers ≡ Ok args
    → outcome ≡ (machine (program c.image) g args options.turns).outcome → HasOutcome p words options graph g outcome
outcome_alike c p options words graph g args outcome runs known of_text values is =
    let stands : IsGraphOf (format_of options.format) (shape_of p) graph g = graph_alike c p options.format graph g runs of_text in
    let bound : values_bound (inputs_of p) words g.numbers ≡ Ok args = values_alike c p words g args runs values in
    record { graph = stands; args = args; values = bound; means = is ∙ runs.outcome options.format graph g known stands words args bound options.turns }

-- what is said of a run whose image is shown
pub shown_says : (c : Compiled) (p : Program) (turns : ℕ) (watched : Bool) (a : Audience) (g : NumberedGraph) (args : List Value) (text : List ℕ) (status : Status) → RunsAs c p
    → IsShown (program c.image) c.interface.outputs.items turns watched a g args text status → RanShown (program c.image) p turns watched a g args text status
shown_says c p turns watched a g args text status runs said =
    subst (λ (ds : List Declaration). IsShown (program c.image) ds turns watched a g args text status) runs.outputs said

-- a run whose image is shown: what is written of its end, and the reports behind it
pub is_shown : (i : images.Program) (outputs : List Declaration) (turns : ℕ) (watched : Bool) (ways same : List (List Note → List ℕ)) (before after : List (List Note)) (g : NumberedGraph) (args : List Value) (end : RunEnd)
    (text lines : List ℕ) (status ending : Status) → end ≡ machine i g args turns → after ≡ held_after watched (noted i g args turns) before → Says lines ending (shown_text i outputs g end) (status_of end.outcome)
    → same ≡ ways → text ≡ lines ++ reports_after watched same after → status ≡ ending → IsShown i outputs turns watched (audience ways before after) g args text status
is_shown i outputs turns watched ways same before after g args end text lines status ending ended told says is written ends = record {
  told = told;
  says = (
    written ∙ ap (λ (xs : List ℕ). xs ++ reports_after watched same after) says.0 ∙ ap (λ (ws : List (List Note → List ℕ)). shown_text i outputs g end ++ reports_after watched ws after) is
        ∙ ap (λ (e : RunEnd). shown_text i outputs g e ++ reports_after watched ways after) ended,
    ends ∙ says.1 ∙ ap (λ (e : RunEnd). status_of e.outcome) ended,
  );
}

-- what holds in any case holds where there is an answer
pub on_ok : {A E : Type 0} (P : Type 0) (r : Result A E) → P → OnOk r P
on_ok P (Ok x) fact = fact
on_ok P (Err e) fact = tt
