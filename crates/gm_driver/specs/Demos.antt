-- What `demo N` writes.
use Rattle.std.specs.Prelude.{◌≡◌, ℕ, ⊤, List, [], ◌∷◌, codes, Option}
use Rattle.gm_base.specs.declared.statuses.Status.{Status}
use Rattle.gm_base.specs.declared.statuses.Status.TheVariants as ends
use Rattle.gm_value.specs.declared.values.Value.{Value}
use Rattle.gm_model.specs.declared.outcomes.Outcome.{Outcome}
use Rattle.gm_model.specs.declared.outcomes.Outcome.TheVariants.{Done, Fault, Cut}
use Rattle.gm_model.specs.Graphs.{NumberedGraph}
use Rattle.gm_ast.specs.declared.tree.Declaration.{Declaration}
use Rattle.gm_ast.specs.Program.{Program}
use Rattle.gm_semantics.specs.Outcomes.{mean}
use Rattle.gm_canon.specs.Verdict.{StandsFor}
use Rattle.gm_listing.specs.declared.outputs.Ending.TheVariants.{Turns}
use Rattle.gm_listing.specs.Listing.{status_of}
use Rattle.gm_input.specs.Texts.{Says}
use Rattle.gm_input.specs.Answers.{IsTextAnswer, Saying, edge_list}
use Rattle.gm_source_runs.specs.Answers.{lines_of}
use Rattle.gm_source_runs.specs.Programs.{inputs_of, output_declarations, shape_of}
use Rattle.gm_demo.specs.Texts.{demo_text}
use Rattle.gm_demo.specs.Programs.{sssp_text}
use Rattle.gm_demo.specs.Lines.{demo_line}
use Rattle.gm_driver.specs.Runs.{SaysRefused}

-- how many turns a run may begin where no option says it
abbrev pub usual_turns : ℕ
usual_turns = 1000000

-- the word for the argument of the job that `demo n` stands for
abbrev pub demo_words : List (List ℕ)
demo_words = codes "root=0" ∷ []

-- a run came to its end with one output property, which has these values, and took so many turns
pub record IsDoneWith (outcome : Outcome) (values : List Value) (turns : ℕ) : Type 0 where
  pub scalars : List Value
  pub result : Option Value
  pub ended : outcome ≡ Done scalars result (values ∷ []) turns

-- an outcome is another than a run to its end with one output property
abbrev pub IsOther : Outcome → Type 0
IsOther (Done scalars result [] turns) = ⊤
IsOther (Done scalars result (values ∷ []) turns) = ⊥
IsOther (Done scalars result (values ∷ more ∷ others) turns) = ⊤
IsOther (Fault kind place) = ⊤
IsOther (Cut turns) = ⊤

-- the line for an outcome: of a run to its end with one output property it says the values and the turns
pub record IsDemoLine (n : ℕ) (outcome : Outcome) (line : List ℕ) : Type 0 where
  pub values : List Value
  pub turns : ℕ
  pub done : IsDoneWith outcome values turns
  pub says : line ≡ demo_line n values turns

-- what is said of an outcome over the graph of n nodes: its line, or where it has none the listing, by the declarations of the outputs
pub data SaysEnd (n : ℕ) (outputs : List Declaration) (g : NumberedGraph) (outcome : Outcome) (text : List ℕ) (status : Status) : Type 0 where
  line : IsDemoLine n outcome text → status ≡ ends.Done → SaysEnd n outputs g outcome text status
  listing : IsOther outcome → Says text status (lines_of outputs g Turns outcome) (status_of outcome) → SaysEnd n outputs g outcome text status

-- a program says over the graph of n nodes, with these arguments, what is said of what it means
abbrev pub RanDemo : ℕ → Program → Saying
RanDemo n p g args text status = SaysEnd n (output_declarations p) g (mean p g args usual_turns) text status

-- what is to be written for `demo n`: the procedure of the shortest paths breaks a rule, which is said; or it stands for a program, which runs
-- over the text of the graph of n nodes, from node 0, as `run` runs it, and this is said of what it means
pub data IsDemoAnswer (n : ℕ) (text : List ℕ) (status : Status) : Type 0 where
  refused : SaysRefused sssp_text text status → IsDemoAnswer n text status
  ran : (p : Program) → StandsFor sssp_text p → IsTextAnswer edge_list (shape_of p) (inputs_of p) demo_words (RanDemo n p) (demo_text n) text status → IsDemoAnswer n text status
