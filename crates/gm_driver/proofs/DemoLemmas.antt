-- Runs that do not come to their end with one output property, and what the demonstration says of runs.
use Rattle.std.proofs.Common.{◌≡◌, ◌≤◌, ◌<◌, ℕ, List, [], ◌∷◌, Option, length, refl, arith, subst}
use Rattle.gm_base.specs.declared.statuses.Status.{Status}
use Rattle.gm_value.specs.declared.values.Value.{Value}
use Rattle.gm_model.specs.Graphs.{NumberedGraph}
use Rattle.gm_model.specs.declared.outcomes.Outcome.{Outcome}
use Rattle.gm_model.specs.declared.outcomes.Outcome.TheVariants.{Done, Fault, Cut}
use Rattle.gm_ast.specs.declared.tree.Declaration.{Declaration}
use Rattle.gm_ast.specs.Program.{Program}
use Rattle.gm_canon.specs.Verdict.{StandsFor}
use Rattle.gm_semantics.specs.Outcomes.{mean}
use Rattle.gm_words.specs.declared.jobs.Options.{Options}
use Rattle.gm_words.specs.declared.jobs.Format.{Format}
use Rattle.gm_words.specs.declared.jobs.Format.TheVariants.{Edges}
use Rattle.gm_input.specs.Answers.{IsTextAnswer, edge_list, format_of}
use Rattle.gm_source_runs.specs.Answers.{HasOutcome, IsUnready}
use Rattle.gm_source_runs.specs.Programs.{inputs_of, output_declarations, shape_of}
use Rattle.gm_source_runs.proofs.AnswersLemmas.{outcome_answers, unready_answers}
use Rattle.gm_demo.specs.Programs.{sssp_text}
use Rattle.gm_demo.specs.Texts.{demo_text}
use Rattle.gm_driver.specs.Demos.{IsDemoAnswer, IsOther, RanDemo, SaysEnd, demo_words, ran, usual_turns}

-- an outcome that is no run to its end is another
pub other-unended : (o : Outcome) → ((scalars : List Value) (result : Option Value) (ps : List (List Value)) (turns : ℕ) → o ≡ Done scalars result ps turns → ⊥) → IsOther o
other-unended (Done scalars result ps turns) not = absurd (not scalars result ps turns refl)
other-unended (Fault kind place) not = tt
other-unended (Cut turns) not = tt

-- so is a run to its end with no output property, or with several
pub other-empty : (scalars : List Value) (result : Option Value) (ps : List (List Value)) (turns : ℕ) → length ps < 1 → IsOther (Done scalars result ps turns)
other-empty scalars result [] turns few = tt
other-empty scalars result (values ∷ ps) turns few = absurd (omega (arith, few))

pub other-many : (scalars : List Value) (result : Option Value) (ps : List (List Value)) (turns : ℕ) → 2 ≤ length ps → IsOther (Done scalars result ps turns)
other-many scalars result [] turns many = absurd (omega (arith, many))
other-many scalars result (values ∷ []) turns many = absurd (omega (arith, many))
other-many scalars result (values ∷ more ∷ others) turns many = tt

-- what is said of the outcome to which a program comes is said of what it means
said_of_meaning : (n : ℕ) (p : Program) (words : List (List ℕ)) (options : Options) (graph : List ℕ) (g : NumberedGraph) (outcome : Outcome) (text : List ℕ) (status : Status)
    → options.turns ≡ usual_turns → (it : HasOutcome p words options graph g outcome) → SaysEnd n (output_declarations p) g outcome text status → RanDemo n p g it.args text status
said_of_meaning n p words options graph g outcome text status turns it said =
    subst (λ (t : ℕ). SaysEnd n (output_declarations p) g (mean p g it.args t) text status) turns
    (subst (λ (o : Outcome). SaysEnd n (output_declarations p) g o text status) it.means said)

-- what is said over the text of the graph of n nodes, with the word for the argument
of_demo : (n : ℕ) (p : Program) (words : List (List ℕ)) (format : Format) (graph text : List ℕ) (status : Status) → words ≡ demo_words → graph ≡ demo_text n → format ≡ Edges
    → IsTextAnswer (format_of format) (shape_of p) (inputs_of p) words (RanDemo n p) graph text status → IsTextAnswer edge_list (shape_of p) (inputs_of p) demo_words (RanDemo n p) (demo_text n) text status
of_demo n p words format graph text status is_words is_graph is_edges said =
    subst (λ (f : Format). IsTextAnswer (format_of f) (shape_of p) (inputs_of p) demo_words (RanDemo n p) (demo_text n) text status) is_edges
    (subst (λ (t : List ℕ). IsTextAnswer (format_of format) (shape_of p) (inputs_of p) demo_words (RanDemo n p) t text status) is_graph
    (subst (λ (ws : List (List ℕ)). IsTextAnswer (format_of format) (shape_of p) (inputs_of p) ws (RanDemo n p) graph text status) is_words said))

-- the procedure runs, and this is said of its end
pub demo_says : (n : ℕ) (p : Program) (words : List (List ℕ)) (options : Options) (graph : List ℕ) (outputs : List Declaration) (g : NumberedGraph) (outcome : Outcome) (text : List ℕ) (status : Status)
    → StandsFor sssp_text p → words ≡ demo_words → graph ≡ demo_text n → options.format ≡ Edges → options.turns ≡ usual_turns → outputs ≡ output_declarations p
    → HasOutcome p words options graph g outcome → SaysEnd n outputs g outcome text status → IsDemoAnswer n text status
demo_says n p words options graph outputs g outcome text status stands is_words is_graph is_edges turns is_outputs it said =
    ran p stands (of_demo n p words options.format graph text status is_words is_graph is_edges
    (outcome_answers p words options (RanDemo n p) graph g outcome text status it
    (said_of_meaning n p words options graph g outcome text status turns it (subst (λ (ds : List Declaration). SaysEnd n ds g outcome text status) is_outputs said))))

-- or nothing runs, and that is said
pub demo_unready : (n : ℕ) (p : Program) (words : List (List ℕ)) (format : Format) (graph text : List ℕ) (status : Status) → StandsFor sssp_text p → words ≡ demo_words → graph ≡ demo_text n → format ≡ Edges
    → IsUnready (format_of format) (shape_of p) (inputs_of p) words graph text status → IsDemoAnswer n text status
demo_unready n p words format graph text status stands is_words is_graph is_edges said =
    ran p stands (of_demo n p words format graph text status is_words is_graph is_edges
    (unready_answers (format_of format) (shape_of p) (inputs_of p) words (RanDemo n p) graph text status said))
