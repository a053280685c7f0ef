-- What `compile` wrote runs as its program.
use Rattle.std.proofs.Common.{◌≡◌, ◌≤◌, ◌∙◌, ℕ, Bool, List, [], ◌∷◌, ◌++◌, length, map, refl, sym, ap, subst}
use Rattle.std.specs.Prelude.{Ok}
use Rattle.gm_base.specs.declared.statuses.Status.{Status}
use Rattle.gm_base.specs.declared.statuses.Status.TheVariants.{Done, Refused}
use Rattle.gm_value.specs.declared.values.VType.{VType}
use Rattle.gm_value.specs.declared.values.Value.{Value}
use Rattle.gm_model.specs.Graphs.{NumberedGraph}
use Rattle.gm_model.specs.declared.outcomes.Outcome.{Outcome}
use Rattle.gm_ast.specs.declared.tree.Declaration.{Declaration}
use Rattle.gm_ast.specs.declared.tree.Sort.{Sort}
use Rattle.gm_ast.specs.declared.tree.Sort.TheVariants as Sorts
use Rattle.gm_ast.specs.Procedures.{IsTyped}
use Rattle.gm_ast.specs.Program.{Program}
use Rattle.gm_canon.specs.Verdict.{StandsFor}
use Rattle.gm_semantics.specs.Outcomes.{mean}
use Rattle.gm_image.specs.Program as Image
use Rattle.gm_image.specs.Program.{Item}
use Rattle.gm_image_text.specs.ImageText.{most_bytes}
use Rattle.gm_image_text.proofs.Binds.{ok_is}
use Rattle.gm_image_text.proofs.Whole.{text_again}
use Rattle.gm_machine.specs.Machine.{machine, properties, scalars}
use Rattle.gm_listing.specs.declared.outputs.Ending.{Ending}
use Rattle.gm_listing.specs.declared.outputs.Ending.TheVariants.{Counts}
use Rattle.gm_listing.specs.Listing.{listing, status_of}
use Rattle.gm_words.specs.declared.arguments.Input.{Input}
use Rattle.gm_words.specs.declared.jobs.Options.{Options}
use Rattle.gm_words.specs.Arguments.{values_bound}
use Rattle.gm_input.specs.Answers.{SaysBadArgument, bad_argument, bad_graph, format_of, good_graph, ran}
use Rattle.gm_compilable.specs.Parameters.{HasItemsOf, Named, named, named_items, named_of}
use Rattle.gm_compilable.specs.Parted.{parted}
use Rattle.gm_compilable.proofs.Items.{image-items}
use Rattle.gm_compilable.proofs.Tables.{has-no-edges}
use Rattle.gm_compilable.proofs.Texts.{accepted-of-text}
use Rattle.gm_lower.specs.Images.{image_of}
use Rattle.gm_lower.proofs.Outputs.{image_is}
use Rattle.gm_lowering.specs.Lowered.{lowered}
use Rattle.gm_merge.specs.Merged.{merged}
use Rattle.gm_combiners.specs.Combiners.{combining}
use Rattle.gm_merge.proofs.Beginning.{merged-rest}
use Rattle.gm_compile.specs.Compiled.{compiled}
use Rattle.gm_exec.specs.Flaws as flaws
use Rattle.gm_exec.specs.Programs as exec
use Rattle.gm_exec.specs.Runs.{Audience, reports_after}
use Rattle.gm_exec.specs.Runs as exec_runs
use Rattle.gm_source_runs.specs.Answers.{lines_of}
use Rattle.gm_source_runs.specs.Programs.{input_declarations, inputs_of, names_of, of_sort, output_declarations, shape_of}
use Rattle.gm_run.proofs.Asked.{asked_inputs}
use Rattle.gm_run.proofs.SameColumns.{faulty_alike, stands_alike}
use Rattle.gm_driver.specs.Images.{HasImage, IsCompiled, IsWrittenOf, no_image, refused, unwritten, written}
use Rattle.gm_driver.specs.Executed.{CompiledIsExecuted, IsExecutedAs, RanCounted, RunsAlike}

-- ---- names and types

-- something of each input or output, by its name and type
of_items : {B : Type 0} (f : List ℕ → VType → B) (items : List Item) → map (λ i. f i.name i.vtype) items ≡ map (λ (n : Named). f n.0 n.1) (named_items items)
of_items f [] = refl
of_items f (i ∷ items) = ap (λ xs. f i.name i.vtype ∷ xs) (of_items f items)

of_declarations : {B : Type 0} (f : List ℕ → VType → B) (ds : List Declaration) → map (λ (n : Named). f n.0 n.1) (map (λ d. named d.name d.variable.vtype) ds) ≡ map (λ d. f d.name d.variable.vtype) ds
of_declarations f [] = refl
of_declarations f (d ∷ ds) = ap (λ xs. f d.name d.variable.vtype ∷ xs) (of_declarations f ds)

-- items with the names and types of the declarations of a sort
by_names : {B : Type 0} (f : List ℕ → VType → B) (sort : Sort) (items : List Item) (ds : List Declaration) → named_items items ≡ named_of sort ds
    → map (λ i. f i.name i.vtype) items ≡ map (λ d. f d.name d.variable.vtype) (of_sort sort ds)
by_names f sort items ds same = of_items f items ∙ ap (λ (ns : List Named). map (λ (n : Named). f n.0 n.1) ns) same ∙ of_declarations f (of_sort sort ds)

-- what an image asks and writes is what a program asks and writes
record AsksAlike (i : Image.Program) (p : Program) : Type 0 where
  nodes : (exec.shape_of i).nodes ≡ (shape_of p).nodes
  edges : (exec.shape_of i).edges ≡ (shape_of p).edges
  inputs : exec.inputs_of i ≡ inputs_of p
  scalar_names : exec.scalar_outputs i ≡ names_of Sorts.Scalar (output_declarations p)
  property_names : exec.property_outputs i ≡ names_of Sorts.NodeProperty (output_declarations p)

asks_alike : (i : Image.Program) (p : Program) → HasItemsOf p i → AsksAlike i p
asks_alike i p it = record {
  nodes = by_names (λ n t. t) Sorts.NodeProperty (properties i.inputs) (input_declarations p) it.property_inputs;
  edges = it.columns ∙ of_declarations (λ n t. t) (of_sort Sorts.EdgeProperty (input_declarations p));
  inputs = by_names (λ n t. exec.input_of n t) Sorts.Scalar (scalars i.inputs) (input_declarations p) it.scalar_inputs;
  scalar_names = by_names (λ n t. n) Sorts.Scalar (scalars i.outputs) (output_declarations p) it.scalar_outputs;
  property_names = by_names (λ n t. n) Sorts.NodeProperty (properties i.outputs) (output_declarations p) it.property_outputs;
}

-- merging keeps them
merged_items : (p : Program) (i : Image.Program) → HasItemsOf p i → HasItemsOf p (merged i)
merged_items p i it =
    subst (λ (m : Image.Program). HasItemsOf p m) (sym (merged-rest i)) (record {
      name = it.name;
      scalar_inputs = it.scalar_inputs;
      property_inputs = it.property_inputs;
      columns = it.columns;
      scalar_outputs = it.scalar_outputs;
      property_outputs = it.property_outputs;
      result = it.result;
    })

-- combiners keep them
combined_items : (p : Program) (i : Image.Program) → HasItemsOf p i → HasItemsOf p (combining i)
combined_items p i it = record {
  name = it.name;
  scalar_inputs = it.scalar_inputs;
  property_inputs = it.property_inputs;
  columns = it.columns;
  scalar_outputs = it.scalar_outputs;
  property_outputs = it.property_outputs;
  result = it.result;
}

-- so the image of the program of a text has the program's
compiled_items : (whole : List ℕ) (p : Program) → StandsFor whole p → HasItemsOf p (compiled p)
compiled_items whole p stands =
    let typed : IsTyped p = (accepted-of-text whole p stands).typed in
    let own : image_of (parted p) ≡ lowered (parted p) = image_is (parted p) (has-no-edges p typed) in
    combined_items p (merged (image_of (parted p))) (merged_items p (image_of (parted p)) (subst (λ (i : Image.Program). HasItemsOf p i) (sym own) (image-items p typed)))

-- ---- answers

module _ (whole : List ℕ) (p : Program) (it : HasImage whole p) where
  asks : AsksAlike (compiled p) p
  asks = asks_alike (compiled p) p (compiled_items whole p it.stands)

  -- the listing of what an image does is that of what its program means
  end_alike : (g : NumberedGraph) (args : List Value) (turns : ℕ) → (machine (compiled p) g args turns).outcome ≡ mean p g args turns
      → exec_runs.end_text (compiled p) g (machine (compiled p) g args turns)
      ≡ lines_of (output_declarations p) g (Counts (machine (compiled p) g args turns).supersteps (machine (compiled p) g args turns).messages) (mean p g args turns)
  end_alike g args turns same =
      let end : Ending = Counts (machine (compiled p) g args turns).supersteps (machine (compiled p) g args turns).messages in
      ap (λ (ns : List (List ℕ)). listing ns (exec.property_outputs (compiled p)) g.numbers end (machine (compiled p) g args turns).outcome) asks.scalar_names
      ∙ ap (λ (ns : List (List ℕ)). listing (names_of Sorts.Scalar (output_declarations p)) ns g.numbers end (machine (compiled p) g args turns).outcome) asks.property_names
      ∙ ap (λ (o : Outcome). lines_of (output_declarations p) g end o) same

  ran_alike : (turns : ℕ) (watched : Bool) (a : Audience) (g : NumberedGraph) (args : List Value) (text : List ℕ) (status : Status) → (machine (compiled p) g args turns).outcome ≡ mean p g args turns
      → exec_runs.Ran (compiled p) turns watched a g args text status → RanCounted (compiled p) p turns watched a g args text status
  ran_alike turns watched a g args text status same r = record {
    told = r.told;
    says = (r.says.0 ∙ ap (λ (xs : List ℕ). xs ++ reports_after watched a.ways a.after) (end_alike g args turns same), r.says.1 ∙ ap (λ (o : Outcome). status_of o) same);
  }

  runs_alike : RunsAlike (compiled p) p
  runs_alike words options a graph text status (bad_graph said) =
      bad_graph (record { line = said.line; faulty = faulty_alike options.format (exec.shape_of (compiled p)) (shape_of p) graph said.line asks.nodes asks.edges said.faulty; says = said.says })
  runs_alike words options a graph text status (good_graph g of_text (bad_argument said)) =
      good_graph g (stands_alike options.format (exec.shape_of (compiled p)) (shape_of p) graph g asks.nodes asks.edges of_text)
      (bad_argument (subst (λ (xs : List Input). SaysBadArgument xs words g text status) asks.inputs said))
  runs_alike words options a graph text status (good_graph g of_text (ran args values r)) =
      let stands = stands_alike options.format (exec.shape_of (compiled p)) (shape_of p) graph g asks.nodes asks.edges of_text in
      let bound = subst (λ (xs : List Input). values_bound xs words g.numbers ≡ Ok args) asks.inputs values in
      let same : (machine (compiled p) g args options.turns).outcome ≡ mean p g args options.turns =
      it.represents.outcome g args options.turns (asked_inputs whole p options.format graph g words args it.stands r.known stands bound) in
      good_graph g stands (ran args bound (ran_alike options.turns options.observe a g args text status same r))

-- what was written of an image is read as this image alone, and it runs as the program
written_runs : (whole image : List ℕ) (p : Program) → HasImage whole p → IsWrittenOf (compiled p) image → length image ≤ most_bytes → IsExecutedAs whole image
written_runs whole image p it text short = record {
  source = p;
  stands = it.stands;
  read = record { short = short; spelled = text.spelled; sound = text.sound };
  alone = λ i other. ok_is i (compiled p) (sym (text_again image i other.spelled) ∙ text_again image (compiled p) text.spelled);
  alike = runs_alike whole p it;
}

pub compiled_is_executed : CompiledIsExecuted
compiled_is_executed whole image (written p it text is) short = written_runs whole image p it text short
compiled_is_executed whole image (unwritten (refused said)) short = let e : Done ≡ Refused = said.says.1 in absurd cc
compiled_is_executed whole image (unwritten (no_image said)) short = let e : Done ≡ Refused = said.says.1 in absurd cc
