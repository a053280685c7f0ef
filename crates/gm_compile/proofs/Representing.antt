-- An image that came of a program by the passes stands for it.
use Rattle.std.proofs.Common.{◌≡◌, refl, sym, ap, ◌∙◌, suc}
use Rattle.std.specs.Prelude.{ℕ, List, [], ◌∷◌, length, map}
use Rattle.gm_value.specs.declared.values.VType.{VType}
use Rattle.gm_value.specs.declared.values.Value.{Value}
use Rattle.gm_model.specs.Graphs.{NumberedGraph, node_count}
use Rattle.gm_ast.specs.declared.tree.Sort.TheVariants as Sorts
use Rattle.gm_ast.specs.Procedures.{IsTyped}
use Rattle.gm_ast.specs.Program.{Program}
use Rattle.gm_accepted.specs.Laws.{AcceptedIsReady, AcceptedCanBecomeLoops}
use Rattle.gm_canon.specs.Verdict.{StandsFor}
use Rattle.gm_forms.specs.Meanings.{Fits}
use Rattle.gm_image.specs.Program as Image
use Rattle.gm_interface.specs.Laws.{TypedHasTable}
use Rattle.gm_lower.specs.Laws.{IsItsImage}
use Rattle.gm_lowering.specs.Layouts.{column_types}
use Rattle.gm_lowering.specs.Lowered.{lowered}
use Rattle.gm_lowering_master.specs.Whole.{HasEdgeColumns}
use Rattle.gm_machine.specs.Machine.{machine}
use Rattle.gm_merge.specs.Results.{SameOutcomes}
use Rattle.gm_plain_loops.specs.Laws.{ReadyProgramsRun}
use Rattle.gm_semantics.specs.Outcomes.{mean}
use Rattle.gm_typed_stores.specs.Laws.{HasInputs, FitsBelow, AskedFits, input_types}
use Rattle.gm_typed_stores.specs.Values.{Along}
use Rattle.gm_compilable.specs.Laws as Compilable
use Rattle.gm_compilable.specs.Parted.{parted}
use Rattle.gm_compilable.proofs.Arguments.{columns-first}
use Rattle.gm_compile.specs.Compiled.{MayBeParted, Represents}
use Rattle.gm_compile.specs.Laws.{HasSameInterface, IsPartedWell}

-- the laws that it rests on
pub record Laws : Type 0 where
  pub of_text : Compilable.AcceptedIsOfText
  pub ready : AcceptedIsReady
  pub loops : AcceptedCanBecomeLoops
  pub tables : TypedHasTable
  pub parted_tables : Compilable.PartedHasTable
  pub outputs : Compilable.PartedHasNoEdgeOutputs
  pub well_typed : Compilable.PartedIsWellTyped
  pub fits : Compilable.PartedFits
  pub columns : Compilable.PartedHasColumns
  pub runs : ReadyProgramsRun
  pub asked : AskedFits

-- what fits below a limit fits
pub below-fits : (limit : ℕ) (p : Program) (g : NumberedGraph) (args : List Value) → FitsBelow limit p g args → Fits p g args
below-fits limit p g args f = record {
  graph = f.graph.graph;
  scalars = λ x h is. (f.scalars x h is).of_type;
  nodes = λ x n h is. (f.nodes x n h is).of_type;
  edges = λ x e h is. (f.edges x e h is).of_type;
}

-- one for each of some types are as many
pub along-length : {A : Type 0} (P : VType → A → Type 0) (ts : List VType) (xs : List A) → Along P ts xs → length ts ≡ length xs
along-length P [] [] h = refl
along-length P (t ∷ ts) (x ∷ xs) h = ap suc (along-length P ts xs h.1)
along-length P [] (x ∷ xs) h = absurd h
along-length P (t ∷ ts) [] h = absurd h

-- a list of the same length
pub empties : {A B : Type 0} (b : B) (ts : List A) → length ts ≡ length (map (λ t. b) ts)
empties b [] = refl
empties b (t ∷ ts) = ap suc (empties b ts)

module _ (laws : Laws) (text : List ℕ) (p : Program) (stands : StandsFor text p) where
  -- the program breaks no rule of types
  abbrev typed : IsTyped p
  typed = (laws.of_text text p stands).typed

  -- the passes can write it with plain loops
  pub may : MayBeParted p
  may = record { loops = laws.loops text p stands; typed = typed; canonical = stands.stands.canonical }

  -- it has a column for each property of edges among its inputs, and the parted program has as many
  columns-declared : column_types p ≡ input_types p Sorts.EdgeProperty
  columns-declared = columns-first p (laws.tables p typed)

  columns-kept : length (column_types (parted p)) ≡ length (input_types p Sorts.EdgeProperty)
  columns-kept =
      let g : NumberedGraph = record { numbers = []; edges = []; node_columns = []; edge_columns = map (λ t. []) (column_types p) } in
      laws.columns p g typed (empties [] (column_types p)) ∙ sym (empties [] (column_types p)) ∙ ap length columns-declared

  module _ (well : IsPartedWell p) where
    -- the machine on the program's image has the outcome that the program means
    outcome-same : (g : NumberedGraph) (args : List Value) (bound : ℕ) → HasInputs (node_count g) p g args → (machine (lowered (parted p)) g args bound).outcome ≡ mean p g args bound
    outcome-same g args bound has =
        let fits : FitsBelow (node_count g) p g args = laws.asked (node_count g) p g args has in
        let columns : HasEdgeColumns p g = ap length columns-declared ∙ along-length (λ t column. _) (input_types p Sorts.EdgeProperty) g.edge_columns has.edges in
        laws.runs (parted p) g args bound well.ready (laws.parted_tables p typed).interface well.tells well.suits
        (laws.well_typed (node_count g) p typed (laws.ready text p stands) well.ready)
        (laws.fits (node_count g) p g args typed fits) (laws.columns p g typed columns)
        ∙ well.same.same g args bound (below-fits (node_count g) p g args fits)

    -- and so has one with the same outcomes
    pub represented : (i m : Image.Program) → IsItsImage (parted p) i → SameOutcomes i m → HasSameInterface i m → Represents m p
    represented i m own outcomes rest =
        let its : i ≡ lowered (parted p) = own (laws.outputs p typed) in
        record {
          outcome = λ g args bound has. outcomes g args bound ∙ ap (λ x. (machine x g args bound).outcome) its ∙ outcome-same g args bound has;
          columns = ap (λ x. length x.columns) rest ∙ ap (λ x. length x.columns) its ∙ columns-kept;
        }
