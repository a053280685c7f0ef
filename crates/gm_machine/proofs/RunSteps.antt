-- A run goes from superstep to superstep.
use Rattle.std.proofs.Common.{◌≡◌, ℕ, Option, Some, None, List, [], ◌∷◌, ◌++◌, refl, sym, ap, ◌∙◌, subst, Ok, Err}
use Rattle.std.specs.Prelude.{Result, OnErr}
use Rattle.std.proofs.lemmas.List.{append-nil}
use Rattle.gm_value.specs.declared.values.Value.{Value}
use Rattle.gm_model.specs.declared.outcomes.RunEnd.{RunEnd}
use Rattle.gm_model.specs.Graphs.{NumberedGraph}
use Rattle.gm_image.specs.Program.{Program}
use Rattle.gm_observe.specs.declared.notes.Note.{Note}
use Rattle.gm_observe.specs.Audience.{told_to_all, IsToldToSome, AreToldUpTo, IsToldInPart, to_some}
use Rattle.gm_observe.proofs.Telling.{up_to-start, up_to-next, part-behind}
use Rattle.gm_machine.specs.declared.faults.Fault.{Fault}
use Rattle.gm_machine.specs.Machine.{Control, Nodes, Stepped, Stop, Faulted, Stops, Steps, pause, run_from, ends, run_step, superstep, step_ends, start_control, start_nodes}
use Rattle.gm_machine.specs.Notes.{note_of, noted, noted_step}
use Rattle.gm_machine.proofs.MasterLemmas.{resume, run_first}

-- A run for any kind of answer that depends on the nodes.
module _ {R : Type 0} (p : Program) (g : NumberedGraph) (stop : Stop → Nodes → R) (step : ℕ → ℕ → ℕ → Control → (Control → Nodes → R) → Nodes → R) where
  -- what the rest of a run answers, with so many turns left, from a line on
  abbrev pub rest_of : ℕ → ℕ → Control → Nodes → R
  rest_of left line c s = run_from p g stop step left line c s

  -- it is what follows its first pause
  rest-pauses : (left line : ℕ) (c : Control) (s : Nodes) → resume p g stop step (pause p g left line c) s ≡ rest_of left line c s
  rest-pauses left line c s = sym (ap (λ go. go s) (run_first p g stop step left line c))

  pub rest-stops : (left line : ℕ) (c : Control) (s : Nodes) (how : Stop) → Stops how ≡ pause p g left line c → stop how s ≡ rest_of left line c s
  rest-stops left line c s how is = ap (λ x. resume p g stop step x s) is ∙ rest-pauses left line c s

  pub rest-steps : (left line : ℕ) (c : Control) (s : Nodes) (left' q line' : ℕ) (c' : Control) → Steps left' q line' c' ≡ pause p g left line c →
      step left' q line' c' (λ d. rest_of left' line' d) s ≡ rest_of left line c s
  rest-steps left line c s left' q line' c' is = ap (λ x. resume p g stop step x s) is ∙ rest-pauses left line c s

  -- the rest is the whole run at its start
  pub rest-starts : (args : List Value) (turns left line : ℕ) (c : Control) (s : Nodes) → left ≡ turns → line ≡ 0 → c ≡ start_control p args → s ≡ start_nodes p g →
      rest_of left line c s ≡ rest_of turns 0 (start_control p args) (start_nodes p g)
  rest-starts args turns left line c s left_is line_is c_is s_is =
      ap (λ n. rest_of n line c s) left_is
      ∙ ap (λ j. rest_of turns j c s) line_is
      ∙ ap (λ d. rest_of turns 0 d s) c_is
      ∙ ap (rest_of turns 0 (start_control p args)) s_is

-- How a run ends, and what is noted of it.
module _ (p : Program) (g : NumberedGraph) where
  abbrev pub end_from : ℕ → ℕ → Control → Nodes → RunEnd
  end_from left line c s = rest_of p g (ends p) (run_step p g) left line c s

  abbrev pub notes_from : ℕ → ℕ → Control → Nodes → List Note
  notes_from left line c s = rest_of p g (λ stop t. []) (noted_step p g) left line c s

  -- both, after a superstep
  abbrev end_after : ℕ → ℕ → Control → Stepped → RunEnd
  end_after left line c t =
      let c' : Control = record c { globals = t.globals } in
      step_ends t.fault (λ f. ends p (Faulted f c') t.nodes) (end_from left line c' t.nodes)

  abbrev notes_after : ℕ → ℕ → ℕ → Control → Stepped → List Note
  notes_after left q line c t =
      let c' : Control = record c { globals = t.globals } in
      note_of g q t.nodes ∷ step_ends t.fault (λ f. []) (notes_from left line c' t.nodes)

  module _ (left line : ℕ) (c : Control) (s : Nodes) (left' q line' : ℕ) (c' : Control) (s' : Nodes) (globals : List Value) (fault : Option Fault) where
    -- a superstep as it was found
    abbrev found : Option Fault → Stepped
    found f = record { nodes = s'; globals = globals; fault = f }

    pub end-goes : Steps left' q line' c' ≡ pause p g left line c → record { nodes = s'; globals = globals; fault = fault } ≡ superstep p g q c'.globals s → fault ≡ None →
        end_from left' line' (record c' { globals = globals }) s' ≡ end_from left line c s
    end-goes is stepped none =
        ap (λ f. end_after left' line' c' (found f)) (sym none) ∙ ap (end_after left' line' c') stepped ∙ rest-steps p g (ends p) (run_step p g) left line c s left' q line' c' is

    pub end-faults : (f : Fault) → Steps left' q line' c' ≡ pause p g left line c → record { nodes = s'; globals = globals; fault = fault } ≡ superstep p g q c'.globals s → fault ≡ Some f →
        ends p (Faulted f (record c' { globals = globals })) s' ≡ end_from left line c s
    end-faults f is stepped some =
        ap (λ e. end_after left' line' c' (found e)) (sym some) ∙ ap (end_after left' line' c') stepped ∙ rest-steps p g (ends p) (run_step p g) left line c s left' q line' c' is

    notes-go : Steps left' q line' c' ≡ pause p g left line c → record { nodes = s'; globals = globals; fault = fault } ≡ superstep p g q c'.globals s → fault ≡ None →
        note_of g q s' ∷ notes_from left' line' (record c' { globals = globals }) s' ≡ notes_from left line c s
    notes-go is stepped none =
        ap (λ f. notes_after left' q line' c' (found f)) (sym none) ∙ ap (notes_after left' q line' c') stepped ∙ rest-steps p g (λ stop t. []) (noted_step p g) left line c s left' q line' c' is

    notes-end : (f : Fault) → Steps left' q line' c' ≡ pause p g left line c → record { nodes = s'; globals = globals; fault = fault } ≡ superstep p g q c'.globals s → fault ≡ Some f →
        note_of g q s' ∷ [] ≡ notes_from left line c s
    notes-end f is stepped some =
        ap (λ e. notes_after left' q line' c' (found e)) (sym some) ∙ ap (notes_after left' q line' c') stepped ∙ rest-steps p g (λ stop t. []) (noted_step p g) left line c s left' q line' c' is

    -- the same of observers, who are told of the superstep
    pub told-goes : (before held new : List (List Note)) (all : List Note) → Steps left' q line' c' ≡ pause p g left line c
        → record { nodes = s'; globals = globals; fault = fault } ≡ superstep p g q c'.globals s → fault ≡ None
        → AreToldUpTo all (notes_from left line c s) before held → new ≡ told_to_all (note_of g q (superstep p g q c'.globals s).nodes ∷ []) held
        → AreToldUpTo all (notes_from left' line' (record c' { globals = globals }) s') before new
    told-goes before held new all is stepped none so_far told =
        let rest : List Note = notes_from left' line' (record c' { globals = globals }) s' in
        let at : AreToldUpTo all (note_of g q s' ∷ rest) before held = subst (λ (ns : List Note). AreToldUpTo all ns before held) (sym (notes-go is stepped none)) so_far in
        up_to-next all rest (note_of g q s') before held new at (told ∙ ap (λ t. told_to_all (note_of g q t.nodes ∷ []) held) (sym stepped))

    pub told-faults : (f : Fault) (before held new : List (List Note)) (all : List Note) → Steps left' q line' c' ≡ pause p g left line c
        → record { nodes = s'; globals = globals; fault = fault } ≡ superstep p g q c'.globals s → fault ≡ Some f
        → AreToldUpTo all (notes_from left line c s) before held → new ≡ told_to_all (note_of g q (superstep p g q c'.globals s).nodes ∷ []) held
        → AreToldUpTo all [] before new
    told-faults f before held new all is stepped some so_far told =
        let at : AreToldUpTo all (note_of g q s' ∷ []) before held = subst (λ (ns : List Note). AreToldUpTo all ns before held) (sym (notes-end f is stepped some)) so_far in
        up_to-next all [] (note_of g q s') before held new at (told ∙ ap (λ t. told_to_all (note_of g q t.nodes ∷ []) held) (sym stepped))

  -- where the run stops, nothing more is told
  pub told-stops : (left line : ℕ) (c : Control) (s : Nodes) (how : Stop) (before held : List (List Note)) (all : List Note) → Stops how ≡ pause p g left line c
      → AreToldUpTo all (notes_from left line c s) before held → AreToldUpTo all [] before held
  told-stops left line c s how before held all is so_far =
      subst (λ (ns : List Note). AreToldUpTo all ns before held) (sym (rest-stops p g (λ stop t. []) (noted_step p g) left line c s how is)) so_far

  -- a superstep of which not all could be told, or that could not be taken
  pub told-breaks : (left line : ℕ) (c : Control) (s : Nodes) (left' q line' : ℕ) (c' : Control) (before held new : List (List Note)) (all : List Note)
      → Steps left' q line' c' ≡ pause p g left line c → AreToldUpTo all (notes_from left line c s) before held
      → IsToldInPart (note_of g q (superstep p g q c'.globals s).nodes ∷ []) held new → IsToldInPart all before new
  told-breaks left line c s left' q line' c' before held new all is so_far part =
      let t : Stepped = superstep p g q c'.globals s in
      let rest : List Note = step_ends t.fault (λ f. []) (notes_from left' line' (record c' { globals = t.globals }) t.nodes) in
      let at : AreToldUpTo all (note_of g q t.nodes ∷ rest) before held =
      subst (λ (ns : List Note). AreToldUpTo all ns before held) (sym (rest-steps p g (λ stop u. []) (noted_step p g) left line c s left' q line' c' is)) so_far in
      part-behind all rest (note_of g q t.nodes) before held new at part

-- all was told
pub told-all : (all : List Note) (before held : List (List Note)) → AreToldUpTo all [] before held → held ≡ told_to_all all before
told-all all before held so_far = so_far.all ∙ ap (λ (ns : List Note). told_to_all ns before) (sym (append-nil so_far.told) ∙ so_far.front)

-- of one note, some were told
pub part-some : (note told : Note) (before after : List (List Note)) → told ≡ note → IsToldToSome told before after → IsToldInPart (note ∷ []) before after
part-some note told before after is some =
    to_some note [] before (up_to-start (note ∷ []) (note ∷ []) before refl) (subst (λ (n : Note). IsToldToSome n before after) is some)

-- a fact of an error
pub part-on_err : {T E : Type 0} (r : Result T E) (notes : List Note) (before after : List (List Note)) → IsToldInPart notes before after → OnErr r (IsToldInPart notes before after)
part-on_err (Ok x) notes before after part = tt
part-on_err (Err e) notes before after part = part

-- a part of the notes of a run of the same image
pub part-of_same : (p q : Program) (g : NumberedGraph) (args : List Value) (turns : ℕ) (before after : List (List Note)) → p ≡ q
    → IsToldInPart (noted p g args turns) before after → IsToldInPart (noted q g args turns) before after
part-of_same p q g args turns before after same part = subst (λ (r : Program). IsToldInPart (noted r g args turns) before after) same part

-- all of them
pub told-of_same : (p q : Program) (g : NumberedGraph) (args : List Value) (turns : ℕ) (before after : List (List Note)) → p ≡ q
    → after ≡ told_to_all (noted p g args turns) before → after ≡ told_to_all (noted q g args turns) before
told-of_same p q g args turns before after same told = subst (λ (r : Program). after ≡ told_to_all (noted r g args turns) before) same told
