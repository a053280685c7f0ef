-- What observers hold after a run, and what the run says of them.
use Rattle.std.proofs.Common.{◌≡◌, ◌∙◌, ℕ, List, [], ◌++◌, refl, ap, sym, inl, inr, true, false}
use Rattle.std.specs.Prelude.{Result, Ok, Err, IfOk}
use Rattle.std.proofs.lemmas.List.{append-nil}
use Rattle.gm_base.specs.declared.statuses.Status.{Status}
use Rattle.gm_value.specs.declared.values.Value.{Value}
use Rattle.gm_model.specs.declared.outcomes.Outcome.{Outcome}
use Rattle.gm_model.specs.declared.outcomes.Outcome.TheVariants.{Done, Fault, Cut}
use Rattle.gm_model.specs.Graphs.{IsGraph, NumberedGraph}
use Rattle.gm_image.specs.Program.{Program}
use Rattle.gm_machine.specs.Machine.{machine}
use Rattle.gm_machine.specs.Notes.{noted}
use Rattle.gm_observe.specs.declared.notes.Note.{Note}
use Rattle.gm_observe.specs.Audience.{IsToldInPart, to_all, told_to_all, reports}
use Rattle.gm_observe.proofs.Telling.{up_to-start}
use Rattle.gm_listing.specs.Listing.{status_of}
use Rattle.gm_input.specs.Texts.{Says}
use Rattle.gm_exec.specs.Runs.{audience, end_text, Ran, IsUntold}

-- nothing of some notes is a part of them, and so are all of them
pub part-none : (notes : List Note) (held : List (List Note)) → IsToldInPart notes held held
part-none notes held = to_all notes (up_to-start notes notes held refl)

pub part-all : (notes : List Note) (before after : List (List Note)) → after ≡ told_to_all notes before → IsToldInPart notes before after
part-all notes before after told = to_all [] (record { told = notes; front = append-nil notes; all = told })

-- a run is no bad input and no failed read
pub ran-told : (o : Outcome) (status : Status) (before after : List (List Note)) → status ≡ status_of o → IsUntold status before after
ran-told (Done scalars result nodes turns) status before after is (inl bad) = cc
ran-told (Done scalars result nodes turns) status before after is (inr bad) = cc
ran-told (Fault kind place) status before after is (inl bad) = cc
ran-told (Fault kind place) status before after is (inr bad) = cc
ran-told (Cut turns) status before after is (inl bad) = cc
ran-told (Cut turns) status before after is (inr bad) = cc

-- two facts of one answer
pub both : {A E : Type 0} (P Q R : A → Type 0) (r : Result A E) → ((x : A) → P x → Q x → R x) → IfOk r P → IfOk r Q → IfOk r R
both P Q R (Ok x) step p q = step x p q
both P Q R (Err e) step p q = tt

-- a run that nobody watches
pub ran-alone : (p : Program) (turns : ℕ) (ways : List (List Note → List ℕ)) (held : List (List Note)) (g : NumberedGraph) (args : List Value) (text : List ℕ) (status : Status)
    → IsGraph g → Says text status (end_text p g (machine p g args turns)) (status_of (machine p g args turns).outcome) → Ran p turns false (audience ways held held) g args text status
ran-alone p turns ways held g args text status known says = record { known = known; told = refl; says = (says.0 ∙ sym (append-nil (end_text p g (machine p g args turns))), says.1) }

-- a run that is watched: its listing, and the reports behind it
pub ran-watched : (p : Program) (turns : ℕ) (ways same : List (List Note → List ℕ)) (before after : List (List Note)) (g : NumberedGraph) (args : List Value) (text listed : List ℕ) (status ending : Status)
    → IsGraph g → after ≡ told_to_all (noted p g args turns) before → Says listed ending (end_text p g (machine p g args turns)) (status_of (machine p g args turns).outcome)
    → same ≡ ways → text ≡ listed ++ reports same after → status ≡ ending → Ran p turns true (audience ways before after) g args text status
ran-watched p turns ways same before after g args text listed status ending known told says is written ends = record {
  known = known;
  told = told;
  says = (
    written ∙ ap (λ (xs : List ℕ). xs ++ reports same after) says.0 ∙ ap (λ (ws : List (List Note → List ℕ)). end_text p g (machine p g args turns) ++ reports ws after) is,
    ends ∙ says.1,
  );
}
