-- What does not depend on the order of messages and of contributions.
use Rattle.std.specs.Prelude.{ℕ, ◌≡◌, IsTrue, List, [], ◌∷◌, length}
use Rattle.std.specs.List.{flat_map}
use Rattle.gm_value.specs.declared.values.Value.{Value}
use Rattle.gm_value.specs.Bag.{SameBag}
use Rattle.gm_image.specs.Program.{Program, Block, Handler, Line, SetField, Fold, SetRegister, Put, Send, Skip, Each}
use Rattle.gm_image.specs.Parts.{slots_of}
use Rattle.gm_image.specs.Folds.{Reduction}
use Rattle.gm_image.specs.Soundness.{is_sound}
use Rattle.gm_machine.specs.Taking.{Contribution, settled}
use Rattle.gm_machine.specs.Vertex.{Message, VertexContext, After, vertex_after}
use Rattle.gm_machine.specs.Machine.{block_at}

-- slots that have one reduction, the same
abbrev pub AreReducedBy : (ℕ → Reduction) → Reduction → List ℕ → Type 0
AreReducedBy reduction r [] = Unit {0}
AreReducedBy reduction r (slot ∷ slots) = (r ≡ reduction slot) × AreReducedBy reduction r slots

-- a line that folds each field by the field's reduction, which has the list of the fields that are folded with it
abbrev pub LineFoldsBy : (ℕ → Reduction) → Line → Type 0
LineFoldsBy reduction (Fold r place ts) = AreReducedBy reduction (record { reduce = r; slots = slots_of ts }) (slots_of ts)
LineFoldsBy reduction (SetField f a) = Unit {0}
LineFoldsBy reduction (SetRegister r a) = Unit {0}
LineFoldsBy reduction (Put r place ts) = Unit {0}
LineFoldsBy reduction (Send kind to ts) = Unit {0}
LineFoldsBy reduction (Skip n a) = Unit {0}
LineFoldsBy reduction (Each d n) = Unit {0}

abbrev pub LinesFoldBy : (ℕ → Reduction) → List Line → Type 0
LinesFoldBy reduction [] = Unit {0}
LinesFoldBy reduction (l ∷ ls) = LineFoldsBy reduction l × LinesFoldBy reduction ls

-- handlers that fold each field by one reduction
abbrev pub HandlersFoldBy : (ℕ → Reduction) → List Handler → Type 0
HandlersFoldBy reduction [] = Unit {0}
HandlersFoldBy reduction (h ∷ handlers) = LinesFoldBy reduction h.lines × HandlersFoldBy reduction handlers

-- two ends of a vertex's step that differ in the order of messages and contributions alone
pub record SameStep (a b : After) : Type 0 where
  pub fields : a.state.fields ≡ b.state.fields
  pub fault : a.fault ≡ b.fault
  pub puts : SameBag a.state.puts b.state.puts
  pub messages : SameBag a.state.messages b.state.messages

-- the step of a vertex depends on its inbox as a bag alone, where its handlers fold each field by one reduction
abbrev pub StepTakesBags : Type 0
StepTakesBags = (p : Program) (b : Block) (s : VertexContext) (inbox other : List Message) (fields : List Value) (reduction : ℕ → Reduction) →
    HandlersFoldBy reduction b.handlers → SameBag inbox other →
    SameStep (vertex_after p b s inbox fields) (vertex_after p b s other fields)

-- so does the step of a vertex with a block of a sound image
abbrev pub SoundStepTakesBags : Type 0
SoundStepTakesBags = (p : Program) (q : ℕ) (s : VertexContext) (inbox other : List Message) (fields : List Value) → IsTrue (is_sound p) → SameBag inbox other →
    SameStep (vertex_after p (block_at p q) s inbox fields) (vertex_after p (block_at p q) s other fields)

-- what a vertex's step is made from: what it sees, its inbox and its fields
pub record Visit : Type 0 where
  pub context : VertexContext
  pub inbox : List Message
  pub fields : List Value

-- what the steps of some vertices with a block put
abbrev pub visits_put : Program → ℕ → List Visit → List Contribution
visits_put p q visits = flat_map (λ v. (vertex_after p (block_at p q) v.context v.inbox v.fields).state.puts) visits

-- what vertices put in a step with a block of a sound image may be taken onto the globals in any order
abbrev pub SoundPutsAreBags : Type 0
SoundPutsAreBags = (p : Program) (q : ℕ) (visits : List Visit) (puts : List Contribution) (held : List Value) → IsTrue (is_sound p) → SameBag puts (visits_put p q visits) →
    settled (length p.places) puts held ≡ settled (length p.places) (visits_put p q visits) held
