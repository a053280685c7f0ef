-- An image whose kinds have a combiner wherever I8 lets them have one.
use Rattle.std.specs.Prelude.{ℕ, suc, nat_eq, Bool, not, ◌&&◌, ◌||◌, Option, Some, List, [], ◌∷◌, find}
use Rattle.std.specs.List.{list_all, flat_map}
use Rattle.gm_value.specs.declared.values.VType.{VType}
use Rattle.gm_value.specs.declared.reductions.Reduce.{Reduce}
use Rattle.gm_value.specs.declared.reductions.Reduce.TheVariants.{Sum, Product, Min, Max, And, Or}
use Rattle.gm_image.specs.declared.images.Kind.{Kind}
use Rattle.gm_image.specs.Folds.{is_combining, combiner_fits}
use Rattle.gm_image.specs.Program.{Program, Handler, Block}

-- the reductions, in the order of an image's text
abbrev pub reductions : List Reduce
reductions = Sum ∷ Product ∷ Min ∷ Max ∷ And ∷ Or ∷ []

-- the handlers of some blocks, block by block
abbrev pub handlers_of : List Block → List Handler
handlers_of bs = flat_map (λ b. b.handlers) bs

-- whether a handler lets a kind have a reduction as combiner: it takes another kind, or it is the one line that folds the one value of a message by it
abbrev pub lets : ℕ → Handler → Reduce → Bool
lets k h r = not (nat_eq h.kind k) || is_combining r h.lines

-- whether all of some handlers do
abbrev pub all_let : List Handler → ℕ → Reduce → Bool
all_let hs k r = list_all (λ h. lets k h r) hs

-- the first reduction that fits the one value of a message, of types that make up messages, and passes a test
abbrev pub first_fitting : (Reduce → Bool) → List VType → Option Reduce
first_fitting test types = find (λ r. combiner_fits (Some r) types && test r) reductions

-- the combiner of a kind whose messages have values of some types: the first reduction that fits their one value and that all handlers let it have. A kind that no handler takes so has the first that fits
abbrev pub combiner_for : List Handler → ℕ → List VType → Option Reduce
combiner_for hs k types = first_fitting (all_let hs k) types

-- kinds from a number on, each with the combiner that is found for it
abbrev pub kinds_with : (ℕ → List VType → Option Reduce) → ℕ → List Kind → List Kind
kinds_with found k [] = []
kinds_with found k (kind ∷ kinds) = record kind { combiner = found k kind.values } ∷ kinds_with found (suc k) kinds

-- the image with a combiner for each kind that may have one
abbrev pub combining : Program → Program
combining p = record p { kinds = kinds_with (combiner_for (handlers_of p.blocks)) 0 p.kinds }
