-- Which texts have a tree, and where the others are refused.
use Rattle.std.specs.Prelude.{◌≡◌, ℕ, ◌<◌, Bool, true, false, List, [], ◌∷◌, Option, Some, None, take, All, slice_get, unwrap_or, option_map}
use Rattle.gm_base.specs.declared.places.Place.{Place}
use Rattle.gm_base.specs.declared.rules.Rule.{Rule}
use Rattle.gm_base.specs.declared.rules.Rule.TheVariants.{Syntax, TooDeep}
use Rattle.gm_base.specs.declared.rules.Refusal.{Refusal}
use Rattle.gm_base.specs.declared.rules.Stop.{Stop}
use Rattle.gm_base.specs.declared.rules.Stop.TheVariants.{Refused, NoMemory}
use Rattle.gm_base.specs.Rules.{broken_at}
use Rattle.gm_token.specs.declared.words.Word.{Word}
use Rattle.gm_token.specs.Words.{unsupported_rule}
use Rattle.gm_token.specs.Tokens.{Listing, words_of, places_of}
use Rattle.gm_parse.specs.declared.faults.Fault.{Fault}
use Rattle.gm_parse.specs.declared.faults.Fault.TheVariants as FaultOf
use Rattle.gm_parse.specs.Grammar.{rule}
use Rattle.gm_parse.specs.Derivation.{IsFirstSyntax, IsFirstTooDeep, IsShallowProgram}

-- none of the words is one that this version does not take
abbrev pub AllSupported : List Word → Type 0
AllSupported ws = All (λ w. unsupported_rule w ≡ None) ws

-- the place of a token, or the end of the text after the last one
abbrev pub place_at : Listing → ℕ → Place
place_at it k = unwrap_or (slice_get (places_of it) k) it.end

-- A text is refused at its first unsupported word; else at its first fault of syntax, or where it is first too deep.
pub data IsRefusal (it : Listing) : Refusal → Type 0 where
  unsupported : {u : Rule} (k : ℕ) → option_map unsupported_rule (slice_get (words_of it) k) ≡ Some (Some u) → AllSupported (take k (words_of it)) → IsRefusal it (broken_at u (place_at it k))
  syntax : (k : ℕ) → AllSupported (words_of it) → IsFirstSyntax rule (words_of it) k → IsRefusal it (broken_at Syntax (place_at it k))
  too_deep : (k : ℕ) → AllSupported (words_of it) → IsFirstTooDeep rule (words_of it) k → IsRefusal it (broken_at TooDeep (place_at it k))

-- the first place at which the grammar or a limit is broken
abbrev pub IsFirstFault : List Word → Fault → Type 0
IsFirstFault ws (FaultOf.Syntax k) = IsFirstSyntax rule ws k
IsFirstFault ws (FaultOf.TooDeep k) = IsFirstTooDeep rule ws k
IsFirstFault ws FaultOf.NoMemory = Unit {0}

-- the refusal that a fault is
abbrev pub stop_of : Listing → Fault → Stop
stop_of it (FaultOf.Syntax k) = Refused (broken_at Syntax (place_at it k))
stop_of it (FaultOf.TooDeep k) = Refused (broken_at TooDeep (place_at it k))
stop_of it FaultOf.NoMemory = NoMemory

-- why a text has no tree
abbrev pub IsStopOf : Listing → Stop → Type 0
IsStopOf it (Refused r) = IsRefusal it r
IsStopOf it NoMemory = Unit {0}

-- a program of the grammar, with no unsupported word and nothing too deep
pub record IsAccepted (it : Listing) : Type 0 where
  pub supported : AllSupported (words_of it)
  pub program : IsShallowProgram rule (words_of it)
