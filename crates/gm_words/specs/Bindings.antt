-- What maps by names hold.
use Rattle.std.specs.Prelude.{map, Option}
use Rattle.std.specs.Str.{bytes_eq}
use Rattle.std.specs.Borrow.{Bor}
use Rattle.indexmap.specs.IndexMap.{IndexMap, get_by}
use Rattle.gm_value.specs.declared.values.VType.{VType}
use Rattle.gm_value.specs.declared.values.Value.{Value}
use Rattle.gm_words.specs.Arguments.{Bindings}
use Rattle.gm_words.specs.Words.{Text}

-- the type that a map has for a name
abbrev pub type_in : {S : Type 0} → IndexMap (Bor Text) VType S → Text → Option VType
type_in types name = get_by (λ key. bytes_eq name key.now) types

-- the values of a map, with their names, in order
abbrev pub bindings : {S : Type 0} → IndexMap (Bor Text) Value S → Bindings
bindings given = map (λ e. (e.0.now, e.1)) given.entries
