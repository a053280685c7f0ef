-- What a clause on an answer says of a weaker one.
use Rattle.std.specs.Prelude.{Option, Some, None, IfSome, IfNone}

pub if-some : {X : Type 0} (o : Option X) (P Q : X → Type 0) → ((x : X) → P x → Q x) → IfSome o P → IfSome o Q
if-some None P Q on said = said
if-some (Some x) P Q on said = on x said

pub if-none : {X : Type 0} (o : Option X) (P Q : Type 0) → (P → Q) → IfNone o P → IfNone o Q
if-none None P Q on said = on said
if-none (Some x) P Q on said = said
