-- What the rules say of a part: what it stands for, what it declares, and every rule that is broken in it.
use Rattle.std.specs.Prelude.{ℕ, ◌+◌, Bool, if◌then◌else◌, List, [], ◌∷◌, ◌++◌, Option, Some, None, Result, Ok, Err}
use Rattle.gm_base.specs.declared.places.Place.{Place}
use Rattle.gm_base.specs.declared.rules.Rule.{Rule}
use Rattle.gm_base.specs.declared.rules.Refusal.{Refusal}
use Rattle.gm_base.specs.Rules.{broken_at}
use Rattle.gm_ast.specs.declared.tree.Declaration.{Declaration}

-- a part: what it stands for, which is nothing where it has no type; its declarations; how many statement numbers it takes; and the rules that are broken in it
pub record Judged (A : Type 0) : Type 0 where
  pub part : Option A
  pub declared : List Declaration
  pub numbers : ℕ
  pub broken : List Refusal

-- what a rule says of a part whose own parts all have types
abbrev pub Answer : Type 0 → Type 0
Answer A = Result A (List Refusal)

-- the answer that a rule is broken
abbrev pub refused : {A : Type 0} → Rule → Place → Answer A
refused r at = Err (broken_at r at ∷ [])

-- the part, unless a rule is broken
abbrev pub refused_unless : {A : Type 0} → Bool → Rule → Place → A → Answer A
refused_unless good r at a = if good then Ok a else refused r at

-- the violation, unless a test holds
abbrev pub unless : Bool → Rule → Place → List Refusal
unless good r at = if good then [] else broken_at r at ∷ []

-- what is made of a part, if no rule is broken
abbrev pub then_answer : {A B : Type 0} → Answer A → (A → B) → Answer B
then_answer (Ok a) f = Ok (f a)
then_answer (Err rs) f = Err rs

-- what a part with this answer stands for
abbrev pub ok_of : {A : Type 0} → Answer A → Option A
ok_of (Ok a) = Some a
ok_of (Err rs) = None

-- what is broken by a part with this answer
abbrev pub errs_of : {A : Type 0} → Answer A → List Refusal
errs_of (Ok a) = []
errs_of (Err rs) = rs

-- a part without parts
abbrev pub alone : {A : Type 0} → Answer A → Judged A
alone a = record { part = ok_of a; declared = []; numbers = 0; broken = errs_of a }

-- violations that leave the part around them its type
abbrev pub noted : {A : Type 0} → A → List Refusal → Judged A
noted a rs = record { part = Some a; declared = []; numbers = 0; broken = rs }

-- two parts, if both are there
abbrev pub both_of : {A B : Type 0} → Option A → Option B → Option (A × B)
both_of None b = None
both_of (Some a) None = None
both_of (Some a) (Some b) = Some (a, b)

-- two parts, one after the other
abbrev pub beside : {A B : Type 0} → Judged A → Judged B → Judged (A × B)
beside x y = record {
  part = both_of x.part y.part;
  declared = x.declared ++ y.declared;
  numbers = x.numbers + y.numbers;
  broken = x.broken ++ y.broken;
}

-- what a rule makes of some parts, if all of them have types
abbrev pub part_by : {A B : Type 0} → Option A → (A → Answer B) → Option B
part_by None rule = None
part_by (Some a) rule = ok_of (rule a)

-- what a rule says is broken in some parts, if all of them have types
abbrev pub broken_by : {A B : Type 0} → Option A → (A → Answer B) → List Refusal
broken_by None rule = []
broken_by (Some a) rule = errs_of (rule a)

-- the part over some parts, which is judged only where all of these have types
abbrev pub judge : {A B : Type 0} → Judged A → (A → Answer B) → Judged B
judge x rule = record {
  part = part_by x.part rule;
  declared = x.declared;
  numbers = x.numbers;
  broken = x.broken ++ broken_by x.part rule;
}
