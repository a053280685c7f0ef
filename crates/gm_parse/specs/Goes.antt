-- What one function of the parser does: it reads what a rule derives, or stops at a fault.
use Rattle.std.specs.Prelude.{◌≡◌, ℕ, Bool, true, false, ◌&&◌, List, ◌∷◌, drop, Option, Some, None, Result, Ok, Err}
use Rattle.gm_token.specs.declared.words.Word.{Word}
use Rattle.gm_parse.specs.declared.around.Around.{Around}
use Rattle.gm_parse.specs.declared.faults.Fault.{Fault}
use Rattle.gm_parse.specs.declared.faults.Fault.TheVariants.{Syntax, TooDeep, NoMemory}
use Rattle.gm_parse.specs.Terminals.{Terminal, fits}
use Rattle.gm_parse.specs.Grammar.{Rule, Token, ◌∣◌}
use Rattle.gm_parse.specs.Derivation.{Pending, Nothing, Next, is_too_deep}
use Rattle.gm_parse.specs.Foresight.{is_empty, next, starts_next, Moves}

-- the rule is a choice of single words
abbrev pub is_choice : Rule → Bool
is_choice (Token k) = true
is_choice (x ∣ y) = is_choice x && is_choice y
is_choice _ = false

-- At place k this is pending, and the words left do not begin as it does; or the first fits, and is too deep.
pub data IsFault : Fault → ℕ → Pending → List Word → Type 0 where
  other_word : {k : ℕ} {x : Rule} {a : Around} {p : Pending} {ws : List Word} → is_empty x ≡ false → starts_next (next ws) x ≡ false → IsFault (Syntax k) k (Next x a p) ws
  not_end : {k : ℕ} {w : Word} {ws : List Word} → IsFault (Syntax k) k Nothing (w ∷ ws)
  too_deep : {k : ℕ} {t : Terminal} {a : Around} {p : Pending} {w : Word} {ws : List Word} → fits t w ≡ true → is_too_deep a k ≡ true → IsFault (TooDeep k) k (Next (Token t) a p) (w ∷ ws)
  no_memory : {k : ℕ} {p : Pending} {ws : List Word} → IsFault NoMemory k p ws

-- the moves lead to the fault
pub record Stops (e : Fault) (i : ℕ) (p : Pending) (ws : List Word) : Type 0 where
  pub at : ℕ
  pub pending : Pending
  pub left : List Word
  pub moves : Moves i p ws at pending left
  pub fault : IsFault e at pending left

-- From place i on the rule is read to the place in the result, or the moves lead to its fault, whatever is pending after the rule.
abbrev pub GoesCases : Rule → Around → List Word → ℕ → Result ℕ Fault → Type 0
GoesCases x a ws i (Ok j) = (p : Pending) → Moves i (Next x a p) (drop i ws) j p (drop j ws)
GoesCases x a ws i (Err e) = (p : Pending) → Stops e i (Next x a p) (drop i ws)

pub record Goes (x : Rule) (a : Around) (ws : List Word) (i : ℕ) (r : Result ℕ Fault) : Type 0 where
  pub cases : GoesCases x a ws i r

-- the place after what was read
abbrev pub end_of : {X : Type 0} → Result (X × ℕ) Fault → Result ℕ Fault
end_of (Ok y) = Ok y.1
end_of (Err e) = Err e

-- whether the words from place i on begin as the rule may begin
pub record Sees (ws : List Word) (i : ℕ) (x : Rule) (b : Bool) : Type 0 where
  pub holds : starts_next (next (drop i ws)) x ≡ b

-- some of the words are one of a choice of words: a choice it is, and whether one of its words comes next is whether one was found
pub record IsChoiceOf (x : Rule) (there : Bool) (o : Option Word) : Type 0 where
  pub choice : is_choice x ≡ true
  pub same : there ≡ starts_next o x
