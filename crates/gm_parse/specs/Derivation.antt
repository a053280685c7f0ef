-- Which texts a grammar derives, and where a text stops to begin a program.
use Rattle.std.specs.Prelude.{◌≡◌, ℕ, suc, ◌-◌, ◌<◌, ◌≤◌, Bool, true, false, ◌||◌, nat_lt, nat_le, List, [], ◌∷◌, ◌++◌, length, take, Option, Some, None}
use Rattle.gm_token.specs.declared.words.Word.{Word}
use Rattle.gm_parse.specs.declared.around.Around.{Around}
use Rattle.gm_parse.specs.Terminals.{Terminal, fits}
use Rattle.gm_parse.specs.Grammar.{Part, Program, Nest, InStatement, InExpression, Rule, Token, Of, ◌▸◌, ◌∣◌, Maybe, Many, Attached, Within}

-- what stands around a whole text
abbrev pub outside : Around
outside = record { statements = 0; expression = None }

abbrev pub enter_expression : Option ℕ → ℕ → Option ℕ
enter_expression None i = Some i
enter_expression (Some j) i = Some j

-- what stands around the parts of a statement or an expression that begins at place i
abbrev pub enter : Nest → ℕ → Around → Around
enter InStatement i a = record { statements = suc a.statements; expression = a.expression }
enter InExpression i a = record { statements = a.statements; expression = enter_expression a.expression i }

abbrev pub is_long : Option ℕ → ℕ → Bool
is_long None i = false
is_long (Some j) i = nat_le 256 (i - j)

-- the token at place i stands in more than 64 statements, or is past the 256th of an outermost expression
abbrev pub is_too_deep : Around → ℕ → Bool
is_too_deep a i = nat_lt 64 a.statements || is_long a.expression i

-- what is still to come: rules, each with what stands around it
pub data Pending : Type 0 where
  Nothing : Pending
  Next : Rule → Around → Pending → Pending

-- the text does not begin with this terminal
abbrev pub BeginsOtherwise : Terminal → List Word → Type 0
BeginsOtherwise k [] = Unit {0}
BeginsOtherwise k (w ∷ ws) = fits k w ≡ false

-- Leftmost derivation by a grammar: what is pending from place i on derives the text, one case for each form of a rule.
-- The marks say which of the tokens are too deep.
pub data Derives (grammar : Part → Rule) : ℕ → Pending → List Word → List Bool → Type 0 where
  end : {i : ℕ} → Derives grammar i Nothing [] []
  token : {i : ℕ} {k : Terminal} {a : Around} {p : Pending} {w : Word} {ws : List Word} {ms : List Bool}
      → fits k w ≡ true → Derives grammar (suc i) p ws ms → Derives grammar i (Next (Token k) a p) (w ∷ ws) (is_too_deep a i ∷ ms)
  part : {i : ℕ} {q : Part} {a : Around} {p : Pending} {ws : List Word} {ms : List Bool}
      → Derives grammar i (Next (grammar q) a p) ws ms → Derives grammar i (Next (Of q) a p) ws ms
  both : {i : ℕ} {x y : Rule} {a : Around} {p : Pending} {ws : List Word} {ms : List Bool}
      → Derives grammar i (Next x a (Next y a p)) ws ms → Derives grammar i (Next (x ▸ y) a p) ws ms
  left : {i : ℕ} {x y : Rule} {a : Around} {p : Pending} {ws : List Word} {ms : List Bool}
      → Derives grammar i (Next x a p) ws ms → Derives grammar i (Next (x ∣ y) a p) ws ms
  right : {i : ℕ} {x y : Rule} {a : Around} {p : Pending} {ws : List Word} {ms : List Bool}
      → Derives grammar i (Next y a p) ws ms → Derives grammar i (Next (x ∣ y) a p) ws ms
  absent : {i : ℕ} {x : Rule} {a : Around} {p : Pending} {ws : List Word} {ms : List Bool}
      → Derives grammar i p ws ms → Derives grammar i (Next (Maybe x) a p) ws ms
  present : {i : ℕ} {x : Rule} {a : Around} {p : Pending} {ws : List Word} {ms : List Bool}
      → Derives grammar i (Next x a p) ws ms → Derives grammar i (Next (Maybe x) a p) ws ms
  stop : {i : ℕ} {x : Rule} {a : Around} {p : Pending} {ws : List Word} {ms : List Bool}
      → Derives grammar i p ws ms → Derives grammar i (Next (Many x) a p) ws ms
  more : {i : ℕ} {x : Rule} {a : Around} {p : Pending} {ws : List Word} {ms : List Bool}
      → Derives grammar i (Next x a (Next (Many x) a p)) ws ms → Derives grammar i (Next (Many x) a p) ws ms
  detached : {i : ℕ} {k : Terminal} {x : Rule} {a : Around} {p : Pending} {ws : List Word} {ms : List Bool}
      → BeginsOtherwise k ws → Derives grammar i p ws ms → Derives grammar i (Next (Attached k x) a p) ws ms
  attached : {i : ℕ} {k : Terminal} {x : Rule} {a : Around} {p : Pending} {ws : List Word} {ms : List Bool}
      → Derives grammar i (Next (Token k) a (Next x a p)) ws ms → Derives grammar i (Next (Attached k x) a p) ws ms
  within : {i : ℕ} {n : Nest} {x : Rule} {a : Around} {p : Pending} {ws : List Word} {ms : List Bool}
      → Derives grammar i (Next x (enter n i a) p) ws ms → Derives grammar i (Next (Within n x) a p) ws ms

-- a whole program
abbrev pub program : Pending
program = Next (Of Program) outside Nothing

abbrev pub IsProgram : (Part → Rule) → List Word → Type 0
IsProgram grammar ws = (ms : List Bool) × Derives grammar 0 program ws ms

-- the words begin a program, in which these of them are too deep
pub record Begins (grammar : Part → Rule) (ws : List Word) (ms : List Bool) : Type 0 where
  pub later : List Word
  pub later_marks : List Bool
  pub whole : Derives grammar 0 program (ws ++ later) (ms ++ later_marks)
  pub marks_each : length ms ≡ length ws

abbrev pub BeginsProgram : (Part → Rule) → List Word → Type 0
BeginsProgram grammar ws = (ms : List Bool) × Begins grammar ws ms

-- The words before place k begin a program, and with the word at k they do not; or they are all, and are none.
pub record IsSyntaxPlace (grammar : Part → Rule) (ws : List Word) (k : ℕ) : Type 0 where
  pub in_text : k ≤ length ws
  pub before : BeginsProgram grammar (take k ws)
  pub not_beyond : k < length ws → BeginsProgram grammar (take (suc k) ws) → ⊥
  pub not_whole : k ≡ length ws → IsProgram grammar ws → ⊥

-- The words up to place k begin a program in which the word at k is too deep.
abbrev pub IsTooDeepAt : (Part → Rule) → List Word → ℕ → Type 0
IsTooDeepAt grammar ws k = (k < length ws) × ((ms : List Bool) × Begins grammar (take (suc k) ws) (ms ++ true ∷ []))

abbrev pub NoneTooDeepBefore : (Part → Rule) → List Word → ℕ → Type 0
NoneTooDeepBefore grammar ws k = (j : ℕ) → j < k → IsTooDeepAt grammar ws j → ⊥

-- Of the places of the two rules, the first is of this rule; Syntax goes before TooDeep at one place.
pub record IsFirstSyntax (grammar : Part → Rule) (ws : List Word) (k : ℕ) : Type 0 where
  pub place : IsSyntaxPlace grammar ws k
  pub first : NoneTooDeepBefore grammar ws k

pub record IsFirstTooDeep (grammar : Part → Rule) (ws : List Word) (k : ℕ) : Type 0 where
  pub place : IsTooDeepAt grammar ws k
  pub first : NoneTooDeepBefore grammar ws k
  pub no_syntax : (j : ℕ) → IsSyntaxPlace grammar ws j → k < j

-- a program in which nothing is too deep
pub record IsShallowProgram (grammar : Part → Rule) (ws : List Word) : Type 0 where
  pub is_program : IsProgram grammar ws
  pub shallow : (k : ℕ) → IsTooDeepAt grammar ws k → ⊥
