-- From the moves of a whole parse to the verdict on the text.
use Rattle.std.proofs.Common.{◌≡◌, ℕ, Bool, List, [], ◌∷◌, ◌++◌, map, drop, length, ◌<◌, ◌≤◌, Option, Some, Result, Ok, Err, refl, sym, ap, subst, ◌∙◌, arith}
use Rattle.std.specs.Prelude.{IsErrAnd, IfErr}
use Rattle.std.proofs.lemmas.Result.{err_from_is_err_and}
use Rattle.std.proofs.lemmas.List.{append-nil, drop_all, length-drop, length-map}
use Rattle.gm_token.specs.declared.words.Word.{Word}
use Rattle.gm_token.specs.Tokens.{Token, Listing, words_of}
use Rattle.gm_ast.specs.Surface.{SurfaceProcedure}
use Rattle.gm_parse.specs.declared.around.Around.{Around}
use Rattle.gm_parse.specs.declared.faults.Fault.{Fault}
use Rattle.gm_parse.specs.declared.faults.Fault.TheVariants.{Syntax}
use Rattle.gm_parse.specs.Grammar.{Program, Procedure, Rule, Of, rule}
use Rattle.gm_parse.specs.Factored.{factored}
use Rattle.gm_parse.specs.Derivation.{Pending, Nothing, Derives, outside, IsShallowProgram, IsFirstSyntax}
use Rattle.gm_parse.specs.Foresight.{next, starts_next}
use Rattle.gm_parse.specs.Goes.{IsFault, Goes}
use Rattle.gm_parse.specs.Refused.{IsFirstFault}
use Rattle.gm_parse.specs.Trees.{ReadsProcedure, IsTreeOf}
use Rattle.gm_parse.proofs.Steps.{not_next}
use Rattle.gm_parse.proofs.Places.{Reached, Arrives, at_start, after_moves, syntax_place, too_deep_place, done_place}
use Rattle.gm_parse.proofs.Paths.{goes_part}
use Rattle.gm_parse.proofs.Same.{first_syntax, first_too_deep, shallow_program}

pub from_outside : {a : Around} {ws : List Word} {i : ℕ} {r : Result ℕ Fault} → a ≡ outside → Goes (Of Procedure) a ws i r → Goes (Of Program) outside ws i r
unfolding rule factored
from_outside {ws} {i} {r} e g = goes_part Program (subst (λ (a : Around). Goes (Of Procedure) a ws i r) e g)

nothing_derives : {i : ℕ} {w : Word} {ws : List Word} {ms : List Bool} → Derives factored i Nothing (w ∷ ws) ms → ⊥
nothing_derives d = elim d [ ]

not_at_end : (i : ℕ) (w : Word) (ws : List Word) (ms : List Bool) → next ws ≡ Some w → Derives factored i Nothing ws ms → ⊥
not_at_end i w [] ms e d = cc
not_at_end i w (v ∷ ws) ms e d = nothing_derives d

fault_is_first : {v : List Word} {j : ℕ} {q : Pending} {us : List Word} {e : Fault} → IsFault e j q us → Reached v j q us → IsFirstFault (v ++ us) e
fault_is_first (IsFault.other_word {x} n s) r = first_syntax (syntax_place r (λ ws ms e d. not_next n (ap (λ (o : Option Word). starts_next o x) e ∙ s) d))
fault_is_first (IsFault.not_end {k} {w}) r = first_syntax (syntax_place r (λ ws ms e d. not_at_end k w ws ms e d))
fault_is_first (IsFault.too_deep f s) r = first_too_deep (too_deep_place r f s)
fault_is_first IsFault.no_memory r = tt

pub fault_verdict : (ws : List Word) (e : Fault) → Goes (Of Program) outside ws 0 (Err e) → IsFirstFault ws e
fault_verdict ws e g =
    let s = g.cases Nothing in
    let a = after_moves [] s.moves (at_start ws) in
    subst (λ (x : List Word). IsFirstFault x e) (sym a.parts) (fault_is_first s.fault a.reached)

-- the program ends, and words are left
surplus : (ws : List Word) (j : ℕ) → Goes (Of Program) outside ws 0 (Ok j) → j < length ws → IsFirstFault ws (Syntax j)
surplus ws j g lt =
    let a = after_moves [] (g.cases Nothing) (at_start ws) in
    by_rest (drop j ws) refl a
  where
    by_rest : (us : List Word) → drop j ws ≡ us → Arrives j Nothing ws (drop j ws) → IsFirstFault ws (Syntax j)
    by_rest [] e a = absurd (omega (arith, length-drop j ws, ap (λ (x : List Word). length x) e))
    by_rest (w ∷ us) e a =
        let b : Arrives j Nothing ws (w ∷ us) = subst (λ (x : List Word). Arrives j Nothing ws x) e a in
        subst (λ (x : List Word). IsFirstFault x (Syntax j)) (sym b.parts) (fault_is_first IsFault.not_end b.reached)

word_count : (it : Listing) → length (words_of it) ≡ length it.tokens
word_count it = length-map it.tokens (λ (t : Token). t.word)

pub surplus_verdict : (it : Listing) (j : ℕ) → Goes (Of Program) outside (words_of it) 0 (Ok j) → j < length it.tokens → IsFirstFault (words_of it) (Syntax j)
surplus_verdict it j g lt = surplus (words_of it) j g (omega (arith, word_count it))

pub program_verdict : (it : Listing) (j : ℕ) → Goes (Of Program) outside (words_of it) 0 (Ok j) → length it.tokens ≤ j → IsShallowProgram rule (words_of it)
program_verdict it j g le =
    let ws = words_of it in
    let a = after_moves [] (g.cases Nothing) (at_start ws) in
    let b : Arrives j Nothing ws [] = subst (λ (x : List Word). Arrives j Nothing ws x) (drop_all j ws (omega (arith, word_count it))) a in
    shallow_program (subst (λ (x : List Word). IsShallowProgram factored x) (sym (b.parts ∙ append-nil b.read_words)) (done_place b.reached))

pub at_err : {X : Type 0} (ws : List Word) (r : Result X Fault) (e : Fault) → IsErrAnd r (λ d. d ≡ e) → IsFirstFault ws e → IfErr r (IsFirstFault ws)
at_err ws r e h f = let p = err_from_is_err_and r h in subst (λ s. IfErr s (IsFirstFault ws)) (sym (p.1 ∙ ap (λ (d : Fault). Err d) p.2)) f

-- a procedure that ends where the tokens end is the whole text
pub tree_whole : (it : Listing) (j : ℕ) {p : SurfaceProcedure} → ReadsProcedure it.tokens p (drop j it.tokens) → length it.tokens ≤ j → IsTreeOf it.tokens p
tree_whole it j {p} r le = subst (λ (us : List Token). ReadsProcedure it.tokens p us) (drop_all j it.tokens le) r
