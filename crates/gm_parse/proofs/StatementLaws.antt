-- Statements and parameters as they grow.
use Rattle.std.proofs.Common.{◌≡◌, ℕ, Bool, true, false, ◌<◌, ◌≤◌, List, [], ◌∷◌, ◌++◌, map, length, drop, Option, Some, None, Result, Ok, Err, refl, sym, ap, subst, ◌∙◌}
use Rattle.std.specs.Prelude.{IsErrAnd}
use Rattle.std.proofs.lemmas.Result.{err_from_is_err_and}
use Rattle.gm_base.specs.declared.places.Place.{Place}
use Rattle.gm_token.specs.declared.words.Word.{Word}
use Rattle.gm_token.specs.declared.words.Word.TheVariants as words
use Rattle.gm_token.specs.Tokens.{Token, Listing, words_of}
use Rattle.gm_ast.specs.declared.surface.SpelledStmt.{SpelledStmt}
use Rattle.gm_ast.specs.declared.surface.SpelledGroup.{SpelledGroup}
use Rattle.gm_ast.specs.Surface.{SurfaceGroup}
use Rattle.gm_ast.specs.SurfaceTree.{stmt_of, group_of}
use Rattle.gm_parse.specs.declared.around.Around.{Around}
use Rattle.gm_parse.specs.declared.faults.Fault.{Fault}
use Rattle.gm_parse.specs.Grammar.{Rule, Of, Many, ◌▸◌, the, a_name, Statement, Target, Parameters, Group}
use Rattle.gm_parse.specs.Foresight.{begins, next, starts_next}
use Rattle.gm_parse.specs.Goes.{Goes, Sees}
use Rattle.gm_parse.specs.Trees.{Reads, ReadsMany, ReadsGroups, ReadsParameters, ReadsOutputs}
use Rattle.gm_parse.specs.Refused.{place_at}
use Rattle.gm_parse.proofs.TypeLaws.{mapped_on}

-- the exit of a `?` of a call that gives an index alone
pub at_stop : {x : Rule} {a : Around} {ws : List Word} {i : ℕ} (r : Result ℕ Fault) {e : Fault} → IsErrAnd r (λ d. d ≡ e) → Goes x a ws i (Err e) → Goes x a ws i r
at_stop {x} {a} {ws} {i} r h g = let p = err_from_is_err_and r h in subst (λ (s : Result ℕ Fault). Goes x a ws i s) (sym (p.1 ∙ ap (λ (d : Fault). Err d) p.2)) g

target_starts : (o : Option Word) → starts_next o (Of Target) ≡ starts_next o a_name
unfolding begins
target_starts None = refl
target_starts (Some words.Name) = refl
target_starts (Some _) = refl

pub sees_target : {ws : List Word} {i : ℕ} {r b : Bool} → Sees ws i a_name r → r ≡ b → Sees ws i (Of Target) b
sees_target {ws} {i} s e = record { holds = target_starts (next (drop i ws)) ∙ s.holds ∙ e }

parameters_starts : (o : Option Word) → starts_next o (Of Parameters) ≡ starts_next o a_name
unfolding begins
parameters_starts None = refl
parameters_starts (Some words.Name) = refl
parameters_starts (Some _) = refl

pub sees_parameters : {ws : List Word} {i : ℕ} {r b : Bool} → Sees ws i a_name r → r ≡ b → Sees ws i (Of Parameters) b
sees_parameters {ws} {i} s e = record { holds = parameters_starts (next (drop i ws)) ∙ s.holds ∙ e }

-- what further statements give from index k on, the statements give from the one after the brace
pub record BlockSoFar (a : Around) (it : Listing) (i first k : ℕ) (ss : List SpelledStmt) : Type 0 where
  pub brace : Goes (the words.LeftBrace) a (words_of it) i (Ok first)
  pub goes : (r : Result ℕ Fault) → Goes (Many (Of Statement)) a (words_of it) k r → Goes (Many (Of Statement)) a (words_of it) first r
  pub word : Reads words.LeftBrace (drop i it.tokens) (place_at it i) (drop first it.tokens)
  pub trees : ReadsMany (drop first it.tokens) (map stmt_of ss) (drop k it.tokens)
  pub begun : i < k
  pub in_text : k ≤ length it.tokens
  pub shallow : a.statements ≤ 64

-- what further groups give from index k on, the parameters give from their beginning
pub record GroupsSoFar (a : Around) (it : Listing) (i k : ℕ) (gs : List SpelledGroup) : Type 0 where
  pub goes : (r : Result ℕ Fault) → Goes (Many (the words.Comma ▸ Of Group)) a (words_of it) k r → Goes (Of Group ▸ Many (the words.Comma ▸ Of Group)) a (words_of it) i r
  pub trees : ReadsGroups (drop i it.tokens) (map group_of gs) (drop k it.tokens)
  pub begun : i < k
  pub in_text : k ≤ length it.tokens
  pub shallow : a.statements ≤ 64

pub as_groups : {us vs : List Token} {gs hs : List SpelledGroup} → hs ≡ gs → ReadsGroups us (map group_of gs) vs → ReadsGroups us (map group_of hs) vs
as_groups {us} {vs} e r = subst (λ (gs : List SpelledGroup). ReadsGroups us (map group_of gs) vs) (sym e) r

pub as_groups_on : {us vs : List Token} (gs : List SpelledGroup) (g : SpelledGroup) {hs : List SpelledGroup} → hs ≡ gs ++ g ∷ [] → ReadsGroups us (map group_of gs ++ group_of g ∷ []) vs → ReadsGroups us (map group_of hs) vs
as_groups_on {us} {vs} gs g e r = subst (λ (gs : List SurfaceGroup). ReadsGroups us gs vs) (sym (mapped_on group_of gs g e)) r

pub no_parameters : {us : List Token} {gs : List SpelledGroup} → gs ≡ [] → ReadsParameters us (map group_of gs) us
no_parameters {us} e = subst (λ (gs : List SpelledGroup). ReadsParameters us (map group_of gs) us) (sym e) ReadsParameters.absent

pub no_outputs : {us : List Token} {gs : List SpelledGroup} → gs ≡ [] → ReadsOutputs us (map group_of gs) us
no_outputs {us} e = subst (λ (gs : List SpelledGroup). ReadsOutputs us (map group_of gs) us) (sym e) ReadsOutputs.absent
