-- Where a word stands for something, a choice of words reads it.
use Rattle.std.proofs.Common.{◌≡◌, ℕ, Bool, true, false, ◌||◌, ◌&&◌, List, [], ◌∷◌, drop, Option, Some, None, is_some, Result, refl, sym, ap, subst, ◌∙◌}
use Rattle.std.specs.Option.{option_and_then}
use Rattle.gm_token.specs.declared.words.Word.{Word}
use Rattle.gm_token.specs.declared.words.Word.TheVariants as words
use Rattle.gm_value.specs.declared.reductions.Reduce.{Reduce}
use Rattle.gm_value.specs.declared.values.VType.{VType}
use Rattle.gm_ast.specs.declared.surface.TypeWord.{TypeWord}
use Rattle.gm_ast.specs.declared.surface.Bearer.{Bearer}
use Rattle.gm_ast.specs.declared.surface.Infix.{Infix}
use Rattle.gm_ast.specs.declared.surface.Range.{Range}
use Rattle.gm_ast.specs.declared.surface.ReductionWord.{ReductionWord}
use Rattle.gm_ast.specs.declared.surface.LoopWord.{LoopWord}
use Rattle.gm_parse.specs.declared.around.Around.{Around}
use Rattle.gm_parse.specs.declared.faults.Fault.{Fault}
use Rattle.gm_parse.specs.declared.levels.Level.{Level}
use Rattle.gm_parse.specs.declared.levels.Level.TheVariants as levels
use Rattle.gm_parse.specs.Terminals.{The, fits}
use Rattle.gm_parse.specs.Grammar.{Part, Rule, Token, Of, ◌▸◌, ◌∣◌, Many, the, a_name, Unary, Reduction, Relation, Sum, Parameters, rule, procedure_sign, bare_sign, element_sign, bearer_sign, cast_sign, range_sign, loop_word_sign, value_sign, test_sign, argument_sign, relation_sign, sum_sign, product_sign, equality_sign, ReduceSign}
use Rattle.gm_parse.specs.Factored.{factored, in_parentheses, simple, atom}
use Rattle.gm_parse.specs.Levels.{part_of, operand_of, signs_of, tighter_of}
use Rattle.gm_parse.specs.Foresight.{begins, is_empty, starts, next, starts_next}
use Rattle.gm_parse.specs.Goes.{is_choice, IsChoiceOf, Goes, Sees}
use Rattle.gm_parse.specs.Choices.{procedure_word, bare_type, element_type, bearer_word, cast_type, range_word, loop_word, value_reduction, test_reduction, reduce_sign, argument_operation, product_infix, sum_infix, relation_infix, equality_infix, and_infix, or_infix, infix_of}
use Rattle.gm_parse.proofs.Paths.{choice_full, sees_word, goes_left, goes_right, goes_part}

-- found by a meaning that agrees with a choice
found_by : {A : Type 0} (f : Word → Option A) (x : Rule) → is_choice x ≡ true → ((o : Option Word) → is_some (option_and_then f o) ≡ starts_next o x) → {r : Option A} {p o : Option Word} → r ≡ option_and_then f p → p ≡ o → IsChoiceOf x (is_some r) o
found_by f x c s {o} e g = record { choice = c; same = ap is_some (e ∙ ap (option_and_then f) g) ∙ s o }

procedure_starts : (o : Option Word) → is_some (option_and_then procedure_word o) ≡ starts_next o procedure_sign
procedure_starts None = refl
procedure_starts (Some words.Name) = refl
procedure_starts (Some _) = refl

pub is_procedure : {r : Option Word} {p o : Option Word} → r ≡ option_and_then procedure_word p → p ≡ o → IsChoiceOf procedure_sign (is_some r) o
is_procedure e g = found_by procedure_word procedure_sign refl procedure_starts e g

bare_starts : (o : Option Word) → is_some (option_and_then bare_type o) ≡ starts_next o bare_sign
bare_starts None = refl
bare_starts (Some words.Name) = refl
bare_starts (Some _) = refl

pub is_bare : {r : Option TypeWord} {p o : Option Word} → r ≡ option_and_then bare_type p → p ≡ o → IsChoiceOf bare_sign (is_some r) o
is_bare e g = found_by bare_type bare_sign refl bare_starts e g

element_starts : (o : Option Word) → is_some (option_and_then element_type o) ≡ starts_next o element_sign
element_starts None = refl
element_starts (Some words.Name) = refl
element_starts (Some _) = refl

pub is_element : {r : Option TypeWord} {p o : Option Word} → r ≡ option_and_then element_type p → p ≡ o → IsChoiceOf element_sign (is_some r) o
is_element e g = found_by element_type element_sign refl element_starts e g

bearer_starts : (o : Option Word) → is_some (option_and_then bearer_word o) ≡ starts_next o bearer_sign
bearer_starts None = refl
bearer_starts (Some words.Name) = refl
bearer_starts (Some _) = refl

pub is_bearer : {r : Option Bearer} {p o : Option Word} → r ≡ option_and_then bearer_word p → p ≡ o → IsChoiceOf bearer_sign (is_some r) o
is_bearer e g = found_by bearer_word bearer_sign refl bearer_starts e g

cast_starts : (o : Option Word) → is_some (option_and_then cast_type o) ≡ starts_next o cast_sign
cast_starts None = refl
cast_starts (Some words.Name) = refl
cast_starts (Some _) = refl

pub is_cast : {r : Option VType} {p o : Option Word} → r ≡ option_and_then cast_type p → p ≡ o → IsChoiceOf cast_sign (is_some r) o
is_cast e g = found_by cast_type cast_sign refl cast_starts e g

range_starts : (o : Option Word) → is_some (option_and_then range_word o) ≡ starts_next o range_sign
range_starts None = refl
range_starts (Some words.Name) = refl
range_starts (Some _) = refl

pub is_range : {r : Option Range} {p o : Option Word} → r ≡ option_and_then range_word p → p ≡ o → IsChoiceOf range_sign (is_some r) o
is_range e g = found_by range_word range_sign refl range_starts e g

loop_starts : (o : Option Word) → is_some (option_and_then loop_word o) ≡ starts_next o loop_word_sign
loop_starts None = refl
loop_starts (Some words.Name) = refl
loop_starts (Some _) = refl

pub is_loop : {r : Option LoopWord} {p o : Option Word} → r ≡ option_and_then loop_word p → p ≡ o → IsChoiceOf loop_word_sign (is_some r) o
is_loop e g = found_by loop_word loop_word_sign refl loop_starts e g

value_starts : (o : Option Word) → is_some (option_and_then value_reduction o) ≡ starts_next o value_sign
value_starts None = refl
value_starts (Some words.Name) = refl
value_starts (Some _) = refl

pub is_value : {r : Option ReductionWord} {p o : Option Word} → r ≡ option_and_then value_reduction p → p ≡ o → IsChoiceOf value_sign (is_some r) o
is_value e g = found_by value_reduction value_sign refl value_starts e g

test_starts : (o : Option Word) → is_some (option_and_then test_reduction o) ≡ starts_next o test_sign
test_starts None = refl
test_starts (Some words.Name) = refl
test_starts (Some _) = refl

pub is_test : {r : Option ReductionWord} {p o : Option Word} → r ≡ option_and_then test_reduction p → p ≡ o → IsChoiceOf test_sign (is_some r) o
is_test e g = found_by test_reduction test_sign refl test_starts e g

reduce_starts : (o : Option Word) → is_some (option_and_then reduce_sign o) ≡ starts_next o (rule ReduceSign)
unfolding rule
reduce_starts None = refl
reduce_starts (Some words.Name) = refl
reduce_starts (Some _) = refl

pub is_reduce : {r : Option Reduce} {p o : Option Word} → r ≡ option_and_then reduce_sign p → p ≡ o → IsChoiceOf (rule ReduceSign) (is_some r) o
unfolding rule
is_reduce e g = found_by reduce_sign (rule ReduceSign) refl reduce_starts e g

argument_starts : (o : Option Word) → is_some (option_and_then argument_operation o) ≡ starts_next o argument_sign
argument_starts None = refl
argument_starts (Some words.Name) = refl
argument_starts (Some _) = refl

pub is_argument : {r : Option Reduce} {p o : Option Word} → r ≡ option_and_then argument_operation p → p ≡ o → IsChoiceOf argument_sign (is_some r) o
is_argument e g = found_by argument_operation argument_sign refl argument_starts e g

infix_starts : (l : Level) (o : Option Word) → is_some (option_and_then (infix_of l) o) ≡ starts_next o (signs_of l)
infix_starts levels.Or None = refl
infix_starts levels.Or (Some words.Name) = refl
infix_starts levels.Or (Some _) = refl
infix_starts levels.And None = refl
infix_starts levels.And (Some words.Name) = refl
infix_starts levels.And (Some _) = refl
infix_starts levels.Equality None = refl
infix_starts levels.Equality (Some words.Name) = refl
infix_starts levels.Equality (Some _) = refl
infix_starts levels.Relation None = refl
infix_starts levels.Relation (Some words.Name) = refl
infix_starts levels.Relation (Some _) = refl
infix_starts levels.Sum None = refl
infix_starts levels.Sum (Some words.Name) = refl
infix_starts levels.Sum (Some _) = refl
infix_starts levels.Product None = refl
infix_starts levels.Product (Some words.Name) = refl
infix_starts levels.Product (Some _) = refl

signs_choice : (l : Level) → is_choice (signs_of l) ≡ true
signs_choice levels.Or = refl
signs_choice levels.And = refl
signs_choice levels.Equality = refl
signs_choice levels.Relation = refl
signs_choice levels.Sum = refl
signs_choice levels.Product = refl

pub is_infix : (l : Level) {r : Option Infix} {p o : Option Word} → r ≡ option_and_then (infix_of l) p → p ≡ o → IsChoiceOf (signs_of l) (is_some r) o
is_infix l e g = found_by (infix_of l) (signs_of l) (signs_choice l) (infix_starts l) e g

-- ---- what comes next

pub sees_choice : {x : Rule} {ws : List Word} {i : ℕ} {t b : Bool} → IsChoiceOf x t (next (drop i ws)) → t ≡ b → Sees ws i x b
sees_choice s e = record { holds = sym s.same ∙ e }

-- a sequence begins as its first part, where that is not empty
pub sees_first : (x y : Rule) {ws : List Word} {i : ℕ} {b : Bool} → is_empty x ≡ false → Sees ws i x b → Sees ws i (x ▸ y) b
sees_first x y {ws} {i} n s = record { holds = first_alone (next (drop i ws)) ∙ s.holds }
  where
    or_false : (b : Bool) → (b || false) ≡ b
    or_false true = refl
    or_false false = refl

    first_alone : (o : Option Word) → starts_next o (x ▸ y) ≡ starts_next o x
    first_alone None = refl
    first_alone (Some w) = ap (λ (b : Bool). starts w x || (b && starts w y)) n ∙ or_false (starts w x)

-- a sequence that begins with a choice of words
pub sees_chosen : {x : Rule} (y : Rule) {ws : List Word} {i : ℕ} {t b : Bool} → IsChoiceOf x t (next (drop i ws)) → t ≡ b → Sees ws i (x ▸ y) b
sees_chosen {x} y s e = sees_first x y (choice_full x s.choice) (sees_choice s e)

reduce_part : (o : Option Word) → starts_next o (Of ReduceSign) ≡ starts_next o (rule ReduceSign)
unfolding rule begins
reduce_part None = refl
reduce_part (Some words.Name) = refl
reduce_part (Some _) = refl

pub sees_reduce : (y : Rule) {ws : List Word} {i : ℕ} {t b : Bool} → IsChoiceOf (rule ReduceSign) t (next (drop i ws)) → t ≡ b → Sees ws i (Of ReduceSign ▸ y) b
sees_reduce y {ws} {i} s e = sees_first (Of ReduceSign) y refl (record { holds = reduce_part (next (drop i ws)) ∙ (sym s.same ∙ e) })

-- ---- a number below an operator

inf_only : (w : Word) → fits (The words.Inf) w ≡ true → w ≡ words.Inf
inf_only words.Inf h = refl
inf_only _ h = absurd cc

inf_next : (o : Option Word) → starts_next o (the words.Inf) ≡ true → o ≡ Some words.Inf
inf_next None h = absurd cc
inf_next (Some w) h = ap (λ (v : Word). Some v) (inf_only w h)

inf_path : {a : Around} {ws : List Word} {i : ℕ} {r : Result ℕ Fault} → next (drop i ws) ≡ Some words.Inf → Goes (the words.Inf) a ws i r → Goes (Of Unary) a ws i r
unfolding rule factored begins
inf_path n g = goes_part Unary (goes_right (sees_word (Some words.Inf) n refl) (goes_right (sees_word (Some words.Inf) n refl) (goes_right (sees_word (Some words.Inf) n refl) (goes_right (sees_word (Some words.Inf) n refl) (goes_right (sees_word (Some words.Inf) n refl) (goes_right (sees_word (Some words.Inf) n refl) (goes_right (sees_word (Some words.Inf) n refl) (goes_right (sees_word (Some words.Inf) n refl) (goes_right (sees_word (Some words.Inf) n refl) (goes_left (sees_word (Some words.Inf) n refl) g))))))))))

pub goes_inf : {a : Around} {ws : List Word} {i : ℕ} {r : Result ℕ Fault} {b : Bool} → Sees ws i (the words.Inf) b → b ≡ true → Goes (the words.Inf) a ws i r → Goes (Of Unary) a ws i r
goes_inf {ws} {i} s e g = inf_path (inf_next (next (drop i ws)) (s.holds ∙ e)) g

-- ---- levels

pub no_tighter : (l : Level) → tighter_of l ≡ None → operand_of l ≡ Unary
no_tighter levels.Product e = refl
no_tighter levels.Or e = absurd cc
no_tighter levels.And e = absurd cc
no_tighter levels.Equality e = absurd cc
no_tighter levels.Relation e = absurd cc
no_tighter levels.Sum e = absurd cc

pub tighter_operand : (l t : Level) → tighter_of l ≡ Some t → operand_of l ≡ part_of t
tighter_operand levels.Or t e = let h : levels.And ≡ t = cc in ap part_of h
tighter_operand levels.And t e = let h : levels.Equality ≡ t = cc in ap part_of h
tighter_operand levels.Equality t e = let h : levels.Relation ≡ t = cc in ap part_of h
tighter_operand levels.Relation t e = let h : levels.Sum ≡ t = cc in ap part_of h
tighter_operand levels.Sum t e = let h : levels.Product ≡ t = cc in ap part_of h
tighter_operand levels.Product t e = absurd cc

rule_row : (l : Level) → (l ≡ levels.Relation → ⊥) → factored (part_of l) ≡ Of (operand_of l) ▸ Many (signs_of l ▸ Of (operand_of l))
unfolding rule factored
rule_row levels.Or h = refl
rule_row levels.And h = refl
rule_row levels.Equality h = refl
rule_row levels.Relation h = absurd (h refl)
rule_row levels.Sum h = refl
rule_row levels.Product h = refl

pub goes_row : (l : Level) {a : Around} {ws : List Word} {i : ℕ} {r : Result ℕ Fault} → (l ≡ levels.Relation → ⊥) → Goes (Of (operand_of l) ▸ Many (signs_of l ▸ Of (operand_of l))) a ws i r → Goes (Of (part_of l)) a ws i r
goes_row l {a} {ws} {i} {r} h g = goes_part (part_of l) (subst (λ (x : Rule). Goes x a ws i r) (sym (rule_row l h)) g)

pub goes_operand : {q s : Part} {a : Around} {ws : List Word} {i : ℕ} {r : Result ℕ Fault} → s ≡ q → Goes (Of q) a ws i r → Goes (Of s) a ws i r
goes_operand {a} {ws} {i} {r} e g = subst (λ (q : Part). Goes (Of q) a ws i r) (sym e) g
