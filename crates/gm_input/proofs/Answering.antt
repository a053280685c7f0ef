-- What is said of the front of a graph text is said of the text; and faults that an answer tells are no want of memory.
use Rattle.std.proofs.Common.{◌≡◌, ◌≢◌, ◌<◌, ◌+◌, ◌∙◌, ℕ, true, List, length, take, min, refl, sym, ap, subst, arith, inl, inr}
use Rattle.std.specs.Prelude.{Result, Ok, Err, IfOk, nat_lt}
use Rattle.std.proofs.lemmas.List.{length-take, take_all}
use Rattle.std.proofs.lemmas.Bool.{cases_lt}
use Rattle.gm_base.specs.declared.statuses.Status.{Status}
use Rattle.gm_model.specs.Graphs.{NumberedGraph}
use Rattle.gm_graph.specs.declared.builds.Shape.{Shape}
use Rattle.gm_loader.specs.declared.faults.GraphFault.{GraphFault}
use Rattle.gm_loader.specs.declared.faults.GraphFault.TheVariants as faults
use Rattle.gm_loader.specs.GraphText.{lines_of}
use Rattle.gm_loader.specs.declared.limits.Limits.{Limits}
use Rattle.gm_mtx.specs.declared.faults.MtxFault.TheVariants as matrix_fault
use Rattle.gm_mtx.specs.MatrixMarket.{matrix_of}
use Rattle.gm_words.specs.declared.jobs.Format.{Format}
use Rattle.gm_words.specs.declared.jobs.Format.TheVariants.{Edges, Mtx}
use Rattle.gm_words.specs.declared.arguments.ArgFault.{ArgFault}
use Rattle.gm_words.specs.declared.arguments.ArgFault.TheVariants as words
use Rattle.gm_words.specs.declared.arguments.Input.{Input}
use Rattle.gm_input.specs.declared.answers.Answer.{Answer}
use Rattle.gm_input.specs.declared.halts.Halt.{Halt}
use Rattle.gm_input.specs.declared.halts.Halt.TheVariants.{Answered, NoMemory}
use Rattle.std.specs.Result.{IsErrAnd}
use Rattle.gm_input.specs.Halts.{halt_of, IfAnswered, IfSaid, IsSaid}
use Rattle.gm_input.specs.Texts.{IsTextFault, IsWordFault, graph_limits}
use Rattle.gm_input.specs.Answers.{GraphFormat, Saying, IsTextAnswer, bad_graph, good_graph, edge_list, matrix_market, format_of}
use Rattle.gm_input.specs.Roads.{most_graph}

pub not_memory : (e : GraphFault) → IsTextFault e → e ≢ faults.NoMemory
not_memory e h same = rw same at h

pub word_not_memory : (e : ArgFault) → IsWordFault e → e ≢ words.NoMemory
word_not_memory e h same = rw same at h

-- a fact of the answer is one of the halt with it
answered-fact : {E : Type 0} (P : Answer → Type 0) (r : Result Answer E) → IfOk r P → IfAnswered (halt_of r) P
answered-fact P (Ok a) fact = fact
answered-fact P (Err e) fact = tt

pub halted : {E : Type 0} (P : Answer → Type 0) (r : Result Answer E) (h : Halt) → h ≡ halt_of r → IfOk r P → IfAnswered h P
halted P r h is fact = subst (λ (x : Halt). IfAnswered x P) (sym is) (answered-fact P r fact)

-- a text that is longer than the limit has that fault
long_lines : (limits : Limits) (shape : Shape) (text : List ℕ) → nat_lt limits.bytes (length text) ≡ true → lines_of shape limits text ≡ Err faults.TooLong
long_lines limits shape text long = rw long refl

long_matrix : (limits : Limits) (shape : Shape) (text : List ℕ) → nat_lt limits.bytes (length text) ≡ true → matrix_of shape limits text ≡ Err matrix_fault.TooLong
long_matrix limits shape text long = rw long refl

-- what is read of a text, and is one thing of all that are longer than a limit, is read of a front with one byte more
same_front : {A : Type 0} (read : List ℕ → A) (long : A) (limit n : ℕ) (whole : List ℕ) → n ≡ limit + 1
    → ((text : List ℕ) → nat_lt limit (length text) ≡ true → read text ≡ long) → read (take n whole) ≡ read whole
same_front read long limit n whole is too_long =
    let size : length (take n whole) ≡ min n (length whole) = length-take n whole in
    elim (cases_lt limit (length whole)) [
      | inl more ↦
          let front : limit < length (take n whole) = omega (arith, size, is, more) in
          too_long (take n whole) (grind (arith, front)) ∙ sym (too_long whole (grind (arith, more)))
      | inr few ↦ ap read (take_all n whole (omega (arith, is, few)))
    ]

-- the lines, and the matrix, of a front with one byte more than the limit are those of the text
lines_front : (limits : Limits) (shape : Shape) (n : ℕ) (whole : List ℕ) → n ≡ limits.bytes + 1 → lines_of shape limits (take n whole) ≡ lines_of shape limits whole
lines_front limits shape n whole is = same_front (lines_of shape limits) (Err faults.TooLong) limits.bytes n whole is (λ text long. long_lines limits shape text long)

matrix_front : (limits : Limits) (shape : Shape) (n : ℕ) (whole : List ℕ) → n ≡ limits.bytes + 1 → matrix_of shape limits (take n whole) ≡ matrix_of shape limits whole
matrix_front limits shape n whole is = same_front (matrix_of shape limits) (Err matrix_fault.TooLong) limits.bytes n whole is (λ text long. long_matrix limits shape text long)

-- a format judges a text by so many of its first bytes
record IsJudgedByFront (f : GraphFormat) (n : ℕ) : Type 0 where
  stands : (shape : Shape) (whole : List ℕ) (g : NumberedGraph) → f.stands shape (take n whole) g → f.stands shape whole g
  faulty : (shape : Shape) (whole line : List ℕ) → f.faulty shape (take n whole) line → f.faulty shape whole line

edges_by_front : (n : ℕ) → n ≡ most_graph → IsJudgedByFront edge_list n
edges_by_front n is = record {
  stands = λ shape whole g it. record { sound_lines = it.sound_lines; no_fault = sym (lines_front graph_limits shape n whole is) ∙ it.no_fault; built = it.built };
  faulty = λ shape whole line it. record { fault = it.fault; has = sym (lines_front graph_limits shape n whole is) ∙ it.has; says = it.says };
}

matrix_by_front : (n : ℕ) → n ≡ most_graph → IsJudgedByFront matrix_market n
matrix_by_front n is = record {
  stands = λ shape whole g it. record { matrix = it.matrix; no_fault = sym (matrix_front graph_limits shape n whole is) ∙ it.no_fault; built = it.built };
  faulty = λ shape whole line it. record { fault = it.fault; has = sym (matrix_front graph_limits shape n whole is) ∙ it.has; says = it.says };
}

by_front : (f : Format) (n : ℕ) → n ≡ most_graph → IsJudgedByFront (format_of f) n
by_front Edges n is = edges_by_front n is
by_front Mtx n is = matrix_by_front n is

answer_front : (f : GraphFormat) (shape : Shape) (inputs : List Input) (words : List (List ℕ)) (Ran : Saying) (n : ℕ) (whole text : List ℕ) (status : Status)
    → IsJudgedByFront f n → IsTextAnswer f shape inputs words Ran (take n whole) text status → IsTextAnswer f shape inputs words Ran whole text status
answer_front f shape inputs words Ran n whole text status by (bad_graph said) =
    bad_graph (record { line = said.line; faulty = by.faulty shape whole said.line said.faulty; says = said.says })
answer_front f shape inputs words Ran n whole text status by (good_graph g stands answer) = good_graph g (by.stands shape whole g stands) answer

-- what is said over the front of a graph text is said over the text
pub text_answer_front : (f : Format) (shape : Shape) (inputs : List Input) (words : List (List ℕ)) (Ran : Saying) (whole text : List ℕ) (status : Status)
    → IsTextAnswer (format_of f) shape inputs words Ran (take most_graph whole) text status → IsTextAnswer (format_of f) shape inputs words Ran whole text status
text_answer_front f shape inputs words Ran whole text status answer = answer_front (format_of f) shape inputs words Ran most_graph whole text status (by_front f most_graph refl) answer

-- ---- what is said, wherever the work ends

-- a weaker fact of the answer
pub weaker : (P Q : Answer → Type 0) (h : Halt) → ((a : Answer) → P a → Q a) → IfAnswered h P → IfAnswered h Q
weaker P Q (Answered a) step fact = step a fact
weaker P Q NoMemory step fact = tt

pub said_weaker : (P Q : Answer → Type 0) (r : Result Answer Halt) → ((a : Answer) → P a → Q a) → IfSaid r P → IfSaid r Q
said_weaker P Q (Ok a) step fact = step a fact
said_weaker P Q (Err h) step fact = weaker P Q h step fact

-- what a `?` passes on
pub said_on : (P : Answer → Type 0) (r : Result Answer Halt) (h : Halt) → IsErrAnd r (λ y. y ≡ h) → IfAnswered h P → IfSaid r P
said_on P (Ok a) h e fact = absurd e
said_on P (Err y) h e fact = subst (λ (x : Halt). IfAnswered x P) (sym e) fact

-- what is said in the end
pub settled_said : (P : Answer → Type 0) (outcome : Result Answer Halt) (a : Answer) → IfSaid outcome P → IsSaid outcome a → P a
settled_said P (Ok x) a said is = subst P (sym is) said
settled_said P (Err (Answered x)) a said is = subst P (sym is) said
settled_said P (Err NoMemory) a said is = absurd is
