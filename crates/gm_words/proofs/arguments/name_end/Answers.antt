use Rattle.std.proofs.Common.{rules, ◌≡◌, ◌∙◌, true, drop, Some, None, ap, sym, ◌+◌, ℕ}
use Rattle.std.specs.Prelude.{position}
use Rattle.std.specs.List.{list_any, position_or_len}
use Rattle.gm_words.specs.Words.{Text, is_equals}
use Rattle.gm_words.proofs.Assignments.{found_at, index_is, past_first}
use Rattle.gm_words.proofs.arguments.name_end.Goals as goal

pub unreachable-requires : goal.unreachable-requires
unreachable-requires c =
    let word = c.args.word.now in
    let has : list_any is_equals (drop 1 word) ≡ true = search rules in
    let bytes : c.as_bytes.result.now ≡ word = c.as_bytes.ensures.value in
    let none : position is_equals (drop 1 word) ≡ None = ap (λ (w : Text). position is_equals (drop 1 w)) (sym bytes) ∙ sym c.equals_after_first.ensures ∙ c.in-None.is in
    let some = (found_at (drop 1 word) has).0 in
    let bad = sym none ∙ some in
    cc

pub returns-clause-value : goal.returns-clause-value
returns-clause-value c =
    let word = c.args.word.now in
    let has : list_any is_equals (drop 1 word) ≡ true = search rules in
    let bytes : c.as_bytes.result.now ≡ word = c.as_bytes.ensures.value in
    let is : position is_equals (drop 1 word) ≡ Some c.in-Some.after_first = ap (λ (w : Text). position is_equals (drop 1 w)) (sym bytes) ∙ sym c.equals_after_first.ensures ∙ c.in-Some.is in
    ap (λ (k : ℕ). k + 1) (index_is (drop 1 word) c.in-Some.after_first has is)

pub returns-clause-equals : goal.returns-clause-equals
returns-clause-equals c =
    let word = c.args.word.now in
    let has : list_any is_equals (drop 1 word) ≡ true = search rules in
    let bytes : c.as_bytes.result.now ≡ word = c.as_bytes.ensures.value in
    let is : position is_equals (drop 1 word) ≡ Some c.in-Some.after_first = ap (λ (w : Text). position is_equals (drop 1 w)) (sym bytes) ∙ sym c.equals_after_first.ensures ∙ c.in-Some.is in
    let place = index_is (drop 1 word) c.in-Some.after_first has is in
    rw place (past_first word (position_or_len is_equals (drop 1 word)) (found_at (drop 1 word) has).1).equals
