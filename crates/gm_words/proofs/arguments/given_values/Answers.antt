use Rattle.std.proofs.Common.{◌∙◌, ◌++◌, ◌+◌, ap, sym, refl, [], ◌∷◌, drop}
use Rattle.std.specs.Str.{bytes_eq}
use Rattle.std.proofs.lemmas.Map.Text.{hash_map_str_same}
use Rattle.indexmap.specs.IndexMap.{get_by}
use Rattle.gm_words.specs.Arguments.{Bindings, given_by, name_in_word, value_in_word}
use Rattle.gm_words.specs.Bindings.{bindings, type_in}
use Rattle.gm_words.specs.Words.{Text}
use Rattle.gm_words.proofs.Maps.{bindings-new, judged_same, named-bindings, same_fault, was_none, word_goes, word_stops, words_done}
use Rattle.gm_words.proofs.arguments.given_values.Goals as goal

pub returns-in_err-value-clause-fault : goal.returns-in_err-value-clause-fault
returns-in_err-value-clause-fault c =
    let word = c.text-item.result in
    let given = c.loop-text.given in
    let types = type_in c.args.types.now in
    let numbers = c.args.graph.now.numbers in
    let name = c.split_word-word.ensures.name ∙ ap name_in_word c.as_str.ensures in
    let value = c.split_word-word.ensures.value ∙ ap value_in_word c.as_str.ensures in
    let vtype = c.copied-vtype.ensures ∙ c.get.ensures.value ∙ ap types name in
    let before = c.copied-before.ensures ∙ c.get-in-loop-text.ensures.value ∙ ap (λ (n : Text). get_by (λ key. bytes_eq n key.now) given) name ∙ sym (named-bindings given (name_in_word word)) in
    same_fault c.from_residual.result c.in_err-value.field-0.0 (given_by types numbers c.args.words.now []) c.from_residual.ensures.1
    (λ other. c.loop-text.invariant ∙ word_stops types numbers c.args.words.now c.loop-text.text-index word c.loop-text-test.true c.text-item.is (bindings given) c.in_err-value.field-0.0
    (judged_same _ _ _ _ numbers _ _ _ _ _ vtype before name value (c.in_err-value.ensures.fault other)))

pub loop-text-preserved : goal.loop-text-preserved
loop-text-preserved c =
    let word = c.text-item.result in
    let given = c.loop-text.given in
    let types = type_in c.args.types.now in
    let numbers = c.args.graph.now.numbers in
    let name = c.split_word-word.ensures.name ∙ ap name_in_word c.as_str.ensures in
    let value = c.split_word-word.ensures.value ∙ ap value_in_word c.as_str.ensures in
    let vtype = c.copied-vtype.ensures ∙ c.get.ensures.value ∙ ap types name in
    let before = c.copied-before.ensures ∙ c.get-in-loop-text.ensures.value ∙ ap (λ (n : Text). get_by (λ key. bytes_eq n key.now) given) name ∙ sym (named-bindings given (name_in_word word)) in
    let judged = c.in_ok-value.ensures.value in
    let key = c.split_word-word.result.name in
    let none = (hash_map_str_same key key.now given.entries refl).0 ∙ sym c.get-in-loop-text.ensures.value ∙ sym c.copied-before.ensures ∙ was_none _ _ numbers _ _ _ judged in
    let put = bindings-new _ given c.insert.new.self.entries key c.in_ok-value.value none c.in_ok-insert.ensures.entries in
    c.loop-text.invariant
    ∙ word_goes types numbers c.args.words.now c.loop-text.text-index word c.loop-text-test.true c.text-item.is (bindings given) c.in_ok-value.value
    (judged_same _ _ _ _ numbers _ _ _ _ _ vtype before name value judged)
    ∙ ap (λ (g : Bindings). given_by types numbers (drop (c.loop-text.text-index + 1) c.args.words.now) g)
    (sym (put ∙ ap (λ (n : Text). bindings given ++ (n, c.in_ok-value.value) ∷ []) name))

pub returns-clause-values : goal.returns-clause-values
returns-clause-values c =
    c.loop-text.invariant ∙ words_done (type_in c.args.types.now) c.args.graph.now.numbers c.args.words.now c.loop-text.text-index (bindings c.loop-text.given) c.loop-text-test.false
