use Rattle.std.proofs.Common.{◌∙◌, ap, sym, cond, is_some, Option, Some, None}
use Rattle.std.specs.Option.{option_or}
use Rattle.std.specs.Str.{bytes_eq}
use Rattle.std.proofs.lemmas.Map.Text.{hash_map_updates_str}
use Rattle.gm_value.specs.declared.values.VType.{VType}
use Rattle.gm_words.specs.Bindings.{type_in}
use Rattle.gm_words.specs.Words.{Text}
use Rattle.gm_words.proofs.Maps.{gets, named_more, stays}
use Rattle.gm_words.proofs.arguments.types_by_name.Goals as goal
use Rattle.gm_words.proofs.arguments.types_by_name.Goals.{then-not-contains_key+in_ok-insert, else-not-contains_key}

pub loop-input-preserved : goal.loop-input-preserved
loop-input-preserved c = λ name.
    let x = c.input-item.result in
    let types = c.loop-input.types in
    let more = sym (named_more c.args.inputs.now c.loop-input.input-index x name c.loop-input-test.true c.input-item.is) in
    let so_far = ap (λ (o : Option VType). option_or o (cond (bytes_eq name x.name) (Some x.vtype) None)) (c.loop-input.invariant name) in
    let asked = ap (λ (n : Text). is_some (type_in types n)) (sym c.as_str-name.ensures) ∙ sym c.contains_key.ensures in
    elim c.if-not-contains_key.branch [
      | then-not-contains_key+in_ok-insert w ↦
          ap (λ m. type_in m name) w.types-is
          ∙ hash_map_updates_str c.as_str-name.result.now types w.insert.new.self (Some x.vtype) w.in_ok-insert.ensures.updates name
          ∙ ap (λ (n : Text). cond (bytes_eq n name) (Some x.vtype) (type_in types name)) c.as_str-name.ensures
          ∙ sym (gets (type_in types) x name (asked ∙ w.if-not-contains_key.true)) ∙ so_far ∙ more
      | else-not-contains_key w ↦
          ap (λ m. type_in m name) w.types-is ∙ sym (stays (type_in types) x name (asked ∙ w.if-not-contains_key.false)) ∙ so_far ∙ more
    ]
