-- A pot with a contribution of another statement.
use Rattle.std.proofs.Common.{◌≡◌, ◌<◌, ◌∷◌, ◌∙◌, List, refl, ap, sym, subst, arith}
use Rattle.gm_semantics.specs.Contributions.{statement_of}
use Rattle.gm_totals.specs.declared.entries.Entry.{Entry}
use Rattle.gm_totals.specs.declared.pots.Pot.{Pot}
use Rattle.gm_totals.specs.Given.{given}
use Rattle.gm_totals.specs.Pots.{Gains, entries_of}
use Rattle.gm_totals.proofs.Gaining.{gains-before, gains-later}
use Rattle.gm_totals.proofs.Potting.{pot-more}
use Rattle.gm_totals.proofs.pots.Pot.give_apart.Goals as goal

pub returns-then-self-key : goal.returns-then-self-key
returns-then-self-key c = λ by slots.
    let old = c.args.self.now in
    let k = given c.args.key by slots c.args.values.now in
    let new : Pot = record old { more = c.add.new.entries } in
    let later : old.first.statement < statement_of k = c.if-self-key.true in
    pot-more c.args.several old new k refl (gains-later c.args.several old.reduce k old.first old.more.items new.more.items later (c.in_ok-add.ensures by slots))

pub returns : goal.returns
returns c = λ by slots.
    let old = c.args.self.now in
    let k = given c.args.key by slots c.args.values.now in
    let entry = c.in_ok-entry.entry in
    let new : Pot = record { more = c.insert.new.self; reduce = old.reduce; first = c.replace-later.new.dest } in
    let earlier : statement_of k < old.first.statement = omega arith in
    let gains = gains-before c.args.several old.reduce k old.first entry old.more.items earlier (c.in_ok-entry.ensures by slots) in
    let first : entry ≡ new.first = sym c.replace-later.ensures.after in
    let items : old.first ∷ old.more.items ≡ new.more.items = sym (c.in_ok-insert.ensures.items ∙ ap (λ (e : Entry). e ∷ old.more.items) c.replace-later.ensures.value) in
    pot-more c.args.several old new k refl
    (subst (λ (es : List Entry). Gains c.args.several old.reduce (entries_of old) es k) (ap (λ (e : Entry). e ∷ (old.first ∷ old.more.items)) first ∙ ap (λ (es : List Entry). new.first ∷ es) items) gains)
