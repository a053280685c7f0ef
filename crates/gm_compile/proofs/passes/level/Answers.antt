use Rattle.std.proofs.Common.{◌≡◌, true, rules}
use Rattle.gm_ast.specs.Tree.{program_of}
use Rattle.gm_desugaring.specs.Desugaring.{CanBecomeLoops}
use Rattle.gm_forms.specs.Forms.{is_desugared, is_levelled}
use Rattle.gm_forms.specs.Meanings.{SameMeaning}
use Rattle.gm_forms.specs.Order.{is_ordered}
use Rattle.gm_forms.specs.Ready.{Ready1}
use Rattle.gm_forms.specs.Sharing.{is_race_free}
use Rattle.gm_forms.specs.Typing.{has_types}
use Rattle.gm_forms.specs.Uses.{is_named}
use Rattle.gm_forms.proofs.Meanings.{same-trans}
use Rattle.gm_compile.proofs.passes.level.Goals as goal

pub returns-clause-same : goal.returns-clause-same
returns-clause-same c can =
    let before : CanBecomeLoops (program_of c.args.program) → SameMeaning (program_of c.args.program) (program_of c.in_ok-plain.plain) = search rules in
    let plain : CanBecomeLoops (program_of c.args.program) → Ready1 (program_of c.in_ok-plain.plain) = search rules in
    let behind : is_named (program_of c.in_ok-plain.plain) ≡ true → is_desugared (program_of c.in_ok-plain.plain) ≡ true → SameMeaning (program_of c.in_ok-plain.plain) (program_of c.in_ok-loops.loops) = search rules in
    same-trans (program_of c.args.program) (program_of c.in_ok-plain.plain) (program_of c.in_ok-loops.loops) (before can) (behind (plain can).sane.named (plain can).form)

pub returns-clause-ready : goal.returns-clause-ready
returns-clause-ready c can =
    let plain : CanBecomeLoops (program_of c.args.program) → Ready1 (program_of c.in_ok-plain.plain) = search rules in
    let named : is_named (program_of c.in_ok-plain.plain) ≡ true → is_named (program_of c.in_ok-loops.loops) ≡ true = search rules in
    let typed : is_named (program_of c.in_ok-plain.plain) ≡ true → has_types (program_of c.in_ok-plain.plain) ≡ true → has_types (program_of c.in_ok-loops.loops) ≡ true = search rules in
    let ordered : is_ordered (program_of c.in_ok-plain.plain) ≡ true → is_ordered (program_of c.in_ok-loops.loops) ≡ true = search rules in
    let race_free : is_named (program_of c.in_ok-plain.plain) ≡ true → is_desugared (program_of c.in_ok-plain.plain) ≡ true → is_race_free (program_of c.in_ok-plain.plain) ≡ true → is_race_free (program_of c.in_ok-loops.loops) ≡ true = search rules in
    let form : is_named (program_of c.in_ok-plain.plain) ≡ true → is_desugared (program_of c.in_ok-plain.plain) ≡ true → is_levelled (program_of c.in_ok-loops.loops) ≡ true = search rules in
    let before : Ready1 (program_of c.in_ok-plain.plain) = plain can in
    record {
      sane = record {
        named = named before.sane.named;
        typed = typed before.sane.named before.sane.typed;
        ordered = ordered before.sane.ordered;
        race_free = race_free before.sane.named before.form before.sane.race_free;
      };
      form = form before.sane.named before.form;
    }
