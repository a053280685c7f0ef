-- A node's step, and what is noted of it.
use Rattle.std.proofs.Common.{◌≡◌, ◌<◌, ◌∙◌, ◌+◌, ◌++◌, false, [], length, refl, ap, arith}
use Rattle.std.specs.Prelude.{slice_index_or}
use Rattle.gm_image.specs.Views.{program}
use Rattle.gm_machine.specs.Faults.{lesser}
use Rattle.gm_machine.specs.Machine.{inbox}
use Rattle.gm_machine.specs.Masters.{control_of}
use Rattle.gm_core.specs.Cores.{Core, sends}
use Rattle.gm_core.specs.CoreViews.{row_at, core_of}
use Rattle.gm_core.proofs.CoreChanges.{read-is, computes-is}
use Rattle.gm_core.proofs.effects.compute.Goals as goal

pub returns-clause-wide : goal.returns-clause-wide
returns-clause-wide c = record {
  bounded = c.requires.wide.bounded;
  fields = c.in_ok-sent.ensures.long ∙ c.requires.wide.fields;
  waiting = c.requires.wide.waiting;
  round = c.in_ok-note.ensures.wide;
}

pub returns-clause-core : goal.returns-clause-core
returns-clause-core c =
    let old = c.args.core.now in
    let s : Core = core_of old in
    let owners = c.args.setting.now.owners.now in
    let within : c.args.worker < length old.waiting.items = omega (arith, c.requires.wide.waiting, c.requires.worker) in
    let row : c.index-waiting.result.now ≡ row_at old.waiting.items c.args.worker = read-is old.waiting.items c.args.worker c.index-waiting.result.now [] within c.index-waiting.ensures in
    computes-is (program c.args.setting.now.image.now) c.args.setting.now.graph.now owners c.args.setting.now.workers c.args.block (control_of old.master) c.args.worker c.args.node s _
    c.deref.result.now c.in_ok-inbox.inbox c.deref.ensures.value
    (c.in_ok-inbox.ensures ∙ ap (λ l. inbox l c.args.node) row)
    refl
    c.in_ok-sent.ensures.fields
    refl refl refl
    c.in_ok-note.ensures.computed
    (c.in_ok-note.ensures.puts ∙ ap (λ ps. s.puts ++ ps) c.in_ok-sent.ensures.puts)
    (c.in_ok-note.ensures.fault ∙ ap (lesser s.fault) c.in_ok-sent.ensures.fault)
    (c.in_ok-note.ensures.sent ∙ ap (λ ms. s.sent + length ms) c.in_ok-sent.ensures.messages)
    (c.in_ok-note.ensures.mail ∙ ap (λ ms. sends owners c.args.worker ms s.mail) c.in_ok-sent.ensures.messages)
    (λ v. ap (λ marks. slice_index_or marks v false) c.in_ok-note.ensures.arrived)
