-- The end of a run of the workers.
use Rattle.std.proofs.Common.{◌≡◌, ◌∙◌, [], Some, List, Vec, Global, length, map, sym, ap, subst}
use Rattle.gm_value.specs.declared.values.Value.{Value}
use Rattle.gm_model.specs.Graphs.{node_count}
use Rattle.gm_image.specs.declared.images.Image.{Image}
use Rattle.gm_image.specs.Program.{Program}
use Rattle.gm_image.specs.Views.{program}
use Rattle.gm_machine.specs.Machine.{Nodes, Stop}
use Rattle.gm_machine.specs.Masters.{pause_of, control_of}
use Rattle.gm_machine.specs.States.{end_by}
use Rattle.gm_core.specs.Cores.{below}
use Rattle.gm_workers.specs.Crews.{IsCrew, fields_at}
use Rattle.gm_workers.specs.Runs.{ended_by}
use Rattle.gm_workers.proofs.RunLemmas.{all-fields, pause-over, ends-same, some-same, never-none}
use Rattle.gm_workers.proofs.runs.end_of.Goals as goal

pub all_fields-requires : goal.all_fields-requires
all_fields-requires c =
    subst (λ n. IsCrew n (length c.args.progress.now.crew.slots.items) c.args.progress.now.crew.dealing c.args.progress.now.crew.slots.items) (sym c.node_count.ensures.count) c.requires.crew

pub unreachable-requires : goal.unreachable-requires
unreachable-requires c =
    let over = pause-over c.args.stop 0 c.args.master.now.line (control_of c.args.master.now) c.requires.over in
    let s : Nodes = record { fields = map (λ (row : Vec Value Global). row.items) c.as_slice.result.now; sent = []; supersteps = c.args.progress.now.supersteps; messages = c.args.progress.now.messages } in
    never-none _ (sym c.in-None.is ∙ c.in_ok-end.ensures 0 ∙ ap (λ u. end_by (program c.image.result.now) u s) over)

pub returns : goal.returns
returns c =
    let p : Program = program c.args.image.now in
    let how : Stop = ended_by c.args.stop (control_of c.args.master.now) in
    let over = pause-over c.args.stop 0 c.args.master.now.line (control_of c.args.master.now) c.requires.over in
    let fields : List (List Value) = map (λ (row : Vec Value Global). row.items) c.as_slice.result.now in
    let s : Nodes = record { fields = fields; sent = []; supersteps = c.args.progress.now.supersteps; messages = c.args.progress.now.messages } in
    λ d at.
    let fields_are : fields ≡ d.fields =
    ap (map (λ (row : Vec Value Global). row.items)) c.as_slice.ensures.value
    ∙ c.in_ok-fields.ensures
    ∙ ap (λ n. map (fields_at c.args.progress.now.crew.dealing.owners.items c.args.progress.now.crew.slots.items) (below n)) c.node_count.ensures.count
    ∙ all-fields (node_count c.args.graph.now) c.args.progress.now.crew.dealing.owners.items c.args.progress.now.crew.slots.items d at.stand in
    some-same _ _
    (sym c.in-Some.is
    ∙ c.in_ok-end.ensures 0
    ∙ ap (λ (i : Image). end_by (program i) (pause_of c.args.stop 0 c.args.master.now.line (control_of c.args.master.now)) s) c.image.ensures.same
    ∙ ap (λ u. end_by p u s) over
    ∙ ap Some (ends-same p how d fields c.args.progress.now.supersteps c.args.progress.now.messages fields_are at.supersteps_are at.messages_are))
