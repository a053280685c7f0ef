-- A worker's part may go to a thread of its own.
use denote.Param.Send.{IsSend, IsSync, sendable}
use denote.Param.SendFields.{as_row_send, as_row_sync, declared_send, declared_sync, variants_sync}
use denote.Struct.Record.{declared}
use denote.Ref.{NamedLft}
use denote.RattleType.{RattleType}
use Rattle.std.proofs.CrossingOver.{crosses}
use Rattle.gm_image.proofs.Sharing.{items_sync, block_sync, master_line_sync}
use Rattle.gm_image.specs.contracts.images.Image as image
use Rattle.gm_image.proofs.images.InputItem.TheSendSync as input
use Rattle.gm_image.proofs.images.OutputItem.TheSendSync as output
use Rattle.gm_image.proofs.images.Kind.TheSendSync as kind
use Rattle.gm_value.proofs.values.VType.TheSendSync as vtype
use Rattle.gm_value.proofs.values.Value.TheSendSync as value
use Rattle.gm_base.proofs.places.Place.TheSendSync as place
use Rattle.gm_graph.proofs.graphs.Graph.TheSendSync as graph
use Rattle.gm_graph.proofs.in_rows.InRows.TheSendSync as in_rows
use Rattle.gm_machine.specs.contracts.node_steps.Duty as duty
use Rattle.gm_machine.proofs.fields.Fields.TheSendSync as fields
use Rattle.gm_node_batches.proofs.steps.Sent.TheSendSync as sent
use Rattle.gm_posting.proofs.posts.Posts.TheSendSync as posts
use Rattle.gm_posting.proofs.posts.Mailboxes.TheSendSync as mailboxes
use Rattle.gm_workers.proofs.mail.Mail.TheSendSync as mail
use Rattle.gm_workers.proofs.crews.Slot.TheSendSync as slot
use Rattle.gm_workers.proofs.dealing.Dealing.TheSendSync as dealing
use Rattle.gm_workers.specs.contracts.parts.Part as part

-- an image, field by field
pub image_sync : IsSync image.the_row
image_sync = declared_sync (declared image.struct image.the_propositions) (
  search (items_sync, as_row_sync, sendable, crosses) depth 20,
  (
    search (items_sync, input.the_sync, as_row_sync, sendable) depth 20,
    (
      search (items_sync, output.the_sync, as_row_sync, sendable) depth 20,
      (
        search (vtype.the_sync, as_row_sync, declared_sync, variants_sync, sendable, crosses) depth 20,
        (
          search (items_sync, vtype.the_sync, as_row_sync, sendable) depth 20,
          (
            search (items_sync, vtype.the_sync, as_row_sync, sendable) depth 20,
            (
              search (items_sync, vtype.the_sync, as_row_sync, sendable) depth 20,
              (
                search (items_sync, vtype.the_sync, as_row_sync, sendable) depth 20,
                (
                  search (items_sync, kind.the_sync, as_row_sync, sendable) depth 20,
                  (
                    search (items_sync, place.the_sync, as_row_sync, sendable) depth 20,
                    (
                      search (items_sync, block_sync, as_row_sync, sendable) depth 20,
                      (
                        search (items_sync, master_line_sync, as_row_sync, sendable) depth 20,
                        tt,
                      ),
                    ),
                  ),
                ),
              ),
            ),
          ),
        ),
      ),
    ),
  ),
)

pub duty_send : (ℓ : NamedLft) → IsSend (duty.the_row ℓ)
duty_send ℓ = search (image_sync, graph.the_sync, in_rows.the_sync, value.the_sync, as_row_send, declared_send, as_row_sync, declared_sync, sendable, crosses) depth 30

pub part_send : (ℓ : NamedLft) (R : RattleType) → IsSync R → IsSend (part.the_row ℓ R)
part_send ℓ R s = search (duty_send, dealing.the_sync, mailboxes.the_sync, mail.the_send, mail.the_sync, slot.the_send, posts.the_send, sent.the_send, fields.the_send, as_row_send, declared_send, as_row_sync, declared_sync, sendable, crosses) depth 30
