-- Images may be shared between threads: workers read one image side by side.
use denote.Param.Send.{IsSync, sendable}
use denote.Param.SendFields.{as_row_sync, declared_sync, variants_sync}
use denote.RattleType.{RattleType}
use Rattle.std.proofs.CrossingOver.{crosses}
use Rattle.gm_image.proofs.lines.Expr.TheLaws.TheKnot as knot
use Rattle.gm_base.specs.contracts.lists.Items as items
use Rattle.gm_image.specs.contracts.lines.Expr as expr
use Rattle.gm_image.specs.contracts.lines.VertexLine as vertex_line
use Rattle.gm_image.specs.contracts.lines.MasterLine as master_line
use Rattle.gm_image.specs.contracts.images.Handler as handler
use Rattle.gm_image.specs.contracts.images.Block as block

-- a list of what may be shared
pub items_sync : (R : RattleType) → IsSync R → IsSync (items.the_row R)
items_sync R s = search (sendable, crosses) depth 20

pub expr_sync : IsSync expr.the_row
expr_sync = search (knot.crosses, sendable, crosses) depth 20

pub vertex_line_sync : IsSync vertex_line.the_row
vertex_line_sync = search (expr_sync, items_sync, as_row_sync, declared_sync, variants_sync, sendable, crosses) depth 30

pub handler_sync : IsSync handler.the_row
handler_sync = search (vertex_line_sync, items_sync, sendable, crosses) depth 20

pub block_sync : IsSync block.the_row
block_sync = search (handler_sync, vertex_line_sync, items_sync, sendable, crosses) depth 20

pub master_line_sync : IsSync master_line.the_row
master_line_sync = search (expr_sync, items_sync, as_row_sync, declared_sync, variants_sync, sendable, crosses) depth 30
