use Rattle.std.proofs.Common.{subst, sym, map}
use Rattle.std.specs.Prelude.{flat_map}
use Rattle.std.proofs.lemmas.List.{map-append}
use Rattle.gm_ast.specs.Tree.{expr_of}
use Rattle.gm_ast.specs.Ways.{mentions, held_of}
use Rattle.gm_push_pull.specs.Sweeps.{compared}
use Rattle.gm_push_pull.specs.declared.reads.Reads.{Reads}
use Rattle.gm_push_pull.specs.Webs.{Adds, Opens, link_from}
use Rattle.gm_push_pull.proofs.Webs.{adds-then, opens-then}
use Rattle.gm_push_pull.proofs.web.Web.open_reduction.Goals as goal

pub returns : goal.returns
returns c =
    let ts = c.args.targets.now in
    let es = map expr_of c.args.values.now in
    let ms = compared ts es in
    let site = c.in_ok-site.site in
    let held = flat_map held_of ts in
    let values = flat_map mentions es in
    let both = subst (Adds c.open.new.self c.link_values.new.self) (sym (map-append (link_from site) held values))
    (adds-then (map (link_from site) held) (map (link_from site) values) c.in_ok-link_held.ensures c.in_ok-link_values.ensures) in
    subst (λ (r : Reads). Opens c.args.self.now c.link_values.new.self c.args.around r site ms) c.noted_reduction-reads.ensures (opens-then ms c.in_ok-site.ensures both)
