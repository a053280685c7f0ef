use Rattle.std.proofs.Common.{◌∙◌, ℕ, Bor}
use Rattle.std.specs.HashSet.{HashSet}
use Rattle.gm_image.specs.Views.{block}
use Rattle.gm_merge.proofs.Testing.{joinable-is}
use Rattle.gm_merge.proofs.joinable.Earlier.is_joinable.Goals as goal

pub returns : goal.returns
returns c = λ a shows.
    let globals : Bor (HashSet ℕ _) = record { ref_ptr = c.args.self.ref_ptr; now = c.args.self.now.puts } in
    c.all_hold.ensures
    ∙ joinable-is a (block c.args.second.now) globals shows.puts c.args.self.now.bound c.args.self.now.is_silent c.args.self.now.is_calm
    c.block_holds-apart.result c.block_holds-behind.result c.block_holds-quiet.result
    shows.bound shows.silent shows.calm c.block_holds-apart.ensures c.block_holds-behind.ensures c.block_holds-quiet.ensures
