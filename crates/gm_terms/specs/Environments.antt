-- Environments of the code, seen as those of the definition.
use Rattle.std.specs.Prelude.{map}
use Rattle.gm_lowering.specs.Layouts.{Layout}
use Rattle.gm_lowering.specs.Places.{Segment}
use Rattle.gm_lowering.specs.Terms.{Env, master_env, own_env, each_env}
use Rattle.gm_lowering.specs.Blocks.{receiver_env}
use Rattle.gm_layouts.specs.Where.{where_of}
use Rattle.gm_message.specs.Views.{as_load}
use Rattle.gm_terms.specs.declared.terms.Environment.{Environment}
use Rattle.gm_terms.specs.declared.terms.Stand.{Stand}
use Rattle.gm_terms.specs.declared.terms.Stand.TheVariants as stands

abbrev pub env_by : Stand → Layout → Segment → Env
env_by stands.Master c g = master_env c g
env_by (stands.Own n) c g = own_env c g n
env_by (stands.Each n i) c g = each_env c g n i
env_by (stands.Receiver n i loads) c g = receiver_env c g n i (map as_load loads.now)

abbrev pub env_of : Environment → Env
env_of e = env_by e.stand (where_of e.layout.now) e.places.now
