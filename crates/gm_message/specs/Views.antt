-- Plans of the code, seen without where they lie in memory.
use Rattle.std.specs.Prelude.{map}
use Rattle.gm_message.specs.declared.loads.Load as L
use Rattle.gm_message.specs.declared.loads.Load.TheVariants as loads
use Rattle.gm_message.specs.declared.plans.KindPlan as K
use Rattle.gm_message.specs.declared.plans.Plan as P
use Rattle.gm_message.specs.declared.ways.Way as W
use Rattle.gm_message.specs.declared.ways.Way.TheVariants as ways
use Rattle.gm_lowering.specs.Plans.{Load, SenderItself, SenderProperty, SenderDegree, EdgeValue, KindPlan, Plan, Way, Puts, Folds, Sends, Picks}

-- what a receiver reads of the sender
abbrev pub as_load : L.Load → Load
as_load loads.SenderItself = SenderItself
as_load (loads.SenderProperty p) = SenderProperty p
as_load (loads.SenderDegree d) = SenderDegree d
as_load (loads.EdgeValue p) = EdgeValue p

-- how a body reduces
abbrev pub as_way : W.Way → Way
as_way ways.Puts = Puts
as_way ways.Folds = Folds
as_way ways.Sends = Sends
as_way ways.Picks = Picks

-- a kind of messages
abbrev pub as_kind : K.KindPlan → KindPlan
as_kind k = record { carried = map as_load k.carried; values = k.values }

-- a plan
abbrev pub as_plan : P.Plan → Plan
as_plan p = record { kinds = map as_kind p.kinds }
