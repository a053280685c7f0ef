-- One superstep takes what messages carry for reductions.
use Rattle.std.specs.Prelude.{◌≡◌, ◌<◌, ◌+◌, ℕ, true, Some, Ok, List, [], map, slice_get, length}
use Rattle.std.specs.List.{list_all}
use Rattle.gm_value.specs.declared.values.Value.{Value}
use Rattle.gm_value.specs.Bag.{IsIn}
use Rattle.gm_model.specs.Graphs.{NumberedGraph, node_count}
use Rattle.gm_semantics.specs.Contributions.{Contribution, settled_store, total_faults}
use Rattle.gm_semantics.specs.Faults.{least, unless_fault}
use Rattle.gm_semantics.specs.Iterations.{contribution}
use Rattle.gm_semantics.specs.Stores.{Store}
use Rattle.gm_image.specs.Program.{Program, Block}
use Rattle.gm_machine.specs.Machine.{Nodes, block_at, superstep}
use Rattle.gm_machine.specs.Vertex.{Message}
use Rattle.gm_lowering.specs.Layouts.{Layout}
use Rattle.gm_lowering.specs.Places.{Spot, Segment, segment, spot_of_total, place_index}
use Rattle.gm_lowering.specs.Terms.{Env}
use Rattle.gm_lowering.specs.Plans.{Away}
use Rattle.gm_lowering.specs.Blocks.{taking_handlers}
use Rattle.gm_lowering.specs.Sites.{same_length, IsApart}
use Rattle.gm_lowering.specs.OwnLoops.{are_any, is_kept_property}
use Rattle.gm_lowering.specs.Phases.{Shown, StepIs, GivesApart}
use Rattle.gm_lowering.specs.Settles.{HasSpot, HaveRoom}
use Rattle.gm_lowering.specs.Takings.{slots_at}

-- the block that takes what is sent for some reductions, by kinds from one on
abbrev pub taking_block : Layout → Segment → ℕ → List Away → Block
taking_block c seg kind aways = record { handlers = taking_handlers c seg kind aways; body = [] }

-- a message carries a contribution of one of the reductions: its kind is the reduction's, and its values are the contribution's, whose slots are the reduction's at the node where it goes
pub record Carried (kind : ℕ) (aways : List Away) (x : Contribution) (m : Message) : Type 0 where
  pub index : ℕ
  pub away : Away
  pub found : slice_get aways index ≡ Some away
  pub of_kind : m.kind ≡ kind + index
  pub made : x ≡ contribution away.total away.reduce (slots_at m.to away.targets, m.values)
  pub long : same_length away.targets m.values ≡ true

-- a reduction whose values are sent goes to properties through one variable, at least one, which have fields; and its total is among the spots
pub record IsTaken (c : Layout) (spots : List Spot) (a : Away) : Type 0 where
  pub owner : ℕ
  pub some : are_any a.targets ≡ true
  pub kept : list_all (is_kept_property c owner) a.targets ≡ true
  pub spotted : HasSpot (spot_of_total a.total) spots

-- the contributions, each with the message that carries it
abbrev pub contributions_of : List (Contribution × Message) → List Contribution
contributions_of xs = map (λ x. x.0) xs

-- one superstep with such a block takes what messages carry: it has the least fault of the totals, or leaves what the contributions leave
abbrev pub TakingBlocksTake : Type 0
TakingBlocksTake =
    (c : Layout) (p : Program) (fields base q kind : ℕ) (all : List Spot) (v : Env) (g : NumberedGraph) (aways : List Away) (globals : List Value) (s : Nodes) (r : Store)
    (xs : List (Contribution × Message))
    → v.place ≡ place_index (segment base all)
    → IsApart c (length p.registers) fields
    → HaveRoom base all (length p.places)
    → block_at p q ≡ taking_block c (segment base all) kind aways
    → ((a : Away) → IsIn a aways → IsTaken c all a)
    → Shown c p.registers fields g globals (record s { sent = [] }) r
    → s.sent ≡ map (λ x. x.1) xs
    → ((x : Contribution × Message) → IsIn x xs → Carried kind aways x.0 x.1 × (x.1.to < node_count g))
    → GivesApart (contributions_of xs)
    → StepIs c v all p.registers fields g globals (unless_fault (least (total_faults r (contributions_of xs))) (Ok (settled_store r (contributions_of xs)))) (superstep p g q globals s)
