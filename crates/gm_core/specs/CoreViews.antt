-- A run by workers, as the code holds it.
use Rattle.std.specs.Prelude.{◌≡◌, ◌<◌, ◌≤◌, ◌-◌, ℕ, false, List, [], length, map, slice_index_or}
use Rattle.gm_model.specs.Graphs.{node_count}
use Rattle.gm_machine.specs.Vertex.{Message}
use Rattle.gm_image.specs.Views.{program}
use Rattle.gm_machine.specs.Asking.{IsServed}
use Rattle.gm_machine.specs.Masters.{FitsGraph, control_of, pause_of}
use Rattle.gm_core.specs.declared.cores.Setting.{Setting}
use Rattle.gm_core.specs.declared.cores.CoreRun.{CoreRun}
use Rattle.gm_core.specs.declared.cores.Round.{Round}
use Rattle.gm_core.specs.Mails.{Mail}
use Rattle.gm_core.specs.Cores.{Core, is_in}
use Rattle.gm_core.specs.Laws.{AreOwners}

-- the row at an index, an empty one past the end
abbrev pub row_at : {A : Type 0} → List (List A) → ℕ → List A
row_at rows k = slice_index_or rows k []

-- what workers send each other: by sender and receiver what is not delivered, and by receiver what came
abbrev pub mail_in : List (List (List Message)) → List (List Message) → Mail Message
mail_in unsent incoming = record { unsent = λ from. row_at (row_at unsent from); incoming = row_at incoming }

-- a row for each worker with a row for each worker
pub record IsSquare (workers : ℕ) (rows : List (List (List Message))) : Type 0 where
  pub long : length rows ≡ workers
  pub each : (w : ℕ) → w < workers → length (row_at rows w) ≡ workers

-- what the code holds, as the core
abbrev pub core_of : CoreRun → Core
core_of c = record {
  next = pause_of c.next (c.master.bound - c.master.turns) c.master.line (control_of c.master);
  fields = map (λ row. row.items) c.fields.items;
  waiting = row_at c.waiting.items;
  supersteps = c.supersteps;
  messages = c.messages;
  computed = c.round.computed.items;
  puts = c.round.puts;
  fault = c.round.fault;
  sent = c.round.sent;
  mail = mail_in c.round.unsent.items c.round.incoming.items;
  arrived = λ w. slice_index_or c.round.arrived.items w false;
}

-- a row for each worker, and a mark for each node that says whether it has computed
pub record IsRound (nodes workers : ℕ) (r : Round) : Type 0 where
  pub marks : length r.marks.items ≡ nodes
  pub marked : (n : ℕ) → n < nodes → slice_index_or r.marks.items n false ≡ is_in n r.computed.items
  pub unsent : IsSquare workers r.unsent.items
  pub incoming : length r.incoming.items ≡ workers
  pub arrived : length r.arrived.items ≡ workers

pub record IsWide (nodes workers : ℕ) (c : CoreRun) : Type 0 where
  pub bounded : c.master.turns ≤ c.master.bound
  pub fields : length c.fields.items ≡ nodes
  pub waiting : length c.waiting.items ≡ workers
  pub round : IsRound nodes workers c.round

-- a graph that fits the image and has the rows for which it asks, and an owner among the workers for each node
pub record IsSetting (s : Setting) : Type 0 where
  pub columns : FitsGraph s.image.now s.graph.now
  pub served : IsServed (program s.image.now) s.graph.now s.in_rows.now
  pub dealt : AreOwners s.owners.now (node_count s.graph.now) s.workers
