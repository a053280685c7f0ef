-- The master list's run, as the code holds it.
use Rattle.std.specs.Prelude.{ℕ, ◌+◌, ◌-◌, ◌*◌, ◌<◌, ⊤, List, length}
use Rattle.gm_value.specs.declared.values.Value.{Value}
use Rattle.gm_model.specs.Graphs.{NumberedGraph}
use Rattle.gm_image.specs.declared.images.Image.{Image}
use Rattle.gm_machine.specs.declared.masters.MasterSegment as L
use Rattle.gm_machine.specs.declared.masters.MasterSegment.TheVariants as segments
use Rattle.gm_machine.specs.declared.masters.Lead as D
use Rattle.gm_machine.specs.declared.masters.Lead.TheVariants as leads
use Rattle.gm_machine.specs.declared.masters.Master.{Master}
use Rattle.gm_machine.specs.declared.masters.MasterList.{MasterList}
use Rattle.gm_graph.specs.Serving.{AreRowsOf}
use Rattle.gm_machine.specs.declared.masters.MasterStop.{MasterStop}
use Rattle.gm_machine.specs.declared.masters.MasterStop.TheVariants as stops
use Rattle.gm_machine.specs.VertexViews.{HasColumns}
use Rattle.gm_machine.specs.Machine.{Control, Pause, Stops, Steps, MasterSegment, AtEnd, AtStep, AtTurn, Lead, On, ToStep, ToTurn, ToStop, Ended, Faulted, Cut}

-- a graph has the edge columns that an image declares
abbrev pub FitsGraph : Image → NumberedGraph → Type 0
FitsGraph image g = HasColumns g (length image.columns)

-- a graph has the edge columns that a master list counts on, and the rows that it has are the graph's
abbrev pub IsListSupplied : MasterList → Type 0
IsListSupplied l = HasColumns l.graph.now l.columns × AreRowsOf l.graph.now l.in_rows.now

abbrev pub control : List Value → ℕ → Control
control globals turns = record { globals = globals; turns = turns }

abbrev pub control_of : Master → Control
control_of m = control m.globals.items m.turns

-- how a part of a run ends, with the globals and the turns that it leaves
abbrev pub segment_of : L.MasterSegment → Control → MasterSegment
segment_of segments.Ended c = AtEnd (Ended c)
segment_of (segments.Faulted f) c = AtEnd (Faulted f c)
segment_of (segments.Step q line) c = AtStep q line c
segment_of (segments.Turn line) c = AtTurn line c

-- where a line leads, with the globals and the turns that it leaves
abbrev pub lead_of : D.Lead → Control → Lead
lead_of (leads.On k) c = On k c
lead_of (leads.Step q) c = ToStep q c
lead_of (leads.Turn line) c = ToTurn line c
lead_of leads.Ended c = ToStop (Ended c)
lead_of (leads.Faulted f) c = ToStop (Faulted f c)

-- where a run to the next superstep stops, with so many turns left
abbrev pub pause_of : MasterStop → ℕ → ℕ → Control → Pause
pause_of (stops.Step q) left line c = Steps left q line c
pause_of stops.Ended left line c = Stops (Ended c)
pause_of (stops.Faulted f) left line c = Stops (Faulted f c)
pause_of stops.Cut left line c = Stops (Cut c)

-- how far a run may still go: the lines of the turns that are left, and those below the next line
abbrev pub left_of : ℕ → Master → ℕ
left_of lines m = (m.bound - m.turns) * (lines + 1) + (lines - m.line)

-- from superstep to superstep a run comes nearer to its end
abbrev pub IsNearer : ℕ → MasterStop → Master → Master → Type 0
IsNearer lines (stops.Step q) old new = left_of lines new < left_of lines old
IsNearer lines stops.Ended old new = ⊤
IsNearer lines (stops.Faulted f) old new = ⊤
IsNearer lines stops.Cut old new = ⊤
