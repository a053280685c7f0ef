-- What contracts see of a source and of a sink in memory.
use Rattle.std.specs.Prelude.{ℕ, ◌-◌, min, Bool, not, ◌&&◌, ◌||◌, nat_eq, List, ◌++◌, length, drop}
use Rattle.std.specs.List.{list_any}
use Rattle.gm_files.specs.Streams.{one_more}

-- bytes that are read in pieces; the calls are numbered from 1, and those with a number in `fails` fail
pub record Feed : Type 0 where
  pub left : List ℕ
  pub piece : ℕ
  pub fails : List ℕ
  pub calls : ℕ
  pub faults : ℕ

-- whether the next call fails
abbrev pub fails_next : List ℕ → ℕ → Bool
fails_next fails calls = list_any (nat_eq (one_more calls)) fails

-- how many bytes the next read takes into a buffer of some length
abbrev pub read_count : Feed → ℕ → ℕ
read_count s room = min (min s.piece room) (length s.left)

-- after a read that took k bytes
abbrev pub fed : Feed → ℕ → Feed
fed s k = record s { left = drop k s.left; calls = one_more s.calls }

-- after a read that failed
abbrev pub failed_feed : Feed → Feed
failed_feed s = record s { calls = one_more s.calls; faults = one_more s.faults }

-- bytes that were written in pieces, up to a number of bytes for which there is room
pub record Tray : Type 0 where
  pub taken : List ℕ
  pub piece : ℕ
  pub fails : List ℕ
  pub calls : ℕ
  pub faults : ℕ
  pub room : ℕ

-- how many of some bytes the next write takes
abbrev pub write_count : Tray → ℕ → ℕ
write_count s offered = min (min s.piece offered) (s.room - length s.taken)

-- whether the next write of so many bytes fails: it is told to, or no room is left for any of them
abbrev pub write_fails : Tray → ℕ → Bool
write_fails s offered = fails_next s.fails s.calls || (nat_eq (write_count s offered) 0 && not (nat_eq offered 0))

-- after a write that took these bytes
abbrev pub written : Tray → List ℕ → Tray
written s more = record s { taken = s.taken ++ more; calls = one_more s.calls }

-- after a write that failed
abbrev pub failed_tray : Tray → Tray
failed_tray s = record s { calls = one_more s.calls; faults = one_more s.faults }
