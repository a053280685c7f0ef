-- Why a source or a file was not read to its end, as it is written.
use Rattle.std.specs.Prelude.{ℕ, List, codes}
use Rattle.gm_files.specs.declared.whole.ReadStop.{ReadStop}
use Rattle.gm_files.specs.declared.whole.ReadStop.TheVariants.{Failed, TooLong, NoMemory}
use Rattle.gm_files.specs.declared.whole_files.FileStop.{FileStop}
use Rattle.gm_files.specs.declared.whole_files.FileStop.TheVariants as stop

abbrev pub read_stop_text : ReadStop → List ℕ
read_stop_text Failed = codes "a read failed"
read_stop_text TooLong = codes "too long"
read_stop_text NoMemory = codes "out of memory"

abbrev pub file_stop_text : FileStop → List ℕ
file_stop_text stop.Absent = codes "there is no such file"
file_stop_text stop.Failed = codes "a read failed"
file_stop_text stop.TooLong = codes "too long"
file_stop_text stop.NoMemory = codes "out of memory"
