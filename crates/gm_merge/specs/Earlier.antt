-- What is kept of the first of two blocks.
use Rattle.std.specs.Prelude.{ℕ, nat_eq, ◌≡◌, List}
use Rattle.std.specs.List.{list_all}
use Rattle.std.specs.HashSet.{contains}
use Rattle.gm_image.specs.Program.{Line}
use Rattle.gm_image.specs.Parts.{is_among}
use Rattle.gm_merge_laws.specs.Joins.{sends_nothing, cannot_fault, put_globals}
use Rattle.gm_merge.specs.declared.joinable.Earlier.{Earlier}
use Rattle.gm_merge.specs.Bounds.{lines_bound}

-- what is kept shows lines: the globals that they put, the least number above every place, whether none sends, and whether none can fault
pub record Shows (e : Earlier) (ls : List Line) : Type 0 where
  pub puts : (n : ℕ) → contains nat_eq e.puts n ≡ is_among n (put_globals ls)
  pub bound : e.bound ≡ lines_bound 0 ls
  pub silent : e.is_silent ≡ list_all sends_nothing ls
  pub calm : e.is_calm ≡ list_all cannot_fault ls
