-- I6: `skip` and `each` stay within their lists.
use Rattle.std.specs.Prelude.{ℕ, zero, suc, nat_lt, nat_le, nat_eq, Bool, true, ◌&&◌, is_none, List, [], ◌∷◌, length, if◌then◌else◌}
use Rattle.gm_image.specs.Program.{Program, Line, Skip, Each}
use Rattle.gm_image.specs.Rows.{Row, LineRow, Site, left_after}

-- how many lines of an each are left after some lines of a list, where so many were left before
abbrev pub left_past : ℕ → ℕ → List Line → ℕ
left_past left zero ls = left
left_past left (suc n) [] = left
left_past left (suc n) (l ∷ ls) = left_past (left_after left l) n ls

-- whether a skip outside eaches ends within the list and in no each: what it skips of an each is all lines of it
abbrev pub skips_whole : ℕ → List Line → Bool
skips_whole n ls = nat_le n (length ls) && nat_eq (left_past 0 n ls) 0

-- whether a skip stays within its each, or within its list
abbrev pub skip_stays : Site → ℕ → Bool
skip_stays s n = if nat_eq s.around.left 0 then skips_whole n s.later else nat_lt n s.around.left

-- whether an each stands in no each and in no handler, and stays within its list
abbrev pub each_stays : Site → ℕ → Bool
each_stays s n = nat_eq s.around.left 0 && is_none s.kind && nat_le n (length s.later)

-- whether a line stays within its list
abbrev pub line_stays : Site → Line → Bool
line_stays s (Skip n a) = skip_stays s n
line_stays s (Each d n) = each_stays s n
line_stays s l = true

abbrev pub all_stay : Program → Row → Bool
all_stay p (LineRow s l) = line_stays s l
all_stay p row = true
