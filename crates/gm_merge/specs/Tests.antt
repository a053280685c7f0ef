-- The code's tests of lines.
use Rattle.std.specs.Prelude.{ℕ, nat_eq, nat_le, Bool, true, false, not, ◌&&◌, List}
use Rattle.std.specs.List.{list_all, flat_map}
use Rattle.std.specs.HashSet.{contains}
use Rattle.gm_value.specs.declared.reductions.Reduce.{Reduce}
use Rattle.gm_value.specs.Reductions.{picks}
use Rattle.gm_image.specs.Term.{Term, Global}
use Rattle.gm_image.specs.Program.{Line, Fold, Put, Send, Handler}
use Rattle.gm_image.specs.Parts.{all_leaves, all_places, slots_of, line_terms}
use Rattle.gm_merge.specs.declared.tests.Test.{Test}
use Rattle.gm_merge.specs.declared.tests.Test.TheVariants.{TouchesNone, PlacesFrom, CannotFault, SendsNothing}

-- whether a test holds of a leaf
abbrev pub leaf_holds : Test → Term → Bool
leaf_holds (TouchesNone globals) (Global g) = not (contains nat_eq globals.now g)
leaf_holds test a = true

-- whether a test holds of a place
abbrev pub place_fits : Test → ℕ → Bool
place_fits (TouchesNone globals) place = true
place_fits (PlacesFrom bound) place = nat_le bound place
place_fits CannotFault place = false
place_fits SendsNothing place = true

-- whether a test holds of an expression
abbrev pub term_holds : Test → Term → Bool
term_holds (TouchesNone globals) a = all_leaves (leaf_holds (TouchesNone globals)) a
term_holds (PlacesFrom bound) a = all_places (place_fits (PlacesFrom bound)) a
term_holds CannotFault a = all_places (place_fits CannotFault) a
term_holds SendsNothing a = true

-- whether a test holds of a reduction of fields, of one of globals and of a send, but for the values
abbrev pub fold_holds : Test → Reduce → ℕ → Bool
fold_holds (TouchesNone globals) r place = true
fold_holds (PlacesFrom bound) r place = nat_le bound place
fold_holds CannotFault r place = picks r
fold_holds SendsNothing r place = true

abbrev pub put_holds : Test → Reduce → ℕ → List ℕ → Bool
put_holds (TouchesNone globals) r place slots = list_all (λ s. not (contains nat_eq globals.now s)) slots
put_holds (PlacesFrom bound) r place slots = nat_le bound place
put_holds CannotFault r place slots = picks r
put_holds SendsNothing r place slots = true

abbrev pub send_holds : Test → Bool
send_holds (TouchesNone globals) = true
send_holds (PlacesFrom bound) = true
send_holds CannotFault = true
send_holds SendsNothing = false

-- whether a test holds of a line, but for its expressions
abbrev pub own_holds : Test → Line → Bool
own_holds test (Fold r place ts) = fold_holds test r place
own_holds test (Put r place ts) = put_holds test r place (slots_of ts)
own_holds test (Send k to vs) = send_holds test
own_holds test l = true

-- whether a test holds of a line
abbrev pub line_holds : Test → Line → Bool
line_holds test l = own_holds test l && list_all (term_holds test) (line_terms l)

-- the lines of some handlers
abbrev pub lines_of : List Handler → List Line
lines_of hs = flat_map (λ h. h.lines) hs
