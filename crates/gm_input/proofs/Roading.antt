-- What is said along a road, by what was read and judged.
use Rattle.std.proofs.Common.{◌≡◌, ◌≤◌, ◌<◌, ◌+◌, ◌-◌, ◌∙◌, ℕ, suc, Bool, true, false, List, [], ◌∷◌, ◌++◌, Option, length, take, drop, min, refl, sym, ap, subst, arith, length-append}
use Rattle.std.specs.Prelude.{IsTrue, Some, None, option_map}
use Rattle.std.proofs.lemmas.List.{length-take, length-drop, take_all, drop_all, drop-drop}
use Rattle.gm_base.specs.declared.statuses.Status.{Status}
use Rattle.gm_files.specs.Streams.{Rises}
use Rattle.gm_input.specs.Fronts.{GaveAtLeast, GaveAtMost, GaveRest, IsFront, ReachesGraph, ReadsBoth, ReadsProgram, Tells, ahead_of, exhausted, farthest, graph_start, piece}
use Rattle.gm_input.specs.Names.{AreFront}
use Rattle.gm_input.specs.Outside.{Outside, KeepsFiles, IsUnread, input_fault, file_fault, file_absent}
use Rattle.gm_input.specs.Parts.{program_part, graph_part, IsParted, program_alone, with_graph, mark_last}
use Rattle.gm_input.specs.Texts.{standard_input}
use Rattle.gm_input.specs.Roads.{parted, apart, in_front, alone, IsCodeRead, front_read, whole_read, IsGraphRead, behind, named, IsReply, no_code, bad_code, no_graph, over, Road, SaysUnread, most_graph}
use Rattle.gm_input.proofs.Naming.{text_of_front}
use Rattle.gm_input.proofs.Parting.{is_parted}

-- what holds of a road: what is said of the front of a text is true of the text, and a text that stands for something has
-- fewer bytes than are read at most
pub record IsRightRoad (r : Road) : Type 0 where
  pub stands : (whole : List ℕ) (it : r.Code) → r.stands (take r.most whole) it → r.stands whole it
  pub bad : (whole text : List ℕ) (status : Status) → r.bad (take r.most whole) text status → r.bad whole text status
  pub short : (bytes : List ℕ) (it : r.Code) → r.stands bytes it → length bytes < r.most
  pub over : (it : r.Code) (whole text : List ℕ) (status : Status) → r.over it (take most_graph whole) text status → r.over it whole text status

-- nothing of files was read in two steps
files_kept : (b m a : Outside) → KeepsFiles b m → KeepsFiles m a → KeepsFiles b a
files_kept b m a f h = record { map = h.map ∙ f.map; quiet = h.quiet ∙ f.quiet; found = h.found ∙ f.found }

-- a text of whose front not all places are taken is no longer than that
whole_few : (most : ℕ) (whole bytes : List ℕ) → bytes ≡ take most whole → length bytes < most → length whole ≤ most
whole_few most whole bytes e few =
    let size : length bytes ≡ min most (length whole) = ap length e ∙ length-take most whole in
    omega (arith, size, few)

-- how far an input was read for its program
program_reached : (left after : Option (List ℕ)) (most : ℕ) (bytes ahead : List ℕ) (ended : Bool) → (f : IsFront left after most bytes ahead ended) → GaveAtMost left after (farthest (length bytes))
    → ReachesGraph most left after → ReadsProgram most left after f.text
program_reached None after most bytes ahead ended f gave far = far
program_reached (Some left) after most bytes ahead ended f gave far =
    let same : bytes ≡ take most (program_part left) = f.program_read ∙ ap (λ (xs : List ℕ). take most (program_part xs)) f.told in
    let size : length bytes ≡ min most (length (program_part left)) = ap length same ∙ length-take most (program_part left) in
    (f.told, (far, (gave.0, omega (arith, gave.1, size), gave.2)))

-- the text is bad, and nothing was read behind it
pub bad_replied : (r : Road) (code graph : List ℕ) (b a : Outside) (bytes ahead : List ℕ) (ended : Bool) (text : List ℕ) (status : Status)
    → IsRightRoad r → IsCodeRead r.most code graph b a bytes ahead ended → r.bad bytes text status → IsReply r code graph b a text status
bad_replied r code graph b a bytes ahead ended text status law (front_read is also f gave far end quiet files) bad =
    bad_code (program_part f.text) (in_front is also f.text (program_reached b.left a.left r.most bytes ahead ended f gave far) refl quiet files)
    (law.bad (program_part f.text) text status (subst (λ (x : List ℕ). r.bad x text status) f.program_read bad))
bad_replied r code graph b a bytes ahead ended text status law (whole_read two front) bad =
    let w = text_of_front r.most code b a bytes front in
    bad_code w.0 (alone two w.1.0) (law.bad w.0 text status (subst (λ (x : List ℕ). r.bad x text status) w.1.1 bad))

-- the graph behind it was not read: that is said of the one input
shared_unread : (code graph : List ℕ) (b m a : Outside) (line : List ℕ) → code ≡ standard_input → graph ≡ standard_input → m.input_faults ≡ b.input_faults → KeepsFiles b m
    → IsUnread graph m a line → IsUnread code b a line
shared_unread code graph b m a line is also quiet files (input_fault h rises more e) =
    input_fault is (subst (λ (n : ℕ). Rises n a.input_faults) quiet rises) (files_kept b m a files more) (e ∙ rw (is, also) refl)
shared_unread code graph b m a line is also quiet files (file_fault h input rises same e) = absurd (h also)
shared_unread code graph b m a line is also quiet files (file_absent h input same lacks rises e) = absurd (h also)

pub unread_replied : (r : Road) (code graph : List ℕ) (b m a : Outside) (bytes ahead : List ℕ) (ended : Bool) (it : r.Code) (text : List ℕ) (status : Status)
    → IsRightRoad r → IsCodeRead r.most code graph b m bytes ahead ended → r.stands bytes it → SaysUnread graph m a text status → IsReply r code graph b a text status
unread_replied r code graph b m a bytes ahead ended it text status law (front_read is also f gave far end quiet files) stands said =
    no_code (record { line = said.line; unread = shared_unread code graph b m a said.line is also quiet files said.unread; says = said.says })
unread_replied r code graph b m a bytes ahead ended it text status law (whole_read two front) stands said =
    let w = text_of_front r.most code b m bytes front in
    no_graph two m w.0 w.1.0 it (law.stands w.0 it (subst (λ (x : List ℕ). r.stands x it) w.1.1 stands)) said

-- ---- all was read

-- the two parts of a text are no longer than the text
parts_few : (text program graph : List ℕ) → IsParted text program graph → length program + length graph ≤ length text
parts_few text program graph (program_alone is none) =
    let size : length text ≡ length program = ap length is in
    let empty : length graph ≡ 0 = ap length none in
    omega (arith, size, empty)
parts_few text program graph (with_graph line mark is) =
    let size : length text ≡ length (program ++ line) + suc (length graph) = ap length is ∙ length-append (program ++ line) (10 ∷ graph) in
    let front : length (program ++ line) ≡ length program + length line = length-append program line in
    omega (arith, size, front)
parts_few text program graph (mark_last line mark is none) =
    let size : length text ≡ length program + length line = ap length is ∙ length-append program line in
    let empty : length graph ≡ 0 = ap length none in
    omega (arith, size, empty)

-- where it was read on behind what was read ahead
read_on : (left ahead : List ℕ) (k k' j j' most : ℕ) (last : Option (List ℕ)) → length (program_part left) + length (graph_part left) ≤ length left
    → length (graph_part left) ≡ length ahead + (length left - k) → k ≤ length left → k ≤ k' → k' ≤ farthest (length (program_part left)) → piece + 3 ≤ most
    → last ≡ Some (drop j (drop k left)) → j ≤ length left - k → min (length left - k) (most - length ahead) ≤ j
    → last ≡ Some (drop j' (drop k left)) → j' ≤ (most - length ahead) + piece
    → GaveAtLeast (min (length left) (graph_start left + most)) left last × GaveAtMost (Some left) last (graph_start left + most + piece)
read_on left ahead k k' j j' most last parts graph within further far large is few least also near = (
  (k + j, omega (arith, parts, graph, within, few, least), omega (arith, within, few), is ∙ ap Some (drop-drop j k left)),
  (k + j', omega (arith, parts, graph, within, further, far, large, near), also ∙ ap Some (drop-drop j' k left)),
)

some_same : (x y : List ℕ) → Some x ≡ Some y → x ≡ y
some_same x y e = cc

-- one count of the bytes that were read is at most another
counts_agree : (left : List ℕ) (k k' : ℕ) (after : Option (List ℕ)) → after ≡ Some (drop k left) → after ≡ Some (drop k' left) → k ≤ length left → k ≤ k'
counts_agree left k k' after is also within =
    let same : drop k left ≡ drop k' left = some_same (drop k left) (drop k' left) (sym is ∙ also) in
    let one : length (drop k left) ≡ length left - k = length-drop k left in
    let two : length (drop k' left) ≡ length left - k' = length-drop k' left in
    let sizes : length (drop k left) ≡ length (drop k' left) = ap length same in
    omega (arith, one, two, sizes, within)

-- how far the whole input was read
both_ended : (left : List ℕ) (after last : Option (List ℕ)) (most : ℕ) → length (program_part left) + length (graph_part left) ≤ length left → piece + 3 ≤ most
    → after ≡ Some [] → GaveAtMost (Some left) after (farthest (length (program_part left))) → last ≡ after
    → GaveAtLeast (min (length left) (graph_start left + most)) left last × GaveAtMost (Some left) last (graph_start left + most + piece)
both_ended left after last most parts large is gave same =
    let none : drop (length left) left ≡ [] = drop_all (length left) left (omega arith) in
    let all : last ≡ Some (drop (length left) left) = same ∙ is ∙ ap Some (sym none) in
    let rest : [] ≡ drop gave.0 left = some_same [] (drop gave.0 left) (sym is ∙ gave.2) in
    let size : 0 ≡ length left - gave.0 = ap length rest ∙ length-drop gave.0 left in
    ((length left, omega arith, omega arith, all), (length left, omega (arith, parts, large, size, gave.1), all))

both_on : (left : List ℕ) (after last : Option (List ℕ)) (most k : ℕ) (ahead : List ℕ) → length (program_part left) + length (graph_part left) ≤ length left → piece + 3 ≤ most
    → after ≡ Some (drop k left) → k ≤ length left → GaveAtMost (Some left) after (farthest (length (program_part left)))
    → ahead ++ drop k left ≡ graph_part left → GaveRest most ahead false after last
    → GaveAtLeast (min (length left) (graph_start left + most)) left last × GaveAtMost (Some left) last (graph_start left + most + piece)
both_on left after last most k ahead parts large is within gave graph rest =
    let r : GaveRest most ahead false (Some (drop k left)) last = rw is at rest in
    let size : length (drop k left) ≡ length left - k = length-drop k left in
    let tail : length (graph_part left) ≡ length ahead + (length left - k) = sym (ap length graph) ∙ length-append ahead (drop k left) ∙ ap (λ (n : ℕ). length ahead + n) size in
    let further : k ≤ gave.0 = counts_agree left k gave.0 after is gave.2 within in
    read_on left ahead k gave.0 r.0.0 r.1.0 most last parts tail within further gave.1 large r.0.3 (omega (arith, r.0.2, size)) (rw size at r.0.1) r.1.2 r.1.1

-- the whole input
both_read : (left after last : Option (List ℕ)) (most far_most : ℕ) (text ahead : List ℕ) (ended : Bool) → piece + 3 ≤ most → Tells left text → ReachesGraph far_most left after
    → GaveAtMost left after (farthest (length (program_part text))) → Tells (ahead_of ahead ended after) (graph_part text) → (IsTrue ended → after ≡ exhausted left)
    → GaveRest most ahead ended after last → ReadsBoth most left last text
both_read None after last most far_most text ahead true large tells far gave graph end rest = rest ∙ far
both_read None after last most far_most text ahead false large tells far gave graph end rest =
    let r : GaveRest most ahead false None last = rw far at rest in
    r
both_read (Some left) after last most far_most text ahead true large tells far gave graph end rest =
    let parts : length (program_part left) + length (graph_part left) ≤ length left = parts_few left (program_part left) (graph_part left) (is_parted true left) in
    (tells, both_ended left after last most parts large (end refl) (rw tells at gave) rest)
both_read (Some left) after last most far_most text ahead false large tells far gave graph end rest =
    let parts : length (program_part left) + length (graph_part left) ≤ length left = parts_few left (program_part left) (graph_part left) (is_parted true left) in
    let told : Tells (ahead_of ahead false (Some (drop far.0 left))) (graph_part text) = rw far.3 at graph in
    let same : ahead ++ drop far.0 left ≡ graph_part left = sym told ∙ ap graph_part tells in
    (tells, both_on left after last most far.0 ahead parts large far.3 far.2 (rw tells at gave) same rest)

-- the graph of an input, of which something was read
graph_of_input : (left after : Option (List ℕ)) (most far_most : ℕ) (text ahead read : List ℕ) (ended : Bool) → Tells left text → ReachesGraph far_most left after
    → Tells (ahead_of ahead ended after) (graph_part text) → AreFront (ahead_of ahead ended after) read most
    → (whole : List ℕ) × (Tells (option_map graph_part left) whole × (read ≡ take most whole))
graph_of_input None after most far_most text ahead read ended tells far graph front =
    let few : AreFront (ahead_of ahead ended None) read most = rw far at front in
    (read, (tt, sym (take_all most read few)))
graph_of_input (Some left) after most far_most text ahead read ended tells far graph front =
    let told : Tells (ahead_of ahead ended (Some (drop far.0 left))) (graph_part text) = rw far.3 at graph in
    let is : AreFront (ahead_of ahead ended (Some (drop far.0 left))) read most = rw far.3 at front in
    (graph_part left, (refl, is ∙ ap (take most) (sym told ∙ ap graph_part tells)))

pub all_replied : (r : Road) (code graph : List ℕ) (b m a : Outside) (bytes ahead : List ℕ) (ended : Bool) (read : List ℕ) (it : r.Code) (text : List ℕ) (status : Status)
    → IsRightRoad r → IsCodeRead r.most code graph b m bytes ahead ended → r.stands bytes it → IsGraphRead code graph ahead ended m a read → r.over it read text status
    → IsReply r code graph b a text status
all_replied r code graph b m a bytes ahead ended read it text status law (front_read is also f gave far end quiet files) stands (behind is2 also2 front rest quiet2 files2) said =
    let left : Tells (ahead_of ahead ended m.left) (graph_part f.text) = f.graph_left (law.short bytes it stands) in
    let w = graph_of_input b.left m.left most_graph r.most f.text ahead read ended f.told far left front in
    let same : bytes ≡ program_part f.text = f.program_read ∙ take_all r.most (program_part f.text) (whole_few r.most (program_part f.text) bytes f.program_read (law.short bytes it stands)) in
    let near : GaveAtMost b.left m.left (farthest (length (program_part f.text))) = subst (λ (x : List ℕ). GaveAtMost b.left m.left (farthest (length x))) same gave in
    over (program_part f.text) w.0
    (parted is also f.text (both_read b.left m.left a.left most_graph r.most f.text ahead ended (omega arith) f.told far near left end rest) refl w.1.0 (quiet2 ∙ quiet) (files_kept b m a files files2))
    it (subst (λ (x : List ℕ). r.stands x it) same stands) (law.over it w.0 text status (subst (λ (x : List ℕ). r.over it x text status) w.1.1 said))
all_replied r code graph b m a bytes ahead ended read it text status law (front_read is also f gave far end quiet files) stands (named two front) said = absurd (two is also)
all_replied r code graph b m a bytes ahead ended read it text status law (whole_read two front) stands (behind is also front2 rest quiet files) said = absurd (two is also)
all_replied r code graph b m a bytes ahead ended read it text status law (whole_read two front) stands (named two2 front2) said =
    let w = text_of_front r.most code b m bytes front in
    let t = text_of_front most_graph graph m a read front2 in
    over w.0 t.0 (apart two m w.1.0 t.1.0) it (law.stands w.0 it (subst (λ (x : List ℕ). r.stands x it) w.1.1 stands))
    (law.over it t.0 text status (subst (λ (x : List ℕ). r.over it x text status) t.1.1 said))
