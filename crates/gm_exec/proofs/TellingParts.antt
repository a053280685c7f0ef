-- What observers may hold of what was read of an image and of its graph they may hold of the whole texts.
use Rattle.std.proofs.Common.{◌≡◌, ◌≤◌, ℕ, Bool, List, [], length, arith, refl}
use Rattle.std.specs.Prelude.{Ok}
use Rattle.gm_base.specs.declared.statuses.Status.TheVariants.{Done, BadInput, ReadFault}
use Rattle.gm_image.specs.Program.{Program}
use Rattle.gm_image_text.specs.ImageText.{most_bytes}
use Rattle.gm_machine.specs.Notes.{noted}
use Rattle.gm_observe.specs.declared.notes.Note.{Note}
use Rattle.gm_observe.specs.Audience.{IsToldInPart}
use Rattle.gm_words.specs.declared.jobs.Options.{Options}
use Rattle.gm_input.specs.Answers.{IsTextAnswer, bad_graph, good_graph, bad_argument, ran, format_of}
use Rattle.gm_input.specs.Outside.{Outside}
use Rattle.gm_input.specs.Roads.{Road, IsCodeRead, IsGraphRead, IsReply, no_code, bad_code, no_graph, over}
use Rattle.gm_input.proofs.Answering.{text_answer_front}
use Rattle.gm_input.proofs.Roading.{IsRightRoad, all_replied}
use Rattle.gm_exec.specs.Flaws.{StandsFor}
use Rattle.gm_exec.specs.Programs.{inputs_of, shape_of}
use Rattle.gm_exec.specs.Replies.{AreTold, both_read, most_image}
use Rattle.gm_exec.specs.Replies.{untold as untold_at_all}
use Rattle.gm_exec.specs.Runs.{AreToldOver, untold, in_part}
use Rattle.gm_exec.proofs.Fronts.{whole_stands}

-- what observers hold, as an answer over a graph text that says nothing
abbrev Holds : Program → List (List ℕ) → Options → List (List Note) → List (List Note) → List ℕ → Type 0
Holds p words options before after graph =
    IsTextAnswer (format_of options.format) (shape_of p) (inputs_of p) words (λ g args text status. IsToldInPart (noted p g args options.turns) before after) graph [] Done

done_not_bad : Done ≡ BadInput → ⊥
done_not_bad is = cc

done_not_fault : Done ≡ ReadFault → ⊥
done_not_fault is = cc

told_of_answer : (p : Program) (words : List (List ℕ)) (options : Options) (before after : List (List Note)) (graph : List ℕ) → Holds p words options before after graph
    → AreToldOver p words options graph before after
told_of_answer p words options before after graph (bad_graph said) = absurd (done_not_bad said.says.1)
told_of_answer p words options before after graph (good_graph g stands (bad_argument said)) = absurd (done_not_bad said.says.1)
told_of_answer p words options before after graph (good_graph g stands (ran args values part)) = in_part g stands args values part

-- the road of an image, on which nothing is said but what observers hold
abbrev told_road : List (List ℕ) → Options → List (List Note) → List (List Note) → Road
told_road words options before after = record {
  Code = Program;
  most = most_image;
  stands = λ whole p. StandsFor whole p;
  bad = λ whole text status. ⊥;
  over = λ p graph text status. Holds p words options before after graph;
}

told_right : (words : List (List ℕ)) (options : Options) (before after : List (List Note)) → IsRightRoad (told_road words options before after)
told_right words options before after = record {
  stands = λ whole p stands. whole_stands most_image whole p refl stands;
  bad = λ whole text status never. never;
  short = λ bytes p stands. let few : length bytes ≤ most_bytes = stands.short in omega (arith, few);
  over = λ p whole text status answer. text_answer_front options.format (shape_of p) (inputs_of p) words (λ g args said ends. IsToldInPart (noted p g args options.turns) before after) whole [] Done answer;
}

told_of_reply : (words : List (List ℕ)) (options : Options) (image graph : List ℕ) (b a : Outside) (before after : List (List Note))
    → IsReply (told_road words options before after) image graph b a [] Done → AreTold image graph words options b a before after
told_of_reply words options image graph b a before after (no_code said) = absurd (done_not_fault said.says.1)
told_of_reply words options image graph b a before after (bad_code whole code never) = absurd never
told_of_reply words options image graph b a before after (no_graph two m whole code p stands said) = absurd (done_not_fault said.says.1)
told_of_reply words options image graph b a before after (over whole text texts p stands holds) =
    both_read whole text texts p stands (told_of_answer p words options before after text holds)

-- both were read, and the image is that of what was read of its text
pub told-read : (words : List (List ℕ)) (options : Options) (image graph : List ℕ) (b m a : Outside) (bytes ahead : List ℕ) (ended : Bool) (read : List ℕ) (p : Program) (before after : List (List Note))
    → IsCodeRead most_image image graph b m bytes ahead ended → StandsFor bytes p → IsGraphRead image graph ahead ended m a read → AreToldOver p words options read before after
    → AreTold image graph words options b a before after
told-read words options image graph b m a bytes ahead ended read p before after code stands graph_read (untold same) = untold_at_all same
told-read words options image graph b m a bytes ahead ended read p before after code stands graph_read (in_part g of_text args values part) =
    told_of_reply words options image graph b a before after
    (all_replied (told_road words options before after) image graph b m a bytes ahead ended read p [] Done (told_right words options before after) code stands graph_read
    (good_graph g of_text (ran args values part)))
