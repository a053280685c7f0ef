-- The texts of small images, as the definitions give them.
use Rattle.std.specs.Prelude.{◌≡◌, refl, Some, None, [], ◌∷◌, List, codes}
use Rattle.std.specs.Fmt.{digits}
use Rattle.gm_value.specs.declared.values.VType.TheVariants as types
use Rattle.gm_value.specs.declared.reductions.Reduce.TheVariants as reduce
use Rattle.gm_image.specs.Term.{Field, Self, Message, Neighbour}
use Rattle.gm_image.specs.Program.{Program, Target, Fold, Put, Send, Each, Out, Step, Finish, Node}
use Rattle.gm_image.proofs.Samples.{spin, total, pair}
use Rattle.gm_image_text.specs.declared.heads.Version.TheVariants as version
use Rattle.gm_image_text.specs.Spelling.{text_in, image_text}
use Rattle.gm_image_text.specs.Tables.{heads, reductions, vertex_heads}
use Rattle.gm_image_text.specs.Lines.{words_of}
use Rattle.gm_image_text.specs.Reading.{vertex_row, expression_at}

spin_is_spelled : image_text spin ≡ codes "gm-image 2\nname spin\ninputs 0\noutputs 0\nresult I 0\nglobals 1\nI\nfields 0\nregisters 0\ncolumns 0\nkinds 0\nplaces 1\n3 21\nblocks 0\nmaster 4\nloop 3 < g 0 c I 6\nset 0 + 0 g 0 c I 1\nback 0\nend\n"
unfolding digits
spin_is_spelled = refl

total_is_spelled : image_text total ≡ codes "gm-image 2\nname total\ninputs 1\nnode I v 0\noutputs 1\nnode I s 1\nresult -\nglobals 0\nfields 2\nI\nI\nregisters 0\ncolumns 0\nkinds 1\n- I\nplaces 1\n2 32\nblocks 2\nblock 0\nbody 2\neach out 1\nsend 0 nb f 0\nblock 1\non 0 1\nfold sum 0 1 m 0\nbody 0\nmaster 3\nstep 0\nstep 1\nend\n"
unfolding digits
total_is_spelled = refl

pair_is_spelled : image_text pair ≡ codes "gm-image 2\nname pair\ninputs 0\noutputs 2\nnode I a 0\nnode I b 1\nresult -\nglobals 0\nfields 2\nI\nI\nregisters 0\ncolumns 0\nkinds 0\nplaces 0\nblocks 2\nblock 0\nbody 1\nset 0 c I 3\nblock 0\nbody 1\nset 1 f 0\nmaster 3\nstep 0\nstep 1\nend\n"
unfolding digits
pair_is_spelled = refl

-- the same lines under the first line of version 1
total_of_one : text_in version.One total ≡ codes "gm-image 1\nname total\ninputs 1\nnode I v 0\noutputs 1\nnode I s 1\nresult -\nglobals 0\nfields 2\nI\nI\nregisters 0\ncolumns 0\nkinds 1\n- I\nplaces 1\n2 32\nblocks 2\nblock 0\nbody 2\neach out 1\nsend 0 nb f 0\nblock 1\non 0 1\nfold sum 0 1 m 0\nbody 0\nmaster 3\nstep 0\nstep 1\nend\n"
unfolding digits
total_of_one = refl

-- the least value of the nodes before a node, and the node that it comes from, and of all nodes
abbrev least_and_node : List Target
least_and_node = record { slot = 0; term = Message 0 } ∷ record { slot = 1; term = Message 1 } ∷ []

abbrev nearest : Program
nearest = record {
  name = codes "nearest";
  inputs = record { holder = Node; vtype = types.I32; name = codes "v"; slot = 2 } ∷ [];
  outputs = [];
  result = Some (types.Node, 1);
  globals = types.I32 ∷ types.Node ∷ [];
  fields = types.I32 ∷ types.Node ∷ types.I32 ∷ [];
  registers = [];
  columns = [];
  kinds = record { combiner = None; values = types.I32 ∷ types.Node ∷ [] } ∷ [];
  places = record { line = 4; col = 9 } ∷ [];
  blocks =
      record {
        handlers = record { kind = 0; lines = Fold reduce.Min 0 least_and_node ∷ [] } ∷ [];
        body =
            Put reduce.Max 0 (record { slot = 0; term = Field 2 } ∷ record { slot = 1; term = Self } ∷ [])
            ∷ Each Out 1
            ∷ Send 0 Neighbour (Field 2 ∷ Self ∷ [])
            ∷ [];
      }
      ∷ [];
  master = Step 0 ∷ Step 0 ∷ Finish ∷ [];
}

nearest_is_spelled : image_text nearest ≡ codes "gm-image 2\nname nearest\ninputs 1\nnode I v 2\noutputs 0\nresult N 1\nglobals 2\nI\nN\nfields 3\nI\nN\nI\nregisters 0\ncolumns 0\nkinds 1\n- I N\nplaces 1\n4 9\nblocks 1\nblock 1\non 0 1\npick min 0 2 0 m 0 1 m 1\nbody 3\npickput max 0 2 0 f 2 1 id\neach out 1\nsend 0 nb f 2 id\nmaster 3\nstep 0\nstep 0\nend\n"
unfolding digits
nearest_is_spelled = refl

-- a line of several slots is read in version 2, where its count is theirs and its reduction takes the least or the greatest
pick_in_two : vertex_row version.Two (words_of (codes "pick min 0 2 0 m 0 1 m 1")) ≡ Some (Fold reduce.Min 0 least_and_node)
unfolding vertex_heads heads reductions expression_at
pick_in_two = refl

pick_in_one : vertex_row version.One (words_of (codes "pick min 0 2 0 m 0 1 m 1")) ≡ None
unfolding vertex_heads
pick_in_one = refl

pickput_in_one : vertex_row version.One (words_of (codes "pickput max 0 2 0 f 2 1 id")) ≡ None
unfolding vertex_heads
pickput_in_one = refl

pick_of_a_sum : vertex_row version.Two (words_of (codes "pick sum 0 2 0 m 0 1 m 1")) ≡ None
unfolding vertex_heads heads reductions expression_at
pick_of_a_sum = refl

pick_of_one_slot : vertex_row version.Two (words_of (codes "pick min 0 1 0 m 0")) ≡ None
unfolding vertex_heads heads reductions expression_at
pick_of_one_slot = refl

pick_of_too_few : vertex_row version.Two (words_of (codes "pick min 0 3 0 m 0 1 m 1")) ≡ None
unfolding vertex_heads heads reductions expression_at
pick_of_too_few = refl

fold_of_two_slots : vertex_row version.Two (words_of (codes "fold min 0 0 m 0 1 m 1")) ≡ None
unfolding vertex_heads heads reductions expression_at
fold_of_two_slots = refl
