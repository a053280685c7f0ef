-- The definitions of joined steps on small images.
use Rattle.std.proofs.Common.{◌≡◌, ℕ, true, false, Some, None, [], ◌∷◌, refl}
use Rattle.std.specs.Prelude.{pos}
use Rattle.gm_value.specs.declared.values.VType.TheVariants as types
use Rattle.gm_value.specs.declared.values.Value.TheVariants as values
use Rattle.gm_value.specs.declared.reductions.Reduce.TheVariants as reduce
use Rattle.gm_value.specs.declared.operations.Op2.TheVariants as two
use Rattle.gm_model.specs.declared.outcomes.Outcome.TheVariants as outcomes
use Rattle.gm_image.specs.Term.{Term, Const, Global, Field, Register, Neighbour, Binary}
use Rattle.gm_image.specs.Program.{Block, Line, SetField, SetRegister, Put, Send, Each, Out, Step, Jump, Test, Finish}
use Rattle.gm_machine.specs.Machine.{block_at, machine}
use Rattle.gm_machine.proofs.Samples.{pair, total, ints, graph_of}
use Rattle.gm_merge_laws.specs.Joins.{are_joinable, leads_elsewhere, joined_block, Joinable, joined_image}

abbrev int : ℕ → Term
int n = Const (values.I32 (pos n))

-- the two steps of pair are joinable, and its run is one superstep then, with the same outcome
pair-joinable : Joinable pair 0 0 1
pair-joinable = record { first = refl; second = refl; alone = refl; blocks = refl }

pair-before : machine pair (graph_of (0 ∷ 1 ∷ []) [] []) [] 0
    ≡ record { outcome = outcomes.Done [] None (ints (pos 3 ∷ pos 3 ∷ []) ∷ ints (pos 3 ∷ pos 3 ∷ []) ∷ []) 0; supersteps = 2; messages = 0 }
pair-before = refl

pair-after : machine (joined_image pair 0 0 1) (graph_of (0 ∷ 1 ∷ []) [] []) [] 0
    ≡ record { outcome = outcomes.Done [] None (ints (pos 3 ∷ pos 3 ∷ []) ∷ ints (pos 3 ∷ pos 3 ∷ []) ∷ []) 0; supersteps = 1; messages = 0 }
pair-after = refl

pair-master : (joined_image pair 0 0 1).master ≡ Jump 1 ∷ Step 2 ∷ Finish ∷ []
pair-master = refl

-- those of total are not: the first sends. It takes two supersteps and three messages still
total-apart : are_joinable (block_at total 0) (block_at total 1) ≡ false
total-apart = refl

-- a block with a body alone
abbrev body : Line → Block
body l = record { handlers = []; body = l ∷ [] }

abbrev puts : ℕ → ℕ → Block
puts place slot = body (Put reduce.Sum place (record { slot = slot; term = int 1 } ∷ []))

-- a block that reads a global which the first puts is not joined, and one that reads another is
reads-put : are_joinable (puts 0 0) (body (SetField 0 (Global 0))) ≡ false
reads-put = refl

reads-other : are_joinable (puts 0 0) (body (SetField 0 (Global 1))) ≡ true
reads-other = refl

-- nor are two that put one global
put-by-both : are_joinable (puts 0 0) (puts 1 0) ≡ false
put-by-both = refl

put-apart : are_joinable (puts 0 0) (puts 1 1) ≡ true
put-apart = refl

-- nor where a place of the first comes behind one of the second, or is the same
abbrev adds : ℕ → Block
adds place = body (SetField 0 (Binary two.Add (Some place) (Field 0) (int 1)))

places-up : are_joinable (adds 0) (adds 1) ≡ true
places-up = refl

places-down : are_joinable (adds 1) (adds 0) ≡ false
places-down = refl

places-same : are_joinable (adds 1) (adds 1) ≡ false
places-same = refl

-- nor where the second sends and the first may fault
abbrev sends : Block
sends = record { handlers = []; body = Each Out 1 ∷ Send 0 Neighbour (Field 0 ∷ []) ∷ [] }

faults-before-sends : are_joinable (adds 0) sends ≡ false
faults-before-sends = refl

sets-before-sends : are_joinable (body (SetField 0 (int 1))) sends ≡ true
sets-before-sends = refl

-- a register that the first sets and the second reads is set to its zero between them, and no other is
abbrev uses : ℕ → Block
uses r = record { handlers = []; body = SetRegister r (int 5) ∷ SetField 0 (Register r) ∷ [] }

register-restarts : (joined_block (types.I32 ∷ types.I32 ∷ []) (uses 1) (uses 1)).body
    ≡ SetRegister 1 (int 5) ∷ SetField 0 (Register 1) ∷ SetRegister 1 (int 0) ∷ SetRegister 1 (int 5) ∷ SetField 0 (Register 1) ∷ []
register-restarts = refl

registers-apart : (joined_block (types.I32 ∷ types.I32 ∷ []) (uses 0) (uses 1)).body
    ≡ SetRegister 0 (int 5) ∷ SetField 0 (Register 0) ∷ SetRegister 1 (int 5) ∷ SetField 0 (Register 1) ∷ []
registers-apart = refl

-- a line that jumps to the second step keeps both
jumps-between : leads_elsewhere 1 (Test 1 (int 0)) ≡ false
jumps-between = refl
