-- Programs whose loops are plain: a test of each loop tells that its supersteps are the loop, so the image has the program's outcome.
use Rattle.std.specs.Prelude.{◌≡◌, ℕ, nat_eq, Bool, true, false, not, ◌&&◌, ◌||◌, List, [], ◌∷◌, ◌++◌, length}
use Rattle.std.specs.List.{list_all, list_any}
use Rattle.gm_base.specs.declared.places.Place.{Place}
use Rattle.gm_value.specs.declared.reductions.Reduce.{Reduce}
use Rattle.gm_value.specs.declared.values.Value.{Value}
use Rattle.gm_model.specs.Graphs.{NumberedGraph, node_count}
use Rattle.gm_ast.specs.declared.tree.Domain.{Domain}
use Rattle.gm_ast.specs.declared.tree.Domain.TheVariants.{OutNbrs, InNbrs}
use Rattle.gm_ast.specs.declared.tree.Head.{Head}
use Rattle.gm_ast.specs.declared.tree.Key.{Key}
use Rattle.gm_ast.specs.declared.tree.Target.{Target}
use Rattle.gm_ast.specs.declared.tree.Target.TheVariants as T
use Rattle.gm_ast.specs.Program.{Program, Expr, Stmt, Then, Combine, Foreach, For, If, While, Do}
use Rattle.gm_forms.specs.Cut.{can_overflow}
use Rattle.gm_forms.specs.Typing.{keeps_tuples}
use Rattle.gm_semantics.specs.Levels.{numbers_from}
use Rattle.gm_semantics.specs.Outcomes.{mean}
use Rattle.gm_semantics.specs.Statements.{variable_at}
use Rattle.gm_typed_stores.specs.Laws.{IsWellTyped, FitsBelow}
use Rattle.gm_machine.specs.Machine.{machine}
use Rattle.gm_lowering.specs.Layouts.{Layout, layout, is_register}
use Rattle.gm_lowering.specs.Plans.{carried, is_here, Away, aways}
use Rattle.gm_lowering.specs.Places.{Spot, spot_lt, spot_of_total, spots_in}
use Rattle.gm_lowering.specs.Blocks.{reads_scalar}
use Rattle.gm_lowering.specs.Sites.{is_body, is_local, same_length}
use Rattle.gm_lowering.specs.OwnLoops.{are_any, own_finds, own_sets, own_gives, is_kept_property}
use Rattle.gm_lowering.specs.Phases.{own_spots}
use Rattle.gm_lowering.specs.OwnSends.{sending_gives}
use Rattle.gm_lowering.specs.ReceiverSends.{tells_sent}
use Rattle.gm_lowering.specs.SentBehind.{made_stands}
use Rattle.gm_lowering.specs.MessageLoops.{receiver_finds, sets_nothing, inner_gives}
use Rattle.gm_lowering.specs.Receiving.{inner_spots}
use Rattle.gm_lowering.specs.TwoSupersteps.{is_readable}
use Rattle.gm_lowering.specs.HomeTurns.{home_finds}
use Rattle.gm_lowering.specs.HomeLoops.{home_spots}
use Rattle.gm_lowering.specs.Sent.{sender_gives}
use Rattle.gm_lowering.specs.Lowered as L
use Rattle.gm_lowering.specs.Lowered.{lowered}
use Rattle.gm_lowering.specs.Made.{made, gives_apart}
use Rattle.gm_lowering_master.specs.Cells.{Setting, IsSetting}
use Rattle.gm_lowering_master.specs.Follows.{tells, is_followed, LoopsGo}
use Rattle.gm_lowering_master.specs.Going.{HasBodySpares, HasPhaseSpares, is_phase_target}
use Rattle.gm_lowering_master.specs.Whole.{has_result, HasInterface, HasEdgeColumns}

-- whether two spots stand apart in the order of faults, or show one place
abbrev pub same_place : Place → Place → Bool
same_place a b = nat_eq a.line b.line && nat_eq a.col b.col

abbrev pub shows_with : Spot → Spot → Bool
shows_with a b = spot_lt a b || (spot_lt b a || same_place a.shown b.shown)

abbrev pub all_show_one : List Spot → Bool
all_show_one [] = true
all_show_one (a ∷ rest) = list_all (shows_with a) rest && all_show_one rest

-- a range along edges or against them
abbrev pub is_neighbours : Domain → Bool
is_neighbours OutNbrs = true
is_neighbours InNbrs = true
is_neighbours _ = false

-- whether an expression reads no local of loops
abbrev pub reads_no_local : Layout → Expr → Bool
reads_no_local c e = list_all (λ x. not (is_local c x && reads_scalar x e)) (numbers_from 0 (length c.declarations))

-- whether a loop of own statements goes
abbrev pub own_goes : Layout → ℕ → Key → Expr → Stmt → Bool
own_goes c n k test body =
    not (is_register (variable_at c.declarations n)) && (own_finds c n test
    && (is_body c (own_finds c n) (own_sets c n) (own_gives c n (own_finds c n)) body
    && (all_show_one (own_spots c n k test body) && gives_apart c.declarations n body)))

-- whether two spots are one
abbrev pub is_same_spot : Spot → Spot → Bool
is_same_spot a b = not (spot_lt a b) && (not (spot_lt b a) && same_place a.shown b.shown)

-- whether the total of a reduction that is sent is among some spots, and none of them comes behind that of a Sum or a Product. No total of another reduction is out of range
abbrev pub is_spotted_last : List Spot → Away → Bool
is_spotted_last spots a =
    let z = spot_of_total a.total in
    list_any (is_same_spot z) spots && (not (can_overflow a.reduce) || list_all (λ s. not (spot_lt z s)) spots)

-- whether such a reduction goes to properties of a variable that have fields
abbrev pub is_sent_well : Layout → ℕ → List Spot → Away → Bool
is_sent_well c i spots a = are_any a.targets && (list_all (is_kept_property c i) a.targets && is_spotted_last spots a)

-- whether one does so through its first target's
abbrev pub is_sent_through : Layout → List Spot → Away → List Target → Bool
is_sent_through c spots a (T.Property x p at ∷ ts) = is_sent_well c x spots a
is_sent_through c spots a _ = false

-- whether a loop of own statements sends through node variables, and no spot comes behind the totals of Sums and Products that it sends
abbrev pub own_sending_goes : Layout → ℕ → Key → Expr → Stmt → Bool
own_sending_goes c n k test body =
    let spots = own_spots c n k test body in
    let sends = aways c.declarations n body in
    not (is_register (variable_at c.declarations n)) && (own_finds c n test
    && (is_body c (own_finds c n) (own_sets c n) (sending_gives c n (own_finds c n)) body
    && (all_show_one spots && (gives_apart c.declarations n body && (are_any sends && list_all (λ a. is_sent_through c spots a a.targets) sends)))))

-- whether two iterators are nested: no locals, and the inner one is of neighbours of the outer one
abbrev pub are_nested : Layout → ℕ → Head → Bool
are_nested c n h =
    not (is_register (variable_at c.declarations n)) && (not (is_register (variable_at c.declarations h.iterator))
    && (not (nat_eq h.iterator n) && (is_neighbours h.domain && nat_eq h.owner n)))

-- whether a loop with an inner one goes by messages
abbrev pub message_goes : Layout → ℕ → Key → Expr → Key → Head → Expr → Stmt → Bool
message_goes c n k mask j h test body =
    let loads = carried n test body in
    let found = receiver_finds c n h.iterator loads in
    not (is_here c.declarations n h test body) && (own_finds c n mask && (not (are_any (spots_in mask k)) && (list_all (is_readable c) loads
    && (found test && (is_body c found sets_nothing (inner_gives c h.iterator found) body && all_show_one (spots_in mask k ++ inner_spots c n h.iterator j test body))))))

-- whether it goes at the outer node
abbrev pub home_goes : Layout → ℕ → Key → Expr → Key → Head → Expr → Stmt → Bool
home_goes c n k mask j h test body =
    let found = home_finds c n h.iterator in
    is_here c.declarations n h test body && (own_finds c n mask && (reads_no_local c test
    && (found test && (is_body c found sets_nothing (inner_gives c n found) body && all_show_one (home_spots c n h.iterator k mask j test body)))))

-- whether a loop sends at the outer node, along its edges or through node variables, and no spot comes behind the totals of Sums and Products that it sends
abbrev pub sending_goes : Layout → ℕ → Key → Expr → Key → Head → Expr → Stmt → Bool
sending_goes c n k mask j h test body =
    let found = home_finds c n h.iterator in
    let spots = home_spots c n h.iterator k mask j test body in
    let sends = aways c.declarations n body in
    is_here c.declarations n h test body && (own_finds c n mask && (reads_no_local c test
    && (found test && (is_body c found sets_nothing (sender_gives c n h.iterator found) body
    && (all_show_one spots && (are_any sends && list_all (λ a. is_sent_through c spots a a.targets) sends))))))

-- the properties to which some reductions are sent, each with the statement
abbrev pub parts_of : ℕ → List Target → List (ℕ × ℕ)
parts_of k [] = []
parts_of k (T.Scalar x at ∷ ts) = parts_of k ts
parts_of k (T.Property x p at ∷ ts) = (p, k) ∷ parts_of k ts

abbrev pub sent_parts : List Away → List (ℕ × ℕ)
sent_parts [] = []
sent_parts (a ∷ rest) = parts_of a.total.key.statement a.targets ++ sent_parts rest

-- whether a loop goes by messages whose receivers send through node variables, behind what they reduce to the same properties themselves, and no spot comes behind the totals of Sums and Products that they send
abbrev pub receiver_sending_goes : Layout → ℕ → Key → Expr → Key → Head → Expr → Stmt → Bool
receiver_sending_goes c n k mask j h test body =
    let loads = carried n test body in
    let found = receiver_finds c n h.iterator loads in
    let spots = spots_in mask k ++ inner_spots c n h.iterator j test body in
    let sends = aways c.declarations h.iterator body in
    let out = sent_parts sends in
    not (is_here c.declarations n h test body) && (own_finds c n mask && (not (are_any (spots_in mask k)) && (list_all (is_readable c) loads
    && (found test && (is_body c found sets_nothing (sender_gives c n h.iterator found) body
    && (tells_sent c.declarations h.iterator out body && (list_all (made_stands out) (made c.declarations n true body)
    && (all_show_one spots && (are_any sends && list_all (λ a. is_sent_through c spots a a.targets) sends)))))))))

-- whether a loop over nodes is plain
abbrev pub loop_goes : Layout → ℕ → Key → Expr → Stmt → Bool
loop_goes c n k mask (Foreach j place h test body) =
    are_nested c n h && (gives_apart c.declarations n (Foreach j place h test body)
    && (message_goes c n k mask j h test body || (home_goes c n k mask j h test body || (sending_goes c n k mask j h test body || receiver_sending_goes c n k mask j h test body))))
loop_goes c n k test body = own_goes c n k test body || own_sending_goes c n k test body

-- whether a reduction that is done at once goes: by Min or Max, in scalars of the procedure, of values that the master list tells
abbrev pub pick_goes : Layout → Reduce → List Target → List Expr → Bool
pick_goes c r ts es =
    keeps_tuples r && (are_any ts && (list_all (is_phase_target c) ts && (same_length ts es && list_all (tells c) es)))

-- whether all loops of a sequential phase are, and what it reduces at once goes
abbrev pub is_plain : Layout → Stmt → Bool
is_plain c (Then a b) = is_plain c a && is_plain c b
is_plain c (Combine k total r ts es) = pick_goes c r ts es
is_plain c (Foreach k place h test body) = loop_goes c h.iterator k test body
is_plain c (For k place h test body) = is_plain c body
is_plain c (If k test a b) = is_plain c a && is_plain c b
is_plain c (While k place test body) = is_plain c body
is_plain c (Do k place body test) = is_plain c body
is_plain c _ = true

-- then its loops go, and what it reduces at once, where there are spare registers and globals for tuples
abbrev pub PlainLoopsGo : Type 0
PlainLoopsGo = (s : Setting) (st : Stmt) (at : L.At) → IsSetting s → HasBodySpares s st → HasPhaseSpares s st → is_plain s.frame.layout st ≡ true → LoopsGo s st at

-- the machine on the image of a program of plain loops has the program's outcome
abbrev pub PlainProgramsRun : Type 0
PlainProgramsRun =
    (p : Program) (g : NumberedGraph) (args : List Value) (bound : ℕ) → HasInterface p → IsWellTyped (node_count g) p → FitsBelow (node_count g) p g args → HasEdgeColumns p g
    → is_followed (layout p) (has_result p.result) p.body ≡ true → is_plain (layout p) p.body ≡ true
    → (machine (lowered p) g args bound).outcome ≡ mean p g args bound
