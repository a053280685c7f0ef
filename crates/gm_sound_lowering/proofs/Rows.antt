-- Programs whose images are sound, and some in the last form of the passes whose images are not.
use Rattle.std.specs.Prelude.{map, zero, suc, false, ◌≡◌, ℕ, Bool, true, List, [], ◌∷◌, Some, refl, Option}
use Rattle.gm_image.specs.declared.rules.Broken.{Broken}
use Rattle.gm_image.specs.declared.rules.ImageRule.TheVariants.{I2, I8, I10}
use Rattle.gm_value.specs.declared.operations.Op2.TheVariants as two
use Rattle.gm_ast.specs.Program.{Program}
use Rattle.gm_forms.specs.Cut.{is_flipped}
use Rattle.gm_forms.specs.Forms.{is_levelled}
use Rattle.gm_forms.specs.Order.{is_ordered}
use Rattle.gm_forms.specs.Sharing.{is_race_free}
use Rattle.gm_forms.specs.Typing.{has_types}
use Rattle.gm_forms.specs.Uses.{is_named}
use Rattle.std.specs.List.{list_all, flat_map}
use Rattle.gm_image.specs.Rows.{rows}
use Rattle.gm_image.specs.Soundness.{keeps, first_broken}
use Rattle.gm_depth.specs.Depths.{all_within}
use Rattle.gm_image.specs.Parts.{depth, is_shallow, command_terms}
use Rattle.gm_image.specs.Term.{Term, Register}
use Rattle.gm_lowering.specs.Bodies.{replacing}
use Rattle.gm_lowering.specs.Lowered.{lowered}
use Rattle.gm_lowering.proofs.Samples.{sum, weigh, hops}
use Rattle.gm_lowering.proofs.MoreSamples.{home, random, picks, folds, bounds, caps, pairs, turns}
use Rattle.gm_sound_lowering.specs.Asked.{is_asked_phase}
use Rattle.gm_sound_lowering.specs.Entries.{has_few_entries}
use Rattle.gm_sound_lowering.specs.Laws.{is_shallow_row}
use Rattle.gm_sound_lowering.specs.Ready.{is_lowerable}
use Rattle.gm_sound_lowering.proofs.Samples.{int_casts, long_casts, node_tuples, local_node_tuples, flag_tuples, uneven_tuples, reads_folded, folds_twice, kept_tuple, checked_pick, copied_edges}

-- a program is in the last form, with all that is kept by the passes
abbrev facts : Program → List Bool
facts p = is_flipped p ∷ is_named p ∷ has_types p ∷ is_ordered p ∷ is_race_free p ∷ []

abbrev all_hold : List Bool
all_hold = true ∷ true ∷ true ∷ true ∷ true ∷ []

abbrev broken : Program → Option Broken
broken p = first_broken (lowered p)

abbrev by_types : ℕ → Option Broken
by_types line = Some (record { rule = I2; line = line })

-- all but types: a cast to the type that is there has none
abbrev but_types : List Bool
but_types = true ∷ true ∷ false ∷ true ∷ true ∷ []

int_casts_facts : facts int_casts ≡ but_types
int_casts_facts = refl

int_casts_broken : broken int_casts ≡ by_types 29
int_casts_broken = refl

long_casts_facts : facts long_casts ≡ but_types
long_casts_facts = refl

long_casts_broken : broken long_casts ≡ by_types 28
long_casts_broken = refl

node_tuples_facts : facts node_tuples ≡ all_hold
node_tuples_facts = refl

node_tuples_broken : broken node_tuples ≡ by_types 42
node_tuples_broken = refl

local_node_tuples_facts : facts local_node_tuples ≡ all_hold
local_node_tuples_facts = refl

local_node_tuples_broken : broken local_node_tuples ≡ by_types 44
local_node_tuples_broken = refl

flag_tuples_facts : facts flag_tuples ≡ all_hold
flag_tuples_facts = refl

flag_tuples_broken : broken flag_tuples ≡ by_types 43
flag_tuples_broken = refl

uneven_tuples_facts : facts uneven_tuples ≡ all_hold
uneven_tuples_facts = refl

uneven_tuples_broken : broken uneven_tuples ≡ by_types 44
uneven_tuples_broken = refl

-- a property of edges that is no input, as a copy of one would be, is a column too much
copied_edges_facts : facts copied_edges ≡ all_hold
copied_edges_facts = refl

copied_edges_broken : broken copied_edges ≡ Some (record { rule = I10; line = 10 })
copied_edges_broken = refl

-- ---- what is asked of programs

abbrev asks : Program → Bool
asks p = is_asked_phase p.declarations p.body

asked : map asks (sum ∷ weigh ∷ hops ∷ home ∷ random ∷ picks ∷ folds ∷ bounds ∷ caps ∷ pairs ∷ turns ∷ [])
    ≡ true ∷ true ∷ true ∷ true ∷ true ∷ true ∷ true ∷ true ∷ true ∷ true ∷ true ∷ []
asked = refl

refused : map asks (node_tuples ∷ local_node_tuples ∷ flag_tuples ∷ uneven_tuples ∷ []) ≡ false ∷ false ∷ false ∷ false ∷ []
refused = refl

-- the same of what passes do not give
lowerable : map is_lowerable (sum ∷ weigh ∷ hops ∷ home ∷ random ∷ picks ∷ folds ∷ bounds ∷ caps ∷ pairs ∷ turns ∷ [])
    ≡ true ∷ true ∷ true ∷ true ∷ true ∷ true ∷ true ∷ true ∷ true ∷ true ∷ true ∷ []
lowerable = refl

not_lowerable : map is_lowerable (node_tuples ∷ local_node_tuples ∷ flag_tuples ∷ uneven_tuples ∷ []) ≡ false ∷ false ∷ false ∷ false ∷ []
not_lowerable = refl

-- a tuple of more than 511 entries that is kept at once is compared by a term that is too deep
abbrev entries : ℕ → List (Term × Term)
entries zero = []
entries (suc n) = (Register n, Register n) ∷ entries n

long_tuple : is_shallow (replacing two.Lt (entries 511)) ≡ true
long_tuple = refl

too_long_tuple : is_shallow (replacing two.Lt (entries 512)) ≡ false
too_long_tuple = refl

-- ---- folds

-- what the rule of folds is shown of: without reductions in expressions and searches, with types, variables in the table as they are used, and loops that share what ends with them alone
abbrev folded : Program → List Bool
folded p = is_levelled p ∷ has_types p ∷ is_named p ∷ is_race_free p ∷ []

abbrev keeps_folds : Program → Bool
keeps_folds p = list_all (λ row. keeps (lowered p) row I8) (rows (lowered p))

folds_kept : map keeps_folds (sum ∷ weigh ∷ hops ∷ home ∷ random ∷ picks ∷ folds ∷ caps ∷ pairs ∷ [])
    ≡ true ∷ true ∷ true ∷ true ∷ true ∷ true ∷ true ∷ true ∷ true ∷ []
folds_kept = refl

-- loops that race break it, with all else
reads_folded_facts : folded reads_folded ≡ true ∷ true ∷ true ∷ false ∷ []
reads_folded_facts = refl

reads_folded_broken : broken reads_folded ≡ Some (record { rule = I8; line = 30 })
reads_folded_broken = refl

folds_twice_facts : folded folds_twice ≡ true ∷ true ∷ true ∷ false ∷ []
folds_twice_facts = refl

folds_twice_broken : broken folds_twice ≡ Some (record { rule = I8; line = 36 })
folds_twice_broken = refl

-- ---- depths

abbrev is_shallow_image : Program → Bool
is_shallow_image p = list_all is_shallow_row (rows (lowered p))

-- what the levels of a program and its tuples are, and whether its image is too deep
abbrev levels : ℕ → Program → List Bool
levels limit p = all_within limit p.body ∷ has_few_entries p ∷ is_shallow_image p ∷ []

all_shallow : map (levels 512) (sum ∷ weigh ∷ hops ∷ home ∷ random ∷ picks ∷ pairs ∷ turns ∷ [])
    ≡ (true ∷ true ∷ true ∷ []) ∷ (true ∷ true ∷ true ∷ []) ∷ (true ∷ true ∷ true ∷ []) ∷ (true ∷ true ∷ true ∷ []) ∷ (true ∷ true ∷ true ∷ []) ∷ (true ∷ true ∷ true ∷ []) ∷ (true ∷ true ∷ true ∷ []) ∷ (true ∷ true ∷ true ∷ []) ∷ []
all_shallow = refl

few_entries : levels 512 (kept_tuple 511) ≡ true ∷ true ∷ true ∷ []
few_entries = refl

too_many_entries : levels 512 (kept_tuple 512) ≡ true ∷ false ∷ false ∷ []
too_many_entries = refl

-- a variable that is checked, of one level, is kept at once by a term of three more
pick_levels : all_within 1 checked_pick.body ≡ true
pick_levels = refl

pick_depths : map depth (flat_map command_terms (lowered checked_pick).master) ≡ 4 ∷ []
pick_depths = refl
