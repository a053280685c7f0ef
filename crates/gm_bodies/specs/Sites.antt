-- Sites and reductions of the code, seen as those of the definition.
use Rattle.std.specs.Prelude.{ℕ, suc, nat_eq, Bool, false, if◌then◌else◌, List, [], ◌∷◌, length, map, Option}
use Rattle.gm_base.specs.declared.places.Place.{Place}
use Rattle.gm_value.specs.declared.values.Value.{Value}
use Rattle.gm_value.specs.declared.values.Value.TheVariants.{Flag}
use Rattle.gm_ast.specs.declared.tree.Key.{Key}
use Rattle.gm_ast.specs.Program.{Expr, Stmt}
use Rattle.gm_ast.specs.Tree.{expr_of}
use Rattle.gm_ast.specs.Ways.{is_in}
use Rattle.gm_forms.specs.Typing.{type_at}
use Rattle.gm_image.specs.Term as M
use Rattle.gm_image.specs.Term.{Term}
use Rattle.gm_image.specs.Program.{Line, SetRegister}
use Rattle.gm_lowering.specs.Layouts.{Layout}
use Rattle.gm_lowering.specs.Terms.{term, term_or_zero}
use Rattle.gm_lowering.specs.Plans.{Way, way_of, away_by, aways}
use Rattle.gm_lowering.specs.Bodies as B
use Rattle.gm_lowering.specs.Bodies.{keeping, kept_lines, reduce_lines, set_line, with_types}
use Rattle.gm_bodies.specs.declared.bodies.Reduction.{Reduction}
use Rattle.gm_bodies.specs.declared.bodies.Site.{Site}
use Rattle.gm_bodies.specs.declared.keeps.Slot.{Slot}
use Rattle.gm_bodies.specs.declared.keeps.Slot.TheVariants as slots
use Rattle.gm_terms.specs.Environments.{env_of}
use Rattle.gm_layouts.specs.Where.{where_of}

-- a site
abbrev pub site_of : Site → B.Site
site_of s = record { layout = where_of s.env.now.layout.now; env = env_of s.env.now; node = s.node; iterators = s.iterators.now; at_once = s.at_once }

-- a line that sets a slot
abbrev pub line_at : Layout → Slot → Term → Line
line_at c (slots.Target t) a = set_line c t a
line_at c (slots.Spare i t) a = SetRegister (c.spare_register i t) a

abbrev pub line_by : Layout → Slot × Term → Line
line_by c p = line_at c p.0 p.1

-- whether a condition always holds
abbrev pub is_true_flag : Value → Bool
is_true_flag (Flag b) = b
is_true_flag _ = false

abbrev pub is_always : Term → Bool
is_always (M.Const v) = is_true_flag v
is_always _ = false

-- how many lines are skipped where the first way is not taken, by how many lines the two ways have
abbrev pub first_way : ℕ → ℕ → ℕ
first_way first other = if nat_eq other 0 then first else suc first

-- the values of a reduction
abbrev pub values_at : B.Site → Reduction → List Term
values_at s r = map (term s.env r.key) (map expr_of r.values.now)

-- the lines of a reduction in a way
abbrev pub reduced : B.Site → ℕ → Way → Reduction → List Line
reduced s kind w r = reduce_lines s kind w r.key r.total r.reduce r.targets.now (values_at s r)

abbrev pub reduced_here : B.Site → ℕ → Reduction → List Line
reduced_here s kind r = reduced s kind (way_of s.layout.declarations s.node r.targets.now) r

-- the lines of a reduction that is done at once
abbrev pub kept_at : B.Site → Reduction → List Line
kept_at s r = kept_lines (keeping s) r.reduce (with_types s.layout r.targets.now) (values_at s r)

-- how many kinds a reduction takes, and how many a body does
abbrev pub sent : B.Site → Reduction → ℕ
sent s r = length (away_by (way_of s.layout.declarations s.node r.targets.now) r.total r.reduce r.targets.now)

abbrev pub sends : B.Site → Stmt → ℕ
sends s body = length (aways s.layout.declarations s.node body)

-- the line of a declaration
abbrev pub declared : B.Site → Key → ℕ → Option Expr → List Line
declared s k x e = SetRegister (s.layout.register x) (term_or_zero s.env k (type_at s.layout.declarations x) e) ∷ []

-- the node of a property
abbrev pub owner_node : B.Site → Key → ℕ → Place → Term
owner_node s k x at = if is_in s.iterators x then s.env.scalar x else M.Live (s.env.place k at) (s.env.scalar x)
