-- Parts of single statements, by what was made of their lines.
use Rattle.std.proofs.Common.{◌≡◌, ℕ, Bool, true, List, [], ◌∷◌, ◌++◌, map, refl, ap, ◌∙◌, sym}
use Rattle.std.specs.Prelude.{if◌then◌else◌}
use Rattle.gm_base.specs.declared.places.Place.{Place}
use Rattle.gm_value.specs.declared.reductions.Reduce.{Reduce}
use Rattle.gm_value.specs.declared.values.VType.{VType}
use Rattle.gm_value.specs.Numbers.{zero_of}
use Rattle.gm_ast.specs.declared.tree.Key.{Key}
use Rattle.gm_ast.specs.declared.tree.Sort.TheVariants as Sorts
use Rattle.gm_ast.specs.declared.tree.Target.{Target}
use Rattle.gm_ast.specs.Program.{Expr}
use Rattle.gm_image.specs.Program.{Block, Command, SetField, Step}
use Rattle.gm_image.specs.Term as M
use Rattle.gm_lowering.specs.Blocks.{body_block}
use Rattle.gm_lowering.specs.Lowered.{At, Frame, Part, declared_part, no_part}
use Rattle.gm_lowering.specs.Places.{Segment, segment, shown_places, spots_in_all}
use Rattle.gm_masters.specs.Parts.{combined_part, kept_commands}

pub map-both : {A B : Type 0} (f : A → B) (xs ys : List A) → map f (xs ++ ys) ≡ map f xs ++ map f ys
map-both f [] ys = refl
map-both f (x ∷ xs) ys = ap (λ z. f x ∷ z) (map-both f xs ys)

abbrev part_of : List Command → List Block → List Place → Part
part_of a b c = record { commands = a; blocks = b; places = c }

-- a property's first value
pub first_is : (w : Frame) (at : At) (t : VType) (v : ℕ) (x : Part) (b : Block) (commands : List Command) (blocks : List Block)
    → w.layout.is_kept v ≡ true
    → x ≡ no_part
    → b ≡ body_block (SetField (w.layout.field v) (M.Const (zero_of t)) ∷ [])
    → commands ≡ x.commands ++ (Step at.block ∷ [])
    → blocks ≡ x.blocks ++ (b ∷ [])
    → part_of commands blocks x.places ≡ declared_part w at Sorts.NodeProperty t v
first_is w at t v x b commands blocks kept nothing made stepped added =
    let step : List Command = Step at.block ∷ [] in
    let first : Block = body_block (SetField (w.layout.field v) (M.Const (zero_of t)) ∷ []) in
    ap (λ z. part_of z blocks x.places) stepped
    ∙ ap (λ z. part_of (x.commands ++ step) z x.places) added
    ∙ ap (λ y. part_of (y.commands ++ step) (y.blocks ++ (b ∷ [])) y.places) nothing
    ∙ ap (λ z. part_of step (z ∷ []) []) made
    ∙ sym (ap (λ (q : Bool). if◌then◌else◌ {A = Part} q (part_of step (first ∷ []) []) no_part) kept)

-- a reduction to scalars
pub combined_is : (w : Frame) (at : At) (k : Key) (r : Reduce) (ts : List Target) (es : List Expr) (g : Segment) (x : Part) (commands settings : List Command) (places : List Place)
    → g ≡ segment at.place (spots_in_all es k)
    → settings ≡ kept_commands w.layout g k r ts es
    → x ≡ no_part
    → commands ≡ x.commands ++ settings
    → places ≡ x.places ++ shown_places g
    → part_of commands x.blocks places ≡ combined_part w at k r ts es
combined_is w at k r ts es g x commands settings places placed kept nothing set shown =
    ap (λ z. part_of z x.blocks places) set
    ∙ ap (λ z. part_of (x.commands ++ settings) x.blocks z) shown
    ∙ ap (λ y. part_of (y.commands ++ settings) y.blocks (y.places ++ shown_places g)) nothing
    ∙ ap (λ z. part_of z [] (shown_places g)) kept
    ∙ ap (λ h. part_of (kept_commands w.layout h k r ts es) [] (shown_places h)) placed
