-- A test of all lines of a block, by where they stand.
use Rattle.std.proofs.Common.{◌≡◌, inl, inr, ℕ, suc, Bool, true, false, Some, None, List, [], ◌∷◌, ◌++◌, length, refl, ap, sym, subst}
use Rattle.std.specs.Prelude.{◌⊎◌, take}
use Rattle.std.specs.List.{list_all}
use Rattle.std.proofs.lemmas.Bool.{both_ways, and_from}
use Rattle.gm_value.specs.declared.values.Value.TheVariants.{Flag}
use Rattle.gm_forms.proofs.Named.{both-true}
use Rattle.gm_image.specs.Program.{Direction, Line, SetField, Fold, SetRegister, Put, Send, Skip, Each, Handler}
use Rattle.gm_image.specs.Rows.{Row, Plain, HandlerRow, LineRow, Site, outside, in_handlers, around_next, body_rows, handler_rows, handlers_rows, handled_lines, block_rows}
use Rattle.gm_image.specs.Term as M
use Rattle.gm_image.specs.Term.{Term}
use Rattle.gm_lowering.specs.Blocks.{body_block}
use Rattle.gm_lowering.specs.Bodies.{under}
use Rattle.gm_sound_lowering.proofs.Rowwise.{all-both}

-- whether a line is no each
abbrev pub is_no_each : Line → Bool
is_no_each (Each d n) = false
is_no_each l = true

-- where a line stands: by the lines of its each or of the handlers before it, those of its block before it, and those of its own list after it
abbrev pub At : Type 0
At = List Line → List Line → List Line → Site

abbrev pub flat_at : At
flat_at before earlier later = record { kind = None; around = outside; earlier = earlier; later = later }

abbrev pub each_at : Direction → List Line → At
each_at d all before earlier later = record { kind = None; around = record { each = Some d; left = suc (length later); lines = all; before = before }; earlier = earlier; later = later }

abbrev pub handler_at : ℕ → List Line → At
handler_at kind all before earlier later = record { kind = Some kind; around = in_handlers all earlier; earlier = earlier; later = later }

-- a test holds of each of some lines where it stands
abbrev pub LinesPass : (Row → Bool) → At → List Line → List Line → List Line → Type 0
LinesPass f at before earlier [] = Unit {0}
LinesPass f at before earlier (l ∷ ls) = (f (LineRow (at before earlier ls) l) ≡ true) × LinesPass f at (before ++ l ∷ []) (earlier ++ l ∷ []) ls

next-outside : (l : Line) (ls : List Line) → is_no_each l ≡ true → around_next outside l ls ≡ outside
next-outside (SetField g a) ls h = refl
next-outside (Fold r q ts) ls h = refl
next-outside (SetRegister r a) ls h = refl
next-outside (Put r q ts) ls h = refl
next-outside (Send k to vs) ls h = refl
next-outside (Skip n a) ls h = refl
next-outside (Each d n) ls h = absurd (both_ways false refl h)

-- lines outside of eaches
pub flat-rows : (f : Row → Bool) (before earlier ls : List Line) → list_all is_no_each ls ≡ true → LinesPass f flat_at before earlier ls → list_all f (body_rows earlier outside ls) ≡ true
flat-rows f before earlier [] h k = refl
flat-rows f before earlier (l ∷ ls) h k =
    let b = both-true (is_no_each l) (list_all is_no_each ls) h in
    and_from (f (LineRow (flat_at before earlier ls) l)) (list_all f (body_rows (earlier ++ l ∷ []) (around_next outside l ls) ls)) k.0
    (subst (λ a. list_all f (body_rows (earlier ++ l ∷ []) a ls) ≡ true) (sym (next-outside l ls b.0)) (flat-rows f (before ++ l ∷ []) (earlier ++ l ∷ []) ls b.1 k.1))

-- lines of an each, which are the last of their list
inner-rows : (f : Row → Bool) (d : Direction) (all before earlier ls : List Line) (l : Line) → LinesPass f (each_at d all) before earlier (l ∷ ls)
    → list_all f (body_rows earlier (record { each = Some d; left = suc (length ls); lines = all; before = before }) (l ∷ ls)) ≡ true
inner-rows f d all before earlier [] l k = and_from (f (LineRow (each_at d all before earlier []) l)) true k.0 refl
inner-rows f d all before earlier (m ∷ ls) l k =
    and_from (f (LineRow (each_at d all before earlier (m ∷ ls)) l)) _ k.0 (inner-rows f d all (before ++ l ∷ []) (earlier ++ l ∷ []) ls m k.1)

take-all : {A : Type 0} (xs : List A) → take (length xs) xs ≡ xs
take-all [] = refl
take-all (x ∷ xs) = ap (λ ys. x ∷ ys) (take-all xs)

-- an each that is the last of its list
pub each-rows : (f : Row → Bool) (d : Direction) (earlier ls : List Line) → f (LineRow (flat_at [] earlier ls) (Each d (length ls))) ≡ true
    → LinesPass f (each_at d ls) [] (earlier ++ Each d (length ls) ∷ []) ls → list_all f (body_rows earlier outside (Each d (length ls) ∷ ls)) ≡ true
each-rows f d earlier [] e k = and_from (f (LineRow (flat_at [] earlier []) (Each d 0))) true e refl
each-rows f d earlier (l ∷ ls) e k =
    and_from (f (LineRow (flat_at [] earlier (l ∷ ls)) (Each d (length (l ∷ ls))))) _ e
    (subst (λ all. list_all f (body_rows (earlier ++ Each d (length (l ∷ ls)) ∷ []) (record { each = Some d; left = suc (length ls); lines = all; before = [] }) (l ∷ ls)) ≡ true)
    (sym (take-all (l ∷ ls))) (inner-rows f d (l ∷ ls) [] (earlier ++ Each d (length (l ∷ ls)) ∷ []) ls l k))

pub handler-rows : (f : Row → Bool) (kind : ℕ) (all before earlier ls : List Line) → LinesPass f (handler_at kind all) before earlier ls → list_all f (handler_rows all kind earlier ls) ≡ true
handler-rows f kind all before earlier [] k = refl
handler-rows f kind all before earlier (l ∷ ls) k =
    and_from (f (LineRow (handler_at kind all before earlier ls) l)) (list_all f (handler_rows all kind (earlier ++ l ∷ []) ls)) k.0
    (handler-rows f kind all (before ++ l ∷ []) (earlier ++ l ∷ []) ls k.1)

-- a test holds of some handlers of a block and their lines
abbrev pub HandlersPass : (Row → Bool) → List Line → List Line → List Handler → List Handler → Type 0
HandlersPass f all earlier before [] = Unit {0}
HandlersPass f all earlier before (h ∷ hs) =
    (f (HandlerRow before h) ≡ true) × LinesPass f (handler_at h.kind all) [] earlier h.lines × HandlersPass f all (earlier ++ h.lines) (before ++ h ∷ []) hs

pub handlers-rows : (f : Row → Bool) (all earlier : List Line) (before hs : List Handler) → HandlersPass f all earlier before hs → list_all f (handlers_rows all earlier before hs) ≡ true
handlers-rows f all earlier before [] k = refl
handlers-rows f all earlier before (h ∷ hs) k =
    and_from (f (HandlerRow before h)) _ k.0
    (all-both f (handler_rows all h.kind earlier h.lines) (handlers_rows all (earlier ++ h.lines) (before ++ h ∷ []) hs) (handler-rows f h.kind all [] earlier h.lines k.1) (handlers-rows f all (earlier ++ h.lines) (before ++ h ∷ []) hs k.2))

-- the lines of a block with no handlers
pub body-rows : (f : Row → Bool) (ls : List Line) → f Plain ≡ true → list_all f (body_rows [] outside ls) ≡ true → list_all f (block_rows (body_block ls)) ≡ true
body-rows f ls e h = and_from (f Plain) _ e (and_from (f Plain) _ e h)

-- and of one with no body
pub taking-rows : (f : Row → Bool) (hs : List Handler) → f Plain ≡ true → HandlersPass f (handled_lines (record { handlers = hs; body = [] })) [] [] hs
    → list_all f (block_rows (record { handlers = hs; body = [] })) ≡ true
taking-rows f hs e h =
    let all = handled_lines (record { handlers = hs; body = [] }) in
    and_from (f Plain) _ e (all-both f (handlers_rows all [] [] hs) (Plain ∷ []) (handlers-rows f all [] [] hs h) (and_from (f Plain) true e refl))

-- lines under a condition: the lines alone, or behind a skip of all of them
pub under-cases : (t : Term) (ls : List Line) → (under t ls ≡ ls) ⊎ (under t ls ≡ Skip (length ls) t ∷ ls)
under-cases (M.Const (Flag true)) ls = inl refl
under-cases t ls = inr refl
