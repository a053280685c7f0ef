-- The places in a tree, in the order of its text: of names but those of types, of operators, of the words of statements
-- and reductions, and of the closing braces of reductions. Behind the owner of a reduction's range comes the place right
-- behind it too, before which nothing of the rest stands.
use Rattle.std.specs.Prelude.{suc, Bool, true, false, ◌&&◌, if◌then◌else◌, List, [], ◌∷◌, ◌++◌, Option, Some, None}
use Rattle.gm_base.specs.declared.places.Place.{Place}
use Rattle.gm_base.specs.Places.{place_eq, place_lt}
use Rattle.gm_ast.specs.declared.surface.ReductionWord.{ReductionWord}
use Rattle.gm_ast.specs.declared.surface.ReductionWord.TheVariants as words
use Rattle.gm_ast.specs.Surface.{SurfaceName, SurfaceTarget, SurfaceExpr, Always, Number, Truth, Nil, Greatest, Least, Named, Member, Method, Paren, Prefixed, Infixed, Choose, Reduction, SurfaceStmt, Skip, Then, Declare, DeclareAs, Assign, Defer, Combine, Increment, Call, Loop, If, While, Do, InBfs, InBfsBoth, Return, SurfaceGroup, SurfaceProcedure}

-- whether a place stands before all of some
abbrev pub is_before : Place → List Place → Bool
is_before p [] = true
is_before p (q ∷ qs) = place_lt p q && is_before p qs

-- whether places ascend: each stands before all that come behind it
abbrev pub ascend : List Place → Bool
ascend [] = true
ascend (p ∷ ps) = is_before p ps && ascend ps

-- the places of several parts, one after another
abbrev pub places_of_each : {A : Type 0} → (A → List Place) → List A → List Place
places_of_each places [] = []
places_of_each places (x ∷ xs) = places x ++ places_of_each places xs

abbrev pub place_of_name : SurfaceName → List Place
place_of_name x = x.place ∷ []

abbrev pub place_of_option : Option SurfaceName → List Place
place_of_option None = []
place_of_option (Some x) = x.place ∷ []

-- whether a reduction may stand without braces
abbrev pub may_be_bare : ReductionWord → Bool
may_be_bare words.Sum = false
may_be_bare words.Product = false
may_be_bare words.Min = false
may_be_bare words.Max = false
may_be_bare words.Count = true
may_be_bare words.Exist = true
may_be_bare words.All = false

-- whether what stands in braces is absent
abbrev pub is_absent : SurfaceExpr → Bool
is_absent Always = true
is_absent _ = false

-- the closing brace of a reduction whose word stands there; one without braces ends at its word, which is named already
abbrev pub closing : ReductionWord → SurfaceExpr → Place → Place → List Place
closing word body at close = if (may_be_bare word && is_absent body) && place_eq at close then [] else close ∷ []

-- the next column of a line
abbrev pub right_behind : Place → Place
right_behind p = record { line = p.line; col = suc p.col }

abbrev pub places_in : SurfaceExpr → List Place
places_in Always = []
places_in (Number at n) = at ∷ []
places_in (Truth at b) = at ∷ []
places_in (Nil at) = at ∷ []
places_in (Greatest at) = at ∷ []
places_in (Least at) = at ∷ []
places_in (Named x) = x.place ∷ []
places_in (Member x p) = x.place ∷ (p.place ∷ [])
places_in (Method x m) = x.place ∷ (m.place ∷ [])
places_in (Paren at e) = at ∷ places_in e
places_in (Prefixed at op e) = at ∷ places_in e
places_in (Infixed at op a b) = places_in a ++ (at ∷ places_in b)
places_in (Choose at c a b) = places_in c ++ (at ∷ (places_in a ++ places_in b))
places_in (Reduction at word h filter body close) =
    at ∷ (h.iterator.place ∷ (h.owner.place ∷ (right_behind h.owner.place ∷ (places_in filter ++ (places_in body ++ closing word body at close)))))

abbrev pub places_of_target : SurfaceTarget → List Place
places_of_target t = t.owner.place ∷ place_of_option t.property

-- no text spells a call
abbrev pub places_of : SurfaceStmt → List Place
places_of Skip = []
places_of (Then a b) = places_of a ++ places_of b
places_of (Declare t xs) = places_of_each place_of_name xs
places_of (DeclareAs t x at e) = x.place ∷ (at ∷ places_in e)
places_of (Assign t at e) = places_of_target t ++ (at ∷ places_in e)
places_of (Defer t at e iterator) = places_of_target t ++ (at ∷ (places_in e ++ place_of_option iterator))
places_of (Combine ts r at es iterator) = places_of_each places_of_target ts ++ (at ∷ (places_of_each places_in es ++ place_of_option iterator))
places_of (Increment t at) = places_of_target t ++ (at ∷ [])
places_of (Call r f es xs) = []
places_of (Loop at word h filter body) = at ∷ (h.iterator.place ∷ (h.owner.place ∷ (places_in filter ++ places_of body)))
places_of (If at c a b) = at ∷ (places_in c ++ (places_of a ++ places_of b))
places_of (While at c body) = at ∷ (places_in c ++ places_of body)
places_of (Do at body c) = at ∷ (places_of body ++ places_in c)
places_of (InBfs at v g root filter body) = at ∷ (v.place ∷ (g.place ∷ (root.place ∷ (places_in filter ++ places_of body))))
places_of (InBfsBoth at v g root filter body reverse back_filter back) =
    at ∷ (v.place ∷ (g.place ∷ (root.place ∷ (places_in filter ++ (places_of body ++ (reverse ∷ (places_in back_filter ++ places_of back)))))))
places_of (Return at None) = at ∷ []
places_of (Return at (Some e)) = at ∷ places_in e

abbrev pub places_of_group : SurfaceGroup → List Place
places_of_group g = places_of_each place_of_name g.names

-- the places in a procedure, from its name on
abbrev pub places_of_procedure : SurfaceProcedure → List Place
places_of_procedure p = p.name.place ∷ (places_of_each places_of_group p.inputs ++ (places_of_each places_of_group p.outputs ++ places_of p.body))
