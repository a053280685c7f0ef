-- What is read, question by question.
use Rattle.std.proofs.Common.{◌≡◌, ℕ, false, ◌||◌, List, [], ◌∷◌, ◌++◌, refl, sym, ap, ◌∙◌}
use Rattle.gm_ast.specs.Ways.{Mention, Alone, Through, OfEdge}
use Rattle.gm_ast.specs.Loops.{any}
use Rattle.gm_push_pull.specs.declared.reads.Reads.{Reads}
use Rattle.gm_push_pull.specs.declared.locals.Locals.{Locals}
use Rattle.gm_push_pull.specs.Places.{is_by}
use Rattle.gm_push_pull.specs.Reads.{joined, nothing, own_reads}
use Rattle.gm_push_pull.specs.Tests.{Test, Neighbour, AnyEdge, EdgeBy, holds, passes_alone, passes}
use Rattle.gm_push_pull.specs.Locals.{held_by, held_so, noted, noted_all}
use Rattle.gm_push_pull.proofs.Ors.{or-assoc, or-nothing}
use Rattle.gm_push_pull.proofs.Firsts.{by-earlier, some-earlier}

-- what is read by two values
pub holds-joined : (t : Test) (a b : Reads) → holds (joined a b) t ≡ (holds a t || holds b t)
holds-joined Neighbour a b = refl
holds-joined AnyEdge a b = some-earlier a.edge b.edge
holds-joined (EdgeBy q) a b = by-earlier q a.edge b.edge

pub holds-nothing : (t : Test) → holds nothing t ≡ false
holds-nothing Neighbour = refl
holds-nothing AnyEdge = refl
holds-nothing (EdgeBy q) = refl

-- what a mention reads by itself
pub holds-own : (t : Test) (i : ℕ) (m : Mention) → holds (own_reads i m) t ≡ passes_alone i t m
holds-own Neighbour i m = refl
holds-own AnyEdge i (Alone x) = refl
holds-own AnyEdge i (Through x) = refl
holds-own AnyEdge i (OfEdge x at) = refl
holds-own (EdgeBy q) i (Alone x) = refl
holds-own (EdgeBy q) i (Through x) = refl
holds-own (EdgeBy q) i (OfEdge x at) = sym (or-nothing (is_by q at))

-- a mention of a variable alone reads nothing by itself
alone-false : (t : Test) (i x : ℕ) → passes_alone i t (Alone x) ≡ false
alone-false Neighbour i x = refl
alone-false AnyEdge i x = refl
alone-false (EdgeBy q) i x = refl

-- what is read with a mention added
holds-noted : (t : Test) (l : Locals) (r : Reads) (m : Mention) → holds (noted l r m) t ≡ (holds r t || passes l.iterator t (held_so l t) m)
holds-noted t l r (Alone x) = holds-joined t r (held_by l x) ∙ ap (λ b. holds r t || (b || held_so l t x)) (sym (alone-false t l.iterator x))
holds-noted t l r (Through x) = holds-joined t (joined r (own_reads l.iterator (Through x))) (held_by l x)
    ∙ ap (λ b. b || held_so l t x) (holds-joined t r (own_reads l.iterator (Through x)))
    ∙ ap (λ b. (holds r t || b) || held_so l t x) (holds-own t l.iterator (Through x))
    ∙ or-assoc (holds r t) (passes_alone l.iterator t (Through x)) (held_so l t x)
holds-noted t l r (OfEdge x at) = holds-joined t (joined r (own_reads l.iterator (OfEdge x at))) (held_by l x)
    ∙ ap (λ b. b || held_so l t x) (holds-joined t r (own_reads l.iterator (OfEdge x at)))
    ∙ ap (λ b. (holds r t || b) || held_so l t x) (holds-own t l.iterator (OfEdge x at))
    ∙ or-assoc (holds r t) (passes_alone l.iterator t (OfEdge x at)) (held_so l t x)

-- what is read with mentions added
pub holds-noted_all : (t : Test) (l : Locals) (r : Reads) (ms : List Mention) → holds (noted_all l r ms) t ≡ (holds r t || any (passes l.iterator t (held_so l t)) ms)
holds-noted_all t l r [] = sym (or-nothing (holds r t))
holds-noted_all t l r (m ∷ ms) = holds-noted_all t l (noted l r m) ms ∙ ap (λ b. b || any (passes l.iterator t (held_so l t)) ms) (holds-noted t l r m)
    ∙ or-assoc (holds r t) (passes l.iterator t (held_so l t) m) (any (passes l.iterator t (held_so l t)) ms)

-- mentions added in two parts
pub noted_all-append : (l : Locals) (r : Reads) (ms ns : List Mention) → noted_all l r (ms ++ ns) ≡ noted_all l (noted_all l r ms) ns
noted_all-append l r [] ns = refl
noted_all-append l r (m ∷ ms) ns = noted_all-append l (noted l r m) ms ns
