-- How a walker notes what a program's parts break, one after the other.
use Rattle.std.proofs.Common.{◌≡◌, ℕ, ◌-◌, List, [], ◌∷◌, ◌++◌, length, take, ap, sym, refl, ◌∙◌, arith, length-append, append_assoc, subst}
use Rattle.std.proofs.Math.Seq.{take-append_seam}
use Rattle.gm_base.specs.declared.rules.Refusal.{Refusal}
use Rattle.gm_base.specs.declared.places.Place.{Place}
use Rattle.gm_base.specs.Rules.{least_from}
use Rattle.gm_ast.specs.declared.tree.Declaration.{Declaration}
use Rattle.gm_ast.specs.Canonical as Canonical
use Rattle.gm_ast.specs.Canonical.{Around, within, sequential_only, not_inner}
use Rattle.gm_canon.specs.declared.loops.Code.{Code}
use Rattle.gm_canon.specs.declared.walks.Walker.{Walker}
use Rattle.gm_canon.specs.Around.{code_of, around_of, Notes, Enters, Leaves}
use Rattle.gm_canon.proofs.Leasts.{least_from-append}

-- two parts, of which the second is judged after the first
pub notes-both : {old mid new : Walker} (f g : Around → List Refusal)
    → Notes old mid (f (around_of old)) → Notes mid new (g (around_of mid)) → Notes old new (f (around_of old) ++ g (around_of old))
notes-both {old = old} {mid = mid} f g h k = record {
  least = k.least ∙ ap (λ (w : Around). least_from mid.least (g w)) h.same ∙ ap (λ l. least_from l (g (around_of old))) h.least
      ∙ sym (least_from-append old.least (f (around_of old)) (g (around_of old)));
  same = k.same ∙ h.same;
}

-- three parts
pub notes-three : {old one two new : Walker} (f g h : Around → List Refusal)
    → Notes old one (f (around_of old)) → Notes one two (g (around_of one)) → Notes two new (h (around_of two))
    → Notes old new (f (around_of old) ++ (g (around_of old) ++ h (around_of old)))
notes-three f g h x y z = notes-both f (λ w. g w ++ h w) x (notes-both g h y z)

-- a statement that stands in a sequential phase alone, and its parts
pub notes-outside : {old mid new : Walker} (at : Place) (f : Around → List Refusal)
    → Notes old mid (sequential_only (around_of old).loops at ++ not_inner (around_of old).loops at) → Notes mid new (f (around_of mid))
    → Notes old new (sequential_only (around_of old).loops at ++ (not_inner (around_of old).loops at ++ f (around_of old)))
notes-outside {old = old} {new = new} at f x y =
    subst (Notes old new) (append_assoc (sequential_only (around_of old).loops at) (not_inner (around_of old).loops at) (f (around_of old)))
    (notes-both (λ w. sequential_only w.loops at ++ not_inner w.loops at) f x y)

-- two pairs of parts
pub notes-pairs : {old mid new : Walker} (f g h k : Around → List Refusal)
    → Notes old mid (f (around_of old) ++ g (around_of old)) → Notes mid new (h (around_of mid) ++ k (around_of mid))
    → Notes old new (f (around_of old) ++ (g (around_of old) ++ (h (around_of old) ++ k (around_of old))))
notes-pairs {old = old} {new = new} f g h k x y =
    subst (Notes old new) (append_assoc (f (around_of old)) (g (around_of old)) (h (around_of old) ++ k (around_of old)))
    (notes-both (λ w. f w ++ g w) (λ w. h w ++ k w) x y)

-- all but the last of some items and one more
take-but_last : {A : Type 0} (xs : List A) (y : A) → take (length (xs ++ (y ∷ [])) - 1) (xs ++ (y ∷ [])) ≡ xs
take-but_last xs y =
    let n : length (xs ++ (y ∷ [])) - 1 ≡ length xs = omega (arith, length-append xs (y ∷ [])) in
    ap (λ (k : ℕ). take k (xs ++ (y ∷ []))) n ∙ take-append_seam xs (y ∷ [])

-- what stands around a part, from its fields
abbrev the_around : List Declaration → List Canonical.Loop → Around
the_around ds ls = record { declarations = ds; loops = ls }

around-same : (ds es : List Declaration) (ls ms : List Canonical.Loop) → ds ≡ es → ls ≡ ms → the_around ds ls ≡ the_around es ms
around-same ds es ls ms h k = ap (λ (x : List Declaration). the_around x ls) h ∙ ap (the_around es) k

-- a part in one more loop
pub notes-within : {old entered inner new : Walker} (c : Code) (x : ℕ) (f : Around → List Refusal)
    → Enters old entered c x → Notes entered inner (f (around_of entered)) → Leaves inner new → Notes old new (f (within (around_of old) (code_of c) x))
notes-within {old = old} {entered = entered} {inner = inner} c x f e h l =
    let is : around_of inner ≡ within (around_of old) (code_of c) x = h.same ∙ e.inside in
    record {
      least = l.least ∙ h.least ∙ ap (λ b. least_from b (f (around_of entered))) e.least ∙ ap (λ (w : Around). least_from old.least (f w)) e.inside;
      same = around-same _ _ _ _ (ap (λ d. d.now) l.declarations ∙ ap (λ (w : Around). w.declarations) is)
          (l.loops ∙ ap (λ (w : Around). take (length w.loops - 1) w.loops) is ∙ take-but_last (around_of old).loops (record { code = code_of c; iterator = x }));
    }

-- a walk over several parts: what is noted so far, with what the rest breaks, is what all break
pub record Walks (initial self : Walker) (all rest : Around → List Refusal) : Type 0 where
  pub least : least_from self.least (rest (around_of initial)) ≡ least_from initial.least (all (around_of initial))
  pub same : around_of self ≡ around_of initial

-- before the first part
pub walks-first : (w : Walker) (all : Around → List Refusal) → Walks w w all all
walks-first w all = record { least = refl; same = refl }

-- one part more
pub walks-next : {initial self new : Walker} (all f rest : Around → List Refusal)
    → Walks initial self all (λ w. f w ++ rest w) → Notes self new (f (around_of self)) → Walks initial new all rest
walks-next {initial = initial} {self = self} all f rest h n = record {
  least = ap (λ l. least_from l (rest (around_of initial))) (n.least ∙ ap (λ (w : Around). least_from self.least (f w)) h.same)
      ∙ sym (least_from-append self.least (f (around_of initial)) (rest (around_of initial))) ∙ h.least;
  same = n.same ∙ h.same;
}

-- after the last part
pub walks-end : {initial self : Walker} (all : Around → List Refusal) → Walks initial self all (λ w. []) → Notes initial self (all (around_of initial))
walks-end all h = record { least = h.least; same = h.same }
