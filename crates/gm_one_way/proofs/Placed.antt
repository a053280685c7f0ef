-- Where iterators are placed by what they iterate, inner loops read along as before: what they write is declared as deep as it was.
use Rattle.std.proofs.Common.{◌≡◌, ℕ, zero, Bool, true, false, cond, List, [], ◌∷◌, ◌++◌, refl, ap, subst, ◌∙◌, Some, None}
use Rattle.std.specs.Prelude.{◌&&◌, ◌||◌, nat_lt}
use Rattle.std.specs.List.{list_any}
use Rattle.gm_base.specs.declared.places.Place.{Place}
use Rattle.gm_ast.specs.Loops.{any, is_nodes}
use Rattle.gm_ast.specs.Ways.{Mention, mentions, reads_through, is_edge_read}
use Rattle.gm_ast.specs.declared.tree.Declaration.{Declaration}
use Rattle.gm_ast.specs.declared.tree.Head.{Head}
use Rattle.gm_ast.specs.declared.tree.Key.{Key}
use Rattle.gm_ast.specs.declared.tree.Target.{Target}
use Rattle.gm_ast.specs.declared.tree.Target.TheVariants as T
use Rattle.gm_ast.specs.Program.{Expr, Stmt, Then, Declare, Combine, Foreach, For, If, While, Do, Program}
use Rattle.gm_forms.specs.Forms.{depth_at, is_flat, is_flat_loop, is_outer_body}
use Rattle.gm_forms.specs.Ready.{Ready2}
use Rattle.gm_forms.specs.Sharing.{are_at_once, variables_of}
use Rattle.gm_forms.specs.Uses.{suits, uses_in, uses_of_head, uses_of}
use Rattle.gm_forms.proofs.Named.{both-true, all-append}
use Rattle.gm_dissect.specs.Loops.{each_loop}
use Rattle.gm_dissect.proofs.Kept.{Sound}
use Rattle.gm_parting.specs.Iterators.{all_inner_iterators, placed_from, with_iterators_placed}
use Rattle.gm_parting.proofs.Loops.{sound-of}
use Rattle.gm_parting.proofs.PlacedFacts.{FitAll, Fit}
use Rattle.gm_parting.proofs.PlacedLaws.{outer-fits}
use Rattle.gm_one_way.specs.Along.{marks, are_marked, goes_along, stands, parts_tell, told_of, AllAlong, EachAlong, ReadsAlong}
use Rattle.gm_one_way.proofs.Walks.{each-along}

and-same : (a b c d : Bool) → a ≡ c → b ≡ d → a && b ≡ c && d
and-same a b c d p q = ap (λ x. x && b) p ∙ ap (λ x. c && x) q

-- a loop that stays as it is
abbrev as_it_is : Key → Place → Head → Expr → Stmt → Stmt
as_it_is k at h test body = Foreach k at h test body

unchanged : (s : Stmt) → each_loop as_it_is s ≡ s
unchanged (Then a b) = ap (λ x. Then x (each_loop as_it_is b)) (unchanged a) ∙ ap (Then a) (unchanged b)
unchanged (Foreach k at hd test body) = refl
unchanged (For k at hd test body) = ap (For k at hd test) (unchanged body)
unchanged (If k c a b) = ap (λ x. If k c x (each_loop as_it_is b)) (unchanged a) ∙ ap (If k c a) (unchanged b)
unchanged (While k at c body) = ap (While k at c) (unchanged body)
unchanged (Do k at body c) = ap (λ s. Do k at s c) (unchanged body)
unchanged s = refl

-- dt: a table in which what a body writes is declared as deep as in ds
module _ (ds dt : List Declaration) (n : ℕ) where
  once-same : (ts : List Target) → FitAll ds dt ts → are_at_once dt n true ts ≡ are_at_once ds n true ts
  once-same [] f = refl
  once-same (T.Scalar x at ∷ ts) f = and-same (nat_lt 1 (depth_at dt x)) (are_at_once dt n true ts) (nat_lt 1 (depth_at ds x)) (are_at_once ds n true ts) (ap (λ d. nat_lt 1 d) f.0) (once-same ts f.1)
  once-same (T.Property x p at ∷ ts) f = refl

  marks-same : (reads : Mention → Bool) (marked : ℕ → Bool) (told : Bool) (s : Stmt) → Fit ds dt s → marks dt n reads marked told s ≡ marks ds n reads marked told s
  marks-same reads marked told (Then a b) f = and-same (marks dt n reads marked told a) (marks dt n reads marked told b) (marks ds n reads marked told a) (marks ds n reads marked told b) (marks-same reads marked told a f.0) (marks-same reads marked told b f.1)
  marks-same reads marked told (Combine k total r ts es) f =
      ap (λ o. are_marked ds n reads marked (told || (list_any marked (cond o (variables_of ts) []) || list_any (told_of ds n reads marked) es)) (cond o (variables_of ts) [])) (once-same ts f.0)
  marks-same reads marked told (If k c a b) f =
      let o = told || told_of ds n reads marked c in
      and-same (marks dt n reads marked o a) (marks dt n reads marked o b) (marks ds n reads marked o a) (marks ds n reads marked o b) (marks-same reads marked o a f.1) (marks-same reads marked o b f.2)
  marks-same reads marked told (Declare k x None) f = refl
  marks-same reads marked told (Declare k x (Some e)) f = refl
  marks-same reads marked told s f = refl

  along-same : (h : Head) (edges ends : ℕ → Bool) (end edge : Bool) (s : Stmt) → Fit ds dt s → goes_along dt n h edges ends end edge s ≡ goes_along ds n h edges ends end edge s
  along-same h edges ends end edge (Then a b) f =
      and-same (goes_along dt n h edges ends end edge a) (goes_along dt n h edges ends end edge b) (goes_along ds n h edges ends end edge a) (goes_along ds n h edges ends end edge b) (along-same h edges ends end edge a f.0) (along-same h edges ends end edge b f.1)
  along-same h edges ends end edge (Combine k total r ts es) f =
      ap (λ o. o || stands ds n h edges ends ts (end || parts_tell ds n h edges ends (reads_through h.iterator) ends ts es) (edge || parts_tell ds n h edges ends is_edge_read edges ts es)) (once-same ts f.0)
  along-same h edges ends end edge (If k c a b) f =
      let g = end || told_of ds n (reads_through h.iterator) ends c in
      let e = edge || told_of ds n is_edge_read edges c in
      and-same (goes_along dt n h edges ends g e a) (goes_along dt n h edges ends g e b) (goes_along ds n h edges ends g e a) (goes_along ds n h edges ends g e b) (along-same h edges ends g e a f.1) (along-same h edges ends g e b f.2)
  along-same h edges ends end edge s f = refl

  all-placed : (s : Stmt) → Fit ds dt s → AllAlong ds n s → AllAlong dt n s
  all-placed (Then a b) f e = (all-placed a f.0 e.0, all-placed b f.1 e.1)
  all-placed (If k c a b) f e = (all-placed a f.1 e.0, all-placed b f.2 e.1)
  all-placed (Foreach k at h test body) f e = record {
    edges = e.edges;
    ends = e.ends;
    edges_marked = marks-same is_edge_read e.edges false body f.3 ∙ e.edges_marked;
    ends_marked = marks-same (reads_through h.iterator) e.ends false body f.3 ∙ e.ends_marked;
    along = along-same h e.edges e.ends (any (reads_through h.iterator) (mentions test)) (any is_edge_read (mentions test)) body f.3 ∙ e.along;
  }
  all-placed s f e = tt

pub placed-keep : (p : Program) → Ready2 p → ReadsAlong p → ReadsAlong (with_iterators_placed p)
placed-keep p r e = subst (EachAlong dt) (unchanged p.body) (each-along ds dt p.result as_it_is loops p.body (sound-of p r) e)
  where
    ds : List Declaration
    ds = p.declarations

    inners : List ℕ
    inners = all_inner_iterators p.body

    dt : List Declaration
    dt = placed_from inners zero ds

    loops : (k : Key) (at : Place) (h : Head) (mask : Expr) (body : Stmt) → Sound ds p.result (Foreach k at h mask body) → AllAlong ds h.iterator body → AllAlong dt h.iterator body
    loops k at h mask body s e =
        let n = h.iterator in
        let named = all-append (suits ds) (uses_in mask) (uses_of body) (all-append (suits ds) (uses_of_head h) (uses_in mask ++ uses_of body) s.named).1 in
        let form = both-true (is_nodes h.domain) (is_flat_loop ds false n mask body) s.form in
        let flat = both-true (is_flat (n ∷ []) false mask) (is_outer_body ds false n body) form.1 in
        all-placed ds dt n body (outer-fits inners ds n body named.1 flat.1) e
