-- Searches as loops over levels.
use Rattle.std.proofs.Common.{ℕ, suc, Bool, true, false, cond, List, [], ◌∷◌, map, Option, Some, None}
use Rattle.std.specs.Prelude.{◌&&◌, option_map}
use Rattle.gm_base.specs.declared.places.Place.{Place}
use Rattle.gm_ast.specs.declared.tree.Domain.{Domain}
use Rattle.gm_ast.specs.declared.tree.Domain.TheVariants.{Nodes, OutNbrs, InNbrs, UpNbrs, DownNbrs}
use Rattle.gm_ast.specs.declared.tree.Head.{Head}
use Rattle.gm_ast.specs.declared.tree.Key.{Key}
use Rattle.gm_ast.specs.declared.tree.Target.{Target}
use Rattle.gm_ast.specs.Program.{Expr, Both, Unary, Binary, Either, Choose, Folded, Stmt, Skip, Then, Declare, Assign, Combine, Foreach, For, If, While, Do, InBfs, InBfsBoth}
use Rattle.gm_bfs.specs.declared.fresh.Fresh.{Fresh}
use Rattle.gm_bfs.specs.declared.fresh.Site.{Site}
use Rattle.gm_bfs.specs.Copies.{copied, asks_up, asks_down, reading, inner_reading}
use Rattle.gm_bfs.specs.Searches.{over_nodes, at_node, begin, next_level, level_before, reach, copies_from, unless_empty, copy, is_always, conjunction, is_on, ranged, inner_loop, by_levels, is_idle, is_safe, visit, where_asked, first_where, forward, backward, site_of}
use Rattle.gm_bfs.specs.Levelled.{searches_out}
use Rattle.gm_preparable.proofs.Standing.{Inside, MayBeInside, AreInside, Body, Bodies, sequence-body, Phase}

-- ---- bodies by levels

module _ (goes : List Target → Type 0) (inner : ℕ → Type 0) (f : Fresh) (marks : List Bool) where
  module _ (w : ℕ) where
    reading-inside : (e : Expr) → Inside inner e → Inside inner (reading f marks w e)
    reading-inside (Unary op at e) h = reading-inside e h
    reading-inside (Binary op at a b) h = (reading-inside a h.0, reading-inside b h.1)
    reading-inside (Both a b) h = (reading-inside a h.0, reading-inside b h.1)
    reading-inside (Either a b) h = (reading-inside a h.0, reading-inside b h.1)
    reading-inside (Choose c a b) h = (reading-inside c h.0, (reading-inside a h.1.0, reading-inside b h.1.1))
    reading-inside (Folded g hd test e) h = (h.0, (reading-inside test h.1.0, reading-inside e h.1.1))
    reading-inside e h = h

    may-inside : (o : Option Expr) → MayBeInside inner o → MayBeInside inner (option_map (reading f marks w) o)
    may-inside None h = tt
    may-inside (Some e) h = reading-inside e h

    are-inside : (es : List Expr) → AreInside inner es → AreInside inner (map (reading f marks w) es)
    are-inside [] h = tt
    are-inside (e ∷ es) h = (reading-inside e h.0, are-inside es h.1)

    inner-stands : (s : Stmt) → Body goes inner s → Body goes inner (inner_reading f marks w s)
    inner-stands (Then a b) h = (inner-stands a h.0, inner-stands b h.1)
    inner-stands (Declare k x e) h = may-inside e h
    inner-stands (Assign k t e) h = reading-inside e h
    inner-stands (Combine k total r ts es) h = (h.0, are-inside es h.1)
    inner-stands (If k c a b) h = (reading-inside c h.0, (inner-stands a h.1.0, inner-stands b h.1.1))
    inner-stands s h = h

  conjunction-inside : (a b : Expr) → Inside inner a → Inside inner b → Inside inner (conjunction a b)
  conjunction-inside a b h k = by (is_always b)
    where
      by : (always : Bool) → Inside inner (cond always a (Both a b))
      by true = h
      by false = (h, k)

  ranged-stands : (k : Key) (at : Place) (hd : Head) (test : Expr) (body : Stmt) (domain : Domain) (x : ℕ) → inner hd.iterator → Inside inner test → Body goes inner body → Body goes inner (ranged f marks k at hd test body domain x)
  ranged-stands k at hd test body domain x i h b =
      (i, (conjunction-inside (is_on f hd x) (reading f marks hd.iterator test) (tt, tt) (reading-inside hd.iterator test h), inner-stands hd.iterator body b))

  loop-stands : (k : Key) (at : Place) (hd : Head) (test : Expr) (body : Stmt) (domain : Domain) → inner hd.iterator → Inside inner test → Body goes inner body → Body goes inner (inner_loop f marks k at hd test body domain)
  loop-stands k at hd test body UpNbrs i h b = ranged-stands k at hd test body InNbrs f.up i h b
  loop-stands k at hd test body DownNbrs i h b = ranged-stands k at hd test body OutNbrs f.down i h b
  loop-stands k at hd test body Nodes i h b = (i, (h, b))
  loop-stands k at hd test body OutNbrs i h b = (i, (h, b))
  loop-stands k at hd test body InNbrs i h b = (i, (h, b))

  levels-stand : (s : Stmt) → Body goes inner s → Body goes inner (by_levels f marks s)
  levels-stand (Then a b) h = (levels-stand a h.0, levels-stand b h.1)
  levels-stand (If k c a b) h = (h.0, (levels-stand a h.1.0, levels-stand b h.1.1))
  levels-stand (Foreach k at hd test body) h = loop-stands k at hd test body hd.domain h.0 h.1.0 h.1.1
  levels-stand s h = h

-- ---- loops over levels

module _ (goes : List Target → Type 0) (single : (t : Target) → goes (t ∷ [])) (outer inner : ℕ → Type 0) (f : Fresh) (over : outer f.node) (along : inner f.neighbour) where
  module _ (s : Site) where
    visit-stands : (marks : List Bool) (key : Key) (x : ℕ) (test : Expr) (body : Stmt) → outer x → Inside inner test → Body goes inner body → Phase goes outer inner (visit s f marks key x test body)
    visit-stands marks key x test body i h b = by (is_idle body && is_safe x test)
      where
        by : (nothing : Bool) → Phase goes outer inner (cond nothing Skip (Foreach key s.place (over_nodes s x) (conjunction (at_node s x f.active) test) (by_levels f marks body)))
        by true = tt
        by false = (i, (conjunction-inside goes inner f marks (at_node s x f.active) test tt h, levels-stand goes inner f marks body b))

    begin-stands : (key : Key) (root : ℕ) → Phase goes outer inner (begin s f key root)
    begin-stands key root = (tt, ((over, (tt, ((tt, tt), (tt, tt)))), (tt, (tt, tt))))

    copies-stand : (p : ℕ) (marks : List Bool) → Bodies goes inner (copies_from s f p marks)
    copies-stand p [] = tt
    copies-stand p (true ∷ marks) = (tt, copies-stand (suc p) marks)
    copies-stand p (false ∷ marks) = copies-stand (suc p) marks

    unless-stands : (ss : List Stmt) → Bodies goes inner ss → Phase goes outer inner (unless_empty s f ss)
    unless-stands [] h = tt
    unless-stands (c ∷ cs) h = (over, (tt, sequence-body goes inner (c ∷ cs) h))

    copy-stands : (marks : List Bool) → Phase goes outer inner (copy s f marks)
    copy-stands marks = unless-stands (copies_from s f 0 marks) (copies-stand 0 marks)

    asked-stands : (test : Bool) (a : Stmt) → Phase goes outer inner a → Phase goes outer inner (where_asked test a)
    asked-stands true a h = h
    asked-stands false a h = tt

    first-stands : (test : Bool) (a b : Stmt) → Phase goes outer inner a → Phase goes outer inner b → Phase goes outer inner (first_where test a b)
    first-stands true a b h k = (h, (k, tt))
    first-stands false a b h k = (k, (h, tt))

    forward-stands : (count : ℕ) (key : Key) (x : ℕ) (test : Expr) (body : Stmt) → outer x → Inside inner test → Body goes inner body → Phase goes outer inner (forward s f count key x test body)
    forward-stands count key x test body i h b =
        let marks = copied count body in (
          tt,
          (
            (tt, tt),
            (
              asked-stands (asks_up body) (level_before s f f.up) (tt, tt),
              (
                tt,
                (
                  (over, (tt, (tt, tt))),
                  (
                    copy-stands marks,
                    (
                      first-stands (asks_down body) (reach s f) (visit s f marks key x test body) (over, (tt, (along, (tt, (single _, (tt, tt)))))) (visit-stands marks key x test body i h b),
                      ((over, (tt, (single _, ((tt, tt), tt)))), (tt, (tt, tt))),
                    ),
                  ),
                ),
              ),
            ),
          ),
        )

    backward-stands : (count : ℕ) (key : Key) (x : ℕ) (test : Expr) (body : Stmt) → outer x → Inside inner test → Body goes inner body → Phase goes outer inner (backward s f count key x test body)
    backward-stands count key x test body i h b =
        let marks = copied count body in (
          (tt, tt),
          (
            (
              (tt, tt),
              (
                asked-stands (asks_down body) (next_level s f) (tt, tt),
                (
                  asked-stands (asks_up body) (level_before s f f.up) (tt, tt),
                  ((over, (tt, (tt, tt))), (copy-stands marks, (visit-stands marks key x test body i h b, ((tt, tt), tt)))),
                ),
              ),
            ),
            tt,
          ),
        )

  pub searches-stand : (count : ℕ) (s : Stmt) → Phase goes outer inner s → Phase goes outer inner (searches_out f count s)
  searches-stand count (Then a b) h = (searches-stand count a h.0, searches-stand count b h.1)
  searches-stand count (For k at hd test body) h = (h.0, searches-stand count body h.1)
  searches-stand count (If k c a b) h = (h.0, (searches-stand count a h.1.0, searches-stand count b h.1.1))
  searches-stand count (While k at c body) h = (h.0, searches-stand count body h.1)
  searches-stand count (Do k at body c) h = (searches-stand count body h.0, h.1)
  searches-stand count (InBfs k at search test body) h =
      let s = site_of k search in (begin-stands s k search.root, (forward-stands s count k search.iterator test body h.0 h.1.0 h.1.1, tt))
  searches-stand count (InBfsBoth k at search test body back_key back_test back) h =
      let s = site_of k search in (
        begin-stands s k search.root,
        (forward-stands s count k search.iterator test body h.0 h.1.0.0 h.1.0.1, (backward-stands s count back_key search.iterator back_test back h.0 h.1.1.0 h.1.1.1, tt)),
      )
  searches-stand count s h = h
