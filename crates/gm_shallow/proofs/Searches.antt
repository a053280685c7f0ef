-- Searches as loops over levels add a level: a condition on levels beside a filter.
use Rattle.std.proofs.Common.{◌≡◌, ◌≤◌, ℕ, suc, Bool, true, false, cond, List, [], ◌∷◌, map, length, arith, Option, Some, None, max}
use Rattle.std.specs.Prelude.{◌&&◌, option_map}
use Rattle.gm_base.specs.declared.places.Place.{Place}
use Rattle.gm_ast.specs.declared.tree.Domain.{Domain}
use Rattle.gm_ast.specs.declared.tree.Domain.TheVariants.{Nodes, OutNbrs, InNbrs, UpNbrs, DownNbrs}
use Rattle.gm_ast.specs.declared.tree.Head.{Head}
use Rattle.gm_ast.specs.declared.tree.Key.{Key}
use Rattle.gm_ast.specs.Program.{Expr, Both, Unary, Binary, Either, Choose, Folded, Stmt, Skip, Then, Declare, Assign, Combine, Foreach, For, If, While, Do, InBfs, InBfsBoth, Program}
use Rattle.gm_bfs.specs.declared.fresh.Fresh.{Fresh}
use Rattle.gm_bfs.specs.declared.fresh.Site.{Site}
use Rattle.gm_bfs.specs.Variables.{fresh_from, with_fresh}
use Rattle.gm_bfs.specs.Copies.{copied, asks_up, asks_down, reading, inner_reading}
use Rattle.gm_bfs.specs.Searches.{over_nodes, at_node, begin, next_level, level_before, reach, copies_from, unless_empty, copy, is_always, conjunction, is_on, ranged, inner_loop, by_levels, is_idle, is_safe, visit, where_asked, first_where, forward, backward, site_of}
use Rattle.gm_bfs.specs.Levelled.{searches_out, has_search, levelled}
use Rattle.gm_depth.specs.Depths.{depth, all_within}
use Rattle.gm_depth.proofs.Limits.{Within, MayBeWithin, AreWithin, AllWithin, parts, whole, longer-one, longer}
use Rattle.gm_shallow.proofs.Statements.{Several, sequence-within}
use Rattle.gm_depth.specs.Nesting.{body_nesting, nesting}
use Rattle.gm_shallow.proofs.Nesting.{both, below, EachInside, sequence-inside}

-- ---- copies that are read

module _ (f : Fresh) (marks : List Bool) (w : ℕ) where
  reading-depth : (e : Expr) → depth (reading f marks w e) ≤ depth e
  reading-depth (Unary op at e) = let x : depth (reading f marks w e) ≤ depth e = reading-depth e in omega arith
  reading-depth (Binary op at a b) =
      let x : depth (reading f marks w a) ≤ depth a = reading-depth a in
      let y : depth (reading f marks w b) ≤ depth b = reading-depth b in
      omega arith
  reading-depth (Both a b) =
      let x : depth (reading f marks w a) ≤ depth a = reading-depth a in
      let y : depth (reading f marks w b) ≤ depth b = reading-depth b in
      omega arith
  reading-depth (Either a b) =
      let x : depth (reading f marks w a) ≤ depth a = reading-depth a in
      let y : depth (reading f marks w b) ≤ depth b = reading-depth b in
      omega arith
  reading-depth (Choose c a b) =
      let x : depth (reading f marks w c) ≤ depth c = reading-depth c in
      let y : depth (reading f marks w a) ≤ depth a = reading-depth a in
      let z : depth (reading f marks w b) ≤ depth b = reading-depth b in
      omega arith
  reading-depth (Folded g h test e) =
      let x : depth (reading f marks w test) ≤ depth test = reading-depth test in
      let y : depth (reading f marks w e) ≤ depth e = reading-depth e in
      omega arith
  reading-depth e = omega arith

  module _ (n : ℕ) where
    reading-within : (e : Expr) → Within n e → Within n (reading f marks w e)
    reading-within e h = let x : depth (reading f marks w e) ≤ depth e = reading-depth e in omega arith

    may-within : (o : Option Expr) → MayBeWithin n o → MayBeWithin n (option_map (reading f marks w) o)
    may-within None h = tt
    may-within (Some e) h = reading-within e h

    all-within : (es : List Expr) → AreWithin n es → AreWithin n (map (reading f marks w) es)
    all-within [] h = tt
    all-within (e ∷ es) h = (reading-within e h.0, all-within es h.1)

    inner-within : (s : Stmt) → AllWithin n s → AllWithin n (inner_reading f marks w s)
    inner-within (Then a b) h = (inner-within a h.0, inner-within b h.1)
    inner-within (Declare k x e) h = may-within e h
    inner-within (Assign k t e) h = reading-within e h
    inner-within (Combine k total r ts es) h = all-within es h
    inner-within (If k c a b) h = (reading-within c h.0, (inner-within a h.1.0, inner-within b h.1.1))
    inner-within s h = h

-- ---- loops over levels

module _ (n : ℕ) (least : 2 ≤ n) where
  more : n ≤ suc n
  more = omega arith

  one : 1 ≤ suc n
  one = omega arith

  two : 2 ≤ suc n
  two = omega arith

  three : 3 ≤ suc n
  three = omega arith

  -- a condition on levels has two levels at most
  conjunction-within : (a b : Expr) → Within 2 a → Within n b → Within (suc n) (conjunction a b)
  conjunction-within a b h k = by (is_always b)
    where
      by : (always : Bool) → Within (suc n) (cond always a (Both a b))
      by true = omega arith
      by false = omega arith

  module _ (f : Fresh) (marks : List Bool) where
    ranged-within : (k : Key) (at : Place) (hd : Head) (test : Expr) (body : Stmt) (domain : Domain) (x : ℕ) → Within n test → AllWithin n body → AllWithin (suc n) (ranged f marks k at hd test body domain x)
    ranged-within k at hd test body domain x h b =
        (conjunction-within (is_on f hd x) (reading f marks hd.iterator test) (omega arith) (reading-within f marks hd.iterator n test h), longer n (suc n) more (inner_reading f marks hd.iterator body) (inner-within f marks hd.iterator n body b))

    loop-within : (k : Key) (at : Place) (hd : Head) (test : Expr) (body : Stmt) (domain : Domain) → Within n test → AllWithin n body → AllWithin (suc n) (inner_loop f marks k at hd test body domain)
    loop-within k at hd test body UpNbrs h b = ranged-within k at hd test body InNbrs f.up h b
    loop-within k at hd test body DownNbrs h b = ranged-within k at hd test body OutNbrs f.down h b
    loop-within k at hd test body Nodes h b = (longer-one n (suc n) more test h, longer n (suc n) more body b)
    loop-within k at hd test body OutNbrs h b = (longer-one n (suc n) more test h, longer n (suc n) more body b)
    loop-within k at hd test body InNbrs h b = (longer-one n (suc n) more test h, longer n (suc n) more body b)

    levels-within : (s : Stmt) → AllWithin n s → AllWithin (suc n) (by_levels f marks s)
    levels-within (Then a b) h = (levels-within a h.0, levels-within b h.1)
    levels-within (If k c a b) h = (longer-one n (suc n) more c h.0, (levels-within a h.1.0, levels-within b h.1.1))
    levels-within (Foreach k at hd test body) h = loop-within k at hd test body hd.domain h.0 h.1
    levels-within s h = longer n (suc n) more s h

  module _ (s : Site) (f : Fresh) where
    visit-within : (marks : List Bool) (key : Key) (x : ℕ) (test : Expr) (body : Stmt) → Within n test → AllWithin n body → AllWithin (suc n) (visit s f marks key x test body)
    visit-within marks key x test body h b = by (is_idle body && is_safe x test)
      where
        by : (nothing : Bool) → AllWithin (suc n) (cond nothing Skip (Foreach key s.place (over_nodes s x) (conjunction (at_node s x f.active) test) (by_levels f marks body)))
        by true = tt
        by false = (conjunction-within (at_node s x f.active) test (omega arith) h, levels-within f marks body b)

    begin-within : (key : Key) (root : ℕ) → AllWithin (suc n) (begin s f key root)
    begin-within key root = (one, ((one, three), (one, (one, tt))))

    copies-within : (p : ℕ) (marks : List Bool) → Several (suc n) (copies_from s f p marks)
    copies-within p [] = tt
    copies-within p (true ∷ marks) = (one, copies-within (suc p) marks)
    copies-within p (false ∷ marks) = copies-within (suc p) marks

    unless-within : (ss : List Stmt) → Several (suc n) ss → AllWithin (suc n) (unless_empty s f ss)
    unless-within [] h = tt
    unless-within (c ∷ cs) h = (one, sequence-within (suc n) (c ∷ cs) h)

    copy-within : (marks : List Bool) → AllWithin (suc n) (copy s f marks)
    copy-within marks = unless-within (copies_from s f 0 marks) (copies-within 0 marks)

    asked-within : (test : Bool) (a : Stmt) → AllWithin (suc n) a → AllWithin (suc n) (where_asked test a)
    asked-within true a h = h
    asked-within false a h = tt

    first-within : (test : Bool) (a b : Stmt) → AllWithin (suc n) a → AllWithin (suc n) b → AllWithin (suc n) (first_where test a b)
    first-within true a b h k = (h, (k, tt))
    first-within false a b h k = (k, (h, tt))

    forward-within : (count : ℕ) (key : Key) (x : ℕ) (test : Expr) (body : Stmt) → Within n test → AllWithin n body → AllWithin (suc n) (forward s f count key x test body)
    forward-within count key x test body h b =
        let marks = copied count body in (
          one,
          (
            two,
            (
              asked-within (asks_up body) (level_before s f f.up) two,
              (
                one,
                (
                  (one, two),
                  (
                    copy-within marks,
                    (first-within (asks_down body) (reach s f) (visit s f marks key x test body) (one, (one, (one, tt))) (visit-within marks key x test body h b), ((one, (two, tt)), (one, (one, tt)))),
                  ),
                ),
              ),
            ),
          ),
        )

    backward-within : (count : ℕ) (key : Key) (x : ℕ) (test : Expr) (body : Stmt) → Within n test → AllWithin n body → AllWithin (suc n) (backward s f count key x test body)
    backward-within count key x test body h b =
        let marks = copied count body in (
          two,
          (
            (
              two,
              (
                asked-within (asks_down body) (next_level s f) two,
                (asked-within (asks_up body) (level_before s f f.up) two, ((one, two), (copy-within marks, (visit-within marks key x test body h b, (two, tt))))),
              ),
            ),
            tt,
          ),
        )

  searches-within : (f : Fresh) (count : ℕ) (s : Stmt) → AllWithin n s → AllWithin (suc n) (searches_out f count s)
  searches-within f count (Then a b) h = (searches-within f count a h.0, searches-within f count b h.1)
  searches-within f count (For k at hd test body) h = (longer-one n (suc n) more test h.0, searches-within f count body h.1)
  searches-within f count (If k c a b) h = (longer-one n (suc n) more c h.0, (searches-within f count a h.1.0, searches-within f count b h.1.1))
  searches-within f count (While k at c body) h = (longer-one n (suc n) more c h.0, searches-within f count body h.1)
  searches-within f count (Do k at body c) h = (searches-within f count body h.0, longer-one n (suc n) more c h.1)
  searches-within f count (InBfs k at search test body) h =
      let s = site_of k search in (begin-within s f k search.root, (forward-within s f count k search.iterator test body h.0 h.1, tt))
  searches-within f count (InBfsBoth k at search test body back_key back_test back) h =
      let s = site_of k search in
      (begin-within s f k search.root, (forward-within s f count k search.iterator test body h.0 h.1.0, (backward-within s f count back_key search.iterator back_test back h.1.1.0 h.1.1.1, tt)))
  searches-within f count s h = longer n (suc n) more s h

pub searches-add : (n : ℕ) (p : Program) → 2 ≤ n → all_within n p.body ≡ true → all_within (suc n) (levelled p).body ≡ true
searches-add n p least h = by (has_search p.body)
  where
    count : ℕ
    count = length p.declarations

    f : Fresh
    f = fresh_from count

    by : (searches : Bool) → all_within (suc n) (cond searches (record p { declarations = with_fresh p.declarations; body = searches_out f count p.body }) p).body ≡ true
    by true = whole (suc n) (searches_out f count p.body) (searches-within n least f count p.body (parts n p.body h))
    by false = whole (suc n) p.body (longer n (suc n) (more n least) p.body (parts n p.body h))

-- ---- Ifs within one another

ranges-nest : (f : Fresh) (marks : List Bool) (k : Key) (at : Place) (hd : Head) (test : Expr) (body : Stmt) (domain : Domain) → body_nesting (inner_loop f marks k at hd test body domain) ≤ 0
ranges-nest f marks k at hd test body UpNbrs = omega arith
ranges-nest f marks k at hd test body DownNbrs = omega arith
ranges-nest f marks k at hd test body Nodes = omega arith
ranges-nest f marks k at hd test body OutNbrs = omega arith
ranges-nest f marks k at hd test body InNbrs = omega arith

levels-nest : (f : Fresh) (marks : List Bool) (s : Stmt) → body_nesting (by_levels f marks s) ≤ body_nesting s
levels-nest f marks (Then a b) = both (levels-nest f marks a) (levels-nest f marks b)
levels-nest f marks (If k c a b) = below (levels-nest f marks a) (levels-nest f marks b)
levels-nest f marks (Foreach k at hd test body) = ranges-nest f marks k at hd test body hd.domain
levels-nest f marks s = omega arith

module _ (s : Site) (f : Fresh) where
  visit-nests : (marks : List Bool) (key : Key) (x : ℕ) (test : Expr) (body : Stmt) → nesting (visit s f marks key x test body) ≤ body_nesting body
  visit-nests marks key x test body = by (is_idle body && is_safe x test)
    where
      by : (nothing : Bool) → nesting (cond nothing Skip (Foreach key s.place (over_nodes s x) (conjunction (at_node s x f.active) test) (by_levels f marks body))) ≤ body_nesting body
      by true = omega arith
      by false = levels-nest f marks body

  copies-flat : (p : ℕ) (marks : List Bool) → EachInside 0 (copies_from s f p marks)
  copies-flat p [] = tt
  copies-flat p (true ∷ marks) = (omega arith, copies-flat (suc p) marks)
  copies-flat p (false ∷ marks) = copies-flat (suc p) marks

  unless-flat : (ss : List Stmt) → EachInside 0 ss → nesting (unless_empty s f ss) ≤ 0
  unless-flat [] h = omega arith
  unless-flat (c ∷ cs) h = sequence-inside 0 (c ∷ cs) h

  copy-flat : (marks : List Bool) → nesting (copy s f marks) ≤ 0
  copy-flat marks = unless-flat (copies_from s f 0 marks) (copies-flat 0 marks)

  asked-flat : (test : Bool) (a : Stmt) → nesting a ≤ 0 → nesting (where_asked test a) ≤ 0
  asked-flat true a h = h
  asked-flat false a h = omega arith

  first-nests : (test : Bool) (a b : Stmt) → nesting (first_where test a b) ≤ max (nesting a) (nesting b)
  first-nests true a b = omega arith
  first-nests false a b = omega arith

  forward-nests : (count : ℕ) (key : Key) (x : ℕ) (test : Expr) (body : Stmt) → nesting (forward s f count key x test body) ≤ body_nesting body
  forward-nests count key x test body =
      let marks = copied count body in
      let turn = visit s f marks key x test body in
      let u : nesting (where_asked (asks_up body) (level_before s f f.up)) ≤ 0 = asked-flat (asks_up body) (level_before s f f.up) (omega arith) in
      let v : nesting (copy s f marks) ≤ 0 = copy-flat marks in
      let w : nesting (first_where (asks_down body) (reach s f) turn) ≤ max (nesting (reach s f)) (nesting turn) = first-nests (asks_down body) (reach s f) turn in
      let y : nesting turn ≤ body_nesting body = visit-nests marks key x test body in
      omega arith

  backward-nests : (count : ℕ) (key : Key) (x : ℕ) (test : Expr) (body : Stmt) → nesting (backward s f count key x test body) ≤ body_nesting body
  backward-nests count key x test body =
      let marks = copied count body in
      let u : nesting (where_asked (asks_down body) (next_level s f)) ≤ 0 = asked-flat (asks_down body) (next_level s f) (omega arith) in
      let v : nesting (where_asked (asks_up body) (level_before s f f.up)) ≤ 0 = asked-flat (asks_up body) (level_before s f f.up) (omega arith) in
      let w : nesting (copy s f marks) ≤ 0 = copy-flat marks in
      let y : nesting (visit s f marks key x test body) ≤ body_nesting body = visit-nests marks key x test body in
      omega arith

searches-nests : (f : Fresh) (count : ℕ) (s : Stmt) → nesting (searches_out f count s) ≤ nesting s
searches-nests f count (Then a b) = both (searches-nests f count a) (searches-nests f count b)
searches-nests f count (For k at hd test body) = searches-nests f count body
searches-nests f count (If k c a b) = both (searches-nests f count a) (searches-nests f count b)
searches-nests f count (While k at c body) = searches-nests f count body
searches-nests f count (Do k at body c) = searches-nests f count body
searches-nests f count (InBfs k at search test body) =
    let s = site_of k search in
    let u : nesting (forward s f count k search.iterator test body) ≤ body_nesting body = forward-nests s f count k search.iterator test body in
    omega arith
searches-nests f count (InBfsBoth k at search test body back_key back_test back) =
    let s = site_of k search in
    let u : nesting (forward s f count k search.iterator test body) ≤ body_nesting body = forward-nests s f count k search.iterator test body in
    let v : nesting (backward s f count back_key search.iterator back_test back) ≤ body_nesting back = backward-nests s f count back_key search.iterator back_test back in
    omega arith
searches-nests f count s = omega arith

pub searches-nest : (p : Program) → nesting (levelled p).body ≤ nesting p.body
searches-nest p = by (has_search p.body)
  where
    count : ℕ
    count = length p.declarations

    f : Fresh
    f = fresh_from count

    by : (searches : Bool) → nesting (cond searches (record p { declarations = with_fresh p.declarations; body = searches_out f count p.body }) p).body ≤ nesting p.body
    by true = searches-nests f count p.body
    by false = omega arith
