-- What each line of a vertex program keeps, the lines keep.
use Rattle.std.proofs.Common.{◌≡◌, ℕ, zero, suc, Bool, true, false, cond, nat_eq, Option, Some, None, List, [], ◌∷◌, ◌++◌, find, take, refl}
use Rattle.std.specs.List.{AllByRecursion}
use Rattle.std.specs.List.{list_all, flat_map}
use Rattle.std.proofs.lemmas.Bool.{and_parts}
use Rattle.gm_model.specs.Graphs.{Step}
use Rattle.gm_image.specs.Program.{Handler, Line, SetField, Fold, SetRegister, Put, Send, Skip, Each}
use Rattle.gm_machine.specs.declared.faults.Fault.{Fault}
use Rattle.gm_machine.specs.Faults.{lesser}
use Rattle.gm_machine.specs.Vertex.{VertexContext, VertexState, After, line_after, go_by, lines_after, turns_after, steps, folded, body_line_after, body_after, lines_of, handler_lines}

-- the first lines, the front and the back of lines of which all are of a sort
pub some-take : (ok : Line → Type 0) (n : ℕ) (ls : List Line) → AllByRecursion ok ls → AllByRecursion ok (take n ls)
some-take ok zero ls h = tt
some-take ok (suc n) [] h = tt
some-take ok (suc n) (l ∷ ls) h = (h.0, some-take ok n ls h.1)

pub some-front : (ok : Line → Type 0) (xs ys : List Line) → AllByRecursion ok (xs ++ ys) → AllByRecursion ok xs
some-front ok [] ys h = tt
some-front ok (x ∷ xs) ys h = (h.0, some-front ok xs ys h.1)

pub some-back : (ok : Line → Type 0) (xs ys : List Line) → AllByRecursion ok (xs ++ ys) → AllByRecursion ok ys
some-back ok [] ys h = h
some-back ok (x ∷ xs) ys h = some-back ok xs ys h.1

-- lines that all pass a test
pub all-pass : (t : Line → Bool) (ls : List Line) → list_all t ls ≡ true → AllByRecursion (λ l. t l ≡ true) ls
all-pass t [] h = tt
all-pass t (l ∷ ls) h = let parts = and_parts (t l) (list_all t ls) h in (parts.0, all-pass t ls parts.1)

-- the lines for a kind are of a sort where all lines of the handlers are
pub kind-passes : (ok : Line → Type 0) (handlers : List Handler) (kind : ℕ) → AllByRecursion ok (flat_map (λ h. h.lines) handlers) → AllByRecursion ok (handler_lines handlers kind)
kind-passes ok [] kind h = tt
kind-passes ok (g ∷ handlers) kind h =
    one (nat_eq g.kind kind) (some-front ok g.lines (flat_map (λ x. x.lines) handlers) h) (kind-passes ok handlers kind (some-back ok g.lines (flat_map (λ x. x.lines) handlers) h))
  where
    one : (b : Bool) → AllByRecursion ok g.lines → AllByRecursion ok (lines_of (find (λ x. nat_eq x.kind kind) handlers)) → AllByRecursion ok (lines_of (cond b (Some g) (find (λ x. nat_eq x.kind kind) handlers)))
    one true a b = a
    one false a b = b

module _ (Q : VertexState → Type 0) (F : Option Fault → Type 0) (ok : Line → Type 0)
    (none : F None)
    (least : (f g : Option Fault) → F f → F g → F (lesser f g))
    (line : (s : VertexContext) (l : Line) (w : VertexState) → ok l → Q w → Q (line_after s l w).state × F (line_after s l w).fault)
    (fold : (places : ℕ) (w : VertexState) (f : Option Fault) (skip : ℕ) → Q w → F f → Q (folded places (record { state = w; fault = f; skip = skip })).state × F (folded places (record { state = w; fault = f; skip = skip })).fault) where
  abbrev pub Good : After → Type 0
  Good a = Q a.state × F a.fault

  pub go-keeps : (a : After) (o : Option Fault) → o ≡ a.fault → Good a → (go : ℕ → VertexState → After) → ((k : ℕ) (w : VertexState) → Q w → Good (go k w)) → Good (go_by o a go)
  go-keeps a None e good go on = on a.skip a.state good.0
  go-keeps a (Some f) e good go on = good

  pub lines-keep : (s : VertexContext) (ls : List Line) → AllByRecursion ok ls → (k : ℕ) (w : VertexState) → Q w → Good (lines_after s ls k w)
  lines-keep s [] h k w q = (q, none)
  lines-keep s (l ∷ ls) h (suc k) w q = lines-keep s ls h.1 k w q
  lines-keep s (l ∷ ls) h zero w q =
      go-keeps (line_after s l w) (line_after s l w).fault refl (line s l w h.0 q)
      (λ k w'. lines_after s ls k w')
      (λ k w' q'. lines-keep s ls h.1 k w' q')

  turns-keep : (s : VertexContext) (ls : List Line) → AllByRecursion ok ls → (es : List Step) (w : VertexState) (f : Option Fault) → Q w → F f → Good (turns_after s ls es w f)
  turns-keep s ls h [] w f q ff = (q, ff)
  turns-keep s ls h (e ∷ es) w f q ff =
      let one : Good (lines_after (record s { near = e }) ls 0 w) = lines-keep (record s { near = e }) ls h 0 w q in
      turns-keep s ls h es (lines_after (record s { near = e }) ls 0 w).state (lesser f (lines_after (record s { near = e }) ls 0 w).fault) one.0
      (least f (lines_after (record s { near = e }) ls 0 w).fault ff one.1)

  body-line-keeps : (places : ℕ) (s : VertexContext) (l : Line) (ls : List Line) → ok l → AllByRecursion ok ls → (w : VertexState) → Q w → Good (body_line_after places s l ls w)
  body-line-keeps places s (Each d n) ls h hs w q =
      let all : Good (turns_after s (take n ls) (steps d s.graph s.node) w None) = turns-keep s (take n ls) (some-take ok n ls hs) (steps d s.graph s.node) w None q none in
      fold places (turns_after s (take n ls) (steps d s.graph s.node) w None).state (turns_after s (take n ls) (steps d s.graph s.node) w None).fault n all.0 all.1
  body-line-keeps places s (Fold r place ts) ls h hs w q =
      let one : Good (line_after s (Fold r place ts) w) = line s (Fold r place ts) w h q in
      fold places (line_after s (Fold r place ts) w).state (line_after s (Fold r place ts) w).fault (line_after s (Fold r place ts) w).skip one.0 one.1
  body-line-keeps places s (SetField f a) ls h hs w q = line s (SetField f a) w h q
  body-line-keeps places s (SetRegister r a) ls h hs w q = line s (SetRegister r a) w h q
  body-line-keeps places s (Put r place ts) ls h hs w q = line s (Put r place ts) w h q
  body-line-keeps places s (Send kind to ts) ls h hs w q = line s (Send kind to ts) w h q
  body-line-keeps places s (Skip n a) ls h hs w q = line s (Skip n a) w h q

  pub body-keeps : (places : ℕ) (s : VertexContext) (ls : List Line) → AllByRecursion ok ls → (k : ℕ) (w : VertexState) → Q w → Good (body_after places s ls k w)
  body-keeps places s [] h k w q = (q, none)
  body-keeps places s (l ∷ ls) h (suc k) w q = body-keeps places s ls h.1 k w q
  body-keeps places s (l ∷ ls) h zero w q =
      go-keeps (body_line_after places s l ls w) (body_line_after places s l ls w).fault refl (body-line-keeps places s l ls h.0 h.1 w q)
      (λ k w'. body_after places s ls k w')
      (λ k w' q'. body-keeps places s ls h.1 k w' q')
