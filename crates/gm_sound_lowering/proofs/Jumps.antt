-- The lines of the master list go forward, or back to the turn that they belong to, and none but the last is its end.
use Rattle.std.proofs.Common.{◌≡◌, ◌<◌, ◌≤◌, ℕ, suc, Bool, true, false, Some, None, List, [], ◌∷◌, ◌++◌, length, map, refl, ap, ◌∙◌, sym, subst, arith, length-append}
use Rattle.std.specs.Prelude.{◌+◌, ◌&&◌, not, nat_lt, if◌then◌else◌, slice_get}
use Rattle.std.specs.List.{list_all}
use Rattle.std.proofs.lemmas.Bool.{both_ways, lt-ltb, and_from, eq-eqb, ne_eqb}
use Rattle.gm_value.specs.declared.reductions.Reduce.{Reduce}
use Rattle.gm_value.specs.declared.values.VType.{VType}
use Rattle.gm_value.specs.declared.values.VType.TheVariants as V
use Rattle.gm_value.specs.declared.values.Value.TheVariants.{Flag}
use Rattle.gm_value.specs.Numbers.{zero_of}
use Rattle.gm_ast.specs.declared.tree.Sort.{Sort}
use Rattle.gm_ast.specs.declared.tree.Sort.TheVariants as Sorts
use Rattle.gm_ast.specs.declared.tree.Target.{Target}
use Rattle.gm_ast.specs.declared.tree.Target.TheVariants as T
use Rattle.gm_ast.specs.Program as S
use Rattle.gm_ast.specs.Program.{Stmt}
use Rattle.gm_semantics.specs.Levels.{numbers_from}
use Rattle.gm_semantics.specs.Statements.{variable_at}
use Rattle.gm_forms.proofs.Named.{both-true}
use Rattle.gm_image.specs.Jumps.{jumps_forward, goes_forward, exits_behind, goes_back, is_end}
use Rattle.gm_image.specs.Program.{Program, Command, SetGlobal, Step, Jump, Test, Turn, Back, Finish, SetField}
use Rattle.gm_image.specs.declared.rules.ImageRule.TheVariants.{I3, I4, I5}
use Rattle.gm_image.specs.Rows.{Row, CommandRow, command_rows}
use Rattle.gm_image.specs.Soundness.{keeps}
use Rattle.gm_image.specs.Term as M
use Rattle.gm_image.specs.Term.{Term}
use Rattle.gm_lowering.specs.Bodies.{Keeping, kept_lines, save_lines, take_lines, paired, replacing, compared, better, saved_pairs, with_types}
use Rattle.gm_lowering.specs.Blocks.{body_block, loop}
use Rattle.gm_lowering.specs.Layouts.{Layout, layout}
use Rattle.gm_lowering.specs.Lowered as L
use Rattle.gm_lowering.specs.Lowered.{Frame, Part, part, past, lines_on, places_on, deeper, choice, test_lines, keeping, set_global, steps_from, counts, declared_part, assigned_part, lowered, body_part, whole, start}
use Rattle.gm_lowering.specs.Places.{segment, spot_at, spots_in, spots_in_all, shown_places}
use Rattle.gm_lowering.specs.Terms.{Env, master_env, term}
use Rattle.gm_lowering_master.specs.Runs.{StandsAt}
use Rattle.gm_lowering_master.proofs.Counting.{tests-long}
use Rattle.gm_lowering_master.proofs.Endings.{stands-front}
use Rattle.gm_lowering_master.proofs.Shapes.{shape}
use Rattle.gm_lowering_master.proofs.Standing.{stands-left, stands-right}
use Rattle.gm_sound_lowering.proofs.Rowwise.{rows-pass, plainly, all-both, all-mapped, all-always, AllFrom, commands-pass}
use Rattle.gm_sound_lowering.specs.Laws.{MasterListsLead}

-- a command that goes to the next line alone
abbrev pub goes_on : Command → Bool
goes_on (SetGlobal g a) = true
goes_on (Step q) = true
goes_on c = false

pub from-both : (g : ℕ → Command → Bool) (j : ℕ) (xs ys : List Command) → AllFrom g j xs → AllFrom g (j + length xs) ys → AllFrom g j (xs ++ ys)
from-both g j [] ys h k = subst (λ i. AllFrom g i ys) (let e : j + 0 ≡ j = omega arith in e) k
from-both g j (x ∷ xs) ys h k = (h.0, from-both g (suc j) xs ys h.1 (subst (λ i. AllFrom g i ys) (let e : j + suc (length xs) ≡ suc j + length xs = omega arith in e) k))

-- what holds of each line of some holds too where it follows from this
pub from-weaker : (g f : ℕ → Command → Bool) (j end : ℕ) (xs : List Command) → j + length xs ≤ end → ((i : ℕ) (c : Command) → i < end → g i c ≡ true → f i c ≡ true) → AllFrom g j xs → AllFrom f j xs
from-weaker g f j end [] le k h = tt
from-weaker g f j end (x ∷ xs) le k h = (k j x (omega (arith, le)) h.0, from-weaker g f (suc j) end xs (omega (arith, le)) k h.1)

-- where a line leads
abbrev pub leads : Program → ℕ → Command → Bool
leads p j c = jumps_forward p j c && (goes_back p j c && not (is_end c))

on-leads : (p : Program) (j : ℕ) (c : Command) → goes_on c ≡ true → leads p j c ≡ true
on-leads p j (SetGlobal g a) h = refl
on-leads p j (Step q) h = refl
on-leads p j (Jump to) h = absurd (both_ways false refl h)
on-leads p j (Test to a) h = absurd (both_ways false refl h)
on-leads p j (Turn to a) h = absurd (both_ways false refl h)
on-leads p j (Back to) h = absurd (both_ways false refl h)
on-leads p j Finish h = absurd (both_ways false refl h)

all-lead : (p : Program) (j : ℕ) (cs : List Command) → list_all goes_on cs ≡ true → AllFrom (leads p) j cs
all-lead p j [] h = tt
all-lead p j (c ∷ cs) h = let b = both-true (goes_on c) (list_all goes_on cs) h in (on-leads p j c b.0, all-lead p (suc j) cs b.1)

-- ---- lines that go on

sets-on : (c : Layout) (t : Target) (a : Term) → goes_on (set_global c t a) ≡ true
sets-on c (T.Scalar x at) a = refl
sets-on c (T.Property x p at) a = refl

module _ (c : Layout) (v : Env) where
  abbrev k : Keeping Command
  k = keeping c v

  saves-on : (i : ℕ) (vs : List (VType × Term)) → list_all goes_on (save_lines k i vs) ≡ true
  saves-on i [] = refl
  saves-on i (v ∷ vs) = saves-on (suc i) vs

  takes-on : (b : Term) (i : ℕ) (ts : List (VType × Target)) → list_all goes_on (take_lines k b i ts) ≡ true
  takes-on b i [] = refl
  takes-on b i (t ∷ ts) =
      let a = M.Choose b (k.saved i t.0) (k.held t.1) in
      and_from (goes_on (set_global c t.1 a)) (list_all goes_on (take_lines k b (suc i) ts)) (sets-on c t.1 a) (takes-on b (suc i) ts)

  tuples-on : (r : Reduce) (ts : List (VType × Target)) (values : List Term) →
      list_all goes_on (save_lines k 0 (paired (map (λ t. t.0) ts) values) ++ (k.save (length ts) V.Flag (replacing (better r) (saved_pairs k 0 ts)) ∷ take_lines k (k.saved (length ts) V.Flag) 0 ts)) ≡ true
  tuples-on r ts values = all-both goes_on (save_lines k 0 (paired (map (λ t. t.0) ts) values)) (k.save (length ts) V.Flag (replacing (better r) (saved_pairs k 0 ts)) ∷ take_lines k (k.saved (length ts) V.Flag) 0 ts) (saves-on 0 (paired (map (λ t. t.0) ts) values)) (takes-on (k.saved (length ts) V.Flag) 0 ts)

  pub kept-on : (r : Reduce) (ts : List (VType × Target)) (values : List Term) → list_all goes_on (kept_lines k r ts values) ≡ true
  kept-on r [] values = tuples-on r [] values
  kept-on r (t ∷ []) [] = tuples-on r (t ∷ []) []
  kept-on r (t ∷ []) (a ∷ []) =
      let b = M.Choose (compared (better r) a (k.held t.1)) a (k.held t.1) in and_from (goes_on (set_global c t.1 b)) true (sets-on c t.1 b) refl
  kept-on r (t ∷ []) (a ∷ (b ∷ values)) = tuples-on r (t ∷ []) (a ∷ (b ∷ values))
  kept-on r (t ∷ (u ∷ ts)) values = tuples-on r (t ∷ (u ∷ ts)) values

declared-on : (w : Frame) (at : L.At) (s : Sort) (t : VType) (x : ℕ) → list_all goes_on (declared_part w at s t x).commands ≡ true
declared-on w at Sorts.NodeProperty t x = by (w.layout.is_kept x) where
  by : (b : Bool) → list_all goes_on (if b then record { commands = Step at.block ∷ []; blocks = body_block (SetField (w.layout.field x) (M.Const (zero_of t)) ∷ []) ∷ []; places = [] } else L.no_part).commands ≡ true
  by true = refl
  by false = refl
declared-on w at Sorts.Scalar t x = refl
declared-on w at Sorts.Graph t x = refl
declared-on w at Sorts.Iterator t x = refl
declared-on w at Sorts.Edge t x = refl
declared-on w at Sorts.EdgeProperty t x = refl

steps-on : (block n : ℕ) → list_all goes_on (steps_from block n) ≡ true
steps-on block n = all-mapped goes_on Step (numbers_from block n) (all-always (λ q. goes_on (Step q)) (λ q. refl) (numbers_from block n))

-- ---- lines that lead elsewhere, in an image whose last line is known

module _ (p : Program) (w : Frame) (long : suc w.finish ≡ length p.master) where
  abbrev Leads : ℕ → List Command → Type 0
  Leads = AllFrom (leads p)

  forward : (j to : ℕ) → j < to → to ≤ w.finish → goes_forward p j to ≡ true
  forward j to lt le = and_from (nat_lt j to) (nat_lt to (length p.master)) (lt-ltb j to lt) (lt-ltb to (length p.master) (omega (arith, le, long)))

  jump-leads : (j to : ℕ) → j < to → to ≤ w.finish → leads p j (Jump to) ≡ true
  jump-leads j to lt le = and_from (goes_forward p j to) true (forward j to lt le) refl

  test-leads : (j to : ℕ) (t : Term) → j < to → to ≤ w.finish → leads p j (Test to t) ≡ true
  test-leads j to t lt le = and_from (goes_forward p j to) true (forward j to lt le) refl

  turn-leads : (j to : ℕ) (t : Term) → j < to → to ≤ w.finish → leads p j (Turn to t) ≡ true
  turn-leads j to t lt le = and_from (goes_forward p j to) true (forward j to lt le) refl

  back-leads : (j head exit : ℕ) (t : Term) → head < j → j < exit → slice_get p.master head ≡ Some (Turn exit t) → leads p j (Back head) ≡ true
  back-leads j head exit t lt less e =
      and_from (nat_lt head j && exits_behind j (slice_get p.master head)) true
      (and_from (nat_lt head j) (exits_behind j (slice_get p.master head)) (lt-ltb head j lt) (ap (exits_behind j) e ∙ lt-ltb j exit less)) refl

  -- the lines of a turn, and the way back to its head
  turn-goes : (head exit j : ℕ) (t : Term) (xs : List Command) → slice_get p.master head ≡ Some (Turn exit t) → head < j → j + length xs < exit
      → Leads j xs → Leads j (xs ++ Back head ∷ [])
  turn-goes head exit j t xs e lt less h = from-both (leads p) j xs (Back head ∷ []) h (back-leads (j + length xs) head exit t (omega (arith, lt)) less e, tt)

  -- a condition before the lines of a turn
  tests-lead : (t : Term) (j to : ℕ) → j + length (test_lines 0 t) ≤ to → to ≤ w.finish → Leads j (test_lines to t)
  tests-lead (M.Const (Flag true)) j to lt le = tt
  tests-lead t j to lt le = (test-leads j to t (omega (arith, lt)) le, tt)

  -- the two ways of a condition
  choice-leads : (t : Term) (line behind : ℕ) (xs ys : List Command) → behind ≡ line + 1 + length xs → line + length (choice t behind xs ys) ≤ w.finish
      → (line + 1 + length xs ≤ w.finish → Leads (line + 1) xs) → (behind + 1 + length ys ≤ w.finish → Leads (behind + 1) ys) → Leads line (choice t behind xs ys)
  choice-leads t line behind xs [] e le one two =
      (test-leads line behind t (omega (arith, e)) (omega (arith, e, le)), subst (λ i. Leads i xs) (let z : line + 1 ≡ suc line = omega arith in z) (one (omega (arith, le))))
  choice-leads t line behind xs (m ∷ ms) e le one two =
      let l = length-append xs (Jump (suc behind + length (m ∷ ms)) ∷ (m ∷ ms)) in (
        test-leads line (suc behind) t (omega (arith, e)) (omega (arith, e, le, l)),
        from-both (leads p) (suc line) xs (Jump (suc behind + length (m ∷ ms)) ∷ (m ∷ ms))
            (subst (λ i. Leads i xs) (let z : line + 1 ≡ suc line = omega arith in z) (one (omega (arith, le, l)))) (
              jump-leads (suc line + length xs) (suc behind + length (m ∷ ms)) (omega (arith, e)) (omega (arith, e, le, l)),
              subst (λ i. Leads i (m ∷ ms)) (let z : behind + 1 ≡ suc (suc line + length xs) = omega (arith, e) in z) (two (omega (arith, e, le, l))),
            ),
      )

  choice-first : (t : Term) (line behind : ℕ) (xs ys : List Command) → StandsAt p.master line (choice t behind xs ys) → StandsAt p.master (line + 1) xs
  choice-first t line behind xs [] st = subst (λ i. StandsAt p.master i xs) (let z : suc line ≡ line + 1 = omega arith in z) st.1
  choice-first t line behind xs (m ∷ ms) st =
      subst (λ i. StandsAt p.master i xs) (let z : suc line ≡ line + 1 = omega arith in z) (stands-left p.master (suc line) xs (Jump (suc behind + length (m ∷ ms)) ∷ (m ∷ ms)) st.1)

  choice-other : (t : Term) (line behind : ℕ) (xs ys : List Command) → behind ≡ line + 1 + length xs → StandsAt p.master line (choice t behind xs ys) → StandsAt p.master (behind + 1) ys
  choice-other t line behind xs [] e st = tt
  choice-other t line behind xs (m ∷ ms) e st =
      subst (λ i. StandsAt p.master i (m ∷ ms)) (let z : suc (suc line + length xs) ≡ behind + 1 = omega (arith, e) in z)
      (stands-right p.master (suc line) xs (Jump (suc behind + length (m ∷ ms)) ∷ (m ∷ ms)) st.1).1

  goes : (s : Stmt) (at : L.At) → StandsAt p.master at.line (part w s at).commands → at.line + length (part w s at).commands ≤ w.finish → Leads at.line (part w s at).commands
  goes (S.Then a b) at st le =
      let x = part w a at in
      let y = part w b (past w at a x) in
      let l = length-append x.commands y.commands in
      from-both (leads p) at.line x.commands y.commands (goes a at (stands-left p.master at.line x.commands y.commands st) (omega (arith, l, le)))
      (goes b (past w at a x) (stands-right p.master at.line x.commands y.commands st) (omega (arith, l, le)))
  goes (S.Declare k x None) at st le = let v = variable_at w.layout.declarations x in all-lead p at.line (declared_part w at v.sort v.vtype x).commands (declared-on w at v.sort v.vtype x)
  goes (S.Declare k x (Some e)) at st le = (refl, tt)
  goes (S.Assign k (T.Scalar x place) e) at st le = (refl, tt)
  goes (S.Assign k (T.Property x q place) e) at st le = tt
  goes (S.Combine k total r ts es) at st le =
      let v = master_env w.layout (segment at.place (spots_in_all es k)) in
      let types = with_types w.layout ts in
      let values = map (term v k) es in
      all-lead p at.line (kept_lines (keeping w.layout v) r types values) (kept-on w.layout v r types values)
  goes (S.Foreach k place h test body) at st le =
      let n = length (loop w.layout at.place at.kind h.iterator k test body).blocks in all-lead p at.line (steps_from at.block n) (steps-on at.block n)
  goes (S.Return k place None) at st le = (jump-leads at.line w.finish (omega (arith, le)) (omega arith), tt)
  goes (S.Return k place (Some e)) at st le = (refl, (jump-leads (suc at.line) w.finish (omega (arith, le)) (omega arith), tt))
  goes (S.If k test a b) at st le =
      let g = segment at.place (spots_in test k) in
      let t = term (master_env w.layout g) k test in
      let start = lines_on 1 (places_on (shown_places g) at) in
      let x = part w a start in
      let behind = past w start a x in
      let y = part w b (lines_on 1 behind) in
      choice-leads t at.line behind.line x.commands y.commands refl le
      (λ m. goes a start (choice-first t at.line behind.line x.commands y.commands st) m)
      (λ m. goes b (lines_on 1 behind) (choice-other t at.line behind.line x.commands y.commands refl st) m)
  goes (S.While k place test body) at st le =
      let g = segment at.place (spots_in test k) in
      let t = term (master_env w.layout g) k test in
      let start = lines_on 1 (places_on (shown_places g) at) in
      let x = part w body start in
      let exit = start.line + length x.commands + 1 in
      let l = length-append x.commands (Back at.line ∷ []) in
      let z : at.line + 1 ≡ suc at.line = omega arith in (
        turn-leads at.line exit t (omega arith) (omega (arith, le, l)),
        subst (λ i. Leads i (x.commands ++ Back at.line ∷ [])) z
            (turn-goes at.line exit (at.line + 1) t x.commands st.0 (omega arith) (omega arith)
            (goes body start (stands-left p.master start.line x.commands (Back at.line ∷ []) (subst (λ i. StandsAt p.master i (x.commands ++ Back at.line ∷ [])) (sym z) st.1)) (omega (arith, le, l)))),
      )
  goes (S.Do k place body test) at st le =
      let g = segment at.place (spots_in test k) in
      let start = lines_on 3 (deeper (places_on (shown_places g) at)) in
      let x = part w body start in
      let t = M.Or (M.Global (w.layout.flag at.depth)) (term (master_env w.layout g) k test) in
      let exit = start.line + length x.commands + 1 in
      let l = length-append x.commands (Back (suc at.line) ∷ []) in
      let z : at.line + 3 ≡ suc (suc (suc at.line)) = omega arith in (
        refl,
        (
          turn-leads (suc at.line) exit t (omega arith) (omega (arith, le, l)),
          (
            refl,
            subst (λ i. Leads i (x.commands ++ Back (suc at.line) ∷ [])) z
                (turn-goes (suc at.line) exit (at.line + 3) t x.commands st.1.0 (omega arith) (omega arith)
                (goes body start (stands-left p.master start.line x.commands (Back (suc at.line) ∷ []) (subst (λ i. StandsAt p.master i (x.commands ++ Back (suc at.line) ∷ [])) (sym z) st.1.1.1)) (omega (arith, le, l)))),
          ),
        ),
      )
  goes (S.For k place h test body) at st le =
      let g = segment at.place (spot_at k place ∷ spots_in test k) in
      let t = term (master_env w.layout g) k test in
      let tests = length (test_lines 0 t) in
      let start = lines_on (4 + tests) (deeper (places_on (shown_places g) at)) in
      let x = part w body start in
      let end = start.line + length x.commands in
      let back = x.commands ++ Back (suc at.line) ∷ [] in
      let l = length-append x.commands (Back (suc at.line) ∷ []) in
      let m = length-append (test_lines end t) back in
      let n = tests-long t end in
      let four = suc (suc (suc (suc at.line))) in
      let z : at.line + (4 + tests) ≡ four + length (test_lines end t) = omega (arith, n) in (
        refl,
        (
          turn-leads (suc at.line) (end + 1) (counts w.layout at.depth) (omega arith) (omega (arith, le, l, m, n)),
          (
            refl,
            (
              refl,
              from-both (leads p) four (test_lines end t) back (tests-lead t four end (omega arith) (omega (arith, le, l, m, n)))
                  (subst (λ i. Leads i back) z
                  (turn-goes (suc at.line) (end + 1) (at.line + (4 + tests)) (counts w.layout at.depth) x.commands st.1.0 (omega arith) (omega arith)
                  (goes body start (stands-left p.master start.line x.commands (Back (suc at.line) ∷ [])
                  (subst (λ i. StandsAt p.master i back) (sym z) (stands-right p.master four (test_lines end t) back st.1.1.1.1))) (omega (arith, le, l, m, n))))),
            ),
          ),
        ),
      )
  goes S.Skip at st le = tt
  goes (S.DeclareEdge x y place) at st le = tt
  goes (S.Defer k t e) at st le = tt
  goes (S.Group k place graph q e) at st le = tt
  goes (S.InBfs k place how test body) at st le = tt
  goes (S.InBfsBoth k place how test body back_key back_test back) at st le = tt

-- ---- the whole list

pub master-lists-lead : MasterListsLead
master-lists-lead p =
    let image = lowered p in
    let finish = length (body_part p 0).commands in
    let w : Frame = record { layout = layout p; finish = finish } in
    let part = whole p in
    let same : finish ≡ length part.commands = (shape (layout p) 0 finish p.body start).commands in
    let long : suc finish ≡ length image.master = (let l = length-append part.commands (Finish ∷ []) in omega (arith, l, same)) in
    let all : AllFrom (leads image) 0 part.commands = goes image w long p.body start (stands-front part.commands (Finish ∷ [])) (omega (arith, same)) in
    let master : (f : Row → Bool) → ((j : ℕ) (c : Command) → j < finish → leads image j c ≡ true → f (CommandRow j c) ≡ true) → f (CommandRow finish Finish) ≡ true → list_all f (command_rows 0 image.master) ≡ true = (λ f h e.
    commands-pass f 0 image.master (from-both (λ j c. f (CommandRow j c)) 0 part.commands (Finish ∷ [])
    (from-weaker (leads image) (λ j c. f (CommandRow j c)) 0 finish part.commands (omega (arith, same)) h all)
    (subst (λ i. f (CommandRow i Finish) ≡ true) (let z : finish ≡ 0 + length part.commands = omega (arith, same) in z) e, tt))) in (
      rows-pass (λ row. keeps image row I3) image (plainly (λ row. keeps image row I3) image refl refl (λ b i. refl) (λ b i. refl) refl refl (λ k. refl) (λ b h. refl) (λ s l. refl) refl (master (λ row. keeps image row I3) (λ j c lt h. (both-true (jumps_forward image j c) _ h).0) refl)),
      rows-pass (λ row. keeps image row I4) image (plainly (λ row. keeps image row I4) image refl refl (λ b i. refl) (λ b i. refl) refl refl (λ k. refl) (λ b h. refl) (λ s l. refl) refl (master (λ row. keeps image row I4) (λ j c lt h. (both-true (goes_back image j c) _ (both-true (jumps_forward image j c) _ h).1).0) refl)),
      rows-pass (λ row. keeps image row I5) image (plainly (λ row. keeps image row I5) image refl refl (λ b i. refl) (λ b i. refl) refl refl (λ k. refl) (λ b h. refl) (λ s l. refl) (lt-ltb 0 (length image.master) (omega (arith, long)))
          (master (λ row. keeps image row I5) (λ j c lt h.
          ap (λ b. if b then is_end c else not (is_end c)) (ne_eqb (j + 1) (length image.master) (λ e. absurd (omega (arith, e, long, lt)))) ∙ (both-true (goes_back image j c) _ (both-true (jumps_forward image j c) _ h).1).1)
          (ap (λ b. if b then true else false) (eq-eqb (finish + 1) (length image.master) (let z : finish + 1 ≡ length image.master = omega (arith, long) in z))))),
    )
