-- Reading an input piece by piece up to its line `%%`.
use Rattle.std.proofs.Common.{◌≡◌, ◌≤◌, ◌<◌, ◌+◌, ◌-◌, ◌∙◌, ◌⊎◌, ℕ, Bool, true, false, List, [], ◌∷◌, ◌++◌, Option, length, take, drop, min, refl, sym, ap, subst, arith, append_assoc, append-nil, length-append, inl, inr}
use Rattle.std.specs.Prelude.{Some, None}
use Rattle.std.proofs.lemmas.List.{length-take, length-drop, take-append-le, take_all, take-take, drop_all}
use Rattle.std.proofs.lemmas.Bool.{cases_lt}
use Rattle.std.proofs.Math.Seq.{take-append_seam, drop-append_seam}
use Rattle.gm_input.specs.declared.lines.LineSoFar.{LineSoFar}
use Rattle.gm_input.specs.declared.lines.LineSoFar.TheVariants.{Empty, OneSign, TwoSigns, SignsAndReturn, Other}
use Rattle.gm_input.specs.Parts.{program_from, graph_from, program_part, graph_part}
use Rattle.gm_input.specs.Lines.{AreRead, AreParted, begins, held, held_at_end}
use Rattle.gm_input.specs.Fronts.{ahead_of, IsFront, GaveAtMost, GaveRest, ReachesGraph, ReadsBehind, exhausted, farthest, Takes, Appends}
use Rattle.gm_input.specs.Names.{AreFront}

-- these bytes were read so far, where it is told
abbrev pub SoFar : Option (List ℕ) → Option (List ℕ) → List ℕ → Type 0
SoFar None now bytes = now ≡ None
SoFar (Some left) now bytes = (rest : List ℕ) × (now ≡ Some rest) × (left ≡ bytes ++ rest)

-- the state of a reading
pub record IsReading (old now : Option (List ℕ)) (faults_old faults_now : ℕ) (bytes : List ℕ) (line : LineSoFar) (most buffer : ℕ) : Type 0 where
  pub buffer_len : buffer ≡ 65536
  pub quiet : faults_now ≡ faults_old
  pub so_far : SoFar old now bytes
  pub read : AreRead bytes line
  pub size : length bytes ≤ farthest most

-- nothing was read yet
pub so_far_none : (now : Option (List ℕ)) → SoFar now now []
so_far_none None = refl
so_far_none (Some left) = (left, refl, refl)

takes_more : (left : List ℕ) (now after : Option (List ℕ)) (bytes more : List ℕ) → SoFar (Some left) now bytes → Takes now after more → SoFar (Some left) after (bytes ++ more)
takes_more left now after bytes more e t =
    let p : Takes (Some e.0) after more = rw e.1 at t in
    (p.0, p.2, e.2 ∙ rw p.1 (sym (append_assoc bytes more p.0)))

-- one piece more
pub so_far_more : (old now after : Option (List ℕ)) (bytes more : List ℕ) (k : ℕ) → SoFar old now bytes → Appends now after bytes more k → SoFar old after more
so_far_more None now after bytes more k e p =
    let t : Takes None after p.more = rw e at p.taken in
    t
so_far_more (Some left) now after bytes more k e p = rw p.added (takes_more left now after bytes p.more e p.taken)

-- how many bytes there are after one piece
pub longer_by : (now after : Option (List ℕ)) (bytes more : List ℕ) (k : ℕ) → Appends now after bytes more k → length more ≡ length bytes + k
longer_by now after bytes more k p = ap length p.added ∙ length-append bytes p.more ∙ ap (λ (n : ℕ). length bytes + n) p.count

-- what was read before is at the front
pub front_kept : (now after : Option (List ℕ)) (bytes more : List ℕ) (k : ℕ) → Appends now after bytes more k → take (length bytes) more ≡ bytes
front_kept now after bytes more k p = rw p.added (take-append_seam bytes p.more)

-- so many bytes were read
pub gave : (old now : Option (List ℕ)) (bytes : List ℕ) (most : ℕ) → SoFar old now bytes → length bytes ≤ most → GaveAtMost old now most
gave None now bytes most e few = e
gave (Some left) now bytes most e few = (length bytes, few, e.1 ∙ ap Some (rw e.2 (sym (drop-append_seam bytes e.0))))

-- the bytes of the last line that belong to the program where the text ends
kept_at_end : LineSoFar → List ℕ
kept_at_end Empty = []
kept_at_end OneSign = 37 ∷ []
kept_at_end TwoSigns = []
kept_at_end SignsAndReturn = []
kept_at_end Other = []

held_ends : (line : LineSoFar) → held line ≡ kept_at_end line ++ held_at_end line
unfolding kept_at_end
held_ends Empty = refl
held_ends OneSign = refl
held_ends TwoSigns = refl
held_ends SignsAndReturn = refl
held_ends Other = refl

program_ends : (line : LineSoFar) → program_from (begins line) (held line ++ []) ≡ kept_at_end line
unfolding kept_at_end
program_ends Empty = refl
program_ends OneSign = refl
program_ends TwoSigns = refl
program_ends SignsAndReturn = refl
program_ends Other = refl

graph_ends : (line : LineSoFar) → graph_from (begins line) (held line ++ []) ≡ []
graph_ends Empty = refl
graph_ends OneSign = refl
graph_ends TwoSigns = refl
graph_ends SignsAndReturn = refl
graph_ends Other = refl

pub at_end_few : (line : LineSoFar) → length (held_at_end line) ≤ length (held line)
at_end_few Empty = omega arith
at_end_few OneSign = omega arith
at_end_few TwoSigns = omega arith
at_end_few SignsAndReturn = omega arith
at_end_few Other = omega arith

-- what is held was read
pub held_read : (bytes : List ℕ) (line : LineSoFar) → AreRead bytes line → length (held line) ≤ length bytes
held_read bytes line read =
    let parts : length bytes ≡ length read.known + length (held line) = ap length read.all ∙ length-append read.known (held line) in
    omega arith

-- the program of a text that ends
pub program_whole : (bytes : List ℕ) (line : LineSoFar) → AreRead bytes line → program_part bytes ≡ take (length bytes - length (held_at_end line)) bytes
program_whole bytes line read =
    let end : program_part (bytes ++ []) ≡ read.known ++ kept_at_end line = read.program [] ∙ ap (λ (xs : List ℕ). read.known ++ xs) (program_ends line) in
    let same : program_part bytes ≡ read.known ++ kept_at_end line = rw append-nil at end in
    let parts : bytes ≡ (read.known ++ kept_at_end line) ++ held_at_end line = read.all ∙ rw (held_ends line) (sym (append_assoc read.known (kept_at_end line) (held_at_end line))) in
    let size : length bytes ≡ length (read.known ++ kept_at_end line) + length (held_at_end line) = ap length parts ∙ length-append (read.known ++ kept_at_end line) (held_at_end line) in
    let count : length bytes - length (held_at_end line) ≡ length (read.known ++ kept_at_end line) = omega arith in
    let front : take (length (read.known ++ kept_at_end line)) bytes ≡ read.known ++ kept_at_end line = ap (take (length (read.known ++ kept_at_end line))) parts ∙ take-append_seam (read.known ++ kept_at_end line) (held_at_end line) in
    rw count (same ∙ sym front)

take_of_take : (most n count : ℕ) (xs : List ℕ) → count ≡ min n most → take count xs ≡ take most (take n xs)
take_of_take most n count xs e =
    elim (cases_lt n most) [
      | inl more ↦
          let same : count ≡ n = omega arith in
          let few : length (take n xs) ≤ most = rw (length-take n xs) (omega arith) in
          rw same (sym (take_all most (take n xs) few))
      | inr few ↦
          let same : count ≡ most = omega arith in
          rw same (sym (take-take most n xs few))
    ]

-- the front of it
pub program_front : (bytes : List ℕ) (line : LineSoFar) (most count : ℕ) → AreRead bytes line → count ≡ min (length bytes - length (held_at_end line)) most
    → take count bytes ≡ take most (program_part bytes)
program_front bytes line most count read size =
    take_of_take most (length bytes - length (held_at_end line)) count bytes size ∙ ap (take most) (sym (program_whole bytes line read))

-- it has no graph
pub graph_whole : (bytes : List ℕ) (line : LineSoFar) → AreRead bytes line → graph_part bytes ≡ []
graph_whole bytes line read =
    let end : graph_part (bytes ++ []) ≡ [] = read.graph [] ∙ graph_ends line in
    rw append-nil at end

-- the front of a program that has so many bytes and more
pub program_long : (bytes rest : List ℕ) (line : LineSoFar) (most : ℕ) → AreRead bytes line → most + length (held line) ≤ length bytes
    → take most bytes ≡ take most (program_part (bytes ++ rest))
program_long bytes rest line most read long =
    let parts : length bytes ≡ length read.known + length (held line) = ap length read.all ∙ length-append read.known (held line) in
    let few : most ≤ length read.known = omega arith in
    let left : take most bytes ≡ take most read.known = ap (take most) read.all ∙ take-append-le most read.known (held line) few in
    let right : take most (program_part (bytes ++ rest)) ≡ take most read.known =
    ap (take most) (read.program rest) ∙ take-append-le most read.known (program_from (begins line) (held line ++ rest)) few in
    left ∙ sym right

no_items : (xs : List ℕ) → length xs ≡ 0 → xs ≡ []
no_items [] e = refl
no_items (x ∷ xs) e = absurd (omega (arith, e))

-- the input ended
pub front_ended : (old now after : Option (List ℕ)) (bytes more program ahead : List ℕ) (most : ℕ) (ended : Bool) → SoFar old now bytes → Appends now after bytes more 0
    → program ≡ take most (program_part more) → graph_part more ≡ [] → ahead ≡ [] → ended ≡ true → IsFront old after most program ahead ended
front_ended None now after bytes more program ahead most ended e p same none no_more at_end =
    let t : Takes None after p.more = rw e at p.taken in
    record { text = more; told = tt; program_read = same; graph_left = λ short. rw t tt }
front_ended (Some left) now after bytes more program ahead most ended e p same none no_more at_end =
    let t : Takes (Some e.0) after p.more = rw e.1 at p.taken in
    let nothing : e.0 ≡ [] = t.3 p.count in
    let size : length p.more ≡ 0 = p.count in
    let all : more ≡ left = p.added ∙ ap (λ (xs : List ℕ). bytes ++ xs) (no_items p.more size ∙ sym nothing) ∙ sym e.2 in
    record { text = more; told = all; program_read = same; graph_left = λ short. rw (t.2, at_end, no_more) none }

-- the line that parts the texts was found
pub front_parted : (old after : Option (List ℕ)) (bytes program ahead : List ℕ) (start end most : ℕ) (ended : Bool) → SoFar old after bytes → AreParted bytes start end
    → program ≡ take most (take start bytes) → ahead ≡ drop end bytes → ended ≡ false → IsFront old after most program ahead ended
front_parted None after bytes program ahead start end most ended e p same behind going_on = record {
  text = bytes ++ [];
  told = tt;
  program_read = same ∙ ap (take most) (sym (p.program []));
  graph_left = λ short. rw e tt;
}
front_parted (Some left) after bytes program ahead start end most ended e p same behind going_on = record {
  text = bytes ++ e.0;
  told = sym e.2;
  program_read = same ∙ ap (take most) (sym (p.program e.0));
  graph_left = λ short. rw (e.1, going_on, behind) (p.graph e.0);
}

-- the program has as many bytes as are read at most
pub front_long : (old after : Option (List ℕ)) (bytes program ahead : List ℕ) (most : ℕ) (ended : Bool) → SoFar old after bytes
    → ((rest : List ℕ) → program ≡ take most (program_part (bytes ++ rest))) → length program ≡ most → IsFront old after most program ahead ended
front_long None after bytes program ahead most ended e same full = record {
  text = bytes ++ [];
  told = tt;
  program_read = same [];
  graph_left = λ (short : length program < most). absurd (omega (arith, short, full));
}
front_long (Some left) after bytes program ahead most ended e same full = record {
  text = bytes ++ e.0;
  told = sym e.2;
  program_read = same e.0;
  graph_left = λ (short : length program < most). absurd (omega (arith, short, full));
}

-- ---- how far was read

-- nothing came: the input ended
ended_so : (old now after : Option (List ℕ)) (bytes more : List ℕ) → SoFar old now bytes → Appends now after bytes more 0 → after ≡ exhausted old
ended_so None now after bytes more e p =
    let t : Takes None after p.more = rw e at p.taken in
    t
ended_so (Some left) now after bytes more e p =
    let t : Takes (Some e.0) after p.more = rw e.1 at p.taken in
    let nothing : e.0 ≡ [] = t.3 p.count in
    let none : p.more ≡ [] = no_items p.more p.count in
    let rest : t.0 ≡ [] = subst (λ (xs : List ℕ). xs ++ t.0 ≡ []) none (sym t.1 ∙ nothing) in
    t.2 ∙ ap Some rest

pub at_end : (old now after : Option (List ℕ)) (bytes more : List ℕ) → SoFar old now bytes → Appends now after bytes more 0 → after ≡ exhausted old
at_end = ended_so

-- all was read
all_reached : (most : ℕ) (old after : Option (List ℕ)) → after ≡ exhausted old → ReachesGraph most old after
all_reached most None after e = e
all_reached most (Some left) after e = (length left, omega arith, omega arith, e ∙ ap Some (sym (drop_all (length left) left (omega arith))))

pub far_ended : (old now after : Option (List ℕ)) (bytes more : List ℕ) (most : ℕ) → SoFar old now bytes → Appends now after bytes more 0 → ReachesGraph most old after
far_ended old now after bytes more most e p = all_reached most old after (ended_so old now after bytes more e p)

-- the line that parts the texts was found
pub far_parted : (old after : Option (List ℕ)) (bytes : List ℕ) (start end most : ℕ) → SoFar old after bytes → AreParted bytes start end → ReachesGraph most old after
far_parted None after bytes start end most e p = e
far_parted (Some left) after bytes start end most e p =
    let graph : graph_part left ≡ drop end bytes ++ e.0 = ap graph_part e.2 ∙ p.graph e.0 in
    let tail : length (graph_part left) ≡ length (drop end bytes) + length e.0 = ap length graph ∙ length-append (drop end bytes) e.0 in
    let dropped : length (drop end bytes) ≡ length bytes - end = length-drop end bytes in
    let whole : length left ≡ length bytes + length e.0 = ap length e.2 ∙ length-append bytes e.0 in
    (length bytes, omega (arith, tail, dropped, whole, p.within), omega (arith, whole), e.1 ∙ ap Some (rw e.2 (sym (drop-append_seam bytes e.0))))

-- as many bytes were read as are asked for
pub far_long : (old after : Option (List ℕ)) (bytes : List ℕ) (most : ℕ) → SoFar old after bytes → most ≤ length bytes → ReachesGraph most old after
far_long None after bytes most e long = e
far_long (Some left) after bytes most e long =
    let whole : length left ≡ length bytes + length e.0 = ap length e.2 ∙ length-append bytes e.0 in
    (length bytes, omega (arith, long), omega (arith, whole), e.1 ∙ ap Some (rw e.2 (sym (drop-append_seam bytes e.0))))

-- ---- behind some bytes

-- the state of a reading of what a source has, behind some bytes
pub record IsReadingBehind (old now : Option (List ℕ)) (faults_old faults_now : ℕ) (ahead bytes : List ℕ) (most buffer : ℕ) : Type 0 where
  pub buffer_len : buffer ≡ 65536
  pub quiet : faults_now ≡ faults_old
  pub read : List ℕ
  pub behind : bytes ≡ ahead ++ read
  pub so_far : SoFar old now read
  pub near : length read ≤ (most - length ahead) + 65536

-- one piece more, behind some bytes
pub behind_more : (old now after : Option (List ℕ)) (ahead read bytes more : List ℕ) (k : ℕ) → bytes ≡ ahead ++ read → SoFar old now read → Appends now after bytes more k
    → (longer : List ℕ) × (more ≡ ahead ++ longer) × (length longer ≡ length read + k) × SoFar old after longer
behind_more old now after ahead read bytes more k e s p =
    let part : Appends now after read (read ++ p.more) k = record { more = p.more; added = refl; count = p.count; taken = p.taken } in
    (read ++ p.more, p.added ∙ rw e (append_assoc ahead read p.more), longer_by now after read (read ++ p.more) k part, so_far_more old now after read (read ++ p.more) k s part)

some_same : (x y : List ℕ) → Some x ≡ Some y → x ≡ y
some_same x y e = cc

-- what was read, where there is enough or nothing is left
pub behind_done : (old now : Option (List ℕ)) (most : ℕ) (ahead read bytes : List ℕ) → bytes ≡ ahead ++ read → SoFar old now read → length read ≤ (most - length ahead) + 65536
    → (most ≤ length bytes) ⊎ (now ≡ exhausted old) → ReadsBehind most ahead old now bytes
behind_done None now most ahead read bytes e s near enough = s
behind_done (Some left) now most ahead read bytes e s near (inl long) = record { read = read; rest = s.0; all = s.2; put = e; still = s.1; enough = inl long; near = near }
behind_done (Some left) now most ahead read bytes e s near (inr none) =
    record { read = read; rest = s.0; all = s.2; put = e; still = s.1; enough = inr (some_same s.0 [] (sym s.1 ∙ none)); near = near }

-- nothing came
pub behind_ended : (old now after : Option (List ℕ)) (most : ℕ) (ahead read bytes more : List ℕ) → bytes ≡ ahead ++ read → SoFar old now read → Appends now after bytes more 0
    → length read ≤ (most - length ahead) + 65536 → ReadsBehind most ahead old after more
behind_ended old now after most ahead read bytes more e s p near =
    let part : Appends now after read (read ++ p.more) 0 = record { more = p.more; added = refl; count = p.count; taken = p.taken } in
    let longer = behind_more old now after ahead read bytes more 0 e s p in
    let size : length longer.0 ≤ (most - length ahead) + 65536 = omega (arith, longer.2, near) in
    behind_done old after most ahead longer.0 more longer.1 longer.3 size (inr (ended_so old now after read (read ++ p.more) s part))

-- ---- all that stands behind some bytes

few_taken : (most : ℕ) (xs bytes : List ℕ) → bytes ≡ take most xs → length bytes ≤ most
few_taken most xs bytes e = let size : length bytes ≡ min most (length xs) = ap length e ∙ length-take most xs in omega (arith, size)

-- the input was seen to end before
pub rest_at_end : (left : Option (List ℕ)) (ahead bytes : List ℕ) (ended : Bool) (most : ℕ) → ended ≡ true → bytes ≡ take most ahead → AreFront (ahead_of ahead ended left) bytes most
rest_at_end None ahead bytes ended most is e = few_taken most ahead bytes e
rest_at_end (Some left) ahead bytes ended most is e = rw (is, append-nil) e

pub gave_at_end : (left : Option (List ℕ)) (ahead : List ℕ) (ended : Bool) (most : ℕ) → ended ≡ true → GaveRest most ahead ended left left
gave_at_end left ahead ended most is = rw is refl

-- it was read on
pub rest_behind : (left after : Option (List ℕ)) (ahead read bytes : List ℕ) (ended : Bool) (most : ℕ) → ended ≡ false → ReadsBehind most ahead left after read → bytes ≡ take most read
    → AreFront (ahead_of ahead ended left) bytes most
rest_behind None after ahead read bytes ended most is r e = few_taken most read bytes e
rest_behind (Some left) after ahead read bytes ended most is r e =
    let all : ahead ++ left ≡ read ++ r.rest = ap (λ (xs : List ℕ). ahead ++ xs) r.all ∙ sym (append_assoc ahead r.read r.rest) ∙ ap (λ (xs : List ℕ). xs ++ r.rest) (sym r.put) in
    let front : take most (read ++ r.rest) ≡ take most read = elim r.enough [
      | inl long ↦ take-append-le most read r.rest long
      | inr none ↦ rw (none, append-nil) refl
    ] in
    rw is (e ∙ sym front ∙ ap (take most) (sym all))

pub gave_behind : (left after : Option (List ℕ)) (ahead read : List ℕ) (ended : Bool) (most : ℕ) → ended ≡ false → ReadsBehind most ahead left after read → GaveRest most ahead ended left after
gave_behind None after ahead read ended most is r = rw is r
gave_behind (Some left) after ahead read ended most is r =
    let whole : length left ≡ length r.read + length r.rest = ap length r.all ∙ length-append r.read r.rest in
    let put : length read ≡ length ahead + length r.read = ap length r.put ∙ length-append ahead r.read in
    let least : min (length left) (most - length ahead) ≤ length r.read = elim r.enough [
      | inl long ↦ omega (arith, long, put)
      | inr none ↦ let size : length r.rest ≡ 0 = ap length none in omega (arith, size, whole)
    ] in
    let same : after ≡ Some (drop (length r.read) left) = r.still ∙ ap Some (rw r.all (sym (drop-append_seam r.read r.rest))) in
    rw is ((length r.read, least, omega (arith, whole), same), (length r.read, r.near, same))
