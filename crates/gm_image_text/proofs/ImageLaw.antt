-- The whole of an image's text is read from its lines and from nothing else.
use Rattle.std.proofs.Common.{◌≡◌, ℕ, List, [], ◌∷◌, ◌++◌, length, refl, ap, sym, subst, arith}
use Rattle.std.specs.Prelude.{None, codes}
use Rattle.std.specs.Fmt.{decimal}
use Rattle.std.specs.List.{flat_map}
use Rattle.gm_base.specs.declared.places.Place.{Place}
use Rattle.gm_value.specs.declared.values.VType.TheVariants as vtype
use Rattle.gm_image.specs.declared.images.Kind.{Kind}
use Rattle.gm_image.specs.Program as P
use Rattle.gm_image.specs.Program.{Program, Item, Command, Handler, Block}
use Rattle.gm_image_text.specs.declared.heads.Version.{Version}
use Rattle.gm_image_text.specs.declared.heads.Version.TheVariants as version
use Rattle.gm_image_text.specs.Lines.{Word, Line, spaced}
use Rattle.gm_image.specs.Ranges.{IsIndex, ResultFits, PlaceIsIndex}
use Rattle.gm_image_text.specs.Fits.{IsPlain, IsName, LineFits, CommandFits, InputFits, OutputFits, ListFits, Any, HandlerFits, BlockFits, Fits}
use Rattle.gm_image_text.specs.Spelling.{version_words, type_word, vertex_words, command_words, item_words, result_words, kind_words, place_pair, one_line, listed, type_lines, handler_lines, block_lines, lines_in}
use Rattle.gm_image_text.specs.Reading as rows
use Rattle.gm_image_text.specs.Sections.{Reads, row_at, dep_at, then_at, times_at, listed_at, handler_of, vertex_at, handler_at, block_of, block_at, Opening, opening_at, types_at, Middle, middle_at, Closing, closing_at, image_of, image_at}
use Rattle.gm_image_text.proofs.Parts.{PartLaw, dep_law, mapped_law}
use Rattle.gm_image_text.proofs.Times.{Counted, times_law}
use Rattle.gm_image_text.proofs.LineLaw.{row_law}
use Rattle.gm_image_text.proofs.RowLaws.{type_law, first_law, name_law, count_law, OnFits, on_law, place_law, input_law, output_law, result_law, kind_law, vertex_law, vertex_nonempty, master_law, master_nonempty}

-- one part, and behind it another
then_law : {X Y : Type 0} (F : X → Type 0) (lines : X → List Line) (read : Reads X) (law : PartLaw F lines read) (G : Y → Type 0) (more : Y → List Line) (next : Reads Y) (next_law : PartLaw G more next) → PartLaw (λ z. F z.0 × G z.1) (λ z. lines z.0 ++ more z.1) (then_at read next)
then_law F lines read law G more next next_law = dep_law F lines read law (λ x. G) (λ x. more) (λ x. next) (λ x h. next_law)

-- a header with a count, and so many parts
header_lines : Word → ℕ → List Line
header_lines word n = spaced (word ∷ decimal n ∷ []) ∷ []

listed_law : {X : Type 0} (F : X → Type 0) (lines : X → List Line) (read : Reads X) (law : PartLaw F lines read) (word : Word) (plain : IsPlain word) → PartLaw (ListFits F) (listed word lines) (listed_at word read)
listed_law F lines read law word plain =
    mapped_law (λ z. IsIndex z.0 × Counted F z.0 z.1) (λ z. one_line (λ n. word ∷ decimal n ∷ []) z.0 ++ flat_map lines z.1) (dep_at (row_at (rows.count_row word)) (λ n ms. times_at read n ms))
    (dep_law IsIndex (one_line (λ n. word ∷ decimal n ∷ [])) (row_at (rows.count_row word))
    (row_law IsIndex (λ n. word ∷ decimal n ∷ []) (rows.count_row word) (count_law word plain) (λ n. omega arith) 0 (omega arith))
    (λ n xs. Counted F n xs) (λ n xs. flat_map lines xs) (λ n ms. times_at read n ms) (λ n h. times_law F lines read law n))
    (ListFits F) (listed word lines) (λ z. z.1) (λ xs. (length xs, xs))
    (record {
      there = λ z h. counted z.0 z.1 h.0 h.1;
      back = λ xs h. ((h.0, record { many = refl; each = h.1 }), refl);
    }) where
      counted : (n : ℕ) (xs : List _) → IsIndex n → Counted F n xs → ListFits F xs × (one_line (λ n. word ∷ decimal n ∷ []) n ++ flat_map lines xs ≡ listed word lines xs)
      counted n xs h c =
          let P : ℕ → Type 0 = IsIndex in
          ((subst P (sym c.many) h, c.each), ap (λ m. spaced (word ∷ decimal m ∷ []) ∷ flat_map lines xs) (sym c.many))

-- the lines of each kind
vertex_part : (v : Version) → PartLaw (LineFits v) (one_line vertex_words) (vertex_at v)
vertex_part v = row_law (LineFits v) vertex_words (rows.vertex_row v) (vertex_law v) vertex_nonempty (P.Each P.Out 0) (omega arith)

master_part : PartLaw CommandFits (one_line command_words) (row_at rows.master_row)
master_part = row_law CommandFits command_words rows.master_row master_law master_nonempty P.Finish tt

type_part : PartLaw Any type_lines (row_at rows.type_row)
type_part = row_law Any (λ v. type_word v ∷ []) rows.type_row type_law (λ v. omega arith) vtype.I32 tt

pub some_name : List ℕ
some_name = 120 ∷ []

pub some_is_name : IsName some_name
unfolding some_name
some_is_name = record { nonempty = omega arith; plain = refl }

pub some_item : Item
some_item = record { holder = P.Scalar; vtype = vtype.I32; name = some_name; slot = 0 }

pub some_input : InputFits some_item
unfolding some_item
some_input = (some_is_name, omega arith)

pub some_output : OutputFits some_item
unfolding some_item
some_output = (tt, some_is_name, omega arith)

input_part : PartLaw InputFits (one_line item_words) (row_at rows.input_row)
input_part = row_law InputFits item_words rows.input_row input_law (λ i. omega arith) some_item some_input

output_part : PartLaw OutputFits (one_line item_words) (row_at rows.output_row)
output_part = row_law OutputFits item_words rows.output_row output_law (λ i. omega arith) some_item some_output

kind_part : PartLaw Any (one_line kind_words) (row_at rows.kind_row)
kind_part = row_law Any kind_words rows.kind_row kind_law (λ k. omega arith) (record { combiner = None; values = [] }) tt

place_part : PartLaw PlaceIsIndex (one_line place_pair) (row_at rows.place_row)
place_part = row_law PlaceIsIndex place_pair rows.place_row place_law (λ p. omega arith) (record { line = 0; col = 0 }) (omega arith, omega arith)

first_part : PartLaw Any (one_line version_words) (row_at rows.first_row)
first_part = row_law Any version_words rows.first_row first_law (λ v. omega arith) version.Two tt

name_part : PartLaw IsName (one_line (λ n. codes "name" ∷ n ∷ [])) (row_at rows.name_row)
name_part = row_law IsName (λ n. codes "name" ∷ n ∷ []) rows.name_row name_law (λ n. omega arith) some_name some_is_name

result_part : PartLaw ResultFits (one_line result_words) (row_at rows.result_row)
result_part = row_law ResultFits result_words rows.result_row result_law (λ r. omega arith) None tt

-- handlers and blocks
pub handler_part : (v : Version) → PartLaw (HandlerFits v) handler_lines (handler_at v)
handler_part v =
    mapped_law (λ z. OnFits z.0 × Counted (LineFits v) z.0.1 z.1) (λ z. one_line (λ on. codes "on" ∷ decimal on.0 ∷ decimal on.1 ∷ []) z.0 ++ flat_map (one_line vertex_words) z.1) (dep_at (row_at rows.on_row) (λ on ms. times_at (vertex_at v) on.1 ms))
    (dep_law OnFits (one_line (λ on. codes "on" ∷ decimal on.0 ∷ decimal on.1 ∷ [])) (row_at rows.on_row)
    (row_law OnFits (λ on. codes "on" ∷ decimal on.0 ∷ decimal on.1 ∷ []) rows.on_row on_law (λ on. omega arith) (0, 0) (omega arith, omega arith))
    (λ on xs. Counted (LineFits v) on.1 xs) (λ on xs. flat_map (one_line vertex_words) xs) (λ on ms. times_at (vertex_at v) on.1 ms) (λ on h. times_law (LineFits v) (one_line vertex_words) (vertex_at v) (vertex_part v) on.1))
    (HandlerFits v) handler_lines handler_of (λ h. ((h.kind, length h.lines), h.lines))
    (record {
      there = λ z h. counted z.0.0 z.0.1 z.1 h.0.0 h.0.1 h.1;
      back = λ h f. (((f.0, f.1.0), record { many = refl; each = f.1.1 }), refl);
    }) where
      counted : (k n : ℕ) (xs : List P.Line) → IsIndex k → IsIndex n → Counted (LineFits v) n xs → HandlerFits v (handler_of ((k, n), xs)) × (spaced (codes "on" ∷ decimal k ∷ decimal n ∷ []) ∷ flat_map (one_line vertex_words) xs ≡ handler_lines (handler_of ((k, n), xs)))
      counted k n xs i h c =
          let Q : ℕ → Type 0 = IsIndex in
          ((i, (subst Q (sym c.many) h, c.each)), ap (λ m. spaced (codes "on" ∷ decimal k ∷ decimal m ∷ []) ∷ flat_map (one_line vertex_words) xs) (sym c.many))

pub block_part : (v : Version) → PartLaw (BlockFits v) block_lines (block_at v)
block_part v =
    mapped_law (λ z. ListFits (HandlerFits v) z.0 × ListFits (LineFits v) z.1) (λ z. listed (codes "block") handler_lines z.0 ++ listed (codes "body") (one_line vertex_words) z.1) (then_at (listed_at (codes "block") (handler_at v)) (listed_at (codes "body") (vertex_at v)))
    (then_law (ListFits (HandlerFits v)) (listed (codes "block") handler_lines) (listed_at (codes "block") (handler_at v)) (listed_law (HandlerFits v) handler_lines (handler_at v) (handler_part v) (codes "block") refl)
    (ListFits (LineFits v)) (listed (codes "body") (one_line vertex_words)) (listed_at (codes "body") (vertex_at v)) (listed_law (LineFits v) (one_line vertex_words) (vertex_at v) (vertex_part v) (codes "body") refl))
    (BlockFits v) block_lines block_of (λ b. (b.handlers, b.body))
    (record { there = λ z h. (h, refl); back = λ b h. (h, refl) })

-- the lines up to the result's
abbrev pub OpeningFits : Opening → Type 0
OpeningFits x = Unit {0} × (IsName x.1.0 × (ListFits InputFits x.1.1.0 × (ListFits OutputFits x.1.1.1.0 × ResultFits x.1.1.1.1)))

abbrev pub spelled_opening : Opening → List Line
spelled_opening x =
    one_line version_words x.0
    ++ (one_line (λ n. codes "name" ∷ n ∷ []) x.1.0
    ++ (listed (codes "inputs") (one_line item_words) x.1.1.0 ++ (listed (codes "outputs") (one_line item_words) x.1.1.1.0 ++ one_line result_words x.1.1.1.1)))

opening_part : PartLaw OpeningFits spelled_opening opening_at
unfolding opening_at
opening_part =
    then_law Any (one_line version_words) (row_at rows.first_row) first_part
    (λ y. IsName y.0 × (ListFits InputFits y.1.0 × (ListFits OutputFits y.1.1.0 × ResultFits y.1.1.1))) (λ y. one_line (λ n. codes "name" ∷ n ∷ []) y.0 ++ (listed (codes "inputs") (one_line item_words) y.1.0 ++ (listed (codes "outputs") (one_line item_words) y.1.1.0 ++ one_line result_words y.1.1.1)))
    (then_at (row_at rows.name_row) (then_at (listed_at (codes "inputs") (row_at rows.input_row)) (then_at (listed_at (codes "outputs") (row_at rows.output_row)) (row_at rows.result_row))))
    (then_law IsName (one_line (λ n. codes "name" ∷ n ∷ [])) (row_at rows.name_row) name_part
    (λ y. ListFits InputFits y.0 × (ListFits OutputFits y.1.0 × ResultFits y.1.1)) (λ y. listed (codes "inputs") (one_line item_words) y.0 ++ (listed (codes "outputs") (one_line item_words) y.1.0 ++ one_line result_words y.1.1))
    (then_at (listed_at (codes "inputs") (row_at rows.input_row)) (then_at (listed_at (codes "outputs") (row_at rows.output_row)) (row_at rows.result_row)))
    (then_law (ListFits InputFits) (listed (codes "inputs") (one_line item_words)) (listed_at (codes "inputs") (row_at rows.input_row)) (listed_law InputFits (one_line item_words) (row_at rows.input_row) input_part (codes "inputs") refl)
    (λ y. ListFits OutputFits y.0 × ResultFits y.1) (λ y. listed (codes "outputs") (one_line item_words) y.0 ++ one_line result_words y.1)
    (then_at (listed_at (codes "outputs") (row_at rows.output_row)) (row_at rows.result_row))
    (then_law (ListFits OutputFits) (listed (codes "outputs") (one_line item_words)) (listed_at (codes "outputs") (row_at rows.output_row)) (listed_law OutputFits (one_line item_words) (row_at rows.output_row) output_part (codes "outputs") refl)
    ResultFits (one_line result_words) (row_at rows.result_row) result_part)))

-- the lines from there to the places
types_law : (word : Word) (plain : IsPlain word) → PartLaw (ListFits Any) (listed word type_lines) (types_at word)
types_law word plain = listed_law Any type_lines (row_at rows.type_row) type_part word plain

abbrev pub MiddleFits : Middle → Type 0
MiddleFits x = ListFits Any x.0 × (ListFits Any x.1.0 × (ListFits Any x.1.1.0 × (ListFits Any x.1.1.1.0 × (ListFits Any x.1.1.1.1.0 × ListFits PlaceIsIndex x.1.1.1.1.1))))

abbrev pub spelled_middle : Middle → List Line
spelled_middle x =
    listed (codes "globals") type_lines x.0
    ++ (listed (codes "fields") type_lines x.1.0
    ++ (listed (codes "registers") type_lines x.1.1.0
    ++ (listed (codes "columns") type_lines x.1.1.1.0
    ++ (listed (codes "kinds") (one_line kind_words) x.1.1.1.1.0 ++ listed (codes "places") (one_line place_pair) x.1.1.1.1.1))))

abbrev LastTwo : List Kind × List Place → Type 0
LastTwo y = ListFits Any y.0 × ListFits PlaceIsIndex y.1

abbrev last_two : List Kind × List Place → List Line
last_two y = listed (codes "kinds") (one_line kind_words) y.0 ++ listed (codes "places") (one_line place_pair) y.1

abbrev last_two_at : Reads (List Kind × List Place)
last_two_at ls = then_at (listed_at (codes "kinds") (row_at rows.kind_row)) (listed_at (codes "places") (row_at rows.place_row)) ls

middle_part : PartLaw MiddleFits spelled_middle middle_at
unfolding middle_at
middle_part =
    then_law (ListFits Any) (listed (codes "globals") type_lines) (types_at (codes "globals")) (types_law (codes "globals") refl)
    (λ y. ListFits Any y.0 × (ListFits Any y.1.0 × (ListFits Any y.1.1.0 × LastTwo y.1.1.1))) (λ y. listed (codes "fields") type_lines y.0 ++ (listed (codes "registers") type_lines y.1.0 ++ (listed (codes "columns") type_lines y.1.1.0 ++ last_two y.1.1.1)))
    (then_at (types_at (codes "fields")) (then_at (types_at (codes "registers")) (then_at (types_at (codes "columns")) last_two_at)))
    (then_law (ListFits Any) (listed (codes "fields") type_lines) (types_at (codes "fields")) (types_law (codes "fields") refl)
    (λ y. ListFits Any y.0 × (ListFits Any y.1.0 × LastTwo y.1.1)) (λ y. listed (codes "registers") type_lines y.0 ++ (listed (codes "columns") type_lines y.1.0 ++ last_two y.1.1))
    (then_at (types_at (codes "registers")) (then_at (types_at (codes "columns")) last_two_at))
    (then_law (ListFits Any) (listed (codes "registers") type_lines) (types_at (codes "registers")) (types_law (codes "registers") refl)
    (λ y. ListFits Any y.0 × LastTwo y.1) (λ y. listed (codes "columns") type_lines y.0 ++ last_two y.1)
    (then_at (types_at (codes "columns")) last_two_at)
    (then_law (ListFits Any) (listed (codes "columns") type_lines) (types_at (codes "columns")) (types_law (codes "columns") refl)
    LastTwo last_two last_two_at
    (then_law (ListFits Any) (listed (codes "kinds") (one_line kind_words)) (listed_at (codes "kinds") (row_at rows.kind_row)) (listed_law Any (one_line kind_words) (row_at rows.kind_row) kind_part (codes "kinds") refl)
    (ListFits PlaceIsIndex) (listed (codes "places") (one_line place_pair)) (listed_at (codes "places") (row_at rows.place_row)) (listed_law PlaceIsIndex (one_line place_pair) (row_at rows.place_row) place_part (codes "places") refl)))))

-- the lines from there to the last
abbrev pub ClosingFits : Version → Closing → Type 0
ClosingFits v x = ListFits (BlockFits v) x.0 × ListFits CommandFits x.1

abbrev pub spelled_closing : Closing → List Line
spelled_closing x = listed (codes "blocks") block_lines x.0 ++ listed (codes "master") (one_line command_words) x.1

closing_part : (v : Version) → PartLaw (ClosingFits v) spelled_closing (closing_at v)
unfolding closing_at
closing_part v =
    then_law (ListFits (BlockFits v)) (listed (codes "blocks") block_lines) (listed_at (codes "blocks") (block_at v)) (listed_law (BlockFits v) block_lines (block_at v) (block_part v) (codes "blocks") refl)
    (ListFits CommandFits) (listed (codes "master") (one_line command_words)) (listed_at (codes "master") (row_at rows.master_row)) (listed_law CommandFits (one_line command_words) (row_at rows.master_row) master_part (codes "master") refl)

-- an image in a version
parts_of : Version × Program → Opening × (Middle × Closing)
parts_of z =
    let p = z.1 in
    ((z.0, (p.name, (p.inputs, (p.outputs, p.result)))), ((p.globals, (p.fields, (p.registers, (p.columns, (p.kinds, p.places))))), (p.blocks, p.master)))

abbrev BehindFits : Opening → Middle × Closing → Type 0
BehindFits o y = MiddleFits y.0 × ClosingFits o.0 y.1

abbrev spelled_behind : Middle × Closing → List Line
spelled_behind y = spelled_middle y.0 ++ spelled_closing y.1

abbrev pub ImageFits : Version × Program → Type 0
ImageFits z = Fits z.0 z.1

all_fit : (x : Opening × (Middle × Closing)) → OpeningFits x.0 × BehindFits x.0 x.1 → ImageFits (image_of x)
all_fit x h = record {
  name = h.0.1.0;
  inputs = h.0.1.1.0;
  outputs = h.0.1.1.1.0;
  result = h.0.1.1.1.1;
  globals = h.1.0.0;
  fields = h.1.0.1.0;
  registers = h.1.0.1.1.0;
  columns = h.1.0.1.1.1.0;
  kinds = h.1.0.1.1.1.1.0;
  places = h.1.0.1.1.1.1.1;
  blocks = h.1.1.0;
  master = h.1.1.1;
}

each_fits : (z : Version × Program) → ImageFits z → OpeningFits (parts_of z).0 × BehindFits (parts_of z).0 (parts_of z).1
unfolding parts_of
each_fits z h = ((tt, (h.name, (h.inputs, (h.outputs, h.result)))), ((h.globals, (h.fields, (h.registers, (h.columns, (h.kinds, h.places))))), (h.blocks, h.master)))

there_and_back : (z : Version × Program) → image_of (parts_of z) ≡ z
unfolding parts_of
there_and_back z = refl

pub image_law : PartLaw ImageFits (λ z. lines_in z.0 z.1) image_at
image_law =
    mapped_law (λ z. OpeningFits z.0 × BehindFits z.0 z.1) (λ z. spelled_opening z.0 ++ spelled_behind z.1) (dep_at opening_at (λ o ms. then_at middle_at (closing_at o.0) ms))
    (dep_law OpeningFits spelled_opening opening_at opening_part BehindFits (λ o. spelled_behind) (λ o ms. then_at middle_at (closing_at o.0) ms)
    (λ o f. then_law MiddleFits spelled_middle middle_at middle_part (ClosingFits o.0) spelled_closing (closing_at o.0) (closing_part o.0)))
    ImageFits (λ z. lines_in z.0 z.1) image_of parts_of
    (record {
      there = λ z h. (all_fit z h, refl);
      back = λ z h. (each_fits z h, there_and_back z);
    })
