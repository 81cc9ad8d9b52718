-- The file of an image is that of its process.
use Rattle.std.proofs.Common.{◌≡◌, ℕ, ◌+◌, ◌-◌, ◌*◌, ◌^◌, ◌<◌, ◌≤◌, List, [], ◌∷◌, ◌++◌, append_assoc, length, length-append, All, refl, sym, ap, ◌∙◌, subst, arith}
use Rattle.std.specs.Prelude.{replicate, flat_map}
use Rattle.std.specs.Option.{IfSome}
use Rattle.std.specs.List.{slice_index}
use Rattle.std.proofs.lemmas.List.{get_or-append_right, length-replicate}
use Rattle.std.proofs.Math.ListN.{get_or-append}
use Rattle.fy_base.specs.Outside.{Bytes}
use Rattle.fy_base.specs.declared.data.Place.{Place}
use Rattle.fy_image.specs.declared.image.Image.{Image}
use Rattle.fy_image.specs.declared.version.Version.TheVariants.{One}
use Rattle.fy_image.specs.Form.{word, double, place_bytes}
use Rattle.fy_image.proofs.Lists.{words_long, doubles_long}
use Rattle.fy_elf.specs.Elf.{number_bytes, numbers_bytes, identification, note_header}
use Rattle.fy_elf.specs.Memory.{elf_entry}
use Rattle.rv_insn.specs.Program.{Program}
use Rattle.rv_guard.specs.declared.pieces.Piece.{Piece}
use Rattle.rv_guard.specs.Guarded.{setting_of}
use Rattle.fy_linux.specs.declared.layout.Layout.{Layout}
use Rattle.fy_linux.specs.declared.symbols.Symbol.{Symbol}
use Rattle.fy_linux.specs.Code.{stubs_start, linux_code}
use Rattle.fy_linux.specs.File.{file_header, program_header, segments, code_segment, table_segment, stack_segment, note_segment, system_stack, section_header, sections, section_names, table_offset, code_padding, head, behind_head, file_of, linux_file, layout_of, symbols_of, symbol_table, symbol_strings, IsLinuxFile}
use Rattle.fy_linux.specs.Memory.{FileLoads}
use Rattle.fy_linux.specs.Notes.{linux_table}
use Rattle.fy_linux.specs.Process.{IsLinuxProgram, process_start}
use Rattle.fy_linux.specs.Stubs.{own_bytes}
use Rattle.fy_linux.proofs.Loading.{IsSmall, Holds, Starts, offset_is, pages_there, entry_there, memory_there}
use Rattle.fy_linux.proofs.Sizes.{words_are, code_long, table_long}
use Rattle.fy_linux.proofs.Words.{one_spelling}

abbrev fronts : ℕ → Layout → Bytes
fronts start l = numbers_bytes (file_header start l)

abbrev segs : Layout → Bytes
segs l = numbers_bytes (flat_map program_header (segments l))

fronts_long : (start : ℕ) (l : Layout) → length (fronts start l) ≡ 64
unfolding file_header identification numbers_bytes number_bytes
fronts_long start l = refl

segs_long : (l : Layout) → length (segs l) ≡ 280
unfolding program_header segments code_segment table_segment stack_segment note_segment system_stack numbers_bytes number_bytes
segs_long l = refl

head_long : (start : ℕ) (l : Layout) → length (head start l) ≡ 4096
unfolding head
head_long start l =
    omega (
      arith,
      length-append (fronts start l) (segs l ++ replicate 3752 0),
      length-append (segs l) (replicate 3752 0),
      fronts_long start l,
      segs_long l,
      length-replicate {A = ℕ} 3752 0,
    )

-- behind the headers
abbrev rest_of : Bytes → Bytes
rest_of behind = replicate 3752 0 ++ behind

starts_so : (start : ℕ) (l : Layout) (behind : Bytes) → head start l ++ behind ≡ fronts start l ++ (segs l ++ rest_of behind)
unfolding head
starts_so start l behind =
    append_assoc (fronts start l) (segs l ++ replicate 3752 0) behind ∙ ap (λ b. fronts start l ++ b) (append_assoc (segs l) (replicate 3752 0) behind)

-- what stands behind the table
abbrev tail_of : List Place → Bytes → Bytes → Layout → Bytes
tail_of places symbols strings l =
    numbers_bytes (note_header (length places))
    ++ (flat_map (place_bytes One) places
    ++ (symbols
    ++ (numbers_bytes (flat_map section_header (sections l))
    ++ (strings
    ++ section_names))))

code_there : (start : ℕ) (l : Layout) (words table : List ℕ) (places : List Place) (symbols strings : Bytes) (k : ℕ) → k < 4 * length words
    → slice_index (head start l ++ behind_head words table places symbols strings l) (4096 + k) ≡ slice_index (flat_map word words) k
unfolding behind_head
code_there start l words table places symbols strings k low =
    let code : Bytes = flat_map word words in
    let more : Bytes = code_padding l ++ (flat_map double table ++ tail_of places symbols strings l) in
    let e : 4096 + k - 4096 ≡ k = omega arith in
    get_or-append_right (head start l) (code ++ more) 4096 (4096 + k) 0 (head_long start l) (omega arith)
    ∙ ap (λ n. slice_index (code ++ more) n) e
    ∙ get_or-append code more 0 k (omega (arith, words_long words (length words) refl))

table_there : (start : ℕ) (l : Layout) (words table : List ℕ) (places : List Place) (symbols strings : Bytes) (k : ℕ) → length words ≡ l.code_words → k < 8 * length table
    → slice_index (head start l ++ behind_head words table places symbols strings l) (table_offset l + k) ≡ slice_index (flat_map double table) k
unfolding behind_head
table_there start l words table places symbols strings k many low =
    let c = l.code_words in
    let p = length (code_padding l) in
    let code : Bytes = flat_map word words in
    let own : Bytes = flat_map double table in
    let more = tail_of places symbols strings l in
    let n0 = table_offset l + k in
    let offset = offset_is l in
    let e : n0 - 4096 - 4 * c - p ≡ k = omega arith in
    get_or-append_right (head start l) (code ++ (code_padding l ++ (own ++ more))) 4096 n0 0 (head_long start l) (omega arith)
    ∙ get_or-append_right code (code_padding l ++ (own ++ more)) (4 * c) (n0 - 4096) 0 (words_long words c many) (omega arith)
    ∙ get_or-append_right (code_padding l) (own ++ more) p (n0 - 4096 - 4 * c) 0 refl (omega arith)
    ∙ ap (λ n. slice_index (own ++ more) n) e
    ∙ get_or-append own more 0 k (omega (arith, doubles_long table (length table) refl))

-- ---- the file of an image

abbrev layout_in : Image → List Piece → List ℕ → Layout
layout_in image pieces words = layout_of image words (symbols_of image pieces)

abbrev behind_in : Image → List Piece → List ℕ → Bytes
behind_in image pieces words =
    behind_head words (linux_table image) image.places (numbers_bytes (symbol_table (symbols_of image pieces))) (symbol_strings (symbols_of image pieces)) (layout_in image pieces words)

file_is : (image : Image) (pieces : List Piece) (words : List ℕ) → linux_file image pieces words ≡ head (stubs_start image) (layout_in image pieces words) ++ behind_in image pieces words
unfolding linux_file file_of
file_is image pieces words = refl

layout_small : (image : Image) (bytes : Bytes) (f : IsLinuxFile image bytes) → IsSmall (layout_in image f.guarded.pieces f.words)
unfolding layout_of
layout_small image bytes f =
    let code_most = f.fits.ranges.code_most in
    let table_most = f.fits.ranges.table_most in
    let places_most = f.fits.ranges.places_most in
    record {
      code = omega (arith, words_are (linux_code image f.guarded.pieces) f.words f.are, code_long image (setting_of image f.guarded.code) f.guarded.code f.guarded.pieces f.guarded.cut f.guarded.read);
      table = omega (arith, table_long image);
      stack = f.fits.ranges.stack_most;
      places = places_most;
    }

many_words : (image : Image) (pieces : List Piece) (words : List ℕ) → length words ≡ (layout_in image pieces words).code_words
unfolding layout_of
many_words image pieces words = refl

many_doubles : (image : Image) (pieces : List Piece) (words : List ℕ) → length (linux_table image) ≡ (layout_in image pieces words).table_words
unfolding layout_of
many_doubles image pieces words = refl

stack_words : (image : Image) (pieces : List Piece) (words : List ℕ) → (layout_in image pieces words).stack_words ≡ image.stack_words
unfolding layout_of
stack_words image pieces words = refl

holds : (image : Image) (bytes : Bytes) (f : IsLinuxFile image bytes)
    → Holds (stubs_start image) (layout_in image f.guarded.pieces f.words) (rest_of (behind_in image f.guarded.pieces f.words)) bytes f.words (linux_table image)
holds image bytes f =
    let pieces = f.guarded.pieces in
    let words = f.words in
    let start = stubs_start image in
    let l = layout_in image pieces words in
    let table = linux_table image in
    let symbols = numbers_bytes (symbol_table (symbols_of image pieces)) in
    let strings = symbol_strings (symbols_of image pieces) in
    let is : bytes ≡ head start l ++ behind_in image pieces words = f.spelled ∙ file_is image pieces words in
    record {
      small = layout_small image bytes f;
      is = is ∙ starts_so start l (behind_in image pieces words);
      words_long = many_words image pieces words;
      table_long = many_doubles image pieces words;
      code_at = λ k low. ap (λ b. slice_index b (4096 + k)) is ∙ code_there start l words table image.places symbols strings k (omega (arith, many_words image pieces words));
      table_at = λ k low. ap (λ b. slice_index b (table_offset l + k)) is ∙ table_there start l words table image.places symbols strings k (many_words image pieces words) (omega (arith, many_doubles image pieces words));
    }

stack_is : (image : Image) (regs : List ℕ) (input : Bytes) → (process_start image regs input).core.stack ≡ replicate (8 * image.stack_words + own_bytes) 0
unfolding process_start
stack_is image regs input = refl

pc_is : (image : Image) (regs : List ℕ) (input : Bytes) → (process_start image regs input).core.pc ≡ stubs_start image
unfolding process_start
pc_is image regs input = refl

starts : (image : Image) (bytes : Bytes) (f : IsLinuxFile image bytes) (program : Program) (regs : List ℕ) (input : Bytes) → IsLinuxProgram image f.guarded.pieces program
    → Starts (layout_in image f.guarded.pieces f.words) f.words (linux_table image) program (process_start image regs input).core.stack
starts image bytes f program regs input is = record {
  words_are = one_spelling (linux_code image f.guarded.pieces) program.words f.words is.are f.are;
  table_is = is.table_is;
  stack_is = stack_is image regs input ∙ ap (λ n. replicate (8 * n + own_bytes) 0) (sym (stack_words image f.guarded.pieces f.words));
}

-- the file of an image loads as its process starts
pub image_loads : (image : Image) (bytes : Bytes) (f : IsLinuxFile image bytes) → FileLoads image f.guarded.pieces bytes
image_loads image bytes f =
    let pieces = f.guarded.pieces in
    let l = layout_in image pieces f.words in
    let rest = rest_of (behind_in image pieces f.words) in
    let start = stubs_start image in
    let h = holds image bytes f in
    record {
      pages = pages_there start l rest bytes f.words (linux_table image) h;
      entry = λ regs input. entry_there start l rest bytes f.words (linux_table image) h (let most = f.fits.ranges.code_most in omega arith) ∙ sym (pc_is image regs input);
      memory = λ program regs input address is. memory_there start l rest bytes f.words (linux_table image) program (process_start image regs input).core.stack address h (starts image bytes f program regs input is);
    }
