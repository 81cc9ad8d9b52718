-- What a loader makes of the file of an image is what the image's machine starts with.
use Rattle.std.proofs.Common.{◌≡◌, ◌⊎◌, inl, inr, ℕ, ◌+◌, ◌-◌, ◌*◌, ◌%◌, ◌^◌, ◌<◌, ◌≤◌, Bool, true, false, ltb, List, [], ◌∷◌, ◌++◌, length, sym, ap, ◌∙◌, refl, arith, Some, None, Option}
use Rattle.std.specs.Prelude.{replicate, IfOk}
use Rattle.std.specs.declared.result.Result.{Result}
use Rattle.std.specs.declared.result.Result.TheVariants.{Ok, Err}
use Rattle.std.specs.List.{slice_index, flat_map}
use Rattle.std.specs.Int.{w64, from_le_bytes}
use Rattle.std.proofs.lemmas.Bool.{cases_lt, le-ltb}
use Rattle.std.proofs.lemmas.List.{get_or-append_right, length-replicate, get_or-replicate}
use Rattle.std.proofs.Math.ListN.{get_or-append}
use Rattle.std.proofs.Math.Nat.{mod-lt}
use Rattle.std.proofs.lemmas.Nat.{from_le_bytes-to_le_bytes_8, div-add-mod'}
use Rattle.fy_base.specs.Outside.{Bytes}
use Rattle.fy_image.specs.declared.image.Image.{Image}
use Rattle.fy_image.specs.declared.version.Version.TheVariants.{One}
use Rattle.fy_image.specs.Form.{FitsFields, word, double, place_bytes}
use Rattle.fy_image.specs.Machine.{IsProgramOf, start_of}
use Rattle.fy_image.specs.Start.{start_memory}
use Rattle.fy_image.proofs.Lists.{words_long, doubles_long}
use Rattle.fy_elf.specs.Elf.{number_bytes, numbers_bytes, identification, file_header, segment_start, segment_end, program_header, headers, table_offset, note_offset, code_segment, table_segment, stack_segment, note_segment, padding, note_header, contents_of, sizes_of, elf_of, IsElfBytes}
use Rattle.fy_elf.specs.Reading.{SizesFit}
use Rattle.fy_elf.specs.Memory.{ProgramHeader, program_headers_of, or_else, loaded_by, first_loaded, elf_memory, elf_entry, byte_loaded, LoadsAsStart}
use Rattle.fy_elf.specs.declared.headers.Sizes.{Sizes}
use Rattle.fy_elf.specs.declared.error.ElfError.{ElfError}
use Rattle.fy_elf.proofs.Regions.{load_header, loaded_in, loaded_below, loaded_above, filled_within, lies_within, lies_below, lies_above, stack_byte, table_byte, code_byte, no_byte}
use Rattle.fy_elf.proofs.Unique.{head_of, head_long, padding_long, padding_short, sizes_fit}
use Rattle.rv_insn.specs.declared.instructions.LoadOp.TheVariants.{Lbu}
use Rattle.rv_insn.specs.Memory.{lies_in, load}
use Rattle.rv_insn.specs.Program.{Program, code_start, table_start, stack_start, code_bytes, table_bytes}

-- ---- the program headers that a file has

abbrev read_back : ℕ → ℕ
read_back n = from_le_bytes w64 (double n)

abbrev four : ℕ → ℕ → ℕ → ℕ → ℕ → ℕ → List ProgramHeader
four code table table_at stack note note_at =
    load_header 288 65536 code code
    ∷ load_header table_at 536870912 table table
    ∷ load_header 0 1073741824 0 stack
    ∷ record { kind = 4; offset = note_at; address = 0; file_size = note; memory_size = note }
    ∷ []

raw_headers : (z : Sizes) (rest : Bytes) → program_headers_of (numbers_bytes (headers z) ++ rest)
    ≡ four (read_back (4 * z.code_words)) (read_back (8 * z.table_words)) (read_back (table_offset z.code_words)) (read_back (8 * z.stack_words)) (read_back (16 + 8 * z.places)) (read_back (note_offset z.code_words z.table_words))
unfolding program_headers_of headers file_header identification program_header segment_start segment_end code_segment table_segment stack_segment note_segment numbers_bytes number_bytes
raw_headers z rest = refl

pub entry_is : (z : Sizes) (rest : Bytes) → elf_entry (numbers_bytes (headers z) ++ rest) ≡ 65536
unfolding elf_entry headers file_header identification program_header segment_start segment_end code_segment table_segment stack_segment note_segment numbers_bytes number_bytes
entry_is z rest = refl

double_back : (n : ℕ) → n < 2 ^ 64 → read_back n ≡ n
double_back n fits = from_le_bytes-to_le_bytes_8 n fits

-- where the table is
pub fill_is : (c : ℕ) → table_offset c ≡ 288 + 4 * c + length (padding c)
unfolding table_offset
fill_is c =
    let m = 288 + 4 * c + 7 in
    let low : m % 8 < 8 = mod-lt m (omega arith) in
    omega (arith, padding_long c, div-add-mod' m 8, low)

offset_fits : (c t : ℕ) → c ≤ 4194304 → t ≤ 1048576 → (table_offset c < 2 ^ 64) × (note_offset c t < 2 ^ 64)
unfolding note_offset
offset_fits c t most many = (omega (arith, fill_is c, padding_short c), omega (arith, fill_is c, padding_short c))

abbrev headers_of_sizes : Sizes → List ProgramHeader
headers_of_sizes z = four (4 * z.code_words) (8 * z.table_words) (table_offset z.code_words) (8 * z.stack_words) (16 + 8 * z.places) (note_offset z.code_words z.table_words)

pub program_headers_are : (z : Sizes) (rest : Bytes) → SizesFit z → program_headers_of (numbers_bytes (headers z) ++ rest) ≡ headers_of_sizes z
program_headers_are z rest fits =
    let code_most = fits.code_most in
    let table_most = fits.table_most in
    let stack_most = fits.stack_most in
    let places_most = fits.places_most in
    let offsets = offset_fits z.code_words z.table_words code_most table_most in
    let c = double_back (4 * z.code_words) (omega arith) in
    let t = double_back (8 * z.table_words) (omega arith) in
    let q = double_back (table_offset z.code_words) offsets.0 in
    let s = double_back (8 * z.stack_words) (omega arith) in
    let n = double_back (16 + 8 * z.places) (omega arith) in
    let o = double_back (note_offset z.code_words z.table_words) offsets.1 in
    raw_headers z rest ∙ (λ i. four (c i) (t i) (q i) (s i) (n i) (o i))

-- ---- the bytes in the file

code_at : (image : Image) (k : ℕ) → k < 4 * length image.code → slice_index (elf_of image) (288 + k) ≡ slice_index (flat_map word image.code) k
unfolding elf_of contents_of
code_at image k low =
    let rest : Bytes = padding (length image.code) ++ (flat_map double image.table ++ (numbers_bytes (note_header (length image.places)) ++ flat_map (place_bytes One) image.places)) in
    let code : Bytes = flat_map word image.code in
    let e : 288 + k - 288 ≡ k = omega arith in
    get_or-append_right (head_of image) (code ++ rest) 288 (288 + k) 0 (head_long (sizes_of image)) (omega arith)
    ∙ ap (λ n. slice_index (code ++ rest) n) e
    ∙ get_or-append code rest 0 k (omega (arith, words_long image.code (length image.code) refl))

table_at : (image : Image) (k : ℕ) → k < 8 * length image.table → slice_index (elf_of image) (table_offset (length image.code) + k) ≡ slice_index (flat_map double image.table) k
unfolding elf_of contents_of
table_at image k low =
    let c = length image.code in
    let p = length (padding c) in
    let rest : Bytes = numbers_bytes (note_header (length image.places)) ++ flat_map (place_bytes One) image.places in
    let code : Bytes = flat_map word image.code in
    let table : Bytes = flat_map double image.table in
    let n0 = table_offset c + k in
    let offset = fill_is c in
    let e1 : n0 - 288 - 4 * c - p ≡ k = omega arith in
    get_or-append_right (head_of image) (code ++ (padding c ++ (table ++ rest))) 288 n0 0 (head_long (sizes_of image)) (omega arith)
    ∙ get_or-append_right code (padding c ++ (table ++ rest)) (4 * c) (n0 - 288) 0 (words_long image.code c refl) (omega arith)
    ∙ get_or-append_right (padding c) (table ++ rest) p (n0 - 288 - 4 * c) 0 refl (omega arith)
    ∙ ap (λ n. slice_index (table ++ rest) n) e1
    ∙ get_or-append table rest 0 k (omega (arith, doubles_long image.table (length image.table) refl))

-- ---- the machine's memory

stack_is : (image : Image) → (start_of image).stack ≡ replicate (8 * image.stack_words) 0
unfolding start_of start_memory
stack_is image = refl

stack_long : (image : Image) → length (start_of image).stack ≡ 8 * image.stack_words
stack_long image = ap (λ b. length b) (stack_is image) ∙ length-replicate (8 * image.stack_words) 0

code_words_are : (image : Image) (p : Program) → IsProgramOf image p → code_bytes p ≡ flat_map word image.code
code_words_are image p is = ap (λ words. flat_map word words) is.words_are

table_words_are : (image : Image) (p : Program) → IsProgramOf image p → table_bytes p ≡ flat_map double image.table
table_words_are image p is = ap (λ words. flat_map double words) is.table_is

-- the machine's byte at an address
abbrev machine_byte : Image → Program → ℕ → Option ℕ
machine_byte image p a = byte_loaded (load p (start_of image).stack Lbu a)

-- whether an address lies in the regions
abbrev in_stack : Image → ℕ → Bool
in_stack image a = lies_in stack_start (8 * image.stack_words) a 1

abbrev in_table : Image → ℕ → Bool
in_table image a = lies_in table_start (8 * length image.table) a 1

abbrev in_code : Image → ℕ → Bool
in_code image a = lies_in code_start (4 * length image.code) a 1

stack_test : (image : Image) (a : ℕ) (b : Bool) → in_stack image a ≡ b → lies_in stack_start (length (start_of image).stack) a 1 ≡ b
stack_test image a b is = ap (λ n. lies_in stack_start n a 1) (stack_long image) ∙ is

table_test : (image : Image) (p : Program) → IsProgramOf image p → (a : ℕ) (b : Bool) → in_table image a ≡ b → lies_in table_start (8 * length p.table) a 1 ≡ b
table_test image p program a b is = ap (λ words. lies_in table_start (8 * length words) a 1) program.table_is ∙ is

code_test : (image : Image) (p : Program) → IsProgramOf image p → (a : ℕ) (b : Bool) → in_code image a ≡ b → lies_in code_start (4 * length p.words) a 1 ≡ b
code_test image p program a b is = ap (λ words. lies_in code_start (4 * length words) a 1) program.words_are ∙ is

machine_code : (image : Image) (p : Program) → IsProgramOf image p → (a : ℕ) → in_stack image a ≡ false → in_table image a ≡ false → in_code image a ≡ true → machine_byte image p a ≡ Some (slice_index (flat_map word image.code) (a - code_start))
machine_code image p program a s t c =
    code_byte p (start_of image).stack a (stack_test image a false s) (table_test image p program a false t) (code_test image p program a true c)
    ∙ ap (λ b. Some (slice_index b (a - code_start))) (code_words_are image p program)

machine_table : (image : Image) (p : Program) → IsProgramOf image p → (a : ℕ) → in_stack image a ≡ false → in_table image a ≡ true → machine_byte image p a ≡ Some (slice_index (flat_map double image.table) (a - table_start))
machine_table image p program a s t =
    table_byte p (start_of image).stack a (stack_test image a false s) (table_test image p program a true t)
    ∙ ap (λ b. Some (slice_index b (a - table_start))) (table_words_are image p program)

machine_stack : (image : Image) (p : Program) (a : ℕ) → stack_start ≤ a → a < stack_start + 8 * image.stack_words → machine_byte image p a ≡ Some 0
machine_stack image p a low high =
    stack_byte p (start_of image).stack a (stack_test image a true (lies_within stack_start (8 * image.stack_words) a low high))
    ∙ ap (λ b. Some (slice_index b (a - stack_start))) (stack_is image)
    ∙ ap (λ n. Some n) (get_or-replicate (8 * image.stack_words) (a - stack_start) 0 0 (omega arith))

-- ---- both

-- what the segments load
abbrev segments_byte : Image → ℕ → Option ℕ
segments_byte image a =
    or_else (loaded_by (elf_of image) (load_header 288 65536 (4 * length image.code) (4 * length image.code)) a)
    (or_else (loaded_by (elf_of image) (load_header (table_offset (length image.code)) 536870912 (8 * length image.table) (8 * length image.table)) a)
    (or_else (loaded_by (elf_of image) (load_header 0 1073741824 0 (8 * image.stack_words)) a)
    None))

memory_is : (image : Image) (a : ℕ) → FitsFields image → elf_memory (elf_of image) a ≡ segments_byte image a
unfolding elf_memory elf_of sizes_of
memory_is image a fits = ap (λ h. first_loaded (elf_of image) h a) (program_headers_are (sizes_of image) (contents_of image) (sizes_fit image fits))

-- an address below a region or past it
abbrev Outside : ℕ → ℕ → ℕ → Type 0
Outside start count a = (a < start) ⊎ (start + count ≤ a)

lies_outside : (start count a : ℕ) → Outside start count a → lies_in start count a 1 ≡ false
lies_outside start count a (inl low) = lies_below start count a low
lies_outside start count a (inr high) = lies_above start count a high

loaded_outside : (bytes : Bytes) (o s f m a : ℕ) → Outside s m a → loaded_by bytes (load_header o s f m) a ≡ None
loaded_outside bytes o s f m a (inl low) = loaded_below bytes o s f m a low
loaded_outside bytes o s f m a (inr high) = loaded_above bytes o s f m a high

same_code : (image : Image) (p : Program) → IsProgramOf image p → FitsFields image → (a : ℕ) → 65536 ≤ a → a < 65536 + 4 * length image.code → segments_byte image a ≡ machine_byte image p a
same_code image p program fits a low high =
    let most = fits.ranges.code_most in
    let c = 4 * length image.code in
    let k = a - 65536 in
    let loaded = loaded_in (elf_of image) 288 65536 c c a low high ∙ ap (λ n. Some n) (filled_within (elf_of image) 288 c k (omega arith) ∙ code_at image k (omega arith)) in
    rw loaded (sym (machine_code image p program a (lies_below stack_start (8 * image.stack_words) a (omega arith)) (lies_below table_start (8 * length image.table) a (omega arith)) (lies_within code_start c a low high)))

same_table : (image : Image) (p : Program) → IsProgramOf image p → FitsFields image → (a : ℕ) → 536870912 ≤ a → a < 536870912 + 8 * length image.table → segments_byte image a ≡ machine_byte image p a
same_table image p program fits a low high =
    let code_most = fits.ranges.code_most in
    let most = fits.ranges.table_most in
    let c = 4 * length image.code in
    let t = 8 * length image.table in
    let k = a - 536870912 in
    let q = table_offset (length image.code) in
    let first = loaded_above (elf_of image) 288 65536 c c a (omega arith) in
    let loaded = loaded_in (elf_of image) q 536870912 t t a low high ∙ ap (λ n. Some n) (filled_within (elf_of image) q t k (omega arith) ∙ table_at image k (omega arith)) in
    rw (first, loaded) (sym (machine_table image p program a (lies_below stack_start (8 * image.stack_words) a (omega arith)) (lies_within table_start t a low high)))

same_stack : (image : Image) (p : Program) → FitsFields image → (a : ℕ) → 1073741824 ≤ a → a < 1073741824 + 8 * image.stack_words → segments_byte image a ≡ machine_byte image p a
same_stack image p fits a low high =
    let code_most = fits.ranges.code_most in
    let table_most = fits.ranges.table_most in
    let c = 4 * length image.code in
    let t = 8 * length image.table in
    let q = table_offset (length image.code) in
    let first = loaded_above (elf_of image) 288 65536 c c a (omega arith) in
    let second = loaded_above (elf_of image) q 536870912 t t a (omega arith) in
    let zeros : ltb (a - 1073741824) 0 ≡ false = le-ltb (a - 1073741824) 0 (omega arith) in
    let loaded = loaded_in (elf_of image) 0 1073741824 0 (8 * image.stack_words) a low high in
    rw (first, second, loaded, zeros) (sym (machine_stack image p a low high))

same_outside : (image : Image) (p : Program) → IsProgramOf image p → (a : ℕ) → Outside 65536 (4 * length image.code) a → Outside 536870912 (8 * length image.table) a → Outside 1073741824 (8 * image.stack_words) a
    → segments_byte image a ≡ machine_byte image p a
same_outside image p program a c t s =
    let code = 4 * length image.code in
    let table = 8 * length image.table in
    let stack = 8 * image.stack_words in
    let q = table_offset (length image.code) in
    let first = loaded_outside (elf_of image) 288 65536 code code a c in
    let second = loaded_outside (elf_of image) q 536870912 table table a t in
    let third = loaded_outside (elf_of image) 0 1073741824 0 stack a s in
    rw (first, second, third)
    (sym (no_byte p (start_of image).stack a (stack_test image a false (lies_outside stack_start stack a s)) (table_test image p program a false (lies_outside table_start table a t)) (code_test image p program a false (lies_outside code_start code a c))))

-- in a region or outside
place_of : (start count a : ℕ) → ((start ≤ a) × (a < start + count)) ⊎ Outside start count a
place_of start count a = elim (cases_lt a start) [
  | inl below ↦ inr (inl below)
  | inr from ↦ elim (cases_lt a (start + count)) [ inl within ↦ inl (from, within) | inr past ↦ inr (inr past) ]
]

same_byte : (image : Image) (p : Program) → IsProgramOf image p → FitsFields image → (a : ℕ) → segments_byte image a ≡ machine_byte image p a
same_byte image p program fits a = elim (place_of 65536 (4 * length image.code) a) [
  | inl code ↦ same_code image p program fits a code.0 code.1
  | inr c ↦ elim (place_of 536870912 (8 * length image.table) a) [
    | inl table ↦ same_table image p program fits a table.0 table.1
    | inr t ↦ elim (place_of 1073741824 (8 * image.stack_words) a) [
      | inl stack ↦ same_stack image p fits a stack.0 stack.1
      | inr s ↦ same_outside image p program a c t s
    ]
  ]
]

start_pc : (image : Image) → (start_of image).pc ≡ 65536
unfolding start_of start_memory
start_pc image = refl

entry_of : (image : Image) → elf_entry (elf_of image) ≡ 65536
unfolding elf_of
entry_of image = entry_is (sizes_of image) (contents_of image)

-- the file of an image loads as the image's machine starts
pub image_loads : (image : Image) (bytes : Bytes) → IsElfBytes image bytes → LoadsAsStart image bytes
image_loads image bytes is = record {
  entry = ap (λ b. elf_entry b) is.spelled ∙ entry_of image ∙ sym (start_pc image);
  memory = λ p program a. ap (λ b. elf_memory b a) is.spelled ∙ memory_is image a is.fits ∙ same_byte image p program is.fits a;
}

pub loads_as_read : (result : Result Image ElfError) (bytes : Bytes) → IfOk result (λ image. IsElfBytes image bytes) → IfOk result (λ image. LoadsAsStart image bytes)
loads_as_read (Ok image) bytes found = image_loads image bytes found
loads_as_read (Err error) bytes found = found
