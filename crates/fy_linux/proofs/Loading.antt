-- What Linux makes of the file of an image is what its process starts with.
use Rattle.std.proofs.Common.{◌≡◌, ◌⊎◌, inl, inr, ℕ, suc, ◌+◌, ◌-◌, ◌*◌, ◌/◌, ◌%◌, ◌^◌, ◌<◌, ◌≤◌, Bool, true, false, ltb, leb, eqb, List, [], ◌∷◌, ◌++◌, length, length-append, map, All, sym, ap, ◌∙◌, refl, arith, subst, Some, None, Option}
use Rattle.std.specs.Prelude.{replicate, flat_map}
use Rattle.std.specs.Option.{IfSome}
use Rattle.std.specs.List.{slice_index}
use Rattle.std.specs.Int.{w64, from_le_bytes}
use Rattle.std.proofs.lemmas.Bool.{cases_lt, le-ltb, lt-ltb, le-leb, lt-leb, ne_eqb}
use Rattle.std.proofs.lemmas.List.{get_or-append_right, length-replicate, get_or-replicate}
use Rattle.std.proofs.lemmas.List.Elements.{All-from_recursion}
use Rattle.std.proofs.Math.ListN.{get_or-append}
use Rattle.std.proofs.Math.Nat.{mul-mod_left}
use Rattle.std.proofs.lemmas.Nat.{from_le_bytes-to_le_bytes_8}
use Rattle.fy_base.specs.Outside.{Bytes}
use Rattle.fy_base.specs.declared.data.Place.{Place}
use Rattle.fy_image.specs.declared.image.Image.{Image}
use Rattle.fy_image.specs.declared.version.Version.TheVariants.{One}
use Rattle.fy_image.specs.Form.{word, double, place_bytes}
use Rattle.fy_image.proofs.Lists.{words_long, doubles_long}
use Rattle.fy_elf.specs.Elf.{number_bytes, numbers_bytes, identification, note_header}
use Rattle.fy_elf.specs.Memory.{elf_entry, byte_loaded}
use Rattle.fy_elf.proofs.Regions.{lies_within, lies_below, lies_above, stack_byte, table_byte, code_byte, no_byte}
use Rattle.rv_insn.specs.declared.instructions.LoadOp.TheVariants.{Lbu}
use Rattle.rv_insn.specs.Memory.{lies_in, load}
use Rattle.rv_insn.specs.Program.{Program, code_start, table_start, stack_start, code_bytes, table_bytes}
use Rattle.rv_guard.specs.declared.pieces.Piece.{Piece}
use Rattle.fy_linux.specs.declared.layout.Layout.{Layout}
use Rattle.fy_linux.specs.declared.layout.Segment.{Segment}
use Rattle.fy_linux.specs.Code.{stubs_start}
use Rattle.fy_linux.specs.File.{page_up, file_header, program_header, segments, code_segment, table_segment, stack_segment, note_segment, system_stack, table_offset, note_offset, code_padding, section_offset, symbol_offset, head}
use Rattle.fy_linux.specs.Memory.{LoadHeader, Mapped, load_headers, load_header_at, segment_byte, mapped_by, or_else, first_mapped, linux_memory, BeginsPage, use_of}
use Rattle.fy_linux.specs.Process.{process_start}
use Rattle.fy_linux.specs.Stubs.{own_bytes}
use Rattle.fy_linux.proofs.Sizes.{page_low, page_high}

-- ---- the headers that a file has

abbrev read_back : ℕ → ℕ
read_back n = from_le_bytes w64 (double n)

abbrev loaded : ℕ → ℕ → ℕ → ℕ → ℕ → LoadHeader
loaded flags offset address file_size memory_size = record { kind = 1; flags = flags; offset = offset; address = address; file_size = file_size; memory_size = memory_size }

abbrev five : ℕ → ℕ → ℕ → ℕ → ℕ → ℕ → List LoadHeader
five code table table_at stack note note_at =
    loaded 5 4096 65536 code code
    ∷ loaded 4 table_at 536870912 table table
    ∷ loaded 6 0 1073741824 0 stack
    ∷ record { kind = 4; flags = 4; offset = note_at; address = 0; file_size = note; memory_size = note }
    ∷ record { kind = 1685382481; flags = 6; offset = 0; address = 0; file_size = 0; memory_size = 0 }
    ∷ []

abbrev start_of : ℕ → Layout → Bytes → Bytes
start_of start l rest = numbers_bytes (file_header start l) ++ (numbers_bytes (flat_map program_header (segments l)) ++ rest)

raw_headers : (start : ℕ) (l : Layout) (rest : Bytes) → load_headers (start_of start l rest)
    ≡ five (read_back (4 * l.code_words)) (read_back (8 * l.table_words)) (read_back (table_offset l)) (read_back (8 * l.stack_words + own_bytes)) (read_back (16 + 8 * l.places)) (read_back (note_offset l))
unfolding load_headers file_header identification program_header segments code_segment table_segment stack_segment note_segment system_stack numbers_bytes number_bytes
raw_headers start l rest = refl

raw_entry : (start : ℕ) (l : Layout) (rest : Bytes) → elf_entry (start_of start l rest) ≡ read_back start
unfolding elf_entry file_header identification numbers_bytes number_bytes
raw_entry start l rest = refl

-- ---- how much there is

pub record IsSmall (l : Layout) : Type 0 where
  pub code : l.code_words ≤ 4194449
  pub table : l.table_words ≤ 3145752
  pub stack : l.stack_words ≤ 67108864
  pub places : l.places ≤ 524288

double_back : (n : ℕ) → n < 2 ^ 64 → read_back n ≡ n
double_back n fits = from_le_bytes-to_le_bytes_8 n fits

pub offset_is : (l : Layout) → table_offset l ≡ 4096 + 4 * l.code_words + length (code_padding l)
unfolding table_offset code_padding
offset_is l =
    let n = 4096 + 4 * l.code_words in
    omega (arith, length-replicate {A = ℕ} (page_up n - n) 0, page_low n)

offset_high : (l : Layout) → table_offset l ≤ 4096 + 4 * l.code_words + 4095
unfolding table_offset
offset_high l = page_high (4096 + 4 * l.code_words)

note_small : (l : Layout) → IsSmall l → note_offset l < 2 ^ 64
unfolding note_offset
note_small l small = omega (arith, offset_high l, small.code, small.table)

abbrev headers_of : Layout → List LoadHeader
headers_of l = five (4 * l.code_words) (8 * l.table_words) (table_offset l) (8 * l.stack_words + own_bytes) (16 + 8 * l.places) (note_offset l)

headers_are : (start : ℕ) (l : Layout) (rest : Bytes) → IsSmall l → load_headers (start_of start l rest) ≡ headers_of l
headers_are start l rest small =
    let code = small.code in
    let table = small.table in
    let stack = small.stack in
    let places = small.places in
    let c = double_back (4 * l.code_words) (omega arith) in
    let t = double_back (8 * l.table_words) (omega arith) in
    let q = double_back (table_offset l) (omega (arith, offset_high l)) in
    let s = double_back (8 * l.stack_words + own_bytes) (omega arith) in
    let n = double_back (16 + 8 * l.places) (omega arith) in
    let o = double_back (note_offset l) (note_small l small) in
    raw_headers start l rest ∙ (λ i. five (c i) (t i) (q i) (s i) (n i) (o i))

-- each segment begins with a page
page_whole : (n : ℕ) → page_up n % 4096 ≡ 0
unfolding page_up
page_whole n = mul-mod_left ((n + 4095) / 4096) 4096

offset_whole : (l : Layout) → table_offset l % 4096 ≡ 0
unfolding table_offset
offset_whole l = page_whole (4096 + 4 * l.code_words)

pages_begin : (l : Layout) → All BeginsPage (headers_of l)
pages_begin l = All-from_recursion BeginsPage (headers_of l)
    ((λ e. (refl, refl, omega arith)), ((λ e. (refl, offset_whole l, omega arith)), ((λ e. (refl, refl, omega arith)), ((λ e. absurd (cc)), ((λ e. absurd (cc)), tt)))))

pub pages_of : (start : ℕ) (l : Layout) (rest : Bytes) → IsSmall l → All BeginsPage (load_headers (start_of start l rest))
pages_of start l rest small = let P : List LoadHeader → Type 0 = λ hs. All BeginsPage hs in subst P (sym (headers_are start l rest small)) (pages_begin l)

-- ---- a segment

mapped_in : (bytes : Bytes) (f o s fs m a : ℕ) → s ≤ a → a < s + m → mapped_by bytes (loaded f o s fs m) a ≡ Some (record { byte = segment_byte bytes (loaded f o s fs m) (a - s); flags = f })
mapped_in bytes f o s fs m a low high =
    let l : leb s a ≡ true = le-leb s a low in
    let h : ltb a (page_up (s + m)) ≡ true = lt-ltb a (page_up (s + m)) (omega (arith, page_low (s + m))) in
    rw (l, h) refl

mapped_below : (bytes : Bytes) (f o s fs m a : ℕ) → a < s → mapped_by bytes (loaded f o s fs m) a ≡ None
mapped_below bytes f o s fs m a low = let l : leb s a ≡ false = lt-leb s a low in rw l refl

mapped_above : (bytes : Bytes) (f o s fs m a : ℕ) → s ≤ a → s + m + 4095 ≤ a → mapped_by bytes (loaded f o s fs m) a ≡ None
mapped_above bytes f o s fs m a low high =
    let l : leb s a ≡ true = le-leb s a low in
    let h : ltb a (page_up (s + m)) ≡ false = le-ltb a (page_up (s + m)) (omega (arith, page_high (s + m))) in
    rw (l, h) refl

byte_in_file : (bytes : Bytes) (f o s fs m k : ℕ) → k < fs → segment_byte bytes (loaded f o s fs m) k ≡ slice_index bytes (o + k)
byte_in_file bytes f o s fs m k low = let l : ltb k fs ≡ true = lt-ltb k fs low in rw l refl

byte_zero : (bytes : Bytes) (f o s m k : ℕ) → 0 < m → segment_byte bytes (loaded f o s 0 m) k ≡ 0
byte_zero bytes f o s m k some =
    let l : ltb k 0 ≡ false = le-ltb k 0 (omega arith) in
    let e : eqb 0 m ≡ false = ne_eqb 0 m (λ e. omega arith) in
    rw (l, e) refl

-- ---- the memory

-- a file that begins so, and holds these words and this table where it says
pub record Holds (start : ℕ) (l : Layout) (rest bytes : Bytes) (words table : List ℕ) : Type 0 where
  pub small : IsSmall l
  pub is : bytes ≡ start_of start l rest
  pub words_long : length words ≡ l.code_words
  pub table_long : length table ≡ l.table_words
  pub code_at : (k : ℕ) → k < 4 * l.code_words → slice_index bytes (4096 + k) ≡ slice_index (flat_map word words) k
  pub table_at : (k : ℕ) → k < 8 * l.table_words → slice_index bytes (table_offset l + k) ≡ slice_index (flat_map double table) k

-- a process with that code and table, and with so many bytes of stack, all 0
pub record Starts (l : Layout) (words table : List ℕ) (program : Program) (stack : Bytes) : Type 0 where
  pub words_are : program.words ≡ words
  pub table_is : program.table ≡ table
  pub stack_is : stack ≡ replicate (8 * l.stack_words + own_bytes) 0

abbrev memory_of : Layout → Bytes → ℕ → Option Mapped
memory_of l bytes a =
    or_else (mapped_by bytes (loaded 5 4096 65536 (4 * l.code_words) (4 * l.code_words)) a)
    (or_else (mapped_by bytes (loaded 4 (table_offset l) 536870912 (8 * l.table_words) (8 * l.table_words)) a)
    (or_else (mapped_by bytes (loaded 6 0 1073741824 0 (8 * l.stack_words + own_bytes)) a)
    None))

memory_is : (start : ℕ) (l : Layout) (rest bytes : Bytes) (words table : List ℕ) (a : ℕ) → Holds start l rest bytes words table → linux_memory bytes a ≡ memory_of l bytes a
unfolding linux_memory
memory_is start l rest bytes words table a h =
    ap (λ hs. first_mapped bytes hs a) (ap (λ b. load_headers b) h.is ∙ headers_are start l rest h.small)

-- what the process reads at an address, and the byte that stands there
abbrev IsThere : Layout → Bytes → Program → Bytes → ℕ → Type 0
IsThere l bytes program stack a = IfSome (byte_loaded (load program stack Lbu a)) (λ byte. memory_of l bytes a ≡ Some (record { byte = byte; flags = use_of a }))

there : (l : Layout) (bytes : Bytes) (program : Program) (stack : Bytes) (a byte : ℕ) → byte_loaded (load program stack Lbu a) ≡ Some byte → memory_of l bytes a ≡ Some (record { byte = byte; flags = use_of a })
    → IsThere l bytes program stack a
there l bytes program stack a byte is same = let P : Option ℕ → Type 0 = λ o. IfSome o (λ b. memory_of l bytes a ≡ Some (record { byte = b; flags = use_of a })) in subst P (sym is) same

nothing_there : (l : Layout) (bytes : Bytes) (program : Program) (stack : Bytes) (a : ℕ) → byte_loaded (load program stack Lbu a) ≡ None → IsThere l bytes program stack a
nothing_there l bytes program stack a is = let P : Option ℕ → Type 0 = λ o. IfSome o (λ b. memory_of l bytes a ≡ Some (record { byte = b; flags = use_of a })) in subst P (sym is) tt

-- whether an address lies in the regions
stack_test : (l : Layout) (words table : List ℕ) (program : Program) (stack : Bytes) (a : ℕ) (b : Bool) → Starts l words table program stack → lies_in stack_start (8 * l.stack_words + own_bytes) a 1 ≡ b → lies_in stack_start (length stack) a 1 ≡ b
stack_test l words table program stack a b s is =
    let long : length stack ≡ 8 * l.stack_words + own_bytes = ap (λ x. length x) s.stack_is ∙ length-replicate {A = ℕ} (8 * l.stack_words + own_bytes) 0 in
    ap (λ n. lies_in stack_start n a 1) long ∙ is

table_test : (start : ℕ) (l : Layout) (rest bytes : Bytes) (words table : List ℕ) (program : Program) (stack : Bytes) (a : ℕ) (b : Bool) → Holds start l rest bytes words table → Starts l words table program stack
    → lies_in table_start (8 * l.table_words) a 1 ≡ b → lies_in table_start (8 * length program.table) a 1 ≡ b
table_test start l rest bytes words table program stack a b h s is = ap (λ n. lies_in table_start (8 * n) a 1) (ap (λ x. length x) s.table_is ∙ h.table_long) ∙ is

code_test : (start : ℕ) (l : Layout) (rest bytes : Bytes) (words table : List ℕ) (program : Program) (stack : Bytes) (a : ℕ) (b : Bool) → Holds start l rest bytes words table → Starts l words table program stack
    → lies_in code_start (4 * l.code_words) a 1 ≡ b → lies_in code_start (4 * length program.words) a 1 ≡ b
code_test start l rest bytes words table program stack a b h s is = ap (λ n. lies_in code_start (4 * n) a 1) (ap (λ x. length x) s.words_are ∙ h.words_long) ∙ is

same_code : (start : ℕ) (l : Layout) (rest bytes : Bytes) (words table : List ℕ) (program : Program) (stack : Bytes) (a : ℕ) → Holds start l rest bytes words table → Starts l words table program stack
    → 65536 ≤ a → a < 65536 + 4 * l.code_words → IsThere l bytes program stack a
same_code start l rest bytes words table program stack a h s low high =
    let most = h.small.code in
    let c = 4 * l.code_words in
    let k = a - 65536 in
    let t1 = stack_test l words table program stack a false s (lies_below stack_start (8 * l.stack_words + own_bytes) a (omega arith)) in
    let t2 = table_test start l rest bytes words table program stack a false h s (lies_below table_start (8 * l.table_words) a (omega arith)) in
    let t3 = code_test start l rest bytes words table program stack a true h s (lies_within code_start c a low high) in
    let e : code_bytes program ≡ flat_map word words = ap (λ ws. flat_map word ws) s.words_are in
    let m = mapped_in bytes 5 4096 65536 c c a low high in
    let b : segment_byte bytes (loaded 5 4096 65536 c c) k ≡ slice_index (flat_map word words) k = byte_in_file bytes 5 4096 65536 c c k (omega arith) ∙ h.code_at k (omega arith) in
    let u1 : leb stack_start a ≡ false = lt-leb stack_start a (omega arith) in
    let u2 : leb table_start a ≡ false = lt-leb table_start a (omega arith) in
    there l bytes program stack a (slice_index (flat_map word words) k) (code_byte program stack a t1 t2 t3 ∙ ap (λ x. Some (slice_index x k)) e) (rw (m, b, u1, u2) refl)

same_table : (start : ℕ) (l : Layout) (rest bytes : Bytes) (words table : List ℕ) (program : Program) (stack : Bytes) (a : ℕ) → Holds start l rest bytes words table → Starts l words table program stack
    → 536870912 ≤ a → a < 536870912 + 8 * l.table_words → IsThere l bytes program stack a
same_table start l rest bytes words table program stack a h s low high =
    let code_most = h.small.code in
    let most = h.small.table in
    let c = 4 * l.code_words in
    let t = 8 * l.table_words in
    let q = table_offset l in
    let k = a - 536870912 in
    let t1 = stack_test l words table program stack a false s (lies_below stack_start (8 * l.stack_words + own_bytes) a (omega arith)) in
    let t2 = table_test start l rest bytes words table program stack a true h s (lies_within table_start t a low high) in
    let e : table_bytes program ≡ flat_map double table = ap (λ ws. flat_map double ws) s.table_is in
    let m1 = mapped_above bytes 5 4096 65536 c c a (omega arith) (omega arith) in
    let m2 = mapped_in bytes 4 q 536870912 t t a low high in
    let b : segment_byte bytes (loaded 4 q 536870912 t t) k ≡ slice_index (flat_map double table) k = byte_in_file bytes 4 q 536870912 t t k (omega arith) ∙ h.table_at k (omega arith) in
    let u1 : leb stack_start a ≡ false = lt-leb stack_start a (omega arith) in
    let u2 : leb table_start a ≡ true = le-leb table_start a (omega arith) in
    there l bytes program stack a (slice_index (flat_map double table) k) (table_byte program stack a t1 t2 ∙ ap (λ x. Some (slice_index x k)) e) (rw (m1, m2, b, u1, u2) refl)

same_stack : (start : ℕ) (l : Layout) (rest bytes : Bytes) (words table : List ℕ) (program : Program) (stack : Bytes) (a : ℕ) → Holds start l rest bytes words table → Starts l words table program stack
    → 1073741824 ≤ a → a < 1073741824 + (8 * l.stack_words + own_bytes) → IsThere l bytes program stack a
same_stack start l rest bytes words table program stack a h s low high =
    let code_most = h.small.code in
    let table_most = h.small.table in
    let c = 4 * l.code_words in
    let t = 8 * l.table_words in
    let n = 8 * l.stack_words + own_bytes in
    let q = table_offset l in
    let k = a - 1073741824 in
    let t1 = stack_test l words table program stack a true s (lies_within stack_start n a low high) in
    let zero_there : slice_index stack k ≡ 0 = ap (λ x. slice_index x k) s.stack_is ∙ get_or-replicate n k 0 0 (omega arith) in
    let m1 = mapped_above bytes 5 4096 65536 c c a (omega arith) (omega arith) in
    let m2 = mapped_above bytes 4 q 536870912 t t a (omega arith) (omega arith) in
    let m3 = mapped_in bytes 6 0 1073741824 0 n a low high in
    let b = byte_zero bytes 6 0 1073741824 n k (omega arith) in
    let u1 : leb stack_start a ≡ true = le-leb stack_start a low in
    there l bytes program stack a 0 (stack_byte program stack a t1 ∙ ap (λ x. Some x) zero_there) (rw (m1, m2, m3, b, u1) refl)

-- an address below a region or past it
abbrev Outside : ℕ → ℕ → ℕ → Type 0
Outside start count a = (a < start) ⊎ (start + count ≤ a)

lies_outside : (start count a : ℕ) → Outside start count a → lies_in start count a 1 ≡ false
lies_outside start count a (inl low) = lies_below start count a low
lies_outside start count a (inr high) = lies_above start count a high

place_of : (start count a : ℕ) → ((start ≤ a) × (a < start + count)) ⊎ Outside start count a
place_of start count a = elim (cases_lt a start) [
  | inl below ↦ inr (inl below)
  | inr from ↦ elim (cases_lt a (start + count)) [ inl within ↦ inl (from, within) | inr past ↦ inr (inr past) ]
]

is_there : (start : ℕ) (l : Layout) (rest bytes : Bytes) (words table : List ℕ) (program : Program) (stack : Bytes) (a : ℕ) → Holds start l rest bytes words table → Starts l words table program stack → IsThere l bytes program stack a
is_there start l rest bytes words table program stack a h s = elim (place_of 65536 (4 * l.code_words) a) [
  | inl code ↦ same_code start l rest bytes words table program stack a h s code.0 code.1
  | inr c ↦ elim (place_of 536870912 (8 * l.table_words) a) [
    | inl at ↦ same_table start l rest bytes words table program stack a h s at.0 at.1
    | inr t ↦ elim (place_of 1073741824 (8 * l.stack_words + own_bytes) a) [
      | inl at ↦ same_stack start l rest bytes words table program stack a h s at.0 at.1
      | inr z ↦ nothing_there l bytes program stack a
          (no_byte program stack a
          (stack_test l words table program stack a false s (lies_outside stack_start (8 * l.stack_words + own_bytes) a z))
          (table_test start l rest bytes words table program stack a false h s (lies_outside table_start (8 * l.table_words) a t))
          (code_test start l rest bytes words table program stack a false h s (lies_outside code_start (4 * l.code_words) a c)))
    ]
  ]
]

pub memory_there : (start : ℕ) (l : Layout) (rest bytes : Bytes) (words table : List ℕ) (program : Program) (stack : Bytes) (a : ℕ) → Holds start l rest bytes words table → Starts l words table program stack
    → IfSome (byte_loaded (load program stack Lbu a)) (λ byte. linux_memory bytes a ≡ Some (record { byte = byte; flags = use_of a }))
memory_there start l rest bytes words table program stack a h s =
    let P : Option Mapped → Type 0 = λ m. IfSome (byte_loaded (load program stack Lbu a)) (λ byte. m ≡ Some (record { byte = byte; flags = use_of a })) in
    subst P (sym (memory_is start l rest bytes words table a h)) (is_there start l rest bytes words table program stack a h s)

pub entry_there : (start : ℕ) (l : Layout) (rest bytes : Bytes) (words table : List ℕ) → Holds start l rest bytes words table → start < 2 ^ 64 → elf_entry bytes ≡ start
entry_there start l rest bytes words table h fits = ap (λ b. elf_entry b) h.is ∙ raw_entry start l rest ∙ double_back start fits

pub pages_there : (start : ℕ) (l : Layout) (rest bytes : Bytes) (words table : List ℕ) → Holds start l rest bytes words table → All BeginsPage (load_headers bytes)
pages_there start l rest bytes words table h = let P : Bytes → Type 0 = λ b. All BeginsPage (load_headers b) in subst P (sym h.is) (pages_of start l rest h.small)
