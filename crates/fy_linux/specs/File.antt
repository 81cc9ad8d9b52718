-- The executable file of an image for Linux, number by number. All numbers are little-endian and without sign.
-- System V Application Binary Interface: "ELF Header", "Sections", "String Table", "Symbol Table", "Program Header", "Note Section"; RISC-V ELF psABI,
-- "File Header"; elf(5) of Linux (PT_GNU_STACK). Which numbers stand there for an image is this project's own.
use Rattle.std.specs.Prelude.{◌≡◌, ℕ, suc, ◌+◌, ◌-◌, ◌*◌, ◌/◌, List, [], ◌∷◌, ◌++◌, codes, length, map, replicate, flat_map, slice_get, Some, None}
use Rattle.std.specs.Fmt.{decimal}
use Rattle.std.specs.Int.{w32, from_le_bytes}
use Rattle.std.specs.declared.option.Option.{Option}
use Rattle.fy_base.specs.Outside.{Bytes}
use Rattle.fy_base.specs.declared.data.Place.{Place}
use Rattle.fy_image.specs.declared.image.Image.{Image}
use Rattle.fy_image.specs.declared.version.Version.TheVariants.{One}
use Rattle.fy_image.specs.Form.{FitsFields, word, double, place_bytes}
use Rattle.fy_elf.specs.declared.number.Number.{Number}
use Rattle.fy_elf.specs.declared.number.Number.TheVariants.{Half, Word, Double}
use Rattle.fy_elf.specs.Elf.{identification, numbers_bytes, note_header}
use Rattle.rv_insn.specs.Program.{code_start, table_start, stack_start}
use Rattle.rv_guard.specs.declared.pieces.Piece.{Piece}
use Rattle.rv_guard.specs.declared.pieces.Piece.TheVariants.{FarJump}
use Rattle.rv_guard.specs.Guarded.{IsGuarded, AreWordsOf}
use Rattle.rv_guard.specs.Rules.{target_of}
use Rattle.fy_linux.specs.declared.layout.Layout.{Layout}
use Rattle.fy_linux.specs.declared.layout.Segment.{Segment}
use Rattle.fy_linux.specs.declared.layout.Section.{Section}
use Rattle.fy_linux.specs.declared.symbols.Symbol.{Symbol}
use Rattle.fy_linux.specs.declared.symbols.SymbolName.{SymbolName}
use Rattle.fy_linux.specs.declared.symbols.SymbolName.TheVariants as symbol
use Rattle.fy_linux.specs.Code.{AreFree, linux_code, stubs_start}
use Rattle.fy_linux.specs.Notes.{linux_table}
use Rattle.fy_linux.specs.Stubs.{own_bytes, start_word, put_word, take_word, flush_word, write_word, end_word, exhausted_word, fault_word, say_word}

-- ---- symbols

-- the entries that every compiled program has, in order
abbrev pub entry_names : List Bytes
entry_names =
    codes "start" ∷ codes "end" ∷ codes "datum" ∷ codes "read" ∷ codes "write" ∷ codes "leave" ∷ codes "pop"
    ∷ codes "put_int" ∷ codes "put_char" ∷ codes "put_bool" ∷ []

-- the name of the entry with the number k
abbrev pub name_or_number : Option Bytes → ℕ → Bytes
name_or_number None k = decimal k
name_or_number (Some name) k = name

unfoldable pub name_text : SymbolName → Bytes
name_text (symbol.Entry k) = codes "entry_" ++ name_or_number (slice_get entry_names k) k
name_text symbol.Start = codes "_start"
name_text symbol.Put = codes "linux_put"
name_text symbol.Take = codes "linux_take"
name_text symbol.Flush = codes "linux_flush"
name_text symbol.Write = codes "linux_write"
name_text symbol.End = codes "linux_end"
name_text symbol.Exhausted = codes "linux_exhausted"
name_text symbol.Fault = codes "linux_fault"
name_text symbol.Say = codes "linux_say"

abbrev pub named : SymbolName → ℕ → Symbol
named name address = record { name = name; address = address }

-- the entries: where the far jumps lead with which the code begins
abbrev pub entry_at : ℕ → Option ℕ → List Symbol
entry_at k None = []
entry_at k (Some address) = named (symbol.Entry k) address ∷ []

abbrev pub entries : ℕ → List Piece → List Symbol
entries k (FarJump link high low ∷ pieces) = entry_at k (target_of (2 * k) (FarJump link high low)) ++ entries (suc k) pieces
entries k pieces = []

-- the stubs, the start last
abbrev pub stub_symbols : ℕ → List Symbol
stub_symbols start =
    named symbol.Put (start + 4 * put_word)
    ∷ named symbol.Take (start + 4 * take_word)
    ∷ named symbol.Flush (start + 4 * flush_word)
    ∷ named symbol.Write (start + 4 * write_word)
    ∷ named symbol.End (start + 4 * end_word)
    ∷ named symbol.Exhausted (start + 4 * exhausted_word)
    ∷ named symbol.Fault (start + 4 * fault_word)
    ∷ named symbol.Say (start + 4 * say_word)
    ∷ named symbol.Start (start + 4 * start_word)
    ∷ []

unfoldable pub symbols_of : Image → List Piece → List Symbol
symbols_of image pieces = entries 0 pieces ++ stub_symbols (stubs_start image)

-- a string and the 0 behind it
abbrev pub string : Bytes → Bytes
string text = text ++ 0 ∷ []

-- the strings of the symbols, behind the empty one
unfoldable pub symbol_strings : List Symbol → Bytes
symbol_strings symbols = 0 ∷ flat_map (λ s. string (name_text s.name)) symbols

-- binding and type of a symbol: of code, the start known outside
abbrev pub symbol_info : SymbolName → ℕ
symbol_info symbol.Start = 18
symbol_info name = 2

-- a symbol whose name stands there: name, binding and type, section (.text), value, size (not told)
unfoldable pub symbol_numbers : ℕ → Symbol → List Number
symbol_numbers place s = Word place ∷ Half (symbol_info s.name) ∷ Half 1 ∷ Double s.address ∷ Double 0 ∷ []

-- symbols whose strings begin there
abbrev pub symbols_numbers : ℕ → List Symbol → List Number
symbols_numbers place [] = []
symbols_numbers place (s ∷ symbols) = symbol_numbers place s ++ symbols_numbers (place + length (string (name_text s.name))) symbols

-- the symbol of no name, which comes first, and the others
abbrev pub no_symbol : List Number
no_symbol = Word 0 ∷ Half 0 ∷ Half 0 ∷ Double 0 ∷ Double 0 ∷ []

unfoldable pub symbol_table : List Symbol → List Number
symbol_table symbols = no_symbol ++ symbols_numbers 1 symbols

-- ---- where each part is in the file

-- the next multiple of a page
unfoldable pub page_up : ℕ → ℕ
page_up n = (n + 4095) / 4096 * 4096

-- behind the code, which begins with the second page: the table on a page of its own, the note, the symbols, the section headers and the strings
unfoldable pub table_offset : Layout → ℕ
table_offset l = page_up (4096 + 4 * l.code_words)

unfoldable pub note_offset : Layout → ℕ
note_offset l = table_offset l + 8 * l.table_words

unfoldable pub symbol_offset : Layout → ℕ
symbol_offset l = note_offset l + (16 + 8 * l.places)

unfoldable pub section_offset : Layout → ℕ
section_offset l = symbol_offset l + 24 * l.symbols

unfoldable pub name_offset : Layout → ℕ
name_offset l = section_offset l + 512

-- ---- headers

-- identification and its padding; executable, RISC-V, version 1; entry; where the program headers and the section headers are; flags;
-- size of this header; size and count of the program headers, and of the section headers; the section of their names
unfoldable pub file_header : ℕ → Layout → List Number
file_header entry l =
    Double identification ∷ Double 0
    ∷ Half 2 ∷ Half 243 ∷ Word 1
    ∷ Double entry
    ∷ Double 64 ∷ Double (section_offset l)
    ∷ Word 0
    ∷ Half 64
    ∷ Half 56 ∷ Half 5
    ∷ Half 64 ∷ Half 8 ∷ Half 7
    ∷ []

-- type, flags, offset in the file, virtual and physical address, size in the file and in memory, alignment
unfoldable pub program_header : Segment → List Number
program_header s =
    Word s.kind ∷ Word s.flags
    ∷ Double s.offset ∷ Double s.address ∷ Double s.address
    ∷ Double s.file_size ∷ Double s.memory_size
    ∷ Double s.alignment
    ∷ []

-- loaded, to be read and executed
unfoldable pub code_segment : Layout → Segment
code_segment l = record { kind = 1; flags = 5; offset = 4096; address = code_start; file_size = 4 * l.code_words; memory_size = 4 * l.code_words; alignment = 4096 }

-- loaded, to be read
unfoldable pub table_segment : Layout → Segment
table_segment l = record { kind = 1; flags = 4; offset = table_offset l; address = table_start; file_size = 8 * l.table_words; memory_size = 8 * l.table_words; alignment = 4096 }

-- loaded, to be read and written: the stack, and what the stubs own. Nothing of it is in the file
unfoldable pub stack_segment : Layout → Segment
stack_segment l = record { kind = 1; flags = 6; offset = 0; address = stack_start; file_size = 0; memory_size = 8 * l.stack_words + own_bytes; alignment = 4096 }

-- a note, which is not loaded
unfoldable pub note_segment : Layout → Segment
note_segment l = record { kind = 4; flags = 4; offset = note_offset l; address = 0; file_size = 16 + 8 * l.places; memory_size = 16 + 8 * l.places; alignment = 4 }

-- the system's own stack is not executed
unfoldable pub system_stack : Segment
system_stack = record { kind = 1685382481; flags = 6; offset = 0; address = 0; file_size = 0; memory_size = 0; alignment = 16 }

-- name, type, flags, address, offset in the file, size, link, information, alignment, size of an entry
unfoldable pub section_header : Section → List Number
section_header s =
    Word s.name ∷ Word s.kind
    ∷ Double s.flags ∷ Double s.address ∷ Double s.offset ∷ Double s.size
    ∷ Word s.link ∷ Word s.info
    ∷ Double s.alignment ∷ Double s.entry_size
    ∷ []

-- the names of the sections, and where each begins
unfoldable pub section_names : Bytes
section_names = codes "\0.text\0.rodata\0.bss\0.note.forsythe\0.symtab\0.strtab\0.shstrtab\0"

unfoldable pub no_section : Section
no_section = record { name = 0; kind = 0; flags = 0; address = 0; offset = 0; size = 0; link = 0; info = 0; alignment = 0; entry_size = 0 }

unfoldable pub text_section : Layout → Section
text_section l = record no_section { name = 1; kind = 1; flags = 6; address = code_start; offset = 4096; size = 4 * l.code_words; alignment = 4 }

unfoldable pub rodata_section : Layout → Section
rodata_section l = record no_section { name = 7; kind = 1; flags = 2; address = table_start; offset = table_offset l; size = 8 * l.table_words; alignment = 8 }

unfoldable pub bss_section : Layout → Section
bss_section l = record no_section { name = 15; kind = 8; flags = 3; address = stack_start; offset = 0; size = 8 * l.stack_words + own_bytes; alignment = 16 }

unfoldable pub note_section : Layout → Section
note_section l = record no_section { name = 20; kind = 7; offset = note_offset l; size = 16 + 8 * l.places; alignment = 4 }

-- all symbols but the last are local
unfoldable pub symtab_section : Layout → Section
symtab_section l = record no_section { name = 35; kind = 2; offset = symbol_offset l; size = 24 * l.symbols; link = 6; info = l.symbols - 1; alignment = 8; entry_size = 24 }

unfoldable pub strtab_section : Layout → Section
strtab_section l = record no_section { name = 43; kind = 3; offset = name_offset l; size = l.name_bytes; alignment = 1 }

unfoldable pub shstrtab_section : Layout → Section
shstrtab_section l = record no_section { name = 51; kind = 3; offset = name_offset l + l.name_bytes; size = 61; alignment = 1 }

-- the segments, and the sections
unfoldable pub segments : Layout → List Segment
segments l = code_segment l ∷ table_segment l ∷ stack_segment l ∷ note_segment l ∷ system_stack ∷ []

unfoldable pub sections : Layout → List Section
sections l =
    no_section ∷ text_section l ∷ rodata_section l ∷ bss_section l ∷ note_section l ∷ symtab_section l ∷ strtab_section l ∷ shstrtab_section l ∷ []

-- ---- the file

-- how much there is of each part
unfoldable pub layout_of : Image → List ℕ → List Symbol → Layout
layout_of image words symbols = record {
  code_words = length words;
  table_words = length (linux_table image);
  stack_words = image.stack_words;
  places = length image.places;
  symbols = 1 + length symbols;
  name_bytes = length (symbol_strings symbols);
}

-- the headers of a process that starts there, and zeros up to the second page
unfoldable pub head : ℕ → Layout → Bytes
head start l = numbers_bytes (file_header start l) ++ (numbers_bytes (flat_map program_header (segments l)) ++ replicate 3752 0)

-- zeros between the code and the page of the table
unfoldable pub code_padding : Layout → Bytes
code_padding l = replicate (table_offset l - (4096 + 4 * l.code_words)) 0

-- what stands behind the headers, in order
unfoldable pub behind_head : List ℕ → List ℕ → List Place → Bytes → Bytes → Layout → Bytes
behind_head words table places symbols strings l =
    flat_map word words
    ++ (code_padding l
    ++ (flat_map double table
    ++ (numbers_bytes (note_header (length places))
    ++ (flat_map (place_bytes One) places
    ++ (symbols
    ++ (numbers_bytes (flat_map section_header (sections l))
    ++ (strings
    ++ section_names)))))))

-- all of it, by the words of the code and the symbols
unfoldable pub file_of : Image → List ℕ → List Symbol → Layout → Bytes
file_of image words symbols l =
    head (stubs_start image) l
    ++ behind_head words (linux_table image) image.places (numbers_bytes (symbol_table symbols)) (symbol_strings symbols) l

unfoldable pub linux_file : Image → List Piece → List ℕ → Bytes
linux_file image pieces words = file_of image words (symbols_of image pieces) (layout_of image words (symbols_of image pieces))

-- the bytes are the executable file of the image
pub record IsLinuxFile (image : Image) (bytes : Bytes) : Type 0 where
  pub fits : FitsFields image
  pub guarded : IsGuarded image
  pub free : AreFree guarded.code
  -- the words of the code, an instruction's each
  pub words : List ℕ
  pub are : AreWordsOf (linux_code image guarded.pieces) words
  pub spelled : bytes ≡ linux_file image guarded.pieces words
