-- ELF64 files of images, number by number. All numbers are little-endian and without sign.
-- System V Application Binary Interface, "Object Files": "ELF Header", "Program Header", "Note Section"; RISC-V ELF psABI, "File Header".
-- Which numbers stand there for an image is this project's own.
use Rattle.std.specs.Prelude.{◌≡◌, ℕ, ◌+◌, ◌-◌, ◌*◌, ◌/◌, List, [], ◌∷◌, ◌++◌, length, replicate}
use Rattle.std.specs.List.{flat_map}
use Rattle.std.specs.Int.{w16, w32, w64, to_le_bytes, from_le_bytes}
use Rattle.fy_base.specs.Outside.{Bytes}
use Rattle.fy_image.specs.declared.image.Image.{Image}
use Rattle.fy_image.specs.declared.version.Version.TheVariants.{One}
use Rattle.fy_image.specs.Form.{FitsFields, word, double, place_bytes}
use Rattle.fy_elf.specs.declared.number.Number.{Number}
use Rattle.fy_elf.specs.declared.number.Number.TheVariants.{Half, Word, Double}
use Rattle.fy_elf.specs.declared.headers.Segment.{Segment}
use Rattle.fy_elf.specs.declared.headers.Sizes.{Sizes}

-- a number of 2, 4 or 8 bytes
unfoldable pub number_bytes : Number → Bytes
number_bytes (Half n) = to_le_bytes w16 n
number_bytes (Word n) = word n
number_bytes (Double n) = double n

-- numbers, one after the other
unfoldable pub numbers_bytes : List Number → Bytes
numbers_bytes numbers = flat_map number_bytes numbers

-- 7f "ELF", 64 bits, little-endian, version 1, no extensions
unfoldable pub identification : ℕ
identification = from_le_bytes w64 (127 ∷ 69 ∷ 76 ∷ 70 ∷ 2 ∷ 1 ∷ 1 ∷ 0 ∷ [])

-- identification and its padding; executable, RISC-V, version 1; entry; where the program headers are, and the section headers, of which
-- there are none; flags; size of this header; size and count of the program headers; size, count and names of the section headers
unfoldable pub file_header : List Number
file_header =
    Double identification ∷ Double 0
    ∷ Half 2 ∷ Half 243 ∷ Word 1
    ∷ Double 65536
    ∷ Double 64 ∷ Double 0
    ∷ Word 0
    ∷ Half 64
    ∷ Half 56 ∷ Half 4
    ∷ Half 0 ∷ Half 0 ∷ Half 0
    ∷ []

-- a program header up to the sizes: type, flags, offset in the file, virtual and physical address
unfoldable pub segment_start : Segment → List Number
segment_start segment = Word segment.kind ∷ Word segment.flags ∷ Double segment.offset ∷ Double segment.address ∷ Double segment.address ∷ []

-- its end: size in the file, size in memory, alignment
unfoldable pub segment_end : Segment → ℕ → ℕ → List Number
segment_end segment file_size memory_size = Double file_size ∷ Double memory_size ∷ Double segment.alignment ∷ []

unfoldable pub program_header : Segment → ℕ → ℕ → List Number
program_header segment file_size memory_size = segment_start segment ++ segment_end segment file_size memory_size

-- where the table is in the file: behind the code, at the next multiple of 8
unfoldable pub table_offset : ℕ → ℕ
table_offset code_words = (288 + 4 * code_words + 7) / 8 * 8

-- where the note is
unfoldable pub note_offset : ℕ → ℕ → ℕ
note_offset code_words table_words = table_offset code_words + 8 * table_words

-- loaded, to be read and executed
unfoldable pub code_segment : Segment
code_segment = record { kind = 1; flags = 5; offset = 288; address = 65536; alignment = 8 }

-- loaded, to be read
unfoldable pub table_segment : ℕ → Segment
table_segment code_words = record { kind = 1; flags = 4; offset = table_offset code_words; address = 536870912; alignment = 8 }

-- loaded, to be read and written; nothing of it is in the file
unfoldable pub stack_segment : Segment
stack_segment = record { kind = 1; flags = 6; offset = 0; address = 1073741824; alignment = 8 }

-- a note, which is not loaded
unfoldable pub note_segment : ℕ → ℕ → Segment
note_segment code_words table_words = record { kind = 4; flags = 4; offset = note_offset code_words table_words; address = 0; alignment = 4 }

-- a note's numbers: the size of its name, that of what it holds, its type and its name, "F64"
unfoldable pub note_header : ℕ → List Number
note_header places = Word 4 ∷ Word (8 * places) ∷ Word 1 ∷ Word (from_le_bytes w32 (70 ∷ 54 ∷ 52 ∷ 0 ∷ [])) ∷ []

-- the headers, in order
unfoldable pub headers : Sizes → List Number
headers sizes =
    file_header
    ++ (program_header code_segment (4 * sizes.code_words) (4 * sizes.code_words)
    ++ (program_header (table_segment sizes.code_words) (8 * sizes.table_words) (8 * sizes.table_words)
    ++ (program_header stack_segment 0 (8 * sizes.stack_words)
    ++ program_header (note_segment sizes.code_words sizes.table_words) (16 + 8 * sizes.places) (16 + 8 * sizes.places))))

-- zeros between the code and the table
unfoldable pub padding : ℕ → Bytes
padding code_words = replicate (table_offset code_words - (288 + 4 * code_words)) 0

-- what stands behind the headers: the code, the padding, the table, and the note, which holds the places as in version 1 of the image form
unfoldable pub contents_of : Image → Bytes
contents_of image =
    flat_map word image.code
    ++ (padding (length image.code)
    ++ (flat_map double image.table
    ++ (numbers_bytes (note_header (length image.places))
    ++ flat_map (place_bytes One) image.places)))

unfoldable pub sizes_of : Image → Sizes
sizes_of image = record {
  code_words = length image.code;
  table_words = length image.table;
  stack_words = image.stack_words;
  places = length image.places;
}

unfoldable pub elf_of : Image → Bytes
elf_of image = numbers_bytes (headers (sizes_of image)) ++ contents_of image

-- the bytes are the ELF file of the image
pub record IsElfBytes (image : Image) (bytes : Bytes) : Type 0 where
  pub fits : FitsFields image
  pub spelled : bytes ≡ elf_of image
