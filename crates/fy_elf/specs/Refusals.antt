-- Why bytes are no ELF file of an image: the first field that isn't as said, in the order of the offsets.
use Rattle.std.specs.Prelude.{◌≡◌, ℕ, zero, suc, ◌+◌, ◌-◌, ◌*◌, ◌/◌, ◌%◌, Bool, true, not, ◌&&◌, nat_lt, nat_le, nat_eq, if◌then◌else◌, List, [], ◌∷◌, length, take, drop, Some, None}
use Rattle.std.specs.Int.{w32, w64, from_le_bytes}
use Rattle.std.specs.Str.{bytes_eq}
use Rattle.std.specs.declared.option.Option.{Option}
use Rattle.fy_base.specs.Outside.{Bytes}
use Rattle.fy_elf.specs.declared.error.ElfError.{ElfError}
use Rattle.fy_elf.specs.declared.error.ElfError.TheVariants as errors
use Rattle.fy_elf.specs.declared.counted.Counted.{Counted}
use Rattle.fy_elf.specs.declared.headers.Segment.{Segment}
use Rattle.fy_elf.specs.declared.headers.Sizes.{Sizes}
use Rattle.fy_elf.specs.declared.number.Number.{Number}
use Rattle.fy_elf.specs.declared.number.Number.TheVariants.{Double}
use Rattle.fy_elf.specs.Elf.{number_bytes, file_header, segment_start, code_segment, table_segment, stack_segment, note_segment, padding, note_header}

-- what is left of a file, with the offset at which it begins
pub record Rest : Type 0 where
  pub offset : ℕ
  pub bytes : Bytes

-- why what is left is refused
abbrev pub Judge : Type 0
Judge = Rest → Option ElfError

-- a field of so many bytes that have to be like this, and what is behind it, by what they are
unfoldable pub field : ℕ → (Bytes → Bool) → (Bytes → Judge) → Judge
field size is next rest =
    if nat_lt (length rest.bytes) size then Some errors.Truncated
    else (if not (is (take size rest.bytes)) then Some (errors.Bad rest.offset)
    else next (take size rest.bytes) (record { offset = rest.offset + size; bytes = drop size rest.bytes }))

-- just these bytes
abbrev pub exact : Bytes → Judge → Judge
exact bytes next = field (length bytes) (λ part. bytes_eq part bytes) (λ part. next)

-- just these numbers, each a field
abbrev pub exacts : List Number → Judge → Judge
exacts [] next = next
exacts (number ∷ numbers) next = exact (number_bytes number) (exacts numbers next)

-- so many bytes, whatever they are
abbrev pub any : ℕ → Judge → Judge
any size next = field size (λ part. true) (λ part. next)

-- numbers of four bytes that aren't 0
abbrev pub nonzero : Judge → Judge
nonzero next = field 4 (λ part. not (nat_eq (from_le_bytes w32 part) 0)) (λ part. next)

abbrev pub nonzeros : ℕ → Judge → Judge
nonzeros zero next = next
nonzeros (suc n) next = nonzero (nonzeros n next)

-- the size of so many
abbrev pub size_of : Counted → ℕ → ℕ
size_of counted n = counted.base + counted.unit * n

-- how many a size is of
abbrev pub count_in : Counted → ℕ → ℕ
count_in counted size = (size - counted.base) / counted.unit

-- the size is one of a count in the range
abbrev pub is_size : Counted → ℕ → Bool
is_size counted size =
    nat_le counted.base size && nat_eq ((size - counted.base) % counted.unit) 0
    && nat_le counted.least (count_in counted size) && nat_le (count_in counted size) counted.most

-- a size in eight bytes, and what is behind it, by how many it is of
abbrev pub sized : Counted → (ℕ → Judge) → Judge
sized counted next = field 8 (λ part. is_size counted (from_le_bytes w64 part)) (λ part. next (count_in counted (from_le_bytes w64 part)))

-- nothing is left
unfoldable pub ended : Judge
ended rest = if nat_eq (length rest.bytes) 0 then None else Some (errors.Trailing (length rest.bytes))

-- how many words of code, of the table and of the stack there may be, and how many places
unfoldable pub code_counted : Counted
code_counted = record { base = 0; unit = 4; least = 1; most = 4194304 }

unfoldable pub table_counted : Counted
table_counted = record { base = 0; unit = 8; least = 0; most = 1048576 }

unfoldable pub stack_counted : Counted
stack_counted = record { base = 0; unit = 8; least = 1024; most = 67108864 }

unfoldable pub places_counted : Counted
places_counted = record { base = 16; unit = 8; least = 0; most = 524288 }

-- a program header whose two sizes are the same
abbrev pub segment_fields : Segment → Counted → (ℕ → Judge) → Judge
segment_fields segment counted next =
    exacts (segment_start segment)
    (sized counted (λ n. exacts (Double (size_of counted n) ∷ Double segment.alignment ∷ []) (next n)))

-- the stack's, of which nothing is in the file
abbrev pub stack_fields : (ℕ → Judge) → Judge
stack_fields next =
    exacts (segment_start stack_segment)
    (exacts (Double 0 ∷ [])
    (sized stack_counted (λ n. exacts (Double stack_segment.alignment ∷ []) (next n))))

-- the headers
unfoldable pub header_fields : (Sizes → Judge) → Judge
header_fields next =
    exacts file_header
    (segment_fields code_segment code_counted (λ code_words.
    segment_fields (table_segment code_words) table_counted (λ table_words.
    stack_fields (λ stack_words.
    segment_fields (note_segment code_words table_words) places_counted (λ places.
    next (record { code_words = code_words; table_words = table_words; stack_words = stack_words; places = places }))))))

-- what stands behind them
unfoldable pub content_fields : Sizes → Judge
content_fields sizes =
    any (4 * sizes.code_words)
    (exact (padding sizes.code_words)
    (any (8 * sizes.table_words)
    (exacts (note_header sizes.places)
    (nonzeros (2 * sizes.places) ended))))

-- why bytes are no ELF file of an image
unfoldable pub refusal_of : Bytes → Option ElfError
refusal_of bytes =
    if nat_lt 33554432 (length bytes) then Some errors.TooLarge
    else header_fields content_fields (record { offset = 0; bytes = bytes })

-- an error is this refusal, or memory was wanting
abbrev pub IsCause : ElfError → Option ElfError → Type 0
IsCause errors.OutOfMemory refusal = Unit {0}
IsCause error refusal = refusal ≡ Some error
