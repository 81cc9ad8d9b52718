-- The text of each note.
use Rattle.std.specs.Prelude.{ℕ, List, [], ◌∷◌, ◌++◌, codes, map, Some, None}
use Rattle.std.specs.Fmt.{decimal}
use Rattle.std.specs.declared.option.Option.{Option}
use Rattle.fy_base.specs.Outside.{Bytes}
use Rattle.fy_image.specs.declared.error.ImageError.{ImageError}
use Rattle.fy_image.specs.declared.error.ImageError.TheVariants as image
use Rattle.fy_elf.specs.declared.error.ElfError.{ElfError}
use Rattle.fy_elf.specs.declared.error.ElfError.TheVariants as elf
use Rattle.fy_read.specs.declared.error.ReadError.{ReadError}
use Rattle.fy_read.specs.declared.error.ReadError.TheVariants as read
use Rattle.fy_base.specs.declared.data.Place.{Place}
use Rattle.fy_base.specs.declared.data.FaultKind.{FaultKind}
use Rattle.fy_base.specs.declared.data.FaultKind.TheVariants.{Overflow, Zero, Range}
use Rattle.fy_base.specs.declared.data.TrapKind.{TrapKind}
use Rattle.fy_base.specs.declared.data.TrapKind.TheVariants.{Illegal, FetchAlign, FetchRange, LoadAlign, LoadRange, StoreAlign, StoreRange, Service}
use Rattle.fy_front.specs.declared.refusal.Refusal.{Refusal}
use Rattle.fy_front.specs.declared.refusal.Refusal.TheVariants.{Length, Byte, Unclosed, Number, Tokens, Syntax, Deep, Name, TypeName, Double, Letrec, Merge, Alternatives, TypeSize, CoreDepth, CoreSize, Visits, NoType, LeastSize, Shapes, Entries, Tables, Header}
use Rattle.fy_world.specs.declared.unlinked.Unlinked.{Unlinked}
use Rattle.fy_world.specs.declared.unlinked.Unlinked.TheVariants as unlinked
use Rattle.fy_world.specs.declared.note.Note.{Note}
use Rattle.fy_world.specs.declared.note.Note.TheVariants.{Fault, StackExhausted, StepsSpent, CopyLimit, Trapped, Refused, DerivationText, DerivationSize, DerivationDeep, DerivationLength, DerivationNode, Usage, OutsideFiles, OutsideInput, OutsideOutput, Memory, Instructions, Copied, ImageMagic, ImageVersion, ImageTruncated, ImageTrailing, ImageField, ImageLength, ImageElf, Audit, Link}

-- a place, as it is printed: line, colon, column
abbrev pub place_text : Place → Bytes
place_text place = decimal place.line ++ 58 ∷ decimal place.col

abbrev pub fault_name : FaultKind → Bytes
fault_name Overflow = codes "fault overflow "
fault_name Zero = codes "fault zero "
fault_name Range = codes "fault range "

abbrev pub trap_name : TrapKind → Bytes
trap_name Illegal = codes "trap illegal"
trap_name FetchAlign = codes "trap fetch-align"
trap_name FetchRange = codes "trap fetch-range"
trap_name LoadAlign = codes "trap load-align"
trap_name LoadRange = codes "trap load-range"
trap_name StoreAlign = codes "trap store-align"
trap_name StoreRange = codes "trap store-range"
trap_name Service = codes "trap service"

-- the first word of a refusal's note, with a blank where a place follows, and that place
abbrev pub word_of : Refusal → Bytes
word_of Length = codes "length"
word_of (Byte place) = codes "byte "
word_of (Unclosed place) = codes "unclosed "
word_of (Number place) = codes "number "
word_of Tokens = codes "tokens"
word_of (Syntax place) = codes "syntax "
word_of (Deep place) = codes "deep "
word_of (Name place) = codes "name "
word_of (TypeName place) = codes "typename "
word_of (Double place) = codes "double "
word_of (Letrec place) = codes "letrec "
word_of (Merge place) = codes "merge "
word_of (Alternatives place) = codes "alternatives "
word_of (TypeSize place) = codes "typesize "
word_of CoreDepth = codes "coredeep"
word_of CoreSize = codes "coresize"
word_of Visits = codes "visits"
word_of (NoType place) = codes "type "
word_of LeastSize = codes "least"
word_of Shapes = codes "shapes"
word_of Entries = codes "entries"
word_of Tables = codes "tables"
word_of (Header place) = codes "header "

abbrev pub place_of : Refusal → Option Place
place_of Length = None
place_of (Byte place) = Some place
place_of (Unclosed place) = Some place
place_of (Number place) = Some place
place_of Tokens = None
place_of (Syntax place) = Some place
place_of (Deep place) = Some place
place_of (Name place) = Some place
place_of (TypeName place) = Some place
place_of (Double place) = Some place
place_of (Letrec place) = Some place
place_of (Merge place) = Some place
place_of (Alternatives place) = Some place
place_of (TypeSize place) = Some place
place_of CoreDepth = None
place_of CoreSize = None
place_of Visits = None
place_of (NoType place) = Some place
place_of LeastSize = None
place_of Shapes = None
place_of Entries = None
place_of Tables = None
place_of (Header place) = Some place

abbrev pub maybe_place_text : Option Place → Bytes
maybe_place_text None = []
maybe_place_text (Some place) = place_text place

-- the first words of the note of units that aren't linked, with a blank where the number of a unit follows, and that number
abbrev pub link_word : Unlinked → Bytes
link_word unlinked.List = codes "link list"
link_word (unlinked.Object j) = codes "link object "
link_word (unlinked.Double j) = codes "link double "
link_word (unlinked.Missing j) = codes "link missing "
link_word (unlinked.Interface j) = codes "link interface "
link_word unlinked.Main = codes "link main"
link_word unlinked.Size = codes "link size"

abbrev pub unit_of : Unlinked → Option ℕ
unit_of unlinked.List = None
unit_of (unlinked.Object j) = Some j
unit_of (unlinked.Double j) = Some j
unit_of (unlinked.Missing j) = Some j
unit_of (unlinked.Interface j) = Some j
unit_of unlinked.Main = None
unit_of unlinked.Size = None

abbrev pub maybe_decimal : Option ℕ → Bytes
maybe_decimal None = []
maybe_decimal (Some n) = decimal n

abbrev pub note_text : Note → Bytes
note_text (Fault kind place) = fault_name kind ++ place_text place
note_text StackExhausted = codes "stack exhausted"
note_text StepsSpent = codes "steps spent"
note_text CopyLimit = codes "copy limit"
note_text (Trapped kind) = trap_name kind
note_text (Refused why) = word_of why ++ maybe_place_text (place_of why)
note_text (DerivationText offset) = codes "derivation text " ++ decimal offset
note_text DerivationSize = codes "derivation size"
note_text DerivationDeep = codes "derivation deep"
note_text DerivationLength = codes "derivation length"
note_text (DerivationNode node) = codes "derivation node " ++ decimal node
note_text Usage = codes "usage"
note_text OutsideFiles = codes "outside files"
note_text OutsideInput = codes "outside input"
note_text OutsideOutput = codes "outside output"
note_text Memory = codes "memory"
note_text ImageMagic = codes "image magic"
note_text (ImageVersion version) = codes "image version " ++ decimal version
note_text ImageTruncated = codes "image truncated"
note_text (ImageTrailing count) = codes "image trailing " ++ decimal count
note_text (ImageField field) = codes "image field " ++ decimal field
note_text ImageLength = codes "image length"
note_text (ImageElf offset) = codes "image elf " ++ decimal offset
note_text (Audit word) = codes "audit word " ++ decimal word
note_text (Link why) = link_word why ++ maybe_decimal (unit_of why)
note_text (Instructions count) = codes "instructions " ++ decimal count
note_text (Copied steps peak) = codes "steps " ++ decimal steps ++ codes " peak " ++ decimal peak

-- each line with its end, byte 10
abbrev pub ended_lines : List Bytes → Bytes
ended_lines [] = []
ended_lines (line ∷ lines) = line ++ 10 ∷ ended_lines lines

-- the texts of these notes
abbrev pub texts : List Note → List Bytes
texts notes = map note_text notes

-- the note of an image that is refused
abbrev pub refusal_note : ImageError → Option Note
refusal_note image.BadMagic = Some ImageMagic
refusal_note (image.BadVersion version) = Some (ImageVersion version)
refusal_note image.Truncated = Some ImageTruncated
refusal_note (image.Trailing count) = Some (ImageTrailing count)
refusal_note (image.BadField field) = Some (ImageField field)
refusal_note image.TooLarge = Some ImageLength
refusal_note image.OutOfMemory = None

-- the note of an ELF file that is refused
abbrev pub elf_note : ElfError → Option Note
elf_note (elf.Bad offset) = Some (ImageElf offset)
elf_note elf.Truncated = Some ImageTruncated
elf_note (elf.Trailing count) = Some (ImageTrailing count)
elf_note elf.TooLarge = Some ImageLength
elf_note elf.OutOfMemory = None

-- the note of a derivation's text that is refused
abbrev pub read_note : ReadError → Option Note
read_note (read.BadText offset) = Some (DerivationText offset)
read_note read.TooLarge = Some DerivationSize
read_note read.TooDeep = Some DerivationDeep
read_note read.OutOfMemory = None
