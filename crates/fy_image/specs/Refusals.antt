-- Why bytes are no image: the first field that fails, in the order of the form.
use Rattle.std.specs.Prelude.{◌≡◌, ℕ, zero, suc, ◌+◌, ◌-◌, ◌*◌, ◌%◌, ◌^◌, Bool, not, ◌&&◌, nat_lt, nat_le, nat_eq, if◌then◌else◌, List, [], ◌∷◌, length, take, drop, replicate, slice_index, Some, None, is_some}
use Rattle.std.specs.List.{list_all, prefix_len, starts_with}
use Rattle.std.specs.Int.{w32, from_le_bytes}
use Rattle.std.specs.declared.option.Option.{Option}
use Rattle.std.specs.declared.result.Result.{Result}
use Rattle.std.specs.declared.result.Result.TheVariants.{Ok, Err}
use Rattle.fy_base.specs.Outside.{Bytes}
use Rattle.fy_image.specs.declared.error.ImageError.{ImageError}
use Rattle.fy_image.specs.declared.error.ImageError.TheVariants as errors
use Rattle.fy_image.specs.declared.version.Version.{Version}
use Rattle.fy_image.specs.declared.version.Version.TheVariants.{One, Two}
use Rattle.fy_image.specs.Form.{magic, version_number, most_stack}

-- a field: how many bytes it has of those that it begins, and why these are refused
pub record Field : Type 0 where
  pub size : Bytes → ℕ
  pub refusal : Bytes → Option ImageError

-- the first refusal of two
abbrev pub or_else : Option ImageError → Option ImageError → Option ImageError
or_else None later = later
or_else (Some error) later = Some error

-- the number of four bytes
unfoldable pub number_of : Bytes → ℕ
number_of bytes = from_le_bytes w32 bytes

-- the number of the four bytes at an offset
abbrev pub number_at : Bytes → ℕ → ℕ
number_at bytes offset = number_of (take 4 (drop offset bytes))

-- so many numbers of four bytes
abbrev pub numbers : ℕ → Bytes → List ℕ
numbers zero bytes = []
numbers (suc n) bytes = number_of (take 4 bytes) ∷ numbers n (drop 4 bytes)

-- the version of a number
abbrev pub version_of : ℕ → Option Version
version_of n =
    if nat_eq n (version_number One) then Some One
    else (if nat_eq n (version_number Two) then Some Two
    else None)

-- the version, which is one of them
abbrev pub version_refusal : ℕ → Option ImageError
version_refusal n = if is_some (version_of n) then None else Some (errors.BadVersion n)

abbrev pub version_field : Field
version_field = record { size = λ bytes. 4; refusal = λ bytes. version_refusal (number_of bytes) }

-- a number in a range, with the number of its field
abbrev pub range_refusal : ℕ → ℕ → ℕ → ℕ → Option ImageError
range_refusal least most field n = if nat_le least n && nat_le n most then None else Some (errors.BadField field)

abbrev pub number_in : ℕ → ℕ → ℕ → Field
number_in least most field = record { size = λ bytes. 4; refusal = λ bytes. range_refusal least most field (number_of bytes) }

-- so many bytes, whatever they are
abbrev pub any_bytes : ℕ → Field
any_bytes size = record { size = λ bytes. size; refusal = λ bytes. None }

-- so many places of eight bytes, with the number of their field: no line or column is 0
abbrev pub zero_refusal : ℕ → List ℕ → Option ImageError
zero_refusal field ns = if list_all (λ n. not (nat_eq n 0)) ns then None else Some (errors.BadField field)

abbrev pub place_list : ℕ → ℕ → Field
place_list count field = record { size = λ bytes. 8 * count; refusal = λ bytes. zero_refusal field (numbers (2 * count) bytes) }

-- the top bit of a byte is set
abbrev pub is_marked : ℕ → Bool
is_marked byte = nat_le 128 byte

-- the number of groups of 7 bits, the lowest first
abbrev pub grouped : Bytes → ℕ
grouped [] = 0
grouped (byte ∷ bytes) = byte % 128 + 128 * grouped bytes

-- a short number ends with the first byte that isn't marked. Where five are marked, it has a sixth
abbrev pub short_size : Bytes → ℕ
short_size bytes = suc (prefix_len is_marked (take 5 bytes))

-- five bytes at most, of which the last isn't 0, and a number that four bytes hold
abbrev pub is_short : Bytes → Bool
is_short bytes = nat_le (length bytes) 5 && not (nat_eq (slice_index bytes (length bytes - 1)) 0) && nat_lt (grouped bytes) (2 ^ 32)

-- a short number, with the number of its field
abbrev pub short_refusal : ℕ → Bytes → Option ImageError
short_refusal field bytes = if is_short bytes then None else Some (errors.BadField field)

abbrev pub short_number : ℕ → Field
short_number field = record { size = short_size; refusal = λ bytes. short_refusal field bytes }

-- so many places, with the number of their field: one list in version 1, and in version 2 a field for each line and column
abbrev pub place_fields : Version → ℕ → ℕ → List Field
place_fields One count field = place_list count field ∷ []
place_fields Two count field = replicate (2 * count) (short_number field)

-- the lists, by the counts of code words, table words and places
abbrev pub lists_of : Version → ℕ → ℕ → ℕ → List Field
lists_of version code_words table_words places =
    any_bytes (4 * code_words)
    ∷ any_bytes (8 * table_words)
    ∷ place_fields version places 6

-- the fields behind the version
abbrev pub fields_of : Version → ℕ → ℕ → ℕ → List Field
fields_of version code_words table_words places =
    number_in 1024 (most_stack version) 1
    ∷ number_in 1 4194304 2
    ∷ number_in 0 1048576 3
    ∷ number_in 0 524288 4
    ∷ number_in 0 0 5
    ∷ lists_of version code_words table_words places

-- none behind a number that is no version's
abbrev pub fields_behind : Option Version → ℕ → ℕ → ℕ → List Field
fields_behind None code_words table_words places = []
fields_behind (Some version) code_words table_words places = fields_of version code_words table_words places

-- bytes that hold these fields and no more, or the first field that is cut off or refused
unfoldable pub first_refusal : List Field → Bytes → Option ImageError
first_refusal [] bytes = if nat_eq (length bytes) 0 then None else Some (errors.Trailing (length bytes))
first_refusal (field ∷ fields) bytes =
    if nat_lt (length bytes) (field.size bytes) then Some errors.Truncated
    else or_else (field.refusal (take (field.size bytes) bytes)) (first_refusal fields (drop (field.size bytes) bytes))

-- the first eight bytes: those that are there begin the magic, and none is missing
unfoldable pub magic_refusal : Bytes → Option ImageError
magic_refusal bytes =
    if not (starts_with nat_eq magic (take 8 bytes)) then Some errors.BadMagic
    else (if nat_lt (length bytes) 8 then Some errors.Truncated
    else None)

-- why bytes are no image
unfoldable pub refusal_of : Bytes → Option ImageError
refusal_of bytes =
    if nat_lt 33554432 (length bytes) then Some errors.TooLarge
    else or_else (magic_refusal bytes) (first_refusal (version_field ∷ fields_behind (version_of (number_at bytes 8)) (number_at bytes 16) (number_at bytes 20) (number_at bytes 24)) (drop 8 bytes))

-- an error is this refusal, or memory was wanting
abbrev pub IsCause : ImageError → Option ImageError → Type 0
IsCause errors.OutOfMemory refusal = Unit {0}
IsCause error refusal = refusal ≡ Some error

-- what a result tells of the refusal of all that was read
abbrev pub IsJudged : {T : Type 0} → Result T ImageError → Option ImageError → Type 0
IsJudged (Ok value) refusal = refusal ≡ None
IsJudged (Err error) refusal = IsCause error refusal
