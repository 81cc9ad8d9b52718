-- The notes that a process may write, and how they stand behind the table of an image: a slot of four doublewords each.
use Rattle.std.specs.Prelude.{ℕ, ◌+◌, ◌-◌, ◌*◌, List, [], ◌∷◌, ◌++◌, codes, length, map, take, drop, replicate, flat_map}
use Rattle.std.specs.Fmt.{decimal}
use Rattle.std.specs.Int.{w64, from_le_bytes}
use Rattle.fy_base.specs.Outside.{Bytes}
use Rattle.fy_base.specs.declared.data.Place.{Place}
use Rattle.fy_image.specs.declared.image.Image.{Image}
use Rattle.rv_insn.specs.Program.{table_start}

-- how a note of a fault ends: with its place
abbrev pub place_line : Place → Bytes
place_line place = decimal place.line ++ 58 ∷ decimal place.col ++ 10 ∷ []

-- the notes that every process has, in this order: `exhausted`, `fault` and a kind with the number 1, 2 or 3, and what is outside
unfoldable pub fixed_notes : List Bytes
fixed_notes =
    codes "stack exhausted\n"
    ∷ codes "fault overflow "
    ∷ codes "fault zero "
    ∷ codes "fault range "
    ∷ codes "outside input\n"
    ∷ codes "outside output\n"
    ∷ []

-- all of them: those of the places begin at the number 6
unfoldable pub notes_of : Image → List Bytes
notes_of image = fixed_notes ++ map place_line image.places

-- a text of at most 24 bytes, filled up with zeros
abbrev pub filled_up : Bytes → Bytes
filled_up text = text ++ replicate (24 - length text) 0

-- the doubleword of the eight bytes from k on
abbrev pub double_at : ℕ → Bytes → ℕ
double_at k bytes = from_le_bytes w64 (take 8 (drop k bytes))

-- a slot: how long a text is, and the text
unfoldable pub slot : Bytes → List ℕ
slot text = length text ∷ double_at 0 (filled_up text) ∷ double_at 8 (filled_up text) ∷ double_at 16 (filled_up text) ∷ []

-- the table of the process: the image's, and the slots of the notes
unfoldable pub linux_table : Image → List ℕ
linux_table image = image.table ++ flat_map slot (notes_of image)

-- where the slots begin
abbrev pub notes_start : Image → ℕ
notes_start image = table_start + 8 * length image.table
