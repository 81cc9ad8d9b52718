-- How long the parts of the process and of its file are.
use Rattle.std.proofs.Common.{◌≡◌, ℕ, ◌+◌, ◌-◌, ◌*◌, ◌/◌, ◌%◌, ◌^◌, ◌<◌, ◌≤◌, List, [], ◌∷◌, ◌++◌, length, length-append, map, Some, refl, sym, ap, ◌∙◌, arith}
use Rattle.std.specs.Prelude.{flat_map}
use Rattle.std.proofs.lemmas.List.{length-map}
use Rattle.std.proofs.lemmas.Nat.{div-add-mod'}
use Rattle.std.proofs.Math.Nat.{mod-lt}
use Rattle.fy_base.specs.Outside.{Bytes}
use Rattle.fy_image.specs.declared.image.Image.{Image}
use Rattle.fy_image.specs.Ranges.{IsImage}
use Rattle.fy_image.proofs.Lists.{spelled_long}
use Rattle.rv_insn.specs.declared.instructions.Insn.{Insn}
use Rattle.rv_guard.specs.declared.pieces.Piece.{Piece}
use Rattle.rv_guard.specs.declared.pieces.Piece.TheVariants.{FarJump, StackCheck, NearCheck, TableCheck, Entry, ServiceCall, FaultCall, Single}
use Rattle.rv_guard.specs.Patterns.{Setting, instructions_of}
use Rattle.rv_guard.specs.Cutting.{AreCut}
use Rattle.rv_guard.specs.Guarded.{AreWordsOf}
use Rattle.fy_linux.specs.Code.{linux_piece, linux_code, stubs_start, stack_end}
use Rattle.fy_linux.specs.declared.layout.Layout.{Layout}
use Rattle.fy_linux.specs.File.{page_up, table_offset}
use Rattle.fy_linux.specs.Notes.{fixed_notes, notes_of, place_line, slot, linux_table, notes_start}
use Rattle.fy_linux.specs.Stubs.{stubs}
use Rattle.fy_linux.proofs.Coding.{joined}

-- ---- the code

piece_long : (start : ℕ) (piece : Piece) → length (linux_piece start piece) ≡ length (instructions_of piece)
piece_long start (FarJump link high low) = refl
piece_long start (StackCheck r high low) = refl
piece_long start (NearCheck r low) = refl
piece_long start (TableCheck r high low) = refl
piece_long start (Entry r high low) = refl
piece_long start (ServiceCall number) = refl
piece_long start (FaultCall kind high low) = refl
piece_long start (Single insn) = refl

pieces_long : (start : ℕ) (pieces : List Piece) → length (flat_map (linux_piece start) pieces) ≡ length (flat_map instructions_of pieces)
pieces_long start [] = refl
pieces_long start (piece ∷ pieces) =
    let first = linux_piece start piece in
    let others = flat_map (linux_piece start) pieces in
    omega (
      arith,
      length-append first others,
      length-append (instructions_of piece) (flat_map instructions_of pieces),
      piece_long start piece,
      pieces_long start pieces,
    )

pub words_are : (code : List Insn) (words : List ℕ) → AreWordsOf code words → length words ≡ length code
words_are code words are = sym are.same_length ∙ length-map code (λ i. Some i)

stubs_long : (stack_end notes : ℕ) → length (stubs stack_end notes) ≡ 145
stubs_long stack_end notes = refl

-- the code of the process has 145 words more
pub code_long : (image : Image) (setting : Setting) (code : List Insn) (pieces : List Piece) → AreCut setting code pieces → AreWordsOf code image.code → length (linux_code image pieces) ≡ length image.code + 145
unfolding linux_code
code_long image setting code pieces cut are =
    let own = flat_map (linux_piece (stubs_start image)) pieces in
    omega (
      arith,
      length-append own (stubs (stack_end image) (notes_start image)),
      stubs_long (stack_end image) (notes_start image),
      pieces_long (stubs_start image) pieces,
      ap (λ c. length c) (joined setting code pieces cut),
      words_are code image.code are,
    )

-- ---- the table

slot_long : (text : Bytes) → length (slot text) ≡ 4
unfolding slot
slot_long text = refl

fixed_long : length fixed_notes ≡ 6
unfolding fixed_notes
fixed_long = refl

-- the table has four words more for each note
pub table_long : (image : Image) → length (linux_table image) ≡ length image.table + 4 * (6 + length image.places)
unfolding linux_table notes_of
table_long image =
    let notes = fixed_notes ++ map place_line image.places in
    omega (
      arith,
      length-append image.table (flat_map slot notes),
      spelled_long slot 4 slot_long notes,
      length-append fixed_notes (map place_line image.places),
      fixed_long,
      length-map image.places place_line,
    )

-- ---- pages

pub page_low : (n : ℕ) → n ≤ page_up n
unfolding page_up
page_low n = let low : (n + 4095) % 4096 < 4096 = mod-lt (n + 4095) (omega arith) in omega (arith, div-add-mod' (n + 4095) 4096, low)

pub page_high : (n : ℕ) → page_up n ≤ n + 4095
unfolding page_up
page_high n = omega (arith, div-add-mod' (n + 4095) 4096)

pub offset_low : (l : Layout) → 4096 + 4 * l.code_words ≤ table_offset l
unfolding table_offset
offset_low l = page_low (4096 + 4 * l.code_words)
