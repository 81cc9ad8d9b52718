-- The code of the process, made of the pieces of the image.
use Rattle.std.proofs.Common.{◌≡◌, ℕ, suc, ◌+◌, ◌-◌, ◌*◌, ◌^◌, ◌<◌, ◌≤◌, Bool, true, false, if◌then◌else◌, nat_eq, List, [], ◌∷◌, ◌++◌, length, length-append, take, drop, get_or, map, All, Some, None, Option, IfSome, refl, sym, ap, ◌∙◌, subst, arith, lit<}
use Rattle.std.specs.Prelude.{flat_map}
use Rattle.std.specs.List.{AllByRecursion, slice_index, slice_index_or}
use Rattle.std.proofs.lemmas.List.{length-map, at_drop_more, flat_map_more, take_more}
use Rattle.std.proofs.lemmas.List.Elements.{All-from_recursion}
use Rattle.rv_insn.specs.declared.instructions.Insn.{Insn}
use Rattle.rv_insn.specs.Encoding.{IsEncodable, IsReadingOf, IsWordOf}
use Rattle.rv_insn.specs.Program.{AreRead}
use Rattle.rv_insn.proofs.OneInstruction.{unique}
use Rattle.rv_insn.proofs.OnlyEncodable.{only_encodable}
use Rattle.rv_insn.proofs.Reading.{read_none, read_more}
use Rattle.rv_guard.specs.declared.pieces.Piece.{Piece}
use Rattle.rv_guard.specs.declared.pieces.Piece.TheVariants.{FarJump, StackCheck, NearCheck, TableCheck, Entry, ServiceCall, FaultCall, Single}
use Rattle.rv_guard.specs.Patterns.{Setting, instructions_of, word_count}
use Rattle.rv_guard.specs.Cutting.{AreCut}
use Rattle.rv_guard.specs.Guarded.{AreWordsOf}
use Rattle.fy_linux.specs.Code.{linux_piece}
use Rattle.fy_linux.specs.Stubs.{call, service_word, fault_word, end_word, put_word, take_word, exhausted_word}
use Rattle.fy_linux.proofs.Encodable.{AreEncodable, both_encodable, call_encodable}

-- code that is cut is the instructions of its pieces
pub joined : (setting : Setting) (code : List Insn) (pieces : List Piece) → AreCut setting code pieces → code ≡ flat_map instructions_of pieces
joined setting code [] cut = cut
joined setting code (piece ∷ pieces) cut = cut.1 ∙ ap (λ rest. instructions_of piece ++ rest) (joined setting cut.0 pieces cut.3)

-- a word that is an instruction's is read as it
pub reading : (insn : Insn) (word : ℕ) → IsWordOf insn word → IsReadingOf word (Some insn)
reading insn word is = record {
  sound = is;
  complete = λ other w. ap (λ i. Some i) (unique insn other word is w);
  encodable = only_encodable insn word is;
}

abbrev pub somes : List Insn → List (Option Insn)
somes code = map (λ insn. Some insn) code

-- ---- what is encodable

first_part : (a b : List Insn) → AreEncodable (a ++ b) → AreEncodable a
first_part [] b all = tt
first_part (insn ∷ a) b all = (all.0, first_part a b all.1)

second_part : (a b : List Insn) → AreEncodable (a ++ b) → AreEncodable b
second_part [] b all = all
second_part (insn ∷ a) b all = second_part a b all.1

if_small : (b : Bool) (x y n : ℕ) → x ≤ n → y ≤ n → (if b then x else y) ≤ n
if_small true x y n hx hy = hx
if_small false x y n hx hy = hy

service_small : (number : ℕ) → service_word number ≤ 145
service_small number =
    if_small (nat_eq number 0) end_word _ 145 (omega arith)
    (if_small (nat_eq number 1) put_word _ 145 (omega arith)
    (if_small (nat_eq number 2) take_word exhausted_word 145 (omega arith) (omega arith)))

piece_encodable : (start : ℕ) (piece : Piece) → start ≤ 2 ^ 25 → AreEncodable (instructions_of piece) → AreEncodable (linux_piece start piece)
piece_encodable start (FarJump link high low) small all = all
piece_encodable start (StackCheck r high low) small all = all
piece_encodable start (NearCheck r low) small all = all
piece_encodable start (TableCheck r high low) small all = all
piece_encodable start (Entry r high low) small all = all
piece_encodable start (ServiceCall number) small all = call_encodable (start + 4 * service_word number) (omega (arith, service_small number))
piece_encodable start (FaultCall kind high low) small all = (all.0, (all.1.0, (all.1.1.0, call_encodable (start + 4 * fault_word) (omega arith))))
piece_encodable start (Single insn) small all = all

pub pieces_encodable : (start : ℕ) (pieces : List Piece) → start ≤ 2 ^ 25 → AreEncodable (flat_map instructions_of pieces) → AreEncodable (flat_map (linux_piece start) pieces)
pieces_encodable start [] small all = tt
pieces_encodable start (piece ∷ pieces) small all =
    both_encodable (linux_piece start piece) (flat_map (linux_piece start) pieces)
    (piece_encodable start piece small (first_part (instructions_of piece) (flat_map instructions_of pieces) all))
    (pieces_encodable start pieces small (second_part (instructions_of piece) (flat_map instructions_of pieces) all))

-- ---- what is left of code, piece by piece

pub first_piece : (pieces : List Piece) (rest : List Insn) (i : ℕ) (d : Piece) → i < length pieces → rest ≡ flat_map instructions_of (drop i pieces)
    → rest ≡ instructions_of (get_or pieces i d) ++ flat_map instructions_of (drop (i + 1) pieces)
first_piece pieces rest i d low is = is ∙ at_drop_more (flat_map instructions_of) pieces i d low

pub pieces_more : (start : ℕ) (pieces : List Piece) (before code after : List Insn) (i : ℕ) (d : Piece) → i < length pieces → after ≡ code ++ linux_piece start (get_or pieces i d) → code ≡ before ++ flat_map (linux_piece start) (take i pieces)
    → after ≡ before ++ flat_map (linux_piece start) (take (i + 1) pieces)
pieces_more start pieces before code after i d low added is =
    let piece = get_or pieces i d in
    added ∙ ap (λ l. l ++ linux_piece start piece) is ∙ flat_map_more (linux_piece start) before (take i pieces) piece
    ∙ ap (λ l. before ++ flat_map (linux_piece start) l) (sym (take_more pieces i d low))
