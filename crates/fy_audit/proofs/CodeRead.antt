-- The loop that reads the code, and what holds of all pieces.
use Rattle.std.proofs.Common.{◌≡◌, ℕ, ◌+◌, ◌<◌, ◌≤◌, List, [], ◌∷◌, ◌++◌, length, take, map, get_or, Option, Some, None, sym, subst, ap, ◌∙◌, arith, inr}
use Rattle.std.proofs.lemmas.List.{take_more, take_all, map-append, length-map, length-append}
use Rattle.fy_image.specs.declared.image.Image.{Image}
use Rattle.rv_insn.specs.declared.instructions.Insn.{Insn}
use Rattle.rv_insn.specs.Encoding.{IsReadingOf}
use Rattle.rv_insn.specs.Program.{AreRead}
use Rattle.rv_insn.proofs.Reading.{read_none, read_more}
use Rattle.rv_guard.specs.Patterns.{instructions_of, Setting}
use Rattle.rv_guard.specs.declared.pieces.Piece.{Piece}
use Rattle.rv_guard.specs.declared.pieces.Piece.TheVariants.{FarJump, StackCheck, NearCheck, TableCheck, Entry, ServiceCall, FaultCall, Single}
use Rattle.rv_guard.specs.Cutting.{AreCut}
use Rattle.rv_guard.specs.Rules.{KeepRules, BreaksFirstAt}
use Rattle.rv_guard.specs.Joining.{total_words}
use Rattle.rv_guard.specs.Guarded.{IsGuarded, IsIllegalAt, IsUnguardedAt}
use Rattle.fy_audit.specs.Words.{setting, HaveValues}

abbrev pub somes : List Insn → List (Option Insn)
somes code = map (λ insn. Some insn) code

pub reads_first : (code : List Insn) → code ≡ [] → AreRead [] (somes code)
reads_first code is = subst (λ (os : List Insn). AreRead [] (somes os)) (sym is) read_none

pub reads_next : (words : List ℕ) (k : ℕ) (code after : List Insn) (insn : Insn) → k < length words → after ≡ code ++ insn ∷ [] → IsReadingOf (get_or words k 0) (Some insn)
    → AreRead (take k words) (somes code) → AreRead (take (k + 1) words) (somes after)
reads_next words k code after insn lt is reads read =
    let P : List ℕ → Type 0 = λ ws. AreRead ws (somes after) in
    let Q : List (Option Insn) → Type 0 = λ os. AreRead (take k words ++ get_or words k 0 ∷ []) os in
    let all : somes after ≡ somes code ++ Some insn ∷ [] = ap somes is ∙ map-append (λ i. Some i) code (insn ∷ []) in
    subst P (sym (take_more words k 0 lt)) (subst Q (sym all) (read_more (take k words) (somes code) (get_or words k 0) (Some insn) read reads))

pub reads_all : (words : List ℕ) (k : ℕ) (code : List Insn) → length words ≤ k → AreRead (take k words) (somes code) → AreRead words (somes code)
reads_all words k code all read = subst (λ (ws : List ℕ). AreRead ws (somes code)) (take_all k words all) read

pub illegal : (words : List ℕ) (k : ℕ) (code : List Insn) → k < length words → IsReadingOf (get_or words k 0) None → AreRead (take k words) (somes code) → IsIllegalAt words k
illegal words k code below h read = record { within = below; illegal = λ insn w. let e : None ≡ Some insn = h.complete insn w in cc; code = code; before = read }

pub code_length : (words : List ℕ) (code : List Insn) → AreRead words (somes code) → length code ≡ length words
code_length words code h = sym (length-map code (λ i. Some i)) ∙ h.same_length

pub cut_total : (s : Setting) (code : List Insn) (pieces : List Piece) → AreCut s code pieces → total_words pieces ≡ length code
cut_total s code [] h = sym (ap length h)
cut_total s code (piece ∷ pieces) h = omega (arith, cut_total s h.0 pieces h.3, ap length h.1, length-append (instructions_of piece) h.0)

pub cut_values : (s : Setting) (code : List Insn) (pieces : List Piece) → AreCut s code pieces → HaveValues pieces
cut_values s code [] h = tt
cut_values s code (StackCheck r high low ∷ pieces) h = (h.2.0, cut_values s h.0 pieces h.3)
cut_values s code (FarJump r high low ∷ pieces) h = (tt, cut_values s h.0 pieces h.3)
cut_values s code (NearCheck r low ∷ pieces) h = (tt, cut_values s h.0 pieces h.3)
cut_values s code (TableCheck r high low ∷ pieces) h = (tt, cut_values s h.0 pieces h.3)
cut_values s code (Entry r high low ∷ pieces) h = (tt, cut_values s h.0 pieces h.3)
cut_values s code (ServiceCall k ∷ pieces) h = (tt, cut_values s h.0 pieces h.3)
cut_values s code (FaultCall k high low ∷ pieces) h = (tt, cut_values s h.0 pieces h.3)
cut_values s code (Single insn ∷ pieces) h = (tt, cut_values s h.0 pieces h.3)

pub is_guarded : (image : Image) (code : List Insn) (pieces : List Piece) → AreRead image.code (somes code) → AreCut (setting code (length image.table) (length image.places)) code pieces → KeepRules pieces 0 [] pieces → IsGuarded image
is_guarded image code pieces read cut rules = record { code = code; read = read; pieces = pieces; cut = cut; rules = rules }

pub is_broken : (image : Image) (k : ℕ) (code : List Insn) (pieces : List Piece) → AreRead image.code (somes code) → AreCut (setting code (length image.table) (length image.places)) code pieces → BreaksFirstAt k pieces 0 [] pieces → IsUnguardedAt image k
is_broken image k code pieces read cut breaks = inr (record { code = code; read = read; pieces = pieces; cut = cut; breaks = breaks })
