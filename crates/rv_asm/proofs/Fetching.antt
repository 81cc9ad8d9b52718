-- The instructions of a program with these words stand where their words do.
use Rattle.std.proofs.Common.{◌≡◌, ℕ, zero, suc, ◌+◌, ◌-◌, ◌/◌, ◌<◌, List, [], ◌∷◌, ◌++◌, length, map, take, drop, Option, Some, None, refl, sym, ap, ◌∙◌, subst, arith, slice_index_or}
use Rattle.std.specs.List.{slice_get, slice_index, AllZip}
use Rattle.std.proofs.lemmas.List.{length-append, length-map, map-append, drop_at, drop-drop}
use Rattle.rv_insn.specs.declared.instructions.Insn.{Insn}
use Rattle.rv_insn.specs.Encoding.{IsWordOf, IsReadingOf}
use Rattle.rv_insn.specs.Program.{Program, AreRead, code_start}
use Rattle.rv_insn.proofs.OneInstruction.{unique}
use Rattle.rv_insn.proofs.OnlyEncodable.{only_encodable}
use Rattle.rv_insn.proofs.Reading.{readings_are_unique}
use Rattle.rv_asm.specs.Assembly.{joined, word_of, address_of, AreWordsOf}
use Rattle.rv_asm.proofs.Steps.{Stands}

-- ---- words are read as the instructions that they are

reading : (i : Insn) (w : ℕ) → IsWordOf i w → IsReadingOf w (Some i)
reading i w h = record { sound = h; complete = λ j k. ap (λ x. Some x) (unique i j w h k); encodable = only_encodable i w h }

same_length : (insns : List Insn) (words : List ℕ) → AllZip IsWordOf insns words → length insns ≡ length words
same_length [] [] h = refl
same_length [] (w ∷ words) h = absurd h
same_length (i ∷ insns) [] h = absurd h
same_length (i ∷ insns) (w ∷ words) h = ap suc (same_length insns words h.1)

reading_at : (insns : List Insn) (words : List ℕ) (k : ℕ) → AllZip IsWordOf insns words → k < length insns → IsReadingOf (slice_index words k) (slice_index_or (map (λ (i : Insn). Some i) insns) k None)
reading_at [] words k h below = absurd (let none : ⊥ = omega arith in none)
reading_at (i ∷ insns) [] k h below = absurd h
reading_at (i ∷ insns) (w ∷ words) zero h below = reading i w h.0
reading_at (i ∷ insns) (w ∷ words) (suc k) h below = reading_at insns words k h.1 (omega arith)

pub words_are : (insns : List Insn) (words : List ℕ) → AllZip IsWordOf insns words → AreWordsOf insns words
words_are insns words h = record {
  same_length = length-map insns (λ (i : Insn). Some i) ∙ same_length insns words h;
  each = λ k below. reading_at insns words k h (omega (arith, length-map insns (λ (i : Insn). Some i)));
}

-- ---- where they stand

at_front : (xs ys : List (Option Insn)) (x : Option Insn) (w : ℕ) → drop w xs ≡ x ∷ ys → slice_get xs w ≡ Some x
at_front [] ys x zero e = cc
at_front [] ys x (suc w) e = cc
at_front (y ∷ xs) ys x zero e = cc
at_front (y ∷ xs) ys x (suc w) e = at_front xs ys x w e

behind_front : (xs ys : List (Option Insn)) (x : Option Insn) (w : ℕ) → drop w xs ≡ x ∷ ys → drop (suc w) xs ≡ ys
behind_front [] ys x zero e = cc
behind_front [] ys x (suc w) e = cc
behind_front (y ∷ xs) ys x zero e = cc
behind_front (y ∷ xs) ys x (suc w) e = behind_front xs ys x w e

stands_from : (p : Program) (w : ℕ) (insns : List Insn) (rest : List (Option Insn)) → drop w p.instructions ≡ map (λ (i : Insn). Some i) insns ++ rest → Stands p (address_of w) insns
stands_from p w [] rest e = tt
stands_from p w (i ∷ insns) rest e =
    let place : (address_of w - code_start) / 4 ≡ w = omega arith in
    let more : address_of (suc w) ≡ address_of w + 4 = omega arith in
    let Q : ℕ → Type 0 = λ a. Stands p a insns in (
      record { aligned = omega arith; above = omega arith; there = rw place (at_front p.instructions _ (Some i) w e) },
      subst Q more (stands_from p (suc w) insns rest (behind_front p.instructions _ (Some i) w e)),
    )

drop-append_add : (xs ys : List (Option Insn)) (n : ℕ) → drop (length xs + n) (xs ++ ys) ≡ drop n ys
drop-append_add xs ys n = sym (drop-drop n (length xs) (xs ++ ys)) ∙ ap (drop n) (drop_at xs ys (length xs) refl)

-- behind the forms before it, a form is next
drop-joined : (forms : List (List Insn)) (k : ℕ) (form : List Insn) → slice_get forms k ≡ Some form
    → drop (word_of forms k) (map (λ (i : Insn). Some i) (joined forms)) ≡ map (λ (i : Insn). Some i) form ++ map (λ (i : Insn). Some i) (joined (drop (suc k) forms))
drop-joined [] k form e = absurd (let none : ⊥ = cc in none)
drop-joined (f ∷ forms) zero form e =
    let same : f ≡ form = cc in
    map-append (λ (i : Insn). Some i) f (joined forms) ∙ ap (λ (x : List Insn). map (λ (i : Insn). Some i) x ++ map (λ (i : Insn). Some i) (joined forms)) same
drop-joined (f ∷ forms) (suc k) form e =
    let some : List Insn → List (Option Insn) = λ is. map (λ (i : Insn). Some i) is in
    let long : length (f ++ joined (take k forms)) ≡ length (some f) + word_of forms k = length-append f (joined (take k forms)) ∙ ap (λ n. n + word_of forms k) (sym (length-map f (λ (i : Insn). Some i))) in
    ap (λ n. drop n (some (f ++ joined forms))) long ∙ ap (drop (length (some f) + word_of forms k)) (map-append (λ (i : Insn). Some i) f (joined forms)) ∙ drop-append_add (some f) (some (joined forms)) (word_of forms k)
    ∙ drop-joined forms k form e

pub form_stands : (p : Program) (words : List ℕ) (forms : List (List Insn)) (k : ℕ) (form : List Insn) → p.words ≡ words → AreRead p.words p.instructions → AreWordsOf (joined forms) words → slice_get forms k ≡ Some form
    → Stands p (address_of (word_of forms k)) form
form_stands p words forms k form e read are there =
    let some : List Insn → List (Option Insn) = λ is. map (λ (i : Insn). Some i) is in
    let R : List ℕ → Type 0 = λ ws. AreRead ws p.instructions in
    let same : p.instructions ≡ some (joined forms) = readings_are_unique words p.instructions (some (joined forms)) (subst R e read) are in
    stands_from p (word_of forms k) form (some (joined (drop (suc k) forms))) (ap (drop (word_of forms k)) same ∙ drop-joined forms k form there)
