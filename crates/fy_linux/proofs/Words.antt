-- Words and their instructions, one by one.
use Rattle.std.proofs.Common.{◌≡◌, ℕ, suc, ◌+◌, ◌<◌, ◌≤◌, List, [], ◌∷◌, ◌++◌, length, take, get_or, map, All, Option, Some, None, IfSome, refl, sym, ap, ◌∙◌, subst, arith}
use Rattle.std.specs.List.{slice_index, slice_index_or, AllByRecursion}
use Rattle.std.proofs.lemmas.List.{take_more, take_all, map-append, length-map, get_or-map, get_or_default, same_lists}
use Rattle.std.proofs.lemmas.List.Elements.{All-from_get_or, recursion_from_All}
use Rattle.rv_insn.specs.declared.instructions.Insn.{Insn}
use Rattle.rv_insn.specs.declared.instructions.Insn.TheVariants.{Ecall}
use Rattle.rv_insn.specs.Encoding.{IsEncodable, IsReadingOf, IsWordOf}
use Rattle.rv_insn.specs.Program.{AreRead}
use Rattle.rv_insn.proofs.OneWord.{one_word}
use Rattle.rv_insn.proofs.Reading.{read_none, read_more}
use Rattle.rv_guard.specs.Guarded.{AreWordsOf}
use Rattle.fy_linux.proofs.Coding.{reading, somes}
use Rattle.fy_linux.proofs.Encodable.{AreEncodable}

pub first_words : (code : List Insn) (words : List ℕ) → words ≡ [] → AreWordsOf (take 0 code) words
first_words code words none = let P : List ℕ → Type 0 = λ ws. AreRead ws [] in subst P (sym none) read_none

-- one word more
pub next_words : (code : List Insn) (k : ℕ) (d : Insn) (words after : List ℕ) (word : ℕ) → k < length code → after ≡ words ++ word ∷ [] → IsWordOf (get_or code k d) word → AreWordsOf (take k code) words
    → AreWordsOf (take (k + 1) code) after
next_words code k d words after word low is one read =
    let insn = get_or code k d in
    let P : List ℕ → Type 0 = λ ws. AreRead ws (somes (take (k + 1) code)) in
    let Q : List (Option Insn) → Type 0 = λ os. AreRead (words ++ word ∷ []) os in
    let all : somes (take (k + 1) code) ≡ somes (take k code) ++ Some insn ∷ [] = ap somes (take_more code k d low) ∙ map-append (λ i. Some i) (take k code) (insn ∷ []) in
    subst P (sym is) (subst Q (sym all) (read_more words (somes (take k code)) word (Some insn) read (reading insn word one)))

pub all_words : (code : List Insn) (k : ℕ) (words : List ℕ) → length code ≤ k → AreWordsOf (take k code) words → AreWordsOf code words
all_words code k words high read = let P : List Insn → Type 0 = λ c. AreWordsOf c words in subst P (take_all k code high) read

-- the reading of a word
pub read_at : (code : List Insn) (words : List ℕ) (k : ℕ) → AreWordsOf code words → k < length code → IsReadingOf (slice_index words k) (Some (get_or code k Ecall))
read_at code words k are low =
    let P : Option Insn → Type 0 = λ o. IsReadingOf (slice_index words k) o in
    subst P (get_or-map (λ i. Some i) code k Ecall None low) (are.each k (omega (arith, length-map code (λ i. Some i))))

-- instructions that have words are encodable
pub encodable : (code : List Insn) (words : List ℕ) → AreWordsOf code words → AreEncodable code
encodable code words are = recursion_from_All IsEncodable code (All-from_get_or IsEncodable code Ecall (λ k low. (read_at code words k are low).encodable))

-- and have one list of them
pub one_spelling : (code : List Insn) (a b : List ℕ) → AreWordsOf code a → AreWordsOf code b → a ≡ b
one_spelling code a b wa wb =
    let la : length a ≡ length code = sym wa.same_length ∙ length-map code (λ i. Some i) in
    let lb : length b ≡ length code = sym wb.same_length ∙ length-map code (λ i. Some i) in
    same_lists a b (la ∙ sym lb) (λ k d low.
    let l : k < length code = omega (arith, la) in
    let lk : k < length b = omega (arith, la, lb) in
    get_or_default a k d 0 low ∙ one_word (get_or code k Ecall) (slice_index a k) (slice_index b k) (read_at code a k wa l).sound (read_at code b k wb l).sound ∙ sym (get_or_default b k d 0 lk))
