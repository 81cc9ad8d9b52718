-- Options and operands, word by word.
use Rattle.std.proofs.Common.{◌≡◌, ℕ, suc, ◌+◌, ◌-◌, ◌*◌, ◌^◌, ◌<◌, ◌≤◌, min, List, [], ◌∷◌, ◌++◌, Bool, true, false, cond, length, drop, get_or, map, not, Some, None, sym, ap, ◌∙◌, refl, subst, arith, add-one, drop-cons, append_assoc, inl, inr}
use Rattle.std.proofs.lemmas.List.{append-nil, drop_all}
use Rattle.std.proofs.lemmas.Bool.{cases_lt}
use Rattle.std.proofs.lemmas.Str.Pattern.{starts_text}
use Rattle.std.specs.Option.{option_map, option_to_list}
use Rattle.std.specs.Prelude.{nat_eq, MatchOption}
use Rattle.std.specs.List.{starts_with}
use Rattle.std.specs.Str.Pattern.{FindsTextPrefix, StripsPrefix, HasPrefixMatch}
use Rattle.std.specs.Str.{IsCharBoundary}
use Rattle.std.specs.Prelude.{string_bytes, ◌||◌, ◌&&◌}
use Rattle.std.proofs.Common.{Global}
use Rattle.std.specs.Prelude.{String}
use Rattle.std.specs.declared.option.Option.{Option}
use Rattle.fy_base.specs.Outside.{Bytes}
use Rattle.fy_words.specs.Order.{is_option, operands, behind, values, has_key, are_known, number_from}
use Rattle.fy_words.specs.Words.{AreFound}
use Rattle.fy_words.specs.declared.words.Found.{Found}
use Rattle.fy_words.specs.declared.words.Found.TheVariants.{Nothing}
use denote.Ref.{Bor}

behind_by : (b : Bool) (key word : Bytes) → starts_with nat_eq word key ≡ b → behind key word ≡ cond b (Some (drop (length key) word)) None
behind_by b key word is = ap (λ b. cond b (Some (drop (length key) word)) None) is

pub behind_is : (key word : Bytes) (r : Option (Bor (List ℕ))) → MatchOption r (FindsTextPrefix key word None) (λ x. StripsPrefix (FindsTextPrefix key) word x.now) → option_map (λ x. x.now) r ≡ behind key word
behind_is key word None lacks = sym (behind_by false key word (sym (starts_text false key word lacks)))
behind_is key word (Some x) strips =
    let there = starts_text true key word (strips.0, strips.1, let e = strips.1.0 in subst (λ n. IsCharBoundary word n) (sym e) strips.1.2) in
    ap (λ bs. Some bs) (strips.2 ∙ ap (λ n. drop n word) strips.1.0) ∙ sym (behind_by true key word (sym there))

-- ---- word by word

here : {X : Type 0} (xs : List X) (i : ℕ) (x : X) → i < length xs → x ≡ get_or xs i x → drop i xs ≡ x ∷ drop (i + 1) xs
here xs i x lt is = rw (add-one i) (drop-cons xs i x lt ∙ ap (λ y. y ∷ drop (suc i) xs) (sym is))

-- what was found so far, and what is left to be looked at
pub record FoundSoFar (found : Found) (rest all : List Bytes) : Type 0 where
  so_far : List Bytes
  are : AreFound found so_far
  whole : so_far ++ rest ≡ all

pub found_all : (found : Found) (rest all : List Bytes) → rest ≡ [] → FoundSoFar found rest all → AreFound found all
found_all found rest all none f = subst (λ ts. AreFound found ts) (sym (append-nil f.so_far) ∙ ap (λ r. f.so_far ++ r) (sym none) ∙ f.whole) f.are

pub found_same : (found : Found) (rest next all : List Bytes) → rest ≡ next → FoundSoFar found rest all → FoundSoFar found next all
found_same found rest next all same f = subst (λ r. FoundSoFar found r all) same f

pub found_first : (all : List Bytes) → FoundSoFar Nothing all all
found_first all = record { so_far = []; are = refl; whole = refl }

pub found_more : (found more : Found) (piece rest next all : List Bytes) → ((texts : List Bytes) → AreFound found texts → AreFound more (texts ++ piece)) → rest ≡ piece ++ next → FoundSoFar found rest all → FoundSoFar more next all
found_more found more piece rest next all and is f = record {
  so_far = f.so_far ++ piece;
  are = and f.so_far f.are;
  whole = append_assoc f.so_far piece next ∙ ap (λ r. f.so_far ++ r) (sym is) ∙ f.whole;
}

operands_split : (b : Bool) (word : Bytes) (words : List Bytes) → cond b (operands words) (word ∷ operands words) ≡ cond b [] (word ∷ []) ++ operands words
operands_split true word words = refl
operands_split false word words = refl

pub operands_here : (words : List (String Global)) (i : ℕ) (word : String Global) (text : Bytes) → i < length words → word ≡ get_or words i word → text ≡ string_bytes word
    → operands (map string_bytes (drop i words)) ≡ operands (text ∷ []) ++ operands (map string_bytes (drop (i + 1) words))
operands_here words i word text lt is same =
    ap (λ ws. operands (map string_bytes ws)) (here words i word lt is) ∙ operands_split (is_option (string_bytes word)) (string_bytes word) (map string_bytes (drop (i + 1) words))
    ∙ ap (λ t. operands (t ∷ []) ++ operands (map string_bytes (drop (i + 1) words))) (sym same)

pub values_here : (key : Bytes) (words : List (String Global)) (i : ℕ) (word : String Global) (text : Bytes) → i < length words → word ≡ get_or words i word → text ≡ string_bytes word
    → values key (map string_bytes (drop i words)) ≡ option_to_list (behind key text) ++ values key (map string_bytes (drop (i + 1) words))
values_here key words i word text lt is same =
    ap (λ ws. values key (map string_bytes ws)) (here words i word lt is) ∙ ap (λ t. option_to_list (behind key t) ++ values key (map string_bytes (drop (i + 1) words))) (sym same)

pub known_next : (keys : List Bytes) (words : List (String Global)) (i : ℕ) (word : String Global) (text : Bytes) → i < length words → word ≡ get_or words i word → text ≡ string_bytes word
    → true ≡ (not (is_option text) || has_key keys text) → are_known keys (map string_bytes (drop (i + 1) words)) ≡ are_known keys (map string_bytes (drop i words))
known_next keys words i word text lt is same known =
    ap (λ b. b && are_known keys (map string_bytes (drop (i + 1) words))) (known ∙ ap (λ t. not (is_option t) || has_key keys t) same) ∙ sym (ap (λ ws. are_known keys (map string_bytes ws)) (here words i word lt is))

pub key_next : (keys : List (Bor (List ℕ))) (word : Bytes) (i : ℕ) (key : Bor (List ℕ)) → i < length keys → key ≡ get_or keys i key → FindsTextPrefix key.now word None
    → has_key (map (λ k. k.now) (drop (i + 1) keys)) word ≡ has_key (map (λ k. k.now) (drop i keys)) word
key_next keys word i key lt is lacks =
    ap (λ b. b || has_key (map (λ k. k.now) (drop (i + 1) keys)) word) (starts_text false key.now word lacks) ∙ sym (ap (λ ks. has_key (map (λ k. k.now) ks) word) (here keys i key lt is))

pub key_here : (keys : List (Bor (List ℕ))) (word : Bytes) (i : ℕ) (key : Bor (List ℕ)) → i < length keys → key ≡ get_or keys i key → HasPrefixMatch (FindsTextPrefix key.now) word
    → true ≡ has_key (map (λ k. k.now) (drop i keys)) word
key_here keys word i key lt is starts =
    ap (λ b. b || has_key (map (λ k. k.now) (drop (i + 1) keys)) word) (starts_text true key.now word starts) ∙ sym (ap (λ ks. has_key (map (λ k. k.now) ks) word) (here keys i key lt is))

operand_by : (b : Bool) (word : Bytes) → is_option word ≡ b → operands (word ∷ []) ≡ cond b [] (word ∷ [])
operand_by b word is = ap (λ b. cond b [] (word ∷ [])) is

pub no_operand : (found : Found) (word : Bytes) → is_option word ≡ true → (texts : List Bytes) → AreFound found texts → AreFound found (texts ++ operands (word ∷ []))
no_operand found word is texts are = subst (λ ts. AreFound found ts) (sym (append-nil texts) ∙ ap (λ ts. texts ++ ts) (sym (operand_by true word is))) are

pub one_operand : (found : Found) (word : Bytes) (texts : List Bytes) → is_option word ≡ false → AreFound found (texts ++ word ∷ []) → AreFound found (texts ++ operands (word ∷ []))
one_operand found word texts is are = subst (λ ts. AreFound found ts) (ap (λ ts. texts ++ ts) (sym (operand_by false word is))) are

pub no_value : (found : Found) (value : Option Bytes) → value ≡ None → (texts : List Bytes) → AreFound found texts → AreFound found (texts ++ option_to_list value)
no_value found value is texts are = subst (λ ts. AreFound found ts) (sym (append-nil texts) ∙ ap (λ v. texts ++ option_to_list v) (sym is)) are

pub one_value : (found : Found) (text : Bytes) (value : Option Bytes) (texts : List Bytes) → value ≡ Some text → AreFound found (texts ++ text ∷ []) → AreFound found (texts ++ option_to_list value)
one_value found text value texts is are = subst (λ ts. AreFound found ts) (ap (λ v. texts ++ option_to_list v) (sym is)) are

pub known_option : (word : Bytes) (b : Bool) → is_option word ≡ true → b ≡ (not (is_option word) || b)
known_option word b is = ap (λ o. not o || b) (sym is)

pub known_operand : (word : Bytes) (b : Bool) → is_option word ≡ false → true ≡ (not (is_option word) || b)
known_operand word b is = ap (λ o. not o || b) (sym is)

-- ---- numbers

abbrev greatest : ℕ
greatest = 2 ^ 64 - 1

grows : (n : ℕ) (ds : Bytes) → n ≤ number_from n ds
grows n [] = omega arith
grows n (d ∷ ds) = let more = grows (10 * n + (d - 48)) ds in omega arith

capped_by : (n m : ℕ) (ds : Bytes) → greatest ≤ n → greatest ≤ m → min (number_from n ds) greatest ≡ min (number_from m ds) greatest
capped_by n m ds big large = let a = grows n ds in let b = grows m ds in omega arith

-- a number that is capped on the way is capped at the end
pub capped : (n m : ℕ) (ds : Bytes) → m ≡ min n greatest → min (number_from m ds) greatest ≡ min (number_from n ds) greatest
capped n m ds is = elim (cases_lt n greatest) [
  | inl less ↦ ap (λ k. min (number_from k ds) greatest) (let same : m ≡ n = omega arith in same)
  | inr more ↦ capped_by m n ds (omega arith) (omega arith)
]

pub digit_next : (digits : Bytes) (i number next d : ℕ) → i < length digits → d ≡ get_or digits i d → next ≡ min (10 * number + (d - 48)) greatest
    → min (number_from next (drop (i + 1) digits)) greatest ≡ min (number_from number (drop i digits)) greatest
digit_next digits i number next d lt is step =
    capped (10 * number + (d - 48)) next (drop (i + 1) digits) step ∙ sym (ap (λ ds. min (number_from number ds) greatest) (here digits i d lt is))

pub number_done : (text digits : Bytes) (i number : ℕ) → length digits ≤ i → number ≤ greatest → min (number_from number (drop i digits)) greatest ≡ min (number_from 0 text) greatest → number ≡ min (number_from 0 text) greatest
number_done text digits i number le fits is =
    let none : drop i digits ≡ [] = drop_all i digits le in
    let same : min number greatest ≡ number = omega arith in
    sym same ∙ ap (λ ds. min (number_from number ds) greatest) (sym none) ∙ is
