-- What sources gave and sinks gained, one piece behind the other.
use Rattle.std.proofs.Common.{◌≡◌, ℕ, Bool, IsTrue, [], ◌++◌, sym, ap, ◌∙◌, refl, subst, append_assoc, Some, None}
use Rattle.std.proofs.lemmas.List.{append-nil}
use Rattle.std.specs.Prelude.{drop, slice_get, is_none}
use Rattle.std.specs.Option.{option_map, option_to_list, unwrap_or, ForSome}
use Rattle.std.specs.declared.option.Option.{Option}
use Rattle.fy_base.specs.Outside.{Bytes, IsPrefix, Gave, IsAtEnd, Drew, Gained, GainedPart, appended}

pub prefix_all : (bytes : Bytes) → IsPrefix bytes bytes
prefix_all bytes = record { rest = []; is = sym (append-nil bytes) }

pub prefix_more : (a b c : Bytes) → IsPrefix a b → IsPrefix b c → IsPrefix a c
prefix_more a b c first next = record {
  rest = first.rest ++ next.rest;
  is = next.is ∙ ap (λ x. x ++ next.rest) first.is ∙ append_assoc a first.rest next.rest;
}

-- a text that is the same as another begins what the other begins
pub prefix_of : (a b c : Bytes) → a ≡ b → IsPrefix b c → IsPrefix a c
prefix_of a b c e h = subst (λ x. IsPrefix x c) (sym e) h

pub gained_none : (held : Option Bytes) → Gained held held []
gained_none None = refl
gained_none (Some bytes) = ap (λ b. Some b) (sym (append-nil bytes))

pub gained_more : (before held now : Option Bytes) (output bytes : Bytes) → Gained before held output → Gained held now bytes → Gained before now (output ++ bytes)
gained_more None held now output bytes first next = next ∙ ap (λ o. appended o bytes) first
gained_more (Some start) held now output bytes first next = next ∙ ap (λ o. appended o bytes) first ∙ ap (λ b. Some b) (append_assoc start output bytes)

pub part_longer : (before now : Option Bytes) (short long : Bytes) → GainedPart before now short → IsPrefix short long → GainedPart before now long
part_longer before now short long gained begins = record { part = gained.part; gained = gained.gained; begins = prefix_more gained.part short long gained.begins begins }

pub gave_none : (left : Option Bytes) → Gave left left []
gave_none None = refl
gave_none (Some bytes) = refl

pub gave_more : (before left now : Option Bytes) (given bytes : Bytes) → Gave before left given → Gave left now bytes → Gave before now (given ++ bytes)
gave_more before left None given bytes first next = first ∙ ap (λ o. option_map (λ rest. given ++ rest) o) next
gave_more before left (Some rest) given bytes first next = first ∙ ap (λ o. option_map (λ rest. given ++ rest) o) next ∙ ap (λ b. Some b) (sym (append_assoc given bytes rest))

-- what was drawn and then more, where the source is over
pub drew_all : (left left_now : Option Bytes) (over over_now : Bool) (bytes more : Bytes) → Drew left left_now over over_now bytes → (IsTrue over_now → more ≡ []) → IsTrue over → bytes ++ more ≡ []
drew_all left left_now over over_now bytes more drew none was = ap (λ b. b ++ more) (drew.none was) ∙ none (drew.stays was)

-- the bytes of a byte, or of none at the end, and then more give that byte first
pub first_of : (byte : Option ℕ) (more : Bytes) (over : Bool) → over ≡ is_none byte → (IsTrue over → more ≡ []) → slice_get (option_to_list byte ++ more) 0 ≡ byte
first_of (Some b) more over is none = refl
first_of None more over is none = ap (λ m. slice_get m 0) (none is)

pub rest_of : (byte : Option ℕ) (more : Bytes) (over : Bool) → over ≡ is_none byte → (IsTrue over → more ≡ []) → drop 1 (option_to_list byte ++ more) ≡ more
rest_of (Some b) more over is none = refl
rest_of None more over is none = ap (λ m. drop 1 m) (none is) ∙ sym (none is)

-- what is left at a source, where that is told, is nothing where the source is over
pub rest_none : (left : Option Bytes) (over : Bool) → (IsTrue over → IsAtEnd left) → IsTrue over → unwrap_or left [] ≡ []
rest_none None over at_end was = refl
rest_none (Some rest) over at_end was = at_end was rest refl

-- what was given and what is left are all that was left before, where that is told
pub told_of : (given : Bytes) (left left_now : Option Bytes) → Gave left left_now given → ForSome left (λ bytes. given ++ unwrap_or left_now [] ≡ bytes)
told_of given left None gave = λ bytes is. absurd (let none : Some bytes ≡ None = sym is ∙ gave in cc)
told_of given left (Some rest) gave = λ bytes is. let same : Some (given ++ rest) ≡ Some bytes = sym gave ∙ is in cc

-- what a run left of its input is left at the source
pub rest_left : (given : Bytes) (left left_now : Option Bytes) (rest : Bytes) → Gave left left_now given → rest ≡ unwrap_or left_now [] → left_now ≡ option_map (λ _. rest) left
rest_left given left None rest gave is = ap (λ o. option_map (λ _. rest) o) (sym gave)
rest_left given left (Some left_over) rest gave is = ap (λ b. Some b) (sym is) ∙ ap (λ o. option_map (λ _. rest) o) (sym gave)
