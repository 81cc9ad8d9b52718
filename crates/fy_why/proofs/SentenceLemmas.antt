-- Sentences by their cases.
use Rattle.std.proofs.Common.{ℕ, ◌≡◌, ◌≢◌, ◌≤◌, Bool, true, false, List, [], ◌∷◌, ◌++◌, append_assoc, length, map, min, take, codes, refl, sym, ap, ◌∙◌, arith}
use Rattle.std.specs.Prelude.{nat_le}
use Rattle.std.proofs.lemmas.Bool.{leb-false, leb-true}
use Rattle.std.proofs.lemmas.List.{take_all}
use Rattle.fy_base.specs.Outside.{Bytes}
use Rattle.fy_types.specs.Print.{name_text}
use Rattle.fy_show.specs.Entries.{Known}
use Rattle.fy_causes.specs.Hollow.{Explained}
use Rattle.fy_why.specs.Sentences.{fields_text, listed, type_text}
use Rattle.fy_why.specs.Texts.{lines}

-- the fields of a record, of none and of some
pub fields-none : (k : Known) (e : Explained) (is : List ℕ) → length is ≡ 0 → fields_text k e is ≡ codes "It has " ++ type_text k e 0 ++ codes ", and no field at all."
fields-none k e [] none = refl
fields-none k e (i ∷ is) none = absurd (omega arith)

pub fields-some : (k : Known) (e : Explained) (is : List ℕ) → length is ≢ 0 → fields_text k e is ≡ codes "Its fields are " ++ listed [] (map (name_text k.names) is) ++ codes "."
fields-some k e [] some = absurd (some refl)
fields-some k e (i ∷ is) some = refl

-- lines of two lists
pub lines-append : (lead : Bytes) (xs ys : List Bytes) → lines lead (xs ++ ys) ≡ lines lead xs ++ lines lead ys
lines-append lead [] ys = refl
lines-append lead (x ∷ xs) ys = ap (λ t. lead ++ x ++ 10 ∷ t) (lines-append lead xs ys) ∙ sym (append_assoc (lead ++ x) (10 ∷ lines lead xs) (lines lead ys))

-- so many members, by an end that is least
pub take-least : {A : Type 0} (xs : List A) (m n : ℕ) → m ≡ min (length xs) n → take m xs ≡ take n xs
take-least xs m n is = of (nat_le (length xs) n) refl
  where
    of : (b : Bool) → nat_le (length xs) n ≡ b → take m xs ≡ take n xs
    of true e =
        let few = leb-true (length xs) n e in
        let all : length xs ≤ m = omega (arith, is) in
        take_all m xs all ∙ sym (take_all n xs few)
    of false e =
        let many = leb-false (length xs) n e in
        let same : m ≡ n = omega (arith, is) in
        ap (λ j. take j xs) same
