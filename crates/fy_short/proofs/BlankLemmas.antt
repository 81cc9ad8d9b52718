-- The blanks at the end of a text.
use Rattle.std.proofs.Common.{◌≡◌, ◌≢◌, ◌<◌, ◌≤◌, ◌+◌, ◌-◌, ℕ, Bool, true, false, ◌&&◌, ◌==◌, if◌then◌else◌, [], ◌∷◌, ◌++◌, length, take, get_or, refl, sym, ap, ◌∙◌, arith}
use Rattle.std.proofs.lemmas.Bool.{ne_eqb}
use Rattle.std.proofs.lemmas.List.{take_more}
use Rattle.fy_base.specs.Outside.{Bytes}
use Rattle.fy_short.specs.Cut.{is_blank, without_blanks}

and-false : (b : Bool) → (b && false) ≡ false
and-false true = refl
and-false false = refl

is_blank-blank : (xs : Bytes) → is_blank (xs ++ 32 ∷ []) ≡ is_blank xs
is_blank-blank [] = refl
is_blank-blank (x ∷ xs) = ap (λ b. (x == 32) && b) (is_blank-blank xs)

is_blank-other : (xs : Bytes) (b : ℕ) → (b == 32) ≡ false → is_blank (xs ++ b ∷ []) ≡ false
is_blank-other [] b h = ap (λ c. c && true) h
is_blank-other (x ∷ xs) b h = ap (λ c. (x == 32) && c) (is_blank-other xs b h) ∙ and-false (x == 32)

-- a blank at the end goes
pub without-blank : (xs : Bytes) → without_blanks (xs ++ 32 ∷ []) ≡ without_blanks xs
without-blank [] = refl
without-blank (x ∷ xs) =
    ap (λ c. if c then [] else x ∷ without_blanks (xs ++ 32 ∷ [])) (is_blank-blank (x ∷ xs))
    ∙ ap (λ l. if is_blank (x ∷ xs) then [] else x ∷ l) (without-blank xs)

-- and any other byte there stays, with all before it
pub without-other : (xs : Bytes) (b : ℕ) → (b == 32) ≡ false → without_blanks (xs ++ b ∷ []) ≡ xs ++ b ∷ []
without-other [] b h = ap (λ c. if c then [] else b ∷ []) (is_blank-other [] b h)
without-other (x ∷ xs) b h =
    ap (λ c. if c then [] else x ∷ without_blanks (xs ++ b ∷ [])) (is_blank-other (x ∷ xs) b h) ∙ ap (λ l. x ∷ l) (without-other xs b h)

-- a blank at the end of the first i bytes, and any other byte there
pub blank-last : (bytes : Bytes) (i : ℕ) → 0 < i → i ≤ length bytes → get_or bytes (i - 1) 0 ≡ 32 → without_blanks (take (i - 1) bytes) ≡ without_blanks (take i bytes)
blank-last bytes i some within blank =
    let e : (i - 1) + 1 ≡ i = omega arith in
    sym (ap (λ k. without_blanks (take k bytes)) (sym e)
    ∙ (ap without_blanks (take_more bytes (i - 1) 0 (omega arith) ∙ ap (λ b. take (i - 1) bytes ++ (b ∷ [])) blank)
    ∙ without-blank (take (i - 1) bytes)))

pub other-last : (bytes : Bytes) (i : ℕ) → 0 < i → i ≤ length bytes → get_or bytes (i - 1) 0 ≢ 32 → take i bytes ≡ without_blanks (take i bytes)
other-last bytes i some within other =
    let e : (i - 1) + 1 ≡ i = omega arith in
    let f : take i bytes ≡ take (i - 1) bytes ++ get_or bytes (i - 1) 0 ∷ [] = ap (λ k. take k bytes) (sym e) ∙ take_more bytes (i - 1) 0 (omega arith) in
    f ∙ (sym (without-other (take (i - 1) bytes) (get_or bytes (i - 1) 0) (ne_eqb _ _ other)) ∙ ap without_blanks (sym f))

pub ruleset blanks = (blank-last, other-last)
