-- Texts that agree in their first bytes.
use Rattle.std.proofs.Common.{ℕ, zero, suc, ◌+◌, ◌-◌, ◌<◌, ◌≤◌, ◌≡◌, Bool, true, false, if◌then◌else◌, [], ◌∷◌, ◌++◌, length, take, drop, codes, refl, sym, ap, ◌∙◌, append_assoc, arith}
use Rattle.std.proofs.lemmas.Bool.{leb-false, leb-true}
use Rattle.std.proofs.lemmas.List.{append-nil, length-take, take-append-drop, take-append-le, take_all}
use Rattle.std.specs.Prelude.{nat_le}
use Rattle.fy_base.specs.Outside.{Bytes}
use Rattle.fy_short.specs.Cut.{cut, without_blanks}

first-same : (a b : ℕ) (x y : Bytes) → a ∷ x ≡ b ∷ y → a ≡ b
first-same a b x y e = cc

others-same : (a b : ℕ) (x y : Bytes) → a ∷ x ≡ b ∷ y → x ≡ y
others-same a b x y e = cc

-- the same behind both
pub take-behind : (m : ℕ) (x y z : Bytes) → take m x ≡ take m y → take m (x ++ z) ≡ take m (y ++ z)
take-behind zero x y z e = refl
take-behind (suc m) [] [] z e = refl
take-behind (suc m) [] (b ∷ y) z e = absurd cc
take-behind (suc m) (a ∷ x) [] z e = absurd cc
take-behind (suc m) (a ∷ x) (b ∷ y) z e =
    ap (λ c. c ∷ take m (x ++ z)) (first-same a b (take m x) (take m y) e)
    ∙ ap (λ l. b ∷ l) (take-behind m x y z (others-same a b (take m x) (take m y) e))

-- bytes put behind such a text
pub within-put : (m : ℕ) (x y old s t : Bytes) → take m x ≡ take m (old ++ s) → y ≡ x ++ t → take m y ≡ take m (old ++ (s ++ t))
within-put m x y old s t e h = ap (take m) h ∙ take-behind m x (old ++ s) t e ∙ ap (take m) (append_assoc old s t)

-- and bytes that agree with those that are put
pub within-then : (m : ℕ) (x y old s t : Bytes) → take m x ≡ take m (old ++ s) → take m y ≡ take m (x ++ t) → take m y ≡ take m (old ++ (s ++ t))
within-then m x y old s t e h = h ∙ take-behind m x (old ++ s) t e ∙ ap (take m) (append_assoc old s t)

-- a cut piece between two whole ones
pub within-pair : (m : ℕ) (x1 x2 x3 old s t u : Bytes) → x1 ≡ old ++ s → take m x2 ≡ take m (x1 ++ t) → x3 ≡ x2 ++ u → take m x3 ≡ take m (old ++ ((s ++ t) ++ u))
within-pair m x1 x2 x3 old s t u e h g = within-put m x2 x3 old (s ++ t) u (within-then m x1 x2 old s t (ap (take m) e) h) g

-- what stands past the first bytes doesn't matter
pub within-full : (m : ℕ) (x z : Bytes) → m ≤ length x → take m x ≡ take m (x ++ z)
within-full m x z h = sym (take-append-le m x z h)

-- one more piece of a list of pieces
pub within-step : (m : ℕ) (text x y lead s rest all : Bytes) → x ≡ text ++ lead → take m y ≡ take m (x ++ s) → take m (text ++ ((lead ++ s) ++ rest)) ≡ all → take m (y ++ rest) ≡ all
within-step m text x y lead s rest all e h g =
    take-behind m y (x ++ s) rest h
    ∙ ap (λ t. take m ((t ++ s) ++ rest)) e
    ∙ ap (λ t. take m (t ++ rest)) (append_assoc text lead s)
    ∙ ap (take m) (append_assoc text (lead ++ s) rest)
    ∙ g

pub within-end : (m : ℕ) (text rest all : Bytes) → m ≤ length text → take m (text ++ rest) ≡ all → take m text ≡ all
within-end m text rest all h g = within-full m text rest h ∙ g

pub within-last : (m : ℕ) (text rest all : Bytes) → rest ≡ [] → take m (text ++ rest) ≡ all → take m text ≡ all
within-last m text rest all h g = ap (take m) (sym (append-nil text) ∙ ap (λ t. text ++ t) (sym h)) ∙ g

short-same : (n : ℕ) (x y : Bytes) → take (n + 1) x ≡ take (n + 1) y → length x ≤ n → x ≡ y
short-same n x y e h =
    let all : take (n + 1) x ≡ x = take_all (n + 1) x (omega (arith, h)) in
    let same : length (take (n + 1) y) ≡ length x = ap length (sym e ∙ all) in
    let few : length y ≤ n = omega (arith, same, length-take (n + 1) y, h) in
    sym all ∙ e ∙ take_all (n + 1) y (omega (arith, few))

take-fewer : (n : ℕ) (x : Bytes) → n < length x → take (n - 3) x ≡ take (n - 3) (take (n + 1) x)
take-fewer n x h =
    ap (take (n - 3)) (sym (take-append-drop (n + 1) x))
    ∙ take-append-le (n - 3) (take (n + 1) x) (drop (n + 1) x) (omega (arith, length-take (n + 1) x, h))

abbrev cut-by : Bool → ℕ → Bytes → Bytes
cut-by short n text = if short then text else without_blanks (take (n - 3) text) ++ codes " .."

cut-step : (n : ℕ) (x y : Bytes) (b c : Bool) → nat_le (length x) n ≡ b → nat_le (length y) n ≡ c → take (n + 1) x ≡ take (n + 1) y → cut-by b n x ≡ cut-by c n y
cut-step n x y true true h k e = short-same n x y e (leb-true (length x) n h)
cut-step n x y true false h k e =
    let l = leb-true (length x) n h in
    let m = leb-false (length y) n k in
    absurd (omega (arith, ap length (short-same n x y e l), l, m))
cut-step n x y false true h k e =
    let l = leb-false (length x) n h in
    let m = leb-true (length y) n k in
    absurd (omega (arith, ap length (short-same n y x (sym e) m), l, m))
cut-step n x y false false h k e =
    ap (λ t. without_blanks t ++ codes " ..")
    (take-fewer n x (leb-false (length x) n h) ∙ ap (take (n - 3)) e ∙ sym (take-fewer n y (leb-false (length y) n k)))

-- a text is cut the same where one byte more agrees
pub cut-same : (n : ℕ) (x y : Bytes) → take (n + 1) x ≡ take (n + 1) y → cut n x ≡ cut n y
cut-same n x y e = cut-step n x y (nat_le (length x) n) (nat_le (length y) n) refl refl e
