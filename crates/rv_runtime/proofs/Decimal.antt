-- The digits of a number from the highest down are its decimal text.
use Rattle.std.proofs.Common.{◌≡◌, ℕ, zero, suc, ◌+◌, ◌*◌, ◌/◌, ◌%◌, ◌^◌, ◌<◌, ◌≤◌, ◌⊎◌, inl, inr, List, [], ◌∷◌, ◌++◌, sym, ap, ◌∙◌, arith, lit<}
use Rattle.std.proofs.Math.Nat.{pow-suc, one-le-pow}
use Rattle.std.proofs.lemmas.Nat.{div-add-mod', mod_below, same_from_place}
use Rattle.std.proofs.lemmas.Fmt.{decimal_digit, decimal_step}
use Rattle.std.specs.Fmt.{decimal}

-- the digits of x from that of 10 ^ k on
abbrev pub digits_from : ℕ → ℕ → List ℕ
digits_from zero x = (x + 48) ∷ []
digits_from (suc k) x = (x / 10 ^ suc k + 48) ∷ digits_from k (x % 10 ^ suc k)

pub tens : (k : ℕ) → 1 ≤ 10 ^ k
tens k = one-le-pow k 10 (lit< tt)

-- x without its last digit, and that digit, from what lies above and below the weight 10 * w
record Parted (x w : ℕ) : Type 0 where
  above : x / (w * 10) ≡ x / 10 / w
  between : x % (w * 10) / 10 ≡ x / 10 % w
  last : x % (w * 10) % 10 ≡ x % 10

parted : (x w : ℕ) → 0 < w → Parted x w
parted x w some =
    let whole : x / 10 * 10 + x % 10 ≡ x = div-add-mod' x 10 in
    let tenth : x / 10 / w * w + x / 10 % w ≡ x / 10 = div-add-mod' (x / 10) w in
    let small : x / 10 % w < w = mod_below (x / 10) w some in
    let low : x / 10 % w * 10 + x % 10 < w * 10 = omega arith in
    let split : x / (w * 10) * (w * 10) + x % (w * 10) ≡ x = div-add-mod' x (w * 10) in
    let below : x % (w * 10) < w * 10 = mod_below x (w * 10) (omega arith) in
    let both : x / 10 / w * (w * 10) + (x / 10 % w * 10 + x % 10) ≡ x / (w * 10) * (w * 10) + x % (w * 10) = grind (arith, whole, tenth, split) in
    let same : (x / 10 / w ≡ x / (w * 10)) × (x / 10 % w * 10 + x % 10 ≡ x % (w * 10)) = same_from_place (x / 10 / w) (x / 10 % w * 10 + x % 10) (x / (w * 10)) (x % (w * 10)) (w * 10) low below both in
    record { above = sym same.0; between = omega (arith, same.1); last = omega (arith, same.1) }

-- the last digit apart
digits_from-last : (k x : ℕ) → digits_from (suc k) x ≡ digits_from k (x / 10) ++ (48 + x % 10) ∷ []
digits_from-last zero x = let e : x % 10 + 48 ≡ 48 + x % 10 = omega arith in ap (λ d. (x / 10 + 48) ∷ d ∷ []) e
digits_from-last (suc k) x =
    let weight : 10 ^ suc (suc k) ≡ 10 ^ suc k * 10 = pow-suc 10 (suc k) in
    let p : Parted x (10 ^ suc k) = parted x (10 ^ suc k) (tens (suc k)) in
    let above : x / 10 ^ suc (suc k) ≡ x / 10 / 10 ^ suc k = ap (λ w. x / w) weight ∙ p.above in
    let between : x % 10 ^ suc (suc k) / 10 ≡ x / 10 % 10 ^ suc k = ap (λ w. x % w / 10) weight ∙ p.between in
    let last : x % 10 ^ suc (suc k) % 10 ≡ x % 10 = ap (λ w. x % w % 10) weight ∙ p.last in
    ap (λ d. (d + 48) ∷ digits_from (suc k) (x % 10 ^ suc (suc k))) above
    ∙ ap (λ l. (x / 10 / 10 ^ suc k + 48) ∷ l)
    (digits_from-last k (x % 10 ^ suc (suc k))
    ∙ ap (λ d. digits_from k (x % 10 ^ suc (suc k) / 10) ++ (48 + d) ∷ []) last
    ∙ ap (λ y. digits_from k y ++ (48 + x % 10) ∷ []) between)

pub digits_from-decimal : (k x : ℕ) → x < 2 ^ 64 → x < 10 * 10 ^ k → (k ≡ 0) ⊎ (10 ^ k ≤ x) → digits_from k x ≡ decimal x
digits_from-decimal zero x fits below above = let e : x + 48 ≡ 48 + x = omega arith in ap (λ d. d ∷ []) e ∙ sym (decimal_digit x below)
digits_from-decimal (suc k) x fits below (inl none) = absurd (omega arith)
digits_from-decimal (suc k) x fits below (inr above) =
    let weight : 10 ^ suc k ≡ 10 ^ k * 10 = pow-suc 10 k in
    let one : 1 ≤ 10 ^ k = tens k in
    digits_from-last k x
    ∙ ap (λ l. l ++ (48 + x % 10) ∷ []) (digits_from-decimal k (x / 10) (omega arith) (omega (arith, weight)) (inr (omega (arith, weight))))
    ∙ sym (decimal_step x (omega (arith, weight, one)) fits)
