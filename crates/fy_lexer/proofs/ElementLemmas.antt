-- Elements: none is the beginning of another, and where a text can't become one.
use Rattle.std.proofs.Common.{◌≡◌, ℕ, ◌+◌, ◌*◌, ◌≤◌, true, false, [], ◌∷◌, ◌++◌, length, refl, sym, ap, ◌∙◌, arith, Some, None, append_assoc, append-nil}
use Rattle.std.proofs.lemmas.Bool.Decides.{nat_tests}
use Rattle.fy_base.specs.Outside.{Bytes}
use Rattle.fy_lexer.specs.Spellings.{Element, plain, escape, code, Elements, is_plain, escaped, hex_value}
use Rattle.fy_lexer.specs.Reading.{IsCut, IsMisfitBehind}

-- a plain byte is neither the quote nor \
pub plain-quote : (quote b : ℕ) → is_plain quote b ≡ true → b ≡ quote → ⊥
plain-quote quote b h e = grind (arith, nat_tests)

pub plain-backslash : (quote b : ℕ) → is_plain quote b ≡ true → b ≡ 92 → ⊥
plain-backslash quote b h e = grind (arith, nat_tests)

escaped-x : (c v : ℕ) → escaped c ≡ Some v → c ≡ 120 → ⊥
escaped-x c v h e = let n : escaped c ≡ None = ap escaped e in cc

-- of two elements at the front of one text, both are the same
pub element-front : (quote : ℕ) (e e' y y' : Bytes) (v v' : ℕ) → Element quote e v → Element quote e' v' → e ++ y ≡ e' ++ y' → (e ≡ e') × (v ≡ v') × (y ≡ y')
element-front quote e e' y y' v v' (plain p h) (plain p' h') t =
    let s : v ∷ y ≡ v' ∷ y' = ap (λ l. l ++ y) (sym p) ∙ t ∙ ap (λ l. l ++ y') p' in
    let a : v ≡ v' = cc in (p ∙ ap (λ x. x ∷ []) a ∙ sym p', a, cc)
element-front quote e e' y y' v v' (plain p h) (escape c' p' h') t =
    let s : v ∷ y ≡ 92 ∷ c' ∷ y' = ap (λ l. l ++ y) (sym p) ∙ t ∙ ap (λ l. l ++ y') p' in
    absurd (plain-backslash quote v h cc)
element-front quote e e' y y' v v' (plain p h) (code a' b' m' n' p' h' k' z') t =
    let s : v ∷ y ≡ 92 ∷ 120 ∷ a' ∷ b' ∷ y' = ap (λ l. l ++ y) (sym p) ∙ t ∙ ap (λ l. l ++ y') p' in
    absurd (plain-backslash quote v h cc)
element-front quote e e' y y' v v' (escape c p h) (plain p' h') t =
    let s : 92 ∷ c ∷ y ≡ v' ∷ y' = ap (λ l. l ++ y) (sym p) ∙ t ∙ ap (λ l. l ++ y') p' in
    absurd (plain-backslash quote v' h' cc)
element-front quote e e' y y' v v' (escape c p h) (escape c' p' h') t =
    let s : 92 ∷ c ∷ y ≡ 92 ∷ c' ∷ y' = ap (λ l. l ++ y) (sym p) ∙ t ∙ ap (λ l. l ++ y') p' in
    let a : c ≡ c' = cc in
    let w : Some v ≡ Some v' = sym h ∙ ap escaped a ∙ h' in
    (p ∙ ap (λ x. 92 ∷ x ∷ []) a ∙ sym p', cc, cc)
element-front quote e e' y y' v v' (escape c p h) (code a' b' m' n' p' h' k' z') t =
    let s : 92 ∷ c ∷ y ≡ 92 ∷ 120 ∷ a' ∷ b' ∷ y' = ap (λ l. l ++ y) (sym p) ∙ t ∙ ap (λ l. l ++ y') p' in
    absurd (escaped-x c v h cc)
element-front quote e e' y y' v v' (code a b m n p h k z) (plain p' h') t =
    let s : 92 ∷ 120 ∷ a ∷ b ∷ y ≡ v' ∷ y' = ap (λ l. l ++ y) (sym p) ∙ t ∙ ap (λ l. l ++ y') p' in
    absurd (plain-backslash quote v' h' cc)
element-front quote e e' y y' v v' (code a b m n p h k z) (escape c' p' h') t =
    let s : 92 ∷ 120 ∷ a ∷ b ∷ y ≡ 92 ∷ c' ∷ y' = ap (λ l. l ++ y) (sym p) ∙ t ∙ ap (λ l. l ++ y') p' in
    absurd (escaped-x c' v' h' cc)
element-front quote e e' y y' v v' (code a b m n p h k z) (code a' b' m' n' p' h' k' z') t =
    let s : 92 ∷ 120 ∷ a ∷ b ∷ y ≡ 92 ∷ 120 ∷ a' ∷ b' ∷ y' = ap (λ l. l ++ y) (sym p) ∙ t ∙ ap (λ l. l ++ y') p' in
    let i : a ≡ a' = cc in
    let j : b ≡ b' = cc in
    let w : Some m ≡ Some m' = sym h ∙ ap hex_value i ∙ h' in
    let u : Some n ≡ Some n' = sym k ∙ ap hex_value j ∙ k' in
    let mm : m ≡ m' = cc in
    let nn : n ≡ n' = cc in
    (p ∙ (λ x. 92 ∷ 120 ∷ i x ∷ j x ∷ []) ∙ sym p', z ∙ (λ x. 16 * mm x + nn x) ∙ sym z', cc)

-- the first byte of an element: no quote
pub element-head : (quote : ℕ) (e y rest : Bytes) (v b : ℕ) → Element quote e v → e ++ y ≡ b ∷ rest → (quote ≡ 92 → ⊥) → b ≡ quote → ⊥
element-head quote e y rest v b (plain p h) t q i =
    let s : v ∷ y ≡ b ∷ rest = ap (λ l. l ++ y) (sym p) ∙ t in plain-quote quote v h cc
element-head quote e y rest v b (escape c p h) t q i =
    let s : 92 ∷ c ∷ y ≡ b ∷ rest = ap (λ l. l ++ y) (sym p) ∙ t in q cc
element-head quote e y rest v b (code a d m n p h k z) t q i =
    let s : 92 ∷ 120 ∷ a ∷ d ∷ y ≡ b ∷ rest = ap (λ l. l ++ y) (sym p) ∙ t in q cc

-- an element has a byte
pub element-filled : (quote : ℕ) (e : Bytes) (v : ℕ) → Element quote e v → 1 ≤ length e
element-filled quote e v (plain p h) = let l = ap length p in omega (arith, l)
element-filled quote e v (escape c p h) = let l = ap length p in omega (arith, l)
element-filled quote e v (code a d m n p h k z) = let l = ap length p in omega (arith, l)

-- one more element
pub Elements-push : (quote : ℕ) (inside : Bytes) (values : Bytes) (e : Bytes) (v : ℕ) → Elements quote inside values → Element quote e v → Elements quote (inside ++ e) (values ++ v ∷ [])
Elements-push quote inside [] e v h k = (e, [], ap (λ l. l ++ e) h ∙ sym (append-nil e), k, refl)
Elements-push quote inside (w ∷ values) e v h k =
    (h.0, h.1 ++ e, ap (λ l. l ++ e) h.2 ∙ append_assoc h.0 h.1 e, h.3, Elements-push quote h.1 values e v h.4 k)

-- what a literal has behind elements that it begins with
pub record Peeled (quote : ℕ) (values all y rest : Bytes) : Type 0 where
  pub inside : Bytes
  pub others : Bytes
  pub all_are : all ≡ values ++ others
  pub elements : Elements quote inside others
  pub text : y ≡ inside ++ quote ∷ rest

pub peel : (quote : ℕ) → (quote ≡ 92 → ⊥) → (values all t t' y rest : Bytes) → Elements quote t values → Elements quote t' all → t ++ y ≡ t' ++ quote ∷ rest → Peeled quote values all y rest
peel quote q [] all t t' y rest h k e =
    record { inside = t'; others = all; all_are = refl; elements = k; text = ap (λ l. l ++ y) (sym h) ∙ e }
peel quote q (v ∷ values) [] t t' y rest h k e =
    absurd (element-head quote h.0 (h.1 ++ y) rest v quote h.3 (sym (ap (λ l. l ++ y) h.2 ∙ append_assoc h.0 h.1 y) ∙ e ∙ ap (λ l. l ++ quote ∷ rest) k) q refl)
peel quote q (v ∷ values) (v' ∷ all) t t' y rest h k e =
    let s : h.0 ++ (h.1 ++ y) ≡ k.0 ++ (k.1 ++ quote ∷ rest) =
    sym (ap (λ l. l ++ y) h.2 ∙ append_assoc h.0 h.1 y) ∙ e ∙ ap (λ l. l ++ quote ∷ rest) k.2 ∙ append_assoc k.0 k.1 (quote ∷ rest) in
    let f = element-front quote h.0 k.0 (h.1 ++ y) (k.1 ++ quote ∷ rest) v v' h.3 k.3 s in
    let r = peel quote q values all h.1 k.1 y rest h.4 k.4 f.2 in
    record { inside = r.inside; others = r.others; all_are = (λ i. sym f.1 i ∷ r.all_are i); elements = r.elements; text = r.text }

-- where the text ends within an element
pub cut-nothing : (quote : ℕ) → IsCut quote []
cut-nothing quote = record { begins = record { more = 92 ∷ 110 ∷ []; value = 10; element = escape 110 refl refl }; none = none }
  where
    none : (piece more : Bytes) (value : ℕ) → Element quote piece value → piece ++ more ≡ [] → ⊥
    none piece more value (plain p h) t = let s : value ∷ more ≡ [] = ap (λ l. l ++ more) (sym p) ∙ t in cc
    none piece more value (escape c p h) t = let s : 92 ∷ c ∷ more ≡ [] = ap (λ l. l ++ more) (sym p) ∙ t in cc
    none piece more value (code a d m n p h k z) t = let s : 92 ∷ 120 ∷ a ∷ d ∷ more ≡ [] = ap (λ l. l ++ more) (sym p) ∙ t in cc

pub cut-backslash : (quote : ℕ) → IsCut quote (92 ∷ [])
cut-backslash quote = record { begins = record { more = 110 ∷ []; value = 10; element = escape 110 refl refl }; none = none }
  where
    none : (piece more : Bytes) (value : ℕ) → Element quote piece value → piece ++ more ≡ 92 ∷ [] → ⊥
    none piece more value (plain p h) t = let s : value ∷ more ≡ 92 ∷ [] = ap (λ l. l ++ more) (sym p) ∙ t in plain-backslash quote value h cc
    none piece more value (escape c p h) t = let s : 92 ∷ c ∷ more ≡ 92 ∷ [] = ap (λ l. l ++ more) (sym p) ∙ t in cc
    none piece more value (code a d m n p h k z) t = let s : 92 ∷ 120 ∷ a ∷ d ∷ more ≡ 92 ∷ [] = ap (λ l. l ++ more) (sym p) ∙ t in cc

pub cut-x : (quote : ℕ) → IsCut quote (92 ∷ 120 ∷ [])
cut-x quote = record { begins = record { more = 48 ∷ 48 ∷ []; value = 0; element = code 48 48 0 0 refl refl refl refl }; none = none }
  where
    none : (piece more : Bytes) (value : ℕ) → Element quote piece value → piece ++ more ≡ 92 ∷ 120 ∷ [] → ⊥
    none piece more value (plain p h) t = let s : value ∷ more ≡ 92 ∷ 120 ∷ [] = ap (λ l. l ++ more) (sym p) ∙ t in plain-backslash quote value h cc
    none piece more value (escape c p h) t = let s : 92 ∷ c ∷ more ≡ 92 ∷ 120 ∷ [] = ap (λ l. l ++ more) (sym p) ∙ t in escaped-x c value h cc
    none piece more value (code a d m n p h k z) t = let s : 92 ∷ 120 ∷ a ∷ d ∷ more ≡ 92 ∷ 120 ∷ [] = ap (λ l. l ++ more) (sym p) ∙ t in cc

pub cut-digit : (quote b w : ℕ) → hex_value b ≡ Some w → IsCut quote (92 ∷ 120 ∷ b ∷ [])
cut-digit quote b w g = record { begins = record { more = 48 ∷ []; value = 16 * w + 0; element = code b 48 w 0 refl g refl refl }; none = none }
  where
    none : (piece more : Bytes) (value : ℕ) → Element quote piece value → piece ++ more ≡ 92 ∷ 120 ∷ b ∷ [] → ⊥
    none piece more value (plain p h) t = let s : value ∷ more ≡ 92 ∷ 120 ∷ b ∷ [] = ap (λ l. l ++ more) (sym p) ∙ t in plain-backslash quote value h cc
    none piece more value (escape c p h) t = let s : 92 ∷ c ∷ more ≡ 92 ∷ 120 ∷ b ∷ [] = ap (λ l. l ++ more) (sym p) ∙ t in escaped-x c value h cc
    none piece more value (code a d m n p h k z) t = let s : 92 ∷ 120 ∷ a ∷ d ∷ more ≡ 92 ∷ 120 ∷ b ∷ [] = ap (λ l. l ++ more) (sym p) ∙ t in cc

-- where a byte doesn't fit
pub misfit-nothing : (quote b : ℕ) (rest : Bytes) → is_plain quote b ≡ false → (b ≡ 92 → ⊥) → IsMisfitBehind quote (b ∷ rest) []
misfit-nothing quote b rest f g = record { bad = b; rest = rest; is = refl; begins = (cut-nothing quote).begins; none = none }
  where
    none : (other piece more : Bytes) (value : ℕ) → Element quote piece value → piece ++ more ≡ b ∷ other → ⊥
    none other piece more value (plain p h) t =
        let s : value ∷ more ≡ b ∷ other = ap (λ l. l ++ more) (sym p) ∙ t in
        let e : value ≡ b = cc in let k : is_plain quote value ≡ false = ap (is_plain quote) e ∙ f in cc
    none other piece more value (escape c p h) t = let s : 92 ∷ c ∷ more ≡ b ∷ other = ap (λ l. l ++ more) (sym p) ∙ t in g cc
    none other piece more value (code a d m n p h k z) t = let s : 92 ∷ 120 ∷ a ∷ d ∷ more ≡ b ∷ other = ap (λ l. l ++ more) (sym p) ∙ t in g cc

pub misfit-backslash : (quote b : ℕ) (rest : Bytes) → escaped b ≡ None → (b ≡ 120 → ⊥) → IsMisfitBehind quote (92 ∷ b ∷ rest) (92 ∷ [])
misfit-backslash quote b rest f g = record { bad = b; rest = rest; is = refl; begins = (cut-backslash quote).begins; none = none }
  where
    none : (other piece more : Bytes) (value : ℕ) → Element quote piece value → piece ++ more ≡ 92 ∷ b ∷ other → ⊥
    none other piece more value (plain p h) t = let s : value ∷ more ≡ 92 ∷ b ∷ other = ap (λ l. l ++ more) (sym p) ∙ t in plain-backslash quote value h cc
    none other piece more value (escape c p h) t =
        let s : 92 ∷ c ∷ more ≡ 92 ∷ b ∷ other = ap (λ l. l ++ more) (sym p) ∙ t in
        let e : c ≡ b = cc in let k : escaped c ≡ None = ap escaped e ∙ f in cc
    none other piece more value (code a d m n p h k z) t = let s : 92 ∷ 120 ∷ a ∷ d ∷ more ≡ 92 ∷ b ∷ other = ap (λ l. l ++ more) (sym p) ∙ t in g cc

pub misfit-x : (quote b : ℕ) (rest : Bytes) → hex_value b ≡ None → IsMisfitBehind quote (92 ∷ 120 ∷ b ∷ rest) (92 ∷ 120 ∷ [])
misfit-x quote b rest f = record { bad = b; rest = rest; is = refl; begins = (cut-x quote).begins; none = none }
  where
    none : (other piece more : Bytes) (value : ℕ) → Element quote piece value → piece ++ more ≡ 92 ∷ 120 ∷ b ∷ other → ⊥
    none other piece more value (plain p h) t = let s : value ∷ more ≡ 92 ∷ 120 ∷ b ∷ other = ap (λ l. l ++ more) (sym p) ∙ t in plain-backslash quote value h cc
    none other piece more value (escape c p h) t = let s : 92 ∷ c ∷ more ≡ 92 ∷ 120 ∷ b ∷ other = ap (λ l. l ++ more) (sym p) ∙ t in escaped-x c value h cc
    none other piece more value (code a d m n p h k z) t =
        let s : 92 ∷ 120 ∷ a ∷ d ∷ more ≡ 92 ∷ 120 ∷ b ∷ other = ap (λ l. l ++ more) (sym p) ∙ t in
        let e : a ≡ b = cc in let w : hex_value a ≡ None = ap hex_value e ∙ f in cc

pub misfit-digit : (quote g w b : ℕ) (rest : Bytes) → hex_value g ≡ Some w → hex_value b ≡ None → IsMisfitBehind quote (92 ∷ 120 ∷ g ∷ b ∷ rest) (92 ∷ 120 ∷ g ∷ [])
misfit-digit quote g w b rest r f = record { bad = b; rest = rest; is = refl; begins = (cut-digit quote g w r).begins; none = none }
  where
    none : (other piece more : Bytes) (value : ℕ) → Element quote piece value → piece ++ more ≡ 92 ∷ 120 ∷ g ∷ b ∷ other → ⊥
    none other piece more value (plain p h) t = let s : value ∷ more ≡ 92 ∷ 120 ∷ g ∷ b ∷ other = ap (λ l. l ++ more) (sym p) ∙ t in plain-backslash quote value h cc
    none other piece more value (escape c p h) t = let s : 92 ∷ c ∷ more ≡ 92 ∷ 120 ∷ g ∷ b ∷ other = ap (λ l. l ++ more) (sym p) ∙ t in escaped-x c value h cc
    none other piece more value (code a d m n p h k z) t =
        let s : 92 ∷ 120 ∷ a ∷ d ∷ more ≡ 92 ∷ 120 ∷ g ∷ b ∷ other = ap (λ l. l ++ more) (sym p) ∙ t in
        let e : d ≡ b = cc in let u : hex_value d ≡ None = ap hex_value e ∙ f in cc
