-- The text of units put together is the definitions of all but the last, and the last.
use Rattle.std.proofs.Common.{◌≡◌, ℕ, ◌+◌, ◌-◌, ◌≤◌, List, [], ◌∷◌, ◌++◌, length, map, take, get_or, refl, sym, ap, ◌∙◌, arith}
use Rattle.std.specs.Prelude.{codes}
use Rattle.std.specs.List.{flat_map}
use Rattle.std.proofs.lemmas.List.{append_assoc, append-nil, take_more, take_all, map_push}
use Rattle.fy_base.specs.Outside.{Bytes}
use Rattle.fy_link.specs.declared.joined.Part.{Part}
use Rattle.fy_link.specs.Joined.{TextPart, joined_text}
use Rattle.fy_link.specs.Read.{plain_part}

-- `let NAME == (..) in `
abbrev pub definition_text : TextPart → Bytes
definition_text part = codes "let " ++ (part.name ++ (codes " == (" ++ (part.tail ++ codes ") in ")))

joined-more : (part next : TextPart) (more : List TextPart) → joined_text (part ∷ next ∷ more) ≡ definition_text part ++ joined_text (next ∷ more)
joined-more part next more = simp append_assoc

pub joined-last : (parts : List TextPart) (last : TextPart) → joined_text (parts ++ last ∷ []) ≡ flat_map definition_text parts ++ (codes "(" ++ (last.tail ++ codes ")"))
joined-last [] last = refl
joined-last (part ∷ []) last = joined-more part last [] ∙ ap (λ (text : Bytes). text ++ joined_text (last ∷ [])) (sym (append-nil (definition_text part)))
joined-last (part ∷ next ∷ more) last =
    joined-more part next (more ++ last ∷ [])
    ∙ (ap (λ (text : Bytes). definition_text part ++ text) (joined-last (next ∷ more) last)
    ∙ sym (append_assoc (definition_text part) (flat_map definition_text (next ∷ more)) (codes "(" ++ (last.tail ++ codes ")"))))

parts-apart : (ps : List Part) (d : Part) → 1 ≤ length ps → take (length ps - 1) ps ++ get_or ps (length ps - 1) d ∷ [] ≡ ps
parts-apart ps d h = sym (take_more ps (length ps - 1) d (omega arith)) ∙ take_all (length ps - 1 + 1) ps (omega arith)

three_on : (xs ys : Bytes) → ((xs ++ 40 ∷ []) ++ ys) ++ 41 ∷ [] ≡ xs ++ (codes "(" ++ (ys ++ codes ")"))
three_on xs ys = simp append_assoc

-- the definitions are put, and then the last part
pub joined-put : (ps : List Part) (i : ℕ) (d : Part) (a b c e : Bytes) → 1 ≤ length ps → length (take (length ps - 1) ps) ≤ i →
    a ≡ flat_map definition_text (map plain_part (take i (take (length ps - 1) ps))) → b ≡ a ++ 40 ∷ [] → c ≡ b ++ (get_or ps (length ps - 1) d).tail.now → e ≡ c ++ 41 ∷ [] →
    e ≡ joined_text (map plain_part ps)
joined-put ps i d a b c e some past before opened put closed =
    let defs : List Part = take (length ps - 1) ps in
    let last : Part = get_or ps (length ps - 1) d in
    let all : a ≡ flat_map definition_text (map plain_part defs) = before ∙ ap (λ (xs : List Part). flat_map definition_text (map plain_part xs)) (take_all i defs past) in
    closed
    ∙ (ap (λ (xs : Bytes). xs ++ 41 ∷ []) (put ∙ ap (λ (xs : Bytes). xs ++ last.tail.now) (opened ∙ ap (λ (xs : Bytes). xs ++ 40 ∷ []) all))
    ∙ (three_on (flat_map definition_text (map plain_part defs)) last.tail.now
    ∙ (sym (joined-last (map plain_part defs) (plain_part last)) ∙ ap joined_text (sym (map_push plain_part defs last) ∙ ap (map plain_part) (parts-apart ps d some)))))
