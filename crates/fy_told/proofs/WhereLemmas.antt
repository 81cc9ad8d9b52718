-- The names that a phrase uses: of which there are some, and the fields of a record.
use Rattle.std.proofs.Common.{ℕ, ◌≡◌, ◌≢◌, true, List, [], ◌∷◌, ◌++◌, length, map, min, take, codes, refl, ap, ◌∙◌, arith}
use Rattle.fy_base.specs.Outside.{Bytes}
use Rattle.fy_types.specs.Types.{PlainType, field, meet}
use Rattle.fy_derive.specs.declared.node.TypeNode.{TypeNode}
use Rattle.fy_derive.specs.declared.node.TypeNode.TheVariants as node
use Rattle.fy_derive.specs.Tables.{type_at, node_type, in_front, is_meet, is_meet_behind}
use Rattle.fy_show.specs.Entries.{Fields, Known}
use Rattle.fy_show.specs.Fresh.{fields_of}
use Rattle.fy_show.specs.Texts.{defined_name}
use Rattle.fy_told.specs.ReasonTexts.{listed, told, type_told, where_line}

-- ---- whether there are some

pub where-none : (n : ℕ) (xs : List Bytes) → n ≡ min 6 (length xs) → n ≡ 0 → where_line xs ≡ []
where-none n [] e h = refl
where-none n (x ∷ xs) e h = absurd (omega (arith, e, h))

pub where-some : (n : ℕ) (xs : List Bytes) → n ≡ min 6 (length xs) → n ≢ 0 → told (codes "where " ++ listed [] (take 6 xs)) ≡ where_line xs
where-some n [] e h = absurd (h (omega (arith, e)))
where-some n (x ∷ xs) e h = refl

pub ruleset where_rules = (where-none, where-some)

-- ---- the fields of a record

-- the fields of a type with their types, the first behind a lead
abbrev pub fields_told : Known → Fields → Bytes → PlainType → Bytes
fields_told k fs lead A = listed lead (map (λ (f : ℕ × PlainType). defined_name fs f.0 ++ codes ": " ++ type_told k f.1) (fields_of A))

field-front : (i : ℕ) (A B : PlainType) → is_meet B ≡ true → fields_of (in_front (field i A) B) ≡ (i, A) ∷ fields_of B
field-front i A (meet Bs) e = refl
field-front i A B e = absurd cc

abbrev IsOther : TypeNode → Type 0
IsOther n = (i r : ℕ) → n ≢ node.Field i r

meet-front : (X Y B : PlainType) → is_meet Y ≡ true → is_meet B ≡ true → fields_of (in_front (in_front X Y) B) ≡ fields_of B
meet-front X (meet Ys) (meet Bs) e h = refl
meet-front X Y B e h = absurd cc

other-front : (As : List PlainType) (n : TypeNode) (B : PlainType) → is_meet_behind As n ≡ true → IsOther n → is_meet B ≡ true → fields_of (in_front (node_type As n) B) ≡ fields_of B
other-front As node.Ns (meet Bs) l h e = refl
other-front As (node.Atom a) (meet Bs) l h e = refl
other-front As (node.Arrow d r) (meet Bs) l h e = refl
other-front As (node.Field i r) (meet Bs) l h e = absurd (h i r refl)
other-front As node.NoTypes (meet Bs) l h e = refl
other-front As (node.AndType p q) B l h e = meet-front (type_at As p) (type_at As q) B l e
other-front As n B l h e = absurd cc

-- one more field, and a member that is none
pub told-field : (k : Known) (fs : Fields) (lead : Bytes) (N A C B : PlainType) (i : ℕ) → N ≡ in_front C B → is_meet B ≡ true → C ≡ field i A →
    fields_told k fs lead N ≡ lead ++ (defined_name fs i ++ codes ": " ++ type_told k A) ++ fields_told k fs (codes ", ") B
told-field k fs lead N A C B i e h f =
    ap (fields_told k fs lead) (e ∙ ap (λ (D : PlainType). in_front D B) f)
    ∙ ap (λ (gs : List (ℕ × PlainType)). listed lead (map (λ (g : ℕ × PlainType). defined_name fs g.0 ++ codes ": " ++ type_told k g.1) gs)) (field-front i A B h)

pub told-other : (k : Known) (fs : Fields) (lead : Bytes) (As : List PlainType) (n : TypeNode) (N C B : PlainType) → N ≡ in_front C B → is_meet B ≡ true →
    C ≡ node_type As n → is_meet_behind As n ≡ true → IsOther n → fields_told k fs lead N ≡ fields_told k fs lead B
told-other k fs lead As n N C B e h f l o =
    ap (fields_told k fs lead) (e ∙ ap (λ (D : PlainType). in_front D B) f)
    ∙ ap (λ (gs : List (ℕ × PlainType)). listed lead (map (λ (g : ℕ × PlainType). defined_name fs g.0 ++ codes ": " ++ type_told k g.1) gs)) (other-front As n B l o h)

pub ruleset field_rules = (told-field, told-other)
