-- The fields of a `letrec` by the names that they are shown with, and the index of a sequence.
use Rattle.std.proofs.Common.{◌≡◌, ℕ, suc, ◌==◌, Bool, true, false, if◌then◌else◌, Some, unwrap_or, List, [], ◌∷◌, ◌++◌, refl, sym, ap, subst, ◌∙◌, append_assoc, inl, inr, ◌⊎◌}
use Rattle.std.specs.Str.{bytes_eq}
use Rattle.std.proofs.lemmas.Bool.{false≢true, or_cases, eq-eqb, eqb-true}
use Rattle.std.proofs.lemmas.Slice.Eq.{bytes_eq-Decides}
use Rattle.fy_base.specs.Outside.{Bytes}
use Rattle.fy_types.specs.Names.{has, number_of}
use Rattle.fy_types.specs.Print.{name_text}
use Rattle.fy_types.specs.Types.{PlainType}
use Rattle.fy_lexer.specs.Identifiers.{AreIdentifiers}
use Rattle.fy_phrase.specs.Tree as plain
use Rattle.fy_phrase.specs.Alike.{lifted}
use Rattle.fy_expand.specs.Scope.{Scope, behind, under_members}
use Rattle.fy_show.specs.declared.binders.Binder.{Binder}
use Rattle.fy_show.specs.Entries.{Fields, Entry, unnamed, one, all, Known, entry_at, field_name, is_field_name}
use Rattle.fy_show.specs.Fresh.{fresh, uses, is_taken, fields_behind}
use Rattle.fy_show.specs.Texts.{defined_name}
use Rattle.fy_again.specs.Phrases.{plainly, AreKept, IsAmong}
use Rattle.fy_again.proofs.PhraseLemmas.{IsShown, shown_there}
use Rattle.fy_again.proofs.LetrecLemmas.{plain_decls}
use Rattle.fy_again.proofs.StandingLemmas.{alone, AllStand, number_same, members_here, members_there, members_other, or_left, or_right, stand_inside}

-- each field is shown by its own name, an identifier
abbrev pub AreShown : List Bytes → Fields → Type 0
AreShown names [] = Unit {0}
AreShown names (f ∷ fs) = IsShown names f.1 × (number_of names f.1 ≡ f.0) × AreShown names fs

pub kept_shown : (names : List Bytes) → AreIdentifiers names → (fs : Fields) → AreKept names fs → AreShown names fs
kept_shown names ids [] h = tt
kept_shown names ids (f ∷ fs) h = (shown_there names f.1 ids h.0, h.1, kept_shown names ids fs h.2)

-- fields with names and fields with types are the same
abbrev pub AreSame : Fields → List (ℕ × PlainType) → Type 0
AreSame [] [] = Unit {0}
AreSame [] (g ∷ gs) = ⊥
AreSame (f ∷ fs) [] = ⊥
AreSame (f ∷ fs) (g ∷ gs) = (f.0 ≡ g.0) × AreSame fs gs

same-behind : (fs : Fields) (gs : List (ℕ × PlainType)) (f : ℕ × Bytes) (g : ℕ × PlainType) → AreSame fs gs → f.0 ≡ g.0 → AreSame (fs ++ f ∷ []) (gs ++ g ∷ [])
same-behind [] [] f g h e = (e, tt)
same-behind [] (x ∷ gs) f g h e = absurd h
same-behind (x ∷ fs) [] f g h e = absurd h
same-behind (x ∷ fs) (y ∷ gs) f g h e = (h.0, same-behind fs gs f g h.1 e)

fields-same : (k : Known) (s : List Entry) (ps : List plain.Tree) (done : Fields) (before gs : List (ℕ × PlainType)) → AreSame done before → AreSame (fields_behind k s ps done gs) (before ++ gs)
fields-same k s ps done before [] h = subst (λ l. AreSame done l) (sym (append-none before)) h
  where
    append-none : (l : List (ℕ × PlainType)) → l ++ [] ≡ l
    append-none [] = refl
    append-none (x ∷ l) = ap (λ m. x ∷ m) (append-none l)
fields-same k s ps done before (g ∷ gs) h =
    let f : ℕ × Bytes = (g.0, fresh (is_taken k s ps done) (name_text k.names g.0)) in
    subst (λ l. AreSame (fields_behind k s ps (done ++ f ∷ []) gs) l) (append_assoc before (g ∷ []) gs)
    (fields-same k s ps (done ++ f ∷ []) (before ++ g ∷ []) gs (same-behind done before f g h refl))

pub all-same : (k : Known) (s : List Entry) (ps : List plain.Tree) (gs : List (ℕ × PlainType)) → AreSame (fields_behind k s ps [] gs) gs
all-same k s ps gs = fields-same k s ps [] [] gs tt

record FieldShown (names : List Bytes) (t : Bytes) (gs : List (ℕ × PlainType)) : Type 0 where
  shown : IsShown names t
  among : IsAmong (number_of names t) gs

-- a name of a field
name_kept : (names : List Bytes) (t : Bytes) (fs : Fields) (gs : List (ℕ × PlainType)) → AreShown names fs → AreSame fs gs → is_field_name t fs ≡ true → FieldShown names t gs
name_kept names t [] gs k same h = absurd (false≢true h)
name_kept names t (f ∷ fs) [] k same h = absurd same
name_kept names t (f ∷ fs) (g ∷ gs) k same h = elim (or_cases (bytes_eq t f.1) (is_field_name t fs) h) [
  | inl e ↦
      let is : t ≡ f.1 = (bytes_eq-Decides t f.1).0 e in
      record { shown = subst (λ u. IsShown names u) (sym is) k.0; among = inl (ap (λ u. number_of names u) is ∙ (k.1 ∙ same.0)) }
  | inr e ↦ let r = name_kept names t fs gs k.2 same.1 e in record { shown = r.shown; among = inr r.among }
]

-- a name whose number is a field's is the field's
among_named : (names : List Bytes) (t : Bytes) (fs : Fields) (gs : List (ℕ × PlainType)) → AreShown names fs → AreSame fs gs → has names t ≡ true → IsAmong (number_of names t) gs → is_field_name t fs ≡ true
among_named names t fs [] k same h among = absurd among
among_named names t [] (g ∷ gs) k same h among = absurd same
among_named names t (f ∷ fs) (g ∷ gs) k same h (inl e) =
    or_left (bytes_eq t f.1) (is_field_name t fs) ((bytes_eq-Decides t f.1).1 (number_same names t f.1 h k.0.known (e ∙ (sym same.0 ∙ sym k.1))))
among_named names t (f ∷ fs) (g ∷ gs) k same h (inr among) = or_right (bytes_eq t f.1) (is_field_name t fs) (among_named names t fs gs k.2 same.1 h among)

some-same : {A : Type 0} (a b : A) → Some a ≡ Some b → a ≡ b
some-same a b e = cc

-- the name that a field is shown with has the field's number
pub number_kept : (names : List Bytes) (fs : Fields) → AreShown names fs → (i : ℕ) (t : Bytes) → field_name fs i ≡ Some t → number_of names t ≡ i
number_kept names [] k i t e = absurd cc
number_kept names (f ∷ fs) k i t e = by (number_kept names fs k.2 i t) (i == f.0) refl e
  where
    by : (field_name fs i ≡ Some t → number_of names t ≡ i) → (b : Bool) → (i == f.0) ≡ b → (if b then Some f.1 else field_name fs i) ≡ Some t → number_of names t ≡ i
    by rest true h e = ap (λ u. number_of names u) (sym (some-same f.1 t e)) ∙ (k.1 ∙ sym (eqb-true i f.0 h))
    by rest false h e = rest e

-- and is one of the names
pub name_there : (fs : Fields) (i : ℕ) (t : Bytes) → field_name fs i ≡ Some t → is_field_name t fs ≡ true
name_there [] i t e = absurd cc
name_there (f ∷ fs) i t e = by (name_there fs i t) (i == f.0) e
  where
    by : (field_name fs i ≡ Some t → is_field_name t fs ≡ true) → (b : Bool) → (if b then Some f.1 else field_name fs i) ≡ Some t → is_field_name t (f ∷ fs) ≡ true
    by rest true e = or_left (bytes_eq t f.1) (is_field_name t fs) ((bytes_eq-Decides t f.1).1 (sym (some-same f.1 t e)))
    by rest false e = or_right (bytes_eq t f.1) (is_field_name t fs) (rest e)

-- the name of a declared field
pub record IsDefined (names : List Bytes) (x : Bytes) (i : ℕ) : Type 0 where
  pub shown : IsShown names x
  pub number : number_of names x ≡ i

pub defined_kept : (names : List Bytes) (fs : Fields) (gs : List (ℕ × PlainType)) → AreShown names fs → AreSame fs gs → (i : ℕ) → IsAmong i gs → IsDefined names (defined_name fs i) i
defined_kept names fs [] k same i among = absurd among
defined_kept names [] (g ∷ gs) k same i among = absurd same
defined_kept names (f ∷ fs) (g ∷ gs) k same i among = by (λ j. defined_kept names fs gs k.2 same.1 i j) (i == f.0) refl
  where
    later : (i == f.0) ≡ false → (i ≡ g.0) ⊎ IsAmong i gs → IsAmong i gs
    later h (inl e) = absurd (false≢true (sym h ∙ eq-eqb i f.0 (e ∙ sym same.0)))
    later h (inr j) = j

    by : (IsAmong i gs → IsDefined names (defined_name fs i) i) → (b : Bool) → (i == f.0) ≡ b → IsDefined names (unwrap_or (if b then Some f.1 else field_name fs i) []) i
    by rest true h = record { shown = k.0; number = k.1 ∙ sym (eqb-true i f.0 h) }
    by rest false h = rest (later h among)

-- the names of a `letrec`
pub stand_members : (names : List Bytes) (binders : List Binder) (s : List Entry) (x : Scope) (v : ℕ → ℕ) (p b : plain.Tree) (fs : Fields) (gs : List (ℕ × PlainType)) → AreShown names fs → AreSame fs gs →
    ((t : Bytes) → is_field_name t fs ≡ true → uses (plainly names binders) t (unnamed ∷ s) b ≡ false) →
    ((j : ℕ) (t : Bytes) → uses (plainly names binders) t (alone (suc j) (entry_at s j)) b ≡ true → uses (plainly names binders) t (alone j (entry_at s j)) p ≡ true) →
    AllStand names binders s x v p → AllStand names binders (all fs ∷ s) (under_members (plain_decls gs) x) (lifted v) b
stand_members names binders s x v p b fs gs kept same none up good =
    stand_inside names binders s x (under_members (plain_decls gs) x) v p b (all fs) refl
    (λ t h u.
    let r = name_kept names t fs gs kept same h in
    (r.shown, members_there x.depth gs x (number_of names t) r.among, λ i e. number_kept names fs kept i t e, λ more here. members_here x.depth more gs x (number_of names t) here r.among))
    (λ t shown u.
    members_other x.depth gs x (number_of names t) (λ among. false≢true (sym (none t (among_named names t fs gs kept same shown.known among)) ∙ u)))
    up good

-- the parts of a sequence, which don't use its index
pub stand_behind : (names : List Bytes) (binders : List Binder) (s : List Entry) (x : Scope) (v : ℕ → ℕ) (p b : plain.Tree) (y : Bytes) →
    uses (plainly names binders) y (one y ∷ []) b ≡ false →
    ((j : ℕ) (t : Bytes) → uses (plainly names binders) t (alone (suc j) (entry_at s j)) b ≡ true → uses (plainly names binders) t (alone j (entry_at s j)) p ≡ true) →
    AllStand names binders s x v p → AllStand names binders (one y ∷ s) (behind x) (lifted v) b
stand_behind names binders s x v p b y none up good =
    stand_inside names binders s x (behind x) v p b (one y) refl
    (λ t h u.
    absurd (false≢true (sym none ∙ subst (λ z. uses (plainly names binders) z (one y ∷ []) b ≡ true) ((bytes_eq-Decides t y).0 h) u)))
    (λ t shown u. refl) up good
