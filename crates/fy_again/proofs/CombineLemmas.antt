-- A phrase of the forms that the grammar has, with full types, identifiers and bound names, is readable.
use Rattle.std.proofs.Common.{◌≡◌, ◌≢◌, ℕ, zero, suc, ◌+◌, ◌≤◌, ◌==◌, ◌||◌, not, Bool, true, false, if◌then◌else◌, Option, Some, None, is_some, slice_get, List, [], ◌∷◌, ◌++◌, length, codes, refl, sym, ap, subst, ◌∙◌, arith, inl, inr, ◌⊎◌}
use Rattle.std.specs.Str.{bytes_eq}
use Rattle.std.proofs.lemmas.Bool.{false≢true, and_parts, cases_Bool, eq-eqb, not-true}
use Rattle.std.proofs.lemmas.Slice.Eq.{bytes_eq-Decides}
use Rattle.fy_base.specs.Outside.{Bytes}
use Rattle.fy_base.specs.declared.data.Place.{Place}
use Rattle.fy_base.specs.declared.data.UnOp.TheVariants as unary_op
use Rattle.fy_types.specs.Fields.{AllFields, AllFieldsOf, HasFullMeets, HaveFullMeets, IsNamed}
use Rattle.fy_types.specs.Names.{AreNames, are_distinct, has, number_of}
use Rattle.fy_types.specs.Nested.{type_nodes}
use Rattle.fy_types.specs.Types.{PlainType, PlainTypes}
use Rattle.fy_syntax.specs.Printing.{IsIdentifierNumber}
use Rattle.fy_phrase.specs.CoreLimits.{size_of, parts_size, types_count}
use Rattle.fy_phrase.specs.WellMade.{IsOperand}
use Rattle.fy_phrase.specs.PhraseNames.{AllNames, AllNamesOf, HasFullTypes, HaveFullTypes}
use Rattle.fy_phrase.specs.Tree.{Tree, Trees, var, lit, unary, binary, cond, case, lam, app, field, sel, merge, let_in, rec, skip, seq, assign, while_do, forever, new, cells, escape, accept, put, read, mark, no_trees, and_tree}
use Rattle.fy_show.specs.declared.binders.Binder.{Binder}
use Rattle.fy_show.specs.Entries.{Fields, Entry, unnamed, one, all, entry_at, field_name, has_name}
use Rattle.fy_show.specs.Fresh.{fields_shown, field_used_as, uses, any_uses, fields_of, fields_of_all, fields_behind, most_names, bound}
use Rattle.fy_show.specs.Names.{names_in}
use Rattle.fy_show.specs.Texts.{item_count, is_sequence, is_empty_string}
use Rattle.fy_again.specs.Phrases.{AreSmall, plainly, AreDeclared, AreAlternatives, IsAmong, IsOne, IsSelected, Chosen, IsReadable, IsCall, AreReadable, AreDefinitions}
use Rattle.fy_again.specs.Programs.{AreBound, IsCallBound, AreAllBound, AreDefinitionsBound}
use Rattle.fy_again.proofs.CallLemmas.{indexed_is}
use Rattle.fy_again.proofs.FewLemmas.{AllFew, few_under, names_few, fields_few, record_few, one_counted, two_counted}
use Rattle.fy_again.proofs.RecordLemmas.{AreSame, all-same}
use Rattle.fy_again.proofs.ShapeLemmas.{AreSmallFields, Kind, variable, record_of, index, kind_at, kind_later, IsVariable, fields_at, Selects, IsFormed, IsFormedCall, AreFormed, AreFormedDefs}
use Rattle.fy_again.proofs.StandingLemmas.{alone, entry_later, or_left}

-- ---- numbers of names

number_there : (names : List Bytes) (i : ℕ) (name : Bytes) → are_distinct names ≡ true → slice_get names i ≡ Some name → (has names name ≡ true) × (number_of names name ≡ i)
number_there [] i name d h = absurd cc
number_there (x ∷ names) zero name d h =
    let same : x ≡ name = cc in
    let here : bytes_eq name x ≡ true = (bytes_eq-Decides name x).1 (sym same) in
    (or_left (bytes_eq name x) (has names name) here, ap (λ b. if b then 0 else number_of names name + 1) here)
number_there (x ∷ names) (suc i) name d h =
    let two = and_parts (not (has names x)) (are_distinct names) d in
    let r = number_there names i name two.1 h in
    let other : bytes_eq name x ≡ false =
    elim (cases_Bool (bytes_eq name x)) [
      | inl e ↦ absurd (false≢true (sym (not-true (has names x) two.0) ∙ (ap (λ y. has names y) (sym ((bytes_eq-Decides name x).0 e)) ∙ r.0)))
      | inr e ↦ e
    ] in
    let next : number_of names name + 1 ≡ suc i = let e = r.1 in omega (arith, e) in (
      ap (λ b. b || has names name) other ∙ r.0,
      ap (λ b. if b then 0 else number_of names name + 1) other ∙ next,
    )

identifier_number : (names : List Bytes) → AreNames names → (i : ℕ) → IsNamed names i → IsIdentifierNumber names i
identifier_number names are i h =
    let r = number_there names i h.name are.distinct h.numbered in record { text = h.name; identifier = h.identifier; known = r.0; number = sym r.1 }

mutual
  fields_map : (P Q : ℕ → Type 0) → ((i : ℕ) → P i → Q i) → (A : PlainType) → AllFields P A → AllFields Q A
  fields_map P Q f PlainType.ns h = tt
  fields_map P Q f (PlainType.atom a) h = tt
  fields_map P Q f (PlainType.arrow A B) h = (fields_map P Q f A h.0, fields_map P Q f B h.1)
  fields_map P Q f (PlainType.field i A) h = (f i h.0, fields_map P Q f A h.1)
  fields_map P Q f (PlainType.meet As) h = fields_map_all P Q f As h

  fields_map_all : (P Q : ℕ → Type 0) → ((i : ℕ) → P i → Q i) → (As : PlainTypes) → AllFieldsOf P As → AllFieldsOf Q As
  fields_map_all P Q f PlainTypes.no_types h = tt
  fields_map_all P Q f (PlainTypes.and_type A As) h = (fields_map P Q f A h.0, fields_map_all P Q f As h.1)

declared_all : (names : List Bytes) → AreNames names → (As : PlainTypes) → HaveFullMeets As → AllFieldsOf (IsNamed names) As → AreSmallFields (fields_of_all As) → AreDeclared names (fields_of_all As)
declared_all names are PlainTypes.no_types f k small = tt
declared_all names are (PlainTypes.and_type (PlainType.field i A) As) f k small =
    ((f.0, fields_map (IsNamed names) (IsIdentifierNumber names) (identifier_number names are) A k.0.1, small.0), declared_all names are As f.1 k.1 small.1)
declared_all names are (PlainTypes.and_type A As) f k small = declared_all names are As f.1 k.1 small

declared_types : (names : List Bytes) → AreNames names → (T : PlainType) → HasFullMeets T → AllFields (IsNamed names) T → AreSmallFields (fields_of T) → AreDeclared names (fields_of T)
declared_types names are (PlainType.field i A) f k small = ((f, fields_map (IsNamed names) (IsIdentifierNumber names) (identifier_number names are) A k.1, small.0), tt)
declared_types names are (PlainType.meet As) f k small = declared_all names are As f.1 k small
declared_types names are T f k small = tt

-- ---- the items of a sequence are at most its nodes

some_size : (p : Tree) → 1 ≤ size_of p
some_size (seq p q at) = omega arith
some_size p = omega arith

items_size : (p : Tree) → item_count p ≤ size_of p
items_size (seq p q at) = let e = items_size p in let f = items_size q in omega (arith, e, f)
items_size p = some_size p

-- ---- an index that no phrase uses

alone_other : (j n : ℕ) (e : Entry) → (n ≡ j) ⊎ (entry_at (alone j e) n ≡ unnamed)
alone_other zero zero e = inl refl
alone_other zero (suc n) e = inr (entry_later e [] n)
alone_other (suc j) zero e = inr refl
alone_other (suc j) (suc n) e = elim (alone_other j n e) [ inl i ↦ inl (ap suc i) | inr i ↦ inr (entry_later unnamed (alone j e) n ∙ i) ]

no_index : (ks : List Kind) (n j : ℕ) → n ≡ j → kind_at ks j ≡ Some index → IsVariable (kind_at ks n) → ⊥
no_index ks n j e i h = subst (λ o. IsVariable o) (ap (λ m. kind_at ks m) e ∙ i) h

no_index_record : (ks : List Kind) (n j : ℕ) (i : ℕ) → n ≡ j → kind_at ks j ≡ Some index → Selects i (fields_at (kind_at ks n)) (IsVariable (kind_at ks n)) → ⊥
no_index_record ks n j i e k h = subst (λ o. Selects i (fields_at o) (IsVariable o)) (ap (λ m. kind_at ks m) e ∙ k) h

or_none : (a b : Bool) → a ≡ false → b ≡ false → (a || b) ≡ false
or_none a b e f = ap (λ c. c || b) e ∙ f

empty_unused : (names : List Bytes) (binders : List Binder) (t : Bytes) (s : List Entry) (parts : Trees) → is_empty_string parts ≡ true → any_uses (plainly names binders) t s parts ≡ false
empty_unused names binders t s no_trees h = absurd (false≢true h)
empty_unused names binders t s (and_tree p (and_tree q more)) h = absurd (false≢true h)
empty_unused names binders t s (and_tree (unary unary_op.Chr (lit v at) here) no_trees) h = refl
empty_unused names binders t s (and_tree (unary unary_op.Chr p here) no_trees) h = absurd (false≢true h)
empty_unused names binders t s (and_tree p no_trees) h = absurd (false≢true h)

merge_unused : (ks : List Kind) (p q : Tree) (r : Bool) (b : Bool) → is_sequence p q ≡ b → (is_sequence p q ≡ true → IsFormedCall ks p → r ≡ false) → (IsFormed ks p × IsFormed ks q × IsOperand q → r ≡ false) →
    Chosen b (IsFormedCall ks p) (IsFormed ks p × IsFormed ks q × IsOperand q) → r ≡ false
merge_unused ks p q r true e call both h = call e h
merge_unused ks p q r false e call both h = both h

mutual
  unused : (names : List Bytes) (binders : List Binder) (t y : Bytes) (ks : List Kind) (j : ℕ) → kind_at ks j ≡ Some index → (p : Tree) → IsFormed ks p → uses (plainly names binders) t (alone j (one y)) p ≡ false
  unused names binders t y ks j i (var n at) h = elim (alone_other j n (one y)) [ inl e ↦ absurd (no_index ks n j e i h) | inr e ↦ ap (λ w. has_name t w) e ]
  unused names binders t y ks j i (lit v at) h = refl
  unused names binders t y ks j i (unary op p at) h = unused names binders t y ks j i p h
  unused names binders t y ks j i (binary op p q at) h = or_none _ _ (unused names binders t y ks j i p h.0) (unused names binders t y ks j i q h.1)
  unused names binders t y ks j i (cond b p q at) h =
      or_none _ _ (unused names binders t y ks j i b h.0) (or_none _ _ (unused names binders t y ks j i p h.1) (unused names binders t y ks j i q h.2))
  unused names binders t y ks j i (case e parts at) h = absurd h
  unused names binders t y ks j i (lam d As b at) h = unused names binders t y (variable ∷ ks) (suc j) (kind_later variable ks j ∙ i) b h.3
  unused names binders t y ks j i (app p q at) h = or_none _ _ (unused names binders t y ks j i p h.0) (unused names binders t y ks j i q h.1)
  unused names binders t y ks j i (field f p at) h = unused names binders t y ks j i p h
  unused names binders t y ks j i (sel (var n here) f at) h =
      elim (alone_other j n (one y)) [ inl e ↦ absurd (no_index_record ks n j f e i h) | inr e ↦ ap (λ w. field_used_as t f (fields_shown (Some w)) (has_name t w)) e ]
  unused names binders t y ks j i (sel p f at) h = unused names binders t y ks j i p h
  unused names binders t y ks j i (merge p q at) h =
      merge_unused ks p q (uses (plainly names binders) t (alone j (one y)) p || uses (plainly names binders) t (alone j (one y)) q) (is_sequence p q) refl
      (λ e c. unused_called names binders t y ks j i p q e c) (λ c. or_none _ _ (unused names binders t y ks j i p c.0) (unused names binders t y ks j i q c.1)) h
  unused names binders t y ks j i (let_in d (rec c T p here) b at) h =
      or_none (uses (plainly names binders) t (alone (suc j) (one y)) p) _ (unused_defs names binders t y (record_of (fields_of T) ∷ ks) (suc j) (kind_later (record_of (fields_of T)) ks j ∙ i) (fields_of T) p h.5)
      (unused names binders t y (record_of (fields_of T) ∷ ks) (suc j) (kind_later (record_of (fields_of T)) ks j ∙ i) b h.6)
  unused names binders t y ks j i (let_in d p b at) h =
      or_none (uses (plainly names binders) t (alone j (one y)) p) (uses (plainly names binders) t (alone (suc j) (one y)) b) (unused names binders t y ks j i p h.0)
      (unused names binders t y (variable ∷ ks) (suc j) (kind_later variable ks j ∙ i) b h.1)
  unused names binders t y ks j i (rec d T b at) h = absurd h
  unused names binders t y ks j i (skip at) h = refl
  unused names binders t y ks j i (seq p q at) h = or_none _ _ (unused names binders t y ks j i p h.0) (unused names binders t y ks j i q h.1)
  unused names binders t y ks j i (assign p q at) h = or_none _ _ (unused names binders t y ks j i p h.0) (unused names binders t y ks j i q h.1)
  unused names binders t y ks j i (while_do b c at) h = or_none _ _ (unused names binders t y ks j i b h.0) (unused names binders t y ks j i c h.1)
  unused names binders t y ks j i (forever c at) h = unused names binders t y ks j i c h
  unused names binders t y ks j i (new d D e b at) h = or_none _ _ (unused names binders t y ks j i e h.0) (unused names binders t y (variable ∷ ks) (suc j) (kind_later variable ks j ∙ i) b h.1)
  unused names binders t y ks j i (cells d e b at) h = absurd h
  unused names binders t y ks j i (escape d b at) h = unused names binders t y (variable ∷ ks) (suc j) (kind_later variable ks j ∙ i) b h
  unused names binders t y ks j i (accept d D b at) h = unused names binders t y (variable ∷ ks) (suc j) (kind_later variable ks j ∙ i) b h
  unused names binders t y ks j i (put kind p at) h = absurd h
  unused names binders t y ks j i (read p at) h = absurd h
  unused names binders t y ks j i (mark m at) h = absurd h

  unused_called : (names : List Bytes) (binders : List Binder) (t y : Bytes) (ks : List Kind) (j : ℕ) → kind_at ks j ≡ Some index → (p q : Tree) → is_sequence p q ≡ true → IsFormedCall ks p →
      (uses (plainly names binders) t (alone j (one y)) p || uses (plainly names binders) t (alone j (one y)) q) ≡ false
  unused_called names binders t y ks j i (lam d As (case c parts a) here) q e h =
      let k = plainly names binders in
      let x = indexed_is d As c parts a here q e in
      let first : uses k t (alone (suc j) (one y)) c ≡ false = ap (λ (r : Tree). uses k t (alone (suc j) (one y)) r) x.index in
      let last : uses k t (alone j (one y)) q ≡ false = ap (λ (r : Tree). uses k t (alone j (one y)) r) x.length in
      let inside : any_uses k t (alone (suc j) (one y)) parts ≡ false =
      elim h [
        | inl empty ↦ empty_unused names binders t (alone (suc j) (one y)) parts empty
        | inr g ↦ all_unused names binders t y (index ∷ ks) (suc j) (kind_later index ks j ∙ i) parts g.1
      ] in
      or_none _ _ (or_none _ _ first inside) last
  unused_called names binders t y ks j i p q e h = absurd h

  all_unused : (names : List Bytes) (binders : List Binder) (t y : Bytes) (ks : List Kind) (j : ℕ) → kind_at ks j ≡ Some index → (parts : Trees) → AreFormed ks parts →
      any_uses (plainly names binders) t (alone j (one y)) parts ≡ false
  all_unused names binders t y ks j i no_trees h = refl
  all_unused names binders t y ks j i (and_tree p more) h = or_none _ _ (unused names binders t y ks j i p h.0) (all_unused names binders t y ks j i more h.1)

  unused_defs : (names : List Bytes) (binders : List Binder) (t y : Bytes) (ks : List Kind) (j : ℕ) → kind_at ks j ≡ Some index → (gs : List (ℕ × PlainType)) (p : Tree) → AreFormedDefs ks gs p →
      uses (plainly names binders) t (alone j (one y)) p ≡ false
  unused_defs names binders t y ks j i gs (merge p (field f q at) here) h = or_none _ _ (unused_defs names binders t y ks j i gs p h.0) (unused names binders t y ks j i q h.2)
  unused_defs names binders t y ks j i gs (field f q at) h = unused names binders t y ks j i q h.1
  unused_defs names binders t y ks j i gs p h = absurd h

-- ---- variables by their kinds

abbrev IsKind : Kind → Entry → Type 0
IsKind variable (one y) = Unit {0}
IsKind (record_of gs) (all fs) = AreSame fs gs
IsKind index e = Unit {0}
IsKind x e = ⊥

abbrev pub HaveKinds : List Kind → List Entry → Type 0
HaveKinds [] e = Unit {0}
HaveKinds (x ∷ ks) [] = ⊥
HaveKinds (x ∷ ks) (y ∷ e) = IsKind x y × HaveKinds ks e

some-kind : (x y : Kind) → Some x ≡ Some y → x ≡ y
some-kind x y e = cc

kind_match : (ks : List Kind) (e : List Entry) (n : ℕ) (x : Kind) → HaveKinds ks e → kind_at ks n ≡ Some x → IsKind x (entry_at e n)
kind_match [] e n x h i = absurd cc
kind_match (y ∷ ks) [] n x h i = absurd h
kind_match (y ∷ ks) (z ∷ e) zero x h i = subst (λ w. IsKind w z) (some-kind y x i) h.0
kind_match (y ∷ ks) (z ∷ e) (suc n) x h i = subst (λ w. IsKind x w) (sym (entry_later z e n)) (kind_match ks e n x h.1 (sym (kind_later y ks n) ∙ i))

one_is : (e : Entry) → IsKind variable e → IsOne e
one_is unnamed h = absurd h
one_is (one y) h = tt
one_is (all fs) h = absurd h

variable_one : (ks : List Kind) (e : List Entry) (n : ℕ) → HaveKinds ks e → (o : Option Kind) → kind_at ks n ≡ o → IsVariable o → IsOne (entry_at e n)
variable_one ks e n h None i v = absurd v
variable_one ks e n h (Some variable) i v = one_is (entry_at e n) (kind_match ks e n variable h i)
variable_one ks e n h (Some (record_of gs)) i v = absurd v
variable_one ks e n h (Some index) i v = absurd v

among_some : (fs : Fields) (gs : List (ℕ × PlainType)) (i : ℕ) → AreSame fs gs → IsAmong i gs → is_some (field_name fs i) ≡ true
among_some [] [] i same h = absurd h
among_some [] (g ∷ gs) i same h = absurd same
among_some (f ∷ fs) [] i same h = absurd same
among_some (f ∷ fs) (g ∷ gs) i same (inl e) =
    let here : (i == f.0) ≡ true = eq-eqb i f.0 (e ∙ sym same.0) in ap (λ b. is_some (if b then Some f.1 else field_name fs i)) here
among_some (f ∷ fs) (g ∷ gs) i same (inr h) = by (i == f.0) (among_some fs gs i same.1 h)
  where
    by : (b : Bool) → is_some (field_name fs i) ≡ true → is_some (if b then Some f.1 else field_name fs i) ≡ true
    by true k = refl
    by false k = k

-- the selection from a variable
record_selected : (names : List Bytes) (i : ℕ) (gs : List (ℕ × PlainType)) (e : Entry) (P : Type 0) → IsKind (record_of gs) e → IsAmong i gs → IsSelected names i (fields_shown (Some e)) P
record_selected names i gs unnamed P h k = absurd h
record_selected names i gs (one y) P h k = absurd h
record_selected names i gs (all fs) P h k = among_some fs gs i h k

one_selected : (names : List Bytes) (i : ℕ) (e : Entry) → IsKind variable e → IsIdentifierNumber names i → IsSelected names i (fields_shown (Some e)) (IsOne e)
one_selected names i unnamed h k = absurd h
one_selected names i (one y) h k = (k, tt)
one_selected names i (all fs) h k = absurd h

selected_variable : (names : List Bytes) (ks : List Kind) (e : List Entry) (n i : ℕ) → HaveKinds ks e → IsIdentifierNumber names i → (o : Option Kind) → kind_at ks n ≡ o →
    Selects i (fields_at o) (IsVariable o) → IsSelected names i (fields_shown (Some (entry_at e n))) (IsOne (entry_at e n))
selected_variable names ks e n i h k None same v = absurd v
selected_variable names ks e n i h k (Some variable) same v = one_selected names i (entry_at e n) (kind_match ks e n variable h same) k
selected_variable names ks e n i h k (Some (record_of gs)) same v = record_selected names i gs (entry_at e n) (IsOne (entry_at e n)) (kind_match ks e n (record_of gs) h same) v
selected_variable names ks e n i h k (Some index) same v = absurd v

-- ---- form by form

chosen_both : (b : Bool) {A B C D E F : Type 0} → (A → C → E) → (B → D → F) → Chosen b A B → Chosen b C D → Chosen b E F
chosen_both true f g h k = f h k
chosen_both false f g h k = g h k

alternatives_are : (names : List Bytes) → AreNames names → (As : PlainTypes) → As ≢ PlainTypes.no_types → HaveFullMeets As → AllFieldsOf (IsNamed names) As → AreSmall As → types_count As ≤ 16 → AreAlternatives names As
alternatives_are names are As some f k small count = (some, f, fields_map_all (IsNamed names) (IsIdentifierNumber names) (identifier_number names are) As k, small, count)

-- fewer names than are tried are used under a binder
counted_one : (names : List Bytes) (binders : List Binder) (e : List Entry) → AllFew e → (p : Tree) → size_of p ≤ 65536 → length (names_in (plainly names binders) (unnamed ∷ e) p ++ []) + 0 ≤ most_names
counted_one names binders e few p z =
    one_counted (names_in (plainly names binders) (unnamed ∷ e) p) (size_of p) (names_few names binders (unnamed ∷ e) (few_under e unnamed (omega arith) few) p) z

counted_two : (names : List Bytes) (binders : List Binder) (e : List Entry) → AllFew e → (T : PlainType) (p q : Tree) → suc (suc (type_nodes T + size_of p) + size_of q) ≤ 65536 →
    length (names_in (plainly names binders) (unnamed ∷ e) p ++ (names_in (plainly names binders) (unnamed ∷ e) q ++ [])) + length (fields_of T) ≤ most_names
counted_two names binders e few T p q z =
    let fewer = few_under e unnamed (omega arith) few in
    two_counted (names_in (plainly names binders) (unnamed ∷ e) p) (names_in (plainly names binders) (unnamed ∷ e) q) (size_of p) (size_of q) (length (fields_of T)) (type_nodes T)
    (names_few names binders (unnamed ∷ e) fewer p) (names_few names binders (unnamed ∷ e) fewer q) (fields_few T) z

let_first : (d : ℕ) (p q : Tree) (at : Place) → size_of (let_in d p q at) ≤ 65536 → size_of p ≤ 65536
let_first d p q at z = omega (arith, z)

let_second : (d : ℕ) (p q : Tree) (at : Place) → size_of (let_in d p q at) ≤ 65536 → size_of q ≤ 65536
let_second d p q at z = omega (arith, z)

mutual
  pub combined : (names : List Bytes) (binders : List Binder) → AreNames names → (ks : List Kind) (e : List Entry) → HaveKinds ks e → AllFew e → (p : Tree) → IsFormed ks p → HasFullTypes p → AllNames (IsNamed names) p →
      size_of p ≤ 65536 → AreBound (plainly names binders) e p → IsReadable (plainly names binders) e p
  combined names binders are ks e m few (var n at) h f a z b = variable_one ks e n m (kind_at ks n) refl h
  combined names binders are ks e m few (lit v at) h f a z b = h
  combined names binders are ks e m few (unary op p at) h f a z b = combined names binders are ks e m few p h f a (omega (arith, z)) b
  combined names binders are ks e m few (binary op p q at) h f a z b =
      (combined names binders are ks e m few p h.0 f.0 a.0 (omega (arith, z)) b.0, combined names binders are ks e m few q h.1 f.1 a.1 (omega (arith, z)) b.1)
  combined names binders are ks e m few (cond c p q at) h f a z b = (
    combined names binders are ks e m few c h.0 f.0 a.0 (omega (arith, z)) b.0,
    combined names binders are ks e m few p h.1 f.1 a.1 (omega (arith, z)) b.1,
    combined names binders are ks e m few q h.2 f.2 a.2 (omega (arith, z)) b.2,
  )
  combined names binders are ks e m few (case c parts at) h f a z b = absurd h
  combined names binders are ks e m few (lam d As p at) h f a z b =
      let x = bound (plainly names binders) e (lam d As p at) in (
        (b.0, counted_one names binders e few p (omega (arith, z))),
        alternatives_are names are As h.0 f.0 a.0 h.1 h.2,
        combined names binders are (variable ∷ ks) (x ∷ e) (tt, m) (few_under e x (omega arith) few) p h.3 f.1 a.1 (omega (arith, z)) b.1,
      )
  combined names binders are ks e m few (app p q at) h f a z b =
      (combined names binders are ks e m few p h.0 f.0 a.0 (omega (arith, z)) b.0, combined names binders are ks e m few q h.1 f.1 a.1 (omega (arith, z)) b.1)
  combined names binders are ks e m few (field i p at) h f a z b = (identifier_number names are i a.0, combined names binders are ks e m few p h f a.1 (omega (arith, z)) b)
  combined names binders are ks e m few (sel (var n here) i at) h f a z b = selected_variable names ks e n i m (identifier_number names are i a.0) (kind_at ks n) refl h
  combined names binders are ks e m few (sel p i at) h f a z b = (identifier_number names are i a.0, combined names binders are ks e m few p h f a.1 (omega (arith, z)) b)
  combined names binders are ks e m few (merge p q at) h f a z b =
      chosen_both (is_sequence p q) (λ c d. combined_call names binders are ks e m few p c f.0 a.0 (omega (arith, z)) d)
      (λ c d. (combined names binders are ks e m few p c.0 f.0 a.0 (omega (arith, z)) d.0, combined names binders are ks e m few q c.1 f.1 a.1 (omega (arith, z)) d.1, c.2)) h b
  combined names binders are ks e m few (let_in d (rec c T p here) q at) h f a z b =
      let k = plainly names binders in
      let w = let_in d (rec c T p here) q at in
      let gs = fields_of T in
      let same = all-same k e (p ∷ q ∷ []) gs in
      let inside : HaveKinds (record_of gs ∷ ks) (bound k e w ∷ e) = (same, m) in
      let fewer = few_under e (bound k e w) (record_few T (fields_behind k e (p ∷ q ∷ []) [] gs) same (omega (arith, z))) few in (
        (b.0, counted_two names binders e few T p q (omega (arith, z))),
        (h.0, h.1, declared_types names are T f.0.0 a.0.0 h.3, h.2),
        h.4,
        combined_defs names binders are (record_of gs ∷ ks) (bound k e w ∷ e) inside fewer gs p h.5 f.0.1 a.0.1 (omega (arith, z)) b.1,
        combined names binders are (record_of gs ∷ ks) (bound k e w ∷ e) inside fewer q h.6 f.1 a.1 (omega (arith, z)) b.2,
      )
  combined names binders are ks e m few (let_in d p q at) h f a z b =
      let x = bound (plainly names binders) e (let_in d p q at) in (
        (b.0, counted_one names binders e few q (let_second d p q at z)),
        combined names binders are ks e m few p h.0 f.0 a.0 (let_first d p q at z) b.1,
        combined names binders are (variable ∷ ks) (x ∷ e) (tt, m) (few_under e x (omega arith) few) q h.1 f.1 a.1 (let_second d p q at z) b.2,
      )
  combined names binders are ks e m few (rec d T p at) h f a z b = absurd h
  combined names binders are ks e m few (skip at) h f a z b = tt
  combined names binders are ks e m few (seq p q at) h f a z b =
      let count = items_size (seq p q at) in (
        omega (arith, z, count),
        combined names binders are ks e m few p h.0 f.0 a.0 (omega (arith, z)) b.0,
        combined names binders are ks e m few q h.1 f.1 a.1 (omega (arith, z)) b.1,
      )
  combined names binders are ks e m few (assign p q at) h f a z b =
      (combined names binders are ks e m few p h.0 f.0 a.0 (omega (arith, z)) b.0, combined names binders are ks e m few q h.1 f.1 a.1 (omega (arith, z)) b.1)
  combined names binders are ks e m few (while_do p q at) h f a z b =
      (combined names binders are ks e m few p h.0 f.0 a.0 (omega (arith, z)) b.0, combined names binders are ks e m few q h.1 f.1 a.1 (omega (arith, z)) b.1)
  combined names binders are ks e m few (forever p at) h f a z b = combined names binders are ks e m few p h f a (omega (arith, z)) b
  combined names binders are ks e m few (new d D p q at) h f a z b =
      let x = bound (plainly names binders) e (new d D p q at) in (
        (b.0, counted_one names binders e few q (omega (arith, z))),
        combined names binders are ks e m few p h.0 f.0 a.0 (omega (arith, z)) b.1,
        combined names binders are (variable ∷ ks) (x ∷ e) (tt, m) (few_under e x (omega arith) few) q h.1 f.1 a.1 (omega (arith, z)) b.2,
      )
  combined names binders are ks e m few (cells d p q at) h f a z b = absurd h
  combined names binders are ks e m few (escape d p at) h f a z b =
      let x = bound (plainly names binders) e (escape d p at) in
      ((b.0, counted_one names binders e few p (omega (arith, z))), combined names binders are (variable ∷ ks) (x ∷ e) (tt, m) (few_under e x (omega arith) few) p h f a (omega (arith, z)) b.1)
  combined names binders are ks e m few (accept d D p at) h f a z b =
      let x = bound (plainly names binders) e (accept d D p at) in
      ((b.0, counted_one names binders e few p (omega (arith, z))), combined names binders are (variable ∷ ks) (x ∷ e) (tt, m) (few_under e x (omega arith) few) p h f a (omega (arith, z)) b.1)
  combined names binders are ks e m few (put kind p at) h f a z b = absurd h
  combined names binders are ks e m few (read p at) h f a z b = absurd h
  combined names binders are ks e m few (mark k at) h f a z b = absurd h

  combined_call : (names : List Bytes) (binders : List Binder) → AreNames names → (ks : List Kind) (e : List Entry) → HaveKinds ks e → AllFew e → (p : Tree) → IsFormedCall ks p → HasFullTypes p → AllNames (IsNamed names) p →
      size_of p ≤ 65536 → IsCallBound (plainly names binders) e p → IsCall (plainly names binders) e p
  combined_call names binders are ks e m few (lam d As (case c parts at) here) (inl empty) f a z b = inl empty
  combined_call names binders are ks e m few (lam d As (case c parts at) here) (inr h) f a z b =
      inr (
        h.0,
        all_unused names binders (codes "n") (codes "n") (index ∷ ks) 0 refl parts h.1,
        combined_all names binders are (index ∷ ks) (one (codes "n") ∷ e) (tt, m) (few_under e (one (codes "n")) (omega arith) few) parts h.1 f.1.1 a.1.1 (omega (arith, z)) b,
      )
  combined_call names binders are ks e m few p h f a z b = absurd h

  combined_all : (names : List Bytes) (binders : List Binder) → AreNames names → (ks : List Kind) (e : List Entry) → HaveKinds ks e → AllFew e → (parts : Trees) → AreFormed ks parts → HaveFullTypes parts →
      AllNamesOf (IsNamed names) parts → parts_size parts ≤ 65536 → AreAllBound (plainly names binders) e parts → AreReadable (plainly names binders) e parts
  combined_all names binders are ks e m few no_trees h f a z b = tt
  combined_all names binders are ks e m few (and_tree p more) h f a z b =
      (combined names binders are ks e m few p h.0 f.0 a.0 (omega (arith, z)) b.0, combined_all names binders are ks e m few more h.1 f.1 a.1 (omega (arith, z)) b.1)

  combined_defs : (names : List Bytes) (binders : List Binder) → AreNames names → (ks : List Kind) (e : List Entry) → HaveKinds ks e → AllFew e → (gs : List (ℕ × PlainType)) (p : Tree) → AreFormedDefs ks gs p → HasFullTypes p →
      AllNames (IsNamed names) p → size_of p ≤ 65536 → AreDefinitionsBound (plainly names binders) e p → AreDefinitions (plainly names binders) e gs p
  combined_defs names binders are ks e m few gs (merge p (field i q at) here) h f a z b = (
    combined_defs names binders are ks e m few gs p h.0 f.0 a.0 (omega (arith, z)) b.0,
    h.1,
    combined names binders are ks e m few q h.2 f.1 a.1.1 (omega (arith, z)) b.1,
  )
  combined_defs names binders are ks e m few gs (field i q at) h f a z b = (h.0, combined names binders are ks e m few q h.1 f a.1 (omega (arith, z)) b)
  combined_defs names binders are ks e m few gs p h f a z b = absurd h
