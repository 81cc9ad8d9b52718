-- Parts of phrases as they are shown: variables, fields of records, operators, merges, sequences, types.
use Rattle.std.proofs.Common.{◌≡◌, ◌≢◌, ℕ, ◌+◌, ◌-◌, ◌^◌, ◌≤◌, ◌==◌, ◌&&◌, Bool, true, false, if◌then◌else◌, IsTrue, pos, negsuc, Option, Some, None, is_some, List, [], ◌++◌, codes, refl, sym, ap, subst, ◌∙◌, arith, append_assoc, append-nil, inl, inr}
use Rattle.std.specs.Str.{bytes_eq}
use Rattle.std.proofs.lemmas.Bool.{false≢true, and_parts, eq-eqb, eqb-true, le-ltb}
use Rattle.std.proofs.lemmas.Int.{ints}
use Rattle.std.proofs.lemmas.Slice.Eq.{bytes_eq-Decides}
use Rattle.fy_base.specs.Outside.{Bytes}
use Rattle.fy_base.specs.declared.data.BinOp.{BinOp}
use Rattle.fy_base.specs.declared.data.BinOp.TheVariants as op
use Rattle.fy_base.specs.declared.data.Datum.{Datum}
use Rattle.fy_base.specs.declared.data.Datum.TheVariants as datum
use Rattle.fy_base.specs.declared.data.Place.{Place}
use Rattle.fy_types.specs.Fields.{AllFieldsOf, HaveFullMeets}
use Rattle.fy_types.specs.Names.{AreNames, number_of}
use Rattle.fy_types.specs.Print.{name_text}
use Rattle.fy_types.specs.Types.{PlainTypes}
use Rattle.fy_lexer.specs.declared.token.Symbol.TheVariants as symbol
use Rattle.fy_syntax.specs.Print.{operator_text}
use Rattle.fy_syntax.specs.Printing.{IsIdentifierNumber}
use Rattle.fy_syntax.specs.Signs.{Level}
use Rattle.fy_phrase.specs.Tree as plain
use Rattle.fy_phrase.specs.Alike.{Alike}
use Rattle.fy_phrase.specs.WellMade.{IsOperand}
use Rattle.fy_expand.specs.Core.{used}
use Rattle.fy_expand.specs.Scope.{Scope}
use Rattle.fy_short.specs.DataTexts.{datum_level, datum_text, operator_level, left_level}
use Rattle.fy_short.specs.ShortTypes.{short_type, alternatives_text}
use Rattle.fy_show.specs.declared.binders.Binder.{Binder}
use Rattle.fy_show.specs.declared.manner.Manner.TheVariants.{Whole}
use Rattle.fy_show.specs.Entries.{Fields, Entry, unnamed, one, all, Known, entry_at, field_name, has_name}
use Rattle.fy_show.specs.Fresh.{fields_shown, record_at, field_used_as, is_some_name, uses}
use Rattle.fy_show.specs.Texts.{Shown, enclosed, part, item_count, are_halves, is_halved, item, entry_shown, named_field, selected, is_sequence, form, called}
use Rattle.fy_again.specs.Again.{IsLiteral}
use Rattle.fy_again.specs.Phrases.{AreSmall, plainly, IsOne, IsSelected, Chosen, IsReadable, IsCall}
use Rattle.fy_again.proofs.BinderLemmas.{ShowsAlternatives, shows_alternative, shows_alternatives}
use Rattle.fy_again.proofs.FormLemmas.{shows_lit, shows_name, shows_sel}
use Rattle.fy_again.proofs.LevelLemmas.{level_at, ShownPhrase, part_shown}
use Rattle.fy_again.proofs.OperatorLemmas.{Joins, shows_binary, joins_sum, joins_product, joins_both, joins_either, joins_relation}
use Rattle.fy_again.proofs.PhraseLemmas.{ShowsPhrase}
use Rattle.fy_again.proofs.RecordLemmas.{name_there}
use Rattle.fy_again.proofs.SequenceLemmas.{ShowsMany, shows_one, shows_both, shows_sequence, semicolon, joins_two, joins_leaves, leaves}
use Rattle.fy_again.proofs.ShortLemmas.{shows_short}
use Rattle.fy_again.proofs.StandingLemmas.{alone, entry_alone, Below, below_alone, Stands, AllStand}

-- a form at a level other than that of sequences
pub at_level : (names : List Bytes) (s : Scope) (v : ℕ → ℕ) (p : plain.Tree) (q : Shown) → (q.0 ≡ 2 → ⊥) → ShowsPhrase names s v (level_at q.0) p (q.1 Whole) → ShownPhrase names s v p q
at_level names s v p q far h = record { whole = h; items = λ e i. absurd (far e) }

pub other_level : (n : ℕ) → (n == 2) ≡ false → n ≡ 2 → ⊥
other_level n h e = false≢true (sym h ∙ eq-eqb n 2 e)

-- ---- literals

literal_level : (d : Datum) → IsLiteral d → datum_level d ≡ 12
literal_level (datum.Int (pos n)) h = ap (λ b. if b then 9 else 12) (le-ltb n 0 (omega arith))
literal_level (datum.Int (negsuc n)) h = absurd (omega (arith, ints, h))
literal_level (datum.Bool b) h = refl
literal_level (datum.Char c) h = refl

pub literal_shown : (names : List Bytes) (s : Scope) (v : ℕ → ℕ) (d : Datum) (at : Place) → IsLiteral d → ShownPhrase names s v (plain.Tree.lit d at) (datum_level d, λ m. datum_text d)
literal_shown names s v d at h =
    let level = literal_level d h in
    at_level names s v (plain.Tree.lit d at) (datum_level d, λ m. datum_text d) (λ e. other_level 12 refl (sym level ∙ e))
    (subst (λ l. ShowsPhrase names s v (level_at l) (plain.Tree.lit d at) (datum_text d)) (sym level) (shows_lit names s v d at h))

-- ---- variables

stood : (q depth : ℕ) (of : ℕ → plain.Tree) (to : ℕ → plain.Tree) → ((more : ℕ) → of (more + depth) ≡ to (more + q)) → of depth ≡ to q
stood q depth of to h =
    let a : 0 + depth ≡ depth = omega arith in
    let b : 0 + q ≡ q = omega arith in
    ap of (sym a) ∙ (h 0 ∙ ap to b)

same_bytes : (t : Bytes) → bytes_eq t t ≡ true
same_bytes t = (bytes_eq-Decides t t).1 refl

pub variable_shown : (names : List Bytes) (binders : List Binder) (s : List Entry) (x : Scope) (v : ℕ → ℕ) (n : ℕ) (at : Place) → AllStand names binders s x v (plain.Tree.var n at) →
    (e : Entry) → entry_at s n ≡ e → IsOne e → ShownPhrase names x v (plain.Tree.var n at) (entry_shown e)
variable_shown names binders s x v n at good unnamed i h = absurd h
variable_shown names binders s x v n at good (all fs) i h = absurd h
variable_shown names binders s x v n at good (one y) i h =
    let there : has_name y (entry_at s n) ≡ true = ap (λ w. has_name y w) i ∙ same_bytes y in
    let st : Stands names x y (v n) (one y) =
    subst (λ w. Stands names x y (v n) w) i (good n y there (ap (λ w. has_name y w) (entry_alone n (entry_at s n)) ∙ there)) in
    let m = number_of names y in
    at_level names x v (plain.Tree.var n at) (entry_shown (one y)) (other_level 12 refl)
    (shows_name names x v (plain.Tree.var n at) y st.0 st.1 (λ k. absurd k)
    (λ here.
    subst (λ q. Alike v (plain.Tree.var n at) q) (sym (stood (v n) x.depth (λ d. used d m here (x.phrases m)) (λ q. plain.Tree.var q here) (λ more. st.2 more here))) (Alike.var refl)))

-- ---- fields of records

record IsRecordVariable (s : List Entry) (p : plain.Tree) (fs : Fields) : Type 0 where
  number : ℕ
  place : Place
  is : p ≡ plain.Tree.var number place
  entry : entry_at s number ≡ all fs

record_entry : (e : Entry) (fs : Fields) → fields_shown (Some e) ≡ Some fs → e ≡ all fs
record_entry unnamed fs h = absurd cc
record_entry (one y) fs h = absurd cc
record_entry (all gs) fs h = let same : gs ≡ fs = cc in ap (λ l. all l) same

record_variable : (names : List Bytes) (binders : List Binder) (s : List Entry) (p : plain.Tree) (fs : Fields) → record_at (plainly names binders) s p ≡ Some fs → IsRecordVariable s p fs
record_variable names binders s (plain.Tree.var n at) fs h = record { number = n; place = at; is = refl; entry = record_entry (entry_at s n) fs h }
record_variable names binders s p fs h = absurd cc

no_record : (names : List Bytes) (binders : List Binder) (a s : List Entry) → Below a s → (p : plain.Tree) → record_at (plainly names binders) s p ≡ None → record_at (plainly names binders) a p ≡ None
no_record names binders a s h (plain.Tree.var n at) e = elim (h n) [
  | inl i ↦ ap (λ w. fields_shown (Some w)) i
  | inr i ↦ ap (λ w. fields_shown (Some w)) i ∙ e
]
no_record names binders a s h p e = refl

-- a field of a record in scope, by its name
field_shown : (names : List Bytes) (binders : List Binder) (s : List Entry) (x : Scope) (v : ℕ → ℕ) (p : plain.Tree) (i : ℕ) (at : Place) (fs : Fields) (t : Bytes) →
    AllStand names binders s x v (plain.Tree.sel p i at) → IsRecordVariable s p fs → field_name fs i ≡ Some t → ShowsPhrase names x v Level.primary (plain.Tree.sel p i at) t
field_shown names binders s x v p i at fs t good w named =
    let n = w.number in
    let there : has_name t (entry_at s n) ≡ true = ap (λ e. has_name t e) w.entry ∙ name_there fs i t named in
    let entry : entry_at (alone n (entry_at s n)) n ≡ all fs = entry_alone n (entry_at s n) ∙ w.entry in
    let used_so : field_used_as t i (fields_shown (Some (entry_at (alone n (entry_at s n)) n))) (has_name t (entry_at (alone n (entry_at s n)) n)) ≡ true =
    ap (λ e. field_used_as t i (fields_shown (Some e)) (has_name t e)) entry ∙ (ap (λ o. is_some_name t o) named ∙ same_bytes t) in
    let st : Stands names x t (v n) (all fs) =
    subst (λ e. Stands names x t (v n) e) w.entry ((subst (λ (r : plain.Tree). AllStand names binders s x v (plain.Tree.sel r i at)) w.is good) n t there used_so) in
    let m = number_of names t in
    let number : m ≡ i = st.2 i named in
    shows_name names x v (plain.Tree.sel p i at) t st.0 st.1 (λ k. absurd k)
    (λ here.
    subst (λ (r : plain.Tree). Alike v (plain.Tree.sel r i at) (used x.depth m here (x.phrases m))) (sym w.is)
    (subst (λ q. Alike v (plain.Tree.sel (plain.Tree.var n w.place) i at) q)
    (sym (stood (v n) x.depth (λ d. used d m here (x.phrases m)) (λ q. plain.Tree.sel (plain.Tree.var q here) m here) (λ more. st.3 more here)))
    (subst (λ j. Alike v (plain.Tree.sel (plain.Tree.var n w.place) i at) (plain.Tree.sel (plain.Tree.var (v n) here) j here)) (sym number) (Alike.sel (Alike.var refl)))))

pub selected_shown : (names : List Bytes) (binders : List Binder) (s : List Entry) (x : Scope) (v : ℕ → ℕ) (p : plain.Tree) (i : ℕ) (at : Place) → AllStand names binders s x v (plain.Tree.sel p i at) →
    (AllStand names binders s x v p → IsReadable (plainly names binders) s p → ShownPhrase names x v p (form (plainly names binders) s p)) →
    (o : Option Fields) → record_at (plainly names binders) s p ≡ o → IsSelected names i o (IsReadable (plainly names binders) s p) →
    ShownPhrase names x v (plain.Tree.sel p i at) (selected i o (11, λ m. part m 11 (form (plainly names binders) s p) ++ codes "." ++ name_text names i))
selected_shown names binders s x v p i at good inner None e h =
    let k = plainly names binders in
    let q = form k s p in
    let here : AllStand names binders s x v p =
    λ j t named u.
    good j t named
    (ap (λ o. field_used_as t i o (uses k t (alone j (entry_at s j)) p)) (no_record names binders (alone j (entry_at s j)) s (below_alone j s (entry_at s j) refl) p e) ∙ u) in
    at_level names x v (plain.Tree.sel p i at) (11, λ m. part m 11 (form k s p) ++ codes "." ++ name_text names i) (other_level 11 refl)
    (shows_sel names x v p i at (enclosed 11 q.0 (q.1 Whole)) h.0 (part_shown names x v p q 11 (omega arith) (inner here h.1)))
selected_shown names binders s x v p i at good inner (Some fs) e h = by (field_name fs i) refl h
  where
    by : (o : Option Bytes) → field_name fs i ≡ o → IsTrue (is_some o) →
        ShownPhrase names x v (plain.Tree.sel p i at) (named_field o (11, λ m. part m 11 (form (plainly names binders) s p) ++ codes "." ++ name_text names i))
    by None f g = absurd (false≢true g)
    by (Some t) f g =
        at_level names x v (plain.Tree.sel p i at) (12, λ m. t) (other_level 12 refl) (field_shown names binders s x v p i at fs t good (record_variable names binders s p fs e) f)

-- ---- operators

op_shown : (names : List Bytes) (s : Scope) (v : ℕ → ℕ) (o : BinOp) (n l r : ℕ) → (n ≡ 2 → ⊥) → l ≤ 12 → r ≤ 12 → Joins s (level_at n) (level_at l) (level_at r) o → (p q : plain.Tree) (at : Place) (a b : Shown) →
    ShownPhrase names s v p a → ShownPhrase names s v q b → ShownPhrase names s v (plain.Tree.binary o p q at) (n, λ m. part m l a ++ codes " " ++ operator_text o ++ part m r b)
op_shown names s v o n l r far left right join p q at a b h g =
    at_level names s v (plain.Tree.binary o p q at) (n, λ m. part m l a ++ codes " " ++ operator_text o ++ part m r b) far
    (shows_binary names s v (level_at n) (level_at l) (level_at r) o join p q at (enclosed l a.0 (a.1 Whole)) (enclosed r b.0 (b.1 Whole)) (part_shown names s v p a l left h) (part_shown names s v q b r right g))

pub binary_shown : (names : List Bytes) (s : Scope) (v : ℕ → ℕ) (o : BinOp) (p q : plain.Tree) (at : Place) (a b : Shown) → ShownPhrase names s v p a → ShownPhrase names s v q b →
    ShownPhrase names s v (plain.Tree.binary o p q at) (operator_level o, λ m. part m (left_level o) a ++ codes " " ++ operator_text o ++ part m (operator_level o + 1) b)
binary_shown names s v op.Or p q at a b h g = op_shown names s v op.Or 4 4 5 (other_level 4 refl) (omega arith) (omega arith) (joins_either s op.Or refl) p q at a b h g
binary_shown names s v op.And p q at a b h g = op_shown names s v op.And 5 5 6 (other_level 5 refl) (omega arith) (omega arith) (joins_both s op.And refl) p q at a b h g
binary_shown names s v op.Eq p q at a b h g = op_shown names s v op.Eq 6 7 7 (other_level 6 refl) (omega arith) (omega arith) (joins_relation s op.Eq refl) p q at a b h g
binary_shown names s v op.Ne p q at a b h g = op_shown names s v op.Ne 6 7 7 (other_level 6 refl) (omega arith) (omega arith) (joins_relation s op.Ne refl) p q at a b h g
binary_shown names s v op.Lt p q at a b h g = op_shown names s v op.Lt 6 7 7 (other_level 6 refl) (omega arith) (omega arith) (joins_relation s op.Lt refl) p q at a b h g
binary_shown names s v op.Le p q at a b h g = op_shown names s v op.Le 6 7 7 (other_level 6 refl) (omega arith) (omega arith) (joins_relation s op.Le refl) p q at a b h g
binary_shown names s v op.Gt p q at a b h g = op_shown names s v op.Gt 6 7 7 (other_level 6 refl) (omega arith) (omega arith) (joins_relation s op.Gt refl) p q at a b h g
binary_shown names s v op.Ge p q at a b h g = op_shown names s v op.Ge 6 7 7 (other_level 6 refl) (omega arith) (omega arith) (joins_relation s op.Ge refl) p q at a b h g
binary_shown names s v op.Add p q at a b h g = op_shown names s v op.Add 7 7 8 (other_level 7 refl) (omega arith) (omega arith) (joins_sum s op.Add refl) p q at a b h g
binary_shown names s v op.Sub p q at a b h g = op_shown names s v op.Sub 7 7 8 (other_level 7 refl) (omega arith) (omega arith) (joins_sum s op.Sub refl) p q at a b h g
binary_shown names s v op.Mul p q at a b h g = op_shown names s v op.Mul 8 8 9 (other_level 8 refl) (omega arith) (omega arith) (joins_product s op.Mul refl) p q at a b h g
binary_shown names s v op.Div p q at a b h g = op_shown names s v op.Div 8 8 9 (other_level 8 refl) (omega arith) (omega arith) (joins_product s op.Div refl) p q at a b h g
binary_shown names s v op.Rem p q at a b h g = op_shown names s v op.Rem 8 8 9 (other_level 8 refl) (omega arith) (omega arith) (joins_product s op.Rem refl) p q at a b h g

-- ---- merges

pub merge_shown : (names : List Bytes) (x : Scope) (v : ℕ → ℕ) (k : Known) (s : List Entry) (p q : plain.Tree) (at : Place) →
    (is_sequence p q ≡ true → IsCall k s p → ShowsPhrase names x v Level.primary (plain.Tree.merge p q at) (called k s Whole p)) →
    (IsReadable k s p × IsReadable k s q × IsOperand q → ShowsPhrase names x v Level.phrase (plain.Tree.merge p q at) (part Whole 1 (form k s p) ++ codes ", " ++ part Whole 2 (form k s q))) →
    (b : Bool) → is_sequence p q ≡ b → Chosen b (IsCall k s p) (IsReadable k s p × IsReadable k s q × IsOperand q) →
    ShownPhrase names x v (plain.Tree.merge p q at) (if b then (12, λ m. called k s m p) else (1, λ m. part m 1 (form k s p) ++ codes ", " ++ part m 2 (form k s q)))
merge_shown names x v k s p q at call both true e h = at_level names x v (plain.Tree.merge p q at) (12, λ m. called k s m p) (other_level 12 refl) (call e h)
merge_shown names x v k s p q at call both false e h =
    at_level names x v (plain.Tree.merge p q at) (1, λ m. part m 1 (form k s p) ++ codes ", " ++ part m 2 (form k s q)) (other_level 1 refl) (both h)

-- ---- sequences

-- a form at another level than that of sequences is one item
leaf : (k : Known) (s : List Entry) (p : plain.Tree) → ((form k s p).0 == 2) ≡ false → leaves p ≡ plain.Trees.and_tree p plain.Trees.no_trees
leaf k s (plain.Tree.seq p q at) e = absurd (false≢true (sym e))
leaf k s p e = refl

items_shown : (names : List Bytes) (x : Scope) (v : ℕ → ℕ) (k : Known) (s : List Entry) (p : plain.Tree) → ShownPhrase names x v p (form k s p) → is_halved p ≡ true →
    ShowsMany symbol.Semicolon names x v (leaves p) (item true Whole (form k s p))
items_shown names x v k s p h halved = by ((form k s p).0 == 2) refl
  where
    by : (b : Bool) → ((form k s p).0 == 2) ≡ b → ShowsMany symbol.Semicolon names x v (leaves p) (if b then (form k s p).1 Whole else part Whole 3 (form k s p))
    by true e = h.items (eqb-true (form k s p).0 2 e) halved
    by false e =
        subst (λ (ps : plain.Trees). ShowsMany symbol.Semicolon names x v ps (part Whole 3 (form k s p))) (sym (leaf k s p e))
        (shows_one symbol.Semicolon names x v p (part Whole 3 (form k s p)) (part_shown names x v p (form k s p) 3 (omega arith) h))

pub sequence_shown : (names : List Bytes) (x : Scope) (v : ℕ → ℕ) (k : Known) (s : List Entry) (p q : plain.Tree) (at : Place) → item_count (plain.Tree.seq p q at) ≤ 2 ^ 64 - 1 →
    ShownPhrase names x v p (form k s p) → ShownPhrase names x v q (form k s q) → (b : Bool) → is_halved (plain.Tree.seq p q at) ≡ b →
    ShownPhrase names x v (plain.Tree.seq p q at) (2, λ m. item b m (form k s p) ++ codes "; " ++ item b m (form k s q))
sequence_shown names x v k s p q at few h g true e =
    let two = and_parts (are_halves p q) (is_halved p && is_halved q) e in
    let inner = and_parts (is_halved p) (is_halved q) two.1 in
    let one_text = item true Whole (form k s p) in
    let two_text = item true Whole (form k s q) in
    let many : ShowsMany symbol.Semicolon names x v (leaves (plain.Tree.seq p q at)) (one_text ++ codes "; " ++ two_text) =
    shows_both symbol.Semicolon 59 semicolon names x v (leaves p) (leaves q) one_text two_text (items_shown names x v k s p h inner.0) (items_shown names x v k s q g inner.1) in
    record {
      whole = shows_sequence names x v (leaves (plain.Tree.seq p q at)) (plain.Tree.seq p q at) (one_text ++ codes "; " ++ two_text) (λ i. absurd i) (joins_leaves v (plain.Tree.seq p q at) e few) many;
      items = λ i j. many;
    }
sequence_shown names x v k s p q at few h g false e =
    let one_text = part Whole 3 (form k s p) in
    let two_text = part Whole 3 (form k s q) in
    record {
      whole =
          shows_sequence names x v (plain.Trees.and_tree p (plain.Trees.and_tree q plain.Trees.no_trees)) (plain.Tree.seq p q at) (one_text ++ codes "; " ++ two_text) (λ i. absurd i) (joins_two v p q at)
          (shows_both symbol.Semicolon 59 semicolon names x v (plain.Trees.and_tree p plain.Trees.no_trees) (plain.Trees.and_tree q plain.Trees.no_trees) one_text two_text
          (shows_one symbol.Semicolon names x v p one_text (part_shown names x v p (form k s p) 3 (omega arith) h))
          (shows_one symbol.Semicolon names x v q two_text (part_shown names x v q (form k s q) 3 (omega arith) g)));
      items = λ i j. absurd (false≢true (sym e ∙ j));
    }

-- ---- types

pub types_shown : (names : List Bytes) → AreNames names → (As : PlainTypes) → As ≢ PlainTypes.no_types → HaveFullMeets As → AllFieldsOf (IsIdentifierNumber names) As → AreSmall As →
    ShowsAlternatives names As (alternatives_text names [] As)
types_shown names are PlainTypes.no_types some f k small = absurd (some refl)
types_shown names are (PlainTypes.and_type A PlainTypes.no_types) some f k small =
    subst (λ t. ShowsAlternatives names (PlainTypes.and_type A PlainTypes.no_types) t) (sym (append-nil (short_type names A)))
    (shows_alternative names A (short_type names A) small.0 (shows_short names are A f.0 k.0))
types_shown names are (PlainTypes.and_type A (PlainTypes.and_type B As)) some f k small =
    let rest = alternatives_text names [] (PlainTypes.and_type B As) in
    subst (λ t. ShowsAlternatives names (PlainTypes.and_type A (PlainTypes.and_type B As)) t) (append_assoc (short_type names A) (codes " | ") rest)
    (shows_alternatives names A (PlainTypes.and_type B As) (short_type names A) rest small.0 (shows_short names are A f.0 k.0) (types_shown names are (PlainTypes.and_type B As) (λ e. cc) f.1 k.1 small.1))
