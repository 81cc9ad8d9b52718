-- Derivations that are named within the limits are accepted.
use Rattle.std.proofs.Common.{◌≡◌, ℕ, List, [], ◌∷◌, ◌++◌, inl, inr, sym, ap, ◌∙◌, refl, subst, arith, append_assoc, Some, None}
use Rattle.std.proofs.lemmas.List.{append-nil}
use Rattle.std.specs.Prelude.{Err}
use Rattle.fy_base.specs.Outside.{Bytes}
use Rattle.fy_types.specs.Names.{first_names, with_name, with_names, AreNames}
use Rattle.fy_types.proofs.NameLemmas.{AreNames-with_name}
use Rattle.fy_lexer.specs.Tokens.{Reading, Step, Steps, none, more, names_past, start_of}
use Rattle.fy_lexer.specs.declared.token.TokenKind.{TokenKind}
use Rattle.fy_lexer.specs.declared.token.TokenKind.TheVariants.{Ident, Word, Number, Letter, Str, Sym, End}
use Rattle.fy_lexer.proofs.UniqueLemmas.{tokens_same}
use Rattle.fy_expand.proofs.JudgedLemmas.{one_phrase, phrase_or_refusal}
use Rattle.fy_phrase.specs.Tree.{Tree}
use Rattle.fy_derive.specs.Derivations.{PlainDerivation}
use Rattle.fy_derive.specs.Judging.{conclusion_of, refusal}
use Rattle.fy_read.specs.FieldNames.{field_names}
use Rattle.fy_read.specs.Refusals.{Stops, IsReadFault}
use Rattle.fy_read.specs.Spelling.{IsTextOf}
use Rattle.fy_read.specs.Steps.{begin, finish}
use Rattle.fy_read.specs.declared.error.ReadError.{ReadError}
use Rattle.fy_read.specs.declared.error.ReadError.TheVariants.{BadText, TooLarge, TooDeep, OutOfMemory}
use Rattle.fy_read.proofs.UniqueLemmas.{unique}
use Rattle.fy_read.proofs.ValueLemmas.{text_unique}
use Rattle.fy_read.proofs.PieceLemmas.{after_whole}
use Rattle.pe_shapes.specs.Shaping.{IsShaping}
use Rattle.fy_world.specs.Note.{read_note}
use Rattle.fy_world.specs.declared.note.Note.{Note}
use Rattle.fy_front.specs.Checked.{IsInUse, HasNames}
use Rattle.fy_tool.specs.Complete.{NamedDerivationIsAccepted}
use Rattle.fy_tool.specs.Given.{Spells, IsDerivationRefused, too_long, unread, wrong, before_typing, by_derivation, by_shapes}
use Rattle.fy_tool.proofs.Alike.{shapes_kept}

-- ---- the names of a text

names_stay : (kind : TokenKind) (piece : Bytes) (names : List Bytes) → AreNames names → AreNames (names_past kind piece names)
names_stay (Ident name) piece names are = AreNames-with_name names piece are
names_stay (Word keyword) piece names are = are
names_stay (Number n) piece names are = are
names_stay (Letter value) piece names are = are
names_stay (Str values) piece names are = are
names_stay (Sym symbol) piece names are = are
names_stay End piece names are = are

step_names : (a b : Reading) → Step a b → AreNames a.names → AreNames b.names
step_names a b (inl gap) are = subst AreNames (sym gap.names) are
step_names a b (inr token) are = subst AreNames (sym token.names) (names_stay token.kind token.piece a.names are)

steps_names : (a b : Reading) → Steps a b → AreNames a.names → AreNames b.names
steps_names a b (none here) are = are
steps_names a b (more old next new step steps) are = steps_names next b steps (step_names a next step are)

pub are_first : AreNames first_names
are_first = record { later = []; begins = sym (append-nil first_names); distinct = refl }

are_texts : (text : Bytes) (names : List Bytes) → HasNames text names → AreNames names
are_texts text names has = subst AreNames (sym has.read.named) (steps_names (start_of first_names text) has.read.last has.read.steps are_first)

same_names : (text : Bytes) (a b : List Bytes) → HasNames text a → HasNames text b → a ≡ b
same_names text a b has had = (tokens_same first_names text has.tokens had.tokens a b has.read had.read).1

all_names : (names others : List Bytes) → AreNames names → AreNames (with_names names others)
all_names names [] are = are
all_names names (name ∷ others) are = all_names (with_name names name) others (AreNames-with_name names name are)

-- ---- one derivation is spelled

same_pieces : (names other : List Bytes) (d e : PlainDerivation) (written : Bytes) (s : IsTextOf names d written) (t : IsTextOf other e written) → s.pieces ≡ t.pieces
same_pieces names other d e written s t = unique written begin finish finish s.spelled t.spelled refl (after_whole s.derivation) (after_whole t.derivation)

same_after : (text written : Bytes) (d e : PlainDerivation) (s : Spells text written d) (t : Spells text written e) → s.after ≡ t.after
same_after text written d e s t =
    let names = same_names text s.names t.names s.named t.named in
    let pieces = same_pieces s.after t.after d e written s.numbers.text_of t.numbers.text_of in
    s.numbers.added ∙ ap (λ n. with_names n (field_names s.numbers.text_of.pieces)) names ∙ ap (λ ps. with_names t.names (field_names ps)) pieces ∙ sym t.numbers.added

same_derivation : (text written : Bytes) (d e : PlainDerivation) → Spells text written d → Spells text written e → d ≡ e
same_derivation text written d e s t =
    let are = subst AreNames (sym t.numbers.added) (all_names t.names (field_names t.numbers.text_of.pieces) (are_texts text t.names t.named)) in
    text_unique t.after d e written are.distinct (subst (λ n. IsTextOf n d written) (same_after text written d e s t) s.numbers.text_of) t.numbers.text_of

-- ---- it isn't refused

not_stopped : (names : List Bytes) (d : PlainDerivation) (written part rest : Bytes) → IsTextOf names d written → written ≡ part ++ rest → Stops part rest → ⊥
not_stopped names d written part [] text is stops = stops (record { names = names; d = d; text_of = subst (λ t. IsTextOf names d t) (is ∙ append-nil part) text })
not_stopped names d written part (b ∷ rest) text is stops =
    stops (record { names = names; d = d; more = rest; text = subst (λ t. IsTextOf names d t) (is ∙ sym (append_assoc part (b ∷ []) rest)) text })

not_unread : (text written : Bytes) (d : PlainDerivation) (error : ReadError) (why : Note) → Spells text written d → IsReadFault written error → read_note error ≡ Some why → ⊥
not_unread text written d (BadText k) why s fault told = not_stopped s.after d written fault.part fault.rest s.numbers.text_of fault.is fault.stops
not_unread text written d TooLarge why s fault told = s.keeps.size fault.part fault.rest fault.is fault.passes
not_unread text written d TooDeep why s fault told = s.keeps.depth fault.part fault.rest fault.is fault.passes
not_unread text written d OutOfMemory why s fault told = absurd cc

accepted_not_wrong : (p : Tree) (d : PlainDerivation) (node : ℕ) → refusal (conclusion_of p d) ≡ None → refusal (conclusion_of p d) ≡ Some node → ⊥
accepted_not_wrong p d node accepted at = let clash : None ≡ Some node = sym accepted ∙ at in cc

derivation_kept : (text written : Bytes) (p : Tree) (d : PlainDerivation) (why : Note) → Spells text written d → IsInUse p d → IsDerivationRefused text p written why → ⊥
derivation_kept text written p d why s used (too_long longer) = let short = s.short in omega arith
derivation_kept text written p d why s used (unread error why' short fault told) = not_unread text written d error why s fault told
derivation_kept text written p d why s used (wrong e node spelled at) =
    let same = same_derivation text written e d spelled s in
    accepted_not_wrong p d node used.accepted (subst (λ x. refusal (conclusion_of p x) ≡ Some node) same at)

pub named_accepted : NamedDerivationIsAccepted
named_accepted text name written p d is s used status why (before_typing _ _ cause refusal judged told) = phrase_or_refusal text p cause is judged
named_accepted text name written p d is s used status why (by_derivation _ _ q note judged refused) =
    let same = one_phrase text q p judged is in
    derivation_kept text written p d note s used (subst (λ x. IsDerivationRefused text x written note) same refused)
named_accepted text name written p d is s used status why (by_shapes _ _ q e error refusal judged spelled accepted shaping told) =
    let same = one_phrase text q p judged is in
    let alike = same_derivation text written e d spelled s in
    shapes_kept p d error refusal used (subst (λ x. IsShaping (Err error) p x) alike (subst (λ x. IsShaping (Err error) x e) same shaping)) told
