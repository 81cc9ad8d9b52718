-- What is printed of a derivation within the limits is not refused.
use Rattle.std.proofs.Common.{◌≡◌, ℕ, zero, suc, false, List, [], ◌∷◌, ◌++◌, refl, ap, sym, ◌∙◌, subst, arith, append_assoc}
use Rattle.std.specs.Prelude.{Some, slice_get}
use Rattle.std.proofs.lemmas.List.{append-nil}
use Rattle.fy_base.specs.Outside.{Bytes}
use Rattle.fy_lexer.specs.Tokens.{HasAdded}
use Rattle.fy_types.specs.Types.{PlainType, PlainTypes}
use Rattle.fy_derive.specs.Derivations.{PlainDerivation, PlainDerivations}
use Rattle.fy_derive.specs.Print.{derivation_text}
use Rattle.fy_read.specs.declared.error.ReadError.{ReadError}
use Rattle.fy_read.specs.declared.error.ReadError.TheVariants.{BadText, TooLarge, TooDeep, OutOfMemory}
use Rattle.fy_read.specs.Refusals.{Stops, BeginsPieces, PassesSize, PassesDepth, of_nodes, of_parens, of_type, IsReadFault, most_open_parens}
use Rattle.fy_derive.specs.Limits.{KeepsLimits}
use Rattle.fy_read.specs.Spelling.{Piece, TypeLevel, SpellsType, an_arrow, no_arrow, members, a_field, no_field, ns, atom, group, MoreTypes, no_more, one_more, SpellsDerivation, a_ns, a_sub, a_meet, an_alt, a_left, a_right, a_rule, SpellsDerivations, none, and_one, AreSpelled, IsTextOf}
use Rattle.fy_read.specs.Steps.{begin, finish}
use Rattle.fy_read.specs.TextLaws.{PrintedIsRead}
use Rattle.fy_read.proofs.DepthLemmas.{nesting-begun, nodes-words}
use Rattle.fy_read.proofs.FineLemmas.{begun_leads}
use Rattle.fy_read.proofs.FrontLemmas.{IsFront, front_of, front_nodes, front_nesting, front_parens, front_whole}
use Rattle.fy_read.proofs.PieceLemmas.{after_whole}
use Rattle.fy_read.proofs.PrintedLemmas.{IsPrinted, printed}
use Rattle.fy_read.proofs.ValueLemmas.{text_unique}

-- ---- a text stays one where names are added
get-append : (names more : List Bytes) (i : ℕ) (w : Bytes) → slice_get names i ≡ Some w → slice_get (names ++ more) i ≡ Some w
get-append [] more i w h = absurd cc
get-append (name ∷ names) more zero w h = h
get-append (name ∷ names) more (suc i) w h = get-append names more i w h

get_later : {names later : List Bytes} (i : ℕ) (w : Bytes) → HasAdded names later → slice_get names i ≡ Some w → slice_get later i ≡ Some w
get_later {names = names} i w added h = ap (λ ns. slice_get ns i) added.is ∙ get-append names added.later i w h

mutual
  type_later : {names later : List Bytes} {l : TypeLevel} {A : PlainType} {ts r : List Piece} → HasAdded names later → SpellsType names l A ts r →
      SpellsType later l A ts r
  type_later added (an_arrow D B) = an_arrow (type_later added D) (type_later added B)
  type_later added (no_arrow A) = no_arrow (type_later added A)
  type_later added (members A As) = members (type_later added A) (types_later added As)
  type_later added (a_field {i = i} {name = name} numbered identifier A) = a_field (get_later i name added numbered) identifier (type_later added A)
  type_later added (no_field A) = no_field (type_later added A)
  type_later added ns = ns
  type_later added (atom {a = a}) = atom {a = a}
  type_later added (group A) = group (type_later added A)

  types_later : {names later : List Bytes} {As : PlainTypes} {ts r : List Piece} → HasAdded names later → MoreTypes names As ts r →
      MoreTypes later As ts r
  types_later added no_more = no_more
  types_later added (one_more A As) = one_more (type_later added A) (types_later added As)

mutual
  derivation_later : {names later : List Bytes} {d : PlainDerivation} {ts r : List Piece} → HasAdded names later → SpellsDerivation names d ts r →
      SpellsDerivation later d ts r
  derivation_later added a_ns = a_ns
  derivation_later added (a_sub T d) = a_sub (type_later added T) (derivation_later added d)
  derivation_later added (a_meet low high all) = a_meet low high (derivations_later added all)
  derivation_later added (an_alt small d) = an_alt small (derivation_later added d)
  derivation_later added (a_left d) = a_left (derivation_later added d)
  derivation_later added (a_right d) = a_right (derivation_later added d)
  derivation_later added (a_rule high all) = a_rule high (derivations_later added all)

  derivations_later : {names later : List Bytes} {ds : PlainDerivations} {ts r : List Piece} → HasAdded names later →
      SpellsDerivations names ds ts r → SpellsDerivations later ds ts r
  derivations_later added none = none
  derivations_later added (and_one d all) = and_one (derivation_later added d) (derivations_later added all)

text_later : {names later : List Bytes} {d : PlainDerivation} {text : Bytes} → HasAdded names later → IsTextOf names d text → IsTextOf later d text
text_later added t = record { pieces = t.pieces; derivation = derivation_later added t.derivation; spelled = t.spelled }

-- ---- a text goes on to its end
goes_on : (names : List Bytes) (d : PlainDerivation) (text part rest : Bytes) → IsTextOf names d text → text ≡ part ++ rest → ¬ Stops part rest
goes_on names d text part [] t is stops =
    stops (record { names = names; d = d; text_of = subst (IsTextOf names d) (is ∙ append-nil part) t })
goes_on names d text part (b ∷ rest) t is stops =
    stops (record { names = names; d = d; more = rest; text = subst (IsTextOf names d) (is ∙ sym (append_assoc part (b ∷ []) rest)) t })

-- the pieces of its front are a front of its pieces
front : {names : List Bytes} {d e : PlainDerivation} {text part rest : Bytes} (t : IsTextOf names d text) (qs : List Piece) → text ≡ part ++ rest →
    AreSpelled false qs part → BeginsPieces e qs → IsFront rest qs t.pieces
front {e = e} {text = text} {rest = rest} t qs is spelled begun =
    let b = begun_leads e qs begun in
    front_of rest text begin b.0 finish spelled t.spelled (sym is) b.1 (after_whole t.derivation)

no_size : (names : List Bytes) (d : PlainDerivation) (part rest : Bytes) → (p : IsPrinted names d) → KeepsLimits d → derivation_text names d ≡ part ++ rest →
    ¬ PassesSize part
no_size names d part rest p within is passes =
    omega (
      arith,
      passes.many,
      front_nodes (front p.text passes.pieces is passes.spelled passes.begun),
      (nodes-words p.text.derivation).0,
      within.few,
    )

no_depth : (names : List Bytes) (d : PlainDerivation) (part rest : Bytes) → (p : IsPrinted names d) → KeepsLimits d → derivation_text names d ≡ part ++ rest →
    ¬ PassesDepth part rest
no_depth names d part rest p within is (of_nodes qs e spelled begun above) =
    omega (
      arith,
      above,
      nesting-begun qs begun.more begun.spelled,
      front_nesting (front p.text qs is spelled begun),
      (nodes-words p.text.derivation).1,
      within.shallow,
    )
no_depth names d part rest p within is (of_parens qs e spelled begun above) =
    omega (arith, above, front_parens (front p.text qs is spelled begun), p.parens most_open_parens within.types)
no_depth names d part rest p within is (of_type qs e spelled begun ends all) =
    let whole = front_whole (front p.text qs is spelled begun) ends in
    let begins : BeginsPieces d qs =
    record { names = names; more = whole.0; spelled = subst (λ ps. SpellsDerivation names d ps []) whole.1 p.text.derivation } in
    omega (arith, all d begins, within.types)

taken : (names : List Bytes) (d : PlainDerivation) → IsPrinted names d → KeepsLimits d → (fault : ReadError) → IsReadFault (derivation_text names d) fault →
    fault ≡ OutOfMemory
taken names d p within (BadText k) h = absurd (goes_on names d (derivation_text names d) h.part h.rest p.text h.is h.stops)
taken names d p within TooLarge h = absurd (no_size names d h.part h.rest p within h.is h.passes)
taken names d p within TooDeep h = absurd (no_depth names d h.part h.rest p within h.is h.passes)
taken names d p within OutOfMemory h = refl

pub printed_is_read : PrintedIsRead
printed_is_read names later d distinct added printable within =
    let p = printed names d printable in
    record {
      only = λ e text. text_unique later e d (derivation_text names d) distinct text (text_later added p.text);
      taken = λ fault h. taken names d p within fault h;
    }
