-- Which phrases programs are: forms that the grammar has, with variables that names stand for.
use Rattle.std.proofs.Common.{◌≡◌, ◌≢◌, ℕ, suc, ◌+◌, ◌-◌, ◌≤◌, ◌==◌, Bool, true, false, if◌then◌else◌, pos, negsuc, Option, Some, None, is_none, List, [], ◌∷◌, ◌++◌, length, refl, sym, ap, subst, ◌∙◌, arith, append_assoc, length-append, inl, inr, ◌⊎◌}
use Rattle.std.proofs.lemmas.Bool.{ne_eqb, eqb-true, and_right}
use Rattle.std.proofs.lemmas.Bool.Decides.{Decides-int_eq}
use Rattle.std.proofs.lemmas.Int.{ints}
use Rattle.std.specs.Ordering.{int_eq}
use Rattle.fy_base.specs.Outside.{Bytes}
use Rattle.fy_base.specs.declared.data.Place.{Place}
use Rattle.fy_base.specs.declared.data.Datum.TheVariants as datum
use Rattle.fy_base.specs.declared.data.UnOp.TheVariants as unary_op
use Rattle.fy_types.specs.declared.types.Atom.TheVariants as atom
use Rattle.fy_types.specs.Types.{PlainType, PlainTypes}
use Rattle.fy_syntax.specs.Ranges.{AreBytes}
use Rattle.fy_syntax.specs.Trees.{DeclTree, Defs}
use Rattle.fy_phrase.specs.Tree.{Tree, Trees, var, lit, unary, binary, cond, case, lam, app, field, sel, merge, let_in, rec, skip, seq, assign, while_do, forever, new, cells, escape, accept, put, read, mark, no_trees, and_tree}
use Rattle.fy_phrase.specs.CoreLimits.{types_count}
use Rattle.fy_phrase.specs.WellMade.{IsOperand}
use Rattle.fy_expand.specs.Types.{is_large_type, type_of}
use Rattle.fy_expand.specs.Core.{used, one_type, letters, text_parts, indexed, trees_count, declared, meet_of}
use Rattle.fy_expand.specs.Scope.{Scope, behind, under, under_defs, under_members, with_defs, with_members, depth_under}
use Rattle.fy_show.specs.Fresh.{fields_of, fields_of_all}
use Rattle.fy_show.specs.Texts.{is_sequence, is_empty_string, is_no_letter, is_int_alone, parts_at_index, parts_by_index, parts_count, sequence_length, is_length}
use Rattle.fy_again.specs.Again.{IsLiteral}
use Rattle.fy_again.specs.Phrases.{AreSmall, AreFresh, fields_declared, fields_defined, IsAmong, Chosen, types_declared}
use Rattle.fy_again.proofs.CallLemmas.{no_length}
use Rattle.fy_again.proofs.FaultLemmas.{with_same, with_other}

-- ---- the shape of a phrase

-- what the variable of a binder is
pub data Kind : Type 0 where
  variable : Kind
  -- that of a `letrec` of these fields
  record_of : List (ℕ × PlainType) → Kind
  -- the index of a sequence
  index : Kind

abbrev pub kind_at : List Kind → ℕ → Option Kind
kind_at [] n = None
kind_at (x ∷ ks) n = if n == 0 then Some x else kind_at ks (n - 1)

abbrev pub IsVariable : Option Kind → Type 0
IsVariable None = ⊥
IsVariable (Some variable) = Unit {0}
IsVariable (Some (record_of gs)) = ⊥
IsVariable (Some index) = ⊥

abbrev pub fields_at : Option Kind → Option (List (ℕ × PlainType))
fields_at None = None
fields_at (Some variable) = None
fields_at (Some (record_of gs)) = Some gs
fields_at (Some index) = None

abbrev pub record_in : List Kind → Tree → Option (List (ℕ × PlainType))
record_in ks (var n at) = fields_at (kind_at ks n)
record_in ks p = None

abbrev pub Selects : ℕ → Option (List (ℕ × PlainType)) → Type 0 → Type 0
Selects i None P = P
Selects i (Some gs) P = IsAmong i gs

-- each field's type is within the limits
abbrev pub AreSmallFields : List (ℕ × PlainType) → Type 0
AreSmallFields [] = Unit {0}
AreSmallFields (g ∷ gs) = (is_large_type g.1 ≡ false) × AreSmallFields gs

abbrev mutual
  pub IsFormed : List Kind → Tree → Type 0
  IsFormed ks (var n at) = IsVariable (kind_at ks n)
  IsFormed ks (lit v at) = IsLiteral v
  IsFormed ks (unary op p at) = IsFormed ks p
  IsFormed ks (binary op p q at) = IsFormed ks p × IsFormed ks q
  IsFormed ks (cond b p q at) = IsFormed ks b × IsFormed ks p × IsFormed ks q
  IsFormed ks (case e parts at) = ⊥
  IsFormed ks (lam d As b at) = (As ≢ PlainTypes.no_types) × AreSmall As × (types_count As ≤ 16) × IsFormed (variable ∷ ks) b
  IsFormed ks (app p q at) = IsFormed ks p × IsFormed ks q
  IsFormed ks (field i p at) = IsFormed ks p
  IsFormed ks (sel p i at) = Selects i (record_in ks p) (IsFormed ks p)
  IsFormed ks (merge p q at) = Chosen (is_sequence p q) (IsFormedCall ks p) (IsFormed ks p × IsFormed ks q × IsOperand q)
  IsFormed ks (let_in d (rec c T p here) b at) =
      (fields_of T ≢ []) × (meet_of (types_declared (fields_of T)) ≡ T) × AreFresh [] (fields_of T) × AreSmallFields (fields_of T)
      × (fields_defined p ≡ fields_declared (fields_of T)) × AreFormedDefs (record_of (fields_of T) ∷ ks) (fields_of T) p × IsFormed (record_of (fields_of T) ∷ ks) b
  IsFormed ks (let_in d p b at) = IsFormed ks p × IsFormed (variable ∷ ks) b
  IsFormed ks (rec d T b at) = ⊥
  IsFormed ks (skip at) = Unit {0}
  IsFormed ks (seq p q at) = IsFormed ks p × IsFormed ks q
  IsFormed ks (assign p q at) = IsFormed ks p × IsFormed ks q
  IsFormed ks (while_do b c at) = IsFormed ks b × IsFormed ks c
  IsFormed ks (forever c at) = IsFormed ks c
  IsFormed ks (new d D e b at) = IsFormed ks e × IsFormed (variable ∷ ks) b
  IsFormed ks (cells d e b at) = ⊥
  IsFormed ks (escape d b at) = IsFormed (variable ∷ ks) b
  IsFormed ks (accept d D b at) = IsFormed (variable ∷ ks) b
  IsFormed ks (put kind p at) = ⊥
  IsFormed ks (read p at) = ⊥
  IsFormed ks (mark m at) = ⊥

  pub IsFormedCall : List Kind → Tree → Type 0
  IsFormedCall ks (lam d As (case e parts at) here) = (is_empty_string parts ≡ true) ⊎ ((parts ≢ no_trees) × AreFormed (index ∷ ks) parts)
  IsFormedCall ks p = ⊥

  pub AreFormed : List Kind → Trees → Type 0
  AreFormed ks no_trees = Unit {0}
  AreFormed ks (and_tree p more) = IsFormed ks p × AreFormed ks more

  pub AreFormedDefs : List Kind → List (ℕ × PlainType) → Tree → Type 0
  AreFormedDefs ks gs (merge p (field i q at) here) = AreFormedDefs ks gs p × IsAmong i gs × IsFormed ks q
  AreFormedDefs ks gs (field i q at) = IsAmong i gs × IsFormed ks q
  AreFormedDefs ks gs p = ⊥

-- ---- forms

pub formed_let : (ks : List Kind) (d : ℕ) (p b : Tree) (at : Place) → IsFormed ks p → IsFormed (variable ∷ ks) b → IsFormed ks (let_in d p b at)
formed_let ks d (rec c T q here) b at h g = absurd h
formed_let ks d p b at h g = (h, g)

no_fields : (o : Option Kind) → IsVariable o → fields_at o ≡ None
no_fields None h = refl
no_fields (Some variable) h = refl
no_fields (Some (record_of gs)) h = absurd h
no_fields (Some index) h = refl

pub formed_sel : (ks : List Kind) (p : Tree) (i : ℕ) (at : Place) → IsFormed ks p → IsFormed ks (sel p i at)
formed_sel ks (var n here) i at h = subst (λ o. Selects i o (IsVariable (kind_at ks n))) (sym (no_fields (kind_at ks n) h)) h
formed_sel ks p i at h = h

no_parts_at : (ks : List Kind) (b : Tree) → IsFormed ks b → parts_at_index b ≡ None
no_parts_at ks (case e parts at) h = absurd h
no_parts_at ks b h = refl

none_both : (b : Bool) (o : Option Trees) → o ≡ None → (if b then o else None) ≡ None
none_both true o h = h
none_both false o h = refl

no_parts : (ks : List Kind) (p : Tree) → IsFormed ks p → parts_by_index p ≡ None
no_parts ks (lam d As b at) h = none_both (is_int_alone As) (parts_at_index b) (no_parts_at (variable ∷ ks) b h.3)
no_parts ks p h = refl

no_sequence : (ks : List Kind) (p q : Tree) → IsFormed ks p → is_sequence p q ≡ false
no_sequence ks p (field i r at) h = and_right (i == 0) (is_length r (parts_by_index p)) (ap (λ o. is_length r o) (no_parts ks p h) ∙ no_length r)
no_sequence ks p q h = refl

pub formed_merge : (ks : List Kind) (p q : Tree) (at : Place) → IsFormed ks p → IsFormed ks q → IsOperand q → IsFormed ks (merge p q at)
formed_merge ks p q at h g o = subst (λ b. Chosen b (IsFormedCall ks p) (IsFormed ks p × IsFormed ks q × IsOperand q)) (sym (no_sequence ks p q h)) (h, g, o)

-- ---- sequences and strings

same_int : (n m : ℕ) → n ≡ m → int_eq (pos n) (pos m) ≡ true
same_int n m e = (Decides-int_eq (pos n) (pos m)).1 (ap pos e)

pub formed_indexed : (ks : List Kind) (d : ℕ) (at : Place) (n : ℕ) (parts : Trees) → n ≡ sequence_length parts → (is_empty_string parts ≡ true) ⊎ ((parts ≢ no_trees) × AreFormed (index ∷ ks) parts) →
    IsFormed ks (indexed d at n parts)
formed_indexed ks d at n parts e h =
    let p = lam d (one_type atom.Int) (case (var 0 at) parts at) at in
    let q = field 0 (lit (datum.Int (pos n)) at) at in
    let same : is_sequence p q ≡ true = same_int n (sequence_length parts) e in
    subst (λ b. Chosen b (IsFormedCall ks p) (IsFormed ks p × IsFormed ks q × IsOperand q)) (sym same) h

letters_count : (at : Place) (bytes : Bytes) → parts_count (letters at bytes) ≡ length bytes
letters_count at [] = refl
letters_count at (b ∷ bytes) = ap suc (letters_count at bytes)

letters_formed : (ks : List Kind) (at : Place) (bytes : Bytes) → AreBytes bytes → AreFormed ks (letters at bytes)
letters_formed ks at [] h = tt
letters_formed ks at (b ∷ bytes) h = (h.0, letters_formed ks at bytes h.1)

letters_full : (at : Place) (b : ℕ) (bytes : Bytes) → is_empty_string (letters at (b ∷ bytes)) ≡ false
letters_full at b [] = refl
letters_full at b (c ∷ bytes) = refl

some_trees : (p : Tree) (ps : Trees) → and_tree p ps ≢ no_trees
some_trees p ps e = cc

pub formed_string : (ks : List Kind) (d : ℕ) (at : Place) (bytes : Bytes) → AreBytes bytes → IsFormed ks (indexed d at (length bytes) (text_parts at bytes))
formed_string ks d at [] h = formed_indexed ks d at 0 (text_parts at []) refl (inl refl)
formed_string ks d at (b ∷ bytes) h =
    let parts = letters at (b ∷ bytes) in
    let size : length (b ∷ bytes) ≡ sequence_length parts = sym (ap (λ c. if c then 0 else parts_count parts) (letters_full at b bytes) ∙ letters_count at (b ∷ bytes)) in
    formed_indexed ks d at (length (b ∷ bytes)) parts size (inr (some_trees (lit (datum.Char b) at) (letters at bytes), letters_formed (index ∷ ks) at (b ∷ bytes) h))

not_minus_one : (ks : List Kind) (p : Tree) → IsFormed ks p → is_no_letter p ≡ false
not_minus_one ks (unary unary_op.Chr (lit (datum.Int (pos n)) at) here) h = refl
not_minus_one ks (unary unary_op.Chr (lit (datum.Int (negsuc n)) at) here) h = absurd (omega (arith, ints, h))
not_minus_one ks p h = refl

not_empty : (ks : List Kind) (parts : Trees) → AreFormed ks parts → is_empty_string parts ≡ false
not_empty ks no_trees h = refl
not_empty ks (and_tree p no_trees) h = not_minus_one ks p h.0
not_empty ks (and_tree p (and_tree q more)) h = refl

same_count : (parts : Trees) → trees_count parts ≡ parts_count parts
same_count no_trees = refl
same_count (and_tree p more) = ap suc (same_count more)

pub formed_seq_of : (ks : List Kind) (d : ℕ) (at : Place) (parts : Trees) → parts ≢ no_trees → AreFormed (index ∷ ks) parts → IsFormed ks (indexed d at (trees_count parts) parts)
formed_seq_of ks d at parts some h =
    let size : trees_count parts ≡ sequence_length parts = same_count parts ∙ sym (ap (λ c. if c then 0 else parts_count parts) (not_empty (index ∷ ks) parts h)) in
    formed_indexed ks d at (trees_count parts) parts size (inr (some, h))

-- ---- names

pub kind_later : (x : Kind) (ks : List Kind) (j : ℕ) → kind_at (x ∷ ks) (suc j) ≡ kind_at ks j
kind_later x ks j =
    let other : (suc j == 0) ≡ false = ne_eqb (suc j) 0 (λ i. omega (arith, i)) in
    let less : suc j - 1 ≡ j = omega arith in
    ap (λ b. if b then Some x else kind_at ks (suc j - 1)) other ∙ ap (λ n. kind_at ks n) less

kind_after : (more : List Kind) (x : Kind) (ks : List Kind) → kind_at (more ++ x ∷ ks) (length more) ≡ Some x
kind_after [] x ks = refl
kind_after (y ∷ more) x ks = kind_later y (more ++ x ∷ ks) (length more) ∙ kind_after more x ks

-- each name that stands for something in the second scope is formed where it is used, under further binders too
abbrev pub Fit : List Kind → Scope → Scope → Type 0
Fit ks s t = (more : List Kind) (n : ℕ) (at : Place) → is_none (t.phrases n) ≡ false → IsFormed (more ++ ks) (used (length more + s.depth) n at (s.phrases n))

pub fit_behind : (ks : List Kind) (s t : Scope) (x : Kind) → Fit ks s t → Fit (x ∷ ks) (behind s) t
fit_behind ks s t x fit more n at h =
    let size = length-append more (x ∷ []) in
    let deep : length (more ++ x ∷ []) + s.depth ≡ length more + suc s.depth = omega (arith, size) in
    subst (λ l. IsFormed l (used (length more + suc s.depth) n at (s.phrases n))) (append_assoc more (x ∷ []) ks)
    (subst (λ d. IsFormed ((more ++ x ∷ []) ++ ks) (used d n at (s.phrases n))) deep (fit (more ++ x ∷ []) n at h))

-- a variable of that depth
formed_variable : (ks : List Kind) (k j : ℕ) (at : Place) → k ≡ j → kind_at ks j ≡ Some variable → IsFormed ks (var k at)
formed_variable ks k j at e h = subst (λ o. IsVariable o) (sym (ap (λ n. kind_at ks n) e ∙ h)) tt

pub fit_under : (ks : List Kind) (s t : Scope) (x : ℕ) → Fit ks s t → Fit (variable ∷ ks) (under x s) (under x t)
fit_under ks s t x fit more n at h = by (n == x) refl
  where
    far : length more + suc s.depth - s.depth - 1 ≡ length more
    far = omega arith

    by : (b : Bool) → (n == x) ≡ b → IsFormed (more ++ variable ∷ ks) (used (length more + suc s.depth) n at ((under x s).phrases n))
    by true e =
        subst (λ o. IsFormed (more ++ variable ∷ ks) (used (length more + suc s.depth) n at o)) (sym (with_same x _ s.phrases n e))
        (formed_variable (more ++ variable ∷ ks) (length more + suc s.depth - s.depth - 1) (length more) at far (kind_after more variable ks))
    by false e =
        subst (λ o. IsFormed (more ++ variable ∷ ks) (used (length more + suc s.depth) n at o)) (sym (with_other x _ s.phrases n e))
        (fit_behind ks s t variable fit more n at (sym (ap (λ o. is_none o) (with_other x _ t.phrases n e)) ∙ h))

-- the variables of a `let`, the last innermost
abbrev pub variables : Defs → List Kind → List Kind
variables Defs.no_defs ks = ks
variables (Defs.and_def x at p more) ks = variables more (variable ∷ ks)

abbrev count : Defs → ℕ
count Defs.no_defs = 0
count (Defs.and_def x at p more) = suc (count more)

depth-count : (d : ℕ) (defs : Defs) → depth_under d defs ≡ d + count defs
depth-count d Defs.no_defs = omega arith
depth-count d (Defs.and_def x at p more) = let e = depth-count (suc d) more in omega (arith, e)

kind_of_first : (defs : Defs) (more between : List Kind) (x : Kind) (ks : List Kind) (j : ℕ) → j ≡ length more + count defs + length between →
    kind_at (more ++ variables defs (between ++ x ∷ ks)) j ≡ Some x
kind_of_first Defs.no_defs more between x ks j e =
    let size = length-append more between in
    let place : j ≡ length (more ++ between) = omega (arith, e, size) in
    ap (λ n. kind_at (more ++ (between ++ x ∷ ks)) n) place ∙ (ap (λ l. kind_at l (length (more ++ between))) (sym (append_assoc more between (x ∷ ks))) ∙ kind_after (more ++ between) x ks)
kind_of_first (Defs.and_def y at p defs) more between x ks j e =
    kind_of_first defs more (variable ∷ between) x ks j (omega (arith, e))

pub fit_defs : (ks : List Kind) (s t : Scope) (defs : Defs) → Fit ks s t → Fit (variables defs ks) (under_defs defs s) (under_defs defs t)
fit_defs ks s t Defs.no_defs fit = fit
fit_defs ks s t (Defs.and_def x here p defs) fit = λ more n at h. by (fit_defs (variable ∷ ks) (behind s) (behind t) defs (fit_behind ks s t variable fit)) more n at h (n == x) refl
  where
    deep : (more : List Kind) → length more + depth_under (suc s.depth) defs - s.depth - 1 ≡ length more + count defs + 0
    deep more = let e = depth-count (suc s.depth) defs in omega (arith, e)

    by : Fit (variables defs (variable ∷ ks)) (under_defs defs (behind s)) (under_defs defs (behind t)) → (more : List Kind) (n : ℕ) (at : Place) →
        is_none ((under_defs (Defs.and_def x here p defs) t).phrases n) ≡ false → (b : Bool) → (n == x) ≡ b →
        IsFormed (more ++ variables defs (variable ∷ ks)) (used (length more + depth_under (suc s.depth) defs) n at ((under_defs (Defs.and_def x here p defs) s).phrases n))
    by rest more n at h true e =
        subst (λ o. IsFormed (more ++ variables defs (variable ∷ ks)) (used (length more + depth_under (suc s.depth) defs) n at o))
        (sym (with_same x _ (with_defs (suc s.depth) defs s.phrases) n e))
        (formed_variable (more ++ variables defs (variable ∷ ks)) (length more + depth_under (suc s.depth) defs - s.depth - 1) (length more + count defs + 0) at (deep more)
        (kind_of_first defs more [] variable ks (length more + count defs + 0) refl))
    by rest more n at h false e =
        subst (λ o. IsFormed (more ++ variables defs (variable ∷ ks)) (used (length more + depth_under (suc s.depth) defs) n at o))
        (sym (with_other x _ (with_defs (suc s.depth) defs s.phrases) n e))
        (rest more n at (sym (ap (λ o. is_none o) (with_other x _ (with_defs (suc t.depth) defs t.phrases) n e)) ∙ h))

-- ---- the fields of a `letrec`

abbrev pub declared_fields : (ℕ → Option PlainType) → List DeclTree → List (ℕ × PlainType)
declared_fields types [] = []
declared_fields types (d ∷ decls) = (d.name, type_of types d.type) ∷ declared_fields types decls

pub types_same : (types : ℕ → Option PlainType) (decls : List DeclTree) → types_declared (declared_fields types decls) ≡ declared types decls
types_same types [] = refl
types_same types (d ∷ decls) = ap (λ (As : PlainTypes). PlainTypes.and_type (PlainType.field d.name (type_of types d.type)) As) (types_same types decls)

all_back : (types : ℕ → Option PlainType) (decls : List DeclTree) → fields_of_all (declared types decls) ≡ declared_fields types decls
all_back types [] = refl
all_back types (d ∷ decls) = ap (λ l. (d.name, type_of types d.type) ∷ l) (all_back types decls)

pub fields_back : (types : ℕ → Option PlainType) (decls : List DeclTree) → decls ≢ [] → fields_of (meet_of (declared types decls)) ≡ declared_fields types decls
fields_back types [] some = absurd (some refl)
fields_back types (d ∷ []) some = refl
fields_back types (d ∷ e ∷ decls) some = all_back types (d ∷ e ∷ decls)

-- those of the first list are among the fields
abbrev pub AreDeclaredIn : List DeclTree → List (ℕ × PlainType) → Type 0
AreDeclaredIn [] gs = Unit {0}
AreDeclaredIn (d ∷ decls) gs = IsAmong d.name gs × AreDeclaredIn decls gs

more_declared : (decls : List DeclTree) (g : ℕ × PlainType) (gs : List (ℕ × PlainType)) → AreDeclaredIn decls gs → AreDeclaredIn decls (g ∷ gs)
more_declared [] g gs h = tt
more_declared (d ∷ decls) g gs h = (inr h.0, more_declared decls g gs h.1)

pub all_declared : (types : ℕ → Option PlainType) (decls : List DeclTree) → AreDeclaredIn decls (declared_fields types decls)
all_declared types [] = tt
all_declared types (d ∷ decls) = (inl refl, more_declared decls (d.name, type_of types d.type) (declared_fields types decls) (all_declared types decls))

members_fit : (ks : List Kind) (s t : Scope) (gs : List (ℕ × PlainType)) (decls : List DeclTree) → AreDeclaredIn decls gs → Fit ks s t → (more : List Kind) (n : ℕ) (at : Place) →
    is_none (with_members t.depth decls t.phrases n) ≡ false → IsFormed (more ++ record_of gs ∷ ks) (used (length more + suc s.depth) n at (with_members s.depth decls s.phrases n))
members_fit ks s t gs [] sub fit more n at h = fit_behind ks s t (record_of gs) fit more n at h
members_fit ks s t gs (d ∷ decls) sub fit more n at h = by (members_fit ks s t gs decls sub.1 fit more n at) (n == d.name) refl
  where
    far : length more + suc s.depth - s.depth - 1 ≡ length more
    far = omega arith

    kind : kind_at (more ++ record_of gs ∷ ks) (length more + suc s.depth - s.depth - 1) ≡ Some (record_of gs)
    kind = ap (λ j. kind_at (more ++ record_of gs ∷ ks) j) far ∙ kind_after more (record_of gs) ks

    by : (is_none (with_members t.depth decls t.phrases n) ≡ false → IsFormed (more ++ record_of gs ∷ ks) (used (length more + suc s.depth) n at (with_members s.depth decls s.phrases n))) →
        (b : Bool) → (n == d.name) ≡ b → IsFormed (more ++ record_of gs ∷ ks) (used (length more + suc s.depth) n at (with_members s.depth (d ∷ decls) s.phrases n))
    by rest true e =
        subst (λ o. IsFormed (more ++ record_of gs ∷ ks) (used (length more + suc s.depth) n at o)) (sym (with_same d.name _ (with_members s.depth decls s.phrases) n e))
        (subst (λ o. Selects n (fields_at o) (IsVariable (kind_at (more ++ record_of gs ∷ ks) (length more + suc s.depth - s.depth - 1)))) (sym kind)
        (subst (λ j. IsAmong j gs) (sym (eqb-true n d.name e)) sub.0))
    by rest false e =
        subst (λ o. IsFormed (more ++ record_of gs ∷ ks) (used (length more + suc s.depth) n at o)) (sym (with_other d.name _ (with_members s.depth decls s.phrases) n e))
        (rest (sym (ap (λ o. is_none o) (with_other d.name _ (with_members t.depth decls t.phrases) n e)) ∙ h))

pub fit_members : (ks : List Kind) (s t : Scope) (gs : List (ℕ × PlainType)) (decls : List DeclTree) → AreDeclaredIn decls gs → Fit ks s t →
    Fit (record_of gs ∷ ks) (under_members decls s) (under_members decls t)
fit_members ks s t gs decls sub fit = λ more n at h. members_fit ks s t gs decls sub fit more n at h
