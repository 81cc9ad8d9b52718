-- One step down a tree that is shown.
use Rattle.std.proofs.Common.{ℕ, ◌+◌, ◌-◌, ◌<◌, ◌≤◌, ◌≡◌, ◌≢◌, ◌==◌, Bool, true, false, if◌then◌else◌, List, [], ◌∷◌, ◌++◌, append_assoc, length, get_or, map, drop, Option, Some, None, Box, Global, codes, refl, sym, ap, ◌∙◌, eq-eqb, arith}
use Rattle.std.specs.Prelude.{OnOk, Result, replicate}
use Rattle.std.proofs.lemmas.List.{append-nil}
use Rattle.std.proofs.lemmas.Result.{on_ok_weaker}
use Rattle.fy_base.specs.Outside.{Bytes}
use Rattle.fy_types.specs.Types.{PlainType}
use Rattle.fy_types.proofs.Steps.{drop_end, drop_item}
use Rattle.fy_phrase.specs.declared.premise.Premise.{Premise as PremiseValue}
use Rattle.fy_phrase.specs.Premises.{plain_binder, premise_shown}
use Rattle.fy_phrase.specs.Reads.{reads}
use Rattle.fy_phrase.specs.Tree.{Tree}
use Rattle.fy_derive.specs.declared.derivation.Derivation as form
use Rattle.fy_derive.specs.declared.derivation.Derivation.{Derivation}
use Rattle.fy_derive.specs.declared.derivation.DerivationList.{DerivationList}
use Rattle.fy_derive.specs.Derivations.{PlainDerivation, PlainDerivations, by_ns, sub, meets, alt, left, right, rule, no_derivations, and_derivation, count, nodes}
use Rattle.fy_derive.specs.Judging.{judged, alternative, operands, under}
use Rattle.fy_derive.specs.Kinds.{Kind}
use Rattle.fy_derive.specs.Reading.{plain_derivation, plain_derivations, derivations_from}
use Rattle.fy_derive.specs.Rules.{Premise, nothing, given, premises, same_type}
use Rattle.fy_derive.specs.Tables.{type_at}
use Rattle.fy_derive.proofs.RuleLemmas.{eqb_apart}
use Rattle.fy_reasons.proofs.WalkLemmas.{Meet-derivation, Alt-derivation, Left-derivation, Right-derivation, Rule-derivation}
use Rattle.fy_show.specs.Entries.{Scope, Known}
use Rattle.fy_show.specs.Fresh.{bound}
use Rattle.fy_told.specs.ReasonTexts.{is_bound, type_told, variable_text, whole_premises}
use Rattle.fy_short.specs.Cut.{cut}
use Rattle.fy_tree.specs.Annotated.{Annotated, AnnotatedList, Spot, no_annotated, and_annotated, concluded, spot_at, at_premise, beneath, if_form, if_premises, shown_of, each_shown, below_of, conclusion_of}
use Rattle.fy_tree.specs.Lines.{Look, sought, lines, above_part, above_premises, each_lines, raised_lines, parted, opening, closing, cut_off, inside, first_line, last_line, node_rule}
use Rattle.fy_tree.specs.Reading.{raised_part}
use Rattle.fy_tree.specs.declared.style.Form.{Form}
use Rattle.fy_tree.specs.declared.style.Form.TheVariants.{Plain, Latex}
use Rattle.fy_tree.proofs.ShownLemmas.{root-conclusion}

-- what is put is the text that is due
pub put-as : {X E : Type 0} (r : Result X E) (V T x y : Bytes) → OnOk r (V ≡ T ++ x) → x ≡ y → OnOk r (V ≡ T ++ y)
put-as r V T x y o e = on_ok_weaker r (λ (v : V ≡ T ++ x). v ∙ ap (λ (z : Bytes). T ++ z) e) o

-- ---- a node

pub some-same : (d e : PlainDerivation) → Some d ≡ Some e → d ≡ e
some-same d e i = cc

raised-at : (look : Look) (k : Known) (seek : Option ℕ) (lead : Bytes) (more : ℕ) (above : Bytes) (d e : PlainDerivation) (n : ℕ) (G : List PlainType) (s : Scope) (added : Bytes) (p : Tree) → raised_part d ≡ Some e
    → above_part look (sought n seek) lead more above (spot_at d n G s added p) (shown_of k e (n + 1) G s added p) ≡ lines look seek lead more above (shown_of k d n G s added p)
raised-at look k seek lead more above by_ns e n G s added p i = absurd cc
raised-at look k seek lead more above (sub B d) e n G s added p i =
    ap (λ (x : PlainDerivation). above_part look (sought n seek) lead more above (spot_at (sub B d) n G s added p) (shown_of k x (n + 1) G s added p)) (sym (some-same d e i))
raised-at look k seek lead more above (meets ds) e n G s added p i = absurd cc
raised-at look k seek lead more above (alt j d) e n G s added p i = absurd cc
raised-at look k seek lead more above (left d) e n G s added p i = absurd cc
raised-at look k seek lead more above (right d) e n G s added p i = absurd cc
raised-at look k seek lead more above (rule ds) e n G s added p i = absurd cc

own-at : (look : Look) (k : Known) (seek : Option ℕ) (lead : Bytes) (more : ℕ) (above : Bytes) (d : PlainDerivation) (n : ℕ) (G : List PlainType) (s : Scope) (added : Bytes) (p : Tree) → raised_part d ≡ None
    → above_premises look (sought n seek) lead more above (spot_at d n G s added p) (below_of (shown_of k d n G s added p))
    ≡ lines look seek lead more above (shown_of k d n G s added p)
own-at look k seek lead more above by_ns n G s added p i = refl
own-at look k seek lead more above (sub B d) n G s added p i = absurd cc
own-at look k seek lead more above (meets ds) n G s added p i = refl
own-at look k seek lead more above (alt j d) n G s added p i = refl
own-at look k seek lead more above (left d) n G s added p i = refl
own-at look k seek lead more above (right d) n G s added p i = refl
own-at look k seek lead more above (rule ds) n G s added p i = refl

pub raised-tree : (look : Look) (k : Known) (seek here : Option ℕ) (lead : Bytes) (more : ℕ) (above : Bytes) (d e : PlainDerivation) (n : ℕ) (G : List PlainType) (s : Scope) (added : Bytes) (p : Tree) (A : PlainType)
    → here ≡ sought n seek → A ≡ concluded (judged d n G p) → raised_part d ≡ Some e
    → above_part look here lead more above (record { number = n; node = d; scope = s; phrase = p; added = added; conclusion = A }) (shown_of k e (n + 1) G s added p)
    ≡ lines look seek lead more above (shown_of k d n G s added p)
raised-tree look k seek here lead more above d e n G s added p A h a i =
    ap (λ (x : Option ℕ). above_part look x lead more above (record { number = n; node = d; scope = s; phrase = p; added = added; conclusion = A }) (shown_of k e (n + 1) G s added p)) h
    ∙ (ap (λ (B : PlainType). above_part look (sought n seek) lead more above (record { number = n; node = d; scope = s; phrase = p; added = added; conclusion = B }) (shown_of k e (n + 1) G s added p)) a
    ∙ raised-at look k seek lead more above d e n G s added p i)

pub own-tree : (look : Look) (k : Known) (seek here : Option ℕ) (lead : Bytes) (more : ℕ) (above : Bytes) (d : PlainDerivation) (n : ℕ) (G : List PlainType) (s : Scope) (added : Bytes) (p : Tree) (A : PlainType)
    → here ≡ sought n seek → A ≡ concluded (judged d n G p) → raised_part d ≡ None
    → above_premises look here lead more above (record { number = n; node = d; scope = s; phrase = p; added = added; conclusion = A }) (below_of (shown_of k d n G s added p))
    ≡ lines look seek lead more above (shown_of k d n G s added p)
own-tree look k seek here lead more above d n G s added p A h a i =
    ap (λ (x : Option ℕ). above_premises look x lead more above (record { number = n; node = d; scope = s; phrase = p; added = added; conclusion = A }) (below_of (shown_of k d n G s added p))) h
    ∙ (ap (λ (B : PlainType). above_premises look (sought n seek) lead more above (record { number = n; node = d; scope = s; phrase = p; added = added; conclusion = B }) (below_of (shown_of k d n G s added p))) a
    ∙ own-at look k seek lead more above d n G s added p i)

-- ---- a subsumption

pub raised-sought : (look : Look) (seek : Option ℕ) (m : ℕ) (lead : Bytes) (more : ℕ) (above : Bytes) (r : Spot) (a : Annotated) → seek ≡ Some m → lines look seek lead more [] a ≡ above_part look seek lead more above r a
raised-sought look None m lead more above r a e = absurd cc
raised-sought look (Some x) m lead more above r a e = refl

-- one to the type that the part has already
pub raised-same : (look : Look) (seek : Option ℕ) (lead : Bytes) (more : ℕ) (above : Bytes) (r : Spot) (a : Annotated) → seek ≡ None → same_type r.conclusion (conclusion_of a) ≡ true
    → lines look seek lead more above a ≡ above_part look seek lead more above r a
raised-same look None lead more above r a e s =
    sym (ap (λ (b : Bool). if b then lines look None lead more above a else raised_lines look look.form lead above r (λ inner behind. lines look None inner more behind a)) s)
raised-same look (Some x) lead more above r a e s = absurd cc

-- one to another type
pub raised-other : (look : Look) (seek : Option ℕ) (lead : Bytes) (more : ℕ) (above : Bytes) (r : Spot) (a : Annotated) → seek ≡ None → same_type r.conclusion (conclusion_of a) ≡ false
    → raised_lines look look.form lead above r (λ inner behind. lines look None inner more behind a) ≡ above_part look seek lead more above r a
raised-other look None lead more above r a e s =
    sym (ap (λ (b : Bool). if b then lines look None lead more above a else raised_lines look look.form lead above r (λ inner behind. lines look None inner more behind a)) s)
raised-other look (Some x) lead more above r a e s = absurd cc

-- ---- another node

pub own-sought : (look : Look) (seek : Option ℕ) (m : ℕ) (lead : Bytes) (more : ℕ) (above : Bytes) (r : Spot) (below : AnnotatedList) → seek ≡ Some m
    → each_lines look seek lead more [] below ≡ above_premises look seek lead more above r below
own-sought look None m lead more above r below e = absurd cc
own-sought look (Some x) m lead more above r below e = refl

pub own-shown : (look : Look) (seek : Option ℕ) (lead : Bytes) (more : ℕ) (above : Bytes) (r : Spot) (below : AnnotatedList) → seek ≡ None
    → opening look look.form lead above r
    ++ (if more == 0 then cut_off look.form (inside lead) r.number r.node else each_lines look None (inside lead) (more - 1) [] below)
    ++ closing look look.form lead r
    ≡ above_premises look seek lead more above r below
own-shown look None lead more above r below e = refl
own-shown look (Some x) lead more above r below e = absurd cc

-- ---- its premises

pub meet-below : (k : Known) (d : Derivation) (list : DerivationList) (n m : ℕ) (G : List PlainType) (s : Scope) (added : Bytes) (p : Tree) (Ps : List Premise) → d ≡ form.Meet list
    → m ≡ count (plain_derivations list) → Ps ≡ replicate m (nothing, p)
    → each_shown k (plain_derivations list) (n + 1) G s p Ps [] ≡ below_of (shown_of k (plain_derivation d) n G s added p)
meet-below k d list n m G s added p Ps e c r =
    ap (λ Qs. each_shown k (plain_derivations list) (n + 1) G s p Qs []) (r ∙ ap (λ i. whole_premises i p) c)
    ∙ sym (ap (λ D. below_of (shown_of k D n G s added p)) (Meet-derivation d list e))

pub alt-below : (k : Known) (d : Derivation) (i : ℕ) (b : Box Derivation Global) (n : ℕ) (G : List PlainType) (s : Scope) (added : Bytes) (p q : Tree) (A : PlainType) → d ≡ form.Alt i b
    → Some (A, q) ≡ alternative i p
    → and_annotated (at_premise k G s p [] (given A, q) (shown_of k (plain_derivation b.value) (n + 1))) no_annotated ≡ below_of (shown_of k (plain_derivation d) n G s added p)
alt-below k d i b n G s added p q A e o =
    ap (λ x. if_form x (λ y. at_premise k G s p [] (given y.0, y.1) (shown_of k (plain_derivation b.value) (n + 1)))) o
    ∙ sym (ap (λ D. below_of (shown_of k D n G s added p)) (Alt-derivation d i b e))

pub alt-none : (k : Known) (d : Derivation) (i : ℕ) (b : Box Derivation Global) (n : ℕ) (G : List PlainType) (s : Scope) (added : Bytes) (p : Tree) → d ≡ form.Alt i b
    → None ≡ alternative i p → no_annotated ≡ below_of (shown_of k (plain_derivation d) n G s added p)
alt-none k d i b n G s added p e o =
    ap (λ x. if_form x (λ y. at_premise k G s p [] (given y.0, y.1) (shown_of k (plain_derivation b.value) (n + 1)))) o
    ∙ sym (ap (λ D. below_of (shown_of k D n G s added p)) (Alt-derivation d i b e))

pub left-below : (k : Known) (d : Derivation) (b : Box Derivation Global) (n : ℕ) (G : List PlainType) (s : Scope) (added : Bytes) (p q r : Tree) (x : Kind) → d ≡ form.Left b
    → Some (q, r, x) ≡ operands p
    → and_annotated (at_premise k G s p [] (nothing, q) (shown_of k (plain_derivation b.value) (n + 1))) no_annotated ≡ below_of (shown_of k (plain_derivation d) n G s added p)
left-below k d b n G s added p q r x e o =
    ap (λ y. if_form y (λ z. at_premise k G s p [] (nothing, z.0) (shown_of k (plain_derivation b.value) (n + 1)))) o
    ∙ sym (ap (λ D. below_of (shown_of k D n G s added p)) (Left-derivation d b e))

pub left-none : (k : Known) (d : Derivation) (b : Box Derivation Global) (n : ℕ) (G : List PlainType) (s : Scope) (added : Bytes) (p : Tree) → d ≡ form.Left b
    → None ≡ operands p → no_annotated ≡ below_of (shown_of k (plain_derivation d) n G s added p)
left-none k d b n G s added p e o =
    ap (λ y. if_form y (λ z. at_premise k G s p [] (nothing, z.0) (shown_of k (plain_derivation b.value) (n + 1)))) o
    ∙ sym (ap (λ D. below_of (shown_of k D n G s added p)) (Left-derivation d b e))

pub right-below : (k : Known) (d : Derivation) (b : Box Derivation Global) (n : ℕ) (G : List PlainType) (s : Scope) (added : Bytes) (p q r : Tree) (x : Kind) → d ≡ form.Right b
    → Some (q, r, x) ≡ operands p
    → and_annotated (at_premise k G s p [] (nothing, r) (shown_of k (plain_derivation b.value) (n + 1))) no_annotated ≡ below_of (shown_of k (plain_derivation d) n G s added p)
right-below k d b n G s added p q r x e o =
    ap (λ y. if_form y (λ z. at_premise k G s p [] (nothing, z.1) (shown_of k (plain_derivation b.value) (n + 1)))) o
    ∙ sym (ap (λ D. below_of (shown_of k D n G s added p)) (Right-derivation d b e))

pub right-none : (k : Known) (d : Derivation) (b : Box Derivation Global) (n : ℕ) (G : List PlainType) (s : Scope) (added : Bytes) (p : Tree) → d ≡ form.Right b
    → None ≡ operands p → no_annotated ≡ below_of (shown_of k (plain_derivation d) n G s added p)
right-none k d b n G s added p e o =
    ap (λ y. if_form y (λ z. at_premise k G s p [] (nothing, z.1) (shown_of k (plain_derivation b.value) (n + 1)))) o
    ∙ sym (ap (λ D. below_of (shown_of k D n G s added p)) (Right-derivation d b e))

pub rule-below : (k : Known) (d : Derivation) (list : DerivationList) (n : ℕ) (G : List PlainType) (s : Scope) (added : Bytes) (p : Tree) (Ps : List Premise) → d ≡ form.Rule list
    → Some Ps ≡ premises p → count (plain_derivations list) ≡ length Ps
    → each_shown k (plain_derivations list) (n + 1) G s p Ps [] ≡ below_of (shown_of k (plain_derivation d) n G s added p)
rule-below k d list n G s added p Ps e o c =
    sym (ap (λ (b : Bool). if b then each_shown k (plain_derivations list) (n + 1) G s p Ps [] else no_annotated) (eq-eqb (count (plain_derivations list)) (length Ps) c))
    ∙ (ap (λ x. if_premises (count (plain_derivations list)) x (λ Qs. each_shown k (plain_derivations list) (n + 1) G s p Qs [])) o
    ∙ sym (ap (λ D. below_of (shown_of k D n G s added p)) (Rule-derivation d list e)))

pub rule-unfit : (k : Known) (d : Derivation) (list : DerivationList) (n : ℕ) (G : List PlainType) (s : Scope) (added : Bytes) (p : Tree) (Ps : List Premise) → d ≡ form.Rule list
    → Some Ps ≡ premises p → count (plain_derivations list) ≢ length Ps → no_annotated ≡ below_of (shown_of k (plain_derivation d) n G s added p)
rule-unfit k d list n G s added p Ps e o c =
    sym (ap (λ (b : Bool). if b then each_shown k (plain_derivations list) (n + 1) G s p Ps [] else no_annotated) (eqb_apart (count (plain_derivations list)) (length Ps) (λ i. c (sym i))))
    ∙ (ap (λ x. if_premises (count (plain_derivations list)) x (λ Qs. each_shown k (plain_derivations list) (n + 1) G s p Qs [])) o
    ∙ sym (ap (λ D. below_of (shown_of k D n G s added p)) (Rule-derivation d list e)))

pub rule-none : (k : Known) (d : Derivation) (list : DerivationList) (n : ℕ) (G : List PlainType) (s : Scope) (added : Bytes) (p : Tree) → d ≡ form.Rule list
    → None ≡ premises p → no_annotated ≡ below_of (shown_of k (plain_derivation d) n G s added p)
rule-none k d list n G s added p e o =
    ap (λ x. if_premises (count (plain_derivations list)) x (λ Qs. each_shown k (plain_derivations list) (n + 1) G s p Qs [])) o
    ∙ sym (ap (λ D. below_of (shown_of k D n G s added p)) (Rule-derivation d list e))

-- nothing is put where there is no premise
pub nothing-below : (look : Look) (seek : Option ℕ) (lead : Bytes) (more : ℕ) (T : Bytes) (below : AnnotatedList) → no_annotated ≡ below → T ≡ T ++ each_lines look seek lead more [] below
nothing-below look seek lead more T below e = sym (append-nil T) ∙ ap (λ x. T ++ each_lines look seek lead more [] x) e

-- the one premise
pub only-lines : (look : Look) (seek : Option ℕ) (lead : Bytes) (more : ℕ) (a : Annotated) → lines look seek lead more [] a ≡ each_lines look seek lead more [] (and_annotated a no_annotated)
only-lines look seek lead more a = sym (append-nil (lines look seek lead more [] a))

-- ---- one premise after another

pub each-shown-step : (k : Known) (xs : List Derivation) (Ps : List PremiseValue) (i n : ℕ) (x : Derivation) (P : PremiseValue) (G : List PlainType) (s : Scope) (p : Tree) (As : List PlainType)
    → i < length xs → x ≡ get_or xs i x → i < length Ps → P ≡ get_or Ps i P
    → each_shown k (derivations_from (map plain_derivation (drop i xs))) n G s p (map premise_shown (drop i Ps)) As
    ≡ and_annotated (at_premise k G s p As (premise_shown P) (shown_of k (plain_derivation x) n))
    (each_shown k (derivations_from (map plain_derivation (drop (i + 1) xs))) (n + nodes (plain_derivation x)) G s p (map premise_shown (drop (i + 1) Ps))
    (As ++ concluded (judged (plain_derivation x) n (under (plain_binder P.binds) As G) (reads P.part.now)) ∷ []))
each-shown-step k xs Ps i n x P G s p As h e l f =
    ap (λ ds. each_shown k (derivations_from ds) n G s p (map premise_shown (drop i Ps)) As) (drop_item plain_derivation xs i x h e)
    ∙ ap (λ Qs. each_shown k (derivations_from (plain_derivation x ∷ map plain_derivation (drop (i + 1) xs))) n G s p Qs As) (drop_item premise_shown Ps i P l f)

pub each-shown-end : (k : Known) (xs : List Derivation) (i n : ℕ) (G : List PlainType) (s : Scope) (p : Tree) (Ps : List Premise) (As : List PlainType) → length xs ≤ i
    → each_shown k (derivations_from (map plain_derivation (drop i xs))) n G s p Ps As ≡ no_annotated
each-shown-end k xs i n G s p Ps As h = ap (λ ds. each_shown k (derivations_from ds) n G s p Ps As) (drop_end plain_derivation xs i h)

-- the lines of one more premise
pub each-put : (look : Look) (seek : Option ℕ) (lead : Bytes) (more : ℕ) (T U V before parting : Bytes) (a : Annotated) (rest : AnnotatedList)
    → U ≡ T ++ before → V ≡ U ++ lines look seek lead more [] a → parting ≡ parted look seek lead
    → V ++ each_lines look seek lead more parting rest ≡ T ++ each_lines look seek lead more before (and_annotated a rest)
each-put look seek lead more T U V before parting a rest u v w =
    ap (λ x. x ++ each_lines look seek lead more parting rest) (v ∙ ap (λ x. x ++ lines look seek lead more [] a) u)
    ∙ (ap (λ x. ((T ++ before) ++ lines look seek lead more [] a) ++ each_lines look seek lead more x rest) w
    ∙ (ap (λ x. x ++ each_lines look seek lead more (parted look seek lead) rest) (append_assoc T before (lines look seek lead more [] a))
    ∙ append_assoc T (before ++ lines look seek lead more [] a) (each_lines look seek lead more (parted look seek lead) rest)))

-- ---- a premise

pub plain-beneath : (look : Look) (seek : Option ℕ) (lead : Bytes) (more : ℕ) (k : Known) (H : List PlainType) (s : Scope) (p : Tree) (P : Premise) (d : PlainDerivation) (n : ℕ)
    → is_bound P.0 ≡ false → lines look seek lead more [] (shown_of k d n H s [] P.1) ≡ lines look seek lead more [] (beneath k H s p P (shown_of k d n))
plain-beneath look seek lead more k H s p P d n b =
    sym (ap (λ (c : Bool). lines look seek lead more [] (shown_of k d n H (if c then bound k s p ∷ s else s) (if c then cut 60 (variable_text k (bound k s p) (type_at H 0)) else []) P.1)) b)

pub bound-beneath : (form : Form) (width : ℕ) (seek : Option ℕ) (lead : Bytes) (more : ℕ) (k l : Known) (H : List PlainType) (s z : Scope) (added : Bytes) (p : Tree) (P : Premise) (d : PlainDerivation) (n : ℕ)
    → l ≡ k → z ≡ bound k s p ∷ s → added ≡ cut 60 (variable_text k (bound k s p) (type_at H 0)) → is_bound P.0 ≡ true
    → lines (record { known = l; form = form; width = width }) seek lead more [] (shown_of l d n H z added P.1)
    ≡ lines (record { known = k; form = form; width = width }) seek lead more [] (beneath k H s p P (shown_of k d n))
bound-beneath form width seek lead more k l H s z added p P d n e f g b =
    ap (λ (x : Known). lines (record { known = x; form = form; width = width }) seek lead more [] (shown_of x d n H z added P.1)) e
    ∙ (ap (λ (x : Scope). lines (record { known = k; form = form; width = width }) seek lead more [] (shown_of k d n H x added P.1)) f
    ∙ (ap (λ (x : Bytes). lines (record { known = k; form = form; width = width }) seek lead more [] (shown_of k d n H (bound k s p ∷ s) x P.1)) g
    ∙ sym (ap (λ (c : Bool). lines (record { known = k; form = form; width = width }) seek lead more []
    (shown_of k d n H (if c then bound k s p ∷ s else s) (if c then cut 60 (variable_text k (bound k s p) (type_at H 0)) else []) P.1)) b)))

-- the types in scope are those of the premise
pub premise-beneath : (look : Look) (seek : Option ℕ) (lead : Bytes) (more : ℕ) (k : Known) (G H : List PlainType) (s : Scope) (p : Tree) (As : List PlainType) (P : Premise) (d : PlainDerivation) (n : ℕ)
    → H ≡ under P.0 As G → lines look seek lead more [] (beneath k H s p P (shown_of k d n)) ≡ lines look seek lead more [] (at_premise k G s p As P (shown_of k d n))
premise-beneath look seek lead more k G H s p As P d n h = ap (λ (x : List PlainType). lines look seek lead more [] (beneath k x s p P (shown_of k d n))) h

-- ---- pieces

pub three-put : {X E : Type 0} (r : Result X E) (T U V W a b c : Bytes) → U ≡ T ++ a → V ≡ U ++ b → OnOk r (W ≡ V ++ c) → OnOk r (W ≡ T ++ (a ++ b ++ c))
three-put r T U V W a b c u v o =
    on_ok_weaker r
    (λ (w : W ≡ V ++ c).
    w ∙ (ap (λ (x : Bytes). x ++ c) (v ∙ ap (λ (x : Bytes). x ++ b) u)
    ∙ (ap (λ (x : Bytes). x ++ c) (append_assoc T a b) ∙ append_assoc T (a ++ b) c)))
    o

pub other-plain : (look : Look) (seek : Option ℕ) (lead : Bytes) (more : ℕ) (above behind : Bytes) (r : Spot) (a : Annotated) → look.form ≡ Plain → seek ≡ None → behind ≡ codes " <= " ++ type_told look.known r.conclusion ++ above
    → lines look seek lead more behind a ≡ raised_lines look look.form lead above r (λ inner b. lines look None inner more b a)
other-plain look seek lead more above behind r a f e b =
    ap (λ (x : Option ℕ). lines look x lead more behind a) e
    ∙ (ap (λ (x : Bytes). lines look None lead more x a) b
    ∙ sym (ap (λ (x : Form). raised_lines look x lead above r (λ inner b. lines look None inner more b a)) f))

pub other-latex : (look : Look) (lead : Bytes) (more : ℕ) (above : Bytes) (r : Spot) (a : Annotated) → look.form ≡ Latex
    → first_line lead (node_rule r.node r.phrase) ++ lines look None (inside lead) more [] a ++ last_line look.known lead r ≡ raised_lines look look.form lead above r (λ inner b. lines look None inner more b a)
other-latex look lead more above r a f = sym (ap (λ (x : Form). raised_lines look x lead above r (λ inner b. lines look None inner more b a)) f)

-- one step of the loop over premises
pub each-next : (look : Look) (seek : Option ℕ) (lead : Bytes) (more : ℕ) (k : Known) (xs : List Derivation) (Ps : List PremiseValue) (i n m : ℕ) (x : Derivation) (P : PremiseValue) (G : List PlainType) (s : Scope) (p : Tree)
    (As Bs : List PlainType) (A : PlainType) (T U V before parting I : Bytes)
    → i < length xs → x ≡ get_or xs i x → i < length Ps → P ≡ get_or Ps i P
    → m ≡ n + nodes (plain_derivation x) → Bs ≡ As ++ A ∷ [] → A ≡ concluded (judged (plain_derivation x) n (under (plain_binder P.binds) As G) (reads P.part.now))
    → U ≡ T ++ before → V ≡ U ++ lines look seek lead more [] (at_premise k G s p As (premise_shown P) (shown_of k (plain_derivation x) n)) → parting ≡ parted look seek lead
    → T ++ each_lines look seek lead more before (each_shown k (derivations_from (map plain_derivation (drop i xs))) n G s p (map premise_shown (drop i Ps)) As) ≡ I
    → V ++ each_lines look seek lead more parting (each_shown k (derivations_from (map plain_derivation (drop (i + 1) xs))) m G s p (map premise_shown (drop (i + 1) Ps)) Bs) ≡ I
each-next look seek lead more k xs Ps i n m x P G s p As Bs A T U V before parting I h e l f em eb ea u v w inv =
    let rest : ℕ → List PlainType → AnnotatedList = λ j Cs. each_shown k (derivations_from (map plain_derivation (drop (i + 1) xs))) j G s p (map premise_shown (drop (i + 1) Ps)) Cs in
    let B : PlainType = concluded (judged (plain_derivation x) n (under (plain_binder P.binds) As G) (reads P.part.now)) in
    let same : rest m Bs ≡ rest (n + nodes (plain_derivation x)) (As ++ B ∷ []) =
    ap (λ j. rest j Bs) em ∙ (ap (rest (n + nodes (plain_derivation x))) eb ∙ ap (λ C. rest (n + nodes (plain_derivation x)) (As ++ C ∷ [])) ea) in
    ap (λ y. V ++ each_lines look seek lead more parting y) same
    ∙ (each-put look seek lead more T U V before parting (at_premise k G s p As (premise_shown P) (shown_of k (plain_derivation x) n)) (rest (n + nodes (plain_derivation x)) (As ++ B ∷ [])) u v w
    ∙ (ap (λ y. T ++ each_lines look seek lead more before y) (sym (each-shown-step k xs Ps i n x P G s p As h e l f)) ∙ inv))

-- the nodes below a subsumption
pub part-nodes : (d e : PlainDerivation) → raised_part d ≡ Some e → nodes d ≡ nodes e + 1
part-nodes by_ns e i = absurd cc
part-nodes (sub B d) e i = omega (arith, ap nodes (some-same d e i))
part-nodes (meets ds) e i = absurd cc
part-nodes (alt j d) e i = absurd cc
part-nodes (left d) e i = absurd cc
part-nodes (right d) e i = absurd cc
part-nodes (rule ds) e i = absurd cc

-- ---- what stands for premises

pub inside-cut : (more : ℕ) (x y : Bytes) → more ≡ 0 → x ≡ (if more == 0 then x else y)
inside-cut more x y h = sym (ap (λ (b : Bool). if b then x else y) (eq-eqb more 0 h))

pub inside-more : (more : ℕ) (x y : Bytes) → more ≢ 0 → y ≡ (if more == 0 then x else y)
inside-more more x y h = sym (ap (λ (b : Bool). if b then x else y) (eqb_apart more 0 (λ e. h (sym e))))

pub two-put : {X E : Type 0} (r : Result X E) (T U V a b : Bytes) → U ≡ T ++ a → OnOk r (V ≡ U ++ b) → OnOk r (V ≡ T ++ (a ++ b))
two-put r T U V a b u o = on_ok_weaker r (λ (v : V ≡ U ++ b). v ∙ (ap (λ (x : Bytes). x ++ b) u ∙ append_assoc T a b)) o

pub four-put : {X E : Type 0} (r : Result X E) (T U V W Y a b c d : Bytes) → U ≡ T ++ a → V ≡ U ++ b → W ≡ V ++ c → OnOk r (Y ≡ W ++ d) → OnOk r (Y ≡ T ++ (a ++ b ++ c ++ d))
four-put r T U V W Y a b c d u v w o = three-put r T V W Y (a ++ b) c d (v ∙ (ap (λ (x : Bytes). x ++ b) u ∙ append_assoc T a b)) w o
