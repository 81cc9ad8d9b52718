-- One step down to the node at which judging stops, in numbers.
use Rattle.std.proofs.Common.{ℕ, zero, suc, ◌+◌, ◌<◌, ◌≡◌, ◌≢◌, List, [], ◌∷◌, ◌++◌, length, get_or, map, drop, Some, None, Box, Global, refl, sym, ap, ◌∙◌, arith}
use Rattle.std.specs.Prelude.{Bool, true, false, if◌then◌else◌, nat_le, replicate}
use Rattle.fy_types.specs.declared.types.Ty.{Ty}
use Rattle.fy_types.specs.declared.types.Atom.TheVariants.{Comm}
use Rattle.fy_types.specs.Types.{PlainType, atom}
use Rattle.fy_types.specs.Reading.{plain_type}
use Rattle.fy_types.proofs.Steps.{drop_item}
use Rattle.fy_phrase.specs.Tree.{Tree}
use Rattle.fy_phrase.specs.Reads.{reads}
use Rattle.fy_derive.specs.declared.derivation.Derivation as form
use Rattle.fy_derive.specs.declared.derivation.Derivation.{Derivation, Derivation-F, fold-roll-Derivation, size-Derivation}
use Rattle.fy_derive.specs.declared.derivation.Derivation.TheVariants.{rolls-Sub, rolls-Meet, rolls-Left, rolls-Right}
use Rattle.fy_derive.specs.declared.derivation.DerivationList.{DerivationList, size-DerivationList}
use Rattle.fy_derive.specs.declared.table.TypeTable.{TypeTable}
use Rattle.fy_phrase.specs.declared.premise.Premise.{Premise}
use Rattle.fy_phrase.specs.Premises.{plain_binder, premise_shown}
use Rattle.fy_derive.specs.Derivations.{PlainDerivation, PlainDerivations, sub, meets, alt, left, right, rule, count, nodes, all_nodes}
use Rattle.fy_derive.specs.Reading.{plain_derivation, plain_derivations, derivation_step, derivations_step, derivations_from}
use Rattle.fy_derive.specs.Shown.{total, shown, all_shown, Extends, AreIn}
use Rattle.fy_derive.specs.Kinds.{Kind}
use Rattle.fy_derive.specs.Rules.{nothing, premises, same_type}
use Rattle.fy_derive.specs.Rules.{Premise as PlainPremise}
use Rattle.fy_derive.specs.Judging.{concludes, stops, all_conclude, one_stops, judged, each_judged, alternative, operands, under}
use Rattle.fy_derive.proofs.Standings.{all_shown-kept}
pub use Rattle.fy_derive.proofs.StepLemmas.{Alt-derivation, Rule-derivation}
use Rattle.fy_reasons.specs.Reasons.{Reason, Stop, stop_at, no_alternative_of, other_form, other_count, few_parts, not_below, taken_right, other_types, no_command, judged_so, each_so, refused_whole, reason_of}
use Rattle.fy_reasons.specs.Reasons as so
use Rattle.fy_reasons.specs.declared.reasons.Why.{Why}
use Rattle.fy_reasons.specs.declared.reasons.Stopped.{Stopped}
use Rattle.fy_reasons.specs.Stopping.{why_read, stop_read}
use Rattle.fy_reasons.proofs.StopLemmas.{so-concludes, sub-inner, meets-inner, alt-inner, left-inner, right-inner, rule-inner, sub-so, meets-so, alt-so, left-so, right-so, rule-so, sub-own, meets-own, alt-own, left-none, left-own, right-own, rule-none, rule-count, rule-own}

pub Sub-derivation : (d : Derivation) (T : Ty) (b : Box Derivation Global) → d ≡ form.Sub T b → plain_derivation d ≡ sub (plain_type T) (plain_derivation b.value)
Sub-derivation d T b e = rw e (ap plain_derivation (sym (rolls-Sub T b)) ∙ fold-roll-Derivation PlainDerivation PlainDerivations derivation_step derivations_step (Derivation-F.Sub T b))

pub Meet-derivation : (d : Derivation) (list : DerivationList) → d ≡ form.Meet list → plain_derivation d ≡ meets (plain_derivations list)
Meet-derivation d list e = rw e (ap plain_derivation (sym (rolls-Meet list)) ∙ fold-roll-Derivation PlainDerivation PlainDerivations derivation_step derivations_step (Derivation-F.Meet list))

pub Left-derivation : (d : Derivation) (b : Box Derivation Global) → d ≡ form.Left b → plain_derivation d ≡ left (plain_derivation b.value)
Left-derivation d b e = rw e (ap plain_derivation (sym (rolls-Left b)) ∙ fold-roll-Derivation PlainDerivation PlainDerivations derivation_step derivations_step (Derivation-F.Left b))

pub Right-derivation : (d : Derivation) (b : Box Derivation Global) → d ≡ form.Right b → plain_derivation d ≡ right (plain_derivation b.value)
Right-derivation d b e = rw e (ap plain_derivation (sym (rolls-Right b)) ∙ fold-roll-Derivation PlainDerivation PlainDerivations derivation_step derivations_step (Derivation-F.Right b))

-- what stands below a node is less deep
pub alt_size : (d x : Derivation) (i : ℕ) (b : Box Derivation Global) → d ≡ form.Alt i b → x ≡ b.value → size-Derivation x < size-Derivation d
alt_size d x i b e f = rw (e, f) (first_of (search (arith, form.the_lemmas), grind (arith, form.the_lemmas)))

pub left_size : (d x : Derivation) (b : Box Derivation Global) → d ≡ form.Left b → x ≡ b.value → size-Derivation x < size-Derivation d
left_size d x b e f = rw (e, f) (first_of (search (arith, form.the_lemmas), grind (arith, form.the_lemmas)))

pub rule_size : (d : Derivation) (list : DerivationList) → d ≡ form.Rule list → size-DerivationList list < size-Derivation d
rule_size d list e = rw e (first_of (search (arith, form.the_lemmas), grind (arith, form.the_lemmas)))

-- a subsumption
pub sub_inner : (d x : Derivation) (T : Ty) (b : Box Derivation Global) (n w : ℕ) (G : List PlainType) (p : Tree) → d ≡ form.Sub T b → x ≡ b.value →
    judged (plain_derivation d) n G p ≡ stops w → w ≢ n → judged (plain_derivation x) (n + 1) G p ≡ stops w
sub_inner d x T b n w G p e f h a =
    ap (λ y. judged (plain_derivation y) (n + 1) G p) f
    ∙ sub-inner (plain_type T) (plain_derivation b.value) n w G p (sym (ap (λ D. judged D n G p) (Sub-derivation d T b e)) ∙ h) a

pub sub_so : (d x : Derivation) (T : Ty) (b : Box Derivation Global) (n : ℕ) (G : List PlainType) (p : Tree) (s : Stop) → d ≡ form.Sub T b → x ≡ b.value →
    judged_so (plain_derivation x) (n + 1) G p ≡ so.stops s → judged_so (plain_derivation d) n G p ≡ so.stops s
sub_so d x T b n G p s e f h =
    ap (λ D. judged_so D n G p) (Sub-derivation d T b e)
    ∙ sub-so (plain_type T) (plain_derivation b.value) n G p s (sym (ap (λ y. judged_so (plain_derivation y) (n + 1) G p) f) ∙ h)

-- a meet
pub meet_inner : (d : Derivation) (list : DerivationList) (n w k : ℕ) (G : List PlainType) (p : Tree) (Ps : List PlainPremise) → d ≡ form.Meet list →
    count (plain_derivations list) ≡ k → Ps ≡ replicate k (nothing, p) → judged (plain_derivation d) n G p ≡ stops w → w ≢ n →
    each_judged (plain_derivations list) (n + 1) G Ps [] ≡ one_stops w
meet_inner d list n w k G p Ps e c r h a =
    ap (λ Qs. each_judged (plain_derivations list) (n + 1) G Qs []) (r ∙ ap (λ m. replicate m (nothing, p)) (sym c))
    ∙ meets-inner (plain_derivations list) n w G p (sym (ap (λ D. judged D n G p) (Meet-derivation d list e)) ∙ h) a

pub meet_so : (d : Derivation) (list : DerivationList) (n w k : ℕ) (G : List PlainType) (p : Tree) (Ps : List PlainPremise) (s : Stop) → d ≡ form.Meet list →
    count (plain_derivations list) ≡ k → Ps ≡ replicate k (nothing, p) → judged (plain_derivation d) n G p ≡ stops w → w ≢ n →
    each_so (plain_derivations list) (n + 1) G Ps [] ≡ so.one_stops s → judged_so (plain_derivation d) n G p ≡ so.stops s
meet_so d list n w k G p Ps s e c r h a i =
    ap (λ D. judged_so D n G p) (Meet-derivation d list e)
    ∙ meets-so (plain_derivations list) n w G p s (sym (ap (λ D. judged D n G p) (Meet-derivation d list e)) ∙ h) a
    (sym (ap (λ Qs. each_so (plain_derivations list) (n + 1) G Qs []) (r ∙ ap (λ m. replicate m (nothing, p)) (sym c))) ∙ i)

-- the context of an alternative's body
body_context : (t u : TypeTable) (G H : List ℕ) (k : ℕ) (A : PlainType) → Extends t u → AreIn t G → shown u k ≡ A → H ≡ k ∷ G → all_shown u H ≡ A ∷ all_shown t G
body_context t u G H k A more a s g =
    ap (all_shown u) g ∙ (ap (λ As. shown u k ∷ As) (all_shown-kept G more a) ∙ ap (λ B. B ∷ all_shown t G) s)

pub alt_inner : (t u : TypeTable) (G H : List ℕ) (k : ℕ) (d x : Derivation) (i : ℕ) (b : Box Derivation Global) (p q : Tree) (A : PlainType) (n w : ℕ) →
    d ≡ form.Alt i b → x ≡ b.value → Some (A, q) ≡ alternative i p → Extends t u → AreIn t G → shown u k ≡ A → H ≡ k ∷ G →
    judged (plain_derivation d) n (all_shown t G) p ≡ stops w → judged (plain_derivation x) (n + 1) (all_shown u H) q ≡ stops w
alt_inner t u G H k d x i b p q A n w e f o more a s g h =
    ap (λ As. judged (plain_derivation x) (n + 1) As q) (body_context t u G H k A more a s g)
    ∙ (ap (λ y. judged (plain_derivation y) (n + 1) (A ∷ all_shown t G) q) f
    ∙ alt-inner i (plain_derivation b.value) n w (all_shown t G) p A q (sym o) (sym (ap (λ D. judged D n (all_shown t G) p) (Alt-derivation d i b e)) ∙ h))

pub alt_so : (t u : TypeTable) (G H : List ℕ) (k : ℕ) (d x : Derivation) (i : ℕ) (b : Box Derivation Global) (p q : Tree) (A : PlainType) (n : ℕ) (z : Stop) →
    d ≡ form.Alt i b → x ≡ b.value → Some (A, q) ≡ alternative i p → Extends t u → AreIn t G → shown u k ≡ A → H ≡ k ∷ G →
    judged_so (plain_derivation x) (n + 1) (all_shown u H) q ≡ so.stops z → judged_so (plain_derivation d) n (all_shown t G) p ≡ so.stops z
alt_so t u G H k d x i b p q A n z e f o more a s g h =
    ap (λ D. judged_so D n (all_shown t G) p) (Alt-derivation d i b e)
    ∙ alt-so i (plain_derivation b.value) n (all_shown t G) p A q z (sym o)
    (sym (ap (λ y. judged_so (plain_derivation y) (n + 1) (A ∷ all_shown t G) q) f)
    ∙ (sym (ap (λ As. judged_so (plain_derivation x) (n + 1) As q) (body_context t u G H k A more a s g)) ∙ h))

-- the operands of a merge
pub left_inner : (d x : Derivation) (b : Box Derivation Global) (n w : ℕ) (G : List PlainType) (p q r : Tree) (k : Kind) → d ≡ form.Left b → x ≡ b.value →
    Some (q, r, k) ≡ operands p → judged (plain_derivation d) n G p ≡ stops w → w ≢ n → judged (plain_derivation x) (n + 1) G q ≡ stops w
left_inner d x b n w G p q r k e f o h a =
    ap (λ y. judged (plain_derivation y) (n + 1) G q) f
    ∙ left-inner (plain_derivation b.value) n w G p q r k (sym o) (sym (ap (λ D. judged D n G p) (Left-derivation d b e)) ∙ h) a

pub left_so : (d x : Derivation) (b : Box Derivation Global) (n : ℕ) (G : List PlainType) (p q r : Tree) (k : Kind) (s : Stop) → d ≡ form.Left b → x ≡ b.value →
    Some (q, r, k) ≡ operands p → judged_so (plain_derivation x) (n + 1) G q ≡ so.stops s → judged_so (plain_derivation d) n G p ≡ so.stops s
left_so d x b n G p q r k s e f o h =
    ap (λ D. judged_so D n G p) (Left-derivation d b e)
    ∙ left-so (plain_derivation b.value) n G p q r k s (sym o) (sym (ap (λ y. judged_so (plain_derivation y) (n + 1) G q) f) ∙ h)

pub right_inner : (d x : Derivation) (b : Box Derivation Global) (n w : ℕ) (G : List PlainType) (p q r : Tree) (k : Kind) → d ≡ form.Right b → x ≡ b.value →
    Some (q, r, k) ≡ operands p → judged (plain_derivation d) n G p ≡ stops w → judged (plain_derivation x) (n + 1) G r ≡ stops w
right_inner d x b n w G p q r k e f o h =
    ap (λ y. judged (plain_derivation y) (n + 1) G r) f
    ∙ right-inner (plain_derivation b.value) n w G p q r k (sym o) (sym (ap (λ D. judged D n G p) (Right-derivation d b e)) ∙ h)

pub right_so : (d x : Derivation) (b : Box Derivation Global) (n : ℕ) (G : List PlainType) (p q r : Tree) (k : Kind) (s : Stop) → d ≡ form.Right b → x ≡ b.value →
    Some (q, r, k) ≡ operands p → judged_so (plain_derivation x) (n + 1) G r ≡ so.stops s → judged_so (plain_derivation d) n G p ≡ so.stops s
right_so d x b n G p q r k s e f o h =
    ap (λ D. judged_so D n G p) (Right-derivation d b e)
    ∙ right-so (plain_derivation b.value) n G p q r k s (sym o) (sym (ap (λ y. judged_so (plain_derivation y) (n + 1) G r) f) ∙ h)

-- a rule that has premises
pub rule_inner : (G : List PlainType) (d : Derivation) (list : DerivationList) (n w : ℕ) (p : Tree) (Ps : List PlainPremise) → d ≡ form.Rule list →
    Some Ps ≡ premises p → count (plain_derivations list) ≡ length Ps → judged (plain_derivation d) n G p ≡ stops w → w ≢ n →
    each_judged (plain_derivations list) (n + 1) G Ps [] ≡ one_stops w
rule_inner G d list n w p Ps e o l h a =
    rule-inner (plain_derivations list) n w G p Ps (sym o) l (sym (ap (λ D. judged D n G p) (Rule-derivation d list e)) ∙ h) a

pub rule_so : (G : List PlainType) (d : Derivation) (list : DerivationList) (n : ℕ) (p : Tree) (Ps : List PlainPremise) (s : Stop) → d ≡ form.Rule list →
    Some Ps ≡ premises p → count (plain_derivations list) ≡ length Ps → each_so (plain_derivations list) (n + 1) G Ps [] ≡ so.one_stops s →
    judged_so (plain_derivation d) n G p ≡ so.stops s
rule_so G d list n p Ps s e o l h =
    ap (λ D. judged_so D n G p) (Rule-derivation d list e) ∙ rule-so (plain_derivations list) n G p Ps s (sym o) l h

-- the next premise, and those after it
pub each_so_step : (items : List Derivation) (Ps : List Premise) (i n : ℕ) (x : Derivation) (P : Premise) (G As : List PlainType) →
    i < length items → x ≡ get_or items i x → i < length Ps → P ≡ get_or Ps i P →
    each_so (derivations_from (map plain_derivation (drop i items))) n G (map premise_shown (drop i Ps)) As
    ≡ so.then_others (judged_so (plain_derivation x) n (under (plain_binder P.binds) As G) (reads P.part.now))
    (λ A. each_so (derivations_from (map plain_derivation (drop (i + 1) items))) (n + nodes (plain_derivation x)) G (map premise_shown (drop (i + 1) Ps)) (As ++ A ∷ []))
each_so_step items Ps i n x P G As h e l f =
    ap (λ ds. each_so (derivations_from ds) n G (map premise_shown (drop i Ps)) As) (drop_item plain_derivation items i x h e)
    ∙ ap (λ Qs. each_so (derivations_from (plain_derivation x ∷ map plain_derivation (drop (i + 1) items))) n G Qs As) (drop_item premise_shown Ps i P l f)

-- the reason of the node itself
own_at : (d : Derivation) (D : PlainDerivation) (n : ℕ) (G : List PlainType) (p : Tree) (why : Reason) → plain_derivation d ≡ D →
    judged_so D n G p ≡ so.stops (stop_at n D G p why) → judged_so (plain_derivation d) n G p ≡ so.stops (stop_at n (plain_derivation d) G p why)
own_at d D n G p why e h = ap (λ X. judged_so X n G p) e ∙ (h ∙ ap (λ X. so.stops (stop_at n X G p why)) (sym e))

pub sub_own : (d x : Derivation) (T : Ty) (b : Box Derivation Global) (n : ℕ) (G : List PlainType) (p : Tree) (A : PlainType) → d ≡ form.Sub T b → x ≡ b.value →
    judged (plain_derivation x) (n + 1) G p ≡ concludes A → judged (plain_derivation d) n G p ≡ stops n →
    judged_so (plain_derivation d) n G p ≡ so.stops (stop_at n (plain_derivation d) G p (not_below A))
sub_own d x T b n G p A e f i h =
    let D : PlainDerivation = sub (plain_type T) (plain_derivation b.value) in
    own_at d D n G p (not_below A) (Sub-derivation d T b e)
    (sub-own (plain_type T) (plain_derivation b.value) n G p A (sym (ap (λ y. judged (plain_derivation y) (n + 1) G p) f) ∙ i)
    (sym (ap (λ X. judged X n G p) (Sub-derivation d T b e)) ∙ h))

two-or-more : (k : ℕ) → k < 2 → nat_le 2 k ≡ false
two-or-more zero h = refl
two-or-more (suc zero) h = refl
two-or-more (suc (suc k)) h = absurd (omega arith)

pub meet_own : (d : Derivation) (list : DerivationList) (n : ℕ) (G : List PlainType) (p : Tree) → d ≡ form.Meet list → count (plain_derivations list) < 2 →
    judged_so (plain_derivation d) n G p ≡ so.stops (stop_at n (plain_derivation d) G p few_parts)
meet_own d list n G p e l =
    own_at d (meets (plain_derivations list)) n G p few_parts (Meet-derivation d list e) (meets-own (plain_derivations list) n G p (two-or-more (count (plain_derivations list)) l))

pub alt_own : (d : Derivation) (i : ℕ) (b : Box Derivation Global) (n : ℕ) (G : List PlainType) (p : Tree) (why : Reason) → d ≡ form.Alt i b →
    None ≡ alternative i p → no_alternative_of p ≡ why → judged_so (plain_derivation d) n G p ≡ so.stops (stop_at n (plain_derivation d) G p why)
alt_own d i b n G p why e o w =
    own_at d (alt i (plain_derivation b.value)) n G p why (Alt-derivation d i b e)
    (alt-own i (plain_derivation b.value) n G p (sym o) ∙ ap (λ z. so.stops (stop_at n (alt i (plain_derivation b.value)) G p z)) w)

pub left_none : (d : Derivation) (b : Box Derivation Global) (n : ℕ) (G : List PlainType) (p : Tree) → d ≡ form.Left b → None ≡ operands p →
    judged_so (plain_derivation d) n G p ≡ so.stops (stop_at n (plain_derivation d) G p other_form)
left_none d b n G p e o = own_at d (left (plain_derivation b.value)) n G p other_form (Left-derivation d b e) (left-none (plain_derivation b.value) n G p (sym o))

pub left_own : (d x : Derivation) (b : Box Derivation Global) (n : ℕ) (G : List PlainType) (p q r : Tree) (k : Kind) (A : PlainType) → d ≡ form.Left b → x ≡ b.value →
    Some (q, r, k) ≡ operands p → judged (plain_derivation x) (n + 1) G q ≡ concludes A → judged (plain_derivation d) n G p ≡ stops n →
    judged_so (plain_derivation d) n G p ≡ so.stops (stop_at n (plain_derivation d) G p (taken_right A))
left_own d x b n G p q r k A e f o i h =
    own_at d (left (plain_derivation b.value)) n G p (taken_right A) (Left-derivation d b e)
    (left-own (plain_derivation b.value) n G p q r k A (sym o) (sym (ap (λ y. judged (plain_derivation y) (n + 1) G q) f) ∙ i)
    (sym (ap (λ X. judged X n G p) (Left-derivation d b e)) ∙ h))

pub right_own : (d : Derivation) (b : Box Derivation Global) (n : ℕ) (G : List PlainType) (p : Tree) → d ≡ form.Right b → None ≡ operands p →
    judged_so (plain_derivation d) n G p ≡ so.stops (stop_at n (plain_derivation d) G p other_form)
right_own d b n G p e o = own_at d (right (plain_derivation b.value)) n G p other_form (Right-derivation d b e) (right-own (plain_derivation b.value) n G p (sym o))

pub rule_none : (d : Derivation) (list : DerivationList) (n : ℕ) (G : List PlainType) (p : Tree) → d ≡ form.Rule list → None ≡ premises p →
    judged_so (plain_derivation d) n G p ≡ so.stops (stop_at n (plain_derivation d) G p other_form)
rule_none d list n G p e o = own_at d (rule (plain_derivations list)) n G p other_form (Rule-derivation d list e) (rule-none (plain_derivations list) n G p (sym o))

pub rule_count : (d : Derivation) (list : DerivationList) (n : ℕ) (G : List PlainType) (p : Tree) (Ps : List PlainPremise) → d ≡ form.Rule list → Some Ps ≡ premises p →
    count (plain_derivations list) ≢ length Ps → judged_so (plain_derivation d) n G p ≡ so.stops (stop_at n (plain_derivation d) G p other_count)
rule_count d list n G p Ps e o l =
    own_at d (rule (plain_derivations list)) n G p other_count (Rule-derivation d list e) (rule-count (plain_derivations list) n G p Ps (sym o) l)

pub rule_own : (G : List PlainType) (d : Derivation) (list : DerivationList) (n : ℕ) (p : Tree) (Ps : List PlainPremise) (As : List PlainType) →
    d ≡ form.Rule list → Some Ps ≡ premises p → count (plain_derivations list) ≡ length Ps →
    each_judged (plain_derivations list) (n + 1) G Ps [] ≡ all_conclude As → judged (plain_derivation d) n G p ≡ stops n →
    judged_so (plain_derivation d) n G p ≡ so.stops (stop_at n (plain_derivation d) G p (other_types As))
rule_own G d list n p Ps As e o l j h =
    own_at d (rule (plain_derivations list)) n G p (other_types As) (Rule-derivation d list e)
    (rule-own (plain_derivations list) n G p Ps As (sym o) l j (sym (ap (λ X. judged X n G p) (Rule-derivation d list e)) ∙ h))

-- a stop, from what it is made of
pub stop-made : (t u : TypeTable) (G : List ℕ) (s : Stopped) (n : ℕ) (D : PlainDerivation) (p : Tree) (w : Why) → Extends t u → AreIn t G →
    s.number ≡ n → plain_derivation s.node.now ≡ D → s.types.items ≡ G → reads s.phrase.now ≡ p → s.why ≡ w →
    stop_read u s ≡ stop_at n D (all_shown t G) p (why_read u w)
stop-made t u G s n D p w more i en ed eg ep ew =
    ap (λ x. stop_at x (plain_derivation s.node.now) (all_shown u s.types.items) (reads s.phrase.now) (why_read u s.why)) en
    ∙ (ap (λ x. stop_at n x (all_shown u s.types.items) (reads s.phrase.now) (why_read u s.why)) ed
    ∙ (ap (λ x. stop_at n D x (reads s.phrase.now) (why_read u s.why)) (ap (all_shown u) eg ∙ all_shown-kept G more i)
    ∙ (ap (λ x. stop_at n D (all_shown t G) x (why_read u s.why)) ep ∙ ap (λ x. stop_at n D (all_shown t G) p (why_read u x)) ew)))

-- the whole, with no variable in scope
pub accepted-whole : (d : PlainDerivation) (G : List PlainType) (p : Tree) (A : PlainType) → judged d 0 G p ≡ concludes A → G ≡ [] → same_type A (atom Comm) ≡ true → None ≡ reason_of d p
accepted-whole d G p A e g h =
    sym (ap (refused_whole d p) (so-concludes d 0 [] p A (sym (ap (λ As. judged d 0 As p) g) ∙ e))
    ∙ ap (λ b. if b then None else Some (stop_at 0 d [] p (no_command A))) h)

pub refused-as-whole : (d : PlainDerivation) (G : List PlainType) (p : Tree) (A : PlainType) → judged d 0 G p ≡ concludes A → G ≡ [] → same_type A (atom Comm) ≡ false →
    Some (stop_at 0 d G p (no_command A)) ≡ reason_of d p
refused-as-whole d G p A e g h =
    ap (λ As. Some (stop_at 0 d As p (no_command A))) g
    ∙ sym (ap (refused_whole d p) (so-concludes d 0 [] p A (sym (ap (λ As. judged d 0 As p) g) ∙ e))
    ∙ ap (λ b. if b then None else Some (stop_at 0 d [] p (no_command A))) h)

pub refused-inside : (d : PlainDerivation) (G : List PlainType) (p : Tree) (s : Stop) → G ≡ [] → judged_so d 0 G p ≡ so.stops s → Some s ≡ reason_of d p
refused-inside d G p s g e = sym (ap (refused_whole d p) (sym (ap (λ As. judged_so d 0 As p) g) ∙ e))

pub ruleset own_rules = (sub_own, meet_own, alt_own, left_none, left_own, right_own, rule_none, rule_count, rule_own)
