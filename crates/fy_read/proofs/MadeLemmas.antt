-- What derivations and nodes that are made are read as.
use Rattle.std.proofs.Common.{◌≡◌, ℕ, ◌<◌, ◌≤◌, Bool, true, false, if◌then◌else◌, ap, sym, ◌∙◌, arith}
use Rattle.std.proofs.lemmas.Bool.{lt-ltb, le-ltb}
use Rattle.std.specs.Prelude.{nat_lt, Option, Result, Ok, Err, IfErr, OnOk}
use Rattle.fy_derive.specs.declared.derivation.Derivation.{Ns, Meet, Rule, Derivation-F, fold-roll-Derivation}
use Rattle.fy_derive.specs.declared.derivation.Derivation.TheVariants.{rolls-Ns, rolls-Meet, rolls-Rule}
use Rattle.fy_derive.specs.declared.derivation.DerivationList.{DerivationList}
use Rattle.fy_derive.specs.Derivations.{PlainDerivation, PlainDerivations, by_ns, meets, rule, no_derivations, count}
use Rattle.fy_read.specs.Opened.{in_meet, in_rule, added, PlainGiven, is_whole, is_waiting, filled, PlainNodes, given}
use Rattle.fy_read.specs.declared.stop.Stop.{Stop}
use Rattle.fy_read.specs.declared.stop.Stop.TheVariants.{Misfit, TooLarge, TooDeep, OutOfMemory}
use Rattle.fy_read.specs.OpenLevels.{PassesIf}
use Rattle.fy_read.specs.Readers.{IsMisfit}
use Rattle.fy_derive.specs.Reading.{plain_derivation, plain_derivations, derivation_step, derivations_step}

pub plain-ns : plain_derivation Ns ≡ by_ns
plain-ns = ap plain_derivation (sym rolls-Ns) ∙ fold-roll-Derivation PlainDerivation PlainDerivations derivation_step derivations_step Derivation-F.Ns

pub plain-rule : (l : DerivationList) → plain_derivations l ≡ no_derivations → plain_derivation (Rule l) ≡ rule no_derivations
plain-rule l e =
    ap plain_derivation (sym (rolls-Rule l))
    ∙ (fold-roll-Derivation PlainDerivation PlainDerivations derivation_step derivations_step (Derivation-F.Rule l) ∙ ap rule e)

-- given to the same nodes
pub given_same : {m n : PlainNodes} {e : PlainDerivation} (k : PlainNodes) (d : PlainDerivation) → m ≡ given k.waiting d → k ≡ n → d ≡ e →
    m ≡ given n.waiting e
given_same {n = n} k d made same is = made ∙ (ap (λ (x : PlainNodes). given x.waiting d) same ∙ ap (given n.waiting) is)

-- a limit that is passed is no misfit, nor is memory that is wanting
passes_fits : {A : Type 0} (o : Option A) (P : Type 0) (e : Stop) → PassesIf P e → IsMisfit o e
passes_fits o P Misfit h = absurd h
passes_fits o P TooLarge h = λ is. absurd cc
passes_fits o P TooDeep h = λ is. absurd cc
passes_fits o P OutOfMemory h = λ is. absurd cc

pub fits_after : {A T : Type 0} (o : Option A) (P : Type 0) (r : Result T Stop) → IfErr r (PassesIf P) → IfErr r (IsMisfit o)
fits_after o P (Ok x) h = tt
fits_after o P (Err e) h = passes_fits o P e h

memory_fits : {A : Type 0} (o : Option A) (e : Stop) → e ≡ OutOfMemory → IsMisfit o e
memory_fits o e h = λ is. absurd cc

pub memory_after : {A T : Type 0} (o : Option A) (r : Result T Stop) → IfErr r (λ e. e ≡ OutOfMemory) → IfErr r (IsMisfit o)
memory_after o (Ok x) h = tt
memory_after o (Err e) h = memory_fits o e h

pub no_misfit_after : {A T : Type 0} (o : Option A) (r : Result T Stop) → IfErr r (λ e. e ≡ Misfit → ⊥) → IfErr r (IsMisfit o)
no_misfit_after o (Ok x) h = tt
no_misfit_after o (Err e) h = λ is. absurd (h is)

pub memory_no_misfit : {T : Type 0} (r : Result T Stop) → IfErr r (λ e. e ≡ OutOfMemory) → IfErr r (λ e. e ≡ Misfit → ⊥)
memory_no_misfit (Ok x) h = tt
memory_no_misfit (Err e) h = λ is. absurd cc

-- the same of an equal option
pub misfit_same : {A T : Type 0} (o p : Option A) (r : Result T Stop) → p ≡ o → IfErr r (IsMisfit o) → IfErr r (IsMisfit p)
misfit_same o p (Ok x) e h = tt
misfit_same o p (Err d) e h = λ is. e ∙ h is

pub on_ok_both : {T E P Q R : Type 0} (r : Result T E) → (P → Q → R) → OnOk r P → OnOk r Q → OnOk r R
on_ok_both (Ok x) f p q = f p q
on_ok_both (Err e) f p q = tt

-- a list of derivations, made a node
pub plain-meet : (l : DerivationList) → plain_derivation (Meet l) ≡ meets (plain_derivations l)
plain-meet l =
    ap plain_derivation (sym (rolls-Meet l)) ∙ fold-roll-Derivation PlainDerivation PlainDerivations derivation_step derivations_step
    (Derivation-F.Meet l)

pub plain-rule_of : (l : DerivationList) → plain_derivation (Rule l) ≡ rule (plain_derivations l)
plain-rule_of l =
    ap plain_derivation (sym (rolls-Rule l)) ∙ fold-roll-Derivation PlainDerivation PlainDerivations derivation_step derivations_step
    (Derivation-F.Rule l)

-- a node that is filled
chosen_given : (b c : Bool) (x y : PlainGiven) → b ≡ c → (if c then x else y) ≡ (if b then x else y)
chosen_given b c x y e = ap (λ t. if t then x else y) (sym e)

pub meet_waits : (n : ℕ) (ds es : PlainDerivations) (d : PlainDerivation) (k : ℕ) → es ≡ added ds d → k ≡ count es → k < n →
    is_waiting (in_meet n es) ≡ filled (in_meet n ds) d
meet_waits n ds es d k more many less =
    ap (λ xs. is_waiting (in_meet n xs)) more
    ∙ chosen_given (nat_lt (count (added ds d)) n) true _ (is_whole (meets (added ds d)))
    (lt-ltb (count (added ds d)) n (omega (arith, less, many, ap count more)))

pub meet_whole : (n : ℕ) (ds es : PlainDerivations) (d e : PlainDerivation) (k : ℕ) → e ≡ meets es → es ≡ added ds d → k ≡ count es → n ≤ k →
    is_whole e ≡ filled (in_meet n ds) d
meet_whole n ds es d e k is more many enough =
    ap is_whole (is ∙ ap meets more)
    ∙ chosen_given (nat_lt (count (added ds d)) n) false (is_waiting (in_meet n (added ds d))) _
    (le-ltb (count (added ds d)) n (omega (arith, enough, many, ap count more)))

pub rule_waits : (n : ℕ) (ds es : PlainDerivations) (d : PlainDerivation) (k : ℕ) → es ≡ added ds d → k ≡ count es → k < n →
    is_waiting (in_rule n es) ≡ filled (in_rule n ds) d
rule_waits n ds es d k more many less =
    ap (λ xs. is_waiting (in_rule n xs)) more
    ∙ chosen_given (nat_lt (count (added ds d)) n) true _ (is_whole (rule (added ds d)))
    (lt-ltb (count (added ds d)) n (omega (arith, less, many, ap count more)))

pub rule_whole : (n : ℕ) (ds es : PlainDerivations) (d e : PlainDerivation) (k : ℕ) → e ≡ rule es → es ≡ added ds d → k ≡ count es → n ≤ k →
    is_whole e ≡ filled (in_rule n ds) d
rule_whole n ds es d e k is more many enough =
    ap is_whole (is ∙ ap rule more)
    ∙ chosen_given (nat_lt (count (added ds d)) n) false (is_waiting (in_rule n (added ds d))) _
    (le-ltb (count (added ds d)) n (omega (arith, enough, many, ap count more)))
