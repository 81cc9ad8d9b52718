-- Steps of judging.
use Rattle.std.proofs.Common.{ℕ, zero, suc, ◌+◌, ◌<◌, ◌≤◌, ◌≡◌, ◌≢◌, List, [], ◌∷◌, length, get_or, map, Some, None, refl, sym, ap, ◌∙◌, arith, eq-eqb, cond}
use Rattle.fy_types.specs.declared.types.Ty.{Ty}
use Rattle.fy_types.specs.Types.{PlainType}
use Rattle.fy_types.specs.Reading.{plain_type, types_from}
use Rattle.fy_phrase.specs.Tree.{Tree}
use Rattle.fy_derive.specs.Derivations.{PlainDerivations, rule, count}
use Rattle.fy_derive.specs.Rules.{Premise, premises, conclusion}
use Rattle.fy_derive.specs.Judging.{member, stops, AllJudged, from_premises, if_form, if_count, judged, each_judged}
use Rattle.fy_derive.proofs.RuleLemmas.{eqb_apart}

pub member-within : (xs : List Ty) (i : ℕ) (x : Ty) → i < length xs → x ≡ get_or xs i x → member (types_from (map plain_type xs)) i ≡ Some (plain_type x)
member-within [] i x h e = absurd (omega arith)
member-within (y ∷ xs) zero x h e = ap (λ z. Some (plain_type z)) (sym e)
member-within (y ∷ xs) (suc i) x h e = member-within xs i x (omega arith) e

pub member-past : (xs : List Ty) (i : ℕ) → length xs ≤ i → member (types_from (map plain_type xs)) i ≡ None
member-past [] i h = refl
member-past (y ∷ xs) zero h = absurd (omega arith)
member-past (y ∷ xs) (suc i) h = member-past xs i (omega arith)

-- a rule with as many premises as its form asks
pub rule_judged : (ds : PlainDerivations) (n : ℕ) (G : List PlainType) (p : Tree) (Ps : List Premise) (j : AllJudged) →
    premises p ≡ Some Ps → count ds ≡ length Ps → each_judged ds (n + 1) G Ps [] ≡ j →
    judged (rule ds) n G p ≡ from_premises n j (conclusion G p)
rule_judged ds n G p Ps j e l h =
    ap (λ o. if_form n o (λ Qs. if_count n (count ds) Qs (from_premises n (each_judged ds (n + 1) G Qs []) (conclusion G p)))) e
    ∙ (ap (λ b. cond b (from_premises n (each_judged ds (n + 1) G Ps []) (conclusion G p)) (stops n)) (eq-eqb (count ds) (length Ps) l)
    ∙ ap (λ k. from_premises n k (conclusion G p)) h)

pub rule_unfit : (ds : PlainDerivations) (n : ℕ) (G : List PlainType) (p : Tree) (Ps : List Premise) →
    premises p ≡ Some Ps → count ds ≢ length Ps → judged (rule ds) n G p ≡ stops n
rule_unfit ds n G p Ps e l =
    ap (λ o. if_form n o (λ Qs. if_count n (count ds) Qs (from_premises n (each_judged ds (n + 1) G Qs []) (conclusion G p)))) e
    ∙ ap (λ b. cond b (from_premises n (each_judged ds (n + 1) G Ps []) (conclusion G p)) (stops n)) (eqb_apart (count ds) (length Ps) (λ f. l (sym f)))
