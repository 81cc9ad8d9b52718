-- Why the joined text is refused, and what units are that aren't linked for it.
use Rattle.std.proofs.Common.{◌≡◌, ◌⊎◌, inl, inr, ◌≤◌, ◌<◌, List, length, map, sym, ap, ◌∙◌, subst}
use Rattle.std.specs.Prelude.{All, Option, Some, None, Result, Ok, Err, IfErr}
use Rattle.fy_base.specs.Outside.{Bytes}
use Rattle.fy_phrase.specs.Tree.{Tree}
use Rattle.fy_expand.specs.Judged.{IsJudgedFrom}
use Rattle.fy_phrase.specs.Reads.{reads}
use Rattle.fy_derive.specs.Derivations.{nodes, nesting, most_nodes, most_nesting}
use Rattle.fy_derive.specs.Judging.{conclusion_of, refusal}
use Rattle.fy_derive.specs.Limits.{deepest_type, most_type_nesting}
use Rattle.fy_derive.specs.Reading.{plain_derivation}
use Rattle.fy_front.specs.Checked.{IfRefused, IsUnjudgedFrom}
use Rattle.fy_front.specs.declared.error.FrontError.{FrontError}
use Rattle.fy_front.specs.declared.error.FrontError.TheVariants as front
use Rattle.fy_front.specs.declared.refusal.Refusal.TheVariants.{Length}
use Rattle.fy_front.proofs.Checking.{unjudged_long}
use Rattle.fy_link.specs.declared.error.LinkError.{LinkError}
use Rattle.fy_link.specs.declared.error.LinkError.TheVariants as refused
use Rattle.fy_link.specs.declared.linking.Linked.{Linked}
use Rattle.fy_link.specs.declared.unit.Unit.{Unit as UnitValue}
use Rattle.fy_link.specs.Answers.{link_of_text}
use Rattle.fy_link.specs.Composed.{composed_derivation}
use Rattle.fy_link.specs.Joined.{IsJoinedText}
use Rattle.fy_link.specs.Links.{IsLinked, IsUnlinked, IsTooLarge, link_fault, sources_of}
use Rattle.fy_link.specs.Read.{source_in}
use Rattle.fy_link.specs.Units.{IsUnit, plain_unit}
use Rattle.fy_link.proofs.LinkLemmas.{units_linked}
use Rattle.fy_link.proofs.SaidLemmas.{said-units, said-sources}

-- the exit of a `?`
pub link-handed : {X : Type 0} (P : LinkError → Type 0) (r : Result X LinkError) (x e : LinkError) → r ≡ Err x → x ≡ e → P e → IfErr r P
link-handed P r x e h k p = subst (λ s. IfErr s P) (sym h) (subst P (sym k) p)

-- ---- units

said-fault : (values : List UnitValue) (o : Option LinkError) → link_fault (map source_in values) ≡ o → link_fault (sources_of (map plain_unit values)) ≡ o
said-fault values o e = ap link_fault (said-sources values) ∙ e

pub units-unlinked : (names : List Bytes) (values : List UnitValue) (e : LinkError) → All (IsUnit names) values →
    (e ≡ refused.OutOfMemory) ⊎ (link_fault (map source_in values) ≡ Some e) → IsUnlinked names values e
units-unlinked names values e h (inl k) = subst (IsUnlinked names values) (sym k) IsUnlinked.of_memory
units-unlinked names values e h (inr k) = IsUnlinked.of_units (map plain_unit values) (said-units names values h) (said-fault values (Some e) k)

pub text-unlinked : (names : List Bytes) (values : List UnitValue) (text : Bytes) (e : FrontError) → All (IsUnit names) values →
    link_fault (map source_in values) ≡ None → IsJoinedText names values text → IfRefused (IsUnjudgedFrom names text) e → IsUnlinked names values (link_of_text e)
text-unlinked names values text (front.Refused why) h f t r = IsUnlinked.of_text (map plain_unit values) (said-units names values h) (said-fault values None f) t r
text-unlinked names values text front.OutOfMemory h f t r = IsUnlinked.of_memory

pub long-unlinked : (names : List Bytes) (values : List UnitValue) (text : Bytes) → All (IsUnit names) values →
    link_fault (map source_in values) ≡ None → IsJoinedText names values text → 1048576 < length text → IsUnlinked names values (refused.Text Length)
long-unlinked names values text h f t l = IsUnlinked.of_text (map plain_unit values) (said-units names values h) (said-fault values None f) t (unjudged_long text l)

pub large-unlinked : (names : List Bytes) (values : List UnitValue) (text : Bytes) (p : Tree) (e : LinkError) → All (IsUnit names) values →
    link_fault (map source_in values) ≡ None → IsJoinedText names values text → IsJudgedFrom names text (Ok p) →
    (e ≡ refused.OutOfMemory) ⊎ ((e ≡ refused.TooLarge) × IsTooLarge (map plain_unit values)) → IsUnlinked names values e
large-unlinked names values text p e h f t j (inl k) = subst (IsUnlinked names values) (sym k) IsUnlinked.of_memory
large-unlinked names values text p e h f t j (inr k) =
    subst (IsUnlinked names values) (sym k.0) (IsUnlinked.of_size (map plain_unit values) (said-units names values h) (said-fault values None f) t j k.1)

-- ---- the units linked

pub said-linked : (names : List Bytes) (values : List UnitValue) (linked : Linked) → All (IsUnit names) values →
    link_fault (map source_in values) ≡ None → IsJoinedText names values linked.text → IsJudgedFrom names linked.text (Ok (reads linked.phrase)) →
    plain_derivation linked.derivation ≡ composed_derivation (map plain_unit values) → nodes (plain_derivation linked.derivation) ≤ most_nodes →
    nesting (plain_derivation linked.derivation) ≤ most_nesting → IsLinked names values linked
said-linked names values linked h f t j d few flat =
    let units = map plain_unit values in
    let are = said-units names values h in
    let linkable = said-fault values None f in
    let accepted = units_linked.accepted names values units linked.text (reads linked.phrase) are linkable t j in
    record {
      units = units;
      are = are;
      linkable = linkable;
      text = t;
      phrase = j;
      derivation = d;
      accepted = ap (λ x. refusal (conclusion_of (reads linked.phrase) x)) d ∙ ap refusal accepted;
      few = record { few = few; shallow = flat; types = subst (λ x. deepest_type x ≤ most_type_nesting) (sym d) (units_linked.shallow names values units are) };
    }
